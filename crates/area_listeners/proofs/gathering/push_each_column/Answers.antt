use Rattle.std.proofs.Common.{◌≡◌, ◌<◌, ◌&&◌, ◌||◌, nat_lt, sym, ap, subst, ◌∙◌, arith}
use Rattle.std.specs.List.{list_any}
use Rattle.area_listeners.specs.declared.gathering.Window.{Window}
use Rattle.area_listeners.specs.Pairs.{has_id}
use Rattle.area_listeners.specs.Spots.{is_between, is_met, is_met_in}
use Rattle.area_listeners.proofs.Steps.{all_columns, next_column, no_column}
use Rattle.area_listeners.proofs.gathering.push_each_column.Goals as goal

pub loop-column-init : goal.loop-column-init
loop-column-init c i =
    no_column c.args.window.now.class c.args.area.now i c.args.spots.now.keys c.requires.placed (has_id c.args.out.now.items i)
    ∙ ap (λ (w : Window). has_id c.args.out.now.items i || list_any (λ s. nat_lt s.column w.left && is_met_in c.args.window.now.class c.args.area.now i s) c.args.spots.now.keys) (sym c.requires.window)

pub loop-column-preserved : goal.loop-column-preserved
loop-column-preserved c i =
    next_column c.args.window.now.class c.args.area.now i c.args.spots.now.keys c.requires.placed c.loop-column.column (has_id c.args.out.now.items i) (has_id c.loop-column.out.items i) _
    (subst (λ (w : Window). has_id c.push_columns.new.out.items i ≡ (has_id c.loop-column.out.items i || list_any (λ s. is_between w c.loop-column.column c.loop-column.column s && is_met c.args.area.now i s) c.args.spots.now.keys)) c.requires.window (c.in_ok-push_columns.ensures i))
    (c.loop-column.invariant i)

pub returns : goal.returns
returns c i =
    all_columns c.args.window.now.class c.args.area.now i c.args.spots.now.keys c.requires.placed c.loop-column.column
    (subst (λ (w : Window). w.right < c.loop-column.column) c.requires.window (omega (arith, c.loop-column-test.false, c.requires.columns, c.loop-column.auto.column)))
    (has_id c.args.out.now.items i) _ (c.loop-column.invariant i)
