use Rattle.std.proofs.Common.{◌≡◌, ◌&&◌, ◌||◌, ap, subst, ◌∙◌}
use Rattle.std.specs.List.{list_any}
use Rattle.area_listeners.specs.declared.gathering.Window.{Window}
use Rattle.area_listeners.specs.Pairs.{has_id}
use Rattle.area_listeners.specs.Spots.{IsPlaced, is_between, is_met, is_met_in, window_of}
use Rattle.area_listeners.proofs.Placed.{any_placed, met_between}
use Rattle.area_listeners.proofs.gathering.push_window.Goals as goal

pub returns : goal.returns
returns c i =
    let class = c.args.window.now.class in
    let area = c.args.area.now in
    let window = window_of class area in
    subst (λ (w : Window). has_id c.push_columns.new.out.items i ≡ (has_id c.args.out.now.items i || list_any (λ s. is_between w w.left w.right s && is_met area i s) c.args.spots.now.keys)) c.requires.window (c.in_ok-push_columns.ensures i)
    ∙ ap (λ b. has_id c.args.out.now.items i || b)
    (any_placed IsPlaced (λ s. is_between window window.left window.right s && is_met area i s) (is_met_in class area i) (met_between class area i) c.args.spots.now.keys c.requires.placed)
