use Rattle.std.proofs.Common.{◌≡◌, ◌||◌, Bool, true, false, get_or, take, refl, sym, ap, ◌∙◌}
use Rattle.std.specs.List.{list_any}
use Rattle.std.proofs.lemmas.List.Folds.{list_any_more}
use Rattle.calc_model.specs.Ears.{ReadArea}
use Rattle.run_unions.specs.Unions.{is_in}
use Rattle.listener_hub.specs.Hits.{is_hit}
use Rattle.listener_hub.proofs.readers.push_hits.Goals as goal

or_assoc : (a b c : Bool) → ((a || b) || c) ≡ (a || (b || c))
or_assoc true b c = refl
or_assoc false b c = refl

pub loop-ear-preserved : goal.loop-ear-preserved
loop-ear-preserved c q =
    let hit : ReadArea → Bool = is_hit c.args.run.now c.args.area.now q in
    let old : Bool = list_any (is_in q) c.args.hits.now.items in
    let before : Bool = list_any hit (take c.loop-ear.ear-index c.args.ears.now) in
    c.in_ok-push_hit.ensures q
    ∙ ap (λ b. b || hit c.ear-item.result) (c.loop-ear.invariant q)
    ∙ ap (λ b. (old || before) || b) (ap hit c.ear-item.is)
    ∙ or_assoc old before (hit (get_or c.args.ears.now c.loop-ear.ear-index c.ear-item.result))
    ∙ ap (λ b. old || b) (sym (list_any_more hit c.args.ears.now c.loop-ear.ear-index c.ear-item.result c.loop-ear-test.true))
