use Rattle.std.proofs.Common.{◌++◌, List, sym, ap, ◌∙◌}
use Rattle.std.specs.Prelude.{option_to_list}
use Rattle.calc_model.specs.Ears.{ReadArea}
use Rattle.ears.specs.RowEdits.{ear_after}
use Rattle.listener_hub.proofs.Wholes.{filter_more}
use Rattle.listener_hub.proofs.row_edits.ears_after.Goals as goal

pub loop-ear-preserved : goal.loop-ear-preserved
loop-ear-preserved c =
    c.in_ok-push_after.ensures
    ∙ ap (λ (xs : List ReadArea). xs ++ option_to_list (ear_after c.args.edit.now c.ear-item.result)) c.loop-ear.invariant
    ∙ sym (filter_more (ear_after c.args.edit.now) c.args.ears.now c.loop-ear.ear-index c.ear-item.result c.loop-ear-test.true c.ear-item.is)
