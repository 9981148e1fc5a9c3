use Rattle.std.proofs.Common.{subst}
use Rattle.std.specs.List.{All}
use Rattle.std.proofs.lemmas.List.{take_all}
use Rattle.calc_model.specs.Ears.{ReadArea}
use Rattle.std.specs.Prelude.{List}
use Rattle.ears.specs.RowEdits.{GoTogether}
use Rattle.registration_slab.specs.Slab.{steps_of}
use Rattle.listener_hub.proofs.Wholes.{whole_more}
use Rattle.listener_hub.proofs.row_edits.whole_of.Goals as goal

pub loop-ear-preserved : goal.loop-ear-preserved
loop-ear-preserved c =
    whole_more c.args.edit.now c.args.run.now c.args.ears.now c.loop-ear.ear-index (steps_of c.args.run.now) c.loop-ear.whole c.whole_steps.result c.min-whole.result c.ear-item.result
    c.min-whole.ensures c.loop-ear-test.true c.ear-item.is c.loop-ear.invariant c.whole_steps.ensures.together

pub returns-clause-ears : goal.returns-clause-ears
returns-clause-ears c =
    subst (λ (xs : List ReadArea). All (λ e. GoTogether c.args.edit.now e c.loop-ear.whole) xs) (take_all c.loop-ear.ear-index c.args.ears.now c.loop-ear-test.false) c.loop-ear.invariant.2
