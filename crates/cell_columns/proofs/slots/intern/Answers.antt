use Rattle.std.proofs.Common.{subst}
use Rattle.std.proofs.lemmas.Result.{IfOk-weaker}
use Rattle.calc_model.specs.declared.content.Content.TheVariants.{Formula}
use Rattle.block_column.specs.declared.slot.Slot.TheVariants as slot
use Rattle.formula_code.specs.Codes.{IsInterned}
use Rattle.cell_columns.specs.Taken.{IsSlotOf}
use Rattle.cell_columns.proofs.Uses.{formula_slot}
use Rattle.cell_columns.proofs.slots.intern.Goals as goal

pub returns-clause-slot : goal.returns-clause-slot
returns-clause-slot c =
    let old = c.args.codes.now in
    let new = c.intern.new.self in
    IfOk-weaker c.intern.result (IsInterned old new c.args.home c.tree.result.now) (λ id. IsSlotOf old new c.args.home (Formula c.args.formula.now) (slot.Formula id))
    (λ id interned. formula_slot old new c.args.home c.args.formula.now id (subst (λ t. IsInterned old new c.args.home t id) c.tree.ensures.value interned) c.tree.ensures.formed)
    c.intern.ensures.interned
