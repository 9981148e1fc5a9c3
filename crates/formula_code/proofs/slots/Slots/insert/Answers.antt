use Rattle.std.proofs.Common.{subst, sym}
use Rattle.formula_code.specs.Slots.{AreSlots}
use Rattle.formula_code.proofs.SlotLemmas.{slot_taken}
use Rattle.formula_code.proofs.slots.Slots.insert.Goals as goal

pub invariant_of-self : goal.invariant_of-self
invariant_of-self c =
    slot_taken c.self.inside.codes.items c.self.inside.free.items c.pop.new.self.items c.in-Some.number _ c.args.code
    (subst (AreSlots c.self.inside.codes.items c.self.inside.free.items) (sym c.pop.ensures.capacity) c.self.invariant)
    c.in-Some.ensures.items
