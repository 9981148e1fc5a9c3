use Rattle.std.proofs.Common.{sym, subst, ℕ}
use Rattle.listener_hub.specs.Moves.{StaysAt}
use Rattle.registration_slab.specs.Slab.{Registrations, at}
use Rattle.listener_hub.proofs.Prefixes.{stay_at}
use Rattle.listener_hub.proofs.row_edits.move_rows.Goals as goal

pub moved_registrations-requires-clause-stays : goal.moved_registrations-requires-clause-stays
moved_registrations-requires-clause-stays c =
    subst (λ (rs : Registrations). (i : ℕ) → StaysAt c.args.edit.now (at rs i)) (sym c.deref.ensures.value)
    (stay_at c.args.edit.now c.args.slab.now.registrations.items c.requires.slab.apart c.requires.stays)
