use Rattle.std.proofs.Common.{sym, subst}
use Rattle.listener_hub.specs.Known.{Known}
use Rattle.listener_hub.specs.Moves.{KeepsAll, insertion}
use Rattle.registration_slab.specs.Slab.{areas_of}
use Rattle.listener_hub.proofs.hub.Hub.insert_rows.Goals as goal

pub move_rows-done-requires-clause-stays : goal.move_rows-done-requires-clause-stays
move_rows-done-requires-clause-stays c = subst (λ (z : Known). KeepsAll (insertion c.args.sheet c.args.place c.args.count) (areas_of z.registrations)) (sym c.self.view_is) c.requires.stays
