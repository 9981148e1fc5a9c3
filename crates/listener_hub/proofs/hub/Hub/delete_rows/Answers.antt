use Rattle.listener_hub.proofs.Prefixes.{deletion_keeps}
use Rattle.listener_hub.proofs.hub.Hub.delete_rows.Goals as goal

pub move_rows-done-requires-clause-stays : goal.move_rows-done-requires-clause-stays
move_rows-done-requires-clause-stays c = deletion_keeps c.self.inside.slab.registrations.items c.self.inside.slab.ears c.self.inside.slab.homes c.self.invariant c.args.sheet c.args.place c.args.count
