use Rattle.std.proofs.Common.{◌≡◌}
use Rattle.std.specs.Io.KnownBytes.{Keeps}
use Rattle.calc_io.proofs.edge.write_some.Given as goal

abbrev pub invariant-writes : goal.invariant-writes
invariant-writes g l = Keeps (g.W.Write.contents l.initial.writer) (g.W.Write.contents l.writer) × (l.faults ≡ l.initial.faults)
