use Rattle.std.proofs.Common.{◌≡◌}
use Rattle.std.specs.Io.KnownBytes.{Keeps}
use Rattle.calc_io.proofs.edge.read_some.Given as goal

abbrev pub invariant-reads : goal.invariant-reads
invariant-reads g l = Keeps (g.R.Read.remaining l.initial.reader) (g.R.Read.remaining l.reader) × (l.faults ≡ l.initial.faults)
