use Rattle.std.proofs.Common.{take}
use Rattle.kept_codes.specs.Gathered.{Gathers, InGroups}
use Rattle.kept_codes.proofs.changing.push_groups.Given as goal

abbrev pub invariant-loop-group : goal.invariant-loop-group
invariant-loop-group l = Gathers l.fn.codes l.fn.change (InGroups l.fn.number (take l.group-index l.fn.groups)) l.fn.out.items l.out.items
