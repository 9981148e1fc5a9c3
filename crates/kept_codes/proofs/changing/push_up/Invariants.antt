use Rattle.std.proofs.Common.{◌≤◌, ◌-◌}
use Rattle.kept_codes.specs.Gathered.{Gathers, InRows}
use Rattle.kept_codes.proofs.changing.push_up.Given as goal

abbrev pub invariant-loop-row : goal.invariant-loop-row
invariant-loop-row l =
    record {
      from : l.fn.first ≤ l.row;
      to : l.row ≤ l.fn.behind;
      gathers : Gathers l.fn.codes l.fn.change (InRows l.fn.number l.row l.fn.behind l.fn.code) l.fn.out.items l.out.items;
    }

abbrev pub decreases-loop-row : goal.decreases-loop-row
decreases-loop-row l = l.row - l.first
