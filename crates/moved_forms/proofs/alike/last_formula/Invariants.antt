use Rattle.std.proofs.Common.{◌≡◌, ◌≤◌, ◌<◌, ◌+◌, ◌-◌}
use Rattle.moved_forms.specs.Alike.{in_row, moved_form}
use Rattle.moved_forms.proofs.alike.last_formula.Given as goal

-- the lower row is one to which the form is kept
abbrev pub invariant-loop-low : goal.invariant-loop-low
invariant-loop-low l = record {
  from : l.fn.first.row ≤ l.low;
  order : l.low < l.high;
  to : l.high ≤ l.fn.last + 1;
  alike : moved_form l.fn.from l.fn.formula (in_row l.fn.first l.low) ≡ moved_form l.fn.from l.fn.formula l.fn.first;
}

abbrev pub decreases-loop-low : goal.decreases-loop-low
decreases-loop-low l = l.high - l.low
