use Rattle.std.proofs.Common.{◌≡◌, ℕ, ◌-◌, ◌≤◌, ◌<◌, get_or}
use Rattle.value_column.specs.declared.lane.Tag.TheVariants as tag
use Rattle.value_column.proofs.lanes.Lanes.run_end.Given as goal

abbrev pub invariant-loop-row : goal.invariant-loop-row
invariant-loop-row l = record {
  some : l.first < l.row;
  within : l.row ≤ l.end;
  tags : (k : ℕ) → l.first ≤ k → k < l.row → get_or l.self.tags.items k tag.Blank ≡ get_or l.self.tags.items l.first tag.Blank;
}

abbrev pub decreases-loop-row : goal.decreases-loop-row
decreases-loop-row l = l.end - l.row
