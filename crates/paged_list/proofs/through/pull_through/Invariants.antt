use Rattle.std.proofs.Common.{◌-◌, ◌≡◌, ◌∷◌, ◌++◌, ◌≤◌, take, drop}
use Rattle.paged_list.specs.Pages.{KeepsShape, flat}
use Rattle.paged_list.proofs.through.pull_through.Given as goal

abbrev pub invariant-loop-k : goal.invariant-loop-k
invariant-loop-k g l = record {
  items : flat (take l.k l.pages) ++ l.item ∷ flat (drop l.k l.pages) ≡ flat l.fn.pages;
  shape : KeepsShape l.initial.pages l.pages;
  to : l.k ≤ l.last;
  from : l.first ≤ l.k;
}

abbrev pub decreases-loop-k : goal.decreases-loop-k
decreases-loop-k g l = l.k - l.first
