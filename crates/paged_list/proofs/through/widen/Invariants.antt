use Rattle.std.proofs.Common.{◌≡◌, ◌≤◌, ◌<◌, ◌-◌, ◌*◌, ℕ, get_or}
use Rattle.paged_list.specs.Pages.{KeepsShape, PageItems, flat, places_for}
use Rattle.paged_list.proofs.through.widen.Given as goal

abbrev pub invariant-loop-k : goal.invariant-loop-k
invariant-loop-k g l = record {
  shape : KeepsShape l.fn.pages l.pages;
  items : flat l.pages ≡ flat l.fn.pages;
  left : l.left ≡ l.capacity - l.k * 4096;
  wide : (j : ℕ) (d : PageItems g.row.T.Denot) → j < l.k → places_for (l.capacity - j * 4096) ≤ (get_or l.pages j d).capacity;
}
