use Rattle.std.proofs.Common.{◌≡◌, ◌≤◌, ℕ, vec_len, vec_capacity}
use Rattle.paged_list.specs.Pages.{Packed, Roomy, flat}
use Rattle.paged_list.proofs.through.add_pages.Given as goal

abbrev pub invariant-loop : goal.invariant-loop
invariant-loop g l = record {
  len : vec_len l.pages ≡ l.counter;
  room : l.count ≤ vec_capacity l.pages;
  items : flat l.pages.items ≡ flat l.fn.pages.items;
  packed : (n : ℕ) → Packed n l.fn.pages.items → Packed n l.pages.items;
  roomy : (c : ℕ) → Roomy c l.fn.pages.items → Roomy c l.pages.items;
}
