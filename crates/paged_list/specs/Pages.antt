-- Pages of a list: neighbouring items, and how many can be held.
use Rattle.std.specs.Prelude.{◌≡◌, ℕ, zero, ◌-◌, ◌/◌, ◌<◌, ◌≤◌, ◌++◌, min, List, [], ◌∷◌, length, take, drop, get_or, insert}
use Rattle.std.specs.List.{flat_map}
use Rattle.std.specs.Coded.{Coded, code_by, coded×, coded_list, coded_ℕ}
use mathlib.Core.Path.{refl}

pub record PageItems (T : Type 0) : Type 0 where
  pub items : List T
  pub capacity : ℕ

abbrev pub page_code : {T : Type 0} → Coded T → Coded (PageItems T)
page_code {T} c = code_by (List T × ℕ) (coded× (coded_list c) coded_ℕ) (λ p. (p.items, p.capacity)) (λ p. record { items = p.0; capacity = p.1 }) (λ _. refl)

-- the items of pages, joined
abbrev pub flat : {T : Type 0} → List (PageItems T) → List T
flat ps = flat_map (λ p. p.items) ps

-- the pages have n items: each page is full, or the last that has any
abbrev pub Packed : {T : Type 0} → ℕ → List (PageItems T) → Type 0
Packed n [] = n ≡ zero
Packed n (p ∷ ps) = (length p.items ≡ min 4096 n) × Packed (n - 4096) ps

-- the places of a page, where it and those behind it are to hold c items
abbrev pub places_for : ℕ → ℕ
places_for c = min c 4096

-- the pages can hold c items
abbrev pub Roomy : {T : Type 0} → ℕ → List (PageItems T) → Type 0
Roomy c [] = c ≡ zero
Roomy c (p ∷ ps) = (places_for c ≤ p.capacity) × Roomy (c - 4096) ps

-- what a list is seen as: its items, and how many can be put in before memory is asked for
pub record Listed (T : Type 0) : Type 0 where
  pub items : List T
  pub room : ℕ

abbrev pub listed_code : {T : Type 0} → Coded T → Coded (Listed T)
listed_code {T} c = code_by (List T × ℕ) (coded× (coded_list c) coded_ℕ) (λ l. (l.items, l.room)) (λ l. record { items = l.0; room = l.1 }) (λ _. refl)

-- the pages have n items, and can hold c
pub record ArePages {T : Type 0} (pages : List (PageItems T)) (n c : ℕ) : Type 0 where
  pub packed : Packed n pages
  pub roomy : Roomy c pages
  pub within : n ≤ c

-- no page has more items or less, or holds fewer
pub record KeepsShape {T : Type 0} (old new : List (PageItems T)) : Type 0 where
  pub pages : length new ≡ length old
  pub sizes : (k : ℕ) (d : PageItems T) → length (get_or new k d).items ≡ length (get_or old k d).items
  pub capacities : (k : ℕ) (d : PageItems T) → (get_or old k d).capacity ≤ (get_or new k d).capacity

-- the pages from the first on, in front of the end, are full
abbrev pub AreFull : {T : Type 0} → List (PageItems T) → ℕ → ℕ → Type 0
AreFull {T} ps first end = (k : ℕ) (d : PageItems T) → first ≤ k → k < end → (length (get_or ps k d).items ≡ 4096) × (4096 ≤ (get_or ps k d).capacity)

-- an item put in behind the first ones of a page and those behind it
abbrev pub put_behind : {T : Type 0} → List (PageItems T) → ℕ → ℕ → T → List T
put_behind ps k at x = flat (take k ps) ++ insert (flat (drop k ps)) at x

-- one more item can be put in behind the first n
pub record HasPlace {T : Type 0} (ps : List (PageItems T)) (n : ℕ) : Type 0 where
  pub within : n / 4096 < length ps
  pub full : AreFull ps zero (n / 4096)
  pub last : (d : PageItems T) → length (get_or ps (n / 4096) d).items < (get_or ps (n / 4096) d).capacity
