-- In a list of cells in order, the rows of a run stand one behind the other.
use Rattle.std.proofs.Common.{◌≡◌, ℕ, zero, suc, ◌+◌, ◌<◌, ◌≤◌, ◌⊎◌, List, length, get_or, inl, inr, sym, ap, subst, ◌∙◌, ⊎_elim, arith}
use Rattle.std.specs.List.{AllPairs, Contains}
use Rattle.std.specs.Ordering.{nat_cmp, ordering_then}
use Rattle.std.specs.declared.cmp.Ordering.{Ordering}
use Rattle.std.specs.declared.cmp.Ordering.TheVariants.{Less}
use Rattle.std.proofs.lemmas.Bool.{cases_order}
use Rattle.std.proofs.lemmas.Bool.Decides.{nat_tests}
use Rattle.std.proofs.lemmas.List.{get_or_default}
use Rattle.calc_addr.specs.Places.{IsBefore, Place, Rows}

then_less : (a b : ℕ) (o : Ordering) → ordering_then (nat_cmp a b) o ≡ Less → (a < b) ⊎ ((a ≡ b) × (o ≡ Less))
then_less a b o h = grind (arith, nat_tests)

cmp_less : (a b : ℕ) → nat_cmp a b ≡ Less → a < b
cmp_less a b h = grind (arith, nat_tests)

-- what it means that a cell comes before another
pub data Before (p q : Place) : Type 0 where
  by_sheet : p.sheet < q.sheet → Before p q
  by_col : p.sheet ≡ q.sheet → p.col < q.col → Before p q
  by_row : p.sheet ≡ q.sheet → p.col ≡ q.col → p.row < q.row → Before p q

pub before : (p q : Place) → IsBefore p q → Before p q
before p q h = at_sheet (then_less p.sheet q.sheet (ordering_then (nat_cmp p.col q.col) (nat_cmp p.row q.row)) h)
  where
    at_col : p.sheet ≡ q.sheet → (p.col < q.col) ⊎ ((p.col ≡ q.col) × (nat_cmp p.row q.row ≡ Less)) → Before p q
    at_col s (inl c) = Before.by_col s c
    at_col s (inr c) = Before.by_row s c.0 (cmp_less p.row q.row c.1)

    at_sheet : (p.sheet < q.sheet) ⊎ ((p.sheet ≡ q.sheet) × (ordering_then (nat_cmp p.col q.col) (nat_cmp p.row q.row) ≡ Less)) → Before p q
    at_sheet (inl s) = Before.by_sheet s
    at_sheet (inr s) = at_col s.0 (then_less p.col q.col (nat_cmp p.row q.row) s.1)

pub cell_of : Rows → ℕ → Place
cell_of run k = record { sheet = run.sheet; col = run.col; row = run.first + k }

none_back : (s c r : ℕ) → Before (record { sheet = s; col = c; row = r + 1 }) (record { sheet = s; col = c; row = r }) → ⊥
none_back s c r (Before.by_sheet h) = omega arith
none_back s c r (Before.by_col e h) = omega arith
none_back s c r (Before.by_row e f h) = omega arith

none_between : (s c r : ℕ) (q : Place) → Before (record { sheet = s; col = c; row = r }) q → Before q (record { sheet = s; col = c; row = r + 1 }) → ⊥
none_between s c r q (Before.by_sheet h) (Before.by_sheet k) = omega arith
none_between s c r q (Before.by_sheet h) (Before.by_col e k) = omega arith
none_between s c r q (Before.by_sheet h) (Before.by_row e f k) = omega arith
none_between s c r q (Before.by_col e h) (Before.by_sheet k) = omega arith
none_between s c r q (Before.by_col e h) (Before.by_col f k) = omega arith
none_between s c r q (Before.by_col e h) (Before.by_row f g k) = omega arith
none_between s c r q (Before.by_row e f h) (Before.by_sheet k) = omega arith
none_between s c r q (Before.by_row e f h) (Before.by_col g k) = omega arith
none_between s c r q (Before.by_row e f h) (Before.by_row g i k) = omega arith

-- a cell stands at that place
pub record StandsAt (cells : List Place) (i : ℕ) (p : Place) : Type 0 where
  pub within : i < length cells
  pub here : get_or cells i p ≡ p

pub at_default : (cells : List Place) (i : ℕ) (p d : Place) → StandsAt cells i p → get_or cells i d ≡ p
at_default cells i p d h = get_or_default cells i d p h.within ∙ h.here

module _ (cells : List Place) (in_order : AllPairs IsBefore cells) where
  pub in_turn : (i j : ℕ) (p q : Place) → StandsAt cells i p → StandsAt cells j q → i < j → Before p q
  in_turn i j p q hp hq less =
      before p q (subst (λ (x : Place). IsBefore x q) (at_default cells i p p hp) (subst (λ (y : Place). IsBefore (get_or cells i p) y) (at_default cells j q p hq) (in_order i j p less hq.within)))

  -- the cell below one stands behind it
  pub next_stands : (s c r i : ℕ) → StandsAt cells i (record { sheet = s; col = c; row = r }) → Contains cells (record { sheet = s; col = c; row = r + 1 }) → StandsAt cells (i + 1) (record { sheet = s; col = c; row = r + 1 })
  next_stands s c r i h (j, within, is) =
      let p : Place = record { sheet = s; col = c; row = r } in
      let b : Place = record { sheet = s; col = c; row = r + 1 } in
      let there : StandsAt cells j b = record { within = within; here = is } in
      ⊎_elim (λ (e : j ≡ i + 1). subst (λ n. StandsAt cells n b) e there)
      (λ (other : (j < i + 1) ⊎ (i + 1 < j)).
      ⊎_elim (λ (less : j < i + 1).
      absurd (⊎_elim (λ (same : j ≡ i). one_place s c r (sym (at_default cells i p b h) ∙ subst (λ n. get_or cells n b ≡ b) same is))
      (λ (apart : (j < i) ⊎ (i < j)). ⊎_elim (λ (l : j < i). none_back s c r (in_turn j i b p there h l)) (λ (l : i < j). absurd (omega arith)) apart)
      (cases_order j i)))
      (λ (more : i + 1 < j).
      let mid : Place = get_or cells (i + 1) b in
      let stands : StandsAt cells (i + 1) mid = record { within = omega arith; here = get_or_default cells (i + 1) mid b (omega arith) } in
      absurd (none_between s c r mid (in_turn i (i + 1) p mid h stands (omega arith)) (in_turn (i + 1) j mid b stands there more)))
      other)
      (cases_order j (i + 1))
    where
      one_place : (s c r : ℕ) → ◌≡◌ {A = Place} (record { sheet = s; col = c; row = r }) (record { sheet = s; col = c; row = r + 1 }) → ⊥
      one_place s c r e = let rows : r ≡ r + 1 = ap (λ (x : Place). x.row) e in absurd (omega arith)

  -- the rows of a run that are all in the list stand one behind the other
  pub rows_stand : (run : Rows) (i k : ℕ) → StandsAt cells i (record { sheet = run.sheet; col = run.col; row = run.first }) → ((j : ℕ) → j ≤ k → Contains cells (record { sheet = run.sheet; col = run.col; row = run.first + j })) → StandsAt cells (i + k) (record { sheet = run.sheet; col = run.col; row = run.first + k })
  rows_stand run i zero first has =
      let place : i ≡ i + zero = omega arith in
      let row : run.first ≡ run.first + zero = omega arith in
      subst (λ n. StandsAt cells n (record { sheet = run.sheet; col = run.col; row = run.first + zero })) place
      (subst (λ r. StandsAt cells i (record { sheet = run.sheet; col = run.col; row = r })) row first)
  rows_stand run i (suc k) first has =
      let place : (i + k) + 1 ≡ i + suc k = omega arith in
      let row : (run.first + k) + 1 ≡ run.first + suc k = omega arith in
      let before_it = rows_stand run i k first (λ j le. has j (omega arith)) in
      subst (λ n. StandsAt cells n (record { sheet = run.sheet; col = run.col; row = run.first + suc k })) place
      (subst (λ r. StandsAt cells ((i + k) + 1) (record { sheet = run.sheet; col = run.col; row = r })) row
      (next_stands run.sheet run.col (run.first + k) (i + k) before_it
      (subst (λ r. Contains cells (record { sheet = run.sheet; col = run.col; row = r })) (sym row) (has (suc k) (omega arith)))))
