-- How many of some rows have a code, by their groups and by their slots.
use Rattle.std.proofs.Common.{◌≡◌, ℕ, suc, zero, ◌+◌, ◌-◌, ◌≤◌, ◌<◌, ◌==◌, ◌&&◌, nat_le, max, min, Bool, true, false, cond, List, [], ◌∷◌, take, drop, map, Option, Some, None, refl, sym, ap, ◌∙◌, arith}
use Rattle.std.specs.Prelude.{sum_by}
use Rattle.std.specs.Bool.{Decides}
use Rattle.std.proofs.lemmas.Bool.Decides.{Decides-eqb, nat_tests}
use Rattle.std.proofs.lemmas.List.Sums.{sum_by-cons}
use Rattle.calc_model.proofs.Areas.{both_true}
use Rattle.run_tables.specs.Runs.{Rises, Run, meet, runs_from, runs_of, touches}
use Rattle.run_tables.proofs.RunLists.{runs-rise}
use Rattle.formula_groups.specs.Groups.{a_group, groups_of}
use Rattle.formula_groups.specs.declared.group.Group.{Group}
use Rattle.block_column.specs.declared.slot.Slot.{Slot}
use Rattle.block_column.specs.declared.slot.Slot.TheVariants as slot
use Rattle.cell_columns.specs.Cells.{Column}
use Rattle.cell_columns.specs.Freed.{formulas_among, uses_among}
use Rattle.cell_columns.specs.Uses.{code_in, codes_in, formula_of, use_of}

abbrev nought : ℕ
nought = 0

abbrev same_code : ℕ → ℕ → Bool
same_code k l = k == l

coded : (k l : ℕ) → Decides (same_code k l) (k ≡ l)
coded k l = Decides-eqb k l

module _ {K : Type 0} (same : K → K → Bool) (decides : (k l : K) → Decides (same k l) (k ≡ l)) (counts : K → Bool) (first last : ℕ) (order : first ≤ last) where
  abbrev over : Run K → ℕ
  over r = min r.last last + 1 - max r.first first

  abbrev weight : Run K → ℕ
  weight r = cond (counts r.key) (over r) 0

  abbrev pub row : Option K → ℕ
  row (Some k) = cond (counts k) 1 0
  row None = 0

  -- the rows from p on that lie between the first and the last
  abbrev between : ℕ → List (Option K) → ℕ
  between p [] = 0
  between p (x ∷ s) = cond (nat_le first p && nat_le p last) (row x) 0 + between (p + 1) s

  over_both : (r x : Run K) → r.last + 1 ≡ x.first → r.first ≤ r.last → x.first ≤ x.last → over (record r { last = x.last }) ≡ over r + over x
  over_both r x next from to = grind (arith, next, from, to, order)

  both_weights : (r x : Run K) → r.key ≡ x.key → over (record r { last = x.last }) ≡ over r + over x → weight (record r { last = x.last }) ≡ weight r + weight x
  both_weights r x key sum =
      elim (counts r.key) as (λ b. counts r.key ≡ b → cond b (over (record r { last = x.last })) 0 ≡ cond b (over r) 0 + cond (counts x.key) (over x) 0) [
        | true ↦ λ is. sum ∙ ap (λ b. over r + cond b (over x) 0) (sym is ∙ ap counts key)
        | false ↦ λ is. ap (λ b. 0 + cond b (over x) 0) (sym is ∙ ap counts key)
      ] refl

  meet_sum : (r : Run K) (t : List (Run K)) → r.first ≤ r.last → Rises (r.last + 1) t → sum_by weight (meet same r t) ≡ weight r + sum_by weight t
  meet_sum r [] from rise = sum_by-cons weight r []
  meet_sum r (x ∷ t) from rise =
      elim (touches same r x) as (λ b. touches same r x ≡ b → sum_by weight (cond b (record r { last = x.last } ∷ t) (r ∷ x ∷ t)) ≡ weight r + sum_by weight (x ∷ t)) [
        | true ↦ λ is.
            let parts = both_true (r.last + 1 == x.first) (same r.key x.key) is in
            let sum : weight (record r { last = x.last }) ≡ weight r + weight x =
            both_weights r x ((decides r.key x.key).0 parts.1) (over_both r x ((Decides-eqb (r.last + 1) x.first).0 parts.0) from rise.1) in
            omega (arith, sum, sum_by-cons weight (record r { last = x.last }) t, sum_by-cons weight x t)
        | false ↦ λ _. sum_by-cons weight r (x ∷ t)
      ] refl

  one_row : (p : ℕ) (k : K) → weight (record { first = p; last = p; key = k }) ≡ cond (nat_le first p && nat_le p last) (row (Some k)) 0
  one_row p k =
      elim (counts k) as (λ b. cond b (min p last + 1 - max p first) 0 ≡ cond (nat_le first p && nat_le p last) (cond b 1 0) 0) [
        | true ↦ grind (arith, nat_tests, order)
        | false ↦ elim (nat_le first p && nat_le p last) as (λ c. nought ≡ cond c nought nought) [ true ↦ refl | false ↦ refl ]
      ]

  runs_sum : (p : ℕ) (s : List (Option K)) → sum_by weight (runs_from same p s) ≡ between p s
  runs_sum p [] = refl
  runs_sum p (None ∷ s) =
      runs_sum (p + 1) s ∙ elim (nat_le first p && nat_le p last) as (λ c. between (p + 1) s ≡ cond c 0 0 + between (p + 1) s) [ true ↦ omega arith | false ↦ omega arith ]
  runs_sum p (Some k ∷ s) =
      meet_sum (record { first = p; last = p; key = k }) (runs_from same (p + 1) s) (omega arith) (runs-rise same decides (p + 1) s)
      ∙ omega (arith, one_row p k, runs_sum (p + 1) s)

  -- from the first row on, as many as are left
  from_first : (p : ℕ) (s : List (Option K)) → first ≤ p → p ≤ last + 1 → between p s ≡ sum_by row (take (last + 1 - p) s)
  from_first p [] from to = elim (last + 1 - p) as (λ n. 0 ≡ sum_by row (take n [])) [ zero ↦ refl | suc n ↦ refl ]
  from_first p (x ∷ s) from to =
      elim (nat_le p last) as (λ b. nat_le p last ≡ b → cond (nat_le first p && b) (row x) 0 + between (p + 1) s ≡ sum_by row (take (last + 1 - p) (x ∷ s))) [
        | true ↦ λ is.
            let within : p ≤ last = grind (arith, nat_tests, is) in
            let more : last + 1 - p ≡ suc (last + 1 - (p + 1)) = omega (arith, within) in
            let begun : nat_le first p ≡ true = grind (arith, nat_tests, from) in
            ap (λ b. cond (b && true) (row x) 0 + between (p + 1) s) begun
            ∙ omega (arith, from_first (p + 1) s (omega (arith, from)) (omega (arith, within)), sum_by-cons row x (take (last + 1 - (p + 1)) s))
            ∙ ap (λ n. sum_by row (take n (x ∷ s))) (sym more)
        | false ↦ λ is.
            let past : last + 1 - p ≡ 0 = grind (arith, nat_tests, is, to) in
            elim (nat_le first p) as (λ b. cond (b && false) (row x) 0 + between (p + 1) s ≡ between (p + 1) s) [ true ↦ omega arith | false ↦ omega arith ]
            ∙ none_past (p + 1) s (grind (arith, nat_tests, is))
            ∙ ap (λ n. sum_by row (take n (x ∷ s))) (sym past)
      ] refl
    where
      none_past : (p : ℕ) (s : List (Option K)) → last < p → between p s ≡ 0
      none_past p [] h = refl
      none_past p (x ∷ s) h =
          let out : nat_le p last ≡ false = grind (arith, nat_tests, h) in
          ap (λ b. cond (nat_le first p && b) (row x) 0 + between (p + 1) s) out
          ∙ elim (nat_le first p) as (λ b. cond (b && false) (row x) 0 + between (p + 1) s ≡ between (p + 1) s) [ true ↦ omega arith | false ↦ omega arith ]
          ∙ none_past (p + 1) s (omega (arith, h))

  nothing : (n m : ℕ) → 0 ≡ sum_by row (take n (drop m []))
  nothing zero zero = refl
  nothing zero (suc m) = refl
  nothing (suc n) zero = refl
  nothing (suc n) (suc m) = refl

  to_first : (p : ℕ) (s : List (Option K)) → p ≤ first → between p s ≡ sum_by row (take (last + 1 - first) (drop (first - p) s))
  to_first p [] from = nothing (last + 1 - first) (first - p)
  to_first p (x ∷ s) from =
      elim (nat_le first p) as (λ b. nat_le first p ≡ b → between p (x ∷ s) ≡ sum_by row (take (last + 1 - first) (drop (first - p) (x ∷ s)))) [
        | true ↦ λ is.
            let at : p ≡ first = grind (arith, nat_tests, is, from) in
            let none : first - p ≡ 0 = omega (arith, at) in
            from_first p (x ∷ s) (omega (arith, at)) (omega (arith, at, order))
            ∙ ap (λ n. sum_by row (take (last + 1 - n) (x ∷ s))) at
            ∙ ap (λ n. sum_by row (take (last + 1 - first) (drop n (x ∷ s)))) (sym none)
        | false ↦ λ is.
            let below : p < first = grind (arith, nat_tests, is) in
            let more : first - p ≡ suc (first - (p + 1)) = omega (arith, below) in
            ap (λ b. cond (b && nat_le p last) (row x) 0 + between (p + 1) s) is
            ∙ omega (arith, to_first (p + 1) s (omega (arith, below)))
            ∙ ap (λ n. sum_by row (take (last + 1 - first) (drop n (x ∷ s)))) (sym more)
      ] refl

  -- the rows of a column, by its runs
  pub rows_sum : 1 ≤ first → (s : List (Option K)) → sum_by weight (runs_of same s) ≡ sum_by row (take (last + 1 - first) (drop (first - 1) s))
  rows_sum from s = runs_sum 1 s ∙ to_first 1 s from

pub sum_map : {X Y : Type 0} (g : X → Y) (f : Y → ℕ) (xs : List X) → sum_by f (map g xs) ≡ sum_by (λ x. f (g x)) xs
sum_map g f [] = refl
sum_map g f (x ∷ xs) = omega (arith, sum_by-cons f (g x) (map g xs), sum_by-cons (λ x. f (g x)) x xs, sum_map g f xs)

pub sum_alike : {X : Type 0} (f g : X → ℕ) → ((x : X) → f x ≡ g x) → (xs : List X) → sum_by f xs ≡ sum_by g xs
sum_alike f g same [] = refl
sum_alike f g same (x ∷ xs) = omega (arith, sum_by-cons f x xs, sum_by-cons g x xs, same x, sum_alike f g same xs)

codes_taken : (n m : ℕ) (c : Column) → take n (drop m (codes_in c)) ≡ codes_in (take n (drop m c))
codes_taken n zero [] = taken n
  where
    taken : (n : ℕ) → take n (codes_in []) ≡ codes_in (take n [])
    taken zero = refl
    taken (suc n) = refl
codes_taken n (suc m) [] = taken n
  where
    taken : (n : ℕ) → take n (codes_in []) ≡ codes_in (take n [])
    taken zero = refl
    taken (suc n) = refl
codes_taken zero zero (x ∷ c) = refl
codes_taken (suc n) zero (x ∷ c) = ap (λ t. code_in x ∷ t) (codes_taken n zero c)
codes_taken n (suc m) (x ∷ c) = codes_taken n m c

use_coded : (id : ℕ) (x : Slot) → row same_code coded (λ k. id == k) 1 1 (omega arith) (code_in x) ≡ use_of id x
use_coded id slot.Empty = refl
use_coded id (slot.Number n) = refl
use_coded id (slot.Words text) = refl
use_coded id (slot.Bad fault) = refl
use_coded id (slot.Raw text) = refl
use_coded id (slot.Formula other) = refl

-- the uses of a code in some rows, by the groups of the column and by its slots
pub uses_alike : (id first last : ℕ) (c : Column) → 1 ≤ first → first ≤ last → uses_among id first last (groups_of (codes_in c)) ≡ sum_by (use_of id) (take (last + 1 - first) (drop (first - 1) c))
uses_alike id first last c from order =
    sum_map a_group (λ (g : Group). cond (id == g.code) (min g.last last + 1 - max g.first first) 0) (runs_of same_code (codes_in c))
    ∙ rows_sum same_code coded (λ k. id == k) first last order from (codes_in c)
    ∙ ap (sum_by (row same_code coded (λ k. id == k) first last order)) (codes_taken (last + 1 - first) (first - 1) c)
    ∙ sum_map code_in (row same_code coded (λ k. id == k) first last order) (take (last + 1 - first) (drop (first - 1) c))
    ∙ sum_alike (λ x. row same_code coded (λ k. id == k) first last order (code_in x)) (use_of id) (use_coded id) (take (last + 1 - first) (drop (first - 1) c))

one_coded : (x : Slot) → row same_code coded (λ k. true) 1 1 (omega arith) (code_in x) ≡ formula_of x
one_coded slot.Empty = refl
one_coded (slot.Number n) = refl
one_coded (slot.Words text) = refl
one_coded (slot.Bad fault) = refl
one_coded (slot.Raw text) = refl
one_coded (slot.Formula id) = refl

pub formulas_alike : (first last : ℕ) (c : Column) → 1 ≤ first → first ≤ last → formulas_among first last (groups_of (codes_in c)) ≡ sum_by formula_of (take (last + 1 - first) (drop (first - 1) c))
formulas_alike first last c from order =
    sum_map a_group (λ (g : Group). min g.last last + 1 - max g.first first) (runs_of same_code (codes_in c))
    ∙ rows_sum same_code coded (λ k. true) first last order from (codes_in c)
    ∙ ap (sum_by (row same_code coded (λ k. true) first last order)) (codes_taken (last + 1 - first) (first - 1) c)
    ∙ sum_map code_in (row same_code coded (λ k. true) first last order) (take (last + 1 - first) (drop (first - 1) c))
    ∙ sum_alike (λ x. row same_code coded (λ k. true) first last order (code_in x)) formula_of one_coded (take (last + 1 - first) (drop (first - 1) c))
