-- Sums over the views of all passes, and how each step on the views moves them.
use Rattle.std.proofs.Common.{length, get_or, ◌<◌, ◌≡◌, ℕ, zero, suc, ◌+◌, ◌≤◌, eqb, cond, List, [], ◌∷◌, ◌++◌, set, sum_by, refl, sym, subst, ⊎_elim, arith}
use Rattle.atomic_table.proofs.Lists.{at_set, at_snoc, set_here}
use Rattle.std.proofs.lemmas.List.Sums.{sum_by-cons, sum_by_push, sum_by-append, sum_by-set, get_or-le-sum_by}
use mathlib.Core.Option.{some, some-injective, some-ne-none}
use lib.ListN.{get_elem?}
use Rattle.work_board.specs.declared.pass_view.PassView.{PassView}
use Rattle.work_board.specs.Views.{spent_view}
use Rattle.work_board.specs.Rules.{Each}
use Rattle.work_board.specs.Counts.{times}

pub times_more : (x y : ℕ) (xs : List ℕ) → times x (xs ++ y ∷ []) ≡ times x xs + cond (eqb y x) 1 0
times_more x y xs = sum_by_push (λ z. cond (eqb z x) 1 0) xs y

pub times_both : (x : ℕ) (xs ys : List ℕ) → times x (xs ++ ys) ≡ times x xs + times x ys
times_both x xs ys = sum_by-append (λ z. cond (eqb z x) 1 0) xs ys

found : (views : List PassView) (seat : ℕ) (v : PassView) → get_elem? views seat ≡ some v → (seat < length views) × (get_or views seat v ≡ v)
found [] seat v at = absurd (some-ne-none v (sym at))
found (x ∷ xs) zero v at = (omega arith, some-injective x v at)
found (x ∷ xs) (suc i) v at = let h = found xs i v at in (omega (arith, h.0), h.1)

-- a change of one view stands in its place
pub set_there : (views : List PassView) (seat : ℕ) (v w : PassView) → get_elem? views seat ≡ some v → get_elem? (set views seat w) seat ≡ some w
set_there views seat v w at = set_here views seat w (found views seat v at).0

module _ (f : PassView → ℕ) where
  -- each view has at most the total
  pub total_has : (views : List PassView) (seat : ℕ) (v : PassView) → get_elem? views seat ≡ some v → f v ≤ sum_by f views
  total_has views seat v at =
      let h = found views seat v at in
      subst (λ u. f u ≤ sum_by f views) h.1 (get_or-le-sum_by f views seat v h.0)

  pub total_set : (views : List PassView) (seat : ℕ) (v w : PassView) → get_elem? views seat ≡ some v → sum_by f (set views seat w) + f v ≡ sum_by f views + f w
  total_set views seat v w at =
      let h = found views seat v at in
      subst (λ u. sum_by f (set views seat w) + f u ≡ sum_by f views + f w) h.1 (sum_by-set f views seat w v h.0)

  pub total_cut : (views : List PassView) (seat : ℕ) (v left new : PassView) → get_elem? views seat ≡ some v → f left + f new ≡ f v → sum_by f (set views seat left ++ new ∷ []) ≡ sum_by f views
  total_cut views seat v left new at parts =
      omega (arith, total_set views seat v left at, sum_by_push f (set views seat left) new)

  pub total_joined : (views : List PassView) (seat other : ℕ) (v w sum spent : PassView) → get_elem? views seat ≡ some v → get_elem? (set views seat sum) other ≡ some w
      → f sum + f spent ≡ f v + f w → sum_by f (set (set views seat sum) other spent) ≡ sum_by f views
  total_joined views seat other v w sum spent at there parts =
      omega (arith, total_set views seat v sum at, total_set (set views seat sum) other w spent there)

  pub total_below : (g : PassView → ℕ) (views : List PassView) → Each (λ v. f v ≤ g v) views → sum_by f views ≤ sum_by g views
  total_below g [] h = omega arith
  total_below g (x ∷ xs) h =
      omega (arith, sum_by-cons f x xs, sum_by-cons g x xs, h 0 x refl, total_below g xs (λ i v at. h (suc i) v at))

-- what holds of each view holds after a change, and beside a new one
module _ (P : PassView → Type 0) (views : List PassView) where
  pub each_set : (seat : ℕ) (w : PassView) → Each P views → P w → Each P (set views seat w)
  each_set seat w each new j u e = ⊎_elim (λ h. subst P h.1 new) (λ h. each j u h.1) (at_set views seat j w u e)

  pub each_snoc : (w : PassView) → Each P views → P w → Each P (views ++ w ∷ [])
  each_snoc w each new j u e = ⊎_elim (λ h. each j u h) (λ h. subst P h new) (at_snoc views w u j e)

sum_by_none : (views : List PassView) → sum_by (λ _. 0) views ≡ 0
sum_by_none [] = refl
sum_by_none (x ∷ xs) = omega (arith, sum_by-cons (λ (_ : PassView). 0) x xs, sum_by_none xs)

-- where one view has all the weight, and views without weight count for nothing, the total is that view's
pub alone : (f weight : PassView → ℕ) (views : List PassView) (seat : ℕ) (v : PassView) → get_elem? views seat ≡ some v → weight spent_view ≡ 0 → f spent_view ≡ 0
    → Each (λ u. weight u ≡ 0 → f u ≡ 0) views → weight v ≡ sum_by weight views → sum_by f views ≡ f v
alone f weight views seat v at bare none light all =
    let rest = set views seat spent_view in
    let each = each_set (λ u. weight u ≡ 0 → f u ≡ 0) views seat spent_view light (λ _. none) in
    let weights = total_set weight views seat v spent_view at in
    let nothing = total_below f (λ _. 0) rest (λ j u e. let h = total_has weight rest j u e in let is = each j u e (omega (arith, h, weights, bare, all)) in omega arith) in
    let zero_sum : sum_by (λ (_ : PassView). 0) rest ≡ 0 = sum_by_none rest in
    omega (arith, nothing, zero_sum, none, total_set f views seat v spent_view at)
