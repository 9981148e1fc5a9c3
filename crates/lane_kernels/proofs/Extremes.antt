-- The least and the greatest item are what a search for one finds that is an item and bounds all.
use Rattle.std.proofs.Common.{◌≡◌, ℤ, ◌≤ℤ◌, List, [], ◌∷◌, length, Option, Some, None, MatchOption, refl, ap, sym, subst, arith, rules, ⊎_elim}
use Rattle.std.specs.List.{All, Contains, fold}
use Rattle.std.specs.Int.{int_min, int_max}
use Rattle.std.proofs.lemmas.Int.{ints, fold-int_min_bounds, fold-int_min_reached, fold-int_max_bounds, fold-int_max_reached}
use Rattle.std.proofs.lemmas.List.Elements.{All-head, All-tail, All-cons, All-contains}
use Rattle.lane_kernels.specs.Folds.{least, greatest}

same : (x y : ℤ) → x ≤ℤ y → y ≤ℤ x → x ≡ y
same x y below above = omega (arith, ints)

pub least_is : (items : List ℤ) (r : Option ℤ) → MatchOption r (length items ≡ 0) (λ m. Contains items m × All (λ y. m ≤ℤ y) items) → r ≡ least items
least_is [] None h = refl
least_is [] (Some m) h = absurd (search (rules, h.0))
least_is (x ∷ xs) None h = absurd (omega (arith, h))
least_is (x ∷ xs) (Some m) h =
    let best : ℤ = fold int_min x xs in
    let bounds = fold-int_min_bounds x xs best refl in
    let met : m ≤ℤ best = ⊎_elim
    (λ e. subst (λ z. m ≤ℤ z) (sym e) (All-head (λ y. m ≤ℤ y) x xs h.1))
    (λ there. All-contains (λ y. m ≤ℤ y) xs best (All-tail (λ y. m ≤ℤ y) x xs h.1) there)
    (fold-int_min_reached x xs best refl) in
    let bound : best ≤ℤ m = All-contains (λ y. best ≤ℤ y) (x ∷ xs) m (All-cons (λ y. best ≤ℤ y) x xs bounds.0 bounds.1) h.0 in
    ap Some (same m best met bound)

pub greatest_is : (items : List ℤ) (r : Option ℤ) → MatchOption r (length items ≡ 0) (λ m. Contains items m × All (λ y. y ≤ℤ m) items) → r ≡ greatest items
greatest_is [] None h = refl
greatest_is [] (Some m) h = absurd (search (rules, h.0))
greatest_is (x ∷ xs) None h = absurd (omega (arith, h))
greatest_is (x ∷ xs) (Some m) h =
    let best : ℤ = fold int_max x xs in
    let bounds = fold-int_max_bounds x xs best refl in
    let met : best ≤ℤ m = ⊎_elim
    (λ e. subst (λ z. z ≤ℤ m) (sym e) (All-head (λ y. y ≤ℤ m) x xs h.1))
    (λ there. All-contains (λ y. y ≤ℤ m) xs best (All-tail (λ y. y ≤ℤ m) x xs h.1) there)
    (fold-int_max_reached x xs best refl) in
    let bound : m ≤ℤ best = All-contains (λ y. y ≤ℤ best) (x ∷ xs) m (All-cons (λ y. y ≤ℤ best) x xs bounds.0 bounds.1) h.0 in
    ap Some (same m best bound met)
