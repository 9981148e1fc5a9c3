-- Scanning a run of numbers up to the first that ends a search, and values that aren't of the sought kind.
use Rattle.std.proofs.Common.{◌≡◌, ℕ, ℤ, pos, zero, suc, ◌+◌, ◌<◌, ◌≤◌, Bool, true, false, not, cond, List, [], ◌∷◌, ◌++◌, drop, get_or, length, ltb, map, replicate, take, Option, Some, None, refl, sym, ap, ◌∙◌, arith}
use Rattle.std.specs.Prelude.{fold, int_lt, position}
use Rattle.std.specs.Option.{unwrap_or}
use Rattle.std.specs.List.{position_or_len}
use Rattle.std.specs.Ordering.{int_cmp, is_gt, is_lt}
use Rattle.std.proofs.lemmas.Int.{ints}
use Rattle.std.specs.declared.cmp.Ordering.{Ordering}
use Rattle.std.specs.declared.cmp.Ordering.TheVariants.{Less, Equal, Greater}
use Rattle.std.proofs.lemmas.Bool.{cond_both, false≢true, ltb-false}
use Rattle.std.proofs.lemmas.List.{drop_more, get_or-map, get_or-replicate, get_or-take, length-map, length-replicate, length-take-le, map-append, take-append-drop}
use Rattle.std.proofs.lemmas.List.Folds.{fold_stays}
use Rattle.std.proofs.lemmas.List.Sums.{fold-append, fails_before_first, passes_at_first, position_or_len_is, prefix_len-le-length}
use Rattle.calc_model.specs.Criteria.{order_in_kind}
use Rattle.calc_model.specs.declared.value.Value.{Value}
use Rattle.calc_model.specs.declared.value.Value.TheVariants.{Number, Words, Blank}
use Rattle.fn_lookup.specs.declared.scan.Scan.{Scan}
use Rattle.fn_lookup.specs.declared.scan.Search.{Search}
use Rattle.fn_lookup.specs.declared.scan.Search.TheVariants.{Exact, Ascending, Descending}
use Rattle.fn_lookup.specs.Scans.{fits, is_past, last_in_run, with_order, with_run, with_value}

-- a search that has ended stays
pub stuck : (search : Search) (sought : Value) (scan : Scan) → scan.ended ≡ true → (values : List Value) → fold (with_value search sought) scan values ≡ scan
stuck search sought scan e values =
    fold_stays (with_value search sought) scan (λ x. ap (λ b. cond b scan (with_order search scan (order_in_kind x sought))) e) values

running : (search : Search) (sought : Value) (scan : Scan) (value : Value) → scan.ended ≡ false → with_value search sought scan value ≡ with_order search scan (order_in_kind value sought)
running search sought scan value e = ap (λ b. cond b scan (with_order search scan (order_in_kind value sought))) e

-- values that aren't of the kind are passed
pub passed : (search : Search) (sought : Value) (values : List Value) → ((k : ℕ) → k < length values → order_in_kind (get_or values k Blank) sought ≡ None) → (scan : Scan) → scan.ended ≡ false → record scan { place = scan.place + length values } ≡ fold (with_value search sought) scan values
passed search sought [] other scan e = let e : scan.place + 0 ≡ scan.place = omega arith in ap (λ p. record scan { place = p }) e
passed search sought (x ∷ xs) other scan e =
    let next : Scan = record { place = scan.place + 1; found = scan.found; ended = false } in
    let size : scan.place + suc (length xs) ≡ scan.place + 1 + length xs = omega arith in
    ap (λ p. record scan { place = p }) size ∙ ap (λ b. record next { place = scan.place + 1 + length xs; ended = b }) e
    ∙ passed search sought xs (λ k below. other (suc k) (omega (arith, below))) next refl
    ∙ sym (ap (λ s. fold (with_value search sought) s xs) (running search sought scan x e ∙ ap (with_order search scan) (other 0 (omega arith))))

pub blank-passed : (search : Search) (sought : Value) (count : ℕ) (scan : Scan) → scan.ended ≡ false → record scan { place = scan.place + count } ≡ fold (with_value search sought) scan (replicate count Blank)
blank-passed search sought count scan e =
    ap (λ n. record scan { place = scan.place + n }) (sym (length-replicate count Blank))
    ∙ passed search sought (replicate count Blank) (λ k below. ap (λ v. order_in_kind v sought) (get_or-replicate count k Blank Blank (omega (arith, below, length-replicate count Blank)))) scan e

pub numbers-passed : (search : Search) (words : List ℕ) (items : List ℤ) (scan : Scan) → scan.ended ≡ false → record scan { place = scan.place + length items } ≡ fold (with_value search (Words words)) scan (map Number items)
numbers-passed search words items scan e =
    let size : length (map Number items) ≡ length items = length-map items Number in
    ap (λ n. record scan { place = scan.place + n }) (sym size)
    ∙ passed search (Words words) (map Number items) (λ k below. ap (λ v. order_in_kind v (Words words)) (get_or-map Number items k (pos 0) Blank (omega (arith, below, size)))) scan e

-- numbers that don't end a search
abbrev ends_at : Search → ℤ → ℤ → Bool
ends_at search sought n = is_past search (int_cmp n sought)

-- the last place found is the last of them, but for an exact search
run-found : (search : Search) (order : Ordering) (place n : ℕ) (found : Option ℕ) → is_past search order ≡ false → last_in_run search (place + 1) (cond (fits search order) (Some place) found) n ≡ last_in_run search place found (suc n)
run-found Exact Less place n found e = refl
run-found Exact Equal place n found e = absurd (false≢true (sym e))
run-found Exact Greater place n found e = refl
run-found Ascending Less place zero found e = let f : place ≡ place + 0 = omega arith in ap Some f
run-found Ascending Less place (suc n) found e = let f : place + 1 + n ≡ place + suc n = omega arith in ap Some f
run-found Ascending Equal place zero found e = let f : place ≡ place + 0 = omega arith in ap Some f
run-found Ascending Equal place (suc n) found e = let f : place + 1 + n ≡ place + suc n = omega arith in ap Some f
run-found Ascending Greater place n found e = absurd (false≢true (sym e))
run-found Descending Less place n found e = absurd (false≢true (sym e))
run-found Descending Equal place zero found e = let f : place ≡ place + 0 = omega arith in ap Some f
run-found Descending Equal place (suc n) found e = let f : place + 1 + n ≡ place + suc n = omega arith in ap Some f
run-found Descending Greater place zero found e = let f : place ≡ place + 0 = omega arith in ap Some f
run-found Descending Greater place (suc n) found e = let f : place + 1 + n ≡ place + suc n = omega arith in ap Some f

run-none : (search : Search) (scan : Scan) → scan.ended ≡ false → scan ≡ with_run search scan 0
run-none search scan e =
    let size : scan.place ≡ scan.place + 0 = omega arith in
    ap (λ b. record scan { ended = b }) e ∙ ap (λ p. record { place = p; found = scan.found; ended = false }) size
    ∙ ap (λ f. record { place = scan.place + 0; found = f; ended = false }) (nothing-found search)
  where
    nothing-found : (search : Search) → scan.found ≡ last_in_run search scan.place scan.found 0
    nothing-found Exact = refl
    nothing-found Ascending = refl
    nothing-found Descending = refl

run : (search : Search) (sought : ℤ) (items : List ℤ) → ((k : ℕ) → k < length items → ends_at search sought (get_or items k (pos 0)) ≡ false) → (scan : Scan) → scan.ended ≡ false → fold (with_value search (Number sought)) scan (map Number items) ≡ with_run search scan (length items)
run search sought [] none scan e = run-none search scan e
run search sought (x ∷ xs) none scan e =
    let next : Scan = with_order search scan (Some (int_cmp x sought)) in
    let size : scan.place + 1 + length xs ≡ scan.place + suc (length xs) = omega arith in
    ap (λ s. fold (with_value search (Number sought)) s (map Number xs)) (running search (Number sought) scan (Number x) e)
    ∙ run search sought xs (λ k below. none (suc k) (omega (arith, below))) next (none 0 (omega arith))
    ∙ ap (λ p. record { place = p; found = last_in_run search (scan.place + 1) next.found (length xs); ended = false }) size
    ∙ ap (λ f. record { place = scan.place + suc (length xs); found = f; ended = false }) (run-found search (int_cmp x sought) scan.place (length xs) scan.found (none 0 (omega arith)))

pub first-or-all : {X : Type 0} (p : X → Bool) (xs : List X) → unwrap_or (position p xs) (length xs) ≡ position_or_len p xs
first-or-all p xs =
    cond_both (ltb (position_or_len p xs) (length xs)) (Some (position_or_len p xs)) None (λ o. unwrap_or o (length xs) ≡ position_or_len p xs)
    (λ _. refl)
    (λ none. omega (arith, ltb-false (position_or_len p xs) (length xs) none, prefix_len-le-length (λ x. not (p x)) xs))

-- the same first place by two tests that agree
pub same-place : (p q : ℤ → Bool) → ((n : ℤ) → p n ≡ q n) → (items : List ℤ) → position p items ≡ position q items
same-place p q agree items =
    let first : position_or_len p items ≡ position_or_len q items =
    position_or_len_is p items (position_or_len q items) (pos 0) (prefix_len-le-length (λ n. not (q n)) items)
    (λ k below. agree (get_or items k (pos 0)) ∙ fails_before_first q items k (pos 0) below)
    (λ inside. agree (get_or items (position_or_len q items) (pos 0)) ∙ passes_at_first q items (pos 0) inside) in
    ap (λ n. cond (ltb n (length items)) (Some n) None) first

pub is-below : (n m : ℤ) → int_lt n m ≡ is_lt (int_cmp n m)
is-below n m = grind (arith, ints)

pub is-above : (n m : ℤ) → int_lt m n ≡ is_gt (int_cmp n m)
is-above n m = grind (arith, ints)

pub first-within : (search : Search) (sought : ℤ) (items : List ℤ) (count : ℕ) → count ≡ position_or_len (ends_at search sought) items → count ≤ length items
first-within search sought items count first = omega (arith, first, prefix_len-le-length (λ n. not (ends_at search sought n)) items)

module _ (search : Search) (sought : ℤ) (items : List ℤ) (scan : Scan) (e : scan.ended ≡ false) (count : ℕ) (first : count ≡ position_or_len (ends_at search sought) items) where
  abbrev step : Scan → Value → Scan
  step = with_value search (Number sought)

  before : (k : ℕ) → k < count → ends_at search sought (get_or items k (pos 0)) ≡ false
  before k below = fails_before_first (ends_at search sought) items k (pos 0) (omega (arith, below, first))

  -- no number ends the search
  pub run-all : count ≡ length items → with_run search scan count ≡ fold step scan (map Number items)
  run-all all =
      ap (with_run search scan) all ∙ sym (run search sought items (λ k below. before k (omega (arith, below, all))) scan e)

  -- one of them does
  pub run-some : (inside : count < length items) → with_order search (with_run search scan count) (Some (int_cmp (get_or items count (pos 0)) sought)) ≡ fold step scan (map Number items)
  run-some inside =
      let x : ℤ = get_or items count (pos 0) in
      let rest : List ℤ = drop (count + 1) items in
      let front : List ℤ = take count items in
      let size : length front ≡ count = length-take-le count items (omega (arith, inside)) in
      let split : items ≡ front ++ (x ∷ rest) = sym (take-append-drop count items) ∙ ap (λ ys. front ++ ys) (drop_more items count (pos 0) inside) in
      let past : ends_at search sought x ≡ true =
      ap (λ k. ends_at search sought (get_or items k (pos 0))) first ∙ passes_at_first (ends_at search sought) items (pos 0) (omega (arith, inside, first)) in
      let after : Scan = with_run search scan count in
      let to_front : fold step scan (map Number front) ≡ after =
      run search sought front (λ k below. ap (ends_at search sought) (get_or-take count items k (pos 0) (omega (arith, below, size))) ∙ before k (omega (arith, below, size))) scan e ∙ ap (with_run search scan) size in
      let last : Scan = with_order search after (Some (int_cmp x sought)) in
      sym (ap (λ ys. fold step scan (map Number ys)) split ∙ ap (fold step scan) (map-append Number front (x ∷ rest)) ∙ fold-append step scan (map Number front) (map Number (x ∷ rest))
      ∙ ap (λ s. fold step s (map Number (x ∷ rest))) to_front
      ∙ stuck search (Number sought) last past (map Number rest))

one-place : (search : Search) (sought : Value) (scan : Scan) (x : Value) (b : Bool) → (cond b scan (with_order search scan (order_in_kind x sought))).place ≤ scan.place + 1
one-place search sought scan x true = omega arith
one-place search sought scan x false = omega arith

-- a scan comes no further than the values
pub no-further : (search : Search) (sought : Value) (values : List Value) (scan : Scan) → (fold (with_value search sought) scan values).place ≤ scan.place + length values
no-further search sought [] scan = omega arith
no-further search sought (x ∷ xs) scan =
    omega (arith, no-further search sought xs (with_value search sought scan x), one-place search sought scan x scan.ended)
