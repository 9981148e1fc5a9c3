-- What a scan finds is what a search is to find.
use Rattle.std.proofs.Common.{◌≡◌, ℕ, ℤ, pos, negsuc, zero, suc, ◌+◌, ◌<◌, ◌≤◌, Bool, true, false, not, cond, ◌&&◌, List, [], ◌∷◌, ◌++◌, length, reverse, take, Option, Some, None, refl, sym, ap, subst, inl, inr, ◌∙◌, arith}
use Rattle.std.specs.Prelude.{fold}
use Rattle.std.specs.List.{find, list_all, range_with_len}
use Rattle.std.specs.Option.{IfSome, is_none, option_or}
use Rattle.std.specs.Ordering.{is_eq}
use Rattle.std.specs.declared.cmp.Ordering.{Ordering}
use Rattle.std.proofs.lemmas.Bool.{and_right, cases_order, false≢true}
use Rattle.std.proofs.lemmas.List.{reverse-append, take_all}
use Rattle.std.proofs.lemmas.List.Folds.{find-append, list_all_more}
use Rattle.std.proofs.lemmas.List.Sums.{fold_more}
use Rattle.calc_model.specs.Criteria.{order_in_kind, passes}
use Rattle.calc_model.specs.Search.{exact_place, ordered_place, place_by, value_at}
use Rattle.calc_model.specs.declared.value.Value.{Value}
use Rattle.calc_model.specs.declared.value.Value.TheVariants.{Blank}
use Rattle.fn_lookup.specs.declared.scan.Scan.{Scan}
use Rattle.fn_lookup.specs.declared.scan.Search.{Search}
use Rattle.fn_lookup.specs.declared.scan.Search.TheVariants.{Exact, Ascending, Descending}
use Rattle.fn_lookup.specs.Scans.{fits, is_past, search_of, with_order, with_value}

-- the last number below n that passes
abbrev pub IsLast : (ℕ → Bool) → ℕ → Option ℕ → Type 0
IsLast test n None = (q : ℕ) → q < n → test q ≡ false
IsLast test n (Some p) = (p < n) × (test p ≡ true) × ((q : ℕ) → p < q → q < n → test q ≡ false)

last-here : (test : ℕ → Bool) (n : ℕ) → test n ≡ true → IsLast test (suc n) (Some n)
last-here test n e = (omega arith, e, λ q above below. absurd (omega (arith, above, below)))

fails-at : (test : ℕ → Bool) (n q : ℕ) → test n ≡ false → (q < n → test q ≡ false) → q < suc n → test q ≡ false
fails-at test n q e before h =
    elim (cases_order q n) [
      | inl same ↦ ap test same ∙ e
      | inr (inl below) ↦ before below
      | inr (inr above) ↦ absurd (omega (arith, h, above))
    ]

last-same : (test : ℕ → Bool) (n : ℕ) (r : Option ℕ) → test n ≡ false → IsLast test n r → IsLast test (suc n) r
last-same test n None e h = λ q below. fails-at test n q e (h q) below
last-same test n (Some p) e h = (omega (arith, h.0), h.1, λ q above below. fails-at test n q e (h.2 q above) below)

-- one more number, where b says whether it passes
last-more : (test : ℕ → Bool) (n : ℕ) (r : Option ℕ) (b : Bool) → test n ≡ b → IsLast test n r → IsLast test (suc n) (cond b (Some n) r)
last-more test n r true e h = last-here test n e
last-more test n r false e h = last-same test n r e h

last-unique : (test : ℕ → Bool) (n : ℕ) (r s : Option ℕ) → IsLast test n r → IsLast test n s → r ≡ s
last-unique test n None None h k = refl
last-unique test n None (Some q) h k = absurd (false≢true (sym (h q k.0) ∙ k.1))
last-unique test n (Some p) None h k = absurd (false≢true (sym (k p h.0) ∙ h.1))
last-unique test n (Some p) (Some q) h k =
    elim (cases_order p q) [
      | inl same ↦ ap Some same
      | inr (inl below) ↦ absurd (false≢true (sym (h.2 q below k.0) ∙ k.1))
      | inr (inr above) ↦ absurd (false≢true (sym (k.2 p above h.0) ∙ h.1))
    ]

range-more : (a n : ℕ) → range_with_len a (suc n) ≡ range_with_len a n ++ (a + n) ∷ []
range-more a zero = let e : a ≡ a + 0 = omega arith in ap (λ x. x ∷ []) e
range-more a (suc n) =
    let e : a + 1 + n ≡ a + suc n = omega arith in
    ap (λ xs. a ∷ xs) (range-more (a + 1) n ∙ ap (λ x. range_with_len (a + 1) n ++ x ∷ []) e)

range-from-none : (n : ℕ) → range_with_len 0 (suc n) ≡ range_with_len 0 n ++ n ∷ []
range-from-none n = let e : 0 + n ≡ n = omega arith in range-more 0 n ∙ ap (λ x. range_with_len 0 n ++ x ∷ []) e

-- looking from the end finds the last one
last-found : (test : ℕ → Bool) (n : ℕ) → IsLast test n (find test (reverse (range_with_len 0 n)))
last-found test zero = λ q below. absurd (omega (arith, below))
last-found test (suc n) =
    subst (λ xs. IsLast test (suc n) (find test xs)) (sym (ap reverse (range-from-none n) ∙ reverse-append (range_with_len 0 n) (n ∷ [])))
    (last-more test n (find test (reverse (range_with_len 0 n))) (test n) refl (last-found test n))

module _ (right past : Ordering → Bool) (sought : Value) (all : List Value) where
  -- no value of the kind stands past the sought one
  abbrev is_before : Value → Bool
  is_before value = not (passes past (order_in_kind value sought))

  abbrev pub can_be : ℕ → Bool
  can_be place = passes right (order_in_kind (value_at all place) sought) && list_all is_before (take place all)

-- the search has passed so many values
record IsUpTo (search : Search) (sought : Value) (all : List Value) (i : ℕ) (scan : Scan) : Type 0 where
  last : IsLast (can_be (fits search) (is_past search) sought all) i scan.found
  ended : scan.ended ≡ not (list_all (is_before (fits search) (is_past search) sought all) (take i all))
  place : scan.ended ≡ false → scan.place ≡ i

not-not : (b : Bool) → not (not b) ≡ b
not-not true = refl
not-not false = refl

and-true : (b c : Bool) → c ≡ true → (b && c) ≡ b
and-true true c e = e
and-true false c e = refl

all-more : (p : Value → Bool) (all : List Value) (i : ℕ) → i < length all → list_all p (take (suc i) all) ≡ (list_all p (take i all) && p (value_at all i))
all-more p all i inside = let e : suc i ≡ i + 1 = omega arith in ap (λ k. list_all p (take k all)) e ∙ list_all_more p all i Blank inside

module _ (search : Search) (sought : Value) (all : List Value) (i : ℕ) (inside : i < length all) (scan : Scan) (h : IsUpTo search sought all i scan) where
  abbrev test : ℕ → Bool
  test = can_be (fits search) (is_past search) sought all

  abbrev before : Value → Bool
  before = is_before (fits search) (is_past search) sought all

  abbrev order : Option Ordering
  order = order_in_kind (value_at all i) sought

  stays : scan.ended ≡ true → IsUpTo search sought all (suc i) scan
  stays e =
      let none : list_all before (take i all) ≡ false = sym (not-not _) ∙ ap not (sym h.ended ∙ e) in
      record {
        last = last-same test i scan.found (and_right (passes (fits search) order) (list_all before (take i all)) none) h.last;
        ended = e ∙ ap not (sym (all-more before all i inside ∙ ap (λ b. b && before (value_at all i)) none));
        place = λ other. absurd (false≢true (sym other ∙ e));
      }

  goes : scan.ended ≡ false → IsUpTo search sought all (suc i) (with_order search scan order)
  goes e =
      let all_before : list_all before (take i all) ≡ true = sym (not-not _) ∙ ap not (sym h.ended ∙ e) in
      let here : scan.place ≡ i = h.place e in
      record {
        last =
            subst (λ p. IsLast test (suc i) (cond (passes (fits search) order) (Some p) scan.found)) (sym here)
            (last-more test i scan.found (passes (fits search) order) (and-true (passes (fits search) order) _ all_before) h.last);
        ended = sym (ap not (all-more before all i inside ∙ ap (λ b. b && before (value_at all i)) all_before) ∙ not-not _);
        place = λ _. omega (arith, here);
      }

  up-more : (b : Bool) → scan.ended ≡ b → IsUpTo search sought all (suc i) (with_value search sought scan (value_at all i))
  up-more true e = subst (λ b. IsUpTo search sought all (suc i) (cond b scan (with_order search scan order))) (sym e) (stays e)
  up-more false e = subst (λ b. IsUpTo search sought all (suc i) (cond b scan (with_order search scan order))) (sym e) (goes e)

abbrev pub nothing : Scan
nothing = record { place = 0; found = None; ended = false }

module _ (search : Search) (sought : Value) (all : List Value) where
  up-to : (i : ℕ) → i ≤ length all → IsUpTo search sought all i (fold (with_value search sought) nothing (take i all))
  up-to zero h = record { last = λ q below. absurd (omega (arith, below)); ended = refl; place = λ _. refl }
  up-to (suc i) h =
      let inside : i < length all = omega (arith, h) in
      let so_far : Scan = fold (with_value search sought) nothing (take i all) in
      let e : i + 1 ≡ suc i = omega arith in
      subst (IsUpTo search sought all (suc i)) (sym (fold_more (with_value search sought) nothing all i Blank inside) ∙ ap (λ k. fold (with_value search sought) nothing (take k all)) e)
      (up-more search sought all i inside so_far (up-to i (omega (arith, h))) so_far.ended refl)

  scanned : IsLast (can_be (fits search) (is_past search) sought all) (length all) (fold (with_value search sought) nothing all).found
  scanned =
      subst (λ xs. IsLast (can_be (fits search) (is_past search) sought all) (length all) (fold (with_value search sought) nothing xs).found) (take_all (length all) all (omega arith))
      (up-to (length all) (omega arith)).last

  ordered-scanned : (fold (with_value search sought) nothing all).found ≡ ordered_place (fits search) (is_past search) sought all
  ordered-scanned =
      last-unique _ (length all) _ _ scanned (last-found (can_be (fits search) (is_past search) sought all) (length all))

-- the first place that is equal is the last with none before it
module _ (sought : Value) (all : List Value) where
  abbrev equal_at : ℕ → Bool
  equal_at place = passes is_eq (order_in_kind (value_at all place) sought)

  abbrev differs : Value → Bool
  differs = is_before is_eq is_eq sought all

  record IsFirst (i : ℕ) (r : Option ℕ) : Type 0 where
    last : IsLast (can_be is_eq is_eq sought all) i r
    none : is_none r ≡ list_all differs (take i all)

  first-none : (b : Bool) (i : ℕ) → is_none (cond b (Some i) None) ≡ not b
  first-none true i = refl
  first-none false i = refl

  first-more : (i : ℕ) → i < length all → (r : Option ℕ) → IsFirst i r → IsFirst (suc i) (option_or r (cond (equal_at i) (Some i) None))
  first-more i inside None h = record {
    last = last-more (can_be is_eq is_eq sought all) i None (equal_at i) (and-true (equal_at i) _ (sym h.none)) h.last;
    none = first-none (equal_at i) i ∙ ap (λ b. b && differs (value_at all i)) h.none ∙ sym (all-more differs all i inside);
  }
  first-more i inside (Some p) h = record {
    last = last-same (can_be is_eq is_eq sought all) i (Some p) (and_right (equal_at i) _ (sym h.none)) h.last;
    none = ap (λ b. b && differs (value_at all i)) h.none ∙ sym (all-more differs all i inside);
  }

  first-found : (i : ℕ) → i ≤ length all → IsFirst i (find equal_at (range_with_len 0 i))
  first-found zero h = record { last = λ q below. absurd (omega (arith, below)); none = refl }
  first-found (suc i) h =
      subst (IsFirst (suc i)) (sym (ap (find equal_at) (range-from-none i) ∙ find-append equal_at (range_with_len 0 i) (i ∷ [])))
      (first-more i (omega (arith, h)) (find equal_at (range_with_len 0 i)) (first-found i (omega (arith, h))))

  exact-scanned : (fold (with_value Exact sought) nothing all).found ≡ exact_place sought all
  exact-scanned =
      last-unique _ (length all) _ _ (scanned Exact sought all) (first-found (length all) (omega arith)).last

-- a scan finds the place of the search of its type
pub scan-finds : (type : ℤ) (sought : Value) (all : List Value) → (fold (with_value (search_of type) sought) nothing all).found ≡ place_by type sought all
scan-finds (pos zero) sought all = exact-scanned sought all
scan-finds (pos (suc n)) sought all = ordered-scanned Ascending sought all
scan-finds (negsuc n) sought all = ordered-scanned Descending sought all

-- and it lies in the list
pub found-within : (search : Search) (sought : Value) (all : List Value) → IfSome (fold (with_value search sought) nothing all).found (λ place. place < length all)
found-within search sought all = within _ (scanned search sought all)
  where
    within : (r : Option ℕ) → IsLast (can_be (fits search) (is_past search) sought all) (length all) r → IfSome r (λ place. place < length all)
    within None h = tt
    within (Some p) h = h.0
