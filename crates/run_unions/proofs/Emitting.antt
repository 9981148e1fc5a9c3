-- One run more, of runs that are sorted by their first cells.
use Rattle.std.proofs.Common.{◌≡◌, ℕ, zero, suc, ◌+◌, ◌-◌, ◌≤◌, ◌<◌, Bool, true, false, ◌&&◌, ◌||◌, max, nat_eq, nat_le, nat_lt, List, [], ◌∷◌, ◌++◌, length, get_or, map, take, Result, Ok, Err, ◌⊎◌, inl, inr, refl, sym, ap, subst, ◌∙◌, append_assoc, ⊎_elim, arith}
use Rattle.std.specs.Prelude.{OnErr}
use Rattle.std.specs.List.{list_any, range_with_len}
use Rattle.std.specs.List.Sorted.{IsNonDecreasingBy}
use Rattle.std.proofs.lemmas.Bool.{and_from, and_parts, cases_eq, cases_lt, false≢true}
use Rattle.std.proofs.lemmas.Bool.Decides.{nat_tests}
use Rattle.std.proofs.lemmas.List.{map-append}
use Rattle.std.proofs.lemmas.List.Folds.{list_any-append, list_any_more}
use Rattle.calc_addr.specs.Places.{IsRows, Place, Rows}
use Rattle.run_unions.specs.Emitted.{IsEmitting, has, rises}
use Rattle.run_unions.specs.Keys.{MOST, first_key, has_key, last_key, place_at}

pub on_err : {T E : Type 0} {P : Type 0} (r : Result T E) → P → OnErr r P
on_err (Ok x) p = tt
on_err (Err e) p = p

-- the front that was there stays
pub kept_front : (old mid now xs : List Place) → mid ≡ old ++ xs → take (length mid) now ≡ mid → take (length old) now ≡ old
kept_front [] mid now xs is kept = refl
kept_front (p ∷ ps) [] now xs is kept = absurd (none is)
  where
    none : {ys : List Place} → [] ≡ p ∷ ys → ⊥
    none h = cc
kept_front (p ∷ ps) (m ∷ ms) [] xs is kept = absurd (none kept)
  where
    none : {ys : List Place} → [] ≡ m ∷ ys → ⊥
    none h = cc
kept_front (p ∷ ps) (m ∷ ms) (n ∷ ns) xs is kept =
    let heads : m ≡ p = head is in
    let tails : ms ≡ ps ++ xs = tail is in
    let head_kept : n ≡ m = head kept in
    let tail_kept : take (length ms) ns ≡ ms = tail kept in
    let rest = kept_front ps ms ns xs tails tail_kept in
    ap (λ x. x ∷ take (length ps) ns) (head_kept ∙ heads) ∙ ap (λ zs. p ∷ zs) rest
  where
    head : {a b : Place} {xs ys : List Place} → a ∷ xs ≡ b ∷ ys → a ≡ b
    head h = cc

    tail : {a b : Place} {xs ys : List Place} → a ∷ xs ≡ b ∷ ys → xs ≡ ys
    tail h = cc

rises-append : (low mid high : ℕ) (xs ys : List ℕ) → rises low xs mid ≡ true → rises mid ys high ≡ true → rises low (xs ++ ys) high ≡ true
rises-append low mid high [] [] h k = grind (arith, nat_tests)
rises-append low mid high [] (y ∷ ys) h k =
    let parts = and_parts _ _ k in
    and_from (nat_le low y) (rises (y + 1) ys high) (up low mid y h parts.0) parts.1
  where
    up : (a b c : ℕ) → nat_le a b ≡ true → nat_le b c ≡ true → nat_le a c ≡ true
    up a b c h k = grind (arith, nat_tests)
rises-append low mid high (x ∷ xs) ys h k =
    let parts = and_parts _ _ h in
    and_from (nat_le low x) (rises (x + 1) (xs ++ ys) high) parts.0 (rises-append (x + 1) mid high xs ys parts.1 k)

rises-range : (low high first n : ℕ) → low ≤ first → low ≤ high → first + n ≤ high ⊎ (n ≡ 0) → rises low (range_with_len first n) high ≡ true
rises-range low high first zero from to within = grind (arith, nat_tests)
rises-range low high first (suc n) from to within =
    let here : first + suc n ≤ high = ⊎_elim (λ (h : first + suc n ≤ high). h) (λ (h : suc n ≡ 0). absurd (omega arith)) within in
    and_from (nat_le low first) (rises (first + 1) (range_with_len (first + 1) n) high) (at_least low first from)
    (rises-range (first + 1) high (first + 1) n (omega arith) (omega arith) (inl (omega arith)))
  where
    at_least : (a b : ℕ) → a ≤ b → nat_le a b ≡ true
    at_least a b h = grind (arith, nat_tests)

has-range : (first n k : ℕ) → has (range_with_len first n) k ≡ (nat_le first k && nat_lt k (first + n))
has-range first zero k = grind (arith, nat_tests)
has-range first (suc n) k = let h = has-range (first + 1) n k in grind (arith, nat_tests, h)

new_above : (first next last k : ℕ) → first ≤ k → next ≤ k → (nat_le (max first next) k && nat_lt k (max first next + (last + 1 - max first next))) ≡ (nat_le first k && nat_le k last)
new_above first next last k h l = grind (arith, nat_tests)

none_below : (first next last k : ℕ) → k < first → (nat_le (max first next) k && nat_lt k (max first next + (last + 1 - max first next))) ≡ (nat_le first k && nat_le k last)
none_below first next last k h = grind (arith, nat_tests)

-- a number is new, or was there
either : (any : Bool) (first next last k : ℕ) → (first ≤ k → k < next → any ≡ true)
    → (any || (nat_le (max first next) k && nat_lt k (max first next + (last + 1 - max first next)))) ≡ (any || (nat_le first k && nat_le k last))
either true first next last k held = refl
either false first next last k held =
    ⊎_elim (λ (low : k < first). none_below first next last k low)
    (λ (high : first ≤ k).
    ⊎_elim (λ (h : k < next). absurd (false≢true (held high h))) (λ (h : next ≤ k). new_above first next last k high h) (cases_lt k next))
    (cases_lt k first)

same_item : (xs : List Rows) (i : ℕ) (d e : Rows) → i < length xs → get_or xs i d ≡ get_or xs i e
same_item [] i d e h = absurd (omega arith)
same_item (x ∷ xs) zero d e h = refl
same_item (x ∷ xs) (suc i) d e h = same_item xs i d e (omega arith)

pub or_right : (a b : Bool) → b ≡ true → (a || b) ≡ true
or_right true b h = refl
or_right false b h = h

or_left : (a b : Bool) → a ≡ true → (a || b) ≡ true
or_left a b h = ap (λ x. x || b) h

below_one : (j n : ℕ) → j < n + 1 → (j ≡ n → ⊥) → j < n
below_one j n h ne = omega arith

between : (first last k : ℕ) → first ≤ k → k < last + 1 → (nat_le first k && nat_le k last) ≡ true
between first last k h l = grind (arith, nat_tests)

fits_or_none : (a b n : ℕ) → (max a n + (b + 1 - max a n) ≤ max n (b + 1)) ⊎ (b + 1 - max a n ≡ 0)
fits_or_none a b n = ⊎_elim (λ (h : b + 1 < max a n). inr (omega arith)) (λ (h : max a n ≤ b + 1). inl (omega arith)) (cases_lt (b + 1) (max a n))

module _ (old now new : List Place) (runs : List Rows) (sorted : IsNonDecreasingBy first_key runs) (n next : ℕ) (run : Rows) (emitting : IsEmitting old now runs n next)
    (within : n < length runs) (is : run ≡ get_or runs n run) (rows : IsRows run)
    (pushed : new ≡ now ++ map place_at (range_with_len (max (first_key run) next) (last_key run + 1 - max (first_key run) next))) where
  more : (k : ℕ) → list_any (has_key k) (take (n + 1) runs) ≡ (list_any (has_key k) (take n runs) || has_key k run)
  more k = list_any_more (has_key k) runs n run within ∙ ap (λ (r : Rows). list_any (has_key k) (take n runs) || has_key k r) (sym is)

  item : (d : Rows) → get_or runs n d ≡ run
  item d = same_item runs n d run within ∙ sym is

  firsts : (k : ℕ) → first_key run ≤ k → (j : ℕ) (d : Rows) → j < n → first_key (get_or runs j d) ≤ k
  firsts k low j d below =
      let h : first_key (get_or runs j d) ≤ first_key (get_or runs n d) = sorted j n d (omega arith) within in
      le_trans (first_key (get_or runs j d)) (first_key run) k (subst (λ (r : Rows). first_key (get_or runs j d) ≤ first_key r) (item d) h) low
    where
      le_trans : (a b c : ℕ) → a ≤ b → b ≤ c → a ≤ c
      le_trans a b c h k = omega arith

  next_held : (k : ℕ) → ((j : ℕ) (d : Rows) → j < n + 1 → first_key (get_or runs j d) ≤ k) → k < max next (last_key run + 1) → list_any (has_key k) (take (n + 1) runs) ≡ true
  next_held k low below =
      more k
      ∙ ⊎_elim (λ (h : k < next). or_left _ (has_key k run) (emitting.held k (λ j d jn. low j d (omega arith)) h))
      (λ (h : next ≤ k).
      let here : first_key run ≤ k = subst (λ (r : Rows). first_key r ≤ k) (item run) (low n run (omega arith)) in
      or_right (list_any (has_key k) (take n runs)) (has_key k run) (between (first_key run) (last_key run) k here (under k next (last_key run + 1) h below)))
      (cases_lt k next)
    where
      under : (k a b : ℕ) → a ≤ k → k < max a b → k < b
      under k a b h l = omega arith

  next_rows : (j : ℕ) (d : Rows) → j < n + 1 → IsRows (get_or runs j d)
  next_rows j d below =
      ⊎_elim (λ (e : j ≡ n). subst (λ i. IsRows (get_or runs i d)) (sym e) (subst IsRows (sym (item d)) rows))
      (λ (ne : j ≡ n → ⊥). emitting.rows j d (below_one j n below ne))
      (cases_eq j n)

  pub emits : (top : ℕ) → top ≡ max next (last_key run + 1) → top ≤ MOST → IsEmitting old new runs (n + 1) top
  emits top top_is top_in =
      let first : ℕ = first_key run in
      let last : ℕ = last_key run in
      let start : ℕ = max first next in
      let m : ℕ = last + 1 - start in
      let keys : List ℕ = emitting.keys in
      record {
        keys = keys ++ range_with_len start m;
        is = pushed ∙ ap (λ xs. xs ++ map place_at (range_with_len start m)) emitting.is ∙ append_assoc old (map place_at keys) (map place_at (range_with_len start m))
            ∙ ap (λ xs. old ++ xs) (sym (map-append place_at keys (range_with_len start m)));
        rise = subst (λ t. rises 0 (keys ++ range_with_len start m) t ≡ true) (sym top_is)
            (rises-append 0 next (max next (last + 1)) keys (range_with_len start m) emitting.rise
            (rises-range next (max next (last + 1)) start m (le_max first next) (max_le next (last + 1)) (fits_or_none first last next)));
        top = top_in;
        each = λ k. list_any-append (nat_eq k) keys (range_with_len start m) ∙ ap (λ b. b || has (range_with_len start m) k) (emitting.each k)
            ∙ ap (λ b. list_any (has_key k) (take n runs) || b) (has-range start m k)
            ∙ either (list_any (has_key k) (take n runs)) first next last k (λ low below. emitting.held k (firsts k low) below)
            ∙ sym (more k);
        held = λ k low below. next_held k low (subst (λ t. k < t) top_is below);
        rows = next_rows;
      }
    where
      le_max : (a b : ℕ) → b ≤ max a b
      le_max a b = omega arith

      max_le : (a b : ℕ) → a ≤ max a b
      max_le a b = omega arith
