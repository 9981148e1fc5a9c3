-- What the maximal runs of rows give back: the rows.
use Rattle.std.proofs.Common.{◌≡◌, ℕ, zero, suc, ◌+◌, ◌-◌, ◌<◌, ◌≤◌, Bool, true, false, ◌&&◌, nat_le, List, [], ◌∷◌, ◌++◌, map, length, replicate, slice_get, get_or, ◌^◌, Option, Some, None, refl, sym, ap, subst, ◌∙◌, inl, inr, ◌⊎◌, arith, append-nil}
use Rattle.std.specs.Bool.{Decides}
use Rattle.std.specs.List.{All}
use Rattle.std.proofs.lemmas.Bool.{cond-true, cond-false, and_from, and_left, and_right, le-leb, lt-leb, cases_lt, cond_both}
use Rattle.run_tables.specs.Runs.{Run, touches, meet, runs_from, runs_of, Rises, entry, entries_from, entries}
use Rattle.run_tables.specs.Edges.{HasSmallRows}
use Rattle.run_tables.proofs.RunLists.{meet-true, meet-false, one_row, runs-rise, touching_key, touching_place, joined, runs-append, runs-filled}

pub entry-in : {K : Type 0} (q : ℕ) (r : Run K) (t : List (Run K)) → r.first ≤ q → q ≤ r.last → entry q (r ∷ t) ≡ Some r.key
entry-in q r t f l = cond-true (nat_le r.first q && nat_le q r.last) _ _ (and_from _ _ (le-leb r.first q f) (le-leb q r.last l))

pub entry-past : {K : Type 0} (q : ℕ) (r : Run K) (t : List (Run K)) → r.last < q → entry q (r ∷ t) ≡ entry q t
entry-past q r t l = cond-false (nat_le r.first q && nat_le q r.last) _ _ (and_right (nat_le r.first q) (nat_le q r.last) (lt-leb q r.last l))

entry-above : {K : Type 0} (q : ℕ) (r : Run K) (t : List (Run K)) → q < r.first → entry q (r ∷ t) ≡ entry q t
entry-above q r t f = cond-false (nat_le r.first q && nat_le q r.last) _ _ (and_left (nat_le r.first q) (nat_le q r.last) (lt-leb r.first q f))

pub entry-none : {K : Type 0} (q p : ℕ) (t : List (Run K)) → q < p → Rises p t → entry q t ≡ None
entry-none q p [] h r = refl
entry-none q p (x ∷ t) h r = entry-above q x t (omega (arith, r.0)) ∙ entry-none q (x.last + 1) t (omega (arith, r.0, r.1)) r.2

entries-same : {K : Type 0} (p n : ℕ) (t u : List (Run K)) → ((q : ℕ) → p ≤ q → entry q t ≡ entry q u) → entries_from p n t ≡ entries_from p n u
entries-same p zero t u h = refl
entries-same p (suc n) t u h =
    ap (λ e. e ∷ entries_from (p + 1) n t) (h p (omega arith)) ∙ ap (λ v. entry p u ∷ v) (entries-same (p + 1) n t u (λ q g. h q (omega arith)))

pub entries-at : {K : Type 0} (p n i : ℕ) (t : List (Run K)) → i < n → slice_get (entries_from p n t) i ≡ Some (entry (p + i) t)
entries-at p zero i t h = absurd (omega arith)
entries-at p (suc n) zero t h = let e : p ≡ p + zero = omega arith in ap (λ q. Some (entry q t)) e
entries-at p (suc n) (suc i) t h = let e : p + 1 + i ≡ p + suc i = omega arith in entries-at (p + 1) n i t (omega arith) ∙ ap (λ q. Some (entry q t)) e

-- what a table gives a row of the column
pub entries-row : {K : Type 0} (n row : ℕ) (t : List (Run K)) → 1 ≤ row → row ≤ n → slice_get (entries n t) (row - 1) ≡ Some (entry row t)
unfolding entries
entries-row n row t h k =
    let place : 1 + (row - 1) ≡ row = omega arith in
    entries-at 1 n (row - 1) t (omega arith) ∙ ap (λ q. Some (entry q t)) place

pub length-entries_from : {K : Type 0} (p n : ℕ) (t : List (Run K)) → length (entries_from p n t) ≡ n
length-entries_from p zero t = refl
length-entries_from p (suc n) t = ap suc (length-entries_from (p + 1) n t)

pub length-entries : {K : Type 0} (n : ℕ) (t : List (Run K)) → length (entries n t) ≡ n
unfolding entries
length-entries n t = length-entries_from 1 n t

-- each run ends at row n or above it
abbrev AllEnd : {K : Type 0} → ℕ → List (Run K) → Type 0
AllEnd n [] = Unit {0}
AllEnd n (x ∷ t) = (x.last ≤ n) × AllEnd n t

small-from : {P K : Type 0} (run : P → Run K) (n q : ℕ) (xs : List P) → n < 2 ^ 31 → Rises q (map run xs) → AllEnd n (map run xs) → (k : ℕ) (d : P) → k < length xs → HasSmallRows (run (get_or xs k d))
small-from run n q [] low r a k d less = absurd (omega arith)
small-from run n q (x ∷ xs) low r a zero d less = (omega (arith, r.1, a.0), omega (arith, a.0))
small-from run n q (x ∷ xs) low r a (suc k) d less = small-from run n ((run x).last + 1) xs low r.2 a.1 k d (omega arith)

entries-nil_from : {K : Type 0} (p n : ℕ) → entries_from {K = K} p n [] ≡ replicate n None
entries-nil_from p zero = refl
entries-nil_from p (suc n) = ap (λ v. None ∷ v) (entries-nil_from (p + 1) n)

-- an empty table
pub entries-nil : {K : Type 0} (n : ℕ) → entries {K = K} n [] ≡ replicate n None
unfolding entries
entries-nil n = entries-nil_from 1 n

module _ {K : Type 0} (same : K → K → Bool) (decides : (k l : K) → Decides (same k l) (k ≡ l)) where
  entry-meet : (q : ℕ) (u : Run K) (t : List (Run K)) → u.first ≤ u.last → Rises (u.last + 1) t → entry q (meet same u t) ≡ entry q (u ∷ t)
  entry-meet q u [] h r = refl
  entry-meet q u (x ∷ t) h r = entry-meet-at (touches same u x) refl (cases_lt q u.first) (cases_lt u.last q) (cases_lt x.last q)
    where
      joint : Run K
      joint = record u { last = x.last }

      entry-meet-at : (b : Bool) → touches same u x ≡ b → (q < u.first) ⊎ (u.first ≤ q) → (u.last < q) ⊎ (q ≤ u.last) → (x.last < q) ⊎ (q ≤ x.last) → entry q (meet same u (x ∷ t)) ≡ entry q (u ∷ x ∷ t)
      entry-meet-at false e f l m = ap (entry q) (meet-false same decides u x t e)
      entry-meet-at true e f l m = ap (entry q) (meet-true same decides u x t e) ∙ entry-joint (touching_place same decides u x e) (touching_key same decides u x e) f l m
        where
          entry-joint : u.last + 1 ≡ x.first → u.key ≡ x.key → (q < u.first) ⊎ (u.first ≤ q) → (u.last < q) ⊎ (q ≤ u.last) → (x.last < q) ⊎ (q ≤ x.last) → entry q (joint ∷ t) ≡ entry q (u ∷ x ∷ t)
          entry-joint p k (inl above) l m = entry-above q joint t above ∙ sym (entry-above q u (x ∷ t) above ∙ entry-above q x t (omega arith))
          entry-joint p k (inr from) (inr to) m = entry-in q joint t from (omega (arith, r.1)) ∙ sym (entry-in q u (x ∷ t) from to)
          entry-joint p k (inr from) (inl past) (inr to) = entry-in q joint t from to ∙ ap Some k ∙ sym (entry-past q u (x ∷ t) past ∙ entry-in q x t (omega arith) to)
          entry-joint p k (inr from) (inl past) (inl beyond) = entry-past q joint t beyond ∙ sym (entry-past q u (x ∷ t) past ∙ entry-past q x t beyond)

  entries-runs-from : (p : ℕ) (s : List (Option K)) → entries_from p (length s) (runs_from same p s) ≡ s
  entries-runs-from p [] = refl
  entries-runs-from p (None ∷ s) =
      ap (λ e. e ∷ entries_from (p + 1) (length s) (runs_from same (p + 1) s)) (entry-none p (p + 1) _ (omega arith) (runs-rise same decides (p + 1) s))
      ∙ ap (λ v. None ∷ v) (entries-runs-from (p + 1) s)
  entries-runs-from p (Some k ∷ s) =
      let t : List (Run K) = runs_from same (p + 1) s in
      let rises : Rises (p + 1) t = runs-rise same decides (p + 1) s in
      ap (λ e. e ∷ entries_from (p + 1) (length s) (meet same (one_row same decides p k) t)) (entry-meet p (one_row same decides p k) t (omega arith) rises ∙ entry-in p (one_row same decides p k) t (omega arith) (omega arith))
      ∙ ap (λ v. Some k ∷ v)
      (entries-same (p + 1) (length s) (meet same (one_row same decides p k) t) t (λ q h. entry-meet q (one_row same decides p k) t (omega arith) rises ∙ entry-past q (one_row same decides p k) t (omega arith))
      ∙ entries-runs-from (p + 1) s)

  -- the maximal runs of a column give its rows back
  pub entries-runs : (n : ℕ) (s : List (Option K)) → length s ≡ n → entries n (runs_of same s) ≡ s
  unfolding entries
  entries-runs n s h = ap (λ m. entries_from 1 m (runs_of same s)) (sym h) ∙ entries-runs-from 1 s

  -- rows without a key at the end are in no run
  pub runs-trailing : (n : ℕ) (s : List (Option K)) → runs_of same (s ++ replicate n None) ≡ runs_of same s
  runs-trailing n s =
      runs-append same decides 1 s (replicate n None) ∙ ap (joined same decides (runs_of same s)) (runs-filled same decides (1 + length s) n None)
      ∙ sym (runs-append same decides 1 s []) ∙ ap (runs_of same) (append-nil s)

  runs-end : (p n : ℕ) (s : List (Option K)) → p + length s ≤ n + 1 → AllEnd n (runs_from same p s)
  runs-end p n [] h = tt
  runs-end p n (None ∷ s) h = runs-end (p + 1) n s (omega arith)
  runs-end p n (Some k ∷ s) h = meet-end n (one_row same decides p k) (runs_from same (p + 1) s) (omega arith) (runs-end (p + 1) n s (omega arith))
    where
      meet-end : (m : ℕ) (u : Run K) (t : List (Run K)) → u.last ≤ m → AllEnd m t → AllEnd m (meet same u t)
      meet-end m u [] l a = (l, tt)
      meet-end m u (x ∷ t) l a = cond_both (touches same u x) (record u { last = x.last } ∷ t) (u ∷ x ∷ t) (AllEnd m) (λ e. (a.0, a.1)) (λ e. (l, a))

  -- the runs of a column of at most n rows
  pub table-small : {P : Type 0} (run : P → Run K) (n : ℕ) (xs : List P) (s : List (Option K)) → length s ≤ n → n < 2 ^ 31 → map run xs ≡ runs_of same s → All (λ p. HasSmallRows (run p)) xs
  table-small run n xs s len low e = small-from run n 1 xs low (subst (Rises 1) (sym e) (runs-rise same decides 1 s)) (subst (AllEnd n) (sym e) (runs-end 1 n s (omega arith)))
