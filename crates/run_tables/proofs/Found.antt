-- The run of a table that has a row.
use Rattle.std.proofs.Common.{◌≡◌, ℕ, zero, suc, ◌+◌, ◌-◌, ◌<◌, ◌≤◌, ◌≢◌, List, [], ◌∷◌, map, length, get_or, slice_get, Some, None, IfSome, option_map, refl, sym, ap, subst, ◌∙◌, arith}
use Rattle.std.proofs.lemmas.Option.{slice_get-map, slice_get_read}
use Rattle.run_tables.specs.Runs.{Run, Rises, entry}
use Rattle.run_tables.specs.Edges.{IsFirstPast}
use Rattle.run_tables.proofs.Entries.{entry-in, entry-past, entry-none}

-- the row lies in the run at a place, or behind it
pub record LiesAt {K : Type 0} (q : ℕ) (t : List (Run K)) (l : Run K) : Type 0 where
  pub inside : q ≤ l.last → entry q t ≡ Some l.key
  pub behind : l.last < q → entry q t ≡ None

begins-none : {K : Type 0} (q p : ℕ) (t : List (Run K)) → Rises p t → IfSome (slice_get t zero) (λ r. q < r.first) → entry q t ≡ None
begins-none q p [] r h = refl
begins-none q p (y ∷ t) r h = entry-none q y.first (y ∷ t) h (omega arith, r.1, r.2)

lies-at : {K : Type 0} (q p i : ℕ) (t : List (Run K)) (l : Run K) → Rises p t → slice_get t i ≡ Some l → l.first ≤ q → IfSome (slice_get t (suc i)) (λ r. q < r.first) → LiesAt q t l
lies-at q p i [] l r is h next = absurd cc
lies-at {K} q p zero (x ∷ t) l r is h next =
    let same : x ≡ l = cc in
    let at : LiesAt q (x ∷ t) x = record {
      inside = λ to. entry-in q x t (subst (λ (v : Run K). v.first ≤ q) (sym same) h) to;
      behind = λ past. entry-past q x t past ∙ begins-none q (x.last + 1) t r.2 next;
    } in
    subst (LiesAt q (x ∷ t)) same at
lies-at q p (suc i) (x ∷ t) l r is h next =
    let rest : LiesAt q t l = lies-at q (x.last + 1) i t l r.2 is h next in
    let reach : x.last + 1 ≤ l.first = reaches (x.last + 1) i t l r.2 is in
    let skip : entry q (x ∷ t) ≡ entry q t = entry-past q x t (omega arith) in
    record { inside = λ to. skip ∙ rest.inside to; behind = λ past. skip ∙ rest.behind past }
  where
    reaches : {K : Type 0} (b j : ℕ) (u : List (Run K)) (m : Run K) → Rises b u → slice_get u j ≡ Some m → b ≤ m.first
    reaches b j [] m o e = absurd cc
    reaches {K} b zero (y ∷ u) m o e = let same_run : y ≡ m = cc in subst (λ (v : Run K). b ≤ v.first) same_run o.0
    reaches b (suc j) (y ∷ u) m o e = let g : y.last + 1 ≤ m.first = reaches (y.last + 1) j u m o.2 e in omega (arith, o.0, o.1)

pub found-none : {P K : Type 0} (run : P → Run K) (q i : ℕ) (xs : List P) → Rises 1 (map run xs) → i ≡ 0 → IsFirstPast q (map run xs) i → entry q (map run xs) ≡ None
found-none run q i xs r e f = begins-none q 1 (map run xs) r (subst (λ j. IfSome (slice_get (map run xs) j) (λ v. q < v.first)) e f.here)

pub found-at : {P K : Type 0} (run : P → Run K) (q i : ℕ) (xs : List P) (x : P) → Rises 1 (map run xs) → i ≢ 0 → i ≤ length xs → x ≡ get_or xs (i - 1) x → IsFirstPast q (map run xs) i → LiesAt q (map run xs) (run x) × ((run x).first ≤ q)
found-at run q zero xs x r ne within is f = absurd (ne refl)
found-at run q (suc i) xs x r ne within is f =
    let e : suc i - 1 ≡ i = omega arith in
    let at : slice_get (map run xs) i ≡ Some (run x) = slice_get-map run xs i ∙ ap (option_map run) (slice_get_read xs (length xs) i x refl (omega arith) (is ∙ ap (λ j. get_or xs j x) e)) in
    let begins : (run x).first ≤ q = subst (λ o. IfSome o (λ v. v.first ≤ q)) at (f.before i (omega arith)) in
    (lies-at q 1 i (map run xs) (run x) r at begins f.here, begins)
