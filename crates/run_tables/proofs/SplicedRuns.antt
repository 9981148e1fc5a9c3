-- The runs after an edit of rows, from the runs before it: what lies in front of the edit and behind it stays, but
-- for one run on either side.
use Rattle.std.proofs.Common.{◌≡◌, ℕ, zero, suc, ◌+◌, ◌-◌, ◌≤◌, ◌<◌, min, Bool, true, false, ◌&&◌, nat_eq, List, [], ◌∷◌, ◌++◌, map, take, drop, length, replicate, Option, Some, None, refl, sym, ap, subst, ◌∙◌, arith, IfSome, IfNone, slice_get, option_map}
use Rattle.std.specs.Bool.{Decides}
use Rattle.std.proofs.lemmas.List.{length-take-le, length-replicate}
use Rattle.run_tables.specs.Rows.{spliced}
use Rattle.run_tables.specs.Runs.{Run, touches, meet, runs_from, runs_of, Rises, moved}
use Rattle.run_tables.specs.Edges.{up_to, past, options, fronted, run_before, filled_run, right_run, IsMet, IsFirstPast, IsFirstEndingPast}
use Rattle.run_tables.proofs.RunLists.{joined, meet-true, meet-false, runs-append, filled, runs-filled, runs-rise, Parted, runs-parted, runs-moved, below, above, below-cut, below-past, above-skip, above-cut, runs-take, runs-drop}

-- the runs of a list begin past row a
abbrev pub BeginsPast : {K : Type 0} → ℕ → List (Run K) → Type 0
BeginsPast a [] = Unit {0}
BeginsPast a (y ∷ ys) = a < y.first

BeginsPast-drop : {K : Type 0} (a j : ℕ) (t : List (Run K)) → IfSome (slice_get t j) (λ r. a < r.first) → BeginsPast a (drop j t)
BeginsPast-drop a zero [] h = tt
BeginsPast-drop a zero (x ∷ t) h = h
BeginsPast-drop a (suc j) [] h = tt
BeginsPast-drop a (suc j) (x ∷ t) h = BeginsPast-drop a j t h

-- a table at one of its runs
record SplitAt {K : Type 0} (t : List (Run K)) (i : ℕ) : Type 0 where
  run : Run K
  at : slice_get t i ≡ Some run
  split : t ≡ take i t ++ run ∷ drop (suc i) t

split_at : {K : Type 0} (t : List (Run K)) (i : ℕ) → i < length t → SplitAt t i
split_at (x ∷ t) zero h = record { run = x; at = refl; split = refl }
split_at (x ∷ t) (suc i) h =
    let rest : SplitAt t i = split_at t i (omega arith) in
    record { run = rest.run; at = rest.at; split = ap (λ v. x ∷ v) rest.split }
split_at [] i h = absurd (omega arith)

module _ {K : Type 0} (same : K → K → Bool) (decides : (k l : K) → Decides (same k l) (k ≡ l)) where
  front : (xs : List (Run K)) (l : Run K) (ys : List (Run K)) (z : Run K) (w : List (Run K)) → Parted same decides (xs ++ l ∷ ys) → z.first ≡ l.first → z.key ≡ l.key → joined same decides xs (z ∷ w) ≡ xs ++ z ∷ w
  front [] l ys z w h f k = refl
  front (x ∷ []) l ys z w h f k =
      meet-false same decides x z w (ap (λ q. nat_eq (x.last + 1) q && same x.key z.key) f ∙ ap (λ v. nat_eq (x.last + 1) l.first && same x.key v) k ∙ h.0)
  front (x ∷ y ∷ xs) l ys z w h f k = ap (meet same x) (front (y ∷ xs) l ys z w h.1 f k) ∙ meet-false same decides x y (xs ++ z ∷ w) h.0

  rises-reach : (q : ℕ) (xs : List (Run K)) (l : Run K) (ys : List (Run K)) → Rises q (xs ++ l ∷ ys) → q ≤ l.first
  rises-reach q [] l ys r = r.0
  rises-reach q (x ∷ xs) l ys r = omega (arith, r.0, r.1, rises-reach (x.last + 1) xs l ys r.2)

  below-split : (p a : ℕ) (xs : List (Run K)) (l : Run K) (ys : List (Run K)) → Rises p (xs ++ l ∷ ys) → l.first ≤ a → BeginsPast a ys → below a (xs ++ l ∷ ys) ≡ xs ++ up_to a l ∷ []
  below-split p a [] l [] r h g = below-cut same decides a l [] h
  below-split p a [] l (y ∷ ys) r h g = below-cut same decides a l (y ∷ ys) h ∙ ap (λ v. up_to a l ∷ v) (below-past same decides a y ys g)
  below-split p a (x ∷ xs) l ys r h g =
      let reach : x.last + 1 ≤ l.first = rises-reach (x.last + 1) xs l ys r.2 in
      let e : min x.last a ≡ x.last = omega arith in
      below-cut same decides a x (xs ++ l ∷ ys) (omega (arith, r.1)) ∙ ap (λ v. record x { last = v } ∷ below a (xs ++ l ∷ ys)) e
      ∙ ap (λ v. x ∷ v) (below-split (x.last + 1) a xs l ys r.2 h g)

  joined-push : (xs : List (Run K)) (l : Run K) (w : List (Run K)) → joined same decides (xs ++ l ∷ []) w ≡ joined same decides xs (meet same l w)
  joined-push [] l w = refl
  joined-push (x ∷ xs) l w = ap (meet same x) (joined-push xs l w)

  -- how a run begins that may take in another
  record Headed (r : Run K) (t : List (Run K)) : Type 0 where
    first : Run K
    rest : List (Run K)
    is : t ≡ first ∷ rest
    place : first.first ≡ r.first
    key : first.key ≡ r.key

  meet-head : (r : Run K) (w : List (Run K)) → Headed r (meet same r w)
  meet-head r [] = record { first = r; rest = []; is = refl; place = refl; key = refl }
  meet-head r (x ∷ w) = meet-head-at (touches same r x) refl
    where
      meet-head-at : (b : Bool) → touches same r x ≡ b → Headed r (meet same r (x ∷ w))
      meet-head-at true e = record { first = record r { last = x.last }; rest = w; is = meet-true same decides r x w e; place = refl; key = refl }
      meet-head-at false e = record { first = r; rest = x ∷ w; is = meet-false same decides r x w e; place = refl; key = refl }

  -- the table up to row a, in front of others: the last run that begins there may join with them
  pub left-join : (p a : ℕ) (t xs : List (Run K)) (l : Run K) (ys w : List (Run K)) → t ≡ xs ++ l ∷ ys → Rises p t → Parted same decides t → l.first ≤ a → BeginsPast a ys → joined same decides (below a t) w ≡ xs ++ meet same (up_to a l) w
  left-join p a t xs l ys w e r q h g =
      let z = meet-head (up_to a l) w in
      ap (λ v. joined same decides (below a v) w) e
      ∙ ap (λ v. joined same decides v w) (below-split p a xs l ys (subst (Rises p) e r) h g)
      ∙ joined-push xs (up_to a l) w
      ∙ ap (joined same decides xs) z.is
      ∙ front xs l ys z.first z.rest (subst (Parted same decides) e q) z.place z.key
      ∙ ap (λ v. xs ++ v) (sym z.is)

  pub left-none : (a : ℕ) (t : List (Run K)) → BeginsPast a t → below a t ≡ []
  left-none a [] h = refl
  left-none a (y ∷ ys) h = below-past same decides a y ys h

  -- the table past row b
  pub right-cut : (p b : ℕ) (xs : List (Run K)) (l : Run K) (ys : List (Run K)) → Rises p (xs ++ l ∷ ys) → l.last ≤ b → above b (xs ++ l ∷ ys) ≡ above b ys
  right-cut p b [] l ys r h = above-skip same decides b l ys h
  right-cut p b (x ∷ xs) l ys r h =
      let reach : x.last + 1 ≤ l.first = rises-reach (x.last + 1) xs l ys r.2 in
      let order : l.first ≤ l.last = ends-in-order (x.last + 1) xs l ys r.2 in
      above-skip same decides b x (xs ++ l ∷ ys) (omega arith) ∙ right-cut (x.last + 1) b xs l ys r.2 h
    where
      ends-in-order : (q : ℕ) (vs : List (Run K)) (m : Run K) (ws : List (Run K)) → Rises q (vs ++ m ∷ ws) → m.first ≤ m.last
      ends-in-order q [] m ws o = o.1
      ends-in-order q (v ∷ vs) m ws o = ends-in-order (v.last + 1) vs m ws o.2

  left-part : (p a low : ℕ) (t w : List (Run K)) → Rises p t → Parted same decides t → low ≤ length t → IsFirstPast a t low → joined same decides (below a t) w ≡ take (low - 1) t ++ fronted same (option_map (up_to a) (run_before t low)) w
  left-part p a zero t w r q h f = ap (λ v. joined same decides v w) (left-none a t (BeginsPast-drop a zero t f.here))
  left-part p a (suc i) t w r q h f =
      let s : SplitAt t i = split_at t i (omega arith) in
      let begins : s.run.first ≤ a = subst (λ o. IfSome o (λ v. v.first ≤ a)) s.at (f.before i (omega arith)) in
      let e : i ≡ suc i - 1 = omega arith in
      left-join p a t (take i t) s.run (drop (suc i) t) w s.split r q begins (BeginsPast-drop a (suc i) t f.here)
      ∙ ap (λ o. take i t ++ fronted same (option_map (up_to a) o) w) (sym s.at)
      ∙ ap (λ v. take v t ++ fronted same (option_map (up_to a) (slice_get t i)) w) e

  above-drop : (p b high : ℕ) (t : List (Run K)) → Rises p t → high ≤ length t → IsFirstEndingPast b t high → above b t ≡ above b (drop high t)
  above-drop p b zero t r h f = refl
  above-drop p b (suc i) t r h f =
      let s : SplitAt t i = split_at t i (omega arith) in
      let ends : s.run.last ≤ b = subst (λ o. IfSome o (λ v. v.last ≤ b)) s.at (f.before i (omega arith)) in
      ap (above b) s.split ∙ right-cut p b (take i t) s.run (drop (suc i) t) (subst (Rises p) s.split r) ends

  above-front : (b high : ℕ) (t : List (Run K)) → IfSome (slice_get t high) (λ r. b < r.last) → above b (drop high t) ≡ options (option_map (past b) (slice_get t high)) ++ drop (suc high) t
  above-front b zero [] h = refl
  above-front b zero (x ∷ t) h = above-cut same decides b x t h
  above-front b (suc i) [] h = refl
  above-front b (suc i) (x ∷ t) h = above-front b i t h

  joined-filled : (a n : ℕ) (e : Option K) (w : List (Run K)) → joined same decides (filled same decides (1 + a) n e) w ≡ fronted same (filled_run a n e) w
  joined-filled a n None w = refl
  joined-filled a zero (Some k) w = refl
  joined-filled a (suc n) (Some k) w =
      let e : 1 + a ≡ a + 1 = omega arith in
      let f : 1 + a + n ≡ a + suc n = omega arith in
      ap (λ v. meet same (record { first = v; last = 1 + a + n; key = k }) w) e ∙ ap (λ v. meet same (record { first = a + 1; last = v; key = k }) w) f

  -- what an edit leaves of a table, and what it puts there, in three tables
  spliced-joined : (a b n : ℕ) (e : Option K) (s : List (Option K)) → a ≤ length s → runs_of same (spliced a b n e s) ≡ joined same decides (below a (runs_of same s)) (fronted same (filled_run a n e) (map (moved b (a + n)) (above b (runs_of same s))))
  spliced-joined a b n e s h =
      let front_len : length (take a s) ≡ a = length-take-le a s h in
      let fill_len : length (replicate n e) ≡ n = length-replicate n e in
      let seam : 1 + length (take a s) ≡ 1 + a = omega arith in
      let past_seam : 1 + a + length (replicate n e) ≡ 1 + (a + n) = omega arith in
      let one : b + 1 ≡ 1 + b = omega arith in
      let start : a + 1 ≡ 1 + a = omega arith in
      let tail : runs_from same (1 + a + length (replicate n e)) (drop b s) ≡ map (moved b (a + n)) (above b (runs_of same s)) =
      ap (λ p. runs_from same p (drop b s)) past_seam ∙ runs-moved same decides b (a + n) 1 (drop b s)
      ∙ ap (map (moved b (a + n))) (ap (λ p. runs_from same p (drop b s)) (sym one) ∙ runs-drop same decides 1 b b s one) in
      runs-append same decides 1 (take a s) (replicate n e ++ drop b s)
      ∙ ap (λ v. joined same decides v (runs_from same (1 + length (take a s)) (replicate n e ++ drop b s))) (runs-take same decides 1 a a s start)
      ∙ ap (λ p. joined same decides (below a (runs_of same s)) (runs_from same p (replicate n e ++ drop b s))) seam
      ∙ ap (joined same decides (below a (runs_of same s)))
      (runs-append same decides (1 + a) (replicate n e) (drop b s) ∙ ap (joined same decides (runs_from same (1 + a) (replicate n e))) tail
      ∙ ap (λ v. joined same decides v (map (moved b (a + n)) (above b (runs_of same s)))) (runs-filled same decides (1 + a) n e)
      ∙ joined-filled a n e (map (moved b (a + n)) (above b (runs_of same s))))

  moved-front : (b c high : ℕ) (t : List (Run K)) → map (moved b c) (options (option_map (past b) (slice_get t high)) ++ drop (suc high) t) ≡ options (right_run b c t high) ++ map (moved b c) (drop (suc high) t)
  moved-front b c zero [] = refl
  moved-front b c zero (x ∷ t) = refl
  moved-front b c (suc i) [] = refl
  moved-front b c (suc i) (x ∷ t) = moved-front b c i t

  none-past : (b c high : ℕ) (t : List (Run K)) → IfNone (right_run b c t high) (map (moved b c) (drop (suc high) t) ≡ [])
  none-past b c zero [] = refl
  none-past b c zero (x ∷ t) = tt
  none-past b c (suc i) [] = refl
  none-past b c (suc i) (x ∷ t) = none-past b c i t

  pub splice-runs : (a b n : ℕ) (e : Option K) (s : List (Option K)) (t : List (Run K)) (low high : ℕ) (x y z w : Option (Run K)) → a ≤ length s → t ≡ runs_of same s → low ≤ length t → high ≤ length t → IsFirstPast a t low → IsFirstEndingPast b t high → IsMet same (filled_run a n e) (right_run b (a + n) t high) w z → IsMet same (option_map (up_to a) (run_before t low)) w x y → runs_of same (spliced a b n e s) ≡ take (low - 1) t ++ (options x ++ (options y ++ (options z ++ map (moved b (a + n)) (drop (suc high) t))))
  splice-runs a b n e s t low high x y z w h is in_low in_high f g fill left =
      let rises : Rises 1 t = subst (Rises 1) (sym is) (runs-rise same decides 1 s) in
      let parted : Parted same decides t = subst (Parted same decides) (sym is) (runs-parted same decides 1 s) in
      let rest : List (Run K) = map (moved b (a + n)) (drop (suc high) t) in
      let tail : map (moved b (a + n)) (above b t) ≡ options (right_run b (a + n) t high) ++ rest =
      ap (map (moved b (a + n))) (above-drop 1 b high t rises in_high g ∙ above-front b high t g.here) ∙ moved-front b (a + n) high t in
      let ended : IfNone (right_run b (a + n) t high) (rest ≡ []) = none-past b (a + n) high t in
      spliced-joined a b n e s h
      ∙ ap (λ v. joined same decides (below a v) (fronted same (filled_run a n e) (map (moved b (a + n)) (above b v)))) (sym is)
      ∙ left-part 1 a low t _ rises parted in_low f
      ∙ ap (λ v. take (low - 1) t ++ fronted same (option_map (up_to a) (run_before t low)) v)
      (ap (fronted same (filled_run a n e)) tail ∙ fill.joins rest ended)
      ∙ ap (λ v. take (low - 1) t ++ v) (left.joins (options z ++ rest) (fill.ends rest ended))
