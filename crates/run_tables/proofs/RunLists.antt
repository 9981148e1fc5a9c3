-- Joining tables of runs.
use Rattle.std.proofs.Common.{◌≡◌, ℕ, zero, suc, ◌+◌, ◌-◌, ◌≤◌, ◌<◌, min, max, Bool, true, false, cond, nat_le, ◌&&◌, nat_eq, List, [], ◌∷◌, ◌++◌, map, take, drop, length, replicate, Option, Some, None, refl, sym, ap, subst, ◌∙◌, inl, inr, ◌⊎◌, arith}
use Rattle.std.specs.Bool.{Decides}
use Rattle.std.proofs.lemmas.Bool.{cond-true, cond-false, and_parts, and_from, eqb-true, le-leb, lt-leb}
use Rattle.std.proofs.lemmas.Bool.Decides.{nat_tests}
use Rattle.run_tables.specs.Runs.{Run, touches, meet, runs_from, moved, Rises}
use Rattle.run_tables.specs.Edges.{up_to, past}

-- the runs of the rows up to a
abbrev pub below : {K : Type 0} → ℕ → List (Run K) → List (Run K)
below a [] = []
below a (r ∷ t) = cond (nat_le r.first a) (up_to a r ∷ below a t) []

-- the runs of the rows past b
abbrev pub above : {K : Type 0} → ℕ → List (Run K) → List (Run K)
above b [] = []
above b (r ∷ t) = cond (nat_le r.last b) (above b t) (past b r ∷ t)

module _ {K : Type 0} (same : K → K → Bool) (decides : (k l : K) → Decides (same k l) (k ≡ l)) where
  -- a table in front of another
  abbrev pub joined : List (Run K) → List (Run K) → List (Run K)
  joined [] t = t
  joined (r ∷ s) t = meet same r (joined s t)

  pub meet-true : (r x : Run K) (t : List (Run K)) → touches same r x ≡ true → meet same r (x ∷ t) ≡ record r { last = x.last } ∷ t
  meet-true r x t h = cond-true (touches same r x) (record r { last = x.last } ∷ t) (r ∷ x ∷ t) h

  pub meet-false : (r x : Run K) (t : List (Run K)) → touches same r x ≡ false → meet same r (x ∷ t) ≡ r ∷ x ∷ t
  meet-false r x t h = cond-false (touches same r x) (record r { last = x.last } ∷ t) (r ∷ x ∷ t) h

  pub touching_key : (u x : Run K) → touches same u x ≡ true → u.key ≡ x.key
  touching_key u x h = (decides u.key x.key).0 (and_parts (nat_eq (u.last + 1) x.first) (same u.key x.key) h).1

  -- what touches the second of two that touch touches them joined
  touches-joined : (u x y : Run K) → touches same u x ≡ true → touches same (record u { last = x.last }) y ≡ touches same x y
  touches-joined u x y h = ap (λ k. nat_eq (x.last + 1) y.first && same k y.key) (touching_key u x h)

  meet-meet : (u x : Run K) (w : List (Run K)) → touches same u x ≡ true → meet same u (meet same x w) ≡ meet same (record u { last = x.last }) w
  meet-meet u x [] h = meet-true u x [] h
  meet-meet u x (y ∷ w) h = meet-meet-at (touches same x y) refl
    where
      meet-meet-at : (b : Bool) → touches same x y ≡ b → meet same u (meet same x (y ∷ w)) ≡ meet same (record u { last = x.last }) (y ∷ w)
      meet-meet-at true e = ap (meet same u) (meet-true x y w e) ∙ meet-true u (record x { last = y.last }) w h ∙ sym (meet-true (record u { last = x.last }) y w (touches-joined u x y h ∙ e))
      meet-meet-at false e = ap (meet same u) (meet-false x y w e) ∙ meet-true u x (y ∷ w) h ∙ sym (meet-false (record u { last = x.last }) y w (touches-joined u x y h ∙ e))

  -- a run of one row
  abbrev pub one_row : ℕ → K → Run K
  one_row p k = record { first = p; last = p; key = k }

  joined-meet : (u : Run K) (s t : List (Run K)) → meet same u (joined s t) ≡ joined (meet same u s) t
  joined-meet u [] t = refl
  joined-meet u (x ∷ s) t = joined-meet-at (touches same u x) refl
    where
      joined-meet-at : (b : Bool) → touches same u x ≡ b → meet same u (joined (x ∷ s) t) ≡ joined (meet same u (x ∷ s)) t
      joined-meet-at true e = meet-meet u x (joined s t) e ∙ ap (λ v. joined v t) (sym (meet-true u x s e))
      joined-meet-at false e = ap (λ v. joined v t) (sym (meet-false u x s e))

  -- the runs of rows that are joined from two parts
  pub runs-append : (p : ℕ) (xs ys : List (Option K)) → runs_from same p (xs ++ ys) ≡ joined (runs_from same p xs) (runs_from same (p + length xs) ys)
  runs-append p [] ys = let e : p ≡ p + zero = omega arith in ap (λ q. runs_from same q ys) e
  runs-append p (None ∷ xs) ys =
      let e : p + 1 + length xs ≡ p + suc (length xs) = omega arith in
      runs-append (p + 1) xs ys ∙ ap (λ q. joined (runs_from same (p + 1) xs) (runs_from same q ys)) e
  runs-append p (Some k ∷ xs) ys =
      let e : p + 1 + length xs ≡ p + suc (length xs) = omega arith in
      ap (meet same (one_row p k)) (runs-append (p + 1) xs ys ∙ ap (λ q. joined (runs_from same (p + 1) xs) (runs_from same q ys)) e)
      ∙ joined-meet (one_row p k) (runs_from same (p + 1) xs) (runs_from same (p + suc (length xs)) ys)

  -- n rows with one entry
  abbrev pub filled : ℕ → ℕ → Option K → List (Run K)
  filled p n None = []
  filled p zero (Some k) = []
  filled p (suc n) (Some k) = record { first = p; last = p + n; key = k } ∷ []

  pub runs-filled : (p n : ℕ) (e : Option K) → runs_from same p (replicate n e) ≡ filled p n e
  runs-filled p zero None = refl
  runs-filled p (suc n) None = runs-filled (p + 1) n None
  runs-filled p zero (Some k) = refl
  runs-filled p (suc zero) (Some k) = let e : p ≡ p + zero = omega arith in ap (λ l. record { first = p; last = l; key = k } ∷ []) e
  runs-filled p (suc (suc n)) (Some k) =
      let e : p + 1 + n ≡ p + suc n = omega arith in
      let t : touches same (one_row p k) (record { first = p + 1; last = p + 1 + n; key = k }) ≡ true = and_from _ _ (grind (arith, nat_tests)) ((decides k k).1 refl) in
      ap (meet same (one_row p k)) (runs-filled (p + 1) (suc n) (Some k)) ∙ meet-true (one_row p k) (record { first = p + 1; last = p + 1 + n; key = k }) [] t ∙ ap (λ l. record { first = p; last = l; key = k } ∷ []) e

  Rises-from : (p q : ℕ) (t : List (Run K)) → q ≤ p → Rises p t → Rises q t
  Rises-from p q [] h r = tt
  Rises-from p q (x ∷ t) h r = (omega arith, r.1, r.2)

  Rises-meet : (p : ℕ) (k : K) (t : List (Run K)) → Rises (p + 1) t → Rises p (meet same (one_row p k) t)
  Rises-meet p k [] r = (omega arith, omega arith, tt)
  Rises-meet p k (x ∷ t) r = Rises-meet-at (touches same (one_row p k) x) refl
    where
      Rises-meet-at : (b : Bool) → touches same (one_row p k) x ≡ b → Rises p (meet same (one_row p k) (x ∷ t))
      Rises-meet-at true e = subst (Rises p) (sym (meet-true (one_row p k) x t e)) (omega arith, omega arith, r.2)
      Rises-meet-at false e = subst (Rises p) (sym (meet-false (one_row p k) x t e)) (omega arith, omega arith, r)

  pub runs-rise : (p : ℕ) (s : List (Option K)) → Rises p (runs_from same p s)
  runs-rise p [] = tt
  runs-rise p (None ∷ s) = Rises-from (p + 1) p _ (omega arith) (runs-rise (p + 1) s)
  runs-rise p (Some k ∷ s) = Rises-meet p k _ (runs-rise (p + 1) s)

  -- neighbours that don't join
  abbrev pub Apart : Run K → List (Run K) → Type 0
  Apart r [] = Unit {0}
  Apart r (x ∷ t) = touches same r x ≡ false

  abbrev pub Parted : List (Run K) → Type 0
  Parted [] = Unit {0}
  Parted (x ∷ t) = Apart x t × Parted t

  Apart-joined : (u x : Run K) (t : List (Run K)) → touches same u x ≡ true → Apart x t → Apart (record u { last = x.last }) t
  Apart-joined u x [] h a = tt
  Apart-joined u x (y ∷ t) h a = touches-joined u x y h ∙ a

  Parted-meet : (u : Run K) (t : List (Run K)) → Parted t → Parted (meet same u t)
  Parted-meet u [] h = (tt, tt)
  Parted-meet u (x ∷ t) h = Parted-meet-at (touches same u x) refl
    where
      Parted-meet-at : (b : Bool) → touches same u x ≡ b → Parted (meet same u (x ∷ t))
      Parted-meet-at true e = subst Parted (sym (meet-true u x t e)) (Apart-joined u x t e h.0, h.1)
      Parted-meet-at false e = subst Parted (sym (meet-false u x t e)) (e, h)

  pub runs-parted : (p : ℕ) (s : List (Option K)) → Parted (runs_from same p s)
  runs-parted p [] = tt
  runs-parted p (None ∷ s) = runs-parted (p + 1) s
  runs-parted p (Some k ∷ s) = Parted-meet (one_row p k) _ (runs-parted (p + 1) s)

  meet-moved : (b c q : ℕ) (k : K) (t : List (Run K)) → Rises (q + b + 1) t → meet same (one_row (q + c) k) (map (moved b c) t) ≡ map (moved b c) (meet same (one_row (q + b) k) t)
  meet-moved b c q k [] r = let e : q + c ≡ q + b - b + c = omega arith in ap (λ p. one_row p k ∷ []) e
  meet-moved b c q k (x ∷ t) r = meet-moved-at (touches same (one_row (q + b) k) x) refl
    where
      place : q + c ≡ q + b - b + c
      place = omega arith

      same_test : touches same (one_row (q + c) k) (moved b c x) ≡ touches same (one_row (q + b) k) x
      same_test = let h : q + b + 1 ≤ x.first = r.0 in let e : nat_eq (q + c + 1) (x.first - b + c) ≡ nat_eq (q + b + 1) x.first = grind (arith, nat_tests) in ap (λ v. v && same k x.key) e

      meet-moved-at : (v : Bool) → touches same (one_row (q + b) k) x ≡ v → meet same (one_row (q + c) k) (map (moved b c) (x ∷ t)) ≡ map (moved b c) (meet same (one_row (q + b) k) (x ∷ t))
      meet-moved-at true e =
          meet-true (one_row (q + c) k) (moved b c x) (map (moved b c) t) (same_test ∙ e)
          ∙ ap (λ p. record { first = p; last = x.last - b + c; key = k } ∷ map (moved b c) t) place
          ∙ ap (map (moved b c)) (sym (meet-true (one_row (q + b) k) x t e))
      meet-moved-at false e =
          meet-false (one_row (q + c) k) (moved b c x) (map (moved b c) t) (same_test ∙ e)
          ∙ ap (λ p. one_row p k ∷ map (moved b c) (x ∷ t)) place
          ∙ ap (map (moved b c)) (sym (meet-false (one_row (q + b) k) x t e))

  pub runs-moved : (b c q : ℕ) (s : List (Option K)) → runs_from same (q + c) s ≡ map (moved b c) (runs_from same (q + b) s)
  runs-moved b c q [] = refl
  runs-moved b c q (None ∷ s) =
      let e : q + c + 1 ≡ q + 1 + c = omega arith in
      let f : q + 1 + b ≡ q + b + 1 = omega arith in
      ap (λ p. runs_from same p s) e ∙ runs-moved b c (q + 1) s ∙ ap (λ p. map (moved b c) (runs_from same p s)) f
  runs-moved b c q (Some k ∷ s) =
      let e : q + c + 1 ≡ q + 1 + c = omega arith in
      let f : q + 1 + b ≡ q + b + 1 = omega arith in
      ap (meet same (one_row (q + c) k)) (ap (λ p. runs_from same p s) e ∙ runs-moved b c (q + 1) s ∙ ap (λ p. map (moved b c) (runs_from same p s)) f)
      ∙ meet-moved b c q k (runs_from same (q + b + 1) s) (runs-rise (q + b + 1) s)

  pub below-cut : (a : ℕ) (x : Run K) (t : List (Run K)) → x.first ≤ a → below a (x ∷ t) ≡ record x { last = min x.last a } ∷ below a t
  below-cut a x t h = cond-true (nat_le x.first a) _ _ (le-leb x.first a h)

  pub below-past : (a : ℕ) (x : Run K) (t : List (Run K)) → a < x.first → below a (x ∷ t) ≡ []
  below-past a x t h = cond-false (nat_le x.first a) _ _ (lt-leb x.first a h)

  pub above-skip : (b : ℕ) (x : Run K) (t : List (Run K)) → x.last ≤ b → above b (x ∷ t) ≡ above b t
  above-skip b x t h = cond-true (nat_le x.last b) _ _ (le-leb x.last b h)

  pub above-cut : (b : ℕ) (x : Run K) (t : List (Run K)) → b < x.last → above b (x ∷ t) ≡ record x { first = max x.first (b + 1) } ∷ t
  above-cut b x t h = cond-false (nat_le x.last b) _ _ (lt-leb x.last b h)

  min-front : (p a : ℕ) → p ≤ a → min p a ≡ p
  min-front p a h = omega arith

  pub cases_le : (m n : ℕ) → (m ≤ n) ⊎ (n < m)
  cases_le m n = grind arith

  pub touching_place : (u x : Run K) → touches same u x ≡ true → u.last + 1 ≡ x.first
  touching_place u x h = eqb-true (u.last + 1) x.first (and_parts (nat_eq (u.last + 1) x.first) (same u.key x.key) h).0

  pair_path : {A B : Type 0} {a c : A} {b d : B} → a ≡ c → b ≡ d → ◌≡◌ {A = A × B} (a, b) (c, d)
  pair_path e f = cc

  below-none : (p a : ℕ) (t : List (Run K)) → a < p → Rises p t → below a t ≡ []
  below-none p a [] h r = refl
  below-none p a (x ∷ t) h r = cond-false (nat_le x.first a) _ _ (let g : p ≤ x.first = r.0 in grind (arith, nat_tests))

  below-meet : (p a : ℕ) (k : K) (t : List (Run K)) → p ≤ a → Rises (p + 1) t → below a (meet same (one_row p k) t) ≡ meet same (one_row p k) (below a t)
  below-meet p a k [] h r = below-cut a (one_row p k) [] h ∙ ap (λ l. record { first = p; last = l; key = k } ∷ []) (min-front p a h)
  below-meet p a k (x ∷ t) h r = below-meet-at (touches same (one_row p k) x) refl (cases_le x.first a)
    where
      below-meet-at : (v : Bool) → touches same (one_row p k) x ≡ v → (x.first ≤ a) ⊎ (a < x.first) → below a (meet same (one_row p k) (x ∷ t)) ≡ meet same (one_row p k) (below a (x ∷ t))
      below-meet-at true e (inl in_a) =
          ap (below a) (meet-true (one_row p k) x t e) ∙ below-cut a (record { first = p; last = x.last; key = k }) t h
          ∙ sym (ap (meet same (one_row p k)) (below-cut a x t in_a) ∙ meet-true (one_row p k) (record x { last = min x.last a }) (below a t) e)
      below-meet-at true e (inr past) =
          let at : p + 1 ≡ x.first = touching_place (one_row p k) x e in
          let end : min x.last a ≡ p = omega (arith, r.1) in
          ap (below a) (meet-true (one_row p k) x t e) ∙ below-cut a (record { first = p; last = x.last; key = k }) t h
          ∙ ap (λ z. record { first = p; last = z.0; key = k } ∷ z.1) (pair_path end (below-none (x.last + 1) a t (omega (arith, r.1)) r.2))
          ∙ sym (ap (meet same (one_row p k)) (below-past a x t past))
      below-meet-at false e (inl in_a) =
          ap (below a) (meet-false (one_row p k) x t e) ∙ below-cut a (one_row p k) (x ∷ t) h
          ∙ ap (λ l. record { first = p; last = l; key = k } ∷ below a (x ∷ t)) (min-front p a h)
          ∙ ap (λ v. one_row p k ∷ v) (below-cut a x t in_a)
          ∙ sym (ap (meet same (one_row p k)) (below-cut a x t in_a) ∙ meet-false (one_row p k) (record x { last = min x.last a }) (below a t) e)
      below-meet-at false e (inr past) =
          ap (below a) (meet-false (one_row p k) x t e) ∙ below-cut a (one_row p k) (x ∷ t) h
          ∙ ap (λ l. record { first = p; last = l; key = k } ∷ below a (x ∷ t)) (min-front p a h)
          ∙ ap (λ v. one_row p k ∷ v) (below-past a x t past)
          ∙ sym (ap (meet same (one_row p k)) (below-past a x t past))

  above-all : (p b : ℕ) (t : List (Run K)) → p ≡ b + 1 → Rises p t → above b t ≡ t
  above-all p b [] h r = refl
  above-all p b (x ∷ t) h r =
      let e : max x.first (b + 1) ≡ x.first = omega (arith, r.0) in
      above-cut b x t (omega (arith, r.0, r.1)) ∙ ap (λ f. record x { first = f } ∷ t) e

  above-meet : (p b : ℕ) (k : K) (t : List (Run K)) → p ≤ b → Rises (p + 1) t → above b (meet same (one_row p k) t) ≡ above b t
  above-meet p b k [] h r = above-skip b (one_row p k) [] h
  above-meet p b k (x ∷ t) h r = above-meet-at (touches same (one_row p k) x) refl (cases_le x.last b)
    where
      above-meet-at : (v : Bool) → touches same (one_row p k) x ≡ v → (x.last ≤ b) ⊎ (b < x.last) → above b (meet same (one_row p k) (x ∷ t)) ≡ above b (x ∷ t)
      above-meet-at true e (inl in_b) =
          ap (above b) (meet-true (one_row p k) x t e) ∙ above-skip b (record { first = p; last = x.last; key = k }) t in_b ∙ sym (above-skip b x t in_b)
      above-meet-at true e (inr past) =
          let place : max p (b + 1) ≡ max x.first (b + 1) = omega (arith, touching_place (one_row p k) x e) in
          ap (above b) (meet-true (one_row p k) x t e) ∙ above-cut b (record { first = p; last = x.last; key = k }) t past
          ∙ ap (λ f. record { first = f; last = x.last; key = k } ∷ t) place
          ∙ ap (λ l. record { first = max x.first (b + 1); last = x.last; key = l } ∷ t) (touching_key (one_row p k) x e)
          ∙ sym (above-cut b x t past)
      above-meet-at false e c = ap (above b) (meet-false (one_row p k) x t e) ∙ above-skip b (one_row p k) (x ∷ t) h

  pub runs-take : (p n a : ℕ) (s : List (Option K)) → a + 1 ≡ p + n → runs_from same p (take n s) ≡ below a (runs_from same p s)
  runs-take p zero a s h = sym (below-none p a _ (omega arith) (runs-rise p s))
  runs-take p (suc n) a [] h = refl
  runs-take p (suc n) a (None ∷ s) h = runs-take (p + 1) n a s (omega arith)
  runs-take p (suc n) a (Some k ∷ s) h = ap (meet same (one_row p k)) (runs-take (p + 1) n a s (omega arith)) ∙ sym (below-meet p a k _ (omega arith) (runs-rise (p + 1) s))

  pub runs-drop : (p n b : ℕ) (s : List (Option K)) → b + 1 ≡ p + n → runs_from same (b + 1) (drop n s) ≡ above b (runs_from same p s)
  runs-drop p zero b s h = let e : b + 1 ≡ p = omega arith in ap (λ q. runs_from same q s) e ∙ sym (above-all p b _ (sym e) (runs-rise p s))
  runs-drop p (suc n) b [] h = refl
  runs-drop p (suc n) b (None ∷ s) h = runs-drop (p + 1) n b s (omega arith)
  runs-drop p (suc n) b (Some k ∷ s) h = runs-drop (p + 1) n b s (omega arith) ∙ sym (above-meet p b k _ (omega arith) (runs-rise (p + 1) s))
