-- The maximal runs of a column lie in its rows.
use Rattle.std.proofs.Common.{ℕ, ◌+◌, ◌≤◌, ◌<◌, Bool, true, false, cond, List, [], ◌∷◌, length, map, Option, Some, None, arith}
use Rattle.std.specs.List.{AllByRecursion}
use Rattle.run_tables.specs.Runs.{Run, meet, runs_from, touches}

-- the run's rows lie from one row up to another
pub record LieIn {K : Type 0} (p behind : ℕ) (r : Run K) : Type 0 where
  pub from : p ≤ r.first
  pub in_order : r.first ≤ r.last
  pub to : r.last < behind

module _ {K : Type 0} (same : K → K → Bool) (behind : ℕ) where
  abbrev AllIn : ℕ → List (Run K) → Type 0
  AllIn p t = AllByRecursion (LieIn p behind) t

  lower : (p : ℕ) (t : List (Run K)) → AllIn (p + 1) t → AllIn p t
  lower p [] all = tt
  lower p (r ∷ t) all = (record { from = omega (arith, all.0.from); in_order = all.0.in_order; to = all.0.to }, lower p t all.1)

  met_in : (p : ℕ) (k : K) (t : List (Run K)) → p < behind → AllIn (p + 1) t → AllIn p (meet same (record { first = p; last = p; key = k }) t)
  met_in p k [] fits all = (record { from = omega arith; in_order = omega arith; to = fits }, tt)
  met_in p k (x ∷ t) fits all =
      let r : Run K = record { first = p; last = p; key = k } in
      elim (touches same r x) as (λ b. AllIn p (cond b (record r { last = x.last } ∷ t) (r ∷ x ∷ t))) [
        | true ↦ (record { from = omega arith; in_order = omega (arith, all.0.from, all.0.in_order); to = all.0.to }, lower p t all.1)
        | false ↦ (record { from = omega arith; in_order = omega arith; to = fits }, lower p (x ∷ t) all)
      ]

  pub runs_lie : (p : ℕ) (s : List (Option K)) → p + length s ≤ behind → AllIn p (runs_from same p s)
  runs_lie p [] fits = tt
  runs_lie p (None ∷ s) fits = lower p (runs_from same (p + 1) s) (runs_lie (p + 1) s (omega (arith, fits)))
  runs_lie p (Some k ∷ s) fits = met_in p k (runs_from same (p + 1) s) (omega (arith, fits)) (runs_lie (p + 1) s (omega (arith, fits)))

-- what holds of the images of all
pub each_is : {A B : Type 0} (P : A → Type 0) (Q : B → Type 0) (f : A → B) → ((x : A) → P x → Q (f x)) → (xs : List A) → AllByRecursion P xs → AllByRecursion Q (map f xs)
each_is P Q f is [] all = tt
each_is P Q f is (x ∷ xs) all = (is x all.0, each_is P Q f is xs all.1)
