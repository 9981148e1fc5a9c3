-- Lists of results: all of them, or the first error.
use Rattle.std.proofs.Common.{◌≡◌, List, [], ◌∷◌, ◌++◌, ap, sym, refl, ◌∙◌, append_assoc, Ok, Err}
use Rattle.std.specs.Prelude.{Result}
use Rattle.calc_model.specs.declared.fault.Fault.{Fault}
use Rattle.calc_model.specs.Parameters.{all_ok, and_then}

module _ {A : Type 0} where
  abbrev Same : Result (List A) Fault → Result (List A) Fault → Type 0
  Same r s = r ≡ s

  inside : {a b : List A} → Same (Ok a) (Ok b) → a ≡ b
  inside e = cc

  apart : {a : List A} {fault : Fault} → Same (Ok a) (Err fault) → ⊥
  apart e = cc

  -- some values, and then the others or their first error
  abbrev pub after : List A → Result (List A) Fault → Result (List A) Fault
  after ns (Ok ms) = Ok (ns ++ ms)
  after ns (Err fault) = Err fault

  pub after-none : (r : Result (List A) Fault) → after [] r ≡ r
  after-none (Ok ms) = refl
  after-none (Err fault) = refl

  and_then-after : (n : A) (ns : List A) (r : Result (List A) Fault) → and_then n (after ns r) ≡ after (n ∷ ns) r
  and_then-after n ns (Ok ms) = refl
  and_then-after n ns (Err fault) = refl

  pub after-after : (ns ms : List A) (r : Result (List A) Fault) → after ns (after ms r) ≡ after (ns ++ ms) r
  after-after ns ms (Ok ks) = ap Ok (sym (append_assoc ns ms ks))
  after-after ns ms (Err fault) = refl

  cut_off : (n : A) (xs : List (Result A Fault)) (fault : Fault) → and_then n (all_ok xs) ≡ Err fault → all_ok xs ≡ Err fault
  cut_off n xs fault e = elim (all_ok xs) as (λ r. and_then n r ≡ Err fault → r ≡ Err fault) [ Ok ns ↦ λ h. absurd (apart h) | Err f ↦ λ h. h ] e

  tail_of : (n : A) (xs : List (Result A Fault)) (ms : List A) → and_then n (all_ok xs) ≡ Ok ms → (ns : List A) × (all_ok xs ≡ Ok ns) × (ms ≡ n ∷ ns)
  tail_of n xs ms e = elim (all_ok xs) as (λ r. and_then n r ≡ Ok ms → (ns : List A) × (r ≡ Ok ns) × (ms ≡ n ∷ ns)) [ Ok ns ↦ λ h. (ns, refl, sym (inside h)) | Err f ↦ λ h. absurd (apart (sym h)) ] e

  -- values before others
  pub all_ok-before : (xs ys : List (Result A Fault)) (ns : List A) → all_ok xs ≡ Ok ns → all_ok (xs ++ ys) ≡ after ns (all_ok ys)
  all_ok-before [] ys ns e = sym (after-none (all_ok ys)) ∙ ap (λ ms. after ms (all_ok ys)) (inside e)
  all_ok-before (Ok n ∷ xs) ys ns e =
      let t = tail_of n xs ns e in
      ap (and_then n) (all_ok-before xs ys t.0 t.1) ∙ and_then-after n t.0 (all_ok ys) ∙ ap (λ ms. after ms (all_ok ys)) (sym t.2)
  all_ok-before (Err fault ∷ xs) ys ns e = absurd (apart (sym e))

  -- an error before others is the first
  pub all_ok-error : (xs ys : List (Result A Fault)) (fault : Fault) → all_ok xs ≡ Err fault → all_ok (xs ++ ys) ≡ Err fault
  all_ok-error [] ys fault e = absurd (apart e)
  all_ok-error (Ok n ∷ xs) ys fault e = ap (and_then n) (all_ok-error xs ys fault (cut_off n xs fault e))
  all_ok-error (Err f ∷ xs) ys fault e = e
