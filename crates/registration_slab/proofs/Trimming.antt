-- Places are trimmed one after the other.
use Rattle.std.proofs.Common.{◌≡◌, ℕ, ◌≤◌, true, false, List, drop, length, None, sym, ap, ◌∙◌, ⊎_elim}
use Rattle.std.proofs.Math.ListN.{drop_of_length-le}
use Rattle.std.proofs.lemmas.Bool.{cases_Bool, false≢true}
use Rattle.calc_addr.specs.Places.{Place}
use Rattle.area_listeners.specs.Pairs.{has_id}
use Rattle.registration_slab.specs.declared.cuts.Cut.{Cut}
use Rattle.registration_slab.specs.declared.slab.Slab.{Slab}
use Rattle.registration_slab.specs.Changes.{IsSlabOf}
use Rattle.registration_slab.specs.Cuts.{AreCandidates, is_cut}
use Rattle.registration_slab.specs.Slab.{Registrations, areas_of, at, has_cell}
use Rattle.registration_slab.proofs.Places.{lacks_read}

-- the places before the n-th are trimmed
pub record AreTrimmed (old now : Slab) (cut : Cut) (places : List ℕ) (n : ℕ) : Type 0 where
  pub slab : IsSlabOf now
  pub outside : (q : Place) → is_cut cut q ≡ false → areas_of now.registrations.items q ≡ areas_of old.registrations.items q
  pub left : AreCandidates old.registrations.items cut places → AreCandidates now.registrations.items cut (drop n places)

-- no place is left
pub all_trimmed : (rs : Registrations) (cut : Cut) (places : List ℕ) (n : ℕ) → length places ≤ n → AreCandidates rs cut (drop n places) → (q : Place) → is_cut cut q ≡ true → areas_of rs q ≡ None
all_trimmed rs cut places n end left q in_cut =
    lacks_read rs q (λ j.
    ⊎_elim (λ (e : has_cell (at rs j) q ≡ true). absurd (false≢true (ap (λ xs. has_id xs j) (sym (drop_of_length-le places end)) ∙ left j q in_cut e)))
    (λ (e : has_cell (at rs j) q ≡ false). e)
    (cases_Bool (has_cell (at rs j) q)))
