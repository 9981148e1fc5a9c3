-- What a registration that is taken out and registered again in parts leaves.
use Rattle.std.proofs.Common.{◌≡◌, ℕ, Bool, true, false, cond, not, ◌&&◌, List, Option, Some, None, refl, sym, ap, ◌∙◌, ⊎_elim}
use Rattle.std.specs.Prelude.{◌==◌}
use Rattle.std.proofs.lemmas.Bool.{cases_Bool, false≢true}
use Rattle.calc_addr.specs.Places.{Place, Rectangle}
use Rattle.area_listeners.specs.Pairs.{Pairs}
use Rattle.registration_slab.specs.declared.registration.Registration.{Registration}
use Rattle.registration_slab.specs.declared.cuts.Cut.{Cut}
use Rattle.registration_slab.specs.Cuts.{IsTrimmed, areas_in, is_cut}
use Rattle.registration_slab.specs.Slab.{IsSlab, Registrations, areas_of, at, has_cell, is_in}
use Rattle.registration_slab.proofs.Changes.{taken_has, taken_reads}
use Rattle.registration_slab.proofs.Places.{read_at}

module _ (old mid : Registrations) (ears homes : Pairs) (slab : IsSlab old ears homes) (p : ℕ) (r : Registration) (was : at old p ≡ Some r) (taken : (i : ℕ) → at mid i ≡ cond (i == p) None (at old i)) where
  has_same : (q : Place) → has_cell (at old p) q ≡ is_in r.run q
  has_same q = ap (λ o. has_cell o q) was

  pub taken_absent : (q : Place) → is_in r.run q ≡ true → areas_of mid q ≡ None
  taken_absent q h = taken_reads old mid p taken slab.apart q ∙ ap (λ b. cond b None (areas_of old q)) (has_same q ∙ h)

  pub trimmed : (new : Registrations) (cut : Cut) → ((q : Place) → areas_of new q ≡ cond (is_in r.run q && not (is_cut cut q)) (Some (areas_in r q)) (areas_of mid q))
      → ((j : ℕ) (q : Place) → is_cut cut q ≡ true → has_cell (at new j) q ≡ true → has_cell (at mid j) q ≡ true) → IsTrimmed old new p cut
  trimmed new cut areas others = record {
    areas = λ q.
        areas q ∙ ap (λ o. cond (is_in r.run q && not (is_cut cut q)) (Some (areas_in r q)) o) (taken_reads old mid p taken slab.apart q)
        ∙ ap (λ b. cond (is_in r.run q && not (is_cut cut q)) (Some (areas_in r q)) (cond b None (areas_of old q))) (has_same q)
        ∙ ⊎_elim (λ (e : is_in r.run q ≡ true). together true (is_cut cut q) (areas_of old q) (Some (areas_in r q)) (λ h. read_at old slab.apart p r q was e) (is_in r.run q) e)
        (λ (e : is_in r.run q ≡ false). together false (is_cut cut q) (areas_of old q) (Some (areas_in r q)) (λ h. absurd (false≢true h)) (is_in r.run q) e)
        (cases_Bool (is_in r.run q))
        ∙ ap (λ b. cond (is_cut cut q && b) None (areas_of old q)) (sym (has_same q));
    left = λ j q in_cut h. taken_has old mid p taken j q (others j q in_cut h);
  }
    where
      together : (s c : Bool) (o x : Option (List Rectangle)) → (s ≡ true → o ≡ x) → (b : Bool) → b ≡ s → cond (b && not c) x (cond b None o) ≡ cond (c && b) None o
      together true true o x h b e = rw e refl
      together true false o x h b e = rw e (sym (h refl))
      together false true o x h b e = rw e refl
      together false false o x h b e = rw e refl
