-- What a cell reads by the registrations that are found for it.
use Rattle.std.proofs.Common.{◌≡◌, ℕ, true, false, nat_eq, List, [], Option, Some, None, refl, sym, ap, subst, ◌∙◌, ⊎_elim, arith}
use Rattle.std.specs.List.{list_any}
use Rattle.std.proofs.lemmas.List.Folds.{Any-from_list_any, list_any-from_Any}
use Rattle.std.proofs.lemmas.Bool.{cases_Bool, eqb-true, false≢true}
use Rattle.std.proofs.lemmas.Bool.Decides.{nat_tests}
use Rattle.calc_addr.specs.Places.{Place, Rows}
use Rattle.calc_model.specs.Listeners.{listed}
use Rattle.area_listeners.specs.Pairs.{AreMeeting, Pairs}
use Rattle.registration_slab.specs.declared.registration.Registration.{Registration}
use Rattle.registration_slab.specs.Slab.{AreApart, IsSlab, Registrations, area_of, areas_of, at, has_cell, is_in}
use Rattle.registration_slab.proofs.Places.{lacks_read, read_at}
use Rattle.registration_slab.proofs.Standing.{found}
use Rattle.listener_hub.specs.Hits.{registered_areas}

-- the run of one cell
abbrev pub run_of : Place → Rows
run_of q = record { sheet = q.sheet; col = q.col; first = q.row; last = q.row }

in_itself : (q : Place) → is_in (run_of q) q ≡ true
in_itself q = grind (arith, nat_tests)

some_area : (rs : Registrations) → AreApart rs → (o : Option Registration) (i : ℕ) (q : Place) → at rs i ≡ o → has_cell o q ≡ true → registered_areas o q ≡ listed (areas_of rs q)
some_area rs apart None i q is has = absurd (false≢true has)
some_area rs apart (Some r) i q is has = ap listed (sym (read_at rs apart i r q is has))

module _ (rs : Registrations) (ears homes : Pairs) (slab : IsSlab rs ears homes) (q : Place) where
  -- what a registered cell reads
  pub reads_there : (i : ℕ) → has_cell (at rs i) q ≡ true → registered_areas (at rs i) q ≡ listed (areas_of rs q)
  reads_there i has = some_area rs slab.apart (at rs i) i q refl has

  -- a cell that none of those found has reads nothing
  pub reads_nowhere : (ids : List ℕ) → AreMeeting homes (area_of (run_of q)) ids → list_any (λ i. has_cell (at rs i) q) ids ≡ false → listed (areas_of rs q) ≡ []
  reads_nowhere ids meeting none =
      ap listed (lacks_read rs q (λ i.
      ⊎_elim (λ (e : has_cell (at rs i) q ≡ true).
      let at_id = Any-from_list_any (nat_eq i) ids (found rs ears homes slab (run_of q) ids meeting i q (in_itself q) (at rs i) refl e) in
      absurd (false≢true (sym none ∙ list_any-from_Any (λ j. has_cell (at rs j) q) ids (at_id.0, at_id.1, at_id.2, at_id.3, subst (λ n. has_cell (at rs n) q ≡ true) (eqb-true i at_id.1 at_id.4) e))))
      (λ (e : has_cell (at rs i) q ≡ false). e)
      (cases_Bool (has_cell (at rs i) q))))
