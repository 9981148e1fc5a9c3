-- The rows that were found are exactly those that read a cell of the area.
use Rattle.std.proofs.Common.{◌≡◌, ℕ, suc, ◌-◌, ◌≤◌, Bool, true, false, ◌&&◌, ◌||◌, nat_eq, nat_le, List, [], ◌∷◌, map, Option, Some, None, refl, sym, ap, subst, ◌∙◌, ⊎_elim, arith}
use Rattle.std.specs.List.{All, AllByRecursion, list_any}
use Rattle.std.proofs.lemmas.Bool.{and_from, and_parts, cases_Bool, eqb-true, false≢true, leb-true}
use Rattle.std.proofs.lemmas.Bool.Decides.{nat_tests}
use Rattle.std.proofs.lemmas.List.Folds.{Any-from_list_any, list_any-from_Any}
use Rattle.calc_addr.specs.Places.{IsRectangle, Place, Rectangle, Rows, covers, places}
use Rattle.calc_model.specs.Ears.{ReadArea, area_at, end_at}
use Rattle.calc_model.specs.Listeners.{listed, reads_one_of}
use Rattle.ears.specs.RunAreas.{LieInSheet, hull, is_same_area, meets}
use Rattle.ears.proofs.Meetings.{both_ways, inside_hull, meets-covers}
use Rattle.area_listeners.specs.declared.listener.Listener.{Listener}
use Rattle.area_listeners.proofs.Told.{is_among}
use Rattle.area_listeners.specs.Pairs.{AreMeeting, Pairs, has_id}
use Rattle.registration_slab.specs.declared.registration.Registration.{Registration}
use Rattle.registration_slab.specs.Cuts.{areas_in}
use Rattle.listener_hub.specs.Hits.{any_hit, hits_at, is_hit}
use Rattle.registration_slab.specs.Slab.{IsSlab, LiesInSheet, Registrations, areas_of, at, has_cell, hears, is_in, steps_of}
use Rattle.registration_slab.proofs.Places.{Lacks, Stands, where_read}
use Rattle.registration_slab.proofs.Standing.{same_itself}

-- a test of the areas that a row reads
any_area : (test : Rectangle → Bool) (other : ReadArea → Bool) (step : ℕ) (ears : List ReadArea) → AllByRecursion (λ e. test (area_at e step) ≡ other e) ears → list_any test (map (λ e. area_at e step) ears) ≡ list_any other ears
any_area test other step [] h = refl
any_area test other step (e ∷ es) h = ap (λ b. b || list_any test (map (λ x. area_at x step) es)) h.0 ∙ ap (λ b. other e || b) (any_area test other step es h.1)

-- a run that doesn't have the cell has no hit
no_hit : (run : Rows) (area : Rectangle) (q : Place) → is_in run q ≡ false → (ears : List ReadArea) → list_any (is_hit run area q) ears ≡ false
no_hit run area q out [] = refl
no_hit run area q out (e ∷ es) = ap (λ b. (b && meets (area_at e (q.row - run.first)) area) || list_any (is_hit run area q) es) out ∙ no_hit run area q out es

pub hit_has : (o : Option Registration) (area : Rectangle) (q : Place) → hits_at o area q ≡ true → has_cell o q ≡ true
hit_has None area q h = h
hit_has (Some r) area q h =
    ⊎_elim (λ (e : is_in r.run q ≡ true). e) (λ (e : is_in r.run q ≡ false). absurd (false≢true (sym (no_hit r.run area q e r.ears.items) ∙ h))) (cases_Bool (is_in r.run q))

-- the hull of areas, one of which meets an area, meets it
hull_meets : (e : ReadArea) (steps step : ℕ) (area : Rectangle) → step ≤ steps → meets (area_at e step) area ≡ true → meets (hull e steps) area ≡ true
hull_meets e steps step area le h =
    let outer = and_parts _ _ h in
    let rows = and_parts _ _ outer.1 in
    and_from _ _ outer.0 (and_from _ _ (first_low e.first_moves e.area.first_row step area.last_row rows.0) (last_high e.last_moves e.area.last_row step steps area.first_row le rows.1))
  where
    first_low : (moves : Bool) (row step last : ℕ) → nat_le (end_at moves row step) last ≡ true → nat_le row last ≡ true
    first_low true row step last h = grind (arith, nat_tests)
    first_low false row step last h = h

    last_high : (moves : Bool) (row step steps first : ℕ) → step ≤ steps → nat_le first (end_at moves row step) ≡ true → nat_le first (end_at moves row steps) ≡ true
    last_high true row step steps first le h = grind (arith, nat_tests)
    last_high false row step steps first le h = h

row_below : (run : Rows) (q : Place) → is_in run q ≡ true → q.row - run.first ≤ steps_of run
row_below run q h =
    let rows = and_parts _ _ (and_parts _ _ h).1 in
    under run.first q.row run.last (leb-true _ _ rows.0) (leb-true _ _ rows.1)
  where
    under : (f r l : ℕ) → f ≤ r → r ≤ l → r - f ≤ l - f
    under f r l h k = omega arith

module _ (area : Rectangle) (valid : IsRectangle area) where
  -- what a registered cell reads
  pub stands_hit : (r : Registration) (q : Place) → is_in r.run q ≡ true → LiesInSheet (Some r) → list_any (λ a. list_any (covers a) (places area)) (areas_in r q) ≡ hits_at (Some r) area q
  stands_hit r q has lies =
      any_area (λ a. list_any (covers a) (places area)) (is_hit r.run area q) (q.row - r.run.first) r.ears.items (each r.ears.items lies.1)
    where
      each : (es : List ReadArea) → All (LieInSheet (steps_of r.run)) es → AllByRecursion (λ e. list_any (covers (area_at e (q.row - r.run.first))) (places area) ≡ is_hit r.run area q e) es
      each [] h = tt
      each (e ∷ es) h = (
        meets-covers (area_at e (q.row - r.run.first)) area (inside_hull e (steps_of r.run) (q.row - r.run.first) (h 0 e (omega arith)) (row_below r.run q has)) valid
            ∙ ap (λ b. b && meets (area_at e (q.row - r.run.first)) area) (sym has),
        each es (λ k d below. h (suc k) d (omega arith)),
      )

module _ (rs : Registrations) (ears homes : Pairs) (slab : IsSlab rs ears homes) (area : Rectangle) (valid : IsRectangle area) (ids : List ℕ) (meeting : AreMeeting ears area ids) where
  -- a registration with a hit is one of those found
  hit_found : (i : ℕ) (o : Option Registration) (q : Place) → at rs i ≡ o → hits_at o area q ≡ true → has_id ids i ≡ true
  hit_found i None q is h = absurd (false≢true h)
  hit_found i (Some r) q is h =
      let e = Any-from_list_any (is_hit r.run area q) r.ears.items h in
      let parts = and_parts (is_in r.run q) (meets (area_at e.1 (q.row - r.run.first)) area) e.4 in
      let lies : LieInSheet (steps_of r.run) e.1 = subst (LieInSheet (steps_of r.run)) e.3 ((subst LiesInSheet is (slab.inside i)).1 e.0 e.1 e.2) in
      let l : Listener = record { area = hull e.1 (steps_of r.run); id = i } in
      is_among ears area ids meeting l
      (slab.heard l ∙ ap (λ o. hears o l.area) is ∙ list_any-from_Any (λ x. is_same_area l.area (hull x (steps_of r.run))) r.ears.items (e.0, e.1, e.2, e.3, same_itself l.area))
      (hull_meets e.1 (steps_of r.run) (q.row - r.run.first) area (row_below r.run q parts.0) parts.1)

  pub exact : (q : Place) → any_hit rs area q ids ≡ reads_one_of (areas_of rs) area q
  exact q =
      ⊎_elim
      (λ (s : Stands rs q).
      both_ways (any_hit rs area q ids) (hits_at (at rs s.place) area q) (only s) (all s)
      ∙ ap (λ o. hits_at o area q) s.there
      ∙ sym (stands_hit area valid s.registration q s.has (subst LiesInSheet s.there (slab.inside s.place)))
      ∙ ap (λ o. list_any (λ a. list_any (covers a) (places area)) (listed o)) (sym s.reads))
      (λ (l : Lacks rs q).
      none l ids ∙ ap (λ o. list_any (λ a. list_any (covers a) (places area)) (listed o)) (sym l.reads))
      (where_read rs q)
    where
      only : (s : Stands rs q) → any_hit rs area q ids ≡ true → hits_at (at rs s.place) area q ≡ true
      only s h =
          let i = Any-from_list_any (λ i. hits_at (at rs i) area q) ids h in
          subst (λ n. hits_at (at rs n) area q ≡ true) (slab.apart i.1 s.place q (hit_has (at rs i.1) area q i.4) (ap (λ o. has_cell o q) s.there ∙ s.has)) i.4

      all : (s : Stands rs q) → hits_at (at rs s.place) area q ≡ true → any_hit rs area q ids ≡ true
      all s h =
          let at_id = Any-from_list_any (nat_eq s.place) ids (hit_found s.place (at rs s.place) q refl h) in
          list_any-from_Any (λ i. hits_at (at rs i) area q) ids (at_id.0, at_id.1, at_id.2, at_id.3, subst (λ n. hits_at (at rs n) area q ≡ true) (eqb-true s.place at_id.1 at_id.4) h)

      none : Lacks rs q → (xs : List ℕ) → any_hit rs area q xs ≡ false
      none l [] = refl
      none l (i ∷ is) =
          ap (λ b. b || any_hit rs area q is)
          (⊎_elim (λ (e : hits_at (at rs i) area q ≡ true). absurd (false≢true (sym (l.none i) ∙ hit_has (at rs i) area q e))) (λ (e : hits_at (at rs i) area q ≡ false). e) (cases_Bool (hits_at (at rs i) area q)))
          ∙ none l is
