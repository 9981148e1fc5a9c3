-- Which registrations have a cell of a run.
use Rattle.std.proofs.Common.{◌≡◌, ℕ, ◌+◌, true, false, cond, ◌&&◌, nat_le, nat_lt, List, Option, Some, None, refl, sym, ap, ◌∙◌, ⊎_elim, arith}
use Rattle.std.specs.Prelude.{◌==◌}
use Rattle.std.proofs.lemmas.Bool.{and_parts, cases_Bool, eqb-true, false≢true}
use Rattle.std.proofs.lemmas.Bool.Decides.{nat_tests}
use Rattle.calc_addr.specs.Places.{Place, Rectangle, Rows}
use Rattle.ears.specs.RunAreas.{is_same_area, meets}
use Rattle.area_listeners.specs.declared.listener.Listener.{Listener}
use Rattle.area_listeners.proofs.Told.{is_among}
use Rattle.area_listeners.specs.Pairs.{AreMeeting, Pairs, has_id}
use Rattle.registration_slab.specs.declared.registration.Registration.{Registration}
use Rattle.registration_slab.specs.declared.cuts.Cut.{Cut}
use Rattle.registration_slab.specs.Cuts.{AreCandidates, cut_of, is_cut}
use Rattle.registration_slab.specs.Slab.{IsSlab, Registrations, area_of, areas_of, at, has_cell, is_in, stands}

up_to : (row last : ℕ) → nat_lt row (last + 1) ≡ nat_le row last
up_to row last = grind (arith, nat_tests)

pub cut_is : (run : Rows) (q : Place) → is_cut (cut_of run) q ≡ is_in run q
cut_is run q = ap (λ b. ((q.sheet == run.sheet) && (q.col == run.col)) && (nat_le run.first q.row && b)) (up_to q.row run.last)

pub same_itself : (a : Rectangle) → is_same_area a a ≡ true
same_itself a = grind (arith, nat_tests)

-- two runs with a cell in common
runs_meet : (r s : Rows) (q : Place) → is_in r q ≡ true → is_in s q ≡ true → meets (area_of r) (area_of s) ≡ true
runs_meet r s q h k =
    let hr = and_parts _ _ h in
    let ks = and_parts _ _ k in
    let hc = and_parts _ _ hr.0 in
    let kc = and_parts _ _ ks.0 in
    let sheet : r.sheet ≡ s.sheet = sym (eqb-true q.sheet r.sheet hc.0) ∙ eqb-true q.sheet s.sheet kc.0 in
    let col : r.col ≡ s.col = sym (eqb-true q.col r.col hc.1) ∙ eqb-true q.col s.col kc.1 in
    meeting r.first r.last s.first s.last q.row sheet col (and_parts _ _ hr.1).0 (and_parts _ _ hr.1).1 (and_parts _ _ ks.1).0 (and_parts _ _ ks.1).1
  where
    meeting : (f l g m row : ℕ) {s t c d : ℕ} → s ≡ t → c ≡ d → nat_le f row ≡ true → nat_le row l ≡ true → nat_le g row ≡ true → nat_le row m ≡ true
        → (((s == t) && (nat_le c d && nat_le d c)) && (nat_le f m && nat_le g l)) ≡ true
    meeting f l g m row e i a b c d = grind (arith, nat_tests)

module _ (rs : Registrations) (ears homes : Pairs) (slab : IsSlab rs ears homes) where
  pub found : (run : Rows) (ids : List ℕ) → AreMeeting homes (area_of run) ids → (j : ℕ) (q : Place) → is_in run q ≡ true → (o : Option Registration) → at rs j ≡ o → has_cell o q ≡ true → has_id ids j ≡ true
  found run ids meeting j q in_run None is has = absurd (false≢true has)
  found run ids meeting j q in_run (Some r) is has =
      let listener : Listener = record { area = area_of r.run; id = j } in
      is_among homes (area_of run) ids meeting listener
      (slab.homed listener ∙ ap (λ o. stands o (area_of r.run)) is ∙ same_itself (area_of r.run))
      (runs_meet r.run run q has in_run)

  pub candidates : (run : Rows) (ids : List ℕ) → AreMeeting homes (area_of run) ids → AreCandidates rs (cut_of run) ids
  candidates run ids meeting j q in_cut has = found run ids meeting j q (sym (cut_is run q) ∙ in_cut) (at rs j) refl has

pub removed : (old new : Registrations) (run : Rows) (cut : Cut) → cut ≡ cut_of run → ((q : Place) → is_cut cut q ≡ false → areas_of new q ≡ areas_of old q) → ((q : Place) → is_cut cut q ≡ true → areas_of new q ≡ None)
    → (q : Place) → areas_of new q ≡ cond (is_in run q) None (areas_of old q)
removed old new run cut is outside inside q =
    let same : is_cut cut q ≡ is_in run q = ap (λ (x : Cut). is_cut x q) is ∙ cut_is run q in
    ⊎_elim (λ (e : is_in run q ≡ true). inside q (same ∙ e) ∙ ap (λ b. cond b None (areas_of old q)) (sym e))
    (λ (e : is_in run q ≡ false). outside q (same ∙ e) ∙ ap (λ b. cond b None (areas_of old q)) (sym e))
    (cases_Bool (is_in run q))
