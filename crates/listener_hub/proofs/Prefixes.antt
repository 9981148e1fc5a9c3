-- Registrations are moved one after the other.
use Rattle.std.proofs.Common.{◌≡◌, ◌⊎◌, inl, inr, ℕ, zero, suc, ◌+◌, ◌≤◌, ◌<◌, true, false, cond, ◌&&◌, nat_le, List, [], ◌∷◌, take, Option, Some, None, refl, sym, ap, subst, ◌∙◌, ⊎_elim, arith}
use Rattle.std.specs.Prelude.{◌==◌, option_map}
use Rattle.std.proofs.lemmas.Bool.{and_parts, cases_Bool, cases_lt, cases_order, eq-eqb, false≢true, leb-true, ne_eqb}
use Rattle.std.proofs.lemmas.Bool.Decides.{nat_tests}
use Rattle.calc_addr.specs.declared.cell.TheConstants.{LAST_ROW}
use Rattle.calc_addr.specs.Places.{Place, Rectangle}
use Rattle.calc_model.specs.Listeners.{ReadAreas}
use Rattle.ears.specs.declared.row_edit.Change.TheVariants.{Deletion}
use Rattle.ears.specs.declared.row_edit.RowEdit.{RowEdit}
use Rattle.ears.specs.RowEdits.{areas_after, place_after, row_by}
use Rattle.area_listeners.specs.Pairs.{Pairs}
use Rattle.registration_slab.specs.declared.registration.Registration.{Registration}
use Rattle.registration_slab.specs.Cuts.{areas_in}
use Rattle.listener_hub.specs.Moves.{IsMoved, IsPartMoved, KeepsAll, StaysAt, deletion}
use Rattle.registration_slab.specs.Slab.{AreApart, IsSlab, LiesInSheet, Registrations, areas_of, at, has_cell, is_in}
use Rattle.registration_slab.proofs.Changes.{put_reads, taken_reads}
use Rattle.listener_hub.proofs.Goings.{goes, one_to_one}
use Rattle.registration_slab.proofs.Parts.{part_is}
use Rattle.registration_slab.proofs.Places.{Lacks, Stands, lacks_read, read_at, where_read}

at_front : (rs : Registrations) (n i : ℕ) → i < n → at (take n rs) i ≡ at rs i
at_front rs zero i h = absurd (omega arith)
at_front [] (suc n) i h = refl
at_front (r ∷ rs) (suc n) zero h = refl
at_front (r ∷ rs) (suc n) (suc i) h = at_front rs n i (omega arith)

at_behind : (rs : Registrations) (n i : ℕ) → n ≤ i → at (take n rs) i ≡ None
at_behind rs zero i h = refl
at_behind [] (suc n) i h = refl
at_behind (r ∷ rs) (suc n) zero h = absurd (omega arith)
at_behind (r ∷ rs) (suc n) (suc i) h = at_behind rs n i (omega arith)

front_has : (rs : Registrations) (n i : ℕ) (q : Place) → has_cell (at (take n rs) i) q ≡ true → (i < n) × (has_cell (at rs i) q ≡ true)
front_has rs n i q h =
    ⊎_elim (λ (below : i < n). (below, ap (λ o. has_cell o q) (sym (at_front rs n i below)) ∙ h))
    (λ (behind : n ≤ i). absurd (false≢true (ap (λ o. has_cell o q) (sym (at_behind rs n i behind)) ∙ h)))
    (cases_lt i n)

front_apart : (rs : Registrations) (n : ℕ) → AreApart rs → AreApart (take n rs)
front_apart rs n apart i j q h k = apart i j q (front_has rs n i q h).1 (front_has rs n j q k).1

next_at : (rs : Registrations) (n i : ℕ) → at (take (n + 1) rs) i ≡ cond (i == n) (at rs n) (at (take n rs) i)
next_at rs n i =
    ⊎_elim (λ (e : i ≡ n). at_front rs (n + 1) i (omega arith) ∙ ap (at rs) e ∙ ap (λ b. cond b (at rs n) (at (take n rs) i)) (sym (eq-eqb i n e)))
    (λ (apart : (i < n) ⊎ (n < i)).
    ⊎_elim (λ (below : i < n). at_front rs (n + 1) i (omega arith) ∙ sym (at_front rs n i below) ∙ ap (λ b. cond b (at rs n) (at (take n rs) i)) (sym (ne_eqb i n (λ e. differs i n e (inl below)))))
    (λ (behind : n < i). at_behind rs (n + 1) i (omega arith) ∙ sym (at_behind rs n i (omega arith)) ∙ ap (λ b. cond b (at rs n) (at (take n rs) i)) (sym (ne_eqb i n (λ e. differs i n e (inr behind)))))
    apart)
    (cases_order i n)
  where
    differs : (i n : ℕ) → i ≡ n → (i < n) ⊎ (n < i) → ⊥
    differs i n e (inl h) = omega arith
    differs i n e (inr h) = omega arith

module _ (rs : Registrations) (apart : AreApart rs) (n : ℕ) where
  -- the registrations before have none of the cells of the next one
  pub not_before : (r : Registration) → at rs n ≡ Some r → (q : Place) → is_in r.run q ≡ true → areas_of (take n rs) q ≡ None
  not_before r is q has =
      lacks_read (take n rs) q (λ i.
      ⊎_elim (λ (e : has_cell (at (take n rs) i) q ≡ true).
      let before = front_has rs n i q e in
      absurd (differs i (apart i n q before.1 (ap (λ o. has_cell o q) is ∙ has)) before.0))
      (λ (e : has_cell (at (take n rs) i) q ≡ false). e)
      (cases_Bool (has_cell (at (take n rs) i) q)))
    where
      differs : (i : ℕ) → i ≡ n → i < n → ⊥
      differs i e h = omega arith

  next_some : (r : Registration) → at rs n ≡ Some r → (q : Place) → areas_of (take (n + 1) rs) q ≡ cond (is_in r.run q) (Some (areas_in r q)) (areas_of (take n rs) q)
  next_some r is = put_reads (take n rs) (take (n + 1) rs) n r (at_behind rs n n (omega arith)) (λ i. next_at rs n i ∙ ap (λ o. cond (i == n) o (at (take n rs) i)) is) (not_before r is) (front_apart rs n apart)

  next_none : at rs n ≡ None → (q : Place) → areas_of (take (n + 1) rs) q ≡ areas_of (take n rs) q
  next_none is q =
      taken_reads (take n rs) (take (n + 1) rs) n (λ i. next_at rs n i ∙ ap (λ o. cond (i == n) o (at (take n rs) i)) is) (front_apart rs n apart) q
      ∙ ap (λ o. cond (has_cell o q) None (areas_of (take n rs) q)) (at_behind rs n n (omega arith))

  module _ (edit : RowEdit) (old new : ReadAreas) (moved : IsMoved edit (areas_of (take n rs)) old) where
    pub nothing_there : (r : Registration) → at rs n ≡ Some r → (q d : Place) → is_in r.run q ≡ true → place_after edit q ≡ Some d → old d ≡ None
    nothing_there r is q d has goes = moved.here q d goes ∙ ap (option_map (areas_after edit)) (not_before r is q has)

    pub moved_none : at rs n ≡ None → IsMoved edit (areas_of (take (n + 1) rs)) old
    moved_none is = record {
      here = λ q d goes. moved.here q d goes ∙ ap (option_map (areas_after edit)) (sym (next_none is q));
      elsewhere = moved.elsewhere;
    }

    pub moved_some : (r : Registration) → at rs n ≡ Some r → IsPartMoved edit r r.run.first (r.run.last + 1) old new → IsMoved edit (areas_of (take (n + 1) rs)) new
    moved_some r is part = record {
      here = λ q d goes.
          ⊎_elim
          (λ (e : is_in r.run q ≡ true).
          part.here q d (sym (part_is r.run r.run.first r.run.last q) ∙ e) goes
          ∙ ap (λ b. option_map (areas_after edit) (cond b (Some (areas_in r q)) (areas_of (take n rs) q))) (sym e) ∙ ap (option_map (areas_after edit)) (sym (next_some r is q)))
          (λ (e : is_in r.run q ≡ false).
          part.elsewhere d (λ p h goes_too. absurd (false≢true (sym e ∙ ap (is_in r.run) (sym (one_to_one edit p q d goes_too goes)) ∙ part_is r.run r.run.first r.run.last p ∙ h)))
          ∙ moved.here q d goes
          ∙ ap (λ b. option_map (areas_after edit) (cond b (Some (areas_in r q)) (areas_of (take n rs) q))) (sym e) ∙ ap (option_map (areas_after edit)) (sym (next_some r is q)))
          (cases_Bool (is_in r.run q));
      elsewhere = λ d none. part.elsewhere d (λ q h goes. none q goes) ∙ moved.elsewhere d none;
    }

-- no cell of a registration leaves the sheet where no cell that reads does
pub stay_at : (edit : RowEdit) (rs : Registrations) → AreApart rs → KeepsAll edit (areas_of rs) → (i : ℕ) → StaysAt edit (at rs i)
stay_at edit rs apart keeps i = by_registration (at rs i) refl
  where
    some_none : {x : List Rectangle} → Some x ≡ None → ⊥
    some_none h = cc

    by_registration : (o : Option Registration) → at rs i ≡ o → StaysAt edit o
    by_registration None is = tt
    by_registration (Some r) is = λ q has d goes.
        ⊎_elim (λ (out : LAST_ROW < d.row). absurd (some_none (sym (read_at rs apart i r q is has) ∙ keeps q d goes out)))
        (λ (inside : d.row ≤ LAST_ROW). inside)
        (cases_lt LAST_ROW d.row)

-- deleted rows push no cell out
pub deletion_keeps : (rs : Registrations) (ears homes : Pairs) → IsSlab rs ears homes → (sheet place count : ℕ) → KeepsAll (deletion sheet place count) (areas_of rs)
deletion_keeps rs ears homes slab sheet place count q d goes_to out =
    ⊎_elim
    (λ (s : Stands rs q).
    let rows = (subst LiesInSheet s.there (slab.inside s.place)).0 in
    let row : q.row ≤ s.registration.run.last = leb-true q.row s.registration.run.last (and_parts (nat_le s.registration.run.first q.row) (nat_le q.row s.registration.run.last) (and_parts ((q.sheet == s.registration.run.sheet) && (q.col == s.registration.run.col)) (nat_le s.registration.run.first q.row && nat_le q.row s.registration.run.last) s.has).1).1 in
    let last : s.registration.run.last ≤ LAST_ROW = rows.to in
    let up : d.row ≤ q.row = ⊎_elim
    (λ (x : ((q.sheet == sheet) ≡ true) × (row_by Deletion place count q.row ≡ Some d.row)). goes_up place count q.row d.row x.1)
    (λ (x : ((q.sheet == sheet) ≡ false) × (q ≡ d)). same_row (ap (λ (p : Place). p.row) x.1))
    (goes (deletion sheet place count) q d goes_to).row in
    absurd (omega arith))
    (λ (l : Lacks rs q). l.reads)
    (where_read rs q)
  where
    same_row : {a b : ℕ} → a ≡ b → b ≤ a
    same_row e = omega arith

    goes_up : (place count row to : ℕ) → row_by Deletion place count row ≡ Some to → to ≤ row
    goes_up place count row to h = grind (arith, nat_tests)
