-- What cells read when two registrations become one.
use Rattle.std.proofs.Common.{◌≡◌, ℕ, ◌+◌, ◌-◌, ◌≤◌, ◌<◌, Bool, true, false, cond, ◌&&◌, ◌||◌, nat_le, List, ◌∷◌, map, get_or, Some, None, refl, sym, ap, subst, ◌∙◌, ⊎_elim, arith}
use Rattle.std.specs.Prelude.{◌==◌}
use Rattle.std.specs.List.{All}
use Rattle.std.proofs.lemmas.Bool.{and_parts, cases_Bool, leb-true}
use Rattle.std.proofs.lemmas.List.{get_or-map, length-map}
use Rattle.std.proofs.lemmas.Bool.Decides.{nat_tests}
use Rattle.calc_addr.specs.Places.{IsRectangle, IsRows, Place, Rectangle, Rows}
use Rattle.calc_model.specs.Ears.{ReadArea, area_at}
use Rattle.ears.specs.RunAreas.{LieInSheet, ear_below}
use Rattle.area_listeners.specs.Pairs.{Pairs}
use Rattle.registration_slab.specs.declared.registration.Registration.{Registration}
use Rattle.registration_slab.specs.Cuts.{areas_in}
use Rattle.registration_slab.specs.Joining.{GoesOn, IsAboveAt, IsBelowAt, IsJoined}
use Rattle.registration_slab.specs.Slab.{IsSlab, LiesInSheet, Registrations, areas_of, at, has_cell, is_in, steps_of}
use Rattle.registration_slab.proofs.Changes.{taken_reads}
use Rattle.registration_slab.proofs.Parts.{area_below, areas_below}
use Rattle.registration_slab.proofs.Places.{read_at}

-- nothing is joined
pub alone : (rs : Registrations) (r : Registration) → ((q : Place) → is_in r.run q ≡ true → areas_of rs q ≡ None) → LiesInSheet (Some r) → IsJoined rs rs r r
alone rs r absent inside = record { same = λ q. refl; absent = absent; inside = inside }

-- by cases: the cell is one of the registration that is taken out, of the new one, or of neither
module _ (old mid : Registrations) (ears homes : Pairs) (slab : IsSlab old ears homes) (p : ℕ) (t : Registration) (was : at old p ≡ Some t) (taken : (i : ℕ) → at mid i ≡ cond (i == p) None (at old i))
    (n j : Registration) (absent : (q : Place) → is_in n.run q ≡ true → areas_of old q ≡ None)
    (both : (q : Place) → is_in j.run q ≡ (is_in t.run q || is_in n.run q))
    (as_taken : (q : Place) → is_in t.run q ≡ true → areas_in j q ≡ areas_in t q)
    (as_new : (q : Place) → is_in n.run q ≡ true → areas_in j q ≡ areas_in n q) where
  mid_reads : (q : Place) → areas_of mid q ≡ cond (is_in t.run q) None (areas_of old q)
  mid_reads q = taken_reads old mid p taken slab.apart q ∙ ap (λ o. cond (has_cell o q) None (areas_of old q)) was

  some_none : {x : List Rectangle} → Some x ≡ None → ⊥
  some_none h = cc

  in_taken : (q : Place) → is_in t.run q ≡ true → areas_of (Some j ∷ mid) q ≡ areas_of (Some n ∷ old) q
  in_taken q e =
      let reads : areas_of old q ≡ Some (areas_in t q) = read_at old slab.apart p t q was e in
      let apart : is_in n.run q ≡ false = ⊎_elim (λ (h : is_in n.run q ≡ true). absurd (some_none (sym reads ∙ absent q h))) (λ (h : is_in n.run q ≡ false). h) (cases_Bool (is_in n.run q)) in
      ap (λ b. cond b (Some (areas_in j q)) (areas_of mid q)) (both q ∙ ap (λ b. b || is_in n.run q) e)
      ∙ ap (λ a. Some a) (as_taken q e) ∙ sym reads
      ∙ ap (λ b. cond b (Some (areas_in n q)) (areas_of old q)) (sym apart)

  elsewhere : (q : Place) → is_in t.run q ≡ false → areas_of (Some j ∷ mid) q ≡ areas_of (Some n ∷ old) q
  elsewhere q e =
      ap (λ b. cond b (Some (areas_in j q)) (areas_of mid q)) (both q ∙ ap (λ b. b || is_in n.run q) e)
      ∙ ap (λ o. cond (is_in n.run q) (Some (areas_in j q)) o) (mid_reads q ∙ ap (λ b. cond b None (areas_of old q)) e)
      ∙ ⊎_elim (λ (h : is_in n.run q ≡ true). ap (λ a. cond (is_in n.run q) (Some a) (areas_of old q)) (as_new q h))
      (λ (h : is_in n.run q ≡ false). ap (λ b. cond b (Some (areas_in j q)) (areas_of old q)) h ∙ ap (λ b. cond b (Some (areas_in n q)) (areas_of old q)) (sym h))
      (cases_Bool (is_in n.run q))

  pub joins : LiesInSheet (Some j) → IsJoined old mid n j
  joins inside = record {
    same = λ q. ⊎_elim (in_taken q) (elsewhere q) (cases_Bool (is_in t.run q));
    absent = λ q h. ⊎_elim
        (λ (e : is_in t.run q ≡ true). mid_reads q ∙ ap (λ b. cond b None (areas_of old q)) e)
        (λ (e : is_in t.run q ≡ false). mid_reads q ∙ ap (λ b. cond b None (areas_of old q)) e ∙ absent q (ap (λ b. b || is_in n.run q) (sym e) ∙ sym (both q) ∙ h))
        (cases_Bool (is_in t.run q));
    inside = inside;
  }

-- two runs, one behind the other
module _ (u l j : Registration) (on : GoesOn u l) (run : j.run ≡ record u.run { last = l.run.last }) (heard : j.ears.items ≡ u.ears.items) (ru : IsRows u.run) (rl : IsRows l.run) where
  rows_both : (first mid last row : ℕ) → first ≤ mid → mid + 1 ≤ last → (nat_le first row && nat_le row last) ≡ ((nat_le first row && nat_le row mid) || (nat_le (mid + 1) row && nat_le row last))
  rows_both first mid last row a b = grind (arith, nat_tests)

  split : (c x y : Bool) → (c && (x || y)) ≡ ((c && x) || (c && y))
  split true x y = refl
  split false x y = refl

  pub upper_or_lower : (q : Place) → is_in j.run q ≡ (is_in u.run q || is_in l.run q)
  upper_or_lower q =
      let column : Bool = (q.sheet == u.run.sheet) && (q.col == u.run.col) in
      ap (λ (r : Rows). is_in r q) run
      ∙ ap (λ b. column && b) (rows_both u.run.first u.run.last l.run.last q.row ru.in_order (subst (λ k. k ≤ l.run.last) on.next rl.in_order))
      ∙ split column (nat_le u.run.first q.row && nat_le q.row u.run.last) (nat_le (u.run.last + 1) q.row && nat_le q.row l.run.last)
      ∙ ap (λ s. is_in u.run q || (((q.sheet == s) && (q.col == u.run.col)) && (nat_le (u.run.last + 1) q.row && nat_le q.row l.run.last))) on.sheet
      ∙ ap (λ s. is_in u.run q || (((q.sheet == l.run.sheet) && (q.col == s)) && (nat_le (u.run.last + 1) q.row && nat_le q.row l.run.last))) on.col
      ∙ ap (λ s. is_in u.run q || (((q.sheet == l.run.sheet) && (q.col == l.run.col)) && (nat_le s q.row && nat_le q.row l.run.last))) (sym on.next)

  reads_as : (q : Place) → areas_in j q ≡ areas_in u q
  reads_as q = ap (λ (es : List ReadArea). map (λ e. area_at e (q.row - j.run.first)) es) heard ∙ ap (λ (r : Rows). map (λ e. area_at e (q.row - r.first)) u.ears.items) run

  pub as_upper : (q : Place) → is_in u.run q ≡ true → areas_in j q ≡ areas_in u q
  as_upper q h = reads_as q

  steps_down : (first mid row : ℕ) → first ≤ mid → mid ≤ row → (mid - first) + (row - mid) ≡ row - first
  steps_down first mid row a b = omega arith

  order : u.run.first ≤ l.run.first
  order = omega (arith, on.next, ru.in_order)

  pub as_lower : (q : Place) → is_in l.run q ≡ true → areas_in j q ≡ areas_in l q
  as_lower q h =
      let rows = and_parts (nat_le l.run.first q.row) (nat_le q.row l.run.last) (and_parts _ _ h).1 in
      reads_as q
      ∙ sym (areas_below u.ears.items (l.run.first - u.run.first) (q.row - l.run.first) (q.row - u.run.first) (steps_down u.run.first l.run.first q.row order (leb-true _ _ rows.0)))
      ∙ ap (λ (es : List ReadArea). map (λ e. area_at e (q.row - l.run.first)) es) (sym on.ears)

  whole_steps : (first mid last : ℕ) → first ≤ mid → mid ≤ last → (mid - first) + (last - mid) ≡ last - first
  whole_steps first mid last a b = omega arith

  rows_lie : IsRows (record u.run { last = l.run.last })
  rows_lie = record { sheet_in = ru.sheet_in; col_from = ru.col_from; col_to = ru.col_to; from = ru.from; in_order = omega (arith, order, rl.in_order); to = rl.to }

  pub lies : All (LieInSheet (steps_of u.run)) u.ears.items → All (LieInSheet (steps_of l.run)) l.ears.items → LiesInSheet (Some j)
  lies upper lower = (
    subst IsRows (sym run) rows_lie,
    subst (λ n. All (LieInSheet n) j.ears.items) (sym (ap (λ (r : Rows). steps_of r) run)) (subst (All (LieInSheet (l.run.last - u.run.first))) (sym heard) each),
  )
    where
      each : All (LieInSheet (l.run.last - u.run.first)) u.ears.items
      each k d below =
          let e : ReadArea = get_or u.ears.items k d in
          let down : ℕ = l.run.first - u.run.first in
          let f : ReadArea → ReadArea = λ x. ear_below x down in
          let here : LieInSheet (steps_of l.run) (f e) = subst (LieInSheet (steps_of l.run)) (get_or-map f u.ears.items k d (f d) below)
          (subst (All (LieInSheet (steps_of l.run))) on.ears lower k (f d) (subst (λ n. k < n) (sym (length-map u.ears.items f)) below)) in
          record {
            first = (upper k d below).first;
            last = subst IsRectangle (area_below e down (steps_of l.run) (l.run.last - u.run.first) (whole_steps u.run.first l.run.first l.run.last order rl.in_order)) here.last;
          }

turned : (a b : Bool) → (a || b) ≡ (b || a)
turned true true = refl
turned true false = refl
turned false true = refl
turned false false = refl

module _ (old mid : Registrations) (ears homes : Pairs) (slab : IsSlab old ears homes) (p : ℕ) (taken : (i : ℕ) → at mid i ≡ cond (i == p) None (at old i)) (u l j : Registration)
    (run : j.run ≡ record u.run { last = l.run.last }) (heard : j.ears.items ≡ u.ears.items) where
  -- the upper one was there
  pub at_top : at old p ≡ Some u → IsAboveAt (at old p) l → ((q : Place) → is_in l.run q ≡ true → areas_of old q ≡ None) → LiesInSheet (Some l) → IsJoined old mid l j
  at_top was above absent inside =
      let on : GoesOn u l = subst (λ o. IsAboveAt o l) was above in
      let there : LiesInSheet (Some u) = subst LiesInSheet was (slab.inside p) in
      joins old mid ears homes slab p u was taken l j absent (upper_or_lower u l j on run heard there.0 inside.0) (as_upper u l j on run heard there.0 inside.0) (as_lower u l j on run heard there.0 inside.0)
      (lies u l j on run heard there.0 inside.0 there.1 inside.1)

  -- the lower one was there
  pub at_end : at old p ≡ Some l → IsBelowAt (at old p) u → ((q : Place) → is_in u.run q ≡ true → areas_of old q ≡ None) → LiesInSheet (Some u) → IsJoined old mid u j
  at_end was below absent inside =
      let on : GoesOn u l = subst (λ o. IsBelowAt o u) was below in
      let there : LiesInSheet (Some l) = subst LiesInSheet was (slab.inside p) in
      joins old mid ears homes slab p l was taken u j absent (λ q. upper_or_lower u l j on run heard inside.0 there.0 q ∙ turned (is_in u.run q) (is_in l.run q)) (as_lower u l j on run heard inside.0 there.0) (as_upper u l j on run heard inside.0 there.0)
      (lies u l j on run heard inside.0 there.0 inside.1 there.1)
