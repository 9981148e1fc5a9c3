-- Which cells of a book are stale, by what its formulas read.
use Rattle.std.proofs.Common.{◌≡◌, Bool, true, false, ◌&&◌, List, Option, Some, None, inl, refl, sym, ap, subst, ◌∙◌, ⊎_elim}
use Rattle.std.specs.Prelude.{if◌then◌else◌, IsSome}
use Rattle.std.specs.List.{Any, list_any}
use Rattle.std.specs.Ordering.{eq_by_cmp}
use Rattle.std.proofs.lemmas.Bool.{and_from, cases_Bool, false≢true}
use Rattle.std.proofs.lemmas.List.Folds.{Any-from_list_any, list_any-from_Any}
use Rattle.calc_addr.specs.Places.{Place, Rectangle, covers, place_cmp, places}
use Rattle.calc_addr.proofs.Walking.Places.{Contains-places, covers-contained}
use Rattle.calc_model.specs.Books.{Book, area_named, content_at, is_formula}
use Rattle.calc_model.specs.Listeners.{ReachesArea, ReadAreas, listed}
use Rattle.calc_model.specs.Reads.{content_areas, reads}
use Rattle.calc_model.specs.Stale.{Reaches, any_cell, is_formula_cell, reaches}
use Rattle.calc_model.specs.Touched.{CellSet}
use Rattle.calc_model.specs.declared.content.Content.{Content}
use Rattle.calc_model.specs.declared.content.Content.TheVariants.{Constant, Empty, Formula, Raw}
use Rattle.calc_model.proofs.Areas.{both_true}
use Rattle.calc_model.proofs.Reached.{reaches_at_all, reaches_indeed}
use Rattle.dirty_spread.specs.Marking.{is_touched, reads_cell}
use Rattle.dirty_spread.specs.Spreading.{AreFormulas, AreStale, IsStale, LiesInOrReaches}
use Rattle.dirty_spread.specs.Waves.{has}
use Rattle.dirty_spread.proofs.Beside.{has_held, held_has}
use Rattle.dirty_spread.proofs.Reading.{reaching_is_formula, read_one, stale_step}

-- tests that pass together are the same
alike : (b c : Bool) → (b ≡ true → c ≡ true) → (c ≡ true → b ≡ true) → b ≡ c
alike true c to from = sym (to refl)
alike false true to from = from refl
alike false false to from = refl

no_list : (o : Option (List Rectangle)) {P : Type 0} → o ≡ None → IsSome o → P
no_list None none some = absurd (false≢true some)
no_list (Some areas) none some = absurd (cc)

-- a cell that reads an area holds a formula
reading_is_formula : (q : Place) (book : Book) (x : Content) (p : Place) → any_cell (eq_by_cmp place_cmp p) (content_areas q (area_named book) x) ≡ true → is_formula x ≡ true
reading_is_formula q book Empty p h = absurd (false≢true h)
reading_is_formula q book (Constant v) p h = absurd (false≢true h)
reading_is_formula q book (Formula t) p h = refl
reading_is_formula q book (Raw t) p h = absurd (false≢true h)

-- one of the areas has the cell
covered_of : (areas : List Rectangle) (p : Place) → any_cell (eq_by_cmp place_cmp p) areas ≡ true → list_any (λ a. covers a p) areas ≡ true
covered_of areas p h =
    let at = Any-from_list_any (λ a. list_any (eq_by_cmp place_cmp p) (places a)) areas h in
    list_any-from_Any (λ a. covers a p) areas (at.0, at.1, at.2, at.3, covers-contained at.1 p (has_held (places at.1) p at.4))

of_covered : (areas : List Rectangle) (p : Place) → list_any (λ a. covers a p) areas ≡ true → any_cell (eq_by_cmp place_cmp p) areas ≡ true
of_covered areas p h =
    let at = Any-from_list_any (λ a. covers a p) areas h in
    list_any-from_Any (λ a. list_any (eq_by_cmp place_cmp p) (places a)) areas (at.0, at.1, at.2, at.3, held_has (places at.1) p (Contains-places at.1 p at.4))

module _ (book : Book) (read : ReadAreas) (holds : (q : Place) → read q ≡ (if is_formula (content_at book q) then Some (reads book q) else None)) where
  read_formula : (q : Place) → is_formula_cell book q ≡ true → read q ≡ Some (reads book q)
  read_formula q h = holds q ∙ ap (λ b. if b then Some (reads book q) else None) h

  read_other : (q : Place) → is_formula_cell book q ≡ false → read q ≡ None
  read_other q h = holds q ∙ ap (λ b. if b then Some (reads book q) else None) h

  formula_read : (q : Place) → IsSome (read q) → is_formula_cell book q ≡ true
  formula_read q some =
      ⊎_elim (λ (h : is_formula_cell book q ≡ true). h)
      (λ (h : is_formula_cell book q ≡ false). no_list (read q) (read_other q h) some)
      (cases_Bool (is_formula_cell book q))

  -- what a formula reads, as areas and as cells
  reads_of : (q p : Place) → is_formula_cell book q ≡ true → any_cell (eq_by_cmp place_cmp p) (reads book q) ≡ true → reads_cell read q p ≡ true
  reads_of q p formula h = subst (λ o. list_any (λ a. covers a p) (listed o) ≡ true) (sym (read_formula q formula)) (covered_of (reads book q) p h)

  of_reads : (q p : Place) → is_formula_cell book q ≡ true → reads_cell read q p ≡ true → any_cell (eq_by_cmp place_cmp p) (reads book q) ≡ true
  of_reads q p formula h = of_covered (reads book q) p (subst (λ o. list_any (λ a. covers a p) (listed o) ≡ true) (read_formula q formula) h)

  -- The list of all formula cells has those that hold a formula in the book.
  pub formula_cells : (cells : List Place) → AreFormulas read cells → (q : Place) → has cells q ≡ is_formula_cell book q
  formula_cells cells formulas q =
      alike (has cells q) (is_formula_cell book q) (λ h. formula_read q ((formulas.exact q).0 (has_held cells q h)))
      (λ formula. held_has cells q ((formulas.exact q).1 (subst IsSome (sym (read_formula q formula)) refl)))

  module _ (touched : List Rectangle) where
    -- what reaches a touched area reaches a touched cell
    reaching : (area : Rectangle) → ((p : Place) → covers area p ≡ true → is_touched p touched ≡ true) → (q : Place) → ReachesArea read area q → is_formula_cell book q ≡ true → Reaches book (λ p. is_touched p touched) q
    reaching area lies q (ReachesArea.directly h) formula =
        let one = read_one read area q h in
        Reaches.by_reading {q = q} {read = one.0} (of_reads q one.0 formula one.2) (Reaches.itself (lies one.0 one.1))
    reaching area lies q (ReachesArea.through {p = p} h r) formula =
        Reaches.by_reading {q = q} {read = p} (of_reads q p formula h) (reaching area lies p r (formula_read p (reaching_is_formula read area p r)))

    stale_reaches : (q : Place) → IsStale read touched q → Reaches book (λ p. is_touched p touched) q
    stale_reaches q stale =
        let (k, area, within, is, spread) = stale.spread in
        let lies : (p : Place) → covers area p ≡ true → is_touched p touched ≡ true = λ p c. list_any-from_Any (λ a. covers a p) touched (k, area, within, is, c) in
        ⊎_elim (λ (c : covers area q ≡ true). Reaches.itself (lies q c))
        (λ (r : ReachesArea read area q). reaching area lies q r (formula_read q stale.formula))
        spread

    -- what reaches a touched cell lies in a touched area or reaches one
    spread_of : (q : Place) → Reaches book (λ p. is_touched p touched) q → Any (LiesInOrReaches read q) touched
    spread_of q (Reaches.itself is) =
        let at = Any-from_list_any (λ a. covers a q) touched is in
        (at.0, at.1, at.2, at.3, inl at.4)
    spread_of q (Reaches.by_reading {read = p} h r) =
        (stale_step read touched q p (reads_of q p (reading_is_formula q book (content_at book q) p h) h) (spread_of p r)).spread

    module _ (cells : List Place) (stale : AreStale read touched cells) where
      -- The stale cells are the formulas that reach a touched cell.
      pub stale_cells : (q : Place) → has cells q ≡ (is_formula_cell book q && reaches book (λ p. list_any (λ area. covers area p) touched) q)
      stale_cells q =
          let touched_cells : CellSet = λ p. is_touched p touched in
          alike (has cells q) (is_formula_cell book q && reaches book touched_cells q)
          (λ h.
          let is : IsStale read touched q = (stale.exact q).0 (has_held cells q h) in
          and_from (is_formula_cell book q) (reaches book touched_cells q) (formula_read q is.formula) (reaches_at_all book touched_cells q (stale_reaches q is)))
          (λ h.
          let both = both_true (is_formula_cell book q) (reaches book touched_cells q) h in
          held_has cells q ((stale.exact q).1 (record {
            formula = subst IsSome (sym (read_formula q both.0)) refl;
            spread = spread_of q (reaches_indeed book touched_cells q both.1);
          })))

      -- What reads a stale cell is stale.
      pub readers_stale : (q p : Place) → is_formula_cell book q ≡ true → any_cell (eq_by_cmp place_cmp p) (reads book q) ≡ true → has cells p ≡ true → has cells q ≡ true
      readers_stale q p formula reads_it held =
          let is : IsStale read touched p = (stale.exact p).0 (has_held cells p held) in
          held_has cells q ((stale.exact q).1 (stale_step read touched q p (reads_of q p formula reads_it) is.spread))
