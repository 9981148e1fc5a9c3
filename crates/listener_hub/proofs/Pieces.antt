-- A piece whose rows go together is moved as a run.
use Rattle.std.proofs.Common.{◌≡◌, ℕ, suc, ◌+◌, ◌-◌, ◌≤◌, Bool, true, false, cond, ◌&&◌, nat_le, List, [], ◌∷◌, map, Option, Some, None, refl, sym, ap, subst, ◌∙◌, ⊎_elim, eq-eqb, add-zero, arith}
use Rattle.std.specs.Prelude.{◌==◌, option_map}
use Rattle.std.specs.Option.{ForSome}
use Rattle.std.specs.List.{All, AllByRecursion, filter_map}
use Rattle.std.proofs.lemmas.Bool.{and_from, and_parts, cases_Bool, eqb-true, leb-true}
use Rattle.std.proofs.lemmas.Bool.Decides.{nat_tests}
use Rattle.std.proofs.lemmas.List.Elements.{All-from_recursion}
use Rattle.calc_addr.specs.declared.cell.TheConstants.{LAST_ROW}
use Rattle.calc_addr.specs.Places.{IsRectangle, Place, Rectangle, Rows}
use Rattle.calc_addr.proofs.Shifting.ShiftLaws.{IsRectangle-deletion, IsRectangle-insertion}
use Rattle.calc_model.specs.Ears.{ReadArea, area_at, end_at}
use Rattle.ears.specs.declared.row_edit.Change.{Change}
use Rattle.ears.specs.declared.row_edit.Change.TheVariants.{Insertion, Deletion}
use Rattle.ears.specs.declared.row_edit.RowEdit.{RowEdit}
use Rattle.ears.specs.RowEdits.{GoTogether, IsRowEdit, RowsGoTogether, area_after, area_by, ear_after, first_cell, lowered, place_after, run_after}
use Rattle.ears.specs.RunAreas.{LieInSheet}
use Rattle.listener_hub.specs.Moves.{IsPieceMoved, StaysInSheet}
use Rattle.registration_slab.specs.Slab.{Registrations, areas_at, areas_of, is_in, steps_of}
use Rattle.listener_hub.proofs.Goings.{goes}
use Rattle.listener_hub.proofs.Wholes.{areas_go}

some_same : {X : Type 0} {x y : X} → Some x ≡ Some y → x ≡ y
some_same h = cc

some_none : {X : Type 0} {x : X} → Some x ≡ None → ⊥
some_none h = cc

same_place : {s t c d r q : ℕ} → s ≡ t → c ≡ d → r ≡ q → ◌≡◌ {A = Place} (record { sheet = s; col = c; row = r }) (record { sheet = t; col = d; row = q })
same_place a b c = cc

-- what is known of a run that moves
pub record Moves (edit : RowEdit) (piece to : Rows) : Type 0 where
  pub cell : Place
  pub first : place_after edit (first_cell piece) ≡ Some cell
  pub is : to ≡ record piece { first = cell.row; last = cell.row + (piece.last - piece.first) }

pub run_moves : (edit : RowEdit) (piece to : Rows) → run_after edit piece ≡ Some to → Moves edit piece to
run_moves edit piece to h = by_cell (place_after edit (first_cell piece)) refl
  where
    by_cell : (o : Option Place) → place_after edit (first_cell piece) ≡ o → Moves edit piece to
    by_cell None e = absurd (some_none (sym h ∙ ap (option_map (λ q. record piece { first = q.row; last = q.row + (piece.last - piece.first) })) e))
    by_cell (Some c) e = record { cell = c; first = e; is = some_same (sym h ∙ ap (option_map (λ q. record piece { first = q.row; last = q.row + (piece.last - piece.first) })) e) }

module _ (edit : RowEdit) (piece : Rows) (order : piece.first ≤ piece.last) (together : RowsGoTogether edit piece (steps_of piece)) where
  step_of : (q : Place) → is_in piece q ≡ true → (q.row - piece.first ≤ steps_of piece) × (q ≡ lowered (q.row - piece.first) (first_cell piece))
  step_of q h =
      let parts = and_parts _ _ h in
      let column = and_parts (q.sheet == piece.sheet) (q.col == piece.col) parts.0 in
      let row = and_parts (nat_le piece.first q.row) (nat_le q.row piece.last) parts.1 in
      let low : piece.first ≤ q.row = leb-true _ _ row.0 in
      let high : q.row ≤ piece.last = leb-true _ _ row.1 in
      (under piece.first q.row piece.last low high, same_place (eqb-true _ _ column.0) (eqb-true _ _ column.1) (back piece.first q.row low))
    where
      under : (f r l : ℕ) → f ≤ r → r ≤ l → r - f ≤ l - f
      under f r l h k = omega arith

      back : (f r : ℕ) → f ≤ r → r ≡ f + (r - f)
      back f r h = omega arith

  step_in : (step : ℕ) → step ≤ steps_of piece → is_in piece (lowered step (first_cell piece)) ≡ true
  step_in step le =
      and_from _ _ (and_from _ _ (eq-eqb piece.sheet piece.sheet refl) (eq-eqb piece.col piece.col refl)) (within piece.first piece.last step order le)
    where
      within : (f l step : ℕ) → f ≤ l → step ≤ l - f → (nat_le f (f + step) && nat_le (f + step) l) ≡ true
      within f l step h k = grind (arith, nat_tests)

  -- where a cell of the piece goes
  pub cell_goes : (q : Place) → is_in piece q ≡ true → place_after edit q ≡ option_map (lowered (q.row - piece.first)) (place_after edit (first_cell piece))
  cell_goes q h =
      let at_step = step_of q h in
      ap (place_after edit) at_step.1 ∙ together (q.row - piece.first) at_step.0

  pub last_stays : StaysInSheet edit piece → ForSome (run_after edit piece) (λ r. r.last ≤ LAST_ROW)
  last_stays stays to h =
      let m = run_moves edit piece to h in
      let goes_last : place_after edit (lowered (steps_of piece) (first_cell piece)) ≡ Some (lowered (steps_of piece) m.cell) = together (steps_of piece) (omega arith) ∙ ap (option_map (lowered (steps_of piece))) m.first in
      subst (λ (r : Rows). r.last ≤ LAST_ROW) (sym m.is) (stays (lowered (steps_of piece) (first_cell piece)) (step_in (steps_of piece) (omega arith)) (lowered (steps_of piece) m.cell) goes_last)

  module _ (to : Rows) (runs : run_after edit piece ≡ Some to) where
    -- a cell of the moved run comes from one of the piece
    pub cell_comes : (d : Place) → is_in to d ≡ true → (q : Place) × (is_in piece q ≡ true) × (place_after edit q ≡ Some d)
    cell_comes d h =
        let m = run_moves edit piece to runs in
        let here : is_in (record piece { first = m.cell.row; last = m.cell.row + (piece.last - piece.first) }) d ≡ true = subst (λ (r : Rows). is_in r d ≡ true) m.is h in
        let parts = and_parts _ _ here in
        let column = and_parts (d.sheet == piece.sheet) (d.col == piece.col) parts.0 in
        let row = and_parts (nat_le m.cell.row d.row) (nat_le d.row (m.cell.row + (piece.last - piece.first))) parts.1 in
        let low : m.cell.row ≤ d.row = leb-true _ _ row.0 in
        let high : d.row ≤ m.cell.row + (piece.last - piece.first) = leb-true _ _ row.1 in
        let step : ℕ = d.row - m.cell.row in
        let g = goes edit (first_cell piece) m.cell m.first in (
          lowered step (first_cell piece),
          step_in step (under m.cell.row d.row (piece.last - piece.first) low high),
          together step (under m.cell.row d.row (piece.last - piece.first) low high) ∙ ap (option_map (lowered step)) m.first
              ∙ ap Some (same_place (g.sheet ∙ sym (eqb-true _ _ column.0)) (g.col ∙ sym (eqb-true _ _ column.1)) (back m.cell.row d.row low)),
        )
      where
        under : (c d n : ℕ) → c ≤ d → d ≤ c + n → d - c ≤ n
        under c d n h k = omega arith

        back : (c d : ℕ) → c ≤ d → c + (d - c) ≡ d
        back c d h = omega arith

    -- and goes to one of the moved run, as far down
    pub cell_arrives : (q d : Place) → is_in piece q ≡ true → place_after edit q ≡ Some d → (is_in to d ≡ true) × (d.row - to.first ≡ q.row - piece.first)
    cell_arrives q d h k =
        let m = run_moves edit piece to runs in
        let step : ℕ = q.row - piece.first in
        let le : step ≤ steps_of piece = (step_of q h).0 in
        let d_is : lowered step m.cell ≡ d = some_same (sym (cell_goes q h ∙ ap (option_map (lowered step)) m.first) ∙ k) in
        let g = goes edit (first_cell piece) m.cell m.first in
        let moved : Rows = record piece { first = m.cell.row; last = m.cell.row + (piece.last - piece.first) } in (
          subst (λ (r : Rows). is_in r d ≡ true) (sym m.is) (subst (λ (p : Place). is_in moved p ≡ true) d_is
              (and_from _ _ (and_from _ _ (eq-eqb m.cell.sheet piece.sheet g.sheet) (eq-eqb m.cell.col piece.col g.col)) (within m.cell.row step (piece.last - piece.first) le))),
          ap (λ (r : Rows). d.row - r.first) m.is ∙ ap (λ (p : Place). p.row - m.cell.row) (sym d_is) ∙ off m.cell.row step,
        )
      where
        within : (c step n : ℕ) → step ≤ n → (nat_le c (c + step) && nat_le (c + step) (c + n)) ≡ true
        within c step n h = grind (arith, nat_tests)

        off : (c step : ℕ) → (c + step) - c ≡ step
        off c step = omega arith

    pub steps_stay : steps_of to ≡ steps_of piece
    steps_stay =
        let m = run_moves edit piece to runs in
        ap steps_of m.is ∙ off m.cell.row (piece.last - piece.first)
      where
        off : (c step : ℕ) → (c + step) - c ≡ step
        off c step = omega arith

-- what becomes of ears whose areas go together
after_valid : (edit : RowEdit) (a b : Rectangle) → IsRowEdit edit → IsRectangle a → area_after edit a ≡ Some b → IsRectangle b
after_valid edit a b shift h e =
    ⊎_elim
    (λ (here : (a.sheet == edit.sheet) ≡ true). by_change edit.change (sym (ap (λ x. cond x (area_by edit.change edit.place edit.count a) (Some a)) here) ∙ e))
    (λ (there : (a.sheet == edit.sheet) ≡ false). subst IsRectangle (some_same (sym (ap (λ x. cond x (area_by edit.change edit.place edit.count a) (Some a)) there) ∙ e)) h)
    (cases_Bool (a.sheet == edit.sheet))
  where
    by_change : (change : Change) → area_by change edit.place edit.count a ≡ Some b → IsRectangle b
    by_change Insertion is = IsRectangle-insertion edit.place edit.count a b h is
    by_change Deletion is = IsRectangle-deletion edit.place edit.count a b shift.from h is

at_zero : (e : ReadArea) → area_at e 0 ≡ e.area
at_zero e = ap (λ r. record e.area { first_row = r; last_row = end_at e.last_moves e.area.last_row 0 }) (none e.first_moves e.area.first_row) ∙ ap (λ r. record e.area { last_row = r }) (none e.last_moves e.area.last_row)
  where
    none : (moves : Bool) (row : ℕ) → end_at moves row 0 ≡ row
    none true row = add-zero row
    none false row = refl

ear_lies : (edit : RowEdit) (n : ℕ) (e x : ReadArea) → IsRowEdit edit → LieInSheet n e → GoTogether edit e n → ear_after edit e ≡ Some x → LieInSheet n x
ear_lies edit n e x shift lies together is =
    let at_step : (step : ℕ) → step ≤ n → area_after edit (area_at e step) ≡ Some (area_at x step) = λ step le. together step le ∙ ap (option_map (λ y. area_at y step)) is in
    record {
      first = subst IsRectangle (at_zero x) (after_valid edit (area_at e 0) (area_at x 0) shift (subst IsRectangle (sym (at_zero e)) lies.first) (at_step 0 (omega arith)));
      last = after_valid edit (area_at e n) (area_at x n) shift lies.last (at_step n (omega arith));
    }

lie_more : (edit : RowEdit) (n : ℕ) (e : ReadArea) (es : List ReadArea) (o : Option ReadArea) → ear_after edit e ≡ o → ((x : ReadArea) → ear_after edit e ≡ Some x → LieInSheet n x)
    → AllByRecursion (LieInSheet n) (filter_map (ear_after edit) es) → AllByRecursion (LieInSheet n) (filter_map (ear_after edit) (e ∷ es))
lie_more edit n e es None is lies rest = rw is rest
lie_more edit n e es (Some x) is lies rest = rw is (lies x is, rest)

lie_each : (edit : RowEdit) (n : ℕ) (es : List ReadArea) → IsRowEdit edit → All (LieInSheet n) es → All (λ e. GoTogether edit e n) es → AllByRecursion (LieInSheet n) (filter_map (ear_after edit) es)
lie_each edit n [] shift l t = tt
lie_each edit n (e ∷ es) shift l t =
    lie_more edit n e es (ear_after edit e) refl (λ x is. ear_lies edit n e x shift (l 0 e (omega arith)) (t 0 e (omega arith)) is)
    (lie_each edit n es shift (λ k d below. l (suc k) d (omega arith)) (λ k d below. t (suc k) d (omega arith)))

pub lie_after : (edit : RowEdit) (n : ℕ) (ears : List ReadArea) → IsRowEdit edit → All (LieInSheet n) ears → All (λ e. GoTogether edit e n) ears → All (LieInSheet n) (filter_map (ear_after edit) ears)
lie_after edit n ears shift lie together = All-from_recursion (LieInSheet n) (filter_map (ear_after edit) ears) (lie_each edit n ears shift lie together)

under : (f r l : ℕ) → f ≤ r → r ≤ l → r - f ≤ l - f
under f r l h k = omega arith

row_steps : (piece : Rows) (q : Place) → is_in piece q ≡ true → q.row - piece.first ≤ steps_of piece
row_steps piece q h =
    let row = and_parts (nat_le piece.first q.row) (nat_le q.row piece.last) (and_parts ((q.sheet == piece.sheet) && (q.col == piece.col)) (nat_le piece.first q.row && nat_le q.row piece.last) h).1 in
    under piece.first q.row piece.last (leb-true piece.first q.row row.0) (leb-true q.row piece.last row.1)

-- what cells read when a moved piece is registered
pub piece_moved : (edit : RowEdit) (piece to : Rows) (ears moved : List ReadArea) (old new : Registrations) → piece.first ≤ piece.last → RowsGoTogether edit piece (steps_of piece) → All (λ e. GoTogether edit e (steps_of piece)) ears
    → run_after edit piece ≡ Some to → moved ≡ filter_map (ear_after edit) ears → ((d : Place) → areas_of new d ≡ cond (is_in to d) (Some (areas_at moved to.first d.row)) (areas_of old d))
    → IsPieceMoved edit piece ears (areas_of old) (areas_of new)
piece_moved edit piece to ears moved old new order together whole runs is areas = record {
  here = λ q d in_piece goes_to.
      let arrives = cell_arrives edit piece order together to runs q d in_piece goes_to in
      areas d ∙ ap (λ b. cond b (Some (areas_at moved to.first d.row)) (areas_of old d)) arrives.0
      ∙ ap (λ (es : List ReadArea). Some (areas_at es to.first d.row)) is
      ∙ ap (λ n. Some (map (λ e. area_at e n) (filter_map (ear_after edit) ears))) arrives.1
      ∙ ap Some (areas_go edit (steps_of piece) (q.row - piece.first) ears (row_steps piece q in_piece) whole);
  elsewhere = λ d none.
      areas d
      ∙ ⊎_elim
      (λ (e : is_in to d ≡ true). let from = cell_comes edit piece order together to runs d e in absurd (none from.0 from.1 from.2))
      (λ (e : is_in to d ≡ false). ap (λ b. cond b (Some (areas_at moved to.first d.row)) (areas_of old d)) e)
      (cases_Bool (is_in to d));
}
