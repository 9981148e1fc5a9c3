-- A reference of a formula that moves along a column, relative to its row, is the same between two rows at which it
-- is the same.
use Rattle.std.proofs.Common.{◌≡◌, ℕ, ◌≤◌, ℤ, pos, Option, None, Some, ◌⊎◌, refl, sym, ◌∙◌}
use Rattle.std.specs.Prelude.{◌-ℤ◌, ◌&&◌, not}
use Rattle.std.specs.Option.{option_map}
use Rattle.calc_addr.specs.declared.cell.TheConstants.{LAST_COL, LAST_ROW}
use Rattle.calc_addr.specs.declared.reference.Span.{Span}
use Rattle.calc_addr.specs.declared.reference.Span.TheVariants as span
use Rattle.calc_addr.specs.declared.reference.Marks.{Marks}
use Rattle.calc_addr.specs.Bracketed.{together}
use Rattle.calc_addr.specs.Ends.{cols_of, rows_of}
use Rattle.calc_addr.specs.Moves.{moved_cols, moved_ends, moved_reference, moved_rows, with_ends}
use Rattle.calc_addr.specs.Places.{IsRectangle, Place, Rectangle}
use Rattle.calc_addr.specs.References.{Reference}
use Rattle.formula_code.specs.Relative.{has_cols, relative_reference, to_distance}
use Rattle.moved_forms.proofs.EndSteps.{Ends, ends_steps, relative_ends}
use Rattle.moved_forms.proofs.Steps.{between, mapped}

module _ (sheet col home : ℕ) (fits : home ≤ LAST_ROW) (cols : ℤ) where
  abbrev at : ℕ → Place
  at row = record { sheet = sheet; col = col; row = row }

  -- the reference in a row, relative to it
  abbrev pub form : Reference → ℕ → Option Reference
  form r row = option_map (relative_reference (at row)) (moved_reference cols (pos row -ℤ pos home) r)

  -- with moved columns and with rows that are relative
  abbrev with_rows : Reference → Ends → Ends → Reference
  with_rows r c rows = record r {
    area = record r.area {
      first_col = to_distance (has_cols r.span && not c.first.marked) LAST_COL col c.first.at;
      last_col = to_distance (has_cols r.span && not c.last.marked) LAST_COL col c.last.at;
      first_row = rows.first.at;
      last_row = rows.last.at;
    };
    marks = record r.marks {
      first_col = c.first.marked;
      first_row = rows.first.marked;
      last_col = c.last.marked;
      last_row = rows.last.marked;
    };
  }

  module _ (x z y : ℕ) (low : x ≤ z) (high : z ≤ y) (side : (home ≤ x) ⊎ (y ≤ home)) where
    abbrev Same : (ℕ → Option Reference) → Type 0
    Same f = f x ≡ f y → f z ≡ f x

    -- where the rows move
    rows_move : (r : Reference) (c : Ends) → IsRectangle r.area → Same (λ row. option_map (with_rows r c) (option_map (relative_ends LAST_ROW row) (moved_ends LAST_ROW (pos row -ℤ pos home) (rows_of r))))
    rows_move r c lies = between home _ (mapped (with_rows r c) home _ (ends_steps LAST_ROW home fits (rows_of r) (record { from = lies.rows_from; ordered = lies.rows_in_order; to = lies.rows_to }))) x z y low high side

    -- the reference with moved columns
    abbrev formed : Reference → Option Ends → ℕ → Option Reference
    formed r o row = option_map (relative_reference (at row)) (together (with_ends r) o (moved_rows r.span (pos row -ℤ pos home) (rows_of r)))

    abbrev a_reference : Rectangle → Span → Marks → Reference
    a_reference area s marks = record { area = area; span = s; marks = marks }

    by_span : (s : Span) (area : Rectangle) (marks : Marks) (o : Option Ends) → IsRectangle area → Same (formed (a_reference area s marks) o)
    by_span span.One area marks None lies same = refl
    by_span span.Cells area marks None lies same = refl
    by_span span.Columns area marks None lies same = refl
    by_span span.Rows area marks None lies same = refl
    by_span span.Columns area marks (Some c) lies same = refl
    by_span span.One area marks (Some c) lies same =
        let r : Reference = a_reference area span.One marks in
        seen z (moved_ends LAST_ROW (pos z -ℤ pos home) (rows_of r)) ∙ rows_move r c lies (sym (seen x (moved_ends LAST_ROW (pos x -ℤ pos home) (rows_of r))) ∙ same ∙ seen y (moved_ends LAST_ROW (pos y -ℤ pos home) (rows_of r))) ∙ sym (seen x (moved_ends LAST_ROW (pos x -ℤ pos home) (rows_of r)))
      where
        seen : (row : ℕ) (o : Option Ends) → option_map (relative_reference (at row)) (together (with_ends (a_reference area span.One marks)) (Some c) o) ≡ option_map (with_rows (a_reference area span.One marks) c) (option_map (relative_ends LAST_ROW row) o)
        seen row (Some w) = refl
        seen row None = refl
    by_span span.Cells area marks (Some c) lies same =
        let r : Reference = a_reference area span.Cells marks in
        seen z (moved_ends LAST_ROW (pos z -ℤ pos home) (rows_of r)) ∙ rows_move r c lies (sym (seen x (moved_ends LAST_ROW (pos x -ℤ pos home) (rows_of r))) ∙ same ∙ seen y (moved_ends LAST_ROW (pos y -ℤ pos home) (rows_of r))) ∙ sym (seen x (moved_ends LAST_ROW (pos x -ℤ pos home) (rows_of r)))
      where
        seen : (row : ℕ) (o : Option Ends) → option_map (relative_reference (at row)) (together (with_ends (a_reference area span.Cells marks)) (Some c) o) ≡ option_map (with_rows (a_reference area span.Cells marks) c) (option_map (relative_ends LAST_ROW row) o)
        seen row (Some w) = refl
        seen row None = refl
    by_span span.Rows area marks (Some c) lies same =
        let r : Reference = a_reference area span.Rows marks in
        seen z (moved_ends LAST_ROW (pos z -ℤ pos home) (rows_of r)) ∙ rows_move r c lies (sym (seen x (moved_ends LAST_ROW (pos x -ℤ pos home) (rows_of r))) ∙ same ∙ seen y (moved_ends LAST_ROW (pos y -ℤ pos home) (rows_of r))) ∙ sym (seen x (moved_ends LAST_ROW (pos x -ℤ pos home) (rows_of r)))
      where
        seen : (row : ℕ) (o : Option Ends) → option_map (relative_reference (at row)) (together (with_ends (a_reference area span.Rows marks)) (Some c) o) ≡ option_map (with_rows (a_reference area span.Rows marks) c) (option_map (relative_ends LAST_ROW row) o)
        seen row (Some w) = refl
        seen row None = refl

    pub reference_between : (r : Reference) → IsRectangle r.area → form r x ≡ form r y → form r z ≡ form r x
    reference_between r lies same = by_span r.span r.area r.marks (moved_cols r.span cols (cols_of r)) lies same
