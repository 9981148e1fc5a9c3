-- A reference that is spelled is one that a formula can have.
use Rattle.std.proofs.Common.{◌≡◌, ℕ, ◌≤◌, Bool, true, false, cond, Option, Some, None, List, refl, sym, ap, ◌∙◌, subst, ⊎_elim, arith}
use Rattle.std.specs.Prelude.{option_map, unwrap_or, is_some, length, ◌==◌}
use Rattle.std.specs.List.{list_any, before_first, after_first}
use Rattle.std.specs.Option.{option_and_then, option_or}
use Rattle.std.proofs.lemmas.Bool.{cases_lt}
use Rattle.calc_addr.specs.Bracketed.{IsSheet, after_point, column_end, corner_ends, inside, one_cell, row_end, spelled_reference, spelled_span, two_cells, two_columns, two_ends, two_rows, bare_name, written_sheet}
use Rattle.calc_addr.specs.Ends.{AreEnds, in_order, whole, reference_of}
use Rattle.calc_addr.specs.References.{Reference, IsSpanned, IsValidReference}
use Rattle.calc_addr.specs.Spelling.{column_part, is_colon, is_point, row_part, sheet_of, undollared}
use Rattle.calc_addr.specs.declared.ends.End.{End}
use Rattle.calc_addr.specs.declared.ends.Ends.{Ends}
use Rattle.calc_addr.specs.declared.reference.Span.{Span}
use Rattle.calc_addr.specs.declared.reference.Span.TheVariants as span
use Rattle.calc_addr.proofs.References.EndsInOrder.{in_order-down, in_order-same, in_order-up}
use Rattle.calc_addr.proofs.Spelling.Joined.{sheet_of-inside}
use Rattle.calc_addr.proofs.References.Parts.{end_is, inside_is, pair_of}
use Rattle.calc_addr.proofs.Spelling.Inside.{LiesUpTo, column_of-inside, row_of-inside}

-- an end that is spelled lies inside
column_end-inside : (text : List ℕ) (e : End) → column_end text ≡ Some e → LiesUpTo 1024 e.at
column_end-inside text e h = column_of-inside (undollared text) e.at (inside_is _ e.at (end_is text _ e h))

row_end-inside : (text : List ℕ) (e : End) → row_end text ≡ Some e → LiesUpTo 1048576 e.at
row_end-inside text e h = row_of-inside (undollared text) e.at (inside_is _ e.at (end_is text _ e h))

in_order-AreEnds : (last : ℕ) (a b : End) → LiesUpTo last a.at → LiesUpTo last b.at → AreEnds last (in_order a b)
in_order-AreEnds last a b h k = ⊎_elim
    (λ down. subst (AreEnds last) (sym (in_order-down a b down)) (record { from = k.from; ordered = omega arith; to = h.to }))
    (λ up. subst (AreEnds last) (sym (in_order-up a b up)) (record { from = h.from; ordered = up; to = k.to }))
    (cases_lt b.at a.at)

whole-AreEnds : (last : ℕ) → 1 ≤ last → AreEnds last (whole last)
whole-AreEnds last h = record { from = omega arith; ordered = h; to = omega arith }

sheet_number : (sheet : Option ℕ) → IsSheet sheet → unwrap_or sheet 0 ≤ 15
sheet_number None h = omega arith
sheet_number (Some n) h = h n refl

own_sheet : (sheet : Option ℕ) → is_some sheet ≡ false → unwrap_or sheet 0 ≡ 0
own_sheet None h = refl
own_sheet (Some n) h = cc

reference_of-valid : (sheet : Option ℕ) (s : Span) (cols rows : Ends) → IsSheet sheet → AreEnds 1024 cols → AreEnds 1048576 rows → IsSpanned s (reference_of sheet s cols rows).area (reference_of sheet s cols rows).marks → IsValidReference (reference_of sheet s cols rows)
reference_of-valid sheet s cols rows here across down spanned = record {
  lies = record {
    sheet_in = sheet_number sheet here;
    cols_from = across.from;
    cols_in_order = across.ordered;
    cols_to = across.to;
    rows_from = down.from;
    rows_in_order = down.ordered;
    rows_to = down.to;
  };
  spelled = record { spanned = spanned; own_sheet = own_sheet sheet };
}

-- the ends of each kind
corner_ends-inside : (text : List ℕ) (corner : End × End) → corner_ends text ≡ Some corner → LiesUpTo 1024 corner.0.at × LiesUpTo 1048576 corner.1.at
corner_ends-inside text corner e =
    let parts = pair_of (λ (col : End) (row : End). (col, row)) (column_end (column_part text)) (row_end (row_part text)) corner e in
    let Inside : End × End → Type 0 = λ c. LiesUpTo 1024 c.0.at × LiesUpTo 1048576 c.1.at in
    subst Inside parts.made (column_end-inside (column_part text) parts.first parts.first_is, row_end-inside (row_part text) parts.second parts.second_is)

mapped : {A B : Type 0} (P : B → Type 0) (f : A → B) (o : Option A) (b : B) → ((a : A) → o ≡ Some a → P (f a)) → option_map f o ≡ Some b → P b
mapped P f None b h e = cc
mapped P f (Some a) b h e =
    let same : f a ≡ b = cc in
    subst P same (h a refl)

one_cell-valid : (sheet : Option ℕ) (text : List ℕ) (r : Reference) → IsSheet sheet → one_cell sheet text ≡ Some r → IsValidReference r
one_cell-valid sheet text r here e =
    mapped IsValidReference (λ (corner : End × End). reference_of sheet span.One (in_order corner.0 corner.0) (in_order corner.1 corner.1)) (corner_ends text) r
    (λ corner h.
    let inside = corner_ends-inside text corner h in
    let across = in_order-AreEnds 1024 corner.0 corner.0 inside.0 inside.0 in
    let down = in_order-AreEnds 1048576 corner.1 corner.1 inside.1 inside.1 in
    let col = in_order-same corner.0 in
    let row = in_order-same corner.1 in
    let ends = λ (e : Ends). e.first in
    reference_of-valid sheet span.One (in_order corner.0 corner.0) (in_order corner.1 corner.1) here across down (record {
      one_col = ap (λ (e : Ends). e.first.at) col ∙ sym (ap (λ (e : Ends). e.last.at) col);
      one_row = ap (λ (e : Ends). e.first.at) row ∙ sym (ap (λ (e : Ends). e.last.at) row);
      col_marks = ap (λ (e : Ends). e.first.marked) col ∙ sym (ap (λ (e : Ends). e.last.marked) col);
      row_marks = ap (λ (e : Ends). e.first.marked) row ∙ sym (ap (λ (e : Ends). e.last.marked) row);
    })) e

two_cells-valid : (sheet : Option ℕ) (first last : List ℕ) (r : Reference) → IsSheet sheet → two_cells sheet first last ≡ Some r → IsValidReference r
two_cells-valid sheet first last r here e =
    let make = λ (a : End × End) (b : End × End). reference_of sheet span.Cells (in_order a.0 b.0) (in_order a.1 b.1) in
    let parts = pair_of make (corner_ends first) (corner_ends last) r e in
    let one = corner_ends-inside first parts.first parts.first_is in
    let other = corner_ends-inside last parts.second parts.second_is in
    subst IsValidReference parts.made
    (reference_of-valid sheet span.Cells _ _ here (in_order-AreEnds 1024 parts.first.0 parts.second.0 one.0 other.0) (in_order-AreEnds 1048576 parts.first.1 parts.second.1 one.1 other.1) tt)

two_columns-valid : (sheet : Option ℕ) (first last : List ℕ) (r : Reference) → IsSheet sheet → two_columns sheet first last ≡ Some r → IsValidReference r
two_columns-valid sheet first last r here e =
    let make = λ (a : End) (b : End). reference_of sheet span.Columns (in_order a b) (whole 1048576) in
    let parts = pair_of make (column_end first) (column_end last) r e in
    let cols = in_order-AreEnds 1024 parts.first parts.second (column_end-inside first parts.first parts.first_is) (column_end-inside last parts.second parts.second_is) in
    subst IsValidReference parts.made
    (reference_of-valid sheet span.Columns (in_order parts.first parts.second) (whole 1048576) here cols (whole-AreEnds 1048576 (omega arith))
    (record { from_top = refl; to_end = refl; first_unmarked = refl; last_unmarked = refl }))

two_rows-valid : (sheet : Option ℕ) (first last : List ℕ) (r : Reference) → IsSheet sheet → two_rows sheet first last ≡ Some r → IsValidReference r
two_rows-valid sheet first last r here e =
    let make = λ (a : End) (b : End). reference_of sheet span.Rows (whole 1024) (in_order a b) in
    let parts = pair_of make (row_end first) (row_end last) r e in
    let rows = in_order-AreEnds 1048576 parts.first parts.second (row_end-inside first parts.first parts.first_is) (row_end-inside last parts.second parts.second_is) in
    subst IsValidReference parts.made
    (reference_of-valid sheet span.Rows (whole 1024) (in_order parts.first parts.second) here (whole-AreEnds 1024 (omega arith)) rows
    (record { from_left = refl; to_end = refl; first_unmarked = refl; last_unmarked = refl }))

-- one of several ways
chosen : {A : Type 0} (P : A → Type 0) (x y : Option A) (a : A) → (x ≡ Some a → P a) → (y ≡ Some a → P a) → option_or x y ≡ Some a → P a
chosen P None y a h k e = k e
chosen P (Some b) y a h k e = h e

either : {A : Type 0} (P : A → Type 0) (b : Bool) (x y : Option A) (a : A) → (x ≡ Some a → P a) → (y ≡ Some a → P a) → cond b x y ≡ Some a → P a
either P true x y a h k e = h e
either P false x y a h k e = k e

followed : {A B : Type 0} (P : B → Type 0) (f : A → Option B) (o : Option A) (b : B) → ((a : A) → o ≡ Some a → f a ≡ Some b → P b) → option_and_then f o ≡ Some b → P b
followed P f None b h e = cc
followed P f (Some a) b h e = h a refl e

two_ends-valid : (sheet : Option ℕ) (first last : List ℕ) (r : Reference) → IsSheet sheet → two_ends sheet first last ≡ Some r → IsValidReference r
two_ends-valid sheet first last r here e =
    chosen IsValidReference (two_cells sheet first last) (option_or (two_columns sheet first last) (two_rows sheet first last)) r (two_cells-valid sheet first last r here)
    (chosen IsValidReference (two_columns sheet first last) (two_rows sheet first last) r (two_columns-valid sheet first last r here) (two_rows-valid sheet first last r here)) e

spelled_span-valid : (sheet : Option ℕ) (text : List ℕ) (r : Reference) → IsSheet sheet → spelled_span sheet text ≡ Some r → IsValidReference r
spelled_span-valid sheet text r here e =
    let first = before_first is_colon text in
    either IsValidReference (list_any is_colon text) (option_and_then (two_ends sheet first) (after_point (after_first is_colon text))) (one_cell sheet text) r
    (followed IsValidReference (two_ends sheet first) (after_point (after_first is_colon text)) r (λ last _ h. two_ends-valid sheet first last r here h))
    (one_cell-valid sheet text r here) e

written_sheet-inside : (text : List ℕ) (sheet : Option ℕ) → written_sheet text ≡ Some sheet → IsSheet sheet
written_sheet-inside text sheet e =
    let word = bare_name (undollared text) in
    either IsSheet (length text == 0) (Some None) (option_map (λ n. Some n) (inside (sheet_of word))) sheet
    (λ h n k. cc)
    (mapped IsSheet (λ (n : ℕ). Some n) (inside (sheet_of word)) sheet
    (λ n h m k. let same : n ≡ m = cc in sheet_of-inside word m (inside_is (sheet_of word) m (h ∙ ap Some same)))) e

-- what is spelled is a reference that a formula can have
pub spelled_references_lie_inside : (text : List ℕ) (r : Reference) → spelled_reference text ≡ Some r → IsValidReference r
spelled_references_lie_inside text r e =
    let rest = after_first is_point text in
    either IsValidReference (list_any is_point text) (option_and_then (λ sheet. spelled_span sheet rest) (written_sheet (before_first is_point text))) None r
    (followed IsValidReference (λ sheet. spelled_span sheet rest) (written_sheet (before_first is_point text)) r
    (λ sheet h k. spelled_span-valid sheet rest r (written_sheet-inside (before_first is_point text) sheet h) k))
    (λ h. cc) e
