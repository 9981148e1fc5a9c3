-- What a printed reference is read as.
use Rattle.std.proofs.Common.{◌≡◌, ℕ, ◌+◌, ◌≤◌, Bool, true, false, cond, Option, Some, None, List, [], ◌∷◌, ◌++◌, length, codes, decimal, refl, sym, ap, ◌∙◌, subst, arith, append_assoc, take}
use Rattle.std.specs.Prelude.{◌==◌, option_map, unwrap_or, is_some}
use Rattle.std.specs.List.{list_any, prefix_len, after_first}
use Rattle.std.specs.Option.{option_and_then, option_or}
use Rattle.std.specs.Char.{is_ascii_alphabetic, is_ascii_digit}
use Rattle.std.proofs.lemmas.Bool.{and_parts, and_left, or_from, cond-true, cond-false, ne_eqb}
use Rattle.std.proofs.lemmas.Bool.Decides.{nat_tests}
use Rattle.std.proofs.lemmas.Fmt.{digits_decimal}
use Rattle.std.proofs.lemmas.List.{append-nil}
use Rattle.std.proofs.lemmas.List.Folds.{list_any-append}
use Rattle.calc_addr.specs.Addresses.{sheet_word}
use Rattle.calc_addr.specs.Bracketed.{after_point, column_end, column_text, corner_ends, corner_text, end_of, printed_reference, printed_sheet, printed_span, spelled_reference, two_cells, two_columns, two_rows, written_sheet, inside, is_marked, row_end, row_text, spelled_span, together, two_ends, with_dollar}
use Rattle.calc_addr.specs.Places.{IsRectangle}
use Rattle.calc_addr.specs.Ends.{AreEnds, in_order, whole, reference_of, cols_of, rows_of}
use Rattle.calc_addr.specs.Letters.{column_letters, column_number}
use Rattle.calc_addr.specs.References.{Reference, IsReference, IsSpanned, IsOne}
use Rattle.calc_addr.specs.Spelling.{are_digits, are_letters, column_len, column_of, column_part, is_colon, is_point, row_of, row_part, up_to}
use Rattle.calc_addr.specs.declared.ends.End.{End}
use Rattle.calc_addr.specs.declared.ends.Ends.{Ends}
use Rattle.calc_addr.specs.declared.read.Spelled.TheVariants.{Not}
use Rattle.calc_addr.specs.declared.reference.Span.{Span}
use Rattle.calc_addr.specs.declared.reference.Span.TheVariants as span
use Rattle.calc_addr.proofs.References.EndsInOrder.{in_order-up}
use Rattle.calc_addr.proofs.Spelling.RoundTrip.{are_digits-decimal, are_letters-column_letters, column_of-column_letters, column_part-append, cut_at_first, digit_no_dollar, digit_no_letter, digit_no_point, digits_test, letter_no_dollar, list_all-are_digits, list_all-are_letters, list_any-none, no_letter_first, row_of-decimal, row_part-append, sheet_of-sheet_word, undollared-digits, undollared-letters, undollared-with_dollar}

-- a coordinate's mark and number
is_marked-letters : (ls : List ℕ) → are_letters ls ≡ true → is_marked ls ≡ false
is_marked-letters [] h = refl
is_marked-letters (c ∷ cs) h = letter_no_dollar c (and_parts (is_ascii_alphabetic c) _ h).0

is_marked-digits : (ds : List ℕ) → are_digits ds ≡ true → is_marked ds ≡ false
is_marked-digits [] h = refl
is_marked-digits (c ∷ cs) h = digit_no_dollar c (and_parts (is_ascii_digit c) _ (list_all-are_digits (c ∷ cs) h)).0

is_marked-with_dollar : (marked : Bool) (text : List ℕ) → is_marked text ≡ false → is_marked (with_dollar marked text) ≡ marked
is_marked-with_dollar true text h = refl
is_marked-with_dollar false text h = h

end_of-same : (text : List ℕ) (at : Option ℕ) (n : ℕ) (marked : Bool) → at ≡ Some n → is_marked text ≡ marked → end_of text at ≡ Some (record { at = n; marked = marked })
end_of-same text at n marked e m =
    ap (end_of text) e ∙ ap (λ b. let end : End = record { at = n; marked = b } in Some end) m

pub column_end-column_text : (e : End) → 1 ≤ e.at → e.at ≤ 1024 → column_end (column_text e) ≡ Some e
column_end-column_text e low high =
    let letters = are_letters-column_letters e.at low in
    let text = column_letters e.at in
    end_of-same (column_text e) _ e.at e.marked
    (ap (λ x. inside (column_of x)) (undollared-with_dollar e.marked text (undollared-letters text letters)) ∙ ap inside (column_of-column_letters e.at low high))
    (is_marked-with_dollar e.marked text (is_marked-letters text letters))

pub row_end-row_text : (e : End) → 1 ≤ e.at → e.at ≤ 1048576 → row_end (row_text e) ≡ Some e
row_end-row_text e low high =
    let digits = are_digits-decimal e.at low (omega arith) in
    let text = decimal e.at in
    end_of-same (row_text e) _ e.at e.marked
    (ap (λ x. inside (row_of x)) (undollared-with_dollar e.marked text (undollared-digits text digits)) ∙ ap inside (row_of-decimal e.at low high))
    (is_marked-with_dollar e.marked text (is_marked-digits text digits))

no_letter_in_row : (marked : Bool) (ds : List ℕ) → are_digits ds ≡ true → prefix_len is_ascii_alphabetic (with_dollar marked ds) ≡ 0
no_letter_in_row true ds h = refl
no_letter_in_row false ds h = no_letter_first ds h

pub corner_ends-corner_text : (col row : End) → 1 ≤ col.at → col.at ≤ 1024 → 1 ≤ row.at → row.at ≤ 1048576 → corner_ends (corner_text col row) ≡ Some (col, row)
corner_ends-corner_text col row col_from col_to row_from row_to =
    let letters = are_letters-column_letters col.at col_from in
    let stop = no_letter_in_row row.marked (decimal row.at) (are_digits-decimal row.at row_from (omega arith)) in
    let ends = λ (x : Option End) (y : Option End). together {C = End × End} (λ u v. (u, v)) x y in
    ap (λ x. ends (column_end x) (row_end (row_part (corner_text col row)))) (column_part-append col.marked (column_letters col.at) (row_text row) letters stop)
    ∙ ap (λ x. ends (column_end (column_text col)) (row_end x)) (row_part-append col.marked (column_letters col.at) (row_text row) letters stop)
    ∙ ap (λ x. ends x (row_end (row_text row))) (column_end-column_text col col_from col_to)
    ∙ ap (ends (Some col)) (row_end-row_text row row_from row_to)

-- no coordinate has a colon
letter_no_colon : (c : ℕ) → is_ascii_alphabetic c ≡ true → is_colon c ≡ false
letter_no_colon c h = grind (arith, nat_tests)

digit_no_colon : (c : ℕ) → is_ascii_digit c ≡ true → is_colon c ≡ false
digit_no_colon c h = grind (arith, nat_tests)

dollar_no_colon : (marked : Bool) (text : List ℕ) → list_any is_colon text ≡ false → list_any is_colon (with_dollar marked text) ≡ false
dollar_no_colon true text h = h
dollar_no_colon false text h = h

column_no_colon : (e : End) → 1 ≤ e.at → list_any is_colon (column_text e) ≡ false
column_no_colon e low =
    dollar_no_colon e.marked (column_letters e.at)
    (list_any-none is_colon is_ascii_alphabetic (column_letters e.at) letter_no_colon (list_all-are_letters (column_letters e.at) (are_letters-column_letters e.at low)))

row_no_colon : (e : End) → e.at ≤ 1048576 → list_any is_colon (row_text e) ≡ false
row_no_colon e high =
    dollar_no_colon e.marked (decimal e.at)
    (list_any-none is_colon is_ascii_digit (decimal e.at) digit_no_colon (digits_decimal digits_test e.at (omega arith)))

corner_no_colon : (col row : End) → 1 ≤ col.at → row.at ≤ 1048576 → list_any is_colon (corner_text col row) ≡ false
corner_no_colon col row low high =
    list_any-append is_colon (column_text col) (row_text row) ∙ or_from _ _ (column_no_colon col low) (row_no_colon row high)

-- two ends that follow one another
spelled_span-two : (sheet : Option ℕ) (first last : List ℕ) (r : Reference) → list_any is_colon first ≡ false → two_ends sheet first last ≡ Some r → spelled_span sheet (first ++ codes ":." ++ last) ≡ Some r
spelled_span-two sheet first last r none two =
    let text = first ++ 58 ∷ (46 ∷ last) in
    let cut = cut_at_first is_colon 58 first (46 ∷ last) refl none in
    ap (spelled_span sheet) (append_assoc first (codes ":.") last)
    ∙ cond-true (list_any is_colon text) _ _ cut.has
    ∙ ap (λ x. option_and_then (two_ends sheet x) (after_point (after_first is_colon text))) cut.before
    ∙ ap (λ x. option_and_then (two_ends sheet first) (after_point x)) cut.after
    ∙ two

together-none : {A B C : Type 0} (f : A → B → C) (x : Option A) → together f x None ≡ None
together-none f None = refl
together-none f (Some a) = refl

-- a column is no cell
no_row_after : (e : End) → 1 ≤ e.at → corner_ends (column_text e) ≡ None
no_row_after e low =
    let letters = are_letters-column_letters e.at low in
    let whole_text = append-nil (column_text e) in
    let no_row : row_part (column_text e) ≡ [] = ap row_part (sym whole_text) ∙ row_part-append e.marked (column_letters e.at) [] letters refl in
    ap (λ x. together {C = End × End} (λ u v. (u, v)) (column_end (column_part (column_text e))) (row_end x)) no_row
    ∙ together-none _ _

-- a row is no cell and no column
column_len-digits : (ds : List ℕ) → are_digits ds ≡ true → column_len ds ≡ 0
column_len-digits [] h = refl
column_len-digits (c ∷ cs) h =
    cond-false (c == 36) _ _ (digit_no_dollar c (and_parts (is_ascii_digit c) _ (list_all-are_digits (c ∷ cs) h)).0)
    ∙ no_letter_first (c ∷ cs) h

digits_no_letters : (ds : List ℕ) → are_digits ds ≡ true → are_letters ds ≡ false
digits_no_letters [] h = refl
digits_no_letters (c ∷ cs) h =
    and_left (is_ascii_alphabetic c) _ (digit_no_letter c (and_parts (is_ascii_digit c) _ (list_all-are_digits (c ∷ cs) h)).0)

no_column_before : (marked : Bool) (ds : List ℕ) → are_digits ds ≡ true → column_end (column_part (with_dollar marked ds)) ≡ None
no_column_before true ds digits = ap (λ n. column_end (take n (36 ∷ ds))) (ap (λ n. 1 + n) (no_letter_first ds digits))
no_column_before false ds digits = ap (λ n. column_end (take n ds)) (column_len-digits ds digits)

row_no_column : (marked : Bool) (ds : List ℕ) → are_digits ds ≡ true → column_end (with_dollar marked ds) ≡ None
row_no_column marked ds digits =
    ap (λ x. end_of (with_dollar marked ds) (inside (column_of x))) (undollared-with_dollar marked ds (undollared-digits ds digits))
    ∙ ap (λ b. end_of (with_dollar marked ds) (inside (cond b (up_to 1024 (column_number ds)) Not))) (digits_no_letters ds digits)

-- the ends of each kind of reference
one_spelled : (sheet : Option ℕ) (cols rows : Ends) → AreEnds 1024 cols → AreEnds 1048576 rows → IsOne (reference_of sheet span.One cols rows).area (reference_of sheet span.One cols rows).marks → spelled_span sheet (printed_span span.One cols rows) ≡ Some (reference_of sheet span.One cols rows)
one_spelled sheet cols rows across down is =
    let text = corner_text cols.first rows.first in
    let make = λ (p : End × End). reference_of sheet span.One (in_order p.0 p.0) (in_order p.1 p.1) in
    let ends = corner_ends-corner_text cols.first rows.first across.from (omega (arith, across.ordered, across.to)) down.from (omega (arith, down.ordered, down.to)) in
    let last_col : cols.first ≡ cols.last = λ i. record { at = is.one_col i; marked = is.col_marks i } in
    let last_row : rows.first ≡ rows.last = λ i. record { at = is.one_row i; marked = is.row_marks i } in
    let both_cols : in_order cols.first cols.first ≡ cols =
    in_order-up cols.first cols.first (omega arith) ∙ ap (λ e. let ends : Ends = record { first = cols.first; last = e } in ends) last_col in
    let both_rows : in_order rows.first rows.first ≡ rows =
    in_order-up rows.first rows.first (omega arith) ∙ ap (λ e. let ends : Ends = record { first = rows.first; last = e } in ends) last_row in
    cond-false (list_any is_colon text) _ _ (corner_no_colon cols.first rows.first across.from (omega (arith, down.ordered, down.to)))
    ∙ ap (option_map make) ends
    ∙ ap (λ x. Some (reference_of sheet span.One x (in_order rows.first rows.first))) both_cols
    ∙ ap (λ x. Some (reference_of sheet span.One cols x)) both_rows

cells_spelled : (sheet : Option ℕ) (cols rows : Ends) → AreEnds 1024 cols → AreEnds 1048576 rows → spelled_span sheet (printed_span span.Cells cols rows) ≡ Some (reference_of sheet span.Cells cols rows)
cells_spelled sheet cols rows across down =
    let first = corner_text cols.first rows.first in
    let last = corner_text cols.last rows.last in
    let make = λ (a : End × End) (b : End × End). reference_of sheet span.Cells (in_order a.0 b.0) (in_order a.1 b.1) in
    let first_ends = corner_ends-corner_text cols.first rows.first across.from (omega (arith, across.ordered, across.to)) down.from (omega (arith, down.ordered, down.to)) in
    let last_ends = corner_ends-corner_text cols.last rows.last (omega (arith, across.from, across.ordered)) across.to (omega (arith, down.from, down.ordered)) down.to in
    let cells : two_cells sheet first last ≡ Some (reference_of sheet span.Cells cols rows) =
    ap (λ x. together make x (corner_ends last)) first_ends
    ∙ ap (λ x. together make (Some (cols.first, rows.first)) x) last_ends
    ∙ ap (λ x. Some (reference_of sheet span.Cells x (in_order rows.first rows.last))) (in_order-up cols.first cols.last across.ordered)
    ∙ ap (λ x. Some (reference_of sheet span.Cells cols x)) (in_order-up rows.first rows.last down.ordered)
    in
    spelled_span-two sheet first last (reference_of sheet span.Cells cols rows)
    (corner_no_colon cols.first rows.first across.from (omega (arith, down.ordered, down.to)))
    (ap (λ x. option_or x (option_or (two_columns sheet first last) (two_rows sheet first last))) cells)

columns_spelled : (sheet : Option ℕ) (cols : Ends) → AreEnds 1024 cols → (rows : Ends) → spelled_span sheet (printed_span span.Columns cols rows) ≡ Some (reference_of sheet span.Columns cols (whole 1048576))
columns_spelled sheet cols across rows =
    let first = column_text cols.first in
    let last = column_text cols.last in
    let make_cells = λ (a : End × End) (b : End × End). reference_of sheet span.Cells (in_order a.0 b.0) (in_order a.1 b.1) in
    let make = λ (a : End) (b : End). reference_of sheet span.Columns (in_order a b) (whole 1048576) in
    let first_end = column_end-column_text cols.first across.from (omega (arith, across.ordered, across.to)) in
    let last_end = column_end-column_text cols.last (omega (arith, across.from, across.ordered)) across.to in
    let no_cells : two_cells sheet first last ≡ None = ap (λ x. together make_cells x (corner_ends last)) (no_row_after cols.first across.from) in
    let columns : two_columns sheet first last ≡ Some (reference_of sheet span.Columns cols (whole 1048576)) =
    ap (λ x. together make x (column_end last)) first_end
    ∙ ap (λ x. together make (Some cols.first) x) last_end
    ∙ ap (λ x. Some (reference_of sheet span.Columns x (whole 1048576))) (in_order-up cols.first cols.last across.ordered)
    in
    spelled_span-two sheet first last (reference_of sheet span.Columns cols (whole 1048576)) (column_no_colon cols.first across.from)
    (ap (λ x. option_or x (option_or (two_columns sheet first last) (two_rows sheet first last))) no_cells
    ∙ ap (λ x. option_or x (two_rows sheet first last)) columns)

rows_spelled : (sheet : Option ℕ) (rows : Ends) → AreEnds 1048576 rows → (cols : Ends) → spelled_span sheet (printed_span span.Rows cols rows) ≡ Some (reference_of sheet span.Rows (whole 1024) rows)
rows_spelled sheet rows down cols =
    let first = row_text rows.first in
    let last = row_text rows.last in
    let digits = are_digits-decimal rows.first.at down.from (omega (arith, down.ordered, down.to)) in
    let make_cells = λ (a : End × End) (b : End × End). reference_of sheet span.Cells (in_order a.0 b.0) (in_order a.1 b.1) in
    let make_columns = λ (a : End) (b : End). reference_of sheet span.Columns (in_order a b) (whole 1048576) in
    let make = λ (a : End) (b : End). reference_of sheet span.Rows (whole 1024) (in_order a b) in
    let first_end = row_end-row_text rows.first down.from (omega (arith, down.ordered, down.to)) in
    let last_end = row_end-row_text rows.last (omega (arith, down.from, down.ordered)) down.to in
    let no_corner = ap (λ x. together {C = End × End} (λ u v. (u, v)) x (row_end (row_part first))) (no_column_before rows.first.marked (decimal rows.first.at) digits) in
    let no_cells : two_cells sheet first last ≡ None = ap (λ x. together make_cells x (corner_ends last)) no_corner in
    let no_columns : two_columns sheet first last ≡ None =
    ap (λ x. together make_columns x (column_end last)) (row_no_column rows.first.marked (decimal rows.first.at) digits) in
    let down_rows : two_rows sheet first last ≡ Some (reference_of sheet span.Rows (whole 1024) rows) =
    ap (λ x. together make x (row_end last)) first_end
    ∙ ap (λ x. together make (Some rows.first) x) last_end
    ∙ ap (λ x. Some (reference_of sheet span.Rows (whole 1024) x)) (in_order-up rows.first rows.last down.ordered)
    in
    spelled_span-two sheet first last (reference_of sheet span.Rows (whole 1024) rows) (row_no_colon rows.first (omega (arith, down.ordered, down.to)))
    (ap (λ x. option_or x (option_or (two_columns sheet first last) (two_rows sheet first last))) no_cells
    ∙ ap (λ x. option_or x (two_rows sheet first last)) no_columns
    ∙ down_rows)

-- whatever was spelled
any_spelled : (s : Span) (sheet : Option ℕ) (cols rows : Ends) → AreEnds 1024 cols → AreEnds 1048576 rows → IsSpanned s (reference_of sheet s cols rows).area (reference_of sheet s cols rows).marks → spelled_span sheet (printed_span s cols rows) ≡ Some (reference_of sheet s cols rows)
any_spelled span.One sheet cols rows across down is = one_spelled sheet cols rows across down is
any_spelled span.Cells sheet cols rows across down is = cells_spelled sheet cols rows across down
any_spelled span.Columns sheet cols rows across down is =
    let all : whole 1048576 ≡ rows = sym (λ i. record {
      first = record { at = is.from_top i; marked = is.first_unmarked i };
      last = record { at = is.to_end i; marked = is.last_unmarked i };
    }) in
    columns_spelled sheet cols across rows ∙ ap (λ x. Some (reference_of sheet span.Columns cols x)) all
any_spelled span.Rows sheet cols rows across down is =
    let all : whole 1024 ≡ cols = sym (λ i. record {
      first = record { at = is.from_left i; marked = is.first_unmarked i };
      last = record { at = is.to_end i; marked = is.last_unmarked i };
    }) in
    rows_spelled sheet rows down cols ∙ ap (λ x. Some (reference_of sheet span.Rows x rows)) all

-- the sheet, where one was written
abbrev written : Bool → ℕ → Option ℕ
written marked sheet = cond marked (Some sheet) None

record IsWritten (marked : Bool) (sheet : ℕ) : Type 0 where
  number : unwrap_or (written marked sheet) 0 ≡ sheet
  mark : is_some (written marked sheet) ≡ marked
  spelled : written_sheet (cond marked (codes "$" ++ sheet_word sheet) []) ≡ Some (written marked sheet)
  no_point : list_any is_point (cond marked (codes "$" ++ sheet_word sheet) []) ≡ false

is_written : (marked : Bool) (sheet : ℕ) → sheet ≤ 15 → (marked ≡ false → sheet ≡ 0) → IsWritten marked sheet
is_written true sheet high own = record {
  number = refl;
  mark = refl;
  spelled =
      cond-false (length (codes "$" ++ sheet_word sheet) == 0) _ _ (ne_eqb (length (codes "$" ++ sheet_word sheet)) 0 (λ e. omega arith))
      ∙ ap (λ x. option_map (λ n. Some n) (inside x)) (sheet_of-sheet_word sheet high);
  no_point = list_any-none is_point is_ascii_digit (decimal (sheet + 1)) digit_no_point (digits_decimal digits_test (sheet + 1) (omega arith));
}
is_written false sheet high own = record { number = sym (own refl); mark = refl; spelled = refl; no_point = refl }

-- what is printed for a reference is read as that reference
pub references_read_back : (r : Reference) → IsRectangle r.area → IsReference r → spelled_reference (printed_reference r) ≡ Some r
references_read_back r lies is =
    let sheet = written r.marks.sheet r.area.sheet in
    let front = printed_sheet r in
    let rest = printed_span r.span (cols_of r) (rows_of r) in
    let text = front ++ 46 ∷ rest in
    let by = is_written r.marks.sheet r.area.sheet lies.sheet_in is.own_sheet in
    let again = reference_of sheet r.span (cols_of r) (rows_of r) in
    let same : again ≡ r = λ i. record { area = record r.area { sheet = by.number i }; span = r.span; marks = record r.marks { sheet = by.mark i } } in
    let IsSpannedHere : Reference → Type 0 = λ q. IsSpanned q.span q.area q.marks in
    let across : AreEnds 1024 (cols_of r) = record { from = lies.cols_from; ordered = lies.cols_in_order; to = lies.cols_to } in
    let down : AreEnds 1048576 (rows_of r) = record { from = lies.rows_from; ordered = lies.rows_in_order; to = lies.rows_to } in
    let cut = cut_at_first is_point 46 front rest refl by.no_point in
    ap spelled_reference (append_assoc front (codes ".") rest)
    ∙ cond-true (list_any is_point text) _ _ cut.has
    ∙ ap (λ x. option_and_then (λ n. spelled_span n (after_first is_point text)) (written_sheet x)) cut.before
    ∙ ap (λ x. option_and_then (λ n. spelled_span n x) (written_sheet front)) cut.after
    ∙ ap (option_and_then (λ n. spelled_span n rest)) by.spelled
    ∙ any_spelled r.span sheet (cols_of r) (rows_of r) across down (subst IsSpannedHere (sym same) is.spanned)
    ∙ ap Some same
