-- The corners that are read from the left are those of the text in brackets.
use Rattle.calc_addr.specs.declared.reference.Span.TheVariants as span
use Rattle.calc_model.specs.declared.tree.Tree.TheVariants as t
use Rattle.std.proofs.Common.{◌≡◌, ◌≤◌, ℕ, Bool, true, false, ◌&&◌, Option, Some, None, List, [], ◌∷◌, ◌++◌, refl, sym, ap, ◌∙◌, append_assoc, arith}
use Rattle.std.specs.Prelude.{nat_le, option_map}
use Rattle.std.specs.List.{after_first, list_any, prefix_len}
use Rattle.std.specs.Option.{option_and_then, option_or}
use Rattle.std.specs.Char.{is_ascii_alphabetic, is_ascii_digit}
use Rattle.std.specs.Str.Parse.{digits_value}
use Rattle.std.proofs.lemmas.Bool.{and_from, and_parts, cond-false, cond-true, le-leb, or_from}
use Rattle.std.proofs.lemmas.Bool.Decides.{nat_tests}
use Rattle.std.proofs.lemmas.List.Folds.{list_any-append}
use Rattle.calc_addr.specs.Bracketed.{after_point, column_end, corner_ends, end_of, inside, is_marked, one_cell, row_end, spelled_reference, together, two_cells, two_columns, two_ends, two_rows, with_dollar}
use Rattle.calc_addr.specs.Ends.{in_order, reference_of}
use Rattle.calc_addr.specs.Letters.{column_number}
use Rattle.calc_addr.specs.Spelling.{are_digits, are_letters, column_of, is_colon, row_of, row_part, up_to}
use Rattle.calc_addr.specs.declared.read.Spelled.TheVariants.{Is}
use Rattle.calc_addr.proofs.References.EndsInOrder.{in_order-same}
use Rattle.calc_addr.proofs.Spelling.RoundTrip.{column_part-append, cut_at_first, digit_no_dollar, letter_no_dollar, list_all-are_digits, list_all-are_letters, list_any-none, no_letter_first, row_part-append, undollared-digits, undollared-letters, undollared-with_dollar}
use Rattle.formula_reader.specs.Corners.{IsEnd, IsInFront, cell_reference, corners_reference, spelled_corner}
use Rattle.formula_reader.specs.Leaves.{reference_at}
use Rattle.formula_reader.specs.declared.references.Corner.{Corner}
use Rattle.formula_reader.specs.declared.references.End.{End}
use Rattle.formula_reader.proofs.Complete.Leaves.{reference_in_front}

-- the ends of a corner, as calc_addr has them
abbrev result_type : {A : Type 0} → (List ℕ → Option A) → Type 0
result_type {A} f = A

abbrev Coordinate : Type 0
Coordinate = result_type column_end

abbrev Ends : Type 0
Ends = Coordinate × Coordinate

abbrev corner_of : Ends → Corner
corner_of ends = record { col = record { at = ends.0.at; marked = ends.0.marked }; row = record { at = ends.1.at; marked = ends.1.marked } }

abbrev corner_by : Option Coordinate → Option Coordinate → Option Corner
corner_by col row = option_map corner_of (together {C = Ends} (λ u v. (u, v)) col row)

abbrev marked_corner : Corner → Bool → Bool → Option Corner
marked_corner corner m k = Some (record { col = record { at = corner.col.at; marked = m }; row = record { at = corner.row.at; marked = k } })

-- the mark and the number of a coordinate
marked_letters : (marked : Bool) (text : List ℕ) → are_letters text ≡ true → is_marked (with_dollar marked text) ≡ marked
marked_letters true text h = refl
marked_letters false [] h = cc
marked_letters false (c ∷ cs) h = letter_no_dollar c (and_parts (is_ascii_alphabetic c) _ h).0

marked_digits : (marked : Bool) (text : List ℕ) → are_digits text ≡ true → is_marked (with_dollar marked text) ≡ marked
marked_digits true text h = refl
marked_digits false [] h = cc
marked_digits false (c ∷ cs) h = digit_no_dollar c (and_parts (is_ascii_digit c) _ (list_all-are_digits (c ∷ cs) h)).0

up_to_is : (last n : ℕ) → 1 ≤ n → n ≤ last → up_to last n ≡ Is n
up_to_is last n low high = cond-true (nat_le 1 n && nat_le n last) _ _ (and_from _ _ (le-leb 1 n low) (le-leb n last high))

column_there : (marked : Bool) (text : List ℕ) (n : ℕ) → are_letters text ≡ true → column_number text ≡ n → 1 ≤ n → n ≤ 1024 → column_end (with_dollar marked text) ≡ end_of (with_dollar marked text) (Some n)
column_there marked text n letters e low high =
    let found = with_dollar marked text in
    ap (λ x. end_of found (inside (column_of x))) (undollared-with_dollar marked text (undollared-letters text letters))
    ∙ ap (λ x. end_of found (inside x)) (cond-true (are_letters text) _ _ letters ∙ ap (up_to 1024) e ∙ up_to_is 1024 n low high)

row_there : (marked : Bool) (text : List ℕ) (n : ℕ) → are_digits text ≡ true → digits_value 10 text ≡ n → 1 ≤ n → n ≤ 1048576 → row_end (with_dollar marked text) ≡ end_of (with_dollar marked text) (Some n)
row_there marked text n digits e low high =
    let found = with_dollar marked text in
    ap (λ x. end_of found (inside (row_of x))) (undollared-with_dollar marked text (undollared-digits text digits))
    ∙ ap (λ x. end_of found (inside x)) (cond-true (are_digits text) _ _ digits ∙ ap (up_to 1048576) e ∙ up_to_is 1048576 n low high)

-- no coordinate has a colon
letter_colonless : (c : ℕ) → is_ascii_alphabetic c ≡ true → is_colon c ≡ false
letter_colonless c h = grind (arith, nat_tests)

digit_colonless : (c : ℕ) → is_ascii_digit c ≡ true → is_colon c ≡ false
digit_colonless c h = grind (arith, nat_tests)

dollar_colonless : (marked : Bool) (text : List ℕ) → list_any is_colon text ≡ false → list_any is_colon (with_dollar marked text) ≡ false
dollar_colonless true text h = h
dollar_colonless false text h = h

no_letter : (marked : Bool) (text : List ℕ) → are_digits text ≡ true → prefix_len is_ascii_alphabetic (with_dollar marked text) ≡ 0
no_letter true text h = refl
no_letter false text h = no_letter_first text h

-- a column and a row behind it are a corner
pub corner_is : (bytes rest behind : List ℕ) (col row : End) → IsEnd are_letters column_number 1024 bytes col rest → IsEnd are_digits (digits_value 10) 1048576 rest row behind → IsInFront bytes (record { col = col; row = row }) behind
corner_is bytes rest behind col row c r =
    let first = with_dollar col.marked c.text in
    let last = with_dollar row.marked r.text in
    let stop = no_letter row.marked r.text r.formed in
    let corner : Corner = record { col = col; row = row } in
    record {
      text = first ++ last;
      joined = append_assoc first last behind ∙ ap (λ x. first ++ x) r.joined ∙ c.joined;
      spelled =
          ap (λ x. corner_by (column_end x) (row_end (row_part (first ++ last)))) (column_part-append col.marked c.text last c.formed stop)
          ∙ ap (λ x. corner_by (column_end first) (row_end x)) (row_part-append col.marked c.text last c.formed stop)
          ∙ ap (λ x. corner_by x (row_end last)) (column_there col.marked c.text col.at c.formed c.written c.from c.to)
          ∙ ap (corner_by (end_of first (Some col.at))) (row_there row.marked r.text row.at r.formed r.written r.from r.to)
          ∙ ap (λ m. marked_corner corner m (is_marked last)) (marked_letters col.marked c.text c.formed)
          ∙ ap (marked_corner corner col.marked) (marked_digits row.marked r.text r.formed);
      colonless =
          list_any-append is_colon first last
          ∙ or_from _ _
          (dollar_colonless col.marked c.text (list_any-none is_colon is_ascii_alphabetic c.text letter_colonless (list_all-are_letters c.text c.formed)))
          (dollar_colonless row.marked r.text (list_any-none is_colon is_ascii_digit r.text digit_colonless (list_all-are_digits r.text r.formed)));
    }

-- the corner of some ends
some_of : {A B : Type 0} (f : A → B) (o : Option A) (b : B) → option_map f o ≡ Some b → (a : A) × (o ≡ Some a) × (f a ≡ b)
some_of f None b e = cc
some_of f (Some a) b e = (a, refl, cc)

cell_same : (ends : Ends) → reference_of None span.One (in_order ends.0 ends.0) (in_order ends.1 ends.1) ≡ cell_reference (corner_of ends)
cell_same ends = rw (in_order-same ends.0, in_order-same ends.1) refl

cells_same : (a b : Ends) → reference_of None span.Cells (in_order a.0 b.0) (in_order a.1 b.1) ≡ corners_reference (corner_of a) (corner_of b)
cells_same a b = go (nat_le a.0.at b.0.at) (nat_le a.1.at b.1.at) refl refl
  where
    go : (x y : Bool) → nat_le a.0.at b.0.at ≡ x → nat_le a.1.at b.1.at ≡ y → reference_of None span.Cells (in_order a.0 b.0) (in_order a.1 b.1) ≡ corners_reference (corner_of a) (corner_of b)
    go true true e f = rw (e, f) refl
    go true false e f = rw (e, f) refl
    go false true e f = rw (e, f) refl
    go false false e f = rw (e, f) refl

cell_by : (text : List ℕ) (corner : Corner) → spelled_corner text ≡ Some corner → one_cell None text ≡ Some (cell_reference corner)
cell_by text corner h =
    let found = some_of corner_of (corner_ends text) corner h in
    ap (option_map (λ (ends : Ends). reference_of None span.One (in_order ends.0 ends.0) (in_order ends.1 ends.1))) found.1
    ∙ ap Some (cell_same found.0)
    ∙ ap (λ c. Some (cell_reference c)) found.2

cells_by : (first last : List ℕ) (a b : Corner) → spelled_corner first ≡ Some a → spelled_corner last ≡ Some b → two_cells None first last ≡ Some (corners_reference a b)
cells_by first last a b h k =
    let one = some_of corner_of (corner_ends first) a h in
    let two = some_of corner_of (corner_ends last) b k in
    let made = λ (x y : Option Ends). together (λ (u v : Ends). reference_of None span.Cells (in_order u.0 v.0) (in_order u.1 v.1)) x y in
    ap (λ x. made x (corner_ends last)) one.1
    ∙ ap (made (Some one.0)) two.1
    ∙ ap Some (cells_same one.0 two.0)
    ∙ ap (λ c. Some (corners_reference c (corner_of two.0))) one.2
    ∙ ap (λ c. Some (corners_reference a c)) two.2

pub cell_found : (bytes behind rest left : List ℕ) (corner : Corner) → bytes ≡ 46 ∷ behind → IsInFront behind corner rest → rest ≡ 93 ∷ left → reference_at bytes ≡ Some (t.Ref (cell_reference corner), left)
cell_found bytes behind rest left corner point front closing =
    let spelled : spelled_reference (46 ∷ front.text) ≡ Some (cell_reference corner) =
    cond-false (list_any is_colon front.text) _ _ front.colonless ∙ cell_by front.text corner front.spelled in
    ap reference_at (point ∙ ap (λ x. 46 ∷ x) (sym front.joined ∙ ap (λ x. front.text ++ x) closing))
    ∙ reference_in_front (46 ∷ front.text) left (cell_reference corner) spelled

pub cells_found : (bytes b c d e rest left : List ℕ) (first last : Corner) → bytes ≡ 46 ∷ b → IsInFront b first c → c ≡ 58 ∷ d → d ≡ 46 ∷ e → IsInFront e last rest → rest ≡ 93 ∷ left → reference_at bytes ≡ Some (t.Ref (corners_reference first last), left)
cells_found bytes b c d e rest left first last point front colon second back closing =
    let text = front.text ++ 58 ∷ (46 ∷ back.text) in
    let cut = cut_at_first is_colon 58 front.text (46 ∷ back.text) refl front.colonless in
    let both : two_ends None front.text back.text ≡ Some (corners_reference first last) =
    ap (λ x. option_or x (option_or (two_columns None front.text back.text) (two_rows None front.text back.text))) (cells_by front.text back.text first last front.spelled back.spelled) in
    let spelled : spelled_reference (46 ∷ text) ≡ Some (corners_reference first last) =
    cond-true (list_any is_colon text) _ _ cut.has
    ∙ ap (λ x. option_and_then (two_ends None x) (after_point (after_first is_colon text))) cut.before
    ∙ ap (λ x. option_and_then (two_ends None front.text) (after_point x)) cut.after
    ∙ both in
    let joined : 46 ∷ (text ++ 93 ∷ left) ≡ bytes =
    ap (λ x. 46 ∷ x) (append_assoc front.text (58 ∷ (46 ∷ back.text)) (93 ∷ left)
    ∙ ap (λ x. front.text ++ 58 ∷ (46 ∷ x)) (ap (λ x. back.text ++ x) (sym closing) ∙ back.joined)
    ∙ ap (λ x. front.text ++ 58 ∷ x) (sym second)
    ∙ ap (λ x. front.text ++ x) (sym colon)
    ∙ front.joined)
    ∙ sym point in
    ap reference_at (sym joined) ∙ reference_in_front (46 ∷ text) left (corners_reference first last) spelled
