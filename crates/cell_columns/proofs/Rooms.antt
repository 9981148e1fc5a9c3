-- Columns that are emptied one after the other.
use Rattle.std.proofs.Common.{◌≡◌, ◌≢◌, ℕ, ◌+◌, ◌-◌, ◌*◌, ◌≤◌, ◌<◌, ◌==◌, ◌&&◌, nat_le, nat_lt, not, Bool, true, false, cond, List, [], ◌∷◌, refl, sym, ap, subst, ◌∙◌, arith}
use Rattle.std.specs.Prelude.{slice_index_or}
use Rattle.std.specs.List.{filter, list_all}
use Rattle.std.proofs.lemmas.Bool.Decides.{Decides-eqb, nat_tests}
use Rattle.calc_addr.specs.declared.cell.TheConstants.{LAST_COL}
use Rattle.calc_addr.specs.Places.{IsPlace, IsRectangle, Place, Rectangle, covers}
use Rattle.calc_model.specs.Books.{is_cell_entry, is_content, is_place}
use Rattle.calc_model.proofs.Areas.{both_true}
use Rattle.calc_model.specs.declared.content.Content.{Content}
use Rattle.calc_model.specs.CellEdits.{CellEntries, within_area, without_area}
use Rattle.formula_code.specs.Codes.{Codes}
use Rattle.block_column.specs.SlotRows.{SlotRows}
use Rattle.formula_groups.specs.GroupRows.{GroupRows}
use Rattle.cell_columns.specs.Cells.{cells_of, column_number}
use Rattle.cell_columns.specs.Emptied.{lies_in, without_rows}
use Rattle.cell_columns.specs.Walks.{within_rows}
use Rattle.cell_columns.specs.Lent.{AreColumns, HaveRoom, codes_of, slots_of}
use Rattle.cell_columns.proofs.PutSlot.{unequal}
use Rattle.cell_columns.proofs.Told.{tested_place}

-- so far columns and groups are seen as they were, and have room
pub record RoomMade (columns now : List SlotRows) (groups groups_now : List GroupRows) (from number : ℕ) : Type 0 where
  pub slots : slots_of now ≡ slots_of columns
  pub codes : codes_of groups_now ≡ codes_of groups
  pub room : HaveRoom now groups_now from number

pub more_room : (columns now : List SlotRows) (groups groups_now : List GroupRows) (from number : ℕ) → HaveRoom columns groups from number → ((n : ℕ) → n ≢ number → (d : SlotRows) → slice_index_or now n d ≡ slice_index_or columns n d) → ((n : ℕ) → n ≢ number → (d : GroupRows) → slice_index_or groups_now n d ≡ slice_index_or groups n d) → ((d : SlotRows) → 1 ≤ (slice_index_or now number d).spare) → ((d : GroupRows) → 1 ≤ (slice_index_or groups_now number d).spare) → HaveRoom now groups_now from (number + 1)
more_room columns now groups groups_now from number room columns_stay groups_stay slots codes = record {
  slots = λ n h k d. elim (n == number) as (λ b. (n == number) ≡ b → 1 ≤ (slice_index_or now n d).spare) [
    | true ↦ λ same. subst (λ m. 1 ≤ (slice_index_or now m d).spare) (sym ((Decides-eqb n number).0 same)) (slots d)
    | false ↦ λ other. subst (λ (x : SlotRows). 1 ≤ x.spare) (sym (columns_stay n (unequal n number other) d)) (room.slots n h (before n (unequal n number other) k) d)
  ] refl;
  codes = λ n h k d. elim (n == number) as (λ b. (n == number) ≡ b → 1 ≤ (slice_index_or groups_now n d).spare) [
    | true ↦ λ same. subst (λ m. 1 ≤ (slice_index_or groups_now m d).spare) (sym ((Decides-eqb n number).0 same)) (codes d)
    | false ↦ λ other. subst (λ (x : GroupRows). 1 ≤ x.spare) (sym (groups_stay n (unequal n number other) d)) (room.codes n h (before n (unequal n number other) k) d)
  ] refl;
}
  where
    before : (n : ℕ) → n ≢ number → n < number + 1 → n < number
    before n other h = grind (arith, other, h)

-- room that is left behind a column
pub room_behind : (columns now : List SlotRows) (groups groups_now : List GroupRows) (number behind : ℕ) → HaveRoom columns groups number behind → ((n : ℕ) → n ≢ number → (d : SlotRows) → slice_index_or now n d ≡ slice_index_or columns n d) → ((n : ℕ) → n ≢ number → (d : GroupRows) → slice_index_or groups_now n d ≡ slice_index_or groups n d) → HaveRoom now groups_now (number + 1) behind
room_behind columns now groups groups_now number behind room columns_stay groups_stay = record {
  slots = λ n h k d. subst (λ (x : SlotRows). 1 ≤ x.spare) (sym (columns_stay n (λ e. omega (arith, e, h)) d)) (room.slots n (omega (arith, h)) k d);
  codes = λ n h k d. subst (λ (x : GroupRows). 1 ≤ x.spare) (sym (groups_stay n (λ e. omega (arith, e, h)) d)) (room.codes n (omega (arith, h)) k d);
}

pub room_here : (columns : List SlotRows) (groups : List GroupRows) (number behind : ℕ) → number < behind → HaveRoom columns groups number behind → HaveRoom columns groups number (number + 1)
room_here columns groups number behind more room = record {
  slots = λ n h k d. room.slots n h (omega (arith, k, more)) d;
  codes = λ n h k d. room.codes n h (omega (arith, k, more)) d;
}

filtered_twice : (p q r : Place → Bool) → ((x : Place) → (q x && p x) ≡ r x) → (es : CellEntries) → filter (λ e. p e.0) (filter (λ e. q e.0) es) ≡ filter (λ e. r e.0) es
filtered_twice p q r both [] = refl
filtered_twice p q r both (e ∷ es) =
    let rest : filter (λ e. p e.0) (filter (λ e. q e.0) es) ≡ filter (λ e. r e.0) es = filtered_twice p q r both es in
    ap (λ (t : CellEntries). t) (first (q e.0) (p e.0) e es)
    ∙ ap (λ b. cond b (e ∷ filter (λ e. p e.0) (filter (λ e. q e.0) es)) (filter (λ e. p e.0) (filter (λ e. q e.0) es))) (both e.0)
    ∙ ap (λ (t : CellEntries). cond (r e.0) (e ∷ t) t) rest
  where
    first : (b c : Bool) (e : Place × Content) (es : CellEntries) → filter (λ e. p e.0) (cond (q e.0) (e ∷ filter (λ e. q e.0) es) (filter (λ e. q e.0) es)) ≡ cond (q e.0 && p e.0) (e ∷ filter (λ e. p e.0) (filter (λ e. q e.0) es)) (filter (λ e. p e.0) (filter (λ e. q e.0) es))
    first b c e es = elim (q e.0) as (λ d. filter (λ e. p e.0) (cond d (e ∷ filter (λ e. q e.0) es) (filter (λ e. q e.0) es)) ≡ cond (d && p e.0) (e ∷ filter (λ e. p e.0) (filter (λ e. q e.0) es)) (filter (λ e. p e.0) (filter (λ e. q e.0) es))) [ true ↦ refl | false ↦ refl ]

-- nothing lies in no column
pub without_none : (from first last : ℕ) (es : CellEntries) → without_rows from from first last es ≡ es
without_none from first last [] = refl
without_none from first last (e ∷ es) =
    let out : lies_in from from first last e.0 ≡ false = nowhere (column_number e.0) e.0.row in
    ap (λ b. cond (not b) (e ∷ without_rows from from first last es) (without_rows from from first last es)) out
    ∙ ap (λ t. e ∷ t) (without_none from first last es)
  where
    nowhere : (k row : ℕ) → (nat_le from k && nat_lt k from && nat_le first row && nat_le row last) ≡ false
    nowhere k row = grind (arith, nat_tests)

pub without_more : (from number first last : ℕ) → from ≤ number → (es : CellEntries) → without_rows number (number + 1) first last (without_rows from number first last es) ≡ without_rows from (number + 1) first last es
without_more from number first last order =
    filtered_twice (λ q. not (lies_in number (number + 1) first last q)) (λ q. not (lies_in from number first last q)) (λ q. not (lies_in from (number + 1) first last q)) (λ q. joined (column_number q) q.row)
  where
    joined : (k row : ℕ) → (not (nat_le from k && nat_lt k number && nat_le first row && nat_le row last) && not (nat_le number k && nat_lt k (number + 1) && nat_le first row && nat_le row last)) ≡ not (nat_le from k && nat_lt k (number + 1) && nat_le first row && nat_le row last)
    joined k row = grind (arith, nat_tests, order)

-- columns up to one are emptied, and there is room in those behind
pub record Cleared (codes : Codes) (columns : List SlotRows) (codes_now : Codes) (columns_now : List SlotRows) (groups_now : List GroupRows) (left from number behind first last : ℕ) : Type 0 where
  pub are : AreColumns codes_now columns_now groups_now left
  pub cells : cells_of codes_now (slots_of columns_now) ≡ without_rows from number first last (cells_of codes (slots_of columns))
  pub room : HaveRoom columns_now groups_now number behind

-- the rows of an area's columns are the area
same_cover : (area : Rectangle) → IsRectangle area → (q : Place) → IsPlace q → lies_in (area.sheet * LAST_COL + (area.first_col - 1)) (area.sheet * LAST_COL + (area.first_col - 1) + (area.last_col + 1 - area.first_col)) area.first_row area.last_row q ≡ covers area q
same_cover area is q at = agree _ _ onward back
  where
    onward : lies_in (area.sheet * LAST_COL + (area.first_col - 1)) (area.sheet * LAST_COL + (area.first_col - 1) + (area.last_col + 1 - area.first_col)) area.first_row area.last_row q ≡ true → covers area q ≡ true
    onward h = grind (arith, nat_tests, h, is.cols_from, is.cols_in_order, is.cols_to, at.col_from, at.col_to)

    back : covers area q ≡ true → lies_in (area.sheet * LAST_COL + (area.first_col - 1)) (area.sheet * LAST_COL + (area.first_col - 1) + (area.last_col + 1 - area.first_col)) area.first_row area.last_row q ≡ true
    back h = grind (arith, nat_tests, h, is.cols_from, is.cols_in_order, is.cols_to, at.col_from, at.col_to)

    agree : (b d : Bool) → (b ≡ true → d ≡ true) → (d ≡ true → b ≡ true) → b ≡ d
    agree true d h k = sym (h refl)
    agree false true h k = k refl
    agree false false h k = refl

-- entries of places are kept by the rows of an area's columns as by the area
covered_alike : (keep : Bool → Bool) (area : Rectangle) → IsRectangle area → (from behind : ℕ) → from ≡ area.sheet * LAST_COL + (area.first_col - 1) → behind ≡ from + (area.last_col + 1 - area.first_col) → (es : CellEntries) → list_all is_cell_entry es ≡ true → filter (λ e. keep (lies_in from behind area.first_row area.last_row e.0)) es ≡ filter (λ e. keep (covers area e.0)) es
covered_alike keep area is from behind start end es held =
    ap (λ n. filter (λ e. keep (lies_in from n area.first_row area.last_row e.0)) es) end
    ∙ ap (λ n. filter (λ e. keep (lies_in n (n + (area.last_col + 1 - area.first_col)) area.first_row area.last_row e.0)) es) start
    ∙ each es held
  where
    each : (es : CellEntries) → list_all is_cell_entry es ≡ true → filter (λ e. keep (lies_in (area.sheet * LAST_COL + (area.first_col - 1)) (area.sheet * LAST_COL + (area.first_col - 1) + (area.last_col + 1 - area.first_col)) area.first_row area.last_row e.0)) es ≡ filter (λ e. keep (covers area e.0)) es
    each [] h = refl
    each (e ∷ es) h =
        let parts = both_true (is_cell_entry e) (list_all is_cell_entry es) h in
        let place = both_true (is_place e.0) (is_content e.1) parts.0 in
        ap (λ (t : CellEntries). cond (keep (lies_in (area.sheet * LAST_COL + (area.first_col - 1)) (area.sheet * LAST_COL + (area.first_col - 1) + (area.last_col + 1 - area.first_col)) area.first_row area.last_row e.0)) (e ∷ t) t) (each es parts.1)
        ∙ ap (λ b. cond (keep b) (e ∷ filter (λ e. keep (covers area e.0)) es) (filter (λ e. keep (covers area e.0)) es)) (same_cover area is e.0 (tested_place e.0 place.0))

pub without_covered : (area : Rectangle) → IsRectangle area → (from behind : ℕ) → from ≡ area.sheet * LAST_COL + (area.first_col - 1) → behind ≡ from + (area.last_col + 1 - area.first_col) → (es : CellEntries) → list_all is_cell_entry es ≡ true → without_rows from behind area.first_row area.last_row es ≡ without_area es area
without_covered area is from behind start end es held = covered_alike (λ b. not b) area is from behind start end es held

pub within_covered : (area : Rectangle) → IsRectangle area → (from behind : ℕ) → from ≡ area.sheet * LAST_COL + (area.first_col - 1) → behind ≡ from + (area.last_col + 1 - area.first_col) → (es : CellEntries) → list_all is_cell_entry es ≡ true → within_rows from behind area.first_row area.last_row es ≡ within_area es area
within_covered area is from behind start end es held = covered_alike (λ b. b) area is from behind start end es held
