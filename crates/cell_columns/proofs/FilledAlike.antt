-- A slot that is repeated in rows in which a moved formula has one relative form.
use Rattle.std.proofs.Common.{◌≡◌, ℕ, zero, suc, ◌+◌, ◌-◌, ◌≤◌, ◌<◌, true, cond, List, ◌∷◌, map, refl, sym, ap, subst, ◌∙◌, arith}
use Rattle.std.specs.List.{range_with_len}
use Rattle.std.specs.BTreeMap.{insert_entry, is_at}
use Rattle.std.specs.Map.{remove_entry}
use Rattle.calc_addr.specs.Places.{IsPlace, Place, column_places, place_cmp}
use Rattle.calc_model.specs.declared.content.Content.{Content}
use Rattle.calc_model.specs.declared.content.Content.TheVariants as con
use Rattle.calc_model.specs.declared.tree.Tree.{Tree}
use Rattle.calc_model.specs.Books.{content_at, is_content, is_held, with_content}
use Rattle.calc_model.specs.CellEdits.{CellEntries, moved_content, with_entries}
use Rattle.calc_model.specs.Formed.{is_formed}
use Rattle.calc_model.specs.Homes.{cols_between, rows_between}
use Rattle.calc_model.specs.TreeShifts.{moved_tree}
use Rattle.calc_model.proofs.FormedShifts.{moved_is_formed}
use Rattle.formula_code.specs.Codes.{Codes, IsCodeAt, form_at, has_valid_references, tree_at}
use Rattle.formula_code.specs.Relative.{absolute, relative}
use Rattle.formula_code.proofs.Distances.{tree_back}
use Rattle.formula_code.proofs.FormsBack.{form_back}
use Rattle.block_column.specs.declared.slot.Slot.{Slot}
use Rattle.block_column.specs.declared.slot.Slot.TheVariants as slot
use Rattle.block_column.specs.Kinds.{is_filled}
use Rattle.moved_forms.specs.Alike.{AreAlike, moved_form}
use Rattle.moved_forms.proofs.Forms.{valid_of}
use Rattle.cell_columns.specs.Cells.{Column, cells_only, column_number, content_of, slot_at}
use Rattle.cell_columns.specs.Filled.{FitsRows, entries_at, moved_entries, repeated}
use Rattle.cell_columns.specs.Sheets.{AreSheets, IsFit}
use Rattle.calc_model.proofs.Reached.{same_cell}
use Rattle.cell_columns.proofs.FilledCells.{inserted}
use Rattle.cell_columns.proofs.FilledRows.{in_column}
use Rattle.kept_codes.proofs.FormulaRows.{from_first}
use Rattle.cell_columns.proofs.SheetShifted.{held_filled}

pub moved_held : (from to : Place) (content : Content) → is_held content ≡ true → is_held (moved_content from to content) ≡ true
moved_held from to con.Empty h = h
moved_held from to (con.Constant value) h = refl
moved_held from to (con.Formula tree) h = refl
moved_held from to (con.Raw text) h = refl

module _ (codes : Codes) (columns : List Column) (sheets : AreSheets codes columns) (cell : Place) (is : IsPlace cell) (from : Place) (content : Content) (end : ℕ) (formed : (tree : Tree) → content ≡ con.Formula tree → is_formed tree ≡ true) (alike : (tree : Tree) → content ≡ con.Formula tree → AreAlike from tree cell end) (here : content_of codes cell (slot_at columns cell) ≡ moved_content from cell content) where
  abbrev x : Slot
  x = slot_at columns cell

  -- the slot fits another cell, and is the moved content there
  record Fits (q : Place) (y : Slot) : Type 0 where
    fit : IsFit codes q y
    same : content_of codes q y ≡ moved_content from q content

  -- what isn't a formula is the same everywhere
  plain : (q : Place) (y : Slot) → x ≡ y → ((id : ℕ) → y ≡ slot.Formula id → ⊥) → content_of codes q y ≡ content_of codes cell y → moved_content from q content ≡ moved_content from cell content → Fits q y
  plain q y at no_code same moved = record {
    fit = record {
      coded = λ id formula. absurd (no_code id formula);
      fit = λ filled. subst (λ c. is_content c ≡ true) (ap (content_of codes cell) at ∙ sym same) (sheets.fit cell is (subst (λ z. is_filled z ≡ true) (sym at) filled));
    };
    same = same ∙ ap (content_of codes cell) (sym at) ∙ here ∙ sym moved;
  }

  not_moved : (q : Place) (y : Slot) → x ≡ y → ((tree : Tree) → content_of codes cell y ≡ con.Formula tree → ⊥) → (c : Content) → content ≡ c → moved_content from q content ≡ moved_content from cell content
  not_moved q y x_is no_formula con.Empty c_is = ap (moved_content from q) c_is ∙ sym (ap (moved_content from cell) c_is)
  not_moved q y x_is no_formula (con.Constant value) c_is = ap (moved_content from q) c_is ∙ sym (ap (moved_content from cell) c_is)
  not_moved q y x_is no_formula (con.Raw text) c_is = ap (moved_content from q) c_is ∙ sym (ap (moved_content from cell) c_is)
  not_moved q y x_is no_formula (con.Formula tree) c_is =
      absurd (no_formula (moved_tree (cols_between from cell) (rows_between from cell) tree) (sym (ap (content_of codes cell) x_is) ∙ here ∙ ap (moved_content from cell) c_is))

  coded : (q : Place) → IsPlace q → column_number q ≡ column_number cell → cell.row + 1 ≤ q.row → q.row ≤ end → (id : ℕ) → x ≡ slot.Formula id → (tree : Tree) → content ≡ con.Formula tree → Fits q (slot.Formula id)
  coded q at column low high id x_is tree is_tree =
      let moved : Place → Tree = λ p. moved_tree (cols_between from p) (rows_between from p) tree in
      let code : IsCodeAt codes id cell = sheets.coded cell is id x_is in
      let at_cell : tree_at codes id cell ≡ moved cell = one_tree (tree_at codes id cell) (moved cell) (sym (ap (content_of codes cell) x_is) ∙ here ∙ ap (moved_content from cell) is_tree) in
      let same_form : moved_form from tree q ≡ moved_form from tree cell = ap (moved_form from tree) (in_column cell is q at column) ∙ alike tree is_tree q.row (omega (arith, low)) high in
      let form : form_at codes id ≡ relative q (moved q) = sym (form_back cell (form_at codes id) code.valid) ∙ ap (relative cell) at_cell ∙ sym same_form in
      let there : tree_at codes id q ≡ moved q = ap (absolute q) form ∙ tree_back q (moved q) at in
      let good : is_formed (moved q) ≡ true = moved_is_formed (cols_between from q) (rows_between from q) tree (formed tree is_tree) in
      record {
        fit = record {
          coded = λ other same. subst (λ k. IsCodeAt codes k q) (same_code id other same) (record {
            live = code.live;
            valid = subst (λ (t : Tree). has_valid_references t ≡ true) (sym there) (valid_of (moved q) good);
          });
          fit = λ _. subst (λ (t : Tree). is_formed t ≡ true) (sym there) good;
        };
        same = ap con.Formula there ∙ sym (ap (moved_content from q) is_tree);
      }
    where
      one_tree : (t u : Tree) → con.Formula t ≡ con.Formula u → t ≡ u
      one_tree t u same = cc

      same_code : (i j : ℕ) → slot.Formula i ≡ slot.Formula j → i ≡ j
      same_code i j same = cc

  by_code : (q : Place) → IsPlace q → column_number q ≡ column_number cell → cell.row + 1 ≤ q.row → q.row ≤ end → (id : ℕ) → x ≡ slot.Formula id → (c : Content) → content ≡ c → Fits q (slot.Formula id)
  by_code q at column low high id x_is (con.Formula tree) c_is = coded q at column low high id x_is tree c_is
  by_code q at column low high id x_is con.Empty c_is = let clash : con.Formula (tree_at codes id cell) ≡ con.Empty = sym (ap (content_of codes cell) x_is) ∙ here ∙ ap (moved_content from cell) c_is in cc
  by_code q at column low high id x_is (con.Constant value) c_is = let clash : con.Formula (tree_at codes id cell) ≡ con.Constant value = sym (ap (content_of codes cell) x_is) ∙ here ∙ ap (moved_content from cell) c_is in cc
  by_code q at column low high id x_is (con.Raw text) c_is = let clash : con.Formula (tree_at codes id cell) ≡ con.Raw text = sym (ap (content_of codes cell) x_is) ∙ here ∙ ap (moved_content from cell) c_is in cc

  by_slot : (q : Place) → IsPlace q → column_number q ≡ column_number cell → cell.row + 1 ≤ q.row → q.row ≤ end → (y : Slot) → x ≡ y → Fits q y
  by_slot q at column low high slot.Empty x_is = plain q slot.Empty x_is (λ id h. cc) refl (not_moved q slot.Empty x_is (λ t h. cc) content refl)
  by_slot q at column low high (slot.Number n) x_is = plain q (slot.Number n) x_is (λ id h. cc) refl (not_moved q (slot.Number n) x_is (λ t h. cc) content refl)
  by_slot q at column low high (slot.Words text) x_is = plain q (slot.Words text) x_is (λ id h. cc) refl (not_moved q (slot.Words text) x_is (λ t h. cc) content refl)
  by_slot q at column low high (slot.Bad fault) x_is = plain q (slot.Bad fault) x_is (λ id h. cc) refl (not_moved q (slot.Bad fault) x_is (λ t h. cc) content refl)
  by_slot q at column low high (slot.Raw text) x_is = plain q (slot.Raw text) x_is (λ id h. cc) refl (not_moved q (slot.Raw text) x_is (λ t h. cc) content refl)
  by_slot q at column low high (slot.Formula id) x_is = by_code q at column low high id x_is content refl

  pub fits_rows : FitsRows codes cell (cell.row + 1) end (slot_at columns cell)
  fits_rows q at column low high = (by_slot q at column low high x refl).fit

  pub filled_here : is_held content ≡ true → is_filled (slot_at columns cell) ≡ true
  filled_here held = sym (held_filled codes cell x) ∙ ap is_held here ∙ moved_held from cell content held

  abbrev at_row : ℕ → Place
  at_row row = record { sheet = cell.sheet; col = cell.col; row = row }

  -- the repeated slot is the moved content
  same_entries : (n first : ℕ) → cell.row + 1 ≤ first → first + n ≤ end + 1 → ((row : ℕ) → first ≤ row → row < first + n → IsPlace (at_row row)) → entries_at (λ q. content_of codes q x) (map at_row (range_with_len first n)) ≡ moved_entries from content (map at_row (range_with_len first n))
  same_entries zero first low high places = refl
  same_entries (suc n) first low high places =
      let q : Place = at_row first in
      let rest : List Place = map at_row (range_with_len (first + 1) n) in
      ap (λ (c : Content). (q, c) ∷ entries_at (λ q. content_of codes q x) rest) (by_slot q (places first (omega arith) (omega arith)) refl low (omega (arith, high)) x refl).same
      ∙ ap (λ es. (q, moved_content from q content) ∷ es) (same_entries n (first + 1) (omega (arith, low)) (omega (arith, high)) (λ row from to. places row (omega (arith, from)) (omega (arith, to))))

  pub repeated_is : cell.row + 1 ≤ end → end ≤ 1048576 → repeated codes cell (cell.row + 1) end (slot_at columns cell) ≡ moved_entries from content (column_places cell.sheet cell.col (cell.row + 1) end)
  repeated_is order to =
      same_entries (end + 1 - (cell.row + 1)) (cell.row + 1) (omega arith) (omega (arith, order))
      (λ row low high. record { sheet_in = is.sheet_in; col_from = is.col_from; col_to = is.col_to; row_from = omega (arith, low); row_to = omega (arith, high, order, to) })

-- the first of the cells, and those below it
pub with_first : (es : CellEntries) (from cell : Place) (content : Content) (end : ℕ) → is_held (moved_content from cell content) ≡ true → cell.row ≤ end → with_entries (with_content es cell (moved_content from cell content)) (moved_entries from content (column_places cell.sheet cell.col (cell.row + 1) end)) ≡ with_entries es (moved_entries from content (column_places cell.sheet cell.col cell.row end))
with_first es from cell content end held order =
    let moved : Content = moved_content from cell content in
    let below : CellEntries = moved_entries from content (column_places cell.sheet cell.col (cell.row + 1) end) in
    ap (λ b. with_entries (cond b (insert_entry place_cmp es cell moved) (remove_entry (is_at (place_cmp cell)) es)) below) held
    ∙ sym (ap (λ rows. with_entries es (moved_entries from content (map (λ row. let p : Place = record { sheet = cell.sheet; col = cell.col; row = row } in p) rows))) (from_first cell.row end order))

pub held_here : (es : CellEntries) (cell : Place) (content : Content) → is_held content ≡ true → content_at (cells_only (with_content es cell content)) cell ≡ content
held_here es cell content held =
    ap (λ b. content_at (cells_only (cond b (insert_entry place_cmp es cell content) (remove_entry (is_at (place_cmp cell)) es))) cell) held
    ∙ inserted es cell cell content
    ∙ ap (λ b. cond b content (content_at (cells_only es) cell)) (same_cell cell)

-- the cell alone
pub with_none : (es : CellEntries) (from cell : Place) (content : Content) → is_held (moved_content from cell content) ≡ true → with_content es cell (moved_content from cell content) ≡ with_entries es (moved_entries from content (column_places cell.sheet cell.col cell.row cell.row))
with_none es from cell content held =
    let none : cell.row + 1 - (cell.row + 1) ≡ 0 = omega arith in
    sym (ap (λ n. with_entries (with_content es cell (moved_content from cell content)) (moved_entries from content (map (λ row. let p : Place = record { sheet = cell.sheet; col = cell.col; row = row } in p) (range_with_len (cell.row + 1) n)))) none)
    ∙ with_first es from cell content cell.row held (omega arith)
