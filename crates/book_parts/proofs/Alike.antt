-- Neighbouring cells of a column from which the same comes to each place.
use Rattle.std.proofs.Common.{◌≡◌, ℕ, suc, zero, ◌+◌, ◌-◌, ◌≤◌, ◌<◌, ◌==◌, true, false, cond, List, [], ◌∷◌, ◌++◌, length, map, Option, Some, None, refl, sym, ap, subst, ◌∙◌, arith}
use Rattle.std.specs.Prelude.{slice_get, slice_index_or}
use Rattle.std.specs.Option.{option_map}
use Rattle.std.specs.List.{Contains, range_with_len}
use Rattle.std.proofs.lemmas.Bool.Decides.{Decides-eqb}
use Rattle.calc_addr.specs.declared.cell.TheConstants.{LAST_ROW}
use Rattle.calc_addr.specs.Places.{IsPlace, Place, Rectangle, column_places}
use Rattle.calc_model.specs.declared.content.Content.{Content}
use Rattle.calc_model.specs.declared.content.Content.TheVariants.{Empty, Constant, Formula, Raw}
use Rattle.calc_model.specs.declared.tree.Tree.{Tree}
use Rattle.calc_model.specs.Books.{Book, content_at, is_held}
use Rattle.calc_model.specs.CellEdits.{CellEntries, copied_entry, moved_content}
use Rattle.run_tables.specs.Runs.{Rises, Run, entry, runs_of}
use Rattle.run_tables.proofs.Entries.{entries-row, entries-runs, entry-in, entry-past}
use Rattle.run_tables.proofs.RunLists.{runs-rise}
use Rattle.formula_code.specs.Coded.{AreCoded, AreFormulasOf, CodeColumns, code_of, formula_in, number_of}
use Rattle.formula_code.specs.Codes.{Codes, form_at, tree_at}
use Rattle.formula_groups.specs.declared.group.Group.{Group}
use Rattle.formula_groups.specs.Groups.{a_group, groups_of}
use Rattle.moved_forms.specs.Alike.{in_row}
use Rattle.cell_columns.specs.Filled.{moved_entries}
use Rattle.book_parts.specs.Pieces.{GoAlike, copied_cells}
use Rattle.book_parts.proofs.Onward.{tree_onward}

-- empty cells
pub empty_alike : (book : Book) (cell : Place) (rows last : ℕ) → ((k : ℕ) → k < rows → content_at book (in_row cell (cell.row + k)) ≡ Empty) → last + 1 ≤ cell.row + rows → GoAlike book cell last
empty_alike book cell rows last empty within row low high to =
    let is : cell.row + (row - cell.row) ≡ row = omega (arith, low) in
    let first : cell.row + 0 ≡ cell.row = omega arith in
    let here : content_at book (in_row cell row) ≡ Empty = subst (λ r. content_at book (in_row cell r) ≡ Empty) is (empty (row - cell.row) (omega (arith, low, high, within))) in
    let there : content_at book cell ≡ Empty = subst (λ r. content_at book (in_row cell r) ≡ Empty) first (empty 0 (omega (arith, low, high, within))) in
    ap (moved_content (in_row cell row) to) here ∙ sym (ap (moved_content cell to) there)

starts : (p : ℕ) (t : List (Run ℕ)) → Rises p t → (k : ℕ) (d : Group) → k < length (map a_group t) → p ≤ (slice_index_or (map a_group t) k d).first
starts p [] rise k d h = absurd (omega (arith, h))
starts p (x ∷ t) rise zero d h = rise.0
starts p (x ∷ t) rise (suc k) d h = omega (arith, rise.0, rise.1, starts (x.last + 1) t rise.2 k d (omega (arith, h)))

-- a row of one of the runs
in_table : (p : ℕ) (t : List (Run ℕ)) → Rises p t → (k : ℕ) (d : Group) → k < length (map a_group t) → (row : ℕ) → (slice_index_or (map a_group t) k d).first ≤ row → row ≤ (slice_index_or (map a_group t) k d).last → entry row t ≡ Some (slice_index_or (map a_group t) k d).code
in_table p [] rise k d h row low high = absurd (omega (arith, h))
in_table p (x ∷ t) rise zero d h row low high = entry-in row x t low high
in_table p (x ∷ t) rise (suc k) d h row low high =
    entry-past row x t (omega (arith, low, starts (x.last + 1) t rise.2 k d (omega (arith, h)))) ∙ in_table (x.last + 1) t rise.2 k d (omega (arith, h)) row low high

got : {X : Type 0} (xs : List X) (i : ℕ) (x d : X) → slice_get xs i ≡ Some x → slice_index_or xs i d ≡ x
got [] i x d h = cc
got (y ∷ ys) zero x d h = one y x h
  where
    one : {X : Type 0} (a b : X) → Some a ≡ Some b → a ≡ b
    one a b h = cc
got (y ∷ ys) (suc i) x d h = got ys i x d h

-- the rows of a group have its code
code_rows : (s : List (Option ℕ)) → length s ≡ LAST_ROW → (g : Group) → Contains (groups_of s) g → (row : ℕ) → 1 ≤ row → row ≤ LAST_ROW → g.first ≤ row → row ≤ g.last → slice_index_or s (row - 1) None ≡ Some g.code
code_rows s long g among row from to low high =
    let t : List (Run ℕ) = runs_of (λ k l. k == l) s in
    let found : entry row t ≡ Some g.code =
    subst (λ (x : Group). x.first ≤ row → row ≤ x.last → entry row t ≡ Some x.code) among.2 (in_table 1 t (runs-rise (λ k l. k == l) Decides-eqb 1 s) among.0 g among.1 row) low high in
    got s (row - 1) (Some g.code) None
    (sym (ap (λ es. slice_get es (row - 1)) (entries-runs (λ k l. k == l) Decides-eqb LAST_ROW s long))
    ∙ entries-row LAST_ROW row t from to
    ∙ ap Some found)

formula_is : (c : Content) (tree : Tree) → formula_in c ≡ Some tree → c ≡ Formula tree
formula_is (Formula t) tree same = cc
formula_is Empty tree same = cc
formula_is (Constant value) tree same = cc
formula_is (Raw text) tree same = cc

-- the formulas of a group
module _ (book : Book) (codes : Codes) (columns : CodeColumns) (coded : AreCoded codes columns) (formulas : AreFormulasOf codes columns book) (cell : Place) (is : IsPlace cell) (g : Group) (last : ℕ) (among : Contains (groups_of (slice_index_or columns (number_of cell.sheet cell.col) [])) g) (first : g.first ≤ cell.row) (behind : last ≤ g.last) (to_last : last ≤ LAST_ROW) where
  module _ (row : ℕ) (low : cell.row ≤ row) (high : row ≤ last) where
    lies : IsPlace (in_row cell row)
    lies = record { sheet_in = is.sheet_in; col_from = is.col_from; col_to = is.col_to; row_from = omega (arith, is.row_from, low); row_to = omega (arith, high, to_last) }

    number_in : number_of cell.sheet cell.col < length columns
    number_in = omega (arith, coded.all_columns, is.sheet_in, is.col_from, is.col_to)

    code_is : code_of columns (in_row cell row) ≡ Some g.code
    code_is = code_rows (slice_index_or columns (number_of cell.sheet cell.col) []) (coded.all_rows (number_of cell.sheet cell.col) number_in) g among row (omega (arith, is.row_from, low)) (omega (arith, high, to_last)) (omega (arith, first, low)) (omega (arith, high, behind))

    formula_there : content_at book (in_row cell row) ≡ Formula (tree_at codes g.code (in_row cell row))
    formula_there =
        formula_is (content_at book (in_row cell row)) (tree_at codes g.code (in_row cell row)) (formulas (in_row cell row) lies ∙ ap (option_map (λ id. tree_at codes id (in_row cell row))) code_is)

  pub group_alike : GoAlike book cell last
  group_alike row low high to =
      let from : cell.row ≤ cell.row = omega arith in
      let down : cell.row ≤ last = omega (arith, low, high) in
      ap (moved_content (in_row cell row) to) (formula_there row low high)
      ∙ ap Formula (tree_onward (in_row cell row) cell to (form_at codes g.code) (coded.coded (in_row cell row) (lies row low high) g.code (code_is row low high)).valid (coded.coded cell is g.code (code_is cell.row from down)).valid)
      ∙ sym (ap (moved_content cell to) (formula_there cell.row from down))

same_held : (p q : Place) (c : Content) → is_held (moved_content p q c) ≡ is_held c
same_held p q Empty = refl
same_held p q (Constant value) = refl
same_held p q (Formula tree) = refl
same_held p q (Raw text) = refl

-- what is copied from them
module _ (book : Book) (area : Rectangle) (to from : Place) (last : ℕ) (alike : GoAlike book from last) (above : area.first_row ≤ from.row) where
  abbrev content : Content
  content = content_at book from

  abbrev at : ℕ → Place
  at row = record { sheet = from.sheet; col = from.col; row = row }

  abbrev goes : ℕ → Place
  goes row = record { sheet = to.sheet; col = to.col + (from.col - area.first_col); row = row }

  held_alike : (row : ℕ) → from.row ≤ row → row ≤ last → is_held (content_at book (at row)) ≡ is_held content
  held_alike row low high = sym (same_held (at row) from (content_at book (at row))) ∙ ap is_held (alike row low high from) ∙ same_held from from content

  none_copied : is_held content ≡ false → (n first : ℕ) → from.row ≤ first → first + n ≤ last + 1 → copied_cells book area to (map at (range_with_len first n)) ≡ []
  none_copied none zero first low high = refl
  none_copied none (suc n) first low high =
      let rest : CellEntries = copied_cells book area to (map at (range_with_len (first + 1) n)) in
      ap (λ b. cond b (copied_entry area to (at first, content_at book (at first)) ∷ []) [] ++ rest) (held_alike first low (omega (arith, high)) ∙ none)
      ∙ none_copied none n (first + 1) (omega (arith, low)) (omega (arith, high))

  all_copied : is_held content ≡ true → (n first there : ℕ) → from.row ≤ first → first + n ≤ last + 1 → there ≡ to.row + (first - area.first_row) → copied_cells book area to (map at (range_with_len first n)) ≡ moved_entries from content (map goes (range_with_len there n))
  all_copied held zero first there low high is = refl
  all_copied held (suc n) first there low high is =
      let c : Content = content_at book (at first) in
      let rest : CellEntries = copied_cells book area to (map at (range_with_len (first + 1) n)) in
      let next : there + 1 ≡ to.row + (first + 1 - area.first_row) = omega (arith, is, above, low) in
      ap (λ b. cond b (copied_entry area to (at first, c) ∷ []) [] ++ rest) (held_alike first low (omega (arith, high)) ∙ held)
      ∙ ap (λ (row : ℕ). (goes row, moved_content (at first) (goes row) c) ∷ rest) (sym is)
      ∙ ap (λ (x : Content). (goes there, x) ∷ rest) (alike first low (omega (arith, high)) (goes there))
      ∙ ap (λ (es : CellEntries). (goes there, moved_content from (goes there) content) ∷ es) (all_copied held n (first + 1) (there + 1) (omega (arith, low)) (omega (arith, high)) next)

  pub piece_copied : from.row ≤ last → cond (is_held content) (moved_entries from content (column_places to.sheet (to.col + (from.col - area.first_col)) (to.row + (from.row - area.first_row)) (to.row + (from.row - area.first_row) + (last - from.row)))) [] ≡ copied_cells book area to (column_places from.sheet from.col from.row last)
  piece_copied order =
      let there : ℕ = to.row + (from.row - area.first_row) in
      let long : there + (last - from.row) + 1 - there ≡ last + 1 - from.row = omega (arith, order) in
      elim (is_held content) as (λ b. is_held content ≡ b → cond b (moved_entries from content (column_places to.sheet (to.col + (from.col - area.first_col)) there (there + (last - from.row)))) [] ≡ copied_cells book area to (column_places from.sheet from.col from.row last)) [
        | true ↦ λ held.
            ap (λ n. moved_entries from content (map goes (range_with_len there n))) long
            ∙ sym (all_copied held (last + 1 - from.row) from.row there (omega arith) (omega (arith, order)) refl)
        | false ↦ λ none. sym (none_copied none (last + 1 - from.row) from.row (omega arith) (omega (arith, order)))
      ] refl
