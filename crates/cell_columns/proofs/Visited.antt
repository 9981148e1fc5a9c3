-- The rows of a column's groups are those of its formulas.
use Rattle.std.proofs.Common.{◌≡◌, ℕ, suc, zero, ◌+◌, ◌-◌, ◌≤◌, ◌<◌, ◌==◌, ◌&&◌, nat_le, Bool, true, false, cond, List, [], ◌∷◌, length, map, Some, unwrap_or, ◌⊎◌, inl, inr, refl, sym, ap, subst, ◌∙◌, arith}
use Rattle.std.specs.Prelude.{slice_get, slice_index_or}
use Rattle.std.specs.Bool.{Decides}
use Rattle.std.specs.List.{list_all}
use Rattle.std.proofs.lemmas.Bool.Decides.{Decides-eqb, nat_tests}
use Rattle.calc_addr.specs.declared.cell.TheConstants.{LAST_ROW}
use Rattle.calc_addr.specs.Places.{IsPlace, Place}
use Rattle.calc_model.specs.declared.change.Change.{Change}
use Rattle.calc_model.specs.declared.content.Content.TheVariants as content
use Rattle.calc_model.specs.declared.tree.Tree.{Tree}
use Rattle.calc_model.specs.Books.{content_at, is_formula, is_held}
use Rattle.formula_code.specs.Codes.{Codes, form_at, tree_at}
use Rattle.formula_code.proofs.FormsBack.{form_back}
use Rattle.formula_groups.specs.Groups.{a_group, groups_of}
use Rattle.run_tables.specs.Runs.{Rises, Run, entry, runs_of}
use Rattle.run_tables.proofs.Entries.{entries-row, entries-runs, entry-in, entry-past}
use Rattle.run_tables.proofs.RunLists.{runs-rise}
use Rattle.block_column.specs.declared.slot.Slot.{Slot}
use Rattle.block_column.specs.declared.slot.Slot.TheVariants as slot
use Rattle.block_column.specs.Kinds.{is_filled}
use Rattle.kept_codes.specs.declared.cells.TheConstants.{COLUMNS}
use Rattle.kept_codes.specs.Columns.{cell_in}
use Rattle.cell_columns.specs.Cells.{Column, cells_of, cells_only, column_at, column_number, content_of, slot_at}
use Rattle.kept_codes.specs.Gathered.{Among, Formulas, Gathers, InColumns, InGroups}
use Rattle.cell_columns.specs.Shifted.{AllKeepOrAre, AllStayIn, KeepsForm}
use Rattle.cell_columns.specs.Sheets.{AreSheets}
use Rattle.cell_columns.specs.Uses.{code_in, codes_in}
use Rattle.cell_columns.proofs.Edited.{number_in}
use Rattle.cell_columns.proofs.Groups.{codes_at}
use Rattle.cell_columns.proofs.Maps.{length_map}
use Rattle.cell_columns.proofs.Setting.{formula_coded}
use Rattle.cell_columns.proofs.SheetShifted.{held_filled}
use Rattle.cell_columns.proofs.Told.{holds, number_of, place_in, place_is, row_behind}

abbrev same_code : ℕ → ℕ → Bool
same_code k l = k == l

coded : (k l : ℕ) → Decides (same_code k l) (k ≡ l)
coded k l = Decides-eqb k l

bare : {X : Type 0} (x y : X) → Some x ≡ Some y → x ≡ y
bare x y same = ap (λ o. unwrap_or o x) same

code_at_row : (xs : Column) (i : ℕ) → i < length xs → slice_get (codes_in xs) i ≡ Some (code_in (slice_index_or xs i slot.Empty))
code_at_row [] i h = absurd (omega (arith, h))
code_at_row (x ∷ xs) zero h = refl
code_at_row (x ∷ xs) (suc i) h = code_at_row xs i (omega (arith, h))

-- the runs give each row its code
entry_code : (c : Column) → length c ≡ LAST_ROW → (row : ℕ) → 1 ≤ row → row ≤ LAST_ROW → entry row (runs_of same_code (codes_in c)) ≡ code_in (slice_index_or c (row - 1) slot.Empty)
entry_code c long row from to =
    bare (entry row (runs_of same_code (codes_in c))) (code_in (slice_index_or c (row - 1) slot.Empty)) (
    sym (entries-row LAST_ROW row (runs_of same_code (codes_in c)) from to)
    ∙ ap (λ es. slice_get es (row - 1)) (entries-runs same_code coded LAST_ROW (codes_in c) (length_map code_in c ∙ long))
    ∙ code_at_row c (row - 1) (subst (λ n. row - 1 < n) (sym long) (omega (arith, from, to)))
    )

in_runs : (number row id : ℕ) → row ≤ LAST_ROW → (t : List (Run ℕ)) → entry row t ≡ Some id → InGroups number (map a_group t) (cell_in number row) id
in_runs number row id to [] is = cc
in_runs number row id to (x ∷ t) is =
    elim (nat_le x.first row && nat_le row x.last) as (λ b. (nat_le x.first row && nat_le row x.last) ≡ b → cond b (Some x.key) (entry row t) ≡ Some id → InGroups number (map a_group (x ∷ t)) (cell_in number row) id) [
      | true ↦ λ within is. inl (record {
        row = row;
        from = grind (arith, nat_tests, within);
        to = grind (arith, nat_tests, within, to);
        at = refl;
        coded = sym (bare x.key id is);
      })
      | false ↦ λ _ is. inr (in_runs number row id to t is)
    ] refl is

-- a row of the runs with that code
record HasEntry (p number : ℕ) (t : List (Run ℕ)) (q : Place) (id : ℕ) : Type 0 where
  row : ℕ
  from : p ≤ row
  to : row ≤ LAST_ROW
  at : q ≡ cell_in number row
  is : entry row t ≡ Some id

of_runs : (p number : ℕ) (t : List (Run ℕ)) (q : Place) (id : ℕ) → Rises p t → InGroups number (map a_group t) q id → HasEntry p number t q id
of_runs p number [] q id rise within = absurd within
of_runs p number (x ∷ t) q id rise (inl h) = record {
  row = h.row;
  from = omega (arith, h.from, rise.0);
  to = omega (arith, h.to);
  at = h.at;
  is = entry-in h.row x t h.from (omega (arith, h.to)) ∙ ap Some (sym h.coded);
}
of_runs p number (x ∷ t) q id rise (inr h) =
    let later = of_runs (x.last + 1) number t q id rise.2 h in
    record {
      row = later.row;
      from = omega (arith, later.from, rise.0, rise.1);
      to = later.to;
      at = later.at;
      is = entry-past later.row x t (omega (arith, later.from)) ∙ later.is;
    }

module _ (codes : Codes) (columns : List Column) (was : AreSheets codes columns) where
  -- the cell of a formula is in a group of its column
  pub formula_visited : (q : Place) → IsPlace q → (id : ℕ) → slot_at columns q ≡ slot.Formula id → InColumns (map codes_in columns) COLUMNS q id
  formula_visited q is id here =
      let n : ℕ = column_number q in
      let long : length (column_at columns n) ≡ LAST_ROW = was.all_rows n (number_in q is) in
      let found : entry q.row (runs_of same_code (codes_in (column_at columns n))) ≡ Some id = entry_code (column_at columns n) long q.row is.row_from is.row_to ∙ ap code_in here in
      record {
        number = n;
        to = number_in q is;
        within =
            subst (λ gs. InGroups n (groups_of gs) q id) (sym (codes_at columns n))
            (subst (λ p. InGroups n (groups_of (codes_in (column_at columns n))) p id) (sym (itself q is)) (in_runs n q.row id is.row_to (runs_of same_code (codes_in (column_at columns n))) found));
      }
    where
      itself : (q : Place) → IsPlace q → q ≡ cell_in (column_number q) q.row
      itself q is = place_is q is ∙ ap (λ m. cell_in m (1 + (q.row - 1))) (from_none (column_number q)) ∙ ap (cell_in (column_number q)) (again q.row is.row_from)
        where
          from_none : (m : ℕ) → 0 + m ≡ m
          from_none m = omega arith

          again : (r : ℕ) → 1 ≤ r → 1 + (r - 1) ≡ r
          again r h = omega (arith, h)

  -- what is visited is a formula's cell
  pub visited_formula : (q : Place) (id : ℕ) → InColumns (map codes_in columns) COLUMNS q id → IsPlace q × (slot_at columns q ≡ slot.Formula id)
  visited_formula q id within =
      let n : ℕ = within.number in
      let c : Column = column_at columns n in
      let runs : List (Run ℕ) = runs_of same_code (codes_in c) in
      let has = of_runs 1 n runs q id (runs-rise same_code coded 1 (codes_in c)) (subst (λ gs. InGroups n (groups_of gs) q id) (codes_at columns n) within.within) in
      let r : ℕ = has.row in
      let at : q ≡ cell_in n (1 + (r - 1)) = has.at ∙ ap (cell_in n) (again r has.from) in
      let code : code_in (slice_index_or c (r - 1) slot.Empty) ≡ Some id = sym (entry_code c (was.all_rows n within.to) r has.from has.to) ∙ has.is in
      let there : slot_at columns (cell_in n (1 + (r - 1))) ≡ slice_index_or c (r - 1) slot.Empty = ap (λ k. slice_index_or (column_at columns k) (1 + (r - 1) - 1) slot.Empty) (number_of n (r - 1)) ∙ ap (λ k. slice_index_or c k slot.Empty) (row_behind (r - 1)) in
      (subst IsPlace (sym at) (place_in n (r - 1) within.to (omega (arith, has.from, has.to))), ap (slot_at columns) at ∙ there ∙ formula_coded (slice_index_or c (r - 1) slot.Empty) id code)
    where
      again : (r : ℕ) → 1 ≤ r → r ≡ 1 + (r - 1)
      again r h = omega (arith, h)

  module _ (change : Change) (all_stay : AllStayIn change (cells_of codes columns)) where
    pub visited : (q : Place) (id : ℕ) → InColumns (map codes_in columns) COLUMNS q id → Formulas codes change q id
    visited q id within =
        let is = visited_formula q id within in
        record {
          place = is.0;
          at = was.coded q is.0 id is.1;
          stays = all_stay q is.0 (ap is_held (holds codes columns q is.0) ∙ held_filled codes q (slot_at columns q) ∙ ap is_filled is.1);
        }

    module _ (places : List Place) (gathers : Gathers codes change (InColumns (map codes_in columns) COLUMNS) [] places) where
      pub only_formulas : list_all (λ q. is_formula (content_at (cells_only (cells_of codes columns)) q)) places ≡ true
      only_formulas = gathers.only (λ q. is_formula (content_at (cells_only (cells_of codes columns)) q)) is_one refl
        where
          is_one : (q : Place) (id : ℕ) → InColumns (map codes_in columns) COLUMNS q id → is_formula (content_at (cells_only (cells_of codes columns)) q) ≡ true
          is_one q id within =
              let is = visited_formula q id within in
              ap is_formula (holds codes columns q is.0 ∙ ap (content_of codes q) is.1)

      pub keep_or_are : AllKeepOrAre change (cells_of codes columns) places
      keep_or_are q is tree here =
          in_slot (slot_at columns q) refl (sym (holds codes columns q is) ∙ here)
        where
          in_slot : (x : Slot) → slot_at columns q ≡ x → content_of codes q (slot_at columns q) ≡ content.Formula tree → KeepsForm change q tree ⊎ Among q places
          in_slot slot.Empty at same = let clash : content.Empty ≡ content.Formula tree = sym (ap (content_of codes q) at) ∙ same in cc
          in_slot (slot.Number n) at same = let clash = sym (ap (content_of codes q) at) ∙ same in cc
          in_slot (slot.Words text) at same = let clash = sym (ap (content_of codes q) at) ∙ same in cc
          in_slot (slot.Bad fault) at same = let clash = sym (ap (content_of codes q) at) ∙ same in cc
          in_slot (slot.Raw text) at same = let clash = sym (ap (content_of codes q) at) ∙ same in cc
          in_slot (slot.Formula id) at same =
              let tree_is : tree_at codes id q ≡ tree = one_tree (tree_at codes id q) tree (sym (ap (content_of codes q) at) ∙ same) in
              elim (gathers.told q id (formula_visited q is id at)) as (λ _. KeepsForm change q tree ⊎ Among q places) [
                | inl keeps ↦ inl (subst (KeepsForm change q) tree_is (keeps ∙ sym (form_back q (form_at codes id) (was.coded q is id at).valid)))
                | inr there ↦ inr there
              ]
            where
              one_tree : (x y : Tree) → content.Formula x ≡ content.Formula y → x ≡ y
              one_tree x y same = cc
