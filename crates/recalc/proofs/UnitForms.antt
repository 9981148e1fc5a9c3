-- Units by the codes of formulas are those by their relative forms.
use Rattle.std.proofs.Common.{◌≡◌, ◌≤◌, ◌<◌, ℕ, zero, suc, true, List, [], ◌∷◌, length, get_or, Option, Some, None, refl, sym, ap, subst, ◌∙◌, arith}
use Rattle.std.specs.Prelude.{IsSome}
use Rattle.std.proofs.lemmas.Bool.{false≢true}
use Rattle.std.specs.List.{All}
use Rattle.std.specs.Option.{option_map, option_map_or}
use Rattle.calc_addr.specs.Places.{IsPlace, Place, Rows}
use Rattle.book_parts.specs.Runs.{IsCodedIn}
use Rattle.calc_model.specs.Books.{Book, content_at, is_formula}
use Rattle.calc_model.specs.Stale.{is_formula_cell}
use Rattle.calc_model.specs.declared.content.Content.{Content}
use Rattle.calc_model.specs.declared.content.Content.TheVariants.{Constant, Empty, Formula, Raw}
use Rattle.calc_model.specs.declared.tree.Tree.{Tree}
use Rattle.cell_columns.specs.ColumnRuns.{form_in, form_of}
use Rattle.cell_runs.specs.CellLists.{first_cell}
use Rattle.formula_code.specs.Coded.{AreCoded, AreFormulasOf, CodeColumns, code_of, formula_in}
use Rattle.formula_code.specs.Codes.{AreApart, Codes, IsCodeAt, form_at, tree_at}
use Rattle.formula_code.specs.Relative.{relative}
use Rattle.run_unions.specs.Unions.{is_in}
use Rattle.dirty_spread.proofs.Stepping.{lies}
use Rattle.recalc.specs.CodedUnits.{AreCodedUnits, AreLinked, IsCodedUnit, all_rows_of, rows_of}
use Rattle.recalc.specs.Units.{AreCut, AreUnits, IsUnit, cell_at}
use Rattle.recalc.specs.declared.units.Unit.{Unit}

formed : (q : Place) (x : Content) (tree : Tree) → formula_in x ≡ Some tree → form_of q x ≡ Some (relative q tree)
formed q Empty tree h = cc
formed q (Constant value) tree h = cc
formed q (Raw text) tree h = cc
formed q (Formula t) tree h = ap (option_map (relative q)) h

some_of : (o : Option ℕ) (x : Content) (tree : ℕ → Tree) → is_formula x ≡ true → formula_in x ≡ option_map tree o → IsSome o
some_of (Some id) x tree h e = refl
some_of None (Formula t) tree h e = cc
some_of None Empty tree h e = absurd (false≢true h)
some_of None (Constant value) tree h e = absurd (false≢true h)
some_of None (Raw text) tree h e = absurd (false≢true h)

-- a cell with a formula has a code
pub has_code : (codes : Codes) (columns : CodeColumns) (book : Book) → AreFormulasOf codes columns book → (q : Place) → IsPlace q → is_formula_cell book q ≡ true → IsSome (code_of columns q)
has_code codes columns book formulas q is h = some_of (code_of columns q) (content_at book q) (λ id. tree_at codes id q) h (formulas q is)

row_place : (columns : CodeColumns) (unit : Unit) → IsCodedUnit columns unit → (row : ℕ) → unit.first ≤ row → row ≤ unit.last → IsPlace (cell_at (rows_of unit) row)
row_place columns unit is row low high = record {
  sheet_in = is.part.rows.sheet_in;
  col_from = is.part.rows.col_from;
  col_to = is.part.rows.col_to;
  row_from = omega (arith, low, is.part.rows.from);
  row_to = omega (arith, high, is.part.rows.to);
}

module _ (codes : Codes) (columns : CodeColumns) (book : Book) (coded : AreCoded codes columns) (formulas : AreFormulasOf codes columns book) (apart : AreApart codes) (form : (codes : Codes) (id : ℕ) (home : Place) → IsCodeAt codes id home → relative home (tree_at codes id home) ≡ form_at codes id) where
  form_there : (q : Place) (id : ℕ) → IsPlace q → code_of columns q ≡ Some id → form_in book q ≡ Some (form_at codes id)
  form_there q id is h =
      formed q (content_at book q) (tree_at codes id q) (formulas q is ∙ ap (option_map (λ code. tree_at codes code q)) h)
      ∙ ap (λ (t : Tree). Some t) (form codes id q (coded.coded q is id h))

  same_code : (q p : Place) (one other : ℕ) → IsPlace q → IsPlace p → code_of columns q ≡ Some one → code_of columns p ≡ Some other → form_in book q ≡ form_in book p → one ≡ other
  same_code q p one other is_q is_p at_q at_p same =
      apart one other (coded.coded q is_q one at_q).live (coded.coded p is_p other at_p).live
      (ap (λ o. option_map_or (λ (t : Tree). t) o (form_at codes one)) (sym (form_there q one is_q at_q) ∙ same ∙ form_there p other is_p at_p))

  unit_is : (unit : Unit) → IsCodedUnit columns unit → IsUnit book (rows_of unit)
  unit_is unit is = record {
    some = is.part.rows.in_order;
    few = is.few;
    alike = λ row low high.
        form_there (cell_at (rows_of unit) row) unit.code (row_place columns unit is row low high) (is.part.coded row low high)
        ∙ sym (form_there (first_cell (rows_of unit)) unit.code (row_place columns unit is unit.first (omega arith) is.part.rows.in_order) (is.part.coded unit.first (omega arith) is.part.rows.in_order));
  }

  tail : (unit : Unit) (units : List Unit) → All (IsCodedUnit columns) (unit ∷ units) → All (IsCodedUnit columns) units
  tail unit units each k d within = each (suc k) d (omega (arith, within))

  units_are : (units : List Unit) → All (IsCodedUnit columns) units → All (IsUnit book) (all_rows_of units)
  units_are [] each k d within = absurd (omega (arith, within))
  units_are (unit ∷ units) each zero d within = unit_is unit (each zero unit (omega arith))
  units_are (unit ∷ units) each (suc k) d within = units_are units (tail unit units each) k d (omega (arith, within))

  cut_is : (units : List Unit) → All (IsCodedUnit columns) units → AreLinked units → AreCut book (all_rows_of units)
  cut_is [] each linked = tt
  cut_is (unit ∷ []) each linked = tt
  cut_is (unit ∷ next ∷ units) each linked = (
    λ goes. linked.0 (record {
      sheet = goes.sheet;
      col = goes.col;
      next = goes.next;
      code =
          same_code (first_cell (rows_of next)) (first_cell (rows_of unit)) next.code unit.code
          (row_place columns next below next.first (omega arith) below.part.rows.in_order) (row_place columns unit above unit.first (omega arith) above.part.rows.in_order)
          (below.part.coded next.first (omega arith) below.part.rows.in_order) (above.part.coded unit.first (omega arith) above.part.rows.in_order) goes.alike;
    }),
    cut_is (next ∷ units) (tail unit (next ∷ units) each) linked.1,
  )
    where
      above : IsCodedUnit columns unit
      above = each zero unit (omega arith)

      below : IsCodedUnit columns next
      below = each 1 next (omega arith)

  -- units that are found are the units of their cells
  pub are_units : (cells : List Place) (units : List Unit) → AreCodedUnits columns cells units → AreUnits book cells (all_rows_of units)
  are_units cells units are = record {
    cells = are.cells;
    each = units_are units are.each;
    cut = cut_is units are.each are.linked;
  }

-- what a cell holds, if it holds that formula
content_of : (x : Content) (tree : Tree) → formula_in x ≡ Some tree → x ≡ Formula tree
content_of (Formula t) tree h = ap Formula (some_is t tree h)
  where
    some_is : (t tree : Tree) → Some t ≡ Some tree → t ≡ tree
    some_is t tree h = cc
content_of Empty tree h = absurd cc
content_of (Constant value) tree h = absurd cc
content_of (Raw text) tree h = absurd cc

-- the cells of rows are those in a row of them
pub in_row : (rows : Rows) (q : Place) → is_in q rows ≡ true → q ≡ cell_at rows q.row
in_row rows q h = let l = lies rows q h in ap (λ s. record { sheet = s; col = q.col; row = q.row }) l.sheet ∙ ap (λ c. record { sheet = rows.sheet; col = c; row = q.row }) l.col

-- The formulas of units that are found have the units' codes.
pub are_coded : (codes : Codes) (columns : CodeColumns) (book : Book) → AreCoded codes columns → AreFormulasOf codes columns book → (units : List Unit) → All (IsCodedUnit columns) units → All (λ u. (q : Place) → is_in q (rows_of u) ≡ true → IsCodedIn book q codes u.code) units
are_coded codes columns book coded formulas units each k d within q h =
    let unit = get_or units k d in
    let is : IsCodedUnit columns unit = each k d within in
    let l = lies (rows_of unit) q h in
    let code : code_of columns q ≡ Some unit.code = ap (code_of columns) (in_row (rows_of unit) q h) ∙ is.part.coded q.row l.from l.to in
    let place : IsPlace q = subst IsPlace (sym (in_row (rows_of unit) q h)) (row_place columns unit is q.row l.from l.to) in
    record {
      at = coded.coded q place unit.code code;
      content = content_of (content_at book q) (tree_at codes unit.code q) (formulas q place ∙ ap (option_map (λ id. tree_at codes id q)) code);
    }

-- so have those of one of them
pub unit_coded : (book : Book) (codes : Codes) (units : List Unit) → All (λ u. (q : Place) → is_in q (rows_of u) ≡ true → IsCodedIn book q codes u.code) units → (i : ℕ) (unit : Unit) (rows : Rows) → i < length units → unit ≡ get_or units i unit → rows ≡ rows_of unit → (q : Place) → is_in q rows ≡ true → IsCodedIn book q codes unit.code
unit_coded book codes units each i unit rows within at is q h =
    subst (λ (u : Unit). IsCodedIn book q codes u.code) (sym at) (each i unit within q (subst (λ (r : Rows). is_in q r ≡ true) (is ∙ ap rows_of at) h))
