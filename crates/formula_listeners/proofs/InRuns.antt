-- The cells of runs, as those of areas, and how far they lie below the first one.
use Rattle.std.proofs.Common.{◌≡◌, ◌≤◌, ℕ, ◌-◌, Bool, true, false, ◌&&◌, nat_le, cond, List, map, Option, Some, refl, sym, ap, ◌∙◌, arith}
use Rattle.std.specs.Prelude.{◌==◌}
use Rattle.std.specs.List.{All}
use Rattle.std.proofs.lemmas.Bool.{and_parts, eqb-true}
use Rattle.std.proofs.lemmas.Bool.Decides.{nat_tests}
use Rattle.calc_addr.specs.Places.{IsPlace, IsRectangle, IsRows, Place, Rectangle, Rows, covers, single}
use Rattle.calc_model.specs.Books.{NameEntries}
use Rattle.calc_model.specs.Ears.{ReadArea, area_at}
use Rattle.formula_code.specs.Codes.{Codes, IsCodeAt, tree_at}
use Rattle.formula_code.specs.Ears.{ears}
use Rattle.formula_code.specs.Homes.{rows_below}
use Rattle.formula_code.proofs.RunReads.{ears_give_reads}
use Rattle.ears.specs.RowEdits.{first_cell}
use Rattle.ears.specs.RunAreas.{LieInSheet}
use Rattle.registration_slab.specs.Slab.{areas_at, is_in, steps_of}
use Rattle.formula_code.specs.Coded.{areas_by_code}
use Rattle.formula_listeners.proofs.EarsLie.{ears_lie}

pub record LiesIn (run : Rows) (q : Place) : Type 0 where
  pub sheet : q.sheet ≡ run.sheet
  pub col : q.col ≡ run.col
  pub from : run.first ≤ q.row
  pub to : q.row ≤ run.last

pub lies_in : (run : Rows) (q : Place) → is_in run q ≡ true → LiesIn run q
lies_in run q h =
    let both = and_parts ((q.sheet == run.sheet) && (q.col == run.col)) (nat_le run.first q.row && nat_le q.row run.last) h in
    let column = and_parts (q.sheet == run.sheet) (q.col == run.col) both.0 in
    let rows = and_parts (nat_le run.first q.row) (nat_le q.row run.last) both.1 in
    record {
      sheet = eqb-true q.sheet run.sheet column.0;
      col = eqb-true q.col run.col column.1;
      from = grind (arith, nat_tests, rows.0);
      to = grind (arith, nat_tests, rows.1);
    }

pub is_inside : (run : Rows) (q : Place) → LiesIn run q → is_in run q ≡ true
is_inside run q h = grind (arith, nat_tests, h.sheet, h.col, h.from, h.to)

pub same_place : (a b : Place) → a.sheet ≡ b.sheet → a.col ≡ b.col → a.row ≡ b.row → a ≡ b
same_place a b s c r =
    ap (λ n. record { sheet = n; col = a.col; row = a.row }) s
    ∙ ap (λ n. record { sheet = b.sheet; col = n; row = a.row }) c
    ∙ ap (λ n. record { sheet = b.sheet; col = b.col; row = n }) r

pub below_first : (run : Rows) (q : Place) → is_in run q ≡ true → rows_below (first_cell run) (q.row - run.first) ≡ q
below_first run q h =
    let at = lies_in run q h in
    same_place _ q (sym at.sheet) (sym at.col) (omega (arith, at.from))

pub is_place_of : (run : Rows) (q : Place) → IsRows run → is_in run q ≡ true → IsPlace q
is_place_of run q rows h =
    let at = lies_in run q h in
    record {
      sheet_in = omega (arith, at.sheet, rows.sheet_in);
      col_from = omega (arith, at.col, rows.col_from);
      col_to = omega (arith, at.col, rows.col_to);
      row_from = omega (arith, at.from, rows.from);
      row_to = omega (arith, at.to, rows.to);
    }

-- the same of the cells of a run
pub under : {X : Type 0} (b : Bool) (x y o : X) → (b ≡ true → x ≡ y) → cond b x o ≡ cond b y o
under true x y o same = same refl
under false x y o same = refl

-- the run of one cell
pub single_is : (cell q : Place) → is_in (record { sheet = cell.sheet; col = cell.col; first = cell.row; last = cell.row }) q ≡ covers (single cell) q
single_is cell q = grind (arith, nat_tests)

-- the formulas of a run with one code, by the ears of the first one
module _ (codes : Codes) (names : NameEntries) (run : Rows) (id : ℕ) (rows : IsRows run) (coded : (q : Place) → is_in run q ≡ true → IsCodeAt codes id q) where
  pub first_coded : IsCodeAt codes id (first_cell run)
  first_coded = coded (first_cell run) (is_inside run (first_cell run) (record { sheet = refl; col = refl; from = omega arith; to = rows.in_order }))

  last_coded : IsCodeAt codes id (rows_below (first_cell run) (steps_of run))
  last_coded = coded (rows_below (first_cell run) (steps_of run)) (is_inside run (rows_below (first_cell run) (steps_of run)) (record { sheet = refl; col = refl; from = omega arith; to = omega (arith, rows.in_order) }))

  module _ (es : List ReadArea) (are : es ≡ ears (first_cell run) names (tree_at codes id (first_cell run))) where
    pub all_lie : All (λ e. IsRectangle e.area) es → All (LieInSheet (steps_of run)) es
    all_lie = ears_lie (first_cell run) (steps_of run) names rows.sheet_in codes id es first_coded last_coded are

    pub run_reads : (q : Place) (o : Option (List Rectangle)) → cond (is_in run q) (Some (areas_at es run.first q.row)) o ≡ cond (is_in run q) (Some (areas_by_code codes names q id)) o
    run_reads q o = under (is_in run q) (Some (areas_at es run.first q.row)) (Some (areas_by_code codes names q id)) o (λ h.
        ap (λ (xs : List ReadArea). Some (map (λ e. area_at e (q.row - run.first)) xs)) are
        ∙ ap Some (ears_give_reads codes id (q.row - run.first) (first_cell run) names first_coded)
        ∙ ap (λ p. Some (areas_by_code codes names p id)) (below_first run q h))
