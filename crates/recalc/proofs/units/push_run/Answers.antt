use Rattle.std.proofs.Common.{◌≡◌, ◌≤◌, ◌-◌, ◌++◌, ℕ, None, subst, ap, ◌∙◌, arith}
use Rattle.calc_addr.specs.Places.{IsPlace, Rows, column_places}
use Rattle.formula_code.specs.Coded.{code_of}
use Rattle.formula_groups.specs.GroupRows.{columns_of}
use Rattle.recalc.specs.CodedUnits.{AreCodedUnits}
use Rattle.recalc.specs.Units.{cell_at}
use Rattle.recalc.specs.declared.units.Unit.{Unit}
use Rattle.recalc.proofs.UnitLists.{run_more}
use Rattle.recalc.proofs.UnitRows.{no_code, row_in}
use Rattle.recalc.proofs.units.push_run.Goals as goal

pub loop-row-preserved : goal.loop-row-preserved
loop-row-preserved c =
    let part : Unit = c.in-Some.part in
    let is = c.in-Some.ensures.some in
    let last : c.run.inside.last ≡ c.args.run.last = ap (λ (r : Rows). r.last) c.run.view_is in
    let to : c.in_ok-row.field-0 ≤ c.args.run.last = omega (arith, c.in_ok-row.ensures.to, is.to, last) in (
      omega arith,
      omega (arith, c.loop-row.invariant.1, is.first, c.in_ok-row.ensures.from),
      omega (arith, to),
      λ cells are.
          run_more (columns_of c.args.groups.now) c.push_rows.new.units.items c.args.run part c.loop-row.row c.in_ok-row.field-0 cells c.loop-row.invariant.0 c.loop-row.invariant.1
          (is.sheet ∙ ap (λ (r : Rows). r.sheet) c.run.view_is) (is.col ∙ ap (λ (r : Rows). r.col) c.run.view_is) is.first c.in_ok-row.ensures.from
          (c.in_ok-row.ensures.cells (columns_of c.args.groups.now) (cells ++ column_places c.args.run.sheet c.args.run.col c.args.run.first (c.loop-row.row - 1)) is.part (c.loop-row.invariant.3 cells are)),
    )

pub returns-in_default : goal.returns-in_default
returns-in_default c =
    let last : c.run.inside.last ≡ c.args.run.last = ap (λ (r : Rows). r.last) c.run.view_is in
    let place : IsPlace (cell_at c.args.run c.loop-row.row) = record {
      sheet_in = omega (arith, c.run.invariant.sheet_in, ap (λ (r : Rows). r.sheet) c.run.view_is);
      col_from = omega (arith, c.run.invariant.col_from, ap (λ (r : Rows). r.col) c.run.view_is);
      col_to = omega (arith, c.run.invariant.col_to, ap (λ (r : Rows). r.col) c.run.view_is);
      row_from = c.loop-row.invariant.0;
      row_to = omega (arith, c.run.invariant.to, c.loop-row-test.true);
    } in
    let here : code_of (columns_of c.args.groups.now) (cell_at c.args.run c.loop-row.row) ≡ None =
    subst (λ (r : Rows). code_of (columns_of c.args.groups.now) (cell_at r c.loop-row.row) ≡ None) c.run.view_is c.in_default.ensures.none in
    absurd (no_code _ here (c.requires.coded (cell_at c.args.run c.loop-row.row) place (row_in c.args.run c.loop-row.row c.loop-row.invariant.1 (omega (arith, last, c.loop-row-test.true)))))

pub returns : goal.returns
returns c = λ cells are.
    let last : c.run.inside.last ≡ c.args.run.last = ap (λ (r : Rows). r.last) c.run.view_is in
    subst (λ (v : ℕ). AreCodedUnits (columns_of c.args.groups.now) (cells ++ column_places c.args.run.sheet c.args.run.col c.args.run.first v) c.loop-row.units.items)
    (omega (arith, last, c.loop-row-test.false, c.loop-row.invariant.2)) (c.loop-row.invariant.3 cells are)
