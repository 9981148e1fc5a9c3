use Rattle.std.proofs.Common.{◌≡◌, ◌≤◌, ◌<◌, ◌+◌, ◌-◌, ◌*◌, ℕ, length, None, refl, sym, subst, ◌∙◌, arith}
use Rattle.std.specs.Prelude.{IfNone}
use Rattle.std.proofs.lemmas.Option.{get_or_from_slice_get}
use Rattle.std.proofs.Math.Nat.{le-min, min-le_left, min-le_right}
use Rattle.calc_addr.specs.Places.{Rows}
use Rattle.cell_runs.specs.CellLists.{first_cell}
use Rattle.formula_code.specs.Coded.{code_of, number_of}
use Rattle.formula_groups.specs.GroupRows.{columns_of}
use Rattle.recalc.specs.CodedUnits.{IsPartOf}
use Rattle.recalc.specs.Units.{cell_at}
use Rattle.recalc.specs.declared.units.Unit.{Unit}
use Rattle.recalc.proofs.UnitRows.{code_by, among, code_there, number_is, whole_column}
use Rattle.recalc.proofs.units.part_of.Goals as goal

pub returns-in_err-group-clause-none : goal.returns-in_err-group-clause-none
returns-in_err-group-clause-none c =
    let x = c.index-groups-number.result in
    let number : ℕ = c.from.result * c.from-2.result + c.from-3.result - 1 in
    let here : Rows = record { sheet = c.run.inside.sheet; col = c.run.inside.col; first = c.run.inside.first; last = c.run.inside.last } in
    let is : number ≡ number_of here.sheet here.col = number_is c.from.result c.from-2.result c.from-3.result here.sheet here.col c.from.ensures c.from-2.ensures c.from-3.ensures c.run.invariant.col_from in
    let within : number < length c.args.groups.now = among c.args.groups.now number here.sheet here.col c.requires is c.run.invariant.sheet_in c.run.invariant.col_from c.run.invariant.col_to in
    subst (λ r. IfNone r (code_of (columns_of c.args.groups.now) (first_cell c.args.run) ≡ None)) (sym c.from_residual.ensures)
    (subst (λ (r : Rows). code_of (columns_of c.args.groups.now) (first_cell r) ≡ None) c.run.view_is
    (code_by c.args.groups.now number x (first_cell here) is within c.index-groups-number.is
    ∙ get_or_from_slice_get x.entries (here.first - 1) None None (c.in_err-group.ensures.code)))

pub returns-clause-some : goal.returns-clause-some
returns-clause-some c =
    let x = c.index-groups-number.result in
    let number : ℕ = c.from.result * c.from-2.result + c.from-3.result - 1 in
    let here : Rows = record { sheet = c.run.inside.sheet; col = c.run.inside.col; first = c.run.inside.first; last = c.run.inside.last } in
    let is : number ≡ number_of here.sheet here.col = number_is c.from.result c.from-2.result c.from-3.result here.sheet here.col c.from.ensures c.from-2.ensures c.from-3.ensures c.run.invariant.col_from in
    let within : number < length c.args.groups.now = among c.args.groups.now number here.sheet here.col c.requires is c.run.invariant.sheet_in c.run.invariant.col_from c.run.invariant.col_to in
    let g = c.in_ok-group.group in
    let part : Unit = record { sheet = here.sheet; col = here.col; first = here.first; last = c.min.result; code = g.code } in
    let low : here.first ≤ c.min.result = subst (λ (v : ℕ). here.first ≤ v) (sym c.min.ensures) (le-min c.run.invariant.in_order c.in_ok-group.ensures.to) in
    let within_run : c.min.result ≤ here.last = subst (λ (v : ℕ). v ≤ here.last) (sym c.min.ensures) (min-le_left here.last g.last) in
    let within_group : c.min.result ≤ g.last = subst (λ (v : ℕ). v ≤ g.last) (sym c.min.ensures) (min-le_right here.last g.last) in
    subst (λ (r : Rows). IsPartOf (columns_of c.args.groups.now) r part) c.run.view_is
    (record {
      part = record {
        rows = record { sheet_in = c.run.invariant.sheet_in; col_from = c.run.invariant.col_from; col_to = c.run.invariant.col_to; from = c.run.invariant.from; in_order = low; to = omega (arith, within_run, c.run.invariant.to) };
        coded = λ row from to.
            code_by c.args.groups.now number x (cell_at here row) is within c.index-groups-number.is
            ∙ code_there x.entries g row (whole_column c.args.groups.now number x c.requires within c.index-groups-number.is) c.in_ok-group.ensures.group (omega (arith, from, c.run.invariant.from)) (omega (arith, to, within_run, c.run.invariant.to)) (omega (arith, from, c.in_ok-group.ensures.from)) (omega (arith, to, within_group));
      };
      sheet = refl;
      col = refl;
      first = refl;
      to = within_run;
    })
