use Rattle.std.proofs.Common.{◌-◌, sym, ap, ◌∙◌, slice_get}
use Rattle.std.proofs.lemmas.Option.{get_or_from_slice_get}
use Rattle.calc_addr.specs.Places.{Place}
use Rattle.calc_model.specs.ValueTexts.{lent}
use Rattle.calc_model.specs.declared.value.Value.TheVariants.{Blank}
use Rattle.value_column.specs.Sheets.{column_in}
use Rattle.value_column.proofs.Shown.{cell-is}
use Rattle.value_column.proofs.sheets.ValueSheets.seen.Goals as goal

pub returns-in-Some : goal.returns-in-Some
returns-in-Some c =
    let rows = c.in-Some.column.now.values in
    sym (cell-is c.args.self.now c.args.cell _ (c.in-Some.ensures ∙ ap (λ (p : Place). column_in c.args.self.now p.sheet p.col) c.cell.view_is)
    ∙ get_or_from_slice_get rows (c.args.cell.row - 1) (lent c.look.result) Blank (ap (λ (p : Place). slice_get rows (p.row - 1)) (sym c.cell.view_is) ∙ c.look.ensures))

pub returns-in-None : goal.returns-in-None
returns-in-None c = sym (cell-is c.args.self.now c.args.cell _ (c.in-None.ensures ∙ ap (λ (p : Place). column_in c.args.self.now p.sheet p.col) c.cell.view_is))
