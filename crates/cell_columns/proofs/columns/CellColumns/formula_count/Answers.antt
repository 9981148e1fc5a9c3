use Rattle.std.proofs.Common.{length, sym, ap, ◌∙◌, arith}
use Rattle.calc_model.specs.CellEdits.{CellEntries}
use Rattle.cell_columns.specs.Lent.{slots_of}
use Rattle.cell_columns.specs.Uses.{formulas_in}
use Rattle.cell_columns.specs.Walks.{formulas_of}
use Rattle.cell_columns.proofs.Counted.{formulas_counted, formulas_few}
use Rattle.cell_columns.proofs.columns.CellColumns.formula_count.Goals as goal

pub all_formulas-requires-clause-few : goal.all_formulas-requires-clause-few
all_formulas-requires-clause-few c =
    omega (arith, ap (λ cs. formulas_in (slots_of cs)) c.deref.ensures.value, formulas_few c.self.inside.table (slots_of c.self.inside.columns.items), c.self.invariant.few)

pub returns : goal.returns
returns c =
    c.all_formulas.ensures
    ∙ ap (λ cs. formulas_in (slots_of cs)) c.deref.ensures.value
    ∙ sym (formulas_counted c.self.inside.table (slots_of c.self.inside.columns.items))
    ∙ ap (λ (es : CellEntries). length (formulas_of es)) c.self.view_is
