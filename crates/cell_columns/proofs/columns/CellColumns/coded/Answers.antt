use Rattle.std.proofs.Common.{◌≡◌, sym, ap, subst, ◌∙◌, map}
use Rattle.formula_code.specs.Coded.{AreCoded, AreFormulasOf, CodeColumns}
use Rattle.formula_groups.specs.GroupRows.{columns_of}
use Rattle.cell_columns.specs.Cells.{cells_only}
use Rattle.cell_columns.specs.Lent.{slots_of}
use Rattle.cell_columns.specs.Uses.{codes_in}
use Rattle.cell_columns.proofs.CodedCells.{are_coded, are_formulas}
use Rattle.cell_columns.proofs.columns.CellColumns.coded.Goals as goal

-- the groups are those of the columns' slots
are_groups : (c : goal.After-deref) → columns_of c.deref.result.now ≡ map codes_in (slots_of c.self.inside.columns.items)
are_groups c = ap columns_of c.deref.ensures.value ∙ c.self.invariant.grouped

pub returns-clause-coded : goal.returns-clause-coded
returns-clause-coded c =
    subst (AreCoded c.self.inside.table) (sym (are_groups c)) (are_coded c.self.inside.table (slots_of c.self.inside.columns.items) c.self.invariant.sheets)

pub returns-clause-formulas : goal.returns-clause-formulas
returns-clause-formulas c =
    let codes = c.self.inside.table in
    let Right : CodeColumns → Type 0 = λ columns. AreFormulasOf codes columns (cells_only c.args.self.now) in
    subst Right (sym (are_groups c))
    (subst (λ cells. AreFormulasOf codes (map codes_in (slots_of c.self.inside.columns.items)) (cells_only cells)) c.self.view_is
    (are_formulas codes (slots_of c.self.inside.columns.items) c.self.invariant.sheets))
