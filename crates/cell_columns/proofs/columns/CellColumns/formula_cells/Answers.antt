use Rattle.std.proofs.Common.{◌≡◌, ◌↔◌, List, [], length, true, sym, ap, subst, ◌∙◌}
use Rattle.std.specs.Prelude.{Contains, slice_index_or}
use Rattle.std.specs.List.{AllPairs}
use Rattle.std.proofs.lemmas.Result.{IfOk-weaker}
use Rattle.calc_addr.specs.Places.{IsBefore, Place}
use Rattle.calc_model.specs.Books.{content_at, is_formula}
use Rattle.calc_model.specs.CellEdits.{CellEntries}
use Rattle.cell_columns.specs.Cells.{cells_of, cells_only, column_at}
use Rattle.kept_codes.specs.FormulaCells.{all_coded}
use Rattle.cell_columns.specs.Lent.{codes_of, slots_of}
use Rattle.cell_columns.specs.Uses.{code_in}
use Rattle.cell_columns.proofs.FormulaPlaces.{exactly_formulas}
use Rattle.kept_codes.proofs.FormulaRows.{all_in_order}
use Rattle.cell_columns.proofs.Groups.{codes_at}
use Rattle.cell_columns.proofs.Maps.{length_map}
use Rattle.cell_columns.proofs.columns.CellColumns.formula_cells.Goals as goal

pub grouped_cells-requires-clause-long : goal.grouped_cells-requires-clause-long
grouped_cells-requires-clause-long c n h =
    let columns = slots_of c.self.inside.columns.items in
    ap (λ gs. length (slice_index_or (codes_of gs) n [])) c.deref.ensures.value
    ∙ ap (λ rows. length (slice_index_or rows n [])) c.self.invariant.grouped
    ∙ ap length (codes_at columns n)
    ∙ length_map code_in (column_at columns n)
    ∙ c.self.invariant.sheets.all_rows n h

pub returns-clause-in_order : goal.returns-clause-in_order
returns-clause-in_order c =
    IfOk-weaker c.grouped_cells.result (λ (cells : List Place). cells ≡ all_coded 0 (codes_of c.deref.result.now)) (λ (cells : List Place). AllPairs IsBefore cells)
    (λ cells are. subst (λ (ps : List Place). AllPairs IsBefore ps) (sym are) (all_in_order (codes_of c.deref.result.now)))
    c.grouped_cells.ensures

pub returns-clause-exact : goal.returns-clause-exact
returns-clause-exact c =
    let columns = slots_of c.self.inside.columns.items in
    let grouped = ap codes_of c.deref.ensures.value ∙ c.self.invariant.grouped in
    let Exact : CellEntries → List Place → Type 0 = λ es cells. (q : Place) → Contains cells q ↔ (is_formula (content_at (cells_only es) q) ≡ true) in
    IfOk-weaker c.grouped_cells.result (λ (cells : List Place). cells ≡ all_coded 0 (codes_of c.deref.result.now)) (Exact c.args.self.now)
    (λ cells are. subst (λ (es : CellEntries). Exact es cells) c.self.view_is
    (subst (λ (ps : List Place). Exact (cells_of c.self.inside.table columns) ps) (sym (are ∙ ap (all_coded 0) grouped)) (exactly_formulas c.self.inside.table columns c.self.invariant.sheets)))
    c.grouped_cells.ensures
