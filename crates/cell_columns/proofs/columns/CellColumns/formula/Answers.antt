use Rattle.std.proofs.Common.{◌≡◌, sym, ap, subst, ◌∙◌}
use Rattle.calc_model.specs.Books.{content_at, is_formula}
use Rattle.calc_model.specs.CellEdits.{CellEntries}
use Rattle.block_column.specs.Kinds.{lent_slot}
use Rattle.block_column.specs.declared.slot.Slot.TheVariants as slot
use Rattle.cell_columns.specs.Cells.{cells_only, content_of, slot_at}
use Rattle.cell_columns.specs.Lent.{slots_of}
use Rattle.cell_columns.specs.Looks.{IsCoded}
use Rattle.cell_columns.proofs.Looked.{coded_at, no_formula}
use Rattle.cell_columns.proofs.Told.{holds}
use Rattle.cell_columns.proofs.columns.CellColumns.formula.Goals as goal

pub returns-in-Formula-clause-coded : goal.returns-in-Formula-clause-coded
returns-in-Formula-clause-coded c =
    let codes = c.self.inside.table in
    let columns = slots_of c.self.inside.columns.items in
    let here : slot_at columns c.args.cell ≡ slot.Formula c.in-Formula.id =
    ap (λ cs. slot_at (slots_of cs) c.args.cell) (sym c.deref.ensures.value) ∙ sym c.slot_ref.ensures.slot ∙ ap lent_slot c.in-Formula.is in
    subst (λ (es : CellEntries). IsCoded es c.args.cell codes c.in-Formula.id) c.self.view_is
    (coded_at codes columns c.self.invariant.sheets c.args.cell c.slot_ref.ensures.place c.in-Formula.id here)

pub returns-in_default : goal.returns-in_default
returns-in_default c =
    let codes = c.self.inside.table in
    let columns = slots_of c.self.inside.columns.items in
    record {
      coded = tt;
      none =
          ap (λ (es : CellEntries). is_formula (content_at (cells_only es) c.args.cell)) (sym c.self.view_is)
          ∙ ap is_formula (holds codes columns c.args.cell c.slot_ref.ensures.place ∙ ap (content_of codes c.args.cell) (ap (λ cs. slot_at (slots_of cs) c.args.cell) (sym c.deref.ensures.value) ∙ sym c.slot_ref.ensures.slot))
          ∙ no_formula codes c.args.cell c.slot_ref.result c.in_default.not-Formula;
    }
