use Rattle.std.proofs.Common.{◌≡◌, ℕ, ◌+◌, ◌*◌, sym, ap, subst, ◌∙◌, arith}
use Rattle.std.proofs.lemmas.Result.{on_ok_weaker}
use Rattle.calc_addr.specs.declared.cell.TheConstants.{LAST_COL}
use Rattle.cell_columns.specs.Lent.{slots_of}
use Rattle.kept_codes.specs.RowChanges.{sheet_of}
use Rattle.cell_columns.specs.Shifted.{AllKeepForms, AllStayIn, PartlyMoved, shifted}
use Rattle.cell_columns.proofs.BookShifted.{cells_after, still_columns}
use Rattle.cell_columns.proofs.columns.CellColumns.shift.Goals as goal

first_column : (columns sheet a b change_sheet : ℕ) → a ≡ columns → b ≡ sheet → sheet ≡ change_sheet → a * b ≡ change_sheet * columns
first_column columns sheet a b change_sheet at on is = ap (λ n. n * b) at ∙ ap (λ n. columns * n) (on ∙ is) ∙ turned columns change_sheet
  where
    turned : (m n : ℕ) → m * n ≡ n * m
    turned m n = grind arith

pub invariant_of-self : goal.invariant_of-self
invariant_of-self c =
    let partly = c.move_columns.ensures.partly in
    still_columns c.self.inside.table c.args.change c.requires.change c.self.inside.columns.items c.move_columns.new.columns.items c.self.inside.groups.items c.move_columns.new.groups.items c.self.inside.len
    _ partly.0 c.self.invariant (subst (AllStayIn c.args.change) (sym c.self.view_is) c.requires.stay) (subst (AllKeepForms c.args.change) (sym c.self.view_is) c.requires.keep)
    (first_column LAST_COL c.sheet_of.result c.from.result c.from-2.result (sheet_of c.args.change) c.from.ensures c.from-2.ensures c.sheet_of.ensures) (omega (arith, partly.1, c.from-3.ensures)) partly.2 c.move_columns.ensures.grouped

pub returns : goal.returns
returns c =
    on_ok_weaker c.move_columns.result
    (λ part.
    cells_after c.self.inside.table c.args.change c.requires.change (slots_of c.self.inside.columns.items) c.self.invariant.sheets (subst (AllStayIn c.args.change) (sym c.self.view_is) c.requires.stay) (subst (AllKeepForms c.args.change) (sym c.self.view_is) c.requires.keep)
    (slots_of c.move_columns.new.columns.items) _ (first_column LAST_COL c.sheet_of.result c.from.result c.from-2.result (sheet_of c.args.change) c.from.ensures c.from-2.ensures c.sheet_of.ensures) part
    ∙ ap (shifted c.args.change) c.self.view_is)
    (on_ok_weaker c.move_columns.result (subst (λ n. PartlyMoved c.args.change (slots_of c.self.inside.columns.items) (slots_of c.move_columns.new.columns.items) (c.from.result * c.from-2.result) (c.from.result * c.from-2.result + n)) c.from-3.ensures) c.move_columns.ensures.all)
