use Rattle.std.proofs.Common.{◌≡◌, ◌≤◌, List, length, take, sym, ap, subst, ◌∙◌}
use Rattle.std.proofs.lemmas.Result.{on_ok_weaker}
use Rattle.calc_addr.specs.Places.{Place}
use Rattle.calc_model.specs.CellEdits.{CellEntries}
use Rattle.calc_model.specs.declared.limits.TheConstants.{MOST_CELLS}
use Rattle.cell_columns.specs.Looks.{with_contents}
use Rattle.cell_columns.specs.Reset.{emptied, with_all}
use Rattle.cell_columns.specs.Shifted.{AllKeepForms, AllStayIn, shifted}
use Rattle.cell_columns.proofs.RowsChanged.{all_back, back_few, others_keep, others_stay}
use Rattle.kept_codes.proofs.Going.{is_change}
use Rattle.cell_columns.proofs.columns.CellColumns.change_rows.Goals as goal

pub changed-requires-clause-change : goal.changed-requires-clause-change
changed-requires-clause-change c = is_change c.args.change c.requires.change

pub shift-requires-clause-change : goal.shift-requires-clause-change
shift-requires-clause-change c = is_change c.args.change c.requires.change

pub shift-requires-clause-stay : goal.shift-requires-clause-stay
shift-requires-clause-stay c =
    subst (AllStayIn c.args.change) (sym (c.in_ok-empty_cells.ensures ∙ ap (emptied c.args.self.now) c.deref-2.ensures.value))
    (others_stay c.args.change c.args.self.now c.are_book.ensures c.requires.stay c.in_ok-cells.cells.items c.in_ok-cells.ensures.formulas)

pub shift-requires-clause-keep : goal.shift-requires-clause-keep
shift-requires-clause-keep c =
    subst (AllKeepForms c.args.change) (sym (c.in_ok-empty_cells.ensures ∙ ap (emptied c.args.self.now) c.deref-2.ensures.value))
    (others_keep c.args.change c.args.self.now c.are_book.ensures c.requires.stay c.in_ok-cells.cells.items c.in_ok-cells.ensures.formulas c.in_ok-cells.ensures.others)

pub set_all-requires : goal.set_all-requires
set_all-requires c =
    let cells : List Place = c.in_ok-cells.cells.items in
    let left : c.shift.new.self ≡ shifted c.args.change (emptied c.args.self.now cells) = c.in_ok-shift.ensures ∙ ap (shifted c.args.change) (c.in_ok-empty_cells.ensures ∙ ap (emptied c.args.self.now) c.deref-2.ensures.value) in
    let back : c.deref-3.result.now ≡ shifted c.args.change (with_contents c.args.self.now cells) = c.deref-3.ensures.value ∙ c.in_ok-entries.ensures ∙ ap (λ (qs : List Place). shifted c.args.change (with_contents c.args.self.now qs)) c.deref.ensures.value in
    record {
      room = λ k _.
          subst (λ (es : CellEntries). length (with_all es (take k c.deref-3.result.now)) ≤ MOST_CELLS) (sym left)
          (subst (λ (news : CellEntries). length (with_all (shifted c.args.change (emptied c.args.self.now cells)) (take k news)) ≤ MOST_CELLS) (sym back)
          (back_few c.args.change c.args.self.now c.are_book.ensures c.requires.stay cells c.in_ok-cells.ensures.formulas k));
    }

pub returns : goal.returns
returns c =
    let cells : List Place = c.in_ok-cells.cells.items in
    let left : c.shift.new.self ≡ shifted c.args.change (emptied c.args.self.now cells) = c.in_ok-shift.ensures ∙ ap (shifted c.args.change) (c.in_ok-empty_cells.ensures ∙ ap (emptied c.args.self.now) c.deref-2.ensures.value) in
    let back : c.deref-3.result.now ≡ shifted c.args.change (with_contents c.args.self.now cells) = c.deref-3.ensures.value ∙ c.in_ok-entries.ensures ∙ ap (λ (qs : List Place). shifted c.args.change (with_contents c.args.self.now qs)) c.deref.ensures.value in
    on_ok_weaker c.set_all.result
    (λ is.
    is
    ∙ ap (λ (es : CellEntries). with_all es c.deref-3.result.now) left
    ∙ ap (with_all (shifted c.args.change (emptied c.args.self.now cells))) back
    ∙ all_back c.args.change c.args.self.now c.are_book.ensures c.requires.stay cells c.in_ok-cells.ensures.formulas)
    c.set_all.ensures
