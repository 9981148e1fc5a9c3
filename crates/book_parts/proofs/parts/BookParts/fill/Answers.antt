use Rattle.std.proofs.Common.{◌≡◌, ◌≤◌, true, false, length, sym, ap, ◌∙◌, arith}
use Rattle.std.proofs.lemmas.Result.{on_ok_weaker}
use Rattle.calc_addr.specs.Places.{places}
use Rattle.calc_model.specs.declared.content.Content.{Content}
use Rattle.calc_model.specs.declared.limits.TheConstants.{MOST_CELLS}
use Rattle.calc_model.specs.Books.{content_at, is_held}
use Rattle.calc_model.specs.CellEdits.{CellEntries, after_fill, with_entries, without_area}
use Rattle.cell_columns.specs.Filled.{moved_entries}
use Rattle.book_parts.proofs.Copied.{empty_fill_is, fill_is, length-fill}
use Rattle.book_parts.proofs.parts.BookParts.fill.Goals as goal

pub put_moved-requires-clause-room : goal.put_moved-requires-clause-room
put_moved-requires-clause-room c =
    let es : CellEntries = c.args.self.now.cells in
    let content : Content = content_at c.args.self.now c.args.from in
    let held : is_held content ≡ true = ap is_held (sym c.in_ok-content.ensures.content) ∙ sym c.is_held.ensures ∙ c.if-not-is_held.false in
    let left = ap (λ (es : CellEntries). length es) c.in_ok-clear.ensures.cells in
    let room : length (after_fill es c.args.from content c.args.area) ≤ MOST_CELLS = c.requires in
    omega (arith, left, length-fill es c.args.from content c.args.area held, room)

pub returns-clause-cells : goal.returns-clause-cells
returns-clause-cells c =
    let es : CellEntries = c.args.self.now.cells in
    let content : Content = content_at c.args.self.now c.args.from in
    let held : is_held content ≡ true = ap is_held (sym c.in_ok-content.ensures.content) ∙ sym c.is_held.ensures ∙ c.if-not-is_held.false in
    on_ok_weaker c.put_moved.result
    (λ put. put
    ∙ ap (λ (es : CellEntries). with_entries es (moved_entries c.args.from c.in_ok-content.content (places c.args.area))) c.in_ok-clear.ensures.cells
    ∙ ap (λ (x : Content). with_entries (without_area es c.args.area) (moved_entries c.args.from x (places c.args.area))) c.in_ok-content.ensures.content
    ∙ sym (fill_is es c.args.from content c.args.area held))
    c.put_moved.ensures.cells

pub returns-then-not-is_held-clause-cells : goal.returns-then-not-is_held-clause-cells
returns-then-not-is_held-clause-cells c =
    let content : Content = content_at c.args.self.now c.args.from in
    let empty : is_held content ≡ false = ap is_held (sym c.in_ok-content.ensures.content) ∙ sym c.is_held.ensures ∙ c.if-not-is_held.true in
    c.in_ok-clear.ensures.cells ∙ sym (empty_fill_is c.args.self.now.cells c.args.from content c.args.area empty)
