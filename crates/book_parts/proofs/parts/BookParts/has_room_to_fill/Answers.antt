use Rattle.std.proofs.Common.{◌≡◌, ◌≤◌, ◌+◌, ◌-◌, nat_le, not, length, sym, ap, ◌∙◌, arith, true, false}
use Rattle.std.proofs.lemmas.Bool.{le-leb}
use Rattle.calc_addr.specs.Places.{Place, covers}
use Rattle.calc_addr.proofs.Walking.Places.{length-places}
use Rattle.calc_model.specs.declared.limits.TheConstants.{MOST_CELLS}
use Rattle.calc_model.specs.declared.content.Content.{Content}
use Rattle.calc_model.specs.Books.{Book, content_at, is_held}
use Rattle.calc_model.specs.CellEdits.{CellEntries, after_fill, within_area}
use Rattle.calc_model.proofs.EntriesMoved.{length-filter}
use Rattle.book_parts.proofs.Copied.{empty_fill_is, length-fill}
use Rattle.book_parts.proofs.Inserted.{length-parted}
use Rattle.book_parts.proofs.parts.BookParts.has_room_to_fill.Goals as goal

pub overflow_sub-left : goal.overflow_sub-left
overflow_sub-left c =
    omega (arith, c.count_within.ensures, c.len.ensures.cells, ap (λ (b : Book). length (within_area b.cells c.args.area)) c.self.view_is, length-filter (λ e. covers c.args.area e.0) c.args.self.now.cells)

pub returns-then-not-is_held : goal.returns-then-not-is_held
returns-then-not-is_held c =
    let empty : is_held (content_at c.args.self.now c.args.from) ≡ false = sym c.is_held.ensures ∙ c.if-not-is_held.true in
    let few : length c.args.self.now.cells ≤ MOST_CELLS = c.len.ensures.book.cells_in_limit in
    let left = ap (λ (es : CellEntries). length es) (empty_fill_is c.args.self.now.cells c.args.from (content_at c.args.self.now c.args.from) c.args.area empty) in
    sym (le-leb _ _ (omega (arith, left, length-filter (λ (e : Place × Content). not (covers c.args.area e.0)) c.args.self.now.cells, few)))

pub returns : goal.returns
returns c =
    let es : CellEntries = c.args.self.now.cells in
    let held : is_held (content_at c.args.self.now c.args.from) ≡ true = sym c.is_held.ensures ∙ c.if-not-is_held.false in
    let count : c.count_within.result ≡ length (within_area es c.args.area) = c.count_within.ensures ∙ ap (λ (b : Book). length (within_area b.cells c.args.area)) c.self.view_is in
    let as_many : c.len.result - c.count_within.result + c.cell_count.result ≡ length (after_fill es c.args.from (content_at c.args.self.now c.args.from) c.args.area) =
    omega (arith, count, c.len.ensures.cells, c.cell_count.ensures, length-places c.args.area, length-fill es c.args.from (content_at c.args.self.now c.args.from) c.args.area held, length-parted c.args.area es) in
    ap (λ n. nat_le n 4194304) as_many
