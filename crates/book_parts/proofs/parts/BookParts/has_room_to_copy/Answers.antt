use Rattle.std.proofs.Common.{◌≡◌, ◌+◌, ◌-◌, nat_le, length, ap, ◌∙◌, arith}
use Rattle.calc_addr.specs.Places.{Rectangle, covers}
use Rattle.calc_model.specs.Books.{Book}
use Rattle.calc_model.specs.CellEdits.{CellEntries, after_copy, area_at, within_area}
use Rattle.calc_model.proofs.EntriesMoved.{length-filter}
use Rattle.book_parts.proofs.Copied.{length-copy}
use Rattle.book_parts.proofs.Inserted.{length-parted}
use Rattle.book_parts.proofs.parts.BookParts.has_room_to_copy.Goals as goal

there : (c : goal.After-count_within) → c.count_within.result ≡ length (within_area c.args.self.now.cells (area_at c.args.area c.args.to))
there c =
    c.count_within.ensures
    ∙ ap (λ (a : Rectangle). length (within_area c.self.inside.cells a)) c.area_at.ensures
    ∙ ap (λ (b : Book). length (within_area b.cells (area_at c.args.area c.args.to))) c.self.view_is

pub overflow_sub-left : goal.overflow_sub-left
overflow_sub-left c = omega (arith, there c, c.len.ensures.cells, length-filter (λ e. covers (area_at c.args.area c.args.to) e.0) c.args.self.now.cells)

pub overflow_add-result : goal.overflow_add-result
overflow_add-result c =
    omega (arith, c.count_within-2.ensures, c.len.ensures.cells, c.len.ensures.book.cells_in_limit, ap (λ (b : Book). length (within_area b.cells c.args.area)) c.self.view_is, length-filter (λ e. covers c.args.area e.0) c.args.self.now.cells)

pub returns : goal.returns
returns c =
    let es : CellEntries = c.args.self.now.cells in
    let before : c.count_within.result ≡ length (within_area es (area_at c.args.area c.args.to)) =
    c.count_within.ensures
    ∙ ap (λ (a : Rectangle). length (within_area c.self.inside.cells a)) c.area_at.ensures
    ∙ ap (λ (b : Book). length (within_area b.cells (area_at c.args.area c.args.to))) c.self.view_is in
    let as_many : c.len.result - c.count_within.result + c.count_within-2.result ≡ length (after_copy es c.args.area c.args.to) =
    omega (
      arith,
      before,
      c.len.ensures.cells,
      c.count_within-2.ensures,
      ap (λ (b : Book). length (within_area b.cells c.args.area)) c.self.view_is,
      length-copy c.args.area c.args.to es c.len.ensures.book.cells_in_order,
      length-parted (area_at c.args.area c.args.to) es,
    ) in
    ap (λ n. nat_le n 4194304) as_many
