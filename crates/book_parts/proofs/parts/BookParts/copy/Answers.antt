use Rattle.std.proofs.Common.{◌≡◌, length, map, sym, ap, ◌∙◌, arith}
use Rattle.std.proofs.lemmas.List.{length-map}
use Rattle.std.proofs.lemmas.Result.{on_ok_weaker}
use Rattle.calc_model.specs.Books.{Book}
use Rattle.calc_model.specs.CellEdits.{CellEntries, area_at, copied_entry, with_entries, within_area, without_area}
use Rattle.book_parts.specs.Pieces.{all_entries}
use Rattle.book_parts.proofs.Copied.{copy_is, length-copy}
use Rattle.book_parts.proofs.parts.BookParts.copy.Goals as goal

-- what is put, and where nothing is left
news : (c : goal.After-deref) → all_entries c.deref.result.now ≡ map (copied_entry c.args.area c.args.to) (within_area c.args.self.now.cells c.args.area)
news c = ap all_entries c.deref.ensures.value ∙ c.in_ok-pieces.ensures ∙ ap (λ (b : Book). map (copied_entry c.args.area c.args.to) (within_area b.cells c.args.area)) c.self.view_is

left : (c : goal.After-deref) → c.clear.new.self.cells ≡ without_area c.args.self.now.cells (area_at c.args.area c.args.to)
left c = c.in_ok-clear.ensures.cells ∙ ap (without_area c.args.self.now.cells) c.area_at.ensures

pub put_pieces-requires-clause-room : goal.put_pieces-requires-clause-room
put_pieces-requires-clause-room c =
    let es : CellEntries = c.args.self.now.cells in
    omega (
      arith,
      ap (λ (es : CellEntries). length es) (left c),
      ap (λ (es : CellEntries). length es) (news c),
      length-map (within_area es c.args.area) (copied_entry c.args.area c.args.to),
      length-copy c.args.area c.args.to es c.are_book.ensures.cells_in_order,
      c.requires.room,
    )

pub returns-clause-cells : goal.returns-clause-cells
returns-clause-cells c =
    let es : CellEntries = c.args.self.now.cells in
    let new_entries = ap all_entries c.deref.ensures.value ∙ c.in_ok-pieces.ensures ∙ ap (λ (b : Book). map (copied_entry c.args.area c.args.to) (within_area b.cells c.args.area)) c.self.view_is in
    on_ok_weaker c.put_pieces.result
    (λ put. put
    ∙ ap (λ (es : CellEntries). with_entries es (all_entries c.deref.result.now)) (c.in_ok-clear.ensures.cells ∙ ap (without_area es) c.area_at.ensures)
    ∙ ap (with_entries (without_area es (area_at c.args.area c.args.to))) new_entries
    ∙ sym (copy_is es c.args.area c.args.to))
    c.put_pieces.ensures.cells
