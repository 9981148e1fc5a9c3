-- A book after an edit, or the first cause that refuses it.
use Rattle.std.specs.Prelude.{◌≡◌, ◌==◌, ◌&&◌, ◌||◌, nat_le, not, Bool, true, length, Result, Ok, Err, if◌then◌else◌}
use Rattle.calc_addr.specs.ValidReferences.{is_rectangle}
use Rattle.calc_model.specs.declared.limits.TheConstants.{MOST_CELLS, MOST_GENERATED_ROWS, MOST_NAMES}
use Rattle.calc_model.specs.declared.edit.Edit.{Edit}
use Rattle.calc_model.specs.declared.edit.Edit.TheVariants.{Set, Clear, Copy, Fill, InsertRows, DeleteRows, Name, Unname, Make}
use Rattle.calc_model.specs.declared.edit.EditCause.{EditCause}
use Rattle.calc_model.specs.declared.edit.EditCause.TheVariants.{OffSheet, BadName, NoName, NamesFull, RowsFull, CellsFull}
use Rattle.calc_model.specs.Books.{Book, IsBook, content_at, is_content, is_held, is_place, with_content}
use Rattle.calc_model.specs.CellEdits.{CellEntries, after_copy, after_fill, area_at, without_area}
use Rattle.calc_model.specs.GeneratedBook.{generated_book}
use Rattle.calc_model.specs.NamedAreas.{is_defined, names_after_deletion, names_after_insertion, with_name, without_name}
use Rattle.calc_model.specs.RowEdits.{are_rows, cells_after_deletion, cells_after_insertion, is_pushed_out}
use Rattle.calc_model.specs.Tokens.{is_name}

abbrev pub with_cells : Book → CellEntries → Book
with_cells book cells = record book { cells = cells }

abbrev pub if_cells_fit : Book → Result Book EditCause
if_cells_fit book = if nat_le (length book.cells) MOST_CELLS then Ok book else Err CellsFull

abbrev pub if_names_fit : Book → Result Book EditCause
if_names_fit book = if nat_le (length book.names) MOST_NAMES then Ok book else Err NamesFull

abbrev pub step : Book → Edit → Result Book EditCause
step book (Set cell content) = if_cells_fit (with_cells book (with_content book.cells cell content))
step book (Clear area) = Ok (with_cells book (without_area book.cells area))
step book (Copy area to) =
    if (to.sheet == area.sheet) && is_rectangle (area_at area to)
    then if_cells_fit (with_cells book (after_copy book.cells area to)) else Err OffSheet
step book (Fill from area) =
    if from.sheet == area.sheet
    then if_cells_fit (with_cells book (after_fill book.cells from (content_at book from) area)) else Err OffSheet
step book (InsertRows sheet place count) =
    if not (are_rows sheet place count) then Err OffSheet
    else (if is_pushed_out sheet place count book.cells then Err RowsFull
    else Ok (record { cells = cells_after_insertion sheet place count book.cells; names = names_after_insertion sheet place count book.names }))
step book (DeleteRows sheet place count) =
    if not (are_rows sheet place count) then Err OffSheet
    else Ok (record { cells = cells_after_deletion sheet place count book.cells; names = names_after_deletion sheet place count book.names })
step book (Name name area) =
    if is_name name then if_names_fit (record book { names = with_name book.names name area }) else Err BadName
step book (Unname name) =
    if is_defined book.names name then Ok (record book { names = without_name book.names name }) else Err NoName
step book (Make start rows) = Ok (generated_book start rows)

-- a generated book has no more rows than such a book may have
abbrev pub is_makeable : Edit → Bool
is_makeable (Make start rows) = nat_le rows MOST_GENERATED_ROWS
is_makeable _ = true

-- an edit whose cells, areas, contents and rows are what they can be
abbrev pub is_edit : Edit → Bool
is_edit (Set cell content) = is_place cell && (not (is_held content) || is_content content)
is_edit (Copy area to) = is_rectangle area && is_place to
is_edit (Fill from area) = is_place from && is_rectangle area
is_edit (Name name area) = is_rectangle area
is_edit (Make start rows) = nat_le rows MOST_GENERATED_ROWS
is_edit _ = true

-- A book stays one under every edit.
abbrev pub KeepsBooks : Type 0
KeepsBooks = (book next : Book) (edit : Edit) → IsBook book → is_edit edit ≡ true → step book edit ≡ Ok next → IsBook next
