-- The cells of a book after edits of some of them, as entries in the order of cells: cells that are set hold a
-- content, or nothing where it is empty, and cells that are cleared hold nothing. A content that is copied from one
-- cell to others moves as far as they lie apart.
use Rattle.std.specs.Prelude.{◌+◌, ◌-◌, not, List, [], map, fold, if◌then◌else◌}
use Rattle.std.specs.List.{filter}
use Rattle.std.specs.BTreeMap.{insert_entry}
use Rattle.calc_addr.specs.Places.{Place, Rectangle, covers, place_cmp, places}
use Rattle.calc_model.specs.declared.tree.Tree.{Tree}
use Rattle.calc_model.specs.declared.content.Content.{Content}
use Rattle.calc_model.specs.declared.content.Content.TheVariants.{Formula}
use Rattle.calc_model.specs.Books.{is_held}
use Rattle.calc_model.specs.Homes.{cols_between, rows_between}
use Rattle.calc_model.specs.TreeShifts.{moved_tree}

abbrev pub CellEntries : Type 0
CellEntries = List (Place × Content)

-- the content, with another tree where it is a formula
abbrev pub with_tree : (Tree → Tree) → Content → Content
with_tree change (Formula tree) = Formula (change tree)
with_tree change content = content

-- the content of one cell in another
abbrev pub moved_content : Place → Place → Content → Content
moved_content from to = with_tree (moved_tree (cols_between from to) (rows_between from to))

abbrev pub without_area : CellEntries → Rectangle → CellEntries
without_area cells area = filter (λ entry. not (covers area entry.0)) cells

abbrev pub within_area : CellEntries → Rectangle → CellEntries
within_area cells area = filter (λ entry. covers area entry.0) cells

-- the cells with these contents, which aren't empty, in some of them
abbrev pub with_entries : CellEntries → CellEntries → CellEntries
with_entries cells entries = fold (λ held entry. insert_entry place_cmp held entry.0 entry.1) cells entries

-- the area of the same size that begins at a cell
abbrev pub area_at : Rectangle → Place → Rectangle
area_at area to = record {
  sheet = to.sheet;
  first_col = to.col;
  last_col = to.col + (area.last_col - area.first_col);
  first_row = to.row;
  last_row = to.row + (area.last_row - area.first_row);
}

-- the place in it that is equal to that of a cell in the area
abbrev pub equal_place : Rectangle → Place → Place → Place
equal_place area to q = record {
  sheet = to.sheet;
  col = to.col + (q.col - area.first_col);
  row = to.row + (q.row - area.first_row);
}

abbrev pub copied_entry : Rectangle → Place → Place × Content → Place × Content
copied_entry area to entry = (equal_place area to entry.0, moved_content entry.0 (equal_place area to entry.0) entry.1)

-- The contents of an area go, moved, to the equal places. Where there was none, there is none afterwards.
unfoldable pub after_copy : CellEntries → Rectangle → Place → CellEntries
after_copy cells area to = with_entries (without_area cells (area_at area to)) (map (copied_entry area to) (within_area cells area))

-- the content at a cell, moved, in each cell of an area
abbrev pub filled_entries : Place → Content → Rectangle → CellEntries
filled_entries from content area = if is_held content then map (λ q. (q, moved_content from q content)) (places area) else []

-- The content at a cell goes, moved, to each cell of an area.
unfoldable pub after_fill : CellEntries → Place → Content → Rectangle → CellEntries
after_fill cells from content area = with_entries (without_area cells area) (filled_entries from content area)
