-- Worked examples of edits that copy and fill cells, insert and delete rows, and define and remove names, over the small
-- book of StepExamples.
use Rattle.std.proofs.Common.{◌≡◌, pos, false, [], ◌∷◌, ap, codes, length, nat_le, refl}
use Rattle.std.specs.Prelude.{◌-ℤ◌, Ok, Err, Some, None, if◌then◌else◌}
use Rattle.std.specs.Str.{chars, is_utf8}
use lib.Utf8.{encode}
use Rattle.calc_addr.specs.Places.{Rectangle}
use Rattle.calc_addr.specs.References.{Reference}
use Rattle.calc_addr.specs.declared.reference.Span.TheVariants.{Cells}
use Rattle.calc_model.specs.declared.fault.Fault.TheVariants.{BadRef}
use Rattle.calc_model.specs.declared.tree.Op.TheVariants.{Add}
use Rattle.calc_model.specs.declared.tree.Tree.{Tree}
use Rattle.calc_model.specs.declared.tree.Tree.TheVariants as t
use Rattle.calc_model.specs.declared.edit.Edit.TheVariants.{Copy, Fill, InsertRows, DeleteRows, Name, Unname}
use Rattle.calc_model.specs.declared.edit.EditCause.TheVariants.{OffSheet, BadName, NoName, NamesFull, RowsFull}
use Rattle.calc_model.specs.declared.limits.TheConstants.{MOST_NAMES}
use Rattle.calc_model.specs.Books.{Book, NameEntries, content_at}
use Rattle.calc_model.specs.CellEdits.{after_copy, after_fill}
use Rattle.calc_model.specs.RowEdits.{cells_after_deletion, cells_after_insertion}
use Rattle.calc_model.specs.Step.{if_names_fit, step}
use Rattle.calc_model.specs.TreeShifts.{moved_tree, replaced, tree_after_deletion, tree_after_insertion}
use Rattle.calc_model.proofs.Replaced.{replaced-Binary, replaced-Ref}
use Rattle.calc_model.proofs.StepExamples.{area, at, book_of, three_cells, whole}

-- A1 and B1 go to B1 and C1: what stood in B1 before is copied too
a_copy_takes_the_contents_as_they_were : step three_cells (Copy (area 0 1 2 1 1) (at 2 1)) ≡ Ok (book_of ((at 1 1, whole 1) ∷ (at 2 1, whole 1) ∷ (at 2 3, whole 3) ∷ (at 3 1, whole 2) ∷ []))
unfolding after_copy
a_copy_takes_the_contents_as_they_were = refl

a_copy_of_empty_cells_empties_their_places : step three_cells (Copy (area 0 3 3 1 3) (at 2 1)) ≡ Ok (book_of ((at 1 1, whole 1) ∷ []))
unfolding after_copy
a_copy_of_empty_cells_empties_their_places = refl

a_copy_past_the_last_column_is_refused : step three_cells (Copy (area 0 1 2 1 1) (at 1024 1)) ≡ Err OffSheet
a_copy_past_the_last_column_is_refused = refl

a_copy_to_another_sheet_is_refused : step three_cells (Copy (area 0 1 1 1 1) (record { sheet = 1; col = 1; row = 1 })) ≡ Err OffSheet
a_copy_to_another_sheet_is_refused = refl

a_fill_puts_the_content_into_each_cell : step three_cells (Fill (at 2 3) (area 0 1 2 1 2)) ≡ Ok (book_of ((at 1 1, whole 3) ∷ (at 1 2, whole 3) ∷ (at 2 1, whole 3) ∷ (at 2 2, whole 3) ∷ (at 2 3, whole 3) ∷ []))
unfolding after_fill content_at
a_fill_puts_the_content_into_each_cell = refl

a_fill_with_nothing_empties_the_cells : step three_cells (Fill (at 1 5) (area 0 1 2 1 2)) ≡ Ok (book_of ((at 2 3, whole 3) ∷ []))
unfolding after_fill content_at
a_fill_with_nothing_empties_the_cells = refl

a_fill_of_another_sheet_is_refused : step three_cells (Fill (at 1 1) (area 2 1 1 1 1)) ≡ Err OffSheet
a_fill_of_another_sheet_is_refused = refl

inserted_rows_move_the_cells_below : step three_cells (InsertRows 0 2 5) ≡ Ok (book_of ((at 1 1, whole 1) ∷ (at 2 1, whole 2) ∷ (at 2 8, whole 3) ∷ []))
unfolding cells_after_insertion
inserted_rows_move_the_cells_below = refl

rows_of_another_sheet_leave_the_cells : step three_cells (InsertRows 1 1 5) ≡ Ok three_cells
unfolding cells_after_insertion
rows_of_another_sheet_leave_the_cells = refl

a_cell_may_come_to_the_last_row : step three_cells (InsertRows 0 3 1048573) ≡ Ok (book_of ((at 1 1, whole 1) ∷ (at 2 1, whole 2) ∷ (at 2 1048576, whole 3) ∷ []))
unfolding cells_after_insertion
a_cell_may_come_to_the_last_row = refl

a_cell_isnt_pushed_past_the_last_row : step three_cells (InsertRows 0 2 1048574) ≡ Err RowsFull
a_cell_isnt_pushed_past_the_last_row = refl

rows_are_counted_from_one : step three_cells (InsertRows 0 0 1) ≡ Err OffSheet
rows_are_counted_from_one = refl

no_rows_are_no_edit : step three_cells (DeleteRows 0 1 0) ≡ Err OffSheet
no_rows_are_no_edit = refl

rows_past_the_last_one_are_refused : step three_cells (DeleteRows 0 2 1048576) ≡ Err OffSheet
rows_past_the_last_one_are_refused = refl

deleted_rows_take_their_cells : step three_cells (DeleteRows 0 1 2) ≡ Ok (book_of ((at 2 1, whole 3) ∷ []))
unfolding cells_after_deletion
deleted_rows_take_their_cells = refl

abbrev with_names : NameEntries → Book
with_names names = record { cells = []; names = names }

-- B3:C4
abbrev square : Rectangle
square = area 0 2 3 3 4

a_name_is_kept_in_capitals : step (with_names []) (Name (codes "Rate") square) ≡ Ok (with_names ((codes "RATE", Some square) ∷ []))
unfolding is_utf8 chars encode
a_name_is_kept_in_capitals = refl

a_name_gets_another_area : step (with_names ((codes "RATE", None) ∷ [])) (Name (codes "rate") square) ≡ Ok (with_names ((codes "RATE", Some square) ∷ []))
unfolding is_utf8 chars encode
a_name_gets_another_area = refl

names_stand_in_the_order_of_bytes : step (with_names ((codes "RATE", None) ∷ [])) (Name (codes "a") square) ≡ Ok (with_names ((codes "A", Some square) ∷ (codes "RATE", None) ∷ []))
unfolding is_utf8 chars encode
names_stand_in_the_order_of_bytes = refl

an_address_is_no_name : step (with_names []) (Name (codes "A1") square) ≡ Err BadName
unfolding is_utf8 chars encode
an_address_is_no_name = refl

names_that_are_gone_count : (book : Book) → length book.names ≡ 1025 → if_names_fit book ≡ Err NamesFull
names_that_are_gone_count book over = ap (λ n. if nat_le n MOST_NAMES then Ok book else Err NamesFull) over

a_name_that_is_gone_can_be_removed : step (with_names ((codes "RATE", None) ∷ [])) (Unname (codes "rate")) ≡ Ok (with_names [])
a_name_that_is_gone_can_be_removed = refl

a_name_that_isnt_there_cant_be_removed : step (with_names []) (Unname (codes "rate")) ≡ Err NoName
a_name_that_isnt_there_cant_be_removed = refl

an_area_goes_with_its_rows : step (with_names ((codes "RATE", Some square) ∷ [])) (InsertRows 0 4 2) ≡ Ok (with_names ((codes "RATE", Some (area 0 2 3 3 6)) ∷ []))
unfolding cells_after_insertion
an_area_goes_with_its_rows = refl

a_name_is_gone_with_its_rows : step (with_names ((codes "RATE", Some square) ∷ [])) (DeleteRows 0 2 3) ≡ Ok (with_names ((codes "RATE", None) ∷ []))
unfolding cells_after_deletion
a_name_is_gone_with_its_rows = refl

-- references of the formula's own sheet
abbrev of_sheet : Rectangle → Reference
of_sheet cells = record {
  area = cells;
  span = Cells;
  marks = record { sheet = false; first_col = false; first_row = false; last_col = false; last_row = false };
}

-- [.B3:.C4]+[.A1:.A1]
abbrev formula : Tree
formula = t.Binary Add (t.Ref (of_sheet square)) (t.Ref (of_sheet (area 0 1 1 1 1)))

both_go : (by : Reference → Tree) → replaced by formula ≡ t.Binary Add (by (of_sheet square)) (by (of_sheet (area 0 1 1 1 1)))
both_go by = rw (replaced-Binary by Add (t.Ref (of_sheet square)) (t.Ref (of_sheet (area 0 1 1 1 1))), replaced-Ref by (of_sheet square), replaced-Ref by (of_sheet (area 0 1 1 1 1)))

a_formula_that_moves_up_loses_what_leaves_the_sheet : moved_tree (pos 2) (pos 0 -ℤ pos 1) formula ≡ t.Binary Add (t.Ref (of_sheet (area 0 4 5 2 3))) (t.Bad BadRef)
a_formula_that_moves_up_loses_what_leaves_the_sheet = both_go _

inserted_rows_stretch_an_area : tree_after_insertion (at 1 1) 0 4 2 formula ≡ t.Binary Add (t.Ref (of_sheet (area 0 2 3 3 6))) (t.Ref (of_sheet (area 0 1 1 1 1)))
inserted_rows_stretch_an_area = both_go _

deleted_rows_take_a_reference_to_them : tree_after_deletion (at 1 1) 0 1 1 formula ≡ t.Binary Add (t.Ref (of_sheet (area 0 2 3 2 3))) (t.Bad BadRef)
deleted_rows_take_a_reference_to_them = both_go _

rows_of_another_sheet_leave_a_formula : tree_after_deletion (at 1 1) 1 1 1 formula ≡ formula
rows_of_another_sheet_leave_a_formula = both_go _
