-- Worked examples of the cells that edits of rows and names touch, and of where cells stood before them.
use Rattle.std.proofs.Common.{◌≡◌, false, true, [], ◌∷◌, ap, codes, refl}
use Rattle.std.specs.Prelude.{Some, None}
use Rattle.std.specs.List.{list_any}
use Rattle.calc_addr.specs.Places.{Place}
use Rattle.calc_addr.specs.References.{Reference}
use Rattle.calc_addr.specs.declared.reference.Span.TheVariants.{Cells}
use Rattle.calc_model.specs.declared.content.Content.TheVariants.{Formula}
use Rattle.calc_model.specs.declared.edit.Edit.TheVariants.{Fill, InsertRows, DeleteRows, Unname}
use Rattle.calc_model.specs.declared.tree.Tree.{Tree}
use Rattle.calc_model.specs.declared.tree.Tree.TheVariants as t
use Rattle.calc_model.specs.Books.{Book, area_named, content_at, entry_named}
use Rattle.calc_model.specs.Reads.{areas_step}
use Rattle.calc_model.specs.RowEdits.{is_changed_by_deletion, is_changed_by_insertion}
use Rattle.calc_model.specs.Touched.{origin, touched}
use Rattle.calc_model.specs.UsedNames.{is_same_name, names_in, names_step}
use Rattle.calc_model.proofs.StepExamples.{area, at, three_cells}
use Rattle.calc_model.proofs.TreeFolds.{at-Name, at-Ref}

a_cell_below_inserted_rows_stood_above : origin (InsertRows 0 2 5) (at 2 8) ≡ Some (at 2 3)
a_cell_below_inserted_rows_stood_above = refl

an_inserted_cell_stood_nowhere : origin (InsertRows 0 2 5) (at 2 6) ≡ None
an_inserted_cell_stood_nowhere = refl

a_cell_above_inserted_rows_stays : origin (InsertRows 0 2 5) (at 2 1) ≡ Some (at 2 1)
a_cell_above_inserted_rows_stays = refl

a_cell_below_deleted_rows_stood_below : origin (DeleteRows 0 1 2) (at 2 1) ≡ Some (at 2 3)
a_cell_below_deleted_rows_stood_below = refl

a_fill_touches_its_area_alone : touched three_cells (Fill (at 2 3) (area 0 1 2 1 2)) three_cells (at 2 3) ≡ false
a_fill_touches_its_area_alone = refl

cells_below_the_place_are_touched : touched three_cells (InsertRows 0 2 5) three_cells (at 9 2) ≡ true
cells_below_the_place_are_touched = refl

-- B3:C4 of the first sheet, and a formula of the second sheet that reads it
abbrev square : Reference
square = record {
  area = area 0 2 3 3 4;
  span = Cells;
  marks = record { sheet = true; first_col = false; first_row = false; last_col = false; last_row = false };
}

abbrev away : Place
away = record { sheet = 1; col = 1; row = 1 }

abbrev reader : Tree → Book
reader tree = record { cells = (away, Formula tree) ∷ []; names = (codes "RATE", Some (area 0 2 3 3 4)) ∷ [] }

a_reader_of_an_area_that_grows_is_touched : touched (reader (t.Ref square)) (InsertRows 0 4 1) (reader (t.Ref square)) away ≡ true
unfolding content_at
a_reader_of_an_area_that_grows_is_touched = ap (list_any (is_changed_by_insertion 0 4 1)) (at-Ref _ (areas_step away (area_named (reader (t.Ref square)))) square)

a_reader_of_an_area_above_isnt_touched : touched (reader (t.Ref square)) (InsertRows 0 5 1) (reader (t.Ref square)) away ≡ false
unfolding content_at
a_reader_of_an_area_above_isnt_touched = ap (list_any (is_changed_by_insertion 0 5 1)) (at-Ref _ (areas_step away (area_named (reader (t.Ref square)))) square)

abbrev user : Book
user = reader (t.Name (codes "Rate"))

a_user_of_a_name_whose_area_is_deleted_is_touched : touched user (DeleteRows 0 1 4) user away ≡ true
unfolding content_at entry_named
a_user_of_a_name_whose_area_is_deleted_is_touched = ap (list_any (is_changed_by_deletion 0 1 4)) (at-Name _ (areas_step away (area_named user)) (codes "Rate"))

a_user_of_a_removed_name_is_touched : touched user (Unname (codes "rATE")) user away ≡ true
unfolding content_at names_in
a_user_of_a_removed_name_is_touched = ap (list_any (is_same_name (codes "rATE"))) (at-Name _ names_step (codes "Rate"))

a_user_of_another_name_isnt_touched : touched user (Unname (codes "rat")) user away ≡ false
unfolding content_at names_in
a_user_of_another_name_isnt_touched = ap (list_any (is_same_name (codes "rat"))) (at-Name _ names_step (codes "Rate"))
