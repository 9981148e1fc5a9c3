-- Worked examples of lines with edits, each computed: what is refused, beside the nearest that isn't.
use Rattle.std.proofs.Common.{◌≡◌, ℕ, List, codes, refl}
use lib.Utf8.{encode}
use Rattle.std.specs.Str.{is_utf8, chars}
use Rattle.calc_addr.specs.Places.{Place, Rectangle}
use Rattle.calc_model.specs.declared.content.Content.{Content}
use Rattle.calc_model.specs.declared.edit.Edit.{Edit as BookEdit}
use Rattle.calc_model.specs.declared.edit.Edit.TheVariants.{Copy, Fill, InsertRows, DeleteRows, Name, Unname}
use Rattle.calc_model.specs.declared.edit.EditCause.TheVariants.{OffSheet, BadName}
use Rattle.calc_script.specs.declared.command.Line.{Line}
use Rattle.calc_script.specs.declared.command.Line.TheVariants.{Do, Refused}
use Rattle.calc_script.specs.declared.command.Command.TheVariants as commands
use Rattle.calc_script.specs.declared.command.Cause.TheVariants.{BadCommand, Edit}
use Rattle.calc_script.specs.Words.{words_of}
use Rattle.calc_script.specs.Commands.{area_of, command_of, copy_of, delete_of, fill_of, insert_of, line_of, name_line, rows_of, text_line, two_addresses, unname_line}

abbrev place : ℕ → ℕ → ℕ → Place
place sheet col row = record { sheet = sheet; col = col; row = row }

abbrev rectangle : ℕ → ℕ → ℕ → ℕ → ℕ → Rectangle
rectangle sheet first_col last_col first_row last_row = record {
  sheet = sheet;
  first_col = first_col;
  last_col = last_col;
  first_row = first_row;
  last_row = last_row;
}

abbrev does : BookEdit → Line
does edit = Do (commands.Edit edit)

module _ (field : List ℕ → Content) where
  a_copy_line_has_an_area_and_a_cell : line_of field (codes "copy A1:B2 C3") ≡ does (Copy (rectangle 0 1 2 1 2) (place 0 3 3))
  unfolding text_line command_of copy_of two_addresses words_of is_utf8 chars encode
  a_copy_line_has_an_area_and_a_cell = refl

  a_copy_may_end_in_the_last_column : line_of field (codes "copy A1:B2 AMI1") ≡ does (Copy (rectangle 0 1 2 1 2) (place 0 1023 1))
  unfolding text_line command_of copy_of two_addresses words_of is_utf8 chars encode
  a_copy_may_end_in_the_last_column = refl

  no_copy_ends_behind_the_last_column : line_of field (codes "copy A1:B2 AMJ1") ≡ Refused (Edit OffSheet)
  unfolding text_line command_of copy_of two_addresses words_of is_utf8 chars encode
  no_copy_ends_behind_the_last_column = refl

  a_copy_may_end_in_the_last_row : line_of field (codes "copy A1:A2 B1048575") ≡ does (Copy (rectangle 0 1 1 1 2) (place 0 2 1048575))
  unfolding text_line command_of copy_of two_addresses words_of is_utf8 chars encode
  a_copy_may_end_in_the_last_row = refl

  no_copy_ends_below_the_last_row : line_of field (codes "copy A1:A2 B1048576") ≡ Refused (Edit OffSheet)
  unfolding text_line command_of copy_of two_addresses words_of is_utf8 chars encode
  no_copy_ends_below_the_last_row = refl

  a_copy_stays_in_its_sheet : line_of field (codes "copy Sheet2.A1 Sheet2.B1") ≡ does (Copy (rectangle 1 1 1 1 1) (place 1 2 1))
  unfolding text_line command_of copy_of two_addresses words_of is_utf8 chars encode
  a_copy_stays_in_its_sheet = refl

  no_copy_goes_to_another_sheet : line_of field (codes "copy A1 Sheet2.A1") ≡ Refused (Edit OffSheet)
  unfolding text_line command_of copy_of two_addresses words_of is_utf8 chars encode
  no_copy_goes_to_another_sheet = refl

  a_copy_line_has_a_cell : line_of field (codes "copy A1") ≡ Refused BadCommand
  unfolding text_line command_of copy_of two_addresses words_of is_utf8 chars encode
  a_copy_line_has_a_cell = refl

  a_copy_line_has_one_cell_alone : line_of field (codes "copy A1 B1 C1") ≡ Refused BadCommand
  unfolding text_line command_of copy_of two_addresses words_of is_utf8 chars encode
  a_copy_line_has_one_cell_alone = refl

  both_forms_come_before_the_sheets : line_of field (codes "copy Sheet17.A1 A0") ≡ Refused BadCommand
  unfolding text_line command_of copy_of two_addresses words_of is_utf8 chars encode
  both_forms_come_before_the_sheets = refl

  a_fill_line_has_a_cell_and_an_area : line_of field (codes "fill A1 B3:B1") ≡ does (Fill (place 0 1 1) (rectangle 0 2 2 1 3))
  unfolding text_line command_of fill_of two_addresses words_of is_utf8 chars encode
  a_fill_line_has_a_cell_and_an_area = refl

  no_fill_goes_to_another_sheet : line_of field (codes "fill A1 Sheet2.B1") ≡ Refused (Edit OffSheet)
  unfolding text_line command_of fill_of two_addresses words_of is_utf8 chars encode
  no_fill_goes_to_another_sheet = refl

  a_fill_begins_with_a_cell : line_of field (codes "fill A1:A2 B1") ≡ Refused BadCommand
  unfolding text_line command_of fill_of two_addresses words_of is_utf8 chars encode
  a_fill_begins_with_a_cell = refl

  an_insert_line_has_a_row_and_a_count : line_of field (codes "insert 3 2") ≡ does (InsertRows 0 3 2)
  unfolding text_line command_of insert_of rows_of two_addresses words_of is_utf8 chars encode
  an_insert_line_has_a_row_and_a_count = refl

  a_row_may_name_its_sheet : line_of field (codes "insert sheet2.$3 2") ≡ does (InsertRows 1 3 2)
  unfolding text_line command_of insert_of rows_of two_addresses words_of is_utf8 chars encode
  a_row_may_name_its_sheet = refl

  all_rows_may_be_inserted : line_of field (codes "insert 1 1048576") ≡ does (InsertRows 0 1 1048576)
  unfolding text_line command_of insert_of rows_of two_addresses words_of is_utf8 chars encode
  all_rows_may_be_inserted = refl

  no_row_more_is_inserted : line_of field (codes "insert 2 1048576") ≡ Refused (Edit OffSheet)
  unfolding text_line command_of insert_of rows_of two_addresses words_of is_utf8 chars encode
  no_row_more_is_inserted = refl

  a_count_is_no_more_than_the_rows : line_of field (codes "insert 1 99999999999") ≡ Refused (Edit OffSheet)
  unfolding text_line command_of insert_of rows_of two_addresses words_of is_utf8 chars encode
  a_count_is_no_more_than_the_rows = refl

  there_is_no_later_row : line_of field (codes "insert 1048577 1") ≡ Refused (Edit OffSheet)
  unfolding text_line command_of insert_of rows_of two_addresses words_of is_utf8 chars encode
  there_is_no_later_row = refl

  a_row_is_one_at_least : line_of field (codes "insert 0 1") ≡ Refused BadCommand
  unfolding text_line command_of insert_of rows_of two_addresses words_of is_utf8 chars encode
  a_row_is_one_at_least = refl

  a_count_is_one_at_least : line_of field (codes "insert 1 0") ≡ Refused BadCommand
  unfolding text_line command_of insert_of rows_of two_addresses words_of is_utf8 chars encode
  a_count_is_one_at_least = refl

  a_count_has_no_leading_zero : line_of field (codes "insert 1 01") ≡ Refused BadCommand
  unfolding text_line command_of insert_of rows_of two_addresses words_of is_utf8 chars encode
  a_count_has_no_leading_zero = refl

  a_count_names_no_sheet : line_of field (codes "insert 1 Sheet1.1") ≡ Refused BadCommand
  unfolding text_line command_of insert_of rows_of two_addresses words_of is_utf8 chars encode
  a_count_names_no_sheet = refl

  the_count_comes_before_the_sheet : line_of field (codes "insert Sheet17.1 0") ≡ Refused BadCommand
  unfolding text_line command_of insert_of rows_of two_addresses words_of is_utf8 chars encode
  the_count_comes_before_the_sheet = refl

  the_last_row_may_be_deleted : line_of field (codes "delete 1048576 1") ≡ does (DeleteRows 0 1048576 1)
  unfolding text_line command_of delete_of rows_of two_addresses words_of is_utf8 chars encode
  the_last_row_may_be_deleted = refl

  no_row_behind_it_is_deleted : line_of field (codes "delete 1048576 2") ≡ Refused (Edit OffSheet)
  unfolding text_line command_of delete_of rows_of two_addresses words_of is_utf8 chars encode
  no_row_behind_it_is_deleted = refl

  a_delete_line_has_a_count : line_of field (codes "delete 5") ≡ Refused BadCommand
  unfolding text_line command_of delete_of rows_of two_addresses words_of is_utf8 chars encode
  a_delete_line_has_a_count = refl

  a_name_line_has_a_name_and_an_area : line_of field (codes "name Rate B2:A1") ≡ does (Name (codes "Rate") (rectangle 0 1 2 1 2))
  unfolding text_line command_of name_line area_of words_of is_utf8 chars encode
  a_name_line_has_a_name_and_an_area = refl

  a_row_zero_makes_a_name : line_of field (codes "name A0 B1") ≡ does (Name (codes "A0") (rectangle 0 2 2 1 1))
  unfolding text_line command_of name_line area_of words_of is_utf8 chars encode
  a_row_zero_makes_a_name = refl

  an_address_is_no_name : line_of field (codes "name A1 B1") ≡ Refused (Edit BadName)
  unfolding text_line command_of name_line area_of words_of is_utf8 chars encode
  an_address_is_no_name = refl

  the_last_address_is_no_name : line_of field (codes "name AMJ1048576 B1") ≡ Refused (Edit BadName)
  unfolding text_line command_of name_line area_of words_of is_utf8 chars encode
  the_last_address_is_no_name = refl

  an_address_off_the_sheet_is_a_name : line_of field (codes "name AMK1 B1") ≡ does (Name (codes "AMK1") (rectangle 0 2 2 1 1))
  unfolding text_line command_of name_line area_of words_of is_utf8 chars encode
  an_address_off_the_sheet_is_a_name = refl

  a_name_begins_with_a_letter : line_of field (codes "name 1x B1") ≡ Refused (Edit BadName)
  unfolding text_line command_of name_line area_of words_of is_utf8 chars encode
  a_name_begins_with_a_letter = refl

  the_sheet_comes_before_the_name : line_of field (codes "name 1x Sheet17.B1") ≡ Refused (Edit OffSheet)
  unfolding text_line command_of name_line area_of words_of is_utf8 chars encode
  the_sheet_comes_before_the_name = refl

  the_form_comes_before_the_name : line_of field (codes "name 1x B0") ≡ Refused BadCommand
  unfolding text_line command_of name_line area_of words_of is_utf8 chars encode
  the_form_comes_before_the_name = refl

  a_name_line_has_an_area : line_of field (codes "name x") ≡ Refused BadCommand
  unfolding text_line command_of name_line area_of words_of is_utf8 chars encode
  a_name_line_has_an_area = refl

  a_name_line_has_one_area_alone : line_of field (codes "name x A1 B1") ≡ Refused BadCommand
  unfolding text_line command_of name_line area_of words_of is_utf8 chars encode
  a_name_line_has_one_area_alone = refl

  an_unname_line_has_a_name : line_of field (codes "unname Rate") ≡ does (Unname (codes "Rate"))
  unfolding text_line command_of unname_line words_of is_utf8 chars encode
  an_unname_line_has_a_name = refl

  an_unname_line_has_any_word : line_of field (codes "unname A1") ≡ does (Unname (codes "A1"))
  unfolding text_line command_of unname_line words_of is_utf8 chars encode
  an_unname_line_has_any_word = refl

  an_unname_line_has_a_word : line_of field (codes "unname") ≡ Refused BadCommand
  unfolding text_line command_of unname_line words_of is_utf8 chars encode
  an_unname_line_has_a_word = refl

  an_unname_line_has_one_word_alone : line_of field (codes "unname a b") ≡ Refused BadCommand
  unfolding text_line command_of unname_line words_of is_utf8 chars encode
  an_unname_line_has_one_word_alone = refl
