-- Worked examples of lines that make books, watch areas and list columns, each computed: what is refused, beside the
-- nearest that isn't.
use Rattle.std.proofs.Common.{◌≡◌, ℕ, List, codes, refl}
use lib.Utf8.{encode}
use Rattle.std.specs.Str.{is_utf8, chars}
use Rattle.calc_model.specs.declared.content.Content.{Content}
use Rattle.calc_model.specs.declared.edit.Edit.TheVariants.{Make}
use Rattle.calc_model.specs.declared.edit.EditCause.TheVariants.{OffSheet}
use Rattle.calc_script.specs.declared.command.Line.{Line}
use Rattle.calc_script.specs.declared.command.Line.TheVariants.{Do, Refused}
use Rattle.calc_script.specs.declared.command.Command.TheVariants as commands
use Rattle.calc_script.specs.declared.command.Cause.TheVariants.{BadCommand, TooLarge, Edit}
use Rattle.calc_script.specs.Words.{words_of}
use Rattle.calc_script.specs.Commands.{area_of, blocks_of, col_of, command_of, groups_of, line_of, make_of, sizes_of, text_line, told_of, unwatch_of, watch_of}

abbrev makes : ℕ → ℕ → Line
makes start rows = Do (commands.Edit (Make start rows))

module _ (field : List ℕ → Content) where
  a_book_is_made : line_of field (codes "make 7 9") ≡ makes 7 9
  unfolding text_line command_of make_of sizes_of words_of is_utf8 chars encode
  a_book_is_made = refl

  a_start_may_be_zero : line_of field (codes "make 0 1") ≡ makes 0 1
  unfolding text_line command_of make_of sizes_of words_of is_utf8 chars encode
  a_start_may_be_zero = refl

  a_start_has_no_leading_zero : line_of field (codes "make 00 1") ≡ Refused BadCommand
  unfolding text_line command_of make_of sizes_of words_of is_utf8 chars encode
  a_start_has_no_leading_zero = refl

  rows_are_one_at_least : line_of field (codes "make 7 0") ≡ Refused BadCommand
  unfolding text_line command_of make_of sizes_of words_of is_utf8 chars encode
  rows_are_one_at_least = refl

  the_largest_book_is_made : line_of field (codes "make 65536 100000") ≡ makes 65536 100000
  unfolding text_line command_of make_of sizes_of words_of is_utf8 chars encode
  the_largest_book_is_made = refl

  no_higher_start_is_made : line_of field (codes "make 65537 1") ≡ Refused TooLarge
  unfolding text_line command_of make_of sizes_of words_of is_utf8 chars encode
  no_higher_start_is_made = refl

  no_more_rows_are_made : line_of field (codes "make 1 100001") ≡ Refused TooLarge
  unfolding text_line command_of make_of sizes_of words_of is_utf8 chars encode
  no_more_rows_are_made = refl

  a_number_may_be_long : line_of field (codes "make 99999999999999999999 1") ≡ Refused TooLarge
  unfolding text_line command_of make_of sizes_of words_of is_utf8 chars encode
  a_number_may_be_long = refl

  the_form_comes_before_the_limit : line_of field (codes "make 65537 0") ≡ Refused BadCommand
  unfolding text_line command_of make_of sizes_of words_of is_utf8 chars encode
  the_form_comes_before_the_limit = refl

  a_make_line_has_two_numbers : line_of field (codes "make 7") ≡ Refused BadCommand
  unfolding text_line command_of make_of sizes_of words_of is_utf8 chars encode
  a_make_line_has_two_numbers = refl

  no_large_area_is_watched : line_of field (codes "watch D4096:A1") ≡ Refused TooLarge
  unfolding text_line command_of watch_of area_of words_of is_utf8 chars encode
  no_large_area_is_watched = refl

  few_cells_are_watched : line_of field (codes "watch Sheet2.D1024:A1") ≡ Do (commands.Watch (record { sheet = 1; first_col = 1; last_col = 4; first_row = 1; last_row = 1024 }))
  unfolding text_line command_of watch_of area_of words_of is_utf8 chars encode
  few_cells_are_watched = refl

  the_sheet_comes_before_the_size : line_of field (codes "watch Sheet17.A1:D4096") ≡ Refused (Edit OffSheet)
  unfolding text_line command_of watch_of area_of words_of is_utf8 chars encode
  the_sheet_comes_before_the_size = refl

  told_stands_alone : line_of field (codes "told  ") ≡ Do commands.Told
  unfolding text_line command_of told_of words_of is_utf8 chars encode
  told_stands_alone = refl

  told_has_no_other_word : line_of field (codes "told A1") ≡ Refused BadCommand
  unfolding text_line command_of told_of words_of is_utf8 chars encode
  told_has_no_other_word = refl

  unwatch_stands_alone : line_of field (codes "unwatch") ≡ Do commands.Unwatch
  unfolding text_line command_of unwatch_of words_of is_utf8 chars encode
  unwatch_stands_alone = refl

  a_column_has_groups : line_of field (codes "groups $Sheet2.$b") ≡ Do (commands.Groups 1 2)
  unfolding text_line command_of groups_of col_of words_of is_utf8 chars encode
  a_column_has_groups = refl

  the_last_column_has_blocks : line_of field (codes "blocks AMJ") ≡ Do (commands.Blocks 0 1024)
  unfolding text_line command_of blocks_of col_of words_of is_utf8 chars encode
  the_last_column_has_blocks = refl

  there_is_no_later_column : line_of field (codes "blocks AMK") ≡ Refused (Edit OffSheet)
  unfolding text_line command_of blocks_of col_of words_of is_utf8 chars encode
  there_is_no_later_column = refl

  a_column_has_no_row : line_of field (codes "groups B1") ≡ Refused BadCommand
  unfolding text_line command_of groups_of col_of words_of is_utf8 chars encode
  a_column_has_no_row = refl
