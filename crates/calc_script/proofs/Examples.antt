-- Worked examples of lines and what they do, each computed.
use Rattle.std.proofs.Common.{◌≡◌, ℕ, List, [], ◌∷◌, ◌++◌, codes, refl}
use lib.Utf8.{encode}
use Rattle.std.specs.Str.{is_utf8, chars}
use Rattle.calc_addr.specs.Places.{Place, Rectangle}
use Rattle.calc_model.specs.declared.content.Content.{Content}
use Rattle.calc_model.specs.declared.edit.Edit.TheVariants.{Set, Clear}
use Rattle.calc_model.specs.declared.edit.EditCause.TheVariants.{OffSheet}
use Rattle.calc_script.specs.declared.command.Line.{Line}
use Rattle.calc_script.specs.declared.command.Line.TheVariants.{Nothing, Do, Refused}
use Rattle.calc_script.specs.declared.command.Command.TheVariants.{Calc, Print, Formulas}
use Rattle.calc_script.specs.declared.command.Command.TheVariants as commands
use Rattle.calc_script.specs.declared.command.Cause.TheVariants.{BadCommand, TooLarge, Edit}
use Rattle.calc_script.specs.Words.{words_of}
use Rattle.calc_script.specs.Commands.{area_of, calc_of, clear_of, command_of, formulas_of, line_of, print_of, set_of, text_line}

-- the first cell of the first sheet
abbrev corner : Place
corner = record { sheet = 0; col = 1; row = 1 }

-- the cells of the first sheet from that one to a column and a row
abbrev up_to : ℕ → ℕ → Rectangle
up_to col row = record { sheet = 0; first_col = 1; last_col = col; first_row = 1; last_row = row }

module _ (field : List ℕ → Content) where
  -- a line that puts a text into the first cell
  abbrev puts : List ℕ → Line
  puts text = Do (commands.Edit (Set corner (field text)))

  a_set_line_gives_the_field : line_of field (codes "set A1 5") ≡ puts (codes "5")
  unfolding text_line command_of set_of is_utf8 chars encode
  a_set_line_gives_the_field = refl

  the_field_keeps_its_spaces : line_of field (codes "set A1  a b ") ≡ puts (codes " a b ")
  unfolding text_line command_of set_of is_utf8 chars encode
  the_field_keeps_its_spaces = refl

  one_more_space_is_the_field : line_of field (codes "set A1  ") ≡ puts (codes " ")
  unfolding text_line command_of set_of is_utf8 chars encode
  one_more_space_is_the_field = refl

  a_field_has_a_byte_at_least : line_of field (codes "set A1 ") ≡ Refused BadCommand
  unfolding text_line command_of set_of is_utf8 chars encode
  a_field_has_a_byte_at_least = refl

  a_field_follows_a_space : line_of field (codes "set A1") ≡ Refused BadCommand
  unfolding text_line command_of set_of is_utf8 chars encode
  a_field_follows_a_space = refl

  spaces_may_stand_before_the_address : line_of field (codes "set   A1 a") ≡ puts (codes "a")
  unfolding text_line command_of set_of is_utf8 chars encode
  spaces_may_stand_before_the_address = refl

  the_form_comes_before_the_sheet : line_of field (codes "set AMK1") ≡ Refused BadCommand
  unfolding text_line command_of set_of is_utf8 chars encode
  the_form_comes_before_the_sheet = refl

  a_column_behind_the_last_is_off_the_sheet : line_of field (codes "set AMK1 1") ≡ Refused (Edit OffSheet)
  unfolding text_line command_of set_of is_utf8 chars encode
  a_column_behind_the_last_is_off_the_sheet = refl

  a_return_at_the_end_is_dropped : line_of field (codes "set A1 a" ++ 13 ∷ []) ≡ puts (codes "a")
  unfolding text_line command_of set_of is_utf8 chars encode
  a_return_at_the_end_is_dropped = refl

  one_return_alone_is_dropped : line_of field (codes "set A1 a" ++ 13 ∷ 13 ∷ []) ≡ puts (codes "a" ++ 13 ∷ [])
  unfolding text_line command_of set_of is_utf8 chars encode
  one_return_alone_is_dropped = refl

  a_field_may_have_other_characters : line_of field (codes "set A1 " ++ 195 ∷ 169 ∷ []) ≡ puts (195 ∷ 169 ∷ [])
  unfolding text_line command_of set_of is_utf8 chars encode
  a_field_may_have_other_characters = refl

  a_field_is_a_text : line_of field (codes "set A1 " ++ 255 ∷ []) ≡ Refused BadCommand
  unfolding text_line command_of set_of is_utf8 chars encode
  a_field_is_a_text = refl

  a_clear_line_has_an_area : line_of field (codes "clear A1:B2") ≡ Do (commands.Edit (Clear (up_to 2 2)))
  unfolding text_line command_of clear_of area_of words_of is_utf8 chars encode
  a_clear_line_has_an_area = refl

  a_clear_line_may_have_every_cell : line_of field (codes "clear A1:AMJ1048576") ≡ Do (commands.Edit (Clear (up_to 1024 1048576)))
  unfolding text_line command_of clear_of area_of words_of is_utf8 chars encode
  a_clear_line_may_have_every_cell = refl

  a_clear_line_may_name_its_sheet : line_of field (codes "clear sheet2.$b$1:a2") ≡ Do (commands.Edit (Clear (record { sheet = 1; first_col = 1; last_col = 2; first_row = 1; last_row = 2 })))
  unfolding text_line command_of clear_of area_of words_of is_utf8 chars encode
  a_clear_line_may_name_its_sheet = refl

  a_clear_line_has_one_area_alone : line_of field (codes "clear A1 B2") ≡ Refused BadCommand
  unfolding text_line command_of clear_of area_of words_of is_utf8 chars encode
  a_clear_line_has_one_area_alone = refl

  a_calc_line_has_one_word : line_of field (codes "calc  ") ≡ Do Calc
  unfolding text_line command_of calc_of words_of is_utf8 chars encode
  a_calc_line_has_one_word = refl

  a_calc_line_has_no_area : line_of field (codes "calc A1") ≡ Refused BadCommand
  unfolding text_line command_of calc_of words_of is_utf8 chars encode
  a_calc_line_has_no_area = refl

  a_print_line_has_an_area : line_of field (codes "print a1") ≡ Do (Print (up_to 1 1))
  unfolding text_line command_of print_of area_of words_of is_utf8 chars encode
  a_print_line_has_an_area = refl

  spaces_at_the_end_are_dropped : line_of field (codes "print A1  ") ≡ Do (Print (up_to 1 1))
  unfolding text_line command_of print_of area_of words_of is_utf8 chars encode
  spaces_at_the_end_are_dropped = refl

  a_space_before_a_command_makes_it_none : line_of field (codes " print A1") ≡ Refused BadCommand
  unfolding text_line command_of print_of area_of words_of is_utf8 chars encode
  a_space_before_a_command_makes_it_none = refl

  a_tab_is_part_of_a_word : line_of field (codes "print" ++ 9 ∷ codes "A1") ≡ Refused BadCommand
  unfolding text_line command_of print_of area_of words_of is_utf8 chars encode
  a_tab_is_part_of_a_word = refl

  a_second_return_is_part_of_the_address : line_of field (codes "print A1" ++ 13 ∷ 13 ∷ []) ≡ Refused BadCommand
  unfolding text_line command_of print_of area_of words_of is_utf8 chars encode
  a_second_return_is_part_of_the_address = refl

  as_many_cells_as_may_be_are_printed : line_of field (codes "print A1:A65536") ≡ Do (Print (up_to 1 65536))
  unfolding text_line command_of print_of area_of words_of is_utf8 chars encode
  as_many_cells_as_may_be_are_printed = refl

  one_cell_more_is_too_many : line_of field (codes "print A1:A65537") ≡ Refused TooLarge
  unfolding text_line command_of print_of area_of words_of is_utf8 chars encode
  one_cell_more_is_too_many = refl

  a_row_zero_is_no_address : line_of field (codes "print Sheet17.A0") ≡ Refused BadCommand
  unfolding text_line command_of print_of area_of words_of is_utf8 chars encode
  a_row_zero_is_no_address = refl

  there_is_no_seventeenth_sheet : line_of field (codes "print Sheet17.A1") ≡ Refused (Edit OffSheet)
  unfolding text_line command_of print_of area_of words_of is_utf8 chars encode
  there_is_no_seventeenth_sheet = refl

  a_long_column_is_off_the_sheet : line_of field (codes "print Sheet17") ≡ Refused (Edit OffSheet)
  unfolding text_line command_of print_of area_of words_of is_utf8 chars encode
  a_long_column_is_off_the_sheet = refl

  the_sheet_comes_before_the_count : line_of field (codes "print A1:AMK65537") ≡ Refused (Edit OffSheet)
  unfolding text_line command_of print_of area_of words_of is_utf8 chars encode
  the_sheet_comes_before_the_count = refl

  a_formulas_line_has_an_area : line_of field (codes "formulas A1:B1") ≡ Do (Formulas (up_to 2 1))
  unfolding text_line command_of formulas_of area_of words_of is_utf8 chars encode
  a_formulas_line_has_an_area = refl

  as_few_formulas_are_printed : line_of field (codes "formulas A1:A65537") ≡ Refused TooLarge
  unfolding text_line command_of formulas_of area_of words_of is_utf8 chars encode
  as_few_formulas_are_printed = refl

  another_word_is_no_command : line_of field (codes "frob A1") ≡ Refused BadCommand
  unfolding text_line command_of is_utf8 chars encode
  another_word_is_no_command = refl

  a_command_has_small_letters : line_of field (codes "PRINT A1") ≡ Refused BadCommand
  unfolding text_line command_of is_utf8 chars encode
  a_command_has_small_letters = refl

  an_empty_line_does_nothing : line_of field [] ≡ Nothing
  unfolding text_line
  an_empty_line_does_nothing = refl

  spaces_do_nothing : line_of field (codes "  ") ≡ Nothing
  unfolding text_line
  spaces_do_nothing = refl

  a_return_does_nothing : line_of field (13 ∷ []) ≡ Nothing
  unfolding text_line
  a_return_does_nothing = refl

  a_comment_may_have_any_bytes : line_of field (codes "#" ++ 255 ∷ []) ≡ Nothing
  unfolding text_line
  a_comment_may_have_any_bytes = refl

  a_command_is_a_text : line_of field (255 ∷ []) ≡ Refused BadCommand
  unfolding text_line is_utf8 chars encode
  a_command_is_a_text = refl
