-- The book that a line makes is no greater than such a book may be, and the column that it asks for is one.
use Rattle.std.proofs.Common.{◌≡◌, ℕ, ◌+◌, ◌-◌, ◌&&◌, Bool, true, false, cond, nat_eq, nat_le, List, [], ◌∷◌, length, map, drop, refl, arith}
use Rattle.std.proofs.lemmas.Bool.{and_from, and_parts}
use Rattle.std.proofs.lemmas.Bool.Decides.{nat_tests}
use Rattle.std.specs.Prelude.{Result, Ok, Err, ◌==◌, codes}
use Rattle.std.specs.List.{AllByRecursion, before_first, list_any, starts_with}
use Rattle.std.specs.Char.{to_ascii_lowercase}
use Rattle.std.specs.Str.Parse.{digits_value}
use Rattle.calc_addr.specs.declared.cell.TheConstants.{LAST_COL, LAST_SHEET}
use Rattle.calc_addr.specs.Letters.{column_number}
use Rattle.std.specs.Str.{bytes_eq, is_utf8}
use Rattle.calc_addr.specs.Places.{Place, Rectangle}
use Rattle.calc_addr.specs.Spelling.{after_sheet, are_digits_or_zero, are_letters, both, column_of, from_zero, is_point, row_of, sheet_number, sheet_of, sheet_part, spelled_area, spelled_cell, undollared, up_to}
use Rattle.calc_addr.specs.declared.read.Spelled.{Spelled}
use Rattle.calc_addr.specs.declared.read.Spelled.TheVariants.{Is, Outside, Not}
use Rattle.calc_model.specs.declared.content.Content.{Content}
use Rattle.calc_model.specs.declared.edit.Edit.TheVariants.{Set, Clear, Copy, Fill, InsertRows, DeleteRows, Name, Make}
use Rattle.calc_model.specs.declared.limits.TheConstants.{MOST_GENERATED_ROWS}
use Rattle.calc_script.specs.declared.limits.TheConstants.{MOST_PRINTED, MOST_WATCHED}
use Rattle.calc_script.specs.declared.command.Line.{Line}
use Rattle.calc_script.specs.declared.command.Line.TheVariants.{Nothing, Refused}
use Rattle.calc_script.specs.declared.command.Cause.{Cause}
use Rattle.calc_script.specs.declared.command.Cause.TheVariants.{BadCommand}
use Rattle.calc_script.specs.declared.command.Command.{Command}
use Rattle.calc_script.specs.declared.command.Command.TheVariants as commands
use Rattle.calc_script.specs.Commands.{MakesSmallBooks, address_of, area_for, area_of, bare_line, blocks_of, calc_of, clear_of, col_of, command_of, copy_of, delete_of, few_cells, fill_of, formulas_of, groups_of, insert_of, is_makeable_command, is_makeable_line, line_with, make_of, name_line, named_line, no_more, of_one_sheet, on_one_sheet, print_of, rows_of, set_line, set_of, sizes_of, start_of, tested, text_line, told_of, two_addresses, unname_line, unwatch_of, verbs, watch_of, within_limits}
use Rattle.calc_script.specs.Words.{behind_space, is_idle, up_to_space, without_return, without_spaces, words_of}

-- a line whose command can be made of whatever is read for it
with_read : {A : Type 0} (command : A → Command) → ((read : A) → is_makeable_command (command read) ≡ true) → (read : Result A Cause) → is_makeable_line (line_with command read) ≡ true
with_read command can (Ok read) = can read
with_read command can (Err cause) = refl

bare : (command : Command) → is_makeable_command command ≡ true → (words : List (List ℕ)) → is_makeable_line (bare_line command words) ≡ true
bare command can [] = can
bare command can (word ∷ words) = refl

named : (words : List (List ℕ)) → is_makeable_line (name_line words) ≡ true
unfolding name_line
named [] = refl
named (name ∷ words) = with_read (λ area. commands.Edit (Name name area)) (λ _. refl) (tested (area_for name) (area_of words))

unnamed : (words : List (List ℕ)) → is_makeable_line (unname_line words) ≡ true
unfolding unname_line
unnamed [] = refl
unnamed (name ∷ []) = refl
unnamed (name ∷ other ∷ words) = refl

-- the start and the rows of a book, of which there are no more than the most
few : (start count : Spelled ℕ) → is_makeable_line (line_with (λ (read : ℕ × ℕ). commands.Edit (Make read.0 read.1)) (within_limits (both (λ a b. (a, b)) start (no_more MOST_GENERATED_ROWS count)))) ≡ true
few (Is a) (Is n) =
    elim (nat_le n MOST_GENERATED_ROWS) as (λ b. nat_le n MOST_GENERATED_ROWS ≡ b → is_makeable_line (line_with (λ (read : ℕ × ℕ). commands.Edit (Make read.0 read.1)) (within_limits (both (λ a b. (a, b)) (Is a) (cond b (Is n) Outside)))) ≡ true) [
      | true ↦ λ within. within
      | false ↦ λ _. refl
    ] refl
few (Is a) Outside = refl
few (Is a) Not = refl
few Outside (Is n) =
    elim (nat_le n MOST_GENERATED_ROWS) as (λ b. is_makeable_line (line_with (λ (read : ℕ × ℕ). commands.Edit (Make read.0 read.1)) (within_limits (both (λ a b. (a, b)) Outside (cond b (Is n) Outside)))) ≡ true) [ true ↦ refl | false ↦ refl ]
few Outside Outside = refl
few Outside Not = refl
few Not count = refl

sized : (words : List (List ℕ)) → is_makeable_line (line_with (λ (read : ℕ × ℕ). commands.Edit (Make read.0 read.1)) (sizes_of words)) ≡ true
unfolding sizes_of
sized [] = refl
sized (start ∷ []) = refl
sized (start ∷ rows ∷ []) = few (start_of start) (row_of rows)
sized (start ∷ rows ∷ third ∷ words) = refl

-- what is read passes the test
abbrev Fits : (ℕ → Bool) → Spelled ℕ → Type 0
Fits test (Is n) = test n ≡ true
Fits test Outside = Unit {0}
Fits test Not = Unit {0}

abbrev is_sheet : ℕ → Bool
is_sheet n = nat_le n LAST_SHEET

abbrev is_col : ℕ → Bool
is_col n = nat_le 1 n && nat_le n LAST_COL

no_later : (n : ℕ) → nat_le n (LAST_SHEET + 1) ≡ true → is_sheet (n - 1) ≡ true
no_later n h = grind (arith, nat_tests, h)

-- a number of a sheet, counted from 1
sheet_fits : (n : ℕ) → Fits is_sheet (from_zero (up_to (LAST_SHEET + 1) n))
sheet_fits n =
    elim (nat_le 1 n && nat_le n (LAST_SHEET + 1)) as (λ b. (nat_le 1 n && nat_le n (LAST_SHEET + 1)) ≡ b → Fits is_sheet (from_zero (cond b (Is n) Outside))) [
      | true ↦ λ within. no_later n (and_parts (nat_le 1 n) (nat_le n (LAST_SHEET + 1)) within).1
      | false ↦ λ _. tt
    ] refl

numbered_fits : (digits : List ℕ) → Fits is_sheet (sheet_number digits)
numbered_fits digits = elim (are_digits_or_zero digits) as (λ b. Fits is_sheet (cond b (from_zero (up_to (LAST_SHEET + 1) (digits_value 10 digits))) Not)) [ true ↦ sheet_fits (digits_value 10 digits) | false ↦ tt ]

named_fits : (word : List ℕ) → Fits is_sheet (sheet_of word)
named_fits word = elim (starts_with nat_eq (map to_ascii_lowercase word) (codes "sheet")) as (λ b. Fits is_sheet (cond b (sheet_number (drop 5 word)) Not)) [ true ↦ numbered_fits (drop 5 word) | false ↦ tt ]

part_fits : (text : List ℕ) → Fits is_sheet (sheet_part text)
part_fits text = elim (list_any is_point text) as (λ b. Fits is_sheet (cond b (sheet_of (undollared (before_first is_point text))) (Is 0))) [ true ↦ named_fits (undollared (before_first is_point text)) | false ↦ refl ]

within_fits : (n : ℕ) → Fits is_col (up_to LAST_COL n)
within_fits n = elim (is_col n) as (λ b. is_col n ≡ b → Fits is_col (cond b (Is n) Outside)) [ true ↦ λ within. within | false ↦ λ _. tt ] refl

column_fits : (letters : List ℕ) → Fits is_col (column_of letters)
column_fits letters = elim (are_letters letters) as (λ b. Fits is_col (cond b (up_to LAST_COL (column_number letters)) Not)) [ true ↦ within_fits (column_number letters) | false ↦ tt ]

module _ (command : ℕ → ℕ → Command) (can : (sheet col : ℕ) → is_sheet sheet ≡ true → is_col col ≡ true → is_makeable_command (command sheet col) ≡ true) where
  abbrev with_both : Spelled (ℕ × ℕ) → Line
  with_both read = line_with (λ (read : ℕ × ℕ). command read.0 read.1) (address_of read)

  both_fit : (sheet col : Spelled ℕ) → Fits is_sheet sheet → Fits is_col col → is_makeable_line (with_both (both (λ sheet col. (sheet, col)) sheet col)) ≡ true
  both_fit (Is s) (Is c) h k = can s c h k
  both_fit (Is s) Outside h k = refl
  both_fit (Is s) Not h k = refl
  both_fit Outside (Is c) h k = refl
  both_fit Outside Outside h k = refl
  both_fit Outside Not h k = refl
  both_fit Not col h k = refl

  -- a command of a column, whose words name one
  of_column : (words : List (List ℕ)) → is_makeable_line (line_with (λ (read : ℕ × ℕ). command read.0 read.1) (col_of words)) ≡ true
  unfolding col_of
  of_column [] = refl
  of_column (col ∷ []) = both_fit (sheet_part col) (column_of (undollared (after_sheet col))) (part_fits col) (column_fits (undollared (after_sheet col)))
  of_column (col ∷ other ∷ words) = refl

-- a line of one of some verbs, whose lines can all be made
abbrev IsMakeable : List ℕ × (List ℕ → Line) → Type 0
IsMakeable verb = (rest : List ℕ) → is_makeable_line (verb.1 rest) ≡ true

of_verbs : (rows : List (List ℕ × (List ℕ → Line))) → AllByRecursion IsMakeable rows → (name rest : List ℕ) → is_makeable_line (named_line rows name rest) ≡ true
of_verbs [] can name rest = refl
of_verbs (row ∷ rows) can name rest =
    elim (bytes_eq name row.0) as (λ b. is_makeable_line (cond b (row.1 rest) (named_line rows name rest)) ≡ true) [
      | true ↦ can.0 rest
      | false ↦ of_verbs rows can.1 name rest
    ]

module _ (field : List ℕ → Content) where
  set_can : (address text : List ℕ) → is_makeable_line (set_line field address text) ≡ true
  set_can address text =
      elim (length text == 0) as (λ b. is_makeable_line (cond b (Refused BadCommand) (line_with (λ cell. commands.Edit (Set cell (field text))) (address_of (spelled_cell address)))) ≡ true) [
        | true ↦ refl
        | false ↦ with_read _ (λ _. refl) (address_of (spelled_cell address))
      ]

  all_can : AllByRecursion IsMakeable (verbs field)
  unfolding set_of clear_of copy_of fill_of insert_of delete_of make_of calc_of print_of formulas_of groups_of blocks_of watch_of told_of unwatch_of
  all_can = (
    λ rest. set_can (up_to_space (without_spaces rest)) (behind_space (without_spaces rest)),
    (
      λ rest. with_read (λ area. commands.Edit (Clear area)) (λ _. refl) (area_of (words_of rest)),
      (
        λ rest. with_read (λ (read : Rectangle × Place). commands.Edit (Copy read.0 read.1)) (λ _. refl) (tested on_one_sheet (two_addresses spelled_area spelled_cell (words_of rest))),
        (
          λ rest. with_read (λ (read : Place × Rectangle). commands.Edit (Fill read.0 read.1)) (λ _. refl) (tested of_one_sheet (two_addresses spelled_cell spelled_area (words_of rest))),
          (
            λ rest. with_read (λ (read : (ℕ × ℕ) × ℕ). commands.Edit (InsertRows read.0.0 read.0.1 read.1)) (λ _. refl) (rows_of (words_of rest)),
            (
              λ rest. with_read (λ (read : (ℕ × ℕ) × ℕ). commands.Edit (DeleteRows read.0.0 read.0.1 read.1)) (λ _. refl) (rows_of (words_of rest)),
              (
                λ rest. named (words_of rest),
                (
                  λ rest. unnamed (words_of rest),
                  (
                    λ rest. sized (words_of rest),
                    (
                      λ rest. bare commands.Calc refl (words_of rest),
                      (
                        λ rest. with_read commands.Print (λ _. refl) (few_cells MOST_PRINTED (area_of (words_of rest))),
                        (
                          λ rest. with_read commands.Formulas (λ _. refl) (few_cells MOST_PRINTED (area_of (words_of rest))),
                          (
                            λ rest. of_column commands.Groups (λ sheet col h k. and_from (is_sheet sheet) (is_col col) h k) (words_of rest),
                            (
                              λ rest. of_column commands.Blocks (λ sheet col h k. and_from (is_sheet sheet) (is_col col) h k) (words_of rest),
                              (
                                λ rest. with_read commands.Watch (λ _. refl) (few_cells MOST_WATCHED (area_of (words_of rest))),
                                (
                                  λ rest. bare commands.Told refl (words_of rest),
                                  (
                                    λ rest. bare commands.Unwatch refl (words_of rest),
                                    tt,
                                  ),
                                ),
                              ),
                            ),
                          ),
                        ),
                      ),
                    ),
                  ),
                ),
              ),
            ),
          ),
        ),
      ),
    ),
  )

  of_command : (name rest : List ℕ) → is_makeable_line (command_of field name rest) ≡ true
  unfolding command_of
  of_command = of_verbs (verbs field) all_can

  of_text : (text : List ℕ) → is_makeable_line (text_line field text) ≡ true
  unfolding text_line
  of_text text =
      elim (is_idle text) as (λ b. is_makeable_line (cond b Nothing (cond (is_utf8 text) (command_of field (up_to_space text) (behind_space text)) (Refused BadCommand))) ≡ true) [
        | true ↦ refl
        | false ↦ elim (is_utf8 text) as (λ b. is_makeable_line (cond b (command_of field (up_to_space text) (behind_space text)) (Refused BadCommand)) ≡ true) [
          | true ↦ of_command (up_to_space text) (behind_space text)
          | false ↦ refl
        ]
      ]

pub make_small_books : MakesSmallBooks
make_small_books field line = of_text field (without_return line)
