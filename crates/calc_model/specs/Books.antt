-- A book: a finite map from cells to contents that aren't empty, and a finite map from names to areas.
use Rattle.std.specs.Prelude.{◌≡◌, ◌≤◌, ℕ, ◌&&◌, Bool, true, false, List, length, Option, Some, None, unwrap_or, if◌then◌else◌}
use Rattle.std.specs.List.{filter, list_all}
use Rattle.std.specs.FinMap.Entries.{find, is_sorted}
use Rattle.std.specs.BTreeMap.{insert_entry, is_at}
use Rattle.std.specs.Map.{remove_entry}
use Rattle.std.specs.Ordering.{nat_cmp}
use Rattle.std.specs.Cmp.Lexicographic.{slice_cmp}
use Rattle.std.specs.Str.{str_to_ascii_uppercase}
use Rattle.calc_addr.specs.Places.{Place, Rectangle, place_cmp, single}
use Rattle.calc_addr.specs.ValidReferences.{is_rectangle}
use Rattle.calc_model.specs.declared.limits.TheConstants.{MOST_CELLS, MOST_NAMES}
use Rattle.calc_model.specs.declared.content.Content.{Content}
use Rattle.calc_model.specs.declared.content.Content.TheVariants.{Empty, Constant, Formula, Raw}
use Rattle.calc_model.specs.declared.looked.Looked.{Looked}
use Rattle.calc_model.specs.declared.looked.Looked.TheVariants.{Absent, Gone, At}
use Rattle.calc_model.specs.Contents.{is_constant}
use Rattle.calc_model.specs.Formed.{is_formed}
use Rattle.calc_model.specs.Tokens.{has_no_small_letter, is_name}

-- what a name stands for: an area, or none where the area was deleted
abbrev pub Target : Type 0
Target = Option Rectangle

-- names with what they stand for
abbrev pub NameEntries : Type 0
NameEntries = List (List ℕ × Target)

-- Both maps are lists of their entries in rising order: cells in the order of cells, and names, which
-- stand in ASCII capitals, by their bytes.
pub record Book : Type 0 where
  pub cells : List (Place × Content)
  pub names : NameEntries

abbrev pub book_names : Book → NameEntries
book_names book = book.names

-- what the cell holds
unfoldable pub content_at : Book → Place → Content
content_at book place = unwrap_or (find place_cmp place book.cells) Empty

-- something stands in the cell
abbrev pub is_held : Content → Bool
is_held Empty = false
is_held _ = true

-- the cells with that content in one of them, or with nothing where it is empty
abbrev pub with_content : List (Place × Content) → Place → Content → List (Place × Content)
with_content cells cell content =
    if is_held content then insert_entry place_cmp cells cell content else remove_entry (is_at (place_cmp cell)) cells

abbrev pub looked_up : Option Target → Looked
looked_up None = Absent
looked_up (Some None) = Gone
looked_up (Some (Some area)) = At area

-- what the name stands for by these entries, in capitals or not
unfoldable pub entry_named : NameEntries → List ℕ → Looked
entry_named entries name = looked_up (find (slice_cmp nat_cmp) (str_to_ascii_uppercase name) entries)

-- what the name stands for in the book
abbrev pub area_named : Book → List ℕ → Looked
area_named book = entry_named book.names

abbrev pub is_formula : Content → Bool
is_formula (Formula tree) = true
is_formula _ = false

-- how many cells hold a formula
unfoldable pub formula_count : Book → ℕ
formula_count book = length (filter (λ entry. is_formula entry.1) book.cells)

-- the cell lies in one of the sheets
abbrev pub is_place : Place → Bool
is_place cell = is_rectangle (single cell)

-- what a cell that isn't empty can hold
abbrev pub is_content : Content → Bool
is_content Empty = false
is_content (Constant value) = is_constant value
is_content (Formula tree) = is_formed tree
is_content (Raw text) = true

abbrev pub is_cell_entry : Place × Content → Bool
is_cell_entry entry = is_place entry.0 && is_content entry.1

abbrev pub is_target : Target → Bool
is_target None = true
is_target (Some area) = is_rectangle area

-- a name in capitals, with its area in a sheet
abbrev pub is_name_entry : List ℕ × Target → Bool
is_name_entry entry = is_name entry.0 && has_no_small_letter entry.0 && is_target entry.1

-- The entries of each map are in order, are what they can be, and are no more than the limit.
pub record IsBook (book : Book) : Type 0 where
  pub cells_in_order : is_sorted place_cmp book.cells ≡ true
  pub cells_held : list_all is_cell_entry book.cells ≡ true
  pub cells_in_limit : length book.cells ≤ MOST_CELLS
  pub names_in_order : is_sorted (slice_cmp nat_cmp) book.names ≡ true
  pub names_spelled : list_all is_name_entry book.names ≡ true
  pub names_in_limit : length book.names ≤ MOST_NAMES
