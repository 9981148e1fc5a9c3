-- Some cells of all sheets: every one, or some single cells, the cells of some areas, and those whose formulas use some
-- names.
use Rattle.std.specs.Prelude.{ℕ, ◌&&◌, ◌||◌, Bool, false, List}
use Rattle.std.specs.List.{list_any}
use Rattle.std.specs.Ordering.{eq_by_cmp}
use Rattle.std.specs.Str.{str_to_ascii_uppercase}
use Rattle.calc_addr.specs.Places.{Place, Rectangle, covers, place_cmp}
use Rattle.calc_model.specs.declared.content.Content.{Content}
use Rattle.calc_model.specs.declared.content.Content.TheVariants.{Formula}
use Rattle.calc_model.specs.Books.{Book, content_at}
use Rattle.calc_model.specs.NamedAreas.{name_cmp}
use Rattle.calc_model.specs.Stale.{is_formula_cell, reaches}
use Rattle.calc_model.specs.Touched.{CellSet}
use Rattle.calc_model.specs.UsedNames.{names_in}

pub record Parts : Type 0 where
  pub all : Bool
  pub cells : List Place
  pub areas : List Rectangle
  -- in ASCII capitals
  pub names : List (List ℕ)

-- the list has the cell
abbrev pub contains_cell : List Place → Place → Bool
contains_cell cells q = list_any (eq_by_cmp place_cmp q) cells

-- the cell is one of all, of the single ones or of those in areas
unfoldable pub lies_in : Parts → CellSet
lies_in parts q = parts.all || contains_cell parts.cells q || list_any (λ area. covers area q) parts.areas

-- the name is one of these, in capitals or not
abbrev pub has_name : List (List ℕ) → List ℕ → Bool
has_name names name = list_any (eq_by_cmp name_cmp (str_to_ascii_uppercase name)) names

-- the formula uses one of these names
abbrev pub uses_any : List (List ℕ) → Content → Bool
uses_any names (Formula tree) = list_any (has_name names) (names_in tree)
uses_any names _ = false

-- it has the cell of the book
abbrev pub is_touched : Book → Parts → CellSet
is_touched book parts q = lies_in parts q || uses_any parts.names (content_at book q)

-- the formula is touched, or reaches a touched cell by reading
abbrev pub is_stale : Book → Parts → CellSet
is_stale book parts q = is_formula_cell book q && reaches book (is_touched book parts) q
