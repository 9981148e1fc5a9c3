-- A book's names and what edits make of them. Names stand in ASCII capitals, in the order of their bytes, so that
-- two of them that differ in the case of ASCII letters alone are one.
use Rattle.std.specs.Prelude.{◌≡◌, ◌≤◌, ℕ, ◌==◌, Bool, true, List, length, map, Option, Some, None, is_some, if◌then◌else◌}
use Rattle.std.specs.List.{list_all}
use Rattle.std.specs.FinMap.Entries.{find, is_sorted}
use Rattle.std.specs.BTreeMap.{insert_entry, is_at}
use Rattle.std.specs.Map.{remove_entry}
use Rattle.std.specs.Ordering.{nat_cmp}
use Rattle.std.specs.Cmp.Lexicographic.{slice_cmp}
use Rattle.std.specs.Str.{str_to_ascii_uppercase}
use Rattle.std.specs.declared.cmp.Ordering.{Ordering}
use Rattle.calc_addr.specs.Places.{Rectangle}
use Rattle.calc_addr.specs.Shifts.{area_after_deletion, area_after_insertion}
use Rattle.calc_model.specs.declared.limits.TheConstants.{MOST_NAMES}
use Rattle.calc_model.specs.Books.{NameEntries, Target, is_name_entry}

-- the order of names
abbrev pub name_cmp : List ℕ → List ℕ → Ordering
name_cmp = slice_cmp nat_cmp

-- The entries are in order, are what they can be, and are no more than the limit.
pub record AreNames (entries : NameEntries) : Type 0 where
  pub in_order : is_sorted name_cmp entries ≡ true
  pub spelled : list_all is_name_entry entries ≡ true
  pub in_limit : length entries ≤ MOST_NAMES

-- the name is among them, in capitals or not
abbrev pub is_defined : NameEntries → List ℕ → Bool
is_defined entries name = is_some (find name_cmp (str_to_ascii_uppercase name) entries)

-- the name stands for that area
abbrev pub with_name : NameEntries → List ℕ → Rectangle → NameEntries
with_name entries name area = insert_entry name_cmp entries (str_to_ascii_uppercase name) (Some area)

-- the name is none of them
abbrev pub without_name : NameEntries → List ℕ → NameEntries
without_name entries name = remove_entry (is_at (name_cmp (str_to_ascii_uppercase name))) entries

-- what becomes of a name where the areas on one sheet change: an area that is deleted is gone
abbrev pub target_on_sheet : ℕ → (Rectangle → Option Rectangle) → Target → Target
target_on_sheet sheet change None = None
target_on_sheet sheet change (Some area) = if area.sheet == sheet then change area else Some area

abbrev pub names_on_sheet : ℕ → (Rectangle → Option Rectangle) → NameEntries → NameEntries
names_on_sheet sheet change entries = map (λ entry. (entry.0, target_on_sheet sheet change entry.1)) entries

-- the names when so many rows of a sheet are inserted at the place
abbrev pub names_after_insertion : ℕ → ℕ → ℕ → NameEntries → NameEntries
names_after_insertion sheet place count = names_on_sheet sheet (area_after_insertion place count)

-- the same when so many rows from the place on are deleted
abbrev pub names_after_deletion : ℕ → ℕ → ℕ → NameEntries → NameEntries
names_after_deletion sheet place count = names_on_sheet sheet (area_after_deletion place count)
