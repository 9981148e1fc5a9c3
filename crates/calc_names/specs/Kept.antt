-- The entries as they are kept, and where a name stands among them.
use Rattle.std.specs.Prelude.{◌≡◌, ◌≤◌, ◌<◌, ◌==◌, ℕ, List, [], length, map, Option, Some, None, slice_index_or, if◌then◌else◌}
use Rattle.std.specs.declared.cmp.Ordering.TheVariants.{Less, Greater}
use Rattle.calc_addr.specs.Places.{Rectangle}
use Rattle.calc_model.specs.Books.{NameEntries, Target}
use Rattle.calc_model.specs.NamedAreas.{AreNames, name_cmp}
use Rattle.calc_names.specs.LookUps.{answer_of, with_answers}
use Rattle.calc_model.specs.declared.looked.Looked.{Looked}
use Rattle.calc_model.specs.declared.looked.Looked.TheVariants.{Absent, Gone, At}

-- names, each with the answer to a look-up of it
abbrev pub KeptEntries : Type 0
KeptEntries = List (List ℕ × Looked)

-- what a name that is there stands for, by that answer
abbrev pub target_of : Looked → Target
target_of Absent = None
target_of Gone = None
target_of (At area) = Some area

abbrev pub seen_entry : List ℕ × Looked → List ℕ × Target
seen_entry entry = (entry.0, target_of entry.1)

-- the entries as contracts see them
abbrev pub seen_entries : KeptEntries → NameEntries
seen_entries kept = map seen_entry kept

-- The entries are those of a book, and a look-up of one of them never finds it absent.
pub record AreKept (kept : KeptEntries) : Type 0 where
  pub names : AreNames (seen_entries kept)
  pub answers : kept ≡ with_answers (seen_entries kept)

-- the name at that place
abbrev pub name_at : KeptEntries → ℕ → List ℕ
name_at kept at = (slice_index_or kept at ([], Absent)).0

-- the name stands at that place, behind smaller ones
pub record StandsAt (kept : KeptEntries) (name : List ℕ) (at : ℕ) : Type 0 where
  pub within : at < length kept
  pub is : name_at kept at ≡ name
  pub smaller : (j : ℕ) → j < at → name_cmp (name_at kept j) name ≡ Less

-- the name is to be put there: those before it are smaller, and those from there on greater
pub record GoesTo (kept : KeptEntries) (name : List ℕ) (at : ℕ) : Type 0 where
  pub within : at ≤ length kept
  pub smaller : (j : ℕ) → j < at → name_cmp (name_at kept j) name ≡ Less
  pub greater : (j : ℕ) → at ≤ j → j < length kept → name_cmp (name_at kept j) name ≡ Greater

-- what becomes of an answer where the areas on one sheet change
abbrev pub answer_on_sheet : ℕ → (Rectangle → Option Rectangle) → Looked → Looked
answer_on_sheet sheet change Absent = Absent
answer_on_sheet sheet change Gone = Gone
answer_on_sheet sheet change (At area) = if area.sheet == sheet then answer_of (change area) else At area

abbrev pub kept_on_sheet : ℕ → (Rectangle → Option Rectangle) → KeptEntries → KeptEntries
kept_on_sheet sheet change kept = map (λ entry. (entry.0, answer_on_sheet sheet change entry.1)) kept
