-- Names that stand for what they did, but for one.
use Rattle.std.specs.Prelude.{◌≡◌, ℕ, false, List}
use Rattle.calc_model.specs.Books.{NameEntries, entry_named}
use Rattle.calc_model.specs.UsedNames.{is_same_name}

abbrev pub AgreeElsewhere : List ℕ → NameEntries → NameEntries → Type 0
AgreeElsewhere name before after = (other : List ℕ) → is_same_name name other ≡ false → entry_named after other ≡ entry_named before other
