-- What look-ups of a book's names give.
use Rattle.std.specs.Prelude.{ℕ, List, map, Some}
use Rattle.calc_model.specs.declared.looked.Looked.{Looked}
use Rattle.calc_model.specs.Books.{NameEntries, Target, looked_up}

-- the answer to a look-up of a name that stands for that
abbrev pub answer_of : Target → Looked
answer_of target = looked_up (Some target)

-- the names, each with the answer to a look-up of it
abbrev pub with_answers : NameEntries → List (List ℕ × Looked)
with_answers entries = map (λ entry. (entry.0, answer_of entry.1)) entries
