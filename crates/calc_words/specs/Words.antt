-- The words of the command `calc [--workers N] BOOK`, as clap's matches.
use Rattle.std.specs.Prelude.{◌≡◌, ◌⊎◌, ℕ, List, [], ◌∷◌, pos, codes, true, Option, Some, None, option_and_then, option_map}
use Rattle.std.specs.Str.Parse.{digits_value, without_leading_plus}
use Rattle.clap.specs.Words.{App, Kinds, Row, Rule, Shape, fault_of, first_of, matches_of, new_app, new_rule, one_of, with_rule}
use Rattle.clap.specs.Simple.{on_top}
use Rattle.clap.specs.declared.builder.action.ArgAction.TheVariants.{Set}
use Rattle.clap.specs.declared.builder.value_parser.ValueParser.TheVariants as vp

-- an option with a value from 1 to 64, which is 4 where it isn't given
abbrev pub workers_rule : Rule
workers_rule = record (new_rule (codes "workers")) {
  long = Some (codes "workers");
  action = Some Set;
  parser = Some (vp.Signed (pos 1) (pos 64));
  defaults = codes "4" ∷ [];
}

-- a word that must be there
abbrev pub book_rule : Rule
book_rule = record (new_rule (codes "book")) { action = Some Set; required = true }

-- all words are arguments, and there is no help
abbrev pub bare : Shape → Shape
bare shape = record shape { no_binary_name = true; disable_help_flag = true }

unfoldable pub calc_app : App
calc_app = with_rule (with_rule (on_top bare (new_app (codes "calc"))) workers_rule) book_rule

-- what the words say
pub record CommandWords : Type 0 where
  pub workers : ℕ
  pub book : List ℕ

-- the number of workers and the book's name, by what was matched
abbrev pub words_in : List Row → Option CommandWords
words_in rows = option_and_then (λ workers. option_map (λ book. record {
  workers = digits_value 10 (without_leading_plus workers);
  book = book;
}) (first_of (codes "book") rows)) (one_of (codes "workers") rows)

abbrev pub unless_refused : Kinds → Option CommandWords → Option CommandWords
unless_refused [] said = said
unless_refused (fault ∷ faults) said = None

-- what the words say, where clap doesn't refuse them
unfoldable pub words_of : List (List ℕ) → Option CommandWords
words_of words = unless_refused (fault_of calc_app words) (words_in (matches_of calc_app words))

-- the book's name, where the words are of the command
abbrev pub book_name : List (List ℕ) → Option (List ℕ)
book_name words = option_map (λ said. said.book) (words_of words)

-- one of two words is all that they are
abbrev pub IsEither : List ℕ → List ℕ → List (List ℕ) → Type 0
IsEither long short words = (words ≡ long ∷ []) ⊎ (words ≡ short ∷ [])
