-- What the code's command and its matches hold.
use Rattle.std.specs.Prelude.{◌≡◌, ◌≤◌, ◌<◌, ℕ, List, [], ◌∷◌, length, pos, codes, true, false, is_some, Some, None}
use Rattle.clap.specs.Words.{IsPlain, args_of, first_value, found_of, items_of, one_text, without_minus, IsSignedIn}
use Rattle.clap.specs.Facts.{least_values}
use Rattle.clap.specs.declared.builder.action.ArgAction.TheVariants.{Set}
use Rattle.clap.specs.declared.builder.arg.Arg.{Arg}
use Rattle.clap.specs.declared.builder.command.Command.{Command}
use Rattle.clap.specs.declared.builder.command.Command.TheViews.{out-Command}
use Rattle.clap.specs.declared.builder.value_parser.ValueParser.TheVariants as vp
use Rattle.clap.specs.declared.parser.matches.ArgMatches.{ArgMatches}

-- an argument of this name, each use of which has a value
pub record TakesOne (name : List ℕ) (arg : Arg) : Type 0 where
  pub id : arg.id.now ≡ name
  pub action : arg.action ≡ Some Set
  pub whole : arg.val_delim ≡ None
  pub least : 1 ≤ least_values arg

pub record IsWorkers (arg : Arg) : Type 0 where
  pub takes : TakesOne (codes "workers") arg
  pub parser : arg.value_parser ≡ Some (vp.Signed (pos 1) (pos 64))
  pub always : arg.default_vals_ifs.items ≡ []
  pub default : 0 < length (items_of arg.default_vals)

pub record IsBook (arg : Arg) : Type 0 where
  pub takes : TakesOne (codes "book") arg
  pub required : arg.required ≡ true

-- The command has these two arguments, and nothing in it excludes anything.
pub record HasArgs (command : Command) : Type 0 where
  pub workers : Arg
  pub book : Arg
  pub all : args_of command ≡ workers ∷ book ∷ []
  pub is_workers : IsWorkers workers
  pub is_book : IsBook book
  pub plain : IsPlain command
  pub globals : (out-Command command).has_globals ≡ false
  pub negates : (out-Command command).subcommand_negates_reqs ≡ false

-- The matches have a number of workers in its range, and a book.
pub record HasValues (m : ArgMatches) : Type 0 where
  pub text : List ℕ
  pub workers : one_text (found_of m) (codes "workers") ≡ Some (without_minus text)
  pub within : IsSignedIn (pos 1) (pos 64) text
  pub book : is_some (first_value (found_of m) (codes "book")) ≡ true
