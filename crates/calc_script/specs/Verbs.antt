-- The table of the code: which word begins which lines.
use Rattle.std.specs.Prelude.{ℕ, List, Option, option_map}
use Rattle.std.specs.List.{find}
use Rattle.std.specs.Str.{bytes_eq}
use Rattle.calc_model.specs.declared.content.Content.{Content}
use Rattle.calc_script.specs.declared.command.Line.{Line}
use Rattle.calc_script.specs.declared.verbs.Verb.{Verb}
use Rattle.calc_script.specs.declared.verbs.Verb.TheVariants.{Set, Clear, Copy, Fill, Insert, Delete, Name, Unname, Make, Calc, Print, Formulas, Groups, Blocks, Watch, Told, Unwatch}
use Rattle.calc_script.specs.Commands.{blocks_of, calc_of, clear_of, copy_of, delete_of, fill_of, formulas_of, groups_of, insert_of, make_of, name_of, print_of, set_of, told_of, unname_of, unwatch_of, watch_of}

-- what the lines do that begin with the word by these rows, if there are any
abbrev pub verb_named : List (List ℕ × Verb) → List ℕ → Option Verb
verb_named rows word = option_map (λ row. row.1) (find (λ row. bytes_eq word row.0) rows)

-- what a line with that verb does, with what follows the space behind its word
abbrev pub verb_line : (List ℕ → Content) → Verb → List ℕ → Line
verb_line field Set = set_of field
verb_line field Clear = clear_of
verb_line field Copy = copy_of
verb_line field Fill = fill_of
verb_line field Insert = insert_of
verb_line field Delete = delete_of
verb_line field Name = name_of
verb_line field Unname = unname_of
verb_line field Make = make_of
verb_line field Calc = calc_of
verb_line field Print = print_of
verb_line field Formulas = formulas_of
verb_line field Groups = groups_of
verb_line field Blocks = blocks_of
verb_line field Watch = watch_of
verb_line field Told = told_of
verb_line field Unwatch = unwatch_of
