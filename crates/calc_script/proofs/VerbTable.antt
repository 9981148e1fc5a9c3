-- The table of the code is that of the meaning.
use Rattle.std.proofs.Common.{◌≡◌, ℕ, true, false, cond, List, [], ◌∷◌, map, Some, None, refl, sym, ap, ◌∙◌}
use Rattle.std.specs.Prelude.{option_map}
use Rattle.std.specs.List.{find}
use Rattle.std.specs.Option.{option_map_or}
use Rattle.std.specs.Str.{bytes_eq}
use Rattle.calc_model.specs.declared.content.Content.{Content}
use Rattle.calc_script.specs.declared.command.Line.TheVariants.{Refused}
use Rattle.calc_script.specs.declared.command.Cause.TheVariants.{BadCommand}
use Rattle.calc_script.specs.declared.verbs.Verb.{Verb}
use Rattle.calc_script.specs.declared.verbs.TheConstants.{VERBS}
use Rattle.calc_script.specs.Commands.{command_of, verbs, named_line}
use Rattle.calc_script.specs.Verbs.{verb_line, verb_named}

-- the rows of the code
abbrev rows : List (List ℕ × Verb)
rows = map (λ row. (row.0.now, row.1)) VERBS

module _ (field : List ℕ → Content) (word rest : List ℕ) where
  -- a line by the row of its word
  by_row : (rows : List (List ℕ × Verb)) → named_line (map (λ row. (row.0, verb_line field row.1)) rows) word rest ≡ option_map_or (λ verb. verb_line field verb rest) (verb_named rows word) (Refused BadCommand)
  by_row [] = refl
  by_row (row ∷ rows) =
      elim (bytes_eq word row.0) as (λ b. cond b (verb_line field row.1 rest) (named_line (map (λ row. (row.0, verb_line field row.1)) rows) word rest) ≡ option_map_or (λ verb. verb_line field verb rest) (option_map (λ row. row.1) (cond b (Some row) (find (λ row. bytes_eq word row.0) rows))) (Refused BadCommand)) [
        | true ↦ refl
        | false ↦ by_row rows
      ]

  same_rows : map (λ row. (row.0, verb_line field row.1)) rows ≡ verbs field
  same_rows = refl

  by_verb : command_of field word rest ≡ option_map_or (λ verb. verb_line field verb rest) (verb_named rows word) (Refused BadCommand)
  unfolding command_of
  by_verb = ap (λ rows. named_line rows word rest) (sym same_rows) ∙ by_row rows

  pub line_found : (verb : Verb) → verb_named rows word ≡ Some verb → verb_line field verb rest ≡ command_of field word rest
  line_found verb is = sym (by_verb ∙ ap (λ o. option_map_or (λ verb. verb_line field verb rest) o (Refused BadCommand)) is)

  pub line_missing : verb_named rows word ≡ None → Refused BadCommand ≡ command_of field word rest
  line_missing is = sym (by_verb ∙ ap (λ o. option_map_or (λ verb. verb_line field verb rest) o (Refused BadCommand)) is)
