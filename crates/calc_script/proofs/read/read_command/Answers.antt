-- What follows the word is cut from the text at a space, and the verb is that of the word's row.
use Rattle.std.proofs.Common.{ap, sym, subst, ◌∙◌}
use Rattle.std.specs.Str.{IsUtf8}
use Rattle.std.proofs.lemmas.Result.{IfOk-weaker}
use Rattle.calc_script.specs.Commands.{command_of}
use Rattle.calc_script.proofs.VerbTable.{line_found, line_missing}
use Rattle.calc_script.proofs.TextCuts.{behind_space_text}
use Rattle.calc_script.proofs.read.read_command.Goals as goal

pub read_verb-requires : goal.read_verb-requires
read_verb-requires c = subst IsUtf8 (sym c.cut_word.ensures.rest) (behind_space_text c.args.text.now c.requires)

pub returns-in-Some : goal.returns-in-Some
returns-in-Some c =
    λ field means.
    let found = line_found field c.cut_word.result.0.now c.cut_word.result.1.now c.in-Some.verb (sym c.in-Some.ensures) in
    let cut = ap (λ word. command_of field word c.cut_word.result.1.now) c.cut_word.ensures.word ∙ ap (command_of field _) c.cut_word.ensures.rest in
    IfOk-weaker c.read_verb.result _ _ (λ line is. is ∙ found ∙ cut) (c.read_verb.ensures field means)

pub returns-in-None : goal.returns-in-None
returns-in-None c =
    λ field means.
    line_missing field c.cut_word.result.0.now c.cut_word.result.1.now (sym c.in-None.ensures)
    ∙ ap (λ word. command_of field word c.cut_word.result.1.now) c.cut_word.ensures.word ∙ ap (command_of field _) c.cut_word.ensures.rest
