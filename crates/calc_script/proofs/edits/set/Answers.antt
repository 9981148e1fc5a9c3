-- The field is cut from the text at a space.
use Rattle.std.proofs.Common.{sym, subst}
use Rattle.std.specs.Str.{IsUtf8}
use Rattle.calc_script.specs.Commands.{set_of}
use Rattle.calc_script.proofs.TextCuts.{behind_space_text, without_spaces_text}
use Rattle.calc_script.proofs.edits.set.Goals as goal

pub set_cell-requires : goal.set_cell-requires
set_cell-requires c =
    let text : IsUtf8 c.without_spaces.result.now = subst IsUtf8 (sym c.without_spaces.ensures) (without_spaces_text c.args.rest.now c.requires) in
    subst IsUtf8 (sym c.cut_word.ensures.rest) (behind_space_text c.without_spaces.result.now text)

pub returns : goal.returns
unfolding set_of
returns c =
    λ field means.
    rw (c.cut_word.ensures.word, c.cut_word.ensures.rest, c.without_spaces.ensures) at (c.set_cell.ensures field means)
