-- Without its spaces in front a text has no byte and no word, or begins with its first word.
use Rattle.std.proofs.Common.{◌≡◌, ◌≢◌, ◌==◌, List, ℕ, true, false, length, [], ◌∷◌, ◌∙◌, ap, sym, subst}
use Rattle.std.specs.Str.{IsUtf8}
use Rattle.std.proofs.lemmas.Bool.{eqb-true, eqb-false}
use Rattle.std.proofs.lemmas.List.{nil_from_length}
use Rattle.calc_script.proofs.Splitting.{no_word, next_word}
use Rattle.calc_script.specs.Words.{up_to_space, behind_space, without_spaces, words_of}
use Rattle.calc_script.proofs.TextCuts.{up_to_space_text, without_spaces_text}
use Rattle.calc_script.proofs.words.first_word.Goals as goal

pub returns-then-is_empty-clause-words : goal.returns-then-is_empty-clause-words
returns-then-is_empty-clause-words c =
    let front : List ℕ = c.without_spaces-text.result.now in
    let none : (length front == 0) ≡ true = sym c.is_empty.ensures ∙ c.if-is_empty.true in
    no_word c.args.text.now (sym c.without_spaces-text.ensures ∙ nil_from_length front (eqb-true (length front) 0 none))

pub returns-clause-words : goal.returns-clause-words
returns-clause-words c =
    let front : List ℕ = c.without_spaces-text.result.now in
    let some : (length front == 0) ≡ false = sym c.is_empty.ensures ∙ c.if-is_empty.false in
    let left : without_spaces c.args.text.now ≢ [] = λ e. eqb-false (length front) 0 some (ap length (c.without_spaces-text.ensures ∙ e)) in
    let words : up_to_space (without_spaces c.args.text.now) ∷ words_of (behind_space (without_spaces c.args.text.now)) ≡ c.cut_word.result.0.now ∷ words_of c.cut_word.result.1.now =
    rw (c.cut_word.ensures.word, c.cut_word.ensures.rest, c.without_spaces-text.ensures)
    in next_word c.args.text.now left ∙ words

pub returns-clause-text : goal.returns-clause-text
returns-clause-text c =
    λ text.
    let front : IsUtf8 c.without_spaces-text.result.now = subst IsUtf8 (sym c.without_spaces-text.ensures) (without_spaces_text c.args.text.now text) in
    subst IsUtf8 (sym c.cut_word.ensures.word) (up_to_space_text c.without_spaces-text.result.now front)
