use Rattle.calc_model.specs.declared.tree.Tree.TheVariants as t
use Rattle.formula_reader.proofs.tokens.string.Goals as goal
use Rattle.std.proofs.Common.{◌≡◌, Vec, Global, Some, true, false, ℕ, sym, ap, ◌∙◌}
use Rattle.std.specs.Prelude.{option_map}
use Rattle.std.specs.Str.{is_utf8}
use Rattle.std.specs.String.{string_bytes}
use Rattle.std.proofs.lemmas.Bool.{cond-false, cond-true, false_from_ne_true}
use Rattle.std.proofs.lemmas.Str.{IsUtf8-from_is_utf8, IsUtf8-string_bytes, is_utf8-from_IsUtf8}
use Rattle.formula_reader.specs.Leaves.{taken, words_of}
use Rattle.formula_reader.specs.Unread.{◌>>=◌, Unread, unread_of}

pub returns-in-Ok : goal.returns-in-Ok
returns-in-Ok c =
    let n = c.args.cursor.now.tokens in
    let text = c.in_ok-text.text.items in
    let read = c.in-Ok.text in
    let same : string_bytes read ≡ text = ap (λ (v : Vec ℕ Global). v.items) c.in-Ok.ensures.ok in
    let utf8 : is_utf8 text ≡ true = ap is_utf8 (sym same) ∙ is_utf8-from_IsUtf8 (string_bytes read) (IsUtf8-string_bytes read) in
    ap (λ o. o >>= words_of >>= taken n) c.in_ok-text.ensures
    ∙ ap (λ o. o >>= taken n) (cond-true (is_utf8 text) _ _ utf8)
    ∙ ap (option_map (λ (unread : Unread). (t.Words text, unread))) c.in_ok-past.ensures
    ∙ ap (λ words. Some (t.Words words, unread_of c.past.new.self)) (sym same ∙ sym c.of.ensures)
    ∙ ap (λ tree. Some (tree, unread_of c.past.new.self)) (sym c.in_ok-new-in-Ok.ensures)

pub returns : goal.returns
returns c =
    let n = c.args.cursor.now.tokens in
    let text = c.in_ok-text.text.items in
    let other : is_utf8 text ≡ false = false_from_ne_true _ (λ valid. let impossible = c.in-Err.ensures.succeeds (IsUtf8-from_is_utf8 text valid) in cc) in
    ap (λ o. o >>= words_of >>= taken n) c.in_ok-text.ensures ∙ ap (λ o. o >>= taken n) (cond-false (is_utf8 text) _ _ other)
