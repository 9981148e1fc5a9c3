use Rattle.formula_reader.proofs.signs.take_signs.Goals as goal
use Rattle.std.proofs.Common.{◌≡◌, Some, None, ap, ◌∙◌}
use Rattle.std.proofs.lemmas.Result.{err_from_is_err_and}
use Rattle.formula_reader.specs.Operands.{prefixed_at}
use Rattle.formula_reader.specs.Signs.{sign_taken, signs_read}
use Rattle.formula_reader.specs.Unread.{◌>>=◌, unread_of}
use Rattle.formula_reader.proofs.Turns.{no_some, sign_tokens, signs_end, signs_fail, signs_go}
use Rattle.formula_reader.proofs.Steps.{fails_along}

pub returns-in_err-sign : goal.returns-in_err-sign
returns-in_err-sign c =
    let p = err_from_is_err_and c.from_residual.result c.from_residual.ensures.1 in
    let u = unread_of c.loop-signs.cursor in
    let start = unread_of c.args.cursor.now in
    rw (p.1, p.2) (λ nested. fails_along c.in_err-sign.field-0.0 (sign_taken u) (prefixed_at nested start) (λ none. signs_fail nested c.loop-signs.signs.items u start none (c.loop-signs.invariant nested)) c.in_err-sign.ensures)

pub loop-signs-smaller : goal.loop-signs-smaller
loop-signs-smaller c =
    sign_tokens (unread_of c.loop-signs.cursor) (unread_of c.take_sign.new.cursor) c.in-Some.sign (c.in_ok-sign.ensures ∙ ap (λ found. Some (found, unread_of c.take_sign.new.cursor)) c.in-Some.is)

pub loop-signs-preserved : goal.loop-signs-preserved
loop-signs-preserved c =
    let u = unread_of c.loop-signs.cursor in
    let after = unread_of c.take_sign.new.cursor in
    let before = c.loop-signs.signs.items in
    λ nested.
    ap (λ signs. prefixed_at nested after >>= signs_read signs) c.in_ok-push.ensures.items
    ∙ signs_go nested before u (unread_of c.args.cursor.now) c.in-Some.sign after (c.in_ok-sign.ensures ∙ ap (λ found. Some (found, after)) c.in-Some.is) (c.loop-signs.invariant nested)

pub returns : goal.returns
returns c =
    let u = unread_of c.loop-signs.cursor in
    let after = unread_of c.take_sign.new.cursor in
    λ nested.
    let none : sign_taken u ≡ Some (None, after) = c.in_ok-sign.ensures ∙ ap (λ found. Some (found, after)) (no_some c.in_ok-sign.field-0 c.in_default.not-Some) in
    signs_end nested c.loop-signs.signs.items u (unread_of c.args.cursor.now) after none (c.loop-signs.invariant nested)
