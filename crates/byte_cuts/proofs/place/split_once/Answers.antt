use Rattle.std.proofs.Common.{◌+◌, ◌==◌, take, drop, sym, ap, ◌∙◌}
use Rattle.std.proofs.lemmas.List.{take_rest}
use Rattle.byte_cuts.proofs.Places.{found_at, not_found}
use Rattle.byte_cuts.proofs.place.split_once.Goals as goal

pub returns-in_err-at : goal.returns-in_err-at
returns-in_err-at c =
    let absent = not_found (λ x. x == c.args.mark) c.args.bytes.now (sym c.in_err-at.ensures) in
    rw c.from_residual.ensures absent

pub returns : goal.returns
returns c =
    let text = c.args.bytes.now in
    let at = c.in_ok-at.at in
    let found = found_at (λ x. x == c.args.mark) text at (sym c.in_ok-at.ensures) in
    (found.has, ap (λ n. take n text) (sym found.first), take_rest text (at + 1) ∙ ap (λ n. drop (n + 1) text) (sym found.first))
