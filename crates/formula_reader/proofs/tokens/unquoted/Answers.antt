use Rattle.formula_reader.proofs.tokens.unquoted.Goals as goal
use Rattle.std.proofs.Common.{◌≤◌, ◌+◌, ◌++◌, ◌∷◌, [], Some, false, length, ap, sym, ◌∙◌, arith}
use Rattle.std.specs.List.{position_or_len}
use Rattle.std.proofs.lemmas.List.{append-nil, length-drop}
use Rattle.formula_reader.specs.Leaves.{unquoted}
use Rattle.formula_reader.proofs.Unquoting.{is_quote, prepended, prepended_none, prepended_push, quote_ends, quoteless, run_read, second_quote}

pub loop-run-init : goal.loop-run-init
loop-run-init c = ap (λ text. prepended text (unquoted false c.args.bytes.now)) c.new-text.ensures.items ∙ prepended_none (unquoted false c.args.bytes.now)

pub loop-run-smaller : goal.loop-run-smaller
loop-run-smaller c =
    let left = c.loop-run.left.now in
    let rest = c.in-Some.rest.now in
    let less = (second_quote rest c.in-Some-behind_quote.more.now (sym c.in-Some-behind_quote.ensures)).1 in
    let shorter : length rest ≤ length left = omega (arith, ap length c.in-Some.ensures.2, length-drop (position_or_len is_quote left + 1) left) in
    omega arith

pub loop-run-preserved : goal.loop-run-preserved
loop-run-preserved c =
    let text = c.loop-run.text.items in
    let more = c.in-Some-behind_quote.more.now in
    let rest = c.in-Some.rest.now in
    let parts = c.in-Some.ensures in
    ap (λ t. prepended t (unquoted false more)) (c.in_ok-push-in-Some-behind_quote.ensures.items ∙ ap (λ t. t ++ 34 ∷ []) c.in_ok-extend_from_slice.ensures.items)
    ∙ prepended_push (text ++ c.in-Some.run'.now) 34 (unquoted false more)
    ∙ ap (prepended (text ++ c.in-Some.run'.now)) (sym (second_quote rest more (sym c.in-Some-behind_quote.ensures)).0)
    ∙ sym (run_read text c.in-Some.run'.now c.loop-run.left.now rest parts.0 parts.1 parts.2)
    ∙ c.loop-run.invariant

pub returns-in-None : goal.returns-in-None
returns-in-None c =
    let text = c.loop-run.text.items in
    let run = c.in-Some.run'.now in
    let rest = c.in-Some.rest.now in
    let parts = c.in-Some.ensures in
    sym c.loop-run.invariant
    ∙ run_read text run c.loop-run.left.now rest parts.0 parts.1 parts.2
    ∙ ap (prepended (text ++ run)) (quote_ends rest (sym c.in-None.ensures))
    ∙ ap (λ t. Some (t, rest)) (append-nil (text ++ run) ∙ sym c.in_ok-extend_from_slice.ensures.items)

pub returns : goal.returns
returns c = sym c.loop-run.invariant ∙ ap (prepended c.loop-run.text.items) (quoteless c.loop-run.left.now c.in_default.ensures)
