-- The loops of operators and of parameters, and that a call's name is a text.
use Rattle.formula_reader.proofs.operands.+reading.Goals as goal
use Rattle.std.proofs.Common.{◌≡◌, ◌-◌, ◌+◌, [], ◌∷◌, ◌++◌, Some, None, sym, ap, ◌∙◌, subst, arith}
use Rattle.std.specs.Prelude.{option_map}
use Rattle.std.proofs.lemmas.Result.{err_from_is_err_and}
use Rattle.formula_reader.specs.Unread.{◌>>=◌, Gives, repeat, token_at, unread_of}
use Rattle.formula_reader.specs.Operators.{operator_taken}
use Rattle.formula_reader.specs.Operands.{arg_behind, args_at, attached, comparison_of, inside_of, more_made, operands_at, operator_behind, operators_behind, prefixed_at, pushed}
use Rattle.formula_reader.proofs.Identifiers.{identifier_IsUtf8}
use Rattle.formula_reader.proofs.Turns.{operands_is, arg_stops, arg_token, operator_fails, operator_found, operator_stops, unsigned}
use Rattle.formula_reader.proofs.Steps.{fails_along, repeat_ends, repeat_fails_along, repeat_goes, repeat_stops}

pub prefixed-returns-in-None : goal.prefixed-returns-in-None
prefixed-returns-in-None t c =
    let start = unread_of c.args.cursor.now in
    subst (Gives c.primary.result c.primary.new.cursor) (sym (unsigned (inside_of c.args.depth) start (sym c.sign_in_front.ensures ∙ ap (option_map (λ found. (found.0, found.1.now))) c.in-None.is))) c.primary.ensures

pub operands-returns-in_err-tree : goal.operands-returns-in_err-tree
operands-returns-in_err-tree t c =
    let p = err_from_is_err_and c.from_residual.result c.from_residual.ensures.1 in
    let nested = inside_of c.args.depth in
    let start = unread_of c.args.cursor.now in
    rw (p.1, p.2)
    (fails_along c.in_err-tree.field-0.0 (prefixed_at nested start) (operands_at nested c.args.level start)
    (λ none. operands_is nested c.args.level start ∙ ap (λ o. o >>= operators_behind (operands_at nested) c.args.level) none) c.in_err-tree.ensures)

pub operands-loop-init : goal.operands-loop-init
operands-loop-init t c =
    let nested = inside_of c.args.depth in
    let start = unread_of c.args.cursor.now in
    let none : c.prefixed.new.cursor.tokens - 0 ≡ c.prefixed.new.cursor.tokens = omega arith in
    ap (λ n. repeat (operator_behind (operands_at nested) c.args.level) n c.in_ok-tree.tree (unread_of c.prefixed.new.cursor)) none
    ∙ sym (operands_is nested c.args.level start ∙ ap (λ o. o >>= operators_behind (operands_at nested) c.args.level) c.in_ok-tree.ensures)

pub operands-returns-in_err-take_operator : goal.operands-returns-in_err-take_operator
operands-returns-in_err-take_operator t c =
    let p = err_from_is_err_and c.from_residual-in_err-take_operator.result c.from_residual-in_err-take_operator.ensures.1 in
    let below = operands_at (inside_of c.args.depth) in
    let u = unread_of c.loop.cursor in
    rw (p.1, p.2)
    (repeat_fails_along (operator_behind below c.args.level) c.in_err-take_operator.field-0.0 (operator_taken c.args.level u) (c.prefixed.new.cursor.tokens - c.loop.counter) c.loop.tree u (below c.args.level (unread_of c.args.cursor.now)) (omega arith)
    (operator_fails below c.args.level c.loop.tree u) c.loop.invariant c.in_err-take_operator.ensures.taken)

pub operands-returns-in-None : goal.operands-returns-in-None
operands-returns-in-None t c =
    let below = operands_at (inside_of c.args.depth) in
    let u = unread_of c.loop.cursor in
    let after = unread_of c.take_operator.new.cursor in
    sym c.loop.invariant
    ∙ repeat_stops (operator_behind below c.args.level) (c.prefixed.new.cursor.tokens - c.loop.counter) c.loop.tree u after (omega arith)
    (operator_stops below c.args.level c.loop.tree u after (c.in_ok-take_operator.ensures.taken ∙ ap (λ found. Some (found, after)) c.in-None.is))

pub operands-returns-in_err-tree-in-Some : goal.operands-returns-in_err-tree-in-Some
operands-returns-in_err-tree-in-Some t c =
    let p = err_from_is_err_and c.from_residual-in_err-tree-in-Some.result c.from_residual-in_err-tree-in-Some.ensures.1 in
    let below = operands_at (inside_of c.args.depth) in
    let u = unread_of c.loop.cursor in
    let after = unread_of c.take_operator.new.cursor in
    rw (p.1, p.2)
    (repeat_fails_along (operator_behind below c.args.level) c.in_err-tree-in-Some.field-0.0 (attached below c.in-Some.operator c.loop.tree after) (c.prefixed.new.cursor.tokens - c.loop.counter) c.loop.tree u (below c.args.level (unread_of c.args.cursor.now)) (omega arith)
    (λ none. operator_found below c.args.level c.loop.tree u c.in-Some.operator after (c.in_ok-take_operator.ensures.taken ∙ ap (λ found. Some (found, after)) c.in-Some.is) ∙ ap (λ o. o >>= more_made below) none) c.loop.invariant c.in_err-tree-in-Some.ensures)

pub operands-loop-preserved : goal.operands-loop-preserved
operands-loop-preserved t c =
    let below = operands_at (inside_of c.args.depth) in
    let step = operator_behind below c.args.level in
    let u = unread_of c.loop.cursor in
    let after = unread_of c.take_operator.new.cursor in
    let last = unread_of c.attach.new.cursor in
    let n = c.prefixed.new.cursor.tokens - c.loop.counter in
    let made = c.in_ok-tree-in-Some.tree in
    let less : c.prefixed.new.cursor.tokens - (c.loop.counter + 1) ≡ n - 1 = omega arith in
    ap (λ k. repeat step k made last) less
    ∙ sym (repeat_goes step n c.loop.tree made u last (omega arith)
    (operator_found below c.args.level c.loop.tree u c.in-Some.operator after (c.in_ok-take_operator.ensures.taken ∙ ap (λ found. Some (found, after)) c.in-Some.is) ∙ ap (λ o. o >>= more_made below) c.in_ok-tree-in-Some.ensures))
    ∙ c.loop.invariant

pub operands-returns : goal.operands-returns
operands-returns t c =
    sym c.loop.invariant
    ∙ repeat_ends (operator_behind (operands_at (inside_of c.args.depth)) c.args.level) (c.prefixed.new.cursor.tokens - c.loop.counter) c.loop.tree (unread_of c.loop.cursor) (omega arith)

pub arguments-returns-then-not-next_is : goal.arguments-returns-then-not-next_is
arguments-returns-then-not-next_is t c =
    let u = unread_of c.loop.cursor in
    let nested = comparison_of c.args.depth in
    sym c.loop.invariant
    ∙ repeat_stops (arg_behind nested) (30 - c.loop.counter) c.loop.args u u (omega arith)
    (arg_stops nested c.loop.args u (sym c.next_is-in-loop.ensures ∙ c.if-not-next_is.true))

pub arguments-returns-in_err-token : goal.arguments-returns-in_err-token
arguments-returns-in_err-token t c =
    let p = err_from_is_err_and c.from_residual-in_err-token.result c.from_residual-in_err-token.ensures.1 in
    let u = unread_of c.loop.cursor in
    let nested = comparison_of c.args.depth in
    rw (p.1, p.2)
    (repeat_fails_along (arg_behind nested) c.in_err-token.field-0.0 (token_at 59 u) (30 - c.loop.counter) c.loop.args u (args_at (inside_of c.args.depth) (unread_of c.args.cursor.now)) (omega arith)
    (arg_token nested c.loop.args u None (sym c.next_is-in-loop.ensures ∙ c.if-not-next_is.false)) c.loop.invariant c.in_err-token.ensures)

pub arguments-returns-in_err-comparison : goal.arguments-returns-in_err-comparison
arguments-returns-in_err-comparison t c =
    let p = err_from_is_err_and c.from_residual-in_err-comparison.result c.from_residual-in_err-comparison.ensures.1 in
    let u = unread_of c.loop.cursor in
    let after = unread_of c.token.new.self in
    let nested = comparison_of c.args.depth in
    rw (p.1, p.2)
    (repeat_fails_along (arg_behind nested) c.in_err-comparison.field-0.0 (nested after) (30 - c.loop.counter) c.loop.args u (args_at (inside_of c.args.depth) (unread_of c.args.cursor.now)) (omega arith)
    (λ none. arg_token nested c.loop.args u (Some after) (sym c.next_is-in-loop.ensures ∙ c.if-not-next_is.false) c.in_ok-token.ensures ∙ ap (λ o. o >>= pushed nested c.loop.args) none) c.loop.invariant c.in_err-comparison.ensures)

pub arguments-loop-preserved : goal.arguments-loop-preserved
arguments-loop-preserved t c =
    let nested = comparison_of c.args.depth in
    let u = unread_of c.loop.cursor in
    let after = unread_of c.token.new.self in
    let last = unread_of c.comparison-in-loop.new.cursor in
    let made = c.loop.args ++ c.in_ok-comparison.field-0 ∷ [] in
    let less : 30 - (c.loop.counter + 1) ≡ 30 - c.loop.counter - 1 = omega arith in
    ap (λ args. repeat (arg_behind nested) (30 - (c.loop.counter + 1)) args last) (c.in_ok-push.ensures.ok ∙ ap (λ x. c.loop.args ++ x ∷ []) c.into_inner.ensures)
    ∙ ap (λ k. repeat (arg_behind nested) k made last) less
    ∙ sym (repeat_goes (arg_behind nested) (30 - c.loop.counter) c.loop.args made u last (omega arith)
    (arg_token nested c.loop.args u (Some after) (sym c.next_is-in-loop.ensures ∙ c.if-not-next_is.false) c.in_ok-token.ensures ∙ ap (λ o. o >>= pushed nested c.loop.args) c.in_ok-comparison.ensures))
    ∙ c.loop.invariant

pub arguments-returns : goal.arguments-returns
arguments-returns t c =
    sym c.loop.invariant
    ∙ repeat_ends (arg_behind (comparison_of c.args.depth)) (30 - c.loop.counter) c.loop.args (unread_of c.loop.cursor) (omega arith)

pub word-capitals-requires : goal.word-capitals-requires
word-capitals-requires t c =
    identifier_IsUtf8 c.split_word.result.0.now (sym c.is_identifier.ensures ∙ c.if-not-is_identifier.false)
