use Rattle.std.proofs.Common.{◌≡◌, ◌∙◌, ap, arith, map, reverse, subst}
use Rattle.calc_model.specs.Arguments.{meaning_of as meaning_of_arg}
use Rattle.cell_interpreter.proofs.Passing.{Passed, all_passed, one_passed, reversed_in_place}
use Rattle.cell_interpreter.proofs.stack.Stack.parameters.Goals as goal

pub loop-preserved : goal.loop-preserved
loop-preserved g c =
    rw c.in_ok-push-in-Some.ensures.ok (one_passed c.args.self.now.operands.items c.loop.self.operands.items c.pop.new.self.items c.loop.args.items c.loop.counter c.in-Some.operand c.in_ok-into_arg-in-Some.field-0 c.loop.invariant c.in-Some.ensures.items c.in_ok-into_arg-in-Some.ensures)

pub returns : goal.returns
returns g c =
    let old = c.args.self.now.operands.items in
    let now = c.loop.self.operands.items in
    let all_of : c.loop.counter ≡ c.args.count = omega (arith, c.loop-test.false, c.loop.auto.counter-end) in
    let passed = all_passed old now c.loop.args.items c.args.count (subst (λ n. Passed old now c.loop.args.items n) all_of c.loop.invariant) in
    (passed.0, λ home values. ap (map (meaning_of_arg home values)) (reversed_in_place c.loop.args.items c.reverse.new.self (c.reverse.ensures.after ∙ ap reverse c.as_mut_slice.ensures.value)) ∙ passed.1 home values)
