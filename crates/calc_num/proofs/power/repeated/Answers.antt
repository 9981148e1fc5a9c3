use Rattle.std.proofs.Common.{◌≡◌, Ok, ◌∙◌, ap, sym, rules, arith}
use Rattle.std.proofs.lemmas.Bool.Decides.{Decides-int_eq}
use Rattle.std.proofs.lemmas.Result.{err_from_is_err_and}
use Rattle.calc_num.specs.Decimals.{repeated_product}
use Rattle.calc_num.proofs.Arithmetic.Powers.{repeated_product-more, repeated_product-fails, repeated_product-settles}
use Rattle.calc_num.proofs.power.repeated.Goals as goal

pub loop-step-init : goal.loop-step-init
unfolding repeated_product
loop-step-init c = search rules

pub returns-in_err-next : goal.returns-in_err-next
returns-in_err-next c =
    let p = err_from_is_err_and c.from_residual.result c.from_residual.ensures.1 in
    rw (p.1, p.2) (sym (repeated_product-fails c.args.base c.loop-step.product c.in_err-next.field-0.0 c.loop-step._step c.args.count c.loop-step.invariant (sym c.mul.ensures ∙ c.in_err-next.was) (omega arith)))

pub returns-then-eq : goal.returns-then-eq
returns-then-eq c =
    let same : c.in_ok-next.next ≡ c.loop-step.product =
    (Decides-int_eq c.in_ok-next.next c.loop-step.product).0 (sym c.eq.ensures ∙ c.if-eq.true) in
    sym (repeated_product-settles c.args.base c.loop-step.product c.loop-step._step c.args.count c.loop-step.invariant (sym c.mul.ensures ∙ c.in_ok-next.was ∙ ap Ok same) (omega arith))

pub loop-step-preserved : goal.loop-step-preserved
loop-step-preserved c =
    repeated_product-more c.args.base c.loop-step.product _ c.loop-step._step c.loop-step.invariant (sym c.mul.ensures ∙ c.in_ok-next.was)
