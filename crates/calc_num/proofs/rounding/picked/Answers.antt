use Rattle.std.proofs.Common.{◌≡◌, ◌+◌, ◌*◌, ap, sym, ◌∙◌, arith}
use Rattle.std.proofs.lemmas.Bool.{cond-true, cond-false}
use Rattle.std.proofs.lemmas.Nat.{div-add-mod'}
use Rattle.calc_num.specs.Decimals.{with_sign, pick}
use Rattle.calc_num.proofs.rounding.picked.Goals as goal

pub returns-then-is_one_more-clause-value : goal.returns-then-is_one_more-clause-value
returns-then-is_one_more-clause-value c =
    let count = c.divide-count.result.0 in
    let parts : count * c.args.unit + c.divide-count.result.1 ≡ c.args.size =
    rw (c.divide-count.ensures.quotient, c.divide-count.ensures.rest) (div-add-mod' c.args.size c.args.unit) in
    ap (with_sign c.args.negative) (sym (cond-true c.is_one_more.result (count + 1) count c.if-is_one_more.true)) ∙ c.is_one_more.ensures count ∙ ap (λ size. pick c.args.way (with_sign c.args.negative size) c.args.unit) parts

pub returns-then-is_one_more-clause-near : goal.returns-then-is_one_more-clause-near
returns-then-is_one_more-clause-near c =
    rw c.divide-count.ensures.quotient (omega (arith, div-add-mod' c.args.size c.args.unit))

pub returns-else-is_one_more-clause-value : goal.returns-else-is_one_more-clause-value
returns-else-is_one_more-clause-value c =
    let count = c.divide-count.result.0 in
    let parts : count * c.args.unit + c.divide-count.result.1 ≡ c.args.size =
    rw (c.divide-count.ensures.quotient, c.divide-count.ensures.rest) (div-add-mod' c.args.size c.args.unit) in
    ap (with_sign c.args.negative) (sym (cond-false c.is_one_more.result (count + 1) count c.if-is_one_more.false)) ∙ c.is_one_more.ensures count ∙ ap (λ size. pick c.args.way (with_sign c.args.negative size) c.args.unit) parts
