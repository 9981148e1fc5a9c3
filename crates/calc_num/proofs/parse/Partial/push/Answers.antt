use Rattle.std.proofs.Common.{◌≡◌, ◌+◌, ◌-◌, ◌*◌, ◌^◌, ◌∷◌, min, suc, Some, ap, sym, ◌∙◌, arith}
use Rattle.calc_num.specs.Scaling.{worth}
use Rattle.calc_num.proofs.ReadNumbers.Scale.{push_digit, push_last_down, push_last_up}
use Rattle.calc_num.proofs.parse.Partial.push.Goals as goal
use Rattle.calc_num.proofs.parse.Partial.push.Goals.{then-digit-lt53, else-digit-lt53}

pub returns-then-places-gt0 : goal.returns-then-places-gt0
returns-then-places-gt0 c = λ more all.
    let size = c.args.self.size in
    let before = c.in-Some.places - 1 in
    let grown : c.min.result ≡ min (10 * size + (c.args.digit - 48)) (10 ^ 27) =
    c.min.ensures ∙ ap (λ n. min (10 * size + n) (10 ^ 27)) (c.from.ensures ∙ c.digit_number.ensures) in
    let next : suc before ≡ c.in-Some.places = omega arith in
    ap (λ s. worth s (Some before) more) grown ∙ push_digit size before c.args.digit more ∙ ap (λ o. worth size o (c.args.digit ∷ more)) (ap Some next ∙ sym c.in-Some.is)

pub returns : goal.returns
returns c = λ more all.
    let size = c.args.self.size in
    let left : Some 0 ≡ c.args.self.places = ap Some (omega arith) ∙ sym c.in-Some.is in
    let behind = ap (λ o. worth size o (c.args.digit ∷ more)) left in
    let once : min c.min-2.result (10 ^ 27) ≡ min c.if-digit-lt53.size (10 ^ 27) = omega arith in
    elim c.if-digit-lt53.branch [
      | then-digit-lt53 w ↦ once ∙ ap (λ n. min n (10 ^ 27)) w.size-is ∙ push_last_down size c.args.digit more all w.if-digit-lt53.true ∙ behind
      | else-digit-lt53 w ↦ once ∙ ap (λ n. min n (10 ^ 27)) w.size-is ∙ push_last_up size c.args.digit more all w.if-digit-lt53.false ∙ behind
    ]
