use Rattle.std.proofs.Common.{◌≡◌, ◌+◌, ◌*◌, ◌^◌, ◌<◌, min, ap, sym, ◌∙◌}
use Rattle.std.proofs.lemmas.Nat.{div-add-mod', mod_below}
use Rattle.calc_num.specs.Decimals.{rounded}
use Rattle.calc_num.proofs.ReadNumbers.Scale.{rounded-below_half, rounded-from_half}
use Rattle.calc_num.proofs.parse.shortened.Goals as goal
use Rattle.calc_num.proofs.parse.shortened.Goals.{then-rest-unit, else-rest-unit}

pub returns : goal.returns
returns c =
    let number = c.args.number in
    let unit = c.power_of_ten-unit.result in
    let count = c.divide-count.result.0 in
    let rest = c.divide-count.result.1 in
    let parts : count * unit + rest ≡ number = rw (c.divide-count.ensures.quotient, c.divide-count.ensures.rest) (div-add-mod' number unit) in
    let small : rest < unit = rw c.divide-count.ensures.rest (mod_below number unit c.power_of_ten-unit.ensures.bounds.0) in
    let size : c.if-rest-unit.size ≡ rounded (count * unit + rest) unit =
    elim c.if-rest-unit.branch [
      | then-rest-unit w ↦ w.size-is ∙ sym (rounded-below_half count rest unit w.if-rest-unit.true)
      | else-rest-unit w ↦ w.size-is ∙ sym (rounded-from_half count rest unit small w.if-rest-unit.false)
    ] in
    c.min.ensures ∙ ap (λ n. min n (10 ^ 27)) (size ∙ ap (λ n. rounded n unit) parts ∙ ap (rounded number) c.power_of_ten-unit.ensures.value)
