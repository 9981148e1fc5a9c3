use Rattle.std.proofs.Common.{pos, ◌+ℤ◌, FitsSigned, ap, sym, ◌∙◌, rules}
use lib.Signed.{lt_z}
use Rattle.std.specs.Int.{w128}
use Rattle.std.proofs.lemmas.Int.{to_z-of_z}
use Rattle.calc_num.proofs.ReadNumbers.Sizes.{size_of-lengthened, size_of-shortened}
use Rattle.calc_num.proofs.parse.joined_size.Goals as goal

pub returns-then-zeros-lt0 : goal.returns-then-zeros-lt0
returns-then-zeros-lt0 c =
    let fraction = c.args.fraction.bytes.now in
    let zeros = c.in_ok-zeros.zeros in
    let fits : FitsSigned w128 zeros = search rules in
    let same = to_z-of_z w128 zeros fits in
    let sum = c.in_ok-zeros.ensures.0 ∙ ap (λ e. pos 9 +ℤ e) (to_z-of_z w128 c.args.exponent c.ranges.exponent) in
    rw (c.shortened.ensures, c.in_ok-number.ensures.1, c.unsigned_abs-places.ensures.value, same) (size_of-shortened c.args.whole.bytes.now fraction c.args.exponent zeros (ap (λ z. lt_z z (pos 0)) (sym same) ∙ c.if-zeros-lt0.true) sum)

pub returns-else-zeros-lt0 : goal.returns-else-zeros-lt0
returns-else-zeros-lt0 c =
    let fraction = c.args.fraction.bytes.now in
    let zeros = c.in_ok-zeros.zeros in
    let fits : FitsSigned w128 zeros = search rules in
    let same = to_z-of_z w128 zeros fits in
    let sum = c.in_ok-zeros.ensures.0 ∙ ap (λ e. pos 9 +ℤ e) (to_z-of_z w128 c.args.exponent c.ranges.exponent) in
    rw (c.lengthened.ensures, c.in_ok-number.ensures.1, c.unsigned_abs-places.ensures.value, same) (size_of-lengthened c.args.whole.bytes.now fraction c.args.exponent zeros (ap (λ z. lt_z z (pos 0)) (sym same) ∙ c.if-zeros-lt0.false) sum)
