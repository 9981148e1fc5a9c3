use Rattle.std.proofs.Common.{◌≡◌, ◌+◌, ◌∷◌, ◌++◌, ap, sym, ◌∙◌, get_or, drop}
use Rattle.std.specs.Char.{is_ascii_digit}
use Rattle.std.specs.List.{list_all}
use Rattle.std.proofs.lemmas.List.{drop_more}
use Rattle.calc_num.specs.Scaling.{worth}
use Rattle.calc_num.proofs.ReadNumbers.Scale.{all_left}
use Rattle.calc_num.proofs.parse.Partial.push_all.Goals as goal

pub loop-digit-preserved : goal.loop-digit-preserved
loop-digit-preserved c = λ more all.
    let digits = c.args.digits.now in
    let at = c.loop-digit.digit-index in
    let here = c.loop-digit.partial in
    let left : drop at digits ++ more ≡ get_or digits at 0 ∷ (drop (at + 1) digits ++ more) =
    ap (λ ds. ds ++ more) (drop_more digits at 0 c.loop-digit-test.true) in
    let passes = all_left is_ascii_digit at digits more all in
    c.push-partial.ensures (drop (at + 1) digits ++ more) (ap (list_all is_ascii_digit) (sym left) ∙ passes) ∙ ap (worth here.size here.places) (sym left) ∙ c.loop-digit.invariant more all
