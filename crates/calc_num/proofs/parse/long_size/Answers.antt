use Rattle.std.proofs.Common.{◌≡◌, ◌+◌, ◌++◌, [], length, pos, ◌+ℤ◌, ◌<ℤ◌, ap, sym, subst, true, ◌∙◌}
use Rattle.std.proofs.lemmas.Bool.{and_parts}
use Rattle.std.proofs.lemmas.Int.{to_z-of_z}
use Rattle.std.proofs.lemmas.List.{append-nil}
use Rattle.std.proofs.lemmas.List.Folds.{list_all-append}
use Rattle.std.specs.Char.{is_ascii_digit}
use Rattle.std.specs.Int.{w128}
use Rattle.std.specs.List.{list_all}
use Rattle.calc_num.proofs.ReadNumbers.Sizes.{worth-size_of, size_of-none}
use Rattle.calc_num.proofs.parse.long_size.Goals as goal

pub returns-in-None : goal.returns-in-None
returns-in-None c =
    let same = to_z-of_z w128 c.args.exponent c.ranges.exponent in
    let below = subst (λ e. (pos (length c.args.whole.now + 9) +ℤ e) <ℤ pos 0) same c.in-None.ensures in
    sym (size_of-none c.args.whole.now c.args.fraction.now c.args.exponent c.requires.digits below)

pub returns-in-Some : goal.returns-in-Some
returns-in-Some c =
    let whole = c.args.whole.now in
    let fraction = c.args.fraction.now in
    let all = c.requires.digits in
    let places = c.in-Some.places in
    let same = to_z-of_z w128 c.args.exponent c.ranges.exponent in
    let count : pos (length whole + 9) +ℤ c.args.exponent ≡ pos places =
    ap (λ e. pos (length whole + 9) +ℤ e) (sym same) ∙ sym c.in-Some.ensures in
    let behind : list_all is_ascii_digit fraction ≡ true =
    (and_parts (list_all is_ascii_digit whole) (list_all is_ascii_digit fraction) (sym (list_all-append is_ascii_digit whole fraction) ∙ all)).1 in
    let end : fraction ++ [] ≡ fraction = append-nil fraction in
    c.finish.ensures ∙ c.push_all-in-Some.ensures [] (rw end behind) ∙ c.push_all.ensures (fraction ++ []) (rw end all) ∙ rw end (worth-size_of whole fraction c.args.exponent places count)
