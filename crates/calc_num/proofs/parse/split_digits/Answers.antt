use Rattle.std.proofs.Common.{◌≡◌, ◌^◌, min, take, true, ap, sym, subst, ◌∙◌}
use Rattle.std.specs.Char.{is_ascii_digit}
use Rattle.std.specs.List.{list_all}
use Rattle.calc_num.specs.Spelling.{front_digits, digits_number}
use Rattle.calc_num.proofs.ReadNumbers.Readings.{front-all}
use Rattle.calc_num.proofs.parse.split_digits.Goals as goal

pub invariant_of-result : goal.invariant_of-result
invariant_of-result c =
    let text = c.args.text.now in
    let same : c.split_at.result.0.now ≡ front_digits text =
    c.split_at.ensures.front ∙ ap (λ count. take count text) c.read_digits-count.ensures.count in
    record {
      digits = subst (λ digits. list_all is_ascii_digit digits ≡ true) (sym same) (front-all text);
      value = c.read_digits-count.ensures.number ∙ ap (λ digits. min (digits_number digits) (10 ^ 18)) (sym same);
    }
