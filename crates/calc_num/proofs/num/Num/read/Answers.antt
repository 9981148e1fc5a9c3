use Rattle.std.proofs.Common.{◌∙◌, ap}
use Rattle.calc_num.specs.Scaling.{size_reading}
use Rattle.calc_num.specs.Spelling.{is_negative, unsigned, reading_of}
use Rattle.calc_num.proofs.ReadNumbers.Readings.{reading_of-size}
use Rattle.calc_num.proofs.num.Num.read.Goals as goal

pub returns : goal.returns
returns c =
    let text = c.args.text.now in
    c.signed.ensures ∙ ap (size_reading c.split_sign-negative.result.0) c.read_unsigned.ensures ∙ reading_of-size c.split_sign-negative.result.0 (unsigned c.split_sign-negative.result.1.now) ∙ ap (λ negative. reading_of negative (unsigned c.split_sign-negative.result.1.now)) c.split_sign-negative.ensures.negative ∙ ap (λ rest. reading_of (is_negative text) (unsigned rest)) c.split_sign-negative.ensures.rest
