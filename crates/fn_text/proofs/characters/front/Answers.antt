use Rattle.std.proofs.Common.{◌≡◌, ap, ◌∙◌, ◌-◌, arith, length, rules, take}
use Rattle.std.specs.Str.{IsCharBoundary, chars, encode_utf8_all}
use Rattle.calc_model.specs.declared.value.Value.TheVariants.{Words}
use Rattle.fn_text.proofs.Splitting.{boundary, front-bytes}
use Rattle.fn_text.proofs.characters.front.Goals as goal

pub range-requires-clause-end_boundary : goal.range-requires-clause-end_boundary
range-requires-clause-end_boundary c =
    let there : IsCharBoundary c.args.text.now (length c.args.text.now - length c.behind.result.now) = boundary c.args.text.now c.args.count c.behind.result.now c.behind.utf8 c.behind.ensures in
    search (rules, there)

pub returns : goal.returns
returns c =
    let bytes : take (length c.args.text.now - length c.behind.result.now) c.args.text.now ≡ encode_utf8_all (take c.args.count (chars c.args.text.now)) = front-bytes c.args.text.now c.args.count c.behind.result.now c.behind.ensures in
    let size = length c.args.text.now - length c.behind.result.now in
    let whole : size - 0 ≡ size = omega arith in
    ap Words (c.of.ensures ∙ (c.in_ok-from_str.ensures {u = tt}).ok ∙ c.range.ensures.value ∙ ap (λ n. take n c.args.text.now) whole ∙ bytes)
