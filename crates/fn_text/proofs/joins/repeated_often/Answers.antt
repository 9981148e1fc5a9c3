use Rattle.std.proofs.Common.{◌≡◌, ap, sym, ◌∙◌, length, nat_lt, arith, rules}
use Rattle.std.proofs.lemmas.List.{nil_from_length}
use Rattle.calc_model.specs.declared.limits.TheConstants.{MOST_FIELD_BYTES}
use Rattle.calc_model.specs.declared.value.Value.TheVariants.{Words}
use Rattle.fn_text.proofs.Repeating.{kept, length-times, times, times-none, too_long}
use Rattle.fn_text.proofs.joins.repeated_often.Goals as goal

pub returns-then-is_too_long : goal.returns-then-is_too_long
returns-then-is_too_long c =
    too_long (times c.args.count c.args.words.now) (c.if-is_too_long.ensures {u = tt} ∙ ap (nat_lt MOST_FIELD_BYTES) (sym (length-times c.args.count c.args.words.now)))

pub returns-then-is_empty : goal.returns-then-is_empty
returns-then-is_empty c =
    let size : length c.args.words.now ≡ 0 = search (rules, c.if-is_empty.ensures {u = tt}) in
    ap Words (c.new.ensures ∙ sym (ap (times c.args.count) (nil_from_length c.args.words.now size) ∙ times-none c.args.count))
    ∙ kept (times c.args.count c.args.words.now) (c.if-is_too_long.ensures {u = tt} ∙ ap (nat_lt MOST_FIELD_BYTES) (sym (length-times c.args.count c.args.words.now)))

pub returns : goal.returns
returns c =
    let all : c.loop.counter ≡ c.args.count = omega (arith, c.loop.auto.counter-end, c.loop-test.false) in
    ap Words (c.loop.invariant ∙ ap (λ k. times k c.args.words.now) all)
    ∙ kept (times c.args.count c.args.words.now) (c.if-is_too_long.ensures {u = tt} ∙ ap (nat_lt MOST_FIELD_BYTES) (sym (length-times c.args.count c.args.words.now)))
