use Rattle.std.proofs.Common.{◌≡◌, ◌+◌, ◌-◌, get_or, take, vec_len, sym, ap, ◌∙◌, arith}
use Rattle.calc_model.specs.declared.value.Value.TheVariants as value
use Rattle.std.proofs.lemmas.List.{take-take, get_or-take}
use Rattle.std.proofs.lemmas.Option.{same_Some}
use Rattle.value_column.specs.Rows.{value_at}
use Rattle.value_column.proofs.Written.{below-more, still-ready}
use Rattle.value_column.proofs.lanes.Lanes.put_run.Goals as goal

pub loop-value-preserved : goal.loop-value-preserved
loop-value-preserved c =
    let l = c.loop-value in
    let all = c.args.values.items in
    let n = vec_len c.pop.new.self in
    let one : n + 1 ≡ vec_len l.values = omega (arith, c.in-Some.ensures.cases) in
    let here : n ≡ vec_len l.values - 1 = omega arith in
    let value_is = same_Some _ _ (sym c.in-Some.is ∙ c.pop.ensures.value value.Blank (omega arith)) ∙ ap (λ v. get_or v (vec_len l.values - 1) value.Blank) l.invariant.items ∙ get_or-take (vec_len l.values) all (vec_len l.values - 1) value.Blank (omega arith) ∙ ap (λ i. get_or all i value.Blank) (sym here) in
    record {
      lanes = c.write.ensures.lanes;
      items = c.pop.ensures.rest ∙ ap (take (vec_len l.values - 1)) l.invariant.items ∙ take-take (vec_len l.values - 1) (vec_len l.values) all (omega arith) ∙ ap (λ i. take i all) (sym here);
      len = omega (arith, l.invariant.len);
      ready = λ k h. still-ready l.self c.write.new.self _ _ c.write.ensures.longer (l.invariant.ready k h);
      rows = below-more c.args.from (vec_len l.values) n (vec_len c.args.values) (c.args.from + c.len.result) (λ k. get_or all k value.Blank) (value_at c.args.self.now) (value_at l.self) (value_at c.write.new.self) one l.invariant.len (omega (arith, c.len.ensures)) l.invariant.rows (c.write.ensures.at ∙ c.of.ensures.value ∙ value_is) c.write.ensures.other;
    }
