use Rattle.std.proofs.Common.{ap, length, ◌∙◌, arith}
use Rattle.std.proofs.lemmas.List.FromFn.{length-map-range_with_len}
use Rattle.calc_model.specs.Lookup.{col_count, value_in}
use Rattle.fn_lookup.specs.Lines.{valued}
use Rattle.fn_lookup.proofs.lookups.looked_up_along.Goals as goal

pub value_in-requires-clause-col : goal.value_in-requires-clause-col
value_in-requires-clause-col g c =
    let v = g.V.Values.values c.args.values.now in
    let size = ap length (c.first_row.ensures v) ∙ length-map-range_with_len (value_in (valued v c.args.area) 0) 0 (col_count c.args.area) in
    omega (arith, size, c.in-Some.ensures.within)
