use Rattle.std.proofs.Common.{◌≡◌, true, ap, sym, ◌∙◌}
use Rattle.std.specs.Prelude.{fold}
use Rattle.calc_model.specs.Statistics.{has_shape_of}
use Rattle.calc_model.specs.Meanings.{ValuedArea, values_in}
use Rattle.fn_args.specs.Lent.{wanted_value}
use Rattle.fn_stat.specs.Criterions.{meant}
use Rattle.fn_stat.specs.States.{with_term}
use Rattle.fn_stat.proofs.Selecting.{picked-error, picked-sum}
use Rattle.fn_stat.proofs.selected.sum_picked.Goals as goal

pub returns-in-Ok : goal.returns-in-Ok
returns-in-Ok g c =
    let told = c.in-Ok.ensures {u = tt} in
    let v = g.V.Values.values c.args.values.now in
    let tested : ValuedArea = record { area = c.args.tested; values = values_in v c.args.tested } in
    let summed : ValuedArea = record { area = c.args.summed; values = values_in v c.args.summed } in
    let shape : has_shape_of c.args.tested c.args.summed ≡ true = sym c.has_shape_of.ensures ∙ c.if-not-has_shape_of.false in
    c.total.ensures ∙ picked-sum (wanted_value c.args.wanted.now) (meant c.criterion_of-criterion.result) c.criterion_of-criterion.ensures tested summed shape told.0 c.tally_picked.new.taker told.1
    (told.2 ∙ ap (λ none. fold with_term none told.0) c.new-sum.ensures)

pub returns-in-Err : goal.returns-in-Err
returns-in-Err g c =
    let v = g.V.Values.values c.args.values.now in
    let tested : ValuedArea = record { area = c.args.tested; values = values_in v c.args.tested } in
    let summed : ValuedArea = record { area = c.args.summed; values = values_in v c.args.summed } in
    let shape : has_shape_of c.args.tested c.args.summed ≡ true = sym c.has_shape_of.ensures ∙ c.if-not-has_shape_of.false in
    picked-error (wanted_value c.args.wanted.now) (meant c.criterion_of-criterion.result) c.criterion_of-criterion.ensures tested summed shape c.in-Err.fault (c.in-Err.ensures {u = tt})
