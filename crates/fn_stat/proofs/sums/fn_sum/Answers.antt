use Rattle.std.proofs.Common.{ap, sym, ◌∙◌}
use Rattle.std.specs.Prelude.{fold}
use Rattle.calc_model.specs.Statistics.{sum_of}
use Rattle.fn_args.proofs.Tallying.{from_fault}
use Rattle.fn_stat.specs.States.{with_term}
use Rattle.fn_stat.proofs.Summing.{sum_is}
use Rattle.fn_stat.proofs.sums.fn_sum.Goals as goal

pub returns-in-Ok : goal.returns-in-Ok
returns-in-Ok g c =
    let told = c.in-Ok.ensures {u = tt} in
    c.total.ensures ∙ sum_is c.args.home (g.V.Values.values c.args.values.now) c.args.args.now told.0 c.tally_list.new.taker told.1 (told.2 ∙ ap (λ none. fold with_term none told.0) c.new-sum.ensures)

pub returns-in-Err : goal.returns-in-Err
returns-in-Err g c =
    sym (from_fault c.args.home (g.V.Values.values c.args.values.now) c.args.args.now sum_of c.in-Err.fault (c.in-Err.ensures {u = tt}))
