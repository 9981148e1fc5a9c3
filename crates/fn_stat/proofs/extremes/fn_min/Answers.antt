use Rattle.std.proofs.Common.{ap, sym, ◌∙◌}
use Rattle.std.specs.Prelude.{fold}
use Rattle.calc_model.specs.declared.value.Value.TheVariants.{Number}
use Rattle.calc_model.specs.Statistics.{least_of}
use Rattle.fn_args.proofs.Tallying.{from_fault}
use Rattle.fn_stat.proofs.Multiplying.{least_is, with_least}
use Rattle.fn_stat.proofs.extremes.fn_min.Goals as goal

pub returns-in-Ok : goal.returns-in-Ok
returns-in-Ok g c =
    let told = c.in-Ok.ensures {u = tt} in
    c.number_or_zero.ensures ∙ least_is c.args.home (g.V.Values.values c.args.values.now) c.args.args.now told.0 told.1 c.tally_list.new.taker (told.2 ∙ ap (λ none. fold with_least none told.0) c.new-so_far.ensures)

pub returns-in-Err : goal.returns-in-Err
returns-in-Err g c =
    sym (from_fault c.args.home (g.V.Values.values c.args.values.now) c.args.args.now (λ ns. Number (least_of ns)) c.in-Err.fault (c.in-Err.ensures {u = tt}))
