use Rattle.std.proofs.Common.{ap, sym, ◌∙◌}
use Rattle.std.specs.Prelude.{fold}
use Rattle.calc_model.specs.Statistics.{product_of}
use Rattle.fn_args.proofs.Tallying.{from_fault}
use Rattle.fn_stat.proofs.Multiplying.{product_is, with_product}
use Rattle.fn_stat.proofs.extremes.fn_product.Goals as goal

pub returns-in-Ok : goal.returns-in-Ok
returns-in-Ok g c =
    let told = c.in-Ok.ensures {u = tt} in
    c.product_or_zero.ensures ∙ product_is c.args.home (g.V.Values.values c.args.values.now) c.args.args.now told.0 told.1 c.tally_list.new.taker (told.2 ∙ ap (λ none. fold with_product none told.0) c.new-so_far.ensures)

pub returns-in-Err : goal.returns-in-Err
returns-in-Err g c =
    sym (from_fault c.args.home (g.V.Values.values c.args.values.now) c.args.args.now product_of c.in-Err.fault (c.in-Err.ensures {u = tt}))
