use Rattle.std.proofs.Common.{ap, sym, ◌∙◌}
use Rattle.std.specs.Prelude.{fold}
use Rattle.std.specs.List.{list_any}
use Rattle.calc_model.specs.Logic.{is_true, of_some}
use Rattle.fn_args.proofs.Tallying.{from_fault}
use Rattle.fn_math.specs.Truths.{with_truth}
use Rattle.fn_math.proofs.Tests.{one_true}
use Rattle.fn_math.proofs.logic.fn_or.Goals as goal

pub returns-in-Ok : goal.returns-in-Ok
returns-in-Ok g c =
    let told = c.in-Ok.ensures {u = tt} in
    c.if_some.ensures ∙ one_true c.args.home (g.V.Values.values c.args.values.now) c.args.args.now told.0 c.tally_list.new.taker told.1 (told.2 ∙ ap (λ none. fold with_truth none told.0) c.new-truths.ensures)

pub returns-in-Err : goal.returns-in-Err
returns-in-Err g c =
    sym (from_fault c.args.home (g.V.Values.values c.args.values.now) c.args.args.now (of_some (list_any is_true)) c.in-Err.fault (c.in-Err.ensures {u = tt}))
