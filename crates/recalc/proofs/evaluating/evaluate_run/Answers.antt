use Rattle.std.proofs.Common.{◌≡◌, ◌+◌, ◌-◌, [], ◌∷◌, ◌∙◌, length, ap, subst, sym, true, arith}
use Rattle.std.proofs.lemmas.List.{length-append}
use Rattle.std.proofs.lemmas.Result.{on_ok_weaker}
use Rattle.calc_addr.specs.Places.{Rows}
use Rattle.formula_results.specs.Results.{results_of}
use Rattle.run_unions.specs.Unions.{is_in}
use Rattle.recalc.specs.Units.{cell_at}
use Rattle.recalc.proofs.RunValues.{AreValues, run_evaluated, value_more, value_there}
use Rattle.recalc.proofs.UnitRows.{row_in}
use Rattle.recalc.proofs.evaluating.evaluate_run.Goals as goal

pub value_of-requires-clause-coded : goal.value_of-requires-clause-coded
value_of-requires-clause-coded g c =
    let same : Rows = record { sheet = c.run.inside.sheet; col = c.run.inside.col; first = c.run.inside.first; last = c.run.inside.last } in
    let row = c.loop-row.row in
    (c.requires.coded (cell_at same row) (subst (λ (r : Rows). is_in (cell_at same row) r ≡ true) c.run.view_is (row_in same row c.loop-row.auto.row (omega (arith, c.loop-row-test.true))))).at

pub value_of-requires-clause-room : goal.value_of-requires-clause-room
value_of-requires-clause-room g c =
    let is : c.run.inside.first ≡ c.args.run.first = ap (λ (r : Rows). r.first) c.run.view_is in
    let to : c.run.inside.last ≡ c.args.run.last = ap (λ (r : Rows). r.last) c.run.view_is in
    omega (arith, c.requires.room, c.loop-row.invariant.steps, c.loop-row.auto.row, c.loop-row-test.true, is, to)

pub loop-row-preserved : goal.loop-row-preserved
loop-row-preserved g c =
    let run = c.args.run in
    let old = results_of c.args.results.now in
    let row = c.loop-row.row in
    let values = c.loop-row.values.items in
    let same : Rows = record { sheet = c.run.inside.sheet; col = c.run.inside.col; first = c.run.inside.first; last = c.run.inside.last } in
    let is : same ≡ run = c.run.view_is in
    let there = value_there c.args.parts.now old c.args.codes.now c.args.code run in
    record {
      values = subst (AreValues c.args.parts.now old c.args.codes.now c.args.code run) (sym c.in_ok-push.ensures.items)
          (value_more c.args.parts.now old c.args.codes.now c.args.code run values c.in_ok-value.value row c.loop-row.invariant.values c.loop-row.invariant.count
          (c.in_ok-value.ensures.value ∙ ap (λ (r : Rows). there (cell_at r row)) is) c.in_ok-value.ensures.used);
      count = omega (arith, c.loop-row.invariant.count, length-append values (c.in_ok-value.value ∷ []), ap length c.in_ok-push.ensures.items);
      steps = let from : same.first ≡ run.first = ap (λ (r : Rows). r.first) is in omega (arith, c.loop-row.invariant.steps, c.in_ok-value.ensures.count, c.loop-row.auto.row, from);
      parts = c.value_of.ensures.parts ∙ c.loop-row.invariant.parts;
    }

pub returns-clause-done : goal.returns-clause-done
returns-clause-done g c =
    let values = c.loop-row.values.items in
    let from : c.run.inside.first ≡ c.args.run.first = ap (λ (r : Rows). r.first) c.run.view_is in
    let to : c.run.inside.last ≡ c.args.run.last = ap (λ (r : Rows). r.last) c.run.view_is in
    let whole : length values ≡ c.args.run.last + 1 - c.args.run.first = omega (arith, c.loop-row.invariant.count, c.loop-row-test.false, c.loop-row.auto.row-end, from, to) in
    on_ok_weaker c.set_run.result
    (λ sets. run_evaluated c.args.parts.now (results_of c.args.results.now) c.args.codes.now c.args.code c.args.run (results_of c.set_run.new.self) values c.loop-row.invariant.values whole sets c.requires.sound c.requires.ready c.requires.coded) c.set_run.ensures.ok
