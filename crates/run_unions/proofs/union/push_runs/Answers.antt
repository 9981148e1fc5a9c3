use Rattle.std.proofs.Common.{map}
use Rattle.run_unions.specs.Keys.{place_at}
use Rattle.run_unions.proofs.Emitting.{emits, kept_front, on_err}
use Rattle.run_unions.proofs.union.push_runs.Goals as goal

pub returns-in_err-next-clause-err : goal.returns-in_err-next-clause-err
returns-in_err-next-clause-err c =
    on_err c.from_residual.result
    (kept_front c.args.out.now.items c.loop-run.out.items c.push_run.new.out.items (map place_at c.loop-run.invariant.keys) c.loop-run.invariant.is c.in_err-next.ensures.err)

pub loop-run-preserved : goal.loop-run-preserved
loop-run-preserved c =
    emits c.args.out.now.items c.loop-run.out.items c.push_run.new.out.items c.args.runs.now c.requires c.loop-run.run-index c.loop-run.next c.run-item.result c.loop-run.invariant c.loop-run-test.true c.run-item.is c.push_run.ensures.rows
    c.in_ok-next.ensures.ok c.in_ok-next.next c.in_ok-next.ensures.next c.in_ok-next.ensures.within
