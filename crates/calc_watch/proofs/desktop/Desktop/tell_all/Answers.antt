-- A watcher more is told of all changes, or of some.
use Rattle.std.proofs.Common.{set, ap, sym, ◌∙◌, arith}
use Rattle.std.proofs.lemmas.List.{with_items_is}
use Rattle.std.proofs.lemmas.List.Edits.{map_over_more}
use Rattle.std.proofs.Math.ListN.{length-set}
use Rattle.calc_watch.specs.Reports.{told_all, told_first}
use Rattle.calc_watch.proofs.Telling.{in_part_by, on_err}
use Rattle.calc_watch.proofs.desktop.Desktop.tell_all.Goals as goal

pub loop-watch-preserved : goal.loop-watch-preserved
loop-watch-preserved g c =
    ap (set c.loop-watch.watch-items c.loop-watch.watch-index) (c.in_ok-tell.ensures.ok ∙ ap (told_all (g.V.Values.values c.args.values.now)) (sym c.watch-item.is))
    ∙ map_over_more (told_all (g.V.Values.values c.args.values.now)) c.deref_mut-watch-items.result.now c.loop-watch.watch-items c.loop-watch.watch-index c.watch-item.result c.loop-watch-test.true c.loop-watch.invariant c.watch-item.is

pub returns-in_err-tell-clause-err : goal.returns-in_err-tell-clause-err
returns-in_err-tell-clause-err g c =
    let part = c.in_err-tell.ensures.err in
    let items = set c.loop-watch.watch-items c.loop-watch.watch-index c.tell.new.watch in
    let written = with_items_is c.self.inside.watches items (omega (arith, length-set c.loop-watch.watch-items c.loop-watch.watch-index c.tell.new.watch)) in
    on_err c.from_residual.result
    (in_part_by (g.V.Values.values c.args.values.now) c.args.self.now c.deref_mut-watch-items.result.now c.loop-watch.watch-items _ c.loop-watch.watch-index part.0 c.watch-item.result c.tell.new.watch
    c.loop-watch-test.true c.loop-watch.invariant c.watch-item.is (part.1 ∙ ap (told_first (g.V.Values.values c.args.values.now) part.0) (sym c.watch-item.is)) (c.deref_mut-watch-items.ensures.value ∙ c.self.view_is) written)
