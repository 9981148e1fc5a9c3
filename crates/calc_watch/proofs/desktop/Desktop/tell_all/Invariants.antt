-- the watchers so far were told of all changes, and those that are left of none
use Rattle.std.proofs.Common.{◌≡◌, ◌++◌, map, take, drop}
use Rattle.calc_watch.specs.Reports.{told_all}
use Rattle.calc_watch.proofs.desktop.Desktop.tell_all.Given as goal

abbrev pub invariant-loop-watch : goal.invariant-loop-watch
invariant-loop-watch g l =
    l.watch-items ≡ map (told_all (g.V.Values.values l.values)) (take l.watch-index l.initial.watch-items) ++ drop l.watch-index l.initial.watch-items
