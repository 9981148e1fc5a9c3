-- the lines of the watchers so far
use Rattle.std.proofs.Common.{◌≡◌, take}
use Rattle.std.specs.List.{flat_map}
use Rattle.calc_watch.specs.Reports.{described}
use Rattle.calc_watch.proofs.desktop.Desktop.describe_all.Given as goal

abbrev pub invariant-loop-watch : goal.invariant-loop-watch
invariant-loop-watch g l = l.lines.items ≡ flat_map (λ w. described w.told) (take l.watch-index l.watch-items)
