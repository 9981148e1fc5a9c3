use Rattle.std.proofs.Common.{◌≡◌, ◌||◌, take}
use Rattle.std.specs.List.{list_any}
use Rattle.calc_addr.specs.Places.{Place}
use Rattle.run_unions.specs.Unions.{is_in}
use Rattle.listener_hub.specs.Hits.{is_hit}
use Rattle.listener_hub.proofs.readers.push_hits.Given as goal

abbrev pub invariant-loop-ear : goal.invariant-loop-ear
invariant-loop-ear l = (q : Place) → list_any (is_in q) l.hits.items ≡ (list_any (is_in q) l.fn.hits.items || list_any (is_hit l.run l.area q) (take l.ear-index l.ears))
