use Rattle.std.proofs.Common.{◌≡◌, ◌||◌, take}
use Rattle.std.specs.List.{list_any}
use Rattle.calc_addr.specs.Places.{Place}
use Rattle.run_unions.specs.Unions.{is_in}
use Rattle.listener_hub.specs.Hits.{any_hit}
use Rattle.listener_hub.proofs.readers.push_all_hits.Given as goal

abbrev pub invariant-loop-place : goal.invariant-loop-place
invariant-loop-place l = (q : Place) → list_any (is_in q) l.hits.items ≡ (list_any (is_in q) l.fn.hits.items || any_hit l.registrations l.area q (take l.place-index l.places))
