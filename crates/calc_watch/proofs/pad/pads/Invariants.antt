-- so many pads so far, which were told nothing
use Rattle.std.proofs.Common.{◌≡◌, [], length}
use Rattle.std.specs.List.{All}
use Rattle.calc_watch.proofs.pad.pads.Given as goal

abbrev pub invariant-loop : goal.invariant-loop
invariant-loop l =
    record {
      told : All (λ pad. pad ≡ []) l.pads.items;
      count : length l.pads.items ≡ l.counter;
    }
