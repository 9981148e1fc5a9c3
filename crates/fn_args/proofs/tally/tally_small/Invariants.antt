-- The numbers so far were taken, and there is room for as many more as before but those.
use Rattle.std.proofs.Common.{◌≡◌, ℕ, ◌+◌, ◌-◌, length, take}
use Rattle.std.specs.Prelude.{fold}
use Rattle.fn_args.proofs.tally.tally_small.Given as goal

abbrev pub invariant-loop-item : goal.invariant-loop-item
invariant-loop-item g l =
    (l.taker ≡ fold g.T.Tally.step l.fn.taker (take l.item-index l.items)) ×
    ((k : ℕ) → g.T.Tally.room l.fn.taker (length l.items + k) → g.T.Tally.room l.taker (length l.items - l.item-index + k))
