-- The numbers so far were taken, and there is room for as many more as before but those.
use Rattle.std.proofs.Common.{◌≡◌, ℕ, ◌+◌, ◌-◌, length, take}
use Rattle.std.specs.Prelude.{fold}
use Rattle.calc_model.specs.declared.value.Value.TheVariants as value
use Rattle.fn_args.specs.Picks.{where_passes}
use Rattle.fn_args.proofs.picks.tally_where.Given as goal

abbrev pub invariant-loop-place : goal.invariant-loop-place
invariant-loop-place g l =
    (l.taker ≡ fold g.T.Tally.step l.fn.taker (where_passes (λ n. g.C.Test.test l.test (value.Number n)) (take l.place l.keys) (take l.place l.items))) ×
    ((k : ℕ) → g.T.Tally.room l.fn.taker (length l.items + k) → g.T.Tally.room l.taker (length l.items - l.place + k))
