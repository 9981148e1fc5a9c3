use Rattle.std.proofs.Common.{◌≡◌, Ok}
use Rattle.calc_num.specs.Decimals.{repeated_product}
use Rattle.calc_num.proofs.power.repeated.Given as goal

abbrev pub invariant-loop-step : goal.invariant-loop-step
invariant-loop-step l = repeated_product l.base l._step ≡ Ok l.product
