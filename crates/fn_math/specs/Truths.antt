-- The numbers of a list as logical values: whether there is one, whether all are true, and whether one is.
use Rattle.std.specs.Prelude.{ℤ, ◌&&◌, ◌||◌, Bool, true, if◌then◌else◌}
use Rattle.calc_model.specs.declared.fault.Fault.TheVariants.{BadValue}
use Rattle.calc_model.specs.declared.value.Value.{Value}
use Rattle.calc_model.specs.declared.value.Value.TheVariants.{Bad}
use Rattle.calc_model.specs.Logic.{is_true}
use Rattle.calc_model.specs.Operators.{truth}
use Rattle.fn_math.specs.declared.truths.Truths.{Truths}

abbrev pub with_truth : Truths → ℤ → Truths
with_truth so_far n = record { some = true; all = so_far.all && is_true n; any = so_far.any || is_true n }

-- a test of a list, if it has a number
abbrev pub if_some : Bool → Bool → Value
if_some some holds = if some then truth holds else Bad BadValue
