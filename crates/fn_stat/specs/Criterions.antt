-- Criteria over lent texts, and by the order of two numbers.
use Rattle.std.specs.Prelude.{Bool}
use Rattle.std.specs.Ordering.{is_eq, is_ge, is_gt, is_le, is_lt, is_ne}
use Rattle.std.specs.declared.cmp.Ordering.{Ordering}
use Rattle.calc_model.specs.Criteria.{Criterion as Meant}
use Rattle.calc_model.specs.declared.tree.Op.{Op}
use Rattle.calc_model.specs.declared.tree.Op.TheVariants.{Ne, Lt, Le, Gt, Ge}
use Rattle.fn_args.specs.Lent.{wanted_value}
use Rattle.fn_stat.specs.declared.criteria.Criterion.{Criterion}

abbrev pub meant : Criterion → Meant
meant c = record { op = c.op; with = wanted_value c.with }

-- whether a value of the kind that compares so matches
abbrev pub order_matches : Op → Ordering → Bool
order_matches Ne = is_ne
order_matches Lt = is_lt
order_matches Le = is_le
order_matches Gt = is_gt
order_matches Ge = is_ge
order_matches _ = is_eq
