-- The sum of picked numbers by what is kept of them.
use Rattle.std.proofs.Common.{◌≡◌, ℤ, true, List, Ok, Err, ap, cond, sym, ◌∙◌}
use Rattle.std.specs.Prelude.{fold}
use Rattle.calc_num.specs.Decimals.{checked}
use Rattle.calc_model.specs.Criteria.{Criterion, criterion, matches}
use Rattle.calc_model.specs.Meanings.{ValuedArea}
use Rattle.calc_model.specs.Operators.{from_ok, value_of}
use Rattle.calc_model.specs.Parameters.{all_ok}
use Rattle.calc_model.specs.Statistics.{has_shape_of, sum_of, sum_picked}
use Rattle.calc_model.specs.declared.fault.Fault.{Fault}
use Rattle.calc_model.specs.declared.fault.Fault.TheVariants.{BadValue}
use Rattle.calc_model.specs.declared.value.Value.{Value}
use Rattle.calc_model.specs.declared.value.Value.TheVariants.{Bad}
use Rattle.fn_args.specs.Picks.{picked_by}
use Rattle.fn_args.specs.Tallies.{numbers_in_cells}
use Rattle.fn_stat.specs.States.{Totals, with_term}
use Rattle.fn_stat.proofs.Summing.{none, total-of}

module _ (k : Value) (c : Criterion) (is : c ≡ criterion k) (tested summed : ValuedArea) (shape : has_shape_of tested.area summed.area ≡ true) where
  from_picked : sum_picked k tested summed ≡ from_ok (all_ok (numbers_in_cells (picked_by (matches c) tested.values summed.values))) sum_of
  unfolding numbers_in_cells
  from_picked =
      ap (λ b. cond b (from_ok (all_ok (numbers_in_cells (picked_by (matches (criterion k)) tested.values summed.values))) sum_of) (Bad BadValue)) shape
      ∙ ap (λ d. from_ok (all_ok (numbers_in_cells (picked_by (matches d) tested.values summed.values))) sum_of) (sym is)

  pub picked-sum : (ns : List ℤ) (totals : Totals) → all_ok (numbers_in_cells (picked_by (matches c) tested.values summed.values)) ≡ Ok ns → totals ≡ fold with_term none ns → value_of (checked totals.total) ≡ sum_picked k tested summed
  picked-sum ns totals numbers kept =
      ap (λ (t : Totals). value_of (checked t.total)) kept ∙ ap (λ n. value_of (checked n)) (total-of none ns)
      ∙ sym (from_picked ∙ ap (λ r. from_ok r sum_of) numbers)

  pub picked-error : (fault : Fault) → all_ok (numbers_in_cells (picked_by (matches c) tested.values summed.values)) ≡ Err fault → Bad fault ≡ sum_picked k tested summed
  picked-error fault numbers = sym (from_picked ∙ ap (λ r. from_ok r sum_of) numbers)
