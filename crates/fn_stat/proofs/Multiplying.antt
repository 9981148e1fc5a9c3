-- Extremes and products by what is kept of a list.
use Rattle.std.proofs.Common.{◌≡◌, ℤ, pos, ◌^◌, true, false, List, [], ◌∷◌, Ok, Some, None, refl, sym, ap, ◌∙◌}
use Rattle.std.specs.Prelude.{Result, fold}
use Rattle.std.specs.Int.{int_max, int_min}
use Rattle.calc_addr.specs.Places.{Place}
use Rattle.calc_num.specs.declared.num.NumFault.{NumFault}
use Rattle.calc_model.specs.declared.arg.Arg.{Arg}
use Rattle.calc_model.specs.declared.value.Value.TheVariants.{Number}
use Rattle.calc_model.specs.Arguments.{meanings_of}
use Rattle.calc_model.specs.Operators.{value_of}
use Rattle.calc_model.specs.Parameters.{all_ok}
use Rattle.calc_model.specs.Scalars.{CellValues}
use Rattle.calc_model.specs.Statistics.{greatest_of, least_of, max_, min_, multiplied, product, product_of}
use Rattle.fn_args.specs.Tallies.{numbers_of_args}
use Rattle.fn_args.proofs.Tallying.{from_numbers}
use Rattle.fn_stat.specs.States.{extreme_or_zero, product_or_zero, with_extreme, with_factor}
use Rattle.fn_stat.specs.declared.extremes.Greatest.{Greatest}
use Rattle.fn_stat.specs.declared.extremes.Least.{Least}
use Rattle.fn_stat.specs.declared.extremes.Product.{Product}

abbrev pub with_least : Least → ℤ → Least
with_least s n = record { least = with_extreme int_min s.least n }

abbrev pub with_greatest : Greatest → ℤ → Greatest
with_greatest s n = record { greatest = with_extreme int_max s.greatest n }

abbrev pub with_product : Product → ℤ → Product
with_product s n = record { some = true; product = with_factor s.product n }

least-from : (m : ℤ) (ns : List ℤ) → (fold with_least (record { least = Some m }) ns).least ≡ Some (fold int_min m ns)
least-from m [] = refl
least-from m (n ∷ ns) = least-from (int_min m n) ns

greatest-from : (m : ℤ) (ns : List ℤ) → (fold with_greatest (record { greatest = Some m }) ns).greatest ≡ Some (fold int_max m ns)
greatest-from m [] = refl
greatest-from m (n ∷ ns) = greatest-from (int_max m n) ns

least-of : (ns : List ℤ) → extreme_or_zero (fold with_least (record { least = None }) ns).least ≡ Number (least_of ns)
least-of [] = refl
least-of (n ∷ ns) = ap extreme_or_zero (least-from n ns)

greatest-of : (ns : List ℤ) → extreme_or_zero (fold with_greatest (record { greatest = None }) ns).greatest ≡ Number (greatest_of ns)
greatest-of [] = refl
greatest-of (n ∷ ns) = ap extreme_or_zero (greatest-from n ns)

product-from : (p : Result ℤ NumFault) (ns : List ℤ) → product_or_zero (fold with_product (record { some = true; product = p }) ns).some (fold with_product (record { some = true; product = p }) ns).product ≡ value_of (multiplied p ns)
product-from p [] = refl
product-from p (n ∷ ns) = product-from (with_factor p n) ns

abbrev pub one : Product
one = record { some = false; product = Ok (pos (10 ^ 9)) }

product-of : (ns : List ℤ) → product_or_zero (fold with_product one ns).some (fold with_product one ns).product ≡ product_of ns
product-of [] = refl
product-of (n ∷ ns) = product-from (with_factor one.product n) ns

module _ (home : Place) (v : CellValues) (args : List Arg) (ns : List ℤ) (numbers : all_ok (numbers_of_args v args) ≡ Ok ns) where
  pub least_is : (s : Least) → s ≡ fold with_least (record { least = None }) ns → extreme_or_zero s.least ≡ min_ (meanings_of home v args)
  least_is s is = ap (λ (s : Least). extreme_or_zero s.least) is ∙ least-of ns ∙ sym (from_numbers home v args (λ ns. Number (least_of ns)) ns numbers)

  pub greatest_is : (s : Greatest) → s ≡ fold with_greatest (record { greatest = None }) ns → extreme_or_zero s.greatest ≡ max_ (meanings_of home v args)
  greatest_is s is = ap (λ (s : Greatest). extreme_or_zero s.greatest) is ∙ greatest-of ns ∙ sym (from_numbers home v args (λ ns. Number (greatest_of ns)) ns numbers)

  pub product_is : (s : Product) → s ≡ fold with_product one ns → product_or_zero s.some s.product ≡ product (meanings_of home v args)
  product_is s is = ap (λ (s : Product). product_or_zero s.some s.product) is ∙ product-of ns ∙ sym (from_numbers home v args product_of ns numbers)
