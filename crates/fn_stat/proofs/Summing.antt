-- Sums and means by what is kept of a list.
use Rattle.std.proofs.Common.{◌≡◌, ℕ, ℤ, pos, ◌+ℤ◌, ◌+◌, List, [], ◌∷◌, Ok, length, refl, sym, ap, ◌∙◌, arith}
use Rattle.std.specs.Prelude.{fold}
use Rattle.calc_addr.specs.Places.{Place}
use Rattle.calc_model.specs.declared.arg.Arg.{Arg}
use Rattle.calc_model.specs.Arguments.{meanings_of}
use Rattle.calc_model.specs.Operators.{value_of}
use Rattle.calc_model.specs.Parameters.{all_ok}
use Rattle.calc_model.specs.Scalars.{CellValues}
use Rattle.calc_model.specs.Statistics.{average, mean_of, sum, sum_of}
use Rattle.calc_num.specs.Decimals.{checked}
use Rattle.fn_args.specs.Tallies.{numbers_of_args}
use Rattle.fn_args.proofs.Tallying.{from_numbers}
use Rattle.fn_stat.specs.States.{HasRoom, Totals, mean, with_term}

pub room_behind : (s : Totals) (j k : ℕ) → HasRoom s (j + k) → HasRoom s k
room_behind s j k h = omega (arith, h)

pub total-of : (s : Totals) (ns : List ℤ) → (fold with_term s ns).total ≡ fold ◌+ℤ◌ s.total ns
total-of s [] = refl
total-of s (n ∷ ns) = total-of (with_term s n) ns

count-of : (s : Totals) (ns : List ℤ) → (fold with_term s ns).count ≡ s.count + length ns
count-of s [] = omega arith
count-of s (n ∷ ns) = omega (arith, count-of (with_term s n) ns)

abbrev pub none : Totals
none = record { total = pos 0; count = 0 }

mean-of : (ns : List ℤ) → mean_of ns ≡ mean (fold ◌+ℤ◌ (pos 0) ns) (length ns)
mean-of [] = refl
mean-of (n ∷ ns) = refl

module _ (home : Place) (v : CellValues) (args : List Arg) (ns : List ℤ) (totals : Totals) (numbers : all_ok (numbers_of_args v args) ≡ Ok ns) (is : totals ≡ fold with_term none ns) where
  pub sum_is : value_of (checked totals.total) ≡ sum (meanings_of home v args)
  sum_is =
      ap (λ (t : Totals). value_of (checked t.total)) is ∙ ap (λ n. value_of (checked n)) (total-of none ns)
      ∙ sym (from_numbers home v args sum_of ns numbers)

  pub mean_is : mean totals.total totals.count ≡ average (meanings_of home v args)
  mean_is =
      ap (λ (t : Totals). mean t.total t.count) is
      ∙ ap (λ n. mean n (fold with_term none ns).count) (total-of none ns) ∙ ap (mean (fold ◌+ℤ◌ (pos 0) ns)) (count-of none ns ∙ count-none)
      ∙ sym (from_numbers home v args mean_of ns numbers ∙ mean-of ns)
    where
      count-none : 0 + length ns ≡ length ns
      count-none = omega arith
