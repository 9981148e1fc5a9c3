-- AND and OR by what is known of a list.
use Rattle.std.proofs.Common.{◌≡◌, ℤ, ◌&&◌, ◌||◌, Bool, true, false, List, [], ◌∷◌, Ok, refl, sym, ap, ◌∙◌}
use Rattle.std.specs.Prelude.{fold}
use Rattle.std.specs.List.{list_all, list_any}
use Rattle.calc_addr.specs.Places.{Place}
use Rattle.calc_model.specs.declared.arg.Arg.{Arg}
use Rattle.calc_model.specs.Arguments.{meanings_of}
use Rattle.calc_model.specs.Logic.{and, is_true, of_some, or}
use Rattle.calc_model.specs.Operators.{truth}
use Rattle.calc_model.specs.Parameters.{all_ok}
use Rattle.calc_model.specs.Scalars.{CellValues}
use Rattle.fn_args.specs.Tallies.{numbers_of_args}
use Rattle.fn_args.proofs.Tallying.{from_numbers}
use Rattle.fn_math.specs.Truths.{if_some, with_truth}
use Rattle.fn_math.specs.declared.truths.Truths.{Truths}

and-more : (a b c : Bool) → ((a && b) && c) ≡ (a && (b && c))
and-more true b c = refl
and-more false b c = refl

or-more : (a b c : Bool) → ((a || b) || c) ≡ (a || (b || c))
or-more true b c = refl
or-more false b c = refl

and-none : (a : Bool) → a ≡ (a && true)
and-none true = refl
and-none false = refl

or-none : (a : Bool) → a ≡ (a || false)
or-none true = refl
or-none false = refl

all-of : (so_far : Truths) (ns : List ℤ) → (fold with_truth so_far ns).all ≡ (so_far.all && list_all is_true ns)
all-of so_far [] = and-none so_far.all
all-of so_far (n ∷ ns) = all-of (with_truth so_far n) ns ∙ and-more so_far.all (is_true n) (list_all is_true ns)

any-of : (so_far : Truths) (ns : List ℤ) → (fold with_truth so_far ns).any ≡ (so_far.any || list_any is_true ns)
any-of so_far [] = or-none so_far.any
any-of so_far (n ∷ ns) = any-of (with_truth so_far n) ns ∙ or-more so_far.any (is_true n) (list_any is_true ns)

some-of : (so_far : Truths) (ns : List ℤ) → so_far.some ≡ true → (fold with_truth so_far ns).some ≡ true
some-of so_far [] e = e
some-of so_far (n ∷ ns) e = some-of (with_truth so_far n) ns refl

abbrev pub none : Truths
none = record { some = false; all = true; any = false }

told : (test : List ℤ → Bool) (told_by : Truths → Bool) → ((ns : List ℤ) → told_by (fold with_truth none ns) ≡ test ns) → (ns : List ℤ) → of_some test ns ≡ if_some (fold with_truth none ns).some (told_by (fold with_truth none ns))
told test told_by is [] = refl
told test told_by is (n ∷ ns) =
    ap truth (sym (is (n ∷ ns))) ∙ ap (λ b. if_some b (told_by (fold with_truth none (n ∷ ns)))) (sym (some-of (with_truth none n) ns refl))

module _ (home : Place) (v : CellValues) (args : List Arg) (ns : List ℤ) (truths : Truths) (numbers : all_ok (numbers_of_args v args) ≡ Ok ns) (is : truths ≡ fold with_truth none ns) where
  pub all_true : if_some truths.some truths.all ≡ and (meanings_of home v args)
  all_true =
      ap (λ (t : Truths). if_some t.some t.all) is
      ∙ sym (from_numbers home v args (of_some (list_all is_true)) ns numbers ∙ told (list_all is_true) (λ t. t.all) (all-of none) ns)

  pub one_true : if_some truths.some truths.any ≡ or (meanings_of home v args)
  one_true =
      ap (λ (t : Truths). if_some t.some t.any) is
      ∙ sym (from_numbers home v args (of_some (list_any is_true)) ns numbers ∙ told (list_any is_true) (λ t. t.any) (any-of none) ns)
