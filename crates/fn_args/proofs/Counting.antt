-- How many values pass a test.
use Rattle.std.proofs.Common.{◌≡◌, ℕ, zero, suc, ◌+◌, ◌≤◌, ◌<◌, Bool, true, false, List, [], ◌∷◌, ◌++◌, drop, get_or, length, map, replicate, ap, sym, refl, ◌∙◌, arith, cond}
use Rattle.std.specs.List.{count_by, flat_map}
use Rattle.std.proofs.lemmas.List.{drop_all}
use Rattle.std.specs.Prelude.{fold}
use Rattle.std.proofs.lemmas.List.Sums.{count_by-le-length, sum_by-append}
use Rattle.std.proofs.lemmas.List.Folds.{flat_map-map}
use Rattle.std.proofs.Math.Seq.{drop-cons}
use Rattle.calc_addr.specs.Places.{IsRectangle, Place, Rectangle}
use Rattle.fn_args.specs.Tallies.{MOST_IN_AREA}
use Rattle.fn_args.proofs.Tallying.{few_cells}
use Rattle.calc_model.specs.Arguments.{meaning_of, meanings_of}
use Rattle.calc_model.specs.Lists.{values_of_list, values_or}
use Rattle.calc_model.specs.Meanings.{Meaning, values_in}
use Rattle.calc_model.specs.Scalars.{CellValues}
use Rattle.calc_model.specs.declared.arg.Arg.{Arg}
use Rattle.calc_model.specs.declared.arg.Arg.TheVariants as arg
use Rattle.calc_model.specs.declared.value.Value.{Value}
use Rattle.fn_args.specs.Counts.{values_of_arg, values_of_args}

pub count-append : {X : Type 0} (p : X → Bool) (xs ys : List X) → count_by p (xs ++ ys) ≡ count_by p xs + count_by p ys
count-append p xs ys = sum_by-append (λ x. cond (p x) 1 0) xs ys

pub count-cons : {X : Type 0} (p : X → Bool) (x : X) (xs : List X) → count_by p (x ∷ xs) ≡ cond (p x) 1 0 + count_by p xs
count-cons p x xs =
    let e : 0 + cond (p x) 1 0 ≡ cond (p x) 1 0 = omega arith in
    count-append p (x ∷ []) xs ∙ ap (λ n. n + count_by p xs) e

counted-map : {X Y : Type 0} (p : Y → Bool) (f : X → Y) (n : ℕ) (xs : List X) → fold (λ n y. n + cond (p y) 1 0) n (map f xs) ≡ fold (λ n x. n + cond (p (f x)) 1 0) n xs
counted-map p f n [] = refl
counted-map p f n (x ∷ xs) = counted-map p f (n + cond (p (f x)) 1 0) xs

pub count-map : {X Y : Type 0} (p : Y → Bool) (f : X → Y) (xs : List X) → count_by p (map f xs) ≡ count_by (λ x. p (f x)) xs
count-map p f xs = counted-map p f 0 xs

pub all-pass : {X : Type 0} (p : X → Bool) (x : X) (n : ℕ) → p x ≡ true → count_by p (replicate n x) ≡ n
all-pass p x zero e = refl
all-pass p x (suc n) e =
    count-cons p x (replicate n x) ∙ ap (λ b. cond b 1 0 + count_by p (replicate n x)) e ∙ omega (arith, all-pass p x n e)

pub none-pass : {X : Type 0} (p : X → Bool) (x : X) (n : ℕ) → p x ≡ false → count_by p (replicate n x) ≡ 0
none-pass p x zero e = refl
none-pass p x (suc n) e =
    count-cons p x (replicate n x) ∙ ap (λ b. cond b 1 0 + count_by p (replicate n x)) e ∙ omega (arith, none-pass p x n e)

-- the parameters from one of them on
pub count-first : (p : Value → Bool) (v : CellValues) (args : List Arg) (i : ℕ) (x : Arg) → i < length args → x ≡ get_or args i x → count_by p (values_of_args v (drop i args)) ≡ count_by p (values_of_arg v x) + count_by p (values_of_args v (drop (i + 1) args))
unfolding values_of_args
count-first p v args i x inside is =
    let e : suc i ≡ i + 1 = omega arith in
    ap (λ xs. count_by p (flat_map (values_of_arg v) xs)) (drop-cons args i x inside ∙ ap (λ y. y ∷ drop (suc i) args) (sym is) ∙ ap (λ k. x ∷ drop k args) e)
    ∙ count-append p (values_of_arg v x) (flat_map (values_of_arg v) (drop (i + 1) args))

pub few-pass : (p : Value → Bool) (v : CellValues) (a : Rectangle) → IsRectangle a → count_by p (values_in v a) ≤ MOST_IN_AREA
few-pass p v a in_sheet = omega (arith, count_by-le-length p (values_in v a), few_cells v a in_sheet)

pub no_values : (v : CellValues) (args : List Arg) (i : ℕ) → length args ≤ i → values_of_args v (drop i args) ≡ []
unfolding values_of_args
no_values v args i h = ap (flat_map (values_of_arg v)) (drop_all i args h)

same-values : (home : Place) (v : CellValues) (args : List Arg) → flat_map (λ x. values_or (meaning_of home v x).scalar (meaning_of home v x).area) args ≡ flat_map (values_of_arg v) args
same-values home v [] = refl
same-values home v (arg.Scalar value ∷ rest) = ap (λ xs. value ∷ xs) (same-values home v rest)
same-values home v (arg.Area area ∷ rest) = ap (λ xs. values_in v area ++ xs) (same-values home v rest)

-- the values are those of calc_model's lists
pub values-are : (home : Place) (v : CellValues) (args : List Arg) → values_of_list (meanings_of home v args) ≡ values_of_args v args
unfolding values_of_list values_of_args
values-are home v args = flat_map-map (λ (p : Meaning). values_or p.scalar p.area) (meaning_of home v) args ∙ same-values home v args
