-- Numbers that are taken one after the other.
use Rattle.std.proofs.Common.{◌≡◌, ℕ, ℤ, zero, suc, ◌+◌, ◌-◌, ◌*◌, ◌≤◌, ◌<◌, List, [], ◌∷◌, ◌++◌, drop, get_or, length, map, replicate, ap, sym, subst, refl, ◌∙◌, arith, Ok, Err}
use Rattle.std.specs.Prelude.{Result, fold}
use Rattle.std.specs.List.{flat_map}
use Rattle.std.proofs.lemmas.Grind.{flat_map-append}
use Rattle.std.proofs.lemmas.List.Sums.{fold-append}
use Rattle.std.proofs.lemmas.List.{length-drop, length-map, append-nil, drop_all}
use Rattle.std.proofs.Math.Nat.{mul-le-mul_right}
use Rattle.calc_addr.proofs.Walking.Places.{length-places}
use Rattle.std.proofs.lemmas.List.Folds.{flat_map-map}
use Rattle.std.proofs.Math.Seq.{drop-cons}
use Rattle.calc_addr.specs.Places.{IsRectangle, Place, Rectangle, places}
use Rattle.calc_model.specs.Arguments.{meaning_of, meanings_of}
use Rattle.calc_model.specs.Meanings.{Meaning, values_in}
use Rattle.calc_model.specs.Operators.{from_ok}
use Rattle.calc_model.specs.Scalars.{CellValues}
use Rattle.calc_model.specs.declared.arg.Arg.{Arg}
use Rattle.calc_model.specs.declared.arg.Arg.TheVariants as arg
use Rattle.calc_model.specs.declared.fault.Fault.{Fault}
use Rattle.calc_model.specs.declared.value.Value.{Value}
use Rattle.calc_model.specs.declared.value.Value.TheVariants.{Number, Bad, Blank}
use Rattle.calc_model.specs.Lists.{number_in_cell, number_of_scalar, numbers, numbers_in}
use Rattle.calc_model.specs.Parameters.{all_ok, and_then}
use Rattle.fn_args.proofs.FirstErrors.{after, after-after, after-none, all_ok-before, all_ok-error}
use Rattle.fn_args.specs.Tallies.{IsTallied, numbers_in_cells, numbers_of_arg, numbers_of_args, MOST_IN_AREA}

abbrev Numbers : Type 0
Numbers = List (Result ℤ Fault)

-- the numbers of cells that are all numbers, and of blank ones
pub all_numbers : (ns : List ℤ) → all_ok (numbers_in_cells (map Number ns)) ≡ Ok ns
unfolding numbers_in_cells
all_numbers [] = refl
all_numbers (n ∷ ns) = ap (and_then n) (all_numbers ns)

pub no_numbers : (count : ℕ) → all_ok (numbers_in_cells (replicate count Blank)) ≡ Ok []
unfolding numbers_in_cells
no_numbers zero = refl
no_numbers (suc count) = no_numbers count

-- What a loop over values keeps: the numbers so far were taken, and there is room for as many more as before but those.
pub record IsUnderWay {S : Type 0} (step : S → ℤ → S) (room : S → ℕ → Type 0) (first : S) (most : ℕ) (all rest : Numbers) (size : ℕ) (now : S) : Type 0 where
  pub taken : List ℤ
  pub numbers : all_ok all ≡ after taken (all_ok rest)
  pub state : now ≡ fold step first taken
  pub left : (k : ℕ) → room first (most + k) → room now (size + k)

module _ {S : Type 0} (step : S → ℤ → S) (room : S → ℕ → Type 0) (first : S) (most : ℕ) (all : Numbers) where
  pub begins : IsUnderWay step room first most all all most first
  begins = record { taken = []; numbers = sym (after-none (all_ok all)); state = refl; left = λ k h. h }

  module _ (front more rest : Numbers) (size n j : ℕ) (now new : S) (split : rest ≡ front ++ more) (sizes : size ≡ n + j) (h : IsUnderWay step room first most all rest size now) where
    pub room_here : ((s : S) (j k : ℕ) → room s (j + k) → room s k) → room first most → room now n
    room_here behind r =
        let e : most ≡ most + 0 = omega arith in
        let f : size + 0 ≡ j + n = omega (arith, sizes) in
        behind now j n (subst (room now) f (h.left 0 (subst (room first) e r)))

    pub goes_on : (ns : List ℤ) → all_ok front ≡ Ok ns → new ≡ fold step now ns → ((k : ℕ) → room now (n + k) → room new k) → IsUnderWay step room first most all more j new
    goes_on ns ok is left = record {
      taken = h.taken ++ ns;
      numbers = h.numbers ∙ ap (λ xs. after h.taken (all_ok xs)) split ∙ ap (after h.taken) (all_ok-before front more ns ok) ∙ after-after h.taken ns (all_ok more);
      state = is ∙ ap (λ s. fold step s ns) h.state ∙ sym (fold-append step first h.taken ns);
      left = λ k r.
          let e : size + k ≡ n + (j + k) = omega (arith, sizes) in
          left (j + k) (subst (room now) e (h.left k r));
    }

    pub stops : (fault : Fault) → all_ok front ≡ Err fault → all_ok all ≡ Err fault
    stops fault bad = h.numbers ∙ ap (λ xs. after h.taken (all_ok xs)) split ∙ ap (after h.taken) (all_ok-error front more fault bad)

  pub ends : (rest : Numbers) (size : ℕ) (now : S) → rest ≡ [] → size ≡ 0 → IsUnderWay step room first most all rest size now → (ns : List ℤ) × (all_ok all ≡ Ok ns) × (now ≡ fold step first ns) × ((k : ℕ) → room first (most + k) → room now k)
  ends rest size now none empty h = (
    h.taken,
    h.numbers ∙ ap (λ xs. after h.taken (all_ok xs)) none ∙ ap Ok (append-nil h.taken),
    h.state,
    λ k r.
        let e : size + k ≡ k = omega (arith, empty) in
        subst (room now) e (h.left k r),
  )

pub one_cell : (value : Value) → numbers_in_cells (value ∷ []) ≡ number_in_cell value
unfolding numbers_in_cells
one_cell value = append-nil (number_in_cell value)

pub numbers-before : (front more : List Value) → numbers_in_cells (front ++ more) ≡ numbers_in_cells front ++ numbers_in_cells more
unfolding numbers_in_cells
numbers-before front more = flat_map-append number_in_cell front more

-- the parameters from one of them on
module _ (v : CellValues) (args : List Arg) (i : ℕ) (x : Arg) (inside_list : i < length args) (is : x ≡ get_or args i x) where
  next_index : x ∷ drop (suc i) args ≡ x ∷ drop (i + 1) args
  next_index =
      let e : suc i ≡ i + 1 = omega arith in
      ap (λ k. x ∷ drop k args) e

  first_arg : drop i args ≡ x ∷ drop (i + 1) args
  first_arg = drop-cons args i x inside_list ∙ ap (λ y. y ∷ drop (suc i) args) (sym is) ∙ next_index

  pub numbers-first : numbers_of_args v (drop i args) ≡ numbers_of_arg v x ++ numbers_of_args v (drop (i + 1) args)
  unfolding numbers_of_args
  numbers-first = ap (flat_map (numbers_of_arg v)) first_arg

pub count-left : {X : Type 0} (xs : List X) (i : ℕ) → i < length xs → length (drop i xs) * MOST_IN_AREA ≡ MOST_IN_AREA + length (drop (i + 1) xs) * MOST_IN_AREA
count-left xs i h = omega (arith, h, length-drop i xs, length-drop (i + 1) xs)

pub few_cells : (v : CellValues) (a : Rectangle) → IsRectangle a → length (values_in v a) ≤ MOST_IN_AREA
unfolding values_in
few_cells v a in_sheet =
    let count = length-map (places a) v ∙ length-places a in
    let cols : a.last_col + 1 - a.first_col ≤ 1024 = omega (arith, in_sheet.cols_from, in_sheet.cols_to) in
    let rows : a.last_row + 1 - a.first_row ≤ 1048576 = omega (arith, in_sheet.rows_from, in_sheet.rows_to) in
    omega (arith, count, mul-le-mul_right (a.last_row + 1 - a.first_row) cols, rows)

pub no_args : (v : CellValues) (args : List Arg) (i : ℕ) → length args ≤ i → numbers_of_args v (drop i args) ≡ []
unfolding numbers_of_args
no_args v args i h = ap (flat_map (numbers_of_arg v)) (drop_all i args h)

same-numbers : (home : Place) (v : CellValues) (args : List Arg) → flat_map (λ x. numbers_in (meaning_of home v x).scalar (meaning_of home v x).area) args ≡ flat_map (numbers_of_arg v) args
unfolding numbers_in_cells
same-numbers home v [] = refl
same-numbers home v (arg.Scalar value ∷ rest) = ap (λ xs. number_of_scalar value ++ xs) (same-numbers home v rest)
same-numbers home v (arg.Area area ∷ rest) = ap (λ xs. flat_map number_in_cell (values_in v area) ++ xs) (same-numbers home v rest)

-- the numbers are those of calc_model's lists
pub numbers-are : (home : Place) (v : CellValues) (args : List Arg) → numbers (meanings_of home v args) ≡ all_ok (numbers_of_args v args)
unfolding numbers numbers_of_args
numbers-are home v args = ap all_ok (flat_map-map (λ (p : Meaning). numbers_in p.scalar p.area) (meaning_of home v) args ∙ same-numbers home v args)

-- what comes of the numbers of a list, or of its first error
pub from_numbers : (home : Place) (v : CellValues) (args : List Arg) (next : List ℤ → Value) (ns : List ℤ) → all_ok (numbers_of_args v args) ≡ Ok ns → from_ok (numbers (meanings_of home v args)) next ≡ next ns
from_numbers home v args next ns e = ap (λ r. from_ok r next) (numbers-are home v args ∙ e)

pub from_fault : (home : Place) (v : CellValues) (args : List Arg) (next : List ℤ → Value) (fault : Fault) → all_ok (numbers_of_args v args) ≡ Err fault → from_ok (numbers (meanings_of home v args)) next ≡ Bad fault
from_fault home v args next fault e = ap (λ r. from_ok r next) (numbers-are home v args ∙ e)

-- the same from a state with more room
pub widened : {S U : Type 0} (step : S → ℤ → S) (room : S → ℕ → Type 0) → ((s : S) (j k : ℕ) → room s (j + k) → room s k) → (n m : ℕ) → n ≤ m → (old : S) (xs : Numbers) (new : S) (result : Result U Fault) → IsTallied step room n old xs new result → IsTallied step room m old xs new result
widened step room behind n m h old xs new (Ok done) t = (
  t.0,
  t.1,
  t.2,
  λ k r.
      let e : m + k ≡ m - n + (n + k) = omega (arith, h) in
      t.3 k (behind old (m - n) (n + k) (subst (room old) e r)),
)
widened step room behind n m h old xs new (Err fault) t = t
