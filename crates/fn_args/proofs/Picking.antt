-- Values that are picked by others at the same places.
use Rattle.std.proofs.Common.{◌≡◌, ℕ, ℤ, pos, zero, suc, ◌+◌, ◌<◌, Bool, true, false, cond, List, [], ◌∷◌, ◌++◌, get_or, length, map, replicate, take, refl, sym, ap, ◌∙◌, arith, Ok}
use Rattle.std.specs.Prelude.{fold}
use Rattle.std.specs.List.{filter, zip}
use Rattle.std.proofs.lemmas.List.{length-append, length-take-le, map-append, take_more}
use Rattle.std.proofs.lemmas.List.Elements.{filter-append}
use Rattle.std.proofs.lemmas.Slice.Zip.{length-zip}
use Rattle.calc_model.specs.Parameters.{all_ok}
use Rattle.calc_model.specs.UsedCells.{values_of}
use Rattle.calc_model.specs.declared.value.Value.{Value}
use Rattle.calc_model.specs.declared.value.Value.TheVariants.{Number, Blank}
use Rattle.fn_args.proofs.Tallying.{numbers-before}
use Rattle.fn_args.specs.Pairs.{AreCut}
use Rattle.fn_args.specs.declared.pairs.PiecePair.{PiecePair}
use Rattle.fn_args.specs.Picks.{if_picked, picked_by, picked_of, where_passes}
use Rattle.fn_args.specs.Tallies.{numbers_in_cells}

pub split-size : (old new : List (Value × Value)) (pair : PiecePair) → AreCut old pair new → length old ≡ length (values_of pair.second) + length new
split-size old new pair cut =
    omega (arith, cut.same, ap length cut.front, length-append (zip (values_of pair.first) (values_of pair.second)) new, length-zip (values_of pair.first) (values_of pair.second))

pub none-picked : (values : List Value) → all_ok (numbers_in_cells (if_picked false values)) ≡ Ok []
unfolding numbers_in_cells
none-picked values = refl

module _ (passes : Value → Bool) where
  pub picked-append : (front more : List (Value × Value)) → picked_of passes (front ++ more) ≡ picked_of passes front ++ picked_of passes more
  picked-append front more =
      ap (map (λ (p : Value × Value). p.1)) (filter-append (λ (p : Value × Value). passes p.0) front more)
      ∙ map-append (λ (p : Value × Value). p.1) (filter (λ (p : Value × Value). passes p.0) front) (filter (λ (p : Value × Value). passes p.0) more)

  -- the numbers that are picked of a pair's values, and of what is left behind them
  pub picked-split : (old front more : List (Value × Value)) → old ≡ front ++ more → numbers_in_cells (picked_of passes old) ≡ numbers_in_cells (picked_of passes front) ++ numbers_in_cells (picked_of passes more)
  picked-split old front more e =
      ap (λ xs. numbers_in_cells (picked_of passes xs)) e ∙ ap numbers_in_cells (picked-append front more)
      ∙ numbers-before (picked_of passes front) (picked_of passes more)

  same-picked : (x : Value) (values : List Value) (b : Bool) → passes x ≡ b → picked_by passes (replicate (length values) x) values ≡ if_picked b values
  same-picked x [] true e = refl
  same-picked x [] false e = refl
  same-picked x (v ∷ vs) true e =
      ap (λ b. map (λ (p : Value × Value). p.1) (cond b ((x, v) ∷ filter (λ (p : Value × Value). passes p.0) (zip (replicate (length vs) x) vs)) (filter (λ (p : Value × Value). passes p.0) (zip (replicate (length vs) x) vs)))) e
      ∙ ap (λ xs. v ∷ xs) (same-picked x vs true e)
  same-picked x (v ∷ vs) false e =
      ap (λ b. map (λ (p : Value × Value). p.1) (cond b ((x, v) ∷ filter (λ (p : Value × Value). passes p.0) (zip (replicate (length vs) x) vs)) (filter (λ (p : Value × Value). passes p.0) (zip (replicate (length vs) x) vs)))) e
      ∙ same-picked x vs false e

  -- one value picks all or none
  pub all-picked : (x : Value) (count : ℕ) (values : List Value) → count ≡ length values → picked_by passes (replicate count x) values ≡ if_picked (passes x) values
  all-picked x count values e = ap (λ n. picked_by passes (replicate n x) values) e ∙ same-picked x values (passes x) refl

  -- no number is picked where all are blank
  pub blank-picked : (tested : List Value) (count : ℕ) → all_ok (numbers_in_cells (picked_by passes tested (replicate count Blank))) ≡ Ok []
  unfolding numbers_in_cells
  blank-picked [] count = refl
  blank-picked (x ∷ xs) zero = refl
  blank-picked (x ∷ xs) (suc count) =
      elim (passes x) as (λ b. all_ok (numbers_in_cells (map (λ (p : Value × Value). p.1) (cond b ((x, Blank) ∷ filter (λ (p : Value × Value). passes p.0) (zip xs (replicate count Blank))) (filter (λ (p : Value × Value). passes p.0) (zip xs (replicate count Blank)))))) ≡ Ok []) [
        | true ↦ blank-picked xs count
        | false ↦ blank-picked xs count
      ]

  pub numbers-picked : (keys items : List ℤ) → picked_by passes (map Number keys) (map Number items) ≡ map Number (where_passes (λ n. passes (Number n)) keys items)
  numbers-picked [] items = refl
  numbers-picked (k ∷ keys) [] = refl
  numbers-picked (k ∷ keys) (n ∷ items) =
      elim (passes (Number k)) as (λ b. map (λ (p : Value × Value). p.1) (cond b ((Number k, Number n) ∷ filter (λ (p : Value × Value). passes p.0) (zip (map Number keys) (map Number items))) (filter (λ (p : Value × Value). passes p.0) (zip (map Number keys) (map Number items)))) ≡ map Number (cond b (n ∷ where_passes (λ n. passes (Number n)) keys items) (where_passes (λ n. passes (Number n)) keys items))) [
        | true ↦ ap (λ xs. Number n ∷ xs) (numbers-picked keys items)
        | false ↦ numbers-picked keys items
      ]

-- one place more
module _ {S : Type 0} (step : S → ℤ → S) (passes : ℤ → Bool) (first : S) where
  at-end : (keys items : List ℤ) (k n : ℤ) (s : S) → length keys ≡ length items → fold step s (where_passes passes (keys ++ k ∷ []) (items ++ n ∷ [])) ≡ cond (passes k) (step (fold step s (where_passes passes keys items)) n) (fold step s (where_passes passes keys items))
  at-end [] [] k n s e = elim (passes k) as (λ b. fold step s (cond b (n ∷ []) []) ≡ cond b (step s n) s) [ true ↦ refl | false ↦ refl ]
  at-end [] (m ∷ items) k n s e = absurd (omega (arith, e))
  at-end (j ∷ keys) [] k n s e = absurd (omega (arith, e))
  at-end (j ∷ keys) (m ∷ items) k n s e =
      elim (passes j) as (λ b. fold step s (cond b (m ∷ where_passes passes (keys ++ k ∷ []) (items ++ n ∷ [])) (where_passes passes (keys ++ k ∷ []) (items ++ n ∷ []))) ≡ cond (passes k) (step (fold step s (cond b (m ∷ where_passes passes keys items) (where_passes passes keys items))) n) (fold step s (cond b (m ∷ where_passes passes keys items) (where_passes passes keys items)))) [
        | true ↦ at-end keys items k n (step s m) (omega (arith, e))
        | false ↦ at-end keys items k n s (omega (arith, e))
      ]

  pub one-place : (keys items : List ℤ) (i : ℕ) → length keys ≡ length items → i < length keys → fold step first (where_passes passes (take (i + 1) keys) (take (i + 1) items)) ≡ cond (passes (get_or keys i (pos 0))) (step (fold step first (where_passes passes (take i keys) (take i items))) (get_or items i (pos 0))) (fold step first (where_passes passes (take i keys) (take i items)))
  one-place keys items i same inside =
      let same_front : length (take i keys) ≡ length (take i items) =
      length-take-le i keys (omega (arith, inside)) ∙ sym (length-take-le i items (omega (arith, inside, same))) in
      ap (λ xs. fold step first (where_passes passes xs (take (i + 1) items))) (take_more keys i (pos 0) inside)
      ∙ ap (λ ys. fold step first (where_passes passes (take i keys ++ get_or keys i (pos 0) ∷ []) ys)) (take_more items i (pos 0) (omega (arith, inside, same)))
      ∙ at-end (take i keys) (take i items) (get_or keys i (pos 0)) (get_or items i (pos 0)) first same_front
