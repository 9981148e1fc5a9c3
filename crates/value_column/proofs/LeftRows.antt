-- The rows that are left behind a span.
use Rattle.std.proofs.Common.{◌≡◌, ℕ, ◌+◌, ◌-◌, ◌<◌, ◌≤◌, List, ◌++◌, map, take, drop, length, get_or, refl, sym, ap, ◌∙◌, inl, inr, ◌⊎◌, arith}
use Rattle.std.specs.List.{range_with_len}
use Rattle.std.proofs.lemmas.Bool.{cases_lt}
use Rattle.std.proofs.lemmas.List.{get_or_append_left, get_or-append_right, get_or-take, get_or-drop, length-append, length-drop, length-take-le}
use Rattle.std.proofs.lemmas.List.FromFn.{fill_by_all, length-map-range_with_len, get_or-map-range_with_len}
use Rattle.calc_addr.specs.declared.cell.TheConstants.{LAST_ROW}
use Rattle.calc_model.specs.declared.value.Value.{Value}
use Rattle.calc_model.specs.declared.value.Value.TheVariants.{Blank}
use Rattle.value_column.specs.declared.lanes.Lanes.{Lanes}
use Rattle.value_column.specs.Rows.{column_of, value_at}
use Rattle.value_column.specs.declared.span.ValueSpan.{ValueSpan}
use Rattle.value_column.specs.Spans.{IsNextSpan, RowsLeft, rows_left, span_values}

pub left-length : (t : Lanes) (from n : ℕ) → length (rows_left t from n) ≡ n
left-length t from n = length-map-range_with_len (λ k. value_at t (from + k)) 0 n

left-at : (t : Lanes) (from n k : ℕ) → k < n → get_or (rows_left t from n) k Blank ≡ value_at t (from + k)
left-at t from n k h = get_or-map-range_with_len (λ i. value_at t (from + i)) 0 n k k Blank h (omega arith)

pub first-left : (t : Lanes) (from n : ℕ) → 1 ≤ n → get_or (rows_left t from n) 0 Blank ≡ value_at t from
first-left t from n some = let place : from + 0 ≡ from = omega arith in left-at t from n 0 (omega arith) ∙ ap (value_at t) place

pub left-behind : (t : Lanes) (vs : List Value) (from end : ℕ) → from + length vs ≤ end → ((k : ℕ) → k < length vs → get_or vs k Blank ≡ value_at t (from + k)) → rows_left t from (end - from) ≡ vs ++ rows_left t (from + length vs) (end - (from + length vs))
left-behind t vs from end within same =
    sym (fill_by_all (λ k. value_at t (from + k)) (vs ++ rows_left t (from + length vs) (end - (from + length vs))) (end - from) Blank whole (λ k h. at k h (cases_lt k (length vs))))
  where
    whole : length (vs ++ rows_left t (from + length vs) (end - (from + length vs))) ≡ end - from
    whole = omega (arith, length-append vs (rows_left t (from + length vs) (end - (from + length vs))), left-length t (from + length vs) (end - (from + length vs)))

    at : (k : ℕ) → k < end - from → (k < length vs) ⊎ (length vs ≤ k) → get_or (vs ++ rows_left t (from + length vs) (end - (from + length vs))) k Blank ≡ value_at t (from + k)
    at k h (inl m) = get_or_append_left vs (rows_left t (from + length vs) (end - (from + length vs))) Blank k m ∙ same k m
    at k h (inr m) =
        let place : from + length vs + (k - length vs) ≡ from + k = omega arith in
        get_or-append_right vs (rows_left t (from + length vs) (end - (from + length vs))) (length vs) k Blank refl m
        ∙ left-at t (from + length vs) (end - (from + length vs)) (k - length vs) (omega arith) ∙ ap (value_at t) place

-- some rows of a list of n
part-of : (f : ℕ → Value) (n a m : ℕ) → a + m ≤ n → map (λ k. f (a + k)) (range_with_len 0 m) ≡ take m (drop a (map f (range_with_len 0 n)))
part-of f n a m within =
    let whole : length (map f (range_with_len 0 n)) ≡ n = length-map-range_with_len f 0 n in
    sym (fill_by_all (λ k. f (a + k)) (take m (drop a (map f (range_with_len 0 n)))) m Blank
    (length-take-le m (drop a (map f (range_with_len 0 n))) (omega (arith, length-drop a (map f (range_with_len 0 n)))))
    (λ k h. get_or-take m (drop a (map f (range_with_len 0 n))) k Blank h
    ∙ get_or-drop a (map f (range_with_len 0 n)) k Blank
    ∙ get_or-map-range_with_len f 0 n (a + k) (a + k) Blank (omega arith) (omega arith)))

pub left-of : (t : Lanes) (first last : ℕ) → 1 ≤ first → first ≤ last → last ≤ LAST_ROW → rows_left t (first - 1) (last - (first - 1)) ≡ take (last - (first - 1)) (drop (first - 1) (column_of t))
unfolding column_of
left-of t first last from order to = part-of (value_at t) LAST_ROW (first - 1) (last - (first - 1)) (omega arith)

pub shorter : (left after : RowsLeft) (span : ValueSpan) → IsNextSpan left span after → length after.values < length left.values
shorter left after span h = omega (arith, h.some, ap length h.values, length-append (span_values span) after.values)
