-- Pieces of two areas in step.
use Rattle.std.proofs.Common.{◌≡◌, true, ℕ, ◌<◌, ◌≤◌, ◌+◌, ◌-◌, List, [], ◌∷◌, ◌++◌, drop, length, map, replicate, take, Option, Some, refl, ap, sym, ◌∙◌, arith}
use Rattle.std.specs.List.{zip}
use Rattle.std.proofs.lemmas.List.{drop-map, length-append, length-replicate, length-take-le, replicate-append-replicate, take-append-drop, take-append-le, take_at}
use Rattle.std.proofs.lemmas.Slice.Zip.{length-zip}
use Rattle.calc_addr.specs.Places.{Place, Rectangle, covers, places_from}
use Rattle.calc_model.specs.declared.value.Value.{Value}
use Rattle.calc_model.specs.declared.values.Piece.{Piece}
use Rattle.calc_model.specs.Scalars.{CellValues}
use Rattle.calc_model.specs.UsedCells.{IsFront, values_of}
use Rattle.fn_args.specs.Pairs.{AreCut}
use Rattle.calc_addr.proofs.Walking.Places.{IsCovered-from}
use Rattle.fn_args.specs.Pieces.{IsBehind, rows_below}
use Rattle.fn_args.specs.declared.pairs.PiecePair.{PiecePair}
use Rattle.fn_args.proofs.Cutting.{cuts}

pub zip-append : {A B : Type 0} (xs us : List A) (ys vs : List B) → length xs ≡ length ys → zip (xs ++ us) (ys ++ vs) ≡ zip xs ys ++ zip us vs
zip-append [] us [] vs e = refl
zip-append [] us (y ∷ ys) vs e = absurd (omega (arith, e))
zip-append (x ∷ xs) us [] vs e = absurd (omega (arith, e))
zip-append (x ∷ xs) us (y ∷ ys) vs e = ap (λ zs. (x, y) ∷ zs) (zip-append xs us ys vs (omega (arith, e)))

pub take-replicate : {A : Type 0} (n m : ℕ) (x : A) → n ≤ m → take n (replicate m x) ≡ replicate n x
take-replicate n m x h =
    let e : n + (m - n) ≡ m = omega (arith, h) in
    ap (λ k. take n (replicate k x)) (sym e) ∙ ap (take n) (sym (replicate-append-replicate n (m - n) x)) ∙ take_at (replicate n x) (replicate (m - n) x) n (length-replicate n x)

-- some values of a piece come from the front of what is left
pub cut_some : (v : CellValues) (a : Rectangle) (p : Place) (piece : Piece) → IsFront v (rows_below a p) piece → covers a p ≡ true → (n : ℕ) (next : Option Place) → n ≤ length (values_of piece) → IsBehind a p n next → map v (places_from a (Some p)) ≡ take n (values_of piece) ++ map v (places_from a next)
cut_some v a p piece front covered n next within behind =
    let all = map v (places_from a (Some p)) in
    let more = map v (drop (length (values_of piece)) (places_from a (Some p))) in
    sym (take-append-drop n all)
    ∙ ap (λ xs. xs ++ drop n all) (ap (take n) (cuts v a p piece front (IsCovered-from a p covered).sheet).front ∙ take-append-le n (values_of piece) more within)
    ∙ ap (λ xs. take n (values_of piece) ++ xs) (drop-map v n (places_from a (Some p)) ∙ ap (map v) (sym behind.left))

-- of two areas as many
pub pair-cut : (first first_left second second_left : List Value) (p q p_front q_front : Piece) (n : ℕ) → 1 ≤ n → n ≤ length (values_of p) → n ≤ length (values_of q) → values_of p_front ≡ take n (values_of p) → values_of q_front ≡ take n (values_of q) → first ≡ take n (values_of p) ++ first_left → second ≡ take n (values_of q) ++ second_left → AreCut (zip first second) (record { first = p_front; second = q_front }) (zip first_left second_left)
pair-cut first first_left second second_left p q p_front q_front n some within_p within_q is_p is_q split_p split_q =
    let size_p : length (values_of p_front) ≡ n = ap length is_p ∙ length-take-le n (values_of p) within_p in
    let size_q : length (values_of q_front) ≡ n = ap length is_q ∙ length-take-le n (values_of q) within_q in
    record {
      same = size_p ∙ sym size_q;
      some = omega (arith, size_q, some);
      front =
          ap (λ xs. zip xs second) (split_p ∙ ap (λ xs. xs ++ first_left) (sym is_p)) ∙ ap (zip (values_of p_front ++ first_left)) (split_q ∙ ap (λ ys. ys ++ second_left) (sym is_q))
          ∙ zip-append (values_of p_front) first_left (values_of q_front) second_left (size_p ∙ sym size_q);
    }

-- a pair makes what is left shorter
pub pair-shorter : (old new : List (Value × Value)) (pair : PiecePair) → AreCut old pair new → length new < length old
pair-shorter old new pair cut =
    omega (arith, cut.some, cut.same, ap length cut.front, length-append (zip (values_of pair.first) (values_of pair.second)) new, length-zip (values_of pair.first) (values_of pair.second))
