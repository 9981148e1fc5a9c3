-- Watchers that are told one after the other.
use Rattle.std.proofs.Common.{◌≡◌, ℕ, zero, suc, ◌+◌, ◌<◌, List, [], ◌∷◌, ◌++◌, length, get_or, set, map, take, drop, sym, ap, ◌∙◌, arith}
use Rattle.std.specs.Prelude.{Result, Ok, Err, OnErr}
use Rattle.calc_model.specs.Scalars.{CellValues}
use Rattle.calc_watch.specs.Reports.{IsToldInPart, Watched, told_all, told_first}

-- the first of these are changed, the next one in another way
in_part : {S : Type 0} (f h : S → S) (xs : List S) (at : ℕ) (x : S) → at < length xs → x ≡ get_or (map f (take at xs) ++ drop at xs) at x → set (map f (take at xs) ++ drop at xs) at (h x) ≡ map f (take at xs) ++ map h (take 1 (drop at xs)) ++ drop (at + 1) xs
in_part f h [] at x within is = absurd (omega arith)
in_part f h (y ∷ ys) zero x within is = ap (λ z. h z ∷ ys) is
in_part f h (y ∷ ys) (suc at) x within is =
    let next : suc at + 1 ≡ suc (at + 1) = omega arith in
    ap (λ zs. f y ∷ zs) (in_part f h ys at x (omega arith) is)
    ∙ ap (λ n. (f y ∷ map f (take at ys)) ++ map h (take 1 (drop at ys)) ++ drop n (y ∷ ys)) (sym next)

pub on_err : {T E P : Type 0} (r : Result T E) → P → OnErr r P
on_err (Ok x) p = tt
on_err (Err e) p = p

-- a watcher that was told of some changes, behind those that were told of all
pub in_part_by : (values : CellValues) (olds es now after : List Watched) (at count : ℕ) (x new : Watched) → at < length es → now ≡ map (told_all values) (take at es) ++ drop at es → x ≡ get_or now at x → new ≡ told_first values count x → es ≡ olds → after ≡ set now at new → IsToldInPart values olds after
in_part_by values olds es now after at count x new within done here is shown written = record {
  whole = at;
  count = count;
  is = written
      ∙ ap (set now at) is
      ∙ ap (λ xs. set xs at (told_first values count x)) done
      ∙ in_part (told_all values) (told_first values count) es at x within (here ∙ ap (λ xs. get_or xs at x) done)
      ∙ ap (λ xs. map (told_all values) (take at xs) ++ map (told_first values count) (take 1 (drop at xs)) ++ drop (at + 1) xs) shown;
}
