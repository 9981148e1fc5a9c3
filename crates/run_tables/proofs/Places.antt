-- What is known of the run at a place of a table.
use Rattle.std.proofs.Common.{◌≡◌, ℕ, zero, suc, ◌+◌, ◌-◌, ◌<◌, ◌≤◌, Bool, true, cond, List, [], ◌∷◌, ◌++◌, map, take, drop, length, get_or, slice_get, Some, IfSome, option_map, refl, sym, ap, subst, ◌∙◌, arith, append_assoc}
use Rattle.std.specs.List.{insert, All}
use Rattle.std.proofs.lemmas.Bool.{cond-true}
use Rattle.run_tables.specs.Runs.{Run, moved}
use Rattle.run_tables.specs.Edges.{run_before, IsPast}
use Rattle.std.proofs.Math.ListN.{set}
use Rattle.std.proofs.lemmas.List.{drop_more, take_more_set, map_push, map_more, drop-set-lt, length-take-le, take_at, drop_at, length_push}
use Rattle.std.proofs.lemmas.Option.{slice_get-map, slice_get_read}

pub at_place : {P R : Type 0} (run : P → R) (xs : List P) (i j : ℕ) (x : P) (Q : R → Type 0) → i < length xs → x ≡ get_or xs i x → i ≡ j → Q (run x) → IfSome (slice_get (map run xs) j) Q
at_place run xs i j x Q h is e q =
    subst (λ o. IfSome o Q) (sym (ap (slice_get (map run xs)) (sym e) ∙ slice_get-map run xs i ∙ ap (option_map run) (slice_get_read xs (length xs) i x refl h is))) q

-- a loop that puts m of each run in its place, one step on
pub one_moved : {P R : Type 0} (run : P → R) (m : R → R) (xs ys : List P) (i : ℕ) (x y : P) → i < length xs → length xs ≡ length ys → x ≡ get_or xs i x → drop i xs ≡ drop i ys → run y ≡ m (run x) → map run (take i xs) ≡ map m (map run (take i ys)) → (map run (take (i + 1) (set xs i y)) ≡ map m (map run (take (i + 1) ys))) × (drop (i + 1) (set xs i y) ≡ drop (i + 1) ys)
one_moved run m xs ys i x y h len is rest at done =
    let in_ys : i < length ys = omega arith in
    let tails : get_or xs i x ∷ drop (i + 1) xs ≡ get_or ys i x ∷ drop (i + 1) ys = sym (drop_more xs i x h) ∙ rest ∙ drop_more ys i x in_ys in
    let one : x ≡ get_or ys i x = cc in
    let others : drop (i + 1) xs ≡ drop (i + 1) ys = cc in
    let past : i < i + 1 = omega arith in (
      ap (map run) (take_more_set xs i y h) ∙ map_push run (take i xs) y
          ∙ ap (λ v. v ++ run y ∷ []) done ∙ ap (λ v. map m (map run (take i ys)) ++ v ∷ []) (at ∙ ap (λ v. m (run v)) one)
          ∙ sym (ap (map m) (map_more run ys i x in_ys) ∙ map_push m (map run (take i ys)) (run (get_or ys i x))),
      drop-set-lt (i + 1) xs i y past ∙ others,
    )

-- where two lists are one from i on, so is what stands at i
pub same_front : {P : Type 0} (xs ys : List P) (i : ℕ) (x : P) → i < length xs → i < length ys → x ≡ get_or xs i x → drop i xs ≡ drop i ys → x ≡ get_or ys i x
same_front xs ys i x h k is rest =
    let tails : get_or xs i x ∷ drop (i + 1) xs ≡ get_or ys i x ∷ drop (i + 1) ys = sym (drop_more xs i x h) ∙ rest ∙ drop_more ys i x k in
    cc

-- the run in front of a place
pub before_place : {P K : Type 0} (run : P → Run K) (xs : List P) (i : ℕ) (x : P) → 0 < i → i ≤ length xs → x ≡ get_or xs (i - 1) x → run_before (map run xs) i ≡ Some (run x)
before_place run xs zero x h k is = absurd (omega arith)
before_place run xs (suc i) x h k is =
    let e : suc i - 1 ≡ i = omega arith in
    slice_get-map run xs i ∙ ap (option_map run) (slice_get_read xs (length xs) i x refl (omega arith) (is ∙ ap (λ j. get_or xs j x) e))

-- a list with an element put in, where there was room
pub insert-front : {P : Type 0} (b : Bool) (xs ys : List P) (i : ℕ) (x : P) → i ≤ length xs → b ≡ true → ys ≡ cond b (insert xs i x) xs → take (i + 1) ys ≡ take i xs ++ x ∷ []
insert-front b xs ys i x h at is =
    let len : length (take i xs) ≡ i = length-take-le i xs h in
    let e : take i xs ++ x ∷ drop i xs ≡ (take i xs ++ x ∷ []) ++ drop i xs = sym (append_assoc (take i xs) (x ∷ []) (drop i xs)) in
    ap (take (i + 1)) (is ∙ cond-true b (insert xs i x) xs at ∙ e)
    ∙ take_at (take i xs ++ x ∷ []) (drop i xs) (i + 1) (omega (arith, length_push (take i xs) x))

pub insert-back : {P : Type 0} (b : Bool) (xs ys : List P) (i : ℕ) (x : P) → i ≤ length xs → b ≡ true → ys ≡ cond b (insert xs i x) xs → drop (i + 1) ys ≡ drop i xs
insert-back b xs ys i x h at is =
    let len : length (take i xs) ≡ i = length-take-le i xs h in
    let e : take i xs ++ x ∷ drop i xs ≡ (take i xs ++ x ∷ []) ++ drop i xs = sym (append_assoc (take i xs) (x ∷ []) (drop i xs)) in
    ap (drop (i + 1)) (is ∙ cond-true b (insert xs i x) xs at ∙ e)
    ∙ drop_at (take i xs ++ x ∷ []) (drop i xs) (i + 1) (omega (arith, length_push (take i xs) x))

-- runs that move nowhere
pub unmoved : {P K : Type 0} (run : P → Run K) (b c : ℕ) (xs : List P) → b ≡ c → All (λ p. IsPast b (run p)) xs → map run xs ≡ map (moved b c) (map run xs)
unmoved run b c [] e h = refl
unmoved run b c (x ∷ xs) e h =
    let here : IsPast b (run x) = h zero x (omega arith) in
    let first : (run x).first ≡ (run x).first - b + c = omega (arith, here.0) in
    let last : (run x).last ≡ (run x).last - b + c = omega (arith, here.1) in
    let rest = unmoved run b c xs e (λ k d less. h (suc k) d (omega arith)) in
    ap (λ f. record { first = f; last = (run x).last; key = (run x).key } ∷ map run xs) first
    ∙ ap (λ l. record { first = (run x).first - b + c; last = l; key = (run x).key } ∷ map run xs) last
    ∙ ap (λ v. moved b c (run x) ∷ v) rest
