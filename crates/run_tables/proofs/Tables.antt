-- An edit of a table of pieces, from the edit of its runs.
use Rattle.std.proofs.Common.{◌≡◌, ℕ, zero, suc, ◌+◌, ◌-◌, ◌<◌, ◌≤◌, min, Bool, List, [], ◌∷◌, ◌++◌, map, take, drop, length, get_or, slice_get, Option, Some, None, IfSome, option_map, refl, sym, ap, subst, ◌∙◌, arith}
use Rattle.std.specs.List.{All}
use Rattle.std.specs.Option.{option_to_list}
use Rattle.std.proofs.lemmas.List.{map-append, drop_min, take-map, drop-map, take-take, length-map}
use Rattle.std.specs.Bool.{Decides}
use Rattle.run_tables.specs.Rows.{spliced}
use Rattle.run_tables.specs.Runs.{Run, Rises, moved, runs_of}
use Rattle.run_tables.specs.Edges.{IsPast, IsFirstPast, IsFirstEndingPast, IsMet, options, up_to, run_before, right_run, filled_run}
use Rattle.run_tables.proofs.SplicedRuns.{splice-runs}

-- what lies behind a row lies past each row above it
pub rising-past : {P K : Type 0} (run : P → Run K) (b q : ℕ) (xs : List P) → Rises q (map run xs) → b ≤ q → (k : ℕ) (d : P) → k < length xs → IsPast b (run (get_or xs k d))
rising-past run b q [] r h k d less = absurd (omega arith)
rising-past run b q (x ∷ xs) r h zero d less = (omega (arith, r.0), omega (arith, r.0, r.1))
rising-past run b q (x ∷ xs) r h (suc k) d less = rising-past run b ((run x).last + 1) xs r.2 (omega (arith, r.0, r.1)) k d (omega arith)

pub tail-past : {P K : Type 0} (run : P → Run K) (b q i : ℕ) (xs : List P) → Rises q (map run xs) → IfSome (slice_get (map run xs) i) (λ r. b < r.last) → All (λ p. IsPast b (run p)) (drop (suc i) xs)
tail-past run b q i [] r h = λ k d less. absurd (omega arith)
tail-past run b q zero (x ∷ xs) r h = rising-past run b ((run x).last + 1) xs r.2 (omega arith)
tail-past run b q (suc i) (x ∷ xs) r h = tail-past run b ((run x).last + 1) i xs r.2 h

none-begins : {K : Type 0} (b q j : ℕ) (t : List (Run K)) → Rises q t → b < q → j < length t → IfSome (slice_get t j) (λ r. r.first ≤ b) → ⊥
none-begins b q j [] r h less f = omega arith
none-begins b q zero (x ∷ t) r h less f = omega (arith, r.0)
none-begins b q (suc j) (x ∷ t) r h less f = none-begins b (x.last + 1) j t r.2 (omega (arith, r.0, r.1)) (omega arith) f

-- a run that begins at row b or above it doesn't lie behind one that ends past row b
pub ends-in-order : {K : Type 0} (b q i j : ℕ) (t : List (Run K)) → Rises q t → j < length t → IfSome (slice_get t i) (λ r. b < r.last) → IfSome (slice_get t j) (λ r. r.first ≤ b) → j ≤ i
ends-in-order b q i zero t r less e f = omega arith
ends-in-order b q i (suc j) [] r less e f = absurd (omega arith)
ends-in-order b q zero (suc j) (x ∷ t) r less e f = absurd (none-begins b (x.last + 1) j t r.2 (omega arith) (omega arith) f)
ends-in-order b q (suc i) (suc j) (x ∷ t) r less e f =
    let rest : j ≤ i = ends-in-order b (x.last + 1) i j t r.2 (omega arith) e f in
    omega arith

pub options-map : {P K : Type 0} (run : P → Run K) (o : Option P) → map run (option_to_list o) ≡ options (option_map run o)
options-map run None = refl
options-map run (Some x) = refl

-- the runs of a table with pieces put in, and moved ones behind them
pub put-in : {P K : Type 0} (run : P → Run K) (m : Run K → Run K) (start end : ℕ) (xs ys zs : List P) (x y z : Option P) → start ≤ end → take end ys ≡ take end xs → map run (drop end ys) ≡ map m (map run (drop end xs)) → zs ≡ take start ys ++ (option_to_list x ++ (option_to_list y ++ (option_to_list z ++ drop end ys))) → map run zs ≡ take start (map run xs) ++ (options (option_map run x) ++ (options (option_map run y) ++ (options (option_map run z) ++ map m (drop end (map run xs)))))
put-in run m start end xs ys zs x y z order front back is =
    let fronts : take start ys ≡ take start xs = sym (take-take start end ys order) ∙ ap (take start) front ∙ take-take start end xs order in
    let tail : map run (drop end ys) ≡ map m (drop end (map run xs)) = back ∙ ap (map m) (sym (drop-map run end xs)) in
    let third : map run (option_to_list z ++ drop end ys) ≡ options (option_map run z) ++ map m (drop end (map run xs)) =
    map-append run (option_to_list z) (drop end ys) ∙ ap (λ v. v ++ map run (drop end ys)) (options-map run z) ∙ ap (λ v. options (option_map run z) ++ v) tail in
    let second : map run (option_to_list y ++ (option_to_list z ++ drop end ys)) ≡ options (option_map run y) ++ (options (option_map run z) ++ map m (drop end (map run xs))) =
    map-append run (option_to_list y) (option_to_list z ++ drop end ys) ∙ ap (λ v. v ++ map run (option_to_list z ++ drop end ys)) (options-map run y) ∙ ap (λ v. options (option_map run y) ++ v) third in
    let first : map run (option_to_list x ++ (option_to_list y ++ (option_to_list z ++ drop end ys))) ≡ options (option_map run x) ++ (options (option_map run y) ++ (options (option_map run z) ++ map m (drop end (map run xs)))) =
    map-append run (option_to_list x) (option_to_list y ++ (option_to_list z ++ drop end ys)) ∙ ap (λ v. v ++ map run (option_to_list y ++ (option_to_list z ++ drop end ys))) (options-map run x) ∙ ap (λ v. options (option_map run x) ++ v) second in
    ap (map run) is
    ∙ map-append run (take start ys) (option_to_list x ++ (option_to_list y ++ (option_to_list z ++ drop end ys)))
    ∙ ap (λ v. map run v ++ map run (option_to_list x ++ (option_to_list y ++ (option_to_list z ++ drop end ys)))) fronts
    ∙ ap (λ v. v ++ map run (option_to_list x ++ (option_to_list y ++ (option_to_list z ++ drop end ys)))) (sym (take-map run start xs))
    ∙ ap (λ v. take start (map run xs) ++ v) first

pub tail-past-min : {P K : Type 0} (run : P → Run K) (b i end : ℕ) (xs : List P) → Rises 1 (map run xs) → IsFirstEndingPast b (map run xs) i → end ≡ min (length xs) (i + 1) → All (λ p. IsPast b (run p)) (drop end xs)
tail-past-min run b i end xs r f e =
    let place : end ≡ min (suc i) (length xs) = omega arith in
    subst (All (λ p. IsPast b (run p))) (sym (ap (λ n. drop n xs) place ∙ drop_min (suc i) xs)) (tail-past run b 1 i xs r f.here)

pub ends-fit : {P K : Type 0} (run : P → Run K) (a b low high start end : ℕ) (xs : List P) → a ≤ b → Rises 1 (map run xs) → low ≤ length xs → high ≤ length xs → IsFirstPast a (map run xs) low → IsFirstEndingPast b (map run xs) high → start ≡ low - 1 → end ≡ min (length xs) (high + 1) → start ≤ end
ends-fit run a b zero high start end xs h r in_low in_high f g s e = omega arith
ends-fit {P} {K} run a b (suc j) high start end xs h r in_low in_high f g s e =
    let less : j < length (map run xs) = omega (arith, length-map xs run) in
    let begins : IfSome (slice_get (map run xs) j) (λ v. v.first ≤ b) = weaker (slice_get (map run xs) j) (f.before j (omega arith)) in
    let order : j ≤ high = ends-in-order b 1 high j (map run xs) r less g.here begins in
    omega arith
  where
    weaker : (o : Option (Run K)) → IfSome o (λ v. v.first ≤ a) → IfSome o (λ v. v.first ≤ b)
    weaker None w = tt
    weaker (Some v) w = omega arith

-- an edit of a table is the edit of its rows
pub spliced-table : {P K : Type 0} (run : P → Run K) (same : K → K → Bool) → ((k l : K) → Decides (same k l) (k ≡ l)) → (a b n low high start end : ℕ) (key : Option K) (xs ys zs : List P) (left right fill middle first second third : Option P)
    → a ≤ b → Rises 1 (map run xs) → low ≤ length xs → high ≤ length xs → IsFirstPast a (map run xs) low → IsFirstEndingPast b (map run xs) high
    → start ≡ low - 1 → end ≡ min (length xs) (high + 1)
    → option_map run left ≡ option_map (up_to a) (run_before (map run xs) low) → option_map run right ≡ right_run b (a + n) (map run xs) high → option_map run fill ≡ filled_run a n key
    → IsMet same (option_map run fill) (option_map run right) (option_map run middle) (option_map run third) → IsMet same (option_map run left) (option_map run middle) (option_map run first) (option_map run second)
    → take end ys ≡ take end xs → map run (drop end ys) ≡ map (moved b (a + n)) (map run (drop end xs))
    → zs ≡ take start ys ++ (option_to_list first ++ (option_to_list second ++ (option_to_list third ++ drop end ys)))
    → (s : List (Option K)) → b ≤ length s → map run xs ≡ runs_of same s → map run zs ≡ runs_of same (spliced a b n key s)
spliced-table run same decides a b n low high start end key xs ys zs left right fill middle first second third h r in_low in_high f g at_start at_end is_left is_right is_fill met_right met_left front back is s long t =
    let len : length (map run xs) ≡ length xs = length-map xs run in
    let met_fill : IsMet same (filled_run a n key) (right_run b (a + n) (map run xs) high) (option_map run middle) (option_map run third) =
    subst (λ o. IsMet same o (right_run b (a + n) (map run xs) high) (option_map run middle) (option_map run third)) is_fill
    (subst (λ o. IsMet same (option_map run fill) o (option_map run middle) (option_map run third)) is_right met_right) in
    let met_front : IsMet same (option_map (up_to a) (run_before (map run xs) low)) (option_map run middle) (option_map run first) (option_map run second) =
    subst (λ o. IsMet same o (option_map run middle) (option_map run first) (option_map run second)) is_left met_left in
    let place : end ≡ min (suc high) (length (map run xs)) = omega arith in
    let order : start ≤ end = ends-fit run a b low high start end xs h r in_low in_high f g at_start at_end in
    put-in run (moved b (a + n)) start end xs ys zs first second third order front back is
    ∙ ap (λ i. take i (map run xs) ++ (options (option_map run first) ++ (options (option_map run second) ++ (options (option_map run third) ++ map (moved b (a + n)) (drop end (map run xs)))))) at_start
    ∙ ap (λ v. take (low - 1) (map run xs) ++ (options (option_map run first) ++ (options (option_map run second) ++ (options (option_map run third) ++ map (moved b (a + n)) v))))
    (ap (λ i. drop i (map run xs)) place ∙ drop_min (suc high) (map run xs))
    ∙ sym (splice-runs same decides a b n key s (map run xs) low high (option_map run first) (option_map run second) (option_map run third) (option_map run middle) (omega arith) t (omega arith) (omega arith) f g met_fill met_front)
