-- Edits of rows that are made in two steps.
use Rattle.std.proofs.Common.{◌≡◌, ℕ, zero, suc, ◌+◌, ◌-◌, ◌≤◌, ◌<◌, List, ◌∷◌, ◌++◌, take, drop, length, replicate, sym, ap, ◌∙◌, arith, append_assoc}
use Rattle.std.proofs.Math.ListN.{set}
use Rattle.std.proofs.Math.Seq.{take-append-add}
use Rattle.std.proofs.lemmas.List.{take-take, drop-take, drop_all, length-take-le, length-replicate, length-append, length-drop, set_split, append-nil}
use Rattle.run_tables.specs.Rows.{spliced, rows_set, rows_inserted, rows_erased}

pub length-spliced : {T : Type 0} (a b n : ℕ) (e : T) (s : List T) → a ≤ length s → length (spliced a b n e s) ≡ a + (n + (length s - b))
length-spliced a b n e s h = omega (arith, length-append (take a s) (replicate n e ++ drop b s), length-append (replicate n e) (drop b s), length-take-le a s h, length-replicate n e, length-drop b s)

pub length-rows_set : {T : Type 0} (a n : ℕ) (e : T) (s : List T) → a + n ≤ length s → length (rows_set a n e s) ≡ length s
length-rows_set a n e s h = omega (arith, length-spliced a (a + n) n e s)

-- one row set
pub rows_set-one : {T : Type 0} (a : ℕ) (e : T) (s : List T) → a < length s → rows_set a 1 e s ≡ set s a e
rows_set-one a e s h = let k : a + 1 ≡ suc a = omega arith in ap (λ i. take a s ++ e ∷ drop i s) k ∙ sym (set_split s a e h)

-- rows put in: first the last ones go
pub rows_inserted-steps : {T : Type 0} (a n m : ℕ) (e f : T) (s : List T) → length s ≡ m → a + n ≤ m → spliced a a n e (spliced (m - n) m zero f s) ≡ rows_inserted a n e s
rows_inserted-steps a n m e f s len h =
    let rest : ℕ = m - n - a in
    let at : m - n ≡ a + rest = omega arith in
    let whole : length s ≡ length (take a s) + (length (replicate n e) + rest) = omega (arith, length-take-le a s (omega arith), length-replicate n e) in
    let short : spliced (m - n) m zero f s ≡ take (a + rest) s = ap (λ v. take (m - n) s ++ v) (drop_all m s (omega arith)) ∙ append-nil (take (m - n) s) ∙ ap (λ i. take i s) at in
    ap (spliced a a n e) short
    ∙ ap (λ v. v ++ (replicate n e ++ drop a (take (a + rest) s))) (take-take a (a + rest) s (omega arith))
    ∙ ap (λ v. take a s ++ (replicate n e ++ v)) (drop-take a rest s)
    ∙ sym (ap (λ i. take i (spliced a a n e s)) whole ∙ take-append-add (take a s) (replicate n e ++ drop a s) (length (replicate n e) + rest)
    ∙ ap (λ v. take a s ++ v) (take-append-add (replicate n e) (drop a s) rest))

-- rows taken out, and then added at the end
pub rows_erased-steps : {T : Type 0} (a n : ℕ) (e f : T) (s : List T) → spliced a (a + n) zero f s ++ replicate n e ≡ rows_erased a n e s
rows_erased-steps a n e f s = append_assoc (take a s) (drop (a + n) s) (replicate n e)

pub length-rows_inserted : {T : Type 0} (a n : ℕ) (e : T) (s : List T) → a ≤ length s → length (rows_inserted a n e s) ≡ length s
length-rows_inserted a n e s h = length-take-le (length s) (spliced a a n e s) (omega (arith, length-spliced a a n e s h))

pub length-rows_erased : {T : Type 0} (a n : ℕ) (e : T) (s : List T) → a + n ≤ length s → length (rows_erased a n e s) ≡ length s
length-rows_erased a n e s h = omega (arith, length-append (take a s) (drop (a + n) s ++ replicate n e), length-append (drop (a + n) s) (replicate n e), length-take-le a s (omega arith), length-replicate n e, length-drop (a + n) s)
