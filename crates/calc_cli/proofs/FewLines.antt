-- There are no more lines than bytes.
use Rattle.std.proofs.Common.{ℕ, ◌+◌, ◌≤◌, ◌==◌, Bool, true, false, cond, List, [], ◌∷◌, length, arith}
use Rattle.std.specs.List.{onto_first}
use Rattle.byte_cuts.specs.Lines.{lines_of}
use Rattle.byte_cuts.specs.declared.line.TheConstants.{LINE_FEED}

onto_length : (x n : ℕ) (parts : List (List ℕ)) (ends : Bool) → length parts ≤ n → length (cond ends ([] ∷ parts) (onto_first x parts)) ≤ n + 1
onto_length x n parts true h = omega (arith, h)
onto_length x n [] false h = omega arith
onto_length x n (part ∷ parts) false h = omega (arith, h)

pub few_lines : (xs : List ℕ) → length (lines_of xs) ≤ length xs
few_lines [] = omega arith
few_lines (x ∷ xs) = omega (arith, onto_length x (length xs) (lines_of xs) (x == LINE_FEED) (few_lines xs))
