-- Edits of a column's rows. A column is the list of what its rows hold, row 1 first.
use Rattle.std.specs.Prelude.{ℕ, ◌+◌, ◌≤◌, List, ◌++◌, length, take, drop, replicate}
use Rattle.calc_addr.specs.declared.cell.TheConstants.{LAST_ROW}

-- the rows from the first to the last are rows of a sheet
pub record AreRows (first last : ℕ) : Type 0 where
  pub from : 1 ≤ first
  pub in_order : first ≤ last
  pub to : last ≤ LAST_ROW

-- so many rows can be put in, or taken out, at the place
pub record IsRowEdit (place count : ℕ) : Type 0 where
  pub from : 1 ≤ place
  pub some : 1 ≤ count
  pub to : place + count ≤ LAST_ROW + 1

-- the places from a to b become n rows that hold e
abbrev pub spliced : {T : Type 0} → ℕ → ℕ → ℕ → T → List T → List T
spliced a b n e s = take a s ++ (replicate n e ++ drop b s)

-- the n rows behind the first a hold e
abbrev pub rows_set : {T : Type 0} → ℕ → ℕ → T → List T → List T
rows_set a n e s = spliced a (a + n) n e s

-- n rows that hold e are put in behind the first a, and as many go at the end
abbrev pub rows_inserted : {T : Type 0} → ℕ → ℕ → T → List T → List T
rows_inserted a n e s = take (length s) (spliced a a n e s)

-- the n rows behind the first a go, and as many that hold e come at the end
abbrev pub rows_erased : {T : Type 0} → ℕ → ℕ → T → List T → List T
rows_erased a n e s = take a s ++ (drop (a + n) s ++ replicate n e)
