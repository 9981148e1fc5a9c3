-- What a column of values is seen as.
use Rattle.std.specs.Prelude.{ℕ, ◌+◌, ◌≤◌, List, ◌++◌, take, drop, length, replicate}
use Rattle.calc_addr.specs.declared.cell.TheConstants.{LAST_ROW}
use Rattle.calc_model.specs.declared.value.Value.{Value}
use Rattle.calc_model.specs.declared.value.Value.TheVariants.{Blank}

-- the value of each row, row 1 first, and how many single rows can be set or cleared before memory is asked for
pub record ValueRows : Type 0 where
  pub values : List Value
  pub spare : ℕ

-- a column that shows nothing
unfoldable pub no_values : List Value
no_values = replicate LAST_ROW Blank

-- the rows behind the first a show the values
abbrev pub run_set : ℕ → List Value → List Value → List Value
run_set a vs s = take a s ++ (vs ++ drop (a + length vs) s)

-- the values have rows of a sheet from row first on
pub record IsRun (first count : ℕ) : Type 0 where
  pub from : 1 ≤ first
  pub to : first + count ≤ LAST_ROW + 1
