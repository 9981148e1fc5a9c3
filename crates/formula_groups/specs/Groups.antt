-- The groups of a column: its maximal runs of formula cells with equal codes. Codes are equal exactly where the
-- formulas' relative forms are.
use Rattle.std.specs.Prelude.{ℕ, ◌==◌, List, map, Option, None, replicate}
use Rattle.calc_addr.specs.declared.cell.TheConstants.{LAST_ROW}
use Rattle.run_tables.specs.Runs.{Run, runs_of, entries}
use Rattle.formula_groups.specs.declared.group.Group.{Group}

abbrev pub group_run : Group → Run ℕ
group_run g = record { first = g.first; last = g.last; key = g.code }

abbrev pub a_group : Run ℕ → Group
a_group r = record { first = r.first; last = r.last; code = r.key }

-- the groups of a column
abbrev pub groups_of : List (Option ℕ) → List Group
groups_of s = map a_group (runs_of (λ k l. k == l) s)

-- the codes that a table of groups gives the rows of a column
abbrev pub codes_of : List Group → List (Option ℕ)
codes_of t = entries LAST_ROW (map group_run t)

-- a column without formulas
unfoldable pub no_codes : List (Option ℕ)
no_codes = replicate LAST_ROW None
