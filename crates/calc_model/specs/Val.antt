-- What each cell of a book shows, evaluated alone from scratch: round after round from the cells that
-- hold no formula, as many rounds as there are formulas and one more. A cell that reaches a circle of
-- reading shows that, and nothing else of its formula counts.
use Rattle.std.specs.Prelude.{ℕ, zero, suc, ◌+◌, Bool, true, if◌then◌else◌}
use Rattle.calc_addr.specs.Places.{Place}
use Rattle.calc_model.specs.declared.fault.Fault.TheVariants.{Syntax, Circular}
use Rattle.calc_model.specs.declared.value.Value.{Value}
use Rattle.calc_model.specs.declared.value.Value.TheVariants.{Bad, Blank}
use Rattle.calc_model.specs.declared.content.Content.{Content}
use Rattle.calc_model.specs.declared.content.Content.TheVariants.{Empty, Constant, Formula, Raw}
use Rattle.calc_model.specs.Books.{Book, content_at, area_named, formula_count}
use Rattle.calc_model.specs.Reads.{Names}
use Rattle.calc_model.specs.Grounded.{is_circular}
use Rattle.calc_model.specs.Scalars.{CellValues}
use Rattle.calc_model.specs.Eval.{eval, top}

-- what a cell shows over the values of the cells that it reads
abbrev pub cell_value : Names → Bool → CellValues → Place → Content → Value
cell_value names circular values cell Empty = Blank
cell_value names circular values cell (Constant value) = value
cell_value names circular values cell (Raw text) = Bad Syntax
cell_value names circular values cell (Formula tree) =
    if circular then Bad Circular else top (eval cell names values tree)

-- the values after k rounds; before the first, each formula counts as circular
abbrev pub after_rounds : Book → ℕ → CellValues
after_rounds book zero cell = cell_value (area_named book) true (λ _. Blank) cell (content_at book cell)
after_rounds book (suc k) cell =
    cell_value (area_named book) (is_circular book cell) (after_rounds book k) cell (content_at book cell)

abbrev pub val : Book → CellValues
val book = after_rounds book (formula_count book + 1)
