-- Results of formulas that are known so far, on the way to what every cell shows.
use Rattle.std.specs.Prelude.{◌≡◌, Bool, true, false, not, ◌||◌, Option, Some, is_some, unwrap_or, cond}
use Rattle.std.specs.Ordering.{eq_by_cmp}
use Rattle.calc_addr.specs.Places.{Place, place_cmp}
use Rattle.calc_model.specs.declared.fault.Fault.TheVariants.{Syntax, Circular}
use Rattle.calc_model.specs.declared.value.Value.{Value}
use Rattle.calc_model.specs.declared.value.Value.TheVariants.{Bad, Blank}
use Rattle.calc_model.specs.declared.content.Content.{Content}
use Rattle.calc_model.specs.declared.content.Content.TheVariants.{Empty, Constant, Formula, Raw}
use Rattle.calc_model.specs.declared.tree.Tree.{Tree}
use Rattle.calc_model.specs.Books.{Book, content_at, area_named, is_formula}
use Rattle.calc_model.specs.Grounded.{all_cells, is_circular}
use Rattle.calc_model.specs.Reads.{reads, areas}
use Rattle.calc_model.specs.Scalars.{CellValues}
use Rattle.calc_model.specs.Val.{val}

abbrev pub Results : Type 0
Results = Place → Option Value

-- what a cell shows by these results; a formula with none counts as circular
abbrev pub shown_content : Option Value → Content → Value
shown_content result Empty = Blank
shown_content result (Constant value) = value
shown_content result (Raw text) = Bad Syntax
shown_content result (Formula tree) = unwrap_or result (Bad Circular)

abbrev pub shown_by : Book → Results → CellValues
shown_by book results cell = shown_content (results cell) (content_at book cell)

-- whether what the cell shows is known: it holds no formula, or has a result
abbrev pub is_known : Book → Results → Place → Bool
is_known book results cell = not (is_formula (content_at book cell)) || is_some (results cell)

-- whether each cell that a formula at home reads is known
unfoldable pub is_tree_ready : Book → Results → Place → Tree → Bool
is_tree_ready book results home tree = all_cells (is_known book results) (areas home (area_named book) tree)

-- whether each cell that the cell reads is known
abbrev pub is_ready : Book → Results → Place → Bool
is_ready book results cell = all_cells (is_known book results) (reads book cell)

-- each known cell shows what it shows in the book, and reaches no circle
pub record IsSound (book : Book) (results : Results) : Type 0 where
  pub right : (cell : Place) → is_known book results cell ≡ true → shown_by book results cell ≡ val book cell
  pub grounded : (cell : Place) → is_known book results cell ≡ true → is_circular book cell ≡ false

-- no formula that has no result is ready
abbrev pub IsFinished : Book → Results → Type 0
IsFinished book results = (cell : Place) → is_known book results cell ≡ false → is_ready book results cell ≡ false

-- every cell shows what it shows in the book
abbrev pub ShowsAll : Book → Results → Type 0
ShowsAll book results = (cell : Place) → shown_by book results cell ≡ val book cell

-- the results with one more: the cell has this value
abbrev pub Sets : Results → Results → Place → Value → Type 0
Sets old new cell value = (q : Place) → new q ≡ cond (eq_by_cmp place_cmp cell q) (Some value) (old q)
