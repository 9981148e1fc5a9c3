-- The groups and the blocks of a column of a book, as its cells alone have them. Groups are the maximal runs of rows
-- whose formulas have one relative form, and blocks those of rows whose cells are of one kind.
use base.Stored.{Gv, gnil, gnum, gcons}
use Rattle.std.specs.Prelude.{ℕ, ◌≤◌, ◌==◌, ◌&&◌, Bool, true, false, List, map, Option, Some, None}
use Rattle.std.specs.List.{All}
use Rattle.calc_addr.specs.declared.cell.TheConstants.{LAST_COL, LAST_ROW, LAST_SHEET}
use Rattle.calc_addr.specs.Places.{IsRows, Place, Rows, column_places}
use Rattle.calc_model.specs.contracts.tree.Tree as coded_tree
use Rattle.calc_model.specs.declared.content.Content.{Content}
use Rattle.calc_model.specs.declared.content.Content.TheVariants as content
use Rattle.calc_model.specs.declared.tree.Tree.{Tree}
use Rattle.calc_model.specs.declared.value.Value.TheVariants as value
use Rattle.calc_model.specs.Books.{Book, content_at}
use Rattle.run_tables.specs.Runs.{Run, runs_of}
use Rattle.formula_code.specs.Relative.{relative}
use Rattle.formula_groups.specs.declared.group.Group.{Group}
use Rattle.block_column.specs.declared.block.Block.{Block}
use Rattle.block_column.specs.declared.block.Kind.{Kind}
use Rattle.block_column.specs.declared.block.Kind.TheVariants.{Empty, Number, Words, Bad, Raw, Formula}
use Rattle.block_column.specs.Kinds.{same_kind}
use Rattle.block_column.specs.Blocks.{a_block}

-- there is such a column on such a sheet
pub record IsSheetColumn (sheet col : ℕ) : Type 0 where
  pub sheet_in : sheet ≤ LAST_SHEET
  pub from : 1 ≤ col
  pub to : col ≤ LAST_COL

-- the cells of a column, row 1 first
unfoldable pub cells_down : ℕ → ℕ → List Place
cells_down sheet col = column_places sheet col 1 LAST_ROW

-- what is stored of two values is the same
abbrev pub same_stored : Gv → Gv → Bool
same_stored gnil gnil = true
same_stored (gnum n) (gnum m) = n == m
same_stored (gcons a b) (gcons c d) = same_stored a c && same_stored b d
same_stored _ _ = false

-- two trees are one
unfoldable pub same_tree : Tree → Tree → Bool
same_tree x y = same_stored (coded_tree.the_row.coded.code x) (coded_tree.the_row.coded.code y)

-- the relative form of a cell's formula, if it holds one
abbrev pub form_of : Place → Content → Option Tree
form_of q (content.Formula tree) = Some (relative q tree)
form_of q _ = None

abbrev pub form_in : Book → Place → Option Tree
form_in book q = form_of q (content_at book q)

-- the groups of a column of a book, each with the relative form of its formulas
unfoldable pub groups_in : Book → ℕ → ℕ → List (Run Tree)
groups_in book sheet col = runs_of same_tree (map (form_in book) (cells_down sheet col))

-- the kind of what a cell holds
abbrev pub kind_of_content : Content → Kind
kind_of_content content.Empty = Empty
kind_of_content (content.Constant (value.Number n)) = Number
kind_of_content (content.Constant (value.Words text)) = Words
kind_of_content (content.Constant (value.Bad fault)) = Bad
kind_of_content (content.Constant _) = Empty
kind_of_content (content.Raw text) = Raw
kind_of_content (content.Formula tree) = Formula

abbrev pub kind_in : Book → Place → Kind
kind_in book q = kind_of_content (content_at book q)

-- the blocks of a column of a book
unfoldable pub blocks_in : Book → ℕ → ℕ → List Block
blocks_in book sheet col = map a_block (runs_of same_kind (map (λ q. Some (kind_in book q)) (cells_down sheet col)))

-- the rows of a run, a group and a block of a column
abbrev pub rows_of_run : ℕ → ℕ → Run Tree → Rows
rows_of_run sheet col run = record { sheet = sheet; col = col; first = run.first; last = run.last }

abbrev pub rows_of_group : ℕ → ℕ → Group → Rows
rows_of_group sheet col group = record { sheet = sheet; col = col; first = group.first; last = group.last }

abbrev pub rows_of_block : ℕ → ℕ → Block → Rows
rows_of_block sheet col block = record { sheet = sheet; col = col; first = block.first; last = block.last }

-- each of these lies in its column
abbrev pub AllLie : List Rows → Type 0
AllLie all = All (λ (rows : Rows). IsRows rows) all
