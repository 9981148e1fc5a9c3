use Rattle.std.proofs.Common.{◌≡◌, ℕ, ◌≤◌, ◌<◌, List, [], length, slice_index_or, sym, ap, subst, arith}
use Rattle.block_column.specs.Blocks.{blocks_of}
use Rattle.block_column.specs.SlotRows.{SlotRows}
use Rattle.calc_model.specs.declared.limits.TheConstants.{MOST_CELLS}
use Rattle.cell_columns.specs.Cells.{Column, column_at}
use Rattle.cell_columns.specs.Lent.{slots_of}
use Rattle.cell_columns.specs.Uses.{cell_of, summed}
use Rattle.cell_columns.specs.Walks.{filled_among}
use Rattle.cell_columns.proofs.Clearing.{column_is}
use Rattle.cell_columns.proofs.CountsMore.{all_few, count_more, rows_few}
use Rattle.cell_columns.proofs.Maps.{length_map}
use Rattle.cell_columns.proofs.Walks.{cells_none}
use Rattle.cell_columns.proofs.counting.count_cells.Goals as goal

pub loop-number-init : goal.loop-number-init
loop-number-init c codes = sym (ap length (cells_none codes c.args.from c.args.first c.args.last c.requires.rows.from (slots_of c.args.columns.now)))

-- the column's blocks and its place among the columns
module _ (columns : List SlotRows) (n : ℕ) (inside : n < length columns) (d : SlotRows) (is : d ≡ slice_index_or columns n d) where
  among : n < length (slots_of columns)
  among = subst (λ k. n < k) (sym (length_map (λ (c : SlotRows). c.slots) columns)) inside

  counted_in : (first last : ℕ) → filled_among first last (blocks_of d.slots) ≡ filled_among first last (blocks_of (column_at (slots_of columns) n))
  counted_in first last = ap (λ (s : Column). filled_among first last (blocks_of s)) (column_is columns n d inside is)

-- the rows of a column that hold something are few
few_rows : (columns : List SlotRows) (n : ℕ) (inside : n < length columns) (d : SlotRows) (is : d ≡ slice_index_or columns n d) (first last : ℕ) → 1 ≤ first → first ≤ last → summed cell_of (slots_of columns) ≤ MOST_CELLS → filled_among first last (blocks_of d.slots) ≤ MOST_CELLS
few_rows columns n inside d is first last from order few =
    omega (arith, counted_in columns n inside d is first last, rows_few n first last from order (slots_of columns) n (among columns n inside d is), few)

pub count_rows-count-requires-clause-few : goal.count_rows-count-requires-clause-few
count_rows-count-requires-clause-few c =
    let inside : c.loop-number.number < length c.args.columns.now = omega (arith, c.loop-number-test.true, c.requires.among, c.requires.all) in
    omega (
      arith,
      ap (filled_among c.args.first c.args.last) c.blocks-in-loop-number.ensures,
      few_rows c.args.columns.now c.loop-number.number inside c.index-columns-number.result c.index-columns-number.is c.args.first c.args.last c.requires.rows.from c.requires.rows.in_order c.requires.few,
    )

pub overflow_add-count : goal.overflow_add-count
overflow_add-count c =
    let inside : c.loop-number.number < length c.args.columns.now = omega (arith, c.loop-number-test.true, c.requires.among, c.requires.all) in
    omega (
      arith,
      c.loop-number.invariant [],
      all_few [] (slots_of c.args.columns.now) c.args.from c.loop-number.number c.args.first c.args.last,
      c.requires.few,
      c.count_rows-count.ensures,
      ap (filled_among c.args.first c.args.last) c.blocks-in-loop-number.ensures,
      few_rows c.args.columns.now c.loop-number.number inside c.index-columns-number.result c.index-columns-number.is c.args.first c.args.last c.requires.rows.from c.requires.rows.in_order c.requires.few,
    )

pub loop-number-preserved : goal.loop-number-preserved
loop-number-preserved c codes =
    let columns = c.args.columns.now in
    let n : ℕ = c.loop-number.number in
    let inside : n < length columns = omega (arith, c.loop-number-test.true, c.requires.among, c.requires.all) in
    omega (
      arith,
      c.loop-number.invariant codes,
      c.count_rows-count.ensures,
      ap (filled_among c.args.first c.args.last) c.blocks-in-loop-number.ensures,
      counted_in columns n inside c.index-columns-number.result c.index-columns-number.is c.args.first c.args.last,
      count_more c.args.from c.args.first c.args.last c.requires.rows.from c.requires.rows.in_order (slots_of columns) n (among columns n inside c.index-columns-number.result c.index-columns-number.is) codes c.loop-number.auto.number,
    )
