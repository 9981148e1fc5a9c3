use Rattle.std.proofs.Common.{◌≡◌, ℕ, ◌+◌, ◌≤◌, ◌<◌, List, [], length, slice_index_or, take, sym, ap, subst, ◌∙◌, arith}
use Rattle.std.specs.Prelude.{sum_by}
use Rattle.std.proofs.lemmas.List.Sums.{get_or-le-sum_by, sum_by-take-le, sum_by_more}
use Rattle.calc_addr.specs.declared.cell.TheConstants.{LAST_ROW}
use Rattle.block_column.specs.Blocks.{blocks_of}
use Rattle.block_column.specs.SlotRows.{SlotRows}
use Rattle.kept_codes.specs.declared.cells.TheConstants.{COLUMNS}
use Rattle.cell_columns.specs.Cells.{Column, column_at}
use Rattle.cell_columns.specs.Lent.{slots_of}
use Rattle.cell_columns.specs.Uses.{formula_of, formulas_in}
use Rattle.cell_columns.specs.Walks.{formulas_by_blocks}
use Rattle.cell_columns.proofs.Clearing.{column_is}
use Rattle.cell_columns.proofs.Filled.{formulas_alike_blocks}
use Rattle.cell_columns.proofs.Maps.{length_map}
use Rattle.cell_columns.proofs.counting.all_formulas.Goals as goal

abbrev held_in : Column → ℕ
held_in c = sum_by formula_of c

-- the formulas of one column, by its blocks, among those of all
module _ (columns : List SlotRows) (all : length columns ≡ COLUMNS) (long : (number : ℕ) → number < COLUMNS → length (column_at (slots_of columns) number) ≡ LAST_ROW) (n : ℕ) (number : n < COLUMNS) (d : SlotRows) (is : d ≡ slice_index_or columns n d) where
  here : formulas_by_blocks (blocks_of d.slots) ≡ held_in (column_at (slots_of columns) n)
  here =
      let same : d.slots ≡ column_at (slots_of columns) n = column_is columns n d (subst (λ k. n < k) (sym all) number) is in
      ap (λ (c : Column). formulas_by_blocks (blocks_of c)) same ∙ formulas_alike_blocks (column_at (slots_of columns) n) (long n number)

  among : n < length (slots_of columns)
  among = subst (λ k. n < k) (sym (length_map (λ (c : SlotRows). c.slots) columns ∙ all)) number

  few : formulas_by_blocks (blocks_of d.slots) ≤ formulas_in (slots_of columns)
  few = omega (arith, here, get_or-le-sum_by held_in (slots_of columns) n [] among)

  more : formulas_in (take (n + 1) (slots_of columns)) ≡ formulas_in (take n (slots_of columns)) + formulas_by_blocks (blocks_of d.slots)
  more = omega (arith, here, sum_by_more held_in (slots_of columns) n [] among)

  so_far : formulas_in (take (n + 1) (slots_of columns)) ≤ formulas_in (slots_of columns)
  so_far = sum_by-take-le held_in (slots_of columns) (n + 1)

pub count_formulas-count-requires : goal.count_formulas-count-requires
count_formulas-count-requires c =
    record {
      few = omega (arith, ap formulas_by_blocks c.blocks-in-loop-number.ensures, few c.args.columns.now c.requires.all c.requires.long c.loop-number.number c.loop-number-test.true c.index-columns-number.result c.index-columns-number.is, c.requires.few);
    }

pub overflow_add-count : goal.overflow_add-count
overflow_add-count c =
    omega (
      arith,
      c.loop-number.invariant,
      c.count_formulas-count.ensures,
      ap formulas_by_blocks c.blocks-in-loop-number.ensures,
      more c.args.columns.now c.requires.all c.requires.long c.loop-number.number c.loop-number-test.true c.index-columns-number.result c.index-columns-number.is,
      so_far c.args.columns.now c.requires.all c.requires.long c.loop-number.number c.loop-number-test.true c.index-columns-number.result c.index-columns-number.is,
      c.requires.few,
    )

pub loop-number-preserved : goal.loop-number-preserved
loop-number-preserved c =
    omega (
      arith,
      c.loop-number.invariant,
      c.count_formulas-count.ensures,
      ap formulas_by_blocks c.blocks-in-loop-number.ensures,
      more c.args.columns.now c.requires.all c.requires.long c.loop-number.number c.loop-number-test.true c.index-columns-number.result c.index-columns-number.is,
    )
