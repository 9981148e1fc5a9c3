use Rattle.std.proofs.Common.{◌≡◌, ℕ, ◌<◌, List, [], ◌∷◌, ◌++◌, length, refl, sym, ap, subst, ◌∙◌, arith}
use Rattle.calc_addr.specs.Places.{Place}
use Rattle.block_column.specs.SlotRows.{SlotRows}
use Rattle.cell_columns.specs.Cells.{Column, cells_of, column_at}
use Rattle.cell_columns.specs.Lent.{slots_of}
use Rattle.cell_columns.specs.Walks.{places_below, places_of, rows_in, within_rows}
use Rattle.cell_columns.proofs.Clearing.{column_is}
use Rattle.cell_columns.proofs.CountsMore.{places_more}
use Rattle.cell_columns.proofs.Maps.{length_map}
use Rattle.cell_columns.proofs.Walks.{cells_none}
use Rattle.cell_columns.proofs.walking.push_cells.Goals as goal

at_end : (ps : List Place) → ps ++ [] ≡ ps
at_end [] = refl
at_end (p ∷ ps) = ap (λ t. p ∷ t) (at_end ps)

joined : (a b d : List Place) → (a ++ b) ++ d ≡ a ++ (b ++ d)
joined [] b d = refl
joined (x ∷ a) b d = ap (λ t. x ∷ t) (joined a b d)

pub loop-number-init : goal.loop-number-init
loop-number-init c codes =
    sym (ap (λ es. c.args.out.now.items ++ places_of es) (cells_none codes c.args.from c.args.first c.args.last c.requires.rows.from (slots_of c.args.columns.now)) ∙ at_end c.args.out.now.items)

pub push_rows-requires-clause-rows : goal.push_rows-requires-clause-rows
push_rows-requires-clause-rows c =
    let columns = c.args.columns.now in
    let n : ℕ = c.loop-number.number in
    let inside : n < length columns = omega (arith, c.loop-number-test.true, c.requires.among, c.requires.all) in
    ap length (column_is columns n c.index-columns-number.result inside c.index-columns-number.is) ∙ c.requires.long n (omega (arith, c.loop-number-test.true, c.requires.among))

pub loop-number-preserved : goal.loop-number-preserved
loop-number-preserved c codes =
    let columns = c.args.columns.now in
    let n : ℕ = c.loop-number.number in
    let inside : n < length columns = omega (arith, c.loop-number-test.true, c.requires.among, c.requires.all) in
    let among : n < length (slots_of columns) = subst (λ k. n < k) (sym (length_map (λ (c : SlotRows). c.slots) columns)) inside in
    let so_far : List Place = places_of (within_rows c.args.from n c.args.first c.args.last (cells_of codes (slots_of columns))) in
    c.in_ok-push_rows.ensures
    ∙ ap (λ ps. ps ++ places_below n c.args.first (rows_in c.args.first c.args.last c.index-columns-number.result.slots)) (c.loop-number.invariant codes)
    ∙ ap (λ (s : Column). (c.args.out.now.items ++ so_far) ++ places_below n c.args.first (rows_in c.args.first c.args.last s)) (column_is columns n c.index-columns-number.result inside c.index-columns-number.is)
    ∙ joined c.args.out.now.items so_far (places_below n c.args.first (rows_in c.args.first c.args.last (column_at (slots_of columns) n)))
    ∙ ap (λ ps. c.args.out.now.items ++ ps) (sym (places_more c.args.from c.args.first c.args.last c.requires.rows.from c.requires.rows.in_order (slots_of columns) n among codes c.loop-number.auto.number))
