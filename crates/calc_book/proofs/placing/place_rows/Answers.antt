-- A row's contents are put into its cells.
use Rattle.std.proofs.Common.{◌≡◌, ◌+◌, ◌≤◌, List, [], length, map, sym, ap, subst, ◌∙◌, arith, Vec}
use Rattle.std.specs.declared.alloc.Global.{Global}
use Rattle.std.specs.List.{All}
use Rattle.std.specs.Prelude.{sum_by}
use Rattle.std.proofs.lemmas.List.Elements.{All-tail}
use Rattle.std.proofs.lemmas.List.Sums.{sum_by-cons}
use Rattle.std.specs.Vec.Iter.{into_iter_items}
use Rattle.calc_addr.specs.declared.cell.TheConstants.{LAST_COL, LAST_ROW}
use Rattle.calc_model.specs.declared.content.Content.{Content}
use Rattle.calc_model.specs.declared.limits.TheConstants.{MOST_CELLS}
use Rattle.calc_book.specs.Placed.{held_in, with_rows}
use Rattle.calc_book.proofs.placing.place_rows.Goals as goal

-- the contents of rows
abbrev contents_of : List (Vec Content Global) → List (List Content)
contents_of rows = map (λ row. row.items) rows

pub loop-contents-preserved : goal.loop-contents-preserved
loop-contents-preserved c =
    let inv = c.loop-contents.invariant in
    let cells = c.loop-contents.book.cells in
    let row = c.loop-contents.row in
    let first = c.in-Some.contents.items in
    let left : List (List Content) = contents_of (into_iter_items c.next.new.self) in
    let steps = c.in-Some.ensures.steps.0 in
    let few = subst (λ (rows : List (Vec Content Global)). row + length (contents_of rows) ≤ LAST_ROW + 1) steps inv.few in
    let most = length c.args.book.now.cells + sum_by held_in (contents_of c.args.rows.items) in
    let behind = c.args.first + length (contents_of c.args.rows.items) in
    let rows = subst (λ (rows : List (Vec Content Global)). row + length (contents_of rows) ≡ behind) steps inv.rows in
    let room = subst (λ (rows : List (Vec Content Global)). length cells + sum_by held_in (contents_of rows) ≤ most) steps inv.room in
    let sum = sum_by-cons held_in first left in
    record {
      so_far = ap (λ cells. with_rows (row + 1) cells left) c.in_ok-place_row.ensures.cells ∙ sym (ap (λ (rows : List (Vec Content Global)). with_rows row cells (contents_of rows)) steps) ∙ inv.so_far;
      names = c.in_ok-place_row.ensures.names ∙ inv.names;
      from = omega arith;
      rows = omega (arith, rows);
      few = omega (arith, few);
      cols = All-tail (λ row. length row ≤ LAST_COL) first left (subst (λ (rows : List (Vec Content Global)). All (λ row. length row ≤ LAST_COL) (contents_of rows)) steps inv.cols);
      room = omega (arith, room, sum, c.in_ok-place_row.ensures.room);
      whole = inv.whole;
    }

pub place_row-requires-clause-few : goal.place_row-requires-clause-few
place_row-requires-clause-few c =
    subst (λ (rows : List (Vec Content Global)). All (λ row. length row ≤ LAST_COL) (contents_of rows)) c.in-Some.ensures.steps.0 c.loop-contents.invariant.cols 0 [] (omega arith)
