-- A content is put into its cell.
use Rattle.std.proofs.Common.{◌+◌, ◌≤◌, List, length, sym, ap, subst, ◌∙◌, arith}
use Rattle.std.specs.Vec.Iter.{into_iter_items}
use Rattle.calc_addr.specs.Places.{Place}
use Rattle.calc_addr.specs.declared.cell.TheConstants.{LAST_COL}
use Rattle.calc_model.specs.declared.content.Content.{Content}
use Rattle.calc_book.specs.Placed.{held_in, with_contents}
use Rattle.calc_book.proofs.Counted.{room_behind, room_for_one}
use Rattle.calc_book.proofs.placing.place_row.Goals as goal

pub set-requires : goal.set-requires
set-requires c =
    let inv = c.loop-content.invariant in
    let cells = c.loop-content.book.cells in
    let place : Place = record { sheet = 0; col = c.loop-content.col; row = c.args.row } in
    let most = length c.args.book.now.cells + held_in c.args.contents.items in
    let room = subst (λ (contents : List Content). length cells + held_in contents ≤ most) c.in-Some.ensures.steps.0 inv.room in
    record { room = omega (arith, c.requires.room, room_for_one cells place c.in-Some.content (into_iter_items c.next.new.self) most room) }

pub loop-content-preserved : goal.loop-content-preserved
loop-content-preserved c =
    let inv = c.loop-content.invariant in
    let cells = c.loop-content.book.cells in
    let place : Place = record { sheet = 0; col = c.loop-content.col; row = c.args.row } in
    let left : List Content = into_iter_items c.next.new.self in
    let steps = c.in-Some.ensures.steps.0 in
    let most = length c.args.book.now.cells + held_in c.args.contents.items in
    let room = subst (λ (contents : List Content). length cells + held_in contents ≤ most) steps inv.room in
    let few = subst (λ (contents : List Content). c.loop-content.col + length contents ≤ LAST_COL + 1) steps inv.few in
    let put = c.in_ok-set.ensures.cells in
    record {
      so_far = ap (λ cells. with_contents c.args.row (c.loop-content.col + 1) cells left) put ∙ sym (ap (with_contents c.args.row c.loop-content.col cells) steps) ∙ inv.so_far;
      names = c.in_ok-set.ensures.names ∙ inv.names;
      from = omega arith;
      few = omega (arith, few);
      room = omega (arith, ap length put, room_behind cells place c.in-Some.content left most room);
    }
