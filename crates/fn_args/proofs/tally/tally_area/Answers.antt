use Rattle.std.proofs.Common.{ap, sym, ◌∙◌, length, rules, subst}
use Rattle.std.proofs.lemmas.List.{length-append}
use Rattle.calc_model.specs.Meanings.{values_in}
use Rattle.calc_model.specs.UsedCells.{values_of}
use Rattle.fn_args.specs.Tallies.{numbers_in_cells}
use Rattle.fn_args.proofs.Tallying.{IsUnderWay, begins, ends, goes_on, numbers-before, room_here, stops}
use Rattle.fn_args.proofs.tally.tally_area.Goals as goal

pub loop-piece-init : goal.loop-piece-init
loop-piece-init g c =
    let all = values_in (g.V.Values.values c.args.values.now) c.args.area in (
      subst (λ xs. IsUnderWay g.T.Tally.step g.T.Tally.room c.args.taker.now (length all) (numbers_in_cells all) (numbers_in_cells xs) (length xs) c.args.taker.now)
          (sym (c.into_iter-piece-iterator.ensures.into_iter_gives ∙ c.of-piece-items.ensures))
          (begins g.T.Tally.step g.T.Tally.room c.args.taker.now (length all) (numbers_in_cells all)),
      tt,
      tt,
    )

pub tally_piece-requires : goal.tally_piece-requires
tally_piece-requires g c =
    let e = c.in-Some.ensures.steps.front in
    let front = values_of c.in-Some.piece in
    let more = c.next.new.self in
    room_here g.T.Tally.step g.T.Tally.room _ _ _ (numbers_in_cells front) (numbers_in_cells more) _ _ _ _ c.loop-piece.taker c.loop-piece.taker
    (ap numbers_in_cells e ∙ numbers-before front more) (ap length e ∙ length-append front more) c.loop-piece.invariant.0 g.met.T.Tally.room_behind c.requires

pub loop-piece-preserved : goal.loop-piece-preserved
loop-piece-preserved g c =
    let e = c.in-Some.ensures.steps.front in
    let front = values_of c.in-Some.piece in
    let more = c.next.new.self in
    let given = c.in_ok-tally_piece.ensures {u = tt} in (
      goes_on g.T.Tally.step g.T.Tally.room _ _ _ (numbers_in_cells front) (numbers_in_cells more) _ _ _ _ c.loop-piece.taker c.tally_piece.new.taker
          (ap numbers_in_cells e ∙ numbers-before front more) (ap length e ∙ length-append front more) c.loop-piece.invariant.0
          given.0 given.1 given.2 given.3,
      tt,
      tt,
    )

pub returns-in_err-tally_piece : goal.returns-in_err-tally_piece
returns-in_err-tally_piece g c =
    let e = c.in-Some.ensures.steps.front in
    let front = values_of c.in-Some.piece in
    let more = c.next.new.self in
    let bad = stops g.T.Tally.step g.T.Tally.room _ _ _ (numbers_in_cells front) (numbers_in_cells more) _ _ _ _ c.loop-piece.taker c.tally_piece.new.taker
    (ap numbers_in_cells e ∙ numbers-before front more) (ap length e ∙ length-append front more) c.loop-piece.invariant.0 c.in_err-tally_piece.field-0.0 (c.in_err-tally_piece.ensures {u = tt}) in
    search (rules, bad)

pub returns : goal.returns
unfolding numbers_in_cells
returns g c =
    let none = (c.in-None.ensures {u = tt}).steps.0 in
    ends g.T.Tally.step g.T.Tally.room c.args.taker.now _ _ (numbers_in_cells c.loop-piece.piece-iterator) _ _
    (ap numbers_in_cells none) (ap length none) c.loop-piece.invariant.0
