use Rattle.std.proofs.Common.{ℕ, ◌≤◌, length, refl, sym, subst, ◌∙◌, arith}
use Rattle.work_board.proofs.Bits.{mask}
use Rattle.work_board.proofs.Distinct.{at_most}
use Rattle.work_board.proofs.MarkEvents.{keeps, tells}
use Rattle.work_board.proofs.MarkSteps.{marks}
use Rattle.work_board.proofs.mark_pass.MarkBoard.mark.Goals as goal

pub fetch_or-found-requires : goal.fetch_or-found-requires
fetch_or-found-requires c =
    let board = c.args.self.now in
    let pass = c.args.pass.now in
    let bit : ℕ = c.args.bit in (
      c.requires.own.0,
      omega (arith, board.room, c.requires.inside),
      rw (mask bit) (marks board.table.shared.key pass.seat.id pass.seat.me.0 (c.requires.own.1 ∙ sym board.told) pass.unspent board.table.shared.table_id.slots pass.seat.me refl bit (rw board.told c.requires.inside)),
    )

pub invariant_of-pass : goal.invariant_of-pass
invariant_of-pass c =
    let step = c.fetch_or-found in
    let pass = c.args.pass.now in
    let told = step.ensures.2.2 c.args.bit refl (sym (mask c.args.bit)) in
    record {
      unspent = rw (keeps c.args.bit step.result pass.seat.me.0 step.new.seat.me.0 told step.ensures.2.0).1 pass.unspent;
      bare = step.ensures.2.1 ∙ pass.bare;
    }

pub returns : goal.returns
returns c =
    let step = c.fetch_or-found in
    let old = c.args.pass.now.seat.me.0 in
    let new = step.new.seat.me.0 in
    let told = step.ensures.2.2 c.args.bit refl (sym (mask c.args.bit)) in
    let says = tells c.args.bit step.result old new told step.ensures.2.0 _ refl in
    record {
      own = (step.ensures.0 ∙ c.requires.own.0, (keeps c.args.bit step.result old new told step.ensures.2.0).0 ∙ c.requires.own.1);
      event = says.0;
      first = says.1;
      met = says.2;
      room = subst (λ size. length new.listed ≤ size) c.requires.own.1 (at_most new.listed old.size step.ensures.2.0);
    }
