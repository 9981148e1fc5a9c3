use Rattle.std.proofs.Common.{of_z, sym, to_z, w32}
use Rattle.calc_addr.proofs.Moving.MovedEnds.{moved_spanned}
use Rattle.calc_addr.proofs.moves.move_ref.Goals as goal

pub with_ends-requires-clause-span : goal.with_ends-requires-clause-span
with_ends-requires-clause-span c =
    let r = c.args.r in
    λ is. moved_spanned r.span r.area r.marks (to_z w32 (of_z w32 c.args.cols)) (to_z w32 (of_z w32 c.args.rows)) c.in_ok-cols.cols c.in_ok-rows.rows is (sym c.in_ok-cols.ensures.ends) (sym c.in_ok-rows.ensures.ends)
