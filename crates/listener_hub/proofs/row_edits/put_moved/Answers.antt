use Rattle.std.proofs.Common.{◌+◌, arith}
use Rattle.registration_slab.specs.Slab.{areas_of}
use Rattle.listener_hub.proofs.Rests.{parts_join}
use Rattle.listener_hub.proofs.row_edits.put_moved.Goals as goal

pub loop-first-preserved : goal.loop-first-preserved
loop-first-preserved c = (
  c.in_ok-first.ensures.slab,
  omega (arith, c.in_ok-first.ensures.from, c.loop-first.invariant.1),
  omega (arith, c.in_ok-first.ensures.to),
  parts_join c.args.edit.now c.args.registration.now c.args.registration.now.run.first c.loop-first.first (c.in_ok-first.field-0 + 1) (areas_of c.args.fresh.now.registrations.items) (areas_of c.loop-first.fresh.registrations.items) (areas_of c.put_first_of.new.fresh.registrations.items)
      c.loop-first.invariant.1 (omega (arith, c.in_ok-first.ensures.from)) c.loop-first.invariant.3 c.in_ok-first.ensures.areas,
)
