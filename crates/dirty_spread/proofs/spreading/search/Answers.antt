use Rattle.std.proofs.Common.{◌≡◌, true, length, subst, arith, rules}
use Rattle.calc_addr.specs.Places.{Rectangle}
use Rattle.calc_model.specs.Listeners.{ReachesArea, ReadAreas, reads_one_of}
use Rattle.dirty_spread.specs.Marking.{IsSpreading, Marks}
use Rattle.dirty_spread.proofs.Spreads.{finish, start, step}
use Rattle.dirty_spread.proofs.spreading.search.Goals as goal

pub loop-head-init : goal.loop-head-init
loop-head-init g c =
    let read : ReadAreas = g.H.Dependents.areas c.args.hub.now in
    let length_is : length c.mark_areas.new.found.items ≡ c.len-head.result = search rules in
    subst (λ n. IsSpreading read c.args.formulas.now c.args.touched.now c.follow_areas.new.marks c.follow_areas.new.found.items n) length_is
    (start read c.args.formulas.now c.requires.formulas c.args.touched.now c.args.marks.now c.mark_areas.new.marks c.follow_areas.new.marks c.new-found.result.items c.mark_areas.new.found.items c.follow_areas.new.found.items c.requires.size c.requires.fresh c.new-found.ensures.items
    c.in_ok-mark_areas.ensures c.in_ok-follow_areas.ensures)

pub loop-head-preserved : goal.loop-head-preserved
loop-head-preserved g c =
    let read : ReadAreas = g.H.Dependents.areas c.args.hub.now in
    let marks = subst (λ (a : Rectangle). Marks c.args.formulas.now (λ q. reads_one_of read a q ≡ true) (ReachesArea read a) c.loop-head.marks c.follow.new.marks c.loop-head.found.items c.follow.new.found.items) c.area_of-area.ensures c.in_ok-follow.ensures in
    step read c.args.formulas.now c.requires.formulas c.args.touched.now c.loop-head.marks c.follow.new.marks c.loop-head.found.items c.follow.new.found.items c.loop-head.head c.index.result.now
    c.loop-head.invariant (omega arith) (search rules) marks

pub returns : goal.returns
returns g c =
    let read : ReadAreas = g.H.Dependents.areas c.args.hub.now in
    finish read c.args.formulas.now c.requires.formulas c.args.touched.now c.loop-head.marks c.loop-head.found.items c.loop-head.head c.loop-head.invariant (omega arith)
