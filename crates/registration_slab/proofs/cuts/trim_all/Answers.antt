use Rattle.registration_slab.proofs.Trimming.{all_trimmed}
use Rattle.registration_slab.proofs.cuts.trim_all.Goals as goal

pub returns-clause-inside : goal.returns-clause-inside
returns-clause-inside c candidates =
    all_trimmed c.loop-place.slab.registrations.items c.args.cut.now c.args.places.now c.loop-place.place-index c.loop-place-test.false (c.loop-place.invariant.left candidates)
