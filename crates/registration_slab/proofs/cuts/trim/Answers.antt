use Rattle.std.proofs.Common.{sym, ◌∙◌}
use Rattle.registration_slab.proofs.Trims.{taken_absent, trimmed}
use Rattle.registration_slab.proofs.cuts.trim.Goals as goal

pub put_parts-requires-clause-absent : goal.put_parts-requires-clause-absent
put_parts-requires-clause-absent c =
    taken_absent c.args.slab.now.registrations.items c.take.new.slab.registrations.items c.args.slab.now.ears c.args.slab.now.homes c.requires.slab c.args.place c.in-Some.registration
    (sym c.take.ensures.was ∙ c.in-Some.is) c.take.ensures.left

pub returns-clause-trimmed : goal.returns-clause-trimmed
returns-clause-trimmed c =
    trimmed c.args.slab.now.registrations.items c.take.new.slab.registrations.items c.args.slab.now.ears c.args.slab.now.homes c.requires.slab c.args.place c.in-Some.registration
    (sym c.take.ensures.was ∙ c.in-Some.is) c.take.ensures.left c.put_parts.new.slab.registrations.items c.args.cut.now c.in_ok-put_parts.ensures.areas c.in_ok-put_parts.ensures.others
