use Rattle.std.proofs.Common.{◌∙◌}
use Rattle.registration_slab.proofs.Parts.{registered}
use Rattle.registration_slab.proofs.joining.put_joined.Goals as goal

pub returns-clause-areas : goal.returns-clause-areas
returns-clause-areas c q =
    registered c.join_below.new.slab.registrations.items c.put.new.slab.registrations.items c.join_below.new.slab.ears c.join_below.new.slab.homes c.in_ok-joined-2.ensures.slab
    c.in_ok-joined-2.joined.run c.in_ok-joined-2.joined.ears.items c.in_ok-put.ensures.put c.in_ok-joined-2.ensures.joined.absent q
    ∙ c.in_ok-joined-2.ensures.joined.same q ∙ c.in_ok-joined.ensures.joined.same q
