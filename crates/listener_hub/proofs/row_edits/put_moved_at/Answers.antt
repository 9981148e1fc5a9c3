use Rattle.std.proofs.Common.{sym, ap, ◌∙◌}
use Rattle.std.specs.Option.{option_copied}
use Rattle.registration_slab.specs.Slab.{areas_of}
use Rattle.listener_hub.proofs.Prefixes.{moved_none, moved_some, nothing_there}
use Rattle.listener_hub.proofs.row_edits.put_moved_at.Goals as goal

pub put_moved-requires-clause-absent : goal.put_moved-requires-clause-absent
put_moved-requires-clause-absent c =
    nothing_there c.args.registrations.now c.requires.apart c.args.place c.args.edit.now (areas_of c.args.fresh.now.registrations.items) (areas_of c.args.fresh.now.registrations.items) c.requires.moved c.in-Some.registration.now
    (sym c.registration_at.ensures ∙ ap option_copied c.in-Some.is)

pub returns-in_ok-put_moved-in-Some-clause-moved : goal.returns-in_ok-put_moved-in-Some-clause-moved
returns-in_ok-put_moved-in-Some-clause-moved c =
    moved_some c.args.registrations.now c.requires.apart c.args.place c.args.edit.now (areas_of c.args.fresh.now.registrations.items) (areas_of c.put_moved.new.fresh.registrations.items) c.requires.moved c.in-Some.registration.now
    (sym c.registration_at.ensures ∙ ap option_copied c.in-Some.is) c.in_ok-put_moved-in-Some.ensures.areas

pub returns-in-None-clause-moved : goal.returns-in-None-clause-moved
returns-in-None-clause-moved c =
    moved_none c.args.registrations.now c.requires.apart c.args.place c.args.edit.now (areas_of c.args.fresh.now.registrations.items) (areas_of c.args.fresh.now.registrations.items) c.requires.moved
    (sym c.registration_at.ensures ∙ ap option_copied c.in-None.is)
