use Rattle.std.proofs.Common.{◌-◌, List, map, sym, ap, subst, ◌∙◌}
use Rattle.std.specs.List.{All}
use Rattle.calc_addr.specs.Places.{Rows}
use Rattle.calc_model.specs.Ears.{ReadArea}
use Rattle.ears.specs.RunAreas.{LieInSheet, ear_below}
use Rattle.registration_slab.proofs.Parts.{part_lies, part_registered}
use Rattle.registration_slab.proofs.cuts.put_rows.Goals as goal

pub put-requires-clause-inside : goal.put-requires-clause-inside
put-requires-clause-inside c =
    subst (λ (xs : List ReadArea). All (LieInSheet (c.args.last - c.args.first)) xs)
    (sym (c.in_ok-ears.ensures ∙ ap (map (λ e. ear_below e (c.args.first - c.run.inside.first))) c.deref.ensures.value))
    (part_lies c.args.registration.now.run c.run.inside.first c.args.first c.args.last c.args.registration.now.ears.items (ap (λ (r : Rows). r.first) c.run.view_is) c.requires.from c.requires.order c.requires.to c.requires.registration.1)

pub returns-clause-areas : goal.returns-clause-areas
returns-clause-areas c =
    part_registered c.args.slab.now.registrations.items c.put.new.slab.registrations.items c.args.slab.now.ears c.args.slab.now.homes c.requires.slab
    (record { sheet = c.run.inside.sheet; col = c.run.inside.col; first = c.run.inside.first; last = c.run.inside.last }) c.args.registration.now.run c.run.view_is
    c.args.first c.args.last c.in_ok-ears.ears.items c.args.registration.now.ears.items
    (c.in_ok-ears.ensures ∙ ap (map (λ e. ear_below e (c.args.first - c.run.inside.first))) c.deref.ensures.value)
    c.in_ok-put.ensures.put c.requires.from c.requires.absent
