-- A name goes with the entry at its place.
use Rattle.std.proofs.Common.{◌≡◌, true, false, refl, ap, sym, ◌∙◌}
use Rattle.std.specs.FinMap.Entries.{is_sorted}
use Rattle.calc_model.specs.NamedAreas.{is_defined, name_cmp, without_name}
use Rattle.calc_names.proofs.Seen.{defined, in_order, undefined}
use Rattle.calc_names.proofs.Edited.{kept_gone, seen_gone}
use Rattle.calc_names.proofs.names.Names.remove.Goals as goal

pub place_of-requires : goal.place_of-requires
place_of-requires c = ap (is_sorted name_cmp) c.deref.ensures.value ∙ in_order c.self.inside.entries.items c.self.invariant

pub invariant_of-self : goal.invariant_of-self
invariant_of-self c =
    let stands = rw (c.deref.ensures.value, c.bytes.ensures) at c.in-Ok.ensures.found in
    kept_gone c.self.inside.entries.items c.self.invariant c.args.name.now c.in-Ok.at stands c.remove.new.self.items c.remove.ensures.items

pub returns-in-Ok-clause-ok : goal.returns-in-Ok-clause-ok
returns-in-Ok-clause-ok c =
    let stands = rw (c.deref.ensures.value, c.bytes.ensures) at c.in-Ok.ensures.found in
    seen_gone c.self.inside.entries.items c.self.invariant c.args.name.now c.in-Ok.at stands c.remove.new.self.items c.remove.ensures.items
    ∙ ap (λ es. without_name es c.args.name.now) c.self.view_is

pub returns-in-Ok-clause-no_name : goal.returns-in-Ok-clause-no_name
returns-in-Ok-clause-no_name c =
    let stands = rw (c.deref.ensures.value, c.bytes.ensures) at c.in-Ok.ensures.found in
    let there : is_defined c.args.self.now c.args.name.now ≡ true =
    ap (λ es. is_defined es c.args.name.now) (sym c.self.view_is) ∙ defined c.self.inside.entries.items c.self.invariant c.args.name.now c.in-Ok.at stands
    in (λ h. cc, λ h. cc)

pub returns-in-Err-clause-no_name : goal.returns-in-Err-clause-no_name
returns-in-Err-clause-no_name c =
    let goes = rw (c.deref.ensures.value, c.bytes.ensures) at c.in-Err.ensures.absent in
    let none : is_defined c.args.self.now c.args.name.now ≡ false =
    ap (λ es. is_defined es c.args.name.now) (sym c.self.view_is) ∙ undefined c.self.inside.entries.items c.self.invariant c.args.name.now c.in-Err.field-0 goes
    in (λ h. none, λ h. refl)
