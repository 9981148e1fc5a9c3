-- A look-up finds what the entry at the name's place says.
use Rattle.std.proofs.Common.{[], ap, ◌∙◌}
use Rattle.std.proofs.lemmas.List.{get_or_default}
use Rattle.calc_model.specs.Books.{entry_named}
use Rattle.calc_model.specs.NamedAreas.{name_cmp}
use Rattle.calc_model.specs.declared.looked.Looked.TheVariants.{Absent}
use Rattle.std.specs.FinMap.Entries.{is_sorted}
use Rattle.calc_names.proofs.Seen.{in_order, looked_absent, looked_at}
use Rattle.calc_names.proofs.names.NamesNameTable.lookup.Goals as goal

pub place_of-requires : goal.place_of-requires
place_of-requires c = ap (is_sorted name_cmp) c.deref.ensures.value ∙ in_order c.self.inside.entries.items c.self.invariant

pub returns-in-Ok : goal.returns-in-Ok
returns-in-Ok c =
    let stands = rw c.deref.ensures.value at c.in-Ok.ensures.found in
    ap (λ entry. entry.1) (c.index.ensures ∙ get_or_default c.self.inside.entries.items c.in-Ok.at c.index.result.now ([], Absent) stands.within)
    ∙ looked_at c.self.inside.entries.items c.self.invariant c.args.name.now c.in-Ok.at stands
    ∙ ap (λ es. entry_named es c.args.name.now) c.self.view_is

pub returns-in-Err : goal.returns-in-Err
returns-in-Err c =
    let goes = rw c.deref.ensures.value at c.in-Err.ensures.absent in
    looked_absent c.self.inside.entries.items c.self.invariant c.args.name.now c.in-Err.field-0 goes
    ∙ ap (λ es. entry_named es c.args.name.now) c.self.view_is
