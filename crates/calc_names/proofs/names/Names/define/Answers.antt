-- A name gets an area where it stands, or where it is to be put.
use Rattle.std.proofs.Common.{◌≡◌, ◌≢◌, [], length, set, true, false, refl, ap, sym, ◌∙◌, rules, arith}
use Rattle.std.specs.FinMap.Entries.{is_sorted}
use Rattle.std.specs.List.{insert}
use Rattle.std.specs.Str.{str_to_ascii_uppercase}
use Rattle.std.proofs.lemmas.List.{get_or_default}
use Rattle.calc_addr.specs.ValidReferences.{is_rectangle}
use Rattle.calc_model.specs.NamedAreas.{is_defined, name_cmp, with_name}
use Rattle.calc_model.specs.Tokens.{is_name}
use Rattle.calc_model.specs.declared.looked.Looked.TheVariants.{Absent, At}
use Rattle.calc_names.proofs.Seen.{defined, in_order, length-seen, undefined}
use Rattle.calc_names.proofs.Edited.{kept_new, kept_over, seen_new, seen_over}
use Rattle.calc_names.proofs.names.Names.define.Goals as goal

pub place_of-requires : goal.place_of-requires
place_of-requires c = ap (is_sorted name_cmp) c.deref.ensures.value ∙ in_order c.self.inside.entries.items c.self.invariant

pub invariant_of-self : goal.invariant_of-self
invariant_of-self c =
    let stands = rw (c.deref.ensures.value, c.bytes-2.ensures) at c.in-Ok.ensures.found in
    let spelled : is_name c.args.name.now ≡ true = ap is_name (sym c.bytes.ensures) ∙ sym c.is_name.ensures ∙ c.if-not-is_name.false in
    let here = get_or_default c.self.inside.entries.items c.in-Ok.at c.index_mut.result.now ([], Absent) stands.within in
    let key = ap (λ entry. entry.0) (c.index_mut.ensures.value ∙ here) ∙ stands.is in
    kept_over c.self.inside.entries.items c.self.invariant c.args.name.now c.in-Ok.at stands c.in_sheets-area.result _
    (ap (λ k. set c.self.inside.entries.items c.in-Ok.at (k, At c.in_sheets-area.result)) key) spelled (ap is_rectangle c.in_sheets-area.ensures.same ∙ c.in_sheets-area.ensures.lies)

pub returns-in-Ok-clause-ok : goal.returns-in-Ok-clause-ok
returns-in-Ok-clause-ok c =
    let stands = rw (c.deref.ensures.value, c.bytes-2.ensures) at c.in-Ok.ensures.found in
    let here = get_or_default c.self.inside.entries.items c.in-Ok.at c.index_mut.result.now ([], Absent) stands.within in
    let key = ap (λ entry. entry.0) (c.index_mut.ensures.value ∙ here) ∙ stands.is in
    seen_over c.self.inside.entries.items c.self.invariant c.args.name.now c.in-Ok.at stands c.in_sheets-area.result _
    (ap (λ k. set c.self.inside.entries.items c.in-Ok.at (k, At c.in_sheets-area.result)) key)
    ∙ ap (λ es. with_name es c.args.name.now c.in_sheets-area.result) c.self.view_is
    ∙ ap (with_name c.args.self.now c.args.name.now) c.in_sheets-area.ensures.same

pub returns-in-Ok-clause-full : goal.returns-in-Ok-clause-full
returns-in-Ok-clause-full c =
    let stands = rw (c.deref.ensures.value, c.bytes-2.ensures) at c.in-Ok.ensures.found in
    let there : is_defined c.args.self.now c.args.name.now ≡ true =
    ap (λ es. is_defined es c.args.name.now) (sym c.self.view_is) ∙ defined c.self.inside.entries.items c.self.invariant c.args.name.now c.in-Ok.at stands
    in (λ h. cc, λ h. cc)

pub returns-then-len-eq-MOST_NAMES-clause-full : goal.returns-then-len-eq-MOST_NAMES-clause-full
returns-then-len-eq-MOST_NAMES-clause-full c =
    let goes = rw (c.deref.ensures.value, c.bytes-2.ensures) at c.in-Err.ensures.absent in
    let spelled : is_name c.args.name.now ≡ true = ap is_name (sym c.bytes.ensures) ∙ sym c.is_name.ensures ∙ c.if-not-is_name.false in
    let none : is_defined c.args.self.now c.args.name.now ≡ false =
    ap (λ es. is_defined es c.args.name.now) (sym c.self.view_is) ∙ undefined c.self.inside.entries.items c.self.invariant c.args.name.now c.in-Err.at goes
    in
    let shown : length c.args.self.now ≡ length c.self.inside.entries.items = ap length (sym c.self.view_is) ∙ length-seen c.self.inside.entries.items in
    let many : length c.args.self.now ≡ 1024 = omega arith in
    (λ h. record { spelled = spelled; new = none; full = many }, λ h. refl)

pub invariant_of-self-in-Continue-1 : goal.invariant_of-self-in-Continue-1
invariant_of-self-in-Continue-1 c =
    let goes = rw (c.deref.ensures.value, c.bytes-2.ensures) at c.in-Err.ensures.absent in
    let spelled : is_name c.args.name.now ≡ true = ap is_name (sym c.bytes.ensures) ∙ sym c.is_name.ensures ∙ c.if-not-is_name.false in
    let added : c.add.new.entries.items ≡ insert c.self.inside.entries.items c.in-Err.at (str_to_ascii_uppercase c.args.name.now, At c.in_sheets-area.result) = search rules in
    let room : length c.self.inside.entries.items ≢ 1024 = omega arith in
    kept_new c.self.inside.entries.items c.self.invariant c.args.name.now c.in-Err.at goes c.in_sheets-area.result _ added spelled (ap is_rectangle c.in_sheets-area.ensures.same ∙ c.in_sheets-area.ensures.lies) room

pub returns-in_ok-map_err-in-Err-clause-ok : goal.returns-in_ok-map_err-in-Err-clause-ok
returns-in_ok-map_err-in-Err-clause-ok c =
    let goes = rw (c.deref.ensures.value, c.bytes-2.ensures) at c.in-Err.ensures.absent in
    let added : c.add.new.entries.items ≡ insert c.self.inside.entries.items c.in-Err.at (str_to_ascii_uppercase c.args.name.now, At c.in_sheets-area.result) = search rules in
    seen_new c.self.inside.entries.items c.self.invariant c.args.name.now c.in-Err.at goes c.in_sheets-area.result _ added
    ∙ ap (λ es. with_name es c.args.name.now c.in_sheets-area.result) c.self.view_is
    ∙ ap (with_name c.args.self.now c.args.name.now) c.in_sheets-area.ensures.same
