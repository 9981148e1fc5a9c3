use Rattle.std.proofs.Common.{◌≡◌, ◌∙◌, rules, List, sym, subst, ℕ}
use Rattle.std.specs.List.Sorted.{IsNonDecreasingBy, IsPermutation}
use Rattle.std.proofs.lemmas.List.Sorted.{IsNonDecreasingBy-from_sort_by_key}
use Rattle.smallvec.proofs.SmallVecLemmas.{items-with_items}
use Rattle.calc_addr.specs.Places.{Rectangle}
use Rattle.area_listeners.specs.Pairs.{AreMeeting}
use Rattle.registration_slab.specs.Slab.{Registrations, at}
use Rattle.listener_hub.specs.Parting.{IsParted, first_row}
use Rattle.listener_hub.proofs.PartSteps.{are_parts}
use Rattle.listener_hub.proofs.parting.push_parts.Goals as goal

pub push_parts_at-requires-clause-sorted : goal.push_parts_at-requires-clause-sorted
push_parts_at-requires-clause-sorted c =
    let sorted = c.sort_unstable_by_key.new.self in
    let lent : c.deref.result.now ≡ sorted = c.deref.ensures ∙ items-with_items c.in_ok-places.places sorted (search rules) in
    subst (λ (xs : List ℕ). IsNonDecreasingBy (λ i. first_row (at c.as_slice-registrations.result.now i)) xs) (sym lent)
    (IsNonDecreasingBy-from_sort_by_key (λ i. first_row (at c.as_slice-registrations.result.now i)) _ c.sort_unstable_by_key.ensures.sorted (λ a r f called. search rules))

pub returns-in-Ok-clause-ok : goal.returns-in-Ok-clause-ok
returns-in-Ok-clause-ok c =
    let sorted = c.sort_unstable_by_key.new.self in
    let lent : c.deref.result.now ≡ sorted = c.deref.ensures ∙ items-with_items c.in_ok-places.places sorted (search rules) in
    are_parts c.args.slab.now.registrations.items c.args.slab.now.ears c.args.slab.now.homes c.requires c.args.run.now c.in_ok-places.places.items sorted c.args.parts.now.items c.push_parts_at.new.parts.items c.args.ears.now.items c.push_parts_at.new.ears.items
    (subst (λ (a : Rectangle). AreMeeting c.args.slab.now.homes a c.in_ok-places.places.items) c.area_of.ensures c.in_ok-places.ensures)
    (subst (λ (xs : List ℕ). IsPermutation xs sorted) c.deref_mut.ensures.value c.sort_unstable_by_key.ensures.permutation)
    (subst (λ (rs : Registrations). IsParted rs c.args.run.now sorted c.args.parts.now.items c.push_parts_at.new.parts.items c.args.ears.now.items c.push_parts_at.new.ears.items) c.as_slice-registrations.ensures.value
    (subst (λ (xs : List ℕ). IsParted c.as_slice-registrations.result.now c.args.run.now xs c.args.parts.now.items c.push_parts_at.new.parts.items c.args.ears.now.items c.push_parts_at.new.ears.items) lent c.in-Ok.ensures.ok))
