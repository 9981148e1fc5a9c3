use Rattle.std.proofs.Common.{◌≡◌, ◌∙◌, rules, List, map, sym, subst}
use Rattle.std.specs.List.Sorted.{IsNonDecreasingBy, IsPermutation}
use Rattle.std.proofs.lemmas.List.Sorted.{IsNonDecreasingBy-from_sort_by_key}
use Rattle.smallvec.proofs.SmallVecLemmas.{items-with_items}
use Rattle.calc_addr.specs.Places.{Rows}
use Rattle.run_unions.specs.Emitted.{IsEmitted}
use Rattle.run_unions.specs.Keys.{first_key, place_at}
use Rattle.run_unions.proofs.Ordered.{union}
use Rattle.run_unions.proofs.union.push_union.Goals as goal

pub push_runs-requires : goal.push_runs-requires
push_runs-requires c =
    let sorted = c.sort_unstable_by_key.new.self in
    let lent : c.deref.result.now ≡ sorted = c.deref.ensures ∙ items-with_items c.args.runs sorted (search rules) in
    subst (λ (xs : List Rows). IsNonDecreasingBy first_key xs) (sym lent)
    (IsNonDecreasingBy-from_sort_by_key first_key _ c.sort_unstable_by_key.ensures.sorted (λ a r f called. search rules))

pub returns-in-Ok-clause-ok : goal.returns-in-Ok-clause-ok
returns-in-Ok-clause-ok c =
    let sorted = c.sort_unstable_by_key.new.self in
    let lent : c.deref.result.now ≡ sorted = c.deref.ensures ∙ items-with_items c.args.runs sorted (search rules) in
    let emitted : IsEmitted c.args.out.now.items c.push_runs.new.out.items sorted =
    subst (λ (xs : List Rows). IsEmitted c.args.out.now.items c.push_runs.new.out.items xs) lent c.in-Ok.ensures.ok in
    let moved : IsPermutation c.args.runs.items sorted =
    subst (λ (xs : List Rows). IsPermutation xs sorted) c.deref_mut.ensures.value c.sort_unstable_by_key.ensures.permutation in
    (map place_at emitted.keys, emitted.is, union _ _ _ c.args.runs.items moved emitted)
