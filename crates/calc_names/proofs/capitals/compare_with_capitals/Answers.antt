-- Both chains give their lists: the key's bytes, and the name's bytes in capitals.
use Rattle.std.proofs.Common.{◌≡◌, refl, ap, ◌∙◌, rules}
use borrow.Author.Tests.{tests}
use Rattle.std.specs.Iterator.Adapters.{map_callee}
use Rattle.std.specs.Ordering.{nat_cmp}
use Rattle.std.proofs.lemmas.Iterator.{YieldsList-from_map, YieldsList-from_slice}
use Rattle.std.proofs.lemmas.Iterator.Consumers.{YieldsList-from_copied}
use Rattle.std.proofs.lemmas.Iterator.Search.{cmp_from_yields_List}
use Rattle.calc_names.proofs.capitals.compare_with_capitals.Goals as goal

pub returns : goal.returns
returns c =
    cmp_from_yields_List (λ x y. y ≡ x) _ nat_cmp _ c.cmp.ensures.ran
    (YieldsList-from_copied (YieldsList-from_slice c.args.key.now cc))
    (λ it e. YieldsList-from_map _ _ (YieldsList-from_slice c.args.name.now cc) (ap map_callee e ∙ c.map.ensures.closure) (λ x r q k. search (rules, tests)))
    (λ x y. refl)
