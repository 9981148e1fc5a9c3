-- The search goes by the order of an entry's name and the name in capitals.
use Rattle.std.proofs.Common.{rules}
use Rattle.std.specs.Str.{str_to_ascii_uppercase}
use Rattle.std.proofs.lemmas.Fn.{always_returns_same}
use Rattle.calc_model.specs.NamedAreas.{name_cmp}
use Rattle.calc_names.proofs.Searched.{absent, found}
use Rattle.calc_names.proofs.places.place_of.Goals as goal

pub returns-clause-found : goal.returns-clause-found
returns-clause-found c =
    let by = c.binary_search_by.ensures.position (λ entry. name_cmp entry.0 (str_to_ascii_uppercase c.args.name.now)) (always_returns_same _ _ _ (λ a r f called. search rules)) in
    found c.args.entries.now c.requires (str_to_ascii_uppercase c.args.name.now) c.binary_search_by.result c.binary_search_by.ensures.bound by

pub returns-clause-absent : goal.returns-clause-absent
returns-clause-absent c =
    let by = c.binary_search_by.ensures.position (λ entry. name_cmp entry.0 (str_to_ascii_uppercase c.args.name.now)) (always_returns_same _ _ _ (λ a r f called. search rules)) in
    absent c.args.entries.now c.requires (str_to_ascii_uppercase c.args.name.now) c.binary_search_by.result c.binary_search_by.ensures.bound by
