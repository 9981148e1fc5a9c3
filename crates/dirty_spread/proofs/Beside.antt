-- Which cells are in a list.
use Rattle.std.proofs.Common.{◌≡◌, true, false, List}
use Rattle.std.specs.List.{Contains}
use Rattle.std.proofs.lemmas.Bool.{false_from_ne_true}
use Rattle.std.proofs.lemmas.Cmp.{eq_by_cmp_equiv}
use Rattle.std.proofs.lemmas.Map.Views.{Contains-from_any, list_any-from_Contains}
use Rattle.calc_addr.specs.Places.{Place}
use Rattle.calc_model.proofs.Places.{places_total, same_places}
use Rattle.dirty_spread.specs.Waves.{has}

pub has_held : (cells : List Place) (q : Place) → has cells q ≡ true → Contains cells q
has_held cells q h = Contains-from_any same_places q cells h

pub held_has : (cells : List Place) (q : Place) → Contains cells q → has cells q ≡ true
held_has cells q h = list_any-from_Contains (eq_by_cmp_equiv places_total) q cells h

pub absent_has : (cells : List Place) (q : Place) → (Contains cells q → ⊥) → has cells q ≡ false
absent_has cells q none = false_from_ne_true (has cells q) (λ h. none (has_held cells q h))
