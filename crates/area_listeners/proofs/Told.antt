-- A pair that meets is told.
use Rattle.std.proofs.Common.{◌≡◌, ℕ, true, nat_eq, List, refl, subst, ◌∙◌, eq-eqb}
use Rattle.std.proofs.lemmas.Bool.{and_from}
use Rattle.std.proofs.lemmas.List.Folds.{Any-from_list_any, list_any-from_Any}
use Rattle.calc_addr.specs.Places.{Rectangle}
use Rattle.ears.specs.RunAreas.{meets}
use Rattle.area_listeners.specs.declared.listener.Listener.{Listener}
use Rattle.area_listeners.specs.Pairs.{AreMeeting, has_id, holds, is_same, is_told}
use Rattle.area_listeners.proofs.Same.{same-eq}

pub is_among : (pairs : List Listener) (area : Rectangle) (ids : List ℕ) → AreMeeting pairs area ids → (l : Listener) → holds pairs l ≡ true → meets l.area area ≡ true → has_id ids l.id ≡ true
is_among pairs area ids meeting l h m =
    let at = Any-from_list_any (is_same l) pairs h in
    meeting.exact l.id
    ∙ list_any-from_Any (is_told area l.id) pairs
    (at.0, at.1, at.2, at.3, subst (λ (x : Listener). is_told area l.id x ≡ true) (same-eq l at.1 at.4) (and_from (nat_eq l.id l.id) (meets l.area area) (eq-eqb l.id l.id refl) m))
