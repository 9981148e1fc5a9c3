-- Listeners that are one are equal.
use Rattle.std.proofs.Common.{◌≡◌, ℕ, true, ap, ◌∙◌}
use Rattle.std.proofs.lemmas.Bool.{and_parts, eqb-true}
use Rattle.calc_addr.specs.Places.{Rectangle}
use Rattle.ears.specs.RunAreas.{is_same_area}
use Rattle.area_listeners.specs.declared.listener.Listener.{Listener}
use Rattle.area_listeners.specs.Pairs.{is_same}

same_parts : {s t c d e f g h i j : ℕ} → s ≡ t → c ≡ d → e ≡ f → g ≡ h → i ≡ j
    → ◌≡◌ {A = Rectangle} (record { sheet = s; first_col = c; last_col = e; first_row = g; last_row = i }) (record { sheet = t; first_col = d; last_col = f; first_row = h; last_row = j })
same_parts a b c d e = cc

pub same_area-eq : (a b : Rectangle) → is_same_area a b ≡ true → a ≡ b
same_area-eq a b same =
    let outer = and_parts _ _ same in
    let left = and_parts _ _ outer.0 in
    let cols = and_parts _ _ left.1 in
    let rows = and_parts _ _ outer.1 in
    same_parts (eqb-true _ _ left.0) (eqb-true _ _ cols.0) (eqb-true _ _ cols.1) (eqb-true _ _ rows.0) (eqb-true _ _ rows.1)

pub same-eq : (a b : Listener) → is_same a b ≡ true → a ≡ b
same-eq a b same =
    let parts = and_parts _ _ same in
    let id : a.id ≡ b.id = eqb-true _ _ parts.0 in
    let area : a.area ≡ b.area = same_area-eq a.area b.area parts.1 in
    ap (λ x. record a { id = x }) id ∙ ap (λ x. record b { area = x }) area
