-- What a filter keeps of rows that hold one slot.
use Rattle.std.proofs.Common.{◌≡◌, ℕ, zero, suc, [], ◌∷◌, replicate, Option, Some, None, refl, ap, ◌∙◌}
use Rattle.std.specs.List.{filter_map, cons_option}

pub filter-rows_some : {X Y : Type 0} (h : X → Option Y) (n : ℕ) (x : X) (y : Y) → h x ≡ Some y → filter_map h (replicate n x) ≡ replicate n y
filter-rows_some h zero x y e = refl
filter-rows_some h (suc n) x y e =
    ap (λ o. cons_option o (filter_map h (replicate n x))) e ∙ ap (λ v. y ∷ v) (filter-rows_some h n x y e)

pub filter-rows_none : {X Y : Type 0} (h : X → Option Y) (n : ℕ) (x : X) → h x ≡ None → filter_map h (replicate n x) ≡ []
filter-rows_none h zero x e = refl
filter-rows_none h (suc n) x e = ap (λ o. cons_option o (filter_map h (replicate n x))) e ∙ filter-rows_none h n x e

pub ruleset filter_rows = (filter-rows_some, filter-rows_none)
