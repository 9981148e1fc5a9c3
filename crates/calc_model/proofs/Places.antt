-- The order of cells: it is total, and only equal cells tie.
use Rattle.std.proofs.Common.{◌≡◌, ℕ, true, ap, refl}
use Rattle.std.specs.Cmp.{IsTotalOrder, nat_cmp_total}
use Rattle.std.proofs.lemmas.Cmp.{on_total, then_total}
use Rattle.std.proofs.lemmas.Map.Lookups.{exact_pairs, exact_unsigned}
use Rattle.std.specs.Ordering.{nat_cmp, ordering_then, eq_by_cmp, is_eq}
use Rattle.std.specs.declared.cmp.Ordering.{Ordering}
use Rattle.std.specs.declared.cmp.Ordering.TheVariants.{Less, Equal, Greater}
use Rattle.calc_addr.specs.Places.{Place, place_cmp}

pub places_total : IsTotalOrder place_cmp
places_total = then_total (on_total (λ p. p.sheet) nat_cmp_total) (then_total (on_total (λ p. p.col) nat_cmp_total) (on_total (λ p. p.row) nat_cmp_total))

abbrev triple : Place → ℕ × (ℕ × ℕ)
triple p = (p.sheet, (p.col, p.row))

pub exact_places : (a b : Place) → place_cmp a b ≡ Equal → a ≡ b
exact_places a b h =
    ap (λ (p : ℕ × (ℕ × ℕ)). record { sheet = p.0; col = p.1.0; row = p.1.1 })
    (exact_pairs nat_cmp (λ (x y : ℕ × ℕ). ordering_then (nat_cmp x.0 y.0) (nat_cmp x.1 y.1)) exact_unsigned (exact_pairs nat_cmp nat_cmp exact_unsigned exact_unsigned) (triple a) (triple b) h)

equal_order : (o : Ordering) → is_eq o ≡ true → o ≡ Equal
equal_order Less h = cc
equal_order Equal h = refl
equal_order Greater h = cc

pub same_places : (a b : Place) → eq_by_cmp place_cmp a b ≡ true → a ≡ b
same_places a b h = exact_places a b (equal_order (place_cmp a b) h)
