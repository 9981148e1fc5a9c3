-- A window with one more item at its end, and without its first item.
use Rattle.std.proofs.Common.{◌≡◌, ℕ, ℤ, pos, ◌+ℤ◌, ◌+◌, ◌<◌, List, [], ◌∷◌, length, take, drop, get_or, ap, ◌∙◌, arith, add-one, length-drop}
use Rattle.std.specs.List.{fold}
use Rattle.std.proofs.lemmas.Int.{ints}
use Rattle.std.proofs.lemmas.List.{get_or-drop, drop_more}
use Rattle.std.proofs.lemmas.List.Sums.{fold_more}
use Rattle.lane_kernels.specs.Folds.{total, window}

total_from : (a : ℤ) (items : List ℤ) → fold ◌+ℤ◌ a items ≡ a +ℤ total items
total_from a [] = omega (arith, ints)
total_from a (item ∷ rest) = omega (arith, ints, total_from (a +ℤ item) rest, total_from (pos 0 +ℤ item) rest)

pub joins : (items : List ℤ) (w place : ℕ) → place + w < length items → total (window items (w + 1) place) ≡ total (window items w place) +ℤ get_or items (place + w) (pos 0)
joins items w place inside =
    fold_more ◌+ℤ◌ (pos 0) (drop place items) w (pos 0) (omega (arith, length-drop place items))
    ∙ ap (λ item. total (window items w place) +ℤ item) (get_or-drop place items w (pos 0))

pub leaves : (items : List ℤ) (w place : ℕ) → place < length items → total (window items (w + 1) place) ≡ get_or items place (pos 0) +ℤ total (window items w (place + 1))
leaves items w place inside =
    rw (drop_more items place (pos 0) inside, add-one w)
    (total_from (pos 0 +ℤ get_or items place (pos 0)) (take w (drop (place + 1) items))
    ∙ ap (λ item. item +ℤ total (take w (drop (place + 1) items))) (omega (arith, ints)))
