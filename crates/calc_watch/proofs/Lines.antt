-- The lines of one report more.
use Rattle.std.proofs.Common.{◌≡◌, ℕ, zero, suc, ◌+◌, ◌<◌, List, [], ◌∷◌, ◌++◌, length, get_or, take, sym, ap, ◌∙◌, append_assoc, append-nil, arith}
use Rattle.std.specs.List.{flat_map}

pub flat_map_more : {X Y : Type 0} (f : X → List Y) (xs : List X) (at : ℕ) (d : X) → at < length xs → flat_map f (take (at + 1) xs) ≡ flat_map f (take at xs) ++ f (get_or xs at d)
flat_map_more f [] at d within = absurd (omega arith)
flat_map_more f (x ∷ xs) zero d within = append-nil (f x)
flat_map_more f (x ∷ xs) (suc at) d within =
    let next : suc at + 1 ≡ suc (at + 1) = omega arith in
    ap (λ n. flat_map f (take n (x ∷ xs))) next
    ∙ ap (λ ys. f x ++ ys) (flat_map_more f xs at d (omega arith))
    ∙ sym (append_assoc (f x) (flat_map f (take at xs)) (f (get_or xs at d)))
