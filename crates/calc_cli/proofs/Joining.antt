-- Texts that are joined one after the other.
use Rattle.std.proofs.Common.{◌≡◌, ℕ, List, ◌∷◌, ◌++◌, sym, ap, ◌∙◌, append_assoc}
use Rattle.std.specs.List.{flat_map}

-- one more text behind those so far
pub join_one : {X : Type 0} (text : X → List ℕ) (so_far all : List ℕ) (left rest : List X) (x : X) → so_far ++ flat_map text left ≡ all → left ≡ x ∷ rest → (so_far ++ text x) ++ flat_map text rest ≡ all
join_one text so_far all left rest x whole is =
    append_assoc so_far (text x) (flat_map text rest) ∙ ap (λ xs. so_far ++ flat_map text xs) (sym is) ∙ whole
