-- Steps of walks over spots.
use Rattle.std.proofs.Common.{◌≡◌, Bool, true, false, cond, ◌&&◌, ◌||◌, List, [], ◌∷◌, refl, sym, ap, ◌∙◌}
use Rattle.std.specs.List.{filter, list_any}

or_false : (b : Bool) → (b || false) ≡ b
or_false true = refl
or_false false = refl

or_turned : (o m r : Bool) → ((o || m) || r) ≡ (o || (m || r))
or_turned true m r = refl
or_turned false m r = refl

-- the next one is passed
pub passed : {X : Type 0} (met : X → Bool) (o n : Bool) (spots rest : List X) (s : X) → spots ≡ s ∷ rest → n ≡ (o || met s) → (n || list_any met rest) ≡ (o || list_any met spots)
passed met o n spots rest s is step =
    ap (λ b. b || list_any met rest) step ∙ or_turned o (met s) (list_any met rest) ∙ ap (λ xs. o || list_any met xs) (sym is)

pub any_filter : {X : Type 0} (p f : X → Bool) (xs : List X) → list_any f (filter p xs) ≡ list_any (λ x. p x && f x) xs
any_filter p f [] = refl
any_filter p f (x ∷ xs) =
    elim (p x) as (λ b. list_any f (cond b (x ∷ filter p xs) (filter p xs)) ≡ ((b && f x) || list_any (λ y. p y && f y) xs)) [
      | true ↦ ap (λ b. f x || b) (any_filter p f xs)
      | false ↦ any_filter p f xs
    ]

pub all_passed : {X : Type 0} (met : X → Bool) (o : Bool) (spots : List X) → spots ≡ [] → (o || list_any met spots) ≡ o
all_passed met o spots none = ap (λ xs. o || list_any met xs) none ∙ or_false o
