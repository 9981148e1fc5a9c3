-- Columns that show what they did.
use Rattle.std.proofs.Common.{◌≡◌, ℕ, List, get_or, Option, None, Result, Ok, Err, OnErr, option_map, ap, ◌∙◌}
use Rattle.std.proofs.Math.ListN.{set}
use Rattle.std.proofs.lemmas.List.{set-get_or}
use Rattle.value_column.specs.Sheets.{ShowsSame, shown_at}
use Rattle.value_column.specs.ValueRows.{ValueRows}

on-err : {A E P : Type 0} (r : Result A E) → P → OnErr r P
on-err (Ok x) p = tt
on-err (Err e) p = p

pub unmoved : {A E : Type 0} (r : Result A E) (xs ys : List (Option ValueRows)) (place : ℕ) (o : Option ValueRows) → ((p : ℕ) → get_or ys p None ≡ get_or xs p None) → o ≡ get_or ys place o → OnErr r (ShowsSame xs (set ys place o))
unmoved r xs ys place o same is =
    on-err r (λ p. ap (λ v. shown_at v p) (ap (set ys place) is ∙ set-get_or ys place o) ∙ ap (option_map (λ c. c.values)) (same p))
