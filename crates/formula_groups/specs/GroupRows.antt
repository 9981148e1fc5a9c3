-- What a column of formulas is seen as.
use Rattle.std.specs.Prelude.{ℕ, List, Option, map}

-- what each row has, a code or none, row 1 first, and how many single rows can be set or cleared before memory
-- is asked for
pub record GroupRows : Type 0 where
  pub entries : List (Option ℕ)
  pub spare : ℕ

-- what each row of each column has
abbrev pub columns_of : List GroupRows → List (List (Option ℕ))
columns_of groups = map (λ (g : GroupRows). g.entries) groups
