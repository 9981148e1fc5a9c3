-- The numbers of codes under a digest.
use Rattle.std.specs.Prelude.{◌≡◌, ◌≢◌, ℕ, List, [], ◌∷◌, ◌++◌, Option, Some, None, nat_eq, ◌==◌, not, Bool}
use Rattle.std.specs.List.{filter, list_any}
use Rattle.std.specs.HashMap.{get}
use Rattle.std.specs.declared.vec.Vec.{Vec}
use Rattle.std.specs.declared.alloc.Global.{Global}
use Rattle.formula_code.specs.declared.index.Index.{Index}

abbrev pub items_of : Option (Vec ℕ Global) → List ℕ
items_of None = []
items_of (Some numbers) = numbers.items

abbrev pub ids_under : Index → ℕ → List ℕ
ids_under index digest = items_of (get nat_eq index.lists digest)

-- the number stands under that digest too
pub record Adds (old new : Index) (digest id : ℕ) : Type 0 where
  pub added : ids_under new digest ≡ ids_under old digest ++ id ∷ []
  pub others : (other : ℕ) → other ≢ digest → ids_under new other ≡ ids_under old other

-- whether the number is one of these
abbrev pub has_id : List ℕ → ℕ → Bool
has_id ids id = list_any (nat_eq id) ids

-- the numbers without that one
abbrev pub without : ℕ → List ℕ → List ℕ
without id ids = filter (λ other. not (other == id)) ids

-- every other number stands where it stood
abbrev pub KeepsOthers : Index → Index → ℕ → Type 0
KeepsOthers old new id = (digest other : ℕ) → other ≢ id → has_id (ids_under new digest) other ≡ has_id (ids_under old digest) other
