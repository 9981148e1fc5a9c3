-- What a table of codes keeps: forms differ, each stands under its digest, and each has a use.
use Rattle.std.specs.Prelude.{◌≡◌, ℕ, true}
use Rattle.formula_code.specs.declared.index.Index.{Index}
use Rattle.formula_code.specs.Codes.{AreApart, AreUsed, Codes, IsLive, form_at}
use Rattle.formula_code.specs.Digests.{form_digest}
use Rattle.formula_code.specs.Listed.{has_id, ids_under}

-- Each live code stands under its form's digest.
abbrev pub AreIndexed : Codes → Index → Type 0
AreIndexed codes index = (id : ℕ) → IsLive codes id → has_id (ids_under index (form_digest (form_at codes id))) id ≡ true

pub record IsTable (codes : Codes) (index : Index) : Type 0 where
  pub indexed : AreIndexed codes index
  pub apart : AreApart codes
  pub used : AreUsed codes
