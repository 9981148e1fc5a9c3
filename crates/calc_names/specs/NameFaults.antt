-- When a name isn't defined for want of room.
use Rattle.std.specs.Prelude.{◌≡◌, ℕ, true, false, List, length}
use Rattle.calc_model.specs.declared.limits.TheConstants.{MOST_NAMES}
use Rattle.calc_model.specs.Books.{NameEntries}
use Rattle.calc_model.specs.NamedAreas.{is_defined}
use Rattle.calc_model.specs.Tokens.{is_name}

-- a new name where there are as many as a book may have
pub record IsOneTooMany (entries : NameEntries) (name : List ℕ) : Type 0 where
  pub spelled : is_name name ≡ true
  pub new : is_defined entries name ≡ false
  pub full : length entries ≡ MOST_NAMES
