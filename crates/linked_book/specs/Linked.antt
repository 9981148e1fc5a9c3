-- A book with the hub of what its formulas read.
use Rattle.std.specs.Prelude.{◌≡◌, Bool, false}
use Rattle.calc_model.specs.Books.{Book}
use Rattle.listener_hub.specs.Hubs.{areas_read}
use Rattle.listener_hub.specs.Known.{Known}
use Rattle.formula_listeners.specs.Held.{HoldsReads}

-- the book, and whether its hub is spent
pub record Linked : Type 0 where
  pub book : Book
  pub spent : Bool

-- a hub that isn't spent holds what the formulas of the book read
abbrev pub IsLinked : Known → Book → Type 0
IsLinked hub book = hub.spent ≡ false → HoldsReads (areas_read hub) book
