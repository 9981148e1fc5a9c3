-- The order of cells is a total order, and how it goes on in a column and in a sheet.
use Rattle.std.proofs.Common.{ℕ, ◌<◌, arith}
use Rattle.std.proofs.lemmas.Bool.Decides.{nat_tests}
use Rattle.calc_addr.specs.Places.{IsBefore}

-- in one column the lower row comes later
pub before_in_column : (sheet col row later : ℕ) → row < later → IsBefore (record { sheet = sheet; col = col; row = row }) (record { sheet = sheet; col = col; row = later })
before_in_column sheet col row later h = grind (arith, nat_tests)

-- and a column to the right comes later, whatever its row
pub before_in_sheet : (sheet col later row other : ℕ) → col < later → IsBefore (record { sheet = sheet; col = col; row = row }) (record { sheet = sheet; col = later; row = other })
before_in_sheet sheet col later row other h = grind (arith, nat_tests)
