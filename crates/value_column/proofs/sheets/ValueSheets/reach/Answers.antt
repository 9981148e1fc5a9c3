use Rattle.std.proofs.Common.{◌-◌, ◌∙◌, arith}
use Rattle.value_column.proofs.Shown.{cell-is}
use Rattle.value_column.proofs.sheets.ValueSheets.reach.Goals as goal

pub returns-in-Some : goal.returns-in-Some
returns-in-Some c =
    λ row h. cell-is c.args.self.now (record { sheet = c.args.sheet; col = c.args.col; row = row }) _ c.in-Some.ensures ∙ c.reach.ensures (row - 1) (omega arith)

pub returns-in-None : goal.returns-in-None
returns-in-None c = λ row h. cell-is c.args.self.now (record { sheet = c.args.sheet; col = c.args.col; row = row }) _ c.in-None.ensures
