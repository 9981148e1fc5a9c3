use Rattle.std.proofs.Common.{◌≡◌, true, subst}
use Rattle.calc_script.specs.Commands.{is_makeable_command}
use Rattle.calc_cli.proofs.ColumnNumbers.{sheet_column}
use Rattle.calc_cli.proofs.replies.do_command.Goals as goal

pub list_groups-requires : goal.list_groups-requires
list_groups-requires g c = sheet_column c.in-Groups.sheet c.in-Groups.col (subst (λ command. is_makeable_command command ≡ true) c.in-Groups.is c.requires)

pub list_blocks-requires : goal.list_blocks-requires
list_blocks-requires g c = sheet_column c.in-Blocks.sheet c.in-Blocks.col (subst (λ command. is_makeable_command command ≡ true) c.in-Blocks.is c.requires)
