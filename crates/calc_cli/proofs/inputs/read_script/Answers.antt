use Rattle.std.proofs.Common.{rules, ◌≤◌, ◌<◌, length}
use Rattle.std.proofs.lemmas.Bool.{le-ltb}
use Rattle.calc_cli.specs.declared.limits.TheConstants.{MOST_SCRIPT_BYTES}
use Rattle.calc_cli.proofs.TakenBytes.{longer, within, whole}
use Rattle.calc_cli.proofs.inputs.read_script.Goals as goal

pub returns-then-len-gt-MOST_SCRIPT_BYTES-clause-told :
    goal.returns-then-len-gt-MOST_SCRIPT_BYTES-clause-told
returns-then-len-gt-MOST_SCRIPT_BYTES-clause-told g c =
    λ script told.
    let more : MOST_SCRIPT_BYTES < length c.in_ok-script.script.items = search rules in
    longer MOST_SCRIPT_BYTES c.in_ok-script.script.items script (c.in_ok-script.ensures.bytes script told) more

pub returns-clause-told : goal.returns-clause-told
returns-clause-told g c =
    λ script told.
    let few : length c.in_ok-script.script.items ≤ MOST_SCRIPT_BYTES = search rules in
    let taken = c.in_ok-script.ensures.bytes script told in
    (le-ltb MOST_SCRIPT_BYTES (length script) (within MOST_SCRIPT_BYTES c.in_ok-script.script.items script taken few), whole MOST_SCRIPT_BYTES c.in_ok-script.script.items script taken few)
