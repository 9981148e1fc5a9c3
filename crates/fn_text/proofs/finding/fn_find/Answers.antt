use Rattle.std.proofs.Common.{arith}
use Rattle.std.proofs.lemmas.Bool.Decides.{nat_tests}
use Rattle.fn_text.proofs.Occurring.{too-few, too-many}
use Rattle.fn_text.proofs.finding.fn_find.Goals as goal
use Rattle.fn_text.proofs.finding.fn_find.Goals.{in_default-via-then-args-lt2, in_default-via-else-args-lt2+else-args-lt3+else-args-lt4}

pub returns : goal.returns
returns g c =
    let v = g.V.Values.values c.args.values.now in
    elim c.in_default.branch [
      | in_default-via-then-args-lt2 w ↦ too-few c.args.home v c.args.args.now (grind (arith, nat_tests))
      | in_default-via-else-args-lt2+else-args-lt3+else-args-lt4 w ↦ too-many c.args.home v c.args.args.now (grind (arith, nat_tests))
    ]
