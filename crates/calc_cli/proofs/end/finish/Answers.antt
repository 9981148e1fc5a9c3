use Rattle.std.proofs.Common.{length, subst, sym}
use Rattle.calc_cli.specs.declared.status.TheConstants.{SCRIPT_TOO_LONG}
use Rattle.calc_cli.specs.Inputs.{IsLeft, ending_of}
use Rattle.calc_cli.specs.Runs.{Ends}
use Rattle.calc_cli.proofs.Ended.{too_long_ends, too_long_left}
use Rattle.calc_cli.proofs.end.finish.Goals as goal

pub returns-in-TooLong-clause-ends : goal.returns-in-TooLong-clause-ends
returns-in-TooLong-clause-ends g c =
    let written = g.K.Sink.written c.args.sink.now in
    subst (λ inputs. Ends SCRIPT_TOO_LONG written written (ending_of (length c.args.stock.items) inputs)) (sym c.in-TooLong.is) (too_long_ends written)

pub returns-in-TooLong-clause-leaves : goal.returns-in-TooLong-clause-leaves
returns-in-TooLong-clause-leaves g c =
    λ script book_left script_left left.
    too_long_left script book_left script_left (subst (λ inputs. IsLeft inputs script book_left script_left) c.in-TooLong.is left)
