-- The parameters so far are texts.
use Rattle.std.proofs.Common.{◌≡◌, map, take, Ok}
use Rattle.calc_model.specs.Arguments.{meanings_of}
use Rattle.calc_model.specs.Parameters.{all_ok, text}
use Rattle.fn_args.specs.Lent.{words_in}
use Rattle.fn_text.proofs.joins.texts.Given as goal

abbrev pub invariant-loop-arg : goal.invariant-loop-arg
invariant-loop-arg g l =
    all_ok (map text (meanings_of l.home (g.V.Values.values l.values) (take l.arg-index l.args))) ≡ Ok (map words_in l.parts.items)
