-- Texts that are lent, in a list.
use Rattle.std.specs.Prelude.{ℕ, List, map, Result, Ok, Err}
use Rattle.std.specs.Global.{Vec}
use Rattle.calc_model.specs.declared.fault.Fault.{Fault}
use Rattle.fn_args.specs.Lent.{words_in}
use Rattle.fn_args.specs.declared.words.Words.{Words}

abbrev pub texts_lent : Result (Vec Words) Fault → Result (List (List ℕ)) Fault
texts_lent (Ok parts) = Ok (map words_in parts.items)
texts_lent (Err fault) = Err fault
