-- Texts that are lent, and what cells are compared with.
use Rattle.std.specs.Prelude.{ℕ, List, Result, Ok, Err}
use Rattle.calc_model.specs.declared.fault.Fault.{Fault}
use Rattle.calc_model.specs.declared.value.Value.{Value}
use Rattle.calc_model.specs.declared.value.Value.TheVariants.{Number, Words}
use Rattle.fn_args.specs.declared.wanted.Wanted.{Wanted}
use Rattle.fn_args.specs.declared.wanted.Wanted.TheVariants as wanted
use Rattle.fn_args.specs.declared.words.Words.{Words as Lent}
use Rattle.fn_args.specs.declared.words.Words.TheVariants as words

-- the text's bytes
abbrev pub words_in : Lent → List ℕ
words_in (words.Lent text) = text.now
words_in (words.Made text) = text

abbrev pub words_lent : Result Lent Fault → Result (List ℕ) Fault
words_lent (Ok w) = Ok (words_in w)
words_lent (Err fault) = Err fault

abbrev pub wanted_value : Wanted → Value
wanted_value (wanted.Number n) = Number n
wanted_value (wanted.Words bytes) = Words bytes.now

abbrev pub wanted_lent : Result Wanted Fault → Result Value Fault
wanted_lent (Ok w) = Ok (wanted_value w)
wanted_lent (Err fault) = Err fault
