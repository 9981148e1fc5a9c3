-- Values and their texts. A value is a number, a text, a fault or blank; a blank one prints as
-- nothing, a text as itself, a number as its decimal form.
use Rattle.std.specs.Prelude.{ℕ, List, [], codes}
use Rattle.calc_num.specs.Numbers.{printed}
use Rattle.calc_model.specs.declared.value.Value.{Value}
use Rattle.calc_model.specs.declared.value.Value.TheVariants.{Number, Words, Bad, Blank}
use Rattle.calc_model.specs.declared.value.Seen.{Seen}
use Rattle.calc_model.specs.declared.value.Seen.TheVariants as seen
use Rattle.calc_model.specs.declared.fault.Fault.{Fault}
use Rattle.calc_model.specs.declared.fault.Fault.TheVariants.{NA, DivZero, BadValue, BadRef, BadName, BadNum, Null, Over, Syntax, Circular}

abbrev pub fault_text : Fault → List ℕ
fault_text NA = codes "#N/A"
fault_text DivZero = codes "#DIV/0!"
fault_text BadValue = codes "#VALUE!"
fault_text BadRef = codes "#REF!"
fault_text BadName = codes "#NAME?"
fault_text BadNum = codes "#NUM!"
fault_text Null = codes "#NULL!"
fault_text Over = codes "#OVER!"
fault_text Syntax = codes "#SYNTAX!"
fault_text Circular = codes "Err:522"

-- the value that is lent
abbrev pub lent : Seen → Value
lent (seen.Number n) = Number n
lent (seen.Words text) = Words text.now
lent (seen.Bad fault) = Bad fault
lent seen.Blank = Blank

-- the printed text
abbrev pub text_of : Value → List ℕ
text_of (Number n) = printed n
text_of (Words text) = text
text_of (Bad fault) = fault_text fault
text_of Blank = []
