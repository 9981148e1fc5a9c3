-- Values in a place that takes one value: coercions, comparison, and what a reference gives there, after
-- OpenFormula, 6.2 and 6.3.
use Rattle.std.specs.Prelude.{ℕ, ℤ, pos, not, ◌==◌, ◌&&◌, Bool, false, List, [], Result, Ok, Err, if◌then◌else◌}
use Rattle.std.specs.Cmp.Lexicographic.{slice_cmp}
use Rattle.std.specs.Ordering.{int_cmp, int_eq, nat_cmp}
use Rattle.std.specs.declared.cmp.Ordering.{Ordering}
use Rattle.std.specs.declared.cmp.Ordering.TheVariants.{Less, Equal, Greater}
use Rattle.calc_num.specs.Numbers.{printed}
use Rattle.calc_addr.specs.Places.{Place, Rectangle, covers}
use Rattle.calc_model.specs.declared.fault.Fault.{Fault}
use Rattle.calc_model.specs.declared.fault.Fault.TheVariants.{BadValue}
use Rattle.calc_model.specs.declared.value.Value.{Value}
use Rattle.calc_model.specs.declared.value.Value.TheVariants.{Number, Words, Bad, Blank}

-- what each cell shows
abbrev pub CellValues : Type 0
CellValues = Place → Value

-- A number is itself and blank is 0. A text is no number, and an error is itself.
abbrev pub number_of : Value → Result ℤ Fault
number_of (Number n) = Ok n
number_of (Words text) = Err BadValue
number_of (Bad fault) = Err fault
number_of Blank = Ok (pos 0)

-- A text is itself, a number is its printed text, and blank is the empty text. An error is itself.
abbrev pub words_of : Value → Result (List ℕ) Fault
words_of (Number n) = Ok (printed n)
words_of (Words text) = Ok text
words_of (Bad fault) = Err fault
words_of Blank = Ok []

-- A number is true where it isn't 0, and blank is false. A text is no logical value, and an error is itself.
abbrev pub truth_of : Value → Result Bool Fault
truth_of (Number n) = Ok (not (int_eq n (pos 0)))
truth_of (Words text) = Err BadValue
truth_of (Bad fault) = Err fault
truth_of Blank = Ok false

-- The order of two values: numbers by value, texts by their bytes, and every number before every text.
abbrev pub order_of : Value → Value → Result Ordering Fault
order_of (Bad fault) right = Err fault
order_of left (Bad fault) = Err fault
order_of (Number n) (Number m) = Ok (int_cmp n m)
order_of (Number n) right = Ok Less
order_of left (Number m) = Ok Greater
order_of (Words s) (Words t) = Ok (slice_cmp nat_cmp s t)
order_of left right = Ok Equal

-- Blank is the empty text beside a text, and 0 beside anything else.
abbrev pub beside : Value → Value → Value
beside (Words text) Blank = Words []
beside other Blank = Number (pos 0)
beside other value = value

-- how the left value compares with the right one; the first error is the result
abbrev pub compared : Value → Value → Result Ordering Fault
compared left right = order_of (beside right left) (beside left right)

abbrev pub one_col : Rectangle → Bool
one_col a = a.first_col == a.last_col

abbrev pub one_row : Rectangle → Bool
one_row a = a.first_row == a.last_row

abbrev pub if_covered : Rectangle → Place → CellValues → Value
if_covered a place values = if covers a place then values place else Bad BadValue

-- What an area gives a formula at home: its cell where it has one; where it has one column, the cell in
-- the formula's row; where it has one row, the cell in the formula's column. It is no value where that
-- cell isn't in it, or where it has several rows and columns.
abbrev pub scalar_at : Rectangle → Place → CellValues → Value
scalar_at a home values =
    if one_col a && one_row a then values (record { sheet = a.sheet; col = a.first_col; row = a.first_row })
    else (if one_col a then if_covered a (record { sheet = a.sheet; col = a.first_col; row = home.row }) values
    else (if one_row a then if_covered a (record { sheet = a.sheet; col = home.col; row = a.first_row }) values
    else Bad BadValue))
