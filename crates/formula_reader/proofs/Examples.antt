-- Worked examples of formulas and fields, each computed.
use Rattle.calc_model.specs.declared.tree.Tree.TheVariants as t
use Rattle.std.proofs.Common.{◌≡◌, ◌*◌, ◌^◌, ℕ, pos, false, true, List, [], ◌∷◌, ◌++◌, codes, map, Some, replicate, refl}
use Rattle.std.specs.List.{flat_map, list_all, list_any}
use Rattle.std.specs.Option.{is_some}
use Rattle.std.specs.Str.{chars, is_utf8}
use lib.Utf8.{encode}
use Rattle.calc_addr.specs.References.{Reference}
use Rattle.calc_addr.specs.declared.reference.Span.TheVariants.{Cells, Columns, Rows}
use Rattle.calc_model.specs.declared.fault.Fault.TheVariants.{NA, Over}
use Rattle.calc_model.specs.declared.value.Value.TheVariants.{Number, Words, Bad}
use Rattle.calc_model.specs.declared.content.Content.{Content}
use Rattle.calc_model.specs.declared.content.Content.TheVariants.{Empty, Constant, Formula, Raw}
use Rattle.calc_model.specs.declared.tree.Op.TheVariants.{Add, Le, Mul, Pow}
use Rattle.calc_model.specs.declared.tree.Tree.{Tree}
use Rattle.formula_reader.specs.Fields.{field_of}
use Rattle.formula_reader.specs.Reading.{formula_of}
use Rattle.formula_reader.specs.Unread.{repeat}
use Rattle.formula_reader.specs.Operators.{operator_taken}
use Rattle.formula_reader.specs.Signs.{sign_taken}
use Rattle.formula_reader.specs.Operands.{arg_behind, args_at, comparison_at, operands_below, operator_behind, prefixed_within, primary_at, word_behind}

-- the columns A to C and the rows 1 to 3, each spelled from its end
abbrev columns : Reference
columns = record {
  area = record { sheet = 0; first_col = 1; last_col = 3; first_row = 1; last_row = 1048576 };
  span = Columns;
  marks = record { sheet = false; first_col = false; first_row = false; last_col = false; last_row = false };
}

abbrev rows : Reference
rows = record {
  area = record { sheet = 0; first_col = 1; last_col = 1024; first_row = 1; last_row = 3 };
  span = Rows;
  marks = record { sheet = false; first_col = false; first_row = false; last_col = false; last_row = false };
}

abbrev whole : ℕ → Tree
whole n = t.Number (pos (n * 10 ^ 9))

abbrev corner : Reference
corner = record {
  area = record { sheet = 0; first_col = 1; last_col = 2; first_row = 1; last_row = 2 };
  span = Cells;
  marks = record { sheet = false; first_col = false; first_row = false; last_col = true; last_row = true };
}

-- texts that spell a formula within the limits, with that formula
abbrev spelled : List (List ℕ × Tree)
spelled =
    -- a product binds tighter than a sum
    (codes "=1+2*3", t.Binary Add (whole 1) (t.Binary Mul (whole 2) (whole 3)))
    -- a prefix binds tighter than a power
    ∷ (codes "=-2^2", t.Binary Pow (t.Minus (whole 2)) (whole 2))
    -- powers associate to the left
    ∷ (codes "=2^3^2", t.Binary Pow (t.Binary Pow (whole 2) (whole 3)) (whole 2))
    -- signs are taken from the right
    ∷ (codes "=- +2%", t.Percent (t.Minus (t.Plus (whole 2))))
    -- a digit may stand behind the point alone
    ∷ (codes "=.5", t.Number (pos (5 * 10 ^ 8)))
    -- no digit need stand behind the point
    ∷ (codes "=1.", whole 1)
    -- the longest operator is read
    ∷ (codes "=1<=2", t.Binary Le (whole 1) (whole 2))
    -- blanks stand behind the front
    ∷ (codes "= 1", whole 1)
    -- a quote in a text is doubled
    ∷ (codes "=\"a\"\"b\"", t.Words (codes "a\"b"))
    -- a call has its parenthesis
    ∷ (codes "=A1(1)", t.Call (codes "A1") (whole 1 ∷ []))
    -- a number out of range is an error
    ∷ (codes "=foo(1e20)", t.Call (codes "FOO") (t.Bad Over ∷ []))
    -- a call may have no parameter
    ∷ (codes "=FOO ( )", t.Call (codes "FOO") [])
    -- an error constant is an operand
    ∷ (codes "=#N/A", t.Bad NA)
    -- a sheet in a word makes a name
    ∷ (codes "=Sheet1.A1", t.Name (codes "Sheet1.A1"))
    -- row 0 is a name
    ∷ (codes "=A0", t.Name (codes "A0"))
    -- a reference in parentheses
    ∷ (codes "=( [.$b$2:.A1] + 1.50 )", t.Paren (t.Binary Add (t.Ref corner) (t.Number (pos (15 * 10 ^ 8)))))
    -- whole columns and rows
    ∷ (codes "of:==sum([.C:.A];[.3:.1])%", t.Percent (t.Call (codes "SUM") (t.Ref columns ∷ t.Ref rows ∷ [])))
    ∷ []

abbrev long : List (List ℕ)
long =
    -- sixty four parentheses may be open
    (codes "=" ++ replicate 64 40 ++ codes "1" ++ replicate 64 41)
    -- thirty parameters
    ∷ (codes "=F(1" ++ flat_map {X = ℕ} (λ _. codes ";1") (replicate 29 0) ++ codes ")")
    -- a thousand and twenty four tokens
    ∷ (codes "=" ++ replicate 1023 45 ++ codes "1")
    ∷ []

-- texts that spell none within the limits
abbrev unspelled : List (List ℕ)
unspelled =
    -- a point alone is no number
    (codes "=.")
    -- two numbers are no formula
    ∷ (codes "=1 2")
    -- an operator has a right operand
    ∷ (codes "=1+")
    -- a comparison has a left operand
    ∷ (codes "=<1")
    -- no blank stands inside an operator
    ∷ (codes "=1< =2")
    -- a second equals sign stands at once
    ∷ (codes "=\t=1")
    -- the long front has no more letters
    ∷ (codes "=of:1")
    -- a text ends with its quote
    ∷ (codes "=\"a\"\"")
    -- no parameter is left out
    ∷ (codes "=FOO(1;)")
    -- an address is no name
    ∷ (codes "=AMJ1")
    -- parentheses are closed
    ∷ (codes "=(1")
    -- not sixty five
    ∷ (codes "=" ++ replicate 65 40 ++ codes "1" ++ replicate 65 41)
    -- a call without parameters opens one
    ∷ (codes "=" ++ replicate 64 40 ++ codes "F()" ++ replicate 64 41)
    -- not thirty one
    ∷ (codes "=F(1" ++ flat_map {X = ℕ} (λ _. codes ";1") (replicate 30 0) ++ codes ")")
    -- not one more
    ∷ (codes "=" ++ replicate 1024 45 ++ codes "1")
    -- at most 8192 bytes
    ∷ (codes "=1" ++ replicate 8191 32)
    ∷ []

abbrev contents : List (List ℕ × Content)
contents =
    -- no byte is no content
    ([], Empty)
    -- leading zeros count for nothing
    ∷ ((codes "007"), Constant (Number (pos (7 * 10 ^ 9))))
    -- an exponent writes a number
    ∷ ((codes "1e3"), Constant (Number (pos (1000 * 10 ^ 9))))
    -- a blank makes a text
    ∷ ((codes "1 000"), Constant (Words (codes "1 000")))
    -- a sign alone is a text
    ∷ ((codes "-"), Constant (Words (codes "-")))
    -- a number out of range is over
    ∷ ((codes "1e18"), Constant (Bad Over))
    -- an error constant is its error
    ∷ ((codes "#N/A"), Constant (Bad NA))
    -- a small letter makes it a text
    ∷ ((codes "#N/a"), Constant (Words (codes "#N/a")))
    -- the fault of raw text has no constant
    ∷ ((codes "#SYNTAX!"), Constant (Words (codes "#SYNTAX!")))
    -- an equals sign alone is raw
    ∷ ((codes "="), Raw (codes "="))
    -- a formula
    ∷ ((codes "of:==1"), Formula (whole 1))
    -- a blank before the front makes a text
    ∷ ((codes " =1"), Constant (Words (codes " =1")))
    -- the long front has an equals sign
    ∷ ((codes "of:1"), Constant (Words (codes "of:1")))
    -- the longest text is kept
    ∷ ((replicate 65535 65), Constant (Words (replicate 65535 65)))
    -- a longer text is over
    ∷ ((replicate 65536 65), Constant (Bad Over))
    ∷ []

formulas_are_read : map (λ (e : List ℕ × Tree). formula_of e.0) spelled ≡ map (λ (e : List ℕ × Tree). Some e.1) spelled
unfolding formula_of comparison_at operands_below operator_behind operator_taken repeat prefixed_within sign_taken primary_at word_behind args_at arg_behind is_utf8 chars encode
formulas_are_read = refl

long_formulas_are_read : list_all (λ text. is_some (formula_of text)) long ≡ true
unfolding formula_of comparison_at operands_below operator_behind operator_taken repeat prefixed_within sign_taken primary_at word_behind args_at arg_behind is_utf8 chars encode
long_formulas_are_read = refl

others_are_not : list_any (λ text. is_some (formula_of text)) unspelled ≡ false
unfolding formula_of comparison_at operands_below operator_behind operator_taken repeat prefixed_within sign_taken primary_at word_behind args_at arg_behind is_utf8 chars encode
others_are_not = refl

fields_are_read : map (λ (e : List ℕ × Content). field_of e.0) contents ≡ map (λ (e : List ℕ × Content). e.1) contents
unfolding formula_of comparison_at operands_below operator_behind operator_taken repeat prefixed_within sign_taken primary_at word_behind args_at arg_behind is_utf8 chars encode
fields_are_read = refl
