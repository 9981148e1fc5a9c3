-- Worked examples of printed contents, each computed.
use Rattle.std.proofs.Common.{◌≡◌, ◌*◌, ◌^◌, ℕ, pos, negsuc, true, false, [], ◌∷◌, codes, refl, ap, ◌∙◌, ◌-◌, Bool}
use Rattle.std.specs.Fmt.{digits}
use Rattle.std.proofs.lemmas.Bool.{and_left, and_right}
use Rattle.calc_num.specs.Numbers.{last_digits}
use Rattle.calc_addr.specs.Letters.{column_letters}
use Rattle.calc_addr.specs.References.{Reference}
use Rattle.calc_addr.specs.ValidReferences.{is_valid_reference}
use Rattle.calc_addr.specs.declared.reference.Marks.{Marks}
use Rattle.calc_addr.specs.declared.reference.Span.TheVariants as span
use Rattle.calc_model.specs.declared.content.Content.TheVariants.{Formula, Raw}
use Rattle.calc_model.specs.declared.fault.Fault.TheVariants.{Over}
use Rattle.calc_model.specs.declared.tree.Op.TheVariants.{Pow, Mul, Add, Sub, Cat}
use Rattle.calc_model.specs.declared.tree.Tree.{Tree}
use Rattle.calc_model.specs.declared.tree.Tree.TheVariants as t
use Rattle.calc_model.specs.Formed.{Form, form_of, form_step, stands_within, is_well_formed}
use Rattle.calc_model.specs.Printed.{printed_content}
use Rattle.calc_model.specs.Tokens.{is_identifier}
use Rattle.calc_model.proofs.TreeFolds as fold
use Rattle.formula_printer.proofs.PrintedTrees.{printing}

abbrev no_marks : Marks
no_marks = record { sheet = false; first_col = false; first_row = false; last_col = false; last_row = false }

-- .A1:.$B$2
abbrev square : Reference
square = record {
  area = record { sheet = 0; first_col = 1; last_col = 2; first_row = 1; last_row = 2 };
  span = span.Cells;
  marks = record no_marks { last_col = true; last_row = true };
}

-- the same with its columns exchanged
abbrev exchanged : Reference
exchanged = record square { area = record square.area { first_col = 2; last_col = 1 } }

-- what `( [.$b$2:.A1] + 1.50 )` spells
abbrev parenthesis : Tree
parenthesis = t.Paren (t.Binary Add (t.Ref square) (t.Number (pos (15 * 10 ^ 8))))

-- what `sum([.C:.A];[.3:.1])%` spells
abbrev percent : Tree
percent =
    t.Percent (t.Call (codes "SUM")
    (t.Ref (record {
      area = record { sheet = 0; first_col = 1; last_col = 3; first_row = 1; last_row = 1048576 };
      span = span.Columns;
      marks = no_marks;
    }) ∷ t.Ref (record {
      area = record { sheet = 0; first_col = 1; last_col = 1024; first_row = 1; last_row = 3 };
      span = span.Rows;
      marks = no_marks;
    }) ∷ []))

-- what `SIN([.A2])` spells
abbrev sine : Tree
sine =
    t.Call (codes "SIN")
    (t.Ref (record {
      area = record { sheet = 0; first_col = 1; last_col = 1; first_row = 2; last_row = 2 };
      span = span.One;
      marks = no_marks;
    }) ∷ [])

blanks_and_end_zeros_go : printed_content (Formula parenthesis) ≡ codes "=([.A1:.$B$2]+1.5)"
unfolding column_letters digits last_digits
blanks_and_end_zeros_go = simp printing

a_call_is_in_capitals : printed_content (Formula percent) ≡ codes "=SUM([.A:.C];[.1:.3])%"
unfolding column_letters digits last_digits
a_call_is_in_capitals = simp printing

a_large_number_is_an_error : printed_content (Formula (t.Call (codes "FOO") (t.Bad Over ∷ []))) ≡ codes "=FOO(#OVER!)"
a_large_number_is_an_error = simp printing

a_function_need_not_be_there : printed_content (Formula sine) ≡ codes "=SIN([.A2])"
unfolding column_letters digits last_digits
a_function_need_not_be_there = simp printing

two_numbers_in_a_row_are_raw : printed_content (Raw (codes "=1 2")) ≡ codes "=1 2"
two_numbers_in_a_row_are_raw = refl

braces_are_raw : printed_content (Raw (codes "=SUM({1;2})")) ≡ codes "=SUM({1;2})"
braces_are_raw = refl

an_address_without_brackets_is_raw : printed_content (Raw (codes "=SUM(A1:A3)")) ≡ codes "=SUM(A1:A3)"
an_address_without_brackets_is_raw = refl

an_operand_that_is_missing_is_raw : printed_content (Raw (codes "=1+")) ≡ codes "=1+"
an_operand_that_is_missing_is_raw = refl

quotes_are_doubled : printed_content (Formula (t.Binary Cat (t.Words (codes "a\"b\"")) (t.Name (codes "Rate")))) ≡ codes "=\"a\"\"b\"\"\"&Rate"
quotes_are_doubled = simp printing

abbrev whole : ℕ → Tree
whole n = t.Number (pos (n * 10 ^ 9))

operators_stand_between : printed_content (Formula (t.Binary Mul (whole 2) (t.Binary Pow (t.Paren (t.Binary Sub (whole 1) (whole 2))) (t.Minus (whole 3))))) ≡ codes "=2*(1-2)^-3"
unfolding digits last_digits
operators_stand_between = simp printing

abbrev is_formed : Form → Bool
is_formed form = form.formed

a_difference_is_no_base : is_well_formed (t.Binary Pow (t.Binary Sub (whole 1) (whole 2)) (whole 3)) ≡ false
unfolding is_well_formed
a_difference_is_no_base =
    let difference = t.Binary Sub (whole 1) (whole 2) in
    let loose : stands_within 2 (form_of difference) ≡ false = ap (stands_within 2) (fold.at-Binary Form form_step Sub (whole 1) (whole 2)) ∙ and_right _ false refl in
    ap is_formed (fold.at-Binary Form form_step Pow difference (whole 3)) ∙ and_left _ (stands_within 1 (form_of (whole 3))) loose

a_negative_number_is_no_node : is_well_formed (t.Number (negsuc 0)) ≡ false
unfolding is_well_formed
a_negative_number_is_no_node = ap is_formed (fold.at-Number Form form_step (negsuc 0))

a_number_out_of_range_is_no_node : is_well_formed (t.Number (pos (10 ^ 27))) ≡ false
unfolding is_well_formed
a_number_out_of_range_is_no_node = ap is_formed (fold.at-Number Form form_step (pos (10 ^ 27)))

the_largest_number_is_a_node : is_well_formed (t.Number (pos (10 ^ 27 - 1))) ≡ true
unfolding is_well_formed
the_largest_number_is_a_node = ap is_formed (fold.at-Number Form form_step (pos (10 ^ 27 - 1)))

ends_in_order_form_a_reference : is_well_formed (t.Ref square) ≡ true
unfolding is_well_formed is_valid_reference
ends_in_order_form_a_reference = ap is_formed (fold.at-Ref Form form_step square)

exchanged_ends_form_none : is_well_formed (t.Ref exchanged) ≡ false
unfolding is_well_formed is_valid_reference
exchanged_ends_form_none = ap is_formed (fold.at-Ref Form form_step exchanged)

small_letters_form_no_call : is_well_formed (t.Call (codes "Sum") []) ≡ false
unfolding is_well_formed
small_letters_form_no_call =
    ap is_formed (fold.at-Call Form form_step (codes "Sum") []) ∙ and_left _ true (and_right (is_identifier (codes "Sum")) false refl)

an_address_is_no_name : is_well_formed (t.Name (codes "A1")) ≡ false
unfolding is_well_formed
an_address_is_no_name = ap is_formed (fold.at-Name Form form_step (codes "A1")) ∙ and_right (is_identifier (codes "A1")) false refl
