-- Worked examples of small books of one row, and what their cells show.
use Rattle.std.proofs.Common.{◌≡◌, ◌∙◌, ◌+◌, ◌-◌, ◌*◌, ◌^◌, ◌&&◌, not, ℕ, zero, suc, pos, negsuc, Bool, true, false, List, [], ◌∷◌, ◌++◌, ap, arith, codes, map, refl, eq-eqb}
use Rattle.std.specs.List.{list_all, flat_map, range_with_len}
use Rattle.std.specs.Fmt.{digits}
use Rattle.calc_num.specs.Numbers.{last_digits}
use Rattle.calc_addr.specs.Places.{Place, Rectangle, places, single}
use Rattle.calc_addr.specs.References.{Reference, here}
use Rattle.calc_addr.specs.declared.reference.Span.TheVariants.{One}
use Rattle.calc_model.specs.declared.fault.Fault.TheVariants.{NA, DivZero, BadValue, Over, Syntax, Circular}
use Rattle.calc_model.specs.declared.value.Value.{Value}
use Rattle.calc_model.specs.declared.value.Value.TheVariants.{Number, Words, Bad, Blank}
use Rattle.calc_model.specs.declared.content.Content.{Content}
use Rattle.calc_model.specs.declared.content.Content.TheVariants.{Empty, Constant, Formula, Raw}
use Rattle.calc_model.specs.declared.tree.Op.TheVariants.{Add}
use Rattle.calc_model.specs.declared.tree.Tree.{Tree}
use Rattle.calc_model.specs.declared.tree.Tree.TheOpen.{Tree-F}
use Rattle.calc_model.specs.declared.tree.Tree.TheVariants as t
use Rattle.calc_model.specs.Books.{Book, IsBook, content_at, area_named, formula_count, with_content}
use Rattle.calc_addr.specs.ValidReferences.{is_valid_reference}
use Rattle.calc_model.specs.Meanings.{Meaning}
use Rattle.calc_model.specs.Eval.{meaning, meaning_step, eval, top}
use Rattle.calc_model.specs.Operators.{binary}
use Rattle.calc_model.specs.Formed.{Form, form_of, form_step, is_formed, is_well_formed}
use Rattle.calc_model.specs.Limits.{Counts, counts_of, counts_step, is_in_limits, is_within}
use Rattle.calc_model.specs.Grounded.{all_cells, is_grounded, is_circular}
use Rattle.calc_model.specs.Reads.{Names, areas, areas_step, content_areas}
use Rattle.calc_model.specs.Scalars.{CellValues, scalar_at}
use Rattle.calc_model.specs.Val.{val}
use Rattle.calc_model.specs.ValueTexts.{text_of}
use Rattle.calc_model.proofs.TreeFolds as fold
use Rattle.calc_model.proofs.Shown.{shows_its_value, shows_its_circle}

-- an unmarked reference to one cell of the formula's own sheet
abbrev cell_reference : Place → Reference
cell_reference p = record {
  area = single p;
  span = One;
  marks = record { sheet = false; first_col = false; first_row = false; last_col = false; last_row = false };
}

abbrev sum_of_cells : Place → Place → Tree
sum_of_cells p q = t.Binary Add (t.Ref (cell_reference p)) (t.Ref (cell_reference q))

-- the cell of the first row in that column
abbrev pub at : ℕ → Place
at col = record { sheet = 0; col = col; row = 1 }

abbrev pub book_of : List (Place × Content) → Book
book_of cells = record { cells = cells; names = [] }

-- the content that sums the cells of two columns
abbrev pub sum : ℕ → ℕ → Content
sum left right = Formula (sum_of_cells (at left) (at right))

abbrev pub whole : ℕ → Value
whole n = Number (pos (n * 10 ^ 9))

-- what a sum shows over what its cells show
abbrev added : Value → Value → Value
added left right = top (binary Add left right)

module _ (home : Place) (names : Names) (values : CellValues) where
  eval_sum : (a b : Reference) → eval home names values (t.Binary Add (t.Ref a) (t.Ref b)) ≡ binary Add (scalar_at (here a home) home values) (scalar_at (here b home) home values)
  eval_sum a b =
      ap (λ (m : Meaning). m.scalar) (fold.at-Binary Meaning (meaning_step home names values) Add (t.Ref a) (t.Ref b))
      ∙ ap (λ (m : Meaning). binary Add m.scalar (meaning home names values (t.Ref b)).scalar) (fold.at-Ref Meaning (meaning_step home names values) a)
      ∙ ap (λ (m : Meaning). binary Add (scalar_at (here a home) home values) m.scalar) (fold.at-Ref Meaning (meaning_step home names values) b)

-- what a reference to one cell of its own sheet gives is that cell's value
scalar_of_one : (col home : ℕ) (values : CellValues) → scalar_at (here (cell_reference (at col)) (at home)) (at home) values ≡ values (at col)
scalar_of_one col home values = rw (eq-eqb col col refl) refl

pub one_place : (col : ℕ) → places (single (at col)) ≡ at col ∷ []
one_place col =
    let one : col + 1 - col ≡ 1 = omega arith in
    ap (λ n. flat_map (λ c. map (λ row. record { sheet = 0; col = c; row = row }) (1 ∷ [])) (range_with_len col n)) one

without_trues : (b c : Bool) → ((b && true) && ((c && true) && true)) ≡ (b && c)
without_trues true true = refl
without_trues true false = refl
without_trues false c = refl

pub areas_of_sum : (home : Place) (names : Names) (p q : Place) → areas home names (sum_of_cells p q) ≡ here (cell_reference p) home ∷ here (cell_reference q) home ∷ []
areas_of_sum home names p q =
    fold.at-Binary (List Rectangle) (areas_step home names) Add (t.Ref (cell_reference p)) (t.Ref (cell_reference q))
    ∙ ap (λ front. front ++ areas home names (t.Ref (cell_reference q))) (fold.at-Ref (List Rectangle) (areas_step home names) (cell_reference p))
    ∙ ap (λ back. here (cell_reference p) home ∷ back) (fold.at-Ref (List Rectangle) (areas_step home names) (cell_reference q))

module _ (book : Book) (col left right : ℕ) (holds : content_at book (at col) ≡ sum left right) where
  -- a sum is grounded one round after both of its cells
  grounded_sum : (k : ℕ) → is_grounded book (suc k) (at col) ≡ (is_grounded book k (at left) && is_grounded book k (at right))
  grounded_sum k =
      let grounded = is_grounded book k in
      ap (λ content. all_cells grounded (content_areas (at col) (area_named book) content)) holds
      ∙ ap (all_cells grounded) (areas_of_sum (at col) (area_named book) (at left) (at right))
      ∙ ap (λ cells. list_all grounded cells && (list_all grounded (places (single (at right))) && true)) (one_place left)
      ∙ ap (λ cells. (grounded (at left) && true) && (list_all grounded cells && true)) (one_place right)
      ∙ without_trues (grounded (at left)) (grounded (at right))

  shows_sum : is_circular book (at col) ≡ false → val book (at col) ≡ added (val book (at left)) (val book (at right))
  shows_sum free =
      let a = cell_reference (at left) in
      let b = cell_reference (at right) in
      let of_right : Value = scalar_at (here b (at col)) (at col) (val book) in
      shows_its_value book (at col) (sum_of_cells (at left) (at right)) holds free
      ∙ ap top (eval_sum (at col) (area_named book) (val book) a b)
      ∙ ap (λ v. added v of_right) (scalar_of_one left col (val book))
      ∙ ap (λ v. added (val book (at left)) v) (scalar_of_one right col (val book))

  shows_circle : is_circular book (at col) ≡ true → val book (at col) ≡ Bad Circular
  shows_circle circular = shows_its_circle book (at col) (sum_of_cells (at left) (at right)) holds circular

-- 1,2,=[.A1]+[.B1],=[.C1]+[.C1]
abbrev pub row_of_sums : Book
row_of_sums =
    book_of ((at 1, Constant (whole 1)) ∷ (at 2, Constant (whole 2)) ∷ (at 3, sum 1 2) ∷ (at 4, sum 3 3) ∷ [])

a_constant_shows_itself : val row_of_sums (at 1) ≡ whole 1
unfolding content_at formula_count
a_constant_shows_itself = refl

a_sum_of_constants : val row_of_sums (at 3) ≡ whole 3
unfolding content_at formula_count
a_sum_of_constants = shows_sum row_of_sums 3 1 2 refl (ap not (grounded_sum row_of_sums 3 1 2 refl 2))

a_sum_of_sums : val row_of_sums (at 4) ≡ whole 6
unfolding content_at formula_count
a_sum_of_sums =
    shows_sum row_of_sums 4 3 3 refl (ap not (grounded_sum row_of_sums 4 3 3 refl 2 ∙ ap (λ b. b && b) (grounded_sum row_of_sums 3 1 2 refl 1)))
    ∙ ap (λ v. added v v) a_sum_of_constants

-- =[.A1]+[.A1],2,=[.B1]+[.A1],=[.B1]+[.B1]
abbrev circle_of_one : Book
circle_of_one = book_of ((at 1, sum 1 1) ∷ (at 2, Constant (whole 2)) ∷ (at 3, sum 2 1) ∷ (at 4, sum 2 2) ∷ [])

never_grounded : (k : ℕ) → is_grounded circle_of_one k (at 1) ≡ false
unfolding content_at
never_grounded zero = refl
never_grounded (suc k) = grounded_sum circle_of_one 1 1 1 refl k ∙ ap (λ b. b && b) (never_grounded k)

a_cell_that_reads_itself_is_circular : val circle_of_one (at 1) ≡ Bad Circular
unfolding content_at formula_count
a_cell_that_reads_itself_is_circular = shows_circle circle_of_one 1 1 1 refl (ap not (never_grounded 4))

a_reader_of_a_circle_is_circular_too : val circle_of_one (at 3) ≡ Bad Circular
unfolding content_at formula_count
a_reader_of_a_circle_is_circular_too = shows_circle circle_of_one 3 2 1 refl (ap not (grounded_sum circle_of_one 3 2 1 refl 3 ∙ never_grounded 3))

a_cell_beside_a_circle_has_its_sum : val circle_of_one (at 4) ≡ whole 4
unfolding content_at formula_count
a_cell_beside_a_circle_has_its_sum = shows_sum circle_of_one 4 2 2 refl (ap not (grounded_sum circle_of_one 4 2 2 refl 3))

-- =[.B1]+[.C1],=[.A1]+[.C1],1
abbrev pub circle_of_two : Book
circle_of_two = book_of ((at 1, sum 2 3) ∷ (at 2, sum 1 3) ∷ (at 3, Constant (whole 1)) ∷ [])

the_first_of_two_that_read_each_other_is_circular : val circle_of_two (at 1) ≡ Bad Circular
unfolding content_at formula_count
the_first_of_two_that_read_each_other_is_circular = shows_circle circle_of_two 1 2 3 refl (ap not (grounded_sum circle_of_two 1 2 3 refl 2 ∙ ap (λ b. b && true) (grounded_sum circle_of_two 2 1 3 refl 1 ∙ ap (λ b. b && true) (grounded_sum circle_of_two 1 2 3 refl 0))))

the_second_of_two_that_read_each_other_is_circular : val circle_of_two (at 2) ≡ Bad Circular
unfolding content_at formula_count
the_second_of_two_that_read_each_other_is_circular = shows_circle circle_of_two 2 1 3 refl (ap not (grounded_sum circle_of_two 2 1 3 refl 2 ∙ ap (λ b. b && true) (grounded_sum circle_of_two 1 2 3 refl 1 ∙ ap (λ b. b && true) (grounded_sum circle_of_two 2 1 3 refl 0))))

-- 5,,=[.A1]+[.B1],=[.B1]+[.B1]
abbrev pub row_with_a_gap : Book
row_with_a_gap = book_of ((at 1, Constant (whole 5)) ∷ (at 3, sum 1 2) ∷ (at 4, sum 2 2) ∷ [])

an_empty_cell_is_blank : val row_with_a_gap (at 2) ≡ Blank
unfolding content_at formula_count
an_empty_cell_is_blank = refl

an_empty_cell_counts_as_zero : val row_with_a_gap (at 3) ≡ whole 5
unfolding content_at formula_count
an_empty_cell_counts_as_zero = shows_sum row_with_a_gap 3 1 2 refl (ap not (grounded_sum row_with_a_gap 3 1 2 refl 2))

two_empty_cells_sum_to_zero : val row_with_a_gap (at 4) ≡ whole 0
unfolding content_at formula_count
two_empty_cells_sum_to_zero = shows_sum row_with_a_gap 4 2 2 refl (ap not (grounded_sum row_with_a_gap 4 2 2 refl 2))

-- #DIV/0!,#N/A,abc,=1+1,=[.A1]+[.B1],=[.B1]+[.A1],=[.C1]+[.A1],=[.I1]+[.D1]
abbrev row_of_errors : Book
row_of_errors =
    book_of ((at 1, Constant (Bad DivZero)) ∷ (at 2, Constant (Bad NA)) ∷ (at 3, Constant (Words (codes "abc"))) ∷ (at 4, Raw (codes "=1+1")) ∷ (at 5, sum 1 2) ∷ (at 6, sum 2 1) ∷ (at 7, sum 3 1) ∷ (at 8, sum 9 4) ∷ [])

the_first_error_is_the_sum : val row_of_errors (at 5) ≡ Bad DivZero
unfolding content_at formula_count
the_first_error_is_the_sum = shows_sum row_of_errors 5 1 2 refl (ap not (grounded_sum row_of_errors 5 1 2 refl 4))

the_sum_taken_the_other_way_has_the_other_error : val row_of_errors (at 6) ≡ Bad NA
unfolding content_at formula_count
the_sum_taken_the_other_way_has_the_other_error = shows_sum row_of_errors 6 2 1 refl (ap not (grounded_sum row_of_errors 6 2 1 refl 4))

a_text_is_no_number : val row_of_errors (at 7) ≡ Bad BadValue
unfolding content_at formula_count
a_text_is_no_number = shows_sum row_of_errors 7 3 1 refl (ap not (grounded_sum row_of_errors 7 3 1 refl 4))

raw_text_has_no_value : val row_of_errors (at 8) ≡ Bad Syntax
unfolding content_at formula_count
raw_text_has_no_value = shows_sum row_of_errors 8 9 4 refl (ap not (grounded_sum row_of_errors 8 9 4 refl 4))

-- the largest number, the smallest above 0, the largest below 0, and sums of them
abbrev row_at_the_limit : Book
row_at_the_limit =
    book_of ((at 1, Constant (Number (pos (10 ^ 27 - 1)))) ∷ (at 2, Constant (Number (pos 1))) ∷ (at 3, Constant (Number (negsuc 0))) ∷ (at 4, sum 1 2) ∷ (at 5, sum 1 3) ∷ (at 6, sum 1 7) ∷ [])

a_sum_past_the_largest_number_is_over : val row_at_the_limit (at 4) ≡ Bad Over
unfolding content_at formula_count
a_sum_past_the_largest_number_is_over = shows_sum row_at_the_limit 4 1 2 refl (ap not (grounded_sum row_at_the_limit 4 1 2 refl 3))

a_sum_below_the_largest_number : val row_at_the_limit (at 5) ≡ Number (pos (10 ^ 27 - 2))
unfolding content_at formula_count
a_sum_below_the_largest_number = shows_sum row_at_the_limit 5 1 3 refl (ap not (grounded_sum row_at_the_limit 5 1 3 refl 3))

the_largest_number_may_be_a_sum : val row_at_the_limit (at 6) ≡ Number (pos (10 ^ 27 - 1))
unfolding content_at formula_count
the_largest_number_may_be_a_sum = shows_sum row_at_the_limit 6 1 7 refl (ap not (grounded_sum row_at_the_limit 6 1 7 refl 3))

abbrev two_cells : List (Place × Content)
two_cells = (at 1, Constant (whole 1)) ∷ (at 3, Constant (whole 3)) ∷ []

an_emptied_cell_is_removed : with_content two_cells (at 1) Empty ≡ (at 3, Constant (whole 3)) ∷ []
an_emptied_cell_is_removed = refl

an_empty_cell_stays_empty : with_content two_cells (at 2) Empty ≡ two_cells
an_empty_cell_stays_empty = refl

a_new_cell_goes_to_its_place : with_content two_cells (at 2) (sum 1 3) ≡ (at 1, Constant (whole 1)) ∷ (at 2, sum 1 3) ∷ (at 3, Constant (whole 3)) ∷ []
a_new_cell_goes_to_its_place = refl

a_held_cell_is_overwritten : with_content two_cells (at 3) (sum 1 1) ≡ (at 1, Constant (whole 1)) ∷ (at 3, sum 1 1) ∷ []
a_held_cell_is_overwritten = refl

a_whole_number_has_no_point : text_of (whole 3) ≡ codes "3"
unfolding digits
a_whole_number_has_no_point = refl

a_negative_half : text_of (Number (negsuc 499999999)) ≡ codes "-0.5"
unfolding digits last_digits
a_negative_half = refl

a_text_is_its_own_text : text_of (Words (codes "a b")) ≡ codes "a b"
a_text_is_its_own_text = refl

blank_has_no_text : text_of Blank ≡ []
blank_has_no_text = refl

the_text_of_a_circle : text_of (val circle_of_one (at 1)) ≡ codes "Err:522"
the_text_of_a_circle = ap text_of a_cell_that_reads_itself_is_circular

the_text_of_a_sum_out_of_range : text_of (val row_at_the_limit (at 4)) ≡ codes "#OVER!"
the_text_of_a_sum_out_of_range = ap text_of a_sum_past_the_largest_number_is_over

-- a sum of two cells of the first row is a formula that can be
sum_formed : (left right : ℕ) → is_valid_reference (cell_reference (at left)) ≡ true → is_valid_reference (cell_reference (at right)) ≡ true → is_formed (sum_of_cells (at left) (at right)) ≡ true
unfolding is_well_formed is_in_limits
sum_formed left right l r =
    let a = cell_reference (at left) in
    let b = cell_reference (at right) in
    let formed : is_well_formed (sum_of_cells (at left) (at right)) ≡ true =
    ap (λ (f : Form). f.formed) (fold.at-Binary Form form_step Add (t.Ref a) (t.Ref b))
    ∙ ap (λ (f : Form). (form_step (Tree-F.Binary Add f (form_of (t.Ref b)))).formed) (fold.at-Ref Form form_step a)
    ∙ ap (λ (f : Form). (form_step (Tree-F.Binary Add (form_step (Tree-F.Ref a)) f)).formed) (fold.at-Ref Form form_step b)
    ∙ ap (λ x. (x && true) && (is_valid_reference b && true)) l
    ∙ ap (λ x. x && true) r in
    let within : is_in_limits (sum_of_cells (at left) (at right)) ≡ true =
    ap is_within (fold.at-Binary Counts counts_step Add (t.Ref a) (t.Ref b))
    ∙ ap (λ c. is_within (counts_step (Tree-F.Binary Add c (counts_of (t.Ref b))))) (fold.at-Ref Counts counts_step a)
    ∙ ap (λ c. is_within (counts_step (Tree-F.Binary Add (counts_step (Tree-F.Ref a)) c))) (fold.at-Ref Counts counts_step b) in
    ap (λ x. x && is_in_limits (sum_of_cells (at left) (at right))) formed ∙ within

-- these are books that can be: in order and within the limits
the_row_of_sums_is_a_book : IsBook row_of_sums
unfolding is_valid_reference
the_row_of_sums_is_a_book = record {
  cells_in_order = refl;
  cells_held = rw (sum_formed 1 2 refl refl, sum_formed 3 3 refl refl) refl;
  cells_in_limit = omega arith;
  names_in_order = refl;
  names_spelled = refl;
  names_in_limit = omega arith;
}
