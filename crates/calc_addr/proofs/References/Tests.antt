-- The test of references says which ones a formula can have.
use Rattle.std.proofs.Common.{◌≡◌, true, refl, arith}
use Rattle.std.proofs.lemmas.Bool.Decides.{leb_tells, eqb_tells}
use Rattle.calc_addr.specs.Places.{Rectangle, IsRectangle}
use Rattle.calc_addr.specs.References.{Reference, IsSpanned, IsValidReference}
use Rattle.calc_addr.specs.ValidReferences.{is_rectangle, is_spanned, is_valid_reference}
use Rattle.calc_addr.specs.declared.reference.Span.{Span}
use Rattle.calc_addr.specs.declared.reference.Span.TheVariants.{One, Cells, Columns, Rows}
use Rattle.calc_addr.specs.declared.reference.Marks.{Marks}

tested_rectangle : (a : Rectangle) → IsRectangle a → is_rectangle a ≡ true
tested_rectangle a is = grind (arith, leb_tells)

rectangle_from : (a : Rectangle) → is_rectangle a ≡ true → IsRectangle a
rectangle_from a is = grind (arith, leb_tells)

tested_span : (s : Span) (a : Rectangle) (m : Marks) → IsSpanned s a m → is_spanned s a m ≡ true
tested_span One a m is = grind (arith, eqb_tells)
tested_span Cells a m is = refl
tested_span Columns a m is = grind (arith, eqb_tells)
tested_span Rows a m is = grind (arith, eqb_tells)

span_from : (s : Span) (a : Rectangle) (m : Marks) → is_spanned s a m ≡ true → IsSpanned s a m
span_from One a m is = grind (arith, eqb_tells)
span_from Cells a m is = tt
span_from Columns a m is = grind (arith, eqb_tells)
span_from Rows a m is = grind (arith, eqb_tells)

-- a reference that a formula can have passes the test
pub valid-tested : (r : Reference) → IsValidReference r → is_valid_reference r ≡ true
unfolding is_valid_reference
valid-tested r is =
    let lies = tested_rectangle r.area is.lies in
    let spanned = tested_span r.span r.area r.marks is.spelled.spanned in
    let own_sheet = is.spelled.own_sheet in
    grind (arith, eqb_tells)

-- and what passes it is one
pub tested-valid : (r : Reference) → is_valid_reference r ≡ true → IsValidReference r
unfolding is_valid_reference
tested-valid r is =
    let lies : is_rectangle r.area ≡ true = grind arith in
    let spanned : is_spanned r.span r.area r.marks ≡ true = grind arith in
    record {
      lies = rectangle_from r.area lies;
      spelled = record {
        spanned = span_from r.span r.area r.marks spanned;
        own_sheet = λ without. grind (arith, eqb_tells);
      };
    }
