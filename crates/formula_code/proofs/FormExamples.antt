-- Worked examples of relative forms.
use Rattle.std.proofs.Common.{◌≡◌, ◌≢◌, ℕ, Bool, true, false, refl, ap, arith}
use Rattle.calc_addr.specs.Places.{Place}
use Rattle.calc_addr.specs.References.{Reference}
use Rattle.calc_addr.specs.declared.reference.Span.TheVariants.{One, Cells, Columns}
use Rattle.formula_code.specs.Relative.{relative_reference}

b : ℕ → Place
b row = record { sheet = 0; col = 2; row = row }

-- `.A9` for row 9, its row marked or not
a : Bool → ℕ → Reference
a marked row = record {
  area = record { sheet = 0; first_col = 1; last_col = 1; first_row = row; last_row = row };
  span = One;
  marks = record { sheet = false; first_col = false; first_row = marked; last_col = false; last_row = marked };
}

-- `=[.A9]` in B9 and `=[.A10]` in B10 have one form
one_form : relative_reference (b 9) (a false 9) ≡ relative_reference (b 10) (a false 10)
unfolding a b
one_form = refl

-- so have `=[.A$9]` in B9 and in B10
same_row : relative_reference (b 9) (a true 9) ≡ relative_reference (b 10) (a true 9)
unfolding a b
same_row = refl

-- `=[.A9]` in B9 and in B10 have not
two_forms : relative_reference (b 9) (a false 9) ≢ relative_reference (b 10) (a false 9)
unfolding a b
two_forms same = let rows : 1048576 ≡ 1048575 = ap (λ (r : Reference). r.area.first_row) same in absurd (omega (arith, rows))

-- nor have `[.A9]` and `[.A9:.A9]`, nor one with a written sheet
spans_differ : relative_reference (b 9) (a false 9) ≢ relative_reference (b 9) (record (a false 9) { span = Cells })
unfolding a b
spans_differ same = let spans : One ≡ Cells = ap (λ (r : Reference). r.span) same in cc

-- the rows of whole columns stay
columns : relative_reference (b 9) (record (a false 9) { span = Columns; area = record { sheet = 0; first_col = 1; last_col = 1; first_row = 1; last_row = 1048576 } }) ≡ relative_reference (b 10) (record (a false 9) { span = Columns; area = record { sheet = 0; first_col = 1; last_col = 1; first_row = 1; last_row = 1048576 } })
unfolding a b
columns = refl
