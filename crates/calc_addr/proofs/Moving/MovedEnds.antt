-- References that move with their formula.
use Rattle.std.proofs.Common.{◌≡◌, ℕ, ℤ, Option, Some, None, sym, ap, ◌∙◌}
use Rattle.calc_addr.specs.Bracketed.{together}
use Rattle.calc_addr.specs.Places.{Rectangle}
use Rattle.calc_addr.specs.Ends.{in_order, cols_of, rows_of}
use Rattle.calc_addr.specs.Moves.{moved_end, moved_ends, moved_cols, moved_rows, with_ends}
use Rattle.calc_addr.specs.References.{IsSpanned}
use Rattle.calc_addr.proofs.References.EndsInOrder.{in_order-same}
use Rattle.calc_addr.specs.declared.ends.End.{End}
use Rattle.calc_addr.specs.declared.ends.Ends.{Ends}
use Rattle.calc_addr.specs.declared.reference.Marks.{Marks}
use Rattle.calc_addr.specs.declared.reference.Span.{Span}
use Rattle.calc_addr.specs.declared.reference.Span.TheVariants as span

together-same : (x : Option End) (to : Ends) → together in_order x x ≡ Some to → to.first ≡ to.last
together-same None to e = cc
together-same (Some y) to e =
    let same : in_order y y ≡ to = cc in
    let twice = sym same ∙ in_order-same y in
    ap (λ (ends : Ends). ends.first) twice ∙ sym (ap (λ (ends : Ends). ends.last) twice)

-- ends that are one end stay one
moved_ends-same : (last : ℕ) (distance : ℤ) (ends to : Ends) → ends.first ≡ ends.last → moved_ends last distance ends ≡ Some to → to.first ≡ to.last
moved_ends-same last distance ends to same e =
    together-same (moved_end last distance ends.first) to
    (ap (λ x. together in_order (moved_end last distance ends.first) (moved_end last distance x)) same ∙ e)

same_some : (x y : Ends) → Some x ≡ Some y → x ≡ y
same_some x y e = cc

-- how a reference is spelled stays true of it
pub moved_spanned : (s : Span) (a : Rectangle) (m : Marks) (across down : ℤ) (cols rows : Ends) → IsSpanned s a m → moved_cols s across (cols_of (record { area = a; span = s; marks = m })) ≡ Some cols → moved_rows s down (rows_of (record { area = a; span = s; marks = m })) ≡ Some rows → IsSpanned s (with_ends (record { area = a; span = s; marks = m }) cols rows).area (with_ends (record { area = a; span = s; marks = m }) cols rows).marks
moved_spanned span.One a m across down cols rows is c r =
    let one_col = moved_ends-same 1024 across _ cols (λ i. record { at = is.one_col i; marked = is.col_marks i }) c in
    let one_row = moved_ends-same 1048576 down _ rows (λ i. record { at = is.one_row i; marked = is.row_marks i }) r in
    record {
      one_col = ap (λ (e : End). e.at) one_col;
      one_row = ap (λ (e : End). e.at) one_row;
      col_marks = ap (λ (e : End). e.marked) one_col;
      row_marks = ap (λ (e : End). e.marked) one_row;
    }
moved_spanned span.Cells a m across down cols rows is c r = tt
moved_spanned span.Columns a m across down cols rows is c r =
    let stay = same_some _ rows r in
    record {
      from_top = sym (ap (λ (e : Ends). e.first.at) stay) ∙ is.from_top;
      to_end = sym (ap (λ (e : Ends). e.last.at) stay) ∙ is.to_end;
      first_unmarked = sym (ap (λ (e : Ends). e.first.marked) stay) ∙ is.first_unmarked;
      last_unmarked = sym (ap (λ (e : Ends). e.last.marked) stay) ∙ is.last_unmarked;
    }
moved_spanned span.Rows a m across down cols rows is c r =
    let stay = same_some _ cols c in
    record {
      from_left = sym (ap (λ (e : Ends). e.first.at) stay) ∙ is.from_left;
      to_end = sym (ap (λ (e : Ends). e.last.at) stay) ∙ is.to_end;
      first_unmarked = sym (ap (λ (e : Ends). e.first.marked) stay) ∙ is.first_unmarked;
      last_unmarked = sym (ap (λ (e : Ends). e.last.marked) stay) ∙ is.last_unmarked;
    }
