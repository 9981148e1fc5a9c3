-- A move keeps references, and the opposite move gives them back.
use Rattle.std.proofs.Common.{◌≡◌, ℕ, ◌<◌, ◌≤◌, ℤ, pos, negsuc, ◌+ℤ◌, neg_ℤ, Bool, true, false, ◌&&◌, cond, Option, Some, None, refl, sym, ap, ◌∙◌, subst, inl, inr, ⊎_elim, arith}
use Rattle.std.specs.Prelude.{nat_le, int_le, option_map, unsigned_abs}
use Rattle.std.proofs.lemmas.Bool.{and_from, and_parts, leb-true, cond-true, le-leb, cases_lt}
use Rattle.std.proofs.lemmas.Int.{ints}
use Rattle.std.proofs.lemmas.Option.{cond_some}
use Rattle.calc_addr.specs.Bracketed.{together}
use Rattle.calc_addr.specs.Places.{IsRectangle}
use Rattle.calc_addr.specs.Ends.{AreEnds, in_order, cols_of, rows_of}
use Rattle.calc_addr.specs.Moves.{AreSameEnds, IsSameReference, at_distance, moved_end, moved_ends, moved_cols, moved_rows, moved_reference, with_ends}
use Rattle.calc_addr.specs.References.{Reference, IsReference, IsValidReference}
use Rattle.calc_addr.specs.declared.ends.End.{End}
use Rattle.calc_addr.specs.declared.ends.Ends.{Ends}
use Rattle.calc_addr.specs.declared.reference.Span.{Span}
use Rattle.calc_addr.specs.declared.reference.Span.TheVariants as span
use Rattle.calc_addr.proofs.References.Parts.{pair_of}
use Rattle.calc_addr.proofs.References.EndsInOrder.{in_order-down, in_order-up}
use Rattle.calc_addr.proofs.Moving.MovedEnds.{moved_spanned}

-- a whole number from 1 to the last
record IsNumber (last : ℕ) (z : ℤ) (n : ℕ) : Type 0 where
  number : pos n ≡ z
  low : 1 ≤ n
  high : n ≤ last

number_from : (z : ℤ) (last n : ℕ) → cond (int_le (pos 1) z && int_le z (pos last)) (Some (unsigned_abs z)) None ≡ Some n → IsNumber last z n
number_from (pos m) last n e =
    let parts = cond_some (nat_le 1 m && nat_le m last) m n e in
    let inside = and_parts (nat_le 1 m) (nat_le m last) parts.0 in
    record { number = ap pos (sym parts.1); low = omega (arith, leb-true 1 m inside.0, parts.1); high = omega (arith, leb-true m last inside.1, parts.1) }
number_from (negsuc m) last n e = cc

number_by : (z : ℤ) (last n : ℕ) → IsNumber last z n → cond (int_le (pos 1) z && int_le z (pos last)) (Some (unsigned_abs z)) None ≡ Some n
number_by z last n is =
    ap (λ (y : ℤ). cond (int_le (pos 1) y && int_le y (pos last)) (Some (unsigned_abs y)) None) (sym is.number)
    ∙ cond-true (nat_le 1 n && nat_le n last) _ _ (and_from _ _ (le-leb 1 n is.low) (le-leb n last is.high))

-- one end, there and back
record IsBack (last : ℕ) (distance : ℤ) (e f : End) : Type 0 where
  from : 1 ≤ f.at
  within : f.at ≤ last
  back : moved_end last (neg_ℤ distance) f ≡ Some e

by_number : (last : ℕ) (distance : ℤ) (at : ℕ) (f : End) (o : Option ℕ) → at_distance last distance at ≡ o → 1 ≤ at → at ≤ last → option_map (λ to. let end : End = record { at = to; marked = false } in end) o ≡ Some f → IsBack last distance (record { at = at; marked = false }) f
by_number last distance at f None there low high to = cc
by_number last distance at f (Some n) there low high to =
    let e : End = record { at = at; marked = false } in
    let g : End = record { at = n; marked = false } in
    let same : g ≡ f = cc in
    let is = number_from (pos at +ℤ distance) last n there in
    let opposite : IsNumber last (pos n +ℤ neg_ℤ distance) at = record { number = omega (arith, ints, is.number); low = low; high = high } in
    subst (IsBack last distance e) same (record {
      from = is.low;
      within = is.high;
      back = ap (option_map (λ to. let end : End = record { at = to; marked = false } in end)) (number_by (pos n +ℤ neg_ℤ distance) last at opposite);
    })

by_mark : (last : ℕ) (distance : ℤ) (at : ℕ) (f : End) (marked : Bool) → 1 ≤ at → at ≤ last → moved_end last distance (record { at = at; marked = marked }) ≡ Some f → IsBack last distance (record { at = at; marked = marked }) f
by_mark last distance at f true low high to =
    let e : End = record { at = at; marked = true } in
    let same : e ≡ f = cc in
    subst (IsBack last distance e) same (record { from = low; within = high; back = refl })
by_mark last distance at f false low high to =
    by_number last distance at f (at_distance last distance at) refl low high to

moved_back : (last : ℕ) (distance : ℤ) (e f : End) → 1 ≤ e.at → e.at ≤ last → moved_end last distance e ≡ Some f → IsBack last distance e f
moved_back last distance e f low high to = by_mark last distance e.at f e.marked low high to

-- the ends of one axis, there and back
record AreBack (last : ℕ) (move : ℤ → Ends → Option Ends) (distance : ℤ) (e f : Ends) : Type 0 where
  inside : AreEnds last f
  ends : Ends
  back : move (neg_ℤ distance) f ≡ Some ends
  same : AreSameEnds e ends

abbrev pair : End → End → Ends
pair a b = record { first = a; last = b }

back_up : (last : ℕ) (distance : ℤ) (e : Ends) (x y : End) → AreEnds last e → IsBack last distance e.first x → IsBack last distance e.last y → x.at ≤ y.at → AreBack last (moved_ends last) distance e (pair x y)
back_up last distance e x y is first second up = record {
  inside = record { from = first.from; ordered = up; to = second.within };
  ends = e;
  back =
      ap (λ o. together in_order o (moved_end last (neg_ℤ distance) y)) first.back
      ∙ ap (together in_order (Some e.first)) second.back
      ∙ ap Some (in_order-up e.first e.last is.ordered);
  same = inl refl;
}

back_down : (last : ℕ) (distance : ℤ) (e : Ends) (x y : End) → AreEnds last e → IsBack last distance e.first x → IsBack last distance e.last y → y.at < x.at → AreBack last (moved_ends last) distance e (pair y x)
back_down last distance e x y is first second down =
    let order = in_order e.last e.first in
    record {
      inside = record { from = second.from; ordered = omega arith; to = first.within };
      ends = order;
      back =
          ap (λ o. together in_order o (moved_end last (neg_ℤ distance) x)) second.back
          ∙ ap (together in_order (Some e.last)) first.back;
      same = ⊎_elim
          (λ apart. inl (in_order-down e.last e.first apart))
          (λ equal. inr (omega (arith, is.ordered), in_order-up e.last e.first equal))
          (cases_lt e.first.at e.last.at);
    }

ends_back : (last : ℕ) (distance : ℤ) (e f : Ends) → AreEnds last e → moved_ends last distance e ≡ Some f → AreBack last (moved_ends last) distance e f
ends_back last distance e f is to =
    let moved = pair_of in_order (moved_end last distance e.first) (moved_end last distance e.last) f to in
    let first = moved_back last distance e.first moved.first is.from (omega (arith, is.ordered, is.to)) moved.first_is in
    let second = moved_back last distance e.last moved.second (omega (arith, is.from, is.ordered)) is.to moved.second_is in
    ⊎_elim
    (λ down. subst (AreBack last (moved_ends last) distance e) (sym (in_order-down moved.first moved.second down) ∙ moved.made) (back_down last distance e moved.first moved.second is first second down))
    (λ up. subst (AreBack last (moved_ends last) distance e) (sym (in_order-up moved.first moved.second up) ∙ moved.made) (back_up last distance e moved.first moved.second is first second up))
    (cases_lt moved.second.at moved.first.at)

axis_stays : (last : ℕ) (distance : ℤ) (e f : Ends) → AreEnds last e → Some e ≡ Some f → AreBack last (λ _ ends. Some ends) distance e f
axis_stays last distance e f is to =
    let same : e ≡ f = cc in
    subst (AreBack last (λ _ ends. Some ends) distance e) same (record { inside = is; ends = e; back = refl; same = inl refl })

cols_back : (s : Span) (distance : ℤ) (e f : Ends) → AreEnds 1024 e → moved_cols s distance e ≡ Some f → AreBack 1024 (moved_cols s) distance e f
cols_back span.One distance e f is to = ends_back 1024 distance e f is to
cols_back span.Cells distance e f is to = ends_back 1024 distance e f is to
cols_back span.Columns distance e f is to = ends_back 1024 distance e f is to
cols_back span.Rows distance e f is to = axis_stays 1024 distance e f is to

rows_back : (s : Span) (distance : ℤ) (e f : Ends) → AreEnds 1048576 e → moved_rows s distance e ≡ Some f → AreBack 1048576 (moved_rows s) distance e f
rows_back span.One distance e f is to = ends_back 1048576 distance e f is to
rows_back span.Cells distance e f is to = ends_back 1048576 distance e f is to
rows_back span.Columns distance e f is to = axis_stays 1048576 distance e f is to
rows_back span.Rows distance e f is to = ends_back 1048576 distance e f is to

-- a moved reference, and the ends that it got
record IsMoved (cols rows : ℤ) (r s : Reference) : Type 0 where
  across : Ends
  down : Ends
  cols_are : moved_cols r.span cols (cols_of r) ≡ Some across
  rows_are : moved_rows r.span rows (rows_of r) ≡ Some down
  made : with_ends r across down ≡ s

moved_from : (cols rows : ℤ) (r s : Reference) → moved_reference cols rows r ≡ Some s → IsMoved cols rows r s
moved_from cols rows r s to =
    let moved = pair_of (with_ends r) (moved_cols r.span cols (cols_of r)) (moved_rows r.span rows (rows_of r)) s to in
    record { across = moved.first; down = moved.second; cols_are = moved.first_is; rows_are = moved.second_is; made = moved.made }

cols_inside : (r : Reference) → IsRectangle r.area → AreEnds 1024 (cols_of r)
cols_inside r lies = record { from = lies.cols_from; ordered = lies.cols_in_order; to = lies.cols_to }

rows_inside : (r : Reference) → IsRectangle r.area → AreEnds 1048576 (rows_of r)
rows_inside r lies = record { from = lies.rows_from; ordered = lies.rows_in_order; to = lies.rows_to }

-- a moved reference is one
pub IsRectangle-moved : (cols rows : ℤ) (r s : Reference) → IsRectangle r.area → moved_reference cols rows r ≡ Some s → IsRectangle s.area
IsRectangle-moved cols rows r s lies to =
    let moved = moved_from cols rows r s to in
    let across = (cols_back r.span cols (cols_of r) moved.across (cols_inside r lies) moved.cols_are).inside in
    let down = (rows_back r.span rows (rows_of r) moved.down (rows_inside r lies) moved.rows_are).inside in
    let Lies : Reference → Type 0 = λ t. IsRectangle t.area in
    subst Lies moved.made (record {
      sheet_in = lies.sheet_in;
      cols_from = across.from;
      cols_in_order = across.ordered;
      cols_to = across.to;
      rows_from = down.from;
      rows_in_order = down.ordered;
      rows_to = down.to;
    })

pub IsReference-moved : (cols rows : ℤ) (r s : Reference) → IsReference r → moved_reference cols rows r ≡ Some s → IsReference s
IsReference-moved cols rows r s is to =
    let moved = moved_from cols rows r s to in
    subst IsReference moved.made (record {
      spanned = moved_spanned r.span r.area r.marks cols rows moved.across moved.down is.spanned moved.cols_are moved.rows_are;
      own_sheet = is.own_sheet;
    })

pub moved_stays_valid : (cols rows : ℤ) (r s : Reference) → IsValidReference r → moved_reference cols rows r ≡ Some s → IsValidReference s
moved_stays_valid cols rows r s is to =
    record { lies = IsRectangle-moved cols rows r s is.lies to; spelled = IsReference-moved cols rows r s is.spelled to }

-- the opposite move gives the reference back
pub record IsMovedBack (cols rows : ℤ) (r s : Reference) : Type 0 where
  pub reference : Reference
  pub back : moved_reference (neg_ℤ cols) (neg_ℤ rows) s ≡ Some reference
  pub same : IsSameReference r reference

pub moved_reference-opposite : (cols rows : ℤ) (r s : Reference) → IsRectangle r.area → moved_reference cols rows r ≡ Some s → IsMovedBack cols rows r s
moved_reference-opposite cols rows r s lies to =
    let moved = moved_from cols rows r s to in
    let across = cols_back r.span cols (cols_of r) moved.across (cols_inside r lies) moved.cols_are in
    let down = rows_back r.span rows (rows_of r) moved.down (rows_inside r lies) moved.rows_are in
    let there = with_ends r moved.across moved.down in
    subst (IsMovedBack cols rows r) moved.made (record {
      reference = with_ends r across.ends down.ends;
      back =
          ap (λ x. together (with_ends there) x (moved_rows r.span (neg_ℤ rows) moved.down)) across.back
          ∙ ap (together (with_ends there) (Some across.ends)) down.back;
      same = record { span = refl; sheet = refl; sheet_mark = refl; cols = across.same; rows = down.same };
    })
