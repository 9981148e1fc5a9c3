-- The ends of a reference on one axis: a coordinate each, which a dollar sign marks or not. The ends
-- are in order, and a mark goes with its end.
use Rattle.std.specs.Prelude.{ℕ, ◌≤◌, false, if◌then◌else◌, nat_le, Option, unwrap_or, is_some}
use Rattle.calc_addr.specs.References.{Reference}
use Rattle.calc_addr.specs.declared.ends.End.{End}
use Rattle.calc_addr.specs.declared.ends.Ends.{Ends}
use Rattle.calc_addr.specs.declared.reference.Span.{Span}

-- two ends in order; where they are equal, in the order in which they come
abbrev pub in_order : End → End → Ends
in_order a b = if nat_le a.at b.at then record { first = a; last = b } else record { first = b; last = a }

-- the ends are in order, from 1 to the last coordinate
pub record AreEnds (last : ℕ) (e : Ends) : Type 0 where
  pub from : 1 ≤ e.first.at
  pub ordered : e.first.at ≤ e.last.at
  pub to : e.last.at ≤ last

-- the ends of a whole axis, which are never marked
abbrev pub whole : ℕ → Ends
whole last = record { first = record { at = 1; marked = false }; last = record { at = last; marked = false } }

abbrev pub cols_of : Reference → Ends
cols_of r = record {
  first = record { at = r.area.first_col; marked = r.marks.first_col };
  last = record { at = r.area.last_col; marked = r.marks.last_col };
}

abbrev pub rows_of : Reference → Ends
rows_of r = record {
  first = record { at = r.area.first_row; marked = r.marks.first_row };
  last = record { at = r.area.last_row; marked = r.marks.last_row };
}

-- the reference with these ends, on the written sheet if there is one
abbrev pub reference_of : Option ℕ → Span → Ends → Ends → Reference
reference_of sheet span cols rows = record {
  area = record {
    sheet = unwrap_or sheet 0;
    first_col = cols.first.at;
    last_col = cols.last.at;
    first_row = rows.first.at;
    last_row = rows.last.at;
  };
  span = span;
  marks = record {
    sheet = is_some sheet;
    first_col = cols.first.marked;
    first_row = rows.first.marked;
    last_col = cols.last.marked;
    last_row = rows.last.marked;
  };
}
