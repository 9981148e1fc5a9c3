-- Searching a line of cells, one value after the other.
use Rattle.std.specs.Prelude.{ℕ, ℤ, pos, negsuc, zero, suc, ◌+◌, Bool, false, Option, Some, if◌then◌else◌}
use Rattle.std.specs.Ordering.{is_eq, is_ge, is_gt, is_le, is_lt}
use Rattle.std.specs.declared.cmp.Ordering.{Ordering}
use Rattle.calc_model.specs.declared.value.Value.{Value}
use Rattle.calc_model.specs.Criteria.{order_in_kind, passes}
use Rattle.fn_lookup.specs.declared.scan.Scan.{Scan}
use Rattle.fn_lookup.specs.declared.scan.Search.{Search}
use Rattle.fn_lookup.specs.declared.scan.Search.TheVariants.{Exact, Ascending, Descending}

-- the search of a type
abbrev pub search_of : ℤ → Search
search_of (pos zero) = Exact
search_of (pos (suc n)) = Ascending
search_of (negsuc n) = Descending

-- a cell that compares so with the sought value can be found
abbrev pub fits : Search → Ordering → Bool
fits Exact = is_eq
fits Ascending = is_le
fits Descending = is_ge

-- no cell behind one that compares so can be found
abbrev pub is_past : Search → Ordering → Bool
is_past Exact = is_eq
is_past Ascending = is_gt
is_past Descending = is_lt

-- a search with one value more, by how it compares
abbrev pub with_order : Search → Scan → Option Ordering → Scan
with_order search scan order = record {
  place = scan.place + 1;
  found = if passes (fits search) order then Some scan.place else scan.found;
  ended = passes (is_past search) order;
}

abbrev pub with_value : Search → Value → Scan → Value → Scan
with_value search sought scan value = if scan.ended then scan else with_order search scan (order_in_kind value sought)

-- the last place found, where so many numbers more don't end the search
abbrev pub last_in_run : Search → ℕ → Option ℕ → ℕ → Option ℕ
last_in_run Exact place found count = found
last_in_run _ place found zero = found
last_in_run _ place found (suc n) = Some (place + n)

abbrev pub with_run : Search → Scan → ℕ → Scan
with_run search scan count = record {
  place = scan.place + count;
  found = last_in_run search scan.place scan.found count;
  ended = false;
}
