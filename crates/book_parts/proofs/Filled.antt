-- Contents that are put into neighbouring rows, some rows after the other.
use Rattle.std.proofs.Common.{◌≡◌, ℕ, zero, suc, ◌+◌, ◌-◌, ◌≤◌, List, [], ◌∷◌, ◌++◌, length, map, ap, ◌∙◌, arith}
use Rattle.std.specs.List.{flat_map, range_with_len}
use Rattle.std.specs.BTreeMap.{insert_entry}
use Rattle.std.proofs.lemmas.List.{length-map, map-append}
use Rattle.std.proofs.lemmas.List.FromFn.{length-range_with_len}
use Rattle.std.proofs.lemmas.List.Sums.{fold-append}
use Rattle.calc_addr.specs.Places.{Place, column_places, from_to, place_cmp}
use Rattle.calc_model.specs.declared.content.Content.{Content}
use Rattle.calc_model.specs.CellEdits.{CellEntries, moved_content, with_entries}
use Rattle.calc_model.proofs.EntriesKept.{length-inserted}
use Rattle.cell_columns.specs.Filled.{moved_entries}

-- no more cells than there were and come
pub inserts_few : (news es : CellEntries) → length (with_entries es news) ≤ length es + length news
inserts_few [] es = omega arith
inserts_few (e ∷ news) es = omega (arith, inserts_few news (insert_entry place_cmp es e.0 e.1), length-inserted place_cmp e.0 e.1 es)

more_numbers : (first m n : ℕ) → range_with_len first (m + n) ≡ range_with_len first m ++ range_with_len (first + m) n
more_numbers first zero n = ap (range_with_len first) (no_more n) ∙ ap (λ k. range_with_len k n) (none_more first)
  where
    none_more : (k : ℕ) → k ≡ k + 0
    none_more k = omega arith

    no_more : (k : ℕ) → 0 + k ≡ k
    no_more k = omega arith
more_numbers first (suc m) n =
    ap (range_with_len first) (next m n)
    ∙ ap (λ ns. first ∷ ns) (more_numbers (first + 1) m n ∙ ap (λ k. range_with_len (first + 1) m ++ range_with_len k n) (further first m))
  where
    next : (m n : ℕ) → suc m + n ≡ suc (m + n)
    next m n = omega arith

    further : (k m : ℕ) → k + 1 + m ≡ k + suc m
    further k m = omega arith

-- the rows down to one, and those below it
pub rows_parted : (sheet col row end last : ℕ) → row ≤ end → end ≤ last → column_places sheet col row last ≡ column_places sheet col row end ++ column_places sheet col (end + 1) last
rows_parted sheet col row end last low high =
    let at : ℕ → Place = λ r. record { sheet = sheet; col = col; row = r } in
    let all : last + 1 - row ≡ (end + 1 - row) + (last + 1 - (end + 1)) = omega (arith, low, high) in
    let behind : row + (end + 1 - row) ≡ end + 1 = omega (arith, low) in
    ap (λ n. map at (range_with_len row n)) all
    ∙ ap (map at) (more_numbers row (end + 1 - row) (last + 1 - (end + 1)))
    ∙ ap (λ k. map at (range_with_len row (end + 1 - row) ++ range_with_len k (last + 1 - (end + 1)))) behind
    ∙ map-append at (range_with_len row (end + 1 - row)) (range_with_len (end + 1) (last + 1 - (end + 1)))

pub no_rows : (sheet col first last : ℕ) → last + 1 ≤ first → column_places sheet col first last ≡ []
no_rows sheet col first last past =
    let none : last + 1 - first ≡ 0 = omega (arith, past) in
    ap (λ n. map (λ row. let p : Place = record { sheet = sheet; col = col; row = row } in p) (range_with_len first n)) none

-- first some cells, and then others
pub then_more : (es : CellEntries) (from : Place) (content : Content) (xs ys : List Place) → with_entries es (moved_entries from content (xs ++ ys)) ≡ with_entries (with_entries es (moved_entries from content xs)) (moved_entries from content ys)
then_more es from content xs ys =
    ap (with_entries es) (map-append (λ (q : Place). (q, moved_content from q content)) xs ys)
    ∙ fold-append (λ (held : CellEntries) e. insert_entry place_cmp held e.0 e.1) es (moved_entries from content xs) (moved_entries from content ys)

pub rows_long : (sheet col first last : ℕ) → length (column_places sheet col first last) ≡ last + 1 - first
rows_long sheet col first last = length-map (range_with_len first (last + 1 - first)) (λ row. let p : Place = record { sheet = sheet; col = col; row = row } in p) ∙ length-range_with_len first (last + 1 - first)

pub entries_long : (from : Place) (content : Content) (xs : List Place) → length (moved_entries from content xs) ≡ length xs
entries_long from content xs = length-map xs (λ (q : Place). (q, moved_content from q content))

-- the cells of a rectangle from a column on
abbrev pub columns_from : ℕ → ℕ → ℕ → ℕ → ℕ → List Place
columns_from sheet first last col last_col = flat_map (λ c. column_places sheet c first last) (from_to col last_col)

pub column_first : (sheet first last col last_col : ℕ) → col ≤ last_col → columns_from sheet first last col last_col ≡ column_places sheet col first last ++ columns_from sheet first last (col + 1) last_col
column_first sheet first last col last_col order =
    let more : last_col + 1 - col ≡ suc (last_col + 1 - (col + 1)) = omega (arith, order) in
    ap (λ n. flat_map (λ c. column_places sheet c first last) (range_with_len col n)) more

pub no_columns : (sheet first last col last_col : ℕ) → last_col + 1 ≤ col → columns_from sheet first last col last_col ≡ []
no_columns sheet first last col last_col past =
    let none : last_col + 1 - col ≡ 0 = omega (arith, past) in
    ap (λ n. flat_map (λ c. column_places sheet c first last) (range_with_len col n)) none
