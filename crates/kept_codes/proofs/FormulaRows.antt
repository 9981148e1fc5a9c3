-- The cells that hold formulas, by the groups of their columns and by their rows.
use Rattle.std.proofs.Common.{◌≡◌, ℕ, suc, zero, ◌+◌, ◌-◌, ◌≤◌, ◌<◌, ◌==◌, Bool, true, false, cond, List, [], ◌∷◌, ◌++◌, length, take, map, Option, Some, None, refl, sym, ap, subst, ◌∙◌, arith}
use Rattle.std.specs.Prelude.{get_or}
use Rattle.std.specs.Bool.{Decides}
use Rattle.std.specs.List.{All, AllByRecursion, AllPairs, range_with_len}
use Rattle.std.specs.Ordering.{is_lt}
use Rattle.std.specs.declared.cmp.Ordering.{Ordering}
use Rattle.std.specs.declared.cmp.Ordering.TheVariants.{Less, Equal, Greater}
use Rattle.std.proofs.lemmas.Bool.Decides.{Decides-eqb, nat_tests}
use Rattle.std.proofs.lemmas.List.{append_assoc, append-nil, get_or_append_left}
use Rattle.std.proofs.Math.Seq.{get_or-append_seam}
use Rattle.std.proofs.lemmas.List.{length-append}
use Rattle.std.proofs.lemmas.List.Elements.{All-from_recursion}
use Rattle.calc_addr.specs.declared.cell.TheConstants.{LAST_ROW}
use Rattle.calc_addr.specs.Places.{IsBefore, Place, Rows, from_to, place_cmp}
use Rattle.calc_addr.proofs.Walking.Places.{AllPairs-from_rises, Rises}
use Rattle.calc_model.proofs.Areas.{both_true}
use Rattle.cell_runs.specs.CellLists.{cells_of, first_cell}
use Rattle.run_tables.specs.Rows.{AreRows}
use Rattle.run_tables.specs.Runs.{Run, meet, runs_from, runs_of, touches}
use Rattle.run_tables.specs.Runs as runs
use Rattle.run_tables.proofs.RunLists.{runs-rise}
use Rattle.formula_groups.specs.Groups.{a_group, groups_of}
use Rattle.formula_groups.specs.declared.group.Group.{Group}
use Rattle.kept_codes.specs.Columns.{cell_in}
use Rattle.kept_codes.specs.FormulaCells.{all_coded, cells_of_groups, rows_in}
use Rattle.kept_codes.proofs.RunRows.{LieIn, each_is, runs_lie}

rows_rise : (number row lower : ℕ) → row < lower → is_lt (place_cmp (cell_in number row) (cell_in number lower)) ≡ true
rows_rise number row lower h = grind (arith, nat_tests)

columns_rise : (number next row other : ℕ) → number < next → is_lt (place_cmp (cell_in number row) (cell_in next other)) ≡ true
columns_rise number next row other h = grind (arith, nat_tests)

-- those before others come before the first of these
pub before_first : (ps qs : List Place) (q : Place) → AllPairs IsBefore (ps ++ q ∷ qs) → All (λ p. IsBefore p q) ps
before_first ps qs q pairs k d within =
    subst (λ p. IsBefore p q) (get_or_append_left ps (q ∷ qs) d k within)
    (subst (IsBefore (get_or (ps ++ q ∷ qs) k d)) (get_or-append_seam ps q qs d)
    (pairs k (length ps) d within (omega (arith, length-append ps (q ∷ qs)))))

pub from_first : (first last : ℕ) → first ≤ last → from_to first last ≡ first ∷ from_to (first + 1) last
from_first first last order =
    let more : last + 1 - first ≡ suc (last + 1 - (first + 1)) = omega (arith, order) in
    ap (range_with_len first) more

first_of : (r : Rows) → r.first ≤ r.last → cells_of r ≡ first_cell r ∷ cells_of (record r { first = r.first + 1 })
first_of r order = ap (map (λ row. record { sheet = r.sheet; col = r.col; row = row })) (from_first r.first r.last order)

-- the cells of a group come behind those before it
pub behind_all : (ps : List Place) (number : ℕ) (g : Group) (gs : List Group) → g.first ≤ g.last → AllPairs IsBefore (ps ++ cells_of_groups number (g ∷ gs)) → All (λ p. IsBefore p (first_cell (rows_in number g))) ps
behind_all ps number g gs order pairs =
    let r : Rows = rows_in number g in
    let rest : List Place = cells_of (record r { first = r.first + 1 }) ++ cells_of_groups number gs in
    before_first ps rest (first_cell r)
    (subst (λ qs. AllPairs IsBefore (ps ++ qs)) (ap (λ cells. cells ++ cells_of_groups number gs) (first_of r order)) pairs)

abbrev same_code : ℕ → ℕ → Bool
same_code k l = k == l

coded : (k l : ℕ) → Decides (same_code k l) (k ≡ l)
coded k l = Decides-eqb k l

-- the rows with codes, from row p on
abbrev pub coded_rows : ℕ → ℕ → List (Option ℕ) → List Place
coded_rows number p [] = []
coded_rows number p (None ∷ s) = coded_rows number (p + 1) s
coded_rows number p (Some id ∷ s) = cell_in number p ∷ coded_rows number (p + 1) s

abbrev joined : ℕ → List (Run ℕ) → List Place
joined number t = cells_of_groups number (map a_group t)

one_cell : (number p : ℕ) → cells_of (rows_in number (record { first = p; last = p; code = 0 })) ≡ cell_in number p ∷ []
one_cell number p =
    let none : p + 1 - (p + 1) ≡ 0 = omega arith in
    first_of (rows_in number (record { first = p; last = p; code = 0 })) (omega arith)
    ∙ ap (λ n. cell_in number p ∷ map (cell_in number) (range_with_len (p + 1) n)) none

meet_cells : (number p k : ℕ) (t : List (Run ℕ)) → runs.Rises (p + 1) t → joined number (meet same_code (record { first = p; last = p; key = k }) t) ≡ cell_in number p ∷ joined number t
meet_cells number p k [] rise = ap (λ ps. ps ++ []) (one_cell number p)
meet_cells number p k (x ∷ t) rise =
    let r : Run ℕ = record { first = p; last = p; key = k } in
    elim (touches same_code r x) as (λ b. touches same_code r x ≡ b → joined number (cond b (record r { last = x.last } ∷ t) (r ∷ x ∷ t)) ≡ cell_in number p ∷ joined number (x ∷ t)) [
      | true ↦ λ is.
          let next : p + 1 ≡ x.first = (Decides-eqb (p + 1) x.first).0 (both_true (p + 1 == x.first) (same_code k x.key) is).0 in
          ap (λ ps. ps ++ joined number t)
          (first_of (rows_in number (record { first = p; last = x.last; code = k })) (omega (arith, next, rise.1))
          ∙ ap (λ n. cell_in number p ∷ map (cell_in number) (from_to n x.last)) next)
      | false ↦ λ _. ap (λ ps. ps ++ joined number (x ∷ t)) (one_cell number p)
    ] refl

rows_of_runs : (number p : ℕ) (s : List (Option ℕ)) → joined number (runs_from same_code p s) ≡ coded_rows number p s
rows_of_runs number p [] = refl
rows_of_runs number p (None ∷ s) = rows_of_runs number (p + 1) s
rows_of_runs number p (Some k ∷ s) =
    meet_cells number p k (runs_from same_code (p + 1) s) (runs-rise same_code coded (p + 1) s)
    ∙ ap (λ ps. cell_in number p ∷ ps) (rows_of_runs number (p + 1) s)

-- the cells of groups are those of the rows with codes
pub by_rows : (number : ℕ) (s : List (Option ℕ)) → cells_of_groups number (groups_of s) ≡ coded_rows number 1 s
by_rows number s = rows_of_runs number 1 s

-- the columns that were taken, and one more
columns_more : (number k : ℕ) (cs : List (List (Option ℕ))) → k < length cs → all_coded number (take (suc k) cs) ≡ all_coded number (take k cs) ++ cells_of_groups (number + k) (groups_of (get_or cs k []))
columns_more number k [] h = absurd (omega (arith, h))
columns_more number zero (c ∷ cs) h =
    append-nil (cells_of_groups number (groups_of c)) ∙ ap (λ n. cells_of_groups n (groups_of c)) (none_more number)
  where
    none_more : (n : ℕ) → n ≡ n + 0
    none_more n = omega arith
columns_more number (suc k) (c ∷ cs) h =
    ap (λ ps. cells_of_groups number (groups_of c) ++ ps) (columns_more (number + 1) k cs (omega (arith, h)))
    ∙ sym (append_assoc (cells_of_groups number (groups_of c)) (all_coded (number + 1) (take k cs)) (cells_of_groups (number + 1 + k) (groups_of (get_or cs k []))))
    ∙ ap (λ n. (cells_of_groups number (groups_of c) ++ all_coded (number + 1) (take k cs)) ++ cells_of_groups n (groups_of (get_or cs k []))) (further number k)
  where
    further : (n k : ℕ) → n + 1 + k ≡ n + suc k
    further n k = omega arith

pub column_more : (k : ℕ) (cs : List (List (Option ℕ))) → k < length cs → all_coded 0 (take (k + 1) cs) ≡ all_coded 0 (take k cs) ++ cells_of_groups k (groups_of (get_or cs k []))
column_more k cs h =
    ap (λ n. all_coded 0 (take n cs)) (one_behind k)
    ∙ columns_more 0 k cs h
    ∙ ap (λ n. all_coded 0 (take k cs) ++ cells_of_groups n (groups_of (get_or cs k []))) (no_more k)
  where
    one_behind : (n : ℕ) → n + 1 ≡ suc n
    one_behind n = omega arith

    no_more : (n : ℕ) → 0 + n ≡ n
    no_more n = omega arith

-- the order of the cells
is_before : (p q : Place) → is_lt (place_cmp p q) ≡ true → IsBefore p q
is_before p q h = only_less (place_cmp p q) h
  where
    only_less : (o : Ordering) → is_lt o ≡ true → o ≡ Less
    only_less Less h = refl
    only_less Equal h = cc
    only_less Greater h = cc

rows_after : (q : Place) (number p : ℕ) (s : List (Option ℕ)) (ps : List Place) → ((r : ℕ) → p ≤ r → IsBefore q (cell_in number r)) → AllByRecursion (IsBefore q) ps → AllByRecursion (IsBefore q) (coded_rows number p s ++ ps)
rows_after q number p [] ps before behind = behind
rows_after q number p (None ∷ s) ps before behind = rows_after q number (p + 1) s ps (λ r h. before r (omega (arith, h))) behind
rows_after q number p (Some id ∷ s) ps before behind = (before p (omega arith), rows_after q number (p + 1) s ps (λ r h. before r (omega (arith, h))) behind)

columns_after : (q : Place) (number : ℕ) (cs : List (List (Option ℕ))) → ((n r : ℕ) → number ≤ n → IsBefore q (cell_in n r)) → AllByRecursion (IsBefore q) (all_coded number cs)
columns_after q number [] before = tt
columns_after q number (c ∷ cs) before =
    subst (λ (ps : List Place). AllByRecursion (IsBefore q) (ps ++ all_coded (number + 1) cs)) (sym (by_rows number c))
    (rows_after q number 1 c (all_coded (number + 1) cs) (λ r h. before number r (omega arith)) (columns_after q (number + 1) cs (λ n r h. before n r (omega (arith, h)))))

rows_rising : (number p : ℕ) (s : List (Option ℕ)) (ps : List Place) → Rises ps → ((r : ℕ) → AllByRecursion (IsBefore (cell_in number r)) ps) → Rises (coded_rows number p s ++ ps)
rows_rising number p [] ps rise behind = rise
rows_rising number p (None ∷ s) ps rise behind = rows_rising number (p + 1) s ps rise behind
rows_rising number p (Some id ∷ s) ps rise behind = (
  rows_after (cell_in number p) number (p + 1) s ps (λ r h. is_before (cell_in number p) (cell_in number r) (rows_rise number p r (omega (arith, h)))) (behind p),
  rows_rising number (p + 1) s ps rise behind,
)

columns_rising : (number : ℕ) (cs : List (List (Option ℕ))) → Rises (all_coded number cs)
columns_rising number [] = tt
columns_rising number (c ∷ cs) =
    subst (λ (ps : List Place). Rises (ps ++ all_coded (number + 1) cs)) (sym (by_rows number c))
    (rows_rising number 1 c (all_coded (number + 1) cs) (columns_rising (number + 1) cs)
    (λ r. columns_after (cell_in number r) (number + 1) cs (λ n s h. is_before (cell_in number r) (cell_in n s) (columns_rise number n r s (omega (arith, h))))))

pub all_in_order : (cs : List (List (Option ℕ))) → AllPairs IsBefore (all_coded 0 cs)
all_in_order cs = AllPairs-from_rises (all_coded 0 cs) (columns_rising 0 cs)

-- the groups of a column lie in its rows
pub group_rows : (s : List (Option ℕ)) → length s ≡ LAST_ROW → All (λ (g : Group). AreRows g.first g.last) (groups_of s)
group_rows s long =
    All-from_recursion (λ (g : Group). AreRows g.first g.last) (groups_of s)
    (each_is (LieIn 1 (LAST_ROW + 1)) (λ (g : Group). AreRows g.first g.last) a_group (λ r lies. record { from = lies.from; in_order = lies.in_order; to = omega (arith, lies.to) }) (runs_of same_code s)
    (runs_lie same_code (LAST_ROW + 1) 1 s (omega (arith, long))))
