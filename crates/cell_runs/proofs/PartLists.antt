-- Lists of cells that are kept as runs: one list more, and one cell more in the last.
use Rattle.std.proofs.Common.{◌≡◌, append_assoc, ℕ, zero, suc, ◌+◌, ◌-◌, ◌<◌, ◌≤◌, List, [], ◌∷◌, ◌++◌, map, length, get_or, take, drop, refl, sym, ap, subst, ◌∙◌, ⊎_elim, append-nil, length-append, length-drop, arith}
use Rattle.std.specs.List.{range_with_len, slice_range}
use Rattle.std.proofs.Math.ListN.{set}
use Rattle.std.proofs.Math.Seq.{get_or-append_seam}
use Rattle.std.proofs.lemmas.Bool.{cases_eq, cases_lt}
use Rattle.std.proofs.lemmas.Grind.{flat_map-append}
use Rattle.std.proofs.lemmas.List.{drop-append-le, get_or_append_left, get_or_default, get_or_past, take-append-le, take_all, take_more, drop_all, set_split}
use Rattle.std.proofs.lemmas.List.FromFn.{get_or-map-range_with_len, length-map-range_with_len}
use Rattle.calc_addr.specs.Places.{Place, Rows}
use Rattle.cell_runs.specs.CellLists.{all_cells, cells_of}
use Rattle.cell_runs.proofs.Indexed.{cells-joined}
use Rattle.cell_runs.specs.WaveLists.{AreStarts, IsAdded, IsOpened, lists_of, part}

pub lists_size : (runs : List Rows) (starts : List ℕ) → length (lists_of runs starts) ≡ length starts
lists_size runs starts = length-map-range_with_len (λ k. all_cells (part runs starts k)) 0 (length starts)

pub list_at : (runs : List Rows) (starts : List ℕ) (k : ℕ) → k < length starts → get_or (lists_of runs starts) k [] ≡ all_cells (part runs starts k)
list_at runs starts k within = get_or-map-range_with_len (λ k. all_cells (part runs starts k)) 0 (length starts) k k [] within (omega arith)

list_past : (runs : List Rows) (starts : List ℕ) (k : ℕ) → length starts ≤ k → get_or (lists_of runs starts) k [] ≡ []
list_past runs starts k past = get_or_past (lists_of runs starts) k [] (omega (arith, lists_size runs starts))

-- the default at the end of a list
default_end : (xs : List ℕ) (i d : ℕ) → get_or (xs ++ d ∷ []) i d ≡ get_or xs i d
default_end [] zero d = refl
default_end [] (suc i) d = refl
default_end (x ∷ xs) zero d = refl
default_end (x ∷ xs) (suc i) d = default_end xs i d

module _ (runs : List Rows) (starts : List ℕ) (h : AreStarts runs starts) where
  opened_at : (k : ℕ) → k < length starts → part runs (starts ++ length runs ∷ []) k ≡ part runs starts k
  opened_at k within =
      ap (λ s. slice_range runs s (get_or (starts ++ length runs ∷ []) (k + 1) (length runs))) (get_or_append_left starts (length runs ∷ []) 0 k within)
      ∙ ap (slice_range runs (get_or starts k 0)) (default_end starts (k + 1) (length runs))

  opened_last : all_cells (part runs (starts ++ length runs ∷ []) (length starts)) ≡ []
  opened_last =
      let from : get_or (starts ++ length runs ∷ []) (length starts) 0 ≡ length runs = get_or-append_seam starts (length runs) [] 0 in
      let to : get_or (starts ++ length runs ∷ []) (length starts + 1) (length runs) ≡ length runs = get_or_past (starts ++ length runs ∷ []) (length starts + 1) (length runs) (omega (arith, length-append starts (length runs ∷ []))) in
      let none : length runs - length runs ≡ 0 = omega arith in
      ap all_cells (ap (λ s. slice_range runs s (get_or (starts ++ length runs ∷ []) (length starts + 1) (length runs))) from ∙ ap (slice_range runs (length runs)) to ∙ ap (λ n. take n (drop (length runs) runs)) none)

  opened_same : (k : ℕ) → get_or (lists_of runs (starts ++ length runs ∷ [])) k [] ≡ get_or (lists_of runs starts) k []
  opened_same k =
      let size : length (starts ++ length runs ∷ []) ≡ length starts + 1 = length-append starts (length runs ∷ []) in
      ⊎_elim (λ (l : k < length starts). list_at runs (starts ++ length runs ∷ []) k (omega arith) ∙ ap all_cells (opened_at k l) ∙ sym (list_at runs starts k l))
      (λ (le : length starts ≤ k).
      ⊎_elim (λ (e : k ≡ length starts).
      subst (λ j. get_or (lists_of runs (starts ++ length runs ∷ [])) j [] ≡ get_or (lists_of runs starts) j []) (sym e)
      (list_at runs (starts ++ length runs ∷ []) (length starts) (omega arith) ∙ opened_last ∙ sym (list_past runs starts (length starts) (omega arith))))
      (λ (ne : k ≡ length starts → ⊥). list_past runs (starts ++ length runs ∷ []) k (omega arith) ∙ sym (list_past runs starts k le))
      (cases_eq k (length starts)))
      (cases_lt k (length starts))

  pub opened : IsOpened (lists_of runs starts) (lists_of runs (starts ++ length runs ∷ []))
  opened = record {
    size = lists_size runs (starts ++ length runs ∷ []) ∙ length-append starts (length runs ∷ []) ∙ ap (λ n. n + 1) (sym (lists_size runs starts));
    same = opened_same;
  }

  module _ (run : Rows) where
    more : List Rows
    more = runs ++ run ∷ []

    count : length (runs ++ run ∷ []) ≡ length runs + 1
    count = length-append runs (run ∷ [])

    dropped : (s : ℕ) → s ≤ length runs → drop s (runs ++ run ∷ []) ≡ drop s runs ++ run ∷ []
    dropped s le = drop-append-le s runs (run ∷ []) le

    -- a list that isn't the last stays
    inner_end : (k : ℕ) → k + 1 < length starts → get_or starts (k + 1) (length (runs ++ run ∷ [])) ≡ get_or starts (k + 1) (length runs)
    inner_end k within = get_or_default starts (k + 1) (length (runs ++ run ∷ [])) (length runs) within

    inner : (k : ℕ) → k + 1 < length starts → part (runs ++ run ∷ []) starts k ≡ part runs starts k
    inner k within =
        let s : ℕ = get_or starts k 0 in
        let e : ℕ = get_or starts (k + 1) (length runs) in
        let order : s ≤ e = h.in_turn k (omega arith) in
        let top : e ≤ length runs = h.within k (omega arith) in
        ap (slice_range (runs ++ run ∷ []) s) (inner_end k within)
        ∙ ap (take (e - s)) (dropped s (omega arith))
        ∙ take-append-le (e - s) (drop s runs) (run ∷ []) (omega (arith, length-drop s runs))

    last_end : (k : ℕ) → k + 1 ≡ length starts → (rs : List Rows) → get_or starts (k + 1) (length rs) ≡ length rs
    last_end k e rs = get_or_past starts (k + 1) (length rs) (omega arith)

    last_part : (k : ℕ) → k + 1 ≡ length starts → all_cells (part (runs ++ run ∷ []) starts k) ≡ all_cells (part runs starts k) ++ cells_of run
    last_part k e =
        let s : ℕ = get_or starts k 0 in
        let top : s ≤ length runs = omega (arith, h.in_turn k (omega arith), h.within k (omega arith)) in
        let new : part (runs ++ run ∷ []) starts k ≡ drop s runs ++ run ∷ [] =
        ap (slice_range (runs ++ run ∷ []) s) (last_end k e (runs ++ run ∷ []))
        ∙ take_all (length (runs ++ run ∷ []) - s) (drop s (runs ++ run ∷ [])) (omega (arith, length-drop s (runs ++ run ∷ []))) ∙ dropped s top in
        let old : part runs starts k ≡ drop s runs = ap (slice_range runs s) (last_end k e runs) ∙ take_all (length runs - s) (drop s runs) (omega (arith, length-drop s runs)) in
        ap all_cells new ∙ flat_map-append cells_of (drop s runs) (run ∷ []) ∙ ap (λ cs. all_cells (drop s runs) ++ cs) (append-nil (cells_of run)) ∙ ap (λ rs. all_cells rs ++ cells_of run) (sym old)

    pub starts_more : AreStarts (runs ++ run ∷ []) starts
    starts_more = record {
      in_turn = λ k within. ⊎_elim (λ (l : k + 1 < length starts). omega (arith, inner_end k l, h.in_turn k within))
          (λ (le : length starts ≤ k + 1). omega (arith, last_end k (omega arith) (runs ++ run ∷ []), last_end k (omega arith) runs, h.in_turn k within, count)) (cases_lt (k + 1) (length starts));
      within = λ k within. ⊎_elim (λ (l : k + 1 < length starts). omega (arith, inner_end k l, h.within k within, count))
          (λ (le : length starts ≤ k + 1). omega (arith, last_end k (omega arith) (runs ++ run ∷ []))) (cases_lt (k + 1) (length starts));
    }

    module _ (q : Place) (one : cells_of run ≡ q ∷ []) (some : 0 < length starts) where
      added_others : (k : ℕ) → (k ≡ length (lists_of runs starts) - 1 → ⊥) → get_or (lists_of (runs ++ run ∷ []) starts) k [] ≡ get_or (lists_of runs starts) k []
      added_others k ne =
          ⊎_elim (λ (l : k < length starts).
          list_at (runs ++ run ∷ []) starts k l ∙ ap all_cells (inner k (below k l ne)) ∙ sym (list_at runs starts k l))
          (λ (le : length starts ≤ k). list_past (runs ++ run ∷ []) starts k le ∙ sym (list_past runs starts k le))
          (cases_lt k (length starts))
        where
          below : (k : ℕ) → k < length starts → (k ≡ length (lists_of runs starts) - 1 → ⊥) → k + 1 < length starts
          below k l ne = ⊎_elim (λ (e : k + 1 ≡ length starts). absurd (ne (omega (arith, lists_size runs starts)))) (λ (other : k + 1 ≡ length starts → ⊥). omega arith) (cases_eq (k + 1) (length starts))

      added_here : get_or (lists_of (runs ++ run ∷ []) starts) (length (lists_of runs starts) - 1) [] ≡ get_or (lists_of runs starts) (length (lists_of runs starts) - 1) [] ++ q ∷ []
      added_here =
          let k : ℕ = length starts - 1 in
          let is : length (lists_of runs starts) - 1 ≡ k = ap (λ n. n - 1) (lists_size runs starts) in
          let last : k + 1 ≡ length starts = omega arith in
          subst (λ j. get_or (lists_of (runs ++ run ∷ []) starts) j [] ≡ get_or (lists_of runs starts) j [] ++ q ∷ []) (sym is)
          (list_at (runs ++ run ∷ []) starts k (omega arith) ∙ last_part k last ∙ ap (λ cs. all_cells (part runs starts k) ++ cs) one ∙ ap (λ cs. cs ++ q ∷ []) (sym (list_at runs starts k (omega arith))))

      pub added : IsAdded (lists_of runs starts) (lists_of (runs ++ run ∷ []) starts) (length (lists_of runs starts) - 1) q
      added = record {
        size = lists_size (runs ++ run ∷ []) starts ∙ (omega (arith, lists_size runs starts));
        here = added_here;
        others = added_others;
      }

pub one_cell : (s c r : ℕ) → cells_of (record { sheet = s; col = c; first = r; last = r }) ≡ record { sheet = s; col = c; row = r } ∷ []
one_cell s c r = let one : r + 1 - r ≡ 1 = omega arith in ap (λ n. map (λ row. record { sheet = s; col = c; row = row }) (range_with_len r n)) one

pub not_none : {X : Type 0} (xs : List X) → (xs ≡ [] → ⊥) → 0 < length xs
not_none [] h = absurd (h refl)
not_none (x ∷ xs) h = omega arith

-- without the last run, the lists begin where they did, if the last one began in front of it
module _ (front : List Rows) (x : Rows) (starts : List ℕ) (h : AreStarts (front ++ x ∷ []) starts) (k : ℕ) (last : k + 1 ≡ length starts) (begins : get_or starts k 0 ≤ length front) where
  longer : length (front ++ x ∷ []) ≡ length front + 1
  longer = length-append front (x ∷ [])

  -- a list that isn't the last ends where the last begins, or in front of it
  inner_low : (m d : ℕ) → m + d ≡ k → get_or starts m 0 ≤ get_or starts k 0
  inner_low m zero e = omega (arith, ap (λ i. get_or starts i 0) (to_k m e))
    where
      to_k : (m : ℕ) → m + zero ≡ k → m ≡ k
      to_k m e = omega arith
  inner_low m (suc d) e =
      let next : get_or starts m 0 ≤ get_or starts (m + 1) 0 = omega (arith, h.in_turn m (omega arith), get_or_default starts (m + 1) 0 (length (front ++ x ∷ [])) (omega arith)) in
      omega (arith, inner_low (m + 1) d (omega arith))

  end_low : (m : ℕ) → m < length starts → get_or starts (m + 1) (length front) ≤ length front
  end_low m within =
      ⊎_elim (λ (l : m + 1 < length starts). omega (arith, inner_low (m + 1) (k - (m + 1)) (omega arith), get_or_default starts (m + 1) 0 (length front) l))
      (λ (le : length starts ≤ m + 1). omega (arith, get_or_past starts (m + 1) (length front) le))
      (cases_lt (m + 1) (length starts))

  pub starts_less : AreStarts front starts
  starts_less = record {
    in_turn = λ m within. ⊎_elim
        (λ (l : m + 1 < length starts). omega (arith, h.in_turn m within, get_or_default starts (m + 1) (length front) (length (front ++ x ∷ [])) l))
        (λ (le : length starts ≤ m + 1). omega (arith, get_or_past starts (m + 1) (length front) le, ap (λ i. get_or starts i 0) (at_last m within le)))
        (cases_lt (m + 1) (length starts));
    within = end_low;
  }
    where
      at_last : (m : ℕ) → m < length starts → length starts ≤ m + 1 → m ≡ k
      at_last m within le = omega arith

-- the last run is lengthened by a cell
module _ (front : List Rows) (starts : List ℕ) (h : AreStarts front starts) (x y : Rows) (q : Place) (more : cells_of y ≡ cells_of x ++ q ∷ []) (some : 0 < length starts) where
  old_at : (k : ℕ) → k < length starts → get_or (lists_of (front ++ x ∷ []) starts) k [] ≡ all_cells (part (front ++ x ∷ []) starts k)
  old_at k within = list_at (front ++ x ∷ []) starts k within

  new_at : (k : ℕ) → k < length starts → get_or (lists_of (front ++ y ∷ []) starts) k [] ≡ all_cells (part (front ++ y ∷ []) starts k)
  new_at k within = list_at (front ++ y ∷ []) starts k within

  longer_others : (k : ℕ) → (k ≡ length (lists_of (front ++ x ∷ []) starts) - 1 → ⊥) → get_or (lists_of (front ++ y ∷ []) starts) k [] ≡ get_or (lists_of (front ++ x ∷ []) starts) k []
  longer_others k ne =
      ⊎_elim (λ (l : k < length starts).
      let b = below k l ne in
      new_at k l ∙ ap all_cells (inner front starts h y k b ∙ sym (inner front starts h x k b)) ∙ sym (old_at k l))
      (λ (le : length starts ≤ k). list_past (front ++ y ∷ []) starts k le ∙ sym (list_past (front ++ x ∷ []) starts k le))
      (cases_lt k (length starts))
    where
      below : (k : ℕ) → k < length starts → (k ≡ length (lists_of (front ++ x ∷ []) starts) - 1 → ⊥) → k + 1 < length starts
      below k l ne = ⊎_elim (λ (e : k + 1 ≡ length starts). absurd (ne (omega (arith, lists_size (front ++ x ∷ []) starts)))) (λ (other : k + 1 ≡ length starts → ⊥). omega arith) (cases_eq (k + 1) (length starts))

  longer_here : get_or (lists_of (front ++ y ∷ []) starts) (length (lists_of (front ++ x ∷ []) starts) - 1) [] ≡ get_or (lists_of (front ++ x ∷ []) starts) (length (lists_of (front ++ x ∷ []) starts) - 1) [] ++ q ∷ []
  longer_here =
      let k : ℕ = length starts - 1 in
      let is : length (lists_of (front ++ x ∷ []) starts) - 1 ≡ k = ap (λ n. n - 1) (lists_size (front ++ x ∷ []) starts) in
      let e : k + 1 ≡ length starts = omega arith in
      let base : List Place = all_cells (part front starts k) in
      subst (λ j. get_or (lists_of (front ++ y ∷ []) starts) j [] ≡ get_or (lists_of (front ++ x ∷ []) starts) j [] ++ q ∷ []) (sym is)
      (new_at k (omega arith) ∙ last_part front starts h y k e ∙ ap (λ cs. base ++ cs) more ∙ sym (append_assoc base (cells_of x) (q ∷ []))
      ∙ ap (λ cs. cs ++ q ∷ []) (sym (old_at k (omega arith) ∙ last_part front starts h x k e)))

  pub lengthened : IsAdded (lists_of (front ++ x ∷ []) starts) (lists_of (front ++ y ∷ []) starts) (length (lists_of (front ++ x ∷ []) starts) - 1) q
  lengthened = record {
    size = lists_size (front ++ y ∷ []) starts ∙ (omega (arith, lists_size (front ++ x ∷ []) starts));
    here = longer_here;
    others = longer_others;
  }

-- the last run of the list is lengthened by a cell
pub added_last : (runs : List Rows) (starts : List ℕ) (x y : Rows) (q : Place) → AreStarts runs starts → 0 < length runs → x ≡ get_or runs (length runs - 1) x → 0 < length starts → get_or starts (length starts - 1) 0 < length runs → cells_of y ≡ cells_of x ++ q ∷ []
    → IsAdded (lists_of runs starts) (lists_of (set runs (length runs - 1) y) starts) (length (lists_of runs starts) - 1) q
added_last runs starts x y q h filled is some begins more =
    let i : ℕ = length runs - 1 in
    let within : i < length runs = omega arith in
    let front : List Rows = take i runs in
    let split : runs ≡ front ++ x ∷ [] = sym (take_all (i + 1) runs (omega arith)) ∙ take_more runs i x within ∙ ap (λ v. take i runs ++ v ∷ []) (sym is) in
    let none : drop (suc i) runs ≡ [] = drop_all (suc i) runs (omega arith) in
    let new : set runs i y ≡ front ++ y ∷ [] = set_split runs i y within ∙ ap (λ v. take i runs ++ y ∷ v) none in
    let size : length runs ≡ length front + 1 = ap (λ (rs : List Rows). length rs) split ∙ length-append front (x ∷ []) in
    let less : AreStarts front starts = starts_less front x starts (subst (λ rs. AreStarts rs starts) split h) (length starts - 1) (omega arith) (omega arith) in
    let longer_by : IsAdded (lists_of (front ++ x ∷ []) starts) (lists_of (front ++ y ∷ []) starts) (length (lists_of (front ++ x ∷ []) starts) - 1) q = lengthened front starts less x y q more some in
    subst (λ rs. IsAdded (lists_of runs starts) (lists_of rs starts) (length (lists_of runs starts) - 1) q) (sym new)
    (subst (λ rs. IsAdded (lists_of rs starts) (lists_of (front ++ y ∷ []) starts) (length (lists_of rs starts) - 1) q) (sym split) longer_by)

-- a run with the cell below it
pub cells_below : (x : Rows) (q : Place) → x.first ≤ x.last → x.sheet ≡ q.sheet → x.col ≡ q.col → x.last + 1 ≡ q.row → cells_of (record x { last = q.row }) ≡ cells_of x ++ q ∷ []
cells_below x q order s c next =
    cells-joined x (record { sheet = q.sheet; col = q.col; first = q.row; last = q.row }) s c next order (omega arith)
    ∙ ap (λ cs. cells_of x ++ cs) (one_cell q.sheet q.col q.row)
