-- The parts of a run by one registration more.
use Rattle.std.proofs.Common.{◌≡◌, ◌⊎◌, inl, inr, ℕ, ◌+◌, ◌-◌, ◌≤◌, ◌<◌, Bool, true, false, cond, ◌&&◌, ◌||◌, max, min, nat_eq, nat_le, List, [], ◌∷◌, ◌++◌, length, get_or, drop, map, take, Option, Some, None, Result, Ok, Err, refl, sym, ap, subst, ◌∙◌, append_assoc, ⊎_elim, eq-eqb, arith}
use Rattle.std.specs.Prelude.{◌==◌, OnErr}
use Rattle.std.specs.List.{Contains, list_any, slice_range}
use Rattle.std.specs.List.Sorted.{IsNonDecreasingBy, IsPermutation}
use Rattle.std.proofs.lemmas.Bool.{and_from, and_parts, cases_Bool, cases_lt, eqb-true, false≢true, leb-true, or_cases}
use Rattle.std.proofs.lemmas.Bool.Decides.{nat_tests}
use Rattle.std.proofs.lemmas.Grind.{get_or_default_zero}
use Rattle.std.proofs.lemmas.List.{append-nil, drop-append-le, get_or-take, length-append, length-drop, length-take, take-append-le}
use Rattle.std.proofs.lemmas.List.Sorted.{list_any-IsPermutation}
use Rattle.std.proofs.lemmas.List.Elements.{All-push}
use Rattle.std.proofs.lemmas.List.Folds.{Any-from_list_any, list_any-append, list_any-from_Any}
use Rattle.std.proofs.lemmas.List.Quantifiers.{all_pairs_push}
use Rattle.calc_addr.specs.Places.{Place, Rectangle, Rows}
use Rattle.calc_model.specs.declared.dependents.Part.{Part}
use Rattle.calc_model.specs.Ears.{ReadArea, area_at}
use Rattle.calc_model.specs.Listeners.{ArePartsOf, Gets, IsAbove, IsHeard, IsRowOf}
use Rattle.ears.specs.RunAreas.{ear_below}
use Rattle.area_listeners.specs.Pairs.{AreMeeting, Pairs, has_id}
use Rattle.registration_slab.specs.declared.registration.Registration.{Registration}
use Rattle.listener_hub.specs.Parting.{Adds, IsParted, IsParting, IsStep, Skips, first_row, has_row, next_part, part_run}
use Rattle.registration_slab.specs.Slab.{AreApart, IsSlab, Registrations, area_of, areas_of, at, has_cell, is_in}
use Rattle.registration_slab.proofs.Parts.{areas_below}
use Rattle.registration_slab.proofs.Places.{Lacks, Stands, read_at, where_read}
use Rattle.listener_hub.proofs.Reached.{cells_in}
use Rattle.registration_slab.proofs.Standing.{found}

-- a slice stays where a list gets more
slice_kept : (xs ys : List ReadArea) (i j : ℕ) → i ≤ j → j ≤ length xs → slice_range (xs ++ ys) i j ≡ slice_range xs i j
slice_kept xs ys i j h k = ap (take (j - i)) (drop-append-le i xs ys (omega arith)) ∙ take-append-le (j - i) (drop i xs) ys (omega (arith, length-drop i xs))

drop_front : (xs ys : List ReadArea) → drop (length xs) (xs ++ ys) ≡ ys
drop_front [] ys = refl
drop_front (x ∷ xs) ys = drop_front xs ys

take_whole : (ys : List ReadArea) → take (length ys) ys ≡ ys
take_whole [] = refl
take_whole (y ∷ ys) = ap (λ zs. y ∷ zs) (take_whole ys)

slice_new : (xs ys : List ReadArea) → slice_range (xs ++ ys) (length xs) (length (xs ++ ys)) ≡ ys
slice_new xs ys =
    let n : length (xs ++ ys) - length xs ≡ length ys = omega (arith, length-append xs ys) in
    ap (λ m. take m (drop (length xs) (xs ++ ys))) n ∙ ap (take (length ys)) (drop_front xs ys) ∙ take_whole ys

heard_more : (rs : Registrations) (run : Rows) (es more : List ReadArea) (p : Part) → IsHeard (areas_of rs) run es p → IsHeard (areas_of rs) run (es ++ more) p
heard_more rs run es more p h = record {
  column = h.column;
  inside = h.inside;
  within = (h.within.0, omega (arith, h.within.1, length-append es more));
  areas = λ row is_row. h.areas row is_row ∙ ap (λ (xs : List ReadArea). Some (map (λ ear. area_at ear (row - p.run.first)) xs)) (sym (slice_kept es more p.from p.to h.within.0 h.within.1));
}

-- what a part's rows are
record IsPartRun (registered run : Rows) (next : ℕ) (rows : Rows) : Type 0 where
  column : ((registered.sheet == run.sheet) && (registered.col == run.col)) ≡ true
  order : max registered.first next ≤ min registered.last run.last
  is : rows ≡ record { sheet = run.sheet; col = run.col; first = max registered.first next; last = min registered.last run.last }

part_run_is : (registered run : Rows) (next : ℕ) (rows : Rows) → part_run registered run next ≡ Some rows → IsPartRun registered run next rows
part_run_is registered run next rows h =
    let column : Bool = (registered.sheet == run.sheet) && (registered.col == run.col) in
    let order : Bool = nat_le (max registered.first next) (min registered.last run.last) in
    let whole : Rows = record { sheet = run.sheet; col = run.col; first = max registered.first next; last = min registered.last run.last } in
    ⊎_elim
    (λ (e : (column && order) ≡ true).
    record { column = (and_parts column order e).0; order = leb-true _ _ (and_parts column order e).1; is = some_same (sym (sym (ap (λ b. cond b (Some whole) None) e) ∙ h)) })
    (λ (e : (column && order) ≡ false). absurd (none (sym (ap (λ b. cond b (Some whole) None) e) ∙ h)))
    (cases_Bool (column && order))
  where
    some_same : {x y : Rows} → Some x ≡ Some y → x ≡ y
    some_same h = cc

    none : None ≡ Some rows → ⊥
    none h = cc

part_run_some : (registered run : Rows) (next : ℕ) → ((registered.sheet == run.sheet) && (registered.col == run.col)) ≡ true → max registered.first next ≤ min registered.last run.last → part_run registered run next ≡ None → ⊥
part_run_some registered run next column order h =
    some_none (sym (ap (λ b. cond b (Some whole) None) (and_from _ _ column (at_most _ _ order))) ∙ h)
  where
    whole : Rows
    whole = record { sheet = run.sheet; col = run.col; first = max registered.first next; last = min registered.last run.last }

    some_none : {x : Rows} → Some x ≡ None → ⊥
    some_none h = cc

    at_most : (a b : ℕ) → a ≤ b → nat_le a b ≡ true
    at_most a b h = grind (arith, nat_tests)

-- a cell of two runs
record InBoth (registered run : Rows) (q : Place) : Type 0 where
  column : ((registered.sheet == run.sheet) && (registered.col == run.col)) ≡ true
  low : registered.first ≤ q.row
  high : q.row ≤ registered.last
  top : run.first ≤ q.row
  bottom : q.row ≤ run.last

in_both : (registered run : Rows) (q : Place) → is_in registered q ≡ true → is_in run q ≡ true → InBoth registered run q
in_both registered run q h k =
    let a = and_parts ((q.sheet == registered.sheet) && (q.col == registered.col)) (nat_le registered.first q.row && nat_le q.row registered.last) h in
    let b = and_parts ((q.sheet == run.sheet) && (q.col == run.col)) (nat_le run.first q.row && nat_le q.row run.last) k in
    let ca = and_parts (q.sheet == registered.sheet) (q.col == registered.col) a.0 in
    let cb = and_parts (q.sheet == run.sheet) (q.col == run.col) b.0 in
    let ra = and_parts (nat_le registered.first q.row) (nat_le q.row registered.last) a.1 in
    let rb = and_parts (nat_le run.first q.row) (nat_le q.row run.last) b.1 in
    record {
      column = and_from (registered.sheet == run.sheet) (registered.col == run.col)
          (eq-eqb registered.sheet run.sheet (sym (eqb-true q.sheet registered.sheet ca.0) ∙ eqb-true q.sheet run.sheet cb.0))
          (eq-eqb registered.col run.col (sym (eqb-true q.col registered.col ca.1) ∙ eqb-true q.col run.col cb.1));
      low = leb-true registered.first q.row ra.0;
      high = leb-true q.row registered.last ra.1;
      top = leb-true run.first q.row rb.0;
      bottom = leb-true q.row run.last rb.1;
    }

any_more : (test : Part → Bool) (parts : List Part) (p : Part) → list_any test parts ≡ true → list_any test (parts ++ p ∷ []) ≡ true
any_more test parts p h = list_any-append test parts (p ∷ []) ∙ ap (λ b. b || (test p || false)) h

any_last : (test : Part → Bool) (parts : List Part) (p : Part) → test p ≡ true → list_any test (parts ++ p ∷ []) ≡ true
any_last test parts p h = list_any-append test parts (p ∷ []) ∙ ap (λ b. list_any test parts || (b || false)) h ∙ or_true (list_any test parts)
  where
    or_true : (b : Bool) → (b || true) ≡ true
    or_true true = refl
    or_true false = refl

id_before : (done : List ℕ) (p i : ℕ) → has_id done i ≡ true → has_id (done ++ p ∷ []) i ≡ true
id_before done p i h = list_any-append (nat_eq i) done (p ∷ []) ∙ ap (λ b. b || (nat_eq i p || false)) h

id_last : (done : List ℕ) (p : ℕ) → has_id (done ++ p ∷ []) p ≡ true
id_last done p = list_any-append (nat_eq p) done (p ∷ []) ∙ ap (λ b. has_id done p || (b || false)) (eq-eqb p p refl) ∙ or_true (has_id done p)
  where
    or_true : (b : Bool) → (b || true) ≡ true
    or_true true = refl
    or_true false = refl

module _ (rs : Registrations) (apart : AreApart rs) (run : Rows) (done : List ℕ) (old now new : List Part) (old_ears es new_es : List ReadArea) (next after p : ℕ)
    (parting : IsParting rs run done old now old_ears es next) (sorted : (i : ℕ) → has_id done i ≡ true → first_row (at rs i) ≤ first_row (at rs p)) where
  -- one of the places, or the next one
  either : (q : Place) → list_any (λ i. has_cell (at rs i) q) (done ++ p ∷ []) ≡ true → (list_any (λ i. has_cell (at rs i) q) done ≡ true) ⊎ (has_cell (at rs p) q ≡ true)
  either q h =
      ⊎_elim (λ (e : list_any (λ i. has_cell (at rs i) q) done ≡ true). inl e)
      (λ (e : (has_cell (at rs p) q || false) ≡ true). inr (drop_false (has_cell (at rs p) q) e))
      (or_cases (list_any (λ i. has_cell (at rs i) q) done) (has_cell (at rs p) q || false) (sym (list_any-append (λ i. has_cell (at rs i) q) done (p ∷ [])) ∙ h))
    where
      drop_false : (b : Bool) → (b || false) ≡ true → b ≡ true
      drop_false true h = refl
      drop_false false h = h

  -- a row of the next registration in front of the next part
  before_next : (o : Option Registration) → at rs p ≡ o → (q : Place) → is_in run q ≡ true → has_cell o q ≡ true → q.row < next → list_any (has_row q.row) parting.parts ≡ true
  before_next None is q in_run has below = absurd (false≢true has)
  before_next (Some r) is q in_run has below =
      let both = in_both r.run run q has in_run in
      parting.held q in_run (λ i h. le_trans (first_row (at rs i)) r.run.first q.row (subst (λ o. first_row (at rs i) ≤ first_row o) is (sorted i h)) both.low) below
    where
      le_trans : (a b c : ℕ) → a ≤ b → b ≤ c → a ≤ c
      le_trans a b c h k = omega arith

  skip : Skips (at rs p) run next now new es new_es after → IsParting rs run (done ++ p ∷ []) old new old_ears new_es after
  skip s = subst (λ n. IsParting rs run (done ++ p ∷ []) old new old_ears new_es n) (sym s.same)
      (subst (λ (x : List Part). IsParting rs run (done ++ p ∷ []) old x old_ears new_es next) (sym s.parts_stay)
      (subst (λ (x : List ReadArea). IsParting rs run (done ++ p ∷ []) old now old_ears x next) (sym s.ears_stay) (record {
        parts = parting.parts;
        is = parting.is;
        extra = parting.extra;
        ears_are = parting.ears_are;
        rising = parting.rising;
        above = parting.above;
        heard = parting.heard;
        from = parting.from;
        held = λ q in_run firsts below. parting.held q in_run (λ i h. firsts i (id_before done p i h)) below;
        each = λ q in_run h. ⊎_elim (λ (e : list_any (λ i. has_cell (at rs i) q) done ≡ true). parting.each q in_run e) (λ (e : has_cell (at rs p) q ≡ true). in_front q in_run (at rs p) refl s.none e) (either q h);
      })))
    where
      between : (f n row l m : ℕ) → f ≤ row → n ≤ row → row ≤ l → row ≤ m → max f n ≤ min l m
      between f n row l m a b c d = omega arith

      in_front : (q : Place) → is_in run q ≡ true → (o : Option Registration) → at rs p ≡ o → next_part o run next ≡ None → has_cell o q ≡ true → list_any (has_row q.row) parting.parts ≡ true
      in_front q in_run None is none has = absurd (false≢true has)
      in_front q in_run (Some r) is none has =
          let both = in_both r.run run q has in_run in
          ⊎_elim (λ (below : q.row < next). before_next (Some r) is q in_run has below)
          (λ (behind : next ≤ q.row). absurd (part_run_some r.run run next both.column (between r.run.first next q.row r.run.last run.last both.low behind both.high both.bottom) none))
          (cases_lt q.row next)

  module _ (a : Adds (at rs p) run next now new es new_es after) where
    start : ℕ
    start = max a.registration.run.first next

    last : ℕ
    last = min a.registration.run.last run.last

    part_is : IsPartRun a.registration.run run next a.rows
    part_is = part_run_is a.registration.run run next a.rows a.are

    first_is : a.rows.first ≡ start
    unfolding start
    first_is = ap (λ (x : Rows). x.first) part_is.is

    last_is : a.rows.last ≡ last
    unfolding last
    last_is = ap (λ (x : Rows). x.last) part_is.is

    start_low : next ≤ a.rows.first
    unfolding start
    start_low = subst (λ n. next ≤ n) (sym first_is) (omega arith)

    start_in : a.registration.run.first ≤ a.rows.first
    unfolding start
    start_in = subst (λ n. a.registration.run.first ≤ n) (sym first_is) (omega arith)

    last_in : (a.rows.last ≤ a.registration.run.last) × (a.rows.last ≤ run.last)
    unfolding last
    last_in = (subst (λ n. n ≤ a.registration.run.last) (sym last_is) (omega arith), subst (λ n. n ≤ run.last) (sym last_is) (omega arith))

    in_order : a.rows.first ≤ a.rows.last
    unfolding start last
    in_order = subst (λ n. n ≤ a.rows.last) (sym first_is) (subst (λ n. start ≤ n) (sym last_is) part_is.order)

    abbrev part : Part
    part = record { run = a.rows; from = length es; to = length new_es }

    -- a row of the next registration from the next one on lies in the part
    in_part : (q : Place) → is_in run q ≡ true → is_in a.registration.run q ≡ true → next ≤ q.row → has_row q.row part ≡ true
    unfolding start last
    in_part q in_run has behind =
        let both = in_both a.registration.run run q has in_run in
        rows_in a.rows.first q.row a.rows.last (subst (λ n. n ≤ q.row) (sym first_is) (at_most a.registration.run.first next q.row both.low behind)) (subst (λ n. q.row ≤ n) (sym last_is) (at_least q.row a.registration.run.last run.last both.high both.bottom))
      where
        rows_in : (f r l : ℕ) → f ≤ r → r ≤ l → (nat_le f r && nat_le r l) ≡ true
        rows_in f r l h k = grind (arith, nat_tests)

        at_most : (f n r : ℕ) → f ≤ r → n ≤ r → max f n ≤ r
        at_most f n r h k = omega arith

        at_least : (r l m : ℕ) → r ≤ l → r ≤ m → r ≤ min l m
        at_least r l m h k = omega arith

    -- the place of a row of the part
    has_place : (row : ℕ) → a.rows.first ≤ row → row ≤ a.rows.last → is_in a.registration.run (record { sheet = run.sheet; col = run.col; row = row }) ≡ true
    has_place row low high =
        let column = and_parts (a.registration.run.sheet == run.sheet) (a.registration.run.col == run.col) part_is.column in
        and_from ((run.sheet == a.registration.run.sheet) && (run.col == a.registration.run.col)) (nat_le a.registration.run.first row && nat_le row a.registration.run.last)
        (and_from (run.sheet == a.registration.run.sheet) (run.col == a.registration.run.col)
        (eq-eqb run.sheet a.registration.run.sheet (sym (eqb-true a.registration.run.sheet run.sheet column.0)))
        (eq-eqb run.col a.registration.run.col (sym (eqb-true a.registration.run.col run.col column.1))))
        (rows_in a.registration.run.first row a.registration.run.last (le_trans a.registration.run.first a.rows.first row start_in low) (le_trans row a.rows.last a.registration.run.last high last_in.0))
      where
        rows_in : (f r l : ℕ) → f ≤ r → r ≤ l → (nat_le f r && nat_le r l) ≡ true
        rows_in f r l h k = grind (arith, nat_tests)

        le_trans : (a b c : ℕ) → a ≤ b → b ≤ c → a ≤ c
        le_trans a b c h k = omega arith

    part_heard : IsHeard (areas_of rs) run new_es part
    part_heard = record {
      column = (ap (λ (x : Rows). x.sheet) part_is.is, ap (λ (x : Rows). x.col) part_is.is);
      inside = (le_trans run.first next a.rows.first parting.from start_low, last_in.1);
      within = (subst (λ (xs : List ReadArea). length es ≤ length xs) (sym a.ears_are) (longer es (map (λ e. ear_below e (a.rows.first - a.registration.run.first)) a.registration.ears.items)), omega arith);
      areas = λ row is_row.
          read_at rs apart p a.registration (record { sheet = run.sheet; col = run.col; row = row }) a.there (has_place row is_row.0 is_row.1)
          ∙ ap Some (sym (areas_below a.registration.ears.items (a.rows.first - a.registration.run.first) (row - a.rows.first) (row - a.registration.run.first) (through a.registration.run.first a.rows.first row start_in is_row.0)))
          ∙ ap (λ (xs : List ReadArea). Some (map (λ ear. area_at ear (row - a.rows.first)) xs)) (sym (ap (λ (xs : List ReadArea). slice_range xs (length es) (length xs)) a.ears_are ∙ slice_new es (map (λ e. ear_below e (a.rows.first - a.registration.run.first)) a.registration.ears.items)));
    }
      where
        le_trans : (a b c : ℕ) → a ≤ b → b ≤ c → a ≤ c
        le_trans a b c h k = omega arith

        longer : (xs ys : List ReadArea) → length xs ≤ length (xs ++ ys)
        longer xs ys = omega (arith, length-append xs ys)

        through : (f s row : ℕ) → f ≤ s → s ≤ row → (s - f) + (row - s) ≡ row - f
        through f s row h k = omega arith

    add : IsParting rs run (done ++ p ∷ []) old new old_ears new_es after
    add =
        let below : List ReadArea = map (λ e. ear_below e (a.rows.first - a.registration.run.first)) a.registration.ears.items in
        subst (λ n. IsParting rs run (done ++ p ∷ []) old new old_ears new_es n) (sym a.behind) (record {
          parts = parting.parts ++ part ∷ [];
          is = a.part ∙ ap (λ (xs : List Part). xs ++ part ∷ []) parting.is ∙ append_assoc old parting.parts (part ∷ []);
          extra = parting.extra ++ below;
          ears_are = a.ears_are ∙ ap (λ (xs : List ReadArea). xs ++ below) parting.ears_are ∙ append_assoc old_ears parting.extra below;
          rising = all_pairs_push IsAbove parting.parts part parting.rising (λ k d within. lt_le (get_or parting.parts k d).run.last next a.rows.first (parting.above k d within) start_low);
          above = All-push (λ (x : Part). x.run.last < a.rows.last + 1) parting.parts part (λ k d within. lt_up (get_or parting.parts k d).run.last next a.rows.first a.rows.last (parting.above k d within) start_low in_order) (omega arith);
          heard = All-push (IsHeard (areas_of rs) run new_es) parting.parts part
              (λ k d within. subst (λ (xs : List ReadArea). IsHeard (areas_of rs) run xs (get_or parting.parts k d)) (sym a.ears_are) (heard_more rs run es below (get_or parting.parts k d) (parting.heard k d within)))
              part_heard;
          from = up run.first next a.rows.first a.rows.last parting.from start_low in_order;
          held = held_next;
          each = λ q in_run h.
              ⊎_elim (λ (e : list_any (λ i. has_cell (at rs i) q) done ≡ true). any_more (has_row q.row) parting.parts part (parting.each q in_run e))
              (λ (e : has_cell (at rs p) q ≡ true). here q in_run e)
              (either q h);
        })
      where
        lt_le : (a b c : ℕ) → a < b → b ≤ c → a < c
        lt_le a b c h k = omega arith

        lt_up : (a b c d : ℕ) → a < b → b ≤ c → c ≤ d → a < d + 1
        lt_up a b c d h k l = omega arith

        up : (a b c d : ℕ) → a ≤ b → b ≤ c → c ≤ d → a ≤ d + 1
        up a b c d h k l = omega arith

        here : (q : Place) → is_in run q ≡ true → has_cell (at rs p) q ≡ true → list_any (has_row q.row) (parting.parts ++ part ∷ []) ≡ true
        here q in_run e =
            ⊎_elim (λ (low : q.row < next). any_more (has_row q.row) parting.parts part (before_next (at rs p) refl q in_run e low))
            (λ (behind : next ≤ q.row). any_last (has_row q.row) parting.parts part (in_part q in_run (ap (λ o. has_cell o q) (sym a.there) ∙ e) behind))
            (cases_lt q.row next)

        row_in : (f r l : ℕ) → f ≤ r → r < l + 1 → (nat_le f r && nat_le r l) ≡ true
        row_in f r l h k = grind (arith, nat_tests)

        at_most : (f n r x : ℕ) → x ≡ max f n → f ≤ r → n ≤ r → x ≤ r
        at_most f n r x e h k = omega arith

        held_next : (q : Place) → is_in run q ≡ true → ((i : ℕ) → has_id (done ++ p ∷ []) i ≡ true → first_row (at rs i) ≤ q.row) → q.row < a.rows.last + 1 → list_any (has_row q.row) (parting.parts ++ part ∷ []) ≡ true
        held_next q in_run firsts low =
            ⊎_elim (λ (e : q.row < next). any_more (has_row q.row) parting.parts part (parting.held q in_run (λ i h. firsts i (id_before done p i h)) e))
            (λ (behind : next ≤ q.row).
            let first : a.registration.run.first ≤ q.row = subst (λ o. first_row o ≤ q.row) a.there (firsts p (id_last done p)) in
            any_last (has_row q.row) parting.parts part (row_in a.rows.first q.row a.rows.last (at_most a.registration.run.first next q.row a.rows.first (ap (λ (x : Rows). x.first) part_is.is) first behind) low))
            (cases_lt q.row next)

  pub step : IsStep (at rs p) run next now new es new_es after → IsParting rs run (done ++ p ∷ []) old new old_ears new_es after
  step s = ⊎_elim (λ (x : Skips (at rs p) run next now new es new_es after). skip x) (λ (x : Adds (at rs p) run next now new es new_es after). add x) s

-- the front that was there stays
pub kept_front : {X : Type 0} (old mid now xs : List X) → mid ≡ old ++ xs → take (length mid) now ≡ mid → take (length old) now ≡ old
kept_front [] mid now xs is kept = refl
kept_front (p ∷ ps) [] now xs is kept = absurd (none is)
  where
    none : [] ≡ p ∷ (ps ++ xs) → ⊥
    none h = cc
kept_front (p ∷ ps) (m ∷ ms) [] xs is kept = absurd (none kept)
  where
    none : [] ≡ m ∷ ms → ⊥
    none h = cc
kept_front (p ∷ ps) (m ∷ ms) (n ∷ ns) xs is kept =
    let rest = kept_front ps ms ns xs (tail is) (tail kept) in
    ap (λ x. x ∷ take (length ps) ns) (head kept ∙ head is) ∙ ap (λ zs. p ∷ zs) rest
  where
    head : {X : Type 0} {a b : X} {ys zs : List X} → a ∷ ys ≡ b ∷ zs → a ≡ b
    head h = cc

    tail : {X : Type 0} {a b : X} {ys zs : List X} → a ∷ ys ≡ b ∷ zs → ys ≡ zs
    tail h = cc

pub on_err : {T E : Type 0} {P : Type 0} (r : Result T E) → P → OnErr r P
on_err (Ok x) p = tt
on_err (Err e) p = p

-- places that come before one in order of a number
pub sorted_before : (f : ℕ → ℕ) (xs : List ℕ) (n : ℕ) → n < length xs → IsNonDecreasingBy f xs → (i : ℕ) → has_id (take n xs) i ≡ true → f i ≤ f (get_or xs n 0)
sorted_before f xs n within sorted i h =
    let at_id = Any-from_list_any (nat_eq i) (take n xs) h in
    let below : at_id.0 < n = omega (arith, at_id.2, length-take n xs) in
    let is : get_or xs at_id.0 0 ≡ i = sym (get_or_default_zero xs at_id.0 at_id.1 (omega (arith, below, within))) ∙ sym (get_or-take n xs at_id.0 at_id.1 below) ∙ at_id.3 ∙ sym (eqb-true i at_id.1 at_id.4) in
    subst (λ x. f x ≤ f (get_or xs n 0)) is (sorted at_id.0 n 0 (omega (arith, below)) within)

pub no_parts : (rs : Registrations) (run : Rows) (parts : List Part) (ears : List ReadArea) (next : ℕ) → next ≡ run.first → IsParting rs run [] parts parts ears ears next
no_parts rs run parts ears next is = record {
  parts = [];
  is = sym (append-nil parts);
  extra = [];
  ears_are = sym (append-nil ears);
  rising = λ i j d lt within. absurd (omega arith);
  above = λ k d within. absurd (omega arith);
  heard = λ k d within. absurd (omega arith);
  from = omega arith;
  held = λ q in_run firsts below. absurd (outside q in_run below);
  each = λ q in_run h. absurd (false≢true h);
}
  where
    outside : (q : Place) → is_in run q ≡ true → q.row < next → ⊥
    outside q h below =
        let low : run.first ≤ q.row = leb-true run.first q.row (and_parts (nat_le run.first q.row) (nat_le q.row run.last) (and_parts ((q.sheet == run.sheet) && (q.col == run.col)) (nat_le run.first q.row && nat_le q.row run.last) h).1).0 in
        omega arith

-- what all registrations that stand in the run give are its parts
pub are_parts : (rs : Registrations) (ears homes : Pairs) → IsSlab rs ears homes → (run : Rows) (ids sorted : List ℕ) (old now : List Part) (old_ears es : List ReadArea) → AreMeeting homes (area_of run) ids → IsPermutation ids sorted
    → IsParted rs run sorted old now old_ears es → Gets old now (ArePartsOf (areas_of rs) run es)
are_parts rs ears homes slab run ids sorted old now old_ears es meeting moved (next, parting) =
    (parting.parts, parting.is, record { rising = parting.rising; heard = parting.heard; all = λ q areas cell reads. in_parts q (cells_in run q cell) areas reads })
  where
    some_none : {x : List Rectangle} → Some x ≡ None → ⊥
    some_none h = cc

    standing : (q : Place) → is_in run q ≡ true → (s : Stands rs q) → list_any (λ i. has_cell (at rs i) q) sorted ≡ true
    standing q in_run s =
        let has : has_cell (at rs s.place) q ≡ true = ap (λ o. has_cell o q) s.there ∙ s.has in
        let at_id = Any-from_list_any (nat_eq s.place) ids (found rs ears homes slab run ids meeting s.place q in_run (at rs s.place) refl has) in
        sym (list_any-IsPermutation (λ i. has_cell (at rs i) q) ids sorted moved)
        ∙ list_any-from_Any (λ i. has_cell (at rs i) q) ids (at_id.0, at_id.1, at_id.2, at_id.3, subst (λ n. has_cell (at rs n) q ≡ true) (eqb-true s.place at_id.1 at_id.4) has)

    in_parts : (q : Place) → is_in run q ≡ true → (areas : List Rectangle) → areas_of rs q ≡ Some areas → (part : Part) × Contains parting.parts part × IsRowOf part q.row
    in_parts q in_run areas reads =
        ⊎_elim
        (λ (s : Stands rs q).
        let part = Any-from_list_any (has_row q.row) parting.parts (parting.each q in_run (standing q in_run s)) in
        let rows = and_parts (nat_le part.1.run.first q.row) (nat_le q.row part.1.run.last) part.4 in
        (part.1, (part.0, part.2, part.3), (leb-true part.1.run.first q.row rows.0, leb-true q.row part.1.run.last rows.1)))
        (λ (l : Lacks rs q). absurd (some_none (sym reads ∙ l.reads)))
        (where_read rs q)
