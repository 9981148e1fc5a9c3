-- Marks of a run, and marks one after the other.
use Rattle.std.proofs.Common.{◌≡◌, ℕ, ◌+◌, ◌-◌, ◌<◌, ◌≤◌, ◌⊎◌, Bool, true, false, ◌&&◌, nat_le, nat_lt, List, [], ◌++◌, length, inl, inr, refl, sym, ap, subst, ◌∙◌, append_assoc, append-nil, ⊎_elim, length-append, arith}
use Rattle.std.specs.Prelude.{◌==◌}
use Rattle.std.specs.List.{AllPairs, Contains}
use Rattle.std.proofs.lemmas.Bool.{and_parts, cases_Bool, eqb-true, leb-true, or_cases}
use Rattle.std.proofs.lemmas.Bool.Decides.{nat_tests}
use Rattle.std.proofs.lemmas.List.Folds.{list_any-append}
use Rattle.calc_addr.specs.Places.{IsBefore, Place, Rectangle, Rows, corner, covers}
use Rattle.calc_model.proofs.Areas.{Inside, covered, inside}
use Rattle.run_unions.specs.Unions.{is_in}
use Rattle.dirty_spread.specs.Marking.{IsMarked, Marks, MarksFront, has_mark, is_in_any}
use Rattle.dirty_spread.proofs.Fronts.{or_left, or_right}
use Rattle.dirty_spread.proofs.Listing.{StandsAt, at_default, rows_stand}

-- what it means that a cell is one of a run's
pub record Lies (run : Rows) (q : Place) : Type 0 where
  pub sheet : q.sheet ≡ run.sheet
  pub col : q.col ≡ run.col
  pub from : run.first ≤ q.row
  pub to : q.row ≤ run.last

pub lies : (run : Rows) (q : Place) → is_in q run ≡ true → Lies run q
lies run q h =
    let parts = and_parts ((q.sheet == run.sheet) && (q.col == run.col)) (nat_le run.first q.row && nat_le q.row run.last) h in
    let column = and_parts (q.sheet == run.sheet) (q.col == run.col) parts.0 in
    let rows = and_parts (nat_le run.first q.row) (nat_le q.row run.last) parts.1 in
    record { sheet = eqb-true q.sheet run.sheet column.0; col = eqb-true q.col run.col column.1; from = leb-true run.first q.row rows.0; to = leb-true q.row run.last rows.1 }

pub row_lies : (run : Rows) (k : ℕ) → k < run.last + 1 - run.first → is_in (record { sheet = run.sheet; col = run.col; row = run.first + k }) run ≡ true
row_lies run k below = itself run.sheet run.col run.first run.last k below
  where
    itself : (s c f l k : ℕ) → k < l + 1 - f → (((s == s) && (c == c)) && (nat_le f (f + k) && nat_le (f + k) l)) ≡ true
    itself s c f l k h = grind (arith, nat_tests)

pub same_place : {s t c d r q : ℕ} → s ≡ t → c ≡ d → r ≡ q → ◌≡◌ {A = Place} (record { sheet = s; col = c; row = r }) (record { sheet = t; col = d; row = q })
same_place a b c = cc

between : (from i n : ℕ) → nat_le from i ≡ true → nat_lt i (from + n) ≡ true → (from ≤ i) × (i - from < n) × (from + (i - from) ≡ i)
between from i n h k = let low : from ≤ i = leb-true from i h in let high : i < from + n = grind (arith, nat_tests) in (low, omega arith, omega arith)

in_span : (from k n : ℕ) → k < n → (nat_le from (from + k) && nat_lt (from + k) (from + n)) ≡ true
in_span from k n h = grind (arith, nat_tests)

module _ (cells : List Place) (in_order : AllPairs IsBefore cells) (run : Rows) (from : ℕ)
    (first : StandsAt cells from (record { sheet = run.sheet; col = run.col; row = run.first }))
    (has : (q : Place) → is_in q run ≡ true → Contains cells q) where
  pub run_fits : run.first ≤ run.last → from + (run.last + 1 - run.first) ≤ length cells
  run_fits order =
      let k : ℕ = run.last - run.first in
      let last : from + k < length cells = (rows_stand cells in_order run from k first (λ j le. has _ (row_lies run j (omega arith)))).within in
      omega arith

module _ (cells : List Place) (in_order : AllPairs IsBefore cells) (run : Rows) (from : ℕ) (old new : List Bool) (before after : List Rows)
    (first : StandsAt cells from (record { sheet = run.sheet; col = run.col; row = run.first }))
    (has : (q : Place) → is_in q run ≡ true → Contains cells q)
    (marks : MarksFront run from (run.last + 1 - run.first) old new before after) where
  abbrev cell : ℕ → Place
  cell k = record { sheet = run.sheet; col = run.col; row = run.first + k }

  stands : (k : ℕ) → k < run.last + 1 - run.first → StandsAt cells (from + k) (cell k)
  stands k below = rows_stand cells in_order run from k first (λ j le. has (cell j) (row_lies run j (omega arith)))

  wanted : (q : Place) → is_in q run ≡ true → IsMarked cells new q
  wanted q h =
      let l : Lies run q = lies run q h in
      let k : ℕ = q.row - run.first in
      let below : k < run.last + 1 - run.first = omega (arith, l.from, l.to) in
      let row : run.first + k ≡ q.row = omega (arith, l.from) in
      let is : cell k ≡ q = same_place (sym l.sheet) (sym l.col) row in
      let at : StandsAt cells (from + k) q = subst (λ p. StandsAt cells (from + k) p) is (stands k below) in
      record {
        place = from + k;
        within = at.within;
        here = at.here;
        marked = marks.each (from + k) ∙ or_right (has_mark old (from + k)) _ (in_span from k (run.last + 1 - run.first) below);
      }

  queued : (q : Place) → IsMarked cells new q → IsMarked cells old q ⊎ (is_in_any q marks.items ≡ true)
  queued q m =
      ⊎_elim (λ (was : has_mark old m.place ≡ true). inl (record { place = m.place; within = m.within; here = m.here; marked = was }))
      (λ (was_not : has_mark old m.place ≡ false).
      ⊎_elim (λ (e : has_mark old m.place ≡ true). inl (record { place = m.place; within = m.within; here = m.here; marked = e }))
      (λ (e : (nat_le from m.place && nat_lt m.place (from + (run.last + 1 - run.first))) ≡ true).
      let parts = and_parts _ _ e in
      let span = between from m.place (run.last + 1 - run.first) parts.0 parts.1 in
      let k : ℕ = m.place - from in
      let at : StandsAt cells m.place (cell k) = subst (λ n. StandsAt cells n (cell k)) span.2 (stands k span.1) in
      let is : cell k ≡ q = sym (at_default cells m.place (cell k) q at) ∙ m.here in
      inr (subst (λ (p : Place). is_in_any p marks.items ≡ true) is (marks.found k span.1 (ap (has_mark old) span.2 ∙ was_not))))
      (or_cases (has_mark old m.place) _ (sym (marks.each m.place) ∙ m.marked)))
      (cases_Bool (has_mark old m.place))

  pub run_marked : Marks cells (λ q. is_in q run ≡ true) (λ q. is_in q run ≡ true) old new before after
  run_marked = record {
    size = marks.size;
    kept = λ q m. record { place = m.place; within = m.within; here = m.here; marked = marks.each m.place ∙ or_left (has_mark old m.place) _ m.marked };
    wanted = wanted;
    items = marks.items;
    grown = marks.grown;
    queued = queued;
    inside = marks.inside;
    room = marks.room;
  }

-- the one cell of an area
pub only_cell : (a : Rectangle) (q : Place) → a.first_col ≡ a.last_col → a.first_row ≡ a.last_row → covers a q ≡ true → q ≡ corner a
only_cell a q col row h =
    let i : Inside a q = inside a q h in
    same_place i.same_sheet (omega (arith, i.col_from, i.col_to)) (omega (arith, i.row_from, i.row_to))

pub covers_corner : (a : Rectangle) → a.first_col ≤ a.last_col → a.first_row ≤ a.last_row → covers a (corner a) ≡ true
covers_corner a h k = covered a (corner a) (record { same_sheet = refl; col_from = omega arith; col_to = h; row_from = omega arith; row_to = k })

-- the corner of an area as a run
abbrev pub corner_run : Rectangle → Rows
corner_run a = record { sheet = a.sheet; col = a.first_col; first = a.first_row; last = a.first_row }

pub in_corner : (a : Rectangle) (q : Place) → is_in q (corner_run a) ≡ true → q ≡ corner a
in_corner a q h = let l : Lies (corner_run a) q = lies (corner_run a) q h in same_place l.sheet l.col (omega (arith, l.from, l.to))

pub corner_in : (a : Rectangle) → is_in (corner a) (corner_run a) ≡ true
corner_in a = itself a.sheet a.first_col a.first_row
  where
    itself : (s c f : ℕ) → (((s == s) && (c == c)) && (nat_le f f && nat_le f f)) ≡ true
    itself s c f = grind (arith, nat_tests)

module _ (cells : List Place) where
  pub none_marked : (Allowed : Place → Type 0) (marks : List Bool) (found : List Rows) → Marks cells (λ q. ⊥) Allowed marks marks found found
  none_marked Allowed marks found = record {
    size = refl;
    kept = λ q m. m;
    wanted = λ q h. absurd h;
    items = [];
    grown = sym (append-nil found);
    queued = λ q m. inl m;
    inside = λ q h. cc;
    room = omega arith;
  }

  -- marks, then more of them
  pub marked_then : {W V A : Place → Type 0} {a b c : List Bool} {x y z : List Rows} → Marks cells W A a b x y → Marks cells V A b c y z → Marks cells (λ q. W q ⊎ V q) A a c x z
  marked_then {W} {V} {A} {a} {b} {c} {x} {y} {z} one two = record {
    size = two.size ∙ one.size;
    kept = λ q m. two.kept q (one.kept q m);
    wanted = λ q h. ⊎_elim (λ (w : W q). two.kept q (one.wanted q w)) (λ (v : V q). two.wanted q v) h;
    items = one.items ++ two.items;
    grown = two.grown ∙ ap (λ xs. xs ++ two.items) one.grown ∙ append_assoc x one.items two.items;
    queued = λ q m. ⊎_elim (λ (mid : IsMarked cells b q).
        ⊎_elim (λ (was : IsMarked cells a q). inl was)
        (λ (e : is_in_any q one.items ≡ true). inr (list_any-append (is_in q) one.items two.items ∙ or_left (is_in_any q one.items) (is_in_any q two.items) e))
        (one.queued q mid))
        (λ (e : is_in_any q two.items ≡ true). inr (list_any-append (is_in q) one.items two.items ∙ or_right (is_in_any q one.items) (is_in_any q two.items) e))
        (two.queued q m);
    inside = λ q h. ⊎_elim (one.inside q) (two.inside q) (or_cases (is_in_any q one.items) (is_in_any q two.items) (sym (list_any-append (is_in q) one.items two.items) ∙ h));
    room = omega (arith, one.room, two.room, length-append one.items two.items);
  }

  -- less is wanted, and more allowed
  pub marked_as : {W V A B : Place → Type 0} {a b : List Bool} {x y : List Rows} → ((q : Place) → V q → W q) → ((q : Place) → A q → B q) → Marks cells W A a b x y → Marks cells V B a b x y
  marked_as less more m = record {
    size = m.size;
    kept = m.kept;
    wanted = λ q v. m.wanted q (less q v);
    items = m.items;
    grown = m.grown;
    queued = m.queued;
    inside = λ q h. more q (m.inside q h);
    room = m.room;
  }
