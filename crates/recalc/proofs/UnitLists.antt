-- Units that are found: rows that come to the last unit, or to a new one.
use Rattle.std.proofs.Common.{◌≡◌, ◌≤◌, ◌<◌, ℕ, zero, suc, ◌+◌, ◌-◌, List, [], ◌∷◌, ◌++◌, map, length, get_or, Some, refl, sym, ap, subst, ◌∙◌, ⊎_elim, append-nil, append_assoc, arith}
use Rattle.std.specs.List.{All, range_with_len}
use Rattle.std.proofs.Math.Seq.{get_or-append_seam}
use Rattle.std.proofs.Math.Nat.{le-min, min-le_left, min-le_right}
use Rattle.std.proofs.lemmas.Bool.{cases_eq, cases_lt}
use Rattle.std.proofs.lemmas.Grind.{flat_map-append}
use Rattle.std.proofs.lemmas.List.{get_or_append_left, length-append, map-append}
use Rattle.std.proofs.lemmas.List.Elements.{All-append}
use Rattle.calc_addr.specs.Places.{Place, Rows, column_places}
use Rattle.cell_runs.specs.CellLists.{all_cells, cells_of}
use Rattle.cell_runs.proofs.Indexed.{cells-joined}
use Rattle.formula_code.specs.Coded.{CodeColumns, code_of}
use Rattle.recalc.specs.declared.units.TheConstants.{UNIT_ROWS}
use Rattle.recalc.specs.declared.units.Unit.{Unit}
use Rattle.recalc.specs.CodedUnits.{AreCodedUnits, AreLinked, Continues, HaveCode, IsCodedUnit, IsOpen, IsPart, all_rows_of, begun_at, cut_at, rows_of}
use Rattle.recalc.specs.Units.{height}

-- no row from one on to that in front of it
pub no_rows : (s c a d : ℕ) → d + 1 ≡ a → column_places s c a d ≡ []
no_rows s c a d next = ap (λ n. map (λ row. record { sheet = s; col = c; row = row }) (range_with_len a n)) (none d a next)
  where
    none : (d a : ℕ) → d + 1 ≡ a → d + 1 - a ≡ 0
    none d a next = omega (arith, next)

-- the rows in front of one, and those from it on
pub rows_split : (s c a b d : ℕ) → 1 ≤ b → a ≤ b → b ≤ d + 1 → column_places s c a (b - 1) ++ column_places s c b d ≡ column_places s c a d
rows_split s c a b d from low high =
    ⊎_elim
    (λ (e : a ≡ b). ap (λ xs. xs ++ column_places s c b d) (no_rows s c a (b - 1) (omega (arith, e, from))) ∙ ap (λ v. column_places s c v d) (sym e))
    (λ (ne : a ≡ b → ⊥).
    ⊎_elim
    (λ (l : b < d + 1). sym (cells-joined (record { sheet = s; col = c; first = a; last = b - 1 }) (record { sheet = s; col = c; first = b; last = d }) refl refl (omega (arith, from)) (omega (arith, ne, low)) (omega (arith, l))))
    (λ (past : d + 1 ≤ b).
    ap (λ xs. column_places s c a (b - 1) ++ xs) (no_rows s c b d (omega (arith, past, high))) ∙ append-nil _
    ∙ ap (λ v. column_places s c a v) (at b d high past)) (cases_lt b (d + 1)))
    (cases_eq a b)
  where
    at : (b d : ℕ) → b ≤ d + 1 → d + 1 ≤ b → b - 1 ≡ d
    at b d high past = omega (arith, high, past)

-- a unit more in a linked list
linked_more : (us : List Unit) (last unit : Unit) → AreLinked (us ++ last ∷ []) → (Continues last unit → height (rows_of last) ≡ UNIT_ROWS) → AreLinked ((us ++ last ∷ []) ++ unit ∷ [])
linked_more [] last unit h full = (full, tt)
linked_more (u ∷ []) last unit h full = (h.0, (full, tt))
linked_more (u ∷ v ∷ us) last unit h full = (h.0, linked_more (v ∷ us) last unit h.1 full)

-- the last unit with other rows behind its first
linked_as : (us : List Unit) (one other : Unit) → one.sheet ≡ other.sheet → one.col ≡ other.col → one.first ≡ other.first → one.code ≡ other.code → AreLinked (us ++ one ∷ []) → AreLinked (us ++ other ∷ [])
linked_as [] one other s c f k h = tt
linked_as (u ∷ []) one other s c f k h = (λ goes. h.0 (record { sheet = s ∙ goes.sheet; col = c ∙ goes.col; next = f ∙ goes.next; code = k ∙ goes.code }), tt)
linked_as (u ∷ v ∷ us) one other s c f k h = (h.0, linked_as (v ∷ us) one other s c f k h.1)

linked_front : (us : List Unit) (last : Unit) → AreLinked (us ++ last ∷ []) → AreLinked us
linked_front [] last h = tt
linked_front (u ∷ []) last h = tt
linked_front (u ∷ v ∷ us) last h = (h.0, linked_front (v ∷ us) last h.1)

cells_more : (us : List Unit) (unit : Unit) → all_cells (all_rows_of (us ++ unit ∷ [])) ≡ all_cells (all_rows_of us) ++ cells_of (rows_of unit)
cells_more us unit =
    ap all_cells (map-append rows_of us (unit ∷ []))
    ∙ flat_map-append cells_of (all_rows_of us) (rows_of unit ∷ [])
    ∙ ap (λ xs. all_cells (all_rows_of us) ++ xs) (append-nil (cells_of (rows_of unit)))

module _ (columns : CodeColumns) (units : List Unit) (last : Unit) where
  front : All (IsCodedUnit columns) (units ++ last ∷ []) → All (IsCodedUnit columns) units
  front each k d within = subst (IsCodedUnit columns) (get_or_append_left units (last ∷ []) d k within) (each k d (omega (arith, within, length-append units (last ∷ []))))

  pub end : All (IsCodedUnit columns) (units ++ last ∷ []) → IsCodedUnit columns last
  end each = subst (IsCodedUnit columns) (get_or-append_seam units last [] last) (each (length units) last (omega (arith, length-append units (last ∷ []))))

module _ (columns : CodeColumns) (cells : List Place) (part : Unit) (is : IsPart columns part) where
  -- a part that begins a unit
  begins : (units : List Unit) → AreCodedUnits columns cells units → AreLinked (units ++ part ∷ []) → IsOpen columns cells units part part.first
  begins units are linked = record {
    front = cells;
    units = are;
    cells = ap (λ xs. cells ++ xs) (no_rows part.sheet part.col part.first (part.first - 1) (omega (arith, is.rows.from))) ∙ append-nil cells;
    coded = λ row low high. absurd (omega (arith, low, high, is.rows.from));
    linked = linked_as units part (begun_at part part.first) refl refl refl refl linked;
    from = is.rows.from;
    to = omega arith;
    few = omega arith;
  }

  module _ (units : List Unit) (last : Unit) (are : AreCodedUnits columns cells (units ++ last ∷ [])) where
    pub opened_kept : (Continues last part → UNIT_ROWS ≤ height (rows_of last)) → IsOpen columns cells (units ++ last ∷ []) part part.first
    opened_kept full = begins (units ++ last ∷ []) are (linked_more units last part are.linked (λ goes. whole (height (rows_of last)) (end columns units last are.each).few (full goes)))
      where
        whole : (n : ℕ) → n ≤ UNIT_ROWS → UNIT_ROWS ≤ n → n ≡ UNIT_ROWS
        whole n a b = omega (arith, a, b)

    pub opened_taken : Continues last part → height (rows_of last) < UNIT_ROWS → IsOpen columns cells units part last.first
    opened_taken goes short =
        let unit = end columns units last are.each in
        let behind : part.first - 1 ≡ last.last = before part.first last.last goes.next in
        record {
          front = all_cells (all_rows_of units);
          units = record { cells = refl; each = front columns units last are.each; linked = linked_front units last are.linked };
          cells =
              ap (λ (v : ℕ). all_cells (all_rows_of units) ++ column_places part.sheet part.col last.first v) behind
              ∙ ap (λ (v : ℕ). all_cells (all_rows_of units) ++ column_places v part.col last.first last.last) goes.sheet
              ∙ ap (λ (v : ℕ). all_cells (all_rows_of units) ++ column_places last.sheet v last.first last.last) goes.col
              ∙ sym (cells_more units last) ∙ are.cells;
          coded = λ row low high.
              ap (λ (v : ℕ). code_of columns (record { sheet = v; col = part.col; row = row })) goes.sheet
              ∙ ap (λ (v : ℕ). code_of columns (record { sheet = last.sheet; col = v; row = row })) goes.col
              ∙ unit.part.coded row low (omega (arith, high, behind)) ∙ ap (λ (v : ℕ). Some v) (sym goes.code);
          linked = linked_as units last (begun_at part last.first) (sym goes.sheet) (sym goes.col) refl (sym goes.code) are.linked;
          from = unit.part.rows.from;
          to = omega (arith, goes.next, unit.part.rows.in_order);
          few = omega (arith, goes.next, short, unit.part.rows.in_order);
        }
      where
        before : (a b : ℕ) → a ≡ b + 1 → a - 1 ≡ b
        before a b e = omega (arith, e)

module _ (columns : CodeColumns) (cells : List Place) (units : List Unit) (part : Unit) (is : IsPart columns part) (first : ℕ) (are : IsOpen columns cells units part first) where
  abbrev unit : Unit
  unit = cut_at part first

  within : unit.last ≤ part.last
  within = min-le_left part.last (first + (UNIT_ROWS - 1))

  short : unit.last ≤ first + (UNIT_ROWS - 1)
  short = min-le_right part.last (first + (UNIT_ROWS - 1))

  behind : part.first ≤ unit.last
  behind = le-min is.rows.in_order (few are.few)
    where
      few : part.first < first + UNIT_ROWS → part.first ≤ first + (UNIT_ROWS - 1)
      few h = omega (arith, h)

  has_code : HaveCode columns (rows_of unit) part.code
  has_code row low high =
      ⊎_elim (λ (l : row < part.first). are.coded row low (omega (arith, l)))
      (λ (ge : part.first ≤ row). is.coded row ge (omega (arith, high, within))) (cases_lt row part.first)

  is_unit : IsCodedUnit columns unit
  is_unit = record {
    part = record {
      rows = record {
        sheet_in = is.rows.sheet_in;
        col_from = is.rows.col_from;
        col_to = is.rows.col_to;
        from = are.from;
        in_order = omega (arith, are.to, behind);
        to = omega (arith, within, is.rows.to);
      };
      coded = has_code;
    };
    few = omega (arith, short);
  }

  -- the rows of a part up to the end of its unit come to the units
  pub added : AreCodedUnits columns (cells ++ column_places part.sheet part.col part.first unit.last) (units ++ unit ∷ [])
  added = record {
    cells =
        cells_more units unit
        ∙ ap (λ xs. xs ++ cells_of (rows_of unit)) are.units.cells
        ∙ ap (λ xs. are.front ++ xs) (sym (rows_split part.sheet part.col first part.first unit.last is.rows.from are.to (omega (arith, behind))))
        ∙ sym (append_assoc are.front (column_places part.sheet part.col first (part.first - 1)) (column_places part.sheet part.col part.first unit.last))
        ∙ ap (λ xs. xs ++ column_places part.sheet part.col part.first unit.last) are.cells;
    each = All-append (IsCodedUnit columns) units (unit ∷ []) are.units.each one;
    linked = linked_as units (begun_at part first) unit refl refl refl refl are.linked;
  }
    where
      one : All (IsCodedUnit columns) (unit ∷ [])
      one zero d h = is_unit
      one (suc k) d h = absurd (omega (arith, h))

-- the rows of a run up to one, and then those of a part
pub run_more : (columns : CodeColumns) (units : List Unit) (run : Rows) (part : Unit) (row last : ℕ) (cells : List Place) → 1 ≤ row → run.first ≤ row → part.sheet ≡ run.sheet → part.col ≡ run.col → part.first ≡ row → part.first ≤ last → AreCodedUnits columns ((cells ++ column_places run.sheet run.col run.first (row - 1)) ++ column_places part.sheet part.col part.first last) units → AreCodedUnits columns (cells ++ column_places run.sheet run.col run.first (last + 1 - 1)) units
run_more columns units run part row last cells from low s c f high are =
    subst (λ xs. AreCodedUnits columns xs units)
    (ap (λ xs. (cells ++ column_places run.sheet run.col run.first (row - 1)) ++ xs) same
    ∙ append_assoc cells (column_places run.sheet run.col run.first (row - 1)) (column_places run.sheet run.col row last)
    ∙ ap (λ xs. cells ++ xs) (rows_split run.sheet run.col run.first row last from low (omega (arith, f, high)))
    ∙ ap (λ (v : ℕ). cells ++ column_places run.sheet run.col run.first v) (back last)) are
  where
    same : column_places part.sheet part.col part.first last ≡ column_places run.sheet run.col row last
    same = ap (λ (v : ℕ). column_places v part.col part.first last) s ∙ ap (λ (v : ℕ). column_places run.sheet v part.first last) c ∙ ap (λ (v : ℕ). column_places run.sheet run.col v last) f

    back : (n : ℕ) → n ≡ n + 1 - 1
    back n = omega arith

-- the rows of a unit by its place
pub rows_item : (units : List Unit) (i : ℕ) (unit : Unit) (rows : Rows) → i < length units → unit ≡ get_or units i unit → rows ≡ rows_of unit → (i < length (all_rows_of units)) × (rows ≡ get_or (all_rows_of units) i rows)
rows_item [] i unit rows within at is = absurd (omega (arith, within))
rows_item (u ∷ us) zero unit rows within at is = (omega arith, is ∙ ap rows_of at)
rows_item (u ∷ us) (suc i) unit rows within at is = let rest = rows_item us i unit rows (omega (arith, within)) at is in (omega (arith, rest.0), rest.1)
