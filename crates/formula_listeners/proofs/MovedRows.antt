-- What the formulas of a book read after rows of a sheet were inserted or deleted, as a hub moves it.
use Rattle.std.proofs.Common.{◌≡◌, ◌<◌, ℕ, ◌+◌, ◌-◌, Bool, true, false, cond, ◌&&◌, not, nat_le, nat_lt, List, [], ◌∷◌, map, Option, Some, None, unwrap_or, ◌⊎◌, inl, inr, refl, sym, ap, subst, ◌∙◌, arith}
use Rattle.std.specs.Prelude.{◌==◌, option_map}
use Rattle.std.specs.List.{filter, filter_map, list_any}
use Rattle.std.specs.FinMap.Entries.{find}
use Rattle.std.specs.Ordering.{eq_by_cmp}
use Rattle.std.proofs.lemmas.Bool.Decides.{nat_tests}
use Rattle.calc_addr.specs.declared.cell.TheConstants.{LAST_ROW}
use Rattle.calc_addr.specs.Places.{Place, Rectangle, place_cmp}
use Rattle.calc_addr.specs.Shifts.{area_after_deletion, area_after_insertion, has_all_rows, is_deleted, row_after_deletion, row_after_insertion}
use Rattle.calc_model.specs.declared.content.Content.TheVariants.{Empty}
use Rattle.calc_model.specs.declared.tree.Tree.{Tree}
use Rattle.calc_model.specs.Books.{Book, area_named, content_at, entry_named, is_formula}
use Rattle.calc_model.specs.CellEdits.{CellEntries}
use Rattle.calc_model.specs.Homes.{home_after_deletion, home_after_insertion}
use Rattle.calc_model.specs.Listeners.{ReadAreas}
use Rattle.calc_model.specs.NamedAreas.{names_after_deletion, names_after_insertion, names_on_sheet}
use Rattle.calc_model.specs.Reads.{content_areas, named_areas}
use Rattle.calc_model.specs.RowEdits.{cells_after_deletion, cells_after_insertion, is_in_rows, is_pushed_out, shifted_entry}
use Rattle.calc_model.specs.TreeShifts.{tree_after_deletion, tree_after_insertion}
use Rattle.calc_model.proofs.Places.{same_places}
use Rattle.calc_model.proofs.RowsKept.{home_is}
use Rattle.calc_model.proofs.ShiftedReads.{neither}
use Rattle.listener_hub.specs.Moves.{IsMoved, KeepsAll, deletion, insertion}
use Rattle.formula_listeners.specs.Held.{HoldsReads, areas_in}
use Rattle.formula_listeners.proofs.InRuns.{same_place}
use Rattle.formula_listeners.proofs.MovedBooks.{HasOrigin, goes_with_rows}
use Rattle.formula_listeners.proofs.MovedTrees.{GoesAlike, name_goes, tree_goes}

alike_insertion : (place count : ℕ) → GoesAlike (area_after_insertion place count)
alike_insertion place count a sheet =
    both (has_all_rows a) (nat_le (row_after_insertion place count a.first_row) LAST_ROW) a _
  where
    both : (b c : Bool) (x y : Rectangle) → cond b (Some (record x { sheet = sheet })) (cond c (Some (record y { sheet = sheet })) None) ≡ option_map {T = Rectangle} (λ z. record z { sheet = sheet }) (cond b (Some x) (cond c (Some y) None))
    both true c x y = refl
    both false true x y = refl
    both false false x y = refl

alike_deletion : (place count : ℕ) → GoesAlike (area_after_deletion place count)
alike_deletion place count a sheet =
    both (has_all_rows a) (is_deleted place count a.first_row && is_deleted place count a.last_row) a _
  where
    both : (b c : Bool) (x y : Rectangle) → cond b (Some (record x { sheet = sheet })) (cond c None (Some (record y { sheet = sheet }))) ≡ option_map {T = Rectangle} (λ z. record z { sheet = sheet }) (cond b (Some x) (cond c None (Some y)))
    both true c x y = refl
    both false true x y = refl
    both false false x y = refl

-- the row comes from one that stays, or from none
abbrev RowOrigin : (ℕ → ℕ) → (ℕ → Bool) → ℕ → Type 0
RowOrigin f off row = ((a : ℕ) × (off a ≡ false) × (f a ≡ row)) ⊎ ((a : ℕ) → off a ≡ false → f a ≡ row → ⊥)

-- cells of one sheet that go with their rows, but those that are off
module _ (f : ℕ → ℕ) (off : ℕ → Bool) (sheet : ℕ) where
  abbrev home : Place → Place
  home p = cond (p.sheet == sheet) (record p { row = f p.row }) p

  abbrev is_off : Place → Bool
  is_off p = (p.sheet == sheet) && off p.row

  sheet_stays : (p : Place) → (home p).sheet ≡ p.sheet
  sheet_stays p = ap (λ (x : Place). x.sheet) (home_is f sheet p)

  one_home : ((a b : ℕ) → off a ≡ false → off b ≡ false → f a ≡ f b → a ≡ b) → (p q : Place) → is_off p ≡ false → is_off q ≡ false → home p ≡ home q → p ≡ q
  one_home one p q stays there same =
      let e = sym (home_is f sheet p) ∙ same ∙ home_is f sheet q in
      let sheets : p.sheet ≡ q.sheet = ap (λ (x : Place). x.sheet) e in
      same_place p q sheets (ap (λ (x : Place). x.col) e)
      (rows (p.sheet == sheet) (q.sheet == sheet) p.row q.row (ap (λ s. s == sheet) sheets) stays there (ap (λ (x : Place). x.row) e))
    where
      rows : (s t : Bool) (a b : ℕ) → s ≡ t → (s && off a) ≡ false → (t && off b) ≡ false → cond s (f a) a ≡ cond t (f b) b → a ≡ b
      rows true true a b is h k same = one a b h k same
      rows true false a b is h k same = cc
      rows false true a b is h k same = cc
      rows false false a b is h k same = same

  home_origin : ((row : ℕ) → RowOrigin f off row) → (d : Place) → HasOrigin home is_off d
  home_origin rows d =
      elim (d.sheet == sheet) as (λ b. (d.sheet == sheet) ≡ b → HasOrigin home is_off d) [
        | true ↦ λ is. on_it is (rows d.row)
        | false ↦ λ is. inl (d, ap (λ b. b && off d.row) is, ap (λ b. cond b (record d { row = f d.row }) d) is)
      ] refl
    where
      on_it : (d.sheet == sheet) ≡ true → RowOrigin f off d.row → HasOrigin home is_off d
      on_it is (inl at) = inl (record d { row = at.0 }, ap (λ b. b && off at.0) is ∙ at.1, ap (λ b. cond b (record d { row = f at.0 }) (record d { row = at.0 })) is ∙ ap (λ r. record d { row = r }) at.2)
      on_it is (inr never) = inr (λ q stays same.
          let sheets : q.sheet ≡ d.sheet = sym (sheet_stays q) ∙ ap (λ (x : Place). x.sheet) same in
          let here : (q.sheet == sheet) ≡ true = ap (λ s. s == sheet) sheets ∙ is in
          never q.row (sym (ap (λ b. b && off q.row) here) ∙ stays)
          (sym (ap (λ b. cond b (f q.row) q.row) here) ∙ sym (ap (λ (x : Place). x.row) (home_is f sheet q)) ∙ ap (λ (x : Place). x.row) same))

  module _ (change : Rectangle → Option Rectangle) (alike : GoesAlike change) (old new : Book) (names_are : new.names ≡ names_on_sheet sheet change old.names) where
    named : (name : List ℕ) → named_areas (area_named new name) ≡ filter_map (λ (a : Rectangle). cond (a.sheet == sheet) (change a) (Some a)) (named_areas (area_named old name))
    named name = ap (λ entries. named_areas (entry_named entries name)) names_are ∙ name_goes sheet change alike old.names name

module _ (sheet place count : ℕ) where
  abbrev none_off : ℕ → Bool
  none_off row = false

  not_off : (p : Place) → is_off (row_after_insertion place count) none_off sheet p ≡ false
  not_off p = off (p.sheet == sheet)
    where
      off : (b : Bool) → (b && false) ≡ false
      off true = refl
      off false = refl

  insertion_one : (a b : ℕ) → row_after_insertion place count a ≡ row_after_insertion place count b → a ≡ b
  insertion_one a b same = grind (arith, nat_tests, same)

  deletion_one : (a b : ℕ) → is_deleted place count a ≡ false → is_deleted place count b ≡ false → row_after_deletion place count a ≡ row_after_deletion place count b → a ≡ b
  deletion_one a b h k same = grind (arith, nat_tests, h, k, same)

  insertion_origin : (row : ℕ) → RowOrigin (row_after_insertion place count) none_off row
  insertion_origin row =
      elim (nat_le place row) as (λ b. nat_le place row ≡ b → RowOrigin (row_after_insertion place count) none_off row) [
        | true ↦ λ low. elim (nat_le (place + count) row) as (λ b. nat_le (place + count) row ≡ b → RowOrigin (row_after_insertion place count) none_off row) [
          | true ↦ λ far. inl (row - count, refl, back low far)
          | false ↦ λ near. inr (λ a _ same. never a low near same)
        ] refl
        | false ↦ λ high. inl (row, refl, ap (λ b. cond b (row + count) row) high)
      ] refl
    where
      back : nat_le place row ≡ true → nat_le (place + count) row ≡ true → row_after_insertion place count (row - count) ≡ row
      back low far = grind (arith, nat_tests, low, far)

      never : (a : ℕ) → nat_le place row ≡ true → nat_le (place + count) row ≡ false → row_after_insertion place count a ≡ row → ⊥
      never a low near same = grind (arith, nat_tests, low, near, same)

  deletion_origin : (row : ℕ) → RowOrigin (row_after_deletion place count) (is_deleted place count) row
  deletion_origin row =
      elim (nat_lt row place) as (λ b. nat_lt row place ≡ b → RowOrigin (row_after_deletion place count) (is_deleted place count) row) [
        | true ↦ λ high. inl (row, above high, ap (λ b. cond b row (row - count)) high)
        | false ↦ λ low. inl (row + count, below low, back low)
      ] refl
    where
      above : nat_lt row place ≡ true → is_deleted place count row ≡ false
      above high = grind (arith, nat_tests, high)

      below : nat_lt row place ≡ false → is_deleted place count (row + count) ≡ false
      below low = grind (arith, nat_tests, low)

      back : nat_lt row place ≡ false → row_after_deletion place count (row + count) ≡ row
      back low = grind (arith, nat_tests, low)

  all_stay : {X : Type 0} (gone : Place → Bool) → ((p : Place) → gone p ≡ false) → (es : List (Place × X)) → filter (λ e. not (gone e.0)) es ≡ es
  all_stay gone never [] = refl
  all_stay gone never (e ∷ es) = ap (λ b. cond (not b) (e ∷ filter (λ x. not (gone x.0)) es) (filter (λ x. not (gone x.0)) es)) (never e.0) ∙ ap (λ xs. e ∷ xs) (all_stay gone never es)

  some_bare : {X : Type 0} (x y : X) → Some x ≡ Some y → x ≡ y
  some_bare x y same = ap (λ o. unwrap_or o x) same

  module _ (old new : Book) (read now : ReadAreas) where
    pub goes_inserted : new.cells ≡ cells_after_insertion sheet place count old.cells → new.names ≡ names_after_insertion sheet place count old.names → IsMoved (insertion sheet place count) read now → HoldsReads read old → HoldsReads now new
    unfolding cells_after_insertion
    goes_inserted cells_are names_are moved =
        let goes = home_after_insertion sheet place count in
        let change : Place → Tree → Tree = λ q. tree_after_insertion q sheet place count in
        let off = is_off (row_after_insertion place count) none_off sheet in
        goes_with_rows goes off change
        (one_home (row_after_insertion place count) none_off sheet (λ a b _ _. insertion_one a b))
        old new
        (cells_are ∙ ap (map (shifted_entry goes change)) (sym (all_stay off not_off old.cells)))
        (λ (a : Rectangle). cond (a.sheet == sheet) (area_after_insertion place count a) (Some a))
        (λ q _. tree_goes sheet (area_after_insertion place count) (alike_insertion place count) q (goes q) (sheet_stays (row_after_insertion place count) none_off sheet q) (area_named old) (area_named new) (named (row_after_insertion place count) none_off sheet (area_after_insertion place count) (alike_insertion place count) old new names_are))
        read now
        (home_origin (row_after_insertion place count) none_off sheet insertion_origin)
        (λ q _. moved.here q (goes q) refl)
        (λ d never. moved.elsewhere d (λ q is. never q (not_off q) (some_bare (goes q) d is)))

    pub goes_deleted : new.cells ≡ cells_after_deletion sheet place count old.cells → new.names ≡ names_after_deletion sheet place count old.names → IsMoved (deletion sheet place count) read now → HoldsReads read old → HoldsReads now new
    unfolding cells_after_deletion
    goes_deleted cells_are names_are moved =
        let goes = home_after_deletion sheet place count in
        let change : Place → Tree → Tree = λ q. tree_after_deletion q sheet place count in
        goes_with_rows goes (is_in_rows sheet place count) change
        (one_home (row_after_deletion place count) (is_deleted place count) sheet deletion_one)
        old new cells_are
        (λ (a : Rectangle). cond (a.sheet == sheet) (area_after_deletion place count a) (Some a))
        (λ q _. tree_goes sheet (area_after_deletion place count) (alike_deletion place count) q (goes q) (sheet_stays (row_after_deletion place count) (is_deleted place count) sheet q) (area_named old) (area_named new) (named (row_after_deletion place count) (is_deleted place count) sheet (area_after_deletion place count) (alike_deletion place count) old new names_are))
        read now
        (home_origin (row_after_deletion place count) (is_deleted place count) sheet deletion_origin)
        (λ q stays. moved.here q (goes q) (ap (λ b. cond b None (Some (goes q))) stays))
        (λ d never. moved.elsewhere d (λ q is. let at = came (is_in_rows sheet place count q) (goes q) d is in never q at.0 at.1))
      where
        came : (b : Bool) (x d : Place) → cond b None (Some x) ≡ Some d → (b ≡ false) × (x ≡ d)
        came true x d is = cc
        came false x d is = (refl, some_bare x d is)

  -- a cell that would be pushed past the last row holds nothing
  module _ (q : Place) (far : LAST_ROW < (home_after_insertion sheet place count q).row) where
    none_found : (es : CellEntries) → list_any (λ e. nat_lt LAST_ROW (home_after_insertion sheet place count e.0).row) es ≡ false → find place_cmp q es ≡ None
    none_found [] h = refl
    none_found (e ∷ es) h =
        let parts = neither (nat_lt LAST_ROW (home_after_insertion sheet place count e.0).row) (list_any (λ x. nat_lt LAST_ROW (home_after_insertion sheet place count x.0).row) es) h in
        skip (eq_by_cmp place_cmp q e.0) (λ is. clash (same_places q e.0 is) parts.0) (none_found es parts.1)
      where
        clash : q ≡ e.0 → nat_lt LAST_ROW (home_after_insertion sheet place count e.0).row ≡ false → ⊥
        clash is low =
            let here : nat_lt LAST_ROW (home_after_insertion sheet place count q).row ≡ false = ap (λ (p : Place). nat_lt LAST_ROW (home_after_insertion sheet place count p).row) is ∙ low in
            past (home_after_insertion sheet place count q).row far here
          where
            past : (n : ℕ) → LAST_ROW < n → nat_lt LAST_ROW n ≡ false → ⊥
            past n far low = grind (arith, nat_tests, far, low)

        skip : (b : Bool) → (b ≡ true → ⊥) → find place_cmp q es ≡ None → cond b (Some e.1) (find place_cmp q es) ≡ None
        skip true never rest = absurd (never refl)
        skip false never rest = rest

    reads_none : (book : Book) → is_pushed_out sheet place count book.cells ≡ false → areas_in book q ≡ None
    unfolding content_at
    reads_none book stays =
        ap (λ o. cond (is_formula (unwrap_or o Empty)) (Some (content_areas q (area_named book) (unwrap_or o Empty))) None) (none_found book.cells stays)

  pub keeps_all : (book : Book) (read : ReadAreas) → is_pushed_out sheet place count book.cells ≡ false → HoldsReads read book → KeepsAll (insertion sheet place count) read
  keeps_all book read stays holds q d is far =
      holds q ∙ reads_none q (subst (λ (p : Place). LAST_ROW < p.row) (sym (some_bare (home_after_insertion sheet place count q) d is)) far) book stays
