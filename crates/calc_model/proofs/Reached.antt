-- Which cells reach one of some cells by reading: as many rounds as there are formulas find all of them.
use Rattle.std.proofs.Common.{◌≡◌, ℕ, zero, suc, add-zero, ◌+◌, ◌-◌, ◌≤◌, Bool, true, false, ◌&&◌, ◌||◌, List, [], ◌∷◌, refl, ap, subst, ◌∙◌, arith, ◌⊎◌, inl, inr}
use Rattle.std.proofs.lemmas.Bool.{and_from}
use Rattle.std.specs.List.{list_any}
use Rattle.std.specs.Ordering.{eq_by_cmp, is_eq}
use Rattle.std.proofs.lemmas.Cmp.{tied_itself}
use Rattle.std.specs.FinMap.Entries.{find}
use Rattle.calc_addr.specs.Places.{Place, Rectangle, place_cmp, places}
use Rattle.calc_model.specs.declared.content.Content.{Content}
use Rattle.calc_model.specs.declared.content.Content.TheVariants.{Empty, Constant, Formula, Raw}
use Rattle.calc_model.specs.Books.{Book, content_at, area_named, is_formula, formula_count}
use Rattle.calc_model.specs.Reads.{reads, content_areas}
use Rattle.calc_model.specs.Touched.{CellSet}
use Rattle.calc_model.specs.Stale.{any_cell, reaches_in, reaches, Reaches, ReachesAtAll, ReachesIndeed, is_formula_cell}
use Rattle.calc_model.proofs.Areas.{both_true}
use Rattle.calc_model.proofs.Pigeonhole.{IsFull, count, count_le, found_passes, full_round, same_counted}
use Rattle.calc_model.proofs.Rounds.{held_entry}
use Rattle.calc_model.proofs.Places.{same_places, places_total}

pub or_true : (b : Bool) → (b || true) ≡ true
or_true true = refl
or_true false = refl

-- one of two tests passes
pub either : (b c : Bool) → (b || c) ≡ true → (b ≡ true) ⊎ (c ≡ true)
either true c h = inl refl
either false c h = inr h

pub or_first : (b c : Bool) → b ≡ true → (b || c) ≡ true
or_first true c h = refl
or_first false c h = cc

pub or_second : (b c : Bool) → c ≡ true → (b || c) ≡ true
or_second b c h = ap (λ x. b || x) h ∙ or_true b

-- the item of a list that passes
pub some_item : {X : Type 0} (f : X → Bool) (xs : List X) → list_any f xs ≡ true → (x : X) × (f x ≡ true) × ((g : X → Bool) → g x ≡ true → list_any g xs ≡ true)
some_item f [] h = cc
some_item f (x ∷ xs) h =
    elim (either (f x) (list_any f xs) h) [
      | inl here ↦ (x, here, λ g e. or_first (g x) (list_any g xs) e)
      | inr later ↦ let found = some_item f xs later in (found.0, found.1, λ g e. or_second (g x) (list_any g xs) (found.2 g e))
    ]

-- the cell of some areas that passes, and which is one of their cells
pub some_cell : (f : CellSet) (areas : List Rectangle) → any_cell f areas ≡ true → (q : Place) × (f q ≡ true) × ((g : CellSet) → g q ≡ true → any_cell g areas ≡ true)
some_cell f areas h =
    let area = some_item (λ a. list_any f (places a)) areas h in
    let cell = some_item f (places area.0) area.1 in
    (cell.0, cell.1, λ g e. area.2 (λ a. list_any g (places a)) (cell.2 g e))

pub any_cell_more : (f g : CellSet) → ((q : Place) → f q ≡ true → g q ≡ true) → (areas : List Rectangle) → any_cell f areas ≡ true → any_cell g areas ≡ true
any_cell_more f g implies areas h =
    let found = some_cell f areas h in
    found.2 g (implies found.0 found.1)

pub same_cell : (q : Place) → eq_by_cmp place_cmp q q ≡ true
same_cell q = ap is_eq (tied_itself places_total q)

-- what reads a cell that passes reads one that passes
pub reads_passing : (f : CellSet) (areas : List Rectangle) (read : Place) → any_cell (eq_by_cmp place_cmp read) areas ≡ true → f read ≡ true → any_cell f areas ≡ true
reads_passing f areas read reads passes =
    any_cell_more (eq_by_cmp place_cmp read) f (λ q tied. subst (λ z. f z ≡ true) (same_places read q tied) passes) areas reads

module _ (book : Book) (cells : CellSet) where
  -- what the rounds find reaches one of the cells
  pub in_rounds : (k : ℕ) (q : Place) → reaches_in book cells k q ≡ true → Reaches book cells q
  in_rounds zero q h = Reaches.itself h
  in_rounds (suc k) q h =
      elim (either (cells q) (any_cell (reaches_in book cells k) (reads book q)) h) [
        | inl is ↦ Reaches.itself is
        | inr reads_one ↦
            let found = some_cell (reaches_in book cells k) (reads book q) reads_one in
            Reaches.by_reading (found.2 (eq_by_cmp place_cmp found.0) (same_cell found.0)) (in_rounds k found.0 found.1)
      ]

  pub once_more : (k : ℕ) (q : Place) → reaches_in book cells k q ≡ true → reaches_in book cells (suc k) q ≡ true
  once_more zero q h = or_first (cells q) (any_cell (reaches_in book cells zero) (reads book q)) h
  once_more (suc k) q h =
      elim (either (cells q) (any_cell (reaches_in book cells k) (reads book q)) h) [
        | inl is ↦ or_first (cells q) (any_cell (reaches_in book cells (suc k)) (reads book q)) is
        | inr reads_one ↦ or_second (cells q) (any_cell (reaches_in book cells (suc k)) (reads book q)) (any_cell_more (reaches_in book cells k) (reaches_in book cells (suc k)) (once_more k) (reads book q) reads_one)
      ]

  pub later : (k j : ℕ) (q : Place) → reaches_in book cells k q ≡ true → reaches_in book cells (j + k) q ≡ true
  later k zero q h = let e : k ≡ zero + k = omega arith in subst (λ n. reaches_in book cells n q ≡ true) e h
  later k (suc j) q h = let e : suc (j + k) ≡ suc j + k = omega arith in subst (λ n. reaches_in book cells n q ≡ true) e (once_more (j + k) q (later k j q h))

  -- a round that finds all that the next one does
  IsLast : ℕ → Type 0
  IsLast k = (q : Place) → reaches_in book cells (suc k) q ≡ true → reaches_in book cells k q ≡ true

  -- such a round finds whatever reaches one of the cells
  all_in_last : (k : ℕ) → IsLast k → (q : Place) → Reaches book cells q → reaches_in book cells k q ≡ true
  unfolding IsLast
  all_in_last k last q (Reaches.itself is) = subst (λ n. reaches_in book cells n q ≡ true) (add-zero k) (later 0 k q is)
  all_in_last k last q (Reaches.by_reading {read = read} reads_it reached) =
      last q (or_second (cells q) (any_cell (reaches_in book cells k) (reads book q)) (reads_passing (reaches_in book cells k) (reads book q) read reads_it (all_in_last k last read reached)))

  reads_none : (x : Content) (q : Place) → is_formula x ≡ false → content_areas q (area_named book) x ≡ []
  reads_none Empty q h = refl
  reads_none (Constant v) q h = refl
  reads_none (Formula t) q h = cc
  reads_none (Raw t) q h = refl

  -- a cell that holds no formula reaches only itself
  constant_reached : (k : ℕ) (q : Place) → is_formula_cell book q ≡ false → reaches_in book cells (suc k) q ≡ true → reaches_in book cells k q ≡ true
  constant_reached k q plain h =
      let nothing : reads book q ≡ [] = reads_none (content_at book q) q plain in
      let is : cells q ≡ true = elim (either (cells q) (any_cell (reaches_in book cells k) (reads book q)) h) [
        | inl is ↦ is
        | inr reads_one ↦ let none : false ≡ true = subst (λ areas. any_cell (reaches_in book cells k) areas ≡ true) nothing reads_one in cc
      ] in
      subst (λ n. reaches_in book cells n q ≡ true) (add-zero k) (later 0 k q is)

  -- an entry that holds a formula, which a round has found
  abbrev reached_entry : ℕ → Place × Content → Bool
  reached_entry k entry = is_formula entry.1 && reaches_in book cells k entry.0

  reached_again : (k : ℕ) (entry : Place × Content) → reached_entry k entry ≡ true → reached_entry (suc k) entry ≡ true
  reached_again k entry h = let parts = both_true _ _ h in and_from _ _ parts.0 (once_more k entry.0 parts.1)

  reached_bound : (k : ℕ) → count (reached_entry k) book.cells ≤ formula_count book
  unfolding formula_count
  reached_bound k = count_le (reached_entry k) (λ entry. is_formula entry.1) (λ entry h. (both_true _ _ h).0) book.cells

  last_of_full : (k : ℕ) → IsFull book.cells reached_entry (formula_count book) reached_bound k → IsLast k
  unfolding IsLast content_at
  last_of_full k full q h =
      elim (is_formula (content_at book q)) as (λ b. is_formula (content_at book q) ≡ b → reaches_in book cells k q ≡ true) [
        | true ↦ λ is.
            let entry = held_entry (find place_cmp q book.cells) is in
            let all = same_counted (reached_entry k) (reached_entry (suc k)) (reached_again k) book.cells full in
            let here = found_passes place_cmp same_places (λ e. reached_entry (suc k) e ≡ true → reached_entry k e ≡ true) book.cells q entry.0 all entry.1 in
            (both_true _ _ (here (and_from _ _ entry.2 h))).1
        | false ↦ λ is_not. constant_reached k q is_not h
      ] refl

  some_last : (j : ℕ) × (j ≤ formula_count book + 1) × IsLast j
  some_last = let full = full_round book.cells reached_entry (formula_count book) reached_bound in (full.0, full.1, last_of_full full.0 full.2)

-- whatever reaches one of the cells does so within the rounds of the definition
pub reaches_at_all : ReachesAtAll
unfolding reaches
reaches_at_all book cells q h =
    let last = some_last book cells in
    let rounds : ℕ = formula_count book + 1 in
    let within : last.0 ≤ formula_count book + 1 = last.1 in
    let all_rounds : (rounds - last.0) + last.0 ≡ rounds = omega arith in
    subst (λ n. reaches_in book cells n q ≡ true) all_rounds (later book cells last.0 (rounds - last.0) q (all_in_last book cells last.0 last.2 q h))

pub reaches_indeed : ReachesIndeed
unfolding reaches
reaches_indeed book cells q h = in_rounds book cells (formula_count book + 1) q h
