-- The formula of one cell, and what it reads.
use Rattle.std.proofs.Common.{◌≡◌, ℕ, true, cond, List, Option, None, Some, sym, ap, subst, ◌∙◌, arith}
use Rattle.calc_addr.specs.Places.{Place, Rectangle, Rows, covers, single}
use Rattle.calc_model.specs.declared.tree.Tree.{Tree}
use Rattle.calc_model.specs.declared.content.Content.TheVariants.{Formula}
use Rattle.calc_model.specs.Books.{Book, NameEntries, content_at, entry_named, is_formula}
use Rattle.calc_model.specs.Listeners.{ReadAreas}
use Rattle.calc_model.specs.Reads.{areas, content_areas}
use Rattle.formula_code.specs.Codes.{Codes, tree_at}
use Rattle.formula_code.specs.Coded.{areas_by_code}
use Rattle.registration_slab.specs.Slab.{is_in}
use Rattle.formula_listeners.specs.Held.{HoldsOutside, HoldsReads, areas_in}
use Rattle.formula_listeners.proofs.BookReads.{whole}
use Rattle.formula_listeners.proofs.InRuns.{lies_in, same_place, single_is, under}

abbrev pub row_of : Place → Rows
row_of cell = record { sheet = cell.sheet; col = cell.col; first = cell.row; last = cell.row }

the_cell : (cell q : Place) → is_in (row_of cell) q ≡ true → q ≡ cell
the_cell cell q h =
    let at = lies_in (row_of cell) q h in
    same_place q cell at.sheet at.col (omega (arith, at.from, at.to))

module _ (names : NameEntries) (cell : Place) (tree : Tree) where
  abbrev read : Option (List Rectangle)
  read = Some (areas cell (entry_named names) tree)

  pub single_reads : (codes : Codes) (id : ℕ) → tree_at codes id cell ≡ tree → (q : Place) (o : Option (List Rectangle)) → cond (is_in (row_of cell) q) (Some (areas_by_code codes names q id)) o ≡ cond (covers (single cell) q) read o
  single_reads codes id is q o =
      under (is_in (row_of cell) q) (Some (areas_by_code codes names q id)) read o (λ h.
      ap (λ p. Some (areas_by_code codes names p id)) (the_cell cell q h)
      ∙ ap (λ t. Some (areas cell (entry_named names) t)) is)
      ∙ ap (λ b. cond b read o) (single_is cell q)

  -- a hub that held all but the cell, and holds its formula now
  pub holds_cell : (book : Book) → book.names ≡ names → content_at book cell ≡ Formula tree → (old new : ReadAreas) → ((q : Place) → new q ≡ cond (covers (single cell) q) read (old q)) → HoldsOutside (single cell) old book → HoldsReads new book
  holds_cell book named there old new is outside q =
      is q
      ∙ ap (λ o. cond (covers (single cell) q) read o) (outside q)
      ∙ whole (covers (single cell) q) read (areas_in book q) (λ h. here (the_cell cell q (single_is cell q ∙ h)))
    where
      here : q ≡ cell → read ≡ areas_in book q
      here e =
          subst (λ p. read ≡ areas_in book p) (sym e)
          (ap (λ entries. Some (areas cell (entry_named entries) tree)) (sym named)
          ∙ sym (ap (λ x. cond (is_formula x) (Some (content_areas cell (entry_named book.names) x)) None) there))
