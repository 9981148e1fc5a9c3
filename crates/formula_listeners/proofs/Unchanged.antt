-- Edits that leave what formulas read: of cells outside an area, and of names that none of them uses.
use Rattle.std.proofs.Common.{◌≡◌, ℕ, Bool, true, false, cond, List, Option, None, Some, refl, sym, ap, ◌∙◌}
use Rattle.calc_addr.specs.Places.{Place, Rectangle, covers}
use Rattle.calc_model.specs.declared.tree.Tree.{Tree}
use Rattle.calc_model.specs.declared.content.Content.{Content}
use Rattle.calc_model.specs.declared.content.Content.TheVariants.{Empty, Constant, Formula, Raw}
use Rattle.calc_model.specs.Books.{Book, NameEntries, content_at, entry_named, is_formula}
use Rattle.calc_model.specs.Listeners.{ReadAreas}
use Rattle.calc_model.specs.NamedAreas.{with_name, without_name}
use Rattle.calc_model.specs.Reads.{areas, content_areas, reads}
use Rattle.calc_model.specs.UsedNames.{uses_name}
use Rattle.calc_model.proofs.NamedReads.{named_reads, unnamed_reads}
use Rattle.formula_listeners.specs.Held.{HoldsOutside, HoldsReads, areas_in}

abbrev reads_of : Place → NameEntries → Content → Option (List Rectangle)
reads_of q names x = cond (is_formula x) (Some (content_areas q (entry_named names) x)) None

-- the other of two choices
other : {X : Type 0} (b : Bool) (u x y : X) → (b ≡ false → x ≡ y) → cond b u x ≡ cond b u y
other true u x y same = refl
other false u x y same = same refl

pub still_outside : (book after : Book) (area : Rectangle) (read : ReadAreas) → after.names ≡ book.names → ((q : Place) → covers area q ≡ false → content_at after q ≡ content_at book q) → HoldsOutside area read book → HoldsOutside area read after
still_outside book after area read names same holds q =
    holds q
    ∙ other (covers area q) None (areas_in book q) (areas_in after q)
    (λ out. ap (λ entries. reads_of q entries (content_at book q)) (sym names) ∙ ap (reads_of q after.names) (sym (same q out)))

pub none_inside : (book : Book) (area : Rectangle) (read : ReadAreas) → ((q : Place) → covers area q ≡ true → is_formula (content_at book q) ≡ false) → HoldsOutside area read book → HoldsReads read book
none_inside book area read none holds q = holds q ∙ whole (covers area q) (is_formula (content_at book q)) (reads book q) (none q)
  where
    whole : {X : Type 0} (b f : Bool) (x : X) → (b ≡ true → f ≡ false) → cond b None (cond f (Some x) None) ≡ cond f (Some x) None
    whole true true x is = let clash : true ≡ false = is refl in cc
    whole true false x is = refl
    whole false f x is = refl

module _ (name : List ℕ) (names changed : NameEntries) (same : (q : Place) (tree : Tree) → uses_name name (Formula tree) ≡ false → areas q (entry_named changed) tree ≡ areas q (entry_named names) tree) where
  same_reads : (q : Place) (x : Content) → uses_name name x ≡ false → reads_of q names x ≡ reads_of q changed x
  same_reads q Empty unused = refl
  same_reads q (Constant value) unused = refl
  same_reads q (Formula tree) unused = ap Some (sym (same q tree unused))
  same_reads q (Raw text) unused = refl

  still_held : (book after : Book) (read : ReadAreas) → after.cells ≡ book.cells → book.names ≡ names → after.names ≡ changed → ((q : Place) → uses_name name (content_at book q) ≡ false) → HoldsReads read book → HoldsReads read after
  unfolding content_at
  still_held book after read cells was is unused holds q =
      holds q
      ∙ ap (λ entries. reads_of q entries (content_at book q)) was
      ∙ same_reads q (content_at book q) (unused q)
      ∙ ap (λ entries. reads_of q entries (content_at book q)) (sym is)
      ∙ ap (λ es. reads_of q after.names (content_at (record { cells = es; names = book.names }) q)) (sym cells)

pub still_named : (book after : Book) (name : List ℕ) (area : Rectangle) (read : ReadAreas) → after.cells ≡ book.cells → after.names ≡ with_name book.names name area → ((q : Place) → uses_name name (content_at book q) ≡ false) → HoldsReads read book → HoldsReads read after
still_named book after name area read cells is = still_held name book.names (with_name book.names name area) (λ q tree. named_reads q book.names name area tree) book after read cells refl is

pub still_unnamed : (book after : Book) (name : List ℕ) (read : ReadAreas) → after.cells ≡ book.cells → after.names ≡ without_name book.names name → ((q : Place) → uses_name name (content_at book q) ≡ false) → HoldsReads read book → HoldsReads read after
still_unnamed book after name read cells is = still_held name book.names (without_name book.names name) (λ q tree. unnamed_reads q book.names name tree) book after read cells refl is
