-- What the formulas of a book read, by their codes.
use Rattle.std.proofs.Common.{◌≡◌, ℕ, Bool, true, false, cond, List, Option, None, Some, unwrap_or, refl, sym, ap, ◌∙◌}
use Rattle.std.specs.Option.{option_map}
use Rattle.calc_addr.specs.Places.{IsPlace, Place, Rectangle}
use Rattle.calc_model.specs.declared.tree.Tree.{Tree}
use Rattle.calc_model.specs.declared.content.Content.{Content}
use Rattle.calc_model.specs.declared.content.Content.TheVariants.{Empty, Constant, Formula, Raw}
use Rattle.calc_model.specs.Books.{Book, NameEntries, content_at, entry_named, is_formula}
use Rattle.calc_model.specs.Reads.{areas, content_areas}
use Rattle.formula_code.specs.Codes.{Codes, tree_at}
use Rattle.formula_code.specs.Coded.{AreFormulasOf, CodeColumns, areas_by_code, code_of, coded_areas, formula_in}
use Rattle.formula_listeners.specs.Held.{areas_in}

pub whole : {X : Type 0} (b : Bool) (u v : Option X) → (b ≡ true → u ≡ v) → cond b u (cond b None v) ≡ v
whole true u v same = same refl
whole false u v same = refl

module _ (codes : Codes) (names : NameEntries) (q : Place) where
  abbrev content_reads : Content → Option (List Rectangle)
  content_reads x = cond (is_formula x) (Some (content_areas q (entry_named names) x)) None

  none_coded : (o : Option ℕ) → None ≡ option_map (λ id. tree_at codes id q) o → option_map (areas_by_code codes names q) o ≡ None
  none_coded None same = refl
  none_coded (Some id) same = cc

  pub content_coded : (x : Content) (o : Option ℕ) → formula_in x ≡ option_map (λ id. tree_at codes id q) o → option_map (areas_by_code codes names q) o ≡ content_reads x
  content_coded (Formula tree) None same = cc
  content_coded (Formula tree) (Some id) same = ap (λ (t : Option Tree). Some (areas q (entry_named names) (unwrap_or t tree))) (sym same)
  content_coded Empty o same = none_coded o same
  content_coded (Constant value) o same = none_coded o same
  content_coded (Raw text) o same = none_coded o same

module _ (codes : Codes) (names : NameEntries) (columns : CodeColumns) (book : Book) (are : AreFormulasOf codes columns book) (named : book.names ≡ names) where
  -- what a cell of the book reads, by its code
  pub book_reads : (q : Place) → IsPlace q → coded_areas codes names columns q ≡ areas_in book q
  book_reads q place =
      content_coded codes names q (content_at book q) (code_of columns q) (are q place)
      ∙ ap (λ entries. content_reads codes entries q (content_at book q)) (sym named)
