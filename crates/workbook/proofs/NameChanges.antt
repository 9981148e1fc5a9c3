-- What edits of names leave: the formulas that don't use the name read what they read. And what a set of names has with
-- one more.
use Rattle.std.proofs.Common.{◌≡◌, ℕ, Bool, true, false, ◌||◌, ◌&&◌, List, [], ◌∷◌, map, refl, sym, ap, subst, ◌∙◌}
use Rattle.std.specs.List.{list_any}
use Rattle.std.specs.Ordering.{eq_by_cmp, is_eq, match_ordering}
use Rattle.std.specs.declared.cmp.Ordering.TheVariants.{Less, Equal, Greater}
use Rattle.std.specs.BTreeSet.{insert_key}
use Rattle.std.specs.Str.{str_to_ascii_uppercase}
use Rattle.calc_addr.specs.Places.{Place, Rectangle}
use Rattle.calc_model.specs.declared.content.Content.{Content}
use Rattle.calc_model.specs.declared.content.Content.TheVariants.{Empty, Constant, Formula, Raw}
use Rattle.calc_model.specs.declared.edit.Edit.TheVariants.{Make, Name, Unname}
use Rattle.calc_model.specs.declared.tree.Tree.{Tree}
use Rattle.calc_model.specs.Books.{NameEntries, area_named, content_at, entry_named, is_formula}
use Rattle.calc_model.specs.NamedAreas.{name_cmp, with_name, without_name}
use Rattle.calc_model.specs.Reads.{areas, reads}
use Rattle.calc_model.specs.Stale.{Reaches, is_formula_cell, reaches}
use Rattle.calc_model.specs.Touched.{CellSet, users}
use Rattle.calc_model.specs.UsedNames.{is_same_name, names_in, uses_name}
use Rattle.calc_model.proofs.NamedReads.{exact_names, named_reads, unnamed_reads}
use Rattle.calc_model.proofs.Reached.{or_true, reaches_at_all}
use Rattle.workbook.proofs.Tests.{same_tests}
use Rattle.workbook.specs.Touched.{has_name, is_touched, lies_in, uses_any}
use Rattle.workbook.specs.Workbook.{Stales, State, stale_of}
use Rattle.workbook.proofs.RowChanges.{reads_by_names}
use Rattle.workbook.proofs.Sets.{list_any-or}
use Rattle.workbook.proofs.Staleness.{all_stale, stale_joined}

pub not_false : (b : Bool) → (b ≡ false → ⊥) → b ≡ true
not_false true isnt = refl
not_false false isnt = absurd (isnt refl)

-- tests that agree pass alike
list_any-same : {X : Type 0} (f g : X → Bool) → ((x : X) → f x ≡ g x) → (xs : List X) → list_any f xs ≡ list_any g xs
list_any-same f g same [] = refl
list_any-same f g same (x ∷ xs) = ap (λ b. b || list_any f xs) (same x) ∙ ap (λ b. g x || b) (list_any-same f g same xs)

-- a name more is used by the formulas that use it
pub uses_one_more : (old now : List (List ℕ)) (name : List ℕ) → ((other : List ℕ) → has_name now other ≡ (has_name old other || is_same_name name other)) → (content : Content) → uses_any now content ≡ (uses_any old content || uses_name name content)
uses_one_more old now name more Empty = refl
uses_one_more old now name more (Constant value) = refl
uses_one_more old now name more (Formula tree) =
    list_any-same (has_name now) (λ other. has_name old other || is_same_name name other) more (names_in tree)
    ∙ list_any-or (has_name old) (is_same_name name) (names_in tree)
uses_one_more old now name more (Raw text) = refl

or_assoc : (a b c : Bool) → (a || (b || c)) ≡ ((a || b) || c)
or_assoc true b c = refl
or_assoc false b c = refl

-- a book whose names alone change, where formulas that don't use a name read what they read
module _ (before after : State) (name : List ℕ) (entries : NameEntries) (cells : after.book.cells ≡ before.book.cells) (names : after.book.names ≡ entries) (trees : (home : Place) (tree : Tree) → list_any (is_same_name name) (names_in tree) ≡ false → areas home (entry_named entries) tree ≡ areas home (area_named before.book) tree) (lies : (q : Place) → lies_in after.touched q ≡ lies_in before.touched q) (more : (other : List ℕ) → has_name after.touched.names other ≡ (has_name before.touched.names other || is_same_name name other)) where
  same_content : (q : Place) → content_at after.book q ≡ content_at before.book q
  unfolding content_at
  same_content q = ap (λ es. content_at (record after.book { cells = es }) q) cells

  abbrev used : CellSet
  used = users after.book name

  joined : (q : Place) → is_touched after.book after.touched q ≡ (is_touched before.book before.touched q || used q)
  joined q =
      ap (λ b. b || uses_any after.touched.names (content_at after.book q)) (lies q)
      ∙ ap (λ b. lies_in before.touched q || b) (uses_one_more before.touched.names after.touched.names name more (content_at after.book q))
      ∙ or_assoc (lies_in before.touched q) (uses_any before.touched.names (content_at after.book q)) (used q)
      ∙ ap (λ content. (lies_in before.touched q || uses_any before.touched.names content) || used q) (same_content q)

  same_reads : (q : Place) → used q ≡ false → reads after.book q ≡ reads before.book q
  same_reads q apart =
      reads_by_names before.book after.book entries q names (same_content q)
      (λ tree holds. trees q tree (ap (uses_name name) (sym (same_content q ∙ holds)) ∙ apart))

  pub name_stale : (q : Place) → stale_of after q ≡ (is_formula_cell after.book q && (stale_of before q || reaches after.book used q))
  unfolding stale_of
  name_stale q =
      stale_joined before.book after.book (is_touched before.book before.touched) used (is_touched after.book after.touched) same_reads (λ p _. ap is_formula (same_content p)) joined q

pub defined_stale : (before after : State) (name : List ℕ) (area : Rectangle) → after.book.cells ≡ before.book.cells → after.book.names ≡ with_name before.book.names name area → ((q : Place) → lies_in after.touched q ≡ lies_in before.touched q) → ((other : List ℕ) → has_name after.touched.names other ≡ (has_name before.touched.names other || is_same_name name other)) → Stales before (Name name area) after
defined_stale before after name area cells names =
    name_stale before after name (with_name before.book.names name area) cells names (λ home tree. named_reads home before.book.names name area tree)

pub removed_stale : (before after : State) (name : List ℕ) → after.book.cells ≡ before.book.cells → after.book.names ≡ without_name before.book.names name → ((q : Place) → lies_in after.touched q ≡ lies_in before.touched q) → ((other : List ℕ) → has_name after.touched.names other ≡ (has_name before.touched.names other || is_same_name name other)) → Stales before (Unname name) after
removed_stale before after name cells names =
    name_stale before after name (without_name before.book.names name) cells names (λ home tree. unnamed_reads home before.book.names name tree)

-- with every cell touched, each formula is stale, whatever was before
pub generated_stale : (before after : State) (start rows : ℕ) → ((q : Place) → lies_in after.touched q ≡ true) → Stales before (Make start rows) after
generated_stale before after start rows all q =
    all_stale after all q
    ∙ sym (ap (λ b. is_formula_cell after.book q && (stale_of before q || b)) (reaches_at_all after.book (λ _. true) q (Reaches.itself refl))
    ∙ ap (λ b. is_formula_cell after.book q && b) (or_true (stale_of before q)) ∙ and_true (is_formula_cell after.book q))
  where
    and_true : (b : Bool) → (b && true) ≡ b
    and_true true = refl
    and_true false = refl

-- one more key among texts
or_swapped : (a b : Bool) → (a || b) ≡ (b || a)
or_swapped true true = refl
or_swapped true false = refl
or_swapped false true = refl
or_swapped false false = refl

or_again : (a b : Bool) → (a || b) ≡ ((a || b) || a)
or_again true b = refl
or_again false true = refl
or_again false false = refl

-- keys in the order of their bytes, and one more
module _ {K : Type 0} (bytes : K → List ℕ) where
  has_one_more : (keys : List K) (key : K) (other : List ℕ) → list_any (eq_by_cmp name_cmp other) (map bytes (insert_key (λ x y. name_cmp (bytes x) (bytes y)) keys key)) ≡ (list_any (eq_by_cmp name_cmp other) (map bytes keys) || eq_by_cmp name_cmp other (bytes key))
  has_one_more [] key other = or_swapped (eq_by_cmp name_cmp other (bytes key)) false
  has_one_more (k ∷ ks) key other =
      let here = eq_by_cmp name_cmp other (bytes k) in
      let rest = list_any (eq_by_cmp name_cmp other) (map bytes ks) in
      let new = eq_by_cmp name_cmp other (bytes key) in
      elim (name_cmp (bytes key) (bytes k)) as (λ o. name_cmp (bytes key) (bytes k) ≡ o → list_any (eq_by_cmp name_cmp other) (map bytes (match_ordering o (key ∷ k ∷ ks) (k ∷ ks) (k ∷ insert_key (λ x y. name_cmp (bytes x) (bytes y)) ks key))) ≡ ((here || rest) || new)) [
        | Less ↦ λ _. or_swapped new (here || rest)
        | Equal ↦ λ tied.
            let same : bytes key ≡ bytes k = exact_names.alone (bytes key) (bytes k) (ap is_eq tied) in
            or_again here rest ∙ ap (λ b. (here || rest) || eq_by_cmp name_cmp other b) (sym same)
        | Greater ↦ λ _. ap (λ b. here || b) (has_one_more ks key other) ∙ or_assoc here rest new
      ] refl

  turned_name : (name other : List ℕ) → eq_by_cmp name_cmp name other ≡ eq_by_cmp name_cmp other name
  turned_name name other = same_tests _ _ (turn name other) (turn other name)
    where
      turn : (a b : List ℕ) → eq_by_cmp name_cmp a b ≡ true → eq_by_cmp name_cmp b a ≡ true
      turn a b tied = subst (λ c. eq_by_cmp name_cmp c a ≡ true) (exact_names.alone a b tied) (exact_names.itself a)

  pub name_joins : (keys : List K) (key : K) (name : List ℕ) → bytes key ≡ str_to_ascii_uppercase name → (other : List ℕ) → has_name (map bytes (insert_key (λ x y. name_cmp (bytes x) (bytes y)) keys key)) other ≡ (has_name (map bytes keys) other || is_same_name name other)
  name_joins keys key name is other =
      has_one_more keys key (str_to_ascii_uppercase other)
      ∙ ap (λ b. has_name (map bytes keys) other || b)
      (ap (eq_by_cmp name_cmp (str_to_ascii_uppercase other)) is ∙ turned_name (str_to_ascii_uppercase other) (str_to_ascii_uppercase name))

  pub any_key : (test : List ℕ → Bool) (keys : List K) → list_any (λ key. test (bytes key)) keys ≡ list_any test (map bytes keys)
  any_key test [] = refl
  any_key test (k ∷ ks) = ap (λ b. test (bytes k) || b) (any_key test ks)
