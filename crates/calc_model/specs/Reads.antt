-- What a formula reads: the areas of all references that are written in it, in order of writing, each
-- defined name replaced by its area. A name that isn't defined or whose area was deleted, and a deleted
-- reference, give none. Branches that are never taken count.
use Rattle.std.specs.Prelude.{ℕ, List, [], ◌∷◌, ◌++◌}
use Rattle.std.specs.List.{flat_map}
use Rattle.calc_addr.specs.Places.{Place, Rectangle}
use Rattle.calc_addr.specs.References.{here}
use Rattle.calc_model.specs.declared.tree.Tree.{Tree}
use Rattle.calc_model.specs.declared.tree.Tree.TheOpen.{Tree-F}
use Rattle.calc_model.specs.declared.tree.Tree.TheFolds.{fold-Tree}
use Rattle.calc_model.specs.declared.content.Content.{Content}
use Rattle.calc_model.specs.declared.content.Content.TheVariants.{Formula}
use Rattle.calc_model.specs.declared.looked.Looked.{Looked}
use Rattle.calc_model.specs.declared.looked.Looked.TheVariants.{At}
use Rattle.calc_model.specs.Books.{Book, content_at, area_named}

-- what each name stands for
abbrev pub Names : Type 0
Names = List ℕ → Looked

abbrev pub named_areas : Looked → List Rectangle
named_areas (At area) = area ∷ []
named_areas _ = []

module _ (home : Place) (names : Names) where
  -- the areas of a node, from those of its children
  abbrev pub areas_step : Tree-F (List Rectangle) → List Rectangle
  areas_step (Tree-F.Ref reference) = here reference home ∷ []
  areas_step (Tree-F.Name name) = named_areas (names name)
  areas_step (Tree-F.Call name args) = flat_map (λ areas. areas) args
  areas_step (Tree-F.Paren areas) = areas
  areas_step (Tree-F.Plus areas) = areas
  areas_step (Tree-F.Minus areas) = areas
  areas_step (Tree-F.Percent areas) = areas
  areas_step (Tree-F.Binary op left right) = left ++ right
  areas_step _ = []

  -- the areas that a tree at home reads
  abbrev pub areas : Tree → List Rectangle
  areas = fold-Tree (List Rectangle) areas_step

abbrev pub content_areas : Place → Names → Content → List Rectangle
content_areas home names (Formula tree) = areas home names tree
content_areas home names _ = []

-- the areas that a cell of a book reads
abbrev pub reads : Book → Place → List Rectangle
reads book cell = content_areas cell (area_named book) (content_at book cell)
