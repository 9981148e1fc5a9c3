-- Which formulas use a name: those with a node of that name, whatever the case of its ASCII letters. The name of a
-- call is none.
use Rattle.std.specs.Prelude.{ℕ, Bool, false, List, [], ◌∷◌, ◌++◌}
use Rattle.std.specs.List.{flat_map, list_any}
use Rattle.std.specs.Ordering.{eq_by_cmp}
use Rattle.std.specs.Str.{str_to_ascii_uppercase}
use Rattle.calc_model.specs.declared.tree.Tree.{Tree}
use Rattle.calc_model.specs.declared.tree.Tree.TheOpen.{Tree-F}
use Rattle.calc_model.specs.declared.tree.Tree.TheFolds.{fold-Tree}
use Rattle.calc_model.specs.declared.content.Content.{Content}
use Rattle.calc_model.specs.declared.content.Content.TheVariants.{Formula}
use Rattle.calc_model.specs.NamedAreas.{name_cmp}

-- the names of a node, from those of its children
abbrev pub names_step : Tree-F (List (List ℕ)) → List (List ℕ)
names_step (Tree-F.Name name) = name ∷ []
names_step (Tree-F.Call name args) = flat_map (λ names. names) args
names_step (Tree-F.Paren child) = child
names_step (Tree-F.Plus child) = child
names_step (Tree-F.Minus child) = child
names_step (Tree-F.Percent child) = child
names_step (Tree-F.Binary op left right) = left ++ right
names_step _ = []

-- the names of a tree, in order of writing
unfoldable pub names_in : Tree → List (List ℕ)
names_in = fold-Tree (List (List ℕ)) names_step

abbrev pub is_same_name : List ℕ → List ℕ → Bool
is_same_name name other = eq_by_cmp name_cmp (str_to_ascii_uppercase name) (str_to_ascii_uppercase other)

abbrev pub uses_name : List ℕ → Content → Bool
uses_name name (Formula tree) = list_any (is_same_name name) (names_in tree)
uses_name name _ = false
