-- The ears of a run's first formula give what each formula of the run reads.
use Rattle.std.proofs.Common.{◌≡◌, ◌≤◌, ℕ, ◌+◌, Bool, true, false, ◌&&◌, not, cond, List, [], ◌∷◌, ◌++◌, map, length, ap, sym, ◌∙◌, refl, arith}
use Rattle.std.specs.List.{AllByRecursion, list_all, flat_map}
use Rattle.std.proofs.lemmas.Bool.{and_parts}
use Rattle.std.proofs.lemmas.List.{append-nil, map-append}
use Rattle.std.proofs.lemmas.List.Folds.{flat_map-map}
use Rattle.std.proofs.lemmas.Grind.{flat_map-append}
use Rattle.calc_addr.specs.Places.{Place, Rectangle}
use Rattle.calc_addr.specs.References.{Reference, here}
use Rattle.calc_addr.specs.ValidReferences.{is_valid_reference}
use Rattle.calc_addr.proofs.References.Tests.{tested-valid}
use Rattle.calc_model.specs.declared.looked.Looked.{Looked}
use Rattle.calc_model.specs.declared.looked.Looked.TheVariants.{Absent, Gone, At}
use Rattle.calc_model.specs.declared.tree.Tree.{Tree}
use Rattle.calc_model.specs.declared.tree.Tree.TheVariants as t
use Rattle.calc_model.specs.Books.{NameEntries, entry_named}
use Rattle.calc_model.specs.Ears.{area_at, end_at}
use Rattle.calc_model.specs.Reads.{areas, areas_step, named_areas}
use Rattle.calc_model.proofs.TreeFolds.{at-Number, at-Words, at-Bad, at-Ref, at-Name, at-Call, at-Paren, at-Plus, at-Minus, at-Percent, at-Binary}
use Rattle.calc_model.proofs.TreeInduction.{tree_ind}
use Rattle.formula_code.specs.declared.node.Node.{Node}
use Rattle.formula_code.specs.declared.node.Node.TheVariants.{Number, Words, Bad, Ref, Name, Call, Paren, Plus, Minus, Percent, Binary}
use Rattle.formula_code.specs.Codes.{Codes, IsCodeAt, form_at, tree_at}
use Rattle.formula_code.specs.Ears.{ear_of, ears, ears_of, named_ears, node_ears}
use Rattle.formula_code.specs.Homes.{rows_below}
use Rattle.formula_code.specs.Nodes.{postfix}
use Rattle.formula_code.specs.Relative.{absolute, absolute_reference, from_distance, has_rows}
use Rattle.formula_code.specs.Tokens.{absolute_node, is_valid_node}
use Rattle.formula_code.proofs.Forms.{nodes_of_tree}
use Rattle.formula_code.proofs.NodeLists.{postfix-Number, postfix-Words, postfix-Bad, postfix-Ref, postfix-Name, postfix-Call, postfix-Paren, postfix-Plus, postfix-Minus, postfix-Percent, postfix-Binary}

-- the areas of a tree are those of its nodes, in order
module _ (home : Place) (names : List ℕ → Looked) where
  abbrev node_areas : Node → List Rectangle
  node_areas (Ref r) = here r home ∷ []
  node_areas (Name name) = named_areas (names name)
  node_areas node = []

  abbrev IsListed : Tree → Type 0
  IsListed x = areas home names x ≡ flat_map node_areas (postfix x)

  behind : (x y : Tree) (node : Node) → areas home names y ≡ areas home names x → postfix y ≡ postfix x ++ node ∷ [] → node_areas node ≡ [] → IsListed x → IsListed y
  behind x y node same nodes none is =
      same ∙ is
      ∙ sym (ap (flat_map node_areas) nodes
      ∙ flat_map-append node_areas (postfix x) (node ∷ [])
      ∙ ap (λ more. flat_map node_areas (postfix x) ++ (more ++ [])) none
      ∙ append-nil (flat_map node_areas (postfix x)))

  lists : (xs : List Tree) → AllByRecursion IsListed xs → flat_map (areas home names) xs ≡ flat_map node_areas (flat_map postfix xs)
  lists [] known = refl
  lists (x ∷ xs) known =
      ap (λ first. first ++ flat_map (areas home names) xs) known.0
      ∙ ap (λ rest. flat_map node_areas (postfix x) ++ rest) (lists xs known.1)
      ∙ sym (flat_map-append node_areas (postfix x) (flat_map postfix xs))

  listed : (x : Tree) → IsListed x
  listed = tree_ind IsListed (record {
    number = λ n. rw (at-Number _ (areas_step home names) n, postfix-Number n);
    words = λ text. rw (at-Words _ (areas_step home names) text, postfix-Words text);
    bad = λ fault. rw (at-Bad _ (areas_step home names) fault, postfix-Bad fault);
    reference = λ r. rw (at-Ref _ (areas_step home names) r, postfix-Ref r);
    name = λ name. rw (at-Name _ (areas_step home names) name, postfix-Name name) (sym (append-nil (named_areas (names name))));
    call = λ name args known.
        rw (at-Call _ (areas_step home names) name args, postfix-Call name args)
        (flat_map-map (λ (found : List Rectangle). found) (areas home names) args
        ∙ lists args known
        ∙ sym (flat_map-append node_areas (flat_map postfix args) (Call name (length args) ∷ []) ∙ append-nil (flat_map node_areas (flat_map postfix args))));
    paren = λ x is. behind x (t.Paren x) _ (at-Paren _ (areas_step home names) x) (postfix-Paren x) refl is;
    plus = λ x is. behind x (t.Plus x) _ (at-Plus _ (areas_step home names) x) (postfix-Plus x) refl is;
    minus = λ x is. behind x (t.Minus x) _ (at-Minus _ (areas_step home names) x) (postfix-Minus x) refl is;
    percent = λ x is. behind x (t.Percent x) _ (at-Percent _ (areas_step home names) x) (postfix-Percent x) refl is;
    binary = λ op x y left right.
        rw (at-Binary _ (areas_step home names) op x y, postfix-Binary op x y)
        (ap (λ first. first ++ areas home names y) left
        ∙ ap (λ rest. flat_map node_areas (postfix x) ++ rest) right
        ∙ sym (flat_map-append node_areas (postfix x ++ postfix y) (Binary op ∷ []) ∙ append-nil (flat_map node_areas (postfix x ++ postfix y)) ∙ flat_map-append node_areas (postfix x) (postfix y)));
  })

-- an end so many rows below
end_below : (moves : Bool) (last home distance to : ℕ) → 1 ≤ from_distance moves last home to → end_at moves (from_distance moves last home to) distance ≡ from_distance moves last (home + distance) to
end_below true last home distance to inside = omega (arith, inside)
end_below false last home distance to inside = refl

-- an area on its own sheet or that of the formula, so many rows below
area_below : (written : Bool) (a : Rectangle) (sheet distance : ℕ) (first last : Bool) (f l : ℕ) → end_at first a.first_row distance ≡ f → end_at last a.last_row distance ≡ l → area_at (record { area = cond written a (record a { sheet = sheet }); first_moves = first; last_moves = last }) distance ≡ cond written (record a { first_row = f; last_row = l }) (record a { sheet = sheet; first_row = f; last_row = l })
area_below true a sheet distance first last f l up down =
    ap (λ n. record a { first_row = n; last_row = end_at last a.last_row distance }) up ∙ ap (λ n. record a { first_row = f; last_row = n }) down
area_below false a sheet distance first last f l up down =
    ap (λ n. record a { sheet = sheet; first_row = n; last_row = end_at last a.last_row distance }) up ∙ ap (λ n. record a { sheet = sheet; first_row = f; last_row = n }) down

pub reference_reads : (home : Place) (distance : ℕ) (r : Reference) → is_valid_reference (absolute_reference home r) ≡ true → area_at (ear_of home (absolute_reference home r)) distance ≡ here (absolute_reference (rows_below home distance) r) (rows_below home distance)
reference_reads home distance r valid =
    let lies = (tested-valid (absolute_reference home r) valid).lies in
    area_below r.marks.sheet (absolute_reference home r).area home.sheet distance (has_rows r.span && not r.marks.first_row) (has_rows r.span && not r.marks.last_row) _ _
    (end_below (has_rows r.span && not r.marks.first_row) 1048576 home.row distance r.area.first_row lies.rows_from)
    (end_below (has_rows r.span && not r.marks.last_row) 1048576 home.row distance r.area.last_row (omega (arith, lies.rows_from, lies.rows_in_order)))

name_reads : (distance : ℕ) (looked : Looked) → map (λ ear. area_at ear distance) (named_ears looked) ≡ named_areas looked
name_reads distance Absent = refl
name_reads distance Gone = refl
name_reads distance (At area) = refl

-- one node of a form, at its first row and so many rows below
node_reads : (home : Place) (distance : ℕ) (names : NameEntries) (node : Node) → is_valid_node (absolute_node home node) ≡ true → map (λ ear. area_at ear distance) (node_ears home names (absolute_node home node)) ≡ node_areas (rows_below home distance) (entry_named names) (absolute_node (rows_below home distance) node)
node_reads home distance names (Ref r) valid = ap (λ area. area ∷ []) (reference_reads home distance r valid)
node_reads home distance names (Name name) valid = name_reads distance (entry_named names name)
node_reads home distance names (Number n) valid = refl
node_reads home distance names (Words text) valid = refl
node_reads home distance names (Bad fault) valid = refl
node_reads home distance names (Call name args) valid = refl
node_reads home distance names Paren valid = refl
node_reads home distance names Plus valid = refl
node_reads home distance names Minus valid = refl
node_reads home distance names Percent valid = refl
node_reads home distance names (Binary op) valid = refl

nodes_read : (home : Place) (distance : ℕ) (names : NameEntries) (nodes : List Node) → list_all is_valid_node (map (absolute_node home) nodes) ≡ true → map (λ ear. area_at ear distance) (ears_of home names (map (absolute_node home) nodes)) ≡ flat_map (node_areas (rows_below home distance) (entry_named names)) (map (absolute_node (rows_below home distance)) nodes)
unfolding ears_of
nodes_read home distance names [] valid = refl
nodes_read home distance names (node ∷ nodes) valid =
    let both = and_parts (is_valid_node (absolute_node home node)) (list_all is_valid_node (map (absolute_node home) nodes)) valid in
    let later = flat_map (node_areas (rows_below home distance) (entry_named names)) (map (absolute_node (rows_below home distance)) nodes) in
    map-append (λ ear. area_at ear distance) (node_ears home names (absolute_node home node)) (ears_of home names (map (absolute_node home) nodes))
    ∙ ap (λ rest. map (λ ear. area_at ear distance) (node_ears home names (absolute_node home node)) ++ rest) (nodes_read home distance names nodes both.1)
    ∙ ap (λ first. first ++ later) (node_reads home distance names node both.0)

pub ears_give_reads : (codes : Codes) (id distance : ℕ) (home : Place) (names : NameEntries) → IsCodeAt codes id home → map (λ ear. area_at ear distance) (ears home names (tree_at codes id home)) ≡ areas (rows_below home distance) (entry_named names) (tree_at codes id (rows_below home distance))
ears_give_reads codes id distance home names at =
    let form = form_at codes id in
    let below = rows_below home distance in
    let valid : list_all is_valid_node (map (absolute_node home) (postfix form)) ≡ true = ap (list_all is_valid_node) (nodes_of_tree home form) ∙ at.valid in
    ap (λ nodes. map (λ ear. area_at ear distance) (ears_of home names nodes)) (sym (nodes_of_tree home form))
    ∙ nodes_read home distance names (postfix form) valid
    ∙ ap (flat_map (node_areas below (entry_named names))) (nodes_of_tree below form)
    ∙ sym (listed below (entry_named names) (absolute below form))
