-- What is left behind the nodes of one form and then another.
use Rattle.std.proofs.Common.{◌≡◌, ◌<◌, ℕ, suc, ◌+◌, List, ◌++◌, map, drop, length, get_or, Option, Some, None, ap, sym, ◌∙◌, arith}
use Rattle.std.proofs.lemmas.List.{append_assoc, append_cancel_left}
use Rattle.std.proofs.Math.Seq.{drop-cons}
use Rattle.std.specs.List.{flat_map}
use Rattle.calc_model.specs.declared.tree.Tree.{Tree}
use Rattle.formula_code.specs.declared.node.Node.{Node}
use Rattle.formula_code.specs.Stripping.{Strips}

pub strips_then : (a b nodes middle : List Node) (o : Option (List Node)) → Strips a nodes (Some middle) → Strips b middle o → Strips (a ++ b) nodes o
strips_then a b nodes middle (Some rest) first second = first ∙ ap (λ ns. a ++ ns) second ∙ sym (append_assoc a b rest)
strips_then a b nodes middle None first second = λ rest is. second rest (append_cancel_left a middle (b ++ rest) (sym first ∙ is ∙ append_assoc a b rest))

pub strips_not : (a b nodes : List Node) → Strips a nodes None → Strips (a ++ b) nodes None
strips_not a b nodes not_first = λ rest is. not_first (b ++ rest) (is ∙ append_assoc a b rest)

-- the lists of the trees from one place on
pub lists_from : (f : Tree → List Node) (trees : List Tree) (i : ℕ) (x : Tree) → i < length trees → x ≡ get_or trees i x → flat_map (λ (nodes : List Node). nodes) (map f (drop i trees)) ≡ f x ++ flat_map (λ (nodes : List Node). nodes) (map f (drop (i + 1) trees))
lists_from f trees i x inside is =
    let listed = λ (xs : List Tree). flat_map (λ (nodes : List Node). nodes) (map f xs) in
    let next : suc i ≡ i + 1 = omega arith in
    ap listed (drop-cons trees i x inside)
    ∙ ap (λ y. f y ++ listed (drop (suc i) trees)) (sym is)
    ∙ ap (λ n. f x ++ listed (drop n trees)) next
