use Rattle.std.proofs.Common.{◌≡◌, List, ◌∷◌, [], ◌++◌, Some, None, option_copied, map, length, ap, sym, ◌∙◌}
use Rattle.calc_model.proofs.TreeFolds.{at-Call, at-Paren, at-Plus, at-Minus, at-Percent, at-Binary}
use Rattle.std.specs.List.{flat_map}
use Rattle.std.proofs.lemmas.List.{drop_all, length-map}
use Rattle.formula_code.specs.Building.{relative_nodes}
use Rattle.formula_code.specs.declared.node.Node.{Node}
use Rattle.formula_code.specs.declared.node.Node.TheVariants.{Call, Paren, Plus, Minus, Percent, Binary}
use Rattle.formula_code.specs.Stripping.{Strips}
use Rattle.formula_code.proofs.Strips.{lists_from, strips_then, strips_not}
use Rattle.formula_code.proofs.matching.+matching.Goals as goal
use Rattle.formula_code.proofs.matching.+matching.Goals.{strip-in-Some, strip-in-None}

pub strip-returns-in-Paren : goal.strip-returns-in-Paren
strip-returns-in-Paren t c =
    let nodes_of = relative_nodes c.args.home in
    let is : nodes_of c.args.tree.now ≡ nodes_of c.get.result.now ++ Paren ∷ [] = ap nodes_of c.in-Paren.is ∙ at-Paren _ _ c.in-Paren.child ∙ ap (λ x. nodes_of x ++ Paren ∷ []) (sym c.get.ensures) in
    rw is (c.strip_behind-in-Paren.ensures _ _ c.strip.ensures)

pub strip-returns-in-Plus : goal.strip-returns-in-Plus
strip-returns-in-Plus t c =
    let nodes_of = relative_nodes c.args.home in
    let is : nodes_of c.args.tree.now ≡ nodes_of c.get-in-Plus.result.now ++ Plus ∷ [] = ap nodes_of c.in-Plus.is ∙ at-Plus _ _ c.in-Plus.child ∙ ap (λ x. nodes_of x ++ Plus ∷ []) (sym c.get-in-Plus.ensures) in
    rw is (c.strip_behind-in-Plus.ensures _ _ c.strip-in-Plus.ensures)

pub strip-returns-in-Minus : goal.strip-returns-in-Minus
strip-returns-in-Minus t c =
    let nodes_of = relative_nodes c.args.home in
    let is : nodes_of c.args.tree.now ≡ nodes_of c.get-in-Minus.result.now ++ Minus ∷ [] = ap nodes_of c.in-Minus.is ∙ at-Minus _ _ c.in-Minus.child ∙ ap (λ x. nodes_of x ++ Minus ∷ []) (sym c.get-in-Minus.ensures) in
    rw is (c.strip_behind-in-Minus.ensures _ _ c.strip-in-Minus.ensures)

pub strip-returns-in-Percent : goal.strip-returns-in-Percent
strip-returns-in-Percent t c =
    let nodes_of = relative_nodes c.args.home in
    let is : nodes_of c.args.tree.now ≡ nodes_of c.get-in-Percent.result.now ++ Percent ∷ [] = ap nodes_of c.in-Percent.is ∙ at-Percent _ _ c.in-Percent.child ∙ ap (λ x. nodes_of x ++ Percent ∷ []) (sym c.get-in-Percent.ensures) in
    rw is (c.strip_behind-in-Percent.ensures _ _ c.strip-in-Percent.ensures)

pub strip-returns-in-Call : goal.strip-returns-in-Call
strip-returns-in-Call t c =
    let nodes_of = relative_nodes c.args.home in
    let args = c.as_slice-args.result.now in
    let same : args ≡ c.in-Call.args = c.as_slice-args.ensures in
    let is : nodes_of c.args.tree.now ≡ flat_map (λ (nodes : List Node). nodes) (map nodes_of args) ++ Call c.in-Call.name (length args) ∷ [] =
    ap nodes_of c.in-Call.is
    ∙ at-Call _ _ c.in-Call.name c.in-Call.args
    ∙ ap (λ n. flat_map (λ (nodes : List Node). nodes) (map nodes_of c.in-Call.args) ++ Call c.in-Call.name n ∷ []) (length-map c.in-Call.args nodes_of)
    ∙ ap (λ xs. flat_map (λ (nodes : List Node). nodes) (map nodes_of xs) ++ Call c.in-Call.name (length xs) ∷ []) (sym same) in
    rw is (c.strip_behind.ensures _ _ c.strip_all.ensures)

pub strip-returns-after-strip : goal.strip-returns-after-strip
strip-returns-after-strip t c =
    let nodes_of = relative_nodes c.args.home in
    let is : nodes_of c.args.tree.now ≡ nodes_of c.get-in-Binary.result.now ++ nodes_of c.in-Binary.right ++ Binary c.in-Binary.op ∷ [] =
    ap nodes_of c.in-Binary.is ∙ at-Binary _ _ c.in-Binary.op c.in-Binary.left c.in-Binary.right ∙ ap (λ x. nodes_of x ++ nodes_of c.in-Binary.right ++ Binary c.in-Binary.op ∷ []) (sym c.get-in-Binary.ensures) in
    let both : Strips (nodes_of c.get-in-Binary.result.now ++ nodes_of c.in-Binary.right) c.args.nodes.now (option_copied c.match-strip.rest) =
    elim c.match-strip.branch [
      | strip-in-Some w ↦ rw w.rest-is (strips_then _ _ _ w.in-Some.rest.now _ w.in-Some.ensures (rw w.get-in-Some.ensures at w.strip-rest.ensures))
      | strip-in-None w ↦ rw w.rest-is (strips_not _ _ _ w.in-None.ensures)
    ] in
    rw is (c.strip_behind-in-Binary.ensures _ _ both)

pub strip_all-returns-in-None : goal.strip_all-returns-in-None
strip_all-returns-in-None t c = c.loop-tree.invariant None
    (rw (lists_from (relative_nodes c.args.home) c.args.trees.now c.loop-tree.tree-index c.tree-item.result c.loop-tree-test.true c.tree-item.is)
    (strips_not _ _ _ (c.in-None.ensures)))

pub strip_all-loop-tree-preserved : goal.strip_all-loop-tree-preserved
strip_all-loop-tree-preserved t c = λ o rest. c.loop-tree.invariant o
    (rw (lists_from (relative_nodes c.args.home) c.args.trees.now c.loop-tree.tree-index c.tree-item.result c.loop-tree-test.true c.tree-item.is)
    (strips_then _ _ _ c.in-Some.after.now o c.in-Some.ensures rest))

pub strip_all-returns : goal.strip_all-returns
strip_all-returns t c = c.loop-tree.invariant (Some c.loop-tree.rest.now)
    (rw (drop_all c.loop-tree.tree-index c.args.trees.now c.loop-tree-test.false))
