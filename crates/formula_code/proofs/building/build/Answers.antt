use Rattle.std.proofs.Common.{rules, ◌∷◌, [], ap, reverse, sym, ◌∙◌, Some}
use Rattle.std.proofs.lemmas.List.{reverse-append}
use Rattle.formula_code.specs.Building.{built}
use Rattle.calc_model.specs.Changes.{changed}
use Rattle.formula_code.specs.Lent.{lent}
use Rattle.formula_code.proofs.Built.{cons, end_whole, finds_children, last_is, one_left}
use Rattle.formula_code.proofs.building.build.Goals as goal

pub tree_of-requires-clause-children : goal.tree_of-requires-clause-children
tree_of-requires-clause-children c =
    let by = changed c.args.change c.args.home in
    finds_children by (lent c.in-Some.token) c.next.new.self (reverse c.loop-token.trees.items) (c.requires.whole.0 ∷ [])
    (ap (λ nodes. built by nodes (reverse c.loop-token.trees.items)) (sym c.in-Some.ensures.steps) ∙ c.loop-token.invariant ∙ c.requires.whole.1)

pub loop-token-preserved : goal.loop-token-preserved
loop-token-preserved c =
    let by = changed c.args.change c.args.home in
    ap (built by c.next.new.self) (ap reverse c.in_ok-push.ensures.items ∙ reverse-append c.tree_of.new.trees.items (c.in_ok-tree.tree ∷ []))
    ∙ sym (cons by (lent c.in-Some.token) c.next.new.self (reverse c.loop-token.trees.items) _ c.in_ok-tree.ensures)
    ∙ ap (λ nodes. built by nodes (reverse c.loop-token.trees.items)) (sym c.in-Some.ensures.steps)
    ∙ c.loop-token.invariant

pub unreachable-requires : goal.unreachable-requires
unreachable-requires c =
    let one = end_whole (changed c.args.change c.args.home) c.loop-token.tokens c.args.tokens c.loop-token.trees.items c.requires.whole.0 c.in_default.ensures.steps.0 c.loop-token.invariant c.requires.whole.1 in
    one_left c.loop-token.trees.items c.requires.whole.0 (search rules) one

pub returns : goal.returns
returns c =
    let one = end_whole (changed c.args.change c.args.home) c.loop-token.tokens c.args.tokens c.loop-token.trees.items c.requires.whole.0 c.in_default.ensures.steps.0 c.loop-token.invariant c.requires.whole.1 in
    let same = last_is c.pop.new.self.items c.loop-token.trees.items c.in-Some-pop.tree c.requires.whole.0 c.in-Some-pop.ensures.items one in
    c.requires.whole.1 ∙ ap (λ x. Some (x ∷ [])) (sym same)
