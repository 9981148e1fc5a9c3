use Rattle.std.proofs.Common.{◌≡◌, [], ap, refl, subst, sym, ◌∙◌}
use Rattle.std.proofs.lemmas.Result.{IfOk-weaker}
use Rattle.calc_addr.specs.Places.{IsPlace}
use Rattle.calc_model.specs.TreeShifts.{replaced}
use Rattle.calc_model.specs.Formed.{is_formed}
use Rattle.formula_code.specs.Building.{built}
use Rattle.calc_model.specs.Changes.{changed}
use Rattle.formula_code.specs.Codes.{Changes, Codes, IsInterned, form_at, tree_at, used_again}
use Rattle.formula_code.specs.Relative.{relative}
use Rattle.formula_code.proofs.TableLemmas.{interned}
use Rattle.formula_code.proofs.Built.{built_whole, only_built}
use Rattle.calc_model.proofs.FormedShifts.{changed_is_formed}
use Rattle.formula_code.proofs.table.CodeTable.intern_changed.Goals as goal

pub build-requires-clause-whole : goal.build-requires-clause-whole
build-requires-clause-whole c =
    let by = changed c.args.change c.args.home in
    (_, ap (λ nodes. built by nodes []) c.tokens_at-tokens.ensures.nodes ∙ built_whole by (tree_at c.args.self.now c.args.id c.args.home))

pub intern-requires-clause-formed : goal.intern-requires-clause-formed
intern-requires-clause-formed c =
    let by = changed c.args.change c.args.home in
    let tree = tree_at c.args.self.now c.args.id c.args.home in
    let is = only_built by c.tokens_at-tokens.result tree c.in_ok-tree.tree c.tokens_at-tokens.ensures.nodes c.in_ok-tree.ensures in
    ap is_formed is ∙ changed_is_formed c.args.change c.args.home tree c.requires.change c.tokens_at-tokens.ensures.formed

pub returns-clause-interned : goal.returns-clause-interned
returns-clause-interned c =
    let by = changed c.args.change c.args.home in
    let tree = tree_at c.args.self.now c.args.id c.args.home in
    let is = only_built by c.tokens_at-tokens.result tree c.in_ok-tree.tree c.tokens_at-tokens.ensures.nodes c.in_ok-tree.ensures in
    IfOk-weaker c.intern.result _ _ (λ id as_built. subst (λ x. IsInterned c.args.self.now c.intern.new.self c.args.to x id) is as_built) c.intern.ensures.interned

pub returns-then-stays-clause-interned : goal.returns-then-stays-clause-interned
returns-then-stays-clause-interned c =
    let by = changed c.args.change c.args.home in
    let tree = tree_at c.args.self.now c.args.id c.args.home in
    let lies : IsPlace c.args.to = subst IsPlace c.to.view_is c.to.invariant in
    let formed = changed_is_formed c.args.change c.args.home tree c.requires.change c.tokens_at-tokens.ensures.formed in
    let number : c.number-then-stays.result ≡ c.args.id = c.number-then-stays.ensures.value in
    let same : form_at c.args.self.now c.number-then-stays.result ≡ relative c.args.to (replaced by tree) = ap (form_at c.args.self.now) number ∙ sym (c.if-stays.ensures refl) in
    let Changed : Codes → Type 0 = λ codes. Changes codes c.use_again.new.self c.number-then-stays.result (used_again codes c.number-then-stays.result (form_at codes c.number-then-stays.result)) in
    let changes = subst Changed c.self.view_is c.use_again.ensures.changes in
    subst (IsInterned c.args.self.now c.use_again.new.self c.args.to (replaced by tree)) (sym c.use_again.ensures.id)
    (interned _ _ _ c.args.to (replaced by tree) _ lies formed changes same (λ _. same))
