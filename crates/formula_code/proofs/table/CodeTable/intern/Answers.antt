use Rattle.std.proofs.Common.{IsSome, refl, subst, sym, ◌∙◌}
use Rattle.calc_addr.specs.Places.{IsPlace}
use Rattle.formula_code.specs.Codes.{Codes, IsInterned}
use Rattle.formula_code.proofs.TableLemmas.{interned}
use Rattle.formula_code.proofs.table.CodeTable.intern.Goals as goal
use Rattle.formula_code.proofs.table.CodeTable.intern.Goals.{in-Some, in-None+in_ok-id-in-None}

pub returns-then-has_form-clause-interned : goal.returns-then-has_form-clause-interned
returns-then-has_form-clause-interned c =
    let lies : IsPlace c.args.home = subst IsPlace c.home.view_is c.home.invariant in
    let same = (c.if-has_form.ensures.0 refl).same in
    subst (IsInterned c.args.self.now c.use_again.new.self c.args.home c.args.tree.now) (sym c.use_again.ensures.id)
    (interned _ _ _ c.args.home c.args.tree.now _ lies c.requires.formed c.use_again.ensures.changes same (λ _. same))

pub returns-clause-interned : goal.returns-clause-interned
returns-clause-interned c =
    let lies : IsPlace c.args.home = subst IsPlace c.home.view_is c.home.invariant in
    let In : Codes → Type 0 = λ codes. IsInterned c.args.self.now codes c.args.home c.args.tree.now c.match-find.id in
    elim c.match-find.branch [
      | in-Some w ↦
          let same = w.in-Some.ensures.found.same in
          subst In (sym (c.self-2.view_is ∙ w.self-is))
          (subst (IsInterned c.args.self.now w.use_again-id.new.self c.args.home c.args.tree.now) (sym (w.id-is ∙ w.use_again-id.ensures.id))
          (interned _ _ _ c.args.home c.args.tree.now _ lies c.requires.formed w.use_again-id.ensures.changes same (λ _. same)))
      | in-None+in_ok-id-in-None w ↦
          let vacant = w.in_ok-id-in-None.ensures.new in
          subst In (sym (c.self-2.view_is ∙ w.self-is))
          (subst (IsInterned c.args.self.now w.add.new.self c.args.home c.args.tree.now) (sym w.id-is)
          (interned _ _ _ c.args.home c.args.tree.now _ lies c.requires.formed w.in_ok-id-in-None.ensures.changes refl (λ live. let none = subst IsSome vacant live in cc)))
    ]
