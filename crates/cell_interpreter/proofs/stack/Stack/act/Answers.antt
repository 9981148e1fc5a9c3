use Rattle.std.proofs.Common.{rules, refl, subst, sym, ap, ◌∙◌, arith}
use Rattle.calc_model.specs.Books.{entry_named}
use Rattle.calc_model.specs.Meanings.{meaning_of_area, scalar_alone}
use Rattle.calc_model.specs.Operators.{hundredth, negated}
use Rattle.std.specs.Prelude.{Some, ◌∷◌}
use Rattle.formula_code.specs.Lent.{lent}
use Rattle.formula_code.specs.declared.node.Node.TheVariants as node
use Rattle.cell_interpreter.specs.declared.operand.Operand.TheVariants as operand
use Rattle.cell_interpreter.specs.declared.scalar.Scalar.TheVariants as scalar
use Rattle.cell_interpreter.specs.Machine.{Acts, CanAct}
use Rattle.cell_interpreter.proofs.Acting.{calls, needs_args, needs_one, needs_two, pushes, replaces_top, replaces_two}
use Rattle.cell_interpreter.proofs.stack.Stack.act.Goals as goal

pub call-requires : goal.call-requires
call-requires g c =
    let home = c.args.home in
    let values = g.V.Values.values c.args.values.now in
    let names = entry_named (g.N.NameTable.entries c.args.names.now) in
    let old = c.args.self.now.operands.items in
    (search rules, (c.requires.room, needs_args home names values c.in-Call.name.now c.in-Call.args old (subst (λ t. CanAct home names values (lent t) old) c.in-Call.is c.requires.there)))

pub pop-operand-requires : goal.pop-operand-requires
pop-operand-requires g c =
    let home = c.args.home in
    let values = g.V.Values.values c.args.values.now in
    let names = entry_named (g.N.NameTable.entries c.args.names.now) in
    let old = c.args.self.now.operands.items in
    (search rules, needs_one home names values node.Plus old refl (subst (λ t. CanAct home names values (lent t) old) c.in-Plus.is c.requires.there))

pub pop-operand-requires-in-Minus : goal.pop-operand-requires-in-Minus
pop-operand-requires-in-Minus g c =
    let home = c.args.home in
    let values = g.V.Values.values c.args.values.now in
    let names = entry_named (g.N.NameTable.entries c.args.names.now) in
    let old = c.args.self.now.operands.items in
    (search rules, needs_one home names values node.Minus old refl (subst (λ t. CanAct home names values (lent t) old) c.in-Minus.is c.requires.there))

pub pop-operand-requires-in-Percent : goal.pop-operand-requires-in-Percent
pop-operand-requires-in-Percent g c =
    let home = c.args.home in
    let values = g.V.Values.values c.args.values.now in
    let names = entry_named (g.N.NameTable.entries c.args.names.now) in
    let old = c.args.self.now.operands.items in
    (search rules, needs_one home names values node.Percent old refl (subst (λ t. CanAct home names values (lent t) old) c.in-Percent.is c.requires.there))

pub pop-right-requires : goal.pop-right-requires
pop-right-requires g c =
    let home = c.args.home in
    let values = g.V.Values.values c.args.values.now in
    let names = entry_named (g.N.NameTable.entries c.args.names.now) in
    let old = c.args.self.now.operands.items in
    let two = needs_two home names values c.in-Binary.op old (subst (λ t. CanAct home names values (lent t) old) c.in-Binary.is c.requires.there) in
    (search rules, omega arith)

pub pop-left-requires : goal.pop-left-requires
pop-left-requires g c =
    let home = c.args.home in
    let values = g.V.Values.values c.args.values.now in
    let names = entry_named (g.N.NameTable.entries c.args.names.now) in
    let old = c.args.self.now.operands.items in
    let two = needs_two home names values c.in-Binary.op old (subst (λ t. CanAct home names values (lent t) old) c.in-Binary.is c.requires.there) in
    (search rules, omega (arith, c.pop-right.ensures.shorter))

pub returns-in-Number-clause-acted : goal.returns-in-Number-clause-acted
returns-in-Number-clause-acted g c =
    let home = c.args.home in
    let values = g.V.Values.values c.args.values.now in
    let names = entry_named (g.N.NameTable.entries c.args.names.now) in
    let old = c.args.self.now.operands.items in
    subst (λ t. Acts home names values (lent t) old c.push.new.self.operands.items) (sym c.in-Number.is)
    (pushes home names values (node.Number c.in-Number.number) old _ (operand.Scalar (scalar.Number c.in-Number.number)) c.push.ensures.items (λ _. refl))

pub returns-in-Words-clause-acted : goal.returns-in-Words-clause-acted
returns-in-Words-clause-acted g c =
    let home = c.args.home in
    let values = g.V.Values.values c.args.values.now in
    let names = entry_named (g.N.NameTable.entries c.args.names.now) in
    let old = c.args.self.now.operands.items in
    subst (λ t. Acts home names values (lent t) old c.push-in-Words.new.self.operands.items) (sym c.in-Words.is)
    (pushes home names values (node.Words c.in-Words.text.now) old _ (operand.Scalar (scalar.Lent c.in-Words.text)) c.push-in-Words.ensures.items (λ _. refl))

pub returns-in-Bad-clause-acted : goal.returns-in-Bad-clause-acted
returns-in-Bad-clause-acted g c =
    let home = c.args.home in
    let values = g.V.Values.values c.args.values.now in
    let names = entry_named (g.N.NameTable.entries c.args.names.now) in
    let old = c.args.self.now.operands.items in
    subst (λ t. Acts home names values (lent t) old c.push-in-Bad.new.self.operands.items) (sym c.in-Bad.is)
    (pushes home names values (node.Bad c.in-Bad.fault) old _ (operand.Scalar (scalar.Bad c.in-Bad.fault)) c.push-in-Bad.ensures.items (λ _. refl))

pub returns-in-Ref-clause-acted : goal.returns-in-Ref-clause-acted
returns-in-Ref-clause-acted g c =
    let home = c.args.home in
    let values = g.V.Values.values c.args.values.now in
    let names = entry_named (g.N.NameTable.entries c.args.names.now) in
    let old = c.args.self.now.operands.items in
    subst (λ t. Acts home names values (lent t) old c.push-in-Ref.new.self.items) (sym c.in-Ref.is)
    (pushes home names values (node.Ref c.in-Ref.reference) old _ (operand.Area c.here.result) c.push-in-Ref.ensures.items (λ stack. ap (λ area. Some (meaning_of_area home values area ∷ stack)) (sym c.here.ensures)))

pub returns-in-Name-clause-acted : goal.returns-in-Name-clause-acted
returns-in-Name-clause-acted g c =
    let home = c.args.home in
    let values = g.V.Values.values c.args.values.now in
    let names = entry_named (g.N.NameTable.entries c.args.names.now) in
    let old = c.args.self.now.operands.items in
    subst (λ t. Acts home names values (lent t) old c.push-in-Name.new.self.items) (sym c.in-Name.is)
    (pushes home names values (node.Name c.in-Name.name.now) old _ c.of_name.result c.push-in-Name.ensures.items (λ stack. ap (λ meaning. Some (meaning ∷ stack)) (sym (c.of_name.ensures home values))))

pub returns-in_ok-call-in-Call-clause-acted : goal.returns-in_ok-call-in-Call-clause-acted
returns-in_ok-call-in-Call-clause-acted g c =
    let home = c.args.home in
    let values = g.V.Values.values c.args.values.now in
    let names = entry_named (g.N.NameTable.entries c.args.names.now) in
    let old = c.args.self.now.operands.items in
    subst (λ t. Acts home names values (lent t) old c.call.new.self.operands.items) (sym c.in-Call.is)
    (calls home names values c.in-Call.name.now c.in-Call.args old _ (needs_args home names values c.in-Call.name.now c.in-Call.args old (subst (λ t. CanAct home names values (lent t) old) c.in-Call.is c.requires.there)) c.in_ok-call-in-Call.ensures.called)

pub returns-in-Plus-clause-acted : goal.returns-in-Plus-clause-acted
returns-in-Plus-clause-acted g c =
    let home = c.args.home in
    let values = g.V.Values.values c.args.values.now in
    let names = entry_named (g.N.NameTable.entries c.args.names.now) in
    let old = c.args.self.now.operands.items in
    subst (λ t. Acts home names values (lent t) old c.push-in-Plus.new.self.operands.items) (sym c.in-Plus.is)
    (replaces_top home names values node.Plus old _ _ c.pop-operand.result c.pop-operand.result c.pop-operand.ensures c.push-in-Plus.ensures.items (λ top stack e. ap (λ v. Some (scalar_alone v ∷ stack)) (sym e)))

pub returns-in-Minus-clause-acted : goal.returns-in-Minus-clause-acted
returns-in-Minus-clause-acted g c =
    let home = c.args.home in
    let values = g.V.Values.values c.args.values.now in
    let names = entry_named (g.N.NameTable.entries c.args.names.now) in
    let old = c.args.self.now.operands.items in
    subst (λ t. Acts home names values (lent t) old c.push-in-Minus.new.self.operands.items) (sym c.in-Minus.is)
    (replaces_top home names values node.Minus old _ _ c.pop-operand-in-Minus.result c.negated.result c.pop-operand-in-Minus.ensures c.push-in-Minus.ensures.items (λ top stack e. ap (λ v. Some (scalar_alone v ∷ stack)) (ap negated (sym e) ∙ sym c.negated.ensures)))

pub returns-in-Percent-clause-acted : goal.returns-in-Percent-clause-acted
returns-in-Percent-clause-acted g c =
    let home = c.args.home in
    let values = g.V.Values.values c.args.values.now in
    let names = entry_named (g.N.NameTable.entries c.args.names.now) in
    let old = c.args.self.now.operands.items in
    subst (λ t. Acts home names values (lent t) old c.push-in-Percent.new.self.operands.items) (sym c.in-Percent.is)
    (replaces_top home names values node.Percent old _ _ c.pop-operand-in-Percent.result c.hundredth.result c.pop-operand-in-Percent.ensures c.push-in-Percent.ensures.items (λ top stack e. ap (λ v. Some (scalar_alone v ∷ stack)) (ap hundredth (sym e) ∙ sym c.hundredth.ensures)))

pub returns-in_ok-binary-in-Binary-clause-acted : goal.returns-in_ok-binary-in-Binary-clause-acted
returns-in_ok-binary-in-Binary-clause-acted g c =
    let home = c.args.home in
    let values = g.V.Values.values c.args.values.now in
    let names = entry_named (g.N.NameTable.entries c.args.names.now) in
    let old = c.args.self.now.operands.items in
    subst (λ t. Acts home names values (lent t) old c.push-in-Binary.new.self.operands.items) (sym c.in-Binary.is)
    (replaces_two home names values c.in-Binary.op old _ _ _ c.pop-right.result c.pop-left.result _ c.pop-right.ensures c.pop-left.ensures c.push-in-Binary.ensures.items c.in_ok-binary-in-Binary.ensures)
