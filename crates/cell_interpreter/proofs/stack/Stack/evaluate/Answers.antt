use Rattle.std.proofs.Common.{rules}
use Rattle.calc_model.specs.Books.{entry_named}
use Rattle.formula_code.specs.Lent.{lent}
use Rattle.cell_interpreter.proofs.Running.{begins, evaluated, goes_on, one_is_left, stays_under_way}
use Rattle.cell_interpreter.proofs.stack.Stack.evaluate.Goals as goal

pub loop-token-init : goal.loop-token-init
loop-token-init g c =
    begins c.args.home (entry_named (g.N.NameTable.entries c.args.names.now)) (g.V.Values.values c.args.values.now) g.row.SIZE c.args.tokens _ _ (search rules) c.requires.empty c.requires.room

pub act-requires : goal.act-requires
act-requires g c =
    (search rules, goes_on c.args.home (entry_named (g.N.NameTable.entries c.args.names.now)) (g.V.Values.values c.args.values.now) g.row.SIZE c.args.tokens _ _ (lent c.in-Some.token) _ c.loop-token.invariant c.requires.formula c.in-Some.ensures.steps)

pub loop-token-preserved : goal.loop-token-preserved
loop-token-preserved g c =
    stays_under_way c.args.home (entry_named (g.N.NameTable.entries c.args.names.now)) (g.V.Values.values c.args.values.now) g.row.SIZE c.args.tokens _ _ (lent c.in-Some.token) _ _ c.loop-token.invariant c.in-Some.ensures.steps c.in_ok-act.ensures.acted c.in_ok-act.ensures.grown

pub pop-requires : goal.pop-requires
pop-requires g c =
    (search rules, one_is_left c.args.home (entry_named (g.N.NameTable.entries c.args.names.now)) (g.V.Values.values c.args.values.now) g.row.SIZE c.args.tokens _ _ c.loop-token.invariant c.requires.formula c.in-None.ensures.steps.0)

pub returns : goal.returns
returns g c =
    evaluated c.args.home (entry_named (g.N.NameTable.entries c.args.names.now)) (g.V.Values.values c.args.values.now) g.row.SIZE c.args.tokens _ _ _ _ c.loop-token.invariant c.in-None.ensures.steps.0 c.pop.ensures
