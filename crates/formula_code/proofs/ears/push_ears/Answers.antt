use Rattle.std.proofs.Common.{[], ◌∷◌, sym}
use Rattle.std.proofs.lemmas.List.{append-nil}
use Rattle.formula_code.specs.Lent.{lent}
use Rattle.formula_code.proofs.EarLists.{ears_end, ears_step, front_more}
use Rattle.formula_code.proofs.ears.push_ears.Goals as goal

pub loop-token-preserved-in-Continue-1 : goal.loop-token-preserved-in-Continue-1
loop-token-preserved-in-Continue-1 g c =
    let names = g.N.NameTable.entries c.args.names.now in (
      ears_step c.args.home names (lent c.in-Some.token) _ _ c.loop-token.out.items c.push.new.self.items _ (c.in-Some-ear_of_token.ear ∷ []) c.in-Some.ensures.steps c.in-Some-ear_of_token.ensures c.in_ok-push.ensures.items c.loop-token.invariant.0,
      front_more c.args.out.now.items c.loop-token.out.items _ c.push.new.self.items c.in_ok-push.ensures.items c.loop-token.invariant.1,
    )

pub loop-token-preserved : goal.loop-token-preserved
loop-token-preserved g c =
    let names = g.N.NameTable.entries c.args.names.now in (
      ears_step c.args.home names (lent c.in-Some.token) _ _ c.loop-token.out.items c.loop-token.out.items _ [] c.in-Some.ensures.steps c.in_default-ear_of_token.ensures (sym (append-nil c.loop-token.out.items)) c.loop-token.invariant.0,
      c.loop-token.invariant.1,
    )

pub returns-clause-ok : goal.returns-clause-ok
returns-clause-ok g c =
    ears_end c.args.home (g.N.NameTable.entries c.args.names.now) c.loop-token.tokens c.loop-token.out.items _ c.in_default.ensures.steps.0 c.loop-token.invariant.0
