use Rattle.std.proofs.Common.{Ok, [], ◌∷◌, ap, map, sym, ◌∙◌}
use Rattle.std.proofs.lemmas.List.{map-append}
use Rattle.fn_args.specs.Lent.{words_in, words_lent}
use Rattle.fn_text.proofs.Joining.{no-text, one-text}
use Rattle.fn_text.proofs.joins.texts.Goals as goal

pub returns-in-Err : goal.returns-in-Err
returns-in-Err g c =
    no-text c.args.home (g.V.Values.values c.args.values.now) c.args.args.now c.loop-arg.arg-index c.arg-item.result c.loop-arg-test.true c.arg-item.is _ c.loop-arg.invariant c.in-Err.fault
    (ap words_lent (sym c.in-Err.is) ∙ c.in_ok-fault.ensures {u = tt})

pub loop-arg-preserved : goal.loop-arg-preserved
loop-arg-preserved g c =
    one-text c.args.home (g.V.Values.values c.args.values.now) c.args.args.now c.loop-arg.arg-index c.arg-item.result c.loop-arg-test.true c.arg-item.is _ c.loop-arg.invariant (words_in c.in-Ok.words)
    (ap words_lent (sym c.in-Ok.is) ∙ c.in_ok-fault.ensures {u = tt})
    ∙ ap Ok (sym (ap (map words_in) c.in_ok-push-in-Ok.ensures.items ∙ map-append words_in c.loop-arg.parts.items (c.in-Ok.words ∷ [])))
