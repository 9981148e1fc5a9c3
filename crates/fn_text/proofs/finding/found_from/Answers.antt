use Rattle.std.proofs.Common.{ap, sym, ◌∙◌, arith}
use Rattle.std.specs.Str.{chars}
use Rattle.calc_model.specs.Texts.{counted_or_none}
use Rattle.fn_text.proofs.Occurring.{place-found, place-missed}
use Rattle.fn_text.proofs.finding.found_from.Goals as goal

pub returns-in-None : goal.returns-in-None
returns-in-None c =
    sym (ap counted_or_none (place-missed (chars c.args.sought.now) (chars c.args.words.now) (chars c.behind.result.now) c.args.start c.requires c.behind.ensures.characters (c.in-None.ensures {u = tt})))

pub returns-in-Some : goal.returns-in-Some
returns-in-Some c =
    c.counted.ensures ∙ sym (ap counted_or_none (place-found (chars c.args.sought.now) (chars c.args.words.now) (chars c.behind.result.now) c.args.start c.requires c.behind.ensures.characters c.in-Some.count (c.in-Some.ensures {u = tt}) (omega (arith, c.if-start-char_count.false, c.char_count.ensures))))
