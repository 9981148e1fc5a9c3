use Rattle.std.proofs.Common.{◌≡◌, ◌+◌, ◌∙◌, ap, drop, length, subst, sym, arith, rules}
use Rattle.std.specs.Char.{len_utf8}
use Rattle.std.specs.Str.{IsCharBoundary}
use Rattle.std.proofs.lemmas.Str.{IsCharBoundary-past_char, drop_past_char}
use Rattle.fn_text.proofs.Splitting.{IsPast, at_end, at_start, past_one, used_up}
use Rattle.fn_text.proofs.characters.behind.Goals as goal

pub loop-init : goal.loop-init
loop-init c = at_start c.args.text.now c.utf8.text

pub chars-requires-text-self : goal.chars-requires-text-self
chars-requires-text-self c = λ κs. c.loop.invariant.valid

pub returns-text : goal.returns-text
returns-text c = c.loop.invariant.valid

pub returns-in-None : goal.returns-in-None
returns-in-None c =
    used_up c.args.text.now c.loop.counter c.args.count c.loop.rest.now (omega (arith, c.loop-test.true)) (ap length (sym c.chars.ensures.rest) ∙ (c.in-None.ensures {u = tt}).steps.0.0) c.loop.invariant

pub returns : goal.returns
returns c =
    let all : c.loop.counter ≡ c.args.count = omega (arith, c.loop.auto.counter-end, c.loop-test.false) in
    at_end c.args.text.now c.args.count c.loop.rest.now (subst (λ n. IsPast c.args.text.now n c.loop.rest.now) all c.loop.invariant)

pub range_from-rest-requires : goal.range_from-rest-requires
range_from-rest-requires c =
    let e = sym c.chars.ensures.rest ∙ (c.in-Some.ensures {u = tt}).steps.0 in
    let len : 0 + len_utf8 c.in-Some.first ≡ c.len_utf8.result = omega (arith, c.len_utf8.ensures.value) in
    let there = subst (IsCharBoundary c.loop.rest.now) len (IsCharBoundary-past_char c.loop.rest.now c.next.new.self.rest.now 0 c.in-Some.first (omega arith) c.loop.invariant.valid e) in
    search (rules, there)

pub loop-preserved : goal.loop-preserved
loop-preserved c =
    let e = sym c.chars.ensures.rest ∙ (c.in-Some.ensures {u = tt}).steps.0 in
    let len : c.len_utf8.result ≡ 0 + len_utf8 c.in-Some.first = omega (arith, c.len_utf8.ensures.value) in
    subst (IsPast c.args.text.now (c.loop.counter + 1)) (sym (c.range_from-rest.ensures.value ∙ ap (λ n. drop n c.loop.rest.now) len ∙ drop_past_char c.loop.rest.now c.next.new.self.rest.now 0 c.in-Some.first e))
    (past_one c.args.text.now c.loop.counter c.loop.rest.now c.next.new.self.rest.now c.in-Some.first c.loop.invariant e)
