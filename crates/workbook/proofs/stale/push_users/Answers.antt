use Rattle.std.proofs.Common.{◌≡◌, ◌||◌, ◌&&◌, Bool, true, false, slice_get, Vec, Global, Some, refl, sym, ap, ◌∙◌, arith}
use Rattle.std.specs.List.{list_any}
use Rattle.std.proofs.lemmas.Option.{get_or_from_slice_get, slice_get_within}
use Rattle.calc_addr.specs.Places.{covers}
use Rattle.calc_addr.specs.declared.cell.Area.{Area}
use Rattle.calc_model.specs.Books.{content_at}
use Rattle.calc_model.specs.Stale.{is_formula_cell}
use Rattle.calc_model.specs.Touched.{CellSet}
use Rattle.workbook.specs.Touched.{uses_any}
use Rattle.workbook.proofs.NamesIn.{user_is_formula, uses_none}
use Rattle.workbook.proofs.Tests.{all_walked, no_item, one_walked, same_tests}
use Rattle.workbook.proofs.stale.push_users.Goals as goal
use Rattle.workbook.proofs.stale.push_users.Goals.{in-Some+in_ok-push_user, in_default}

or_false : (b : Bool) → (b || false) ≡ b
or_false true = refl
or_false false = refl

pub returns-then-is_empty : goal.returns-then-is_empty
returns-then-is_empty c = λ q.
    let none = c.is_empty.ensures.0 c.if-is_empty.true in
    sym (ap (λ names. list_any (λ area. covers area q) c.args.areas.now.items || uses_any names (content_at c.args.parts.now q)) none
    ∙ ap (λ b. list_any (λ area. covers area q) c.args.areas.now.items || b) (uses_none (content_at c.args.parts.now q)) ∙ or_false (list_any (λ area. covers area q) c.args.areas.now.items))

pub loop-place-preserved : goal.loop-place-preserved
loop-place-preserved c =
    let cells = c.args.formulas.now in
    let i = c.loop-place.place in
    let test : CellSet = λ q. uses_any c.args.names.now (content_at c.args.parts.now q) in
    let old : CellSet = λ q. list_any (λ area. covers area q) c.args.areas.now.items in
    elim c.match-cell.branch [
      | in-Some+in_ok-push_user w ↦
          let cell = w.in-Some.cell in
          let here : slice_get cells i ≡ Some cell = sym c.cell.ensures ∙ w.in-Some.is in
          one_walked cells test old i cell (λ q. list_any (λ area. covers area q) c.loop-place.areas.items) (λ q. list_any (λ area. covers area q) c.match-cell.areas.items)
          (slice_get_within cells i cell here) (sym (get_or_from_slice_get cells i cell cell here)) c.loop-place.invariant
          (λ q. ap (λ (v : Vec Area Global). list_any (λ area. covers area q) v.items) w.areas-is ∙ w.in_ok-push_user.ensures q)
      | in_default w ↦ absurd (no_item cells i (sym c.cell.ensures) w.in_default.not-Some (omega (arith, c.loop-place-test.true, c.len-place-end.ensures)))
    ]

pub returns : goal.returns
returns c = λ q.
    let cells = c.args.formulas.now in
    let test : CellSet = λ q. uses_any c.args.names.now (content_at c.args.parts.now q) in
    let old : CellSet = λ q. list_any (λ area. covers area q) c.args.areas.now.items in
    let alone : (has_cell user : Bool) → (user ≡ true → has_cell ≡ true) → (has_cell && user) ≡ user = λ h u f. same_tests (h && u) u (λ both. second h u both) (λ is. ap (λ b. b && u) (f is) ∙ is) in
    all_walked cells test old c.loop-place.place (λ q. list_any (λ area. covers area q) c.loop-place.areas.items) (omega (arith, c.loop-place-test.false, c.len-place-end.ensures)) c.loop-place.invariant q
    ∙ ap (λ b. old q || (b && test q)) (c.requires q)
    ∙ ap (λ b. old q || b) (alone (is_formula_cell c.args.parts.now q) (test q) (user_is_formula c.args.names.now (content_at c.args.parts.now q)))
  where
    second : (a b : Bool) → (a && b) ≡ true → b ≡ true
    second true b h = h
    second false b h = cc
