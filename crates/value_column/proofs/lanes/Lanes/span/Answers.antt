use Rattle.std.proofs.Common.{◌≡◌, ℕ, ℤ, false, refl, pos, ◌+◌, ◌-◌, ◌^◌, ◌<◌, List, [], map, take, drop, length, get_or, sym, ap, ◌∙◌, arith}
use Rattle.std.proofs.lemmas.Bool.{cond-true, cond-false}
use Rattle.std.proofs.lemmas.List.{get_or-map, get_or-take, get_or-drop, length-map, length-take}
use Rattle.calc_model.specs.declared.fault.Fault.{Fault}
use Rattle.calc_model.specs.declared.fault.Fault.TheVariants.{NA}
use Rattle.calc_model.specs.declared.value.Value.TheVariants as value
use Rattle.calc_model.specs.declared.value.Value.{Value}
use Rattle.value_column.specs.declared.lane.Tag.{Tag}
use Rattle.value_column.specs.declared.lane.Tag.TheVariants as tag
use Rattle.value_column.specs.declared.lanes.Lanes.{Lanes}
use Rattle.value_column.specs.Rows.{is_small, value_at, value_in, value_tag}
use Rattle.value_column.proofs.lanes.Lanes.span.Goals as goal

of-kind : {X : Type 0} (f : X → Value) (g : Tag) (d : X) (xs : List X) → ((k : ℕ) → k < length xs → value_tag (f (get_or xs k d)) ≡ g) → (k : ℕ) → k < length (map f xs) → value_tag (get_or (map f xs) k value.Blank) ≡ g
of-kind f g d xs h k m =
    let short : k < length xs = omega (arith, length-map xs f) in
    ap value_tag (get_or-map f xs k d value.Blank short) ∙ h k short

large-lent : (t : Lanes) (xs : List ℤ) (a m k : ℕ) → xs ≡ t.wide.items → ((r : ℕ) → is_small (get_or t.wide.items r (pos (2 ^ 63))) ≡ false) → k < length (take m (drop a xs)) → is_small (get_or (take m (drop a xs)) k (pos (2 ^ 63))) ≡ false
large-lent t xs a m k e large h =
    let few : k < m = omega (arith, length-take m (drop a xs)) in
    ap is_small (get_or-take m (drop a xs) k (pos (2 ^ 63)) few ∙ get_or-drop a xs k (pos (2 ^ 63)) ∙ ap (λ v. get_or v (a + k) (pos (2 ^ 63))) e) ∙ large (a + k)

faults-lent : (t : Lanes) (xs : List Fault) (a m k : ℕ) → xs ≡ t.bad.items → k < length (map value.Bad (take m (drop a xs))) → (k < m → get_or t.tags.items (a + k) tag.Blank ≡ tag.Bad) → get_or (map value.Bad (take m (drop a xs))) k value.Blank ≡ value_at t (a + k)
faults-lent t xs a m k e h tagged =
    let short : k < length (take m (drop a xs)) = omega (arith, length-map (take m (drop a xs)) value.Bad) in
    let few : k < m = omega (arith, length-take m (drop a xs)) in
    get_or-map value.Bad (take m (drop a xs)) k NA value.Blank short
    ∙ ap value.Bad (get_or-take m (drop a xs) k NA few ∙ get_or-drop a xs k NA ∙ ap (λ v. get_or v (a + k) NA) e)
    ∙ sym (ap (λ g. value_in g (get_or t.small.items (a + k) (pos 0)) (get_or t.wide.items (a + k) (pos (2 ^ 63))) (get_or t.words.items (a + k) []) (get_or t.bad.items (a + k) NA)) (tagged few))

pub returns-in-Bad-clause-rows : goal.returns-in-Bad-clause-rows
returns-in-Bad-clause-rows c =
    λ k h.
    faults-lent c.args.self.now c.deref-in-Bad.result.now c.args.first (c.run_end-to.result - c.args.first) k c.deref-in-Bad.ensures.value h
    (λ few. c.run_end-to.ensures.tags (c.args.first + k) (omega arith) (omega (arith, c.run_end-to.ensures.some)) ∙ sym c.in-Bad.ensures.tag)

pub returns-in-Small-clause-kinds : goal.returns-in-Small-clause-kinds
returns-in-Small-clause-kinds c = of-kind value.Number tag.Small (pos 0) _ (λ k h. cond-true _ tag.Small tag.Wide (c.are_small.ensures.small k h))

pub returns-in-Wide-clause-kinds : goal.returns-in-Wide-clause-kinds
returns-in-Wide-clause-kinds c =
    of-kind value.Number tag.Wide (pos (2 ^ 63)) (take (c.run_end-to.result - c.args.first) (drop c.args.first c.deref-in-Wide.result.now))
    (λ k h. cond-false _ tag.Small tag.Wide (large-lent c.args.self.now c.deref-in-Wide.result.now c.args.first (c.run_end-to.result - c.args.first) k c.deref-in-Wide.ensures.value c.requires.lanes.large h))

pub returns-in-Words-clause-kinds : goal.returns-in-Words-clause-kinds
returns-in-Words-clause-kinds c = of-kind value.Words tag.Words [] (take (c.run_end-to.result - c.args.first) (drop c.args.first c.deref-in-Words.result.now)) (λ k h. refl)

pub returns-in-Bad-clause-kinds : goal.returns-in-Bad-clause-kinds
returns-in-Bad-clause-kinds c = of-kind value.Bad tag.Bad NA (take (c.run_end-to.result - c.args.first) (drop c.args.first c.deref-in-Bad.result.now)) (λ k h. refl)
