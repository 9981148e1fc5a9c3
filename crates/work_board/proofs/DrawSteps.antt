-- Each step of a draw board keeps its rule; what the last pass knows.
use Rattle.std.proofs.Common.{◌≡◌, ℕ, ◌+◌, ◌%◌, ◌^◌, ◌<◌, ◌≤◌, min, ltb, Bool, true, false, cond, List, [], ◌∷◌, ◌++◌, length, set, get_or, refl, sym, ap, subst, ◌∙◌, ⊎_elim, arith, length-append, length-set, get_or-set_same}
use Rattle.std.proofs.lemmas.Bool.Decides.{nat_tests}
use mathlib.Core.Option.{none, some}
use lib.ListN.{get_elem?}
use Rattle.atomic_table.specs.Table.{State, Me, step, keeps, Allows}
use Rattle.atomic_table.proofs.Lists.{at_set}
use Rattle.work_board.specs.declared.pass_view.PassView.{PassView}
use Rattle.work_board.specs.Views.{spent_view, new_view, with_listed, with_none, nones, one_right_less, both, IsDrawEnd}
use Rattle.work_board.specs.Counts.{times, once_below}
use Rattle.work_board.specs.Rules.{HasFewNones, IsDrawn, IsDrawBoard, DrawTells}
use Rattle.work_board.proofs.Schedules.{once_more}
use Rattle.work_board.proofs.Sharing.{few_listed, all_known, changed, cut, joined}
use Rattle.work_board.proofs.Totals.{times_more, total_set, total_cut, total_joined, total_below, each_set, each_snoc}

sooner : (x a b : ℕ) → a ≤ b → once_below x a ≤ once_below x b
sooner x a b fewer = grind (arith, nat_tests)

module _ (units word : ℕ) (views : List PassView) (r : IsDrawn units word views) (seat : ℕ) (v : PassView) (at : get_elem? views seat ≡ some v) (unspent : 0 < v.passes) where
  abbrev taken : ℕ → ℕ
  taken x = once_below x (min word units)

  shorter : length v.listed ≤ min word units
  shorter = few_listed units taken views r.shared seat v at (min word units) (λ x. omega arith)

  took : word < units → IsDrawn units (word + 1) (set views seat (with_listed word v))
  took below =
      let w = with_listed word v in
      let old : min word units ≡ word = omega arith in
      let new : min (word + 1) units ≡ word + 1 = omega arith in
      record {
        small = r.small;
        shared = changed units taken views r.shared seat v at unspent w refl refl refl (λ x. once_below x (min (word + 1) units))
            (λ x. sooner x (min (word + 1) units) units (omega arith))
            (λ x. rw (old, new) (omega (arith, once_more x word, times_more x word v.listed)));
        few = each_set HasFewNones views seat w r.few (r.few seat v at);
        excess = let t = total_set nones views seat v w at in omega (arith, t, r.excess);
      }

  refused : nones v ≡ 0 → units ≤ word → IsDrawn units (word + 1) (set views seat (with_none v))
  refused open_ above =
      let w = with_none v in
      let one_more = length-append v.missed (v.size ∷ []) in
      let same : min (word + 1) units ≡ min word units = omega arith in
      record {
        small = r.small;
        shared = changed units taken views r.shared seat v at unspent w refl refl refl (λ x. once_below x (min (word + 1) units))
            (λ x. sooner x (min (word + 1) units) units (omega arith))
            (λ x. rw same refl);
        few = each_set HasFewNones views seat w r.few (omega (arith, one_more));
        excess = let t = total_set nones views seat v w at in omega (arith, t, one_more, r.excess);
      }

  drew : nones v ≡ 0 → (b : Bool) → ltb word units ≡ b → IsDrawn units (word + 1) (set views seat (cond b (with_listed word v) (with_none v)))
  drew open_ true is = took (grind (arith, nat_tests))
  drew open_ false is = refused open_ (grind (arith, nat_tests))

  pub cut_drawn : 0 < v.rights → IsDrawn units word (set views seat (one_right_less v) ++ new_view v.size ∷ [])
  cut_drawn right = record {
    small = r.small;
    shared = cut units taken views r.shared seat v at unspent right;
    few = each_snoc HasFewNones (set views seat (one_right_less v)) (new_view v.size) (each_set HasFewNones views seat (one_right_less v) r.few (r.few seat v at)) (omega arith);
    excess = let t = total_cut nones views seat v (one_right_less v) (new_view v.size) at (omega arith) in omega (arith, t, r.excess);
  }

  module _ (other : ℕ) (w : PassView) (apart : ¬ (other ≡ seat)) (there : get_elem? (set views seat (both v w)) other ≡ some w) where
    at_other : get_elem? views other ≡ some w
    at_other = ⊎_elim (λ h. absurd (apart h.0)) (λ h. h.1) (at_set views seat other (both v w) w there)

    pub join_drawn : IsDrawn units word (set (set views seat (both v w)) other spent_view)
    join_drawn =
        let a = r.few seat v at in
        let b = r.few other w at_other in
        let sum = length-append v.missed w.missed in
        record {
          small = r.small;
          shared = joined units taken views r.shared seat v at unspent other w there;
          few = each_set HasFewNones (set views seat (both v w)) other spent_view (each_set HasFewNones views seat (both v w) r.few (omega (arith, a, b, sum))) (omega arith);
          excess = let t = total_joined nones views seat other v w (both v w) spent_view at there (omega (arith, sum)) in omega (arith, t, r.excess);
        }

abbrev Holds : ℕ → State ℕ PassView → Type 0
Holds units s = IsDrawBoard units s.words s.views

-- no draw wraps the word: it is the units and one for each None, of which there are at most as many as passes
fits : (units word : ℕ) (views : List PassView) → IsDrawn units word views → word ≤ units + 65
fits units word views r =
    let h = total_below nones (λ u. u.passes + u.rights) views (λ j u e. let f = r.few j u e in omega arith) in
    omega (arith, h, r.excess, r.shared.parts)

placed : (units word : ℕ) (words : List ℕ) (views : List PassView) → length words ≡ 1 → IsDrawn units word views → IsDrawBoard units (set words 0 word) views
placed units word words views one d =
    (length-set words 0 word ∙ one, subst (λ k. IsDrawn units k views) (sym (get_or-set_same words 0 word 0 (omega arith))) d)

module _ (units seat : ℕ) (v : PassView) (of_ : v.size ≡ units) (unspent : 0 < v.passes) where
  pub draws : (slots : ℕ) (me : Me ℕ PassView) → me.0 ≡ v → nones v ≡ 0
      → Allows (Holds units) slots seat me 0 (λ n. (n + 1) % 2 ^ 64) (DrawTells (step slots 0 1 0 none) me)
  draws slots me is open_ s r _ at _ =
      let n : ℕ = get_or s.words 0 0 in
      let at' : get_elem? s.views seat ≡ some v = at ∙ ap some is in
      let w = cond (ltb n v.size) (with_listed n v) (with_none v) in
      let d = drew units n s.views r.1 seat v at' unspent open_ (ltb n v.size) (ap (ltb n) (sym of_)) in
      let small = r.1.small in
      let few = fits units n s.views r.1 in
      let next : n + 1 ≡ (n + 1) % 2 ^ 64 = omega arith in
      let long = shorter units n s.views r.1 seat v at' unspent in (
        w,
        keeps,
        tt,
        placed units ((n + 1) % 2 ^ 64) s.words (set s.views seat w) r.0 (subst (λ k. IsDrawn units k (set s.views seat w)) next d),
        (rw (is, of_) long, rw is refl, refl),
      )

  pub ends : v.passes + v.rights ≡ 65 → (words : List ℕ) (views : List PassView) → IsDrawBoard units words views → get_elem? views seat ≡ some v → IsDrawEnd units v
  ends whole words views rule at =
      let word : ℕ = get_or words 0 0 in
      let r = rule.1 in
      let all = all_known units (λ x. once_below x (min word units)) views r.shared seat v at whole in
      record {
        bound = min word units;
        within = omega arith;
        once = λ x. sym (all (λ u. times x u.listed) (λ u none _. ap (times x) none)) ∙ r.shared.listed x;
        whole = λ some_none. let n = all nones (λ u _ none. ap length none) in omega (arith, n, r.excess);
      }
