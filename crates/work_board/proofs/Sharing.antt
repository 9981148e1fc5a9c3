-- What both rules say of the passes, kept by each step on their views.
use Rattle.std.proofs.Common.{◌≡◌, ℕ, ◌+◌, ◌<◌, ◌≤◌, List, [], ◌∷◌, ◌++◌, length, set, sum_by, refl, ◌∙◌, arith}
use mathlib.Core.Option.{some}
use lib.ListN.{get_elem?}
use Rattle.work_board.specs.declared.pass_view.PassView.{PassView}
use Rattle.work_board.specs.Views.{spent_view, new_view, one_right_less, both}
use Rattle.work_board.specs.Rules.{IsOfBoard, IsShared}
use Rattle.work_board.specs.Counts.{times, once_below}
use Rattle.work_board.proofs.Totals.{times_both, total_has, total_set, total_cut, total_joined, alone, each_set, each_snoc}
use Rattle.work_board.proofs.Distinct.{at_most}

module _ (size : ℕ) (taken : ℕ → ℕ) (views : List PassView) (r : IsShared size taken views) (seat : ℕ) (v : PassView) (at : get_elem? views seat ≡ some v) where
  pub lists_taken : (x : ℕ) → times x v.listed ≤ taken x
  lists_taken x = let h = total_has (λ u. times x u.listed) views seat v at in omega (arith, h, r.listed x)

  pub few_listed : (bound : ℕ) → ((x : ℕ) → taken x ≤ once_below x bound) → length v.listed ≤ bound
  few_listed bound below = at_most v.listed bound (λ x. let b = below x in omega (arith, b, lists_taken x))

  -- the pass that holds all passes knows all that was taken or missed
  pub all_known : v.passes + v.rights ≡ 65 → (f : PassView → ℕ) → ((u : PassView) → u.listed ≡ [] → u.missed ≡ [] → f u ≡ 0) → sum_by f views ≡ f v
  all_known whole f none =
      alone f (λ u. u.passes + u.rights) views seat v at refl (none spent_view refl refl)
      (λ j u e light. let empty = (r.own j u e).spent (omega arith) in none u empty.0 empty.1)
      (omega (arith, r.parts))

  module _ (unspent : 0 < v.passes) where
    -- a step that changes the lists of a pass alone
    pub changed : (w : PassView) → w.size ≡ v.size → w.passes ≡ v.passes → w.rights ≡ v.rights → (now : ℕ → ℕ) → ((x : ℕ) → now x ≤ once_below x size)
        → ((x : ℕ) → now x + times x v.listed ≡ taken x + times x w.listed) → IsShared size now (set views seat w)
    changed w sized held right now within more = record {
      own = each_set (IsOfBoard size) views seat w r.own (record { same = λ _. sized ∙ (r.own seat v at).same unspent; spent = λ none. absurd (omega arith) });
      listed = λ x. let t = total_set (λ u. times x u.listed) views seat v w at in omega (arith, t, r.listed x, more x);
      within = within;
      parts = let t = total_set (λ u. u.passes + u.rights) views seat v w at in omega (arith, t, r.parts);
    }

    pub cut : 0 < v.rights → IsShared size taken (set views seat (one_right_less v) ++ new_view v.size ∷ [])
    cut right =
        let left = one_right_less v in
        let new = new_view v.size in
        let mine = r.own seat v at in
        record {
          own = each_snoc (IsOfBoard size) (set views seat left) new
              (each_set (IsOfBoard size) views seat left r.own (record { same = mine.same; spent = mine.spent })) (record { same = λ _. mine.same unspent; spent = λ _. (refl, refl) });
          listed = λ x. total_cut (λ u. times x u.listed) views seat v left new at (omega arith) ∙ r.listed x;
          within = r.within;
          parts = total_cut (λ u. u.passes + u.rights) views seat v left new at (omega arith) ∙ r.parts;
        }

    module _ (other : ℕ) (w : PassView) (there : get_elem? (set views seat (both v w)) other ≡ some w) where
      pub joined : IsShared size taken (set (set views seat (both v w)) other spent_view)
      joined =
          let sum = both v w in
          record {
            own = each_set (IsOfBoard size) (set views seat sum) other spent_view
                (each_set (IsOfBoard size) views seat sum r.own (record { same = λ _. (r.own seat v at).same unspent; spent = λ none. absurd (omega arith) }))
                (record { same = λ some_. absurd (omega arith); spent = λ _. (refl, refl) });
            listed = λ x. total_joined (λ u. times x u.listed) views seat other v w sum spent_view at there (omega (arith, times_both x v.listed w.listed)) ∙ r.listed x;
            within = r.within;
            parts = total_joined (λ u. u.passes + u.rights) views seat other v w sum spent_view at there (omega arith) ∙ r.parts;
          }
