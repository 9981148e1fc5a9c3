-- Each step of a mark board keeps its rule; what the last pass knows.
use Rattle.std.proofs.Common.{◌≡◌, ◌≢◌, ℕ, ◌+◌, ◌*◌, ◌/◌, ◌%◌, ◌^◌, ◌<◌, ◌≤◌, eqb, Bool, true, false, cond, List, [], ◌∷◌, ◌++◌, length, set, get_or, refl, sym, ap, ◌∙◌, arith, length-set, eq-eqb, ne_eqb}
use Rattle.std.proofs.lemmas.Bool.Decides.{nat_tests}
use Rattle.std.proofs.lemmas.Nat.Bits.{bit_at-lt}
use Rattle.std.specs.Int.Bits.{bit_or}
use mathlib.Core.Logic.{dite}
use mathlib.Core.Option.{none, some}
use native.Mathlib.Decide.{ℕ_discrete}
use lib.ListN.{get_elem?}
use Rattle.atomic_table.specs.Table.{State, Me, step, keeps, Allows}
use Rattle.work_board.specs.declared.pass_view.PassView.{PassView}
use Rattle.work_board.specs.Counts.{times, once_below}
use Rattle.work_board.specs.Views.{spent_view, new_view, with_listed, with_missed, one_right_less, both, IsMarkEnd}
use Rattle.work_board.specs.Rules.{bit_of, IsMarkBoard, marked, MarkTells}
use Rattle.work_board.proofs.Bits.{same_power, same_bit, with_bit, bit_here, bit_else, clear}
use Rattle.work_board.proofs.Distinct.{at_most_one, is_below, below}
use Rattle.work_board.proofs.Sharing.{lists_taken, all_known, changed, cut, joined}
use Rattle.work_board.proofs.Totals.{times_more, times_both, total_has, total_set, total_cut, total_joined, set_there}

module _ (bits : ℕ) (words : List ℕ) (views : List PassView) (r : IsMarkBoard bits words views) (seat : ℕ) (v : PassView) (at : get_elem? views seat ≡ some v) (unspent : 0 < v.passes) where
  module _ (bit : ℕ) (inside : bit < bits) where
    spot : bit / 64 < length words
    spot = omega (arith, r.room)

    room' : bits ≤ 64 * length (with_bit words bit)
    room' = omega (arith, r.room, length-set words (bit / 64) (bit_or (get_or words (bit / 64) 0) (2 ^ (bit % 64))))

    hit : (k : ℕ) → k ≡ bit → ◌≡◌ {A = ℕ} (cond (eqb bit k) 1 0) 1
    hit k is = ap (λ b. cond b 1 0) (eq-eqb bit k (sym is))

    miss : (k : ℕ) → k ≢ bit → ◌≡◌ {A = ℕ} (cond (eqb bit k) 1 0) 0
    miss k apart = ap (λ b. cond b 1 0) (ne_eqb bit k (λ e. apart (sym e)))

    set_now : (k : ℕ) → k ≡ bit → bit_of (with_bit words bit) k ≡ 1
    set_now k is = ap (bit_of (with_bit words bit)) is ∙ bit_here words bit spot

    -- the words with the bit set have each bit that was set, and this one
    within : (k : ℕ) → bit_of (with_bit words bit) k ≤ once_below k bits
    within k = dite (ℕ_discrete k bit)
        (λ is. omega (arith, set_now k is, is_below k bits (omega arith)))
        (λ apart. let old = r.shared.within k in omega (arith, old, bit_else words bit spot k apart))

    still : (k : ℕ) → bit_of words k ≡ 1 → bit_of (with_bit words bit) k ≡ 1
    still k one = dite (ℕ_discrete k bit) (set_now k) (λ apart. bit_else words bit spot k apart ∙ one)

    after_first : bit_of words bit ≡ 0 → IsMarkBoard bits (with_bit words bit) (set views seat (with_listed bit v))
    after_first clear = record {
      room = room';
      shared = changed bits (bit_of words) views r.shared seat v at unspent (with_listed bit v) refl refl refl (bit_of (with_bit words bit)) within
          (λ k. dite (ℕ_discrete k bit)
          (λ is. let old : bit_of words k ≡ 0 = ap (bit_of words) is ∙ clear in omega (arith, times_more k bit v.listed, old, set_now k is, hit k is))
          (λ apart. omega (arith, times_more k bit v.listed, bit_else words bit spot k apart, miss k apart)));
      met = λ k some_. let t = total_set (λ u. times k u.missed) views seat v (with_listed bit v) at in still k (r.met k (omega (arith, t, some_)));
    }

    after_met : bit_of words bit ≡ 1 → IsMarkBoard bits (with_bit words bit) (set views seat (with_missed bit v))
    after_met one = record {
      room = room';
      shared = changed bits (bit_of words) views r.shared seat v at unspent (with_missed bit v) refl refl refl (bit_of (with_bit words bit)) within
          (λ k. dite (ℕ_discrete k bit)
          (λ is. let old : bit_of words k ≡ 1 = ap (bit_of words) is ∙ one in omega (arith, old, set_now k is))
          (λ apart. omega (arith, bit_else words bit spot k apart)));
      met = λ k some_.
          let t = total_set (λ u. times k u.missed) views seat v (with_missed bit v) at in
          dite (ℕ_discrete k bit) (set_now k) (λ apart. still k (r.met k (omega (arith, t, some_, times_more k bit v.missed, miss k apart))));
    }

    did : (b : Bool) → eqb (bit_of words bit) 0 ≡ b → IsMarkBoard bits (with_bit words bit) (set views seat (cond b (with_listed bit v) (with_missed bit v)))
    did true is = after_first (grind (arith, nat_tests))
    did false is = after_met (let lt = bit_at-lt (get_or words (bit / 64) 0) (bit % 64) in let some_ : bit_of words bit ≢ 0 = grind (arith, nat_tests) in omega (arith, lt))

  pub cut_marked : 0 < v.rights → IsMarkBoard bits words (set views seat (one_right_less v) ++ new_view v.size ∷ [])
  cut_marked right = record {
    room = r.room;
    shared = cut bits (bit_of words) views r.shared seat v at unspent right;
    met = λ k some_. let t = total_cut (λ u. times k u.missed) views seat v (one_right_less v) (new_view v.size) at (omega arith) in r.met k (omega (arith, t, some_));
  }

  pub join_marked : (other : ℕ) (w : PassView) → get_elem? (set views seat (both v w)) other ≡ some w → IsMarkBoard bits words (set (set views seat (both v w)) other spent_view)
  join_marked other w there = record {
    room = r.room;
    shared = joined bits (bit_of words) views r.shared seat v at unspent other w there;
    met = λ k some_.
        let t = total_joined (λ u. times k u.missed) views seat other v w (both v w) spent_view at there (omega (arith, times_both k v.missed w.missed)) in
        r.met k (omega (arith, t, some_));
  }

abbrev Holds : ℕ → State ℕ PassView → Type 0
Holds bits s = IsMarkBoard bits s.words s.views

module _ (bits seat : ℕ) (v : PassView) (of_ : v.size ≡ bits) (unspent : 0 < v.passes) where
  pub marks : (slots : ℕ) (me : Me ℕ PassView) → me.0 ≡ v → (bit : ℕ) → bit < bits
      → Allows (Holds bits) slots seat me (bit / 64) (λ n. bit_or n (2 ^ (bit % 64))) (MarkTells (step slots (bit / 64) (2 ^ (bit % 64)) 0 none) me)
  marks slots me is bit inside s r _ at _ =
      let n : ℕ = get_or s.words (bit / 64) 0 in
      let at' : get_elem? s.views seat ≡ some v = at ∙ ap some is in
      let w = marked bit n v in
      let d = did bits s.words s.views r seat v at' unspent bit inside (eqb (bit_of s.words bit) 0) refl in
      let lists = lists_taken bits (bit_of (with_bit s.words bit)) (set s.views seat w) d.shared seat w (set_there s.views seat v w at') in (
        w,
        keeps,
        tt,
        d,
        (
          λ x. let t = d.shared.within x in let b : once_below x v.size ≡ once_below x bits = ap (once_below x) of_ in rw is (omega (arith, t, b, lists x)),
          refl,
          λ k word mask. rw is (ap (λ j. marked j n v) (sym (same_bit k bit word (same_power (k % 64) (bit % 64) mask)))),
        ),
      )

  pub ends : v.passes + v.rights ≡ 65 → (words : List ℕ) (views : List PassView) → IsMarkBoard bits words views → get_elem? views seat ≡ some v → IsMarkEnd bits v
  ends whole words views r at =
      let all = all_known bits (bit_of words) views r.shared seat v at whole in
      let lists = lists_taken bits (bit_of words) views r.shared seat v at in
      record {
        once = λ k. let t = r.shared.within k in omega (arith, t, lists k, at_most_one k bits);
        below = λ k some_. below k bits (let t = r.shared.within k in omega (arith, t, lists k));
        met = λ k some_.
            let seen = total_has (λ u. times k u.missed) views seat v at in
            sym (all (λ u. times k u.listed) (λ u none _. ap (times k) none)) ∙ r.shared.listed k ∙ r.met k (omega (arith, seen, some_));
      }
