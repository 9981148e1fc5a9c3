-- What levels say of waves in the end.
use Rattle.std.proofs.Common.{◌≡◌, ℕ, suc, ◌+◌, ◌-◌, ◌<◌, ◌≤◌, ◌⊎◌, Bool, true, false, ◌&&◌, List, [], ◌∷◌, length, get_or, refl, sym, ap, subst, ◌∙◌, ⊎_elim, arith}
use Rattle.std.specs.List.{Contains, list_all, list_any}
use Rattle.std.proofs.lemmas.Bool.{cases_Bool, cases_eq, cases_order, false≢true}
use Rattle.calc_addr.specs.Places.{Place, Rectangle, covers, places}
use Rattle.calc_addr.proofs.Walking.Places.{covers-contained}
use Rattle.calc_model.specs.Grounded.{all_cells}
use Rattle.calc_model.specs.Touched.{CellSet}
use Rattle.dirty_spread.specs.Finding.{at}
use Rattle.dirty_spread.specs.Levels.{AreLevels, is_in_one, level, read_by}
use Rattle.dirty_spread.specs.LevelLists.{AreGapless, AreLists, IsOfLevel}
use Rattle.dirty_spread.specs.Waves.{AreAll, AreWaves, IsInNone, IsInWave, Problem, has, is_done}
use Rattle.dirty_spread.proofs.Beside.{has_held}
use Rattle.dirty_spread.proofs.Dones.{by_done, good, good_other, good_stale, later_than, other_good, stale_good}
use Rattle.dirty_spread.proofs.Found.{at_holds, at_of}
use Rattle.dirty_spread.proofs.Fronts.{or_left, or_right}

-- what doesn't pass, of the cells of areas
not_all : (f : CellSet) (ps : List Place) → list_all f ps ≡ false → (q : Place) × Contains ps q × (f q ≡ false)
not_all f [] h = absurd (false≢true (sym h))
not_all f (p ∷ ps) h =
    ⊎_elim (λ (e : f p ≡ true). behind (not_all f ps (sym (ap (λ b. b && list_all f ps) e) ∙ h)))
    (λ (e : f p ≡ false). (p, (0, omega arith, refl), e))
    (cases_Bool (f p))
  where
    behind : ((q : Place) × Contains ps q × (f q ≡ false)) → (q : Place) × Contains (p ∷ ps) q × (f q ≡ false)
    behind (q, (k, within, is), e) = (q, (suc k, omega arith, is), e)

not_all_cells : (f : CellSet) (areas : List Rectangle) → all_cells f areas ≡ false → (q : Place) × is_in_one areas q × (f q ≡ false)
not_all_cells f [] h = absurd (false≢true (sym h))
not_all_cells f (a ∷ areas) h =
    ⊎_elim (λ (e : list_all f (places a) ≡ true).
    let rest = not_all_cells f areas (sym (ap (λ b. b && all_cells f areas) e) ∙ h) in
    (rest.0, or_right (covers a rest.0) (list_any (λ x. covers x rest.0) areas) rest.1, rest.2))
    (λ (e : list_all f (places a) ≡ false).
    let here = not_all f (places a) e in
    (here.0, or_left (covers a here.0) (list_any (λ x. covers x here.0) areas) (covers-contained a here.0 here.1), here.2))
    (cases_Bool (list_all f (places a)))

module _ (p : Problem) (levels : List ℕ) (h : AreLevels p levels) where
  abbrev n : ℕ
  n = length p.stale

  -- a cell's wave is the one before which it isn't done, and behind which it is
  wave_is : (i k : ℕ) → i < n → is_done p (suc k) (at p.stale i) ≡ true → is_done p k (at p.stale i) ≡ false → level levels i ≡ k + 3
  wave_is i k within done not_yet =
      ⊎_elim (λ (two : level levels i ≡ 2). absurd (false≢true (sym (h.circular i (suc k) within two) ∙ done)))
      (λ (ne : level levels i ≡ 2 → ⊥). by_level (level levels i - 3) (above (level levels i) (h.settled i within) ne))
      (cases_eq (level levels i) 2)
    where
      above : (x : ℕ) → 2 ≤ x → (x ≡ 2 → ⊥) → x ≡ (x - 3) + 3
      above x low ne = omega arith

      by_level : (m : ℕ) → level levels i ≡ m + 3 → level levels i ≡ k + 3
      by_level m is =
          let w = h.wave i m within is in
          ⊎_elim (λ (e : m ≡ k). is ∙ ap (λ x. x + 3) e)
          (λ (o : (m < k) ⊎ (k < m)). ⊎_elim
          (λ (l : m < k). absurd (false≢true (sym not_yet ∙ later_than p (suc m) k (at p.stale i) (omega arith) w.0)))
          (λ (l : k < m). absurd (false≢true (sym w.1 ∙ later_than p (suc k) m (at p.stale i) (omega arith) done))) o)
          (cases_order m k)

  pub gapless : AreGapless levels n
  gapless i k within is =
      let w = h.wave i (suc k) within (is ∙ (omega arith)) in
      let r = not_all_cells (good p k) (read_by p i) w.1 in
      by_stale r.0 (by_done p (suc k) (at p.stale i) w.0 r.0 r.1) r.2
    where
      by_stale : (r : Place) → good p (suc k) r ≡ true → good p k r ≡ false → (j : ℕ) × (j < n) × (level levels j ≡ k + 3)
      by_stale r is_good no_yet =
          ⊎_elim (λ (e : has p.stale r ≡ true).
          let stands = at_of p.stale r (has_held p.stale r e) in
          let done : is_done p (suc k) (at p.stale stands.0) ≡ true = subst (λ q. is_done p (suc k) q ≡ true) (sym stands.2) (stale_good p (suc k) r e is_good) in
          let never : is_done p k (at p.stale stands.0) ≡ false = not_done (is_done p k (at p.stale stands.0)) (λ d. false≢true (sym no_yet ∙ good_stale p k r e (subst (λ q. is_done p k q ≡ true) stands.2 d))) in
          (stands.0, stands.1, wave_is stands.0 k stands.1 done never))
          (λ (e : has p.stale r ≡ false). absurd (false≢true (sym no_yet ∙ good_other p k r e (other_good p (suc k) r e is_good))))
          (cases_Bool (has p.stale r))
        where
          not_done : (b : Bool) → (b ≡ true → ⊥) → b ≡ false
          not_done true f = absurd (f refl)
          not_done false f = refl

  pub are_waves : (waves : List (List Place)) → AreLists p.stale levels waves → AreWaves p waves
  are_waves waves lists = record {
    each = λ k. record {
      in_order = (lists.each k).in_order;
      exact = λ q. (
        λ c. let i = ((lists.each k).exact q).0 c in in_wave k q i.0 i.1 i.2 i.3,
        λ c. of_wave k q c (at_of p.stale q c.stale),
      );
    };
    some = lists.some;
  }
    where
      in_wave : (k : ℕ) (q : Place) (i : ℕ) → i < n → at p.stale i ≡ q → level levels i ≡ k + 3 → IsInWave p k q
      in_wave k q i within here is = subst (IsInWave p k) here (record { stale = at_holds p.stale i within; done = (h.wave i k within is).0; not_yet = (h.wave i k within is).1 })

      of_wave : (k : ℕ) (q : Place) → IsInWave p k q → ((i : ℕ) × (i < n) × (at p.stale i ≡ q)) → Contains (get_or waves k []) q
      of_wave k q c (i, within, here) =
          ((lists.each k).exact q).1 (i, within, here, wave_is i k within (subst (λ x. is_done p (suc k) x ≡ true) (sym here) c.done) (subst (λ x. is_done p k x ≡ false) (sym here) c.not_yet))

  pub are_left : (left : List Place) → AreAll (IsOfLevel p.stale levels 2 n) left → AreAll (IsInNone p) left
  are_left left all = record {
    in_order = all.in_order;
    exact = λ q. (
      λ c. let i = (all.exact q).0 c in subst (IsInNone p) i.2 (record { stale = at_holds p.stale i.0 i.1; never = λ k. h.circular i.0 k i.1 i.3 }),
      λ c. of_none q c (at_of p.stale q c.stale),
    );
  }
    where
      two : (i : ℕ) → i < n → ((k : ℕ) → is_done p k (at p.stale i) ≡ false) → level levels i ≡ 2
      two i within never =
          ⊎_elim (λ (e : level levels i ≡ 2). e)
          (λ (ne : level levels i ≡ 2 → ⊥). absurd (false≢true (sym (never (suc (level levels i - 3))) ∙ (h.wave i (level levels i - 3) within (above (level levels i) (h.settled i within) ne)).0)))
          (cases_eq (level levels i) 2)
        where
          above : (x : ℕ) → 2 ≤ x → (x ≡ 2 → ⊥) → x ≡ (x - 3) + 3
          above x low ne = omega arith

      of_none : (q : Place) → IsInNone p q → ((i : ℕ) × (i < n) × (at p.stale i ≡ q)) → Contains left q
      of_none q c (i, within, here) = (all.exact q).1 (i, within, here, two i within (λ k. subst (λ x. is_done p k x ≡ false) (sym here) (c.never k)))
