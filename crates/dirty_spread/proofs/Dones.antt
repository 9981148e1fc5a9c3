-- When cells are done: each once all that it reads are, and for ever after.
use Rattle.std.proofs.Common.{◌≡◌, ℕ, zero, suc, ◌+◌, ◌-◌, ◌<◌, ◌≤◌, Bool, true, false, not, ◌||◌, List, [], ◌∷◌, length, refl, sym, ap, subst, ◌∙◌, ⊎_elim, arith}
use Rattle.std.specs.Prelude.{if◌then◌else◌}
use Rattle.std.specs.List.{list_all, list_any}
use Rattle.std.proofs.lemmas.Bool.{and_from, cases_Bool, false_from_ne_true, false≢true, not-true, or_cases}
use Rattle.std.proofs.lemmas.List.{get_or_default}
use Rattle.std.proofs.lemmas.List.Folds.{Any-from_list_any}
use Rattle.calc_addr.specs.Places.{Place, Rectangle, covers, places}
use Rattle.calc_model.proofs.Areas.{all_places, both_true, places_all}
use Rattle.calc_model.specs.Grounded.{all_cells}
use Rattle.calc_model.specs.Listeners.{listed}
use Rattle.calc_model.specs.Touched.{CellSet}
use Rattle.dirty_spread.specs.Levels.{Leads, area_at, is_in_one}
use Rattle.dirty_spread.specs.Waves.{Problem, has, is_done}

pub all_of_read : (f : CellSet) (areas : List Rectangle) → ((q : Place) → is_in_one areas q → f q ≡ true) → all_cells f areas ≡ true
all_of_read f [] h = refl
all_of_read f (a ∷ areas) h =
    and_from (list_all f (places a)) (all_cells f areas)
    (all_places f a (λ q c. h q (ap (λ b. b || list_any (λ x. covers x q) areas) c)))
    (all_of_read f areas (λ q c. h q (or_true (covers a q) (list_any (λ x. covers x q) areas) c)))
  where
    or_true : (a b : Bool) → b ≡ true → (a || b) ≡ true
    or_true true b e = refl
    or_true false b e = e

pub read_of_all : (f : CellSet) (areas : List Rectangle) → all_cells f areas ≡ true → (q : Place) → is_in_one areas q → f q ≡ true
read_of_all f [] h q c = absurd (false≢true c)
read_of_all f (a ∷ areas) h q c =
    let parts = both_true (list_all f (places a)) (all_cells f areas) h in
    ⊎_elim (λ (e : covers a q ≡ true). places_all f a parts.0 q e) (λ (e : is_in_one areas q). read_of_all f areas parts.1 q e) (or_cases (covers a q) (list_any (λ x. covers x q) areas) c)

-- the area of a list that has a cell
pub area_of_one : (areas : List Rectangle) (q : Place) → is_in_one areas q → (j : ℕ) × (j < length areas) × (covers (area_at areas j) q ≡ true)
area_of_one areas q h =
    let found = Any-from_list_any (λ a. covers a q) areas h in
    (found.0, found.2, subst (λ a. covers a q ≡ true) (sym (get_or_default areas found.0 _ found.1 found.2 ∙ found.3)) found.4)

module _ (p : Problem) where
  abbrev pub read : Place → List Rectangle
  read q = listed (p.read q)

  -- the cell is no hindrance to one that is done before the wave behind
  abbrev pub good : ℕ → CellSet
  good k q = if has p.stale q then is_done p k q else not (p.circular q)

  pub good_stale : (k : ℕ) (q : Place) → has p.stale q ≡ true → is_done p k q ≡ true → good k q ≡ true
  good_stale k q h d = ap (λ b. if b then is_done p k q else not (p.circular q)) h ∙ d

  pub good_other : (k : ℕ) (q : Place) → has p.stale q ≡ false → p.circular q ≡ false → good k q ≡ true
  good_other k q h d = ap (λ b. if b then is_done p k q else not (p.circular q)) h ∙ ap not d

  pub stale_good : (k : ℕ) (q : Place) → has p.stale q ≡ true → good k q ≡ true → is_done p k q ≡ true
  stale_good k q h g = sym (ap (λ b. if b then is_done p k q else not (p.circular q)) h) ∙ g

  pub other_good : (k : ℕ) (q : Place) → has p.stale q ≡ false → good k q ≡ true → p.circular q ≡ false
  other_good k q h g = not-true (p.circular q) (sym (ap (λ b. if b then is_done p k q else not (p.circular q)) h) ∙ g)

  pub done_by : (k : ℕ) (q : Place) → ((r : Place) → is_in_one (read q) r → good k r ≡ true) → is_done p (suc k) q ≡ true
  done_by k q h = all_of_read (good k) (read q) h

  pub by_done : (k : ℕ) (q : Place) → is_done p (suc k) q ≡ true → (r : Place) → is_in_one (read q) r → good k r ≡ true
  by_done k q h r c = read_of_all (good k) (read q) h r c

  more_good : (k : ℕ) → ((r : Place) → is_done p k r ≡ true → is_done p (suc k) r ≡ true) → (r : Place) → good k r ≡ true → good (suc k) r ≡ true
  more_good k more r g =
      ⊎_elim (λ (e : has p.stale r ≡ true). good_stale (suc k) r e (more r (stale_good k r e g)))
      (λ (e : has p.stale r ≡ false). good_other (suc k) r e (other_good k r e g))
      (cases_Bool (has p.stale r))

  pub once_more : (k : ℕ) (q : Place) → is_done p k q ≡ true → is_done p (suc k) q ≡ true
  once_more zero q h = absurd (false≢true h)
  once_more (suc k) q h = done_by (suc k) q (λ r c. more_good k (once_more k) r (by_done k q h r c))

  pub later : (j k : ℕ) (q : Place) → is_done p k q ≡ true → is_done p (j + k) q ≡ true
  later zero k q h = let e : k ≡ zero + k = omega arith in subst (λ n. is_done p n q ≡ true) e h
  later (suc j) k q h = let e : suc (j + k) ≡ suc j + k = omega arith in subst (λ n. is_done p n q ≡ true) e (once_more (j + k) q (later j k q h))

  pub later_than : (j k : ℕ) (q : Place) → j ≤ k → is_done p j q ≡ true → is_done p k q ≡ true
  later_than j k q le h = go (sym' j k le)
    where
      sym' : (j k : ℕ) → j ≤ k → (m : ℕ) × (m + j ≡ k)
      sym' j k le = (k - j, omega arith)

      go : (m : ℕ) × (m + j ≡ k) → is_done p k q ≡ true
      go (m, e) = subst (λ n. is_done p n q ≡ true) e (later m j q h)

  pub leads_itself : (q : Place) → Leads p q q
  leads_itself q = record { steps = 0; later = λ k h. let e : k ≡ 0 + k = omega arith in subst (λ n. is_done p n q ≡ false) e h }

  -- what reads a stale cell isn't done before the wave behind
  pub reader_later : (q r : Place) → is_in_one (read q) r → has p.stale r ≡ true → (k : ℕ) → is_done p k r ≡ false → is_done p (suc k) q ≡ false
  reader_later q r c stale k h = false_from_ne_true (is_done p (suc k) q) (λ d. false≢true (sym h ∙ stale_good k r stale (by_done k q d r c)))

  pub leads_on : (o q r : Place) → Leads p o q → is_in_one (read q) r → has p.stale r ≡ true → Leads p o r
  leads_on o q r l c stale = record {
    steps = l.steps + 1;
    later = λ k h. let e : l.steps + suc k ≡ l.steps + 1 + k = omega arith in
        subst (λ n. is_done p n o ≡ false) e (l.later (suc k) (reader_later q r c stale k h));
  }

  pub never_on : (o q : Place) → Leads p o q → ((k : ℕ) → is_done p k q ≡ false) → (k : ℕ) → is_done p k o ≡ false
  never_on o q l never k = false_from_ne_true (is_done p k o) (λ d. false≢true (sym (l.later k (never k)) ∙ later l.steps k o d))

  -- what reads a circle is never done
  pub never_by : (q r : Place) → is_in_one (read q) r → has p.stale r ≡ false → p.circular r ≡ true → (k : ℕ) → is_done p k q ≡ false
  never_by q r c absent circle zero = refl
  never_by q r c absent circle (suc k) = false_from_ne_true (is_done p (suc k) q) (λ d. false≢true (sym (other_good k r absent (by_done k q d r c)) ∙ circle))

  pub never_read : (q r : Place) → is_in_one (read q) r → has p.stale r ≡ true → ((k : ℕ) → is_done p k r ≡ false) → (k : ℕ) → is_done p k q ≡ false
  never_read q r c stale never zero = refl
  never_read q r c stale never (suc k) = reader_later q r c stale k (never k)

  -- what reads a cell that leads to it is never done
  pub never_around : (q r : Place) → is_in_one (read q) r → has p.stale r ≡ true → Leads p r q → (k : ℕ) → is_done p k q ≡ false
  never_around q r c stale l zero = refl
  never_around q r c stale l (suc k) =
      false_from_ne_true (is_done p (suc k) q)
      (λ d. false≢true (sym (l.later k (never_around q r c stale l k)) ∙ later l.steps k r (stale_good k r stale (by_done k q d r c))))
