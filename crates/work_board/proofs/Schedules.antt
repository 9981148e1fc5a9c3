-- What every event of the Board machine keeps.
use Rattle.std.proofs.Common.{⊎_elim, ◌≡◌, ℕ, zero, suc, ◌+◌, ◌<◌, ◌≤◌, ◌||◌, ltb, eqb, Bool, true, false, cond, List, [], ◌∷◌, ◌++◌, length, set, sum_by, count_by, refl, sym, ap, ◌∙◌, subst, arith, append-nil, ne_eqb}
use Rattle.std.proofs.lemmas.List.Sums.{sum_by-cons, sum_by-append, sum_by_push, sum_by-set, get_or-le-sum_by}
use Rattle.std.proofs.lemmas.List.Folds.{sum_by-replicate}
use Rattle.std.proofs.Math.Nat.{eq-or-lt_of_le}
use Rattle.std.proofs.lemmas.Bool.Decides.{nat_tests}
use Rattle.std.specs.List.{flat_map}
use mathlib.Core.Logic.{dite}
use native.Mathlib.Decide.{ℕ_discrete}
use Rattle.work_board.specs.Counts.{times, once_below}
use Rattle.work_board.specs.BoardMachine.{Worker, Machine, Event, Draw, Mark, fresh, opened, worker_at, after_draw, is_marked, event, after}

pub once_more : (x n : ℕ) → once_below x (n + 1) ≡ once_below x n + cond (eqb n x) 1 0
once_more x n = grind (arith, nat_tests)

abbrev absent : Worker
absent = record { drawn = []; closed = true }

pub times-flat : (x : ℕ) (workers : List Worker) → times x (flat_map (λ w. w.drawn) workers) ≡ sum_by (λ w. times x w.drawn) workers
times-flat x [] = refl
times-flat x (w ∷ ws) =
    omega (arith, sum_by-append (λ y. cond (eqb y x) 1 0) w.drawn (flat_map (λ u. u.drawn) ws), times-flat x ws, sum_by-cons (λ u. times x u.drawn) w ws)

open_inside : (workers : List Worker) (w : ℕ) → (worker_at workers w).closed ≡ false → w < length workers
open_inside [] w h = cc
open_inside (x ∷ xs) zero h = omega arith
open_inside (x ∷ xs) (suc w) h = omega (arith, open_inside xs w h)

abbrev closings : Worker → ℕ
closings w = cond w.closed 1 0

-- what all events keep
pub record Kept (units : ℕ) (m : Machine) : Type 0 where
  pub below : m.next ≤ units
  pub once : (x : ℕ) → sum_by (λ w. times x w.drawn) m.workers ≡ once_below x m.next
  pub unclosed : m.next < units → sum_by closings m.workers ≡ 0

pub whole : (units : ℕ) (m : Machine) → Kept units m → (w : ℕ) → w < length m.workers → (worker_at m.workers w).closed ≡ true → m.next ≡ units
whole units m k w inside closed = ⊎_elim (λ e. e)
    (λ lower. absurd (let h = get_or-le-sum_by closings m.workers w absent inside in let one : ◌≡◌ {A = ℕ} (closings (worker_at m.workers w)) 1 = ap (λ b. cond b 1 0) closed in omega (arith, h, one, k.unclosed lower)))
    (eq-or-lt_of_le k.below)

module _ (units : ℕ) (m : Machine) (k : Kept units m) (w : ℕ) (is : (worker_at m.workers w).closed ≡ false) where
  abbrev worker : Worker
  worker = worker_at m.workers w

  inside : w < length m.workers
  inside = open_inside m.workers w is

  took : m.next < units → Kept units (record { next = m.next + 1; workers = set m.workers w (record { drawn = worker.drawn ++ m.next ∷ []; closed = worker.closed }); markers = m.markers })
  took lower =
      let new : Worker = record { drawn = worker.drawn ++ m.next ∷ []; closed = worker.closed } in
      record {
        below = omega arith;
        once = λ x.
            let t = sum_by-set (λ (u : Worker). times x u.drawn) m.workers w new absent inside in
            let a : times x (worker.drawn ++ m.next ∷ []) ≡ times x worker.drawn + cond (eqb m.next x) 1 0 = sum_by_push (λ y. cond (eqb y x) 1 0) worker.drawn m.next in
            omega (arith, t, a, once_more x m.next, k.once x);
        unclosed = λ _. let t = sum_by-set closings m.workers w new absent inside in omega (arith, t, k.unclosed lower);
      }

  refused : units ≤ m.next → Kept units (record { next = m.next; workers = set m.workers w (record { drawn = worker.drawn; closed = true }); markers = m.markers })
  refused upper =
      let new : Worker = record { drawn = worker.drawn; closed = true } in
      record {
        below = k.below;
        once = λ x. let t = sum_by-set (λ (u : Worker). times x u.drawn) m.workers w new absent inside in omega (arith, t, k.once x);
        unclosed = λ lower. absurd (omega arith);
      }

  tried : (b : Bool) → ltb m.next units ≡ b → Kept units (record { next = cond b (m.next + 1) m.next; workers = set m.workers w (cond b (record { drawn = worker.drawn ++ m.next ∷ []; closed = worker.closed }) (record { drawn = worker.drawn; closed = true })); markers = m.markers })
  tried true lt = took (grind (arith, nat_tests))
  tried false lt = refused (grind (arith, nat_tests))

module _ (units : ℕ) where
  kept_draw : (m : Machine) (w : ℕ) → Kept units m → (b : Bool) → (worker_at m.workers w).closed ≡ b
      → Kept units (cond b m (record { next = cond (ltb m.next units) (m.next + 1) m.next; workers = set m.workers w (after_draw units m.next (worker_at m.workers w)); markers = m.markers }))
  kept_draw m w k true is = k
  kept_draw m w k false is = tried units m k w is (ltb m.next units) refl

  kept_mark : (m : Machine) (w bit : ℕ) → Kept units m → (b : Bool) → Kept units (cond b m (record { next = m.next; workers = m.workers; markers = m.markers ++ (bit, w) ∷ [] }))
  kept_mark m w bit k true = k
  kept_mark m w bit k false = record { below = k.below; once = k.once; unclosed = k.unclosed }

  kept_event : (e : Event) (m : Machine) → Kept units m → Kept units (event units e m)
  kept_event (Draw w) m k = kept_draw m w k (worker_at m.workers w).closed refl
  kept_event (Mark w bit) m k = kept_mark m w bit k (is_marked m.markers bit)

  kept_after : (events : List Event) (m : Machine) → Kept units m → Kept units (after units events m)
  kept_after [] m k = k
  kept_after (e ∷ es) m k = kept_after es (event units e m) (kept_event e m k)

kept_opened : (units workers : ℕ) → Kept units (opened workers)
kept_opened units workers = record {
  below = omega arith;
  once = λ x. let none : once_below x 0 ≡ 0 = grind (arith, nat_tests) in omega (arith, none, sum_by-replicate (λ (w : Worker). times x w.drawn) workers fresh);
  unclosed = λ _. omega (arith, sum_by-replicate closings workers fresh);
}

pub kept : (units workers : ℕ) (events : List Event) → Kept units (after units events (opened workers))
kept units workers events = kept_after units events (opened workers) (kept_opened units workers)

abbrev count_of : ℕ → List (ℕ × ℕ) → ℕ
count_of bit markers = count_by (λ marker. eqb marker.0 bit) markers

not_first : (bit : ℕ) (p : ℕ × ℕ) (ps : List (ℕ × ℕ)) → (is_marked ps bit ≡ false → count_of bit ps ≡ 0) → (b : Bool) → eqb p.0 bit ≡ b → (b || is_marked ps bit) ≡ false → count_of bit (p ∷ ps) ≡ 0
not_first bit p ps rest true e h = cc
not_first bit p ps rest false e h =
    let miss : ◌≡◌ {A = ℕ} (cond (eqb p.0 bit) 1 0) 0 = ap (λ b. cond b 1 0) e in
    omega (arith, miss, rest h, sum_by-cons (λ marker. cond (eqb marker.0 bit) 1 0) p ps)

not_marked : (bit : ℕ) (markers : List (ℕ × ℕ)) → is_marked markers bit ≡ false → count_of bit markers ≡ 0
not_marked bit [] h = refl
not_marked bit (p ∷ ps) h = not_first bit p ps (not_marked bit ps) (eqb p.0 bit) refl h

abbrev Single : List (ℕ × ℕ) → Type 0
Single markers = (bit : ℕ) → count_of bit markers ≤ 1

single_mark : (m : Machine) (w bit : ℕ) → Single m.markers → (b : Bool) → is_marked m.markers bit ≡ b → Single (cond b m (record { next = m.next; workers = m.workers; markers = m.markers ++ (bit, w) ∷ [] })).markers
single_mark m w bit h true is k = h k
single_mark m w bit h false is k =
    let a : count_of k (m.markers ++ (bit, w) ∷ []) ≡ count_of k m.markers + cond (eqb bit k) 1 0 = sum_by_push (λ marker. cond (eqb marker.0 k) 1 0) m.markers (bit, w) in
    dite (ℕ_discrete bit k)
    (λ same.
    let none : count_of k m.markers ≡ 0 = ap (λ j. count_of j m.markers) (sym same) ∙ not_marked bit m.markers is in
    let one : cond (eqb bit k) 1 0 ≤ 1 = grind (arith, nat_tests) in omega (arith, a, none, one))
    (λ apart. let miss : ◌≡◌ {A = ℕ} (cond (eqb bit k) 1 0) 0 = ap (λ b. cond b 1 0) (ne_eqb bit k apart) in omega (arith, a, miss, h k))

same_markers : (m n : Machine) (b : Bool) → n.markers ≡ m.markers → (cond b m n).markers ≡ m.markers
same_markers m n true e = refl
same_markers m n false e = e

single_event : (units : ℕ) (e : Event) (m : Machine) → Single m.markers → Single (event units e m).markers
single_event units (Draw w) m h = subst Single (sym (same_markers m _ (worker_at m.workers w).closed refl)) h
single_event units (Mark w bit) m h = single_mark m w bit h (is_marked m.markers bit) refl

pub single : (units : ℕ) (events : List Event) (m : Machine) → Single m.markers → Single (after units events m).markers
single units [] m h = h
single units (e ∷ es) m h = single units es (event units e m) (single_event units e m h)

grows : (m : Machine) (w bit : ℕ) (b : Bool) → (new : List (ℕ × ℕ)) × ((cond b m (record { next = m.next; workers = m.workers; markers = m.markers ++ (bit, w) ∷ [] })).markers ≡ m.markers ++ new)
grows m w bit true = ([], sym (append-nil m.markers))
grows m w bit false = ((bit, w) ∷ [], refl)

pub stays : (units : ℕ) (e : Event) (m : Machine) → (new : List (ℕ × ℕ)) × ((event units e m).markers ≡ m.markers ++ new)
stays units (Draw w) m = ([], same_markers m _ (worker_at m.workers w).closed refl ∙ sym (append-nil m.markers))
stays units (Mark w bit) m = grows m w bit (is_marked m.markers bit)
