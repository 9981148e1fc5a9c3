-- Levels of cells that are in no wave.
use Rattle.std.proofs.Common.{◌≡◌, ℕ, ◌+◌, ◌<◌, ◌⊎◌, List, [], ◌∷◌, ◌++◌, length, get_or, take, inl, inr, refl, sym, ap, subst, ◌∙◌, ⊎_elim, length-append, arith}
use Rattle.std.specs.List.{All}
use Rattle.std.proofs.Math.ListN.{set}
use Rattle.std.proofs.Math.Seq.{get_or-append_seam}
use Rattle.std.proofs.lemmas.Bool.{cases_eq}
use Rattle.std.proofs.lemmas.List.{length-set}
use Rattle.std.proofs.lemmas.List.Elements.{All-more, All-push, All-weaker}
use Rattle.std.proofs.lemmas.List.Sums.{sum_by-set}
use Rattle.dirty_spread.specs.declared.look.Frame.{Frame}
use Rattle.dirty_spread.specs.Levels.{IsCircular, IsClosable, IsClosed, level}
use Rattle.dirty_spread.proofs.Orders.{level_other, level_same, new_once}

pub closed_none : (levels : List ℕ) → IsClosed levels levels
closed_none levels = record { size = refl; same = λ i ne. refl; ones = λ i e. inl e; fresh = refl }

pub closed_set : (levels : List ℕ) (i : ℕ) → i < length levels → (level levels i ≡ 1) ⊎ (level levels i ≡ 2) → IsClosed levels (set levels i 2)
closed_set levels i within was = record {
  size = length-set levels i 2;
  same = λ j ne. ⊎_elim (λ (e : j ≡ i).
      subst (λ k. level (set levels i 2) k ≡ level levels k) (sym e)
      (level_same levels i 2 within ∙ ⊎_elim (λ (one : level levels i ≡ 1). absurd (ne (ap (level levels) e ∙ one))) (λ (two : level levels i ≡ 2). sym two) was))
      (λ (other : j ≡ i → ⊥). level_other levels i j 2 other) (cases_eq j i);
  ones = λ j one. ⊎_elim (λ (e : j ≡ i). inr (subst (λ k. level (set levels i 2) k ≡ 2) (sym e) (level_same levels i 2 within)))
      (λ (other : j ≡ i → ⊥). inl (level_other levels i j 2 other ∙ one)) (cases_eq j i);
  fresh = omega (arith, sum_by-set new_once levels i 2 0 within, none);
}
  where
    none : new_once (level levels i) ≡ 0
    none = ⊎_elim (λ (one : level levels i ≡ 1). ap new_once one) (λ (two : level levels i ≡ 2). ap new_once two) was

pub closed_then : (a b c : List ℕ) → IsClosed a b → IsClosed b c → IsClosed a c
closed_then a b c one two = record {
  size = two.size ∙ one.size;
  same = λ i ne. two.same i (λ e. ne (sym (one.same i ne) ∙ e)) ∙ one.same i ne;
  ones = λ i e. ⊎_elim (λ (still : level b i ≡ 1). two.ones i still) (λ (now : level b i ≡ 2). inr (kept b c two i now)) (one.ones i e);
  fresh = two.fresh ∙ one.fresh;
}
  where
    kept : (b c : List ℕ) → IsClosed b c → (i : ℕ) → level b i ≡ 2 → level c i ≡ 2
    kept b c two i now = two.same i (λ e. absurd (omega arith)) ∙ now

pub closed_kept : (b c : List ℕ) → IsClosed b c → (i : ℕ) → level b i ≡ 2 → level c i ≡ 2
closed_kept b c two i now = two.same i (λ e. absurd (omega arith)) ∙ now

-- what may be made 2 still may be
pub closable_still : (a b : List ℕ) → IsClosed a b → (f : Frame) → IsClosable a f → IsClosable b f
closable_still a b closed f h = (
  subst (λ n. f.place < n) (sym closed.size) h.0,
  ⊎_elim (λ (one : level a f.place ≡ 1). closed.ones f.place one) (λ (two : level a f.place ≡ 2). inr (closed_kept a b closed f.place two)) h.1,
)

pub circular_still : (a b : List ℕ) → IsClosed a b → (f : Frame) → IsCircular a f → IsCircular b f
circular_still a b closed f h = closed_kept a b closed f.place h

pub closed_more : (path : List Frame) (old mid : List ℕ) (i : ℕ) (d : Frame) → i < length path → All (IsClosable old) path → IsClosed old mid → All (IsCircular mid) (take i path)
    → IsClosed old (set mid (get_or path i d).place 2) × All (IsCircular (set mid (get_or path i d).place 2)) (take (i + 1) path)
closed_more path old mid i d within may closed all =
    let f : Frame = get_or path i d in
    let here = closable_still old mid closed f (may i d within) in
    let one : IsClosed mid (set mid f.place 2) = closed_set mid f.place here.0 here.1 in (
      closed_then old mid (set mid f.place 2) closed one,
      All-more (IsCircular (set mid f.place 2)) path i d within
          (All-weaker (IsCircular mid) (IsCircular (set mid f.place 2)) (λ g h. circular_still mid (set mid f.place 2) one g h) (take i path) all)
          (level_same mid f.place 2 here.0),
    )

pub closed_path : (front : List Frame) (top : Frame) (old new : List ℕ) → All (IsClosable old) (front ++ top ∷ []) → IsClosed (set old top.place 2) new → All (IsCircular new) front → IsClosed old new × All (IsCircular new) (front ++ top ∷ [])
closed_path front top old new may closed all =
    let here : IsClosable old top = subst (IsClosable old) (get_or-append_seam front top [] top) (may (length front) top (omega (arith, length-append front (top ∷ [])))) in (
      closed_then old (set old top.place 2) new (closed_set old top.place here.0 here.1) closed,
      All-push (IsCircular new) front top all (circular_still (set old top.place 2) new closed top (level_same old top.place 2 here.0)),
    )
