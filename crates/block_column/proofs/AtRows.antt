-- The block of a row, and what lies in front of it.
use Rattle.std.proofs.Common.{◌≡◌, ℕ, zero, suc, ◌+◌, ◌-◌, ◌<◌, ◌≤◌, List, [], ◌∷◌, map, take, drop, length, slice_get, get_or, Some, IfSome, option_map, refl, sym, ap, subst, ◌∙◌, arith}
use Rattle.std.proofs.lemmas.List.{length-take, length-drop}
use Rattle.std.proofs.lemmas.Option.{slice_get-get_or, slice_get-map}
use Rattle.calc_addr.specs.declared.cell.TheConstants.{LAST_ROW}
use Rattle.run_tables.specs.Edges.{IsFirstPast}
use Rattle.block_column.specs.declared.slot.Slot.{Slot}
use Rattle.block_column.specs.declared.block.Kind.{Kind}
use Rattle.block_column.specs.declared.block.Block.{Block}
use Rattle.block_column.specs.declared.counts.Counts.{Counts}
use Rattle.block_column.specs.Kinds.{kind_of}
use Rattle.block_column.specs.Counting.{no_items, counted, tallied, tally, total}
use Rattle.block_column.specs.Blocks.{block_run, counts_from}
use Rattle.block_column.specs.Tables.{IsAtRow}
use Rattle.block_column.proofs.Laid.{Laid, Lies, Alike, laid-at, alike-within}
use Rattle.block_column.proofs.Tallies.{counts-at, counts-in, counted-both, total-counted}

drop-at : {X : Type 0} (a m : ℕ) (xs : List X) → slice_get (drop a xs) m ≡ slice_get xs (a + m)
drop-at zero m xs = let e : m ≡ zero + m = omega arith in ap (slice_get xs) e
drop-at (suc a) m [] = refl
drop-at (suc a) m (x ∷ xs) = let e : suc (a + m) ≡ suc a + m = omega arith in drop-at a m xs ∙ ap (slice_get (x ∷ xs)) e

alike-at : (n m : ℕ) (k : Kind) (s : List Slot) → m < n → Alike n k s → option_map kind_of (slice_get s m) ≡ Some k
alike-at zero m k s h a = absurd (omega arith)
alike-at (suc n) m k [] h a = absurd cc
alike-at (suc n) zero k (x ∷ s) h a = let e : kind_of x ≡ k = cc in ap Some e
alike-at (suc n) (suc m) k (x ∷ s) h a = let rest : Alike n k s = cc in alike-at n m k s (omega arith) rest

total-tallied : (c : Counts) (s : List Slot) → total (tallied c s) ≤ total c + length s
total-tallied c [] = omega arith
total-tallied c (x ∷ s) = omega (arith, total-tallied (counted (kind_of x) 1 c) s, total-counted (kind_of x) 1 c)

-- the block of a row: the next one begins past it
laid-reach : (p i row : ℕ) (t : List Block) (s : List Slot) (b : Block) → Laid p t s → slice_get t i ≡ Some b → row < p + length s → IfSome (slice_get (map block_run t) (suc i)) (λ r. row < r.first) → row ≤ b.last
laid-reach p i row [] s b h is within next = absurd cc
laid-reach p zero row (x ∷ []) s b h is within next =
    let same : x.last ≡ b.last = cc in
    omega (arith, ap length h.3, length-drop (x.last + 1 - p) s, h.1)
laid-reach p zero row (x ∷ y ∷ t) s b h is within next =
    let same : x.last ≡ b.last = cc in
    omega (arith, h.3.0)
laid-reach p (suc i) row (x ∷ t) s b h is within next =
    laid-reach (x.last + 1) i row t (drop (x.last + 1 - p) s) b h.3 is
    (omega (arith, length-drop (x.last + 1 - p) s, alike-within (x.last + 1 - p) x.kind s h.2, h.1)) next

pub at-some : (row i : ℕ) (t : List Block) (s : List Slot) → Laid 1 t s → 1 ≤ row → row ≤ length s → IsFirstPast row (map block_run t) i → 1 ≤ i
at-some row zero [] s h from to past = absurd (omega (arith, ap length h))
at-some row zero (b ∷ t) s h from to past = absurd (omega (arith, h.0, past.here))
at-some row (suc i) t s h from to past = omega arith

pub at-row : (row i : ℕ) (t : List Block) (s : List Slot) (c : Counts) (b d : Block) → Laid 1 t s → 1 ≤ row → row ≤ length s → length s ≤ LAST_ROW → IsFirstPast row (map block_run t) i → 1 ≤ i → i ≤ length t → b ≡ get_or t (i - 1) d → c ≡ get_or (counts_from no_items t) (i - 1) c → IsAtRow row s b c
at-row row zero t s c b d h from to fits past some within is count = absurd (omega arith)
at-row row (suc i) t s c b d h from to fits past some within is count =
    let place : suc i - 1 ≡ i = omega arith in
    let at : slice_get t i ≡ Some b = slice_get-get_or t i d (omega arith) ∙ ap Some (sym (is ∙ ap (λ j. get_or t j d) place)) in
    let counts : c ≡ get_or (counts_from no_items t) i c = count ∙ ap (λ j. get_or (counts_from no_items t) j c) place in
    let begins : b.first ≤ row = subst (λ o. IfSome o (λ r. r.first ≤ row)) (slice_get-map block_run t i ∙ ap (option_map block_run) at) (past.before i (omega arith)) in
    let ends : row ≤ b.last = laid-reach 1 i row t s b h at (omega arith) past.here in
    let lies : Lies 1 b s = laid-at 1 i t s b h at in
    let front : c ≡ tally (take (b.first - 1) s) = counts ∙ counts-at no_items c 1 i t s b h at in
    let next : row + 1 - 1 ≡ row = omega arith in
    let few : total c ≤ b.first - 1 = subst (λ v. total v ≤ b.first - 1) (sym front) (omega (arith, total-tallied no_items (take (b.first - 1) s), length-take (b.first - 1) s)) in
    let inside : b.first - 1 + (row - b.first) ≡ row - 1 = omega (arith, lies.from) in
    record {
      from = begins;
      to = ends;
      before = ap (counted b.kind (row - b.first)) counts ∙ counts-in no_items c 1 i row t s b h at begins (omega arith);
      through = ap (counted b.kind (row + 1 - b.first)) counts ∙ counts-in no_items c 1 i (row + 1) t s b h at (omega arith) (omega arith) ∙ ap (λ n. tally (take n s)) next;
      kind = ap (λ n. option_map kind_of (slice_get s n)) (sym inside) ∙ ap (option_map kind_of) (sym (drop-at (b.first - 1) (row - b.first) s)) ∙ alike-at (b.last + 1 - b.first) (row - b.first) b.kind (drop (b.first - 1) s) (omega arith) lies.kinds;
      fits = omega (arith, lies.from);
    }

-- what lies in front of the next row
pub next-count : (row : ℕ) (b : Block) (c low high : Counts) (s : List Slot) → IsAtRow row s b c → low ≡ counted b.kind (row - b.first) c → high ≡ counted b.kind 1 low → high ≡ tally (take row s)
next-count row b c low high s at l h =
    let rows : row - b.first + 1 ≡ row + 1 - b.first = omega (arith, at.from) in
    h ∙ ap (counted b.kind 1) l ∙ counted-both b.kind (row - b.first) 1 c ∙ ap (λ n. counted b.kind n c) rows ∙ at.through
