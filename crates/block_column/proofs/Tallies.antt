-- How many items of each kind lie in front of a row.
use Rattle.std.proofs.Common.{◌≡◌, ℕ, zero, suc, ◌+◌, ◌-◌, ◌≤◌, List, [], ◌∷◌, ◌++◌, map, take, drop, length, replicate, slice_get, get_or, Some, refl, sym, ap, ◌∙◌, arith}
use Rattle.std.specs.List.{filter_map}
use Rattle.std.proofs.Math.Seq.{take-add}
use Rattle.block_column.specs.declared.slot.Slot.{Slot}
use Rattle.block_column.specs.declared.slot.Slot.TheVariants as slot
use Rattle.block_column.specs.declared.block.Kind.{Kind}
use Rattle.block_column.specs.declared.block.Kind.TheVariants.{Empty, Number, Words, Bad, Raw, Formula}
use Rattle.block_column.specs.declared.block.Block.{Block}
use Rattle.block_column.specs.declared.counts.Counts.{Counts}
use Rattle.block_column.specs.Kinds.{kind_of}
use Rattle.block_column.specs.Counting.{total, counted, tallied}
use Rattle.block_column.specs.Stores.{a_number, a_text, a_fault, a_raw, a_code, IsOneRow}
use Rattle.block_column.specs.Blocks.{counts_from}
use Rattle.block_column.proofs.Laid.{Laid, Lies, laid-at, alike-fewer}

-- d counts the items of s on from c
pub record CountsOn (c d : Counts) (s : List Slot) : Type 0 where
  pub numbers : d.numbers ≡ c.numbers + length (filter_map a_number s)
  pub words : d.words ≡ c.words + length (filter_map a_text s)
  pub bad : d.bad ≡ c.bad + length (filter_map a_fault s)
  pub raw : d.raw ≡ c.raw + length (filter_map a_raw s)
  pub codes : d.codes ≡ c.codes + length (filter_map a_code s)

pub counts-on : (c : Counts) (s : List Slot) → CountsOn c (tallied c s) s
counts-on c [] = record { numbers = omega arith; words = omega arith; bad = omega arith; raw = omega arith; codes = omega arith }
counts-on c (slot.Empty ∷ s) = let h = counts-on c s in record { numbers = h.numbers; words = h.words; bad = h.bad; raw = h.raw; codes = h.codes }
counts-on c (slot.Number n ∷ s) = let h = counts-on (counted Number 1 c) s in record { numbers = omega (arith, h.numbers); words = h.words; bad = h.bad; raw = h.raw; codes = h.codes }
counts-on c (slot.Words text ∷ s) = let h = counts-on (counted Words 1 c) s in record { numbers = h.numbers; words = omega (arith, h.words); bad = h.bad; raw = h.raw; codes = h.codes }
counts-on c (slot.Bad fault ∷ s) = let h = counts-on (counted Bad 1 c) s in record { numbers = h.numbers; words = h.words; bad = omega (arith, h.bad); raw = h.raw; codes = h.codes }
counts-on c (slot.Raw text ∷ s) = let h = counts-on (counted Raw 1 c) s in record { numbers = h.numbers; words = h.words; bad = h.bad; raw = omega (arith, h.raw); codes = h.codes }
counts-on c (slot.Formula id ∷ s) = let h = counts-on (counted Formula 1 c) s in record { numbers = h.numbers; words = h.words; bad = h.bad; raw = h.raw; codes = omega (arith, h.codes) }

pub tallied-append : (c : Counts) (xs ys : List Slot) → tallied c (xs ++ ys) ≡ tallied (tallied c xs) ys
tallied-append c [] ys = refl
tallied-append c (x ∷ xs) ys = tallied-append (counted (kind_of x) 1 c) xs ys

pub counted-both : (k : Kind) (m n : ℕ) (c : Counts) → counted k n (counted k m c) ≡ counted k (m + n) c
counted-both Empty m n c = refl
counted-both Number m n c = let e : c.numbers + m + n ≡ c.numbers + (m + n) = omega arith in ap (λ v. record c { numbers = v }) e
counted-both Words m n c = let e : c.words + m + n ≡ c.words + (m + n) = omega arith in ap (λ v. record c { words = v }) e
counted-both Bad m n c = let e : c.bad + m + n ≡ c.bad + (m + n) = omega arith in ap (λ v. record c { bad = v }) e
counted-both Raw m n c = let e : c.raw + m + n ≡ c.raw + (m + n) = omega arith in ap (λ v. record c { raw = v }) e
counted-both Formula m n c = let e : c.codes + m + n ≡ c.codes + (m + n) = omega arith in ap (λ v. record c { codes = v }) e

counted-none : (k : Kind) (c : Counts) → counted k 0 c ≡ c
counted-none Empty c = refl
counted-none Number c = let e : c.numbers + 0 ≡ c.numbers = omega arith in ap (λ m. record c { numbers = m }) e
counted-none Words c = let e : c.words + 0 ≡ c.words = omega arith in ap (λ m. record c { words = m }) e
counted-none Bad c = let e : c.bad + 0 ≡ c.bad = omega arith in ap (λ m. record c { bad = m }) e
counted-none Raw c = let e : c.raw + 0 ≡ c.raw = omega arith in ap (λ m. record c { raw = m }) e
counted-none Formula c = let e : c.codes + 0 ≡ c.codes = omega arith in ap (λ m. record c { codes = m }) e

-- slots of one kind
tallied-alike : (n : ℕ) (k : Kind) (c : Counts) (xs : List Slot) → map kind_of xs ≡ replicate n k → tallied c xs ≡ counted k n c
tallied-alike zero k c [] h = sym (counted-none k c)
tallied-alike zero k c (x ∷ xs) h = absurd cc
tallied-alike (suc n) k c [] h = absurd cc
tallied-alike (suc n) k c (x ∷ xs) h =
    let kind : kind_of x ≡ k = cc in
    let others : map kind_of xs ≡ replicate n k = cc in
    let one : 1 + n ≡ suc n = omega arith in
    ap (λ j. tallied (counted j 1 c) xs) kind ∙ tallied-alike n k (counted k 1 c) xs others ∙ counted-both k 1 n c ∙ ap (λ v. counted k v c) one

pub total-counted : (k : Kind) (n : ℕ) (c : Counts) → total (counted k n c) ≤ total c + n
total-counted Empty n c = omega arith
total-counted Number n c = omega arith
total-counted Words n c = omega arith
total-counted Bad n c = omega arith
total-counted Raw n c = omega arith
total-counted Formula n c = omega arith

pub one-row : (k : Kind) (c : Counts) → IsOneRow c (counted k 1 c)
one-row Empty c = record { numbers = omega arith; words = omega arith; bad = omega arith; raw = omega arith; codes = omega arith }
one-row Number c = record { numbers = omega arith; words = omega arith; bad = omega arith; raw = omega arith; codes = omega arith }
one-row Words c = record { numbers = omega arith; words = omega arith; bad = omega arith; raw = omega arith; codes = omega arith }
one-row Bad c = record { numbers = omega arith; words = omega arith; bad = omega arith; raw = omega arith; codes = omega arith }
one-row Raw c = record { numbers = omega arith; words = omega arith; bad = omega arith; raw = omega arith; codes = omega arith }
one-row Formula c = record { numbers = omega arith; words = omega arith; bad = omega arith; raw = omega arith; codes = omega arith }

-- what is counted in front of a block
pub counts-at : (c d : Counts) (p i : ℕ) (t : List Block) (s : List Slot) (b : Block) → Laid p t s → slice_get t i ≡ Some b → get_or (counts_from c t) i d ≡ tallied c (take (b.first - p) s)
counts-at c d p i [] s b h is = absurd cc
counts-at c d p zero (x ∷ t) s b h is =
    let same : x ≡ b = cc in
    let none : zero ≡ b.first - p = omega (arith, h.0, ap (λ (v : Block). v.first) same) in
    ap (λ n. tallied c (take n s)) none
counts-at c d p (suc i) (x ∷ t) s b h is =
    let n : ℕ = x.last + 1 - p in
    let m : ℕ = b.first - (x.last + 1) in
    let lies : Lies (x.last + 1) b (drop n s) = laid-at (x.last + 1) i t (drop n s) b h.3 is in
    let reach : n + m ≡ b.first - p = omega (arith, lies.from, h.1) in
    let here : counted x.kind (x.last + 1 - x.first) c ≡ tallied c (take n s) = ap (λ q. counted x.kind (x.last + 1 - q) c) h.0 ∙ sym (tallied-alike n x.kind c (take n s) h.2) in
    ap (λ e. get_or (counts_from e t) i d) here
    ∙ counts-at (tallied c (take n s)) d (x.last + 1) i t (drop n s) b h.3 is
    ∙ sym (tallied-append c (take n s) (take m (drop n s)))
    ∙ ap (tallied c) (sym (take-add n m s))
    ∙ ap (λ v. tallied c (take v s)) reach

-- what is counted in front of a row of a block
pub counts-in : (c d : Counts) (p i q : ℕ) (t : List Block) (s : List Slot) (b : Block) → Laid p t s → slice_get t i ≡ Some b → b.first ≤ q → q ≤ b.last + 1 → counted b.kind (q - b.first) (get_or (counts_from c t) i d) ≡ tallied c (take (q - p) s)
counts-in c d p i q t s b h is from to =
    let lies : Lies p b s = laid-at p i t s b h is in
    let a : ℕ = b.first - p in
    let m : ℕ = q - b.first in
    let reach : a + m ≡ q - p = omega (arith, lies.from) in
    ap (counted b.kind m) (counts-at c d p i t s b h is)
    ∙ sym (tallied-alike m b.kind (tallied c (take a s)) (take m (drop a s)) (alike-fewer (b.last + 1 - b.first) m b.kind (drop a s) (omega arith) lies.kinds))
    ∙ sym (tallied-append c (take a s) (take m (drop a s)))
    ∙ ap (tallied c) (sym (take-add a m s))
    ∙ ap (λ v. tallied c (take v s)) reach
