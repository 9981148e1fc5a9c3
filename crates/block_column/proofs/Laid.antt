-- Blocks that lie on the rows of a column one behind the other.
use Rattle.std.proofs.Common.{◌≡◌, ℕ, zero, suc, ◌+◌, ◌-◌, ◌≤◌, Bool, true, false, List, [], ◌∷◌, ◌++◌, map, take, drop, length, replicate, slice_get, Some, refl, sym, ap, subst, ◌∙◌, arith}
use Rattle.std.proofs.lemmas.List.{map-append, take-append-drop, length-map, length-replicate, drop-drop, length-take, take-take, take-map, take-replicate}
use Rattle.run_tables.specs.Runs.{Run, touches, meet, runs_from}
use Rattle.run_tables.proofs.RunLists.{meet-true, meet-false, one_row, touching_key}
use Rattle.block_column.specs.declared.slot.Slot.{Slot}
use Rattle.block_column.specs.declared.block.Kind.{Kind}
use Rattle.block_column.specs.declared.block.Block.{Block}
use Rattle.block_column.specs.Kinds.{kind_of, same_kind}
use Rattle.block_column.specs.KindTests.{kinds-decided}
use Rattle.block_column.specs.Blocks.{a_block, kind_key, blocks_of, block_kinds}

-- the first n slots have one kind
abbrev pub Alike : ℕ → Kind → List Slot → Type 0
Alike n k s = map kind_of (take n s) ≡ replicate n k

-- the blocks lie on the slots, of which the first is that of row p
abbrev pub Laid : ℕ → List Block → List Slot → Type 0
Laid p [] s = s ≡ []
Laid p (b ∷ t) s = (b.first ≡ p) × (p ≤ b.last) × Alike (b.last + 1 - p) b.kind s × Laid (b.last + 1) t (drop (b.last + 1 - p) s)

lay : (p n : ℕ) (b : Block) (t : List Block) (s : List Slot) → b.first ≡ p → b.last + 1 ≡ p + n → 1 ≤ n → Alike n b.kind s → Laid (b.last + 1) t (drop n s) → Laid p (b ∷ t) s
lay p n b t s f l h k rest =
    let e : n ≡ b.last + 1 - p = omega arith in
    (f, omega arith, subst (λ m. Alike m b.kind s) e k, subst (λ m. Laid (b.last + 1) t (drop m s)) e rest)

abbrev row_run : ℕ → Slot → Run Kind
row_run p x = one_row same_kind kinds-decided p (kind_of x)

laid-meet_at : (p : ℕ) (x : Slot) (s : List Slot) (y : Run Kind) (t : List (Run Kind)) → Laid (p + 1) (map a_block (y ∷ t)) s → (b : Bool) → touches same_kind (row_run p x) y ≡ b → Laid p (map a_block (meet same_kind (row_run p x) (y ∷ t))) (x ∷ s)
laid-meet_at p x s y t h false e =
    subst (λ v. Laid p (map a_block v) (x ∷ s)) (sym (meet-false same_kind kinds-decided (row_run p x) y t e))
    (lay p 1 (a_block (row_run p x)) (map a_block (y ∷ t)) (x ∷ s) refl refl (omega arith) refl h)
laid-meet_at p x s y t h true e =
    let m : ℕ = y.last + 1 - (p + 1) in
    let key : kind_of x ≡ y.key = touching_key same_kind kinds-decided (row_run p x) y e in
    let both : Alike (suc m) (kind_of x) (x ∷ s) = ap (λ v. kind_of x ∷ v) (h.2 ∙ ap (replicate m) (sym key)) in
    subst (λ v. Laid p (map a_block v) (x ∷ s)) (sym (meet-true same_kind kinds-decided (row_run p x) y t e))
    (lay p (suc m) (a_block (record { first = p; last = y.last; key = kind_of x })) (map a_block t) (x ∷ s) refl (omega (arith, h.1)) (omega arith) both h.3)

laid-meet : (p : ℕ) (x : Slot) (s : List Slot) (t : List (Run Kind)) → Laid (p + 1) (map a_block t) s → Laid p (map a_block (meet same_kind (row_run p x) t)) (x ∷ s)
laid-meet p x s [] h = lay p 1 (a_block (row_run p x)) [] (x ∷ s) refl refl (omega arith) refl h
laid-meet p x s (y ∷ t) h = laid-meet_at p x s y t h (touches same_kind (row_run p x) y) refl

laid-runs : (p : ℕ) (s : List Slot) → Laid p (map a_block (runs_from same_kind p (map kind_key s))) s
laid-runs p [] = refl
laid-runs p (x ∷ s) = laid-meet p x s (runs_from same_kind (p + 1) (map kind_key s)) (laid-runs (p + 1) s)

pub laid-blocks : (s : List Slot) → Laid 1 (blocks_of s) s
laid-blocks s = laid-runs 1 s

pub alike-within : (n : ℕ) (k : Kind) (s : List Slot) → Alike n k s → n ≤ length s
alike-within n k s h = omega (arith, ap length h, length-map (take n s) kind_of, length-replicate n k, length-take n s)

pub alike-fewer : (n m : ℕ) (k : Kind) (s : List Slot) → m ≤ n → Alike n k s → Alike m k s
alike-fewer n m k s le h = ap (map kind_of) (sym (take-take m n s le)) ∙ sym (take-map kind_of m (take n s)) ∙ ap (take m) h ∙ take-replicate m n k le

-- the kinds of the rows
pub laid-kinds : (p : ℕ) (t : List Block) (s : List Slot) → Laid p t s → block_kinds t ≡ map kind_of s
laid-kinds p [] s h = sym (ap (map kind_of) h)
laid-kinds p (b ∷ t) s h =
    let n : ℕ = b.last + 1 - p in
    ap (λ q. replicate (b.last + 1 - q) b.kind ++ block_kinds t) h.0
    ∙ ap (λ v. v ++ block_kinds t) (sym h.2)
    ∙ ap (λ v. map kind_of (take n s) ++ v) (laid-kinds (b.last + 1) t (drop n s) h.3)
    ∙ sym (map-append kind_of (take n s) (drop n s))
    ∙ ap (map kind_of) (take-append-drop n s)

-- a block of those that lie on the slots
pub record Lies (p : ℕ) (b : Block) (s : List Slot) : Type 0 where
  pub from : p ≤ b.first
  pub in_order : b.first ≤ b.last
  pub kinds : Alike (b.last + 1 - b.first) b.kind (drop (b.first - p) s)

pub laid-at : (p i : ℕ) (t : List Block) (s : List Slot) (b : Block) → Laid p t s → slice_get t i ≡ Some b → Lies p b s
laid-at p i [] s b h is = absurd cc
laid-at p zero (x ∷ t) s b h is =
    let same : x ≡ b = cc in
    let zero_rows : zero ≡ x.first - p = omega (arith, h.0) in
    subst (λ v. Lies p v s) same (record {
      from = omega (arith, h.0);
      in_order = omega (arith, h.0, h.1);
      kinds = subst (λ n. Alike (x.last + 1 - x.first) x.kind (drop n s)) zero_rows (subst (λ q. Alike (x.last + 1 - q) x.kind s) (sym h.0) h.2);
    })
laid-at p (suc i) (x ∷ t) s b h is =
    let rest : Lies (x.last + 1) b (drop (x.last + 1 - p) s) = laid-at (x.last + 1) i t (drop (x.last + 1 - p) s) b h.3 is in
    let reach : x.last + 1 - p + (b.first - (x.last + 1)) ≡ b.first - p = omega (arith, rest.from, h.1) in
    record {
      from = omega (arith, rest.from, h.1);
      in_order = rest.in_order;
      kinds = subst (Alike (b.last + 1 - b.first) b.kind) (drop-drop (b.first - (x.last + 1)) (x.last + 1 - p) s ∙ ap (λ n. drop n s) reach) rest.kinds;
    }
