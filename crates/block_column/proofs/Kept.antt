-- A table of a column gives the column's slots back, before an edit and after it.
use Rattle.std.proofs.Common.{◌≡◌, ℕ, zero, suc, ◌+◌, ◌-◌, ◌<◌, ◌≤◌, List, [], ◌∷◌, ◌++◌, map, take, drop, length, replicate, slice_get, Option, Some, None, IsSome, option_map, vec_len, refl, sym, ap, subst, ◌∙◌, arith}
use Rattle.std.specs.List.{filter_map}
use Rattle.std.proofs.lemmas.List.{map-append, take-map, drop-map, length-map, length-replicate}
use Rattle.calc_addr.specs.declared.cell.TheConstants.{LAST_ROW}
use Rattle.run_tables.specs.Rows.{spliced}
use Rattle.run_tables.specs.Runs.{Run, runs_of}
use Rattle.run_tables.proofs.RunLists.{runs-filled}
use Rattle.run_tables.proofs.RowEdits.{length-spliced}
use Rattle.block_column.specs.declared.slot.Slot.{Slot}
use Rattle.block_column.specs.declared.slot.Slot.TheVariants as slot
use Rattle.block_column.specs.declared.block.Kind.{Kind}
use Rattle.block_column.specs.declared.block.Kind.TheVariants.{Empty}
use Rattle.block_column.specs.declared.block.Block.{Block}
use Rattle.block_column.specs.declared.counts.Counts.{Counts}
use Rattle.block_column.specs.declared.more.More.{More}
use Rattle.block_column.specs.declared.stores.Stores.{Stores}
use Rattle.block_column.specs.declared.table.Table.{Table}
use Rattle.block_column.specs.Kinds.{kind_of, same_kind}
use Rattle.block_column.specs.Counting.{no_items, tally}
use Rattle.block_column.specs.Stores.{Gives, Holds, CanReplace, IsReplaced, KeepsRoom, a_number, a_text, a_fault, a_raw, a_code}
use Rattle.block_column.specs.Blocks.{block_run, a_block, block_kinds, blocks_of, counts_from, kind_key, woven}
use Rattle.block_column.specs.Tables.{AreBlocks, IsTableOf, IsTable, slots_of, stored_slot}
use Rattle.block_column.specs.KindTests.{kinds-decided}
use Rattle.block_column.proofs.Filtered.{filter-rows_none}
use Rattle.block_column.proofs.Items.{picked-edit, picked-at, ahead, ahead-all, ahead-order}
use Rattle.block_column.proofs.Laid.{Laid, laid-blocks, laid-kinds}
use Rattle.block_column.proofs.Tallies.{CountsOn, counts-on}
use Rattle.block_column.proofs.Woven.{woven-back}

runs-blocks : (t : List (Run Kind)) → map block_run (map a_block t) ≡ t
runs-blocks [] = refl
runs-blocks (r ∷ t) = ap (λ v. r ∷ v) (runs-blocks t)

blocks-runs : (t : List Block) → map a_block (map block_run t) ≡ t
blocks-runs [] = refl
blocks-runs (b ∷ t) = ap (λ v. b ∷ v) (blocks-runs t)

keys : (s : List Slot) → map kind_key s ≡ map Some (map kind_of s)
keys [] = refl
keys (x ∷ s) = ap (λ v. Some (kind_of x) ∷ v) (keys s)

pub table-laid : (t : List Block) (s : List Slot) → t ≡ blocks_of s → Laid 1 t s
table-laid t s e = subst (λ v. Laid 1 v s) (sym e) (laid-blocks s)

pub table-kinds : (t : List Block) (s : List Slot) → t ≡ blocks_of s → block_kinds t ≡ map kind_of s
table-kinds t s e = laid-kinds 1 t s (table-laid t s e)

table-runs : (t : List Block) (s : List Slot) → t ≡ blocks_of s → map block_run t ≡ runs_of same_kind (map Some (block_kinds t))
table-runs t s e =
    ap (map block_run) e ∙ runs-blocks (runs_of same_kind (map kind_key s))
    ∙ ap (runs_of same_kind) (keys s ∙ ap (map Some) (sym (table-kinds t s e)))

pub are-blocks : (t : Table) (s : List Slot) → IsTableOf t s → AreBlocks t.blocks.items
are-blocks t s h = record {
  runs = table-runs t.blocks.items s h.blocks;
  rows = omega (arith, h.rows, ap length (table-kinds t.blocks.items s h.blocks), length-map s kind_of);
}

pub slots-back : (t : Table) (s : List Slot) → IsTableOf t s → slots_of t ≡ s
unfolding slots_of
slots-back t s h =
    ap (λ k. woven k t.stores.numbers.items t.stores.words.items t.stores.bad.items t.stores.raw.items t.stores.codes.items) (table-kinds t.blocks.items s h.blocks)
    ∙ ap (λ v. woven (map kind_of s) v t.stores.words.items t.stores.bad.items t.stores.raw.items t.stores.codes.items) h.stores.numbers
    ∙ ap (λ v. woven (map kind_of s) (filter_map a_number s) v t.stores.bad.items t.stores.raw.items t.stores.codes.items) h.stores.words
    ∙ ap (λ v. woven (map kind_of s) (filter_map a_number s) (filter_map a_text s) v t.stores.raw.items t.stores.codes.items) h.stores.bad
    ∙ ap (λ v. woven (map kind_of s) (filter_map a_number s) (filter_map a_text s) (filter_map a_fault s) v t.stores.codes.items) h.stores.raw
    ∙ ap (λ v. woven (map kind_of s) (filter_map a_number s) (filter_map a_text s) (filter_map a_fault s) (filter_map a_raw s) v) h.stores.codes
    ∙ woven-back s

pub table-again : (t : Table) (s : List Slot) → IsTableOf t s → IsTable t
table-again t s h = subst (IsTableOf t) (sym (slots-back t s h)) h

-- the places of a store that lie in front of two rows
pub can-replace : (t : Stores) (s : List Slot) (a b : ℕ) (low high : Counts) → Holds t s → a ≤ b → low ≡ tally (take a s) → high ≡ tally (take b s) → CanReplace t low high
can-replace t s a b low high h order l u =
    let from : CountsOn no_items (tally (take a s)) (take a s) = counts-on no_items (take a s) in
    let to : CountsOn no_items (tally (take b s)) (take b s) = counts-on no_items (take b s) in
    record {
      numbers = (omega (arith, ap (λ (c : Counts). c.numbers) l, ap (λ (c : Counts). c.numbers) u, from.numbers, to.numbers, ahead-order a_number a b s order), omega (arith, ap (λ (c : Counts). c.numbers) u, to.numbers, ahead-all a_number b s, ap length h.numbers));
      words = (omega (arith, ap (λ (c : Counts). c.words) l, ap (λ (c : Counts). c.words) u, from.words, to.words, ahead-order a_text a b s order), omega (arith, ap (λ (c : Counts). c.words) u, to.words, ahead-all a_text b s, ap length h.words));
      bad = (omega (arith, ap (λ (c : Counts). c.bad) l, ap (λ (c : Counts). c.bad) u, from.bad, to.bad, ahead-order a_fault a b s order), omega (arith, ap (λ (c : Counts). c.bad) u, to.bad, ahead-all a_fault b s, ap length h.bad));
      raw = (omega (arith, ap (λ (c : Counts). c.raw) l, ap (λ (c : Counts). c.raw) u, from.raw, to.raw, ahead-order a_raw a b s order), omega (arith, ap (λ (c : Counts). c.raw) u, to.raw, ahead-all a_raw b s, ap length h.raw));
      codes = (omega (arith, ap (λ (c : Counts). c.codes) l, ap (λ (c : Counts). c.codes) u, from.codes, to.codes, ahead-order a_code a b s order), omega (arith, ap (λ (c : Counts). c.codes) u, to.codes, ahead-all a_code b s, ap length h.codes));
    }

-- the items of a column after an edit
pub replaced : (old new : Stores) (s more : List Slot) (a b : ℕ) (low high : Counts) → Holds old s → low ≡ tally (take a s) → high ≡ tally (take b s) → IsReplaced old new low high more → Holds new (take a s ++ (more ++ drop b s))
replaced old new s more a b low high h l u is =
    let from : CountsOn no_items (tally (take a s)) (take a s) = counts-on no_items (take a s) in
    let to : CountsOn no_items (tally (take b s)) (take b s) = counts-on no_items (take b s) in
    record {
      numbers = is.numbers ∙ ap (λ v. take low.numbers v ++ (filter_map a_number more ++ drop high.numbers v)) h.numbers
          ∙ picked-edit a_number a b low.numbers high.numbers s more (omega (arith, ap (λ (c : Counts). c.numbers) l, from.numbers)) (omega (arith, ap (λ (c : Counts). c.numbers) u, to.numbers));
      words = is.words ∙ ap (λ v. take low.words v ++ (filter_map a_text more ++ drop high.words v)) h.words
          ∙ picked-edit a_text a b low.words high.words s more (omega (arith, ap (λ (c : Counts). c.words) l, from.words)) (omega (arith, ap (λ (c : Counts). c.words) u, to.words));
      bad = is.bad ∙ ap (λ v. take low.bad v ++ (filter_map a_fault more ++ drop high.bad v)) h.bad
          ∙ picked-edit a_fault a b low.bad high.bad s more (omega (arith, ap (λ (c : Counts). c.bad) l, from.bad)) (omega (arith, ap (λ (c : Counts). c.bad) u, to.bad));
      raw = is.raw ∙ ap (λ v. take low.raw v ++ (filter_map a_raw more ++ drop high.raw v)) h.raw
          ∙ picked-edit a_raw a b low.raw high.raw s more (omega (arith, ap (λ (c : Counts). c.raw) l, from.raw)) (omega (arith, ap (λ (c : Counts). c.raw) u, to.raw));
      codes = is.codes ∙ ap (λ v. take low.codes v ++ (filter_map a_code more ++ drop high.codes v)) h.codes
          ∙ picked-edit a_code a b low.codes high.codes s more (omega (arith, ap (λ (c : Counts). c.codes) l, from.codes)) (omega (arith, ap (λ (c : Counts). c.codes) u, to.codes));
    }

map-replicate : {X Y : Type 0} (f : X → Y) (n : ℕ) (x : X) → map f (replicate n x) ≡ replicate n (f x)
map-replicate f zero x = refl
map-replicate f (suc n) x = ap (λ v. f x ∷ v) (map-replicate f n x)

map-spliced : {X Y : Type 0} (f : X → Y) (a b n : ℕ) (e : X) (s : List X) → map f (spliced a b n e s) ≡ spliced a b n (f e) (map f s)
map-spliced f a b n e s =
    map-append f (take a s) (replicate n e ++ drop b s)
    ∙ ap (λ v. v ++ map f (replicate n e ++ drop b s)) (sym (take-map f a s))
    ∙ ap (λ v. take a (map f s) ++ v)
    (map-append f (replicate n e) (drop b s) ∙ ap (λ v. v ++ map f (drop b s)) (map-replicate f n e) ∙ ap (λ v. replicate n (f e) ++ v) (sym (drop-map f b s)))

-- the blocks of a column after an edit
edited-blocks : (t u : List Block) (s : List Slot) (a b n : ℕ) (e : Slot) → t ≡ blocks_of s → map block_run u ≡ runs_of same_kind (spliced a b n (Some (kind_of e)) (map Some (block_kinds t))) → u ≡ blocks_of (spliced a b n e s)
edited-blocks t u s a b n e kept runs =
    sym (blocks-runs u)
    ∙ ap (map a_block)
    (runs ∙ ap (λ v. runs_of same_kind (spliced a b n (Some (kind_of e)) v)) (ap (map Some) (table-kinds t s kept) ∙ sym (keys s))
    ∙ ap (runs_of same_kind) (sym (map-spliced kind_key a b n e s)))

pub table-edited : (t u : Table) (old : Stores) (s : List Slot) (a b n : ℕ) (e : Slot) (low high : Counts) → IsTableOf t s → Holds old s → a ≤ b → b ≤ length s → a + n + (length s - b) ≤ LAST_ROW
    → map block_run u.blocks.items ≡ runs_of same_kind (spliced a b n (Some (kind_of e)) (map Some (block_kinds t.blocks.items))) → u.counts.items ≡ counts_from no_items u.blocks.items → vec_len u.counts ≡ vec_len u.blocks
    → low ≡ tally (take a s) → high ≡ tally (take b s) → IsReplaced old u.stores low high (replicate n e) → IsTableOf u (spliced a b n e s)
table-edited t u old s a b n e low high h held order within fits runs counts places l r is = record {
  blocks = edited-blocks t.blocks.items u.blocks.items s a b n e h.blocks runs;
  counts = counts;
  places = places;
  stores = replaced old u.stores s (replicate n e) a b low high held l r is;
  rows = omega (arith, length-spliced a b n e s (omega arith));
}

-- stores with more room
pub holds-still : (t u : Stores) (s : List Slot) → Holds t s → KeepsRoom t u → Holds u s
holds-still t u s h k = record {
  numbers = k.numbers ∙ h.numbers;
  words = k.words ∙ h.words;
  bad = k.bad ∙ h.bad;
  raw = k.raw ∙ h.raw;
  codes = k.codes ∙ h.codes;
}

-- the item of a row
stored-some : (t : Stores) (s : List Slot) (a : ℕ) (x : Slot) → Holds t s → slice_get s a ≡ Some x → stored_slot t (kind_of x) (tally (take a s)) ≡ Some x
stored-some t s a slot.Empty h is = refl
stored-some t s a (slot.Number n) h is =
    let on : CountsOn no_items (tally (take a s)) (take a s) = counts-on no_items (take a s) in
    let place : (tally (take a s)).numbers ≡ ahead a_number a s = omega (arith, on.numbers) in
    ap (λ v. option_map slot.Number (slice_get v (tally (take a s)).numbers)) h.numbers ∙ ap (λ i. option_map slot.Number (slice_get (filter_map a_number s) i)) place ∙ ap (option_map slot.Number) (picked-at a_number a s (slot.Number n) n is refl)
stored-some t s a (slot.Words text) h is =
    let on : CountsOn no_items (tally (take a s)) (take a s) = counts-on no_items (take a s) in
    let place : (tally (take a s)).words ≡ ahead a_text a s = omega (arith, on.words) in
    ap (λ v. option_map slot.Words (slice_get v (tally (take a s)).words)) h.words ∙ ap (λ i. option_map slot.Words (slice_get (filter_map a_text s) i)) place ∙ ap (option_map slot.Words) (picked-at a_text a s (slot.Words text) text is refl)
stored-some t s a (slot.Bad fault) h is =
    let on : CountsOn no_items (tally (take a s)) (take a s) = counts-on no_items (take a s) in
    let place : (tally (take a s)).bad ≡ ahead a_fault a s = omega (arith, on.bad) in
    ap (λ v. option_map slot.Bad (slice_get v (tally (take a s)).bad)) h.bad ∙ ap (λ i. option_map slot.Bad (slice_get (filter_map a_fault s) i)) place ∙ ap (option_map slot.Bad) (picked-at a_fault a s (slot.Bad fault) fault is refl)
stored-some t s a (slot.Raw text) h is =
    let on : CountsOn no_items (tally (take a s)) (take a s) = counts-on no_items (take a s) in
    let place : (tally (take a s)).raw ≡ ahead a_raw a s = omega (arith, on.raw) in
    ap (λ v. option_map slot.Raw (slice_get v (tally (take a s)).raw)) h.raw ∙ ap (λ i. option_map slot.Raw (slice_get (filter_map a_raw s) i)) place ∙ ap (option_map slot.Raw) (picked-at a_raw a s (slot.Raw text) text is refl)
stored-some t s a (slot.Formula id) h is =
    let on : CountsOn no_items (tally (take a s)) (take a s) = counts-on no_items (take a s) in
    let place : (tally (take a s)).codes ≡ ahead a_code a s = omega (arith, on.codes) in
    ap (λ v. option_map slot.Formula (slice_get v (tally (take a s)).codes)) h.codes ∙ ap (λ i. option_map slot.Formula (slice_get (filter_map a_code s) i)) place ∙ ap (option_map slot.Formula) (picked-at a_code a s (slot.Formula id) id is refl)

pub stored-at : (t : Stores) (s : List Slot) (a : ℕ) (k : Kind) (c : Counts) → Holds t s → option_map kind_of (slice_get s a) ≡ Some k → c ≡ tally (take a s) → stored_slot t k c ≡ slice_get s a
stored-at t s a k c h kind is = found (slice_get s a) refl
  where
    found : (o : Option Slot) → slice_get s a ≡ o → stored_slot t k c ≡ slice_get s a
    found None e = let none : None ≡ Some k = sym (ap (option_map kind_of) e) ∙ kind in absurd cc
    found (Some x) e =
        let same : Some (kind_of x) ≡ Some k = sym (ap (option_map kind_of) e) ∙ kind in
        let key : k ≡ kind_of x = cc in
        ap (stored_slot t k) is ∙ ap (λ j. stored_slot t j (tally (take a s))) key ∙ stored-some t s a x h e ∙ sym e

pub is-some : {X : Type 0} (o : Option X) (s : List X) (a : ℕ) → o ≡ slice_get s a → a < length s → IsSome o
is-some None [] a e h = absurd (omega arith)
is-some None (x ∷ s) zero e h = absurd cc
is-some None (x ∷ s) (suc a) e h = is-some None s a e (omega arith)
is-some (Some x) s a e h = refl

-- a row that keeps its kind
pub same-row : (t : List Block) (a b : ℕ) (old new : Kind) → slice_get (block_kinds t) a ≡ Some old → old ≡ new → b ≡ suc a → map block_run t ≡ runs_of same_kind (map Some (block_kinds t)) → map block_run t ≡ runs_of same_kind (spliced a b 1 (Some new) (map Some (block_kinds t)))
same-row t a b old new is same next runs =
    runs
    ∙ ap (runs_of same_kind)
    (sym (put-back (map Some (block_kinds t)) a (Some new) (kept (block_kinds t) a (is ∙ ap Some same)))
    ∙ ap (λ n. take a (map Some (block_kinds t)) ++ Some new ∷ drop n (map Some (block_kinds t))) (sym next))
  where
    kept : {X : Type 0} (s : List X) (i : ℕ) {x : X} → slice_get s i ≡ Some x → slice_get (map Some s) i ≡ Some (Some x)
    kept [] i e = absurd cc
    kept (y ∷ s) zero e = ap Some e
    kept (y ∷ s) (suc i) e = kept s i e

    put-back : {X : Type 0} (s : List X) (i : ℕ) (x : X) → slice_get s i ≡ Some x → take i s ++ x ∷ drop (suc i) s ≡ s
    put-back [] i x e = absurd cc
    put-back (y ∷ s) zero x e = let first : x ≡ y = cc in ap (λ v. v ∷ s) first
    put-back (y ∷ s) (suc i) x e = ap (λ v. y ∷ v) (put-back s i x e)

-- rows that are all empty
pub empty-table : (t : Table) (n m : ℕ) → n ≡ suc m → n ≤ LAST_ROW → t.blocks.items ≡ record { first = 1; last = n; kind = Empty } ∷ [] → t.counts.items ≡ no_items ∷ [] → vec_len t.counts ≡ vec_len t.blocks → Holds t.stores [] → IsTableOf t (replicate n slot.Empty)
empty-table t n m e fits blocks counts places stores =
    let last : 1 + m ≡ n = omega arith in
    record {
      blocks = blocks ∙ sym (ap (map a_block)
          (ap (runs_of same_kind) (map-replicate kind_key n slot.Empty) ∙ ap (λ i. runs_of same_kind (replicate i (Some Empty))) e ∙ runs-filled same_kind kinds-decided 1 (suc m) (Some Empty))
          ∙ ap (λ i. record { first = 1; last = i; kind = Empty } ∷ []) last);
      counts = counts ∙ sym (ap (counts_from no_items) blocks);
      places = places;
      stores = record {
        numbers = stores.numbers ∙ sym (filter-rows_none a_number n slot.Empty refl);
        words = stores.words ∙ sym (filter-rows_none a_text n slot.Empty refl);
        bad = stores.bad ∙ sym (filter-rows_none a_fault n slot.Empty refl);
        raw = stores.raw ∙ sym (filter-rows_none a_raw n slot.Empty refl);
        codes = stores.codes ∙ sym (filter-rows_none a_code n slot.Empty refl);
      };
      rows = omega (arith, length-replicate {A = Slot} n slot.Empty);
    }

-- the items of empty rows
pub no-items : (t : More) (n : ℕ) (e : Slot) → e ≡ slot.Empty → Gives t (replicate n e) → Gives t []
no-items t n e is h = record {
  numbers = h.numbers ∙ filter-rows_none a_number n e (ap a_number is);
  words = h.words ∙ filter-rows_none a_text n e (ap a_text is);
  bad = h.bad ∙ filter-rows_none a_fault n e (ap a_fault is);
  raw = h.raw ∙ filter-rows_none a_raw n e (ap a_raw is);
  codes = h.codes ∙ filter-rows_none a_code n e (ap a_code is);
}
