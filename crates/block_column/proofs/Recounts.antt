-- The items in front of each block, counted anew.
use Rattle.std.proofs.Common.{◌≡◌, ℕ, ◌+◌, ◌-◌, ◌<◌, ◌≤◌, List, [], ◌∷◌, ◌++◌, map, drop, length, get_or, Option, Some, sym, ap, subst, ◌∙◌, arith, append_assoc, ◌^◌}
use Rattle.std.specs.List.{All}
use Rattle.std.proofs.lemmas.List.{drop_more, length-map}
use Rattle.calc_addr.specs.declared.cell.TheConstants.{LAST_ROW}
use Rattle.run_tables.specs.Edges.{HasSmallRows}
use Rattle.run_tables.specs.Rows.{spliced}
use Rattle.run_tables.proofs.RowEdits.{length-spliced}
use Rattle.run_tables.specs.Runs.{Run, Rises, runs_of}
use Rattle.run_tables.proofs.RunLists.{runs-rise}
use Rattle.run_tables.proofs.Entries.{table-small}
use Rattle.block_column.specs.declared.block.Kind.{Kind}
use Rattle.block_column.specs.declared.block.Block.{Block}
use Rattle.block_column.specs.declared.counts.Counts.{Counts}
use Rattle.block_column.specs.Kinds.{same_kind}
use Rattle.block_column.specs.KindTests.{kinds-decided}
use Rattle.block_column.specs.Counting.{total, counted}
use Rattle.block_column.specs.Blocks.{block_run, block_kinds, counts_from}
use Rattle.block_column.proofs.Tallies.{total-counted}

-- with the rows of one more block
abbrev pub with_block : Block → Counts → Counts
with_block b c = counted b.kind (b.last + 1 - b.first) c

pub recount-items : (xs ys all : List Counts) (here next : Counts) (t : List Block) (i : ℕ) (d : Block) → i < length t → next ≡ with_block (get_or t i d) here → ys ≡ xs ++ here ∷ [] → xs ++ counts_from here (drop i t) ≡ all → ys ++ counts_from next (drop (i + 1) t) ≡ all
recount-items xs ys all here next t i d h is more done =
    ap (λ v. v ++ counts_from next (drop (i + 1) t)) more
    ∙ append_assoc xs (here ∷ []) (counts_from next (drop (i + 1) t))
    ∙ ap (λ n. xs ++ here ∷ counts_from n (drop (i + 1) t)) is
    ∙ ap (λ v. xs ++ counts_from here v) (sym (drop_more t i d h))
    ∙ done

rises-lower : {K : Type 0} (p q : ℕ) (t : List (Run K)) → q ≤ p → Rises p t → Rises q t
rises-lower p q [] h r = tt
rises-lower p q (x ∷ t) h r = (omega (arith, r.0), r.1, r.2)

pub recount-order : (here next : Counts) (t : List Block) (i : ℕ) (d : Block) → i < length t → next ≡ with_block (get_or t i d) here → Rises (total here + 1) (map block_run (drop i t)) → Rises (total next + 1) (map block_run (drop (i + 1) t))
recount-order here next t i d h is rises =
    let b : Block = get_or t i d in
    let one : Rises (total here + 1) (map block_run (b ∷ drop (i + 1) t)) = subst (λ v. Rises (total here + 1) (map block_run v)) (drop_more t i d h) rises in
    let more : total next ≤ total here + (b.last + 1 - b.first) = subst (λ c. total c ≤ total here + (b.last + 1 - b.first)) (sym is) (total-counted b.kind (b.last + 1 - b.first) here) in
    rises-lower (b.last + 1) (total next + 1) (map block_run (drop (i + 1) t)) (omega (arith, one.0, one.1)) one.2

pub recount-fits : (here : Counts) (t : List Block) (i : ℕ) (d : Block) → i < length t → All (λ b. HasSmallRows (block_run b)) t → Rises (total here + 1) (map block_run (drop i t)) → total here + ((get_or t i d).last + 1 - (get_or t i d).first) < 2 ^ 31
recount-fits here t i d h small rises =
    let b : Block = get_or t i d in
    let one : Rises (total here + 1) (map block_run (b ∷ drop (i + 1) t)) = subst (λ v. Rises (total here + 1) (map block_run v)) (drop_more t i d h) rises in
    omega (arith, one.0, one.1, (small i d h).1)

-- the table of a column's runs
pub runs-in_order : (t : List Block) (s : List (Option Kind)) → map block_run t ≡ runs_of same_kind s → Rises 1 (map block_run t)
runs-in_order t s e = subst (Rises 1) (sym e) (runs-rise same_kind kinds-decided 1 s)

pub runs-small : (t : List Block) (s : List (Option Kind)) → length s ≤ LAST_ROW → map block_run t ≡ runs_of same_kind s → All (λ b. HasSmallRows (block_run b)) t
runs-small t s h e = table-small same_kind kinds-decided block_run LAST_ROW t s h (omega arith) e

-- the runs of a table after an edit of its rows
pub record Edited (t u : List Block) (from to rows : ℕ) (kind : Kind) : Type 0 where
  pub runs : map block_run u ≡ runs_of same_kind (spliced from to rows (Some kind) (map Some (block_kinds t)))
  pub in_order : Rises 1 (map block_run u)
  pub small : All (λ b. HasSmallRows (block_run b)) u

pub edited : (t u : List Block) (from to rows : ℕ) (key : Option Kind) (kind : Kind) → from ≤ to → to ≤ length (block_kinds t) → from + rows + (length (block_kinds t) - to) ≤ LAST_ROW → key ≡ Some kind → map block_run t ≡ runs_of same_kind (map Some (block_kinds t))
    → ((s : List (Option Kind)) → to ≤ length s → map block_run t ≡ runs_of same_kind s → map block_run u ≡ runs_of same_kind (spliced from to rows key s)) → Edited t u from to rows kind
edited t u from to rows key kind order within fits is runs done =
    let s : List (Option Kind) = map Some (block_kinds t) in
    let len : length s ≡ length (block_kinds t) = length-map (block_kinds t) Some in
    let after : map block_run u ≡ runs_of same_kind (spliced from to rows (Some kind) s) =
    done s (omega arith) runs ∙ ap (λ k. runs_of same_kind (spliced from to rows k s)) is in
    let long : length (spliced from to rows (Some kind) s) ≤ LAST_ROW = omega (arith, length-spliced from to rows (Some kind) s (omega arith)) in
    record { runs = after; in_order = runs-in_order u (spliced from to rows (Some kind) s) after; small = runs-small u (spliced from to rows (Some kind) s) long after }
