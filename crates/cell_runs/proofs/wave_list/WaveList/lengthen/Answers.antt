use Rattle.std.proofs.Common.{◌≡◌, ◌<◌, ◌-◌, ◌++◌, ◌∷◌, [], ℕ, List, length, get_or, sym, ap, subst, ◌∙◌, arith, rules}
use Rattle.std.proofs.Math.ListN.{set}
use Rattle.std.proofs.lemmas.List.{get_or_default}
use Rattle.calc_addr.specs.Places.{IsRows, Place, Rows}
use Rattle.cell_runs.specs.CellLists.{cells_of}
use Rattle.cell_runs.specs.WaveLists.{IsAdded, lists_of}
use Rattle.cell_runs.proofs.PartLists.{added_last, cells_below}
use Rattle.cell_runs.proofs.wave_list.WaveList.lengthen.Goals as goal

pub returns-clause-yes : goal.returns-clause-yes
returns-clause-yes c = λ holds.
    let runs : List Rows = c.self.inside.runs.items in
    let starts : List ℕ = c.self.inside.starts.items in
    let x : Rows = c.index-last.result.now in
    let q : Place = c.args.cell in
    let y : Rows = record { sheet = c.last.inside.sheet; col = c.last.inside.col; first = c.last.inside.first; last = c.cell.inside.row } in
    let made : y ≡ record x { last = q.row } =
    ap (λ v. record { sheet = v.sheet; col = v.col; first = v.first; last = c.cell.inside.row }) c.last.view_is ∙ ap (λ v. record x { last = v.row }) c.cell.view_is in
    let on = c.goes_on.ensures.0 c.if-not-goes_on.false in
    let hx : IsRows x = subst IsRows c.last.view_is c.last.invariant in
    let count : c.len-count.result ≡ length runs = search rules in
    let lists : c.len-lists.result ≡ length starts = search rules in
    let is : x ≡ get_or runs (length runs - 1) x = c.index-last.ensures ∙ ap (λ n. get_or runs (n - 1) x) count in
    let start : c.index.result.now ≡ get_or starts (length starts - 1) 0 =
    c.index.ensures ∙ ap (λ n. get_or starts (n - 1) c.index.result.now) lists ∙ get_or_default starts (length starts - 1) c.index.result.now 0 (omega arith) in
    let begins : get_or starts (length starts - 1) 0 < length runs = omega (arith, start, c.if-count-index.false, count) in
    let more : cells_of y ≡ cells_of x ++ q ∷ [] = ap cells_of made ∙ cells_below x q hx.in_order on.0 on.1 on.2 in
    let added = added_last runs starts x y q c.self.invariant (omega arith) is (omega arith) begins more in
    subst (λ (old : List (List Place)). IsAdded old (lists_of (set runs (c.len-count.result - 1) y) starts) (length old - 1) q) c.self.view_is
    (subst (λ n. IsAdded (lists_of runs starts) (lists_of (set runs (n - 1) y) starts) (length (lists_of runs starts) - 1) q) (sym count) added)
