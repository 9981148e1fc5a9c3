use Rattle.std.proofs.Common.{◌≡◌, ◌≤◌, ◌<◌, ◌+◌, ◌-◌, ℕ, length, map, get_or, slice_get, Some, IfSome, arith, sym, ap, subst, ◌∙◌}
use Rattle.std.specs.List.{Contains}
use Rattle.cell_runs.specs.CellLists.{IsFirstAbove, all_cells, first_number}
use Rattle.cell_runs.proofs.Numbers.{cell_number}
use Rattle.std.proofs.lemmas.List.{get_or_default}
use Rattle.cell_runs.proofs.Indexed.{index-total}
use Rattle.cell_runs.proofs.Places.{Near, run-near, absent-first, length-places}
use Rattle.cell_runs.proofs.cells.CellRuns.place.Goals as goal

pub returns-then-behind-eq0-clause-absent : goal.returns-then-behind-eq0-clause-absent
returns-then-behind-eq0-clause-absent c =
    let rs = c.self.inside.runs.items in
    let behind = c.first_behind-behind.result in
    let same : c.number.result ≡ cell_number c.args.cell = c.number.ensures ∙ ap cell_number c.cell.view_is in
    let front = subst (λ n. IsFirstAbove n (map first_number rs) behind) same (subst (λ v. IsFirstAbove c.number.result (map first_number v) behind) c.as_slice.ensures.value c.first_behind-behind.ensures.place) in
    let here = subst (λ i. IfSome (slice_get (map first_number rs) i) (λ v. cell_number c.args.cell < v)) c.if-behind-eq0.true front.here in
    λ in_list. absent-first 0 rs c.self.inside.places.items c.args.cell c.self.invariant.indexed here (subst (λ v. Contains v c.args.cell) (sym c.self.view_is) in_list)

pub returns-then-not-has_cell-clause-absent : goal.returns-then-not-has_cell-clause-absent
returns-then-not-has_cell-clause-absent c =
    let rs = c.self.inside.runs.items in
    let behind = c.first_behind-behind.result in
    let same : c.number.result ≡ cell_number c.args.cell = c.number.ensures ∙ ap cell_number c.cell.view_is in
    let front = subst (λ n. IsFirstAbove n (map first_number rs) behind) same (subst (λ v. IsFirstAbove c.number.result (map first_number v) behind) c.as_slice.ensures.value c.first_behind-behind.ensures.place) in
    let within = subst (λ v. behind ≤ length v) c.as_slice.ensures.value c.first_behind-behind.ensures.within in
    let near : Near rs c.args.cell c.index-run.result.now (get_or c.self.inside.places.items (c.first_behind-behind.result - 1) 0) = run-near rs c.self.inside.places.items c.args.cell behind c.index-run.result.now (get_or c.self.inside.places.items (c.first_behind-behind.result - 1) 0) c.self.invariant.indexed front c.if-behind-eq0.false within c.index-run.ensures (get_or_default c.self.inside.places.items (c.first_behind-behind.result - 1) 0 (get_or c.self.inside.places.items (c.first_behind-behind.result - 1) 0) (omega (arith, length-places 0 0 c.self.inside.runs.items c.self.inside.places.items c.self.invariant.indexed))) in
    λ in_list. near.absent
    (λ out. let t = c.if-not-has_cell.ensures.1 (sym out.sheet, sym out.col, out.to) in absurd cc)
    (subst (λ v. Contains v c.args.cell) (sym c.self.view_is) in_list)

pub index-requires : goal.index-requires
index-requires c =
    let within = subst (λ v. c.first_behind-behind.result ≤ length v) c.as_slice.ensures.value c.first_behind-behind.ensures.within in
    omega (arith, length-places 0 0 c.self.inside.runs.items c.self.inside.places.items c.self.invariant.indexed)

pub overflow_sub-result : goal.overflow_sub-result
overflow_sub-result c =
    let rs = c.self.inside.runs.items in
    let behind = c.first_behind-behind.result in
    let same : c.number.result ≡ cell_number c.args.cell = c.number.ensures ∙ ap cell_number c.cell.view_is in
    let front = subst (λ n. IsFirstAbove n (map first_number rs) behind) same (subst (λ v. IsFirstAbove c.number.result (map first_number v) behind) c.as_slice.ensures.value c.first_behind-behind.ensures.place) in
    let within = subst (λ v. behind ≤ length v) c.as_slice.ensures.value c.first_behind-behind.ensures.within in
    let near : Near rs c.args.cell c.index-run.result.now (get_or c.self.inside.places.items (c.first_behind-behind.result - 1) 0) = run-near rs c.self.inside.places.items c.args.cell behind c.index-run.result.now (get_or c.self.inside.places.items (c.first_behind-behind.result - 1) 0) c.self.invariant.indexed front c.if-behind-eq0.false within c.index-run.ensures (get_or_default c.self.inside.places.items (c.first_behind-behind.result - 1) 0 (get_or c.self.inside.places.items (c.first_behind-behind.result - 1) 0) (omega (arith, length-places 0 0 c.self.inside.runs.items c.self.inside.places.items c.self.invariant.indexed))) in
    let lies = c.has_cell.ensures.0 c.if-not-has_cell.false in
    let first : c.run.inside.first ≡ c.index-run.result.now.first = ap (λ v. v.first) c.run.view_is in
    let row : c.cell-2.inside.row ≡ c.args.cell.row = ap (λ v. v.row) c.cell-2.view_is in
    let order : c.index-run.result.now.first ≤ c.args.cell.row = omega (arith, near.begins, lies.0, lies.1) in
    omega arith

pub overflow_add-result : goal.overflow_add-result
overflow_add-result c =
    let rs = c.self.inside.runs.items in
    let behind = c.first_behind-behind.result in
    let same : c.number.result ≡ cell_number c.args.cell = c.number.ensures ∙ ap cell_number c.cell.view_is in
    let front = subst (λ n. IsFirstAbove n (map first_number rs) behind) same (subst (λ v. IsFirstAbove c.number.result (map first_number v) behind) c.as_slice.ensures.value c.first_behind-behind.ensures.place) in
    let within = subst (λ v. behind ≤ length v) c.as_slice.ensures.value c.first_behind-behind.ensures.within in
    let near : Near rs c.args.cell c.index-run.result.now c.index.result.now = run-near rs c.self.inside.places.items c.args.cell behind c.index-run.result.now c.index.result.now c.self.invariant.indexed front c.if-behind-eq0.false within c.index-run.ensures c.index.ensures in
    let lies = c.has_cell.ensures.0 c.if-not-has_cell.false in
    let first : c.run.inside.first ≡ c.index-run.result.now.first = ap (λ v. v.first) c.run.view_is in
    let row : c.cell-2.inside.row ≡ c.args.cell.row = ap (λ v. v.row) c.cell-2.view_is in
    let order : c.index-run.result.now.first ≤ c.args.cell.row = omega (arith, near.begins, lies.0, lies.1) in
    omega (arith, lies.2, near.to, index-total 0 0 rs c.self.inside.places.items c.self.invariant.indexed (omega arith) (omega arith))

pub returns-clause-at : goal.returns-clause-at
returns-clause-at c =
    let rs = c.self.inside.runs.items in
    let behind = c.first_behind-behind.result in
    let same : c.number.result ≡ cell_number c.args.cell = c.number.ensures ∙ ap cell_number c.cell.view_is in
    let front = subst (λ n. IsFirstAbove n (map first_number rs) behind) same (subst (λ v. IsFirstAbove c.number.result (map first_number v) behind) c.as_slice.ensures.value c.first_behind-behind.ensures.place) in
    let within = subst (λ v. behind ≤ length v) c.as_slice.ensures.value c.first_behind-behind.ensures.within in
    let near : Near rs c.args.cell c.index-run.result.now c.index.result.now = run-near rs c.self.inside.places.items c.args.cell behind c.index-run.result.now c.index.result.now c.self.invariant.indexed front c.if-behind-eq0.false within c.index-run.ensures c.index.ensures in
    let lies = c.has_cell.ensures.0 c.if-not-has_cell.false in
    let first : c.run.inside.first ≡ c.index-run.result.now.first = ap (λ v. v.first) c.run.view_is in
    let row : c.cell-2.inside.row ≡ c.args.cell.row = ap (λ v. v.row) c.cell-2.view_is in
    let order : c.index-run.result.now.first ≤ c.args.cell.row = omega (arith, near.begins, lies.0, lies.1) in
    let k : ℕ = c.args.cell.row - c.index-run.result.now.first in
    let place : c.index.result.now + (c.cell-2.inside.row - c.run.inside.first) ≡ c.index.result.now + k = omega arith in
    let at : c.index-run.result.now.first + k ≡ c.args.cell.row = omega arith in
    ap (λ v. slice_get v (c.index.result.now + (c.cell-2.inside.row - c.run.inside.first))) (sym c.self.view_is)
    ∙ ap (slice_get (all_cells rs)) place ∙ near.cells k (omega (arith, lies.2))
    ∙ ap (λ v. Some (record { sheet = v; col = c.index-run.result.now.col; row = c.index-run.result.now.first + k })) lies.0
    ∙ ap (λ v. Some (record { sheet = c.args.cell.sheet; col = v; row = c.index-run.result.now.first + k })) lies.1
    ∙ ap (λ v. Some (record { sheet = c.args.cell.sheet; col = c.args.cell.col; row = v })) at
