use Rattle.std.proofs.Common.{◌≤◌, ◌<◌, ◌+◌, ◌-◌, length, slice_get, Some, IfSome, arith, sym, ap, subst, ◌∙◌}
use Rattle.cell_runs.specs.CellLists.{IsFirstAbove, all_cells}
use Rattle.cell_runs.proofs.Places.{Found, cell-found, first-place, length-places}
use Rattle.cell_runs.proofs.cells.CellRuns.cell.Goals as goal

pub returns-then-behind-eq0 : goal.returns-then-behind-eq0
returns-then-behind-eq0 c =
    let ss = c.self.inside.places.items in
    let front = subst (λ v. IsFirstAbove c.args.place v c.first_above-behind.result) c.as_slice.ensures.value c.first_above-behind.ensures.place in
    let here = subst (λ i. IfSome (slice_get ss i) (λ v. c.args.place < v)) c.if-behind-eq0.true front.here in
    sym (first-place c.self.inside.runs.items ss c.args.place c.self.invariant.indexed here) ∙ ap (λ v. slice_get v c.args.place) c.self.view_is

pub index-run-requires : goal.index-run-requires
index-run-requires c =
    let within = subst (λ v. c.first_above-behind.result ≤ length v) c.as_slice.ensures.value c.first_above-behind.ensures.within in
    omega (arith, length-places 0 0 c.self.inside.runs.items c.self.inside.places.items c.self.invariant.indexed)

pub overflow_sub-row : goal.overflow_sub-row
overflow_sub-row c =
    let rs = c.self.inside.runs.items in
    let ss = c.self.inside.places.items in
    let behind = c.first_above-behind.result in
    let front = subst (λ v. IsFirstAbove c.args.place v behind) c.as_slice.ensures.value c.first_above-behind.ensures.place in
    let within = subst (λ v. behind ≤ length v) c.as_slice.ensures.value c.first_above-behind.ensures.within in
    let less : c.args.place < length (all_cells rs) = omega (arith, c.self.invariant.counted) in
    let found : Found rs c.args.place c.index-run.result.now c.index.result.now = cell-found rs ss c.args.place behind c.index-run.result.now c.index.result.now c.self.invariant.indexed front c.if-behind-eq0.false within c.index-run.ensures c.index.ensures less in
    found.from

pub overflow_cast-row : goal.overflow_cast-row
overflow_cast-row c =
    let rs = c.self.inside.runs.items in
    let ss = c.self.inside.places.items in
    let behind = c.first_above-behind.result in
    let front = subst (λ v. IsFirstAbove c.args.place v behind) c.as_slice.ensures.value c.first_above-behind.ensures.place in
    let within = subst (λ v. behind ≤ length v) c.as_slice.ensures.value c.first_above-behind.ensures.within in
    let less : c.args.place < length (all_cells rs) = omega (arith, c.self.invariant.counted) in
    let found : Found rs c.args.place c.index-run.result.now c.index.result.now = cell-found rs ss c.args.place behind c.index-run.result.now c.index.result.now c.self.invariant.indexed front c.if-behind-eq0.false within c.index-run.ensures c.index.ensures less in
    omega (arith, found.less, found.rows.to)

pub overflow_add-row : goal.overflow_add-row
overflow_add-row c =
    let rs = c.self.inside.runs.items in
    let ss = c.self.inside.places.items in
    let behind = c.first_above-behind.result in
    let front = subst (λ v. IsFirstAbove c.args.place v behind) c.as_slice.ensures.value c.first_above-behind.ensures.place in
    let within = subst (λ v. behind ≤ length v) c.as_slice.ensures.value c.first_above-behind.ensures.within in
    let less : c.args.place < length (all_cells rs) = omega (arith, c.self.invariant.counted) in
    let found : Found rs c.args.place c.index-run.result.now c.index.result.now = cell-found rs ss c.args.place behind c.index-run.result.now c.index.result.now c.self.invariant.indexed front c.if-behind-eq0.false within c.index-run.ensures c.index.ensures less in
    omega (arith, found.less, found.rows.to, found.rows.in_order, ap (λ v. v.first) c.run.view_is)

pub invariant_of-result : goal.invariant_of-result
invariant_of-result c =
    let rs = c.self.inside.runs.items in
    let ss = c.self.inside.places.items in
    let behind = c.first_above-behind.result in
    let front = subst (λ v. IsFirstAbove c.args.place v behind) c.as_slice.ensures.value c.first_above-behind.ensures.place in
    let within = subst (λ v. behind ≤ length v) c.as_slice.ensures.value c.first_above-behind.ensures.within in
    let less : c.args.place < length (all_cells rs) = omega (arith, c.self.invariant.counted) in
    let found : Found rs c.args.place c.index-run.result.now c.index.result.now = cell-found rs ss c.args.place behind c.index-run.result.now c.index.result.now c.self.invariant.indexed front c.if-behind-eq0.false within c.index-run.ensures c.index.ensures less in
    record {
      sheet_in = c.run.invariant.sheet_in;
      col_from = c.run.invariant.col_from;
      col_to = c.run.invariant.col_to;
      row_from = omega (arith, c.run.invariant.from);
      row_to = omega (arith, found.less, found.rows.to, found.rows.in_order, ap (λ v. v.first) c.run.view_is);
    }

pub returns : goal.returns
returns c =
    let rs = c.self.inside.runs.items in
    let ss = c.self.inside.places.items in
    let behind = c.first_above-behind.result in
    let front = subst (λ v. IsFirstAbove c.args.place v behind) c.as_slice.ensures.value c.first_above-behind.ensures.place in
    let within = subst (λ v. behind ≤ length v) c.as_slice.ensures.value c.first_above-behind.ensures.within in
    let less : c.args.place < length (all_cells rs) = omega (arith, c.self.invariant.counted) in
    let found : Found rs c.args.place c.index-run.result.now c.index.result.now = cell-found rs ss c.args.place behind c.index-run.result.now c.index.result.now c.self.invariant.indexed front c.if-behind-eq0.false within c.index-run.ensures c.index.ensures less in
    ap (λ v. Some (record { sheet = v.sheet; col = v.col; row = v.first + (c.args.place - c.index.result.now) })) c.run.view_is
    ∙ sym found.cell ∙ ap (λ v. slice_get v c.args.place) c.self.view_is
