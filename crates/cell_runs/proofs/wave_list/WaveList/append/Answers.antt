use Rattle.std.proofs.Common.{◌≡◌, ◌<◌, ◌-◌, ◌∷◌, ◌++◌, [], List, length, sym, ap, subst, ◌∙◌, arith}
use Rattle.calc_addr.specs.Places.{Place, Rows}
use Rattle.cell_runs.specs.WaveLists.{AreStarts, IsAdded, lists_of}
use Rattle.cell_runs.proofs.PartLists.{added, lists_size, not_none, one_cell, starts_more}
use Rattle.cell_runs.proofs.wave_list.WaveList.append.Goals as goal

abbrev run_of : Place → Rows
run_of q = record { sheet = q.sheet; col = q.col; first = q.row; last = q.row }

pub invariant_of-self-2 : goal.invariant_of-self-2
invariant_of-self-2 c = subst (λ (rs : List Rows). AreStarts rs c.self.inside.starts.items) (sym c.in_ok-push.ensures.items) (starts_more c.self.inside.runs.items c.self.inside.starts.items c.self.invariant _)

pub returns : goal.returns
returns c =
    let runs = c.self.inside.runs.items in
    let starts = c.self.inside.starts.items in
    let q : Place = c.args.cell in
    let some : 0 < length starts = omega (arith, not_none c.args.self.now c.requires, ap length c.self.view_is, lists_size runs starts) in
    let pushed : runs ++ run_of q ∷ [] ≡ c.push.new.self.items = ap (λ (p : Place). runs ++ run_of p ∷ []) (sym c.cell.view_is) ∙ sym c.in_ok-push.ensures.items in
    subst (λ (old : List (List Place)). IsAdded old (lists_of c.push.new.self.items starts) (length old - 1) q) c.self.view_is
    (subst (λ (rs : List Rows). IsAdded (lists_of runs starts) (lists_of rs starts) (length (lists_of runs starts) - 1) q) pushed
    (added runs starts c.self.invariant (run_of q) q (one_cell q.sheet q.col q.row) some))
