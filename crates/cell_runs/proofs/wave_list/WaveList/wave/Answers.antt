use Rattle.std.proofs.Common.{◌<◌, [], length, get_or, sym, ap, subst, ◌∙◌, arith}
use Rattle.cell_runs.specs.CellLists.{all_cells}
use Rattle.cell_runs.specs.WaveLists.{AreStarts, part}
use Rattle.cell_runs.proofs.PartLists.{list_at, lists_size}
use Rattle.cell_runs.proofs.wave_list.WaveList.wave.Goals as goal

pub list_at-requires-clause-starts : goal.list_at-requires-clause-starts
list_at-requires-clause-starts c =
    subst (λ rs. AreStarts rs c.deref-2.result.now) (sym c.deref.ensures.value) (subst (λ ss. AreStarts c.self.inside.runs.items ss) (sym c.deref-2.ensures.value) c.self.invariant)

pub list_at-requires-clause-within : goal.list_at-requires-clause-within
list_at-requires-clause-within c = omega (arith, c.requires, ap length c.self.view_is, lists_size c.self.inside.runs.items c.self.inside.starts.items, ap length c.deref-2.ensures.value)

pub returns : goal.returns
returns c =
    let runs = c.self.inside.runs.items in
    let starts = c.self.inside.starts.items in
    let within : c.args.k < length starts = omega (arith, c.requires, ap length c.self.view_is, lists_size runs starts) in
    ap all_cells (c.list_at.ensures ∙ ap (λ rs. part rs c.deref-2.result.now c.args.k) c.deref.ensures.value ∙ ap (λ ss. part runs ss c.args.k) c.deref-2.ensures.value)
    ∙ sym (list_at runs starts c.args.k within) ∙ ap (λ v. get_or v c.args.k []) c.self.view_is
