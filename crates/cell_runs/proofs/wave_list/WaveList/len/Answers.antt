use Rattle.std.proofs.Common.{sym, ap, ◌∙◌, length, rules}
use Rattle.cell_runs.proofs.PartLists.{lists_size}
use Rattle.cell_runs.proofs.wave_list.WaveList.len.Goals as goal

pub returns : goal.returns
returns c = (search rules) ∙ sym (lists_size c.self.inside.runs.items c.self.inside.starts.items) ∙ ap length c.self.view_is
