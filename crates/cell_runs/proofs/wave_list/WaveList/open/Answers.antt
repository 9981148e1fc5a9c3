use Rattle.std.proofs.Common.{◌≡◌, ◌∷◌, ◌++◌, [], ℕ, List, length, sym, ap, subst, ◌∙◌, rules}
use Rattle.calc_addr.specs.Places.{Place}
use Rattle.cell_runs.specs.WaveLists.{IsOpened, lists_of}
use Rattle.cell_runs.proofs.PartLists.{opened}
use Rattle.cell_runs.proofs.wave_list.WaveList.open.Goals as goal

pub returns : goal.returns
returns c =
    let runs = c.self.inside.runs.items in
    let starts = c.self.inside.starts.items in
    let count : length runs ≡ c.len.result = search rules in
    let pushed : starts ++ length runs ∷ [] ≡ c.push.new.self.items = ap (λ (n : ℕ). starts ++ n ∷ []) count ∙ sym c.in_ok-push.ensures.items in
    subst (λ (old : List (List Place)). IsOpened old (lists_of runs c.push.new.self.items)) c.self.view_is
    (subst (λ (ss : List ℕ). IsOpened (lists_of runs starts) (lists_of runs ss)) pushed (opened runs starts c.self.invariant))
