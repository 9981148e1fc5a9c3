use Rattle.std.proofs.Common.{ap, sym, ◌∙◌}
use Rattle.std.specs.List.{count_by}
use Rattle.calc_model.specs.Logic.{is_number}
use Rattle.calc_model.specs.Texts.{counted}
use Rattle.fn_args.proofs.Counting.{values-are}
use Rattle.fn_stat.proofs.counts.fn_count.Goals as goal

pub returns : goal.returns
returns g c =
    c.counted.ensures ∙ ap counted (c.count_list.ensures.count ∙ ap (count_by is_number) (sym (values-are c.args.home (g.V.Values.values c.args.values.now) c.args.args.now)))
