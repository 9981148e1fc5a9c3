use Rattle.std.proofs.Common.{ap, length, ◌∙◌}
use Rattle.std.specs.Ordering.{int_cmp}
use Rattle.std.specs.Option.{unwrap_or}
use Rattle.fn_lookup.specs.Scans.{is_past}
use Rattle.fn_lookup.proofs.Running.{first-or-all}
use Rattle.fn_lookup.proofs.scan.first_past.Goals as goal

pub returns : goal.returns
returns c =
    c.unwrap_or.ensures ∙ ap (λ o. unwrap_or o (length c.args.items.now)) c.place_past.ensures
    ∙ first-or-all (λ n. is_past c.args.search (int_cmp n c.args.sought)) c.args.items.now
