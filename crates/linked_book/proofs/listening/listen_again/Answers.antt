use Rattle.std.proofs.Common.{◌≡◌, refl, sym, subst, ◌∙◌}
use Rattle.std.proofs.lemmas.Result.{on_ok_weaker}
use Rattle.formula_groups.specs.GroupRows.{columns_of}
use Rattle.formula_listeners.specs.Renamed.{AgreeElsewhere}
use Rattle.linked_book.proofs.SameCells.{same_formulas}
use Rattle.linked_book.proofs.listening.listen_again.Goals as goal

pub returns-clause-held : goal.returns-clause-held
returns-clause-held c =
    let after = c.args.parts.now in
    let coded = c.coded-coded.result in
    on_ok_weaker c.listen_users.result
    (λ held book is same elsewhere.
    held book after is (same_formulas coded.codes.now (columns_of coded.groups.now) after book same c.coded-coded.ensures.formulas) same refl
    (subst (λ name. AgreeElsewhere name book.names after.names) (sym (c.as_bytes-bytes.ensures.value ∙ c.as_str.ensures)) elsewhere))
    c.listen_users.ensures.held
