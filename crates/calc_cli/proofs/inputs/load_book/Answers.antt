use Rattle.std.proofs.Common.{rules, ◌≡◌, inr, subst}
use Rattle.calc_cli.specs.Inputs.{IsLoaded}
use Rattle.calc_cli.proofs.Ended.{loaded_whole}
use Rattle.calc_cli.proofs.inputs.load_book.Goals as goal

pub returns-clause-told : goal.returns-clause-told
returns-clause-told g c =
    λ book told.
    let opened = c.in_ok-open.ensures.opened book told in
    let same : c.deref.result.now ≡ c.in_ok-bytes.bytes.items = search rules in
    loaded_whole c.in_ok-book.book book c.in_ok-bytes.bytes.items (c.in_ok-bytes.ensures.bytes book opened) (subst (IsLoaded c.in_ok-book.book) same c.in_ok-book.ensures.read)

pub returns-in_err-book-clause-within : goal.returns-in_err-book-clause-within
returns-in_err-book-clause-within g c =
    λ bytes told. inr (c.in_ok-bytes.ensures.within bytes (c.in_ok-open.ensures.opened bytes told))

pub returns-clause-within : goal.returns-clause-within
returns-clause-within g c =
    λ bytes told. inr (c.in_ok-bytes.ensures.within bytes (c.in_ok-open.ensures.opened bytes told))
