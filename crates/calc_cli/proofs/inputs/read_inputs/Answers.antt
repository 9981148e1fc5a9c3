use Rattle.std.proofs.Common.{[], ◌+◌, Some, None, Ok, drop, ap, subst, ◌∙◌}
use Rattle.calc_book.specs.declared.limits.TheConstants.{MOST_BYTES}
use Rattle.calc_cli.specs.declared.limits.TheConstants.{MOST_SCRIPT_BYTES}
use Rattle.formula_reader.specs.Fields.{field_of}
use Rattle.formula_reader.proofs.Meaning.{field_reads}
use Rattle.calc_cli.specs.Inputs.{IsLoaded, IsTaken}
use Rattle.calc_cli.proofs.Ended.{book_ends, script_ends, ends_refused, ends_too_long, ends_answered}
use Rattle.calc_cli.proofs.TakenBytes.{still_told, takes_no_more, takes_none}
use Rattle.calc_cli.proofs.inputs.read_inputs.Goals as goal

pub returns-in-Err-clause-told : goal.returns-in-Err-clause-told
returns-in-Err-clause-told g c =
    λ stock book script told.
    ends_refused stock book script c.in-Err.cause (subst (λ found. IsLoaded found book) c.in-Err.is (c.in_ok-book.ensures.told book told.has_book))

pub returns-in-Some-clause-told : goal.returns-in-Some-clause-told
returns-in-Some-clause-told g c =
    λ stock book script told.
    let loaded : IsLoaded (Ok c.in-Ok.book) book = subst (λ found. IsLoaded found book) c.in-Ok.is (c.in_ok-book.ensures.told book told.has_book) in
    let kept = still_told (g.D.Desk.script_left c.args.desk.now) (g.D.Desk.script_left c.load_book.new.desk) script c.in_ok-book.ensures.same_script told.has_script in
    let taken : IsTaken (Some c.in-Some.script) script = subst (λ bytes. IsTaken bytes script) c.in-Some.is (c.in_ok-script-in-Ok.ensures.told script kept) in
    ends_answered stock book script c.in-Some.script.items c.in-Ok.book loaded.0 taken.0 loaded.1 taken.1

pub returns-in-None-clause-told : goal.returns-in-None-clause-told
returns-in-None-clause-told g c =
    λ stock book script told.
    let loaded : IsLoaded (Ok c.in-Ok.book) book = subst (λ found. IsLoaded found book) c.in-Ok.is (c.in_ok-book.ensures.told book told.has_book) in
    let kept = still_told (g.D.Desk.script_left c.args.desk.now) (g.D.Desk.script_left c.load_book.new.desk) script c.in_ok-book.ensures.same_script told.has_script in
    let taken : IsTaken None script = subst (λ bytes. IsTaken bytes script) c.in-None.is (c.in_ok-script-in-Ok.ensures.told script kept) in
    ends_too_long stock book script loaded.0 taken

pub returns-in-Err-clause-somehow : goal.returns-in-Err-clause-somehow
returns-in-Err-clause-somehow g c =
    λ stock.
    let book = c.in_ok-book.ensures.some_book in
    (field_of, field_reads, book.0, [], ends_refused stock book.0 [] c.in-Err.cause (subst (λ found. IsLoaded found book.0) c.in-Err.is book.1))

pub returns-in-Some-clause-somehow : goal.returns-in-Some-clause-somehow
returns-in-Some-clause-somehow g c =
    λ stock.
    let book = c.in_ok-book.ensures.some_book in
    let script = c.in_ok-script-in-Ok.ensures.some_script in
    let loaded : IsLoaded (Ok c.in-Ok.book) book.0 = subst (λ found. IsLoaded found book.0) c.in-Ok.is book.1 in
    let taken : IsTaken (Some c.in-Some.script) script.0 = subst (λ bytes. IsTaken bytes script.0) c.in-Some.is script.1 in
    (field_of, field_reads, book.0, script.0, ends_answered stock book.0 script.0 c.in-Some.script.items c.in-Ok.book loaded.0 taken.0 loaded.1 taken.1)

pub returns-in-None-clause-somehow : goal.returns-in-None-clause-somehow
returns-in-None-clause-somehow g c =
    λ stock.
    let book = c.in_ok-book.ensures.some_book in
    let script = c.in_ok-script-in-Ok.ensures.some_script in
    let loaded : IsLoaded (Ok c.in-Ok.book) book.0 = subst (λ found. IsLoaded found book.0) c.in-Ok.is book.1 in
    let taken : IsTaken None script.0 = subst (λ bytes. IsTaken bytes script.0) c.in-None.is script.1 in
    (field_of, field_reads, book.0, script.0, ends_too_long stock book.0 script.0 loaded.0 taken)

pub returns-in-Some-clause-left : goal.returns-in-Some-clause-left
returns-in-Some-clause-left g c =
    λ book script told.
    let loaded : IsLoaded (Ok c.in-Ok.book) book = subst (λ found. IsLoaded found book) c.in-Ok.is (c.in_ok-book.ensures.told book told.has_book) in
    let kept = still_told (g.D.Desk.script_left c.args.desk.now) (g.D.Desk.script_left c.load_book.new.desk) script c.in_ok-book.ensures.same_script told.has_script in
    let taken : IsTaken (Some c.in-Some.script) script = subst (λ bytes. IsTaken bytes script) c.in-Some.is (c.in_ok-script-in-Ok.ensures.told script kept) in
    let book_left = still_told (g.D.Desk.book_left c.load_book.new.desk) (g.D.Desk.book_left c.read_script.new.desk) (drop (MOST_BYTES + 1) book) c.in_ok-script-in-Ok.ensures.same_book (c.in_ok-book.ensures.left book told.has_book) in
    (book_left ∙ ap Some (book_ends book loaded.0), c.in_ok-script-in-Ok.ensures.left script kept ∙ ap Some (script_ends script taken.0))

pub returns-in-None-clause-left : goal.returns-in-None-clause-left
returns-in-None-clause-left g c =
    λ book script told.
    c.in_ok-script-in-Ok.ensures.left script (still_told (g.D.Desk.script_left c.args.desk.now) (g.D.Desk.script_left c.load_book.new.desk) script c.in_ok-book.ensures.same_script told.has_script)

pub returns-in-Err-clause-script_within : goal.returns-in-Err-clause-script_within
returns-in-Err-clause-script_within g c =
    λ script left. takes_none (g.D.Desk.script_left c.args.desk.now) (g.D.Desk.script_left c.load_book.new.desk) script (MOST_SCRIPT_BYTES + 1) c.in_ok-book.ensures.same_script left

pub returns-in_err-script-in-Ok-clause-book_within : goal.returns-in_err-script-in-Ok-clause-book_within
returns-in_err-script-in-Ok-clause-book_within g c =
    λ book told. takes_no_more (g.D.Desk.book_left c.args.desk.now) (g.D.Desk.book_left c.load_book.new.desk) (g.D.Desk.book_left c.read_script.new.desk) book (MOST_BYTES + 1) (c.in_ok-book.ensures.within book told) c.in_err-script-in-Ok.ensures.same_book

pub returns-in-Some-clause-book_within : goal.returns-in-Some-clause-book_within
returns-in-Some-clause-book_within g c =
    λ book told. takes_no_more (g.D.Desk.book_left c.args.desk.now) (g.D.Desk.book_left c.load_book.new.desk) (g.D.Desk.book_left c.read_script.new.desk) book (MOST_BYTES + 1) (c.in_ok-book.ensures.within book told) c.in_ok-script-in-Ok.ensures.same_book

pub returns-in-Some-clause-script_within : goal.returns-in-Some-clause-script_within
returns-in-Some-clause-script_within g c =
    λ script left. c.in_ok-script-in-Ok.ensures.within script (still_told (g.D.Desk.script_left c.args.desk.now) (g.D.Desk.script_left c.load_book.new.desk) script c.in_ok-book.ensures.same_script left)

pub returns-in-None-clause-book_within : goal.returns-in-None-clause-book_within
returns-in-None-clause-book_within g c =
    λ book told. takes_no_more (g.D.Desk.book_left c.args.desk.now) (g.D.Desk.book_left c.load_book.new.desk) (g.D.Desk.book_left c.read_script.new.desk) book (MOST_BYTES + 1) (c.in_ok-book.ensures.within book told) c.in_ok-script-in-Ok.ensures.same_book

pub returns-in-None-clause-script_within : goal.returns-in-None-clause-script_within
returns-in-None-clause-script_within g c =
    λ script left. c.in_ok-script-in-Ok.ensures.within script (still_told (g.D.Desk.script_left c.args.desk.now) (g.D.Desk.script_left c.load_book.new.desk) script c.in_ok-book.ensures.same_script left)
