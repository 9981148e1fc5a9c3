use Rattle.std.proofs.Common.{◌≡◌, ◌-◌, ap, length, take, ◌∙◌, arith}
use Rattle.std.specs.Str.{chars}
use Rattle.fn_text.proofs.Occurring.{boundary-at, first-at, found-in, nowhere}
use Rattle.fn_text.proofs.finding.first_place.Goals as goal

pub range-requires-clause-end_boundary : goal.range-requires-clause-end_boundary
range-requires-clause-end_boundary c =
    let told = found-in _ c.args.words.now _ c.args.sought.now _ _ c.as_bytes.ensures.value c.as_bytes-2.ensures.value c.in-Some.is c.find.ensures in
    boundary-at c.args.sought.now c.args.words.now c.utf8.sought c.utf8.words c.in-Some.at told.1 told.0

pub returns-in-None : goal.returns-in-None
returns-in-None c =
    let told = found-in _ c.args.words.now _ c.args.sought.now _ _ c.as_bytes.ensures.value c.as_bytes-2.ensures.value c.in-None.is c.find.ensures in
    nowhere c.args.sought.now c.args.words.now c.utf8.sought c.utf8.words told

pub returns-in-Some : goal.returns-in-Some
returns-in-Some c =
    let words = c.args.words.now in
    let sought = c.args.sought.now in
    let at = c.in-Some.at in
    let told = found-in _ words _ sought _ _ c.as_bytes.ensures.value c.as_bytes-2.ensures.value c.in-Some.is c.find.ensures in
    let whole : at - 0 ≡ at = omega arith in
    let count = c.char_count.ensures ∙ ap (λ bytes. length (chars bytes)) (c.range.ensures.value ∙ ap (λ n. take n words) whole) in
    first-at sought words c.utf8.sought c.utf8.words at told.1 (boundary-at sought words c.utf8.sought c.utf8.words at told.1 told.0) told.0 c.char_count.result count
