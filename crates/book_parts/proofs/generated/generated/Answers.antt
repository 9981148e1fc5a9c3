use Rattle.std.proofs.Common.{[], ◌++◌, ap, sym, ◌∙◌}
use Rattle.std.specs.BTreeMap.{insert_entry}
use Rattle.std.proofs.lemmas.List.Sums.{fold-append}
use Rattle.calc_addr.specs.Places.{Place, place_cmp}
use Rattle.calc_model.specs.declared.content.Content.{Content}
use Rattle.calc_model.specs.CellEdits.{CellEntries, with_entries}
use Rattle.calc_model.specs.GeneratedBook.{double_entries, generated_entries, number_entries, running_entries, window_entries}
use Rattle.book_parts.proofs.generated.generated.Goals as goal

abbrev put : CellEntries → Place × Content → CellEntries
put es e = insert_entry place_cmp es e.0 e.1

pub returns : goal.returns
unfolding generated_entries
returns c =
    let a = number_entries c.args.start c.args.rows in
    let b = double_entries c.args.rows in
    let r = running_entries c.args.rows in
    let w = window_entries c.args.rows in
    c.in_ok-put_column-4.ensures.cells
    ∙ ap (λ (es : CellEntries). with_entries es w) (c.in_ok-put_column-3.ensures.cells
    ∙ ap (λ (es : CellEntries). with_entries es r) (c.in_ok-put_column-2.ensures.cells
    ∙ ap (λ (es : CellEntries). with_entries es b) (c.in_ok-put_column.ensures.cells
    ∙ ap (λ (es : CellEntries). with_entries es a) c.in_ok-cells.ensures)))
    ∙ sym (fold-append put [] (a ++ b ++ r) w
    ∙ ap (λ (es : CellEntries). with_entries es w) (fold-append put [] (a ++ b) r
    ∙ ap (λ (es : CellEntries). with_entries es r) (fold-append put [] a b)))
