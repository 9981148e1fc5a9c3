use Rattle.std.proofs.Common.{◌+◌, ◌-◌, ◌++◌, sym, ap, subst, ◌∙◌, arith}
use Rattle.value_column.specs.Rows.{value_at, value_tag}
use Rattle.value_column.specs.Spans.{IsNextSpan, RowsLeft, rows_left, span_values}
use Rattle.value_column.proofs.LeftRows.{first-left, left-behind, left-length, shorter}
use Rattle.value_column.proofs.spans.SpansIterator.next.Goals as goal

pub returns-clause-steps : goal.returns-clause-steps
returns-clause-steps c =
    let t = c.self.inside.lanes.now in
    let vs = span_values c.span-span.result in
    let next = c.self.inside.next in
    let end = c.self.inside.end in
    let after : RowsLeft = record { first = next + c.len.result + 1; values = rows_left t (next + c.len.result) (end - (next + c.len.result)) } in
    subst (λ left. IsNextSpan left c.span-span.result after) c.self.view_is
    (record {
      first = c.span-span.ensures.first;
      some = c.span-span.ensures.some;
      values = left-behind t vs next end c.span-span.ensures.within c.span-span.ensures.rows ∙ ap (λ n. vs ++ rows_left t (next + n) (end - (next + n))) (sym c.len.ensures);
      behind = omega (arith, c.len.ensures);
      kinds = c.span-span.ensures.kinds;
      longest = λ some same. c.span-span.ensures.longest (omega (arith, some, c.len.ensures, left-length t (next + c.len.result) (end - (next + c.len.result)))) (ap value_tag (ap (λ m. value_at t (next + m)) (sym c.len.ensures) ∙ sym (first-left t (next + c.len.result) (end - (next + c.len.result)) (omega (arith, some, left-length t (next + c.len.result) (end - (next + c.len.result)))))) ∙ same);
    })

pub returns-clause-goes : goal.returns-clause-goes
returns-clause-goes c =
    record {
      on = λ _. (tt, tt, shorter _ _ c.span-span.result (returns-clause-steps c));
      keeps = tt;
      rests = λ _. tt;
    }
