use Rattle.std.proofs.Common.{◌≡◌, ◌++◌, ◌-◌, ap, drop, reverse, sym, take, ◌∙◌}
use Rattle.std.proofs.lemmas.List.{reverse-append, take-append-drop}
use Rattle.formula_code.proofs.building.take_args.Goals as goal

pub returns-clause-taken : goal.returns-clause-taken
returns-clause-taken c =
    let trees = c.args.trees.now.items in
    let kept = c.len.result - c.from.result in
    let args : c.from_vec.result ≡ drop kept trees = c.from_vec.ensures ∙ c.in_ok-args.ensures.tail in
    ap reverse (sym (take-append-drop kept trees))
    ∙ reverse-append (take kept trees) (drop kept trees)
    ∙ ap (λ xs. reverse xs ++ reverse (take kept trees)) (sym args)
    ∙ ap (λ xs. reverse c.from_vec.result ++ reverse xs) (sym c.in_ok-args.ensures.items)
