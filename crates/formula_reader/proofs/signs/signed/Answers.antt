use Rattle.formula_reader.proofs.signs.signed.Goals as goal
use Rattle.std.proofs.Common.{◌≡◌, [], ◌∷◌, ◌++◌, ap, sym, ◌∙◌}
use Rattle.std.specs.Option.{option_to_list}
use Rattle.formula_reader.specs.Signs.{signed}
use Rattle.formula_reader.proofs.Turns.{signed_push}

pub loop-sign-preserved : goal.loop-sign-preserved
loop-sign-preserved c =
    let rest = c.pop.new.self.items in
    let sign = c.in-Some.sign in
    let parts : c.loop-sign.signs.items ≡ rest ++ sign ∷ [] = c.pop.ensures.items ∙ ap (λ last. rest ++ option_to_list last) c.in-Some.is in
    ap (signed rest) c.in_ok-made.ensures ∙ sym (signed_push rest sign c.loop-sign.made) ∙ sym (ap (λ signs. signed signs c.loop-sign.made) parts) ∙ c.loop-sign.invariant
