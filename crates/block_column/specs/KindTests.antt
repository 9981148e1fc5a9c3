-- Whether two kinds are one.
use Rattle.std.proofs.Common.{◌≡◌, ℕ, zero, suc, refl, sym, ap, ◌∙◌, ◌==◌}
use Rattle.std.specs.Bool.{Decides}
use Rattle.std.proofs.lemmas.Bool.Decides.{Decides-eqb}
use Rattle.block_column.specs.declared.block.Kind.{Kind}
use Rattle.block_column.specs.declared.block.Kind.TheVariants.{Empty, Number, Words, Bad, Raw, Formula}
use Rattle.block_column.specs.Kinds.{kind_rank, same_kind}

ranked : ℕ → Kind
ranked zero = Empty
ranked (suc zero) = Number
ranked (suc (suc zero)) = Words
ranked (suc (suc (suc zero))) = Bad
ranked (suc (suc (suc (suc zero)))) = Raw
ranked (suc (suc (suc (suc (suc n))))) = Formula

ranked-rank : (k : Kind) → ranked (kind_rank k) ≡ k
unfolding ranked
ranked-rank Empty = refl
ranked-rank Number = refl
ranked-rank Words = refl
ranked-rank Bad = refl
ranked-rank Raw = refl
ranked-rank Formula = refl

pub kinds-decided : (k l : Kind) → Decides (same_kind k l) (k ≡ l)
kinds-decided k l =
    let ranks : Decides (kind_rank k == kind_rank l) (kind_rank k ≡ kind_rank l) = Decides-eqb (kind_rank k) (kind_rank l) in
    (λ h. sym (ranked-rank k) ∙ ap ranked (ranks.0 h) ∙ ranked-rank l, λ e. ranks.1 (ap kind_rank e))
