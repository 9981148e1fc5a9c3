-- A slice whose every lane is written is the whole list.
use Rattle.std.proofs.Common.{◌≡◌, ℕ, ℤ, pos, ◌<◌, List, length, get_or, arith, sym, ◌∙◌}
use Rattle.std.proofs.lemmas.List.{ext_get_or}
use Rattle.std.proofs.lemmas.Simd.{get_or-zip2, length-zip2}
use lib.Lanes.{zip2}

pub lanes_written : {X Y : Type 0} (f : X → Y → ℤ) (a : List X) (b : List Y) (x : X) (y : Y) (out : List ℤ) → length a ≡ length b → length out ≡ length a → ((k : ℕ) → k < length a → get_or out k (pos 0) ≡ f (get_or a k x) (get_or b k y)) → out ≡ zip2 f a b
lanes_written f a b x y out paired room each =
    let long = length-zip2 f a b paired in
    ext_get_or (pos 0) out (zip2 f a b) (omega arith)
    (λ k inside. each k (omega arith) ∙ sym (get_or-zip2 f a b k x y (pos 0) (omega arith) (omega arith)))
