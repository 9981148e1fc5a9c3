-- A text that gains at its end, step by step.
use Rattle.std.proofs.Common.{◌≡◌, ℕ, ◌≤◌, List, ◌++◌, length, take, sym, ap, ◌∙◌, arith, length-append, Result, Ok, Err}
use Rattle.std.specs.Prelude.{OnErr}
use Rattle.std.proofs.Math.Seq.{take-append_seam}
use Rattle.std.proofs.lemmas.List.{length-take, take-append-le, take-take}
use Rattle.formula_printer.specs.Growth.{BeginsWith}

-- what begins with more begins with its front
pub begins_more : (old more mid new : List ℕ) → mid ≡ old ++ more → BeginsWith mid new → BeginsWith old new
begins_more old more mid new gained after = record {
  kept =
      let shorter : length old ≤ length mid = omega (arith, ap length gained, length-append old more) in
      sym (take-take (length old) (length mid) new shorter)
      ∙ ap (take (length old)) (after.kept ∙ gained)
      ∙ take-append_seam old more;
}

-- and so does what gains more
pub begins_extended : (old mid new more : List ℕ) → BeginsWith old mid → new ≡ mid ++ more → BeginsWith old new
begins_extended old mid new more before gained = record {
  kept =
      let shorter : length old ≤ length mid = omega (arith, ap length before.kept, length-take (length old) mid) in
      ap (take (length old)) gained ∙ take-append-le (length old) mid more shorter ∙ before.kept;
}

pub on_err : {T E : Type 0} (r : Result T E) (P : Type 0) → P → OnErr r P
on_err (Ok done) P is = tt
on_err (Err refused) P is = is
