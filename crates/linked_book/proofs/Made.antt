-- What holds where an edit was made.
use Rattle.std.proofs.Common.{◌≡◌, Bool, true, false, Result, Ok, Err}
use Rattle.std.specs.Prelude.{OnErr, OnOk}

module _ {T E : Type 0} where
  -- a hub that is ready was not spent by a refusal
  pub where_made : (done : Result T E) (spent : Bool) (P : Type 0) → OnErr done (spent ≡ true) → spent ≡ false → OnOk done P → P
  where_made (Ok x) spent P is ready holds = holds
  where_made (Err e) spent P is ready holds = cc

  pub made_both : (done : Result T E) (P Q R : Type 0) → (P → Q → R) → OnOk done P → OnOk done Q → OnOk done R
  made_both (Ok x) P Q R so p q = so p q
  made_both (Err e) P Q R so p q = tt

  pub made_ok : (done : Result T E) (x : T) (P : Type 0) → done ≡ Ok x → OnOk done P → P
  made_ok (Ok y) x P is holds = holds
  made_ok (Err e) x P is holds = cc
