-- Values that the test takes for one are one.
use Rattle.std.proofs.Common.{◌≡◌, true, refl, ap, subst}
use Rattle.std.specs.Str.{bytes_eq}
use Rattle.std.specs.Cmp.Lexicographic.{bytes_decides}
use Rattle.std.proofs.lemmas.Bool.Decides.{Decides-int_eq}
use Rattle.calc_model.specs.ValueTexts.{fault_text}
use Rattle.calc_model.specs.declared.fault.Fault.{Fault}
use Rattle.calc_model.specs.declared.fault.Fault.TheVariants.{NA, DivZero, BadValue, BadRef, BadName, BadNum, Null, Over, Syntax, Circular}
use Rattle.calc_model.specs.declared.value.Value.{Value}
use Rattle.calc_model.specs.declared.value.Value.TheVariants.{Number, Words, Bad, Blank}
use Rattle.calc_watch.specs.Reports.{TellsValuesApart, same_value}

-- no two faults have one text
same_fault : (fault other : Fault) → bytes_eq (fault_text fault) (fault_text other) ≡ true → fault ≡ other
same_fault NA NA h = refl
same_fault DivZero DivZero h = refl
same_fault BadValue BadValue h = refl
same_fault BadRef BadRef h = refl
same_fault BadName BadName h = refl
same_fault BadNum BadNum h = refl
same_fault Null Null h = refl
same_fault Over Over h = refl
same_fault Syntax Syntax h = refl
same_fault Circular Circular h = refl
same_fault fault other h = cc

same : (value other : Value) → same_value value other ≡ true → value ≡ other
same (Number n) (Number m) h = ap Number ((Decides-int_eq n m).0 h)
same (Words text) (Words other) h = ap Words ((bytes_decides text other).0 h)
same (Bad fault) (Bad other) h = ap Bad (same_fault fault other h)
same Blank Blank h = refl
same value other h = cc

itself : (value : Value) → same_value value value ≡ true
itself (Number n) = (Decides-int_eq n n).1 refl
itself (Words text) = (bytes_decides text text).1 refl
itself (Bad fault) = (bytes_decides (fault_text fault) (fault_text fault)).1 refl
itself Blank = refl

pub told_apart : TellsValuesApart
told_apart value other = (same value other, λ e. subst (λ v. same_value value v ≡ true) e (itself value))
