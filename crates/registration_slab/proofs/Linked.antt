-- Who listens, when a registration is put at a place or taken away.
use Rattle.std.proofs.Common.{◌≡◌, ℕ, Bool, true, false, cond, not, ◌&&◌, ◌||◌, Option, Some, None, refl, sym, ap, ◌∙◌, eq-eqb}
use Rattle.std.specs.Prelude.{◌==◌}
use Rattle.std.specs.List.{All}
use Rattle.std.proofs.lemmas.Bool.{ne_eqb}
use Rattle.calc_addr.specs.Places.{IsRows, Place, Rectangle}
use Rattle.ears.specs.RunAreas.{LieInSheet}
use Rattle.area_listeners.specs.declared.listener.Listener.{Listener}
use Rattle.area_listeners.specs.Pairs.{Pairs, holds}
use Rattle.area_listeners.specs.Pairs.{is_same}
use Rattle.registration_slab.specs.declared.registration.Registration.{Registration}
use Rattle.registration_slab.specs.Slab.{IsSlab, LiesInSheet, Registrations, area_of, areas_of, at, hears, is_heard, is_in, stands, steps_of}
use Rattle.registration_slab.proofs.Changes.{at_all, put_apart, taken_apart}

or_false : (b : Bool) → (b || false) ≡ b
or_false true = refl
or_false false = refl

and_true : (b : Bool) → (b && true) ≡ b
and_true true = refl
and_true false = refl

not_both : (b : Bool) → (b && not b) ≡ false
not_both true = refl
not_both false = refl

-- each listener is one of the registration at its place
abbrev pub Links : (Option Registration → Rectangle → Bool) → Registrations → Pairs → Type 0
Links f rs lists = (l : Listener) → holds lists l ≡ f (at rs l.id) l.area

module _ (f : Option Registration → Rectangle → Bool) (none : (a : Rectangle) → f None a ≡ false) (rs new : Registrations) (p : ℕ) (r : Registration) (old now : Pairs) (links : Links f rs old) where
  pub put_links : at rs p ≡ None → ((i : ℕ) → at new i ≡ cond (i == p) (Some r) (at rs i)) → ((l : Listener) → holds now l ≡ (holds old l || ((l.id == p) && f (Some r) l.area))) → Links f new now
  put_links was is adds l =
      at_all rs new p (Some r) is (λ i o. l.id ≡ i → holds now l ≡ f o l.area)
      (λ e. adds l ∙ ap (λ b. holds old l || (b && f (Some r) l.area)) (eq-eqb l.id p e)
      ∙ ap (λ b. b || f (Some r) l.area) (links l ∙ ap (λ i. f (at rs i) l.area) e ∙ ap (λ o. f o l.area) was ∙ none l.area))
      (λ i ne e. adds l ∙ ap (λ b. holds old l || (b && f (Some r) l.area)) (ne_eqb l.id p (λ h. ne (sym e ∙ h)))
      ∙ or_false (holds old l) ∙ links l ∙ ap (λ n. f (at rs n) l.area) e)
      l.id refl

  pub taken_links : at rs p ≡ Some r → ((i : ℕ) → at new i ≡ cond (i == p) None (at rs i)) → ((l : Listener) → holds now l ≡ (holds old l && not ((l.id == p) && f (Some r) l.area))) → Links f new now
  taken_links was is drops l =
      at_all rs new p None is (λ i o. l.id ≡ i → holds now l ≡ f o l.area)
      (λ e. drops l ∙ ap (λ b. holds old l && not (b && f (Some r) l.area)) (eq-eqb l.id p e)
      ∙ ap (λ b. b && not (f (Some r) l.area)) (links l ∙ ap (λ i. f (at rs i) l.area) e ∙ ap (λ o. f o l.area) was)
      ∙ not_both (f (Some r) l.area) ∙ sym (none l.area))
      (λ i ne e. drops l ∙ ap (λ b. holds old l && not (b && f (Some r) l.area)) (ne_eqb l.id p (λ h. ne (sym e ∙ h)))
      ∙ and_true (holds old l) ∙ links l ∙ ap (λ n. f (at rs n) l.area) e)
      l.id refl

module _ (rs new : Registrations) (p : ℕ) (r : Registration) (ears homes new_ears new_homes : Pairs) (slab : IsSlab rs ears homes) where
  pub put_slab : at rs p ≡ None → ((i : ℕ) → at new i ≡ cond (i == p) (Some r) (at rs i)) → ((q : Place) → is_in r.run q ≡ true → areas_of rs q ≡ None)
      → IsRows r.run → All (LieInSheet (steps_of r.run)) r.ears.items
      → ((l : Listener) → holds new_ears l ≡ (holds ears l || ((l.id == p) && is_heard r.ears.items (steps_of r.run) l.area)))
      → ((l : Listener) → holds new_homes l ≡ (holds homes l || is_same l (record { area = area_of r.run; id = p })))
      → IsSlab new new_ears new_homes
  put_slab was is absent rows inside heard homed = record {
    heard = put_links hears (λ a. refl) rs new p r ears new_ears slab.heard was is heard;
    homed = put_links stands (λ a. refl) rs new p r homes new_homes slab.homed was is homed;
    apart = put_apart rs new p r was is absent slab.apart;
    inside = at_all rs new p (Some r) is (λ i o. LiesInSheet o) (rows, inside) (λ i ne. slab.inside i);
  }

  pub taken_slab : at rs p ≡ Some r → ((i : ℕ) → at new i ≡ cond (i == p) None (at rs i))
      → ((l : Listener) → holds new_ears l ≡ (holds ears l && not ((l.id == p) && is_heard r.ears.items (steps_of r.run) l.area)))
      → ((l : Listener) → holds new_homes l ≡ (holds homes l && not (is_same l (record { area = area_of r.run; id = p }))))
      → IsSlab new new_ears new_homes
  taken_slab was is heard homed = record {
    heard = taken_links hears (λ a. refl) rs new p r ears new_ears slab.heard was is heard;
    homed = taken_links stands (λ a. refl) rs new p r homes new_homes slab.homed was is homed;
    apart = taken_apart rs new p is slab.apart;
    inside = at_all rs new p None is (λ i o. LiesInSheet o) tt (λ i ne. slab.inside i);
  }
