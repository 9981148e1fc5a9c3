-- What becomes of registrations, and of what cells read, when one is put at a place or taken away.
use Rattle.std.proofs.Common.{◌≡◌, ℕ, true, false, cond, Option, Some, None, refl, sym, ap, subst, ◌∙◌, ⊎_elim, eq-eqb}
use Rattle.std.specs.Prelude.{◌==◌}
use Rattle.std.proofs.lemmas.Bool.{cases_Bool, eqb-true, false≢true}
use Rattle.calc_addr.specs.Places.{Place}
use Rattle.registration_slab.specs.declared.registration.Registration.{Registration}
use Rattle.registration_slab.specs.Cuts.{areas_in}
use Rattle.registration_slab.specs.Slab.{AreApart, Registrations, areas_of, at, has_cell, is_in}
use Rattle.registration_slab.proofs.Places.{Lacks, Stands, lacks_read, read_at, read_none, where_read}

eq_false : (i p : ℕ) → (i ≡ p → ⊥) → (i == p) ≡ false
eq_false i p ne = ⊎_elim (λ (e : (i == p) ≡ true). absurd (ne (eqb-true i p e))) (λ (e : (i == p) ≡ false). e) (cases_Bool (i == p))

-- one place has something else
module _ (rs new : Registrations) (p : ℕ) (o : Option Registration) (is : (i : ℕ) → at new i ≡ cond (i == p) o (at rs i)) where
  pub at_place : at new p ≡ o
  at_place = is p ∙ ap (λ b. cond b o (at rs p)) (eq-eqb p p refl)

  pub at_other : (i : ℕ) → (i ≡ p → ⊥) → at new i ≡ at rs i
  at_other i ne = is i ∙ ap (λ b. cond b o (at rs i)) (eq_false i p ne)

  -- what holds of it and held of the others holds of all
  pub at_all : (P : ℕ → Option Registration → Type 0) → P p o → ((i : ℕ) → (i ≡ p → ⊥) → P i (at rs i)) → (i : ℕ) → P i (at new i)
  at_all P here others i =
      ⊎_elim (λ (e : (i == p) ≡ true).
      let same : p ≡ i = sym (eqb-true i p e) in
      subst (λ n. P n (at new n)) same (subst (P p) (sym at_place) here))
      (λ (e : (i == p) ≡ false).
      let ne : i ≡ p → ⊥ = λ h. false≢true (sym e ∙ eq-eqb i p h) in
      subst (P i) (sym (at_other i ne)) (others i ne))
      (cases_Bool (i == p))

-- a registration comes to a place that had none
module _ (rs new : Registrations) (p : ℕ) (r : Registration) (was : at rs p ≡ None) (is : (i : ℕ) → at new i ≡ cond (i == p) (Some r) (at rs i))
    (absent : (q : Place) → is_in r.run q ≡ true → areas_of rs q ≡ None) where
  free : (i : ℕ) (q : Place) → is_in r.run q ≡ true → has_cell (at rs i) q ≡ true → ⊥
  free i q in_run has = false≢true (sym (read_none rs q (absent q in_run) i) ∙ has)

  pub put_apart : AreApart rs → AreApart new
  put_apart apart i j q =
      at_all rs new p (Some r) is (λ m o. has_cell o q ≡ true → has_cell (at new j) q ≡ true → m ≡ j)
      (λ h. at_all rs new p (Some r) is (λ n o. has_cell o q ≡ true → p ≡ n) (λ k. refl) (λ n ne k. absurd (free n q h k)) j)
      (λ m ne h. at_all rs new p (Some r) is (λ n o. has_cell o q ≡ true → m ≡ n) (λ k. absurd (free m q k h)) (λ n other k. apart m n q h k) j)
      i

  pub put_reads : AreApart rs → (q : Place) → areas_of new q ≡ cond (is_in r.run q) (Some (areas_in r q)) (areas_of rs q)
  put_reads apart q =
      ⊎_elim (λ (e : is_in r.run q ≡ true).
      read_at new (put_apart apart) p r q (at_place rs new p (Some r) is) e ∙ ap (λ b. cond b (Some (areas_in r q)) (areas_of rs q)) (sym e))
      (λ (e : is_in r.run q ≡ false).
      ⊎_elim (λ (s : Stands rs q).
      let other : s.place ≡ p → ⊥ = λ h. some_none (sym s.there ∙ ap (at rs) h ∙ was) in
      read_at new (put_apart apart) s.place s.registration q (at_other rs new p (Some r) is s.place other ∙ s.there) s.has ∙ sym s.reads)
      (λ (l : Lacks rs q). lacks_read new q (at_all rs new p (Some r) is (λ i o. has_cell o q ≡ false) e (λ i ne. l.none i)) ∙ sym l.reads)
      (where_read rs q)
      ∙ ap (λ b. cond b (Some (areas_in r q)) (areas_of rs q)) (sym e))
      (cases_Bool (is_in r.run q))
    where
      some_none : {x : Registration} → Some x ≡ None → ⊥
      some_none h = cc

-- a place has no registration any more
module _ (rs new : Registrations) (p : ℕ) (is : (i : ℕ) → at new i ≡ cond (i == p) None (at rs i)) where
  pub taken_has : (i : ℕ) (q : Place) → has_cell (at new i) q ≡ true → (has_cell (at rs i) q ≡ true) × (i ≡ p → ⊥)
  taken_has i q = at_all rs new p None is (λ m o. has_cell o q ≡ true → (has_cell (at rs m) q ≡ true) × (m ≡ p → ⊥)) (λ h. absurd (false≢true h)) (λ m ne h. (h, ne)) i

  pub taken_apart : AreApart rs → AreApart new
  taken_apart apart i j q h k = apart i j q (taken_has i q h).0 (taken_has j q k).0

  pub taken_reads : AreApart rs → (q : Place) → areas_of new q ≡ cond (has_cell (at rs p) q) None (areas_of rs q)
  taken_reads apart q =
      ⊎_elim (λ (e : has_cell (at rs p) q ≡ true).
      ⊎_elim (λ (s : Stands new q).
      let has = taken_has s.place q (ap (λ o. has_cell o q) s.there ∙ s.has) in
      absurd (has.1 (apart s.place p q has.0 e)))
      (λ (l : Lacks new q). l.reads) (where_read new q)
      ∙ ap (λ b. cond b None (areas_of rs q)) (sym e))
      (λ (e : has_cell (at rs p) q ≡ false).
      ⊎_elim (λ (s : Stands rs q).
      let other : s.place ≡ p → ⊥ = λ h. false≢true (sym e ∙ ap (λ i. has_cell (at rs i) q) (sym h) ∙ ap (λ o. has_cell o q) s.there ∙ s.has) in
      read_at new (taken_apart apart) s.place s.registration q (at_other rs new p None is s.place other ∙ s.there) s.has ∙ sym s.reads)
      (λ (l : Lacks rs q). lacks_read new q (at_all rs new p None is (λ i o. has_cell o q ≡ false) refl (λ i ne. l.none i)) ∙ sym l.reads)
      (where_read rs q)
      ∙ ap (λ b. cond b None (areas_of rs q)) (sym e))
      (cases_Bool (has_cell (at rs p) q))
