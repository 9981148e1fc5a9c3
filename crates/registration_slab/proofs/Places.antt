-- Where a cell's areas stand among registrations that are apart.
use Rattle.std.proofs.Common.{◌≡◌, ◌⊎◌, ℕ, zero, suc, true, false, cond, List, [], ◌∷◌, Option, Some, None, refl, sym, ap, ◌∙◌, inl, inr, ⊎_elim}
use Rattle.std.proofs.lemmas.Bool.{cases_Bool, false≢true}
use Rattle.calc_addr.specs.Places.{Place, Rectangle}
use Rattle.registration_slab.specs.declared.registration.Registration.{Registration}
use Rattle.registration_slab.specs.Cuts.{areas_in}
use Rattle.registration_slab.specs.Slab.{AreApart, Registrations, areas_of, at, has_cell, is_in}

-- a registration has the cell
pub record Stands (rs : Registrations) (q : Place) : Type 0 where
  pub place : ℕ
  pub registration : Registration
  pub there : at rs place ≡ Some registration
  pub has : is_in registration.run q ≡ true
  pub reads : areas_of rs q ≡ Some (areas_in registration q)

-- none has it
pub record Lacks (rs : Registrations) (q : Place) : Type 0 where
  pub none : (i : ℕ) → has_cell (at rs i) q ≡ false
  pub reads : areas_of rs q ≡ None

below_more : (r : Option Registration) (rs : Registrations) (q : Place) → has_cell r q ≡ false → Lacks rs q → (i : ℕ) → has_cell (at (r ∷ rs) i) q ≡ false
below_more r rs q none lacks zero = none
below_more r rs q none lacks (suc i) = lacks.none i

pub where_read : (rs : Registrations) (q : Place) → Stands rs q ⊎ Lacks rs q
where_read [] q = inr (record { none = λ i. refl; reads = refl })
where_read (None ∷ rs) q =
    ⊎_elim (λ (s : Stands rs q). inl (record { place = suc s.place; registration = s.registration; there = s.there; has = s.has; reads = s.reads }))
    (λ (l : Lacks rs q). inr (record { none = below_more None rs q refl l; reads = l.reads }))
    (where_read rs q)
where_read (Some r ∷ rs) q =
    ⊎_elim (λ (e : is_in r.run q ≡ true). inl (record { place = zero; registration = r; there = refl; has = e; reads = ap (λ b. cond b (Some (areas_in r q)) (areas_of rs q)) e }))
    (λ (e : is_in r.run q ≡ false).
    let skip : areas_of (Some r ∷ rs) q ≡ areas_of rs q = ap (λ b. cond b (Some (areas_in r q)) (areas_of rs q)) e in
    ⊎_elim (λ (s : Stands rs q). inl (record { place = suc s.place; registration = s.registration; there = s.there; has = s.has; reads = skip ∙ s.reads }))
    (λ (l : Lacks rs q). inr (record { none = below_more (Some r) rs q e l; reads = skip ∙ l.reads }))
    (where_read rs q))
    (cases_Bool (is_in r.run q))

some_same : {x y : Registration} → Some x ≡ Some y → x ≡ y
some_same h = cc

-- the cell reads what its registration says
pub read_at : (rs : Registrations) → AreApart rs → (i : ℕ) (r : Registration) (q : Place) → at rs i ≡ Some r → is_in r.run q ≡ true → areas_of rs q ≡ Some (areas_in r q)
read_at rs apart i r q there has =
    let here : has_cell (at rs i) q ≡ true = ap (λ o. has_cell o q) there ∙ has in
    ⊎_elim (λ (s : Stands rs q).
    let same : i ≡ s.place = apart i s.place q here (ap (λ o. has_cell o q) s.there ∙ s.has) in
    s.reads ∙ ap (λ x. Some (areas_in x q)) (some_same (sym s.there ∙ ap (at rs) (sym same) ∙ there)))
    (λ (l : Lacks rs q). absurd (false≢true (sym (l.none i) ∙ here)))
    (where_read rs q)

pub lacks_read : (rs : Registrations) (q : Place) → ((i : ℕ) → has_cell (at rs i) q ≡ false) → areas_of rs q ≡ None
lacks_read rs q none =
    ⊎_elim (λ (s : Stands rs q). absurd (false≢true (sym (none s.place) ∙ ap (λ o. has_cell o q) s.there ∙ s.has)))
    (λ (l : Lacks rs q). l.reads)
    (where_read rs q)

pub read_none : (rs : Registrations) (q : Place) → areas_of rs q ≡ None → (i : ℕ) → has_cell (at rs i) q ≡ false
read_none rs q e i =
    ⊎_elim (λ (s : Stands rs q). absurd (some_none (sym s.reads ∙ e)))
    (λ (l : Lacks rs q). l.none i)
    (where_read rs q)
  where
    some_none : {x : List Rectangle} → Some x ≡ None → ⊥
    some_none h = cc
