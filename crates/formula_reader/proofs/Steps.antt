-- The steps of a reading: what one says that doesn't fail, and the turns of a repeated one.
use Rattle.formula_reader.specs.declared.cursor.Stop.TheVariants as stops
use Rattle.std.proofs.Common.{◌≡◌, ◌+◌, ◌-◌, ℕ, zero, suc, Bool, true, false, cond, List, [], ◌∷◌, ◌++◌, drop, Option, Some, None, refl, sym, ap, ◌∙◌, subst, ◌⊎◌, inl, inr, arith, ◌<◌, length}
use Rattle.std.specs.Prelude.{◌==◌, option_map}
use Rattle.std.specs.List.{list_all, prefix_len, take_while}
use Rattle.std.proofs.lemmas.Bool.{and_from, cond-false, cond-true, eqb-false, eqb-true}
use Rattle.std.proofs.lemmas.List.{take-append-drop}
use Rattle.std.proofs.lemmas.List.Sums.{take_while-cons}
use Rattle.std.proofs.lemmas.Option.{same_Some, some_pair_parts}
use Rattle.calc_model.specs.Tokens.{are_blanks, is_blank}
use Rattle.byte_cuts.specs.Fronts.{behind}
use Rattle.formula_reader.specs.Unread.{◌>>=◌, Unread, next_is, past, skip, token_at, go_on, repeat, Fails, some_taken, taken_if}
use Rattle.formula_reader.specs.declared.cursor.Stop.{Stop}

pub bind_some : {A B : Type 0} (o : Option A) (step : A → Option B) (y : B) → (o >>= step) ≡ Some y → (x : A) × (o ≡ Some x) × (step x ≡ Some y)
bind_some None step y e = cc
bind_some (Some x) step y e = (x, refl, e)

pub map_some : {A B : Type 0} (f : A → B) (o : Option A) (y : B) → option_map f o ≡ Some y → (x : A) × (o ≡ Some x) × (f x ≡ y)
map_some f None y e = cc
map_some f (Some x) y e = (x, refl, same_Some (f x) y e)

-- one of two ways
pub either : {A : Type 0} (P : Type 0) (b : Bool) (x y : Option A) (a : A) → (b ≡ true → x ≡ Some a → P) → (b ≡ false → y ≡ Some a → P) → cond b x y ≡ Some a → P
either P true x y a h k e = h refl e
either P false x y a h k e = k refl e

pub empty_from : (text : List ℕ) → (length text == 0) ≡ true → text ≡ []
empty_from [] h = refl
empty_from (byte ∷ text) h = absurd (omega (arith, eqb-true (length (byte ∷ text)) 0 h))

pub none_or : {A : Type 0} (b : Bool) (o : Option A) (x : A) → cond b None o ≡ Some x → (b ≡ false) × (o ≡ Some x)
none_or true o x e = cc
none_or false o x e = (refl, e)

pub some_or : {A : Type 0} (b : Bool) (o : Option A) (x : A) → cond b o None ≡ Some x → (b ≡ true) × (o ≡ Some x)
some_or true o x e = (refl, e)
some_or false o x e = cc

pub mapped_some : {A B : Type 0} (f : A → B) (o : Option A) (y : B) → option_map f o ≡ Some y → (x : A) × (o ≡ Some x)
mapped_some f None y e = cc
mapped_some f (Some x) y e = (x, refl)

-- what is left to read
abbrev pub at : List ℕ → ℕ → Unread
at bytes tokens = record { bytes = bytes; tokens = tokens }

-- the bytes in front that pass, and what stands behind them
passes_more : (test : ℕ → Bool) (byte : ℕ) (bytes : List ℕ) (b : Bool) → test byte ≡ b → list_all test (take_while test bytes) ≡ true → list_all test (take_while test (byte ∷ bytes)) ≡ true
passes_more test byte bytes true e h =
    ap (list_all test) (take_while-cons test byte bytes ∙ cond-true (test byte) _ _ e) ∙ and_from (test byte) (list_all test (take_while test bytes)) e h
passes_more test byte bytes false e h = ap (list_all test) (take_while-cons test byte bytes ∙ cond-false (test byte) _ _ e)

pub front_passes : (test : ℕ → Bool) (bytes : List ℕ) → list_all test (take_while test bytes) ≡ true
front_passes test [] = refl
front_passes test (byte ∷ bytes) = passes_more test byte bytes (test byte) refl (front_passes test bytes)

pub front_and_behind : (test : ℕ → Bool) (bytes : List ℕ) → bytes ≡ take_while test bytes ++ behind test bytes
front_and_behind test bytes = sym (take-append-drop (prefix_len test bytes) bytes)

-- what taking a token says
pub record Past (n : ℕ) (rest : List ℕ) (l : Unread) : Type 0 where
  pub blanks : List ℕ
  pub are_blank : are_blanks blanks ≡ true
  pub joined : rest ≡ blanks ++ l.bytes
  pub tokens : n ≡ 1 + l.tokens

past_by : (n : ℕ) (rest : List ℕ) (b : Bool) (l : Unread) → (n == 0) ≡ b → cond b None (Some (at (skip rest) (n - 1))) ≡ Some l → Past n rest l
past_by n rest true l e h = cc
past_by n rest false l e h =
    let same : at (skip rest) (n - 1) ≡ l = same_Some (at (skip rest) (n - 1)) l h in
    let more : n ≡ 0 → ⊥ = eqb-false n 0 e in
    subst (Past n rest) same record {
      blanks = take_while is_blank rest;
      are_blank = front_passes is_blank rest;
      joined = front_and_behind is_blank rest;
      tokens = omega (arith, more);
    }

pub past_says : (n : ℕ) (rest : List ℕ) (l : Unread) → past n rest ≡ Some l → Past n rest l
past_says n rest l h = past_by n rest (n == 0) l refl h

-- what a token of one byte says
pub record Token (byte : ℕ) (l after : Unread) : Type 0 where
  pub rest : List ℕ
  pub joined : l.bytes ≡ byte ∷ rest
  pub passed : Past l.tokens rest after

token_by : (byte : ℕ) (bytes : List ℕ) (n : ℕ) (after : Unread) → next_is byte bytes ≡ true → past n (drop 1 bytes) ≡ Some after → Token byte (at bytes n) after
token_by byte [] n after e h = cc
token_by byte (first ∷ rest) n after e h = record { rest = rest; joined = ap (λ b. b ∷ rest) (eqb-true first byte e); passed = past_says n rest after h }

pub token_says : (byte : ℕ) (l after : Unread) → token_at byte l ≡ Some after → Token byte l after
token_says byte l after h =
    let parts = some_or (next_is byte l.bytes) (past l.tokens (drop 1 l.bytes)) after h in
    token_by byte l.bytes l.tokens after parts.0 parts.1

-- what was found and taken, and what was not there
pub record TakenSome {X : Type 0} (unread : Unread) (found : Option (X × List ℕ)) (x : X) (after : Unread) : Type 0 where
  pub rest : List ℕ
  pub is : found ≡ Some (x, rest)
  pub passed : Past unread.tokens rest after

pub taken_some : {X : Type 0} (unread after : Unread) (x : X) (found : Option (X × List ℕ)) → taken_if unread found ≡ Some (Some x, after) → TakenSome unread found x after
taken_some unread after x None h = let none = (some_pair_parts None (Some x) unread after h).0 in cc
taken_some {X} unread after x (Some found) h =
    let made = map_some (some_taken found.0) (past unread.tokens found.1) (Some x, after) h in
    let same : found.0 ≡ x = same_Some found.0 x (ap (λ (r : Option X × Unread). r.0) made.2) in
    let last : made.0 ≡ after = ap (λ (r : Option X × Unread). r.1) made.2 in
    record {
      rest = found.1;
      is = ap (λ y. Some (y, found.1)) same;
      passed = subst (Past unread.tokens found.1) last (past_says unread.tokens found.1 made.0 made.1);
    }

pub taken_none : {X : Type 0} (unread after : Unread) (found : Option (X × List ℕ)) → taken_if unread found ≡ Some (None, after) → (found ≡ None) × (unread ≡ after)
taken_none {X} unread after None h = (refl, (some_pair_parts {A = Option X} None None unread after h).1)
taken_none {X} unread after (Some found) h =
    let made = map_some (some_taken found.0) (past unread.tokens found.1) (None, after) h in
    let some : Some found.0 ≡ None = ap (λ (r : Option X × Unread). r.0) made.2 in
    cc

-- what holds of each turn of a repeated step that leaves what is unread where it ends, while fewer turns may follow
module _ {S : Type 0} (step : S → Unread → Option (Option S × Unread)) (stays : (state : S) (unread after : Unread) → step state unread ≡ Some (None, after) → unread ≡ after)
    (Q : ℕ → S → Unread → Type 0) (turn : (n : ℕ) (state next : S) (unread after : Unread) → Q (suc n) state unread → step state unread ≡ Some (Some next, after) → Q n next after) where
  -- how it ends: at a step that makes no more, or when all turns are taken
  pub record Ended (state : S) (last : Unread) : Type 0 where
    pub left : ℕ
    pub holds : Q left state last
    pub stops : (step state last ≡ Some (None, last)) ⊎ (left ≡ 0)

  ends_by : (n : ℕ) (state final : S) (unread last : Unread) (o : Option S) (after : Unread) → step state unread ≡ Some (o, after) → ((next : S) → Q n next after → repeat step n next after ≡ Some (final, last) → Ended final last) → Q (suc n) state unread → go_on (repeat step n) state (o, after) ≡ Some (final, last) → Ended final last
  ends_by n state final unread last None after e rest q h =
      let same = stays state unread after e in
      let stopped : step state after ≡ Some (None, after) = subst (λ l. step state l ≡ Some (None, after)) same e in
      let ended : Ended state after = record { left = suc n; holds = subst (Q (suc n) state) same q; stops = inl stopped } in
      subst (λ (p : S × Unread). Ended p.0 p.1) (same_Some (state, after) (final, last) h) ended
  ends_by n state final unread last (Some next) after e rest q h = rest next (turn n state next unread after q e) h

  pub repeat_says : (n : ℕ) (state final : S) (unread last : Unread) → Q n state unread → repeat step n state unread ≡ Some (final, last) → Ended final last
  unfolding repeat
  repeat_says zero state final unread last q h =
      let ended : Ended state unread = record { left = 0; holds = q; stops = inr refl } in
      subst (λ (p : S × Unread). Ended p.0 p.1) (same_Some (state, unread) (final, last) h) ended
  repeat_says (suc n) state final unread last q h =
      let made = bind_some (step state unread) (go_on (repeat step n) state) (final, last) h in
      ends_by n state final unread last made.0.0 made.0.1 made.1 (λ next r k. repeat_says n next final made.0.1 last r k) q made.2

module _ {S : Type 0} (step : S → Unread → Option (Option S × Unread)) where
  pub repeat_goes : (n : ℕ) (state next : S) (unread after : Unread) → 0 < n → step state unread ≡ Some (Some next, after) → repeat step n state unread ≡ repeat step (n - 1) next after
  unfolding repeat
  repeat_goes zero state next unread after some e = absurd (omega arith)
  repeat_goes (suc n) state next unread after some e =
      let one : suc n - 1 ≡ n = omega arith in
      ap (λ o. o >>= go_on (repeat step n) state) e ∙ ap (λ k. repeat step k next after) (sym one)

  pub repeat_stops : (n : ℕ) (state : S) (unread after : Unread) → 0 < n → step state unread ≡ Some (None, after) → repeat step n state unread ≡ Some (state, after)
  unfolding repeat
  repeat_stops zero state unread after some e = absurd (omega arith)
  repeat_stops (suc n) state unread after some e = ap (λ o. o >>= go_on (repeat step n) state) e

  pub repeat_fails : (n : ℕ) (state : S) (unread : Unread) → 0 < n → step state unread ≡ None → repeat step n state unread ≡ None
  unfolding repeat
  repeat_fails zero state unread some e = absurd (omega arith)
  repeat_fails (suc n) state unread some e = ap (λ o. o >>= go_on (repeat step n) state) e

  pub repeat_ends : (n : ℕ) (state : S) (unread : Unread) → n ≡ 0 → repeat step n state unread ≡ Some (state, unread)
  unfolding repeat
  repeat_ends zero state unread e = refl
  repeat_ends (suc n) state unread e = absurd (omega arith)

  -- where no further step is there, any number of turns gives the same
  pub repeat_done : (n : ℕ) (state : S) (unread : Unread) → step state unread ≡ Some (None, unread) → repeat step n state unread ≡ Some (state, unread)
  repeat_done zero state unread e = repeat_ends 0 state unread refl
  repeat_done (suc n) state unread e = repeat_stops (suc n) state unread unread (omega arith) e

-- What fails for a stop fails for it elsewhere too, where one reading fails with the other.
pub fails_along : {A B : Type 0} (stop : Stop) (read : Option A) (whole : Option B) → (read ≡ None → whole ≡ None) → Fails stop read → Fails stop whole
fails_along stops.NoMemory read whole along fails = tt
fails_along stops.Unspelled read whole along fails = along fails

-- where what a turn rests on fails, all turns do
pub repeat_fails_along : {S A : Type 0} (step : S → Unread → Option (Option S × Unread)) (stop : Stop) (read : Option A) (n : ℕ) (state : S) (unread : Unread) (whole : Option (S × Unread)) → 0 < n → (read ≡ None → step state unread ≡ None) → repeat step n state unread ≡ whole → Fails stop read → Fails stop whole
repeat_fails_along step stop read n state unread whole some along same fails =
    fails_along stop read whole (λ none. sym same ∙ repeat_fails step n state unread some (along none)) fails
