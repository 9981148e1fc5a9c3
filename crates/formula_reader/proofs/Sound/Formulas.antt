-- What is read as a formula is spelled so, within the limits.
use Rattle.std.proofs.Common.{◌≡◌, ◌≤◌, ◌+◌, ◌&&◌, ℕ, Bool, true, false, cond, nat_eq, nat_le, nat_lt, List, [], ◌∷◌, ◌++◌, length, take, drop, Some, codes, refl, sym, ap, ◌∙◌, subst, arith}
use Rattle.std.specs.Prelude.{◌==◌}
use Rattle.std.specs.List.{starts_with, take_while}
use Rattle.std.proofs.lemmas.Bool.{and_from, eqb-true, le-leb, ltb-false}
use Rattle.std.proofs.lemmas.List.{append-nil, take-append-drop}
use Rattle.std.proofs.lemmas.Option.{same_Some}
use Rattle.std.proofs.lemmas.Slice.Eq.{bytes_eq-Decides}
use Rattle.calc_model.specs.Grammar.{IsFront, Spells, doubled, long, long_doubled, short}
use Rattle.calc_model.specs.Limits.{InLimits, is_in_limits}
use Rattle.calc_model.specs.Tokens.{is_blank}
use Rattle.calc_model.specs.declared.tree.Tree.{Tree}
use Rattle.formula_reader.specs.Unread.{Unread, next_is, skip}
use Rattle.formula_reader.specs.Reading.{behind_equals, behind_front, comparison_within, formula_by, formula_of, formula_within, whole, without}
use Rattle.formula_reader.specs.Operands.{inside_at, operands_at}
use Rattle.formula_reader.proofs.Complete.Formulas.{one_tree}
use Rattle.formula_reader.proofs.Steps.{at, empty_from, some_or, bind_some, front_and_behind, front_passes}
use Rattle.formula_reader.proofs.Sound.Levels.{inside_sound}
use Rattle.formula_reader.proofs.TreeCounts.{open_of, parameters_of, tokens_of}

-- the signs of equality in front
record Equals (text rest : List ℕ) : Type 0 where
  second : Bool
  joined : text ≡ cond second (61 ∷ 61 ∷ rest) (61 ∷ rest)

first_at : (text : List ℕ) → next_is 61 text ≡ true → text ≡ 61 ∷ drop 1 text
first_at [] h = cc
first_at (byte ∷ text) h = ap (λ b. b ∷ text) (eqb-true byte 61 h)

equals_by : (text rest : List ℕ) (b : Bool) → text ≡ 61 ∷ drop 1 text → next_is 61 (drop 1 text) ≡ b → cond b (drop 1 (drop 1 text)) (drop 1 text) ≡ rest → Equals text rest
equals_by text rest true first e h = record { second = true; joined = first ∙ ap (λ b. 61 ∷ b) (first_at (drop 1 text) e ∙ ap (λ b. 61 ∷ b) h) }
equals_by text rest false first e h = record { second = false; joined = first ∙ ap (λ b. 61 ∷ b) h }

equals_say : (text rest : List ℕ) → behind_equals text ≡ Some rest → Equals text rest
equals_say text rest h =
    let some = some_or (next_is 61 text) (Some (without 61 (drop 1 text))) rest h in
    equals_by text rest (next_is 61 (drop 1 text)) (first_at text some.0) refl (same_Some (without 61 (drop 1 text)) rest some.1)

record Front (text rest : List ℕ) : Type 0 where
  front : List ℕ
  is_front : IsFront front
  joined : text ≡ front ++ rest

short_front : (text rest : List ℕ) (second : Bool) → text ≡ cond second (61 ∷ 61 ∷ rest) (61 ∷ rest) → Front text rest
short_front text rest true e = record { front = codes "=="; is_front = doubled; joined = e }
short_front text rest false e = record { front = codes "="; is_front = short; joined = e }

long_front : (text rest : List ℕ) (second : Bool) → text ≡ codes "of:" ++ cond second (61 ∷ 61 ∷ rest) (61 ∷ rest) → Front text rest
long_front text rest true e = record { front = codes "of:=="; is_front = long_doubled; joined = e }
long_front text rest false e = record { front = codes "of:="; is_front = long; joined = e }

front_by : (text rest : List ℕ) (b : Bool) → starts_with nat_eq text (codes "of:") ≡ b → behind_equals (cond b (drop 3 text) text) ≡ Some rest → Front text rest
front_by text rest true e h =
    let equals = equals_say (drop 3 text) rest h in
    let same : codes "of:" ≡ take 3 text = (bytes_eq-Decides (codes "of:") (take 3 text)).0 e in
    long_front text rest equals.second (sym (take-append-drop 3 text) ∙ ap (λ f. f ++ drop 3 text) (sym same) ∙ ap (λ b. codes "of:" ++ b) equals.joined)
front_by text rest false e h =
    let equals = equals_say text rest h in
    short_front text rest equals.second equals.joined

front_says : (text rest : List ℕ) → behind_front text ≡ Some rest → Front text rest
front_says text rest h = front_by text rest (starts_with nat_eq text (codes "of:")) refl h

-- the counts in limits
in_limits : (x : Tree) → tokens_of x ≤ 1024 → open_of x ≤ 64 → parameters_of x ≤ 30 → is_in_limits x ≡ true
unfolding is_in_limits
in_limits x tokens opens parameters =
    and_from (nat_le (tokens_of x) 1024 && nat_le (open_of x) 64) (nat_le (parameters_of x) 30)
    (and_from (nat_le (tokens_of x) 1024) (nat_le (open_of x) 64) (le-leb (tokens_of x) 1024 tokens) (le-leb (open_of x) 64 opens))
    (le-leb (parameters_of x) 30 parameters)

by_length : (text : List ℕ) (tree : Tree) (b : Bool) → formula_by b text ≡ Some tree → (b ≡ false) × (formula_within 29 64 1024 text ≡ Some tree)
by_length text tree true h = cc
by_length text tree false h = (refl, h)

parts : (text : List ℕ) (tree : Tree) → formula_of text ≡ Some tree → (length text ≤ 8192) × (formula_within 29 64 1024 text ≡ Some tree)
unfolding formula_of
parts text tree h =
    let both = by_length text tree (nat_lt 8192 (length text)) h in
    (ltb-false 8192 (length text) both.0, both.1)

counted : (text : List ℕ) (tree : Tree) → formula_of text ≡ Some tree → (length text ≤ 8192) × Spells text tree × (is_in_limits tree ≡ true)
counted text tree h =
    let both = parts text tree h in
    let first = bind_some (behind_front text) (comparison_within 29 64 1024) tree both.1 in
    let bytes = first.0 in
    let front = front_says text bytes first.1 in
    let start : Unread = at (skip bytes) 1024 in
    let read = bind_some (operands_at (inside_at 29 64) 6 start) whole tree first.2 in
    let x = read.0.0 in
    let s = inside_sound 29 64 start read.0 read.1 in
    let last = some_or (length read.0.1.bytes == 0) (Some x) tree read.2 in
    let same = same_Some x tree last.1 in
    let ended : skip bytes ≡ s.text = s.joined ∙ ap (λ b. s.text ++ b) (empty_from read.0.1.bytes last.0) ∙ append-nil s.text in
    let tokens : 1024 ≡ tokens_of x + read.0.1.tokens = s.tokens in
    let spelled : Spells text x = record {
      front = front.front;
      blanks = take_while is_blank bytes;
      comparison = s.text;
      is_front = front.is_front;
      are_blank = front_passes is_blank bytes;
      spelled = s.is_level;
      joined = front.joined ∙ ap (λ b. front.front ++ b) (front_and_behind is_blank bytes ∙ ap (λ b. take_while is_blank bytes ++ b) ended);
    } in
    subst (λ y. (length text ≤ 8192) × Spells text y × (is_in_limits y ≡ true)) same
    (both.0, spelled, in_limits x (omega arith) (omega arith) s.parameters)

pub formula_spelled : (text : List ℕ) (tree : Tree) → formula_of text ≡ Some tree → Spells text tree × InLimits text
formula_spelled text tree h =
    let read = counted text tree h in (
      read.1,
      record {
        short = read.0;
        counted = λ other spelled. ap is_in_limits (one_tree text other tree spelled read.1) ∙ read.2;
      },
    )
