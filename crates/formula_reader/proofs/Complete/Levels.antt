-- Every text that stands at a level of the grammar is read as its tree, where the limits hold.
use Rattle.formula_reader.specs.declared.operators.Operator.TheVariants as o
use Rattle.calc_model.specs.declared.tree.Tree.TheVariants as t
use Rattle.formula_reader.specs.declared.signs.Sign.TheVariants as signs
use Rattle.std.proofs.Common.{◌≡◌, ◌<◌, ◌≤◌, ◌+◌, ℕ, nat_le, Bool, true, false, ◌||◌, List, [], ◌∷◌, ◌++◌, Option, Some, None, refl, ap, ◌∙◌, arith, ◌-◌, zero, suc, length, sym, append_assoc, lit<}
use Rattle.std.specs.Prelude.{◌==◌, option_map}
use Rattle.std.proofs.lemmas.Bool.{cond-false, cond-true, le-leb, lt-leb, or_parts, lt-ltb}
use Rattle.calc_model.proofs.GrammarLevels.{each_op}
use Rattle.calc_model.specs.Grammar.{op_level, op_text, AreArgs, AreSomeArgs, IsPrimary, IsLevel, call, in_capitals, looser, minus, more, none, one, operand, operated, parenthesis, percent, plus, primary, some}
use Rattle.calc_model.specs.Tokens.{are_blanks, is_blank}
use Rattle.calc_model.specs.declared.tree.Op.{Op}
use Rattle.calc_model.specs.declared.tree.Op.TheVariants.{Pow, Mul, Div, Add, Sub, Cat, Eq, Ne, Lt, Le, Gt, Ge}
use Rattle.formula_reader.specs.declared.operators.Operator.{Operator}
use Rattle.formula_reader.specs.Operators.{level_of, operator_at, operator_taken, up_to}
use Rattle.byte_cuts.specs.Fronts.{begins}
use Rattle.formula_reader.proofs.Complete.Leaves.{Follows, past-blanks, past-token, begins_other}
use Rattle.formula_reader.proofs.Steps.{at, repeat_done, repeat_goes}
use Rattle.std.proofs.lemmas.Bool.Decides.{nat_tests}
use Rattle.std.proofs.lemmas.List.{length-append}
use Rattle.byte_cuts.proofs.Fronts.{begins-append}
use Rattle.calc_model.specs.declared.tree.Tree.{Tree}
use Rattle.formula_reader.specs.declared.signs.Sign.{Sign}
use Rattle.formula_reader.specs.Signs.{sign_at, sign_read, sign_taken, signed_by}
use Rattle.formula_reader.specs.Unread.{◌>>=◌, Read, Unread, repeat, some_taken, taken_if}
use Rattle.formula_reader.specs.Operands.{Inside, arg_behind, args_at, comparison_at, infix_read, inside_at, more_args, more_made, operands_at, operator_behind, operators_behind, prefixed_at, primary_at, pushed}
use Rattle.formula_reader.proofs.Complete.Beginnings.{behind_blanks, is_level_start, level_begins, level_no_blanks, primary_begins, primary_no_sign, some_begins}
use Rattle.formula_reader.proofs.Turns.{operands_is, no_sign, one_sign, arg_stops, arg_token, args_first, operator_found, operator_stops}
use Rattle.formula_reader.proofs.Complete.Primaries.{call_read, operand_read, paren_read}
use Rattle.formula_reader.proofs.TreeCounts.{Within, within_child, all_tokens_push, args_tokens, binary_counts, call_counts, minus_counts, most_open, most_open_push, most_parameters, most_parameters_push, operand_counts, paren_counts, percent_counts, plus_counts, tokens_of}

-- the second byte of an operator of two bytes
abbrev pub is_second : ℕ → Bool
is_second byte = (byte == 61) || (byte == 62)

abbrev pub level_found : Option (Operator × List ℕ) → ℕ
level_found None = 7
level_found (Some found) = level_of found.0

-- the level of the operator in front, which ends those below it; no operator ends them all
abbrev pub level_behind : List ℕ → ℕ
level_behind text = level_found (operator_at text)

pub infix_in_front : (op : Op) (rest : List ℕ) → begins is_second rest ≡ false → operator_at (op_text op ++ rest) ≡ Some (o.Infix op, rest)
infix_in_front Pow rest h = refl
infix_in_front Mul rest h = refl
infix_in_front Div rest h = refl
infix_in_front Add rest h = refl
infix_in_front Sub rest h = refl
infix_in_front Cat rest h = refl
infix_in_front Eq rest h = refl
infix_in_front Ne rest h = refl
infix_in_front Lt [] h = refl
infix_in_front Lt (byte ∷ rest) h =
    let parts = or_parts (byte == 61) (byte == 62) h in
    ap Some (cond-false (byte == 62) _ _ parts.1 ∙ cond-false (byte == 61) _ _ parts.0)
infix_in_front Le rest h = refl
infix_in_front Gt [] h = refl
infix_in_front Gt (byte ∷ rest) h =
    let parts = or_parts (byte == 61) (byte == 62) h in
    ap Some (cond-false (byte == 61) _ _ parts.0)
infix_in_front Ge rest h = refl

pub Follows-infix : (op : Op) (rest : List ℕ) → Follows (op_text op ++ rest)
Follows-infix op rest = each_op (λ o. Follows (op_text o ++ rest)) refl refl refl refl refl refl refl refl refl refl refl refl op

pub level_behind-infix : (op : Op) (rest : List ℕ) → begins is_second rest ≡ false → level_behind (op_text op ++ rest) ≡ op_level op
level_behind-infix op rest h = ap level_found (infix_in_front op rest h)

up_to_none : (level : ℕ) (found : Option (Operator × List ℕ)) → level < level_found found → up_to level found ≡ None
up_to_none level None h = refl
up_to_none level (Some found) h = cond-false (nat_le (level_of found.0) level) _ _ (lt-leb (level_of found.0) level h)

pub operator_none : (level : ℕ) (rest : List ℕ) (m : ℕ) → level < level_behind rest → operator_taken level (at rest m) ≡ Some (None, at rest m)
unfolding operator_taken
operator_none level rest m h = ap (taken_if (at rest m)) (up_to_none level (operator_at rest) h)

pub operator_infix : (op : Op) (level : ℕ) (blanks rest : List ℕ) (m n : ℕ) → op_level op ≤ level → n ≡ 1 + m → are_blanks blanks ≡ true → begins is_second (blanks ++ rest) ≡ false → begins is_blank rest ≡ false → operator_taken level (at (op_text op ++ (blanks ++ rest)) n) ≡ Some (Some (o.Infix op), at rest m)
unfolding operator_taken
operator_infix op level blanks rest m n within tokens all second clean =
    ap (λ found. taken_if (at (op_text op ++ (blanks ++ rest)) n) (up_to level found)) (infix_in_front op (blanks ++ rest) second)
    ∙ ap (taken_if (at (op_text op ++ (blanks ++ rest)) n)) (cond-true (nat_le (op_level op) level) _ _ (le-leb (op_level op) level within))
    ∙ ap (option_map (some_taken (o.Infix op))) (past-blanks blanks rest m n tokens all clean)

pub operator_percent : (level : ℕ) (blanks rest : List ℕ) (m n : ℕ) → 1 ≤ level → n ≡ 1 + m → are_blanks blanks ≡ true → Follows rest → operator_taken level (at (37 ∷ (blanks ++ rest)) n) ≡ Some (Some o.Percent, at rest m)
unfolding operator_taken
operator_percent level blanks rest m n within tokens all follows =
    ap (taken_if (at (37 ∷ (blanks ++ rest)) n)) (cond-true (nat_le 1 level) _ _ (le-leb 1 level within))
    ∙ ap (option_map (some_taken o.Percent)) (past-token blanks rest m n tokens all follows)

-- the text in front of the rest is read as the tree, and costs its tokens
abbrev pub Reads : (Unread → Read) → List ℕ → Tree → List ℕ → ℕ → Type 0
Reads step text x rest m = step (at (text ++ rest) (tokens_of x + m)) ≡ Some (x, at rest m)

-- The text in front of the rest is read as its tree with what may still follow, of which there is no more than tokens.
pub record Runs (nested : Inside) (level : ℕ) (text : List ℕ) (x : Tree) (rest : List ℕ) (m : ℕ) : Type 0 where
  pub extra : ℕ
  pub goes : operands_at nested level (at (text ++ rest) (tokens_of x + m)) ≡ repeat (operator_behind (operands_at nested) level) (extra + m) x (at rest m)

-- what is said of a text that stands at the level
abbrev pub Claim : Inside → ℕ → List ℕ → Tree → Type 0
Claim nested zero text x = (rest : List ℕ) (m : ℕ) → Follows rest → Reads (prefixed_at nested) text x rest m
Claim nested (suc k) text x = (level : ℕ) (rest : List ℕ) (m : ℕ) → k < level → Follows rest → k < level_behind rest → Runs nested level text x rest m

module _ (nested : Inside) where
  claim_runs : (k level : ℕ) (text : List ℕ) (x : Tree) → Claim nested k text x → (rest : List ℕ) (m : ℕ) → k ≤ level → Follows rest → k ≤ level_behind rest → Runs nested level text x rest m
  claim_runs zero level text x claim rest m within follows h =
      let same : 0 + m ≡ m = omega arith in
      record {
        extra = 0;
        goes =
            operands_is nested level (at (text ++ rest) (tokens_of x + m))
            ∙ ap (λ o. o >>= operators_behind (operands_at nested) level) (claim rest m follows)
            ∙ ap (λ n. repeat (operator_behind (operands_at nested) level) n x (at rest m)) (sym same);
      }
  claim_runs (suc k) level text x claim rest m within follows h = claim level rest m within follows h

  -- where no operator up to the level may follow
  pub claim_reads : (k level : ℕ) (text : List ℕ) (x : Tree) → Claim nested k text x → (rest : List ℕ) (m : ℕ) → k ≤ level → Follows rest → level < level_behind rest → Reads (operands_at nested level) text x rest m
  claim_reads k level text x claim rest m within follows h =
      let runs = claim_runs k level text x claim rest m within follows (omega arith) in
      runs.goes
      ∙ repeat_done (operator_behind (operands_at nested) level) (runs.extra + m) x (at rest m)
      (operator_stops (operands_at nested) level x (at rest m) (at rest m) (operator_none level rest m h))

  -- one more operator
  goes_on : (level extra m n : ℕ) (front text : List ℕ) (x node : Tree) (back rest : List ℕ) → operands_at nested level (at (front ++ back) (tokens_of x + n)) ≡ repeat (operator_behind (operands_at nested) level) (extra + n) x (at back n)
      → text ++ rest ≡ front ++ back → tokens_of node + m ≡ tokens_of x + n → 1 + m ≤ n
      → operator_behind (operands_at nested) level x (at back n) ≡ Some (Some node, at rest m) → Runs nested level text node rest m
  goes_on level extra m n front text x node back rest goes joined tokens less step =
      let turns : extra + n - 1 ≡ extra + (n - 1 - m) + m = omega arith in
      record {
        extra = extra + (n - 1 - m);
        goes =
            ap (λ bytes. operands_at nested level (at bytes (tokens_of node + m))) joined
            ∙ ap (λ k. operands_at nested level (at (front ++ back) k)) tokens
            ∙ goes
            ∙ repeat_goes (operator_behind (operands_at nested) level) (extra + n) x node (at back n) (at rest m) (omega arith) step
            ∙ ap (λ k. repeat (operator_behind (operands_at nested) level) k node (at rest m)) turns;
      }

-- what an operator's second byte isn't
blank_no_second : (byte : ℕ) → is_blank byte ≡ true → is_second byte ≡ false
blank_no_second byte h = grind (arith, nat_tests)

level_no_second : (byte : ℕ) → is_level_start byte ≡ true → is_second byte ≡ false
level_no_second byte h = grind (arith, nat_tests)

level_no_end : (byte : ℕ) → is_level_start byte ≡ true → (byte == 41) ≡ false
level_no_end byte h = grind (arith, nat_tests)

infix_runs : (nested : Inside) (k level : ℕ) (op : Op) (blanks left right rest : List ℕ) (x y : Tree) (m : ℕ) → Claim nested (suc k) left x → op_level op ≡ suc k → are_blanks blanks ≡ true → begins is_level_start right ≡ true → k < level → Follows rest → Reads (operands_at nested k) right y rest m → Runs nested level (left ++ (op_text op ++ (blanks ++ right))) (t.Binary op x y) rest m
infix_runs nested k level op blanks left right rest x y m claim here all starts within follows reads =
    let below = operands_at nested in
    let after = blanks ++ (right ++ rest) in
    let back = op_text op ++ after in
    let n = 1 + (tokens_of y + m) in
    let second : begins is_second after ≡ false =
    behind_blanks is_second blanks (right ++ rest) blank_no_second all (begins_other is_second is_level_start (right ++ rest) level_no_second (begins-append is_level_start right rest starts)) in
    let here_behind : level_behind back ≡ suc k = level_behind-infix op after second ∙ here in
    let counts = (binary_counts op x y).tokens in
    let joined : (left ++ (op_text op ++ (blanks ++ right))) ++ rest ≡ left ++ back =
    append_assoc left (op_text op ++ (blanks ++ right)) rest
    ∙ ap (λ t. left ++ t) (append_assoc (op_text op) (blanks ++ right) rest ∙ ap (λ t. op_text op ++ t) (append_assoc blanks right rest)) in
    let tighter : op_level op - 1 ≡ k = omega arith in
    let runs = claim level back n within (Follows-infix op after) (omega arith) in
    goes_on nested level runs.extra m n left (left ++ (op_text op ++ (blanks ++ right))) x (t.Binary op x y) back rest runs.goes joined (omega arith) (omega arith)
    (operator_found below level x (at back n) (o.Infix op) (at (right ++ rest) (tokens_of y + m)) (operator_infix op level blanks (right ++ rest) (tokens_of y + m) n (omega arith) refl all second (level_no_blanks right rest starts))
    ∙ ap (λ j. below j (at (right ++ rest) (tokens_of y + m)) >>= infix_read below op x >>= more_made below) tighter
    ∙ ap (λ read. read >>= infix_read below op x >>= more_made below) reads)

percent_runs : (nested : Inside) (level : ℕ) (blanks text rest : List ℕ) (x : Tree) (m : ℕ) → Claim nested 1 text x → are_blanks blanks ≡ true → 0 < level → Follows rest → Runs nested level (text ++ (37 ∷ blanks)) (t.Percent x) rest m
percent_runs nested level blanks text rest x m claim all within follows =
    let counts = (percent_counts x).tokens in
    let back = 37 ∷ (blanks ++ rest) in
    let runs = claim level back (1 + m) within refl (lit< tt) in
    goes_on nested level runs.extra m (1 + m) text (text ++ (37 ∷ blanks)) x (t.Percent x) back rest runs.goes (append_assoc text (37 ∷ blanks) rest) (omega arith) (omega arith)
    (operator_found (operands_at nested) level x (at back (1 + m)) o.Percent (at rest m) (operator_percent level blanks rest m (1 + m) within refl all follows))

sign_found_at : (sign : Sign) (byte : ℕ) (blanks rest : List ℕ) (m n : ℕ) → sign_at (byte ∷ (blanks ++ rest)) ≡ Some (sign, blanks ++ rest) → n ≡ 1 + m → are_blanks blanks ≡ true → begins is_blank rest ≡ false → sign_taken (at (byte ∷ (blanks ++ rest)) n) ≡ Some (Some sign, at rest m)
unfolding sign_taken
sign_found_at sign byte blanks rest m n is tokens all clean =
    ap (taken_if (at (byte ∷ (blanks ++ rest)) n)) is ∙ ap (option_map (some_taken sign)) (past-blanks blanks rest m n tokens all clean)

sign_none_at : (bytes : List ℕ) (n : ℕ) → sign_at bytes ≡ None → sign_taken (at bytes n) ≡ Some (None, at bytes n)
unfolding sign_taken
sign_none_at bytes n e = ap (taken_if (at bytes n)) e

-- a sign in front of what is read
sign_reads : (nested : Inside) (sign : Sign) (byte : ℕ) (blanks text rest : List ℕ) (x : Tree) (m n : ℕ) → ((rest : List ℕ) → sign_at (byte ∷ rest) ≡ Some (sign, rest)) → n ≡ 1 + (tokens_of x + m) → are_blanks blanks ≡ true → begins is_level_start text ≡ true → Reads (prefixed_at nested) text x rest m → prefixed_at nested (at (byte ∷ ((blanks ++ text) ++ rest)) n) ≡ Some (signed_by sign x, at rest m)
sign_reads nested sign byte blanks text rest x m n is tokens all starts reads =
    let after = text ++ rest in
    ap (λ bytes. prefixed_at nested (at (byte ∷ bytes) n)) (append_assoc blanks text rest)
    ∙ one_sign nested sign (at (byte ∷ (blanks ++ after)) n) (at after (tokens_of x + m)) (sign_found_at sign byte blanks after (tokens_of x + m) n (is (blanks ++ after)) tokens all (level_no_blanks text rest starts))
    ∙ ap (λ o. o >>= sign_read sign) reads

unsigned_reads : (nested : Inside) (text rest : List ℕ) (n : ℕ) → sign_at (text ++ rest) ≡ None → prefixed_at nested (at (text ++ rest) n) ≡ primary_at nested (at (text ++ rest) n)
unsigned_reads nested text rest n e = no_sign nested (at (text ++ rest) n) (at (text ++ rest) n) (sign_none_at (text ++ rest) n e)

pub comparison_reads : (others depth : ℕ) (text : List ℕ) (x : Tree) → Claim (inside_at others depth) 6 text x → (rest : List ℕ) (m : ℕ) → Follows rest → 6 < level_behind rest → Reads (comparison_at others (suc depth)) text x rest m
unfolding comparison_at
comparison_reads others depth text x claim rest m follows h = claim_reads (inside_at others depth) 6 6 text x claim rest m (lit< tt) follows h

-- parameters in front of the rest are read as their trees with what may still follow
abbrev ArgsRead : (Unread → Read) → ℕ → List ℕ → List Tree → List ℕ → ℕ → ℕ → Type 0
ArgsRead comparison others text args rest m turns =
    (comparison (at (text ++ rest) (args_tokens args + m)) >>= more_args comparison others) ≡ repeat (arg_behind comparison) turns args (at rest m)

no_args : (nested : Inside) (rest : List ℕ) (m n : ℕ) → n ≡ m → args_at nested (at (41 ∷ rest) n) ≡ Some ([], at (41 ∷ rest) m)
unfolding args_at
no_args nested rest m n e = ap (λ k. Some ([], at (41 ∷ rest) k)) e

some_args : (nested : Inside) (text rest : List ℕ) (args : List Tree) (m turns : ℕ) → begins is_level_start text ≡ true → ArgsRead nested.read nested.more text args (41 ∷ rest) m turns → args_at nested (at (text ++ (41 ∷ rest)) (args_tokens args + m)) ≡ Some (args, at (41 ∷ rest) m)
some_args nested text rest args m turns starts reads =
    let u = at (text ++ (41 ∷ rest)) (args_tokens args + m) in
    let back = at (41 ∷ rest) m in
    args_first nested u (nested.read u) (begins_other (λ b. b == 41) is_level_start (text ++ (41 ∷ rest)) level_no_end (begins-append is_level_start text (41 ∷ rest) starts)) refl
    ∙ reads
    ∙ repeat_done (arg_behind nested.read) turns args back (arg_stops nested.read args back refl)

pub paren_parts : (first text last rest : List ℕ) → (40 ∷ (first ++ (text ++ (41 ∷ last)))) ++ rest ≡ 40 ∷ (first ++ (text ++ (41 ∷ (last ++ rest))))
paren_parts first text last rest = ap (λ b. 40 ∷ b) (append_assoc first (text ++ (41 ∷ last)) rest ∙ ap (λ b. first ++ b) (append_assoc text (41 ∷ last) rest))

pub call_parts : (word blanks first text last rest : List ℕ) → (word ++ (blanks ++ (40 ∷ (first ++ (text ++ (41 ∷ last)))))) ++ rest ≡ word ++ (blanks ++ (40 ∷ (first ++ (text ++ (41 ∷ (last ++ rest))))))
call_parts word blanks first text last rest =
    append_assoc word (blanks ++ (40 ∷ (first ++ (text ++ (41 ∷ last))))) rest
    ∙ ap (λ b. word ++ b) (append_assoc blanks (40 ∷ (first ++ (text ++ (41 ∷ last)))) rest ∙ ap (λ b. blanks ++ b) (paren_parts first text last rest))

args_no_blank : {text : List ℕ} {args : List Tree} (rest : List ℕ) → AreArgs text args → begins is_blank (text ++ (41 ∷ rest)) ≡ false
args_no_blank rest none = refl
args_no_blank rest (some {text = text} args) = level_no_blanks text (41 ∷ rest) (some_begins args)

-- there is a parameter
some_length : {text : List ℕ} {args : List Tree} → AreSomeArgs text args → 1 ≤ length args
some_length (one r) = omega arith
some_length (more {args = args} {x = x} blanks p all r) = omega (arith, length-append args (x ∷ []))

mutual
  pub level_read : {k : ℕ} {text : List ℕ} {x : Tree} → IsLevel k text x → (others depth : ℕ) → Within others depth x → Claim (inside_at others depth) k text x
  level_read (primary {text = text} {x = x} p) others depth within =
      λ rest m follows. unsigned_reads (inside_at others depth) text rest (tokens_of x + m) (primary_no_sign text rest (primary_begins p)) ∙ primary_read p others depth within rest m follows
  level_read (plus {text = text} {x = x} blanks all r) others depth within =
      let counts = plus_counts x in
      let child = within_child counts within in
      λ rest m follows. sign_reads (inside_at others depth) signs.Plus 43 blanks text rest x m (tokens_of (t.Plus x) + m) (λ b. refl) (omega arith) all (level_begins r) (level_read r others depth child rest m follows)
  level_read (minus {text = text} {x = x} blanks all r) others depth within =
      let counts = minus_counts x in
      let child = within_child counts within in
      λ rest m follows. sign_reads (inside_at others depth) signs.Minus 45 blanks text rest x m (tokens_of (t.Minus x) + m) (λ b. refl) (omega arith) all (level_begins r) (level_read r others depth child rest m follows)
  level_read (percent {text = text} {x = x} blanks r all) others depth within =
      let counts = percent_counts x in
      let child = within_child counts within in
      λ level rest m allowed follows h. percent_runs (inside_at others depth) level blanks text rest x m (level_read r others depth child) all allowed follows
  level_read (looser {level = k} {text = text} {x = x} r) others depth within =
      λ level rest m allowed follows h. claim_runs (inside_at others depth) k level text x (level_read r others depth within) rest m (omega arith) follows (omega arith)
  level_read (operated {level = k} {left = left} {right = right} {x = x} {y = y} op blanks l here all r) others depth within =
      let counts = binary_counts op x y in
      λ level rest m allowed follows h.
      infix_runs (inside_at others depth) k level op blanks left right rest x y m (level_read l others depth (record { opens = omega arith; parameters = omega arith })) here all (level_begins r) allowed follows
      (claim_reads (inside_at others depth) k k right y (level_read r others depth (record { opens = omega arith; parameters = omega arith })) rest m (omega arith) follows h)

  primary_read : {text : List ℕ} {x : Tree} → IsPrimary text x → (others depth : ℕ) → Within others depth x → (rest : List ℕ) (m : ℕ) → Follows rest → Reads (primary_at (inside_at others depth)) text x rest m
  primary_read (operand {text = text} {x = x} blanks o all) others depth within rest m follows =
      let counts = operand_counts o in
      operand_read (inside_at others depth) blanks rest m (tokens_of x + m) o (omega arith) all follows
  primary_read (parenthesis {text = text} {x = x} first last a r b) others zero within rest m follows =
      let counts = (paren_counts x).opens in
      absurd (omega arith)
  primary_read (parenthesis {text = text} {x = x} first last a r b) others (suc depth) within rest m follows =
      let counts = paren_counts x in
      let back = 41 ∷ (last ++ rest) in
      let inside = level_read r others depth (record { opens = omega arith; parameters = omega arith }) in
      ap (λ bytes. primary_at (inside_at others (suc depth)) (at bytes (tokens_of (t.Paren x) + m))) (paren_parts first text last rest)
      ∙ paren_read (inside_at others (suc depth)) first text last rest x m (tokens_of x + (1 + m)) (tokens_of (t.Paren x) + m) a b (level_no_blanks text back (level_begins r)) follows (omega arith)
      (comparison_reads others depth text x inside back (1 + m) refl (lit< tt))
  primary_read (call {text = text} {args = args} word blanks first last h a b p c) others zero within rest m follows =
      let counts = (call_counts (in_capitals word) args).opens in
      absurd (omega arith)
  primary_read (call {text = text} {args = args} word blanks first last h a b p c) others (suc depth) within rest m follows =
      let counts = call_counts (in_capitals word) args in
      let node = t.Call (in_capitals word) args in
      ap (λ bytes. primary_at (inside_at others (suc depth)) (at bytes (tokens_of node + m))) (call_parts word blanks first text last rest)
      ∙ call_read (inside_at others (suc depth)) word blanks first text last rest args m (args_tokens args + (1 + m)) (tokens_of node + m) h (lt-ltb 0 (suc depth) (omega arith)) a b c (args_no_blank (last ++ rest) p) follows (omega arith)
      (args_read p others depth (omega arith) (omega arith) (omega arith) (last ++ rest) (1 + m))

  args_read : {text : List ℕ} {args : List Tree} → AreArgs text args → (others depth : ℕ) → most_open args ≤ depth → most_parameters args ≤ suc others → length args ≤ suc others → (rest : List ℕ) (m : ℕ) → args_at (inside_at others (suc depth)) (at (text ++ (41 ∷ rest)) (args_tokens args + m)) ≡ Some (args, at (41 ∷ rest) m)
  args_read none others depth opens parameters short rest m = no_args (inside_at others (suc depth)) rest m (args_tokens [] + m) (omega arith)
  args_read (some {text = text} {args = args} p) others depth opens parameters short rest m =
      let turns = suc others - length args in
      some_args (inside_at others (suc depth)) text rest args m turns (some_begins p) (some_read p others depth opens parameters (41 ∷ rest) m turns refl (lit< tt) (omega arith))

  some_read : {text : List ℕ} {args : List Tree} → AreSomeArgs text args → (others depth : ℕ) → most_open args ≤ depth → most_parameters args ≤ suc others → (rest : List ℕ) (m turns : ℕ) → Follows rest → 6 < level_behind rest → turns + length args ≡ suc others → ArgsRead (comparison_at others (suc depth)) others text args rest m turns
  some_read (one {text = text} {x = x} r) others depth opens parameters rest m turns follows h count =
      let comparison = comparison_at others (suc depth) in
      let tokens : args_tokens (x ∷ []) + m ≡ tokens_of x + m = omega arith in
      let all : others ≡ turns = omega arith in
      ap (λ n. comparison (at (text ++ rest) n) >>= more_args comparison others) tokens
      ∙ ap (λ o. o >>= more_args comparison others) (comparison_reads others depth text x (level_read r others depth (record { opens = omega arith; parameters = omega arith })) rest m follows h)
      ∙ ap (λ n. repeat (arg_behind comparison) n (x ∷ []) (at rest m)) all
  some_read (more {front = front} {text = text} {args = args} {x = x} blanks p all r) others depth opens parameters rest m turns follows h count =
      let comparison = comparison_at others (suc depth) in
      let after = text ++ rest in
      let back = 59 ∷ (blanks ++ after) in
      let n = 1 + (tokens_of x + m) in
      let opened = most_open_push args x in
      let kept = most_parameters_push args x in
      let tokens = all_tokens_push args x in
      let len : length (args ++ x ∷ []) ≡ length args + 1 = length-append args (x ∷ []) in
      let there = some_length p in
      let cost : args_tokens (args ++ x ∷ []) + m ≡ args_tokens args + n = omega arith in
      let joined : (front ++ (59 ∷ (blanks ++ text))) ++ rest ≡ front ++ back = append_assoc front (59 ∷ (blanks ++ text)) rest ∙ ap (λ b. front ++ (59 ∷ b)) (append_assoc blanks text rest) in
      let one_less : turns + 1 - 1 ≡ turns = omega arith in
      ap (λ bytes. comparison (at bytes (args_tokens (args ++ x ∷ []) + m)) >>= more_args comparison others) joined
      ∙ ap (λ k. comparison (at (front ++ back) k) >>= more_args comparison others) cost
      ∙ some_read p others depth (omega arith) (omega arith) back n (turns + 1) refl (lit< tt) (omega arith)
      ∙ repeat_goes (arg_behind comparison) (turns + 1) args (args ++ x ∷ []) (at back n) (at rest m) (omega arith)
      (arg_token comparison args (at back n) (Some (at after (tokens_of x + m))) refl (past-blanks blanks after (tokens_of x + m) n refl all (level_no_blanks text rest (level_begins r)))
      ∙ ap (λ read. read >>= pushed comparison args) (comparison_reads others depth text x (level_read r others depth (record { opens = omega arith; parameters = omega arith })) rest m follows h))
      ∙ ap (λ k. repeat (arg_behind comparison) k (args ++ x ∷ []) (at rest m)) one_less
