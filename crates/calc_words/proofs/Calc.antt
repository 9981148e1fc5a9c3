-- The command of the words, and what its matches hold.
use Rattle.std.proofs.Common.{◌≡◌, ◌∙◌, ◌<◌, ◌++◌, ℕ, true, false, zero, suc, List, [], ◌∷◌, length, is_some, codes, refl, sym, subst, ap, inl, inr, arith}
use Rattle.std.specs.Prelude.{pos}
use Rattle.std.specs.List.{All, slice_index_or}
use Rattle.std.specs.Str.{bytes_eq}
use Rattle.std.proofs.lemmas.List.Elements.{All-nil}
use Rattle.clap.proofs.CallerLemmas.{added_plain, default_present, required_has_value, same_rules_by_id}
use Rattle.clap.proofs.OnLiterals.{clap_on_literals}
use Rattle.clap.specs.Words.{AddsArg, IsParsedFrom, IsPlainArg, SameRules, args_of, first_value, found_of, groups_of, is_simple, is_simple_and_free, new_app, with_rule}
use Rattle.clap.specs.Simple.{on_top}
use Rattle.clap.specs.Built.{IsAuto}
use Rattle.clap.specs.Facts.{HasId}
use Rattle.clap.specs.declared.builder.arg.Arg.{Arg}
use Rattle.clap.specs.declared.builder.action.ArgAction.TheVariants.{Set}
use Rattle.clap.specs.declared.builder.command.Command.{Command}
use Rattle.clap.specs.declared.builder.command.Command.TheViews.{out-Command}
use Rattle.clap.specs.declared.builder.value_parser.ValueParser.TheVariants as vp
use Rattle.clap.specs.declared.parser.matches.ArgMatches.{ArgMatches}
use Rattle.calc_words.specs.Args.{HasArgs, HasValues, IsBook, IsWorkers, TakesOne}
use Rattle.calc_words.specs.Words.{bare, book_rule, calc_app, workers_rule}
use Rattle.calc_words.proofs.Entries.{AllTake, entry_value}

pub simple : is_simple calc_app ≡ true
unfolding calc_app clap_on_literals
simple = refl

pub simple_and_free : is_simple_and_free calc_app ≡ true
unfolding calc_app clap_on_literals
simple_and_free = refl

pub made : with_rule (with_rule (on_top bare (new_app (codes "calc"))) workers_rule) book_rule ≡ calc_app
unfolding calc_app
made = refl

same_takes : (name : List ℕ) (a b : Arg) → SameRules a b → TakesOne name a → TakesOne name b
same_takes name a b same takes = record {
  id = ap (λ x. x.now) same.id ∙ takes.id;
  action = same.action Set takes.action;
  whole = same.val_delim ∙ takes.whole;
  least = same.least takes.action takes.least;
}

same_workers : (a b : Arg) → SameRules a b → IsWorkers a → IsWorkers b
same_workers a b same is = record {
  takes = same_takes (codes "workers") a b same is.takes;
  parser = same.parser _ is.parser;
  always = same.ifs ∙ is.always;
  default = rw (same.defaults is.default) is.default;
}

same_book : (a b : Arg) → SameRules a b → IsBook a → IsBook b
same_book a b same is = record {
  takes = same_takes (codes "book") a b same is.takes;
  required = same.required ∙ is.required;
}

-- the command that is made of the two arguments
pub has_args : (start one two : Command) (a b : Arg) → AddsArg start a one → AddsArg one b two
    → args_of start ≡ [] → groups_of start ≡ [] → (out-Command start).has_globals ≡ false → (out-Command start).subcommand_negates_reqs ≡ false
    → IsPlainArg a → IsPlainArg b → a.global ≡ false → b.global ≡ false → IsWorkers a → IsBook b → HasArgs two
has_args start one two a b first second args groups globals negates plain_a plain_b global_a global_b is_a is_b = record {
  workers = first.arg;
  book = second.arg;
  all = second.args ∙ ap (λ l. l ++ second.arg ∷ []) (first.args ∙ ap (λ l. l ++ first.arg ∷ []) args);
  is_workers = same_workers a first.arg first.rules is_a;
  is_book = same_book b second.arg second.rules is_b;
  plain = added_plain one two b second (added_plain start one a first (subst (All IsPlainArg) (sym args) (All-nil IsPlainArg), groups) plain_a) plain_b;
  globals = rw (second.globals, first.globals, globals, global_a, global_b) refl;
  negates = second.negates ∙ first.negates ∙ negates;
}

-- two arguments of these names are told apart by them
apart : (a b d e : Arg) (j k : ℕ) → a.id.now ≡ codes "workers" → b.id.now ≡ codes "book" → j < 2 → k < 2
    → bytes_eq (slice_index_or (a ∷ b ∷ []) j e).id.now (slice_index_or (a ∷ b ∷ []) k d).id.now ≡ true → j ≡ k
apart a b d e zero zero is_a is_b low high same = refl
apart a b d e zero (suc zero) is_a is_b low high same =
    let bad : false ≡ true = rw (is_a, is_b) at same in
    cc
apart a b d e (suc zero) zero is_a is_b low high same =
    let bad : false ≡ true = rw (is_a, is_b) at same in
    cc
apart a b d e (suc zero) (suc zero) is_a is_b low high same = refl
apart a b d e (suc (suc j)) k is_a is_b low high same = absurd (omega arith)
apart a b d e j (suc (suc k)) is_a is_b low high same = absurd (omega arith)

pub not_auto : (id : List ℕ) → (bytes_eq id (codes "help") ≡ false) → (bytes_eq id (codes "version") ≡ false) → (a : Arg) → a.id.now ≡ id → IsAuto a → ⊥
not_auto id help version a is auto = elim auto [
  | inl e ↦
      let bad : true ≡ false = rw (sym is ∙ e) at help in
      cc
  | inr e ↦
      let bad : true ≡ false = rw (sym is ∙ e) at version in
      cc
]

module _ (c : Command) (m : ArgMatches) (args : HasArgs c) (p : IsParsedFrom c m) (d : Arg) where
  count : length (args_of c) ≡ 2
  count = ap length args.all

  at_workers : slice_index_or (args_of c) 0 d ≡ args.workers
  at_workers = ap (λ l. slice_index_or l 0 d) args.all

  at_book : slice_index_or (args_of c) 1 d ≡ args.book
  at_book = ap (λ l. slice_index_or l 1 d) args.all

  unique : (k j : ℕ) (e : Arg) → k < 2 → j < length (args_of c) → bytes_eq (slice_index_or (args_of c) j e).id.now (slice_index_or (args_of c) k d).id.now ≡ true → j ≡ k
  unique k j e low below same = apart args.workers args.book d e j k args.is_workers.takes.id args.is_book.takes.id (omega (arith, count)) low (rw args.all at same)

  workers_id : (slice_index_or (args_of c) 0 d).id.now ≡ codes "workers"
  workers_id = ap (λ x. x.id.now) at_workers ∙ args.is_workers.takes.id

  book_id : (slice_index_or (args_of c) 1 d).id.now ≡ codes "book"
  book_id = ap (λ x. x.id.now) at_book ∙ args.is_book.takes.id

  has_book : is_some (first_value (found_of m) (codes "book")) ≡ true
  has_book = subst (λ t. is_some (first_value (found_of m) t) ≡ true) book_id
      (required_has_value c m p args.plain args.globals args.negates 1 d (omega (arith, count))
      (ap (λ x. x.required) at_book ∙ args.is_book.required)
      (ap (λ x. x.action) at_book ∙ args.is_book.takes.action)
      (ap (λ x. x.val_delim) at_book ∙ args.is_book.takes.whole)
      (rw at_book args.is_book.takes.least)
      (λ j e below same. unique 1 j e (omega arith) below same)
      (λ empty. let bad : [] ≡ codes "book" = sym empty ∙ book_id in cc)
      (not_auto (codes "book") refl refl (slice_index_or (args_of c) 1 d) book_id))

  workers_take : AllTake p.built (codes "workers") (vp.Signed (pos 1) (pos 64))
  workers_take k arg below at same =
      let rules = same_rules_by_id c m p 0 d (omega (arith, count)) (λ j e low eq. unique 0 j e (omega arith) low eq)
      (not_auto (codes "workers") refl refl (slice_index_or (args_of c) 0 d) workers_id) k arg below at (rw workers_id same) in
      let is = same_workers args.workers arg (subst (λ x. SameRules x arg) at_workers rules) args.is_workers in
      record { action = is.takes.action; whole = is.takes.whole; least = is.takes.least; parser = is.parser }

  pub has_values : HasValues m
  has_values =
      let has = subst (λ t. HasId (found_of m) t) workers_id
      (default_present c m p args.globals 0 d (omega (arith, count)) (rw at_workers (args.is_workers.always, args.is_workers.default))) in
      let value = entry_value p.built (found_of m) (codes "workers") (vp.Signed (pos 1) (pos 64)) (p.parsed (p.from.globals ∙ args.globals)).values has
      (p.from.plain args.plain).1 (λ e. cc) workers_take in
      record { text = value.0; workers = value.1; within = value.2.1; book = has_book }
