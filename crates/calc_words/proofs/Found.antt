-- What the words say, by what a parse found.
use Rattle.std.proofs.Common.{◌≡◌, ◌≢◌, ◌∙◌, ℕ, true, false, List, [], ◌∷◌, codes, Option, Some, None, Result, Ok, Err, IfOk, refl, sym, subst, ap, ap₂, true≢false, inl, inr}
use Rattle.std.specs.Str.Parse.{digits_value, without_leading_plus}
use Rattle.clap.proofs.WalkLemmas.{first_value-rows, one_text-rows}
use Rattle.clap.specs.Words.{App, FailsBy, HasMatchesOf, Kinds, Row, fault_of, first_of, first_value, found_of, is_simple, is_simple_and_free, kind_of, matches_of, one_of, one_text, rows_of}
use Rattle.clap.specs.declared.error.Error.{Error}
use Rattle.clap.specs.declared.error.kind.ErrorKind.TheVariants as kind
use Rattle.clap.specs.declared.parser.matches.ArgMatches.{ArgMatches}
use Rattle.clap.specs.declared.parser.matches.Found.{Found}
use Rattle.calc_words.specs.Words.{CommandWords, calc_app, unless_refused, words_in, words_of}
use Rattle.calc_words.proofs.Calc.{simple, simple_and_free}

pub no_fault : (app : App) (words : List (List ℕ)) (found : Result ArgMatches Error) (m : ArgMatches) → app ≡ calc_app
    → (is_simple_and_free app ≡ true → FailsBy (fault_of app words) found) → found ≡ Ok m → fault_of calc_app words ≡ []
no_fault app words found m is kinds ok =
    subst (λ b. fault_of b words ≡ []) is (subst (FailsBy (fault_of app words)) ok (kinds (ap is_simple_and_free is ∙ simple_and_free)))

some_fault : (kinds : Kinds) (e : Error) → FailsBy {T = ArgMatches} kinds (Err e) → kind_of e ≢ kind.OutOfMemory → kinds ≢ []
some_fault [] e h known none = elim h [ inl memory ↦ known memory | inr among ↦ among ]
some_fault (k ∷ ks) e h known none = cc

pub has_fault : (app : App) (words : List (List ℕ)) (found : Result ArgMatches Error) (e : Error) → app ≡ calc_app
    → (is_simple_and_free app ≡ true → FailsBy (fault_of app words) found) → found ≡ Err e → kind_of e ≢ kind.OutOfMemory
    → fault_of calc_app words ≢ []
has_fault app words found e is kinds err known =
    subst (λ b. fault_of b words ≢ []) is (some_fault (fault_of app words) e
    (subst (FailsBy (fault_of app words)) err (kinds (ap is_simple_and_free is ∙ simple_and_free))) known)

pub found_rows : (app : App) (words : List (List ℕ)) (found : Result ArgMatches Error) (m : ArgMatches) → app ≡ calc_app
    → IfOk found (HasMatchesOf app words) → found ≡ Ok m → rows_of (found_of m) ≡ matches_of calc_app words
found_rows app words found m is has ok =
    subst (λ b. rows_of (found_of m) ≡ matches_of b words) is
    ((subst (λ r. IfOk r (HasMatchesOf app words)) ok has) (ap is_simple is ∙ simple)).0

-- what the entries say
pub said_of : (f : Found) (t book : List ℕ) (n : ℕ) → one_text f (codes "workers") ≡ Some t → first_value f (codes "book") ≡ Some book
    → n ≡ digits_value 10 (without_leading_plus t) → words_in (rows_of f) ≡ Some (record { workers = n; book = book })
said_of f t book n workers has is =
    let one : one_of (codes "workers") (rows_of f) ≡ Some t = sym (one_text-rows f (codes "workers")) ∙ workers in
    let first : first_of (codes "book") (rows_of f) ≡ Some book = sym (first_value-rows f (codes "book")) ∙ has in
    rw (one, first, is) refl

pub none_left : (kinds : Kinds) → (kinds ≢ [] → true ≡ false) → kinds ≡ []
none_left [] h = refl
none_left (k ∷ ks) h = absurd (true≢false (h (λ e. cc)))

refused_by : (kinds : Kinds) (said : Option CommandWords) → kinds ≢ [] → None ≡ unless_refused kinds said
refused_by [] said some = absurd (some refl)
refused_by (k ∷ ks) said some = refl

pub refused_here : (words : List (List ℕ)) → fault_of calc_app words ≢ [] → None ≡ words_of words
unfolding words_of
refused_here words some = refused_by (fault_of calc_app words) (words_in (matches_of calc_app words)) some

pub said_here : (words : List (List ℕ)) (rows : List Row) (said : CommandWords) → fault_of calc_app words ≡ []
    → rows ≡ matches_of calc_app words → words_in rows ≡ Some said → Some said ≡ words_of words
unfolding words_of
said_here words rows said none is says = sym (ap₂ unless_refused none (ap words_in (sym is) ∙ says))
