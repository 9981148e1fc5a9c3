use Rattle.std.proofs.Common.{◌≡◌, ◌≢◌, [], Some, None, map, refl, subst, true, false, true≢false}
use Rattle.clap.specs.Words.{fault_of, found_of, rows_of}
use Rattle.calc_words.specs.Words.{calc_app, words_of}
use Rattle.calc_words.proofs.Found.{none_left, refused_here, said_here}
use Rattle.calc_words.proofs.read_words.Goals as goal

pub returns-in-Some-clause-said : goal.returns-in-Some-clause-said
returns-in-Some-clause-said c =
    let texts = map (λ w. w.now) c.as_slice.result.now in
    let same : texts ≡ c.args.words.now = rw c.as_slice.ensures.value c.in_ok-lent.ensures in
    let refused = rw c.in-Some.is at c.in_ok-matches.ensures.refused in
    let rows = rw c.in-Some.is at c.in_ok-matches.ensures.rows in
    let said = c.in_ok-said_by-in-Some in
    subst (λ words. Some said.field-0 ≡ words_of words) same
    (said_here texts (rows_of (found_of c.in-Some.matches)) said.field-0 (none_left (fault_of calc_app texts) refused.1) rows said.ensures.said)

pub returns-in-Some-clause-refused : goal.returns-in-Some-clause-refused
returns-in-Some-clause-refused c =
    let texts = map (λ w. w.now) c.as_slice.result.now in
    let same : texts ≡ c.args.words.now = rw c.as_slice.ensures.value c.in_ok-lent.ensures in
    let refused = rw c.in-Some.is at c.in_ok-matches.ensures.refused in
    ((λ e. absurd (true≢false e)), subst (λ words. fault_of calc_app words ≢ [] → true ≡ false) same refused.1)

pub returns-clause-said : goal.returns-clause-said
returns-clause-said c =
    let texts = map (λ w. w.now) c.as_slice.result.now in
    let same : texts ≡ c.args.words.now = rw c.as_slice.ensures.value c.in_ok-lent.ensures in
    let refused = rw c.in-None.is at c.in_ok-matches.ensures.refused in
    subst (λ words. None ≡ words_of words) same (refused_here texts (refused.0 refl))

pub returns-clause-refused : goal.returns-clause-refused
returns-clause-refused c =
    let texts = map (λ w. w.now) c.as_slice.result.now in
    let same : texts ≡ c.args.words.now = rw c.as_slice.ensures.value c.in_ok-lent.ensures in
    let refused = rw c.in-None.is at c.in_ok-matches.ensures.refused in
    ((λ _. subst (λ words. fault_of calc_app words ≢ []) same (refused.0 refl)), (λ _. refl))
