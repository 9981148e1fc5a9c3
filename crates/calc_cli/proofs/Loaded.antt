-- The session of a loaded workbook.
use Rattle.std.proofs.Common.{◌≡◌, ℕ, [], ap, ◌∙◌}
use Rattle.calc_addr.specs.Places.{Place}
use Rattle.calc_model.specs.Books.{Book}
use Rattle.calc_model.specs.Stale.{is_formula_cell}
use Rattle.workbook.specs.Workbook.{State, stale_of}
use Rattle.calc_cli.specs.Output.{loaded}
use Rattle.calc_cli.specs.Sessions.{SessionState, session_of}

pub loaded_session : (session : SessionState) (state : State) (book : Book) (stock : ℕ) → session.workbook ≡ state → session.watchers ≡ [] → session.stock ≡ stock → state.book ≡ book → ((q : Place) → stale_of state q ≡ is_formula_cell book q) → session_of session ≡ loaded book stock
loaded_session session state book stock is watchers of same stale =
    ap (λ s. session_of (record session { workbook = s })) is
    ∙ (λ i. record { book = same i; stale = λ q. stale q i; watchers = watchers i; stock = of i })
