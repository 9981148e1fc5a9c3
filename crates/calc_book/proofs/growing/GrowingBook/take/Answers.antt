-- The record that is held takes its room.
use Rattle.std.proofs.Common.{◌≡◌, ℕ, ◌+◌, ◌-◌, ◌∷◌, Option, subst, arith}
use Rattle.std.specs.Prelude.{count_by}
use Rattle.csv.specs.Records.{fields_of}
use Rattle.calc_book.specs.BookCells.{has_bytes}
use Rattle.calc_book.specs.Growing.{Grown, GrowsIn}
use Rattle.calc_book.proofs.growing.GrowingBook.take.Goals as goal

pub place-requires-after_bounds : goal.place-requires-after_bounds
place-requires-after_bounds g c κs within =
    let before = c.args.self.now in
    let fields = fields_of c.args.fields in
    let grows = c.requires.grows in
    let room = c.in-Some.room - c.filled_in-more.result in
    let taken : c.in-Some.room ≡ room + count_by has_bytes fields = omega (arith, c.filled_in-more.ensures, c.if-more-room.false) in
    let grown = subst (λ (room : Option ℕ). GrowsIn room before grows.0 (fields ∷ grows.1) grows.2) c.in-Some.is grows.4 in
    (room, grows.0 + 1, grows.1, grows.2, c.in_ok-hold.ensures.grown grows.0 grows.1 grows.2 grows.3 (subst (λ n. Grown before n grows.0 (fields ∷ grows.1) grows.2) taken grown))
