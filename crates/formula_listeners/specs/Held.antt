-- What a hub holds of a book: what each formula cell of it reads, by references and by names.
use Rattle.std.specs.Prelude.{◌≡◌, if◌then◌else◌, None, Some}
use Rattle.calc_addr.specs.Places.{Place, Rectangle, covers}
use Rattle.calc_model.specs.Books.{Book, content_at, is_formula}
use Rattle.calc_model.specs.Listeners.{ReadAreas}
use Rattle.calc_model.specs.Reads.{reads}

-- the areas that each formula cell of a book reads; no other cell has a list
abbrev pub areas_in : Book → ReadAreas
areas_in book q = if is_formula (content_at book q) then Some (reads book q) else None

abbrev pub HoldsReads : ReadAreas → Book → Type 0
HoldsReads read book = (q : Place) → read q ≡ areas_in book q

-- the same of all cells but those of an area, of which none is held as a formula cell
abbrev pub HoldsOutside : Rectangle → ReadAreas → Book → Type 0
HoldsOutside area read book = (q : Place) → read q ≡ (if covers area q then None else areas_in book q)
