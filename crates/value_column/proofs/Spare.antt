-- Room for all rows, and rows past the last.
use Rattle.std.proofs.Common.{◌≡◌, ℕ, pos, ◌<◌, ◌≤◌, ◌^◌, [], get_or, vec_len, Result, Ok, Err, OnOk, ap, arith}
use Rattle.std.specs.Vec.{vec_capacity}
use Rattle.std.proofs.lemmas.Bool.{cond-true, and_from, le-leb}
use Rattle.std.proofs.lemmas.List.{get_or_past}
use Rattle.calc_addr.specs.declared.cell.TheConstants.{LAST_ROW}
use Rattle.calc_model.specs.declared.fault.Fault.TheVariants.{NA}
use Rattle.calc_model.specs.declared.value.Value.TheVariants as value
use Rattle.value_column.specs.declared.lane.Tag.TheVariants as tag
use Rattle.value_column.specs.declared.lanes.Lanes.{Lanes}
use Rattle.value_column.specs.Rows.{ANY, AreLanes, HasRoom, spare_of, value_at, value_in}

most-any : (n : ℕ) → n < 2 ^ 64 → n ≤ ANY
unfolding ANY
most-any n h = omega arith

pub any-room : (t : Lanes) (n : ℕ) → n < 2 ^ 64 → HasRoom t → n ≤ spare_of t
any-room t n h room = omega (arith, most-any n h, cond-true _ ANY 0 (and_from _ _ (le-leb LAST_ROW (vec_capacity t.tags) room.tags) (and_from _ _ (le-leb LAST_ROW (vec_capacity t.small) room.small) (and_from _ _ (le-leb LAST_ROW (vec_capacity t.wide) room.wide) (and_from _ _ (le-leb LAST_ROW (vec_capacity t.words) room.words) (le-leb LAST_ROW (vec_capacity t.bad) room.bad))))))

pub past-end : (t : Lanes) (r : ℕ) → AreLanes t → LAST_ROW ≤ r → value_at t r ≡ value.Blank
past-end t r h past = ap (λ g. value_in g (get_or t.small.items r (pos 0)) (get_or t.wide.items r (pos (2 ^ 63))) (get_or t.words.items r []) (get_or t.bad.items r NA)) (get_or_past t.tags.items r tag.Blank (omega (arith, h.rows, t.tags.ok)))

pub on-both : {A E P Q R : Type 0} (r : Result A E) → OnOk r P → OnOk r Q → (P → Q → R) → OnOk r R
on-both (Ok x) p q f = f p q
on-both (Err e) p q f = tt

pub past-reach : (t : Lanes) (r : ℕ) → vec_len t.tags ≤ r → value_at t r ≡ value.Blank
past-reach t r past = ap (λ g. value_in g (get_or t.small.items r (pos 0)) (get_or t.wide.items r (pos (2 ^ 63))) (get_or t.words.items r []) (get_or t.bad.items r NA)) (get_or_past t.tags.items r tag.Blank (omega (arith, t.tags.ok)))
