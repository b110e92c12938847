-- Where the first chunk of a name lies: one answer of the walk, and that the payload's bytes are there.
--     place_hit, place_miss    what one whole chunk does to the place
--     place_stop               what any other answer of the walk does
--     found                    at the place lie the bytes of the first chunk of the name, within the FORM
-- Assumes nothing.
use Prim.Native.Nat.{ℕ, ◌+◌, ◌%◌, ◌≤◌}
use borrow.Author.Tests.{eq-eqb, ne_eqb}
use lib.Dec.{eqb}
use lib.ListN.{length, take, drop, length-drop}
use lib.Seq.{length-take-le}
use mathlib.Core.Bool.{Bool, true, false, cond}
use mathlib.Core.List.{List, [], ◌∷◌}
use mathlib.Core.Path.{◌≡◌, refl, sym, ap, ◌∙◌}
use native.Mathlib.Omega.{arith}
use Rattle.laws.proofs.Cases.{impossible}
use Rattle.chunk.specs.Chunk.{Item, chunk, bad, items_from}
use Rattle.chunk.specs.ForCode.{step_at}
use Rattle.chunk.proofs.ChunkLaws.{Whole, at_chunk, at_end, at_refused}
use Rattle.form.specs.Find.{first_of, place_from, first_place}
use Rattle.form.specs.declared.place.Place.{Place}
use Rattle.chunk.specs.declared.Chunk.{Chunk}
use Rattle.refusal.specs.Outcome.{Outcome}
use Rattle.std.specs.Prelude.{Err, None, Ok, Option, Some}

-- ---- one answer of the walk

-- a whole payload is as long as its size says
size_is : {f : List ℕ} {at i start n next : ℕ} → Whole f at i start n next → length (take n (drop start f)) ≡ n
size_is {f} {start = start} {n} w = length-take-le n (drop start f) (rw length-drop (omega (arith, w.inside)))

module _ (id : ℕ) {f : List ℕ} {at i start n next : ℕ} (w : Whole f at i start n next) where
  pub place_hit : i ≡ id → place_from at id (items_from f at) ≡ Some (record { start = start; size = n })
  unfolding place_from
  place_hit e = rw (w.items, eq-eqb i id e, size_is w, w.begins)

  pub place_miss : (i ≡ id → ⊥) → place_from at id (items_from f at) ≡ place_from next id (items_from f next)
  unfolding place_from
  place_miss h = rw (w.items, ne_eqb i id h, size_is w, ← w.past)

-- where no whole chunk stands there is no place
pub place_stop : (f : List ℕ) (at id : ℕ) (r : Outcome (Option Chunk)) → r ≡ step_at f at → ((c : Chunk) → r ≡ Ok (Some c) → ⊥) → place_from at id (items_from f at) ≡ None
unfolding place_from
place_stop f at id (Ok (Some c)) e stop = absurd (stop c refl)
place_stop f at id (Ok None) e stop = rw (at_end f at (sym e))
place_stop f at id (Err refusal) e stop = rw (at_refused f at refusal (sym e))

-- ---- what lies at the place

-- the bytes at a place
abbrev pub payload_at : List ℕ → Option Place → Option (List ℕ)
payload_at f (Some it) = Some (take it.size (drop it.start f))
payload_at f None = None

-- a place lies within the FORM
abbrev pub Inside : List ℕ → Option Place → Type 0
Inside f (Some it) = it.start + it.size ≤ length f
Inside f None = Unit

-- at a place lie the bytes of the first chunk of a name
pub record Found (f : List ℕ) (id : ℕ) (r : Option Place) : Type 0 where
  pub is : payload_at f r ≡ first_of id (items_from f 12)
  pub inside : Inside f r

-- the first of the items that begin at a place: its bytes, and the items after it
record Here (f : List ℕ) (at : ℕ) (b : List ℕ) (items : List Item) : Type 0 where
  bytes : take (length b) (drop (at + 8) f) ≡ b
  inside : at + 8 + length b ≤ length f
  later : items_from f (at + 8 + length b + length b % 2) ≡ items

here : (f : List ℕ) (at i : ℕ) (b : List ℕ) (items : List Item) → items_from f at ≡ chunk i b ∷ items → Here f at b items
here f at i b items e = go (step_at f at) refl
  where
    go : (s : Outcome (Option Chunk)) → step_at f at ≡ s → Here f at b items
    go (Ok None) s = impossible (cc (at_end f at s))
    go (Err r) s = impossible (cc (at_refused f at r s))
    go (Ok (Some it)) s =
        let w = at_chunk f at it s in
        let bytes : take it.size (drop it.start f) ≡ b = cc w.items in
        let size : length b ≡ it.size = ap length (sym bytes) ∙ size_is w in
        let later : items_from f it.next ≡ items = cc w.items in
        record {
          bytes = rw (size, ← w.begins) bytes;
          inside = omega (arith, w.begins, w.inside);
          later = rw (size, ← w.past) later;
        }

-- what lies at a place is the first chunk of a name of the items, and lies within the FORM
abbrev Lies : List ℕ → ℕ → List Item → Option Place → Type 0
Lies f id items p = (payload_at f p ≡ first_of id items) × Inside f p

found_from : (f : List ℕ) (id : ℕ) (items : List Item) (at : ℕ) → items_from f at ≡ items → Lies f id items (place_from at id items)
unfolding place_from first_of
found_from f id [] at e = (refl, tt)
found_from f id (bad refusal ∷ items) at e = (refl, tt)
found_from f id (chunk i b ∷ items) at e = go (eqb i id) (found_from f id items next h.later)
  where
    next : ℕ
    next = at + 8 + length b + length b % 2

    h : Here f at b items
    h = here f at i b items e

    go : (t : Bool) → Lies f id items (place_from next id items)
        → let p = cond t (Some (record { start = at + 8; size = length b })) (place_from next id items) in (payload_at f p ≡ cond t (Some b) (first_of id items)) × Inside f p
    go true later = (ap Some h.bytes, h.inside)
    go false later = later

-- what `find` answers is such a place
pub found : (f : List ℕ) (id : ℕ) (r : Option Place) → r ≡ first_place f id → Found f id r
found f id r e =
    let p = found_from f id (items_from f 12) 12 refl in
    rw e (record { is = p.0; inside = p.1 })
