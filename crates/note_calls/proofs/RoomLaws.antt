-- The room that a list of calls needs, call by call. No law elsewhere unfolds `places_in` and `fills_in`.
--     next_call                              the call at a place, and those past it
--     places_none, fills_none                no call needs no room
--     places_next, fills_next                a call's room, and that of the calls past it
--     key_up_places, key_up_answers, fill_places, fill_answer     a number that is a key-up, or a fill
--     room_none, no_places, no_answers, room_past, room_parts     `room_for` by these
-- Assumes nothing.
use Prim.Native.Nat.{ℕ, ◌+◌, ◌-◌, ◌≤◌, ◌<◌}
use mathlib.Core.Bool.{Bool, true, false, ◌&&◌}
use mathlib.Core.List.{List, [], ◌∷◌}
use mathlib.Core.Path.{◌≡◌, refl}
use native.Mathlib.Numerals.{add-one}
use native.Mathlib.Omega.{arith}
use borrow.Author.Tests.{leb-true, leb-false, le-leb, lt-leb, eq-eqb, ne_eqb}
use lib.Dec.{leb}
use lib.ListN.{length, drop, get_or}
use lib.Seq.{drop-cons}
use Rattle.laws.proofs.Cases.{impossible}
use Rattle.note_calls.specs.Made.{key_up_number, places_of, answers_of, places_in, fills_in, room_for}

pub next_call : (calls : List ℕ) (i : ℕ) → i < length calls → drop i calls ≡ get_or calls i 0 ∷ drop (i + 1) calls
next_call calls i h = rw (add-one, drop-cons calls i 0)

pub places_none : places_in [] ≡ 0
unfolding places_in
places_none = refl

pub fills_none : fills_in [] ≡ 0
unfolding fills_in
fills_none = refl

module _ (call : ℕ) (calls : List ℕ) where
  pub places_next : places_in (call ∷ calls) ≡ places_of call + places_in calls
  unfolding places_in
  places_next = refl

  pub fills_next : fills_in (call ∷ calls) ≡ answers_of call + fills_in calls
  unfolding fills_in
  fills_next = refl

-- ---- a call as a number

module _ (call : ℕ) where
  module _ (is : call ≡ key_up_number) where
    pub key_up_places : places_of call ≡ 0
    key_up_places = rw (eq-eqb call key_up_number is)

    pub key_up_answers : answers_of call ≡ 0
    key_up_answers = rw (eq-eqb call key_up_number is)

  module _ (isn't : call ≡ key_up_number → ⊥) where
    pub fill_places : places_of call ≡ call
    fill_places = rw (ne_eqb call key_up_number isn't)

    pub fill_answer : answers_of call ≡ 1
    fill_answer = rw (ne_eqb call key_up_number isn't)

-- ---- as a test

-- what is left after x holds y
leb_past : (x y p : ℕ) → x ≤ p → leb (x + y) p ≡ leb y (p - x)
leb_past x y p h = go (leb y (p - x)) refl
  where
    go : (t : Bool) → leb y (p - x) ≡ t → leb (x + y) p ≡ t
    go true e = le-leb (x + y) p (omega (arith, leb-true y (p - x) e))
    go false e = lt-leb (x + y) p (omega (arith, leb-false y (p - x) e))

and-false : (a b : Bool) → b ≡ false → (a && b) ≡ false
and-false true b e = e
and-false false b e = refl

both_true : (a b : Bool) → (a && b) ≡ true → (a ≡ true) × (b ≡ true)
both_true true b e = (refl, e)
both_true false b e = impossible cc

pub room_none : (places answers : ℕ) → room_for [] places answers ≡ true
room_none places answers = rw (places_none, fills_none, le-leb 0 places (omega arith), le-leb 0 answers (omega arith))

pub room_parts : (calls : List ℕ) (places answers : ℕ) → room_for calls places answers ≡ true → (places_in calls ≤ places) × (fills_in calls ≤ answers)
room_parts calls places answers e =
    let both = both_true (leb (places_in calls) places) (leb (fills_in calls) answers) e in
    (leb-true (places_in calls) places both.0, leb-true (fills_in calls) answers both.1)

module _ (call : ℕ) (calls : List ℕ) (places answers : ℕ) where
  pub no_places : places < places_of call → room_for (call ∷ calls) places answers ≡ false
  no_places h = rw (places_next call calls, lt-leb (places_of call + places_in calls) places (omega arith))

  pub no_answers : answers < answers_of call → room_for (call ∷ calls) places answers ≡ false
  no_answers h = and-false (leb (places_in (call ∷ calls)) places) (leb (fills_in (call ∷ calls)) answers) (rw (fills_next call calls) (lt-leb (answers_of call + fills_in calls) answers (omega arith)))

  pub room_past : places_of call ≤ places → answers_of call ≤ answers → room_for (call ∷ calls) places answers ≡ room_for calls (places - places_of call) (answers - answers_of call)
  room_past p a =
      rw (places_next call calls, fills_next call calls, leb_past (places_of call) (places_in calls) places p, leb_past (answers_of call) (fills_in calls) answers a)
