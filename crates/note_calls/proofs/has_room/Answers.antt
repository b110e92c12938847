-- The next call has no room, or the calls past it decide by what it leaves.
use Prim.Native.Nat.{ℕ, ◌+◌, ◌-◌, ◌<◌}
use mathlib.Core.Bool.{Bool}
use mathlib.Core.List.{List, [], ◌∷◌}
use mathlib.Core.Path.{◌≡◌, sym, ap, ◌∙◌}
use native.Mathlib.Omega.{arith}
use borrow.Author.Rules.{rules}
use lib.ListN.{length, drop, get_or, drop_of_length-le}
use Rattle.note_calls.specs.Made.{places_of, room_for}
use Rattle.note_calls.proofs.RoomLaws.{next_call, room_none, no_places, no_answers, room_past}
use Rattle.note_calls.proofs.has_room.Goals as goal

-- the next call and those past it decide
decides : (calls : List ℕ) (i places answers : ℕ) (whole : Bool) → i < length calls → room_for (drop i calls) places answers ≡ whole
    → room_for (get_or calls i 0 ∷ drop (i + 1) calls) places answers ≡ whole
decides calls i places answers whole more is = ap (λ (l : List ℕ). room_for l places answers) (sym (next_call calls i more)) ∙ is

pub returns-then-places_left-p : goal.returns-then-places_left-p
returns-then-places_left-p c =
    let calls = c.args.calls.now in
    let o = c.loop-call in
    sym (no_places (get_or calls o.call-index 0) (drop (o.call-index + 1) calls) o.places_left o.answers_left (omega (arith, c.places_of-p.ensures)))
    ∙ decides calls o.call-index o.places_left o.answers_left _ (search rules) o.invariant.1

pub returns-then-answers_left-a : goal.returns-then-answers_left-a
returns-then-answers_left-a c =
    let calls = c.args.calls.now in
    let o = c.loop-call in
    sym (no_answers (get_or calls o.call-index 0) (drop (o.call-index + 1) calls) o.places_left o.answers_left (omega (arith, c.answers_of-a.ensures)))
    ∙ decides calls o.call-index o.places_left o.answers_left _ (search rules) o.invariant.1

pub loop-call-preserved : goal.loop-call-preserved
loop-call-preserved c =
    let calls = c.args.calls.now in
    let o = c.loop-call in
    let later = drop (o.call-index + 1) calls in
    let p = c.places_of-p.ensures in
    let a = c.answers_of-a.ensures in
    let past = room_past (get_or calls o.call-index 0) later o.places_left o.answers_left (omega (arith, p)) (omega (arith, a)) in
    let places = ap (λ (x : ℕ). room_for later (o.places_left - x) (o.answers_left - c.answers_of-a.result)) p in
    let answers = ap (λ (x : ℕ). room_for later (o.places_left - places_of (get_or calls o.call-index 0)) (o.answers_left - x)) a in
    (search rules, places ∙ answers ∙ sym past ∙ decides calls o.call-index o.places_left o.answers_left _ (search rules) o.invariant.1)

pub returns : goal.returns
returns c =
    let o = c.loop-call in
    let a = c.args in
    let none : drop o.call-index a.calls.now ≡ [] = drop_of_length-le a.calls.now {i = o.call-index} (search rules) in
    sym (ap (λ (l : List ℕ). room_for l o.places_left o.answers_left) none ∙ room_none o.places_left o.answers_left) ∙ o.invariant.1
