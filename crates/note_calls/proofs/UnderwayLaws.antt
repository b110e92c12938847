-- Calls under way: the invariant of the loop that makes them. What is left to play gives the whole, and there is room for it.
--     Calling, AllMade                                          the calls before a place are made; all of them are
--     calling_start, calling_room, calling_step, calling_done   no call, the next call's room, one call more, and all of them
-- Assumes nothing.
use Prim.Native.Nat.{ℕ, ◌+◌, ◌≤◌, ◌<◌}
use mathlib.Core.Bool.{true}
use mathlib.Core.List.{List, [], ◌∷◌, ◌++◌, map, map-append}
use mathlib.Core.Path.{◌≡◌, refl, sym, ap, ◌∙◌}
use native.Mathlib.Omega.{arith}
use lib.IntN.{ℤ}
use lib.ListN.{length, drop, get_or, drop_of_length-le, length-map}
use lib.Seq.{length-sets}
use Rattle.laws.specs.Buffer.{written}
use Rattle.laws.specs.Put.{Put}
use Rattle.laws.proofs.PutLaws.{Underway, underway_start, underway_step, underway_done, put_front}
use Rattle.body_read.specs.Sides.{Sides}
use Rattle.note.specs.declared.Note.{Note}
use Rattle.note_calls.specs.Play.{play, last_note}
use Rattle.note_calls.specs.Made.{host_call, host_calls, places_of, answers_of, places_in, fills_in, answer_number, room_for}
use Rattle.note_calls.specs.declared.Run.{Run}
use Rattle.note_calls.proofs.RoomLaws.{next_call, places_next, fills_next, room_parts}
use Rattle.note_calls.proofs.PlayLaws.{blocks_next, answers_next, note_next, none_blocks, none_answers, none_note, within_places, within_answers}

-- what numbers put out as calls
abbrev blocks_of : List ℕ → Sides → Note → List ℕ → List ℤ
blocks_of sheet s n calls = (play sheet s n (host_calls calls)).blocks

abbrev numbers_of : List ℕ → Sides → Note → List ℕ → List ℕ
numbers_of sheet s n calls = map answer_number (play sheet s n (host_calls calls)).answers

-- the calls before i are made: what both buffers held, what they hold, and the note and the places that were reached
pub record Calling (sheet : List ℕ) (s : Sides) (note : Note) (calls : List ℕ) (out₀ : List ℤ) (answers₀ : List ℕ) (out : List ℤ) (answers : List ℕ) (run : Run) (i : ℕ) : Type 0 where
  pub within : i ≤ length calls
  pub blocks : Underway out₀ 0 (blocks_of sheet s note calls) out run.at (blocks_of sheet s run.note (drop i calls))
  pub numbers : Underway answers₀ 0 (numbers_of sheet s note calls) answers run.count (numbers_of sheet s run.note (drop i calls))
  pub last : last_note sheet s run.note (host_calls (drop i calls)) ≡ last_note sheet s note (host_calls calls)
  pub places : run.at + places_in (drop i calls) ≤ length out
  pub fills : run.count + fills_in (drop i calls) ≤ length answers
  pub same_out : length out ≡ length out₀
  pub same_answers : length answers ≡ length answers₀

-- all of them are made
pub record AllMade (sheet : List ℕ) (s : Sides) (note : Note) (calls : List ℕ) (out₀ : List ℤ) (answers₀ : List ℕ) (out : List ℤ) (answers : List ℕ) (run : Run) : Type 0 where
  pub note_is : run.note ≡ last_note sheet s note (host_calls calls)
  pub at_is : run.at ≡ length (blocks_of sheet s note calls)
  pub count_is : run.count ≡ length (play sheet s note (host_calls calls)).answers
  pub out_is : out ≡ written (blocks_of sheet s note calls) out₀
  pub answers_is : answers ≡ written (numbers_of sheet s note calls) answers₀

module _ (sheet : List ℕ) (s : Sides) where
  pub calling_start : (note : Note) (calls : List ℕ) (out : List ℤ) (answers : List ℕ) → room_for calls (length out) (length answers) ≡ true
      → Calling sheet s note calls out answers out answers (record { note = note; at = 0; count = 0 }) 0
  calling_start note calls out answers room =
      let both = room_parts calls (length out) (length answers) room in
      record {
        within = omega arith;
        blocks = underway_start;
        numbers = underway_start;
        last = refl;
        places = omega (arith, both.0);
        fills = omega (arith, both.1);
        same_out = refl;
        same_answers = refl;
      }

  module _ (note : Note) (calls : List ℕ) (out₀ : List ℤ) (answers₀ : List ℕ) (out : List ℤ) (answers : List ℕ) (run : Run) (i : ℕ) where
    module _ (g : Calling sheet s note calls out₀ answers₀ out answers run i) where
      -- the next call, and those past it
      abbrev call : ℕ
      call = get_or calls i 0

      abbrev later : List ℕ
      later = drop (i + 1) calls

      module _ (more : i < length calls) where
        places_are : places_in (drop i calls) ≡ places_of call + places_in later
        places_are = ap places_in (next_call calls i more) ∙ places_next call later

        fills_are : fills_in (drop i calls) ≡ answers_of call + fills_in later
        fills_are = ap fills_in (next_call calls i more) ∙ fills_next call later

        pub calling_room : (run.at + places_of call ≤ length out) × (run.count + answers_of call ≤ length answers)
        calling_room = (omega (arith, g.places, places_are), omega (arith, g.fills, fills_are))

        module _ (out' : List ℤ) (answers' : List ℕ) (run' : Run) (n : run'.note ≡ last_note sheet s run.note (host_calls (call ∷ []))) where
          blocks_are : blocks_of sheet s run.note (drop i calls) ≡ blocks_of sheet s run.note (call ∷ []) ++ blocks_of sheet s run'.note later
          blocks_are = rw (n, next_call calls i more) (blocks_next sheet s run.note (host_call call) (host_calls later))

          numbers_are : numbers_of sheet s run.note (drop i calls) ≡ numbers_of sheet s run.note (call ∷ []) ++ numbers_of sheet s run'.note later
          numbers_are =
              rw (n, next_call calls i more)
              (ap (map answer_number) (answers_next sheet s run.note (host_call call) (host_calls later))
              ∙ map-append answer_number (play sheet s run.note (host_calls (call ∷ []))).answers _)

          last_is : last_note sheet s run.note (host_calls (drop i calls)) ≡ last_note sheet s run'.note (host_calls later)
          last_is = rw (n, next_call calls i more) (note_next sheet s run.note (host_call call) (host_calls later))

          pub calling_step : Put out run.at (blocks_of sheet s run.note (call ∷ [])) out' run'.at
              → Put answers run.count (numbers_of sheet s run.note (call ∷ [])) answers' run'.count
              → Calling sheet s note calls out₀ answers₀ out' answers' run' (i + 1)
          calling_step p q =
              let kept : length out' ≡ length out = ap length p.is ∙ length-sets out run.at (blocks_of sheet s run.note (call ∷ [])) in
              let kept_too : length answers' ≡ length answers = ap length q.is ∙ length-sets answers run.count (numbers_of sheet s run.note (call ∷ [])) in
              let put = play sheet s run.note (host_calls (call ∷ [])) in
              record {
                within = omega arith;
                blocks = underway_step (blocks_of sheet s run'.note later) g.blocks blocks_are p;
                numbers = underway_step (numbers_of sheet s run'.note later) g.numbers numbers_are q;
                last = sym last_is ∙ g.last;
                places = omega (arith, kept, g.places, places_are, p.end, within_places sheet s run.note call);
                fills = omega (arith, kept_too, g.fills, fills_are, q.end, length-map put.answers answer_number, within_answers sheet s run.note call);
                same_out = kept ∙ g.same_out;
                same_answers = kept_too ∙ g.same_answers;
              }

      pub calling_done : length calls ≤ i → AllMade sheet s note calls out₀ answers₀ out answers run
      calling_done end =
          let none : drop i calls ≡ [] = drop_of_length-le calls end in
          let p = underway_done g.blocks (ap (blocks_of sheet s run.note) none ∙ none_blocks sheet s run.note) in
          let q = underway_done g.numbers (ap (numbers_of sheet s run.note) none ∙ ap (map answer_number) (none_answers sheet s run.note)) in
          record {
            note_is = sym (none_note sheet s run.note) ∙ ap (λ (l : List ℕ). last_note sheet s run.note (host_calls l)) (sym none) ∙ g.last;
            at_is = omega (arith, p.end);
            count_is = omega (arith, q.end, length-map (play sheet s note (host_calls calls)).answers answer_number);
            out_is = put_front (omega (arith, p.end, g.places, g.same_out)) p;
            answers_is = put_front (omega (arith, q.end, g.fills, g.same_answers)) q;
          }
