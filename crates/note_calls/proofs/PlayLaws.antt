-- What calls put out, and the note after them, call by call. No law elsewhere unfolds `play` and `last_note`.
--     blocks_next, answers_next, note_next          a call, and the calls past it
--     key_up_puts, key_up_note                      a number that is a key-up
--     fill_blocks, fill_answers, fill_note          a number that is a fill
--     fill_put, answer_put                          where its block and its answer are stored
--     none_blocks, none_answers, none_note          no call
--     within_places, within_answers                 what a call puts out has room
--     velocity_stays                                the velocity, which no call changes
-- Assumes nothing.
use Prim.Native.Nat.{ℕ, ◌+◌, ◌≤◌}
use mathlib.Core.Bool.{Bool, true, false, cond}
use mathlib.Core.List.{List, [], ◌∷◌, ◌++◌, map, append-nil}
use mathlib.Core.Path.{◌≡◌, refl, sym, ap, ◌∙◌}
use native.Mathlib.Omega.{arith}
use borrow.Author.Tests.{eq-eqb, ne_eqb, eqb-true, eqb-false}
use lib.IntN.{ℤ}
use lib.ListN.{length, set}
use lib.Seq.{sets}
use Rattle.laws.specs.Put.{Put}
use Rattle.body_read.specs.Sides.{Sides}
use Rattle.note_frame.specs.declared.chain.Frame.{Frame}
use Rattle.note_frame.specs.declared.playing.Playing.{Playing}
use Rattle.note.specs.Fill.{fill_sheet, fill_leaves, after_fill}
use Rattle.note.specs.Note.{key_up_of}
use Rattle.note.specs.declared.Note.{Note}
use Rattle.note_calls.specs.Play.{HostCall, fill_buffer, key_up_now, accepted_block, play, last_note}
use Rattle.note_calls.specs.Made.{key_up_number, is_key_up, host_calls, places_of, answers_of, answer_number}
use Rattle.note_calls.proofs.PartLaws.{zeros, accepted_within, block_of, accepted_length}
use Rattle.refusal.specs.Outcome.{Outcome}
use Rattle.std.specs.Prelude.{Err, Ok}

module _ (sheet : List ℕ) (s : Sides) (n : Note) where
  -- ---- a call and those past it

  pub blocks_next : (c : HostCall) (calls : List HostCall) → (play sheet s n (c ∷ calls)).blocks ≡ (play sheet s n (c ∷ [])).blocks ++ (play sheet s (last_note sheet s n (c ∷ [])) calls).blocks
  unfolding play last_note
  blocks_next (fill_buffer b) calls = rw (append-nil (accepted_block (after_fill sheet s n b).answer (after_fill sheet s n b).buffer))
  blocks_next key_up_now calls = refl

  pub answers_next : (c : HostCall) (calls : List HostCall) → (play sheet s n (c ∷ calls)).answers ≡ (play sheet s n (c ∷ [])).answers ++ (play sheet s (last_note sheet s n (c ∷ [])) calls).answers
  unfolding play last_note
  answers_next (fill_buffer b) calls = refl
  answers_next key_up_now calls = refl

  pub note_next : (c : HostCall) (calls : List HostCall) → last_note sheet s n (c ∷ calls) ≡ last_note sheet s (last_note sheet s n (c ∷ [])) calls
  unfolding last_note
  note_next (fill_buffer b) calls = refl
  note_next key_up_now calls = refl

  -- ---- no call

  pub none_blocks : (play sheet s n []).blocks ≡ []
  unfolding play
  none_blocks = refl

  pub none_answers : (play sheet s n []).answers ≡ []
  unfolding play
  none_answers = refl

  pub none_note : last_note sheet s n [] ≡ n
  unfolding last_note
  none_note = refl

  -- ---- a call as a number

  module _ (call : ℕ) where
    module _ (is : call ≡ key_up_number) where
      pub key_up_puts : play sheet s n (host_calls (call ∷ [])) ≡ record { answers = []; blocks = [] }
      unfolding play
      key_up_puts = rw (eq-eqb call key_up_number is)

      pub key_up_note : last_note sheet s n (host_calls (call ∷ [])) ≡ key_up_of n
      unfolding last_note
      key_up_note = rw (eq-eqb call key_up_number is)

    module _ (isn't : call ≡ key_up_number → ⊥) where
      pub fill_blocks : (play sheet s n (host_calls (call ∷ []))).blocks ≡ block_of sheet s n call
      unfolding play
      fill_blocks = rw (ne_eqb call key_up_number isn't) (append-nil (block_of sheet s n call))

      pub fill_answers : (play sheet s n (host_calls (call ∷ []))).answers ≡ (after_fill sheet s n (zeros call)).answer ∷ []
      unfolding play
      fill_answers = rw (ne_eqb call key_up_number isn't)

      pub fill_note : last_note sheet s n (host_calls (call ∷ [])) ≡ (after_fill sheet s n (zeros call)).note
      unfolding last_note
      fill_note = rw (ne_eqb call key_up_number isn't)

      -- what a fill leaves, by its answer a
      module _ (a : Outcome ℕ) (a_is : a ≡ (after_fill sheet s n (zeros call)).answer) where
        pub fill_put : (out out' : List ℤ) (at r : ℕ) → out' ≡ sets out at (accepted_block a (after_fill sheet s n (zeros call)).buffer)
            → r ≡ length (accepted_block a (zeros call)) → Put out at (play sheet s n (host_calls (call ∷ []))).blocks out' (at + r)
        fill_put out out' at r stored long = record {
          is = stored ∙ ap (λ (x : Outcome ℕ). sets out at (accepted_block x (after_fill sheet s n (zeros call)).buffer)) a_is ∙ ap (sets out at) (sym fill_blocks);
          end = ap (λ (k : ℕ). at + k) (long ∙ ap (λ (x : Outcome ℕ). length (accepted_block x (zeros call))) a_is ∙ sym (accepted_length sheet s n call) ∙ ap length (sym fill_blocks));
        }

        pub answer_put : (answers : List ℕ) (count v : ℕ) → v ≡ answer_number a
            → Put answers count (map answer_number (play sheet s n (host_calls (call ∷ []))).answers) (set answers count v) (count + 1)
        answer_put answers count v e = rw (fill_answers, ← a_is, ← e) (record { is = refl; end = refl })

    block_within : length (block_of sheet s n call) ≤ call
    block_within = omega (arith, accepted_length sheet s n call, accepted_within (after_fill sheet s n (zeros call)).answer call)

    pub within_places : length (play sheet s n (host_calls (call ∷ []))).blocks ≤ places_of call
    within_places = go (is_key_up call) refl
      where
        go : (t : Bool) → is_key_up call ≡ t → length (play sheet s n (host_calls (call ∷ []))).blocks ≤ cond t 0 call
        go true e = rw (key_up_puts (eqb-true call key_up_number e)) (omega arith)
        go false e = rw (fill_blocks (eqb-false call key_up_number e)) block_within

    pub within_answers : length (play sheet s n (host_calls (call ∷ []))).answers ≡ answers_of call
    within_answers = go (is_key_up call) refl
      where
        go : (t : Bool) → is_key_up call ≡ t → length (play sheet s n (host_calls (call ∷ []))).answers ≡ cond t 0 1
        go true e = rw (key_up_puts (eqb-true call key_up_number e))
        go false e = rw (fill_answers (eqb-false call key_up_number e))

-- ---- the velocity

-- a fill leaves how the note plays
fill_plays : (o : Outcome (List Frame)) (n : Note) (buffer : List ℤ) → (fill_leaves o n buffer).note.playing ≡ n.playing
fill_plays (Ok block) n buffer = refl
fill_plays (Err refusal) n buffer = refl

pub velocity_stays : (sheet : List ℕ) (s : Sides) (n : Note) (calls : List HostCall) → (last_note sheet s n calls).playing.velocity ≡ n.playing.velocity
unfolding last_note
velocity_stays sheet s n [] = refl
velocity_stays sheet s n (fill_buffer b ∷ calls) =
    let same = fill_plays (fill_sheet sheet s n.playing n.frames (length b)) n b in
    velocity_stays sheet s (after_fill sheet s n b).note calls ∙ ap (λ (p : Playing). p.velocity) same
velocity_stays sheet s n (key_up_now ∷ calls) = velocity_stays sheet s (key_up_of n) calls
