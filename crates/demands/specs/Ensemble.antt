-- The ensemble on a read voice. For every file that reading accepts, every score, every rate and every list of block lengths from place 0, each
-- call given the place that came back last, refused ones included: the answers and the accepted blocks, joined, are those of the reckoning,
-- which knows the file's bytes, the score, the rate and n alone, and they are the beginning of one mix. It is proved as `ensemble`. What the
-- code does comes in by two names, which are what the contracts say: `after_reading` (parse_voice) and `after_mix` (mix, inside `mix_all`).
use Rattle.std.specs.Prelude.{ℕ, ◌+◌, ◌/◌, ◌≤◌, List, [], ◌∷◌, map, ◌≡◌, ℤ, length, Err, Ok}
use Rattle.laws.specs.Among.{Among}
use Rattle.field.specs.BigEndian.{Bytes}
use Rattle.note_frame.specs.Frame.{frame}
use Rattle.note_frame.specs.Frames.{frames_from, interleaved}
use Rattle.note_frame.specs.declared.chain.Frame.{Frame}
use Rattle.voice_read.specs.Parsed.{Lent}
use Rattle.voice_read.specs.ReadVoice.{Reading, read_voice}
use Rattle.voice_read.specs.declared.chunks.Lengths.{Lengths}
use Rattle.ensemble_score.specs.declared.Entry.{Entry}
use Rattle.ensemble_block.specs.Mixed.{entry_note, mixed_frame}
use Rattle.ensemble.specs.Mix.{mix_voice, place_after}
use Rattle.ensemble.specs.Calls.{MixOut, before, mix_all}
use Rattle.demands.specs.Demand3.{sheet_read, sides_read, WasRead}
use Rattle.demands.specs.Reckoning.{put_out}
use Rattle.refusal.specs.declared.Refusal.TheVariants.{Segment, SequenceOneShot, FadeSegment, SequenceLength, OddPlaces, NoOctave, Step, Rate, Velocity, StartOrder, EntryCount, EarlyKeyUp}
use Rattle.refusal.specs.Outcome.{Outcome, and_then}
use Rattle.refusal.specs.declared.Refusal.{Refusal}

-- ---- the reckoning: its state is n, the mixed frames put out

-- a call with so many places: the next mixed frames from frame n on, or the refusal that turns it back
abbrev pub mix_at : Reading → List Entry → ℕ → ℕ → ℕ → Outcome (List Frame)
mix_at r score rate n places = mix_voice score rate n r.voice r.sides places

-- it answers the place after them, or that refusal
abbrev pub place_to : Outcome (List Frame) → ℕ → Outcome ℕ
place_to (Ok block) n = Ok (place_after n (length block))
place_to (Err refusal) n = Err refusal

-- n grows by the block; a call turned back changes nothing
abbrev pub mixed_on : Outcome (List Frame) → ℕ → ℕ
mixed_on (Ok block) n = n + length block
mixed_on (Err refusal) n = n

-- the reckoning from n mixed frames on
unfoldable pub reckon_mix_from : Reading → List Entry → ℕ → ℕ → List ℕ → MixOut
reckon_mix_from r score rate n [] = record { answers = []; blocks = [] }
reckon_mix_from r score rate n (places ∷ calls) =
    before (place_to (mix_at r score rate n places) n) (put_out (mix_at r score rate n places))
    (reckon_mix_from r score rate (mixed_on (mix_at r score rate n places) n) calls)

-- the reckoning, fed the file's bytes
abbrev pub reckon_mix : List ℕ → List Entry → ℕ → List ℕ → Outcome MixOut
reckon_mix file score rate calls = and_then (read_voice file) (λ r. Ok (reckon_mix_from r score rate 0 calls))

-- ---- the one mix

-- its first d mixed frames, as values
abbrev pub first_mixed : Reading → List Entry → ℕ → ℕ → List ℤ
first_mixed r score rate d = interleaved (frames_from (mixed_frame r.voice r.sides rate score) 0 d)

-- each accepted call's answer is the place after all blocks so far, of which n frames came before
abbrev pub Placed : ℕ → List ℕ → List (Outcome ℕ) → Type 0
Placed n [] answers = answers ≡ []
Placed n (places ∷ calls) [] = ⊥
Placed n (places ∷ calls) (Ok place ∷ answers) = (place ≡ place_after n (places / 2)) × Placed (n + places / 2) calls answers
Placed n (places ∷ calls) (Err refusal ∷ answers) = Placed n calls answers

-- what calls put out is the beginning of one mix: its first frames, as many as the blocks hold, and with each answer the place
pub record OneMix (r : Reading) (score : List Entry) (rate : ℕ) (calls : List ℕ) (out : MixOut) : Type 0 where
  pub frames : out.blocks ≡ first_mixed r score rate (length out.blocks / 2)
  pub places : Placed 0 calls out.answers

-- ---- the claim

-- the numbers that can turn back a mix on a read voice: 45 to 47, 21 to 25, 31 to 33, 44
abbrev pub read_mix_refusals : List Refusal
read_mix_refusals =
    StartOrder ∷ EntryCount ∷ EarlyKeyUp ∷ Segment ∷ SequenceOneShot ∷ FadeSegment ∷ SequenceLength ∷ OddPlaces ∷ NoOctave ∷ Step ∷ Rate ∷ Velocity ∷ []

-- what a list of calls gives, and which one mix it is
pub record Ensemble : Type 0 where
  -- every list of calls from place 0 on what reading put out gives the reckoning's answers and blocks, and these are the beginning of one mix
  pub mixed : (file : List ℕ) (b : Lent) (l : Lengths) (score : List Entry) (rate : ℕ) (buffers : List (List ℤ)) (r : Reading) → WasRead file b l → read_voice file ≡ Ok r →
      let out = mix_all score rate 0 (sheet_read file b l) (sides_read file b l) buffers in
      (reckon_mix file score rate (map length buffers) ≡ Ok out) × OneMix r score rate (map length buffers) out
  -- a score of one entry that starts at 0 is its note's frames
  pub one_entry : (file : List ℕ) (r : Reading) (e : Entry) (rate m : ℕ) → read_voice file ≡ Ok r → e.start ≡ 0 → e.velocity ≤ 127
      → mixed_frame r.voice r.sides rate (e ∷ []) m ≡ frame r.voice r.sides (entry_note rate e) m
  -- a mix on a read voice is refused by 45 to 47, 21 to 25, 31 to 33 or 44 alone
  pub refused_by : (file : List ℕ) (r : Reading) (score : List Entry) (rate n places : ℕ) (refusal : Refusal) → Bytes file → read_voice file ≡ Ok r
      → mix_at r score rate n places ≡ Err refusal → Among refusal read_mix_refusals
