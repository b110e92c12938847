-- The lengths, the answer and the three buffers, by cases.
--     needed_refused, needed_gives                  the lengths of a reading, by those of its sides
--     lengths_refused, lengths_given                what a reading is, by its lengths
--     answer_refused, sheet_short .. answer_fits    the answer and the buffers after a call
--     outputs_room, outputs_written                 the outputs of a file that is read: they have room, and are its answer
-- Assumes nothing.
use Prim.Native.Nat.{ℕ, ◌^◌, ◌≤◌, ◌<◌}
use borrow.Author.Tests.{le-leb, lt-leb}
use lib.Dec.{leb}
use lib.IntN.{ℤ}
use lib.ListN.{length}
use mathlib.Core.Bool.{Bool, true, false, ◌&&◌}
use mathlib.Core.List.{List}
use mathlib.Core.Path.{◌≡◌, refl, sym, ap}
use Rattle.laws.proofs.Cases.{impossible}
use Rattle.laws.specs.Buffer.{written}
use Rattle.chunk.specs.Chunk.{items_from}
use Rattle.form.specs.Find.{first_of}
use Rattle.form.specs.Names.{body}
use Rattle.sheet_read.specs.FormVoice.{form_voice}
use Rattle.sheet_read.specs.ForCode.{Readable}
use Rattle.sheet.specs.Flat.{flat}
use Rattle.sheet.specs.Read.{body_of}
use Rattle.sheet.specs.Voice.{is_stereo}
use Rattle.sheet.specs.Voice as sheet
use Rattle.body_read.specs.Sides.{Sides, body_sides}
use Rattle.body_read.specs.Answers.{side_lengths_of, SidesFit, left_after, right_after}
use Rattle.body_read.specs.declared.lengths.SideLengths.{SideLengths}
use Rattle.voice_read.specs.Parsed.{Lent, lengths_of, needed_by, fits, reading_leaves}
use Rattle.voice_read.specs.ReadVoice.{Reading, with_sides, form_of, read_voice}
use Rattle.voice_read.specs.declared.chunks.Lengths.{Lengths}
use Rattle.voice_read.proofs.ReadLaws.{Given, file_given, given_sides}
use Rattle.refusal.specs.declared.Refusal.TheVariants.{BufferShort}
use Rattle.refusal.specs.Outcome.{Outcome, and_then}
use Rattle.refusal.specs.declared.Refusal.{Refusal}
use Rattle.std.specs.Prelude.{Err, Ok}

-- ---- the lengths, from those of the sides

module _ (v : sheet.Voice) (bytes : List ℕ) where
  pub needed_refused : (refusal : Refusal) → side_lengths_of (body_sides v.header (is_stereo v.channel) bytes) ≡ Err refusal → Err refusal ≡ needed_by (with_sides v bytes)
  needed_refused refusal = go (body_sides v.header (is_stereo v.channel) bytes)
    where
      go : (o : Outcome Sides) → side_lengths_of o ≡ Err refusal → Err refusal ≡ needed_by (and_then o (λ s. Ok (record { voice = v; sides = s })))
      go (Ok s) e = impossible cc
      go (Err k) e = let same : k ≡ refusal = cc in ap Err (sym same)

  pub needed_gives : (n left right : ℕ) → n ≡ length (flat v)
      → side_lengths_of (body_sides v.header (is_stereo v.channel) bytes) ≡ Ok (record { left = left; right = right })
      → Ok (record { sheet = n; left = left; right = right }) ≡ needed_by (with_sides v bytes)
  needed_gives n left right same = go (body_sides v.header (is_stereo v.channel) bytes)
    where
      go : (o : Outcome Sides) → side_lengths_of o ≡ Ok (record { left = left; right = right })
          → Ok (record { sheet = n; left = left; right = right }) ≡ needed_by (and_then o (λ s. Ok (record { voice = v; sides = s })))
      go (Ok s) e =
          let pair : ◌≡◌ {A = SideLengths} (record { left = length s.left; right = length s.right }) (record { left = left; right = right }) = cc in
          rw (same, ap (λ (x : SideLengths). x.left) pair, ap (λ (x : SideLengths). x.right) pair)
      go (Err k) e = impossible cc

-- ---- what is read, from its lengths

-- a reading of these lengths
pub record Measured (o : Outcome Reading) (l : Lengths) : Type 0 where
  pub reading : Reading
  pub is : o ≡ Ok reading
  pub lengths : lengths_of reading ≡ l

pub lengths_refused : (o : Outcome Reading) (refusal : Refusal) → needed_by o ≡ Err refusal → o ≡ Err refusal
lengths_refused (Ok r) refusal e = impossible cc
lengths_refused (Err k) refusal e = let same : k ≡ refusal = cc in ap Err same

pub lengths_given : (o : Outcome Reading) (l : Lengths) → needed_by o ≡ Ok l → Measured o l
lengths_given (Ok r) l e = record { reading = r; is = refl; lengths = cc }
lengths_given (Err k) l e = impossible cc

-- ---- the answer and the buffers

-- they are those of an outcome
abbrev pub Answered : Outcome Reading → Outcome Lengths → Lent → Lent → Type 0
Answered o answer b b' =
    let w = reading_leaves o b in
    (answer ≡ w.parsed) × ((b'.sheet ≡ w.buffers.sheet) × ((b'.left ≡ w.buffers.left) × (b'.right ≡ w.buffers.right)))

-- three buffers as one
abbrev pub lent : List ℕ → List ℤ → List ℤ → Lent
lent sheet left right = record { sheet = sheet; left = left; right = right }

second_false : (a c : Bool) → (a && false && c) ≡ false
second_false true c = refl
second_false false c = refl

third_false : (a b : Bool) → (a && b && false) ≡ false
third_false true true = refl
third_false true false = refl
third_false false b = refl

module _ (o : Outcome Reading) (sheet : List ℕ) (left right : List ℤ) where
  pub answer_refused : (refusal : Refusal) → o ≡ Err refusal → Answered o (Err refusal) (lent sheet left right) (lent sheet left right)
  answer_refused refusal e = rw e (refl, (refl, (refl, refl)))

  module _ (l : Lengths) (m : Measured o l) where
    unfit : fits m.reading (length sheet) (length left) (length right) ≡ false → Answered o (Err BufferShort) (lent sheet left right) (lent sheet left right)
    unfit e = rw (m.is, e) (refl, (refl, (refl, refl)))

    pub sheet_short : length sheet < l.sheet → Answered o (Err BufferShort) (lent sheet left right) (lent sheet left right)
    sheet_short h = unfit (rw (lt-leb (length (flat m.reading.voice)) (length sheet) (rw (← m.lengths) at h)))

    pub left_short : length left < l.left → Answered o (Err BufferShort) (lent sheet left right) (lent sheet left right)
    left_short h =
        unfit
        (rw (lt-leb (length m.reading.sides.left) (length left) (rw (← m.lengths) at h))
        (second_false (leb (length (flat m.reading.voice)) (length sheet)) (leb (length m.reading.sides.right) (length right))))

    pub right_short : length right < l.right → Answered o (Err BufferShort) (lent sheet left right) (lent sheet left right)
    right_short h =
        unfit
        (rw (lt-leb (length m.reading.sides.right) (length right) (rw (← m.lengths) at h))
        (third_false (leb (length (flat m.reading.voice)) (length sheet)) (leb (length m.reading.sides.left) (length left))))

    pub answer_fits : l.sheet ≤ length sheet → l.left ≤ length left → l.right ≤ length right → (sheet' : List ℕ) (left' right' : List ℤ)
        → sheet' ≡ written (flat m.reading.voice) sheet → left' ≡ written m.reading.sides.left left → right' ≡ written m.reading.sides.right right
        → Answered o (Ok l) (lent sheet left right) (lent sheet' left' right')
    answer_fits hs hl hr sheet' left' right' es el er =
        rw (
          m.is,
          le-leb (length (flat m.reading.voice)) (length sheet) (rw (← m.lengths) at hs),
          le-leb (length m.reading.sides.left) (length left) (rw (← m.lengths) at hl),
          le-leb (length m.reading.sides.right) (length right) (rw (← m.lengths) at hr),
        )
        (ap Ok (sym m.lengths), (es, (el, er)))

-- ---- the outputs of a file that is read

module _ (file : List ℕ) (l : Lengths) (m : Measured (read_voice file) l) (f : List ℕ) (same : f ≡ form_of file) where
  given : Given (items_from f 12) m.reading
  given = rw same (file_given file m.reading m.is)

  -- the sides that the FORM's BODY gives
  abbrev form_sides : Outcome Sides
  form_sides = body_sides (form_voice (items_from f 12)).header (is_stereo (form_voice (items_from f 12)).channel) (body_of (first_of body (items_from f 12)))

  -- what writing them asks for
  pub outputs_room : length f < 2 ^ 33 → (sheet left right : ℕ) → l.sheet ≤ sheet → l.left ≤ left → l.right ≤ right
      → Readable f × (length (flat (form_voice (items_from f 12))) ≤ sheet) × SidesFit form_sides left right
  outputs_room short sheet left right hs hl hr =
      rw (given_sides (items_from f 12) m.reading given)
      (record { sound = given.sound; header = given.header; short = short }, rw (← given.voice) (rw (← m.lengths) at hs), (rw (← m.lengths) at hl, rw (← m.lengths) at hr))

  -- what they make of the answer and of the buffers
  pub outputs_written : (sheet sheet' : List ℕ) (left left' right right' : List ℤ) → l.sheet ≤ length sheet → l.left ≤ length left → l.right ≤ length right
      → sheet' ≡ written (flat (form_voice (items_from f 12))) sheet → left' ≡ left_after form_sides left → right' ≡ right_after form_sides right
      → Answered (read_voice file) (Ok l) (lent sheet left right) (lent sheet' left' right')
  outputs_written sheet sheet' left left' right right' hs hl hr es el er =
      let sides = given_sides (items_from f 12) m.reading given in
      answer_fits (read_voice file) sheet left right l m hs hl hr sheet' left' right' (rw (← given.voice) at es) (rw sides at el) (rw sides at er)
