-- The drawn voice: its sheet, how long its parts are, and what it is told from.
--     flat_two, flat_one, flat_length     the sheet of a voice that has a header, and a CHAN if it has two channels
--     header_fits, total_most             what the header's fields and its octaves come to
--     sides_fit, left_count, right_count  the samples of each side, and how many there are
--     sheet_most, left_most, right_most   how long its parts can be
--     drawn_refuses, drawn_gives          0 is refused, and any other number gives its voice
--     drawn_allowed, drawn_stereo         what a sheet and a writer ask of it
--     measured, outputs_drawn             its lengths, and what its stores make of the answer and of the buffers
-- Assumes nothing.
use Prim.Native.Nat.{ℕ, ◌+◌, ◌-◌, ◌%◌, ◌^◌, ◌≤◌, ◌<◌}
use mathlib.Core.Bool.{Bool, true, false, cond}
use mathlib.Core.List.{List, [], ◌∷◌, ◌++◌, append-nil}
use mathlib.Core.Path.{◌≡◌, refl, sym, ap, ◌∙◌}
use native.Mathlib.Nat.{mul-le-mul}
use native.Mathlib.Omega.{arith}
use borrow.Author.Tests.{eq-eqb, ne_eqb}
use lib.Dec.{eqb}
use lib.IntN.{ℤ}
use lib.ListN.{length, length-append}
use lib.Pow.{pow_mono}
use Rattle.laws.specs.Buffer.{written}
use Rattle.field.specs.Signed.{Samples}
use Rattle.field.proofs.SignedLaws.{none_fits}
use Rattle.header.specs.Header.{header_bytes, Fitting}
use Rattle.header.specs.Octaves.{hi, octaves, total_samples}
use Rattle.header.specs.declared.voice_header.VoiceHeader.{VoiceHeader}
use Rattle.header.proofs.HeaderLaws.{header_length}
use Rattle.small_chunks.specs.declared.channel.ChannelAssignment.TheVariants.{Stereo}
use Rattle.sheet.specs.Allowed.{Allowed}
use Rattle.sheet.specs.Flat.{flat}
use Rattle.sheet.specs.Voice.{is_stereo}
use Rattle.voice_read.specs.declared.chunks.Lengths.{Lengths}
use Rattle.voice_read.proofs.AnswerLaws.{Measured, Answered, lent, answer_fits}
use Rattle.drawn.specs.Draw.{nth_draw, draws}
use Rattle.drawn.specs.DrawnVoice.{two_channels, one_shot_beside, drawn_header, plain_voice, drawn_samples, drawn_sides, drawn_reading, drawn}
use Rattle.drawn.proofs.DrawLaws.{nth_after, samples_length, samples_fit}
use Rattle.refusal.specs.declared.Refusal.TheVariants.{ZeroNumber}
use Rattle.std.specs.Prelude.{Err, None, Ok, Some}

-- ---- the sheet

pub flat_two : (h : VoiceHeader) → (1 ∷ header_bytes h) ++ 2 ∷ 6 ∷ [] ≡ flat (plain_voice h true)
unfolding flat
flat_two h = simp append-nil

pub flat_one : (h : VoiceHeader) → 1 ∷ header_bytes h ≡ flat (plain_voice h false)
unfolding flat
flat_one h = simp append-nil

pub flat_length : (h : VoiceHeader) (stereo : Bool) → length (flat (plain_voice h stereo)) ≡ cond stereo 23 21
flat_length h true = ap length (sym (flat_two h)) ∙ rw (length-append, header_length h)
flat_length h false = ap length (sym (flat_one h)) ∙ rw (header_length h)

-- ---- the header

one_shot_most : (repeat one_shot : ℕ) → one_shot < 64 → one_shot_beside repeat one_shot < 64
one_shot_most repeat one_shot h = go (eqb (one_shot + repeat) 0)
  where
    go : (t : Bool) → cond t 1 one_shot < 64
    go true = omega arith
    go false = h

module _ (number : ℕ) where
  one_shot_small : (drawn_header number).one_shot_hi_samples < 64
  unfolding drawn_header
  one_shot_small = one_shot_most (nth_draw 4 number % 64) (nth_draw 3 number % 64) (omega arith)

  repeat_small : (drawn_header number).repeat_hi_samples < 64
  unfolding drawn_header
  repeat_small = omega arith

  octaves_most : (drawn_header number).ct_octave ≤ 4
  unfolding drawn_header
  octaves_most = omega arith

  rate_fits : (drawn_header number).samples_per_sec < 2 ^ 16
  unfolding drawn_header
  rate_fits = omega arith

  pub header_fits : Fitting (drawn_header number)
  unfolding drawn_header
  header_fits = record {
    one_shot = omega (arith, one_shot_small);
    repeat = omega (arith, repeat_small);
    cycle = omega arith;
    rate = rate_fits;
    octave_count = omega (arith, octaves_most);
    compression = omega arith;
    volume = omega arith;
  }

  -- at most 63 and 63 in the highest of at most four octaves
  pub total_most : total_samples (drawn_header number) ≤ 1890
  unfolding total_samples
  total_most =
      let few : octaves (drawn_header number) ≤ 4 = omega (arith, octaves_most) in
      let factor : 2 ^ octaves (drawn_header number) - 1 ≤ 15 = omega (arith, pow_mono few) in
      let short : hi (drawn_header number) ≤ 126 = omega (arith, one_shot_small, repeat_small) in
      mul-le-mul short factor

-- ---- the sides

-- of each side they are samples
pub sides_fit : (number : ℕ) → Samples (drawn_sides number).left × Samples (drawn_sides number).right
sides_fit number =
    let total = total_samples (drawn_header number) in
    (samples_fit total (nth_draw 5 number), go (two_channels number) (drawn_samples total (nth_draw (5 + total) number)) (samples_fit total (nth_draw (5 + total) number)))
  where
    go : (t : Bool) (l : List ℤ) → Samples l → Samples (cond t l [])
    go true l h = h
    go false l h = λ i. none_fits

-- no samples are what 0 draws give
samples_if : (t : Bool) (n x : ℕ) → drawn_samples (cond t n 0) x ≡ cond t (drawn_samples n x) []
unfolding drawn_samples draws
samples_if true n x = refl
samples_if false n x = refl

module _ (number : ℕ) where
  pub left_count : length (drawn_sides number).left ≡ total_samples (drawn_header number)
  left_count = samples_length (total_samples (drawn_header number)) (nth_draw 5 number)

  pub right_count : length (drawn_sides number).right ≡ cond (two_channels number) (total_samples (drawn_header number)) 0
  right_count =
      let total = total_samples (drawn_header number) in
      let x = nth_draw (5 + total) number in
      ap length (sym (samples_if (two_channels number) total x)) ∙ samples_length (cond (two_channels number) total 0) x

-- ---- the voice

-- of one of two numbers
pub either_most : (t : Bool) (m n most : ℕ) → m ≤ most → n ≤ most → cond t m n ≤ most
either_most true m n most p q = p
either_most false m n most p q = q

module _ (number : ℕ) where
  pub sheet_most : length (flat (drawn_reading number).voice) ≤ 23
  sheet_most = rw (flat_length (drawn_header number) (two_channels number)) (either_most (two_channels number) 23 21 23 (omega arith) (omega arith))

  pub left_most : length (drawn_sides number).left ≤ 1890
  left_most = rw (left_count number) (total_most number)

  pub right_most : length (drawn_sides number).right ≤ 1890
  right_most = rw (right_count number) (either_most (two_channels number) (total_samples (drawn_header number)) 0 1890 (total_most number) (omega arith))

pub drawn_refuses : (number : ℕ) → number ≡ 0 → drawn number ≡ Err ZeroNumber
unfolding drawn
drawn_refuses number zero = rw (eq-eqb number 0 zero)

pub drawn_gives : (number : ℕ) → (number ≡ 0 → ⊥) → drawn number ≡ Ok (drawn_reading number)
unfolding drawn
drawn_gives number other = rw (ne_eqb number 0 other)

-- a sheet can hold it
pub drawn_allowed : (number : ℕ) → Allowed (drawn_reading number).voice
drawn_allowed number = record { header = header_fits number; pan = tt; attacks = tt; releases = tt; sequence = tt; fade = tt; texts = tt }

-- its CHAN says how many channels it has
pub drawn_stereo : (number : ℕ) → is_stereo (drawn_reading number).voice.channel ≡ two_channels number
drawn_stereo number = go (two_channels number)
  where
    go : (t : Bool) → is_stereo (cond t (Some Stereo) None) ≡ t
    go true = refl
    go false = refl

-- ---- what the code knows of it: the five draws, and the lengths that it answers

pub record Planned (number : ℕ) (h : VoiceHeader) (stereo : Bool) (last : ℕ) (l : Lengths) : Type 0 where
  pub nonzero : number ≡ 0 → ⊥
  pub header_is : h ≡ drawn_header number
  pub stereo_is : stereo ≡ two_channels number
  pub last_is : last ≡ nth_draw 5 number
  pub sheet_length : l.sheet ≡ length (flat (plain_voice h stereo))
  pub left_length : l.left ≡ total_samples h
  pub right_length : l.right ≡ cond stereo (total_samples h) 0

module _ {number : ℕ} {h : VoiceHeader} {stereo : Bool} {last : ℕ} {l : Lengths} (p : Planned number h stereo last l) where
  pub measured : Measured (drawn number) l
  measured = record {
    reading = drawn_reading number;
    is = drawn_gives number p.nonzero;
    lengths = rw (p.sheet_length, p.left_length, p.right_length, p.header_is, p.stereo_is, left_count number, right_count number);
  }

  sheet_drawn_lem : flat (plain_voice h stereo) ≡ flat (drawn_reading number).voice
  sheet_drawn_lem = rw (p.header_is, p.stereo_is)

  left_drawn : drawn_samples l.left last ≡ (drawn_sides number).left
  left_drawn = rw (p.left_length, p.header_is, p.last_is)

  right_drawn : (after : ℕ) → after ≡ nth_draw l.left last → drawn_samples l.right after ≡ (drawn_sides number).right
  right_drawn after e =
      let total = total_samples (drawn_header number) in
      let from : after ≡ nth_draw (5 + total) number = e ∙ rw (p.left_length, p.header_is, p.last_is) (sym (nth_after 5 total number)) in
      rw (p.right_length, p.header_is, p.stereo_is, from) (samples_if (two_channels number) total (nth_draw (5 + total) number))

  -- what the stores make of the answer and of the buffers, where there is room
  pub outputs_drawn : (sheet sheet' : List ℕ) (left left' right right' : List ℤ) (after : ℕ) → l.sheet ≤ length sheet → l.left ≤ length left → l.right ≤ length right
      → sheet' ≡ written (flat (plain_voice h stereo)) sheet → left' ≡ written (drawn_samples l.left last) left
      → after ≡ nth_draw l.left last → right' ≡ written (drawn_samples l.right after) right
      → Answered (drawn number) (Ok l) (lent sheet left right) (lent sheet' left' right')
  unfolding measured
  outputs_drawn sheet sheet' left left' right right' after hs hl hr es el ea er =
      answer_fits (drawn number) sheet left right l measured hs hl hr sheet' left' right'
      (es ∙ ap (λ (s : List ℕ). written s sheet) sheet_drawn_lem)
      (el ∙ ap (λ (s : List ℤ). written s left) left_drawn)
      (er ∙ ap (λ (s : List ℤ). written s right) (right_drawn after ea))
