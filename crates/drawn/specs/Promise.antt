-- What is promised of a drawn voice. It is proved as `promise`. That every one of them is written and read back is `DrawnVoices` of the
-- crate `demands`.
use Rattle.std.specs.Prelude.{ℕ, ◌+◌, ◌*◌, ◌<◌, cond, not, true, List, [], ◌∷◌, ◌++◌, ◌≡◌, eqb, pos, negsuc, length, get_or, Err}
use Rattle.refusal.specs.Rules.{Rule, rule, first_holding, unless_refused, numbers_of}
use Rattle.header.specs.Octaves.{total_samples}
use Rattle.sheet.specs.Flat.{flat}
use Rattle.voice_read.specs.Parsed.{Lent, lengths_of, fits}
use Rattle.drawn.specs.Draw.{nth_draw, draws}
use Rattle.drawn.specs.DrawnVoice.{two_channels, drawn_header, drawn_samples, drawn_sides, drawn_reading, drawn, after_drawing}
use Rattle.refusal.specs.declared.Refusal.TheVariants.{ZeroNumber, BufferShort}

-- what turns a call back, in the order in which it is judged: 48, a number that is 0; 20, a buffer that is too short
abbrev pub drawn_rules : ℕ → Lent → List Rule
drawn_rules number b =
    rule ZeroNumber (eqb number 0)
    ∷ rule BufferShort (not (fits (drawn_reading number) (length b.sheet) (length b.left) (length b.right)))
    ∷ []

-- how many samples all channels have together
abbrev pub samples_drawn : ℕ → ℕ
samples_drawn number = cond (two_channels number) 2 1 * total_samples (drawn_header number)

-- that the draws are one list, the order in which a call is judged, how much room always does, and examples
pub record Promise : Type 0 where
  -- a list of draws has each in its place
  pub in_place : (n i x : ℕ) → i < n → get_or (draws n x) i 0 ≡ nth_draw (i + 1) x
  -- the samples, left before right, are the draws from the sixth on
  pub one_list : (number : ℕ) → (drawn_sides number).left ++ (drawn_sides number).right ≡ drawn_samples (samples_drawn number) (nth_draw 5 number)
  -- the order is 48, 20
  pub order : (number : ℕ) (b : Lent) → numbers_of (drawn_rules number b) ≡ 48 ∷ 20 ∷ []
  -- and the first of these rules that holds is the answer, or the lengths where none does
  pub answered : (number : ℕ) (b : Lent) → (after_drawing number b).parsed ≡ unless_refused (first_holding (drawn_rules number b)) (lengths_of (drawn_reading number))
  -- buffers of 23, 1,890 and 1,890 places always do
  pub room : (number : ℕ) → fits (drawn_reading number) 23 1890 1890 ≡ true
  -- the first draws from 1
  pub first_draws : draws 5 1 ≡ 270369 ∷ 67634689 ∷ 2647435461 ∷ 307599695 ∷ 2398689233 ∷ []
  -- 0 is refused by 48
  pub zero : drawn 0 ≡ Err ZeroNumber
  -- 50,887 draws two channels, two octaves, no one-shot, which so becomes 1, no repeat, and the rate 41,276
  pub two_sheet : flat (drawn_reading 50887).voice
      ≡ 0x01 ∷ 0x00 ∷ 0x00 ∷ 0x00 ∷ 0x01 ∷ 0x00 ∷ 0x00 ∷ 0x00 ∷ 0x00 ∷ 0x00 ∷ 0x00 ∷ 0x00 ∷ 0x00 ∷ 0xA1 ∷ 0x3C ∷ 0x02 ∷ 0x00 ∷ 0x00 ∷ 0x01 ∷ 0x00 ∷ 0x00
      ∷ 0x02 ∷ 0x06 ∷ []
  -- then 47, 22, 105 for left, and -68, -95, -81 for right; `negsuc n` is -(n + 1)
  pub two_left : (drawn_sides 50887).left ≡ pos 47 ∷ pos 22 ∷ pos 105 ∷ []
  pub two_right : (drawn_sides 50887).right ≡ negsuc 67 ∷ negsuc 94 ∷ negsuc 80 ∷ []
  -- 2,097 draws one channel, so no CHAN, one octave, no lengths either, the rate 46,922, and the one sample 88
  pub one_sheet : flat (drawn_reading 2097).voice
      ≡ 0x01 ∷ 0x00 ∷ 0x00 ∷ 0x00 ∷ 0x01 ∷ 0x00 ∷ 0x00 ∷ 0x00 ∷ 0x00 ∷ 0x00 ∷ 0x00 ∷ 0x00 ∷ 0x00 ∷ 0xB7 ∷ 0x4A ∷ 0x01 ∷ 0x00 ∷ 0x00 ∷ 0x01 ∷ 0x00 ∷ 0x00 ∷ []
  pub one_left : (drawn_sides 2097).left ≡ pos 88 ∷ []
  pub one_right : (drawn_sides 2097).right ≡ []
