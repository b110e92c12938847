-- Parts lie within what they are parts of, the octaves of a whole side are all there, and the two parts of an octave joined are the octave.
--     octave_within, side_within, one_shot_within, repeat_within         a part lies within its slice
--     octave_whole, octave_sole, octave_past, octave_short, octave_at    an octave by cases
--     octave_there                                                       an octave of a side that has all samples
--     through_pos, octave_fits, octave_exceeds                           an octave's end compared by a quotient
--     front_whole, front_short, front_at                                 a side by cases
--     side_told                                                          the part of a buffer that a side is
--     start_within, split_joined                                         the two parts of an octave
--     part_same, part_none, part_samples                                 of slices of one length, of none, and of samples
-- Assumes nothing.
use Prim.Native.Nat.{ℕ, ◌+◌, ◌-◌, ◌*◌, ◌/◌, ◌^◌, ◌≤◌, ◌<◌}
use mathlib.Core.Bool.{Bool, true, false, cond}
use mathlib.Core.List.{List, [], ◌++◌}
use mathlib.Core.Path.{◌≡◌, refl, ap, ap₂, ◌∙◌}
use native.Mathlib.Nat.{add_comm, add-zero, mul-add, le-div_iff_mul-le, div-lt_iff_lt-mul}
use native.Mathlib.Omega.{arith}
use borrow.Author.Tests.{lt-ltb, le-ltb, le-leb, lt-leb, eq-eqb, ne_eqb, leb-true, eqb-true}
use lib.Dec.{eqb, ltb, leb}
use lib.IntN.{ℤ}
use lib.ListN.{length, take, drop, length-take, length-drop, take-append-drop}
use lib.Pow.{pow_pos}
use lib.Seq.{take_all}
use Rattle.laws.proofs.Cases.{length_none}
use Rattle.field.proofs.SignedLaws.{none_fits, samples_take, samples_drop}
use Rattle.field.specs.Signed.{Samples}
use Rattle.header.specs.Octaves.{hi, octaves, in_octave, total_samples}
use Rattle.header.specs.declared.voice_header.VoiceHeader.{VoiceHeader}
use Rattle.sheet.specs.Judge.{judged, if_sound}
use Rattle.sheet.specs.Read.{read_sheet}
use Rattle.sheet.specs.Voice.{is_stereo}
use Rattle.octaves.specs.Octave.{octave_part, repeat_after, after_one_shot, repeat_start, part_before, part_from, one_shot_part, repeat_part}
use Rattle.octaves.specs.Part.{part_of, part_at}
use Rattle.octaves.specs.ForCode.{LiesWithin}
use Rattle.octaves.specs.Side.{of_side, front_part, voice_side, side_part}
use Rattle.octaves.specs.declared.part.Part.{Part}
use Rattle.octaves.specs.declared.side.Side.{Side}
use Rattle.refusal.specs.Outcome.{Outcome}
use Rattle.std.specs.Prelude.{Err, None, Ok, Option, Some, ⊤}

-- ---- parts that depend on a test

module _ (P : Option Part → Type 0) where
  -- one of two parts
  one_of : (p q : Option Part) → P p → P q → (b : Bool) → P (cond b p q)
  one_of p q first second true = first
  one_of p q first second false = second

  -- a part that is there if a length is within the places
  if_fits : (a n : ℕ) (p : Option Part) → (a ≤ n → P p) → P None → P (cond (leb a n) p None)
  if_fits a n p inside absent = by (leb a n) refl
    where
      by : (b : Bool) → leb a n ≡ b → P (cond b p None)
      by true e = inside (leb-true a n e)
      by false e = absent

-- ---- an octave of a side

module _ (h : VoiceHeader) (n k : ℕ) where
  -- where hi = 0, octave 0 is all, and there is no other
  pub octave_whole : hi h ≡ 0 → k ≡ 0 → octave_part h n k ≡ Some (record { start = 0; length = n })
  unfolding octave_part
  octave_whole z e = rw (eq-eqb (hi h) 0 z, eq-eqb k 0 e)

  pub octave_sole : hi h ≡ 0 → (k ≡ 0 → ⊥) → octave_part h n k ≡ None
  unfolding octave_part
  octave_sole z e = rw (eq-eqb (hi h) 0 z, ne_eqb k 0 e)

  module _ (some : hi h ≡ 0 → ⊥) where
    pub octave_past : octaves h ≤ k → octave_part h n k ≡ None
    unfolding octave_part
    octave_past l = rw (ne_eqb (hi h) 0 some, le-ltb k (octaves h) l)

    pub octave_short : n < hi h * (2 ^ k - 1) + hi h * 2 ^ k → octave_part h n k ≡ None
    unfolding octave_part
    octave_short l = rw (ne_eqb (hi h) 0 some, lt-leb (hi h * (2 ^ k - 1) + hi h * 2 ^ k) n l) (neither (ltb k (octaves h)))
      where
        neither : (b : Bool) → ◌≡◌ {A = (Option Part)} (cond b None None) None
        neither true = refl
        neither false = refl

    pub octave_at : k < octaves h → hi h * (2 ^ k - 1) + hi h * 2 ^ k ≤ n → octave_part h n k ≡ Some (record { start = hi h * (2 ^ k - 1); length = hi h * 2 ^ k })
    unfolding octave_part
    octave_at l r = rw (ne_eqb (hi h) 0 some, lt-ltb k (octaves h) l, le-leb (hi h * (2 ^ k - 1) + hi h * 2 ^ k) n r)

  pub octave_within : LiesWithin (octave_part h n k) n
  unfolding octave_part
  octave_within =
      let within : Option Part → Type 0 = λ p. LiesWithin p n in
      let part = Some (record { start = hi h * (2 ^ k - 1); length = hi h * 2 ^ k }) in
      let end = hi h * (2 ^ k - 1) + hi h * 2 ^ k in
      one_of within (cond (eqb k 0) (Some (record { start = 0; length = n })) None) (cond (ltb k (octaves h)) (cond (leb end n) part None) None)
      (one_of within (Some (record { start = 0; length = n })) None (omega arith) tt (eqb k 0))
      (one_of within (cond (leb end n) part None) None (if_fits within end n part (λ l. l) tt) tt (ltb k (octaves h)))
      (eqb (hi h) 0)

-- m is hi and l is 2 ^ k: m is compared with what the other factor of the end leaves room for
module _ (h : VoiceHeader) (n k m l : ℕ) (first : m ≡ hi h) (second : l ≡ 2 ^ k) where
  pub through_pos : 0 < l + (l - 1)
  through_pos = omega (arith, pow_pos k, second)

  end_is : m * (l + (l - 1)) ≡ hi h * (2 ^ k - 1) + hi h * 2 ^ k
  end_is = ap₂ (λ (x y : ℕ). x * (y + (y - 1))) first second ∙ mul-add (hi h) (2 ^ k) (2 ^ k - 1) ∙ add_comm (hi h * 2 ^ k) (hi h * (2 ^ k - 1))

  pub octave_fits : m ≤ n / (l + (l - 1)) → hi h * (2 ^ k - 1) + hi h * 2 ^ k ≤ n
  octave_fits r = omega (arith, (le-div_iff_mul-le {y = n} through_pos).0 r, end_is)

  pub octave_exceeds : n / (l + (l - 1)) < m → n < hi h * (2 ^ k - 1) + hi h * 2 ^ k
  octave_exceeds r = omega (arith, (div-lt_iff_lt-mul {x = n} through_pos).0 r, end_is)

-- ---- a side of its buffer

module _ (h : VoiceHeader) (n : ℕ) where
  pub front_whole : hi h ≡ 0 → front_part h n ≡ Some (record { start = 0; length = n })
  front_whole z = rw (eq-eqb (hi h) 0 z)

  pub front_short : (hi h ≡ 0 → ⊥) → n < total_samples h → front_part h n ≡ None
  front_short some l = rw (ne_eqb (hi h) 0 some, lt-leb (total_samples h) n l)

  pub front_at : (hi h ≡ 0 → ⊥) → total_samples h ≤ n → front_part h n ≡ Some (record { start = 0; length = total_samples h })
  front_at some l = rw (ne_eqb (hi h) 0 some, le-leb (total_samples h) n l)

-- what holds of a part at the front holds of a side
module _ (P : Option Part → Type 0) (n : ℕ) (absent : P None) (front : (m : ℕ) → m ≤ n → P (Some (record { start = 0; length = m }))) where
  front_part_lem : (h : VoiceHeader) → P (front_part h n)
  front_part_lem h =
      one_of P (Some (record { start = 0; length = n })) (cond (leb (total_samples h) n) (Some (record { start = 0; length = total_samples h })) None)
      (front n (omega arith))
      (if_fits P (total_samples h) n (Some (record { start = 0; length = total_samples h })) (front (total_samples h)) absent)
      (eqb (hi h) 0)

  side_part_lem : (sheet : List ℕ) (side : Side) → P (side_part sheet side n)
  side_part_lem sheet side = by (judged sheet)
    where
      by : (j : Outcome ⊤) → P (if_sound j (λ refusal. None) (voice_side (read_sheet sheet) side n))
      by (Ok tt) =
          let v = read_sheet sheet in
          one_of P (front_part v.header n) None (front_part_lem v.header) absent (of_side side true (is_stereo v.channel))
      by (Err refusal) = absent

pub side_within : (sheet : List ℕ) (side : Side) (n : ℕ) → LiesWithin (side_part sheet side n) n
side_within sheet side n = side_part_lem (λ p. LiesWithin p n) n tt (λ m l. omega arith) sheet side

-- it begins where its buffer begins
side_place : (sheet : List ℕ) (side : Side) (n : ℕ) (p : ℕ × ℕ) → part_at (side_part sheet side n) p ≡ p
side_place sheet side n p = side_part_lem (λ x. part_at x p ≡ p) n refl (λ m l. ap (λ (k : ℕ). (p.0, k)) (add-zero p.1)) sheet side

-- the samples ys at q that such a part of the buffer xs at p has
pub side_told : (sheet : List ℕ) (side : Side) (xs ys : List ℤ) (p q : ℕ × ℕ) (part : Option Part) → part ≡ side_part sheet side (length xs)
    → (ys ≡ part_of part xs) × (q ≡ part_at part p) → (ys ≡ part_of (side_part sheet side (length xs)) xs) × (q ≡ p)
side_told sheet side xs ys p q part e has =
    (has.0 ∙ ap (λ (x : Option Part). part_of x xs) e, has.1 ∙ ap (λ (x : Option Part). part_at x p) e ∙ side_place sheet side (length xs) p)

-- ---- the two parts of an octave

split_within : (o r : Option ℕ) (n a : ℕ) → after_one_shot o (repeat_after r n) ≡ Some a → a ≤ n
split_within None r n a e = let z : ◌≡◌ {A = ℕ} 0 1 = cc in absurd (omega arith)
split_within (Some x) None n a e = let z : ◌≡◌ {A = ℕ} 0 1 = cc in absurd (omega arith)
split_within (Some x) (Some y) n a e = by (eqb (x + y) n) refl e
  where
    by : (b : Bool) → eqb (x + y) n ≡ b → cond b (Some x) None ≡ Some a → a ≤ n
    by true t q = let same : x ≡ a = cc in omega (arith, eqb-true (x + y) n t)
    by false t q = let z : ◌≡◌ {A = ℕ} 0 1 = cc in absurd (omega arith)

module _ (h : VoiceHeader) (n k : ℕ) where
  pub start_within : (a : ℕ) → repeat_start h n k ≡ Some a → a ≤ n
  start_within a e = split_within (in_octave h h.one_shot_hi_samples k) (in_octave h h.repeat_hi_samples k) n a e

  before_within : (s : Option ℕ) → ((a : ℕ) → s ≡ Some a → a ≤ n) → LiesWithin (part_before s) n
  before_within (Some a) l = omega (arith, l a refl)
  before_within None l = tt

  from_within : (s : Option ℕ) → ((a : ℕ) → s ≡ Some a → a ≤ n) → LiesWithin (part_from s n) n
  from_within (Some a) l = omega (arith, l a refl)
  from_within None l = tt

  pub one_shot_within : LiesWithin (one_shot_part h n k) n
  one_shot_within = before_within (repeat_start h n k) start_within

  pub repeat_within : LiesWithin (repeat_part h n k) n
  repeat_within = from_within (repeat_start h n k) start_within

pub split_joined : (h : VoiceHeader) (xs : List ℤ) (k a : ℕ) → repeat_start h (length xs) k ≡ Some a → part_of (one_shot_part h (length xs) k) xs ++ part_of (repeat_part h (length xs) k) xs ≡ xs
split_joined h xs k a e =
    ap (λ (s : Option ℕ). part_of (part_before s) xs ++ part_of (part_from s (length xs)) xs) e
    ∙ ap (λ (l : List ℤ). take a xs ++ l) (take_all (length xs - a) (drop a xs) (omega (arith, length-drop a xs)))
    ∙ take-append-drop a xs

-- ---- a part by its slice

module _ (p : Option Part) where
  pub part_same : (xs ys : List ℤ) → length xs ≡ length ys → length (part_of p xs) ≡ length (part_of p ys)
  part_same xs ys e = go p
    where
      go : (p : Option Part) → length (part_of p xs) ≡ length (part_of p ys)
      go (Some it) = omega (arith, length-take it.length (drop it.start xs), length-drop it.start xs, length-take it.length (drop it.start ys), length-drop it.start ys)
      go None = refl

  pub part_none : (xs : List ℤ) → length xs ≡ 0 → part_of p xs ≡ []
  part_none xs e = length_none (part_of p xs) (go p)
    where
      go : (p : Option Part) → length (part_of p xs) ≡ 0
      go (Some it) = omega (arith, length-take it.length (drop it.start xs), length-drop it.start xs)
      go None = refl

  pub part_samples : (xs : List ℤ) → Samples xs → Samples (part_of p xs)
  part_samples xs h = go p
    where
      go : (p : Option Part) → Samples (part_of p xs)
      go (Some it) = samples_take it.length (drop it.start xs) (samples_drop it.start xs h)
      go None = λ i. none_fits
