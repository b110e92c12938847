-- `wave::write::write_wave` meets its contract: the parts of the file are stored one after another, and there is room for all.
use Prim.Native.Nat.{ℕ, ◌-◌, ◌*◌, ◌≤◌}
use mathlib.Core.Bool.{Bool, true}
use mathlib.Core.List.{List}
use mathlib.Core.Path.{◌≡◌, sym, ap, ap₂, ◌∙◌}
use native.Mathlib.Omega.{arith}
use lib.IntN.{ℤ}
use lib.ListN.{length}
use Rattle.laws.proofs.PutLaws.{put_front, put_end, put_same}
use Rattle.refusal.proofs.OutcomeLaws.{outcome_fits}
use Rattle.header.specs.declared.voice_header.VoiceHeader.{VoiceHeader}
use Rattle.body_read.specs.Sides.{Sides}
use Rattle.octaves.specs.Octave.{octave_part}
use Rattle.octaves.specs.Part.{part_of}
use Rattle.sheet.specs.Read.{read_sheet}
use Rattle.sheet.specs.Voice.{Voice}
use Rattle.wave.specs.Helpers.{held_for}
use Rattle.wave.specs.Wave.{channels_of, values_of, octave_file, octave_wave_of}
use Rattle.wave.proofs.FileLaws.{value_count, writes, file_put, values_by, front_by}
use Rattle.wave.proofs.RiffLaws.{front_length}
use Rattle.wave.proofs.ValueLaws.{values_length, count_bounds}
use Rattle.wave.proofs.WaveLaws.{stereo, lefts, rights}
use Rattle.wave.proofs.write.write_wave.Goals as goal

-- what was taken out of the sheet and the sides, by the header that was read: whether there are two channels, and the octave of each side
module _ (v : Voice) (s : Sides) (k : ℕ) (h : VoiceHeader) (two : Bool) (l r : List ℤ) (header_is : h ≡ v.header) (two_is : two ≡ stereo v s k)
    (left_is : l ≡ part_of (octave_part h (length s.left) k) s.left) (right_is : r ≡ part_of (octave_part h (length s.right) k) s.right) where
  lefts_are : l ≡ lefts v s k
  lefts_are = left_is ∙ ap (λ h. part_of (octave_part h (length s.left) k) s.left) header_is

  rights_are : r ≡ rights v s k
  rights_are = right_is ∙ ap (λ h. part_of (octave_part h (length s.right) k) s.right) header_is

  -- the values that were counted
  counted : (n : ℕ) → n ≡ channels_of two * length l → n ≡ value_count v s k
  counted n e = e ∙ ap₂ (λ two xs. channels_of two * length xs) two_is lefts_are

  -- the values are the octave's
  values_are : values_of two l r ≡ values_of (stereo v s k) (lefts v s k) (rights v s k)
  values_are = values_by two_is lefts_are rights_are

  module _ (same : stereo v s k ≡ true → length (lefts v s k) ≡ length (rights v s k)) where
    sides_same : two ≡ true → length l ≡ length r
    sides_same e = ap length lefts_are ∙ same (sym two_is ∙ e) ∙ sym (ap length rights_are)

    long : length (values_of two l r) ≡ value_count v s k
    long = ap length values_are ∙ values_length (stereo v s k) (lefts v s k) (rights v s k) same

pub values_length-values-requires : goal.values_length-values-requires
values_length-values-requires c =
    let a = c.args in
    let v = read_sheet a.sheet.now in
    let s : Sides = record { left = a.left.now; right = a.right.now } in
    let f = writes a.sheet.now s a.k a.n (length a.file.now) c.requires in
    let n = length (lefts v s a.k) in
    let taken = lefts_are v s a.k _ _ _ _ c.sheet_header-h.ensures c.sheet_stereo-stereo.ensures c.octave-lefts.ensures.contents c.octave-rights.ensures.contents in
    omega (arith, f.fits, (count_bounds (stereo v s a.k) n).0, ap length taken)

pub overflow_sub-held : goal.overflow_sub-held
overflow_sub-held c =
    let a = c.args in
    let s : Sides = record { left = a.left.now; right = a.right.now } in
    let f = writes a.sheet.now s a.k a.n (length a.file.now) c.requires in
    omega (arith, f.held)

pub overflow_cast-held : goal.overflow_cast-held
overflow_cast-held c =
    let a = c.args in
    let s : Sides = record { left = a.left.now; right = a.right.now } in
    let f = writes a.sheet.now s a.k a.n (length a.file.now) c.requires in
    record { fits = omega (arith, f.held, f.fits) }

pub overflow_cast-values : goal.overflow_cast-values
overflow_cast-values c =
    let a = c.args in
    let v = read_sheet a.sheet.now in
    let s : Sides = record { left = a.left.now; right = a.right.now } in
    let f = writes a.sheet.now s a.k a.n (length a.file.now) c.requires in
    let count =
    counted v s a.k _ _ _ _ c.sheet_header-h.ensures c.sheet_stereo-stereo.ensures c.octave-lefts.ensures.contents c.octave-rights.ensures.contents
    _ c.values_length-values.ensures
    in
    record { fits = omega (arith, f.fits, count) }

-- the front ends at 44
pub put_values-end-requires : goal.put_values-end-requires
put_values-end-requires c =
    let a = c.args in
    let v = read_sheet a.sheet.now in
    let s : Sides = record { left = a.left.now; right = a.right.now } in
    let f = writes a.sheet.now s a.k a.n (length a.file.now) c.requires in
    let two = c.sheet_stereo-stereo.result in
    let l = c.octave-lefts.result.now in
    let r = c.octave-rights.result.now in
    let header_is = c.sheet_header-h.ensures in
    let two_is = c.sheet_stereo-stereo.ensures in
    let left_is = c.octave-lefts.ensures.contents in
    let right_is = c.octave-rights.ensures.contents in
    let front_end : c.put_front-begun.result ≡ 44 = put_end (front_length _ _ _ _) c.put_front-begun.ensures in (
      sides_same v s a.k _ two l r header_is two_is left_is right_is f.same,
      omega (arith, front_end, long v s a.k _ two l r header_is two_is left_is right_is f.same, f.held, f.room, c.put_front-begun.auto.d),
    )

pub put_pad-requires : goal.put_pad-requires
put_pad-requires c =
    let a = c.args in
    let v = read_sheet a.sheet.now in
    let s : Sides = record { left = a.left.now; right = a.right.now } in
    let f = writes a.sheet.now s a.k a.n (length a.file.now) c.requires in
    let as_long =
    long v s a.k _ _ _ _ c.sheet_header-h.ensures c.sheet_stereo-stereo.ensures c.octave-lefts.ensures.contents c.octave-rights.ensures.contents f.same
    in
    let front_end : c.put_front-begun.result ≡ 44 = put_end (front_length _ _ _ _) c.put_front-begun.ensures in
    omega (arith, c.put_values-end.ensures.end, front_end, as_long, f.fits)

pub returns : goal.returns
returns c =
    let a = c.args in
    let v = read_sheet a.sheet.now in
    let s : Sides = record { left = a.left.now; right = a.right.now } in
    let k = a.k in
    let f = writes a.sheet.now s k a.n (length a.file.now) c.requires in
    let file = octave_file v s k in
    let two = c.sheet_stereo-stereo.result in
    let l = c.octave-lefts.result.now in
    let r = c.octave-rights.result.now in
    let header_is = c.sheet_header-h.ensures in
    let two_is = c.sheet_stereo-stereo.ensures in
    let left_is = c.octave-lefts.ensures.contents in
    let right_is = c.octave-rights.ensures.contents in
    let n = c.values_length-values.result in
    let count = counted v s k _ two l r header_is two_is left_is right_is n c.values_length-values.ensures in
    let values_same = values_are v s k _ two l r header_is two_is left_is right_is in
    let as_long = long v s k _ two l r header_is two_is left_is right_is f.same in
    -- what was stored before the values is the front
    let channels = c.channel_count.ensures ∙ ap channels_of two_is in
    let rate = ap (λ h. h.samples_per_sec) header_is in
    let held : a.n - 8 ≡ held_for (value_count v s k) = omega (arith, f.held) in
    let front = put_same (front_by n channels rate (held ∙ sym (ap held_for count))) c.put_front-begun.ensures in
    let values = put_same values_same c.put_values-end.ensures in
    let all = file_put v s k n (count ∙ sym as_long ∙ ap length values_same) front values c.put_pad.ensures in
    let fits : length file ≤ length a.file.now = omega (arith, f.long, f.room) in
    (outcome_fits (octave_wave_of a.sheet.now s k) a.file.now file f.is a.n f.long _ f.room (put_front fits all)).1
