-- The sums of a stretch, entry by entry, and held.
--     Summed                                       what the sums are once some entries are added, and how large
--     summed_none, summed_more, summed_held        before any entry, one more, and held
--     summed_length                                how many there are
--     Added                                        the entries of a score up to a place are added
--     added_start, added_more, added_held          before any entry, one more, and all of them, held: the mixed frames
--     entry_ready                                  what the next entry asks
-- Assumes nothing.
use Prim.Native.Nat.{ℕ, ◌+◌, ◌*◌, ◌/◌, ◌≤◌, ◌<◌, ◌^◌}
use mathlib.Core.List.{List, [], ◌∷◌, ◌++◌, map, map-append}
use mathlib.Core.Path.{◌≡◌, sym, ap, subst, ◌∙◌}
use native.Mathlib.Omega.{arith}
use lib.IntN.{ℤ, pos}
use lib.ListN.{length, take, get_or, replicate, length-append, length-take}
use lib.Seq.{take_all}
use Rattle.sheet.specs.Read.{read_sheet}
use Rattle.sheet.specs.Voice.{Voice}
use Rattle.sheet_layout.specs.declared.Layout.{Layout}
use Rattle.body_read.specs.Sides.{Sides}
use Rattle.note_frame.specs.Frames.{frames_from, interleaved}
use Rattle.note_frame.specs.declared.chain.Frame.{Frame}
use Rattle.note_frame.proofs.FramesLaws.{frames_same, frames_silent, interleaved_frames, interleaved_silent}
use Rattle.ensemble_score.specs.declared.Entry.{Entry}
use Rattle.ensemble_rules.proofs.RuleLaws.{blank}
use Rattle.ensemble_sums.specs.Sums.{held_to16, plus, Within}
use Rattle.ensemble_sums.proofs.SumLaws.{within_more, within_zeros}
use Rattle.ensemble_block.specs.Mixed.{entry_frame, together, all_together, held_frame, mixed_frame}
use Rattle.ensemble_block.specs.Stretch.{Calm, GoodEntry, StretchReady, EntryReady}
use Rattle.ensemble_block.proofs.MixedLaws.{none_together, last_together, mixed_is, held_frames, plus_frames}
use Rattle.ensemble_block.proofs.StretchLaws.{all_at}
use Rattle.std.proofs.lemmas.List.{take_more}

-- the frames of some entries, added up
abbrev sum_of : Voice → Sides → ℕ → List Entry → ℕ → Frame
sum_of v s rate es m = all_together (map (entry_frame v s rate m) es)

-- d sums of the frames of some entries, from mixed frame `at` on; none is larger than 32,768 for each entry
pub record Summed (v : Voice) (s : Sides) (rate at d : ℕ) (es : List Entry) (sums : List ℤ) : Type 0 where
  pub sums_are : sums ≡ interleaved (frames_from (sum_of v s rate es) at d)
  pub small : Within (32768 * length es) sums

module _ (v : Voice) (s : Sides) (rate at d : ℕ) where
  pub summed_none : (n : ℕ) (sums : List ℤ) → sums ≡ replicate n (pos 0) → n ≡ 2 * d → Summed v s rate at d [] sums
  summed_none n sums zeros twice =
      let none = frames_silent (sum_of v s rate []) at d (λ j a b. none_together) in
      record {
        sums_are = zeros ∙ ap (λ (k : ℕ). replicate k (pos 0)) twice ∙ sym (ap interleaved none ∙ interleaved_silent d);
        small = rw zeros (within_zeros (32768 * 0) n);
      }

  pub summed_length : (es : List Entry) (sums : List ℤ) → Summed v s rate at d es sums → length sums ≡ 2 * d
  summed_length es sums g = ap length g.sums_are ∙ interleaved_frames (sum_of v s rate es) at d

  pub summed_more : (e : Entry) (es : List Entry) (sums sums' : List ℤ) → sums' ≡ plus (interleaved (frames_from (λ m. entry_frame v s rate m e) at d)) sums
      → ((b : ℕ) → Within b sums → Within (b + 32768) sums') → Summed v s rate at d es sums → Summed v s rate at d (es ++ (e ∷ [])) sums'
  summed_more e es sums sums' is grows g =
      let one : ℕ → Frame = λ m. entry_frame v s rate m e in
      let rest : ℕ → Frame = sum_of v s rate es in
      let added : (j : ℕ) → together (one j) (rest j) ≡ sum_of v s rate (es ++ (e ∷ [])) j =
      λ j. sym (ap all_together (map-append (entry_frame v s rate j) es (e ∷ [])) ∙ last_together (map (entry_frame v s rate j) es) (one j))
      in
      let both = frames_same (λ m. together (one m) (rest m)) (sum_of v s rate (es ++ (e ∷ []))) at d (λ j a b. added j) in
      let bound : 32768 * length es + 32768 ≡ 32768 * length (es ++ (e ∷ [])) = omega (arith, length-append es (e ∷ [])) in
      record {
        sums_are = is ∙ ap (plus (interleaved (frames_from one at d))) g.sums_are ∙ plus_frames one rest at d ∙ ap interleaved both;
        small = subst (λ (b : ℕ). Within b sums') bound (grows (32768 * length es) g.small);
      }

  pub summed_held : (es : List Entry) (sums : List ℤ) → at + d ≤ 4294967295 → Summed v s rate at d es sums → map held_to16 sums ≡ interleaved (frames_from (mixed_frame v s rate es) at d)
  summed_held es sums in_time g =
      let all = sum_of v s rate es in
      let mixed = frames_same (λ m. held_frame (all m)) (mixed_frame v s rate es) at d (λ j a b. sym (mixed_is v s rate es j (omega arith))) in
      ap (map held_to16) g.sums_are ∙ held_frames all at d ∙ ap interleaved mixed

-- the entries of a score up to i are added
module _ (score : List Entry) (rate at : ℕ) (sheet : List ℕ) (l : Layout) (left right sums₀ out₀ : List ℤ) (ready : StretchReady score rate at sheet l left right sums₀ out₀) where
  -- the sides
  abbrev sides : Sides
  sides = record { left = left; right = right }

  abbrev pub Added : ℕ → List ℤ → Type 0
  Added i sums = Summed (read_sheet sheet) sides rate at (length out₀ / 2) (take i score) sums

  pub added_start : Added 0 sums₀
  added_start = summed_none (read_sheet sheet) sides rate at (length out₀ / 2) (length out₀) sums₀ ready.none_yet (omega (arith, ready.even))

  pub added_held : (i : ℕ) (sums : List ℤ) → length score ≤ i → Added i sums → map held_to16 sums ≡ interleaved (frames_from (mixed_frame (read_sheet sheet) sides rate score) at (length out₀ / 2))
  added_held i sums end g = summed_held (read_sheet sheet) sides rate at (length out₀ / 2) score sums ready.in_time (rw (take_all i score end) at g)

  module _ (i : ℕ) (there : i < length score) where
    -- the entry at the place
    abbrev entry : Entry
    entry = get_or score i blank

    -- what it asks
    pub entry_ready : (sums out : List ℤ) → length score ≤ 16 → length out ≡ length out₀ → Added i sums → EntryReady entry rate at sheet l left right sums out
    entry_ready sums out small same g =
        let m = ready.mixable in
        let good = all_at (GoodEntry (read_sheet sheet) rate) score i blank m.entries_good there in
        let calm = all_at (Calm at (at + length out₀ / 2)) score i blank ready.calm there in
        let many = summed_length (read_sheet sheet) sides rate at (length out₀ / 2) (take i score) sums g in
        let few : 32768 * length (take i score) ≤ 2 ^ 30 = omega (arith, length-take i score) in
        record {
          sound = m.sound;
          layout_is = m.layout_is;
          voice_good = m.voice_good;
          sequence_good = m.sequence_good;
          good = good;
          calm = rw same calm;
          in_time = rw same ready.in_time;
          even = rw same ready.even;
          as_many = omega (arith, ready.even);
          small = within_more (32768 * length (take i score)) (2 ^ 30) sums few g.small;
        }

    pub added_more : (sums sums' out : List ℤ) → length out ≡ length out₀
        → sums' ≡ plus (interleaved (frames_from (λ m. entry_frame (read_sheet sheet) sides rate m entry) at (length out / 2))) sums
        → ((b : ℕ) → Within b sums → Within (b + 32768) sums') → Added i sums → Added (i + 1) sums'
    added_more sums sums' out same sum grows g =
        rw (take_more score i blank there) (summed_more (read_sheet sheet) sides rate at (length out₀ / 2) entry (take i score) sums sums' (rw same at sum) grows g)
