-- What is promised of difference order holds.
-- Assumes nothing.
use mathlib.Core.Bool.{false, not}
use mathlib.Core.List.{List, []}
use mathlib.Core.Path.{◌≡◌, refl, sym, ap, ◌∙◌}
use lib.IntN.{ℤ}
use lib.ListN.{length}
use borrow.Author.Tests.{lt-leb, eq-eqb}
use Prim.Native.Nat.{ℕ, ◌-◌, ◌*◌, ◌^◌}
use native.Mathlib.Nat.{zero-mul}
use native.Mathlib.Omega.{arith}
use Rattle.laws.specs.Turns.{evens, odds}
use Rattle.refusal.specs.Rules.{first_holding}
use Rattle.refusal.proofs.RuleLaws.{first_later, first_none, answered_by}
use Rattle.field.specs.Signed.{twos_complement, Samples}
use Rattle.field.specs.Wrap.{residue, to_sample}
use Rattle.header.specs.Octaves.{hi, octaves, total_samples}
use Rattle.header.specs.declared.voice_header.VoiceHeader.{VoiceHeader}
use Rattle.body_read.specs.Sides.{lengths_suit}
use Rattle.octaves.specs.Octave.{octave_part, octave_of}
use Rattle.vault.specs.DifferenceOrder.{less_before, differences, octave_order, octave_restored, first_octaves, each_octave, channel_rules, by_octave, difference_order}
use Rattle.vault.specs.Promise.{Promise}
use Rattle.vault.proofs.BackLaws.{restored_order, ordered_restore, order_length, restored_length}
use Rattle.vault.proofs.ChannelLaws.{sole_each}
use Rattle.vault.proofs.JudgeLaws.{by_gives, given_none, given_is, none_suits, each_long, each_wise, each_undone}
use Rattle.std.specs.Prelude.{Ok}

-- ---- there and back

-- what g undoes of f, a channel through f and then through g
module _ (f g : List ℤ → List ℤ) (same : (l : List ℤ) → length (f l) ≡ length l) (undoes : (l : List ℤ) → Samples l → g (f l) ≡ l) (h : VoiceHeader) (channel out : List ℤ) (fits : Samples channel)
    (e : by_octave f h channel ≡ Ok out) where
  none : first_holding (channel_rules h (length channel)) ≡ Ok tt
  none = given_none f h channel out e

  long : length out ≡ length channel
  long = sym (ap length (given_is f h channel out e)) ∙ each_long f same h channel (none_suits h (length channel) none)

  back : by_octave g h out ≡ Ok channel
  back =
      by_gives g h out (ap (λ (n : ℕ). first_holding (channel_rules h n)) long ∙ none)
      ∙ ap Ok (ap (each_octave g h) (sym (given_is f h channel out e)) ∙ each_undone f same h channel (none_suits h (length channel) none) g undoes fits)

octave_none : octave_order [] ≡ []
unfolding octave_order differences evens odds
octave_none = refl

module _ (h : VoiceHeader) (samples values : List ℤ) (e : difference_order h samples ≡ Ok values) where
  as_long : length values ≡ length samples
  as_long = sym (ap length (given_is octave_order h samples values e)) ∙ each_long octave_order order_length h samples (none_suits h (length samples) (given_none octave_order h samples values e))

  octave_wise : (k : ℕ) → octave_of h k values ≡ octave_order (octave_of h k samples)
  octave_wise k =
      ap (octave_of h k) (sym (given_is octave_order h samples values e))
      ∙ each_wise octave_order order_length h samples (none_suits h (length samples) (given_none octave_order h samples values e)) octave_none k

-- ---- hi = 0

sole : (h : VoiceHeader) (samples : List ℤ) → hi h ≡ 0 → difference_order h samples ≡ Ok (octave_order samples)
unfolding total_samples lengths_suit
sole h samples z =
    let total : total_samples h ≡ 0 = ap (λ (n : ℕ). n * (2 ^ octaves h - 1)) z ∙ zero-mul (2 ^ octaves h - 1) in
    let counted = first_later _ _ (lt-leb (2 ^ 64) (total_samples h) (omega arith)) in
    let suited : not (lengths_suit h false (length samples) 0) ≡ false = rw (eq-eqb (hi h) 0 z) in
    let suits = first_later _ _ suited in
    by_gives octave_order h samples (counted ∙ suits ∙ first_none) ∙ ap Ok (sole_each octave_order h samples z)

-- ---- the promise

pub promise : Promise
unfolding octave_order differences less_before evens odds to_sample residue twos_complement by_octave first_octaves octave_part total_samples lengths_suit first_holding
promise = record {
  restored = λ h samples values fits e. back octave_order octave_restored order_length restored_order h samples values fits e;
  ordered = λ h values samples fits e. back octave_restored octave_order restored_length ordered_restore h values samples fits e;
  apart = λ h a b values f g p q.
      let x = back octave_order octave_restored order_length restored_order h a values f p in
      let y = back octave_order octave_restored order_length restored_order h b values g q in
      let same : Ok a ≡ Ok b = sym x ∙ y in cc;
  as_long = as_long;
  octave_wise = λ h samples values k e. octave_wise h samples values e k;
  sole = sole;
  order = λ h f channel places. refl;
  answered = λ h f channel places. answered_by (channel_rules h (length channel)) (each_octave f h channel) places;
  none = refl;
  one = λ x. refl;
  wraps = refl;
  squares = refl;
  two_octaves = refl;
  no_octaves = refl;
  many_octaves = refl;
  too_large = refl;
  unsuited = refl;
}
