-- What the rules make of a channel: it is refused by the first that holds, or goes octave by octave through f.
--     by_refused, by_gives     by the first rule that holds
--     given_none, given_is     the other way, of a channel that was not refused
--     none_suits               where no rule holds the length suits the header
--     each_long, each_wise, each_undone     what then is put out
-- Assumes nothing.
use Prim.Native.Nat.{ℕ, ◌≤◌}
use mathlib.Core.Bool.{Bool, true, false}
use mathlib.Core.List.{List, []}
use mathlib.Core.Path.{◌≡◌, refl, sym, ap, ◌∙◌}
use borrow.Author.Tests.{eqb-true, eqb-false, ltb-true, ltb-false, not-false}
use lib.Dec.{eqb, ltb}
use lib.IntN.{ℤ}
use lib.ListN.{length}
use Rattle.refusal.specs.Rules.{first_holding}
use Rattle.refusal.proofs.RuleLaws.{none_holds, none_back}
use Rattle.field.specs.Signed.{Samples}
use Rattle.header.specs.Octaves.{hi, octaves}
use Rattle.header.specs.declared.voice_header.VoiceHeader.{VoiceHeader}
use Rattle.body_read.specs.Sides.{lengths_suit}
use Rattle.octaves.specs.Octave.{octave_of}
use Rattle.octaves.specs.Part.{part_of}
use Rattle.octaves.specs.declared.part.Part.{Part}
use Rattle.octaves.proofs.PartLaws.{octave_sole, octave_past}
use Rattle.vault.specs.DifferenceOrder.{each_octave, channel_rules, by_octave}
use Rattle.vault.proofs.ChannelLaws.{sole_octave, sole_each, suited_all, each_length, each_octave_lem, each_back}
use Rattle.refusal.specs.declared.Refusal.{Refusal}
use Rattle.std.specs.Prelude.{Err, Ok, Option}

-- ---- by the rules

module _ (f : List ℤ → List ℤ) (h : VoiceHeader) (channel : List ℤ) where
  pub by_refused : (refusal : Refusal) → first_holding (channel_rules h (length channel)) ≡ Err refusal → by_octave f h channel ≡ Err refusal
  unfolding by_octave
  by_refused refusal e = rw e

  pub by_gives : first_holding (channel_rules h (length channel)) ≡ Ok tt → by_octave f h channel ≡ Ok (each_octave f h channel)
  unfolding by_octave
  by_gives e = rw e

  pub given_none : (xs : List ℤ) → by_octave f h channel ≡ Ok xs → first_holding (channel_rules h (length channel)) ≡ Ok tt
  unfolding by_octave
  given_none xs e = none_back (first_holding (channel_rules h (length channel))) (each_octave f h channel) xs e

  pub given_is : (xs : List ℤ) → by_octave f h channel ≡ Ok xs → each_octave f h channel ≡ xs
  given_is xs e = let same : Ok (each_octave f h channel) ≡ Ok xs = sym (by_gives (given_none xs e)) ∙ e in cc

pub none_suits : (h : VoiceHeader) (n : ℕ) → first_holding (channel_rules h n) ≡ Ok tt → lengths_suit h false n 0 ≡ true
none_suits h n none = not-false (lengths_suit h false n 0) (none_holds (channel_rules h n) none).1.0

-- ---- what is put out, by whether hi = 0

by_hi : {P : Type 0} (h : VoiceHeader) → (hi h ≡ 0 → P) → ((hi h ≡ 0 → ⊥) → P) → P
by_hi {P} h zero some = go (eqb (hi h) 0) refl
  where
    go : (t : Bool) → eqb (hi h) 0 ≡ t → P
    go true e = zero (eqb-true (hi h) 0 e)
    go false e = some (eqb-false (hi h) 0 e)

module _ (f : List ℤ → List ℤ) (same : (l : List ℤ) → length (f l) ≡ length l) (h : VoiceHeader) (channel : List ℤ) (suits : lengths_suit h false (length channel) 0 ≡ true) where
  pub each_long : length (each_octave f h channel) ≡ length channel
  each_long = by_hi h (λ z. ap length (sole_each f h channel z) ∙ same channel) (λ some. each_length f same h some channel (suited_all h (length channel) suits some))

  -- octave k of it is octave k put through f; an octave that isn't there has no samples
  module _ (none : f [] ≡ []) (k : ℕ) where
    absent : (p : (l : List ℤ) → octave_of h k l ≡ []) → octave_of h k (each_octave f h channel) ≡ f (octave_of h k channel)
    absent p = p (each_octave f h channel) ∙ sym (ap f (p channel) ∙ none)

    sole : hi h ≡ 0 → (k ≡ 0 → ⊥) → (l : List ℤ) → octave_of h k l ≡ []
    sole z e l = ap (λ (p : Option Part). part_of p l) (octave_sole h (length l) k z e)

    past : (hi h ≡ 0 → ⊥) → octaves h ≤ k → (l : List ℤ) → octave_of h k l ≡ []
    past some p l = ap (λ (p : Option Part). part_of p l) (octave_past h (length l) k some p)

    where_zero : hi h ≡ 0 → octave_of h k (each_octave f h channel) ≡ f (octave_of h k channel)
    where_zero z = go (eqb k 0) refl
      where
        go : (t : Bool) → eqb k 0 ≡ t → octave_of h k (each_octave f h channel) ≡ f (octave_of h k channel)
        go true e = rw (eqb-true k 0 e, sole_octave f h (each_octave f h channel) z, sole_octave f h channel z) (sole_each f h channel z)
        go false e = absent (sole z (eqb-false k 0 e))

    where_some : (hi h ≡ 0 → ⊥) → octave_of h k (each_octave f h channel) ≡ f (octave_of h k channel)
    where_some some = go (ltb k (octaves h)) refl
      where
        go : (t : Bool) → ltb k (octaves h) ≡ t → octave_of h k (each_octave f h channel) ≡ f (octave_of h k channel)
        go true e = each_octave_lem f same h some channel (suited_all h (length channel) suits some) k (ltb-true k (octaves h) e)
        go false e = absent (past some (ltb-false k (octaves h) e))

    pub each_wise : octave_of h k (each_octave f h channel) ≡ f (octave_of h k channel)
    each_wise = by_hi h where_zero where_some

  -- what undoes f on samples gives the channel back
  pub each_undone : (g : List ℤ → List ℤ) → ((l : List ℤ) → Samples l → g (f l) ≡ l) → Samples channel → each_octave g h (each_octave f h channel) ≡ channel
  each_undone g undoes fits =
      by_hi h (λ z. ap (each_octave g h) (sole_each f h channel z) ∙ sole_each g h (f channel) z ∙ undoes channel fits)
      (λ some. each_back f same h some channel (suited_all h (length channel) suits some) g undoes fits)
