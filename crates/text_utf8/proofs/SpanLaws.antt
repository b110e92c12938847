-- What an answer of `step_at` says of the subsequences: all that a loop over the bytes uses.
-- Assumes nothing.
use Prim.Native.Nat.{ℕ, suc, ◌+◌, ◌-◌, ◌≤◌, ◌<◌}
use lib.ListN.{length, take, drop, length-drop}
use lib.Seq.{length-take-le, drop-drop}
use mathlib.Core.Bool.{Bool, true, false, not}
use mathlib.Core.List.{List, [], ◌∷◌}
use mathlib.Core.Path.{◌≡◌, refl, ap, ◌∙◌}
use native.Mathlib.Omega.{arith}
use Rattle.laws.proofs.Cases.{impossible}
use Rattle.laws.proofs.WalkLaws.{walk_more, walk_last}
use Rattle.laws.specs.Walk.{Front, more, last}
use Rattle.text_utf8.proofs.FirstLaws.{first_of, first_none, first_nil}
use Rattle.text_utf8.specs.Step.{subsequence, subsequences_from, utf8_step, utf8_step_at}
use Rattle.text_utf8.specs.Utf8.{Subsequence, scalar, ill_formed, first_subsequence, subsequences, bytes, all_well_formed, well_formed}
use Rattle.text_utf8.specs.declared.step.Utf8Part.{Utf8Part}
use Rattle.std.specs.Prelude.{None, Option, Some}

-- the subsequence p lies from `at` up to `next`
pub record Spans (s : List ℕ) (at next : ℕ) (p : Subsequence) : Type 0 where
  pub is : subsequences_from s at ≡ p ∷ subsequences_from s next
  pub body : bytes p ≡ take (next - at) (drop at s)
  pub forward : at < next
  pub inside : next ≤ length s

module _ (s : List ℕ) (at : ℕ) where
  spans : (p : Subsequence) (n : ℕ) → first_subsequence (drop at s) ≡ more p n → Spans s at (at + 1 + n) p
  unfolding subsequences_from subsequences
  spans p n e =
      let f = first_of (drop at s) p n e in
      let long = rw length-drop at f.fits in
      let past : at + suc n ≡ at + 1 + n = omega arith in
      let size : suc n ≡ at + 1 + n - at = omega arith in
      let rest : drop (suc n) (drop at s) ≡ drop (at + 1 + n) s = drop-drop (suc n) at s ∙ ap (λ (k : ℕ). drop k s) past in
      let read = walk_more first_subsequence first_nil (drop at s) p n e in
      record { is = cc (read, rest); body = cc (f.body, size); forward = omega arith; inside = omega arith }

  -- what each answer says
  abbrev pub Says : Option Utf8Part → Type 0
  Says (Some part) = Spans s at part.next (subsequence part.well_formed (take (part.next - at) (drop at s)))
  Says None = (subsequences_from s at ≡ []) × (length s ≤ at)

  says : Says (utf8_step_at s at)
  unfolding utf8_step_at subsequences_from subsequences
  says = go (first_subsequence (drop at s)) refl
    where
      go : (f : Front Subsequence) → first_subsequence (drop at s) ≡ f → Says (utf8_step at f)
      go (more (scalar l) n) e = let w = spans (scalar l) n e in rw (← w.body) w
      go (more (ill_formed l) n) e = let w = spans (ill_formed l) n e in rw (← w.body) w
      go (last ps) e =
          let z = first_none (drop at s) ps e in
          (rw z (walk_last first_subsequence first_nil [] [] first_nil), omega (arith, rw length-drop at (ap length z)))

  pub step_says : {step : Option Utf8Part} → utf8_step_at s at ≡ step → Says step
  step_says e = rw e at says

pub span_length : {s : List ℕ} {at next : ℕ} {p : Subsequence} → Spans s at next p → at + length (bytes p) ≡ next
span_length {s} {at} {next} w = rw (w.body, length-take-le (next - at) (drop at s) (rw length-drop (omega (arith, w.forward, w.inside)))) (omega (arith, w.forward))

-- where the part lies
pub step_within : (s : List ℕ) (at : ℕ) (part : Utf8Part) → utf8_step_at s at ≡ Some part → (at < part.next) × (part.next ≤ length s)
step_within s at part e = let w = step_says s at e in (w.forward, w.inside)

-- ---- the loop that asks for well-formedness

pub well_start : (s : List ℕ) → all_well_formed (subsequences_from s 0) ≡ well_formed s
unfolding well_formed subsequences_from
well_start s = refl

module _ (s : List ℕ) (at : ℕ) (part : Utf8Part) (e : utf8_step_at s at ≡ Some part) where
  pub well_stop : not part.well_formed ≡ true → all_well_formed (subsequences_from s at) ≡ false
  well_stop h = go part.well_formed h (step_says s at e).is
    where
      go : (u : Bool) → not u ≡ true → subsequences_from s at ≡ subsequence u (take (part.next - at) (drop at s)) ∷ subsequences_from s part.next → all_well_formed (subsequences_from s at) ≡ false
      go true h e = impossible cc
      go false h e = ap all_well_formed e

  pub well_next : not part.well_formed ≡ false → all_well_formed (subsequences_from s at) ≡ all_well_formed (subsequences_from s part.next)
  well_next h = go part.well_formed h (step_says s at e).is
    where
      go : (u : Bool) → not u ≡ false → subsequences_from s at ≡ subsequence u (take (part.next - at) (drop at s)) ∷ subsequences_from s part.next
          → all_well_formed (subsequences_from s at) ≡ all_well_formed (subsequences_from s part.next)
      go true h e = ap all_well_formed e
      go false h e = impossible cc

pub well_end : (s : List ℕ) (at : ℕ) → utf8_step_at s at ≡ None → all_well_formed (subsequences_from s at) ≡ true
well_end s at e = ap all_well_formed (step_says s at e).0

pub ruleset well_steps = (step_within, well_start, well_stop, well_next, well_end)
