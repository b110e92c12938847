-- What an entry that takes a sheet gives, by the verdict on the sheet.
-- Assumes nothing.
use Prim.Native.Nat.{ℕ}
use mathlib.Core.List.{List}
use mathlib.Core.Path.{◌≡◌, refl}
use Rattle.laws.proofs.Cases.{impossible}
use Rattle.sheet.specs.Judge.{judged, if_sound}
use Rattle.refusal.specs.Outcome.{Outcome}
use Rattle.refusal.specs.declared.Refusal.{Refusal}
use Rattle.std.specs.Prelude.{Err, Ok, ⊤}

module _ {A : Type 0} (sheet : List ℕ) (o : Outcome A) where
  pub if_sound_lem : judged sheet ≡ Ok tt → if_sound (judged sheet) Err o ≡ o
  if_sound_lem e = rw e

  pub if_refused : (refusal : Refusal) → judged sheet ≡ Err refusal → if_sound (judged sheet) Err o ≡ Err refusal
  if_refused refusal e = rw e

  -- where it gives something, the sheet is sound
  pub gives_sound : (a : A) → if_sound (judged sheet) Err o ≡ Ok a → judged sheet ≡ Ok tt
  gives_sound a = go (judged sheet) refl
    where
      go : (j : Outcome ⊤) → judged sheet ≡ j → if_sound j Err o ≡ Ok a → judged sheet ≡ Ok tt
      go (Ok u) q e = q
      go (Err refusal) q e = impossible cc
