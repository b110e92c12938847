-- The answer and the buffer of an entry: where its input is refused, and where it gives an output of n elements that fits or doesn't.
--     output_fits, output_short                         of an output
--     outcome_refused, outcome_fits, outcome_short      of an outcome that is known by an equation
--     whole_step, no_step                               what a walk finds that ends at a refusal as at the end
--     length_gives, length_refused                      what the length says of the outcome
--     room_for, room_gives                              the outcome that a writer finds room for
-- Assumes nothing.
use mathlib.Core.Path.{◌≡◌, refl, ap}
use mathlib.Core.List.{List}
use Prim.Native.Nat.{ℕ, ◌≤◌, ◌<◌}
use borrow.Author.Tests.{le-leb, lt-leb}
use lib.ListN.{length}
use Rattle.laws.proofs.Cases.{impossible}
use Rattle.laws.specs.Buffer.{written}
use Rattle.refusal.specs.Outcome.{Outcome, answer, length_of, buffer_after}
use Rattle.refusal.specs.Room.{Room}
use Rattle.refusal.specs.declared.Refusal.{Refusal}
use Rattle.refusal.specs.declared.Refusal.TheVariants.{BufferShort}
use Rattle.std.specs.Prelude.{Ok, Err, Option, Some, None}
use Rattle.std.specs.Result.{result_unwrap_or}

module _ {A : Type 0} (xs buffer : List A) (n : ℕ) (e : n ≡ length xs) where
  pub output_fits : (now' : List A) → n ≤ length buffer → now' ≡ written xs buffer → (Ok n ≡ answer (Ok xs) (length buffer)) × (now' ≡ buffer_after (Ok xs) buffer)
  output_fits now' h w =
      let fits : length xs ≤ length buffer = rw (← e) h in
      rw (le-leb (length xs) (length buffer) fits) (ap Ok e, w)

  pub output_short : length buffer < n → (Err BufferShort ≡ answer (Ok xs) (length buffer)) × (buffer ≡ buffer_after (Ok xs) buffer)
  output_short h =
      let short : length buffer < length xs = rw (← e) h in
      rw (lt-leb (length xs) (length buffer) short) (refl, refl)

-- the same of an outcome that is known by an equation
module _ {A : Type 0} (outcome : Outcome (List A)) (buffer : List A) where
  pub outcome_refused : (refusal : Refusal) → outcome ≡ Err refusal → (Err refusal ≡ answer outcome (length buffer)) × (buffer ≡ buffer_after outcome buffer)
  outcome_refused refusal e = rw e (refl, refl)

  module _ (xs : List A) (g : outcome ≡ Ok xs) (n : ℕ) (e : n ≡ length xs) where
    pub outcome_fits : (now' : List A) → n ≤ length buffer → now' ≡ written xs buffer → (Ok n ≡ answer outcome (length buffer)) × (now' ≡ buffer_after outcome buffer)
    outcome_fits now' h w = rw g (output_fits xs buffer n e now' h w)

    pub outcome_short : length buffer < n → (Err BufferShort ≡ answer outcome (length buffer)) × (buffer ≡ buffer_after outcome buffer)
    outcome_short h = rw g (output_short xs buffer n e h)

-- ---- a walk that ends at a refusal as at the end

module _ {A : Type 0} (r : Outcome (Option A)) where
  pub whole_step : (a : A) → result_unwrap_or r None ≡ Some a → r ≡ Ok (Some a)
  whole_step a = go r
    where
      go : (r : Outcome (Option A)) → result_unwrap_or r None ≡ Some a → r ≡ Ok (Some a)
      go (Ok o) e = ap Ok e
      go (Err refusal) e = impossible cc

  pub no_step : result_unwrap_or r None ≡ None → (a : A) → r ≡ Ok (Some a) → ⊥
  no_step n a e = impossible (cc (ap (λ (s : Outcome (Option A)). result_unwrap_or s None) e))

-- ---- an outcome with its length

-- it gives an output of n elements
pub record Gives {A : Type 0} (o : Outcome (List A)) (n : ℕ) : Type 0 where
  pub output : List A
  pub is : o ≡ Ok output
  pub long : n ≡ length output

module _ {A : Type 0} where
  pub length_gives : (o : Outcome (List A)) (n : ℕ) → length_of o ≡ Ok n → Gives o n
  length_gives (Ok xs) n e = record { output = xs; is = refl; long = cc }
  length_gives (Err refusal) n e = impossible cc

  pub length_refused : (o : Outcome (List A)) (refusal : Refusal) → length_of o ≡ Err refusal → o ≡ Err refusal
  length_refused (Ok xs) refusal e = impossible cc
  length_refused (Err r) refusal e = cc

  pub room_for : (o : Outcome (List A)) (n places : ℕ) → Gives o n → n ≤ places → Room o n places
  room_for o n places g h = rw g.is (g.long, h)

  pub room_gives : (o : Outcome (List A)) (n places : ℕ) → Room o n places → Gives o n × (n ≤ places)
  room_gives (Ok xs) n places r = (record { output = xs; is = refl; long = r.0 }, r.1)
  room_gives (Err refusal) n places r = absurd r
