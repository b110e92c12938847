-- What holds of every part of a FORM holds of the payload of each of its chunks, and so of the chunks of a name.
-- Assumes nothing.
use Prim.Native.Nat.{ℕ, zero, suc, ◌-◌, ◌≤◌}
use lib.Dec.{eqb}
use lib.ListN.{length, take, drop}
use mathlib.Core.Bool.{Bool, true, false, cond}
use mathlib.Core.List.{List, [], ◌∷◌}
use mathlib.Core.Path.{◌≡◌, refl}
use native.Mathlib.Omega.{arith}
use Rattle.laws.proofs.Cases.{impossible}
use Rattle.chunk.specs.Chunk.{Item, chunk, bad, items_from}
use Rattle.chunk.specs.ForCode.{step_at}
use Rattle.chunk.proofs.ChunkLaws.{step_end, at_end, at_refused, at_chunk}
use Rattle.form.specs.Find.{all_of, first_of}
use Rattle.chunk.specs.declared.Chunk.{Chunk}
use Rattle.refusal.specs.Outcome.{Outcome}
use Rattle.std.specs.Prelude.{Err, None, Ok, Option, Some}

-- of the payload of every chunk before the first bad one
abbrev pub Payloads : (List ℕ → Type 0) → List Item → Type 0
Payloads P [] = Unit
Payloads P (bad refusal ∷ items) = Unit
Payloads P (chunk id b ∷ items) = P b × Payloads P items

module _ (P : List ℕ → Type 0) where
  -- of any items, what holds of every payload
  pub any_payloads : ((b : List ℕ) → P b) → (items : List Item) → Payloads P items
  any_payloads h [] = tt
  any_payloads h (bad refusal ∷ items) = tt
  any_payloads h (chunk id b ∷ items) = (h b, any_payloads h items)

  pub payloads : (f : List ℕ) → ((start n : ℕ) → P (take n (drop start f))) → (at : ℕ) → Payloads P (items_from f at)
  payloads f holds at = go (length f - at) at (omega arith)
    where
      none_left : (at : ℕ) → step_at f at ≡ Ok None → Payloads P (items_from f at)
      none_left at e = rw (at_end f at e) tt

      go : (k at : ℕ) → length f - at ≤ k → Payloads P (items_from f at)
      go zero at h = none_left at (step_end f at (omega arith))
      go (suc k) at h = turn (step_at f at) refl (go k)
        where
          turn : (s : Outcome (Option Chunk)) → step_at f at ≡ s → ((next : ℕ) → length f - next ≤ k → Payloads P (items_from f next)) → Payloads P (items_from f at)
          turn (Ok (Some it)) e later =
              let w = at_chunk f at it e in
              rw w.items (holds it.start it.size, later it.next (omega (arith, w.on, w.begun)))
          turn (Err r) e later = rw (at_refused f at r e) tt
          turn (Ok None) e later = none_left at e

  module _ (id : ℕ) where
    pub first_payload : (items : List Item) → Payloads P items → (b : List ℕ) → first_of id items ≡ Some b → P b
    unfolding first_of
    first_payload [] h b e = impossible cc
    first_payload (bad refusal ∷ items) h b e = impossible cc
    first_payload (chunk i d ∷ items) h b e = go (eqb i id) e (first_payload items h.1 b)
      where
        go : (t : Bool) → cond t (Some d) (first_of id items) ≡ Some b → (first_of id items ≡ Some b → P b) → P b
        go true e later = let same : d ≡ b = cc in rw (← same) h.0
        go false e later = later e

    -- what holds of no payload, and of one more of which P holds, holds of all of the name
    pub all_payloads : (items : List Item) → Payloads P items → (Q : List (List ℕ) → Type 0) → Q [] → ((b : List ℕ) (bs : List (List ℕ)) → P b → Q bs → Q (b ∷ bs)) → Q (all_of id items)
    unfolding all_of
    all_payloads [] h Q nil more = nil
    all_payloads (bad refusal ∷ items) h Q nil more = nil
    all_payloads (chunk i d ∷ items) h Q nil more = go (eqb i id) (all_payloads items h.1 Q nil more)
      where
        go : (t : Bool) → Q (all_of id items) → Q (cond t (d ∷ all_of id items) (all_of id items))
        go true rest = more d (all_of id items) h.0 rest
        go false rest = rest
