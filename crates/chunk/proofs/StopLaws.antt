-- A walk that takes whole chunks alone stops at any other answer: `while let Some(chunk) = chunk_at(..).unwrap_or(None)`.
-- Assumes nothing.
use mathlib.Core.Path.{◌≡◌, refl, sym}
use mathlib.Core.List.{List, []}
use Prim.Native.Nat.{ℕ}
use Rattle.chunk.proofs.ChunkLaws.{at_end, at_refused}
use Rattle.chunk.specs.Chunk.{Item, bad, items_from}
use Rattle.chunk.specs.ForCode.{step_at}
use Rattle.chunk.specs.declared.Chunk.{Chunk}
use Rattle.laws.specs.Walk.{each}
use Rattle.refusal.specs.Outcome.{Outcome}
use Rattle.refusal.specs.declared.Refusal.{Refusal}
use Rattle.std.specs.Prelude.{Err, None, Ok, Option, Some}

pub each_stops : (f : List ℕ) (at : ℕ) (r : Outcome (Option Chunk)) → r ≡ step_at f at → ((c : Chunk) → r ≡ Ok (Some c) → ⊥) → (g : Item → List ℕ) → ((n : Refusal) → g (bad n) ≡ []) → each g (items_from f at) ≡ []
each_stops f at (Ok (Some c)) e t g z = absurd (t c refl)
each_stops f at (Err n) e t g z = rw (at_refused f at n (sym e), z n)
each_stops f at (Ok None) e t g z = rw (at_end f at (sym e))
