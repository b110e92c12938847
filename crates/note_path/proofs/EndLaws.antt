-- Past the path's end: where a step has no place, no later step has one.
-- Assumes nothing.
use Prim.Native.Nat.{ℕ, ◌+◌, ◌-◌, ◌*◌, ◌%◌, ◌≤◌}
use mathlib.Core.Bool.{Bool, true, false, cond}
use mathlib.Core.List.{List, [], ◌∷◌}
use mathlib.Core.Path.{◌≡◌, refl, sym, ◌∙◌}
use native.Mathlib.Omega.{arith}
use borrow.Author.Tests.{le-ltb, ltb-false}
use lib.Dec.{ltb, eqb}
use Rattle.laws.proofs.Cases.{impossible}
use Rattle.small_chunks.specs.Sequence.{segment_length}
use Rattle.small_chunks.specs.declared.sequence.SeqnSegment.{SeqnSegment}
use Rattle.sheet_layout.specs.Members.{segments_in}
use Rattle.note_path.specs.Path.{segments_path, loop_path}
use Rattle.note_path.specs.Run.{place_of}
use Rattle.note_path.specs.declared.run.Path.{Path}
use Rattle.note_path.proofs.LengthLaws.{steps_none, steps_past}
use Rattle.note_path.proofs.RunLaws.{place_sequence, place_loop}
use Rattle.std.specs.Prelude.{None, Some}

steps_end : (first scale : ℕ) (ss : List SeqnSegment) (q later : ℕ) → q ≤ later → segments_path first scale ss q ≡ None → segments_path first scale ss later ≡ None
unfolding segments_path
steps_end first scale [] q later h e = steps_none first scale later
steps_end first scale (s ∷ ss) q later h e =
    go (steps_end first scale ss (q - segment_length s * scale) (later - segment_length s * scale) (omega arith)) (ltb q (segment_length s * scale)) refl e
  where
    go : (segments_path first scale ss (q - segment_length s * scale) ≡ None → segments_path first scale ss (later - segment_length s * scale) ≡ None) → (t : Bool)
        → ltb q (segment_length s * scale) ≡ t
        → cond t (Some (first + s.start * scale + q)) (segments_path first scale ss (q - segment_length s * scale)) ≡ None
        → segments_path first scale (s ∷ ss) later ≡ None
    go rest true t e = impossible cc
    go rest false t e = steps_past first scale s ss later (omega (arith, ltb-false q (segment_length s * scale) t)) ∙ rest e

loop_end : (first one_shot repeat q later : ℕ) → q ≤ later → loop_path first one_shot repeat q ≡ None → loop_path first one_shot repeat later ≡ None
unfolding loop_path
loop_end first one_shot repeat q later h = go (ltb q one_shot) refl (eqb repeat 0) refl
  where
    go : (t : Bool) → ltb q one_shot ≡ t → (z : Bool) → eqb repeat 0 ≡ z
        → cond t (Some (first + q)) (cond z None (Some (first + one_shot + (q - one_shot) % repeat))) ≡ None
        → loop_path first one_shot repeat later ≡ None
    go true t z u e = impossible cc
    go false t true u e = rw (le-ltb later one_shot (omega (arith, ltb-false q one_shot t)), u)
    go false t false u e = impossible cc

pub place_end : (p : Path) (part : List ℕ) (q later : ℕ) → q ≤ later → place_of p part q ≡ None → place_of p part later ≡ None
place_end p part q later h e = go p.sequence refl
  where
    go : (there : Bool) → p.sequence ≡ there → place_of p part later ≡ None
    go true t =
        place_sequence p part later t ∙ steps_end p.first p.scale (segments_in part) q later h (sym (place_sequence p part q t) ∙ e)
    go false t = place_loop p part later t ∙ loop_end p.first p.one_shot p.repeat q later h (sym (place_loop p part q t) ∙ e)
