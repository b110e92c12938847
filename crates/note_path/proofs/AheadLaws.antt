-- The segments ahead of a step, of which the first is taken off and passed by until one has the step.
--     Ahead, Ends, ends, ahead_here, ahead_past, ahead_none     a list of segments ahead: its first has a step or is passed by
--     Rest, rest_of, rest_past, rest_here                       the same for the segments that an iterator has left
--     rest_found, rest_end                                      the run where the first has step q, or none is left
-- Assumes nothing.
use Prim.Native.Nat.{ℕ, ◌+◌, ◌-◌, ◌*◌, ◌≤◌, ◌<◌}
use mathlib.Core.Bool.{true}
use mathlib.Core.List.{List, [], ◌∷◌}
use mathlib.Core.Path.{◌≡◌, refl, ap, subst, ◌∙◌}
use native.Mathlib.Nat.{mul-le-mul_right, mul-sub, mul_comm}
use native.Mathlib.Omega.{arith}
use denote.Ref.{Bor}
use Rattle.small_chunks.specs.Sequence.{segment_length}
use Rattle.small_chunks.specs.declared.sequence.SeqnSegment.{SeqnSegment}
use Rattle.note_path.specs.Path.{segments_path}
use Rattle.note_path.specs.Run.{place_of, Within, Sane, Good, Reached}
use Rattle.note_path.specs.declared.run.Path.{Path}
use Rattle.note_path.specs.declared.run.Run.{Run}
use Rattle.note_path.specs.declared.segments.Segments.{Segments}
use Rattle.note_path.specs.Segments.{left, Stands, Takes}
use Rattle.note_path.proofs.LengthLaws.{steps_none, steps_here, steps_past}
use Rattle.std.specs.Prelude.{None, Some}

-- ---- a list of segments ahead

-- from step `until` on the path is that of these segments
pub record Ahead (p : Path) (part : List ℕ) (until : ℕ) (segments : List SeqnSegment) : Type 0 where
  pub fit : Within p.first p.scale p.samples segments
  pub later : (q : ℕ) → until ≤ q → place_of p part q ≡ segments_path p.first p.scale segments (q - until)

-- a segment in the octave's own samples
pub record Ends (p : Path) (s : SeqnSegment) : Type 0 where
  pub order : s.start * p.scale ≤ s.end * p.scale
  pub within : p.first + s.end * p.scale ≤ p.samples

module _ {p : Path} {part : List ℕ} {until : ℕ} where
  ahead_none : Ahead p part until [] → (q : ℕ) → until ≤ q → place_of p part q ≡ None
  ahead_none a q g = a.later q g ∙ steps_none p.first p.scale (q - until)

  module _ {s : SeqnSegment} {ss : List SeqnSegment} (a : Ahead p part until (s ∷ ss)) where
    pub ends : Ends p s
    ends = record { order = mul-le-mul_right p.scale a.fit.0; within = a.fit.1 }

    length_is : segment_length s * p.scale ≡ s.end * p.scale - s.start * p.scale
    length_is = mul_comm _ _ ∙ mul-sub p.scale s.end s.start ∙ rw (mul_comm p.scale s.end, mul_comm p.scale s.start)

    module _ (past : ℕ) (e : past ≡ until + (s.end * p.scale - s.start * p.scale)) where
      ahead_here : (q : ℕ) → until ≤ q → q < past → place_of p part q ≡ Some (p.first + s.start * p.scale + (q - until))
      ahead_here q g h = a.later q g ∙ steps_here p.first p.scale s ss (q - until) (omega (arith, length_is))

      ahead_past : Ahead p part past ss
      ahead_past =
          record {
            fit = a.fit.2;
            later = λ q g.
                let left : q - until - segment_length s * p.scale ≡ q - past = omega (arith, length_is) in
                a.later q (omega arith) ∙ steps_past p.first p.scale s ss (q - until) (omega (arith, length_is)) ∙ rw left;
          }

-- ---- the segments that an iterator has left

-- they are ahead, and step q is no earlier than they
pub record Rest (p : Path) (part : List ℕ) (q until : ℕ) (a : Segments) : Type 0 where
  pub same : a.part.now ≡ part
  pub stands : Stands a
  pub passed : until ≤ q
  pub ahead : Ahead p part until (left a)

module _ {p : Path} {part : List ℕ} {q until : ℕ} {a : Segments} (r : Rest p part q until a) where
  -- a run past which they lie
  run_before : (from start : ℕ) → from ≤ until → start + (until - from) ≤ p.samples → ((u : ℕ) → from ≤ u → u < until → place_of p part u ≡ Some (start + (u - from)))
      → Good p part (record { at = a.at; from = from; until = until; start = start })
  run_before from start order within here =
      let stands = rw r.same at r.stands in
      let ahead = rw r.same at r.ahead in
      record { inside = stands.0; order = order; within = within; here = here; rest = ahead.fit; whole = stands.1; later = λ t. ahead.later }

  pub rest_end : Sane p part → left a ≡ [] → Reached p part q (record { at = a.at; from = until; until = until; start = p.first })
  rest_end s none =
      record {
        good = run_before until p.first (omega arith) (omega (arith, s.looped)) (λ u g₁ g₂. absurd (omega arith));
        begun = r.passed;
        past = ahead_none (subst (Ahead p part until) none r.ahead) q;
      }

  module _ (s : SeqnSegment) (b : Segments) (took : Takes a (Some s) b) where
    pub rest_here : Ahead p part until (s ∷ left b)
    rest_here = subst (Ahead p part until) took.0 r.ahead

    -- those past it
    pub rest_past : (past : ℕ) → past ≡ until + (s.end * p.scale - s.start * p.scale) → Stands b → past ≤ q → Rest p part q past b
    rest_past past e stands passed = record { same = ap (λ (x : Bor (List ℕ)). x.now) took.1 ∙ r.same; stands = stands; passed = passed; ahead = ahead_past rest_here past e }

-- from a run that is done
pub rest_of : {p : Path} {part : Bor (List ℕ)} {q : ℕ} {r : Run} → Good p part.now r → p.sequence ≡ true → r.until ≤ q → Rest p part.now q r.until (record { part = part; at = r.at })
rest_of g t passed = record { same = refl; stands = (g.inside, g.whole); passed = passed; ahead = record { fit = g.rest; later = g.later t } }

-- the run where the first of them has step q
pub rest_found : {p : Path} {part : List ℕ} {q until : ℕ} {a : Segments} (r : Rest p part q until a) (s : SeqnSegment) (b : Segments) (took : Takes a (Some s) b) (past : ℕ)
    → past ≡ until + (s.end * p.scale - s.start * p.scale) → Stands b → q < past
    → Reached p part q (record { at = b.at; from = until; until = past; start = p.first + s.start * p.scale })
rest_found {p} {part} {q} {until} {a} r s b took past e stands h =
    let here = rest_here r s b took in
    let k = ends here in
    let more : Rest p part past past b = record { same = ap (λ (x : Bor (List ℕ)). x.now) took.1 ∙ r.same; stands = stands; passed = omega arith; ahead = ahead_past here past e } in
    record { good = run_before more until (p.first + s.start * p.scale) (omega arith) (omega arith) (ahead_here here past e); begun = r.passed; past = λ g. absurd (omega arith) }
