-- A cursor that moves on over the points of a part.
--     Passed                      the invariant of the loop that passes points
--     passed_none, passed_more    where it begins, and one point more
--     stopped_way, stopped_rest   what it hands back: on the way, or past every point
--     stays, begun                a cursor that isn't moved, and one at the front
--     stood, follow, follow_on    a cursor that follows an envelope says what is so, and still follows it moved on, or from later on
--     level_small, moved_small    its level is at most 65,536
-- Assumes nothing.
use Prim.Native.Nat.{ℕ, ◌+◌, ◌-◌, ◌≤◌, ◌<◌}
use borrow.Author.Tests.{le-leb, lt-leb}
use lib.Dec.{leb}
use lib.IntN.{ℤ}
use lib.ListN.{length, drop}
use mathlib.Core.Bool.{Bool, true, false}
use mathlib.Core.List.{List}
use mathlib.Core.Path.{◌≡◌, refl, sym, ap, subst, ◌∙◌}
use mir.Facts.{to_z-of_z}
use mir.Syntax.{w32}
use mir.Val.{SFits, to_z, of_z}
use native.Mathlib.Omega.{arith}
use Rattle.envelope.specs.Envelope.{level_at}
use Rattle.envelope.specs.Level.{on_the_way}
use Rattle.small_chunks.specs.Envelope.{point_of}
use Rattle.small_chunks.specs.Pan.{held_to_unity}
use Rattle.small_chunks.specs.declared.points.EgPoint.{EgPoint}
use Rattle.small_chunks.proofs.PanLaws.{held_le}
use Rattle.sheet.specs.Allowed.{All}
use Rattle.sheet_layout.specs.Members.{Whole, points_in, next_member}
use Rattle.sheet_layout.proofs.NextLaws.{member_after, member_same, member_long, member_whole}
use Rattle.note_envelope.specs.Cursor.{level_from, end_from, curve, Ready, Moved, Stood, Follows}
use Rattle.note_envelope.specs.declared.EnvelopeCursor.{EnvelopeCursor}
use Rattle.note_envelope.proofs.PointLaws.{level_front, end_front, level_same, end_same, level_pass, end_pass, level_way, end_way, level_rest, end_rest}
use Rattle.std.specs.Prelude.{None, Some}

-- ---- the loop that passes points

-- points have been passed from `at₀` on, and from t on the levels are the same
pub record Passed (part : List ℕ) (t at₀ before₀ : ℕ) (level₀ : ℤ) (at before : ℕ) (level : ℤ) : Type 0 where
  pub inside : at ≤ length part
  pub whole : Whole 6 6 (drop at part)
  pub passed : before ≤ t
  pub end_is : end_from part at before ≡ end_from part at₀ before₀
  pub later : (s : ℕ) → t ≤ s → level_from part at before level s ≡ level_from part at₀ before₀ level₀ s

-- no point yet
pub passed_none : (part : List ℕ) (e : EnvelopeCursor) (t : ℕ) (level : ℤ) → Ready part e t → Passed part t e.at e.before level e.at e.before level
passed_none part e t level ready = record { inside = ready.inside; whole = ready.whole; passed = ready.passed; end_is = refl; later = λ s h. refl }

module _ {part : List ℕ} {t at₀ before₀ : ℕ} {level₀ : ℤ} {at before : ℕ} {level : ℤ} (p : Passed part t at₀ before₀ level₀ at before level)
    {place : ℕ} (here : next_member 6 at part ≡ Some place) where
  -- the bytes of the point in hand
  pub point_long : place + 7 ≤ length part
  point_long = member_long 6 6 part at here p.whole

  pub point_after : at ≤ place
  point_after = member_after 6 6 part at here

  -- the bytes before it passed
  pub passed_openers : Passed part t at₀ before₀ level₀ place before level
  passed_openers =
      record {
        inside = omega (arith, point_long);
        whole = subst (All (λ body. length body ≡ 6)) (sym (member_same 6 6 part at here)) p.whole;
        passed = p.passed;
        end_is = end_same part at before here ∙ p.end_is;
        later = λ s h. level_same part at before here level s ∙ p.later s h;
      }

  -- one point more
  pub passed_more : (point : EgPoint) (dest : ℤ) → point ≡ point_of (drop (place + 1) part) → dest ≡ point.dest → point.duration_ms ≤ t - before
      → Passed part t at₀ before₀ level₀ (place + 7) (before + point.duration_ms) dest
  passed_more point dest read d ended =
      let k = p.passed in
      record {
        inside = point_long;
        whole = member_whole 6 6 part at here p.whole;
        passed = omega arith;
        end_is = sym (end_pass part at before here point read) ∙ p.end_is;
        later = λ s h. rw d (sym (level_pass part at before here point read level s (omega arith)) ∙ p.later s h);
      }

-- what a loop that stops at a place hands back
module _ (part : List ℕ) (e : EnvelopeCursor) (t at before : ℕ) (level : ℤ) (now : ℕ) (fits : SFits w32 e.level)
    (p : Passed part t e.at e.before (to_z w32 (of_z w32 e.level)) at before level) where
  stopped : (ended : Bool) (until : ℕ) → t < until → ((s : ℕ) → t ≤ s → s < until → now ≡ held_to_unity (level_from part at before level s))
      → ((s : ℕ) → t ≤ s → s < until → ended ≡ leb (end_from part at before) s)
      → Moved part e t (record { at = at; before = before; level = level; now = now; ended = ended; until = until })
  stopped ended until till n d =
      let later = rw (to_z-of_z fits) at p.later in
      record {
        ready = record { inside = p.inside; whole = p.whole; passed = p.passed };
        till = till;
        now_is = λ s h g. n s h g ∙ ap held_to_unity (later s h);
        ended_is = λ s h g. d s h g ∙ ap (λ (x : ℕ). leb x s) p.end_is;
        end_is = p.end_is;
        later = later;
      }

  -- past every point, for ever
  pub stopped_rest : (until : ℕ) → t < until → next_member 6 at part ≡ None → now ≡ held_to_unity level → Moved part e t (record { at = at; before = before; level = level; now = now; ended = true; until = until })
  stopped_rest until till past n =
      let k = p.passed in
      stopped true until till
      (λ s h g. n ∙ rw (level_rest part at before past level s))
      (λ s h g. sym (le-leb (end_from part at before) s (omega (arith, end_rest part at before past))))

-- what is so of t alone
at_once : (t : ℕ) (P : ℕ → Type 0) → P t → (s : ℕ) → t ≤ s → s < t + 1 → P s
at_once t P h s a b = let e : t ≡ s = omega arith in subst P e h

-- on the way
pub stopped_way : (part : List ℕ) (e : EnvelopeCursor) (t at before : ℕ) (level : ℤ) (now : ℕ) → SFits w32 e.level
    → Passed part t e.at e.before (to_z w32 (of_z w32 e.level)) at before level
    → {place : ℕ} → next_member 6 at part ≡ Some place
    → (point : EgPoint) (dest : ℤ) → point ≡ point_of (drop (place + 1) part) → dest ≡ point.dest
    → t - before < point.duration_ms → now ≡ held_to_unity (on_the_way level dest (t - before) point.duration_ms)
    → Moved part e t (record { at = place; before = before; level = level; now = now; ended = false; until = t + 1 })
stopped_way part e t at before level now fits p {place} here point dest read d h n =
    stopped part e t place before level now fits (passed_openers p here) false (t + 1) (omega arith)
    (at_once t (λ s. now ≡ held_to_unity (level_from part place before level s)) (n ∙ rw (d, level_same part at before here level t, level_way part at before here point read level t h)))
    (at_once t (λ s. false ≡ leb (end_from part place before) s) (rw (end_same part at before here) (sym (lt-leb (end_from part at before) t (omega (arith, end_way part at before here point read))))))

-- ---- a cursor on an envelope

-- where the cursor isn't moved
pub stays : (part : List ℕ) (e : EnvelopeCursor) (t : ℕ) → Stood part e t → t < e.until → Moved part e t e
stays part e t s g = record { ready = s.ready; till = g; now_is = s.now_is; ended_is = s.ended_is; end_is = refl; later = λ u h. refl }

-- the cursor at the front
pub begun : (part : List ℕ) (start : ℤ) (t now until : ℕ) (ended : Bool) (r : EnvelopeCursor)
    → Moved part (record { at = 0; before = 0; level = start; now = now; ended = ended; until = until }) t r → Follows part start t r
begun part start t now until ended r m =
    record {
      ready = m.ready;
      now_is = λ s h g. m.now_is s h g ∙ ap held_to_unity (level_front part start s);
      ended_is = λ s h g. m.ended_is s h g ∙ ap (λ (x : ℕ). leb x s) (end_front part);
      end_is = m.end_is ∙ end_front part;
      later = λ s h. m.later s h ∙ level_front part start s;
    }

module _ {part : List ℕ} {start : ℤ} {t : ℕ} {e : EnvelopeCursor} (f : Follows part start t e) where
  pub stood : Stood part e t
  stood =
      record {
        ready = f.ready;
        now_is = λ s h g. f.now_is s h g ∙ ap held_to_unity (sym (f.later s h));
        ended_is = λ s h g. f.ended_is s h g ∙ ap (λ (x : ℕ). leb x s) (sym f.end_is);
      }

  pub follow : {r : EnvelopeCursor} → Moved part e t r → Follows part start t r
  follow m =
      record {
        ready = m.ready;
        now_is = λ s h g. m.now_is s h g ∙ ap held_to_unity (f.later s h);
        ended_is = λ s h g. m.ended_is s h g ∙ ap (λ (x : ℕ). leb x s) f.end_is;
        end_is = m.end_is ∙ f.end_is;
        later = λ s h. m.later s h ∙ f.later s h;
      }

  -- as it follows from t on it does from any later time on
  pub follow_on : {s : ℕ} → t ≤ s → Follows part start s e
  follow_on h =
      record {
        ready = record { inside = f.ready.inside; whole = f.ready.whole; passed = omega (arith, f.ready.passed) };
        now_is = λ u a g. f.now_is u (omega arith) g;
        ended_is = λ u a g. f.ended_is u (omega arith) g;
        end_is = f.end_is;
        later = λ u a. f.later u (omega arith);
      }

-- ---- its level

pub level_small : {part : List ℕ} {start : ℤ} {t : ℕ} {e : EnvelopeCursor} → Follows part start t e → t < e.until → e.now ≤ 65536
level_small {part} {start} {t} f g = omega (arith, f.now_is t (omega arith) g, held_le (level_at (points_in part) start t))

pub moved_small : {part : List ℕ} {e : EnvelopeCursor} {t : ℕ} {r : EnvelopeCursor} → Moved part e t r → r.now ≤ 65536
moved_small {part} {e} {t} {r} m = omega (arith, m.now_is t (omega arith) m.till, held_le (curve part e t))
