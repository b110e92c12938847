-- The laws of the places that the code finds: the first zero byte, the first and the last subsequence that is not white, and
-- what the part between the two is.
-- Assumes nothing.
use Prim.Native.Nat.{ℕ, suc, ◌+◌, ◌-◌, ◌≤◌}
use borrow.Author.Tests.{ltb-false}
use lib.Dec.{eqb, ltb}
use lib.ListN.{length, take, drop, length-append, length-drop}
use lib.Seq.{take-append_seam}
use mathlib.Core.Bool.{Bool, true, false, cond, ◌&&◌}
use mathlib.Core.List.{List, [], ◌∷◌}
use mathlib.Core.Path.{◌≡◌, refl, sym, ap, ◌∙◌, subst}
use native.Mathlib.Nat.{add-zero, add-sub_cancel_left}
use native.Mathlib.Omega.{arith}
use Rattle.laws.specs.Walk.{each}
use Rattle.text.proofs.TrimLaws.{end_white, start_split, end_split}
use Rattle.std.proofs.lemmas.List.Recursion.{is_position_or_len}
use Rattle.std.specs.List.{position, position_or_len}
use Rattle.std.specs.Option.{unwrap_or}
use Rattle.std.specs.Prelude.{None, Some}
use Rattle.text.specs.Place.{start_white, text_end}
use Rattle.text.specs.Text.{before_zero, is_white, trim_start, is_empty, trim_end, trim}
use Rattle.text_utf8.proofs.SpanLaws.{Spans, span_length}
use Rattle.text_utf8.proofs.SubsequenceLaws.{subsequences_bytes}
use Rattle.text_utf8.specs.Step.{subsequence, subsequences_from}
use Rattle.text_utf8.specs.Utf8.{Subsequence, subsequences, bytes}

-- ---- the first zero byte

pub before_zero_part : (s : List ℕ) → take (length (before_zero s)) s ≡ before_zero s
unfolding before_zero
before_zero_part [] = refl
before_zero_part (b ∷ l) = go (before_zero_part l) (eqb b 0)
  where
    go : take (length (before_zero l)) l ≡ before_zero l → (u : Bool) → take (length (cond u [] (b ∷ before_zero l))) (b ∷ l) ≡ cond u [] (b ∷ before_zero l)
    go e true = refl
    go e false = ap (λ (r : List ℕ). b ∷ r) e

pub before_zero_le : (s : List ℕ) → length (before_zero s) ≤ length s
unfolding before_zero
before_zero_le [] = omega arith
before_zero_le (b ∷ l) = go (before_zero_le l) (eqb b 0)
  where
    go : length (before_zero l) ≤ length l → (u : Bool) → length (cond u [] (b ∷ before_zero l)) ≤ suc (length l)
    go h true = omega arith
    go h false = omega arith

first_zero_is : (s : List ℕ) → length (before_zero s) ≡ position_or_len (λ b. eqb b 0) s
unfolding before_zero
first_zero_is s = is_position_or_len (λ l. length (before_zero l)) (λ b. eqb b 0) refl (λ b l. go b l (eqb b 0)) s
  where
    go : (b : ℕ) (l : List ℕ) (u : Bool) → length (cond u [] (b ∷ before_zero l)) ≡ cond u 0 (1 + length (before_zero l))
    go b l true = refl
    go b l false = omega arith

-- what the code finds: the place of the first zero byte, or the end where there is none
pub first_zero_or_end : (s : List ℕ) → unwrap_or (position (λ b. eqb b 0) s) (length s) ≡ length (before_zero s)
first_zero_or_end s = rw (← first_zero_is) (go (ltb (length (before_zero s)) (length s)) refl)
  where
    go : (u : Bool) → ltb (length (before_zero s)) (length s) ≡ u → unwrap_or (cond u (Some (length (before_zero s))) None) (length s) ≡ length (before_zero s)
    go true e = refl
    go false e = omega (arith, before_zero_le s, ltb-false _ _ e)

-- ---- one subsequence, at the start and at the end

pub ill_formed_not_white : {w : Bool} (l : List ℕ) → w ≡ false → is_white (subsequence w l) ≡ false
ill_formed_not_white l e = subst (λ (w : Bool). is_white (subsequence w l) ≡ false) (sym e) refl

module _ {s : List ℕ} {at next : ℕ} {p : Subsequence} (w : Spans s at next p) where
  pub start_here : is_white p ≡ false → trim_start (subsequences_from s at) ≡ subsequences_from s at
  unfolding trim_start
  start_here h = rw (w.is, h)

  pub start_later : is_white p ≡ true → trim_start (subsequences_from s at) ≡ trim_start (subsequences_from s next)
  unfolding trim_start
  start_later h = rw (w.is, h)

  -- u: p is white
  end_step : (e : ℕ) {u : Bool} → is_white p ≡ u → text_end e at (subsequences_from s at) ≡ text_end (cond u e next) next (subsequences_from s next)
  end_step e h =
      ap (text_end e at) w.is
      ∙ ap (λ (m : ℕ). text_end (cond (is_white p) e m) m (subsequences_from s next)) (span_length w)
      ∙ ap (λ (u : Bool). text_end (cond u e next) next (subsequences_from s next)) h

  pub end_not_white : (e : ℕ) → is_white p ≡ false → text_end e at (subsequences_from s at) ≡ text_end next next (subsequences_from s next)
  end_not_white e h = end_step e h

  pub end_white_lem : (e : ℕ) → is_white p ≡ true → text_end e at (subsequences_from s at) ≡ text_end e next (subsequences_from s next)
  end_white_lem e h = end_step e h

pub start_end : {ps : List Subsequence} → ps ≡ [] → trim_start ps ≡ ps
unfolding trim_start
start_end e = rw e

-- ---- the part between

ends_at : (e at : ℕ) (ps : List Subsequence) → text_end e at ps ≡ cond (is_empty (trim_end ps)) e (at + length (each bytes (trim_end ps)))
unfolding trim_end
ends_at e at [] = refl
ends_at e at (p ∷ ps) = ends_at (cond (is_white p) e (at + length (bytes p))) (at + length (bytes p)) ps ∙ go (is_white p) (trim_end ps)
  where
    go : (u : Bool) (qs : List Subsequence)
        → cond (is_empty qs) (cond u e (at + length (bytes p))) (at + length (bytes p) + length (each bytes qs))
        ≡ cond (is_empty (cond (u && is_empty qs) [] (p ∷ qs))) e (at + length (each bytes (cond (u && is_empty qs) [] (p ∷ qs))))
    go true [] = refl
    go false [] = rw length-append (omega arith)
    go true (q ∷ qs) = rw (length-append (bytes p) (each bytes (q ∷ qs))) (omega arith)
    go false (q ∷ qs) = rw (length-append (bytes p) (each bytes (q ∷ qs))) (omega arith)

ends_from : (at : ℕ) (ps : List Subsequence) → text_end at at ps ≡ at + length (each bytes (trim_end ps))
ends_from at ps = ends_at at at ps ∙ go (trim_end ps)
  where
    go : (qs : List Subsequence) → cond (is_empty qs) at (at + length (each bytes qs)) ≡ at + length (each bytes qs)
    go [] = sym (add-zero at)
    go (q ∷ qs) = refl

module _ (s : List ℕ) (from : ℕ) (f : subsequences_from s from ≡ trim_start (subsequences s)) where
  rest : drop from s ≡ each bytes (trim_start (subsequences s))
  unfolding subsequences_from
  rest = sym (subsequences_bytes (drop from s)) ∙ ap (each bytes) f

  -- the part's bytes, and where they begin
  pub part_is : (end : ℕ) → end ≡ text_end from from (subsequences_from s from) → take (end - from) (drop from s) ≡ trim s
  unfolding trim
  part_is end e =
      let ps = trim_start (subsequences s) in
      let long : end - from ≡ length (each bytes (trim_end ps)) = rw (e, f, ends_from from ps) (add-sub_cancel_left from (length (each bytes (trim_end ps)))) in
      rw (long, rest, end_split ps) (take-append_seam (each bytes (trim_end ps)) (each bytes (end_white ps)))

  pub part_start : from ≤ length s → from ≡ length (each bytes (start_white (subsequences s)))
  part_start h =
      let ps = subsequences s in
      let whole = ap length (sym (subsequences_bytes s) ∙ start_split ps) ∙ length-append (each bytes (start_white ps)) (each bytes (trim_start ps)) in
      let left = sym (length-drop from s) ∙ ap length rest in
      omega arith
