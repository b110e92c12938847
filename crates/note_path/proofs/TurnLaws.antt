-- The turns of a loop: the one-shot part and the first turn lie side by side, and so does each turn after them.
--     loop_once                             a loop that is n samples once
--     turn_first, turn_none, turn_later     the run that has step q: the first turn; none, without a repeat part; a later turn
-- Assumes nothing.
use Prim.Native.Nat.{ℕ, zero, suc, ◌+◌, ◌-◌, ◌*◌, ◌/◌, ◌%◌, ◌≤◌, ◌<◌}
use mathlib.Core.Bool.{Bool, true, false, true≢false}
use mathlib.Core.List.{List}
use mathlib.Core.Path.{◌≡◌, refl, sym, ap, ◌∙◌}
use native.Mathlib.Nat.{mod-eq_of_lt, mod-lt, mod-add-div', add-mul-mod_self_right, zero-add, sub-zero}
use native.Mathlib.Omega.{arith}
use borrow.Author.Tests.{le-ltb, ltb-false, eq-eqb, ne_eqb}
use lib.Dec.{ltb}
use Rattle.note_path.specs.Path.{loop_path, samples_path}
use Rattle.note_path.specs.Run.{Sane, Reached}
use Rattle.note_path.specs.declared.run.Path.{Path}
use Rattle.note_path.proofs.RunLaws.{place_loop}
use Rattle.std.specs.Prelude.{None, Option, Some}

pos_of_ne : (n : ℕ) → (n ≡ 0 → ⊥) → 0 < n
pos_of_ne zero h = absurd (h refl)
pos_of_ne (suc n) h = omega arith

-- ---- where the steps of a loop lie

-- a one-shot part from the samples' start on, without a repeat part
pub loop_once : (n q : ℕ) → loop_path 0 n 0 q ≡ samples_path n q
unfolding loop_path samples_path
loop_once n q = rw zero-add

module _ (first one_shot repeat : ℕ) where
  loop_first : (u : ℕ) → u < one_shot + repeat → loop_path first one_shot repeat u ≡ Some (first + u)
  unfolding loop_path
  loop_first u h = go (ltb u one_shot) refl
    where
      go : (f : Bool) → ltb u one_shot ≡ f → loop_path first one_shot repeat u ≡ Some (first + u)
      go true e = rw e
      go false e =
          let k = ltb-false u one_shot e in
          let w : first + one_shot + (u - one_shot) ≡ first + u = omega arith in
          rw (e, ne_eqb repeat 0 (λ z. omega arith), mod-eq_of_lt {n = u - one_shot} {m = repeat} (omega arith), w)

  loop_past : (u : ℕ) → one_shot ≤ u → repeat ≡ 0 → loop_path first one_shot repeat u ≡ None
  unfolding loop_path
  loop_past u h z = rw (le-ltb u one_shot h, eq-eqb repeat 0 z)

  -- where the turn that has step q begins
  abbrev turn_from : ℕ → ℕ
  turn_from q = q - (q - one_shot) % repeat

  turn_from_lem : (q : ℕ) → one_shot ≤ q → turn_from q ≡ one_shot + (q - one_shot) / repeat * repeat
  turn_from_lem q h = omega (arith, mod-add-div' (q - one_shot) repeat)

  loop_turn : (q u : ℕ) → one_shot ≤ q → 0 < repeat → turn_from q ≤ u → u < turn_from q + repeat
      → loop_path first one_shot repeat u ≡ Some (first + one_shot + (u - turn_from q))
  unfolding loop_path
  loop_turn q u h z g₁ g₂ =
      let k = (q - one_shot) / repeat in
      let t = turn_from_lem q h in
      let split : u - one_shot ≡ (u - turn_from q) + k * repeat = omega arith in
      let in_turn : (u - one_shot) % repeat ≡ u - turn_from q =
      ap (λ (x : ℕ). x % repeat) split ∙ add-mul-mod_self_right (u - turn_from q) k repeat ∙ mod-eq_of_lt (omega arith)
      in
      rw (le-ltb u one_shot (omega arith), ne_eqb repeat 0 (λ e. omega arith), in_turn)

-- ---- the runs of a loop

module _ (p : Path) (part : List ℕ) (q : ℕ) (s : Sane p part) (t : p.sequence ≡ false) where
  abbrev loop : ℕ → Option ℕ
  loop = loop_path p.first p.one_shot p.repeat

  -- a stretch whose steps lie side by side
  stretch : (from until start : ℕ) → from ≤ q → from ≤ until → start + (until - from) ≤ p.samples
      → ((u : ℕ) → from ≤ u → u < until → loop u ≡ Some (start + (u - from))) → (until ≤ q → loop q ≡ None)
      → Reached p part q (record { at = 0; from = from; until = until; start = start })
  stretch from until start h₁ h₂ h₃ lies past =
      record {
        good = record {
          inside = omega arith;
          order = h₂;
          within = h₃;
          here = λ u g₁ g₂. place_loop p part u t ∙ lies u g₁ g₂;
          rest = s.segments;
          whole = s.whole;
          later = λ t'. absurd (true≢false (sym t' ∙ t));
        };
        begun = h₁;
        past = λ g. place_loop p part q t ∙ past g;
      }

  pub turn_first : q < p.one_shot + p.repeat → Reached p part q (record { at = 0; from = 0; until = p.one_shot + p.repeat; start = p.first })
  turn_first h =
      stretch 0 (p.one_shot + p.repeat) p.first (omega arith) (omega arith) (omega (arith, s.looped))
      (λ u g₁ g₂. rw sub-zero (loop_first p.first p.one_shot p.repeat u g₂))
      (λ g. absurd (omega arith))

  pub turn_none : p.one_shot + p.repeat ≤ q → p.repeat ≡ 0 → Reached p part q (record { at = 0; from = q; until = q; start = p.first })
  turn_none h z =
      stretch q q p.first (omega arith) (omega arith) (omega (arith, s.looped))
      (λ u g₁ g₂. absurd (omega arith))
      (λ g. loop_past p.first p.one_shot p.repeat q (omega arith) z)

  pub turn_later : (from : ℕ) → from ≡ q - (q - p.one_shot) % p.repeat → p.one_shot + p.repeat ≤ q → (p.repeat ≡ 0 → ⊥)
      → Reached p part q (record { at = 0; from = from; until = from + p.repeat; start = p.first + p.one_shot })
  turn_later from is h nz =
      let z : 0 < p.repeat = pos_of_ne p.repeat nz in
      let e = turn_from_lem p.first p.one_shot p.repeat q (omega arith) in
      let l = mod-lt (q - p.one_shot) z in
      rw is
      (stretch _ _ _ (omega arith) (omega arith) (omega (arith, s.looped))
      (λ u g₁ g₂. loop_turn p.first p.one_shot p.repeat q u (omega arith) z g₁ g₂)
      (λ g. absurd (omega arith)))
