-- A turn stores two samples more, the last value of an odd number gives one more, and then all are restored.
use mathlib.Core.Path.{◌≡◌, ap, ◌∙◌}
use mathlib.Core.List.{List}
use Prim.Native.Nat.{ℕ, ◌+◌, ◌-◌, ◌/◌, ◌%◌, ◌<◌, min}
use native.Mathlib.Omega.{arith}
use borrow.Author.Rules.{rules}
use lib.IntN.{ℤ, pos}
use lib.ListN.{length, take, drop, get_or}
use lib.Signed.{mag}
use mir.Syntax.{w8}
use mir.Val.{to_z}
use Rattle.laws.specs.Turns.{by_turns}
use Rattle.laws.proofs.Signed.{back}
use Rattle.laws.proofs.TurnLaws.{turns_length, by_turns_last}
use Rattle.vault.proofs.OctaveLaws.{first_known, turn_at, restore_turn, restore_left, restore_last, restore_ended}
use Rattle.vault.proofs.octave.RestoreConversion.convert.Goals as goal

-- the parts are those of the octave
parts : (given evens odds : List ℤ) (n : ℕ) → n ≡ length given / 2 + min 1 (length given % 2) → evens ≡ take n given → odds ≡ drop n given
    → (evens ≡ take ((length given + 1) / 2) given) × (odds ≡ drop ((length given + 1) / 2) given)
parts given evens odds n e front back =
    let half : n ≡ (length given + 1) / 2 = omega arith in
    (front ∙ ap (λ (k : ℕ). take k given) half, back ∙ ap (λ (k : ℕ). drop k given) half)

pub loop-i-preserved : goal.loop-i-preserved
loop-i-preserved c =
    let l = c.loop-i in
    let i = l.i in
    let evens = c.split_at.result.0.now in
    let odds = c.split_at.result.1.now in
    let values = by_turns evens odds in
    let read : mag (get_or evens i (pos 0)) < 128 = search rules in
    let read_second : mag (get_or odds i (pos 0)) < 128 = search rules in
    let x_is = back w8 {z = get_or evens i (pos 0)} read in
    let y_is = back w8 {z = get_or odds i (pos 0)} read_second in
    let a_is = rw x_is at (back w8 c.sample_sum-first.type_inv ∙ c.sample_sum-first.ensures) in
    let b_is = rw y_is at (back w8 c.sample_sum-second.type_inv ∙ c.sample_sum-second.ensures) in
    let next = turn_at evens odds i (omega arith) (omega arith) in
    let before = to_z w8 l.before-bits in (
      restore_turn values c.args.out.now l.out i before l.invariant.0 l.invariant.1 _ _ _ _ a_is b_is next (omega arith),
      restore_left values c.args.out.now l.out i before l.invariant.0 l.invariant.1 _ _ _ _ a_is b_is next,
      λ h. first_known values _ i _ l.invariant.2 next (record { sfits = read }),
    )

pub returns-then-odds-evens : goal.returns-then-odds-evens
returns-then-odds-evens c =
    let l = c.loop-i in
    let i = l.i in
    let given = c.args.values.now in
    let held = c.args.out.now in
    let evens = c.split_at.result.0.now in
    let odds = c.split_at.result.1.now in
    let values = by_turns evens odds in
    let read : mag (get_or evens (length odds) (pos 0)) < 128 = search rules in
    let end : length odds ≡ i = omega arith in
    let fits = rw end at read in
    let x_is = back w8 {z = get_or evens i (pos 0)} fits in
    let a_is = rw (end, x_is) at (back w8 c.sample_sum.type_inv ∙ c.sample_sum.ensures) in
    let next = by_turns_last evens odds i (pos 0) end (omega arith) in
    let done = restore_last values held l.out i (to_z w8 l.before-bits) l.invariant.0 l.invariant.1 _ _ (length given - 1) a_is next (omega arith) (omega arith) in
    let p = parts _ _ _ _ c.div_ceil.ensures c.split_at.ensures.front c.split_at.ensures.back in
    restore_ended given evens odds held _ (i + i + 1) p.0 p.1 (λ h. first_known values _ i _ l.invariant.2 next (record { sfits = fits })) (omega arith) (omega arith) done

pub returns-else-odds-evens : goal.returns-else-odds-evens
returns-else-odds-evens c =
    let l = c.loop-i in
    let i = l.i in
    let evens = c.split_at.result.0.now in
    let odds = c.split_at.result.1.now in
    let p = parts _ _ _ _ c.div_ceil.ensures c.split_at.ensures.front c.split_at.ensures.back in
    restore_ended c.args.values.now evens odds c.args.out.now l.out (i + i) p.0 p.1 (λ h. l.invariant.2 (omega (arith, turns_length evens odds))) (omega arith) (omega arith) l.invariant.0
