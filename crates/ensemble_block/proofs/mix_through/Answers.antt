-- A stretch is lent its part of the buffer and of the sums, and leaves its frames and zeros; past the last one the buffer is silenced.
use Prim.Native.Nat.{ℕ, ◌+◌, ◌-◌, ◌*◌, ◌/◌, ◌≤◌, ◌<◌}
use mathlib.Core.List.{List}
use mathlib.Core.Path.{◌≡◌, refl, ap, ◌∙◌}
use native.Mathlib.Omega.{arith}
use lib.IntN.{ℤ, pos}
use lib.ListN.{length, take, drop, replicate}
use Rattle.body_read.specs.Sides.{Sides}
use Rattle.sheet.specs.Read.{read_sheet}
use Rattle.ensemble_block.specs.Mixed.{mixed_frame}
use Rattle.ensemble_block.proofs.BlockLaws.{filled_to, filled_none, filled_more, filled_whole, filled_length, part_length, take_zeros, zeros_back, stretch_ready}
use Rattle.ensemble_block.proofs.MixedLaws.{mixed_last}
use Rattle.ensemble_block.proofs.mix_through.Goals as goal

-- the part of the buffer of a stretch from `at` to `next`
abbrev part : ℕ → ℕ → ℕ → List ℤ → List ℤ
part place at next out = take (2 * (next - place) - 2 * (at - place)) (drop (2 * (at - place)) out)

module _ (place at next : ℕ) (first : place ≤ at) (further : at < next) where
  part_long : (out : List ℤ) → 2 * (next - place) ≤ length out → length (part place at next out) ≡ 2 * (next - at)
  part_long out inside = part_length (2 * (at - place)) (2 * (next - place)) out (omega arith) inside ∙ omega arith

  -- its part of the sums
  totals_are : (many : ℕ) (sums : List ℤ) → 2 * (next - at) ≤ many → sums ≡ replicate many (pos 0) → take (2 * (next - at) - 0) sums ≡ replicate (2 * (next - at)) (pos 0)
  totals_are many sums few zeros =
      let all : 2 * (next - at) - 0 ≡ 2 * (next - at) = omega arith in
      take_zeros (2 * (next - at) - 0) many sums (omega arith) zeros ∙ ap (λ (n : ℕ). replicate n (pos 0)) all

pub loop-at-init : goal.loop-at-init
loop-at-init c =
    let a = c.args in
    let s : Sides = record { left = a.left.now; right = a.right.now } in
    let frames = mixed_frame (read_sheet a.sheet.now) s a.rate a.score.now in
    (omega arith, omega arith, refl, filled_none frames a.place a.out.now, c.requires.3)

pub mix_stretch-requires : goal.mix_stretch-requires
mix_stretch-requires c =
    let a = c.args in
    let o = c.loop-at in
    let at = o.at in
    let next = c.stretch_end-next.result in
    let e = c.stretch_end-next.ensures in
    let first = o.invariant.0 in
    let in_time : a.place + c.min.result ≤ 4294967295 = omega (arith, c.min.ensures, c.ranges.place) in
    let room : 2 * (next - a.place) ≤ length a.out.now = omega (arith, c.min.ensures, e.within) in
    let inside : 2 * (next - a.place) ≤ length o.out = rw o.invariant.2 room in
    let few : 2 * (next - at) ≤ length a.sums.now = omega (arith, e.short) in
    let ready =
    stretch_ready a.score.now a.rate at next _ _ a.sheet.now a.l a.left.now a.right.now _ _ c.requires.0 e in_time
    (part_long a.place at next first e.some o.out inside) (totals_are a.place at next first e.some (length a.sums.now) o.sums few o.invariant.4)
    in
    (ready, c.requires.1)

pub loop-at-preserved : goal.loop-at-preserved
loop-at-preserved c =
    let a = c.args in
    let s : Sides = record { left = a.left.now; right = a.right.now } in
    let frames = mixed_frame (read_sheet a.sheet.now) s a.rate a.score.now in
    let o = c.loop-at in
    let at = o.at in
    let next = c.stretch_end-next.result in
    let e = c.stretch_end-next.ensures in
    let first = o.invariant.0 in
    let room : 2 * (next - a.place) ≤ length a.out.now = omega (arith, c.min.ensures, e.within) in
    let inside : 2 * (next - a.place) ≤ length o.out = rw o.invariant.2 room in
    let few : 2 * (next - at) - 0 ≤ length a.sums.now = omega (arith, e.short) in
    let long = part_long a.place at next first e.some o.out inside in
    let half : length (part a.place at next o.out) / 2 ≡ next - at = omega (arith, long) in
    let further : at ≤ next = omega (arith, e.some) in
    let filled = filled_more frames a.place a.out.now at next _ o.out _ first further o.invariant.3 half c.mix_stretch.ensures.out in (
      omega (arith, first, further),
      e.within,
      ap length filled ∙ filled_length frames a.place a.out.now next room,
      filled,
      zeros_back (2 * (next - at) - 0) (length a.sums.now) o.sums _ few o.invariant.4 c.mix_stretch.ensures.sums,
    )

pub returns : goal.returns
returns c =
    let a = c.args in
    let s : Sides = record { left = a.left.now; right = a.right.now } in
    let v = read_sheet a.sheet.now in
    let frames = mixed_frame v s a.rate a.score.now in
    let o = c.loop-at in
    let end = a.place + c.min.result in
    let last : o.at ≡ end = omega (arith, o.invariant.1, c.loop-at-test.false) in
    let ends = mixed_last v s a.rate a.score.now in
    filled_whole frames a.place a.out.now ends (omega (arith, c.ranges.place)) c.requires.2 end (ap (λ (n : ℕ). a.place + n) c.min.ensures)
    o.out _ (o.invariant.3 ∙ ap (filled_to frames a.place a.out.now) last) o.invariant.2 c.silence_from.ensures
