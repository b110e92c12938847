-- `vault::channel::convert_octaves` meets its contract: where hi = 0 the channel is its only octave, and else it has all of them, one after the other.
use mathlib.Core.Bool.{true, false}
use mathlib.Core.List.{List}
use mathlib.Core.Path.{◌≡◌, refl, sym, ◌∙◌}
use Prim.Native.Nat.{ℕ, ◌+◌, ◌-◌, ◌≤◌, ◌<◌}
use native.Mathlib.Omega.{arith}
use lib.IntN.{ℤ}
use lib.ListN.{length, drop, length-drop}
use lib.Seq.{length-take-le}
use Rattle.header.specs.Octaves.{hi, total_samples}
use Rattle.header.specs.declared.voice_header.VoiceHeader.{VoiceHeader}
use Rattle.body_read.specs.Sides.{lengths_suit}
use Rattle.vault.proofs.ChannelLaws.{Reached, sole_each, suited_all, reached_none, reached_end, reached_next, reached_length, reached_all}
use Rattle.vault.proofs.channel.convert_octaves.Goals as goal

-- where hi isn't 0, as its reading n says, the channel has all octaves
module _ (h : VoiceHeader) (channel : List ℤ) (suits : lengths_suit h false (length channel) 0 ≡ true) (n : ℕ) (is : n ≡ hi h) (more : n ≡ 0 → ⊥) where
  some : hi h ≡ 0 → ⊥
  some e = more (is ∙ e)

  all : length channel ≡ total_samples h
  all = suited_all h (length channel) suits some

  -- before the end the next octave ends within the channel
  end : (f : List ℤ → List ℤ) (held out : List ℤ) (at : ℕ) → Reached f h channel held out at → at < length channel → at + (at + hi h) ≤ length channel
  end f held out at r = reached_end f h some channel all held out at r

pub returns-then-hi_octave_samples-eq0 : goal.returns-then-hi_octave_samples-eq0
returns-then-hi_octave_samples-eq0 g c = c.convert.ensures ∙ sym (sole_each g.C.Conversion.converted c.args.h _ (sym c.hi_octave_samples.ensures ∙ c.if-hi_octave_samples-eq0.true))

pub loop-at-init : goal.loop-at-init
loop-at-init g c = (omega arith, refl, reached_none g.C.Conversion.converted c.args.h c.args.channel.now c.args.out.now)

pub octave_end-end-requires : goal.octave_end-end-requires
octave_end-end-requires g c =
    let a = c.args in
    let l = c.loop-at in
    omega (arith, end a.h a.channel.now c.requires.0 _ c.hi_octave_samples.ensures c.if-hi_octave_samples-eq0.false _ a.out.now l.out l.at l.invariant.2 c.loop-at-test.true)

pub slice_bounds-convert-end : goal.slice_bounds-convert-end
slice_bounds-convert-end g c =
    let a = c.args in
    let l = c.loop-at in
    omega (arith, c.octave_end-end.ensures, end a.h a.channel.now c.requires.0 _ c.hi_octave_samples.ensures c.if-hi_octave_samples-eq0.false _ a.out.now l.out l.at l.invariant.2 c.loop-at-test.true)

pub loop-at-preserved : goal.loop-at-preserved
loop-at-preserved g c =
    let a = c.args in
    let h = a.h in
    let channel = a.channel.now in
    let l = c.loop-at in
    let at = l.at in
    let ended = c.octave_end-end in
    let more = c.loop-at-test.true in
    let f = g.C.Conversion.converted in
    let there = some h channel c.requires.0 _ c.hi_octave_samples.ensures c.if-hi_octave_samples-eq0.false in
    let whole = all h channel c.requires.0 _ c.hi_octave_samples.ensures c.if-hi_octave_samples-eq0.false in
    let within : at + (at + hi h) ≤ length channel = reached_end f h there channel whole a.out.now l.out at l.invariant.2 more in
    let is = c.convert-in-loop-at.ensures in
    let n = ended.result - at in
    -- an octave's buffer keeps its length
    let long : length c.convert-in-loop-at.new.out ≡ n =
    c.convert-in-loop-at.auto.out ∙ length-take-le n (drop at l.out) (omega (arith, length-drop at l.out, ended.ensures)) in (
      omega (arith, ended.ensures),
      reached_length f h there channel whole a.out.now l.out at l.invariant.2 more c.requires.1 l.invariant.1 _ ended.result n ended.ensures refl is long,
      reached_next f h there channel whole a.out.now l.out at l.invariant.2 more c.requires.1 l.invariant.1 _ ended.result n ended.ensures refl is,
    )

pub returns : goal.returns
returns g c =
    let a = c.args in
    let there = some a.h a.channel.now c.requires.0 _ c.hi_octave_samples.ensures c.if-hi_octave_samples-eq0.false in
    let whole = all a.h a.channel.now c.requires.0 _ c.hi_octave_samples.ensures c.if-hi_octave_samples-eq0.false in
    reached_all g.C.Conversion.converted a.h there a.channel.now whole a.out.now c.loop-at.out c.loop-at.at c.loop-at.invariant.2 (omega arith) c.requires.1
