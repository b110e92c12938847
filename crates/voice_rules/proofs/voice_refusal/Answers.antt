-- `voice_rules::voice_refusal` meets its contract: the header and the channel that were read are the voice's, and each rule
-- that the code has passed doesn't hold.
use Prim.Native.Nat.{ℕ, ◌^◌, ◌≤◌, ◌<◌}
use mathlib.Core.Bool.{Bool, not}
use mathlib.Core.Path.{◌≡◌, sym, ap, ◌∙◌}
use borrow.Author.Tests.{lt-ltb, le-ltb, le-leb, lt-leb}
use lib.Dec.{leb, ltb}
use Rattle.header.specs.Octaves.{total_samples}
use Rattle.header.specs.declared.voice_header.VoiceHeader.{VoiceHeader}
use Rattle.header.proofs.OctaveLaws.{total_is, total_not}
use Rattle.sheet.specs.Read.{read_sheet}
use Rattle.sheet.specs.Voice.{Voice, is_stereo}
use Rattle.body_read.specs.Sides.{lengths_suit}
use Rattle.voice_rules.specs.Rules.{voice_rules}
use Rattle.std.proofs.lemmas.Result.{err_from_is_err_and}
use Rattle.refusal.proofs.RuleLaws.{Passed, first_here, first_later, first_none}
use Rattle.voice_rules.proofs.voice_refusal.Goals as goal

-- a voice, its sides' lengths, and the header h that was read
module _ (v : Voice) (left right : ℕ) {h : VoiceHeader} (e : h ≡ v.header) where
  compression_passed : h.compression_byte ≤ 1 → Passed 1 (voice_rules v left right)
  compression_passed known = first_later _ _ (rw (← e) (le-ltb 1 h.compression_byte known))

  total_passed : h.compression_byte ≤ 1 → total_samples h < 2 ^ 64 → Passed 2 (voice_rules v left right)
  total_passed known small = compression_passed known ∙ first_later _ _ (rw (← e) (lt-leb (2 ^ 64) (total_samples h) small))

  -- the lengths are judged by the header and the channel that were read
  suits : {stereo suited : Bool} → stereo ≡ is_stereo v.channel → suited ≡ lengths_suit h stereo left right
      → lengths_suit v.header (is_stereo v.channel) left right ≡ suited
  suits channel judged = cc

pub returns-then-h-gt1 : goal.returns-then-h-gt1
returns-then-h-gt1 c =
    let read = c.sheet_header-h in
    sym (first_here _ _ (rw (← read.ensures) (lt-ltb 1 read.result.compression_byte c.if-h-gt1.true)))

pub returns-then-is_suited : goal.returns-then-is_suited
returns-then-is_suited c =
    let a = c.args in
    let v = read_sheet a.sheet.now in
    let read = c.sheet_header-h in
    let small = total_is read.result _ (sym c.total_samples_per_channel.ensures ∙ c.in_ok-total_samples_per_channel.was) in
    let tested = suits v a.left a.right read.ensures c.sheet_stereo.ensures c.is_suited.ensures ∙ c.if-is_suited.true in
    sym (total_passed v a.left a.right read.ensures c.if-h-gt1.false small.0 ∙ first_later _ _ (ap not tested) ∙ first_none)

pub returns-in_err-total_samples_per_channel : goal.returns-in_err-total_samples_per_channel
returns-in_err-total_samples_per_channel c =
    let a = c.args in
    let read = c.sheet_header-h in
    let large = total_not read.result _ (sym c.total_samples_per_channel.ensures ∙ c.in_err-total_samples_per_channel.was) in
    let passed = compression_passed (read_sheet a.sheet.now) a.left a.right read.ensures c.if-h-gt1.false in
    let p = err_from_is_err_and c.from_residual.result c.from_residual.ensures.1 in
    rw (p.1, p.2, ← large.1) (sym (passed ∙ first_here _ _ (rw (← read.ensures) (le-leb (2 ^ 64) (total_samples read.result) large.0))))

pub returns : goal.returns
returns c =
    let a = c.args in
    let v = read_sheet a.sheet.now in
    let read = c.sheet_header-h in
    let small = total_is read.result _ (sym c.total_samples_per_channel.ensures ∙ c.in_ok-total_samples_per_channel.was) in
    let tested = suits v a.left a.right read.ensures c.sheet_stereo.ensures c.is_suited.ensures ∙ c.if-is_suited.false in
    sym (total_passed v a.left a.right read.ensures c.if-h-gt1.false small.0 ∙ first_here _ _ (ap not tested))
