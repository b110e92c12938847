-- `vault::channel::channel_refusal` meets its contract: each rule that the code has passed doesn't hold.
use Prim.Native.Nat.{◌^◌}
use mathlib.Core.Bool.{not}
use mathlib.Core.Path.{sym, ap, ◌∙◌}
use borrow.Author.Tests.{le-leb, lt-leb}
use Rattle.std.proofs.lemmas.Result.{err_from_is_err_and}
use Rattle.refusal.proofs.RuleLaws.{Passed, first_here, first_later, first_none}
use Rattle.header.specs.Octaves.{total_samples}
use Rattle.header.proofs.OctaveLaws.{total_is, total_not}
use Rattle.vault.specs.DifferenceOrder.{channel_rules}
use Rattle.vault.proofs.channel.channel_refusal.Goals as goal
use Rattle.vault.proofs.channel.channel_refusal.Goals.{In_ok-total_samples_per_channel}

total_passed : (c : In_ok-total_samples_per_channel) → let a = c.args in Passed 1 (channel_rules a.h a.n)
total_passed c =
    let h = c.args.h in
    let small = total_is h _ (sym c.total_samples_per_channel.ensures ∙ c.in_ok-total_samples_per_channel.was) in
    first_later _ _ (lt-leb (2 ^ 64) (total_samples h) small.0)

pub returns-in_err-total_samples_per_channel : goal.returns-in_err-total_samples_per_channel
returns-in_err-total_samples_per_channel c =
    let h = c.args.h in
    let large = total_not h _ (sym c.total_samples_per_channel.ensures ∙ c.in_err-total_samples_per_channel.was) in
    let p = err_from_is_err_and c.from_residual.result c.from_residual.ensures.1 in
    rw (p.1, p.2, ← large.1) (sym (first_here _ _ (le-leb (2 ^ 64) (total_samples h) large.0)))

pub returns-then-is_suited : goal.returns-then-is_suited
returns-then-is_suited c =
    sym (total_passed (goal.at.returns-then-is_suited c).In_ok-total_samples_per_channel ∙ first_later _ _ (ap not (sym c.is_suited.ensures ∙ c.if-is_suited.true)) ∙ first_none)

pub returns : goal.returns
returns c = sym (total_passed (goal.at.returns c).In_ok-total_samples_per_channel ∙ first_here _ _ (ap not (sym c.is_suited.ensures ∙ c.if-is_suited.false)))
