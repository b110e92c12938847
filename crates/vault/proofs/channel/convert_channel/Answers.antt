-- `vault::channel::convert_channel` meets its contract: a rule that holds turns the channel back, and else the octaves fill the front of the buffer
-- or don't fit.
use mathlib.Core.Bool.{true, false}
use mathlib.Core.Path.{◌≡◌, sym, ap, ◌∙◌}
use mathlib.Core.List.{List, ◌++◌}
use native.Mathlib.Omega.{arith}
use lib.IntN.{ℤ}
use lib.ListN.{length, drop}
use lib.Seq.{length-take-le}
use Rattle.header.specs.declared.voice_header.VoiceHeader.{VoiceHeader}
use Rattle.body_read.specs.Sides.{lengths_suit}
use Rattle.refusal.specs.Rules.{first_holding}
use Rattle.std.proofs.lemmas.Result.{err_from_is_err_and}
use Rattle.refusal.proofs.OutcomeLaws.{outcome_refused, outcome_fits, outcome_short}
use Rattle.vault.specs.DifferenceOrder.{each_octave, channel_rules, by_octave}
use Rattle.vault.proofs.JudgeLaws.{by_refused, by_gives, none_suits, each_long}
use Rattle.vault.proofs.channel.convert_channel.Goals as goal
use Rattle.std.specs.Prelude.{Ok}

-- no rule turns the channel back
module _ (f : List ℤ → List ℤ) (h : VoiceHeader) (channel : List ℤ) (none : first_holding (channel_rules h (length channel)) ≡ Ok tt) where
  suits : lengths_suit h false (length channel) 0 ≡ true
  suits = none_suits h (length channel) none

  long : ((octave : List ℤ) → length (f octave) ≡ length octave) → length channel ≡ length (each_octave f h channel)
  long same = sym (each_long f same h channel suits)

pub returns-in_err-channel_refusal : goal.returns-in_err-channel_refusal
returns-in_err-channel_refusal g c =
    let a = c.args in
    let f = g.C.Conversion.converted in
    let p = err_from_is_err_and c.from_residual.result c.from_residual.ensures.1 in
    let refused = outcome_refused (by_octave f a.h a.channel.now) a.out.now _ (by_refused f a.h a.channel.now _ (sym c.channel_refusal.ensures ∙ c.in_err-channel_refusal.was)) in
    record { result = rw (p.1, p.2) refused.0; buffer = refused.1 }

pub returns-then-out-n : goal.returns-then-out-n
returns-then-out-n g c =
    let a = c.args in
    let f = g.C.Conversion.converted in
    let none = sym c.channel_refusal.ensures ∙ c.in_ok-channel_refusal.was in
    let short =
    outcome_short (by_octave f a.h a.channel.now) a.out.now (each_octave f a.h a.channel.now) (by_gives f a.h a.channel.now none)
    (length a.channel.now) (long f a.h a.channel.now none c.requires) c.if-out-n.true
    in
    record { result = short.0; buffer = short.1 }

pub convert_octaves-requires : goal.convert_octaves-requires
convert_octaves-requires g c =
    let a = c.args in
    let none = sym c.channel_refusal.ensures ∙ c.in_ok-channel_refusal.was in
    (suits g.C.Conversion.converted a.h a.channel.now none, length-take-le (length a.channel.now) a.out.now (omega arith))

pub returns : goal.returns
returns g c =
    let a = c.args in
    let f = g.C.Conversion.converted in
    let done = each_octave f a.h a.channel.now in
    let none = sym c.channel_refusal.ensures ∙ c.in_ok-channel_refusal.was in
    let as_long = long f a.h a.channel.now none c.requires in
    let rest = drop (length a.channel.now) a.out.now in
    let fits =
    outcome_fits (by_octave f a.h a.channel.now) a.out.now done (by_gives f a.h a.channel.now none) (length a.channel.now) as_long
    (c.convert_octaves.new.out ++ rest) (omega arith) (rw (← as_long) (ap (λ (l : List ℤ). l ++ rest) c.convert_octaves.ensures))
    in
    record { result = fits.0; buffer = fits.1 }
