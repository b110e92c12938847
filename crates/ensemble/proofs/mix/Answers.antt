-- `ensemble::mix` meets its contract: the score's own rules decide, then the sheet's verdict, then the other rules; an accepted block is
-- `mixed_block`'s.
use Prim.Native.Nat.{◌/◌}
use mathlib.Core.Path.{sym, ap, ◌∙◌}
use lib.ListN.{length}
use Rattle.sheet.specs.Read.{read_sheet}
use Rattle.body_read.specs.Sides.{Sides}
use Rattle.note_frame.proofs.FramesLaws.{frames_length}
use Rattle.ensemble_rules.proofs.RuleLaws.{mix_first}
use Rattle.ensemble_block.specs.Mixed.{mixed_frame}
use Rattle.ensemble.specs.Mix.{place_after}
use Rattle.ensemble.proofs.AcceptedLaws.{mixable}
use Rattle.ensemble.proofs.MixLaws.{mix_refused, mix_accepted, by_score, by_sheet, by_voice, refused_leaves, accepted_leaves}
use Rattle.ensemble.proofs.mix.Goals as goal
use Rattle.std.proofs.lemmas.Result.{err_from_is_err_and}
use Rattle.std.specs.Prelude.{Ok}

pub returns-in_err-score_refusal : goal.returns-in_err-score_refusal
returns-in_err-score_refusal c =
    let a = c.args in
    let s : Sides = record { left = a.left.now; right = a.right.now } in
    let p = err_from_is_err_and c.from_residual.result c.from_residual.ensures.1 in
    let e = by_score a.score.now a.rate a.place a.sheet.now s (length a.out.now) _ (sym c.score_refusal.ensures ∙ c.in_err-score_refusal.was) in
    let left = refused_leaves a.score.now a.rate a.place a.sheet.now s a.out.now _ e in
    record { answer = rw (p.1, p.2) left.0; buffer = left.1 }

pub returns-in_err-judge_sheet : goal.returns-in_err-judge_sheet
returns-in_err-judge_sheet c =
    let a = c.args in
    let s : Sides = record { left = a.left.now; right = a.right.now } in
    let own = sym c.score_refusal.ensures ∙ c.in_ok-score_refusal.was in
    let p = err_from_is_err_and c.from_residual-in_err-judge_sheet.result c.from_residual-in_err-judge_sheet.ensures.1 in
    let e = by_sheet a.score.now a.rate a.place a.sheet.now s (length a.out.now) own _ (sym c.judge_sheet.ensures ∙ c.in_err-judge_sheet.was) in
    let left = refused_leaves a.score.now a.rate a.place a.sheet.now s a.out.now _ e in
    record { answer = rw (p.1, p.2) left.0; buffer = left.1 }

pub returns-in_err-play_refusal : goal.returns-in_err-play_refusal
returns-in_err-play_refusal c =
    let a = c.args in
    let s : Sides = record { left = a.left.now; right = a.right.now } in
    let v = read_sheet a.sheet.now in
    let n = length a.out.now in
    let own = sym c.score_refusal.ensures ∙ c.in_ok-score_refusal.was in
    let sound = sym c.judge_sheet.ensures ∙ c.in_ok-judge_sheet.was in
    let p = err_from_is_err_and c.from_residual-in_err-play_refusal.result c.from_residual-in_err-play_refusal.ensures.1 in
    let first =
    mix_first v (length a.left.now) (length a.right.now) a.score.now a.rate n own
    ∙ sym c.play_refusal.ensures ∙ c.in_err-play_refusal.was
    in
    let e = by_voice a.score.now a.rate a.place a.sheet.now s n own sound ∙ mix_refused a.score.now a.rate a.place v s n _ first in
    let left = refused_leaves a.score.now a.rate a.place a.sheet.now s a.out.now _ e in
    record { answer = rw (p.1, p.2) left.0; buffer = left.1 }

pub mixed_block-requires : goal.mixed_block-requires
mixed_block-requires c =
    let a = c.args in
    mixable a.score.now a.rate a.sheet.now _ a.left.now a.right.now (length a.out.now)
    (sym c.judge_sheet.ensures ∙ c.in_ok-judge_sheet.was) c.layout_of-l.ensures
    (sym c.score_refusal.ensures ∙ c.in_ok-score_refusal.was) (sym c.play_refusal.ensures ∙ c.in_ok-play_refusal.was)

pub returns : goal.returns
returns c =
    let a = c.args in
    let s : Sides = record { left = a.left.now; right = a.right.now } in
    let v = read_sheet a.sheet.now in
    let n = length a.out.now in
    let own = sym c.score_refusal.ensures ∙ c.in_ok-score_refusal.was in
    let sound = sym c.judge_sheet.ensures ∙ c.in_ok-judge_sheet.was in
    let first =
    mix_first v (length a.left.now) (length a.right.now) a.score.now a.rate n own
    ∙ sym c.play_refusal.ensures ∙ c.in_ok-play_refusal.was
    in
    let e = by_voice a.score.now a.rate a.place a.sheet.now s n own sound ∙ mix_accepted a.score.now a.rate a.place v s n first in
    let left = accepted_leaves a.score.now a.rate a.place a.sheet.now s a.out.now _ e in
    let count = frames_length (mixed_frame v s a.rate a.score.now) a.place (n / 2) in
    record { answer = ap Ok (c.place_after.ensures ∙ ap (place_after a.place) (sym count)) ∙ left.0; buffer = c.mixed_block.ensures ∙ left.1 }
