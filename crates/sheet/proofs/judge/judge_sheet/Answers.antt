-- The record in hand, or the sheet's end, and what the laws of JudgeLaws make of it.
use mathlib.Core.Path.{sym, ap, ◌∙◌}
use native.Mathlib.Omega.{arith}
use Rattle.std.proofs.lemmas.Result.{err_from_is_err_and}
use Rattle.std.specs.Prelude.{Ok}
use Rattle.refusal.specs.Outcome.{accepted}
use Rattle.sheet.proofs.JudgeLaws.{verdict, judged_start, judged_cut, judged_headless, judged_end, judged_misplaced, judged_value, judged_on}
use Rattle.sheet.proofs.RecordLaws.{is_record, is_refused, is_end}
use Rattle.sheet.specs.Record.{records}
use Rattle.sheet.proofs.judge.judge_sheet.Goals as goal

pub loop-record-init : goal.loop-record-init
loop-record-init c = rw c.start-texts.ensures (judged_start (records c.args.sheet.now))

pub is_misplaced-requires : goal.is_misplaced-requires
is_misplaced-requires c = (is_record _ _ _ (sym c.record_at.ensures ∙ c.in_ok-record.was ∙ ap Ok c.in-Some.is)).known

pub returns-then-is_misplaced : goal.returns-then-is_misplaced
returns-then-is_misplaced c =
    let w = is_record _ _ _ (sym c.record_at.ensures ∙ c.in_ok-record.was ∙ ap Ok c.in-Some.is) in
    sym (judged_misplaced _ _ w (sym c.is_misplaced.ensures ∙ c.if-is_misplaced.true)) ∙ c.loop-record.invariant

pub slice_bounds-first_byte-count : goal.slice_bounds-first_byte-count
slice_bounds-first_byte-count c = let w = is_record _ _ _ (sym c.record_at.ensures ∙ c.in_ok-record.was ∙ ap Ok c.in-Some.is) in omega arith

pub slice_bounds-first_byte-start : goal.slice_bounds-first_byte-start
slice_bounds-first_byte-start c = let w = is_record _ _ _ (sym c.record_at.ensures ∙ c.in_ok-record.was ∙ ap Ok c.in-Some.is) in omega arith

pub slice_bounds-first_byte-end : goal.slice_bounds-first_byte-end
slice_bounds-first_byte-end c = let w = is_record _ _ _ (sym c.record_at.ensures ∙ c.in_ok-record.was ∙ ap Ok c.in-Some.is) in omega arith

pub returns-then-is_value_wrong : goal.returns-then-is_value_wrong
returns-then-is_value_wrong c =
    let w = is_record _ _ _ (sym c.record_at.ensures ∙ c.in_ok-record.was ∙ ap Ok c.in-Some.is) in
    let fits = sym c.is_misplaced.ensures ∙ c.if-is_misplaced.false in
    let wrong = sym c.is_value_wrong.ensures ∙ c.if-is_value_wrong.true in
    sym (judged_value _ _ w fits (rw c.first_byte-value.ensures at wrong)) ∙ c.loop-record.invariant

pub loop-record-smaller : goal.loop-record-smaller
loop-record-smaller c = let w = is_record _ _ _ (sym c.record_at.ensures ∙ c.in_ok-record.was ∙ ap Ok c.in-Some.is) in omega arith

pub loop-record-preserved : goal.loop-record-preserved
loop-record-preserved c =
    let w = is_record _ _ _ (sym c.record_at.ensures ∙ c.in_ok-record.was ∙ ap Ok c.in-Some.is) in
    let fits = sym c.is_misplaced.ensures ∙ c.if-is_misplaced.false in
    rw (c.group_after-group.ensures, c.after-texts.ensures, c.first_byte-value.ensures)
    (sym (judged_on _ _ w fits (rw c.first_byte-value.ensures at (sym c.is_value_wrong.ensures ∙ c.if-is_value_wrong.false))) ∙ c.loop-record.invariant)

pub returns-in_err-record : goal.returns-in_err-record
returns-in_err-record c =
    let p = err_from_is_err_and c.from_residual.result c.from_residual.ensures.1 in
    rw (p.1, p.2) (sym (judged_cut _ _ _ (is_refused _ _ _ (sym c.record_at.ensures ∙ c.in_err-record.was))) ∙ c.loop-record.invariant)

pub returns-then-group-eq0 : goal.returns-then-group-eq0
returns-then-group-eq0 c =
    let none = is_end _ _ (sym c.record_at.ensures ∙ c.in_ok-record.was ∙ ap Ok c.in_default.is) in
    sym (judged_headless _ _ none c.if-group-eq0.true) ∙ c.loop-record.invariant

pub returns-then-is_well_formed : goal.returns-then-is_well_formed
returns-then-is_well_formed c =
    let none = is_end _ _ (sym c.record_at.ensures ∙ c.in_ok-record.was ∙ ap Ok c.in_default.is) in
    ap (verdict accepted) (sym c.if-is_well_formed.true ∙ c.is_well_formed.ensures) ∙ sym (judged_end _ _ none c.if-group-eq0.false) ∙ c.loop-record.invariant

pub returns : goal.returns
returns c =
    let none = is_end _ _ (sym c.record_at.ensures ∙ c.in_ok-record.was ∙ ap Ok c.in_default.is) in
    ap (verdict accepted) (sym c.if-is_well_formed.false ∙ c.is_well_formed.ensures) ∙ sym (judged_end _ _ none c.if-group-eq0.false) ∙ c.loop-record.invariant
