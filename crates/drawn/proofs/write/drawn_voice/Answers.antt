-- `drawn::write::drawn_voice` meets its contract: the plan says what is drawn and how long it is, and each test whether it fits.
use native.Mathlib.Omega.{arith}
use Rattle.voice_read.proofs.AnswerLaws.{answer_refused, sheet_short, left_short, right_short}
use Rattle.drawn.specs.DrawnVoice.{drawn}
use Rattle.drawn.proofs.VoiceLaws.{total_most, drawn_refuses, Planned, measured, outputs_drawn}
use Rattle.drawn.proofs.write.drawn_voice.Goals as goal
use Rattle.drawn.proofs.write.drawn_voice.Goals.{After-lengths_of-l}
use Rattle.refusal.specs.declared.Refusal.TheVariants.{ZeroNumber}

-- what the five draws and the lengths say
planned : (c : After-lengths_of-l) → let plan = c.plan_of-plan.result in Planned c.args.number plan.header plan.stereo plan.last c.lengths_of-l.result
planned c =
    let plan = c.plan_of-plan.ensures in
    let lengths = c.lengths_of-l.ensures in
    record {
      nonzero = c.if-number-eq0.false;
      header_is = plan.header;
      stereo_is = plan.stereo;
      last_is = plan.last;
      sheet_length = lengths.sheet;
      left_length = lengths.left;
      right_length = lengths.right;
    }

pub returns-then-number-eq0 : goal.returns-then-number-eq0
returns-then-number-eq0 c =
    let a = c.args in
    let w = answer_refused (drawn a.number) a.sheet.now a.left.now a.right.now ZeroNumber (drawn_refuses a.number c.if-number-eq0.true) in
    record { result = w.0; sheet = w.1.0; left = w.1.1.0; right = w.1.1.1 }

pub lengths_of-l-requires : goal.lengths_of-l-requires
lengths_of-l-requires c = rw c.plan_of-plan.ensures.header (omega (arith, total_most c.args.number))

pub returns-then-sheet-l : goal.returns-then-sheet-l
returns-then-sheet-l c =
    let a = c.args in
    let p = planned (goal.at.returns-then-sheet-l c).After-lengths_of-l in
    let w = sheet_short (drawn a.number) a.sheet.now a.left.now a.right.now _ (measured p) c.if-sheet-l.true in
    record { result = w.0; sheet = w.1.0; left = w.1.1.0; right = w.1.1.1 }

pub returns-then-left-l : goal.returns-then-left-l
returns-then-left-l c =
    let a = c.args in
    let p = planned (goal.at.returns-then-left-l c).After-lengths_of-l in
    let w = left_short (drawn a.number) a.sheet.now a.left.now a.right.now _ (measured p) c.if-left-l.true in
    record { result = w.0; sheet = w.1.0; left = w.1.1.0; right = w.1.1.1 }

pub returns-then-right-l : goal.returns-then-right-l
returns-then-right-l c =
    let a = c.args in
    let p = planned (goal.at.returns-then-right-l c).After-lengths_of-l in
    let w = right_short (drawn a.number) a.sheet.now a.left.now a.right.now _ (measured p) c.if-right-l.true in
    record { result = w.0; sheet = w.1.0; left = w.1.1.0; right = w.1.1.1 }

pub returns : goal.returns
returns c =
    let a = c.args in
    let p = planned (goal.at.returns c).After-lengths_of-l in
    let left = c.put_samples-last.ensures in
    let w =
    outputs_drawn p a.sheet.now _ a.left.now _ a.right.now _ _ c.if-sheet-l.false c.if-left-l.false c.if-right-l.false
    c.put_sheet.ensures left.buffer left.result c.put_samples.ensures.buffer
    in
    record { result = w.0; sheet = w.1.0; left = w.1.1.0; right = w.1.1.1 }
