-- `voice_write::measure::suited_length` meets its contract: a sheet or a side that is too long makes contents that are, and below that nothing passes 64 bits.
use mathlib.Core.Path.{◌≡◌, sym, ap, ◌∙◌}
use Prim.Native.Nat.{◌+◌, ◌%◌}
use lib.ListN.{length}
use native.Mathlib.Omega.{arith}
use Rattle.body_write.specs.BodyBytes.{body_bytes}
use Rattle.sheet_layout.proofs.SoundLaws.{sound_flat}
use Rattle.sheet.specs.Read.{read_sheet}
use Rattle.voice_write.specs.WriteVoice.{contents}
use Rattle.voice_write.proofs.WriteLaws.{sides_of, contents_length, file_length, flat_within, left_bound, right_within, held_fits, held_long}
use Rattle.voice_write.proofs.measure.suited_length.Goals as goal
use Rattle.refusal.specs.Outcome.{length_of}
use Rattle.std.specs.Prelude.{Ok}

pub returns-then-sheet-ge-TOO_LONG : goal.returns-then-sheet-ge-TOO_LONG
returns-then-sheet-ge-TOO_LONG c =
    let a = c.args in
    let v = read_sheet a.sheet.now in
    let k = sides_of a.left.now a.right.now in
    let e = sound_flat a.sheet.now c.type_inv.sheet c.requires.0 in
    sym (ap length_of (held_long (contents v a.c k) (omega (arith, flat_within v a.c k, ap length e, c.if-sheet-ge-TOO_LONG.true))))

pub returns-then-left-ge-TOO_LONG : goal.returns-then-left-ge-TOO_LONG
returns-then-left-ge-TOO_LONG c =
    let a = c.args in
    let v = read_sheet a.sheet.now in
    let k = sides_of a.left.now a.right.now in
    sym (ap length_of (held_long (contents v a.c k) (omega (arith, left_bound v a.c k, c.if-left-ge-TOO_LONG.true))))

pub body_length-body-requires : goal.body_length-body-requires
body_length-body-requires c =
    let short = c.if-left-ge-TOO_LONG.false in
    (omega arith, omega (arith, right_within (read_sheet c.args.sheet.now) (sides_of c.args.left.now c.args.right.now) c.requires.1))

-- `held`: what the FORM holds
pub returns-then-held-gt4294967295 : goal.returns-then-held-gt4294967295
returns-then-held-gt4294967295 c =
    let a = c.args in
    let v = read_sheet a.sheet.now in
    let s = sides_of a.left.now a.right.now in
    let n = c.body_length-body.result in
    let body = ap (λ b. length (body_bytes a.c b a.left.now a.right.now)) c.sheet_stereo.ensures in
    let held : 12 + c.chunks_length-chunks.result + n + n % 2 ≡ length (contents v a.c s) =
    omega (arith, contents_length v a.c s, c.chunks_length-chunks.ensures.0, c.body_length-body.ensures.0, body) in
    sym (ap length_of (held_long (contents v a.c s) (omega (arith, held, c.if-held-gt4294967295.true))))

pub returns : goal.returns
returns c =
    let a = c.args in
    let v = read_sheet a.sheet.now in
    let s = sides_of a.left.now a.right.now in
    let k = contents v a.c s in
    let n = c.body_length-body.result in
    let body = ap (λ b. length (body_bytes a.c b a.left.now a.right.now)) c.sheet_stereo.ensures in
    let held : 12 + c.chunks_length-chunks.result + n + n % 2 ≡ length k =
    omega (arith, contents_length v a.c s, c.chunks_length-chunks.ensures.0, c.body_length-body.ensures.0, body) in
    ap Ok (omega (arith, held, file_length k)) ∙ sym (ap length_of (held_fits k (omega (arith, held, c.if-held-gt4294967295.false))))
