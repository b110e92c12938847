-- `voice_write::encode::write_known` meets its contract: the parts of the file are stored one after another, and there is room for all.
use mathlib.Core.Path.{◌≡◌, sym, ap, ◌∙◌}
use Prim.Native.Nat.{◌-◌}
use lib.ListN.{length}
use native.Mathlib.Omega.{arith}
use Rattle.laws.proofs.PutLaws.{put_front, put_end}
use Rattle.field.proofs.BigEndianLaws.{bytes_length}
use Rattle.body_write.specs.BodyBytes.{body_bytes}
use Rattle.refusal.proofs.OutcomeLaws.{outcome_fits}
use Rattle.sheet.specs.Read.{read_sheet}
use Rattle.voice_write.specs.WriteVoice.{contents, file_of, write_sheet}
use Rattle.voice_write.proofs.RoomLaws.{writes}
use Rattle.voice_write.proofs.WriteLaws.{sides_of, contents_length, file_length, file_put}
use Rattle.voice_write.proofs.encode.write_known.Goals as goal

-- in each answer `f` is what the call counts on
pub overflow_sub-held : goal.overflow_sub-held
overflow_sub-held c =
    let a = c.args in
    let f = writes a.sheet.now (λ i. (c.type_inv.sheet i).fits) a.c (sides_of a.left.now a.right.now) a.n (length a.file.now) c.requires.0 c.requires.1 in
    omega (arith, f.held)

pub overflow_cast-held : goal.overflow_cast-held
overflow_cast-held c =
    let a = c.args in
    let f = writes a.sheet.now (λ i. (c.type_inv.sheet i).fits) a.c (sides_of a.left.now a.right.now) a.n (length a.file.now) c.requires.0 c.requires.1 in
    record { fits = omega (arith, f.held, f.fits) }

-- `named`, `sized` and `typed` say where the first three parts end
pub put32-typed-requires : goal.put32-typed-requires
put32-typed-requires c = let named = put_end (bytes_length 4 _) c.put32-sized.ensures in omega arith

pub put32-chunks-requires : goal.put32-chunks-requires
put32-chunks-requires c =
    let named = put_end (bytes_length 4 _) c.put32-sized.ensures in
    let sized = put_end (bytes_length 4 _) c.put32-typed.ensures in
    omega arith

pub put_chunks-body-requires : goal.put_chunks-body-requires
put_chunks-body-requires c =
    let a = c.args in
    let f = writes a.sheet.now (λ i. (c.type_inv.sheet i).fits) a.c (sides_of a.left.now a.right.now) a.n (length a.file.now) c.requires.0 c.requires.1 in
    let named = put_end (bytes_length 4 _) c.put32-sized.ensures in
    let sized = put_end (bytes_length 4 _) c.put32-typed.ensures in
    let typed = put_end (bytes_length 4 _) c.put32-chunks.ensures in
    (f.sound, f.sheet_short, omega arith)

pub put_body-requires : goal.put_body-requires
put_body-requires c =
    let a = c.args in
    let k = sides_of a.left.now a.right.now in
    let f = writes a.sheet.now (λ i. (c.type_inv.sheet i).fits) a.c k a.n (length a.file.now) c.requires.0 c.requires.1 in
    let named = put_end (bytes_length 4 _) c.put32-sized.ensures in
    let sized = put_end (bytes_length 4 _) c.put32-typed.ensures in
    let typed = put_end (bytes_length 4 _) c.put32-chunks.ensures in
    let body = ap (λ b. length (body_bytes a.c b a.left.now a.right.now)) c.sheet_stereo.ensures in
    let long = contents_length (read_sheet a.sheet.now) a.c k in (
      f.left_short,
      f.right_short,
      omega (arith, typed, c.put_chunks-body.ensures.end, long, f.fits),
      omega (arith, typed, c.put_chunks-body.ensures.end, long, f.held, f.room, body),
    )

pub returns : goal.returns
returns c =
    let a = c.args in
    let v = read_sheet a.sheet.now in
    let s = sides_of a.left.now a.right.now in
    let held = contents v a.c s in
    let f = writes a.sheet.now (λ i. (c.type_inv.sheet i).fits) a.c s a.n (length a.file.now) c.requires.0 c.requires.1 in
    let long = file_length held in
    let count : a.n - 8 ≡ length held = omega (arith, f.held) in
    let sound = rw c.sheet_stereo.ensures at c.put_body.ensures in
    let all =
    file_put v a.c s (a.n - 8) count c.put32-sized.ensures c.put32-typed.ensures c.put32-chunks.ensures c.put_chunks-body.ensures sound in
    let here = put_front (omega (arith, long, f.held, f.room)) all in
    (outcome_fits (write_sheet a.sheet.now s) a.file.now (file_of held) f.is a.n (f.held ∙ sym long) _ f.room here).1
