-- `put_record_chunk` meets its contract, kind by kind.
use Prim.Native.Nat.{ℕ, ◌+◌, ◌-◌, ◌≤◌, ◌<◌}
use lib.ListN.{length, get_or, take, drop}
use lib.Seq.{drop-cons}
use mathlib.Core.List.{List, [], ◌∷◌, append-nil}
use mathlib.Core.Path.{◌≡◌}
use native.Mathlib.Omega.{arith}
use Rattle.laws.proofs.PutLaws.{put_none}
use Rattle.sheet_write.proofs.RecordChunkLaws.{header_chunk, channel_chunk, pan_chunk, attack_chunk, release_chunk, sequence_chunk, fade_chunk, text_chunk_lem, no_chunk}
use Rattle.sheet_write.proofs.put_record_chunk.Goals as goal

-- a body of one byte, by its place
byte_at : (s : List ℕ) (start past : ℕ) → past ≤ length s → past ≡ start + 1 → take (past - start) (drop start s) ≡ get_or s start 0 ∷ []
byte_at s start past h e =
    let one : past - start ≡ 1 = omega arith in
    let inside : start < length s = omega arith in
    rw (one, drop-cons s start 0 inside)

pub returns-in-1 : goal.returns-in-1
returns-in-1 c = rw (c.in-1.is, header_chunk) c.put_chunk.ensures

pub returns-in-2 : goal.returns-in-2
returns-in-2 c =
    let a = c.args in
    rw (c.in-2.is, channel_chunk, byte_at a.sheet.now a.opener.start a.opener.next c.requires.1 (c.requires.4 c.in-2.is))
    c.put_channel.ensures

pub returns-in-3 : goal.returns-in-3
returns-in-3 c = rw (c.in-3.is, pan_chunk) c.put_chunk-in-3.ensures

pub returns-in-4 : goal.returns-in-4
returns-in-4 c = rw (c.in-4.is, attack_chunk) (rw append-nil at c.put_group.ensures)

pub returns-in-5 : goal.returns-in-5
returns-in-5 c = rw (c.in-5.is, release_chunk) (rw append-nil at c.put_group-in-5.ensures)

pub returns-in-7 : goal.returns-in-7
returns-in-7 c = rw (c.in-7.is, sequence_chunk) (rw append-nil at c.put_group-in-7.ensures)

pub returns-in-9 : goal.returns-in-9
returns-in-9 c = rw (c.in-9.is, fade_chunk) c.put_chunk-in-9.ensures

pub returns-in-10 : goal.returns-in-10
returns-in-10 c =
    let a = c.args in
    let kind_byte = byte_at a.sheet.now a.opener.start a.opener.next c.requires.1 (c.requires.5 c.in-10.is) in
    rw (c.in-10.is, text_chunk_lem, kind_byte, ← c.text_name.ensures)
    c.put_group-in-10.ensures

pub returns-in_default : goal.returns-in_default
returns-in_default c =
    rw (no_chunk c.args.opener.kind _ _ record {
      no_header = omega arith;
      no_channel = omega arith;
      no_pan = omega arith;
      no_attack = omega arith;
      no_release = omega arith;
      no_sequence = omega arith;
      no_fade = omega arith;
      no_text = omega arith;
    }) (put_none _ _)
