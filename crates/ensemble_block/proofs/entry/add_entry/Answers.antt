-- `ensemble_block::entry::add_entry` meets its contract: an entry that hasn't started adds nothing, any other the frames of its block that
-- aren't over.
use Prim.Native.Nat.{◌+◌}
use mathlib.Core.Path.{◌∙◌}
use native.Mathlib.Omega.{arith}
use lib.ListN.{length}
use Rattle.body_read.specs.Sides.{Sides}
use Rattle.sheet.specs.Read.{read_sheet}
use Rattle.ensemble_sums.proofs.SumLaws.{within_more}
use Rattle.ensemble_block.proofs.EntryLaws.{entry_accepted}
use Rattle.ensemble_block.proofs.AddLaws.{added_nothing, added_frames}
use Rattle.ensemble_block.proofs.entry.add_entry.Goals as goal

pub returns-then-at-e : goal.returns-then-at-e
returns-then-at-e c =
    let a = c.args in
    let s : Sides = record { left = a.left.now; right = a.right.now } in
    let p = c.requires in
    record {
      sums = added_nothing (read_sheet a.sheet.now) s a.rate a.e a.at a.sums.now a.out.now p.calm p.even p.as_many c.if-at-e.true;
      small = λ b h. within_more b (b + 32768) a.sums.now (omega arith) h;
    }

pub sounding_block-count-requires : goal.sounding_block-count-requires
sounding_block-count-requires c =
    let a = c.args in
    let p = c.requires in (
      p.sound,
      p.layout_is,
      rw c.key_at-key.ensures
          (entry_accepted (read_sheet a.sheet.now) a.rate a.at a.e (length a.left.now) (length a.right.now) (length a.out.now)
          p.voice_good p.sequence_good p.good.no_rule p.even),
    )

pub returns : goal.returns
returns c =
    let a = c.args in
    let s : Sides = record { left = a.left.now; right = a.right.now } in
    let p = c.requires in
    let block = c.sounding_block-count in
    let added =
    added_frames (read_sheet a.sheet.now) s a.rate a.e a.at a.sums.now a.out.now p.calm p.even p.as_many
    c.if-at-e.false p.good.ends_later p.in_time c.key_at-key.result block.new.out block.result c.key_at-key.ensures block.ensures
    in
    record { sums = c.add_values.ensures.sums ∙ added; small = c.add_values.ensures.small }
