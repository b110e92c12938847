-- `sheet_read::put_sheet` meets its contract: eight runs of stores, joined.
use lib.Dec.{lit<}
use mathlib.Core.Path.{sym}
use native.Mathlib.Omega.{arith}
use Rattle.form.specs.Names.{vhdr, pan, atak, rlse, fade}
use Rattle.sheet_read.proofs.BoundLaws.{record_bound, channel_bound, envelope_bound, sequence_bound}
use Rattle.sheet_read.proofs.FlatLaws.{parts_put}
use Rattle.sheet_read.proofs.PlaceLaws.{least_of_lem}
use Rattle.sheet_read.proofs.put_sheet.Goals as goal

pub returns : goal.returns
returns c =
    parts_put c.args.form.now (λ i. (c.type_inv.form i).fits) c.requires
    c.put_part-channel.ensures
    c.put_channel-pan.ensures
    c.put_part-attacks.ensures
    c.put_envelopes-releases.ensures
    c.put_envelopes-sequence.ensures
    c.put_sequence-fade.ensures
    c.put_part-texts.ensures
    c.put_texts.ensures

pub put_part-channel-requires : goal.put_part-channel-requires
put_part-channel-requires c = (c.requires.sound, sym (least_of_lem 0 (lit< tt)), omega arith, omega arith)

pub put_part-attacks-requires : goal.put_part-attacks-requires
put_part-attacks-requires c =
    let f = c.args.form.now in
    (c.requires.sound, sym (least_of_lem 2 (lit< tt)), omega arith, omega (arith, record_bound vhdr 1 20 f, channel_bound f))

pub put_envelopes-releases-requires : goal.put_envelopes-releases-requires
put_envelopes-releases-requires c =
    let f = c.args.form.now in
    omega (arith, record_bound vhdr 1 20 f, channel_bound f, record_bound pan 3 4 f, envelope_bound atak 4 f)

pub put_envelopes-sequence-requires : goal.put_envelopes-sequence-requires
put_envelopes-sequence-requires c =
    let f = c.args.form.now in
    omega (arith, record_bound vhdr 1 20 f, channel_bound f, record_bound pan 3 4 f, envelope_bound atak 4 f, envelope_bound rlse 5 f)

pub put_sequence-fade-requires : goal.put_sequence-fade-requires
put_sequence-fade-requires c =
    let f = c.args.form.now in
    omega (arith, record_bound vhdr 1 20 f, channel_bound f, record_bound pan 3 4 f, envelope_bound atak 4 f, envelope_bound rlse 5 f, sequence_bound f)

pub put_part-texts-requires : goal.put_part-texts-requires
put_part-texts-requires c =
    let f = c.args.form.now in (
      c.requires.sound,
      sym (least_of_lem 4 (lit< tt)),
      omega arith,
      omega (arith, record_bound vhdr 1 20 f, channel_bound f, record_bound pan 3 4 f, envelope_bound atak 4 f, envelope_bound rlse 5 f, sequence_bound f),
    )

pub put_texts-requires : goal.put_texts-requires
put_texts-requires c =
    let f = c.args.form.now in (
      c.requires.short,
      omega
          (arith, record_bound vhdr 1 20 f, channel_bound f, record_bound pan 3 4 f, envelope_bound atak 4 f, envelope_bound rlse 5 f, sequence_bound f, record_bound fade 9 4 f),
    )
