-- `sheet_layout::layout_of` meets its contract: a sound sheet is the flat form of the voice that it reads as, and in that each pass
-- ends where the next part begins.
use mathlib.Core.Path.{refl}
use Rattle.sheet.specs.Read.{read_sheet}
use Rattle.sheet_layout.proofs.SoundLaws.{sound_flat}
use Rattle.sheet_layout.specs.Layout.{channel_at, pan_at, attacks_at, releases_at, sequence_at, fade_at, texts_at}
use Rattle.sheet_layout.specs.Stretch.{one_length, stretch}
use Rattle.sheet_layout.proofs.PartLaws.{pass_to, pass_channel, pass_pan, pass_attacks, pass_releases, pass_sequence, pass_fade}
use Rattle.sheet_layout.proofs.layout_of.Goals as goal

pub returns : goal.returns
unfolding channel_at
returns c =
    let s = c.args.sheet.now in
    let v = read_sheet s in
    let e = sound_flat s c.type_inv.sheet c.requires in
    let pan = pass_to (one_length 2 2) s 21 (channel_at v) _ (pan_at v) refl c.past_one-pan.ensures (pass_channel v s e) in
    let attacks = pass_to (one_length 3 5) s _ (pan_at v) _ (attacks_at v) pan c.past_one-attacks.ensures (pass_pan v s e) in
    let releases = pass_to (stretch 4 6 7) s _ (attacks_at v) _ (releases_at v) attacks c.past_groups-releases.ensures (pass_attacks v s e) in
    let sequence = pass_to (stretch 5 6 7) s _ (releases_at v) _ (sequence_at v) releases c.past_groups-sequence.ensures (pass_releases v s e) in
    let fade = pass_to (stretch 7 8 9) s _ (sequence_at v) _ (fade_at v) sequence c.past_groups-fade.ensures (pass_sequence v s e) in
    let texts = pass_to (one_length 9 5) s _ (fade_at v) _ (texts_at v) fade c.past_one-texts.ensures (pass_fade v s e) in
    cc
