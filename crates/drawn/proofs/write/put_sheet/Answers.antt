-- `drawn::write::put_sheet` meets its contract: the header's record, and for two channels the channel's after it.
use Prim.Native.Nat.{ℕ}
use mathlib.Core.Bool.{Bool}
use mathlib.Core.List.{List, [], ◌∷◌, ◌++◌}
use mathlib.Core.Path.{sym, ap, ◌∙◌}
use Rattle.laws.proofs.PutLaws.{put_then, put_same, put_front}
use Rattle.sheet.specs.Flat.{flat}
use Rattle.drawn.specs.DrawnVoice.{plain_voice}
use Rattle.drawn.proofs.VoiceLaws.{flat_two, flat_one}
use Rattle.drawn.proofs.write.put_sheet.Goals as goal

pub returns-then-stereo : goal.returns-then-stereo
returns-then-stereo c =
    let a = c.args in
    let bytes = c.write-body.ensures in
    let stored = put_then c.put_record-end.ensures c.put_channel.ensures in
    let two = ap (λ (stereo : Bool). flat (plain_voice a.h stereo)) (sym c.if-stereo.true) in
    put_front c.requires (put_same (ap (λ (l : List ℕ). (1 ∷ l) ++ 2 ∷ 6 ∷ []) bytes ∙ flat_two a.h ∙ two) stored)

pub returns-else-stereo : goal.returns-else-stereo
returns-else-stereo c =
    let a = c.args in
    let bytes = c.write-body.ensures in
    let one = ap (λ (stereo : Bool). flat (plain_voice a.h stereo)) (sym c.if-stereo.false) in
    put_front c.requires (put_same (ap (λ (l : List ℕ). 1 ∷ l) bytes ∙ flat_one a.h ∙ one) c.put_record-end.ensures)
