-- `sheet_layout::sheet_channel` meets its contract: where the channel's place and that of the part after it differ, the byte past its
-- kind is the value of an assignment, so it is never refused.
use Prim.Native.Nat.{ℕ, ◌+◌}
use lib.ListN.{get_or}
use mathlib.Core.List.{List, [], ◌∷◌}
use mathlib.Core.Path.{◌≡◌, sym, ap, ◌∙◌}
use native.Mathlib.Omega.{arith}
use Rattle.small_chunks.specs.Channel.{channel_of, channel_value_of}
use Rattle.small_chunks.specs.declared.channel.ChannelAssignment.{ChannelAssignment}
use Rattle.small_chunks.proofs.ChannelLaws.{channel_back}
use Rattle.sheet.specs.Read.{read_sheet}
use Rattle.sheet_layout.proofs.SoundLaws.{sound_flat}
use Rattle.sheet_layout.proofs.ThereLaws.{Present, channel_missing, channel_present, channel_byte}
use Rattle.sheet_layout.proofs.sheet_channel.Goals as goal
use Rattle.std.specs.Prelude.{Ok, Option}
use Rattle.std.specs.Result.{result_ok}

pub returns-then-at-l : goal.returns-then-at-l
returns-then-at-l c =
    sym (channel_missing (read_sheet c.args.sheet.now) c.args.l c.requires.1 c.if-at-l.true)

-- its byte reads as the assignment
parsed_here : {o : Option ChannelAssignment} {at : ℕ} {s r : List ℕ} (p : Present (λ x. channel_value_of x ∷ []) o at s r) → channel_of (get_or s (at + 1) 0) ≡ Ok p.value
parsed_here p = ap channel_of (channel_byte p) ∙ channel_back p.value

pub overflow_add-body : goal.overflow_add-body
overflow_add-body c =
    let s = c.args.sheet.now in
    let p = channel_present (read_sheet s) c.args.l c.requires.1 s (sound_flat s c.type_inv.sheet c.requires.0) c.if-at-l.false in
    omega arith

pub bounds-sheet-body : goal.bounds-sheet-body
bounds-sheet-body c =
    let s = c.args.sheet.now in
    let p = channel_present (read_sheet s) c.args.l c.requires.1 s (sound_flat s c.type_inv.sheet c.requires.0) c.if-at-l.false in
    omega arith

pub returns : goal.returns
returns c =
    let s = c.args.sheet.now in
    let p = channel_present (read_sheet s) c.args.l c.requires.1 s (sound_flat s c.type_inv.sheet c.requires.0) c.if-at-l.false in
    c.ok.ensures.value ∙ ap result_ok (c.from_raw.ensures ∙ parsed_here p) ∙ sym p.is
