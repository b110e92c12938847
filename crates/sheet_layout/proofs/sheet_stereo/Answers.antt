-- `sheet_layout::sheet_stereo` meets its contract: where the pass over a channel moves on, there is one, and its byte is 6 exactly if it
-- says two channels.
use Prim.Native.Nat.{ℕ, ◌+◌}
use lib.Dec.{eqb}
use lib.ListN.{get_or, drop}
use mathlib.Core.List.{List, [], ◌∷◌}
use mathlib.Core.Path.{◌≡◌, refl, sym, ap, ◌∙◌}
use native.Mathlib.Omega.{arith}
use mir.Syntax.{w8}
use mir.Val.{Fits}
use Rattle.small_chunks.specs.Channel.{channel_value_of}
use Rattle.small_chunks.specs.declared.channel.ChannelAssignment.{ChannelAssignment}
use Rattle.small_chunks.specs.declared.channel.ChannelAssignment.TheVariants.{Left, Right, Stereo}
use Rattle.sheet.specs.Judge.{judged}
use Rattle.sheet.specs.Read.{read_sheet}
use Rattle.sheet.specs.Voice.{is_stereo}
use Rattle.sheet_layout.specs.Layout.{channel_at, pan_at, layout_of}
use Rattle.sheet_layout.specs.Stretch.{one_length}
use Rattle.sheet_layout.proofs.PartLaws.{from_pan, pass_to, pass_channel}
use Rattle.sheet_layout.proofs.SoundLaws.{sound_flat}
use Rattle.sheet_layout.proofs.ThereLaws.{Present, channel_missing, channel_present, channel_byte}
use Rattle.sheet_layout.proofs.sheet_stereo.Goals as goal
use Rattle.std.specs.Prelude.{Ok, Some}

module _ (s : List ℕ) (bytes : (i : ℕ) → Fits w8 (get_or s i 0)) (sound : judged s ≡ Ok tt) (pan : ℕ) (is : pan ≡ 21 + one_length 2 2 (drop 21 s)) where
  -- the pass ends where the pan begins
  passed : pan ≡ pan_at (read_sheet s)
  unfolding channel_at
  passed =
      let v = read_sheet s in
      pass_to (one_length 2 2) s 21 (channel_at v) _ (pan_at v) refl is (pass_channel v s (sound_flat s bytes sound))

  -- it is there
  here : (pan ≡ 21 → ⊥) → let v = read_sheet s in Present (λ x. channel_value_of x ∷ []) v.channel 21 s (from_pan v)
  unfolding channel_at
  here moves =
      let v = read_sheet s in
      channel_present v (layout_of v) refl s (sound_flat s bytes sound) (λ n. moves (passed ∙ sym n))

pub returns-then-pan-eq21 : goal.returns-then-pan-eq21
unfolding channel_at
returns-then-pan-eq21 c =
    let s = c.args.sheet.now in
    let v = read_sheet s in
    sym (ap is_stereo (channel_missing v (layout_of v) refl (sym c.if-pan-eq21.true ∙ passed s c.type_inv.sheet c.requires _ c.past_one-pan.ensures)))

pub bounds-sheet-22 : goal.bounds-sheet-22
bounds-sheet-22 c =
    let p = here c.args.sheet.now c.type_inv.sheet c.requires _ c.past_one-pan.ensures c.if-pan-eq21.false in
    omega arith

by_value : (x : ChannelAssignment) → eqb (channel_value_of x) 6 ≡ is_stereo (Some x)
by_value Left = refl
by_value Right = refl
by_value Stereo = refl

pub returns : goal.returns
returns c =
    let p = here c.args.sheet.now c.type_inv.sheet c.requires _ c.past_one-pan.ensures c.if-pan-eq21.false in
    ap (λ b. eqb b 6) (channel_byte p) ∙ by_value p.value ∙ sym (ap is_stereo p.is)
