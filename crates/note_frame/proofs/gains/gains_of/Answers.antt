-- `note_frame::gains::gains_of` meets its contract: where the sheet has a fade, the bytes between the sequence's place and the fade's are those of
-- its segments.
use Prim.Native.Nat.{ℕ, ◌≤◌, ◌<◌, ◌^◌, min}
use mathlib.Core.List.{List}
use mathlib.Core.Path.{◌≡◌, sym, ap, ap₂, ◌∙◌, subst}
use native.Mathlib.Omega.{arith}
use lib.ListN.{length, get_or}
use mir.Syntax.{w8}
use mir.Val.{Fits}
use Rattle.sheet.specs.Judge.{judged}
use Rattle.sheet.specs.Read.{read_sheet}
use Rattle.small_chunks.specs.declared.sequence.Fade.{Fade}
use Rattle.sheet_layout.specs.Layout.{layout_of}
use Rattle.sheet_layout.specs.Members.{between, segments_in, Whole}
use Rattle.sheet_layout.specs.declared.Layout.{Layout}
use Rattle.sheet_layout.proofs.PointLaws.{places, sequence_there, sequence_whole}
use Rattle.note_path.specs.Path.{joined_length}
use Rattle.note_frame.specs.declared.chain.Gains.{Gains}
use Rattle.note_frame.specs.Gains.{with_fade, FadeShort}
use Rattle.note_frame.specs.Shares.{shares_of}
use Rattle.note_frame.proofs.GainsLaws.{gains_unfaded, gains_faded, fade_there, no_fade, unfaded_is, fade_sequence}
use Rattle.note_frame.proofs.gains.gains_of.Goals as goal
use Rattle.std.specs.Prelude.{Ok, Some}

-- with a fade: the segments of its sequence lie between two places
module _ (sheet : List ℕ) (l : Layout) (bytes : (i : ℕ) → Fits w8 (get_or sheet i 0)) (sound : judged sheet ≡ Ok tt) (is : l ≡ layout_of (read_sheet sheet)) where
  abbrev part : List ℕ
  part = between l.sequence l.fade sheet

  bounds : (l.sequence ≤ l.fade) × (l.fade ≤ length sheet)
  bounds =
      let p = places sheet bytes sound in
      subst (λ (l : Layout). (l.sequence ≤ l.fade) × (l.fade ≤ length sheet)) (sym is) (p.2, p.3)

  whole : Whole 8 8 part
  whole = subst (λ (l : Layout). Whole 8 8 (between l.sequence l.fade sheet)) (sym is) (sequence_whole sheet bytes sound)

  segments_here : (k : ℕ) (f : Fade) → (read_sheet sheet).fade ≡ Some f → FadeShort (read_sheet sheet) k
      → ((read_sheet sheet).sequence ≡ Some (segments_in part)) × (joined_length (2 ^ k) (segments_in part) < 2 ^ 32)
  segments_here k f =
      fade_sequence (read_sheet sheet) k f (segments_in part)
      (λ segments e. ap (λ (l : Layout). segments_in (between l.sequence l.fade sheet)) is ∙ sequence_there sheet bytes sound segments e)

pub slice_bounds-segments-count : goal.slice_bounds-segments-count
slice_bounds-segments-count c = (bounds c.args.sheet.now c.args.l c.type_inv.sheet c.requires.0 c.requires.1).0

pub slice_bounds-segments-start : goal.slice_bounds-segments-start
slice_bounds-segments-start c =
    let b = bounds c.args.sheet.now c.args.l c.type_inv.sheet c.requires.0 c.requires.1 in
    omega arith

pub slice_bounds-segments-end : goal.slice_bounds-segments-end
slice_bounds-segments-end c =
    let b = bounds c.args.sheet.now c.args.l c.type_inv.sheet c.requires.0 c.requires.1 in
    omega arith

pub with_fade-requires : goal.with_fade-requires
with_fade-requires c =
    let sheet = c.args.sheet.now in
    let there = fade_there (read_sheet sheet).fade c.in-Some.f (sym c.sheet_fade.ensures ∙ c.in-Some.is) in
    let segments = segments_here sheet c.args.l c.type_inv.sheet c.requires.0 c.requires.1 c.args.k c.in-Some.f there c.requires.3 in
    (c.requires.2, whole sheet c.args.l c.type_inv.sheet c.requires.0 c.requires.1, segments.1)

pub returns-in-None : goal.returns-in-None
returns-in-None c =
    let v = read_sheet c.args.sheet.now in
    -- volume, velocity and shares
    let plain =
    unfaded_is v _ c.args.velocity c.side_shares-s.result _
    (c.min.ensures ∙ ap (λ h. min h.volume 65536) c.sheet_header-h.ensures)
    (c.side_shares-s.ensures ∙ ap₂ shares_of c.sheet_channel.ensures c.sheet_pan.ensures)
    c.sheet_stereo.ensures
    in
    plain ∙ sym (gains_unfaded v c.args.k c.args.velocity (no_fade v.fade (sym c.sheet_fade.ensures ∙ c.in-None.is)))

pub returns-in-Some : goal.returns-in-Some
returns-in-Some c =
    let sheet = c.args.sheet.now in
    let v = read_sheet sheet in
    let plain =
    unfaded_is v _ c.args.velocity c.side_shares-s.result _
    (c.min.ensures ∙ ap (λ h. min h.volume 65536) c.sheet_header-h.ensures)
    (c.side_shares-s.ensures ∙ ap₂ shares_of c.sheet_channel.ensures c.sheet_pan.ensures)
    c.sheet_stereo.ensures
    in
    let there = fade_there v.fade c.in-Some.f (sym c.sheet_fade.ensures ∙ c.in-Some.is) in
    let segments = segments_here sheet c.args.l c.type_inv.sheet c.requires.0 c.requires.1 c.args.k c.in-Some.f there c.requires.3 in
    c.with_fade.ensures
    ∙ ap (λ (g : Gains). with_fade g c.in-Some.f (segments_in (between c.args.l.sequence c.args.l.fade sheet)) c.args.k) plain
    ∙ sym (gains_faded v c.args.k c.args.velocity _ _ there segments.0)
