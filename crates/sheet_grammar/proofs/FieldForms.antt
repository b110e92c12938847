-- How each kind's bodies are written and read: the fields by the laws of their crates; a channel, a text's key and a text's byte by what one byte may be.
-- Assumes nothing.
use Prim.Native.Nat.{ℕ, ◌≤◌, ◌<◌}
use mathlib.Core.Bool.{false, not, and-eq-true_iff}
use mathlib.Core.List.{List, [], ◌∷◌}
use mathlib.Core.Path.{◌≡◌, refl, sym, ap, ◌∙◌}
use native.Mathlib.Omega.{arith}
use borrow.Author.Tests.{lt-ltb, ltb-true, not-false}
use lib.Dec.{ltb}
use lib.ListN.{get_or, drop}
use mir.Syntax.{w32}
use mir.Val.{SFits}
use mir.Facts.{sfits_to_z}
use Rattle.field.specs.BigEndian.{big_endian, Bytes}
use Rattle.field.specs.Signed.{signed32}
use Rattle.field.proofs.BigEndianLaws.{bytes_drop, number_fits}
use Rattle.field.proofs.SignedLaws.{read_is}
use Rattle.header.specs.Header.{header_of, header_bytes, Fitting}
use Rattle.header.proofs.HeaderLaws.{header_length, header_back, bytes_back, header_fits}
use Rattle.laws.proofs.Cases.{neither}
use Rattle.small_chunks.specs.Channel.{channel_of, is_channel, channel_value_of}
use Rattle.small_chunks.specs.Pan.{pan_of, pan_bytes}
use Rattle.small_chunks.specs.Envelope.{point_of, point_bytes}
use Rattle.small_chunks.specs.Sequence.{segment_of, segment_bytes, fade_of, fade_bytes}
use Rattle.small_chunks.specs.declared.channel.ChannelAssignment.{ChannelAssignment}
use Rattle.small_chunks.specs.declared.channel.ChannelAssignment.TheVariants.{Left}
use Rattle.small_chunks.proofs.ChannelLaws.{channel_back, channel_known, channel_assigned}
use Rattle.small_chunks.proofs.FieldLaws.{point_length, segment_length_lem, pan_length, fade_length, point_back, segment_back, pan_back, fade_back, point_again, segment_again, pan_again, fade_again}
use Rattle.sheet.specs.Allowed.{PanFits, PointFits, SegmentFits, FadeFits}
use Rattle.sheet.specs.Read.{known_channel}
use Rattle.sheet.specs.Order.{text_known, value_wrong}
use Rattle.sheet_grammar.proofs.OrderLaws.{Correct, Given}
use Rattle.sheet_grammar.proofs.FormLaws.{Form, field_form, byte_form}
use Rattle.refusal.specs.Outcome.{Outcome}
use Rattle.std.specs.Prelude.{Err, Ok, Some}

signed_fits : (l : List ℕ) → Bytes l → SFits w32 (signed32 (big_endian 4 l))
signed_fits l b = rw (← read_is w32 (big_endian 4 l)) (sfits_to_z (record { fits = number_fits 4 l b }))

pub header_body : Form Fitting (Correct 1) (Given 1) header_bytes header_of
unfolding value_wrong
header_body = field_form 1 header_bytes header_of refl (λ v. refl) header_length header_back bytes_back header_fits

pub pan_body : Form PanFits (Correct 3) (Given 3) pan_bytes pan_of
unfolding value_wrong pan_of
pan_body = field_form 3 pan_bytes pan_of refl (λ v. refl) pan_length (λ p rest f. pan_back p rest f.position) pan_again (λ l b. record { position = signed_fits l b })

pub point_body : Form PointFits (Correct 6) (Given 6) point_bytes point_of
unfolding value_wrong point_of
point_body =
    field_form 6 point_bytes point_of refl (λ v. refl) point_length (λ p rest f. point_back p rest f.duration f.dest) point_again
    (λ l b. record { duration = number_fits 2 l b; dest = signed_fits (drop 2 l) (bytes_drop 2 l b) })

pub segment_body : Form SegmentFits (Correct 8) (Given 8) segment_bytes segment_of
unfolding value_wrong segment_of
segment_body =
    field_form 8 segment_bytes segment_of refl (λ v. refl) segment_length_lem (λ s rest f. segment_back s rest f.start f.end) segment_again
    (λ l b. record { start = number_fits 4 l b; end = number_fits 4 (drop 4 l) (bytes_drop 4 l b) })

pub fade_body : Form FadeFits (Correct 9) (Given 9) fade_bytes fade_of
unfolding value_wrong fade_of
fade_body = field_form 9 fade_bytes fade_of refl (λ v. refl) fade_length (λ s rest f. fade_back s rest f.segment) fade_again (λ l b. record { segment = number_fits 4 l b })

-- ---- a channel

-- a value that is not wrong is that of an assignment
assigned : (v : ℕ) → value_wrong 2 v ≡ false → (c : ChannelAssignment) × (channel_value_of c ≡ v)
unfolding value_wrong
assigned v h = channel_assigned v (not-false (is_channel v) (neither (not (is_channel v)) false h).0)

-- the assignment that was read, and any where none was
abbrev pub assignment : Outcome ChannelAssignment → ChannelAssignment
assignment (Ok c) = c
assignment (Err refusal) = Left

module _ (v : ℕ) (h : value_wrong 2 v ≡ false) where
  channel_parsed : channel_of v ≡ Ok (assigned v h).0
  channel_parsed = ap channel_of (sym (assigned v h).1) ∙ channel_back (assigned v h).0

  pub known_channel_lem : known_channel (channel_of v) ≡ Some (assignment (channel_of v))
  known_channel_lem = rw channel_parsed

  channel_again : channel_value_of (assignment (channel_of v)) ≡ v
  channel_again = rw channel_parsed (assigned v h).1

channel_right : (c : ChannelAssignment) → Unit {0} → value_wrong 2 (channel_value_of c) ≡ false
unfolding value_wrong
channel_right c h = rw (channel_known c)

pub channel_body : Form (λ c. Unit {0}) (Correct 2) (Given 2) (λ c. channel_value_of c ∷ []) (λ b. assignment (channel_of (get_or b 0 0)))
channel_body = byte_form 2 channel_value_of (λ v. assignment (channel_of v)) refl refl channel_right (λ c h. ap assignment (channel_back c)) channel_again (λ v s h. tt)

-- ---- a text

pub record KeyFits (k : ℕ) : Type 0 where
  pub from : 1 ≤ k
  pub to : k ≤ 5

key_right : (k : ℕ) → KeyFits k → value_wrong 10 k ≡ false
unfolding value_wrong
key_right k f = rw (lt-ltb 0 k f.from, lt-ltb k 6 (omega (arith, f.to)))

key_fits : (k : ℕ) → k < 256 → value_wrong 10 k ≡ false → KeyFits k
unfolding value_wrong
key_fits k s h =
    let both = (and-eq-true_iff (ltb 0 k) (ltb k 6)).0 (not-false (text_known k) h) in
    record { from = ltb-true 0 k both.0; to = omega (arith, ltb-true k 6 both.1) }

pub key_body : Form KeyFits (Correct 10) (Given 10) (λ k. k ∷ []) (λ b. get_or b 0 0)
key_body = byte_form 10 (λ k. k) (λ v. v) refl refl key_right (λ k h. refl) (λ v h. refl) key_fits

pub text_byte_body : Form (λ b. b < 256) (Correct 11) (Given 11) (λ b. b ∷ []) (λ b. get_or b 0 0)
unfolding value_wrong
text_byte_body = byte_form 11 (λ b. b) (λ v. v) refl refl (λ b h. refl) (λ b h. refl) (λ v h. refl) (λ v s h. s)
