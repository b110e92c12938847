-- No chunk that is written is bad: each has a right length, and those that come but once come once.
--     plain_right, channel_right     a payload is right
--     named_sound, texts_sound       chunks of one name, and texts, before others
-- Assumes nothing.
use Prim.Native.Nat.{ℕ, ◌%◌, ◌≤◌}
use mathlib.Core.Bool.{Bool, true, false, true≢false}
use mathlib.Core.List.{List, [], ◌∷◌, ◌++◌, map}
use mathlib.Core.Path.{◌≡◌, refl, sym, ap, ◌∙◌}
use native.Mathlib.Omega.{arith}
use borrow.Author.Tests.{le-ltb}
use lib.Dec.{eqb, eqb→eq}
use lib.ListN.{length, get_or, set, drop_of_length-le}
use lib.Seq.{set-get_or}
use Rattle.laws.proofs.Table.{below}
use Rattle.field.proofs.BigEndianLaws.{bytes_length}
use Rattle.small_chunks.specs.Channel.{channel_value_of}
use Rattle.small_chunks.specs.declared.channel.ChannelAssignment.{ChannelAssignment}
use Rattle.small_chunks.proofs.ChannelLaws.{channel_known}
use Rattle.chunk.specs.Chunk.{Item}
use Rattle.form.specs.Kind.{kind_of, least, unit, single, length_wrong}
use Rattle.form.specs.FirstBad.{channel_wrong, chunk_wrong, bad_from}
use Rattle.form.proofs.Unknown.{bad_same}
use Rattle.sheet.specs.Voice.{Text}
use Rattle.sheet.specs.Allowed.{All, TextAllowed}
use Rattle.sheet_grammar.proofs.FormLaws.{listed}
use Rattle.sheet_write.specs.VoiceChunks.{text_name}
use Rattle.voice_round_trip.proofs.Items.{named, channel_payload, channel_number, text_item}
use Rattle.std.specs.Prelude.{None, Option, Some, Ok}

-- ---- lists

unchanged : (came : List Bool) (kind : ℕ) → get_or came kind false ≡ false → set came kind false ≡ came
unchanged came kind h = ap (set came kind) (sym h) ∙ set-get_or came kind false

listed_once : {A : Type 0} (o : Option A) → length (listed o) ≤ 1
listed_once None = omega arith
listed_once (Some a) = omega arith

-- ---- a right payload

length_right : (kind n : ℕ) → get_or least kind 0 ≤ n → n % get_or unit kind 0 ≡ 0 → length_wrong kind n ≡ false
unfolding length_wrong
length_right kind n h k = rw (le-ltb n (get_or least kind 0) h, k)

-- of any kind but CHAN
pub plain_right : (kind : ℕ) (b : List ℕ) → eqb kind 2 ≡ false → get_or least kind 0 ≤ length b → length b % get_or unit kind 0 ≡ 0 → chunk_wrong false kind b ≡ Ok tt
unfolding chunk_wrong channel_wrong
plain_right kind b e h k = rw (length_right kind (length b) h k, e)

pub channel_right : (c : ChannelAssignment) → chunk_wrong false 2 (channel_payload c) ≡ Ok tt
unfolding chunk_wrong channel_wrong
channel_right c =
    rw (
      length_right 2 (length (channel_payload c)) (omega (arith, bytes_length 4 (channel_value_of c))) (omega (arith, bytes_length 4 (channel_value_of c))),
      channel_number c,
      channel_known c,
    )

-- ---- chunks before others

pub nothing_bad : (came : List Bool) → bad_from came [] ≡ Ok tt
unfolding bad_from
nothing_bad came = refl

module _ {A : Type 0} (id kind : ℕ) (e : kind_of id ≡ kind) (write : A → List ℕ) (right : (a : A) → chunk_wrong false kind (write a) ≡ Ok tt) where
  -- after chunks of one name, another of that name may be bad or not: what follows is to be sound in either case
  pub named_sound : (values : List A) (came : List Bool) (rest : List Item)
      → (get_or single kind false ≡ true → length values ≤ 1)
      → get_or came kind false ≡ false
      → ((t : Bool) → bad_from (set came kind t) rest ≡ Ok tt)
      → bad_from came (named id write values ++ rest) ≡ Ok tt
  unfolding bad_from
  named_sound [] came rest once h later = rw (unchanged came kind h) at (later false)
  named_sound (a ∷ values) came rest once h later =
      rw (e, h, right a) (go (λ p. named_sound values came rest (λ q. absurd (true≢false (sym q ∙ p))) h later) (get_or single kind false) refl)
    where
      go : (get_or single kind false ≡ false → bad_from came (named id write values ++ rest) ≡ Ok tt)
          → (t : Bool) → get_or single kind false ≡ t → bad_from (set came kind t) (named id write values ++ rest) ≡ Ok tt
      go again true p = rw (drop_of_length-le values {i = 0} (omega (arith, once p))) (later true)
      go again false p = rw (unchanged came kind h) (again p)

  pub listed_sound : (o : Option A) (came : List Bool) (rest : List Item)
      → get_or came kind false ≡ false
      → ((t : Bool) → bad_from (set came kind t) rest ≡ Ok tt)
      → bad_from came (named id write (listed o) ++ rest) ≡ Ok tt
  listed_sound o came rest h later = named_sound (listed o) came rest (λ p. listed_once o) h later

text_kind : (k : ℕ) → k ≤ 5 → kind_of (text_name k) ≡ 0
unfolding kind_of
text_kind k h = eqb→eq (kind_of (text_name k)) 0 (below (λ (k : ℕ). eqb (kind_of (text_name k)) 0) 6 tt k (omega arith))

pub texts_sound : (ts : List Text) (came : List Bool) (rest : List Item) → All TextAllowed ts → get_or came 0 false ≡ false → bad_from came (map text_item ts ++ rest) ≡ bad_from came rest
texts_sound [] came rest a h = refl
texts_sound (t ∷ ts) came rest a h =
    bad_same came (text_name t.key) (t.bytes ++ 0 ∷ []) [] (map text_item ts ++ rest) (text_kind t.key a.0.key_to) h ∙ texts_sound ts came rest a.1 h
