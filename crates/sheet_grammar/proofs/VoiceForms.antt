-- How each part of a voice is written as groups of one kind and read from them, from the forms of its bodies.
-- Assumes nothing.
use Prim.Native.Nat.{ℕ, ◌≤◌, ◌<◌}
use mathlib.Core.Bool.{true, false}
use mathlib.Core.List.{List, [], ◌∷◌, ◌++◌, map}
use mathlib.Core.Path.{◌≡◌, refl, sym, ap, ◌∙◌}
use native.Mathlib.Omega.{arith}
use lib.ListN.{length, get_or}
use Rattle.laws.specs.Walk.{each}
use Rattle.header.specs.Header.{header_of, header_bytes, Fitting}
use Rattle.small_chunks.specs.Channel.{channel_of, channel_value_of}
use Rattle.small_chunks.specs.Pan.{pan_of, pan_bytes}
use Rattle.small_chunks.specs.Envelope.{point_of, point_bytes}
use Rattle.small_chunks.specs.Sequence.{segment_of, segment_bytes, fade_of, fade_bytes}
use Rattle.sheet.specs.Voice.{Text}
use Rattle.sheet.specs.Allowed.{All, IfThere, PanFits, PointFits, SegmentFits, FadeFits}
use Rattle.sheet.specs.Record.{unknown_kind, body_length}
use Rattle.sheet.specs.Order.{value_wrong}
use Rattle.sheet.specs.Read.{Group, first, map_option, record_channel, body_of, text_in}
use Rattle.sheet_grammar.proofs.ListLaws.{all_imply}
use Rattle.sheet_grammar.proofs.OrderLaws.{Correct, Given}
use Rattle.sheet_grammar.proofs.KindLaws.{member, latest_of}
use Rattle.sheet_grammar.proofs.Sections.{OfGroup, Listed}
use Rattle.sheet_grammar.proofs.FormLaws.{Form, reread, many, one_byte, alone, gathered, alone_form, gathered_form, listed, list_form, once_form}
use Rattle.sheet_grammar.proofs.FieldForms.{header_body, pan_body, point_body, segment_body, fade_body, assignment, known_channel_lem, channel_body, KeyFits, key_body, text_byte_body}
use Rattle.std.specs.Prelude.{Some}

-- ---- what was given is correct

given_group : (k : ℕ) (g : Group) → OfGroup Given k g → OfGroup Correct k g
given_group k g h = record { body = h.body.correct; members = all_imply (λ b (p : Given (member k) b). p.correct) g.members h.members }

given_correct : (k : ℕ) (gs : List Group) → Listed Given k gs → Listed Correct k gs
given_correct k gs h = record { once = h.once; each_is = all_imply (given_group k) gs h.each_is }

abbrev pub bodies_of : List Group → List (List ℕ)
bodies_of gs = map (λ g. g.body) gs

-- ---- at most one record

first_body : {A : Type 0} (r : List ℕ → A) (gs : List Group) → map_option r (first (bodies_of gs)) ≡ map_option (λ (g : Group). r g.body) (first gs)
first_body r [] = refl
first_body r (g ∷ gs) = refl

alone_once : {A : Type 0} {F : A → Type 0} {w : A → List ℕ} {r : List ℕ → A} (k : ℕ) → unknown_kind (member k) ≡ true → latest_of k < k → Form F (Correct k) (Given k) w r
    → Form (IfThere F) (Listed Correct k) (Listed Given k) (λ o. map (λ a. alone (w a)) (listed o)) (λ gs. map_option r (first (bodies_of gs)))
alone_once {r = r} k u late f = reread (once_form k (alone_form k u f) late) (given_correct k) (λ gs. map_option r (first (bodies_of gs))) (λ gs h. first_body r gs)

pub pan_form : Form (IfThere PanFits) (Listed Correct 3) (Listed Given 3) (λ o. map (λ p. alone (pan_bytes p)) (listed o)) (λ gs. map_option pan_of (first (bodies_of gs)))
pan_form = alone_once 3 refl (omega arith) pan_body

pub fade_form : Form (IfThere FadeFits) (Listed Correct 9) (Listed Given 9) (λ o. map (λ f. alone (fade_bytes f)) (listed o)) (λ gs. map_option fade_of (first (bodies_of gs)))
fade_form = alone_once 9 refl (omega arith) fade_body

-- a value that was read is known
channel_known : (gs : List Group) → Listed Correct 2 gs → record_channel (first (bodies_of gs)) ≡ map_option (λ b. assignment (channel_of (get_or b 0 0))) (first (bodies_of gs))
channel_known [] h = refl
channel_known (g ∷ gs) h = known_channel_lem (get_or g.body 0 0) h.each_is.0.body.value

pub channel_form : Form (IfThere (λ c. Unit {0})) (Listed Correct 2) (Listed Given 2) (λ o. map (λ c. alone (channel_value_of c ∷ [])) (listed o)) (λ gs. record_channel (first (bodies_of gs)))
channel_form = reread (alone_once 2 refl (omega arith) channel_body) (given_correct 2) (λ gs. record_channel (first (bodies_of gs))) channel_known

-- ---- exactly one

abbrev pub One : (List Group → Type 0) → List Group → Type 0
One P gs = (0 < length gs) × P gs

pub header_form : Form Fitting (Listed Correct 1) (One (Listed Given 1)) (λ h. alone (header_bytes h) ∷ []) (λ gs. header_of (body_of (first (bodies_of gs))))
header_form =
    let f = once_form 1 (alone_form 1 refl header_body) (omega arith) in
    record { written = λ h p. f.written (Some h) p; back = header_body.back; again = again f.again; fits = fits }
  where
    again : ((gs : List Group) → Listed Given 1 gs → map (λ h. alone (header_bytes h)) (listed (map_option (λ (g : Group). header_of g.body) (first gs))) ≡ gs)
        → (gs : List Group) → One (Listed Given 1) gs → alone (header_bytes (header_of (body_of (first (bodies_of gs))))) ∷ [] ≡ gs
    again f [] p = absurd (omega (arith, p.0))
    again f (g ∷ gs) p = f (g ∷ gs) p.1

    fits : (gs : List Group) → One (Listed Given 1) gs → Fitting (header_of (body_of (first (bodies_of gs))))
    fits [] p = absurd (omega (arith, p.0))
    fits (g ∷ gs) p = header_body.fits g.body p.1.each_is.0.body

-- ---- members

-- envelopes of a kind
abbrev EnvelopesForm : ℕ → Type 0
EnvelopesForm k = Form (All (All PointFits)) (Listed Correct k) (Listed Given k) (map (λ l. gathered (map point_bytes l))) (map (λ g. map point_of g.members))

envelopes_form : (k : ℕ) → unknown_kind k ≡ false → value_wrong k 0 ≡ false → body_length k ≡ 0 → member k ≡ 6 → k ≤ latest_of k → EnvelopesForm k
envelopes_form k known value e m again = list_form k (gathered_form k known value e (rw m point_body)) again

pub attacks_form : EnvelopesForm 4
unfolding value_wrong
attacks_form = envelopes_form 4 refl refl refl refl (omega arith)

pub releases_form : EnvelopesForm 5
unfolding value_wrong
releases_form = envelopes_form 5 refl refl refl refl (omega arith)

pub sequence_form :
    Form (IfThere (All SegmentFits)) (Listed Correct 7) (Listed Given 7)
    (λ o. map (λ l. gathered (map segment_bytes l)) (listed o))
    (λ gs. map_option (λ g. map segment_of g.members) (first gs))
unfolding value_wrong
sequence_form = once_form 7 (gathered_form 7 refl refl refl segment_body) (omega arith)

-- ---- texts

-- a text's numbers, whether or not its bytes are well-formed
pub record TextFits (t : Text) : Type 0 where
  pub key : KeyFits t.key
  pub bytes : All (λ b. b < 256) t.bytes

abbrev pub text_group : Text → Group
text_group t = record { body = t.key ∷ []; members = map (λ b. b ∷ []) t.bytes }

-- read byte by byte
abbrev text_by : Group → Text
text_by g = record { key = get_or g.body 0 0; bytes = map (λ b. get_or b 0 0) g.members }

-- the members' bytes joined are those
joined : (ms : List (List ℕ)) → All (Correct 11) ms → each (λ b. b) ms ≡ map (λ b. get_or b 0 0) ms
joined [] h = refl
joined (m ∷ ms) h =
    ap (λ (b : List ℕ). b ++ each (λ x. x) ms) (sym (one_byte m h.0.whole.long))
    ∙ ap (λ (l : List ℕ). get_or m 0 0 ∷ l) (joined ms h.1)

text_by_lem : Form TextFits (OfGroup Correct 10) (OfGroup Given 10) text_group text_by
text_by_lem =
    let f = many text_byte_body in
    record {
      written = λ t h. record { body = key_body.written t.key h.key; members = f.written t.bytes h.bytes };
      back = λ t h. ap (λ (l : List ℕ). record { key = t.key; bytes = l }) (f.back t.bytes h.bytes);
      again = λ g h. rw (key_body.again g.body h.body, f.again g.members h.members);
      fits = λ g h. record { key = key_body.fits g.body h.body; bytes = f.fits g.members h.members };
    }

pub text_form : Form TextFits (OfGroup Correct 10) (OfGroup Given 10) text_group text_in
text_form = reread text_by_lem (given_group 10) text_in (λ g h. ap (λ (l : List ℕ). record { key = get_or g.body 0 0; bytes = l }) (joined g.members h.members))

pub texts_form : Form (All TextFits) (Listed Correct 10) (Listed Given 10) (map text_group) (map text_in)
texts_form = list_form 10 text_form (omega arith)
