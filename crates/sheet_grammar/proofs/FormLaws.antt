-- A form: how values are written and read, so that each undoes the other. From the form of one body come those of a group and of
-- the groups of one kind, by recursion on lists.
--     field_form, byte_form           one body: of fixed length, and of one byte
--     alone_form, gathered_form       one group: a record without members, and members alone
--     list_form, once_form            the groups of a kind that may come again, and of one that may not
-- Assumes nothing.
use Prim.Native.Nat.{ℕ, ◌≤◌, ◌<◌}
use mathlib.Core.Bool.{true, false, true≢false}
use mathlib.Core.List.{List, [], ◌∷◌, ◌++◌, map, append-nil}
use mathlib.Core.Path.{◌≡◌, refl, sym, ap, ◌∙◌}
use native.Mathlib.Omega.{arith}
use lib.ListN.{length, get_or, take}
use lib.Seq.{take_all}
use Rattle.field.specs.BigEndian.{Bytes}
use Rattle.sheet.specs.Allowed.{All, IfThere}
use Rattle.sheet.specs.Record.{body_length, unknown_kind}
use Rattle.sheet.specs.Order.{value_wrong}
use Rattle.sheet.specs.Read.{Group, first, map_option}
use Rattle.sheet_grammar.proofs.ListLaws.{all_map, map_back}
use Rattle.sheet_grammar.proofs.OrderLaws.{Correct, Given}
use Rattle.sheet_grammar.proofs.KindLaws.{member, latest_of}
use Rattle.sheet_grammar.proofs.Sections.{OfGroup, Listed}
use Rattle.std.specs.Prelude.{None, Option, Some}

-- a value that fits is written as something `Written`, which reads as that value; and something `Read` reads as a value that
-- fits, which is written as that thing
pub record Form {A B : Type 0} (Fits : A → Type 0) (Written Read : B → Type 0) (write : A → B) (read : B → A) : Type 0 where
  pub written : (a : A) → Fits a → Written (write a)
  pub back : (a : A) → Fits a → read (write a) ≡ a
  pub again : (b : B) → Read b → write (read b) ≡ b
  pub fits : (b : B) → Read b → Fits (read b)

module _ {A B : Type 0} {F : A → Type 0} {W R : B → Type 0} {w : A → B} {r : B → A} where
  -- read in another way that comes to the same
  pub reread : Form F W R w r → ((b : B) → R b → W b) → (r' : B → A) → ((b : B) → W b → r' b ≡ r b) → Form F W R w r'
  reread f also r' e = record {
    written = f.written;
    back = λ a h. e (w a) (f.written a h) ∙ f.back a h;
    again = λ b h. ap w (e b (also b h)) ∙ f.again b h;
    fits = λ b h. rw (e b (also b h)) (f.fits b h);
  }

  pub many : Form F W R w r → Form (All F) (All W) (All R) (map w) (map r)
  many f = record {
    written = all_map W w f.written;
    back = map_back w r f.back;
    again = map_back r w f.again;
    fits = all_map F r f.fits;
  }

-- ---- one body

-- a field of fixed length, by the laws of its bytes
pub field_form : {A : Type 0} {F : A → Type 0} (k : ℕ) (w : A → List ℕ) (r : List ℕ → A)
    → unknown_kind k ≡ false → ((v : ℕ) → value_wrong k v ≡ false)
    → ((a : A) → length (w a) ≡ body_length k)
    → ((a : A) (rest : List ℕ) → F a → r (w a ++ rest) ≡ a)
    → ((l : List ℕ) → Bytes l → body_length k ≤ length l → w (r l) ≡ take (body_length k) l)
    → ((l : List ℕ) → Bytes l → F (r l))
    → Form F (Correct k) (Given k) w r
field_form k w r known value long back again fits = record {
  written = λ a h. record { whole = record { known = known; long = long a }; value = value (get_or (w a) 0 0) };
  back = λ a h. ap r (sym (append-nil (w a))) ∙ back a [] h;
  again = λ b h. again b h.bytes (omega (arith, h.correct.whole.long)) ∙ take_all (body_length k) b (omega (arith, h.correct.whole.long));
  fits = λ b h. fits b h.bytes;
}

pub one_byte : (b : List ℕ) → length b ≡ 1 → get_or b 0 0 ∷ [] ≡ b
one_byte [] e = absurd (omega arith)
one_byte (x ∷ []) e = refl
one_byte (x ∷ y ∷ b) e = absurd (omega arith)

-- a body of one byte
pub byte_form : {A : Type 0} {F : A → Type 0} (k : ℕ) (w : A → ℕ) (r : ℕ → A)
    → unknown_kind k ≡ false → body_length k ≡ 1
    → ((a : A) → F a → value_wrong k (w a) ≡ false)
    → ((a : A) → F a → r (w a) ≡ a)
    → ((v : ℕ) → value_wrong k v ≡ false → w (r v) ≡ v)
    → ((v : ℕ) → v < 256 → value_wrong k v ≡ false → F (r v))
    → Form F (Correct k) (Given k) (λ a. w a ∷ []) (λ b. r (get_or b 0 0))
byte_form k w r known one value back again fits = record {
  written = λ a h. record { whole = record { known = known; long = sym one }; value = value a h };
  back = back;
  again = λ b h. ap (λ (v : ℕ). v ∷ []) (again (get_or b 0 0) h.correct.value) ∙ one_byte b (h.correct.whole.long ∙ one);
  fits = λ b h. fits (get_or b 0 0) (h.bytes 0) h.correct.value;
}

-- ---- a group

-- a record with no members
abbrev pub alone : List ℕ → Group
alone b = record { body = b; members = [] }

-- members with nothing in the record that opens them
abbrev pub gathered : List (List ℕ) → Group
gathered ms = record { body = []; members = ms }

no_members : (k : ℕ) → unknown_kind k ≡ true → (ms : List (List ℕ)) → All (Given k) ms → [] ≡ ms
no_members k u [] h = refl
no_members k u (m ∷ ms) h = absurd (true≢false (sym u ∙ h.0.correct.whole.known))

no_body : (k : ℕ) → body_length k ≡ 0 → (b : List ℕ) → length b ≡ body_length k → [] ≡ b
no_body k e [] h = refl
no_body k e (x ∷ b) h = absurd (omega arith)

module _ {A : Type 0} {F : A → Type 0} {w : A → List ℕ} {r : List ℕ → A} (k : ℕ) where
  pub alone_form : unknown_kind (member k) ≡ true → Form F (Correct k) (Given k) w r → Form F (OfGroup Correct k) (OfGroup Given k) (λ a. alone (w a)) (λ g. r g.body)
  alone_form u f = record {
    written = λ a h. record { body = f.written a h; members = tt };
    back = f.back;
    again = λ g h. ap alone (f.again g.body h.body) ∙ ap (λ (ms : List (List ℕ)). record { body = g.body; members = ms }) (no_members (member k) u g.members h.members);
    fits = λ g h. f.fits g.body h.body;
  }

  pub gathered_form :
      unknown_kind k ≡ false → value_wrong k 0 ≡ false → body_length k ≡ 0 → Form F (Correct (member k)) (Given (member k)) w r →
      Form (All F) (OfGroup Correct k) (OfGroup Given k) (λ l. gathered (map w l)) (λ g. map r g.members)
  gathered_form known value e f =
      let f' = many f in
      record {
        written = λ l h. record { body = record { whole = record { known = known; long = sym e }; value = value }; members = f'.written l h };
        back = f'.back;
        again = λ g h. ap gathered (f'.again g.members h.members) ∙ ap (λ (b : List ℕ). record { body = b; members = g.members }) (no_body k e g.body h.body.correct.whole.long);
        fits = λ g h. f'.fits g.members h.members;
      }

-- ---- the groups of one kind

-- a value that may be missing, as a list
abbrev pub listed : {A : Type 0} → Option A → List A
listed None = []
listed (Some a) = a ∷ []

module _ {A : Type 0} {F : A → Type 0} {w : A → Group} {r : Group → A} (k : ℕ) (f : Form F (OfGroup Correct k) (OfGroup Given k) w r) where
  -- a kind that may come again
  pub list_form : k ≤ latest_of k → Form (All F) (Listed Correct k) (Listed Given k) (map w) (map r)
  list_form again =
      let f' = many f in
      record {
        written = λ l h. record { once = λ late. absurd (omega arith); each_is = f'.written l h };
        back = f'.back;
        again = λ gs h. f'.again gs h.each_is;
        fits = λ gs h. f'.fits gs h.each_is;
      }

  -- one that may not
  module _ (late : latest_of k < k) where
    written_once : (o : Option A) → IfThere F o → Listed Correct k (map w (listed o))
    written_once None h = record { once = λ p. omega arith; each_is = tt }
    written_once (Some a) h = record { once = λ p. omega arith; each_is = (f.written a h, tt) }

    back_once : (o : Option A) → IfThere F o → map_option r (first (map w (listed o))) ≡ o
    back_once None h = refl
    back_once (Some a) h = ap Some (f.back a h)

    again_once : (gs : List Group) → Listed Given k gs → map w (listed (map_option r (first gs))) ≡ gs
    again_once [] h = refl
    again_once (g ∷ []) h = ap (λ (x : Group). x ∷ []) (f.again g h.each_is.0)
    again_once (g ∷ g' ∷ gs) h = absurd (omega (arith, h.once late))

    fits_once : (gs : List Group) → Listed Given k gs → IfThere F (map_option r (first gs))
    fits_once [] h = tt
    fits_once (g ∷ gs) h = f.fits g h.each_is.0

    pub once_form : Form (IfThere F) (Listed Correct k) (Listed Given k) (λ o. map w (listed o)) (λ gs. map_option r (first gs))
    once_form = record { written = written_once; back = back_once; again = again_once; fits = fits_once }
