-- The text of a chunk: that there is one or none, how it is written, and how long; and the texts of the items, one chunk at a time.
--     key_none, key_most     the key of a name that is no text's, and of any
--     text_cases             what holds of no text, and of one with a key and bytes, holds of `text_of`
--     all_texts              what holds of the text of every payload holds of all texts
-- No proof elsewhere unfolds `text_of` and `texts_of`.
-- Assumes nothing.
use Prim.Native.Nat.{ℕ, zero, suc, ◌+◌, ◌*◌, ◌≤◌}
use borrow.Author.Tests.{ne_eqb}
use lib.Dec.{eqb}
use lib.ListN.{length}
use mathlib.Core.Bool.{Bool, true, false, cond}
use mathlib.Core.List.{List, [], ◌∷◌, ◌++◌, append-nil}
use mathlib.Core.Path.{◌≡◌, refl, sym, ap, ◌∙◌}
use native.Mathlib.Omega.{arith}
use Rattle.laws.proofs.Cases.{impossible}
use Rattle.laws.specs.Walk.{each}
use Rattle.chunk.specs.Chunk.{Item, chunk, bad}
use Rattle.form.specs.Kind.{place_in}
use Rattle.form.specs.Names.{name, auth, anno, copyright, chrs}
use Rattle.form.proofs.FormLaws.{NoneOf}
use Rattle.text.specs.Text.{clean}
use Rattle.text.specs.TextRecords.{text_records}
use Rattle.text.proofs.RecordLaws.{records_length}
use Rattle.text.proofs.Theorems.{clean_bound}
use Rattle.sheet.specs.Allowed.{All}
use Rattle.sheet.specs.Flat.{flat_text}
use Rattle.sheet.specs.Voice.{Text}
use Rattle.sheet_read.specs.FormVoice.{text_key, text_of, texts_of}
use Rattle.sheet_read.specs.Parts.{text_part}
use Rattle.sheet_read.proofs.ItemLaws.{Payloads}
use Rattle.refusal.specs.declared.Refusal.{Refusal}

-- ---- keys

-- the names of texts
abbrev pub text_names : List ℕ
text_names = name ∷ auth ∷ anno ∷ copyright ∷ chrs ∷ []

pub key_none : (id : ℕ) → NoneOf id text_names → text_key id ≡ 0
unfolding text_key
key_none id h = rw (ne_eqb id name h.0, ne_eqb id auth h.1.0, ne_eqb id anno h.1.1.0, ne_eqb id copyright h.1.1.1.0, ne_eqb id chrs h.1.1.1.1.0)

place_most : (k id : ℕ) (ns : List ℕ) → place_in (suc k) id ns ≤ k + length ns
place_most k id [] = omega arith
place_most k id (n ∷ ns) = go (eqb id n) (place_most (suc k) id ns)
  where
    go : (t : Bool) → place_in (suc (suc k)) id ns ≤ suc k + length ns → cond t (suc k) (place_in (suc (suc k)) id ns) ≤ k + suc (length ns)
    go true h = omega arith
    go false h = omega arith

pub key_most : (id : ℕ) → text_key id ≤ 5
unfolding text_key
key_most id = place_most 0 id text_names

-- ---- one text or none

pub text_cases : (Q : List Text → Type 0) (key : ℕ) (text : List ℕ) → Q [] → ((key ≡ 0 → ⊥) → (text ≡ [] → ⊥) → Q (record { key = key; bytes = text } ∷ [])) → Q (text_of key text)
unfolding text_of
text_cases Q zero text none one = none
text_cases Q (suc k) [] none one = none
text_cases Q (suc k) (b ∷ bs) none one = one (λ e. absurd (omega arith)) (λ e. impossible cc)

module _ (key : ℕ) (text : List ℕ) where
  pub no_key : key ≡ 0 → text_of key text ≡ []
  no_key e = text_cases (λ ts. ts ≡ []) key text refl (λ k t. absurd (k e))

  pub no_text : text ≡ [] → text_of key text ≡ []
  no_text e = text_cases (λ ts. ts ≡ []) key text refl (λ k t. absurd (t e))

one_text : (key : ℕ) (text : List ℕ) → (key ≡ 0 → ⊥) → (text ≡ [] → ⊥) → text_of key text ≡ record { key = key; bytes = text } ∷ []
unfolding text_of
one_text zero text k t = absurd (k refl)
one_text (suc n) [] k t = absurd (t refl)
one_text (suc n) (b ∷ bs) k t = refl

-- ---- its records

records_each : (text : List ℕ) → each (λ b. 11 ∷ b ∷ []) text ≡ text_records text
unfolding text_records
records_each [] = refl
records_each (b ∷ bs) = ap (λ (r : List ℕ). 11 ∷ b ∷ r) (records_each bs)

-- the records of one text
text_records_lem : (key : ℕ) (text : List ℕ) → each flat_text (record { key = key; bytes = text } ∷ []) ≡ (10 ∷ key ∷ []) ++ text_records text
text_records_lem key text = append-nil (10 ∷ key ∷ each (λ b. 11 ∷ b ∷ []) text) ∙ ap (λ (r : List ℕ). 10 ∷ key ∷ r) (records_each text)

pub text_written : (key : ℕ) (text : List ℕ) → (key ≡ 0 → ⊥) → (text ≡ [] → ⊥) → each flat_text (text_of key text) ≡ (10 ∷ key ∷ []) ++ text_records text
text_written key text k t = ap (each flat_text) (one_text key text k t) ∙ text_records_lem key text

pub text_length : (key : ℕ) (b : List ℕ) → length (each flat_text (text_of key (clean b))) ≤ 6 * (8 + length b)
text_length key b =
    text_cases (λ ts. length (each flat_text ts) ≤ 6 * (8 + length b)) key (clean b) (omega arith)
    (λ k t. omega (arith, ap length (text_records_lem key (clean b)), records_length (clean b), clean_bound b))

-- ---- the texts of the items

text_first : (key : ℕ) (text : List ℕ) (ts : List Text) → each flat_text (text_of key text ++ ts) ≡ each flat_text (text_of key text) ++ each flat_text ts
text_first key text ts =
    text_cases (λ l. each flat_text (l ++ ts) ≡ each flat_text l ++ each flat_text ts) key text refl
    (λ k t. ap (λ (r : List ℕ). r ++ each flat_text ts) (sym (append-nil (flat_text (record { key = key; bytes = text })))))

pub texts_none : text_part [] ≡ []
unfolding texts_of
texts_none = refl

pub texts_bad : (refusal : Refusal) (items : List Item) → text_part (bad refusal ∷ items) ≡ []
unfolding texts_of
texts_bad refusal items = refl

pub texts_more : (id : ℕ) (b : List ℕ) (items : List Item) → text_part (chunk id b ∷ items) ≡ each flat_text (text_of (text_key id) (clean b)) ++ text_part items
unfolding texts_of
texts_more id b items = text_first (text_key id) (clean b) (texts_of items)

pub all_texts : (P : Text → Type 0) (R : List ℕ → Type 0)
    → ((id : ℕ) (b : List ℕ) → R b → (text_key id ≡ 0 → ⊥) → (clean b ≡ [] → ⊥) → P (record { key = text_key id; bytes = clean b }))
    → (items : List Item) → Payloads R items → All P (texts_of items)
unfolding texts_of
all_texts P R one [] h = tt
all_texts P R one (bad refusal ∷ items) h = tt
all_texts P R one (chunk id b ∷ items) h =
    let later = all_texts P R one items h.1 in
    text_cases (λ ts. All P (ts ++ texts_of items)) (text_key id) (clean b) later (λ k t. (one id b h.0 k t, later))
