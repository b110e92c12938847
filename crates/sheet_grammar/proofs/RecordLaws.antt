-- Records and their bytes. A list of whole records is what its bytes are read as; and what a sheet is read as is the sheet, cut into records.
--     records_back     of whole records
--     records_cut      of any sheet
-- Assumes nothing.
use Prim.Native.Nat.{ℕ, zero, suc, ◌≤◌}
use mathlib.Core.Bool.{Bool, true, false, cond}
use mathlib.Core.List.{List, [], ◌∷◌, ◌++◌}
use mathlib.Core.Path.{◌≡◌, refl, ap, ◌∙◌, subst}
use native.Mathlib.Omega.{arith}
use borrow.Author.Tests.{ltb-false, le-ltb}
use lib.Dec.{ltb}
use lib.ListN.{length, take, drop, length-append, take-append-drop}
use lib.Seq.{take_at, drop_at, length-take-le}
use Rattle.laws.specs.Walk.{more, last, after, walk, each}
use Rattle.laws.proofs.WalkLaws.{walk_more, walk_last}
use Rattle.sheet.specs.Allowed.{All}
use Rattle.sheet.specs.Record.{body_length, unknown_kind, whole, refused, record_head, RecordItem, entry, bad, first_record, records}
use Rattle.refusal.specs.declared.Refusal.{Refusal}
use Rattle.refusal.specs.declared.Refusal.TheVariants.{RecordCut, RecordWrong}

-- a record of a known kind that has all of its body
pub record Whole (k : ℕ) (b : List ℕ) : Type 0 where
  pub known : unknown_kind k ≡ false
  pub long : length b ≡ body_length k

-- of every record, where none is bad
abbrev pub OfItem : (ℕ → List ℕ → Type 0) → RecordItem → Type 0
OfItem P (entry k b) = P k b
OfItem P (bad refusal) = ⊥

-- a record as it stands in the sheet
abbrev pub bytes_of : RecordItem → List ℕ
bytes_of (entry k b) = k ∷ b
bytes_of (bad refusal) = []

-- ---- records, written and read

no_records : first_record (record_head []) [] ≡ last []
unfolding record_head
no_records = refl

records_none : records [] ≡ []
unfolding records
records_none = walk_last _ no_records [] [] no_records

whole_front : (k : ℕ) (b rest : List ℕ) → Whole k b → record_head (k ∷ (b ++ rest)) ≡ whole k
unfolding record_head
whole_front k b rest w =
    let enough : body_length k ≤ length (b ++ rest) = rw length-append (omega (arith, w.long)) in
    rw (w.known, le-ltb (length (b ++ rest)) (body_length k) enough)

records_entry : (k : ℕ) (b rest : List ℕ) → Whole k b → records (k ∷ (b ++ rest)) ≡ entry k b ∷ records rest
unfolding records
records_entry k b rest w =
    let front : first_record (record_head (k ∷ (b ++ rest))) (k ∷ (b ++ rest)) ≡ more (entry k b) (body_length k) =
    rw (whole_front k b rest w, take_at b rest (body_length k) w.long) in
    walk_more _ no_records (k ∷ (b ++ rest)) (entry k b) (body_length k) front
    ∙ ap (λ (l : List ℕ). entry k b ∷ walk (λ m. first_record (record_head m) m) 0 l) (drop_at b rest (body_length k) w.long)

pub records_back : (items : List RecordItem) → All (OfItem Whole) items → records (each bytes_of items) ≡ items
records_back [] h = records_none
records_back (entry k b ∷ items) h = records_entry k b (each bytes_of items) h.0 ∙ ap (λ (r : List RecordItem). entry k b ∷ r) (records_back items h.1)
records_back (bad refusal ∷ items) h = absurd h.0

-- ---- a sheet, cut into records

pub data Cut : List ℕ → List RecordItem → Type 0 where
  done : Cut [] []
  stop : {l : List ℕ} {refusal : Refusal} → Cut l (bad refusal ∷ [])
  next : {k : ℕ} {b l : List ℕ} {items : List RecordItem} → Whole k b → Cut l items → Cut (k ∷ (b ++ l)) (entry k b ∷ items)

-- the records of the bytes that follow the first n
abbrev reading : ℕ → List ℕ → List RecordItem
reading n l = walk (λ m. first_record (record_head m) m) n l

first_cut : (b : ℕ) (l : List ℕ) → ((n : ℕ) → Cut (drop n l) (reading n l)) → Cut (b ∷ l) (after (first_record (record_head (b ∷ l)) (b ∷ l)) (λ n. reading n l))
unfolding record_head
first_cut b l later = go (unknown_kind b) (ltb (length l) (body_length b)) refl refl
  where
    go : (u c : Bool) → unknown_kind b ≡ u → ltb (length l) (body_length b) ≡ c
        → Cut (b ∷ l) (after (first_record (cond u (refused RecordWrong) (cond c (refused RecordCut) (whole b))) (b ∷ l)) (λ n. reading n l))
    go true c e f = stop
    go false true e f = stop
    go false false e f =
        let n = body_length b in
        let w : Whole b (take n l) = record { known = e; long = length-take-le n l (ltb-false (length l) n f) } in
        subst (λ (x : List ℕ). Cut (b ∷ x) (entry b (take n l) ∷ reading n l)) (take-append-drop n l) (next w (later n))

reading_cut : (n : ℕ) (l : List ℕ) → Cut (drop n l) (reading n l)
unfolding walk
reading_cut zero [] = done
reading_cut (suc n) [] = done
reading_cut (suc n) (b ∷ l) = reading_cut n l
reading_cut zero (b ∷ l) = first_cut b l (λ n. reading_cut n l)

pub records_cut : (sheet : List ℕ) → Cut sheet (records sheet)
unfolding records
records_cut sheet = reading_cut 0 sheet
