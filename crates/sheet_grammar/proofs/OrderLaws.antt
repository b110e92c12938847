-- No record is wrong exactly if each is correct by itself, by kind, length and value, and stands where it may.
--     none_wrong         of correct records in order, none is wrong
--     sheet_accepted     of a sheet of bytes without a wrong record: its records are correct, of bytes, in order, and are the sheet
-- Assumes nothing.
use Prim.Native.Nat.{ℕ, ◌<◌}
use mathlib.Core.Bool.{Bool, true, false, cond, ◌||◌}
use mathlib.Core.List.{List, [], ◌∷◌, ◌++◌}
use mathlib.Core.Path.{◌≡◌, refl, sym, ap, subst}
use native.Mathlib.Omega.{arith}
use borrow.Author.Tests.{ne_eqb, eqb-false}
use lib.Dec.{eqb}
use lib.ListN.{length, get_or}
use lib.Seq.{take_at, drop_at}
use Rattle.field.specs.BigEndian.{Bytes}
use Rattle.laws.specs.Walk.{each}
use Rattle.field.proofs.BigEndianLaws.{bytes_tail, bytes_take, bytes_drop}
use Rattle.sheet.specs.Allowed.{All}
use Rattle.sheet.specs.Record.{RecordItem, entry, records}
use Rattle.sheet.specs.Order.{belongs, misplaced, group_after, value_wrong, first_wrong}
use Rattle.sheet_grammar.proofs.RecordLaws.{Whole, OfItem, bytes_of, Cut, done, stop, next, records_cut}
use Rattle.refusal.specs.declared.Refusal.TheVariants.{RecordWrong}
use Rattle.refusal.specs.Outcome.{accepted}
use Rattle.std.specs.Prelude.{Err, Ok}
use Rattle.laws.proofs.Cases.{impossible}

-- a record that is correct by itself
pub record Correct (k : ℕ) (b : List ℕ) : Type 0 where
  pub whole : Whole k b
  pub value : value_wrong k (get_or b 0 0) ≡ false

-- one that was read from bytes
pub record Given (k : ℕ) (b : List ℕ) : Type 0 where
  pub correct : Correct k b
  pub bytes : Bytes b

-- records each of which stands where it may, with group g in hand before them
pub data Ordered : ℕ → List RecordItem → Type 0 where
  end : {g : ℕ} → 0 < g → Ordered g []
  more : {g k : ℕ} {b : List ℕ} {items : List RecordItem} → misplaced g k ≡ false → Ordered (group_after g k) items → Ordered g (entry k b ∷ items)

-- a record that belongs to the group in hand leaves it in hand, and one that opens a group has its own in hand
pub onward : (g k : ℕ) (b : List ℕ) (t : Bool) {items : List RecordItem} → misplaced g k ≡ false → belongs k ≡ t → Ordered (cond t g k) items → Ordered g (entry k b ∷ items)
onward g k b t {items} p e o = more p (subst (λ (u : Bool). Ordered (cond u g k) items) (sym e) o)

pub none_wrong : {g : ℕ} {items : List RecordItem} → Ordered g items → All (OfItem Correct) items → first_wrong g items ≡ Ok tt
unfolding first_wrong
none_wrong {g} (end h) r = rw (ne_eqb g 0 (λ e. omega arith))
none_wrong (more p o) r = rw (p, r.0.value) (none_wrong o r.1)

-- what is known of a sheet s that is cut into records none of which is wrong
pub record Accepted (g : ℕ) (s : List ℕ) (items : List RecordItem) : Type 0 where
  pub ordered : Ordered g items
  pub given : All (OfItem Given) items
  pub back : each bytes_of items ≡ s

accepted_end : (g : ℕ) (t : Bool) → eqb g 0 ≡ t → cond t (Err RecordWrong) accepted ≡ Ok tt → Accepted g [] []
accepted_end g true e w = impossible cc
accepted_end g false e w = record { ordered = end {g = g} (omega (arith, eqb-false g 0 e)); given = tt; back = refl }

accepted_next : (g k : ℕ) (b l : List ℕ) (items : List RecordItem) → Whole k b → Bytes (k ∷ (b ++ l)) → (first_wrong (group_after g k) items ≡ Ok tt → Accepted (group_after g k) l items)
    → (m v : Bool) → misplaced g k ≡ m → value_wrong k (get_or b 0 0) ≡ v → cond (m || v) (Err RecordWrong) (first_wrong (group_after g k) items) ≡ Ok tt → Accepted g (k ∷ (b ++ l)) (entry k b ∷ items)
accepted_next g k b l items p h later true v e f w = impossible cc
accepted_next g k b l items p h later false true e f w = impossible cc
accepted_next g k b l items p h later false false e f w =
    let rest = later w in
    let own : Bytes b = rw (← take_at b l (length b) refl) (bytes_take (length b) (b ++ l) (bytes_tail k (b ++ l) h)) in
    record {
      ordered = more e rest.ordered;
      given = (record { correct = record { whole = p; value = f }; bytes = own }, rest.given);
      back = ap (λ (x : List ℕ). k ∷ (b ++ x)) rest.back;
    }

all_accepted : {s : List ℕ} {items : List RecordItem} → Cut s items → (g : ℕ) → Bytes s → first_wrong g items ≡ Ok tt → Accepted g s items
unfolding first_wrong
all_accepted done g h w = accepted_end g (eqb g 0) refl w
all_accepted stop g h w = impossible cc
all_accepted (next {k = k} {b = b} {l = l} {items = items} p c) g h w =
    let past : Bytes l = rw (← drop_at b l (length b) refl) (bytes_drop (length b) (b ++ l) (bytes_tail k (b ++ l) h)) in
    accepted_next g k b l items p h (λ n. all_accepted c (group_after g k) past n) (misplaced g k) (value_wrong k (get_or b 0 0)) refl refl w

pub sheet_accepted : (sheet : List ℕ) → Bytes sheet → first_wrong 0 (records sheet) ≡ Ok tt → Accepted 0 sheet (records sheet)
sheet_accepted sheet = all_accepted (records_cut sheet) 0
