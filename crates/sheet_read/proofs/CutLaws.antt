-- A payload cut into parts of n bytes, each read as a value: written again with a tag before each they are `tagged`; they fit; and
-- how long they are written.
-- Assumes nothing.
use Prim.Native.Nat.{ℕ, zero, suc, ◌*◌, ◌≤◌, ◌<◌}
use borrow.Author.Tests.{ltb-true, ltb-false}
use lib.Dec.{ltb}
use lib.ListN.{length, take, drop, length-append, length-drop, length-take}
use lib.Seq.{take-take}
use mathlib.Core.Bool.{Bool, true, false}
use mathlib.Core.List.{List, [], ◌∷◌, map}
use mathlib.Core.Path.{◌≡◌, refl, sym, ◌∙◌}
use native.Mathlib.Nat.{zero-add, sub-zero}
use native.Mathlib.Omega.{arith}
use Rattle.field.specs.BigEndian.{Bytes}
use Rattle.laws.specs.Walk.{each}
use Rattle.field.specs.Tagged.{parts, tagged}
use Rattle.field.proofs.BigEndianLaws.{bytes_take, bytes_drop}
use Rattle.field.proofs.TaggedLaws.{parts_more, parts_end, tagged_at, tagged_at_end}
use Rattle.sheet.specs.Allowed.{All}

module _ (n : ℕ) (pos : 0 < n) where
  -- what holds of under n bytes, which have no part, and of a part before other bytes, holds of all bytes with their parts
  by_parts : (P : List ℕ → List (List ℕ) → Type 0) → ((l : List ℕ) → length l < n → P l [])
      → ((l : List ℕ) (ps : List (List ℕ)) → n ≤ length l → P (drop n l) ps → P l (take n l ∷ ps)) → (l : List ℕ) → P l (parts n l)
  by_parts P end more l = go (length l) l (omega arith)
    where
      go : (k : ℕ) (l : List ℕ) → length l ≤ k → P l (parts n l)
      go zero l h = rw (parts_end n pos l (omega arith)) (end l (omega arith))
      go (suc k) l h = turn (ltb (length l) n) refl (go k (drop n l))
        where
          turn : (t : Bool) → ltb (length l) n ≡ t → (length (drop n l) ≤ k → P (drop n l) (parts n (drop n l))) → P l (parts n l)
          turn true e later = rw (parts_end n pos l (ltb-true (length l) n e)) (end l (ltb-true (length l) n e))
          turn false e later =
              rw (parts_more n pos l (ltb-false (length l) n e)) (more l (parts n (drop n l)) (ltb-false (length l) n e) (later (rw length-drop (omega (arith, ltb-false (length l) n e)))))

module _ {A : Type 0} (n tag : ℕ) (pos : 0 < n) (read : List ℕ → A) (write : A → List ℕ) where
  pub parts_tagged : ((l : List ℕ) → Bytes l → n ≤ length l → write (read l) ≡ take n l)
      → (l : List ℕ) → Bytes l → each (λ a. tag ∷ write a) (map read (parts n l)) ≡ tagged tag n l
  parts_tagged again = by_parts n pos (λ l ps. Bytes l → each (λ a. tag ∷ write a) (map read ps) ≡ tagged tag n l) end more
    where
      end : (l : List ℕ) → length l < n → Bytes l → [] ≡ tagged tag n l
      end l h b = sym (tagged_at_end tag n pos l 0 (rw sub-zero h))

      more : (l : List ℕ) (ps : List (List ℕ)) → n ≤ length l → (Bytes (drop n l) → each (λ a. tag ∷ write a) (map read ps) ≡ tagged tag n (drop n l))
          → Bytes l → each (λ a. tag ∷ write a) (map read (take n l ∷ ps)) ≡ tagged tag n l
      more l ps h later b =
          let part : write (read (take n l)) ≡ take n l = again (take n l) (bytes_take n l b) (rw length-take (omega arith)) ∙ take-take n n l (omega arith) in
          rw (part, later (bytes_drop n l b)) (sym (rw (zero-add, sub-zero) at (tagged_at tag n pos l 0 (rw sub-zero h))))

  pub parts_bound : ((a : A) → length (write a) ≡ n) → (l : List ℕ) → length (each (λ a. tag ∷ write a) (map read (parts n l))) ≤ 2 * length l
  parts_bound long = by_parts n pos (λ l ps. length (each (λ a. tag ∷ write a) (map read ps)) ≤ 2 * length l) (λ l h. omega arith) more
    where
      more : (l : List ℕ) (ps : List (List ℕ)) → n ≤ length l → length (each (λ a. tag ∷ write a) (map read ps)) ≤ 2 * length (drop n l)
          → length (each (λ a. tag ∷ write a) (map read (take n l ∷ ps))) ≤ 2 * length l
      more l ps h later =
          omega (arith, length-append (write (read (take n l))) (each (λ a. tag ∷ write a) (map read ps)), long (read (take n l)), length-drop n l)

pub parts_fit : {A : Type 0} (n : ℕ) → 0 < n → (read : List ℕ → A) (F : A → Type 0) → ((l : List ℕ) → Bytes l → F (read l))
    → (l : List ℕ) → Bytes l → All F (map read (parts n l))
parts_fit n pos read F fits =
    by_parts n pos (λ l ps. Bytes l → All F (map read ps)) (λ l h b. tt) (λ l ps h later b. (fits (take n l) (bytes_take n l b), later (bytes_drop n l b)))
