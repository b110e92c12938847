-- The members of a group from a place on: one more, or none; and how long they are, all together.
-- Assumes nothing.
use Prim.Native.Nat.{ℕ, ◌-◌, ◌*◌, ◌≤◌}
use borrow.Author.Tests.{eq-eqb, ne_eqb, eqb-true}
use lib.Dec.{eqb}
use lib.ListN.{length, take, drop, length-append}
use mathlib.Core.Bool.{Bool, true, false}
use mathlib.Core.List.{List, [], ◌∷◌, ◌++◌}
use mathlib.Core.Path.{◌≡◌, refl}
use native.Mathlib.Omega.{arith}
use Rattle.sheet_grammar.proofs.GroupLaws.{leading_own, leading_other}
use Rattle.sheet_grammar.proofs.RecordLaws.{Cut, done, stop, next, records_cut}
use Rattle.laws.specs.Walk.{each}
use Rattle.sheet.proofs.RecordLaws.{Whole}
use Rattle.sheet.specs.Read.{leading}
use Rattle.sheet.specs.Record.{RecordItem, entry, records, body_length}
use Rattle.sheet_write.proofs.StopLaws.{Stopped, ended, refused}

pub none_stopped : (m : ℕ) {items : List RecordItem} → Stopped items → leading m items ≡ []
unfolding leading
none_stopped m ended = refl
none_stopped m refused = refl

module _ {s : List ℕ} {at k start past : ℕ} (m : ℕ) (w : Whole s at k start past) where
  pub member_more : k ≡ m → leading m (records (drop at s)) ≡ take (past - start) (drop start s) ∷ leading m (records (drop past s))
  member_more e = rw w.items (leading_own k (take (past - start) (drop start s)) (records (drop past s)) m (eq-eqb k m e))

  pub member_none : (k ≡ m → ⊥) → leading m (records (drop at s)) ≡ []
  member_none h = rw w.items (leading_other k (take (past - start) (drop start s)) (records (drop past s)) m (ne_eqb k m h))

-- ---- their length

-- what is known of members of a kind that stand at the front of l
pub record Sized (m : ℕ) (l : List ℕ) (bodies : List (List ℕ)) : Type 0 where
  pub total : length (each (λ b. b) bodies) ≡ length bodies * body_length m
  pub inside : length (each (λ b. b) bodies) ≤ length l

module _ (m : ℕ) where
  no_members : (l : List ℕ) → Sized m l []
  no_members l = record { total = omega arith; inside = omega arith }

  cut_sized : {l : List ℕ} {items : List RecordItem} → Cut l items → Sized m l (leading m items)
  cut_sized done = rw (none_stopped m ended) (no_members [])
  cut_sized (stop {l = l} {refusal = r}) = rw (none_stopped m (refused {refusal = r})) (no_members l)
  cut_sized (next {k = k} {b = b} {l = l} {items = items} w c) = go (eqb k m) refl (cut_sized c)
    where
      go : (t : Bool) → eqb k m ≡ t → Sized m l (leading m items) → Sized m (k ∷ (b ++ l)) (leading m (entry k b ∷ items))
      go true e h =
          let own : body_length k ≡ body_length m = rw (eqb-true k m e) in
          let joined = length-append b (each (λ x. x) (leading m items)) in
          rw (leading_own k b items m e) record { total = omega (arith, joined, h.total, w.long, own); inside = omega (arith, joined, length-append b l, h.inside) }
      go false e h = rw (leading_other k b items m e) (no_members (k ∷ (b ++ l)))

  pub members_sized : (l : List ℕ) → Sized m l (leading m (records l))
  members_sized l = cut_sized (records_cut l)
