-- Where a stretch ends: entry by entry it is cut at a start and at a key-up that lie within it.
--     cut_past, cut_within                      an event that lies before, or past, the stretch's first frame
--     calm_before, all_at                       an end that comes sooner; one of those for which something holds
--     stretch_all, stretch_more                 of all entries, and of one more
-- Assumes nothing.
use Prim.Native.Nat.{ℕ, zero, suc, ◌+◌, ◌≤◌, ◌<◌, min}
use mathlib.Core.Bool.{Bool, true, false}
use mathlib.Core.List.{List, [], ◌∷◌, ◌++◌}
use mathlib.Core.Path.{◌≡◌, refl}
use native.Mathlib.Nat.{not-suc-le-zero, le_of_suc-le-suc}
use native.Mathlib.Omega.{arith}
use borrow.Author.Tests.{le-leb, lt-leb, leb-true, leb-false}
use lib.Dec.{leb}
use lib.ListN.{length, take, get_or}
use lib.Seq.{take_all}
use Rattle.sheet.specs.Allowed.{All}
use Rattle.ensemble_score.specs.declared.Entry.{Entry}
use Rattle.ensemble_rules.proofs.RuleLaws.{blank}
use Rattle.ensemble_block.specs.Stretch.{Calm, StretchTo, cut_at}
use Rattle.std.proofs.lemmas.List.{take_more}

-- ---- an event

module _ (at end event : ℕ) where
  pub cut_past : event ≤ at → cut_at at end event ≡ end
  cut_past h = rw (le-leb event at h)

  pub cut_within : at < event → cut_at at end event ≡ min end event
  cut_within h = rw (lt-leb event at h)

  -- it comes no later than the end, past `at`, and no later than an event that lies past `at`
  cut_is : at < end → (at < cut_at at end event) × (cut_at at end event ≤ end) × (at < event → cut_at at end event ≤ event)
  cut_is some = go (leb event at) refl
    where
      go : (t : Bool) → leb event at ≡ t → (at < cut_at at end event) × (cut_at at end event ≤ end) × (at < event → cut_at at end event ≤ event)
      go true e =
          let past = leb-true event at e in
          rw (cut_past past) (some, omega arith, λ h. omega arith)
      go false e =
          let within = leb-false event at e in
          rw (cut_within within) (omega arith, omega arith, λ h. omega arith)

-- ---- entries

pub calm_before : (at end next : ℕ) (e : Entry) → next ≤ end → Calm at end e → Calm at next e
calm_before at end next e h c = record { starts = λ a. omega (arith, c.starts a); comes_up = λ a. omega (arith, c.comes_up a) }

all_before : (at end next : ℕ) (es : List Entry) → next ≤ end → All (Calm at end) es → All (Calm at next) es
all_before at end next [] h all = tt
all_before at end next (e ∷ es) h all = (calm_before at end next e h all.0, all_before at end next es h all.1)

all_more : {A : Type 0} (P : A → Type 0) (as' : List A) (a : A) → All P as' → P a → All P (as' ++ (a ∷ []))
all_more P [] a all p = (p, tt)
all_more P (b ∷ as') a all p = (all.0, all_more P as' a all.1 p)

pub all_at : {A : Type 0} (P : A → Type 0) (as' : List A) (i : ℕ) (d : A) → All P as' → i < length as' → P (get_or as' i d)
all_at P [] i d all h = absurd (not-suc-le-zero h)
all_at P (a ∷ as') zero d all h = all.0
all_at P (a ∷ as') (suc i) d all h = all_at P as' i d all.1 (le_of_suc-le-suc h)

pub stretch_all : (score : List Entry) (at end most i next : ℕ) → length score ≤ i → StretchTo (take i score) at end most next → StretchTo score at end most next
stretch_all score at end most i next h s = rw (take_all i score h) at s

pub stretch_more : (score : List Entry) (at end most i next next' : ℕ) → i < length score → next' ≡ cut_at at (cut_at at next (get_or score i blank).start) (get_or score i blank).key_up
    → StretchTo (take i score) at end most next → StretchTo (take (i + 1) score) at end most next'
stretch_more score at end most i next next' there cut s =
    let e : Entry = get_or score i blank in
    let seen = take i score in
    let a = cut_is at next e.start s.some in
    let b = cut_is at (cut_at at next e.start) e.key_up a.0 in
    let sooner : next' ≤ next = omega (arith, a.1, b.1, cut) in
    let here : Calm at next' e = record { starts = λ h. omega (arith, a.2 h, b.1, cut); comes_up = λ h. omega (arith, b.2 h, cut) } in
    record {
      some = omega (arith, b.0, cut);
      within = omega (arith, s.within);
      short = omega (arith, s.short);
      calm = rw (take_more score i blank there) (all_more (Calm at next') seen e (all_before at next next' seen sooner s.calm) here);
    }
