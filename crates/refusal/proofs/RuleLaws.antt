-- The first rule that holds.
--     Passed                       the first that holds is the first of those after n rules
--     first_none                   of no rules
--     first_here, first_later      of a rule before others: that rule where it holds, else the first of the others
--     first_stands, first_join     of two lists joined: of the first list where one of it holds, else of the second
--     none_holds, first_holds      none holds where nothing is refused, else one with that refusal does
--     none_parts, none_join        of two lists joined none holds exactly if none of either does
--     holds_either, none_not       of two lists joined one that holds is of either; none is where none holds
--     none_first                   where none holds nothing is refused
--     turned_back, none_back       what an outcome says of the rules
--     answered_by                  the answer with a buffer: the first of all rules, 20 last
-- Assumes nothing.
use Prim.Native.Nat.{ℕ}
use mathlib.Core.Bool.{Bool, true, false, cond}
use mathlib.Core.List.{List, [], ◌∷◌, ◌++◌}
use mathlib.Core.Logic.{◌⊎◌, inl, inr}
use mathlib.Core.Path.{◌≡◌, refl, sym, ◌∙◌}
use borrow.Author.Tests.{ltb-true, ltb-false, le-leb, lt-leb}
use lib.Dec.{ltb}
use lib.ListN.{length, drop}
use Rattle.std.specs.Prelude.{⊤}
use Rattle.std.specs.Prelude.{Ok, Err}
use Rattle.laws.proofs.Cases.{impossible}
use Rattle.refusal.specs.Outcome.{Outcome, answer}
use Rattle.refusal.specs.Rules.{Rule, rule, first_holding, Holds, NoneHolds, unless_refused, with_buffer}
use Rattle.refusal.specs.declared.Refusal.{Refusal}
use Rattle.refusal.specs.declared.Refusal.TheVariants.{BufferShort}

-- ---- the first of a list

-- the first n rules are passed: the first that holds is the first of those after them
abbrev pub Passed : ℕ → List Rule → Type 0
Passed n rules = first_holding rules ≡ first_holding (drop n rules)

pub first_none : first_holding [] ≡ Ok tt
unfolding first_holding
first_none = refl

module _ (r : Rule) (rs : List Rule) where
  pub first_here : r.holds ≡ true → first_holding (r ∷ rs) ≡ Err r.refusal
  unfolding first_holding
  first_here h = rw h

  pub first_later : r.holds ≡ false → first_holding (r ∷ rs) ≡ first_holding rs
  unfolding first_holding
  first_later h = rw h

pub first_join : (rs qs : List Rule) → first_holding rs ≡ Ok tt → first_holding (rs ++ qs) ≡ first_holding qs
unfolding first_holding
first_join [] qs none = refl
first_join (r ∷ rs) qs none = go r.holds none (first_join rs qs)
  where
    go : (t : Bool) → cond t (Err r.refusal) (first_holding rs) ≡ Ok tt → (first_holding rs ≡ Ok tt → first_holding (rs ++ qs) ≡ first_holding qs)
        → cond t (Err r.refusal) (first_holding (rs ++ qs)) ≡ first_holding qs
    go true e later = impossible cc
    go false e later = later e

pub first_stands : (rs qs : List Rule) (refusal : Refusal) → first_holding rs ≡ Err refusal → first_holding (rs ++ qs) ≡ Err refusal
unfolding first_holding
first_stands [] qs refusal e = impossible cc
first_stands (r ∷ rs) qs refusal e = go r.holds e (first_stands rs qs refusal)
  where
    go : (t : Bool) → cond t (Err r.refusal) (first_holding rs) ≡ Err refusal → (first_holding rs ≡ Err refusal → first_holding (rs ++ qs) ≡ Err refusal)
        → cond t (Err r.refusal) (first_holding (rs ++ qs)) ≡ Err refusal
    go true e later = e
    go false e later = later e

pub none_holds : (rs : List Rule) → first_holding rs ≡ Ok tt → NoneHolds rs
unfolding first_holding
none_holds [] none = tt
none_holds (r ∷ rs) none = go r.holds refl none (none_holds rs)
  where
    go : (t : Bool) → r.holds ≡ t → cond t (Err r.refusal) (first_holding rs) ≡ Ok tt → (first_holding rs ≡ Ok tt → NoneHolds rs) → NoneHolds (r ∷ rs)
    go true h e later = impossible cc
    go false h e later = (h, later e)

pub first_holds : (rs : List Rule) (refusal : Refusal) → first_holding rs ≡ Err refusal → Holds refusal rs
unfolding first_holding
first_holds [] refusal e = impossible cc
first_holds (r ∷ rs) refusal e = go r.holds refl e (first_holds rs refusal)
  where
    go : (t : Bool) → r.holds ≡ t → cond t (Err r.refusal) (first_holding rs) ≡ Err refusal → (first_holding rs ≡ Err refusal → Holds refusal rs) → Holds refusal (r ∷ rs)
    go true h e later = inl (cc, h)
    go false h e later = inr (later e)

pub none_parts : (rs qs : List Rule) → NoneHolds (rs ++ qs) → NoneHolds rs × NoneHolds qs
none_parts [] qs none = (tt, none)
none_parts (r ∷ rs) qs none = let later = none_parts rs qs none.1 in ((none.0, later.0), later.1)

pub none_join : (rs qs : List Rule) → NoneHolds rs → NoneHolds qs → NoneHolds (rs ++ qs)
none_join [] qs first next = next
none_join (r ∷ rs) qs first next = (first.0, none_join rs qs first.1 next)

pub none_first : (rs : List Rule) → NoneHolds rs → first_holding rs ≡ Ok tt
unfolding first_holding
none_first [] none = refl
none_first (r ∷ rs) none = rw none.0 (none_first rs none.1)

pub none_not : (refusal : Refusal) (rs : List Rule) → NoneHolds rs → Holds refusal rs → ⊥
none_not refusal [] none h = h
none_not refusal (r ∷ rs) none (inl here) = impossible cc
none_not refusal (r ∷ rs) none (inr later) = none_not refusal rs none.1 later

pub holds_either : (refusal : Refusal) (rs qs : List Rule) → Holds refusal (rs ++ qs) → Holds refusal rs ⊎ Holds refusal qs
holds_either refusal [] qs h = inr h
holds_either refusal (r ∷ rs) qs (inl here) = inl (inl here)
holds_either refusal (r ∷ rs) qs (inr later) = go (holds_either refusal rs qs later)
  where
    go : Holds refusal rs ⊎ Holds refusal qs → Holds refusal (r ∷ rs) ⊎ Holds refusal qs
    go (inl h) = inl (inr h)
    go (inr h) = inr h

-- ---- an outcome by its rules

-- a refusal turns a value back, and nothing else does
pub turned_back : {A : Type 0} (judged : Outcome ⊤) (refusal : Refusal) (a : A) → unless_refused judged a ≡ Err refusal → judged ≡ Err refusal
turned_back (Ok u) refusal a e = impossible cc
turned_back (Err r) refusal a e = cc

pub none_back : {A : Type 0} (judged : Outcome ⊤) (a b : A) → unless_refused judged a ≡ Ok b → judged ≡ Ok tt
none_back (Ok u) a b e = refl
none_back (Err r) a b e = impossible cc

-- an output that no rule turns back, into a buffer of so many places
module _ {A : Type 0} (rs : List Rule) (xs : List A) (places : ℕ) where
  into_buffer : (t : Bool) → ltb places (length xs) ≡ t → answer (Ok xs) places ≡ unless_refused (cond t (Err BufferShort) (Ok tt)) (length xs)
  into_buffer true e = rw (lt-leb (length xs) places (ltb-true places (length xs) e))
  into_buffer false e = rw (le-leb (length xs) places (ltb-false places (length xs) e))

  pub answered_by : answer (unless_refused (first_holding rs) xs) places ≡ unless_refused (first_holding (with_buffer rs xs places)) (length xs)
  unfolding first_holding
  answered_by = go (first_holding rs) refl
    where
      go : (j : Outcome ⊤) → first_holding rs ≡ j → answer (unless_refused j xs) places ≡ unless_refused (first_holding (with_buffer rs xs places)) (length xs)
      go (Ok u) e = rw (first_join rs (rule BufferShort (ltb places (length xs)) ∷ []) e) (into_buffer (ltb places (length xs)) refl)
      go (Err r) e = rw (first_stands rs (rule BufferShort (ltb places (length xs)) ∷ []) r e) refl
