-- Rules that turn a call back, as a list in the order in which they are judged: a call is refused by the first that holds.
use Rattle.std.specs.Prelude.{ℕ, Bool, true, false, cond, List, [], ◌∷◌, ◌++◌, map, ◌⊎◌, ◌≡◌, ltb, length, Ok, Err, ⊤}
use Rattle.refusal.specs.Outcome.{Outcome}
use Rattle.refusal.specs.Refusal.{number_of}
use Rattle.refusal.specs.declared.Refusal.{Refusal}
use Rattle.refusal.specs.declared.Refusal.TheVariants.{BufferShort}

-- a rule: its refusal, and whether it holds
pub record Rule : Type 0 where
  pub refusal : Refusal
  pub holds : Bool

-- a rule by these two
abbrev pub rule : Refusal → Bool → Rule
rule refusal holds = record { refusal = refusal; holds = holds }

-- the refusal of the first rule that holds, or none
unfoldable pub first_holding : List Rule → Outcome ⊤
first_holding [] = Ok tt
first_holding (r ∷ rs) = cond r.holds (Err r.refusal) (first_holding rs)

-- a value, unless a refusal turns it back
abbrev pub unless_refused : {A : Type 0} → Outcome ⊤ → A → Outcome A
unless_refused (Ok u) a = Ok a
unless_refused (Err refusal) a = Err refusal

-- rules for an output that is to go into a buffer of so many places: 20, where it doesn't fit, comes last
abbrev pub with_buffer : {A : Type 0} → List Rule → List A → ℕ → List Rule
with_buffer rules xs places = rules ++ rule BufferShort (ltb places (length xs)) ∷ []

-- the numbers of rules, in the order in which they are judged
abbrev pub numbers_of : List Rule → List ℕ
numbers_of rules = map (λ r. number_of r.refusal) rules

-- a rule with this refusal is among them and holds
abbrev pub Holds : Refusal → List Rule → Type 0
Holds refusal [] = ⊥
Holds refusal (r ∷ rs) = ((r.refusal ≡ refusal) × (r.holds ≡ true)) ⊎ Holds refusal rs

-- no rule holds
abbrev pub NoneHolds : List Rule → Type 0
NoneHolds [] = Unit
NoneHolds (r ∷ rs) = (r.holds ≡ false) × NoneHolds rs
