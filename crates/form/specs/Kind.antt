-- The names that have rules, and the rules by their place in the list. Place 0 is any other name, which has none.
use Rattle.std.specs.Prelude.{ℕ, suc, ◌%◌, eqb, ltb, get_or, Bool, true, false, cond, not, ◌||◌, List, [], ◌∷◌}
use Rattle.form.specs.Names.{vhdr, chan, pan, seqn, fade, body, atak, rlse}

-- the names, from place 1 on
abbrev pub names : List ℕ
names = vhdr ∷ chan ∷ pan ∷ seqn ∷ fade ∷ body ∷ atak ∷ rlse ∷ []

-- k more than the place of a name in a list, or 0
abbrev pub place_in : ℕ → ℕ → List ℕ → ℕ
place_in k id [] = 0
place_in k id (n ∷ ns) = cond (eqb id n) k (place_in (suc k) id ns)

-- a chunk's kind
unfoldable pub kind_of : ℕ → ℕ
kind_of id = place_in 1 id names

-- the least length: VHDR 20, CHAN, PAN and FADE 4
abbrev pub least : List ℕ
least = 0 ∷ 20 ∷ 4 ∷ 4 ∷ 0 ∷ 4 ∷ 0 ∷ 0 ∷ 0 ∷ []

-- what the length is a multiple of: SEQN 8, ATAK and RLSE 6
abbrev pub unit : List ℕ
unit = 1 ∷ 1 ∷ 1 ∷ 1 ∷ 8 ∷ 1 ∷ 1 ∷ 6 ∷ 6 ∷ []

-- that a second one is bad: VHDR, CHAN, PAN, SEQN, FADE and BODY
abbrev pub single : List Bool
single = false ∷ true ∷ true ∷ true ∷ true ∷ true ∷ true ∷ false ∷ false ∷ []

-- the length is wrong
unfoldable pub length_wrong : ℕ → ℕ → Bool
length_wrong kind n = ltb n (get_or least kind 0) || not (eqb (n % get_or unit kind 0) 0)
