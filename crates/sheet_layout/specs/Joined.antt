-- Lists joined: a note plays the points of all attacks, or of all releases, as one envelope.
use Rattle.std.specs.Prelude.{List, [], ◌∷◌, ◌++◌}

-- lists one after another
abbrev pub joined : {A : Type 0} → List (List A) → List A
joined [] = []
joined (l ∷ ls) = l ++ joined ls
