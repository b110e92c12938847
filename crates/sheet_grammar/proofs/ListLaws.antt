-- Laws of `All`, what holds of every element, and of `each`, what the elements become, joined. Each by recursion on the list.
-- Assumes nothing.
use Prim.Native.Nat.{ℕ}
use mathlib.Core.List.{List, [], ◌∷◌, ◌++◌, map, append_assoc}
use mathlib.Core.Path.{◌≡◌, refl, sym, ap, ◌∙◌}
use Rattle.laws.specs.Walk.{each}
use Rattle.sheet.specs.Allowed.{All}

module _ {A : Type 0} where
  pub all_append : (P : A → Type 0) (l m : List A) → All P l → All P m → All P (l ++ m)
  all_append P [] m h k = k
  all_append P (a ∷ l) m h k = (h.0, all_append P l m h.1 k)

  -- what holds of an element may follow from what is known of it
  pub all_imply : {P Q : A → Type 0} → ((a : A) → P a → Q a) → (l : List A) → All P l → All Q l
  all_imply f [] h = tt
  all_imply f (a ∷ l) h = (f a h.0, all_imply f l h.1)

  pub each_append : (f : A → List ℕ) (l m : List A) → each f (l ++ m) ≡ each f l ++ each f m
  each_append f [] m = refl
  each_append f (a ∷ l) m = ap (λ (x : List ℕ). f a ++ x) (each_append f l m) ∙ sym (append_assoc (f a) (each f l) (each f m))

  module _ {B : Type 0} where
    pub all_map : {P : A → Type 0} (Q : B → Type 0) (f : A → B) → ((a : A) → P a → Q (f a)) → (l : List A) → All P l → All Q (map f l)
    all_map Q f h [] k = tt
    all_map Q f h (a ∷ l) k = (h a k.0, all_map Q f h l k.1)

    -- a map that another undoes
    pub map_back : {P : A → Type 0} (f : A → B) (g : B → A) → ((a : A) → P a → g (f a) ≡ a) → (l : List A) → All P l → map g (map f l) ≡ l
    map_back f g h [] k = refl
    map_back f g h (a ∷ l) k = rw (h a k.0, map_back f g h l k.1)

    pub each_map : (f : A → B) (g : B → List ℕ) (h : A → List ℕ) → ((a : A) → g (f a) ≡ h a) → (l : List A) → each g (map f l) ≡ each h l
    each_map f g h e [] = refl
    each_map f g h e (a ∷ l) = rw (e a, each_map f g h e l)
