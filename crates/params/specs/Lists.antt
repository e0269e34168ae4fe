-- Lists and numbers by index: a test at every number, the least number that passes a test, changes place by place, and lists filled up.
use Rattle.std.specs.Prelude.{Bool, true, cond, ◌&&◌, List, [], ◌∷◌, ◌++◌, ℕ, zero, suc, ◌-◌, ltb, length, replicate, Option, Some, None}

-- the test holds at each number below n
unfoldable pub below : ℕ → (ℕ → Bool) → Bool
below zero t = true
below (suc n) t = below n t && t n

-- the least number from k on at which the test holds, of n numbers; k + n where there is none
unfoldable pub least : ℕ → ℕ → (ℕ → Bool) → ℕ
least k zero t = k
least k (suc n) t = cond (t k) k (least (suc k) n t)

-- the least number below n at which the test holds, None where there is none
unfoldable pub found : ℕ → (ℕ → Bool) → Option ℕ
found n t = cond (ltb (least 0 n t) n) (Some (least 0 n t)) None

-- g at each place of a list, whose first place is k
unfoldable pub map_from : {A B : Type 0} → ℕ → (ℕ → A → B) → List A → List B
map_from k g [] = []
map_from k g (x ∷ xs) = g k x ∷ map_from (suc k) g xs

-- g at the places where the test holds
unfoldable pub touched : {A : Type 0} → (ℕ → Bool) → (ℕ → A → A) → List A → List A
touched t g xs = map_from 0 (λ k x. cond (t k) (g k x) x) xs

-- h k, h (k + 1), .., n of them
unfoldable pub from : {A : Type 0} → ℕ → ℕ → (ℕ → A) → List A
from k zero h = []
from k (suc n) h = h k ∷ from (suc k) n h

-- a list in n slots, those past its end filled up with z
unfoldable pub padded : {A : Type 0} → ℕ → A → List A → List A
padded n z xs = xs ++ replicate (n - length xs) z
