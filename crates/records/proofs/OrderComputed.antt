-- A chain of six texts, of which two are the same: an entry goes behind those that it shares most with, and a text that is there is not entered again.
-- The definitions are computed. Assumes nothing.
use mathlib.Core.Path.{◌≡◌, refl}
use mathlib.Core.List.{List, [], ◌∷◌}
use Prim.Native.Nat.{ℕ}
use lib.ListN.{get_or}
use Rattle.records.specs.Order.{common, chain_of, first_with}

-- ab, abc, b, abd, ab, a
texts : List (List ℕ)
texts = (97 ∷ 98 ∷ []) ∷ (97 ∷ 98 ∷ 99 ∷ []) ∷ (98 ∷ []) ∷ (97 ∷ 98 ∷ 100 ∷ []) ∷ (97 ∷ 98 ∷ []) ∷ (97 ∷ []) ∷ []

text : ℕ → List ℕ
unfolding texts
text k = get_or texts k []

shared : common (text 1) (text 3) ∷ common (text 0) (text 4) ∷ common (text 2) (text 5) ∷ [] ≡ 2 ∷ 2 ∷ 0 ∷ []
unfolding common text
shared = refl

in_order : chain_of text (λ k. 0) 6 0 ≡ 0 ∷ 1 ∷ 3 ∷ 5 ∷ 2 ∷ []
unfolding chain_of text
in_order = refl

first : first_with text 4 (chain_of text (λ k. 0) 4 0) ∷ first_with text 5 (chain_of text (λ k. 0) 5 0) ∷ [] ≡ 0 ∷ 5 ∷ []
unfolding chain_of first_with text
first = refl
