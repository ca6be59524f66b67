-- Texts found in chains whose entries stand in an order of common beginnings: an entry is a record, its text that of its words A and B, and beside its link stands how
-- many bytes its text shares with that of the entry before. Assumes nothing: these are definitions.
use Rattle.std.specs.Prelude.{◌≡◌, ℕ, zero, suc, ◌+◌, ◌≤◌, ◌<◌, Bool, List, [], ◌∷◌, ◌++◌, eqb, ltb, length}
use Rattle.laws.specs.All.{All}
use Rattle.laws.specs.Fix.{pick}
use Rattle.laws.specs.Splice.{splice}
use Rattle.records.specs.Chains.{head_at, entry_at}
use Rattle.records.specs.Words.{word_at, word_of, text_at, same_text, word, A, B, second_word}

-- how many bytes two texts share, from the first on
unfoldable pub common : List ℕ → List ℕ → ℕ
unfolding pick
common [] u = 0
common (a ∷ t) [] = 0
common (a ∷ t) (b ∷ u) = pick (eqb a b) (suc (common t u)) 0

-- two texts agree in so many bytes, and are the same or not
pub record Agrees (t u : List ℕ) (bytes : ℕ) (whole : Bool) : Type 0 where
  pub far : bytes ≡ common t u
  pub same : whole ≡ same_text t u

-- the text of record k
abbrev pub record_text : List ℕ → List ℕ → ℕ → List ℕ
record_text tree text k = text_at text (word_of tree k A) (word_of tree k B)

-- ---- chains as lists: t is the text of each number

-- number r put into a chain, behind an entry with the text `before` (the head of a chain counts as one without a byte): nowhere where an entry has its text, else before
-- the first entry that shares less with the one before than r does
unfoldable pub placed_in : (ℕ → List ℕ) → ℕ → List ℕ → List ℕ → List ℕ
unfolding pick common same_text
placed_in t r before [] = r ∷ []
placed_in t r before (e ∷ l) =
    pick (same_text (t e) (t r))
    (e ∷ l)
    (pick (ltb (common before (t e)) (common before (t r))) (r ∷ e ∷ l) (e ∷ placed_in t r (t e) l))

-- the chain of bucket b, once the numbers below r are placed
unfoldable pub chain_of : (ℕ → List ℕ) → (ℕ → ℕ) → ℕ → ℕ → List ℕ
unfolding pick placed_in
chain_of t bucket zero b = []
chain_of t bucket (suc r) b = pick (eqb (bucket r) b) (placed_in t r [] (chain_of t bucket r b)) (chain_of t bucket r b)

-- the entry that has number r's text, or r where none has
unfoldable pub first_with : (ℕ → List ℕ) → ℕ → List ℕ → ℕ
unfolding pick same_text
first_with t r [] = r
first_with t r (e ∷ l) = pick (same_text (t e) (t r)) e (first_with t r l)

-- where the link to r is to stand, if the one that leads to the chain stands at `at`; and the text of the entry before r
unfoldable pub link_place : (ℕ → List ℕ) → ℕ → ℕ → List ℕ → ℕ → List ℕ → ℕ
unfolding pick common
link_place t n r before at [] = at
link_place t n r before at (e ∷ l) = pick (ltb (common before (t e)) (common before (t r))) at (link_place t n r (t e) (entry_at n e + second_word) l)

unfoldable pub text_before : (ℕ → List ℕ) → ℕ → List ℕ → List ℕ → List ℕ
unfolding pick common
text_before t r before [] = before
text_before t r before (e ∷ l) = pick (ltb (common before (t e)) (common before (t r))) before (text_before t r (t e) l)

-- what the order is: no later entry shares more with the one before than the first does
abbrev pub Ordered : (ℕ → List ℕ) → List ℕ → List ℕ → Type 0
Ordered t before [] = Unit {0}
Ordered t before (e ∷ l) = All (λ g. common before (t g) ≤ common before (t e)) l × Ordered t (t e) l

-- ---- chains in bytes

-- a link leads to the chain: it is one more than the entry it leads to, 0 behind the last; each entry has what it shares with the one before, and its link
abbrev pub LinkedChain : (ℕ → List ℕ) → ℕ → List ℕ → List ℕ → ℕ → List ℕ → Type 0
LinkedChain t n s before link [] = link ≡ 0
LinkedChain t n s before link (e ∷ l) = (link ≡ e + 1) × (word_at s (entry_at n e) ≡ common before (t e)) × LinkedChain t n s (t e) (word_at s (entry_at n e + second_word)) l

-- the numbers below r are placed, in n buckets
abbrev pub Placed : (ℕ → List ℕ) → (ℕ → ℕ) → ℕ → ℕ → List ℕ → Type 0
Placed t bucket n r s = (b : ℕ) → b < n → LinkedChain t n s [] (word_at s (head_at b)) (chain_of t bucket r b)

-- the link at `head` leads to a chain of numbers below r
pub record Leads (t : ℕ → List ℕ) (n r head : ℕ) (s : List ℕ) : Type 0 where
  pub chain : List ℕ
  pub linked : LinkedChain t n s [] (word_at s head) chain
  pub ordered : Ordered t [] chain
  pub inside : All (λ e. e < r) chain
  pub short : length chain ≤ n

-- where number r belongs in the chain that the link at `head` leads to: the entry with its text, or r; and then where the link to it is to stand, and what it
-- shares with the entry before
pub record PlaceIn (t : ℕ → List ℕ) (n r head : ℕ) (chain : List ℕ) (number at shared : ℕ) : Type 0 where
  pub found : number ≡ first_with t r chain
  pub there : number ≡ r → at ≡ link_place t n r [] head chain
  pub shares : number ≡ r → shared ≡ common (text_before t r [] chain) (t r)

abbrev pub PlaceOf : (ℕ → List ℕ) → ℕ → ℕ → ℕ → List ℕ → ℕ → ℕ → ℕ → Type 0
PlaceOf t n r head s number at shared =
    (chain : List ℕ) → LinkedChain t n s [] (word_at s head) chain → PlaceIn t n r head chain number at shared

-- number r is placed: the link at `at` leads to it, and it has what it shares with the entry before, and the link that stood there
abbrev pub placed_at : ℕ → ℕ → ℕ → ℕ → ℕ → List ℕ → List ℕ
placed_at n r shared at next s = splice (splice s (entry_at n r) (word shared ++ word next)) at (word (r + 1))
