-- Chains in bytes: a link leads to one chain, which stays where its entries do; with a number placed in the chain of its bucket, the others are as they were.
-- By induction on the chain, over the words that the writing of an entry leaves. Assumes nothing.
use mathlib.Core.Path.{◌≡◌, refl, sym, ap, ap₂, subst, ◌∙◌}
use mathlib.Core.Bool.{false}
use mathlib.Core.List.{List, [], ◌∷◌}
use mathlib.Core.Logic.{◌⊎◌, inl, inr}
use Prim.Native.Nat.{ℕ, zero, suc, ◌+◌, ◌≤◌, ◌<◌}
use native.Mathlib.Numerals.{add-one}
use native.Mathlib.Omega.{arith}
use lib.Dec.{eqb, ltb}
use lib.ListN.{length}
use borrow.Author.Tests.{eqb-true, eqb-false, ltb-true, ltb-false}
use Rattle.laws.specs.All.{All}
use Rattle.laws.proofs.Tests.{tested}
use Rattle.records.specs.Chains.{head_at, entry_at}
use Rattle.records.specs.Words.{word_at, same_text}
use Rattle.records.specs.Order.{common, placed_in, chain_of, first_with, link_place, text_before, LinkedChain, Placed}
use Rattle.records.proofs.CommonLaws.{common-other}
use Rattle.records.proofs.PlacedLaws.{all_map, Distinct, placed-here, placed_on, place_here, place-on, text-here, text-on, first-not, chain-here, chain-other, chain-inside, chain-below, chain-distinct}

pub all_of : {P : ℕ → Type 0} (l : List ℕ) → ((e : ℕ) → P e) → All P l
all_of [] f = tt
all_of (e ∷ l) f = (f e, all_of l f)

module _ (t : ℕ → List ℕ) (n : ℕ) where
  pub linked-one : (s before : List ℕ) (h : ℕ) (l m : List ℕ) → LinkedChain t n s before h l → LinkedChain t n s before h m → l ≡ m
  linked-one s before h [] [] a b = refl
  linked-one s before h [] (e ∷ m) a b = absurd (omega (arith, a, b.0))
  linked-one s before h (e ∷ l) [] a b = absurd (omega (arith, a.0, b))
  linked-one s before h (e ∷ l) (f ∷ m) a b =
      let z : f ≡ e = omega (arith, a.0, b.0) in
      let c : LinkedChain t n s (t e) (word_at s (entry_at n e + 4)) m = rw z at b.2 in
      ap₂ (λ (x : ℕ) (y : List ℕ). x ∷ y) (sym z) (linked-one s (t e) (word_at s (entry_at n e + 4)) l m a.2 c)

  -- the two words of entry e stay
  abbrev pub Stays : List ℕ → List ℕ → ℕ → Type 0
  Stays s s' e = (word_at s' (entry_at n e) ≡ word_at s (entry_at n e)) × (word_at s' (entry_at n e + 4) ≡ word_at s (entry_at n e + 4))

  pub linked-kept : (s s' before : List ℕ) (h : ℕ) (l : List ℕ) → All (Stays s s') l → LinkedChain t n s before h l → LinkedChain t n s' before h l
  linked-kept s s' before h [] k a = a
  linked-kept s s' before h (e ∷ l) k a =
      (a.0, k.0.0 ∙ a.1, rw k.0.1 (linked-kept s s' (t e) (word_at s (entry_at n e + 4)) l k.1 a.2))

  -- how many steps a walk from the link h on takes, at most f
  unfoldable pub steps-left : List ℕ → ℕ → ℕ → ℕ
  steps-left s zero h = 0
  steps-left s (suc f) zero = 0
  steps-left s (suc f) (suc k) = suc (steps-left s f (word_at s (entry_at n k + 4)))

  pub linked-steps-left : (s before : List ℕ) (h : ℕ) (l : List ℕ) (f : ℕ) → LinkedChain t n s before h l → length l ≤ f → steps-left s f h ≡ length l
  unfolding steps-left
  linked-steps-left s before h [] zero a k = refl
  linked-steps-left s before h [] (suc f) a k = rw a refl
  linked-steps-left s before h (e ∷ l) zero a k = absurd (omega arith)
  linked-steps-left s before h (e ∷ l) (suc f) a k =
      let z : h ≡ suc e = a.0 ∙ add-one e in
      rw z (ap suc (linked-steps-left s (t e) (word_at s (entry_at n e + 4)) l f a.2 (omega arith)))

  -- ---- number r is placed

  -- a word at q does not touch the entry of e
  abbrev Apart : ℕ → ℕ → Type 0
  Apart q e = (q + 4 ≤ entry_at n e) ⊎ (entry_at n e + 8 ≤ q)

  -- nor the word at p
  abbrev pub Off : ℕ → ℕ → Type 0
  Off p q = (p + 4 ≤ q) ⊎ (q + 4 ≤ p)

  apart-entries : (e g : ℕ) → (g ≡ e → ⊥) → Apart (entry_at n e + 4) g
  apart-entries e g d =
      tested (ltb e g)
      (λ y. let h : e < g = ltb-true e g y in inl (omega arith))
      (λ m. let h : g ≤ e = ltb-false e g m in inr (omega arith))

  off_entry : (e g : ℕ) → Off (entry_at n e) (entry_at n g + 4)
  off_entry e g =
      tested (ltb g e)
      (λ y. let h : g < e = ltb-true g e y in inr (omega arith))
      (λ m. let h : e ≤ g = ltb-false g e m in inl (omega arith))

  module _ (r : ℕ) where
    pub place-holds : (P : ℕ → Type 0) (before : List ℕ) (at : ℕ) (l : List ℕ) → P at → All (λ e. P (entry_at n e + 4)) l → P (link_place t n r before at l)
    unfolding link_place
    place-holds P before at [] p a = p
    place-holds P before at (e ∷ l) p a =
        tested (ltb (common before (t e)) (common before (t r)))
        (λ y. rw (place_here t r before e l n at y) p)
        (λ m. rw (place-on t r before e l n at m) (place-holds P (t e) (entry_at n e + 4) l a.0 a.1))

    module _ (s s' : List ℕ) (shared place : ℕ)
        (stays : (q : ℕ) → q + 4 ≤ entry_at n r → Off q place → word_at s' q ≡ word_at s q)
        (there : word_at s' place ≡ r + 1) (its_shared : word_at s' (entry_at n r) ≡ shared) (its_link : word_at s' (entry_at n r + 4) ≡ word_at s place) where
      entry-stays : (e : ℕ) → e < r → Apart place e → Stays s s' e
      entry-stays e h (inl a) = (stays (entry_at n e) (omega arith) (inr (omega arith)), stays (entry_at n e + 4) (omega arith) (inr (omega arith)))
      entry-stays e h (inr a) = (stays (entry_at n e) (omega arith) (inl (omega arith)), stays (entry_at n e + 4) (omega arith) (inl (omega arith)))

      entries_stay : (l : List ℕ) → All (λ e. e < r) l → All (Apart place) l → All (Stays s s') l
      entries_stay [] a b = tt
      entries_stay (e ∷ l) a b = (entry-stays e a.0 b.0, entries_stay l a.1 b.1)

      linked-placed : (before : List ℕ) (at : ℕ) (l : List ℕ) → at + 4 ≤ entry_at n r → All (λ e. e < r) l → Distinct l → All (Apart at) l
          → LinkedChain t n s before (word_at s at) l → All (λ e. same_text (t e) (t r) ≡ false) l → place ≡ link_place t n r before at l
          → shared ≡ common (text_before t r before l) (t r) → LinkedChain t n s' before (word_at s' at) (placed_in t r before l)
      unfolding placed_in link_place text_before
      linked-placed before at [] low a d x k none ep es =
          (rw ep at there, its_shared ∙ es, its_link ∙ ap (word_at s) ep ∙ k)
      linked-placed before at (e ∷ l) low a d x k none ep es =
          tested (ltb (common before (t e)) (common before (t r)))
          (λ y.
          let q : place ≡ at = ep ∙ place_here t r before e l n at y in
          let st : All (Stays s s') (e ∷ l) = entries_stay (e ∷ l) a (subst (λ (p : ℕ). All (Apart p) (e ∷ l)) (sym q) x) in
          rw (placed-here t r before e l none.0 y) (
            rw q at there,
            its_shared ∙ es ∙ ap (λ (u : List ℕ). common u (t r)) (text-here t r before e l y),
            (
              its_link ∙ ap (word_at s) q ∙ k.0,
              st.0.0 ∙ k.1 ∙ sym (common-other before (t e) (t r) (ltb-true _ _ y)),
              rw st.0.1 (linked-kept s s' (t e) (word_at s (entry_at n e + 4)) l st.1 k.2),
            ),
          ))
          (λ m.
          let q : place ≡ link_place t n r (t e) (entry_at n e + 4) l = ep ∙ place-on t r before e l n at m in
          let z : shared ≡ common (text_before t r (t e) l) (t r) = es ∙ ap (λ (u : List ℕ). common u (t r)) (text-on t r before e l m) in
          let off-link : Off at place =
          rw q (place-holds (Off at) (t e) (entry_at n e + 4) l (off e x.0) (all_map l (λ g h. off g h) x.1)) in
          let off-e : Off (entry_at n e) place =
          rw q (place-holds (Off (entry_at n e)) (t e) (entry_at n e + 4) l (off_entry e e) (all_of l (λ g. off_entry e g))) in
          rw (placed_on t r before e l none.0 m) (
            stays at low off-link ∙ k.0,
            stays (entry_at n e) (omega (arith, a.0)) off-e ∙ k.1,
            linked-placed (t e) (entry_at n e + 4) l (omega (arith, a.0)) a.1 d.1 (all_map l (λ g h. apart-entries e g h) d.0) k.2 none.1 q z,
          ))
        where
          off : (g : ℕ) → Apart at g → Off at (entry_at n g + 4)
          off g (inl h) = inl (omega arith)
          off g (inr h) = inr (omega arith)

      -- ---- all buckets

      module _ (bucket : ℕ → ℕ) (b : ℕ) (hr : r < n) (hb : b < n) (eb : bucket r ≡ b) (p : Placed t bucket n r s)
          (first : first_with t r (chain_of t bucket r b) ≡ r) (ep : place ≡ link_place t n r [] (head_at b) (chain_of t bucket r b))
          (es : shared ≡ common (text_before t r [] (chain_of t bucket r b)) (t r)) where
        chain : ℕ → List ℕ
        chain c = chain_of t bucket r c

        here : LinkedChain t n s' [] (word_at s' (head_at b)) (chain_of t bucket (suc r) b)
        here =
            rw (chain-here t bucket b r eb)
            (linked-placed [] (head_at b) (chain_of t bucket r b) (omega arith) (chain-below t bucket b r) (chain-distinct t bucket b r)
            (all_of (chain_of t bucket r b) (λ e. inl (omega arith)))
            (p b hb)
            (first-not t r (chain_of t bucket r b) (chain-below t bucket b r) first)
            ep es)

        -- of another bucket
        module _ (c : ℕ) (hc : c < n) (ne : b ≡ c → ⊥) where
          off_head : Off (head_at c) place
          off_head =
              rw ep
              (place-holds (Off (head_at c)) [] (head_at b) (chain_of t bucket r b)
              (tested (ltb c b)
              (λ y. let h : c < b = ltb-true c b y in inl (omega arith))
              (λ m. let h : b ≤ c = ltb-false c b m in inr (omega (arith, below b c h ne))))
              (all_of (chain_of t bucket r b) (λ e. inl (omega arith))))
            where
              below : (b c : ℕ) → b ≤ c → (b ≡ c → ⊥) → b < c
              below b c h ne = tested (ltb b c) (λ y. ltb-true b c y) (λ m. absurd (ne (let k : c ≤ b = ltb-false b c m in omega arith)))

          apart_other : (e : ℕ) → (e < r) × (bucket e ≡ c) → Apart place e
          apart_other e h =
              rw ep
              (place-holds (λ q. Apart q e) [] (head_at b) (chain_of t bucket r b)
              (inl (omega arith))
              (all_map (chain_of t bucket r b) (λ g k. apart-entries g e (λ z. ne (sym k.1 ∙ ap bucket (sym z) ∙ h.1))) (chain-inside t bucket b r)))

          there_too : LinkedChain t n s' [] (word_at s' (head_at c)) (chain_of t bucket (suc r) c)
          there_too =
              rw (chain-other t bucket c r (λ z. ne (sym eb ∙ z)), stays (head_at c) (omega arith) off_head)
              (linked-kept s s' [] (word_at s (head_at c)) (chain_of t bucket r c)
              (entries_stay (chain_of t bucket r c) (chain-below t bucket c r) (all_map (chain_of t bucket r c) apart_other (chain-inside t bucket c r)))
              (p c hc))

        pub placed-more : Placed t bucket n (r + 1) s'
        placed-more c hc =
            rw (add-one r)
            (tested (eqb b c)
            (λ y. let q : b ≡ c = eqb-true b c y in rw q at here)
            (λ m. there_too c hc (eqb-false b c m)))
