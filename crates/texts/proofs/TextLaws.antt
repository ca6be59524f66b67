-- The number of a text: the record that it names has that text, equal texts have one number, and it can be told by the number, or by its words A and B, whether
-- texts are the same. By the laws of `lowest` and of texts. Assumes nothing.
use mathlib.Core.Path.{◌≡◌, refl, sym, ap, ◌∙◌}
use Prim.Native.Nat.{ℕ, ◌<◌}
use native.Mathlib.Omega.{arith}
use mathlib.Core.Bool.{Bool, true, ◌&&◌, false≢true}
use mathlib.Core.List.{List}
use mathlib.Core.Option.{Option, none, some}
use lib.Dec.{eqb}
use borrow.Author.Tests.{eq-eqb, eqb-true}
use Rattle.laws.specs.Below.{lowest}
use Rattle.laws.proofs.BelowLaws.{lowest-holds, lowest_missed}
use Rattle.laws.proofs.Tests.{tested, and_left, and_right}
use Rattle.records.specs.Digest.{roll_of}
use Rattle.records.specs.Words.{word_at, word_of, text_at, same_text, records, A, B}
use Rattle.records.proofs.DigestLaws.{same-equal}
use Rattle.records.proofs.TextLaws.{same-texts}
use Rattle.texts.specs.Texts.{has_own, own_text, same_own, number_or, original, text_number, original_at, text_digest_at, Numbered}

-- ---- the lowest number, or another

module _ (n : ℕ) (f : ℕ → Bool) (q : ℕ) (h : q < n) (t : f q ≡ true) where
  or-holds : (number_or (lowest n f) q < n) × (f (number_or (lowest n f) q) ≡ true)
  unfolding number_or
  or-holds = go (lowest n f) refl
    where
      go : (o : Option ℕ) → lowest n f ≡ o → (number_or o q < n) × (f (number_or o q) ≡ true)
      go none e = (h, t)
      go (some k) e = lowest-holds n f k e

  or_any : (r : ℕ) → number_or (lowest n f) r ≡ number_or (lowest n f) q
  unfolding number_or
  or_any r = go (lowest n f) refl
    where
      go : (o : Option ℕ) → lowest n f ≡ o → number_or o r ≡ number_or o q
      go none e = absurd (false≢true (sym (lowest_missed n f q e h) ∙ t))
      go (some k) e = refl

-- a test that says of two texts whether they are the same
same_by : (a b : List ℕ) (test : Bool) → (a ≡ b → test ≡ true) → (test ≡ true → a ≡ b) → same_text a b ≡ test
same_by a b test there back =
    tested (same_text a b)
    (λ t. t ∙ sym (there (same-equal a b t)))
    (λ t. t ∙ sym (tested test (λ u. absurd (false≢true (sym t ∙ same-texts a b (back u)))) (λ u. u)))

-- ---- one record

module _ (tree text : List ℕ) where
  pub same_own_lem : (r k : ℕ) → has_own tree k ≡ true → own_text tree text k ≡ own_text tree text r → same_own tree text r k ≡ true
  unfolding same_own
  same_own_lem r k t e = rw t (same-texts (own_text tree text k) (own_text tree text r) e)

  module _ (r : ℕ) (h : r < records tree) (t : has_own tree r ≡ true) where
    found : (original tree text r < records tree) × (same_own tree text r (original tree text r) ≡ true)
    unfolding original
    found = or-holds (records tree) (same_own tree text r) r h (same_own_lem r r t refl)

    pub original-below : original tree text r < records tree
    original-below = found.0

    pub original-has : has_own tree (original tree text r) ≡ true
    unfolding same_own
    original-has = and_left (has_own tree (original tree text r)) _ found.1

    pub original-text : own_text tree text (original tree text r) ≡ own_text tree text r
    unfolding same_own
    original-text = same-equal _ _ (and_right (has_own tree (original tree text r)) _ found.1)

  -- ---- two records

  -- what is the lowest record with a text depends on the text alone
  of-text : (r q : ℕ) → own_text tree text r ≡ own_text tree text q → lowest (records tree) (same_own tree text r) ≡ lowest (records tree) (same_own tree text q)
  unfolding same_own
  of-text r q e = ap (λ (u : List ℕ). lowest (records tree) (λ (k : ℕ). has_own tree k && same_text (own_text tree text k) u)) e

  pub same-original : (r q : ℕ) → q < records tree → has_own tree q ≡ true → own_text tree text r ≡ own_text tree text q → original tree text r ≡ original tree text q
  unfolding original
  same-original r q h t e =
      ap (λ (o : Option ℕ). number_or o r) (of-text r q e) ∙ or_any (records tree) (same_own tree text q) q h (same_own_lem q q t refl) r

  pub original_again : (r : ℕ) → r < records tree → has_own tree r ≡ true → original tree text (original tree text r) ≡ original tree text r
  original_again r h t = same-original (original tree text r) r h t (original-text r h t)

  -- ---- texts

  -- the number of a record's text
  pub own-number : (r : ℕ) → r < records tree → has_own tree r ≡ true → text_number tree text (own_text tree text r) ≡ original tree text r
  unfolding text_number original same_own
  own-number r h t = or_any (records tree) (same_own tree text r) r h (same_own_lem r r t refl) (records tree)

  -- the record of a number has the text, so the numbers tell texts apart
  number-text : (u : List ℕ) → text_number tree text u < records tree → own_text tree text (text_number tree text u) ≡ u
  unfolding text_number number_or
  number-text u h = go (lowest (records tree) has) refl h
    where
      has : ℕ → Bool
      has k = has_own tree k && same_text (own_text tree text k) u

      go : (o : Option ℕ) → lowest (records tree) has ≡ o → number_or o (records tree) < records tree → own_text tree text (number_or o (records tree)) ≡ u
      go none e b = absurd (omega arith)
      go (some k) e b = same-equal _ _ (and_right (has_own tree k) _ (lowest-holds (records tree) has k e).1)

  pub numbers_apart : (u v : List ℕ) → text_number tree text u < records tree → text_number tree text v ≡ text_number tree text u → v ≡ u
  numbers_apart u v h e = sym (number-text v (rw e h)) ∙ ap (own_text tree text) e ∙ number-text u h

  -- the numbers and digests stay where the words of the records that have a text do
  pub numbered-stays : (s s' : List ℕ)
      → ((r : ℕ) → r < records tree → has_own tree r ≡ true → word_at s' (original_at (records tree) r) ≡ word_at s (original_at (records tree) r))
      → ((r : ℕ) → r < records tree → has_own tree r ≡ true → word_at s' (text_digest_at (records tree) r) ≡ word_at s (text_digest_at (records tree) r))
      → Numbered tree text s → Numbered tree text s'
  numbered-stays s s' numbers digests numbered =
      record { number = λ r h t. numbers r h t ∙ numbered.number r h t; digest = λ r h t. digests r h t ∙ numbered.digest r h t }

  -- the digest at the slot of the number is that of the text
  pub original-digest : (s : List ℕ) → Numbered tree text s → (r : ℕ) → r < records tree → has_own tree r ≡ true
      → word_at s (text_digest_at (records tree) (original tree text r)) ≡ roll_of (own_text tree text r)
  original-digest s numbered r h t =
      numbered.digest (original tree text r) (original-below r h t) (original-has r h t) ∙ ap roll_of (original-text r h t)

  module _ (r q : ℕ) (hr : r < records tree) (hq : q < records tree) (tr : has_own tree r ≡ true) (tq : has_own tree q ≡ true) where
    pub same_numbers : same_text (own_text tree text r) (own_text tree text q) ≡ eqb (original tree text r) (original tree text q)
    same_numbers =
        same_by _ _ (eqb (original tree text r) (original tree text q))
        (λ e. eq-eqb (original tree text r) (original tree text q) (same-original r q hq tq e))
        (λ u.
        sym (original-text r hr tr) ∙ ap (own_text tree text) (eqb-true (original tree text r) (original tree text q) u) ∙ original-text q hq tq)

    -- the same of the words A and B of the two originals
    abbrev same_word : ℕ → Bool
    same_word k = eqb (word_of tree (original tree text r) k) (word_of tree (original tree text q) k)

    pub same-words : same_text (own_text tree text r) (own_text tree text q)
        ≡ (eqb (word_of tree (original tree text r) A) (word_of tree (original tree text q) A) && eqb (word_of tree (original tree text r) B) (word_of tree (original tree text q) B))
    same-words =
        same_by _ _ (same_word A && same_word B)
        (λ e.
        let o : original tree text r ≡ original tree text q = same-original r q hq tq e in
        rw (eq-eqb _ _ (ap (λ (x : ℕ). word_of tree x A) o)) (eq-eqb _ _ (ap (λ (x : ℕ). word_of tree x B) o)))
        (λ u.
        let a : word_of tree (original tree text r) A ≡ word_of tree (original tree text q) A = eqb-true _ _ (and_left (same_word A) (same_word B) u) in
        let b : word_of tree (original tree text r) B ≡ word_of tree (original tree text q) B = eqb-true _ _ (and_right (same_word A) (same_word B) u) in
        sym (original-text r hr tr) ∙ ap (λ (x : ℕ). text_at text x (word_of tree (original tree text r) B)) a
        ∙ ap (text_at text (word_of tree (original tree text q) A)) b ∙ original-text q hq tq)

    -- ---- as they are read from the scratch

    module _ (s : List ℕ) (numbered : Numbered tree text s) (o p : ℕ) (eo : o ≡ word_at s (original_at (records tree) r)) (ep : p ≡ word_at s (original_at (records tree) q)) where
      at_r : o ≡ original tree text r
      at_r = eo ∙ numbered.number r hr tr

      at_q : p ≡ original tree text q
      at_q = ep ∙ numbered.number q hq tq

      pub numbers_tell : same_text (own_text tree text r) (own_text tree text q) ≡ eqb o p
      numbers_tell = rw (at_r, at_q) same_numbers

      pub words_tell : same_text (own_text tree text r) (own_text tree text q) ≡ (eqb (word_of tree o A) (word_of tree p A) && eqb (word_of tree o B) (word_of tree p B))
      words_tell = rw (at_r, at_q) same-words
