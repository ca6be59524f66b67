-- The pass over the records: what a walk along a chain of texts shows of a record's number, and what is left once the record is entered and its number and digest written.
-- By the laws of chains and of texts, and word for word where these are written. Assumes nothing.
use mathlib.Core.Path.{◌≡◌, refl, sym, ap, ◌∙◌}
use mathlib.Core.Logic.{◌⊎◌, inl, inr, ⊎_elim}
use Prim.Native.Nat.{ℕ, ◌+◌, ◌*◌, ◌≤◌, ◌<◌}
use mathlib.Core.Bool.{Bool, true, false, false≢true}
use mathlib.Core.List.{List}
use mathlib.Core.Option.{Option}
use native.Mathlib.Omega.{arith}
use lib.ListN.{length, get_or}
use borrow.Author.Count.{below_more}
use Rattle.laws.specs.Splice.{splice}
use Rattle.laws.proofs.BelowLaws.{lowest_some}
use Rattle.laws.proofs.Splices.{length-splice}
use Rattle.laws.proofs.Tests.{tested, and_left, and_right}
use Rattle.records.specs.Chains.{bucket_of, head_at, entry_at, ChainRoom, Emptied}
use Rattle.records.specs.Digest.{digest_end, digest_of, roll_of}
use Rattle.records.specs.Samples.{Samples}
use Rattle.records.specs.Order.{chain_of, first_with, PlaceOf, placed_at}
use Rattle.records.specs.Words.{byte_at, word_at, kind_of, word_of, text_at, same_text, bytes_of, word, records, most_records, A, B}
use Rattle.records.proofs.Apart.{byte-apart, word-apart, word-there, word_back, word_same}
use Rattle.records.proofs.ChainedLaws as chained
use Rattle.records.proofs.DigestLaws.{same-equal, digest-is}
use Rattle.records.proofs.EntryLaws.{entered-long, entered-behind, chains-none, chains-kept, chains-past, chains-found, chains-more, place-low}
use Rattle.records.proofs.PlacedLaws.{all-and, first-is, First, chain-inside, chain-below, chain-none, chain_first}
use Rattle.records.proofs.SampleLaws.{samples_none, sampled-stays}
use Rattle.records.proofs.TextLaws.{same-texts}
use Rattle.texts.specs.Texts.{has_text, has_own, own_text, same_own, number_or, original, original_at, text_digest_at, Kept}
use Rattle.texts.specs.Pass.{own_digest, text_bucket, samples_from, SamplesFit, Read, OnlySamples, Chains, Entered, Passed}
use Rattle.texts.proofs.TextLaws.{same_own_lem, original-below}

-- whether record r has a text, as the code tests it
pub own-told : (tree : List ℕ) (r k : ℕ) (v b : Bool) → k ≡ kind_of tree r → v ≡ has_text k → v ≡ b → has_own tree r ≡ b
own-told tree r k v b ek ev e = ap has_text (sym ek) ∙ sym ev ∙ e

-- ---- the number

module _ (tree text : List ℕ) where
  -- what the code reads of record r
  pub roll_told : (r a b x : ℕ) → a ≡ word_of tree r A → b ≡ word_of tree r B → x ≡ roll_of (text_at text a b) → x ≡ roll_of (own_text tree text r)
  roll_told r a b x ea eb e = e ∙ rw (ea, eb) refl

  pub bucket_told : (r x d b : ℕ) → has_own tree r ≡ true → x ≡ roll_of (own_text tree text r) → d ≡ digest_end x → b ≡ bucket_of (records tree) d → b ≡ text_bucket tree text r
  bucket_told r x d b tr ex e eb =
      chained.bucket_told (has_own tree) (own_digest tree text) (records tree) r d b tr (digest-is (own_text tree text r) x d ex e) eb

  module _ (r b : ℕ) (hr : r < records tree) (tr : has_own tree r ≡ true) (eb : b ≡ text_bucket tree text r) (hb : b < records tree) where
    abbrev entries : List ℕ
    entries = chain_of (own_text tree text) (text_bucket tree text) r b

    -- record k has not r's text, if it has not that of e in bucket b, which is the same
    apart : (e k : ℕ) → own_text tree text e ≡ own_text tree text r → (text_bucket tree text k ≡ b → same_text (own_text tree text k) (own_text tree text e) ≡ false)
        → same_own tree text r k ≡ false
    unfolding same_own
    apart e k q other =
        tested (same_own tree text r k)
        (λ y.
        let hk : has_own tree k ≡ true = and_left (has_own tree k) _ y in
        let s : own_text tree text k ≡ own_text tree text r = same-equal _ _ (and_right (has_own tree k) _ y) in
        let z : text_bucket tree text k ≡ b = chained.together (has_own tree) (own_digest tree text) (records tree) k r hk tr (ap digest_of s) ∙ sym eb in
        absurd (false≢true (sym (other z) ∙ same-texts _ _ (s ∙ sym q))))
        (λ n. n)

    -- the first in the bucket with r's text is its number
    number_is : (e : ℕ) → e < records tree → has_own tree e ≡ true → own_text tree text e ≡ own_text tree text r
        → First (own_text tree text) (text_bucket tree text) b e → original tree text r ≡ e
    unfolding original number_or
    number_is e he te q first =
        ap (λ (o : Option ℕ). number_or o r)
        (lowest_some (records tree) (same_own tree text r) e he (λ k h. apart e k q (first k h)) (same_own_lem tree text r e te q))

    pub number-found : first_with (own_text tree text) r entries ≡ original tree text r
    number-found =
        ⊎_elim
        (λ (n : first_with (own_text tree text) r entries ≡ r). n ∙ sym (number_is r hr tr refl (λ k h z. chain-none (own_text tree text) (text_bucket tree text) b r k n h z)))
        (λ (y : (((first_with (own_text tree text) r entries < r) × (text_bucket tree text (first_with (own_text tree text) r entries) ≡ b))
        × First (own_text tree text) (text_bucket tree text) b (first_with (own_text tree text) r entries))
        × (own_text tree text (first_with (own_text tree text) r entries) ≡ own_text tree text r)).
        sym
        (number_is (first_with (own_text tree text) r entries) (omega (arith, y.0.0.0))
        (chained.member_here (has_own tree) (own_digest tree text) (records tree) (first_with (own_text tree text) r entries) (omega (arith, y.0.0.1)))
        y.1 y.0.1))
        (first-is (own_text tree text) r (λ e. ((e < r) × (text_bucket tree text e ≡ b)) × First (own_text tree text) (text_bucket tree text) b e) entries
        (all-and (λ e. (e < r) × (text_bucket tree text e ≡ b)) (First (own_text tree text) (text_bucket tree text) b) entries
        (chain-inside (own_text tree text) (text_bucket tree text) b r)
        (chain_first (own_text tree text) (text_bucket tree text) b r)))

    module _ (s : List ℕ) (c : Chains tree text r s) (number place shared : ℕ) (belongs : PlaceOf (own_text tree text) (records tree) r (head_at b) s number place shared) where
      pub number-told : number ≡ original tree text r
      number-told = (belongs entries (c b hb)).found ∙ number-found

      -- nothing is entered
      pub found-entered : number < r → Entered tree text r s s
      found-entered h =
          record {
            chained = chains-found (own_text tree text) (text_bucket tree text) (records tree) s r c b hr hb eb number place shared belongs h;
            long = refl;
            behind = λ i k. refl;
          }

      pub number-within : number ≤ r
      number-within =
          ⊎_elim
          (λ (n : first_with (own_text tree text) r entries ≡ r). omega (arith, (belongs entries (c b hb)).found))
          (λ (y : (first_with (own_text tree text) r entries < r) × (own_text tree text (first_with (own_text tree text) r entries) ≡ own_text tree text r)).
          omega (arith, (belongs entries (c b hb)).found, y.0))
          (first-is (own_text tree text) r (λ e. e < r) entries (chain-below (own_text tree text) (text_bucket tree text) b r))

      module _ (new : r ≤ number) where
        itself : number ≡ r
        itself = omega (arith, number-within)

        pub place_inside : place + 4 ≤ entry_at (records tree) r
        place_inside = place-low (own_text tree text) (text_bucket tree text) (records tree) s r c b hr hb eb number place shared belongs itself

        pub new-entered : (next : ℕ) (s' : List ℕ) → ChainRoom (records tree) s → shared < 4294967296 → next < 4294967296 → next ≡ word_at s place
            → s' ≡ placed_at (records tree) r shared place next s → Entered tree text r s s'
        new-entered next s' room hs hn en e =
            record {
              chained = chains-more (own_text tree text) (text_bucket tree text) (records tree) s r c b hr hb eb number place shared belongs itself next s' room hs hn en e;
              long = entered-long (records tree) r shared place next s s' room hr place_inside e;
              behind = entered-behind (records tree) r shared place next s s' room hr place_inside e;
            }

-- ---- the bytes that stay

pub kept_on : (n : ℕ) (s s₁ s₂ : List ℕ) → Kept n s s₁ → Kept n s₁ s₂ → Kept n s s₂
kept_on n s s₁ s₂ a b =
    record {
      long = b.long ∙ a.long;
      keys = λ i h k. b.keys i h k ∙ a.keys i h k;
      behind = λ i h. b.behind i h ∙ a.behind i h;
    }

pub kept-all : (n : ℕ) (s : List ℕ) → Kept n s s
kept-all n s = record { long = refl; keys = λ i h k. refl; behind = λ i h. refl }

-- the heads are cleared
pub kept-heads : (n : ℕ) (s s' : List ℕ) → Emptied (4 * n) s s' → Kept n s s'
kept-heads n s s' e =
    record {
      long = e.long;
      keys = λ i h k. e.others i (omega arith);
      behind = λ i h. e.others i (omega arith);
    }

-- a word is written
module _ (s s' : List ℕ) (p x : ℕ) (h : p + 4 ≤ length s) (e : s' ≡ splice s p (word x)) where
  pub put_long : length s' ≡ length s
  unfolding word bytes_of
  put_long = ap length e ∙ length-splice s p (word x) h

  pub put_bytes : (i : ℕ) → (i < p) ⊎ (p + 4 ≤ i) → get_or s' i 0 ≡ get_or s i 0
  unfolding word bytes_of
  put_bytes i k = ap (λ (l : List ℕ). get_or l i 0) e ∙ byte-apart s p (word x) h i k

  pub put_words : (q : ℕ) → (q + 4 ≤ p) ⊎ (p + 4 ≤ q) → word_at s' q ≡ word_at s q
  unfolding word bytes_of
  put_words q k = ap (λ (l : List ℕ). word_at l q) e ∙ word-apart s p (word x) h q k

  pub put_read : x < 4294967296 → word_at s' p ≡ x
  unfolding word bytes_of word_at byte_at
  put_read hx = ap (λ (l : List ℕ). word_at l p) e ∙ word-there s p (word x) h 0 p (omega arith) (omega arith) ∙ word_back x hx

-- only samples are written
module _ (n : ℕ) (s s' : List ℕ) (e : OnlySamples n s s') where
  pub behind-word : (p : ℕ) → 40 * n ≤ p → word_at s' p ≡ word_at s p
  behind-word p h =
      word_same s' p s p (e.behind p h) (e.behind (p + 1) (omega arith)) (e.behind (p + 2) (omega arith)) (e.behind (p + 3) (omega arith))

  chain-word : (p : ℕ) → p + 4 ≤ 12 * n → word_at s' p ≡ word_at s p
  chain-word p h =
      word_same s' p s p (e.chains p (omega arith)) (e.chains (p + 1) (omega arith)) (e.chains (p + 2) (omega arith)) (e.chains (p + 3) (omega arith))

  pub kept-sampled : Kept n s s'
  kept-sampled = record { long = e.long; keys = λ i h k. e.behind i (omega arith); behind = λ i h. e.behind i (omega arith) }

  pub passed-sampled : (tree text : List ℕ) (r : ℕ) → n ≡ records tree → r ≤ n → Passed tree text r s → Passed tree text r s'
  passed-sampled tree text r en hr p =
      record {
        chained =
            chains-kept (own_text tree text) (text_bucket tree text) (records tree) s s' r (omega arith)
            (λ z k. chain-word z (omega arith))
            p.chained;
        numbered = λ k h t. behind-word (original_at (records tree) k) (omega arith) ∙ p.numbered k h t;
        rolled = λ k h t. behind-word (text_digest_at (records tree) k) (omega arith) ∙ p.rolled k h t;
      }

-- none are
pub only_none : (n : ℕ) (s : List ℕ) → OnlySamples n s s
only_none n s = record { chains = λ i h. refl; behind = λ i h. refl; long = refl }

-- those of a text are
pub only_samples : (text : List ℕ) (stride n : ℕ) (s s' : List ℕ) → SamplesFit text stride n → Samples text stride (samples_from n) s s' → OnlySamples n s s'
only_samples text stride n s s' fit e =
    record { chains = e.before; behind = λ i h. e.behind i (λ z k m. omega (arith, fit z k m)); long = e.long }

-- what is known of long texts: nothing yet; nothing more; and once more is written, outside the samples
pub read_none : (text : List ℕ) (n : ℕ) (s : List ℕ) → Read text n 0 0 0 s
read_none text n s = record { sampled = (samples_none text 0 (samples_from n) s refl).sampled; fit = λ z. absurd (omega arith); few = omega arith }

pub read_past : (text : List ℕ) (n r stride long more : ℕ) (s : List ℕ) → more ≤ long + 4294967295 → Read text n r stride long s → Read text n (r + 1) stride more s
read_past text n r stride long more s h k = record { sampled = k.sampled; fit = k.fit; few = omega (arith, k.few) }

pub read_stays : (text : List ℕ) (n r stride long : ℕ) (s s' : List ℕ) → ((i : ℕ) → 12 * n ≤ i → i < 40 * n → get_or s' i 0 ≡ get_or s i 0) → length s' ≡ length s
    → Read text n r stride long s → Read text n r stride long s'
read_stays text n r stride long s s' same e k =
    record { sampled = sampled-stays text stride (12 * n) (40 * n) s s' k.fit same e k.sampled; fit = k.fit; few = k.few }

-- ---- one record more

module _ (tree text : List ℕ) where
  -- before the first record: the heads are zero
  pub passed_none : (s s' : List ℕ) → Emptied (4 * records tree) s s' → Passed tree text 0 s'
  passed_none s s' e =
      record {
        chained = chains-none (own_text tree text) (text_bucket tree text) (records tree) s' e.heads;
        numbered = λ k h. absurd (omega arith);
        rolled = λ k h. absurd (omega arith);
      }

  -- a record without a text
  pub passed_over : (r : ℕ) (s : List ℕ) → Passed tree text r s → has_own tree r ≡ false → Passed tree text (r + 1) s
  passed_over r s p m =
      record {
        chained =
            chains-past (own_text tree text) (text_bucket tree text) (records tree) s r p.chained
            (omega (arith, chained.bucket_other (has_own tree) (own_digest tree text) (records tree) r m));
        numbered =
            below_more (λ (k : ℕ). has_own tree k ≡ true → word_at s (original_at (records tree) k) ≡ original tree text k) r
            p.numbered
            (λ t. absurd (false≢true (sym m ∙ t)));
        rolled =
            below_more (λ (k : ℕ). has_own tree k ≡ true → word_at s (text_digest_at (records tree) k) ≡ roll_of (own_text tree text k)) r
            p.rolled
            (λ t. absurd (false≢true (sym m ∙ t)));
      }

  -- a record with a text: s₁ is the scratch once it is entered, s₂ once its number is written, s₃ once its digest is
  module _ (s : List ℕ) (r o x : ℕ) (room : 72 * records tree ≤ length s) (hr : r < records tree) (s₁ s₂ s₃ : List ℕ) (e₁ : Entered tree text r s s₁)
      (e₂ : s₂ ≡ splice s₁ (original_at (records tree) r) (word o)) (e₃ : s₃ ≡ splice s₂ (text_digest_at (records tree) r) (word x)) where
    long₁ : length s₁ ≡ length s
    long₁ = e₁.long

    behind₁ : (i : ℕ) → 12 * records tree ≤ i → get_or s₁ i 0 ≡ get_or s i 0
    behind₁ = e₁.behind

    fit : original_at (records tree) r + 4 ≤ length s₁
    fit = omega (arith, long₁)

    apart₂ : (p : ℕ) → p + 4 ≤ original_at (records tree) r → word_at s₂ p ≡ word_at s₁ p
    apart₂ p k = put_words s₁ s₂ (original_at (records tree) r) o fit e₂ p (inl k)

    above₂ : (p : ℕ) → original_at (records tree) r + 4 ≤ p → word_at s₂ p ≡ word_at s₁ p
    above₂ p k = put_words s₁ s₂ (original_at (records tree) r) o fit e₂ p (inr k)

    byte₂ : (i : ℕ) → (i < original_at (records tree) r) ⊎ (original_at (records tree) r + 4 ≤ i) → get_or s₂ i 0 ≡ get_or s₁ i 0
    byte₂ = put_bytes s₁ s₂ (original_at (records tree) r) o fit e₂

    word₁ : (p : ℕ) → 12 * records tree ≤ p → word_at s₁ p ≡ word_at s p
    word₁ p k =
        word_same s₁ p s p (behind₁ p k) (behind₁ (p + 1) (omega arith)) (behind₁ (p + 2) (omega arith)) (behind₁ (p + 3) (omega arith))

    long₂ : length s₂ ≡ length s
    long₂ = put_long s₁ s₂ (original_at (records tree) r) o fit e₂ ∙ long₁

    fit₃ : text_digest_at (records tree) r + 4 ≤ length s₂
    fit₃ = omega (arith, long₂)

    apart₃ : (p : ℕ) → p + 4 ≤ text_digest_at (records tree) r → word_at s₃ p ≡ word_at s₂ p
    apart₃ p k = put_words s₂ s₃ (text_digest_at (records tree) r) x fit₃ e₃ p (inl k)

    byte₃ : (i : ℕ) → (i < text_digest_at (records tree) r) ⊎ (text_digest_at (records tree) r + 4 ≤ i) → get_or s₃ i 0 ≡ get_or s₂ i 0
    byte₃ = put_bytes s₂ s₃ (text_digest_at (records tree) r) x fit₃ e₃

    kept : Kept (records tree) s s₃
    kept =
        record {
          long = put_long s₂ s₃ (text_digest_at (records tree) r) x fit₃ e₃ ∙ long₂;
          keys = λ i k m. byte₃ i (inl (omega arith)) ∙ byte₂ i (inr (omega arith)) ∙ behind₁ i (omega arith);
          behind = λ i k. byte₃ i (inr (omega arith)) ∙ byte₂ i (inr (omega arith)) ∙ behind₁ i (omega arith);
        }

    samples_kept : (i : ℕ) → 12 * records tree ≤ i → i < 40 * records tree → get_or s₃ i 0 ≡ get_or s i 0
    samples_kept i k m = byte₃ i (inl (omega arith)) ∙ byte₂ i (inl (omega arith)) ∙ behind₁ i k

    module _ (p : Passed tree text r s) (few : records tree ≤ most_records) (tr : has_own tree r ≡ true) (ex : x ≡ roll_of (own_text tree text r)) (hx : x < 4294967296)
        (eo : o ≡ original tree text r) where
      passed : Passed tree text (r + 1) s₃
      passed =
          record {
            chained =
                chains-kept (own_text tree text) (text_bucket tree text) (records tree) s₁ s₃ (r + 1) (omega arith)
                (λ z k. apart₃ z (omega arith) ∙ apart₂ z (omega arith))
                e₁.chained;
            numbered =
                below_more (λ (k : ℕ). has_own tree k ≡ true → word_at s₃ (original_at (records tree) k) ≡ original tree text k) r
                (λ k hk t.
                apart₃ (original_at (records tree) k) (omega arith) ∙ apart₂ (original_at (records tree) k) (omega arith)
                ∙ word₁ (original_at (records tree) k) (omega arith) ∙ p.numbered k hk t)
                (λ t. apart₃ (original_at (records tree) r) (omega arith) ∙ put_read s₁ s₂ (original_at (records tree) r) o fit e₂ (omega (arith, eo, original-below tree text r hr tr)) ∙ eo);
            rolled =
                below_more (λ (k : ℕ). has_own tree k ≡ true → word_at s₃ (text_digest_at (records tree) k) ≡ roll_of (own_text tree text k)) r
                (λ k hk t.
                apart₃ (text_digest_at (records tree) k) (omega arith) ∙ above₂ (text_digest_at (records tree) k) (omega arith)
                ∙ word₁ (text_digest_at (records tree) k) (omega arith) ∙ p.rolled k hk t)
                (λ t. put_read s₂ s₃ (text_digest_at (records tree) r) x fit₃ e₃ hx ∙ ex);
          }

      pub taken : (s₀ : List ℕ) (stride long : ℕ) → Kept (records tree) s₀ s → Read text (records tree) (r + 1) stride long s
          → (Passed tree text (r + 1) s₃ × Kept (records tree) s₀ s₃) × Read text (records tree) (r + 1) stride long s₃
      taken s₀ stride long k read = ((passed, kept_on _ _ _ _ k kept), read_stays text (records tree) (r + 1) stride long s s₃ samples_kept kept.long read)
