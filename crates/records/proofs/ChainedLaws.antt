-- Numbers in buckets: a bucket's number is below their count, members of one digest share one, the chains with no number and with one number more, what a walk
-- along a chain reads, and which bytes stay. By the laws of chains, and word for word where number r is written. Assumes nothing.
use mathlib.Core.Path.{◌≡◌, refl, sym, ap, ◌∙◌}
use mathlib.Core.Logic.{inl, inr}
use Prim.Native.Nat.{ℕ, suc, ◌+◌, ◌*◌, ◌≤◌, ◌<◌}
use mathlib.Core.Bool.{Bool, true, false, false≢true}
use mathlib.Core.List.{List, ◌++◌}
use native.Mathlib.Nat.{mul_comm, mul-lt-mul_of_pos_right, mul-le-mul_left, div-lt_iff_lt-mul}
use native.Mathlib.Omega.{arith}
use lib.Dec.{eqb, ltb, lit<}
use lib.ListN.{length, get_or}
use borrow.Author.Count.{below_more}
use borrow.Author.Tests.{eqb-true, eqb-false, ltb-true, ltb-false}
use Rattle.laws.specs.Chain.{link_to, Met}
use Rattle.laws.specs.Splice.{splice}
use Rattle.laws.proofs.ChainLaws.{head_none, head_here, head_other}
use Rattle.laws.proofs.FixLaws.{pick_yes, pick_no}
use Rattle.laws.proofs.Splices.{length-splice}
use Rattle.laws.proofs.Tests.{tested}
use Rattle.records.specs.Words.{byte_at, word_at, bytes_of, word, most_records}
use Rattle.records.specs.Chains.{bucket_of, member_bucket, entry_at, Chained, entered, ChainRoom, Cleared, Emptied}
use Rattle.records.proofs.Apart.{byte-apart, word-apart, word-there, word_back}

-- ---- buckets

pub product_fits : (d n : ℕ) → d < 4294967296 → n ≤ most_records → d * n < 18446744073709551616
product_fits d n h few = omega (arith, mul-le-mul_left d few)

pub bucket_small : (d n : ℕ) → d < 4294967296 → 0 < n → bucket_of n d < n
bucket_small d n h some =
    (div-lt_iff_lt-mul {k = 4294967296} (lit< tt)).1 (rw (mul_comm n 4294967296) (mul-lt-mul_of_pos_right h some))

module _ (member : ℕ → Bool) (digest : ℕ → ℕ) (n : ℕ) where
  abbrev bucket : ℕ → ℕ
  bucket = member_bucket member digest n

  -- a member's bucket, and that of a number that is none
  pub bucket_member : (k : ℕ) → member k ≡ true → bucket k ≡ bucket_of n (digest k)
  unfolding member_bucket
  bucket_member k m = pick_yes (member k) (bucket_of n (digest k)) n m

  pub bucket_other : (k : ℕ) → member k ≡ false → bucket k ≡ n
  unfolding member_bucket
  bucket_other k m = pick_no (member k) (bucket_of n (digest k)) n m

  -- a number in a bucket that has a head is a member
  pub member_here : (k : ℕ) → bucket k < n → member k ≡ true
  member_here k h = tested (member k) (λ t. t) (λ t. absurd (omega (arith, bucket_other k t)))

  pub together : (j r : ℕ) → member j ≡ true → member r ≡ true → digest j ≡ digest r → bucket j ≡ bucket r
  together j r hj hr e = bucket_member j hj ∙ ap (bucket_of n) e ∙ sym (bucket_member r hr)

  pub bucket_told : (r d b : ℕ) → member r ≡ true → d ≡ digest r → b ≡ bucket_of n d → b ≡ bucket r
  bucket_told r d b m e q = q ∙ ap (bucket_of n) e ∙ sym (bucket_member r m)

  pub bucket_within : (r d : ℕ) → member r ≡ true → d ≡ digest r → d < 4294967296 → 0 < n → bucket r < n
  bucket_within r d m e h some = omega (arith, bucket_small d n h some, bucket_told r d (bucket_of n d) m e refl)

  -- ---- the chains

  pub chained-none : (l : List ℕ) → ((i : ℕ) → i < 4 * n → get_or l i 0 ≡ 0) → Chained member digest n 0 l
  unfolding word_at byte_at
  chained-none l z =
      record {
        heads = λ b h.
            rw (z (4 * b) (omega arith), z (4 * b + 1) (omega arith), z (4 * b + 2) (omega arith), z (4 * b + 3) (omega arith))
            (head_none bucket b);
        digests = λ k h. absurd (omega arith);
        links = λ k h. absurd (omega arith);
      }

  -- the head of number r's bucket
  pub head_told : (l : List ℕ) (r b h : ℕ) → Chained member digest n r l → b < n → b ≡ bucket r → h ≡ word_at l (4 * b) → h ≡ link_to bucket r (bucket r)
  head_told l r b h c hb eb eh = eh ∙ c.heads b hb ∙ ap (link_to bucket r) eb

  -- number r is no member: nothing is entered
  pub chained-past : (l : List ℕ) (r : ℕ) → Chained member digest n r l → member r ≡ false → Chained member digest n (r + 1) l
  chained-past l r c m =
      let other : member r ≡ true → ⊥ = λ t. false≢true (sym m ∙ t) in
      record {
        heads = λ b h. c.heads b h ∙ head_other bucket r b (λ e. omega (arith, bucket_other r m));
        digests =
            below_more (λ (k : ℕ). member k ≡ true → word_at l (entry_at n k) ≡ digest k) r c.digests (λ t. absurd (other t));
        links =
            below_more (λ (k : ℕ). member k ≡ true → word_at l (entry_at n k + 4) ≡ link_to bucket k (bucket k)) r c.links (λ t. absurd (other t));
      }

  -- bytes behind the chains do not matter
  pub chained-kept : (l l' : List ℕ) (r : ℕ) → r ≤ n → ((p : ℕ) → p + 4 ≤ 12 * n → word_at l' p ≡ word_at l p)
      → Chained member digest n r l → Chained member digest n r l'
  chained-kept l l' r hr same c =
      record {
        heads = λ b h. same (4 * b) (omega arith) ∙ c.heads b h;
        digests = λ k h m. same (entry_at n k) (omega arith) ∙ c.digests k h m;
        links = λ k h m. same (entry_at n k + 4) (omega arith) ∙ c.links k h m;
      }

  -- a walk along the chain of number r's bucket stands one past k: what stands there is number k's
  module _ (same : ℕ → ℕ → Bool) (l : List ℕ) (r v k : ℕ) (c : Chained member digest n r l) (m : Met same bucket r v) (z : v ≡ suc k) (within : bucket r < n) where
    pub walked_member : member k ≡ true
    walked_member = member_here k (omega (arith, m.here k z))

    pub walked_digest : word_at l (entry_at n k) ≡ digest k
    walked_digest = c.digests k (omega (arith, m.within)) walked_member

    pub walked_link : word_at l (entry_at n k + 4) ≡ link_to bucket k (bucket k)
    walked_link = c.links k (omega (arith, m.within)) walked_member

-- number r is entered
module _ (n : ℕ) (l : List ℕ) (r d b h : ℕ) (room : ChainRoom n l) (hr : r < n) (hb : b < n) (hd : d < 4294967296) (hh : h < 4294967296) where
  inner : List ℕ
  inner = splice l (entry_at n r) (word d ++ word h)

  inner-fit : entry_at n r + length (word d ++ word h) ≤ length l
  unfolding word bytes_of
  inner-fit = omega (arith, room.room)

  inner-long : length inner ≡ length l
  unfolding inner
  inner-long = length-splice l (entry_at n r) (word d ++ word h) inner-fit

  outer_fit : 4 * b + length (word (r + 1)) ≤ length inner
  unfolding word bytes_of
  outer_fit = omega (arith, inner-long, room.room)

  pub entered-long : (l' : List ℕ) → l' ≡ entered n r d b h l → length l' ≡ length l
  unfolding inner
  entered-long l' e = ap length e ∙ length-splice inner (4 * b) (word (r + 1)) outer_fit ∙ inner-long

  -- the bytes behind the chains stay
  pub entered-behind : (l' : List ℕ) → l' ≡ entered n r d b h l → (p : ℕ) → 12 * n ≤ p → get_or l' p 0 ≡ get_or l p 0
  unfolding inner word bytes_of
  entered-behind l' e p k =
      ap (λ (x : List ℕ). get_or x p 0) e
      ∙ byte-apart inner (4 * b) (word (r + 1)) outer_fit p (inr (omega arith))
      ∙ byte-apart l (entry_at n r) (word d ++ word h) inner-fit p (inr (omega arith))

  -- the words that stay
  head_stays : (c : ℕ) → c < n → (b ≡ c → ⊥) → word_at (entered n r d b h l) (4 * c) ≡ word_at l (4 * c)
  unfolding inner word bytes_of
  head_stays c hc ne =
      tested (ltb b c)
      (λ t. let k : b < c = ltb-true b c t in word-apart inner (4 * b) (word (r + 1)) outer_fit (4 * c) (inr (omega arith)))
      (λ t. let k : c ≤ b = ltb-false b c t in word-apart inner (4 * b) (word (r + 1)) outer_fit (4 * c) (inl (omega arith)))
      ∙ word-apart l (entry_at n r) (word d ++ word h) inner-fit (4 * c) (inl (omega arith))

  outer_stays : (p : ℕ) → 4 * n ≤ p → word_at (entered n r d b h l) p ≡ word_at inner p
  unfolding inner word bytes_of
  outer_stays p k = word-apart inner (4 * b) (word (r + 1)) outer_fit p (inr (omega arith))

  entry-stays : (p : ℕ) → 4 * n ≤ p → p + 4 ≤ entry_at n r → word_at (entered n r d b h l) p ≡ word_at l p
  unfolding inner
  entry-stays p k m = outer_stays p k ∙ word-apart l (entry_at n r) (word d ++ word h) inner-fit p (inl m)

  -- the words that are written
  head_written : word_at (entered n r d b h l) (4 * b) ≡ r + 1
  unfolding inner word bytes_of word_at byte_at
  head_written = word-there inner (4 * b) (word (r + 1)) outer_fit 0 (4 * b) (omega arith) (omega arith) ∙ word_back (r + 1) (omega (arith, room.few))

  digest-written : word_at (entered n r d b h l) (entry_at n r) ≡ d
  unfolding inner word bytes_of word_at byte_at
  digest-written =
      outer_stays (entry_at n r) (omega arith)
      ∙ word-there l (entry_at n r) (word d ++ word h) inner-fit 0 (entry_at n r) (omega arith) (omega arith)
      ∙ word_back d hd

  link_written : word_at (entered n r d b h l) (entry_at n r + 4) ≡ h
  unfolding inner word bytes_of word_at byte_at
  link_written =
      outer_stays (entry_at n r + 4) (omega arith)
      ∙ word-there l (entry_at n r) (word d ++ word h) inner-fit 4 (entry_at n r + 4) refl (omega arith)
      ∙ word_back h hh

  module _ (member : ℕ → Bool) (digest : ℕ → ℕ) where
    written : Chained member digest n r l → d ≡ digest r → b ≡ member_bucket member digest n r → h ≡ word_at l (4 * b)
        → Chained member digest n (r + 1) (entered n r d b h l)
    written c ed eb eh =
        let at : ℕ → ℕ = member_bucket member digest n in
        record {
          heads = λ x hx.
              tested (eqb b x)
              (λ t. let q : b ≡ x = eqb-true b x t in rw (sym q) (head_written ∙ head_here at r b (sym eb)))
              (λ t. let ne : b ≡ x → ⊥ = eqb-false b x t in head_stays x hx ne ∙ c.heads x hx ∙ head_other at r x (λ e. ne (eb ∙ e)));
          digests =
              below_more (λ (k : ℕ). member k ≡ true → word_at (entered n r d b h l) (entry_at n k) ≡ digest k) r
              (λ k hk m. entry-stays (entry_at n k) (omega arith) (omega arith) ∙ c.digests k hk m)
              (λ m. digest-written ∙ ed);
          links =
              below_more (λ (k : ℕ). member k ≡ true → word_at (entered n r d b h l) (entry_at n k + 4) ≡ link_to at k (at k)) r
              (λ k hk m. entry-stays (entry_at n k + 4) (omega arith) (omega arith) ∙ c.links k hk m)
              (λ m. link_written ∙ head_told member digest n l r b h c hb eb eh);
        }

    pub chained_more : (l' : List ℕ) → l' ≡ entered n r d b h l → Chained member digest n r l → d ≡ digest r
        → b ≡ member_bucket member digest n r → h ≡ word_at l (4 * b) → Chained member digest n (r + 1) l'
    chained_more l' e c ed eb eh = rw e (written c ed eb eh)

-- ---- the writes

-- from the first byte on
pub cleared-heads : (l l' : List ℕ) (n : ℕ) → Cleared 0 n l l' → Emptied n l l'
cleared-heads l l' n e = record { heads = λ i h. e.zero i (omega arith) h; others = e.behind; long = e.long }

pub two_writes : (l l₁ l₂ : List ℕ) (i j : ℕ) (vs ws : List ℕ) → l₁ ≡ splice l i vs → l₂ ≡ splice l₁ j ws → l₂ ≡ splice (splice l i vs) j ws
two_writes l l₁ l₂ i j vs ws e₁ e₂ = e₂ ∙ ap (λ (x : List ℕ). splice x j ws) e₁
