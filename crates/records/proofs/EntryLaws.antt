-- A number's entry written: which words and bytes stay, and what the chains are then. Chains without a number, with one that is no member, and with one whose text is there.
-- Word for word, and by the laws of chains. Assumes nothing.
use mathlib.Core.Path.{◌≡◌, refl, sym, ap, ◌∙◌}
use mathlib.Core.Logic.{◌⊎◌, inl, inr}
use mathlib.Core.List.{List, [], ◌++◌}
use Prim.Native.Nat.{ℕ, ◌+◌, ◌*◌, ◌≤◌, ◌<◌}
use native.Mathlib.Numerals.{add-one}
use native.Mathlib.Omega.{arith}
use lib.Dec.{eqb}
use lib.ListN.{length, get_or}
use borrow.Author.Tests.{eqb-true, eqb-false}
use Rattle.laws.specs.Splice.{splice}
use Rattle.laws.proofs.Splices.{length-splice}
use Rattle.laws.proofs.Tests.{tested}
use Rattle.records.specs.Chains.{head_at, entry_at, ChainRoom}
use Rattle.records.specs.Words.{byte_at, word_at, bytes_of, word}
use Rattle.records.specs.Order.{chain_of, Placed, Leads, PlaceIn, PlaceOf, placed_at}
use Rattle.records.proofs.Apart.{byte-apart, word-apart, word-there, word_back}
use Rattle.records.proofs.PlacedLaws.{all_map, placed-found, chain-here, chain-other, chain-below, chain-ordered, chain-short}
use Rattle.records.proofs.LinkedLaws.{linked-kept, place-holds, placed-more}

-- ---- the words

module _ (n r shared place next : ℕ) (s s' : List ℕ) (room : ChainRoom n s) (hr : r < n) (low : place + 4 ≤ entry_at n r)
    (e : s' ≡ placed_at n r shared place next s) where
  inner : List ℕ
  inner = splice s (entry_at n r) (word shared ++ word next)

  inner-fit : entry_at n r + length (word shared ++ word next) ≤ length s
  unfolding word bytes_of
  inner-fit = omega (arith, room.room)

  inner-long : length inner ≡ length s
  unfolding inner
  inner-long = length-splice s (entry_at n r) (word shared ++ word next) inner-fit

  outer_fit : place + length (word (r + 1)) ≤ length inner
  unfolding word bytes_of
  outer_fit = omega (arith, inner-long, room.room)

  pub entered-long : length s' ≡ length s
  unfolding inner
  entered-long = ap length e ∙ length-splice inner place (word (r + 1)) outer_fit ∙ inner-long

  -- the bytes behind the chains stay
  pub entered-behind : (p : ℕ) → 12 * n ≤ p → get_or s' p 0 ≡ get_or s p 0
  unfolding inner word bytes_of
  entered-behind p k =
      ap (λ (x : List ℕ). get_or x p 0) e
      ∙ byte-apart inner place (word (r + 1)) outer_fit p (inr (omega arith))
      ∙ byte-apart s (entry_at n r) (word shared ++ word next) inner-fit p (inr (omega arith))

  outer_stays : (q : ℕ) → (q + 4 ≤ place) ⊎ (place + 4 ≤ q) → word_at s' q ≡ word_at inner q
  unfolding inner word bytes_of
  outer_stays q o = ap (λ (x : List ℕ). word_at x q) e ∙ word-apart inner place (word (r + 1)) outer_fit q o

  stays : (q : ℕ) → q + 4 ≤ entry_at n r → (q + 4 ≤ place) ⊎ (place + 4 ≤ q) → word_at s' q ≡ word_at s q
  unfolding inner
  stays q k o = outer_stays q o ∙ word-apart s (entry_at n r) (word shared ++ word next) inner-fit q (inl k)

  there : word_at s' place ≡ r + 1
  unfolding inner word bytes_of word_at byte_at
  there =
      ap (λ (x : List ℕ). word_at x place) e
      ∙ word-there inner place (word (r + 1)) outer_fit 0 place (omega arith) (omega arith)
      ∙ word_back (r + 1) (omega (arith, room.few))

  its_shared : shared < 4294967296 → word_at s' (entry_at n r) ≡ shared
  unfolding inner word bytes_of word_at byte_at
  its_shared h =
      outer_stays (entry_at n r) (inr low)
      ∙ word-there s (entry_at n r) (word shared ++ word next) inner-fit 0 (entry_at n r) (omega arith) (omega arith)
      ∙ word_back shared h

  its_link : next < 4294967296 → word_at s' (entry_at n r + 4) ≡ next
  unfolding inner word bytes_of word_at byte_at
  its_link h =
      outer_stays (entry_at n r + 4) (inr (omega arith))
      ∙ word-there s (entry_at n r) (word shared ++ word next) inner-fit 4 (entry_at n r + 4) refl (omega arith)
      ∙ word_back next h

-- ---- the chains

module _ (t : ℕ → List ℕ) (bucket : ℕ → ℕ) (n : ℕ) where
  pub chains-none : (s : List ℕ) → ((i : ℕ) → i < 4 * n → get_or s i 0 ≡ 0) → Placed t bucket n 0 s
  unfolding word_at byte_at chain_of
  chains-none s z b h =
      rw (z (4 * b) (omega arith), z (4 * b + 1) (omega arith), z (4 * b + 2) (omega arith), z (4 * b + 3) (omega arith)) refl

  -- bytes behind the chains do not matter
  pub chains-kept : (s s' : List ℕ) (r : ℕ) → r ≤ n → ((p : ℕ) → p + 4 ≤ 12 * n → word_at s' p ≡ word_at s p) → Placed t bucket n r s → Placed t bucket n r s'
  chains-kept s s' r hr same p b hb =
      rw (same (head_at b) (omega arith))
      (linked-kept t n s s' [] (word_at s (head_at b)) (chain_of t bucket r b)
      (all_map (chain_of t bucket r b) (λ e h. (same (entry_at n e) (omega arith), same (entry_at n e + 4) (omega arith))) (chain-below t bucket b r))
      (p b hb))

  module _ (s : List ℕ) (r : ℕ) (p : Placed t bucket n r s) where
    -- a number that is in no bucket
    pub chains-past : n ≤ bucket r → Placed t bucket n (r + 1) s
    chains-past h b hb = rw (add-one r) (rw (chain-other t bucket b r (λ z. omega arith)) (p b hb))

    -- bucket b is that of r
    module _ (b : ℕ) (hr : r < n) (hb : b < n) (eb : b ≡ bucket r) where
      -- what a walk along its chain is given
      pub chain-leads : Leads t n r (head_at b) s
      chain-leads =
          record {
            chain = chain_of t bucket r b;
            linked = p b hb;
            ordered = chain-ordered t bucket b r;
            inside = chain-below t bucket b r;
            short = omega (arith, chain-short t bucket b r);
          }

      module _ (number place shared : ℕ) (belongs : PlaceOf t n r (head_at b) s number place shared) where
        here : PlaceIn t n r (head_at b) (chain_of t bucket r b) number place shared
        here = belongs (chain_of t bucket r b) (p b hb)

        -- an entry has r's text: nothing is entered
        pub chains-found : number < r → Placed t bucket n (r + 1) s
        chains-found h c hc =
            rw (add-one r)
            (tested (eqb (bucket r) c)
            (λ y.
            let q : b ≡ c = eb ∙ eqb-true (bucket r) c y in
            rw (chain-here t bucket c r (eqb-true (bucket r) c y))
            (rw (sym q)
            (rw (placed-found t r [] (chain_of t bucket r b) (chain-ordered t bucket b r) (omega (arith, here.found)))
            (p b hb))))
            (λ m. rw (chain-other t bucket c r (eqb-false (bucket r) c m)) (p c hc)))

        module _ (new : number ≡ r) where
          pub place-low : place + 4 ≤ entry_at n r
          place-low =
              rw (here.there new)
              (place-holds t n r (λ q. q + 4 ≤ entry_at n r) [] (head_at b) (chain_of t bucket r b) (omega arith)
              (all_map (chain_of t bucket r b) (λ e h. omega arith) (chain-below t bucket b r)))

          pub chains-more : (next : ℕ) (s' : List ℕ) → ChainRoom n s → shared < 4294967296 → next < 4294967296 → next ≡ word_at s place
              → s' ≡ placed_at n r shared place next s → Placed t bucket n (r + 1) s'
          chains-more next s' room hs hn en e =
              placed-more t n r s s' shared place
              (stays n r shared place next s s' room hr place-low e)
              (there n r shared place next s s' room hr place-low e)
              (its_shared n r shared place next s s' room hr place-low e hs)
              (its_link n r shared place next s s' room hr place-low e hn ∙ en)
              bucket b hr hb (sym eb) p (sym here.found ∙ new) (here.there new) (here.shares new)
