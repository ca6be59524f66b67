-- The functions' records listed in scratch, as `list_functions` makes the list; and that each then stands at its place.
-- By the laws of `splice`, one record at a time, and by the four bytes of a word. Assumes nothing.
use mathlib.Core.Path.{◌≡◌, refl, sym, ap, ◌∙◌}
use mathlib.Core.Logic.{inr}
use mathlib.Core.List.{List, [], ◌∷◌, ◌++◌, append_assoc, append-nil}
use Prim.Native.Nat.{ℕ, zero, suc, ◌+◌, ◌*◌, ◌^◌, ◌≤◌, ◌<◌}
use native.Mathlib.Numerals.{add-one}
use native.Mathlib.Omega.{arith}
use lib.ListN.{length, drop, get_or, length-append, get_or-append}
use lib.Seq.{get_or-append-add}
use borrow.Author.Tests.{eq-eqb, ne_eqb}
use Rattle.laws.specs.Fix.{pick}
use Rattle.laws.specs.Splice.{splice}
use Rattle.laws.proofs.Splices.{length-splice, splice-splice}
use Rattle.records.specs.Words.{byte_at, word_at, kind_of, records}
use Rattle.records.specs.Good.{Good}
use Rattle.records.proofs.WordLaws.{word-length}
use Rattle.conversion.specs.Written.{bytes_of, word}
use Rattle.records.proofs.Apart.{word_same, byte-apart, word-apart, word_back}
use Rattle.texts.specs.Texts.{original_at, text_digest_at, Numbered}
use Rattle.keys.specs.Keys.{records_below, function_places, Listed}
use Rattle.functions.specs.Functions.{words, listed_in}
use Rattle.keys.proofs.FunctionLaws.{listed-kind}
use Rattle.keys.proofs.KeySearch.{records-most}
use Rattle.texts.proofs.TextLaws.{numbered-stays}

-- ---- the records of the first n, one more at a time

module _ (tree : List ℕ) (r : ℕ) where
  one_more : kind_of tree r ≡ 25 → records_below tree (r + 1) ≡ records_below tree r ++ (r ∷ [])
  unfolding records_below pick
  one_more e = rw (add-one r, eq-eqb (kind_of tree r) 25 e)

  none_more : (kind_of tree r ≡ 25 → ⊥) → records_below tree (r + 1) ≡ records_below tree r
  unfolding records_below pick
  none_more e = rw (add-one r, ne_eqb (kind_of tree r) 25 e) (append-nil (records_below tree r))

-- ---- words one after the other

words-length : (l : List ℕ) → length (words l) ≡ 4 * length l
unfolding words
words-length [] = refl
words-length (w ∷ l) = length-append (word w) (words l) ∙ omega (arith, word-length w, words-length l)

words_append : (l : List ℕ) (w : ℕ) → words (l ++ (w ∷ [])) ≡ words l ++ word w
unfolding words
words_append [] w = append-nil (word w)
words_append (x ∷ l) w = rw (words_append l w) (sym (append_assoc (word x) (words l) (word w)))

first_word : (w : ℕ) (m : List ℕ) → w < 2 ^ 32 → word_at (word w ++ m) 0 ≡ w
unfolding word bytes_of word_at byte_at
first_word w m h = word_back w h

later_byte : (w : ℕ) (m : List ℕ) (p q : ℕ) → q ≡ 4 + p → get_or (word w ++ m) q 0 ≡ get_or m p 0
later_byte w m p q e =
    ap (λ (i : ℕ). get_or (word w ++ m) i 0) (e ∙ ap (λ (n : ℕ). n + p) (sym (word-length w))) ∙ get_or-append-add (word w) m p 0

later_word : (w : ℕ) (m : List ℕ) (p q : ℕ) → q ≡ 4 + p → word_at (word w ++ m) q ≡ word_at m p
later_word w m p q e =
    word_same (word w ++ m) q m p
    (later_byte w m p q e)
    (later_byte w m (p + 1) (q + 1) (omega arith))
    (later_byte w m (p + 2) (q + 2) (omega arith))
    (later_byte w m (p + 3) (q + 3) (omega arith))

-- each word stands at its place
words-at : (l : List ℕ) (j : ℕ) → j < length l → ((i : ℕ) → i < length l → get_or l i 0 < 2 ^ 32) → word_at (words l) (4 * j) ≡ get_or l j 0
unfolding words
words-at [] j h small = absurd (omega arith)
words-at (w ∷ l) zero h small = first_word w (words l) (small 0 (omega arith))
words-at (w ∷ l) (suc j) h small =
    later_word w (words l) (4 * j) (4 * suc j) (omega arith) ∙ words-at l j (omega arith) (λ i k. small (suc i) (omega arith))

-- ---- the loop

-- so many of the records below r are functions', and they are listed
pub record Listing (tree s₀ s : List ℕ) (n r count : ℕ) : Type 0 where
  pub whole : n ≡ records tree
  pub below : r ≤ n
  pub most : count ≤ r
  pub counted : count ≡ length (records_below tree r)
  pub same : length s ≡ length s₀
  pub listed : s ≡ splice s₀ 0 (words (records_below tree r))

module _ (tree s₀ : List ℕ) where
  pub listing_start : (n : ℕ) → n ≡ records tree → Listing tree s₀ s₀ n 0 0
  unfolding records_below words splice
  listing_start n e = record { whole = e; below = omega arith; most = omega arith; counted = refl; same = refl; listed = refl }

  module _ (s : List ℕ) (n r count : ℕ) (w : Listing tree s₀ s n r count) (inside : r < n) where
    pub listing_skip : (kind_of tree r ≡ 25 → ⊥) → Listing tree s₀ s n (r + 1) count
    listing_skip e = record {
      whole = w.whole;
      below = omega arith;
      most = omega (arith, w.most);
      counted = w.counted ∙ ap length (sym (none_more tree r e));
      same = w.same;
      listed = w.listed ∙ ap (λ (l : List ℕ). splice s₀ 0 (words l)) (sym (none_more tree r e));
    }

    module _ (room : 72 * records tree ≤ length s₀) (s' : List ℕ) (put : s' ≡ splice s (4 * count) (word r)) where
      length_now : length (words (records_below tree r)) ≡ 4 * count
      length_now = words-length (records_below tree r) ∙ omega (arith, w.counted)

      fits : 4 * count + length (word r) ≤ length s
      fits = omega (arith, word-length r, w.same, w.most, w.whole)

      two : s' ≡ splice s₀ 0 (words (records_below tree r) ++ word r)
      two = put ∙ ap (λ (l : List ℕ). splice l (4 * count) (word r)) w.listed
          ∙ splice-splice s₀ 0 (4 * count) (words (records_below tree r)) (word r) (omega (arith, length_now))
          (omega (arith, length_now, word-length r, w.most, w.whole))

      pub listing_put : kind_of tree r ≡ 25 → Listing tree s₀ s' n (r + 1) (count + 1)
      listing_put e = record {
        whole = w.whole;
        below = omega arith;
        most = omega (arith, w.most);
        counted = omega (arith, w.counted, ap length (one_more tree r e), length-append (records_below tree r) (r ∷ []));
        same = ap length put ∙ length-splice s (4 * count) (word r) fits ∙ w.same;
        listed = two ∙ ap (splice s₀ 0) (sym (words_append (records_below tree r) r) ∙ ap words (sym (one_more tree r e)));
      }

  pub listing_end : (s : List ℕ) (n r count : ℕ) → Listing tree s₀ s n r count → n ≤ r
      → (s ≡ listed_in tree s₀) × (count ≡ length (function_places tree))
  unfolding listed_in
  listing_end s n r count w h =
      let e : r ≡ records tree = omega (arith, w.below, w.whole) in (
        w.listed ∙ ap (λ (m : ℕ). splice s₀ 0 (words (records_below tree m))) e,
        w.counted ∙ ap (λ (m : ℕ). length (records_below tree m)) e,
      )

-- ---- what stands in scratch afterwards

module _ (tree text s : List ℕ) (good : Good tree text) (room : 72 * records tree ≤ length s) where
  inside-scratch : 0 + length (words (function_places tree)) ≤ length s
  inside-scratch = omega (arith, words-length (function_places tree), records-most tree (records tree))

  pub listed-length : length (listed_in tree s) ≡ length s
  unfolding listed_in
  listed-length = length-splice s 0 (words (function_places tree)) inside-scratch

  listed-byte : (p : ℕ) → p < length (words (function_places tree)) → get_or (listed_in tree s) p 0 ≡ get_or (words (function_places tree)) p 0
  unfolding listed_in splice
  listed-byte p h = get_or-append (words (function_places tree)) (drop (0 + length (words (function_places tree))) s) 0 p h

  listed-word : (j : ℕ) → j < length (function_places tree) → word_at (listed_in tree s) (4 * j) ≡ get_or (function_places tree) j 0
  listed-word j h =
      let n = words-length (function_places tree) in
      word_same (listed_in tree s) (4 * j) (words (function_places tree)) (4 * j)
      (listed-byte (4 * j) (omega arith))
      (listed-byte (4 * j + 1) (omega arith))
      (listed-byte (4 * j + 2) (omega arith))
      (listed-byte (4 * j + 3) (omega arith))
      ∙ words-at (function_places tree) j h (λ i k. omega (arith, (listed-kind tree (records tree) i k).0, good.few))

  pub are-listed : Listed tree (listed_in tree s)
  are-listed = record { room = omega (arith, listed-length); listed = λ j h. listed-word j h }

  -- the bytes behind the list
  pub listed-behind : (i : ℕ) → 4 * length (function_places tree) ≤ i → get_or (listed_in tree s) i 0 ≡ get_or s i 0
  unfolding listed_in
  listed-behind i h = byte-apart s 0 (words (function_places tree)) inside-scratch i (inr (omega (arith, words-length (function_places tree))))

  -- the list ends before the texts' numbers and digests
  pub still_numbered : Numbered tree text s → Numbered tree text (listed_in tree s)
  unfolding listed_in
  still_numbered =
      numbered-stays tree text s (splice s 0 (words (function_places tree)))
      (λ r h t. word-apart s 0 (words (function_places tree)) inside-scratch (original_at (records tree) r)
      (inr (omega (arith, words-length (function_places tree), records-most tree (records tree)))))
      (λ r h t. word-apart s 0 (words (function_places tree)) inside-scratch (text_digest_at (records tree) r)
      (inr (omega (arith, words-length (function_places tree), records-most tree (records tree)))))
