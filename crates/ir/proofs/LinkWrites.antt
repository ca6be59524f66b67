-- A link and a head written one after the other, or the number of a string's text and its slot: which words, bytes, tables and slots they leave, and that the entries are
-- then linked with one more. The link goes behind the others', the head over what stood there; both lie behind the tables. Assumes nothing.
use mathlib.Core.Path.{◌≡◌, refl, sym, ap, ◌∙◌}
use mathlib.Core.Logic.{◌⊎◌, inl, inr}
use mathlib.Core.Bool.{Bool, true, false}
use mathlib.Core.List.{List, [], ◌∷◌, ◌++◌}
use mathlib.Core.Option.{none}
use Prim.Native.Nat.{ℕ, ◌+◌, ◌*◌, ◌^◌, ◌≤◌, ◌<◌}
use native.Mathlib.Omega.{arith}
use lib.Dec.{ltb}
use lib.ListN.{length, get_or}
use borrow.Author.Tests.{ltb-true, ltb-false}
use Rattle.laws.specs.Splice.{splice}
use Rattle.records.specs.Words.{word_at}
use Rattle.records.proofs.Apart.{word-apart}
use Rattle.conversion.specs.Ir.{LabelName, position}
use Rattle.conversion.specs.Written.{bytes_of, word}
use Rattle.ir.specs.Arena.{Has, Table, LinkedEntries, label_slot, no_label, LabelSlots}
use Rattle.ir.proofs.Entries.{written-length, written-word, has-before, table_before}
use Rattle.ir.proofs.EntryLinks.{buckets, links-grown}
use Rattle.ir.proofs.LinkLaws.{Start}

-- entry m, of bucket b, is linked to v, and is the head of its bucket
pub record LinkWritten (links heads m b v : ℕ) (l l' : List ℕ) : Type 0 where
  pub wrote : l' ≡ splice (splice l (links + 4 * m) (word v)) (heads + 4 * b) (word m)
  pub order : links + 4 * m + 4 ≤ heads
  pub fit : heads + 4 * b + 4 ≤ length l

module _ {links heads m b v : ℕ} {l l' : List ℕ} (w : LinkWritten links heads m b v l l') where
  abbrev l₁ : List ℕ
  l₁ = splice l (links + 4 * m) (word v)

  fit₁ : links + 4 * m + 4 ≤ length l
  fit₁ = omega (arith, w.order, w.fit)

  long₁ : length l₁ ≡ length l
  unfolding word bytes_of
  long₁ = written-length l (links + 4 * m) (word v) l₁ refl fit₁

  fit₂ : heads + 4 * b + 4 ≤ length l₁
  fit₂ = omega (arith, long₁, w.fit)

  pub linked-length : length l' ≡ length l
  unfolding word bytes_of
  linked-length = written-length l₁ (heads + 4 * b) (word m) l' w.wrote fit₂ ∙ long₁

  -- what stands before the links
  pub has-stays : (at : ℕ) (bs : List ℕ) → at + length bs ≤ links → Has l at bs → Has l' at bs
  unfolding word bytes_of
  has-stays at bs q h =
      has-before l₁ (heads + 4 * b) (word m) l' w.wrote fit₂ at bs (omega (arith, w.order)) (has-before l (links + 4 * m) (word v) l₁ refl fit₁ at bs (omega arith) h)

  pub table_stays : {X : Type 0} {f : X → List ℕ} {d : ℕ} {xs : List X} {at c : ℕ} → Table f d xs at c l → at + d * c ≤ links → Table f d xs at c l'
  unfolding word bytes_of
  table_stays t q =
      table_before (table_before t (links + 4 * m) (word v) l₁ refl fit₁ (omega arith)) (heads + 4 * b) (word m) l' w.wrote fit₂ (omega (arith, w.order))

  -- words but these two
  first-stays : (p : ℕ) → (p + 4 ≤ links + 4 * m) ⊎ (links + 4 * m + 4 ≤ p) → word_at l₁ p ≡ word_at l p
  unfolding word bytes_of
  first-stays p q = word-apart l (links + 4 * m) (word v) fit₁ p q

  second-stays : (p : ℕ) → (p + 4 ≤ heads + 4 * b) ⊎ (heads + 4 * b + 4 ≤ p) → word_at l' p ≡ word_at l₁ p
  unfolding word bytes_of
  second-stays p q = ap (λ (r : List ℕ). word_at r p) w.wrote ∙ word-apart l₁ (heads + 4 * b) (word m) fit₂ p q

  pub before-stays : (p : ℕ) → p + 4 ≤ links → word_at l' p ≡ word_at l p
  before-stays p q = second-stays p (inl (omega (arith, w.order))) ∙ first-stays p (inl (omega arith))

  pub between_stays : (p : ℕ) → links + 4 * m + 4 ≤ p → p + 4 ≤ heads → word_at l' p ≡ word_at l p
  between_stays p a b = second-stays p (inl (omega arith)) ∙ first-stays p (inr a)

  pub behind-stays : (p : ℕ) → heads + 4 * b + 4 ≤ p → word_at l' p ≡ word_at l p
  behind-stays p q = second-stays p (inr q) ∙ first-stays p (inr (omega (arith, w.order)))

  pub slots_stay : {n : ℕ} {xs : List LabelName} → 268 * n ≤ links → LabelSlots n xs l → LabelSlots n xs l'
  slots_stay {n = n} {xs = xs} q h = record {
    has = h.has;
    number = λ i hi. before-stays (label_slot n (get_or xs i no_label)) (omega (arith, h.has i hi)) ∙ h.number i hi;
  }

  pub slots-between : {n : ℕ} {xs : List LabelName} → links + 4 * m + 4 ≤ 240 * n → 268 * n ≤ heads → LabelSlots n xs l → LabelSlots n xs l'
  slots-between {n = n} {xs = xs} a b h = record {
    has = h.has;
    number = λ i hi. between_stays (label_slot n (get_or xs i no_label)) (omega arith) (omega (arith, h.has i hi)) ∙ h.number i hi;
  }

  -- the entries, and the one that was written
  module _ (small : m < 2 ^ 32) (low : v < 2 ^ 32) where
    pub own_head : word_at l' (heads + 4 * b) ≡ m
    own_head = written-word m l₁ l' (heads + 4 * b) w.wrote fit₂ small

    pub other-heads : (a : ℕ) → (a ≡ b → ⊥) → word_at l' (heads + 4 * a) ≡ word_at l (heads + 4 * a)
    other-heads a ne = second-stays (heads + 4 * a) (apart (ltb a b) refl) ∙ first-stays (heads + 4 * a) (inr (omega (arith, w.order)))
      where
        apart : (u : Bool) → ltb a b ≡ u → (heads + 4 * a + 4 ≤ heads + 4 * b) ⊎ (heads + 4 * b + 4 ≤ heads + 4 * a)
        apart true q = inl (omega (arith, ltb-true a b q))
        apart false q = inr (omega (arith, ltb-false a b q))

    pub last_link : word_at l' (links + 4 * m) ≡ v
    last_link = second-stays (links + 4 * m) (inl (omega (arith, w.order))) ∙ written-word v l l₁ (links + 4 * m) refl fit₁ low

    pub old_links : (i : ℕ) → i < m → word_at l' (links + 4 * i) ≡ word_at l (links + 4 * i)
    old_links i hi = second-stays (links + 4 * i) (inl (omega (arith, w.order))) ∙ first-stays (links + 4 * i) (inl (omega arith))

    pub links-more : {X : Type 0} {bucket : X → ℕ} {same : X → X → Bool} {past : X} {xs : List X} → LinkedEntries bucket same past heads links xs l → (x : X) → b ≡ bucket x
        → m ≡ length xs → Start (buckets bucket past xs) (length xs) (bucket x) v → position (same x) xs ≡ none → LinkedEntries bucket same past heads links (xs ++ (x ∷ [])) l'
    links-more {bucket = bucket} {xs = xs} h x eb count s new =
        links-grown h x l' s new (ap (λ (a : ℕ). word_at l' (heads + 4 * a)) (sym eb) ∙ own_head ∙ count) (λ a ne. other-heads a (λ q. ne (q ∙ eb)))
        (ap (λ (i : ℕ). word_at l' (links + 4 * i)) (sym count) ∙ last_link) (λ i hi. old_links i (omega arith))
