-- Names by the lowest record with the text: its words A and B say the name's text, and tell it from the open names, and its slot tells where it stands; so what is
-- found by them, or declaring them leaves, is that of the name. By the laws of the texts' numbers. Assumes nothing.
use Rattle.std.specs.Prelude.{Option as StdOption}
use mathlib.Core.Path.{◌≡◌, refl, sym, ap, ◌∙◌, subst}
use mathlib.Core.Bool.{Bool, true}
use mathlib.Core.List.{List}
use Prim.Native.Nat.{ℕ, ◌+◌, ◌*◌, ◌≤◌, ◌<◌}
use native.Mathlib.Omega.{arith}
use lib.Dec.{eqb}
use lib.ListN.{length}
use borrow.Author.Tests.{eqb-true}
use Rattle.laws.proofs.Tests.{and_left, and_right}
use Rattle.records.specs.Words.{kind_of, word_at, word_of, text_at, records, A, B}
use Rattle.records.specs.Kinds.{kind_name}
use Rattle.records.specs.Good.{Good}
use Rattle.records.proofs.GoodLaws.{inside}
use Rattle.syntax.specs.Decode.{text_of}
use Rattle.syntax.specs.Places.{IsKind}
use Rattle.texts.specs.Texts.{has_own, has_text, own_text, original_at, Numbered}
use Rattle.texts.proofs.TextLaws.{original-below, original-text, same-original, words_tell}
use Rattle.ir.specs.declared.structs.VarId.{VarId}
use Rattle.scope.specs.declared.Scope.{Scope}
use Rattle.scope.specs.declared.Known.{Known}
use Rattle.scope.specs.Open.{name_is, words_are, name_slot_at, ToldApart, SlotTells, FindMeets, FindsTold, DeclareMeets, DeclaresTold}
use Rattle.expressions.specs.Slots.{original_of, original_word, Original, Scoped, Asked, Ready}

-- ---- numbers that stay

module _ (tree s s' : List ℕ) (same : (r : ℕ) → r < records tree → original_of tree s' r ≡ original_of tree s r) where
  pub word-stays : (r k : ℕ) → r < records tree → original_word tree s' r k ≡ original_word tree s r k
  word-stays r k h = ap (λ (z : ℕ). word_of tree z k) (same r h)

  -- an open name whose words and whose slot stay
  pub original-stays : (j : ℕ) (x : Original tree s j) → word_at s' (8 * records tree + 16 * j) ≡ word_at s (8 * records tree + 16 * j)
      → word_at s' (8 * records tree + 16 * j + 4) ≡ word_at s (8 * records tree + 16 * j + 4)
      → word_at s' (name_slot_at (records tree) (original_of tree s x.of)) ≡ word_at s (name_slot_at (records tree) (original_of tree s x.of)) → Original tree s' j
  original-stays j x a b e = record {
    of = x.of;
    below = x.below;
    has_its_text = x.has_its_text;
    inside = rw (same x.of x.below) x.inside;
    offset = a ∙ x.offset ∙ sym (word-stays x.of A x.below);
    len = b ∙ x.len ∙ sym (word-stays x.of B x.below);
    slot = ap (λ (o : ℕ). word_at s' (name_slot_at (records tree) o)) (same x.of x.below) ∙ e ∙ x.slot;
  }

-- ---- the words of a record's text

-- words A and B of the lowest record with the text say the text
origin_says : (tree text s : List ℕ) → Numbered tree text s → (r : ℕ) → r < records tree → has_own tree r ≡ true
    → text_at text (original_word tree s r A) (original_word tree s r B) ≡ own_text tree text r
origin_says tree text s numbered r h t = rw (numbered.number r h t) (original-text tree text r h t)

-- a record of a kind that has a text
pub kind-has : (tree : List ℕ) (k r : ℕ) → has_text k ≡ true → kind_of tree r ≡ k → has_own tree r ≡ true
kind-has tree k r t e = rw e t

pub name-asked : {tree text s : List ℕ} {sc : Scope} {r : ℕ} → Good tree text × Numbered tree text s → Scoped tree s sc → IsKind tree kind_name r → Asked tree text s sc r
unfolding has_text
name-asked {tree = tree} {r = r} g k i = record { good = g.0; numbered = g.1; scoped = k; below = i.below; has_its_text = kind-has tree kind_name r refl i.kind }

pub kind-asked : (k : ℕ) → has_text k ≡ true → {tree text s : List ℕ} {sc : Scope} {r : ℕ} → Ready tree text s sc → IsKind tree k r → Asked tree text s sc r
kind-asked k t {tree = tree} {r = r} h i = record {
  good = h.keyed.good;
  numbered = h.keyed.numbered;
  scoped = h.scoped;
  below = i.below;
  has_its_text = kind-has tree k r t i.kind;
}

module _ {tree text s : List ℕ} {sc : Scope} {r : ℕ} (q : Asked tree text s sc r) where
  pub number-inside : original_at sc.records r + 4 ≤ length s
  number-inside = omega (arith, q.below, q.scoped.records_are, q.scoped.room.scratch)

  -- words A and B of the lowest record say the name
  pub origin_text : text_at text (original_word tree s r A) (original_word tree s r B) ≡ text_of tree text r A
  unfolding text_of
  origin_text = origin_says tree text s q.numbered r q.below q.has_its_text

  told-words : ToldApart text s sc (original_word tree s r A) (original_word tree s r B)
  unfolding name_is words_are
  told-words j h =
      let x = q.scoped.named j h in
      rw (q.scoped.records_are, x.offset, x.len, origin_says tree text s q.numbered r q.below q.has_its_text, origin_says tree text s q.numbered x.of x.below x.has_its_text)
      (words_tell tree text r x.of q.below x.below q.has_its_text x.has_its_text s q.numbered _ _ refl refl)

  -- an open name with these words is the one that the slot of the number says: its own record has the same number
  told-slot : SlotTells s sc (original_of tree s r) (original_word tree s r A) (original_word tree s r B)
  unfolding words_are
  told-slot j h t =
      let x = q.scoped.named j h in
      let E = eqb (original_word tree s r A) (word_at s (8 * sc.records + 16 * j)) in
      let a : original_word tree s r A ≡ original_word tree s x.of A =
      eqb-true _ _ (and_left E _ t) ∙ ap (λ (n : ℕ). word_at s (8 * n + 16 * j)) q.scoped.records_are ∙ x.offset in
      let b : original_word tree s r B ≡ original_word tree s x.of B =
      eqb-true _ _ (and_right E _ t) ∙ ap (λ (n : ℕ). word_at s (8 * n + 16 * j + 4)) q.scoped.records_are ∙ x.len in
      let same : own_text tree text r ≡ own_text tree text x.of =
      sym (origin_says tree text s q.numbered r q.below q.has_its_text) ∙ ap (λ (z : ℕ). text_at text z (original_word tree s r B)) a
      ∙ ap (text_at text (original_word tree s x.of A)) b ∙ origin_says tree text s q.numbered x.of x.below x.has_its_text in
      let number : original_of tree s r ≡ original_of tree s x.of =
      q.numbered.number r q.below q.has_its_text ∙ same-original tree text r x.of x.below x.has_its_text same
      ∙ sym (q.numbered.number x.of x.below x.has_its_text) in
      ap (λ (n : ℕ). word_at s (name_slot_at n (original_of tree s r))) q.scoped.records_are
      ∙ ap (λ (o : ℕ). word_at s (name_slot_at (records tree) o)) number ∙ x.slot

  pub origin_below : original_of tree s r < records tree
  origin_below = rw (q.numbered.number r q.below q.has_its_text) (original-below tree text r q.below q.has_its_text)

  module _ {o : ℕ} (eo : o ≡ word_at s (original_at sc.records r)) where
    number_is : o ≡ original_of tree s r
    number_is = eo ∙ ap (λ (n : ℕ). word_at s (original_at n r)) q.scoped.records_are

    number-below : o < records tree
    number-below = rw number_is origin_below

    -- so its slot can be asked
    pub slot-inside : o < sc.records
    slot-inside = rw q.scoped.records_are number-below

    pub origin_inside : o * 32 + 32 ≤ length tree
    origin_inside = inside tree text q.good o number-below

    module _ {a n : ℕ} (ea : a ≡ word_of tree o A) (en : n ≡ word_of tree o B) where
      is-offset : a ≡ original_word tree s r A
      is-offset = ea ∙ ap (λ (z : ℕ). word_of tree z A) number_is

      is-length : n ≡ original_word tree s r B
      is-length = en ∙ ap (λ (z : ℕ). word_of tree z B) number_is

      pub origin_found : (k : StdOption Known) → FindsTold s sc o a n k → FindMeets text s sc (text_of tree text r A) k
      origin_found k m =
          subst (λ (u : List ℕ). FindMeets text s sc u k) origin_text
          ((rw (number_is, is-offset, is-length) at m) text told-words told-slot)

      pub origin_declared : (v : VarId) (constant : Bool) (s' : List ℕ) (d : StdOption Scope) → DeclaresTold o a n v constant sc s s' d
          → DeclareMeets text (original_of tree s r) (original_word tree s r A) (original_word tree s r B) v constant sc s s' d
      origin_declared v constant s' d m = (rw (number_is, is-offset, is-length) at m) text told-words told-slot
