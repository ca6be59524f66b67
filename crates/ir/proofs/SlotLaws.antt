-- The slots of a function's labels: what a write before them leaves, what a label more needs, and that a label is found by its slot alone.
-- Slots of two labels lie apart, and a number that stands at a slot is the only one that its label has. Assumes nothing.
use mathlib.Core.Path.{◌≡◌, sym, ap, ◌∙◌}
use mathlib.Core.Logic.{◌⊎◌, inl, inr}
use mathlib.Core.Bool.{true, false, false≢true}
use mathlib.Core.List.{List, [], ◌∷◌, ◌++◌}
use mathlib.Core.Option.{none, some}
use Prim.Native.Nat.{ℕ, ◌+◌, ◌*◌, ◌≤◌, ◌<◌}
use native.Mathlib.Omega.{arith}
use lib.Dec.{eqb, leb}
use lib.ListN.{length, get_or}
use borrow.Author.Tests.{eqb-true, leb-true, leb-false, eq-eqb}
use Rattle.laws.specs.Splice.{splice}
use Rattle.laws.proofs.Tests.{tested, and_left, and_right}
use Rattle.records.specs.Words.{word_at}
use Rattle.records.proofs.Apart.{word-apart}
use Rattle.conversion.specs.Ir.{LabelName, position, same_label}
use Rattle.conversion.specs.Written.{bytes_of, word, encode_label}
use Rattle.ir.specs.Arena.{HasSlot, label_slot, no_label, LabelSlots}
use Rattle.ir.specs.Steps.{named}
use Rattle.ir.proofs.SearchLaws.{numbered_more, position-none, position-only, position_nowhere}

-- labels that are the same have one slot
same-slot : (n : ℕ) (x y : LabelName) → same_label x y ≡ true → label_slot n y ≡ label_slot n x
unfolding same_label
same-slot n x y e =
    let a : x.kind ≡ y.kind = eqb-true x.kind y.kind (and_left (eqb x.kind y.kind) (eqb x.opener y.opener) e) in
    let b : x.opener ≡ y.opener = eqb-true x.opener y.opener (and_right (eqb x.kind y.kind) (eqb x.opener y.opener) e) in
    rw (a, b)

-- others' lie apart: seven words are for each record
same-both : (x y : LabelName) → x.kind ≡ y.kind → x.opener ≡ y.opener → same_label x y ≡ true
unfolding same_label
same-both x y a b = rw (eq-eqb x.kind y.kind a, eq-eqb x.opener y.opener b)

slots_apart : (n : ℕ) (x y : LabelName) → HasSlot n x → HasSlot n y → same_label x y ≡ false
    → (label_slot n y + 4 ≤ label_slot n x) ⊎ (label_slot n x + 4 ≤ label_slot n y)
slots_apart n x y f g e =
    tested (leb (label_slot n y + 4) (label_slot n x)) (λ q. inl (leb-true (label_slot n y + 4) (label_slot n x) q))
    (λ q. tested (leb (label_slot n x + 4) (label_slot n y)) (λ p. inr (leb-true (label_slot n x + 4) (label_slot n y) p))
    (λ p.
    let u : label_slot n x < label_slot n y + 4 = leb-false (label_slot n y + 4) (label_slot n x) q in
    let v : label_slot n y < label_slot n x + 4 = leb-false (label_slot n x + 4) (label_slot n y) p in
    absurd (false≢true (sym e ∙ same-both x y (omega arith) (omega arith)))))

-- a label's number and its entry, as they are written
pub label_writes : (n kind opener m slot at : ℕ) (l l₁ l₂ : List ℕ) → slot ≡ label_slot n (named kind opener) → l₁ ≡ splice l slot (word m)
    → l₂ ≡ splice l₁ at (word kind ++ word opener) → l₂ ≡ splice (splice l (label_slot n (named kind opener)) (word m)) at (encode_label (named kind opener))
unfolding encode_label
label_writes n kind opener m slot at l l₁ l₂ es e₁ e₂ =
    e₂ ∙ ap (λ (r : List ℕ). splice r at (word kind ++ word opener)) (e₁ ∙ ap (λ (p : ℕ). splice l p (word m)) es)

module _ {n : ℕ} {xs : List LabelName} {l : List ℕ} (h : LabelSlots n xs l) where
  -- a write before the slots leaves them
  pub slots-behind : (i : ℕ) (vs l' : List ℕ) → l' ≡ splice l i vs → i + length vs ≤ length l → i + length vs ≤ 240 * n → LabelSlots n xs l'
  slots-behind i vs l' e fit b = record {
    has = h.has;
    number = λ j hj.
        ap (λ (m : List ℕ). word_at m (label_slot n (get_or xs j no_label))) e
        ∙ word-apart l i vs fit (label_slot n (get_or xs j no_label)) (inr (omega arith)) ∙ h.number j hj;
  }

  -- and so does a word at the slot of a label that is not among them
  pub slots-beside : (x : LabelName) (m : ℕ) (l' : List ℕ) → HasSlot n x → position (same_label x) xs ≡ none → l' ≡ splice l (label_slot n x) (word m)
      → label_slot n x + 4 ≤ length l → LabelSlots n xs l'
  unfolding word bytes_of
  slots-beside x m l' f new e fit = record {
    has = h.has;
    number = λ j hj.
        ap (λ (r : List ℕ). word_at r (label_slot n (get_or xs j no_label))) e
        ∙ word-apart l (label_slot n x) (word m) fit (label_slot n (get_or xs j no_label))
        (slots_apart n x (get_or xs j no_label) f (h.has j hj) (position-none (same_label x) no_label xs new j hj))
        ∙ h.number j hj;
  }

  -- a label more, whose number stands at its slot
  pub slots-grown : (x : LabelName) → HasSlot n x → word_at l (label_slot n x) ≡ length xs → LabelSlots n (xs ++ (x ∷ [])) l
  slots-grown x f e = record {
    has = numbered_more no_label xs x (λ y i. HasSlot n y) h.has f;
    number = numbered_more no_label xs x (λ y i. word_at l (label_slot n y) ≡ i) h.number e;
  }

  -- the number at a label's slot is its own, if it has one: where the label of that number is this one, it is found there, and else nowhere
  module _ (x : LabelName) (i : ℕ) (e : i ≡ word_at l (label_slot n x)) where
    only : (j : ℕ) → j < length xs → same_label x (get_or xs j no_label) ≡ true → j ≡ i
    only j hj q = sym (h.number j hj) ∙ ap (word_at l) (same-slot n x (get_or xs j no_label) q) ∙ sym e

    pub slot-found : i < length xs → same_label x (get_or xs i no_label) ≡ true → position (same_label x) xs ≡ some i
    slot-found hi q = position-only (same_label x) no_label xs i hi q only

    pub slot_nowhere : (i < length xs → same_label x (get_or xs i no_label) ≡ false) → position (same_label x) xs ≡ none
    slot_nowhere q =
        position_nowhere (same_label x) no_label xs (λ j hj p.
        let z : j ≡ i = only j hj p in
        false≢true (sym (q (omega arith)) ∙ ap (λ (m : ℕ). same_label x (get_or xs m no_label)) (sym z) ∙ p))
