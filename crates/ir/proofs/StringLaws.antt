-- The strings by the numbers of their texts: what their numbers and slots need, what a string more needs, and that a string is found by the slot of its text's number alone.
-- The string at a number's slot is the only one with a text of that number, so the slots of two strings lie apart. Assumes nothing.
use mathlib.Core.Path.{◌≡◌, sym, ap, ◌∙◌}
use mathlib.Core.Logic.{inl, inr}
use mathlib.Core.Bool.{Bool, true, false, ◌&&◌, false≢true}
use mathlib.Core.List.{List, [], ◌∷◌, ◌++◌}
use mathlib.Core.Option.{none, some}
use Prim.Native.Nat.{ℕ, ◌+◌, ◌*◌, ◌^◌, ◌≤◌, ◌<◌}
use native.Mathlib.Omega.{arith}
use lib.Dec.{eqb, ltb}
use lib.ListN.{length, get_or}
use borrow.Author.Tests.{eqb-true, eq-eqb, ltb-true, lt-ltb, le-ltb}
use Rattle.laws.specs.Splice.{splice}
use Rattle.laws.proofs.Tests.{and_left, and_right}
use Rattle.records.specs.Words.{word_at}
use Rattle.records.proofs.Apart.{word-apart}
use Rattle.records.proofs.DigestLaws.{same-equal}
use Rattle.records.proofs.TextLaws.{same-texts}
use Rattle.conversion.specs.Ir.{StringEntry, position, same_text}
use Rattle.ir.specs.declared.structs.Counters.{Counters}
use Rattle.ir.specs.Arena.{no_string, TellsApart, StringSlots}
use Rattle.ir.specs.Search.{string_is}
use Rattle.ir.proofs.LinkWrites.{LinkWritten, own_head, other-heads, last_link, old_links}
use Rattle.ir.proofs.SearchLaws.{numbered_more, position-only, position_nowhere}

abbrev pub same_string : StringEntry → StringEntry → Bool
same_string a b = same_text a.text b.text

-- the number of string i's text
abbrev pub text_numbers : (List ℕ → ℕ) → List StringEntry → ℕ → ℕ
text_numbers number xs i = number (get_or xs i no_string).text

-- ---- by its number, as the code tells it

module _ (l : List ℕ) (k : Counters) (o i : ℕ) where
  abbrev own : Bool
  own = eqb (word_at l (236 * k.records + 4 * i)) o

  pub number_beyond : k.strings ≤ i → false ≡ string_is l k o i
  unfolding string_is
  number_beyond h = ap (λ (b : Bool). b && own) (sym (le-ltb i k.strings h))

  pub number-within : i < k.strings → (w : ℕ) → w ≡ word_at l (236 * k.records + 4 * i) → eqb w o ≡ string_is l k o i
  unfolding string_is
  number-within h w e = ap (λ (x : ℕ). eqb x o) e ∙ ap (λ (b : Bool). b && own) (sym (lt-ltb i k.strings h))

module _ {number : List ℕ → ℕ} {n : ℕ} {xs : List StringEntry} {l : List ℕ} (h : StringSlots number n xs l) where
  -- ---- what stays

  -- the words at the strings' places and at their slots are all that is needed
  pub strings_stay : (l' : List ℕ) → ((i : ℕ) → i < length xs → word_at l' (236 * n + 4 * i) ≡ word_at l (236 * n + 4 * i))
      → ((i : ℕ) → i < length xs → word_at l' (280 * n + 4 * text_numbers number xs i) ≡ word_at l (280 * n + 4 * text_numbers number xs i)) → StringSlots number n xs l'
  strings_stay l' en es = record {
    has = h.has;
    numbered = λ i hi. en i hi ∙ h.numbered i hi;
    slot = λ i hi. es i hi ∙ h.slot i hi;
  }

  -- so a write before them leaves them, and so does one between the two regions
  pub strings-behind : (i : ℕ) (vs l' : List ℕ) → l' ≡ splice l i vs → i + length vs ≤ length l → i + length vs ≤ 236 * n → StringSlots number n xs l'
  strings-behind i vs l' e fit b =
      let stays : (p : ℕ) → 236 * n ≤ p → word_at l' p ≡ word_at l p = λ p q. ap (λ (r : List ℕ). word_at r p) e ∙ word-apart l i vs fit p (inr (omega arith)) in
      strings_stay l' (λ j hj. stays (236 * n + 4 * j) (omega arith)) (λ j hj. stays (280 * n + 4 * text_numbers number xs j) (omega arith))

  pub strings_around : length xs ≤ n → (i : ℕ) (vs l' : List ℕ) → l' ≡ splice l i vs → i + length vs ≤ length l → 240 * n ≤ i → i + length vs ≤ 280 * n
      → StringSlots number n xs l'
  strings_around most i vs l' e fit a b =
      strings_stay l'
      (λ j hj. ap (λ (r : List ℕ). word_at r (236 * n + 4 * j)) e ∙ word-apart l i vs fit (236 * n + 4 * j) (inl (omega arith)))
      (λ j hj. ap (λ (r : List ℕ). word_at r (280 * n + 4 * text_numbers number xs j)) e ∙ word-apart l i vs fit (280 * n + 4 * text_numbers number xs j) (inr (omega arith)))

  -- ---- a string more: its text's number behind the others', and its own at the slot of that

  pub strings-more : {m o : ℕ} {l' : List ℕ} → LinkWritten (236 * n) (280 * n) m o o l l' → m < 2 ^ 32 → o < 2 ^ 32 → (x : StringEntry) → number x.text ≡ o → o < n
      → m ≡ length xs → ((j : ℕ) → j < length xs → text_numbers number xs j ≡ o → ⊥) → StringSlots number n (xs ++ (x ∷ [])) l'
  strings-more {o = o} {l' = l'} w small low x eo inside count new = record {
    has = numbered_more no_string xs x (λ y i. number y.text < n) h.has (omega (arith, eo));
    numbered = numbered_more no_string xs x (λ y i. word_at l' (236 * n + 4 * i) ≡ number y.text) (λ j hj. old_links w small low j (omega arith) ∙ h.numbered j hj)
        (ap (λ (i : ℕ). word_at l' (236 * n + 4 * i)) (sym count) ∙ last_link w small low ∙ sym eo);
    slot = numbered_more no_string xs x (λ y i. word_at l' (280 * n + 4 * number y.text) ≡ i)
        (λ j hj. other-heads w small low (text_numbers number xs j) (new j hj) ∙ h.slot j hj)
        (ap (λ (i : ℕ). word_at l' (280 * n + 4 * i)) eo ∙ own_head w small low ∙ count);
  }

-- ---- the string i at the slot of the number of e's text: where its text has that number, e is found there, and else no string has it

module _ {number : List ℕ → ℕ} {xs : List StringEntry} {l : List ℕ} (k : Counters) (h : StringSlots number k.records xs l) (count : k.strings ≡ length xs)
    (e : StringEntry) (o i : ℕ) (eo : number e.text ≡ o) (ei : i ≡ word_at l (280 * k.records + 4 * o)) where
  abbrev there : Bool
  there = ltb i k.strings

  abbrev this : Bool
  this = eqb (word_at l (236 * k.records + 4 * i)) o

  only : (j : ℕ) → j < length xs → text_numbers number xs j ≡ o → j ≡ i
  only j hj q = sym (h.slot j hj) ∙ ap (λ (z : ℕ). word_at l (280 * k.records + 4 * z)) q ∙ sym ei

  -- a string of the same text has its number
  same_number : (j : ℕ) → same_string e (get_or xs j no_string) ≡ true → text_numbers number xs j ≡ o
  same_number j p = ap number (sym (same-equal e.text (get_or xs j no_string).text p)) ∙ eo

  pub string_found : TellsApart number k.records → o < k.records → string_is l k o i ≡ true → position (same_string e) xs ≡ some i
  unfolding string_is
  string_found apart inside q =
      let hi : i < length xs = omega (arith, ltb-true i k.strings (and_left there this q), count) in
      let own-number : text_numbers number xs i ≡ o = sym (h.numbered i hi) ∙ eqb-true (word_at l (236 * k.records + 4 * i)) o (and_right there this q) in
      let same : (get_or xs i no_string).text ≡ e.text = apart e.text (get_or xs i no_string).text (omega (arith, eo)) (own-number ∙ sym eo) in
      position-only (same_string e) no_string xs i hi (same-texts e.text (get_or xs i no_string).text (sym same)) (λ j hj p. only j hj (same_number j p))

  pub number_unused : string_is l k o i ≡ false → (j : ℕ) → j < length xs → text_numbers number xs j ≡ o → ⊥
  unfolding string_is
  number_unused q j hj p =
      let z : j ≡ i = only j hj p in
      let a : there ≡ true = lt-ltb i k.strings (omega (arith, count)) in
      let b : this ≡ true =
      eq-eqb (word_at l (236 * k.records + 4 * i)) o (ap (λ (x : ℕ). word_at l (236 * k.records + 4 * x)) (sym z) ∙ h.numbered j hj ∙ p) in
      false≢true (sym q ∙ rw (a, b))

  pub string_missing : string_is l k o i ≡ false → position (same_string e) xs ≡ none
  string_missing q = position_nowhere (same_string e) no_string xs (λ j hj p. number_unused q j hj (same_number j p))
