-- The functions in chains: none entered yet, one more by its key and one more by its name, with what they leave as it was; and the chains stay where their words do.
-- A function's record has no text, so its slots are apart from those of texts and of their numbers. Assumes nothing.
use mathlib.Core.Path.{◌≡◌, refl, sym, ap, ◌∙◌}
use mathlib.Core.Logic.{◌⊎◌, inl, inr, ⊎_elim}
use mathlib.Core.Bool.{true, false, ◌&&◌, false≢true}
use mathlib.Core.List.{List}
use Prim.Native.Nat.{ℕ, zero, suc, ◌+◌, ◌*◌, ◌≤◌, ◌<◌}
use native.Mathlib.Nat.{eq-or-lt_of_le}
use native.Mathlib.Numerals.{add-one}
use native.Mathlib.Omega.{arith}
use lib.Dec.{eqb, ltb}
use lib.ListN.{length, get_or}
use borrow.Author.Count.{below_more}
use borrow.Author.Tests.{eq-eqb, eqb-true, eqb-false, ltb-true, ltb-false}
use Rattle.laws.specs.Chain.{link_to}
use Rattle.laws.specs.Splice.{splice}
use Rattle.laws.proofs.ChainLaws.{head_none, head_here, head_other, link_within}
use Rattle.laws.proofs.FixLaws.{pick_yes, pick_no}
use Rattle.laws.proofs.Splices.{length-splice}
use Rattle.laws.proofs.Tests.{tested, and_left, and_right}
use Rattle.records.specs.Chains.{bucket_of, Cleared}
use Rattle.records.specs.Digest.{digest_end}
use Rattle.records.specs.Good.{Good}
use Rattle.records.specs.Kinds.{kind_function}
use Rattle.records.specs.Words.{byte_at, word_at, kind_of, word_of, bytes_of, word, records, A}
use Rattle.records.proofs.Apart.{byte-apart, word-apart, word-there, word_back, word_same}
use Rattle.records.proofs.ChainedLaws as chained
use Rattle.conversion.specs.Expressions.{is_mangled}
use Rattle.syntax.specs.Places.{FunctionAt, function_of}
use Rattle.syntax.proofs.Records.{name_record}
use Rattle.texts.specs.Texts.{has_text, has_own, original, original_at, text_digest_at, Numbered}
use Rattle.texts.proofs.TextLaws.{numbered-stays, original-below}
use Rattle.keys.specs.Keys.{records_below, function_places, key_slot_at, Mapped, Chain, chained_before, key_head_at, name_head_at, is_function, key_roll, key_bucket, name_bucket, KeyDigests, ByKey, ByName, Chaining, Keyed, ChainKeeps}
use Rattle.keys.proofs.FunctionLaws.{listed-function, listed-count, count-function, count-rises}
use Rattle.keys.proofs.KeySearch.{records-most}
use Rattle.keys.proofs.SlotLaws.{slots_stay, zero_word}

-- ---- words that are written

-- the words at p and q do not meet
abbrev Away : ℕ → ℕ → Type 0
Away q p = (q + 4 ≤ p) ⊎ (p + 4 ≤ q)

-- two slots of a region
slot_away : (at i j : ℕ) → (i ≡ j → ⊥) → Away (at + 4 * i) (at + 4 * j)
slot_away at i j n =
    tested (ltb i j)
    (λ t. inl (omega (arith, ltb-true i j t)))
    (λ t. inr (omega (arith, ltb-false i j t, n)))

module _ (s : List ℕ) (p w : ℕ) (fit : p + 4 ≤ length s) (s' : List ℕ) (e : s' ≡ splice s p (word w)) where
  fits : p + length (word w) ≤ length s
  unfolding word bytes_of
  fits = fit

  write-long : length s' ≡ length s
  write-long = ap length e ∙ length-splice s p (word w) fits

  write_byte : (i : ℕ) → (i < p) ⊎ (p + 4 ≤ i) → get_or s' i 0 ≡ get_or s i 0
  unfolding word bytes_of
  write_byte i h = ap (λ (x : List ℕ). get_or x i 0) e ∙ byte-apart s p (word w) fits i h

  write_away : (q : ℕ) → Away q p → word_at s' q ≡ word_at s q
  unfolding word bytes_of
  write_away q h = ap (λ (x : List ℕ). word_at x q) e ∙ word-apart s p (word w) fits q h

  write-there : w < 4294967296 → word_at s' p ≡ w
  unfolding word bytes_of word_at byte_at
  write-there h = ap (λ (x : List ℕ). word_at x p) e ∙ word-there s p (word w) fits 0 p (omega arith) (omega arith) ∙ word_back w h

-- a number before the others of its bucket
module _ (s : List ℕ) (head link next : ℕ) (hh : head + 4 ≤ length s) (hl : link + 4 ≤ length s) (s' : List ℕ) (e : s' ≡ chained_before head link next s) where
  abbrev half : List ℕ
  half = splice s link (word (word_at s head))

  half_long : length half ≡ length s
  half_long = write-long s link (word_at s head) hl half refl

  half_fit : head + 4 ≤ length half
  half_fit = omega (arith, half_long)

  chained-long : length s' ≡ length s
  chained-long = write-long half head next half_fit s' e ∙ half_long

  chained_away : (q : ℕ) → Away q link → Away q head → word_at s' q ≡ word_at s q
  chained_away q a b = write_away half head next half_fit s' e q b ∙ write_away s link (word_at s head) hl half refl q a

  chained_head : next < 4294967296 → word_at s' head ≡ next
  chained_head h = write-there half head next half_fit s' e h

  chained_link : word_at s head < 4294967296 → Away link head → word_at s' link ≡ word_at s head
  chained_link h a = write_away half head next half_fit s' e link a ∙ write-there s link (word_at s head) hl half refl h

-- ---- what is left as it was

keeps_none : (tree s : List ℕ) → ChainKeeps tree s s
keeps_none tree s = record { long = refl; before = λ i h. refl; behind = λ i h. refl }

pub keeps_then : (tree s s₁ s₂ : List ℕ) → ChainKeeps tree s s₁ → ChainKeeps tree s₁ s₂ → ChainKeeps tree s s₂
keeps_then tree s s₁ s₂ a b = record {
  long = b.long ∙ a.long;
  before = λ i h. b.before i h ∙ a.before i h;
  behind = λ i h. b.behind i h ∙ a.behind i h;
}

-- a word of these regions is written
keeps_word : (tree s : List ℕ) (p w : ℕ) → p + 4 ≤ length s → 40 * records tree ≤ p → p + 4 ≤ 60 * records tree → (s' : List ℕ) → s' ≡ splice s p (word w) → ChainKeeps tree s s'
keeps_word tree s p w fit low high s' e = record {
  long = write-long s p w fit s' e;
  before = λ i h. write_byte s p w fit s' e i (inl (omega arith));
  behind = λ i h. write_byte s p w fit s' e i (inr (omega arith));
}

-- a link and a head are
keeps_chained : (tree s : List ℕ) (head link next : ℕ) → head + 4 ≤ length s → link + 4 ≤ length s → 40 * records tree ≤ head → head + 4 ≤ 60 * records tree
    → 40 * records tree ≤ link → link + 4 ≤ 60 * records tree → (s' : List ℕ) → s' ≡ chained_before head link next s → ChainKeeps tree s s'
keeps_chained tree s head link next hh hl a b c d s' e =
    let m : List ℕ = splice s link (word (word_at s head)) in
    let long : length m ≡ length s = write-long s link (word_at s head) hl m refl in
    keeps_then tree s m s' (keeps_word tree s link (word_at s head) hl c d m refl) (keeps_word tree m head next (omega (arith, long)) a b s' e)

-- ---- chains

module _ (bucket head_at link_at : ℕ → ℕ) (n : ℕ) where
  chain-stays : (s s' : List ℕ) (r : ℕ) → ((b : ℕ) → b < n → word_at s' (head_at b) ≡ word_at s (head_at b)) → ((k : ℕ) → k < r → word_at s' (link_at k) ≡ word_at s (link_at k))
      → Chain bucket head_at link_at n r s → Chain bucket head_at link_at n r s'
  chain-stays s s' r heads links c = record { heads = λ b h. heads b h ∙ c.heads b h; links = λ k h m. links k h ∙ c.links k h m }

  chain-none : (s : List ℕ) → ((b : ℕ) → b < n → word_at s (head_at b) ≡ 0) → Chain bucket head_at link_at n 0 s
  chain-none s z = record { heads = λ b h. z b h ∙ head_none bucket b; links = λ k h. absurd (omega arith) }

  -- number r is in no bucket
  chain-past : (s : List ℕ) (r : ℕ) → bucket r ≡ n → Chain bucket head_at link_at n r s → Chain bucket head_at link_at n (r + 1) s
  chain-past s r e c = record {
    heads = λ b h. c.heads b h ∙ head_other bucket r b (λ q. omega (arith, e));
    links = below_more (λ (k : ℕ). bucket k < n → word_at s (link_at k) ≡ link_to bucket k (bucket k)) r c.links (λ h. absurd (omega (arith, e)));
  }

  -- number r goes before the others of its bucket
  chain_more : (s s' : List ℕ) (r b : ℕ) → b ≡ bucket r → b < n → word_at s' (head_at b) ≡ r + 1 → word_at s' (link_at r) ≡ word_at s (head_at b)
      → ((c : ℕ) → c < n → (c ≡ b → ⊥) → word_at s' (head_at c) ≡ word_at s (head_at c)) → ((k : ℕ) → k < r → word_at s' (link_at k) ≡ word_at s (link_at k))
      → Chain bucket head_at link_at n r s → Chain bucket head_at link_at n (r + 1) s'
  chain_more s s' r b eb hb head link heads links c = record {
    heads = λ x hx.
        tested (eqb x b)
        (λ t. let q : x ≡ b = eqb-true x b t in rw q (head ∙ head_here bucket r b (sym eb)))
        (λ t. let ne : x ≡ b → ⊥ = eqb-false x b t in heads x hx ne ∙ c.heads x hx ∙ head_other bucket r x (λ q. ne (sym q ∙ sym eb)));
    links =
        below_more (λ (k : ℕ). bucket k < n → word_at s' (link_at k) ≡ link_to bucket k (bucket k)) r
        (λ k h m. links k h ∙ c.links k h m)
        (λ m. link ∙ c.heads b hb ∙ ap (link_to bucket r) eb);
  }

-- ---- buckets

module _ (tree text : List ℕ) (f : ℕ) where
  pub is_function_lem : FunctionAt tree f → is_function tree f ≡ true
  is_function_lem at = eq-eqb (kind_of tree f) kind_function at.kind

  pub function-here : f < records tree → is_function tree f ≡ true → FunctionAt tree f
  function-here h t = record { below = h; kind = eqb-true (kind_of tree f) kind_function t }

  key_bucket-none : is_function tree f ≡ false → key_bucket tree text f ≡ records tree
  key_bucket-none e = chained.bucket_other (is_function tree) (λ k. digest_end (key_roll tree text k)) (records tree) f e

  name_bucket-none : (is_function tree f && is_mangled (function_of tree text f)) ≡ false → name_bucket tree text f ≡ records tree
  unfolding name_bucket
  name_bucket-none e = pick_no _ (original tree text (word_of tree f A)) (records tree) e

  pub name_bucket-is : is_function tree f ≡ true → is_mangled (function_of tree text f) ≡ true → name_bucket tree text f ≡ original tree text (word_of tree f A)
  unfolding name_bucket
  name_bucket-is t m =
      pick_yes (is_function tree f && is_mangled (function_of tree text f)) (original tree text (word_of tree f A)) (records tree) (rw t m)

-- a record in a chain of names is a mangled function
pub name_bucket-here : (tree text : List ℕ) (k : ℕ) → name_bucket tree text k < records tree → (is_function tree k ≡ true) × (is_mangled (function_of tree text k) ≡ true)
name_bucket-here tree text k h =
    tested (is_function tree k && is_mangled (function_of tree text k))
    (λ t. (and_left (is_function tree k) _ t, and_right (is_function tree k) _ t))
    (λ t. absurd (omega (arith, name_bucket-none tree text k t)))

-- the number of a function's name, as it is read from the scratch
module _ (tree text : List ℕ) (good : Good tree text) (f : ℕ) (at : FunctionAt tree f) where
  pub name-has : has_own tree (word_of tree f A) ≡ true
  unfolding has_text
  name-has = rw (name_record tree text good f at).kind refl

  module _ (s : List ℕ) (r : ℕ) (e : r ≡ word_of tree f A) where
    pub name-inside : 72 * records tree ≤ length s → original_at (records tree) r + 4 ≤ length s
    name-inside room = omega (arith, e, (name_record tree text good f at).below)

    pub name-number : Numbered tree text s → (o : ℕ) → o ≡ word_at s (original_at (records tree) r) → (o ≡ original tree text (word_of tree f A)) × (o < records tree)
    name-number numbered o w =
        let below = (name_record tree text good f at).below in
        let z : o ≡ original tree text (word_of tree f A) = w ∙ ap (λ (x : ℕ). word_at s (original_at (records tree) x)) e ∙ numbered.number (word_of tree f A) below name-has in
        (z, rw z (original-below tree text (word_of tree f A) below name-has))

-- a text's slot is not a function's
not_own : (tree : List ℕ) (f r : ℕ) → FunctionAt tree f → has_own tree r ≡ true → r ≡ f → ⊥
unfolding has_text
not_own tree f r at t e =
    let none : has_own tree f ≡ false = rw at.kind refl in
    false≢true (sym none ∙ ap (has_own tree) (sym e) ∙ t)

-- ---- what stays

mapped_stays : (tree text s s' : List ℕ) → length s' ≡ length s
    → ((j : ℕ) → j < records tree → word_at s' (4 * j) ≡ word_at s (4 * j))
    → ((r : ℕ) → r < records tree → has_own tree r ≡ true → word_at s' (original_at (records tree) r) ≡ word_at s (original_at (records tree) r))
    → ((r : ℕ) → r < records tree → has_own tree r ≡ true → word_at s' (key_slot_at (records tree) r) ≡ word_at s (key_slot_at (records tree) r))
    → ((r : ℕ) → r < records tree → has_own tree r ≡ true → word_at s' (text_digest_at (records tree) r) ≡ word_at s (text_digest_at (records tree) r))
    → Mapped tree text s → Mapped tree text s'
mapped_stays tree text s s' long listed numbers slots digests m = record {
  good = m.good;
  numbered = numbered-stays tree text s s' numbers digests m.numbered;
  distinct = m.distinct;
  listed = record {
    room = omega (arith, m.listed.room, long);
    listed = λ j h. listed j (omega (arith, records-most tree (records tree))) ∙ m.listed.listed j h;
  };
  slots = slots_stay tree text s s' slots _ m.slots;
}

-- what is mapped, and the chains beside it
with_chains : (tree text s : List ℕ) (k m : ℕ) → Mapped tree text s → KeyDigests tree text s k → ByKey tree text s k → ByName tree text s m → Chaining tree text s k m
with_chains tree text s k m p digests by_key by_name = record {
  good = p.good;
  numbered = p.numbered;
  distinct = p.distinct;
  listed = p.listed;
  slots = p.slots;
  digests = digests;
  by_key = by_key;
  by_name = by_name;
}

still_mapped : {tree text s : List ℕ} {k m : ℕ} → Chaining tree text s k m → Mapped tree text s
still_mapped c = record { good = c.good; numbered = c.numbered; distinct = c.distinct; listed = c.listed; slots = c.slots }

-- the words of the list, and all from the texts' numbers to the slots of names, are as they were
pub keyed-kept : (tree text s s' : List ℕ) → length s' ≡ length s → ((p : ℕ) → p + 4 ≤ 4 * records tree → word_at s' p ≡ word_at s p)
    → ((p : ℕ) → 40 * records tree ≤ p → p + 4 ≤ 60 * records tree → word_at s' p ≡ word_at s p) → Keyed tree text s → Keyed tree text s'
keyed-kept tree text s s' long listed same k =
    let n : ℕ = records tree in
    with_chains tree text s' n n
    (mapped_stays tree text s s' long (λ j h. listed (4 * j) (omega arith)) (λ r h t. same (original_at n r) (omega arith) (omega arith))
    (λ r h t. same (key_slot_at n r) (omega arith) (omega arith)) (λ r h t. same (text_digest_at n r) (omega arith) (omega arith)) (still_mapped k))
    (λ f h at. same (text_digest_at n f) (omega arith) (omega arith) ∙ k.digests f h at)
    (chain-stays (key_bucket tree text) (key_head_at n) (original_at n) n s s' n (λ b h. same (key_head_at n b) (omega arith) (omega arith))
    (λ r h. same (original_at n r) (omega arith) (omega arith)) k.by_key)
    (chain-stays (name_bucket tree text) (name_head_at n) (key_slot_at n) n s s' n (λ b h. same (name_head_at n b) (omega arith) (omega arith))
    (λ r h. same (key_slot_at n r) (omega arith) (omega arith)) k.by_name)

-- ---- the heads are cleared

cleared-word : (from to : ℕ) (s s' : List ℕ) → Cleared from to s s' → (p : ℕ) → from ≤ p → p + 4 ≤ to → word_at s' p ≡ 0
cleared-word from to s s' c p a b =
    zero_word s' p (c.zero p a (omega arith)) (c.zero (p + 1) (omega arith) (omega arith)) (c.zero (p + 2) (omega arith) (omega arith)) (c.zero (p + 3) (omega arith) (omega arith))

cleared_away : (from to : ℕ) (s s' : List ℕ) → Cleared from to s s' → (p : ℕ) → (p + 4 ≤ from) ⊎ (to ≤ p) → word_at s' p ≡ word_at s p
cleared_away from to s s' c p (inl h) =
    word_same s' p s p (c.before p (omega arith)) (c.before (p + 1) (omega arith)) (c.before (p + 2) (omega arith)) (c.before (p + 3) (omega arith))
cleared_away from to s s' c p (inr h) =
    word_same s' p s p (c.behind p (omega arith)) (c.behind (p + 1) (omega arith)) (c.behind (p + 2) (omega arith)) (c.behind (p + 3) (omega arith))

module _ (tree text s s₁ s₂ : List ℕ) (m : Mapped tree text s) (c₁ : Cleared (48 * records tree) (48 * records tree + 4 * records tree) s s₁)
    (c₂ : Cleared (56 * records tree) (56 * records tree + 4 * records tree) s₁ s₂) where
  cleared-stays : (p : ℕ) → (p + 4 ≤ 48 * records tree) ⊎ (52 * records tree ≤ p) → (p + 4 ≤ 56 * records tree) ⊎ (60 * records tree ≤ p) → word_at s₂ p ≡ word_at s p
  cleared-stays p a b = cleared_away _ _ s₁ s₂ c₂ p (behind b) ∙ cleared_away _ _ s s₁ c₁ p (between a)
    where
      between : (p + 4 ≤ 48 * records tree) ⊎ (52 * records tree ≤ p) → (p + 4 ≤ 48 * records tree) ⊎ (48 * records tree + 4 * records tree ≤ p)
      between (inl h) = inl h
      between (inr h) = inr (omega arith)

      behind : (p + 4 ≤ 56 * records tree) ⊎ (60 * records tree ≤ p) → (p + 4 ≤ 56 * records tree) ⊎ (56 * records tree + 4 * records tree ≤ p)
      behind (inl h) = inl h
      behind (inr h) = inr (omega arith)

  pub chaining_none : Chaining tree text s₂ 0 0
  chaining_none =
      with_chains tree text s₂ 0 0
      (mapped_stays tree text s s₂ (c₂.long ∙ c₁.long)
      (λ j h. cleared-stays (4 * j) (inl (omega arith)) (inl (omega arith)))
      (λ r h t. cleared-stays (original_at (records tree) r) (inl (omega arith)) (inl (omega arith)))
      (λ r h t. cleared-stays (key_slot_at (records tree) r) (inl (omega arith)) (inl (omega arith)))
      (λ r h t. cleared-stays (text_digest_at (records tree) r) (inr (omega arith)) (inl (omega arith))) m)
      (λ f h. absurd (omega arith))
      (chain-none (key_bucket tree text) (key_head_at (records tree)) (original_at (records tree)) (records tree) s₂
      (λ b h. cleared_away _ _ s₁ s₂ c₂ (key_head_at (records tree) b) (inl (omega arith)) ∙ cleared-word _ _ s s₁ c₁ (key_head_at (records tree) b) (omega arith) (omega arith)))
      (chain-none (name_bucket tree text) (name_head_at (records tree)) (key_slot_at (records tree)) (records tree) s₂
      (λ b h. cleared-word _ _ s₁ s₂ c₂ (name_head_at (records tree) b) (omega arith) (omega arith)))

-- ---- record r is passed

module _ (tree text s : List ℕ) where
  pub passed-other : (r : ℕ) → is_function tree r ≡ false → Chaining tree text s r r → Chaining tree text s (r + 1) (r + 1)
  passed-other r e c =
      with_chains tree text s (r + 1) (r + 1)
      (still_mapped c)
      (below_more (λ (f : ℕ). FunctionAt tree f → word_at s (text_digest_at (records tree) f) ≡ key_roll tree text f) r c.digests
      (λ at. absurd (false≢true (sym e ∙ is_function_lem tree text r at))))
      (chain-past (key_bucket tree text) (key_head_at (records tree)) (original_at (records tree)) (records tree) s r (key_bucket-none tree text r e) c.by_key)
      (chain-past (name_bucket tree text) (name_head_at (records tree)) (key_slot_at (records tree)) (records tree) s r
      (name_bucket-none tree text r (rw e refl)) c.by_name)

  -- a function that is not mangled is in no chain of names
  pub passed_plain : (r : ℕ) → is_mangled (function_of tree text r) ≡ false → Chaining tree text s (r + 1) r → Chaining tree text s (r + 1) (r + 1)
  passed_plain r e c =
      with_chains tree text s (r + 1) (r + 1)
      (still_mapped c)
      c.digests
      c.by_key
      (chain-past (name_bucket tree text) (name_head_at (records tree)) (key_slot_at (records tree)) (records tree) s r
      (name_bucket-none tree text r (tested (is_function tree r) (λ t. rw (t, e) refl) (λ t. rw t refl))) c.by_name)

-- ---- function f by its key: s₁ is the scratch once the digest is written

module _ (tree text s s₁ s' : List ℕ) (f d b : ℕ) (c : Chaining tree text s f f) (at : FunctionAt tree f) (hb : b < records tree)
    (e₁ : s₁ ≡ splice s (text_digest_at (records tree) f) (word d)) (e : s' ≡ chained_before (key_head_at (records tree) b) (original_at (records tree) f) (f + 1) s₁) where
  room : 72 * records tree ≤ length s
  room = c.listed.room

  fit₁ : text_digest_at (records tree) f + 4 ≤ length s
  fit₁ = omega (arith, room, at.below)

  long₁ : length s₁ ≡ length s
  long₁ = write-long s (text_digest_at (records tree) f) d fit₁ s₁ e₁

  fit_head : key_head_at (records tree) b + 4 ≤ length s₁
  fit_head = omega (arith, room, long₁)

  fit_link : original_at (records tree) f + 4 ≤ length s₁
  fit_link = omega (arith, room, long₁, at.below)

  key_long : length s' ≡ length s
  key_long = chained-long s₁ (key_head_at (records tree) b) (original_at (records tree) f) (f + 1) fit_head fit_link s' e ∙ long₁

  pub keeps_key : ChainKeeps tree s s'
  keeps_key =
      keeps_then tree s s₁ s'
      (keeps_word tree s (text_digest_at (records tree) f) d fit₁ (omega arith) (omega (arith, at.below)) s₁ e₁)
      (keeps_chained tree s₁ (key_head_at (records tree) b) (original_at (records tree) f) (f + 1) fit_head fit_link (omega arith) (omega arith) (omega arith) (omega (arith, at.below)) s' e)

  away₁ : (q : ℕ) → Away q (text_digest_at (records tree) f) → word_at s₁ q ≡ word_at s q
  away₁ = write_away s (text_digest_at (records tree) f) d fit₁ s₁ e₁

  away₂ : (q : ℕ) → Away q (original_at (records tree) f) → Away q (key_head_at (records tree) b) → word_at s' q ≡ word_at s₁ q
  away₂ = chained_away s₁ (key_head_at (records tree) b) (original_at (records tree) f) (f + 1) fit_head fit_link s' e

  away : (q : ℕ) → Away q (text_digest_at (records tree) f) → Away q (original_at (records tree) f) → Away q (key_head_at (records tree) b) → word_at s' q ≡ word_at s q
  away q x y z = away₂ q y z ∙ away₁ q x

  key_mapped : Mapped tree text s'
  key_mapped =
      mapped_stays tree text s s' key_long
      (λ j h. away (4 * j) (inl (omega arith)) (inl (omega arith)) (inl (omega arith)))
      (λ r h t. away (original_at (records tree) r) (inl (omega arith)) (slot_away (40 * records tree) r f (not_own tree f r at t)) (inl (omega arith)))
      (λ r h t. away (key_slot_at (records tree) r) (inl (omega arith)) (inr (omega (arith, at.below))) (inl (omega arith)))
      (λ r h t. away (text_digest_at (records tree) r) (slot_away (52 * records tree) r f (not_own tree f r at t)) (inr (omega (arith, at.below))) (inr (omega (arith, hb))))
      (still_mapped c)

  module _ (ed : d ≡ key_roll tree text f) (hd : d < 4294967296) (eb : b ≡ bucket_of (records tree) (digest_end d)) where
    digest-there : word_at s' (text_digest_at (records tree) f) ≡ key_roll tree text f
    digest-there =
        away₂ (text_digest_at (records tree) f) (inr (omega (arith, at.below))) (inr (omega (arith, hb)))
        ∙ write-there s (text_digest_at (records tree) f) d fit₁ s₁ e₁ hd ∙ ed

    bucket_is : b ≡ key_bucket tree text f
    bucket_is =
        chained.bucket_told (is_function tree) (λ k. digest_end (key_roll tree text k)) (records tree) f (digest_end d) b (is_function_lem tree text f at) (ap digest_end ed) eb

    head_same : word_at s₁ (key_head_at (records tree) b) ≡ word_at s (key_head_at (records tree) b)
    head_same = away₁ (key_head_at (records tree) b) (inl (omega arith))

    head_fits : word_at s₁ (key_head_at (records tree) b) < 4294967296
    head_fits = omega (arith, link_within (key_bucket tree text) f b _ (head_same ∙ c.by_key.heads b hb), at.below, c.good.few)

    pub chained_key : Chaining tree text s' (f + 1) f
    chained_key =
        with_chains tree text s' (f + 1) f
        key_mapped
        (below_more (λ (g : ℕ). FunctionAt tree g → word_at s' (text_digest_at (records tree) g) ≡ key_roll tree text g) f
        (λ g h x.
        away (text_digest_at (records tree) g) (inl (omega arith)) (inr (omega (arith, at.below))) (inr (omega (arith, hb)))
        ∙ c.digests g h x)
        (λ x. digest-there))
        (chain_more (key_bucket tree text) (key_head_at (records tree)) (original_at (records tree)) (records tree) s s' f b bucket_is hb
        (chained_head s₁ (key_head_at (records tree) b) (original_at (records tree) f) (f + 1) fit_head fit_link s' e (omega (arith, at.below, c.good.few)))
        (chained_link s₁ (key_head_at (records tree) b) (original_at (records tree) f) (f + 1) fit_head fit_link s' e head_fits (inl (omega (arith, at.below))) ∙ head_same)
        (λ x hx ne. away (key_head_at (records tree) x) (inl (omega arith)) (inr (omega (arith, at.below))) (slot_away (48 * records tree) x b ne))
        (λ k h. away (original_at (records tree) k) (inl (omega (arith, at.below))) (inl (omega arith)) (inl (omega (arith, at.below))))
        c.by_key)
        (chain-stays (name_bucket tree text) (name_head_at (records tree)) (key_slot_at (records tree)) (records tree) s s' f
        (λ x hx. away (name_head_at (records tree) x) (inr (omega (arith, at.below))) (inr (omega (arith, at.below))) (inr (omega (arith, hb))))
        (λ k h. away (key_slot_at (records tree) k) (inl (omega (arith, at.below))) (inr (omega (arith, at.below))) (inl (omega (arith, at.below))))
        c.by_name)

-- ---- function f by its name

module _ (tree text s s' : List ℕ) (f o : ℕ) (c : Chaining tree text s (f + 1) f) (at : FunctionAt tree f) (mangled : is_mangled (function_of tree text f) ≡ true)
    (eo : o ≡ original tree text (word_of tree f A)) (ho : o < records tree) (e : s' ≡ chained_before (name_head_at (records tree) o) (key_slot_at (records tree) f) (f + 1) s) where
  name-fit_head : name_head_at (records tree) o + 4 ≤ length s
  name-fit_head = omega (arith, c.listed.room)

  name-fit_link : key_slot_at (records tree) f + 4 ≤ length s
  name-fit_link = omega (arith, c.listed.room, at.below)

  pub keeps_name : ChainKeeps tree s s'
  keeps_name =
      keeps_chained tree s (name_head_at (records tree) o) (key_slot_at (records tree) f) (f + 1) name-fit_head name-fit_link (omega arith) (omega arith) (omega arith) (omega (arith, at.below)) s' e

  name_away : (q : ℕ) → Away q (key_slot_at (records tree) f) → Away q (name_head_at (records tree) o) → word_at s' q ≡ word_at s q
  name_away = chained_away s (name_head_at (records tree) o) (key_slot_at (records tree) f) (f + 1) name-fit_head name-fit_link s' e

  name_head_fits : word_at s (name_head_at (records tree) o) < 4294967296
  name_head_fits = omega (arith, link_within (name_bucket tree text) f o _ (c.by_name.heads o ho), at.below, c.good.few)

  pub chained-name : Chaining tree text s' (f + 1) (f + 1)
  chained-name =
      with_chains tree text s' (f + 1) (f + 1)
      (mapped_stays tree text s s'
      (chained-long s (name_head_at (records tree) o) (key_slot_at (records tree) f) (f + 1) name-fit_head name-fit_link s' e)
      (λ j h. name_away (4 * j) (inl (omega arith)) (inl (omega arith)))
      (λ r h t. name_away (original_at (records tree) r) (inl (omega arith)) (inl (omega arith)))
      (λ r h t. name_away (key_slot_at (records tree) r) (slot_away (44 * records tree) r f (not_own tree f r at t)) (inl (omega arith)))
      (λ r h t. name_away (text_digest_at (records tree) r) (inr (omega (arith, at.below))) (inl (omega arith)))
      (still_mapped c))
      (λ g h x. name_away (text_digest_at (records tree) g) (inr (omega (arith, at.below))) (inl (omega (arith, x.below))) ∙ c.digests g h x)
      (chain-stays (key_bucket tree text) (key_head_at (records tree)) (original_at (records tree)) (records tree) s s' (f + 1)
      (λ x hx. name_away (key_head_at (records tree) x) (inr (omega (arith, at.below))) (inl (omega arith)))
      (λ k h. name_away (original_at (records tree) k) (inl (omega (arith, at.below))) (inl (omega (arith, at.below))))
      c.by_key)
      (chain_more (name_bucket tree text) (name_head_at (records tree)) (key_slot_at (records tree)) (records tree) s s' f o
      (eo ∙ sym (name_bucket-is tree text f (is_function_lem tree text f at) mangled)) ho
      (chained_head s (name_head_at (records tree) o) (key_slot_at (records tree) f) (f + 1) name-fit_head name-fit_link s' e (omega (arith, at.below, c.good.few)))
      (chained_link s (name_head_at (records tree) o) (key_slot_at (records tree) f) (f + 1) name-fit_head name-fit_link s' e name_head_fits (inl (omega (arith, at.below))))
      (λ x hx ne. name_away (name_head_at (records tree) x) (inr (omega (arith, at.below))) (slot_away (56 * records tree) x o ne))
      (λ k h. name_away (key_slot_at (records tree) k) (inl (omega arith)) (inl (omega (arith, at.below))))
      c.by_name)

-- ---- all functions

-- the loop: the functions at the places below j of their list are passed, and so are all records below `up_to`
pub record Passing (tree text s₀ s : List ℕ) (j : ℕ) : Type 0 where
  pub up_to : ℕ
  pub below : up_to ≤ records tree
  pub counted : length (records_below tree up_to) ≡ j
  pub chaining : Chaining tree text s up_to up_to
  pub keeps : ChainKeeps tree s₀ s

module _ (tree text s : List ℕ) where
  pub passing_none : Chaining tree text s 0 0 → Passing tree text s s 0
  unfolding records_below
  passing_none c = record { up_to = 0; below = omega arith; counted = refl; chaining = c; keeps = keeps_none tree s }

  -- records that are no functions are passed over: there are no more functions below q than below r
  chained-to : (q r : ℕ) → r ≤ q → length (records_below tree q) ≤ length (records_below tree r) → Chaining tree text s r r → Chaining tree text s q q
  chained-to zero r h e c =
      let z : r ≡ 0 = omega arith in
      rw z at c
  chained-to (suc q) r h e c =
      ⊎_elim
      (λ (z : r ≡ suc q). rw z at c)
      (λ (l : r < suc q).
      let rises : length (records_below tree r) ≤ length (records_below tree q) = count-rises tree q r (omega arith) in
      let last : length (records_below tree q) ≤ length (records_below tree (suc q)) = count-rises tree (suc q) q (omega arith) in
      let other : is_function tree q ≡ false = tested (is_function tree q) (λ t. absurd (omega (arith, count-function tree q t))) (λ t. t) in
      let next : Chaining tree text s (q + 1) (q + 1) = passed-other tree text s q other (chained-to q r (omega arith) (omega arith) c) in
      rw (add-one q) at next)
      (eq-or-lt_of_le h)

  module _ (s₀ : List ℕ) (j : ℕ) (p : Passing tree text s₀ s j) where
    -- the functions below the j-th are chained, once those at the places below j are
    pub chained-below : (f : ℕ) → j < length (function_places tree) → f ≡ word_at s (4 * j) → Chaining tree text s f f
    chained-below f h e =
        let z : f ≡ get_or (function_places tree) j 0 = e ∙ p.chaining.listed.listed j h in
        let w : FunctionAt tree (get_or (function_places tree) j 0) = listed-function tree j h in
        let count : length (records_below tree f) ≡ j = ap (λ (x : ℕ). length (records_below tree x)) z ∙ listed-count tree (records tree) j h in
        let more : length (records_below tree (suc f)) ≡ length (records_below tree f) + 1 = count-function tree f (ap (is_function tree) z ∙ is_function_lem tree text _ w) in
        let here : p.up_to ≤ f =
        tested (ltb f p.up_to)
        (λ t. absurd (omega (arith, more, count, p.counted, count-rises tree p.up_to (suc f) (omega (arith, ltb-true f p.up_to t)))))
        (λ t. omega (arith, ltb-false f p.up_to t)) in
        chained-to f p.up_to here (omega (arith, count, p.counted)) p.chaining

    -- and all are, once all places are passed
    pub all-chained : j ≡ length (function_places tree) → Keyed tree text s
    all-chained e = chained-to (records tree) p.up_to p.below (omega (arith, p.counted)) p.chaining

  -- function f is the j-th: one more
  pub passing_more : (s₀ s' : List ℕ) (j f : ℕ) → Passing tree text s₀ s' j → j < length (function_places tree) → f ≡ word_at s' (4 * j) → FunctionAt tree f
      → Chaining tree text s (f + 1) (f + 1) → ChainKeeps tree s' s → Passing tree text s₀ s (j + 1)
  passing_more s₀ s' j f p h e at c k =
      let z : f ≡ get_or (function_places tree) j 0 = e ∙ p.chaining.listed.listed j h in
      record {
        up_to = f + 1;
        below = omega (arith, at.below);
        counted = rw (add-one f) (count-function tree f (is_function_lem tree text f at))
            ∙ ap (λ (x : ℕ). length (records_below tree x) + 1) z ∙ ap (λ (x : ℕ). x + 1) (listed-count tree (records tree) j h);
        chaining = c;
        keeps = keeps_then tree s₀ s' s p.keeps k;
      }
