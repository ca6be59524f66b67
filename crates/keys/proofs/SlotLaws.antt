-- The functions by the numbers of their keys: no slot is taken at first, one function more is entered at the slot of its key, and what a slot's word says is what
-- `get_function` finds. By the laws of the texts' numbers and of a key looked for. Assumes nothing.
use mathlib.Core.Path.{◌≡◌, refl, sym, ap, ◌∙◌}
use mathlib.Core.Logic.{◌⊎◌, inl, inr}
use mathlib.Core.Bool.{Bool, true, false}
use mathlib.Core.List.{List, [], ◌∷◌, ◌++◌}
use mathlib.Core.Option.{Option, none as nothing, some}
use Prim.Native.Nat.{ℕ, ◌+◌, ◌-◌, ◌*◌, ◌≤◌, ◌<◌}
use native.Mathlib.Omega.{arith}
use lib.Dec.{eqb, ltb}
use lib.ListN.{length, get_or}
use borrow.Author.Tests.{eqb-true, eqb-false, ltb-true, ltb-false}
use Rattle.laws.specs.Fix.{pick}
use Rattle.laws.proofs.Splices.{length-splice}
use Rattle.laws.proofs.Tests.{tested}
use Rattle.records.specs.Digest.{roll_of}
use Rattle.records.proofs.RollLaws.{roll_small}
use Rattle.records.specs.Words.{byte_at, word_at, word_of, bytes_of, word, records, A, B}
use Rattle.records.specs.Kinds.{kind_name}
use Rattle.records.specs.Chains.{Cleared}
use Rattle.records.specs.Good.{Good}
use Rattle.records.proofs.Apart.{byte-apart, word-apart, word-there, word_back}
use Rattle.records.proofs.TextLaws.{same_self}
use Rattle.syntax.specs.Syntax.{Text, Function}
use Rattle.syntax.specs.Decode.{text_of}
use Rattle.conversion.specs.Ir.{same_text}
use Rattle.conversion.specs.Expressions.{Functions, is_mangled, get_function}
use Rattle.syntax.specs.Places.{IsKind, FunctionAt, function_of}
use Rattle.syntax.proofs.Records.{name_record, mangled_record, function-name, function_mangled}
use Rattle.texts.specs.Texts.{has_text, has_own, own_text, original, original_at, text_digest_at, Numbered}
use Rattle.texts.proofs.TextLaws.{original-below, original-has, original-text, same_numbers}
use Rattle.std.specs.Prelude.{Option as StdOption, Some, None, SomeIff}
use Rattle.keys.specs.Keys.{function_key, key_record, key_slot_at, KeySlots, key_entered, function_found, FindsKey, FindsOwnKey, a_function, none_found}
use Rattle.keys.proofs.KeyLaws.{find_hit, find_miss, find_later, find_sooner, key_mangled, key_plain}

-- ---- a key looked for, with one function more

some_other : (k : Text) (e : Text × Function) (l : Functions) → same_text k e.0 ≡ false → (o : Option Function) → get_function k l ≡ o
    → get_function k (l ++ (e ∷ [])) ≡ o
unfolding get_function
some_other k e l q nothing n = find_later k l (e ∷ []) n ∙ find_miss k e [] q
some_other k e l q (some f) n = find_sooner k l (e ∷ []) f n

-- ---- the record of a function's key

-- as the code tells it
module _ (tree text : List ℕ) (f : ℕ) (b : Bool) (e : b ≡ is_mangled (function_of tree text f)) (r : ℕ) where
  pub record_mangled : b ≡ true → r ≡ word_of tree f B → r ≡ key_record tree text f
  unfolding key_record pick
  record_mangled t w = rw (sym e ∙ t) w

  pub record_plain : b ≡ false → r ≡ word_of tree f A → r ≡ key_record tree text f
  unfolding key_record pick
  record_plain t w = rw (sym e ∙ t) w

module _ (tree text : List ℕ) (good : Good tree text) (f : ℕ) (at : FunctionAt tree f) where
  by_mangled : (b : Bool) → is_mangled (function_of tree text f) ≡ b → IsKind tree kind_name (key_record tree text f) × (own_text tree text (key_record tree text f) ≡ function_key (function_of tree text f))
  unfolding key_record pick text_of
  by_mangled true e =
      rw e (mangled_record tree text good f at, sym (key_mangled (function_of tree text f) e ∙ function_mangled tree text good f at))
  by_mangled false e =
      rw e (name_record tree text good f at, sym (key_plain (function_of tree text f) e ∙ function-name tree text good f at))

  pub key_is : IsKind tree kind_name (key_record tree text f)
  key_is = (by_mangled (is_mangled (function_of tree text f)) refl).0

  pub key_has : has_own tree (key_record tree text f) ≡ true
  unfolding has_text
  key_has = rw key_is.kind refl

  pub key_text : own_text tree text (key_record tree text f) ≡ function_key (function_of tree text f)
  key_text = (by_mangled (is_mangled (function_of tree text f)) refl).1

  pub key_below : original tree text (key_record tree text f) < records tree
  key_below = original-below tree text (key_record tree text f) key_is.below key_has

  -- the key's number, as it is read from the scratch
  module _ (s : List ℕ) (r : ℕ) (e : r ≡ key_record tree text f) where
    pub number-inside : 72 * records tree ≤ length s → original_at (records tree) r + 4 ≤ length s
    number-inside room = omega (arith, e, key_is.below)

    pub digest-inside : 72 * records tree ≤ length s → text_digest_at (records tree) r + 4 ≤ length s
    digest-inside room = omega (arith, e, key_is.below)

    -- and its digest
    pub digest-read : Numbered tree text s → (d : ℕ) → d ≡ word_at s (text_digest_at (records tree) r) → (d ≡ roll_of (function_key (function_of tree text f))) × (d < 4294967291)
    digest-read numbered d w =
        let z : d ≡ roll_of (function_key (function_of tree text f)) =
        w ∙ ap (λ (x : ℕ). word_at s (text_digest_at (records tree) x)) e ∙ numbered.digest (key_record tree text f) key_is.below key_has ∙ ap roll_of key_text in
        (z, rw z (roll_small 1 (function_key (function_of tree text f)) (omega arith)))

    pub number_read : Numbered tree text s → (o : ℕ) → o ≡ word_at s (original_at (records tree) r) → (o ≡ original tree text (key_record tree text f)) × (o < records tree)
    number_read numbered o w =
        let z : o ≡ original tree text (key_record tree text f) =
        w ∙ ap (λ (x : ℕ). word_at s (original_at (records tree) x)) e ∙ numbered.number (key_record tree text f) key_is.below key_has in
        (z, rw z key_below)

-- ---- the slots stay

pub slots_stay : (tree text s s' : List ℕ)
    → ((o : ℕ) → o < records tree → has_own tree o ≡ true → word_at s' (key_slot_at (records tree) o) ≡ word_at s (key_slot_at (records tree) o)) → (F : Functions)
    → KeySlots tree text s F → KeySlots tree text s' F
slots_stay tree text s s' same F k r h t = rw (same (original tree text r) (original-below tree text r h t) (original-has tree text r h t)) (k r h t)

-- ---- no function yet

pub zero_word : (l : List ℕ) (p : ℕ) → get_or l p 0 ≡ 0 → get_or l (p + 1) 0 ≡ 0 → get_or l (p + 2) 0 ≡ 0 → get_or l (p + 3) 0 ≡ 0 → word_at l p ≡ 0
unfolding word_at byte_at
zero_word l p a b c d = rw (a, b, c, d)

module _ (tree text s s' : List ℕ) (c : Cleared (44 * records tree) (48 * records tree) s s') where
  slot-zero : (o : ℕ) → o < records tree → word_at s' (key_slot_at (records tree) o) ≡ 0
  slot-zero o h =
      let p : ℕ = key_slot_at (records tree) o in
      zero_word s' p
      (c.zero p (omega arith) (omega arith))
      (c.zero (p + 1) (omega arith) (omega arith))
      (c.zero (p + 2) (omega arith) (omega arith))
      (c.zero (p + 3) (omega arith) (omega arith))

  pub slots-none : KeySlots tree text s' []
  unfolding get_function
  slots-none r h t = record {
    free = λ e. refl;
    taken = λ f e. absurd (omega (arith, e, slot-zero (original tree text r) (original-below tree text r h t)));
  }

-- ---- one function more

module _ (tree text s : List ℕ) (good : Good tree text) (room : 72 * records tree ≤ length s) (f : ℕ) (at : FunctionAt tree f) (s' : List ℕ) (e : s' ≡ key_entered tree text f s) where
  abbrev key : ℕ
  key = key_record tree text f

  abbrev slot : ℕ
  slot = key_slot_at (records tree) (original tree text key)

  fit : slot + length (word (f + 1)) ≤ length s
  unfolding word bytes_of
  fit = omega (arith, key_below tree text good f at)

  pub entered-long : length s' ≡ length s
  entered-long = ap length e ∙ length-splice s slot (word (f + 1)) fit

  -- the bytes before the slots and behind them
  pub entered-byte : (i : ℕ) → (i < 44 * records tree) ⊎ (48 * records tree ≤ i) → get_or s' i 0 ≡ get_or s i 0
  unfolding word bytes_of
  entered-byte i h = ap (λ (x : List ℕ). get_or x i 0) e ∙ byte-apart s slot (word (f + 1)) fit i (away h)
    where
      away : (i < 44 * records tree) ⊎ (48 * records tree ≤ i) → (i < slot) ⊎ (slot + length (word (f + 1)) ≤ i)
      away (inl k) = inl (omega arith)
      away (inr k) = inr (omega (arith, key_below tree text good f at))

  entered_here : word_at s' slot ≡ f + 1
  unfolding word bytes_of word_at byte_at
  entered_here =
      ap (λ (x : List ℕ). word_at x slot) e
      ∙ word-there s slot (word (f + 1)) fit 0 slot (omega arith) (omega arith)
      ∙ word_back (f + 1) (omega (arith, at.below, good.few))

  entered-other : (o : ℕ) → (o ≡ original tree text key → ⊥) → word_at s' (key_slot_at (records tree) o) ≡ word_at s (key_slot_at (records tree) o)
  unfolding word bytes_of
  entered-other o n =
      ap (λ (x : List ℕ). word_at x (key_slot_at (records tree) o)) e
      ∙ word-apart s slot (word (f + 1)) fit (key_slot_at (records tree) o)
      (tested (ltb o (original tree text key))
      (λ t. inl (omega (arith, ltb-true o (original tree text key) t)))
      (λ t. inr (omega (arith, ltb-false o (original tree text key) t, n))))

  module _ (F : Functions) (k : KeySlots tree text s F) (new : get_function (function_key (function_of tree text f)) F ≡ nothing) where
    abbrev more : Functions
    more = F ++ ((function_key (function_of tree text f), function_of tree text f) ∷ [])

    -- a text that is the key, and another one
    found_here : (r : ℕ) → r < records tree → has_own tree r ≡ true → original tree text r ≡ original tree text key → get_function (own_text tree text r) more ≡ some (function_of tree text f)
    found_here r h t q =
        let same : own_text tree text r ≡ function_key (function_of tree text f) =
        sym (original-text tree text r h t) ∙ ap (own_text tree text) q
        ∙ original-text tree text key (key_is tree text good f at).below (key_has tree text good f at) ∙ key_text tree text good f at in
        ap (λ (u : Text). get_function u more) same
        ∙ find_later (function_key (function_of tree text f)) F ((function_key (function_of tree text f), function_of tree text f) ∷ []) new
        ∙ find_hit (function_key (function_of tree text f)) (function_key (function_of tree text f), function_of tree text f) [] (same_self (function_key (function_of tree text f)))

    found-other : (r : ℕ) → r < records tree → has_own tree r ≡ true → eqb (original tree text r) (original tree text key) ≡ false → get_function (own_text tree text r) more ≡ get_function (own_text tree text r) F
    found-other r h t q =
        some_other (own_text tree text r) (function_key (function_of tree text f), function_of tree text f) F
        (ap (same_text (own_text tree text r)) (sym (key_text tree text good f at))
        ∙ same_numbers tree text r key h (key_is tree text good f at).below t (key_has tree text good f at) ∙ q)
        (get_function (own_text tree text r) F) refl

    pub slots-more : KeySlots tree text s' more
    slots-more r h t =
        tested (eqb (original tree text r) (original tree text key))
        (λ q.
        let z : original tree text r ≡ original tree text key = eqb-true (original tree text r) (original tree text key) q in
        rw z (record {
          free = λ w. absurd (omega (arith, w, entered_here));
          taken = λ g w. let y : f ≡ g = omega (arith, w, entered_here) in (found_here r h t z ∙ ap (λ (x : ℕ). some (function_of tree text x)) y, rw y at at);
        }))
        (λ q. rw (entered-other (original tree text r) (eqb-false (original tree text r) (original tree text key) q), found-other r h t q) (k r h t))

-- ---- what a slot says

module _ (tree text s : List ℕ) (number w : ℕ) (is : w ≡ word_at s (key_slot_at (records tree) number)) where
  slot_is : (r : ℕ) → number ≡ original tree text r → word_at s (key_slot_at (records tree) (original tree text r)) ≡ w
  slot_is r e = ap (λ (o : ℕ). word_at s (key_slot_at (records tree) o)) (sym e) ∙ sym is

  -- one less than the slot says, where it says more than 0
  pub slot_told : (v : StdOption ℕ) → SomeIff v (1 ≤ w) (w - 1) → FindsKey tree text s number v
  unfolding function_found
  slot_told None never F k r h t e =
      record { is = sym ((k r h t).free (slot_is r e ∙ omega (arith, never))); function = none_found }
  slot_told (Some f) n F k r h t e =
      let p = (k r h t).taken f (slot_is r e ∙ omega (arith, n.0, n.1)) in
      record { is = sym p.0; function = a_function p.1 }

-- the same of a function's own key
pub own-found : (tree text s : List ℕ) → Good tree text → (f : ℕ) → FunctionAt tree f → (number : ℕ) → number ≡ original tree text (key_record tree text f) → (v : StdOption ℕ)
    → FindsKey tree text s number v → FindsOwnKey tree text s f v
own-found tree text s good f at number e v finds F k =
    rw (key_text tree text good f at) at (finds F k (key_record tree text f) (key_is tree text good f at).below (key_has tree text good f at) e)
