-- Open names: what a slot says is what the definition finds, and a name more stands above the others.
-- By recursion over the entries, and by the words of one. Assumes nothing.
use mathlib.Core.Path.{◌≡◌, refl, sym, ap, ap₂, ◌∙◌, subst}
use Prim.Native.Nat.{ℕ, zero, suc, ◌+◌, ◌*◌, ◌/◌, ◌%◌, ◌^◌, ◌≤◌, ◌<◌}
use mathlib.Core.Bool.{Bool, true, false, ◌&&◌, false≢true}
use mathlib.Core.List.{List, ◌∷◌, ◌++◌}
use mathlib.Core.Option.{Option, none, some}
use native.Mathlib.Decide.{dec_lt}
use native.Mathlib.Numerals.{add-one}
use native.Mathlib.Omega.{arith}
use lib.Dec.{eqb, ltb}
use lib.ListN.{length}
use borrow.Author.Tests.{eq-eqb, ne_eqb, lt-ltb, ltb-true}
use Rattle.laws.specs.Fix.{pick}
use Rattle.laws.specs.Below.{last}
use Rattle.laws.specs.Splice.{splice}
use Rattle.laws.proofs.Tests.{tested, and_left, and_right}
use Rattle.records.specs.Words.{byte_at, word_at, text_at}
use Rattle.records.proofs.Apart.{word_back, word-there}
use Rattle.conversion.specs.Ir.{same_text}
use Rattle.conversion.specs.Scope.{Variable, find_in}
use Rattle.conversion.specs.Written.{bytes_of, word, bool_number}
use Rattle.std.specs.Prelude.{Option as StdOption, Some, None, is_some}
use Rattle.std.specs.Bool.{then_some}
use Rattle.ir.specs.declared.structs.VarId.{VarId}
use Rattle.ir.specs.Search.{found_of}
use Rattle.ir.proofs.SearchLaws.{found_some, found_none}
use Rattle.scope.specs.declared.Scope.{Scope}
use Rattle.scope.specs.declared.Known.{Known}
use Rattle.scope.specs.Open.{open_variable, variables_at, variables_of, NamesRoom, name_is, words_are, name_slot_at, open_at, ToldApart, SlotTells, VariableAt, IsFound, FindMeets, more, variable_named, name_entry, name_added, NameAfforded, DeclareMeets}
use Rattle.scope.proofs.ScopeLaws.{Kept, kept_above, word_kept, variables-kept, with_entry, entry-fits, slot-fits, slot_keeps}

-- ---- the search is the definition's

-- the entry of what the search found
abbrev entry_at : List ℕ → List ℕ → ℕ → Option ℕ → Option Variable
entry_at text s n (some j) = some (open_variable text s (8 * n + 16 * j))
entry_at text s n none = none

-- what the definition finds is the entry of what the search finds
pub search_is : (text s : List ℕ) (n : ℕ) (u : List ℕ) (m : ℕ) → find_in u (variables_at text s n m) ≡ entry_at text s n (last m (name_is text s n u))
unfolding last find_in variables_at name_is pick
search_is text s n u zero = refl
search_is text s n u (suc j) = go (search_is text s n u j) (name_is text s n u j) refl
  where
    go : find_in u (variables_at text s n j) ≡ entry_at text s n (last j (name_is text s n u)) → (b : Bool) → name_is text s n u j ≡ b
        → elim (same_text u (open_variable text s (8 * n + 16 * j)).name) [ true ↦ some (open_variable text s (8 * n + 16 * j)) | false ↦ find_in u (variables_at text s n j) ]
        ≡ entry_at text s n (pick (name_is text s n u j) (some j) (last j (name_is text s n u)))
    go rest true e = rw e
    go rest false e = rw e rest

-- the answer of the search
module _ (text s : List ℕ) (sc : Scope) (u : List ℕ) (o : Option ℕ) (e : last sc.names (name_is text s sc.records u) ≡ o) where
  looked : find_in u (variables_of text s sc) ≡ entry_at text s sc.records o
  looked = search_is text s sc.records u sc.names ∙ ap (entry_at text s sc.records) e

is-entry : (text s : List ℕ) (p : ℕ) (r : Known) → VariableAt s p r → IsFound (Some r) (some (open_variable text s p))
unfolding VariableAt IsFound
is-entry text s p r a = a

pub find_hit : (text s : List ℕ) (sc : Scope) (u : List ℕ) (r : Known) (j : ℕ) → last sc.names (name_is text s sc.records u) ≡ some j
    → VariableAt s (8 * sc.records + 16 * j) r → FindMeets text s sc u (Some r)
find_hit text s sc u r j e a =
    subst (λ (m : Option Variable). IsFound (Some r) m) (sym (looked text s sc u (some j) e)) (is-entry text s (8 * sc.records + 16 * j) r a)

pub find_none : (text s : List ℕ) (sc : Scope) (u : List ℕ) → last sc.names (name_is text s sc.records u) ≡ none
    → FindMeets text s sc u None
unfolding IsFound
find_none text s sc u e = subst (λ (m : Option Variable). IsFound None m) (sym (looked text s sc u none e)) tt

-- ---- the last hit

-- what is found is below the count, and the test holds of it
hit_by : (n : ℕ) (f : ℕ → Bool) (r : ℕ) → (last n f ≡ some r → (r < n) × (f r ≡ true)) → (b : Bool) → f n ≡ b → last (suc n) f ≡ some r
    → (r < suc n) × (f r ≡ true)
unfolding last pick
hit_by n f r rest true q e = let z : some n ≡ some r = (rw q at e) in let w : n ≡ r = cc in (omega arith, ap f (sym w) ∙ q)
hit_by n f r rest false q e = let h = rest (rw q at e) in (omega (arith, h.0), h.1)

last-holds : (n : ℕ) (f : ℕ → Bool) (r : ℕ) → last n f ≡ some r → (r < n) × (f r ≡ true)
unfolding last
last-holds zero f r e = absurd (let z : ◌≡◌ {A = ℕ} 0 1 = cc in omega arith)
last-holds (suc n) f r e = hit_by n f r (last-holds n f r) (f n) refl e

-- where nothing is found the test holds of none
miss_by : (n : ℕ) (f : ℕ → Bool) (j : ℕ) → (last n f ≡ none → j < n → f j ≡ false) → (b : Bool) → f n ≡ b → last (suc n) f ≡ none → j < suc n
    → Dec (j < n) → f j ≡ false
unfolding last pick
miss_by n f j rest true q e h d = absurd (let z : some n ≡ none = (rw q at e) in let w : ◌≡◌ {A = ℕ} 0 1 = cc in omega arith)
miss_by n f j rest false q e h (yes i) = rest (rw q at e) i
miss_by n f j rest false q e h (no i) = let z : j ≡ n = omega (arith, h, i) in ap f z ∙ q

last_missed : (n : ℕ) (f : ℕ → Bool) (j : ℕ) → last n f ≡ none → j < n → f j ≡ false
unfolding last
last_missed zero f j e h = absurd (omega (arith, h))
last_missed (suc n) f j e h = miss_by n f j (last_missed n f j) (f n) refl e h (dec_lt j n)

-- tests that agree below a number have the same last hit below it
last-same : (n : ℕ) (f g : ℕ → Bool) → ((j : ℕ) → j < n → f j ≡ g j) → last n f ≡ last n g
unfolding last
last-same zero f g e = refl
last-same (suc n) f g e = rw (e n (omega arith), last-same n f g (λ j h. e j (omega arith)))

-- ---- the entry that a slot says

module _ (s : List ℕ) (n count o offset len : ℕ) where
  abbrev said : ℕ
  said = word_at s (name_slot_at n o)

  -- as the code tests it
  module _ (j : ℕ) (ej : j ≡ said) where
    as_found : (b : Bool) → then_some b j ≡ found_of (pick b (some j) none)
    unfolding pick
    as_found true = refl
    as_found false = refl

    pub said_tested : (b : Bool) → b ≡ (ltb j count && words_are s n offset len j) → then_some b j ≡ found_of (open_at s n count o offset len)
    unfolding open_at
    said_tested b e = rw (← ej, ← e) (as_found b)

  open_holds : (j : ℕ) → open_at s n count o offset len ≡ some j → (j < count) × (words_are s n offset len j ≡ true)
  unfolding open_at pick
  open_holds j = go (ltb said count && words_are s n offset len said) refl
    where
      go : (b : Bool) → (ltb said count && words_are s n offset len said) ≡ b → pick b (some said) none ≡ some j → (j < count) × (words_are s n offset len j ≡ true)
      go true q e =
          let z : said ≡ j = cc in (
            omega (arith, ltb-true said count (and_left (ltb said count) _ q)),
            ap (words_are s n offset len) (sym z) ∙ and_right (ltb said count) _ q,
          )
      go false q e = absurd (let z : ◌≡◌ {A = ℕ} 0 1 = cc in omega arith)

  -- where the slot tells, it is the last with the words
  open_is-last : ((j : ℕ) → j < count → words_are s n offset len j ≡ true → said ≡ j) → open_at s n count o offset len ≡ last count (words_are s n offset len)
  unfolding open_at pick
  open_is-last tells = go (last count (words_are s n offset len)) refl
    where
      go : (l : Option ℕ) → last count (words_are s n offset len) ≡ l → pick (ltb said count && words_are s n offset len said) (some said) none ≡ l
      go (some j) e =
          let h = last-holds count (words_are s n offset len) j e in
          let z : said ≡ j = tells j h.0 h.1 in
          rw (z, lt-ltb j count h.0, h.1)
      go none e =
          tested (ltb said count && words_are s n offset len said)
          (λ t.
          absurd (false≢true (sym (last_missed count (words_are s n offset len) said e (ltb-true said count (and_left (ltb said count) _ t))) ∙ and_right (ltb said count) _ t)))
          (λ t. rw t)

-- ---- a name more

fixed_mark : (y : ℕ) (c : Bool) → c ≡ eqb ((2 * y + bool_number c) % 2) 1
unfolding bool_number
fixed_mark y true = sym (eq-eqb ((2 * y + 1) % 2) 1 (omega arith))
fixed_mark y false = sym (ne_eqb ((2 * y + 0) % 2) 1 (λ e. omega (arith, e)))

typed_mark : (y : ℕ) (c : Bool) → y ≡ (2 * y + bool_number c) / 2
unfolding bool_number
typed_mark y true = omega arith
typed_mark y false = omega arith

mark_small : (y : ℕ) (c : Bool) → y < 2 ^ 31 → 2 * y + bool_number c < 2 ^ 32
unfolding bool_number
mark_small y true h = omega arith
mark_small y false h = omega arith

module _ (text : List ℕ) (o offset len : ℕ) (v : VarId) (constant : Bool) (sc : Scope) (s s' : List ℕ) (room : NamesRoom sc s) (afforded : NameAfforded sc v)
    (inside : o < sc.records) where
  abbrev place : ℕ
  place = 8 * sc.records + 16 * sc.names

  module _ (ho : offset < 2 ^ 32) (hn : len < 2 ^ 32) (hv : v.0 < 2 ^ 32) (e : s' ≡ name_added o offset len v constant sc s) where
    abbrev s₁ : List ℕ
    s₁ = with_entry o offset len v constant sc s room afforded

    fit : place + length (name_entry offset len v constant) ≤ length s
    fit = entry-fits o offset len v constant sc s room afforded

    kept : Kept sc.records (sc.names + 1) s₁ s'
    kept = slot_keeps o offset len v constant sc s room afforded inside s' e

    word₀ : word_at s' place ≡ offset
    unfolding word bytes_of word_at byte_at
    word₀ = word_kept text s₁ s' sc.records (sc.names + 1) kept place (omega arith) (omega arith)
        ∙ word-there s place (name_entry offset len v constant) fit 0 place (omega arith) (omega arith) ∙ word_back offset ho

    word₁ : word_at s' (place + 4) ≡ len
    unfolding word bytes_of word_at byte_at
    word₁ = word_kept text s₁ s' sc.records (sc.names + 1) kept (place + 4) (omega arith) (omega arith)
        ∙ word-there s place (name_entry offset len v constant) fit 4 (place + 4) refl (omega arith) ∙ word_back len hn

    word₂ : word_at s' (place + 8) ≡ v.0
    unfolding word bytes_of word_at byte_at
    word₂ = word_kept text s₁ s' sc.records (sc.names + 1) kept (place + 8) (omega arith) (omega arith)
        ∙ word-there s place (name_entry offset len v constant) fit 8 (place + 8) refl (omega arith) ∙ word_back v.0 hv

    word₃ : word_at s' (place + 12) ≡ 2 * v.1 + bool_number constant
    unfolding word bytes_of word_at byte_at
    word₃ = word_kept text s₁ s' sc.records (sc.names + 1) kept (place + 12) (omega arith) (omega arith)
        ∙ word-there s place (name_entry offset len v constant) fit 12 (place + 12) refl (omega arith)
        ∙ word_back (2 * v.1 + bool_number constant) (mark_small v.1 constant afforded.type)

    slot-word : word_at s' (name_slot_at sc.records o) ≡ sc.names
    unfolding word bytes_of word_at byte_at
    slot-word = ap (λ (x : List ℕ). word_at x (name_slot_at sc.records o)) e
        ∙ word-there s₁ (name_slot_at sc.records o) (word sc.names) (slot-fits o offset len v constant sc s room afforded inside) 0 (name_slot_at sc.records o) (omega arith) (omega arith)
        ∙ word_back sc.names afforded.place

    entry-is : open_variable text s' place ≡ variable_named text offset len v constant
    entry-is = rw (word₀, word₁, word₂, word₃, ← typed_mark v.1 constant, ← fixed_mark v.1 constant)

    added_is : variables_of text s' (more sc) ≡ variable_named text offset len v constant ∷ variables_of text s sc
    unfolding variables_at
    added_is =
        ap (variables_at text s' sc.records) (add-one sc.names)
        ∙ ap₂ (λ (x : Variable) (l : List Variable). x ∷ l) entry-is
        (variables-kept text s₁ s' sc.records (sc.names + 1) kept sc.names (omega arith)
        ∙ variables-kept text s s₁ sc.records sc.names
        (kept_above sc.records sc.names s place (name_entry offset len v constant) s₁ refl fit (omega arith)) sc.names (omega arith))

    pub declare-done : last sc.names (name_is text s sc.records (text_at text offset len)) ≡ none
        → last sc.names (words_are s sc.records offset len) ≡ none
        → DeclareMeets text o offset len v constant sc s s' (Some (more sc))
    unfolding DeclareMeets
    declare-done q w = record {
      scope = refl;
      written = e;
      free = looked text s sc (text_at text offset len) none q;
      new = λ j h. last_missed sc.names (words_are s sc.records offset len) j w h;
      offset_is = word₀;
      length_is = word₁;
      slot_is = slot-word;
      added = added_is;
    }

pub declare-taken : (text : List ℕ) (o offset len : ℕ) (v : VarId) (constant : Bool) (sc : Scope) (s : List ℕ) (j : ℕ)
    → last sc.names (name_is text s sc.records (text_at text offset len)) ≡ some j
    → DeclareMeets text o offset len v constant sc s s None
unfolding DeclareMeets
declare-taken text o offset len v constant sc s j q = record {
  same = refl;
  holder = open_variable text s (8 * sc.records + 16 * j);
  found = looked text s sc (text_at text offset len) (some j) q;
}

-- ---- as the code meets them: what the slot answered

absent : (a : StdOption ℕ) → is_some a ≡ false → a ≡ None
absent None q = refl
absent (Some j) q = absurd (false≢true (sym q))

module _ (s : List ℕ) (sc : Scope) (o offset len : ℕ) (a : StdOption ℕ) (e : a ≡ found_of (open_at s sc.records sc.names o offset len)) where
  pub found_below : (j : ℕ) → a ≡ Some j → j < sc.names
  found_below j q =
      (open_holds s sc.records sc.names o offset len j (found_some (open_at s sc.records sc.names o offset len) j a e q)).0

  module _ (text : List ℕ) (told : ToldApart text s sc offset len) (tells : SlotTells s sc o offset len) where
    abbrev search_of : Option ℕ
    search_of = last sc.names (name_is text s sc.records (text_at text offset len))

    words_search : a ≡ found_of (last sc.names (words_are s sc.records offset len))
    words_search = e ∙ ap found_of (open_is-last s sc.records sc.names o offset len tells)

    told_search : a ≡ found_of search_of
    told_search = words_search ∙ ap found_of (sym (last-same sc.names (name_is text s sc.records (text_at text offset len)) (words_are s sc.records offset len) told))

    pub find_at : (r : Known) (j : ℕ) → a ≡ Some j → VariableAt s (8 * sc.records + 16 * j) r → FindMeets text s sc (text_at text offset len) (Some r)
    find_at r j q w = find_hit text s sc (text_at text offset len) r j (found_some search_of j a told_search q) w

    pub find_nowhere : a ≡ None → FindMeets text s sc (text_at text offset len) None
    find_nowhere q = find_none text s sc (text_at text offset len) (found_none search_of a told_search q)

    pub declare_at_lem : (v : VarId) (constant : Bool) → is_some a ≡ true → DeclareMeets text o offset len v constant sc s s None
    declare_at_lem v constant there = go search_of refl
      where
        go : (m : Option ℕ) → search_of ≡ m → DeclareMeets text o offset len v constant sc s s None
        go (some j) e = declare-taken text o offset len v constant sc s j e
        go none e = absurd (false≢true (sym (ap is_some (told_search ∙ ap found_of e)) ∙ there))

    pub declare_new_lem : (v : VarId) (constant : Bool) (b : ℕ) (s₁ s' : List ℕ) → NamesRoom sc s → NameAfforded sc v → o < sc.records
        → offset < 2 ^ 32 → len < 2 ^ 32 → v.0 < 2 ^ 32 → b ≡ bool_number constant → is_some a ≡ false
        → s₁ ≡ splice s (8 * sc.records + 16 * sc.names) (word offset ++ word len ++ word v.0 ++ word (2 * v.1 + b))
        → s' ≡ splice s₁ (name_slot_at sc.records o) (word sc.names)
        → DeclareMeets text o offset len v constant sc s s' (Some (more sc))
    declare_new_lem v constant b s₁ s' room afforded inside ho hn hv eb q w₁ w =
        declare-done text o offset len v constant sc s s' room afforded inside ho hn hv
        (w ∙ ap (λ (x : List ℕ). splice x (name_slot_at sc.records o) (word sc.names))
        (w₁ ∙ ap (λ (x : ℕ). splice s (8 * sc.records + 16 * sc.names) (word offset ++ word len ++ word v.0 ++ word (2 * v.1 + x))) eb))
        (found_none search_of a told_search (absent a q))
        (found_none (last sc.names (words_are s sc.records offset len)) a words_search (absent a q))
