-- The counters read off ten words: what a store to one of them changes, and that what the emitter's functions owe of a struct of counters they owe of the words.
-- The words are written out one by one, and each law computes. Assumes nothing.
use mathlib.Core.Path.{◌≡◌, refl, sym, ap, ◌∙◌, subst}
use mathlib.Core.Logic.{◌⊎◌, inl, inr}
use mathlib.Core.Bool.{Bool}
use mathlib.Core.List.{List, [], ◌∷◌}
use Prim.Native.Nat.{ℕ, zero, suc, ◌+◌, ◌*◌, ◌^◌, ◌≤◌, ◌<◌}
use native.Mathlib.Omega.{arith}
use lib.ListN.{length, get_or, set, drop, length-set}
use Rattle.conversion.specs.Ir.{M, FloatEntry}
use Rattle.conversion.specs.Written.{encode_instr}
use Rattle.laws.specs.Splice.{splice}
use Rattle.ir.specs.declared.structs.Counters.{Counters}
use Rattle.conversion.specs.Ir as Ir
use Rattle.ir.specs.declared.structs.Fields.{Fields}
use Rattle.ir.specs.declared.structs.Label.{Label}
use Rattle.ir.specs.declared.structs.VarId.{VarId}
use Rattle.ir.specs.declared.structs.WithCounters.{WithCounters}
use Rattle.ir.specs.Instructions.{field_bytes}
use Rattle.ir.specs.Arena.{Room}
use Rattle.ir.specs.Counted.{labels_before_word, counter_words, counted}
use Rattle.ir.specs.Steps.{more_labels, more_strings, more_floats, WroteTwo, WroteThree, TablesStay, Emits, AddsVar, NumbersLabel, NumbersString, NumbersFloat, Closes}
use Rattle.ir.proofs.Answers.{emit-done}

-- ---- all ten words are there

in_list : (k : List ℕ) (i d : ℕ) → (get_or k i d ≡ d → ⊥) → i < length k
in_list [] i d h = absurd (h refl)
in_list (x ∷ k) zero d h = omega arith
in_list (x ∷ k) (suc i) d h = omega (arith, in_list k i d h)

pub ten : (k l : List ℕ) → Room (counted k) l → counter_words ≤ length k
unfolding counted
ten k l room = in_list k labels_before_word (2 ^ 32) (λ e. omega (arith, e, room))

pub in_words : (i : ℕ) (k l : List ℕ) → i < counter_words → Room (counted k) l → i < length k
in_words i k l h room = omega (arith, h, ten k l room)

-- the words, one by one, and what is behind them
abbrev words : List ℕ → List ℕ
words k = get_or k 0 0 ∷ get_or k 1 0 ∷ get_or k 2 0 ∷ get_or k 3 0 ∷ get_or k 4 0 ∷ get_or k 5 0 ∷ get_or k 6 0 ∷ get_or k 7 0 ∷ get_or k 8 0 ∷ get_or k 9 (2 ^ 32) ∷ drop 10 k

words_are_lem : (k : List ℕ) → counter_words ≤ length k → k ≡ words k
words_are_lem [] h = absurd (omega (arith, h))
words_are_lem (a ∷ []) h = absurd (omega (arith, h))
words_are_lem (a ∷ b ∷ []) h = absurd (omega (arith, h))
words_are_lem (a ∷ b ∷ c ∷ []) h = absurd (omega (arith, h))
words_are_lem (a ∷ b ∷ c ∷ d ∷ []) h = absurd (omega (arith, h))
words_are_lem (a ∷ b ∷ c ∷ d ∷ e ∷ []) h = absurd (omega (arith, h))
words_are_lem (a ∷ b ∷ c ∷ d ∷ e ∷ f ∷ []) h = absurd (omega (arith, h))
words_are_lem (a ∷ b ∷ c ∷ d ∷ e ∷ f ∷ g ∷ []) h = absurd (omega (arith, h))
words_are_lem (a ∷ b ∷ c ∷ d ∷ e ∷ f ∷ g ∷ i ∷ []) h = absurd (omega (arith, h))
words_are_lem (a ∷ b ∷ c ∷ d ∷ e ∷ f ∷ g ∷ i ∷ j ∷ []) h = absurd (omega (arith, h))
words_are_lem (a ∷ b ∷ c ∷ d ∷ e ∷ f ∷ g ∷ i ∷ j ∷ m ∷ k) h = refl

-- the last word, as the code reads it
pub last_word : (k : List ℕ) → counter_words ≤ length k → get_or k 9 0 ≡ get_or k 9 (2 ^ 32)
last_word k h = ap (λ (x : List ℕ). get_or x 9 0) (words_are_lem k h)

-- the words as a struct
abbrev words_with : List ℕ → ℕ → Counters
words_with k v = record { records = get_or k 0 0; instructions = get_or k 1 0; variables = get_or k 2 0; labels = get_or k 3 0; functions = get_or k 4 0; strings = get_or k 5 0; floats = get_or k 6 0; instructions_before = get_or k 7 0; variables_before = get_or k 8 0; labels_before = v }

pub counted-are : (k : List ℕ) → counter_words ≤ length k → words_with k (get_or k 9 0) ≡ counted k
unfolding counted
counted-are k h = ap (words_with k) (last_word k h)

-- ---- a store to one word

-- behind it the words are as many
pub still : (k : List ℕ) (i v j : ℕ) → j < length k → j < length (set k i v)
still k i v j h = omega (arith, h, length-set k i v)

abbrev with_instructions : Counters → ℕ → Counters
with_instructions k v = record { records = k.records; instructions = v; variables = k.variables; labels = k.labels; functions = k.functions; strings = k.strings; floats = k.floats; instructions_before = k.instructions_before; variables_before = k.variables_before; labels_before = k.labels_before }

abbrev with_variables : Counters → ℕ → Counters
with_variables k v = record { records = k.records; instructions = k.instructions; variables = v; labels = k.labels; functions = k.functions; strings = k.strings; floats = k.floats; instructions_before = k.instructions_before; variables_before = k.variables_before; labels_before = k.labels_before }

abbrev with_labels : Counters → ℕ → Counters
with_labels k v = record { records = k.records; instructions = k.instructions; variables = k.variables; labels = v; functions = k.functions; strings = k.strings; floats = k.floats; instructions_before = k.instructions_before; variables_before = k.variables_before; labels_before = k.labels_before }

abbrev with_strings : Counters → ℕ → Counters
with_strings k v = record { records = k.records; instructions = k.instructions; variables = k.variables; labels = k.labels; functions = k.functions; strings = v; floats = k.floats; instructions_before = k.instructions_before; variables_before = k.variables_before; labels_before = k.labels_before }

abbrev with_floats : Counters → ℕ → Counters
with_floats k v = record { records = k.records; instructions = k.instructions; variables = k.variables; labels = k.labels; functions = k.functions; strings = k.strings; floats = v; instructions_before = k.instructions_before; variables_before = k.variables_before; labels_before = k.labels_before }

-- to the four that begin the next function
abbrev begun : Counters → Counters → Counters
begun k r = record { records = k.records; instructions = k.instructions; variables = k.variables; labels = k.labels; functions = r.functions; strings = k.strings; floats = k.floats; instructions_before = r.instructions_before; variables_before = r.variables_before; labels_before = r.labels_before }

module _ (k : List ℕ) (v : ℕ) (h : counter_words ≤ length k) where
  set-instructions : counted (set k 1 v) ≡ with_instructions (counted k) v
  unfolding counted
  set-instructions = ap (λ (x : List ℕ). counted (set x 1 v)) (words_are_lem k h)

  set-variables : counted (set k 2 v) ≡ with_variables (counted k) v
  unfolding counted
  set-variables = ap (λ (x : List ℕ). counted (set x 2 v)) (words_are_lem k h)

  set-labels : counted (set k 3 v) ≡ with_labels (counted k) v
  unfolding counted
  set-labels = ap (λ (x : List ℕ). counted (set x 3 v)) (words_are_lem k h)

  set-strings : counted (set k 5 v) ≡ with_strings (counted k) v
  unfolding counted
  set-strings = ap (λ (x : List ℕ). counted (set x 5 v)) (words_are_lem k h)

  set-floats : counted (set k 6 v) ≡ with_floats (counted k) v
  unfolding counted
  set-floats = ap (λ (x : List ℕ). counted (set x 6 v)) (words_are_lem k h)

-- ---- what each function owes

pub emit-lent : (i : Ir.Instr) (f : Fields) (k l l' : List ℕ) → Room (counted k) l → (counted k).instructions < 4 * (counted k).records
    → field_bytes f ≡ encode_instr i → l' ≡ splice l (32 * (counted k).instructions) (field_bytes f) → Emits i (counted k) l (counted (set k 1 ((counted k).instructions + 1))) l'
emit-lent i f k l l' room small ef e =
    subst (λ (x : Counters). Emits i (counted k) l x l') (sym (set-instructions k _ (ten k l room))) (emit-done i f (counted k) l l' room small ef e)

-- what is told of the counters c, which were read off the words
module _ (k l l' : List ℕ) (room : Room (counted k) l) (c : Counters) (read : c ≡ counted k) where
  pub var_lent : (y : ℕ) (r : WithCounters VarId) → AddsVar y c l r l' → AddsVar y (counted k) l (record { value = r.value; counters = counted (set k 2 r.counters.variables) }) l'
  var_lent y r h =
      let g : AddsVar y (counted k) l r l' = subst (λ (x : Counters). AddsVar y x l r l') read h in
      let same : with_variables (counted k) r.counters.variables ≡ r.counters = subst (λ (x : Counters). with_variables (counted k) x.variables ≡ x) (sym g.entry.counts) refl in
      subst (λ (x : Counters). AddsVar y (counted k) l (record { value = r.value; counters = x }) l') (sym (set-variables k _ (ten k l room) ∙ same)) g

  same-labels : {i j : ℕ} {vs ws : List ℕ} (k' : Counters) → WroteTwo l i vs j ws (more_labels (counted k)) k' l' ⊎ TablesStay (counted k) l k' l' → with_labels (counted k) k'.labels ≡ k'
  same-labels k' (inl w) = subst (λ (x : Counters). with_labels (counted k) x.labels ≡ x) (sym w.counts) refl
  same-labels k' (inr w) = subst (λ (x : Counters). with_labels (counted k) x.labels ≡ x) (sym w.counts) refl

  pub label_lent : (kind opener : ℕ) (r : WithCounters Label) → NumbersLabel kind opener c l r l'
      → NumbersLabel kind opener (counted k) l (record { value = r.value; counters = counted (set k 3 r.counters.labels) }) l'
  label_lent kind opener r h =
      let g : NumbersLabel kind opener (counted k) l r l' = subst (λ (x : Counters). NumbersLabel kind opener x l r l') read h in
      subst (λ (x : Counters). NumbersLabel kind opener (counted k) l (record { value = r.value; counters = x }) l') (sym (set-labels k _ (ten k l room) ∙ same-labels r.counters g.entry)) g

  same-strings : {i j p : ℕ} {vs ws us : List ℕ} (k' : Counters) → WroteThree l i vs j ws p us (more_strings (counted k)) k' l' ⊎ TablesStay (counted k) l k' l' → with_strings (counted k) k'.strings ≡ k'
  same-strings k' (inl w) = subst (λ (x : Counters). with_strings (counted k) x.strings ≡ x) (sym w.counts) refl
  same-strings k' (inr w) = subst (λ (x : Counters). with_strings (counted k) x.strings ≡ x) (sym w.counts) refl

  pub string_lent : (o offset len : ℕ) (r : WithCounters ℕ) → NumbersString o offset len c l r l'
      → NumbersString o offset len (counted k) l (record { value = r.value; counters = counted (set k 5 r.counters.strings) }) l'
  string_lent o offset len r h =
      let g : NumbersString o offset len (counted k) l r l' = subst (λ (x : Counters). NumbersString o offset len x l r l') read h in
      subst (λ (x : Counters). NumbersString o offset len (counted k) l (record { value = r.value; counters = x }) l') (sym (set-strings k _ (ten k l room) ∙ same-strings r.counters g.entry)) g

  same-floats : {i j p : ℕ} {vs ws us : List ℕ} (k' : Counters) → WroteThree l i vs j ws p us (more_floats (counted k)) k' l' ⊎ TablesStay (counted k) l k' l' → with_floats (counted k) k'.floats ≡ k'
  same-floats k' (inl w) = subst (λ (x : Counters). with_floats (counted k) x.floats ≡ x) (sym w.counts) refl
  same-floats k' (inr w) = subst (λ (x : Counters). with_floats (counted k) x.floats ≡ x) (sym w.counts) refl

  pub float_lent : (s : FloatEntry) (r : WithCounters ℕ) → NumbersFloat s c l r l'
      → NumbersFloat s (counted k) l (record { value = r.value; counters = counted (set k 6 r.counters.floats) }) l'
  float_lent s r h =
      let g : NumbersFloat s (counted k) l r l' = subst (λ (x : Counters). NumbersFloat s x l r l') read h in
      subst (λ (x : Counters). NumbersFloat s (counted k) l (record { value = r.value; counters = x }) l') (sym (set-floats k _ (ten k l room) ∙ same-floats r.counters g.entry)) g

  -- the four words that change where a function is done
  pub function-lent : (owner : ℕ) (body : Bool) (r : Counters) → Closes owner body c l r l'
      → Closes owner body (counted k) l (counted (set (set (set (set k 4 r.functions) 7 r.instructions_before) 8 r.variables_before) 9 r.labels_before)) l'
  unfolding counted
  function-lent owner body r h =
      let g : Closes owner body (counted k) l r l' = subst (λ (x : Counters). Closes owner body x l r l') read h in
      let stored : counted (set (set (set (set k 4 r.functions) 7 r.instructions_before) 8 r.variables_before) 9 r.labels_before) ≡ begun (counted k) r =
      ap (λ (x : List ℕ). counted (set (set (set (set x 4 r.functions) 7 r.instructions_before) 8 r.variables_before) 9 r.labels_before)) (words_are_lem k (ten k l room)) in
      let same : begun (counted k) r ≡ r = subst (λ (x : Counters). begun (counted k) x ≡ x) (sym g.counts) refl in
      subst (λ (x : Counters). Closes owner body (counted k) l x l') (sym (stored ∙ same)) g
