-- What the emitter's functions owe, from what their code did: an entry more where there is room, or the number of one that is found.
-- The tables are kept by the laws of the arena, the searches by those that read it back. Assumes nothing.
use mathlib.Core.Path.{◌≡◌, refl, sym, ap, ap₂, ◌∙◌, subst}
use mathlib.Core.Logic.{inl, inr}
use mathlib.Core.Bool.{Bool, true, false}
use mathlib.Core.List.{List, [], ◌++◌}
use mathlib.Core.Option.{Option, none, some}
use Prim.Native.Nat.{ℕ, ◌+◌, ◌-◌, ◌*◌, ◌/◌, ◌%◌, ◌^◌, ◌≤◌, ◌<◌}
use native.Mathlib.Omega.{arith}
use lib.ListN.{length, length-append}
use Rattle.laws.specs.Splice.{splice}
use Rattle.records.specs.Words.{word_at}
use Rattle.conversion.specs.Ir as Ir
use Rattle.conversion.specs.Ir.{State, LabelName, StringEntry, FloatEntry, emit, new_var, label_id, string_id, float_id, numbered, position, same_label, same_float}
use Rattle.conversion.specs.Written.{bytes_of, word, bool_number, encode_instr, encode_var, encode_label, encode_string, encode_float, all_vars, all_labels}
use Rattle.conversion.proofs.Bytes.{instr_length, float_length}
use Rattle.ir.specs.declared.structs.Counters.{Counters}
use Rattle.ir.specs.declared.structs.Fields.{Fields}
use Rattle.ir.specs.declared.structs.Label.{Label}
use Rattle.ir.specs.declared.structs.VarId.{VarId}
use Rattle.ir.specs.declared.structs.WithCounters.{WithCounters}
use Rattle.ir.specs.Instructions.{var_of, field_bytes}
use Rattle.ir.specs.Amounts.{Amount, Spent}
use Rattle.ir.specs.Arena.{NumberedTexts, TablesSoFar, HasSlot, label_slot, float_bucket, float_entry_bucket, Holds, Room}
use Rattle.std.specs.Prelude.{Option as StdOption, Some, None}
use Rattle.ir.specs.Search.{label_is, string_is, float_words_at, Walks, float_head}
use Rattle.ir.specs.Steps.{grown, Stands, Next, NextIn, more_instructions, more_variables, more_labels, more_strings, more_floats, WroteTwo, WroteThree, Emits, AddsVar, named, NumbersLabel, entry_of_string, StringAdded, NumbersString, NumbersFloat}
use Rattle.ir.proofs.Entries.{written-length, written-word}
use Rattle.ir.proofs.Kept.{with_label, with_string, with_float, no_code, emit-holds, var_holds, slot-holds, label_holds, string_holds, float_holds}
use Rattle.ir.proofs.LinkWrites.{LinkWritten, linked-length}
use Rattle.ir.proofs.ReadBack.{label_here, label_nowhere, float_start, float_here, float_gone}
use Rattle.ir.proofs.StringLaws.{same_string, string_found, number_unused, string_missing}
use Rattle.records.proofs.WordLaws.{wide-words}

-- what the counters asked for would spend, these spend
same-spent : {k k' want : Counters} {a : Amount} → Spent k want a → k' ≡ want → Spent k k' a
same-spent {k = k} {a = a} h e = subst (λ (x : Counters). Spent k x a) (sym e) h

pub emit-done : (i : Ir.Instr) (f : Fields) (k : Counters) (l l' : List ℕ) → Room k l → k.instructions < 4 * k.records
    → field_bytes f ≡ encode_instr i → l' ≡ splice l (32 * k.instructions) (field_bytes f) → Emits i k l (more_instructions k) l'
unfolding Stands emit
emit-done i f k l l' room small ef e =
    let w : l' ≡ splice l (32 * k.instructions) (encode_instr i) = e ∙ ap (splice l (32 * k.instructions)) ef in
    let len : length l' ≡ length l = written-length l (32 * k.instructions) (encode_instr i) l' w (omega (arith, instr_length i, room.arena)) in record {
      next = record {
        room = omega (arith, room, len);
        records = refl;
        stands = λ texts t h. (refl, emit-holds texts t k l room h i l' small w);
      };
      spent = omega arith;
      entry = record { counts = refl; wrote = w };
    }

-- a variable by its number and its type
abbrev variable : ℕ → ℕ → Ir.VarId
variable i y = record { id = i; ty = y }

pub var_done : (y : ℕ) (r : WithCounters VarId) (k : Counters) (l l' : List ℕ) → Room k l → k.variables < 3 * k.records
    → r.value.0 ≡ k.variables - k.variables_before → r.value.1 ≡ y → r.counters ≡ more_variables k → l' ≡ splice l (128 * k.records + 4 * k.variables) (word y)
    → AddsVar y k l r l'
unfolding Stands new_var encode_var word bytes_of
var_done y r k l l' room small e₀ e₁ ek e =
    let len : length l' ≡ length l = written-length l (128 * k.records + 4 * k.variables) (encode_var y) l' e (omega (arith, room.arena)) in record {
      next = subst (λ (k' : Counters). Next (new_var y) k l (var_of r.value) k' l') (sym ek) (record {
        room = omega (arith, room, len);
        records = refl;
        stands = λ texts t h.
            let count : r.value.0 ≡ length t.state.vars = omega (arith, e₀, h.variables_hold.count, h.before.variables_before, length-append (all_vars t.done) t.state.vars) in
            (ap₂ variable count e₁, var_holds texts t k l room h y l' small e);
      });
      typed = e₁;
      spent = same-spent (omega arith) ek;
      entry = record { counts = ek; wrote = e };
    }

-- ---- an entry that is found: nothing changes

found : (texts : NumberedTexts) (t : TablesSoFar) (k : Counters) (l : List ℕ) → Room k l → Holds texts t k l → (o : Option ℕ) (s : State) (n i x : ℕ)
    → o ≡ some i → x ≡ i → Stands (numbered o t.state s n) x texts t k l
unfolding Stands numbered
found texts t k l room h o s n i x e q =
    subst (λ (p : Option ℕ). Stands (numbered p t.state s n) x texts t k l) (sym e) (q, no_code texts t k l room h t.state k l h)

-- one that is not: the next number
added : (texts : NumberedTexts) (t : TablesSoFar) (k' : Counters) (l' : List ℕ) (o : Option ℕ) (s : State) (n x : ℕ)
    → o ≡ none → x ≡ n → Holds texts (grown t [] s) k' l' → Stands (numbered o t.state s n) x texts t k' l'
unfolding Stands numbered
added texts t k' l' o s n x e q h = subst (λ (p : Option ℕ). Stands (numbered p t.state s n) x texts t k' l') (sym e) (q, h)

-- ---- labels, as the code meets them: whether the label under the number at the slot is this one

module _ (kind opener : ℕ) (k : Counters) (l : List ℕ) (room : Room k l) (at i : ℕ) (ea : at ≡ label_slot k.records (named kind opener)) (ei : i ≡ word_at l at) where
  abbrev x : LabelName
  x = named kind opener

  slot_has : i ≡ word_at l (label_slot k.records x)
  slot_has = ei ∙ ap (word_at l) ea

  pub label_found : (b : Bool) (r : WithCounters Label) → b ≡ label_is l k kind opener i → b ≡ true → r.value.0 ≡ i → r.counters ≡ k → NumbersLabel kind opener k l r l
  unfolding label_id
  label_found b r eb q e ek = record {
    next = subst (λ (k' : Counters). Next (label_id x) k l r.value.0 k' l) (sym ek) (record {
      room = room;
      records = refl;
      stands = λ texts t h. found texts t k l room h (position (same_label x) t.state.labels) (with_label x t.state)
          (length t.state.labels) i r.value.0 (label_here texts t k l h kind opener i slot_has (sym eb ∙ q)) e;
    });
    spent = same-spent (omega arith) ek;
    entry = inr (record { counts = ek; same = refl });
  }

  pub label_new : (b : Bool) (l' : List ℕ) (r : WithCounters Label) → k.labels < 3 * k.records → HasSlot k.records x
      → b ≡ label_is l k kind opener i → b ≡ false
      → (r.value.0 ≡ k.labels - k.labels_before)
      × WroteTwo l (label_slot k.records x) (word (k.labels - k.labels_before)) (140 * k.records + 8 * k.labels) (encode_label x) (more_labels k) r.counters l'
      → NumbersLabel kind opener k l r l'
  unfolding label_id encode_label word bytes_of
  label_new b l' r small slot eb q m =
      let n : ℕ = k.labels - k.labels_before in
      let at₂ : ℕ = 140 * k.records + 8 * k.labels in
      let vs : List ℕ = encode_label x in
      let l₁ : List ℕ = splice l (label_slot k.records x) (word n) in
      let e : l' ≡ splice l₁ at₂ vs = m.1.wrote in
      let fit : label_slot k.records x + 4 ≤ length l = omega (arith, slot, room.arena) in
      let first-long : length l₁ ≡ length l = written-length l (label_slot k.records x) (word n) l₁ refl fit in
      let same : length l' ≡ length l = written-length l₁ at₂ vs l' e (omega (arith, room.arena, first-long)) ∙ first-long in
      let room₁ : Room k l₁ = omega (arith, room, first-long) in record {
        next = subst (λ (k' : Counters). Next (label_id x) k l r.value.0 k' l') (sym m.1.counts) (record {
          room = omega (arith, room, same);
          records = refl;
          stands = λ texts t h.
              let new : position (same_label x) t.state.labels ≡ none = label_nowhere texts t k l h kind opener i slot_has (sym eb ∙ q) in
              let count : n ≡ length t.state.labels = omega (arith, h.labels_hold.count, h.before.labels_before, length-append (all_labels t.done) t.state.labels) in
              added texts t (more_labels k) l' (position (same_label x) t.state.labels) (with_label x t.state) (length t.state.labels) r.value.0 new (m.0 ∙ count)
              (label_holds texts t k l₁ room₁ (slot-holds texts t k l room h x n l₁ slot new refl) x l' slot
              (written-word n l l₁ (label_slot k.records x) refl fit (omega (arith, room)) ∙ count) small e);
        });
        spent = same-spent (omega arith) m.1.counts;
        entry = inl m.1;
      }

-- ---- strings, as the code meets them: whether the string at the slot of the number o has a text of that number

module _ (o offset len i : ℕ) (k : Counters) (l : List ℕ) (room : Room k l) (inside : o < k.records) (ei : i ≡ word_at l (280 * k.records + 4 * o)) where
  pub string_at : (b : Bool) (r : WithCounters ℕ) → b ≡ string_is l k o i → b ≡ true → r.value ≡ i → r.counters ≡ k → NumbersString o offset len k l r l
  unfolding string_id
  string_at b r eb q e ek = record {
    next = λ texts apart own. subst (λ (k' : Counters). NextIn texts (string_id (entry_of_string texts.text offset len)) k l r.value k' l) (sym ek) (record {
      room = room;
      records = refl;
      stands = λ t h.
          let x : StringEntry = entry_of_string texts.text offset len in
          found texts t k l room h (position (same_string x) t.state.strings) (with_string x t.state) (length t.state.strings) i r.value
          (string_found k h.string_slots_hold h.strings_hold.count x o i own ei apart inside (sym eb ∙ q)) e;
    });
    spent = same-spent (omega arith) ek;
    entry = inr (record { counts = ek; same = refl });
  }

  pub string_nowhere : (b : Bool) (l' : List ℕ) (r : WithCounters ℕ) → k.strings < k.records → offset < 2 ^ 32 → len < 2 ^ 32 → b ≡ string_is l k o i → b ≡ false
      → (r.value ≡ k.strings) × StringAdded o offset len k l r.counters l' → NumbersString o offset len k l r l'
  unfolding string_id encode_string word bytes_of
  string_nowhere b l' r small ho hn eb q m =
      let n : ℕ = k.records in
      let at : ℕ = 196 * n + 8 * k.strings in
      let l₁ : List ℕ = splice l at (word offset ++ word len) in
      let long : length l₁ ≡ length l = written-length l at (word offset ++ word len) l₁ refl (omega (arith, room.arena)) in
      let linked : LinkWritten (236 * n) (280 * n) k.strings o o l₁ l' = record { wrote = m.1.wrote; order = omega arith; fit = omega (arith, long, room.arena) } in record {
        next = λ texts apart own.
            subst (λ (k' : Counters). NextIn texts (string_id (entry_of_string texts.text offset len)) k l r.value k' l') (sym m.1.counts) (record {
              room = omega (arith, room, long, linked-length linked);
              records = refl;
              stands = λ t h.
                  let x : StringEntry = entry_of_string texts.text offset len in
                  let count : k.strings ≡ length t.state.strings = h.strings_hold.count in
                  added texts t (more_strings k) l' (position (same_string x) t.state.strings) (with_string x t.state) (length t.state.strings) r.value
                  (string_missing k h.string_slots_hold count x o i own ei (sym eb ∙ q)) (m.0 ∙ count)
                  (string_holds texts t k l room h x o l₁ l' (record { offset = ho; len = hn; stands = refl }) small inside own
                  (number_unused k h.string_slots_hold count x o i own ei (sym eb ∙ q)) refl linked);
            });
        spent = same-spent (omega arith) m.1.counts;
        entry = inl m.1;
      }

-- ---- floats

float_bytes_lem : (e : FloatEntry) (a b c : ℕ) → a ≡ e.bits % 4294967296 → b ≡ e.bits / 4294967296 → c ≡ bool_number e.short
    → word a ++ word b ++ word c ++ word 0 ≡ encode_float e
unfolding encode_float
float_bytes_lem e a b c ea eb ec =
    rw (ea, eb, ec) (ap (λ (z : List ℕ). z ++ word (bool_number e.short) ++ word 0) (sym (wide-words e.bits)))

-- what a walk from the head of its bucket answered
module _ (f e : FloatEntry) (same : e ≡ f) (b c d p v : ℕ) (k : Counters) (l : List ℕ) (a : StdOption ℕ) (room : Room k l)
    (eb : b ≡ e.bits % 4294967296) (ec : (c ≡ e.bits / 4294967296) × (c < 4294967296)) (ed : d ≡ bool_number e.short)
    (ep : (p ≡ float_bucket k.records b c d) × (p < k.records)) (ev : (v ≡ float_head l k.records k.floats p) × (v ≤ k.floats))
    (es : Walks (λ j. word_at l (268 * k.records + 4 * j)) (float_words_at l (204 * k.records) b c d) v a) where
  float_bucket-is : p ≡ float_entry_bucket k.records e
  float_bucket-is = ep.0 ∙ rw (eb, ec.0, ed) refl

  float_head-is : v ≡ float_head l k.records k.floats (float_entry_bucket k.records e)
  float_head-is = ev.0 ∙ ap (λ (x : ℕ). float_head l k.records k.floats x) float_bucket-is

  float_walked : (r : StdOption ℕ) → a ≡ r → Walks (λ j. word_at l (268 * k.records + 4 * j)) (float_words_at l (204 * k.records) (e.bits % 4294967296) (e.bits / 4294967296) (bool_number e.short))
      (float_head l k.records k.floats (float_entry_bucket k.records e)) r
  float_walked r q =
      subst (λ (z : StdOption ℕ). Walks (λ j. word_at l (268 * k.records + 4 * j)) (float_words_at l (204 * k.records) (e.bits % 4294967296) (e.bits / 4294967296) (bool_number e.short))
      (float_head l k.records k.floats (float_entry_bucket k.records e)) z) q
      (subst (λ (u : ℕ). Walks (λ j. word_at l (268 * k.records + 4 * j)) (float_words_at l (204 * k.records) (e.bits % 4294967296) (e.bits / 4294967296) (bool_number e.short)) u a) float_head-is
      (rw (← eb, ← ec.0, ← ed) es))

  pub float_at : (r : WithCounters ℕ) (i : ℕ) → a ≡ Some i → r.value ≡ i → r.counters ≡ k → NumbersFloat f k l r l
  unfolding float_id
  float_at r i q ex ek = subst (λ (g : FloatEntry). NumbersFloat g k l r l) same (record {
    next = subst (λ (k' : Counters). Next (float_id e) k l r.value k' l) (sym ek) (record {
      room = room;
      records = refl;
      stands = λ texts t h. found texts t k l room h (position (same_float e) t.state.floats) (with_float e t.state) (length t.state.floats) i r.value
          (float_here texts t k l h e i (float_walked (Some i) q)) ex;
    });
    spent = same-spent (omega arith) ek;
    entry = inr (record { counts = ek; same = refl });
  })

  pub float_nowhere : (l' : List ℕ) (r : WithCounters ℕ) → k.floats < 2 * k.records → a ≡ None
      → (r.value ≡ k.floats)
      × WroteThree l (204 * k.records + 16 * k.floats) (word b ++ word c ++ word d ++ word 0) (268 * k.records + 4 * k.floats) (word v)
      (276 * k.records + 4 * p) (word k.floats) (more_floats k) r.counters l'
      → NumbersFloat f k l r l'
  unfolding float_id word bytes_of
  float_nowhere l' r small q m =
      let n : ℕ = k.records in
      let bucket : ℕ = float_entry_bucket k.records e in
      let head : ℕ = float_head l k.records k.floats bucket in
      let at : ℕ = 204 * n + 16 * k.floats in
      let at₂ : ℕ = 268 * n + 4 * k.floats in
      let l₁ : List ℕ = splice l at (encode_float e) in
      let w : l' ≡ splice (splice l₁ at₂ (word head)) (276 * n + 4 * bucket) (word k.floats) =
      m.1.wrote
      ∙ ap (λ (z : List ℕ). splice (splice (splice l at z) at₂ (word v)) (276 * n + 4 * p) (word k.floats)) (float_bytes_lem e b c d eb ec.0 ed)
      ∙ ap₂ (λ (y x : ℕ). splice (splice l₁ at₂ (word y)) (276 * n + 4 * x) (word k.floats)) float_head-is float_bucket-is in
      let inside : bucket < n = omega (arith, ep.1, float_bucket-is) in
      let long : length l₁ ≡ length l = written-length l at (encode_float e) l₁ refl (omega (arith, float_length e, room.arena)) in
      let linked : LinkWritten (268 * n) (276 * n) k.floats bucket head l₁ l' = record { wrote = w; order = omega arith; fit = omega (arith, inside, long, room.arena) } in
      subst (λ (g : FloatEntry). NumbersFloat g k l r l') same (record {
        next = subst (λ (k' : Counters). Next (float_id e) k l r.value k' l') (sym m.1.counts) (record {
          room = omega (arith, room, long, linked-length linked);
          records = refl;
          stands = λ texts t h.
              let new : position (same_float e) t.state.floats ≡ none = float_gone texts t k l h e (float_walked None q) in
              added texts t (more_floats k) l' (position (same_float e) t.state.floats) (with_float e t.state) (length t.state.floats) r.value new (m.0 ∙ h.floats_hold.count)
              (float_holds texts t k l room h e head l₁ l' (record { bits = omega (arith, ec.0, ec.1) }) small inside (float_start texts t k l h bucket) new refl linked);
        });
        spent = same-spent (omega arith) m.1.counts;
        entry = inl (record { counts = m.1.counts; wrote = w });
      })
