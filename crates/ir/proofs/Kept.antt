-- The arena after an entry more: the table that grew holds it, and the other five hold what they held.
-- The entry is written at the end of its region's part, before or behind every other region's. Assumes nothing.
use mathlib.Core.Path.{◌≡◌, refl, sym, ◌∙◌, subst}
use mathlib.Core.List.{List, [], ◌∷◌, ◌++◌, append-nil, append_assoc}
use mathlib.Core.Option.{none}
use Prim.Native.Nat.{ℕ, ◌+◌, ◌*◌, ◌≤◌, ◌<◌}
use native.Mathlib.Omega.{arith}
use lib.ListN.{length, get_or}
use Rattle.laws.specs.All.{All}
use Rattle.laws.specs.Splice.{splice}
use Rattle.records.specs.Words.{word_at}
use Rattle.conversion.specs.Ir as Ir
use Rattle.conversion.specs.Ir.{State, LabelName, StringEntry, FloatEntry, position, same_label, same_float}
use Rattle.conversion.specs.Written.{bytes_of, word, encode_instr, encode_var, encode_label, encode_functions, encode_string, encode_float, all_code, all_vars, all_labels}
use Rattle.conversion.proofs.Bytes.{functions-length}
use Rattle.ir.specs.declared.structs.Counters.{Counters}
use Rattle.conversion.specs.Fits.{StringStands, FloatFits}
use Rattle.ir.specs.Arena.{Has, Table, NumberedTexts, TablesSoFar, LabelFits, HasSlot, label_slot, LabelSlots, float_entry_bucket, no_float, LinkedFloats, StringSlots, Holds, Room}
use Rattle.ir.specs.Steps.{grown, more_instructions, more_variables, more_labels, more_strings, more_floats}
use Rattle.ir.proofs.Entries.{has-before, has-behind, table_before, table-behind, table-grown}
use Rattle.ir.proofs.EntryLinks.{buckets, links_stay, links-behind, float_bucket_in}
use Rattle.ir.proofs.LinkLaws.{Start, start_low}
use Rattle.ir.proofs.LinkWrites.{LinkWritten, has-stays, table_stays, slots_stay, slots-between, before-stays, between_stays, behind-stays, links-more}
use Rattle.ir.proofs.SlotLaws.{slots-behind, slots-beside, slots-grown}
use Rattle.ir.proofs.StringLaws.{text_numbers, strings_stay, strings-behind, strings_around, strings-more}

-- a property of every entry, and of one more
pub all_more : {X : Type 0} (P : X → Type 0) (xs : List X) (x : X) → All P xs → P x → All P (xs ++ (x ∷ []))
all_more P [] x a p = (p, tt)
all_more P (y ∷ xs) x a p = (a.0, all_more P xs x a.1 p)

-- the state with one entry more
abbrev pub with_var : ℕ → State → State
with_var y s = record { vars = s.vars ++ (y ∷ []); labels = s.labels; strings = s.strings; floats = s.floats }

abbrev pub with_label : LabelName → State → State
with_label x s = record { vars = s.vars; labels = s.labels ++ (x ∷ []); strings = s.strings; floats = s.floats }

abbrev pub with_string : StringEntry → State → State
with_string x s = record { vars = s.vars; labels = s.labels; strings = s.strings ++ (x ∷ []); floats = s.floats }

abbrev pub with_float : FloatEntry → State → State
with_float x s = record { vars = s.vars; labels = s.labels; strings = s.strings; floats = s.floats ++ (x ∷ []) }

module _ (texts : NumberedTexts) (t : TablesSoFar) (k : Counters) (l : List ℕ) (room : Room k l) (h : Holds texts t k l) where
  functions_end : length (encode_functions 0 0 0 t.done) ≡ 32 * k.functions
  functions_end = functions-length 0 0 0 t.done ∙ omega (arith, h.before.functions_count)

  -- what a write behind the functions' tables leaves of them, and what one before the functions' entries leaves of those and the program's tables
  module _ (i : ℕ) (vs l' : List ℕ) (e : l' ≡ splice l i vs) (fit : i + length vs ≤ length l) where
    front : 196 * k.records ≤ i
        → Table encode_instr 32 (all_code t.done ++ t.code) (0 * k.records) k.instructions l'
        × Table encode_var 4 (all_vars t.done ++ t.state.vars) (128 * k.records) k.variables l'
        × Table encode_label 8 (all_labels t.done ++ t.state.labels) (140 * k.records) k.labels l'
        × Has l' (164 * k.records) (encode_functions 0 0 0 t.done)
    front b = (
      table_before h.instructions_hold i vs l' e fit (omega (arith, room.instructions_in)),
      table_before h.variables_hold i vs l' e fit (omega (arith, room.variables_in)),
      table_before h.labels_hold i vs l' e fit (omega (arith, room.labels_in)),
      has-before l i vs l' e fit (164 * k.records) (encode_functions 0 0 0 t.done) (omega (arith, functions_end, room.functions_listed)) h.functions_hold,
    )

    back : i + length vs ≤ 164 * k.records
        → Has l' (164 * k.records) (encode_functions 0 0 0 t.done)
        × Table encode_string 8 t.state.strings (196 * k.records) k.strings l'
        × Table encode_float 16 t.state.floats (204 * k.records) k.floats l'
        × LabelSlots k.records t.state.labels l'
        × LinkedFloats k.records t.state.floats l'
        × StringSlots texts.number k.records t.state.strings l'
    back b = (
      has-behind l i vs l' e fit (164 * k.records) (encode_functions 0 0 0 t.done) b h.functions_hold,
      table-behind h.strings_hold i vs l' e fit (omega arith),
      table-behind h.floats_hold i vs l' e fit (omega arith),
      slots-behind h.slots_hold i vs l' e fit (omega arith),
      links-behind h.float_links_hold (omega arith) i vs l' e fit (omega arith),
      strings-behind h.string_slots_hold i vs l' e fit (omega arith),
    )

  -- nothing emitted
  pub no_code : (s : State) (k' : Counters) (l' : List ℕ) → Holds texts (record { done = t.done; code = t.code; state = s }) k' l' → Holds texts (grown t [] s) k' l'
  no_code s k' l' g = subst (λ (c : List Ir.Instr). Holds texts (record { done = t.done; code = c; state = s }) k' l') (sym (append-nil t.code)) g

  pub emit-holds : (i : Ir.Instr) (l' : List ℕ) → k.instructions < 4 * k.records → l' ≡ splice l (32 * k.instructions) (encode_instr i)
      → Holds texts (grown t (i ∷ []) t.state) (more_instructions k) l'
  emit-holds i l' small e =
      let at : ℕ = 32 * k.instructions in
      let vs : List ℕ = encode_instr i in
      let w : length (encode_instr i) ≡ 32 = h.instructions_hold.width i in
      let fit : at + length vs ≤ length l = omega (arith, w, room.arena) in
      let end : at + length vs ≤ 128 * k.records = omega (arith, w) in
      let rest = back at vs l' e fit (omega arith) in
      record {
        instructions_hold =
            subst (λ (c : List Ir.Instr). Table encode_instr 32 c (0 * k.records) (k.instructions + 1) l')
            (append_assoc (all_code t.done) t.code (i ∷ []))
            (table-grown h.instructions_hold i at l' e fit (omega arith));
        variables_hold = table-behind h.variables_hold at vs l' e fit end;
        labels_hold = table-behind h.labels_hold at vs l' e fit (omega arith);
        functions_hold = rest.0;
        strings_hold = rest.1;
        floats_hold = rest.2;
        slots_hold = rest.3;
        float_links_hold = rest.4;
        string_slots_hold = rest.5;
        before = h.before;
        fits = h.fits;
      }

  pub var_holds : (y : ℕ) (l' : List ℕ) → k.variables < 3 * k.records → l' ≡ splice l (128 * k.records + 4 * k.variables) (encode_var y)
      → Holds texts (grown t [] (with_var y t.state)) (more_variables k) l'
  var_holds y l' small e =
      let at : ℕ = 128 * k.records + 4 * k.variables in
      let vs : List ℕ = encode_var y in
      let w : length (encode_var y) ≡ 4 = h.variables_hold.width y in
      let fit : at + length vs ≤ length l = omega (arith, w, room.arena) in
      let end : at + length vs ≤ 140 * k.records = omega (arith, w) in
      let rest = back at vs l' e fit (omega arith) in
      no_code (with_var y t.state) (more_variables k) l' (record {
        instructions_hold = table_before h.instructions_hold at vs l' e fit (omega (arith, room.instructions_in));
        variables_hold =
            subst (λ (c : List ℕ). Table encode_var 4 c (128 * k.records) (k.variables + 1) l')
            (append_assoc (all_vars t.done) t.state.vars (y ∷ []))
            (table-grown h.variables_hold y at l' e fit (omega arith));
        labels_hold = table-behind h.labels_hold at vs l' e fit end;
        functions_hold = rest.0;
        strings_hold = rest.1;
        floats_hold = rest.2;
        slots_hold = rest.3;
        float_links_hold = rest.4;
        string_slots_hold = rest.5;
        before = h.before;
        fits = h.fits;
      })

  -- a number at the slot of a label that is not there
  pub slot-holds : (x : LabelName) (m : ℕ) (l' : List ℕ) → HasSlot k.records x → position (same_label x) t.state.labels ≡ none
      → l' ≡ splice l (label_slot k.records x) (word m) → Holds texts t k l'
  unfolding word bytes_of
  slot-holds x m l' slot new e =
      let at : ℕ = label_slot k.records x in
      let fit : at + 4 ≤ length l = omega (arith, slot, room.arena) in
      let rest = front at (word m) l' e fit (omega arith) in
      record {
        instructions_hold = rest.0;
        variables_hold = rest.1;
        labels_hold = rest.2;
        functions_hold = rest.3;
        strings_hold = table_before h.strings_hold at (word m) l' e fit (omega (arith, room.strings_in));
        floats_hold = table_before h.floats_hold at (word m) l' e fit (omega (arith, room.floats_in));
        slots_hold = slots-beside h.slots_hold x m l' slot new e fit;
        float_links_hold = links-behind h.float_links_hold (omega arith) at (word m) l' e fit (omega (arith, slot));
        string_slots_hold = strings_around h.string_slots_hold (omega (arith, room.strings_in, h.strings_hold.count)) at (word m) l' e fit (omega arith) (omega (arith, slot));
        before = h.before;
        fits = h.fits;
      }

  -- a label whose number stands at its slot
  pub label_holds : (x : LabelName) (l' : List ℕ) → HasSlot k.records x → word_at l (label_slot k.records x) ≡ length t.state.labels
      → k.labels < 3 * k.records → l' ≡ splice l (140 * k.records + 8 * k.labels) (encode_label x) → Holds texts (grown t [] (with_label x t.state)) (more_labels k) l'
  label_holds x l' slot number small e =
      let at : ℕ = 140 * k.records + 8 * k.labels in
      let vs : List ℕ = encode_label x in
      let w : length (encode_label x) ≡ 8 = h.labels_hold.width x in
      let fit : at + length vs ≤ length l = omega (arith, w, room.arena) in
      let end : at + length vs ≤ 164 * k.records = omega (arith, w) in
      let rest = back at vs l' e fit end in
      no_code (with_label x t.state) (more_labels k) l' (record {
        instructions_hold = table_before h.instructions_hold at vs l' e fit (omega (arith, room.instructions_in));
        variables_hold = table_before h.variables_hold at vs l' e fit (omega (arith, room.variables_in));
        labels_hold =
            subst (λ (c : List LabelName). Table encode_label 8 c (140 * k.records) (k.labels + 1) l')
            (append_assoc (all_labels t.done) t.state.labels (x ∷ []))
            (table-grown h.labels_hold x at l' e fit (omega arith));
        functions_hold = rest.0;
        strings_hold = rest.1;
        floats_hold = rest.2;
        slots_hold = slots-behind (slots-grown h.slots_hold x slot number) at vs l' e fit (omega (arith, end));
        float_links_hold = rest.4;
        string_slots_hold = rest.5;
        before = h.before;
        fits = record { labels_fit = all_more LabelFits t.state.labels x h.fits.labels_fit (omega (arith, slot, room.small)); strings_stand = h.fits.strings_stand; floats_fit = h.fits.floats_fit };
      })

  -- a string, the number of its text, which no string has yet, and its own number at the slot of that
  module _ (x : StringEntry) (o : ℕ) (l₁ l' : List ℕ) (fits : StringStands texts.text x) (small : k.strings < k.records) (inside : o < k.records)
      (own : texts.number x.text ≡ o) (new : (j : ℕ) → j < length t.state.strings → text_numbers texts.number t.state.strings j ≡ o → ⊥)
      (e : l₁ ≡ splice l (196 * k.records + 8 * k.strings) (encode_string x)) (w : LinkWritten (236 * k.records) (280 * k.records) k.strings o o l₁ l') where
    pub string_holds : Holds texts (grown t [] (with_string x t.state)) (more_strings k) l'
    string_holds =
        let n : ℕ = k.records in
        let at : ℕ = 196 * n + 8 * k.strings in
        let vs : List ℕ = encode_string x in
        let wide_is : length (encode_string x) ≡ 8 = h.strings_hold.width x in
        let fit : at + length vs ≤ length l = omega (arith, wide_is, room.arena) in
        let end : at + length vs ≤ 204 * n = omega (arith, wide_is) in
        let rest = front at vs l₁ e fit (omega arith) in
        no_code (with_string x t.state) (more_strings k) l' (record {
          instructions_hold = table_stays w rest.0 (omega (arith, room.instructions_in));
          variables_hold = table_stays w rest.1 (omega (arith, room.variables_in));
          labels_hold = table_stays w rest.2 (omega (arith, room.labels_in));
          functions_hold = has-stays w (164 * n) (encode_functions 0 0 0 t.done) (omega (arith, functions_end, room.functions_listed)) rest.3;
          strings_hold = table_stays w (table-grown h.strings_hold x at l₁ e fit (omega arith)) (omega arith);
          floats_hold = table_stays w (table-behind h.floats_hold at vs l₁ e fit end) (omega (arith, room.floats_in));
          slots_hold = slots-between w (omega arith) (omega arith) (slots-behind h.slots_hold at vs l₁ e fit (omega (arith, end)));
          float_links_hold =
              links_stay (links-behind h.float_links_hold (omega arith) at vs l₁ e fit (omega (arith, end))) l'
              (λ i hi. between_stays w (276 * n + 4 * buckets (float_entry_bucket n) no_float t.state.floats i) (omega arith)
              (omega (arith, float_bucket_in n (get_or t.state.floats i no_float) (omega arith))))
              (λ i hi. between_stays w (268 * n + 4 * i) (omega arith) (omega (arith, room.floats_in, h.floats_hold.count)));
          string_slots_hold =
              strings-more (strings-behind h.string_slots_hold at vs l₁ e fit (omega (arith, end))) w (omega (arith, room.small)) (omega (arith, room.small)) x own inside
              h.strings_hold.count new;
          before = h.before;
          fits = record { labels_fit = h.fits.labels_fit; strings_stand = all_more (StringStands texts.text) t.state.strings x h.fits.strings_stand fits; floats_fit = h.fits.floats_fit };
        })

  -- a float, the link to the one before it in its bucket, and its number at the bucket's head
  module _ (x : FloatEntry) (v : ℕ) (l₁ l' : List ℕ) (fits : FloatFits x) (small : k.floats < 2 * k.records) (bucket-in : float_entry_bucket k.records x < k.records)
      (s : Start (buckets (float_entry_bucket k.records) no_float t.state.floats) (length t.state.floats) (float_entry_bucket k.records x) v)
      (new : position (same_float x) t.state.floats ≡ none)
      (e : l₁ ≡ splice l (204 * k.records + 16 * k.floats) (encode_float x))
      (w : LinkWritten (268 * k.records) (276 * k.records) k.floats (float_entry_bucket k.records x) v l₁ l') where
    pub float_holds : Holds texts (grown t [] (with_float x t.state)) (more_floats k) l'
    float_holds =
        let n : ℕ = k.records in
        let at : ℕ = 204 * n + 16 * k.floats in
        let vs : List ℕ = encode_float x in
        let wide_is : length (encode_float x) ≡ 16 = h.floats_hold.width x in
        let fit : at + length vs ≤ length l = omega (arith, wide_is, room.arena) in
        let end : at + length vs ≤ 236 * n = omega (arith, wide_is) in
        let rest = front at vs l₁ e fit (omega arith) in
        no_code (with_float x t.state) (more_floats k) l' (record {
          instructions_hold = table_stays w rest.0 (omega (arith, room.instructions_in));
          variables_hold = table_stays w rest.1 (omega (arith, room.variables_in));
          labels_hold = table_stays w rest.2 (omega (arith, room.labels_in));
          functions_hold = has-stays w (164 * n) (encode_functions 0 0 0 t.done) (omega (arith, functions_end, room.functions_listed)) rest.3;
          strings_hold = table_stays w (table_before h.strings_hold at vs l₁ e fit (omega (arith, room.strings_in))) (omega (arith, room.strings_in));
          floats_hold = table_stays w (table-grown h.floats_hold x at l₁ e fit (omega arith)) (omega arith);
          slots_hold = slots_stay w (omega arith) (slots-behind h.slots_hold at vs l₁ e fit (omega (arith, end)));
          float_links_hold =
              links-more w (omega (arith, room.small)) (omega (arith, room.small, start_low v s, h.floats_hold.count))
              (links-behind h.float_links_hold (omega arith) at vs l₁ e fit (omega (arith, end))) x refl h.floats_hold.count s new;
          string_slots_hold =
              strings_stay (strings-behind h.string_slots_hold at vs l₁ e fit end) l'
              (λ i hi. before-stays w (236 * n + 4 * i) (omega (arith, room.strings_in, h.strings_hold.count)))
              (λ i hi. behind-stays w (280 * n + 4 * text_numbers texts.number t.state.strings i) (omega arith));
          before = h.before;
          fits = record { labels_fit = h.fits.labels_fit; strings_stand = h.fits.strings_stand; floats_fit = all_more FloatFits t.state.floats x h.fits.floats_fit fits };
        })
