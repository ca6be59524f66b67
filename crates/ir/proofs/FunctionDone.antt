-- A function that is done: its entry stands behind the others', and what stood at hand is its body and its tables.
-- The entry's words are the running totals and the counts; the lists are joined anew. Assumes nothing.
use mathlib.Core.Path.{◌≡◌, refl, sym, ap, ◌∙◌, subst}
use mathlib.Core.Bool.{Bool, true, false}
use mathlib.Core.List.{List, [], ◌∷◌, ◌++◌, append-nil, append_assoc}
use mathlib.Core.Option.{none, some}
use Prim.Native.Nat.{ℕ, ◌+◌, ◌-◌, ◌*◌, ◌≤◌, ◌<◌}
use native.Mathlib.Omega.{arith}
use lib.ListN.{length, length-append}
use Rattle.laws.specs.Fix.{pick}
use Rattle.laws.specs.Splice.{splice}
use Rattle.conversion.specs.Ir as Ir
use Rattle.conversion.specs.Ir.{IrFunction, LabelName}
use Rattle.conversion.specs.Written.{bytes_of, word, bool_number, encode_instr, encode_var, encode_label, encode_functions, code_of, body_mark, all_code, all_vars, all_labels}
use Rattle.conversion.proofs.Bytes.{functions-length}
use Rattle.ir.specs.declared.structs.Counters.{Counters}
use Rattle.ir.specs.Arena.{Has, Table, NumberedTexts, TablesSoFar, Holds, Room}
use Rattle.ir.specs.Steps.{closed, next_function, Closes}
use Rattle.ir.proofs.Entries.{written-length, has-grown, table_before, table-behind}
use Rattle.ir.proofs.EntryLinks.{links-behind}
use Rattle.ir.proofs.StringLaws.{strings-behind}

-- an entry's eight words
abbrev entry : ℕ → ℕ → ℕ → IrFunction → List ℕ
entry i v l f =
    word f.func ++ word (body_mark f.body) ++ word i ++ word (length (code_of f.body)) ++ word v ++ word (length f.vars) ++ word l
    ++ word (length f.labels)

functions_more : (i v l : ℕ) (fs : List IrFunction) (f : IrFunction) → encode_functions i v l (fs ++ (f ∷ []))
    ≡ encode_functions i v l fs ++ entry (i + length (all_code fs)) (v + length (all_vars fs)) (l + length (all_labels fs)) f
unfolding encode_functions all_code all_vars all_labels word bytes_of
functions_more i v l [] f =
    let a : i ≡ i + 0 = omega arith in
    let b : v ≡ v + 0 = omega arith in
    let c : l ≡ l + 0 = omega arith in
    ap (λ (x : ℕ). entry x v l f) a ∙ ap (λ (x : ℕ). entry (i + 0) x l f) b ∙ ap (λ (x : ℕ). entry (i + 0) (v + 0) x f) c
functions_more i v l (g ∷ fs) f =
    let n : ℕ = length (code_of g.body) in
    let m : ℕ = length g.vars in
    let k : ℕ = length g.labels in
    let a : i + n + length (all_code fs) ≡ i + length (code_of g.body ++ all_code fs) = simp length-append (omega arith) in
    let b : v + m + length (all_vars fs) ≡ v + length (g.vars ++ all_vars fs) = simp length-append (omega arith) in
    let c : l + k + length (all_labels fs) ≡ l + length (g.labels ++ all_labels fs) = simp length-append (omega arith) in
    ap (λ (r : List ℕ). entry i v l g ++ r)
    (functions_more (i + n) (v + m) (l + k) fs f
    ∙ ap (λ (r : List ℕ). encode_functions (i + n) (v + m) (l + k) fs ++ r)
    (ap (λ (x : ℕ). entry x (v + m + length (all_vars fs)) (l + k + length (all_labels fs)) f) a
    ∙ ap (λ (x : ℕ). entry (i + length (code_of g.body ++ all_code fs)) x (l + k + length (all_labels fs)) f) b
    ∙ ap (λ (x : ℕ). entry (i + length (code_of g.body ++ all_code fs)) (v + length (g.vars ++ all_vars fs)) x f) c))

-- the functions' lists, with one function more
code-more : (fs : List IrFunction) (f : IrFunction) → all_code (fs ++ (f ∷ [])) ≡ all_code fs ++ code_of f.body
unfolding all_code
code-more [] f = append-nil (code_of f.body)
code-more (g ∷ fs) f = ap (λ (r : List Ir.Instr). code_of g.body ++ r) (code-more fs f) ∙ sym (append_assoc (code_of g.body) (all_code fs) (code_of f.body))

vars-more : (fs : List IrFunction) (f : IrFunction) → all_vars (fs ++ (f ∷ [])) ≡ all_vars fs ++ f.vars
unfolding all_vars
vars-more [] f = append-nil f.vars
vars-more (g ∷ fs) f = ap (λ (r : List ℕ). g.vars ++ r) (vars-more fs f) ∙ sym (append_assoc g.vars (all_vars fs) f.vars)

labels-more : (fs : List IrFunction) (f : IrFunction) → all_labels (fs ++ (f ∷ [])) ≡ all_labels fs ++ f.labels
unfolding all_labels
labels-more [] f = append-nil f.labels
labels-more (g ∷ fs) f = ap (λ (r : List LabelName). g.labels ++ r) (labels-more fs f) ∙ sym (append_assoc g.labels (all_labels fs) f.labels)

body-code : (body : Bool) (c : List Ir.Instr) → (body ≡ false → c ≡ []) → code_of (pick body (some c) none) ≡ c
unfolding code_of pick
body-code true c h = refl
body-code false c h = sym (h refl)

body_mark_lem : (body : Bool) (c : List Ir.Instr) → body_mark (pick body (some c) none) ≡ bool_number body
unfolding body_mark pick bool_number
body_mark_lem true c = refl
body_mark_lem false c = refl

module _ (r : ℕ) (body : Bool) (b : ℕ) (eb : b ≡ bool_number body) (k : Counters) (l l' : List ℕ) (room : Room k l) (small : k.functions < k.records) where
  abbrev words : List ℕ
  words =
      word r ++ word b ++ word k.instructions_before ++ word (k.instructions - k.instructions_before) ++ word k.variables_before
      ++ word (k.variables - k.variables_before) ++ word k.labels_before ++ word (k.labels - k.labels_before)

  abbrev place : ℕ
  place = 164 * k.records + 32 * k.functions

  words-length : length words ≡ 32
  unfolding word bytes_of
  words-length = refl

  module _ (e : l' ≡ splice l place words) where
    fit : place + length words ≤ length l
    fit = omega (arith, words-length, room.arena)

    module _ (texts : NumberedTexts) (t : TablesSoFar) (h : Holds texts t k l) (bare : body ≡ false → t.code ≡ []) where
      abbrev f : IrFunction
      f = record { func = r; body = pick body (some t.code) none; vars = t.state.vars; labels = t.state.labels }

      code-count : k.instructions - k.instructions_before ≡ length (code_of f.body)
      code-count = omega (arith, h.instructions_hold.count, h.before.instructions_before, length-append (all_code t.done) t.code, ap length (body-code body t.code bare))

      vars-count : k.variables - k.variables_before ≡ length t.state.vars
      vars-count = omega (arith, h.variables_hold.count, h.before.variables_before, length-append (all_vars t.done) t.state.vars)

      labels-count : k.labels - k.labels_before ≡ length t.state.labels
      labels-count = omega (arith, h.labels_hold.count, h.before.labels_before, length-append (all_labels t.done) t.state.labels)

      words-entry : words ≡ entry (0 + length (all_code t.done)) (0 + length (all_vars t.done)) (0 + length (all_labels t.done)) f
      words-entry =
          let a : k.instructions_before ≡ 0 + length (all_code t.done) = omega (arith, h.before.instructions_before) in
          let c : k.variables_before ≡ 0 + length (all_vars t.done) = omega (arith, h.before.variables_before) in
          let d : k.labels_before ≡ 0 + length (all_labels t.done) = omega (arith, h.before.labels_before) in
          rw (eb ∙ sym (body_mark_lem body t.code), code-count, vars-count, labels-count, a, c, d)

      code-list : all_code (t.done ++ (f ∷ [])) ++ [] ≡ all_code t.done ++ t.code
      code-list = append-nil _ ∙ code-more t.done f ∙ ap (λ (x : List Ir.Instr). all_code t.done ++ x) (body-code body t.code bare)

      vars-list : all_vars (t.done ++ (f ∷ [])) ++ [] ≡ all_vars t.done ++ t.state.vars
      vars-list = append-nil _ ∙ vars-more t.done f

      labels-list : all_labels (t.done ++ (f ∷ [])) ++ [] ≡ all_labels t.done ++ t.state.labels
      labels-list = append-nil _ ∙ labels-more t.done f

      function-holds : Holds texts (closed r body t) (next_function k) l'
      function-holds = record {
        instructions_hold = subst (λ (x : List Ir.Instr). Table encode_instr 32 x (0 * k.records) k.instructions l') (sym code-list)
            (table_before h.instructions_hold place words l' e fit (omega (arith, room.instructions_in)));
        variables_hold = subst (λ (x : List ℕ). Table encode_var 4 x (128 * k.records) k.variables l') (sym vars-list)
            (table_before h.variables_hold place words l' e fit (omega (arith, room.variables_in)));
        labels_hold = subst (λ (x : List LabelName). Table encode_label 8 x (140 * k.records) k.labels l') (sym labels-list)
            (table_before h.labels_hold place words l' e fit (omega (arith, room.labels_in)));
        functions_hold = subst (λ (x : List ℕ). Has l' (164 * k.records) x)
            (ap (λ (x : List ℕ). encode_functions 0 0 0 t.done ++ x) words-entry ∙ sym (functions_more 0 0 0 t.done f))
            (has-grown l place words l' e fit (164 * k.records) (encode_functions 0 0 0 t.done)
            (omega (arith, functions-length 0 0 0 t.done, h.before.functions_count)) h.functions_hold);
        strings_hold = table-behind h.strings_hold place words l' e fit (omega (arith, words-length));
        floats_hold = table-behind h.floats_hold place words l' e fit (omega (arith, words-length));
        slots_hold = record { has = λ i b. absurd (omega arith); number = λ i b. absurd (omega arith) };
        float_links_hold = links-behind h.float_links_hold (omega arith) place words l' e fit (omega (arith, words-length));
        string_slots_hold = strings-behind h.string_slots_hold place words l' e fit (omega (arith, words-length));
        before = record {
          functions_count = simp length-append (omega (arith, h.before.functions_count));
          instructions_before = h.instructions_hold.count ∙ ap length (sym code-list ∙ append-nil (all_code (t.done ++ (f ∷ []))));
          variables_before = h.variables_hold.count ∙ ap length (sym vars-list ∙ append-nil (all_vars (t.done ++ (f ∷ []))));
          labels_before = h.labels_hold.count ∙ ap length (sym labels-list ∙ append-nil (all_labels (t.done ++ (f ∷ []))));
        };
        fits = record { labels_fit = tt; strings_stand = h.fits.strings_stand; floats_fit = h.fits.floats_fit };
      }

    pub function-done : Closes r body k l (next_function k) l'
    function-done = record {
      room = omega (arith, room, written-length l place words l' e fit);
      counts = refl;
      stands = function-holds;
    }
