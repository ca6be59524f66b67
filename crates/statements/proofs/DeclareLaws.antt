-- A name declared behind a new variable: the scope with one name more, what stays of the scratch, and the steps up to there. The zero of a type, by its form.
-- By what `declare` owes, and the variable's type is one of the tree's. Assumes nothing.
use Rattle.std.specs.Prelude.{Some, None}
use Rattle.std.specs.Prelude as Std
use mathlib.Core.Path.{◌≡◌, refl, sym, ap, ◌∙◌, subst}
use mathlib.Core.Bool.{Bool, true, false}
use mathlib.Core.List.{List, []}
use mathlib.Core.Option.{Option, some}
use Prim.Native.Nat.{ℕ, zero, suc, ◌+◌, ◌*◌, ◌/◌, ◌%◌, ◌≤◌, ◌<◌}
use native.Mathlib.Omega.{arith}
use lib.Dec.{ltb}
use lib.ListN.{length, get_or}
use borrow.Author.Tests.{lt-ltb, le-ltb}
use Rattle.laws.specs.Fix.{pick}
use Rattle.records.specs.Words.{word_at, word_of, detail_of, records, A, B, C}
use Rattle.records.specs.declared.convert_error.ConvertError.{ConvertError}
use Rattle.records.proofs.GoodLaws.{declare-c}
use Rattle.syntax.specs.Syntax.{Text, TNull, Program}
use Rattle.syntax.specs.Count.{statement_records}
use Rattle.syntax.specs.Decode.{program, type_at, text_of, wide_of, bit}
use Rattle.syntax.specs.Places.{IsKind, TypeAt, statement_at}
use Rattle.syntax.proofs.Records.{statement_declare}
use Rattle.conversion.specs.ConvertError.{ConvertErrorKind, ok, err, AlreadyDeclared, BreakOutOfLoop, ContinueOutOfLoop, WouldPanic}
use Rattle.conversion.specs.Ir as Ir
use Rattle.conversion.specs.Ir.{FloatEntry, M, ◌>>=◌, ◌>>◌, pure, fail, lift, new_var}
use Rattle.conversion.specs.Scope as Def
use Rattle.conversion.specs.Scope.{Variable, find_in, declare}
use Rattle.conversion.specs.Expressions.{Functions}
use Rattle.conversion.specs.Statements.{zero_value, convert_declare}
use Rattle.types.specs.Fits.{IsType}
use Rattle.ir.specs.declared.structs.Counters.{Counters}
use Rattle.ir.specs.declared.structs.WithCounters.{WithCounters}
use Rattle.ir.specs.declared.structs.Operand.{Operand}
use Rattle.ir.specs.declared.structs.VarId.{VarId}
use Rattle.ir.specs.Amounts.{Amount, amount, both}
use Rattle.ir.specs.Floats.{entry}
use Rattle.ir.specs.Instructions.{var_of, operand_of}
use Rattle.ir.specs.Steps.{Next, Emits, AddsVar, NumbersFloat, named}
use Rattle.ir.proofs.StepLaws.{next_in, lift-stops, fail-stops, stop-first, then_stop}
use Rattle.scope.specs.declared.Scope.{Scope}
use Rattle.scope.specs.declared.Known.{Known}
use Rattle.scope.specs.Open.{variable_named, NameAfforded, Added, Taken, DeclareMeets, IsFound, FindMeets, open_variable, variables_at, loop_of, loop_number, scope_at}
use Rattle.scope.proofs.ScopeLaws.{declare-ok, declare-err, in_loop_lem}
use Rattle.keys.specs.Keys.{all_keys}
use Rattle.texts.specs.Texts.{has_text}
use Rattle.expressions.specs.Slots.{original_of, original_word, Asked}
use Rattle.expressions.proofs.OriginalLaws.{origin_text, kind-asked}
use Rattle.expressions.proofs.TakeLaws.{as_type}
use Rattle.statements.specs.Lent.{Converter, Stated, Finished}
use Rattle.statements.specs.Meets.{StepAnswer, gave, refused, Adds, Meets, texts_of}
use Rattle.statements.specs.Converting.{Converting, RoomFor, BehindAfforded, StaysFor}
use Rattle.statements.specs.declared.numbers.LabelKind.{LabelKind}
use Rattle.statements.specs.declared.numbers.LabelKind.TheVariants.{LoopStart, LoopEnd}
use Rattle.statements.specs.Labels.{label_number}
use Rattle.statements.specs.Parts.{emit_jump, loop_jump, zero_float}
use Rattle.statements.specs.Answers.{finished_of, Leaves, StatesAs, declare_steps, break_steps, continue_steps, loop_jump_steps}
use Rattle.statements.specs.Turns.{InTurn, TypedIn, TurnsStay}
use Rattle.statements.proofs.MeetLaws.{adds_in, adds_then, adds_seq, adds-pure, adds-most, adds_same, meets-gave, meets-refused, meets-same, meets_then, meets-lift}
use Rattle.statements.proofs.AddedLaws.{added-stays, added-turns, added-ready}
use Rattle.statements.proofs.StayLaws.{stays_refl}
use Rattle.statements.proofs.PartLaws.{break_parts, continue_parts}
use Rattle.statements.proofs.TurnLaws.{stay_typed}
use Rattle.statements.proofs.FitLaws.{forms, type-is}
use Rattle.statements.proofs.EmitLaws.{emit-adds, var_adds}
use Rattle.statements.proofs.StatedLaws.{states_gave, states_refused, states_same, states_most, seq_then, seq_not, leaves-same}

-- the variable v with the name in words A and B of record r
abbrev pub named_by : List ℕ → List ℕ → ℕ → VarId → Bool → Variable
named_by tree text r v constant = record { name = text_of tree text r A; constant = constant; var_id = var_of v }

-- ---- a name of the tree declared: v's, of a type of the tree, where a name more is afforded

module _ {tree text l s : List ℕ} {c : Converter} (p : Converting tree text l s c) (v : VarId) (few : c.scope.names < records tree) (typed : TypeAt tree v.1) where
  pub name_afforded : NameAfforded c.scope v
  name_afforded = record {
    names = omega (arith, few, p.ready.scoped.records_are);
    place = omega (arith, few, p.ready.keyed.good.few);
    type = omega (arith, typed.below, p.ready.keyed.good.few);
  }

  module _ (r : ℕ) (asked : Asked tree text s c.scope r) (constant : Bool) (s' : List ℕ) where
    -- the variable by the words that are written is the variable by its name
    by_name : variable_named text (original_word tree s r A) (original_word tree s r B) v constant ≡ named_by tree text r v constant
    by_name = rw (origin_text asked)

    module _ {sc' : Scope} (a : Added text (original_of tree s r) (original_word tree s r A) (original_word tree s r B) v constant c.scope s s' sc') where
      added-leaves : Leaves tree text 1 c s' sc'
      added-leaves = record {
        ready = added-ready asked name_afforded a typed p.ready;
        function = rw a.scope;
        inner = rw a.scope;
        least = rw a.scope (omega arith);
        most = rw a.scope (omega arith);
      }

    module _ {d : Std.Option Scope} (m : DeclareMeets text (original_of tree s r) (original_word tree s r A) (original_word tree s r B) v constant c.scope s s' d) where
      was-added : {sc' : Scope} → d ≡ Some sc' → Added text (original_of tree s r) (original_word tree s r A) (original_word tree s r B) v constant c.scope s s' sc'
      unfolding DeclareMeets
      was-added q = subst (λ (x : Std.Option Scope). DeclareMeets text (original_of tree s r) (original_word tree s r A) (original_word tree s r B) v constant c.scope s s' x) q m

      was-taken : d ≡ None → Taken text (original_of tree s r) (original_word tree s r A) (original_word tree s r B) v constant c.scope s s'
      unfolding DeclareMeets
      was-taken q = subst (λ (x : Std.Option Scope). DeclareMeets text (original_of tree s r) (original_word tree s r A) (original_word tree s r B) v constant c.scope s s' x) q m

      -- done: what stays, the scope that is left, and the definition's scope
      pub declared_stays : {sc' : Scope} → d ≡ Some sc' → StaysFor tree c s s'
      declared_stays q = added-stays asked name_afforded (was-added q) c.operands

      -- nothing was typed
      pub declared_turns : {sc' : Scope} → d ≡ Some sc' → TurnsStay tree s s'
      declared_turns q = added-turns asked name_afforded (was-added q)

      pub declared_types : {sc' : Scope} → d ≡ Some sc' → InTurn tree text s c → TypedIn tree text c s [] s'
      declared_types q i = stay_typed (declared_turns q) text (scope_at tree text s c.scope) c.turn i

      pub declared_leaves : {sc' : Scope} → d ≡ Some sc' → Leaves tree text 1 c s' sc'
      declared_leaves q = added-leaves (was-added q)

      pub declared_ok : {sc' : Scope} → d ≡ Some sc' → (place : ℕ)
          → declare (named_by tree text r v constant) place (scope_at tree text s c.scope) ≡ ok (scope_at tree text s' sc')
      declared_ok {sc' = sc'} q place = ap (λ (x : Variable). declare x place (scope_at tree text s c.scope)) (sym by_name) ∙ declare-ok tree text (original_of tree s r) (original_word tree s r A) (original_word tree s r B) v constant c.scope s s' sc' (was-added q) place

      -- taken: nothing is written, and the definition's error
      pub taken-same : d ≡ None → s' ≡ s
      taken-same q = (was-taken q).same

      pub taken-stays : d ≡ None → StaysFor tree c s s'
      taken-stays q = rw (taken-same q) (stays_refl tree c.scope.names c.operands s)

      pub declared_err : d ≡ None → (place : ℕ)
          → declare (named_by tree text r v constant) place (scope_at tree text s c.scope) ≡ err AlreadyDeclared place
      declared_err q place = ap (λ (x : Variable). declare x place (scope_at tree text s c.scope)) (sym by_name) ∙ declare-err tree text (original_of tree s r) (original_word tree s r A) (original_word tree s r B) v constant c.scope s s' (was-taken q) place

-- ---- a new variable of type y, and its name: with what follows, and refused

-- the steps up to the scope with the name, and then f, in the scope S
abbrev pub declared_then : {X : Type 0} → List ℕ → List ℕ → ℕ → Bool → ℕ → ℕ → Def.Scope → (Ir.VarId → Def.Scope → M X) → M X
declared_then tree text r constant place y S f =
    new_var y >>= (λ (x : Ir.VarId). lift (declare (record { name = text_of tree text r A; constant = constant; var_id = x }) place S) >>= (λ (sc1 : Def.Scope). f x sc1))

module _ {tree text l s : List ℕ} {c : Converter} (p : Converting tree text l s c) {y : ℕ} {made : WithCounters VarId} {l₁ : List ℕ}
    (long : length l₁ ≡ length l) (new : AddsVar y c.counters l made l₁) (few : c.scope.names < records tree) (typed : TypeAt tree y) where
  -- the variable's type is the one asked for
  pub var_typed : TypeAt tree made.value.1
  var_typed = subst (TypeAt tree) (sym new.typed) typed

  pub var_afforded : NameAfforded c.scope made.value
  var_afforded = name_afforded p made.value few var_typed

  module _ (r : ℕ) (asked : Asked tree text s c.scope r) (constant : Bool) (s' : List ℕ) {d : Std.Option Scope} (m : DeclareMeets text (original_of tree s r) (original_word tree s r A) (original_word tree s r B) made.value constant c.scope s s' d)
      {X : Type 0} (place : ℕ) (f : Ir.VarId → Def.Scope → M X) where
    pub variable_then : {sc' : Scope} {n : Amount} {l' : List ℕ} {a : StepAnswer X} → d ≡ Some sc'
        → Meets (texts_of tree text) (f (var_of made.value) (scope_at tree text s' sc')) n made.counters l₁ l' a
        → Meets (texts_of tree text) (declared_then tree text r constant place y (scope_at tree text s c.scope) f) (both (amount 0 1 0 0 0) n) c.counters l l' a
    variable_then q i =
        meets_then (texts_of tree text) (λ (x : Ir.VarId). lift (declare (record { name = text_of tree text r A; constant = constant; var_id = x }) place (scope_at tree text s c.scope)) >>= (λ (sc1 : Def.Scope). f x sc1))
        long (adds_in (texts_of tree text) (var_adds long new))
        (meets-lift (texts_of tree text) (λ (sc1 : Def.Scope). f (var_of made.value) sc1) new.next.room (declared_ok p made.value few var_typed r asked constant s' m q place) i)

    pub variable-not : {n : Amount} {e : ConvertError} → d ≡ None → e ≡ record { kind = AlreadyDeclared; place = place }
        → Meets (texts_of tree text) (declared_then tree text r constant place y (scope_at tree text s c.scope) f) n c.counters l l₁ (refused e)
    variable-not {e = e} q w =
        meets-refused (texts_of tree text) long
        (then_stop (texts_of tree text) (λ (x : Ir.VarId). lift (declare (record { name = text_of tree text r A; constant = constant; var_id = x }) place (scope_at tree text s c.scope)) >>= (λ (sc1 : Def.Scope). f x sc1))
        (next_in (texts_of tree text) new.next)
        (stop-first (texts_of tree text) (λ (sc1 : Def.Scope). f (var_of made.value) sc1)
        (lift-stops (texts_of tree text) (declare (named_by tree text r made.value constant) place (scope_at tree text s c.scope)) made.counters l₁ e.kind e.place
        (rw w (declared_err p made.value few var_typed r asked constant s' m q place)))))

-- the type of a variable that is found is one of the tree's, where those of the open names are
found_among : (v : Known) (tree text s : List ℕ) (n : ℕ) (u : List ℕ) (m : ℕ) → ((j : ℕ) → j < m → TypeAt tree (word_at s (8 * n + 16 * j + 12) / 2))
    → IsFound (Some v) (find_in u (variables_at text s n m)) → TypeAt tree v.var.1
unfolding IsFound find_in variables_at
found_among v tree text s n u zero t h = absurd h
found_among v tree text s n u (suc m) t h =
    go (found_among v tree text s n u m (λ j k. t j (omega arith))) (Ir.same_text u (open_variable text s (8 * n + 16 * m)).name) h
  where
    go : (IsFound (Some v) (find_in u (variables_at text s n m)) → TypeAt tree v.var.1)
        → (c : Bool) → IsFound (Some v) (elim c [ true ↦ some (open_variable text s (8 * n + 16 * m)) | false ↦ find_in u (variables_at text s n m) ]) → TypeAt tree v.var.1
    go rest true f = subst (λ (z : ℕ). TypeAt tree z) (sym (ap (λ z. z.ty) f.0)) (t m (omega arith))
    go rest false f = rest f

pub found-typed : {tree text l s : List ℕ} {c : Converter} → Converting tree text l s c → (u : List ℕ) (v : Known) → FindMeets text s c.scope u (Some v) → TypeAt tree v.var.1
found-typed {tree = tree} {text = text} {s = s} {c = c} p u v h =
    found_among v tree text s c.scope.records u c.scope.names
    (λ j i. subst (λ (z : ℕ). TypeAt tree (word_at s (8 * z + 16 * j + 12) / 2)) (sym p.ready.scoped.records_are) (p.ready.scoped.types j i)) h

-- ---- the zero of a type, by its form

pub less_picks : {X : Type 0} {f n : ℕ} (x y : X) → f < n → x ≡ pick (ltb f n) x y
unfolding pick
less_picks {f = f} {n = n} x y h = rw (lt-ltb f n h)

pub least_picks : {X : Type 0} {f n : ℕ} (x y : X) → n ≤ f → y ≡ pick (ltb f n) x y
unfolding pick
least_picks {f = f} {n = n} x y h = rw (le-ltb f n h)

pub zero_float-adds : {k k' : Counters} {l l₁ l' : List ℕ} {e : FloatEntry} {p : WithCounters ℕ} (v : VarId) (short : Bool) → e ≡ entry 0 short → length l₁ ≡ length l
    → NumbersFloat e k l p l₁ → length l' ≡ length l₁ → Emits (Ir.Copy (var_of v) (Ir.OFloat p.value)) p.counters l₁ k' l'
    → Adds (zero_float (var_of v) short) (amount 1 0 0 0 1) k l tt k' l'
unfolding zero_float
zero_float-adds {k = k} {l = l} {l₁ = l₁} {p = p} v short q h m d i =
    adds_then (λ (j : ℕ). Ir.emit (Ir.Copy (var_of v) (Ir.OFloat j)))
    (record { next = subst (λ (x : FloatEntry). Next (Ir.float_id x) k l p.value p.counters l₁) q m.next; spent = m.spent; long = h })
    (emit-adds d i)

-- Bool, Char and Byte have the bool, Address and Null the null
others : (P : Program) (F : Functions) (r : ℕ) (x : Ir.VarId) (s u : Bool) (a n : ℕ) (t : Text) (f : ℕ) → 1 ≤ f → (f ≡ 1 → ⊥) → (f ≡ 2 → ⊥) → (f ≡ 7 → ⊥) → (f ≡ 8 → ⊥)
    → zero_value P F r x (get_or (forms s u a n t) f TNull) ≡ Ir.emit (Ir.Copy x (operand_of (pick (ltb f 6) (Operand.Bool false) Operand.Null)))
unfolding zero_value pick
others P F r x s u a n t zero h n₁ n₂ n₇ n₈ = absurd (omega arith)
others P F r x s u a n t (suc zero) h n₁ n₂ n₇ n₈ = absurd (n₁ refl)
others P F r x s u a n t (suc (suc zero)) h n₁ n₂ n₇ n₈ = absurd (n₂ refl)
others P F r x s u a n t (suc (suc (suc zero))) h n₁ n₂ n₇ n₈ = refl
others P F r x s u a n t (suc (suc (suc (suc zero)))) h n₁ n₂ n₇ n₈ = refl
others P F r x s u a n t (suc (suc (suc (suc (suc zero))))) h n₁ n₂ n₇ n₈ = refl
others P F r x s u a n t (suc (suc (suc (suc (suc (suc zero)))))) h n₁ n₂ n₇ n₈ = refl
others P F r x s u a n t (suc (suc (suc (suc (suc (suc (suc zero))))))) h n₁ n₂ n₇ n₈ = absurd (n₇ refl)
others P F r x s u a n t (suc (suc (suc (suc (suc (suc (suc (suc zero)))))))) h n₁ n₂ n₇ n₈ = absurd (n₈ refl)
others P F r x s u a n t (suc (suc (suc (suc (suc (suc (suc (suc (suc zero))))))))) h n₁ n₂ n₇ n₈ = refl
others P F r x s u a n t (suc (suc (suc (suc (suc (suc (suc (suc (suc (suc f)))))))))) h n₁ n₂ n₇ n₈ =
    rw (le-ltb (suc (suc (suc (suc (suc (suc (suc (suc (suc (suc f)))))))))) 6 (omega arith))

module _ (tree text : List ℕ) (F : Functions) (r : ℕ) (v : VarId) (f : ℕ) (ef : f ≡ detail_of tree v.1 % 16) where
  abbrev zeros : M (Unit {0})
  zeros = zero_value (program tree text) F r (var_of v) (type_at tree text v.1)

  other-zero : {o : Operand} → 1 ≤ f → (f ≡ 1 → ⊥) → (f ≡ 2 → ⊥) → (f ≡ 7 → ⊥) → (f ≡ 8 → ⊥) → o ≡ pick (ltb f 6) (Operand.Bool false) Operand.Null
      → zeros ≡ Ir.emit (Ir.Copy (var_of v) (operand_of o))
  other-zero n₀ n₁ n₂ n₇ n₈ q =
      rw (q, type-is tree text v.1 f ef)
      (others (program tree text) F r (var_of v) (bit 16 (detail_of tree v.1)) (bit 32 (detail_of tree v.1)) (word_of tree v.1 A) (wide_of tree text v.1 B) (text_of tree text v.1 A) f n₀ n₁ n₂ n₇ n₈)

  pub zero_custom : {k : Counters} {l : List ℕ} {z : ConvertError} → f ≡ 8 → z ≡ record { kind = WouldPanic; place = r } → Meets (texts_of tree text) zeros (amount 1 0 0 0 1) k l l (refused z)
  unfolding zero_value
  zero_custom {k = k} {l = l} e w = meets-same {m = fail WouldPanic r} (texts_of tree text) (rw (type-is tree text v.1 f ef, e)) (meets-refused (texts_of tree text) refl (rw w (fail-stops (texts_of tree text) k l WouldPanic r)))

  module _ {k : Counters} {l l' : List ℕ} where
    emitted : {i : Ir.Instr} {k' : Counters} → zeros ≡ Ir.emit i → length l' ≡ length l → Emits i k l k' l' → Meets (texts_of tree text) zeros (amount 1 0 0 0 1) k l l' (gave tt k')
    emitted e h p = meets-gave (texts_of tree text) h (adds_in (texts_of tree text) (adds-most (adds_same (sym e) (emit-adds h p)) (omega arith)))

    pub zero_int : {k' : Counters} {short unsigned : Bool} → f ≡ 1 → short ≡ bit 16 (detail_of tree v.1) → unsigned ≡ bit 32 (detail_of tree v.1) → length l' ≡ length l
        → Emits (Ir.Copy (var_of v) (operand_of (Operand.Int 0 short unsigned))) k l k' l' → Meets (texts_of tree text) zeros (amount 1 0 0 0 1) k l l' (gave tt k')
    unfolding zero_value
    zero_int e s u h p = emitted (rw (type-is tree text v.1 f ef, e, s, u)) h p

    pub zero_float_lem : {k' : Counters} {short : Bool} → f ≡ 2 → short ≡ bit 16 (detail_of tree v.1) → Adds (zero_float (var_of v) short) (amount 1 0 0 0 1) k l tt k' l'
        → Meets (texts_of tree text) zeros (amount 1 0 0 0 1) k l l' (gave tt k')
    unfolding zero_value zero_float
    zero_float_lem e s p = meets-gave (texts_of tree text) p.long (adds_in (texts_of tree text) (adds_same (rw (type-is tree text v.1 f ef, e, s)) p))

    pub zero_array : {k' : Counters} → f ≡ 7 → length l' ≡ length l → Emits (Ir.Zero (var_of v)) k l k' l' → Meets (texts_of tree text) zeros (amount 1 0 0 0 1) k l l' (gave tt k')
    unfolding zero_value
    zero_array e h p = emitted (rw (type-is tree text v.1 f ef, e)) h p

    pub zero-other : {k' : Counters} {o : Operand} → 1 ≤ f → (f ≡ 1 → ⊥) → (f ≡ 2 → ⊥) → (f ≡ 7 → ⊥) → (f ≡ 8 → ⊥) → o ≡ pick (ltb f 6) (Operand.Bool false) Operand.Null
        → length l' ≡ length l → Emits (Ir.Copy (var_of v) (operand_of o)) k l k' l' → Meets (texts_of tree text) zeros (amount 1 0 0 0 1) k l l' (gave tt k')
    zero-other n₀ n₁ n₂ n₇ n₈ q h p = emitted (other-zero n₀ n₁ n₂ n₇ n₈ q) h p

-- ---- the Declare r

module _ {tree text l s : List ℕ} {c : Converter} (p : Converting tree text l s c) {r : ℕ} (i : IsKind tree 15 r) (h : BehindAfforded tree text c r) where
  declare-one : statement_records (statement_at tree text r) ≡ 1
  unfolding statement_records
  declare-one = rw (statement_declare tree text r i.kind)

  declare-asked : Asked tree text s c.scope r
  unfolding has_text
  declare-asked = kind-asked 15 refl p.ready i

  declare-few : c.scope.names < records tree
  declare-few = omega (arith, declare-one, h.names)

  declare-type : TypeAt tree (word_of tree r C)
  declare-type = let k = declare-c tree text p.ready.keyed.good r i.below i.kind in record { below = omega (arith, k.0, i.below); kind = k.1 }

  module _ {y : ℕ} (e : y ≡ word_of tree r C) {made : WithCounters VarId} {l₁ : List ℕ} (long : length l₁ ≡ length l) (new : AddsVar y c.counters l made l₁) where
    newly : AddsVar (word_of tree r C) c.counters l made l₁
    newly = subst (λ (z : ℕ). AddsVar z c.counters l made l₁) e new

    pub declare_asks : Asked tree text s c.scope r × NameAfforded c.scope made.value
    declare_asks = (declare-asked, var_afforded p long newly declare-few declare-type)

    pub zero_asks : RoomFor made.counters l₁ (amount 1 0 0 0 1) × IsType tree made.value.1 × (r < 4294967296)
    zero_asks = (
      record { room = new.next.room; affords = omega (arith, h.tables, new.spent) },
      as_type tree text p.ready.keyed.good made.value.1 (var_typed p long newly declare-few declare-type),
      omega (arith, i.below, p.ready.keyed.good.few),
    )

    module _ (s' : List ℕ) {d : Std.Option Scope} (m : DeclareMeets text (original_of tree s r) (original_word tree s r A) (original_word tree s r B) made.value false c.scope s s' d) where
      pub declare-taken : {z : ConvertError} → d ≡ None → z ≡ record { kind = AlreadyDeclared; place = r }
          → StatesAs declare_steps c r tree text l s (Stated.Refused z) l₁ s'
      unfolding convert_declare program
      declare-taken {z = z} q w =
          let n : Meets (texts_of tree text) (declare_steps tree text s c r) (amount 0 0 0 0 0) c.counters l l₁ (refused z) =
          variable-not p long newly declare-few declare-type r declare-asked false s' m r
          (λ (x : Ir.VarId) (S : Def.Scope). zero_value (program tree text) (all_keys tree text) r x (type_at tree text (word_of tree r C)) >> pure S) q w in
          states_refused long (n.stops z refl) (taken-stays p made.value declare-few (var_typed p long newly declare-few declare-type) r declare-asked false s' m q)

      pub declare-types : {sc' : Scope} → d ≡ Some sc' → InTurn tree text s c → TypedIn tree text c s [] s'
      declare-types q u = declared_types p made.value declare-few (var_typed p long newly declare-few declare-type) r declare-asked false s' m q u

      module _ {sc' : Scope} (q : d ≡ Some sc') {l₂ : List ℕ} (a : Finished)
          (zero : (t : List ℕ) (F : Functions) → Meets (texts_of tree t) (zero_value (program tree t) F r (var_of made.value) (type_at tree t made.value.1)) (amount 1 0 0 0 1) made.counters l₁ l₂ (finished_of tt a)) where
        zeroed : Meets (texts_of tree text) (zero_value (program tree text) (all_keys tree text) r (var_of made.value) (type_at tree text (word_of tree r C))) (amount 1 0 0 0 1) made.counters l₁ l₂ (finished_of tt a)
        zeroed =
            meets-same (texts_of tree text) (ap (λ (z : ℕ). zero_value (program tree text) (all_keys tree text) r (var_of made.value) (type_at tree text z)) newly.typed)
            (zero text (all_keys tree text))

        with_name : {n : Amount} {b : StepAnswer Def.Scope}
            → Meets (texts_of tree text) (zero_value (program tree text) (all_keys tree text) r (var_of made.value) (type_at tree text (word_of tree r C)) >> pure (scope_at tree text s' sc')) n made.counters l₁ l₂ b
            → Meets (texts_of tree text) (declare_steps tree text s c r) (both (amount 0 1 0 0 0) n) c.counters l l₂ b
        unfolding convert_declare program
        with_name z =
            variable_then p long newly declare-few declare-type r declare-asked false s' m r
            (λ (x : Ir.VarId) (S : Def.Scope). zero_value (program tree text) (all_keys tree text) r x (type_at tree text (word_of tree r C)) >> pure S) q z

        name_stayed : StaysFor tree c s s'
        name_stayed = declared_stays p made.value declare-few (var_typed p long newly declare-few declare-type) r declare-asked false s' m q

        pub declare-refused : {z : ConvertError} → a ≡ Finished.Refused z → StatesAs declare_steps c r tree text l s (Stated.Refused z) l₂ s'
        declare-refused {z = z} w =
            let n = with_name {n = amount 0 0 0 0 0} (seq_not (texts_of tree text) (pure (scope_at tree text s' sc')) zeroed.long (zeroed.stops z (ap (finished_of tt) w))) in
            states_refused n.long (n.stops z refl) name_stayed

        pub declare-done : {k : Counters} → a ≡ Finished.Done k → StatesAs declare_steps c r tree text l s (Stated.Done sc' k) l₂ s'
        declare-done {k = k} w =
            let z = zeroed.gives tt k (ap (finished_of tt) w) in
            let n = with_name (seq_then (texts_of tree text) (pure (scope_at tree text s' sc')) zeroed.long z
            (meets-gave (texts_of tree text) refl (adds_in (texts_of tree text) (adds-pure (scope_at tree text s' sc') k l₂ z.next.room)))) in
            states_most (omega arith) (omega (arith, declare-one))
            (states_gave n.long (n.gives (scope_at tree text s' sc') k refl)
            (declared_leaves p made.value declare-few (var_typed p long newly declare-few declare-type) r declare-asked false s' m q) name_stayed)

-- ---- the Break or Continue r: the jump of either, which leaves the scope

module _ {tree text l s : List ℕ} {c : Converter} (p : Converting tree text l s c) (r : ℕ) where
  abbrev scope : Def.Scope
  scope = scope_at tree text s c.scope

  -- a Break or Continue is its jump
  pub break_states : {a : Stated} {l' s' : List ℕ} → StatesAs (λ t u i d j. loop_jump_steps t u i d j LoopEnd BreakOutOfLoop) c r tree text l s a l' s'
      → StatesAs break_steps c r tree text l s a l' s'
  break_states i = states_same (sym (break_parts (program tree text) (all_keys tree text) r scope.in_loop scope)) i

  pub continue_states : {a : Stated} {l' s' : List ℕ} → StatesAs (λ t u i d j. loop_jump_steps t u i d j LoopStart ContinueOutOfLoop) c r tree text l s a l' s'
      → StatesAs continue_steps c r tree text l s a l' s'
  continue_states i = states_same (sym (continue_parts (program tree text) (all_keys tree text) r scope.in_loop scope)) i

  module _ (o : Std.Option ℕ) (m : loop_of o ≡ loop_number c.scope.inner) where
    loop-is : {x : Option ℕ} → loop_of o ≡ x → scope.in_loop ≡ x
    loop-is q = in_loop_lem tree text s c.scope o m ∙ q

    module _ (kind : LabelKind) (outside : ConvertErrorKind) where
      pub jump_outside : {z : ConvertError} → o ≡ None → z ≡ record { kind = outside; place = r }
          → StatesAs (λ t u i d j. loop_jump_steps t u i d j kind outside) c r tree text l s (Stated.Refused z) l s
      unfolding loop_jump
      jump_outside q w =
          states_same {m = fail outside r} (rw (loop-is (ap loop_of q)))
          (states_refused refl (rw w (fail-stops (texts_of tree text) c.counters l outside r)) (stays_refl tree c.scope.names c.operands s))

      pub jump_states : {x : ℕ} {k : Counters} {l' : List ℕ} → o ≡ Some x → Adds (emit_jump (named (label_number kind) x)) (amount 1 0 1 0 0) c.counters l tt k l'
          → StatesAs (λ t u i d j. loop_jump_steps t u i d j kind outside) c r tree text l s (Stated.Done c.scope k) l' s
      unfolding loop_jump
      jump_states {x = x} {k = k} {l' = l'} q a =
          let stays = stays_refl tree c.scope.names c.operands s in
          states_same {m = emit_jump (named (label_number kind) x) >> pure scope} (rw (loop-is (ap loop_of q)))
          (states_gave a.long (adds_in (texts_of tree text) (adds-most (adds_seq (pure scope) a (adds-pure scope k l' a.next.room)) (omega arith))) (leaves-same p stays) stays)
