-- What a condition, a Return and a call statement owe, as the code meets them: typing first, then the parts, in the scope from before.
-- By the laws of steps in a row; the return type is word D of the function's record, and amounts are arithmetic over the records. Assumes nothing.
use Rattle.std.specs.Prelude.{Ok, Err}
use Rattle.expressions.specs.declared.answers.Callee as Code-Callee
use mathlib.Core.Path.{◌≡◌, refl, sym, ap, ◌∙◌, subst}
use mathlib.Core.Logic.{◌⊎◌, inl, inr}
use mathlib.Core.Bool.{true}
use mathlib.Core.List.{List}
use mathlib.Core.Option.{Option, none as nothing, some}
use Prim.Native.Nat.{ℕ, ◌+◌, ◌*◌, ◌≤◌, ◌<◌}
use native.Mathlib.Omega.{arith}
use lib.Dec.{eqb, leb, ltb}
use lib.ListN.{length}
use borrow.Author.Tests.{eq-eqb, ne_eqb, leb-true, ltb-true, ltb-false}
use Rattle.laws.specs.Fix.{pick}
use Rattle.laws.proofs.Tests.{tested, and_left, and_right}
use Rattle.records.specs.declared.convert_error.ConvertError.{ConvertError}
use Rattle.records.specs.Words.{kind_of, word_of, records, none, A, C, D}
use Rattle.records.specs.Rules.{is_expr}
use Rattle.records.specs.Good.{Good}
use Rattle.records.proofs.GoodLaws.{return-a, call_statement-a}
use Rattle.syntax.specs.Syntax.{Text, Expr, Args, Program, Function, SCall, bool_type, place}
use Rattle.syntax.specs.Count.{under, args_records, expr_records, statement_records, args_under, args_values}
use Rattle.syntax.specs.Decode.{program, reference, text_of}
use Rattle.syntax.specs.Exprs.{exprs, args_exprs}
use Rattle.syntax.specs.Places.{IsExpr, IsKind, TypeAt, FunctionAt, function_of, expr_at, args_at, statement_at}
use Rattle.syntax.proofs.Records.{expr_int, expr_float, expr-str, expr-bool, expr-name, expr_null, expr_size_of, expr-unary, expr-binary, expr-call, statement_return, statement_call, function_rec, function-return, return-is}
use Rattle.conversion.specs.ConvertError.{NotBool, ReturnWithoutType, WrongReturnType, WouldPanic}
use Rattle.conversion.specs.Ir as Ir
use Rattle.conversion.specs.Ir.{Return, Call, M, ◌>>=◌, ◌>>◌, pure, fail, lift, emit}
use Rattle.conversion.specs.Scope as Def
use Rattle.conversion.specs.Expressions.{Functions, Callee, CallFunction, get_type, resolve_call}
use Rattle.conversion.specs.Statements.{as_call, fit_operand, convert_expr, convert_args, convert_cond, check_fits, return_as, convert_return, call_function, call_statement, convert_call}
use Rattle.conversion.specs.Visits.{typed_own}
use Rattle.conversion.proofs.MonadLaws.{regroup, seq_is}
use Rattle.conversion.proofs.Sizes.{args_count}
use Rattle.types.proofs.FromGood.{is_expr_lem}
use Rattle.ir.specs.declared.structs.Counters.{Counters}
use Rattle.ir.specs.declared.structs.Operand.{Operand}
use Rattle.ir.specs.Amounts.{Amount, amount, both}
use Rattle.ir.specs.Arena.{Room}
use Rattle.ir.specs.Instructions.{operand_of}
use Rattle.ir.specs.Steps.{Emits}
use Rattle.laws.proofs.FixLaws.{pick_yes, pick_no}
use Rattle.scope.specs.Open.{scope_at}
use Rattle.keys.specs.Keys.{all_keys}
use Rattle.expressions.specs.Answers.{OrRefused, refusal, outcome_of, callee_of, TypeMeets, CallMeets}
use Rattle.expressions.proofs.SlotLaws.{scope-frame}
use Rattle.expressions.proofs.TypingLaws.{expr-low, place_is}
use Rattle.statements.specs.Lent.{Converter, Converted, ConvertedArgs, Stated, Fitted}
use Rattle.statements.specs.Stack.{stack_at}
use Rattle.statements.specs.Meets.{Adds, AddsIn, texts_of}
use Rattle.statements.specs.Parts.{pass_args}
use Rattle.statements.specs.Converting.{Converting, with_counters, RoomFor, Afforded, ExprAfforded, ArgsAfforded, BehindAfforded, expr_amount, args_amount, behind_amount, StackIn, StaysFor}
use Rattle.statements.specs.Answers.{converted_args_of, Converts, ConvertsArgs, States, FitAdds, ConvertsAs, StatesAs, CallOnlyAs, expr_steps, cond_steps, args_steps, return_steps, return_as_steps, call_statement_steps, call_only_steps}
use Rattle.statements.specs.Turns.{InTurn, TypedIn, TurnsStay, expr_types, call_only_types, call_types, head_types, return_as_types, own_types}
use Rattle.statements.proofs.MeetLaws.{Most, adds_in, adds_then, adds_seq, adds-pure, adds_same, meets-gave, meets-refused, meets-same, meets-most, meets_then, meets-stop, meets-lift, meets-lift-stop}
use Rattle.statements.proofs.StayLaws.{names_then, frame-names, stays_refl, stays_then, frame-stays, converting_next}
use Rattle.statements.proofs.TurnLaws.{in_turn-next, typed-next, typed_stay}
use Rattle.statements.proofs.PlainTurns.{value-next}
use Rattle.statements.proofs.StatedLaws.{states_stop, states_same, states_most, states_kept, scope_later, type-stays, typed_then_lem, typed-not, operand_then, operand-not, seq_not, fails_as, checked_then_lem, checked_not}
use Rattle.statements.proofs.EmitLaws.{emit-adds}
use Rattle.statements.proofs.ConvertLaws.{converts-same, converted-next}

-- ---- a condition

module _ {tree text l s : List ℕ} {c : Converter} {e : ℕ} (p : Converting tree text l s c) (x : IsExpr tree e) {ty : OrRefused ℕ} {s₁ : List ℕ}
    (t : TypeMeets tree text s c.scope c.turn e ty s₁) where
  abbrev condition : ℕ → M Ir.Operand
  condition y = pick (eqb y bool_type) (expr_steps tree text s c e) (fail NotBool (place (expr_at tree text e)))

  pub cond_stop : {z : ConvertError} → ty ≡ Err z → ConvertsAs cond_steps c e tree text l s (Converted.Refused z) l s₁
  unfolding convert_cond
  cond_stop w = record {
    meets = typed-not p t condition w;
    operand = λ o k h. let z : ◌≡◌ {A = ℕ} 0 1 = cc in absurd (omega arith);
    stays = type-stays p t;
    names = frame-names t.frame;
  }

  module _ {y : ℕ} (w : ty ≡ Ok y) where
    pub cond_other : {z : ConvertError} → (y ≡ bool_type → ⊥) → z ≡ record { kind = NotBool; place = e } → ConvertsAs cond_steps c e tree text l s (Converted.Refused z) l s₁
    unfolding convert_cond
    cond_other n q = record {
      meets = typed_then_lem p t condition w
          (meets-same (texts_of tree text) (sym (pick_no (eqb y bool_type) (expr_steps tree text s c e) (fail NotBool (place (expr_at tree text e))) (ne_eqb y bool_type n)
          ∙ ap (λ (i : ℕ). fail {A = Ir.Operand} NotBool i) (place_is tree text p.ready.keyed.good e x))) (meets-refused (texts_of tree text) refl (fails_as (texts_of tree text) q)));
      operand = λ o k h. let z : ◌≡◌ {A = ℕ} 0 1 = cc in absurd (omega arith);
      stays = type-stays p t;
      names = frame-names t.frame;
    }

    pub cond_is : {a : Converted} {l₁ s₂ : List ℕ} → y ≡ bool_type → Converts tree text (expr_steps tree text s₁ c e) (expr_amount (under (expr_at tree text e))) c l s₁ a l₁ s₂
        → ConvertsAs cond_steps c e tree text l s a l₁ s₂
    unfolding convert_cond
    cond_is q i =
        let i' = converts-same (ap (λ (S : Def.Scope). convert_expr (program tree text) (all_keys tree text) (expr_at tree text e) S) (scope_later p (type-stays p t))) i in
        record {
          meets = typed_then_lem p t condition w
              (meets-same (texts_of tree text) (sym (pick_yes (eqb y bool_type) (expr_steps tree text s c e) (fail NotBool (place (expr_at tree text e))) (eq-eqb y bool_type q))) i'.meets);
          operand = i'.operand;
          stays = stays_then (omega arith) (omega arith) (type-stays p t) i'.stays;
          names = names_then (frame-names t.frame) i'.names;
        }

-- ---- a statement behind typing, which writes no table

module _ {tree text l s : List ℕ} {c : Converter} {e : ℕ} (p : Converting tree text l s c) {ty : OrRefused ℕ} {s₁ : List ℕ} (t : TypeMeets tree text s c.scope c.turn e ty s₁)
    (f : Def.Scope → ℕ → M Def.Scope) where
  abbrev typed_steps : M Def.Scope
  typed_steps = lift (get_type (program tree text) (all_keys tree text) (expr_at tree text e) (scope_at tree text s c.scope)) >>= f (scope_at tree text s c.scope)

  pub typed_states : {n : Amount} {q y : ℕ} {a : Stated} {l' s₂ : List ℕ} → ty ≡ Ok y → States tree text (f (scope_at tree text s₁ c.scope) y) n q c l s₁ a l' s₂
      → States tree text typed_steps n q c l s a l' s₂
  typed_states {y = y} w i =
      let i' = states_same (ap (λ (S : Def.Scope). f S y) (scope_later p (type-stays p t))) i in
      record {
        meets = typed_then_lem p t (f (scope_at tree text s c.scope)) w i'.meets;
        leaves = i'.leaves;
        stays = stays_then (omega arith) (omega arith) (type-stays p t) i'.stays;
      }

  pub typed-refused : {n : Amount} {q : ℕ} {z : ConvertError} → ty ≡ Err z → States tree text typed_steps n q c l s (Stated.Refused z) l s₁
  typed-refused w = states_stop (typed-not p t (f (scope_at tree text s c.scope)) w) (type-stays p t)

-- ---- the expression of a Return or of a call statement

module _ {tree text : List ℕ} (good : Good tree text) {r e : ℕ} (ee : e ≡ word_of tree r A) where
  lower : r < records tree → (word_of tree r A < r) × (is_expr (kind_of tree (word_of tree r A)) ≡ true) → IsExpr tree e
  lower low h = subst (λ (w : ℕ). IsExpr tree w) (sym ee) (is_expr_lem tree text good (word_of tree r A) (omega (arith, low, h.0)) h.1)

  pub return-expr : IsKind tree 17 r → IsExpr tree e
  return-expr x = lower x.below (return-a tree text good r x.below x.kind)

  pub called_expr : IsKind tree 18 r → IsExpr tree e
  called_expr x = lower x.below (call_statement-a tree text good r x.below x.kind)

  return-records : IsKind tree 17 r → statement_records (statement_at tree text r) ≡ 1 + (1 + under (expr_at tree text e))
  unfolding statement_records expr_records
  return-records x =
      ap statement_records (statement_return tree text good r x.below x.kind) ∙ ap (λ (w : ℕ). 1 + (1 + under (expr_at tree text w))) (sym ee)

  called_records : IsKind tree 18 r → statement_records (statement_at tree text r) ≡ 1 + (1 + under (expr_at tree text e))
  unfolding statement_records expr_records
  called_records x =
      ap statement_records (statement_call tree text good r x.below x.kind) ∙ ap (λ (w : ℕ). 1 + (1 + under (expr_at tree text w))) (sym ee)

-- ---- a Return of a value of type y where `expected` is the function's

module _ {tree text l s : List ℕ} {c : Converter} {r e : ℕ} (p : Converting tree text l s c) (f : BehindAfforded tree text c r) (x : IsKind tree 17 r)
    (ee : e ≡ word_of tree r A) where
  pub value_afforded : ExprAfforded tree text c e
  value_afforded = omega (arith, f, return-records p.ready.keyed.good ee x)

  module _ {v : Converted} {l₁ s₁ : List ℕ} (m : Converts tree text (expr_steps tree text s c e) (expr_amount (under (expr_at tree text e))) c l s v l₁ s₁)
      {o : Operand} {k : Counters} (w : v ≡ Converted.Is o k) where
    pub value_room : RoomFor k l₁ (amount 1 1 0 0 1)
    value_room = record {
      room = (converted-next m w).next.room;
      affords = omega (arith, f.tables, return-records p.ready.keyed.good ee x, (converted-next m w).spent);
    }

    pub fitted-room : (expected : ℕ) {g : Fitted} {l₂ : List ℕ} → FitAdds tree (fit_operand (program tree text) (operand_of o) expected) (amount 1 1 0 0 1) k l₁ g l₂
        → Room g.counters l₂ × (g.counters.instructions < 4 * g.counters.records)
    fitted-room expected i = (i.adds.next.room, omega (arith, f.tables, return-records p.ready.keyed.good ee x, (converted-next m w).spent, i.adds.spent))

  module _ (y expected : ℕ) where
    abbrev returned : M Def.Scope
    returned = return_as (program tree text) (all_keys tree text) r (expr_at tree text e) y (scope_at tree text s c.scope) (some expected)

    abbrev fits_in : M (Unit {0})
    fits_in = check_fits (program tree text) (all_keys tree text) (expr_at tree text e) y expected WrongReturnType r

    abbrev ended : Ir.Operand → M Def.Scope
    ended o = emit (Return o) >> pure (scope_at tree text s c.scope)

    abbrev fitted : Ir.Operand → M Def.Scope
    fitted o = fit_operand (program tree text) o expected >>= ended

    abbrev valued : M Def.Scope
    valued = expr_steps tree text s c e >>= fitted

    as_return : (n : Amount) {a : Stated} {l' s' : List ℕ} → Most n (behind_amount (1 + (1 + under (expr_at tree text e)))) → States tree text returned n 0 c l s a l' s'
        → StatesAs (λ t x s k q. return_as_steps t x s k q y expected) c r tree text l s a l' s'
    as_return n h i =
        states_most (omega (arith, h, return-records p.ready.keyed.good ee x)) (omega arith)
        (states_same (ap (λ (w : ℕ). return_as (program tree text) (all_keys tree text) r (expr_at tree text w) y (scope_at tree text s c.scope) (some expected)) ee) i)

    module _ (o : OrRefused (Unit {0})) (q : fits_in ≡ lift (outcome_of o)) where
      pub return_unfit : {z : ConvertError} → o ≡ Err z → StatesAs (λ t x s k q. return_as_steps t x s k q y expected) c r tree text l s (Stated.Refused z) l s
      unfolding return_as
      return_unfit w = as_return (amount 0 0 0 0 0) (omega arith) (states_stop (checked_not o q valued (texts_of tree text) w) (stays_refl tree c.scope.names c.operands s))

      module _ (fine : o ≡ Ok tt) {v : Converted} {l₁ s₁ : List ℕ}
          (m : Converts tree text (expr_steps tree text s c e) (expr_amount (under (expr_at tree text e))) c l s v l₁ s₁) where
        pub return-stop : {z : ConvertError} → v ≡ Converted.Refused z → StatesAs (λ t x s k q. return_as_steps t x s k q y expected) c r tree text l s (Stated.Refused z) l₁ s₁
        unfolding return_as
        return-stop w = as_return (amount 0 0 0 0 0) (omega arith) (states_stop (checked_then_lem o q valued (texts_of tree text) fine p.room (operand-not m fitted w)) m.stays)

        pub return-done : {a : Operand} {k k₃ : Counters} {g : Fitted} {l₂ l₃ : List ℕ} → v ≡ Converted.Is a k
            → FitAdds tree (fit_operand (program tree text) (operand_of a) expected) (amount 1 1 0 0 1) k l₁ g l₂
            → length l₃ ≡ length l₂ → Emits (Return (operand_of g.operand)) g.counters l₂ k₃ l₃
            → StatesAs (λ t x s k q. return_as_steps t x s k q y expected) c r tree text l s (Stated.Done c.scope k₃) l₃ s₁
        unfolding return_as
        return-done {k₃ = k₃} {l₃ = l₃} w i h j =
            let S = scope_at tree text s c.scope in
            let last = adds_then ended i.adds (adds_seq (pure S) (emit-adds h j) (adds-pure S k₃ l₃ j.next.room)) in
            let u = under (expr_at tree text e) in
            as_return (both (expr_amount u) (both (amount 1 1 0 0 1) (both (amount 1 0 0 0 0) (amount 0 0 0 0 0)))) (omega arith)
            (states_kept p m.stays (checked_then_lem o q valued (texts_of tree text) fine p.room (operand_then m fitted w (meets-gave (texts_of tree text) last.long (adds_in (texts_of tree text) last)))))

-- its value is typed in the turn as it is converted
pub return-types : {tree text s s' : List ℕ} (c : Converter) (r : ℕ) {e : ℕ} → e ≡ word_of tree r A → TypedIn tree text c s (expr_types tree text e) s' → TypedIn tree text c s (return_as_types tree text r) s'
return-types {tree = tree} {text = text} {s = s} {s' = s'} c r ee u = subst (λ (w : ℕ). TypedIn tree text c s (expr_types tree text w) s') ee u

-- ---- a Return, once its value is typed

module _ {tree text l s : List ℕ} {c : Converter} {r e : ℕ} (p : Converting tree text l s c) (x : IsKind tree 17 r) (ee : e ≡ word_of tree r A) {ty : OrRefused ℕ} {s₁ : List ℕ}
    (t : TypeMeets tree text s c.scope c.turn e ty s₁) where
  abbrev by_function : Def.Scope → ℕ → M Def.Scope
  by_function S y = return_as (program tree text) (all_keys tree text) r (expr_at tree text (word_of tree r A)) y S S.function.return_type

  typed : TypeMeets tree text s c.scope c.turn (word_of tree r A) ty s₁
  typed = subst (λ (w : ℕ). TypeMeets tree text s c.scope c.turn w ty s₁) ee t

  pub return_untyped : {z : ConvertError} → ty ≡ Err z → StatesAs return_steps c r tree text l s (Stated.Refused z) l s₁
  unfolding convert_return
  return_untyped w = typed-refused p typed by_function w

  pub return-next : {y : ℕ} {s₂ : List ℕ} → ty ≡ Ok y → TypedIn tree text c s₁ (return_as_types tree text r) s₂ → TypedIn tree text c s (head_types tree text r) s₂
  return-next w u = value-next p typed w u

  module _ {expected : ℕ} (ex : expected ≡ word_of tree c.scope.function D) where
    function-type : (s : List ℕ) → (scope_at tree text s c.scope).function.return_type ≡ pick (eqb expected none) nothing (some expected)
    unfolding scope_at reference
    function-type s =
        function-return tree text p.ready.keyed.good c.scope.function p.function ∙ ap (λ (w : ℕ). pick (eqb w none) nothing (some w)) (sym ex)

    pub expected_type_lem : (expected ≡ none → ⊥) → TypeAt tree expected
    expected_type_lem n = go (return-is tree text p.ready.keyed.good c.scope.function p.function)
      where
        go : (word_of tree c.scope.function D ≡ none) ⊎ TypeAt tree (word_of tree c.scope.function D) → TypeAt tree expected
        go (inl q) = absurd (n (ex ∙ q))
        go (inr h) = subst (λ (w : ℕ). TypeAt tree w) (sym ex) h

    module _ {y : ℕ} (w : ty ≡ Ok y) where
      pub return-none : {z : ConvertError} → expected ≡ none → z ≡ record { kind = ReturnWithoutType; place = r } → StatesAs return_steps c r tree text l s (Stated.Refused z) l s₁
      unfolding convert_return return_as
      return-none q h = typed_states p typed by_function w
          (states_same (ap (λ (o : Option ℕ). return_as (program tree text) (all_keys tree text) r (expr_at tree text (word_of tree r A)) y (scope_at tree text s₁ c.scope) o)
          (sym (function-type s₁ ∙ pick_yes (eqb expected none) nothing (some expected) (eq-eqb expected none q))))
          (states_stop (meets-refused (texts_of tree text) refl (fails_as (texts_of tree text) h)) (stays_refl tree c.scope.names c.operands s₁)))

      pub return_some : {a : Stated} {l₁ s₂ : List ℕ} → (expected ≡ none → ⊥)
          → StatesAs (λ t x s k q. return_as_steps t x s k q y expected) c r tree text l s₁ a l₁ s₂ → StatesAs return_steps c r tree text l s a l₁ s₂
      unfolding convert_return
      return_some n i = typed_states p typed by_function w
          (states_same (ap (λ (o : Option ℕ). return_as (program tree text) (all_keys tree text) r (expr_at tree text (word_of tree r A)) y (scope_at tree text s₁ c.scope) o)
          (sym (function-type s₁ ∙ pick_no (eqb expected none) nothing (some expected) (ne_eqb expected none n)))) i)

-- ---- a call alone

call_parts : (P : Program) (F : Functions) (f : Function) (given : Args) (os : List Ir.Operand) (S : Def.Scope)
    → (pass_args P f given os >> emit (Call nothing f.rec_of)) >> pure S ≡ call_function P F nothing f given os >> pure S
unfolding pass_args call_function
call_parts P F f given os S = simp (seq_is, regroup)

module _ {tree text l s : List ℕ} {c : Converter} {e : ℕ} (p : Converting tree text l s c) (f : ExprAfforded tree text c e) (x : IsKind tree 11 e) where
  abbrev values : Args
  values = args_at tree text (word_of tree e C)

  values_under : under (expr_at tree text e) ≡ args_records values
  unfolding under
  values_under = ap under (expr-call tree text p.ready.keyed.good e x.below x.kind)

  pub values_afforded : ArgsAfforded tree text c (word_of tree e C)
  values_afforded = omega (arith, f, values_under, args_count values)

  module _ {a : ConvertedArgs} {l₁ s₁ : List ℕ}
      (m : ConvertsArgs tree text (args_steps tree text s c (word_of tree e C)) (args_amount (args_under values) (args_values values)) (args_values values) c l s a l₁ s₁) where
    module _ (g : ℕ) where
      abbrev passed : List Ir.Operand → M Def.Scope
      passed os = call_function (program tree text) (all_keys tree text) nothing (function_of tree text g) values os >> pure (scope_at tree text s c.scope)

      pub values_stop : {z : ConvertError} → a ≡ ConvertedArgs.Refused z → CallOnlyAs (λ t x s k q. call_only_steps t x s k q g) c e tree text l s (Stated.Refused z) l₁ s₁
      values_stop {z = z} w = states_stop (meets-stop (texts_of tree text) passed m.meets.long (m.meets.stops z (ap (converted_args_of s₁ (records tree) c.operands) w))) m.stays

    module _ {count : ℕ} {k : Counters} (w : a ≡ ConvertedArgs.Done count k) where
      computed : AddsIn (texts_of tree text) (args_steps tree text s c (word_of tree e C)) (args_amount (args_under values) (args_values values)) c.counters l (stack_at s₁ (records tree) c.operands count) k l₁
      computed = m.meets.gives (stack_at s₁ (records tree) c.operands count) k (ap (converted_args_of s₁ (records tree) c.operands) w)

      pub values_converting : Converting tree text l₁ s₁ (with_counters c k)
      values_converting = converting_next p computed.next m.stays

      pub values_room : Afforded tree (with_counters c k) (amount (2 * count) count 0 0 count) count 0
      values_room = omega (arith, f, values_under, args_count values, computed.spent, (m.operands count k w).0)

      pub values_typed : StackIn tree s₁ c.operands count
      values_typed = (m.operands count k w).1

      pub values_types : {s₂ : List ℕ} → TypedIn tree text c s (call_only_types tree text e) s₁ → TurnsStay tree s₁ s₂ → TypedIn tree text c s (call_only_types tree text e) s₂
      values_types u i = typed_stay c u i

      module _ {u : M (Unit {0})} {k₁ : Counters} {l₂ : List ℕ} (i : Adds u (amount (2 * count) count 0 0 count) k l₁ tt k₁ l₂) where
        pub passed-room : Room k₁ l₂ × (k₁.instructions < 4 * k₁.records)
        passed-room = (i.next.room, omega (arith, f.tables, values_under, args_count values, computed.spent, (m.operands count k w).0, i.spent))

      pub values_called : (g : ℕ) {k₁ k₂ : Counters} {l₂ l₃ s₂ : List ℕ} → FunctionAt tree g
          → Adds (pass_args (program tree text) (function_of tree text g) values (stack_at s₁ (records tree) c.operands count)) (amount (2 * count) count 0 0 count) k l₁ tt k₁ l₂
          → StaysFor tree c s₁ s₂ → length l₃ ≡ length l₂ → Emits (Call nothing g) k₁ l₂ k₂ l₃
          → CallOnlyAs (λ t x s k q. call_only_steps t x s k q g) c e tree text l s (Stated.Done c.scope k₂) l₃ s₂
      values_called g {k₁ = k₁} {k₂ = k₂} {l₂ = l₂} {l₃ = l₃} at i st h j =
          let S = scope_at tree text s c.scope in
          let F = function_of tree text g in
          let os = stack_at s₁ (records tree) c.operands count in
          let j' : Adds (emit (Call nothing F.rec_of)) (amount 1 0 0 0 0) k₁ l₂ tt k₂ l₃ =
          subst (λ (z : ℕ). Adds (emit (Call nothing z)) (amount 1 0 0 0 0) k₁ l₂ tt k₂ l₃) (sym (function_rec tree text p.ready.keyed.good g at)) (emit-adds h j) in
          let last = adds_same (call_parts (program tree text) (all_keys tree text) F values os S)
          (adds_seq (pure S) (adds_seq (emit (Call nothing F.rec_of)) i j') (adds-pure S k₂ l₃ j.next.room)) in
          states_kept p (stays_then (omega arith) (omega arith) m.stays st)
          (meets-most (texts_of tree text) (meets_then (texts_of tree text) (passed g) m.meets.long computed (meets-gave (texts_of tree text) last.long (adds_in (texts_of tree text) last)))
          (omega (arith, values_under, args_count values, (m.operands count k w).0)))

-- ---- a call statement

module _ {tree text l s : List ℕ} {c : Converter} {r e : ℕ} (p : Converting tree text l s c) (f : BehindAfforded tree text c r) (x : IsKind tree 18 r)
    (ee : e ≡ word_of tree r A) where
  abbrev good : Good tree text
  good = p.ready.keyed.good

  pub statement_afforded : ExprAfforded tree text c e
  statement_afforded = omega (arith, f, called_records good ee x)

  -- what it types, by its expression
  own_types_lem : own_types tree text r ≡ typed_own (SCall r (expr_at tree text e))
  own_types_lem = ap typed_own (statement_call tree text good r x.below x.kind) ∙ ap (λ (w : ℕ). typed_own (SCall r (expr_at tree text w))) (sym ee)

  -- the expression is a call
  module _ (y : IsKind tree 11 e) {callee : OrRefused Code-Callee.Callee} {s₁ : List ℕ} (m : CallMeets tree text s c.scope c.turn e callee s₁) where
    abbrev called : Def.Scope → Callee → M Def.Scope
    called S to = call_statement (program tree text) (all_keys tree text) r (args_at tree text (word_of tree e C)) S to >> pure S

    abbrev only : Def.Scope → ℕ → M Def.Scope
    only S g = convert_args (program tree text) (all_keys tree text) (args_at tree text (word_of tree e C)) S
        >>= (λ os. call_function (program tree text) (all_keys tree text) nothing (function_of tree text g) (args_at tree text (word_of tree e C)) os >> pure S)

    is_called : lift (resolve_call (program tree text) (all_keys tree text) (text_of tree text e A) (args_at tree text (word_of tree e C)) (scope_at tree text s c.scope) e)
        >>= called (scope_at tree text s c.scope) ≡ call_statement_steps tree text s c r
    unfolding convert_call as_call
    is_called =
        ap (λ (z : Expr). convert_call (program tree text) (all_keys tree text) r z (scope_at tree text s c.scope)) (sym (expr-call tree text good e y.below y.kind))
        ∙ ap (λ (w : ℕ). convert_call (program tree text) (all_keys tree text) r (expr_at tree text w) (scope_at tree text s c.scope)) ee

    resolved_stays : StaysFor tree c s s₁
    resolved_stays = frame-stays c.scope.names c.operands m.frame

    pub resolved_stop : {z : ConvertError} → callee ≡ Err z → StatesAs call_statement_steps c r tree text l s (Stated.Refused z) l s₁
    unfolding callee_of refusal
    resolved_stop w = states_same is_called
        (states_stop (meets-lift-stop (texts_of tree text) (called (scope_at tree text s c.scope)) refl (m.meets ∙ ap (callee_of tree text) w)) resolved_stays)

    pub resolved_cast : {to : ℕ} {z : ConvertError} → callee ≡ Ok (Code-Callee.Callee.Cast to) → z ≡ record { kind = WouldPanic; place = r }
        → StatesAs call_statement_steps c r tree text l s (Stated.Refused z) l s₁
    unfolding callee_of call_statement
    resolved_cast w q = states_same is_called
        (states_stop (meets-lift (texts_of tree text) (called (scope_at tree text s c.scope)) p.room (m.meets ∙ ap (callee_of tree text) w)
        (seq_not {X = Unit {0}} (texts_of tree text) (pure (scope_at tree text s c.scope)) refl (fails_as (texts_of tree text) q))) resolved_stays)

    function_parts : (S : Def.Scope) (g : ℕ) → only S g ≡ called S (CallFunction (function_of tree text g))
    unfolding call_statement
    function_parts S g = simp (seq_is, regroup)

    pub resolved_function : {g : ℕ} {a : Stated} {l₁ s₂ : List ℕ} → callee ≡ Ok (Code-Callee.Callee.Function g)
        → CallOnlyAs (λ t x s k q. call_only_steps t x s k q g) c e tree text l s₁ a l₁ s₂ → StatesAs call_statement_steps c r tree text l s a l₁ s₂
    unfolding callee_of
    resolved_function {g = g} w i =
        let S = scope_at tree text s c.scope in
        let i' = states_most {n' = behind_amount (statement_records (statement_at tree text r))} {q' = statement_records (statement_at tree text r)} (omega (arith, called_records good ee x)) (omega arith)
        (states_same (ap (λ (Z : Def.Scope). only Z g) (scope-frame tree s s₁ m.frame text c.scope p.ready.scoped) ∙ function_parts S g) i) in
        states_same is_called (record {
          meets = meets-lift (texts_of tree text) (called S) p.room (m.meets ∙ ap (callee_of tree text) w) i'.meets;
          leaves = i'.leaves;
          stays = stays_then (omega arith) (omega arith) resolved_stays i'.stays;
        })

    call_types_lem : own_types tree text r ≡ call_types tree text e
    unfolding typed_own as_call
    call_types_lem = own_types_lem ∙ ap (λ (z : Expr). typed_own (SCall r z)) (expr-call tree text good e y.below y.kind)

    -- in the turn: its arguments are typed, and then converted
    arguments_typed : {g : ℕ} → callee ≡ Ok (Code-Callee.Callee.Function g) → TypedIn tree text c s (args_exprs (args_at tree text (word_of tree e C))) s₁
    unfolding callee_of
    arguments_typed {g = g} w = m.adds (CallFunction (function_of tree text g)) (ap (callee_of tree text) w)

    pub resolved_turn : {g : ℕ} → callee ≡ Ok (Code-Callee.Callee.Function g) → InTurn tree text s₁ c
    resolved_turn w = in_turn-next c (scope_later p resolved_stays) (arguments_typed w)

    pub resolved_types : {g : ℕ} {s₂ : List ℕ} → callee ≡ Ok (Code-Callee.Callee.Function g) → TypedIn tree text c s₁ (call_only_types tree text e) s₂ → TypedIn tree text c s (own_types tree text r) s₂
    resolved_types {s₂ = s₂} w u = subst (λ (z : List ℕ). TypedIn tree text c s z s₂) (sym call_types_lem) (typed-next c (scope_later p resolved_stays) (arguments_typed w) u)

  -- it is none: typed and never converted
  module _ {k : ℕ} (ek : k ≡ kind_of tree e) (other : k ≡ 11 → ⊥) {ty : OrRefused ℕ} {s₁ : List ℕ} (t : TypeMeets tree text s c.scope c.turn e ty s₁) where
    no_call : {X : Type 0} (d : X) (g : ℕ → Text → Args → X) → as_call (expr_at tree text e) d g ≡ d
    unfolding as_call
    no_call d g =
        let b = kind_of tree e in
        let z : IsExpr tree e = called_expr good ee x in
        let low : e < records tree = expr-low tree text good e z in
        let from : 2 ≤ b = leb-true 2 b (and_left (leb 2 b) (leb b 11) z.expression) in
        let to : b ≤ 11 = leb-true b 11 (and_right (leb 2 b) (leb b 11) z.expression) in
        tested (ltb b 3) (λ q. rw (expr_int tree text e (omega (arith, ltb-true b 3 q))))
        λ n₃. tested (ltb b 4) (λ q. rw (expr_float tree text e (omega (arith, ltb-true b 4 q, ltb-false b 3 n₃))))
        λ n₄. tested (ltb b 5) (λ q. rw (expr-str tree text e (omega (arith, ltb-true b 5 q, ltb-false b 4 n₄))))
        λ n₅. tested (ltb b 6) (λ q. rw (expr-bool tree text e (omega (arith, ltb-true b 6 q, ltb-false b 5 n₅))))
        λ n₆. tested (ltb b 7) (λ q. rw (expr-name tree text e (omega (arith, ltb-true b 7 q, ltb-false b 6 n₆))))
        λ n₇. tested (ltb b 8) (λ q. rw (expr_null tree text e (omega (arith, ltb-true b 8 q, ltb-false b 7 n₇))))
        λ n₈. tested (ltb b 9) (λ q. rw (expr_size_of tree text e (omega (arith, ltb-true b 9 q, ltb-false b 8 n₈))))
        λ n₉. tested (ltb b 10) (λ q. rw (expr-unary tree text good e low (omega (arith, ltb-true b 10 q, ltb-false b 9 n₉))))
        λ n₁₀. rw (expr-binary tree text good e low (omega (arith, ek, other, ltb-false b 10 n₁₀)))

    abbrev dropped : Def.Scope → ℕ → M Def.Scope
    dropped S y = pure S

    never_run : lift (get_type (program tree text) (all_keys tree text) (expr_at tree text e) (scope_at tree text s c.scope)) >>= dropped (scope_at tree text s c.scope)
        ≡ call_statement_steps tree text s c r
    unfolding convert_call
    never_run = sym (no_call _ _) ∙ ap (λ (w : ℕ). convert_call (program tree text) (all_keys tree text) r (expr_at tree text w) (scope_at tree text s c.scope)) ee

    pub typed-stop : {z : ConvertError} → ty ≡ Err z → StatesAs call_statement_steps c r tree text l s (Stated.Refused z) l s₁
    typed-stop w = states_same never_run (typed-refused p t dropped w)

    pub typed-only : {y : ℕ} → ty ≡ Ok y → StatesAs call_statement_steps c r tree text l s (Stated.Done c.scope c.counters) l s₁
    typed-only {y = y} w =
        let S = scope_at tree text s c.scope in
        let done = adds-pure S c.counters l p.room in
        states_most {q = 0} (omega arith) (omega arith) (states_same never_run (states_kept p (type-stays p t) (typed_then_lem p t (dropped S) w (meets-gave (texts_of tree text) done.long (adds_in (texts_of tree text) done)))))

    none-types : own_types tree text r ≡ exprs (expr_at tree text e)
    unfolding typed_own
    none-types = own_types_lem ∙ no_call (exprs (expr_at tree text e)) _

    pub only-types : {y : ℕ} → ty ≡ Ok y → TypedIn tree text c s (own_types tree text r) s₁
    only-types {y = y} w = subst (λ (z : List ℕ). TypedIn tree text c s z s₁) (sym none-types) (t.adds y w)
