-- The Init, as the code meets it: a value assigned to a known variable, a new variable with its name and the copy, and which of both it is.
-- By the laws of steps in a row: the scope stays while the value is typed and converted; amounts are arithmetic over the value's records. Assumes nothing.
use Rattle.std.specs.Prelude as Std
use Rattle.std.specs.Prelude.{Ok, Err, Some, None}
use mathlib.Core.Path.{◌≡◌, refl, sym, ap, ap₂, ◌∙◌, subst}
use mathlib.Core.Bool.{Bool, true, false, ◌||◌}
use mathlib.Core.List.{List, [], ◌++◌}
use mathlib.Core.Option.{Option, none, some}
use Prim.Native.Nat.{ℕ, ◌+◌, ◌<◌}
use native.Mathlib.Omega.{arith}
use lib.Dec.{eqb}
use lib.ListN.{length}
use borrow.Author.Tests.{eq-eqb, ne_eqb}
use Rattle.laws.specs.Fix.{pick}
use Rattle.laws.specs.Different.{has}
use Rattle.laws.proofs.DifferentLaws.{has-append}
use Rattle.records.specs.declared.convert_error.ConvertError.{ConvertError}
use Rattle.records.specs.Words.{detail_of, word_of, records, A, B, C}
use Rattle.records.specs.Good.{Good}
use Rattle.records.proofs.GoodLaws.{init_detail, init_c}
use Rattle.syntax.specs.Syntax.{Text, Expr, Program, null_type, address_of_null}
use Rattle.syntax.specs.Count.{under, expr_records, statement_records}
use Rattle.syntax.specs.Decode.{program, bit, text_of}
use Rattle.syntax.specs.Exprs.{exprs}
use Rattle.syntax.specs.Places.{IsExpr, IsKind, TypeAt, expr_at, statement_at}
use Rattle.syntax.proofs.Records.{statement_init}
use Rattle.conversion.specs.ConvertError.{AssignToConstant, WrongAssignType, AlreadyDeclared}
use Rattle.conversion.specs.Ir as Ir
use Rattle.conversion.specs.Ir.{Copy, M, ◌>>=◌, ◌>>◌, pure, lift, emit}
use Rattle.conversion.specs.Scope as Def
use Rattle.conversion.specs.Scope.{Variable, find_variable}
use Rattle.conversion.specs.Expressions.{Functions, get_type}
use Rattle.conversion.specs.Statements.{fit_operand, convert_expr, check_fits, assign_to, convert_assign, init_new, init_by, convert_init}
use Rattle.conversion.specs.Visits.{typed_value}
use Rattle.conversion.proofs.MonadLaws.{regroup, seq_is}
use Rattle.types.specs.Fits.{IsType}
use Rattle.types.proofs.FromGood.{is_expr_lem}
use Rattle.ir.specs.declared.structs.Counters.{Counters}
use Rattle.ir.specs.declared.structs.VarId.{VarId}
use Rattle.ir.specs.declared.structs.Operand.{Operand}
use Rattle.ir.specs.declared.structs.WithCounters.{WithCounters}
use Rattle.ir.specs.Amounts.{Amount, amount}
use Rattle.ir.specs.Instructions.{operand_of, var_of}
use Rattle.ir.specs.Steps.{Emits, AddsVar}
use Rattle.scope.specs.declared.Scope.{Scope}
use Rattle.texts.specs.Texts.{has_text}
use Rattle.expressions.specs.Slots.{original_of, original_word, Asked, Ready}
use Rattle.expressions.proofs.OriginalLaws.{kind-asked}
use Rattle.scope.specs.declared.Known.{Known}
use Rattle.scope.specs.Open.{NameAfforded, scope_at, FindMeets, DeclareMeets}
use Rattle.scope.proofs.ScopeLaws.{find_some, find_unknown}
use Rattle.keys.specs.Keys.{all_keys}
use Rattle.expressions.specs.Answers.{OrRefused, outcome_of, IsTyped, TypeMeets}
use Rattle.expressions.proofs.OperandLaws.{first-type, type_of_lem}
use Rattle.expressions.proofs.TypingLaws.{is-typed}
use Rattle.expressions.proofs.TurnLaws.{typed-same}
use Rattle.statements.specs.Lent.{Converter, Converted, Stated, Fitted}
use Rattle.statements.specs.Converting.{Converting, with_counters, RoomFor, expr_amount, behind_amount, Afforded, ExprAfforded, BehindAfforded, StaysFor}
use Rattle.statements.specs.Meets.{StepAnswer, Adds, Meets, texts_of}
use Rattle.statements.specs.Parts.{copy_fitted, declare_init}
use Rattle.statements.specs.Answers.{FitAdds, Converts, StatesAs, DeclaresAs, expr_steps, init_steps, init_new_steps, assign_steps, assign_to_steps, declare_init_steps}
use Rattle.statements.specs.Turns.{InTurn, TypedIn, expr_types, value_types, assign_types, init_types}
use Rattle.statements.proofs.MeetLaws.{adds_then, adds_seq, adds-pure, adds-most, adds_in, meets-gave, meets-refused, meets-same, meets-most}
use Rattle.statements.proofs.StayLaws.{stays_refl, stays_then}
use Rattle.statements.proofs.TurnLaws.{in_turn-next, typed-next, typed-last}
use Rattle.statements.proofs.PlainTurns.{value-next}
use Rattle.statements.proofs.StatedLaws.{states_done, states_stop, states_same, states_kept, scope_later, type_converting, type-stays, typed_then_lem, typed-not, operand_then, operand-not, fails_as, checked_then_lem, checked_not}
use Rattle.statements.proofs.LeafLaws.{mark_bit}
use Rattle.statements.proofs.EmitLaws.{emit-adds}
use Rattle.statements.proofs.ConvertLaws.{converted-next, converting_after}
use Rattle.statements.proofs.DeclareLaws.{found-typed, declared_then, declared_types, var_afforded, var_typed, declared_stays, declared_leaves, taken-stays, variable_then, variable-not}

-- ---- the copy

pub copy-adds : {tree : List ℕ} (P : Program) (v : VarId) (src : Operand) {a : Fitted} {k k₂ : Counters} {l l₁ l₂ : List ℕ}
    → FitAdds tree (fit_operand P (operand_of src) v.1) (amount 1 1 0 0 1) k l a l₁ → length l₂ ≡ length l₁ → Emits (Copy (var_of v) (operand_of a.operand)) a.counters l₁ k₂ l₂
    → Adds (copy_fitted P (var_of v) (operand_of src)) (amount 2 1 0 0 1) k l tt k₂ l₂
unfolding copy_fitted
copy-adds P v src u h p = adds-most (adds_then (λ (o : Ir.Operand). emit (Copy (var_of v) o)) u.adds (emit-adds h p)) (omega arith)

-- ---- the parts in a row

module _ (P : Program) (F : Functions) where
  assign_parts : (r : ℕ) (e : Expr) (v : Variable) (sc : Def.Scope)
      → convert_expr P F e sc >>= (λ src. lift (get_type P F e sc) >>= (λ y. check_fits P F e y v.var_id.ty WrongAssignType r >> (copy_fitted P v.var_id src >> pure sc)))
      ≡ assign_to P F r e v sc
  unfolding assign_to copy_fitted
  assign_parts r e v sc = simp (seq_is, regroup)

  init_parts : (r : ℕ) (constant : Bool) (n : Text) (e : Expr) (sc : Def.Scope)
      → lift (get_type P F e sc) >>= (λ y. convert_expr P F e sc >>= (λ src. declare_init P F r constant n y src sc)) ≡ init_new P F r constant n e sc
  unfolding init_new declare_init
  init_parts r constant n e sc = refl

-- ---- the value of the Init r

module _ {tree text : List ℕ} (good : Good tree text) {r : ℕ} (x : IsKind tree 16 r) {e : ℕ} (ee : e ≡ word_of tree r C) where
  pub value-expr : IsExpr tree e
  value-expr =
      let h = init_c tree text good r x.below x.kind in
      subst (λ (z : ℕ). IsExpr tree z) (sym ee) (is_expr_lem tree text good (word_of tree r C) (omega (arith, h.0, x.below)) h.1)

  value-records : statement_records (statement_at tree text r) ≡ 1 + (1 + under (expr_at tree text e))
  unfolding statement_records expr_records
  value-records = ap statement_records (statement_init tree text good r x.below x.kind) ∙ ap (λ (z : ℕ). 1 + (1 + under (expr_at tree text z))) (sym ee)

  pub value_afforded : {c : Converter} → BehindAfforded tree text c r → ExprAfforded tree text c e
  value_afforded f = omega (arith, f, value-records)

  -- what checking asks, where the value has a type and the variable's is one
  pub value_checks : {ty : OrRefused ℕ} {y expected : ℕ} → IsTyped tree ty → ty ≡ Ok y → TypeAt tree expected
      → IsExpr tree e × IsType tree y × IsType tree expected × (e < 4294967296) × (r < 4294967296)
  value_checks {ty} {y} {expected} t w q =
      (value-expr, type_of_lem tree text good y (is-typed tree ty y t w), type_of_lem tree text good expected q, omega (arith, value-expr.inside, good.few), omega (arith, x.below, good.few))

-- ---- assigning to the variable v, behind the value

module _ {tree text l s : List ℕ} {c : Converter} {r : ℕ} (p : Converting tree text l s c) (f : BehindAfforded tree text c r) (x : IsKind tree 16 r) (v : VarId)
    {e : ℕ} (ee : e ≡ word_of tree r C) {a : Converted} {l₁ s₁ : List ℕ}
    (m : Converts tree text (expr_steps tree text s c e) (expr_amount (under (expr_at tree text e))) c l s a l₁ s₁) where
  abbrev assigned : Variable
  assigned = record { name = text_of tree text r A; constant = false; var_id = var_of v }

  abbrev checked_then : Ir.Operand → ℕ → M Def.Scope
  checked_then src y =
      check_fits (program tree text) (all_keys tree text) (expr_at tree text e) y v.1 WrongAssignType r
      >> (copy_fitted (program tree text) (var_of v) src >> pure (scope_at tree text s c.scope))

  abbrev typed_then : Def.Scope → Ir.Operand → M Def.Scope
  typed_then S src = lift (get_type (program tree text) (all_keys tree text) (expr_at tree text e) S) >>= (λ y. checked_then src y)

  assign_steps_lem : expr_steps tree text s c e >>= (λ src. typed_then (scope_at tree text s c.scope) src) ≡ assign_to_steps tree text s c r v
  assign_steps_lem =
      assign_parts (program tree text) (all_keys tree text) r (expr_at tree text e) assigned (scope_at tree text s c.scope)
      ∙ ap (λ (z : ℕ). assign_to (program tree text) (all_keys tree text) r (expr_at tree text z) assigned (scope_at tree text s c.scope)) ee

  pub assign-stop : {z : ConvertError} → a ≡ Converted.Refused z → StatesAs (λ t u i k j. assign_to_steps t u i k j v) c r tree text l s (Stated.Refused z) l₁ s₁
  assign-stop q = states_stop (meets-same (texts_of tree text) assign_steps_lem (operand-not m (λ src. typed_then (scope_at tree text s c.scope) src) q)) m.stays

  -- in the turn, once the value is converted
  module _ (u : TypedIn tree text c s (expr_types tree text e) s₁) where
    pub assign-turn : InTurn tree text s₁ c
    assign-turn = in_turn-next c (scope_later p m.stays) u

    pub assign_types_lem : {ty : OrRefused ℕ} {y : ℕ} {s₂ : List ℕ} → TypeMeets tree text s₁ c.scope c.turn e ty s₂ → ty ≡ Ok y → TypedIn tree text c s (assign_types tree text r) s₂
    assign_types_lem {y = y} {s₂ = s₂} t w =
        subst (λ (z : ℕ). TypedIn tree text c s (expr_types tree text z ++ exprs (expr_at tree text z)) s₂) ee (typed-next c (scope_later p m.stays) u (t.adds y w))

  module _ {o : Operand} {k : Counters} (q : a ≡ Converted.Is o k) where
    abbrev further : Converting tree text l₁ s₁ (with_counters c k)
    further = converting_after m q p

    pub copy-room : RoomFor k l₁ (amount 2 1 0 0 1)
    copy-room = record {
      room = further.room;
      affords = omega (arith, f.tables, value-records p.ready.keyed.good x ee, (converted-next m q).spent);
    }

    module _ {ty : OrRefused ℕ} {s₂ : List ℕ} (t : TypeMeets tree text s₁ c.scope c.turn e ty s₂) where
      both_stay : StaysFor tree c s s₂
      both_stay = stays_then (omega arith) (omega arith) m.stays (type-stays further t)

      value_then : {l' : List ℕ} {b : StepAnswer Def.Scope} → Meets (texts_of tree text) (typed_then (scope_at tree text s₁ c.scope) (operand_of o)) (amount 2 1 0 0 1) k l₁ l' b
          → Meets (texts_of tree text) (assign_to_steps tree text s c r v) (behind_amount (statement_records (statement_at tree text r))) c.counters l l' b
      value_then i =
          meets-same (texts_of tree text) assign_steps_lem (meets-most (texts_of tree text) (operand_then m (λ src. typed_then (scope_at tree text s c.scope) src) q
          (meets-same (texts_of tree text) (ap (λ (S : Def.Scope). typed_then S (operand_of o)) (scope_later p m.stays)) i)) (omega (arith, value-records p.ready.keyed.good x ee)))

      pub assign_untyped : {z : ConvertError} → ty ≡ Err z → StatesAs (λ t u i k j. assign_to_steps t u i k j v) c r tree text l s (Stated.Refused z) l₁ s₂
      assign_untyped w = states_stop (value_then (typed-not further t (λ y. checked_then (operand_of o) y) w)) both_stay

      module _ {y : ℕ} (w : ty ≡ Ok y) {g : OrRefused (Unit {0})}
          (h : check_fits (program tree text) (all_keys tree text) (expr_at tree text e) y v.1 WrongAssignType r ≡ lift (outcome_of g)) where
        pub assign_unfit : {z : ConvertError} → g ≡ Err z → StatesAs (λ t u i k j. assign_to_steps t u i k j v) c r tree text l s (Stated.Refused z) l₁ s₂
        assign_unfit d =
            states_stop (value_then (typed_then_lem further t (λ y. checked_then (operand_of o) y) w
            (checked_not g h (copy_fitted (program tree text) (var_of v) (operand_of o) >> pure (scope_at tree text s c.scope)) (texts_of tree text) d))) both_stay

        pub assign-done : {k₂ : Counters} {l₂ : List ℕ} → g ≡ Ok tt → Adds (copy_fitted (program tree text) (var_of v) (operand_of o)) (amount 2 1 0 0 1) k l₁ tt k₂ l₂
            → StatesAs (λ t u i k j. assign_to_steps t u i k j v) c r tree text l s (Stated.Done c.scope k₂) l₂ s₂
        assign-done {k₂ = k₂} {l₂ = l₂} d i =
            let S : Def.Scope = scope_at tree text s c.scope in
            states_kept p both_stay (value_then (typed_then_lem further t (λ y. checked_then (operand_of o) y) w
            (meets-most (texts_of tree text) (checked_then_lem g h (copy_fitted (program tree text) (var_of v) (operand_of o) >> pure S) (texts_of tree text) d further.room
            (meets-gave (texts_of tree text) i.long (adds_in (texts_of tree text) (adds_seq (pure S) i (adds-pure S k₂ l₂ i.next.room))))) (omega arith))))

-- ---- a known name: refused where it is constant

module _ {tree text l s : List ℕ} {c : Converter} (r : ℕ) (v : VarId) {constant : Bool} where
  pub assign-constant : {z : ConvertError} → constant ≡ true → z ≡ record { kind = AssignToConstant; place = r }
      → StatesAs (λ t u i k j. assign_steps t u i k j v constant) c r tree text l s (Stated.Refused z) l s
  unfolding convert_assign pick
  assign-constant {z} h w =
      states_stop (meets-same (texts_of tree text) (ap (λ (b : Bool). assign_steps tree text s c r v b) (sym h))
      (meets-refused (texts_of tree text) refl (fails_as (texts_of tree text) w))) (stays_refl tree c.scope.names c.operands s)

  pub assign_plain : {a : Stated} {l' s' : List ℕ} → constant ≡ false → StatesAs (λ t u i k j. assign_to_steps t u i k j v) c r tree text l s a l' s'
      → StatesAs (λ t u i k j. assign_steps t u i k j v constant) c r tree text l s a l' s'
  unfolding convert_assign pick
  assign_plain h i = states_same (ap (λ (b : Bool). assign_steps tree text s c r v b) (sym h)) i

-- it is converted and then typed: the same records as of a new name's value
pub known-types : {tree text s s' : List ℕ} (c : Converter) (r : ℕ) → TypedIn tree text c s (assign_types tree text r) s' → TypedIn tree text c s (init_types tree text r) s'
unfolding typed_value
known-types {tree = tree} {text = text} {s = s} {s' = s'} c r u =
    let a : List ℕ = expr_types tree text (word_of tree r C) in
    let b : List ℕ = exprs (expr_at tree text (word_of tree r C)) in
    typed-same tree text (scope_at tree text s c.scope) c.turn s s' (a ++ b) (b ++ a)
    (λ q h. has-append q a b ∙ either (has q a) (has q b) ∙ sym (has-append q b a)) u
  where
    either : (x y : Bool) → (x || y) ≡ (y || x)
    either true true = refl
    either true false = refl
    either false true = refl
    either false false = refl

-- ---- a new name, behind its value

-- an Init's name can be looked for
pub init_asked : {tree text s : List ℕ} {sc : Scope} {r : ℕ} → Ready tree text s sc → IsKind tree 16 r → Asked tree text s sc r
unfolding has_text
init_asked h i = kind-asked 16 refl h i

-- the copy of the value, behind the name
abbrev copied : Operand → Ir.VarId → Def.Scope → M Def.Scope
copied src v sc = emit (Copy v (operand_of src)) >> pure sc

module _ {tree text l s : List ℕ} {c : Converter} {r y : ℕ} (p : Converting tree text l s c) (f : Afforded tree c (amount 1 1 0 0 0) 0 1) (x : IsKind tree 16 r)
    (t : TypeAt tree y) {z : ℕ} (ez : z ≡ pick (eqb y null_type) address_of_null y) where
  pub new_type_lem : TypeAt tree z
  unfolding pick
  new_type_lem = subst (λ (w : ℕ). TypeAt tree w) (sym ez) (go (eqb y null_type))
    where
      go : (b : Bool) → TypeAt tree (pick b address_of_null y)
      go true = first-type tree text p.ready.keyed.good r x.below (λ h. omega (arith, h, x.kind)) address_of_null (omega arith)
      go false = t

  abbrev more-names : c.scope.names < records tree
  more-names = omega (arith, f.names)

  declare_steps_lem : (src : Operand) {d : ℕ} → d ≡ detail_of tree r
      → declared_then tree text r (eqb d 1) r z (scope_at tree text s c.scope) (copied src) ≡ declare_init_steps tree text s c r y src
  unfolding declare_init
  declare_steps_lem src ed = ap₂ (λ (b : Bool) (w : ℕ). declared_then tree text r b r w (scope_at tree text s c.scope) (copied src)) (mark_bit ed (init_detail tree text p.ready.keyed.good r x.below x.kind)) ez

  module _ {made : WithCounters VarId} {l₁ : List ℕ} (long : length l₁ ≡ length l) (new : AddsVar z c.counters l made l₁) where
    pub new_requires : Asked tree text s c.scope r × NameAfforded c.scope made.value
    new_requires = (init_asked p.ready x, var_afforded p long new more-names new_type_lem)

    module _ (src : Operand) {d : ℕ} (ed : d ≡ detail_of tree r) {s' : List ℕ} {g : Std.Option Scope}
        (m : DeclareMeets text (original_of tree s r) (original_word tree s r A) (original_word tree s r B) made.value (eqb d 1) c.scope s s' g) where
      pub new-taken : {e : ConvertError} → g ≡ None → e ≡ record { kind = AlreadyDeclared; place = r }
          → DeclaresAs (λ t u i k j. declare_init_steps t u i k j y src) c r tree text l s (Stated.Refused e) l₁ s'
      new-taken q w =
          states_stop (meets-same (texts_of tree text) (declare_steps_lem src ed) (variable-not p long new more-names new_type_lem r (init_asked p.ready x) (eqb d 1) s' m r (copied src) q w))
          (taken-stays p made.value more-names (var_typed p long new more-names new_type_lem) r (init_asked p.ready x) (eqb d 1) s' m q)

      pub new-types : {sc : Scope} → g ≡ Some sc → InTurn tree text s c → TypedIn tree text c s [] s'
      new-types q i = declared_types p made.value more-names (var_typed p long new more-names new_type_lem) r (init_asked p.ready x) (eqb d 1) s' m q i

      pub new_declared : {sc : Scope} {k₂ : Counters} {l₂ : List ℕ} → g ≡ Some sc → length l₂ ≡ length l₁ → Emits (Copy (var_of made.value) (operand_of src)) made.counters l₁ k₂ l₂
          → DeclaresAs (λ t u i k j. declare_init_steps t u i k j y src) c r tree text l s (Stated.Done sc k₂) l₂ s'
      new_declared {sc} {k₂} {l₂} q h i =
          let at : TypeAt tree made.value.1 = var_typed p long new more-names new_type_lem in
          let S : Def.Scope = scope_at tree text s' sc in
          states_done (meets-same (texts_of tree text) (declare_steps_lem src ed) (meets-most (texts_of tree text) (variable_then p long new more-names new_type_lem r (init_asked p.ready x) (eqb d 1) s' m r (copied src) q
          (meets-gave (texts_of tree text) h (adds_in (texts_of tree text) (adds_seq (pure S) (emit-adds h i) (adds-pure S k₂ l₂ i.next.room))))) (omega arith)))
          (declared_leaves p made.value more-names at r (init_asked p.ready x) (eqb d 1) s' m q)
          (declared_stays p made.value more-names at r (init_asked p.ready x) (eqb d 1) s' m q)

-- ---- a new name, from its value on

module _ {tree text l s : List ℕ} {c : Converter} {r : ℕ} (p : Converting tree text l s c) (f : BehindAfforded tree text c r) (x : IsKind tree 16 r)
    {e : ℕ} (ee : e ≡ word_of tree r C) {ty : OrRefused ℕ} {s₁ : List ℕ} (t : TypeMeets tree text s c.scope c.turn e ty s₁) where
  abbrev declared : Def.Scope → ℕ → Ir.Operand → M Def.Scope
  declared S y src = declare_init (program tree text) (all_keys tree text) r (bit 1 (detail_of tree r)) (text_of tree text r A) y src S

  abbrev valued : Def.Scope → ℕ → M Def.Scope
  valued S y = convert_expr (program tree text) (all_keys tree text) (expr_at tree text e) S >>= (λ src. declared S y src)

  new-steps : lift (get_type (program tree text) (all_keys tree text) (expr_at tree text e) (scope_at tree text s c.scope)) >>= (λ y. valued (scope_at tree text s c.scope) y)
      ≡ init_new_steps tree text s c r
  new-steps =
      init_parts (program tree text) (all_keys tree text) r (bit 1 (detail_of tree r)) (text_of tree text r A) (expr_at tree text e) (scope_at tree text s c.scope)
      ∙ ap (λ (z : ℕ). init_new (program tree text) (all_keys tree text) r (bit 1 (detail_of tree r)) (text_of tree text r A) (expr_at tree text z) (scope_at tree text s c.scope)) ee

  pub new_untyped : {z : ConvertError} → ty ≡ Err z → StatesAs init_new_steps c r tree text l s (Stated.Refused z) l s₁
  new_untyped w = states_stop (meets-same (texts_of tree text) new-steps (typed-not p t (λ y. valued (scope_at tree text s c.scope) y) w)) (type-stays p t)

  module _ {y : ℕ} (w : ty ≡ Ok y) {a : Converted} {l₁ s₂ : List ℕ}
      (m : Converts tree text (expr_steps tree text s₁ c e) (expr_amount (under (expr_at tree text e))) c l s₁ a l₁ s₂) where
    abbrev typed : Converting tree text l s₁ c
    typed = type_converting p t

    value_stays : StaysFor tree c s s₂
    value_stays = stays_then (omega arith) (omega arith) (type-stays p t) m.stays

    typed_value_lem : {n : Amount} {l' : List ℕ} {b : StepAnswer Def.Scope} → Meets (texts_of tree text) (valued (scope_at tree text s₁ c.scope) y) n c.counters l l' b
        → Meets (texts_of tree text) (init_new_steps tree text s c r) n c.counters l l' b
    typed_value_lem i =
        meets-same (texts_of tree text) new-steps (typed_then_lem p t (λ y. valued (scope_at tree text s c.scope) y) w
        (meets-same (texts_of tree text) (ap (λ (S : Def.Scope). valued S y) (scope_later p (type-stays p t))) i))

    pub new-stop : {z : ConvertError} → a ≡ Converted.Refused z → StatesAs init_new_steps c r tree text l s (Stated.Refused z) l₁ s₂
    new-stop q = states_stop (typed_value_lem (operand-not m (λ src. declared (scope_at tree text s₁ c.scope) y src) q)) value_stays

    module _ {o : Operand} {k : Counters} (q : a ≡ Converted.Is o k) where
      pub new_converting : Converting tree text l₁ s₂ (with_counters c k)
      new_converting = converting_after m q typed

      pub new_afforded : Afforded tree (with_counters c k) (amount 1 1 0 0 0) 0 1
      new_afforded = omega (arith, f, value-records p.ready.keyed.good x ee, (converted-next m q).spent)

      pub new-typed : TypeAt tree y
      new-typed = is-typed tree ty y t.typed w

      module _ (u : TypedIn tree text c s₁ (expr_types tree text e) s₂) where
        pub value-turn : InTurn tree text s₂ c
        value-turn = in_turn-next c (scope_later p value_stays) (value-next p t w u)

        pub value_types_lem : {s₃ : List ℕ} → TypedIn tree text c s₂ [] s₃ → TypedIn tree text c s (init_types tree text r) s₃
        value_types_lem {s₃ = s₃} i =
            subst (λ (z : ℕ). TypedIn tree text c s (value_types tree text z) s₃) ee (typed-last c (scope_later p value_stays) (value-next p t w u) i)

      pub new-done : {b : Stated} {l₂ s₃ : List ℕ} → DeclaresAs (λ t u i k j. declare_init_steps t u i k j y o) (with_counters c k) r tree text l₁ s₂ b l₂ s₃
          → StatesAs init_new_steps c r tree text l s b l₂ s₃
      new-done i = record {
        meets = meets-most (texts_of tree text) (typed_value_lem (operand_then m (λ src. declared (scope_at tree text s₁ c.scope) y src) q
            (meets-same (texts_of tree text) (ap (λ (S : Def.Scope). declared S y (operand_of o)) (scope_later typed m.stays)) i.meets))) (omega (arith, value-records p.ready.keyed.good x ee));
        leaves = λ sc k' h.
            let g = i.leaves sc k' h in
            record { ready = g.ready; function = g.function; inner = g.inner; least = g.least; most = omega (arith, g.most, value-records p.ready.keyed.good x ee) };
        stays = stays_then (omega arith) (omega arith) value_stays i.stays;
      }

-- ---- which of both

module _ (P : Program) (F : Functions) (r : ℕ) (n : Text) (e : Expr) (sc : Def.Scope) where
  by-constant : (b : Bool) (o : Option Variable) → b ≡ true → init_new P F r b n e sc ≡ init_by P F r b n e sc o
  unfolding init_by
  by-constant b o h = subst (λ (z : Bool). init_new P F r z n e sc ≡ init_by P F r z n e sc o) (sym h) refl

  by_unknown : (b : Bool) (o : Option Variable) → o ≡ none → init_new P F r b n e sc ≡ init_by P F r b n e sc o
  unfolding init_by
  by_unknown true o h = refl
  by_unknown false o h = subst (λ (z : Option Variable). init_new P F r false n e sc ≡ init_by P F r false n e sc z) (sym h) refl

  by-known : (b : Bool) (o : Option Variable) (v : Variable) → b ≡ false → o ≡ some v → convert_assign P F r e v sc ≡ init_by P F r b n e sc o
  unfolding init_by
  by-known b o v h q = ap₂ (λ (z : Bool) (w : Option Variable). init_by P F r z n e sc w) (sym h) (sym q)

  -- an assignment does not look at the name
  assign-by : (u : Text) (v : Variable) (constant : Bool) (x : Ir.VarId) → v.constant ≡ constant → v.var_id ≡ x
      → convert_assign P F r e (record { name = u; constant = constant; var_id = x }) sc ≡ convert_assign P F r e v sc
  unfolding convert_assign assign_to
  assign-by u v constant x h q = ap₂ (λ (b : Bool) (y : Ir.VarId). convert_assign P F r e (record { name = u; constant = b; var_id = y }) sc) (sym h) (sym q)

module _ {tree text l s : List ℕ} {c : Converter} {r : ℕ} (p : Converting tree text l s c) (x : IsKind tree 16 r) {d : ℕ} (ed : d ≡ detail_of tree r) where
  abbrev S : Def.Scope
  S = scope_at tree text s c.scope

  abbrev value : Expr
  value = expr_at tree text (word_of tree r C)

  mark : eqb d 1 ≡ bit 1 (detail_of tree r)
  mark = mark_bit ed (init_detail tree text p.ready.keyed.good r x.below x.kind)

  pub init_constant : {a : Stated} {l' s' : List ℕ} → d ≡ 1 → StatesAs init_new_steps c r tree text l s a l' s' → StatesAs init_steps c r tree text l s a l' s'
  unfolding convert_init
  init_constant h i =
      states_same (by-constant (program tree text) (all_keys tree text) r (text_of tree text r A) value S (bit 1 (detail_of tree r)) (find_variable (text_of tree text r A) S) (sym mark ∙ eq-eqb d 1 h)) i

  module _ {known : Std.Option Known} (g : FindMeets text s c.scope (text_of tree text r A) known) where
    was : {k : Std.Option Known} → known ≡ k → FindMeets text s c.scope (text_of tree text r A) k
    was {k} q = subst (λ (z : Std.Option Known). FindMeets text s c.scope (text_of tree text r A) z) q g

    pub init_unknown : {a : Stated} {l' s' : List ℕ} → known ≡ None → StatesAs init_new_steps c r tree text l s a l' s' → StatesAs init_steps c r tree text l s a l' s'
    unfolding convert_init
    init_unknown q i =
        states_same (by_unknown (program tree text) (all_keys tree text) r (text_of tree text r A) value S (bit 1 (detail_of tree r)) (find_variable (text_of tree text r A) S)
        (find_unknown tree text s c.scope (text_of tree text r A) (was q))) i

    module _ {y : Known} (q : known ≡ Some y) where
      pub known-typed : TypeAt tree y.var.1
      known-typed = found-typed p (text_of tree text r A) y (was q)

      pub init_known : {a : Stated} {l' s' : List ℕ} → (d ≡ 1 → ⊥) → StatesAs (λ t u i k j. assign_steps t u i k j y.var y.constant) c r tree text l s a l' s'
          → StatesAs init_steps c r tree text l s a l' s'
      unfolding convert_init
      init_known h i =
          let k = find_some tree text s c.scope (text_of tree text r A) y (was q) in
          states_same (
          assign-by (program tree text) (all_keys tree text) r (text_of tree text r A) value S (text_of tree text r A) k.holder y.constant (var_of y.var) k.fixed k.var
          ∙ by-known (program tree text) (all_keys tree text) r (text_of tree text r A) value S (bit 1 (detail_of tree r)) (find_variable (text_of tree text r A) S) k.holder
          (sym mark ∙ ne_eqb d 1 h) k.found
          ) i
