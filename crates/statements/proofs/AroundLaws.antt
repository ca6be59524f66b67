-- What stands around the parts of an expression, as the code meets it: the emitter's calls in a row are the steps of each part.
-- By the laws of steps in a row, each definition being the chain's own text; amounts by arithmetic. Assumes nothing.
use Rattle.std.specs.Prelude.{Ok, Err, Some, None}
use Rattle.std.specs.Prelude as Std
use Rattle.expressions.specs.declared.answers.Callee as Code-Callee
use mathlib.Core.Path.{◌≡◌, refl, sym, ap, ◌∙◌, subst}
use mathlib.Core.List.{List, []}
use mathlib.Core.Option.{Option, none, some}
use Prim.Native.Nat.{ℕ, zero, suc, ◌+◌, ◌*◌, ◌<◌}
use native.Mathlib.Omega.{arith}
use lib.Dec.{eqb}
use lib.ListN.{length}
use borrow.Author.Tests.{eq-eqb, ne_eqb}
use Rattle.laws.specs.Fix.{pick}
use Rattle.records.specs.Words.{detail_of, word_of, records, A, B}
use Rattle.records.specs.declared.convert_error.ConvertError.{ConvertError}
use Rattle.records.specs.Rules.{is_expr}
use Rattle.records.specs.Good.{Good}
use Rattle.syntax.specs.Syntax.{UnaryOp, BinaryOp, Args, Program, Function}
use Rattle.syntax.specs.Decode.{program}
use Rattle.syntax.specs.Places.{IsExpr, IsKind, TypeAt, FunctionAt, function_of}
use Rattle.syntax.proofs.Records.{function_rec}
use Rattle.conversion.specs.ConvertError.{Result, ok, WouldPanic}
use Rattle.conversion.specs.Ir as Ir
use Rattle.conversion.specs.Ir.{OVar, Unary, Binary, Cast, Call, logic_rhs, logic_end, ◌>>=◌, ◌>>◌, pure, emit, label_id}
use Rattle.conversion.specs.Expressions.{Functions, Callee, CallFunction, CallCast}
use Rattle.conversion.specs.Statements.{fit_operand, cast_first, call_function, call_value}
use Rattle.conversion.proofs.MonadLaws.{regroup, seq_is}
use Rattle.types.proofs.FromGood.{is_expr_lem}
use Rattle.ir.specs.declared.structs.Counters.{Counters}
use Rattle.ir.specs.declared.structs.VarId.{VarId}
use Rattle.ir.specs.declared.structs.Operand.{Operand}
use Rattle.ir.specs.declared.structs.Operand.TheVariants.{Var as var}
use Rattle.ir.specs.declared.structs.Label.{Label}
use Rattle.ir.specs.declared.structs.WithCounters.{WithCounters}
use Rattle.ir.specs.Amounts.{amount}
use Rattle.ir.specs.Instructions.{operand_of, var_of}
use Rattle.ir.specs.Steps.{StopsIn, Emits, AddsVar, named, NumbersLabel}
use Rattle.ir.proofs.StepLaws.{fail-stops}
use Rattle.laws.proofs.FixLaws.{pick_yes, pick_no}
use Rattle.scope.specs.Open.{scope_at}
use Rattle.keys.specs.Keys.{all_keys}
use Rattle.expressions.specs.Slots.{common_in}
use Rattle.expressions.specs.Answers.{OrRefused, type_result, common_result, callee_of, IsTyped, IsCommon, IsCallee, SidesMeet}
use Rattle.expressions.proofs.TypingLaws.{left-expr, right-expr}
use Rattle.statements.specs.Lent.{Converter, Converted, Fitted}
use Rattle.statements.specs.Stack.{operand_at, stack_at}
use Rattle.statements.specs.Converting.{with_counters, OperandIn, StaysFor, NamesStay}
use Rattle.statements.specs.Meets.{Adds, texts_of}
use Rattle.statements.specs.Parts.{emit_jump, jump_if_not, place_label, finish_unary, begin_logic, join_and, join_or, end_logic, finish_binary, pass_args, finish_call, operand_type}
use Rattle.statements.specs.Answers.{FitAdds, Converts, OperandTyped}
use Rattle.statements.specs.Turns.{CommonTyped}
use Rattle.statements.proofs.MeetLaws.{adds_then, adds_seq, adds-pure, adds-most, adds_same, adds_in}
use Rattle.statements.proofs.StayLaws.{stays_refl, names_refl}
use Rattle.statements.proofs.EmitLaws.{emit-adds, var_adds, label_adds}
use Rattle.statements.proofs.ConvertLaws.{converts-gave, converts-refused, converts-same, converts-most, converts-after}

-- a variable's type is one of the tree's where it is that one
pub variable_type_lem : {tree : List ℕ} {v y : ℕ} → v ≡ y → TypeAt tree y → TypeAt tree v
variable_type_lem {tree = tree} e t = subst (λ (x : ℕ). TypeAt tree x) (sym e) t

pub unary-adds : {tree : List ℕ} {op : UnaryOp} {y : ℕ} {src : Ir.Operand} {r : WithCounters VarId} {k k₂ : Counters} {l l₁ l₂ : List ℕ}
    → length l₁ ≡ length l → AddsVar y k l r l₁ → length l₂ ≡ length l₁ → Emits (Unary (var_of r.value) op src) r.counters l₁ k₂ l₂ → TypeAt tree r.value.1
    → FitAdds tree (finish_unary op y src) (amount 1 1 0 0 0) k l (record { operand = var r.value; counters = k₂ }) l₂
unfolding finish_unary OperandIn
unary-adds {op = op} {src = src} {r = r} {k₂ = k₂} {l₂ = l₂} h p h' q t = record {
  adds = adds-most (adds_then (λ (dest : Ir.VarId). emit (Unary dest op src) >> pure (OVar dest)) (var_adds h p)
      (adds_seq (pure (OVar (var_of r.value))) (emit-adds h' q) (adds-pure (OVar (var_of r.value)) k₂ l₂ q.next.room))) (omega arith);
  operand = t;
}

-- ---- And and Or

pub begin_adds : {e y : ℕ} {r : WithCounters VarId} {a b : WithCounters Label} {k : Counters} {l l₁ l₂ l₃ : List ℕ}
    → length l₁ ≡ length l → AddsVar y k l r l₁ → length l₂ ≡ length l₁ → NumbersLabel 6 e r.counters l₁ a l₂
    → length l₃ ≡ length l₂ → NumbersLabel 7 e a.counters l₂ b l₃
    → Adds (begin_logic e y) (amount 0 1 2 0 0) k l (var_of r.value) b.counters l₃
unfolding begin_logic
begin_adds {e = e} {r = r} {b = b} {l₃ = l₃} h p h₁ q h₂ q₂ =
    adds-most (adds_then (λ (dest : Ir.VarId). label_id (logic_rhs e) >>= (λ (i : ℕ). label_id (logic_end e) >>= (λ (j : ℕ). pure dest))) (var_adds h p)
    (adds_then (λ (i : ℕ). label_id (logic_end e) >>= (λ (j : ℕ). pure (var_of r.value))) (label_adds h₁ q)
    (adds_then (λ (j : ℕ). pure (var_of r.value)) (label_adds h₂ q₂) (adds-pure (var_of r.value) b.counters l₃ q₂.next.room)))) (omega arith)

module _ (e : ℕ) {dest : VarId} {o : Ir.Operand} {k k₁ k₂ : Counters} {l l₁ l₂ : List ℕ} (h : length l₁ ≡ length l) (p : Emits (Ir.Copy (var_of dest) o) k l k₁ l₁) where
  pub and-adds : Adds (jump_if_not (OVar (var_of dest)) (named 7 e)) (amount 1 0 1 0 0) k₁ l₁ tt k₂ l₂
      → Adds (join_and e (var_of dest) o) (amount 2 0 1 0 0) k l tt k₂ l₂
  unfolding join_and
  and-adds q = adds-most (adds_seq (jump_if_not (OVar (var_of dest)) (logic_end e)) (emit-adds h p) q) (omega arith)

  pub or-adds : {k₃ k₄ : Counters} {l₃ l₄ : List ℕ} → Adds (jump_if_not (OVar (var_of dest)) (named 6 e)) (amount 1 0 1 0 0) k₁ l₁ tt k₂ l₂
      → Adds (emit_jump (named 7 e)) (amount 1 0 1 0 0) k₂ l₂ tt k₃ l₃ → Adds (place_label (named 6 e)) (amount 1 0 1 0 0) k₃ l₃ tt k₄ l₄
      → Adds (join_or e (var_of dest) o) (amount 4 0 3 0 0) k l tt k₄ l₄
  unfolding join_or
  or-adds a b c =
      adds-most (adds_seq (jump_if_not (OVar (var_of dest)) (logic_rhs e) >> (emit_jump (logic_end e) >> place_label (logic_rhs e))) (emit-adds h p)
      (adds_seq (emit_jump (logic_end e) >> place_label (logic_rhs e)) a (adds_seq (place_label (logic_rhs e)) b c))) (omega arith)

  pub end_adds : {tree : List ℕ} → Adds (place_label (named 7 e)) (amount 1 0 1 0 0) k₁ l₁ tt k₂ l₂ → TypeAt tree dest.1
      → FitAdds tree (end_logic e (var_of dest) o) (amount 2 0 1 0 0) k l (record { operand = var dest; counters = k₂ }) l₂
  unfolding end_logic OperandIn
  end_adds q t = record {
    adds = adds-most (adds_seq (place_label (logic_end e) >> pure (OVar (var_of dest))) (emit-adds h p)
        (adds_seq (pure (OVar (var_of dest))) q (adds-pure (OVar (var_of dest)) k₂ l₂ q.next.room))) (omega arith);
    operand = t;
  }

-- by the operator: And is 1
module _ (tree : List ℕ) (e : ℕ) {d : ℕ} (dest : VarId) (o : Operand) {k k' : Counters} {l l' : List ℕ} (ed : d ≡ detail_of tree e) where
  pub join_and-adds : d ≡ 1 → Adds (join_and e (var_of dest) (operand_of o)) (amount 2 0 1 0 0) k l tt k' l'
      → Adds (pick (eqb (detail_of tree e) 1) (join_and e (var_of dest) (operand_of o)) (join_or e (var_of dest) (operand_of o))) (amount 4 0 3 0 0) k l tt k' l'
  join_and-adds q p =
      adds_same (sym (pick_yes (eqb (detail_of tree e) 1) (join_and e (var_of dest) (operand_of o)) (join_or e (var_of dest) (operand_of o)) (eq-eqb (detail_of tree e) 1 (sym ed ∙ q))))
      (adds-most p (omega arith))

  pub join_or-adds : (d ≡ 1 → ⊥) → Adds (join_or e (var_of dest) (operand_of o)) (amount 4 0 3 0 0) k l tt k' l'
      → Adds (pick (eqb (detail_of tree e) 1) (join_and e (var_of dest) (operand_of o)) (join_or e (var_of dest) (operand_of o))) (amount 4 0 3 0 0) k l tt k' l'
  join_or-adds n p =
      adds_same (sym (pick_no (eqb (detail_of tree e) 1) (join_and e (var_of dest) (operand_of o)) (join_or e (var_of dest) (operand_of o)) (ne_eqb (detail_of tree e) 1 (λ q. n (ed ∙ q))))) p

-- ---- any other binary

pub binary-adds : {tree : List ℕ} (P : Program) {op : BinaryOp} {y : ℕ} (q : ℕ) (left right : Operand) {a b : Fitted} {r : WithCounters VarId} {k k₄ : Counters} {l l₁ l₂ l₃ l₄ : List ℕ}
    → FitAdds tree (fit_operand P (operand_of left) q) (amount 1 1 0 0 1) k l a l₁
    → FitAdds tree (fit_operand P (operand_of right) q) (amount 1 1 0 0 1) a.counters l₁ b l₂
    → length l₃ ≡ length l₂ → AddsVar y b.counters l₂ r l₃
    → length l₄ ≡ length l₃ → Emits (Binary (var_of r.value) op (operand_of a.operand) (operand_of b.operand)) r.counters l₃ k₄ l₄ → TypeAt tree r.value.1
    → FitAdds tree (finish_binary P op y q (operand_of left) (operand_of right)) (amount 3 3 0 0 2) k l (record { operand = var r.value; counters = k₄ }) l₄
unfolding finish_binary OperandIn
binary-adds P {op = op} {y = y} q left right {a = a} {b = b} {r = r} {k₄ = k₄} {l₄ = l₄} u v h p h' i t = record {
  adds = adds-most (adds_then (λ (a1 : Ir.Operand). fit_operand P (operand_of right) q >>= (λ (b1 : Ir.Operand). Ir.new_var y >>= (λ (dest : Ir.VarId).
      emit (Binary dest op a1 b1) >> pure (OVar dest)))) u.adds
      (adds_then (λ (b1 : Ir.Operand). Ir.new_var y >>= (λ (dest : Ir.VarId). emit (Binary dest op (operand_of a.operand) b1) >> pure (OVar dest))) v.adds
      (adds_then (λ (dest : Ir.VarId). emit (Binary dest op (operand_of a.operand) (operand_of b.operand)) >> pure (OVar dest)) (var_adds h p)
      (adds_seq (pure (OVar (var_of r.value))) (emit-adds h' i) (adds-pure (OVar (var_of r.value)) k₄ l₄ i.next.room))))) (omega arith);
  operand = t;
}

-- ---- the type that both sides are fitted to

module _ {tree text : List ℕ} (good : Good tree text) {e : ℕ} (x : IsKind tree 10 e) where
  binary-expr : IsExpr tree e
  binary-expr = is_expr_lem tree text good e x.below (ap is_expr x.kind)

  pub left_side : {a : ℕ} → a ≡ word_of tree e A → (a < e) × IsExpr tree a
  left_side {a} q = left-expr tree text good e 10 binary-expr (sym x.kind) refl a q

  pub right_side : {b : ℕ} → b ≡ word_of tree e B → (b < e) × IsExpr tree b
  right_side {b} q = right-expr tree text good e 10 binary-expr (sym x.kind) refl b q

is-common : {tree : List ℕ} {a : OrRefused (Std.Option ℕ)} {y : ℕ} → IsCommon tree a → a ≡ Ok (Some y) → TypeAt tree y
is-common {tree = tree} {y = y} t q = go (subst (λ (z : OrRefused (Std.Option ℕ)). IsCommon tree z) q t)
  where
    go : IsCommon tree (Ok (Some y)) → TypeAt tree y
    go (IsCommon.is h) = h

module _ {tree text s s' : List ℕ} (c : Converter) (e y : ℕ) {t : OrRefused (Std.Option ℕ)} (m : SidesMeet tree text s c.scope c.turn e t s') where
  meets_as : (u : OrRefused ℕ) → operand_type (common_result t) y ≡ type_result u
      → operand_type (common_in tree text (scope_at tree text s c.scope) e) y ≡ type_result u
  meets_as u q = ap (λ (z : Result (Option ℕ)). operand_type z y) m.meets ∙ q

  pub common-refused : (x : ConvertError) → t ≡ Err x → OperandTyped tree text s c e y (Err x) s'
  unfolding operand_type common_result type_result
  common-refused x q = record { frame = m.frame; typed = IsTyped.no; meets = meets_as (Err x) (ap (λ (z : OrRefused (Std.Option ℕ)). operand_type (common_result z) y) q) }

  pub common-is : (z : ℕ) → t ≡ Ok (Some z) → OperandTyped tree text s c e y (Ok z) s'
  unfolding operand_type common_result type_result
  common-is z q = record {
    frame = m.frame;
    typed = IsTyped.is (is-common m.common q);
    meets = meets_as (Ok z) (ap (λ (z : OrRefused (Std.Option ℕ)). operand_type (common_result z) y) q);
  }

  pub common-neither : t ≡ Ok None → TypeAt tree y → OperandTyped tree text s c e y (Ok y) s'
  unfolding operand_type common_result type_result
  common-neither q h = record { frame = m.frame; typed = IsTyped.is h; meets = meets_as (Ok y) (ap (λ (z : OrRefused (Std.Option ℕ)). operand_type (common_result z) y) q) }

  -- in any case
  pub common-either : (o : Std.Option ℕ) → t ≡ Ok o → TypeAt tree y → OperandTyped tree text s c e y (Ok (Std.unwrap_or o y)) s'
  common-either (Some z) q h = common-is z q
  common-either None q h = common-neither q h

-- both sides are typed
module _ {tree text s s' : List ℕ} (c : Converter) (e : ℕ) {t : OrRefused (Std.Option ℕ)} (m : SidesMeet tree text s c.scope c.turn e t s') where
  sides_types_lem : (o : Option ℕ) → common_result t ≡ ok o → (u : OrRefused ℕ) → CommonTyped c e tree text s u s'
  sides_types_lem o q u z h = m.adds o q

  pub is-types : (z : ℕ) → t ≡ Ok (Some z) → (u : OrRefused ℕ) → CommonTyped c e tree text s u s'
  unfolding common_result
  is-types z q u = sides_types_lem (some z) (ap common_result q) u

  pub neither-types : t ≡ Ok None → (u : OrRefused ℕ) → CommonTyped c e tree text s u s'
  unfolding common_result
  neither-types q u = sides_types_lem none (ap common_result q) u

  pub either-types : (o : Std.Option ℕ) → t ≡ Ok o → (u : OrRefused ℕ) → CommonTyped c e tree text s u s'
  either-types (Some z) q u = is-types z q u
  either-types None q u = neither-types q u

pub refused-common : {X : Type 0} {x : ConvertError} (y : ℕ) → ◌≡◌ {A = OrRefused ℕ} (Err x) (Ok y) → X
refused-common y h = let z : ◌≡◌ {A = ℕ} 0 1 = cc in absurd (omega arith)

-- ---- calls

module _ {tree text l s : List ℕ} {c : Converter} (e : ℕ) (dest : VarId) where
  -- a cast without a value, and with one
  pub cast-none : {count : ℕ} {x : ConvertError} → count ≡ 0 → x ≡ record { kind = WouldPanic; place = e }
      → Converts tree text (cast_first e (var_of dest) (stack_at s (records tree) c.operands count)) (amount 1 0 0 0 0) c l s (Converted.Refused x) l s
  unfolding cast_first stack_at
  cast-none {x = x} h q =
      converts-same (ap (λ (z : ℕ). cast_first e (var_of dest) (stack_at s (records tree) c.operands z)) (sym h))
      (converts-refused refl (subst (λ (z : ConvertError). StopsIn (texts_of tree text) (cast_first e (var_of dest) []) c.counters l z.kind z.place) (sym q)
      (fail-stops (texts_of tree text) c.counters l WouldPanic e)) (stays_refl tree c.scope.names c.operands s) (names_refl tree s))

  pub cast_some : (count : ℕ) {first : Ir.Operand} {k : Counters} {l' : List ℕ} → (count ≡ 0 → ⊥) → first ≡ operand_at s (records tree) c.operands
      → length l' ≡ length l → Emits (Cast (var_of dest) first) c.counters l k l' → TypeAt tree dest.1
      → Converts tree text (cast_first e (var_of dest) (stack_at s (records tree) c.operands count)) (amount 1 0 0 0 0) c l s (Converted.Is (var dest) k) l' s
  unfolding cast_first stack_at OperandIn
  cast_some zero n q h p t = absurd (n refl)
  cast_some (suc count) {k = k} {l' = l'} n q h p t =
      converts-gave h (adds_in (texts_of tree text) (adds-most (adds_seq (pure (OVar (var_of dest)))
      (subst (λ (o : Ir.Operand). Adds (emit (Cast (var_of dest) o)) (amount 1 0 0 0 0) c.counters l tt k l') q (emit-adds h p))
      (adds-pure (OVar (var_of dest)) k l' p.next.room)) (omega arith))) t (stays_refl tree c.scope.names c.operands s) (names_refl tree s)

call_parts : (P : Program) (F : Functions) (r : ℕ) (dest : Ir.VarId) (f : Function) (given : Args) (operands : List Ir.Operand)
    → (pass_args P f given operands >> emit (Call (some dest) f.rec_of)) >> pure (OVar dest) ≡ call_value P F r dest given operands (CallFunction f)
unfolding pass_args call_function call_value
call_parts P F r dest f given operands = simp (seq_is, regroup)

-- a call, whose values are passed
pub call-adds : {tree text l l₁ l₂ s s' : List ℕ} {c : Converter} (F : Functions) (e : ℕ) {f count : ℕ} {dest : VarId} (given : Args) (operands : List Ir.Operand) {k₁ k₂ : Counters}
    → Good tree text → FunctionAt tree f → TypeAt tree dest.1
    → Adds (pass_args (program tree text) (function_of tree text f) given operands) (amount (2 * count) count 0 0 count) c.counters l tt k₁ l₁ → StaysFor tree c s s' → NamesStay tree s s'
    → length l₂ ≡ length l₁ → Emits (Call (some (var_of dest)) f) k₁ l₁ k₂ l₂
    → Converts tree text (call_value (program tree text) F e (var_of dest) given operands (CallFunction (function_of tree text f))) (amount (2 * count + 1) count 0 0 count) c l s (Converted.Is (var dest) k₂) l₂ s'
unfolding OperandIn
call-adds {tree = tree} {text = text} {l₁ = l₁} {l₂ = l₂} F e {f = f} {dest = dest} given operands {k₁ = k₁} {k₂ = k₂} good at t p stays names h q =
    let i : Adds (emit (Call (some (var_of dest)) (function_of tree text f).rec_of)) (amount 1 0 0 0 0) k₁ l₁ tt k₂ l₂ =
    subst (λ (x : ℕ). Adds (emit (Call (some (var_of dest)) x)) (amount 1 0 0 0 0) k₁ l₁ tt k₂ l₂) (sym (function_rec tree text good f at)) (emit-adds h q) in
    converts-gave (h ∙ p.long)
    (adds_in (texts_of tree text) (adds-most (adds_same (call_parts (program tree text) F e (var_of dest) (function_of tree text f) given operands)
    (adds_seq (pure (OVar (var_of dest))) (adds_seq (emit (Call (some (var_of dest)) (function_of tree text f).rec_of)) p i) (adds-pure (OVar (var_of dest)) k₂ l₂ q.next.room))) (omega arith))) t stays names

-- the call behind its values, by what it runs
module _ (tree text : List ℕ) {callee : OrRefused Code-Callee.Callee} {to : Callee} (m : callee_of tree text callee ≡ ok to) where
  pub callee-cast : {y : ℕ} → callee ≡ Ok (Code-Callee.Callee.Cast y) → CallCast y ≡ to
  unfolding callee_of
  callee-cast {y} q = let e : ok (CallCast y) ≡ ok to = sym (ap (callee_of tree text) q) ∙ m in cc

  pub callee-function : {f : ℕ} → callee ≡ Ok (Code-Callee.Callee.Function f) → CallFunction (function_of tree text f) ≡ to
  unfolding callee_of
  callee-function {f} q = let e : ok (CallFunction (function_of tree text f)) ≡ ok to = sym (ap (callee_of tree text) q) ∙ m in cc

pub function-callee : {tree : List ℕ} {callee : OrRefused Code-Callee.Callee} {f : ℕ} → IsCallee tree callee → callee ≡ Ok (Code-Callee.Callee.Function f) → FunctionAt tree f
function-callee {tree = tree} {f = f} t q = go (subst (λ (z : OrRefused Code-Callee.Callee). IsCallee tree z) q t)
  where
    go : IsCallee tree (Ok (Code-Callee.Callee.Function f)) → FunctionAt tree f
    go (IsCallee.a_function h) = h

module _ {tree text l l₁ l₂ s s' : List ℕ} {c : Converter} (e : ℕ) {y count : ℕ} {r : WithCounters VarId} (given : Args) (operands : List Ir.Operand) {to : Callee} {a : Converted}
    (h : length l₁ ≡ length l) (p : AddsVar y c.counters l r l₁) where
  pub finish-function : (f : ℕ) → CallFunction (function_of tree text f) ≡ to
      → Converts tree text (call_value (program tree text) (all_keys tree text) e (var_of r.value) given operands (CallFunction (function_of tree text f))) (amount (2 * count + 1) count 0 0 count) (with_counters c r.counters) l₁ s a l₂ s'
      → Converts tree text (finish_call (program tree text) (all_keys tree text) e y given operands to) (amount (2 * count + 1) (count + 1) 0 0 count) c l s a l₂ s'
  unfolding finish_call
  finish-function f q i =
      converts-most (omega arith) (converts-after (λ (dest : Ir.VarId). call_value (program tree text) (all_keys tree text) e dest given operands to) (var_adds h p)
      (converts-same (ap (call_value (program tree text) (all_keys tree text) e (var_of r.value) given operands) q) i))

  pub finish-cast : {z : ℕ} → CallCast z ≡ to
      → Converts tree text (cast_first e (var_of r.value) operands) (amount 1 0 0 0 0) (with_counters c r.counters) l₁ s a l₂ s'
      → Converts tree text (finish_call (program tree text) (all_keys tree text) e y given operands to) (amount (2 * count + 1) (count + 1) 0 0 count) c l s a l₂ s'
  unfolding finish_call call_value
  finish-cast q i =
      converts-most (omega arith) (converts-after (λ (dest : Ir.VarId). call_value (program tree text) (all_keys tree text) e dest given operands to) (var_adds h p)
      (converts-same (ap (call_value (program tree text) (all_keys tree text) e (var_of r.value) given operands) q) i))
