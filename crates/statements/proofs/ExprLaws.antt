-- What an expression owes after each of its parts, as the code meets it: a refusal is passed on, an operand goes into what stands around it.
-- By the laws of steps in a row; the scope stays, and the amounts are arithmetic over the records below. Assumes nothing.
use Rattle.std.specs.Prelude.{Ok, Err}
use mathlib.Core.Path.{◌≡◌, refl, sym, ap, ◌∙◌, subst}
use mathlib.Core.Bool.{Bool, true, false}
use mathlib.Core.List.{List}
use mathlib.Core.Option.{Option}
use Prim.Native.Nat.{ℕ, zero, suc, ◌+◌, ◌≤◌, ◌<◌}
use native.Mathlib.Omega.{arith}
use lib.Dec.{eqb, leb}
use lib.ListN.{get_or}
use borrow.Author.Tests.{eqb-true, eqb-false, leb-true}
use Rattle.laws.specs.Fix.{pick}
use Rattle.laws.proofs.Tests.{tested, and_right}
use Rattle.records.specs.declared.convert_error.ConvertError.{ConvertError}
use Rattle.records.specs.Words.{kind_of, detail_of, word_of, records, A, B, C}
use Rattle.records.specs.Rules.{is_expr}
use Rattle.records.specs.Good.{Good}
use Rattle.records.proofs.GoodLaws.{binary_detail}
use Rattle.syntax.specs.Syntax.{Expr, BinaryOp, Or, And, BitOr, BitXor, BitAnd, Eq, NotEq, Lt, Le, Gt, Ge, Shl, Shr, Add, Sub, Mul, Div, Rem, Neg, Program, unary_ops, binary_ops, binary_number}
use Rattle.syntax.specs.Count.{under}
use Rattle.syntax.specs.Decode.{program, text_of}
use Rattle.syntax.specs.Places.{IsExpr, IsKind, expr_at, args_at}
use Rattle.syntax.proofs.Records.{expr-unary, expr-binary, expr-call}
use Rattle.conversion.specs.ConvertError as E
use Rattle.conversion.specs.ConvertError.{Result, ok, err, ConvertErrorKind}
use Rattle.conversion.specs.Ir as Ir
use Rattle.conversion.specs.Ir.{M, ◌>>=◌, ◌>>◌, lift}
use Rattle.conversion.specs.Scope as Def
use Rattle.conversion.specs.Expressions.{Functions, common_type, get_type, unwrap_or}
use Rattle.conversion.specs.Statements.{convert_unary, convert_and, convert_or, convert_other, convert_binary_by, convert_binary, convert_call_value, convert_expr, convert_args}
use Rattle.types.proofs.FromGood.{is_expr_lem}
use Rattle.ir.specs.declared.structs.Counters.{Counters}
use Rattle.ir.specs.declared.structs.VarId.{VarId}
use Rattle.ir.specs.declared.structs.Operand.{Operand}
use Rattle.ir.specs.Amounts.{amount, both}
use Rattle.ir.specs.Instructions.{operand_of, var_of}
use Rattle.ir.proofs.Operators.{binary_in_lem}
use Rattle.scope.specs.Open.{scope_at}
use Rattle.keys.specs.Keys.{all_keys}
use Rattle.expressions.specs.Slots.{type_in}
use Rattle.expressions.specs.Answers.{OrRefused, refusal, type_result, TypeMeets}
use Rattle.expressions.proofs.SlotLaws.{scope-frame}
use Rattle.expressions.proofs.TypingLaws.{type-ok, type-refused, expr-low, operand-expr}
use Rattle.statements.specs.Lent.{Converter, Converted, Fitted}
use Rattle.statements.specs.Converting.{Converting, with_counters, RoomFor, expr_amount, ExprAfforded, StaysFor}
use Rattle.statements.specs.Meets.{Adds, texts_of}
use Rattle.statements.specs.Parts.{operand_type, finish_unary, begin_logic, join_and, join_or, end_logic, finish_binary}
use Rattle.statements.specs.Answers.{Converts, FitAdds, OperandTyped, expr_steps, unary_steps, logic_steps, other_steps, binary_steps, call_steps}
use Rattle.statements.proofs.PartLaws.{unary_parts, and_parts, or_parts, other_parts}
use Rattle.statements.proofs.MeetLaws.{meets-lift, meets-lift-stop, adds_in}
use Rattle.statements.proofs.StayLaws.{stays_refl, stays_then, frame-stays, frame-names, names_then, scope-stays, converting_next, converting_frame, record_counted}
use Rattle.statements.proofs.ConvertLaws.{converts-same, converts-most, converts-after, converts_seq, converted-next, converting_after, converts-stop, converts-next, converts-fit}

-- ---- steps in a scope

module _ (tree text : List ℕ) (S : Def.Scope) where
  abbrev expr_in : ℕ → M Ir.Operand
  expr_in e = convert_expr (program tree text) (all_keys tree text) (expr_at tree text e) S

  abbrev unary_in : ℕ → ℕ → M Ir.Operand
  unary_in e y = convert_unary (get_or unary_ops (detail_of tree e) Neg) y (λ st. expr_in (word_of tree e A) st)

  abbrev logic_in : ℕ → ℕ → M Ir.Operand
  logic_in e y = pick (eqb (detail_of tree e) 1)
      (convert_and e y (λ st. expr_in (word_of tree e A) st) (λ st. expr_in (word_of tree e B) st))
      (convert_or e y (λ st. expr_in (word_of tree e A) st) (λ st. expr_in (word_of tree e B) st))

  abbrev other_in : ℕ → ℕ → ℕ → M Ir.Operand
  other_in e y q = convert_other (program tree text) (all_keys tree text) (get_or binary_ops (detail_of tree e) Or) y q
      (λ st. expr_in (word_of tree e A) st) (λ st. expr_in (word_of tree e B) st)

  abbrev binary_in : ℕ → ℕ → M Ir.Operand
  binary_in e y = convert_binary (program tree text) (all_keys tree text) e (get_or binary_ops (detail_of tree e) Or)
      (expr_at tree text (word_of tree e A)) (expr_at tree text (word_of tree e B)) y S (λ st. expr_in (word_of tree e A) st) (λ st. expr_in (word_of tree e B) st)

  abbrev call_in : ℕ → ℕ → M Ir.Operand
  call_in e y = convert_call_value (program tree text) (all_keys tree text) e (text_of tree text e A) (args_at tree text (word_of tree e C)) y S
      (λ st. convert_args (program tree text) (all_keys tree text) (args_at tree text (word_of tree e C)) S st)

  -- an expression with operands is typed first
  module _ (good : Good tree text) (e : ℕ) (low : e < records tree) where
    steps-unary : kind_of tree e ≡ 9 → expr_in e ≡ lift (type_in tree text S e) >>= (λ y. unary_in e y)
    unfolding convert_expr type_in
    steps-unary k = subst (λ (z : Expr). convert_expr (program tree text) (all_keys tree text) z S ≡ lift (get_type (program tree text) (all_keys tree text) z S) >>= (λ y. unary_in e y))
        (sym (expr-unary tree text good e low k)) refl

    steps-binary : kind_of tree e ≡ 10 → expr_in e ≡ lift (type_in tree text S e) >>= (λ y. binary_in e y)
    unfolding convert_expr type_in
    steps-binary k = subst (λ (z : Expr). convert_expr (program tree text) (all_keys tree text) z S ≡ lift (get_type (program tree text) (all_keys tree text) z S) >>= (λ y. binary_in e y))
        (sym (expr-binary tree text good e low k)) refl

    steps-call : kind_of tree e ≡ 11 → expr_in e ≡ lift (type_in tree text S e) >>= (λ y. call_in e y)
    unfolding convert_expr type_in
    steps-call k = subst (λ (z : Expr). convert_expr (program tree text) (all_keys tree text) z S ≡ lift (get_type (program tree text) (all_keys tree text) z S) >>= (λ y. call_in e y))
        (sym (expr-call tree text good e low k)) refl

-- a part, in the scope from before
part_of : {tree text l l₁ s s₁ : List ℕ} {c : Converter} {r : Converted} (S S₁ : Def.Scope) (a w : ℕ) → S₁ ≡ S → a ≡ w
    → Converts tree text (expr_in tree text S₁ a) (expr_amount (under (expr_at tree text a))) c l s r l₁ s₁
    → Converts tree text (expr_in tree text S w) (expr_amount (under (expr_at tree text w))) c l s r l₁ s₁
part_of {tree = tree} {text = text} {l = l} {l₁ = l₁} {s = s} {s₁ = s₁} {c = c} {r = r} S S₁ a w e q p =
    subst (λ (z : ℕ). Converts tree text (expr_in tree text S z) (expr_amount (under (expr_at tree text z))) c l s r l₁ s₁) q
    (subst (λ (z : Def.Scope). Converts tree text (expr_in tree text z a) (expr_amount (under (expr_at tree text a))) c l s r l₁ s₁) e p)

-- ---- an expression, once it is typed

module _ {tree text l s : List ℕ} {c : Converter} {e : ℕ} (p : Converting tree text l s c) (x : IsExpr tree e) {ty : OrRefused ℕ} {s₁ : List ℕ}
    (m : TypeMeets tree text s c.scope c.turn e ty s₁) where
  abbrev S : Def.Scope
  S = scope_at tree text s c.scope

  abbrev good : Good tree text
  good = p.ready.keyed.good

  pub typed_converting : Converting tree text l s₁ c
  typed_converting = converting_frame p m.frame

  same-scope : scope_at tree text s₁ c.scope ≡ S
  same-scope = scope-frame tree s s₁ m.frame text c.scope p.ready.scoped

  typed_stays : StaysFor tree c s s₁
  typed_stays = frame-stays c.scope.names c.operands m.frame

  stop-by : (f : ℕ → M Ir.Operand) {z : ConvertError} → expr_in tree text S e ≡ lift (type_in tree text S e) >>= f → ty ≡ Err z
      → Converts tree text (expr_steps tree text s c e) (expr_amount (under (expr_at tree text e))) c l s (Converted.Refused z) l s₁
  unfolding refusal
  stop-by f {z} q w = converts-same (sym q) (record {
    meets = meets-lift-stop (texts_of tree text) f refl (type-refused (type_in tree text S e) ty z m.meets w);
    operand = λ o k h. let z : ◌≡◌ {A = ℕ} 0 1 = cc in absurd (omega arith);
    stays = typed_stays;
    names = frame-names m.frame;
  })

  pub typed-stop : {z : ConvertError} {k : ℕ} → k ≡ kind_of tree e → 8 < k → ty ≡ Err z
      → Converts tree text (expr_steps tree text s c e) (expr_amount (under (expr_at tree text e))) c l s (Converted.Refused z) l s₁
  typed-stop {z} {k} ek n w =
      let most : kind_of tree e ≤ 11 = leb-true (kind_of tree e) 11 (and_right (leb 2 (kind_of tree e)) (leb (kind_of tree e) 11) x.expression) in
      let low : e < records tree = expr-low tree text good e x in
      tested (eqb (kind_of tree e) 9) (λ q. stop-by (λ y. unary_in tree text S e y) (steps-unary tree text S good e low (eqb-true (kind_of tree e) 9 q)) w)
      λ n₉. tested (eqb (kind_of tree e) 10) (λ q. stop-by (λ y. binary_in tree text S e y) (steps-binary tree text S good e low (eqb-true (kind_of tree e) 10 q)) w)
      λ n₁₀. stop-by (λ y. call_in tree text S e y) (steps-call tree text S good e low (eleven most n₉ n₁₀)) w
    where
      eleven : kind_of tree e ≤ 11 → eqb (kind_of tree e) 9 ≡ false → eqb (kind_of tree e) 10 ≡ false → kind_of tree e ≡ 11
      eleven h a b =
          let h₉ : kind_of tree e ≡ 9 → ⊥ = eqb-false (kind_of tree e) 9 a in
          let h₁₀ : kind_of tree e ≡ 10 → ⊥ = eqb-false (kind_of tree e) 10 b in
          omega (arith, n, ek, h₉, h₁₀)

  typed-by : (f : Def.Scope → ℕ → M Ir.Operand) {y : ℕ} {b : Converted} {l₁ s₂ : List ℕ} → expr_in tree text S e ≡ lift (type_in tree text S e) >>= f S → ty ≡ Ok y
      → Converts tree text (f (scope_at tree text s₁ c.scope) y) (expr_amount (under (expr_at tree text e))) c l s₁ b l₁ s₂
      → Converts tree text (expr_steps tree text s c e) (expr_amount (under (expr_at tree text e))) c l s b l₁ s₂
  typed-by f {y} q w i =
      let i' = converts-same (ap (λ (Z : Def.Scope). f Z y) same-scope) i in
      converts-same (sym q) (record {
        meets = meets-lift (texts_of tree text) (f S) p.room (type-ok (type_in tree text S e) ty y m.meets w) i'.meets;
        operand = i'.operand;
        stays = stays_then (omega arith) (omega arith) typed_stays i'.stays;
        names = names_then (frame-names m.frame) i'.names;
      })

  module _ {y k : ℕ} {b : Converted} {l₁ s₂ : List ℕ} (ek : k ≡ kind_of tree e) (w : ty ≡ Ok y) where
    pub typed-unary : k ≡ 9 → Converts tree text (unary_steps tree text s₁ c e y) (expr_amount (under (expr_at tree text e))) c l s₁ b l₁ s₂
        → Converts tree text (expr_steps tree text s c e) (expr_amount (under (expr_at tree text e))) c l s b l₁ s₂
    typed-unary q i = typed-by (λ Z y. unary_in tree text Z e y) (steps-unary tree text S good e (expr-low tree text good e x) (sym ek ∙ q)) w i

    pub typed-binary : k ≡ 10 → Converts tree text (binary_steps tree text s₁ c e y) (expr_amount (under (expr_at tree text e))) c l s₁ b l₁ s₂
        → Converts tree text (expr_steps tree text s c e) (expr_amount (under (expr_at tree text e))) c l s b l₁ s₂
    typed-binary q i = typed-by (λ Z y. binary_in tree text Z e y) (steps-binary tree text S good e (expr-low tree text good e x) (sym ek ∙ q)) w i

    pub typed_call : kind_of tree e ≡ 11 → Converts tree text (call_steps tree text s₁ c e y) (expr_amount (under (expr_at tree text e))) c l s₁ b l₁ s₂
        → Converts tree text (expr_steps tree text s c e) (expr_amount (under (expr_at tree text e))) c l s b l₁ s₂
    typed_call q i = typed-by (λ Z y. call_in tree text Z e y) (steps-call tree text S good e (expr-low tree text good e x) q) w i

-- what is left where it is no leaf, no Unary and no Binary
pub call-kind : {tree : List ℕ} {e k : ℕ} → IsExpr tree e → k ≡ kind_of tree e → 8 < k → (k ≡ 9 → ⊥) → (k ≡ 10 → ⊥) → kind_of tree e ≡ 11
call-kind {tree = tree} {e = e} {k = k} x ek n₈ n₉ n₁₀ =
    let most : kind_of tree e ≤ 11 = leb-true (kind_of tree e) 11 (and_right (leb 2 (kind_of tree e)) (leb (kind_of tree e) 11) x.expression) in
    omega (arith, n₈, n₉, n₁₀)

-- ---- Unary

pub operand_side : {tree text : List ℕ} {e : ℕ} → Good tree text → IsKind tree 9 e → {a : ℕ} → a ≡ word_of tree e A → (a < e) × IsExpr tree a
operand_side {tree = tree} {text = text} {e = e} good x {a} q =
    operand-expr tree text good e 9 (is_expr_lem tree text good e x.below (ap is_expr x.kind)) (sym x.kind) refl a q

module _ {tree text l s : List ℕ} {c : Converter} {e : ℕ} (p : Converting tree text l s c) (f : ExprAfforded tree text c e) (x : IsKind tree 9 e) where
  unary-under : (a : ℕ) → a ≡ word_of tree e A → under (expr_at tree text e) ≡ 1 + under (expr_at tree text a)
  unfolding under
  unary-under a q = ap under (expr-unary tree text p.ready.keyed.good e x.below x.kind) ∙ ap (λ (z : ℕ). 1 + under (expr_at tree text z)) (sym q)

  module _ {a : ℕ} (ea : a ≡ word_of tree e A) where
    pub unary-part : ExprAfforded tree text c a
    unary-part = omega (arith, f, unary-under a ea)

    module _ {r : Converted} {l₁ s₁ : List ℕ} (m : Converts tree text (expr_steps tree text s c a) (expr_amount (under (expr_at tree text a))) c l s r l₁ s₁) where
      m' : Converts tree text (expr_steps tree text s c (word_of tree e A)) (expr_amount (under (expr_at tree text (word_of tree e A)))) c l s r l₁ s₁
      m' = part_of (scope_at tree text s c.scope) (scope_at tree text s c.scope) a (word_of tree e A) refl ea m

      pub unary-room : {o : Operand} {k : Counters} → r ≡ Converted.Is o k → RoomFor k l₁ (amount 1 1 0 0 0)
      unary-room q = record {
        room = (converted-next m q).next.room;
        affords = omega (arith, f.tables, unary-under a ea, (converted-next m q).spent);
      }

      pub unary-stop : (y : ℕ) {z : ConvertError} → r ≡ Converted.Refused z
          → Converts tree text (unary_steps tree text s c e y) (expr_amount (under (expr_at tree text e))) c l s (Converted.Refused z) l₁ s₁
      unary-stop y q =
          converts-same (sym (unary_parts (get_or unary_ops (detail_of tree e) Neg) y (λ st. expr_steps tree text s c (word_of tree e A) st)))
          (converts-stop m' (λ src. finish_unary (get_or unary_ops (detail_of tree e) Neg) y src) q)

      pub unary-next : (y : ℕ) {d : ℕ} {o : Operand} {k : Counters} {g : Fitted} {b : Converted} {l₂ : List ℕ} → d ≡ detail_of tree e → r ≡ Converted.Is o k
          → FitAdds tree (finish_unary (get_or unary_ops d Neg) y (operand_of o)) (amount 1 1 0 0 0) k l₁ g l₂ → b ≡ Converted.Is g.operand g.counters
          → Converts tree text (unary_steps tree text s c e y) (expr_amount (under (expr_at tree text e))) c l s b l₂ s₁
      unary-next y {o = o} {k = k} {g = g} {l₂ = l₂} ed q i eb =
          converts-same (sym (unary_parts (get_or unary_ops (detail_of tree e) Neg) y (λ st. expr_steps tree text s c (word_of tree e A) st)))
          (converts-most (omega (arith, unary-under (word_of tree e A) refl)) (converts-fit m' (λ src. finish_unary (get_or unary_ops (detail_of tree e) Neg) y src) q
          (subst (λ (z : ℕ). FitAdds tree (finish_unary (get_or unary_ops z Neg) y (operand_of o)) (amount 1 1 0 0 0) k l₁ g l₂) ed i) eb))

-- ---- Binary: which of the three it is

by-other : (P : Program) (F : Functions) (o : BinaryOp) (r y q : ℕ) (left right : M Ir.Operand) → 1 < binary_number o
    → convert_binary_by P F o r y q left right ≡ convert_other P F o y q left right
unfolding convert_binary_by
by-other P F Or r y q left right h = absurd (omega arith)
by-other P F And r y q left right h = absurd (omega arith)
by-other P F BitOr r y q left right h = refl
by-other P F BitXor r y q left right h = refl
by-other P F BitAnd r y q left right h = refl
by-other P F Eq r y q left right h = refl
by-other P F NotEq r y q left right h = refl
by-other P F Lt r y q left right h = refl
by-other P F Le r y q left right h = refl
by-other P F Gt r y q left right h = refl
by-other P F Ge r y q left right h = refl
by-other P F Shl r y q left right h = refl
by-other P F Shr r y q left right h = refl
by-other P F Add r y q left right h = refl
by-other P F Sub r y q left right h = refl
by-other P F Mul r y q left right h = refl
by-other P F Div r y q left right h = refl
by-other P F Rem r y q left right h = refl

by_logic : (P : Program) (F : Functions) (d r y q : ℕ) (left right : M Ir.Operand) → d ≤ 1
    → convert_binary_by P F (get_or binary_ops d Or) r y q left right ≡ pick (eqb d 1) (convert_and r y left right) (convert_or r y left right)
unfolding convert_binary_by pick
by_logic P F zero r y q left right h = refl
by_logic P F (suc zero) r y q left right h = refl
by_logic P F (suc (suc d)) r y q left right h = absurd (omega arith)

-- the common type, from what the sides are fitted to
common-err : (m : Result (Option ℕ)) (y : ℕ) (k : ConvertErrorKind) (r : ℕ) → operand_type m y ≡ err k r → m ≡ err k r
unfolding operand_type E.◌>>=◌
common-err (ok o) y k r e = let z : ◌≡◌ {A = ℕ} 0 1 = cc in absurd (omega arith)
common-err (err k' r') y k r e = cc

record CommonIs (m : Result (Option ℕ)) (y q : ℕ) : Type 0 where
  pub common : Option ℕ
  pub is : m ≡ ok common
  pub fitted : unwrap_or y common ≡ q

common-ok : (m : Result (Option ℕ)) (y q : ℕ) → operand_type m y ≡ ok q → CommonIs m y q
unfolding operand_type E.◌>>=◌
common-ok (ok o) y q e = record { common = o; is = refl; fitted = cc }
common-ok (err k r) y q e = let z : ◌≡◌ {A = ℕ} 0 1 = cc in absurd (omega arith)

module _ {tree text l s : List ℕ} {c : Converter} {e y : ℕ} (p : Converting tree text l s c) (x : IsKind tree 10 e) {t : OrRefused ℕ} {s₁ : List ℕ}
    (m : OperandTyped tree text s c e y t s₁) where
  abbrev T : Def.Scope
  T = scope_at tree text s c.scope

  abbrev sides : Result (Option ℕ)
  sides = common_type (program tree text) (all_keys tree text) (expr_at tree text (word_of tree e A)) (expr_at tree text (word_of tree e B)) T

  abbrev by : Option ℕ → M Ir.Operand
  by o = convert_binary_by (program tree text) (all_keys tree text) (get_or binary_ops (detail_of tree e) Or) e y (unwrap_or y o)
      (λ st. expr_in tree text T (word_of tree e A) st) (λ st. expr_in tree text T (word_of tree e B) st)

  pub fitted_converting : Converting tree text l s₁ c
  fitted_converting = converting_frame p m.frame

  pub fitted-stop : {z : ConvertError} → t ≡ Err z
      → Converts tree text (binary_steps tree text s c e y) (expr_amount (under (expr_at tree text e))) c l s (Converted.Refused z) l s₁
  unfolding convert_binary type_result refusal
  fitted-stop {z} w = record {
    meets = meets-lift-stop (texts_of tree text) by refl (common-err sides y z.kind z.place (m.meets ∙ ap type_result w));
    operand = λ o k h. let z : ◌≡◌ {A = ℕ} 0 1 = cc in absurd (omega arith);
    stays = frame-stays c.scope.names c.operands m.frame;
    names = frame-names m.frame;
  }

  module _ {q : ℕ} {b : Converted} {l₁ s₂ : List ℕ} (w : t ≡ Ok q) where
    fitted-by : (g : Def.Scope → M Ir.Operand) → ((o : Option ℕ) → unwrap_or y o ≡ q → g T ≡ by o)
        → Converts tree text (g (scope_at tree text s₁ c.scope)) (expr_amount (under (expr_at tree text e))) c l s₁ b l₁ s₂
        → Converts tree text (binary_steps tree text s c e y) (expr_amount (under (expr_at tree text e))) c l s b l₁ s₂
    unfolding convert_binary type_result
    fitted-by g same i =
        let o = common-ok sides y q (m.meets ∙ ap type_result w) in
        let i' = converts-same (ap g (scope-frame tree s s₁ m.frame text c.scope p.ready.scoped) ∙ same o.common o.fitted) i in
        record {
          meets = meets-lift (texts_of tree text) by p.room o.is i'.meets;
          operand = i'.operand;
          stays = stays_then (omega arith) (omega arith) (frame-stays c.scope.names c.operands m.frame) i'.stays;
          names = names_then (frame-names m.frame) i'.names;
        }

    module _ {d : ℕ} (ed : d ≡ detail_of tree e) where
      pub fitted_logic : d ≤ 1 → Converts tree text (logic_steps tree text s₁ c e y) (expr_amount (under (expr_at tree text e))) c l s₁ b l₁ s₂
          → Converts tree text (binary_steps tree text s c e y) (expr_amount (under (expr_at tree text e))) c l s b l₁ s₂
      fitted_logic h i = fitted-by (λ Z. logic_in tree text Z e y)
          (λ o u. sym (by_logic (program tree text) (all_keys tree text) (detail_of tree e) e y (unwrap_or y o)
          (λ st. expr_in tree text T (word_of tree e A) st) (λ st. expr_in tree text T (word_of tree e B) st) (omega arith))) i

      pub fitted-other : 1 < d → Converts tree text (other_steps tree text s₁ c e y q) (expr_amount (under (expr_at tree text e))) c l s₁ b l₁ s₂
          → Converts tree text (binary_steps tree text s c e y) (expr_amount (under (expr_at tree text e))) c l s b l₁ s₂
      fitted-other n i = fitted-by (λ Z. other_in tree text Z e y q)
          (λ o u. ap (λ (v : ℕ). other_in tree text T e y v) (sym u)
          ∙ sym (by-other (program tree text) (all_keys tree text) (get_or binary_ops (detail_of tree e) Or) e y (unwrap_or y o)
          (λ st. expr_in tree text T (word_of tree e A) st) (λ st. expr_in tree text T (word_of tree e B) st)
          (omega (arith, n, ed, binary_in_lem (detail_of tree e) (binary_detail tree text p.ready.keyed.good e x.below x.kind))))) i

-- ---- And, Or, and any other Binary

logic_parts : (b : Bool) (r y : ℕ) (left right : M Ir.Operand)
    → pick b (convert_and r y left right) (convert_or r y left right)
    ≡ begin_logic r y >>= (λ dest. left >>= (λ a. pick b (join_and r dest a) (join_or r dest a) >> (right >>= (λ b. end_logic r dest b))))
unfolding pick
logic_parts true r y left right = and_parts r y left right
logic_parts false r y left right = or_parts r y left right

module _ {tree text l s : List ℕ} {c : Converter} {e : ℕ} (p : Converting tree text l s c) (f : ExprAfforded tree text c e) (x : IsKind tree 10 e)
    {a b : ℕ} (ea : a ≡ word_of tree e A) (eb : b ≡ word_of tree e B) where
  abbrev U : Def.Scope
  U = scope_at tree text s c.scope

  abbrev L : M Ir.Operand
  L = expr_in tree text U (word_of tree e A)

  abbrev R : M Ir.Operand
  R = expr_in tree text U (word_of tree e B)

  binary-under : under (expr_at tree text e) ≡ 2 + (under (expr_at tree text (word_of tree e A)) + under (expr_at tree text (word_of tree e B)))
  unfolding under
  binary-under = ap under (expr-binary tree text p.ready.keyed.good e x.below x.kind)

  under-a : under (expr_at tree text a) ≡ under (expr_at tree text (word_of tree e A))
  under-a = ap (λ (z : ℕ). under (expr_at tree text z)) ea

  under-b : under (expr_at tree text b) ≡ under (expr_at tree text (word_of tree e B))
  under-b = ap (λ (z : ℕ). under (expr_at tree text z)) eb

  later : {s₁ : List ℕ} → StaysFor tree c s s₁ → scope_at tree text s₁ c.scope ≡ U
  later st = scope-stays tree st text c.scope p.ready.scoped (omega arith)

  pub left_afforded : ExprAfforded tree text c a
  left_afforded = omega (arith, f, binary-under, under-a)

  pub begin_room : RoomFor c.counters l (amount 0 1 2 0 0) × (e < c.counters.records)
  begin_room = (record { room = p.room; affords = omega (arith, f.tables, binary-under) }, record_counted p x refl)

  -- any other: the left side, then the right
  module _ {g : Converted} {l₁ s₁ : List ℕ} (m : Converts tree text (expr_steps tree text s c a) (expr_amount (under (expr_at tree text a))) c l s g l₁ s₁) where
    left-of : Converts tree text L (expr_amount (under (expr_at tree text (word_of tree e A)))) c l s g l₁ s₁
    left-of = part_of U U a (word_of tree e A) refl ea m

    pub other-left : (y q : ℕ) {z : ConvertError} → g ≡ Converted.Refused z
        → Converts tree text (other_steps tree text s c e y q) (expr_amount (under (expr_at tree text e))) c l s (Converted.Refused z) l₁ s₁
    other-left y q w =
        converts-same (sym (other_parts (program tree text) (all_keys tree text) (get_or binary_ops (detail_of tree e) Or) y q (λ st. L st) (λ st. R st)))
        (converts-stop left-of (λ u. R >>= (λ v. finish_binary (program tree text) (get_or binary_ops (detail_of tree e) Or) y q u v)) w)

    module _ {o : Operand} {k : Counters} (w : g ≡ Converted.Is o k) where
      pub other_afforded : ExprAfforded tree text (with_counters c k) b
      other_afforded = omega (arith, f, binary-under, under-a, under-b, (converted-next m w).spent)

      module _ {h : Converted} {l₂ s₂ : List ℕ}
          (n : Converts tree text (expr_steps tree text s₁ (with_counters c k) b) (expr_amount (under (expr_at tree text b))) (with_counters c k) l₁ s₁ h l₂ s₂) where
        right_of : Converts tree text R (expr_amount (under (expr_at tree text (word_of tree e B)))) (with_counters c k) l₁ s₁ h l₂ s₂
        right_of = part_of U (scope_at tree text s₁ c.scope) b (word_of tree e B) (later m.stays) eb n

        pub other-room : {o₂ : Operand} {k₂ : Counters} → h ≡ Converted.Is o₂ k₂ → RoomFor k₂ l₂ (amount 3 3 0 0 2)
        other-room v = record {
          room = (converted-next n v).next.room;
          affords = omega (arith, f.tables, binary-under, under-a, under-b, (converted-next m w).spent, (converted-next n v).spent);
        }

        pub other-right : (y q : ℕ) {z : ConvertError} → h ≡ Converted.Refused z
            → Converts tree text (other_steps tree text s c e y q) (expr_amount (under (expr_at tree text e))) c l s (Converted.Refused z) l₂ s₂
        other-right y q v =
            converts-same (sym (other_parts (program tree text) (all_keys tree text) (get_or binary_ops (detail_of tree e) Or) y q (λ st. L st) (λ st. R st)))
            (converts-most (omega (arith, binary-under)) (converts-next left-of (λ u. R >>= (λ v. finish_binary (program tree text) (get_or binary_ops (detail_of tree e) Or) y q u v)) w
            (converts-stop right_of {n = expr_amount (under (expr_at tree text (word_of tree e B)))} (λ v. finish_binary (program tree text) (get_or binary_ops (detail_of tree e) Or) y q (operand_of o) v) v)))

        pub other-next : (y q : ℕ) {d : ℕ} {o₂ : Operand} {k₂ : Counters} {t : Fitted} {r : Converted} {l₃ : List ℕ} → d ≡ detail_of tree e → h ≡ Converted.Is o₂ k₂
            → FitAdds tree (finish_binary (program tree text) (get_or binary_ops d Or) y q (operand_of o) (operand_of o₂)) (amount 3 3 0 0 2) k₂ l₂ t l₃
            → r ≡ Converted.Is t.operand t.counters
            → Converts tree text (other_steps tree text s c e y q) (expr_amount (under (expr_at tree text e))) c l s r l₃ s₂
        other-next y q {o₂ = o₂} {k₂ = k₂} {t = t} {l₃ = l₃} ed v i er =
            converts-same (sym (other_parts (program tree text) (all_keys tree text) (get_or binary_ops (detail_of tree e) Or) y q (λ st. L st) (λ st. R st)))
            (converts-most (omega (arith, binary-under)) (converts-next left-of (λ u. R >>= (λ v. finish_binary (program tree text) (get_or binary_ops (detail_of tree e) Or) y q u v)) w
            (converts-fit right_of (λ v. finish_binary (program tree text) (get_or binary_ops (detail_of tree e) Or) y q (operand_of o) v) v
            (subst (λ (z : ℕ). FitAdds tree (finish_binary (program tree text) (get_or binary_ops z Or) y q (operand_of o) (operand_of o₂)) (amount 3 3 0 0 2) k₂ l₂ t l₃) ed i) er)))

  -- And and Or: the variable and its labels, the left side, what decides, the right side
  module _ (y : ℕ) {dest : VarId} {k₁ : Counters} {l₁ : List ℕ} (begun : Adds (begin_logic e y) (amount 0 1 2 0 0) c.counters l (var_of dest) k₁ l₁) where
    pub logic_converting : Converting tree text l₁ s (with_counters c k₁)
    logic_converting = converting_next p (adds_in (texts_of tree text) begun).next (stays_refl tree c.scope.names c.operands s)

    pub logic_left_afforded : ExprAfforded tree text (with_counters c k₁) a
    logic_left_afforded = omega (arith, f, binary-under, under-a, begun.spent)

    abbrev D : Bool
    D = eqb (detail_of tree e) 1

    abbrev behind : Ir.VarId → Ir.Operand → M Ir.Operand
    behind v u = pick D (join_and e v u) (join_or e v u) >> (R >>= (λ w. end_logic e v w))

    whole : {n : _} {r : Converted} {l' s' : List ℕ} → Converts tree text (L >>= behind (var_of dest)) n (with_counters c k₁) l₁ s r l' s'
        → Converts tree text (logic_steps tree text s c e y) (both (amount 0 1 2 0 0) n) c l s r l' s'
    whole i =
        converts-same (sym (logic_parts D e y (λ st. L st) (λ st. R st)))
        (converts-after (λ (v : Ir.VarId). L >>= behind v) begun i)

    module _ {g : Converted} {l₂ s₂ : List ℕ} (m : Converts tree text (expr_steps tree text s (with_counters c k₁) a) (expr_amount (under (expr_at tree text a))) (with_counters c k₁) l₁ s g l₂ s₂) where
      logic_left-of : Converts tree text L (expr_amount (under (expr_at tree text (word_of tree e A)))) (with_counters c k₁) l₁ s g l₂ s₂
      logic_left-of = part_of U U a (word_of tree e A) refl ea m

      pub logic_left : {z : ConvertError} → g ≡ Converted.Refused z
          → Converts tree text (logic_steps tree text s c e y) (expr_amount (under (expr_at tree text e))) c l s (Converted.Refused z) l₂ s₂
      logic_left w = converts-most (omega (arith, binary-under)) (whole (converts-stop logic_left-of {n = amount 0 0 0 0 0} (behind (var_of dest)) w))

      module _ {o : Operand} {k₂ : Counters} (w : g ≡ Converted.Is o k₂) where
        pub logic_room : RoomFor k₂ l₂ (amount 4 0 3 0 0) × (e < k₂.records)
        logic_room = (
          record {
            room = (converted-next m w).next.room;
            affords = omega (arith, f.tables, binary-under, under-a, begun.spent, (converted-next m w).spent);
          },
          record_counted p x ((converted-next m w).spent.records ∙ begun.spent.records),
        )

        module _ {k₃ : Counters} {l₃ : List ℕ}
            (j : Adds (pick (eqb (detail_of tree e) 1) (join_and e (var_of dest) (operand_of o)) (join_or e (var_of dest) (operand_of o))) (amount 4 0 3 0 0) k₂ l₂ tt k₃ l₃) where
          pub logic_right_converting : Converting tree text l₃ s₂ (with_counters c k₃)
          logic_right_converting = converting_next (converting_after m w logic_converting) (adds_in (texts_of tree text) j).next (stays_refl tree c.scope.names c.operands s₂)

          pub logic_right_afforded : ExprAfforded tree text (with_counters c k₃) b
          logic_right_afforded = omega (arith, f, binary-under, under-a, under-b, begun.spent, (converted-next m w).spent, j.spent)

          module _ {h : Converted} {l₄ s₄ : List ℕ}
              (n : Converts tree text (expr_steps tree text s₂ (with_counters c k₃) b) (expr_amount (under (expr_at tree text b))) (with_counters c k₃) l₃ s₂ h l₄ s₄) where
            logic_right-of : Converts tree text R (expr_amount (under (expr_at tree text (word_of tree e B)))) (with_counters c k₃) l₃ s₂ h l₄ s₄
            logic_right-of = part_of U (scope_at tree text s₂ c.scope) b (word_of tree e B) (later m.stays) eb n

            pub logic_right : {z : ConvertError} → h ≡ Converted.Refused z
                → Converts tree text (logic_steps tree text s c e y) (expr_amount (under (expr_at tree text e))) c l s (Converted.Refused z) l₄ s₄
            logic_right v = converts-most (omega (arith, binary-under)) (whole (converts-next logic_left-of (behind (var_of dest)) w
                (converts_seq (R >>= (λ w. end_logic e (var_of dest) w)) j (converts-stop logic_right-of {n = amount 0 0 0 0 0} (λ w. end_logic e (var_of dest) w) v))))

            pub logic_end-room : {o₂ : Operand} {k₄ : Counters} → h ≡ Converted.Is o₂ k₄ → RoomFor k₄ l₄ (amount 2 0 1 0 0) × (e < k₄.records)
            logic_end-room v = (
              record {
                room = (converted-next n v).next.room;
                affords = omega (arith, f.tables, binary-under, under-a, under-b, begun.spent, (converted-next m w).spent, j.spent, (converted-next n v).spent);
              },
              record_counted p x ((converted-next n v).spent.records ∙ j.spent.records ∙ (converted-next m w).spent.records ∙ begun.spent.records),
            )

            pub logic_next : {o₂ : Operand} {k₄ : Counters} {t : Fitted} {r : Converted} {l₅ : List ℕ} → h ≡ Converted.Is o₂ k₄
                → FitAdds tree (end_logic e (var_of dest) (operand_of o₂)) (amount 2 0 1 0 0) k₄ l₄ t l₅ → r ≡ Converted.Is t.operand t.counters
                → Converts tree text (logic_steps tree text s c e y) (expr_amount (under (expr_at tree text e))) c l s r l₅ s₄
            logic_next v i er = converts-most (omega (arith, binary-under)) (whole (converts-next logic_left-of (behind (var_of dest)) w
                (converts_seq (R >>= (λ w. end_logic e (var_of dest) w)) j (converts-fit logic_right-of (λ w. end_logic e (var_of dest) w) v i er))))
