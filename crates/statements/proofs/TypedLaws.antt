-- Which records an expression types, as the code meets them: its own, then those of its parts one after another; a refusal owes nothing.
-- By what a record of each kind stands for, and one part of a turn after another; the scope stays. Assumes nothing.
use Rattle.std.specs.Prelude.{Ok}
use Rattle.expressions.specs.declared.answers.Callee as Code-Callee
use mathlib.Core.Path.{◌≡◌, refl, sym, ◌∙◌, subst}
use mathlib.Core.List.{List, [], ◌++◌}
use Prim.Native.Nat.{ℕ, ◌≤◌}
use native.Mathlib.Omega.{arith}
use lib.Dec.{leb, ltb}
use borrow.Author.Tests.{leb-true, ltb-true, ltb-false}
use Rattle.laws.proofs.Tests.{tested, and_left}
use Rattle.records.specs.declared.convert_error.ConvertError.{ConvertError}
use Rattle.records.specs.Words.{kind_of, word_of, A, B, C}
use Rattle.records.specs.Good.{Good}
use Rattle.syntax.specs.Syntax.{Expr}
use Rattle.syntax.specs.Exprs.{exprs, args_exprs}
use Rattle.syntax.specs.Places.{IsExpr, expr_at, args_at}
use Rattle.syntax.proofs.Records.{expr_int, expr_float, expr-str, expr-bool, expr-name, expr_null, expr_size_of, expr-unary, expr-binary, expr-call}
use Rattle.conversion.specs.Visits.{typed_expr}
use Rattle.ir.specs.declared.structs.Counters.{Counters}
use Rattle.ir.specs.declared.structs.Operand.{Operand}
use Rattle.scope.specs.Open.{scope_at}
use Rattle.expressions.specs.Slots.{Frame}
use Rattle.expressions.specs.Answers.{OrRefused, TypeMeets, CallMeets}
use Rattle.expressions.proofs.SlotLaws.{scope-frame}
use Rattle.expressions.proofs.TurnLaws.{typed-none}
use Rattle.expressions.proofs.TypingLaws.{expr-low}
use Rattle.statements.specs.Lent.{Converter, Converted, ConvertedArgs}
use Rattle.statements.specs.Converting.{Converting, StaysFor}
use Rattle.statements.specs.Answers.{OperandTyped}
use Rattle.statements.specs.Turns.{InTurn, TypedIn, TurnsStay, expr_types, unary_types, sides_types, binary_types, args_types, call_types, ConvertsTyped, ArgumentsTyped, CommonTyped}
use Rattle.statements.proofs.StatedLaws.{scope_later}
use Rattle.statements.proofs.TurnLaws.{in_turn-next, typed-next, typed_stay}
use Rattle.statements.proofs.ArgsLaws.{callee-is}

-- ---- the records by kind

module _ {tree text : List ℕ} (good : Good tree text) {e : ℕ} (x : IsExpr tree e) where
  leaf_none : kind_of tree e ≤ 8 → expr_types tree text e ≡ []
  unfolding typed_expr
  leaf_none to =
      let k = kind_of tree e in
      let from : 2 ≤ k = leb-true 2 k (and_left (leb 2 k) (leb k 11) x.expression) in
      tested (ltb k 3) (λ q. rw (expr_int tree text e (omega (arith, ltb-true k 3 q))))
      λ n₃. tested (ltb k 4) (λ q. rw (expr_float tree text e (omega (arith, ltb-true k 4 q, ltb-false k 3 n₃))))
      λ n₄. tested (ltb k 5) (λ q. rw (expr-str tree text e (omega (arith, ltb-true k 5 q, ltb-false k 4 n₄))))
      λ n₅. tested (ltb k 6) (λ q. rw (expr-bool tree text e (omega (arith, ltb-true k 6 q, ltb-false k 5 n₅))))
      λ n₆. tested (ltb k 7) (λ q. rw (expr-name tree text e (omega (arith, ltb-true k 7 q, ltb-false k 6 n₆))))
      λ n₇. tested (ltb k 8) (λ q. rw (expr_null tree text e (omega (arith, ltb-true k 8 q, ltb-false k 7 n₇))))
      λ n₈. rw (expr_size_of tree text e (omega (arith, ltb-false k 8 n₈)))

  own-unary : kind_of tree e ≡ 9 → exprs (expr_at tree text e) ++ unary_types tree text e ≡ expr_types tree text e
  unfolding typed_expr
  own-unary k = subst (λ (z : Expr). exprs z ++ unary_types tree text e ≡ typed_expr z) (sym (expr-unary tree text good e (expr-low tree text good e x) k)) refl

  own-binary : kind_of tree e ≡ 10 → exprs (expr_at tree text e) ++ binary_types tree text e ≡ expr_types tree text e
  unfolding typed_expr
  own-binary k = subst (λ (z : Expr). exprs z ++ binary_types tree text e ≡ typed_expr z) (sym (expr-binary tree text good e (expr-low tree text good e x) k)) refl

  own-call : kind_of tree e ≡ 11 → exprs (expr_at tree text e) ++ call_types tree text e ≡ expr_types tree text e
  unfolding typed_expr
  own-call k = subst (λ (z : Expr). exprs z ++ call_types tree text e ≡ typed_expr z) (sym (expr-call tree text good e (expr-low tree text good e x) k)) refl

-- ---- a refusal

pub refused-types : {X : Type 0} {z : ConvertError} (o : Operand) (k : Counters) → Converted.Refused z ≡ Converted.Is o k → X
refused-types o k h = let z : ◌≡◌ {A = ℕ} 0 1 = cc in absurd (omega arith)

pub args-refused-types : {X : Type 0} {z : ConvertError} (count : ℕ) (k : Counters) → ConvertedArgs.Refused z ≡ ConvertedArgs.Done count k → X
args-refused-types count k h = let z : ◌≡◌ {A = ℕ} 0 1 = cc in absurd (omega arith)

-- ---- one part after another: the list a was typed, and then the rest

module _ {tree text l s : List ℕ} {c : Converter} (p : Converting tree text l s c) where
  same-frame : {s₁ : List ℕ} → Frame tree s s₁ → scope_at tree text s₁ c.scope ≡ scope_at tree text s c.scope
  same-frame {s₁} f = scope-frame tree s s₁ f text c.scope p.ready.scoped

  then_types : {s₁ s₂ a m n : List ℕ} → scope_at tree text s₁ c.scope ≡ scope_at tree text s c.scope → a ++ m ≡ n
      → TypedIn tree text c s a s₁ → TypedIn tree text c s₁ m s₂ → TypedIn tree text c s n s₂
  then_types {s₁} {s₂} same q t u = subst (λ (z : List ℕ). TypedIn tree text c s z s₂) q (typed-next c same t u)

  -- ---- an expression: a leaf is not typed, the others are typed first

  pub leaf_types : {e k : ℕ} {b : Converted} → IsExpr tree e → k ≡ kind_of tree e → k ≤ 8 → InTurn tree text s c → ConvertsTyped expr_types c e tree text s b s
  leaf_types {e} {k} x ek h t o k' q = subst (λ (z : List ℕ). TypedIn tree text c s z s) (sym (leaf_none p.ready.keyed.good x (omega arith)))
      (typed-none tree text (scope_at tree text s c.scope) c.turn s t)

  module _ {e : ℕ} {ty : OrRefused ℕ} {s₁ : List ℕ} (m : TypeMeets tree text s c.scope c.turn e ty s₁) {y : ℕ} (w : ty ≡ Ok y) where
    pub typed-in_turn : InTurn tree text s₁ c
    typed-in_turn = in_turn-next c (same-frame m.frame) (m.adds y w)

    module _ (x : IsExpr tree e) {k : ℕ} (ek : k ≡ kind_of tree e) {b : Converted} {s₂ : List ℕ} where
      pub unary_types_lem : k ≡ 9 → ConvertsTyped unary_types c e tree text s₁ b s₂ → ConvertsTyped expr_types c e tree text s b s₂
      unary_types_lem q i o k' h = then_types (same-frame m.frame) (own-unary p.ready.keyed.good x (sym ek ∙ q)) (m.adds y w) (i o k' h)

      pub binary_types_lem : k ≡ 10 → ConvertsTyped binary_types c e tree text s₁ b s₂ → ConvertsTyped expr_types c e tree text s b s₂
      binary_types_lem q i o k' h = then_types (same-frame m.frame) (own-binary p.ready.keyed.good x (sym ek ∙ q)) (m.adds y w) (i o k' h)

      pub call_types_lem : kind_of tree e ≡ 11 → ConvertsTyped call_types c e tree text s₁ b s₂ → ConvertsTyped expr_types c e tree text s b s₂
      call_types_lem q i o k' h = then_types (same-frame m.frame) (own-call p.ready.keyed.good x q) (m.adds y w) (i o k' h)

  -- ---- a Binary: the common type of its sides, then the sides

  module _ {e y : ℕ} {t : OrRefused ℕ} {s₁ : List ℕ} (m : OperandTyped tree text s c e y t s₁) (u : CommonTyped c e tree text s t s₁) {q : ℕ} (w : t ≡ Ok q) where
    pub common_in-turn : InTurn tree text s₁ c
    common_in-turn = in_turn-next c (same-frame m.frame) (u q w)

    pub common_types_lem : {b : Converted} {s₂ : List ℕ} → ConvertsTyped sides_types c e tree text s₁ b s₂ → ConvertsTyped binary_types c e tree text s b s₂
    common_types_lem i o k h = then_types (same-frame m.frame) refl (u q w) (i o k h)

  module _ (e : ℕ) {a : ℕ} (ea : a ≡ word_of tree e A) {g : Converted} {s₁ : List ℕ} (t : ConvertsTyped expr_types c a tree text s g s₁) {o : Operand} {k : Counters} (w : g ≡ Converted.Is o k) where
    left_typed : TypedIn tree text c s (expr_types tree text (word_of tree e A)) s₁
    left_typed = subst (λ (z : ℕ). TypedIn tree text c s (expr_types tree text z) s₁) ea (t o k w)

    -- the operand of a Unary
    pub operand-types : {b : Converted} → ConvertsTyped unary_types c e tree text s b s₁
    operand-types o' k' h = left_typed

    module _ (st : StaysFor tree c s s₁) where
      pub left-in_turn : InTurn tree text s₁ c
      left-in_turn = in_turn-next c (scope_later p st) left_typed

      pub sides_types_lem : {b : ℕ} → b ≡ word_of tree e B → {h : Converted} {s₂ : List ℕ} → ConvertsTyped expr_types c b tree text s₁ h s₂ → {o₂ : Operand} {k₂ : Counters} → h ≡ Converted.Is o₂ k₂
          → {r : Converted} → ConvertsTyped sides_types c e tree text s r s₂
      sides_types_lem eb {s₂ = s₂} u {o₂ = o₂} {k₂ = k₂} v o' k' i = then_types (scope_later p st) refl left_typed
          (subst (λ (z : ℕ). TypedIn tree text c s₁ (expr_types tree text z) s₂) eb (u o₂ k₂ v))

  -- ---- a call: its callee, then its values; the rest types nothing

  module _ {e : ℕ} {callee : OrRefused Code-Callee.Callee} {s₁ : List ℕ} {g : Code-Callee.Callee} (m : CallMeets tree text s c.scope c.turn e callee s₁) (not : callee ≡ Ok g) where
    callee-typed : TypedIn tree text c s (args_exprs (args_at tree text (word_of tree e C))) s₁
    callee-typed = let to = callee-is tree text _ not in m.adds to.to to.is

    pub called_in_turn : InTurn tree text s₁ c
    called_in_turn = in_turn-next c (same-frame m.frame) callee-typed

    pub called_types : {a : ConvertedArgs} {s₂ s₃ : List ℕ} → ArgumentsTyped args_types c (word_of tree e C) tree text s₁ a s₂ → {count : ℕ} {k : Counters} → a ≡ ConvertedArgs.Done count k
        → TurnsStay tree s₂ s₃ → {b : Converted} → ConvertsTyped call_types c e tree text s b s₃
    called_types u {count = count} {k = k} w f o k' h = typed_stay c (then_types (same-frame m.frame) refl callee-typed (u count k w)) f
