-- The type of an expression by its kind, and what typing owes after each call: a refusal is passed on, a type goes into the rule of the operator, and is remembered.
-- By the cases of nodes and the laws of turns, in the scope that the open names stand for. Assumes nothing.
use Rattle.std.specs.Prelude.{Option as StdOption, Some, None, Ok, Err}
use Rattle.std.specs.Option.{unwrap_or}
use Rattle.expressions.specs.declared.answers.Callee as Code
use Rattle.expressions.specs.Answers.{OrRefused}
use mathlib.Core.Path.{◌≡◌, refl, sym, ap, ◌∙◌, subst}
use mathlib.Core.Bool.{Bool, true, false}
use mathlib.Core.Logic.{◌⊎◌, inl, inr}
use mathlib.Core.Option.{Option, none, some}
use mathlib.Core.List.{List, [], ◌++◌}
use Prim.Native.Nat.{ℕ, ◌*◌, ◌≤◌, ◌<◌}
use native.Mathlib.Omega.{arith}
use lib.Dec.{leb}
use lib.ListN.{length, get_or}
use borrow.Author.Tests.{leb-true, ne_eqb}
use Rattle.laws.proofs.Tests.{and_right}
use Rattle.records.specs.declared.convert_error.ConvertError.{ConvertError}
use Rattle.laws.specs.Fix.{pick}
use Rattle.records.specs.Words.{kind_of, detail_of, word_of, records, A, B, C}
use Rattle.records.specs.Kinds.{kind_function}
use Rattle.records.specs.Rules.{is_expr}
use Rattle.records.specs.Good.{Good}
use Rattle.records.proofs.GoodLaws.{unary-a, binary-a, binary-b}
use Rattle.syntax.specs.Syntax.{Neg, Or, unary_ops, binary_ops, place}
use Rattle.syntax.specs.Decode.{program, text_of}
use Rattle.syntax.specs.Exprs.{exprs, args_exprs, parts_exprs}
use Rattle.conversion.specs.ConvertError.{ConvertErrorKind, Result, ok, err, ◌>>=◌, WrongOperands, LiteralOutOfRange}
use Rattle.conversion.specs.Types.{range_error}
use Rattle.conversion.specs.Scope as Def
use Rattle.conversion.specs.Expressions.{Callee, get_type, get_argument_types, resolve_call, resolve_typed, filter_option, common_of, unary_type, accepted, binary_error, binary_type, value_type, return_type, common_type}
use Rattle.scope.specs.declared.Scope.{Scope}
use Rattle.scope.specs.Open.{scope_at}
use Rattle.types.proofs.FromGood.{is_expr_lem}
use Rattle.syntax.specs.Places.{IsExpr, IsKind, TypeAt, FunctionAt, expr_at, args_at}
use Rattle.keys.specs.Keys.{all_keys}
use Rattle.expressions.specs.Slots.{slot_at, beside_at, in_turn, after_visit, slotted, type_in, callee_in, callee_at, Callable, common_in, Beside, Typed, Typing}
use Rattle.expressions.specs.Calls.{typed_at}
use Rattle.expressions.specs.declared.operands.Sides.{Sides}
use Rattle.expressions.specs.Answers.{refusal, type_result, common_result, found_number, TypeFound, FoundIs, common_at, IsCommon, done_with, callee_of, callee_record, value_result, IsTyped, IsCallee, TypeIs, CalleeIs, binary_type_at, WorksOut, Keepable, Keeps, TypeMeets, ArgsMeet, CallMeets, CommonMeets, SidesMeet}
use Rattle.syntax.proofs.Records.{expr-unary, expr-binary, expr-call}
use Rattle.expressions.proofs.SlotLaws.{frame_refl, frame_trans}
pub use Rattle.expressions.proofs.PartLaws.{expr-low, place_is, call-list, call-low}
use Rattle.expressions.proofs.PartLaws.{leaf_parts, unary_parts, binary_parts, call_parts}
use Rattle.expressions.proofs.TurnLaws.{visited-frame, typed-none, typed-both, hit_right, hit_typed, hit_parts, visit_fits, visit_typed, later_type, later_adds}

-- ---- results one after the other

bind_assoc : {X Y Z : Type 0} (m : Result X) (f : X → Result Y) (g : Y → Result Z) → (m >>= (λ x. f x >>= g)) ≡ ((m >>= f) >>= g)
unfolding ◌>>=◌
bind_assoc (ok x) f g = refl
bind_assoc (err k p) f g = refl

pub bind_ok : {X Y : Type 0} (m : Result X) (x : X) (f : X → Result Y) → m ≡ ok x → (m >>= f) ≡ f x
unfolding ◌>>=◌
bind_ok m x f e = rw e

pub bind-refused : {X Y : Type 0} (m : Result X) (x : ConvertError) (f : X → Result Y) → m ≡ refusal x → (m >>= f) ≡ refusal x
unfolding ◌>>=◌ refusal
bind-refused m x f e = rw e

-- what an answer says
pub type-ok : (m : Result ℕ) (a : OrRefused ℕ) (y : ℕ) → m ≡ type_result a → a ≡ Ok y → m ≡ ok y
unfolding type_result
type-ok m a y e q = e ∙ rw q

pub type-refused : (m : Result ℕ) (a : OrRefused ℕ) (x : ConvertError) → m ≡ type_result a → a ≡ Err x → m ≡ refusal x
unfolding type_result
type-refused m a x e q = e ∙ rw q

pub is-typed : (tree : List ℕ) (a : OrRefused ℕ) (y : ℕ) → IsTyped tree a → a ≡ Ok y → TypeAt tree y
is-typed tree a y t q = go (subst (λ (z : OrRefused ℕ). IsTyped tree z) q t)
  where
    go : IsTyped tree (Ok y) → TypeAt tree y
    go (IsTyped.is h) = h

-- a refusal is no success
pub err-ok : {X : Type 0} (k : ConvertErrorKind) (p : ℕ) (x : X) → ◌≡◌ {A = Result X} (err k p) (ok x) → ⊥
err-ok k p x e = let z : ◌≡◌ {A = ℕ} 0 1 = cc in omega arith

refused-is : (r : ConvertError) (y : ℕ) → ◌≡◌ {A = OrRefused ℕ} (Err r) (Ok y) → ⊥
refused-is r y e = let z : ◌≡◌ {A = ℕ} 0 1 = cc in omega arith

-- what succeeds after a callee has one
callee-ok : {P : Type 0} (m : Result Callee) (f : Callee → Result ℕ) (y : ℕ) → (m >>= f) ≡ ok y → ((c : Callee) → m ≡ ok c → P) → P
unfolding ◌>>=◌
callee-ok (ok c) f y q g = g c refl
callee-ok (err k p) f y q g = absurd (err-ok k p y q)

-- the record of a callee stands for it
callee-stands : (tree text : List ℕ) (S : Def.Scope) (e : ℕ) (a : OrRefused Code.Callee) → IsCallee tree a → callee_in tree text S e ≡ callee_of tree text a
    → (c : Callee) → callee_of tree text a ≡ ok c → Callable tree text S e (callee_record a)
unfolding callee_of callee_at callee_record pick refusal
callee-stands tree text S e (Ok (Code.Callee.Function f)) (IsCallee.a_function h) m c q = record { is = m ∙ rw h.kind; stands = inl h }
callee-stands tree text S e (Ok (Code.Callee.Cast y)) (IsCallee.a_cast h) m c q = record { is = m ∙ rw h.kind; stands = inr h }
callee-stands tree text S e (Err x) IsCallee.no m c q = absurd (err-ok x.kind x.place c q)

-- and what stands for it is told by its kind
pub function-stands : (tree : List ℕ) (b : ℕ) → FunctionAt tree b ⊎ TypeAt tree b → kind_of tree b ≡ kind_function → (text : List ℕ)
    → CalleeIs tree text (Ok (Code.Callee.Function b)) (ok (callee_at tree text b))
unfolding callee_of callee_at pick
function-stands tree b (inl h) q text = record { is = rw q; callee = IsCallee.a_function h }
function-stands tree b (inr h) q text = absurd (omega (arith, q, h.kind))

pub cast-stands : (tree : List ℕ) (b : ℕ) → FunctionAt tree b ⊎ TypeAt tree b → (kind_of tree b ≡ kind_function → ⊥) → (text : List ℕ)
    → CalleeIs tree text (Ok (Code.Callee.Cast b)) (ok (callee_at tree text b))
unfolding callee_of callee_at pick
cast-stands tree b (inl h) n text = absurd (n h.kind)
cast-stands tree b (inr h) n text = record { is = rw (ne_eqb (kind_of tree b) kind_function n); callee = IsCallee.a_cast h }

callee_small : (tree : List ℕ) (a : OrRefused Code.Callee) → IsCallee tree a → records tree ≤ 16384 → callee_record a < 4294967296
unfolding callee_record
callee_small tree (Ok (Code.Callee.Function f)) (IsCallee.a_function h) few = omega (arith, h.below)
callee_small tree (Ok (Code.Callee.Cast y)) (IsCallee.a_cast h) few = omega (arith, h.below)
callee_small tree (Err x) IsCallee.no few = omega arith

-- a type that was found, and a Binary without one, which is refused
pub found-is : {tree : List ℕ} {y : ℕ} → TypeFound tree (Some y) → TypeAt tree y
found-is (TypeFound.a_type h) = h

pick-refused : (b : Bool) (x y : Result ℕ) (i : ℕ) → (x ≡ ok i → ⊥) → (y ≡ ok i → ⊥) → pick b x y ≡ ok i → ⊥
unfolding pick
pick-refused true x y i f g q = f q
pick-refused false x y i f g q = g q

no-common : (tree text : List ℕ) (e : ℕ) (s : Sides) (i : ℕ) → common_at tree text s ≡ none → binary_type_at tree text e s ≡ ok i → ⊥
unfolding binary_type accepted filter_option binary_error
no-common tree text e s i n q =
    pick-refused (range_error (program tree text).type_of (expr_at tree text s.right) s.right_type s.left_type)
    (err LiteralOutOfRange (place (expr_at tree text s.right)))
    (pick (range_error (program tree text).type_of (expr_at tree text s.left) s.left_type s.right_type) (err LiteralOutOfRange (place (expr_at tree text s.left))) (err WrongOperands e)) i
    (err-ok LiteralOutOfRange (place (expr_at tree text s.right)) i)
    (pick-refused (range_error (program tree text).type_of (expr_at tree text s.left) s.left_type s.right_type) (err LiteralOutOfRange (place (expr_at tree text s.left))) (err WrongOperands e) i
    (err-ok LiteralOutOfRange (place (expr_at tree text s.left)) i) (err-ok WrongOperands e i))
    (rw n at q)

-- ---- the kinds

module _ (tree text : List ℕ) (good : Good tree text) where
  module _ (S : Def.Scope) (e : ℕ) (low : e < records tree) where
    pub type-unary : kind_of tree e ≡ 9
        → type_in tree text S e
        ≡ (type_in tree text S (word_of tree e A) >>= unary_type (program tree text) (all_keys tree text) e (get_or unary_ops (detail_of tree e) Neg))
    unfolding type_in get_type
    type-unary k = rw (expr-unary tree text good e low k)

    pub type-binary : kind_of tree e ≡ 10
        → type_in tree text S e
        ≡ (type_in tree text S (word_of tree e A) >>= λ l. type_in tree text S (word_of tree e B)
        >>= λ y. binary_type (program tree text) (all_keys tree text) e (get_or binary_ops (detail_of tree e) Or)
        (expr_at tree text (word_of tree e A)) l (expr_at tree text (word_of tree e B)) y)
    unfolding type_in get_type
    type-binary k = rw (expr-binary tree text good e low k)

    pub type-call : kind_of tree e ≡ 11
        → type_in tree text S e
        ≡ (resolve_call (program tree text) (all_keys tree text) (text_of tree text e A) (args_at tree text (word_of tree e C)) S e
        >>= λ c. value_type e (return_type c))
    unfolding type_in get_type resolve_call
    type-call k =
        rw (expr-call tree text good e low k)
        (bind_assoc (get_argument_types (program tree text) (all_keys tree text) (args_at tree text (word_of tree e C)) S)
        (resolve_typed (program tree text) (all_keys tree text) (text_of tree text e A) e) (λ c. value_type e (return_type c)))

  -- ---- the code's steps: record e, whose kind is k

  module _ (e k : ℕ) (x : IsExpr tree e) (ek : k ≡ kind_of tree e) where
    kind_at : (n : ℕ) → k ≡ n → kind_of tree e ≡ n
    kind_at n q = sym ek ∙ q

    pub is-kind : (n : ℕ) → k ≡ n → IsKind tree n e
    is-kind n q = record { below = expr-low tree text good e x; kind = kind_at n q }

    lower-expr : (a w : ℕ) → a ≡ w → w < e → is_expr (kind_of tree w) ≡ true → IsExpr tree a
    lower-expr a w q h t = subst (λ (z : ℕ). IsExpr tree z) (sym q) (is_expr_lem tree text good w (omega (arith, expr-low tree text good e x)) t)

    pub operand-expr : k ≡ 9 → (a : ℕ) → a ≡ word_of tree e A → (a < e) × IsExpr tree a
    operand-expr q a ea =
        let h = unary-a tree text good e (expr-low tree text good e x) (kind_at 9 q) in
        (omega (arith, h.0), lower-expr a (word_of tree e A) ea h.0 h.1)

    pub left-expr : k ≡ 10 → (a : ℕ) → a ≡ word_of tree e A → (a < e) × IsExpr tree a
    left-expr q a ea =
        let h = binary-a tree text good e (expr-low tree text good e x) (kind_at 10 q) in
        (omega (arith, h.0), lower-expr a (word_of tree e A) ea h.0 h.1)

    pub right-expr : k ≡ 10 → (b : ℕ) → b ≡ word_of tree e B → (b < e) × IsExpr tree b
    right-expr q b eb =
        let h = binary-b tree text good e (expr-low tree text good e x) (kind_at 10 q) in
        (omega (arith, h.0), lower-expr b (word_of tree e B) eb h.0 h.1)

    pub leaf_kind : (k ≡ 9 → ⊥) → (k ≡ 10 → ⊥) → (k ≡ 11 → ⊥) → kind_of tree e ≤ 8
    leaf_kind n₉ n₁₀ n₁₁ = omega (arith, ek, leb-true (kind_of tree e) 11 (and_right (leb 2 (kind_of tree e)) (leb (kind_of tree e) 11) x.expression))

    -- beside the type of what is neither a call nor a Binary anything can be kept
    beside_none : (S : Def.Scope) → (k ≡ 10 → ⊥) → (k ≡ 11 → ⊥) → (0 < 4294967296) × Beside tree text S e 0
    beside_none S m n = (omega arith, record { callee = λ q. absurd (n (ek ∙ q)); common = λ q. absurd (m (ek ∙ q)) })

    module _ (s : List ℕ) (sc : Scope) (turn : ℕ) where
      abbrev S : Def.Scope
      S = scope_at tree text s sc

      -- the parts by their list
      parts_as : (l : List ℕ) → parts_exprs (expr_at tree text e) ≡ l → (s₁ : List ℕ) → Typed tree text S turn s l s₁
          → Typed tree text S turn s (parts_exprs (expr_at tree text e)) s₁
      parts_as l q s₁ t = subst (λ (z : List ℕ). Typed tree text S turn s z s₁) (sym q) t

      -- an operator with one operand
      module _ (q : k ≡ 9) (a : ℕ) (ea : a ≡ word_of tree e A) (t : OrRefused ℕ) (s₁ : List ℕ) (m : TypeMeets tree text s sc turn a t s₁) where
        operand_type_lem : type_in tree text S (word_of tree e A) ≡ type_result t
        operand_type_lem = ap (type_in tree text S) (sym ea) ∙ m.meets

        pub unary-stop : (r : ConvertError) → t ≡ Err r → TypeMeets tree text s sc turn e (Err r) s₁
        unfolding type_result
        unary-stop r w = record {
          frame = m.frame;
          typed = IsTyped.no;
          adds = λ y v. absurd (refused-is r y v);
          meets =
              type-unary S e (expr-low tree text good e x) (kind_at 9 q)
              ∙ bind-refused (type_in tree text S (word_of tree e A)) r
              (unary_type (program tree text) (all_keys tree text) e (get_or unary_ops (detail_of tree e) Neg))
              (type-refused (type_in tree text S (word_of tree e A)) t r operand_type_lem w);
        }

        pub unary-next : (y : ℕ) → t ≡ Ok y → (b : OrRefused ℕ)
            → TypeIs tree b (unary_type (program tree text) (all_keys tree text) e (get_or unary_ops (detail_of tree e) Neg) y)
            → WorksOut tree text s sc turn e b 0 s₁
        unary-next y w b u = record {
          frame = m.frame;
          typed = u.type;
          beside = λ z v. beside_none S (λ n. omega (arith, q)) (λ n. omega (arith, q));
          adds = λ z v. parts_as (exprs (expr_at tree text a)) (unary_parts tree text good e x (kind_at 9 q) ∙ ap (λ (z : ℕ). exprs (expr_at tree text z)) (sym ea)) s₁ (m.adds y w);
          meets =
              type-unary S e (expr-low tree text good e x) (kind_at 9 q)
              ∙ bind_ok (type_in tree text S (word_of tree e A)) y
              (unary_type (program tree text) (all_keys tree text) e (get_or unary_ops (detail_of tree e) Neg))
              (type-ok (type_in tree text S (word_of tree e A)) t y operand_type_lem w)
              ∙ u.is;
        }

      -- an operator with two
      module _ (q : k ≡ 10) (a : ℕ) (ea : a ≡ word_of tree e A) (t : OrRefused ℕ) (s₁ : List ℕ) (m : TypeMeets tree text s sc turn a t s₁) where
        left_type : type_in tree text S (word_of tree e A) ≡ type_result t
        left_type = ap (type_in tree text S) (sym ea) ∙ m.meets

        abbrev rule : Def.Scope → ℕ → Result ℕ
        rule S l = type_in tree text S (word_of tree e B)
            >>= λ y. binary_type (program tree text) (all_keys tree text) e (get_or binary_ops (detail_of tree e) Or)
            (expr_at tree text (word_of tree e A)) l (expr_at tree text (word_of tree e B)) y

        pub left-stop : (r : ConvertError) → t ≡ Err r → TypeMeets tree text s sc turn e (Err r) s₁
        unfolding type_result
        left-stop r w = record {
          frame = m.frame;
          typed = IsTyped.no;
          adds = λ y v. absurd (refused-is r y v);
          meets =
              type-binary S e (expr-low tree text good e x) (kind_at 10 q)
              ∙ bind-refused (type_in tree text S (word_of tree e A)) r (rule S)
              (type-refused (type_in tree text S (word_of tree e A)) t r left_type w);
        }

        module _ (typing : Typing tree text s sc turn) (l : ℕ) (w : t ≡ Ok l)
            (b : ℕ) (eb : b ≡ word_of tree e B) (u : OrRefused ℕ) (s₂ : List ℕ) (m₂ : TypeMeets tree text s₁ sc turn b u s₂) where
          right_type : type_in tree text S (word_of tree e B) ≡ type_result u
          right_type = ap (type_in tree text S) (sym eb) ∙ later_type tree text s sc turn typing s₁ m.frame b u s₂ m₂

          both_parts : parts_exprs (expr_at tree text e) ≡ exprs (expr_at tree text a) ++ exprs (expr_at tree text b)
          both_parts = binary_parts tree text good e x (kind_at 10 q) ∙ rw (ea, eb)

          both-adds : (y : ℕ) → u ≡ Ok y → Typed tree text S turn s (parts_exprs (expr_at tree text e)) s₂
          both-adds y v = parts_as (exprs (expr_at tree text a) ++ exprs (expr_at tree text b)) both_parts s₂
              (typed-both tree text S turn s s₁ s₂ (exprs (expr_at tree text a)) (exprs (expr_at tree text b)) (m.adds l w)
              (later_adds tree text s sc turn typing s₁ m.frame b u s₂ m₂ y v))

          with_left : type_in tree text S e ≡ rule S l
          with_left =
              type-binary S e (expr-low tree text good e x) (kind_at 10 q)
              ∙ bind_ok (type_in tree text S (word_of tree e A)) l (rule S) (type-ok (type_in tree text S (word_of tree e A)) t l left_type w)

          pub right-stop : (r : ConvertError) → u ≡ Err r → TypeMeets tree text s sc turn e (Err r) s₂
          unfolding type_result
          right-stop r v = record {
            frame = frame_trans m.frame m₂.frame;
            typed = IsTyped.no;
            adds = λ y z. absurd (refused-is r y z);
            meets =
                with_left
                ∙ bind-refused (type_in tree text S (word_of tree e B)) r
                (binary_type (program tree text) (all_keys tree text) e (get_or binary_ops (detail_of tree e) Or)
                (expr_at tree text (word_of tree e A)) l (expr_at tree text (word_of tree e B)))
                (type-refused (type_in tree text S (word_of tree e B)) u r right_type v);
          }

          -- what both sides take, and that a Binary with a type has it
          shared-is : (y : ℕ) → u ≡ Ok y → (sides : Sides) → sides ≡ record { left = a; left_type = l; right = b; right_type = y }
              → common_in tree text S e ≡ ok (common_at tree text sides)
          unfolding common_type type_in
          shared-is y v sides es =
              rw (← ea, ← eb, es)
              (bind_ok (type_in tree text S a) l (λ l. type_in tree text S b >>= λ r. ok (common_of (program tree text) (all_keys tree text) (expr_at tree text a) l (expr_at tree text b) r))
              (type-ok (type_in tree text S a) t l m.meets w)
              ∙ bind_ok (type_in tree text S b) y (λ r. ok (common_of (program tree text) (all_keys tree text) (expr_at tree text a) l (expr_at tree text b) r))
              (type-ok (type_in tree text S b) u y (later_type tree text s sc turn typing s₁ m.frame b u s₂ m₂) v))

          beside-common : (y : ℕ) → u ≡ Ok y → (sides : Sides) → sides ≡ record { left = a; left_type = l; right = b; right_type = y } → (d : OrRefused ℕ)
              → TypeIs tree d (binary_type_at tree text e sides) → (f : StdOption ℕ) → FoundIs tree f (common_at tree text sides)
              → (i : ℕ) → d ≡ Ok i → (unwrap_or f 0 < 4294967296) × Beside tree text S e (unwrap_or f 0)
          unfolding found_number
          beside-common y v sides es d z (Some o) ef i j = (
            omega (arith, (found-is ef.type).below, good.few),
            record {
              callee = λ c. absurd (omega (arith, c, kind_at 10 q));
              common = λ c. record { is = shared-is y v sides es ∙ ap (λ (x : Option ℕ). ok x) (sym ef.is); type = found-is ef.type };
            },
          )
          beside-common y v sides es d z None ef i j = absurd (no-common tree text e sides i (sym ef.is) (type-ok (binary_type_at tree text e sides) d i z.is j))

          pub right_next_lem : (y : ℕ) → u ≡ Ok y → (sides : Sides) → sides ≡ record { left = a; left_type = l; right = b; right_type = y } → (d : OrRefused ℕ)
              → TypeIs tree d (binary_type_at tree text e sides) → (f : StdOption ℕ) → FoundIs tree f (common_at tree text sides) → (w : ℕ) → w ≡ unwrap_or f 0
              → WorksOut tree text s sc turn e d w s₂
          right_next_lem y v sides es d z f ef w ew = record {
            frame = frame_trans m.frame m₂.frame;
            typed = z.type;
            beside = λ i j. rw ew (beside-common y v sides es d z f ef i j);
            adds = λ i j. both-adds y v;
            meets =
                with_left
                ∙ bind_ok (type_in tree text S (word_of tree e B)) y
                (binary_type (program tree text) (all_keys tree text) e (get_or binary_ops (detail_of tree e) Or)
                (expr_at tree text (word_of tree e A)) l (expr_at tree text (word_of tree e B)))
                (type-ok (type_in tree text S (word_of tree e B)) u y right_type v)
                ∙ rw (← ea, ← eb) (subst (λ (w : Sides). TypeIs tree d (binary_type_at tree text e w)) es z).is;
          }

      -- a call
      pub call_value_lem : k ≡ 11 → (c : OrRefused Code.Callee) (s₁ : List ℕ) → CallMeets tree text s sc turn e c s₁ → (b : OrRefused ℕ)
          → TypeIs tree b (value_result tree text e c) → (w : ℕ) → w ≡ callee_record c → WorksOut tree text s sc turn e b w s₁
      unfolding value_result
      call_value_lem q c s₁ m b u w ew = record {
        frame = m.frame;
        typed = u.type;
        beside = λ y v. callee-ok (callee_of tree text c) (λ c. value_type e (return_type c)) y (type-ok (value_result tree text e c) b y u.is v)
            (λ d z. rw ew (
              callee_small tree c m.callee good.few,
              record {
                callee = λ i. callee-stands tree text S e c m.callee m.meets d z;
                common = λ i. absurd (omega (arith, i, kind_at 11 q));
              },
            ));
        adds = λ y v. callee-ok (callee_of tree text c) (λ c. value_type e (return_type c)) y (type-ok (value_result tree text e c) b y u.is v)
            (λ d z. parts_as (args_exprs (args_at tree text (word_of tree e C))) (call_parts tree text good e x (kind_at 11 q)) s₁ (m.adds d z));
        meets =
            type-call S e (expr-low tree text good e x) (kind_at 11 q) ∙ ap (λ (z : Result Callee). z >>= λ c. value_type e (return_type c)) m.meets ∙ u.is;
      }

      -- an expression without parts
      pub leaf_meets : Typing tree text s sc turn → (k ≡ 9 → ⊥) → (k ≡ 10 → ⊥) → (k ≡ 11 → ⊥) → (a : OrRefused ℕ)
          → TypeIs tree a (type_in tree text S e) → WorksOut tree text s sc turn e a 0 s
      leaf_meets typing n₉ n₁₀ n₁₁ a h = record {
        frame = frame_refl tree s;
        typed = h.type;
        beside = λ y v. beside_none S n₁₀ n₁₁;
        adds = λ y v. parts_as [] (leaf_parts tree text good e x (leaf_kind n₉ n₁₀ n₁₁)) s (typed-none tree text S turn s typing.remembers);
        meets = h.is;
      }

  -- ---- a type that the turn remembers, or that is worked out in it

  module _ (e : ℕ) (x : IsExpr tree e) (s : List ℕ) (sc : Scope) (turn : ℕ) (typing : Typing tree text s sc turn) where
    abbrev U : Def.Scope
    U = scope_at tree text s sc

    pub type-known : (b : Bool) → b ≡ in_turn tree turn s e → b ≡ true → (y : ℕ) → y ≡ slot_at tree s e → TypeMeets tree text s sc turn e (Ok y) s
    unfolding type_result
    type-known b eb q y ey =
        let right = hit_right tree text U turn s typing.remembers e (expr-low tree text good e x) (sym eb ∙ q) in record {
          frame = frame_refl tree s;
          typed = IsTyped.is (subst (λ (z : ℕ). TypeAt tree z) (sym ey) right.type);
          meets = right.is ∙ ap (λ (z : ℕ). ok z) (sym ey);
          adds = λ z v. hit_typed tree text U turn s typing.remembers e (expr-low tree text good e x) (sym eb ∙ q);
        }

    -- it is worked out where the turn has none, and kept
    module _ (new : in_turn tree turn s e ≡ false) (a : OrRefused ℕ) (b : ℕ) (s₁ : List ℕ) (m : WorksOut tree text s sc turn e a b s₁) where
      room : 72 * records tree ≤ length s₁
      room = omega (arith, m.frame.same_length, typing.ready.keyed.listed.room)

      pub keep_ready : Keepable tree e a b s₁
      keep_ready = record {
        fits = λ y q. (
          (expr-low tree text good e x, room, omega (arith, (is-typed tree a y m.typed q).below, good.few), (m.beside y q).0),
          visit_fits tree text U turn good s s₁ e x room new (m.adds y q),
        );
      }

      kept-type : turn < 4294967296 → (y : ℕ) → a ≡ Ok y → TypeMeets tree text s sc turn e (Ok y) (after_visit tree turn e y b s₁)
      unfolding type_result
      kept-type fit y q = record {
        frame = frame_trans m.frame (visited-frame tree s₁ turn e y b (expr-low tree text good e x) room);
        typed = IsTyped.is (is-typed tree a y m.typed q);
        meets = m.meets ∙ ap type_result q;
        adds = λ z v. visit_typed tree text U turn good s s₁ e x room new (m.adds y q) y b fit (type-ok (type_in tree text U e) a y m.meets q)
            (is-typed tree a y m.typed q) (m.beside y q);
      }

      kept-refusal : (r : ConvertError) → a ≡ Err r → TypeMeets tree text s sc turn e (Err r) s₁
      unfolding type_result
      kept-refusal r q = record {
        frame = m.frame;
        typed = IsTyped.no;
        meets = m.meets ∙ ap type_result q;
        adds = λ y v. absurd (refused-is r y v);
      }

      pub keep_meets : turn < 4294967296 → (d : OrRefused ℕ) (s₂ : List ℕ) → Keeps tree turn e a b s₁ d s₂ → TypeMeets tree text s sc turn e d s₂
      keep_meets fit d s₂ k = go a refl
        where
          go : (z : OrRefused ℕ) → a ≡ z → TypeMeets tree text s sc turn e d s₂
          go (Ok y) q = rw (k.same, q, k.type y q) (kept-type fit y q)
          go (Err r) q = rw (k.same, q, k.refused r q) (kept-refusal r q)

  -- ---- what a call runs

  -- it is kept where the turn remembers the call's type
  module _ (r : ℕ) (k : IsKind tree 11 r) (s : List ℕ) (sc : Scope) (turn : ℕ) (typing : Typing tree text s sc turn) (t : Bool) (et : t ≡ in_turn tree turn s r) (hit : t ≡ true)
      (b : ℕ) (eb : b ≡ beside_at tree s r) where
    abbrev R : Def.Scope
    R = scope_at tree text s sc

    call-expr : IsExpr tree r
    call-expr = is_expr_lem tree text good r k.below (ap is_expr k.kind)

    callable : Callable tree text R r b
    callable = subst (Callable tree text R r) (sym eb) ((hit_right tree text R turn s typing.remembers r k.below (sym et ∙ hit)).beside.callee k.kind)

    pub callee-ready : (FunctionAt tree b ⊎ TypeAt tree b) × (length tree ≡ records tree * 32)
    callee-ready = (callable.stands, good.whole)

    pub call_known : (a : Code.Callee) → ((text' : List ℕ) → CalleeIs tree text' (Ok a) (ok (callee_at tree text' b))) → CallMeets tree text s sc turn r (Ok a) s
    call_known a h = record {
      frame = frame_refl tree s;
      callee = (h text).callee;
      meets = callable.is ∙ (h text).is;
      adds = λ c v. rw (← call_parts tree text good r call-expr k.kind) (hit_parts tree text R turn s typing.remembers r k.below (sym et ∙ hit) good call-expr);
    }

  -- the sides by their words
  pub sides_meet : (e l r : ℕ) → l ≡ word_of tree e A → r ≡ word_of tree e B → (s : List ℕ) (sc : Scope) (turn : ℕ) (a : OrRefused (StdOption ℕ)) (s' : List ℕ)
      → CommonMeets tree text s sc turn l r a s' → SidesMeet tree text s sc turn e a s'
  sides_meet e l r el er s sc turn a s' m = rw (← el, ← er) m

  -- and so is the type that both sides of a Binary take
  pub common-known : (e : ℕ) → IsKind tree 10 e → (s : List ℕ) (sc : Scope) (turn : ℕ) → Typing tree text s sc turn → (t : Bool) → t ≡ in_turn tree turn s e → t ≡ true
      → (b : ℕ) → b ≡ beside_at tree s e → SidesMeet tree text s sc turn e (Ok (Some b)) s
  unfolding common_result
  common-known e k s sc turn typing t et hit b eb =
      let S = scope_at tree text s sc in
      let x : IsExpr tree e = is_expr_lem tree text good e k.below (ap is_expr k.kind) in
      let shared = (hit_right tree text S turn s typing.remembers e k.below (sym et ∙ hit)).beside.common k.kind in record {
        frame = frame_refl tree s;
        common = IsCommon.is (subst (λ (z : ℕ). TypeAt tree z) (sym eb) shared.type);
        meets = shared.is ∙ ap (λ (z : ℕ). ok (some z)) (sym eb);
        adds = λ o v. rw (← binary_parts tree text good e x k.kind) (hit_parts tree text S turn s typing.remembers e k.below (sym et ∙ hit) good x);
      }

  module _ (s : List ℕ) (sc : Scope) (turn r : ℕ) (a : OrRefused (Unit {0})) (s₁ : List ℕ) (m : ArgsMeet tree text s sc turn (word_of tree r C) a s₁) where
    abbrev T : Def.Scope
    T = scope_at tree text s sc

    pub call-stop : (x : ConvertError) → a ≡ Err x → CallMeets tree text s sc turn r (Err x) s₁
    unfolding callee_of done_with resolve_call refusal
    call-stop x q = record {
      frame = m.frame;
      callee = IsCallee.no;
      adds = λ c v. absurd (err-ok x.kind x.place c v);
      meets =
          bind-refused (get_argument_types (program tree text) (all_keys tree text) (args_at tree text (word_of tree r C)) T) x
          (resolve_typed (program tree text) (all_keys tree text) (text_of tree text r A) r)
          (m.meets ∙ ap (done_with (slotted tree s₁ (args_at tree text (word_of tree r C)))) q);
    }

    pub call_next : a ≡ Ok tt → (c : OrRefused Code.Callee)
        → CalleeIs tree text c (resolve_typed (program tree text) (all_keys tree text) (text_of tree text r A) r (typed_at tree text s₁ (word_of tree r C)))
        → CallMeets tree text s sc turn r c s₁
    unfolding done_with resolve_call typed_at
    call_next q c u = record {
      frame = m.frame;
      callee = u.callee;
      adds = λ d v. m.adds q;
      meets =
          bind_ok (get_argument_types (program tree text) (all_keys tree text) (args_at tree text (word_of tree r C)) T) (slotted tree s₁ (args_at tree text (word_of tree r C)))
          (resolve_typed (program tree text) (all_keys tree text) (text_of tree text r A) r)
          (m.meets ∙ ap (done_with (slotted tree s₁ (args_at tree text (word_of tree r C)))) q)
          ∙ u.is;
    }
