-- Types of literals, of names and of calls' values, as the code meets them.
-- By the cases of nodes, the twelve first types, the open names one by one, and a function's word D. Assumes nothing.
use Rattle.std.specs.Prelude.{Option as StdOption, Some, None, Ok, Err, ok_or}
use Rattle.expressions.specs.declared.answers.Callee as Code
use Rattle.expressions.specs.Answers.{OrRefused}
use mathlib.Core.Path.{◌≡◌, refl, sym, ap, ◌∙◌, subst}
use mathlib.Core.Logic.{◌⊎◌, inl, inr}
use mathlib.Core.Bool.{Bool, true, false}
use mathlib.Core.List.{List}
use mathlib.Core.Option.{Option, none as nothing, some}
use Prim.Native.Nat.{ℕ, zero, suc, ◌+◌, ◌*◌, ◌/◌, ◌≤◌, ◌<◌}
use native.Mathlib.Omega.{arith}
use lib.Dec.{leb}
use lib.ListN.{length}
use borrow.Author.Tests.{leb-true, eq-eqb, ne_eqb}
use Rattle.laws.specs.Fix.{pick}
use Rattle.laws.proofs.Tests.{and_left}
use Rattle.records.specs.declared.convert_error.ConvertError.{ConvertError}
use Rattle.records.specs.Words.{kind_of, detail_of, word_of, word_at, none, A, D}
use Rattle.records.specs.Good.{Good}
use Rattle.records.proofs.GoodLaws.{inside, int_detail, float_detail}
use Rattle.syntax.specs.Syntax.{int_type, float_type}
use Rattle.syntax.specs.Decode.{bit, reference, text_of}
use Rattle.syntax.proofs.Records.{expr_int, expr_float, expr-str, expr-bool, expr-name, expr_null, expr_size_of, function-return, return-is}
use Rattle.conversion.specs.ConvertError.{ok, err, ◌>>=◌, UnknownVariable, NoValue}
use Rattle.conversion.specs.Ir.{same_text}
use Rattle.conversion.specs.Scope as Def
use Rattle.conversion.specs.Scope.{Variable, find_in, find_variable}
use Rattle.conversion.specs.Expressions.{get_type, name_type, value_type, return_type}
use Rattle.scope.specs.declared.Scope.{Scope}
use Rattle.scope.specs.declared.Known.{Known}
use Rattle.scope.specs.Open.{open_variable, variables_at, variables_of, scope_at, IsFound, FindMeets}
use Rattle.syntax.specs.Places.{IsExpr, IsKind, TypeAt, FunctionAt, function_of}
use Rattle.expressions.specs.Slots.{type_in, Scoped}
use Rattle.expressions.specs.Answers.{refusal, type_result, callee_of, value_result, IsTyped, IsCallee, TypeIs}
use Rattle.expressions.proofs.TypingLaws.{expr-low}
use Rattle.expressions.proofs.OperandLaws.{refused-at, first-type}

-- an Int's and a Float's marks
int_mark : (d : ℕ) → d < 4 → int_type (bit 1 d) (bit 2 d) ≡ d
unfolding bit
int_mark zero h = refl
int_mark (suc zero) h = refl
int_mark (suc (suc zero)) h = refl
int_mark (suc (suc (suc zero))) h = refl
int_mark (suc (suc (suc (suc d)))) h = absurd (omega arith)

float_mark : (d : ℕ) → d < 2 → float_type (bit 1 d) ≡ 4 + d
unfolding bit
float_mark zero h = refl
float_mark (suc zero) h = refl
float_mark (suc (suc d)) h = absurd (omega arith)

-- ---- literals: record e, whose kind is k

module _ (tree text : List ℕ) (good : Good tree text) (e : ℕ) (x : IsExpr tree e) (k : ℕ) (ek : k ≡ kind_of tree e) where
  no_type-here : kind_of tree e ≡ 1 → ⊥
  no_type-here q = omega (arith, leb-true 2 (kind_of tree e) (and_left (leb 2 (kind_of tree e)) (leb (kind_of tree e) 11) x.expression))

  first : (y : ℕ) → y < 12 → TypeAt tree y
  first y h = first-type tree text good e (expr-low tree text good e x) no_type-here y h

  pub literal_int : k ≡ 2 → (d : ℕ) → d ≡ detail_of tree e → TypeAt tree d × ((S : Def.Scope) → type_in tree text S e ≡ ok d)
  unfolding type_in get_type
  literal_int q d ed =
      let h = int_detail tree text good e (expr-low tree text good e x) (sym ek ∙ q) in (
        first d (omega (arith, h)),
        λ S. rw (expr_int tree text e (sym ek ∙ q)) (ap (λ (z : ℕ). ok z) (int_mark (detail_of tree e) h ∙ sym ed)),
      )

  pub literal_float : k ≡ 3 → (d : ℕ) → d ≡ detail_of tree e → TypeAt tree (4 + d) × ((S : Def.Scope) → type_in tree text S e ≡ ok (4 + d))
  unfolding type_in get_type
  literal_float q d ed =
      let h = float_detail tree text good e (expr-low tree text good e x) (sym ek ∙ q) in (
        first (4 + d) (omega (arith, h)),
        λ S. rw (expr_float tree text e (sym ek ∙ q)) (ap (λ (z : ℕ). ok z) (float_mark (detail_of tree e) h ∙ ap (λ (z : ℕ). 4 + z) (sym ed))),
      )

  pub literal-str : k ≡ 4 → TypeAt tree 10 × ((S : Def.Scope) → type_in tree text S e ≡ ok 10)
  unfolding type_in get_type
  literal-str q = (first 10 (omega arith), λ S. rw (expr-str tree text e (sym ek ∙ q)))

  pub literal-bool : k ≡ 5 → TypeAt tree 6 × ((S : Def.Scope) → type_in tree text S e ≡ ok 6)
  unfolding type_in get_type
  literal-bool q = (first 6 (omega arith), λ S. rw (expr-bool tree text e (sym ek ∙ q)))

  pub literal_null : k ≡ 7 → TypeAt tree 9 × ((S : Def.Scope) → type_in tree text S e ≡ ok 9)
  unfolding type_in get_type
  literal_null q = (first 9 (omega arith), λ S. rw (expr_null tree text e (sym ek ∙ q)))

  pub literal-size : (kind_of tree e ≤ 8) × (kind_of tree e ≡ 6 → ⊥) → (k ≡ 2 → ⊥) → (k ≡ 3 → ⊥) → (k ≡ 4 → ⊥) → (k ≡ 5 → ⊥) → (k ≡ 7 → ⊥)
      → TypeAt tree 2 × ((S : Def.Scope) → type_in tree text S e ≡ ok 2)
  unfolding type_in get_type
  literal-size l n₂ n₃ n₄ n₅ n₇ =
      let least = leb-true 2 (kind_of tree e) (and_left (leb 2 (kind_of tree e)) (leb (kind_of tree e) 11) x.expression) in
      let eight : kind_of tree e ≡ 8 = omega (arith, l.0, l.1) in
      (first 2 (omega arith), λ S. rw (expr_size_of tree text e eight))

pub literal_leaf : (tree text s : List ℕ) (sc : Scope) (e y : ℕ) → TypeAt tree y × ((S : Def.Scope) → type_in tree text S e ≡ ok y)
    → TypeIs tree (Ok y) (type_in tree text (scope_at tree text s sc) e)
unfolding type_result
literal_leaf tree text s sc e y h = record { is = h.1 (scope_at tree text s sc); type = IsTyped.is h.0 }

-- ---- names

module _ (k : Known) where
  found_name : (e : ℕ) (o : Option Variable) → IsFound (Some k) o → name_type e o ≡ ok k.var.1
  unfolding IsFound name_type
  found_name e (some x) h = ap (λ (z : ℕ). ok z) (sym (ap (λ z. z.ty) h.0))
  found_name e nothing h = absurd h

  found-typed : (tree text s : List ℕ) (n : ℕ) (u : List ℕ) (m : ℕ) → ((j : ℕ) → j < m → TypeAt tree (word_at s (8 * n + 16 * j + 12) / 2))
      → IsFound (Some k) (find_in u (variables_at text s n m)) → TypeAt tree k.var.1
  unfolding IsFound find_in variables_at
  found-typed tree text s n u zero t h = absurd h
  found-typed tree text s n u (suc m) t h =
      go (found-typed tree text s n u m (λ j k. t j (omega arith))) (same_text u (open_variable text s (8 * n + 16 * m)).name) h
    where
      go : (IsFound (Some k) (find_in u (variables_at text s n m)) → TypeAt tree k.var.1)
          → (c : Bool) → IsFound (Some k) (elim c [ true ↦ some (open_variable text s (8 * n + 16 * m)) | false ↦ find_in u (variables_at text s n m) ]) → TypeAt tree k.var.1
      go rest true f = subst (λ (z : ℕ). TypeAt tree z) (sym (ap (λ z. z.ty) f.0)) (t m (omega arith))
      go rest false f = rest f

missing_name : (e : ℕ) (o : Option Variable) → IsFound None o → name_type e o ≡ err UnknownVariable e
unfolding IsFound name_type
missing_name e (some x) h = absurd h
missing_name e nothing h = refl

-- what was found, from what the code goes on with
found_ok : (r : StdOption Known) (x : ConvertError) (v : Known) → ok_or r x ≡ Ok v → r ≡ Some v
found_ok (Some y) x v q = let z : y ≡ v = cc in ap Some z
found_ok None x v q = absurd (let z : ◌≡◌ {A = ℕ} 0 1 = cc in omega arith)

found_err : (r : StdOption Known) (x z : ConvertError) → ok_or r x ≡ Err z → (r ≡ None) × (x ≡ z)
found_err (Some y) x z q = absurd (let z : ◌≡◌ {A = ℕ} 0 1 = cc in omega arith)
found_err None x z q = (refl, cc)

module _ (tree text s : List ℕ) (sc : Scope) (e : ℕ) (scoped : Scoped tree s sc) (k : IsKind tree 6 e)
    (r : StdOption Known) (m : FindMeets text s sc (text_of tree text e A) r) where
  type-name : type_in tree text (scope_at tree text s sc) e ≡ name_type e (find_in (text_of tree text e A) (variables_of text s sc))
  unfolding type_in get_type find_variable scope_at
  type-name = rw (expr-name tree text e k.kind)

  pub name-known : (x : ConvertError) (v : Known) → ok_or r x ≡ Ok v
      → TypeIs tree (Ok v.var.1) (type_in tree text (scope_at tree text s sc) e)
  unfolding type_result
  name-known x v q =
      let hit : IsFound (Some v) (find_in (text_of tree text e A) (variables_of text s sc)) =
      subst (λ (z : StdOption Known). IsFound z (find_in (text_of tree text e A) (variables_of text s sc))) (found_ok r x v q) m in record {
        is = type-name ∙ found_name v e (find_in (text_of tree text e A) (variables_of text s sc)) hit;
        type = IsTyped.is (found-typed v tree text s sc.records (text_of tree text e A) sc.names
            (λ j h. subst (λ (z : ℕ). TypeAt tree (word_at s (8 * z + 16 * j + 12) / 2)) (sym scoped.records_are) (scoped.types j h)) hit);
      }

  pub name_unknown : (z : ConvertError) → ok_or r (record { kind = UnknownVariable; place = e }) ≡ Err z
      → TypeIs tree (Err z) (type_in tree text (scope_at tree text s sc) e)
  name_unknown z q = let missed = found_err r (record { kind = UnknownVariable; place = e }) z q in
      refused-at tree (type_in tree text (scope_at tree text s sc) e) UnknownVariable e (Err z)
      (type-name ∙ missing_name e (find_in (text_of tree text e A) (variables_of text s sc))
      (subst (λ (y : StdOption Known). IsFound y (find_in (text_of tree text e A) (variables_of text s sc))) missed.0 m)) (ap Err (sym missed.1))

-- ---- what a call gives back

module _ (tree text : List ℕ) (good : Good tree text) (e : ℕ) (c : OrRefused Code.Callee) (is : IsCallee tree c) where
  pub value-refused : (x : ConvertError) → c ≡ Err x → TypeIs tree (Err x) (value_result tree text e c)
  unfolding value_result callee_of type_result refusal ◌>>=◌
  value-refused x q = record { is = rw q; type = IsTyped.no }

  pub value-cast : (y : ℕ) → c ≡ Ok (Code.Callee.Cast y) → TypeIs tree (Ok y) (value_result tree text e c)
  unfolding value_result callee_of type_result ◌>>=◌ value_type return_type
  value-cast y q = record { is = rw q; type = IsTyped.is (go (subst (λ (z : OrRefused Code.Callee). IsCallee tree z) q is)) }
    where
      go : IsCallee tree (Ok (Code.Callee.Cast y)) → TypeAt tree y
      go (IsCallee.a_cast t) = t

  module _ (f : ℕ) (q : c ≡ Ok (Code.Callee.Function f)) where
    pub callee-function : FunctionAt tree f
    callee-function = go (subst (λ (z : OrRefused Code.Callee). IsCallee tree z) q is)
      where
        go : IsCallee tree (Ok (Code.Callee.Function f)) → FunctionAt tree f
        go (IsCallee.a_function t) = t

    pub function-inside : f * 32 + 32 ≤ length tree
    function-inside = inside tree text good f callee-function.below

    returns-type : (function_of tree text f).return_type ≡ reference (word_of tree f D)
    returns-type = function-return tree text good f callee-function

    module _ (y : ℕ) (ey : y ≡ word_of tree f D) where
      pub value_none : y ≡ none → (a : OrRefused ℕ) → a ≡ Err (record { kind = NoValue; place = e }) → TypeIs tree a (value_result tree text e c)
      unfolding value_result callee_of ◌>>=◌ value_type return_type reference pick
      value_none n a w =
          refused-at tree (value_result tree text e c) NoValue e a (rw (q, returns-type, eq-eqb (word_of tree f D) none (sym ey ∙ n))) w

      pub value_some : (y ≡ none → ⊥) → TypeIs tree (Ok y) (value_result tree text e c)
      unfolding value_result callee_of ◌>>=◌ value_type return_type reference pick type_result
      value_some n = record {
        is = rw (q, returns-type, ne_eqb (word_of tree f D) none (λ z. n (ey ∙ z))) (ap (λ (z : ℕ). ok z) (sym ey));
        type = IsTyped.is (subst (λ (z : ℕ). TypeAt tree z) (sym ey) (go (return-is tree text good f callee-function)));
      }
        where
          go : (word_of tree f D ≡ none) ⊎ TypeAt tree (word_of tree f D) → TypeAt tree (word_of tree f D)
          go (inl z) = absurd (n (ey ∙ z))
          go (inr t) = t
