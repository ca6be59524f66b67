-- The common type of two expressions, as the code meets it: a refusal of either is passed on, and the rule takes their two types.
-- By the two steps of typing, in the scope that the open names stand for. Assumes nothing.
use Rattle.expressions.specs.Answers.{TypeFound}
use Rattle.std.specs.Prelude.{Option as StdOption, Some, None, Ok, Err}
use Rattle.expressions.specs.Answers.{OrRefused}
use mathlib.Core.Path.{◌≡◌, refl, sym, ap, ◌∙◌, subst}
use mathlib.Core.List.{List, ◌++◌}
use mathlib.Core.Option.{Option}
use Prim.Native.Nat.{ℕ}
use Rattle.records.specs.declared.convert_error.ConvertError.{ConvertError}
use Rattle.syntax.specs.Decode.{program}
use Rattle.syntax.specs.Exprs.{exprs}
use Rattle.conversion.specs.ConvertError.{ok, ◌>>=◌}
use Rattle.conversion.specs.Scope as Def
use Rattle.conversion.specs.Expressions.{common_of, common_type}
use Rattle.scope.specs.declared.Scope.{Scope}
use Rattle.scope.specs.Open.{scope_at}
use Rattle.syntax.specs.Places.{expr_at}
use Rattle.keys.specs.Keys.{all_keys}
use Rattle.expressions.specs.Slots.{type_in, Typed, Typing}
use Rattle.expressions.specs.declared.operands.Sides.{Sides}
use Rattle.expressions.specs.Answers as Answers
use Rattle.expressions.specs.Answers.{refusal, type_result, found_number, FoundIs, common_at, IsCommon, TypeMeets, CommonMeets}
use Rattle.expressions.proofs.SlotLaws.{frame_trans}
use Rattle.expressions.proofs.TurnLaws.{typed-both, later_type, later_adds}
use Rattle.expressions.proofs.TypingLaws.{err-ok, bind_ok, bind-refused, type-ok, type-refused}

-- what both sides take, as it is answered
common_found : (f : StdOption ℕ) → Answers.common_result (Ok f) ≡ ok (found_number f)
unfolding Answers.common_result found_number
common_found (Some y) = refl
common_found None = refl

found_common : (tree : List ℕ) (f : StdOption ℕ) → TypeFound tree f → IsCommon tree (Ok f)
found_common tree (Some y) (TypeFound.a_type h) = IsCommon.is h
found_common tree None TypeFound.no_type = IsCommon.neither

module _ (tree text s : List ℕ) (sc : Scope) (turn a b : ℕ) (t : OrRefused ℕ) (s₁ : List ℕ) (m : TypeMeets tree text s sc turn a t s₁) where
  abbrev S : Def.Scope
  S = scope_at tree text s sc

  abbrev rule : ℕ → ℕ → Option ℕ
  rule l r = common_of (program tree text) (all_keys tree text) (expr_at tree text a) l (expr_at tree text b) r

  common-is : common_type (program tree text) (all_keys tree text) (expr_at tree text a) (expr_at tree text b) S
      ≡ (type_in tree text S a >>= λ l. type_in tree text S b >>= λ r. ok (rule l r))
  unfolding common_type type_in
  common-is = refl

  pub left-refused : (x : ConvertError) → t ≡ Err x → CommonMeets tree text s sc turn a b (Err x) s₁
  unfolding Answers.common_result refusal
  left-refused x q = record {
    frame = m.frame;
    common = IsCommon.no;
    adds = λ o v. absurd (err-ok x.kind x.place o v);
    meets =
        common-is ∙ bind-refused (type_in tree text S a) x (λ l. type_in tree text S b >>= λ r. ok (rule l r))
        (type-refused (type_in tree text S a) t x m.meets q);
  }

  module _ (typing : Typing tree text s sc turn) (l : ℕ) (q : t ≡ Ok l) (u : OrRefused ℕ) (s₂ : List ℕ) (m₂ : TypeMeets tree text s₁ sc turn b u s₂) where
    right : type_in tree text S b ≡ type_result u
    right = later_type tree text s sc turn typing s₁ m.frame b u s₂ m₂

    both-adds : (r : ℕ) → u ≡ Ok r → Typed tree text S turn s (exprs (expr_at tree text a) ++ exprs (expr_at tree text b)) s₂
    both-adds r w = typed-both tree text S turn s s₁ s₂ (exprs (expr_at tree text a)) (exprs (expr_at tree text b)) (m.adds l q)
        (later_adds tree text s sc turn typing s₁ m.frame b u s₂ m₂ r w)

    with_left : common_type (program tree text) (all_keys tree text) (expr_at tree text a) (expr_at tree text b) S ≡ (type_in tree text S b >>= λ r. ok (rule l r))
    with_left = common-is ∙ bind_ok (type_in tree text S a) l (λ l. type_in tree text S b >>= λ r. ok (rule l r))
        (type-ok (type_in tree text S a) t l m.meets q)

    pub right-refused : (x : ConvertError) → u ≡ Err x → CommonMeets tree text s sc turn a b (Err x) s₂
    unfolding Answers.common_result refusal
    right-refused x w = record {
      frame = frame_trans m.frame m₂.frame;
      common = IsCommon.no;
      adds = λ o v. absurd (err-ok x.kind x.place o v);
      meets =
          with_left ∙ bind-refused (type_in tree text S b) x (λ r. ok (rule l r))
          (type-refused (type_in tree text S b) u x right w);
    }

    module _ (r : ℕ) (w : u ≡ Ok r) (sides : Sides) (es : sides ≡ record { left = a; left_type = l; right = b; right_type = r })
        (f : StdOption ℕ) (ef : FoundIs tree f (common_at tree text sides)) where
      found-is : found_number f ≡ rule l r
      found-is = (subst (λ (z : Sides). FoundIs tree f (common_at tree text z)) es ef).is

      with_both : common_type (program tree text) (all_keys tree text) (expr_at tree text a) (expr_at tree text b) S ≡ ok (found_number f)
      with_both = with_left ∙ bind_ok (type_in tree text S b) r (λ r. ok (rule l r))
          (type-ok (type_in tree text S b) u r right w)
          ∙ ap (λ (z : Option ℕ). ok z) (sym found-is)

      pub takes : CommonMeets tree text s sc turn a b (Ok f) s₂
      takes = record {
        frame = frame_trans m.frame m₂.frame;
        common = found_common tree f ef.type;
        adds = λ o v. both-adds r w;
        meets = with_both ∙ sym (common_found f);
      }
