-- The operands of expressions without operands of their own, as the code meets them: of literals, names and sizes.
-- By what a record of each kind stands for; a leaf adds a string or a float, or nothing. Assumes nothing.
use Rattle.std.specs.Prelude as Std
use Rattle.std.specs.Prelude.{Ok, Some, None}
use mathlib.Core.Path.{◌≡◌, refl, sym, ap, ap₂, ◌∙◌, subst}
use mathlib.Core.Bool.{Bool, true, false}
use mathlib.Core.Logic.{◌⊎◌, inl, inr}
use mathlib.Core.List.{List}
use mathlib.Core.Option.{Option, none, some}
use Prim.Native.Nat.{ℕ, ◌+◌, ◌*◌, ◌/◌, ◌%◌, ◌^◌, ◌≤◌, ◌<◌}
use native.Mathlib.Omega.{arith}
use lib.Dec.{eqb, ltb}
use lib.ListN.{length}
use mir.Syntax.{w64}
use mir.Val.{to_z}
use mir.Facts.{to_z_pos}
use borrow.Author.Tests.{ltb-true}
use Rattle.laws.specs.Fix.{pick}
use Rattle.records.specs.declared.convert_error.ConvertError.{ConvertError}
use Rattle.records.specs.Words.{word_at, kind_of, detail_of, word_of, text_at, records, A, B}
use Rattle.records.specs.Good.{Good}
use Rattle.records.proofs.GoodLaws.{inside, float_detail, bool_detail, size_of_a}
use Rattle.syntax.specs.Decode.{bit, wide_of, text_of, program}
use Rattle.syntax.specs.Places.{IsExpr, IsKind, TypeAt}
use Rattle.syntax.proofs.Records.{expr_int, expr_float, expr-str, expr-bool, expr-name, expr_null, expr_size_of}
use Rattle.conversion.specs.ConvertError.{ConvertErrorKind, UnknownVariable, WouldPanic}
use Rattle.conversion.specs.Ir as Ir
use Rattle.conversion.specs.Ir.{OVar, OInt, OFloat, OBool, ODataAddress, M, ◌>>=◌, pure, fail}
use Rattle.conversion.specs.Scope.{find_variable}
use Rattle.conversion.specs.Statements.{name_operand, size_operand, convert_expr}
use Rattle.texts.specs.Texts.{has_text, original, text_number, original_at}
use Rattle.texts.proofs.TextLaws.{own-number, numbers_apart}
use Rattle.types.specs.declared.size.Bytes.{Bytes}
use Rattle.types.specs.Sizes.{exact_size, bytes_for, exact_bytes, size_at}
use Rattle.ir.specs.declared.structs.Counters.{Counters}
use Rattle.ir.specs.declared.structs.Operand.{Operand}
use Rattle.ir.specs.declared.floats.FloatBits.{FloatBits}
use Rattle.ir.specs.declared.structs.WithCounters.{WithCounters}
use Rattle.ir.specs.Arena.{NumberedTexts, TellsApart, Room}
use Rattle.ir.specs.Amounts.{Amount, amount}
use Rattle.ir.specs.Floats.{entry, entry_of_float}
use Rattle.ir.specs.Instructions.{operand_of}
use Rattle.ir.specs.Steps.{NumbersString, NumbersFloat}
use Rattle.ir.proofs.StepCases.{next_of, stop-of}
use Rattle.scope.specs.declared.Scope.{Scope}
use Rattle.scope.specs.declared.Known.{Known}
use Rattle.scope.specs.Open.{scope_at, FindMeets}
use Rattle.scope.proofs.ScopeLaws.{find_some, find_unknown}
use Rattle.expressions.specs.Answers.{IsTyped}
use Rattle.expressions.specs.Slots.{Asked, Ready}
use Rattle.expressions.proofs.LeafLaws as Typing
use Rattle.expressions.proofs.OriginalLaws.{kind-has, name-asked, kind-asked, slot-inside}
use Rattle.expressions.proofs.TypingLaws.{expr-low}
use Rattle.statements.specs.Lent.{Converter, Converted, Fitted}
use Rattle.statements.specs.Converting.{Converting, OperandIn, expr_amount}
use Rattle.statements.specs.Meets.{AddsIn, texts_of}
use Rattle.statements.specs.Answers.{Converts, LeafAdds, expr_steps}
use Rattle.statements.proofs.MeetLaws.{Most, adds_in, adds_in_then, adds-pure, meets-gave, meets-refused}
use Rattle.statements.proofs.StayLaws.{stays_refl, names_refl}
use Rattle.statements.proofs.StatedLaws.{fails_as}
use Rattle.statements.proofs.ConvertLaws.{converts-most}

-- ---- marks

-- a detail of 0 or 1 is its mark
pub mark_bit : {d t : ℕ} → d ≡ t → t < 2 → eqb d 1 ≡ bit 1 t
unfolding bit
mark_bit {d = d} {t = t} e h = let q : d ≡ t / 1 % 2 = omega arith in ap (λ (x : ℕ). eqb x 1) q

pub int_is : (tree : List ℕ) (e m b : ℕ) → m ≡ detail_of tree e → b ≡ word_of tree e 0 + word_of tree e 1 * 4294967296 → (text : List ℕ)
    → OInt (to_z w64 b) (eqb (m % 2) 1) (eqb (m / 2 % 2) 1)
    ≡ OInt (to_z w64 (wide_of tree text e 0)) (bit 1 (detail_of tree e)) (bit 2 (detail_of tree e))
unfolding bit wide_of
int_is tree e m b em eb text = let z : detail_of tree e / 1 ≡ detail_of tree e = omega arith in rw (em, eb, z)

-- ---- answers that add nothing

-- a step that is equal to one that is known
pub adds-of : {A : Type 0} {texts : NumberedTexts} {m m' : M A} {n : Amount} {k k' : Counters} {l l' : List ℕ} {a : A}
    → m' ≡ m → AddsIn texts m n k l a k' l' → AddsIn texts m' n k l a k' l'
adds-of e p = record { next = next_of e p.next; spent = p.spent }

module _ (tree text l s : List ℕ) (c : Converter) (m : M Ir.Operand) where
  -- an operand that is had without a step
  pub gives_operand : (o : Operand) → Room c.counters l → m ≡ pure (operand_of o) → OperandIn tree (operand_of o)
      → Converts tree text m (amount 0 0 0 0 0) c l s (Converted.Is o c.counters) l s
  gives_operand o room e h = record {
    meets = meets-gave (texts_of tree text) refl (adds-of e (adds_in (texts_of tree text) (adds-pure (operand_of o) c.counters l room)));
    operand = λ o' k q. let z : o ≡ o' = cc in subst (λ (x : Operand). OperandIn tree (operand_of x)) z h;
    stays = stays_refl _ _ _ s;
    names = names_refl _ s;
  }

  -- a refusal
  pub refuses_operand : (kind : ConvertErrorKind) (place : ℕ) (x : ConvertError) → x ≡ record { kind = kind; place = place } → m ≡ fail kind place
      → Converts tree text m (amount 0 0 0 0 0) c l s (Converted.Refused x) l s
  refuses_operand kind place x q e = record {
    meets = meets-refused (texts_of tree text) refl (stop-of e (fails_as (texts_of tree text) q));
    operand = λ o k z. let w : ◌≡◌ {A = ℕ} 0 1 = cc in absurd (omega arith);
    stays = stays_refl _ _ _ s;
    names = names_refl _ s;
  }

-- ---- a float and a string

module _ (tree text : List ℕ) (e : ℕ) (k : Counters) (l l' : List ℕ) (r : WithCounters ℕ) (long : length l' ≡ length l) where
  pub float_leaf : Good tree text → IsKind tree 3 e → (b d : ℕ) (f : FloatBits) → b ≡ word_of tree e 0 + word_of tree e 1 * 4294967296 → d ≡ detail_of tree e
      → entry_of_float f ≡ entry b (eqb d 1) → NumbersFloat (entry_of_float f) k l r l'
      → LeafAdds tree text e (amount 0 0 0 0 1) k l (record { operand = Operand.Float r.value; counters = r.counters }) l'
  unfolding convert_expr wide_of OperandIn
  float_leaf good is b d f eb ed ef p =
      let mark : eqb d 1 ≡ bit 1 (detail_of tree e) = mark_bit ed (float_detail tree text good e is.below is.kind) in
      let is-entry : entry (wide_of tree text e A) (bit 1 (detail_of tree e)) ≡ entry_of_float f = sym (ef ∙ ap₂ (λ (x : ℕ) (y : Bool). entry x y) eb mark) in
      record {
        adds = λ S. adds-of
            (rw (expr_float tree text e is.kind) (ap (λ (x : Ir.FloatEntry). Ir.float_id x >>= (λ i. pure (OFloat i))) is-entry))
            (adds_in_then (texts_of tree text) (λ i. pure (OFloat i)) (adds_in (texts_of tree text) (record { next = p.next; spent = p.spent; long = long }))
            (adds_in (texts_of tree text) (adds-pure (OFloat r.value) r.counters l' p.next.room)));
        operand = tt;
        long = long;
      }

  pub string_leaf : IsKind tree 4 e → (a n : ℕ) → a ≡ word_of tree e A → n ≡ word_of tree e B → (o : ℕ) → k.records ≡ records tree → o ≡ original tree text e
      → NumbersString o a n k l r l'
      → LeafAdds tree text e (amount 0 0 0 1 0) k l (record { operand = Operand.DataAddress r.value; counters = r.counters }) l'
  unfolding convert_expr text_of OperandIn texts_of has_text
  string_leaf is a n ea en o ek eo p =
      let own : text_number tree text (text_at text a n) ≡ o =
      ap₂ (λ (y z : ℕ). text_number tree text (text_at text y z)) ea en ∙ own-number tree text e is.below (kind-has tree 4 e refl is.kind) ∙ sym eo in
      let next = p.next (texts_of tree text) (subst (λ (m : ℕ). TellsApart (text_number tree text) m) (sym ek) (numbers_apart tree text)) own in
      record {
        adds = λ S. adds-of
            (rw (expr-str tree text e is.kind, ea, en))
            (adds_in_then (texts_of tree text) (λ i. pure (ODataAddress i)) (record { next = next; spent = p.spent })
            (adds_in (texts_of tree text) (adds-pure (ODataAddress r.value) r.counters l' next.room)));
        operand = tt;
        long = long;
      }

-- the number of its text, as it stands in scratch
pub string_ready : {tree text l s : List ℕ} {c : Converter} {e : ℕ} → Converting tree text l s c → IsKind tree 4 e → Asked tree text s c.scope e
unfolding has_text
string_ready x is = kind-asked 4 refl x.ready is

module _ {tree text l s : List ℕ} {c : Converter} {e : ℕ} (x : Converting tree text l s c) (is : IsKind tree 4 e) {o : ℕ} (eo : o ≡ word_at s (original_at c.scope.records e)) where
  pub string_number : o ≡ original tree text e
  string_number =
      let q = string_ready x is in
      eo ∙ ap (λ (n : ℕ). word_at s (original_at n e)) q.scoped.records_are ∙ q.numbered.number e q.below q.has_its_text

  pub string_below : o < c.counters.records
  string_below = let q = string_ready x is in omega (arith, slot-inside q eo, q.scoped.records_are, x.records_are)

-- such a leaf as the answer
pub leaf_answers : (tree text s : List ℕ) (c : Converter) (e : ℕ) (l l' : List ℕ) (n n' : Amount) (f : Fitted) (a : Converted)
    → LeafAdds tree text e n c.counters l f l' → a ≡ Converted.Is f.operand f.counters → Most n n'
    → Converts tree text (expr_steps tree text s c e) n' c l s a l' s
leaf_answers tree text s c e l l' n n' f a p q h =
    subst (λ (x : Converted). Converts tree text (expr_steps tree text s c e) n' c l s x l' s) (sym q) (converts-most h (record {
      meets = meets-gave (texts_of tree text) p.long (p.adds (scope_at tree text s c.scope));
      operand = λ o k z. let w : f.operand ≡ o = cc in subst (λ (x : Operand). OperandIn tree (operand_of x)) w p.operand;
      stays = stays_refl _ _ _ s;
      names = names_refl _ s;
    }))

-- ---- names

pub name-ready : {tree text s : List ℕ} {sc : Scope} {e : ℕ} → Ready tree text s sc → IsKind tree 6 e → Asked tree text s sc e
name-ready x is = name-asked (x.keyed.good, x.keyed.numbered) x.scoped is

module _ (tree text l s : List ℕ) (c : Converter) (e : ℕ) (x : Converting tree text l s c) (is : IsKind tree 6 e)
    (r : Std.Option Known) (m : FindMeets text s c.scope (text_of tree text e A) r) where
  name-steps : expr_steps tree text s c e ≡ name_operand e (find_variable (text_of tree text e A) (scope_at tree text s c.scope))
  unfolding convert_expr
  name-steps = rw (expr-name tree text e is.kind)

  met : (k : Std.Option Known) → r ≡ k → FindMeets text s c.scope (text_of tree text e A) k
  met k q = subst (λ (z : Std.Option Known). FindMeets text s c.scope (text_of tree text e A) z) q m

  typed : {y : ℕ} → IsTyped tree (Ok y) → TypeAt tree y
  typed (IsTyped.is t) = t

  unknown : ConvertError
  unknown = record { kind = UnknownVariable; place = e }

  pub name-gives : (v : Known) → r ≡ Some v
      → Converts tree text (expr_steps tree text s c e) (amount 0 0 0 0 0) c l s (Converted.Is (Operand.Var v.var) c.counters) l s
  unfolding name_operand OperandIn
  name-gives v q =
      let f = find_some tree text s c.scope (text_of tree text e A) v (met (Some v) q) in
      gives_operand tree text l s c (expr_steps tree text s c e) (Operand.Var v.var) x.room
      (name-steps ∙ rw f.found (ap (λ (z : Ir.VarId). pure (OVar z)) f.var))
      (typed (Typing.name-known tree text s c.scope e x.ready.scoped is r m unknown v (ap (λ (z : Std.Option Known). Std.ok_or z unknown) q)).type)

  pub name_refuses : r ≡ None → (z : ConvertError) → z ≡ record { kind = UnknownVariable; place = e }
      → Converts tree text (expr_steps tree text s c e) (amount 0 0 0 0 0) c l s (Converted.Refused z) l s
  unfolding name_operand
  name_refuses q z w =
      refuses_operand tree text l s c (expr_steps tree text s c e) UnknownVariable e z w
      (name-steps ∙ rw (find_unknown tree text s c.scope (text_of tree text e A) (met None q)))

-- ---- sizes

exact-small : (n : ℕ) (o : Option ℕ) → Bytes.Exactly n ≡ bytes_for o → n < 2 ^ 63
unfolding bytes_for pick
exact-small n none q = let w : ◌≡◌ {A = ℕ} 0 1 = cc in absurd (omega arith)
exact-small n (some k) q = go (ltb k (2 ^ 63)) refl q
  where
    go : (t : Bool) → ltb k (2 ^ 63) ≡ t → Bytes.Exactly n ≡ pick t (Bytes.Exactly k) Bytes.Over → n < 2 ^ 63
    go true h z = let w : n ≡ k = cc in omega (arith, ltb-true k (2 ^ 63) h)
    go false h z = let w : ◌≡◌ {A = ℕ} 0 1 = cc in absurd (omega arith)

pub no_bytes : (b : Bytes) → (b ≡ Bytes.Over) ⊎ (b ≡ Bytes.Nothing) → exact_bytes b ≡ none
unfolding exact_bytes
no_bytes b (inl q) = rw q
no_bytes b (inr q) = rw q

pub size-inside : {tree text : List ℕ} {e y : ℕ} → Good tree text → IsKind tree 8 e → y ≡ word_of tree e A → y * 32 + 32 ≤ length tree
size-inside {tree = tree} {text = text} {e = e} {y = y} good is ey =
    let h = size_of_a tree text good e is.below is.kind in
    inside tree text good y (omega (arith, ey, h.0, is.below))

module _ (tree text l s : List ℕ) (c : Converter) (e : ℕ) (x : Converting tree text l s c) (is : IsKind tree 8 e) (y : ℕ) (ey : y ≡ word_of tree e A) where
  module _ (b : Bytes) (exact : (u : List ℕ) → b ≡ bytes_for (exact_size tree u y)) (sized : (u : List ℕ) → exact_bytes b ≡ size_at tree u y) where
    size-steps : expr_steps tree text s c e ≡ size_operand e (exact_bytes b)
    unfolding convert_expr program size_at
    size-steps = rw (expr_size_of tree text e is.kind) (ap (size_operand e) (sym (sized text ∙ ap (size_at tree text) ey)))

    pub size-gives : (n : ℕ) → b ≡ Bytes.Exactly n
        → Converts tree text (expr_steps tree text s c e) (amount 0 0 0 0 0) c l s (Converted.Is (Operand.Int n false false) c.counters) l s
    unfolding size_operand exact_bytes OperandIn
    size-gives n q =
        let small : n < 2 ^ 63 = exact-small n (exact_size tree text y) (sym q ∙ exact text) in
        gives_operand tree text l s c (expr_steps tree text s c e) (Operand.Int n false false) x.room
        (size-steps ∙ rw q (ap (λ z. pure (OInt z false false)) (sym (to_z_pos w64 small)))) tt

    pub size_refuses : exact_bytes b ≡ none → (z : ConvertError) → z ≡ record { kind = WouldPanic; place = e }
        → Converts tree text (expr_steps tree text s c e) (amount 0 0 0 0 0) c l s (Converted.Refused z) l s
    unfolding size_operand
    size_refuses q z w = refuses_operand tree text l s c (expr_steps tree text s c e) WouldPanic e z w (size-steps ∙ rw q)

-- ---- any leaf

module _ (tree text l s : List ℕ) (c : Converter) (e : ℕ) (x : Converting tree text l s c) (is : IsExpr tree e) (k : ℕ) (ek : k ≡ kind_of tree e) where
  pub leaf_int : k ≡ 2 → (o : Operand)
      → ((u : List ℕ) → operand_of o ≡ OInt (to_z w64 (wide_of tree u e 0)) (bit 1 (detail_of tree e)) (bit 2 (detail_of tree e)))
      → Converts tree text (expr_steps tree text s c e) (expr_amount 0) c l s (Converted.Is o c.counters) l s
  unfolding convert_expr OperandIn
  leaf_int q o h =
      converts-most (omega arith) (gives_operand tree text l s c (expr_steps tree text s c e) o x.room
      (rw (expr_int tree text e (sym ek ∙ q)) (ap (λ (z : Ir.Operand). pure z) (sym (h text)))) (rw (h text) tt))

  pub leaf_bool : k ≡ 5 → (d : ℕ) → d ≡ detail_of tree e
      → Converts tree text (expr_steps tree text s c e) (expr_amount 0) c l s (Converted.Is (Operand.Bool (eqb d 1)) c.counters) l s
  unfolding convert_expr OperandIn
  leaf_bool q d ed =
      let good = x.ready.keyed.good in
      let mark : eqb d 1 ≡ bit 1 (detail_of tree e) = mark_bit ed (bool_detail tree text good e (expr-low tree text good e is) (sym ek ∙ q)) in
      converts-most (omega arith) (gives_operand tree text l s c (expr_steps tree text s c e) (Operand.Bool (eqb d 1)) x.room
      (rw (expr-bool tree text e (sym ek ∙ q)) (ap (λ (z : Bool). pure (OBool z)) (sym mark))) tt)

  pub leaf_null : k ≡ 7 → Converts tree text (expr_steps tree text s c e) (expr_amount 0) c l s (Converted.Is Operand.Null c.counters) l s
  unfolding convert_expr OperandIn
  leaf_null q =
      converts-most (omega arith) (gives_operand tree text l s c (expr_steps tree text s c e) Operand.Null x.room (rw (expr_null tree text e (sym ek ∙ q))) tt)
