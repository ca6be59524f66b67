-- What stands around the blocks of an If, a While and a For, as the code meets it: labels and jumps in a row, a condition or bound first.
-- By the laws of steps in a row; the amounts are arithmetic over the records below the condition or bound. Assumes nothing.
use mathlib.Core.Path.{◌≡◌, refl, sym, ap, ◌∙◌, subst}
use mathlib.Core.Bool.{Bool, true, false}
use mathlib.Core.List.{List}
use Prim.Native.Nat.{ℕ, ◌+◌, ◌*◌, ◌≤◌, ◌<◌}
use native.Mathlib.Omega.{arith}
use lib.Dec.{lit<}
use lib.IntN.{ℤ, pos}
use lib.ListN.{length}
use mir.Syntax.{w64}
use mir.Val.{to_z}
use mir.Facts.{to_z_pos}
use Rattle.laws.specs.Fix.{pick}
use Rattle.laws.proofs.Tests.{tested}
use Rattle.records.specs.declared.convert_error.ConvertError.{ConvertError}
use Rattle.records.specs.Words.{detail_of, word_of, records, A, B, C}
use Rattle.records.specs.Good.{Good}
use Rattle.records.proofs.GoodLaws.{ToExpr, if_detail, if-a, while_a, for_b, for_c}
use Rattle.syntax.specs.Syntax.{Program, Add, Lt, bool_type}
use Rattle.syntax.specs.Count.{under, expr_records, statement_records}
use Rattle.syntax.specs.Decode.{program, bit}
use Rattle.syntax.specs.Places.{IsExpr, IsKind, expr_at, statement_at}
use Rattle.syntax.proofs.Records.{statement_if, statement_if_else, statement_while}
use Rattle.conversion.specs.Ir as Ir
use Rattle.conversion.specs.Ir.{OVar, OInt, Binary, loop_start, loop_end, loop_check, otherwise_label, condition_end, M, ◌>>=◌, ◌>>◌, emit}
use Rattle.conversion.specs.Statements.{fit_operand}
use Rattle.types.proofs.FromGood.{is_expr_lem}
use Rattle.ir.specs.declared.structs.Counters.{Counters}
use Rattle.ir.specs.declared.structs.VarId.{VarId}
use Rattle.ir.specs.declared.structs.Operand.{Operand}
use Rattle.ir.specs.declared.structs.WithCounters.{WithCounters}
use Rattle.ir.specs.Amounts.{Amount, amount, both}
use Rattle.ir.specs.Instructions.{operand_of, var_of}
use Rattle.ir.specs.Steps.{Emits, AddsVar, named}
use Rattle.ir.proofs.StepLaws.{next_in}
use Rattle.statements.specs.Lent.{Converter, Converted, Finished, Fitted}
use Rattle.statements.specs.Converting.{Converting, with_counters, RoomFor, OperandIn, expr_amount, head_amount, turns_amount, ExprAfforded, BehindAfforded, BoundAfforded}
use Rattle.statements.specs.Meets.{Adds, texts_of}
use Rattle.statements.specs.Parts.{emit_jump, jump_if_not, place_label, copy_fitted, count_on, test_bound, if_head, while_head, for_begin, for_test, if_middle, loop_back}
use Rattle.statements.specs.Answers.{FitAdds, Converts, Finishes, expr_steps, cond_steps, if_head_steps, while_head_steps, for_begin_steps, for_test_steps}
use Rattle.statements.specs.Turns.{TypesAt, TypedIn, ConvertsTyped}
use Rattle.statements.proofs.MeetLaws.{Most, adds_in, adds_then, adds_seq, adds-most, adds_same, meets-gave}
use Rattle.statements.proofs.StayLaws.{stays_refl, record_counted, converting_next}
use Rattle.statements.proofs.EmitLaws.{emit-adds, var_adds}
use Rattle.statements.proofs.ConvertLaws.{converted-next}
use Rattle.statements.proofs.StatedLaws.{finishes_most, operand_then, operand-not, seq_then}

-- ---- where an If goes unless its condition holds

not_label : (b : Bool) (r : ℕ) → named (pick b 4 5) r ≡ pick b (otherwise_label r) (condition_end r)
unfolding pick
not_label true r = refl
not_label false r = refl

-- ---- labels and jumps in a row

module _ (r : ℕ) {k k₁ k₂ : Counters} {l l₁ l₂ : List ℕ} where
  pub middle_adds : Adds (emit_jump (named 5 r)) (amount 1 0 1 0 0) k l tt k₁ l₁ → Adds (place_label (named 4 r)) (amount 1 0 1 0 0) k₁ l₁ tt k₂ l₂
      → Adds (if_middle r) (amount 2 0 2 0 0) k l tt k₂ l₂
  unfolding if_middle
  middle_adds a b = adds_seq (place_label (otherwise_label r)) a b

  pub back_adds : Adds (emit_jump (named 1 r)) (amount 1 0 1 0 0) k l tt k₁ l₁ → Adds (place_label (named 2 r)) (amount 1 0 1 0 0) k₁ l₁ tt k₂ l₂
      → Adds (loop_back r) (amount 2 0 2 0 0) k l tt k₂ l₂
  unfolding loop_back
  back_adds a b = adds_seq (place_label (loop_end r)) a b

-- the variable's Add of the 1 of its type
one_more : (x : VarId) {short unsigned s u : Bool} {k k' : Counters} {l l' : List ℕ} → short ≡ s → unsigned ≡ u
    → length l' ≡ length l → Emits (Binary (var_of x) Add (OVar (var_of x)) (OInt (to_z w64 1) short unsigned)) k l k' l'
    → Adds (emit (Binary (var_of x) Add (OVar (var_of x)) (OInt (pos 1) s u))) (amount 1 0 0 0 0) k l tt k' l'
one_more x {short = short} {unsigned = unsigned} {s = s} {u = u} es eu h p =
    adds_same (ap (λ (z : ℤ). emit (Binary (var_of x) Add (OVar (var_of x)) (OInt z short unsigned))) (to_z_pos w64 {n = 1} (lit< tt))
    ∙ ap (λ (z : Bool). emit (Binary (var_of x) Add (OVar (var_of x)) (OInt (pos 1) z unsigned))) es
    ∙ ap (λ (z : Bool). emit (Binary (var_of x) Add (OVar (var_of x)) (OInt (pos 1) s z))) eu) (emit-adds h p)

pub count-adds : (r : ℕ) {x : VarId} {short unsigned s u : Bool} {k k₁ k₂ k₃ k₄ : Counters} {l l₁ l₂ l₃ l₄ : List ℕ} → short ≡ s → unsigned ≡ u
    → Adds (emit_jump (named 3 r)) (amount 1 0 1 0 0) k l tt k₁ l₁ → Adds (place_label (named 1 r)) (amount 1 0 1 0 0) k₁ l₁ tt k₂ l₂
    → length l₃ ≡ length l₂ → Emits (Binary (var_of x) Add (OVar (var_of x)) (OInt (to_z w64 1) short unsigned)) k₂ l₂ k₃ l₃
    → Adds (place_label (named 3 r)) (amount 1 0 1 0 0) k₃ l₃ tt k₄ l₄
    → Adds (count_on r (var_of x) s u) (amount 4 0 3 0 0) k l tt k₄ l₄
unfolding count_on
count-adds r {x = x} {s = s} {u = u} es eu a b h p d =
    adds-most (adds_seq (place_label (loop_start r) >> (emit (Binary (var_of x) Add (OVar (var_of x)) (OInt (pos 1) s u)) >> place_label (loop_check r))) a
    (adds_seq (emit (Binary (var_of x) Add (OVar (var_of x)) (OInt (pos 1) s u)) >> place_label (loop_check r)) b
    (adds_seq (place_label (loop_check r)) (one_more x es eu h p) d))) (omega arith)

-- the second bound fitted, whether the variable is below it, and the jump
pub test-adds : {tree : List ℕ} (P : Program) (r : ℕ) {x : VarId} (b : Operand) {a : Fitted} {v : WithCounters VarId} {k k₃ k₄ : Counters} {l l₁ l₂ l₃ l₄ : List ℕ}
    → FitAdds tree (fit_operand P (operand_of b) x.1) (amount 1 1 0 0 1) k l a l₁
    → length l₂ ≡ length l₁ → AddsVar 6 a.counters l₁ v l₂
    → length l₃ ≡ length l₂ → Emits (Binary (var_of v.value) Lt (OVar (var_of x)) (operand_of a.operand)) v.counters l₂ k₃ l₃
    → Adds (jump_if_not (OVar (var_of v.value)) (named 2 r)) (amount 1 0 1 0 0) k₃ l₃ tt k₄ l₄
    → Adds (test_bound P r (var_of x) (operand_of b)) (amount 3 2 1 0 1) k l tt k₄ l₄
unfolding test_bound
test-adds P r {x = x} b {a = a} {v = v} u h p h' i j =
    adds-most (adds_then (λ (b1 : Ir.Operand). Ir.new_var bool_type >>= (λ (cond : Ir.VarId).
    emit (Binary cond Lt (OVar (var_of x)) b1) >> jump_if_not (OVar cond) (loop_end r))) u.adds
    (adds_then (λ (cond : Ir.VarId). emit (Binary cond Lt (OVar (var_of x)) (operand_of a.operand)) >> jump_if_not (OVar cond) (loop_end r)) (var_adds h p)
    (adds_seq (jump_if_not (OVar (var_of v.value)) (loop_end r)) (emit-adds h' i) j))) (omega arith)

-- ---- the condition of an If or a While, and a bound of a For

pub record_inside : {tree text l s : List ℕ} {c : Converter} {n r : ℕ} → Converting tree text l s c → IsKind tree n r → r * 32 + 32 ≤ length tree
record_inside p x = omega (arith, x.below, p.ready.keyed.good.whole)

pub if_mark : {tree text l s : List ℕ} {c : Converter} {r : ℕ} → Converting tree text l s c → IsKind tree 19 r → detail_of tree r ≤ 1
if_mark {tree = tree} {text = text} {r = r} p x = omega (arith, if_detail tree text p.ready.keyed.good r x.below x.kind)

-- an expression, of fewer records than the statement
pub record Condition (tree text : List ℕ) (r : ℕ) : Type 0 where
  pub expression : IsExpr tree (word_of tree r A)
  pub fewer : 2 + under (expr_at tree text (word_of tree r A)) ≤ statement_records (statement_at tree text r)

module _ (tree text : List ℕ) (good : Good tree text) (r : ℕ) where
  word-expr : (w : ℕ) → r < records tree → ToExpr tree r w → IsExpr tree w
  word-expr w h t = is_expr_lem tree text good w (omega (arith, h, t.0)) t.1

  if-records : IsKind tree 19 r → 2 + under (expr_at tree text (word_of tree r A)) ≤ statement_records (statement_at tree text r)
  unfolding statement_records expr_records
  if-records x = tested (bit 1 (detail_of tree r))
      (λ b. omega (arith, ap statement_records (statement_if_else tree text good r x.below x.kind b)))
      (λ b. omega (arith, ap statement_records (statement_if tree text good r x.below x.kind b)))

  while_records : IsKind tree 20 r → 2 + under (expr_at tree text (word_of tree r A)) ≤ statement_records (statement_at tree text r)
  unfolding statement_records expr_records
  while_records x = omega (arith, ap statement_records (statement_while tree text good r x.below x.kind))

module _ {tree text l s : List ℕ} {c : Converter} (p : Converting tree text l s c) where
  abbrev good : Good tree text
  good = p.ready.keyed.good

  pub if_condition : {r : ℕ} → IsKind tree 19 r → Condition tree text r
  if_condition {r} x = record {
    expression = word-expr tree text good r (word_of tree r A) x.below (if-a tree text good r x.below x.kind);
    fewer = if-records tree text good r x;
  }

  pub while_condition : {r : ℕ} → IsKind tree 20 r → Condition tree text r
  while_condition {r} x = record {
    expression = word-expr tree text good r (word_of tree r A) x.below (while_a tree text good r x.below x.kind);
    fewer = while_records tree text good r x;
  }

module _ {tree text : List ℕ} (good : Good tree text) {r e : ℕ} (x : IsKind tree 21 r) where
  pub first_bound : e ≡ word_of tree r B → IsExpr tree e
  first_bound q = subst (λ (z : ℕ). IsExpr tree z) (sym q) (word-expr tree text good r (word_of tree r B) x.below (for_b tree text good r x.below x.kind))

  pub second_bound : e ≡ word_of tree r C → IsExpr tree e
  second_bound q = subst (λ (z : ℕ). IsExpr tree z) (sym q) (word-expr tree text good r (word_of tree r C) x.below (for_c tree text good r x.below x.kind))

-- ---- an operand first, and then what is always done with it

module _ {tree text l l₁ s s₁ : List ℕ} {m : M Ir.Operand} {n₁ : Amount} {c : Converter} {a : Converted} (i : Converts tree text m n₁ c l s a l₁ s₁)
    {X : Type 0} {x : X} {n : Amount} (f : Ir.Operand → M X) where
  pub operand_refuses : {z : ConvertError} → a ≡ Converted.Refused z → Finishes tree text (m >>= f) x n c l s (Finished.Refused z) l₁ s₁
  operand_refuses w = record { meets = operand-not i f w; stays = i.stays }

  pub operand_finishes : {n₂ : Amount} {o : Operand} {k k₂ : Counters} {l₂ : List ℕ} → a ≡ Converted.Is o k → Adds (f (operand_of o)) n₂ k l₁ x k₂ l₂
      → Most (both n₁ n₂) n → Finishes tree text (m >>= f) x n c l s (Finished.Done k₂) l₂ s₁
  operand_finishes w g h = finishes_most h (record { meets = operand_then i f w (meets-gave (texts_of tree text) g.long (adds_in (texts_of tree text) g)); stays = i.stays })

-- a step that writes, and then the rest
pub finishes_after : {X Y : Type 0} {tree text l l₁ l₂ s s' : List ℕ} {m : M Y} {y : Y} {x : X} {n₁ n₂ : Amount} {c : Converter} {k : Counters} {a : Finished} (f : M X)
    → Adds m n₁ c.counters l y k l₁ → Finishes tree text f x n₂ (with_counters c k) l₁ s a l₂ s' → Finishes tree text (m >> f) x (both n₁ n₂) c l s a l₂ s'
finishes_after {tree = tree} {text = text} f g q = record { meets = seq_then (texts_of tree text) f g.long (adds_in (texts_of tree text) g) q.meets; stays = q.stays }

-- the condition or bound, by its word
same-under : (tree text : List ℕ) {e w : ℕ} → e ≡ w → under (expr_at tree text e) ≡ under (expr_at tree text w)
same-under tree text q = ap (λ (z : ℕ). under (expr_at tree text z)) q

cond_at : {tree text l l₁ s s₁ : List ℕ} {c : Converter} {a : Converted} {e w : ℕ} → e ≡ w
    → Converts tree text (cond_steps tree text s c e) (expr_amount (under (expr_at tree text e))) c l s a l₁ s₁
    → Converts tree text (cond_steps tree text s c w) (expr_amount (under (expr_at tree text w))) c l s a l₁ s₁
cond_at {tree = tree} {text = text} {l = l} {l₁ = l₁} {s = s} {s₁ = s₁} {c = c} {a = a} q i =
    subst (λ (z : ℕ). Converts tree text (cond_steps tree text s c z) (expr_amount (under (expr_at tree text z))) c l s a l₁ s₁) q i

expr_at_lem : {tree text l l₁ s s₁ : List ℕ} {c : Converter} {a : Converted} {e w : ℕ} → e ≡ w
    → Converts tree text (expr_steps tree text s c e) (expr_amount (under (expr_at tree text e))) c l s a l₁ s₁
    → Converts tree text (expr_steps tree text s c w) (expr_amount (under (expr_at tree text w))) c l s a l₁ s₁
expr_at_lem {tree = tree} {text = text} {l = l} {l₁ = l₁} {s = s} {s₁ = s₁} {c = c} {a = a} q i =
    subst (λ (z : ℕ). Converts tree text (expr_steps tree text s c z) (expr_amount (under (expr_at tree text z))) c l s a l₁ s₁) q i

-- ---- the head of an If

module _ {tree text l s : List ℕ} {c : Converter} (r : ℕ) {e : ℕ} (p : Converting tree text l s c) (f : BehindAfforded tree text c r) (q : e ≡ word_of tree r A) where
  pub if_cond_requires : IsKind tree 19 r → (Converting tree text l s c × ExprAfforded tree text c e) × IsExpr tree e
  if_cond_requires x =
      let d : Condition tree text r = if_condition p x in
      ((p, omega (arith, f, d.fewer, same-under tree text q)), subst (λ (z : ℕ). IsExpr tree z) (sym q) d.expression)

  module _ {a : Converted} {l₁ s₁ : List ℕ} (i : Converts tree text (cond_steps tree text s c e) (expr_amount (under (expr_at tree text e))) c l s a l₁ s₁) where
    pub if_jump_requires : IsKind tree 19 r → {o : Operand} {k : Counters} → a ≡ Converted.Is o k → RoomFor k l₁ (amount 1 0 1 0 0) × (r < k.records)
    if_jump_requires x w =
        let d : Condition tree text r = if_condition p x in (
          record { room = (converted-next i w).next.room; affords = omega (arith, f.tables, d.fewer, same-under tree text q, (converted-next i w).spent) },
          record_counted p x (converted-next i w).spent.records,
        )

module _ {tree text l s l₁ s₁ : List ℕ} {c : Converter} (r : ℕ) {e : ℕ} {a : Converted} (q : e ≡ word_of tree r A)
    (i : Converts tree text (cond_steps tree text s c e) (expr_amount (under (expr_at tree text e))) c l s a l₁ s₁) where
  pub if-refused : {z : ConvertError} → a ≡ Converted.Refused z
      → Finishes tree text (if_head_steps tree text s c r) tt (head_amount (under (expr_at tree text (word_of tree r A)))) c l s (Finished.Refused z) l₁ s₁
  unfolding if_head
  if-refused w = operand_refuses (cond_at q i) (λ (cond : Ir.Operand). jump_if_not cond (pick (bit 1 (detail_of tree r)) (otherwise_label r) (condition_end r))) w

  pub if-done : {label : ℕ} {o : Operand} {k k₂ : Counters} {l₂ : List ℕ} → label ≡ pick (bit 1 (detail_of tree r)) 4 5 → a ≡ Converted.Is o k
      → Adds (jump_if_not (operand_of o) (named label r)) (amount 1 0 1 0 0) k l₁ tt k₂ l₂
      → Finishes tree text (if_head_steps tree text s c r) tt (head_amount (under (expr_at tree text (word_of tree r A)))) c l s (Finished.Done k₂) l₂ s₁
  unfolding if_head
  if-done {o = o} el w g =
      operand_finishes (cond_at q i) (λ (cond : Ir.Operand). jump_if_not cond (pick (bit 1 (detail_of tree r)) (otherwise_label r) (condition_end r))) w
      (adds_same (ap (jump_if_not (operand_of o)) (ap (λ (z : ℕ). named z r) el ∙ not_label (bit 1 (detail_of tree r)) r)) g) (omega arith)

-- ---- the head of a While, whose start is placed

module _ {tree text l l₀ s : List ℕ} {c : Converter} (r : ℕ) {e : ℕ} {k₀ : Counters} (p : Converting tree text l s c) (f : BehindAfforded tree text c r) (q : e ≡ word_of tree r A)
    (g₀ : Adds (place_label (named 1 r)) (amount 1 0 1 0 0) c.counters l tt k₀ l₀) where
  pub while_cond_requires : IsKind tree 20 r
      → (Converting tree text l₀ s (with_counters c k₀) × ExprAfforded tree text (with_counters c k₀) e) × IsExpr tree e
  while_cond_requires x =
      let d : Condition tree text r = while_condition p x in (
        (
          converting_next p (next_in (texts_of tree text) g₀.next) (stays_refl tree c.scope.names c.operands s),
          omega (arith, f, d.fewer, same-under tree text q, g₀.spent),
        ),
        subst (λ (z : ℕ). IsExpr tree z) (sym q) d.expression,
      )

  module _ {a : Converted} {l₁ s₁ : List ℕ}
      (i : Converts tree text (cond_steps tree text s (with_counters c k₀) e) (expr_amount (under (expr_at tree text e))) (with_counters c k₀) l₀ s a l₁ s₁) where
    pub while_jump_requires : IsKind tree 20 r → {o : Operand} {k : Counters} → a ≡ Converted.Is o k → RoomFor k l₁ (amount 1 0 1 0 0) × (r < k.records)
    while_jump_requires x {k = k} w =
        let d : Condition tree text r = while_condition p x in
        let counted : r < k.records = record_counted p x ((converted-next i w).spent.records ∙ g₀.spent.records) in (
          record { room = (converted-next i w).next.room; affords = omega (arith, f.tables, d.fewer, same-under tree text q, g₀.spent, (converted-next i w).spent) },
          omega arith,
        )

module _ {tree text l l₀ s l₁ s₁ : List ℕ} {c : Converter} (r : ℕ) {e : ℕ} {k₀ : Counters} {a : Converted} (q : e ≡ word_of tree r A)
    (g₀ : Adds (place_label (named 1 r)) (amount 1 0 1 0 0) c.counters l tt k₀ l₀)
    (i : Converts tree text (cond_steps tree text s (with_counters c k₀) e) (expr_amount (under (expr_at tree text e))) (with_counters c k₀) l₀ s a l₁ s₁) where
  pub while_refused : {z : ConvertError} → a ≡ Converted.Refused z
      → Finishes tree text (while_head_steps tree text s c r) tt (head_amount (under (expr_at tree text (word_of tree r A)))) c l s (Finished.Refused z) l₁ s₁
  unfolding while_head
  while_refused w =
      finishes_most (omega arith) (finishes_after (cond_steps tree text s c (word_of tree r A) >>= (λ (cond : Ir.Operand). jump_if_not cond (loop_end r))) g₀
      (operand_refuses (cond_at q i) {n = both (expr_amount (under (expr_at tree text (word_of tree r A)))) (amount 1 0 1 0 0)} (λ (cond : Ir.Operand). jump_if_not cond (loop_end r)) w))

  pub while_done : {o : Operand} {k k₂ : Counters} {l₂ : List ℕ} → a ≡ Converted.Is o k → Adds (jump_if_not (operand_of o) (named 2 r)) (amount 1 0 1 0 0) k l₁ tt k₂ l₂
      → Finishes tree text (while_head_steps tree text s c r) tt (head_amount (under (expr_at tree text (word_of tree r A)))) c l s (Finished.Done k₂) l₂ s₁
  unfolding while_head
  while_done w g =
      finishes_most (omega arith) (finishes_after (cond_steps tree text s c (word_of tree r A) >>= (λ (cond : Ir.Operand). jump_if_not cond (loop_end r))) g₀
      (operand_finishes (cond_at q i) {n = both (expr_amount (under (expr_at tree text (word_of tree r A)))) (amount 1 0 1 0 0)} (λ (cond : Ir.Operand). jump_if_not cond (loop_end r)) w g
      (omega arith)))

-- ---- the bounds of a For: the first into its variable, the second in its test

module _ {tree text l s : List ℕ} {c : Converter} (r n : ℕ) {e : ℕ} (p : Converting tree text l s c) (f : BoundAfforded tree text c r n) (q : e ≡ word_of tree r n) where
  pub bound_afforded : ExprAfforded tree text c e
  bound_afforded = omega (arith, f, same-under tree text q)

  module _ {a : Converted} {l₁ s₁ : List ℕ} (i : Converts tree text (expr_steps tree text s c e) (expr_amount (under (expr_at tree text e))) c l s a l₁ s₁)
      {o : Operand} {k : Counters} (w : a ≡ Converted.Is o k) where
    -- what the bound itself leaves of the part's amount
    pub bound_room : {n₂ : Amount} → Most (both (expr_amount (under (expr_at tree text e))) n₂) (turns_amount (under (expr_at tree text e))) → RoomFor k l₁ n₂
    bound_room h = record { room = (converted-next i w).next.room; affords = omega (arith, f.tables, same-under tree text q, (converted-next i w).spent, h) }

    pub count_room : {m : M (Unit {0})} {k₁ : Counters} {l₂ : List ℕ} → Adds m (amount 2 1 0 0 1) k l₁ tt k₁ l₂ → RoomFor k₁ l₂ (amount 4 0 3 0 0)
    count_room g = record { room = g.next.room; affords = omega (arith, f.tables, same-under tree text q, (converted-next i w).spent, g.spent) }

    pub bound_operand : OperandIn tree (operand_of o)
    bound_operand = i.operand o k w

-- a For up to its check, behind its first bound
abbrev begins : List ℕ → List ℕ → ℕ → VarId → Ir.Operand → M (Unit {0})
begins tree text r x o = copy_fitted (program tree text) (var_of x) o >> count_on r (var_of x) (bit 16 (detail_of tree x.1)) (bit 32 (detail_of tree x.1))

module _ {tree text l s l₁ s₁ : List ℕ} {c : Converter} (r : ℕ) {e : ℕ} {a : Converted} (x : VarId) where
  module _ (q : e ≡ word_of tree r B) (i : Converts tree text (expr_steps tree text s c e) (expr_amount (under (expr_at tree text e))) c l s a l₁ s₁) where
    pub begin_refused : {z : ConvertError} → a ≡ Converted.Refused z
        → Finishes tree text (for_begin_steps tree text s c x r) tt (turns_amount (under (expr_at tree text (word_of tree r B)))) c l s (Finished.Refused z) l₁ s₁
    unfolding for_begin
    begin_refused w = operand_refuses (expr_at_lem q i) (λ (o : Ir.Operand). begins tree text r x o) w

    pub begin_done : {o : Operand} {k k₁ k₂ : Counters} {l₂ l₃ : List ℕ} → a ≡ Converted.Is o k
        → Adds (copy_fitted (program tree text) (var_of x) (operand_of o)) (amount 2 1 0 0 1) k l₁ tt k₁ l₂
        → Adds (count_on r (var_of x) (bit 16 (detail_of tree x.1)) (bit 32 (detail_of tree x.1))) (amount 4 0 3 0 0) k₁ l₂ tt k₂ l₃
        → Finishes tree text (for_begin_steps tree text s c x r) tt (turns_amount (under (expr_at tree text (word_of tree r B)))) c l s (Finished.Done k₂) l₃ s₁
    unfolding for_begin
    begin_done w g h =
        operand_finishes (expr_at_lem q i) (λ (o : Ir.Operand). begins tree text r x o) w (adds_seq (count_on r (var_of x) (bit 16 (detail_of tree x.1)) (bit 32 (detail_of tree x.1))) g h) (omega arith)

  module _ (q : e ≡ word_of tree r C) (i : Converts tree text (expr_steps tree text s c e) (expr_amount (under (expr_at tree text e))) c l s a l₁ s₁) where
    pub test-refused : {z : ConvertError} → a ≡ Converted.Refused z
        → Finishes tree text (for_test_steps tree text s c x r) tt (turns_amount (under (expr_at tree text (word_of tree r C)))) c l s (Finished.Refused z) l₁ s₁
    unfolding for_test
    test-refused w = operand_refuses (expr_at_lem q i) (λ (o : Ir.Operand). test_bound (program tree text) r (var_of x) o) w

    pub test-done : {o : Operand} {k k₂ : Counters} {l₂ : List ℕ} → a ≡ Converted.Is o k
        → Adds (test_bound (program tree text) r (var_of x) (operand_of o)) (amount 3 2 1 0 1) k l₁ tt k₂ l₂
        → Finishes tree text (for_test_steps tree text s c x r) tt (turns_amount (under (expr_at tree text (word_of tree r C)))) c l s (Finished.Done k₂) l₂ s₁
    unfolding for_test
    test-done w g = operand_finishes (expr_at_lem q i) (λ (o : Ir.Operand). test_bound (program tree text) r (var_of x) o) w g (omega arith)

-- ---- what the heads type

-- a refusal owes nothing
pub refused-finished : {X : Type 0} {z : ConvertError} (k : Counters) → Finished.Refused z ≡ Finished.Done k → X
refused-finished k q = let y : ◌≡◌ {A = ℕ} 0 1 = cc in absurd (omega arith)

-- an operand, by its word, and then what types nothing
pub operand-typed : (types : TypesAt) (c : Converter) {tree text s s₁ : List ℕ} {e w : ℕ} {a : Converted} {o : Operand} {k : Counters} {z : Finished} → e ≡ w
    → ConvertsTyped types c e tree text s a s₁ → a ≡ Converted.Is o k → (k' : Counters) → z ≡ Finished.Done k' → TypedIn tree text c s (types tree text w) s₁
operand-typed types c {tree} {text} {s} {s₁} {o = o} {k = k} q t w k' d = subst (λ (x : ℕ). TypedIn tree text c s (types tree text x) s₁) q (t o k w)
