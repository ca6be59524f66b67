-- The head of a For as the code meets it: its variable, the check of its bounds, its turns; and what its words refer to.
-- By the laws of steps in a row and what the search for a name finds; the scope stays as long as its names do. Assumes nothing.
use Rattle.std.specs.Prelude as Std
use Rattle.std.specs.Prelude.{Ok, Err, Some, None}
use mathlib.Core.Path.{◌≡◌, refl, sym, ap, ◌∙◌, subst, fun_ext}
use mathlib.Core.Logic.{◌⊎◌, inl, inr}
use mathlib.Core.Bool.{Bool, true, false}
use mathlib.Core.List.{List, ◌++◌}
use mathlib.Core.Option.{none as nothing, some}
use Prim.Native.Nat.{ℕ, ◌+◌, ◌*◌, ◌%◌, ◌≤◌, ◌<◌}
use native.Mathlib.Omega.{arith}
use lib.Dec.{eqb}
use lib.ListN.{length}
use borrow.Author.Tests.{eq-eqb, ne_eqb}
use Rattle.laws.specs.Fix.{pick}
use Rattle.records.specs.declared.convert_error.ConvertError.{ConvertError}
use Rattle.records.specs.Words.{detail_of, word_of, records, none, A, B, C}
use Rattle.records.specs.Good.{Good}
use Rattle.records.proofs.GoodLaws.{ToKind, inside, for_a, variable-c}
use Rattle.syntax.specs.Syntax.{place}
use Rattle.syntax.specs.Decode.{program, text_of, type_at, bit, reference}
use Rattle.syntax.specs.Places.{IsExpr, IsKind, TypeAt, expr_at, statement_at}
use Rattle.syntax.specs.Count.{expr_records, statement_records}
use Rattle.syntax.proofs.Records.{statement_for}
use Rattle.conversion.specs.ConvertError.{ConvertErrorKind, Result, ok, err, NotInteger, UnknownVariable, AssignToConstant, AlreadyDeclared}
use Rattle.conversion.specs.Ir as Ir
use Rattle.conversion.specs.Ir.{M, bind, ◌>>=◌, ◌>>◌, pure, fail, lift}
use Rattle.conversion.specs.Scope as Def
use Rattle.conversion.specs.Scope.{find_variable}
use Rattle.conversion.specs.Expressions.{Functions}
use Rattle.conversion.specs.Statements.{check_fits, check_bound}
use Rattle.conversion.proofs.MonadLaws.{seq_is, pure-first}
use Rattle.types.specs.Fits.{IsType}
use Rattle.types.proofs.FromGood.{is-type}
use Rattle.ir.specs.declared.structs.Counters.{Counters}
use Rattle.ir.specs.declared.structs.WithCounters.{WithCounters}
use Rattle.ir.specs.declared.structs.VarId.{VarId}
use Rattle.ir.specs.Amounts.{Amount, amount, both}
use Rattle.ir.specs.Instructions.{var_of}
use Rattle.ir.specs.Steps.{StopsIn, AddsVar}
use Rattle.laws.proofs.FixLaws.{pick_yes, pick_no}
use Rattle.ir.proofs.StepCases.{on_int_lem, no_int, stop-of}
use Rattle.ir.proofs.StepLaws.{lift-stops, stop-first, stop_seq}
use Rattle.scope.specs.declared.Scope.{Scope}
use Rattle.scope.specs.declared.Known.{Known}
use Rattle.scope.specs.Open.{scope_at, NameAfforded, DeclareMeets, FindMeets}
use Rattle.scope.proofs.ScopeLaws.{Finds, find_some, find_unknown}
use Rattle.keys.specs.Keys.{all_keys}
use Rattle.texts.specs.Texts.{has_text}
use Rattle.expressions.specs.Slots.{original_of, original_word, Asked, Ready, Scoped, type_in}
use Rattle.expressions.proofs.OriginalLaws.{kind-asked}
use Rattle.expressions.specs.Answers.{OrRefused, refusal, outcome_of, TypeMeets}
use Rattle.expressions.proofs.SlotLaws.{scope-frame, frame_trans}
use Rattle.expressions.proofs.TypingLaws.{type-ok, type-refused, is-typed, expr-low, place_is}
use Rattle.statements.specs.Lent.{Converter, Stated, Finished, ForVariable}
use Rattle.statements.specs.Meets.{StepAnswer, gave, AddsIn, Meets, texts_of}
use Rattle.statements.specs.Parts.{known_variable, for_variable, for_bounds, for_begin, for_test, for_turns, for_head}
use Rattle.statements.specs.Converting.{Converting, with_counters, Afforded, BehindAfforded, for_head_amount, Stays, StaysFor, NamesStay}
use Rattle.statements.specs.Answers.{variable_of, Leaves, States, Finishes, FindsVariable, Checks, scope_in, for_variable_steps, for_bounds_steps, for_begin_steps, for_test_steps, for_turns_steps, for_head_steps, bounds_under}
use Rattle.statements.specs.Turns.{InTurn, TypedIn, TurnsStay, bound_types, bounds_types, for_begin_types, for_test_types, for_types, StatesTyped, FinishesTyped, VariableTyped, ChecksTyped}
use Rattle.statements.proofs.TurnLaws.{stay_typed, in_turn-next, typed-next}
use Rattle.statements.proofs.MeetLaws.{adds_in, adds-pure, adds-most, adds_same, meets-gave, meets-refused, meets-same, meets-most, meets_then, meets-lift}
use Rattle.statements.proofs.StayLaws.{stays_refl, stays_then, stays-more, frame-stays, scope-stays, ready-stays, converting_next, converting_frame}
use Rattle.statements.proofs.FitLaws.{type-is, forms_are}
use Rattle.statements.proofs.DeclareLaws.{found-typed, declared_then, var_typed, var_afforded, variable_then, variable-not, taken-stays, declared_stays, declared_types, declared_leaves}
use Rattle.statements.proofs.StatedLaws.{states_stop, states_gave, states_refused, finishes_refused, finished-next, finished-stop, leaves-same, scope_later, seq_then, seq_not, fails_as}

-- ---- what changes nothing but may fail, and then the rest

module _ {X Y : Type 0} (x : Result X) (f : X → M Y) where
  lift_then : (a : X) → x ≡ ok a → lift x >>= f ≡ f a
  unfolding lift pure
  lift_then a e = ap (λ (z : Result X). lift z >>= f) e ∙ pure-first a f

  lift-not : (k : ConvertErrorKind) (r : ℕ) → x ≡ err k r → lift x >>= f ≡ lift (err k r)
  unfolding lift ◌>>=◌ bind
  lift-not k r e = ap (λ (z : Result X). lift z >>= f) e ∙ fun_ext (λ s. refl)

-- ---- what the words of a For refer to

module _ {tree text : List ℕ} (good : Good tree text) {r : ℕ} (k : IsKind tree 21 r) where
  -- its variable
  pub variable-is : {v : ℕ} → v ≡ word_of tree r A → IsKind tree 24 v
  variable-is {v} e =
      let h = for_a tree text good r k.below k.kind in
      subst (λ (z : ℕ). IsKind tree 24 z) (sym e) (record { below = omega (arith, h.0, k.below); kind = h.1 })

  pub variable-inside : {v : ℕ} → v ≡ word_of tree r A → v * 32 + 32 ≤ length tree
  variable-inside {v} e = inside tree text good v (variable-is e).below

  pub variable-typed : {v w : ℕ} → v ≡ word_of tree r A → w ≡ word_of tree v C → (w ≡ none → ⊥) → TypeAt tree (word_of tree v C)
  variable-typed {v} {w} e q n = go (variable-c tree text good v (variable-is e).below (variable-is e).kind)
    where
      go : (word_of tree v C ≡ none) ⊎ ToKind tree 1 v (word_of tree v C) → TypeAt tree (word_of tree v C)
      go (inl d) = absurd (n (q ∙ d))
      go (inr h) = record { below = omega (arith, h.0, (variable-is e).below); kind = h.1 }

  -- its records: its own, its variable's, its bounds' and its body's
  pub for_records : 4 + bounds_under tree text r ≤ statement_records (statement_at tree text r)
  unfolding statement_records expr_records
  for_records = rw (statement_for tree text good r k.below k.kind) (omega arith)

-- ---- the check of a bound

-- of the bound e, of the variable's type y; of both bounds of the For r
abbrev bound_at : List ℕ → List ℕ → List ℕ → Scope → ℕ → ℕ → M (Unit {0})
bound_at tree text s sc e y = check_bound (program tree text) (all_keys tree text) (expr_at tree text e) y (scope_at tree text s sc)

abbrev bounds_at : List ℕ → List ℕ → List ℕ → Scope → ℕ → ℕ → M (Unit {0})
bounds_at tree text s sc r y =
    for_bounds (program tree text) (all_keys tree text) y (expr_at tree text (word_of tree r B)) (expr_at tree text (word_of tree r C)) (scope_at tree text s sc)

module _ {tree text s s₁ : List ℕ} {turn : ℕ} {sc : Scope} {e : ℕ} {t : OrRefused ℕ} (y : ℕ) (p : Ready tree text s sc) (is : IsExpr tree e) (m : TypeMeets tree text s sc turn e t s₁) where
  pub bound_asks : {q : ℕ} → TypeAt tree y → t ≡ Ok q → IsExpr tree e × IsType tree q × IsType tree y × (e < 4294967296) × (e < 4294967296)
  bound_asks {q} h w =
      let good = p.keyed.good in
      let ty = is-typed tree t q m.typed w in
      let low : e < 4294967296 = omega (arith, expr-low tree text good e is, good.few) in
      (is, is-type tree text good q ty.below ty.kind, is-type tree text good y h.below h.kind, low, low)

  abbrev rest : ℕ → M (Unit {0})
  rest q = check_fits (program tree text) (all_keys tree text) (expr_at tree text e) q y NotInteger (place (expr_at tree text e))

  pub bound_not : {x : ConvertError} → t ≡ Err x → Checks tree (bound_at tree text s sc e y) s (Err x) s₁
  unfolding check_bound type_in outcome_of refusal
  bound_not {x} w = record {
    meets = lift-not (type_in tree text (scope_at tree text s sc) e) rest x.kind x.place (type-refused (type_in tree text (scope_at tree text s sc) e) t x m.meets w);
    frame = m.frame;
  }

  pub bound_is : {q : ℕ} {a : OrRefused (Unit {0})} → t ≡ Ok q
      → ((u : List ℕ) (F : Functions) → check_fits (program tree u) F (expr_at tree u e) q y NotInteger e ≡ lift (outcome_of a))
      → Checks tree (bound_at tree text s sc e y) s a s₁
  unfolding check_bound type_in
  bound_is {q} w h = record {
    meets = lift_then (type_in tree text (scope_at tree text s sc) e) rest q (type-ok (type_in tree text (scope_at tree text s sc) e) t q m.meets w)
        ∙ ap (λ (z : ℕ). check_fits (program tree text) (all_keys tree text) (expr_at tree text e) q y NotInteger z) (place_is tree text p.keyed.good e is)
        ∙ h text (all_keys tree text);
    frame = m.frame;
  }

-- both bounds, before either is converted
module _ (tree text s : List ℕ) (sc : Scope) (r y : ℕ) {s₁ : List ℕ} {b : ℕ} {o : OrRefused (Unit {0})} (eb : b ≡ word_of tree r B) (m : Checks tree (bound_at tree text s sc b y) s o s₁) where
  first-is : bound_at tree text s sc (word_of tree r B) y ≡ lift (outcome_of o)
  first-is = ap (λ (z : ℕ). bound_at tree text s sc z y) (sym eb) ∙ m.meets

  abbrev second : M (Unit {0})
  second = bound_at tree text s sc (word_of tree r C) y

  pub bounds_not : {x : ConvertError} → o ≡ Err x → Checks tree (bounds_at tree text s sc r y) s (Err x) s₁
  unfolding for_bounds outcome_of refusal
  bounds_not {x} w = record {
    meets = ap (λ (z : M (Unit {0})). z >> second) (first-is ∙ ap (λ (z : OrRefused (Unit {0})). lift (outcome_of z)) w)
        ∙ seq_is (lift (outcome_of (Err x))) second
        ∙ lift-not (outcome_of (Err x)) (λ (u : Unit {0}). second) x.kind x.place refl;
    frame = m.frame;
  }

  pub bounds_then : {d : ℕ} {a : OrRefused (Unit {0})} {s₂ : List ℕ} → Scoped tree s sc → o ≡ Ok tt → d ≡ word_of tree r C
      → Checks tree (bound_at tree text s₁ sc d y) s₁ a s₂ → Checks tree (bounds_at tree text s sc r y) s a s₂
  unfolding for_bounds outcome_of
  bounds_then er w ed n = record {
    meets = ap (λ (z : M (Unit {0})). z >> second) (first-is ∙ ap (λ (z : OrRefused (Unit {0})). lift (outcome_of z)) w)
        ∙ seq_is (lift (outcome_of (Ok tt))) second
        ∙ lift_then (outcome_of (Ok tt)) (λ (u : Unit {0}). second) tt refl
        ∙ ap (λ (S : Def.Scope). check_bound (program tree text) (all_keys tree text) (expr_at tree text (word_of tree r C)) y S) (sym (scope-frame tree s s₁ m.frame text sc er))
        ∙ ap (λ (z : ℕ). bound_at tree text s₁ sc z y) (sym ed) ∙ n.meets;
    frame = frame_trans m.frame n.frame;
  }

-- a refusal owes nothing
pub refused_outcome : {X : Type 0} {x : ConvertError} → ◌≡◌ {A = OrRefused (Unit {0})} (Err x) (Ok (tt {0})) → X
refused_outcome q = let z : ◌≡◌ {A = ℕ} 0 1 = cc in absurd (omega arith)

-- what a check types in a turn, and then more of the turn
module _ {tree text s s₁ : List ℕ} (c : Converter) {m : M (Unit {0})} {o : OrRefused (Unit {0})} {a : List ℕ} (er : Scoped tree s c.scope) (b : Checks tree m s o s₁)
    (t : o ≡ Ok tt → TypedIn tree text c s a s₁) (d : o ≡ Ok tt) where
  checked_scope : scope_at tree text s₁ c.scope ≡ scope_at tree text s c.scope
  checked_scope = scope-frame tree s s₁ b.frame text c.scope er

  pub checked_in_turn : InTurn tree text s₁ c
  checked_in_turn = in_turn-next c checked_scope (t d)

  pub checked_next : {e s₂ : List ℕ} → TypedIn tree text c s₁ e s₂ → TypedIn tree text c s (a ++ e) s₂
  checked_next u = typed-next c checked_scope (t d) u

pub bounds_typed : {tree text s s₁ s₂ : List ℕ} (c : Converter) (r : ℕ) {b d : ℕ} {m : M (Unit {0})} {o a : OrRefused (Unit {0})} → Scoped tree s c.scope → Checks tree m s o s₁
    → ChecksTyped bound_types c b tree text s o s₁ → o ≡ Ok tt → b ≡ word_of tree r B → d ≡ word_of tree r C → ChecksTyped bound_types c d tree text s₁ a s₂
    → ChecksTyped bounds_types c r tree text s a s₂
bounds_typed {tree} {text} {s} {s₂ = s₂} c r {b} {d} er m t w eb ed u q =
    subst (λ (z : ℕ). TypedIn tree text c s (bound_types tree text z ++ bound_types tree text (word_of tree r C)) s₂) eb
    (subst (λ (z : ℕ). TypedIn tree text c s (bound_types tree text b ++ bound_types tree text z) s₂) ed (checked_next c er m t w (u q)))

-- ---- the answer of a For's variable

pub refused-variable : {X : Type 0} {e : ConvertError} (x : VarId) (sc : Scope) (k : Counters) → ForVariable.Refused e ≡ ForVariable.Is x sc k → X
refused-variable x sc k q = let z : ◌≡◌ {A = ℕ} 0 1 = cc in absurd (omega arith)

-- it types nothing
pub variable-typed-none : (c : Converter) {tree text s s' : List ℕ} {a : ForVariable} → TurnsStay tree s s' → InTurn tree text s c → VariableTyped c tree text s a s'
variable-typed-none c {tree} {text} {s} f m x sc k q = stay_typed f text (scope_at tree text s c.scope) c.turn m

module _ {tree text l l' s s' : List ℕ} {m : M (Ir.VarId × Def.Scope)} {c : Converter} where
  pub variable-gave : {v : VarId} {sc : Scope} {k : Counters} → length l' ≡ length l
      → AddsIn (texts_of tree text) m (amount 0 1 0 0 0) c.counters l (var_of v, scope_at tree text s' sc) k l' → TypeAt tree v.1 → Leaves tree text 1 c s' sc
      → StaysFor tree c s s' → FindsVariable tree text m c l s (ForVariable.Is v sc k) l' s'
  variable-gave {v} {sc} long p t h stays = record {
    meets = meets-gave (texts_of tree text) long p;
    variable = λ v' sc' k' e.
        let a : v ≡ v' = cc in
        let b : sc ≡ sc' = cc in
        (subst (λ (z : VarId). TypeAt tree z.1) a t, subst (λ (z : Scope). Leaves tree text 1 c s' z) b h);
    stays = stays;
  }

  pub variable-refused : {e : ConvertError} → length l' ≡ length l → StopsIn (texts_of tree text) m c.counters l e.kind e.place → StaysFor tree c s s'
      → FindsVariable tree text m c l s (ForVariable.Refused e) l' s'
  variable-refused long p stays = record {
    meets = meets-refused (texts_of tree text) long p;
    variable = λ v sc k e. let z : ◌≡◌ {A = ℕ} 0 1 = cc in absurd (omega arith);
    stays = stays;
  }

-- the name of the variable can be looked for
pub variable-asked : {tree text s : List ℕ} {sc : Scope} {r v : ℕ} → Ready tree text s sc → IsKind tree 21 r → v ≡ word_of tree r A → Asked tree text s sc v
unfolding has_text
variable-asked h i e = kind-asked 24 refl h (variable-is h.keyed.good i e)

-- ---- a variable of the blocks around

module _ {tree text l s : List ℕ} {c : Converter} (r : ℕ) {v : ℕ} (p : Converting tree text l s c) (ev : v ≡ word_of tree r A) (free : word_of tree v C ≡ none)
    (a : Std.Option Known) (m : FindMeets text s c.scope (text_of tree text v A) a) where
  known-steps : for_variable_steps tree text s c r
      ≡ known_variable (program tree text) (all_keys tree text) r (find_variable (text_of tree text v A) (scope_in tree text s c)) (scope_in tree text s c)
  unfolding for_variable reference
  known-steps =
      ap (λ (z : ℕ). for_variable (program tree text) (all_keys tree text) r (text_of tree text z A) (reference (word_of tree z C)) (scope_in tree text s c)) (sym ev)
      ∙ rw (pick_yes (eqb (word_of tree v C) none) nothing (some (word_of tree v C)) (eq-eqb (word_of tree v C) none free))

  met : (k : Std.Option Known) → a ≡ k → FindMeets text s c.scope (text_of tree text v A) k
  met k q = subst (λ (z : Std.Option Known). FindMeets text s c.scope (text_of tree text v A) z) q m

  refuses : {d : ConvertErrorKind} {x : ConvertError} → for_variable_steps tree text s c r ≡ fail d r → x ≡ record { kind = d; place = r }
      → FindsVariable tree text (for_variable_steps tree text s c r) c l s (ForVariable.Refused x) l s
  refuses e w = variable-refused refl (stop-of e (fails_as (texts_of tree text) w)) (stays_refl tree c.scope.names c.operands s)

  pub known-not : {x : ConvertError} → a ≡ None → x ≡ record { kind = UnknownVariable; place = r }
      → FindsVariable tree text (for_variable_steps tree text s c r) c l s (ForVariable.Refused x) l s
  unfolding known_variable
  known-not q w = refuses (known-steps ∙ rw (find_unknown tree text s c.scope (text_of tree text v A) (met None q))) w

  module _ {y : Known} (q : a ≡ Some y) where
    found : Finds (text_of tree text v A) (scope_in tree text s c) y.var y.constant
    found = find_some tree text s c.scope (text_of tree text v A) y (met (Some y) q)

    found-steps : for_variable_steps tree text s c r ≡ pick y.constant (fail AssignToConstant r) (pure (var_of y.var, scope_in tree text s c))
    unfolding known_variable
    found-steps =
        known-steps ∙ rw found.found
        (ap (λ (z : Bool). pick z (fail AssignToConstant r) (pure (found.holder.var_id, scope_in tree text s c))) found.fixed
        ∙ ap (λ (z : Ir.VarId). pick y.constant (fail AssignToConstant r) (pure (z, scope_in tree text s c))) found.var)

    pub known_fixed : {z : ConvertError} → y.constant ≡ true → z ≡ record { kind = AssignToConstant; place = r }
        → FindsVariable tree text (for_variable_steps tree text s c r) c l s (ForVariable.Refused z) l s
    known_fixed h w = refuses (found-steps ∙ pick_yes y.constant (fail AssignToConstant r) (pure (var_of y.var, scope_in tree text s c)) h) w

    pub known_is : y.constant ≡ false → FindsVariable tree text (for_variable_steps tree text s c r) c l s (ForVariable.Is y.var c.scope c.counters) l s
    known_is h = variable-gave refl
        (adds_in (texts_of tree text) (adds_same (sym (found-steps ∙ pick_no y.constant (fail AssignToConstant r) (pure (var_of y.var, scope_in tree text s c)) h))
        (adds-most (adds-pure (var_of y.var, scope_in tree text s c) c.counters l p.room) (omega arith))))
        (found-typed p (text_of tree text v A) y (met (Some y) q))
        (leaves-same p (stays_refl tree c.scope.names c.operands s)) (stays_refl tree c.scope.names c.operands s)

-- ---- the variable that it declares

module _ {tree text l s : List ℕ} {c : Converter} {r v : ℕ} (p : Converting tree text l s c) (afforded : BehindAfforded tree text c r) (is : IsKind tree 21 r) (ev : v ≡ word_of tree r A)
    (t : TypeAt tree (word_of tree v C)) where
  asked : Asked tree text s c.scope v
  asked = variable-asked p.ready is ev

  few : c.scope.names < records tree
  few = omega (arith, for_records p.ready.keyed.good is, afforded.names)

  module _ {y : ℕ} {made : WithCounters VarId} {l₁ : List ℕ} (ey : y ≡ word_of tree v C) (long : length l₁ ≡ length l) (new : AddsVar y c.counters l made l₁) where
    typed : TypeAt tree y
    typed = subst (λ (z : ℕ). TypeAt tree z) (sym ey) t

    pub declare_asks : Asked tree text s c.scope v × NameAfforded c.scope made.value
    declare_asks = (asked, var_afforded p long new few typed)

    abbrev declared : Ir.VarId → Def.Scope → M (Ir.VarId × Def.Scope)
    declared x sc = pure (x, sc)

    declared_steps : declared_then tree text v false r y (scope_in tree text s c) declared ≡ for_variable_steps tree text s c r
    unfolding for_variable reference
    declared_steps =
        sym (ap (λ (z : ℕ). for_variable (program tree text) (all_keys tree text) r (text_of tree text z A) (reference (word_of tree z C)) (scope_in tree text s c)) (sym ev)
        ∙ rw (pick_no (eqb (word_of tree v C) none) nothing (some (word_of tree v C)) (ne_eqb (word_of tree v C) none (λ e. omega (arith, t.below, p.ready.keyed.good.few))))
        (ap (λ (z : ℕ). declared_then tree text v false r z (scope_in tree text s c) declared) (sym ey)))

    module _ (s' : List ℕ) {d : Std.Option Scope} (m : DeclareMeets text (original_of tree s v) (original_word tree s v A) (original_word tree s v B) made.value false c.scope s s' d) where
      pub for_taken : {e : ConvertError} → d ≡ None → e ≡ record { kind = AlreadyDeclared; place = r }
          → FindsVariable tree text (for_variable_steps tree text s c r) c l s (ForVariable.Refused e) l₁ s'
      for_taken q w = record {
        meets = meets-same (texts_of tree text) declared_steps (variable-not p long new few typed v asked false s' m r declared q w);
        variable = λ x sc k e. let z : ◌≡◌ {A = ℕ} 0 1 = cc in absurd (omega arith);
        stays = taken-stays p made.value few (var_typed p long new few typed) v asked false s' m q;
      }

      pub for_done : {sc : Scope} → d ≡ Some sc
          → FindsVariable tree text (for_variable_steps tree text s c r) c l s (ForVariable.Is made.value sc made.counters) l₁ s'
      for_done {sc} q = variable-gave long
          ((meets-same (texts_of tree text) declared_steps (variable_then p long new few typed v asked false s' m r declared q
          (meets-gave (texts_of tree text) refl (adds_in (texts_of tree text) (adds-pure (var_of made.value, scope_at tree text s' sc) made.counters l₁ new.next.room))))
          ).gives (var_of made.value, scope_at tree text s' sc) made.counters refl)
          (var_typed p long new few typed) (declared_leaves p made.value few (var_typed p long new few typed) v asked false s' m q)
          (declared_stays p made.value few (var_typed p long new few typed) v asked false s' m q)

      pub declared_none : {sc : Scope} → d ≡ Some sc → InTurn tree text s c → VariableTyped c tree text s (ForVariable.Is made.value sc made.counters) s'
      declared_none q u x sc k e = declared_types p made.value few (var_typed p long new few typed) v asked false s' m q u

-- ---- the turns: x is the variable

-- what is only checked leaves the tables
pub checks_converting : {tree text l s s₁ : List ℕ} {c : Converter} {m : M (Unit {0})} {o : OrRefused (Unit {0})} → Converting tree text l s c → Checks tree m s o s₁ → Converting tree text l s₁ c
checks_converting p b = converting_frame p b.frame

module _ {tree text l s : List ℕ} {c : Converter} (x : VarId) (r : ℕ) (p : Converting tree text l s c) {f : ℕ} (ef : f ≡ detail_of tree x.1 % 16) where
  -- with the marks of an Int
  abbrev marked : Bool → Bool → M (Unit {0})
  marked short unsigned =
      bounds_at tree text s c.scope r x.1
      >> (for_begin (program tree text) (all_keys tree text) r (var_of x) short unsigned (expr_at tree text (word_of tree r B)) (scope_in tree text s c) >> for_test_steps tree text s c x r)

  abbrev turns : M (Unit {0})
  turns = for_begin_steps tree text s c x r >> for_test_steps tree text s c x r

  pub turns-not_int : {n : Amount} {e : ConvertError} → (f ≡ 1 → ⊥) → e ≡ record { kind = NotInteger; place = r }
      → Finishes tree text (for_turns_steps tree text s c x r) tt n c l s (Finished.Refused e) l s
  unfolding for_turns program
  turns-not_int h w = finishes_refused refl
      (stop-of (no_int (type_at tree text x.1) (fail NotInteger r) marked ((forms_are tree text x.1 f ef).0 ∙ ne_eqb f 1 h)) (fails_as (texts_of tree text) w))
      (stays_refl tree c.scope.names c.operands s)

  module _ (i : f ≡ 1) {o : OrRefused (Unit {0})} {s₁ : List ℕ} (b : Checks tree (for_bounds_steps tree text s c r x.1) s o s₁) where
    int_steps : for_turns_steps tree text s c x r ≡ lift (outcome_of o) >> turns
    unfolding for_turns program
    int_steps =
        on_int_lem (type_at tree text x.1) (fail NotInteger r) marked (bit 16 (detail_of tree x.1)) (bit 32 (detail_of tree x.1)) (type-is tree text x.1 f ef ∙ rw i)
        ∙ ap (λ (z : M (Unit {0})). z >> turns) b.meets

    bounds_stay : StaysFor tree c s s₁
    bounds_stay = frame-stays c.scope.names c.operands b.frame

    pub turns_bounds_not : {n : Amount} {e : ConvertError} → o ≡ Err e
        → Finishes tree text (for_turns_steps tree text s c x r) tt n c l s (Finished.Refused e) l s₁
    unfolding outcome_of refusal
    turns_bounds_not {e = e} w = finishes_refused refl
        (stop-of (int_steps ∙ ap (λ (z : OrRefused (Unit {0})). lift (outcome_of z) >> turns) w)
        (stop_seq (texts_of tree text) turns (lift-stops (texts_of tree text) (outcome_of (Err e)) c.counters l e.kind e.place refl))) bounds_stay

    module _ (d : o ≡ Ok tt) {n₁ : Amount} {a : Finished} {l₂ s₂ : List ℕ} (g : Finishes tree text (for_begin_steps tree text s₁ c x r) tt n₁ c l s₁ a l₂ s₂) where
      begin_scope : scope_in tree text s₁ c ≡ scope_in tree text s c
      begin_scope = scope_later p bounds_stay

      from_begin : {n : Amount} {y : StepAnswer (Unit {0})} {l₃ : List ℕ} → Meets (texts_of tree text) (for_begin_steps tree text s₁ c x r >> for_test_steps tree text s c x r) n c.counters l l₃ y
          → Meets (texts_of tree text) (for_turns_steps tree text s c x r) n c.counters l l₃ y
      unfolding outcome_of
      from_begin q =
          meets-same (texts_of tree text) (sym (int_steps ∙ ap (λ (z : OrRefused (Unit {0})). lift (outcome_of z) >> turns) d ∙ seq_is (lift (outcome_of (Ok tt))) turns))
          (meets-lift (texts_of tree text) (λ (u : Unit {0}). turns) p.room refl
          (meets-same (texts_of tree text) (ap (λ (S : Def.Scope). for_begin (program tree text) (all_keys tree text) r (var_of x) (bit 16 (detail_of tree x.1)) (bit 32 (detail_of tree x.1)) (expr_at tree text (word_of tree r B)) S >> for_test_steps tree text s c x r) begin_scope) q))

      pub turns_begin_not : {n : Amount} {e : ConvertError} → a ≡ Finished.Refused e
          → Finishes tree text (for_turns_steps tree text s c x r) tt n c l s (Finished.Refused e) l₂ s₂
      turns_begin_not w = record {
        meets = from_begin (seq_not (texts_of tree text) (for_test_steps tree text s c x r) g.meets.long (finished-stop g w));
        stays = stays_then (omega arith) (omega arith) bounds_stay g.stays;
      }

      pub turns_then : {n₂ : Amount} {k : Counters} {y : Finished} {l₃ s₃ : List ℕ} → a ≡ Finished.Done k
          → Finishes tree text (for_test_steps tree text s₂ (with_counters c k) x r) tt n₂ (with_counters c k) l₂ s₂ y l₃ s₃
          → Finishes tree text (for_turns_steps tree text s c x r) tt (both n₁ n₂) c l s y l₃ s₃
      turns_then w q = record {
        meets = from_begin (seq_then (texts_of tree text) (for_test_steps tree text s c x r) g.meets.long (finished-next g w)
            (meets-same (texts_of tree text) (ap (λ (S : Def.Scope). for_test (program tree text) (all_keys tree text) r (var_of x) (expr_at tree text (word_of tree r C)) S)
            (scope_later (checks_converting p b) g.stays ∙ begin_scope)) q.meets));
        stays = stays_then (omega arith) (omega arith) bounds_stay (stays_then (omega arith) (omega arith) g.stays q.stays);
      }

-- in one turn
module _ {tree text l s s₁ l₂ s₂ : List ℕ} {c : Converter} {m m' : M (Unit {0})} {n : Amount} {o : OrRefused (Unit {0})} {a : Finished} {k : Counters} (r : ℕ) (p : Converting tree text l s c)
    (b : Checks tree m s o s₁) (g : Finishes tree text m' tt n c l s₁ a l₂ s₂) (u : FinishesTyped for_begin_types c r tree text s₁ a s₂) (w : a ≡ Finished.Done k) where
  test-scope : scope_in tree text s₂ c ≡ scope_in tree text s₁ c
  test-scope = scope_later (checks_converting p b) g.stays

  pub test-in_turn : InTurn tree text s₂ (with_counters c k)
  test-in_turn = in_turn-next c test-scope (u k w)

  pub turns-typed : {y : Finished} {s₃ : List ℕ} → ChecksTyped bounds_types c r tree text s o s₁ → o ≡ Ok tt → FinishesTyped for_test_types (with_counters c k) r tree text s₂ y s₃
      → FinishesTyped for_types c r tree text s y s₃
  turns-typed t d v k' q = checked_next c p.ready.scoped b t d (typed-next c test-scope (u k w) (v k' q))

-- ---- the head

module _ {tree text l s l₁ s₁ : List ℕ} {c : Converter} (r : ℕ) (p : Converting tree text l s c) {a : ForVariable} (m : FindsVariable tree text (for_variable_steps tree text s c r) c l s a l₁ s₁) where
  abbrev after : Ir.VarId × Def.Scope → M Def.Scope
  after v = for_turns (program tree text) (all_keys tree text) r v.0 (expr_at tree text (word_of tree r B)) (expr_at tree text (word_of tree r C)) (scope_in tree text s c) >> pure v.1

  pub head_not : {n : Amount} {q : ℕ} {e : ConvertError} → a ≡ ForVariable.Refused e → States tree text (for_head_steps tree text s c r) n q c l s (Stated.Refused e) l₁ s₁
  unfolding for_head
  head_not {e = e} w = states_refused m.meets.long (stop-first (texts_of tree text) after (m.meets.stops e (ap (variable_of tree text s₁) w))) m.stays

  module _ {x : VarId} {inner : Scope} {k : Counters} (w : a ≡ ForVariable.Is x inner k) where
    head_adds : AddsIn (texts_of tree text) (for_variable_steps tree text s c r) (amount 0 1 0 0 0) c.counters l (var_of x, scope_at tree text s₁ inner) k l₁
    head_adds = m.meets.gives (var_of x, scope_at tree text s₁ inner) k (ap (variable_of tree text s₁) w)

    pub head_asks : IsKind tree 21 r → BehindAfforded tree text c r
        → (Converting tree text l₁ s₁ (with_counters c k) × Afforded tree (with_counters c k) (for_head_amount (bounds_under tree text r)) (bounds_under tree text r) 0)
        × (IsKind tree 21 r × TypeAt tree x.1)
    head_asks is h =
        let few = for_records p.ready.keyed.good is in (
          (
            converting_next p head_adds.next m.stays,
            record {
              tables = omega (arith, few, h.tables, head_adds.spent);
              stack = omega (arith, few, h.stack);
              names = omega (arith, h.names);
            },
          ),
          (is, (m.variable x inner k w).0),
        )

    module _ (t : VariableTyped c tree text s a s₁) where
      pub head_in-turn : InTurn tree text s₁ (with_counters c k)
      head_in-turn = in_turn-next c (scope_later p m.stays) (t x inner k w)

      pub head_typed : {b : Finished} {k₁ : Counters} {s₂ : List ℕ} → b ≡ Finished.Done k₁ → FinishesTyped for_types (with_counters c k) r tree text s₁ b s₂
          → StatesTyped for_types c r tree text s (Stated.Done inner k₁) s₂
      head_typed {k₁ = k₁} d u sc k' q = typed-next c (scope_later p m.stays) (t x inner k w) (u k₁ d)

    module _ {n : Amount} {b : Finished} {l₂ s₂ : List ℕ} (t : Finishes tree text (for_turns_steps tree text s₁ (with_counters c k) x r) tt n (with_counters c k) l₁ s₁ b l₂ s₂) where
      head_stays : StaysFor tree c s s₂
      head_stays = stays_then (omega arith) (omega arith) m.stays t.stays

      head_scope : {y : StepAnswer Def.Scope} → Meets (texts_of tree text) (for_turns_steps tree text s₁ (with_counters c k) x r >> pure (scope_at tree text s₁ inner)) n k l₁ l₂ y
          → Meets (texts_of tree text) (for_head_steps tree text s c r) (both (amount 0 1 0 0 0) n) c.counters l l₂ y
      unfolding for_head
      head_scope q =
          meets_then (texts_of tree text) after m.meets.long head_adds
          (meets-same (texts_of tree text) (ap (λ (S : Def.Scope). for_turns (program tree text) (all_keys tree text) r (var_of x) (expr_at tree text (word_of tree r B)) (expr_at tree text (word_of tree r C)) S
          >> pure (scope_at tree text s₁ inner)) (scope_later p m.stays)) q)

      pub head_turns-not : {e : ConvertError} → b ≡ Finished.Refused e
          → States tree text (for_head_steps tree text s c r) (both (amount 0 1 0 0 0) n) 1 c l s (Stated.Refused e) l₂ s₂
      head_turns-not d = states_stop (head_scope (seq_not (texts_of tree text) (pure (scope_at tree text s₁ inner)) t.meets.long (finished-stop t d))) head_stays

      pub head_done : {k₁ : Counters} → b ≡ Finished.Done k₁ → NamesStay tree s₁ s₂
          → States tree text (for_head_steps tree text s c r) (both (amount 0 1 0 0 0) n) 1 c l s (Stated.Done inner k₁) l₂ s₂
      head_done {k₁} d q =
          let h = (m.variable x inner k w).1 in
          let names : Stays tree inner.names c.operands s₁ s₂ =
          stays-more inner.names t.stays q in
          states_gave (t.meets.long ∙ m.meets.long)
          ((head_scope (meets-most (texts_of tree text) (seq_then (texts_of tree text) (pure (scope_at tree text s₁ inner)) t.meets.long (finished-next t d)
          (meets-gave (texts_of tree text) refl (adds_in (texts_of tree text) (adds-pure (scope_at tree text s₁ inner) k₁ l₂ (finished-next t d).next.room)))) (omega arith))
          ).gives (scope_at tree text s₂ inner) k₁ (ap (λ (S : Def.Scope). gave S k₁) (sym (scope-stays tree names text inner h.ready.scoped (omega arith)))))
          (record {
            ready = ready-stays tree names text inner (omega arith) h.ready;
            function = h.function;
            inner = h.inner;
            least = h.least;
            most = h.most;
          }) head_stays
