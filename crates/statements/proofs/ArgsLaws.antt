-- The values of a call, as the code meets them: a turn at a value, at a type, at a refusal, and the end of the loop; and the call around them.
-- What is left suffices for what was asked, and what was pushed stands on the stack. Assumes nothing.
use Rattle.std.specs.Prelude.{Ok, Err}
use Rattle.expressions.specs.declared.answers.Callee as Code-Callee
use mathlib.Core.Path.{◌≡◌, refl, sym, ap, ◌∙◌, subst}
use mathlib.Core.Logic.{◌⊎◌, inl, inr}
use mathlib.Core.List.{List, [], ◌∷◌, ◌++◌, append_assoc, append-nil}
use Prim.Native.Nat.{ℕ, suc, ◌+◌, ◌-◌, ◌*◌, ◌≤◌, ◌<◌}
use native.Mathlib.Omega.{arith}
use lib.Dec.{ltb}
use lib.ListN.{length}
use borrow.Author.Tests.{eq-eqb, ltb-true, ltb-false}
use Rattle.laws.specs.Fix.{pick}
use Rattle.laws.specs.Splice.{splice}
use Rattle.laws.proofs.Tests.{tested}
use Rattle.records.specs.declared.shape.Role.TheVariants.{Arguments}
use Rattle.records.specs.declared.convert_error.ConvertError.{ConvertError}
use Rattle.records.specs.Words.{word_of, records, none, B, C}
use Rattle.records.specs.Good.{Good}
use Rattle.syntax.specs.Syntax.{Args, no_args}
use Rattle.syntax.specs.Count.{under, args_records, args_under, args_values}
use Rattle.conversion.proofs.Sizes.{args_count}
use Rattle.syntax.specs.Decode.{program}
use Rattle.syntax.specs.Places.{IsExpr, IsKind, ArgsAt, expr_at, args_at, function_of}
use Rattle.syntax.proofs.Records.{expr-call}
use Rattle.syntax.proofs.Lists.{left, left_some, args_end, cell_below, next-list, next_falls}
use Rattle.conversion.specs.ConvertError.{ConvertErrorKind, ok}
use Rattle.conversion.specs.Ir as Ir
use Rattle.conversion.specs.Ir.{M, ◌>>=◌, pure}
use Rattle.conversion.specs.Scope as Def
use Rattle.conversion.specs.Expressions.{Callee, CallFunction, CallCast}
use Rattle.conversion.specs.Statements.{convert_expr, convert_args, convert_call_value}
use Rattle.conversion.specs.Visits.{typed_args}
use Rattle.ir.specs.declared.structs.Counters.{Counters}
use Rattle.ir.specs.declared.structs.Operand.{Operand}
use Rattle.ir.specs.Amounts.{amount, Spent}
use Rattle.ir.specs.Instructions.{operand_of}
use Rattle.ir.specs.Steps.{NextIn, StopsIn}
use Rattle.ir.proofs.StepLaws.{next_in, then_in, pure-next, stop-first, then_stop}
use Rattle.scope.specs.declared.Scope.{Scope}
use Rattle.scope.specs.Open.{scope_at}
use Rattle.keys.specs.Keys.{all_keys}
use Rattle.expressions.specs.declared.arguments.Argument.{Argument}
use Rattle.expressions.specs.Slots.{Typed}
use Rattle.expressions.specs.Answers.{OrRefused, refusal, callee_of, ArgumentIs, CallMeets}
use Rattle.expressions.proofs.SlotLaws.{scope-frame}
use Rattle.expressions.proofs.TurnLaws.{typed-none, typed-both}
use Rattle.expressions.proofs.ArgumentTurns.{ValueCell, TypeCell}
use Rattle.expressions.proofs.TypingLaws.{call-list, call-low}
use Rattle.statements.specs.Lent.{Converter, Converted, ConvertedArgs}
use Rattle.statements.specs.Stack.{stack_entry_at, operand_bytes, operand_at, stack_at}
use Rattle.statements.specs.Converting.{Converting, with_counters, Afforded, ExprAfforded, ArgsAfforded, expr_amount, args_amount, OperandIn, StackIn, Stays, StaysFor, NamesStay}
use Rattle.statements.specs.Meets.{AddsIn, texts_of}
use Rattle.statements.specs.Parts.{finish_call}
use Rattle.statements.specs.Answers.{converted_of, converted_args_of, Converts, ConvertsArgs, expr_steps, args_steps, call_steps}
use Rattle.statements.specs.Turns.{InTurn, TypedIn, expr_types, args_types, ConvertsTyped, ArgumentsTyped}
use Rattle.statements.proofs.MeetLaws.{meets-gave, meets-refused, meets-most, meets_then, meets-stop, meets-lift, meets-lift-stop}
use Rattle.statements.proofs.StayLaws.{stays_refl, names_refl, names_then, names_of, frame-names, stays_then, frame-stays, operand-stays, scope-stays, ready-stays, operand-kept, stack-kept, converting_next, converting_frame}
use Rattle.statements.proofs.StackLaws.{operand-long, stack-last}
use Rattle.statements.proofs.ConvertLaws.{converted-next, converting_after}
use Rattle.statements.proofs.TurnLaws.{typed_stay, turns-entry}

module _ (tree text : List ℕ) (S : Def.Scope) where
  abbrev args_in : ℕ → M (List Ir.Operand)
  args_in w = convert_args (program tree text) (all_keys tree text) (args_at tree text w) S

-- a value is three records at least: a list cell, a kind 13 and an expression
-- ---- the call around its values

pub record CalleeIs (tree text : List ℕ) (a : OrRefused Code-Callee.Callee) : Type 0 where
  pub to : Callee
  pub is : callee_of tree text a ≡ ok to

pub callee-is : (tree text : List ℕ) {a : OrRefused Code-Callee.Callee} (g : Code-Callee.Callee) → a ≡ Ok g → CalleeIs tree text a
unfolding callee_of
callee-is tree text (Code-Callee.Callee.Function f) q = record { to = CallFunction (function_of tree text f); is = ap (callee_of tree text) q }
callee-is tree text (Code-Callee.Callee.Cast y) q = record { to = CallCast y; is = ap (callee_of tree text) q }

module _ {tree text l s : List ℕ} {c : Converter} {e : ℕ} (p : Converting tree text l s c) (f : ExprAfforded tree text c e) (x : IsKind tree 11 e)
    {callee : OrRefused Code-Callee.Callee} {s₁ : List ℕ} (m : CallMeets tree text s c.scope c.turn e callee s₁) where
  abbrev S : Def.Scope
  S = scope_at tree text s c.scope

  abbrev W : ℕ
  W = word_of tree e C

  call-under : under (expr_at tree text e) ≡ args_records (args_at tree text W)
  unfolding under
  call-under = ap under (expr-call tree text p.ready.keyed.good e x.below x.kind)

  pub called_converting : Converting tree text l s₁ c
  called_converting = converting_frame p m.frame

  pub called_afforded : ArgsAfforded tree text c W
  called_afforded = omega (arith, f, call-under, args_count (args_at tree text W))

  called_stays : StaysFor tree c s s₁
  called_stays = frame-stays c.scope.names c.operands m.frame

  abbrev rest : ℕ → Callee → M Ir.Operand
  rest y to = args_in tree text S W >>= (λ os. finish_call (program tree text) (all_keys tree text) e y (args_at tree text W) os to)

  pub called_stop : (y : ℕ) {z : ConvertError} → callee ≡ Err z
      → Converts tree text (call_steps tree text s c e y) (expr_amount (under (expr_at tree text e))) c l s (Converted.Refused z) l s₁
  unfolding convert_call_value finish_call callee_of refusal
  called_stop y w = record {
    meets = meets-lift-stop (texts_of tree text) (rest y) refl (m.meets ∙ ap (callee_of tree text) w);
    operand = λ o k h. let z : ◌≡◌ {A = ℕ} 0 1 = cc in absurd (omega arith);
    stays = called_stays;
    names = frame-names m.frame;
  }

  module _ {a : ConvertedArgs} {l₁ s₂ : List ℕ}
      (n : ConvertsArgs tree text (args_steps tree text s₁ c W) (args_amount (args_under (args_at tree text W)) (args_values (args_at tree text W))) (args_values (args_at tree text W)) c l s₁ a l₁ s₂) where
    same_args : args_steps tree text s₁ c W ≡ args_in tree text S W
    same_args = ap (λ (Z : Def.Scope). args_in tree text Z W) (scope-frame tree s s₁ m.frame text c.scope p.ready.scoped)

    pub args-stop : (y : ℕ) {z : ConvertError} {g : Code-Callee.Callee} → callee ≡ Ok g → a ≡ ConvertedArgs.Refused z
        → Converts tree text (call_steps tree text s c e y) (expr_amount (under (expr_at tree text e))) c l s (Converted.Refused z) l₁ s₂
    unfolding convert_call_value finish_call
    args-stop y {z} not w =
        let to = callee-is tree text _ not in record {
          meets = meets-lift (texts_of tree text) (rest y) p.room (m.meets ∙ to.is) (meets-stop (texts_of tree text) (λ os. finish_call (program tree text) (all_keys tree text) e y (args_at tree text W) os to.to) n.meets.long
              (subst (λ (q : M (List Ir.Operand)). StopsIn (texts_of tree text) q c.counters l z.kind z.place) same_args (n.meets.stops z (ap (converted_args_of s₂ (records tree) c.operands) w))));
          operand = λ o k h. let z : ◌≡◌ {A = ℕ} 0 1 = cc in absurd (omega arith);
          stays = stays_then (omega arith) (omega arith) called_stays n.stays;
          names = names_then (frame-names m.frame) n.names;
        }

    module _ {count : ℕ} {k : Counters} (w : a ≡ ConvertedArgs.Done count k) where
      gives : AddsIn (texts_of tree text) (args_steps tree text s₁ c W) (args_amount (args_under (args_at tree text W)) (args_values (args_at tree text W))) c.counters l (stack_at s₂ (records tree) c.operands count) k l₁
      gives = n.meets.gives (stack_at s₂ (records tree) c.operands count) k (ap (converted_args_of s₂ (records tree) c.operands) w)

      pub finish_converting : Converting tree text l₁ s₂ (with_counters c k)
      finish_converting = converting_next called_converting gives.next n.stays

      pub finish_afforded : Afforded tree (with_counters c k) (amount (2 * count + 1) (count + 1) 0 0 count) count 0
      finish_afforded = omega (arith, f, call-under, args_count (args_at tree text W), gives.spent, (n.operands count k w).0)

      pub called_next : (y : ℕ) {b : Converted} {l₂ s₃ : List ℕ} {g : Code-Callee.Callee} → callee ≡ Ok g
          → ((to : Callee) → callee_of tree text callee ≡ ok to
          → Converts tree text (finish_call (program tree text) (all_keys tree text) e y (args_at tree text W) (stack_at s₂ (records tree) c.operands count) to) (amount (2 * count + 1) (count + 1) 0 0 count) (with_counters c k) l₁ s₂ b l₂ s₃)
          → Converts tree text (call_steps tree text s c e y) (expr_amount (under (expr_at tree text e))) c l s b l₂ s₃
      unfolding convert_call_value finish_call
      called_next y not i =
          let to = callee-is tree text _ not in
          let j = i to.to to.is in
          let g = subst (λ (q : M (List Ir.Operand)). AddsIn (texts_of tree text) q (args_amount (args_under (args_at tree text W)) (args_values (args_at tree text W))) c.counters l (stack_at s₂ (records tree) c.operands count) k l₁) same_args gives in
          record {
            meets = meets-most (texts_of tree text) (meets-lift (texts_of tree text) (rest y) p.room (m.meets ∙ to.is)
                (meets_then (texts_of tree text) (λ os. finish_call (program tree text) (all_keys tree text) e y (args_at tree text W) os to.to) n.meets.long g j.meets))
                (omega (arith, call-under, args_count (args_at tree text W), (n.operands count k w).0));
            operand = j.operand;
            stays = stays_then (omega arith) (omega arith) called_stays (stays_then (omega arith) (omega arith) n.stays j.stays);
            names = names_then (frame-names m.frame) (names_then n.names j.names);
          }

-- ---- the loop

-- of the values of the call e those from cell w on are left; the others wait on the stack
pub record ArgsLeft (tree text l₀ s₀ : List ℕ) (c : Converter) (e : ℕ) (l s : List ℕ) (w : ℕ) (at : Converter) : Type 0 where
  pub count : ℕ
  pub below : ℕ
  pub scope : at.scope ≡ c.scope
  pub operands : at.operands ≡ c.operands + count
  pub converting : Converting tree text l s at
  pub cells : ArgsAt tree w
  pub low : left w ≤ e
  pub long : length l ≡ length l₀
  pub stays : StaysFor tree c s₀ s
  pub names : NamesStay tree s₀ s
  pub typed : StackIn tree s c.operands count
  pub below-is : below + args_under (args_at tree text w) ≡ args_under (args_at tree text (word_of tree e C))
  pub count-is : count + args_values (args_at tree text w) ≡ args_values (args_at tree text (word_of tree e C))
  pub turn : at.turn ≡ c.turn
  pub earlier : List ℕ
  pub earlier-typed : TypedIn tree text c s₀ earlier s
  pub earlier-is : earlier ++ args_types tree text w ≡ args_types tree text (word_of tree e C)
  pub spent : Spent c.counters at.counters (args_amount below count)
  pub done : (os : List Ir.Operand) (k : Counters) (l' : List ℕ) → NextIn (texts_of tree text) (args_in tree text (scope_at tree text s₀ c.scope) w) at.counters l os k l'
      → NextIn (texts_of tree text) (args_in tree text (scope_at tree text s₀ c.scope) (word_of tree e C)) c.counters l₀ (stack_at s (records tree) c.operands count ++ os) k l'
  pub stops : (k : ConvertErrorKind) (r : ℕ) → StopsIn (texts_of tree text) (args_in tree text (scope_at tree text s₀ c.scope) w) at.counters l k r
      → StopsIn (texts_of tree text) (args_in tree text (scope_at tree text s₀ c.scope) (word_of tree e C)) c.counters l₀ k r

module _ {tree text l₀ s₀ : List ℕ} {c : Converter} {e : ℕ} (p : Converting tree text l₀ s₀ c) (f : ArgsAfforded tree text c (word_of tree e C)) (x : IsKind tree 11 e) where
  abbrev T : Def.Scope
  T = scope_at tree text s₀ c.scope

  abbrev opening : ℕ
  opening = word_of tree e C

  abbrev good : Good tree text
  good = p.ready.keyed.good

  first-low : left opening ≤ e
  unfolding left pick
  first-low = go (call-low tree text good e x)
    where
      go : (opening ≡ none) ⊎ (opening < e) → left opening ≤ e
      go (inl q) = rw (eq-eqb opening none q) (omega arith)
      go (inr h) = rw (left_some opening (λ q. omega (arith, x.below, good.few))) (omega arith)

  pub loop_start_lem : InTurn tree text s₀ c → (w : ℕ) → w ≡ opening → ArgsLeft tree text l₀ s₀ c e l₀ s₀ w c
  unfolding stack_at
  loop_start_lem t w q = subst (λ (z : ℕ). ArgsLeft tree text l₀ s₀ c e l₀ s₀ z c) (sym q) (record {
    count = 0;
    below = 0;
    scope = refl;
    operands = omega arith;
    converting = p;
    cells = call-list tree text good e x;
    low = first-low;
    long = refl;
    stays = stays_refl tree c.scope.names c.operands s₀;
    names = names_refl tree s₀;
    typed = λ i a b. absurd (omega arith);
    below-is = omega arith;
    count-is = omega arith;
    turn = refl;
    earlier = [];
    earlier-typed = typed-none tree text T c.turn s₀ t;
    earlier-is = refl;
    spent = omega arith;
    done = λ os k l' h. h;
    stops = λ k r h. h;
  })

  module _ {l s : List ℕ} {w : ℕ} {at : Converter} (i : ArgsLeft tree text l₀ s₀ c e l s w at) where
    -- the end
    pub loop_end_lem : w ≡ none → (count : ℕ) → count ≡ at.operands - c.operands
        → ConvertsArgs tree text (args_steps tree text s₀ c opening) (args_amount (args_under (args_at tree text opening)) (args_values (args_at tree text opening))) (args_values (args_at tree text opening)) c l₀ s₀
        (ConvertedArgs.Done count at.counters) l s
    unfolding convert_args args_under args_values
    loop_end_lem q count ec =
        let over : args_at tree text w ≡ no_args = ap (args_at tree text) q ∙ args_end tree text good in
        let none-under : args_under (args_at tree text w) ≡ 0 = ap args_under over in
        let none-values : args_values (args_at tree text w) ≡ 0 = ap args_values over in
        let same : i.count ≡ count = omega (arith, i.operands) in
        let last : NextIn (texts_of tree text) (args_in tree text T w) at.counters l [] at.counters l =
        subst (λ (z : Args). NextIn (texts_of tree text) (convert_args (program tree text) (all_keys tree text) z T) at.counters l [] at.counters l) (sym over)
        (next_in (texts_of tree text) (pure-next [] at.counters l i.converting.room)) in
        let all : NextIn (texts_of tree text) (args_in tree text T opening) c.counters l₀ (stack_at s (records tree) c.operands count) at.counters l =
        subst (λ (z : ℕ). NextIn (texts_of tree text) (args_in tree text T opening) c.counters l₀ (stack_at s (records tree) c.operands z) at.counters l) same
        (subst (λ (z : List Ir.Operand). NextIn (texts_of tree text) (args_in tree text T opening) c.counters l₀ z at.counters l) (append-nil (stack_at s (records tree) c.operands i.count)) (i.done [] at.counters l last)) in
        record {
          meets = meets-gave (texts_of tree text) i.long (record { next = all; spent = omega (arith, i.spent, i.below-is, i.count-is) });
          operands = λ n k h. let en : count ≡ n = cc in (omega (arith, i.count-is), subst (λ (z : ℕ). StackIn tree s c.operands z) (same ∙ en) i.typed);
          stays = i.stays;
          names = i.names;
        }

    -- all were typed
    pub loop_end-types : w ≡ none → (a : ConvertedArgs) → ArgumentsTyped args_types c opening tree text s₀ a s
    unfolding typed_args
    loop_end-types q a count k h =
        let over : args_types tree text w ≡ [] = ap (args_types tree text) q ∙ ap typed_args (args_end tree text good) in
        subst (λ (z : List ℕ). TypedIn tree text c s₀ z s) (sym (append-nil i.earlier) ∙ ap (λ (z : List ℕ). i.earlier ++ z) (sym over) ∙ i.earlier-is) i.earlier-typed

    module _ (more : w ≡ none → ⊥) where
      pub cell-low : w < records tree
      cell-low = cell_below tree text good Arguments w i.cells more

      pub next-less : (v : ℕ) → v ≡ word_of tree w B → left v < left w
      next-less v q = next_falls tree text good Arguments w v i.cells more q

      inside-call : w < e
      inside-call = omega (arith, i.low, left_some w more)

      names_same : at.scope.names ≡ c.scope.names
      names_same = ap (λ (z : Scope). z.names) i.scope

      scope_now : scope_at tree text s at.scope ≡ T
      scope_now = ap (scope_at tree text s) i.scope ∙ scope-stays tree i.stays text c.scope p.ready.scoped (omega arith)

      pub turn_in : InTurn tree text s at
      turn_in = rw (scope_now, i.turn) i.earlier-typed.remembers

      module _ {a : Argument} (is : ArgumentIs tree text w a) where
        type-cell : (y : ℕ) → a ≡ Argument.ToType y → TypeCell tree text w
        type-cell y q = go (subst (λ (z : Argument). ArgumentIs tree text w z) q is)
          where
            go : ArgumentIs tree text w (Argument.ToType y) → TypeCell tree text w
            go (ArgumentIs.a_type r h k) = record { at = r; named = y; opens = h }

        -- a type gives no value
        pub turn-type : (y : ℕ) → a ≡ Argument.ToType y → {l' s' : List ℕ} {at' : Converter} → l' ≡ l → s' ≡ s → at' ≡ at → (v : ℕ) → v ≡ word_of tree w B
            → ArgsLeft tree text l₀ s₀ c e l' s' v at'
        unfolding convert_args args_under args_values typed_args
        turn-type y q {l'} {s'} {at'} el es ea v ev =
            let t = type-cell y q in
            subst (λ (z : List ℕ). ArgsLeft tree text l₀ s₀ c e z s' v at') (sym el)
            (subst (λ (z : List ℕ). ArgsLeft tree text l₀ s₀ c e l z v at') (sym es)
            (subst (λ (z : Converter). ArgsLeft tree text l₀ s₀ c e l s v z) (sym ea)
            (subst (λ (z : ℕ). ArgsLeft tree text l₀ s₀ c e l s z at) (sym ev) (record {
              count = i.count;
              below = i.below;
              scope = i.scope;
              operands = i.operands;
              converting = i.converting;
              cells = next-list tree text good Arguments w (word_of tree w B) i.cells more refl;
              low = omega (arith, i.low, next-less (word_of tree w B) refl);
              long = i.long;
              stays = i.stays;
              names = i.names;
              typed = i.typed;
              below-is = omega (arith, i.below-is, ap args_under t.opens);
              count-is = omega (arith, i.count-is, ap args_values t.opens);
              turn = i.turn;
              earlier = i.earlier;
              earlier-typed = i.earlier-typed;
              earlier-is = ap (λ (z : List ℕ). i.earlier ++ z) (sym (ap typed_args t.opens)) ∙ i.earlier-is;
              spent = i.spent;
              done = λ os k l'' h. i.done os k l'' (subst (λ (z : Args). NextIn (texts_of tree text) (convert_args (program tree text) (all_keys tree text) z T) at.counters l os k l'') (sym t.opens) h);
              stops = λ k n h. i.stops k n (subst (λ (z : Args). StopsIn (texts_of tree text) (convert_args (program tree text) (all_keys tree text) z T) at.counters l k n) (sym t.opens) h);
            }))))

        module _ {v : ℕ} (q : a ≡ Argument.Expr v) where
          found : ValueCell tree text w v
          found = go (subst (λ (z : Argument). ArgumentIs tree text w z) q is)
            where
              go : ArgumentIs tree text w (Argument.Expr v) → ValueCell tree text w v
              go (ArgumentIs.an_expr n h y k) = record { at = n; opens = h; expression = y; lower = k }

          under-is : args_under (args_at tree text w) ≡ under (expr_at tree text v) + args_under (args_at tree text (word_of tree w B))
          unfolding args_under
          under-is = ap args_under found.opens

          values_is : args_values (args_at tree text w) ≡ suc (args_values (args_at tree text (word_of tree w B)))
          unfolding args_values
          values_is = ap args_values found.opens

          pub value_low : (v < e) × IsExpr tree v
          value_low = (omega (arith, found.lower, inside-call), found.expression)

          pub value_afforded : ExprAfforded tree text at v
          value_afforded = omega (arith, f, i.spent, i.below-is, i.count-is, i.operands, under-is, values_is, names_same)

          pub value_room : at.operands < records tree
          value_room = omega (arith, f.stack, i.count-is, i.operands, values_is)

          module _ {r : Converted} {l₁ s₁ : List ℕ} (n : Converts tree text (expr_steps tree text s at v) (expr_amount (under (expr_at tree text v))) at l s r l₁ s₁) where
            value_stays : StaysFor tree c s₀ s₁
            value_stays = stays_then (omega (arith, names_same)) (omega (arith, i.operands)) i.stays n.stays

            pub push-room : 24 * records tree + 16 * at.operands + 16 ≤ length s₁
            push-room = omega (arith, value_room, n.stays.long, i.converting.ready.keyed.listed.room)

            pub turn-stop : {z : ConvertError} → r ≡ Converted.Refused z
                → ConvertsArgs tree text (args_steps tree text s₀ c opening) (args_amount (args_under (args_at tree text opening)) (args_values (args_at tree text opening))) (args_values (args_at tree text opening)) c l₀ s₀
                (ConvertedArgs.Refused z) l₁ s₁
            unfolding convert_args
            turn-stop {z} u = record {
              meets = meets-refused (texts_of tree text) (n.meets.long ∙ i.long) (i.stops z.kind z.place
                  (subst (λ (y : Args). StopsIn (texts_of tree text) (convert_args (program tree text) (all_keys tree text) y T) at.counters l z.kind z.place) (sym found.opens)
                  (stop-first (texts_of tree text) (λ (o : Ir.Operand). args_in tree text T (word_of tree w B) >>= (λ os. pure (o ∷ os)))
                  (subst (λ (y : Def.Scope). StopsIn (texts_of tree text) (convert_expr (program tree text) (all_keys tree text) (expr_at tree text v) y) at.counters l z.kind z.place) scope_now
                  (n.meets.stops z (ap converted_of u))))));
              operands = λ count k h. let y : ◌≡◌ {A = ℕ} 0 1 = cc in absurd (omega arith);
              stays = value_stays;
              names = names_then i.names n.names;
            }

            module _ {o : Operand} {k : Counters} (u : r ≡ Converted.Is o k) (ty : ConvertsTyped expr_types at v tree text s r s₁) {s₂ : List ℕ} (put : s₂ ≡ splice s₁ (stack_entry_at (records tree) at.operands) (operand_bytes (operand_of o)))
                (back : operand_at s₂ (records tree) at.operands ≡ operand_of o) where
              abbrev pushed : Converter
              pushed = record { scope = at.scope; counters = k; operands = at.operands + 1; turn = at.turn }

              put_stays : (names operands : ℕ) → operands ≤ at.operands → names ≤ records tree → Stays tree names operands s₁ s₂
              put_stays names operands h m =
                  operand-stays tree names operands s₁ s₂ (operand_bytes (operand_of o)) (stack_entry_at (records tree) at.operands) put (operand-long (operand_of o))
                  (omega (arith, n.stays.long, i.converting.ready.keyed.listed.room)) at.operands refl h value_room

              names_in : at.scope.names ≤ records tree
              names_in = omega (arith, f.names, names_same)

              after : Stays tree at.scope.names at.operands s s₂
              after = stays_then (omega arith) (omega arith) n.stays (put_stays at.scope.names at.operands (omega arith) names_in)

              pushed_converting : Converting tree text l₁ s₂ pushed
              pushed_converting =
                  let h = converting_after n u i.converting in record {
                    ready = ready-stays tree (put_stays at.scope.names at.operands (omega arith) names_in) text at.scope (omega arith) h.ready;
                    function = h.function;
                    loop = h.loop;
                    records_are = h.records_are;
                    room = h.room;
                  }

              stack_same : stack_at s₂ (records tree) c.operands (suc i.count) ≡ stack_at s (records tree) c.operands i.count ++ (operand_of o ∷ [])
              stack_same =
                  stack-last s₂ (records tree) c.operands i.count
                  ∙ ap (λ (z : List Ir.Operand). z ++ (operand_at s₂ (records tree) (c.operands + i.count) ∷ [])) (stack-kept tree after i.count c.operands (omega (arith, i.operands)) (omega (arith, i.operands, value_room)))
                  ∙ ap (λ (z : Ir.Operand). stack_at s (records tree) c.operands i.count ++ (z ∷ [])) (ap (operand_at s₂ (records tree)) (sym i.operands) ∙ back)

              pushed_typed : StackIn tree s₂ c.operands (suc i.count)
              pushed_typed j a b = tested (ltb j (c.operands + i.count))
                  (λ h. let low : j < c.operands + i.count = ltb-true j (c.operands + i.count) h in
                  subst (λ (z : Ir.Operand). OperandIn tree z) (sym (operand-kept tree after j (omega (arith, i.operands)) (omega (arith, i.operands, value_room)))) (i.typed j a low))
                  λ h. let ej : j ≡ at.operands = omega (arith, i.operands, ltb-false j (c.operands + i.count) h) in
                  subst (λ (z : ℕ). OperandIn tree (operand_at s₂ (records tree) z)) (sym ej) (subst (λ (z : Ir.Operand). OperandIn tree z) (sym back) (n.operand o k u))

              value-next : NextIn (texts_of tree text) (convert_expr (program tree text) (all_keys tree text) (expr_at tree text v) T) at.counters l (operand_of o) k l₁
              value-next = subst (λ (y : Def.Scope). NextIn (texts_of tree text) (convert_expr (program tree text) (all_keys tree text) (expr_at tree text v) y) at.counters l (operand_of o) k l₁) scope_now (converted-next n u).next

              pushed_done : (os : List Ir.Operand) (k' : Counters) (l' : List ℕ) → NextIn (texts_of tree text) (args_in tree text T (word_of tree w B)) k l₁ os k' l'
                  → NextIn (texts_of tree text) (args_in tree text T opening) c.counters l₀ (stack_at s₂ (records tree) c.operands (suc i.count) ++ os) k' l'
              unfolding convert_args
              pushed_done os k' l' h =
                  subst (λ (z : List Ir.Operand). NextIn (texts_of tree text) (args_in tree text T opening) c.counters l₀ z k' l')
                  (sym (ap (λ (z : List Ir.Operand). z ++ os) stack_same ∙ append_assoc (stack_at s (records tree) c.operands i.count) (operand_of o ∷ []) os))
                  (i.done (operand_of o ∷ os) k' l'
                  (subst (λ (y : Args). NextIn (texts_of tree text) (convert_args (program tree text) (all_keys tree text) y T) at.counters l (operand_of o ∷ os) k' l') (sym found.opens)
                  (then_in (texts_of tree text) (λ (z : Ir.Operand). args_in tree text T (word_of tree w B) >>= (λ os. pure (z ∷ os))) value-next
                  (then_in (texts_of tree text) (λ (zs : List Ir.Operand). pure (operand_of o ∷ zs)) h (next_in (texts_of tree text) (pure-next (operand_of o ∷ os) k' l' h.room))))))

              pushed_stops : (d : ConvertErrorKind) (b : ℕ) → StopsIn (texts_of tree text) (args_in tree text T (word_of tree w B)) k l₁ d b → StopsIn (texts_of tree text) (args_in tree text T opening) c.counters l₀ d b
              unfolding convert_args
              pushed_stops d b h = i.stops d b
                  (subst (λ (y : Args). StopsIn (texts_of tree text) (convert_args (program tree text) (all_keys tree text) y T) at.counters l d b) (sym found.opens)
                  (then_stop (texts_of tree text) (λ (z : Ir.Operand). args_in tree text T (word_of tree w B) >>= (λ os. pure (z ∷ os))) value-next
                  (stop-first (texts_of tree text) (λ (zs : List Ir.Operand). pure (operand_of o ∷ zs)) h)))

              -- what was typed now, with this one
              value-typed : Typed tree text T c.turn s (expr_types tree text v) s₁
              value-typed = rw (← scope_now, ← i.turn) (ty o k u)

              pushed_turn : TypedIn tree text c s₀ (i.earlier ++ expr_types tree text v) s₂
              pushed_turn = typed_stay c (typed-both tree text T c.turn s₀ s s₁ i.earlier (expr_types tree text v) i.earlier-typed value-typed)
                  (turns-entry tree s₁ s₂ (operand_bytes (operand_of o)) (stack_entry_at (records tree) at.operands) put (operand-long (operand_of o)) (omega arith) (omega (arith, value_room)) (omega (arith, push-room)))

              pushed_is : (i.earlier ++ expr_types tree text v) ++ args_types tree text (word_of tree w B) ≡ args_types tree text opening
              unfolding typed_args
              pushed_is =
                  append_assoc i.earlier (expr_types tree text v) (args_types tree text (word_of tree w B))
                  ∙ ap (λ (z : List ℕ). i.earlier ++ z) (sym (ap typed_args found.opens)) ∙ i.earlier-is

              -- a value is pushed
              pub turn-value : {l' s' : List ℕ} {at' : Converter} → l' ≡ l₁ → s' ≡ s₂ → at' ≡ pushed → (b : ℕ) → b ≡ word_of tree w B
                  → ArgsLeft tree text l₀ s₀ c e l' s' b at'
              turn-value {l'} {s'} {at'} el es ea b eb =
                  subst (λ (z : List ℕ). ArgsLeft tree text l₀ s₀ c e z s' b at') (sym el)
                  (subst (λ (z : List ℕ). ArgsLeft tree text l₀ s₀ c e l₁ z b at') (sym es)
                  (subst (λ (z : Converter). ArgsLeft tree text l₀ s₀ c e l₁ s₂ b z) (sym ea)
                  (subst (λ (z : ℕ). ArgsLeft tree text l₀ s₀ c e l₁ s₂ z pushed) (sym eb) (record {
                    count = suc i.count;
                    below = i.below + under (expr_at tree text v);
                    scope = i.scope;
                    operands = omega (arith, i.operands);
                    converting = pushed_converting;
                    cells = next-list tree text good Arguments w (word_of tree w B) i.cells more refl;
                    low = omega (arith, i.low, next-less (word_of tree w B) refl);
                    long = n.meets.long ∙ i.long;
                    stays = stays_then (omega (arith, names_same)) (omega (arith, i.operands)) i.stays after;
                    names = names_then i.names (names_then n.names (names_of (put_stays (records tree) 0 (omega arith) (omega arith))));
                    typed = pushed_typed;
                    below-is = omega (arith, i.below-is, under-is);
                    count-is = omega (arith, i.count-is, values_is);
                    turn = i.turn;
                    earlier = i.earlier ++ expr_types tree text v;
                    earlier-typed = pushed_turn;
                    earlier-is = pushed_is;
                    spent = omega (arith, i.spent, (converted-next n u).spent);
                    done = pushed_done;
                    stops = pushed_stops;
                  }))))
