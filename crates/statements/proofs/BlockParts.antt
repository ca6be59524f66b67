-- An If, a While and a For around their blocks, as the code meets them: a head or a block that refuses, and the whole.
-- The parts in a row are the definitions; the records below the statement pay for head, blocks and end. Assumes nothing.
use mathlib.Core.Path.{◌≡◌, refl, sym, ap, ◌∙◌, subst}
use mathlib.Core.Bool.{Bool, true, false}
use mathlib.Core.List.{List}
use mathlib.Core.Option.{Option, none, some}
use Prim.Native.Nat.{ℕ, ◌+◌, ◌≤◌, ◌<◌}
use native.Mathlib.Omega.{arith}
use Rattle.laws.specs.Fix.{pick}
use Rattle.laws.proofs.Tests.{tested}
use Rattle.records.specs.declared.convert_error.ConvertError.{ConvertError}
use Rattle.records.specs.Words.{detail_of, word_of, A, B, C, D}
use Rattle.records.specs.Good.{Good}
use Rattle.records.proofs.GoodLaws.{if-b, if-c, while_b, for_d}
use Rattle.syntax.specs.Syntax.{Ty, TInt, TFloat, TBool, TChar, TByte, TAddress, TArray, TCustom, TNull, Text, Expr, Program}
use Rattle.syntax.specs.Count.{under, expr_records, statement_records}
use Rattle.syntax.specs.Decode.{program, text_of, bit, reference}
use Rattle.syntax.specs.Places.{IsKind, FunctionAt, BodyAt, expr_at, statement_at}
use Rattle.syntax.proofs.Records.{statement_if, statement_if_else, statement_while, statement_for}
use Rattle.syntax.proofs.Lists.{left}
use Rattle.conversion.specs.ConvertError.{ConvertErrorKind, NotInteger, AssignToConstant}
use Rattle.conversion.specs.Ir.{VarId, M, ◌>>=◌, ◌>>◌, bind, pure, fail, lift, new_var, condition_end}
use Rattle.conversion.specs.Scope as Def
use Rattle.conversion.specs.Scope.{Variable, declare, find_variable, with_loop}
use Rattle.conversion.specs.Types.{on_int}
use Rattle.conversion.specs.Expressions.{Functions}
use Rattle.conversion.specs.Statements.{convert_if, convert_if_else, convert_for_loop, for_loop, for_int, for_known}
use Rattle.conversion.proofs.MonadLaws.{regroup, seq_is, pure-first}
use Rattle.ir.specs.declared.structs.Counters.{Counters}
use Rattle.ir.specs.Amounts.{Amount, amount, both}
use Rattle.ir.proofs.StepLaws.{next_in, stop-first}
use Rattle.scope.specs.declared.Scope.{Scope}
use Rattle.scope.specs.Open.{scope_at, within}
use Rattle.keys.specs.Keys.{all_keys}
use Rattle.statements.specs.Lent.{Converter, Stated, Finished}
use Rattle.statements.specs.Meets.{StepAnswer, gave, Adds, AddsIn, Meets, texts_of}
use Rattle.statements.specs.Converting.{Converting, with_counters, RoomFor, BehindAfforded, BlockAfforded, StaysFor, block_amount, head_amount, for_head_amount, LoopIn}
use Rattle.statements.specs.Parts.{place_label, if_head, if_middle, loop_back, for_head, for_variable, for_turns, for_bounds, for_begin, for_test, known_variable}
use Rattle.statements.specs.Answers.{stated_of, block_steps, if_steps, while_steps, for_steps, if_head_steps, while_head_steps, for_head_steps, FinishesAs, HeadAs, ForHeadAs, bounds_under, BlockAs, Finishes}
use Rattle.statements.proofs.MeetLaws.{adds_in, meets-refused, meets-same, meets-most, meets_then}
use Rattle.statements.proofs.StayLaws.{stays_refl, stays_then, converting_next, record_counted}
use Rattle.statements.proofs.StatedLaws.{finished-next, finished-stop, finished_converting, scope_later, seq_then, seq_not}
use Rattle.statements.proofs.PartLaws.{if_parts, if_else_parts, while_parts, for_parts}
use Rattle.statements.proofs.BlockLaws.{placed, body_in, body_size, block_as, block_stop, block_then_lem, end_meets, opened_low, opened_at, inner_converting, inner-names, looped_stop, looped_then, looped_room}

-- ---- While

module _ {tree text l s : List ℕ} {c : Converter} {r : ℕ} (p : Converting tree text l s c) (f : BehindAfforded tree text c r) (x : IsKind tree 20 r) where
  abbrev good : Good tree text
  good = p.ready.keyed.good

  abbrev T : Def.Scope
  T = scope_at tree text s c.scope

  abbrev rest : M Def.Scope
  rest = body_in tree text (word_of tree r B) (with_loop r T) >> (loop_back r >> pure T)

  while_count : statement_records (statement_at tree text r) ≡ 2 + (under (expr_at tree text (word_of tree r A)) + body_size tree text (word_of tree r B))
  unfolding statement_records expr_records
  while_count = ap statement_records (statement_while tree text good r x.below x.kind) ∙ omega arith

  while_rows : while_head_steps tree text s c r >> rest ≡ while_steps tree text s c r
  while_rows = sym (while_parts (program tree text) (all_keys tree text) r (expr_at tree text (word_of tree r A)) T (body_in tree text (word_of tree r B) (with_loop r T)))

  pub while_list : {v : ℕ} → v ≡ word_of tree r B → (left v ≤ r) × BodyAt tree v
  while_list {v} e =
      let at = while_b tree text good r x.below x.kind in
      (opened_low tree text good r x.below v (word_of tree r B) e at, opened_at tree text good r x.below v (word_of tree r B) e at)

  module _ {a : Finished} {l₁ s₁ : List ℕ} (h : HeadAs while_head_steps c r tree text l s a l₁ s₁) where
    pub while_stop : {z : ConvertError} → a ≡ Finished.Refused z → FinishesAs while_steps c r tree text l s (Finished.Refused z) l₁ s₁
    while_stop q = record { meets = meets-same (texts_of tree text) while_rows (seq_not (texts_of tree text) rest h.meets.long (finished-stop h q)); stays = h.stays }

    module _ {k : Counters} {inner : Scope} {v : ℕ} (q : a ≡ Finished.Done k) (e : inner ≡ within r c.scope) (ev : v ≡ word_of tree r B) where
      pub while_converting : Converting tree text l₁ s₁ (placed c inner k)
      while_converting = inner_converting c (finished_converting h q p) x.below e

      while_names : inner.names ≡ c.scope.names
      while_names = inner-names c (finished_converting h q p) x.below e

      pub while_afforded : BlockAfforded tree text (placed c inner k) v
      while_afforded = omega (arith, f, while_count, (finished-next h q).spent, while_names, ap (body_size tree text) ev)

      module _ {b : Finished} {l₂ s₂ : List ℕ} (g : BlockAs block_steps (placed c inner k) v tree text l₁ s₁ b l₂ s₂) where
        while_stays : StaysFor tree c s s₂
        while_stays = stays_then (omega (arith, while_names)) (omega arith) h.stays g.stays

        pub while_body-stop : {z : ConvertError} → b ≡ Finished.Refused z → FinishesAs while_steps c r tree text l s (Finished.Refused z) l₂ s₂
        while_body-stop u = record {
          meets = meets-same (texts_of tree text) while_rows (meets-refused (texts_of tree text) (g.meets.long ∙ h.meets.long)
              ((seq_then {n₂ = amount 0 0 0 0 0} (texts_of tree text) rest h.meets.long (finished-next h q) (looped_stop c (finished_converting h q p) x.below e ev (scope_later p h.stays) g T u)).stops _ refl));
          stays = while_stays;
        }

        module _ {k₁ : Counters} (u : b ≡ Finished.Done k₁) where
          pub while_room : RoomFor k₁ l₂ (amount 2 0 2 0 0) × (r < k₁.records)
          while_room =
              let j = looped_room c (finished_converting h q p) x.below e ev (scope_later p h.stays) g u in (
                record { room = j.next.room; affords = omega (arith, f.tables, while_count, (finished-next h q).spent, j.spent) },
                record_counted p x (j.spent.records ∙ (finished-next h q).spent.records),
              )

          pub while_next : {k₂ : Counters} {l₃ : List ℕ} → Adds (loop_back r) (amount 2 0 2 0 0) k₁ l₂ tt k₂ l₃ → FinishesAs while_steps c r tree text l s (Finished.Done k₂) l₃ s₂
          while_next i = record {
            meets = meets-most (texts_of tree text) (meets-same (texts_of tree text) while_rows (seq_then (texts_of tree text) rest h.meets.long (finished-next h q)
                (looped_then c (finished_converting h q p) x.below e ev (scope_later p h.stays) g T u i))) (omega (arith, while_count));
            stays = while_stays;
          }

-- ---- For: the definition as a head and what follows it

fail-first : {X Y : Type 0} (k : ConvertErrorKind) (r : ℕ) (f : X → M Y) → fail k r >>= f ≡ fail k r
unfolding fail ◌>>=◌ bind
fail-first k r f = refl

on_int_lem : {X Y : Type 0} (t : Ty) (k : ConvertErrorKind) (r : ℕ) (f : Bool → Bool → M Y) (g : Bool → Bool → M X) (z : M Y)
    → ((a b : Bool) → f a b ≡ g a b >> z) → on_int t (fail k r) f ≡ on_int t (fail k r) g >> z
unfolding on_int
on_int_lem (TInt a b) k r f g z h = h a b
on_int_lem (TFloat a) k r f g z h = simp (seq_is, fail-first)
on_int_lem TBool k r f g z h = simp (seq_is, fail-first)
on_int_lem TChar k r f g z h = simp (seq_is, fail-first)
on_int_lem TByte k r f g z h = simp (seq_is, fail-first)
on_int_lem (TAddress y) k r f g z h = simp (seq_is, fail-first)
on_int_lem (TArray y n) k r f g z h = simp (seq_is, fail-first)
on_int_lem (TCustom t) k r f g z h = simp (seq_is, fail-first)
on_int_lem TNull k r f g z h = simp (seq_is, fail-first)

module _ (P : Program) (F : Functions) (r : ℕ) (from until : Expr) (sc : Def.Scope) where
  int_parts : (y : VarId) (body : M Def.Scope) → for_int P F r y from until sc body ≡ for_turns P F r y from until sc >> (body >> (loop_back r >> pure sc))
  unfolding for_int for_turns
  int_parts y body = on_int_lem (P.type_of y.ty) NotInteger r (λ a b. for_loop P F r y a b from until sc body)
      (λ a b. for_bounds P F y.ty from until sc >> (for_begin P F r y a b from sc >> for_test P F r y until sc)) (body >> (loop_back r >> pure sc))
      (λ a b. for_parts P F r y a b from until sc body ∙ simp (seq_is, regroup))

  -- behind the variable
  abbrev turned : (Def.Scope → M Def.Scope) → M (VarId × Def.Scope) → M Def.Scope
  turned body m = (m >>= (λ v. for_turns P F r v.0 from until sc >> pure v.1)) >>= (λ sc1. body sc1 >> (loop_back r >> pure sc))

  known_parts : (o : Option Variable) (body : Def.Scope → M Def.Scope) → for_known P F r o from until sc (body sc) ≡ turned body (known_variable P F r o sc)
  unfolding for_known known_variable pick
  known_parts none body = simp fail-first
  known_parts (some v) body = go v.constant
    where
      go : (b : Bool) → pick b (fail AssignToConstant r) (for_int P F r v.var_id from until sc (body sc))
          ≡ turned body (pick b (fail AssignToConstant r) (pure (v.var_id, sc)))
      go true = simp fail-first
      go false = int_parts v.var_id (body sc) ∙ simp (seq_is, regroup, pure-first)

  declared_parts : (n : Text) (y : ℕ) (body : Def.Scope → M Def.Scope)
      → new_var y >>= (λ v. lift (declare (record { name = n; constant = false; var_id = v }) r sc) >>= (λ sc1. for_int P F r v from until sc (body sc1)))
      ≡ turned body (new_var y >>= (λ v. lift (declare (record { name = n; constant = false; var_id = v }) r sc) >>= (λ sc1. pure (v, sc1))))
  declared_parts n y body = simp (int_parts, seq_is, regroup, pure-first)

  for_rows : (n : Text) (y : Option ℕ) (body : Def.Scope → M Def.Scope)
      → for_head P F r n y from until sc >>= (λ sc1. body sc1 >> (loop_back r >> pure sc)) ≡ convert_for_loop P F r n y from until sc body
  unfolding convert_for_loop for_head for_variable
  for_rows n (some y) body = sym (declared_parts n y body)
  for_rows n none body = sym (known_parts (find_variable n sc) body)

module _ {tree text l s : List ℕ} {c : Converter} {r : ℕ} (p : Converting tree text l s c) (f : BehindAfforded tree text c r) (x : IsKind tree 21 r) where
  abbrev for_good : Good tree text
  for_good = p.ready.keyed.good

  abbrev S : Def.Scope
  S = scope_at tree text s c.scope

  abbrev behind : Def.Scope → M Def.Scope
  behind sc1 = body_in tree text (word_of tree r D) (with_loop r sc1) >> (loop_back r >> pure S)

  for_count : statement_records (statement_at tree text r) ≡ 4 + (bounds_under tree text r + body_size tree text (word_of tree r D))
  unfolding statement_records expr_records
  for_count = ap statement_records (statement_for tree text for_good r x.below x.kind) ∙ omega arith

  for_steps_lem : for_head_steps tree text s c r >>= behind ≡ for_steps tree text s c r
  for_steps_lem = for_rows (program tree text) (all_keys tree text) r (expr_at tree text (word_of tree r B)) (expr_at tree text (word_of tree r C)) S
      (text_of tree text (word_of tree r A) A) (reference (word_of tree (word_of tree r A) C)) (λ sc1. body_in tree text (word_of tree r D) (with_loop r sc1))

  pub for_list : {v : ℕ} → v ≡ word_of tree r D → (left v ≤ r) × BodyAt tree v
  for_list {v} e =
      let at = for_d tree text for_good r x.below x.kind in
      (opened_low tree text for_good r x.below v (word_of tree r D) e at, opened_at tree text for_good r x.below v (word_of tree r D) e at)

  module _ {a : Stated} {l₁ s₁ : List ℕ} (h : ForHeadAs for_head_steps c r tree text l s a l₁ s₁) where
    pub for_stop : {z : ConvertError} → a ≡ Stated.Refused z → FinishesAs for_steps c r tree text l s (Finished.Refused z) l₁ s₁
    for_stop {z} q = record {
      meets = meets-same (texts_of tree text) for_steps_lem (meets-refused (texts_of tree text) h.meets.long (stop-first (texts_of tree text) behind (h.meets.stops z (ap (stated_of tree text s₁) q))));
      stays = h.stays;
    }

    module _ {sc : Scope} {k : Counters} (q : a ≡ Stated.Done sc k) where
      headed : AddsIn (texts_of tree text) (for_head_steps tree text s c r) (both (amount 0 1 0 0 0) (for_head_amount (bounds_under tree text r))) c.counters l (scope_at tree text s₁ sc) k l₁
      headed = h.meets.gives (scope_at tree text s₁ sc) k (ap (stated_of tree text s₁) q)

      headed_converting : Converting tree text l₁ s₁ (placed c sc k)
      headed_converting =
          let le = h.leaves sc k q in record {
            ready = le.ready;
            function = subst (λ (z : ℕ). FunctionAt tree z) (sym le.function) p.function;
            loop = subst (LoopIn tree) (sym le.inner) p.loop;
            records_are = headed.next.records ∙ p.records_are;
            room = headed.next.room;
          }

      module _ {inner : Scope} {v : ℕ} (e : inner ≡ within r sc) (ev : v ≡ word_of tree r D) where
        pub for_converting : Converting tree text l₁ s₁ (placed c inner k)
        for_converting = inner_converting c headed_converting x.below e

        for_names : inner.names ≡ sc.names
        for_names = inner-names c headed_converting x.below e

        pub for_afforded : BlockAfforded tree text (placed c inner k) v
        for_afforded = omega (arith, f, for_count, headed.spent, for_names, (h.leaves sc k q).most, ap (body_size tree text) ev)

        module _ {b : Finished} {l₂ s₂ : List ℕ} (g : BlockAs block_steps (placed c inner k) v tree text l₁ s₁ b l₂ s₂) where
          for_stays : StaysFor tree c s s₂
          for_stays = stays_then (omega (arith, for_names, (h.leaves sc k q).least)) (omega arith) h.stays g.stays

          pub for_body-stop : {z : ConvertError} → b ≡ Finished.Refused z → FinishesAs for_steps c r tree text l s (Finished.Refused z) l₂ s₂
          for_body-stop u = record {
            meets = meets-same (texts_of tree text) for_steps_lem (meets-refused (texts_of tree text) (g.meets.long ∙ h.meets.long)
                ((meets_then {n₂ = amount 0 0 0 0 0} (texts_of tree text) behind h.meets.long headed (looped_stop c headed_converting x.below e ev refl g S u)).stops _ refl));
            stays = for_stays;
          }

          module _ {k₁ : Counters} (u : b ≡ Finished.Done k₁) where
            pub for_room : RoomFor k₁ l₂ (amount 2 0 2 0 0) × (r < k₁.records)
            for_room =
                let j = looped_room c headed_converting x.below e ev refl g u in (
                  record { room = j.next.room; affords = omega (arith, f.tables, for_count, headed.spent, j.spent) },
                  record_counted p x (j.spent.records ∙ headed.spent.records),
                )

            pub for_next : {k₂ : Counters} {l₃ : List ℕ} → Adds (loop_back r) (amount 2 0 2 0 0) k₁ l₂ tt k₂ l₃ → FinishesAs for_steps c r tree text l s (Finished.Done k₂) l₃ s₂
            for_next i = record {
              meets = meets-most (texts_of tree text) (meets-same (texts_of tree text) for_steps_lem (meets_then (texts_of tree text) behind h.meets.long headed
                  (looped_then c headed_converting x.below e ev refl g S u i))) (omega (arith, for_count));
              stays = for_stays;
            }

-- ---- If

module _ (P : Program) (F : Functions) (r : ℕ) (e : Expr) (sc : Def.Scope) (then other : M Def.Scope) where
  abbrev if_rest : Bool → M Def.Scope
  if_rest b = pick b (if_middle r >> (other >> (place_label (condition_end r) >> pure sc))) (place_label (condition_end r) >> pure sc)

  either-rows : (b : Bool) → if_head P F b r e sc >> (then >> if_rest b) ≡ pick b (convert_if_else P F r e sc then other) (convert_if P F r e sc then)
  unfolding pick
  either-rows true = sym (if_else_parts P F r e sc then other)
  either-rows false = sym (if_parts P F r e sc then)

module _ {tree text l s : List ℕ} {c : Converter} {r : ℕ} (p : Converting tree text l s c) (f : BehindAfforded tree text c r) (x : IsKind tree 19 r) where
  abbrev if-good : Good tree text
  if-good = p.ready.keyed.good

  abbrev Q : Def.Scope
  Q = scope_at tree text s c.scope

  abbrev otherwise : Bool
  otherwise = bit 1 (detail_of tree r)

  abbrev then : M Def.Scope
  then = body_in tree text (word_of tree r B) Q

  abbrev other : M Def.Scope
  other = body_in tree text (word_of tree r C) Q

  abbrev last : Bool → M Def.Scope
  last b = if_rest (program tree text) (all_keys tree text) r (expr_at tree text (word_of tree r A)) Q then other b

  if-count : otherwise ≡ false → statement_records (statement_at tree text r) ≡ 2 + (under (expr_at tree text (word_of tree r A)) + body_size tree text (word_of tree r B))
  unfolding statement_records expr_records
  if-count b = ap statement_records (statement_if tree text if-good r x.below x.kind b) ∙ omega arith

  else_count : otherwise ≡ true
      → statement_records (statement_at tree text r) ≡ 2 + (under (expr_at tree text (word_of tree r A)) + (body_size tree text (word_of tree r B) + body_size tree text (word_of tree r C)))
  unfolding statement_records expr_records
  else_count b = ap statement_records (statement_if_else tree text if-good r x.below x.kind b) ∙ omega arith

  least-count : 2 + (under (expr_at tree text (word_of tree r A)) + body_size tree text (word_of tree r B)) ≤ statement_records (statement_at tree text r)
  least-count = tested otherwise (λ b. omega (arith, else_count b)) (λ b. omega (arith, if-count b))

  if-rows : if_head_steps tree text s c r >> (then >> last otherwise) ≡ if_steps tree text s c r
  if-rows = either-rows (program tree text) (all_keys tree text) r (expr_at tree text (word_of tree r A)) Q then other otherwise

  pub then_list : {v : ℕ} → v ≡ word_of tree r B → (left v ≤ r) × BodyAt tree v
  then_list {v} e =
      let at = if-b tree text if-good r x.below x.kind in
      (opened_low tree text if-good r x.below v (word_of tree r B) e at, opened_at tree text if-good r x.below v (word_of tree r B) e at)

  pub other-list : {v : ℕ} → v ≡ word_of tree r C → (left v ≤ r) × BodyAt tree v
  other-list {v} e =
      let at = if-c tree text if-good r x.below x.kind in
      (opened_low tree text if-good r x.below v (word_of tree r C) e at, opened_at tree text if-good r x.below v (word_of tree r C) e at)

  module _ {a : Finished} {l₁ s₁ : List ℕ} (h : HeadAs if_head_steps c r tree text l s a l₁ s₁) where
    pub if-stop : {z : ConvertError} → a ≡ Finished.Refused z → FinishesAs if_steps c r tree text l s (Finished.Refused z) l₁ s₁
    if-stop q = record { meets = meets-same (texts_of tree text) if-rows (seq_not (texts_of tree text) (then >> last otherwise) h.meets.long (finished-stop h q)); stays = h.stays }

    module _ {k : Counters} {v : ℕ} (q : a ≡ Finished.Done k) (ev : v ≡ word_of tree r B) where
      pub then_afforded : BlockAfforded tree text (with_counters c k) v
      then_afforded = omega (arith, f, least-count, (finished-next h q).spent, ap (body_size tree text) ev)

      module _ {b : Finished} {l₂ s₂ : List ℕ} (g : BlockAs block_steps (with_counters c k) v tree text l₁ s₁ b l₂ s₂) where
        first : Finishes tree text (then >> pure (tt {0})) tt (block_amount (body_size tree text (word_of tree r B))) (with_counters c k) l₁ s₁ b l₂ s₂
        first = block_as ev (scope_later p h.stays) g

        then_stays : StaysFor tree c s s₂
        then_stays = stays_then (omega arith) (omega arith) h.stays g.stays

        -- what follows the head and the first block
        behind_then : {n : Amount} {k₁ : Counters} {l' : List ℕ} {y : StepAnswer Def.Scope} → b ≡ Finished.Done k₁ → Meets (texts_of tree text) (last otherwise) n k₁ l₂ l' y
            → Meets (texts_of tree text) (if_steps tree text s c r) (both (head_amount (under (expr_at tree text (word_of tree r A)))) (both (block_amount (body_size tree text (word_of tree r B))) n)) c.counters l l' y
        behind_then u i = meets-same (texts_of tree text) if-rows (seq_then (texts_of tree text) (then >> last otherwise) h.meets.long (finished-next h q) (block_then_lem then first (last otherwise) u i))

        pub then_stop : {z : ConvertError} → b ≡ Finished.Refused z → FinishesAs if_steps c r tree text l s (Finished.Refused z) l₂ s₂
        then_stop u = record {
          meets = meets-refused (texts_of tree text) (g.meets.long ∙ h.meets.long) ((meets-same (texts_of tree text) if-rows
              (seq_then {n₂ = amount 0 0 0 0 0} (texts_of tree text) (then >> last otherwise) h.meets.long (finished-next h q) (block_stop then first (last otherwise) u))).stops _ refl);
          stays = then_stays;
        }

        module _ {k₁ : Counters} (u : b ≡ Finished.Done k₁) {has : Bool} (eh : has ≡ otherwise) where
          then_records : k₁.records ≡ c.counters.records
          then_records = (finished-next first u).spent.records ∙ (finished-next h q).spent.records

          module _ (none : has ≡ false) where
            pub if-room : RoomFor k₁ l₂ (amount 1 0 1 0 0) × (r < k₁.records)
            if-room = (
              record { room = (finished-next first u).next.room; affords = omega (arith, f.tables, if-count (sym eh ∙ none), (finished-next h q).spent, (finished-next first u).spent) },
              record_counted p x then_records,
            )

            pub if-next : {k₂ : Counters} {l₃ : List ℕ} → Adds (place_label (condition_end r)) (amount 1 0 1 0 0) k₁ l₂ tt k₂ l₃ → FinishesAs if_steps c r tree text l s (Finished.Done k₂) l₃ s₂
            unfolding pick
            if-next {k₂} {l₃} i = record {
              meets = meets-most (texts_of tree text) (behind_then u
                  (subst (λ (y : Bool). Meets (texts_of tree text) (last y) (amount 1 0 1 0 0) k₁ l₂ l₃ (gave Q k₂)) (sym none ∙ eh) (end_meets (texts_of tree text) Q i))) (omega (arith, if-count (sym eh ∙ none)));
              stays = then_stays;
            }

          module _ (some : has ≡ true) where
            pub middle_room : RoomFor k₁ l₂ (amount 2 0 2 0 0) × (r < k₁.records)
            middle_room = (
              record { room = (finished-next first u).next.room; affords = omega (arith, f.tables, else_count (sym eh ∙ some), (finished-next h q).spent, (finished-next first u).spent) },
              record_counted p x then_records,
            )

            module _ {k₂ : Counters} {l₃ : List ℕ} {o : ℕ} (i : Adds (if_middle r) (amount 2 0 2 0 0) k₁ l₂ tt k₂ l₃) (eo : o ≡ word_of tree r C) where
              pub other_converting : Converting tree text l₃ s₂ (with_counters c k₂)
              other_converting =
                  converting_next (finished_converting g u (finished_converting h q p)) (next_in (texts_of tree text) i.next) (stays_refl tree c.scope.names c.operands s₂)

              pub other_afforded : BlockAfforded tree text (with_counters c k₂) o
              other_afforded =
                  omega (arith, f, else_count (sym eh ∙ some), (finished-next h q).spent, (finished-next first u).spent, i.spent, ap (body_size tree text) eo)

              module _ {d : Finished} {l₄ s₃ : List ℕ} (j : BlockAs block_steps (with_counters c k₂) o tree text l₃ s₂ d l₄ s₃) where
                second : Finishes tree text (other >> pure (tt {0})) tt (block_amount (body_size tree text (word_of tree r C))) (with_counters c k₂) l₃ s₂ d l₄ s₃
                second = block_as eo (scope_later p then_stays) j

                other-stays : StaysFor tree c s s₃
                other-stays = stays_then (omega arith) (omega arith) then_stays j.stays

                behind-other : {n : Amount} {l' : List ℕ} {y : StepAnswer Def.Scope} → Meets (texts_of tree text) (other >> (place_label (condition_end r) >> pure Q)) n k₂ l₃ l' y
                    → Meets (texts_of tree text) (last otherwise) (both (amount 2 0 2 0 0) n) k₁ l₂ l' y
                unfolding pick
                behind-other {n} {l'} {y} m = subst (λ (w : Bool). Meets (texts_of tree text) (last w) (both (amount 2 0 2 0 0) n) k₁ l₂ l' y) (sym some ∙ eh)
                    (seq_then (texts_of tree text) (other >> (place_label (condition_end r) >> pure Q)) i.long (adds_in (texts_of tree text) i) m)

                pub other-stop : {z : ConvertError} → d ≡ Finished.Refused z → FinishesAs if_steps c r tree text l s (Finished.Refused z) l₄ s₃
                other-stop w = record {
                  meets = meets-refused (texts_of tree text) (j.meets.long ∙ i.long ∙ g.meets.long ∙ h.meets.long)
                      ((behind_then u (behind-other {n = amount 0 0 0 0 0} (block_stop other second (place_label (condition_end r) >> pure Q) w))).stops _ refl);
                  stays = other-stays;
                }

                module _ {k₃ : Counters} (w : d ≡ Finished.Done k₃) where
                  pub other-room : RoomFor k₃ l₄ (amount 1 0 1 0 0) × (r < k₃.records)
                  other-room = (
                    record {
                      room = (finished-next second w).next.room;
                      affords = omega (arith, f.tables, else_count (sym eh ∙ some), (finished-next h q).spent, (finished-next first u).spent, i.spent, (finished-next second w).spent);
                    },
                    record_counted p x ((finished-next second w).spent.records ∙ i.spent.records ∙ then_records),
                  )

                  pub if_else_next : {k₄ : Counters} {l₅ : List ℕ} → Adds (place_label (condition_end r)) (amount 1 0 1 0 0) k₃ l₄ tt k₄ l₅
                      → FinishesAs if_steps c r tree text l s (Finished.Done k₄) l₅ s₃
                  if_else_next m = record {
                    meets = meets-most (texts_of tree text) (behind_then u (behind-other (block_then_lem other second (place_label (condition_end r) >> pure Q) w (end_meets (texts_of tree text) Q m)))) (omega (arith, else_count (sym eh ∙ some)));
                    stays = other-stays;
                  }
