-- A statement is its comment and then what its kind does; an If, While or For is what stands around its blocks, in a row with them.
-- By the kinds of records and the laws of parts; the records below a statement pay for its parts. Assumes nothing.
use mathlib.Core.Path.{◌≡◌, sym, ap, ◌∙◌, subst}
use mathlib.Core.Logic.{◌⊎◌, inl, inr}
use mathlib.Core.Bool.{true, false}
use mathlib.Core.List.{List}
use Prim.Native.Nat.{ℕ, zero, suc, ◌+◌, ◌-◌, ◌≤◌, ◌<◌}
use native.Mathlib.Omega.{arith}
use lib.Dec.{eqb}
use lib.ListN.{length}
use borrow.Author.Tests.{eq-eqb, ne_eqb}
use Rattle.laws.specs.Fix.{pick}
use Rattle.laws.proofs.Tests.{tested}
use Rattle.records.specs.declared.shape.Role.TheVariants.{Body}
use Rattle.records.specs.declared.convert_error.ConvertError.{ConvertError}
use Rattle.records.specs.Words as Words
use Rattle.records.specs.Words.{kind_of, detail_of, records}
use Rattle.records.specs.Good.{Good}
use Rattle.records.proofs.GoodLaws.{ToList}
use Rattle.syntax.specs.Count.{statement_records, block_records}
use Rattle.syntax.specs.Decode.{program, bit}
use Rattle.syntax.specs.Places.{IsStatement, BodyAt, statement_at, block_at}
use Rattle.syntax.proofs.Records.{statement_declare, statement_init, statement_return, statement_call, statement_if, statement_if_else, statement_while, statement_for, statement_break, statement_continue}
use Rattle.syntax.proofs.Lists.{left, left_some, list_at_lem, list-lower}
use Rattle.conversion.specs.Ir.{M, ◌>>=◌, ◌>>◌, pure, emit, Comment}
use Rattle.conversion.specs.Scope as Def
use Rattle.conversion.specs.Scope.{with_loop}
use Rattle.conversion.specs.Statements.{convert_statement, convert_block}
use Rattle.conversion.proofs.MonadLaws.{regroup, seq_is, pure-first}
use Rattle.ir.specs.declared.structs.Counters.{Counters}
use Rattle.ir.specs.Amounts.{Amount, amount, both}
use Rattle.ir.specs.Steps.{Emits}
use Rattle.ir.proofs.StepLaws.{next_in, stop-first}
use Rattle.ir.specs.Arena.{NumberedTexts}
use Rattle.scope.specs.declared.Scope.{Scope}
use Rattle.scope.specs.Open.{scope_at, within}
use Rattle.scope.proofs.ScopeLaws.{scope-loop}
use Rattle.keys.specs.Keys.{all_keys}
use Rattle.statements.specs.Lent.{Converter, Stated, Finished}
use Rattle.statements.specs.Meets.{StepAnswer, gave, refused, Adds, AddsIn, Meets, texts_of}
use Rattle.statements.specs.Converting.{Converting, BehindAfforded, StatementAfforded, behind_amount, block_amount}
use Rattle.statements.specs.Parts.{loop_back}
use Rattle.statements.specs.Answers.{stated_with, Leaves, States, Finishes, scope_in, statement_steps, block_steps, declare_steps, init_steps, return_steps, call_statement_steps, break_steps, continue_steps, plain_steps, jump_steps, if_steps, while_steps, for_steps, StatesAs, FinishesAs, StatementAs, BlockAs}
use Rattle.statements.proofs.MeetLaws.{adds_in, adds_seq, adds-pure, adds-most, meets-gave, meets-refused, meets-same, meets-most, meets-drop}
use Rattle.statements.proofs.EmitLaws.{emit-adds}
use Rattle.statements.proofs.StayLaws.{stays_refl, converting_next, loop-within}
use Rattle.statements.proofs.StatedLaws.{states_same, finished-next, finished-stop, scope_later, leaves-same, seq_then}

-- ---- by kind: the plain statements, and Break and Continue

module _ (tree : List ℕ) (r : ℕ) {node : ℕ} (e : node ≡ kind_of tree r) where
  yes : (k : ℕ) → node ≡ k → eqb (kind_of tree r) k ≡ true
  yes k h = eq-eqb (kind_of tree r) k (sym e ∙ h)

  no : (k : ℕ) → (node ≡ k → ⊥) → eqb (kind_of tree r) k ≡ false
  no k h = ne_eqb (kind_of tree r) k (λ q. h (e ∙ q))

  module _ {text l s l' s' : List ℕ} {c : Converter} {a : Stated} where
    pub plain_declare : node ≡ 15 → StatesAs declare_steps c r tree text l s a l' s' → StatesAs plain_steps c r tree text l s a l' s'
    unfolding pick
    plain_declare h p = rw (yes 15 h) p

    pub plain_init : node ≡ 16 → StatesAs init_steps c r tree text l s a l' s' → StatesAs plain_steps c r tree text l s a l' s'
    unfolding pick
    plain_init h p = rw (no 15 (λ e. omega arith), yes 16 h) p

    pub plain_return : node ≡ 17 → StatesAs return_steps c r tree text l s a l' s' → StatesAs plain_steps c r tree text l s a l' s'
    unfolding pick
    plain_return h p = rw (no 15 (λ e. omega arith), no 16 (λ e. omega arith), yes 17 h) p

    pub plain_call : (node ≡ 15 → ⊥) → (node ≡ 16 → ⊥) → (node ≡ 17 → ⊥) → StatesAs call_statement_steps c r tree text l s a l' s' → StatesAs plain_steps c r tree text l s a l' s'
    unfolding pick
    plain_call n n' n'' p = rw (no 15 n, no 16 n', no 17 n'') p

    pub jump_break : node ≡ 22 → StatesAs break_steps c r tree text l s a l' s' → StatesAs jump_steps c r tree text l s a l' s'
    unfolding pick
    jump_break h p = rw (yes 22 h) p

    pub jump_continue : (node ≡ 22 → ⊥) → StatesAs continue_steps c r tree text l s a l' s' → StatesAs jump_steps c r tree text l s a l' s'
    unfolding pick
    jump_continue n p = rw (no 22 n) p

-- ---- a statement is its comment, and what its kind does

-- behind the comment, in a turn of its own
abbrev pub begun : Converter → Counters → Converter
begun c k = record { scope = c.scope; counters = k; operands = c.operands; turn = k.instructions }

module _ (tree text : List ℕ) (good : Good tree text) (s : List ℕ) (c : Converter) (r : ℕ) (h : r < records tree) where
  plain_by : (i : ℕ) → i ≤ 3 → kind_of tree r ≡ 15 + i → statement_steps tree text s c r ≡ emit (Comment r) >> plain_steps tree text s c r
  unfolding convert_statement pick
  plain_by zero b e = rw (statement_declare tree text r e, e)
  plain_by (suc zero) b e = rw (statement_init tree text good r h e, e)
  plain_by (suc (suc zero)) b e = rw (statement_return tree text good r h e, e)
  plain_by (suc (suc (suc zero))) b e = rw (statement_call tree text good r h e, e)
  plain_by (suc (suc (suc (suc i)))) b e = absurd (omega arith)

  plain_is : 15 ≤ kind_of tree r → kind_of tree r ≤ 18 → statement_steps tree text s c r ≡ emit (Comment r) >> plain_steps tree text s c r
  plain_is a b = plain_by (kind_of tree r - 15) (omega arith) (omega arith)

  jump_by : (i : ℕ) → i ≤ 1 → kind_of tree r ≡ 22 + i → statement_steps tree text s c r ≡ emit (Comment r) >> jump_steps tree text s c r
  unfolding convert_statement pick
  jump_by zero b e = rw (statement_break tree text r e, e)
  jump_by (suc zero) b e = rw (statement_continue tree text r e, e)
  jump_by (suc (suc i)) b e = absurd (omega arith)

  jump_is : 22 ≤ kind_of tree r → kind_of tree r ≤ 23 → statement_steps tree text s c r ≡ emit (Comment r) >> jump_steps tree text s c r
  jump_is a b = jump_by (kind_of tree r - 22) (omega arith) (omega arith)

  if-is : kind_of tree r ≡ 19 → statement_steps tree text s c r ≡ emit (Comment r) >> if_steps tree text s c r
  unfolding convert_statement pick
  if-is e = tested (bit 1 (detail_of tree r)) (λ b. rw (statement_if_else tree text good r h e b, b)) (λ b. rw (statement_if tree text good r h e b, b))

  while_is : kind_of tree r ≡ 20 → statement_steps tree text s c r ≡ emit (Comment r) >> while_steps tree text s c r
  unfolding convert_statement
  while_is e = rw (statement_while tree text good r h e)

  for_is : kind_of tree r ≡ 21 → statement_steps tree text s c r ≡ emit (Comment r) >> for_steps tree text s c r
  unfolding convert_statement
  for_is e = rw (statement_for tree text good r h e)

module _ {tree text l s : List ℕ} {c : Converter} {r : ℕ} (p : Converting tree text l s c) (f : StatementAfforded tree text c r) (x : IsStatement tree r)
    {k : Counters} {l₁ : List ℕ} (long : length l₁ ≡ length l) (i : Emits (Comment r) c.counters l k l₁) where
  abbrev good : Good tree text
  good = p.ready.keyed.good

  abbrev size : ℕ
  size = statement_records (statement_at tree text r)

  pub comment_converting : Converting tree text l₁ s (begun c k)
  comment_converting =
      let q = converting_next p (next_in (texts_of tree text) i.next) (stays_refl tree c.scope.names c.operands s) in
      record { ready = q.ready; function = q.function; loop = q.loop; records_are = q.records_are; room = q.room }

  pub comment_afforded : BehindAfforded tree text (begun c k) r
  comment_afforded = omega (arith, f, i.spent)

  module _ {l₂ s₂ : List ℕ} {a : Stated} where
    commented : {m : M Def.Scope} → statement_steps tree text s c r ≡ emit (Comment r) >> m → States tree text m (behind_amount size) size (begun c k) l₁ s a l₂ s₂
        → StatementAs statement_steps c r tree text l s a l₂ s₂
    commented {m} e q = states_same (sym e) (record {
      meets = meets-most (texts_of tree text) (seq_then (texts_of tree text) m long (adds_in (texts_of tree text) (emit-adds long i)) q.meets) (omega arith);
      leaves = λ sc j d. let y = q.leaves sc j d in record { ready = y.ready; function = y.function; inner = y.inner; least = y.least; most = y.most };
      stays = q.stays;
    })

    module _ {node : ℕ} (e : node ≡ kind_of tree r) where
      pub commented_plain : node ≤ 18 → StatesAs plain_steps (begun c k) r tree text l₁ s a l₂ s₂ → StatementAs statement_steps c r tree text l s a l₂ s₂
      commented_plain h q = commented (plain_is tree text good s c r x.below x.least (omega (arith, e, h))) q

      pub commented_jump : 22 ≤ node → StatesAs jump_steps (begun c k) r tree text l₁ s a l₂ s₂ → StatementAs statement_steps c r tree text l s a l₂ s₂
      commented_jump h q = commented (jump_is tree text good s c r x.below (omega (arith, e, h)) x.most) q

      module _ {done : Finished} (w : a ≡ stated_with c.scope done) where
        left-scope : {m : M Def.Scope} → statement_steps tree text s c r ≡ emit (Comment r) >> m
            → Finishes tree text m (scope_in tree text s c) (behind_amount size) (begun c k) l₁ s done l₂ s₂ → StatementAs statement_steps c r tree text l s a l₂ s₂
        left-scope {m} is q = commented is (subst (λ (z : Stated). States tree text m (behind_amount size) size (begun c k) l₁ s z l₂ s₂) (sym w) (go done q))
          where
            go : (d : Finished) → Finishes tree text m (scope_in tree text s c) (behind_amount size) (begun c k) l₁ s d l₂ s₂
                → States tree text m (behind_amount size) size (begun c k) l₁ s (stated_with c.scope d) l₂ s₂
            go (Finished.Done j) g = record {
              meets = subst (λ (z : Def.Scope). Meets (texts_of tree text) m (behind_amount size) k l₁ l₂ (gave z j)) (sym (scope_later comment_converting g.stays)) g.meets;
              leaves = λ sc j' d.
                  let same : c.scope ≡ sc = cc in
                  subst (λ (z : Scope). Leaves tree text size (begun c k) s₂ z) same (leaves-same comment_converting g.stays);
              stays = g.stays;
            }
            go (Finished.Refused z) g = record {
              meets = g.meets;
              leaves = λ sc j d. let y : ◌≡◌ {A = ℕ} 0 1 = cc in absurd (omega arith);
              stays = g.stays;
            }

        pub commented_if : node ≡ 19 → FinishesAs if_steps (begun c k) r tree text l₁ s done l₂ s₂ → StatementAs statement_steps c r tree text l s a l₂ s₂
        commented_if h q = left-scope (if-is tree text good s c r x.below (sym e ∙ h)) q

        pub commented_while : node ≡ 20 → FinishesAs while_steps (begun c k) r tree text l₁ s done l₂ s₂ → StatementAs statement_steps c r tree text l s a l₂ s₂
        commented_while h q = left-scope (while_is tree text good s c r x.below (sym e ∙ h)) q

        pub commented_for : node ≡ 21 → FinishesAs for_steps (begun c k) r tree text l₁ s done l₂ s₂ → StatementAs statement_steps c r tree text l s a l₂ s₂
        commented_for h q = left-scope (for_is tree text good s c r x.below (sym e ∙ h)) q

-- ---- a block in a row with what stands behind it

module _ (tree text : List ℕ) where
  abbrev pub body_in : ℕ → Def.Scope → M Def.Scope
  body_in w S = convert_block (program tree text) (all_keys tree text) (block_at tree text w) S

  abbrev pub body_size : ℕ → ℕ
  body_size w = block_records (block_at tree text w)

pub block_as : {tree text l s l' s' : List ℕ} {c : Converter} {v w : ℕ} {S : Def.Scope} {a : Finished} → v ≡ w → scope_at tree text s c.scope ≡ S
    → BlockAs block_steps c v tree text l s a l' s' → Finishes tree text (body_in tree text w S >> pure (tt {0})) tt (block_amount (body_size tree text w)) c l s a l' s'
block_as {tree} {text} {l} {s} {l'} {s'} {c} {v} {w} {S} {a} ev eS p =
    subst (λ (z : ℕ). Finishes tree text (body_in tree text z S >> pure (tt {0})) tt (block_amount (body_size tree text z)) c l s a l' s') ev
    (subst (λ (z : Def.Scope). Finishes tree text (body_in tree text v z >> pure (tt {0})) tt (block_amount (body_size tree text v)) c l s a l' s') eS p)

drop-is : {X Y : Type 0} (m : M X) (f : M Y) → (m >> pure (tt {0})) >>= (λ (u : Unit {0}). f) ≡ m >> f
drop-is m f = simp (seq_is, regroup, pure-first)

module _ {X Y : Type 0} {tree text l s l₁ s₁ : List ℕ} {n₁ : Amount} {c : Converter} {a : Finished} (m : M X)
    (p : Finishes tree text (m >> pure (tt {0})) tt n₁ c l s a l₁ s₁) (f : M Y) where
  pub block_stop : {n : Amount} {z : ConvertError} → a ≡ Finished.Refused z → Meets (texts_of tree text) (m >> f) n c.counters l l₁ (refused z)
  block_stop q = meets-same (texts_of tree text) (drop-is m f) (meets-refused (texts_of tree text) p.meets.long (stop-first (texts_of tree text) (λ (u : Unit {0}). f) (finished-stop p q)))

  pub block_then_lem : {n₂ : Amount} {k : Counters} {l₂ : List ℕ} {b : StepAnswer Y} → a ≡ Finished.Done k → Meets (texts_of tree text) f n₂ k l₁ l₂ b → Meets (texts_of tree text) (m >> f) (both n₁ n₂) c.counters l l₂ b
  block_then_lem q i = meets-drop (texts_of tree text) m f p.meets.long (finished-next p q) i

-- the last step, and the scope as it was
pub end_meets : {n : Amount} {k k' : Counters} {l l' : List ℕ} {m : M (Unit {0})} (texts : NumberedTexts) (S : Def.Scope) → Adds m n k l tt k' l' → Meets texts (m >> pure S) n k l l' (gave S k')
end_meets {k' = k'} {l' = l'} texts S p = meets-gave texts p.long (adds_in texts (adds-most (adds_seq (pure S) p (adds-pure S k' l' p.next.room)) (omega arith)))

-- the list that a word of a record opens
module _ (tree text : List ℕ) (good : Good tree text) (r : ℕ) (h : r < records tree) where
  pub opened_low : (v w : ℕ) → v ≡ w → ToList tree Body r w → left v ≤ r
  unfolding left pick
  opened_low v w e l = go (list-lower tree text good Body r w l)
    where
      go : (w ≡ Words.none) ⊎ (w < r) → left v ≤ r
      go (inl q) = rw (eq-eqb v Words.none (e ∙ q)) (omega arith)
      go (inr q) = rw (left_some v (λ n. omega (arith, good.few))) (omega arith)

  pub opened_at : (v w : ℕ) → v ≡ w → ToList tree Body r w → BodyAt tree v
  opened_at v w e l = subst (λ (z : ℕ). BodyAt tree z) (sym e) (list_at_lem tree text good Body r w h l)

-- ---- the body of a loop, whose scope is inside the loop

abbrev pub placed : Converter → Scope → Counters → Converter
placed c sc k = record { scope = sc; counters = k; operands = c.operands; turn = c.turn }

module _ {tree text l s : List ℕ} (c : Converter) {r : ℕ} {sc inner : Scope} {k : Counters} (p : Converting tree text l s (placed c sc k)) (h : r < records tree) (e : inner ≡ within r sc) where
  pub inner_converting : Converting tree text l s (placed c inner k)
  inner_converting = subst (λ (z : Scope). Converting tree text l s (placed c z k)) (sym e) (record {
    ready = record {
      keyed = p.ready.keyed;
      scoped = record {
        records_are = p.ready.scoped.records_are;
        room = record { scratch = p.ready.scoped.room.scratch; names_in = p.ready.scoped.room.names_in };
        types = p.ready.scoped.types;
        named = p.ready.scoped.named;
      };
    };
    function = p.function;
    loop = loop-within tree r h;
    records_are = p.records_are;
    room = p.room;
  })

  pub inner-names : inner.names ≡ sc.names
  inner-names = ap (λ (z : Scope). z.names) e

  inner-scope : {S : Def.Scope} → scope_at tree text s sc ≡ S → scope_at tree text s inner ≡ with_loop r S
  inner-scope q = ap (scope_at tree text s) e ∙ scope-loop tree text s sc r (λ n. omega (arith, p.ready.keyed.good.few)) ∙ ap (with_loop r) q

  module _ {v w : ℕ} {S : Def.Scope} {l₁ s₁ : List ℕ} {a : Finished} (ev : v ≡ w) (q : scope_at tree text s sc ≡ S) (b : BlockAs block_steps (placed c inner k) v tree text l s a l₁ s₁) where
    looped : Finishes tree text (body_in tree text w (with_loop r S) >> pure (tt {0})) tt (block_amount (body_size tree text w)) (placed c inner k) l s a l₁ s₁
    looped = block_as ev (inner-scope q) b

    pub looped_stop : {n : Amount} {z : ConvertError} (T : Def.Scope) → a ≡ Finished.Refused z
        → Meets (texts_of tree text) (body_in tree text w (with_loop r S) >> (loop_back r >> pure T)) n k l l₁ (refused z)
    looped_stop T u = block_stop (body_in tree text w (with_loop r S)) looped (loop_back r >> pure T) u

    pub looped_then : {k₁ k₂ : Counters} {l₂ : List ℕ} (T : Def.Scope) → a ≡ Finished.Done k₁ → Adds (loop_back r) (amount 2 0 2 0 0) k₁ l₁ tt k₂ l₂
        → Meets (texts_of tree text) (body_in tree text w (with_loop r S) >> (loop_back r >> pure T)) (both (block_amount (body_size tree text w)) (amount 2 0 2 0 0)) k l l₂ (gave T k₂)
    looped_then T u g = block_then_lem (body_in tree text w (with_loop r S)) looped (loop_back r >> pure T) u (end_meets (texts_of tree text) T g)

    pub looped_room : {k₁ : Counters} → a ≡ Finished.Done k₁ → AddsIn (texts_of tree text) (body_in tree text w (with_loop r S) >> pure (tt {0})) (block_amount (body_size tree text w)) k l tt k₁ l₁
    looped_room u = finished-next looped u
