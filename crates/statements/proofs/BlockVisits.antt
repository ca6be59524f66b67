-- The visits of a statement as they are made: in its turn those of its own expressions, and then those of its blocks.
-- By the kinds of records, the laws of turns, and the instructions that are never fewer. Assumes nothing.
use mathlib.Core.Path.{◌≡◌, refl, sym, ap, ◌∙◌, subst}
use mathlib.Core.Bool.{Bool, true, false}
use mathlib.Core.List.{List, []}
use Prim.Native.Nat.{ℕ, zero, suc, ◌+◌, ◌-◌, ◌≤◌, ◌<◌}
use native.Mathlib.Omega.{arith}
use Rattle.laws.specs.Different.{different}
use Rattle.records.specs.Words.{kind_of, detail_of, word_of, records, B, C, D}
use Rattle.records.specs.Good.{Good}
use Rattle.syntax.specs.Decode.{bit}
use Rattle.syntax.specs.Places.{IsStatement, IsKind, statement_at}
use Rattle.syntax.proofs.Records.{statement_declare, statement_init, statement_return, statement_call, statement_if, statement_if_else, statement_while, statement_for, statement_break, statement_continue}
use Rattle.conversion.specs.Ir.{M, Comment}
use Rattle.conversion.specs.Scope as Def
use Rattle.conversion.specs.Visits.{typed_own, statement_visits}
use Rattle.ir.specs.declared.structs.Counters.{Counters}
use Rattle.ir.specs.Amounts.{Amount}
use Rattle.ir.specs.Steps.{Emits}
use Rattle.scope.specs.declared.Scope.{Scope}
use Rattle.scope.specs.Open.{scope_at}
use Rattle.statements.specs.Lent.{Converter, Stated, Finished}
use Rattle.statements.specs.Meets.{Adds}
use Rattle.statements.specs.Converting.{Converting, StatementAfforded}
use Rattle.statements.specs.Answers.{States, Finishes, stated_of, stated_with}
use Rattle.statements.specs.Turns.{Turns, Visited, Fresh, InTurn, TypedIn, own_types, head_types, for_types, StatesTyped, FinishesTyped, StatementVisited, FinishedVisited, BlockVisited}
use Rattle.statements.proofs.TurnLaws.{turns_refl, stay_typed, fresh_begins, fresh_in_turn, turn-over, visited_later, visited-next}
use Rattle.statements.proofs.StatedLaws.{finished-next}
use Rattle.statements.proofs.BlockLaws.{begun}
use Rattle.statements.proofs.BlockTurns.{visits_from}

-- ---- by kind

module _ (tree text : List ℕ) (good : Good tree text) (r : ℕ) (h : r < records tree) where
  abbrev own : ℕ
  own = different (records tree) (own_types tree text r)

  abbrev all : ℕ
  all = statement_visits (records tree) (statement_at tree text r)

  plain_by : (i : ℕ) → i ≤ 3 → kind_of tree r ≡ 15 + i → own ≡ all
  unfolding statement_visits
  plain_by zero b e = rw (statement_declare tree text r e)
  plain_by (suc zero) b e = rw (statement_init tree text good r h e)
  plain_by (suc (suc zero)) b e = rw (statement_return tree text good r h e)
  plain_by (suc (suc (suc zero))) b e = rw (statement_call tree text good r h e)
  plain_by (suc (suc (suc (suc i)))) b e = absurd (omega arith)

  -- a Break or Continue types nothing
  jump_by : (i : ℕ) → i ≤ 1 → kind_of tree r ≡ 22 + i → different (records tree) [] ≡ all
  unfolding statement_visits typed_own
  jump_by zero b e = rw (statement_break tree text r e)
  jump_by (suc zero) b e = rw (statement_continue tree text r e)
  jump_by (suc (suc i)) b e = absurd (omega arith)

  if-visits : kind_of tree r ≡ 19 → bit 1 (detail_of tree r) ≡ false → different (records tree) (head_types tree text r) + visits_from tree text (word_of tree r B) ≡ all
  unfolding statement_visits typed_own
  if-visits e b = rw (statement_if tree text good r h e b)

  else_visits : kind_of tree r ≡ 19 → bit 1 (detail_of tree r) ≡ true
      → different (records tree) (head_types tree text r) + (visits_from tree text (word_of tree r B) + visits_from tree text (word_of tree r C)) ≡ all
  unfolding statement_visits typed_own
  else_visits e b = rw (statement_if_else tree text good r h e b)

  while_visits : kind_of tree r ≡ 20 → different (records tree) (head_types tree text r) + visits_from tree text (word_of tree r B) ≡ all
  unfolding statement_visits typed_own
  while_visits e = rw (statement_while tree text good r h e)

  for_visits : kind_of tree r ≡ 21 → different (records tree) (for_types tree text r) + visits_from tree text (word_of tree r D) ≡ all
  unfolding statement_visits typed_own
  for_visits e = rw (statement_for tree text good r h e)

-- ---- a turn begins behind the comment

module _ {tree text l s : List ℕ} {c : Converter} {r : ℕ} (p : Converting tree text l s c) (f : StatementAfforded tree text c r) (x : IsStatement tree r) (t : Turns tree s c.counters)
    {k : Counters} {l₁ : List ℕ} (i : Emits (Comment r) c.counters l k l₁) where
  pub comment_fresh : Fresh tree s (begun c k)
  comment_fresh = fresh_begins c.counters (begun c k) t (ap (λ (z : Counters). z.instructions) i.entry.counts ∙ omega arith) refl

  pub comment_small : k.instructions < 4294967296
  comment_small = omega (arith, i.spent.instructions, f.tables.instructions, p.records_are, p.ready.keyed.good.few)

  pub comment_in_turn : InTurn tree text s (begun c k)
  comment_in_turn = fresh_in_turn comment_fresh text p.ready.keyed.good.few (omega (arith, i.spent.instructions, f.tables.instructions, p.records_are))

  -- the statements without blocks
  module _ {m : M Def.Scope} {n : Amount} {q : ℕ} {a : Stated} {l₂ s₂ : List ℕ} (h : States tree text m n q (begun c k) l₁ s a l₂ s₂) {node : ℕ} (e : node ≡ kind_of tree r) where
    over : (own : List ℕ) (sc : Scope) (k' : Counters) → a ≡ Stated.Done sc k' → TypedIn tree text (begun c k) s own s₂
        → different (records tree) own ≡ statement_visits (records tree) (statement_at tree text r) → Visited tree s (statement_visits (records tree) (statement_at tree text r)) k' s₂
    over own sc k' d u same =
        subst (λ (v : ℕ). Visited tree s v k' s₂) same
        (turn-over comment_fresh u (h.meets.gives (scope_at tree text s₂ sc) k' (ap (stated_of tree text s₂) d)).spent.instructions_stay)

    pub plain_visited : node ≤ 18 → StatesTyped own_types (begun c k) r tree text s a s₂ → StatementVisited r tree text s a s₂
    plain_visited low u sc k' d =
        over (own_types tree text r) sc k' d (u sc k' d)
        (plain_by tree text p.ready.keyed.good r x.below (kind_of tree r - 15) (omega (arith, e, low)) (omega (arith, x.least)))

    pub jump_visited : 22 ≤ node → s₂ ≡ s → StatementVisited r tree text s a s₂
    jump_visited high same sc k' d =
        over [] sc k' d (subst (λ (z : List ℕ). TypedIn tree text (begun c k) s [] z) (sym same) (stay_typed (turns_refl tree s) text (scope_at tree text s c.scope) k.instructions comment_in_turn))
        (jump_by tree text p.ready.keyed.good r x.below (kind_of tree r - 22) (omega (arith, x.most)) (omega (arith, e, high)))

-- a statement with blocks, as a statement's answer
pub stated-visited : (tree text : List ℕ) (r : ℕ) (sc : Scope) {s s' : List ℕ} {a : Stated} {done : Finished} → a ≡ stated_with sc done → FinishedVisited r tree text s done s'
    → StatementVisited r tree text s a s'
stated-visited tree text r sc {s} {s'} {a} {done} w t sc' k q = go done (sym w ∙ q) t
  where
    go : (d : Finished) → stated_with sc d ≡ Stated.Done sc' k → FinishedVisited r tree text s d s' → Visited tree s (statement_visits (records tree) (statement_at tree text r)) k s'
    go (Finished.Done j) e u = let same : j ≡ k = cc in u k (ap (λ (z : Counters). Finished.Done z) same)
    go (Finished.Refused z) e u = let y : ◌≡◌ {A = ℕ} 0 1 = cc in absurd (omega arith)

-- ---- a head, its blocks, and what stands behind them

-- a block behind what was visited, and then steps that only add instructions
module _ {tree s s₁ s₂ : List ℕ} {k k₁ : Counters} {n : ℕ} (text : List ℕ) {v w : ℕ} {b : Finished} (h : Visited tree s n k s₁) (e : v ≡ w) (g : BlockVisited v tree text s₁ b s₂) (u : b ≡ Finished.Done k₁) where
  block_next : Visited tree s (n + visits_from tree text w) k₁ s₂
  block_next = subst (λ (z : ℕ). Visited tree s (n + visits_from tree text z) k₁ s₂) e (visited-next h (g k₁ u))

  module _ {X : Type 0} {m : M X} {a : Amount} {l l₁ : List ℕ} {y : X} {k₂ : Counters} (i : Adds m a k₁ l y k₂ l₁) where
    then_steps : Visited tree s (n + visits_from tree text w) k₂ s₂
    then_steps = visited_later k₁ k₂ i.spent.instructions_stay block_next

    then_end : (r : ℕ) → n + visits_from tree text w ≡ statement_visits (records tree) (statement_at tree text r) → FinishedVisited r tree text s (Finished.Done k₂) s₂
    then_end r same k' q =
        let done : k₂ ≡ k' = cc in
        subst (λ (z : ℕ). Visited tree s z k' s₂) same (subst (λ (j : Counters). Visited tree s (n + visits_from tree text w) j s₂) done then_steps)

module _ {tree text l s : List ℕ} {c : Converter} {kind r : ℕ} (p : Converting tree text l s c) (x : IsKind tree kind r) (b : Fresh tree s c) where
  -- ---- If and While

  module _ {m : M (Unit {0})} {n : Amount} {a : Finished} {k : Counters} {l₁ s₁ : List ℕ} (h : Finishes tree text m tt n c l s a l₁ s₁) (q : a ≡ Finished.Done k)
      (t : FinishesTyped head_types c r tree text s a s₁) where
    pub head_visited : Visited tree s (different (records tree) (head_types tree text r)) k s₁
    head_visited = turn-over b (t k q) (omega (arith, b.begun, (finished-next h q).spent.instructions_stay))

    module _ {v : ℕ} {g : Finished} {k₁ k₂ : Counters} {s₂ l₂ l₃ : List ℕ} {m' : M (Unit {0})} {n' : Amount} (ev : v ≡ word_of tree r B) (j : BlockVisited v tree text s₁ g s₂) (u : g ≡ Finished.Done k₁)
        (i : Adds m' n' k₁ l₂ tt k₂ l₃) where
      pub while_visited : kind ≡ 20 → FinishedVisited r tree text s (Finished.Done k₂) s₂
      while_visited e = then_end text head_visited ev j u i r (while_visits tree text p.ready.keyed.good r x.below (x.kind ∙ e))

      module _ {has : Bool} (eh : has ≡ bit 1 (detail_of tree r)) where
        pub if-visited : kind ≡ 19 → has ≡ false → FinishedVisited r tree text s (Finished.Done k₂) s₂
        if-visited e none = then_end text head_visited ev j u i r (if-visits tree text p.ready.keyed.good r x.below (x.kind ∙ e) (sym eh ∙ none))

        -- between the blocks
        pub middle_turns : Turns tree s₂ k₂
        middle_turns = (then_steps text head_visited ev j u i).turns

        pub else_visited : {o : ℕ} {d : Finished} {k₃ k₄ : Counters} {s₃ l₄ l₅ : List ℕ} {m'' : M (Unit {0})} {n'' : Amount} → kind ≡ 19 → has ≡ true → o ≡ word_of tree r C
            → BlockVisited o tree text s₂ d s₃ → d ≡ Finished.Done k₃ → Adds m'' n'' k₃ l₄ tt k₄ l₅ → FinishedVisited r tree text s (Finished.Done k₄) s₃
        else_visited e some eo j₂ w i₂ =
            then_end text (then_steps text head_visited ev j u i) eo j₂ w i₂ r (omega (arith, else_visits tree text p.ready.keyed.good r x.below (x.kind ∙ e) (sym eh ∙ some)))

  -- ---- For

  module _ {m : M Def.Scope} {n : Amount} {most : ℕ} {a : Stated} {sc : Scope} {k : Counters} {l₁ s₁ : List ℕ} (h : States tree text m n most c l s a l₁ s₁) (q : a ≡ Stated.Done sc k)
      (t : StatesTyped for_types c r tree text s a s₁) where
    pub for_head-visited : Visited tree s (different (records tree) (for_types tree text r)) k s₁
    for_head-visited = turn-over b (t sc k q) (omega (arith, b.begun, (h.meets.gives (scope_at tree text s₁ sc) k (ap (stated_of tree text s₁) q)).spent.instructions_stay))

    pub for_visited : {v : ℕ} {g : Finished} {k₁ k₂ : Counters} {s₂ l₂ l₃ : List ℕ} {m' : M (Unit {0})} {n' : Amount} → kind ≡ 21 → v ≡ word_of tree r D → BlockVisited v tree text s₁ g s₂
        → g ≡ Finished.Done k₁ → Adds m' n' k₁ l₂ tt k₂ l₃ → FinishedVisited r tree text s (Finished.Done k₂) s₂
    for_visited e ev j u i = then_end text for_head-visited ev j u i r (for_visits tree text p.ready.keyed.good r x.below (x.kind ∙ e))
