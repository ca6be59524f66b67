-- The statements of a block, as the code's loop meets them: a turn at a statement, at one that is refused, and the end.
-- What is left of the list owes what the whole list owes from the beginning. Assumes nothing.
use mathlib.Core.Path.{◌≡◌, refl, sym, ap, ◌∙◌, subst}
use mathlib.Core.List.{List}
use Prim.Native.Nat.{ℕ, ◌+◌, ◌≤◌, ◌<◌}
use native.Mathlib.Omega.{arith}
use lib.ListN.{length}
use Rattle.records.specs.declared.shape.Role.TheVariants.{Body}
use Rattle.records.specs.declared.convert_error.ConvertError.{ConvertError}
use Rattle.records.specs.Words.{word_of, records, none, A, B}
use Rattle.records.specs.Good.{Good}
use Rattle.syntax.specs.Syntax.{Block, done, next}
use Rattle.syntax.specs.Count.{statement_records, block_records}
use Rattle.syntax.specs.Decode.{program}
use Rattle.syntax.specs.Places.{IsStatement, FunctionAt, BodyAt, statement_at, block_at}
use Rattle.syntax.proofs.Lists.{left, left_some, block_end, Cell, cell-is, next-list, next_falls, statement_is, statement_item}
use Rattle.conversion.specs.ConvertError.{ConvertErrorKind}
use Rattle.conversion.specs.Ir.{M, ◌>>=◌, pure}
use Rattle.conversion.specs.Scope as Def
use Rattle.conversion.specs.Statements.{convert_statement, convert_block}
use Rattle.conversion.specs.Visits.{statement_visits, block_visits}
use Rattle.ir.specs.declared.structs.Counters.{Counters}
use Rattle.ir.specs.Amounts.{Spent}
use Rattle.ir.specs.Steps.{NextIn, StopsIn}
use Rattle.ir.proofs.StepLaws.{next_in, then_in, seq_in, pure-next, stop-first, stop_seq, then_stop}
use Rattle.scope.specs.declared.Scope.{Scope}
use Rattle.scope.specs.Open.{scope_at}
use Rattle.keys.specs.Keys.{all_keys}
use Rattle.statements.specs.Lent.{Converter, Stated, Finished}
use Rattle.statements.specs.Meets.{AddsIn, texts_of}
use Rattle.statements.specs.Converting.{Converting, BlockAfforded, StatementAfforded, StaysFor, block_amount, statement_amount, LoopIn}
use Rattle.statements.specs.Answers.{stated_of, scope_in, block_steps, statement_steps, StatementAs, BlockAs}
use Rattle.statements.specs.Turns.{Visited, StatementVisited, BlockVisited}
use Rattle.statements.proofs.TurnLaws.{visited-next}
use Rattle.statements.proofs.MeetLaws.{meets-gave, meets-refused}
use Rattle.statements.proofs.StayLaws.{stays_then}
use Rattle.statements.proofs.BlockLaws.{placed, body_in, body_size}

-- the visits of the block that word w opens
abbrev pub visits_from : List ℕ → List ℕ → ℕ → ℕ
visits_from tree text w = block_visits (records tree) (block_at tree text w)

-- of the block that word `first` opens the statements from cell w on are left
pub record BlockLeft (tree text l₀ s₀ : List ℕ) (c : Converter) (first : ℕ) (l s : List ℕ) (w : ℕ) (at : Converter) : Type 0 where
  pub passed : ℕ
  pub operands : at.operands ≡ c.operands
  pub converting : Converting tree text l s at
  pub cells : BodyAt tree w
  pub low : left w ≤ left first
  pub long : length l ≡ length l₀
  pub stays : StaysFor tree c s₀ s
  pub least : c.scope.names ≤ at.scope.names
  pub most : at.scope.names ≤ c.scope.names + passed
  pub passed_is : passed + body_size tree text w ≡ body_size tree text first
  pub spent : Spent c.counters at.counters (block_amount passed)
  pub gives : (S : Def.Scope) (k : Counters) (l' : List ℕ) → NextIn (texts_of tree text) (body_in tree text w (scope_in tree text s at)) at.counters l S k l'
      → NextIn (texts_of tree text) (body_in tree text first (scope_in tree text s₀ c)) c.counters l₀ S k l'
  pub stops : (k : ConvertErrorKind) (r : ℕ) → StopsIn (texts_of tree text) (body_in tree text w (scope_in tree text s at)) at.counters l k r
      → StopsIn (texts_of tree text) (body_in tree text first (scope_in tree text s₀ c)) c.counters l₀ k r
  pub seen : ℕ
  pub visited : Visited tree s₀ seen at.counters s
  pub seen_is : seen + visits_from tree text w ≡ visits_from tree text first

module _ {tree text l₀ s₀ : List ℕ} {c : Converter} {first : ℕ} (p : Converting tree text l₀ s₀ c) (f : BlockAfforded tree text c first) (x : BodyAt tree first) where
  module _ {l s : List ℕ} {w : ℕ} {at : Converter} (i : BlockLeft tree text l₀ s₀ c first l s w at) where
    abbrev good : Good tree text
    good = i.converting.ready.keyed.good

    -- the end
    pub block_done : w ≡ none → BlockAs block_steps c first tree text l₀ s₀ (Finished.Done at.counters) l s
    unfolding convert_block block_records
    block_done q =
        let over : block_at tree text w ≡ done = ap (block_at tree text) q ∙ block_end tree text good in
        let last : NextIn (texts_of tree text) (body_in tree text w (scope_in tree text s at)) at.counters l (scope_in tree text s at) at.counters l =
        subst (λ (z : Block). NextIn (texts_of tree text) (convert_block (program tree text) (all_keys tree text) z (scope_in tree text s at)) at.counters l (scope_in tree text s at) at.counters l) (sym over)
        (next_in (texts_of tree text) (pure-next (scope_in tree text s at) at.counters l i.converting.room)) in
        record {
          meets = meets-gave (texts_of tree text) i.long (record {
            next = seq_in (texts_of tree text) (pure tt) (i.gives (scope_in tree text s at) at.counters l last) (next_in (texts_of tree text) (pure-next tt at.counters l i.converting.room));
            spent = omega (arith, i.spent, i.passed_is, ap block_records over);
          });
          stays = i.stays;
        }

    pub block_visited : w ≡ none → BlockVisited first tree text s₀ (Finished.Done at.counters) s
    unfolding block_visits
    block_visited q k e =
        let over : visits_from tree text w ≡ 0 = ap (λ (z : ℕ). visits_from tree text z) q ∙ ap (block_visits (records tree)) (block_end tree text good) in
        let same : at.counters ≡ k = cc in
        let all : i.seen ≡ visits_from tree text first = omega (arith, i.seen_is, over) in
        subst (λ (j : Counters). Visited tree s₀ (visits_from tree text first) j s) same (subst (λ (v : ℕ). Visited tree s₀ v at.counters s) all i.visited)

    module _ (more : w ≡ none → ⊥) where
      cell : Cell tree text good Body w
      cell = cell-is tree text good Body w i.cells more

      pub cell-low : w < records tree
      cell-low = cell.inside

      pub block_less : (v : ℕ) → v ≡ word_of tree w B → left v < left w
      block_less v q = next_falls tree text good Body w v i.cells more q

      opens : block_at tree text w ≡ next (statement_at tree text (word_of tree w A)) (block_at tree text (word_of tree w B))
      opens = statement_item tree text good w cell

      size_is : body_size tree text w ≡ 1 + (statement_records (statement_at tree text (word_of tree w A)) + body_size tree text (word_of tree w B))
      unfolding block_records
      size_is = ap block_records opens

      visits-is : visits_from tree text w ≡ statement_visits (records tree) (statement_at tree text (word_of tree w A)) + visits_from tree text (word_of tree w B)
      unfolding block_visits
      visits-is = ap (block_visits (records tree)) opens

      module _ {r : ℕ} (er : r ≡ word_of tree w A) where
        pub turn_statement : (r < left first) × IsStatement tree r
        turn_statement =
            (omega (arith, cell.item, i.low, left_some w more), subst (λ (z : ℕ). IsStatement tree z) (sym er) (statement_is tree text good w cell))

        here : statement_records (statement_at tree text r) ≡ statement_records (statement_at tree text (word_of tree w A))
        here = ap (λ (z : ℕ). statement_records (statement_at tree text z)) er

        pub turn_afforded : StatementAfforded tree text at r
        turn_afforded = omega (arith, f, i.spent, i.passed_is, i.operands, i.most, size_is, here)

        opens-here : body_in tree text w (scope_in tree text s at)
            ≡ convert_statement (program tree text) (all_keys tree text) (statement_at tree text r) (scope_in tree text s at) >>= (λ S. body_in tree text (word_of tree w B) S)
        unfolding convert_block
        opens-here = rw (opens, er)

        module _ {a : Stated} {l₁ s₁ : List ℕ} (n : StatementAs statement_steps at r tree text l s a l₁ s₁) where
          turn-stays : StaysFor tree c s₀ s₁
          turn-stays = stays_then i.least (omega (arith, i.operands)) i.stays n.stays

          pub turn-stop : {z : ConvertError} → a ≡ Stated.Refused z → BlockAs block_steps c first tree text l₀ s₀ (Finished.Refused z) l₁ s₁
          turn-stop {z} u = record {
            meets = meets-refused (texts_of tree text) (n.meets.long ∙ i.long) (stop_seq (texts_of tree text) (pure tt) (i.stops z.kind z.place
                (subst (λ (m : M Def.Scope). StopsIn (texts_of tree text) m at.counters l z.kind z.place) (sym opens-here)
                (stop-first (texts_of tree text) (λ S. body_in tree text (word_of tree w B) S) (n.meets.stops z (ap (stated_of tree text s₁) u))))));
            stays = turn-stays;
          }

          module _ {sc : Scope} {k : Counters} (u : a ≡ Stated.Done sc k) where
            added : AddsIn (texts_of tree text) (statement_steps tree text s at r) (statement_amount (statement_records (statement_at tree text r))) at.counters l (scope_at tree text s₁ sc) k l₁
            added = n.meets.gives (scope_at tree text s₁ sc) k (ap (stated_of tree text s₁) u)

            turned_converting : Converting tree text l₁ s₁ (placed at sc k)
            turned_converting =
                let le = n.leaves sc k u in record {
                  ready = le.ready;
                  function = subst (λ (z : ℕ). FunctionAt tree z) (sym le.function) i.converting.function;
                  loop = subst (LoopIn tree) (sym le.inner) i.converting.loop;
                  records_are = added.next.records ∙ i.converting.records_are;
                  room = added.next.room;
                }

            -- a statement is converted
            pub turn-next : StatementVisited r tree text s a s₁ → (v : ℕ) → v ≡ word_of tree w B → BlockLeft tree text l₀ s₀ c first l₁ s₁ v (placed at sc k)
            turn-next t v ev = subst (λ (z : ℕ). BlockLeft tree text l₀ s₀ c first l₁ s₁ z (placed at sc k)) (sym ev) (record {
              passed = i.passed + (1 + statement_records (statement_at tree text r));
              operands = i.operands;
              converting = turned_converting;
              cells = next-list tree text good Body w (word_of tree w B) i.cells more refl;
              low = omega (arith, i.low, block_less (word_of tree w B) refl);
              long = n.meets.long ∙ i.long;
              stays = turn-stays;
              least = omega (arith, i.least, (n.leaves sc k u).least);
              most = omega (arith, i.most, (n.leaves sc k u).most);
              passed_is = omega (arith, i.passed_is, size_is, here);
              spent = omega (arith, i.spent, added.spent);
              gives = λ S j l' g. i.gives S j l' (subst (λ (m : M Def.Scope). NextIn (texts_of tree text) m at.counters l S j l') (sym opens-here)
                  (then_in (texts_of tree text) (λ S'. body_in tree text (word_of tree w B) S') added.next g));
              stops = λ d b g. i.stops d b (subst (λ (m : M Def.Scope). StopsIn (texts_of tree text) m at.counters l d b) (sym opens-here)
                  (then_stop (texts_of tree text) (λ S'. body_in tree text (word_of tree w B) S') added.next g));
              seen = i.seen + statement_visits (records tree) (statement_at tree text r);
              visited = visited-next i.visited (t sc k u);
              seen_is = omega (arith, i.seen_is, visits-is, ap (λ (z : ℕ). statement_visits (records tree) (statement_at tree text z)) er);
            })
