-- A function as the code converts it: whether it has a body, its parameters' variables, its body with MissingReturn behind it, and its entry.
-- By the laws of steps in a row; what declares the parameters emits nothing and numbers them from 0, as the variables' table does. Assumes nothing.
use mathlib.Core.Path.{◌≡◌, refl, sym, ap, ◌∙◌, subst}
use mathlib.Core.Bool.{Bool, true, false, not, ◌&&◌, true≢false}
use mathlib.Core.List.{List, [], ◌∷◌, ◌++◌, append-nil, append_assoc, map}
use mathlib.Core.Option.{Option, none as nothing, some}
use Prim.Native.Nat.{ℕ, zero, suc, ◌+◌, ◌*◌, ◌/◌, ◌%◌, ◌≤◌, ◌<◌}
use native.Mathlib.Omega.{arith}
use lib.Dec.{eqb}
use lib.ListN.{length}
use borrow.Author.Tests.{eq-eqb, ne_eqb, not-true, not-false}
use Rattle.laws.specs.Fix.{pick}
use Rattle.records.specs.Words.{detail_of, word_of, records, none, A, B, C, D, E}
use Rattle.records.specs.declared.shape.Role.TheVariants.{Parameters as Params}
use Rattle.records.specs.declared.convert_error.ConvertError.{ConvertError}
use Rattle.records.specs.Good.{Good}
use Rattle.records.proofs.GoodLaws.{inside}
use Rattle.syntax.specs.Syntax.{Block, Param, Function}
use Rattle.syntax.specs.Decode.{program, bit, reference, text_of}
use Rattle.syntax.specs.Count.{function_records, body_records, block_records}
use Rattle.syntax.specs.Places.{FunctionAt, ParamsAt, BodyAt, function_of, params_at, block_at}
use Rattle.syntax.proofs.Lists.{left, cell-is, next-list, next_falls, params_end, parameter_item}
use Rattle.syntax.proofs.Records.{function_rec, function-return, function-body, body_is}
use Rattle.conversion.specs.ConvertError.{Result, ok, err, AlreadyDeclared, MissingReturn}
use Rattle.conversion.specs.Ir.{State, Out, made, failed, M, after, bind, ◌>>=◌, pure, fail, new_var, IrFunction}
use Rattle.conversion.specs.Types.{some_and, is_some}
use Rattle.conversion.specs.Scope as Def
use Rattle.conversion.specs.Scope.{find_variable, with_variable}
use Rattle.conversion.specs.Statements.{convert_block}
use Rattle.conversion.specs.Visits.{block_visits, body_visits}
use Rattle.conversion.specs.Functions.{Pool, always_returns, convert_body, finished, convert_function, convert_func}
use Rattle.conversion.proofs.MonadLaws.{regroup, seq_is, after_none, pure-first}
use Rattle.ir.specs.declared.structs.Counters.{Counters}
use Rattle.ir.specs.declared.structs.VarId.{VarId}
use Rattle.ir.specs.declared.structs.WithCounters.{WithCounters}
use Rattle.ir.specs.Amounts.{amount, Spent}
use Rattle.ir.specs.Arena.{NumberedTexts, TablesSoFar, Holds, Room}
use Rattle.ir.specs.Steps.{grown, next_function, Stands, NextIn, StopsIn, AddsVar, Closes}
use Rattle.ir.proofs.StepLaws.{next_in, then_in, pure-next, fail-stops, stop-first, then_stop}
use Rattle.scope.specs.declared.Scope.{Scope}
use Rattle.scope.specs.Open.{variables_at, scope_at}
use Rattle.keys.specs.Keys.{all_keys, Keyed}
use Rattle.expressions.specs.Slots.{Ready}
use Rattle.expressions.specs.Answers.{OrRefused, refusal}
use Rattle.statements.specs.Lent.{Converter, Finished}
use Rattle.statements.specs.Converting.{Converting, RoomFor, block_amount, BlockAfforded, Stays, StaysFor}
use Rattle.statements.specs.Meets.{Adds, texts_of}
use Rattle.statements.specs.Turns.{Turns, Visited, TurnsStay, BlockVisited}
use Rattle.statements.specs.Answers.{block_steps, BlockAs}
use Rattle.statements.proofs.MeetLaws.{adds_then, adds-pure, adds-most}
use Rattle.statements.proofs.EmitLaws.{var_adds}
use Rattle.statements.proofs.StayLaws.{stays_refl, stays_then, loop-outside}
use Rattle.statements.proofs.StatedLaws.{finished-next, finished-stop}
use Rattle.statements.proofs.TurnLaws.{turns_refl, turns_stay, turns_later, visits_stay, visited_stay, visited_later}
use Rattle.std.specs.Prelude.{Ok, Err}
use Rattle.functions.specs.Parameters.{parameter_of, with_params, empty_in, ParametersMeet}
use Rattle.functions.proofs.Members.{function_at-most}
use Rattle.functions.specs.Bodies.{new_vars, begun, FunctionsAfforded, FunctionSpent, FunctionStands, FunctionDone, ConvertsFunction, body_steps, BodyStands, BodyDone, ConvertsBody, BodyAs, FunctionVisited}
use Rattle.functions.proofs.ParameterRun.{with_types, run_made, run_failed}
use Rattle.functions.proofs.ParameterLaws.{names-only, only-stays}

-- ---- what the record says

some_mark : {X : Type 0} (b : Bool) (x : X) → b ≡ is_some (pick b (some x) nothing)
unfolding is_some some_and pick
some_mark true x = refl
some_mark false x = refl

-- a type to return, and a path that returns nothing
abbrev missing : List ℕ → List ℕ → ℕ → Bool
missing tree text f = is_some (function_of tree text f).return_type && not (always_returns (block_at tree text (word_of tree f E)))

module _ {tree text : List ℕ} (good : Good tree text) {f : ℕ} (at : FunctionAt tree f) where
  pub body_mark_lem : {d : ℕ} → d ≡ detail_of tree f → eqb (d / 4 % 2) 1 ≡ is_some (function_of tree text f).body
  unfolding bit
  body_mark_lem {d} e = rw (function-body tree text good f at, e) (some_mark (eqb (detail_of tree f / 4 % 2) 1) (block_at tree text (word_of tree f E)))

  body-by : (b : Bool) → b ≡ is_some (function_of tree text f).body → (function_of tree text f).body ≡ pick b (some (block_at tree text (word_of tree f E))) nothing
  body-by b e =
      let m : bit 4 (detail_of tree f) ≡ b = some_mark (bit 4 (detail_of tree f)) (block_at tree text (word_of tree f E)) ∙ ap is_some (sym (function-body tree text good f at)) ∙ sym e in
      function-body tree text good f at ∙ ap (λ (x : Bool). pick x (some (block_at tree text (word_of tree f E))) nothing) m

  pub body-there : {b : Bool} → b ≡ is_some (function_of tree text f).body → not b ≡ false → (function_of tree text f).body ≡ some (block_at tree text (word_of tree f E))
  unfolding pick
  body-there {b} e q = body-by b e ∙ ap (λ (x : Bool). pick x (some (block_at tree text (word_of tree f E))) nothing) (not-false b q)

  pub body_missing : {b : Bool} → b ≡ is_some (function_of tree text f).body → not b ≡ true → (function_of tree text f).body ≡ nothing
  unfolding pick
  body_missing {b} e q = body-by b e ∙ ap (λ (x : Bool). pick x (some (block_at tree text (word_of tree f E))) nothing) (not-true b q)

  -- MissingReturn
  typed-by : (b : Bool) → eqb (word_of tree f D) none ≡ b → is_some (function_of tree text f).return_type ≡ not b
  unfolding reference is_some some_and pick
  typed-by true e = rw (function-return tree text good f at, e) refl
  typed-by false e = rw (function-return tree text good f at, e) refl

  pub misses_none : {y : ℕ} → y ≡ word_of tree f D → y ≡ none → false ≡ missing tree text f
  misses_none ey e = sym (ap (λ (x : Bool). x && not (always_returns (block_at tree text (word_of tree f E)))) (typed-by true (eq-eqb (word_of tree f D) none (sym ey ∙ e))))

  pub misses_some : {y w : ℕ} {b : Bool} → y ≡ word_of tree f D → (y ≡ none → ⊥) → w ≡ word_of tree f E → b ≡ always_returns (block_at tree text w) → not b ≡ missing tree text f
  misses_some ey n ew eb =
      ap not (eb ∙ ap (λ (x : ℕ). always_returns (block_at tree text x)) ew)
      ∙ sym (ap (λ (x : Bool). x && not (always_returns (block_at tree text (word_of tree f E)))) (typed-by false (ne_eqb (word_of tree f D) none (λ e. n (ey ∙ e)))))

  pub body-list : {w : ℕ} → w ≡ word_of tree f E → BodyAt tree w
  body-list e = rw e (body_is tree text good f at)

-- ---- the parameters' variables

vars_run : (l : List Param) (s : State) → new_vars l s ≡ made tt [] (with_types l s)
unfolding new_vars ◌>>=◌ bind after pure new_var
vars_run [] s = rw (append-nil s.vars) refl
vars_run (p ∷ l) s =
    after_none (new_vars l (with_types (p ∷ []) s)) ∙ vars_run l (with_types (p ∷ []) s)
    ∙ rw (append_assoc s.vars (p.ty ∷ []) (map (λ (q : Param). q.ty) l)) refl

-- the variables of a list of parameters
abbrev VarsAdd : List Param → Counters → List ℕ → Counters → List ℕ → Type 0
VarsAdd ps k l k' l' = Adds (new_vars ps) (amount 0 (length ps) 0 0 0) k l tt k' l'

-- from this cell on: what is left makes the whole
pub record VarsLeft (tree text : List ℕ) (f : ℕ) (k₀ : Counters) (l₀ : List ℕ) (k : Counters) (l : List ℕ) (cell : ℕ) : Type 0 where
  pub cells : ParamsAt tree cell
  pub room : RoomFor k l (amount 0 (length (params_at tree text cell)) 0 0 0)
  pub long : length l ≡ length l₀
  pub whole : (k' : Counters) (l' : List ℕ) → VarsAdd (params_at tree text cell) k l k' l' → VarsAdd (function_of tree text f).params k₀ l₀ k' l'

pub vars_start : {tree text : List ℕ} {f w : ℕ} {k : Counters} {l : List ℕ} → (function_of tree text f).params ≡ params_at tree text w → ParamsAt tree w
    → RoomFor k l (amount 0 (length (function_of tree text f).params) 0 0 0) → VarsLeft tree text f k l k l w
vars_start {k = k} {l = l} e p r = record {
  cells = p;
  room = subst (λ (x : List Param). RoomFor k l (amount 0 (length x) 0 0 0)) e r;
  long = refl;
  whole = λ k' l' q. subst (λ (x : List Param). VarsAdd x k l k' l') (sym e) q;
}

module _ {tree text : List ℕ} (good : Good tree text) {f : ℕ} {k₀ k : Counters} {l₀ l : List ℕ} {cell : ℕ} (v : VarsLeft tree text f k₀ l₀ k l cell) where
  pub vars_end : cell ≡ none → VarsAdd (function_of tree text f).params k₀ l₀ k l
  unfolding new_vars
  vars_end e =
      v.whole k l (subst (λ (x : List Param). VarsAdd x k l k l) (sym (ap (params_at tree text) e ∙ params_end tree text good)) (adds-pure tt k l v.room.room))

  module _ (n : cell ≡ none → ⊥) where
    abbrev here : Param
    here = record { rec_of = word_of tree cell A; name = text_of tree text (word_of tree cell A) A; ty = word_of tree (word_of tree cell A) C }

    split : params_at tree text cell ≡ here ∷ params_at tree text (word_of tree cell B)
    split = parameter_item tree text good cell (cell-is tree text good Params cell v.cells n)

    so_many : length (params_at tree text cell) ≡ suc (length (params_at tree text (word_of tree cell B)))
    so_many = ap length split

    pub cell-inside : cell * 32 + 32 ≤ length tree
    cell-inside = inside tree text good cell (cell-is tree text good Params cell v.cells n).inside

    pub cell_below : cell < records tree
    cell_below = (cell-is tree text good Params cell v.cells n).inside

    pub item-inside : {r : ℕ} → r ≡ word_of tree cell A → r * 32 + 32 ≤ length tree
    item-inside {r} e = inside tree text good r (omega (arith, e, (cell-is tree text good Params cell v.cells n).item, cell_below))

    pub cell_falls : {w : ℕ} → w ≡ word_of tree cell B → left w < left cell
    cell_falls {w} e = next_falls tree text good Params cell w v.cells n e

    pub var_room : Room k l × (k.variables < 3 * k.records)
    var_room = (v.room.room, omega (arith, so_many, v.room.affords.variables))

    pub vars-next : {r y w : ℕ} {x : WithCounters VarId} {l₁ : List ℕ} → r ≡ word_of tree cell A → y ≡ word_of tree r C → length l₁ ≡ length l → AddsVar y k l x l₁
        → w ≡ word_of tree cell B → VarsLeft tree text f k₀ l₀ x.counters l₁ w
    unfolding new_vars
    vars-next {r} {y} {w} {x} {l₁} er ey h p ew =
        let ty : y ≡ here.ty = ey ∙ ap (λ (z : ℕ). word_of tree z C) er in
        let q : AddsVar here.ty k l x l₁ = subst (λ (z : ℕ). AddsVar z k l x l₁) ty p in
        let rest : params_at tree text w ≡ params_at tree text (word_of tree cell B) = ap (params_at tree text) ew in
        let fewer : length (params_at tree text cell) ≡ suc (length (params_at tree text w)) = so_many ∙ ap (λ (z : List Param). suc (length z)) (sym rest) in
        record {
          cells = next-list tree text good Params cell w v.cells n ew;
          room = record { room = q.next.room; affords = omega (arith, v.room.affords, q.spent, fewer) };
          long = h ∙ v.long;
          whole = λ k' l' i. v.whole k' l' (subst (λ (z : List Param). VarsAdd z k l k' l') (ap (λ (z : List Param). here ∷ z) rest ∙ sym split)
              (adds-most (adds_then (λ z. new_vars (params_at tree text w)) (var_adds h q) i) (omega arith)));
        }

-- ---- the body

module _ {tree text l l' s s' : List ℕ} {m : M (Unit {0})} {f : ℕ} {c : Converter} (long : length l' ≡ length l) (stays : StaysFor tree c s s') where
  body-gives : {k : Counters} → BodyDone tree text m f c.counters l k l' → ConvertsBody tree text m f c l s (Finished.Done k) l' s'
  body-gives {k} p = record {
    long = long;
    stays = stays;
    gives = λ k' e. let d : k ≡ k' = cc in subst (λ (x : Counters). BodyDone tree text m f c.counters l x l') d p;
    stops = λ e d. let z : ◌≡◌ {A = ℕ} 0 1 = cc in absurd (omega arith);
  }

  body-stops : {x : ConvertError} → StopsIn (texts_of tree text) m c.counters l x.kind x.place → ConvertsBody tree text m f c l s (Finished.Refused x) l' s'
  body-stops {x} p = record {
    long = long;
    stays = stays;
    gives = λ k' e. let z : ◌≡◌ {A = ℕ} 0 1 = cc in absurd (omega arith);
    stops = λ e q. let d : x ≡ e = cc in subst (λ (y : ConvertError). StopsIn (texts_of tree text) m c.counters l y.kind y.place) d p;
  }

-- what the step leaves is closed as the function's entry
entry-stands : (texts : NumberedTexts) (t : TablesSoFar) {k k' : Counters} {l l' : List ℕ} {f : ℕ} (o : Out (Unit {0})) → Stands o tt texts t k l → Closes f true k l k' l'
    → BodyStands o f texts t k' l'
unfolding Stands BodyStands
entry-stands texts t (made u c s) h p = p.stands texts (grown t c s) h.1 (λ e. absurd (true≢false e))
entry-stands texts t (failed e r) h p = h

-- what follows the block
abbrev behind : List ℕ → List ℕ → ℕ → Unit {0} → M (Unit {0})
behind tree text f x = pick (missing tree text f) (fail MissingReturn f) (pure tt)

module _ {tree text l l₁ s s₁ : List ℕ} {c : Converter} (f : ℕ) {w : ℕ} {a : Finished} (ew : w ≡ word_of tree f E)
    (i : BlockAs block_steps c w tree text l s a l₁ s₁) where
  block_as : BlockAs block_steps c (word_of tree f E) tree text l s a l₁ s₁
  block_as = subst (λ (x : ℕ). BlockAs block_steps c x tree text l s a l₁ s₁) ew i

  body_split : block_steps tree text s c (word_of tree f E) >>= behind tree text f ≡ body_steps tree text f (scope_at tree text s c.scope)
  unfolding body_steps
  body_split = simp (seq_is, regroup, pure-first)

  pub body_refused : {x : ConvertError} → a ≡ Finished.Refused x → BodyAs c f tree text l s (Finished.Refused x) l₁ s₁
  body_refused {x} q =
      body-stops i.meets.long i.stays
      (subst (λ (m : M (Unit {0})). StopsIn (texts_of tree text) m c.counters l x.kind x.place) body_split (stop-first (texts_of tree text) (behind tree text f) (finished-stop block_as q)))

  module _ {k : Counters} {b : Bool} (q : a ≡ Finished.Done k) (eb : b ≡ missing tree text f) where
    behind-is : (z : Bool) → b ≡ z → behind tree text f tt ≡ pick z (fail MissingReturn f) (pure tt)
    behind-is z e = ap (λ (x : Bool). pick {X = M (Unit {0})} x (fail MissingReturn f) (pure tt)) (sym eb ∙ e)

    pub body_misses : b ≡ true → BodyAs c f tree text l s (Finished.Refused (record { kind = MissingReturn; place = f })) l₁ s₁
    unfolding pick
    body_misses e =
        body-stops i.meets.long i.stays
        (subst (λ (m : M (Unit {0})). StopsIn (texts_of tree text) m c.counters l MissingReturn f) body_split
        (then_stop (texts_of tree text) (behind tree text f) (finished-next block_as q).next
        (subst (λ (m : M (Unit {0})). StopsIn (texts_of tree text) m k l₁ MissingReturn f) (sym (behind-is true e)) (fail-stops (texts_of tree text) k l₁ MissingReturn f))))

    body-next : b ≡ false → NextIn (texts_of tree text) (body_steps tree text f (scope_at tree text s c.scope)) c.counters l tt k l₁
    unfolding pick
    body-next e =
        subst (λ (m : M (Unit {0})). NextIn (texts_of tree text) m c.counters l tt k l₁) body_split
        (then_in (texts_of tree text) (behind tree text f) (finished-next block_as q).next
        (subst (λ (m : M (Unit {0})). NextIn (texts_of tree text) m k l₁ tt k l₁) (sym (behind-is false e)) (next_in (texts_of tree text) (pure-next tt k l₁ (finished-next block_as q).next.room))))

    pub body-done : {k' : Counters} {l₂ : List ℕ} → b ≡ false → length l₂ ≡ length l₁ → Closes f true k l₁ k' l₂ → BodyAs c f tree text l s (Finished.Done k') l₂ s₁
    body-done {k'} {l₂} e h p =
        body-gives (h ∙ i.meets.long) i.stays (record {
          room = p.room;
          spent = subst (λ (x : Counters). FunctionSpent c.counters x (block_records (block_at tree text (word_of tree f E)))) (sym p.counts) (closed-spent (finished-next block_as q).spent);
          stands = λ t held. entry-stands (texts_of tree text) t (body_steps tree text f (scope_at tree text s c.scope) t.state) ((body-next e).stands t held) p;
        })
      where
        closed-spent : Spent c.counters k (block_amount (block_records (block_at tree text (word_of tree f E))))
            → FunctionSpent c.counters (next_function k) (block_records (block_at tree text (word_of tree f E)))
        closed-spent z = record {
          records = z.records;
          functions = omega (arith, z.functions);
          instructions = z.instructions;
          variables = z.variables;
          labels = z.labels;
          strings = z.strings;
          floats = z.floats;
        }

-- an entry leaves the instructions' count
closed-instructions : {b : Bool} {f : ℕ} {k k' z : Counters} {l l' : List ℕ} → Closes f b k l k' l' → Finished.Done k' ≡ Finished.Done z → k.instructions ≤ z.instructions
closed-instructions {k' = k'} {z = z} p e = let d : k' ≡ z = cc in omega (arith, ap (λ (x : Counters). x.instructions) (sym d ∙ p.counts))

-- the visits of a body are its block's
pub body-visited : (tree text : List ℕ) {s s₁ l₁ l₂ : List ℕ} (f : ℕ) {w : ℕ} {a : Finished} {k k' : Counters} → w ≡ word_of tree f E → BlockVisited w tree text s a s₁
    → a ≡ Finished.Done k → Closes f true k l₁ k' l₂ → BlockVisited (word_of tree f E) tree text s (Finished.Done k') s₁
body-visited tree text {s} {s₁} f {k = k} ew v q p =
    λ z e.
    visited_later k z (closed-instructions p e)
    (subst (λ (x : ℕ). Visited tree s (block_visits (records tree) (block_at tree text x)) k s₁) ew (v k q))

-- ---- the parameters' names

-- as many names as parameters
names_more : (l : List Param) (k : ℕ) (S T : Def.Scope) → with_params l k S ≡ ok T → length T.variables ≡ length l + length S.variables
unfolding with_params with_variable pick
names_more [] k S T e = let d : S ≡ T = cc in omega (arith, ap (λ (x : Def.Scope). length x.variables) d)
names_more (p ∷ l) k S T e = go (is_some (find_variable p.name S)) (names_more l (suc k) (with_variable (parameter_of p k) S) T) e
  where
    go : (b : Bool) → (with_params l (suc k) (with_variable (parameter_of p k) S) ≡ ok T → length T.variables ≡ length l + suc (length S.variables))
        → pick b (err AlreadyDeclared p.rec_of) (with_params l (suc k) (with_variable (parameter_of p k) S)) ≡ ok T
        → length T.variables ≡ suc (length l) + length S.variables
    go true h q = let z : ◌≡◌ {A = ℕ} 0 1 = cc in absurd (omega arith)
    go false h q = omega (arith, h q)

open_count : (text s : List ℕ) (n m : ℕ) → length (variables_at text s n m) ≡ m
unfolding variables_at
open_count text s n zero = refl
open_count text s n (suc m) = ap suc (open_count text s n m)

module _ (tree text : List ℕ) (f : ℕ) (s s₁ : List ℕ) where
  -- what a scope with the parameters is
  record Declared (sc : Scope) : Type 0 where
    pub asked : with_params (function_of tree text f).params 0 (empty_in tree text f) ≡ ok (scope_at tree text s₁ sc)
    pub ready : Ready tree text s₁ sc
    pub no_loop : sc.inner ≡ none
    pub function : sc.function ≡ f
    pub names : sc.names ≡ length (function_of tree text f).params

  declared : {a : OrRefused Scope} → ParametersMeet tree text f s s₁ a → {sc : Scope} → a ≡ Ok sc → Declared sc
  unfolding scope_at
  declared p {sc} q = go (subst (ParametersMeet tree text f s s₁) q p)
    where
      count : with_params (function_of tree text f).params 0 (empty_in tree text f) ≡ ok (scope_at tree text s₁ sc) → sc.names ≡ length (function_of tree text f).params
      count e = omega (arith, names_more (function_of tree text f).params 0 (empty_in tree text f) (scope_at tree text s₁ sc) e, open_count text s₁ sc.records sc.names)

      go : ParametersMeet tree text f s s₁ (Ok sc) → Declared sc
      go (ParametersMeet.done asked ready inner function only bytes) = record { asked = asked; ready = ready; no_loop = inner; function = function; names = count asked }

  not_declared : {a : OrRefused Scope} → ParametersMeet tree text f s s₁ a → {x : ConvertError} → a ≡ Err x
      → with_params (function_of tree text f).params 0 (empty_in tree text f) ≡ err x.kind x.place
  unfolding refusal
  not_declared p {x} q = go (subst (ParametersMeet tree text f s s₁) q p)
    where
      go : ParametersMeet tree text f s s₁ (Err x) → with_params (function_of tree text f).params 0 (empty_in tree text f) ≡ err x.kind x.place
      go (ParametersMeet.refused asked only bytes) = asked

-- ---- the function

-- the answers
module _ {tree text l l' s s' : List ℕ} {f : ℕ} {k : Counters} (long : length l' ≡ length l) (stays : Stays tree 0 0 s s') where
  function-gives : {k' : Counters} → FunctionDone tree text f k l k' l' → ConvertsFunction tree text f k l s (Finished.Done k') l' s'
  function-gives {k'} p = record {
    long = long;
    stays = stays;
    gives = λ k'' e. let d : k' ≡ k'' = cc in subst (λ (x : Counters). FunctionDone tree text f k l x l') d p;
    stops = λ e d. let z : ◌≡◌ {A = ℕ} 0 1 = cc in absurd (omega arith);
  }

  function-stops : {x : ConvertError} → ((before : List IrFunction) (p : Pool) → Holds (texts_of tree text) (begun before p) k l
      → convert_func (program tree text) (all_keys tree text) (function_of tree text f) p ≡ err x.kind x.place)
      → ConvertsFunction tree text f k l s (Finished.Refused x) l' s'
  function-stops {x} h = record {
    long = long;
    stays = stays;
    gives = λ k'' e. let z : ◌≡◌ {A = ℕ} 0 1 = cc in absurd (omega arith);
    stops = λ e q. let d : x ≡ e = cc in λ before p i. h before p i ∙ ap (λ (y : ConvertError). err y.kind y.place) d;
  }

-- the definition at a function without a body, and with one
without_body : (tree text : List ℕ) (f : ℕ) (p : Pool) → (function_of tree text f).body ≡ nothing
    → convert_func (program tree text) (all_keys tree text) (function_of tree text f) p
    ≡ ok (record { func = (function_of tree text f).rec_of; body = nothing; vars = []; labels = [] }, p)
unfolding convert_func convert_function
without_body tree text f p e = ap (λ (o : Option Block). convert_function (program tree text) (all_keys tree text) (function_of tree text f) o p) e

from-made : {A B : Type 0} (a : A) (s : State) (g : A → M B) → bind (made a [] s) g ≡ g a s
unfolding bind
from-made a s g = after_none (g a s)

-- the block and what follows it, MissingReturn being at r
abbrev block_then : List ℕ → List ℕ → ℕ → ℕ → Def.Scope → M (Unit {0})
block_then tree text f r S =
    convert_block (program tree text) (all_keys tree text) (block_at tree text (word_of tree f E)) S >>= (λ x. pick (missing tree text f) (fail MissingReturn r) (pure tt))

module _ (tree text : List ℕ) (f : ℕ) (p : Pool) (eb : (function_of tree text f).body ≡ some (block_at tree text (word_of tree f E))) where
  abbrev first : State
  first = record { vars = []; labels = []; strings = p.strings; floats = p.floats }

  with_body : convert_func (program tree text) (all_keys tree text) (function_of tree text f) p
      ≡ finished (function_of tree text f) (convert_body (program tree text) (all_keys tree text) (function_of tree text f) (block_at tree text (word_of tree f E)) first)
  unfolding convert_func convert_function
  with_body = ap (λ (o : Option Block). convert_function (program tree text) (all_keys tree text) (function_of tree text f) o p) eb

  refused_run : {x : ConvertError} → with_params (function_of tree text f).params 0 (empty_in tree text f) ≡ err x.kind x.place
      → convert_func (program tree text) (all_keys tree text) (function_of tree text f) p ≡ err x.kind x.place
  unfolding convert_body ◌>>=◌ bind finished
  refused_run {x} e = with_body ∙ rw (run_failed (function_of tree text f).params 0 (empty_in tree text f) first refl x.kind x.place e) refl

  -- behind the parameters
  declared_run : (S : Def.Scope) → (function_of tree text f).rec_of ≡ f → with_params (function_of tree text f).params 0 (empty_in tree text f) ≡ ok S
      → convert_func (program tree text) (all_keys tree text) (function_of tree text f) p
      ≡ finished (function_of tree text f) (body_steps tree text f S (with_types (function_of tree text f).params first))
  unfolding convert_body body_steps ◌>>=◌
  declared_run S er e =
      with_body ∙ ap (finished (function_of tree text f))
      (ap (λ (o : Out Def.Scope). bind o (block_then tree text f (function_of tree text f).rec_of)) (run_made (function_of tree text f).params 0 (empty_in tree text f) first refl S e)
      ∙ from-made S (with_types (function_of tree text f).params first) (block_then tree text f (function_of tree text f).rec_of)
      ∙ ap (λ (r : ℕ). block_then tree text f r S (with_types (function_of tree text f).params first)) er)

-- the tables behind the parameters
vars_hold : {texts : NumberedTexts} {l l₁ : List ℕ} {k k₁ : Counters} (ps : List Param) (t : TablesSoFar) → VarsAdd ps k l k₁ l₁ → Holds texts t k l → Holds texts (grown t [] (with_types ps t.state)) k₁ l₁
unfolding Stands
vars_hold {texts} {l₁ = l₁} {k₁ = k₁} ps t p h = (subst (λ (o : Out (Unit {0})). Stands o tt texts t k₁ l₁) (vars_run ps t.state) (p.next.stands texts t h)).1

-- a function's entry is what the definition makes
function-stands : (texts : NumberedTexts) (before : List IrFunction) (p : Pool) (ps : List Param) (g : Function) (f : ℕ) (k : Counters) (l : List ℕ) (o : Out (Unit {0})) → g.rec_of ≡ f
    → BodyStands o f texts (grown (begun before p) [] (with_types ps (begun before p).state)) k l → FunctionStands (finished g o) before texts k l
unfolding BodyStands FunctionStands finished pick
function-stands texts before p ps g f k l (made u c s) e h =
    subst (λ (r : ℕ). Holds texts (begun (before ++ (record { func = r; body = some c; vars = s.vars; labels = s.labels } ∷ [])) (record { strings = s.strings; floats = s.floats })) k l) (sym e) h
function-stands texts before p ps g f k l (failed x r) e h = h

-- visits that are those of the body are at most the function's expression records
pub counted : {tree text s s' : List ℕ} {f : ℕ} {a : Finished} → Good tree text → FunctionAt tree f
    → ((k : Counters) → a ≡ Finished.Done k → Visited tree s (body_visits (records tree) (function_of tree text f).body) k s') → FunctionVisited f tree text s a s'
counted {tree} {text} {f = f} good at v = record {
  visited = v;
  at_most = λ k e. omega (arith, (v k e).visits, function_at-most tree text good f at);
}

module _ {tree text l s : List ℕ} {f : ℕ} {k : Counters} (keyed : Keyed tree text s) (at : FunctionAt tree f) (room : Room k l)
    (are : k.records ≡ records tree) (h : FunctionsAfforded k (function_records (function_of tree text f))) where
  pub function-room : Room k l × (k.functions < k.records)
  unfolding function_records
  function-room = (room, omega (arith, h.functions))

  -- without a body
  pub function-bare : {b : Bool} {k' : Counters} {l' : List ℕ} → b ≡ is_some (function_of tree text f).body → not b ≡ true → length l' ≡ length l → Closes f false k l k' l'
      → ConvertsFunction tree text f k l s (Finished.Done k') l' s
  unfolding FunctionStands function_records pick
  function-bare {b} {k'} {l'} eb q long p =
      function-gives long (stays_refl tree 0 0 s) (record {
        room = p.room;
        spent = subst (λ (x : Counters). FunctionSpent k x (function_records (function_of tree text f))) (sym p.counts) (omega arith);
        stands = λ before pool held.
            subst (λ (x : Result (IrFunction × Pool)). FunctionStands x before (texts_of tree text) k' l') (sym (without_body tree text f pool (body_missing keyed.good at eb q)))
            (subst (λ (r : ℕ). Holds (texts_of tree text) (begun (before ++ (record { func = r; body = nothing; vars = []; labels = [] } ∷ [])) pool) k' l')
            (sym (function_rec tree text keyed.good f at)) (p.stands (texts_of tree text) (begun before pool) held (λ e. refl)));
      })

  -- which makes no visit
  pub bare-visited : {b : Bool} {k' : Counters} {l' : List ℕ} → Turns tree s k → b ≡ is_some (function_of tree text f).body → not b ≡ true → Closes f false k l k' l'
      → FunctionVisited f tree text s (Finished.Done k') s
  unfolding body_visits
  bare-visited turns eb q p =
      counted keyed.good at
      (λ z e.
      subst (λ (o : Option Block). Visited tree s (body_visits (records tree) o) z s) (sym (body_missing keyed.good at eb q))
      (visited_later k z (closed-instructions p e) (visited_stay (turns_refl tree s) turns)))

  pub vars-room : RoomFor k l (amount 0 (length (function_of tree text f).params) 0 0 0)
  unfolding function_records
  vars-room = record { room = room; affords = omega (arith, h.tables, room) }

  module _ {b : Bool} (eb : b ≡ is_some (function_of tree text f).body) (q : not b ≡ false) {s₁ : List ℕ} {a : OrRefused Scope} (p : ParametersMeet tree text f s s₁ a) where
    the_body : (function_of tree text f).body ≡ some (block_at tree text (word_of tree f E))
    the_body = body-there keyed.good at eb q

    record_count : function_records (function_of tree text f) ≡ 3 + (2 * length (function_of tree text f).params + block_records (block_at tree text (word_of tree f E)))
    unfolding function_records body_records
    record_count = ap (λ (o : Option Block). 3 + (2 * length (function_of tree text f).params + body_records o)) the_body

    pub function-refused : {x : ConvertError} → a ≡ Err x → ConvertsFunction tree text f k l s (Finished.Refused x) l s₁
    function-refused {x} d =
        function-stops refl (only-stays (names-only p))
        (λ before pool held. refused_run tree text f pool the_body (not_declared tree text f s s₁ p d))

    -- the visits are those of its body, which begins where nothing was typed yet
    pub function-visited : {s₂ : List ℕ} {z : Finished} → TurnsStay tree s s₁ → BlockVisited (word_of tree f E) tree text s₁ z s₂ → FunctionVisited f tree text s z s₂
    unfolding body_visits
    function-visited {s₂} same v =
        counted keyed.good at
        (λ k' e.
        subst (λ (o : Option Block). Visited tree s (body_visits (records tree) o) k' s₂) (sym the_body)
        (record { turns = (v k' e).turns; visits = omega (arith, visits_stay same, (v k' e).visits) }))

    module _ {sc : Scope} (d : a ≡ Ok sc) {k₁ : Counters} {l₁ : List ℕ} (v : VarsAdd (function_of tree text f).params k l k₁ l₁) where
      abbrev inner : Converter
      inner = record { scope = sc; counters = k₁; operands = 0; turn = 0 }

      is_declared : Declared tree text f s s₁ sc
      is_declared = declared tree text f s s₁ p d

      -- what the body needs
      pub body_needs : TurnsStay tree s s₁ → Turns tree s k → (Converting tree text l₁ s₁ inner × BlockAfforded tree text inner (word_of tree f E))
          × ((FunctionAt tree f × (k₁.functions < k₁.records)) × Turns tree s₁ k₁)
      body_needs same turns = (
        (
          record {
            ready = is_declared.ready;
            function = rw is_declared.function at;
            loop = loop-outside tree sc.inner is_declared.no_loop;
            records_are = v.spent.records ∙ are;
            room = v.next.room;
          },
          record {
            tables = omega (arith, h.tables, v.spent, record_count);
            stack = omega (arith, h.functions, record_count, are);
            names = omega (arith, h.functions, record_count, are, is_declared.names);
          },
        ),
        ((at, omega (arith, h.functions, record_count, v.spent.functions, v.spent.records)), turns_later k k₁ v.spent.instructions_stay (turns_stay same turns)),
      )

      -- from any tables at a function's beginning
      pub function_as : {l₂ s₂ : List ℕ} {z : Finished} → BodyAs inner f tree text l₁ s₁ z l₂ s₂ → ConvertsFunction tree text f k l s z l₂ s₂
      unfolding finished
      function_as {l₂} {s₂} {z} i = record {
        long = i.long ∙ v.long;
        stays = stays_then (omega arith) (omega arith) (only-stays (names-only p)) i.stays;
        gives = λ k' e. let y = i.gives k' e in record {
          room = y.room;
          spent = omega (arith, v.spent, y.spent, record_count);
          stands = λ before pool held.
              subst (λ (x : Result (IrFunction × Pool)). FunctionStands x before (texts_of tree text) k' l₂) (sym (run pool))
              (function-stands (texts_of tree text) before pool (function_of tree text f).params (function_of tree text f) f k' l₂
              (body_steps tree text f (scope_at tree text s₁ sc) (with_types (function_of tree text f).params (first tree text f pool the_body))) (function_rec tree text keyed.good f at)
              (y.stands (grown (begun before pool) [] (with_types (function_of tree text f).params (begun before pool).state))
              (vars_hold (function_of tree text f).params (begun before pool) v held)));
        };
        stops = λ e w before pool held.
            run pool ∙ ap (finished (function_of tree text f))
            ((i.stops e w).stops (grown (begun before pool) [] (with_types (function_of tree text f).params (begun before pool).state))
            (vars_hold (function_of tree text f).params (begun before pool) v held));
      }
        where
          run : (pool : Pool) → convert_func (program tree text) (all_keys tree text) (function_of tree text f) pool
              ≡ finished (function_of tree text f) (body_steps tree text f (scope_at tree text s₁ sc) (with_types (function_of tree text f).params (first tree text f pool the_body)))
          run pool = declared_run tree text f pool the_body (scope_at tree text s₁ sc) (function_rec tree text keyed.good f at) is_declared.asked
