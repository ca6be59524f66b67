-- All functions converted one after the other: where the loop starts, one function more, a refusal, the end; and the definition's three steps in a row.
-- What was asked equals what is left from the place at hand on, and what a function spends is taken from what all may add. Assumes nothing.
use mathlib.Core.Path.{◌≡◌, refl, sym, ap, ◌∙◌, subst}
use Prim.Native.Nat.{ℕ, ◌+◌, ◌*◌, ◌≤◌, ◌<◌}
use mathlib.Core.Bool.{Bool}
use mathlib.Core.List.{List, [], ◌∷◌, ◌++◌}
use native.Mathlib.Omega.{arith}
use lib.ListN.{length}
use Rattle.records.specs.Words.{word_at, records}
use Rattle.records.specs.Good.{Good}
use Rattle.records.specs.declared.convert_error.ConvertError.{ConvertError}
use Rattle.syntax.specs.Syntax.{Function}
use Rattle.syntax.specs.Decode.{program}
use Rattle.syntax.specs.Count.{function_records, all_records}
use Rattle.syntax.specs.Places.{function_of}
use Rattle.syntax.proofs.Held.{functions-records}
use Rattle.syntax.proofs.Judged.{judged_complete, judged-once}
use Rattle.conversion.specs.Ir.{IrProgram}
use Rattle.conversion.specs.ConvertError.{Result, ok, err, ◌>>=◌}
use Rattle.conversion.specs.Ir.{IrFunction, same_float}
use Rattle.conversion.specs.Functions.{Pool, get_all_functions, check_main, convert_func}
use Rattle.conversion.specs.Converter.{convert_all, convert}
use Rattle.conversion.specs.Visits.{body_visits, functions_visits}
use Rattle.conversion.specs.Written.{bytes_of, word, wide, encode_all, encode_fields, encode_instr, encode_var, encode_label, encode_functions, encode_string, encode_float, all_code, all_vars, all_labels}
use Rattle.ir.specs.declared.structs.Counters.{Counters}
use Rattle.ir.specs.Arena.{NumberedTexts, Table, LinkedEntries, float_entry_bucket, no_float, Holds, Room}
use Rattle.keys.specs.Keys.{function_places, all_keys, Mapped, Keyed}
use Rattle.keys.proofs.KeyLaws.{from, from_start, from_one, from_end}
use Rattle.texts.specs.Texts.{Kept}
use Rattle.std.specs.Prelude.{Result as StdResult, Ok, Err}
use Rattle.expressions.specs.Answers.{refusal, outcome_of}
use Rattle.expressions.specs.Slots.{visits_at, Forgets}
use Rattle.statements.specs.Lent.{Finished}
use Rattle.statements.specs.Converting.{Stays}
use Rattle.statements.specs.Turns.{Turns}
use Rattle.statements.proofs.StayLaws.{keyed_stays}
use Rattle.statements.specs.Meets.{texts_of}
use Rattle.functions.specs.Functions.{AllMeet, done, refused}
use Rattle.functions.specs.Bodies.{begun, FunctionsAfforded, FunctionSpent, FunctionStands, FunctionDone, ConvertsFunction, FunctionVisited}
use Rattle.converter.specs.Convert.{empty_pool, ProgramStands, ConvertsTo, all_functions, empty_counters}

-- ---- no tables yet

no-entries : {X : Type 0} (f : X → List ℕ) (w at : ℕ) (l : List ℕ) → ((x : X) → length (f x) ≡ w) → Table f w [] at 0 l
unfolding encode_all
no-entries f w at l h = record { bytes = record { is = refl }; width = h; count = refl }

no-links : {X : Type 0} (bucket : X → ℕ) (same : X → X → Bool) (past : X) (heads links : ℕ) (l : List ℕ) → LinkedEntries bucket same past heads links [] l
no-links bucket same past heads links l = record {
  linked = record {
    head_in = λ i b. absurd (omega arith);
    head_of = λ i b. absurd (omega arith);
    head_last = λ i b. absurd (omega arith);
    link_low = λ i b. absurd (omega arith);
    link_of = λ i j b. absurd (omega arith);
    link_last = λ i j b. absurd (omega arith);
  };
  distinct = λ i j b. absurd (omega arith);
}

pub nothing_held : (texts : NumberedTexts) (n : ℕ) (l : List ℕ) → Holds texts (begun [] empty_pool) (empty_counters n) l
unfolding all_code all_vars all_labels encode_functions encode_instr encode_fields encode_var encode_label encode_string encode_float word wide bytes_of
nothing_held texts n l = record {
  instructions_hold = no-entries encode_instr 32 (0 * n) l (λ x. refl);
  variables_hold = no-entries encode_var 4 (128 * n) l (λ x. refl);
  labels_hold = no-entries encode_label 8 (140 * n) l (λ x. refl);
  functions_hold = record { is = refl };
  strings_hold = no-entries encode_string 8 (196 * n) l (λ x. refl);
  floats_hold = no-entries encode_float 16 (204 * n) l (λ x. refl);
  slots_hold = record { has = λ i b. absurd (omega arith); number = λ i b. absurd (omega arith) };
  float_links_hold = no-links (float_entry_bucket n) same_float no_float (276 * n) (268 * n) l;
  string_slots_hold = record { has = λ i b. absurd (omega arith); numbered = λ i b. absurd (omega arith); slot = λ i b. absurd (omega arith) };
  before = record { functions_count = refl; instructions_before = refl; variables_before = refl; labels_before = refl };
  fits = record { labels_fit = tt; strings_stand = tt; floats_fit = tt };
}

-- ---- the loop

-- j functions are converted: they stand in the arena l, what was asked is what is left, and the visits made and those left are all; l₀ and s₀ are arena
-- and scratch at the start
pub record SoFar (tree text l₀ s₀ : List ℕ) (count : ℕ) (k : Counters) (j : ℕ) (l s : List ℕ) : Type 0 where
  pub converted : List IrFunction
  pub pool : Pool
  pub keyed : Keyed tree text s
  pub counted : count ≡ length (function_places tree)
  pub below : j ≤ count
  pub records_are : k.records ≡ records tree
  pub room : Room k l
  pub affords : FunctionsAfforded k (all_records (from tree text j))
  pub holds : Holds (texts_of tree text) (begun converted pool) k l
  pub asked : all_functions tree text ≡ convert_all (program tree text) (all_keys tree text) (from tree text j) converted pool
  pub turns : Turns tree s k
  pub visits : visits_at tree s + functions_visits (records tree) (from tree text j) ≡ functions_visits (records tree) (program tree text).functions
  pub long : length l ≡ length l₀
  pub scratch_long : length s ≡ length s₀

-- the functions are made of no more records than the tree has
all_afforded : (tree text : List ℕ) → Good tree text → all_records (from tree text 0) ≤ records tree
unfolding program
all_afforded tree text good =
    subst (λ (fs : List Function). all_records fs ≤ records tree) (from_start tree text)
    (functions-records tree text (records tree) (judged_complete tree text good.ok) (judged-once tree text good.ok))

pub all_start : (tree text l s : List ℕ) (count : ℕ) (k : Counters) → Keyed tree text s → count ≡ length (function_places tree) → 320 * records tree ≤ length l → Turns tree s (empty_counters (records tree))
    → k ≡ empty_counters (records tree)
    → SoFar tree text l s count k 0 l s
all_start tree text l s count k keyed counted room turns e =
    let few = keyed.good.few in
    let all = all_afforded tree text keyed.good in
    subst (λ (x : Counters). SoFar tree text l s count x 0 l s) (sym e) (record {
      converted = [];
      pool = empty_pool;
      keyed = keyed;
      counted = counted;
      below = omega arith;
      records_are = refl;
      room = omega (arith, room, few);
      affords = record { tables = omega (arith, all); functions = omega (arith, all) };
      holds = nothing_held (texts_of tree text) (records tree) l;
      asked = ap (λ (fs : List Function). convert_all (program tree text) (all_keys tree text) fs [] empty_pool) (from_start tree text);
      turns = turns;
      visits = let same = ap (functions_visits (records tree)) (from_start tree text) in omega (arith, turns.few, same);
      long = refl;
      scratch_long = refl;
    })

module _ (tree text l₀ s₀ : List ℕ) (count : ℕ) (k : Counters) (j : ℕ) (l s : List ℕ) (w : SoFar tree text l₀ s₀ count k j l s) where
  module _ (h : j < count) (f : ℕ) (is : f ≡ word_at s (4 * j)) where
    -- the function at hand, and those behind it
    one_more : from tree text j ≡ function_of tree text f ∷ from tree text (j + 1)
    one_more = from_one tree text j (omega (arith, w.counted))
        ∙ ap (λ (r : ℕ). function_of tree text r ∷ from tree text (j + 1)) (sym (is ∙ w.keyed.listed.listed j (omega (arith, w.counted))))

    records-left : all_records (from tree text j) ≡ function_records (function_of tree text f) + all_records (from tree text (j + 1))
    unfolding all_records
    records-left = ap all_records one_more

    pub one_afforded : FunctionsAfforded k (function_records (function_of tree text f))
    one_afforded = record { tables = omega (arith, w.affords.tables, records-left); functions = omega (arith, w.affords.functions, records-left) }

    -- what is asked, by what the function at hand gives
    asked-next : all_functions tree text ≡ (convert_func (program tree text) (all_keys tree text) (function_of tree text f) w.pool
        >>= λ q. convert_all (program tree text) (all_keys tree text) (from tree text (j + 1)) (w.converted ++ (q.0 ∷ [])) q.1)
    unfolding convert_all
    asked-next = w.asked ∙ ap (λ (fs : List Function). convert_all (program tree text) (all_keys tree text) fs w.converted w.pool) one_more

    visits-left : functions_visits (records tree) (from tree text j) ≡ body_visits (records tree) (function_of tree text f).body + functions_visits (records tree) (from tree text (j + 1))
    unfolding functions_visits
    visits-left = ap (functions_visits (records tree)) one_more

    module _ (a : Finished) (l' s' : List ℕ) (m : ConvertsFunction tree text f k l s a l' s') (p : FunctionVisited f tree text s a s') where
      spent-left : (k' : Counters) → FunctionSpent k k' (function_records (function_of tree text f)) → FunctionsAfforded k' (all_records (from tree text (j + 1)))
      unfolding function_records
      spent-left k' p = record {
        tables = omega (arith, w.affords.tables, records-left, p);
        functions = omega (arith, w.affords.functions, records-left, p.functions, p.records);
      }

      next-by : (k' : Counters) → a ≡ Finished.Done k' → FunctionDone tree text f k l k' l' → (x : Result (IrFunction × Pool))
          → convert_func (program tree text) (all_keys tree text) (function_of tree text f) w.pool ≡ x → FunctionStands x w.converted (texts_of tree text) k' l'
          → SoFar tree text l₀ s₀ count k' (j + 1) l' s'
      unfolding FunctionStands ◌>>=◌
      next-by k' z d (ok q) e stands = record {
        converted = w.converted ++ (q.0 ∷ []);
        pool = q.1;
        keyed = keyed_stays tree m.stays text w.keyed;
        counted = w.counted;
        below = omega arith;
        records_are = d.spent.records ∙ w.records_are;
        room = d.room;
        affords = spent-left k' d.spent;
        holds = stands;
        asked = asked-next ∙ ap (λ (x : Result (IrFunction × Pool)). x >>= λ y. convert_all (program tree text) (all_keys tree text) (from tree text (j + 1)) (w.converted ++ (y.0 ∷ [])) y.1) e;
        turns = (p.visited k' z).turns;
        visits = omega (arith, w.visits, visits-left, (p.visited k' z).visits);
        long = m.long ∙ w.long;
        scratch_long = m.stays.long ∙ w.scratch_long;
      }
      next-by k' z d (err e r) q stands = absurd stands

      pub all-next : (k' : Counters) → a ≡ Finished.Done k' → SoFar tree text l₀ s₀ count k' (j + 1) l' s'
      all-next k' e =
          let d = m.gives k' e in
          next-by k' e d (convert_func (program tree text) (all_keys tree text) (function_of tree text f) w.pool) refl (d.stands w.converted w.pool w.holds)

      pub all-refused : (e : ConvertError) → a ≡ Finished.Refused e → ConvertsTo tree text (all_functions tree text) l₀ s₀ (Finished.Refused e) l' s'
      unfolding ◌>>=◌
      all-refused e q = record {
        long = m.long ∙ w.long;
        scratch_long = m.stays.long ∙ w.scratch_long;
        gives = λ k' z. absurd (let y : ◌≡◌ {A = ℕ} 0 1 = cc in omega arith);
        visits = λ k' z. absurd (let y : ◌≡◌ {A = ℕ} 0 1 = cc in omega arith);
        stops = λ x z. let y : a ≡ Finished.Refused x = cc in
            asked-next ∙ ap (λ (r : Result (IrFunction × Pool)). r >>= λ y. convert_all (program tree text) (all_keys tree text) (from tree text (j + 1)) (w.converted ++ (y.0 ∷ [])) y.1)
            (m.stops x y w.converted w.pool w.holds);
      }

  program-stands : count ≤ j → ProgramStands (texts_of tree text) (records tree) (all_functions tree text) k l
  unfolding convert_all
  program-stands h = record {
    result = record { funcs = w.converted; strings = w.pool.strings; floats = w.pool.floats };
    converts = w.asked
        ∙ ap (λ (fs : List Function). convert_all (program tree text) (all_keys tree text) fs w.converted w.pool) (from_end tree text j (omega (arith, w.counted)));
    records_are = w.records_are;
    room = w.room;
    holds = w.holds;
  }

  -- none is left
  all-visits : count ≤ j → visits_at tree s ≡ functions_visits (records tree) (program tree text).functions
  unfolding functions_visits
  all-visits h =
      let none : functions_visits (records tree) (from tree text j) ≡ 0 = ap (functions_visits (records tree)) (from_end tree text j (omega (arith, w.counted))) in
      omega (arith, w.visits, none)

  pub all_end : count ≤ j → ConvertsTo tree text (all_functions tree text) l₀ s₀ (Finished.Done k) l s
  all_end h = record {
    long = w.long;
    scratch_long = w.scratch_long;
    gives = λ k' z. let y : k ≡ k' = cc in subst (λ (x : Counters). ProgramStands (texts_of tree text) (records tree) (all_functions tree text) x l) y (program-stands h);
    visits = λ k' z. all-visits h;
    stops = λ e z. absurd (let y : ◌≡◌ {A = ℕ} 0 1 = cc in omega arith);
  }

-- ---- forgetting, before the first function

module _ (tree s s' : List ℕ) (g : Forgets tree s s') where
  forgets_stays : Stays tree 0 0 s s'
  forgets_stays = record {
    long = g.same_length;
    listed = λ i h. g.below i (omega arith);
    names_open = λ i a b d. g.below i (omega arith);
    stack = λ i a b d. g.below i (omega arith);
    behind = λ i a b. g.below i (omega arith);
    told = λ j h. absurd (omega (arith, h));
  }

  -- the functions by key are as they were
  pub forgets_keyed : (text : List ℕ) → Keyed tree text s → Keyed tree text s'
  forgets_keyed text = keyed_stays tree forgets_stays text

  -- no turn has begun and no visit was made
  pub forgets_turns : 0 < records tree → Turns tree s' (empty_counters (records tree))
  forgets_turns some = record { latest = λ e h. omega (arith, g.turns e h); few = omega (arith, g.none_made some) }

-- ---- the three steps of `convert`

module _ (tree text s s₁ : List ℕ) (r : StdResult ℕ ConvertError) (m : AllMeet tree text s s₁ r) where
  -- what `get_all_functions` answered
  keys-refused : (e : ConvertError) → r ≡ Err e → get_all_functions (program tree text).functions [] ≡ refusal e
  keys-refused e q = go r m q
    where
      go : (x : StdResult ℕ ConvertError) → AllMeet tree text s s₁ x → x ≡ Err e → get_all_functions (program tree text).functions [] ≡ refusal e
      go x (done p k c) z = absurd (let y : ◌≡◌ {A = ℕ} 0 1 = cc in omega arith)
      go x (refused {e = f} p l g) z = let y : f ≡ e = cc in g ∙ ap refusal y

  pub keys-done : (count : ℕ) → r ≡ Ok count → Mapped tree text s₁ × (count ≡ length (function_places tree))
  keys-done count q = go r m q
    where
      go : (x : StdResult ℕ ConvertError) → AllMeet tree text s s₁ x → x ≡ Ok count → Mapped tree text s₁ × (count ≡ length (function_places tree))
      go x (done {count = n} p k c) z = let y : n ≡ count = cc in (k, sym y ∙ c)
      go x (refused p l g) z = absurd (let y : ◌≡◌ {A = ℕ} 0 1 = cc in omega arith)

  module _ (good : Good tree text) (room : 72 * records tree ≤ length s) where
    pub listed-long : length s₁ ≡ length s
    listed-long = go r m
      where
        go : (x : StdResult ℕ ConvertError) → AllMeet tree text s s₁ x → length s₁ ≡ length s
        go x (done p k c) = p.long
        go x (refused p l g) = p.long

    pub listed-room : 72 * records tree ≤ length s₁
    listed-room = omega (arith, listed-long, room)

    module _ (needsMain : Bool) where
      pub tree_unkeyed : (l : List ℕ) (e : ConvertError) → r ≡ Err e → ConvertsTo tree text (convert (program tree text) needsMain) l s (Finished.Refused e) l s₁
      unfolding convert ◌>>=◌ refusal
      tree_unkeyed l e q = record {
        long = refl;
        scratch_long = listed-long;
        gives = λ k z. absurd (let y : ◌≡◌ {A = ℕ} 0 1 = cc in omega arith);
        visits = λ k z. absurd (let y : ◌≡◌ {A = ℕ} 0 1 = cc in omega arith);
        stops = λ x z. let y : e ≡ x = cc in rw (keys-refused e q, y);
      }

      module _ (count : ℕ) (q : r ≡ Ok count) (o : StdResult (Unit {0}) ConvertError) (c : check_main (program tree text) needsMain ≡ outcome_of o) where
        pub tree_mainless : (l : List ℕ) (e : ConvertError) → o ≡ Err e → ConvertsTo tree text (convert (program tree text) needsMain) l s (Finished.Refused e) l s₁
        unfolding convert ◌>>=◌ outcome_of refusal
        tree_mainless l e p = record {
          long = refl;
          scratch_long = listed-long;
          gives = λ k z. absurd (let y : ◌≡◌ {A = ℕ} 0 1 = cc in omega arith);
          visits = λ k z. absurd (let y : ◌≡◌ {A = ℕ} 0 1 = cc in omega arith);
          stops = λ x z. let y : o ≡ Err x = cc in rw ((keys-done count q).0.distinct, c ∙ ap outcome_of y);
        }

        all_asked : o ≡ Ok tt → convert (program tree text) needsMain ≡ all_functions tree text
        unfolding convert ◌>>=◌ outcome_of
        all_asked p = rw ((keys-done count q).0.distinct, c ∙ ap outcome_of p)

        -- s₂ is what writing the keys' digests and forgetting leave of scratch
        pub tree_all : o ≡ Ok tt → (s₂ : List ℕ) → length s₂ ≡ length s₁ → (l l' s' : List ℕ) (a : Finished) → ConvertsTo tree text (all_functions tree text) l s₂ a l' s'
            → ConvertsTo tree text (convert (program tree text) needsMain) l s a l' s'
        tree_all p s₂ same l l' s' a m = rw (all_asked p) (record { long = m.long; scratch_long = m.scratch_long ∙ same ∙ listed-long; gives = m.gives; visits = m.visits; stops = m.stops })

-- the texts are numbered first, which leaves the scratch as long as it was
pub room-numbered : {n : ℕ} {s₀ s : List ℕ} → Kept n s₀ s → 72 * n ≤ length s₀ → 72 * n ≤ length s
room-numbered k h = omega (arith, k.long, h)

-- scratch may have been another of one length
pub tree_longer : {tree text s s₀ l l' s' : List ℕ} {x : Result IrProgram} {a : Finished} → length s ≡ length s₀ → ConvertsTo tree text x l s a l' s' → ConvertsTo tree text x l s₀ a l' s'
tree_longer e m = record { long = m.long; scratch_long = m.scratch_long ∙ e; gives = m.gives; visits = m.visits; stops = m.stops }

pub tree_numbered : {tree text s s₀ l l' s' : List ℕ} {x : Result IrProgram} {a : Finished} → Kept (records tree) s₀ s → ConvertsTo tree text x l s a l' s' → ConvertsTo tree text x l s₀ a l' s'
tree_numbered k m = tree_longer k.long m
