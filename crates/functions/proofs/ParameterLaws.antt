-- The parameters of a function in its scope: one declared is one more of the definition's, room never runs out, and the loop's turns.
-- By what `declare` owes, and by the bytes outside what it writes. Assumes nothing.
use mathlib.Core.Path.{◌≡◌, refl, sym, ap, ◌∙◌, subst}
use mathlib.Core.Logic.{inl, inr}
use mathlib.Core.Bool.{not, false}
use mathlib.Core.List.{List, [], ◌∷◌, ◌++◌, append-nil, append_assoc}
use Prim.Native.Nat.{ℕ, suc, ◌+◌, ◌*◌, ◌≤◌, ◌<◌}
use native.Mathlib.Nat.{add-zero}
use native.Mathlib.Omega.{arith}
use lib.Dec.{eqb}
use lib.ListN.{length, length-append}
use borrow.Author.Tests.{eqb-true}
use Rattle.laws.specs.Fix.{pick}
use Rattle.laws.proofs.Tests.{and_left}
use Rattle.records.specs.Words as Words
use Rattle.records.specs.Words.{kind_of, word_of, text_at, records, A, B, C}
use Rattle.records.specs.Rules.{item_ok}
use Rattle.records.specs.declared.shape.Role.TheVariants.{Parameters}
use Rattle.records.specs.declared.convert_error.ConvertError.{ConvertError}
use Rattle.syntax.specs.Syntax.{Param}
use Rattle.syntax.specs.Decode.{text_of}
use Rattle.conversion.specs.ConvertError.{AlreadyDeclared}
use Rattle.conversion.specs.Types.{is_some, some_and}
use Rattle.conversion.specs.Scope.{Variable, find_variable, with_variable}
use Rattle.conversion.specs.Written.{bool_number}
use Rattle.ir.specs.declared.structs.VarId.{VarId}
use Rattle.scope.specs.declared.Scope.{Scope}
use Rattle.scope.specs.Open.{variables_at, loop_number, scope_at, variable_named, NameAfforded, Added, Taken, DeclareMeets}
use Rattle.scope.proofs.ScopeLaws.{scope-more}
use Rattle.std.specs.Prelude.{Option, Some, None, Ok, Err, ok_or}
use Rattle.expressions.specs.Answers.{OrRefused}
use Rattle.syntax.specs.Places.{TypeAt, ParamsAt, function_of, params_at}
use Rattle.texts.specs.Texts.{has_text}
use Rattle.keys.specs.Keys.{Keyed}
use Rattle.expressions.specs.Slots.{original_of, original_word, Asked, Ready}
use Rattle.expressions.proofs.OriginalLaws.{origin_text, origin_below, kind-asked}
use Rattle.statements.specs.Converting.{Stays}
use Rattle.statements.specs.Turns.{TurnsStay}
use Rattle.statements.proofs.AddedLaws.{added-byte, added-stays, added-ready}
use Rattle.statements.proofs.StayLaws.{number_word}
use Rattle.expressions.specs.Answers.{refusal}
use Rattle.functions.specs.Parameters.{parameter_of, with_params, empty_in, until_taken, parameter_added, parameters_added, NamesOnly, OneMore, ParametersMeet}
use Rattle.syntax.proofs.Lists.{left, left_some, cell-is, next-list, next_falls, left-most, params_end, parameter_item, parameter_type_lem}

-- ---- what differs

pub only_refl : (tree s : List ℕ) → NamesOnly tree s s
only_refl tree s = record { same_length = refl; before = λ i h. refl; between = λ i a b. refl; behind = λ i h. refl }

only_then : {tree s s₁ s₂ : List ℕ} → NamesOnly tree s s₁ → NamesOnly tree s₁ s₂ → NamesOnly tree s s₂
only_then p q = record {
  same_length = q.same_length ∙ p.same_length;
  before = λ i h. q.before i h ∙ p.before i h;
  between = λ i a b. q.between i a b ∙ p.between i a b;
  behind = λ i h. q.behind i h ∙ p.behind i h;
}

-- so nothing was typed
pub only-turns : {tree s s' : List ℕ} → NamesOnly tree s s' → TurnsStay tree s s'
only-turns p = record { slots = λ i a b. p.before i b; behind = λ i h. p.behind i (omega arith) }

pub only-stays : {tree s s' : List ℕ} → NamesOnly tree s s' → Stays tree 0 0 s s'
only-stays p = record {
  long = p.same_length;
  listed = λ i h. p.before i (omega arith);
  names_open = λ i a b d. absurd (omega arith);
  stack = λ i a b d. absurd (omega arith);
  behind = λ i a b. p.between i (omega arith) b;
  told = λ j h. absurd (omega (arith, h));
}

pub names-only : {tree text s s' : List ℕ} {f : ℕ} {a : OrRefused Scope} → ParametersMeet tree text f s s' a → NamesOnly tree s s'
names-only (ParametersMeet.done asked ready inner function only bytes) = only
names-only (ParametersMeet.refused asked only bytes) = only

one_only : {tree text s s' : List ℕ} {sc : Scope} {p : Param} {a : OrRefused Scope} → OneMore tree text sc p s s' a → NamesOnly tree s s'
one_only (OneMore.done r is free adds only wrote) = only
one_only {tree = tree} {s = s} (OneMore.refused e is same) = subst (NamesOnly tree s) (sym same) (only_refl tree s)

pub one_more-turns : {tree text s s' : List ℕ} {sc : Scope} {p : Param} {a : OrRefused Scope} → OneMore tree text sc p s s' a → TurnsStay tree s s'
one_more-turns m = only-turns (one_only m)

-- one more behind the others
added_more : (tree s : List ℕ) (l : List Param) (p : Param) (k m : ℕ) (x : List ℕ) → m ≡ k + length l
    → parameters_added tree s (l ++ (p ∷ [])) k x ≡ parameter_added tree s p m (parameters_added tree s l k x)
unfolding parameters_added
added_more tree s [] p k m x e = let z : k ≡ m = omega (arith, e) in ap (λ (i : ℕ). parameter_added tree s p i x) z
added_more tree s (q ∷ l) p k m x e = added_more tree s l p (suc k) m (parameter_added tree s q k x) (omega (arith, e))

-- ---- one parameter

module _ (tree text s : List ℕ) (sc : Scope) (ready : Ready tree text s sc) (cell : ℕ) (ps : ParamsAt tree cell)
    (more-cells : cell ≡ Words.none → ⊥) (few : sc.names + cell < records tree) where
  abbrev item : ℕ
  item = word_of tree cell A

  abbrev parameter : Param
  parameter = record { rec_of = item; name = text_of tree text item A; ty = word_of tree item C }

  the_type : TypeAt tree (word_of tree item C)
  the_type = parameter_type_lem tree text ready.keyed.good cell (cell-is tree text ready.keyed.good Parameters cell ps more-cells)

  pub item-inside : item * 32 + 32 ≤ length tree
  item-inside = omega (arith, (cell-is tree text ready.keyed.good Parameters cell ps more-cells).item, few, ready.keyed.good.whole)

  pub item-word : item < 4294967296
  item-word = omega (arith, (cell-is tree text ready.keyed.good Parameters cell ps more-cells).item, few, ready.keyed.good.few)

  pub names-word : sc.names < 4294967296
  names-word = omega (arith, few, ready.keyed.good.few)

  -- its name can be looked for
  item-asked : Asked tree text s sc item
  unfolding item_ok has_text
  item-asked =
      let c = cell-is tree text ready.keyed.good Parameters cell ps more-cells in
      let K = eqb (kind_of tree item) 24 in
      kind-asked 24 refl ready (record {
        below = omega (arith, c.item, few);
        kind = eqb-true (kind_of tree item) 24 (and_left K (not (eqb (word_of tree item C) Words.none)) c.item_ok_lem);
      })

  module _ (v : VarId) (e₀ : v.0 ≡ sc.names) (e₁ : v.1 ≡ word_of tree item C) where
    -- each parameter has a record
    pub is_afforded : NameAfforded sc v
    is_afforded = record {
      names = omega (arith, few, ready.scoped.records_are);
      place = names-word;
      type = omega (arith, e₁, the_type.below, ready.keyed.good.few);
    }

    name_is_lem : text_at text (original_word tree s item A) (original_word tree s item B) ≡ parameter.name
    name_is_lem = origin_text item-asked

    is_param : variable_named text (original_word tree s item A) (original_word tree s item B) v false ≡ parameter_of parameter sc.names
    is_param = rw (name_is_lem, e₀, e₁)

    module _ (s' : List ℕ) where
      pub name-taken : (e : ConvertError) → e ≡ record { kind = AlreadyDeclared; place = item }
          → Taken text (original_of tree s item) (original_word tree s item A) (original_word tree s item B) v false sc s s'
          → OneMore tree text sc parameter s s' (Err e)
      unfolding is_some some_and find_variable scope_at
      name-taken e q t = OneMore.refused q (rw (← name_is_lem, t.found) refl) t.same

      module _ (sc' : Scope) (m : Added text (original_of tree s item) (original_word tree s item A) (original_word tree s item B) v false sc s s' sc') where
        written : s' ≡ parameter_added tree s parameter sc.names s
        unfolding bool_number
        written = m.written ∙ rw (ready.scoped.records_are, e₀, e₁, add-zero (2 * word_of tree item C)) refl

        only : NamesOnly tree s s'
        only =
            let byte = added-byte item-asked is_afforded m in
            let are = ready.scoped.records_are in
            let inside = origin_below item-asked in record {
              same_length = (added-stays item-asked is_afforded m 0).long;
              before = λ i h. byte i (inl (omega (arith, are))) (inl (omega (arith, are)));
              between = λ i a b. byte i (inr (omega (arith, are, few))) (inl (omega (arith, are)));
              behind = λ i h. byte i (inr (omega (arith, are, few))) (inr (omega (arith, are, inside)));
            }

        pub one_more : OneMore tree text sc parameter s s' (Ok sc')
        unfolding is_some some_and find_variable scope_at
        one_more =
            OneMore.done (added-ready item-asked is_afforded m (subst (TypeAt tree) (sym e₁) the_type) ready) m.scope (rw (← name_is_lem, m.free) refl)
            (scope-more tree text (original_of tree s item) (original_word tree s item A) (original_word tree s item B) v false sc s s' sc' m
            ∙ ap (λ (x : Variable). with_variable x (scope_at tree text s sc)) is_param)
            only written

  -- as the code has them: p is the parameter's record, and y its type
  module _ (p : ℕ) (ep : p ≡ item) where
    pub place_inside : p * 32 + 32 ≤ length tree
    place_inside = rw ep item-inside

    pub place-word : p < 4294967296
    place-word = rw ep item-word

    pub place-asked : Asked tree text s sc p
    place-asked = subst (Asked tree text s sc) (sym ep) item-asked

    module _ (y : ℕ) (ey : y ≡ word_of tree p C) (v : VarId) (e₀ : v.0 ≡ sc.names) (e₁ : v.1 ≡ y) where
      type_of-item : v.1 ≡ word_of tree item C
      type_of-item = e₁ ∙ ey ∙ ap (λ (i : ℕ). word_of tree i C) ep

      pub met_room : NameAfforded sc v
      met_room = is_afforded v e₀ type_of-item

      module _ (s' : List ℕ) where
        met_as : (r : Option Scope) → DeclareMeets text (original_of tree s p) (original_word tree s p A) (original_word tree s p B) v false sc s s' r
            → DeclareMeets text (original_of tree s item) (original_word tree s item A) (original_word tree s item B) v false sc s s' r
        met_as r m = subst (λ (i : ℕ). DeclareMeets text (original_of tree s i) (original_word tree s i A) (original_word tree s i B) v false sc s s' r) ep m

        pub met : (r : Option Scope) → DeclareMeets text (original_of tree s p) (original_word tree s p A) (original_word tree s p B) v false sc s s' r
            → OneMore tree text sc parameter s s' (ok_or r (record { kind = AlreadyDeclared; place = p }))
        unfolding DeclareMeets
        met (Some sc') m = one_more v e₀ type_of-item s' sc' (met_as (Some sc') m)
        met None m = name-taken v e₀ type_of-item s' (record { kind = AlreadyDeclared; place = p }) (rw ep refl) (met_as None m)

-- ---- the loop

pub record Turn (tree text : List ℕ) (f : ℕ) (s₀ s : List ℕ) (cell : ℕ) (sc : Scope) : Type 0 where
  pub ready : Ready tree text s sc
  pub cells : ParamsAt tree cell
  pub few : sc.names + left cell ≤ records tree
  pub no_loop : sc.inner ≡ Words.none
  pub of_function : sc.function ≡ f
  pub only : NamesOnly tree s₀ s
  pub asked : with_params (function_of tree text f).params 0 (empty_in tree text f) ≡ with_params (params_at tree text cell) sc.names (scope_at tree text s sc)
  pub before : List Param
  pub so_many : length before ≡ sc.names
  pub all : (function_of tree text f).params ≡ before ++ params_at tree text cell
  pub declared : until_taken (function_of tree text f).params 0 (empty_in tree text f) ≡ before ++ until_taken (params_at tree text cell) sc.names (scope_at tree text s sc)
  pub bytes : s ≡ parameters_added tree s₀ before 0 s₀

module _ (tree text : List ℕ) (f : ℕ) (s₀ : List ℕ) where
  pub start : (w : ℕ) (sc : Scope) → Keyed tree text s₀ → (function_of tree text f).params ≡ params_at tree text w → ParamsAt tree w
      → sc ≡ record { records = records tree; names = 0; inner = Words.none; function = f } → Turn tree text f s₀ s₀ w sc
  unfolding variables_at parameters_added scope_at loop_number pick
  start w sc k e l q = record {
    ready = record {
      keyed = k;
      scoped = record {
        records_are = rw q refl;
        room = record { scratch = rw q k.listed.room; names_in = rw q (omega arith) };
        types = λ j h. absurd (none_open j (rw q at h));
        named = λ j h. absurd (none_open j (rw q at h));
      };
    };
    cells = l;
    few = rw q (omega (arith, left-most tree text k.good Parameters w l));
    no_loop = rw q refl;
    of_function = rw q refl;
    only = only_refl tree s₀;
    asked = rw (e, q, empty) refl;
    before = [];
    so_many = rw q refl;
    all = e;
    declared = rw (e, q, empty) refl;
    bytes = refl;
  }
    where
      none_open : (j : ℕ) → j < 0 → ⊥
      none_open j h = omega (arith, h)

      empty : scope_at tree text s₀ (record { records = records tree; names = 0; inner = Words.none; function = f }) ≡ empty_in tree text f
      empty = refl

  module _ (s : List ℕ) (cell : ℕ) (sc : Scope) (t : Turn tree text f s₀ s cell sc) where
    pub turn_end : cell ≡ Words.none → ParametersMeet tree text f s₀ s (Ok sc)
    unfolding with_params
    turn_end e =
        ParametersMeet.done {sc = sc} (t.asked ∙ rw (e, params_end tree text t.ready.keyed.good) refl) t.ready t.no_loop t.of_function t.only
        (t.bytes ∙ ap (λ (l : List Param). parameters_added tree s₀ l 0 s₀) (sym whole))
      where
        whole : (function_of tree text f).params ≡ t.before
        whole = t.all ∙ rw (e, params_end tree text t.ready.keyed.good) (append-nil t.before)

    module _ (n : cell ≡ Words.none → ⊥) where
      pub still_few : sc.names + cell < records tree
      still_few = omega (arith, t.few, left_some cell n)

      abbrev here : Param
      here = record { rec_of = word_of tree cell A; name = text_of tree text (word_of tree cell A) A; ty = word_of tree (word_of tree cell A) C }

      split : params_at tree text cell ≡ here ∷ params_at tree text (word_of tree cell B)
      split = parameter_item tree text t.ready.keyed.good cell (cell-is tree text t.ready.keyed.good Parameters cell t.cells n)

      pub turn-refused : (s' : List ℕ) (e : ConvertError) → OneMore tree text sc here s s' (Err e)
          → ParametersMeet tree text f s₀ s' (Err e) × (length s' ≡ length s₀)
      unfolding with_params until_taken pick refusal
      turn-refused s' e (OneMore.refused q taken k) = (
        ParametersMeet.refused {e = e} (t.asked ∙ rw (split, taken, q) refl) (subst (NamesOnly tree s₀) (sym k) t.only)
            (k ∙ t.bytes ∙ ap (λ (l : List Param). parameters_added tree s₀ l 0 s₀) (sym those)),
        rw k t.only.same_length,
      )
        where
          those : until_taken (function_of tree text f).params 0 (empty_in tree text f) ≡ t.before
          those = t.declared ∙ rw (split, taken) (append-nil t.before)

      pub turn-next : (s' : List ℕ) (sc' : Scope) (w : ℕ) → w ≡ word_of tree cell B → OneMore tree text sc here s s' (Ok sc')
          → Turn tree text f s₀ s' w sc'
      unfolding with_params until_taken pick with_variable
      turn-next s' sc' w e (OneMore.done r is free adds only wrote) = record {
        ready = r;
        cells = next-list tree text t.ready.keyed.good Parameters cell w t.cells n e;
        few = omega (arith, next-number, t.few, next_falls tree text t.ready.keyed.good Parameters cell w t.cells n e);
        no_loop = ap (λ (x : Scope). x.inner) is ∙ t.no_loop;
        of_function = ap (λ (x : Scope). x.function) is ∙ t.of_function;
        only = only_then t.only only;
        asked = t.asked ∙ rw (split, free, e, adds, next-number) refl;
        before = t.before ++ (here ∷ []);
        so_many = length-append t.before (here ∷ []) ∙ omega (arith, t.so_many, next-number);
        all = t.all ∙ rw (split, e) (sym (append_assoc t.before (here ∷ []) (params_at tree text (word_of tree cell B))));
        declared = t.declared ∙ rw (split, free, e, adds, next-number) (sym (append_assoc t.before (here ∷ []) _));
        bytes = wrote ∙ number_same ∙ ap (parameter_added tree s₀ here sc.names) t.bytes
            ∙ sym (added_more tree s₀ t.before here 0 sc.names s₀ (omega (arith, t.so_many)));
      }
        where
          -- the name's number is read from the scratch at hand, and stands as it stood at the start
          number_same : parameter_added tree s here sc.names s ≡ parameter_added tree s₀ here sc.names s
          number_same = rw (number_word tree (only-stays t.only) (word_of tree cell A) (item-asked tree text s sc t.ready cell t.cells n still_few).below)

          next-number : sc'.names ≡ suc sc.names
          next-number = ap (λ (x : Scope). x.names) is ∙ omega arith
