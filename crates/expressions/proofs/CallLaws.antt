-- What a call runs, as the code meets it: the functions that literals fit, the cast, and which of them is taken.
-- By the cases of the definitions, and by the listed functions one after the other. Assumes nothing.
use Rattle.std.specs.Prelude.{Option as StdOption, Some, None, Ok, Err}
use Rattle.expressions.specs.declared.answers.Callee as Code
use Rattle.expressions.specs.Answers.{OrRefused}
use mathlib.Core.Path.{◌≡◌, refl, sym, ap, ap₂, ◌∙◌}
use mathlib.Core.Bool.{Bool, true, false, not, ◌&&◌}
use mathlib.Core.List.{List, [], ◌∷◌, ◌++◌, append-nil}
use mathlib.Core.Logic.{⊎_elim}
use mathlib.Core.Option.{none as nothing}
use Prim.Native.Nat.{ℕ, zero, suc, ◌+◌, ◌*◌, ◌^◌, ◌<◌, ◌≤◌}
use native.Mathlib.Nat.{eq-or-lt_of_le}
use native.Mathlib.Omega.{arith}
use lib.Dec.{eqb}
use lib.ListN.{length, get_or}
use Rattle.laws.specs.Chain.{link_to}
use Rattle.laws.specs.Fix.{pick}
use Rattle.laws.proofs.ChainLaws.{link_within, link_here, link_above, link_falls}
use Rattle.laws.proofs.Tests.{tested, and_left, and_right}
use Rattle.records.specs.declared.convert_error.ConvertError.{ConvertError}
use Rattle.records.specs.Words.{byte_at, word_at, word_of, text_at, records, A}
use Rattle.records.specs.Kinds.{kind_call}
use Rattle.records.specs.Good.{Good}
use Rattle.records.proofs.GoodLaws.{call-a, call-c}
use Rattle.syntax.specs.Syntax.{Text, Function, Program}
use Rattle.syntax.specs.Decode.{program, text_of, type_at}
use Rattle.conversion.specs.ConvertError.{Result, err, ◌>>=◌, UnknownFunction, AmbiguousCall, InvalidCast}
use Rattle.conversion.specs.Ir.{same_text}
use Rattle.conversion.specs.Types.{can_cast}
use Rattle.conversion.specs.Expressions.{TypedArg, Callee, Functions, cast_verb, is_mangled, takes_both, target_type, source_type, cast_checked, cast_to, cast_type, by_literals, find_functions_by_literals, find_exact_function, chosen, exact_or, resolve_function, resolve_typed}
use Rattle.expressions.specs.declared.answers.Candidates.{Candidates}
use Rattle.expressions.specs.declared.arguments.Call.{Call}
use Rattle.syntax.specs.Places.{IsKind, TypeAt, FunctionAt, ArgsAt, function_of, args_at}
use Rattle.keys.specs.Keys.{records_below, functions_of, all_keys, key_slot_at, name_head_at, is_function, name_bucket, Keyed, function_found, FunctionFound}
use Rattle.expressions.specs.Slots.{slotted, ArgsTyped}
use Rattle.expressions.specs.Calls.{typed_at, verb_of, CallAt, Called}
use Rattle.expressions.proofs.OriginalLaws.{kind-has}
use Rattle.syntax.proofs.Records.{name_record, function-name}
use Rattle.texts.specs.Texts.{has_text, original, original_at, Numbered}
use Rattle.texts.proofs.TextLaws.{same_numbers}
use Rattle.expressions.specs.Answers.{refusal, cast_result, found_number, callee_of, IsCast, CastIs, IsCallee, CalleeIs, CandidatesAre, AreAll, OneFunction, nobody, one, several}
use Rattle.keys.proofs.ChainLaws.{name-has, function-here, name_bucket-is, name_bucket-here}
use Rattle.keys.proofs.FunctionLaws.{found-function, all_functions_lem, functions-append}
use Rattle.expressions.proofs.ExactLaws.{verb-below}
use borrow.Author.Tests.{not-true, not-false, eq-eqb, eqb-true}

-- ---- the functions that literals fit

-- the numbers of the function's name and of the verb tell whether the texts are the same
module _ (tree text s : List ℕ) (c : Call) (h : Called tree text s c) (f : ℕ) (at : FunctionAt tree f) where
  same_name : same_text (function_of tree text f).name (verb_of tree text s c) ≡ eqb (original tree text (word_of tree f A)) c.verb
  unfolding text_of
  same_name =
      let q = h.numbered in
      let good = h.argued.good in
      rw (function-name tree text good f at, ← q.text_is, q.number)
      (same_numbers tree text (word_of tree f A) q.of (name_record tree text good f at).below q.below (name-has tree text good f at) q.has_its_text)

by_append : (P : Program) (K : Functions) (verb : Text) (l : List TypedArg) (a b : List Function) → by_literals P K verb l (a ++ b) ≡ by_literals P K verb l a ++ by_literals P K verb l b
unfolding by_literals pick
by_append P K verb l [] b = refl
by_append P K verb l (f ∷ a) b = go (same_text f.name verb && is_mangled f && takes_both P K f l) (by_append P K verb l a b)
  where
    go : (x : Bool) → by_literals P K verb l (a ++ b) ≡ by_literals P K verb l a ++ by_literals P K verb l b
        → pick x (f ∷ by_literals P K verb l (a ++ b)) (by_literals P K verb l (a ++ b)) ≡ pick x (f ∷ by_literals P K verb l a) (by_literals P K verb l a) ++ by_literals P K verb l b
    go true e = ap (f ∷◌) e
    go false e = e

-- of all, what was found so far, and what is left before it
pub data SoFar (tree text : List ℕ) (all rest : List Function) : Candidates → Type 0 where
  nobody_yet : all ≡ rest → SoFar tree text all rest Candidates.Nobody
  one_yet : {f : ℕ} → FunctionAt tree f → all ≡ rest ++ (function_of tree text f ∷ []) → SoFar tree text all rest (Candidates.One f)

module _ (tree text : List ℕ) (verb : Text) (l : List TypedArg) where
  abbrev fitting : List Function → List Function
  fitting = by_literals (program tree text) (all_keys tree text) verb l

  -- those among the first r records
  unfoldable pub literals_below : ℕ → List Function
  literals_below r = fitting (functions_of tree text (records_below tree r))

  -- whether the function of record f is one of them
  abbrev is_one : ℕ → Bool
  is_one f = same_text (function_of tree text f).name verb && is_mangled (function_of tree text f) && takes_both (program tree text) (all_keys tree text) (function_of tree text f) l

  abbrev pub every_one : List Function
  every_one = find_functions_by_literals (program tree text) (all_keys tree text) verb l

  every_one_lem : every_one ≡ literals_below (records tree)
  unfolding find_functions_by_literals literals_below
  every_one_lem = ap fitting (all_functions_lem tree text)

  below_one : (r : ℕ) → literals_below (suc r) ≡ literals_below r ++ fitting (functions_of tree text (pick (is_function tree r) (r ∷ []) []))
  unfolding literals_below records_below
  below_one r =
      ap fitting (functions-append tree text (records_below tree r) (pick (is_function tree r) (r ∷ []) []))
      ∙ by_append (program tree text) (all_keys tree text) verb l (functions_of tree text (records_below tree r)) (functions_of tree text (pick (is_function tree r) (r ∷ []) []))

  below_hit : (r : ℕ) → is_function tree r ≡ true → is_one r ≡ true → literals_below (suc r) ≡ literals_below r ++ (function_of tree text r ∷ [])
  unfolding functions_of by_literals pick
  below_hit r t e = below_one r ∙ rw (t, e) refl

  below_miss : (r : ℕ) → (is_function tree r && is_one r) ≡ false → literals_below (suc r) ≡ literals_below r
  unfolding functions_of by_literals pick
  below_miss r e = below_one r ∙ ap (λ (x : List Function). literals_below r ++ x) (go (is_function tree r) e) ∙ append-nil (literals_below r)
    where
      go : (b : Bool) → (b && is_one r) ≡ false → fitting (functions_of tree text (pick b (r ∷ []) [])) ≡ []
      go true q = rw q refl
      go false q = refl

  -- none from v on is one of them
  below_flat : (v r : ℕ) → v ≤ r → ((i : ℕ) → v ≤ i → i < r → (is_function tree i && is_one i) ≡ false) → literals_below r ≡ literals_below v
  below_flat v zero h none = let q : v ≡ 0 = omega arith in rw q refl
  below_flat v (suc r) h none =
      ⊎_elim
      (λ (q : v ≡ suc r). rw q refl)
      (λ (k : v < suc r).
      below_miss r (none r (omega arith) (omega arith)) ∙ below_flat v r (omega arith) (λ i a b. none i a (omega arith)))
      (eq-or-lt_of_le h)

-- two functions at the end are several
two_found : (tree text : List ℕ) (l : List Function) (f g : Function) → AreAll tree text Candidates.Several ((l ++ (f ∷ [])) ++ (g ∷ []))
unfolding AreAll
two_found tree text [] f g = tt
two_found tree text (x ∷ []) f g = tt
two_found tree text (x ∷ y ∷ l) f g = tt

-- the walk along the chain of the verb's number stands at v: those found are all from there on
pub record NameWalk (tree text s : List ℕ) (c : Call) (v : ℕ) (found : Candidates) : Type 0 where
  pub within : v ≤ records tree
  pub here : (k : ℕ) → v ≡ suc k → name_bucket tree text k ≡ c.verb
  pub so_far : SoFar tree text (every_one tree text (verb_of tree text s c) (typed_at tree text s c.first)) (literals_below tree text (verb_of tree text s c) (typed_at tree text s c.first) v) found

module _ (tree text s : List ℕ) (K : Keyed tree text s) (c : Call) (h : Called tree text s c) where
  abbrev verb : Text
  verb = verb_of tree text s c

  abbrev given : List TypedArg
  given = typed_at tree text s c.first

  abbrev every : List Function
  every = every_one tree text verb given

  abbrev before : ℕ → List Function
  before = literals_below tree text verb given

  -- one that fits is in the chain
  fits-chained : (i : ℕ) → i < records tree → (is_function tree i && is_one tree text verb given i) ≡ true → name_bucket tree text i ≡ c.verb
  fits-chained i k e =
      let t : is_function tree i ≡ true = and_left (is_function tree i) _ e in
      let one : is_one tree text verb given i ≡ true = and_right (is_function tree i) _ e in
      let both : (same_text (function_of tree text i).name verb && is_mangled (function_of tree text i)) ≡ true =
      and_left (same_text (function_of tree text i).name verb && is_mangled (function_of tree text i)) _ one in
      let name : same_text (function_of tree text i).name verb ≡ true = and_left (same_text (function_of tree text i).name verb) _ both in
      let mangled : is_mangled (function_of tree text i) ≡ true = and_right (same_text (function_of tree text i).name verb) _ both in
      name_bucket-is tree text i t mangled
      ∙ eqb-true (original tree text (word_of tree i A)) c.verb (sym (same_name tree text s c h i (function-here tree text i k t)) ∙ name)

  -- so none is left out between a number and the next of the chain
  skipped : (r u : ℕ) → r ≤ records tree → u ≡ link_to (name_bucket tree text) r c.verb → before r ≡ before u
  skipped r u k e =
      below_flat tree text verb given u r (link_within (name_bucket tree text) r c.verb u e)
      (λ i a b.
      tested (is_function tree i && is_one tree text verb given i)
      (λ t. absurd (link_above (name_bucket tree text) r c.verb u i e a b (fits-chained i (omega arith) t)))
      (λ t. t))

  pub name_start : (v : ℕ) → v ≡ word_at s (name_head_at (records tree) c.verb) → NameWalk tree text s c v Candidates.Nobody
  name_start v e =
      let link : v ≡ link_to (name_bucket tree text) (records tree) c.verb = e ∙ K.by_name.heads c.verb (verb-below tree text s c h) in
      record {
        within = link_within (name_bucket tree text) (records tree) c.verb v link;
        here = λ k z. link_here (name_bucket tree text) (records tree) c.verb v k link z;
        so_far = nobody_yet (every_one_lem tree text verb given ∙ skipped (records tree) v (omega arith) link);
      }

  pub name_end : (v : ℕ) (found : Candidates) → v ≤ 0 → NameWalk tree text s c v found → CandidatesAre tree text found every
  unfolding AreAll literals_below records_below functions_of by_literals
  name_end v found z w = go found w.so_far
    where
      empty : before v ≡ []
      empty = let q : v ≡ 0 = omega arith in rw q refl

      go : (found : Candidates) → SoFar tree text every (before v) found → CandidatesAre tree text found every
      go found (nobody_yet e) = record { are = e ∙ empty; function = nobody }
      go found (one_yet {f = g} a e) = record { are = e ∙ ap (λ (x : List Function). x ++ (function_of tree text g ∷ [])) empty; function = one a }

  -- the walk stands one past k
  module _ (v k : ℕ) (found : Candidates) (w : NameWalk tree text s c v found) (z : v ≡ suc k) where
    name_below : k < records tree
    name_below = omega (arith, w.within)

    in_chain : name_bucket tree text k < records tree
    in_chain = omega (arith, w.here k z, verb-below tree text s c h)

    pub name-function : FunctionAt tree k
    name-function = function-here tree text k name_below (name_bucket-here tree text k in_chain).0

    pub name-less : (u : ℕ) → u ≡ word_at s (key_slot_at (records tree) k) → u < v
    name-less u e = omega (arith, link_falls (name_bucket tree text) k u (e ∙ K.by_name.links k name_below in_chain))

    one-is : (b : Bool) → b ≡ takes_both (program tree text) (all_keys tree text) (function_of tree text k) given → is_one tree text verb given k ≡ b
    one-is b e =
        let here = name_bucket-here tree text k in_chain in
        let number : original tree text (word_of tree k A) ≡ c.verb = sym (name_bucket-is tree text k here.0 here.1) ∙ w.here k z in
        rw (same_name tree text s c h k name-function, eq-eqb (original tree text (word_of tree k A)) c.verb number, here.1) (sym e)

    this : (b : Bool) → b ≡ takes_both (program tree text) (all_keys tree text) (function_of tree text k) given → b ≡ true → before v ≡ before k ++ (function_of tree text k ∷ [])
    this b e t = rw z (below_hit tree text verb given k (name_bucket-here tree text k in_chain).0 (one-is b e ∙ t))

    other : (b : Bool) → b ≡ takes_both (program tree text) (all_keys tree text) (function_of tree text k) given → b ≡ false → before v ≡ before k
    other b e t = rw z (below_miss tree text verb given k (rw (name_bucket-here tree text k in_chain).0 (one-is b e ∙ t)))

    pub second-one : (b : Bool) → b ≡ takes_both (program tree text) (all_keys tree text) (function_of tree text k) given → b ≡ true → (g : ℕ) → found ≡ Candidates.One g
        → CandidatesAre tree text Candidates.Several every
    second-one b e t g o = go found w.so_far o
      where
        go : (found : Candidates) → SoFar tree text every (before v) found → found ≡ Candidates.One g → CandidatesAre tree text Candidates.Several every
        go found (nobody_yet q) o = absurd (let y : ◌≡◌ {A = ℕ} 0 1 = cc in omega arith)
        go found (one_yet {f = f} a q) o =
            record { are = rw (q, this b e t) (two_found tree text (before k) (function_of tree text k) (function_of tree text f)); function = several }

    module _ (b : Bool) (e : b ≡ takes_both (program tree text) (all_keys tree text) (function_of tree text k) given) (u : ℕ) (eu : u ≡ word_at s (key_slot_at (records tree) k)) where
      link : u ≡ link_to (name_bucket tree text) k (name_bucket tree text k)
      link = eu ∙ K.by_name.links k name_below in_chain

      link_verb : u ≡ link_to (name_bucket tree text) k c.verb
      link_verb = link ∙ ap (link_to (name_bucket tree text) k) (w.here k z)

      next : before k ≡ before u
      next = skipped k u (omega (arith, name_below)) link_verb

      walks : (new : Candidates) → SoFar tree text every (before u) new → NameWalk tree text s c u new
      walks new so = record {
        within = omega (arith, link_falls (name_bucket tree text) k u link, name_below);
        here = λ j y. link_here (name_bucket tree text) k c.verb u j link_verb y;
        so_far = so;
      }

      pub first_one : (new : Candidates) → ((x : ℕ) → found ≡ Candidates.One x → ⊥) → b ≡ true → new ≡ Candidates.One k → NameWalk tree text s c u new
      first_one new o t n = walks new (go found w.so_far o)
        where
          go : (found : Candidates) → SoFar tree text every (before v) found → ((x : ℕ) → found ≡ Candidates.One x → ⊥) → SoFar tree text every (before u) new
          go found (nobody_yet q) o = rw n (one_yet name-function (q ∙ this b e t ∙ ap (λ (x : List Function). x ++ (function_of tree text k ∷ [])) next))
          go found (one_yet a q) o = absurd (o _ refl)

      pub passed-one : (new : Candidates) → b ≡ false → new ≡ found → NameWalk tree text s c u new
      passed-one new t n = walks new (rw n (go found w.so_far))
        where
          go : (found : Candidates) → SoFar tree text every (before v) found → SoFar tree text every (before u) found
          go found (nobody_yet q) = nobody_yet (q ∙ other b e t ∙ next)
          go found (one_yet {f = f} a q) = one_yet a (q ∙ ap (λ (x : List Function). x ++ (function_of tree text f ∷ [])) (other b e t ∙ next))

-- ---- the cast

module _ (tree text : List ℕ) (verb : Text) (l : List TypedArg) (r : ℕ) (b : Bool) (h : b ≡ same_text verb cast_verb) where
  pub cast-not : not b ≡ true → cast_type (program tree text) (all_keys tree text) verb l r ≡ cast_result (Ok None)
  unfolding cast_type pick cast_result
  cast-not q = rw (sym h, not-true b q)

  module _ (q : not b ≡ false) (t : StdOption ℕ) (ht : found_number t ≡ target_type l) where
    cast_to_lem : cast_type (program tree text) (all_keys tree text) verb l r ≡ cast_to (program tree text) (all_keys tree text) r l (found_number t)
    unfolding cast_type pick
    cast_to_lem = rw (sym h, not-false b q, sym ht)

    pub cast_nowhere : t ≡ None → cast_type (program tree text) (all_keys tree text) verb l r ≡ cast_result (Ok None)
    unfolding cast_to cast_result found_number
    cast_nowhere e = cast_to_lem ∙ rw e

    module _ (to : ℕ) (e : t ≡ Some to) (u : StdOption ℕ) (hu : found_number u ≡ source_type l) where
      cast_checked_lem : cast_type (program tree text) (all_keys tree text) verb l r ≡ cast_checked (program tree text) (all_keys tree text) r to (found_number u)
      unfolding cast_to found_number
      cast_checked_lem = cast_to_lem ∙ rw (e, sym hu)

      pub cast-free : u ≡ None → cast_type (program tree text) (all_keys tree text) verb l r ≡ cast_result (Ok (Some to))
      unfolding cast_checked cast_result found_number
      cast-free p = cast_checked_lem ∙ rw p

      module _ (from : ℕ) (p : u ≡ Some from) (c : Bool) (hc : c ≡ can_cast (type_at tree text) from to) where
        pub cast_fine : c ≡ true → cast_type (program tree text) (all_keys tree text) verb l r ≡ cast_result (Ok (Some to))
        unfolding cast_checked cast_result found_number pick program
        cast_fine w = cast_checked_lem ∙ rw (p, sym hc, w)

        pub cast_wrong : c ≡ false → cast_type (program tree text) (all_keys tree text) verb l r ≡ cast_result (Err (record { kind = InvalidCast; place = r }))
        unfolding cast_checked cast_result found_number pick program refusal
        cast_wrong w = cast_checked_lem ∙ rw (p, sym hc, w)

-- ---- which function

one_function : (tree : List ℕ) (c : Candidates) (f : ℕ) → OneFunction tree c → c ≡ Candidates.One f → FunctionAt tree f
one_function tree c f nobody e = absurd (let z : ◌≡◌ {A = ℕ} 0 1 = cc in omega arith)
one_function tree c f (one {f = v} at) e = let z : f ≡ v = cc in rw z at
one_function tree c f several e = absurd (let z : ◌≡◌ {A = ℕ} 0 1 = cc in omega arith)

-- none, one or several
module _ (tree text : List ℕ) (l : List Function) (r : ℕ) where
  chosen-one : (f : ℕ) → AreAll tree text (Candidates.One f) l → chosen l r ≡ callee_of tree text (Ok (Code.Callee.Function f))
  unfolding AreAll chosen callee_of
  chosen-one f e = rw e

  chosen-nobody : AreAll tree text Candidates.Nobody l → chosen l r ≡ err UnknownFunction r
  unfolding AreAll chosen
  chosen-nobody e = rw e

chosen-several : (tree text : List ℕ) (l : List Function) (r : ℕ) → AreAll tree text Candidates.Several l → chosen l r ≡ err AmbiguousCall r
unfolding AreAll chosen
chosen-several tree text [] r e = absurd e
chosen-several tree text (f ∷ []) r e = absurd e
chosen-several tree text (f ∷ g ∷ l) r e = refl

-- the exact one comes first
module _ (tree text : List ℕ) (verb : Text) (l : List TypedArg) (r : ℕ) (t : StdOption ℕ)
    (h : function_found tree text t ≡ find_exact_function (program tree text) (all_keys tree text) verb l) where
  abbrev resolved : Result Callee
  resolved = resolve_function (program tree text) (all_keys tree text) verb l r nothing

  pub exact_one : FunctionFound tree t → (f : ℕ) → t ≡ Some f → CalleeIs tree text (Ok (Code.Callee.Function f)) resolved
  unfolding resolve_function exact_or callee_of function_found
  exact_one at f e = record { is = rw (sym h, e); callee = IsCallee.a_function (found-function tree t f at e) }

  module _ (e : t ≡ None) (c : Candidates) (all : AreAll tree text c (find_functions_by_literals (program tree text) (all_keys tree text) verb l)) where
    by_choice : resolved ≡ chosen (find_functions_by_literals (program tree text) (all_keys tree text) verb l) r
    unfolding resolve_function exact_or function_found
    by_choice = rw (sym h, e)

    pub choice_one : OneFunction tree c → (f : ℕ) → c ≡ Candidates.One f → CalleeIs tree text (Ok (Code.Callee.Function f)) resolved
    choice_one at f q = record {
      is = by_choice ∙ chosen-one tree text _ r f (rw q at all);
      callee = IsCallee.a_function (one_function tree c f at q);
    }

    pub choice_nobody : c ≡ Candidates.Nobody → (a : OrRefused Code.Callee) → a ≡ Err (record { kind = UnknownFunction; place = r })
        → CalleeIs tree text a resolved
    unfolding callee_of refusal
    choice_nobody q a w = rw w (record { is = by_choice ∙ chosen-nobody tree text _ r (rw q at all); callee = IsCallee.no })

    pub choice_several : c ≡ Candidates.Several → (a : OrRefused Code.Callee) → a ≡ Err (record { kind = AmbiguousCall; place = r })
        → CalleeIs tree text a resolved
    unfolding callee_of refusal
    choice_several q a w = rw w (record { is = by_choice ∙ chosen-several tree text _ r (rw q at all); callee = IsCallee.no })

cast_type-is : (tree : List ℕ) (a : OrRefused (StdOption ℕ)) (y : ℕ) → IsCast tree a → a ≡ Ok (Some y) → TypeAt tree y
cast_type-is tree a y (IsCast.to {y = v} t) e = let z : y ≡ v = cc in rw z t
cast_type-is tree a y IsCast.not_cast e = absurd (let z : ◌≡◌ {A = ℕ} 0 1 = cc in omega arith)
cast_type-is tree a y IsCast.no e = absurd (let z : ◌≡◌ {A = ℕ} 0 1 = cc in omega arith)

-- ---- the call

-- a word of a tree of bytes
pub word-short : (tree : List ℕ) (r k : ℕ) → ((i : ℕ) → get_or tree i 0 < 256) → word_of tree r k < 2 ^ 32
unfolding word_of word_at byte_at
word-short tree r k h =
    omega (arith, h (r * 32 + 4 + k * 4), h (r * 32 + 4 + k * 4 + 1), h (r * 32 + 4 + k * 4 + 2), h (r * 32 + 4 + k * 4 + 3))

pub arguments_at : (tree text : List ℕ) → Good tree text → (r : ℕ) → IsKind tree 11 r → (first : ℕ) → first ≡ word_of tree r 2 → ArgsAt tree first
arguments_at tree text good r k first e = rw e (record { from = r; inside = omega (arith, k.below); list = call-c tree text good r k.below k.kind })

pub counted-at : (tree text : List ℕ) (n first w : ℕ) → first ≡ w → ((s : List ℕ) → n ≡ length (typed_at tree text s first))
    → (s : List ℕ) → n ≡ length (slotted tree s (args_at tree text w))
unfolding typed_at
counted-at tree text n first w e h s = h s ∙ ap (λ (x : ℕ). length (typed_at tree text s x)) e

-- the verb's number, as it is read from the scratch
module _ (tree text s : List ℕ) (r : ℕ) (k : IsKind tree 11 r) where
  pub verb-inside : 72 * records tree ≤ length s → original_at (records tree) r + 4 ≤ length s
  verb-inside room = omega (arith, k.below)

  pub verb-number : Numbered tree text s → (o : ℕ) → o ≡ word_at s (original_at (records tree) r) → o ≡ original tree text r
  unfolding has_text
  verb-number numbered o e = e ∙ numbered.number r k.below (kind-has tree kind_call r refl k.kind)

module _ (tree text s : List ℕ) (r : ℕ) (c : Call) (o : CallAt tree text r c) where
  pub is_called : Keyed tree text s → IsKind tree 11 r → ArgsTyped tree s (args_at tree text (word_of tree r 2)) → ((i : ℕ) → get_or tree i 0 < 256)
      → Called tree text s c
  unfolding typed_at has_text
  is_called k a t b = record {
    argued = record { good = k.good; room = k.listed.room; cells = arguments_at tree text k.good r a c.first o.first; typed = rw o.first t };
    inside = omega (arith, o.offset, o.len, call-a tree text k.good r a.below a.kind);
    short = rw o.len (word-short tree r 1 b);
    numbered = record {
      of = r;
      below = a.below;
      has_its_text = kind-has tree kind_call r refl a.kind;
      text_is = sym (ap₂ (text_at text) o.offset o.len);
      number = o.verb;
    };
    counted = rw o.first (o.count s);
  }

  -- the call's verb and arguments are the record's
  same-call : resolve_typed (program tree text) (all_keys tree text) (text_of tree text r 0) r (typed_at tree text s (word_of tree r 2))
      ≡ resolve_typed (program tree text) (all_keys tree text) (verb_of tree text s c) r (typed_at tree text s c.first)
  unfolding text_of
  same-call = ap₂ (λ (v : Text) (l : List TypedArg). resolve_typed (program tree text) (all_keys tree text) v r l)
      (sym (ap₂ (text_at text) o.offset o.len)) (sym (ap (typed_at tree text s) o.first))

  abbrev whole : Result Callee
  whole = resolve_typed (program tree text) (all_keys tree text) (text_of tree text r 0) r (typed_at tree text s (word_of tree r 2))

  module _ (a : OrRefused (StdOption ℕ)) (h : CastIs tree a (cast_type (program tree text) (all_keys tree text) (verb_of tree text s c) (typed_at tree text s c.first) r)) where
    pub typed-refused : (e : ConvertError) → a ≡ Err e → CalleeIs tree text (Err e) whole
    unfolding resolve_typed ◌>>=◌ cast_result refusal callee_of
    typed-refused e q = record { is = same-call ∙ rw (h.is, q); callee = IsCallee.no }

    pub typed-cast : (y : ℕ) → a ≡ Ok (Some y) → CalleeIs tree text (Ok (Code.Callee.Cast y)) whole
    unfolding resolve_typed resolve_function ◌>>=◌ cast_result callee_of
    typed-cast y q = record { is = same-call ∙ rw (h.is, q); callee = IsCallee.a_cast (cast_type-is tree a y h.type q) }

    pub typed-function : a ≡ Ok None → (b : OrRefused Code.Callee)
        → CalleeIs tree text b (resolve_function (program tree text) (all_keys tree text) (verb_of tree text s c) (typed_at tree text s c.first) r nothing)
        → CalleeIs tree text b whole
    unfolding resolve_typed ◌>>=◌ cast_result
    typed-function q b w = record { is = same-call ∙ rw (h.is, q) w.is; callee = w.callee }
