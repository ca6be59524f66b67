-- Keys of functions: one turn of `get_all_functions`, and its turns one after the other.
-- By the cases of a turn, and by the functions one after the other. Assumes nothing.
use mathlib.Core.Path.{◌≡◌, refl, sym, ap, ◌∙◌}
use mathlib.Core.Bool.{Bool, true, false, not, ◌&&◌, ◌||◌, false≢true}
use mathlib.Core.List.{List, [], ◌∷◌, ◌++◌}
use mathlib.Core.Option.{Option, none as nothing, some}
use Prim.Native.Nat.{ℕ, ◌+◌, ◌≤◌, ◌<◌}
use native.Mathlib.Numerals.{add-one}
use native.Mathlib.Omega.{arith}
use lib.ListN.{length, take, drop, get_or, drop_of_length-le}
use lib.Seq.{take-suc, take_all, drop-cons}
use Rattle.laws.specs.Fix.{pick}
use Rattle.syntax.specs.Syntax.{Text, Function}
use Rattle.syntax.specs.Decode.{program}
use Rattle.conversion.specs.ConvertError.{ConvertErrorKind, Result, ok, err, SameSignature, SameSymbol, LatinCharInNonLibCFunction, ExternNotLatin}
use Rattle.conversion.specs.Ir.{same_text}
use Rattle.conversion.specs.Types.{is_some}
use Rattle.conversion.specs.Expressions.{Functions, is_mangled, get_function, main_name}
use Rattle.conversion.specs.Functions.{is_ascii, contains_key, add_function}
use Rattle.syntax.specs.Places.{function_of}
use Rattle.keys.specs.Keys.{function_key, keyed, function_places, functions_of, keys_below, all_keys}
use Rattle.keys.proofs.FunctionLaws.{all_functions_lem, functions-append}

-- ---- a key looked for

find-by : (k : Text) (e : Text × Function) (l : Functions) (b : Bool) → same_text k e.0 ≡ b
    → get_function k (e ∷ l) ≡ elim b [ true ↦ some e.1 | false ↦ get_function k l ]
unfolding get_function
find-by k e l b q = ap (λ (z : Bool). elim z [ true ↦ some e.1 | false ↦ get_function k l ]) q

pub find_hit : (k : Text) (e : Text × Function) (l : Functions) → same_text k e.0 ≡ true → get_function k (e ∷ l) ≡ some e.1
find_hit k e l q = find-by k e l true q

pub find_miss : (k : Text) (e : Text × Function) (l : Functions) → same_text k e.0 ≡ false → get_function k (e ∷ l) ≡ get_function k l
find_miss k e l q = find-by k e l false q

-- in two lists, one after the other
pub find_later : (k : Text) (l m : Functions) → get_function k l ≡ nothing → get_function k (l ++ m) ≡ get_function k m
unfolding get_function
find_later k [] m n = refl
find_later k (e ∷ l) m n = go (same_text k e.0) refl (find_later k l m)
  where
    go : (b : Bool) → same_text k e.0 ≡ b → (get_function k l ≡ nothing → get_function k (l ++ m) ≡ get_function k m) → get_function k (e ∷ l ++ m) ≡ get_function k m
    go true q rest = absurd (let z : some e.1 ≡ nothing = sym (find_hit k e l q) ∙ n in let y : ◌≡◌ {A = ℕ} 0 1 = cc in omega arith)
    go false q rest = find_miss k e (l ++ m) q ∙ rest (sym (find_miss k e l q) ∙ n)

pub find_sooner : (k : Text) (l m : Functions) (f : Function) → get_function k l ≡ some f → get_function k (l ++ m) ≡ some f
unfolding get_function
find_sooner k [] m f n = absurd (let y : ◌≡◌ {A = ℕ} 0 1 = cc in omega arith)
find_sooner k (e ∷ l) m f n = go (same_text k e.0) refl (find_sooner k l m f)
  where
    go : (b : Bool) → same_text k e.0 ≡ b → (get_function k l ≡ some f → get_function k (l ++ m) ≡ some f) → get_function k (e ∷ l ++ m) ≡ some f
    go true q rest = find_hit k e (l ++ m) q ∙ sym (find_hit k e l q) ∙ n
    go false q rest = find_miss k e (l ++ m) q ∙ rest (sym (find_miss k e l q) ∙ n)

-- ---- one turn

pub key_mangled : (f : Function) → is_mangled f ≡ true → function_key f ≡ f.mangled_name
unfolding function_key pick
key_mangled f e = rw e

pub key_plain : (f : Function) → is_mangled f ≡ false → function_key f ≡ f.name
unfolding function_key pick
key_plain f e = rw e

module _ (f : Function) (F : Functions) where
  -- a turn, by whether the name is mangled
  mangled_turn : is_mangled f ≡ true
      → add_function f F ≡ pick (is_ascii f.name) (err LatinCharInNonLibCFunction f.rec_of)
      (pick (contains_key f.mangled_name F) (err SameSignature f.rec_of) (ok (F ++ ((f.mangled_name, f) ∷ []))))
  unfolding is_mangled add_function pick
  mangled_turn = go f.external (same_text f.name main_name) refl refl
    where
      go : (x s : Bool) → f.external ≡ x → same_text f.name main_name ≡ s → (not x && not s) ≡ true
          → pick (x || s)
          (pick (not (is_ascii f.name)) (err ExternNotLatin f.rec_of)
          (pick (contains_key f.name F) (err SameSymbol f.rec_of) (ok (F ++ ((f.name, f) ∷ [])))))
          (pick (is_ascii f.name) (err LatinCharInNonLibCFunction f.rec_of)
          (pick (contains_key f.mangled_name F) (err SameSignature f.rec_of) (ok (F ++ ((f.mangled_name, f) ∷ [])))))
          ≡ pick (is_ascii f.name) (err LatinCharInNonLibCFunction f.rec_of)
          (pick (contains_key f.mangled_name F) (err SameSignature f.rec_of) (ok (F ++ ((f.mangled_name, f) ∷ []))))
      go true s ex es h = absurd (false≢true h)
      go false true ex es h = absurd (false≢true h)
      go false false ex es h = refl

  plain_turn : is_mangled f ≡ false
      → add_function f F ≡ pick (not (is_ascii f.name)) (err ExternNotLatin f.rec_of)
      (pick (contains_key f.name F) (err SameSymbol f.rec_of) (ok (F ++ ((f.name, f) ∷ []))))
  unfolding is_mangled add_function pick
  plain_turn = go f.external (same_text f.name main_name)
    where
      go : (x s : Bool) → (not x && not s) ≡ false
          → pick (x || s)
          (pick (not (is_ascii f.name)) (err ExternNotLatin f.rec_of)
          (pick (contains_key f.name F) (err SameSymbol f.rec_of) (ok (F ++ ((f.name, f) ∷ [])))))
          (pick (is_ascii f.name) (err LatinCharInNonLibCFunction f.rec_of)
          (pick (contains_key f.mangled_name F) (err SameSignature f.rec_of) (ok (F ++ ((f.mangled_name, f) ∷ [])))))
          ≡ pick (not (is_ascii f.name)) (err ExternNotLatin f.rec_of)
          (pick (contains_key f.name F) (err SameSymbol f.rec_of) (ok (F ++ ((f.name, f) ∷ []))))
      go true s h = refl
      go false true h = refl
      go false false h = absurd (false≢true (sym h))

  -- as the code meets them
  pub turn_latin : is_mangled f ≡ true → is_ascii f.name ≡ true → add_function f F ≡ err LatinCharInNonLibCFunction f.rec_of
  unfolding pick
  turn_latin m a = mangled_turn m ∙ rw a

  pub turn_signature : is_mangled f ≡ true → is_ascii f.name ≡ false → (g : Function) → get_function f.mangled_name F ≡ some g
      → add_function f F ≡ err SameSignature f.rec_of
  unfolding pick contains_key is_some
  turn_signature m a g e = mangled_turn m ∙ rw (a, e)

  pub turn_mangled : is_mangled f ≡ true → is_ascii f.name ≡ false → get_function f.mangled_name F ≡ nothing
      → add_function f F ≡ ok (F ++ ((function_key f, f) ∷ []))
  unfolding pick contains_key is_some
  turn_mangled m a e = mangled_turn m ∙ rw (a, e, key_mangled f m)

  pub turn_foreign : is_mangled f ≡ false → is_ascii f.name ≡ false → add_function f F ≡ err ExternNotLatin f.rec_of
  unfolding pick
  turn_foreign m a = plain_turn m ∙ rw a

  pub turn_symbol : is_mangled f ≡ false → is_ascii f.name ≡ true → (g : Function) → get_function f.name F ≡ some g
      → add_function f F ≡ err SameSymbol f.rec_of
  unfolding pick contains_key is_some
  turn_symbol m a g e = plain_turn m ∙ rw (a, e)

  pub turn_plain : is_mangled f ≡ false → is_ascii f.name ≡ true → get_function f.name F ≡ nothing
      → add_function f F ≡ ok (F ++ ((function_key f, f) ∷ []))
  unfolding pick contains_key is_some
  turn_plain m a e = plain_turn m ∙ rw (a, e, key_plain f m)

  -- a turn that goes well adds the function under a key that no function before it has
  pub data Turn : Result Functions → Type 0 where
    refused : {k : ConvertErrorKind} {r : ℕ} → Turn (err k r)
    added : get_function (function_key f) F ≡ nothing → Turn (ok (F ++ ((function_key f, f) ∷ [])))

  turn_by : (m a : Bool) (o p : Option Function) → is_mangled f ≡ m → is_ascii f.name ≡ a → get_function f.mangled_name F ≡ o
      → get_function f.name F ≡ p → Turn (add_function f F)
  turn_by true true o p em ea eo ep = rw (turn_latin em ea) refused
  turn_by true false (some g) p em ea eo ep = rw (turn_signature em ea g eo) refused
  turn_by true false nothing p em ea eo ep = rw (turn_mangled em ea eo) (added (ap (λ (k : Text). get_function k F) (key_mangled f em) ∙ eo))
  turn_by false false o p em ea eo ep = rw (turn_foreign em ea) refused
  turn_by false true o (some g) em ea eo ep = rw (turn_symbol em ea g ep) refused
  turn_by false true o nothing em ea eo ep = rw (turn_plain em ea ep) (added (ap (λ (k : Text). get_function k F) (key_plain f em) ∙ ep))

  pub turn : Turn (add_function f F)
  turn = turn_by (is_mangled f) (is_ascii f.name) (get_function f.mangled_name F) (get_function f.name F) refl refl refl refl

-- ---- all turns

pub keyed-append : (l r : List Function) → keyed (l ++ r) ≡ keyed l ++ keyed r
unfolding keyed
keyed-append [] r = refl
keyed-append (f ∷ l) r = rw (keyed-append l r)

pub turn-new : (f : Function) (F G : Functions) → add_function f F ≡ ok G → get_function (function_key f) F ≡ nothing
turn-new f F G = go (turn f F)
  where
    go : {R : Result Functions} → Turn f F R → R ≡ ok G → get_function (function_key f) F ≡ nothing
    go refused e = absurd (let y : ◌≡◌ {A = ℕ} 0 1 = cc in omega arith)
    go (added n) e = n

-- ---- the functions of a tree

module _ (tree text : List ℕ) where
  -- the record and the function at place j
  abbrev pub record_at : ℕ → ℕ
  record_at j = get_or (function_places tree) j 0

  abbrev pub at : ℕ → Function
  at j = function_of tree text (record_at j)

  -- the functions from place j on
  abbrev pub from : ℕ → List Function
  from j = functions_of tree text (drop j (function_places tree))

  pub from_start : (program tree text).functions ≡ from 0
  from_start = all_functions_lem tree text

  pub from_one : (j : ℕ) → j < length (function_places tree) → from j ≡ at j ∷ from (j + 1)
  unfolding functions_of
  from_one j h = rw (drop-cons (function_places tree) j 0 h, add-one j)

  pub from_end : (j : ℕ) → length (function_places tree) ≤ j → from j ≡ []
  unfolding functions_of
  from_end j h = rw (drop_of_length-le (function_places tree) h)

  pub keys_none : keys_below tree text 0 ≡ []
  unfolding keys_below keyed functions_of
  keys_none = refl

  pub keys-more : (j : ℕ) → j < length (function_places tree) → keys_below tree text (j + 1) ≡ keys_below tree text j ++ ((function_key (at j), at j) ∷ [])
  unfolding keys_below keyed functions_of
  keys-more j h =
      let t : take (j + 1) (function_places tree) ≡ take j (function_places tree) ++ (record_at j ∷ []) = rw (add-one j) (take-suc (function_places tree) j 0 h) in
      ap (λ (l : List ℕ). keyed (functions_of tree text l)) t
      ∙ ap keyed (functions-append tree text (take j (function_places tree)) (record_at j ∷ []))
      ∙ keyed-append (functions_of tree text (take j (function_places tree))) (at j ∷ [])

  pub keys-all : (n : ℕ) → length (function_places tree) ≤ n → keys_below tree text n ≡ all_keys tree text
  unfolding keys_below all_keys
  keys-all n h = rw (take_all n (function_places tree) h, all_functions_lem tree text)
