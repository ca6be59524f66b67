-- The program's functions are those of its function records, one after the other, and are counted so; and a function's names as parts of the text.
-- By the records one after the other, and by the laws of a function's record. Assumes nothing.
use mathlib.Core.Path.{◌≡◌, refl, sym, ap₂, ◌∙◌}
use mathlib.Core.Logic.{⊎_elim}
use mathlib.Core.Bool.{Bool, true, false}
use mathlib.Core.List.{List, [], ◌∷◌, ◌++◌}
use Prim.Native.Nat.{ℕ, zero, suc, ◌+◌, ◌*◌, ◌<◌, ◌≤◌}
use native.Mathlib.Nat.{eq-or-lt_of_le}
use native.Mathlib.Omega.{arith}
use lib.Dec.{eqb}
use lib.ListN.{length, length-append, get_or}
use borrow.Author.Tests.{eqb-true}
use Rattle.laws.specs.Fix.{pick}
use Rattle.records.specs.Words.{kind_of, word_of, text_at, records, A, B}
use Rattle.records.specs.Good.{Good}
use Rattle.records.proofs.GoodLaws.{inside, name-a}
use Rattle.syntax.specs.Syntax.{Text}
use Rattle.syntax.specs.Decode.{node, functions_in, functions_below, program, text_of}
use Rattle.syntax.specs.Places.{IsKind, FunctionAt, function_of}
use Rattle.syntax.proofs.Records.{node-function, name_record, mangled_record, function-name, function_mangled}
use Rattle.std.specs.Prelude.{Option as StdOption, Some}
use Rattle.keys.specs.declared.parts.Part.{Part}
use Rattle.keys.specs.Parts.{PartIs}
use Rattle.keys.specs.Keys.{records_below, function_places, functions_of, FunctionFound, a_function, none_found}

module _ (tree text : List ℕ) where
  -- the functions of the first n records
  pub functions-append : (l k : List ℕ) → functions_of tree text (l ++ k) ≡ functions_of tree text l ++ functions_of tree text k
  unfolding functions_of
  functions-append [] k = refl
  functions-append (r ∷ l) k = rw (functions-append l k)

  one_function : (r : ℕ) (b : Bool) → eqb (kind_of tree r) 25 ≡ b → pick b (functions_in (node tree text r)) [] ≡ functions_of tree text (pick b (r ∷ []) [])
  unfolding pick functions_of functions_in
  one_function r true e = rw (node-function tree text r (eqb-true (kind_of tree r) 25 e))
  one_function r false e = refl

  pub functions_below_lem : (n : ℕ) → functions_below tree text n ≡ functions_of tree text (records_below tree n)
  unfolding functions_below records_below functions_of
  functions_below_lem zero = refl
  functions_below_lem (suc r) =
      rw (functions-append (records_below tree r) (pick (eqb (kind_of tree r) 25) (r ∷ []) []), functions_below_lem r, one_function r (eqb (kind_of tree r) 25) refl)

  pub all_functions_lem : (program tree text).functions ≡ functions_of tree text (function_places tree)
  unfolding program
  all_functions_lem = functions_below_lem (records tree)

-- ---- each listed record is a function's

-- record x is one of the first n, and a function's
abbrev pub FunctionBelow : List ℕ → ℕ → ℕ → Type 0
FunctionBelow tree n x = (x < n) × (kind_of tree x ≡ 25)

-- what holds at each place of a list holds with one more
one_more : (P : ℕ → ℕ → Type 0) (r : ℕ) (l : List ℕ) (b : Bool) → (b ≡ true → P (length l) r) → ((j : ℕ) → j < length l → P j (get_or l j 0))
    → (j : ℕ) → j < length (l ++ pick b (r ∷ []) []) → P j (get_or (l ++ pick b (r ∷ []) []) j 0)
unfolding pick
one_more P r [] true e h zero k = e refl
one_more P r [] true e h (suc j) k = absurd (omega arith)
one_more P r [] false e h j k = absurd (omega arith)
one_more P r (x ∷ l) b e h zero k = h 0 (omega arith)
one_more P r (x ∷ l) b e h (suc j) k = one_more (λ i y. P (suc i) y) r l b e (λ i q. h (suc i) (omega arith)) j (omega arith)

pub listed-kind : (tree : List ℕ) (n j : ℕ) → j < length (records_below tree n) → FunctionBelow tree n (get_or (records_below tree n) j 0)
unfolding records_below
listed-kind tree zero j h = absurd (omega arith)
listed-kind tree (suc r) j h =
    one_more (λ i x. FunctionBelow tree (suc r) x) r (records_below tree r) (eqb (kind_of tree r) 25)
    (λ e. (omega arith, eqb-true (kind_of tree r) 25 e))
    (λ i k. let w = listed-kind tree r i k in (omega (arith, w.0), w.1))
    j h

-- the j-th of them all
pub listed-function : (tree : List ℕ) (j : ℕ) → j < length (function_places tree) → FunctionAt tree (get_or (function_places tree) j 0)
listed-function tree j h = let w = listed-kind tree (records tree) j h in record { below = w.0; kind = w.1 }

-- ---- how many functions are below a record

-- below the j-th there are j
pub listed-count : (tree : List ℕ) (n j : ℕ) → j < length (records_below tree n) → length (records_below tree (get_or (records_below tree n) j 0)) ≡ j
unfolding records_below
listed-count tree zero j h = absurd (omega arith)
listed-count tree (suc r) j h =
    one_more (λ i x. length (records_below tree x) ≡ i) r (records_below tree r) (eqb (kind_of tree r) 25) (λ e. refl) (listed-count tree r) j h

module _ (tree : List ℕ) where
  pub count-function : (r : ℕ) → eqb (kind_of tree r) 25 ≡ true → length (records_below tree (suc r)) ≡ length (records_below tree r) + 1
  unfolding records_below pick
  count-function r t = rw (t, length-append) refl

  count-more : (r : ℕ) → length (records_below tree r) ≤ length (records_below tree (suc r))
  unfolding records_below
  count-more r = rw length-append (omega arith)

  pub count-rises : (q r : ℕ) → r ≤ q → length (records_below tree r) ≤ length (records_below tree q)
  count-rises zero r h = let z : r ≡ 0 = omega arith in rw z (omega arith)
  count-rises (suc q) r h =
      ⊎_elim
      (λ (z : r ≡ suc q). rw z (omega arith))
      (λ (l : r < suc q). omega (arith, count-rises q r (omega arith), count-more q))
      (eq-or-lt_of_le h)

-- ---- the names of a function as parts of the text

module _ (tree text : List ℕ) (good : Good tree text) (f : ℕ) (at : FunctionAt tree f) where
  -- the text of a record of kind 6
  part : (r : ℕ) (t : Text) (p : Part) → IsKind tree 6 r → t ≡ text_of tree text r A → (p.offset ≡ word_of tree r A) × (p.len ≡ word_of tree r B) → PartIs text p t
  unfolding text_of
  part r t p h e q = record {
    inside = omega (arith, q.0, q.1, name-a tree text good r h.below h.kind);
    is = ap₂ (text_at text) q.0 q.1 ∙ sym e;
  }

  pub name-inside : word_of tree f A * 32 + 32 ≤ length tree
  name-inside = inside tree text good (word_of tree f A) (name_record tree text good f at).below

  pub mangled_inside : word_of tree f B * 32 + 32 ≤ length tree
  mangled_inside = inside tree text good (word_of tree f B) (mangled_record tree text good f at).below

  pub name-part : (p : Part) → (p.offset ≡ word_of tree (word_of tree f A) A) × (p.len ≡ word_of tree (word_of tree f A) B)
      → PartIs text p (function_of tree text f).name
  name-part p q = part (word_of tree f A) (function_of tree text f).name p (name_record tree text good f at) (function-name tree text good f at) q

  pub mangled_part : (p : Part) → (p.offset ≡ word_of tree (word_of tree f B) A) × (p.len ≡ word_of tree (word_of tree f B) B)
      → PartIs text p (function_of tree text f).mangled_name
  mangled_part p q = part (word_of tree f B) (function_of tree text f).mangled_name p (mangled_record tree text good f at) (function_mangled tree text good f at) q

-- what was found is a function's record
pub found-function : (tree : List ℕ) (r : StdOption ℕ) (f : ℕ) → FunctionFound tree r → r ≡ Some f → FunctionAt tree f
found-function tree r f (a_function {f = g} a) e = let z : f ≡ g = cc in rw z a
found-function tree r f none_found e = absurd (let z : ◌≡◌ {A = ℕ} 0 1 = cc in omega arith)
