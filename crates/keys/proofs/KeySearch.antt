-- A function's names, marks and key as the code reads them, and where the listed functions stand.
-- By the laws of a function's record, and by the listed records one after the other. Assumes nothing.
use mathlib.Core.Path.{◌≡◌, sym, ap, ◌∙◌}
use mathlib.Core.Bool.{Bool, true, false, not}
use mathlib.Core.List.{List, [], ◌∷◌}
use Prim.Native.Nat.{ℕ, zero, suc, ◌+◌, ◌*◌, ◌/◌, ◌%◌, ◌≤◌, ◌<◌}
use native.Mathlib.Omega.{arith}
use lib.Dec.{eqb}
use lib.ListN.{length, length-append}
use Rattle.laws.specs.Fix.{pick}
use Rattle.records.specs.Words.{kind_of, word_at, word_of, detail_of, records, A, B, C}
use Rattle.records.specs.Good.{Good}
use Rattle.syntax.specs.Syntax.{Text, Function}
use Rattle.syntax.specs.Decode.{bit}
use Rattle.conversion.specs.Ir.{same_text}
use Rattle.conversion.specs.Expressions.{is_mangled, main_name}
use Rattle.keys.specs.declared.parts.Part.{Part}
use Rattle.syntax.specs.Places.{FunctionAt, ParamsAt, function_of, params_at}
use Rattle.keys.specs.Parts.{PartIs}
use Rattle.keys.specs.Keys.{function_key, records_below, function_places, Listed}
use Rattle.syntax.proofs.Records.{function-external, function-variadic, function-params, params_are}
use Rattle.keys.proofs.FunctionLaws.{listed-function, name-part, mangled_part}

-- ---- one function

module _ (tree text : List ℕ) (good : Good tree text) (f : ℕ) (at : FunctionAt tree f) where
  pub name-read : (p : Part) (r : ℕ) → r ≡ word_of tree f A → (p.offset ≡ word_of tree r 0) × (p.len ≡ word_of tree r 1)
      → PartIs text p (function_of tree text f).name
  name-read p r e q =
      name-part tree text good f at p (q.0 ∙ ap (λ (x : ℕ). word_of tree x 0) e, q.1 ∙ ap (λ (x : ℕ). word_of tree x 1) e)

  pub mangled_read : (p : Part) (r : ℕ) → r ≡ word_of tree f B → (p.offset ≡ word_of tree r 0) × (p.len ≡ word_of tree r 1)
      → PartIs text p (function_of tree text f).mangled_name
  mangled_read p r e q =
      mangled_part tree text good f at p (q.0 ∙ ap (λ (x : ℕ). word_of tree x 0) e, q.1 ∙ ap (λ (x : ℕ). word_of tree x 1) e)

  pub external-read : (d : ℕ) → d ≡ detail_of tree f → eqb (d % 2) 1 ≡ (function_of tree text f).external
  unfolding bit
  external-read d e =
      let z : d ≡ detail_of tree f / 1 = omega arith in
      ap (λ (x : ℕ). eqb (x % 2) 1) z ∙ sym (function-external tree text good f at)

  pub variadic-read : (d : ℕ) → d ≡ detail_of tree f → eqb (d / 2 % 2) 1 ≡ (function_of tree text f).variadic
  unfolding bit
  variadic-read d e = ap (λ (x : ℕ). eqb (x / 2 % 2) 1) e ∙ sym (function-variadic tree text good f at)

  pub params-read : (w : ℕ) → w ≡ word_of tree f C → ((function_of tree text f).params ≡ params_at tree text w) × ParamsAt tree w
  params-read w e = (function-params tree text good f at ∙ ap (params_at tree text) (sym e), rw e (params_are tree text good f at))

module _ (F : Function) where
  pub external_plain : (x : Bool) → x ≡ F.external → x ≡ true → not x ≡ is_mangled F
  unfolding is_mangled
  external_plain x e t = rw (sym e ∙ t) (ap not t)

  pub mangled_by_name : (x m : Bool) (t : Text) → x ≡ F.external → x ≡ false → t ≡ F.name → m ≡ same_text t main_name → not m ≡ is_mangled F
  unfolding is_mangled
  mangled_by_name x m t e l n q = rw (sym e ∙ l) (ap not (q ∙ ap (λ (u : Text). same_text u main_name) n))

  module _ (text : List ℕ) (p : Part) (b : Bool) (e : b ≡ is_mangled F) where
    pub key_mangled : b ≡ true → PartIs text p F.mangled_name → PartIs text p (function_key F)
    unfolding function_key pick
    key_mangled t h = rw (sym e ∙ t) h

    pub key_plain : b ≡ false → PartIs text p F.name → PartIs text p (function_key F)
    unfolding function_key pick
    key_plain t h = rw (sym e ∙ t) h

-- ---- the listed functions

one_at_most : (r : ℕ) (b : Bool) → length (pick b (r ∷ []) []) ≤ 1
unfolding pick
one_at_most r true = omega arith
one_at_most r false = omega arith

pub records-most : (tree : List ℕ) (n : ℕ) → length (records_below tree n) ≤ n
unfolding records_below
records-most tree zero = omega arith
records-most tree (suc r) =
    rw length-append (omega (arith, records-most tree r, one_at_most r (eqb (kind_of tree r) 25)))

module _ (tree s : List ℕ) (listed : Listed tree s) where
  pub listed-room : (j : ℕ) → j < length (function_places tree) → 4 * j + 4 ≤ length s
  listed-room j h = omega (arith, listed.room, records-most tree (records tree))

  pub listed_at : (j f : ℕ) → j < length (function_places tree) → f ≡ word_at s (4 * j) → FunctionAt tree f
  listed_at j f h e = rw (e ∙ listed.listed j h) (listed-function tree j h)
