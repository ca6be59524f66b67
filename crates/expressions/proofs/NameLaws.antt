-- Names that a verb and suffixes make: their lengths, and their pieces in the text.
-- By recursion over the suffixes, and by the laws of `take` and `drop`. Assumes nothing.
use mathlib.Core.Path.{◌≡◌, refl, sym, ap, ap₂, ◌∙◌}
use mathlib.Core.Bool.{Bool, true, false, ◌&&◌, false≢true}
use mathlib.Core.List.{List, [], ◌∷◌, ◌++◌, append_assoc, append-nil}
use Prim.Native.Nat.{ℕ, suc, ◌+◌, ◌-◌, ◌≤◌, ◌<◌}
use native.Mathlib.Omega.{arith}
use lib.Dec.{eqb}
use lib.ListN.{length, take, drop, get_or, length-append, length-drop}
use lib.Seq.{length-take-le, take_all, drop-cons}
use borrow.Author.Tests.{eqb-true}
use Rattle.laws.proofs.Tests.{and_left, and_right}
use Rattle.records.specs.Words.{text_at}
use Rattle.records.proofs.RollLaws.{text_split}
use Rattle.records.proofs.TextLaws.{same-texts}
use Rattle.syntax.specs.Syntax.{Text, Program}
use Rattle.syntax.specs.Decode.{program}
use Rattle.conversion.specs.Ir.{same_text}
use Rattle.conversion.specs.Expressions.{Functions, TypedArg, suffixes, joined}
use Rattle.expressions.specs.declared.arguments.Call.{Call}
use Rattle.keys.specs.Keys.{all_keys}
use Rattle.expressions.specs.Calls.{typed_at, suffixes_at, verb_of, name_of, bytes_in, Called}

-- ---- texts

pub same-is : (a b : Text) → same_text a b ≡ true → a ≡ b
unfolding same_text
same-is [] [] e = refl
same-is [] (y ∷ b) e = absurd (false≢true e)
same-is (x ∷ a) [] e = absurd (false≢true e)
same-is (x ∷ a) (y ∷ b) e =
    ap₂ (λ (z : ℕ) (l : Text). z ∷ l) (eqb-true x y (and_left (eqb x y) (same_text a b) e)) (same-is a b (and_right (eqb x y) (same_text a b) e))

-- either way round
pub same-turned : (a b : Text) → same_text a b ≡ same_text b a
same-turned a b = go (same_text a b) (same_text b a) refl refl
  where
    go : (p q : Bool) → same_text a b ≡ p → same_text b a ≡ q → p ≡ q
    go true q ep eq = sym (same-texts b a (sym (same-is a b ep))) ∙ eq
    go false false ep eq = refl
    go false true ep eq = absurd (false≢true (sym ep ∙ same-texts a b (sym (same-is b a eq))))

and_three : (p q r : Bool) → (p && (q && r)) ≡ ((p && q) && r)
and_three true q r = refl
and_three false q r = refl

pub same-append : (a b c d : Text) → length a ≡ length b → same_text (a ++ c) (b ++ d) ≡ (same_text a b && same_text c d)
unfolding same_text
same-append [] [] c d e = refl
same-append [] (y ∷ b) c d e = absurd (omega arith)
same-append (x ∷ a) [] c d e = absurd (omega arith)
same-append (x ∷ a) (y ∷ b) c d e =
    ap (λ (z : Bool). eqb x y && z) (same-append a b c d (omega arith)) ∙ and_three (eqb x y) (same_text a b) (same_text c d)

-- the pieces of a part of the text
pub part_length : (t : Text) (o n : ℕ) → o + n ≤ length t → length (text_at t o n) ≡ n
unfolding text_at
part_length t o n h = length-take-le n (drop o t) (omega (arith, length-drop o t))

pub part-one : (t : Text) (o : ℕ) → o < length t → text_at t o 1 ≡ get_or t o 0 ∷ []
unfolding text_at
part-one t o h = ap (take 1) (drop-cons t o 0 h)

-- ---- a verb and its suffixes

module _ (P : Program) (F : Functions) where
  pub joined-append : (a b : Text) (l : List Text) → joined P F (a ++ b) l ≡ a ++ joined P F b l
  unfolding joined
  joined-append a b [] = refl
  joined-append a b (s ∷ l) = ap (λ (t : Text). joined P F t l) (append_assoc a b s) ∙ joined-append a (b ++ s) l

  pub joined-verb : (v : Text) (l : List Text) → joined P F v l ≡ v ++ joined P F [] l
  joined-verb v l = ap (λ (t : Text). joined P F t l) (sym (append-nil v)) ∙ joined-append v [] l

  pub suffixes-length : (l : List TypedArg) → length (suffixes P F l) ≡ length l
  unfolding suffixes
  suffixes-length [] = refl
  suffixes-length (a ∷ l) = ap suc (suffixes-length l)

module _ (tree text s : List ℕ) where
  pub joined_length : (l : List Text) → length (joined (program tree text) (all_keys tree text) [] l) ≡ bytes_in l
  unfolding joined bytes_in
  joined_length [] = refl
  joined_length (t ∷ l) =
      ap length (joined-verb (program tree text) (all_keys tree text) t l)
      ∙ length-append t (joined (program tree text) (all_keys tree text) [] l)
      ∙ ap (λ (n : ℕ). length t + n) (joined_length l)

  pub count-suffixes : (w : ℕ) → length (suffixes_at tree text s w) ≡ length (typed_at tree text s w)
  unfolding suffixes_at
  count-suffixes w = suffixes-length (program tree text) (all_keys tree text) (typed_at tree text s w)

  -- ---- the name of a call with its first k arguments

  module _ (c : Call) where
    pub name_is_lem : (k : ℕ) → name_of tree text s c k
        ≡ verb_of tree text s c ++ joined (program tree text) (all_keys tree text) [] (take k (suffixes_at tree text s c.first))
    unfolding name_of
    name_is_lem k = joined-verb (program tree text) (all_keys tree text) (verb_of tree text s c) (take k (suffixes_at tree text s c.first))

    pub name-length : (k : ℕ) → Called tree text s c → length (name_of tree text s c k) ≡ c.len + bytes_in (take k (suffixes_at tree text s c.first))
    name-length k h =
        let R = joined (program tree text) (all_keys tree text) [] (take k (suffixes_at tree text s c.first)) in
        ap length (name_is_lem k) ∙ length-append (verb_of tree text s c) R
        ∙ ap₂ (λ (a b : ℕ). a + b) (part_length text c.offset c.len h.inside) (joined_length (take k (suffixes_at tree text s c.first)))

    pub all-taken : Called tree text s c → take c.count (suffixes_at tree text s c.first) ≡ suffixes_at tree text s c.first
    all-taken h = take_all c.count (suffixes_at tree text s c.first) (omega (arith, h.counted, count-suffixes c.first))

    pub number-inside : (k : ℕ) → Called tree text s c → k ≤ c.count → k ≤ length (suffixes_at tree text s c.first)
    number-inside k h m = omega (arith, h.counted, count-suffixes c.first)

    -- a part of the right length, in two pieces: the verb, and the suffixes
    pub name_pieces : (k at n : ℕ) → Called tree text s c → n ≡ length (name_of tree text s c k) → at + n ≤ length text
        → same_text (text_at text at n) (name_of tree text s c k)
        ≡ (same_text (text_at text at c.len) (verb_of tree text s c)
        && same_text (text_at text (at + c.len) (n - c.len)) (joined (program tree text) (all_keys tree text) [] (take k (suffixes_at tree text s c.first))))
    name_pieces k at n h e room =
        let R = joined (program tree text) (all_keys tree text) [] (take k (suffixes_at tree text s c.first)) in
        let m : n ≡ c.len + (n - c.len) = omega (arith, name-length k h) in
        ap₂ same_text (ap (text_at text at) m ∙ text_split text at c.len (n - c.len)) (name_is_lem k)
        ∙ same-append (text_at text at c.len) (verb_of tree text s c) (text_at text (at + c.len) (n - c.len)) R
        (part_length text at c.len (omega (arith, name-length k h)) ∙ sym (part_length text c.offset c.len h.inside))
