-- A word that refers is judged by the badge of the lower record that it refers to: four times its kind, and the number of its list.
-- By the cases of the role. What is not lower is right only where it is none and the role allows that. Assumes nothing.
use mathlib.Core.Path.{◌≡◌, refl, sym, ap, ◌∙◌}
use Prim.Native.Nat.{ℕ, ◌+◌, ◌*◌, ◌≤◌, ◌<◌}
use mathlib.Core.Bool.{Bool, true, false, ◌&&◌, ◌||◌, false≢true}
use mathlib.Core.List.{List}
use native.Mathlib.Omega.{arith}
use lib.Dec.{eqb, leb, ltb}
use borrow.Author.Tests.{eq-eqb, ne_eqb, eqb-true, eqb-false, lt-ltb, le-ltb, le-leb, leb-true}
use Rattle.laws.specs.Fix.{pick}
use Rattle.laws.proofs.FixLaws.{below_in, pick_yes, pick_no}
use Rattle.laws.proofs.Tests.{tested, and_left}
use Rattle.records.specs.declared.shape.Role.{Role}
use Rattle.records.specs.declared.shape.Role.TheVariants.{Unused, Number, Text, Length, Expr, TypeRef, TypeOrNone, Name, Variable, Arguments, Parameters, Body, Item, Rest}
use Rattle.records.specs.Words.{kind_of, none, most_records}
use Rattle.records.specs.Shapes.{refers}
use Rattle.records.specs.Rules.{kind_below, is_expr, list_ok, word_ok, refers_to}
use Rattle.records.proofs.ListLaws.{list_end}
use Rattle.judge.specs.Inner.{class_in, kind_in, list_number, low_badge, high_badge, none_ok, KnownBelow}
use Rattle.judge.proofs.ListClass.{list-told}
use Rattle.judge.proofs.RowLaws.{divided}

-- a test says the same as two bounds
bounds : (b : Bool) (low badge high : ℕ) → (b ≡ true → (low ≤ badge) × (badge ≤ high)) → (low ≤ badge → badge ≤ high → b ≡ true) → b ≡ (leb low badge && leb badge high)
bounds true low badge high there back = rw (le-leb low badge (there refl).0, le-leb badge high (there refl).1) refl
bounds false low badge high there back =
    tested (leb low badge)
    (λ t.
    rw t
    (tested (leb badge high)
    (λ s. absurd (false≢true (back (leb-true low badge t) (leb-true badge high s))))
    (λ s. sym s)))
    (λ t. rw t refl)

badge_kind : (v k c low high : ℕ) → c ≤ 3 → low ≡ v * 4 → high ≡ v * 4 + 3 → eqb k v ≡ (leb low (k * 4 + c) && leb (k * 4 + c) high)
badge_kind v k c low high h el eh =
    bounds (eqb k v) low (k * 4 + c) high
    (λ t. let e : k ≡ v = eqb-true k v t in (omega arith, omega arith))
    (λ x y. eq-eqb k v (omega arith))

badge_expr : (k c : ℕ) → c ≤ 3 → is_expr k ≡ (leb 8 (k * 4 + c) && leb (k * 4 + c) 47)
badge_expr k c h =
    rw (divided 2 k 8 (k * 4 + c) (λ x. omega arith) (λ x. omega arith), divided k 11 (k * 4 + c) 47 (λ x. omega arith) (λ x. omega arith)) refl

badge_list : (v k c at : ℕ) → (eqb v 0 ≡ false) → at ≡ 48 + v → v ≤ 3 → c ≤ 3 → ((k ≡ 12 → ⊥) → c ≡ 0) → eqb c v ≡ (leb at (k * 4 + c) && leb (k * 4 + c) at)
badge_list v k c at some e small h cell =
    bounds (eqb c v) at (k * 4 + c) at
    (λ t.
    let q : c ≡ v = eqb-true c v t in
    tested (eqb k 12)
    (λ s. let j : k ≡ 12 = eqb-true k 12 s in (omega arith, omega arith))
    (λ s. absurd (eqb-false v 0 some (sym q ∙ cell (eqb-false k 12 s)))))
    (λ x y. eq-eqb c v (omega arith))

kind-out : (tree : List ℕ) (r w : ℕ) → r ≤ w → kind_below tree r w ≡ 0
unfolding kind_below
kind-out tree r w h = pick_no (ltb w r) (kind_of tree w) 0 (le-ltb w r h)

kind_in_lem : (tree : List ℕ) (r w : ℕ) → w < r → kind_below tree r w ≡ kind_of tree w
unfolding kind_below
kind_in_lem tree r w h = pick_yes (ltb w r) (kind_of tree w) 0 (lt-ltb w r h)

never : (b : Bool) → false ≡ (b && false)
never true = refl
never false = refl

allowed : (b : Bool) → (b || false) ≡ (b && true)
allowed true = refl
allowed false = refl

-- a word that refers to what is not lower
pub reference-out : (tree : List ℕ) (bytes r : ℕ) (role : Role) (w next : ℕ) → refers role ≡ true → r ≤ w → word_ok tree bytes r role w next ≡ (eqb w none && none_ok role)
unfolding word_ok
reference-out tree bytes r Expr w next e h = rw (kind-out tree r w h) (never (eqb w none))
reference-out tree bytes r TypeRef w next e h = rw (kind-out tree r w h) (never (eqb w none))
reference-out tree bytes r TypeOrNone w next e h = rw (kind-out tree r w h) (allowed (eqb w none))
reference-out tree bytes r Name w next e h = rw (kind-out tree r w h) (never (eqb w none))
reference-out tree bytes r Variable w next e h = rw (kind-out tree r w h) (never (eqb w none))
reference-out tree bytes r Arguments w next e h = rw (list_end tree Arguments r w h) (allowed (eqb w none))
reference-out tree bytes r Parameters w next e h = rw (list_end tree Parameters r w h) (allowed (eqb w none))
reference-out tree bytes r Body w next e h = rw (list_end tree Body r w h) (allowed (eqb w none))
reference-out tree bytes r Item w next e h = rw (le-ltb w r h) (never (eqb w none))
reference-out tree bytes r Rest w next e h = rw (kind-out tree r w h) (allowed (eqb w none))
reference-out tree bytes r Unused w next e h = absurd (false≢true e)
reference-out tree bytes r Number w next e h = absurd (false≢true e)
reference-out tree bytes r Text w next e h = absurd (false≢true e)
reference-out tree bytes r Length w next e h = absurd (false≢true e)

-- a word that refers to a lower record, of kind k and with the number c of its list
module _ (tree : List ℕ) (bytes r w next k c : ℕ) (l : List ℕ) (known : KnownBelow tree r l) (few : r < most_records) (lower : w < r)
    (kIs : k ≡ kind_in l w) (cIs : c ≡ class_in l w) (byte : k < 256) where
  kind-is : kind_below tree r w ≡ k
  kind-is = kind_in_lem tree r w lower ∙ sym (kIs ∙ known.kinds w lower)

  small : c ≤ 3
  small = rw cIs (known.small w lower)

  cell : (k ≡ 12 → ⊥) → c ≡ 0
  cell n = cIs ∙ known.cells w lower (λ q. n (kIs ∙ known.kinds w lower ∙ q))

  some : eqb w none ≡ false
  some = ne_eqb w none (λ q. omega arith)

  list-is : (role : Role) → list_ok tree role r w ≡ eqb c (list_number role)
  list-is role = list-told tree r l known role w ∙ ap (λ (x : ℕ). eqb x (list_number role)) (below_in (class_in l) r w 0 lower ∙ sym cIs)

  pub reference_in : (role : Role) → refers role ≡ true → word_ok tree bytes r role w next ≡ (leb (low_badge role) (k * 4 + c) && leb (k * 4 + c) (high_badge role))
  unfolding word_ok
  reference_in Expr e = rw kind-is (badge_expr k c small)
  reference_in TypeRef e = rw kind-is (badge_kind 1 k c 4 7 small refl refl)
  reference_in TypeOrNone e = rw (some, kind-is) (badge_kind 1 k c 4 7 small refl refl)
  reference_in Name e = rw kind-is (badge_kind 6 k c 24 27 small refl refl)
  reference_in Variable e = rw kind-is (badge_kind 24 k c 96 99 small refl refl)
  reference_in Arguments e = rw (some, list-is Arguments) (badge_list 1 k c 49 refl refl (omega arith) small cell)
  reference_in Parameters e = rw (some, list-is Parameters) (badge_list 2 k c 50 refl refl (omega arith) small cell)
  reference_in Body e = rw (some, list-is Body) (badge_list 3 k c 51 refl refl (omega arith) small cell)
  reference_in Item e = rw (lt-ltb w r lower, le-leb 0 (k * 4 + c) (omega arith), le-leb (k * 4 + c) 1023 (omega (arith, small))) refl
  reference_in Rest e = rw (some, kind-is) (badge_kind 12 k c 48 51 small refl refl)
  reference_in Unused e = absurd (false≢true e)
  reference_in Number e = absurd (false≢true e)
  reference_in Text e = absurd (false≢true e)
  reference_in Length e = absurd (false≢true e)

-- a word that is right refers to nothing from its own record on
pub refers_down : (tree : List ℕ) (bytes r : ℕ) (role : Role) (w next k : ℕ) → word_ok tree bytes r role w next ≡ true → r ≤ k → k < most_records → refers_to role w k ≡ 0
unfolding refers_to pick
refers_down tree bytes r role w next k ok h few =
    tested (refers role)
    (λ t.
    tested (eqb w k)
    (λ s.
    let e : w ≡ k = eqb-true w k s in
    let no : (eqb w none && none_ok role) ≡ true = sym (reference-out tree bytes r role w next t (omega arith)) ∙ ok in
    absurd (false≢true (sym (ne_eqb w none (λ q. omega arith)) ∙ and_left (eqb w none) (none_ok role) no)))
    (λ s. rw (t, s) refl))
    (λ t. rw t refl)
