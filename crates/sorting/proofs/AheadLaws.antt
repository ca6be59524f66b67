-- Which of two lists comes first: turned round, behind a third, and where they agree just so far; and which of two records is next.
-- By induction on the lists. Assumes nothing.
use mathlib.Core.Path.{◌≡◌, refl, sym, ap, ap₂, ◌∙◌}
use mathlib.Core.Bool.{Bool, true, false, not, false≢true}
use mathlib.Core.List.{List, [], ◌∷◌}
use Prim.Native.Nat.{ℕ, suc, ◌+◌, ◌≤◌, ◌<◌, min}
use native.Mathlib.Omega.{arith}
use lib.Dec.{eqb, ltb}
use lib.ListN.{length, drop, get_or}
use lib.Seq.{get_or-take, get_or-drop}
use borrow.Author.Tests.{eq-eqb, ne_eqb, eqb-true, eqb-false, lt-ltb, le-ltb, ltb-true, ltb-false}
use Rattle.laws.specs.Fix.{pick}
use Rattle.laws.proofs.Tests.{tested}
use Rattle.records.specs.Words.{word_of, text_at, A, B}
use Rattle.records.specs.Order.{common, record_text}
use Rattle.records.proofs.CommonLaws.{more, none, byte-same, common-left, common-right, common-other, common-least, common_self}
use Rattle.records.proofs.TextLaws.{text-length, text-inside, text-taken}
use Rattle.records.proofs.RunLaws.{common-least_of, least-inside, common-fits}
use Rattle.sorting.specs.Sorted.{ahead, Precedes, BehindOne, Chosen}

-- ---- one byte more

pub same_byte : (a b : ℕ) (t u : List ℕ) (p : Bool) → a ≡ b → ahead (a ∷ t) (b ∷ u) p ≡ ahead t u p
unfolding ahead pick
same_byte a b t u p e = rw (eq-eqb a b e) refl

pub other_byte : (a b : ℕ) (t u : List ℕ) (p : Bool) → (a ≡ b → ⊥) → ahead (a ∷ t) (b ∷ u) p ≡ ltb a b
unfolding ahead pick
other_byte a b t u p n = rw (ne_eqb a b n) refl

-- ---- two lists

-- nothing comes ahead of no bytes
pub ahead_empty : (u : List ℕ) → ahead [] u true ≡ true
unfolding ahead
ahead_empty [] = refl
ahead_empty (b ∷ u) = refl

pub ahead_weak : (t u : List ℕ) (p : Bool) → ahead t u p ≡ true → ahead t u true ≡ true
unfolding ahead
ahead_weak [] [] p h = refl
ahead_weak [] (b ∷ u) p h = refl
ahead_weak (a ∷ t) [] p h = h
ahead_weak (a ∷ t) (b ∷ u) p h =
    tested (eqb a b)
    (λ y. let e : a ≡ b = eqb-true a b y in same_byte a b t u true e ∙ ahead_weak t u p (sym (same_byte a b t u p e) ∙ h))
    (λ n. let e : a ≡ b → ⊥ = eqb-false a b n in other_byte a b t u true e ∙ sym (other_byte a b t u p e) ∙ h)

lower-turned : (a b : ℕ) → (a ≡ b → ⊥) → ltb a b ≡ not (ltb b a)
lower-turned a b n =
    tested (ltb b a)
    (λ y. le-ltb a b (omega (arith, ltb-true b a y)) ∙ ap not (sym y))
    (λ m. lt-ltb a b (omega (arith, ltb-false b a m)) ∙ ap not (sym m))

pub ahead-turned : (t u : List ℕ) (p : Bool) → ahead t u (not p) ≡ not (ahead u t p)
unfolding ahead
ahead-turned [] [] p = refl
ahead-turned [] (b ∷ u) p = refl
ahead-turned (a ∷ t) [] p = refl
ahead-turned (a ∷ t) (b ∷ u) p =
    tested (eqb a b)
    (λ y. let e : a ≡ b = eqb-true a b y in same_byte a b t u (not p) e ∙ ahead-turned t u p ∙ ap not (sym (same_byte b a u t p (sym e))))
    (λ n. let e : a ≡ b → ⊥ = eqb-false a b n in other_byte a b t u (not p) e ∙ lower-turned a b e ∙ ap not (sym (other_byte b a u t p (λ q. e (sym q)))))

pub common-turned : (t u : List ℕ) → common t u ≡ common u t
unfolding common
common-turned [] [] = refl
common-turned [] (b ∷ u) = refl
common-turned (a ∷ t) [] = refl
common-turned (a ∷ t) (b ∷ u) =
    tested (eqb a b)
    (λ y. let e : a ≡ b = eqb-true a b y in more a b t u e ∙ ap suc (common-turned t u) ∙ sym (more b a u t (sym e)))
    (λ n. let e : a ≡ b → ⊥ = eqb-false a b n in none a b t u e ∙ sym (none b a u t (λ q. e (sym q))))

-- ---- three lists

-- z agrees further with x than y does, which comes behind x: z comes first
pub further-first : (x y z : List ℕ) (p : Bool) → common x y < common x z → ahead x y true ≡ true → ahead z y p ≡ true
unfolding ahead common
further-first [] y z p h b = absurd (omega arith)
further-first (a ∷ x) y [] p h b = absurd (omega arith)
further-first (a ∷ x) [] (c ∷ z) p h b = absurd (false≢true b)
further-first (a ∷ x) (d ∷ y) (c ∷ z) p h b =
    let ac : a ≡ c = byte-same a c (common (a ∷ x) (d ∷ y)) x z h in
    tested (eqb a d)
    (λ q.
    let ad : a ≡ d = eqb-true a d q in
    same_byte c d z y p (sym ac ∙ ad)
    ∙ further-first x y z p (omega (arith, more a d x y ad, more a c x z ac)) (sym (same_byte a d x y true ad) ∙ b))
    (λ q.
    let ad : a ≡ d → ⊥ = eqb-false a d q in
    other_byte c d z y p (λ e. ad (ac ∙ e)) ∙ ap (λ (k : ℕ). ltb k d) (sym ac) ∙ sym (other_byte a d x y true ad) ∙ b)

pub ahead_self : (x : List ℕ) (p : Bool) → ahead x x p ≡ p
unfolding ahead
ahead_self [] p = refl
ahead_self (a ∷ x) p = same_byte a a x x p refl ∙ ahead_self x p

pub ahead_trans : (x y z : List ℕ) (p q r : Bool) → ahead x y p ≡ true → ahead y z q ≡ true → (p ≡ true → q ≡ true → r ≡ true) → ahead x z r ≡ true
unfolding ahead
ahead_trans [] [] [] p q r h k f = f h k
ahead_trans [] [] (c ∷ z) p q r h k f = refl
ahead_trans [] (b ∷ y) [] p q r h k f = absurd (false≢true k)
ahead_trans [] (b ∷ y) (c ∷ z) p q r h k f = refl
ahead_trans (a ∷ x) [] z p q r h k f = absurd (false≢true h)
ahead_trans (a ∷ x) (b ∷ y) [] p q r h k f = absurd (false≢true k)
ahead_trans (a ∷ x) (b ∷ y) (c ∷ z) p q r h k f =
    tested (eqb a b)
    (λ u.
    let ab : a ≡ b = eqb-true a b u in
    tested (eqb b c)
    (λ v.
    let bc : b ≡ c = eqb-true b c v in
    same_byte a c x z r (ab ∙ bc) ∙ ahead_trans x y z p q r (sym (same_byte a b x y p ab) ∙ h) (sym (same_byte b c y z q bc) ∙ k) f)
    (λ v.
    let bc : b ≡ c → ⊥ = eqb-false b c v in
    let less : b < c = ltb-true b c (sym (other_byte b c y z q bc) ∙ k) in
    other_byte a c x z r (λ e. omega arith) ∙ lt-ltb a c (omega arith)))
    (λ u.
    let ab : a ≡ b → ⊥ = eqb-false a b u in
    let less : a < b = ltb-true a b (sym (other_byte a b x y p ab) ∙ h) in
    tested (eqb b c)
    (λ v. let bc : b ≡ c = eqb-true b c v in other_byte a c x z r (λ e. omega arith) ∙ lt-ltb a c (omega arith))
    (λ v.
    let bc : b ≡ c → ⊥ = eqb-false b c v in
    let more : b < c = ltb-true b c (sym (other_byte b c y z q bc) ∙ k) in
    other_byte a c x z r (λ e. omega arith) ∙ lt-ltb a c (omega arith)))

pub ahead-both : (x y : List ℕ) → ahead x y true ≡ true → ahead y x true ≡ true → x ≡ y
unfolding ahead
ahead-both [] [] h k = refl
ahead-both [] (b ∷ y) h k = absurd (false≢true k)
ahead-both (a ∷ x) [] h k = absurd (false≢true h)
ahead-both (a ∷ x) (b ∷ y) h k =
    tested (eqb a b)
    (λ u.
    let e : a ≡ b = eqb-true a b u in
    ap₂ (λ (c : ℕ) (l : List ℕ). c ∷ l) e (ahead-both x y (sym (same_byte a b x y true e) ∙ h) (sym (same_byte b a y x true (sym e)) ∙ k)))
    (λ u.
    let n : a ≡ b → ⊥ = eqb-false a b u in
    absurd
    (omega (
      arith,
      ltb-true a b (sym (other_byte a b x y true n) ∙ h),
      ltb-true b a (sym (other_byte b a y x true (λ q. n (sym q))) ∙ k),
    )))

-- ---- two lists that agree just so far

ahead-ends : (t u : List ℕ) → common t u ≡ length t → ahead t u true ≡ true
unfolding ahead common
ahead-ends [] u h = ahead_empty u
ahead-ends (a ∷ t) [] h = absurd (omega arith)
ahead-ends (a ∷ t) (b ∷ u) h =
    tested (eqb a b)
    (λ y. let e : a ≡ b = eqb-true a b y in same_byte a b t u true e ∙ ahead-ends t u (omega (arith, more a b t u e)))
    (λ n. absurd (omega (arith, none a b t u (eqb-false a b n))))

ahead-ended : (t u : List ℕ) (p : Bool) → (common t u ≡ length t → ⊥) → common t u ≡ length u → ahead t u p ≡ false
unfolding ahead common
ahead-ended [] u p n h = absurd (n refl)
ahead-ended (a ∷ t) [] p n h = refl
ahead-ended (a ∷ t) (b ∷ u) p n h =
    tested (eqb a b)
    (λ y.
    let e : a ≡ b = eqb-true a b y in
    same_byte a b t u p e ∙ ahead-ended t u p (λ q. n (more a b t u e ∙ ap suc q)) (omega (arith, more a b t u e)))
    (λ m. absurd (omega (arith, none a b t u (eqb-false a b m))))

ahead-byte : (t u : List ℕ) (p : Bool) → (common t u ≡ length t → ⊥) → (common t u ≡ length u → ⊥)
    → ahead t u p ≡ ltb (get_or t (common t u) 0) (get_or u (common t u) 0)
unfolding ahead common
ahead-byte [] u p n m = absurd (n refl)
ahead-byte (a ∷ t) [] p n m = absurd (m refl)
ahead-byte (a ∷ t) (b ∷ u) p n m =
    tested (eqb a b)
    (λ y.
    let e : a ≡ b = eqb-true a b y in
    same_byte a b t u p e
    ∙ ahead-byte t u p (λ q. n (more a b t u e ∙ ap suc q)) (λ q. m (more a b t u e ∙ ap suc q))
    ∙ ap (λ (k : ℕ). ltb (get_or (a ∷ t) k 0) (get_or (b ∷ u) k 0)) (sym (more a b t u e)))
    (λ q.
    let e : a ≡ b → ⊥ = eqb-false a b q in
    other_byte a b t u p e ∙ ap (λ (k : ℕ). ltb (get_or (a ∷ t) k 0) (get_or (b ∷ u) k 0)) (sym (none a b t u e)))

pub text-byte : (text : List ℕ) (i n k : ℕ) → k < n → get_or (text_at text i n) k 0 ≡ get_or text (i + k) 0
unfolding text_at
text-byte text i n k h = get_or-take n (drop i text) k 0 h ∙ get_or-drop i text k 0

-- lists that agree to the end of both are the same
pub whole : (x y : List ℕ) → common x y ≡ length x → common x y ≡ length y → x ≡ y
unfolding common
whole [] [] h i = refl
whole [] (b ∷ y) h i = absurd (omega arith)
whole (a ∷ x) [] h i = absurd (omega arith)
whole (a ∷ x) (b ∷ y) h i =
    tested (eqb a b)
    (λ u. let e : a ≡ b = eqb-true a b u in ap₂ (λ (c : ℕ) (l : List ℕ). c ∷ l) e (whole x y (omega (arith, more a b x y e)) (omega (arith, more a b x y e))))
    (λ u. absurd (omega (arith, none a b x y (eqb-false a b u))))

-- the bytes from i on agree with themselves
pub common-one : (text : List ℕ) (i j n : ℕ) → i ≡ j → (0 < n → (i + n ≤ length text) × (j + n ≤ length text)) → n ≡ common (text_at text i n) (text_at text j n)
common-one text i j n e f =
    let h : n ≡ length (text_at text i n) =
    tested (ltb 0 n)
    (λ y. omega (arith, text-length text i n, (f (ltb-true 0 n y)).0))
    (λ m. omega (arith, text-length text i n, ltb-false 0 n m)) in
    h ∙ sym (common_self (text_at text i n)) ∙ ap (λ (q : ℕ). common (text_at text i n) (text_at text q n)) e

module _ (text : List ℕ) (i x j y shared : ℕ) (ex : x ≡ length (text_at text i x)) (ey : y ≡ length (text_at text j y))
    (es : shared ≡ common (text_at text i x) (text_at text j y)) where
  pub first_ends : shared ≡ x → true ≡ ahead (text_at text i x) (text_at text j y) true
  first_ends e = sym (ahead-ends (text_at text i x) (text_at text j y) (sym es ∙ e ∙ ex))

  pub first_ended : (shared ≡ x → ⊥) → shared ≡ y → false ≡ ahead (text_at text i x) (text_at text j y) true
  first_ended n e = sym (ahead-ended (text_at text i x) (text_at text j y) true (λ q. n (es ∙ q ∙ sym ex)) (sym es ∙ e ∙ ey))

  module _ (n : shared ≡ x → ⊥) (m : shared ≡ y → ⊥) where
    left_below : shared < x
    left_below = omega (arith, common-left (text_at text i x) (text_at text j y))

    right-below : shared < y
    right-below = omega (arith, common-right (text_at text i x) (text_at text j y))

    pub left-inside : i + shared < length text
    left-inside = omega (arith, left_below, text-inside text i x x ex (λ z. omega (arith, left_below)))

    pub right-inside : j + shared < length text
    right-inside = omega (arith, right-below, text-inside text j y y ey (λ z. omega (arith, right-below)))

    pub first-lower : ltb (get_or text (i + shared) 0) (get_or text (j + shared) 0) ≡ ahead (text_at text i x) (text_at text j y) true
    first-lower =
        sym
        (ahead-byte (text_at text i x) (text_at text j y) true (λ q. n (es ∙ q ∙ sym ex)) (λ q. m (es ∙ q ∙ sym ey))
        ∙ ap₂ ltb
        (ap (λ (k : ℕ). get_or (text_at text i x) k 0) (sym es) ∙ text-byte text i x shared left_below)
        (ap (λ (k : ℕ). get_or (text_at text j y) k 0) (sym es) ∙ text-byte text j y shared right-below))

pub long-told : (tree text : List ℕ) (r i n v : ℕ) → i ≡ word_of tree r A → n ≡ word_of tree r B → v ≡ length (text_at text i n) → v ≡ length (record_text tree text r)
long-told tree text r i n v ei en e = e ∙ ap₂ (λ (p q : ℕ). length (text_at text p q)) ei en

-- ---- the texts of two records, of which l bytes at least can be compared

module _ (tree text : List ℕ) (a b i n j m x y l : ℕ) (ei : i ≡ word_of tree a A) (en : n ≡ word_of tree a B) (ej : j ≡ word_of tree b A) (em : m ≡ word_of tree b B)
    (ex : x ≡ length (text_at text i n)) (ey : y ≡ length (text_at text j m)) (el : l ≡ min x y) where
  left-text : text_at text i x ≡ record_text tree text a
  left-text = text-taken text i n x ex ∙ ap₂ (λ (p q : ℕ). text_at text p q) ei en

  right-text : text_at text j y ≡ record_text tree text b
  right-text = text-taken text j m y ey ∙ ap₂ (λ (p q : ℕ). text_at text p q) ej em

  their_common : common (text_at text i l) (text_at text j l) ≡ common (record_text tree text a) (record_text tree text b)
  their_common =
      sym (common-least_of text i n j m x y ex ey l el)
      ∙ ap₂ common (ap₂ (λ (p q : ℕ). text_at text p q) ei en) (ap₂ (λ (p q : ℕ). text_at text p q) ej em)

  pub compared-from : (from : ℕ) → from ≤ common (record_text tree text a) (record_text tree text b)
      → (0 < l → (i + l ≤ length text) × (j + l ≤ length text)) × (from ≤ common (text_at text i l) (text_at text j l))
  compared-from from h = (λ z. least-inside text i n j m x y ex ey l el z, omega (arith, their_common))

  module _ (shared : ℕ) (es : shared ≡ common (text_at text i l) (text_at text j l)) where
    pub shared-fits : shared ≤ n
    shared-fits = common-fits text i n j m x y ex ey l shared el es

    pub ends-known : (x ≡ length (text_at text i x)) × (y ≡ length (text_at text j y)) × (shared ≡ common (text_at text i x) (text_at text j y))
    ends-known =
        (ex ∙ ap length (sym (text-taken text i n x ex)), ey ∙ ap length (sym (text-taken text j m y ey)), es ∙ their_common ∙ ap₂ common (sym left-text) (sym right-text))

    pub compared : (left : Bool) → left ≡ ahead (text_at text i x) (text_at text j y) true → Chosen (record_text tree text a) (record_text tree text b) left shared
    compared left e =
        record {
          next = e ∙ ap₂ (λ (p q : List ℕ). ahead p q true) left-text right-text;
          shares = es ∙ their_common;
        }

-- ---- which is next

module _ (t u : List ℕ) (left right : ℕ) (w : BehindOne t u left right) where
  pub left-further : right < left → Chosen t u true right
  left-further h =
      let less : common w.before u < common w.before t = omega (arith, w.left_shares, w.right_shares) in
      record {
        next = sym (further-first w.before u t true less w.right_behind);
        shares = w.right_shares ∙ sym (common-other w.before u t less);
      }

  pub right-further : left < right → Chosen t u false left
  right-further h =
      let less : common w.before t < common w.before u = omega (arith, w.left_shares, w.right_shares) in
      record {
        next = sym (ahead-turned t u false ∙ ap not (further-first w.before t u false less w.left_behind));
        shares = w.left_shares ∙ sym (common-other w.before t u less) ∙ common-turned u t;
      }

  pub agree_so_far : left ≤ right → right ≤ left → left ≤ common t u
  agree_so_far h k = common-least left w.before u t (omega (arith, w.right_shares)) (omega (arith, w.left_shares))

module _ (t : ℕ → List ℕ) (a b shared : ℕ) (left : Bool) (h : a < b) (c : Chosen (t a) (t b) left shared) where
  pub left_precedes : left ≡ true → Precedes t a b
  left_precedes e = rw (lt-ltb a b h) (sym c.next ∙ e)

  pub right_precedes : left ≡ false → Precedes t b a
  right_precedes e = rw (le-ltb b a (omega arith)) (ahead-turned (t b) (t a) true ∙ ap not (sym c.next ∙ e))

  pub right_shares_lem : shared ≡ common (t b) (t a)
  right_shares_lem = c.shares ∙ common-turned (t a) (t b)
