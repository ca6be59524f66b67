-- How far two parts of a buffer agree: a byte more, a run more, the end; and of two texts whether they are the same.
-- By the laws of common beginnings. Assumes nothing.
use mathlib.Core.Path.{◌≡◌, refl, sym, ap, ap₂, ◌∙◌}
use mathlib.Core.Bool.{Bool, true, ◌&&◌, false≢true}
use mathlib.Core.List.{List, [], ◌∷◌}
use Prim.Native.Nat.{ℕ, zero, suc, ◌+◌, ◌-◌, ◌≤◌, ◌<◌, min}
use native.Mathlib.Omega.{arith}
use lib.Dec.{eqb, leb}
use lib.ListN.{length, take, drop, get_or}
use lib.Seq.{drop-drop, take-nil, take-take}
use borrow.Author.Tests.{eq-eqb, ne_eqb, eqb-true, leb-true, leb-false}
use Rattle.laws.specs.Fix.{pick}
use Rattle.laws.proofs.Tests.{tested, and_left, and_right}
use Rattle.records.specs.Words.{word_of, text_at, same_text, A, B}
use Rattle.records.specs.Order.{common, record_text, Agrees}
use Rattle.records.proofs.CommonLaws.{common-left, common-from, common_self}
use Rattle.records.proofs.TextLaws.{first_byte, text-length, text-taken, text-inside, same-texts}
use Rattle.records.proofs.DigestLaws.{same-equal}

-- ---- parts of a buffer

drop-take : (k n : ℕ) (l : List ℕ) → drop k (take n l) ≡ take (n - k) (drop k l)
drop-take zero n l = let z : n - 0 ≡ n = omega arith in rw z refl
drop-take (suc k) zero l = let z : 0 - suc k ≡ 0 = omega arith in rw z refl
drop-take (suc k) (suc n) [] = sym (take-nil (suc n - suc k))
drop-take (suc k) (suc n) (x ∷ l) = let z : suc n - suc k ≡ n - k = omega arith in rw z (drop-take k n l)

drop-text : (t : List ℕ) (o n k : ℕ) → drop k (text_at t o n) ≡ text_at t (o + k) (n - k)
unfolding text_at
drop-text t o n k = drop-take k n (drop o t) ∙ ap (take (n - k)) (drop-drop k o t)

-- what is the same in m bytes agrees in them
common_run : (m : ℕ) (x y : List ℕ) → m ≤ length x → take m x ≡ take m y → m ≤ common x y
unfolding common pick
common_run zero x y h e = omega arith
common_run (suc m) [] y h e = absurd (omega arith)
common_run (suc m) (a ∷ x) [] h e = absurd (let z : ◌≡◌ {A = ℕ} 1 0 = ap (λ (l : List ℕ). length (take 1 l)) e in omega arith)
common_run (suc m) (a ∷ x) (b ∷ y) h e =
    let ab : a ≡ b = cc in
    let r : take m x ≡ take m y = cc in
    rw (eq-eqb a b ab) (omega (arith, common_run m x y (omega arith) r))

-- ---- from a and from b on, n bytes

module _ (t : List ℕ) (a b n : ℕ) where
  abbrev pub Common : ℕ
  Common = common (text_at t a n) (text_at t b n)

  common-within : Common ≤ n
  common-within = omega (arith, common-left (text_at t a n) (text_at t b n), text-length t a n)

  module _ (k : ℕ) (h : k ≤ Common) where
    from : Common ≡ k + common (text_at t (a + k) (n - k)) (text_at t (b + k) (n - k))
    from =
        common-from k (text_at t a n) (text_at t b n) h
        ∙ ap (λ (x : ℕ). k + x) (ap₂ common (drop-text t a n k) (drop-text t b n k))

    pub common-below : k ≤ n
    common-below = omega (arith, common-within)

    pub common_end : n ≤ k → n ≡ Common
    common_end z = omega (arith, common-within)

    module _ (hk : k < n) (ha : a + n ≤ length t) (hb : b + n ≤ length t) where
      bytes : Common ≡ k + common (get_or t (a + k) 0 ∷ text_at t (a + (k + 1)) (n - (k + 1))) (get_or t (b + k) 0 ∷ text_at t (b + (k + 1)) (n - (k + 1)))
      bytes = from ∙ ap (λ (x : ℕ). k + x) (ap₂ common (first_byte t a n k hk ha) (first_byte t b n k hk hb))

      pub common-more : get_or t (a + k) 0 ≡ get_or t (b + k) 0 → k + 1 ≤ Common
      unfolding common pick
      common-more e = let z : Common ≡ k + suc (common (text_at t (a + (k + 1)) (n - (k + 1))) (text_at t (b + (k + 1)) (n - (k + 1)))) = bytes ∙ rw (eq-eqb _ _ e) refl in omega arith

      pub common-stop : (get_or t (a + k) 0 ≡ get_or t (b + k) 0 → ⊥) → k ≡ Common
      unfolding common pick
      common-stop e = let z : Common ≡ k + 0 = bytes ∙ rw (ne_eqb _ _ e) refl in omega arith

    -- m bytes more are the same
    pub common-part : (m : ℕ) (r : Bool) → m ≤ n - k → a + n ≤ length t → r ≡ same_text (text_at t (a + k) m) (text_at t (b + k) m) → r ≡ true → k + m ≤ Common
    unfolding text_at
    common-part m r hm ha e y =
        let same : text_at t (a + k) m ≡ text_at t (b + k) m = same-equal _ _ (sym e ∙ y) in
        let long : length (text_at t (a + k) (n - k)) ≡ min (n - k) (length t - (a + k)) = text-length t (a + k) (n - k) in
        let cut : take m (text_at t (a + k) (n - k)) ≡ take m (text_at t (b + k) (n - k)) =
        take-take m (n - k) (drop (a + k) t) hm ∙ same ∙ sym (take-take m (n - k) (drop (b + k) t) hm) in
        omega (arith, from, common_run m (text_at t (a + k) (n - k)) (text_at t (b + k) (n - k)) (omega arith) cut)

-- ---- two texts of other lengths

cut_left : (p q : ℕ) (x y : List ℕ) → p ≤ q → common (take p x) (take q y) ≡ common (take p x) (take p y)
unfolding common pick
cut_left zero q x y h = refl
cut_left (suc p) zero x y h = absurd (omega arith)
cut_left (suc p) (suc q) [] y h = refl
cut_left (suc p) (suc q) (a ∷ x) [] h = refl
cut_left (suc p) (suc q) (a ∷ x) (b ∷ y) h = rw (cut_left p q x y (omega arith)) refl

no-common : (x : List ℕ) → common x [] ≡ 0
unfolding common
no-common [] = refl
no-common (a ∷ x) = refl

cut_right : (p q : ℕ) (x y : List ℕ) → q ≤ p → common (take p x) (take q y) ≡ common (take q x) (take q y)
unfolding common pick
cut_right p zero x y h = no-common (take p x)
cut_right zero (suc q) x y h = absurd (omega arith)
cut_right (suc p) (suc q) [] y h = refl
cut_right (suc p) (suc q) (a ∷ x) [] h = refl
cut_right (suc p) (suc q) (a ∷ x) (b ∷ y) h = rw (cut_right p q x y (omega arith)) refl

cut : (p q m : ℕ) (x y : List ℕ) → m ≡ min p q → common (take p x) (take q y) ≡ common (take m x) (take m y)
cut p q m x y e =
    tested (leb p q)
    (λ t. let h : p ≤ q = leb-true p q t in let z : m ≡ p = omega arith in rw z (cut_left p q x y h))
    (λ t. let h : q < p = leb-false p q t in let z : m ≡ q = omega arith in rw z (cut_right p q x y (omega arith)))

-- texts that agree to the end of both are the same
common-whole : (x y : List ℕ) → common x y ≡ length x → common x y ≡ length y → x ≡ y
unfolding common pick
common-whole [] [] h i = refl
common-whole [] (b ∷ y) h i = absurd (omega arith)
common-whole (a ∷ x) [] h i = absurd (omega arith)
common-whole (a ∷ x) (b ∷ y) h i =
    tested (eqb a b)
    (λ t.
    let e : pick (eqb a b) (suc (common x y)) 0 ≡ suc (common x y) = rw t refl in
    ap₂ (λ (c : ℕ) (l : List ℕ). c ∷ l) (eqb-true a b t) (common-whole x y (omega (arith, e, h)) (omega (arith, e, i))))
    (λ t. let e : pick (eqb a b) (suc (common x y)) 0 ≡ 0 = rw t refl in absurd (omega (arith, e, h)))

module _ (text : List ℕ) (a n b m x y : ℕ) (ex : x ≡ length (text_at text a n)) (ey : y ≡ length (text_at text b m)) where
  -- as far as the shorter goes
  pub common-least_of : (l : ℕ) → l ≡ min x y → common (text_at text a n) (text_at text b m) ≡ common (text_at text a l) (text_at text b l)
  unfolding text_at
  common-least_of l e =
      ap₂ common (sym (text-taken text a n x ex)) (sym (text-taken text b m y ey)) ∙ cut x y l (drop a text) (drop b text) e

  -- the buffer has the bytes that both have
  pub least-inside : (l : ℕ) → l ≡ min x y → 0 < l → (a + l ≤ length text) × (b + l ≤ length text)
  least-inside l e h =
      (omega (arith, text-inside text a n x ex (λ z. omega arith)), omega (arith, text-inside text b m y ey (λ z. omega arith)))

  -- neither is longer than its word says
  pub first_fits_lem : x ≤ n
  first_fits_lem = omega (arith, ex, text-length text a n)

  pub common-fits : (l c : ℕ) → l ≡ min x y → c ≡ common (text_at text a l) (text_at text b l) → c ≤ n
  common-fits l c e ec = omega (arith, ec, common-within text a b l, first_fits_lem)

  -- they are the same just if they agree to the end of both
  pub agrees : (l c : ℕ) → l ≡ min x y → c ≡ common (text_at text a l) (text_at text b l) → Agrees (text_at text a n) (text_at text b m) c (eqb c x && eqb c y)
  agrees l c e ec =
      let far : c ≡ common (text_at text a n) (text_at text b m) = ec ∙ sym (common-least_of l e) in
      record {
        far = far;
        same =
            tested (same_text (text_at text a n) (text_at text b m))
            (λ t.
            let q : text_at text a n ≡ text_at text b m = same-equal _ _ t in
            let w : c ≡ x = far ∙ ap (λ (u : List ℕ). common (text_at text a n) u) (sym q) ∙ common_self (text_at text a n) ∙ sym ex in
            let v : c ≡ y = w ∙ ex ∙ ap length q ∙ sym ey in
            rw (eq-eqb c x w, eq-eqb c y v) (sym t))
            (λ t.
            tested (eqb c x && eqb c y)
            (λ u.
            absurd
            (false≢true
            (sym t
            ∙ same-texts _ _
            (common-whole _ _
            (sym far ∙ eqb-true c x (and_left (eqb c x) (eqb c y) u) ∙ ex)
            (sym far ∙ eqb-true c y (and_right (eqb c x) (eqb c y) u) ∙ ey)))))
            (λ u. u ∙ sym t));
      }

  pub agrees_whole : (r : Bool) → r ≡ same_text (text_at text a n) (text_at text b m) → r ≡ true → Agrees (text_at text a n) (text_at text b m) x true
  agrees_whole r e y =
      let t : same_text (text_at text a n) (text_at text b m) ≡ true = sym e ∙ y in
      record {
        far = ex ∙ sym (common_self (text_at text a n)) ∙ ap (λ (u : List ℕ). common (text_at text a n) u) (same-equal _ _ t);
        same = sym t;
      }

-- ---- the texts of two records, by the words that the code reads

module _ (tree text : List ℕ) (k r a b x y : ℕ) where
  pub from_told : (from : ℕ) → a ≡ word_of tree k A → b ≡ word_of tree k B → x ≡ word_of tree r A → y ≡ word_of tree r B
      → from ≤ common (record_text tree text k) (record_text tree text r) → from ≤ common (text_at text a b) (text_at text x y)
  from_told from ea eb ex ey h = rw (ea, eb, ex, ey) h

  pub agrees_told : (bytes : ℕ) (whole : Bool) → a ≡ word_of tree k A → b ≡ word_of tree k B → x ≡ word_of tree r A → y ≡ word_of tree r B
      → Agrees (text_at text a b) (text_at text x y) bytes whole → Agrees (record_text tree text k) (record_text tree text r) bytes whole
  agrees_told bytes whole ea eb ex ey h = rw (ea, eb, ex, ey) at h
