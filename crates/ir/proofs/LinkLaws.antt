-- Numbers linked by buckets: where a walk through a bucket begins and what it tells, what words that stay leave of the links, and one number more.
-- Along the walk by recursion; one number more by whether a bucket is the new number's. Assumes nothing.
use mathlib.Core.Path.{◌≡◌, refl, sym, ap, ◌∙◌, subst}
use mathlib.Core.Bool.{Bool, true, false, ◌&&◌, false≢true}
use Prim.Native.Nat.{ℕ, zero, suc, ◌+◌, ◌-◌, ◌≤◌, ◌<◌}
use native.Mathlib.Omega.{arith}
use lib.Dec.{eqb, ltb}
use borrow.Author.Count.{below_more}
use borrow.Author.Tests.{eqb-true, eqb-false, eq-eqb, ltb-true, lt-ltb}
use Rattle.laws.specs.Fix.{pick}
use Rattle.laws.proofs.Tests.{tested, and_left, and_right}
use Rattle.std.specs.Prelude.{Option as StdOption, Some, None}
use Rattle.ir.specs.Arena.{Linked}
use Rattle.ir.specs.Search.{Walks, ended, here, further, astray}

both_hold : (a b : Bool) → a ≡ true → b ≡ true → (a && b) ≡ true
both_hold a b e q = rw (e, q)

-- ---- walks, as the code meets them

one-past : (v j : ℕ) → 0 < v → j ≡ v - 1 → suc j ≡ v
one-past v j h e = omega arith

module _ {link : ℕ → ℕ} {f : ℕ → Bool} where
  pub walk_end : (v : ℕ) → v ≤ 0 → Walks link f v None
  walk_end v h = let z : 0 ≡ v = omega arith in subst (λ (u : ℕ). Walks link f u None) z ended

  module _ (v j : ℕ) (some : 0 < v) (e : j ≡ v - 1) where
    pub walk_here : f j ≡ true → Walks link f v (Some j)
    walk_here q = subst (λ (u : ℕ). Walks link f u (Some j)) (one-past v j some e) (here q)

    module _ (next : ℕ) (is : next ≡ link j) (other : f j ≡ false) where
      pub walk_further : next ≤ j → (r : StdOption ℕ) → Walks link f next r → Walks link f v r
      walk_further h r w =
          let low : link j ≤ j = subst (λ (x : ℕ). x ≤ j) is h in
          subst (λ (u : ℕ). Walks link f u r) (one-past v j some e) (further other low (subst (λ (x : ℕ). Walks link f x r) is w))

      pub walk_astray : j < next → Walks link f v None
      walk_astray h = subst (λ (u : ℕ). Walks link f u None) (one-past v j some e) (astray other (subst (λ (x : ℕ). j < x) is h))

  pub walk_below : {v : ℕ} {r : StdOption ℕ} → Walks link f v r → (i : ℕ) → r ≡ Some i → i < v
  walk_below ended i e = absurd (let z : ◌≡◌ {A = ℕ} 0 1 = cc in omega arith)
  walk_below (here {j} q) i e = let z : j ≡ i = cc in omega arith
  walk_below (further {j} q h w) i e = omega (arith, walk_below w i e, h)
  walk_below (astray {j} q h) i e = absurd (let z : ◌≡◌ {A = ℕ} 0 1 = cc in omega arith)

-- ---- where a walk through bucket b begins: one past its last number, or at 0 where it has none

pub record Start (bucket : ℕ → ℕ) (m b v : ℕ) : Type 0 where
  pub at : (j : ℕ) → v ≡ suc j → (j < m) × (bucket j ≡ b)
  pub all : (j : ℕ) → j < m → bucket j ≡ b → j < v

pub start_low : {bucket : ℕ → ℕ} {m b : ℕ} (v : ℕ) → Start bucket m b v → v ≤ m
start_low zero s = omega arith
start_low (suc j) s = omega (arith, (s.at j refl).0)

pub start_same : {bucket : ℕ → ℕ} {m b v : ℕ} (bucket' : ℕ → ℕ) → ((i : ℕ) → i < m → bucket' i ≡ bucket i) → Start bucket m b v → Start bucket' m b v
start_same bucket' e s = record {
  at = λ j z. let h = s.at j z in (h.0, e j h.0 ∙ h.1);
  all = λ j h q. s.all j h (sym (e j h) ∙ q);
}

-- what a walk tells: a number of which the test holds, or that it holds of none
abbrev pub Told : ℕ → (ℕ → Bool) → StdOption ℕ → Type 0
Told m f (Some i) = (i < m) × (f i ≡ true)
Told m f None = (j : ℕ) → j < m → f j ≡ true → ⊥

module _ {head link bucket : ℕ → ℕ} {m : ℕ} (c : Linked head link bucket m) where
  module _ (b i : ℕ) (e : i ≡ head b) where
    start_here : i < m → bucket i ≡ b → Start bucket m b (i + 1)
    start_here h q = record {
      at = λ j z. let y : i ≡ j = omega arith in (omega arith, ap bucket (sym y) ∙ q);
      all = λ j hj qj. omega (arith, subst (λ (x : ℕ). j ≤ head x) qj (c.head_last j hj), e);
    }

    start_none : (i < m → bucket i ≡ b → ⊥) → Start bucket m b 0
    start_none never = record {
      at = λ j z. absurd (omega arith);
      all = λ j hj qj.
          let h : head b < m = subst (λ (x : ℕ). head x < m) qj (c.head_in j hj) in
          absurd (never (omega (arith, e)) (ap bucket e ∙ ap (λ (x : ℕ). bucket (head x)) (sym qj) ∙ c.head_of j hj ∙ qj));
    }

    pub start : (t : Bool) → t ≡ (ltb i m && eqb (bucket i) b) → Start bucket m b (pick t (i + 1) 0)
    unfolding pick
    start true q =
        start_here (ltb-true i m (and_left (ltb i m) (eqb (bucket i) b) (sym q))) (eqb-true (bucket i) b (and_right (ltb i m) (eqb (bucket i) b) (sym q)))
    start false q =
        start_none (λ h p. false≢true (q ∙ both_hold (ltb i m) (eqb (bucket i) b) (lt-ltb i m h) (eq-eqb (bucket i) b p)))

  -- a walk from there
  module _ (f : ℕ → Bool) (b : ℕ) (in_bucket_lem : (j : ℕ) → j < m → f j ≡ true → bucket j ≡ b) where
    pub walk_tells : {v : ℕ} {r : StdOption ℕ} → Walks link f v r → ((j : ℕ) → v ≡ suc j → (j < m) × (bucket j ≡ b)) → ((j : ℕ) → j < m → f j ≡ true → j < v) → Told m f r
    walk_tells ended at all = λ j h q. absurd (omega (arith, all j h q))
    walk_tells (here {j} q) at all = ((at j refl).0, q)
    walk_tells (further {j} q low w) at all =
        let is-in : j < m = (at j refl).0 in
        let lower : (i : ℕ) → i < m → f i ≡ true → i < j = λ i h p.
        tested (eqb i j) (λ t. absurd (false≢true (sym q ∙ ap f (sym (eqb-true i j t)) ∙ p)))
        (λ t. let ne : i ≡ j → ⊥ = eqb-false i j t in omega (arith, all i h p)) in
        walk_tells w (λ i z. (omega (arith, low, z), c.link_of j i is-in z ∙ (at j refl).1))
        (λ i h p. c.link_last j i is-in (lower i h p) (in_bucket_lem i h p ∙ sym (at j refl).1))
    walk_tells (astray {j} q low) at all = absurd (omega (arith, low, c.link_low j (at j refl).0))

  -- words that stay
  pub linked-words : (head' link' : ℕ → ℕ) → ((i : ℕ) → i < m → head' (bucket i) ≡ head (bucket i)) → ((i : ℕ) → i < m → link' i ≡ link i) → Linked head' link' bucket m
  linked-words head' link' eh el = record {
    head_in = λ i h. subst (λ (x : ℕ). x < m) (sym (eh i h)) (c.head_in i h);
    head_of = λ i h. ap bucket (eh i h) ∙ c.head_of i h;
    head_last = λ i h. subst (λ (x : ℕ). i ≤ x) (sym (eh i h)) (c.head_last i h);
    link_low = λ i h. subst (λ (x : ℕ). x ≤ i) (sym (el i h)) (c.link_low i h);
    link_of = λ i j h q. c.link_of i j h (sym (el i h) ∙ q);
    link_last = λ i j h lt q. subst (λ (x : ℕ). j < x) (sym (el i h)) (c.link_last i j h lt q);
  }

  -- buckets that are the same
  pub linked-same : (bucket' : ℕ → ℕ) → ((i : ℕ) → i < m → bucket' i ≡ bucket i) → Linked head link bucket' m
  linked-same bucket' e = record {
    head_in = λ i h. subst (λ (b : ℕ). head b < m) (sym (e i h)) (c.head_in i h);
    head_of = λ i h. ap (λ (b : ℕ). bucket' (head b)) (e i h) ∙ e (head (bucket i)) (c.head_in i h) ∙ c.head_of i h ∙ sym (e i h);
    head_last = λ i h. subst (λ (b : ℕ). i ≤ head b) (sym (e i h)) (c.head_last i h);
    link_low = c.link_low;
    link_of = λ i j h q. e j (omega (arith, c.link_low i h, q)) ∙ c.link_of i j h q ∙ sym (e i h);
    link_last = λ i j h lt q. c.link_last i j h lt (sym (e j (omega arith)) ∙ q ∙ e i h);
  }

  -- number m goes before the others of its bucket
  module _ (head' link' : ℕ → ℕ) (b v : ℕ) (s : Start bucket m b v) (eb : bucket m ≡ b) (own : head' b ≡ m) (others : (a : ℕ) → (a ≡ b → ⊥) → head' a ≡ head a)
      (last : link' m ≡ v) (old : (i : ℕ) → i < m → link' i ≡ link i) where
    older : (i : ℕ) → i < m + 1 → (bucket i ≡ b → ⊥) → i < m
    older i h ne =
        tested (eqb i m) (λ t. absurd (ne (ap bucket (eqb-true i m t) ∙ eb)))
        (λ t. let w : i ≡ m → ⊥ = eqb-false i m t in omega arith)

    by_head : (Q : ℕ → ℕ → Type 0) → ((i : ℕ) → i < m + 1 → bucket i ≡ b → Q i m) → ((i : ℕ) → i < m → Q i (head (bucket i)))
        → (i : ℕ) → i < m + 1 → Q i (head' (bucket i))
    by_head Q p q i h =
        tested (eqb (bucket i) b)
        (λ t. let z : bucket i ≡ b = eqb-true (bucket i) b t in subst (Q i) (sym (ap head' z ∙ own)) (p i h z))
        (λ t. let ne : bucket i ≡ b → ⊥ = eqb-false (bucket i) b t in subst (Q i) (sym (others (bucket i) ne)) (q i (older i h ne)))

    by_link : (Q : ℕ → ℕ → Type 0) → ((i : ℕ) → i < m → Q i (link i)) → Q m v → (i : ℕ) → i < m + 1 → Q i (link' i)
    by_link Q p q = below_more (λ (i : ℕ). Q i (link' i)) m (λ i h. subst (Q i) (sym (old i h)) (p i h)) (subst (Q m) (sym last) q)

    pub linked-more : Linked head' link' bucket (m + 1)
    linked-more = record {
      head_in = by_head (λ i x. x < m + 1) (λ i h z. omega arith) (λ i h. omega (arith, c.head_in i h));
      head_of = by_head (λ i x. bucket x ≡ bucket i) (λ i h z. eb ∙ sym z) c.head_of;
      head_last = by_head (λ i x. i ≤ x) (λ i h z. omega arith) c.head_last;
      link_low = by_link (λ i x. x ≤ i) c.link_low (start_low v s);
      link_of = λ i j h. by_link (λ a x. x ≡ suc j → bucket j ≡ bucket a) (λ a g. c.link_of a j g) (λ z. (s.at j z).1 ∙ sym eb) i h;
      link_last = λ i j h. by_link (λ a x. j < a → bucket j ≡ bucket a → j < x) (λ a g. c.link_last a j g) (λ lt q. s.all j lt (q ∙ eb)) i h;
    }
