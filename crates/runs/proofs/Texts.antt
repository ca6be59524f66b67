-- Equality of texts, labels and floats by their tests is equality; a name that gets a value has it, the others keep theirs.
-- By induction on the text, and by cases on the tests.
use mathlib.Core.Path.{◌≡◌, refl, sym, ◌∙◌, ap}
use mathlib.Core.Logic.{◌≢◌}
use mathlib.Core.List.{[], ◌∷◌}
use mathlib.Core.Bool.{Bool, true, false, ◌&&◌, beq}
use Prim.Native.Nat.{ℕ, ◌+◌, ◌≤◌}
use native.Mathlib.Omega.{arith}
use lib.Dec.{eqb, eqb→eq}
use Rattle.laws.specs.Fix.{pick}
use Rattle.laws.proofs.Tests.{and_left, and_right}
use Rattle.syntax.specs.Syntax.{Text}
use Rattle.conversion.specs.Ir.{same_text, LabelName, same_label, FloatEntry, same_float}
use Rattle.runs.specs.TreeRun.{Values, set}
use Rattle.runs.proofs.Opens.{bit}
use Rattle.runs.proofs.Machine.{Same, is, isnt, same, eqb_same, true_T}

pub text_refl : (t : Text) → same_text t t ≡ true
unfolding same_text
text_refl [] = refl
text_refl (a ∷ t) = rw (eqb_same a) (text_refl t)

pub text-eq : (a b : Text) → same_text a b ≡ true → a ≡ b
unfolding same_text
text-eq [] [] e = refl
text-eq [] (b ∷ u) e = let w : ◌≡◌ {A = ℕ} 0 1 = cc in absurd (omega arith)
text-eq (a ∷ t) [] e = let w : ◌≡◌ {A = ℕ} 0 1 = cc in absurd (omega arith)
text-eq (a ∷ t) (b ∷ u) e =
    let p : a ≡ b = eqb→eq a b (true_T (and_left (eqb a b) (same_text t u) e)) in
    let q : t ≡ u = text-eq t u (and_right (eqb a b) (same_text t u) e) in
    ap (λ x. x ∷ t) p ∙ ap (λ x. b ∷ x) q

pub data SameName (a b : Text) : Type 0 where
  one : a ≡ b → same_text a b ≡ true → SameName a b
  two : a ≢ b → same_text a b ≡ false → SameName a b

pub same_name : (a b : Text) → SameName a b
same_name a b = go (same_text a b) refl
  where
    go : (t : Bool) → same_text a b ≡ t → SameName a b
    go true e = one (text-eq a b e) e
    go false e = two (λ p. let q : same_text a b ≡ true = rw p (text_refl b) in let w : ◌≡◌ {A = ℕ} 0 1 = cc in absurd (omega arith)) e

pub set_same : {W : Type 0} (σ : Values W) (n : Text) (v : W) → set σ n v n ≡ v
unfolding set pick
set_same σ n v = rw (text_refl n) refl

pub set_other : {W : Type 0} (σ : Values W) (n m : Text) (v : W) → m ≢ n → set σ n v m ≡ σ m
unfolding set pick
set_other σ n m v d = go (same_name m n)
  where
    go : SameName m n → pick (same_text m n) v (σ m) ≡ σ m
    go (one p q) = absurd (d p)
    go (two p q) = rw q refl

pub label_eq : (a b : LabelName) → same_label a b ≡ true → a ≡ b
unfolding same_label
label_eq a b e =
    let p : a.kind ≡ b.kind = eqb→eq a.kind b.kind (true_T (and_left (eqb a.kind b.kind) _ e)) in
    let q : a.opener ≡ b.opener = eqb→eq a.opener b.opener (true_T (and_right (eqb a.kind b.kind) _ e)) in
    ap (λ x. record { kind = x; opener = a.opener }) p ∙ ap (λ x. record { kind = b.kind; opener = x }) q

pub label_refl : (a : LabelName) → same_label a a ≡ true
unfolding same_label
label_refl a = rw (eqb_same a.kind, eqb_same a.opener) refl

beq_eq : (a b : Bool) → beq a b ≡ true → a ≡ b
beq_eq true true e = refl
beq_eq false false e = refl
beq_eq true false e = let w : ◌≡◌ {A = ℕ} 0 1 = cc in absurd (omega arith)
beq_eq false true e = let w : ◌≡◌ {A = ℕ} 0 1 = cc in absurd (omega arith)

beq_refl : (a : Bool) → beq a a ≡ true
beq_refl true = refl
beq_refl false = refl

pub float_eq : (a b : FloatEntry) → same_float a b ≡ true → a ≡ b
unfolding same_float
float_eq a b e =
    let p : a.bits ≡ b.bits = eqb→eq a.bits b.bits (true_T (and_left (eqb a.bits b.bits) _ e)) in
    let q : a.short ≡ b.short = beq_eq a.short b.short (and_right (eqb a.bits b.bits) _ e) in
    ap (λ x. record { bits = x; short = a.short }) p ∙ ap (λ x. record { bits = b.bits; short = x }) q

pub float_refl : (a : FloatEntry) → same_float a a ≡ true
unfolding same_float
float_refl a = rw (eqb_same a.bits, beq_refl a.short) refl

-- of labels of distinct kinds and one opener at most one is the label x
pub kinds-once : (i j k : ℕ) (x : LabelName) (r : ℕ) → i ≢ j → i ≢ k → j ≢ k
    → bit (same_label x (record { kind = i; opener = r })) + (bit (same_label x (record { kind = j; opener = r })) + bit (same_label x (record { kind = k; opener = r })))
    ≤ bit (eqb x.opener r)
unfolding same_label
kinds-once i j k x r a b c = go (same x.kind i) (same x.kind j) (same x.kind k) (same x.opener r)
  where
    go : Same x.kind i → Same x.kind j → Same x.kind k → Same x.opener r
        → bit (eqb x.kind i && eqb x.opener r) + (bit (eqb x.kind j && eqb x.opener r) + bit (eqb x.kind k && eqb x.opener r)) ≤ bit (eqb x.opener r)
    go (is p e) (is q f) z y = absurd (a (sym p ∙ q))
    go (is p e) (isnt q f) (is u g) y = absurd (b (sym p ∙ u))
    go (isnt p e) (is q f) (is u g) y = absurd (c (sym q ∙ u))
    go (is p e) (isnt q f) (isnt u g) y = rw (e, f, g) (omega arith)
    go (isnt p e) (is q f) (isnt u g) y = rw (e, f, g) (omega arith)
    go (isnt p e) (isnt q f) (is u g) y = rw (e, f, g) (omega arith)
    go (isnt p e) (isnt q f) (isnt u g) y = rw (e, f, g) (omega arith)
