-- A list that begins with another: it is longer, and has the other's elements in their places.
-- By the list that stands behind the other. Assumes nothing.
use mathlib.Core.Path.{◌≡◌, refl, sym, ◌∙◌, ap, subst}
use mathlib.Core.List.{List, [], ◌∷◌, ◌++◌, append_assoc, append-nil}
use mathlib.Core.Option.{some}
use Prim.Native.Nat.{ℕ, zero, suc, ◌≤◌}
use native.Mathlib.Omega.{arith}
use lib.ListN.{length, length-append, get_elem?}

pub record Prefix {X : Type 0} (a b : List X) : Type 0 where
  pub more : List X
  pub whole : a ++ more ≡ b

pub prefix_refl : {X : Type 0} {a : List X} → Prefix a a
prefix_refl = record { more = []; whole = append-nil _ }

pub prefix_trans : {X : Type 0} {a b c : List X} → Prefix a b → Prefix b c → Prefix a c
prefix_trans {a = a} p q = record { more = p.more ++ q.more; whole = sym (append_assoc a p.more q.more) ∙ (ap (λ x. x ++ q.more) p.whole ∙ q.whole) }

pub prefix_append : {X : Type 0} (a b : List X) → Prefix a (a ++ b)
prefix_append a b = record { more = b; whole = refl }

pub prefix_length : {X : Type 0} {a b : List X} → Prefix a b → length a ≤ length b
prefix_length {a = a} p = omega (arith, length-append a p.more, ap length p.whole)

-- an element of the first
pub get-append : {X : Type 0} (a b : List X) (i : ℕ) (x : X) → get_elem? a i ≡ some x → get_elem? (a ++ b) i ≡ some x
get-append [] b i x e = let z : ◌≡◌ {A = ℕ} 0 1 = cc in absurd (omega arith)
get-append (y ∷ a) b zero x e = e
get-append (y ∷ a) b (suc i) x e = get-append a b i x e

pub prefix_get : {X : Type 0} {a b : List X} (i : ℕ) (x : X) → Prefix a b → get_elem? a i ≡ some x → get_elem? b i ≡ some x
prefix_get {a = a} i x p e = subst (λ l. get_elem? l i ≡ some x) p.whole (get-append a p.more i x e)
