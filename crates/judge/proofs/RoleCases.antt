-- The last arm of a match on roles: its keys leave out the roles of the arms before it; and what an unused role is. By the cases of the role. Assumes nothing.
use mathlib.Core.Path.{◌≡◌, refl, sym, ◌∙◌}
use Prim.Native.Nat.{ℕ}
use mathlib.Core.Bool.{Bool, true, false, ◌&&◌, false≢true}
use mathlib.Core.List.{List}
use Rattle.laws.proofs.Tests.{and_left, and_right}
use Rattle.records.specs.declared.shape.Role.{Role}
use Rattle.records.specs.declared.shape.Role.TheVariants.{Unused, Number, Text, Length, Expr, TypeRef, TypeOrNone, Name, Variable, Arguments, Parameters, Body, Item, Rest}
use Rattle.records.specs.Shapes.{refers}
use Rattle.records.specs.Rules.{word_ok}
use Rattle.judge.specs.Inner.{is_unused}

-- a role that refers to nothing, and is neither Unused nor Text
pub plain_other : (tree : List ℕ) (bytes r : ℕ) (role : Role) (w next : ℕ) → (role ≡ Unused → ⊥) → (role ≡ Text → ⊥) → refers role ≡ false → true ≡ word_ok tree bytes r role w next
unfolding word_ok
plain_other tree bytes r Number w next g h e = refl
plain_other tree bytes r Length w next g h e = refl
plain_other tree bytes r Unused w next g h e = absurd (g refl)
plain_other tree bytes r Text w next g h e = absurd (h refl)
plain_other tree bytes r Expr w next g h e = absurd (false≢true (sym e))
plain_other tree bytes r TypeRef w next g h e = absurd (false≢true (sym e))
plain_other tree bytes r TypeOrNone w next g h e = absurd (false≢true (sym e))
plain_other tree bytes r Name w next g h e = absurd (false≢true (sym e))
plain_other tree bytes r Variable w next g h e = absurd (false≢true (sym e))
plain_other tree bytes r Arguments w next g h e = absurd (false≢true (sym e))
plain_other tree bytes r Parameters w next g h e = absurd (false≢true (sym e))
plain_other tree bytes r Body w next g h e = absurd (false≢true (sym e))
plain_other tree bytes r Item w next g h e = absurd (false≢true (sym e))
plain_other tree bytes r Rest w next g h e = absurd (false≢true (sym e))

pub unused_role : (role : Role) → is_unused role ≡ true → role ≡ Unused
unused_role Unused e = refl
unused_role Number e = absurd (false≢true e)
unused_role Text e = absurd (false≢true e)
unused_role Length e = absurd (false≢true e)
unused_role Expr e = absurd (false≢true e)
unused_role TypeRef e = absurd (false≢true e)
unused_role TypeOrNone e = absurd (false≢true e)
unused_role Name e = absurd (false≢true e)
unused_role Variable e = absurd (false≢true e)
unused_role Arguments e = absurd (false≢true e)
unused_role Parameters e = absurd (false≢true e)
unused_role Body e = absurd (false≢true e)
unused_role Item e = absurd (false≢true e)
unused_role Rest e = absurd (false≢true e)

-- three tests of a role, all passed
pub all_unused : (c d e : Role) (s t u : Bool) → s ≡ is_unused c → t ≡ is_unused d → u ≡ is_unused e → (s && t && u) ≡ true → (c ≡ Unused) × (d ≡ Unused) × (e ≡ Unused)
all_unused c d e s t u x y z h =
    let both = and_left (s && t) u h in
    (unused_role c (sym x ∙ and_left s t both), unused_role d (sym y ∙ and_right s t both), unused_role e (sym z ∙ and_right (s && t) u h))
