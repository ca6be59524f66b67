-- How deep a record is, stopped at 65, from how deep the records below it are, stopped there too.
-- Each step down commutes with stopping; `fix-step` unfolds the depth. Assumes nothing.
use mathlib.Core.Path.{◌≡◌, refl, sym, ap, ◌∙◌}
use Prim.Native.Nat.{ℕ, ◌+◌, ◌≤◌, ◌<◌}
use mathlib.Core.Bool.{Bool, true, false, not}
use mathlib.Core.List.{List}
use native.Mathlib.Omega.{arith}
use lib.Dec.{eqb, leb, ltb}
use borrow.Author.Tests.{eq-eqb, ne_eqb, le-ltb, lt-ltb, ltb-true, ltb-false, le-leb}
use Rattle.laws.specs.Fix.{pick, below}
use Rattle.laws.proofs.FixLaws.{Agree, Local, fix-step, below_in, below_out, below_cong, pick_yes, pick_no}
use Rattle.laws.proofs.Tests.{tested}
use Rattle.records.specs.declared.shape.Role.{Role}
use Rattle.records.specs.declared.shape.Row.{Row}
use Rattle.records.specs.Words.{kind_of, word_of, A, B, C, D, E}
use Rattle.records.specs.Shapes.{row_at, refers}
use Rattle.records.specs.Depth.{larger, depth_below, deepest, depth_step, depth}
use Rattle.judge.specs.Inner.{capped, shallow_depth}
use Rattle.judge.proofs.CapLaws.{cap_low, cap_high, cap_small, cap_cap, cap_larger}

-- one word: the record that it refers to is i
module _ (g : ℕ → ℕ) (r : ℕ) (role : Role) (w : ℕ) where
  pub below_none : refers role ≡ false → 0 ≡ depth_below g r role w
  unfolding depth_below
  below_none e = sym (pick_no (refers role) (below g r w 0) 0 e)

  module _ (i : ℕ) (same : i ≡ w) (e : refers role ≡ true) where
    pub below-told : i < r → g i ≡ depth_below g r role w
    unfolding depth_below
    below-told h = sym (pick_yes (refers role) (below g r w 0) 0 e ∙ below_in g r w 0 (omega arith) ∙ ap g (sym same))

    pub below_later : r ≤ i → 0 ≡ depth_below g r role w
    unfolding depth_below
    below_later h = sym (pick_yes (refers role) (below g r w 0) 0 e ∙ below_out g r w 0 (omega arith))

-- what the five words say, and the largest of it
pub deepest-words : (tree : List ℕ) (g : ℕ → ℕ) (r : ℕ) (row : Row) (va vb vc vd ve a b c d e de ce be ae : ℕ)
    → row ≡ row_at tree r
    → va ≡ word_of tree r A → vb ≡ word_of tree r B → vc ≡ word_of tree r C → vd ≡ word_of tree r D → ve ≡ word_of tree r E
    → a ≡ depth_below g r row.a va → b ≡ depth_below g r row.b vb → c ≡ depth_below g r row.c vc → d ≡ depth_below g r row.d vd → e ≡ depth_below g r row.e ve
    → de ≡ larger d e → ce ≡ larger c de → be ≡ larger b ce → ae ≡ larger a be
    → ae ≡ deepest tree g r
unfolding deepest
deepest-words tree g r row va vb vc vd ve a b c d e de ce be ae w wa wb wc wd we pa pb pc pd pe m m₂ m₃ m₄ =
    rw (m₄, m₃, m₂, m, pa, pb, pc, pd, pe, wa, wb, wc, wd, we, w) refl

below-capped : (m : ℕ) (g : ℕ → ℕ) (r : ℕ) (role : Role) (w : ℕ) → depth_below (λ k. capped m (g k)) r role w ≡ capped m (depth_below g r role w)
unfolding depth_below below pick
below-capped m g r role w = go (refers role) (ltb w r)
  where
    go : (a b : Bool) → pick a (pick b (capped m (g w)) 0) 0 ≡ capped m (pick a (pick b (g w) 0) 0)
    go true true = refl
    go true false = sym (cap_low m 0 (omega arith))
    go false b = sym (cap_low m 0 (omega arith))

deepest-capped : (tree : List ℕ) (m : ℕ) (g : ℕ → ℕ) (r : ℕ) → deepest tree (λ k. capped m (g k)) r ≡ capped m (deepest tree g r)
unfolding deepest
deepest-capped tree m g r =
    rw (
      below-capped m g r (row_at tree r).a (word_of tree r A),
      below-capped m g r (row_at tree r).b (word_of tree r B),
      below-capped m g r (row_at tree r).c (word_of tree r C),
      below-capped m g r (row_at tree r).d (word_of tree r D),
      below-capped m g r (row_at tree r).e (word_of tree r E),
      cap_larger m _ _,
      cap_larger m _ _,
      cap_larger m _ _,
      cap_larger m _ _,
    ) refl

below-same : (g h : ℕ → ℕ) (r : ℕ) (role : Role) (w : ℕ) → Agree g h r → depth_below g r role w ≡ depth_below h r role w
unfolding depth_below
below-same g h r role w e = rw (below_cong g h r w 0 (e w)) refl

local : (tree : List ℕ) → Local (depth_step tree)
unfolding depth_step deepest
local tree g h r e =
    rw (
      below-same g h r (row_at tree r).a (word_of tree r A) e,
      below-same g h r (row_at tree r).b (word_of tree r B) e,
      below-same g h r (row_at tree r).c (word_of tree r C) e,
      below-same g h r (row_at tree r).d (word_of tree r D) e,
      below-same g h r (row_at tree r).e (word_of tree r E) e,
    ) refl

-- how deep record r is, from its kind and the deepest that it refers to
pub depth-told : (tree : List ℕ) (r x kind d : ℕ) → x ≡ deepest tree (shallow_depth tree) r → kind ≡ kind_of tree r
    → d ≡ pick (eqb kind 12) x (capped 65 (x + 1)) → d ≡ shallow_depth tree r
unfolding depth depth_step pick
depth-told tree r x kind d e k q =
    let under = deepest tree (depth tree) r in
    let x' : x ≡ capped 65 under = e ∙ deepest-capped tree 65 (depth tree) r in
    q
    ∙ ap (λ (v : ℕ). pick (eqb kind 12) v (capped 65 (v + 1))) x'
    ∙ ap (λ (v : ℕ). pick (eqb kind 12) (capped 65 under) v) (cap_cap 65 under 1)
    ∙ go (eqb kind 12) under
    ∙ ap (λ (v : ℕ). capped 65 (pick (eqb v 12) under (under + 1))) k
    ∙ ap (capped 65) (sym (fix-step 0 (depth_step tree) (local tree) r))
  where
    go : (b : Bool) (y : ℕ) → pick b (capped 65 y) (capped 65 (y + 1)) ≡ capped 65 (pick b y (y + 1))
    go true y = refl
    go false y = refl

pub depth_small : (tree : List ℕ) (r x : ℕ) → x ≡ deepest tree (shallow_depth tree) r → x ≤ 65
depth_small tree r x e = rw (e ∙ deepest-capped tree 65 (depth tree) r) (cap_small 65 _)

-- a stopped depth tells whether a record is too deep
pub deep-told : (x d : ℕ) → d ≡ capped 65 x → not (leb d 64) ≡ ltb 64 x
deep-told x d e =
    tested (ltb x 65)
    (λ t. let h : x < 65 = ltb-true x 65 t in rw (e ∙ cap_low 65 x (omega arith), le-leb x 64 (omega arith), le-ltb 64 x (omega arith)) refl)
    (λ t. let h : 65 ≤ x = ltb-false x 65 t in rw (e ∙ cap_high 65 x h, lt-ltb 64 x (omega arith)) refl)

-- ---- as the code meets it

module _ (k x : ℕ) where
  pub over-list : k ≡ 12 → x ≡ pick (eqb k 12) x (capped 65 (x + 1))
  unfolding pick
  over-list e = rw (eq-eqb k 12 e) refl

  pub over-most : (k ≡ 12 → ⊥) → 65 ≤ x → 65 ≡ pick (eqb k 12) x (capped 65 (x + 1))
  unfolding pick
  over-most e h = rw (ne_eqb k 12 e) (sym (cap_high 65 (x + 1) (omega arith)))

  pub over-more : (k ≡ 12 → ⊥) → x < 65 → x + 1 ≡ pick (eqb k 12) x (capped 65 (x + 1))
  unfolding pick
  over-more e h = rw (ne_eqb k 12 e) (sym (cap_low 65 (x + 1) (omega arith)))
