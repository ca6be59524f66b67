-- Laws of `splice`: how long it is, what a run of stores is, two in a row, and what a part of the list is afterwards: before it, behind it, grown by it; and how long a list filled up is.
-- By the laws of `take` and `drop` over the three pieces. Assumes nothing.
use mathlib.Core.Path.{◌≡◌, refl, sym, ap, ◌∙◌}
use mathlib.Core.List.{List, ◌++◌, append_assoc}
use Prim.Native.Nat.{ℕ, suc, ◌+◌, ◌-◌, ◌≤◌, ◌<◌}
use native.Mathlib.Nat.{add_assoc}
use native.Mathlib.Omega.{arith}
use lib.ListN.{length, take, drop, get_or, replicate, length-append, length-drop, length-replicate}
use lib.Seq.{length-take-le, take_at, drop_at, drop-drop, sets, sets-eq, take-append-le, drop-append-le, take-take, take-add, get_or-take, get_or-drop}
use Rattle.laws.specs.Splice.{splice, filled}

pub length-splice : (l : List ℕ) (i : ℕ) (vs : List ℕ) → i + length vs ≤ length l → length (splice l i vs) ≡ length l
unfolding splice
length-splice l i vs h =
    let h₁ : i ≤ length l = omega arith in
    simp (length-append, length-drop, length-take-le) (omega arith)

pub splice_sets : (l : List ℕ) (i : ℕ) (vs : List ℕ) → i + length vs ≤ length l → sets l i vs ≡ splice l i vs
unfolding splice
splice_sets l i vs h = sets-eq vs l i h

-- the first part with what is written, and what stands behind
pub take-splice : (l : List ℕ) (i : ℕ) (vs : List ℕ) → i + length vs ≤ length l → take (i + length vs) (splice l i vs) ≡ take i l ++ vs
unfolding splice
take-splice l i vs h =
    let h₁ : i ≤ length l = omega arith in
    take_at (take i l ++ vs) (drop (i + length vs) l) (i + length vs) (simp (length-append, length-take-le))

pub drop-splice : (l : List ℕ) (i : ℕ) (vs : List ℕ) → i + length vs ≤ length l → drop (i + length vs) (splice l i vs) ≡ drop (i + length vs) l
unfolding splice
drop-splice l i vs h =
    let h₁ : i ≤ length l = omega arith in
    drop_at (take i l ++ vs) (drop (i + length vs) l) (i + length vs) (simp (length-append, length-take-le))

-- one after the other, at the place where the first ends
pub splice-splice : (l : List ℕ) (i j : ℕ) (vs ws : List ℕ) → j ≡ i + length vs → i + length vs + length ws ≤ length l
    → splice (splice l i vs) j ws ≡ splice l i (vs ++ ws)
unfolding splice
splice-splice l i j vs ws e h =
    let h₁ : i + length vs ≤ length l = omega arith in
    let t : take (i + length vs) (splice l i vs) ≡ take i l ++ vs = take-splice l i vs h₁ in
    let d : drop (i + length vs) (splice l i vs) ≡ drop (i + length vs) l = drop-splice l i vs h₁ in
    let d₂ : drop (i + length vs + length ws) (splice l i vs) ≡ drop (i + length vs + length ws) l =
    sym (drop-drop (length ws) (i + length vs) (splice l i vs)) ∙ ap (drop (length ws)) d ∙ drop-drop (length ws) (i + length vs) l in
    rw e (rw (t, d₂, length-append, ← add_assoc) (simp append_assoc))

-- the code's at + 2 and at + 3
pub add_two : (n : ℕ) → n + 2 ≡ suc (suc n)
add_two n = omega arith

pub add_three : (n : ℕ) → n + 3 ≡ suc (suc (suc n))
add_three n = omega arith

-- ---- a part of the list: m elements from index b

-- a part's first elements, by the list's
part-take : (l : List ℕ) (b m : ℕ) → b ≤ length l → take m (drop b l) ≡ drop b (take (b + m) l)
part-take l b m h = sym (rw (take-add b m l) (drop_at (take b l) (take m (drop b l)) b (length-take-le b l h)))

-- it ends before what is written
start_splice : (l : List ℕ) (i : ℕ) (vs : List ℕ) (m : ℕ) → i ≤ length l → m ≤ i → take m (splice l i vs) ≡ take m l
unfolding splice
start_splice l i vs m h k =
    ap (take m) (append_assoc (take i l) vs (drop (i + length vs) l))
    ∙ take-append-le m (take i l) (vs ++ drop (i + length vs) l) (rw (length-take-le i l h) k) ∙ take-take m i l k

pub part-before : (l : List ℕ) (i : ℕ) (vs : List ℕ) (b m : ℕ) → i + length vs ≤ length l → b + m ≤ i
    → take m (drop b (splice l i vs)) ≡ take m (drop b l)
part-before l i vs b m h k =
    part-take (splice l i vs) b m (rw (length-splice l i vs h) (omega arith))
    ∙ ap (drop b) (start_splice l i vs (b + m) (omega arith) k)
    ∙ sym (part-take l b m (omega arith))

-- it starts behind what is written
rest-splice : (l : List ℕ) (i : ℕ) (vs : List ℕ) (d : ℕ) → i + length vs ≤ length l → drop (i + length vs + d) (splice l i vs) ≡ drop (i + length vs + d) l
rest-splice l i vs d h =
    sym (drop-drop d (i + length vs) (splice l i vs)) ∙ ap (drop d) (drop-splice l i vs h) ∙ drop-drop d (i + length vs) l

pub part-behind : (l : List ℕ) (i : ℕ) (vs : List ℕ) (b m : ℕ) → i + length vs ≤ length l → i + length vs ≤ b
    → take m (drop b (splice l i vs)) ≡ take m (drop b l)
part-behind l i vs b m h k =
    let there : b ≡ i + length vs + (b - (i + length vs)) = omega arith in
    ap (take m) (rw there (rest-splice l i vs (b - (i + length vs)) h))

-- what is written stands at its end
pub part-grown : (l : List ℕ) (i : ℕ) (vs : List ℕ) (b : ℕ) (bs : List ℕ) → i + length vs ≤ length l → i ≡ b + length bs
    → take (length bs) (drop b l) ≡ bs → take (length (bs ++ vs)) (drop b (splice l i vs)) ≡ bs ++ vs
unfolding splice
part-grown l i vs b bs h e is =
    let rest : List ℕ = drop (i + length vs) l in
    let first : drop b (take i l) ≡ bs = rw e (sym (part-take l b (length bs) (omega arith)) ∙ is) in
    let whole : drop b (splice l i vs) ≡ bs ++ vs ++ rest =
    ap (drop b) (append_assoc (take i l) vs rest)
    ∙ drop-append-le b (take i l) (vs ++ rest) (rw (length-take-le i l (omega arith)) (omega arith))
    ∙ ap (λ (x : List ℕ). x ++ (vs ++ rest)) first
    ∙ sym (append_assoc bs vs rest) in
    ap (take (length (bs ++ vs))) whole ∙ take_at (bs ++ vs) rest (length (bs ++ vs)) refl

-- an element of a part that is known
pub part_element : (l : List ℕ) (b : ℕ) (bs : List ℕ) (j : ℕ) → take (length bs) (drop b l) ≡ bs → j < length bs → get_or l (b + j) 0 ≡ get_or bs j 0
part_element l b bs j is h =
    sym (get_or-drop b l j 0) ∙ sym (get_or-take (length bs) (drop b l) j 0 h) ∙ ap (λ (x : List ℕ). get_or x j 0) is

pub filled-length : (l : List ℕ) (m : ℕ) → length l ≤ m → length (filled l m) ≡ m
unfolding filled
filled-length l m h = length-append l (replicate {A = ℕ} (m - length l) 0) ∙ rw (length-replicate {A = ℕ} (m - length l) 0) (omega arith)
