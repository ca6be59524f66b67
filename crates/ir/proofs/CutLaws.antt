-- Cutting out: what the loop that copies has done after i turns, what is there once the rest is zero, and that the buffers then hold the tables.
-- By the laws of a copy and of parts, and by what the arena holds. Assumes nothing.
use mathlib.Core.Path.{◌≡◌, sym, ap, ap₂, ◌∙◌}
use mathlib.Core.List.{List, [], ◌++◌, append-nil}
use Prim.Native.Nat.{ℕ, suc, ◌+◌, ◌-◌, ◌*◌, ◌≤◌, ◌<◌}
use native.Mathlib.Omega.{arith}
use borrow.Rule.Slice.PartMut.{put_mid}
use lib.ListN.{length, take, drop, get_or, set, replicate, length-drop}
use lib.Seq.{paste, paste-suc, get_or-drop, length-take-le, drop-drop, drop-length}
use Rattle.laws.specs.Splice.{part, filled}
use Rattle.conversion.specs.Ir.{IrProgram}
use Rattle.conversion.specs.Written.{encode_all, encode_instr, encode_var, encode_label, encode_functions, all_code, all_vars, all_labels, tables_of}
use Rattle.conversion.proofs.Bytes.{functions-length}
use Rattle.ir.specs.declared.structs.Counters.{Counters}
use Rattle.ir.specs.Arena.{Table, NumberedTexts, TablesSoFar, Holds}
use Rattle.ir.specs.Cut.{Cut}
use Rattle.ir.proofs.Entries.{bytes-length}

-- ---- copying

pub copy_more : (d l : List ℕ) (from i : ℕ) → i < length d → from + i < length l
    → set (part l from i ++ drop i d) i (get_or l (from + i) 0) ≡ part l from (i + 1) ++ drop (i + 1) d
copy_more d l from i hd hl =
    let s : List ℕ = drop from l in
    let z : 0 + i ≡ i = omega arith in
    let y : 0 + suc i ≡ i + 1 = omega arith in
    let x : suc i ≡ i + 1 = omega arith in
    let p : set (paste d 0 s i) (0 + i) (get_or s i 0) ≡ paste d 0 s (suc i) = paste-suc d 0 s i 0 (omega arith) (rw length-drop (omega arith)) in
    ap (λ (v : ℕ). set (take i s ++ drop i d) i v) (sym (get_or-drop from l i 0))
    ∙ ap (λ (m : ℕ). set (take i s ++ drop m d) m (get_or s i 0)) (sym z)
    ∙ p
    ∙ ap₂ (λ (m j : ℕ). take m s ++ drop j d) x y

-- ---- clearing

-- what the slice has once zeros stand from byte `at` on
pub clear_is : (d ys : List ℕ) (at : ℕ) → at ≤ length d → ys ≡ replicate {A = ℕ} (length (take (length d - at) (drop at d))) 0
    → put_mid at (length d - at) d ys ≡ filled (part d 0 at) (length d)
unfolding filled
clear_is d ys at h e =
    let n : length (take at d) ≡ at = length-take-le at d h in
    let m : length (take (length d - at) (drop at d)) ≡ length d - at = length-take-le (length d - at) (drop at d) (rw length-drop (omega arith)) in
    let z : at + (length d - at) ≡ length d = omega arith in
    ap₂ (λ (x y : List ℕ). take at d ++ (x ++ y)) (e ∙ ap (λ (j : ℕ). replicate {A = ℕ} j 0) (m ∙ ap (λ (j : ℕ). length d - j) (sym n)))
    (drop-drop (length d - at) at d ∙ ap (λ (j : ℕ). drop j d) z ∙ drop-length d)
    ∙ ap (λ (r : List ℕ). take at d ++ r) (append-nil _)

-- ---- what the buffers then hold

-- a table's bytes are the part that is cut
table-part : {X : Type 0} {f : X → List ℕ} {w : ℕ} {xs : List X} {at n : ℕ} {l : List ℕ} → Table f w xs at n l → part l at (w * n) ≡ encode_all f xs
table-part {f} {w} {xs} {at} {n} {l} t = ap (part l at) (sym (bytes-length t)) ∙ t.bytes.is

-- no function is at hand: all are done
pub record Finished (t : TablesSoFar) : Type 0 where
  pub code : t.code ≡ []
  pub vars : t.state.vars ≡ []
  pub labels : t.state.labels ≡ []

no_more : {X : Type 0} (xs ys : List X) → ys ≡ [] → xs ++ ys ≡ xs
no_more xs ys e = ap (λ (r : List _). xs ++ r) e ∙ append-nil xs

-- the program that is written
abbrev pub written : TablesSoFar → IrProgram
written t = record { funcs = t.done; strings = t.state.strings; floats = t.state.floats }

module _ (texts : NumberedTexts) (t : TablesSoFar) (k : Counters) (l l' vs ys fs ss xs : List ℕ) (h : Holds texts t k l) (d : Finished t) (c : Cut k l l' vs ys fs ss xs) where
  pub instructions-are : l' ≡ filled (tables_of (written t)).instructions (length l)
  unfolding tables_of
  instructions-are =
      let z : 0 ≡ 0 * k.records = omega arith in
      c.instructions_cut ∙ ap (λ (b : List ℕ). filled b (length l))
      (ap (λ (at : ℕ). part l at (32 * k.instructions)) z ∙ table-part h.instructions_hold ∙ ap (encode_all encode_instr) (no_more (all_code t.done) t.code d.code))

  pub variables-are : vs ≡ filled (tables_of (written t)).variables (length vs)
  unfolding tables_of
  variables-are = c.of_functions.variables_cut ∙ ap (λ (b : List ℕ). filled b (length vs))
      (table-part h.variables_hold ∙ ap (encode_all encode_var) (no_more (all_vars t.done) t.state.vars d.vars))

  pub labels-are : ys ≡ filled (tables_of (written t)).labels (length ys)
  unfolding tables_of
  labels-are = c.of_functions.labels_cut ∙ ap (λ (b : List ℕ). filled b (length ys))
      (table-part h.labels_hold ∙ ap (encode_all encode_label) (no_more (all_labels t.done) t.state.labels d.labels))

  pub functions-are : fs ≡ filled (tables_of (written t)).functions (length fs)
  unfolding tables_of
  functions-are =
      let n : 32 * k.functions ≡ length (encode_functions 0 0 0 t.done) = omega (arith, functions-length 0 0 0 t.done, h.before.functions_count) in
      c.of_functions.functions_cut ∙ ap (λ (b : List ℕ). filled b (length fs)) (ap (part l (164 * k.records)) n ∙ h.functions_hold.is)

  pub strings-are : ss ≡ filled (tables_of (written t)).strings (length ss)
  unfolding tables_of
  strings-are = c.of_pool.strings_cut ∙ ap (λ (b : List ℕ). filled b (length ss)) (table-part h.strings_hold)

  pub floats-are : xs ≡ filled (tables_of (written t)).floats (length xs)
  unfolding tables_of
  floats-are = c.of_pool.floats_cut ∙ ap (λ (b : List ℕ). filled b (length xs)) (table-part h.floats_hold)
