-- The rows of document 01's table as the code meets them: which row answers, and what scratch and outputs hold afterwards.
-- Each picks its arm by the tests that were passed or left. Assumes nothing.
use mathlib.Core.Path.{◌≡◌, refl, sym, ap, ◌∙◌}
use Prim.Native.Nat.{ℕ, zero, suc, ◌*◌, ◌/◌, ◌%◌, ◌≤◌, ◌<◌}
use mathlib.Core.Bool.{Bool, true, false, not, ◌&&◌, false≢true}
use mathlib.Core.List.{List}
use mathlib.Core.Option.{Option, none as nothing, some}
use native.Mathlib.Omega.{arith}
use Rattle.laws.proofs.Tests.{tested, and_left, and_right}
use lib.Dec.{eqb, leb, ltb}
use lib.ListN.{length, replicate, length-replicate}
use borrow.Author.Tests.{ne_eqb, eqb-true, leb-true, leb-false, le-leb, lt-leb}
use Rattle.laws.specs.Fix.{pick}
use Rattle.laws.specs.Below.{or_else, lowest}
use Rattle.records.specs.Words.{records, most_records, none}
use Rattle.records.specs.Rules.{record_ok}
use Rattle.records.specs.Depth.{depth}
use Rattle.records.specs.declared.convert_error.ConvertErrorKind.TheVariants.{BadTree, TooDeep, ShortBuffer}
use Rattle.judge.specs.declared.Lengths.{Lengths}
use Rattle.std.specs.Prelude.{Err}
use Rattle.judge.specs.Inner.{Lowest}
use Rattle.judge.specs.Keeps.{writes_nothing, JudgeKeeps, placed, unplaced}
use Rattle.judge.specs.Judge.{lengths_ok, buffers_ok, Buffers, buffers, lengths_of, lowest_fault, lowest_deep, at_lengths, at_buffers, at_records, at_nesting, at_conversion, Verdict, RefusedBy, Passed, refused_by, at_lowest, records_verdict, verdict, Judged, judged_by, judged, judged_in, verdict_in, refusal_leaves, output_after, scratch_after, verdict_leaves, judge_leaves, cleared}
use Rattle.laws.proofs.BelowLaws.{lowest-none, lowest_some}

pub records-told : (tree : List ℕ) (n : ℕ) → n * 32 ≡ length tree → records tree ≡ n
records-told tree n e = omega arith

pub lowest-found : (n : ℕ) (f : ℕ → Bool) (r : ℕ) → Lowest n f r → r < n → lowest n f ≡ some r
lowest-found n f r l h = lowest_some n f r h l.before (l.found h)

pub lowest-absent : (n : ℕ) (f : ℕ → Bool) (r : ℕ) → Lowest n f r → n ≤ r → lowest n f ≡ nothing
lowest-absent n f r l h = lowest-none n f (λ k hk. l.before k (omega arith))

module _ (tree text : List ℕ) (n : ℕ) (whole : n * 32 ≡ length tree) where
  faults : lowest_fault tree text ≡ lowest n (λ r. not (record_ok tree text r))
  unfolding lowest_fault
  faults = ap (λ (m : ℕ). lowest m (λ r. not (record_ok tree text r))) (records-told tree n whole)

  deeps : lowest_deep tree ≡ lowest n (λ r. ltb 64 (depth tree r))
  unfolding lowest_deep
  deeps = ap (λ (m : ℕ). lowest m (λ r. ltb 64 (depth tree r))) (records-told tree n whole)

  module _ (fault : ℕ) (lf : Lowest n (λ k. not (record_ok tree text k)) fault) where
    pub row-fault : fault < n → records_verdict tree text ≡ refused_by at_records BadTree fault
    unfolding records_verdict at_lowest
    row-fault h = rw (faults ∙ lowest-found n (λ k. not (record_ok tree text k)) fault lf h) refl

    module _ (left : n ≤ fault) (deep : ℕ) (ld : Lowest n (λ k. ltb 64 (depth tree k)) deep) where
      pub row-deep : deep < n → records_verdict tree text ≡ refused_by at_nesting TooDeep deep
      unfolding records_verdict at_lowest
      row-deep h =
          rw (
            faults ∙ lowest-absent n (λ k. not (record_ok tree text k)) fault lf left,
            deeps ∙ lowest-found n (λ k. ltb 64 (depth tree k)) deep ld h,
          ) refl

      pub row-none : n ≤ deep → records_verdict tree text ≡ Passed
      unfolding records_verdict at_lowest
      row-none h =
          rw (
            faults ∙ lowest-absent n (λ k. not (record_ok tree text k)) fault lf left,
            deeps ∙ lowest-absent n (λ k. ltb 64 (depth tree k)) deep ld h,
          ) refl

-- a tree of a right length
pub lengths-fit : (bytes : ℕ) → lengths_ok bytes ≡ true → (bytes / 32 * 32 ≡ bytes) × (bytes / 32 ≤ most_records)
unfolding lengths_ok
lengths-fit bytes e =
    let few = leb 384 bytes in
    let whole : bytes % 32 ≡ 0 =
    eqb-true (bytes % 32) 0 (and_left (eqb (bytes % 32) 0) few (and_left (eqb (bytes % 32) 0 && few) (leb bytes (most_records * 32)) e))
    in
    let most : bytes ≤ most_records * 32 = leb-true bytes (most_records * 32) (and_right (eqb (bytes % 32) 0 && few) (leb bytes (most_records * 32)) e) in
    (omega arith, omega arith)

-- a product compared by a quotient: either test says what the other says
pub divided : (a b c d : ℕ) → (a ≤ b → c ≤ d) → (b < a → d < c) → leb a b ≡ leb c d
divided a b c d y n =
    tested (leb a b) (λ e. e ∙ sym (le-leb c d (y (leb-true a b e)))) (λ e. e ∙ sym (lt-leb c d (n (leb-false a b e))))

-- the seven tests as the code makes them
pub buffers_divided : (n : ℕ) (l : Lengths) (scratch : ℕ) → (leb n (l.instructions / 320) && leb n (l.variables / 12) && leb n (l.labels / 24) && leb n (l.functions / 32) && leb n (l.strings / 8) && leb n (l.floats / 32) && leb n (scratch / 72)) ≡ buffers_ok n l scratch
unfolding buffers_ok
buffers_divided n l scratch =
    let at320 = divided n (l.instructions / 320) (320 * n) l.instructions (λ h. omega arith) (λ h. omega arith) in
    let at12 = divided n (l.variables / 12) (12 * n) l.variables (λ h. omega arith) (λ h. omega arith) in
    let at24 = divided n (l.labels / 24) (24 * n) l.labels (λ h. omega arith) (λ h. omega arith) in
    let at32 = divided n (l.functions / 32) (32 * n) l.functions (λ h. omega arith) (λ h. omega arith) in
    let at8 = divided n (l.strings / 8) (8 * n) l.strings (λ h. omega arith) (λ h. omega arith) in
    let at32f = divided n (l.floats / 32) (32 * n) l.floats (λ h. omega arith) (λ h. omega arith) in
    let at72 = divided n (scratch / 72) (72 * n) scratch (λ h. omega arith) (λ h. omega arith) in
    rw (at320, at12, at24, at32, at8, at32f, at72) refl

-- buffers that are long enough, one by one
pub record Enough (n : ℕ) (l : Lengths) (bytes : ℕ) : Type 0 where
  pub instructions : 320 * n ≤ l.instructions
  pub variables : 12 * n ≤ l.variables
  pub labels : 24 * n ≤ l.labels
  pub functions : 32 * n ≤ l.functions
  pub strings : 8 * n ≤ l.strings
  pub floats : 32 * n ≤ l.floats
  pub scratch : 72 * n ≤ bytes

pub enough : (n : ℕ) (l : Lengths) (scratch : ℕ) → buffers_ok n l scratch ≡ true → Enough n l scratch
unfolding buffers_ok
enough n l scratch e =
    let one = leb (320 * n) l.instructions in
    let two = one && leb (12 * n) l.variables in
    let three = two && leb (24 * n) l.labels in
    let four = three && leb (32 * n) l.functions in
    let five = four && leb (8 * n) l.strings in
    let six = five && leb (32 * n) l.floats in
    let e6 = and_left six (leb (72 * n) scratch) e in
    let e5 = and_left five (leb (32 * n) l.floats) e6 in
    let e4 = and_left four (leb (8 * n) l.strings) e5 in
    let e3 = and_left three (leb (32 * n) l.functions) e4 in
    let e2 = and_left two (leb (24 * n) l.labels) e3 in
    record {
      instructions = leb-true _ _ (and_left one (leb (12 * n) l.variables) e2);
      variables = leb-true _ _ (and_right one (leb (12 * n) l.variables) e2);
      labels = leb-true _ _ (and_right two (leb (24 * n) l.labels) e3);
      functions = leb-true _ _ (and_right three (leb (32 * n) l.functions) e4);
      strings = leb-true _ _ (and_right four (leb (8 * n) l.strings) e5);
      floats = leb-true _ _ (and_right five (leb (32 * n) l.floats) e6);
      scratch = leb-true _ _ (and_right six (leb (72 * n) scratch) e);
    }

pub cleared-length : (d e : List ℕ) → e ≡ cleared d → length e ≡ length d
cleared-length d e q = ap length q ∙ length-replicate (length d) 0

-- rows 'records' and 'nesting', and a tree that passes both, may write
records-write : (tree text : List ℕ) → writes_nothing (records_verdict tree text) ≡ false
unfolding records_verdict at_lowest refused_by writes_nothing
records-write tree text = go (lowest_fault tree text) (lowest_deep tree)
  where
    go : (f d : Option ℕ) → writes_nothing (at_lowest at_records BadTree f (at_lowest at_nesting TooDeep d Passed)) ≡ false
    go (some r) d = refl
    go nothing (some r) = refl
    go nothing nothing = refl

-- the whole answer, as the code meets it: ok and room are the code's tests
module _ (tree text : List ℕ) (l : Lengths) (scratch : List ℕ) (ok : Bool) (ok_is : ok ≡ lengths_ok (length tree)) where
  abbrev Judges : Judged → List ℕ → Type 0
  Judges answer after = (answer ≡ judged tree text l (length scratch)) × JudgeKeeps (verdict tree text l (length scratch)) scratch after

  judges : (answer : Judged) (after : List ℕ) (v : Verdict) → verdict tree text l (length scratch) ≡ v → answer ≡ judged_by v → JudgeKeeps v scratch after → Judges answer after
  unfolding judged
  judges answer after v e a s = (rw e a, rw e s)

  as_found : (v : Verdict) → JudgeKeeps v scratch scratch
  as_found v = record { same = refl; kept = λ _. refl }

  pub judged-length : (answer : Judged) → ok ≡ false → answer ≡ Err (record { kind = BadTree; place = none }) → Judges answer scratch
  unfolding verdict pick refused_by judged_by
  judged-length answer e a = judges answer scratch (refused_by at_lengths BadTree none) (rw (sym ok_is ∙ e) refl) a (as_found _)

  module _ (yes : ok ≡ true) (room : Bool) (roomIs : room ≡ buffers_ok (records tree) l (length scratch)) where
    pub judged_buffer : (answer : Judged) → room ≡ false → answer ≡ Err (record { kind = ShortBuffer; place = none }) → Judges answer scratch
    unfolding verdict pick refused_by judged_by
    judged_buffer answer e a = judges answer scratch (refused_by at_buffers ShortBuffer none) (rw (sym ok_is ∙ yes, sym roomIs ∙ e) refl) a (as_found _)

    -- the rows used scratch
    pub judged-records : (answer : Judged) (used : List ℕ) → room ≡ true → answer ≡ judged_by (records_verdict tree text) → length used ≡ length scratch → Judges answer used
    unfolding verdict pick
    judged-records answer used e a s = judges answer used (records_verdict tree text) (rw (sym ok_is ∙ yes, sym roomIs ∙ e) refl) a
        (record { same = s; kept = λ w. absurd (false≢true (sym (records-write tree text) ∙ w)) })

-- ---- of the rows judged here one and two have no place, and the others have one

-- whether a verdict leaves the outputs zero
unfoldable pub clears : Verdict → Bool
clears (RefusedBy at_lengths e) = false
clears (RefusedBy at_buffers e) = false
clears (RefusedBy at_records e) = true
clears (RefusedBy at_nesting e) = true
clears (RefusedBy at_conversion e) = true
clears Passed = false

lowest-below : (n : ℕ) (f : ℕ → Bool) (r : ℕ) → lowest n f ≡ some r → r < n
unfolding lowest or_else pick
lowest-below zero f r e = let z : ◌≡◌ {A = ℕ} 0 1 = cc in absurd (omega arith)
lowest-below (suc n) f r e = go (lowest n f) (f n) (λ h. lowest-below n f r h) e
  where
    go : (o : Option ℕ) (b : Bool) → (o ≡ some r → r < n) → or_else o (pick b (some n) nothing) ≡ some r → r < suc n
    go (some q) b h k = omega (arith, h k)
    go nothing true h k = let z : n ≡ r = cc in omega arith
    go nothing false h k = let z : ◌≡◌ {A = ℕ} 0 1 = cc in absurd (omega arith)

place-told : (r : ℕ) → r < most_records → eqb r none ≡ false
place-told r h = ne_eqb r none (λ e. omega arith)

-- what an answer's place says of its verdict
pub record Placed (v : Verdict) : Type 0 where
  pub with : placed (judged_by v) ≡ clears v
  pub without : unplaced (judged_by v) ≡ writes_nothing v

records-placed : (tree text : List ℕ) → records tree ≤ most_records → Placed (records_verdict tree text)
unfolding records_verdict lowest_fault lowest_deep at_lowest refused_by judged_by clears placed unplaced writes_nothing
records-placed tree text few = go (lowest_fault tree text) (lowest_deep tree) refl refl
  where
    at : (r : ℕ) → r < records tree → eqb r none ≡ false
    at r h = place-told r (omega arith)

    go : (f d : Option ℕ) → lowest_fault tree text ≡ f → lowest_deep tree ≡ d → Placed (at_lowest at_records BadTree f (at_lowest at_nesting TooDeep d Passed))
    go (some r) d h k =
        let e = at r (lowest-below (records tree) (λ k. not (record_ok tree text k)) r h) in
        record { with = rw e refl; without = e }
    go nothing (some r) h k =
        let e = at r (lowest-below (records tree) (λ k. ltb 64 (depth tree k)) r k) in
        record { with = rw e refl; without = e }
    go nothing nothing h k = record { with = refl; without = refl }

pub verdict-placed : (tree text : List ℕ) (l : Lengths) (scratch : ℕ) → Placed (verdict tree text l scratch)
unfolding verdict pick refused_by judged_by clears placed unplaced writes_nothing
verdict-placed tree text l scratch = go (lengths_ok (length tree)) (buffers_ok (records tree) l scratch) refl
  where
    go : (a b : Bool) → lengths_ok (length tree) ≡ a
        → Placed (pick (not a) (refused_by at_lengths BadTree none) (pick (not b) (refused_by at_buffers ShortBuffer none) (records_verdict tree text)))
    go false b e = record { with = refl; without = refl }
    go true false e = record { with = refl; without = refl }
    go true true e = records-placed tree text (lengths-fit (length tree) e).1

-- the core: the rows' answer r and what they leave of scratch, and b, the code's test whether r has no place
scratch-kept : (v : Verdict) (l : List ℕ) → writes_nothing v ≡ true → scratch_after v l ≡ l
unfolding writes_nothing scratch_after refusal_leaves
scratch-kept (RefusedBy at_lengths e) l h = refl
scratch-kept (RefusedBy at_buffers e) l h = refl
scratch-kept (RefusedBy at_records e) l h = absurd (false≢true h)
scratch-kept (RefusedBy at_nesting e) l h = absurd (false≢true h)
scratch-kept (RefusedBy at_conversion e) l h = absurd (false≢true h)
scratch-kept Passed l h = absurd (false≢true h)

scratch-cleared : (v : Verdict) (l : List ℕ) → writes_nothing v ≡ false → scratch_after v l ≡ cleared l
unfolding writes_nothing scratch_after refusal_leaves
scratch-cleared (RefusedBy at_lengths e) l h = absurd (false≢true (sym h))
scratch-cleared (RefusedBy at_buffers e) l h = absurd (false≢true (sym h))
scratch-cleared (RefusedBy at_records e) l h = refl
scratch-cleared (RefusedBy at_nesting e) l h = refl
scratch-cleared (RefusedBy at_conversion e) l h = refl
scratch-cleared Passed l h = refl

module _ (tree text : List ℕ) (l : Lengths) (scratch used : List ℕ) (r : Judged)
    (rows : (r ≡ judged tree text l (length scratch)) × JudgeKeeps (verdict tree text l (length scratch)) scratch used) (b : Bool) (bIs : b ≡ unplaced r) where
  wrote : b ≡ writes_nothing (verdict tree text l (length scratch))
  unfolding judged
  wrote = bIs ∙ ap unplaced rows.0 ∙ (verdict-placed tree text l (length scratch)).without

  pub core_kept : b ≡ true → used ≡ scratch_after (verdict tree text l (length scratch)) scratch
  core_kept t = let h = sym wrote ∙ t in rows.1.kept h ∙ sym (scratch-kept _ scratch h)

  pub core_cleared : b ≡ false → (after : List ℕ) → after ≡ cleared used → after ≡ scratch_after (verdict tree text l (length scratch)) scratch
  core_cleared t after e = e ∙ ap (λ (k : ℕ). replicate k 0) rows.1.same ∙ sym (scratch-cleared _ scratch (sym wrote ∙ t))

output_cleared : (v : Verdict) (l : List ℕ) → clears v ≡ true → output_after v l ≡ cleared l
unfolding clears output_after refusal_leaves
output_cleared (RefusedBy at_lengths e) l h = absurd (false≢true h)
output_cleared (RefusedBy at_buffers e) l h = absurd (false≢true h)
output_cleared (RefusedBy at_records e) l h = refl
output_cleared (RefusedBy at_nesting e) l h = refl
output_cleared (RefusedBy at_conversion e) l h = refl
output_cleared Passed l h = absurd (false≢true h)

output_kept : (v : Verdict) (l : List ℕ) → clears v ≡ false → output_after v l ≡ l
unfolding clears output_after refusal_leaves
output_kept (RefusedBy at_lengths e) l h = refl
output_kept (RefusedBy at_buffers e) l h = refl
output_kept (RefusedBy at_records e) l h = absurd (false≢true (sym h))
output_kept (RefusedBy at_nesting e) l h = absurd (false≢true (sym h))
output_kept (RefusedBy at_conversion e) l h = absurd (false≢true (sym h))
output_kept Passed l h = refl

-- the core's answer and scratch, where the lengths are known to be others
module _ (tree text : List ℕ) (l m : Lengths) (n : ℕ) (e : l ≡ m) where
  pub long-judged : (r : Judged) → r ≡ judged tree text l n → r ≡ judged tree text m n
  long-judged r h = h ∙ ap (λ (x : Lengths). judged tree text x n) e

  pub long_after : (s s' : List ℕ) → s' ≡ scratch_after (verdict tree text l n) s → s' ≡ scratch_after (verdict tree text m n) s
  long_after s s' h = h ∙ ap (λ (x : Lengths). scratch_after (verdict tree text x n) s) e

-- the entry: the core's answer r and scratch, and b, the code's test whether r has a place
module _ (tree text : List ℕ) (b : Buffers) (r : Judged) (rIs : r ≡ judged tree text (lengths_of b) (length b.scratch)) (p : Bool) (pIs : p ≡ placed r) where
  pub answer_in_lem : r ≡ judged_in tree text b
  unfolding judged_in verdict_in judged
  answer_in_lem = rIs

  told : p ≡ clears (verdict tree text (lengths_of b) (length b.scratch))
  unfolding judged
  told = pIs ∙ ap placed rIs ∙ (verdict-placed tree text (lengths_of b) (length b.scratch)).with

  module _ (scratch' : List ℕ) (scratchIs : scratch' ≡ scratch_after (verdict tree text (lengths_of b) (length b.scratch)) b.scratch) where
    pub outputs-cleared : p ≡ true → (i v l f s x : List ℕ)
        → (i ≡ cleared b.instructions) × (v ≡ cleared b.variables) × (l ≡ cleared b.labels) × (f ≡ cleared b.functions) × (s ≡ cleared b.strings) × (x ≡ cleared b.floats)
        → buffers i v l f s x scratch' ≡ judge_leaves tree text b
    unfolding judge_leaves verdict_leaves verdict_in
    outputs-cleared t i v l f s x q =
        let w = verdict tree text (lengths_of b) (length b.scratch) in
        let h : clears w ≡ true = sym told ∙ t in
        rw (output_cleared w b.instructions h, output_cleared w b.variables h, output_cleared w b.labels h, output_cleared w b.functions h, output_cleared w b.strings h, output_cleared w b.floats h)
        (cc)

    pub outputs-kept : p ≡ false
        → buffers b.instructions b.variables b.labels b.functions b.strings b.floats scratch' ≡ judge_leaves tree text b
    unfolding judge_leaves verdict_leaves verdict_in
    outputs-kept t =
        let w = verdict tree text (lengths_of b) (length b.scratch) in
        let h : clears w ≡ false = sym told ∙ t in
        rw (output_kept w b.instructions h, output_kept w b.variables h, output_kept w b.labels h, output_kept w b.functions h, output_kept w b.strings h, output_kept w b.floats h)
        (cc)
