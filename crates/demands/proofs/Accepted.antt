-- A tree that the judge accepts is good. The rows of its answer are taken one by one: each other way out is a refusal.
-- With it demand 3 is said of every accepted tree. Assumes nothing.
use mathlib.Core.Path.{◌≡◌, refl, sym}
use Prim.Native.Nat.{ℕ, zero, suc, ◌*◌, ◌%◌, ◌≤◌, ◌<◌}
use mathlib.Core.Bool.{Bool, true, false, not, ◌&&◌, false≢true}
use mathlib.Core.List.{List}
use mathlib.Core.Option.{Option, none as nothing, some}
use native.Mathlib.Decide.{dec_lt}
use native.Mathlib.Nat.{div-add-mod'}
use native.Mathlib.Omega.{arith}
use lib.Dec.{eqb, leb}
use lib.ListN.{length, get_elem?}
use borrow.Author.Tests.{eqb-true, leb-true}
use Rattle.laws.specs.All.{All}
use Rattle.laws.specs.Fix.{pick}
use Rattle.laws.specs.Below.{or_else, lowest}
use Rattle.laws.proofs.Tests.{and_left, and_right}
use Rattle.records.specs.Words.{records, most_records, none}
use Rattle.records.specs.Rules.{record_ok}
use Rattle.records.specs.Good.{Good}
use Rattle.records.specs.declared.convert_error.ConvertErrorKind.TheVariants.{BadTree, TooDeep, ShortBuffer}
use Rattle.syntax.specs.Syntax.{Block, Function}
use Rattle.syntax.specs.Decode.{program}
use Rattle.conversion.specs.Written.{Counts, Tables, Converted, conversion}
use Rattle.tables.specs.Bytes.{Byte}
use Rattle.tables.specs.Read.{Begin}
use Rattle.judge.specs.declared.Lengths.{Lengths}
use Rattle.std.specs.Prelude.{Ok}
use Rattle.judge.specs.Judge.{lengths_ok, buffers_ok, lowest_fault, lowest_deep, at_lengths, at_buffers, at_records, at_nesting, Verdict, RefusedBy, Passed, refused_by, at_lowest, records_verdict, verdict, judged_by, judged}
use Rattle.demands.specs.Demand3.{RunsAlike}
use Rattle.demands.proofs.Demand3.{good-demand3}

-- ---- no number below n is the lowest of which f holds: f holds of none

nothing_first : (o p : Option ℕ) → or_else o p ≡ nothing → (o ≡ nothing) × (p ≡ nothing)
unfolding or_else
nothing_first nothing p e = (refl, e)
nothing_first (some r) p e = let z : ◌≡◌ {A = ℕ} 0 1 = cc in absurd (omega arith)

not_picked : (b : Bool) (n : ℕ) → pick b (some n) nothing ≡ nothing → b ≡ false
unfolding pick
not_picked true n e = let z : ◌≡◌ {A = ℕ} 0 1 = cc in absurd (omega arith)
not_picked false n e = refl

up_to : (n r : ℕ) (f : ℕ → Bool) → Dec (r < n) → r < suc n → (r < n → f r ≡ false) → f n ≡ false → f r ≡ false
up_to n r f (yes l) h a b = a l
up_to n r f (no l) h a b = let s : r ≡ n = omega (arith, h, l) in rw s b

lowest-none : (n : ℕ) (f : ℕ → Bool) → lowest n f ≡ nothing → (r : ℕ) → r < n → f r ≡ false
unfolding lowest
lowest-none zero f e r h = absurd (omega arith)
lowest-none (suc n) f e r h =
    let p = nothing_first (lowest n f) (pick (f n) (some n) nothing) e in
    up_to n r f (dec_lt r n) h (λ l. lowest-none n f p.0 r l) (not_picked (f n) n p.1)

not-false : (b : Bool) → not b ≡ false → b ≡ true
not-false true e = refl
not-false false e = absurd (false≢true (sym e))

-- ---- the rows

pub judged-passed : (v : Verdict) → judged_by v ≡ Ok tt → v ≡ Passed
unfolding judged_by
judged-passed (RefusedBy row e) h = let z : ◌≡◌ {A = ℕ} 0 1 = cc in absurd (omega arith)
judged-passed Passed h = refl

record Rows (lengths room : Bool) (fault : Option ℕ) : Type 0 where
  pub whole : lengths ≡ true
  pub lent : room ≡ true
  pub rules : fault ≡ nothing

rows : (a b : Bool) (o d : Option ℕ)
    → pick (not a) (refused_by at_lengths BadTree none) (pick (not b) (refused_by at_buffers ShortBuffer none) (at_lowest at_records BadTree o (at_lowest at_nesting TooDeep d Passed))) ≡ Passed
    → Rows a b o
unfolding pick at_lowest refused_by
rows false b o d e = let z : ◌≡◌ {A = ℕ} 0 1 = cc in absurd (omega arith)
rows true false o d e = let z : ◌≡◌ {A = ℕ} 0 1 = cc in absurd (omega arith)
rows true true (some r) d e = let z : ◌≡◌ {A = ℕ} 0 1 = cc in absurd (omega arith)
rows true true nothing d e = record { whole = refl; lent = refl; rules = refl }

module _ (tree text : List ℕ) (l : Lengths) (scratch : ℕ) (passed : verdict tree text l scratch ≡ Passed) where
  parts : Rows (lengths_ok (length tree)) (buffers_ok (records tree) l scratch) (lowest_fault tree text)
  unfolding verdict records_verdict
  parts = rows (lengths_ok (length tree)) (buffers_ok (records tree) l scratch) (lowest_fault tree text) (lowest_deep tree) passed

  multiple : (eqb (length tree % 32) 0 && leb (12 * 32) (length tree)) ≡ true
  unfolding lengths_ok
  multiple = and_left (eqb (length tree % 32) 0 && leb (12 * 32) (length tree)) (leb (length tree) (most_records * 32)) parts.whole

  at_most : length tree ≤ most_records * 32
  unfolding lengths_ok
  at_most = leb-true (length tree) (most_records * 32) (and_right (eqb (length tree % 32) 0 && leb (12 * 32) (length tree)) (leb (length tree) (most_records * 32)) parts.whole)

  at_least : 12 * 32 ≤ length tree
  at_least = leb-true (12 * 32) (length tree) (and_right (eqb (length tree % 32) 0) (leb (12 * 32) (length tree)) multiple)

  no-rest : length tree % 32 ≡ 0
  no-rest = eqb-true (length tree % 32) 0 (and_left (eqb (length tree % 32) 0) (leb (12 * 32) (length tree)) multiple)

  whole-records : length tree ≡ records tree * 32
  whole-records = omega (arith, no-rest, div-add-mod' (length tree) 32)

  -- THE LINK: what passes the rows is good, and the buffers are as long as document 01 says
  pub passed-good : Good tree text
  unfolding lowest_fault
  passed-good = record {
    whole = whole-records;
    few = omega (arith, at_most, whole-records);
    ok = λ r h. not-false (record_ok tree text r) (lowest-none (records tree) (λ r. not (record_ok tree text r)) parts.rules r h);
  }

  pub passed_some : 0 < records tree
  passed_some = omega (arith, at_least, whole-records)

  pub passed-lent : buffers_ok (records tree) l scratch ≡ true
  passed-lent = parts.lent

module _ (tree text : List ℕ) (l : Lengths) (scratch : ℕ) (accepted : judged tree text l scratch ≡ Ok tt) where
  accepted-passed : verdict tree text l scratch ≡ Passed
  unfolding judged
  accepted-passed = judged-passed (verdict tree text l scratch) accepted

  pub accepted-good : Good tree text
  accepted-good = passed-good tree text l scratch accepted-passed

  pub accepted-lent : buffers_ok (records tree) l scratch ≡ true
  accepted-lent = passed-lent tree text l scratch accepted-passed

  -- DEMAND 3 of every tree that the judge accepts
  pub accepted-demand3 : (W : Type 0) (needsMain : Bool) → All Byte tree → (c : Counts) (w t : Tables) → conversion tree text needsMain ≡ Converted c w → Begin w t
      → (i : ℕ) (f : Function) (b : Block) → get_elem? (program tree text).functions i ≡ some f → f.body ≡ some b → RunsAlike W tree text c t i f b
  accepted-demand3 W needsMain bytes = good-demand3 W tree text needsMain bytes accepted-good
