-- What a good tree has: complete records, each referred to at most once; so the lent sizes suffice, bodies meet their records once, and visits are counted.
-- Each is a law about records that keep the rules. Assumes nothing.
use mathlib.Core.Path.{◌≡◌}
use Prim.Native.Nat.{ℕ, ◌≤◌, ◌<◌}
use mathlib.Core.Bool.{Bool}
use mathlib.Core.List.{List}
use native.Mathlib.Omega.{arith}
use Rattle.laws.specs.All.{All}
use Rattle.records.specs.Words.{records}
use Rattle.records.specs.Good.{Good}
use Rattle.syntax.specs.Exprs.{expression_records}
use Rattle.syntax.specs.Decode.{program}
use Rattle.syntax.proofs.Held.{Complete, Once}
use Rattle.syntax.proofs.Judged.{judged_complete, judged-once}
use Rattle.conversion.specs.ConvertError.{ok}
use Rattle.conversion.specs.Ir.{IrProgram}
use Rattle.conversion.specs.Converter.{convert}
use Rattle.conversion.specs.Visits.{visits, body_visits, functions_visits}
use Rattle.conversion.specs.Written.{tables_of, counts_of}
use Rattle.conversion.proofs.Sizes.{IfOk, Suffice, tree_suffices}
use Rattle.conversion.proofs.Bytes.{Fit, judged-fits}
use Rattle.conversion.proofs.VisitLaws.{judged-visits, judged-at_most}
use Rattle.tables.proofs.Exists.{CountsFit}
use Rattle.tables.proofs.Judged.{judged-counts}
use Rattle.runs.proofs.Opens.{WellFormed}
use Rattle.demands.proofs.Opened.{once_well_formed}

module _ (tree text : List ℕ) (good : Good tree text) where
  pub good_complete : (r : ℕ) → r < records tree → Complete tree text r
  good_complete = judged_complete tree text good.ok

  pub good-once : (j : ℕ) → j < records tree → Once tree text (records tree) j
  good-once = judged-once tree text good.ok

  -- in entries
  pub good_suffices : (needsMain : Bool) → IfOk (Suffice (records tree)) (convert (program tree text) needsMain)
  good_suffices needsMain = tree_suffices tree text needsMain good_complete good-once

  -- in bytes
  pub good-fits : (needsMain : Bool) → IfOk (λ p. Fit (records tree) (tables_of p)) (convert (program tree text) needsMain)
  good-fits needsMain = judged-fits tree text needsMain good.ok

  -- each count fits a word
  pub good-counts : (needsMain : Bool) (p : IrProgram) → convert (program tree text) needsMain ≡ ok p → CountsFit (counts_of p)
  good-counts needsMain = judged-counts tree text needsMain (omega arith) good_complete good-once

  pub good_well_formed : WellFormed (program tree text)
  good_well_formed = once_well_formed tree text good-once

  -- the visits as they are made are the different records that are typed
  pub good-visits : functions_visits (records tree) (program tree text).functions ≡ visits (records tree) (program tree text).functions
  good-visits = judged-visits tree text good.ok

  -- and in each function at most its expression records
  pub good-at_most : All (λ f. body_visits (records tree) f.body ≤ expression_records (records tree) f) (program tree text).functions
  good-at_most = judged-at_most tree text good.ok
