-- What a tree of records converts to is read back from its tables: each function's body, and every variable, label, string and float that it
-- names exists. By the round trip, from a tree whose syntax fits. That the counts fit a word follows where the sizes suffice. Assumes nothing.
use mathlib.Core.Path.{◌≡◌, refl}
use Prim.Native.Nat.{ℕ, ◌*◌, ◌<◌, ◌≤◌}
use mathlib.Core.Bool.{Bool}
use mathlib.Core.List.{List}
use native.Mathlib.Omega.{arith}
use lib.ListN.{length}
use Rattle.laws.specs.All.{All}
use Rattle.records.specs.Words.{records}
use Rattle.syntax.specs.Decode.{program}
use Rattle.conversion.specs.ConvertError.{Result, ok, err}
use Rattle.conversion.specs.Ir.{IrProgram}
use Rattle.conversion.specs.Converter.{convert}
use Rattle.conversion.specs.Written.{Tables, Counts, Converted, conversion_of, conversion, all_code, all_vars, all_labels, tables_of, counts_of}
use Rattle.tables.specs.Read.{body_at, Begin}
use Rattle.tables.specs.Bytes.{Byte}
use Rattle.tables.proofs.Exists.{Word, CountsFit, ProgramFits, body_of}
use Rattle.tables.proofs.SyntaxFits.{OkIs, ok_is}
use Rattle.tables.proofs.RoundTrip.{read_back}
use Rattle.tables.proofs.Converted.{convert-fits}
use Rattle.tables.proofs.Decoded.{program-fits}

ok-holds : {A : Type 0} {Q : A → Type 0} {a : A} → OkIs Q (ok a) → Q a
ok-holds (ok_is h) = h

-- the tables of n records, each table of at most so many entries for a record
pub counts-fit : (n : ℕ) (p : IrProgram) → n < 1073741824 → length p.funcs ≤ n → length (all_code p.funcs) ≤ 4 * n
    → length (all_vars p.funcs) ≤ 3 * n → length (all_labels p.funcs) ≤ 3 * n → length p.strings ≤ n → length p.floats ≤ 2 * n
    → CountsFit (counts_of p)
unfolding counts_of
counts-fit n p h f i v l s r = record {
  functions = omega arith;
  instructions = omega arith;
  variables = omega arith;
  labels = omega arith;
  strings = omega arith;
  floats = omega arith;
}

module _ (tree text : List ℕ) (needsMain : Bool) (bytes : All Byte tree) (few : Word (records tree)) where
  module _ (p : IrProgram) (converts : convert (program tree text) needsMain ≡ ok p) (counts : CountsFit (counts_of p)) where
    -- every name in the program exists, and its numbers fit their fields
    pub converted-fits : ProgramFits text p
    converted-fits = ok-holds (rw converts at (convert-fits text (program tree text) needsMain (program-fits tree text bytes few))) counts

    -- buffers that begin with its tables say its bodies
    pub converted-reads_back : (t : Tables) → Begin (tables_of p) t → (n : ℕ) → body_at (counts_of p) t text n ≡ body_of p n
    converted-reads_back t held n = read_back text p t converted-fits held n

  -- ---- the same, from the answer

  -- the program behind an answer, all of whose names exist, and whose bodies the buffers t say
  pub record Answered (c : Counts) (t : Tables) : Type 0 where
    pub of : IrProgram
    pub converts : convert (program tree text) needsMain ≡ ok of
    pub counted : c ≡ counts_of of
    pub fits : ProgramFits text of
    pub bodies : (n : ℕ) → body_at c t text n ≡ body_of of n

  answered : (p : IrProgram) → convert (program tree text) needsMain ≡ ok p → (c : Counts) (w t : Tables) → c ≡ counts_of p → w ≡ tables_of p
      → CountsFit c → Begin w t → Answered c t
  answered p e c w t k l h b =
      let fit : CountsFit (counts_of p) = rw k at h in
      let held : Begin (tables_of p) t = rw l at b in
      record {
        of = p;
        converts = e;
        counted = k;
        fits = converted-fits p e fit;
        bodies = λ n. rw k (converted-reads_back p e fit t held n);
      }

  -- buffers that begin with the tables of an answer
  pub answer-reads_back : (c : Counts) (w t : Tables) → conversion tree text needsMain ≡ Converted c w → CountsFit c → Begin w t → Answered c t
  unfolding conversion conversion_of
  answer-reads_back c w t e h b = by (convert (program tree text) needsMain) refl e
    where
      by : (x : Result IrProgram) → convert (program tree text) needsMain ≡ x → conversion_of tree x ≡ Converted c w → Answered c t
      by (ok p) f g = answered p f c w t (cc) (cc) h b
      by (err k r) f g = let z : ◌≡◌ {A = ℕ} 0 1 = cc in absurd (omega arith)
