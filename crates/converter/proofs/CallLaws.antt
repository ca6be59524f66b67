-- The end of the call: the tables cut out of the arena are those of the definition's program, or all is zero; and the whole call keeps its promise.
-- By what the arena holds, case by case of the conversion's answer; demands: WaysOut, every_call. Assumes nothing.
use mathlib.Core.Path.{◌≡◌, refl, sym, ap, ap₂, ◌∙◌, subst}
use Prim.Native.Nat.{ℕ, suc, ◌*◌, ◌≤◌, ◌<◌}
use mathlib.Core.Bool.{Bool, true, false, not, false≢true}
use mathlib.Core.List.{List, [], ◌∷◌, append-nil}
use native.Mathlib.Omega.{arith}
use lib.Dec.{eqb}
use lib.ListN.{length, get_or, replicate}
use Rattle.laws.specs.All.{All}
use Rattle.laws.specs.Splice.{filled}
use Rattle.records.specs.Words.{records, none}
use Rattle.records.specs.Good.{Good}
use Rattle.records.specs.Answer.{words_of}
use Rattle.records.specs.declared.convert_error.ConvertErrorKind.{ConvertErrorKind}
use Rattle.records.specs.declared.convert_error.ConvertError.{ConvertError}
use Rattle.syntax.specs.Decode.{program}
use Rattle.conversion.specs.ConvertError.{Result, ok, err}
use Rattle.conversion.specs.Ir.{IrProgram}
use Rattle.conversion.specs.Converter.{convert}
use Rattle.conversion.specs.Written as Written
use Rattle.conversion.specs.Written.{all_code, all_vars, all_labels, tables_of, counts_of}
use Rattle.tables.specs.Bytes.{Byte}
use Rattle.ir.specs.declared.structs.Counters.{Counters}
use Rattle.ir.specs.Arena.{NumberedTexts, Holds}
use Rattle.ir.specs.Cut as Cut
use Rattle.ir.proofs.CutLaws as CutLaws
use Rattle.ir.proofs.CutLaws.{instructions-are, variables-are, labels-are, functions-are, strings-are, floats-are}
use Rattle.judge.specs.Judge.{Buffers, buffers, lengths_of, verdict, Judged, judged, cleared, judged_in, judge_leaves}
use Rattle.judge.specs.Keeps.{JudgeKeeps, placed, unplaced}
use Rattle.judge.specs.declared.Lengths.{Lengths}
use Rattle.std.specs.Prelude.{Result as StdResult, Ok, Err}
use Rattle.judge.proofs.RowLaws.{cleared-length, core_kept, core_cleared, answer_in_lem, outputs-cleared, outputs-kept}
use Rattle.expressions.specs.Slots.{visits_at}
use Rattle.statements.specs.Lent.{Finished}
use Rattle.statements.specs.Meets.{texts_of}
use Rattle.functions.specs.Bodies.{begun}
use Rattle.demands.specs.Call.{visits_in, Counted, Refusal, buffers_after, Calls}
use Rattle.demands.specs.Demands.{all_zero, AsTheRust}
use Rattle.demands.proofs.GoodLaws.{good-visits}
use Rattle.demands.proofs.WaysOut.{refused_run, good_in, some_in, enough_in, failed_run, converted_run}
use Rattle.demands.proofs.Demands.{every_call}
use Rattle.converter.specs.declared.Counts.{Counts}
use Rattle.converter.specs.Convert.{pool_of, ConvertsTo, counts_in, outputs, CutAfforded, SameTableLengths, FinishesIn, SevenLong, counts_from, answer_from, Promised}

-- ---- one component after the other

six_counts : {f i v l s x f' i' v' l' s' x' : ℕ} → f ≡ f' → i ≡ i' → v ≡ v' → l ≡ l' → s ≡ s' → x ≡ x'
    → ◌≡◌ {A = Written.Counts} (record { functions = f; instructions = i; variables = v; labels = l; strings = s; floats = x })
    (record { functions = f'; instructions = i'; variables = v'; labels = l'; strings = s'; floats = x' })
six_counts a b c d e g = rw (a, b, c, d, e, g)

six_outputs : {i v l f s x i' v' l' f' s' x' : List ℕ} → i ≡ i' → v ≡ v' → l ≡ l' → f ≡ f' → s ≡ s' → x ≡ x' → outputs i v l f s x ≡ outputs i' v' l' f' s' x'
six_outputs a b c d e g = rw (a, b, c, d, e, g)

seven-buffers : {i v l f s x t i' v' l' f' s' x' t' : List ℕ} → i ≡ i' → v ≡ v' → l ≡ l' → f ≡ f' → s ≡ s' → x ≡ x' → t ≡ t'
    → buffers i v l f s x t ≡ buffers i' v' l' f' s' x' t'
seven-buffers a b c d e g h = rw (a, b, c, d, e, g, h)

cleared-same : (d e : List ℕ) → length d ≡ length e → cleared d ≡ cleared e
cleared-same d e q = ap (λ (n : ℕ). replicate n 0) q

-- ---- finish

module _ (done : Finished) (n : ℕ) (i v l f s x i' v' l' f' s' x' : List ℕ) where
  pub finish-refused : (e : ConvertError) → done ≡ Finished.Refused e
      → (i' ≡ cleared i) × (v' ≡ cleared v) × (l' ≡ cleared l) × (f' ≡ cleared f) × (s' ≡ cleared s) × (x' ≡ cleared x)
      → FinishesIn done n (Err e) (outputs i v l f s x) (outputs i' v' l' f' s' x')
  finish-refused e q (a, b, c, d, g, h) = record {
    long = record {
      instructions = cleared-length i i' a;
      variables = cleared-length v v' b;
      labels = cleared-length l l' c;
      functions = cleared-length f f' d;
      strings = cleared-length s s' g;
      floats = cleared-length x x' h;
    };
    converted = λ k z. absurd (let y : ◌≡◌ {A = ℕ} 0 1 = cc in omega arith);
    refused = λ r z. let y : e ≡ r = cc in (ap Err y, six_outputs a b c d g h);
  }

  pub finish-converted : (k : Counters) (c : Counts) → done ≡ Finished.Done k → c ≡ counts_in k n → SameTableLengths (outputs i v l f s x) (outputs i' v' l' f' s' x')
      → Cut.Cut k i i' v' l' f' s' x' → FinishesIn done n (Ok c) (outputs i v l f s x) (outputs i' v' l' f' s' x')
  finish-converted k c q e long cut = record {
    long = long;
    converted = λ m z. let y : k ≡ m = cc in
        subst (λ (o : Counters). (◌≡◌ {A = StdResult Counts ConvertError} (Ok c) (Ok (counts_in o n))) × Cut.Cut o i i' v' l' f' s' x') y (ap Ok e, cut);
    refused = λ r z. absurd (let y : ◌≡◌ {A = ℕ} 0 1 = cc in omega arith);
  }

-- ---- the counters count the program's entries

counts-are : (texts : NumberedTexts) (p : IrProgram) (k : Counters) (n : ℕ) (l : List ℕ) → Holds texts (begun p.funcs (pool_of p)) k l → counts_from (counts_in k n) ≡ counts_of p
unfolding counts_of
counts-are texts p k n l h = six_counts
    h.before.functions_count
    (h.instructions_hold.count ∙ ap length (append-nil (all_code p.funcs)))
    (h.variables_hold.count ∙ ap length (append-nil (all_vars p.funcs)))
    (h.labels_hold.count ∙ ap length (append-nil (all_labels p.funcs)))
    h.strings_hold.count
    h.floats_hold.count

-- ---- a good tree

-- the buffers before, with t scratch; the arena j and scratch u when the tree is converted
module _ (tree text : List ℕ) (needsMain : Bool) (i v l f s x t : List ℕ) (done : Finished) (j u : List ℕ)
    (m : ConvertsTo tree text (convert (program tree text) needsMain) i t done j u) where
  pub cut_afforded : SevenLong (records tree) (buffers i v l f s x t) → CutAfforded done (outputs j v l f s x)
  cut_afforded lent = record {
    room = λ k q. (m.gives k q).room;
    lent = λ k q. subst (λ (n : ℕ). Cut.FiveLong n v l f s x) (sym (m.gives k q).records_are) lent.tables;
  }

  pub scratch-room : SevenLong (records tree) (buffers i v l f s x t) → 72 * records tree ≤ length u
  scratch-room lent = omega (arith, lent.scratch, m.scratch_long)

  -- the visits that are read, and the buffers afterwards
  module _ (good : Good tree text) (n : ℕ) (read : n ≡ visits_at tree u)
      (a : StdResult Counts ConvertError) (i' v' l' f' s' x' t' : List ℕ) (e : FinishesIn done n a (outputs j v l f s x) (outputs i' v' l' f' s' x')) (z : t' ≡ cleared u) where
    scratch-zero : t' ≡ cleared t
    scratch-zero = z ∙ cleared-same u t m.scratch_long

    -- what the answer says and the buffers hold is the program p
    abbrev Stand : IrProgram → Type 0
    Stand p = (answer_from tree a ≡ Counted (counts_of p) (visits_in tree text))
        × (buffers i' v' l' f' s' x' t' ≡ buffers
        (filled (tables_of p).instructions (length i))
        (filled (tables_of p).variables (length v))
        (filled (tables_of p).labels (length l))
        (filled (tables_of p).functions (length f))
        (filled (tables_of p).strings (length s))
        (filled (tables_of p).floats (length x))
        (cleared t))

    bodies_stand : (k : Counters) → done ≡ Finished.Done k → (p : IrProgram) → convert (program tree text) needsMain ≡ ok p → Stand p
    unfolding answer_from filled
    bodies_stand k q p w =
        let st = m.gives k q in
        let c = e.converted k q in
        let y : st.result ≡ p = cc st.converts in
        let b = begun st.result.funcs (pool_of st.result) in
        let none : CutLaws.Finished b = record { code = refl; vars = refl; labels = refl } in
        subst Stand y (
          ap (answer_from tree) c.0 ∙ ap₂ Counted (counts-are (texts_of tree text) st.result k n j st.holds) (read ∙ m.visits k q ∙ good-visits tree text good),
          seven-buffers
              (instructions-are (texts_of tree text) b k j i' v' l' f' s' x' st.holds none c.1 ∙ ap (filled (tables_of st.result).instructions) m.long)
              (variables-are (texts_of tree text) b k j i' v' l' f' s' x' st.holds none c.1 ∙ ap (filled (tables_of st.result).variables) e.long.variables)
              (labels-are (texts_of tree text) b k j i' v' l' f' s' x' st.holds none c.1 ∙ ap (filled (tables_of st.result).labels) e.long.labels)
              (functions-are (texts_of tree text) b k j i' v' l' f' s' x' st.holds none c.1 ∙ ap (filled (tables_of st.result).functions) e.long.functions)
              (strings-are (texts_of tree text) b k j i' v' l' f' s' x' st.holds none c.1 ∙ ap (filled (tables_of st.result).strings) e.long.strings)
              (floats-are (texts_of tree text) b k j i' v' l' f' s' x' st.holds none c.1 ∙ ap (filled (tables_of st.result).floats) e.long.floats)
              scratch-zero,
        )

    all_zero_lem : (r : ConvertError) → done ≡ Finished.Refused r → (kind : ConvertErrorKind) (place : ℕ) → convert (program tree text) needsMain ≡ err kind place
        → (answer_from tree a ≡ Refusal (words_of tree (record { kind = kind; place = place }))) × (buffers i' v' l' f' s' x' t' ≡ all_zero (buffers i v l f s x t))
    unfolding answer_from
    all_zero_lem r q kind place w =
        let st = m.stops r q in
        let c = e.refused r q in
        let y : r.kind ≡ kind = cc in
        let n : r.place ≡ place = cc in (
          ap (answer_from tree) c.0 ∙ ap₂ (λ (b : ConvertErrorKind) (o : ℕ). Refusal (words_of tree (record { kind = b; place = o }))) y n,
          seven-buffers
              (ap (λ (b : Written.Tables). b.instructions) c.1 ∙ cleared-same j i m.long)
              (ap (λ (b : Written.Tables). b.variables) c.1)
              (ap (λ (b : Written.Tables). b.labels) c.1)
              (ap (λ (b : Written.Tables). b.functions) c.1)
              (ap (λ (b : Written.Tables). b.strings) c.1)
              (ap (λ (b : Written.Tables). b.floats) c.1)
              scratch-zero,
        )

    pub as_the_rust : AsTheRust tree text needsMain (buffers i v l f s x t) (answer_from tree a) (buffers i' v' l' f' s' x' t')
    as_the_rust = go done refl
      where
        go : (d : Finished) → done ≡ d → AsTheRust tree text needsMain (buffers i v l f s x t) (answer_from tree a) (buffers i' v' l' f' s' x' t')
        go (Finished.Done k) q = record {
          bodies = bodies_stand k q;
          error = λ kind place w. let st = (m.gives k q).converts in absurd (let y : ◌≡◌ {A = ℕ} 0 1 = cc in omega arith);
        }
        go (Finished.Refused r) q = record {
          bodies = λ p w. let st = m.stops r q in absurd (let y : ◌≡◌ {A = ℕ} 0 1 = cc in omega arith);
          error = all_zero_lem r q;
        }

-- ---- the whole call

-- a slice's elements are bytes
pub all-bytes : (l : List ℕ) → ((i : ℕ) → get_or l i 0 < 256) → All Byte l
all-bytes [] h = tt
all-bytes (b ∷ l) h = (h 0, all-bytes l (λ i. h (suc i)))

-- ---- judging

unplaced_where : (r : Judged) → placed r ≡ true → unplaced r ≡ false
unfolding placed unplaced
unplaced_where (Ok _) h = absurd (false≢true h)
unplaced_where (Err e) h = go (eqb e.place none) h
  where
    go : (t : Bool) → not t ≡ true → t ≡ false
    go true z = absurd (false≢true z)
    go false z = refl

refused-unplaced : (r : Judged) (e : ConvertError) → r ≡ Err e → placed r ≡ false → unplaced r ≡ true
unfolding placed unplaced
refused-unplaced (Ok _) e q h = absurd (let y : ◌≡◌ {A = ℕ} 0 1 = cc in omega arith)
refused-unplaced (Err x) e q h = go (eqb x.place none) h
  where
    go : (t : Bool) → not t ≡ false → t ≡ true
    go true z = refl
    go false z = absurd (false≢true (sym z))

accepted-unplaced : (r : Judged) → r ≡ Ok tt → placed r ≡ false
unfolding placed
accepted-unplaced r q = ap placed q

-- r is the judge's answer. A refusal leaves the buffers as the judge does; an accepted tree leaves the outputs as found, and of scratch only its length: its
-- bytes are the judge's own, and the end of the conversion clears them
pub record JudgedFirst (tree text : List ℕ) (b : Buffers) (r : Judged) (b₁ : Buffers) : Type 0 where
  pub is : r ≡ judged_in tree text b
  pub refused : (e : ConvertError) → r ≡ Err e → b₁ ≡ judge_leaves tree text b
  pub accepted : r ≡ Ok tt
      → (b₁ ≡ buffers b.instructions b.variables b.labels b.functions b.strings b.floats b₁.scratch) × (length b₁.scratch ≡ length b.scratch)

-- r is the rows' answer, given how long the outputs are, and u what they leave of scratch
abbrev Rows : List ℕ → List ℕ → Lengths → List ℕ → Judged → List ℕ → Type 0
Rows tree text l s r u = (r ≡ judged tree text l (length s)) × JudgeKeeps (verdict tree text l (length s)) s u

pub rows_told : (tree text : List ℕ) (l m : Lengths) (s : List ℕ) (r : Judged) (u : List ℕ) → l ≡ m → Rows tree text l s r u → Rows tree text m s r u
rows_told tree text l m s r u e h = subst (λ (x : Lengths). Rows tree text x s r u) e h

-- p is the code's test whether r has a place
module _ (tree text : List ℕ) (b : Buffers) (r : Judged) (u : List ℕ)
    (rows : Rows tree text (lengths_of b) b.scratch r u)
    (p : Bool) (placed-is : p ≡ placed r) where
  pub first-cleared : p ≡ true → (i v l f s x t : List ℕ)
      → (i ≡ cleared b.instructions) × (v ≡ cleared b.variables) × (l ≡ cleared b.labels) × (f ≡ cleared b.functions) × (s ≡ cleared b.strings) × (x ≡ cleared b.floats)
      → t ≡ cleared u → JudgedFirst tree text b r (buffers i v l f s x t)
  first-cleared has i v l f s x t six z =
      let at_place : placed r ≡ true = sym placed-is ∙ has in
      record {
        is = answer_in_lem tree text b r rows.0 p placed-is;
        refused = λ e q. outputs-cleared tree text b r rows.0 p placed-is t
            (core_cleared tree text (lengths_of b) b.scratch u r rows false (sym (unplaced_where r at_place)) refl t z) has i v l f s x six;
        accepted = λ q. absurd (false≢true (sym (accepted-unplaced r q) ∙ at_place));
      }

  pub first-kept : p ≡ false → JudgedFirst tree text b r (buffers b.instructions b.variables b.labels b.functions b.strings b.floats u)
  first-kept lacks =
      let at_none : placed r ≡ false = sym placed-is ∙ lacks in
      record {
        is = answer_in_lem tree text b r rows.0 p placed-is;
        refused = λ e q. outputs-kept tree text b r rows.0 p placed-is u
            (core_kept tree text (lengths_of b) b.scratch u r rows true (sym (refused-unplaced r e q at_none)) refl) lacks;
        accepted = λ q. (refl, rows.1.same);
      }

pub first-accepted : (tree text : List ℕ) (b : Buffers) (r : Judged) (u : List ℕ) → Rows tree text (lengths_of b) b.scratch r u → r ≡ Ok tt
    → JudgedFirst tree text b r (buffers b.instructions b.variables b.labels b.functions b.strings b.floats u)
first-accepted tree text b r u rows q = first-kept tree text b r u rows false (sym (accepted-unplaced r q)) refl

-- r is the judge's answer, and b₁ the buffers that it leaves
module _ (tree text : List ℕ) (b : Buffers) (r : Judged) (b₁ : Buffers) (first : JudgedFirst tree text b r b₁) where
  module _ (q : r ≡ Ok tt) where
    accepted : judged_in tree text b ≡ Ok tt
    accepted = sym first.is ∙ q

    pub judged-good : Good tree text
    judged-good = good_in tree text true b accepted

    pub judged_some : 0 < records tree
    judged_some = some_in tree text true b accepted

    pub judged-lent : SevenLong (records tree) b₁
    judged-lent =
        let h = enough_in tree text true b accepted in
        subst (SevenLong (records tree)) (sym (first.accepted q).0) (record {
          arena = h.instructions;
          tables = record { variables_long = h.variables; labels_long = h.labels; functions_long = h.functions; strings_long = h.strings; floats_long = h.floats };
          scratch = omega (arith, h.scratch, (first.accepted q).1);
        })

  module _ (needsMain : Bool) (bytes : (i : ℕ) → get_or tree i 0 < 256) where
    kept : (a : StdResult Counts ConvertError) (b₂ : Buffers) → Calls tree text needsMain b (answer_from tree a) b₂ → Promised tree text needsMain b a b₂
    kept a b₂ c = record { bytes = all-bytes tree bytes; calls = c; demands = every_call ℕ tree text needsMain b (answer_from tree a) b₂ c }

    pub judge_refuses : (e : ConvertError) → r ≡ Err e → Promised tree text needsMain b (Err e) b₁
    unfolding answer_from
    judge_refuses e q = kept (Err e) b₁ (rw (first.refused e q) (refused_run tree text needsMain b e (sym first.is ∙ q)))

    module _ (q : r ≡ Ok tt) (a : StdResult Counts ConvertError) (b₂ : Buffers) (rust : AsTheRust tree text needsMain b₁ (answer_from tree a) b₂) where
      -- the same over the buffers as found, but for scratch
      found : AsTheRust tree text needsMain (buffers b.instructions b.variables b.labels b.functions b.strings b.floats b₁.scratch) (answer_from tree a) b₂
      found = subst (λ (z : Buffers). AsTheRust tree text needsMain z (answer_from tree a) b₂) (first.accepted q).0 rust

      cleared-alike : cleared b₁.scratch ≡ cleared b.scratch
      cleared-alike = cleared-same b₁.scratch b.scratch (first.accepted q).1

      by_definition : (x : Result IrProgram) → convert (program tree text) needsMain ≡ x → Calls tree text needsMain b (answer_from tree a) b₂
      unfolding buffers_after
      by_definition (ok p) e =
          let o = found.bodies p e in
          let c = converted_run tree text needsMain b (accepted q) p e in
          record {
            answers = o.0 ∙ c.answers;
            leaves = o.1 ∙ seven-buffers refl refl refl refl refl refl cleared-alike ∙ c.leaves;
          }
      by_definition (err kind place) e =
          let o = found.error kind place e in
          let c = failed_run tree text needsMain b (accepted q) kind place e in
          record {
            answers = o.0 ∙ c.answers;
            leaves = o.1 ∙ seven-buffers refl refl refl refl refl refl cleared-alike ∙ c.leaves;
          }

      pub promise_kept : Promised tree text needsMain b a b₂
      promise_kept = kept a b₂ (by_definition (convert (program tree text) needsMain) refl)
