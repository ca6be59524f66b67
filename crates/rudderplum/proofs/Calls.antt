-- The two ways through a call: the answer's buffer is too short, or each buffer is as the judge and the answer leave it.
-- By the test of that buffer's length, and then field by field. Assumes nothing.
use mathlib.Core.Path.{◌≡◌, refl, sym, ap, ◌∙◌}
use mathlib.Core.Bool.{Bool}
use mathlib.Core.List.{List, ◌++◌}
use Prim.Native.Nat.{ℕ, ◌+◌, ◌*◌, ◌/◌, ◌%◌, ◌≤◌, ◌<◌}
use native.Mathlib.Omega.{arith}
use lib.ListN.{length}
use borrow.Author.Tests.{le-leb, lt-leb}
use Rattle.laws.specs.Fix.{pick}
use Rattle.laws.specs.Splice.{splice}
use Rattle.laws.proofs.Splices.{splice-splice}
use Rattle.records.specs.Words.{bytes_of, word}
use Rattle.records.specs.Answer.{words_of}
use Rattle.records.specs.declared.convert_error.ConvertError.{ConvertError}
use Rattle.records.specs.declared.convert_error.AnswerWords.{AnswerWords}
use Rattle.judge.specs.Judge.{Buffers, Judged, judged_in, judge_leaves}
use Rattle.demands.specs.Call.{Refusal, Counted}
use Rattle.converter.specs.declared.Counts.{Counts}
use Rattle.std.specs.Prelude.{Result, Ok, Err}
use Rattle.converter.specs.Convert.{counts_from, answer_from, Promised}
use Rattle.rudderplum.specs.Boundary.{answer_bytes, judged_words, roomy, returned, Lent, answered_in, judge_call, conversion_bytes, roomy_for_eight, returned_eight, converted_in, call_converted}

pub short-returns : (answer : List ℕ) → length answer < 16 → 0 ≡ returned answer
unfolding returned roomy pick
short-returns answer h = rw (lt-leb _ _ h) refl

pub long-returns : (answer : List ℕ) → 16 ≤ length answer → 1 ≡ returned answer
unfolding returned roomy pick
long-returns answer h = rw (le-leb _ _ h) refl

pub short-call : (tree text : List ℕ) (b : Lent) → length b.answer < 16 → b ≡ judge_call tree text b
unfolding judge_call roomy pick
short-call tree text b h = rw (lt-leb _ _ h) refl

pub long-call : (tree text : List ℕ) (b b' : Buffers) (a a' : List ℕ) (j : Judged) (w : AnswerWords)
    → 16 ≤ length a
    → j ≡ judged_in tree text b
    → b' ≡ judge_leaves tree text b
    → w ≡ judged_words tree j
    → a' ≡ splice a 0 (answer_bytes w)
    → ◌≡◌ {A = Lent} (record { seven = b'; answer = a' }) (judge_call tree text (record { seven = b; answer = a }))
unfolding judge_call answered_in roomy pick
long-call tree text b b' a a' j w h hj hb hw ha = rw (le-leb _ _ h) (cc)

-- ---- the eight words of a conversion

-- a byte off a number that has a multiple of 256 besides
low_byte : (m k : ℕ) → (m + 256 * k) % 256 ≡ m % 256
low_byte m k = omega arith

next-byte : (m k : ℕ) → (m + 256 * k) / 256 ≡ m / 256 + k
next-byte m k = omega arith

-- a count's word has its lowest 32 bits
pub word_cut : (n : ℕ) → word (n % 4294967296) ≡ word n
unfolding word bytes_of
word_cut n =
    let m : ℕ = n % 4294967296 in
    let q : ℕ = n / 4294967296 in
    let whole : n ≡ m + 256 * (16777216 * q) = omega arith in
    let one : n / 256 ≡ m / 256 + 256 * (65536 * q) = ap (λ (z : ℕ). z / 256) whole ∙ next-byte m (16777216 * q) ∙ omega arith in
    let two : n / 256 / 256 ≡ m / 256 / 256 + 256 * (256 * q) = ap (λ (z : ℕ). z / 256) one ∙ next-byte (m / 256) (65536 * q) ∙ omega arith in
    let three : n / 256 / 256 / 256 ≡ m / 256 / 256 / 256 + 256 * q = ap (λ (z : ℕ). z / 256) two ∙ next-byte (m / 256 / 256) (256 * q) in
    let a : n % 256 ≡ m % 256 = ap (λ (z : ℕ). z % 256) whole ∙ low_byte m (16777216 * q) in
    let b : n / 256 % 256 ≡ m / 256 % 256 = ap (λ (z : ℕ). z % 256) one ∙ low_byte (m / 256) (65536 * q) in
    let c : n / 256 / 256 % 256 ≡ m / 256 / 256 % 256 = ap (λ (z : ℕ). z % 256) two ∙ low_byte (m / 256 / 256) (256 * q) in
    let d : n / 256 / 256 / 256 % 256 ≡ m / 256 / 256 / 256 % 256 = ap (λ (z : ℕ). z % 256) three ∙ low_byte (m / 256 / 256 / 256) q in
    rw (a, b, c, d)

four_long : (a b c d : ℕ) → length (word a ++ word b ++ word c ++ word d) ≡ 16
unfolding word bytes_of
four_long a b c d = refl

-- four words, and four behind them
two_fours : (l l₁ l₂ vs ws : List ℕ) → 32 ≤ length l → length vs ≡ 16 → length ws ≡ 16 → l₁ ≡ splice l 0 vs → l₂ ≡ splice l₁ 16 ws → l₂ ≡ splice l 0 (vs ++ ws)
two_fours l l₁ l₂ vs ws h a b p q = q ∙ ap (λ (x : List ℕ). splice x 16 ws) p ∙ splice-splice l 0 16 vs ws (omega arith) (omega arith)

module _ (l l₁ l₂ : List ℕ) (h : 32 ≤ length l) where
  pub counts_put : (c : Counts) (f i v y s x n : ℕ) → f ≡ c.functions % 4294967296 → i ≡ c.instructions % 4294967296 → v ≡ c.variables % 4294967296
      → y ≡ c.labels % 4294967296 → s ≡ c.strings % 4294967296 → x ≡ c.floats % 4294967296 → n ≡ c.visits % 4294967296
      → l₁ ≡ splice l 0 (word 0 ++ word f ++ word i ++ word v) → l₂ ≡ splice l₁ 16 (word y ++ word s ++ word x ++ word n)
      → l₂ ≡ splice l 0 (conversion_bytes (Counted (counts_from c) c.visits))
  unfolding conversion_bytes
  counts_put c f i v y s x n ef ei ev ey es ex en p q =
      let back : (a m : ℕ) → a ≡ m % 4294967296 → word a ≡ word m = λ a m e. ap word e ∙ word_cut m in
      let e₁ = back f c.functions ef in
      let e₂ = back i c.instructions ei in
      let e₃ = back v c.variables ev in
      let e₄ = back y c.labels ey in
      let e₅ = back s c.strings es in
      let e₆ = back x c.floats ex in
      let e₇ = back n c.visits en in
      two_fours l l₁ l₂ (word 0 ++ word f ++ word i ++ word v) (word y ++ word s ++ word x ++ word n) h (four_long 0 f i v) (four_long y s x n) p q ∙ cc

  pub refusal_put : (a : AnswerWords) → l₁ ≡ splice l 0 (answer_bytes a) → l₂ ≡ splice l₁ 16 (word 0 ++ word 0 ++ word 0 ++ word 0)
      → l₂ ≡ splice l 0 (conversion_bytes (Refusal a))
  unfolding conversion_bytes answer_bytes
  refusal_put a p q =
      two_fours l l₁ l₂ (word a.number ++ word a.place ++ word a.start ++ word a.end) (word 0 ++ word 0 ++ word 0 ++ word 0) h
      (four_long a.number a.place a.start a.end) (four_long 0 0 0 0) p q

-- by the case of the answer
module _ (tree l l' : List ℕ) (a : Result Counts ConvertError) where
  pub converted_put : (c : Counts) → a ≡ Ok c → l' ≡ splice l 0 (conversion_bytes (Counted (counts_from c) c.visits)) → l' ≡ splice l 0 (conversion_bytes (answer_from tree a))
  unfolding answer_from
  converted_put c e p = p ∙ ap (λ (z : Result Counts ConvertError). splice l 0 (conversion_bytes (answer_from tree z))) (sym e)

  pub refused_put : (e : ConvertError) (w : AnswerWords) → a ≡ Err e → w ≡ words_of tree e → l' ≡ splice l 0 (conversion_bytes (Refusal w))
      → l' ≡ splice l 0 (conversion_bytes (answer_from tree a))
  unfolding answer_from
  refused_put e w h q p = p ∙ ap (λ (z : AnswerWords). splice l 0 (conversion_bytes (Refusal z))) q ∙ ap (λ (z : Result Counts ConvertError). splice l 0 (conversion_bytes (answer_from tree z))) (sym h)

-- ---- the two ways through a conversion

pub short-returns_eight : (answer : List ℕ) → length answer < 32 → 0 ≡ returned_eight answer
unfolding returned_eight roomy_for_eight pick
short-returns_eight answer h = rw (lt-leb _ _ h) refl

pub long-returns_eight : (answer : List ℕ) → 32 ≤ length answer → 1 ≡ returned_eight answer
unfolding returned_eight roomy_for_eight pick
long-returns_eight answer h = rw (le-leb _ _ h) refl

pub short-convert : (tree text : List ℕ) (needsMain : Bool) (b : Lent) → length b.answer < 32 → b ≡ call_converted tree text needsMain b
unfolding call_converted roomy_for_eight pick
short-convert tree text needsMain b h = rw (lt-leb _ _ h) refl

pub long-convert : (tree text : List ℕ) (needsMain : Bool) (b b' : Buffers) (a a' : List ℕ) (w : Result Counts ConvertError)
    → 32 ≤ length a
    → Promised tree text needsMain b w b'
    → a' ≡ splice a 0 (conversion_bytes (answer_from tree w))
    → ◌≡◌ {A = Lent} (record { seven = b'; answer = a' }) (call_converted tree text needsMain (record { seven = b; answer = a }))
unfolding call_converted converted_in roomy_for_eight pick
long-convert tree text needsMain b b' a a' w h p ha =
    let e = p.calls.answers in
    let f = p.calls.leaves in
    rw (le-leb _ _ h) (cc)
