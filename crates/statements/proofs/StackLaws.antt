-- An operand in four words and back, and an entry of the stack written and read: as the code meets them.
-- By the cases of operands and of tags; the words of an entry as those of a table of one entry. Assumes nothing.
use mathlib.Core.Path.{◌≡◌, refl, sym, ap, ◌∙◌}
use mathlib.Core.Bool.{Bool, true, false}
use mathlib.Core.List.{List, [], ◌∷◌, ◌++◌}
use Prim.Native.Nat.{ℕ, zero, suc, ◌+◌, ◌*◌, ◌/◌, ◌%◌, ◌^◌, ◌≤◌, ◌<◌}
use native.Mathlib.Omega.{arith}
use lib.Dec.{eqb, leb}
use lib.ListN.{length}
use mir.Syntax.{w64}
use mir.Val.{Fits, to_z}
use mir.Facts.{of_z-to_z}
use Rattle.laws.specs.Splice.{splice}
use Rattle.records.specs.Words.{byte_at, word_at}
use Rattle.conversion.specs.Ir as Ir
use Rattle.conversion.specs.Ir.{OVar, OInt, OFloat, OBool, ODataAddress, ONull}
use Rattle.conversion.specs.Written.{bytes_of, word, wide, tag, operand_value, bool_number, encode_all}
use Rattle.ir.specs.declared.structs.VarId.{VarId}
use Rattle.ir.specs.declared.structs.Operand.{Operand}
use Rattle.ir.specs.Instructions.{operand_of}
use Rattle.ir.specs.Arena.{Table}
use Rattle.ir.proofs.Entries.{table-grown, table-word}
use Rattle.records.proofs.Apart.{word_back}
use Rattle.records.proofs.WordLaws.{wide-words}
use Rattle.statements.specs.Stack.{var_type, operand_bytes, operand_from, stack_entry_at, operand_at, stack_at}

-- ---- an operand in four words

-- they are its entry's bytes, and stand for it again
abbrev pub Words : Ir.Operand → ℕ → ℕ → ℕ → ℕ → Type 0
Words o t y low high = (word t ++ word y ++ word low ++ word high ≡ operand_bytes o) × (operand_from t y low high ≡ o)

entry-words : (o : Ir.Operand) (t y low high : ℕ) → t ≡ tag o → y ≡ var_type o → low ≡ operand_value o % 4294967296 → high ≡ operand_value o / 4294967296
    → word t ++ word y ++ word low ++ word high ≡ operand_bytes o
unfolding operand_bytes word bytes_of
entry-words o t y low high et ey el eh = rw (et, ey, el, eh) (ap (λ (z : List ℕ). word (tag o) ++ word (var_type o) ++ z) (sym (wide-words (operand_value o))))

-- a mark as a number
pub mark_most : (b : Bool) (n : ℕ) → n ≡ bool_number b → n ≤ 1
unfolding bool_number
mark_most true n e = omega arith
mark_most false n e = omega arith

mark_back : (b : Bool) → eqb (bool_number b) 1 ≡ b
unfolding bool_number
mark_back true = refl
mark_back false = refl

int_from : (short unsigned : Bool) (low high : ℕ)
    → operand_from (2 + bool_number short + 2 * bool_number unsigned) 0 low high ≡ OInt (to_z w64 (low + high * 4294967296)) short unsigned
unfolding operand_from bool_number
int_from true true low high = refl
int_from true false low high = refl
int_from false true low high = refl
int_from false false low high = refl

module _ (o : Operand) where
  pub var_words : (v : VarId) → o ≡ Operand.Var v → v.0 < 2 ^ 32 → Words (operand_of o) 1 v.1 v.0 0
  unfolding operand_from tag var_type operand_value
  var_words v e h = rw e (entry-words (OVar _) 1 v.1 v.0 0 refl refl (omega arith) (omega arith), refl)

  pub int_words : (b : ℕ) (short unsigned : Bool) (s u low high : ℕ) → o ≡ Operand.Int b short unsigned → s ≡ bool_number short → u ≡ bool_number unsigned
      → low ≡ b % 4294967296 → high ≡ b / 4294967296 → Fits w64 b → Words (operand_of o) (2 + s + 2 * u) 0 low high
  unfolding tag var_type operand_value
  int_words b short unsigned s u low high e es eu el eh h =
      let bits : low + high * 4294967296 ≡ b = omega arith in
      rw e (
        entry-words (OInt (to_z w64 b) short unsigned) (2 + s + 2 * u) 0 low high (omega arith) refl
            (el ∙ ap (λ (x : ℕ). x % 4294967296) (sym (of_z-to_z {w = w64} h)))
            (eh ∙ ap (λ (x : ℕ). x / 4294967296) (sym (of_z-to_z {w = w64} h))),
        rw (es, eu) (int_from short unsigned low high ∙ ap (λ (x : ℕ). OInt (to_z w64 x) short unsigned) bits),
      )

  pub float_words : (i : ℕ) → o ≡ Operand.Float i → i < 2 ^ 32 → Words (operand_of o) 6 0 i 0
  unfolding operand_from tag var_type operand_value
  float_words i e h = rw e (entry-words (OFloat i) 6 0 i 0 refl refl (omega arith) (omega arith), refl)

  pub bool-words : (b : Bool) (m : ℕ) → o ≡ Operand.Bool b → m ≡ bool_number b → Words (operand_of o) 7 0 m 0
  unfolding operand_from tag var_type operand_value
  bool-words b m e em =
      let h = mark_most b m em in
      rw e (
        entry-words (OBool b) 7 0 m 0 refl refl (omega arith) (omega arith),
        ap (λ (x : Bool). OBool x) (ap (λ (n : ℕ). eqb n 1) em ∙ mark_back b),
      )

  pub string_words : (i : ℕ) → o ≡ Operand.DataAddress i → i < 2 ^ 32 → Words (operand_of o) 8 0 i 0
  unfolding operand_from tag var_type operand_value
  string_words i e h = rw e (entry-words (ODataAddress i) 8 0 i 0 refl refl (omega arith) (omega arith), refl)

  pub null_words : o ≡ Operand.Null → Words (operand_of o) 9 0 0 0
  unfolding operand_from tag var_type operand_value
  null_words e = rw e (entry-words ONull 9 0 0 0 refl refl refl refl, refl)

-- ---- the operand of four words, by their tag

module _ (y low high : ℕ) where
  pub from_var : (t : ℕ) → t ≡ 1 → OVar (record { id = low; ty = y }) ≡ operand_from t y low high
  unfolding operand_from
  from_var t e = rw e

  pub from-none : (t : ℕ) → (t ≡ 1 → ⊥) → t < 2 → ONull ≡ operand_from t y low high
  unfolding operand_from
  from-none zero n h = refl
  from-none (suc zero) n h = absurd (n refl)
  from-none (suc (suc t)) n h = absurd (omega arith)

  pub from_int : (t : ℕ) → 2 ≤ t → t < 6 → OInt (to_z w64 (low + high * 4294967296)) (eqb (t % 2) 1) (leb 4 t) ≡ operand_from t y low high
  unfolding operand_from
  from_int zero l h = absurd (omega arith)
  from_int (suc zero) l h = absurd (omega arith)
  from_int (suc (suc zero)) l h = refl
  from_int (suc (suc (suc zero))) l h = refl
  from_int (suc (suc (suc (suc zero)))) l h = refl
  from_int (suc (suc (suc (suc (suc zero))))) l h = refl
  from_int (suc (suc (suc (suc (suc (suc t)))))) l h = absurd (omega arith)

  pub from_float : (t : ℕ) → t ≡ 6 → OFloat low ≡ operand_from t y low high
  unfolding operand_from
  from_float t e = rw e

  pub from_bool : (t : ℕ) → t ≡ 7 → OBool (eqb low 1) ≡ operand_from t y low high
  unfolding operand_from
  from_bool t e = rw e

  pub from_string : (t : ℕ) → t ≡ 8 → ODataAddress low ≡ operand_from t y low high
  unfolding operand_from
  from_string t e = rw e

  pub from_null : (t : ℕ) → 9 ≤ t → ONull ≡ operand_from t y low high
  unfolding operand_from
  from_null zero h = absurd (omega arith)
  from_null (suc zero) h = absurd (omega arith)
  from_null (suc (suc zero)) h = absurd (omega arith)
  from_null (suc (suc (suc zero))) h = absurd (omega arith)
  from_null (suc (suc (suc (suc zero)))) h = absurd (omega arith)
  from_null (suc (suc (suc (suc (suc zero))))) h = absurd (omega arith)
  from_null (suc (suc (suc (suc (suc (suc zero)))))) h = absurd (omega arith)
  from_null (suc (suc (suc (suc (suc (suc (suc zero))))))) h = absurd (omega arith)
  from_null (suc (suc (suc (suc (suc (suc (suc (suc zero)))))))) h = absurd (omega arith)
  from_null (suc (suc (suc (suc (suc (suc (suc (suc (suc zero))))))))) h = refl
  from_null (suc (suc (suc (suc (suc (suc (suc (suc (suc (suc t)))))))))) h = refl

-- ---- an entry

-- a word of sixteen bytes that were written
module _ (s : List ℕ) (i : ℕ) (vs : List ℕ) (long : length vs ≡ 16) (fit : i + 16 ≤ length s) where
  abbrev one : Unit {0} → List ℕ
  one x = vs

  nothing_yet : Table one 16 [] i 0 s
  unfolding encode_all
  nothing_yet = record { bytes = record { is = refl }; width = λ x. long; count = refl }

  word_in : (b p : ℕ) → b + 4 ≤ 16 → p ≡ i + b → word_at (splice s i vs) p ≡ word_at vs b
  word_in b p h e = table-word (table-grown nothing_yet tt i (splice s i vs) refl (omega arith) (omega arith)) tt 0 b p (omega arith) h (omega arith)

-- the four words of an entry
module _ (a b c d : ℕ) where
  abbrev four : List ℕ
  four = word a ++ word b ++ word c ++ word d

  four_long : length four ≡ 16
  unfolding word bytes_of
  four_long = refl

  word_0 : a < 2 ^ 32 → word_at four 0 ≡ a
  unfolding word bytes_of word_at byte_at
  word_0 h = word_back a h

  word_4 : b < 2 ^ 32 → word_at four 4 ≡ b
  unfolding word bytes_of word_at byte_at
  word_4 h = word_back b h

  word_8 : c < 2 ^ 32 → word_at four 8 ≡ c
  unfolding word bytes_of word_at byte_at
  word_8 h = word_back c h

  word_12 : d < 2 ^ 32 → word_at four 12 ≡ d
  unfolding word bytes_of word_at byte_at
  word_12 h = word_back d h

-- written: its bytes are the operand's, and it is the operand again
pub push-done : (s s' : List ℕ) (n j a b c d : ℕ) (o : Ir.Operand) → 24 * n + 16 * j + 16 ≤ length s
    → a < 2 ^ 32 → b < 2 ^ 32 → c < 2 ^ 32 → d < 2 ^ 32 → Words o a b c d → s' ≡ splice s (24 * n + 16 * j) (word a ++ word b ++ word c ++ word d)
    → (s' ≡ splice s (stack_entry_at n j) (operand_bytes o)) × (operand_at s' n j ≡ o)
unfolding operand_at
push-done s s' n j a b c d o fit ha hb hc hd w e =
    let p : ℕ = stack_entry_at n j in
    let vs : List ℕ = word a ++ word b ++ word c ++ word d in
    let at : (k q x : ℕ) → k + 4 ≤ 16 → q ≡ p + k → word_at vs k ≡ x → word_at s' q ≡ x =
    λ k q x h z y. ap (λ (l : List ℕ). word_at l q) e ∙ word_in s p vs (four_long a b c d) fit k q h z ∙ y in (
      e ∙ ap (splice s p) w.0,
      rw (
        at 0 p a (omega arith) (omega arith) (word_0 a b c d ha),
        at 4 (p + 4) b (omega arith) refl (word_4 a b c d hb),
        at 8 (p + 8) c (omega arith) refl (word_8 a b c d hc),
        at 12 (p + 12) d (omega arith) refl (word_12 a b c d hd),
      ) w.1,
    )

-- read
pub entry_read : (s : List ℕ) (n j a b c d : ℕ) (o : Ir.Operand) → a ≡ word_at s (24 * n + 16 * j) → b ≡ word_at s (24 * n + 16 * j + 4)
    → c ≡ word_at s (24 * n + 16 * j + 8) → d ≡ word_at s (24 * n + 16 * j + 12) → o ≡ operand_from a b c d → o ≡ operand_at s n j
unfolding operand_at
entry_read s n j a b c d o ea eb ec ed e = e ∙ rw (ea, eb, ec, ed)

-- an operand's bytes
pub operand-long : (o : Ir.Operand) → length (operand_bytes o) ≡ 16
unfolding operand_bytes word wide bytes_of
operand-long o = refl

-- one entry more at the end
pub stack-last : (s : List ℕ) (n j count : ℕ) → stack_at s n j (suc count) ≡ stack_at s n j count ++ (operand_at s n (j + count) ∷ [])
unfolding stack_at
stack-last s n j zero = ap (λ (i : ℕ). operand_at s n i ∷ []) (omega arith)
stack-last s n j (suc count) =
    ap (λ (r : List Ir.Operand). operand_at s n j ∷ r) (stack-last s n (suc j) count ∙ ap (λ (i : ℕ). stack_at s n (suc j) count ++ (operand_at s n i ∷ [])) (omega arith))
