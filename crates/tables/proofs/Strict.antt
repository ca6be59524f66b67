-- Only an instruction's own bytes are read as that instruction: 32 bytes that say i are those that i is written as.
-- By cases on the tag and on the kind: what was read gives back the fields, and the fields the bytes. Assumes nothing.
use mathlib.Core.Path.{◌≡◌, refl, sym, ap, ◌∙◌}
use Prim.Native.Nat.{ℕ, zero, suc, ◌+◌, ◌<◌, ◌≤◌, ◌^◌}
use mathlib.Core.Bool.{Bool, true, false}
use mathlib.Core.List.{List, [], ◌∷◌, ◌++◌}
use mathlib.Core.Option.{Option, none as nothing, some}
use native.Mathlib.Omega.{arith}
use lib.Dec.{eqb}
use lib.ListN.{length, take, get_or, get_elem?}
use borrow.Author.Tests.{eqb-true}
use mir.Syntax.{w64}
use mir.Val.{to_z}
use mir.Facts.{of_z-to_z}
use Rattle.laws.specs.All.{All}
use Rattle.laws.specs.Fix.{pick}
use Rattle.records.specs.Words.{byte_at, word_at, none}
use Rattle.syntax.specs.Syntax.{UnaryOp, BinaryOp, unary_ops, binary_ops, unary_number, binary_number}
use Rattle.conversion.specs.Ir.{VarId, Operand, OVar, OInt, OFloat, OBool, ODataAddress, ONull, Instr, Copy, Unary, Binary, Cast, Zero, Arg, Call, Label, Jump, JumpIfNot, Return, Comment}
use Rattle.conversion.specs.Written.{word, wide, bool_number, tag, operand_value, Fields, tag_of, operand_word, destination, fields_of, encode_fields, encode_instr}
use Rattle.tables.specs.Read.{◌>>=◌, read_zeros, wide_at, mark_of, read_var, no_operand, var_operand, int_operand, float_operand, bool_operand, string_operand, null_operand, bad_operand, read_operand, fields_at, no_instr, read_copy, read_unary, read_binary, read_cast, read_zero, read_arg, read_destination, read_call, read_label, read_jump, read_jump_if_not, read_return, read_comment, read_instr, instr_in}
use Rattle.tables.specs.Bytes.{Byte}
use Rattle.tables.proofs.Numbers.{bytes_from, word_of, wide_of, wide-small, take-bytes}

-- ---- what was read

-- what a sequence read: first `it`, then the rest from it
record Bound {A B : Type 0} (o : Option A) (f : A → Option B) (y : B) : Type 0 where
  it : A
  first : o ≡ some it
  next : f it ≡ some y

bound : {A B : Type 0} (o : Option A) (f : A → Option B) (y : B) → (o >>= f) ≡ some y → Bound o f y
unfolding ◌>>=◌
bound nothing f y e = let z : ◌≡◌ {A = ℕ} 0 1 = cc in absurd (omega arith)
bound (some a) f y e = record { it = a; first = refl; next = e }

picked : {A : Type 0} (b : Bool) (x : Option A) (y : A) → pick b x nothing ≡ some y → (b ≡ true) × (x ≡ some y)
unfolding pick
picked true x y e = (refl, e)
picked false x y e = let z : ◌≡◌ {A = ℕ} 0 1 = cc in absurd (omega arith)

all_zero_lem : (l : List ℕ) → read_zeros l ≡ some tt → All (λ n. n ≡ 0) l
unfolding read_zeros
all_zero_lem [] e = tt
all_zero_lem (n ∷ l) e =
    let p = picked (eqb n 0) (read_zeros l) tt e in
    (eqb-true n 0 p.0, all_zero_lem l p.1)

-- what holds of each of a list's elements and its number, from k on
abbrev AllFrom : {X : Type 0} → (ℕ → X → Type 0) → ℕ → List X → Type 0
AllFrom P k [] = Unit {0}
AllFrom P k (x ∷ l) = P k x × AllFrom P (suc k) l

from_at : {X : Type 0} (P : ℕ → X → Type 0) (d : X) (l : List X) (k n m : ℕ) → ((j : ℕ) → P j d) → AllFrom P k l → m ≡ k + n → P m (get_or l n d)
from_at P d [] k n m h a e = h m
from_at P d (x ∷ l) k zero m h a e = let q : m ≡ k = omega arith in rw q a.0
from_at P d (x ∷ l) k (suc n) m h a e = from_at P d l (suc k) n m h a.1 (omega arith)

mark_is : (n : ℕ) (b : Bool) → mark_of n ≡ some b → bool_number b ≡ n
unfolding mark_of bool_number
mark_is zero b e = let q : false ≡ b = cc in rw (← q)
mark_is (suc zero) b e = let q : true ≡ b = cc in rw (← q)
mark_is (suc (suc n)) b e = let z : ◌≡◌ {A = ℕ} 0 1 = cc in absurd (omega arith)

module _ (vs : List ℕ) where
  variable-is : (n : ℕ) (x : VarId) → read_var vs n ≡ some x → x.id ≡ n
  unfolding read_var ◌>>=◌
  variable-is n x e =
      let b = bound (get_elem? vs n) (λ y. some (record { id = n; ty = y })) x e in
      let q : record { id = n; ty = b.it } ≡ x = cc b.next in
      rw (← q)

  -- ---- operands

  -- what a reader of tag k reads has that tag, and the value that was read
  abbrev Reads : ℕ → (ℕ → Option (Option Operand)) → Type 0
  Reads k read = (n : ℕ) → n < 2 ^ 64 → (o : Option Operand) → read n ≡ some o → (tag_of o ≡ k) × (operand_word o ≡ n)

  none_reads : Reads 0 no_operand
  unfolding no_operand tag_of operand_word
  none_reads n h o e =
      let p = picked (eqb n 0) (some nothing) o e in
      let q : nothing ≡ o = cc p.1 in
      rw (← q) (refl, sym (eqb-true n 0 p.0))

  var_reads : Reads 1 (var_operand vs)
  unfolding var_operand tag_of operand_word tag operand_value
  var_reads n h o e =
      let b = bound (read_var vs n) (λ x. some (some (OVar x))) o e in
      let q : some (OVar b.it) ≡ o = cc b.next in
      rw (← q) (refl, variable-is n b.it b.first)

  int_reads : (s u : Bool) → Reads (2 + bool_number s + (bool_number u + bool_number u)) (int_operand s u)
  unfolding int_operand tag_of operand_word tag operand_value
  int_reads s u n h o e =
      let q : some (OInt (to_z w64 n) s u) ≡ o = cc in
      rw (← q) (refl, of_z-to_z {w = w64} (record { fits = h }))

  float_reads : Reads 6 float_operand
  unfolding float_operand tag_of operand_word tag operand_value
  float_reads n h o e = let q : some (OFloat n) ≡ o = cc in rw (← q) (refl, refl)

  bool-reads : Reads 7 bool_operand
  unfolding bool_operand tag_of operand_word tag operand_value
  bool-reads n h o e =
      let b = bound (mark_of n) (λ x. some (some (OBool x))) o e in
      let q : some (OBool b.it) ≡ o = cc b.next in
      rw (← q) (refl, mark_is n b.it b.first)

  string_reads : Reads 8 string_operand
  unfolding string_operand tag_of operand_word tag operand_value
  string_reads n h o e = let q : some (ODataAddress n) ≡ o = cc in rw (← q) (refl, refl)

  null_reads : Reads 9 null_operand
  unfolding null_operand tag_of operand_word tag operand_value
  null_reads n h o e =
      let p = picked (eqb n 0) (some (some ONull)) o e in
      let q : some ONull ≡ o = cc p.1 in
      rw (← q) (refl, sym (eqb-true n 0 p.0))

  bad_reads : (k : ℕ) → Reads k bad_operand
  unfolding bad_operand
  bad_reads k n h o e = let z : ◌≡◌ {A = ℕ} 0 1 = cc in absurd (omega arith)

  operand-is : (t n : ℕ) (o : Option Operand) → n < 2 ^ 64 → read_operand vs t n ≡ some o → (tag_of o ≡ t) × (operand_word o ≡ n)
  unfolding read_operand bool_number
  operand-is t n o h e = from_at Reads bad_operand
      (no_operand ∷ var_operand vs ∷ int_operand false false ∷ int_operand true false ∷ int_operand false true ∷ int_operand true true ∷ float_operand
      ∷ bool_operand ∷ string_operand ∷ null_operand ∷ []) 0 t t bad_reads (
        none_reads,
        (
          var_reads,
          (
            int_reads false false,
            (
              int_reads true false,
              (
                int_reads false true,
                (
                  int_reads true true,
                  (
                    float_reads,
                    (bool-reads, (string_reads, (null_reads, tt))),
                  ),
                ),
              ),
            ),
          ),
        ),
      ) (omega arith) n h o e

  -- ---- fields

  -- an instruction's 32 bytes from their parts
  layout : ℕ → ℕ → ℕ → ℕ → List ℕ → List ℕ → List ℕ → List ℕ → List ℕ → List ℕ
  layout k o t u a b c d e = k ∷ o ∷ t ∷ u ∷ [] ++ a ++ b ++ c ++ d ++ e

  encoded : (f : Fields) → encode_fields f ≡ layout f.kind f.operator (tag_of f.first) (tag_of f.second) (word f.target)
      (wide (operand_word f.first)) (wide (operand_word f.second)) (word f.record_word) (word 0)
  unfolding encode_fields layout
  encoded f = refl

  abbrev four : List ℕ → ℕ → List ℕ
  four b i = byte_at b i ∷ byte_at b (i + 1) ∷ byte_at b (i + 2) ∷ byte_at b (i + 3) ∷ []

  abbrev eight : List ℕ → ℕ → List ℕ
  eight b i = byte_at b i ∷ byte_at b (i + 1) ∷ byte_at b (i + 2) ∷ byte_at b (i + 3) ∷ four b (i + 4)

  laid : (b : List ℕ) → bytes_from b 0 32
      ≡ layout (byte_at b 0) (byte_at b 1) (byte_at b 2) (byte_at b 3) (four b 4) (eight b 8) (eight b 16) (four b 24) (four b 28)
  unfolding layout bytes_from
  laid b = refl

  same_layout : (b : List ℕ) → All Byte b → (t u v w z : ℕ) → t ≡ byte_at b 2 → u ≡ byte_at b 3 → v ≡ wide_at b 8 → w ≡ wide_at b 16
      → word_at b 28 ≡ z
      → layout (byte_at b 0) (byte_at b 1) (byte_at b 2) (byte_at b 3) (four b 4) (eight b 8) (eight b 16) (four b 24) (four b 28)
      ≡ layout (byte_at b 0) (byte_at b 1) t u (word (word_at b 4)) (wide v) (wide w) (word (word_at b 24)) (word z)
  same_layout b bytes t u v w z e f g h i = rw (
    e,
    f,
    g,
    h,
    ← i,
    word_of b bytes 4,
    wide_of b bytes 8,
    word_of b bytes 12,
    wide_of b bytes 16,
    word_of b bytes 20,
    word_of b bytes 24,
    word_of b bytes 28,
  )

  fields_is : (b : List ℕ) (f : Fields) → All Byte b → 32 ≤ length b → fields_at vs b ≡ some f → take 32 b ≡ encode_fields f
  unfolding fields_at
  fields_is b f bytes h e =
      let p = bound (read_operand vs (byte_at b 2) (wide_at b 8)) (λ o. read_operand vs (byte_at b 3) (wide_at b 16) >>= λ p. rest o p) f e in
      let q = bound (read_operand vs (byte_at b 3) (wide_at b 16)) (λ r. rest p.it r) f p.next in
      let z = bound (read_zeros (word_at b 28 ∷ [])) (λ u. some (made p.it q.it)) f q.next in
      let s : made p.it q.it ≡ f = cc z.next in
      let o = operand-is (byte_at b 2) (wide_at b 8) p.it (wide-small b bytes 8) p.first in
      let r = operand-is (byte_at b 3) (wide_at b 16) q.it (wide-small b bytes 16) q.first in
      take-bytes b 0 32 h ∙ laid b
      ∙ same_layout b bytes _ _ _ _ _ o.0 r.0 o.1 r.1 (all_zero_lem (word_at b 28 ∷ []) z.first).0
      ∙ sym (encoded (made p.it q.it)) ∙ ap encode_fields s
    where
      made : Option Operand → Option Operand → Fields
      made o p = record { kind = byte_at b 0; operator = byte_at b 1; first = o; second = p; target = word_at b 4; record_word = word_at b 24 }

      rest : Option Operand → Option Operand → Option Fields
      rest o p = read_zeros (word_at b 28 ∷ []) >>= λ u. some (made o p)

  -- ---- instructions

  tag-none : (o : Option Operand) → tag_of o ≡ 0 → o ≡ nothing
  unfolding tag_of tag
  tag-none nothing e = refl
  tag-none (some (OVar x)) e = absurd (omega arith)
  tag-none (some (OInt v s u)) e = absurd (omega arith)
  tag-none (some (OFloat i)) e = absurd (omega arith)
  tag-none (some (OBool b)) e = absurd (omega arith)
  tag-none (some (ODataAddress i)) e = absurd (omega arith)
  tag-none (some ONull) e = absurd (omega arith)

  same_fields : (f : Fields) (k o : ℕ) (a b : Option Operand) (t r : ℕ) → f.kind ≡ k → f.operator ≡ o → f.first ≡ a → f.second ≡ b
      → f.target ≡ t → f.record_word ≡ r → record { kind = k; operator = o; first = a; second = b; target = t; record_word = r } ≡ f
  same_fields f k o a b t r c d e g h i = rw (← c, ← d, ← e, ← g, ← h, ← i)

  found_from : {X : Type 0} (P : ℕ → X → Type 0) (l : List X) (k n m : ℕ) (x : X) → AllFrom P k l → m ≡ k + n → get_elem? l n ≡ some x → P m x
  found_from P [] k n m x a e f = let z : ◌≡◌ {A = ℕ} 0 1 = cc in absurd (omega arith)
  found_from P (y ∷ l) k zero m x a e f = let q : m ≡ k = omega arith in let s : y ≡ x = cc in rw (q, ← s) a.0
  found_from P (y ∷ l) k (suc n) m x a e f = found_from P l (suc k) n m x a.1 (omega arith) f

  unary-is : (n : ℕ) (u : UnaryOp) → get_elem? unary_ops n ≡ some u → n ≡ unary_number u
  unary-is n u e = found_from (λ k x. k ≡ unary_number x) unary_ops 0 n n u (refl, (refl, (refl, tt))) (omega arith) e

  binary-is : (n : ℕ) (b : BinaryOp) → get_elem? binary_ops n ≡ some b → n ≡ binary_number b
  binary-is n b e = found_from (λ k x. k ≡ binary_number x) binary_ops 0 n n b (
    refl,
    (
      refl,
      (
        refl,
        (
          refl,
          (
            refl,
            (
              refl,
              (
                refl,
                (
                  refl,
                  (
                    refl,
                    (
                      refl,
                      (refl, (refl, (refl, (refl, (refl, (refl, (refl, (refl, tt)))))))),
                    ),
                  ),
                ),
              ),
            ),
          ),
        ),
      ),
    ),
  ) (omega arith) e

  -- what a reader of kind k reads has the fields that were read
  abbrev ReadsKind : ℕ → (List ℕ → Fields → Option Instr) → Type 0
  ReadsKind k read = (f : Fields) → f.kind ≡ k → (i : Instr) → read vs f ≡ some i → fields_of i ≡ f

  no_reads : (k : ℕ) → ReadsKind k no_instr
  unfolding no_instr
  no_reads k f h i e = let z : ◌≡◌ {A = ℕ} 0 1 = cc in absurd (omega arith)

  -- Copy and Cast, C being the constructor
  to-variable-reads : (k : ℕ) (C : VarId → Operand → Instr) → ((x : VarId) (o : Operand) → fields_of (C x o)
      ≡ record { kind = k; operator = 0; first = some o; second = nothing; target = x.id; record_word = 0 })
      → ReadsKind k (λ ws f. read_var ws f.target >>= λ x. f.first >>= λ o.
      read_zeros (f.operator ∷ tag_of f.second ∷ f.record_word ∷ []) >>= λ u. some (C x o))
  to-variable-reads k C c f h i e =
      let l = f.operator ∷ tag_of f.second ∷ f.record_word ∷ [] in
      let x = bound (read_var vs f.target) (λ x. f.first >>= λ o. read_zeros l >>= λ u. some (C x o)) i e in
      let o = bound f.first (λ o. read_zeros l >>= λ u. some (C x.it o)) i x.next in
      let u = bound (read_zeros l) (λ u. some (C x.it o.it)) i o.next in
      let z = all_zero_lem l u.first in
      let q : C x.it o.it ≡ i = cc u.next in
      rw (← q) (c x.it o.it ∙ same_fields f k 0 (some o.it) nothing x.it.id 0 h z.0 o.first (tag-none f.second z.1.0)
      (sym (variable-is f.target x.it x.first)) z.1.1.0)

  -- Arg and Return
  operand-reads : (k : ℕ) (C : Operand → Instr) → ((o : Operand) → fields_of (C o)
      ≡ record { kind = k; operator = 0; first = some o; second = nothing; target = 0; record_word = 0 })
      → ReadsKind k (λ ws f. f.first >>= λ o. read_zeros (f.operator ∷ tag_of f.second ∷ f.target ∷ f.record_word ∷ []) >>= λ u. some (C o))
  operand-reads k C c f h i e =
      let l = f.operator ∷ tag_of f.second ∷ f.target ∷ f.record_word ∷ [] in
      let o = bound f.first (λ o. read_zeros l >>= λ u. some (C o)) i e in
      let u = bound (read_zeros l) (λ u. some (C o.it)) i o.next in
      let z = all_zero_lem l u.first in
      let q : C o.it ≡ i = cc u.next in
      rw (← q) (c o.it ∙ same_fields f k 0 (some o.it) nothing 0 0 h z.0 o.first (tag-none f.second z.1.0) z.1.1.0
      z.1.1.1.0)

  -- Label and Jump
  label_reads : (k : ℕ) (C : ℕ → Instr) → ((l : ℕ) → fields_of (C l)
      ≡ record { kind = k; operator = 0; first = nothing; second = nothing; target = l; record_word = 0 })
      → ReadsKind k (λ ws f. read_zeros (f.operator ∷ tag_of f.first ∷ tag_of f.second ∷ f.record_word ∷ []) >>= λ u. some (C f.target))
  label_reads k C c f h i e =
      let l = f.operator ∷ tag_of f.first ∷ tag_of f.second ∷ f.record_word ∷ [] in
      let u = bound (read_zeros l) (λ u. some (C f.target)) i e in
      let z = all_zero_lem l u.first in
      let q : C f.target ≡ i = cc u.next in
      rw (← q) (c f.target ∙ same_fields f k 0 nothing nothing f.target 0 h z.0 (tag-none f.first z.1.0)
      (tag-none f.second z.1.1.0) refl z.1.1.1.0)

  copy-reads : ReadsKind 1 read_copy
  unfolding read_copy fields_of
  copy-reads = to-variable-reads 1 Copy (λ x o. refl)

  unary-reads : ReadsKind 2 read_unary
  unfolding read_unary fields_of
  unary-reads f h i e =
      let l = tag_of f.second ∷ f.record_word ∷ [] in
      let x = bound (read_var vs f.target) (λ x. get_elem? unary_ops f.operator >>= λ v. f.first >>= λ o. read_zeros l >>= λ u. some (Unary x v o)) i e in
      let v = bound (get_elem? unary_ops f.operator) (λ v. f.first >>= λ o. read_zeros l >>= λ u. some (Unary x.it v o)) i x.next in
      let o = bound f.first (λ o. read_zeros l >>= λ u. some (Unary x.it v.it o)) i v.next in
      let u = bound (read_zeros l) (λ u. some (Unary x.it v.it o.it)) i o.next in
      let z = all_zero_lem l u.first in
      let q : Unary x.it v.it o.it ≡ i = cc u.next in
      rw (← q) (same_fields f 2 (unary_number v.it) (some o.it) nothing x.it.id 0 h (unary-is f.operator v.it v.first) o.first
      (tag-none f.second z.0) (sym (variable-is f.target x.it x.first)) z.1.0)

  binary-reads : ReadsKind 3 read_binary
  unfolding read_binary fields_of
  binary-reads f h i e =
      let l = f.record_word ∷ [] in
      let x = bound (read_var vs f.target) (λ x. get_elem? binary_ops f.operator >>= λ v. f.first >>= λ o. f.second >>= λ p.
      read_zeros l >>= λ u. some (Binary x v o p)) i e in
      let v = bound (get_elem? binary_ops f.operator) (λ v. f.first >>= λ o. f.second >>= λ p. read_zeros l >>= λ u. some (Binary x.it v o p)) i x.next in
      let o = bound f.first (λ o. f.second >>= λ p. read_zeros l >>= λ u. some (Binary x.it v.it o p)) i v.next in
      let p = bound f.second (λ p. read_zeros l >>= λ u. some (Binary x.it v.it o.it p)) i o.next in
      let u = bound (read_zeros l) (λ u. some (Binary x.it v.it o.it p.it)) i p.next in
      let z = all_zero_lem l u.first in
      let q : Binary x.it v.it o.it p.it ≡ i = cc u.next in
      rw (← q) (same_fields f 3 (binary_number v.it) (some o.it) (some p.it) x.it.id 0 h (binary-is f.operator v.it v.first)
      o.first p.first (sym (variable-is f.target x.it x.first)) z.0)

  cast-reads : ReadsKind 4 read_cast
  unfolding read_cast fields_of
  cast-reads = to-variable-reads 4 Cast (λ x o. refl)

  zero-reads : ReadsKind 5 read_zero
  unfolding read_zero fields_of
  zero-reads f h i e =
      let l = f.operator ∷ tag_of f.first ∷ tag_of f.second ∷ f.record_word ∷ [] in
      let x = bound (read_var vs f.target) (λ x. read_zeros l >>= λ u. some (Zero x)) i e in
      let u = bound (read_zeros l) (λ u. some (Zero x.it)) i x.next in
      let z = all_zero_lem l u.first in
      let q : Zero x.it ≡ i = cc u.next in
      rw (← q) (same_fields f 5 0 nothing nothing x.it.id 0 h z.0 (tag-none f.first z.1.0) (tag-none f.second z.1.1.0)
      (sym (variable-is f.target x.it x.first)) z.1.1.1.0)

  destination-by : (b : Bool) (n : ℕ) (x : Option VarId) → eqb n none ≡ b
      → pick b (some nothing) (read_var vs n >>= λ y. some (some y)) ≡ some x → n ≡ destination x
  unfolding pick destination
  destination-by true n x e f = let q : nothing ≡ x = cc in rw (← q) (eqb-true n none e)
  destination-by false n x e f =
      let y = bound (read_var vs n) (λ y. some (some y)) x f in
      let q : some y.it ≡ x = cc y.next in
      rw (← q) (sym (variable-is n y.it y.first))

  call-reads : ReadsKind 7 read_call
  unfolding read_call fields_of
  call-reads f h i e =
      let l = f.operator ∷ tag_of f.first ∷ tag_of f.second ∷ [] in
      let x = bound (read_destination vs f.target) (λ x. read_zeros l >>= λ u. some (Call x f.record_word)) i e in
      let u = bound (read_zeros l) (λ u. some (Call x.it f.record_word)) i x.next in
      let z = all_zero_lem l u.first in
      let q : Call x.it f.record_word ≡ i = cc u.next in
      rw (← q) (same_fields f 7 0 nothing nothing (destination x.it) f.record_word h z.0 (tag-none f.first z.1.0)
      (tag-none f.second z.1.1.0) (destination-by (eqb f.target none) f.target x.it refl x.first) refl)

  jump_if_not-reads : ReadsKind 10 read_jump_if_not
  unfolding read_jump_if_not fields_of
  jump_if_not-reads f h i e =
      let l = f.operator ∷ tag_of f.second ∷ f.record_word ∷ [] in
      let o = bound f.first (λ o. read_zeros l >>= λ u. some (JumpIfNot o f.target)) i e in
      let u = bound (read_zeros l) (λ u. some (JumpIfNot o.it f.target)) i o.next in
      let z = all_zero_lem l u.first in
      let q : JumpIfNot o.it f.target ≡ i = cc u.next in
      rw (← q) (same_fields f 10 0 (some o.it) nothing f.target 0 h z.0 o.first (tag-none f.second z.1.0) refl z.1.1.0)

  comment_reads : ReadsKind 12 read_comment
  unfolding read_comment fields_of
  comment_reads f h i e =
      let l = f.operator ∷ tag_of f.first ∷ tag_of f.second ∷ f.target ∷ [] in
      let u = bound (read_zeros l) (λ u. some (Comment f.record_word)) i e in
      let z = all_zero_lem l u.first in
      let q : Comment f.record_word ≡ i = cc u.next in
      rw (← q) (same_fields f 12 0 nothing nothing 0 f.record_word h z.0 (tag-none f.first z.1.0) (tag-none f.second z.1.1.0)
      z.1.1.1.0 refl)

  instr_is : (f : Fields) (i : Instr) → read_instr vs f ≡ some i → fields_of i ≡ f
  unfolding read_instr read_arg read_return read_label read_jump fields_of
  instr_is f i e = from_at ReadsKind no_instr
      (no_instr ∷ read_copy ∷ read_unary ∷ read_binary ∷ read_cast ∷ read_zero ∷ read_arg ∷ read_call ∷ read_label ∷ read_jump ∷ read_jump_if_not ∷ read_return ∷ read_comment ∷ [])
      0 f.kind f.kind no_reads (
        no_reads 0,
        (
          copy-reads,
          (
            unary-reads,
            (
              binary-reads,
              (
                cast-reads,
                (
                  zero-reads,
                  (
                    operand-reads 6 Arg (λ o. refl),
                    (
                      call-reads,
                      (
                        label_reads 8 Label (λ l. refl),
                        (
                          label_reads 9 Jump (λ l. refl),
                          (
                            jump_if_not-reads,
                            (
                              operand-reads 11 Return (λ o. refl),
                              (comment_reads, tt),
                            ),
                          ),
                        ),
                      ),
                    ),
                  ),
                ),
              ),
            ),
          ),
        ),
      ) (omega arith) f refl i e

  -- bytes that are read as i are those that i is written as
  pub instr_exact : (b : List ℕ) (i : Instr) → All Byte b → 32 ≤ length b → instr_in vs b ≡ some i → take 32 b ≡ encode_instr i
  unfolding instr_in encode_instr
  instr_exact b i bytes h e =
      let f = bound (fields_at vs b) (λ f. read_instr vs f) i e in
      fields_is b f.it bytes h f.first ∙ sym (ap encode_fields (instr_is f.it i f.next))
