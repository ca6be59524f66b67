-- The loops over the values of a call: what is left owes what the whole owes, when they are emitted and when they are fitted in place.
-- By one turn and the end; a turn writes one entry of the stack, and the entries before and behind it stay. Assumes nothing.
use mathlib.Core.Path.{◌≡◌, refl, sym, ap, ◌∙◌, subst}
use mathlib.Core.Logic.{inr}
use mathlib.Core.List.{List, [], ◌∷◌, ◌++◌, append_assoc, append-nil}
use Prim.Native.Nat.{ℕ, zero, suc, ◌+◌, ◌-◌, ◌*◌, ◌≤◌, ◌<◌}
use native.Mathlib.Omega.{arith}
use lib.ListN.{length, get_or}
use Rattle.laws.specs.Splice.{splice}
use Rattle.records.specs.Words.{word_at, word_of, records, C}
use Rattle.records.specs.Good.{Good}
use Rattle.syntax.specs.Syntax.{Args, Function, Program}
use Rattle.syntax.specs.Decode.{program}
use Rattle.syntax.specs.Places.{IsKind, ArgsAt, ParamsAt, args_at, params_at}
use Rattle.conversion.specs.Ir as Ir
use Rattle.conversion.specs.Ir.{Arg, M, ◌>>=◌, ◌>>◌, pure, emit}
use Rattle.conversion.specs.Statements.{fit_operand, fit_from, fit_args, emit_args, parameter_type, value_position, expected_type}
use Rattle.ir.specs.declared.structs.Counters.{Counters}
use Rattle.ir.specs.declared.structs.Operand.{Operand}
use Rattle.ir.specs.Amounts.{amount}
use Rattle.ir.specs.Instructions.{operand_of}
use Rattle.ir.specs.Steps.{Emits}
use Rattle.records.proofs.Apart.{byte-apart, word_same}
use Rattle.expressions.proofs.TypingLaws.{call-list}
use Rattle.statements.specs.Lent.{Fitted}
use Rattle.statements.specs.Stack.{operand_bytes, stack_entry_at, operand_at, stack_at}
use Rattle.statements.specs.Converting.{RoomFor, OperandIn, StackIn, Stays}
use Rattle.statements.specs.Meets.{Adds}
use Rattle.statements.specs.Parts.{pass_args}
use Rattle.statements.specs.declared.answers.AtValue.{AtValue}
use Rattle.statements.specs.Answers.{FitAdds, FirstValue}
use Rattle.statements.specs.Turns.{TurnsStay}
use Rattle.statements.proofs.MeetLaws.{adds_then, adds_seq, adds-pure, adds-most, adds_same}
use Rattle.statements.proofs.StayLaws.{stays_refl, stays_then, operand-stays, stack-kept}
use Rattle.statements.proofs.StackLaws.{operand-long, stack-last}
use Rattle.statements.proofs.TurnLaws.{turns_refl, turns_then, turns-entry}

-- ---- the stack from an entry on

-- the first of what is left, and the rest
split : (s : List ℕ) (n first j count : ℕ) → j < count
    → stack_at s n (first + j) (count - j) ≡ operand_at s n (first + j) ∷ stack_at s n (first + (j + 1)) (count - (j + 1))
unfolding stack_at
split s n first j count h =
    let a : count - j ≡ suc (count - (j + 1)) = omega arith in
    let b : suc (first + j) ≡ first + (j + 1) = omega arith in
    ap (λ (x : ℕ). stack_at s n (first + j) x) a ∙ ap (λ (x : ℕ). operand_at s n (first + j) ∷ stack_at s n x (count - (j + 1))) b

-- nothing is left
over : (s : List ℕ) (n first j count : ℕ) → count ≤ j → stack_at s n (first + j) (count - j) ≡ []
unfolding stack_at
over s n first j count h = let a : count - j ≡ 0 = omega arith in ap (λ (x : ℕ). stack_at s n (first + j) x) a

-- all is left
whole : (s : List ℕ) (n first count : ℕ) → stack_at s n (first + 0) (count - 0) ≡ stack_at s n first count
whole s n first count =
    let a : first + 0 ≡ first = omega arith in
    let b : count - 0 ≡ count = omega arith in
    ap (λ (x : ℕ). stack_at s n x (count - 0)) a ∙ ap (λ (x : ℕ). stack_at s n first x) b

-- ---- emitting

pub record EmitLeft (s : List ℕ) (n first count : ℕ) (k₀ : Counters) (l₀ : List ℕ) (j : ℕ) (k : Counters) (l : List ℕ) : Type 0 where
  pub most : j ≤ count
  pub room : RoomFor k l (amount (count - j) 0 0 0 0)
  pub rest : (k' : Counters) (l' : List ℕ) → Adds (emit_args (stack_at s n (first + j) (count - j))) (amount (count - j) 0 0 0 0) k l tt k' l'
      → Adds (emit_args (stack_at s n first count)) (amount count 0 0 0 0) k₀ l₀ tt k' l'

module _ (s : List ℕ) (n first count : ℕ) (k₀ : Counters) (l₀ : List ℕ) (j : ℕ) (k : Counters) (l : List ℕ) (x : EmitLeft s n first count k₀ l₀ j k l) where
  pub emit-turn : j < count → (o : Ir.Operand) → o ≡ operand_at s n (first + j) → (k₁ : Counters) (l₁ : List ℕ) → length l₁ ≡ length l
      → Emits (Arg o) k l k₁ l₁ → EmitLeft s n first count k₀ l₀ (j + 1) k₁ l₁
  unfolding emit_args
  emit-turn h o eo k₁ l₁ long e = record {
    most = omega arith;
    room = record { room = e.next.room; affords = omega (arith, x.room.affords, e.spent) };
    rest = λ k' l' a. x.rest k' l' (adds_same (sym (ap emit_args (split s n first j count h)))
        (adds-most (adds_seq (emit_args (stack_at s n (first + (j + 1)) (count - (j + 1))))
        (subst (λ (z : Ir.Operand). Adds (emit (Arg z)) (amount 1 0 0 0 0) k l tt k₁ l₁) eo (record { next = e.next; spent = e.spent; long = long }))
        a) (omega arith)));
  }

  pub emit_end : count ≤ j → Adds (emit_args (stack_at s n first count)) (amount count 0 0 0 0) k₀ l₀ tt k l
  unfolding emit_args
  emit_end h = x.rest k l (adds_same (sym (ap emit_args (over s n first j count h))) (adds-most (adds-pure tt k l x.room.room) (omega arith)))

-- ---- an entry is written

module _ (s s' : List ℕ) (n i : ℕ) (o : Ir.Operand) (e : s' ≡ splice s (stack_entry_at n i) (operand_bytes o)) (fits : 72 * n ≤ length s) (low : i < n) where
  byte : (q : ℕ) → stack_entry_at n i + 16 ≤ q → get_or s' q 0 ≡ get_or s q 0
  byte q h = ap (λ (x : List ℕ). get_or x q 0) e ∙ byte-apart s (stack_entry_at n i) (operand_bytes o) (omega (arith, operand-long o)) q (inr (omega (arith, operand-long o)))

  word-behind : (p : ℕ) → stack_entry_at n i + 16 ≤ p → word_at s' p ≡ word_at s p
  word-behind p h = word_same s' p s p (byte p h) (byte (p + 1) (omega arith)) (byte (p + 2) (omega arith)) (byte (p + 3) (omega arith))

  -- the entries behind it
  pub entry-behind : (j : ℕ) → i < j → operand_at s' n j ≡ operand_at s n j
  unfolding operand_at
  entry-behind j h =
      let p : ℕ = stack_entry_at n j in
      rw (word-behind p (omega arith), word-behind (p + 4) (omega arith), word-behind (p + 8) (omega arith), word-behind (p + 12) (omega arith))

  stack-behind : (count j : ℕ) → i < j → stack_at s' n j count ≡ stack_at s n j count
  unfolding stack_at
  stack-behind zero j h = refl
  stack-behind (suc count) j h = rw (entry-behind j h, stack-behind count (suc j) (omega arith))

-- ---- fitting, in place

-- the arguments of a call are a list of them
pub first-cells : (tree text : List ℕ) → Good tree text → (e : ℕ) → IsKind tree 11 e → (w : ℕ) → w ≡ word_of tree e C → ArgsAt tree w
first-cells tree text good e x w q = subst (λ (z : ℕ). ArgsAt tree z) (sym q) (call-list tree text good e x)

-- the values before entry first + j are fitted, and the lists from `argument` and `parameter` on have the types for the rest
pub record FitLeft (tree text s₀ : List ℕ) (given : Args) (f : Function) (first count : ℕ) (k₀ : Counters) (l₀ : List ℕ) (j : ℕ) (k : Counters) (l s : List ℕ) (argument parameter : ℕ) : Type 0 where
  pub most : j ≤ count
  pub room : RoomFor k l (amount (count - j) (count - j) 0 0 (count - j))
  pub args : ArgsAt tree argument
  pub params : ParamsAt tree parameter
  pub types : (i : ℕ) → expected_type (params_at tree text parameter) (args_at tree text argument) i ≡ expected_type f.params given (j + i)
  pub operands : (i : ℕ) → first + j ≤ i → i < first + count → OperandIn tree (operand_at s (records tree) i)
  pub stays : (names : ℕ) → names ≤ records tree → Stays tree names first s₀ s
  pub turns : TurnsStay tree s₀ s
  pub rest : (k' : Counters) (l' : List ℕ) (os : List Ir.Operand)
      → Adds (fit_from (program tree text) j (stack_at s (records tree) (first + j) (count - j)) given f) (amount (count - j) (count - j) 0 0 (count - j)) k l os k' l'
      → Adds (fit_args (program tree text) (stack_at s₀ (records tree) first count) given f) (amount count count 0 0 count) k₀ l₀ (stack_at s (records tree) first j ++ os) k' l'

module _ (tree text s₀ : List ℕ) (given : Args) (f : Function) (first count : ℕ) (k₀ : Counters) (l₀ : List ℕ) where
  pub fit_start : (argument parameter : ℕ) → given ≡ args_at tree text argument → ArgsAt tree argument → f.params ≡ params_at tree text parameter → ParamsAt tree parameter
      → RoomFor k₀ l₀ (amount count count 0 0 count) → StackIn tree s₀ first count → FitLeft tree text s₀ given f first count k₀ l₀ 0 k₀ l₀ s₀ argument parameter
  unfolding fit_args stack_at
  fit_start argument parameter ea a ep p h ops = record {
    most = omega arith;
    room = record { room = h.room; affords = omega (arith, h.affords) };
    args = a;
    params = p;
    types = λ i. let z : i ≡ 0 + i = omega arith in ap (λ ps. expected_type ps (args_at tree text argument) i) (sym ep)
        ∙ ap (λ (l : Args). expected_type f.params l i) (sym ea) ∙ ap (expected_type f.params given) z;
    operands = λ i a b. ops i (omega arith) b;
    stays = λ names a. stays_refl tree names first s₀;
    turns = turns_refl tree s₀;
    rest = λ k' l' os a. adds-most (adds_same (ap (λ z. fit_from (program tree text) 0 z given f) (whole s₀ (records tree) first count)) a) (omega arith);
  }

  module _ (j : ℕ) (k : Counters) (l s : List ℕ) (argument parameter : ℕ) (x : FitLeft tree text s₀ given f first count k₀ l₀ j k l s argument parameter) where
    pub fit_end : count ≤ j → Adds (fit_args (program tree text) (stack_at s₀ (records tree) first count) given f) (amount count count 0 0 count) k₀ l₀ (stack_at s (records tree) first count) k l
    unfolding fit_from
    fit_end h =
        let e : j ≡ count = omega (arith, x.most) in
        subst (λ z. Adds (fit_args (program tree text) (stack_at s₀ (records tree) first count) given f) (amount count count 0 0 count) k₀ l₀ z k l)
        (append-nil (stack_at s (records tree) first j) ∙ ap (stack_at s (records tree) first) e)
        (x.rest k l [] (adds_same (sym (ap (λ z. fit_from (program tree text) j z given f) (over s (records tree) first j count h)))
        (adds-most (adds-pure [] k l x.room.room) (omega arith))))

    module _ (more_left : j < count) (room : first + count ≤ records tree) (long : 72 * records tree ≤ length s₀) where
      scratch_long : 72 * records tree ≤ length s
      scratch_long = omega (arith, long, (x.stays 0 (omega arith)).long)

      module _ (o : Operand) (eo : operand_of o ≡ operand_at s (records tree) (first + j)) where
        pub operand_in : OperandIn tree (operand_of o)
        operand_in = rw eo (x.operands (first + j) (omega arith) (omega arith))

        module _ (at : AtValue) (here : FirstValue tree text argument parameter at) (y : ℕ) (ey : y ≡ parameter_type (params_at tree text at.parameter) 0) (r : Fitted) (l₁ : List ℕ)
            (a : FitAdds tree (fit_operand (program tree text) (operand_of o) y) (amount 1 1 0 0 1) k l r l₁)
            (s₁ : List ℕ) (put : s₁ ≡ splice s (stack_entry_at (records tree) (first + j)) (operand_bytes (operand_of r.operand)))
            (back : operand_at s₁ (records tree) (first + j) ≡ operand_of r.operand) where
          fitted : Adds (fit_operand (program tree text) (operand_at s (records tree) (first + j)) (expected_type f.params given j)) (amount 1 1 0 0 1) k l (operand_of r.operand) r.counters l₁
          fitted =
              let z : j + 0 ≡ j = omega arith in
              let t : y ≡ expected_type f.params given j = ey ∙ here.first ∙ x.types 0 ∙ ap (expected_type f.params given) z in
              adds_same (ap (λ (v : Ir.Operand). fit_operand (program tree text) v y) eo ∙ ap (fit_operand (program tree text) (operand_at s (records tree) (first + j))) t) a.adds

          written : (names : ℕ) → names ≤ records tree → Stays tree names (first + j) s s₁
          written names h = operand-stays tree names (first + j) s s₁ (operand_bytes (operand_of r.operand)) (stack_entry_at (records tree) (first + j)) put
              (operand-long (operand_of r.operand)) scratch_long (first + j) refl (omega arith) (omega arith)

          -- what is fitted now, with this one
          grown : (os : List Ir.Operand) → stack_at s (records tree) first j ++ (operand_of r.operand ∷ os) ≡ stack_at s₁ (records tree) first (j + 1) ++ os
          grown os =
              let z : suc j ≡ j + 1 = omega arith in
              let kept : stack_at s₁ (records tree) first j ≡ stack_at s (records tree) first j = stack-kept tree (written 0 (omega arith)) j first (omega arith) (omega arith) in
              sym (ap (λ (n : ℕ). stack_at s₁ (records tree) first n ++ os) (sym z)
              ∙ ap (λ (v : List Ir.Operand). v ++ os) (stack-last s₁ (records tree) first j)
              ∙ append_assoc (stack_at s₁ (records tree) first j) (operand_at s₁ (records tree) (first + j) ∷ []) os
              ∙ rw (kept, back))

          left-same : stack_at s₁ (records tree) (first + (j + 1)) (count - (j + 1)) ≡ stack_at s (records tree) (first + (j + 1)) (count - (j + 1))
          left-same = stack-behind s s₁ (records tree) (first + j) (operand_of r.operand) put scratch_long (omega arith) (count - (j + 1)) (first + (j + 1)) (omega arith)

          step : (k' : Counters) (l' : List ℕ) (os : List Ir.Operand)
              → Adds (fit_from (program tree text) (j + 1) (stack_at s₁ (records tree) (first + (j + 1)) (count - (j + 1))) given f)
              (amount (count - (j + 1)) (count - (j + 1)) 0 0 (count - (j + 1))) r.counters l₁ os k' l'
              → Adds (fit_from (program tree text) j (stack_at s (records tree) (first + j) (count - j)) given f) (amount (count - j) (count - j) 0 0 (count - j)) k l (operand_of r.operand ∷ os) k' l'
          unfolding fit_from
          step k' l' os b =
              let P : Program = program tree text in
              let left : List Ir.Operand = stack_at s (records tree) (first + (j + 1)) (count - (j + 1)) in
              let again : M (List Ir.Operand) = fit_from P (suc j) left given f in
              let z : j + 1 ≡ suc j = omega arith in
              adds_same (sym (ap (λ v. fit_from P j v given f) (split s (records tree) first j count more_left)))
              (adds-most (adds_then (λ (v : Ir.Operand). again >>= (λ (os : List Ir.Operand). pure (v ∷ os))) fitted
              (adds_then (λ (os : List Ir.Operand). pure (operand_of r.operand ∷ os))
              (adds_same (ap (λ v. fit_from P (j + 1) v given f) left-same ∙ ap (λ (v : ℕ). fit_from P v left given f) z) b)
              (adds-pure (operand_of r.operand ∷ os) k' l' b.next.room))) (omega arith))

          pub fit-turn : (v : ℕ) → ParamsAt tree v → ((i : ℕ) → parameter_type (params_at tree text v) i ≡ parameter_type (params_at tree text at.parameter) (suc i))
              → FitLeft tree text s₀ given f first count k₀ l₀ (j + 1) r.counters l₁ s₁ at.rest v
          unfolding expected_type
          fit-turn v p ev = record {
            most = omega arith;
            room = record { room = a.adds.next.room; affords = omega (arith, x.room.affords, a.adds.spent) };
            args = here.args;
            params = p;
            types = λ i. let z : j + suc i ≡ (j + 1) + i = omega arith in
                ev (value_position (args_at tree text at.rest) i) ∙ here.behind i ∙ x.types (suc i) ∙ ap (expected_type f.params given) z;
            operands = λ i h m. subst (λ (w : Ir.Operand). OperandIn tree w)
                (sym (entry-behind s s₁ (records tree) (first + j) (operand_of r.operand) put scratch_long (omega arith) i (omega arith))) (x.operands i (omega arith) m);
            stays = λ names h. stays_then (omega arith) (omega arith) (x.stays names h) (written names h);
            turns = turns_then x.turns (turns-entry tree s s₁ (operand_bytes (operand_of r.operand)) (stack_entry_at (records tree) (first + j)) put
                (operand-long (operand_of r.operand)) (omega arith) (omega arith) (omega (arith, scratch_long)));
            rest = λ k' l' os b. subst (λ w. Adds (fit_args (program tree text) (stack_at s₀ (records tree) first count) given f) (amount count count 0 0 count) k₀ l₀ w k' l')
                (grown os) (x.rest k' l' (operand_of r.operand ∷ os) (step k' l' os b));
          }

-- ---- both

-- the values of a call are fitted, and then an Arg is written for each
pub pass_both : (P : Program) (f : Function) (given : Args) (os vs : List Ir.Operand) (count : ℕ) {k k₁ k₂ : Counters} {l l₁ l₂ : List ℕ}
    → Adds (fit_args P os given f) (amount count count 0 0 count) k l vs k₁ l₁ → Adds (emit_args vs) (amount count 0 0 0 0) k₁ l₁ tt k₂ l₂
    → Adds (pass_args P f given os) (amount (2 * count) count 0 0 count) k l tt k₂ l₂
unfolding pass_args
pass_both P f given os vs count p q = adds-most (adds_then (λ (l : List Ir.Operand). emit_args l) p q) (omega arith)
