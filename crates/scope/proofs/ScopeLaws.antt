-- What callers cite: the scope that the bytes stand for stays while the bytes of its names do, so also when a block is left; and `declare`,
-- `find_variable` and the loop are the definition's. By recursion over the entries, byte for byte, and by unfolding. Assumes nothing.
use mathlib.Core.Path.{◌≡◌, refl, sym, ap, ap₂, ◌∙◌}
use Prim.Native.Nat.{ℕ, zero, suc, ◌+◌, ◌*◌, ◌≤◌, ◌<◌}
use mathlib.Core.Bool.{Bool}
use mathlib.Core.Logic.{inl, inr}
use mathlib.Core.List.{List, ◌∷◌}
use mathlib.Core.Option.{Option, none, some}
use native.Mathlib.Numerals.{add-one}
use native.Mathlib.Omega.{arith}
use lib.ListN.{length, get_or}
use borrow.Author.Tests.{ne_eqb}
use Rattle.laws.specs.Fix.{pick}
use Rattle.laws.specs.Splice.{splice}
use Rattle.laws.proofs.Splices.{length-splice}
use Rattle.records.specs.Words as Words
use Rattle.records.specs.Words.{word_at}
use Rattle.conversion.specs.ConvertError.{ok, err, AlreadyDeclared}
use Rattle.conversion.specs.Scope as Defined
use Rattle.conversion.specs.Scope.{Variable, find_in, find_variable, declare, declare_new, with_variable, with_loop}
use Rattle.conversion.specs.Written.{bytes_of, word}
use Rattle.ir.specs.declared.structs.VarId.{VarId}
use Rattle.ir.specs.Instructions.{var_of}
use Rattle.scope.specs.declared.Scope.{Scope}
use Rattle.std.specs.Prelude.{Option as StdOption, Some, None}
use Rattle.scope.specs.declared.Known.{Known}
use Rattle.scope.specs.Open.{open_variable, variables_at, variables_of, loop_number, scope_at, NamesRoom, IsFound, FindMeets, variable_named, name_slot_at, name_entry, name_added, NameAfforded, Added, Taken, within, loop_of}
use Rattle.records.proofs.Apart.{byte-apart, word_same}

-- ---- bytes that stay

-- the bytes of the first m open names are what they were, and the scratch is as long
pub record Kept (n m : ℕ) (s s' : List ℕ) : Type 0 where
  pub bytes : (j : ℕ) → 8 * n ≤ j → j < 8 * n + 16 * m → get_or s' j 0 ≡ get_or s j 0
  pub long : length s' ≡ length s

pub kept_refl : (n m : ℕ) (s : List ℕ) → Kept n m s s
kept_refl n m s = record { bytes = λ j a b. refl; long = refl }

-- a run written before all names, and one behind the first m
module _ (n m : ℕ) (s : List ℕ) (i : ℕ) (vs s' : List ℕ) (e : s' ≡ splice s i vs) (fit : i + length vs ≤ length s) where
  pub kept-below : i + length vs ≤ 8 * n → Kept n m s s'
  kept-below h = record {
    bytes = λ j a b. ap (λ (x : List ℕ). get_or x j 0) e ∙ byte-apart s i vs fit j (inr (omega arith));
    long = ap length e ∙ length-splice s i vs fit;
  }

  pub kept_above : 8 * n + 16 * m ≤ i → Kept n m s s'
  kept_above h = record {
    bytes = λ j a b. ap (λ (x : List ℕ). get_or x j 0) e ∙ byte-apart s i vs fit j (inl (omega arith));
    long = ap length e ∙ length-splice s i vs fit;
  }

pub room-kept : (s s' : List ℕ) (sc : Scope) → length s' ≡ length s → NamesRoom sc s → NamesRoom sc s'
room-kept s s' sc e r = record { scratch = omega (arith, e, r.scratch); names_in = r.names_in }

-- the same of the whole region, as the layout has it: bytes 8n to 24n
pub region_kept : (s s' : List ℕ) (sc : Scope) → NamesRoom sc s → length s' ≡ length s
    → ((j : ℕ) → 8 * sc.records ≤ j → j < 24 * sc.records → get_or s' j 0 ≡ get_or s j 0) → Kept sc.records sc.names s s'
region_kept s s' sc r e f = record { bytes = λ j a b. f j a (omega (arith, r.names_in)); long = e }

-- ---- the scope that they stand for

module _ (text s s' : List ℕ) (n m : ℕ) (k : Kept n m s s') where
  pub word_kept : (p : ℕ) → 8 * n ≤ p → p + 4 ≤ 8 * n + 16 * m → word_at s' p ≡ word_at s p
  word_kept p a b =
      word_same s' p s p
      (k.bytes p a (omega arith))
      (k.bytes (p + 1) (omega arith) (omega arith))
      (k.bytes (p + 2) (omega arith) (omega arith))
      (k.bytes (p + 3) (omega arith) (omega arith))

  variable-kept : (p : ℕ) → 8 * n ≤ p → p + 16 ≤ 8 * n + 16 * m → open_variable text s' p ≡ open_variable text s p
  variable-kept p a b =
      rw (word_kept p a (omega arith), word_kept (p + 4) (omega arith) (omega arith), word_kept (p + 8) (omega arith) (omega arith), word_kept (p + 12) (omega arith) (omega arith))

  pub variables-kept : (j : ℕ) → j ≤ m → variables_at text s' n j ≡ variables_at text s n j
  unfolding variables_at
  variables-kept zero h = refl
  variables-kept (suc j) h = ap₂ (λ (v : Variable) (l : List Variable). v ∷ l) (variable-kept (8 * n + 16 * j) (omega arith) (omega arith)) (variables-kept j (omega arith))

-- a scope stays while the bytes of its names do: others may write elsewhere, and declare behind them what goes when their block is left
pub scope_kept : (tree text s s' : List ℕ) (sc : Scope) → Kept sc.records sc.names s s' → scope_at tree text s' sc ≡ scope_at tree text s sc
unfolding scope_at
scope_kept tree text s s' sc k = rw (variables-kept text s s' sc.records sc.names k sc.names (omega arith))

-- ---- one name more

pub entry-long : (offset len : ℕ) (v : VarId) (constant : Bool) → length (name_entry offset len v constant) ≡ 16
unfolding word bytes_of
entry-long offset len v constant = refl

pub place-long : (w : ℕ) → length (word w) ≡ 4
unfolding word bytes_of
place-long w = refl

-- the entry is written behind the others, and then the slot of o
module _ (o offset len : ℕ) (v : VarId) (constant : Bool) (sc : Scope) (s : List ℕ) (r : NamesRoom sc s) (f : NameAfforded sc v) where
  -- the scratch with the entry alone
  abbrev pub with_entry : List ℕ
  with_entry = splice s (8 * sc.records + 16 * sc.names) (name_entry offset len v constant)

  pub entry-fits : 8 * sc.records + 16 * sc.names + length (name_entry offset len v constant) ≤ length s
  entry-fits = omega (arith, entry-long offset len v constant, r.scratch, f.names)

  pub with_long : length with_entry ≡ length s
  with_long = length-splice s (8 * sc.records + 16 * sc.names) (name_entry offset len v constant) entry-fits

  module _ (ho : o < sc.records) where
    pub slot-fits : name_slot_at sc.records o + length (word sc.names) ≤ length with_entry
    slot-fits = omega (arith, place-long sc.names, with_long, r.scratch)

    -- the slot lies behind all names
    pub slot_keeps : (s' : List ℕ) → s' ≡ name_added o offset len v constant sc s → Kept sc.records (sc.names + 1) with_entry s'
    slot_keeps s' e =
        kept_above sc.records (sc.names + 1) with_entry (name_slot_at sc.records o) (word sc.names) s' e slot-fits (omega (arith, f.names))

    pub added-long : (s' : List ℕ) → s' ≡ name_added o offset len v constant sc s → length s' ≡ length s
    added-long s' e = (slot_keeps s' e).long ∙ with_long

module _ (tree text : List ℕ) (o offset len : ℕ) (v : VarId) (constant : Bool) (sc : Scope) (s s' : List ℕ) where
  abbrev new : Variable
  new = variable_named text offset len v constant

  module _ (sc' : Scope) (a : Added text o offset len v constant sc s s' sc') where
    pub added-room : NamesRoom sc s → NameAfforded sc v → o < sc.records → NamesRoom sc' s'
    added-room r f h =
        rw a.scope
        (record { scratch = omega (arith, added-long o offset len v constant sc s r f h s' a.written, r.scratch); names_in = omega (arith, f.names) })

    -- the entry behind the others is the variable's
    pub added-entry : open_variable text s' (8 * sc.records + 16 * sc.names) ≡ new
    unfolding variables_at
    added-entry =
        let e : open_variable text s' (8 * sc.records + 16 * sc.names) ∷ variables_at text s' sc.records sc.names ≡ new ∷ variables_of text s sc =
        ap (variables_at text s' sc.records) (sym (add-one sc.names)) ∙ (rw a.scope at a.added) in
        cc

    -- the scope with the variable
    pub scope-more : scope_at tree text s' sc' ≡ with_variable new (scope_at tree text s sc)
    unfolding scope_at with_variable
    scope-more = rw (a.added, a.scope)

    -- done: the definition hands on the scope with the variable, and that is what stands
    pub declare-ok : (p : ℕ) → declare new p (scope_at tree text s sc) ≡ ok (scope_at tree text s' sc')
    unfolding declare declare_new find_variable scope_at
    declare-ok p = rw a.free (ap (λ (x : Defined.Scope). ok x) (sym scope-more))

  -- taken: the definition's error, at the place that is asked for
  pub declare-err : Taken text o offset len v constant sc s s' → (p : ℕ) → declare new p (scope_at tree text s sc) ≡ err AlreadyDeclared p
  unfolding declare declare_new find_variable scope_at
  declare-err t p = rw t.found

-- ---- what is found

-- the definition finds this variable
pub record Finds (u : List ℕ) (d : Defined.Scope) (v : VarId) (constant : Bool) : Type 0 where
  pub holder : Variable
  pub found : find_variable u d ≡ some holder
  pub var : holder.var_id ≡ var_of v
  pub fixed : holder.constant ≡ constant

finds : (u : List ℕ) (d : Defined.Scope) (k : Known) (o : Option Variable) → find_variable u d ≡ o → IsFound (Some k) o → Finds u d k.var k.constant
unfolding IsFound
finds u d k (some x) e f = record { holder = x; found = e; var = sym f.0; fixed = sym f.1 }
finds u d k none e f = absurd f

unknown : (o : Option Variable) → IsFound None o → o ≡ none
unfolding IsFound
unknown (some x) f = absurd f
unknown none f = refl

module _ (tree text s : List ℕ) (sc : Scope) (u : List ℕ) where
  pub find_some : (k : Known) → FindMeets text s sc u (Some k) → Finds u (scope_at tree text s sc) k.var k.constant
  unfolding find_variable scope_at
  find_some k m = finds u (scope_at tree text s sc) k (find_in u (variables_of text s sc)) refl m

  pub find_unknown : FindMeets text s sc u None → find_variable u (scope_at tree text s sc) ≡ none
  unfolding find_variable scope_at
  find_unknown m = unknown (find_in u (variables_of text s sc)) m

-- ---- loops

-- inside the loop of record r
pub scope-loop : (tree text s : List ℕ) (sc : Scope) (r : ℕ) → (r ≡ Words.none → ⊥) → scope_at tree text s (within r sc) ≡ with_loop r (scope_at tree text s sc)
unfolding scope_at with_loop loop_number pick
scope-loop tree text s sc r h = rw (ne_eqb r Words.none h)

-- what `in_loop` answers
pub in_loop_lem : (tree text s : List ℕ) (sc : Scope) (a : StdOption ℕ) → loop_of a ≡ loop_number sc.inner → (scope_at tree text s sc).in_loop ≡ loop_of a
unfolding scope_at
in_loop_lem tree text s sc a e = sym e
