-- A name of the tree declared: what stays of the scratch, and the scope with one name more.
-- By what `declare` owes: its entry stands behind the open names, and its place at the slot of its number, which no open name has. Assumes nothing.
use mathlib.Core.Path.{◌≡◌, sym, ap, ◌∙◌, subst}
use mathlib.Core.Logic.{◌⊎◌, inl, inr}
use mathlib.Core.Bool.{Bool, true, false≢true}
use mathlib.Core.List.{List}
use Prim.Native.Nat.{ℕ, ◌+◌, ◌*◌, ◌/◌, ◌≤◌, ◌<◌}
use native.Mathlib.Decide.{dec_lt}
use native.Mathlib.Omega.{arith}
use lib.ListN.{length, get_or}
use borrow.Author.Tests.{eq-eqb}
use Rattle.laws.specs.Splice.{splice}
use Rattle.records.specs.Words.{byte_at, word_at, word_of, records, A, B}
use Rattle.records.proofs.Apart.{byte-apart, word-apart}
use Rattle.syntax.specs.Places.{TypeAt}
use Rattle.conversion.specs.Scope.{Variable}
use Rattle.conversion.specs.Written.{word}
use Rattle.ir.specs.declared.structs.VarId.{VarId}
use Rattle.scope.specs.declared.Scope.{Scope}
use Rattle.scope.specs.Open.{words_are, name_slot_at, name_entry, NameAfforded, Added}
use Rattle.scope.proofs.ScopeLaws.{entry-long, place-long, entry-fits, slot-fits, added-long, added-entry, added-room}
use Rattle.texts.specs.Texts.{original_at}
use Rattle.expressions.specs.Slots.{original_of, original_word, Original, Scoped, Asked, Ready}
use Rattle.expressions.proofs.OriginalLaws.{original-stays, origin_below}
use Rattle.statements.specs.Converting.{Stays}
use Rattle.statements.specs.Turns.{TurnsStay}
use Rattle.statements.proofs.StayLaws.{original_word_lem, scoped_stays, keyed_stays}

module _ {tree text s s' : List ℕ} {sc sc' : Scope} {r : ℕ} {v : VarId} {constant : Bool} (q : Asked tree text s sc r) (f : NameAfforded sc v)
    (a : Added text (original_of tree s r) (original_word tree s r A) (original_word tree s r B) v constant sc s s' sc') where
  abbrev number : ℕ
  number = original_of tree s r

  abbrev place : ℕ
  place = 8 * sc.records + 16 * sc.names

  abbrev slot : ℕ
  slot = name_slot_at sc.records number

  abbrev entry : List ℕ
  entry = name_entry (original_word tree s r A) (original_word tree s r B) v constant

  is-records : sc.records ≡ records tree
  is-records = q.scoped.records_are

  inside : number < sc.records
  inside = rw is-records (origin_below q)

  first_fits_lem : place + length entry ≤ length s
  first_fits_lem = entry-fits number (original_word tree s r A) (original_word tree s r B) v constant sc s q.scoped.room f

  then_fits : slot + length (word sc.names) ≤ length (splice s place entry)
  then_fits = slot-fits number (original_word tree s r A) (original_word tree s r B) v constant sc s q.scoped.room f inside

  -- ---- bytes and words apart from the entry and the slot

  pub added-byte : (i : ℕ) → (i < place) ⊎ (place + 16 ≤ i) → (i < slot) ⊎ (slot + 4 ≤ i) → byte_at s' i ≡ byte_at s i
  unfolding byte_at
  added-byte i x y =
      ap (λ (z : List ℕ). get_or z i 0) a.written
      ∙ byte-apart (splice s place entry) slot (word sc.names) then_fits i (rw (place-long sc.names) y)
      ∙ byte-apart s place entry first_fits_lem i (rw (entry-long (original_word tree s r A) (original_word tree s r B) v constant) x)

  word_at_lem : (p : ℕ) → (p + 4 ≤ place) ⊎ (place + 16 ≤ p) → (p + 4 ≤ slot) ⊎ (slot + 4 ≤ p) → word_at s' p ≡ word_at s p
  word_at_lem p x y =
      ap (λ (z : List ℕ). word_at z p) a.written
      ∙ word-apart (splice s place entry) slot (word sc.names) then_fits p (rw (place-long sc.names) y)
      ∙ word-apart s place entry first_fits_lem p (rw (entry-long (original_word tree s r A) (original_word tree s r B) v constant) x)

  number-stays : (t : ℕ) → t < records tree → original_of tree s' t ≡ original_of tree s t
  number-stays t h = word_at_lem (original_at (records tree) t) (inr (omega (arith, is-records, f.names))) (inl (omega (arith, is-records)))

  -- the number of an open name is another: else the name would have the words of the new one
  other-number : (j : ℕ) → j < sc.names → (x : Original tree s j) → original_of tree s x.of ≡ number → ⊥
  unfolding words_are
  other-number j h x e =
      let offset : original_word tree s r A ≡ word_at s (8 * sc.records + 16 * j) =
      sym (ap (λ (n : ℕ). word_at s (8 * n + 16 * j)) is-records ∙ x.offset ∙ ap (λ (o : ℕ). word_of tree o A) e) in
      let len : original_word tree s r B ≡ word_at s (8 * sc.records + 16 * j + 4) =
      sym (ap (λ (n : ℕ). word_at s (8 * n + 16 * j + 4)) is-records ∙ x.len ∙ ap (λ (o : ℕ). word_of tree o B) e) in
      let same : words_are s sc.records (original_word tree s r A) (original_word tree s r B) j ≡ true = rw (eq-eqb _ _ offset) (eq-eqb _ _ len) in
      false≢true (sym (a.new j h) ∙ same)

  side : (m n : ℕ) → (m ≡ n → ⊥) → Dec (m < n) → (60 * records tree + 4 * m + 4 ≤ 60 * records tree + 4 * n) ⊎ (60 * records tree + 4 * n + 4 ≤ 60 * records tree + 4 * m)
  side m n e (yes h) = inl (omega (arith, h))
  side m n e (no h) = inr (omega (arith, h, e))

  told : (j : ℕ) → j < sc.names → Original tree s j → Original tree s' j
  told j h x =
      let o = original_of tree s x.of in
      original-stays tree s s' number-stays j x
      (word_at_lem (8 * records tree + 16 * j) (inl (omega (arith, is-records, h))) (inl (omega (arith, is-records, h, f.names))))
      (word_at_lem (8 * records tree + 16 * j + 4) (inl (omega (arith, is-records, h))) (inl (omega (arith, is-records, h, f.names))))
      (word_at_lem (name_slot_at (records tree) o) (inr (omega (arith, is-records, f.names)))
      (rw is-records (side o number (other-number j h x) (dec_lt o number))))

  -- ---- what stays

  pub added-stays : (operands : ℕ) → Stays tree sc.names operands s s'
  added-stays operands = record {
    long = added-long number (original_word tree s r A) (original_word tree s r B) v constant sc s q.scoped.room f inside s' a.written;
    listed = λ i h. added-byte i (inl (omega (arith, is-records))) (inl (omega (arith, is-records)));
    names_open = λ i b d e. added-byte i (inl (omega (arith, is-records))) (inl (omega (arith, is-records)));
    stack = λ i b d e. added-byte i (inr (omega (arith, is-records, f.names))) (inl (omega (arith, is-records)));
    behind = λ i b d. added-byte i (inr (omega (arith, is-records, f.names))) (inl (omega (arith, is-records)));
    told = λ j h i x. told j h x;
  }

  -- nothing was typed
  pub added-turns : TurnsStay tree s s'
  added-turns = record {
    slots = λ i b d. added-byte i (inl (omega (arith, is-records))) (inl (omega (arith, is-records)));
    behind = λ i b. added-byte i (inr (omega (arith, is-records, f.names))) (inr (omega (arith, is-records, inside)));
  }

  -- ---- the scope with the name: those from before, and the innermost

  module _ (typed : TypeAt tree v.1) where
    kept : Scoped tree s' sc
    kept = scoped_stays tree (added-stays 0) sc (omega arith) q.scoped

    last-type : word_at s' (8 * records tree + 16 * sc.names + 12) / 2 ≡ v.1
    last-type =
        rw (← is-records)
        (ap (λ (x : Variable). x.var_id.ty) (added-entry tree text number (original_word tree s r A) (original_word tree s r B) v constant sc s s' sc' a))

    types_more : (j : ℕ) → j < sc.names + 1 → Dec (j < sc.names) → TypeAt tree (word_at s' (8 * records tree + 16 * j + 12) / 2)
    types_more j h (yes i) = kept.types j i
    types_more j h (no i) = let z : j ≡ sc.names = omega (arith, h, i) in rw (z, last-type) typed

    -- its words are those of the lowest record with its text, whose slot says it
    last-named : Original tree s' sc.names
    last-named = record {
      of = r;
      below = q.below;
      has_its_text = q.has_its_text;
      inside = rw (number-stays r q.below) (origin_below q);
      offset = ap (λ (n : ℕ). word_at s' (8 * n + 16 * sc.names)) (sym is-records) ∙ a.offset_is ∙ sym (original_word_lem tree (added-stays 0) r A q.below);
      len = ap (λ (n : ℕ). word_at s' (8 * n + 16 * sc.names + 4)) (sym is-records) ∙ a.length_is ∙ sym (original_word_lem tree (added-stays 0) r B q.below);
      slot = ap (λ (o : ℕ). word_at s' (name_slot_at (records tree) o)) (number-stays r q.below)
          ∙ ap (λ (n : ℕ). word_at s' (name_slot_at n number)) (sym is-records) ∙ a.slot_is;
    }

    named_more : (j : ℕ) → j < sc.names + 1 → Dec (j < sc.names) → Original tree s' j
    named_more j h (yes i) = kept.named j i
    named_more j h (no i) = let z : j ≡ sc.names = omega (arith, h, i) in subst (Original tree s') (sym z) last-named

    pub added-ready : Ready tree text s sc → Ready tree text s' sc'
    added-ready k = record {
      keyed = keyed_stays tree (added-stays 0) text k.keyed;
      scoped = record {
        records_are = rw a.scope is-records;
        room = added-room tree text number (original_word tree s r A) (original_word tree s r B) v constant sc s s' sc' a q.scoped.room f inside;
        types = λ j h. types_more j (rw a.scope at h) (dec_lt j sc.names);
        named = λ j h. named_more j (rw a.scope at h) (dec_lt j sc.names);
      };
    }
