-- A float read back: the words of an entry are its bits and its mark, `float_bits` is two of them, and the entry that `float_id` numbers is the one asked for.
-- By the table's law, and by where the search finds it. Assumes nothing.
use mathlib.Core.Path.{◌≡◌, refl, sym, ap, ◌∙◌, subst}
use mathlib.Core.Bool.{Bool, true, false}
use mathlib.Core.List.{List, [], ◌∷◌, ◌++◌}
use mathlib.Core.Option.{Option, none, some}
use Prim.Native.Nat.{ℕ, zero, suc, ◌+◌, ◌*◌, ◌≤◌, ◌<◌}
use native.Mathlib.Omega.{arith}
use lib.Dec.{eqb}
use lib.ListN.{length, get_or, length-append}
use lib.Seq.{get_or-append-add}
use Rattle.records.specs.Words.{word_at}
use Rattle.conversion.specs.Ir.{FloatEntry, position, numbered, same_float, float_id, float_bits}
use Rattle.conversion.specs.Written.{bool_number}
use Rattle.ir.specs.declared.structs.Counters.{Counters}
use Rattle.ir.specs.declared.structs.WithCounters.{WithCounters}
use Rattle.ir.specs.Arena.{NumberedTexts, TablesSoFar, no_float, Holds, Room}
use Rattle.ir.specs.Floats.{bits_of_float, entry, entry_of_float}
use Rattle.ir.specs.declared.floats.FloatEntry as Code
use Rattle.ir.specs.declared.floats.FloatBits.TheVariants.{Number, Nan}
use Rattle.ir.specs.Steps.{grown, Stands, Next, NumbersFloat}
use Rattle.ir.proofs.EntryLinks.{same-entry}
use Rattle.ir.proofs.Kept.{with_float, no_code}
use Rattle.ir.proofs.ReadBack.{FloatAt, floats_at}
use Rattle.ir.proofs.SearchLaws.{position_hit}

-- ---- the bits and the mark, from the words

pub bits-read : (l : List ℕ) (p : ℕ) (x : FloatEntry) → FloatAt l p x → word_at l p + word_at l (p + 4) * 4294967296 ≡ x.bits
bits-read l p x a = omega (arith, a.low, a.high)

mark_is : (b : Bool) → eqb (bool_number b) 1 ≡ b
unfolding bool_number
mark_is true = refl
mark_is false = refl

pub short-read : (l : List ℕ) (p : ℕ) (x : FloatEntry) → FloatAt l p x → eqb (word_at l (p + 8)) 1 ≡ x.short
short-read l p x a = ap (λ (w : ℕ). eqb w 1) a.mark ∙ mark_is x.short

past_end : (l : List FloatEntry) (i : ℕ) → length l ≤ i → get_or l i no_float ≡ no_float
past_end [] i h = refl
past_end (x ∷ l) zero h = absurd (omega arith)
past_end (x ∷ l) (suc i) h = past_end l i (omega arith)

-- `float_bits` of an entry that is counted: its first two words; past the last it is 0
module _ (k : Counters) (l : List ℕ) (i : ℕ) (room : Room k l) where
  bits_are : (b : ℕ) → ((texts : NumberedTexts) (t : TablesSoFar) → Holds texts t k l → b ≡ (get_or t.state.floats i no_float).bits) → Next (float_bits i) k l b k l
  unfolding Stands float_bits
  bits_are b f = record {
    room = room;
    records = refl;
    stands = λ texts t h. (f texts t h, no_code texts t k l room h t.state k l h);
  }

  pub bits-next : i < k.floats → Next (float_bits i) k l (word_at l (204 * k.records + 16 * i) + word_at l (204 * k.records + 16 * i + 4) * 4294967296) k l
  bits-next h = bits_are _ (λ texts t holds. bits-read l (204 * k.records + 16 * i) (get_or t.state.floats i no_float)
      (floats_at texts t k l holds i (omega (arith, holds.floats_hold.count))))

  -- as the code loads them
  pub bits_loaded : (x y : ℕ) → i < k.floats → x ≡ word_at l (204 * k.records + 16 * i) → y ≡ word_at l (204 * k.records + 16 * i + 4)
      → Next (float_bits i) k l (x + y * 4294967296) k l
  bits_loaded x y h ex ey = rw (ex, ey) (bits-next h)

  pub bits_none : k.floats ≤ i → Next (float_bits i) k l 0 k l
  bits_none h = bits_are 0 (λ texts t holds. ap (λ (x : FloatEntry). x.bits) (sym (past_end t.state.floats i (omega (arith, holds.floats_hold.count)))))

-- ---- what `float_id` wrote, or found

module _ (e : FloatEntry) (texts : NumberedTexts) (t : TablesSoFar) (x : ℕ) (k' : Counters) (l' : List ℕ) where
  abbrev fs : List FloatEntry
  fs = t.state.floats

  last_entry : get_or (fs ++ (e ∷ [])) (length fs) no_float ≡ e
  last_entry =
      let z : length fs ≡ length fs + 0 = omega arith in
      ap (λ (m : ℕ). get_or (fs ++ (e ∷ [])) m no_float) z ∙ get_or-append-add fs (e ∷ []) 0 no_float

  numbered-at : (o : Option ℕ) → position (same_float e) fs ≡ o → Stands (numbered o t.state (with_float e t.state) (length fs)) x texts t k' l'
      → FloatAt l' (204 * k'.records + 16 * x) e
  unfolding Stands numbered
  numbered-at (some i) q h =
      let hit = position_hit (same_float e) no_float fs i q in
      subst (λ (m : ℕ). FloatAt l' (204 * k'.records + 16 * m) e) (sym h.0)
      (subst (FloatAt l' (204 * k'.records + 16 * i)) (same-entry e (get_or fs i no_float) hit.holds)
      (floats_at texts (grown t [] t.state) k' l' h.1 i hit.below))
  numbered-at none q h =
      subst (λ (m : ℕ). FloatAt l' (204 * k'.records + 16 * m) e) (sym h.0)
      (subst (FloatAt l' (204 * k'.records + 16 * length fs)) last_entry
      (floats_at texts (grown t [] (with_float e t.state)) k' l' h.1 (length fs) (rw length-append (omega arith))))

-- the entry of the number that it gives is the float that was asked for
pub float_made : (e : FloatEntry) (texts : NumberedTexts) (t : TablesSoFar) (k : Counters) (l : List ℕ) (r : WithCounters ℕ) (l' : List ℕ) → Holds texts t k l
    → NumbersFloat e k l r l' → FloatAt l' (204 * k.records + 16 * r.value) e
unfolding float_id
float_made e texts t k l r l' h m =
    subst (λ (n : ℕ). FloatAt l' (204 * n + 16 * r.value) e) m.next.records
    (numbered-at e texts t r.value r.counters l' (position (same_float e) t.state.floats) refl (m.next.stands texts t h))

-- a number: the bits of its f64; a NaN: the bits that it came with
module _ (texts : NumberedTexts) (t : TablesSoFar) (k : Counters) (l : List ℕ) (r : WithCounters ℕ) (l' : List ℕ) (h : Holds texts t k l) where
  pub number-made : (f : Code.FloatEntry) → NumbersFloat (entry_of_float (Number f)) k l r l'
      → FloatAt l' (204 * k.records + 16 * r.value) (entry (bits_of_float f.value) f.short)
  unfolding entry_of_float
  number-made f m = float_made (entry_of_float (Number f)) texts t k l r l' h m

  pub nan_made : (b : ℕ) (short : Bool) → NumbersFloat (entry_of_float (Nan b short)) k l r l' → FloatAt l' (204 * k.records + 16 * r.value) (entry b short)
  unfolding entry_of_float
  nan_made b short m = float_made (entry_of_float (Nan b short)) texts t k l r l' h m
