-- What typing leaves of the scratch: the frame outside the slots keeps the functions' list, the open names and the texts' numbers; a word that is written.
-- By the bytes of a splice. Assumes nothing.
use mathlib.Core.Path.{◌≡◌, refl, sym, ◌∙◌, subst}
use mathlib.Core.Logic.{◌⊎◌, inl, inr}
use mathlib.Core.List.{List}
use Prim.Native.Nat.{ℕ, ◌+◌, ◌*◌, ◌/◌, ◌^◌, ◌≤◌, ◌<◌}
use native.Mathlib.Omega.{arith}
use lib.ListN.{length, get_or}
use Rattle.laws.specs.Splice.{splice}
use Rattle.laws.proofs.Splices.{length-splice}
use Rattle.records.specs.Words.{byte_at, word_at, records}
use Rattle.records.proofs.WordLaws.{word-length}
use Rattle.conversion.specs.Written.{bytes_of, word}
use Rattle.scope.specs.declared.Scope.{Scope}
use Rattle.scope.specs.Open.{name_slot_at, scope_at}
use Rattle.records.proofs.Apart.{byte-apart, word-apart, word-there, word_same, word_back}
use Rattle.scope.proofs.ScopeLaws.{Kept, scope_kept}
use Rattle.syntax.specs.Places.{TypeAt}
use Rattle.keys.specs.Keys.{Keyed}
use Rattle.keys.proofs.ChainLaws.{keyed-kept}
use Rattle.texts.specs.Texts.{original_at}
use Rattle.expressions.proofs.OriginalLaws.{original-stays}
use Rattle.expressions.specs.Slots.{original_of, Original, Scoped, Frame, Ready}

-- ---- a word that is written

word_read : (v : ℕ) → v < 2 ^ 32 → word_at (word v) 0 ≡ v
unfolding word bytes_of word_at byte_at
word_read v h = word_back v h

module _ (s : List ℕ) (p v : ℕ) (room : p + 4 ≤ length s) where
  fits : p + length (word v) ≤ length s
  fits = rw (word-length v) room

  pub put_long : length (splice s p (word v)) ≡ length s
  put_long = length-splice s p (word v) fits

  pub put_byte : (i : ℕ) → (i < p) ⊎ (p + 4 ≤ i) → byte_at (splice s p (word v)) i ≡ byte_at s i
  unfolding byte_at
  put_byte i h = byte-apart s p (word v) fits i (rw (word-length v) h)

  pub put_other : (q : ℕ) → (q + 4 ≤ p) ⊎ (p + 4 ≤ q) → word_at (splice s p (word v)) q ≡ word_at s q
  put_other q h = word-apart s p (word v) fits q (rw (word-length v) h)

  pub put_here : v < 2 ^ 32 → word_at (splice s p (word v)) p ≡ v
  put_here h = word-there s p (word v) fits 0 p (omega arith) (omega (arith, word-length v)) ∙ word_read v h

-- ---- the frame

pub frame_refl : (tree s : List ℕ) → Frame tree s s
frame_refl tree s = record { same_length = refl; outside = λ i h. refl }

pub frame_trans : {tree s s₁ s₂ : List ℕ} → Frame tree s s₁ → Frame tree s₁ s₂ → Frame tree s s₂
frame_trans f g = record { same_length = g.same_length ∙ f.same_length; outside = λ i h. g.outside i h ∙ f.outside i h }

module _ (tree s s' : List ℕ) (f : Frame tree s s') where
  outside-all : (p : ℕ) → (p + 4 ≤ 4 * records tree) ⊎ ((8 * records tree ≤ p) × (p + 4 ≤ 64 * records tree)) → (j q : ℕ) → q ≡ p + j → j < 4
      → (q < 4 * records tree) ⊎ ((8 * records tree ≤ q) × (q < 64 * records tree))
  outside-all p (inl h) j q e k = inl (omega arith)
  outside-all p (inr h) j q e k = inr (omega (arith, h.0), omega (arith, h.1))

  pub frame-word : (p : ℕ) → (p + 4 ≤ 4 * records tree) ⊎ ((8 * records tree ≤ p) × (p + 4 ≤ 64 * records tree)) → word_at s' p ≡ word_at s p
  unfolding byte_at
  frame-word p h =
      let at : (j q : ℕ) → q ≡ p + j → j < 4 → get_or s' q 0 ≡ get_or s q 0 = λ j q e k. f.outside q (outside-all p h j q e k) in
      word_same s' p s p
      (at 0 p (omega arith) (omega arith))
      (at 1 (p + 1) refl (omega arith))
      (at 2 (p + 2) refl (omega arith))
      (at 3 (p + 3) refl (omega arith))

  -- the open names lie between the slots and the turns
  pub names-frame : (sc : Scope) → Scoped tree s sc → Kept sc.records sc.names s s'
  unfolding byte_at
  names-frame sc k = record {
    bytes = λ j a b. f.outside j (inr (omega (arith, a, k.records_are), omega (arith, b, k.records_are, k.room.names_in)));
    long = f.same_length;
  }

  pub scope-frame : (text : List ℕ) (sc : Scope) → Scoped tree s sc → scope_at tree text s' sc ≡ scope_at tree text s sc
  scope-frame text sc k = scope_kept tree text s s' sc (names-frame sc k)

  number-frame : (r : ℕ) → r < records tree → word_at s' (original_at (records tree) r) ≡ word_at s (original_at (records tree) r)
  number-frame r h = frame-word (original_at (records tree) r) (inr (omega arith, omega arith))

  -- an open name, whose slot lies there too
  pub original-frame : (j : ℕ) → j < records tree → Original tree s j → Original tree s' j
  original-frame j h x =
      original-stays tree s s' number-frame j x
      (frame-word (8 * records tree + 16 * j) (inr (omega arith, omega arith)))
      (frame-word (8 * records tree + 16 * j + 4) (inr (omega arith, omega arith)))
      (frame-word (name_slot_at (records tree) (original_of tree s x.of)) (inr (omega arith, omega (arith, x.inside))))

  pub scoped-frame : (sc : Scope) → Scoped tree s sc → Scoped tree s' sc
  scoped-frame sc k = record {
    records_are = k.records_are;
    room = record { scratch = omega (arith, k.room.scratch, f.same_length); names_in = k.room.names_in };
    types = λ j h. subst (λ (w : ℕ). TypeAt tree (w / 2)) (sym (name-word j 12 (8 * records tree + 16 * j + 12) h (omega arith) (omega arith))) (k.types j h);
    named = λ j h. original-frame j (omega (arith, h, k.records_are, k.room.names_in)) (k.named j h);
  }
    where
      name-word : (j i p : ℕ) → j < sc.names → i ≤ 12 → p ≡ 8 * records tree + 16 * j + i → word_at s' p ≡ word_at s p
      name-word j i p h l e = frame-word p (inr (omega arith, omega (arith, k.records_are, k.room.names_in)))

  pub keyed-frame : (text : List ℕ) → Keyed tree text s → Keyed tree text s'
  keyed-frame text = keyed-kept tree text s s' f.same_length (λ p h. frame-word p (inl h)) (λ p a b. frame-word p (inr (omega arith, omega arith)))

  pub ready-frame : (text : List ℕ) (sc : Scope) → Ready tree text s sc → Ready tree text s' sc
  ready-frame text sc k = record { keyed = keyed-frame text k.keyed; scoped = scoped-frame sc k.scoped }
