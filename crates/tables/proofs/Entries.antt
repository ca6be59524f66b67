-- A part of a table of entries, each of one size, reads back as the entries that were written there: one law for all tables.
-- By induction on the entries; a table is what stands before the part, the part, and the rest. Assumes nothing.
use mathlib.Core.Path.{◌≡◌, refl, ap, ◌∙◌}
use Prim.Native.Nat.{ℕ, zero, suc, ◌*◌, ◌≤◌}
use native.Mathlib.Nat.{suc-mul, zero-mul, add_comm}
use mathlib.Core.List.{List, [], ◌∷◌, ◌++◌, append_assoc}
use mathlib.Core.Option.{Option, none as nothing, some}
use native.Mathlib.Omega.{arith}
use lib.ListN.{length, drop, get_elem?, length-append}
use lib.Seq.{drop_at, drop-drop}
use Rattle.laws.specs.All.{All}
use Rattle.conversion.specs.Written.{encode_all}
use Rattle.tables.specs.Read.{◌>>=◌, entries, entries_from}

-- ---- lists

pub all-at : {X : Type 0} (P : X → Type 0) (l : List X) (n : ℕ) (x : X) → All P l → get_elem? l n ≡ some x → P x
all-at P [] n x h e = let z : ◌≡◌ {A = ℕ} 0 1 = cc in absurd (omega arith)
all-at P (a ∷ l) zero x h e = let s : a ≡ x = cc in rw s at h.0
all-at P (a ∷ l) (suc n) x h e = all-at P l n x h.1 e

-- a list cut at an element
pub record Cut {X : Type 0} (l : List X) (n : ℕ) (x : X) : Type 0 where
  pub before : List X
  pub after : List X
  pub whole : l ≡ before ++ x ∷ after
  pub place : length before ≡ n

pub cut : {X : Type 0} (l : List X) (n : ℕ) (x : X) → get_elem? l n ≡ some x → Cut l n x
cut [] n x e = let z : ◌≡◌ {A = ℕ} 0 1 = cc in absurd (omega arith)
cut (a ∷ l) zero x e = let s : a ≡ x = cc in record { before = []; after = l; whole = ap (◌∷ l) s; place = refl }
cut (a ∷ l) (suc n) x e =
    let c = cut l n x e in
    record { before = a ∷ c.before; after = c.after; whole = ap (a ∷◌) c.whole; place = ap suc c.place }

pub not_found : {X : Type 0} (l : List X) (n : ℕ) → get_elem? l n ≡ nothing → length l ≤ n
not_found [] n e = omega arith
not_found (a ∷ l) zero e = let z : ◌≡◌ {A = ℕ} 0 1 = cc in absurd (omega arith)
not_found (a ∷ l) (suc n) e = omega (arith, not_found l n e)

-- ---- tables

module _ {X : Type 0} (enc : X → List ℕ) (size : ℕ) (sized : (x : X) → length (enc x) ≡ size) where
  pub encode_length : (l : List X) → length (encode_all enc l) ≡ length l * size
  unfolding encode_all
  encode_length [] = omega arith
  encode_length (x ∷ l) = length-append (enc x) (encode_all enc l) ∙ omega (arith, sized x, encode_length l, suc-mul (length l) size)

  pub encode_append : (a b : List X) → encode_all enc (a ++ b) ≡ encode_all enc a ++ encode_all enc b
  unfolding encode_all
  encode_append [] b = refl
  encode_append (x ∷ a) b = rw (encode_append a b, append_assoc)

  -- past the first entries
  pub drop-entries : (a b : List X) (rest : List ℕ) → drop (length a * size) (encode_all enc (a ++ b) ++ rest) ≡ encode_all enc b ++ rest
  drop-entries a b rest = rw (encode_append a b, append_assoc (encode_all enc a) (encode_all enc b) rest)
      (drop_at (encode_all enc a) (encode_all enc b ++ rest) (length a * size) (encode_length a))

  module _ (P : X → Type 0) (read : List ℕ → Option X) (back : (x : X) (rest : List ℕ) → P x → read (enc x ++ rest) ≡ some x) where
    pub entries_back : (l : List X) (rest : List ℕ) → All P l → entries read size (length l) (encode_all enc l ++ rest) ≡ some l
    unfolding entries encode_all ◌>>=◌
    entries_back [] rest h = refl
    entries_back (x ∷ l) rest h = rw (
      append_assoc (enc x) (encode_all enc l) rest,
      back x (encode_all enc l ++ rest) h.0,
      drop_at (enc x) (encode_all enc l ++ rest) size (sized x),
      entries_back l rest h.1,
    )

    pub part_back : (a b c : List X) (rest : List ℕ) → All P b
        → entries_from read size (encode_all enc (a ++ (b ++ c)) ++ rest) (length a) (length b) ≡ some b
    unfolding entries_from
    part_back a b c rest h = rw (drop-entries a (b ++ c) rest, encode_append b c, append_assoc (encode_all enc b) (encode_all enc c) rest)
        (entries_back b (encode_all enc c ++ rest) h)

-- ---- where entries are read as a list, each of them is read as its element: what a reader of single entries meets

module _ {X : Type 0} (read : List ℕ → Option X) (size : ℕ) where
  -- the first entry and the others
  record Opened (n : ℕ) (b : List ℕ) (l : List X) : Type 0 where
    head : X
    tail : List X
    whole : l ≡ head ∷ tail
    first : read b ≡ some head
    others : entries read size n (drop size b) ≡ some tail

  opened : (n : ℕ) (b : List ℕ) (l : List X) (o : Option X) (p : Option (List X)) → read b ≡ o → entries read size n (drop size b) ≡ p
      → (o >>= λ x. p >>= λ t. some (x ∷ t)) ≡ some l → Opened n b l
  unfolding ◌>>=◌
  opened n b l nothing p f g e = let z : ◌≡◌ {A = ℕ} 0 1 = cc in absurd (omega arith)
  opened n b l (some x) nothing f g e = let z : ◌≡◌ {A = ℕ} 0 1 = cc in absurd (omega arith)
  opened n b l (some x) (some t) f g e = record { head = x; tail = t; whole = cc; first = f; others = g }

  entry_in : (n : ℕ) (b : List ℕ) (l : List X) (k : ℕ) (x : X) (o : Opened n b l)
      → ((j : ℕ) → get_elem? o.tail j ≡ some x → read (drop (j * size) (drop size b)) ≡ some x)
      → get_elem? (o.head ∷ o.tail) k ≡ some x → read (drop (k * size) b) ≡ some x
  entry_in n b l zero x o h e = rw (zero-mul size) (o.first ∙ e)
  entry_in n b l (suc k) x o h e = rw (suc-mul k size, add_comm (k * size) size, ← drop-drop (k * size) size b) (h k e)

  pub entry_at : (n : ℕ) (b : List ℕ) (l : List X) (k : ℕ) (x : X) → entries read size n b ≡ some l → get_elem? l k ≡ some x
      → read (drop (k * size) b) ≡ some x
  unfolding entries
  entry_at zero b [] k x e f = let z : ◌≡◌ {A = ℕ} 0 1 = cc in absurd (omega arith)
  entry_at zero b (y ∷ l) k x e f = let z : ◌≡◌ {A = ℕ} 0 1 = cc in absurd (omega arith)
  entry_at (suc n) b l k x e f =
      let o = opened n b l (read b) (entries read size n (drop size b)) refl refl e in
      entry_in n b l k x o (λ j g. entry_at n (drop size b) o.tail j x o.others g) (rw o.whole at f)
