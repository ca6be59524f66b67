-- Records sorted by their keys, which are texts or the words of types. They stand in entries of two words, from a byte of scratch on: a record, and beside it how many
-- numbers its key shares with that of the entry before. Assumes nothing: these are definitions.
use Rattle.std.specs.Prelude.{◌≡◌, ◌⊎◌, ℕ, ◌+◌, ◌*◌, ◌≤◌, ◌<◌, Bool, true, false, not, ◌&&◌, List, [], ◌∷◌, eqb, ltb, length, get_or}
use Rattle.laws.specs.Fix.{pick}
use Rattle.records.specs.Kinds.{kind_type, form_custom}
use Rattle.records.specs.Layout.{originals}
use Rattle.records.specs.Order.{common, record_text}
use Rattle.records.specs.Words.{kind_of, detail_of, word_of, text_at, word_at, A, B, C, second_word, same_text}
use Rattle.sorting.specs.declared.sorted.Runs.{Runs}
use Rattle.sorting.specs.declared.sorted.Heads.{Heads}

-- ---- keys

-- record r is a type that its form and its words tell apart from others: of types only a Custom has a text
unfoldable pub has_words : List ℕ → ℕ → Bool
unfolding kind_of detail_of
has_words tree r = eqb (kind_of tree r) kind_type && not (eqb (detail_of tree r) form_custom)

abbrev pub three_words : List ℕ → ℕ → List ℕ
three_words tree r = word_of tree r A ∷ word_of tree r B ∷ word_of tree r C ∷ []

-- its form comes first, as a number that no byte is, so that no text begins like it
abbrev pub word_key : List ℕ → ℕ → List ℕ
word_key tree r = (256 + detail_of tree r) ∷ three_words tree r

-- by which record r is sorted: its form and words, or else its text
unfoldable pub record_key : List ℕ → List ℕ → ℕ → List ℕ
unfolding pick has_words detail_of word_of text_at
record_key tree text r = pick (has_words tree r) (word_key tree r) (record_text tree text r)

-- ---- the order

-- list t comes ahead of list u, number by number, and a beginning ahead of what goes on; of lists that are the same, `same` says it
unfoldable pub ahead : List ℕ → List ℕ → Bool → Bool
unfolding pick
ahead [] [] same = same
ahead [] (b ∷ u) same = true
ahead (a ∷ t) [] same = false
ahead (a ∷ t) (b ∷ u) same = pick (eqb a b) (ahead t u same) (ltb a b)

-- number a goes before number b: by their keys, and the lower first where these are the same. t is the key of each number
abbrev pub Precedes : (ℕ → List ℕ) → ℕ → ℕ → Type 0
Precedes t a b = ahead (t a) (t b) (ltb a b) ≡ true

-- ---- entries

abbrev pub sort_entry_bytes : ℕ
sort_entry_bytes = 8

-- the record of entry i of those that stand from byte `at` on, and what stands beside it
abbrev pub record_in : List ℕ → ℕ → ℕ → ℕ
record_in s at i = word_at s (at + sort_entry_bytes * i)

abbrev pub shared_in : List ℕ → ℕ → ℕ → ℕ
shared_in s at i = word_at s (at + sort_entry_bytes * i + second_word)

-- entry j stands rightly behind entry i
pub record Follows (t : ℕ → List ℕ) (s : List ℕ) (at i j : ℕ) : Type 0 where
  pub order : Precedes t (record_in s at i) (record_in s at j)
  pub shares : shared_in s at j ≡ common (t (record_in s at i)) (t (record_in s at j))

-- the entries from lo to hi are sorted
abbrev pub Sorted : (ℕ → List ℕ) → List ℕ → ℕ → ℕ → ℕ → Type 0
Sorted t s at lo hi = (i : ℕ) → lo ≤ i → i + 1 < hi → Follows t s at i (i + 1)

-- record r is that of an entry from lo to hi
pub record HasEntry (s : List ℕ) (at lo hi r : ℕ) : Type 0 where
  pub place : ℕ
  pub low : lo ≤ place
  pub high : place < hi
  pub there : record_in s at place ≡ r

-- the entries from lo to hi, from `to` on, are those that stood from `at` on, and sorted
pub record Arranged (t : ℕ → List ℕ) (s : List ℕ) (at : ℕ) (s' : List ℕ) (to lo hi : ℕ) : Type 0 where
  pub sorted : Sorted t s' to lo hi
  pub all : (i : ℕ) → lo ≤ i → i < hi → HasEntry s' to lo hi (record_in s at i)
  pub only : (i : ℕ) → lo ≤ i → i < hi → HasEntry s at lo hi (record_in s' to i)

-- ---- where they stand

-- byte p is none of the entries from lo to hi
abbrev pub Outside : ℕ → ℕ → ℕ → ℕ → Type 0
Outside at lo hi p = (p < at + sort_entry_bytes * lo) ⊎ (at + sort_entry_bytes * hi ≤ p)

-- only the entries from lo to hi that stand from `to` on are written
pub record OnlyThere (to lo hi : ℕ) (s s' : List ℕ) : Type 0 where
  pub long : length s' ≡ length s
  pub bytes : (p : ℕ) → Outside to lo hi p → get_or s' p 0 ≡ get_or s p 0

-- only these and those from `at` on
pub record OnlyBoth (at to lo hi : ℕ) (s s' : List ℕ) : Type 0 where
  pub long : length s' ≡ length s
  pub bytes : (p : ℕ) → Outside at lo hi p → Outside to lo hi p → get_or s' p 0 ≡ get_or s p 0

-- there is room for the entries from lo to hi in both places, which lie apart
pub record TwoPlaces (at to lo hi : ℕ) (s : List ℕ) : Type 0 where
  pub rises : lo ≤ hi
  pub first : at + sort_entry_bytes * hi ≤ length s
  pub second : to + sort_entry_bytes * hi ≤ length s
  pub apart : (at + sort_entry_bytes * hi ≤ to + sort_entry_bytes * lo) ⊎ (to + sort_entry_bytes * hi ≤ at + sort_entry_bytes * lo)

-- the entries from lo to hi are records below n, in rising order
pub record RecordsRise (n at lo hi : ℕ) (s : List ℕ) : Type 0 where
  pub inside : (i : ℕ) → lo ≤ i → i < hi → record_in s at i < n
  pub rise : (i j : ℕ) → lo ≤ i → i < j → j < hi → record_in s at i < record_in s at j

-- they stand in both places
pub record Sortable (n at to lo hi : ℕ) (s : List ℕ) : Type 0 where
  pub places : TwoPlaces at to lo hi s
  pub records : RecordsRise n at lo hi s
  pub twice : (i : ℕ) → lo ≤ i → i < hi → record_in s to i ≡ record_in s at i

-- ---- merging

-- keys t and u come behind one key, with which they share so much
pub record BehindOne (t u : List ℕ) (left right : ℕ) : Type 0 where
  pub before : List ℕ
  pub left_behind : ahead before t true ≡ true
  pub right_behind : ahead before u true ≡ true
  pub left_shares : left ≡ common before t
  pub right_shares : right ≡ common before u

-- whether key t is next, which it is where both are the same, and how much it shares with u
pub record Chosen (t u : List ℕ) (left : Bool) (shared : ℕ) : Type 0 where
  pub next : left ≡ ahead t u true
  pub shares : shared ≡ common t u

-- which of the two heads is next; a run at its end has none
pub record HeadChosen (t : ℕ → List ℕ) (s : List ℕ) (two : Runs) (heads : Heads) (left : Bool) (shared : ℕ) : Type 0 where
  pub left_is : left ≡ true → heads.left < two.mid
  pub right_is : left ≡ false → heads.right < two.hi
  pub both : heads.left < two.mid → heads.right < two.hi → Chosen (t (record_in s two.at heads.left)) (t (record_in s two.at heads.right)) left shared

-- two runs, from lo to mid and from mid to hi, from `at` on: sorted each, of records below n, those of the first lower than those of the second
pub record TwoRuns (t : ℕ → List ℕ) (n : ℕ) (two : Runs) (s : List ℕ) : Type 0 where
  pub places : TwoPlaces two.at two.to two.lo two.hi s
  pub rises : two.lo ≤ two.mid
  pub ends : two.mid ≤ two.hi
  pub inside : (i : ℕ) → two.lo ≤ i → i < two.hi → record_in s two.at i < n
  pub lower : (i j : ℕ) → two.lo ≤ i → i < two.mid → two.mid ≤ j → j < two.hi → record_in s two.at i < record_in s two.at j
  pub left : Sorted t s two.at two.lo two.mid
  pub right : Sorted t s two.at two.mid two.hi

-- record r belongs behind the entries from lo to k, and shares so much with the last of them
pub record Behind (t : ℕ → List ℕ) (s : List ℕ) (to lo k r shared : ℕ) : Type 0 where
  pub first : k ≡ lo → shared ≡ 0
  pub order : (i : ℕ) → lo ≤ i → i + 1 ≡ k → Precedes t (record_in s to i) r
  pub shares : (i : ℕ) → lo ≤ i → i + 1 ≡ k → shared ≡ common (t (record_in s to i)) (t r)

-- the runs are merged up to their heads, which share so much with the last one put out: those before are the entries from lo to k, from `to` on
pub record Merging (t : ℕ → List ℕ) (n : ℕ) (two : Runs) (k : ℕ) (heads : Heads) (s : List ℕ) : Type 0 where
  pub runs : TwoRuns t n two s
  pub left_low : two.lo ≤ heads.left
  pub left_high : heads.left ≤ two.mid
  pub right_low : two.mid ≤ heads.right
  pub right_high : heads.right ≤ two.hi
  pub count : k + two.mid ≡ heads.left + heads.right
  pub out : Sorted t s two.to two.lo k
  pub left_next : heads.left < two.mid → Behind t s two.to two.lo k (record_in s two.at heads.left) heads.left_shared
  pub right_next : heads.right < two.hi → Behind t s two.to two.lo k (record_in s two.at heads.right) heads.right_shared
  pub left_out : (q : ℕ) → two.lo ≤ q → q < heads.left → HasEntry s two.to two.lo k (record_in s two.at q)
  pub right_out : (q : ℕ) → two.mid ≤ q → q < heads.right → HasEntry s two.to two.lo k (record_in s two.at q)
  pub only : (q : ℕ) → two.lo ≤ q → q < k → HasEntry s two.at two.lo two.hi (record_in s two.to q)

-- ---- what the order tells

-- m entries are sorted, of records below n
pub record SortedRecords (t : ℕ → List ℕ) (n at m : ℕ) (s : List ℕ) : Type 0 where
  pub room : at + sort_entry_bytes * m ≤ length s
  pub inside : (i : ℕ) → i < m → record_in s at i < n
  pub sorted : Sorted t s at 0 m

-- entry i and the one behind it have the same key
abbrev pub same_next : (ℕ → List ℕ) → List ℕ → ℕ → ℕ → Bool
same_next t s at i = same_text (t (record_in s at i)) (t (record_in s at (i + 1)))

-- record r is that of an entry, and has the key of a lower one that is
pub record Repeated (t : ℕ → List ℕ) (s : List ℕ) (at m r : ℕ) : Type 0 where
  pub here : HasEntry s at 0 m r
  pub lower : ℕ
  pub there : HasEntry s at 0 m lower
  pub less : lower < r
  pub same : t lower ≡ t r

-- v is the record of the entry behind entry i, if both have the same key, else `bound`
pub record RepeatedBehind (t : ℕ → List ℕ) (s : List ℕ) (at i bound v : ℕ) : Type 0 where
  pub found : (v ≡ bound) ⊎ ((v ≡ record_in s at (i + 1)) × (t (record_in s at i) ≡ t (record_in s at (i + 1))))
  pub least : t (record_in s at i) ≡ t (record_in s at (i + 1)) → v ≡ record_in s at (i + 1)

-- v is the lowest of these, or `bound` where none is lower than that
pub record FirstRepeated (t : ℕ → List ℕ) (s : List ℕ) (at m bound v : ℕ) : Type 0 where
  pub found : (v ≡ bound) ⊎ Repeated t s at m v
  pub least : (r : ℕ) → Repeated t s at m r → v ≤ r

-- v is the lowest record of an entry that has the key of record r
pub record FirstOfKey (t : ℕ → List ℕ) (s : List ℕ) (at m r v : ℕ) : Type 0 where
  pub stands : HasEntry s at 0 m v
  pub same : t v ≡ t r
  pub least : (i : ℕ) → i < m → t (record_in s at i) ≡ t r → v ≤ record_in s at i

-- entry `place` is the first with the key of entry i, and its record is v
pub record FirstUpTo (t : ℕ → List ℕ) (s : List ℕ) (at i v : ℕ) : Type 0 where
  pub place : ℕ
  pub high : place ≤ i
  pub there : record_in s at place ≡ v
  pub same : t v ≡ t (record_in s at i)
  pub new : (q : ℕ) → q + 1 ≡ place → t (record_in s at q) ≡ t v → ⊥

-- a number for each of n records stands from `to` on, apart from m entries from `at` on
pub record NumbersApart (n at m to : ℕ) (s : List ℕ) : Type 0 where
  pub room : to + originals.each * n ≤ length s
  pub apart : (at + sort_entry_bytes * m ≤ to) ⊎ (to + originals.each * n ≤ at)

-- the first i entries have their numbers, the first record with their key; nothing but numbers is written
pub record NumberedUpTo (t : ℕ → List ℕ) (n at m to i : ℕ) (s s' : List ℕ) : Type 0 where
  pub long : length s' ≡ length s
  pub bytes : (p : ℕ) → (p < to) ⊎ (to + originals.each * n ≤ p) → get_or s' p 0 ≡ get_or s p 0
  pub number : (q : ℕ) → q < i → FirstOfKey t s at m (record_in s at q) (word_at s' (to + originals.each * record_in s at q))
