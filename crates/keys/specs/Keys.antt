-- The functions by key, as `get_all_functions` has them in its map: their records stand in scratch, in their order, each besides at the slot of its key's
-- number, and in chains by the digests of their keys and by their names. Assumes nothing: these are definitions.
use Rattle.std.specs.Prelude.{◌≡◌, ℕ, zero, suc, ◌+◌, ◌*◌, ◌≤◌, ◌<◌, Bool, true, ◌&&◌, eqb, length, take, get_or}
use mathlib.Core.List.{List, [], ◌∷◌, ◌++◌}
use Rattle.std.proofs.Math.Option.{Option, none, some}
use Rattle.laws.specs.Chain.{link_to}
use Rattle.laws.specs.Fix.{pick}
use Rattle.laws.specs.Splice.{splice}
use Rattle.records.specs.Words.{kind_of, word_at, word_of, word, records, A, B}
use Rattle.records.specs.Chains.{member_bucket}
use Rattle.records.specs.Digest.{digest_end, roll_of}
use Rattle.records.specs.Layout.{judging, originals, key_slots, key_heads, name_heads, scratch_each, end_of}
use Rattle.records.specs.Kinds.{kind_function}
use Rattle.records.specs.Good.{Good}
use Rattle.syntax.specs.Syntax.{Text, Function}
use Rattle.syntax.specs.Decode.{program}
use Rattle.conversion.specs.ConvertError.{ok}
use Rattle.conversion.specs.Expressions.{Functions, is_mangled, get_function}
use Rattle.conversion.specs.Functions.{get_all_functions}
use Rattle.syntax.specs.Places.{FunctionAt, function_of}
use Rattle.texts.specs.Texts.{has_own, own_text, original, original_at, text_digest_at, Numbered}
use Rattle.std.specs.Prelude.{Option as StdOption, Some, None}

-- a function's key is its name if it is external or `main`, else its mangled name
unfoldable pub function_key : Function → Text
unfolding pick is_mangled
function_key f = pick (is_mangled f) f.mangled_name f.name

-- functions with their keys
unfoldable pub keyed : List Function → Functions
unfolding function_key
keyed [] = []
keyed (f ∷ l) = (function_key f, f) ∷ keyed l

-- the functions' records among the first n
unfoldable pub records_below : List ℕ → ℕ → List ℕ
unfolding pick kind_of
records_below tree zero = []
records_below tree (suc r) = records_below tree r ++ pick (eqb (kind_of tree r) kind_function) (r ∷ []) []

-- 'Functions count in record order'
abbrev pub function_places : List ℕ → List ℕ
function_places tree = records_below tree (records tree)

module _ (tree text : List ℕ) where
  -- what some records stand for
  unfoldable pub functions_of : List ℕ → List Function
  unfolding function_of
  functions_of [] = []
  functions_of (r ∷ l) = function_of tree text r ∷ functions_of l

  -- the first n functions with their keys
  unfoldable pub keys_below : ℕ → Functions
  unfolding keyed functions_of records_below
  keys_below n = keyed (functions_of (take n (function_places tree)))

  -- all functions with their keys: the Rust's map, once it is made
  unfoldable pub all_keys : Functions
  unfolding keyed program
  all_keys = keyed (program tree text).functions

-- the scratch has the functions' records, one after the other
pub record Listed (tree s : List ℕ) : Type 0 where
  pub room : scratch_each * records tree ≤ length s
  pub listed : (j : ℕ) → j < length (function_places tree) → word_at s (judging.each * j) ≡ get_or (function_places tree) j 0

-- ---- the functions by the numbers of their keys

-- the record whose text is the key of function f
unfoldable pub key_record : List ℕ → List ℕ → ℕ → ℕ
unfolding pick is_mangled function_of
key_record tree text f = pick (is_mangled (function_of tree text f)) (word_of tree f B) (word_of tree f A)

-- where the slot of a text's number stands in the scratch of n records
abbrev pub key_slot_at : ℕ → ℕ → ℕ
key_slot_at n o = key_slots.from * n + key_slots.each * o

-- a slot's word says which function it is: one more than its record, or 0 where there is none
pub record SlotSays (tree text : List ℕ) (w : ℕ) (o : Option Function) : Type 0 where
  pub free : w ≡ 0 → o ≡ none
  pub taken : (f : ℕ) → w ≡ f + 1 → (o ≡ some (function_of tree text f)) × FunctionAt tree f

-- the slots have these functions: that of a text says which of them has the text as its key
abbrev pub KeySlots : List ℕ → List ℕ → List ℕ → Functions → Type 0
KeySlots tree text s F = (r : ℕ) → r < records tree → has_own tree r ≡ true
    → SlotSays tree text (word_at s (key_slot_at (records tree) (original tree text r))) (get_function (own_text tree text r) F)

-- function f is entered at the slot of its key
abbrev pub key_entered : List ℕ → List ℕ → ℕ → List ℕ → List ℕ
key_entered tree text f s = splice s (key_slot_at (records tree) (original tree text (key_record tree text f))) (word (f + 1))

-- `get_all_functions` went well: a good tree whose keys are distinct, its texts numbered, its functions listed in scratch and entered by their keys
pub record Mapped (tree text s : List ℕ) : Type 0 where
  pub good : Good tree text
  pub numbered : Numbered tree text s
  pub distinct : get_all_functions (program tree text).functions [] ≡ ok (all_keys tree text)
  pub listed : Listed tree s
  pub slots : KeySlots tree text s (all_keys tree text)

-- ---- the functions in chains

-- numbers in chains, those below r entered: of n buckets each head says the last number in it, and each number's link the one before it in its own
pub record Chain (bucket head_at link_at : ℕ → ℕ) (n r : ℕ) (s : List ℕ) : Type 0 where
  pub heads : (b : ℕ) → b < n → word_at s (head_at b) ≡ link_to bucket r b
  pub links : (k : ℕ) → k < r → bucket k < n → word_at s (link_at k) ≡ link_to bucket k (bucket k)

-- a number goes before the others of its bucket: its link says what the head said, and the head says `next`
abbrev pub chained_before : ℕ → ℕ → ℕ → List ℕ → List ℕ
chained_before head link next s = splice (splice s link (word (word_at s head))) head (word next)

-- where the head of a bucket of digests, and that of a name's number, stand in the scratch of n records
abbrev pub key_head_at : ℕ → ℕ → ℕ
key_head_at n b = key_heads.from * n + key_heads.each * b

abbrev pub name_head_at : ℕ → ℕ → ℕ
name_head_at n o = name_heads.from * n + name_heads.each * o

-- record k is a function
abbrev pub is_function : List ℕ → ℕ → Bool
is_function tree k = eqb (kind_of tree k) kind_function

module _ (tree text : List ℕ) where
  -- the digest of function f's key, and its bucket: this goes by the digest spread over all 32 bits
  abbrev pub key_roll : ℕ → ℕ
  key_roll f = roll_of (function_key (function_of tree text f))

  abbrev pub key_bucket : ℕ → ℕ
  key_bucket = member_bucket (is_function tree) (λ f. digest_end (key_roll f)) (records tree)

  -- the bucket of a mangled function among the names is its name's number; that of another record is n, which has no head
  unfoldable pub name_bucket : ℕ → ℕ
  unfolding pick is_mangled function_of original
  name_bucket k = pick (is_function tree k && is_mangled (function_of tree text k)) (original tree text (word_of tree k A)) (records tree)

  -- the functions below r have the digests of their keys at their slots, and are chained by these
  abbrev pub KeyDigests : List ℕ → ℕ → Type 0
  KeyDigests s r = (f : ℕ) → f < r → FunctionAt tree f → word_at s (text_digest_at (records tree) f) ≡ key_roll f

  abbrev pub ByKey : List ℕ → ℕ → Type 0
  ByKey s r = Chain key_bucket (key_head_at (records tree)) (original_at (records tree)) (records tree) r s

  -- the mangled functions below r are chained by their names
  abbrev pub ByName : List ℕ → ℕ → Type 0
  ByName s r = Chain name_bucket (name_head_at (records tree)) (key_slot_at (records tree)) (records tree) r s

-- what `Mapped` says, and on the way: the functions below k are chained by key, those below m by name
pub record Chaining (tree text s : List ℕ) (k m : ℕ) : Type 0 where
  pub good : Good tree text
  pub numbered : Numbered tree text s
  pub distinct : get_all_functions (program tree text).functions [] ≡ ok (all_keys tree text)
  pub listed : Listed tree s
  pub slots : KeySlots tree text s (all_keys tree text)
  pub digests : KeyDigests tree text s k
  pub by_key : ByKey tree text s k
  pub by_name : ByName tree text s m

-- all functions are
abbrev pub Keyed : List ℕ → List ℕ → List ℕ → Type 0
Keyed tree text s = Chaining tree text s (records tree) (records tree)

-- only five regions were written, which lie one behind the other: the numbers of the texts, the functions by key, the heads by key, the digests, the heads by name.
-- All other bytes are as they were
pub record ChainKeeps (tree s s' : List ℕ) : Type 0 where
  pub long : length s' ≡ length s
  pub before : (i : ℕ) → i < originals.from * records tree → get_or s' i 0 ≡ get_or s i 0
  pub behind : (i : ℕ) → end_of name_heads * records tree ≤ i → get_or s' i 0 ≡ get_or s i 0

-- ---- what a search answers

module _ (tree text : List ℕ) where
  unfoldable pub function_found : StdOption ℕ → Option Function
  unfolding function_of
  function_found (Some f) = some (function_of tree text f)
  function_found None = none

-- a function that was found is one
pub data FunctionFound (tree : List ℕ) : StdOption ℕ → Type 0 where
  a_function : {f : ℕ} → FunctionAt tree f → FunctionFound tree (Some f)
  none_found : FunctionFound tree None

-- the answer is this function, if there is one
pub record FunctionIs (tree text : List ℕ) (r : StdOption ℕ) (o : Option Function) : Type 0 where
  pub is : function_found tree text r ≡ o
  pub function : FunctionFound tree r

-- the answer to a text's number: whatever functions the slots have, the one whose key is a text of this number
abbrev pub FindsKey : List ℕ → List ℕ → List ℕ → ℕ → StdOption ℕ → Type 0
FindsKey tree text s number v = (F : Functions) → KeySlots tree text s F → (r : ℕ) → r < records tree → has_own tree r ≡ true → number ≡ original tree text r
    → FunctionIs tree text v (get_function (own_text tree text r) F)

-- the same of the key of function f
abbrev pub FindsOwnKey : List ℕ → List ℕ → List ℕ → ℕ → StdOption ℕ → Type 0
FindsOwnKey tree text s f v = (F : Functions) → KeySlots tree text s F → FunctionIs tree text v (get_function (function_key (function_of tree text f)) F)
