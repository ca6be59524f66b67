-- Equal types: that there are none is told by their digests, in the chains of `records/specs/Chains.antt`; else they are sorted, as in `sorting/specs/Sorted.antt`.
-- Assumes nothing: these are definitions.
use Rattle.std.specs.Prelude.{◌≡◌, ℕ, ◌*◌, ◌≤◌, ◌<◌, Bool, true, ◌&&◌, ◌||◌, List, eqb, length}
use Rattle.laws.specs.Below.{any_below}
use Rattle.records.specs.Chains.{chain_each, member_bucket, Chained}
use Rattle.records.specs.Digest.{type_digest}
use Rattle.records.specs.Kinds.{kind_type, form_custom}
use Rattle.records.specs.Rules.{same_type}
use Rattle.records.specs.Samples.{Sampled}
use Rattle.records.specs.Words.{record_bytes, kind_of, detail_of}
use Rattle.sorting.specs.Sorted.{record_in}

-- the first records, so many, are types
pub record Leading (tree : List ℕ) (types : ℕ) : Type 0 where
  pub within : types * record_bytes ≤ length tree
  pub kinds : (k : ℕ) → k < types → kind_of tree k ≡ kind_type

-- type k is a Custom: it has a name
abbrev pub is_custom : List ℕ → ℕ → Bool
is_custom tree k = eqb (detail_of tree k) form_custom

-- ---- by digests

-- type k is taken for type r: they share a digest, and are equal where r is no Custom
unfoldable pub alike : List ℕ → List ℕ → ℕ → ℕ → Bool
unfolding type_digest detail_of same_type
alike tree text k r = eqb (type_digest tree text k) (type_digest tree text r) && (is_custom tree r || same_type tree text k r)

abbrev pub like_earlier : List ℕ → List ℕ → ℕ → Bool
like_earlier tree text r = any_below r (λ k. alike tree text k r)

-- each type is a member
abbrev pub every : ℕ → Bool
every k = true

abbrev pub type_bucket : List ℕ → List ℕ → ℕ → ℕ → ℕ
type_bucket tree text types = member_bucket every (type_digest tree text) types

-- the types below r are entered
abbrev pub TypesChained : List ℕ → List ℕ → ℕ → ℕ → List ℕ → Type 0
TypesChained tree text types r l = Chained every (type_digest tree text) types r l

-- and the text's samples stand behind the chains
pub record DigestsPassed (tree text : List ℕ) (types stride r : ℕ) (s : List ℕ) : Type 0 where
  pub chained : TypesChained tree text types r s
  pub sampled : Sampled text stride (chain_each * types) s

-- ---- by sorting

-- each of the types stands in the entry of its number, from byte 0 on
abbrev pub TypesListed : ℕ → List ℕ → Type 0
TypesListed types s = (i : ℕ) → i < types → record_in s 0 i ≡ i
