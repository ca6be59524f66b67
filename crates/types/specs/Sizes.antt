-- What the sizes that the code hands on stand for. Assumes nothing: these are definitions.
use Rattle.std.specs.Prelude.{ℕ, ◌^◌, List, ltb}
use Rattle.std.proofs.Math.Option.{Option, none, some}
use Rattle.laws.specs.Fix.{pick, fix}
use Rattle.syntax.specs.Decode.{type_at}
use Rattle.conversion.specs.Types.{size_step, size}
use Rattle.types.specs.declared.size.Bytes.{Bytes}
use Rattle.types.specs.declared.size.Bytes.TheVariants.{Exactly, Over, Nothing}

-- the exact size of type record y, however large
unfoldable pub exact_size : List ℕ → List ℕ → ℕ → Option ℕ
unfolding fix size_step
exact_size tree text y = fix none (size_step (type_at tree text)) y

-- 'SizeOf of Custom, Null, an array of these, or over 2^63 − 1 bytes': how each size is handed on
unfoldable pub bytes_for : Option ℕ → Bytes
unfolding pick
bytes_for none = Nothing
bytes_for (some n) = pick (ltb n (2 ^ 63)) (Exactly n) Over

-- the size that is handed on, if any
unfoldable pub exact_bytes : Bytes → Option ℕ
exact_bytes (Exactly n) = some n
exact_bytes Over = none
exact_bytes Nothing = none

-- `Type::size` of type record y
unfoldable pub size_at : List ℕ → List ℕ → ℕ → Option ℕ
unfolding size
size_at tree text y = size (type_at tree text) y
