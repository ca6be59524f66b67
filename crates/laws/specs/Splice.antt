-- A part of a list, read, and written over; a list filled up with zeros. Assumes nothing: these are definitions.
use Rattle.std.specs.Prelude.{ℕ, ◌+◌, ◌-◌, List, ◌++◌, length, take, drop, replicate}

-- n elements of l from index i on
abbrev pub part : List ℕ → ℕ → ℕ → List ℕ
part l i n = take n (drop i l)

-- l with vs in the place of as many elements from index i
unfoldable pub splice : List ℕ → ℕ → List ℕ → List ℕ
splice l i vs = take i l ++ vs ++ drop (i + length vs) l

-- l, and zeros up to m elements
unfoldable pub filled : List ℕ → ℕ → List ℕ
filled l m = l ++ replicate (m - length l) 0
