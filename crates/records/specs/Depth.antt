-- Document 01, row 'nesting': how deep a record is. Assumes nothing: these are definitions.
use Rattle.std.specs.Prelude.{ℕ, ◌+◌, List, eqb, leb}
use Rattle.laws.specs.Fix.{pick, below, fix}
use Rattle.records.specs.declared.shape.Role.{Role}
use Rattle.records.specs.Words.{kind_of, word_of, A, B, C, D, E}
use Rattle.records.specs.Kinds.{kind_list}
use Rattle.records.specs.Shapes.{row_at, refers}

-- the larger of two numbers
unfoldable pub larger : ℕ → ℕ → ℕ
unfolding pick
larger x y = pick (leb x y) y x

-- how deep the record is that word w of record r refers to; 0 where it refers to none
unfoldable pub depth_below : (ℕ → ℕ) → ℕ → Role → ℕ → ℕ
unfolding pick below
depth_below g r role w = pick (refers role) (below g r w 0) 0

-- the deepest that record r refers to
unfoldable pub deepest : List ℕ → (ℕ → ℕ) → ℕ → ℕ
unfolding larger depth_below row_at word_of
deepest tree g r =
    larger (depth_below g r (row_at tree r).a (word_of tree r A))
    (larger (depth_below g r (row_at tree r).b (word_of tree r B))
    (larger (depth_below g r (row_at tree r).c (word_of tree r C))
    (larger (depth_below g r (row_at tree r).d (word_of tree r D))
    (depth_below g r (row_at tree r).e (word_of tree r E)))))

-- 'leaf 1; else 1 more than the deepest it refers to; a list is as deep as its deepest item'
unfoldable pub depth_step : List ℕ → (ℕ → ℕ) → ℕ → ℕ
unfolding pick deepest kind_of
depth_step tree g r = pick (eqb (kind_of tree r) kind_list) (deepest tree g r) (deepest tree g r + 1)

unfoldable pub depth : List ℕ → ℕ → ℕ
unfolding fix depth_step
depth tree r = fix 0 (depth_step tree) r
