-- `int128::product::mul_words` meets its contract: the product by its columns in base 2 ^ 32.
-- `Columns.columns` for the whole; each sum fits by the bound of a product of two digits.
use Prim.Native.Nat.{◌+◌, ◌*◌, ◌/◌, ◌%◌, ◌^◌}
use native.Mathlib.Nat.{div-add-mod'}
use mathlib.Core.Path.{◌∙◌, sym, ap₂}
use Rattle.int128.proofs.Columns.{columns}
use Rattle.int128.proofs.product.mul_words.Goals as goal

-- the four products of digits
pub returns : goal.returns
returns c = let u = c.args.u in
    let v = c.args.v in
    let P = 2 ^ 32 in
    let first = u % P * (v % P) in
    let middle = u / P * (v % P) + first / P in
    let next = middle % P + u % P * (v / P) in
    sym (columns P (u % P) (u / P) (v % P) (v / P) (first / P) (first % P) (middle / P) (middle % P) (next / P) (next % P) (sym (div-add-mod' first P)) (sym (div-add-mod' middle P)) (sym (div-add-mod' next P)))
    ∙ ap₂ ◌*◌ (div-add-mod' u P) (div-add-mod' v P)
