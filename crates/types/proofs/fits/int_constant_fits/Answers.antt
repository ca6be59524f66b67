-- An integer constant in a range, by what it folds to: the test of `is_some_and` is the definition's. Assumes nothing.
use Rattle.std.proofs.Common.{◌≡◌, rules}
use mathlib.Core.Path.{ap, ◌∙◌}
use Rattle.int128.specs.Value.{checked_of}
use Rattle.conversion.specs.Types.{some_and}
use Rattle.types.specs.Fits.{in_range_of}
use Rattle.types.proofs.fits.int_constant_fits.Goals as goal

pub returns : goal.returns
unfolding some_and
returns c text =
    let told : c.is_some_and.result ≡ some_and (checked_of c.int_value.result) (in_range_of c.args.tree.now c.args.expected) = search rules in
    told ∙ ap (λ o. some_and o (in_range_of c.args.tree.now c.args.expected)) (c.int_value.ensures text)
