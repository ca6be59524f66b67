-- Equal types always; else by their forms. Each answer is a case of `FitsCases`. Assumes nothing.
use mathlib.Core.Path.{◌∙◌}
use borrow.Author.Tests.{eq-eqb}
use Rattle.types.proofs.FitsCases.{fits-same, fits-other}
use Rattle.types.proofs.fits.fits.Goals as goal

pub returns-then-ty-expected : goal.returns-then-ty-expected
returns-then-ty-expected c text = eq-eqb _ _ c.if-ty-expected.true ∙ fits-same _ text _ _ _ c.if-ty-expected.true

pub returns-else-ty-expected : goal.returns-else-ty-expected
returns-else-ty-expected c text = fits-other _ text _ _ _ c.if-ty-expected.false _ (c.fits_into.ensures text)
