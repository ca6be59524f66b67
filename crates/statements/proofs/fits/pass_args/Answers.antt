-- The values are fitted in place, then an Arg is written for each.
-- By the law of both steps in a row. Assumes nothing.
use Rattle.statements.proofs.FitTurns.{pass_both}
use Rattle.statements.proofs.fits.pass_args.Goals as goal

pub returns : goal.returns
returns c = record { adds = pass_both _ _ _ _ _ _ c.fit_args.ensures.fits_as.adds c.emit_args.ensures; stays = (c.fit_args.ensures.fits_as.stays, c.fit_args.ensures.fits_as.names); turns = c.fit_args.ensures.turns }
