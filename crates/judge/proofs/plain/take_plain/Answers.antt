-- A record that is right and uses A, B and C alone is taken.
-- By the laws of `PlainTaken`, over what the calls ensure. Assumes nothing.
use mathlib.Core.Path.{ap}
use mathlib.Core.Bool.{◌&&◌, not}
use Rattle.judge.proofs.PlainTaken.{slots-ready, plain_took}
use Rattle.judge.proofs.plain.take_plain.Goals as goal

pub take_slots-requires : goal.take_slots-requires
take_slots-requires c = slots-ready _ _ _ _ _ _ _ _ _ c.requires c.five_words-words.ensures c.place_of-pa.ensures c.place_of-pb.ensures c.place_of-pc.ensures c.form_ok-form.result _ _ _ c.place_ok.ensures c.place_ok-2.ensures c.place_ok-3.ensures (ap not c.if-not-form-placed.false)

pub returns : goal.returns
returns c = plain_took _ _ _ _ _ _ _ _ _ _ c.form_ok-form.result (c.place_ok.result && c.place_ok-2.result && c.place_ok-3.result) (ap not c.if-not-form-placed.false) c.form_ok-form.ensures c.take_slots.ensures
