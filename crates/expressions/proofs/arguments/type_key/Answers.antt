-- Words D and E of a type's record say its key text.
-- The rule of a type's row. Assumes nothing.
use Rattle.expressions.proofs.ArgumentLaws.{key_part}
use Rattle.expressions.proofs.arguments.type_key.Goals as goal

pub returns : goal.returns
returns c = key_part _ _ c.requires.good _ c.requires.type_at.below c.requires.type_at.kind _ c.text_part.ensures.0 c.text_part.ensures.1
