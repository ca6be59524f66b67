-- The text of a function: its mangled name.
-- By the law of the record that its word refers to. Assumes nothing.
use native.Mathlib.Omega.{arith}
use Rattle.keys.proofs.FunctionLaws.{mangled_inside}
use Rattle.keys.proofs.KeySearch.{mangled_read}
use Rattle.keys.proofs.keys.mangled_name_of.Goals as goal

pub text_part-requires-clause-record_bytes_in_bounds : goal.text_part-requires-clause-record_bytes_in_bounds
text_part-requires-clause-record_bytes_in_bounds c = omega (arith, c.reference.ensures, mangled_inside _ _ c.requires.good _ c.requires.function_at)

pub returns : goal.returns
returns c = mangled_read _ _ c.requires.good _ c.requires.function_at c.text_part.result c.reference.result c.reference.ensures c.text_part.ensures
