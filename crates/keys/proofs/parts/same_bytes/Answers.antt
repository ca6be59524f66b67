-- A part against bytes: by their lengths, and else byte by byte.
-- From what `same_run` ensures of the bytes as a whole. Assumes nothing.
use Rattle.keys.proofs.PartLaws.{other-bytes, whole-bytes}
use Rattle.keys.proofs.parts.same_bytes.Goals as goal

pub returns-then-p-bytes : goal.returns-then-p-bytes
returns-then-p-bytes c = search whole-bytes

pub returns-else-p-bytes : goal.returns-else-p-bytes
returns-else-p-bytes c = search other-bytes
