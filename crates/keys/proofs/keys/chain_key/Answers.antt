-- A function more in the chains by key: its key's digest is written, and it goes before the others of the bucket.
-- By the laws of a chain with one function more. Assumes nothing.
use mathlib.Core.Path.{ap, ◌∙◌}
use native.Mathlib.Omega.{arith}
use Rattle.records.specs.Chains.{bucket_of}
use Rattle.keys.proofs.ChainLaws.{keeps_key, chained_key}
use Rattle.keys.proofs.SlotLaws.{digest-inside, digest-read}
use Rattle.keys.proofs.keys.chain_key.Goals as goal

pub kept_digest-d-requires : goal.kept_digest-d-requires
kept_digest-d-requires c = digest-inside _ _ c.requires.0.good _ c.requires.1 c.args.scratch.now _ c.key_record.ensures c.requires.0.listed.room

pub returns : goal.returns
returns c = let bucket = c.bucket-b.ensures in
    let digest = digest-read _ _ c.requires.0.good _ c.requires.1 _ _ c.key_record.ensures c.requires.0.numbered _ c.kept_digest-d.ensures in record { chaining = chained_key _ _ _ _ _ _ _ _ c.requires.0 c.requires.1 bucket.1 c.put_word.ensures c.put_before.ensures digest.0 (omega (arith, digest.1)) (bucket.0 ∙ ap (bucket_of _) c.roll_digest.ensures); chain_keeps = (keeps_key _ _ _ _ _ _ _ _ c.requires.0 c.requires.1 bucket.1 c.put_word.ensures c.put_before.ensures) }
