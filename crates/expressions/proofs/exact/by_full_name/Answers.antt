-- The function whose key is the whole name, where it is mangled: the chain of its digest is walked. The invariant: no function met so far has the name as its key.
-- By the laws of a walk along a chain of keys; the measure is the place. Assumes nothing.
use native.Mathlib.Omega.{arith}
use Rattle.keys.proofs.FoundLaws.{key_start, key_end, key_function, hit_is, key_skip, key_next, key_less, key_here}
use Rattle.expressions.proofs.ExactLaws.{verb-below, key_told, key_longer, name-found, name_nowhere}
use Rattle.expressions.proofs.exact.by_full_name.Goals.{then-kept_digest-digest+then-key-length+else-is_name, then-kept_digest-digest+else-key-length, else-kept_digest-digest}
use Rattle.expressions.proofs.exact.by_full_name.Goals as goal

pub loop-at-init : goal.loop-at-init
loop-at-init c = let start = c in
    key_start _ _ _ c.requires.keyed _ _ c.full_digest-digest.ensures _ (omega (arith, verb-below _ _ _ _ c.requires.called)) c.key_head-at.ensures

pub key_of-key-requires : goal.key_of-key-requires
key_of-key-requires c = record { good = c.requires.keyed.good; function_at = key_function _ _ _ c.requires.keyed _ _ c.full_digest-digest.ensures _ _ c.loop-at.invariant (omega (arith, c.loop-at-test.true)) }

pub mangled_only-requires : goal.mangled_only-requires
mangled_only-requires c = record { good = c.requires.keyed.good; function_at = key_function _ _ _ c.requires.keyed _ _ c.full_digest-digest.ensures _ _ c.loop-at.invariant (omega (arith, c.loop-at-test.true)) }

pub returns-then-is_name : goal.returns-then-is_name
returns-then-is_name c = let same = key_told _ _ _ _ _ c.key_of-key.ensures _ _ c.is_name.ensures c.if-is_name.true in
    name-found _ _ _ _ _
    (key_here _ _ _ c.requires.keyed _ _ c.full_digest-digest.ensures _ _ c.loop-at.invariant (omega (arith, c.loop-at-test.true)) same)
    c.mangled_only.ensures

pub loop-at-smaller : goal.loop-at-smaller
loop-at-smaller c = key_less _ _ _ c.requires.keyed _ _ c.full_digest-digest.ensures _ _ c.loop-at.invariant (omega (arith, c.loop-at-test.true)) _ c.key_before-at.ensures

pub loop-at-preserved : goal.loop-at-preserved
loop-at-preserved c = let keyed = c.requires.keyed in
    let digest = c.full_digest-digest.ensures in
    let walked = c.loop-at.invariant in
    let some = c.loop-at-test.true in
    key_next _ _ _ keyed _ _ digest _ _ walked (omega (arith, some)) _
    (elim c.if-kept_digest-digest.branch [
      | then-kept_digest-digest+then-key-length+else-is_name w ↦ hit_is _ _ _ keyed _ _ digest _ _ walked (omega (arith, some)) _ (key_told _ _ _ _ _ w.key_of-key.ensures _ _ w.is_name.ensures w.if-is_name.false)
      | then-kept_digest-digest+else-key-length w ↦ hit_is _ _ _ keyed _ _ digest _ _ walked (omega (arith, some)) _ (key_longer _ _ _ _ _ w.key_of-key.ensures _ c.full_length-length.ensures w.if-key-length.false)
      | else-kept_digest-digest w ↦ key_skip _ _ _ keyed _ _ digest _ _ walked (omega (arith, some)) _ c.kept_digest.ensures w.if-kept_digest-digest.false
    ])
    c.key_before-at.ensures

pub returns : goal.returns
returns c = name_nowhere _ _ _ (key_end _ _ _ c.requires.keyed _ _ c.full_digest-digest.ensures _ c.loop-at-test.false c.loop-at.invariant)
