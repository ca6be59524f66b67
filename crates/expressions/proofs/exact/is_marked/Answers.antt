-- Whether a key is a prefix with `$...`: by its length, its last four bytes and the rest.
-- By the pieces of the key. Assumes nothing.
use mathlib.Core.Bool.{not}
use mathlib.Core.Path.{ap}
use Rattle.expressions.proofs.PrefixLaws.{marked-short, marked_longer, marked_other, marked-name}
use Rattle.expressions.proofs.exact.is_marked.Goals as goal

pub returns-then-key-lt-MARK_BYTES : goal.returns-then-key-lt-MARK_BYTES
returns-then-key-lt-MARK_BYTES c = marked-short _ _ _ _ _ _ c.requires.k_le_count.2 _ c.requires.k_le_count.1 c.if-key-lt-MARK_BYTES.true

pub returns-then-key-size : goal.returns-then-key-size
returns-then-key-size c = marked_longer _ _ _ _ _ _ c.requires.k_le_count.2 _ c.requires.k_le_count.1 c.if-key-lt-MARK_BYTES.false c.if-key-size.true

pub returns-then-not-is_variadic_mark : goal.returns-then-not-is_variadic_mark
returns-then-not-is_variadic_mark c = marked_other _ _ _ _ _ _ c.requires.k_le_count.2 _ c.requires.k_le_count.1 c.if-key-lt-MARK_BYTES.false c.if-key-size.false _ c.is_variadic_mark.ensures (ap not c.if-not-is_variadic_mark.true)

pub returns : goal.returns
returns c = marked-name _ _ _ _ _ _ c.requires.k_le_count.2 _ c.requires.k_le_count.1 c.if-key-lt-MARK_BYTES.false c.if-key-size.false _ c.is_variadic_mark.ensures (ap not c.if-not-is_variadic_mark.false) _ c.is_name.ensures
