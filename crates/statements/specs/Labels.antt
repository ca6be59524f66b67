-- Document 01's numbers for labels, by the code's kinds. Assumes nothing: these are definitions.
use Rattle.std.specs.Prelude.{ℕ}
use Rattle.statements.specs.declared.numbers.LabelKind.{LabelKind}
use Rattle.statements.specs.declared.numbers.LabelKind.TheVariants.{LoopStart, LoopEnd, LoopCheck, Otherwise, ConditionEnd, LogicRhs, LogicEnd}

-- the number of a kind: `loop_start` and the others of Rattle.conversion.specs.Ir have it beside the record that opens the label
abbrev pub label_number : LabelKind → ℕ
label_number LoopStart = 1
label_number LoopEnd = 2
label_number LoopCheck = 3
label_number Otherwise = 4
label_number ConditionEnd = 5
label_number LogicRhs = 6
label_number LogicEnd = 7
