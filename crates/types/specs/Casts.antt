-- The classes of the table of casts: the code's by the definition's numbers. Assumes nothing: these are definitions.
use Rattle.std.specs.Prelude.{ℕ}
use Rattle.types.specs.declared.casts.CastClass.{CastClass}

abbrev pub cast_class_number : CastClass → ℕ
cast_class_number CastClass.OtherScalar = 0
cast_class_number CastClass.LongInt = 1
cast_class_number CastClass.Address = 2
cast_class_number CastClass.Null = 3
cast_class_number CastClass.Rest = 4
