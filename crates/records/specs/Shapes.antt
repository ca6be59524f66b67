-- Document 01's table 'kind | detail and words': what each word of each kind of record is for.
-- Assumes nothing: these are definitions.
use Rattle.std.specs.Prelude.{ℕ, Bool, true, false, ◌||◌, List, [], ◌∷◌, eqb, leb, get_or}
use Rattle.laws.specs.Fix.{pick}
use Rattle.records.specs.declared.shape.Role.{Role}
use Rattle.records.specs.declared.shape.Role.TheVariants.{Unused, Number, Text, Length, Expr, TypeRef, TypeOrNone, Name, Variable, Arguments, Parameters, Body, Item, Rest}
use Rattle.records.specs.declared.shape.Row.{Row}
use Rattle.records.specs.Kinds.{kind_type, kind_function, form_address, form_array, form_custom}
use Rattle.records.specs.Words.{kind_of, detail_of}

-- details below `limit`, and what the words A to E are for
abbrev pub row : ℕ → Role → Role → Role → Role → Role → Row
row limit a b c d e = record { limit = limit; a = a; b = b; c = c; d = d; e = e }

-- a row for each kind, in order; the types that have words of their own stand behind. Text is an offset, Length the length beside it.
abbrev pub rows : List Row
rows =
    -- 0: no kind, or a type of no known detail
    row 0 Unused Unused Unused Unused Unused ∷
    -- 1 type: Int, Float, Bool, Char, Byte, Null; 'D E key text'
    row 64 Unused Unused Unused Text Length ∷
    -- 2 Int: '1 short, 2 unsigned; A B value low, high'
    row 4 Number Number Unused Unused Unused ∷
    -- 3 Float: '1 short; A B bits of the f64'
    row 2 Number Number Unused Unused Unused ∷
    -- 4 Str: 'A B text'
    row 1 Text Length Unused Unused Unused ∷
    -- 5 Bool: 'detail 0 or 1'
    row 2 Unused Unused Unused Unused Unused ∷
    -- 6 Name: 'A B text'
    row 1 Text Length Unused Unused Unused ∷
    -- 7 Null
    row 1 Unused Unused Unused Unused Unused ∷
    -- 8 SizeOf: 'A type'
    row 1 TypeRef Unused Unused Unused Unused ∷
    -- 9 Unary: 'operator from 0 in the order of UnaryOp', A operand
    row 3 Expr Unused Unused Unused Unused ∷
    -- 10 Binary: 'operator from 0 in the order of BinaryOp; A, B operands'
    row 18 Expr Expr Unused Unused Unused ∷
    -- 11 Call: 'A B verb, C arguments'
    row 1 Text Length Arguments Unused Unused ∷
    -- 12 list: 'A item, B rest or none'
    row 1 Item Rest Unused Unused Unused ∷
    -- 13 value: '13 holds an expression'
    row 1 Expr Unused Unused Unused Unused ∷
    -- 14 type argument: '14 a type'
    row 1 TypeRef Unused Unused Unused Unused ∷
    -- 15 Declare: 'A B name, C type'
    row 1 Text Length TypeRef Unused Unused ∷
    -- 16 Init: '1 constant; A B name, C value'
    row 2 Text Length Expr Unused Unused ∷
    -- 17 Return: 'A'
    row 1 Expr Unused Unused Unused Unused ∷
    -- 18 call statement: 'A'
    row 1 Expr Unused Unused Unused Unused ∷
    -- 19 If: '1 has otherwise; A condition, B then, C otherwise'
    row 2 Expr Body Body Unused Unused ∷
    -- 20 While: 'A condition, B body'
    row 1 Expr Body Unused Unused Unused ∷
    -- 21 For: 'A variable, B from, C until, D body'
    row 1 Variable Expr Expr Body Unused ∷
    -- 22 Break
    row 1 Unused Unused Unused Unused Unused ∷
    -- 23 Continue
    row 1 Unused Unused Unused Unused Unused ∷
    -- 24 variable: 'A B name, C type (none only in For)'
    row 1 Text Length TypeOrNone Unused Unused ∷
    -- 25 function: '1 external, 2 variadic, 4 has body; A name and B mangled name (kind 6), C parameters, D return type or none, E body'
    row 8 Name Name Parameters TypeOrNone Body ∷
    -- type '6 Address (A inner)'
    row 64 TypeRef Unused Unused Text Length ∷
    -- type '7 Array (A element, B C count low, high)'
    row 64 TypeRef Number Number Text Length ∷
    -- type '8 Custom (A B name)'
    row 64 Text Length Unused Text Length ∷
    []

-- the roles by number, as a table of numbers has them
abbrev pub roles : List Role
roles =
    Unused ∷ Number ∷ Text ∷ Length ∷ Expr ∷ TypeRef ∷ TypeOrNone ∷ Name ∷ Variable ∷ Arguments ∷ Parameters ∷ Body ∷ Item ∷ Rest ∷ []

unfoldable pub role_of : ℕ → Role
role_of n = get_or roles n Unused

unfoldable pub row_of : ℕ → Row
row_of shape = get_or rows shape (row 0 Unused Unused Unused Unused Unused)

-- '1 Int, 2 Float (each with 16 for short, 32 for unsigned Int), 3 Bool, 4 Char, 5 Byte, .. 9 Null': the types without words of their own
unfoldable pub plain_type : ℕ → Bool
plain_type d =
    eqb d 1 || eqb d 17 || eqb d 33 || eqb d 49 || eqb d 2 || eqb d 18 || eqb d 3 || eqb d 4 || eqb d 5 || eqb d 9

-- '6 Address, 7 Array, 8 Custom': their rows
unfoldable pub type_shape : ℕ → ℕ
unfolding pick plain_type
type_shape d = pick (plain_type d) 1 (pick (eqb d form_address) 26 (pick (eqb d form_array) 27 (pick (eqb d form_custom) 28 0)))

-- the row for a kind and a detail; 0 for an unknown kind and for a type of unknown detail
unfoldable pub shape_of : ℕ → ℕ → ℕ
unfolding pick type_shape
shape_of kind detail = pick (eqb kind kind_type) (type_shape detail) (pick (leb kind kind_function) kind 0)

-- the row of record r
unfoldable pub row_at : List ℕ → ℕ → Row
unfolding row_of shape_of kind_of detail_of
row_at tree r = row_of (shape_of (kind_of tree r) (detail_of tree r))

-- whether a word of this role refers to a record, where it is not none
abbrev pub refers : Role → Bool
refers Unused = false
refers Number = false
refers Text = false
refers Length = false
refers Expr = true
refers TypeRef = true
refers TypeOrNone = true
refers Name = true
refers Variable = true
refers Arguments = true
refers Parameters = true
refers Body = true
refers Item = true
refers Rest = true
