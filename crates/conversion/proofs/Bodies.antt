-- The bodies that conversion emits for the functions of a small program, instruction by instruction.
-- By computing: what `convert` gives is what is written here. Assumes nothing.
use mathlib.Core.Path.{◌≡◌, refl}
use Prim.Native.Nat.{ℕ, zero, suc}
use mathlib.Core.Bool.{true, false}
use mathlib.Core.List.{List, [], ◌∷◌}
use mathlib.Core.Option.{Option, none, some}
use lib.IntN.{pos}
use lib.ListN.{get_or}
use Rattle.syntax.specs.Syntax.{Text, Ty, TInt, TFloat, TBool, TChar, TByte, TAddress, TNull, Or, And, Gt, Lt, Add, Div, Expr, EInt, EFloat, EName, EBinary, ECall, no_args, Value, ToType, SDeclare, SInit, SReturn, SCall, SIf, SIfElse, SWhile, SFor, SContinue, Block, done, next, Param, Function, Program}
use Rattle.conversion.specs.ConvertError.{Result, ok, err}
use Rattle.conversion.specs.Ir.{VarId, Operand, OVar, OInt, OFloat, Instr, Copy, Binary, Cast, Arg, Call, Label, Jump, JumpIfNot, Return, Comment, IrFunction, IrProgram}
use Rattle.conversion.specs.Expressions.{cast_verb}
use Rattle.conversion.specs.Converter.{convert}

-- ---- the program, over the twelve first types

unfoldable pub sample_type : ℕ → Ty
sample_type y = get_or (TInt false false ∷ TInt true false ∷ TInt false true ∷ TInt true true ∷ TFloat false ∷ TFloat true ∷ TBool ∷ TChar ∷ TByte ∷ TNull
    ∷ TAddress 7 ∷ TAddress 9 ∷ []) y TNull

unfoldable pub rate : Text
rate = 114 ∷ []

unfoldable pub x : Text
x = 120 ∷ []

unfoldable pub y : Text
y = 121 ∷ []

-- from its record, its name's one byte, its return type and the type of its parameter, if it has one
unfoldable pub parameter : Option ℕ → List Param
unfolding rate
parameter none = []
parameter (some t) = record { rec_of = 40; name = rate; ty = t } ∷ []

unfoldable pub outside : ℕ → ℕ → Option ℕ → Option ℕ → Function
unfolding parameter
outside r n result p = record { rec_of = r; name = n ∷ []; mangled_name = n ∷ []; return_type = result; params = parameter p; variadic = false; body = none; external = true }

unfoldable pub inside : ℕ → ℕ → Option ℕ → Option ℕ → Block → Function
unfolding parameter
inside r n result p b = record { rec_of = r; name = n ∷ []; mangled_name = n ∷ []; return_type = result; params = parameter p; variadic = false; body = some b; external = false }

-- `a` of an Int, a Bool; `b` of nothing, an Int; `c` of any number of arguments, nothing
unfoldable pub ask : Function
unfolding outside
ask = outside 50 97 (some 6) (some 0)

unfoldable pub bound : Function
unfolding outside
bound = outside 51 98 (some 0) none

unfoldable pub take : Function
take = record { rec_of = 55; name = 99 ∷ []; mangled_name = 99 ∷ []; return_type = none; params = []; variadic = true; body = none; external = true }

-- `d` of an Int and a short Float, an Int; `e` of an Int and any number of arguments; `f` of a Float and a short Float
unfoldable pub several : List ℕ → List Param
several [] = []
several (t ∷ l) = record { rec_of = 40; name = []; ty = t } ∷ several l

unfoldable pub put : Function
unfolding several
put = record { rec_of = 60; name = 100 ∷ []; mangled_name = 100 ∷ []; return_type = some 0; params = several (0 ∷ 5 ∷ []); variadic = false; body = none; external = true }

unfoldable pub feed : Function
unfolding several
feed = record { rec_of = 61; name = 101 ∷ []; mangled_name = 101 ∷ []; return_type = none; params = several (0 ∷ []); variadic = true; body = none; external = true }

unfoldable pub mix : Function
unfolding several
mix = record { rec_of = 62; name = 102 ∷ []; mangled_name = 102 ∷ []; return_type = none; params = several (4 ∷ 5 ∷ []); variadic = false; body = none; external = true }

unfoldable pub ask_rate : ℕ → Expr
unfolding rate
ask_rate r = ECall r (97 ∷ []) (Value 25 (EName 26 rate) no_args)

unfoldable pub int : ℕ → Expr
int n = EInt 23 (pos n) false false

-- return rate > 0 and ask(rate)
unfoldable pub guard_body : Block
unfolding rate ask_rate int
guard_body = next (SReturn 30 (EBinary 20 And (EBinary 21 Gt (EName 22 rate) (int 0)) (ask_rate 24))) done

-- return rate > 2 or ask(rate)
unfoldable pub either_body : Block
unfolding rate ask_rate int
either_body = next (SReturn 35 (EBinary 20 Or (EBinary 21 Gt (EName 22 rate) (int 2)) (ask_rate 24))) done

-- for rate from 0 until bound(): if ask(rate): continue; bound()
unfoldable pub loop_body : Block
unfolding rate ask_rate int
loop_body = next (SFor 31 rate (some 0) (int 0) (ECall 61 (98 ∷ []) no_args)
    (next (SIf 32 (ask_rate 62) (next (SContinue 33) done)) (next (SCall 34 (ECall 65 (98 ∷ []) no_args)) done))) done

-- while ask(rate): rate = rate + 1
unfoldable pub spin_body : Block
unfolding rate ask_rate int
spin_body = next (SWhile 66 (ask_rate 67) (next (SInit 68 false rate (EBinary 69 Add (EName 70 rate) (int 1))) done)) done

-- declare x, a short Float; take(x); x = 0.5; take(x); y = x as an Int; ask(y)
unfoldable pub take_x : ℕ → Expr
unfolding x
take_x r = ECall r (99 ∷ []) (Value 76 (EName 77 x) no_args)

unfoldable pub ratio_body : Block
unfolding x y take_x
ratio_body = next (SDeclare 71 x 5) (next (SCall 72 (take_x 73)) (next (SInit 74 false x (EFloat 75 0x3FE0000000000000 false)) (next (SCall 76 (take_x 77))
    (next (SInit 78 false y (ECall 79 cast_verb (Value 80 (EName 81 x) (ToType 82 0 no_args))))
    (next (SCall 83 (ECall 84 (97 ∷ []) (Value 85 (EName 86 y) no_args))) done)))))

-- ask(rate); y = rate / 0; bound()
unfoldable pub pause_body : Block
unfolding rate y ask_rate int
pause_body = next (SCall 87 (ask_rate 88)) (next (SInit 89 false y (EBinary 90 Div (EName 91 rate) (int 0))) (next (SCall 92 (ECall 93 (98 ∷ []) no_args)) done))

-- if rate, here a Bool: bound() else x = bound()
unfoldable pub split_body : Block
unfolding rate x
split_body = next (SIfElse 94 (EName 95 rate) (next (SCall 96 (ECall 97 (98 ∷ []) no_args)) done) (next (SInit 98 false x (ECall 99 (98 ∷ []) no_args)) done)) done

-- declare x, a short Float; put(Int, 0.5); y = put(Int, 0.5); mix(Float, x); feed(Int, x); mix(0.5, short Float)
unfoldable pub half : Expr
half = EFloat 114 0x3FE0000000000000 false

unfoldable pub put_half : ℕ → Expr
unfolding half
put_half r = ECall r (100 ∷ []) (ToType 112 0 (Value 113 half no_args))

unfoldable pub fill_body : Block
unfolding x y half put_half
fill_body = next (SDeclare 110 x 5) (next (SCall 111 (put_half 115)) (next (SInit 116 false y (put_half 117))
    (next (SCall 118 (ECall 119 (102 ∷ []) (ToType 120 4 (Value 121 (EName 122 x) no_args))))
    (next (SCall 123 (ECall 124 (101 ∷ []) (ToType 125 0 (Value 126 (EName 127 x) no_args))))
    (next (SCall 128 (ECall 129 (102 ∷ []) (Value 130 half (ToType 131 5 no_args)))) done)))))

unfoldable pub guard : Function
unfolding inside guard_body
guard = inside 52 200 (some 6) (some 0) guard_body

unfoldable pub either : Function
unfolding inside either_body
either = inside 54 202 (some 6) (some 0) either_body

unfoldable pub loop : Function
unfolding inside loop_body
loop = inside 53 201 none none loop_body

unfoldable pub spin : Function
unfolding inside spin_body
spin = inside 56 203 none (some 0) spin_body

unfoldable pub ratio : Function
unfolding inside ratio_body
ratio = inside 57 204 none none ratio_body

unfoldable pub pause : Function
unfolding inside pause_body
pause = inside 58 205 none (some 0) pause_body

unfoldable pub split : Function
unfolding inside split_body
split = inside 59 206 none (some 6) split_body

unfoldable pub fill : Function
unfolding inside fill_body
fill = inside 63 207 none none fill_body

unfoldable pub program : Program
unfolding sample_type ask bound take guard loop either spin ratio pause split put feed mix fill
program = record { functions = ask ∷ bound ∷ guard ∷ loop ∷ either ∷ take ∷ spin ∷ ratio ∷ pause ∷ split ∷ put ∷ feed ∷ mix ∷ fill ∷ []; type_of = sample_type; key_of = λ t. [] }

-- ---- what it converts to

unfoldable pub converted : Result IrProgram → IrProgram
converted (ok ir) = ir
converted (err k r) = record { funcs = []; strings = []; floats = [] }

unfoldable pub code_of : List IrFunction → ℕ → List Instr
code_of [] n = []
code_of (g ∷ l) zero = elim g.body [ none ↦ [] | some c ↦ c ]
code_of (g ∷ l) (suc n) = code_of l n

-- the instructions of the n-th function
unfoldable pub code : ℕ → List Instr
unfolding converted code_of convert program
code n = code_of (converted (convert program false)).funcs n

unfoldable pub var : ℕ → ℕ → VarId
var i t = record { id = i; ty = t }

unfoldable pub v : ℕ → ℕ → Operand
unfolding var
v i t = OVar (var i t)

unfoldable pub n : ℕ → Operand
n i = OInt (pos i) false false

-- rate is v0, the guard's value v1, rate > 0 is v2, ask(rate) is v3
pub guard_code : code 2 ≡ Comment 30 ∷ Binary (var 2 6) Gt (v 0 0) (n 0) ∷ Copy (var 1 6) (v 2 6) ∷ JumpIfNot (v 1 6) 1
    ∷ Arg (v 0 0) ∷ Call (some (var 3 6)) 50 ∷ Copy (var 1 6) (v 3 6) ∷ Label 1 ∷ Return (v 1 6) ∷ []
unfolding code var v n
guard_code = refl

pub either-code : code 4 ≡ Comment 35 ∷ Binary (var 2 6) Gt (v 0 0) (n 2) ∷ Copy (var 1 6) (v 2 6) ∷ JumpIfNot (v 1 6) 0 ∷ Jump 1 ∷ Label 0
    ∷ Arg (v 0 0) ∷ Call (some (var 3 6)) 50 ∷ Copy (var 1 6) (v 3 6) ∷ Label 1 ∷ Return (v 1 6) ∷ []
unfolding code var v n
either-code = refl

-- labels: 0 the check, 1 the start, 2 the end, 3 the end of `if`
pub loop-code : code 3 ≡ Comment 31 ∷ Copy (var 0 0) (n 0) ∷ Jump 0 ∷ Label 1 ∷ Binary (var 0 0) Add (v 0 0) (n 1) ∷ Label 0
    ∷ Call (some (var 1 0)) 51 ∷ Binary (var 2 6) Lt (v 0 0) (v 1 0) ∷ JumpIfNot (v 2 6) 2
    ∷ Comment 32 ∷ Arg (v 0 0) ∷ Call (some (var 3 6)) 50 ∷ JumpIfNot (v 3 6) 3 ∷ Comment 33 ∷ Jump 1 ∷ Label 3
    ∷ Comment 34 ∷ Call none 51 ∷ Jump 1 ∷ Label 2 ∷ []
unfolding code var v n
loop-code = refl

pub spin_code : code 6 ≡ Comment 66 ∷ Label 0 ∷ Arg (v 0 0) ∷ Call (some (var 1 6)) 50 ∷ JumpIfNot (v 1 6) 1
    ∷ Comment 68 ∷ Binary (var 2 0) Add (v 0 0) (n 1) ∷ Copy (var 0 0) (v 2 0) ∷ Jump 0 ∷ Label 1 ∷ []
unfolding code var v n
spin_code = refl

-- floats: 0 is the short zero, 1 is 0.5, 2 the short 0.5
pub ratio_code : code 7 ≡ Comment 71 ∷ Copy (var 0 5) (OFloat 0) ∷ Comment 72 ∷ Cast (var 1 4) (v 0 5) ∷ Arg (v 1 4) ∷ Call none 55
    ∷ Comment 74 ∷ Copy (var 0 5) (OFloat 2) ∷ Comment 76 ∷ Cast (var 2 4) (v 0 5) ∷ Arg (v 2 4) ∷ Call none 55
    ∷ Comment 78 ∷ Cast (var 3 0) (v 0 5) ∷ Copy (var 4 0) (v 3 0) ∷ Comment 83 ∷ Arg (v 4 0) ∷ Call none 50 ∷ []
unfolding code var v n
ratio_code = refl

pub pause_code : code 8 ≡ Comment 87 ∷ Arg (v 0 0) ∷ Call none 50 ∷ Comment 89 ∷ Binary (var 1 0) Div (v 0 0) (n 0) ∷ Copy (var 2 0) (v 1 0)
    ∷ Comment 92 ∷ Call none 51 ∷ []
unfolding code var v n
pause_code = refl

pub split_code : code 9 ≡ Comment 94 ∷ JumpIfNot (v 0 6) 0 ∷ Comment 96 ∷ Call none 51 ∷ Jump 1
    ∷ Label 0 ∷ Comment 98 ∷ Call (some (var 1 0)) 51 ∷ Copy (var 2 0) (v 1 0) ∷ Label 1 ∷ []
unfolding code var v n
split_code = refl

-- a type stands before the value: 0.5 goes to the short Float, x to its own type and behind the parameters to Float. Behind the value it changes
-- nothing: 0.5 goes to the Float
pub fill_code : code 13 ≡ Comment 110 ∷ Copy (var 0 5) (OFloat 0) ∷ Comment 111 ∷ Arg (OFloat 2) ∷ Call none 60
    ∷ Comment 116 ∷ Arg (OFloat 2) ∷ Call (some (var 1 0)) 60 ∷ Copy (var 2 0) (v 1 0) ∷ Comment 118 ∷ Arg (v 0 5) ∷ Call none 62
    ∷ Comment 123 ∷ Cast (var 3 4) (v 0 5) ∷ Arg (v 3 4) ∷ Call none 61 ∷ Comment 128 ∷ Arg (OFloat 1) ∷ Call none 62 ∷ []
unfolding code var v n
fill_code = refl

pub float_entries : (converted (convert program false)).floats
    ≡ record { bits = 0; short = true } ∷ record { bits = 0x3FE0000000000000; short = false } ∷ record { bits = 0x3FE0000000000000; short = true } ∷ []
unfolding converted convert program
float_entries = refl
