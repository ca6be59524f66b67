-- What converting an expression emits names only what exists, and so does the operand that it leaves.
-- By induction over the expression, one law for each definition that conversion calls. Assumes nothing.
use mathlib.Core.Path.{◌≡◌, refl, sym}
use Prim.Native.Nat.{ℕ, zero, suc, ◌<◌, ◌^◌}
use mathlib.Core.Bool.{Bool, true, false, not, ◌&&◌}
use mathlib.Core.List.{List, [], ◌∷◌}
use mathlib.Core.Option.{Option, none as nothing, some}
use lib.Dec.{eqb, ltb}
use lib.IntN.{pos}
use borrow.Author.Tests.{ltb-true}
use Rattle.laws.specs.All.{All}
use Rattle.laws.specs.Fix.{pick, fix}
use Rattle.syntax.specs.Syntax.{Text, Ty, TInt, TFloat, TBool, TChar, TByte, TAddress, TArray, TCustom, TNull, UnaryOp, BinaryOp, Or, And, BitOr, BitXor, BitAnd, Eq, NotEq, Lt, Le, Gt, Ge, Shl, Shr, Add, Sub, Mul, Div, Rem, Expr, EInt, EFloat, EStr, EBool, EName, ENull, ESizeOf, EUnary, EBinary, ECall, Args, no_args, Value, ToType, Param, Function, Program}
use Rattle.conversion.specs.ConvertError.{WouldPanic, UnknownVariable}
use Rattle.conversion.specs.Ir.{VarId, Operand, OVar, OInt, OFloat, OBool, ODataAddress, ONull, Copy, Unary, Binary, Cast, Arg, Call, Label, Jump, JumpIfNot, logic_rhs, logic_end, State, M, ◌>>=◌, lift}
use Rattle.conversion.specs.Types.{on_int, on_float, is_float, size_within, size_step, size}
use Rattle.conversion.specs.Scope.{Variable, Scope, find_variable}
use Rattle.conversion.specs.Expressions.{Callee, CallFunction, CallCast, Functions, unwrap_or, get_type, resolve_call}
use Rattle.conversion.specs.Statements.{name_operand, size_operand, cast_operand, refloat, fit_operand, parameter_type, value_position, expected_type, fit_from, fit_args, emit_args, convert_unary, convert_and, convert_or, cast_first, convert_other, convert_binary_by, convert_binary, call_function, call_value, convert_call_value, convert_expr, convert_args}
use Rattle.tables.proofs.Exists.{Word, VarIn, OperandIn, DestinationIn, KnownLabel}
use Rattle.tables.proofs.SyntaxFits.{OptIs, none_is, some_is, held, ExprFits, ArgsFit, SignatureFits, CalleeFits, KeyedFit, TreeFits}
use Rattle.tables.proofs.Typing.{TypeFits, unwrap_is, float_type-word, find-is, type-word, resolve_fits, common_type-word}
use Rattle.tables.proofs.Keeps.{◌&◌, known_label, all_map, var_up, operand_up, Up, Always, Named, Keeps, then, and_then, from, gives, fails, emits, new-variable, label_number, string_number, float_number, float_bits_lem, knowing, lift_then}

-- ---- facts

-- all of a list of operands
abbrev pub NamedAll : List Operand → Up
NamedAll l = record { holds = λ s. All (OperandIn s) l; up = λ s t e h. all_map (OperandIn s) (OperandIn t) (operand_up s t e) l h }

abbrev pub Done : Unit {0} → Up
Done u = Always (Unit {0})

module _ (text : Text) where
  -- every name in scope is a variable with its type, the innermost loop is a record, and the function's types are words
  pub record ScopeIn (sc : Scope) (s : State) : Type 0 where
    pub variables : All (λ v. VarIn s v.var_id × TypeFits v) sc.variables
    pub in_loop : OptIs Word sc.in_loop
    pub function : SignatureFits text sc.function

  abbrev pub Scoped : Scope → Up
  Scoped sc = record {
    holds = ScopeIn sc;
    up = λ s t e h. record {
      variables = all_map (λ v. VarIn s v.var_id × TypeFits v) (λ v. VarIn t v.var_id × TypeFits v)
          (λ v k. (var_up s t e v.var_id k.0, k.1)) sc.variables h.variables;
      in_loop = h.in_loop;
      function = h.function;
    };
  }

  pub types_in : (sc : Scope) (s : State) → ScopeIn sc s → All TypeFits sc.variables
  types_in sc s h = all_map (λ v. VarIn s v.var_id × TypeFits v) TypeFits (λ v k. k.1) sc.variables h.variables

  -- ---- operands

  pub on_float_lem : {A : Type 0} {G : Up} {Q : A → Up} {d : M A} {f : Bool → M A} (t : Ty) → Keeps text G Q d → ((b : Bool) → Keeps text G Q (f b))
      → Keeps text G Q (on_float t d f)
  unfolding on_float
  on_float_lem (TFloat s) h k = k s
  on_float_lem (TInt s u) h k = h
  on_float_lem TBool h k = h
  on_float_lem TChar h k = h
  on_float_lem TByte h k = h
  on_float_lem (TAddress y) h k = h
  on_float_lem (TArray y n) h k = h
  on_float_lem (TCustom t) h k = h
  on_float_lem TNull h k = h

  pub on_int_lem : {A : Type 0} {G : Up} {Q : A → Up} {d : M A} {f : Bool → Bool → M A} (t : Ty) → Keeps text G Q d
      → ((b c : Bool) → Keeps text G Q (f b c)) → Keeps text G Q (on_int t d f)
  unfolding on_int
  on_int_lem (TInt s u) h k = k s u
  on_int_lem (TFloat s) h k = h
  on_int_lem TBool h k = h
  on_int_lem TChar h k = h
  on_int_lem TByte h k = h
  on_int_lem (TAddress y) h k = h
  on_int_lem (TArray y n) h k = h
  on_int_lem (TCustom t) h k = h
  on_int_lem TNull h k = h

  cast_keeps : {G : Up} (b : Bool) (x : VarId) (y : ℕ) → Word y → ((s : State) → G.holds s → VarIn s x) → Keeps text G Named (cast_operand b x y)
  unfolding cast_operand
  cast_keeps true x y h k = then text (new-variable text h) λ dest.
      and_then text (emits text (Cast dest (OVar x)) (λ s g. (g.1.0, k s g.0)))
      (gives text (OVar dest) (λ s g. g.1.0))
  cast_keeps false x y h k = gives text (OVar x) k

  refloat_keeps : {G : Up} (i : ℕ) (short : Bool) → Keeps text G Named (refloat i short)
  unfolding refloat
  refloat_keeps i short = then text (float_bits_lem text i) λ b.
      knowing text (λ s g. g.1) λ h.
      then text (float_number text {e = record { bits = b; short = short }} (record { bits = h })) λ j.
      gives text (OFloat j) (λ s g. g.1)

  pub fit_keeps : {G : Up} (P : Program) (o : Operand) (y : ℕ) → Word y → ((s : State) → G.holds s → OperandIn s o)
      → Keeps text G Named (fit_operand P o y)
  unfolding fit_operand
  fit_keeps P (OFloat i) y h k = on_float_lem (P.type_of y) (gives text (OFloat i) k) (λ short. refloat_keeps i short)
  fit_keeps P (OInt v a u) y h k = on_int_lem (P.type_of y) (gives text (OInt v a u) k) (λ short unsigned. gives text (OInt v short unsigned) k)
  fit_keeps P (OVar x) y h k = on_float_lem (P.type_of y) (gives text (OVar x) k)
      (λ short. cast_keeps (is_float (P.type_of x.ty) && not (eqb x.ty y)) x y h k)
  fit_keeps P (OBool b) y h k = gives text (OBool b) k
  fit_keeps P (ODataAddress i) y h k = gives text (ODataAddress i) k
  fit_keeps P ONull y h k = gives text ONull k

  parameter_word : (P : Program) (l : List Param) (k : ℕ) → All (λ p. Word p.ty) l → Word (parameter_type l k)
  unfolding parameter_type
  parameter_word P [] k h = float_type-word false
  parameter_word P (p ∷ l) zero h = h.0
  parameter_word P (p ∷ l) (suc k) h = parameter_word P l k h.1

  fit_from_lem : {G : Up} (P : Program) (k : ℕ) (os : List Operand) (l : Args) (f : Function) → SignatureFits text f
      → ((s : State) → G.holds s → All (OperandIn s) os) → Keeps text G NamedAll (fit_from P k os l f)
  unfolding fit_from expected_type
  fit_from_lem P k [] l f h n = gives text [] (λ s g. tt)
  fit_from_lem {G = G} P k (o ∷ os) l f h n = then text (fit_keeps P o (expected_type f.params l k) (parameter_word P f.params (value_position l k) h.params) (λ s g. (n s g).0)) λ a.
      then text (fit_from_lem {G = G & Named a} P (suc k) os l f h (λ s g. (n s g.0).1)) λ b.
      gives text (a ∷ b) (λ s g. (g.0.1, g.1))

  emit_args_lem : {G : Up} (l : List Operand) → ((s : State) → G.holds s → All (OperandIn s) l) → Keeps text G Done (emit_args l)
  unfolding emit_args
  emit_args_lem [] n = gives text tt (λ s g. tt)
  emit_args_lem (o ∷ l) n = and_then text (emits text (Arg o) (λ s g. (n s g).0)) (emit_args_lem l (λ s g. (n s g).1))

  -- ---- unary and binary

  unary_keeps : {G : Up} {m : M Operand} (o : UnaryOp) (y : ℕ) → Word y → Keeps text G Named m → Keeps text G Named (convert_unary o y m)
  unfolding convert_unary
  unary_keeps o y h k = then text k λ src.
      then text (new-variable text h) λ dest.
      and_then text (emits text (Unary dest o src) (λ s g. (g.1.0, g.0.1)))
      (gives text (OVar dest) (λ s g. g.1.0))

  rhs_fits : (r : ℕ) → Word r → KnownLabel (logic_rhs r)
  rhs_fits r h = known_label 6 r tt h

  end_fits : (r : ℕ) → Word r → KnownLabel (logic_end r)
  end_fits r h = known_label 7 r tt h

  and_keeps : {G : Up} {a b : M Operand} (r y : ℕ) → Word r → Word y → Keeps text G Named a → Keeps text G Named b
      → Keeps text G Named (convert_and r y a b)
  unfolding convert_and
  and_keeps {G} r y h w left right = then text (new-variable text w) λ dest.
      then text (label_number text (rhs_fits r h)) λ i.
      then text (label_number text (end_fits r h)) λ j.
      then text (from text (λ s g. g.0.0.0) left) λ a.
      and_then text (emits text (Copy dest a) (λ s g. (g.0.0.0.1.0, g.1)))
      (then text (label_number text (end_fits r h)) λ target.
      and_then text (emits text (JumpIfNot (OVar dest) target) (λ s g. (g.0.0.0.0.1.0, g.1)))
      (then text (from text (λ s g. g.0.0.0.0.0) right) λ b.
      and_then text (emits text (Copy dest b) (λ s g. (g.0.0.0.0.0.1.0, g.1)))
      (then text (label_number text (end_fits r h)) λ end.
      and_then text (emits text (Label end) (λ s g. g.1))
      (gives text (OVar dest) (λ s g. g.0.0.0.0.0.0.1.0)))))

  or_keeps : {G : Up} {a b : M Operand} (r y : ℕ) → Word r → Word y → Keeps text G Named a → Keeps text G Named b
      → Keeps text G Named (convert_or r y a b)
  unfolding convert_or
  or_keeps {G} r y h w left right = then text (new-variable text w) λ dest.
      then text (label_number text (rhs_fits r h)) λ i.
      then text (label_number text (end_fits r h)) λ j.
      then text (from text (λ s g. g.0.0.0) left) λ a.
      and_then text (emits text (Copy dest a) (λ s g. (g.0.0.0.1.0, g.1)))
      (then text (label_number text (rhs_fits r h)) λ target.
      and_then text (emits text (JumpIfNot (OVar dest) target) (λ s g. (g.0.0.0.0.1.0, g.1)))
      (then text (label_number text (end_fits r h)) λ end.
      and_then text (emits text (Jump end) (λ s g. g.1))
      (then text (label_number text (rhs_fits r h)) λ rhs.
      and_then text (emits text (Label rhs) (λ s g. g.1))
      (then text (from text (λ s g. g.0.0.0.0.0.0.0) right) λ b.
      and_then text (emits text (Copy dest b) (λ s g. (g.0.0.0.0.0.0.0.1.0, g.1)))
      (then text (label_number text (end_fits r h)) λ stop.
      and_then text (emits text (Label stop) (λ s g. g.1))
      (gives text (OVar dest) (λ s g. g.0.0.0.0.0.0.0.0.1.0)))))))

  module _ (P : Program) (F : Functions) where
    other_keeps : {G : Up} {a b : M Operand} (o : BinaryOp) (y q : ℕ) → Word y → Word q → Keeps text G Named a → Keeps text G Named b
        → Keeps text G Named (convert_other P F o y q a b)
    unfolding convert_other
    other_keeps o y q h k left right = then text left λ a.
        then text (from text (λ s g. g.0) right) λ b.
        then text (fit_keeps P a q k (λ s g. g.0.1)) λ a1.
        then text (fit_keeps P b q k (λ s g. g.0.1)) λ b1.
        then text (new-variable text h) λ dest.
        and_then text (emits text (Binary dest o a1 b1) (λ s g. (g.1.0, g.0.0.1, g.0.1)))
        (gives text (OVar dest) (λ s g. g.1.0))

    binary-by : {G : Up} {a b : M Operand} (o : BinaryOp) (r y q : ℕ) → Word r → Word y → Word q → Keeps text G Named a → Keeps text G Named b
        → Keeps text G Named (convert_binary_by P F o r y q a b)
    unfolding convert_binary_by
    binary-by And r y q i h k left right = and_keeps r y i h left right
    binary-by Or r y q i h k left right = or_keeps r y i h left right
    binary-by BitOr r y q i h k left right = other_keeps BitOr y q h k left right
    binary-by BitXor r y q i h k left right = other_keeps BitXor y q h k left right
    binary-by BitAnd r y q i h k left right = other_keeps BitAnd y q h k left right
    binary-by Eq r y q i h k left right = other_keeps Eq y q h k left right
    binary-by NotEq r y q i h k left right = other_keeps NotEq y q h k left right
    binary-by Lt r y q i h k left right = other_keeps Lt y q h k left right
    binary-by Le r y q i h k left right = other_keeps Le y q h k left right
    binary-by Gt r y q i h k left right = other_keeps Gt y q h k left right
    binary-by Ge r y q i h k left right = other_keeps Ge y q h k left right
    binary-by Shl r y q i h k left right = other_keeps Shl y q h k left right
    binary-by Shr r y q i h k left right = other_keeps Shr y q h k left right
    binary-by Add r y q i h k left right = other_keeps Add y q h k left right
    binary-by Sub r y q i h k left right = other_keeps Sub y q h k left right
    binary-by Mul r y q i h k left right = other_keeps Mul y q h k left right
    binary-by Div r y q i h k left right = other_keeps Div y q h k left right
    binary-by Rem r y q i h k left right = other_keeps Rem y q h k left right

    -- ---- calls

    pub call_keeps : {G : Up} (dest : Option VarId) (f : Function) (l : Args) (os : List Operand) → SignatureFits text f
        → ((s : State) → G.holds s → DestinationIn s dest) → ((s : State) → G.holds s → All (OperandIn s) os)
        → Keeps text G Done (call_function P F dest f l os)
    unfolding call_function fit_args
    call_keeps dest f l os h d n = then text (fit_from_lem P 0 os l f h n) λ a.
        and_then text (emit_args_lem a (λ s g. g.1))
        (emits text (Call dest f.rec_of) (λ s g. (d s g.0, h.rec_of)))

    cast_first_lem : {G : Up} (r : ℕ) (dest : VarId) (l : List Operand) → ((s : State) → G.holds s → VarIn s dest)
        → ((s : State) → G.holds s → All (OperandIn s) l) → Keeps text G Named (cast_first r dest l)
    unfolding cast_first
    cast_first_lem r dest [] d n = fails text WouldPanic r
    cast_first_lem r dest (o ∷ l) d n = and_then text (emits text (Cast dest o) (λ s g. (d s g, (n s g).0))) (gives text (OVar dest) d)

    call_value_lem : {G : Up} (r : ℕ) (dest : VarId) (l : Args) (os : List Operand) (c : Callee) → CalleeFits text c
        → ((s : State) → G.holds s → VarIn s dest) → ((s : State) → G.holds s → All (OperandIn s) os)
        → Keeps text G Named (call_value P F r dest l os c)
    unfolding call_value
    call_value_lem r dest l os (CallFunction f) h d n = and_then text (call_keeps (some dest) f l os h d n) (gives text (OVar dest) d)
    call_value_lem r dest l os (CallCast y) h d n = cast_first_lem r dest os d n

    -- ---- leaves

    found_keeps : {G : Up} (r : ℕ) (o : Option Variable) → ((s : State) → G.holds s → OptIs (λ v. VarIn s v.var_id × TypeFits v) o)
        → Keeps text G Named (name_operand r o)
    unfolding name_operand
    found_keeps r (some v) h = gives text (OVar v.var_id) (λ s g. (held (h s g)).0)
    found_keeps r nothing h = fails text UnknownVariable r

    name_keeps : (r : ℕ) (t : Text) (sc : Scope) → Keeps text (Scoped sc) Named (name_operand r (find_variable t sc))
    unfolding find_variable
    name_keeps r t sc = found_keeps r (find_variable t sc)
        (λ s g. find-is (λ v. VarIn s v.var_id × TypeFits v) t sc.variables g.variables)

    within-small : (o : Option ℕ) → OptIs (λ n. n < 2 ^ 63) (size_within o)
    unfolding size_within
    within-small nothing = none_is
    within-small (some n) = by (ltb n (2 ^ 63)) refl
      where
        by : (b : Bool) → ltb n (2 ^ 63) ≡ b → OptIs (λ k. k < 2 ^ 63) (pick b (some n) nothing)
        by true e = some_is (ltb-true n (2 ^ 63) e)
        by false e = none_is

    size_small : (y : ℕ) → OptIs (λ n. n < 2 ^ 63) (size P.type_of y)
    unfolding size
    size_small y = within-small (fix nothing (size_step P.type_of) y)

    size_keeps : {G : Up} (r : ℕ) (o : Option ℕ) → OptIs (λ n. n < 2 ^ 63) o → Keeps text G Named (size_operand r o)
    unfolding size_operand
    size_keeps r (some n) h = gives text (OInt (pos n) false false) (λ s g. record { sfits = held h })
    size_keeps r nothing h = fails text WouldPanic r

    -- ---- expressions

    module _ (treeFits : TreeFits text P) (functionsFit : KeyedFit text F) where
      pub type_then : {A : Type 0} {R : A → Up} {f : ℕ → M A} {G : Up} (e : Expr) (sc : Scope) → ((s : State) → G.holds s → ScopeIn sc s)
          → ExprFits text e → ((y : ℕ) → Word y → Keeps text G R (f y)) → Keeps text G R (lift (get_type P F e sc) >>= f)
      type_then e sc n h k = lift_then text (λ s g. type-word text P F treeFits functionsFit sc (types_in sc s (n s g)) e h) k

      pub resolve_then : {A : Type 0} {R : A → Up} {f : Callee → M A} {G : Up} (verb : Text) (l : Args) (sc : Scope) (r : ℕ)
          → ((s : State) → G.holds s → ScopeIn sc s) → ArgsFit text l → ((c : Callee) → CalleeFits text c → Keeps text G R (f c))
          → Keeps text G R (lift (resolve_call P F verb l sc r) >>= f)
      resolve_then verb l sc r n h k = lift_then text (λ s g. resolve_fits text P F treeFits functionsFit sc (types_in sc s (n s g)) verb l r h) k

      binary_keeps : {a b : M Operand} (r : ℕ) (o : BinaryOp) (x z : Expr) (y : ℕ) (sc : Scope) → Word r → Word y → ExprFits text x → ExprFits text z
          → Keeps text (Scoped sc) Named a → Keeps text (Scoped sc) Named b → Keeps text (Scoped sc) Named (convert_binary P F r o x z y sc a b)
      unfolding convert_binary
      binary_keeps r o x z y sc i h j k left right =
          lift_then text (λ s g. common_type-word text P F treeFits functionsFit sc (types_in sc s g) x z j k)
          λ c w. binary-by o r y (unwrap_or y c) i h (unwrap_is y h w) left right

      call_value_keeps : {m : M (List Operand)} (r : ℕ) (verb : Text) (l : Args) (y : ℕ) (sc : Scope) → Word y → ArgsFit text l
          → Keeps text (Scoped sc) NamedAll m → Keeps text (Scoped sc) Named (convert_call_value P F r verb l y sc m)
      unfolding convert_call_value
      call_value_keeps r verb l y sc h k values = resolve_then verb l sc r (λ s g. g) k λ c j.
          then text values λ operands.
          then text (new-variable text h) λ dest.
          call_value_lem r dest l operands c j (λ s g. g.1.0) (λ s g. g.0.1)

      mutual
        unfolding convert_expr

        pub expr_keeps : (e : Expr) (sc : Scope) → ExprFits text e → Keeps text (Scoped sc) Named (convert_expr P F e sc)
        expr_keeps (EInt r v short unsigned) sc h = gives text (OInt v short unsigned) (λ s g. h)
        expr_keeps (EFloat r b short) sc h = then text (float_number text {e = record { bits = b; short = short }} (record { bits = h })) λ i.
            gives text (OFloat i) (λ s g. g.1)
        expr_keeps (EBool r b) sc h = gives text (OBool b) (λ s g. tt)
        expr_keeps (ENull r) sc h = gives text ONull (λ s g. tt)
        expr_keeps (EName r t) sc h = name_keeps r t sc
        expr_keeps (EStr r o n t) sc h =
            then text (string_number text {e = record { offset = o; len = n; text = t }} (record { offset = h.0; len = h.1; stands = sym h.2 })) λ i.
            gives text (ODataAddress i) (λ s g. g.1)
        expr_keeps (ESizeOf r y) sc h = size_keeps r (size P.type_of y) (size_small y)
        expr_keeps (EUnary r o a) sc h = type_then (EUnary r o a) sc (λ s g. g) h λ y w.
            unary_keeps o y w (expr_keeps a sc h)
        expr_keeps (EBinary r o a b) sc h = type_then (EBinary r o a b) sc (λ s g. g) h λ y w.
            binary_keeps r o a b y sc h.0 w h.1 h.2 (expr_keeps a sc h.1) (expr_keeps b sc h.2)
        expr_keeps (ECall r verb l) sc h = type_then (ECall r verb l) sc (λ s g. g) h λ y w.
            call_value_keeps r verb l y sc w h (args_keeps l sc h)

        pub args_keeps : (l : Args) (sc : Scope) → ArgsFit text l → Keeps text (Scoped sc) NamedAll (convert_args P F l sc)
        args_keeps no_args sc h = gives text [] (λ s g. tt)
        args_keeps (Value r e l) sc h = then text (expr_keeps e sc h.0) λ o.
            then text (from text (λ s g. g.0) (args_keeps l sc h.1)) λ os.
            gives text (o ∷ os) (λ s g. (g.0.1, g.1))
        args_keeps (ToType r y l) sc h = args_keeps l sc h.1
