-- The kinds by name are the numbers of document 01's table, in its order: each name is pinned, also one that no rule cites.
-- By computation. Assumes nothing.
use mathlib.Core.Path.{◌≡◌, refl}
use mathlib.Core.List.{List, [], ◌∷◌}
use Prim.Native.Nat.{ℕ}
use Rattle.records.specs.Kinds.{kind_type, kind_int, kind_float, kind_str, kind_bool, kind_name, kind_null, kind_size_of, kind_unary, kind_binary, kind_call, kind_list, kind_value, kind_type_argument, kind_declare, kind_init, kind_return, kind_call_statement, kind_if, kind_while, kind_for, kind_break, kind_continue, kind_variable, kind_function}

pub kinds_in_order : ◌≡◌ {A = List ℕ} (kind_type ∷ kind_int ∷ kind_float ∷ kind_str ∷ kind_bool ∷ kind_name ∷ kind_null ∷ kind_size_of ∷ kind_unary ∷ kind_binary ∷ kind_call ∷ kind_list ∷ kind_value ∷ kind_type_argument ∷ kind_declare ∷ kind_init ∷ kind_return ∷ kind_call_statement ∷ kind_if ∷ kind_while ∷ kind_for ∷ kind_break ∷ kind_continue ∷ kind_variable ∷ kind_function ∷ [])
    (1 ∷ 2 ∷ 3 ∷ 4 ∷ 5 ∷ 6 ∷ 7 ∷ 8 ∷ 9 ∷ 10 ∷ 11 ∷ 12 ∷ 13 ∷ 14 ∷ 15 ∷ 16 ∷ 17 ∷ 18 ∷ 19 ∷ 20 ∷ 21 ∷ 22 ∷ 23 ∷ 24 ∷ 25 ∷ [])
kinds_in_order = refl
