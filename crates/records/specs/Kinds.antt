-- Document 01's table 'kind | detail and words': the kinds of records by name, and three forms of types. Assumes nothing: these are definitions.
use Rattle.std.specs.Prelude.{ℕ}

abbrev pub kind_type : ℕ
kind_type = 1

abbrev pub kind_int : ℕ
kind_int = 2

abbrev pub kind_float : ℕ
kind_float = 3

abbrev pub kind_str : ℕ
kind_str = 4

abbrev pub kind_bool : ℕ
kind_bool = 5

abbrev pub kind_name : ℕ
kind_name = 6

abbrev pub kind_null : ℕ
kind_null = 7

abbrev pub kind_size_of : ℕ
kind_size_of = 8

abbrev pub kind_unary : ℕ
kind_unary = 9

abbrev pub kind_binary : ℕ
kind_binary = 10

abbrev pub kind_call : ℕ
kind_call = 11

abbrev pub kind_list : ℕ
kind_list = 12

abbrev pub kind_value : ℕ
kind_value = 13

abbrev pub kind_type_argument : ℕ
kind_type_argument = 14

abbrev pub kind_declare : ℕ
kind_declare = 15

abbrev pub kind_init : ℕ
kind_init = 16

abbrev pub kind_return : ℕ
kind_return = 17

abbrev pub kind_call_statement : ℕ
kind_call_statement = 18

abbrev pub kind_if : ℕ
kind_if = 19

abbrev pub kind_while : ℕ
kind_while = 20

abbrev pub kind_for : ℕ
kind_for = 21

abbrev pub kind_break : ℕ
kind_break = 22

abbrev pub kind_continue : ℕ
kind_continue = 23

abbrev pub kind_variable : ℕ
kind_variable = 24

abbrev pub kind_function : ℕ
kind_function = 25

-- '6 Address (A inner), 7 Array (A element, B C count low, high), 8 Custom (A B name)': what a type's detail says without its marks
abbrev pub form_address : ℕ
form_address = 6

abbrev pub form_array : ℕ
form_array = 7

abbrev pub form_custom : ℕ
form_custom = 8
