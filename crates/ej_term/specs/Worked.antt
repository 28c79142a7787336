-- Worked rows: what the definitions say of some terms.
use Rattle.std.specs.Prelude.{◌≡◌, ℕ, pos, negsuc, ◌-◌, ◌^◌, true, false, List, [], ◌∷◌, codes}
use Rattle.std.specs.Prelude as std
use Rattle.std.specs.declared.cmp.Ordering.TheVariants.{Less, Greater}
use Rattle.ej_term.specs.declared.asm_term.AsmTerm.TheVariants as asm
use Rattle.ej_term.specs.declared.class.Class3.TheVariants.{Error, Throw}
use Rattle.ej_term.specs.Term.{Term, Int, Atom, Reference, Fun, Pid, Map, Nil, Cons, None, Empty, Pair, list, tuple, terms}
use Rattle.ej_term.specs.Order.{compare}
use Rattle.ej_term.specs.Outcome.{Value, Raised, number, boolean, badarg, badarith, system_limit}
use Rattle.ej_term.specs.declared.builtin.Builtin.TheVariants as builtin
use Rattle.ej_term.specs.declared.test.Test.TheVariants as tested
use Rattle.ej_term.specs.BuiltinNumbers.{builtin_numbered}
use Rattle.ej_term.specs.TestNumbers.{test_numbered}
use Rattle.ej_term.specs.Tests.{test}
use Rattle.ej_term.specs.Builtins.{pure}
use Rattle.ej_term.specs.Maps.{badmap, badkey}
use Rattle.ej_term.specs.Digits.{string}
use Rattle.ej_term.specs.TermPrint as term
use Rattle.ej_term.specs.Print.{print}

abbrev pub a : Term
a = Atom (codes "a")

abbrev pub b : Term
b = Atom (codes "b")

-- the greatest and the least integer
abbrev pub greatest : Term
greatest = Int (pos (2 ^ 63 - 1))

abbrev pub least : Term
least = Int (negsuc (2 ^ 63 - 1))

-- `fun lists:reverse/2`, and a local fun with one free variable
abbrev pub external : Term
external = Fun false (codes "lists") (codes "reverse") 2 None

abbrev pub local : Term
local = Fun true (codes "m") (codes "g") 1 (terms (number 0 ∷ []))

-- `#{1=>a}`
abbrev pub one_map : Term
one_map = Map (Pair (number 1) a Empty)

-- kinds first, a tuple's size before its elements, a list by its elements, and a map's keys before its values
pub record OrderRows : Type 0 where
  pub number_atom : compare (number 1) a ≡ Less
  pub atom_reference : compare a (Reference 0 0) ≡ Less
  pub reference_fun : compare (Reference 9 9) local ≡ Less
  pub local_external : compare local external ≡ Less
  pub fun_pid : compare external (Pid 0 0) ≡ Less
  pub pid_tuple : compare (Pid 0 0) (tuple []) ≡ Less
  pub tuple_map : compare (tuple (a ∷ a ∷ [])) (Map Empty) ≡ Less
  pub map_nil : compare one_map Nil ≡ Less
  pub nil_list : compare Nil (list (number 1 ∷ [])) ≡ Less
  pub negative : compare least (number 0) ≡ Less
  pub prefix : compare (Atom (codes "b")) (Atom (codes "ab")) ≡ Greater
  pub by_size : compare (tuple (b ∷ [])) (tuple (a ∷ a ∷ [])) ≡ Less
  pub by_element : compare (list (b ∷ [])) (list (a ∷ a ∷ [])) ≡ Greater
  pub improper : compare (Cons a b) (list (a ∷ [])) ≡ Less
  pub keys_first : compare (Map (Pair a b Empty)) (Map (Pair b a Empty)) ≡ Less
  pub pids : compare (Pid 0 5) (Pid 1 0) ≡ Less

pub record NumberRows : Type 0 where
  pub no_builtin : builtin_numbered 0 ≡ std.None
  pub add : builtin_numbered 1 ≡ std.Some builtin.Add
  pub div : builtin_numbered 4 ≡ std.Some builtin.Div
  pub rem : builtin_numbered 5 ≡ std.Some builtin.Rem
  pub equal : builtin_numbered 15 ≡ std.Some builtin.Equal
  pub exactly_equal : builtin_numbered 21 ≡ std.Some builtin.ExactlyEqual
  pub hd : builtin_numbered 27 ≡ std.Some builtin.Hd
  pub tl : builtin_numbered 28 ≡ std.Some builtin.Tl
  pub map_get : builtin_numbered 33 ≡ std.Some builtin.MapGet
  pub is_map_key : builtin_numbered 34 ≡ std.Some builtin.IsMapKey
  pub self : builtin_numbered 35 ≡ std.Some builtin.SelfPid
  pub maps_get : builtin_numbered 60 ≡ std.Some builtin.MapsGet
  pub send : builtin_numbered 80 ≡ std.Some builtin.Send
  pub make_ref : builtin_numbered 90 ≡ std.Some builtin.MakeRef
  pub past_builtins : builtin_numbered 91 ≡ std.None
  pub no_test : test_numbered 0 ≡ std.None
  pub is_integer : test_numbered 7 ≡ std.Some tested.IsInteger
  pub is_number : test_numbered 8 ≡ std.Some tested.IsNumber
  pub is_list : test_numbered 13 ≡ std.Some tested.IsList
  pub is_nonempty_list : test_numbered 14 ≡ std.Some tested.IsNonemptyList
  pub is_port : test_numbered 25 ≡ std.Some tested.IsPort
  pub past_tests : test_numbered 26 ≡ std.None

pub record TestRows : Type 0 where
  pub is_lt : test 1 (number 1 ∷ a ∷ []) ≡ true
  pub is_ge : test 2 (a ∷ number 1 ∷ []) ≡ true
  pub is_eq_exact : test 5 (list (a ∷ []) ∷ Cons a Nil ∷ []) ≡ true
  pub is_list : test 13 (Cons a b ∷ []) ≡ true
  pub nil_is_list : test 13 (Nil ∷ []) ≡ true
  pub is_nonempty_list : test 14 (Nil ∷ []) ≡ false
  pub test_arity : test 16 (tuple (a ∷ b ∷ []) ∷ number 2 ∷ []) ≡ true
  pub is_boolean : test 17 (boolean false ∷ []) ≡ true
  pub is_function2 : test 19 (local ∷ number 1 ∷ []) ≡ true
  pub is_tagged_tuple : test 21 (tuple (a ∷ b ∷ []) ∷ number 2 ∷ b ∷ []) ≡ false
  pub no_size : test 21 (tuple [] ∷ number 0 ∷ a ∷ []) ≡ false
  pub is_float : test 22 (number 1 ∷ []) ≡ false

pub record ArithmeticRows : Type 0 where
  pub overflow : pure 1 (greatest ∷ number 1 ∷ []) ≡ system_limit
  pub quotient : pure 4 (least ∷ Int (negsuc 0) ∷ []) ≡ system_limit
  pub remainder : pure 5 (least ∷ Int (negsuc 0) ∷ []) ≡ Value (number 0)
  pub truncated : pure 4 (Int (negsuc 6) ∷ number 2 ∷ []) ≡ Value (Int (negsuc 2))
  pub signed : pure 5 (Int (negsuc 6) ∷ number 2 ∷ []) ≡ Value (Int (negsuc 0))
  pub by_zero : pure 4 (number 1 ∷ number 0 ∷ []) ≡ badarith
  pub no_number : pure 1 (a ∷ number 1 ∷ []) ≡ badarith
  pub masked : pure 6 (Int (negsuc 0) ∷ number 5 ∷ []) ≡ Value (number 5)
  pub shifted : pure 9 (number 1 ∷ number 62 ∷ []) ≡ Value (Int (pos (2 ^ 62)))
  pub too_far : pure 9 (number 1 ∷ number 63 ∷ []) ≡ system_limit
  pub zero_shifted : pure 9 (number 0 ∷ greatest ∷ []) ≡ Value (number 0)
  pub rounded_down : pure 10 (Int (negsuc 0) ∷ greatest ∷ []) ≡ Value (Int (negsuc 0))
  pub back : pure 10 (number 1 ∷ least ∷ []) ≡ system_limit
  pub absolute : pure 14 (a ∷ []) ≡ badarg

pub record ListRows : Type 0 where
  pub head : pure 27 (Cons a b ∷ []) ≡ Value a
  pub tail : pure 28 (Cons a b ∷ []) ≡ Value b
  pub length : pure 29 (Cons a b ∷ []) ≡ badarg
  pub append : pure 51 (list (a ∷ []) ∷ b ∷ []) ≡ Value (Cons a b)
  pub subtract : pure 52 (list (a ∷ b ∷ a ∷ []) ∷ list (a ∷ []) ∷ []) ≡ Value (list (b ∷ a ∷ []))
  pub reverse : pure 57 (list (number 1 ∷ number 2 ∷ []) ∷ list (number 3 ∷ []) ∷ []) ≡ Value (list (number 2 ∷ number 1 ∷ number 3 ∷ []))
  pub before_tail : pure 58 (a ∷ Cons a b ∷ []) ≡ Value (boolean true)
  pub bad_tail : pure 58 (a ∷ Cons b a ∷ []) ≡ badarg
  pub found : pure 59 (b ∷ number 2 ∷ list (a ∷ tuple (b ∷ []) ∷ tuple (a ∷ b ∷ []) ∷ []) ∷ []) ≡ Value (tuple (a ∷ b ∷ []))
  pub element : pure 31 (number 2 ∷ tuple (a ∷ b ∷ []) ∷ []) ≡ Value b
  pub no_element : pure 31 (number 3 ∷ tuple (a ∷ b ∷ []) ∷ []) ≡ badarg
  pub changed : pure 53 (number 1 ∷ tuple (a ∷ []) ∷ b ∷ []) ≡ Value (tuple (b ∷ []))

pub record MapRows : Type 0 where
  pub get : pure 60 (number 1 ∷ one_map ∷ []) ≡ Value a
  pub is_key : pure 34 (number 1 ∷ one_map ∷ []) ≡ Value (boolean true)
  pub no_key : pure 33 (b ∷ one_map ∷ []) ≡ badkey b
  pub no_map : pure 33 (a ∷ b ∷ []) ≡ badmap b
  pub find : pure 61 (a ∷ one_map ∷ []) ≡ Value (Atom (codes "error"))
  pub put : pure 62 (number 0 ∷ b ∷ one_map ∷ []) ≡ Value (Map (Pair (number 0) b (Pair (number 1) a Empty)))
  pub later : pure 69 (list (tuple (a ∷ a ∷ []) ∷ tuple (a ∷ b ∷ []) ∷ []) ∷ []) ≡ Value (Map (Pair a b Empty))
  pub merge : pure 70 (one_map ∷ Map (Pair (number 1) b Empty) ∷ []) ≡ Value (Map (Pair (number 1) b Empty))
  pub first_no_map : pure 70 (a ∷ b ∷ []) ≡ badmap a

pub record OtherRows : Type 0 where
  pub digits : pure 73 (string (codes "-12") ∷ []) ≡ Value (Int (negsuc 11))
  pub no_digits : pure 73 (string (codes "+") ∷ []) ≡ badarg
  pub too_long : pure 73 (string (codes "9223372036854775808") ∷ []) ≡ system_limit
  pub not_all : pure 73 (string (codes "9223372036854775808a") ∷ []) ≡ badarg
  pub error : pure 75 (a ∷ b ∷ []) ≡ Raised Error a
  pub raise : pure 78 (Atom (codes "throw") ∷ a ∷ Nil ∷ []) ≡ Raised Throw a
  pub no_class : pure 78 (Atom (codes "foo") ∷ a ∷ Nil ∷ []) ≡ Value (Atom (codes "badarg"))

pub record PrintRows : Type 0 where
  pub improper : term.print (Cons (number 1) (Cons (number 2) (number 3))) ≡ codes "[1,2|3]"
  pub quoted : term.print (tuple (Atom (codes "end") ∷ Atom (codes "A'") ∷ Atom (233 ∷ []) ∷ [])) ≡ codes "{'end','A\\'','\\x{E9}'}"
  pub funs : term.print (tuple (local ∷ external ∷ [])) ≡ codes "{#Fun<m,g,1,[0]>,fun lists:reverse/2}"
  pub numbered : term.print (list (Pid 0 1 ∷ Reference 2 3 ∷ [])) ≡ codes "[#Pid<0.1>,#Ref<2.3>]"
  pub map : print (asm.Map ((asm.Atom (codes "b"), asm.Int (pos 2)) ∷ (asm.Atom (codes "a"), asm.Int (pos 1)) ∷ [])) ≡ codes "#{a=>1,b=>2}"
  pub later : print (asm.Map ((asm.Str (97 ∷ []), asm.Int (pos 1)) ∷ (asm.List (asm.Int (pos 97) ∷ []) std.None, asm.Int (pos 2)) ∷ [])) ≡ codes "#{[97]=>2}"
  pub opaque : print (asm.Tuple (asm.Opaque (codes "1.0") ∷ asm.Str (codes "a") ∷ [])) ≡ codes "{1.0,[97]}"
