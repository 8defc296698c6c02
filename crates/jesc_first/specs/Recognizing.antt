-- A recognizer of the first profile: it goes over the lexemes from left to right, and stops where no file goes on.
-- It knows the whole grammar and the rules on names, but that any name may stand in a specification, whose parameters
-- come behind it.
use Rattle.std.specs.Prelude.{ℕ, ◌-◌, Bool, true, false, ◌||◌, ◌&&◌, not, if◌then◌else◌, nat_lt, List, [], ◌∷◌, ◌++◌, length, codes, Option, Some, None, bytes_eq}
use Rattle.std.specs.Option.{is_some}
use Rattle.jesc_lexer.specs.declared.token.TokenKind.{TokenKind}
use Rattle.jesc_lexer.specs.declared.token.TokenKind.TheVariants.{Word, Backslash, Number, Sign}
use Rattle.jesc_ast.specs.Lexemes.{Lexeme}
use Rattle.jesc_first.specs.declared.reader.phase.Seat.{Seat}
use Rattle.jesc_first.specs.declared.reader.phase.Seat.TheVariants.{DemandLeft, DemandRight, PromiseLeft, PromiseRight, AssertionLeft, AssertionRight, Initial, Assigned, Returned}
use Rattle.jesc_first.specs.declared.reader.phase.Phase.{Phase}
use Rattle.jesc_first.specs.declared.reader.phase.Phase.TheVariants.{Classes, ClassName, ClassBrace, Methods, Demands, Promises, Part, Behind, Result, MethodName, Opening, FirstParameter, Parameter, ParameterName, NextParameter, BodyBrace, Statement, LocalName, LocalEquals, AssignedEquals, Closing}
use Rattle.jesc_first.specs.Parsing.{Texts, same_kind, same_side, is_token, is_plain, is_name_text, slot_in, number_in}

-- Where the recognizer stands, the names of classes and of the methods of the class, the names in scope, whether the
-- method returns a value, and whether `\result` was told in its specification.
pub record State : Type 0 where
  pub phase : Phase
  pub classes : Texts
  pub methods : Texts
  pub scope : Texts
  pub returns : Bool
  pub told : Bool

-- `before` are the names of classes of earlier files
abbrev pub start : Texts → State
start before = record { phase = Classes; classes = before; methods = []; scope = []; returns = false; told = false }

-- whether a part of a sum comes next
abbrev pub is_before_part : Phase → Bool
is_before_part (Part seat) = true
is_before_part other = false

-- ---- tests of a lexeme

abbrev pub is_word : Bool → List ℕ → Lexeme → Bool
is_word note text x = is_token Word note text x

abbrev pub is_sign : Bool → List ℕ → Lexeme → Bool
is_sign note text x = is_token Sign note text x

-- a name outside annotations that isn't there yet
abbrev pub is_new : Texts → Lexeme → Bool
is_new names x = is_plain x && is_name_text x.text && not (is_some (slot_in names x.text))

abbrev pub is_below : ℕ → Option ℕ → Bool
is_below n None = false
is_below n (Some slot) = nat_lt slot n

-- whether a sum stands in an annotation
abbrev pub is_noted : Seat → Bool
is_noted DemandLeft = true
is_noted DemandRight = true
is_noted PromiseLeft = true
is_noted PromiseRight = true
is_noted AssertionLeft = true
is_noted AssertionRight = true
is_noted Initial = false
is_noted Assigned = false
is_noted Returned = false

abbrev pub is_promise : Seat → Bool
is_promise DemandLeft = false
is_promise DemandRight = false
is_promise PromiseLeft = true
is_promise PromiseRight = true
is_promise AssertionLeft = false
is_promise AssertionRight = false
is_promise Initial = false
is_promise Assigned = false
is_promise Returned = false

-- Any name in a specification, and else a name in scope; that of a local, the last one, isn't in scope in its own value.
abbrev pub may_name : Seat → Texts → List ℕ → Bool
may_name DemandLeft scope text = is_name_text text
may_name DemandRight scope text = is_name_text text
may_name PromiseLeft scope text = is_name_text text
may_name PromiseRight scope text = is_name_text text
may_name AssertionLeft scope text = is_below (length scope) (slot_in scope text)
may_name AssertionRight scope text = is_below (length scope) (slot_in scope text)
may_name Initial scope text = is_below (length scope - 1) (slot_in scope text)
may_name Assigned scope text = is_below (length scope) (slot_in scope text)
may_name Returned scope text = is_below (length scope) (slot_in scope text)

abbrev pub is_part_text : Seat → Texts → List ℕ → TokenKind → Bool
is_part_text seat scope text Word = may_name seat scope text
is_part_text seat scope text Number = is_some (number_in text)
is_part_text seat scope text Backslash = is_promise seat && bytes_eq text (codes "\\result")
is_part_text seat scope text Sign = false

abbrev pub is_part : Seat → Texts → Lexeme → Bool
is_part seat scope x = same_side x.note (is_noted seat) && is_part_text seat scope x.text x.kind

abbrev pub is_operator : Bool → Lexeme → Bool
is_operator note x = is_sign note (codes "+") x || is_sign note (codes "-") x

abbrev pub is_comparison : Lexeme → Bool
is_comparison x = is_sign true (codes "<") x || is_sign true (codes "<=") x || is_sign true (codes ">") x || is_sign true (codes ">=") x || is_sign true (codes "==") x

-- ---- the phase behind a lexeme

abbrev pub to : Bool → Phase → Option Phase
to test phase = if test then Some phase else None

-- a clause, or the heading of a method
abbrev pub in_specification : Bool → Lexeme → Option Phase
in_specification demands x =
    if demands && is_word true (codes "requires") x then Some (Part DemandLeft)
    else (if is_word true (codes "ensures") x then Some (Part PromiseLeft) else to (is_word false (codes "static") x) Result)

-- a method with its specification, or the end of the class
abbrev pub in_class : Lexeme → Option Phase
in_class x = if is_sign false (codes "}") x then Some Classes else in_specification true x

-- a parameter, or the end of none
abbrev pub in_parameters : Lexeme → Option Phase
in_parameters x = if is_sign false (codes ")") x then Some BodyBrace else to (is_word false (codes "int") x) ParameterName

-- a further parameter, or the end of them
abbrev pub behind_parameter : Lexeme → Option Phase
behind_parameter x = if is_sign false (codes ",") x then Some Parameter else to (is_sign false (codes ")") x) BodyBrace

-- what ends a sum
abbrev pub behind_sum : Seat → Lexeme → Option Phase
behind_sum DemandLeft x = to (is_comparison x) (Part DemandRight)
behind_sum DemandRight x = to (is_sign true (codes ";") x) Demands
behind_sum PromiseLeft x = to (is_comparison x) (Part PromiseRight)
behind_sum PromiseRight x = to (is_sign true (codes ";") x) Promises
behind_sum AssertionLeft x = to (is_comparison x) (Part AssertionRight)
behind_sum AssertionRight x = to (is_sign true (codes ";") x) Statement
behind_sum Initial x = to (is_sign false (codes ";") x) Statement
behind_sum Assigned x = to (is_sign false (codes ";") x) Statement
behind_sum Returned x = to (is_sign false (codes ";") x) Closing

abbrev pub behind_part : Seat → Lexeme → Option Phase
behind_part seat x = if is_operator (is_noted seat) x then Some (Part seat) else behind_sum seat x

-- the end of a body
abbrev pub in_end : Bool → Lexeme → Option Phase
in_end true x = to (is_word false (codes "return") x) (Part Returned)
in_end false x = to (is_sign false (codes "}") x) Methods

abbrev pub in_body : Bool → Texts → Lexeme → Option Phase
in_body returns scope x =
    if is_word false (codes "int") x then Some LocalName
    else (if is_word true (codes "assert") x then Some (Part AssertionLeft)
    else (if is_plain x && is_some (slot_in scope x.text) then Some AssignedEquals else in_end returns x))

abbrev pub in_result : Bool → Lexeme → Option Phase
in_result told x = if is_word false (codes "int") x then Some MethodName else to (not told && is_word false (codes "void") x) MethodName

-- None where no file goes on with the lexeme
abbrev pub next : Phase → State → Lexeme → Option Phase
next Classes s x = to (is_word false (codes "class") x) ClassName
next ClassName s x = to (is_new s.classes x) ClassBrace
next ClassBrace s x = to (is_sign false (codes "{") x) Methods
next Methods s x = in_class x
next Demands s x = in_specification true x
next Promises s x = in_specification false x
next (Part seat) s x = to (is_part seat s.scope x) (Behind seat)
next (Behind seat) s x = behind_part seat x
next Result s x = in_result s.told x
next MethodName s x = to (is_new s.methods x) Opening
next Opening s x = to (is_sign false (codes "(") x) FirstParameter
next FirstParameter s x = in_parameters x
next Parameter s x = to (is_word false (codes "int") x) ParameterName
next ParameterName s x = to (is_new s.scope x) NextParameter
next NextParameter s x = behind_parameter x
next BodyBrace s x = to (is_sign false (codes "{") x) Statement
next Statement s x = in_body s.returns s.scope x
next LocalName s x = to (is_new s.scope x) LocalEquals
next LocalEquals s x = to (is_sign false (codes "=") x) (Part Initial)
next AssignedEquals s x = to (is_sign false (codes "=") x) (Part Assigned)
next Closing s x = to (is_sign false (codes "}") x) Methods

-- ---- what a lexeme tells

abbrev pub put_by : Texts → List ℕ → Option ℕ → Texts
put_by names text None = names ++ text ∷ []
put_by names text (Some slot) = names

-- the names with this one
abbrev pub put : Texts → List ℕ → Texts
put names text = put_by names text (slot_in names text)

abbrev pub learned : Phase → State → Lexeme → State
learned ClassName s x = record s { classes = put s.classes x.text; methods = [] }
learned MethodName s x = record s { methods = put s.methods x.text; scope = [] }
learned ParameterName s x = record s { scope = put s.scope x.text }
learned LocalName s x = record s { scope = put s.scope x.text }
learned Result s x = record s { returns = is_word false (codes "int") x; told = false }
learned (Part seat) s x = record s { told = s.told || same_kind x.kind Backslash }
learned Classes s x = s
learned ClassBrace s x = s
learned Methods s x = s
learned Demands s x = s
learned Promises s x = s
learned (Behind seat) s x = s
learned Opening s x = s
learned FirstParameter s x = s
learned Parameter s x = s
learned NextParameter s x = s
learned BodyBrace s x = s
learned Statement s x = s
learned LocalEquals s x = s
learned AssignedEquals s x = s
learned Closing s x = s

-- ---- lexeme by lexeme

abbrev pub entered : State → Option Phase → Option State
entered s None = None
entered s (Some phase) = Some (record s { phase = phase })

abbrev pub step : State → Lexeme → Option State
step s x = entered (learned s.phase s x) (next s.phase s x)

abbrev pub run_on : Option State → List Lexeme → Option State
run_on None xs = None
run_on (Some s) [] = Some s
run_on (Some s) (x ∷ xs) = run_on (step s x) xs

abbrev pub run : State → List Lexeme → Option State
run s xs = run_on (Some s) xs
