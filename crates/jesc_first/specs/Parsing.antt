-- The reader as functions on lists of lexemes: what each rule reads from the front, and what is left.
use Rattle.std.specs.Prelude.{ℕ, zero, suc, Bool, true, false, ◌&&◌, not, if◌then◌else◌, nat_le, nat_eq, List, [], ◌∷◌, ◌++◌, length, codes, Option, Some, None, position, bytes_eq}
use Rattle.std.specs.List.{list_all}
use Rattle.std.specs.Fmt.{decimal}
use Rattle.std.specs.Str.Parse.{digits_value}
use Rattle.std.specs.Option.{option_map}
use Rattle.jesc_lexer.specs.declared.token.TokenKind.{TokenKind}
use Rattle.jesc_lexer.specs.declared.token.TokenKind.TheVariants.{Word, Backslash, Number as Digits, Sign}
use Rattle.jesc_first.specs.declared.tree.Operator.{Operator}
use Rattle.jesc_first.specs.declared.tree.Operator.TheVariants.{Plus, Minus}
use Rattle.jesc_first.specs.declared.tree.Comparison.{Comparison}
use Rattle.jesc_first.specs.declared.tree.Comparison.TheVariants.{Less, AtMost, Greater, AtLeast, Equal}
use Rattle.jesc_first.specs.declared.tree.Part.{Part}
use Rattle.jesc_first.specs.declared.tree.Part.TheVariants.{Number, Slot, Outcome}
use Rattle.jesc_first.specs.declared.tree.Operation.{Operation}
use Rattle.jesc_first.specs.declared.tree.Sum.{Sum}
use Rattle.jesc_first.specs.declared.tree.Condition.{Condition}
use Rattle.jesc_first.specs.declared.tree.Clause.{Clause}
use Rattle.jesc_first.specs.declared.tree.Stmt.{Stmt}
use Rattle.jesc_first.specs.declared.tree.Stmt.TheVariants.{Local, Assign, Assert}
use Rattle.jesc_first.specs.declared.tree.Method.{Method}
use Rattle.jesc_first.specs.declared.tree.Class.{Class}
use Rattle.jesc_ast.specs.Lexemes.{Lexeme}
use Rattle.jesc_first.specs.Names.{is_letter, is_word_byte}
use Rattle.jesc_first.specs.Names.{is_reserved}

abbrev pub Texts : Type 0
Texts = List (List ℕ)

-- what was read, and the lexemes that are left; None where the lexemes don't begin with the rule
abbrev pub Parsed : Type 0 → Type 0
Parsed A = Option (A × List Lexeme)

abbrev pub and_then : {A B : Type 0} → Parsed A → (A → List Lexeme → Parsed B) → Parsed B
and_then None next = None
and_then (Some read) next = next read.0 read.1

-- ---- single lexemes

abbrev pub same_kind : TokenKind → TokenKind → Bool
same_kind Word Word = true
same_kind Backslash Backslash = true
same_kind Digits Digits = true
same_kind Sign Sign = true
same_kind Word Backslash = false
same_kind Word Digits = false
same_kind Word Sign = false
same_kind Backslash Word = false
same_kind Backslash Digits = false
same_kind Backslash Sign = false
same_kind Digits Word = false
same_kind Digits Backslash = false
same_kind Digits Sign = false
same_kind Sign Word = false
same_kind Sign Backslash = false
same_kind Sign Digits = false

abbrev pub same_side : Bool → Bool → Bool
same_side true note = note
same_side false note = not note

abbrev pub is_token : TokenKind → Bool → List ℕ → Lexeme → Bool
is_token kind note text token = same_kind token.kind kind && same_side token.note note && bytes_eq token.text text

-- the offset of this token, where it comes next
abbrev pub expected : TokenKind → Bool → List ℕ → List Lexeme → Parsed ℕ
expected kind note text [] = None
expected kind note text (token ∷ rest) = if is_token kind note text token then Some (token.span.from, rest) else None

abbrev pub begins_with : TokenKind → Bool → List ℕ → List Lexeme → Bool
begins_with kind note text [] = false
begins_with kind note text (token ∷ rest) = is_token kind note text token

abbrev pub offset_of_next : List Lexeme → ℕ
offset_of_next [] = 0
offset_of_next (token ∷ rest) = token.span.from

abbrev pub is_word_text : List ℕ → Bool
is_word_text [] = false
is_word_text (b ∷ bytes) = is_letter b && list_all is_word_byte bytes

abbrev pub is_name_text : List ℕ → Bool
is_name_text text = is_word_text text && not (is_reserved text)

abbrev pub is_plain : Lexeme → Bool
is_plain token = same_kind token.kind Word && not token.note

-- a name outside annotations
abbrev pub name_in : List Lexeme → Parsed (List ℕ)
name_in [] = None
name_in (token ∷ rest) = if is_plain token && is_name_text token.text then Some (token.text, rest) else None

-- the first place of a text in a scope
abbrev pub slot_in : Texts → List ℕ → Option ℕ
slot_in scope text = position (λ name. bytes_eq text name) scope

-- a number at most 2147483647 without a leading zero
abbrev pub number_in : List ℕ → Option ℕ
number_in text = let n = digits_value 10 text in if nat_le n 2147483647 && bytes_eq text (decimal n) then Some n else None

-- ---- sums

abbrev pub part_of_kind : Bool → Texts → List ℕ → TokenKind → Option Part
part_of_kind outcome scope text Word = option_map Slot (slot_in scope text)
part_of_kind outcome scope text Digits = option_map Number (number_in text)
part_of_kind outcome scope text Backslash = if outcome && bytes_eq text (codes "\\result") then Some Outcome else None
part_of_kind outcome scope text Sign = None

abbrev pub part_and : Option Part → List Lexeme → Parsed Part
part_and None rest = None
part_and (Some part) rest = Some (part, rest)

abbrev pub part_in : Bool → Bool → Texts → List Lexeme → Parsed Part
part_in note outcome scope [] = None
part_in note outcome scope (token ∷ rest) =
    if same_side token.note note then part_and (part_of_kind outcome scope token.text token.kind) rest else None

-- the next token as an operator, with its offset; None, and nothing is taken, where it is none
abbrev pub operator_in : Bool → List Lexeme → Option (Operator × ℕ) × List Lexeme
operator_in note [] = (None, [])
operator_in note (token ∷ rest) =
    if is_token Sign note (codes "+") token then (Some (Plus, token.span.from), rest)
    else (if is_token Sign note (codes "-") token then (Some (Minus, token.span.from), rest) else (None, token ∷ rest))

abbrev pub operation_after : Bool → Bool → Texts → Option (Operator × ℕ) → List Lexeme → Parsed (Option Operation)
operation_after note outcome scope None tokens = Some (None, tokens)
operation_after note outcome scope (Some operator) tokens =
    and_then (part_in note outcome scope tokens) (λ part rest. Some (Some (record { operator = operator.0; at = operator.1; part = part }), rest))

abbrev pub operation_in : Bool → Bool → Texts → List Lexeme → Parsed (Option Operation)
operation_in note outcome scope tokens = operation_after note outcome scope (operator_in note tokens).0 (operator_in note tokens).1

-- ---- repetition: the same rule again and again, until it finds nothing, with a state that each turn passes on

abbrev pub Turn : Type 0 → Type 0 → Type 0
Turn S A = S → List Lexeme → Parsed (Option A × S)

abbrev pub turned : {S A : Type 0} → Option A → S → List Lexeme → Parsed (List A × S) → Parsed (List A × S)
turned None s rest more = Some (([], s), rest)
turned (Some x) s rest more = and_then more (λ xs end. Some ((x ∷ xs.0, xs.1), end))

-- at most so many turns
unfoldable pub many : {S A : Type 0} → Turn S A → ℕ → S → List Lexeme → Parsed (List A × S)
many turn zero s tokens = None
many turn (suc fuel) s tokens = and_then (turn s tokens) (λ found rest. turned found.0 found.1 rest (many turn fuel found.1 rest))

-- as many turns as there are tokens: each takes one at least
abbrev pub repeated : {S A : Type 0} → Turn S A → S → List Lexeme → Parsed (List A × S)
repeated turn s tokens = many turn (suc (length tokens)) s tokens

-- a turn that keeps no state
abbrev pub stateless : {A : Type 0} → (List Lexeme → Parsed (Option A)) → Turn Bool A
stateless rule s tokens = and_then (rule tokens) (λ found rest. Some ((found, s), rest))

abbrev pub list_read : {S A : Type 0} → Parsed (List A × S) → Parsed (List A)
list_read None = None
list_read (Some read) = Some (read.0.0, read.1)

-- what begins with a token that may be missing
abbrev pub optional : {A : Type 0} → Parsed ℕ → List Lexeme → (ℕ → List Lexeme → Parsed (Option A)) → Parsed (Option A)
optional None tokens next = Some (None, tokens)
optional (Some read) tokens next = next read.0 read.1

abbrev pub operations_in : Bool → Bool → Texts → List Lexeme → Parsed (List Operation)
operations_in note outcome scope tokens = list_read (repeated (stateless (operation_in note outcome scope)) true tokens)

abbrev pub sum_in : Bool → Bool → Texts → List Lexeme → Parsed Sum
sum_in note outcome scope tokens =
    and_then (part_in note outcome scope tokens) (λ first mid.
    and_then (operations_in note outcome scope mid) (λ operations rest.
    Some (record { first = first; rest = operations }, rest)))

-- ---- conditions and clauses

abbrev pub comparison_in : List Lexeme → Parsed Comparison
comparison_in [] = None
comparison_in (token ∷ rest) =
    if is_token Sign true (codes "<") token then Some (Less, rest)
    else (if is_token Sign true (codes "<=") token then Some (AtMost, rest)
    else (if is_token Sign true (codes ">") token then Some (Greater, rest)
    else (if is_token Sign true (codes ">=") token then Some (AtLeast, rest)
    else (if is_token Sign true (codes "==") token then Some (Equal, rest) else None))))

abbrev pub condition_in : Bool → Texts → List Lexeme → Parsed Condition
condition_in outcome scope tokens =
    and_then (sum_in true outcome scope tokens) (λ left mid.
    and_then (comparison_in mid) (λ comparison end.
    and_then (sum_in true outcome scope end) (λ right rest.
    Some (record { left = left; comparison = comparison; right = right }, rest))))

abbrev pub demand_in : Texts → List Lexeme → Parsed (Option Condition)
demand_in scope tokens =
    optional (expected Word true (codes "requires") tokens) tokens (λ at mid.
    and_then (condition_in false scope mid) (λ condition end.
    and_then (expected Sign true (codes ";") end) (λ mark rest.
    Some (Some condition, rest))))

abbrev pub promise_in : Bool → Texts → List Lexeme → Parsed (Option Clause)
promise_in outcome scope tokens =
    optional (expected Word true (codes "ensures") tokens) tokens (λ at mid.
    and_then (condition_in outcome scope mid) (λ condition end.
    and_then (expected Sign true (codes ";") end) (λ mark rest.
    Some (Some (record { at = offset_of_next mid; condition = condition }), rest))))

abbrev pub demands_in : Texts → List Lexeme → Parsed (List Condition)
demands_in scope tokens = list_read (repeated (stateless (demand_in scope)) true tokens)

abbrev pub promises_in : Bool → Texts → List Lexeme → Parsed (List Clause)
promises_in outcome scope tokens = list_read (repeated (stateless (promise_in outcome scope)) true tokens)

-- the clauses of a method, behind which as many tokens are left as from its heading on
abbrev pub clauses_in : Bool → Texts → List Lexeme → ℕ → Parsed (List Condition × List Clause)
clauses_in outcome scope tokens heading =
    and_then (demands_in scope tokens) (λ demands mid.
    and_then (promises_in outcome scope mid) (λ promises rest.
    if nat_eq (length rest) heading then Some ((demands, promises), rest) else None))

-- ---- headings

abbrev pub added_to : Texts → List ℕ → Option ℕ → List Lexeme → Parsed (List ℕ × Texts)
added_to names text None rest = Some ((text, names ++ text ∷ []), rest)
added_to names text (Some slot) rest = None

-- a name that isn't there yet, and the names with it
abbrev pub new_name_in : Texts → List Lexeme → Parsed (List ℕ × Texts)
new_name_in names tokens = and_then (name_in tokens) (λ text rest. added_to names text (slot_in names text) rest)

abbrev pub parameter_in : Texts → List Lexeme → Parsed (List ℕ × Texts)
parameter_in scope tokens = and_then (expected Word false (codes "int") tokens) (λ at rest. new_name_in scope rest)

abbrev pub more_after : Texts → Parsed ℕ → List Lexeme → Parsed (Option (List ℕ) × Texts)
more_after scope None tokens = Some ((None, scope), tokens)
more_after scope (Some read) tokens = and_then (parameter_in scope read.1) (λ found rest. Some ((Some found.0, found.1), rest))

-- a comma and a parameter, where a comma comes next
abbrev pub more_parameter_in : Turn Texts (List ℕ)
more_parameter_in scope tokens = more_after scope (expected Sign false (codes ",") tokens) tokens

-- the parameters, which are the names in scope
abbrev pub parameters_in : List Lexeme → Parsed (List (List ℕ) × Texts)
parameters_in tokens =
    if begins_with Sign false (codes ")") tokens then Some (([], []), tokens)
    else and_then (parameter_in [] tokens) (λ first mid.
    and_then (repeated more_parameter_in first.1 mid) (λ more rest.
    Some ((first.0 ∷ more.0, more.1), rest)))

abbrev pub result_after : Parsed ℕ → List Lexeme → Parsed Bool
result_after (Some read) tokens = Some (true, read.1)
result_after None tokens = and_then (expected Word false (codes "void") tokens) (λ at rest. Some (false, rest))

-- `int` or `void`
abbrev pub result_in : List Lexeme → Parsed Bool
result_in tokens = result_after (expected Word false (codes "int") tokens) tokens

-- what a heading tells, and the names of methods with its own
pub record Heading : Type 0 where
  pub name : List ℕ
  pub returns : Bool
  pub parameters : List (List ℕ)
  pub scope : Texts
  pub names : Texts

abbrev pub heading_in : Texts → List Lexeme → Parsed Heading
heading_in names tokens =
    and_then (expected Word false (codes "static") tokens) (λ at a.
    and_then (result_in a) (λ returns b.
    and_then (new_name_in names b) (λ name c.
    and_then (expected Sign false (codes "(") c) (λ open_mark d.
    and_then (parameters_in d) (λ parameters e.
    and_then (expected Sign false (codes ")") e) (λ close_mark f.
    and_then (expected Sign false (codes "{") f) (λ brace rest.
    Some (record { name = name.0; returns = returns; parameters = parameters.0; scope = parameters.1; names = name.1 }, rest))))))))

-- ---- bodies

abbrev pub value_in : Texts → List Lexeme → Parsed Sum
value_in scope tokens =
    and_then (sum_in false false scope tokens) (λ value mid. and_then (expected Sign false (codes ";") mid) (λ mark rest. Some (value, rest)))

-- the rest of a local's declaration; its name isn't in scope within its value
abbrev pub local_in : Texts → List Lexeme → Parsed (Option Stmt × Texts)
local_in scope tokens =
    and_then (new_name_in scope tokens) (λ name a.
    and_then (expected Sign false (codes "=") a) (λ mark b.
    and_then (value_in scope b) (λ value rest.
    Some ((Some (Local name.0 value), name.1), rest))))

abbrev pub assertion_in : ℕ → Texts → List Lexeme → Parsed (Option Stmt × Texts)
assertion_in at scope tokens =
    and_then (condition_in false scope tokens) (λ condition a.
    and_then (expected Sign true (codes ";") a) (λ mark rest.
    Some ((Some (Assert at condition), scope), rest)))

abbrev pub assignment_in : ℕ → Texts → List Lexeme → Parsed (Option Stmt × Texts)
assignment_in slot scope tokens =
    and_then (expected Sign false (codes "=") tokens) (λ mark a.
    and_then (value_in scope a) (λ value rest.
    Some ((Some (Assign slot value), scope), rest)))

abbrev pub slot_and : Option ℕ → List Lexeme → Parsed ℕ
slot_and None rest = None
slot_and (Some slot) rest = Some (slot, rest)

-- a name that is in scope
abbrev pub variable_in : Texts → List Lexeme → Parsed ℕ
variable_in scope [] = None
variable_in scope (token ∷ rest) = if is_plain token then slot_and (slot_in scope token.text) rest else None

abbrev pub assignment_after : Texts → Parsed ℕ → List Lexeme → Parsed (Option Stmt × Texts)
assignment_after scope None tokens = Some ((None, scope), tokens)
assignment_after scope (Some read) tokens = assignment_in read.0 scope read.1

abbrev pub assertion_after : Texts → Parsed ℕ → List Lexeme → Parsed (Option Stmt × Texts)
assertion_after scope None tokens = assignment_after scope (variable_in scope tokens) tokens
assertion_after scope (Some read) tokens = assertion_in read.0 scope read.1

abbrev pub local_after : Texts → Parsed ℕ → List Lexeme → Parsed (Option Stmt × Texts)
local_after scope None tokens = assertion_after scope (expected Word true (codes "assert") tokens) tokens
local_after scope (Some read) tokens = local_in scope read.1

-- the next statement, and the scope after it
abbrev pub statement_in : Turn Texts Stmt
statement_in scope tokens = local_after scope (expected Word false (codes "int") tokens) tokens

abbrev pub statements_in : Texts → List Lexeme → Parsed (List Stmt × Texts)
statements_in scope tokens = repeated statement_in scope tokens

-- the end of a body, and where it stands
abbrev pub end_in : Bool → Texts → List Lexeme → Parsed (Option Sum × ℕ)
end_in false scope tokens = and_then (expected Sign false (codes "}") tokens) (λ at rest. Some ((None, at), rest))
end_in true scope tokens =
    and_then (expected Word false (codes "return") tokens) (λ at a.
    and_then (value_in scope a) (λ value b.
    and_then (expected Sign false (codes "}") b) (λ brace rest.
    Some ((Some value, at), rest))))

-- ---- methods and classes

-- the tokens from the next word `static` outside annotations on
abbrev pub from_static : List Lexeme → List Lexeme
from_static [] = []
from_static (token ∷ rest) = if is_token Word false (codes "static") token then token ∷ rest else from_static rest

abbrev pub method_in : Texts → List Lexeme → Parsed (Method × Texts)
method_in names tokens =
    and_then (heading_in names (from_static tokens)) (λ heading a.
    and_then (clauses_in heading.returns heading.scope tokens (length (from_static tokens))) (λ clauses same.
    and_then (statements_in heading.scope a) (λ body b.
    and_then (end_in heading.returns body.1 b) (λ end rest.
    Some (
      (
        record {
          name = heading.name;
          demands = clauses.0;
          promises = clauses.1;
          parameters = heading.parameters;
          body = body.0;
          value = end.0;
          exit = end.1;
        },
        heading.names,
      ),
      rest,
    )))))

abbrev pub next_method_in : Turn Texts Method
next_method_in names tokens =
    if begins_with Sign false (codes "}") tokens then Some ((None, names), tokens)
    else and_then (method_in names tokens) (λ method rest. Some ((Some method.0, method.1), rest))

abbrev pub methods_in : List Lexeme → Parsed (List Method × Texts)
methods_in tokens = repeated next_method_in [] tokens

-- a class whose name isn't there yet, and the names with its own
abbrev pub class_in : Texts → List Lexeme → Parsed (Class × Texts)
class_in names tokens =
    and_then (expected Word false (codes "class") tokens) (λ at a.
    and_then (new_name_in names a) (λ name b.
    and_then (expected Sign false (codes "{") b) (λ brace c.
    and_then (methods_in c) (λ methods d.
    and_then (expected Sign false (codes "}") d) (λ closing rest.
    Some ((record { name = name.0; methods = methods.0 }, name.1), rest))))))

-- a class, where one comes next
abbrev pub next_class_in : Turn Texts Class
next_class_in names tokens =
    if begins_with Word false (codes "class") tokens
    then and_then (class_in names tokens) (λ class rest. Some ((Some class.0, class.1), rest))
    else Some ((None, names), tokens)

-- the classes of a file, and the names with theirs
abbrev pub classes_in : Texts → List Lexeme → Parsed (List Class × Texts)
classes_in names tokens = repeated next_class_in names tokens

abbrev pub whole : {A : Type 0} → Parsed A → Option A
whole None = None
whole (Some (x, [])) = Some x
whole (Some (x, (token ∷ rest))) = None

-- the classes that all these lexemes are, where the names are there before, and the names with theirs
abbrev pub parsed : Texts → List Lexeme → Option (List Class × Texts)
parsed names tokens = whole (classes_in names tokens)

-- ---- what stands behind a specification

-- the lexemes from the next one outside annotations on
abbrev pub behind_notes : List Lexeme → List Lexeme
behind_notes [] = []
behind_notes (token ∷ rest) = if token.note then behind_notes rest else token ∷ rest

-- a parameter, whose name may be there already
abbrev pub any_parameter_in : List Lexeme → Parsed (List ℕ)
any_parameter_in tokens = and_then (expected Word false (codes "int") tokens) (λ at rest. name_in rest)
