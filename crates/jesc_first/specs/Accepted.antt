-- Which files are programs of the first profile, their duties and checks, and when they are safe.
use Rattle.std.specs.Prelude.{ℕ, List, [], ◌∷◌, ◌++◌, Option, Some, None, All, map}
use Rattle.jesc_first.specs.declared.check.Kind.TheVariants.{Overflow, Assert as AssertKind, Undefined, Postcondition}
use Rattle.jesc_first.specs.declared.check.Check.{Check}
use Rattle.jesc_first.specs.declared.tree.Operation.{Operation}
use Rattle.jesc_first.specs.declared.tree.Sum.{Sum}
use Rattle.jesc_first.specs.declared.tree.Clause.{Clause}
use Rattle.jesc_first.specs.declared.tree.Stmt.{Stmt}
use Rattle.jesc_first.specs.declared.tree.Stmt.TheVariants.{Local, Assign, Assert}
use Rattle.jesc_first.specs.declared.tree.Method.{Method}
use Rattle.jesc_first.specs.declared.tree.Class.{Class}
use Rattle.jesc_ast.specs.Lexemes.{Lexeme}
use Rattle.jesc_first.specs.Spelling.{Match, classes_pieces}
use Rattle.jesc_first.specs.Names.{AreNew, IsClass}
use Rattle.jesc_first.specs.Machine.{check, IsSafe}

abbrev pub names_of : List Class → List (List ℕ)
names_of classes = map (λ class. class.name) classes

-- The lexemes are a file of the first profile, and these are its classes. `before` are the names of the classes of
-- earlier files.
pub record Accepted (before : List (List ℕ)) (lexemes : List Lexeme) (classes : List Class) : Type 0 where
  pub matched : Match lexemes (classes_pieces classes)
  pub named : All IsClass classes
  pub distinct : AreNew before (names_of classes)

-- The constructor of a class that writes none: a body that only ends.
abbrev pub constructor_of : Class → Method
constructor_of class = record { name = class.name; demands = []; promises = []; parameters = []; body = []; value = None; exit = 0 }

-- what is to be verified, in the order of the report
abbrev pub duties : Class → List Method
duties class = constructor_of class ∷ class.methods

-- No call of any duty fails a check, whatever its number of steps.
abbrev pub Safe : Class → Type 0
Safe class = All IsSafe (duties class)

abbrev pub operation_checks : List Operation → List Check
operation_checks operations = map (λ operation. check Overflow operation.at None) operations

abbrev pub statement_checks : Stmt → List Check
statement_checks (Local name value) = operation_checks value.rest
statement_checks (Assign slot value) = operation_checks value.rest
statement_checks (Assert at condition) = check Undefined at None ∷ check AssertKind at None ∷ []

abbrev pub body_checks : List Stmt → List Check
body_checks [] = []
body_checks (statement ∷ rest) = statement_checks statement ++ body_checks rest

abbrev pub value_checks : Option Sum → List Check
value_checks (Some value) = operation_checks value.rest
value_checks None = []

abbrev pub clause_checks : ℕ → List Clause → List Check
clause_checks exit [] = []
clause_checks exit (clause ∷ rest) = check Undefined exit (Some clause.at) ∷ check Postcondition exit (Some clause.at) ∷ clause_checks exit rest

-- the checks of a method in the order in which a call meets them
abbrev pub checks_of : Method → List Check
checks_of method = body_checks method.body ++ value_checks method.value ++ clause_checks method.exit method.promises
