-- The obligations of a method are its checks, in order.
use Rattle.std.proofs.Common.{◌≡◌, ℕ, List, [], ◌∷◌, ◌++◌, refl, ◌∙◌, ap, Option, Some, None, map, append_assoc}
use Rattle.jesc_first.specs.declared.check.Kind.TheVariants.{Overflow, Undefined, Postcondition}
use Rattle.jesc_first.specs.declared.check.Check.{Check}
use Rattle.jesc_first.specs.declared.tree.Part.{Part}
use Rattle.jesc_first.specs.declared.tree.Operation.{Operation}
use Rattle.jesc_first.specs.declared.tree.Sum.{Sum}
use Rattle.jesc_first.specs.declared.tree.Clause.{Clause}
use Rattle.jesc_first.specs.declared.tree.Stmt.{Stmt}
use Rattle.jesc_first.specs.declared.tree.Stmt.TheVariants.{Local, Assign, Assert}
use Rattle.jesc_first.specs.declared.tree.Method.{Method}
use Rattle.jesc_first.specs.Machine.{check}
use Rattle.jesc_first.specs.Accepted.{operation_checks, statement_checks, body_checks, value_checks, clause_checks, checks_of}
use Rattle.jesc_engine.specs.declared.ways.atom.Atom.{Atom}
use Rattle.jesc_engine.specs.declared.ways.atom.Atom.TheVariants.{Term}
use Rattle.jesc_engine.specs.Ways.{Obligation, Facts, atom_in, operated, overflows_along, condition_facts, no_outcome, statement_obligations, statement_facts, statement_atoms, clause_obligations, value_obligations, value_facts, value_atom, body_obligations, terms_from, argument_facts, demand_facts, obligations}

-- the check of an obligation
abbrev pub check_of : Obligation → Check
check_of obligation = obligation.check

-- the checks of two lists of obligations
checks_joined : (xs ys : List Obligation) → map check_of (xs ++ ys) ≡ map check_of xs ++ map check_of ys
checks_joined [] ys = refl
checks_joined (x ∷ xs) ys = ap (λ cs. x.check ∷ cs) (checks_joined xs ys)

-- a sum has an Overflow for each operation
overflow_checks : (atom : Part → Atom) (facts : Facts) (x : Atom) (operations : List Operation) → map check_of (overflows_along atom facts x operations) ≡ operation_checks operations
overflow_checks atom facts x [] = refl
overflow_checks atom facts x (operation ∷ rest) =
    ap (λ cs. check Overflow operation.at None ∷ cs) (overflow_checks atom (operated facts x operation.operator (atom operation.part)) (Term facts.fresh) rest)

-- the checks of a statement
statement_listed : (atoms : List Atom) (facts : Facts) (statement : Stmt) → map check_of (statement_obligations atoms facts statement) ≡ statement_checks statement
statement_listed atoms facts (Local name value) = overflow_checks (atom_in atoms no_outcome) facts (atom_in atoms no_outcome value.first) value.rest
statement_listed atoms facts (Assign slot value) = overflow_checks (atom_in atoms no_outcome) facts (atom_in atoms no_outcome value.first) value.rest
statement_listed atoms facts (Assert at condition) = refl

-- the checks of the `ensures`
clauses_listed : (atom : Part → Atom) (facts : Facts) (exit : ℕ) (clauses : List Clause) → map check_of (clause_obligations atom facts exit clauses) ≡ clause_checks exit clauses
clauses_listed atom facts exit [] = refl
clauses_listed atom facts exit (clause ∷ rest) =
    ap (λ cs. check Undefined exit (Some clause.at) ∷ check Postcondition exit (Some clause.at) ∷ cs) (clauses_listed atom (condition_facts atom facts clause.condition) exit rest)

-- the checks of the value that is returned
value_listed : (atoms : List Atom) (facts : Facts) (value : Option Sum) → map check_of (value_obligations atoms facts value) ≡ value_checks value
value_listed atoms facts (Some value) = overflow_checks (atom_in atoms no_outcome) facts (atom_in atoms no_outcome value.first) value.rest
value_listed atoms facts None = refl

-- four lists, joined in another order
regrouped : (a b c d : List Check) → a ++ (b ++ c ++ d) ≡ a ++ b ++ c ++ d
regrouped a b c d = simp append_assoc

-- the checks of the statements that are left and of the end
body_listed : (method : Method) (arguments atoms : List Atom) (facts : Facts) (body : List Stmt)
    → map check_of (body_obligations method arguments atoms facts body) ≡ body_checks body ++ value_checks method.value ++ clause_checks method.exit method.promises
body_listed method arguments atoms facts [] =
    let atom = value_atom atoms facts method.value in
    let next = value_facts atoms facts method.value in
    checks_joined (value_obligations atoms facts method.value) (clause_obligations (atom_in arguments atom) next method.exit method.promises)
    ∙ ap (λ cs. cs ++ map check_of (clause_obligations (atom_in arguments atom) next method.exit method.promises)) (value_listed atoms facts method.value)
    ∙ ap (λ cs. value_checks method.value ++ cs) (clauses_listed (atom_in arguments atom) next method.exit method.promises)
body_listed method arguments atoms facts (statement ∷ rest) =
    let later = body_obligations method arguments (statement_atoms atoms facts statement) (statement_facts atoms facts statement) rest in
    checks_joined (statement_obligations atoms facts statement) later
    ∙ ap (λ cs. cs ++ map check_of later) (statement_listed atoms facts statement)
    ∙ ap (λ cs. statement_checks statement ++ cs) (body_listed method arguments (statement_atoms atoms facts statement) (statement_facts atoms facts statement) rest)
    ∙ regrouped (statement_checks statement) (body_checks rest) (value_checks method.value) (clause_checks method.exit method.promises)

-- the checks of a method
pub checks_listed : (method : Method) → map check_of (obligations method) ≡ checks_of method
checks_listed method =
    let arguments = terms_from 0 method.parameters in
    body_listed method arguments arguments (demand_facts (atom_in arguments no_outcome) (argument_facts method) method.demands) method.body
