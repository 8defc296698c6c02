-- What a function of the reader answers, beside the rule on lists of lexemes that it reads.
use Rattle.std.specs.Prelude.{◌≡◌, ℕ, Bool, true, false, List, [], ◌∷◌, ◌++◌, length, ◌<◌, Option, Some, None, Result, Ok, Err}
use Rattle.std.specs.Borrow.{Bor}
use Rattle.jesc_first.specs.declared.reader.cursor.Stop.{Stop}
use Rattle.jesc_first.specs.declared.reader.cursor.Stop.TheVariants.{Refused, Memory}
use Rattle.jesc_ast.specs.Lexemes.{Lexeme}
use Rattle.jesc_first.specs.declared.reader.header.Header.{Header}
use Rattle.jesc_first.specs.declared.reader.methods.Clauses.{Clauses}
use Rattle.jesc_first.specs.declared.tree.Condition.{Condition}
use Rattle.jesc_first.specs.declared.tree.Clause.{Clause}
use Rattle.jesc_first.specs.declared.tree.Stmt.{Stmt}
use Rattle.jesc_first.specs.declared.tree.Class.{Class}
use Rattle.jesc_first.specs.Parsing.{Parsed, Texts, Heading, new_name_in, parsed}

-- What is read, and the lexemes that are left, are the rule's; a refusal is one of the rule; want of memory tells nothing.
abbrev pub Reads : {A : Type 0} → Parsed A → Result A Stop → List Lexeme → Type 0
Reads rule (Ok x) rest = rule ≡ Some (x, rest)
Reads rule (Err Refused) rest = rule ≡ None
Reads rule (Err Memory) rest = Unit {0}

-- the same of a rule that answers names besides
abbrev pub ReadsWith : {A : Type 0} → Parsed (A × Texts) → Result A Stop → Texts → List Lexeme → Type 0
ReadsWith rule (Ok x) names rest = rule ≡ Some ((x, names), rest)
ReadsWith rule (Err Refused) names rest = rule ≡ None
ReadsWith rule (Err Memory) names rest = Unit {0}

-- a rule that may find nothing
abbrev pub Finds : {A : Type 0} → Parsed A → Option A → List Lexeme → Type 0
Finds rule (Some x) rest = rule ≡ Some (x, rest)
Finds rule None rest = rule ≡ None

-- the names that were there stand first
abbrev pub Keeps : Texts → Texts → Type 0
Keeps old new = (more : Texts) × (new ≡ old ++ more)

-- a name was added, or it has a place already
abbrev pub Adds : Texts → List ℕ → Option ℕ → Bool → Texts → Type 0
Adds old name None added new = (added ≡ true) × (new ≡ old ++ name ∷ [])
Adds old name (Some slot) added new = (added ≡ false) × (new ≡ old)

-- the same of a text in the file
abbrev pub ReadsText : Parsed (List ℕ) → Result (Bor (List ℕ)) Stop → List Lexeme → Type 0
ReadsText rule (Ok text) rest = rule ≡ Some (text.now, rest)
ReadsText rule (Err Refused) rest = rule ≡ None
ReadsText rule (Err Memory) rest = Unit {0}

-- a text in the file that is to be added to names
abbrev pub ReadsNew : Texts → List Lexeme → Result (Bor (List ℕ)) Stop → List Lexeme → Type 0
ReadsNew names tokens (Ok text) rest = new_name_in names tokens ≡ Some ((text.now, names ++ text.now ∷ []), rest)
ReadsNew names tokens (Err Refused) rest = new_name_in names tokens ≡ None
ReadsNew names tokens (Err Memory) rest = Unit {0}

-- at least one lexeme was taken where something was found, and else none
abbrev pub Taken : {A : Type 0} → Option A → List Lexeme → List Lexeme → Type 0
Taken (Some x) old new = length new < length old
Taken None old new = new ≡ old

-- a statement, where the rule speaks of the next one, if any
abbrev pub ReadsStatement : Parsed (Option Stmt × Texts) → Result Stmt Stop → Texts → List Lexeme → Type 0
ReadsStatement rule (Ok statement) scope rest = rule ≡ Some ((Some statement, scope), rest)
ReadsStatement rule (Err Refused) scope rest = rule ≡ None
ReadsStatement rule (Err Memory) scope rest = Unit {0}

abbrev pub ReadsHeading : Parsed Heading → Result Header Stop → Texts → Texts → List Lexeme → Type 0
ReadsHeading rule (Ok header) names scope rest =
    rule ≡ Some (record { name = header.name; returns = header.returns; parameters = header.parameters; scope = scope; names = names }, rest)
ReadsHeading rule (Err Refused) names scope rest = rule ≡ None
ReadsHeading rule (Err Memory) names scope rest = Unit {0}

abbrev pub ReadsClauses : Parsed (List Condition × List Clause) → Result Clauses Stop → List Lexeme → Type 0
ReadsClauses rule (Ok clauses) rest = rule ≡ Some ((clauses.demands, clauses.promises), rest)
ReadsClauses rule (Err Refused) rest = rule ≡ None
ReadsClauses rule (Err Memory) rest = Unit {0}

-- the classes that the lexemes are
abbrev pub ReadsFile : Texts → List Lexeme → Result (List Class) Stop → Texts → Type 0
ReadsFile before lexemes (Ok classes) names = parsed before lexemes ≡ Some (classes, names)
ReadsFile before lexemes (Err Refused) names = parsed before lexemes ≡ None
ReadsFile before lexemes (Err Memory) names = Unit {0}

-- an item before those that a rule reads
abbrev pub in_front : {S A : Type 0} → A → Parsed (List A × S) → Parsed (List A × S)
in_front x None = None
in_front x (Some read) = Some ((x ∷ read.0.0, read.0.1), read.1)
