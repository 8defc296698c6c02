-- What the parser's statements and the end of a body take.
use Rattle.std.proofs.Common.{◌≡◌, ℕ, ◌<◌, Bool, true, false, List, [], ◌∷◌, ◌++◌, length, refl, sym, subst, append_assoc, Option, Some, None, slice_get, unwrap_or, codes}
use Rattle.jesc_lexer.specs.declared.token.TokenKind.TheVariants.{Word, Sign}
use Rattle.jesc_ast.specs.Lexemes.{Lexeme}
use Rattle.jesc_first.specs.declared.tree.Sum.{Sum}
use Rattle.jesc_first.specs.declared.tree.Stmt.{Stmt}
use Rattle.jesc_first.specs.declared.tree.Stmt.TheVariants.{Local, Assign, Assert}
use Rattle.jesc_first.specs.Spelling.{Piece, word, sign, sum_pieces, scope_after, statement_pieces, body_pieces, scope_at_end, end_pieces}
use Rattle.jesc_first.specs.Names.{IsStatement, IsBody, IsValue, is_some_sum}
use Rattle.jesc_first.specs.Parsing.{Parsed, Texts, expected, is_plain, slot_in, new_name_in, condition_in, value_in, local_in, assertion_in, assignment_in, slot_and, variable_in, assignment_after, assertion_after, local_after, statement_in, statements_in, end_in}
use Rattle.jesc_first.proofs.SoundBase.{Taken, Gives, IsNext, taken_none, taken_append, taken_cons, gives_some, gives_none, gives_bind, gives_either, gives_weaker, expected_sound, Chain, Once, repeated_sound}
use Rattle.jesc_first.proofs.SoundSums.{ConditionTaken, condition_sound, ValueTaken, value_sound, plain_taken, slot_found}
use Rattle.jesc_first.proofs.SoundHeadings.{NewTaken, new_sound}

pub record StatementTaken (scope : Texts) (tokens : List Lexeme) (statement : Stmt) (next : Texts) (rest : List Lexeme) : Type 0 where
  pub taken : Taken tokens (statement_pieces scope statement) rest
  pub valid : IsStatement scope statement
  pub after : next ≡ scope_after scope statement

abbrev OnceStatement : Texts → List Lexeme → Option Stmt × Texts → List Lexeme → Type 0
OnceStatement scope tokens found rest = Once StatementTaken scope tokens found.0 found.1 rest

-- ---- the three statements, each after its first token

local_sound : (scope : Texts) (tokens : List Lexeme) (at : ℕ) (mid : List Lexeme) → IsNext Word false (codes "int") tokens at mid → Gives (local_in scope mid) (OnceStatement scope tokens)
local_sound scope tokens at mid w =
    let P : Option Stmt × Texts → List Lexeme → Type 0 = OnceStatement scope tokens in
    gives_bind (new_name_in scope mid) _ (NewTaken scope mid) P (new_sound scope mid) (λ name a n.
    gives_bind (expected Sign false (codes "=") a) _ (IsNext Sign false (codes "=") a) P (expected_sound Sign false (codes "=") a) (λ mark b m.
    gives_bind (value_in scope b) _ (ValueTaken scope b) P (value_sound scope b) (λ value rest v.
    let found : Option Stmt × Texts = (Some (Local name.0 value), name.1) in
    gives_some found rest P (record { taken = taken_cons w.loosely (taken_cons n.taken (taken_cons m.loosely v.taken)); valid = (n.new, v.valid); after = n.added }))))

assertion_sound : (scope : Texts) (tokens : List Lexeme) (at : ℕ) (mid : List Lexeme) → IsNext Word true (codes "assert") tokens at mid → Gives (assertion_in at scope mid) (OnceStatement scope tokens)
assertion_sound scope tokens at mid w =
    let P : Option Stmt × Texts → List Lexeme → Type 0 = OnceStatement scope tokens in
    gives_bind (condition_in false scope mid) _ (ConditionTaken false scope mid) P (condition_sound false scope mid) (λ condition a c.
    gives_bind (expected Sign true (codes ";") a) _ (IsNext Sign true (codes ";") a) P (expected_sound Sign true (codes ";") a) (λ mark rest m.
    let found : Option Stmt × Texts = (Some (Assert at condition), scope) in
    gives_some found rest P (record { taken = taken_cons w.firmly (taken_append c.taken m.loosely); valid = c.valid; after = refl })))

record VariableTaken (scope : Texts) (tokens : List Lexeme) (slot : ℕ) (rest : List Lexeme) : Type 0 where
  taken : Taken tokens (word false (unwrap_or (slice_get scope slot) []) ∷ []) rest
  valid : slot < length scope

variable_by : (scope : Texts) (token : Lexeme) (rest : List Lexeme) (found : Option ℕ) → slot_in scope token.text ≡ found → is_plain token ≡ true
    → Gives (slot_and found rest) (VariableTaken scope (token ∷ rest))
variable_by scope token rest None e h = gives_none (VariableTaken scope (token ∷ rest))
variable_by scope token rest (Some slot) e h =
    let s : (slot < length scope) × (unwrap_or (slice_get scope slot) [] ≡ token.text) = slot_found scope token.text slot e in
    gives_some slot rest (VariableTaken scope (token ∷ rest)) (record {
      taken = subst (λ (text : List ℕ). Taken (token ∷ rest) (word false text ∷ []) rest) (sym s.1) (plain_taken token rest h);
      valid = s.0;
    })

variable_sound : (scope : Texts) (tokens : List Lexeme) → Gives (variable_in scope tokens) (VariableTaken scope tokens)
variable_sound scope [] = gives_none (VariableTaken scope [])
variable_sound scope (token ∷ rest) =
    gives_either (is_plain token) (slot_and (slot_in scope token.text) rest) None (VariableTaken scope (token ∷ rest))
    (λ h. variable_by scope token rest (slot_in scope token.text) refl h)
    (λ h. gives_none (VariableTaken scope (token ∷ rest)))

assignment_sound : (scope : Texts) (tokens : List Lexeme) (slot : ℕ) (mid : List Lexeme) → VariableTaken scope tokens slot mid → Gives (assignment_in slot scope mid) (OnceStatement scope tokens)
assignment_sound scope tokens slot mid w =
    let P : Option Stmt × Texts → List Lexeme → Type 0 = OnceStatement scope tokens in
    gives_bind (expected Sign false (codes "=") mid) _ (IsNext Sign false (codes "=") mid) P (expected_sound Sign false (codes "=") mid) (λ mark a m.
    gives_bind (value_in scope a) _ (ValueTaken scope a) P (value_sound scope a) (λ value rest v.
    let found : Option Stmt × Texts = (Some (Assign slot value), scope) in
    gives_some found rest P (record { taken = taken_cons w.taken (taken_cons m.loosely v.taken); valid = (w.valid, v.valid); after = refl })))

-- ---- which of them comes next

assignment_by : (scope : Texts) (tokens : List Lexeme) (read : Parsed ℕ) → Gives read (VariableTaken scope tokens) → Gives (assignment_after scope read tokens) (OnceStatement scope tokens)
assignment_by scope tokens None h =
    let found : Option Stmt × Texts = (None, scope) in
    gives_some found tokens (OnceStatement scope tokens) (refl, refl)
assignment_by scope tokens (Some read) h = assignment_sound scope tokens read.0 read.1 (h.given read.0 read.1 refl)

assertion_by : (scope : Texts) (tokens : List Lexeme) (read : Parsed ℕ) → Gives read (IsNext Word true (codes "assert") tokens) → Gives (assertion_after scope read tokens) (OnceStatement scope tokens)
assertion_by scope tokens None h = assignment_by scope tokens (variable_in scope tokens) (variable_sound scope tokens)
assertion_by scope tokens (Some read) h = assertion_sound scope tokens read.0 read.1 (h.given read.0 read.1 refl)

local_by : (scope : Texts) (tokens : List Lexeme) (read : Parsed ℕ) → Gives read (IsNext Word false (codes "int") tokens) → Gives (local_after scope read tokens) (OnceStatement scope tokens)
local_by scope tokens None h = assertion_by scope tokens (expected Word true (codes "assert") tokens) (expected_sound Word true (codes "assert") tokens)
local_by scope tokens (Some read) h = local_sound scope tokens read.0 read.1 (h.given read.0 read.1 refl)

statement_sound : (scope : Texts) (tokens : List Lexeme) → Gives (statement_in scope tokens) (OnceStatement scope tokens)
statement_sound scope tokens = local_by scope tokens (expected Word false (codes "int") tokens) (expected_sound Word false (codes "int") tokens)

-- ---- bodies

pub record BodyTaken (scope : Texts) (tokens : List Lexeme) (body : List Stmt) (next : Texts) (rest : List Lexeme) : Type 0 where
  pub taken : Taken tokens (body_pieces scope body) rest
  pub valid : IsBody scope body
  pub after : next ≡ scope_at_end scope body

body_chain : (scope : Texts) (tokens : List Lexeme) (body : List Stmt) (next : Texts) (rest : List Lexeme) → Chain StatementTaken scope tokens body next rest → BodyTaken scope tokens body next rest
body_chain scope tokens [] next rest h = record { taken = subst (λ (ts : List Lexeme). Taken tokens [] ts) h.1 (taken_none tokens); valid = tt; after = sym h.0 }
body_chain scope tokens (statement ∷ body) next rest (after, mid, one, more) =
    let others : BodyTaken (scope_after scope statement) mid body next rest = subst (λ (s : Texts). BodyTaken s mid body next rest) one.after (body_chain after mid body next rest more) in
    record { taken = taken_append one.taken others.taken; valid = (one.valid, others.valid); after = others.after }

pub statements_sound : (scope : Texts) (tokens : List Lexeme) → Gives (statements_in scope tokens) (λ read rest. BodyTaken scope tokens read.0 read.1 rest)
statements_sound scope tokens =
    gives_weaker (statements_in scope tokens) (λ read rest. Chain StatementTaken scope tokens read.0 read.1 rest) (λ (read : List Stmt × Texts) rest. BodyTaken scope tokens read.0 read.1 rest)
    (repeated_sound statement_in StatementTaken statement_sound scope tokens) (λ read rest c. body_chain scope tokens read.0 read.1 rest c)

-- ---- the end of a body

pub record EndTaken (scope : Texts) (returns : Bool) (tokens : List Lexeme) (read : Option Sum × ℕ) (rest : List Lexeme) : Type 0 where
  pub taken : Taken tokens (end_pieces scope read.1 read.0) rest
  pub valid : IsValue (length scope) read.0
  pub returned : is_some_sum read.0 ≡ returns

pub end_sound : (returns : Bool) (scope : Texts) (tokens : List Lexeme) → Gives (end_in returns scope tokens) (EndTaken scope returns tokens)
end_sound false scope tokens =
    let P : Option Sum × ℕ → List Lexeme → Type 0 = EndTaken scope false tokens in
    gives_bind (expected Sign false (codes "}") tokens) _ (IsNext Sign false (codes "}") tokens) P (expected_sound Sign false (codes "}") tokens) (λ at rest w.
    let read : Option Sum × ℕ = (None, at) in
    gives_some read rest P (record { taken = w.firmly; valid = tt; returned = refl }))
end_sound true scope tokens =
    let P : Option Sum × ℕ → List Lexeme → Type 0 = EndTaken scope true tokens in
    gives_bind (expected Word false (codes "return") tokens) _ (IsNext Word false (codes "return") tokens) P (expected_sound Word false (codes "return") tokens) (λ at a w.
    gives_bind (value_in scope a) _ (ValueTaken scope a) P (value_sound scope a) (λ value b v.
    gives_bind (expected Sign false (codes "}") b) _ (IsNext Sign false (codes "}") b) P (expected_sound Sign false (codes "}") b) (λ brace rest m.
    let read : Option Sum × ℕ = (Some value, at) in
    let both : Taken a ((sum_pieces false scope value ++ sign false (codes ";") ∷ []) ++ sign false (codes "}") ∷ []) rest = taken_append v.taken m.loosely in
    gives_some read rest P (record {
      taken = taken_cons w.firmly (subst (λ (ps : List Piece). Taken a ps rest) (append_assoc (sum_pieces false scope value) (sign false (codes ";") ∷ []) (sign false (codes "}") ∷ [])) both);
      valid = v.valid;
      returned = refl;
    }))))
