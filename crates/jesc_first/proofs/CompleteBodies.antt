-- The rules read every body that keeps the rules on names, and its end.
use Rattle.std.proofs.Common.{◌≡◌, ℕ, ◌<◌, Bool, true, false, ◌&&◌, not, List, [], ◌∷◌, ◌++◌, length, refl, sym, ap, ◌∙◌, subst, arith, Option, Some, None, codes, slice_get}
use Rattle.std.specs.Option.{unwrap_or}
use Rattle.jesc_lexer.specs.declared.token.TokenKind.{TokenKind}
use Rattle.jesc_lexer.specs.declared.token.TokenKind.TheVariants.{Word, Sign}
use Rattle.jesc_ast.specs.Lexemes.{Lexeme}
use Rattle.jesc_first.specs.declared.tree.Sum.{Sum}
use Rattle.jesc_first.specs.declared.tree.Stmt.{Stmt}
use Rattle.jesc_first.specs.declared.tree.Stmt.TheVariants.{Local, Assign, Assert}
use Rattle.jesc_first.specs.Spelling.{Piece, word, word_at, sign, sign_at, sum_pieces, condition_pieces, scope_after, scope_at_end, statement_pieces, body_pieces, end_pieces}
use Rattle.jesc_first.specs.Names.{IsSum, IsStatement, IsBody, IsValue, is_some_sum}
use Rattle.jesc_first.specs.Parsing.{Texts, same_kind, is_plain, variable_in, slot_in, value_in, statement_in, statements_in, end_in}
use Rattle.jesc_first.proofs.CompleteBase.{Spans, Heads, spans_split, spans_length, spans_heads, piece_is, expected_next, expected_other, Turns, repeated_turns}
use Rattle.jesc_first.proofs.CompleteNames.{IsScope, scope_push, name_other, slot_name, slot_found, slot_reserved, new_name_next}
use Rattle.jesc_first.proofs.CompleteSums.{sum_next, condition_next}

-- a value and the semicolon behind it are read
value_next : (scope : Texts) (value : Sum) (ts : List Lexeme) (ps : List Piece) (rest : List Lexeme) → Spans ts (sum_pieces false scope value ++ (sign false (codes ";") ∷ ps)) rest
    → IsSum false (length scope) value → IsScope scope → (mid : List Lexeme) × (value_in scope ts ≡ Some (value, mid)) × Spans mid ps rest
value_next scope value ts ps rest h v s =
    let a = sum_next false false scope value ts (sign false (codes ";")) ps rest h v s refl refl in
    let b = expected_next Sign false (codes ";") a.0 (sign false (codes ";")) ps rest a.2 refl in
    (b.1, rw (a.1, b.2) refl, b.3)

-- the slot of a name in scope is read
variable_next : (scope : Texts) (slot : ℕ) (ts : List Lexeme) (ps : List Piece) (rest : List Lexeme) → Spans ts (word false (unwrap_or (slice_get scope slot) []) ∷ ps) rest
    → slot < length scope → IsScope scope → (mid : List Lexeme) × (variable_in scope ts ≡ Some (slot, mid)) × Spans mid ps rest
variable_next scope slot [] ps rest h l s = absurd h
variable_next scope slot (t ∷ ts) ps rest h l s =
    let plain : is_plain t ≡ true = ap (λ (k : TokenKind). same_kind k Word && not t.note) h.0.kind ∙ ap (λ (b : Bool). not b) h.0.note in
    let found : slot_in scope t.text ≡ Some slot = ap (λ (x : List ℕ). slot_in scope x) h.0.text ∙ slot_found scope slot s l in
    (ts, rw (plain, found) refl, h.1)

-- a statement is read
statement_read : (scope : Texts) (statement : Stmt) (ts rest : List Lexeme) → Spans ts (statement_pieces scope statement) rest → IsStatement scope statement → IsScope scope
    → statement_in scope ts ≡ Some ((Some statement, scope_after scope statement), rest)
statement_read scope (Local name value) ts rest h v s =
    let value_pieces = sum_pieces false scope value ++ (sign false (codes ";") ∷ []) in
    let a = expected_next Word false (codes "int") ts (word false (codes "int")) (word false name ∷ sign false (codes "=") ∷ value_pieces) rest h refl in
    let b = new_name_next scope a.1 name (sign false (codes "=") ∷ value_pieces) rest a.3 v.0 in
    let c = expected_next Sign false (codes "=") b.0 (sign false (codes "=")) value_pieces rest b.2 refl in
    let d = value_next scope value c.1 [] rest c.3 v.1 s in
    rw (a.2, b.1, c.2, d.1) (ap (λ (x : List Lexeme). Some ((Some (Local name value), scope ++ name ∷ []), x)) {x = d.0} d.2)
statement_read scope (Assign slot value) ts rest h v s =
    let name = unwrap_or (slice_get scope slot) [] in
    let value_pieces = sum_pieces false scope value ++ (sign false (codes ";") ∷ []) in
    let heads = spans_heads ts (word false name) (sign false (codes "=") ∷ value_pieces) rest h in
    let no_int = expected_other Word false (codes "int") ts (word false name) heads (name_other name (codes "int") (slot_name scope slot s v.0) refl) in
    let no_assert = expected_other Word true (codes "assert") ts (word false name) heads refl in
    let b = variable_next scope slot ts (sign false (codes "=") ∷ value_pieces) rest h v.0 s in
    let c = expected_next Sign false (codes "=") b.0 (sign false (codes "=")) value_pieces rest b.2 refl in
    let d = value_next scope value c.1 [] rest c.3 v.1 s in
    rw (no_int, no_assert, b.1, c.2, d.1) (ap (λ (x : List Lexeme). Some ((Some (Assign slot value), scope), x)) {x = d.0} d.2)
statement_read scope (Assert at condition) ts rest h v s =
    let behind = condition_pieces scope condition ++ (sign true (codes ";") ∷ []) in
    let heads = spans_heads ts (word_at true (codes "assert") at) behind rest h in
    let no_int = expected_other Word false (codes "int") ts (word_at true (codes "assert") at) heads refl in
    let a = expected_next Word true (codes "assert") ts (word_at true (codes "assert") at) behind rest h refl in
    let b = condition_next false scope condition a.1 (sign true (codes ";")) [] rest a.3 v s refl refl in
    let c = expected_next Sign true (codes ";") b.0 (sign true (codes ";")) [] rest b.2 refl in
    let place : a.0 ≡ at = a.4 in
    rw (no_int, a.2, b.1, c.2, place) (ap (λ (x : List Lexeme). Some ((Some (Assert at condition), scope), x)) {x = c.1} c.3)

-- no statement is read where the next piece is none
no_statement : (scope : Texts) (ts : List Lexeme) (p : Piece) → Heads ts p → piece_is p Word false (codes "int") ≡ false → piece_is p Word true (codes "assert") ≡ false
    → variable_in scope ts ≡ None → statement_in scope ts ≡ Some ((None, scope), ts)
no_statement scope ts p h a b c =
    let no_int = expected_other Word false (codes "int") ts p h a in
    let no_assert = expected_other Word true (codes "assert") ts p h b in
    rw (no_int, no_assert, c) refl

-- a brace is no variable
no_variable_brace : (scope : Texts) (ts : List Lexeme) (at : ℕ) → Heads ts (sign_at false (codes "}") at) → variable_in scope ts ≡ None
no_variable_brace scope [] at h = absurd h
no_variable_brace scope (t ∷ ts) at h =
    let plain : is_plain t ≡ false = ap (λ (k : TokenKind). same_kind k Word && not t.note) h.kind in rw plain refl

-- `return` is no variable
no_variable_return : (scope : Texts) (ts : List Lexeme) (at : ℕ) → IsScope scope → Heads ts (word_at false (codes "return") at) → variable_in scope ts ≡ None
no_variable_return scope [] at s h = absurd h
no_variable_return scope (t ∷ ts) at s h =
    let plain : is_plain t ≡ true = ap (λ (k : TokenKind). same_kind k Word && not t.note) h.kind ∙ ap (λ (b : Bool). not b) h.note in
    let none : slot_in scope t.text ≡ None = ap (λ (x : List ℕ). slot_in scope x) h.text ∙ slot_reserved scope (codes "return") s refl in
    rw (plain, none) refl

-- the end of a body is no statement
end_stops : (scope : Texts) (exit : ℕ) (value : Option Sum) (ts rest : List Lexeme) → Spans ts (end_pieces scope exit value) rest → IsScope scope
    → statement_in scope ts ≡ Some ((None, scope), ts)
end_stops scope exit (Some value) ts rest h s =
    let heads = spans_heads ts (word_at false (codes "return") exit) (sum_pieces false scope value ++ (sign false (codes ";") ∷ sign false (codes "}") ∷ [])) rest h in
    no_statement scope ts (word_at false (codes "return") exit) heads refl refl (no_variable_return scope ts exit s heads)
end_stops scope exit None ts rest h s =
    let heads = spans_heads ts (sign_at false (codes "}") exit) [] rest h in
    no_statement scope ts (sign_at false (codes "}") exit) heads refl refl (no_variable_brace scope ts exit heads)

-- the names in scope stay distinct
scope_next : (scope : Texts) (statement : Stmt) → IsStatement scope statement → IsScope scope → IsScope (scope_after scope statement)
scope_next scope (Local name value) v s = scope_push scope name s v.0
scope_next scope (Assign slot value) v s = s
scope_next scope (Assert at condition) v s = s

-- the names in scope are distinct at the end of a body
pub scope_ends : (scope : Texts) (body : List Stmt) → IsBody scope body → IsScope scope → IsScope (scope_at_end scope body)
scope_ends scope [] v s = s
scope_ends scope (statement ∷ body) v s = scope_ends (scope_after scope statement) body v.1 (scope_next scope statement v.0 s)

-- a statement has a piece at least
statement_some : (scope : Texts) (statement : Stmt) → 0 < length (statement_pieces scope statement)
statement_some scope (Local name value) = omega arith
statement_some scope (Assign slot value) = omega arith
statement_some scope (Assert at condition) = omega arith

-- statements are read one after another, up to what is none
body_turns : (scope : Texts) (body : List Stmt) (ts rest : List Lexeme) → Spans ts (body_pieces scope body) rest → IsBody scope body → IsScope scope
    → statement_in (scope_at_end scope body) rest ≡ Some ((None, scope_at_end scope body), rest) → Turns statement_in scope ts body (scope_at_end scope body) rest
body_turns scope [] ts rest h v s stop = subst (λ (x : List Lexeme). statement_in scope x ≡ Some ((None, scope), rest)) (sym h) stop
body_turns scope (statement ∷ body) ts rest h v s stop =
    let next = scope_after scope statement in
    let k = spans_split ts (statement_pieces scope statement) (body_pieces next body) rest h in
    let some = statement_some scope statement in
    let taken = spans_length ts (statement_pieces scope statement) k.0 k.1 in
    (next, k.0, statement_read scope statement ts k.0 k.1 v.0 s, omega arith, body_turns next body k.0 rest k.2 v.1 (scope_next scope statement v.0 s) stop)

-- the statements of a body are read, up to its end
pub statements_read : (scope : Texts) (body : List Stmt) (exit : ℕ) (value : Option Sum) (ts mid rest : List Lexeme) → Spans ts (body_pieces scope body) mid
    → Spans mid (end_pieces (scope_at_end scope body) exit value) rest → IsBody scope body → IsScope scope
    → statements_in scope ts ≡ Some ((body, scope_at_end scope body), mid)
statements_read scope body exit value ts mid rest h k v s =
    let end = scope_at_end scope body in
    repeated_turns statement_in body scope ts end mid (body_turns scope body ts mid h v s (end_stops end exit value mid rest k (scope_ends scope body v s)))

-- the end of a body is read, with its offset
pub end_read : (scope : Texts) (exit : ℕ) (value : Option Sum) (ts rest : List Lexeme) → Spans ts (end_pieces scope exit value) rest → IsValue (length scope) value → IsScope scope
    → end_in (is_some_sum value) scope ts ≡ Some ((value, exit), rest)
end_read scope exit (Some value) ts rest h v s =
    let brace = sign false (codes "}") ∷ [] in
    let a = expected_next Word false (codes "return") ts (word_at false (codes "return") exit) (sum_pieces false scope value ++ (sign false (codes ";") ∷ brace)) rest h refl in
    let b = value_next scope value a.1 brace rest a.3 v s in
    let c = expected_next Sign false (codes "}") b.0 (sign false (codes "}")) [] rest b.2 refl in
    let place : a.0 ≡ exit = a.4 in
    rw (a.2, b.1, c.2, place) (ap (λ (x : List Lexeme). Some ((Some value, exit), x)) {x = c.1} c.3)
end_read scope exit None ts rest h v s =
    let a = expected_next Sign false (codes "}") ts (sign_at false (codes "}") exit) [] rest h refl in
    let place : a.0 ≡ exit = a.4 in
    rw (a.2, place) (ap (λ (x : List Lexeme). Some ((None, exit), x)) {x = a.1} a.3)
