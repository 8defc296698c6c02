-- What is read as a statement spells its tree, which may stand where it was read.
use Rattle.std.proofs.Common.{◌≡◌, ℕ, zero, suc, ◌<◌, Bool, false, List, Ok}
use Rattle.jesc_ast.specs.Lexemes.{Lexeme}
use Rattle.jesc_ast.specs.Trees.{Statement, Body}
use Rattle.jesc_jml_grammar.specs.declared.mark.Mark.{Mark}
use Rattle.jesc_jml_grammar.specs.declared.mark.Mark.TheVariants as m
use Rattle.jesc_jml_grammar.specs.Steps.{Parser, mark_at, refuse, too_deep}
use Rattle.jesc_jml_grammar.specs.Reading.{Parsed, Start}
use Rattle.jesc_jml_parser.specs.laws.SoundSteps.{Gives, gives_if, gives_so, gives_ok, TakesWhole}
use Rattle.jesc_jml_grammar.specs.ClauseFound.{Sized}
use Rattle.jesc_jml_parser.specs.laws.ClauseSoundLists.{TakenAs}
use Rattle.jesc_java_grammar.specs.declared.statement_mark.StatementMark.{StatementMark}
use Rattle.jesc_java_grammar.specs.declared.statement_mark.StatementMark.TheVariants as s
use Rattle.jesc_java_grammar.specs.declared.statement_mark.Slot.{Slot}
use Rattle.jesc_java_grammar.specs.StatementMarks.{statement_mark_at, allows_branch, allows_loop, begins}
use Rattle.jesc_java_grammar.specs.StatementReading as spec
use Rattle.jesc_java_parser.proofs.PieceSound.{deeper_takes}
use Rattle.jesc_java_parser.proofs.PartSound.{IsPlainRead, simple_statement_takes}
use Rattle.jesc_java_parser.proofs.WordSound.{returned_takes, thrown_takes, broken_takes, continued_takes, nothing_takes, asserted_takes, set_takes, ghost_takes}
use Rattle.jesc_java_parser.proofs.BodySound.{IsStatement, TakesStatements, IsBody, IsConstructorBody, block_takes, braced_takes, constructor_body_takes}
use Rattle.jesc_java_parser.proofs.CatchSound.{attempt_takes}
use Rattle.jesc_java_parser.proofs.LoopSound.{branch_takes, loop_takes}

-- what is no loop and no branch may stand in any slot
plain_stands : (room k : ℕ) (slot : Slot) (p : Parser (Sized Statement)) (ts : List Lexeme) → Gives (p ts) (TakenAs (IsPlainRead room k) ts)
    → Gives (p ts) (TakenAs (IsStatement room k slot) ts)
plain_stands room k slot p ts h =
    gives_so (TakenAs (IsPlainRead room k) ts) (TakenAs (IsStatement room k slot) ts) (p ts) h (λ t rest g.
    record { taken = g.taken; parts = g.parts; is = record { read = g.is.read; no_loop = λ e. g.is.plain.no_loop; no_branch = λ e. g.is.plain.no_branch } })

module _ (limit room : ℕ) (expression : Bool → ℕ → ℕ → ℕ → Start → Parser Parsed)
    (reads : (note : Bool) (room : ℕ) → TakesWhole note room (expression note room)) (k : ℕ)
    (statement : Slot → Parser (Sized Statement)) (inside : TakesStatements room k statement) where
  within : (slot : Slot) (p : Parser (Sized Statement)) (ts : List Lexeme) → (0 < room → Gives (p ts) (TakenAs (IsStatement (suc room) k slot) ts))
      → Gives (spec.deeper_statement limit room expression k statement p ts) (TakenAs (IsStatement (suc room) k slot) ts)
  within slot p ts h = deeper_takes limit room expression reads k p (TakenAs (IsStatement (suc room) k slot) ts) ts h

  plain : (slot : Slot) (p : Parser (Sized Statement)) (ts : List Lexeme) → Gives (p ts) (TakenAs (IsPlainRead (suc room) k) ts)
      → Gives (p ts) (TakenAs (IsStatement (suc room) k slot) ts)
  plain slot p ts h = plain_stands (suc room) k slot p ts h

  looping_takes : (slot : Slot) (ts : List Lexeme) → Gives (spec.looping limit room expression k statement slot ts) (TakenAs (IsStatement (suc room) k slot) ts)
  looping_takes slot ts =
      gives_if (allows_loop slot) (spec.deeper_statement limit room expression k statement (spec.loop_ limit room expression k statement)) refuse
      (TakenAs (IsStatement (suc room) k slot) ts) ts
      (λ e. within slot (spec.loop_ limit room expression k statement) ts (λ some. loop_takes limit room expression reads k statement inside some slot e ts))
      (λ e. tt)

  branching_takes : (slot : Slot) (ts : List Lexeme) → Gives (spec.statement_by limit room expression k statement slot s.If ts) (TakenAs (IsStatement (suc room) k slot) ts)
  branching_takes slot ts =
      gives_if (allows_branch slot) (spec.deeper_statement limit room expression k statement (spec.branch_ limit room expression k statement)) refuse
      (TakenAs (IsStatement (suc room) k slot) ts) ts
      (λ e. within slot (spec.branch_ limit room expression k statement) ts (λ some. branch_takes limit room expression reads k statement inside slot e ts))
      (λ e. tt)

  other_by_takes : (mark : Mark) (ts : List Lexeme) → Gives (spec.other_by limit room expression k statement mark ts) (TakenAs (IsPlainRead (suc room) k) ts)
  other_by_takes m.Semicolon ts = nothing_takes limit room expression reads k ts
  other_by_takes _ ts = simple_statement_takes limit room expression reads k ts

  other_takes : (ts : List Lexeme) → Gives (spec.other_statement limit room expression k statement ts) (TakenAs (IsPlainRead (suc room) k) ts)
  unfolding spec.other_statement
  other_takes ts = other_by_takes (mark_at false ts) ts

  statement_by_takes : (slot : Slot) (mark : StatementMark) (ts : List Lexeme)
      → Gives (spec.statement_by limit room expression k statement slot mark ts) (TakenAs (IsStatement (suc room) k slot) ts)
  statement_by_takes slot s.LeftBrace ts = plain slot (spec.block_ limit room expression k statement) ts (block_takes limit room expression reads k statement inside ts)
  statement_by_takes slot s.If ts = branching_takes slot ts
  statement_by_takes slot s.While ts = looping_takes slot ts
  statement_by_takes slot s.For ts = looping_takes slot ts
  statement_by_takes slot s.Invariant ts = looping_takes slot ts
  statement_by_takes slot s.Return ts = plain slot (spec.returned limit room expression k) ts (returned_takes limit room expression reads k ts)
  statement_by_takes slot s.Throw ts =
      within slot (spec.thrown limit room expression k) ts (λ some. plain slot (spec.thrown limit room expression k) ts (thrown_takes limit room expression reads k ts))
  statement_by_takes slot s.Break ts = plain slot (spec.broken limit room expression k) ts (broken_takes limit room expression reads k ts)
  statement_by_takes slot s.Continue ts = plain slot (spec.continued limit room expression k) ts (continued_takes limit room expression reads k ts)
  statement_by_takes slot s.Try ts = plain slot (spec.attempt_ limit room expression k statement) ts (attempt_takes limit room expression reads k statement inside ts)
  statement_by_takes slot s.Assert ts =
      within slot (spec.asserted limit room expression k) ts (λ some. plain slot (spec.asserted limit room expression k) ts (asserted_takes limit room expression reads k ts))
  statement_by_takes slot s.Set ts =
      within slot (spec.set_ limit room expression k) ts (λ some. plain slot (spec.set_ limit room expression k) ts (set_takes limit room expression reads k ts))
  statement_by_takes slot s.Ghost ts =
      within slot (spec.ghost_ limit room expression k) ts (λ some. plain slot (spec.ghost_ limit room expression k) ts (ghost_takes limit room expression reads k ts))
  statement_by_takes slot s.Final ts = plain slot (spec.simple_statement limit room expression k) ts (simple_statement_takes limit room expression reads k ts)
  statement_by_takes slot s.Step ts = plain slot (spec.simple_statement limit room expression k) ts (simple_statement_takes limit room expression reads k ts)
  statement_by_takes slot s.Other ts = plain slot (spec.other_statement limit room expression k statement) ts (other_takes ts)
  statement_by_takes slot _ ts = tt

  begun_takes : (slot : Slot) (ts : List Lexeme) → Gives (spec.begun limit room expression k statement slot ts) (TakenAs (IsStatement (suc room) k slot) ts)
  unfolding spec.begun
  begun_takes slot ts = statement_by_takes slot (statement_mark_at ts) ts

module _ (limit : ℕ) (expression : Bool → ℕ → ℕ → ℕ → Start → Parser Parsed)
    (reads : (note : Bool) (room : ℕ) → TakesWhole note room (expression note room)) (k : ℕ) where
  pub statement_takes : (room : ℕ) (slot : Slot) (ts : List Lexeme) → Gives (spec.statement limit expression k room slot ts) (TakenAs (IsStatement room k slot) ts)
  unfolding spec.statement spec.no_room
  statement_takes zero slot ts =
      gives_if (begins slot (statement_mark_at ts) (mark_at false ts)) too_deep refuse (TakenAs (IsStatement zero k slot) ts) ts (λ e. tt) (λ e. tt)
  statement_takes (suc room) slot ts =
      begun_takes limit room expression reads k (spec.statement limit expression k room) (λ slot ts. statement_takes room slot ts) slot ts

  -- ---- the same, of an answer

  pub statement_sound : (room : ℕ) (slot : Slot) (ts rest : List Lexeme) (t : Sized Statement) → spec.statement limit expression k room slot ts ≡ Ok (t, rest)
      → TakenAs (IsStatement room k slot) ts t rest
  statement_sound room slot ts rest t e = gives_ok (spec.statement limit expression k room slot ts) (TakenAs (IsStatement room k slot) ts) t rest (statement_takes room slot ts) e

  pub whole_body_takes : (room : ℕ) (ts : List Lexeme)
      → Gives (spec.braced limit room expression k (spec.statement limit expression k room) ts) (TakenAs (IsBody room k) ts)
  whole_body_takes room ts = braced_takes limit room expression reads k (spec.statement limit expression k room) (λ slot ts. statement_takes room slot ts) ts

  pub whole_constructor_body_takes : (room : ℕ) (ts : List Lexeme)
      → Gives (spec.constructor_body limit room expression k (spec.statement limit expression k room) ts) (TakenAs (IsConstructorBody room k) ts)
  whole_constructor_body_takes room ts = constructor_body_takes limit room expression reads k (spec.statement limit expression k room) (λ slot ts. statement_takes room slot ts) ts

  pub body_sound : (room : ℕ) (ts rest : List Lexeme) (b : Sized Body) → spec.braced limit room expression k (spec.statement limit expression k room) ts ≡ Ok (b, rest)
      → TakenAs (IsBody room k) ts b rest
  body_sound room ts rest b e =
      gives_ok (spec.braced limit room expression k (spec.statement limit expression k room) ts) (TakenAs (IsBody room k) ts) b rest (whole_body_takes room ts) e

  pub constructor_body_sound : (room : ℕ) (ts rest : List Lexeme) (b : Sized Body)
      → spec.constructor_body limit room expression k (spec.statement limit expression k room) ts ≡ Ok (b, rest) → TakenAs (IsConstructorBody room k) ts b rest
  constructor_body_sound room ts rest b e =
      gives_ok (spec.constructor_body limit room expression k (spec.statement limit expression k room) ts) (TakenAs (IsConstructorBody room k) ts) b rest
      (whole_constructor_body_takes room ts) e
