-- Where no node has room nothing is read.
use Rattle.std.proofs.Common.{◌≡◌, ℕ, zero, suc, ◌<◌, Bool, true, false, Ok, List, arith}
use Rattle.std.specs.Prelude.{if◌then◌else◌, Result, Err, IfOk}
use Rattle.jesc_ast.specs.Lexemes.{Lexeme}
use Rattle.jesc_jml_grammar.specs.declared.fault.ParseError.{ParseError}
use Rattle.jesc_jml_grammar.specs.declared.fault.ParseError.TheVariants as errors
use Rattle.jesc_jml_grammar.specs.declared.found.Found.{Found}
use Rattle.jesc_jml_grammar.specs.Steps.{Reads, too_deep, refuse, mark_at}
use Rattle.jesc_jml_grammar.specs.Reading.{Parsed, Start, at_first, behind_name, behind_bracket, expr, no_room, opens_at}
use Rattle.jesc_jml_grammar.specs.Nests.{parsed}

not_read : (b : Bool) (ts rest : List Lexeme) (x : Parsed) → (if b then too_deep {A = Parsed} else refuse) ts ≡ Ok (x, rest) → ⊥
not_read true ts rest x e = cc
not_read false ts rest x e = cc

pub some_room_read : (note : Bool) (limit room quantifiers least : ℕ) (start : Start) (ts rest : List Lexeme) (x : Parsed)
    → expr note limit room quantifiers least start ts ≡ Ok (x, rest) → 0 < room
unfolding expr no_room
some_room_read note limit zero quantifiers least at_first ts rest x e = absurd (not_read (opens_at least (mark_at note ts)) ts rest x e)
some_room_read note limit zero quantifiers least (behind_name y) ts rest x e = absurd cc
some_room_read note limit zero quantifiers least (behind_bracket y p) ts rest x e = absurd cc
some_room_read note limit (suc room) quantifiers least start ts rest x e = omega arith

pub some_room : (note : Bool) (limit room quantifiers least : ℕ) (start : Start) (ts rest : List Lexeme) (r : Result Found ParseError)
    → Reads parsed (expr note limit room quantifiers least start ts) r rest → IfOk r (λ f. 0 < room)
some_room note limit room quantifiers least start ts rest (Ok f) e = some_room_read note limit room quantifiers least start ts rest (parsed f) e
some_room note limit room quantifiers least start ts rest (Err errors.Memory) e = tt
some_room note limit room quantifiers least start ts rest (Err (errors.Fault f)) e = tt
