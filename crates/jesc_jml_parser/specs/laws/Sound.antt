-- What the parser of expressions answers is spelled by the lexemes that it took.
use Rattle.std.proofs.Common.{◌≡◌, ℕ, zero, suc, ◌≤◌, ◌<◌, Bool, List, ◌++◌, Ok}
use Rattle.jesc_ast.specs.Lexemes.{Lexeme}
use Rattle.jesc_ast.specs.Depth.{depth, nesting}
use Rattle.jesc_ast.specs.Expressions.{Spells}
use Rattle.jesc_jml_grammar.specs.Steps.{mark_at, refuse, too_deep}
use Rattle.jesc_jml_grammar.specs.Reading.{Parsed, Start, at_first, behind_name, behind_bracket, opens_at, no_room, expr}
use Rattle.jesc_jml_parser.specs.laws.Edges.{strength}
use Rattle.jesc_jml_parser.specs.laws.SoundSteps.{Gives, gives_if, gives_ok, start_lexemes, IsStart, Taken}
use Rattle.jesc_jml_parser.specs.laws.SoundLonger.{begun_takes}

-- The lexemes that were taken spell the tree, with those of the start before them, and the rest is left. The tree is no
-- deeper than the room, and its quantifiers nest no deeper than they may.
pub record IsRead (note : Bool) (room quantifiers least : ℕ) (start : Start) (ts : List Lexeme) (p : Parsed) (rest : List Lexeme) : Type 0 where
  pub taken : List Lexeme
  pub parts : ts ≡ taken ++ rest
  pub spelled : Spells note p.strength p.tree (start_lexemes start ++ taken)
  pub strong : p.strength ≡ strength p.tree
  pub tight : least ≤ 11 → least ≤ p.strength
  pub deep : depth p.tree ≡ p.depth
  pub shallow : p.depth ≤ room
  pub flat : nesting p.tree ≤ quantifiers

pub expr_takes : (note : Bool) (limit room quantifiers least : ℕ) → 0 < least → (start : Start) → IsStart note start → (ts : List Lexeme)
    → Gives (expr note limit room quantifiers least start ts) (Taken note room quantifiers least (start_lexemes start) ts)
unfolding expr no_room
expr_takes note limit zero quantifiers least some at_first known ts =
    gives_if (opens_at least (mark_at note ts)) too_deep refuse (Taken note zero quantifiers least (start_lexemes at_first) ts) ts (λ e. tt) (λ e. tt)
expr_takes note limit zero quantifiers least some (behind_name x) known ts = tt
expr_takes note limit zero quantifiers least some (behind_bracket x p) known ts = tt
expr_takes note limit (suc room) quantifiers least some start known ts =
    begun_takes note limit room (expr note limit room) (λ k n more begin is u. expr_takes note limit room k n more begin is u) quantifiers least some start known ts

-- `least` is 1 at least, since a mark that no expression goes on with binds as tightly as 0.
pub expr_sound : (note : Bool) (limit room quantifiers least : ℕ) → 0 < least → (start : Start) → IsStart note start → (ts rest : List Lexeme) (p : Parsed)
    → expr note limit room quantifiers least start ts ≡ Ok (p, rest) → IsRead note room quantifiers least start ts p rest
expr_sound note limit room quantifiers least some start known ts rest p e =
    let t = gives_ok (expr note limit room quantifiers least start ts) (Taken note room quantifiers least (start_lexemes start) ts) p rest
    (expr_takes note limit room quantifiers least some start known ts) e in
    record {
      taken = t.taken;
      parts = t.parts;
      spelled = t.is.spelled;
      strong = t.is.strong;
      tight = t.tight;
      deep = t.is.deep;
      shallow = t.is.shallow;
      flat = t.is.flat;
    }
