-- An expression that was read so far as its first name, or as a name and a bracket, is read on as from its start.
use Rattle.std.proofs.Common.{◌≡◌, ℕ, zero, suc, ◌≤◌, Bool, true, false, List, ◌∷◌, length, Ok, Err, refl, ap, ◌∙◌, arith}
use Rattle.std.specs.Prelude.{nat_le}
use Rattle.std.proofs.lemmas.Bool.{le-leb}
use Rattle.jesc_ast.specs.Lexemes.{Lexeme}
use Rattle.jesc_ast.specs.Trees.{name}
use Rattle.jesc_jml_grammar.specs.declared.fault.Fault.TheVariants.{Unexpected, Deep}
use Rattle.jesc_jml_grammar.specs.declared.mark.Mark.{Mark}
use Rattle.jesc_jml_grammar.specs.declared.mark.Mark.TheVariants as m
use Rattle.jesc_jml_grammar.specs.Marks.{lexeme_mark}
use Rattle.jesc_jml_grammar.specs.Steps.{Outcome, Parser, and_then, mark_at, same_mark}
use Rattle.jesc_jml_grammar.specs.Reading as spec
use Rattle.jesc_jml_grammar.specs.Reading.{Parsed, Start, at_first, behind_name, behind_bracket, grows, leaf, climb, expr}
use Rattle.jesc_jml_parser.specs.laws.CompleteMarks.{took}
use Rattle.jesc_jml_parser.specs.laws.CompleteEdges.{grows_true}
use Rattle.jesc_jml_parser.specs.laws.CompleteSteps.{ends}
use Rattle.jesc_jml_parser.specs.laws.CompleteLeaves.{first_is}

module _ (note : Bool) (limit room : ℕ) (inner : ℕ → ℕ → Start → Parser Parsed) (quantifiers : ℕ) where
  first_name : (least : ℕ) (x : Lexeme) (ts : List Lexeme) → lexeme_mark note x ≡ m.Name
      → spec.first note limit room inner quantifiers least (x ∷ ts) ≡ spec.after_name note limit room inner quantifiers x ts
  unfolding spec.named
  first_name least x ts at = first_is note limit room inner quantifiers least m.Name x ts at ∙ rw (took note m.Name x ts at) refl

  bracket_name : (x p : Lexeme) (ts : List Lexeme) → lexeme_mark note p ≡ m.LeftBracket
      → spec.after_name note limit room inner quantifiers x (p ∷ ts) ≡ Ok (leaf (name x.span x.text), p ∷ ts)
  unfolding spec.after_name mark_at same_mark
  bracket_name x p ts at = rw at refl

  bracket_index : (a : Parsed) (p : Lexeme) (ts : List Lexeme) → lexeme_mark note p ≡ m.LeftBracket
      → spec.indexed note limit room inner quantifiers a (p ∷ ts) ≡ spec.indexed_behind note limit room inner quantifiers a p ts
  unfolding spec.indexed
  bracket_index a p ts at = rw (took note m.LeftBracket p ts at) refl

  bracket_climb : (least turns : ℕ) (a : Parsed) (p : Lexeme) (ts : List Lexeme) → lexeme_mark note p ≡ m.LeftBracket → grows a.strength m.LeftBracket least ≡ true
      → nat_le a.depth room ≡ true
      → climb note limit room inner quantifiers least (suc turns) a (p ∷ ts)
      ≡ and_then (spec.indexed note limit room inner quantifiers a (p ∷ ts)) (climb note limit room inner quantifiers least turns)
  unfolding climb mark_at
  bracket_climb least turns a p ts at more deep = rw (at, more, deep) refl

  bracket_deep : (least turns : ℕ) (a : Parsed) (p : Lexeme) (ts : List Lexeme) → lexeme_mark note p ≡ m.LeftBracket → grows a.strength m.LeftBracket least ≡ true
      → nat_le a.depth room ≡ false → climb note limit room inner quantifiers least (suc turns) a (p ∷ ts) ≡ Err (Deep (length (p ∷ ts)))
  unfolding climb mark_at
  bracket_deep least turns a p ts at more deep = rw (at, more, deep) refl

  name_alone : (x : Lexeme) (ts : List Lexeme) → mark_at note ts ≡ m.RightParen → spec.after_name note limit room inner quantifiers x ts ≡ Ok (leaf (name x.span x.text), ts)
  unfolding spec.after_name same_mark
  name_alone x ts at = rw at refl

  index_refused : (a : Parsed) (p : Lexeme) (ts : List Lexeme) (n : ℕ) → inner quantifiers 1 at_first ts ≡ Err (Unexpected n)
      → spec.indexed_behind note limit room inner quantifiers a p ts ≡ Err (Unexpected n)
  unfolding spec.indexed_behind
  index_refused a p ts n e = rw e refl

-- ---- a name and a closing parenthesis, and an empty pair of brackets

pub name_closed : (note : Bool) (limit room quantifiers : ℕ) (x : Lexeme) (ts : List Lexeme) → 1 ≤ room → mark_at note ts ≡ m.RightParen
    → expr note limit room quantifiers 1 (behind_name x) ts ≡ Ok (leaf (name x.span x.text), ts)
unfolding expr
name_closed note limit zero quantifiers x ts some at = absurd (omega arith)
name_closed note limit (suc room) quantifiers x ts some at =
    let inner = expr note limit room in
    let a = leaf (name x.span x.text) in
    ap (λ (z : Outcome Parsed). and_then z (climb note limit room inner quantifiers 1 (suc room))) (name_alone note limit room inner quantifiers x ts at)
    ∙ ends note limit room quantifiers 1 a (suc room) ts (omega arith) (ap (λ (z : Mark). grows 12 z 1) at)

none_refused : (note : Bool) (limit room quantifiers : ℕ) (ts : List Lexeme) → mark_at note ts ≡ m.RightBracket
    → expr note limit (suc room) quantifiers 1 at_first ts ≡ Err (Unexpected (length ts))
unfolding expr spec.first
none_refused note limit room quantifiers ts at = rw at refl

pub brackets_refused : (note : Bool) (limit room quantifiers least : ℕ) (x p : Lexeme) (ts : List Lexeme) → mark_at note ts ≡ m.RightBracket
    → expr note limit (suc (suc room)) quantifiers least (behind_bracket x p) ts ≡ Err (Unexpected (length ts))
unfolding expr
brackets_refused note limit room quantifiers least x p ts at =
    ap (λ (z : Outcome Parsed). and_then z (climb note limit (suc room) (expr note limit (suc room)) quantifiers least (suc room)))
    (index_refused note limit (suc room) (expr note limit (suc room)) quantifiers (leaf (name x.span x.text)) p ts (length ts) (none_refused note limit room quantifiers ts at))

-- ---- the starts

-- behind a first name
pub name_start : (note : Bool) (limit room quantifiers least : ℕ) (x : Lexeme) (ts : List Lexeme) → 1 ≤ room → lexeme_mark note x ≡ m.Name
    → expr note limit room quantifiers least at_first (x ∷ ts) ≡ expr note limit room quantifiers least (behind_name x) ts
unfolding expr
name_start note limit zero quantifiers least x ts some at = absurd (omega arith)
name_start note limit (suc room) quantifiers least x ts some at =
    ap (λ (z : Outcome Parsed). and_then z (climb note limit room (expr note limit room) quantifiers least (suc room))) (first_name note limit room (expr note limit room) quantifiers least x ts at)

bracket_begun : (note : Bool) (limit room quantifiers least : ℕ) (x p : Lexeme) (ts : List Lexeme) → lexeme_mark note x ≡ m.Name → lexeme_mark note p ≡ m.LeftBracket
    → expr note limit (suc room) quantifiers least at_first (x ∷ p ∷ ts)
    ≡ climb note limit room (expr note limit room) quantifiers least (suc room) (leaf (name x.span x.text)) (p ∷ ts)
unfolding expr
bracket_begun note limit room quantifiers least x p ts at next =
    let inner = expr note limit room in
    ap (λ (z : Outcome Parsed). and_then z (climb note limit room inner quantifiers least (suc room)))
    (first_name note limit room inner quantifiers least x (p ∷ ts) at ∙ bracket_name note limit room inner quantifiers x p ts next)

-- behind a first name and a bracket, where there is room for an index
pub bracket_start : (note : Bool) (limit room quantifiers least : ℕ) (x p : Lexeme) (ts : List Lexeme) → 2 ≤ room → least ≤ 12
    → lexeme_mark note x ≡ m.Name → lexeme_mark note p ≡ m.LeftBracket
    → expr note limit room quantifiers least at_first (x ∷ p ∷ ts) ≡ expr note limit room quantifiers least (behind_bracket x p) ts
unfolding expr
bracket_start note limit zero quantifiers least x p ts some le at next = absurd (omega arith)
bracket_start note limit (suc room) quantifiers least x p ts some le at next =
    let inner = expr note limit room in
    let a = leaf (name x.span x.text) in
    bracket_begun note limit room quantifiers least x p ts at next
    ∙ bracket_climb note limit room inner quantifiers least room a p ts next (grows_true 12 m.LeftBracket least le (omega arith)) (le-leb 1 room (omega arith))
    ∙ ap (λ (z : Outcome Parsed). and_then z (climb note limit room inner quantifiers least room)) (bracket_index note limit room inner quantifiers a p ts next)

-- and where there is none, nothing is read
pub bracket_deeper : (note : Bool) (limit quantifiers least : ℕ) (x p : Lexeme) (ts : List Lexeme) → least ≤ 12 → lexeme_mark note x ≡ m.Name → lexeme_mark note p ≡ m.LeftBracket
    → expr note limit 1 quantifiers least at_first (x ∷ p ∷ ts) ≡ Err (Deep (length (p ∷ ts)))
bracket_deeper note limit quantifiers least x p ts le at next =
    bracket_begun note limit 0 quantifiers least x p ts at next
    ∙ bracket_deep note limit 0 (expr note limit 0) quantifiers least 0 (leaf (name x.span x.text)) p ts next (grows_true 12 m.LeftBracket least le (omega arith)) refl
