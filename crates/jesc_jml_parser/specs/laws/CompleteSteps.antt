-- What it is that lexemes are read as an expression, and how one step of the reader adds to that.
use Rattle.std.proofs.Common.{◌≡◌, ℕ, zero, suc, ◌+◌, ◌≤◌, min, Bool, true, false, List, ◌∷◌, ◌++◌, Ok, refl, sym, ap, ◌∙◌, append_assoc, arith}
use Rattle.std.specs.Prelude.{nat_le}
use Rattle.std.proofs.lemmas.Bool.{or_parts, le-leb}
use Rattle.jesc_ast.specs.Lexemes.{Lexeme}
use Rattle.jesc_ast.specs.Trees.{Expression, number}
use Rattle.jesc_ast.specs.Expressions.{Spells}
use Rattle.jesc_ast.specs.Depth.{depth, nesting}
use Rattle.jesc_jml_grammar.specs.declared.mark.Mark.{Mark}
use Rattle.jesc_jml_grammar.specs.Marks.{lexeme_mark}
use Rattle.jesc_jml_grammar.specs.Steps.{Outcome, and_then, mark_at}
use Rattle.jesc_jml_grammar.specs.Reading.{Parsed, at_first, binds, needs, grows, first, longer_by, climb, expr}
use Rattle.jesc_jml_parser.specs.laws.Edges.{strength, goes_inside, goes_on}
use Rattle.jesc_jml_parser.specs.laws.CompleteMarks.{strength_is}
use Rattle.jesc_jml_parser.specs.laws.CompleteEdges.{grows_true}

-- what the reader makes of the tree
abbrev pub parsed : ℕ → Expression → Parsed
parsed k e = record { tree = e; depth = depth e; strength = k }

pub depth_positive : (e : Expression) → 1 ≤ depth e
depth_positive (number s x) = omega arith
depth_positive _ = omega arith

-- The lexemes are read as the expression, and nothing more, wherever there is room for it and what stands behind it does
-- not go on with it.
pub record IsRead (note : Bool) (limit k : ℕ) (e : Expression) (u : List Lexeme) : Type 0 where
  pub is : (room quantifiers least : ℕ) (rest : List Lexeme) → least ≤ k → least ≤ 11 → depth e ≤ room → nesting e ≤ quantifiers → goes_on least e (mark_at note rest) ≡ false
      → expr note limit room quantifiers least at_first (u ++ rest) ≡ Ok (parsed k e, rest)

-- with turns enough left to go on with the expression until it has no room
pub record Reaches (note : Bool) (limit room quantifiers least k : ℕ) (e : Expression) (u rest : List Lexeme) : Type 0 where
  pub turns : ℕ
  pub enough : suc (suc room) ≤ turns + depth e
  pub is : expr note limit (suc room) quantifiers least at_first (u ++ rest) ≡ climb note limit room (expr note limit room) quantifiers least turns (parsed k e) rest

-- what is read before all that goes on with it, wherever there is room for it
pub record Starts (note : Bool) (limit quantifiers : ℕ) (e : Expression) (ts : List Lexeme) : Type 0 where
  pub found : Parsed
  pub left : List Lexeme
  pub is : (room : ℕ) → depth e ≤ suc room → first note limit room (expr note limit room) quantifiers 11 ts ≡ Ok (found, left)

-- The lexemes are read as the expression, and then as much more as goes on with it, where nothing goes on inside.
pub record Climbs (note : Bool) (limit k : ℕ) (e : Expression) (u : List Lexeme) : Type 0 where
  pub starts : 11 ≤ k → (quantifiers : ℕ) (rest : List Lexeme) → nesting e ≤ quantifiers → goes_inside 11 e (mark_at note rest) ≡ false
      → Starts note limit quantifiers e (u ++ rest)
  pub to : (room quantifiers least : ℕ) (rest : List Lexeme) → least ≤ k → least ≤ 11 → depth e ≤ suc room → nesting e ≤ quantifiers → goes_inside least e (mark_at note rest) ≡ false
      → Reaches note limit room quantifiers least k e u rest

-- ---- to the end

pub ends : (note : Bool) (limit room quantifiers least : ℕ) (a : Parsed) (turns : ℕ) (rest : List Lexeme) → 1 ≤ turns → grows a.strength (mark_at note rest) least ≡ false
    → climb note limit room (expr note limit room) quantifiers least turns a rest ≡ Ok (a, rest)
unfolding climb
ends note limit room quantifiers least a zero rest some none = absurd (omega arith)
ends note limit room quantifiers least a (suc turns) rest some none = rw none refl

ends_climb : (note : Bool) (limit k : ℕ) (e : Expression) (u : List Lexeme) → strength e ≡ k → Climbs note limit k e u
    → (room quantifiers least : ℕ) (rest : List Lexeme) → least ≤ k → least ≤ 11 → depth e ≤ room → nesting e ≤ quantifiers → goes_on least e (mark_at note rest) ≡ false
    → expr note limit room quantifiers least at_first (u ++ rest) ≡ Ok (parsed k e, rest)
ends_climb note limit k e u strong h zero quantifiers least rest le low deep nests stops = absurd (omega (arith, depth_positive e))
ends_climb note limit k e u strong h (suc room) quantifiers least rest le low deep nests stops =
    let parts = or_parts (grows (strength e) (mark_at note rest) least) (goes_inside least e (mark_at note rest)) stops in
    let reached = h.to room quantifiers least rest le low deep nests parts.1 in
    reached.is ∙ ends note limit room quantifiers least (parsed k e) reached.turns rest (omega (arith, reached.enough))
    (ap (λ (n : ℕ). grows n (mark_at note rest) least) (sym strong) ∙ parts.0)

pub read_whole : (note : Bool) (limit : ℕ) {k : ℕ} {e : Expression} {u : List Lexeme} → Spells note k e u → Climbs note limit k e u → IsRead note limit k e u
read_whole note limit {k} {e} {u} spelled h = record { is = ends_climb note limit k e u (strength_is note spelled) h }

-- ---- one step

-- what a rule without a left operand reads
pub climbs_first : (note : Bool) (limit k : ℕ) (e : Expression) (u : List Lexeme)
    → ((room quantifiers least : ℕ) (rest : List Lexeme) → least ≤ k → least ≤ 11 → depth e ≤ suc room → nesting e ≤ quantifiers → goes_inside least e (mark_at note rest) ≡ false
    → first note limit room (expr note limit room) quantifiers least (u ++ rest) ≡ Ok (parsed k e, rest))
    → Climbs note limit k e u
unfolding expr
climbs_first note limit k e u h = record {
  starts = λ tight quantifiers rest nests inside. record { found = parsed k e; left = rest; is = λ room deep. h room quantifiers 11 rest tight (omega arith) deep nests inside };
  to = λ room quantifiers least rest le low deep nests inside. record {
    turns = suc room;
    enough = omega (arith, depth_positive e);
    is = ap (λ (z : Outcome Parsed). and_then z (climb note limit room (expr note limit room) quantifiers least (suc room))) (h room quantifiers least rest le low deep nests inside);
  };
}

goes_further : (note : Bool) (limit room quantifiers least : ℕ) (a b : Parsed) (turns : ℕ) (ts rest : List Lexeme) (mark : Mark) → mark_at note ts ≡ mark
    → grows a.strength mark least ≡ true → nat_le a.depth room ≡ true
    → longer_by note limit room (expr note limit room) quantifiers a mark ts ≡ Ok (b, rest)
    → climb note limit room (expr note limit room) quantifiers least (suc turns) a ts ≡ climb note limit room (expr note limit room) quantifiers least turns b rest
unfolding climb
goes_further note limit room quantifiers least a b turns ts rest mark at more deep e = rw (at, more, deep, e) refl

reaches_further : (note : Bool) (limit room quantifiers least k m : ℕ) (a e : Expression) (u w rest : List Lexeme) (mark : Mark) → mark_at note (w ++ rest) ≡ mark
    → least ≤ binds mark → needs mark ≤ m → depth a ≤ room → depth a + 1 ≤ depth e
    → longer_by note limit room (expr note limit room) quantifiers (parsed m a) mark (w ++ rest) ≡ Ok (parsed k e, rest)
    → (turns : ℕ) → suc (suc room) ≤ turns + depth a
    → expr note limit (suc room) quantifiers least at_first (u ++ (w ++ rest)) ≡ climb note limit room (expr note limit room) quantifiers least turns (parsed m a) (w ++ rest)
    → Reaches note limit room quantifiers least k e (u ++ w) rest
reaches_further note limit room quantifiers least k m a e u w rest mark at tight strong deep longer step zero enough is = absurd (omega arith)
reaches_further note limit room quantifiers least k m a e u w rest mark at tight strong deep longer step (suc turns) enough is = record {
  turns = turns;
  enough = omega arith;
  is = ap (λ (z : List Lexeme). expr note limit (suc room) quantifiers least at_first z) (append_assoc u w rest) ∙ is
      ∙ goes_further note limit room quantifiers least (parsed m a) (parsed k e) turns (w ++ rest) rest mark at (grows_true m mark least tight strong) (le-leb (depth a) room deep) step;
}

starts_further : (note : Bool) (limit room quantifiers : ℕ) (u w rest : List Lexeme) {p : Parsed} {left : List Lexeme}
    → first note limit room (expr note limit room) quantifiers 11 (u ++ (w ++ rest)) ≡ Ok (p, left)
    → first note limit room (expr note limit room) quantifiers 11 ((u ++ w) ++ rest) ≡ Ok (p, left)
starts_further note limit room quantifiers u w rest is = ap (first note limit room (expr note limit room) quantifiers 11) (append_assoc u w rest) ∙ is

-- what a rule behind a left operand reads
pub climbs_further : (note : Bool) (limit k m : ℕ) (a e : Expression) (u : List Lexeme) (x : Lexeme) (v : List Lexeme) (mark : Mark) → Climbs note limit m a u
    → lexeme_mark note x ≡ mark → ((least : ℕ) → goes_inside least a mark ≡ false) → min 11 k ≤ binds mark → needs mark ≤ m → min 11 k ≤ m → depth a + 1 ≤ depth e → nesting a ≤ nesting e
    → ((room quantifiers least : ℕ) (rest : List Lexeme) → least ≤ k → least ≤ 11 → depth e ≤ suc room → nesting e ≤ quantifiers → goes_inside least e (mark_at note rest) ≡ false
    → longer_by note limit room (expr note limit room) quantifiers (parsed m a) mark (x ∷ (v ++ rest)) ≡ Ok (parsed k e, rest))
    → Climbs note limit k e (u ++ x ∷ v)
unfolding mark_at
climbs_further note limit k m a e u x v mark left at edge tight strong more longer nests step = record {
  starts = λ some quantifiers rest flat inside.
      let before = left.starts (omega arith) quantifiers (x ∷ (v ++ rest)) (omega arith) (ap (goes_inside 11 a) at ∙ edge 11) in
      record { found = before.found; left = before.left; is = λ room deep. starts_further note limit room quantifiers u (x ∷ v) rest (before.is room (omega arith)) };
  to = λ room quantifiers least rest le low deep flat inside.
      let before = left.to room quantifiers least (x ∷ (v ++ rest)) (omega arith) low (omega arith) (omega arith) (ap (goes_inside least a) at ∙ edge least) in
      reaches_further note limit room quantifiers least k m a e u (x ∷ v) rest mark at (omega arith) strong (omega arith) longer
      (step room quantifiers least rest le low deep flat inside) before.turns before.enough before.is;
}
