-- An expression that is a member, an index or a call of another is read where all but the whole has one node less of room.
use Rattle.std.proofs.Common.{◌≡◌, ℕ, zero, suc, ◌+◌, ◌-◌, ◌≤◌, ◌<◌, Bool, true, false, List, [], ◌∷◌, ◌++◌, length, length-append, Ok, refl, sym, ap, ◌∙◌, append_assoc, arith, codes, inl, inr}
use Rattle.jesc_text.specs.declared.place.Span.{Span}
use Rattle.jesc_ast.specs.Lexemes.{Lexeme, sign, chosen_word}
use Rattle.jesc_ast.specs.Trees.{Expression, name, member, index, call, on}
use Rattle.jesc_ast.specs.Expressions.{Spells, is_member, is_index, is_call}
use Rattle.jesc_ast.specs.Depth.{depth, nesting}
use Rattle.jesc_jml_grammar.specs.declared.mark.Mark.{Mark}
use Rattle.jesc_jml_grammar.specs.declared.mark.Mark.TheVariants as m
use Rattle.jesc_jml_grammar.specs.Marks.{lexeme_mark}
use Rattle.jesc_jml_grammar.specs.Steps.{Outcome, Parser, and_then, ◌>>=◌, mark_at, same_mark}
use Rattle.jesc_jml_grammar.specs.Reading as spec
use Rattle.jesc_jml_grammar.specs.Reading.{Parsed, Start, at_first, behind_bracket, binds, grows, leaf, climb, expr}
use Rattle.jesc_jml_grammar.specs.laws.Refining.{ok_is}
use Rattle.jesc_jml_parser.specs.laws.Edges.{goes_inside, goes_on}
use Rattle.jesc_jml_parser.specs.laws.CompleteMarks.{sign_at}
use Rattle.jesc_jml_parser.specs.laws.CompleteEdges.{closed_edge, grows_false}
use Rattle.jesc_jml_parser.specs.laws.CompleteSteps.{parsed, depth_positive, Starts, ends}
use Rattle.jesc_jml_parser.specs.laws.CompleteStarts.{name_start, bracket_start, bracket_deeper, brackets_refused}
use Rattle.jesc_jml_parser.specs.laws.CompleteGroups.{bracket_or}
use Rattle.jesc_jml_parser.specs.laws.Complete.{climbs, expr_complete}

-- a member, an index or a call of another expression
abbrev pub is_longer : Expression → Bool
is_longer (member s e dot w) = true
is_longer (index s e bracket i) = true
is_longer (call s (on e dot) w es) = true
is_longer _ = false

-- ---- without prefixes and casts, what stands first is the same

same_first : (note : Bool) (limit room : ℕ) (inner : ℕ → ℕ → Start → Parser Parsed) (quantifiers : ℕ) (ts : List Lexeme)
    → spec.first note limit room inner quantifiers 13 ts ≡ spec.first note limit room inner quantifiers 11 ts
unfolding spec.first spec.group spec.named_group spec.bracketed_name spec.closed_name
same_first note limit room inner quantifiers ts = refl

pub no_thirteen : (mark : Mark) → binds mark < 13
no_thirteen m.Question = omega arith
no_thirteen _ = omega arith

-- what is read where all that goes on is left
read_head : (note : Bool) (limit quantifiers : ℕ) (e : Expression) (ts : List Lexeme) (h : Starts note limit quantifiers e ts) (room : ℕ) → depth e ≤ suc room
    → expr note limit (suc room) quantifiers 13 at_first ts ≡ Ok (h.found, h.left)
unfolding expr
read_head note limit quantifiers e ts h room deep =
    let inner = expr note limit room in
    ap (λ (z : Outcome Parsed). and_then z (climb note limit room inner quantifiers 13 (suc room))) (same_first note limit room inner quantifiers ts ∙ h.is room deep)
    ∙ ends note limit room quantifiers 13 h.found (suc room) h.left (omega arith) (grows_false h.found.strength (mark_at note h.left) 13 (no_thirteen (mark_at note h.left)))

-- and then all that goes on
abbrev pub read_longer : Bool → ℕ → ℕ → ℕ → Parser Parsed
read_longer note limit room quantifiers =
    expr note limit (room - 1) quantifiers 13 at_first >>= climb note limit (room - 1) (expr note limit (room - 1)) quantifiers 11 room

reads_longer : (note : Bool) (limit quantifiers : ℕ) (e : Expression) (ts : List Lexeme) → Starts note limit quantifiers e ts → (room : ℕ) → depth e + 1 ≤ room
    → read_longer note limit room quantifiers ts ≡ expr note limit room quantifiers 11 at_first ts
unfolding expr
reads_longer note limit quantifiers e ts h zero deep = absurd (omega arith)
reads_longer note limit quantifiers e ts h (suc zero) deep = absurd (omega (arith, depth_positive e))
reads_longer note limit quantifiers e ts h (suc (suc room)) deep =
    let go : Parsed → Parser Parsed = climb note limit (suc room) (expr note limit (suc room)) quantifiers 11 (suc (suc room)) in
    let less : suc (suc room) - 1 ≡ suc room = omega arith in
    rw less (ap (λ (z : Outcome Parsed). and_then z go) (read_head note limit quantifiers e ts h room (omega arith))
    ∙ ap (λ (z : Outcome Parsed). and_then z go) (sym (h.is (suc room) (omega arith))))

-- ---- the rules

left_starts : (note : Bool) (limit : ℕ) {k : ℕ} {a : Expression} {u : List Lexeme} → Spells note k a u → 11 ≤ k → length u ≤ limit
    → (quantifiers : ℕ) → nesting a ≤ quantifiers → (x : Lexeme) (v rest : List Lexeme) → goes_inside 11 a (lexeme_mark note x) ≡ false
    → Starts note limit quantifiers a ((u ++ x ∷ v) ++ rest)
unfolding mark_at
left_starts note limit {u = u} h tight short quantifiers flat x v rest edge =
    let s = (climbs note limit h short).starts tight quantifiers (x ∷ (v ++ rest)) flat edge in
    record { found = s.found; left = s.left; is = λ room deep. ap (spec.first note limit room (expr note limit room) quantifiers 11) (append_assoc u (x ∷ v) rest) ∙ s.is room deep }

dot_starts : (note : Bool) (limit : ℕ) {k : ℕ} {a : Expression} {u : List Lexeme} → Spells note k a u → 11 ≤ k → length u ≤ limit
    → (quantifiers : ℕ) → nesting a ≤ quantifiers → (dot : Span) (v rest : List Lexeme) → Starts note limit quantifiers a ((u ++ sign note "." dot ∷ v) ++ rest)
dot_starts note limit {a = a} h tight short quantifiers flat dot v rest =
    left_starts note limit h tight short quantifiers flat (sign note "." dot) v rest (ap (goes_inside 11 a) (sign_at note (codes ".") dot) ∙ closed_edge note h 11 m.Dot refl tight)

bracket_starts : (note : Bool) (limit : ℕ) {k : ℕ} {a : Expression} {u : List Lexeme} → Spells note k a u → 12 ≤ k → length u ≤ limit
    → (quantifiers : ℕ) → nesting a ≤ quantifiers → (p : Span) (v rest : List Lexeme) → Starts note limit quantifiers a ((u ++ sign note "[" p ∷ v) ++ rest)
bracket_starts note limit {a = a} h tight short quantifiers flat p v rest =
    left_starts note limit h (omega arith) short quantifiers flat (sign note "[" p) v rest (ap (goes_inside 11 a) (sign_at note (codes "[") p) ∙ closed_edge note h 11 m.LeftBracket refl tight)

-- What goes on with another expression is read so.
pub headed_complete : (note : Bool) (limit room quantifiers k : ℕ) (e : Expression) (u rest : List Lexeme) → Spells note k e u → is_longer e ≡ true
    → depth e ≤ room → nesting e ≤ quantifiers → length u ≤ limit → goes_on 11 e (mark_at note rest) ≡ false
    → read_longer note limit room quantifiers (u ++ rest) ≡ Ok (parsed k e, rest)
headed_complete note limit room quantifiers _ _ _ rest (is_member n e u dot s x h strong t) longer deep flat short stops =
    let starts = dot_starts note limit h strong (omega (arith, length-append {A = Lexeme})) quantifiers flat dot (chosen_word note x s ∷ []) rest in
    reads_longer note limit quantifiers e _ starts room deep
    ∙ expr_complete note limit room quantifiers 11 12 _ _ rest (is_member n e u dot s x h strong t) (omega arith) (omega arith) deep flat short stops
headed_complete note limit room quantifiers _ _ _ rest (is_index n m e i u v p q h strong hi) longer deep flat short stops =
    let starts = bracket_starts note limit h strong (omega (arith, length-append {A = Lexeme})) quantifiers (omega arith) p (v ++ sign note "]" q ∷ []) rest in
    reads_longer note limit quantifiers e _ starts room (omega arith)
    ∙ expr_complete note limit room quantifiers 11 12 _ _ rest (is_index n m e i u v p q h strong hi) (omega arith) (omega arith) deep flat short stops
headed_complete note limit room quantifiers _ _ _ rest (is_call n e dot s p q x es u v h strong t hs) longer deep flat short stops =
    let starts = dot_starts note limit h strong (omega (arith, length-append {A = Lexeme})) quantifiers (omega arith) dot _ rest in
    reads_longer note limit quantifiers e _ starts room (omega arith)
    ∙ expr_complete note limit room quantifiers 11 12 _ _ rest (is_call n e dot s p q x es u v h strong t hs) (omega arith) (omega arith) deep flat short stops
headed_complete note limit room quantifiers k e u rest _ longer deep flat short stops = absurd cc

-- ---- behind a first name

-- where another name stands behind it, it is read alone
pub name_before_name : (note : Bool) (limit room quantifiers least : ℕ) (x : Lexeme) (ts rest : List Lexeme) (p : Parsed) → 1 ≤ least → lexeme_mark note x ≡ m.Name
    → mark_at note ts ≡ m.Name → expr note limit (suc room) quantifiers least at_first (x ∷ ts) ≡ Ok (p, rest) → ts ≡ rest
unfolding expr spec.after_name same_mark
name_before_name note limit room quantifiers least x ts rest p some at next read =
    let a = leaf (name x.span x.text) in
    let go : Parsed → Parser Parsed = climb note limit room (expr note limit room) quantifiers least (suc room) in
    let alone : spec.after_name note limit room (expr note limit room) quantifiers x ts ≡ Ok (a, ts) = rw next refl in
    let ended = ends note limit room quantifiers least a (suc room) ts (omega arith) (ap (λ (z : Mark). grows 12 z least) next ∙ grows_false 12 m.Name least some) in
    (ok_is a p ts rest (sym (name_start note limit (suc room) quantifiers least x ts (omega arith) at ∙ ap (λ (z : Outcome Parsed). and_then z go) alone ∙ ended) ∙ read)).1

-- Behind it and a bracket an index stands, and the reader goes on there.
pub name_before_bracket : (note : Bool) (limit room quantifiers least : ℕ) (x b : Lexeme) (ts rest : List Lexeme) (p : Parsed) → 1 ≤ room → least ≤ 12 → lexeme_mark note x ≡ m.Name
    → lexeme_mark note b ≡ m.LeftBracket → expr note limit room quantifiers least at_first (x ∷ b ∷ ts) ≡ Ok (p, rest)
    → (same_mark (mark_at note ts) m.RightBracket ≡ false) × (expr note limit room quantifiers least (behind_bracket x b) ts ≡ Ok (p, rest))
name_before_bracket note limit zero quantifiers least x b ts rest p some le at next read = absurd (omega arith)
name_before_bracket note limit (suc zero) quantifiers least x b ts rest p some le at next read =
    absurd (cc (read, bracket_deeper note limit quantifiers least x b ts le at next))
name_before_bracket note limit (suc (suc room)) quantifiers least x b ts rest p some le at next read =
    let started = bracket_start note limit (suc (suc room)) quantifiers least x b ts (omega arith) le at next in
    elim (bracket_or (mark_at note ts)) [
      | inl none ↦ absurd (cc (read, started, brackets_refused note limit room quantifiers least x b ts none))
      | inr there ↦ (there, sym started ∙ read)
    ]
