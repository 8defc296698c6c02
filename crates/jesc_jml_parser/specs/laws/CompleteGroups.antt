-- What begins with a parenthesis is read: an expression in parentheses, and a cast.
use Rattle.std.proofs.Common.{◌≡◌, ℕ, zero, suc, ◌≤◌, Bool, true, false, ◌&&◌, ◌||◌, List, [], ◌∷◌, ◌++◌, codes, Ok, refl, sym, ap, ◌∙◌, subst, append_assoc, arith, IsTrue, inl, inr}
use Rattle.std.specs.Prelude.{◌⊎◌, nat_lt}
use Rattle.std.proofs.lemmas.Bool.{or_cases, cases_Bool, lt-ltb, le-leb}
use Rattle.jesc_text.specs.declared.place.Span.{Span}
use Rattle.jesc_ast.specs.declared.word.TypeTree.{TypeTree}
use Rattle.jesc_ast.specs.Lexemes.{Lexeme, chosen_word, sign, join}
use Rattle.jesc_ast.specs.Words.{is_name, is_primitive, is_type_word}
use Rattle.jesc_ast.specs.Trees.{Expression, name, paren, cast}
use Rattle.jesc_ast.specs.Expressions.{span_of, type_tree, Spells, SpellsType, is_plain_type, is_array_type, is_cast_before, begins_cast}
use Rattle.jesc_jml_grammar.specs.declared.mark.Mark.{Mark}
use Rattle.jesc_jml_grammar.specs.declared.mark.Mark.TheVariants as m
use Rattle.jesc_jml_grammar.specs.Marks.{lexeme_mark}
use Rattle.jesc_jml_grammar.specs.Steps.{Parser, mark_at, same_mark}
use Rattle.jesc_jml_grammar.specs.Reading as spec
use Rattle.jesc_jml_grammar.specs.Reading.{Parsed, Start, at_first, behind_name, behind_bracket, opens, casts, allows_prefix, over, leaf, lone_name, expr}
use Rattle.jesc_jml_grammar.specs.laws.Refining.{ok_is}
use Rattle.jesc_jml_parser.specs.laws.Edges.{goes_inside}
use Rattle.jesc_jml_parser.specs.laws.CompleteMarks.{sign_at, name_at, is_primitive_mark, primitive_at, took, took_sign, opens_first}
use Rattle.jesc_jml_parser.specs.laws.CompleteEdges.{cast_first}
use Rattle.jesc_jml_parser.specs.laws.CompleteSteps.{parsed, depth_positive, IsRead, Climbs, climbs_first}
use Rattle.jesc_jml_parser.specs.laws.CompleteArguments.{finished}
use Rattle.jesc_jml_parser.specs.laws.CompleteLeaves.{first_is, read_closed}
use Rattle.jesc_jml_parser.specs.laws.CompleteLonger.{type_word_is, plain_behind, array_behind}
use Rattle.jesc_jml_parser.specs.laws.CompleteStarts.{name_start, name_closed, bracket_start, bracket_deeper, brackets_refused}

-- ---- the cases of a mark

name_or : (mark : Mark) → (mark ≡ m.Name) ⊎ (same_mark mark m.Name ≡ false)
unfolding same_mark
name_or m.Name = inl refl
name_or _ = inr refl

pub bracket_or : (mark : Mark) → (mark ≡ m.RightBracket) ⊎ (same_mark mark m.RightBracket ≡ false)
unfolding same_mark
bracket_or m.RightBracket = inl refl
bracket_or _ = inr refl

-- a mark behind a name in parentheses
data Follows (mark : Mark) : Type 0 where
  closes : mark ≡ m.RightParen → Follows mark
  indexes : mark ≡ m.LeftBracket → Follows mark
  goes : ((note : Bool) (limit room : ℕ) (inner : ℕ → ℕ → Start → Parser Parsed) (quantifiers least : ℕ) (p x : Lexeme) (ts : List Lexeme)
      → spec.behind_name_by note limit room inner quantifiers least p x mark ts ≡ spec.grouped note limit room inner quantifiers p (behind_name x) ts) → Follows mark

follows : (mark : Mark) → Follows mark
follows m.RightParen = closes refl
follows m.LeftBracket = indexes refl
follows _ = goes (λ note limit room inner quantifiers least p x ts. refl)

unbracketed : (note : Bool) (q : Span) (ts : List Lexeme) → same_mark (mark_at note (sign note ")" q ∷ ts)) m.LeftBracket ≡ false
unfolding mark_at same_mark
unbracketed note q ts = rw (sign_at note (codes ")") q) refl

-- ---- the rules

module _ (note : Bool) (limit room : ℕ) (inner : ℕ → ℕ → Start → Parser Parsed) (quantifiers : ℕ) where
  other_group : (least : ℕ) (p : Lexeme) (mark : Mark) (ts : List Lexeme) → opens mark ≡ true → same_mark mark m.Name ≡ false
      → spec.group_by note limit room inner quantifiers least p mark ts ≡ spec.grouped note limit room inner quantifiers p at_first ts
  unfolding same_mark
  other_group least p m.Forall ts o other = absurd cc
  other_group least p m.Exists ts o other = absurd cc
  other_group least p m.Int ts o other = absurd cc
  other_group least p m.Long ts o other = absurd cc
  other_group least p m.Boolean ts o other = absurd cc
  other_group least p m.Name ts o other = absurd cc
  other_group least p _ ts o other = refl

  type_group : (least : ℕ) (p : Lexeme) (mark : Mark) (ts : List Lexeme) → is_primitive_mark mark ≡ true → allows_prefix least ≡ true
      → spec.group_by note limit room inner quantifiers least p mark ts ≡ spec.typed_cast note limit room inner quantifiers p ts
  type_group least p m.Int ts t allowed = rw allowed refl
  type_group least p m.Long ts t allowed = rw allowed refl
  type_group least p m.Boolean ts t allowed = rw allowed refl
  type_group least p _ ts t allowed = absurd cc

  group_is : (least : ℕ) (p : Span) (ts : List Lexeme) → nat_lt 0 room ≡ true
      → spec.first note limit room inner quantifiers least (sign note "(" p ∷ ts) ≡ spec.group_by note limit room inner quantifiers least (sign note "(" p) (mark_at note ts) ts
  unfolding spec.group
  group_is least p ts some =
      first_is note limit room inner quantifiers least m.LeftParen (sign note "(" p) ts (sign_at note (codes "(") p)
      ∙ rw (some, took_sign note m.LeftParen (codes "(") p ts refl) refl

  grouped_is : (p q : Span) (start : Start) (e : Parsed) (ts rest : List Lexeme) → inner quantifiers 1 start ts ≡ Ok (e, sign note ")" q ∷ rest)
      → spec.grouped note limit room inner quantifiers (sign note "(" p) start ts ≡ Ok (over 12 e (paren (join p q) e.tree), rest)
  unfolding spec.grouped
  grouped_is p q start e ts rest read = rw (read, took_sign note m.RightParen (codes ")") q rest refl) refl

  named_is : (least : ℕ) (p x : Lexeme) (ts : List Lexeme) → lexeme_mark note x ≡ m.Name
      → spec.named_group note limit room inner quantifiers least p (x ∷ ts) ≡ spec.behind_name_by note limit room inner quantifiers least p x (mark_at note ts) ts
  unfolding spec.named_group
  named_is least p x ts at = rw (took note m.Name x ts at) refl

  lone_is : (least : ℕ) (p x : Lexeme) (q : Span) (rest : List Lexeme) → (casts (mark_at note rest) && allows_prefix least) ≡ false
      → spec.closed_name note limit room inner quantifiers least p x (sign note ")" q ∷ rest) ≡ Ok (lone_name p x (sign note ")" q), rest)
  unfolding spec.closed_name
  lone_is least p x q rest none = rw (took_sign note m.RightParen (codes ")") q rest refl, none) refl

  bracket_is : (least : ℕ) (p x b : Lexeme) (ts : List Lexeme) → lexeme_mark note b ≡ m.LeftBracket → same_mark (mark_at note ts) m.RightBracket ≡ false
      → spec.bracketed_name note limit room inner quantifiers least p x (b ∷ ts) ≡ spec.grouped note limit room inner quantifiers p (behind_bracket x b) ts
  unfolding spec.bracketed_name
  bracket_is least p x b ts at none = rw (took note m.LeftBracket b ts at, none) refl

  operand_is : (p : Lexeme) (t : TypeTree) (e : Parsed) (ts rest : List Lexeme) → inner quantifiers 10 at_first ts ≡ Ok (e, rest)
      → spec.cast_operand note limit room inner quantifiers p t ts ≡ Ok (over 10 e (cast (join p.span (span_of e.tree)) t e.tree), rest)
  unfolding spec.cast_operand
  operand_is p t e ts rest read = rw read refl

  -- a cast to a type whose first word is a word of Java
  plain_cast_is : (p : Lexeme) (x : List ℕ) (s q : Span) (ts : List Lexeme) → IsTrue (is_type_word x)
      → spec.typed_cast note limit room inner quantifiers p (chosen_word note x s ∷ sign note ")" q ∷ ts)
      ≡ spec.cast_operand note limit room inner quantifiers p (type_tree s x false) ts
  unfolding spec.typed_cast spec.cast_behind
  plain_cast_is p x s q ts t =
      rw (
        type_word_is note limit room inner quantifiers x s (sign note ")" q ∷ ts) t,
        plain_behind note limit room inner quantifiers (chosen_word note x s) (sign note ")" q ∷ ts) (unbracketed note q ts),
        took_sign note m.RightParen (codes ")") q ts refl,
      ) refl

  array_cast_is : (p : Lexeme) (x : List ℕ) (s b c q : Span) (ts : List Lexeme) → IsTrue (is_type_word x)
      → spec.typed_cast note limit room inner quantifiers p (chosen_word note x s ∷ sign note "[" b ∷ sign note "]" c ∷ sign note ")" q ∷ ts)
      ≡ spec.cast_operand note limit room inner quantifiers p (type_tree (join s c) x true) ts
  unfolding spec.typed_cast spec.cast_behind
  array_cast_is p x s b c q ts t =
      rw (
        type_word_is note limit room inner quantifiers x s (sign note "[" b ∷ sign note "]" c ∷ sign note ")" q ∷ ts) t,
        array_behind note limit room inner quantifiers (chosen_word note x s) b c (sign note ")" q ∷ ts),
        took_sign note m.RightParen (codes ")") q ts refl,
      ) refl

  -- a cast to a type whose first word is a name
  plain_name_cast_is : (least : ℕ) (p : Lexeme) (x : List ℕ) (s q : Span) (ts : List Lexeme) → IsTrue (is_name x) → casts (mark_at note ts) ≡ true → allows_prefix least ≡ true
      → spec.named_group note limit room inner quantifiers least p (chosen_word note x s ∷ sign note ")" q ∷ ts)
      ≡ spec.cast_operand note limit room inner quantifiers p (type_tree s x false) ts
  unfolding spec.closed_name mark_at
  plain_name_cast_is least p x s q ts t is_cast allowed =
      named_is least p (chosen_word note x s) (sign note ")" q ∷ ts) (name_at note x s t)
      ∙ rw (sign_at note (codes ")") q, took_sign note m.RightParen (codes ")") q ts refl, is_cast, allowed) refl

  array_name_cast_is : (least : ℕ) (p : Lexeme) (x : List ℕ) (s b c q : Span) (ts : List Lexeme) → IsTrue (is_name x) → allows_prefix least ≡ true
      → spec.named_group note limit room inner quantifiers least p (chosen_word note x s ∷ sign note "[" b ∷ sign note "]" c ∷ sign note ")" q ∷ ts)
      ≡ spec.cast_operand note limit room inner quantifiers p (type_tree (join s c) x true) ts
  unfolding spec.bracketed_name spec.array_cast mark_at same_mark
  array_name_cast_is least p x s b c q ts t allowed =
      named_is least p (chosen_word note x s) (sign note "[" b ∷ sign note "]" c ∷ sign note ")" q ∷ ts) (name_at note x s t)
      ∙ rw (
        sign_at note (codes "[") b,
        took_sign note m.LeftBracket (codes "[") b (sign note "]" c ∷ sign note ")" q ∷ ts) refl,
        sign_at note (codes "]") c,
        allowed,
        took_sign note m.RightBracket (codes "]") c (sign note ")" q ∷ ts) refl,
        took_sign note m.RightParen (codes ")") q ts refl,
      ) refl

-- ---- an expression in parentheses

-- a name alone, where no cast can be
lone_read : (note : Bool) (limit room quantifiers least : ℕ) (p q : Span) (n : ℕ) (e : Expression) (x : Lexeme) (ts rest : List Lexeme) → 1 ≤ room
    → mark_at note ts ≡ m.RightParen → expr note limit room quantifiers 1 (behind_name x) ts ≡ Ok (parsed n e, sign note ")" q ∷ rest)
    → goes_inside least (paren (join p q) e) (mark_at note rest) ≡ false
    → spec.closed_name note limit room (expr note limit room) quantifiers least (sign note "(" p) x ts ≡ Ok (parsed 12 (paren (join p q) e), rest)
lone_read note limit room quantifiers least p q n e x ts rest some at read inside =
    let same = ok_is (leaf (name x.span x.text)) (parsed n e) ts (sign note ")" q ∷ rest) (sym (name_closed note limit room quantifiers x ts some at) ∙ read) in
    let tree : name x.span x.text ≡ e = ap (λ (z : Parsed). z.tree) same.0 in
    ap (spec.closed_name note limit room (expr note limit room) quantifiers least (sign note "(" p) x) same.1
    ∙ lone_is note limit room (expr note limit room) quantifiers least (sign note "(" p) x q rest
    (subst (λ (z : Expression). goes_inside least (paren (join p q) z) (mark_at note rest) ≡ false) (sym tree) inside)
    ∙ ap (λ (z : Expression). finished (parsed 12 (paren (join p q) z)) rest) tree

-- a name and a bracket
index_read : (note : Bool) (limit room quantifiers least : ℕ) (p q : Span) (n : ℕ) (e : Expression) (x : Lexeme) (ts rest : List Lexeme) → 1 ≤ room
    → lexeme_mark note x ≡ m.Name → mark_at note ts ≡ m.LeftBracket → expr note limit room quantifiers 1 at_first (x ∷ ts) ≡ Ok (parsed n e, sign note ")" q ∷ rest)
    → spec.bracketed_name note limit room (expr note limit room) quantifiers least (sign note "(" p) x ts ≡ Ok (parsed 12 (paren (join p q) e), rest)
unfolding mark_at
index_read note limit room quantifiers least p q n e x [] rest some at next read = absurd cc
index_read note limit zero quantifiers least p q n e x (b ∷ ts) rest some at next read = absurd (omega arith)
index_read note limit (suc zero) quantifiers least p q n e x (b ∷ ts) rest some at next read =
    absurd (cc (read, bracket_deeper note limit quantifiers 1 x b ts (omega arith) at next))
index_read note limit (suc (suc room)) quantifiers least p q n e x (b ∷ ts) rest some at next read =
    let inner = expr note limit (suc (suc room)) in
    let started = bracket_start note limit (suc (suc room)) quantifiers 1 x b ts (omega arith) (omega arith) at next in
    elim (bracket_or (mark_at note ts)) [
      | inl none ↦ absurd (cc (read, started, brackets_refused note limit room quantifiers 1 x b ts none))
      | inr some ↦ bracket_is note limit (suc (suc room)) inner quantifiers least (sign note "(" p) x b ts next some
          ∙ grouped_is note limit (suc (suc room)) inner quantifiers p q (behind_bracket x b) (parsed n e) ts rest (sym started ∙ read)
    ]

name_read : (note : Bool) (limit room quantifiers least : ℕ) (p q : Span) (n : ℕ) (e : Expression) (ts rest : List Lexeme) → 1 ≤ room → mark_at note ts ≡ m.Name
    → expr note limit room quantifiers 1 at_first ts ≡ Ok (parsed n e, sign note ")" q ∷ rest) → goes_inside least (paren (join p q) e) (mark_at note rest) ≡ false
    → spec.named_group note limit room (expr note limit room) quantifiers least (sign note "(" p) ts ≡ Ok (parsed 12 (paren (join p q) e), rest)
unfolding mark_at
name_read note limit room quantifiers least p q n e [] rest some at read inside = absurd cc
name_read note limit room quantifiers least p q n e (x ∷ ts) rest some at read inside =
    let inner = expr note limit room in
    let behind = sym (name_start note limit room quantifiers 1 x ts some at) ∙ read in
    named_is note limit room inner quantifiers least (sign note "(" p) x ts at
    ∙ elim (follows (mark_at note ts)) [
      | closes c ↦ rw c (lone_read note limit room quantifiers least p q n e x ts rest some c behind inside)
      | indexes i ↦ rw i (index_read note limit room quantifiers least p q n e x ts rest some at i read)
      | goes g ↦ g note limit room inner quantifiers least (sign note "(" p) x ts ∙ grouped_is note limit room inner quantifiers p q (behind_name x) (parsed n e) ts rest behind
    ]

group_read : (note : Bool) (limit room quantifiers least : ℕ) (p q : Span) (n : ℕ) (e : Expression) (ts rest : List Lexeme) → 1 ≤ room → opens (mark_at note ts) ≡ true
    → expr note limit room quantifiers 1 at_first ts ≡ Ok (parsed n e, sign note ")" q ∷ rest) → goes_inside least (paren (join p q) e) (mark_at note rest) ≡ false
    → spec.group_by note limit room (expr note limit room) quantifiers least (sign note "(" p) (mark_at note ts) ts ≡ Ok (parsed 12 (paren (join p q) e), rest)
group_read note limit room quantifiers least p q n e ts rest some o read inside =
    elim (name_or (mark_at note ts)) [
      | inl at ↦ rw at (name_read note limit room quantifiers least p q n e ts rest some at read inside)
      | inr other ↦ other_group note limit room (expr note limit room) quantifiers least (sign note "(" p) (mark_at note ts) ts o other
          ∙ grouped_is note limit room (expr note limit room) quantifiers p q at_first (parsed n e) ts rest read
    ]

pub paren_climbs : (note : Bool) (limit : ℕ) (p q : Span) (n : ℕ) (e : Expression) (u : List Lexeme) → Spells note n e u → IsRead note limit n e u
    → Climbs note limit 12 (paren (join p q) e) (sign note "(" p ∷ (u ++ sign note ")" q ∷ []))
paren_climbs note limit p q n e u spelled read =
    climbs_first note limit 12 (paren (join p q) e) (sign note "(" p ∷ (u ++ sign note ")" q ∷ [])) (λ room quantifiers least rest le low deep nests inside.
    let ts = (u ++ sign note ")" q ∷ []) ++ rest in
    let begins = ap (λ (z : List Lexeme). opens (mark_at note z)) (append_assoc u (sign note ")" q ∷ []) rest) ∙ opens_first note spelled (sign note ")" q ∷ rest) in
    let some : 1 ≤ room = omega (arith, depth_positive e) in
    group_is note limit room (expr note limit room) quantifiers least p ts (lt-ltb 0 room some)
    ∙ group_read note limit room quantifiers least p q n e ts rest some begins (read_closed note limit room quantifiers n e u q rest spelled read (omega arith) nests) inside)

-- ---- a cast

cast_read : (note : Bool) (limit room quantifiers least : ℕ) {t : TypeTree} {u : List Lexeme} → SpellsType note t u → (p q : Span) (n : ℕ) (e : Expression) (v rest : List Lexeme)
    → allows_prefix least ≡ true → IsTrue (is_cast_before t v) → opens (mark_at note (v ++ rest)) ≡ true
    → expr note limit room quantifiers 10 at_first (v ++ rest) ≡ Ok (parsed n e, rest)
    → spec.group_by note limit room (expr note limit room) quantifiers least (sign note "(" p) (mark_at note (u ++ sign note ")" q ∷ (v ++ rest))) (u ++ sign note ")" q ∷ (v ++ rest))
    ≡ Ok (parsed 10 (cast (join p (span_of e)) t e), rest)
unfolding mark_at
cast_read note limit room quantifiers least (is_plain_type s x word) p q n e v rest allowed before o read =
    let inner = expr note limit room in
    let operand = operand_is note limit room inner quantifiers (sign note "(" p) (type_tree s x false) (parsed n e) (v ++ rest) rest read in
    elim (cases_Bool (is_primitive x)) [
      | inl primitive ↦ type_group note limit room inner quantifiers least (sign note "(" p) (lexeme_mark note (chosen_word note x s)) (chosen_word note x s ∷ sign note ")" q ∷ (v ++ rest)) (primitive_at note x s primitive) allowed
          ∙ plain_cast_is note limit room inner quantifiers (sign note "(" p) x s q (v ++ rest) word ∙ operand
      | inr other ↦
          let is_named : is_name x ≡ true = ap (λ (b : Bool). b || is_name x) (sym other) ∙ word in
          let begins : begins_cast v ≡ true = ap (λ (b : Bool). b || false || begins_cast v) (sym other) ∙ before in
          rw (name_at note x s is_named)
          (plain_name_cast_is note limit room inner quantifiers least (sign note "(" p) x s q (v ++ rest) is_named (cast_first note v rest begins o) allowed ∙ operand)
    ]
cast_read note limit room quantifiers least (is_array_type s b c x word) p q n e v rest allowed before o read =
    let inner = expr note limit room in
    let operand = operand_is note limit room inner quantifiers (sign note "(" p) (type_tree (join s c) x true) (parsed n e) (v ++ rest) rest read in
    elim (or_cases (is_primitive x) (is_name x) word) [
      | inl primitive ↦ type_group note limit room inner quantifiers least (sign note "(" p) (lexeme_mark note (chosen_word note x s))
          (chosen_word note x s ∷ sign note "[" b ∷ sign note "]" c ∷ sign note ")" q ∷ (v ++ rest)) (primitive_at note x s primitive) allowed
          ∙ array_cast_is note limit room inner quantifiers (sign note "(" p) x s b c q (v ++ rest) word ∙ operand
      | inr is_named ↦ rw (name_at note x s is_named) (array_name_cast_is note limit room inner quantifiers least (sign note "(" p) x s b c q (v ++ rest) is_named allowed ∙ operand)
    ]

pub cast_climbs : (note : Bool) (limit : ℕ) (p q : Span) (t : TypeTree) (n : ℕ) (e : Expression) (u v : List Lexeme) → SpellsType note t u → Spells note n e v → 10 ≤ n
    → IsTrue (is_cast_before t v) → IsRead note limit n e v → Climbs note limit 10 (cast (join p (span_of e)) t e) (sign note "(" p ∷ (u ++ sign note ")" q ∷ v))
cast_climbs note limit p q t n e u v type spelled strong before read =
    climbs_first note limit 10 (cast (join p (span_of e)) t e) (sign note "(" p ∷ (u ++ sign note ")" q ∷ v)) (λ room quantifiers least rest le low deep nests inside.
    let some : 1 ≤ room = omega (arith, depth_positive e) in
    ap (λ (z : List Lexeme). spec.first note limit room (expr note limit room) quantifiers least (sign note "(" p ∷ z)) (append_assoc u (sign note ")" q ∷ v) rest)
    ∙ group_is note limit room (expr note limit room) quantifiers least p (u ++ sign note ")" q ∷ (v ++ rest)) (lt-ltb 0 room some)
    ∙ cast_read note limit room quantifiers least type p q n e v rest (le-leb least 10 le) before (opens_first note spelled rest)
    (read.is room quantifiers 10 rest strong (omega arith) (omega arith) nests inside))
