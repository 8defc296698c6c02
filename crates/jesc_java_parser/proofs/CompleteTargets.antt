-- Targets and calls are read, where they begin a statement and behind a word or a sign.
use Rattle.std.proofs.Common.{◌≡◌, ℕ, zero, suc, ◌+◌, ◌-◌, ◌≤◌, Bool, true, false, ◌&&◌, ◌||◌, List, [], ◌∷◌, ◌++◌, length, length-append, Ok, refl, sym, ◌∙◌, arith, codes, inl, inr}
use Rattle.std.specs.Prelude.{◌⊎◌, nat_lt}
use Rattle.std.proofs.lemmas.Bool.{cases_Bool, lt-ltb, and_parts}
use Rattle.jesc_ast.specs.Lexemes.{Lexeme}
use Rattle.jesc_ast.specs.Trees.{Expression}
use Rattle.jesc_ast.specs.Expressions.{Spells, is_plain_name, is_member, is_index, is_own_call, is_super_call, is_call}
use Rattle.jesc_ast.specs.Depth.{depth, nesting}
use Rattle.jesc_ast.specs.Statements as grammar
use Rattle.jesc_ast.specs.Statements.{is_target}
use Rattle.jesc_jml_grammar.specs.declared.mark.Mark.{Mark}
use Rattle.jesc_jml_grammar.specs.declared.mark.Mark.TheVariants as m
use Rattle.jesc_jml_grammar.specs.Marks.{lexeme_mark}
use Rattle.jesc_jml_grammar.specs.Steps.{mark_at, same_mark}
use Rattle.jesc_jml_grammar.specs.Reading.{Parsed, Start, at_first, behind_name, behind_bracket, opens, climb, expr}
use Rattle.jesc_jml_grammar.specs.laws.Refining.{bind_ok}
use Rattle.jesc_jml_parser.specs.laws.Edges.{goes_on}
use Rattle.jesc_jml_parser.specs.laws.CompleteMarks.{name_at, word_at, took, same_mark_is, opens_first}
use Rattle.jesc_jml_parser.specs.laws.CompleteSteps.{parsed, depth_positive}
use Rattle.jesc_jml_parser.specs.laws.CompleteStarts.{name_start}
use Rattle.jesc_jml_parser.specs.laws.Complete.{expr_complete}
use Rattle.jesc_jml_parser.specs.laws.CompleteHeads.{is_longer, headed_complete, name_before_name, name_before_bracket}
use Rattle.jesc_java_grammar.specs.FileReading.{expression_of}
use Rattle.jesc_java_grammar.specs.StatementReading as spec
use Rattle.jesc_java_parser.proofs.CompleteGroups.{first_read}
use Rattle.jesc_java_parser.proofs.CompleteTargetTails.{target_behind_name, target_behind_bracket, target_at_head}

-- ---- what targets and calls begin with

-- a target or a call
abbrev pub is_act : Expression → Bool
is_act e = is_target e || grammar.is_call e

-- where no name stands first, and no `super` before a call, it goes on with another expression
data Begins (note : Bool) (e : Expression) (mark : Mark) : Type 0 where
  by_name : mark ≡ m.Name → Begins note e mark
  by_super : mark ≡ m.Super → is_target e ≡ false → Begins note e mark
  by_other : is_longer e ≡ true → Begins note e mark

begins : (note : Bool) {k : ℕ} {e : Expression} {u : List Lexeme} → Spells note k e u → is_act e ≡ true → (rest : List Lexeme) → Begins note e (mark_at note (u ++ rest))
unfolding mark_at
begins note (is_plain_name s x t) act rest = by_name (name_at note x s t)
begins note (is_member n e u dot s x h strong t) act rest = by_other refl
begins note (is_index n m e i u v p q h strong hi) act rest = by_other refl
begins note (is_own_call s p q x es u t h) act rest = by_name (name_at note x s t)
begins note (is_super_call r dot s p q x es u t h) act rest = by_super (word_at note (codes "super") r) refl
begins note (is_call n e dot s p q x es u v h strong t hs) act rest = by_other refl
begins note _ act rest = absurd cc

-- ---- behind a word or a sign

name_only : (mark : Mark) → (mark ≡ m.Name) ⊎ (same_mark mark m.Name ≡ false)
unfolding same_mark
name_only m.Name = inl refl
name_only _ = inr refl

module _ (limit room quantifiers : ℕ) (note : Bool) where
  other_postfix : (mark : Mark) (ts : List Lexeme) → same_mark mark m.Name ≡ false
      → spec.postfix_by limit room (expression_of limit) quantifiers note mark ts ≡ spec.headed_target limit room (expression_of limit) quantifiers note ts
  unfolding same_mark
  other_postfix m.Name ts other = absurd cc
  other_postfix _ ts other = refl

  headed_read : (k : ℕ) (e : Expression) (u rest : List Lexeme) → Spells note k e u → is_longer e ≡ true → depth e ≤ room → nesting e ≤ quantifiers → length u ≤ limit
      → goes_on 11 e (mark_at note rest) ≡ false → spec.headed limit room (expression_of limit) quantifiers note (u ++ rest) ≡ Ok (parsed k e, rest)
  unfolding spec.headed spec.longer
  headed_read k e u rest h longer deep flat short stops =
      let turn = bind_ok (expr note limit (room - 1) quantifiers 13 at_first (u ++ rest)) (climb note limit (room - 1) (expr note limit (room - 1)) quantifiers 11 room) (parsed k e) rest
      (headed_complete note limit room quantifiers k e u rest h longer deep flat short stops) in
      rw (first_read note limit quantifiers room (u ++ rest) turn.1 turn.0 turn.2) turn.3

  tight : {k : ℕ} {e : Expression} {u : List Lexeme} → Spells note k e u → is_act e ≡ true → 11 ≤ k
  tight (is_plain_name s x t) act = omega arith
  tight (is_member n e u dot s x h strong t) act = omega arith
  tight (is_index n m e i u v p q h strong hi) act = omega arith
  tight (is_own_call s p q x es u t h) act = omega arith
  tight (is_super_call r dot s p q x es u t h) act = omega arith
  tight (is_call n e dot s p q x es u v h strong t hs) act = omega arith
  tight _ act = absurd cc

  act_read : (k : ℕ) (e : Expression) (u rest : List Lexeme) → Spells note k e u → is_act e ≡ true → depth e ≤ room → nesting e ≤ quantifiers → length u ≤ limit
      → goes_on 11 e (mark_at note rest) ≡ false → expr note limit room quantifiers 11 at_first (u ++ rest) ≡ Ok (parsed k e, rest)
  act_read k e u rest h act deep flat short stops = expr_complete note limit room quantifiers 11 k e u rest h (tight h act) (omega arith) deep flat short stops

  target_act : (e : Expression) → is_target e ≡ true → is_act e ≡ true
  target_act e t = rw t refl

  named_target_read : (ts rest : List Lexeme) (p : Parsed) → 1 ≤ room → mark_at note ts ≡ m.Name → is_target p.tree ≡ true → length ts ≤ length rest + limit
      → expr note limit room quantifiers 11 at_first ts ≡ Ok (p, rest) → spec.named_target limit room (expression_of limit) quantifiers note ts ≡ Ok (p, rest)
  unfolding spec.named_target mark_at
  named_target_read [] rest p some at t few read = absurd cc
  named_target_read (x ∷ ts) rest p some at t few read =
      rw (took note m.Name x ts at)
      (target_behind_name note limit room quantifiers x ts rest p some t (omega arith) (sym (name_start note limit room quantifiers 11 x ts some at) ∙ read))

  roomy_target_is : (ts : List Lexeme) → nat_lt 0 room ≡ true
      → spec.roomy_target limit room (expression_of limit) quantifiers note ts ≡ spec.named_target limit room (expression_of limit) quantifiers note ts
  roomy_target_is ts some = rw some refl

  postfix_read : (k : ℕ) (e : Expression) (u rest : List Lexeme) → Spells note k e u → is_target e ≡ true → depth e ≤ room → nesting e ≤ quantifiers → length u ≤ limit
      → goes_on 11 e (mark_at note rest) ≡ false → spec.postfix limit room (expression_of limit) quantifiers note (u ++ rest) ≡ Ok (parsed k e, rest)
  unfolding spec.postfix
  postfix_read k e u rest h t deep flat short stops =
      let some : 1 ≤ room = omega (arith, depth_positive e) in
      let few : length (u ++ rest) ≤ length rest + limit = omega (arith, length-append u rest) in
      elim (name_only (mark_at note (u ++ rest))) [
        | inl n ↦ rw n (roomy_target_is (u ++ rest) (lt-ltb 0 room some)
            ∙ named_target_read (u ++ rest) rest (parsed k e) some n t few (act_read k e u rest h (target_act e t) deep flat short stops))
        | inr other ↦ other_postfix (mark_at note (u ++ rest)) (u ++ rest) other ∙ elim (begins note h (target_act e t) rest) [
          | by_name n ↦ absurd (cc (other, n, same_mark_is m.Name))
          | by_super r none ↦ absurd cc
          | by_other longer ↦ target_at_head note limit room quantifiers (u ++ rest) rest (parsed k e) some t few (headed_read k e u rest h longer deep flat short stops)
        ]
      ]

  pub target_read : (k : ℕ) (e : Expression) (u rest : List Lexeme) → Spells note k e u → is_target e ≡ true → depth e ≤ room → nesting e ≤ quantifiers → length u ≤ limit
      → goes_on 11 e (mark_at note rest) ≡ false → spec.target limit room (expression_of limit) quantifiers note (u ++ rest) ≡ Ok (parsed k e, rest)
  unfolding spec.target
  target_read k e u rest h t deep flat short stops = rw (postfix_read k e u rest h t deep flat short stops) (rw t refl)

-- ---- at the beginning of a statement

-- what stands behind a first name
data Follows (mark : Mark) : Type 0 where
  names : mark ≡ m.Name → Follows mark
  indexes : mark ≡ m.LeftBracket → Follows mark
  goes : ((limit room quantifiers : ℕ) (locals calls : Bool) (x : Lexeme) (ts : List Lexeme)
      → spec.named_by limit room (expression_of limit) quantifiers locals calls x mark ts ≡ spec.acted_from limit room (expression_of limit) quantifiers calls (behind_name x) ts)
      → Follows mark

by_either : (mark : Mark) → ((limit room quantifiers : ℕ) (calls : Bool) (x : Lexeme) (ts : List Lexeme)
    → spec.named_by limit room (expression_of limit) quantifiers true calls x mark ts ≡ spec.acted_from limit room (expression_of limit) quantifiers calls (behind_name x) ts)
    → ((limit room quantifiers : ℕ) (calls : Bool) (x : Lexeme) (ts : List Lexeme)
    → spec.named_by limit room (expression_of limit) quantifiers false calls x mark ts ≡ spec.acted_from limit room (expression_of limit) quantifiers calls (behind_name x) ts)
    → Follows mark
by_either mark one two = goes (λ limit room quantifiers locals calls x ts. elim locals as (λ b. spec.named_by limit room (expression_of limit) quantifiers b calls x mark ts
    ≡ spec.acted_from limit room (expression_of limit) quantifiers calls (behind_name x) ts) [ true ↦ one limit room quantifiers calls x ts | false ↦ two limit room quantifiers calls x ts ])

follows : (mark : Mark) → Follows mark
follows m.Name = names refl
follows m.LeftBracket = indexes refl
follows _ = by_either _ (λ limit room quantifiers calls x ts. refl) (λ limit room quantifiers calls x ts. refl)

super_is : (mark : Mark) → same_mark mark m.Super ≡ true → mark ≡ m.Super
unfolding same_mark
super_is m.Super e = refl
super_is _ e = absurd cc

-- where no call may stand, there is a target
target_there : (e : Expression) (calls : Bool) → (is_target e ≡ false → calls ≡ true) → calls ≡ false → is_target e ≡ true
target_there e calls may none = elim (cases_Bool (is_target e)) [ inl t ↦ t | inr other ↦ absurd (cc (may other, none)) ]

module _ (limit room quantifiers : ℕ) where
  acted_from_is : (calls : Bool) (start : Start) (p : Parsed) (ts rest : List Lexeme) → spec.act_from limit room (expression_of limit) quantifiers calls start ts ≡ Ok (p, rest)
      → spec.acted_from limit room (expression_of limit) quantifiers calls start ts ≡ spec.acted limit room (expression_of limit) quantifiers calls p rest
  unfolding spec.acted_from
  acted_from_is calls start p ts rest read = rw read refl

  act_first : (calls : Bool) (ts rest : List Lexeme) (p : Parsed) → calls ≡ true → expr false limit room quantifiers 11 at_first ts ≡ Ok (p, rest)
      → spec.act_from limit room (expression_of limit) quantifiers calls at_first ts ≡ Ok (p, rest)
  act_first true ts rest p c read = read
  act_first false ts rest p c read = absurd cc

  act_behind_name : (calls : Bool) (x : Lexeme) (ts rest : List Lexeme) (p : Parsed) → 1 ≤ room → (calls ≡ false → is_target p.tree ≡ true) → length ts ≤ length rest + limit
      → expr false limit room quantifiers 11 (behind_name x) ts ≡ Ok (p, rest)
      → spec.act_from limit room (expression_of limit) quantifiers calls (behind_name x) ts ≡ Ok (p, rest)
  act_behind_name true x ts rest p some t few read = read
  act_behind_name false x ts rest p some t few read = target_behind_name false limit room quantifiers x ts rest p some (t refl) few read

  act_behind_bracket : (calls : Bool) (x b : Lexeme) (ts rest : List Lexeme) (p : Parsed) → 1 ≤ room → (calls ≡ false → is_target p.tree ≡ true) → length ts ≤ length rest + limit
      → expr false limit room quantifiers 11 (behind_bracket x b) ts ≡ Ok (p, rest)
      → spec.act_from limit room (expression_of limit) quantifiers calls (behind_bracket x b) ts ≡ Ok (p, rest)
  act_behind_bracket true x b ts rest p some t few read = read
  act_behind_bracket false x b ts rest p some t few read = target_behind_bracket false limit room quantifiers x b ts rest p some (t refl) few read

  act_head : (calls : Bool) (ts rest : List Lexeme) (p : Parsed) → 1 ≤ room → (calls ≡ false → is_target p.tree ≡ true) → length ts ≤ length rest + limit
      → spec.headed limit room (expression_of limit) quantifiers false ts ≡ Ok (p, rest)
      → spec.act_at_head limit room (expression_of limit) quantifiers calls ts ≡ Ok (p, rest)
  act_head true ts rest p some t few read = read
  act_head false ts rest p some t few read = target_at_head false limit room quantifiers ts rest p some (t refl) few read

  bracketed_is : (calls : Bool) (x b : Lexeme) (ts : List Lexeme) → lexeme_mark false b ≡ m.LeftBracket → same_mark (mark_at false ts) m.RightBracket ≡ false
      → spec.bracketed limit room (expression_of limit) quantifiers calls x (b ∷ ts)
      ≡ spec.acted_from limit room (expression_of limit) quantifiers calls (behind_bracket x b) ts
  unfolding spec.bracketed
  bracketed_is calls x b ts at none = rw (took false m.LeftBracket b ts at) (rw none refl)

  named_is : (locals calls : Bool) (x : Lexeme) (ts : List Lexeme) → lexeme_mark false x ≡ m.Name
      → spec.named limit room (expression_of limit) quantifiers locals calls (x ∷ ts) ≡ spec.named_by limit room (expression_of limit) quantifiers locals calls x (mark_at false ts) ts
  unfolding spec.named
  named_is locals calls x ts at = rw (took false m.Name x ts at) refl

  name_read : (calls : Bool) (x : Lexeme) (ts rest : List Lexeme) (p : Parsed) → 1 ≤ room → (calls ≡ false → is_target p.tree ≡ true) → length ts ≤ length rest + limit
      → lexeme_mark false x ≡ m.Name → expr false limit room quantifiers 11 at_first (x ∷ ts) ≡ Ok (p, rest)
      → spec.acted_from limit room (expression_of limit) quantifiers calls (behind_name x) ts ≡ spec.acted limit room (expression_of limit) quantifiers calls p rest
  name_read calls x ts rest p some t few at read =
      acted_from_is calls (behind_name x) p ts rest
      (act_behind_name calls x ts rest p some t few (sym (name_start false limit room quantifiers 11 x ts some at) ∙ read))

  bracket_read : (calls : Bool) (x : Lexeme) (ts rest : List Lexeme) (p : Parsed) → 1 ≤ room → (calls ≡ false → is_target p.tree ≡ true) → length ts ≤ length rest + limit
      → lexeme_mark false x ≡ m.Name → mark_at false ts ≡ m.LeftBracket → expr false limit room quantifiers 11 at_first (x ∷ ts) ≡ Ok (p, rest)
      → spec.bracketed limit room (expression_of limit) quantifiers calls x ts ≡ spec.acted limit room (expression_of limit) quantifiers calls p rest
  unfolding mark_at
  bracket_read calls x [] rest p some t few at next read = absurd cc
  bracket_read calls x (b ∷ ts) rest p some t few at next read =
      let parts = name_before_bracket false limit room quantifiers 11 x b ts rest p some (omega arith) at next read in
      bracketed_is calls x b ts next parts.0
      ∙ acted_from_is calls (behind_bracket x b) p ts rest (act_behind_bracket calls x b ts rest p some t (omega arith) parts.1)

  -- where no local may stand, a bracket behind a name is read with it
  index_read : (locals calls : Bool) (x : Lexeme) (ts rest : List Lexeme) (p : Parsed) → 1 ≤ room → (calls ≡ false → is_target p.tree ≡ true) → length ts ≤ length rest + limit
      → lexeme_mark false x ≡ m.Name → mark_at false ts ≡ m.LeftBracket → expr false limit room quantifiers 11 at_first (x ∷ ts) ≡ Ok (p, rest)
      → spec.named_by limit room (expression_of limit) quantifiers locals calls x m.LeftBracket ts ≡ spec.acted limit room (expression_of limit) quantifiers calls p rest
  index_read true calls x ts rest p some t few at next read = bracket_read calls x ts rest p some t few at next read
  index_read false calls x ts rest p some t few at next read = name_read calls x ts rest p some t few at read

  names_again : (n : ℕ) (x : Lexeme) (ts rest : List Lexeme) (p : Parsed) → 1 ≤ n → lexeme_mark false x ≡ m.Name → mark_at false ts ≡ m.Name
      → same_mark (mark_at false rest) m.Name ≡ false → expr false limit n quantifiers 11 at_first (x ∷ ts) ≡ Ok (p, rest) → ⊥
  names_again zero x ts rest p some at next none read = absurd (omega arith)
  names_again (suc n) x ts rest p some at next none read =
      let same = name_before_name false limit n quantifiers 11 x ts rest p (omega arith) at next read in
      absurd (cc (same, next, none, same_mark_is m.Name))

  named_read : (locals calls : Bool) (ts rest : List Lexeme) (p : Parsed) → 1 ≤ room → (calls ≡ false → is_target p.tree ≡ true) → length ts ≤ length rest + limit
      → mark_at false ts ≡ m.Name → same_mark (mark_at false rest) m.Name ≡ false → expr false limit room quantifiers 11 at_first ts ≡ Ok (p, rest)
      → spec.named limit room (expression_of limit) quantifiers locals calls ts ≡ spec.acted limit room (expression_of limit) quantifiers calls p rest
  unfolding mark_at
  named_read locals calls [] rest p some t few at none read = absurd cc
  named_read locals calls (x ∷ ts) rest p some t few at none read =
      named_is locals calls x ts at ∙ elim (follows (mark_at false ts)) [
        | names n ↦ absurd (names_again room x ts rest p some at n none read)
        | indexes i ↦ rw i (index_read locals calls x ts rest p some t (omega arith) at i read)
        | goes g ↦ g limit room quantifiers locals calls x ts ∙ name_read calls x ts rest p some t (omega arith) at read
      ]

  plain_other : (locals calls : Bool) (mark : Mark) (ts : List Lexeme) → opens mark ≡ true → same_mark mark m.Name ≡ false → (calls && same_mark mark m.Super) ≡ false
      → spec.plain_by limit room (expression_of limit) quantifiers locals calls mark ts ≡ spec.headed_act limit room (expression_of limit) quantifiers calls ts
  unfolding same_mark
  plain_other locals calls m.Name ts o n none = absurd cc
  plain_other locals calls m.Int ts o n none = absurd cc
  plain_other locals calls m.Long ts o n none = absurd cc
  plain_other locals calls m.Boolean ts o n none = absurd cc
  plain_other locals true m.Super ts o n none = absurd cc
  plain_other true true _ ts o n none = refl
  plain_other true false _ ts o n none = refl
  plain_other false true _ ts o n none = refl
  plain_other false false _ ts o n none = refl

  plain_name : (locals calls : Bool) (ts : List Lexeme) → nat_lt 0 room ≡ true
      → spec.plain_by limit room (expression_of limit) quantifiers locals calls m.Name ts ≡ spec.named limit room (expression_of limit) quantifiers locals calls ts
  plain_name true calls ts some = rw some refl
  plain_name false calls ts some = rw some refl

  plain_super : (locals calls : Bool) (ts : List Lexeme) → calls ≡ true
      → spec.plain_by limit room (expression_of limit) quantifiers locals calls m.Super ts ≡ spec.acted_from limit room (expression_of limit) quantifiers calls at_first ts
  plain_super true true ts c = refl
  plain_super false true ts c = refl
  plain_super _ false ts c = absurd cc

  headed_act_is : (calls : Bool) (p : Parsed) (ts rest : List Lexeme) → spec.act_at_head limit room (expression_of limit) quantifiers calls ts ≡ Ok (p, rest)
      → spec.headed_act limit room (expression_of limit) quantifiers calls ts ≡ spec.acted limit room (expression_of limit) quantifiers calls p rest
  unfolding spec.headed_act
  headed_act_is calls p ts rest read = rw read refl

  -- A target or a call is read, where more than a name stands before a call.
  pub plain_read : (locals calls : Bool) (k : ℕ) (e : Expression) (u rest : List Lexeme) → Spells false k e u → is_act e ≡ true → (is_target e ≡ false → calls ≡ true)
      → depth e ≤ room → nesting e ≤ quantifiers → length u ≤ limit → goes_on 11 e (mark_at false rest) ≡ false → same_mark (mark_at false rest) m.Name ≡ false
      → spec.plain limit room (expression_of limit) quantifiers locals calls (u ++ rest) ≡ spec.acted limit room (expression_of limit) quantifiers calls (parsed k e) rest
  unfolding spec.plain
  plain_read locals calls k e u rest h act may deep flat short stops none =
      let some : 1 ≤ room = omega (arith, depth_positive e) in
      let few : length (u ++ rest) ≤ length rest + limit = omega (arith, length-append u rest) in
      let t = target_there e calls may in
      let mark = mark_at false (u ++ rest) in
      let o = opens_first false h rest in
      let read = act_read limit room quantifiers false k e u rest h act deep flat short stops in
      elim (name_only mark) [
        | inl n ↦ rw n (plain_name locals calls (u ++ rest) (lt-ltb 0 room some) ∙ named_read locals calls (u ++ rest) rest (parsed k e) some t few n none read)
        | inr other ↦ elim (begins false h act rest) [
          | by_name n ↦ absurd (cc (other, n, same_mark_is m.Name))
          | by_super r no_target ↦ rw r (plain_super locals calls (u ++ rest) (may no_target)
              ∙ acted_from_is calls at_first (parsed k e) (u ++ rest) rest (act_first calls (u ++ rest) rest (parsed k e) (may no_target) read))
          | by_other longer ↦ elim (cases_Bool (calls && same_mark mark m.Super)) [
            | inl b ↦ let parts = and_parts calls (same_mark mark m.Super) b in
                rw (super_is mark parts.1) (plain_super locals calls (u ++ rest) parts.0
                ∙ acted_from_is calls at_first (parsed k e) (u ++ rest) rest (act_first calls (u ++ rest) rest (parsed k e) parts.0 read))
            | inr b ↦ plain_other locals calls mark (u ++ rest) o other b
                ∙ headed_act_is calls (parsed k e) (u ++ rest) rest
                (act_head calls (u ++ rest) rest (parsed k e) some t few (headed_read limit room quantifiers false k e u rest h longer deep flat short stops))
          ]
        ]
      ]
