-- The parser of whole expressions gives the longest expression that the lexemes begin with, and refuses where none goes on.
use Rattle.std.proofs.Common.{◌≡◌, ◌⊎◌, ℕ, ◌+◌, ◌-◌, ◌≤◌, ◌<◌, Bool, true, false, nat_le, List, [], ◌∷◌, ◌++◌, length, take, drop, Ok, Err, refl, sym, ap, ◌∙◌, subst, append_assoc, append-nil, arith, add-one, inl, inr}
use Rattle.std.proofs.lemmas.List.{take-append-drop, length-take, drop_all}
use Rattle.std.proofs.lemmas.Bool.{lt-leb, or_from, and_left, and_right, cases_lt}
use Rattle.jesc_ast.specs.Lexemes.{Lexeme}
use Rattle.jesc_ast.specs.Trees.{Expression, name, paren, member, unary, binary, choose, cast, instance_of}
use Rattle.jesc_ast.specs.Expressions.{Spells, SpellsExpression}
use Rattle.jesc_ast.specs.Depth.{depth, nesting, IsWithinLimits}
use Rattle.jesc_jml_grammar.specs.declared.mark.Mark.{Mark}
use Rattle.jesc_jml_grammar.specs.declared.mark.Mark.TheVariants as m
use Rattle.jesc_jml_grammar.specs.declared.fault.Fault.{Fault}
use Rattle.jesc_jml_grammar.specs.declared.fault.Fault.TheVariants.{Unexpected, Deep}
use Rattle.jesc_jml_grammar.specs.Marks.{lexeme_mark}
use Rattle.jesc_jml_grammar.specs.Steps.{Outcome, mark_at, same_mark, head}
use Rattle.jesc_jml_grammar.specs.Reading.{Parsed, at_first, right_of, grows, expr}
use Rattle.jesc_jml_grammar.specs.laws.Refining.{ok_is, Answers, Stops}
use Rattle.jesc_jml_parser.specs.laws.Sound.{expr_sound}
use Rattle.jesc_jml_parser.specs.laws.Complete.{expr_complete}
use Rattle.jesc_jml_parser.specs.laws.Stable.{refines_expr}
use Rattle.jesc_jml_parser.specs.laws.Places.{split_at, next_lexeme, one_more}
use Rattle.jesc_jml_parser.specs.laws.Edges.{operator_mark, strength, goes_inside, goes_on}
use Rattle.jesc_jml_parser.specs.laws.Viable.{spelled_strength, some_strength, goes_on_begins}
use Rattle.jesc_jml_parser.specs.LongestAnswers.{IsLongest, IsRefused, IsStuck}

-- ---- nothing goes on at the end

right_some : (mark : Mark) → 1 ≤ right_of mark
right_some m.Implies = omega arith
right_some _ = omega arith

grows_no_end : (n least : ℕ) → 1 ≤ least → grows n m.End least ≡ false
grows_no_end n least one = and_left (nat_le least 0) (nat_le 0 n) (lt-leb least 0 one)

inside_no_end : (e : Expression) (least : ℕ) → goes_inside least e m.End ≡ false
unfolding same_mark
inside_no_end (name s x) least = refl
inside_no_end (member s e dot w) least = refl
inside_no_end (paren s (name t x)) least = refl
inside_no_end (unary s op e) least = or_from _ _ (grows_no_end (strength e) 10 (omega arith)) (inside_no_end e 10)
inside_no_end (binary s op a b) least =
    or_from _ _ (grows_no_end (strength b) (right_of (operator_mark op.text)) (right_some (operator_mark op.text))) (inside_no_end b (right_of (operator_mark op.text)))
inside_no_end (choose s c question a b) least = or_from _ _ (grows_no_end (strength b) 1 (omega arith)) (inside_no_end b 1)
inside_no_end (cast s t e) least = or_from _ _ (grows_no_end (strength e) 10 (omega arith)) (inside_no_end e 10)
inside_no_end (instance_of s e t) least = and_right _ _ refl
inside_no_end _ least = refl

pub goes_on_no_end : (e : Expression) (least : ℕ) → 1 ≤ least → goes_on least e m.End ≡ false
goes_on_no_end e least one = or_from _ _ (grows_no_end (strength e) least one) (inside_no_end e least)

-- ---- what is spelled is read

apart : (p : Parsed) (rest : List Lexeme) (f : Fault) (r : Outcome Parsed) → r ≡ Ok (p, rest) → r ≡ Err f → ⊥
apart p rest f r e g = cc

abbrev pub parsed_of : Expression → Parsed
parsed_of e = record { tree = e; depth = depth e; strength = strength e }

read_before : (note : Bool) (limit room quantifiers : ℕ) (e : Expression) (u rest : List Lexeme) → SpellsExpression note e u → depth e ≤ room → nesting e ≤ quantifiers
    → length u ≤ limit → goes_on 1 e (mark_at note rest) ≡ false → expr note limit room quantifiers 1 at_first (u ++ rest) ≡ Ok (parsed_of e, rest)
read_before note limit room quantifiers e u rest s shallow flat few ends =
    subst (λ (n : ℕ). expr note limit room quantifiers 1 at_first (u ++ rest) ≡ Ok (record { tree = e; depth = depth e; strength = n }, rest))
    (sym (spelled_strength note s.0 e u s.1))
    (expr_complete note limit room quantifiers 1 s.0 e u rest s.1 (some_strength note s.0 e u s.1) (omega arith) shallow flat few ends)

read_alone : (note : Bool) (limit room quantifiers : ℕ) (e : Expression) (u : List Lexeme) → SpellsExpression note e u → depth e ≤ room → nesting e ≤ quantifiers
    → length u ≤ limit → expr note limit room quantifiers 1 at_first u ≡ Ok (parsed_of e, [])
unfolding mark_at
read_alone note limit room quantifiers e u s shallow flat few =
    ap (expr note limit room quantifiers 1 at_first) (sym (append-nil u))
    ∙ read_before note limit room quantifiers e u [] s shallow flat few (goes_on_no_end e 1 (omega arith))

-- ---- no expression goes on where the parser was done or stopped

none_longer : (note : Bool) (limit room quantifiers : ℕ) (ts rest : List Lexeme) (p : Parsed) → expr note limit room quantifiers 1 at_first ts ≡ Ok (p, rest)
    → (x : Lexeme) (more : List Lexeme) → head (x ∷ more) ≡ head rest → (e : Expression) → SpellsExpression note e (take (length ts - length rest) ts ++ x ∷ more) → ⊥
none_longer note limit room quantifiers ts rest p is x more same e s =
    let w : List Lexeme = take (length ts - length rest) ts ++ x ∷ more in
    let limit' : ℕ = limit + length w in
    let R : Answers (expr note limit' (room + depth e) (quantifiers + nesting e) 1 at_first) ts p rest =
    (refines_expr false note limit limit' (omega arith) room (room + depth e) (omega arith) (λ t. absurd cc) quantifiers (quantifiers + nesting e) (omega arith) (λ t. absurd cc) 1 at_first).oks ts rest p is in
    let at = split_at ts R.taken rest (length rest) R.parts refl in
    let longer : expr note limit' (room + depth e) (quantifiers + nesting e) 1 at_first w ≡ Ok (p, x ∷ more) =
    ap (λ (z : List Lexeme). expr note limit' (room + depth e) (quantifiers + nesting e) 1 at_first (z ++ x ∷ more)) at.0 ∙ R.again (x ∷ more) same in
    let alone = read_alone note limit' (room + depth e) (quantifiers + nesting e) e w s (omega arith) (omega arith) (omega arith) in
    let empty : [] ≡ x ∷ more = (ok_is (parsed_of e) p [] (x ∷ more) (sym alone ∙ longer)).1 in
    absurd cc

none_stopped : (fault : ℕ → Fault) (note : Bool) (limit room quantifiers : ℕ) (ts : List Lexeme) (n : ℕ) → Stops fault (expr note limit room quantifiers 1 at_first) ts n
    → (other : List Lexeme) → head other ≡ head (drop (length ts - n) ts) → (e : Expression) → SpellsExpression note e (take (length ts - n) ts ++ other)
    → depth e ≤ room → nesting e ≤ quantifiers → length (take (length ts - n) ts ++ other) ≤ limit → ⊥
none_stopped fault note limit room quantifiers ts n S other same e s shallow flat few =
    let at = split_at ts S.taken S.rest n S.parts S.left in
    let stop : expr note limit room quantifiers 1 at_first (take (length ts - n) ts ++ other) ≡ Err (fault (length other)) =
    ap (λ (z : List Lexeme). expr note limit room quantifiers 1 at_first (z ++ other)) at.0 ∙ S.again other (same ∙ ap head at.1) in
    apart (parsed_of e) [] (fault (length other)) (expr note limit room quantifiers 1 at_first (take (length ts - n) ts ++ other))
    (read_alone note limit room quantifiers e (take (length ts - n) ts ++ other) s shallow flat few) stop

none_unexpected : (note : Bool) (limit room quantifiers : ℕ) (ts : List Lexeme) (n : ℕ) → expr note limit room quantifiers 1 at_first ts ≡ Err (Unexpected n)
    → (other : List Lexeme) → head other ≡ head (drop (length ts - n) ts) → (e : Expression) → SpellsExpression note e (take (length ts - n) ts ++ other) → ⊥
none_unexpected note limit room quantifiers ts n is other same e s =
    let limit' : ℕ = limit + length (take (length ts - n) ts ++ other) in
    none_stopped Unexpected note limit' (room + depth e) (quantifiers + nesting e) ts n
    ((refines_expr false note limit limit' (omega arith) room (room + depth e) (omega arith) (λ t. absurd cc) quantifiers (quantifiers + nesting e) (omega arith) (λ t. absurd cc) 1 at_first).errs ts n is)
    other same e s (omega arith) (omega arith) (omega arith)

none_deep : (note : Bool) (limit room quantifiers : ℕ) (ts : List Lexeme) (n : ℕ) → expr note limit room quantifiers 1 at_first ts ≡ Err (Deep n)
    → (other : List Lexeme) → head other ≡ head (drop (length ts - n) ts) → (e : Expression) → SpellsExpression note e (take (length ts - n) ts ++ other)
    → depth e ≤ room → nesting e ≤ quantifiers → ⊥
none_deep note limit room quantifiers ts n is other same e s shallow flat =
    let limit' : ℕ = limit + length (take (length ts - n) ts ++ other) in
    none_stopped Deep note limit' room quantifiers ts n
    ((refines_expr true note limit limit' (omega arith) room room (omega arith) (λ t. refl) quantifiers quantifiers (omega arith) (λ t. refl) 1 at_first).deeps refl ts n is)
    other same e s shallow flat (omega arith)

-- ---- one tree

-- lexemes spell one expression at most
pub unique : (note : Bool) (e e' : Expression) (u : List Lexeme) → SpellsExpression note e u → SpellsExpression note e' u → e ≡ e'
unique note e e' u s s' =
    let first = read_alone note (length u) (depth e + depth e') (nesting e + nesting e') e u s (omega arith) (omega arith) (omega arith) in
    let second = read_alone note (length u) (depth e + depth e') (nesting e + nesting e') e' u s' (omega arith) (omega arith) (omega arith) in
    ap (λ (p : Parsed). p.tree) (ok_is (parsed_of e) (parsed_of e') [] [] (sym first ∙ second)).0

-- ---- refusals

at_lexeme : (note : Bool) (Allowed : Expression → Type 0) (ts : List Lexeme) (at : ℕ)
    → ((other : List Lexeme) → head other ≡ head (drop at ts) → (e : Expression) → SpellsExpression note e (take at ts ++ other) → Allowed e → ⊥)
    → at < length ts → (e : Expression) (more : List Lexeme) → SpellsExpression note e (take (at + 1) ts ++ more) → Allowed e → ⊥
at_lexeme note Allowed ts at none lt e more s allowed =
    let x = one_more ts more at lt in
    none (x.0 ∷ more) x.1 e (subst (SpellsExpression note e) x.2 s) allowed

at_end : (note : Bool) (Allowed : Expression → Type 0) (ts : List Lexeme) (at : ℕ)
    → ((other : List Lexeme) → head other ≡ head (drop at ts) → (e : Expression) → SpellsExpression note e (take at ts ++ other) → Allowed e → ⊥)
    → (e : Expression) → SpellsExpression note e ts → Allowed e → ⊥
at_end note Allowed ts at none e s allowed = none (drop at ts) refl e (subst (SpellsExpression note e) (sym (take-append-drop at ts)) s) allowed

pub unexpected : (note : Bool) (limit room quantifiers : ℕ) (ts : List Lexeme) (n : ℕ) → expr note limit room quantifiers 1 at_first ts ≡ Err (Unexpected n) → IsRefused (SpellsExpression note) ts (length ts - n)
unexpected note limit room quantifiers ts n is =
    let none : (other : List Lexeme) → head other ≡ head (drop (length ts - n) ts) → (e : Expression) → SpellsExpression note e (take (length ts - n) ts ++ other) → Unit {0} → ⊥ =
    λ other same e s free. none_unexpected note limit room quantifiers ts n is other same e s in
    record {
      within = omega arith;
      lexeme = λ lt b. at_lexeme note (λ e. Unit {0}) ts (length ts - n) none lt b.0 b.1 b.2 tt;
      end = λ at e s. at_end note (λ e. Unit {0}) ts (length ts - n) none e s tt;
    }

pub deep : (note : Bool) (limit : ℕ) (ts : List Lexeme) (n : ℕ) → expr note limit 200 3 1 at_first ts ≡ Err (Deep n) → IsStuck (SpellsExpression note) IsWithinLimits ts (length ts - n)
deep note limit ts n is =
    let none : (other : List Lexeme) → head other ≡ head (drop (length ts - n) ts) → (e : Expression) → SpellsExpression note e (take (length ts - n) ts ++ other) → IsWithinLimits e → ⊥ =
    λ other same e s allowed. none_deep note limit 200 3 ts n is other same e s allowed.shallow allowed.flat in
    record {
      within = omega arith;
      lexeme = λ lt b. at_lexeme note IsWithinLimits ts (length ts - n) none lt b.0 b.1 b.2 b.3;
      end = λ at e s allowed. at_end note IsWithinLimits ts (length ts - n) none e s allowed;
    }

-- ---- what is read

pub found : (note : Bool) (limit : ℕ) (ts rest : List Lexeme) (p : Parsed) → expr note limit 200 3 1 at_first ts ≡ Ok (p, rest)
    → IsLongest (SpellsExpression note) IsWithinLimits ts p.tree (length ts - length rest)
found note limit ts rest p is =
    let S = expr_sound note limit 200 3 1 (omega arith) at_first tt ts rest p is in
    let at = split_at ts S.taken rest (length rest) S.parts refl in
    record {
      within = omega arith;
      spelled = (p.strength, subst (Spells note p.strength p.tree) (sym at.0) S.spelled);
      limited = record { shallow = omega (arith, S.deep, S.shallow); flat = S.flat };
      longest = λ lt b.
          let x = one_more ts b.1 (length ts - length rest) lt in
          none_longer note limit 200 3 ts rest p is x.0 b.1 (x.1 ∙ ap head at.1) b.0 (subst (SpellsExpression note b.0) x.2 b.2);
    }

longer_than : (note : Bool) (ts : List Lexeme) (e : Expression) (n : ℕ) → IsLongest (SpellsExpression note) IsWithinLimits ts e n → goes_on 1 e (mark_at note (drop n ts)) ≡ true → ⊥
unfolding mark_at
longer_than note ts e n is goes = by (cases_lt n (length ts))
  where
    by : (n < length ts) ⊎ (length ts ≤ n) → ⊥
    by (inl lt) =
        let next = next_lexeme ts n lt in
        let there : goes_on 1 e (lexeme_mark note next.0) ≡ true = subst (λ (z : List Lexeme). goes_on 1 e (mark_at note z) ≡ true) next.2 goes in
        let longer = goes_on_begins note 1 is.spelled.0 e (take n ts) next.0 is.spelled.1 (some_strength note is.spelled.0 e (take n ts) is.spelled.1) (omega arith) there in
        let same : take n ts ++ next.0 ∷ longer.2 ≡ take (n + 1) ts ++ longer.2 = sym (rw (add-one, next.3) (append_assoc (take n ts) (next.0 ∷ []) longer.2)) in
        is.longest lt (longer.1, longer.2, (longer.0, subst (Spells note longer.0 longer.1) same longer.4))
    by (inr le) =
        let there : goes_on 1 e m.End ≡ true = subst (λ (z : List Lexeme). goes_on 1 e (mark_at note z) ≡ true) (drop_all n ts le) goes in
        let none = goes_on_no_end e 1 (omega arith) in
        absurd cc

ends_there : (note : Bool) (ts : List Lexeme) (e : Expression) (n : ℕ) → IsLongest (SpellsExpression note) IsWithinLimits ts e n → (b : Bool) → goes_on 1 e (mark_at note (drop n ts)) ≡ b → b ≡ false
ends_there note ts e n is false goes = refl
ends_there note ts e n is true goes = absurd (longer_than note ts e n is goes)

pub only : (note : Bool) (limit : ℕ) (ts : List Lexeme) (e : Expression) (n : ℕ) → length ts ≤ limit → IsLongest (SpellsExpression note) IsWithinLimits ts e n
    → expr note limit 200 3 1 at_first ts ≡ Ok (parsed_of e, drop n ts)
only note limit ts e n few is =
    ap (expr note limit 200 3 1 at_first) (sym (take-append-drop n ts))
    ∙ read_before note limit 200 3 e (take n ts) (drop n ts) is.spelled is.limited.shallow is.limited.flat (omega (arith, length-take n ts))
    (ends_there note ts e n is (goes_on 1 e (mark_at note (drop n ts))) refl)
