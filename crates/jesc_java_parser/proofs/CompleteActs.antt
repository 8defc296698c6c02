-- The parts of simple statements are read: what stands behind a target, and locals.
use Rattle.std.proofs.Common.{◌≡◌, ℕ, ◌-◌, ◌≤◌, Bool, true, false, not, List, ◌∷◌, ◌++◌, length, Ok, refl, ◌∙◌, arith, codes, inl, inr, IsTrue}
use Rattle.std.specs.Prelude.{nat_lt}
use Rattle.std.proofs.lemmas.Bool.{or_cases, lt-ltb, and_right}
use Rattle.jesc_text.specs.declared.place.Span.{Span}
use Rattle.jesc_ast.specs.declared.word.TypeTree.{TypeTree}
use Rattle.jesc_ast.specs.Lexemes.{Lexeme, word, sign, chosen_word, chosen_sign, join}
use Rattle.jesc_ast.specs.Words.{is_name, is_primitive}
use Rattle.jesc_ast.specs.Trees.{Expression, call}
use Rattle.jesc_ast.specs.Expressions.{type_tree, Spells, SpellsType, is_plain_type, is_array_type}
use Rattle.jesc_ast.specs.Depth.{depth, nesting}
use Rattle.jesc_ast.specs.Statements.{is_target, is_call, is_assign_sign, is_step_sign}
use Rattle.jesc_jml_grammar.specs.declared.mark.Mark.{Mark}
use Rattle.jesc_jml_grammar.specs.declared.mark.Mark.TheVariants as m
use Rattle.jesc_jml_grammar.specs.Marks as marks
use Rattle.jesc_jml_grammar.specs.Marks.{lexeme_mark}
use Rattle.jesc_jml_grammar.specs.Steps.{mark_at, same_mark}
use Rattle.jesc_jml_grammar.specs.Reading.{Parsed, at_first, casts, expr}
use Rattle.jesc_jml_parser.specs.laws.Edges.{goes_on}
use Rattle.jesc_jml_parser.specs.laws.CompleteMarks.{sign_at, name_at, is_primitive_mark, primitive_at, took_sign, took_name}
use Rattle.jesc_jml_parser.specs.laws.CompleteEdges.{closed_by, positive}
use Rattle.jesc_jml_parser.specs.laws.CompleteSteps.{parsed}
use Rattle.jesc_jml_parser.specs.laws.CompleteArguments.{Closes}
use Rattle.jesc_jml_parser.specs.laws.CompleteLonger.{type_is}
use Rattle.jesc_jml_parser.specs.laws.Complete.{expr_complete}
use Rattle.jesc_jml_parser.specs.laws.ClauseSoundMarks.{of_one_of}
use Rattle.jesc_java_grammar.specs.Lexing.{is_word, is_sign}
use Rattle.jesc_java_grammar.specs.StatementMarks.{statement_mark_at, is_assign, is_step}
use Rattle.jesc_java_grammar.specs.FileReading.{expression_of}
use Rattle.jesc_java_grammar.specs.StatementReading as spec
use Rattle.jesc_java_grammar.specs.StatementReading.{Piece, local_of, assign_of, step_after_of, step_before_of, call_of}
use Rattle.jesc_java_parser.proofs.CompleteLexing.{took_if, none_of, assign_signs, step_signs}
use Rattle.jesc_java_parser.proofs.CompleteTargets.{is_act}

-- ---- what ends an expression

-- nothing goes on with an expression before these lexemes
abbrev pub IsClosed : Bool → List Lexeme → Type 0
IsClosed note rest = Closes (mark_at note rest)

pub closed_by_sign : (note : Bool) (x : List ℕ) (s : Span) (rest : List Lexeme) → Closes (marks.sign_mark note x) → IsClosed note (chosen_sign note x s ∷ rest)
unfolding mark_at
closed_by_sign note x s rest c = rw (sign_at note x s) c

pub ends_before : (note : Bool) {k : ℕ} {e : Expression} {u : List Lexeme} → Spells note k e u → (least : ℕ) → 1 ≤ least → (rest : List Lexeme) → IsClosed note rest
    → goes_on least e (mark_at note rest) ≡ false
ends_before note h least some rest c = closed_by note h least (mark_at note rest) c.no_cast (omega (arith, c.loose)) (omega (arith, c.weak))

-- a whole expression
pub value_read : (note : Bool) (limit room quantifiers k : ℕ) (e : Expression) (u rest : List Lexeme) → Spells note k e u → depth e ≤ room → nesting e ≤ quantifiers
    → length u ≤ limit → IsClosed note rest → expr note limit room quantifiers 1 at_first (u ++ rest) ≡ Ok (parsed k e, rest)
value_read note limit room quantifiers k e u rest h deep flat short c =
    expr_complete note limit room quantifiers 1 k e u rest h (positive note h) (omega arith) deep flat short (ends_before note h 1 (omega arith) rest c)

pub no_name : (mark : Mark) → casts mark ≡ false → same_mark mark m.Name ≡ false
unfolding same_mark
no_name m.Name c = absurd cc
no_name _ c = refl

-- ---- the signs of assignments

pub plain_sign : Closes m.Sign
plain_sign = record { no_cast = refl; loose = refl; weak = refl }

pub assign_closes : (x : List ℕ) → is_assign_sign x ≡ true → Closes (marks.sign_mark false x)
assign_closes x e = of_one_of (λ y. Closes (marks.sign_mark false y)) assign_signs x (plain_sign, (plain_sign, (plain_sign, (plain_sign, (plain_sign, (plain_sign, tt)))))) e

pub step_closes : (x : List ℕ) → is_step_sign x ≡ true → Closes (marks.sign_mark false x)
step_closes x e = of_one_of (λ y. Closes (marks.sign_mark false y)) step_signs x (plain_sign, (plain_sign, tt)) e

pub target_act : (e : Expression) → is_target e ≡ true → is_act e ≡ true
target_act e t = rw t refl

pub call_act : (e : Expression) → is_call e ≡ true → is_act e ≡ true
call_act (call t r w es) c = refl
call_act _ c = absurd cc

pub no_target : (e : Expression) → is_call e ≡ true → is_target e ≡ false
no_target (call t r w es) c = refl
no_target _ c = absurd cc

-- ---- the rules

module _ (limit room quantifiers : ℕ) where
  pub assigned_is : (alone : Bool) (a e : Parsed) (op : List ℕ) (o : Span) (ts rest : List Lexeme) → is_target a.tree ≡ true → is_assign_sign op ≡ true
      → expr false limit room quantifiers 1 at_first ts ≡ Ok (e, rest)
      → spec.acted limit room (expression_of limit) quantifiers alone a (chosen_sign false op o ∷ ts) ≡ Ok (assign_of a (chosen_sign false op o) e, rest)
  unfolding spec.acted spec.changed spec.assigned statement_mark_at
  assigned_is alone a e op o ts rest t is read = rw t (rw is (rw (took_if is_assign (chosen_sign false op o) ts is) (rw read refl)))

  pub stepped_is : (alone : Bool) (a : Parsed) (op : List ℕ) (o : Span) (rest : List Lexeme) → is_target a.tree ≡ true → is_step_sign op ≡ true
      → spec.acted limit room (expression_of limit) quantifiers alone a (chosen_sign false op o ∷ rest) ≡ Ok (step_after_of a (chosen_sign false op o), rest)
  unfolding spec.acted spec.changed spec.stepped statement_mark_at
  stepped_is alone a op o rest t is =
      rw t (rw (none_of is_step_sign assign_signs op refl is) (rw is (rw (took_if is_step (chosen_sign false op o) rest is) refl)))

  pub called_is : (a : Parsed) (rest : List Lexeme) → is_target a.tree ≡ false → is_call a.tree ≡ true
      → spec.acted limit room (expression_of limit) quantifiers true a rest ≡ Ok (call_of a, rest)
  unfolding spec.acted
  called_is a rest t is = rw t (rw is refl)

  pub stepped_first_is : (a : Parsed) (op : List ℕ) (o : Span) (ts rest : List Lexeme) → is_step_sign op ≡ true
      → spec.target limit room (expression_of limit) quantifiers false ts ≡ Ok (a, rest)
      → spec.stepped_first limit room (expression_of limit) quantifiers (chosen_sign false op o ∷ ts) ≡ Ok (step_before_of (chosen_sign false op o) a, rest)
  unfolding spec.stepped_first
  stepped_first_is a op o ts rest is read = rw (took_if is_step (chosen_sign false op o) ts is) (rw read refl)

  pub named_local_is : (first : Span) (is_final : Bool) (t : TypeTree) (x : List ℕ) (n q : Span) (e : Parsed) (ts rest : List Lexeme) → IsTrue (is_name x)
      → expr false limit room quantifiers 1 at_first ts ≡ Ok (e, rest)
      → spec.named_local limit room (expression_of limit) quantifiers first is_final t (chosen_word false x n ∷ sign false "=" q ∷ ts)
      ≡ Ok (local_of first is_final t (chosen_word false x n) (sign false "=" q) e, rest)
  unfolding spec.named_local
  named_local_is first is_final t x n q e ts rest named read =
      rw (took_name false x n (sign false "=" q ∷ ts) named) (rw (took_if (is_sign (codes "=") false) (sign false "=" q) ts refl) (rw read refl))

  typed_local_is : (alone : Bool) (mark : Mark) (ts : List Lexeme) → is_primitive_mark mark ≡ true → nat_lt 0 room ≡ true
      → spec.plain_by limit room (expression_of limit) quantifiers true alone mark ts ≡ spec.typed_local limit room (expression_of limit) quantifiers ts
  typed_local_is alone m.Int ts p some = rw some refl
  typed_local_is alone m.Long ts p some = rw some refl
  typed_local_is alone m.Boolean ts p some = rw some refl
  typed_local_is alone _ ts p some = absurd cc

  -- behind a type stands a name
  pub type_read : (note : Bool) {t : TypeTree} {u : List Lexeme} → SpellsType note t u → (ts : List Lexeme) → mark_at note ts ≡ m.Name
      → spec.type_inside limit room (expression_of limit) quantifiers note (u ++ ts) ≡ Ok (t, ts)
  unfolding same_mark
  type_read note {t} h ts next = type_is note limit (room - 1) (expression_of limit note (room - 1)) quantifiers h ts
      (rw next (and_right (not t.array) false refl))

  pub typed_read : {t : TypeTree} {u : List Lexeme} → SpellsType false t u → (ts : List Lexeme) → mark_at false ts ≡ m.Name
      → spec.typed_local limit room (expression_of limit) quantifiers (u ++ ts) ≡ spec.named_local limit room (expression_of limit) quantifiers t.span false t ts
  unfolding spec.typed_local
  typed_read h ts next = rw (type_read false h ts next) refl

  pub final_read : (f : Span) {t : TypeTree} {u : List Lexeme} → SpellsType false t u → (ts : List Lexeme) → mark_at false ts ≡ m.Name
      → spec.final_local limit room (expression_of limit) quantifiers (word false "final" f ∷ (u ++ ts))
      ≡ spec.named_local limit room (expression_of limit) quantifiers f true t ts
  unfolding spec.final_local
  final_read f {u = u} h ts next = rw (took_if (is_word (codes "final") false) (word false "final" f) (u ++ ts) refl) (rw (type_read false h ts next) refl)

  plain_named : (alone : Bool) (x : List ℕ) (s : Span) (ts : List Lexeme) → IsTrue (is_name x) → nat_lt 0 room ≡ true
      → spec.plain limit room (expression_of limit) quantifiers true alone (chosen_word false x s ∷ ts)
      ≡ spec.named_by limit room (expression_of limit) quantifiers true alone (chosen_word false x s) (mark_at false ts) ts
  unfolding spec.plain spec.named mark_at
  plain_named alone x s ts named some = rw (name_at false x s named) (rw some (rw (took_name false x s ts named) refl))

  plain_typed : (alone : Bool) (x : List ℕ) (s : Span) (ts : List Lexeme) → IsTrue (is_primitive x) → nat_lt 0 room ≡ true
      → spec.plain limit room (expression_of limit) quantifiers true alone (chosen_word false x s ∷ ts)
      ≡ spec.typed_local limit room (expression_of limit) quantifiers (chosen_word false x s ∷ ts)
  unfolding spec.plain mark_at
  plain_typed alone x s ts primitive some = typed_local_is alone (lexeme_mark false (chosen_word false x s)) (chosen_word false x s ∷ ts) (primitive_at false x s primitive) some

  -- behind a name and a bracket
  array_is : (alone : Bool) (x : Lexeme) (p q : Span) (ts : List Lexeme)
      → spec.named_by limit room (expression_of limit) quantifiers true alone x m.LeftBracket (sign false "[" p ∷ sign false "]" q ∷ ts)
      ≡ spec.named_local limit room (expression_of limit) quantifiers x.span false (type_tree (join x.span q) x.text true) ts
  unfolding spec.bracketed spec.array_local mark_at same_mark
  array_is alone x p q ts = rw (took_sign false m.LeftBracket (codes "[") p (sign false "]" q ∷ ts) refl) (rw (took_sign false m.RightBracket (codes "]") q ts refl) refl)

  pub local_read : (alone : Bool) {t : TypeTree} {u : List Lexeme} → SpellsType false t u → (x : List ℕ) (n q : Span) (e : Parsed) (ts rest : List Lexeme) → IsTrue (is_name x)
      → 1 ≤ room → expr false limit room quantifiers 1 at_first ts ≡ Ok (e, rest)
      → spec.plain limit room (expression_of limit) quantifiers true alone (u ++ chosen_word false x n ∷ sign false "=" q ∷ ts)
      ≡ Ok (local_of t.span false t (chosen_word false x n) (sign false "=" q) e, rest)
  unfolding mark_at
  local_read alone (is_plain_type s y typed) x n q e ts rest named some read =
      let more = chosen_word false x n ∷ sign false "=" q ∷ ts in
      elim (or_cases (is_primitive y) (is_name y) typed) [
        | inl primitive ↦ plain_typed alone y s more primitive (lt-ltb 0 room some) ∙ typed_read (is_plain_type s y typed) more (name_at false x n named)
            ∙ named_local_is s false (type_tree s y false) x n q e ts rest named read
        | inr is_named ↦ plain_named alone y s more is_named (lt-ltb 0 room some) ∙ rw (name_at false x n named) (named_local_is s false (type_tree s y false) x n q e ts rest named read)
      ]
  local_read alone (is_array_type s p r y typed) x n q e ts rest named some read =
      let more = chosen_word false x n ∷ sign false "=" q ∷ ts in
      let t = type_tree (join s r) y true in
      elim (or_cases (is_primitive y) (is_name y) typed) [
        | inl primitive ↦ plain_typed alone y s (sign false "[" p ∷ sign false "]" r ∷ more) primitive (lt-ltb 0 room some)
            ∙ typed_read (is_array_type s p r y typed) more (name_at false x n named) ∙ named_local_is (join s r) false t x n q e ts rest named read
        | inr is_named ↦ plain_named alone y s (sign false "[" p ∷ sign false "]" r ∷ more) is_named (lt-ltb 0 room some)
            ∙ array_is alone (chosen_word false y s) p r more ∙ named_local_is s false t x n q e ts rest named read
      ]
