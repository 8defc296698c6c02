-- What the rules of bodies take.
use Rattle.std.proofs.Common.{◌≡◌, ℕ, suc, ◌+◌, ◌-◌, ◌≤◌, ◌<◌, Bool, false, List, [], ◌∷◌, ◌++◌, refl, sym, ap, append_assoc, arith}
use Rattle.std.proofs.lemmas.List.{append-nil}
use Rattle.std.specs.Prelude.{codes, not}
use Rattle.jesc_text.specs.declared.place.Span.{Span}
use Rattle.jesc_ast.specs.Lexemes.{Lexeme, sign}
use Rattle.jesc_ast.specs.Trees.{Expression, Statement, Body, body, statements_of}
use Rattle.jesc_ast.specs.Depth.{depth, nesting, of_statement, of_statements, of_body}
use Rattle.jesc_ast.specs.Statements.{is_loop, is_branch, SpellsStatement, is_block, SpellsBody, is_body, SpellsStatements, no_more_statements, one_more_statement, SpellsConstructorBody, is_plain_body}
use Rattle.jesc_jml_grammar.specs.declared.mark.Mark.TheVariants as m
use Rattle.jesc_jml_grammar.specs.Steps.{Parser, mark_at, same_mark}
use Rattle.jesc_jml_grammar.specs.Reading.{Parsed, Start}
use Rattle.jesc_jml_parser.specs.laws.SoundSteps.{Gives, gives_bind, gives_if, gives_so, TakesWhole}
use Rattle.jesc_jml_grammar.specs.ClauseFound.{Sized, no_items, with_more}
use Rattle.jesc_jml_parser.specs.laws.ClauseSoundLists.{TakenAs, until_takes, IsRead, IsGreatest, read_more, read_none}
use Rattle.jesc_java_grammar.specs.declared.statement_mark.Slot.{Slot}
use Rattle.jesc_java_grammar.specs.declared.statement_mark.Slot.TheVariants as slots
use Rattle.jesc_java_grammar.specs.Lexing.{is_sign, next_is, take_if}
use Rattle.jesc_java_grammar.specs.StatementMarks.{allows_branch, allows_loop}
use Rattle.jesc_java_grammar.specs.StatementReading as spec
use Rattle.jesc_java_parser.proofs.LexingSound.{took_this_sign}
use Rattle.jesc_java_parser.proofs.PieceSound.{deeper_takes}
use Rattle.jesc_java_parser.proofs.PartSound.{IsPlainRead}
use Rattle.jesc_java_parser.proofs.SuperSound.{super_statement_takes}

-- ---- what is read

-- these lexemes spell the statement, and it may stand in this slot
pub record IsStatement (room k : ℕ) (slot : Slot) (t : Sized Statement) (u : List Lexeme) : Type 0 where
  pub read : IsRead SpellsStatement of_statement room k u t.tree t.depth
  pub no_loop : allows_loop slot ≡ false → is_loop t.tree ≡ false
  pub no_branch : allows_branch slot ≡ false → is_branch t.tree ≡ false

-- the inner parser of statements takes what spells them
abbrev pub TakesStatements : ℕ → ℕ → (Slot → Parser (Sized Statement)) → Type 0
TakesStatements room k statement = (slot : Slot) (ts : List Lexeme) → Gives (statement slot ts) (TakenAs (IsStatement room k slot) ts)

-- a body, whose first brace has some place
abbrev pub SpellsSomeBody : Body → List Lexeme → Type 0
SpellsSomeBody b u = (p : Span) × SpellsBody b p u

abbrev pub IsBody : ℕ → ℕ → Sized Body → List Lexeme → Type 0
IsBody room k b u = IsRead SpellsSomeBody of_body room k u b.tree b.depth

abbrev pub SpellsSomeConstructorBody : Body → List Lexeme → Type 0
SpellsSomeConstructorBody b u = (p : Span) × SpellsConstructorBody b p u

abbrev pub IsConstructorBody : ℕ → ℕ → Sized Body → List Lexeme → Type 0
IsConstructorBody room k b u = IsRead SpellsSomeConstructorBody of_body room k u b.tree b.depth

-- these lexemes spell the statements behind those before
record SpellsBehind (before all : List Statement) (u : List Lexeme) : Type 0 where
  after : List Statement
  made : all ≡ before ++ after
  spelled : SpellsStatements (statements_of after) u

abbrev statements_measure : (Expression → ℕ) → ℕ → List Statement → ℕ
statements_measure f n ss = of_statements f n (statements_of ss)

abbrev AreStatements : ℕ → ℕ → List Statement → Sized (List Statement) → List Lexeme → Type 0
AreStatements room k before ss u = IsRead (SpellsBehind before) statements_measure room k u ss.tree ss.depth

-- the rest of a body behind these statements
record IsRest (room k : ℕ) (before : List Statement) (b : Sized Body) (u : List Lexeme) : Type 0 where
  after : List Statement
  part : List Lexeme
  close : Span
  made : b.tree ≡ body (statements_of (before ++ after)) close
  parts : u ≡ part ++ sign false "}" close ∷ []
  spelled : SpellsStatements (statements_of after) part
  deep : of_body depth 1 b.tree ≡ b.depth
  shallow : b.depth ≤ room
  flat : of_body nesting 0 b.tree ≤ k

statements_are_greatest : IsGreatest of_statement statements_measure
statements_are_greatest = record { none = λ f n. refl; more = λ f n x xs. refl }

statements_at_end : (ss : List Statement) (u : List Lexeme) (t : Statement) (v : List Lexeme) → SpellsStatements (statements_of ss) u → SpellsStatement t v
    → SpellsStatements (statements_of (ss ++ t ∷ [])) (u ++ v)
statements_at_end [] _ t v no_more_statements h =
    let one : SpellsStatements (statements_of (t ∷ [])) (v ++ []) = one_more_statement t (statements_of []) v [] h no_more_statements in
    rw append-nil at one
statements_at_end (s ∷ ss) _ t v (one_more_statement _ _ a b is more) h =
    simp append_assoc (one_more_statement s (statements_of (ss ++ t ∷ [])) a (b ++ v) is (statements_at_end ss b t v more h))

behind_at_end : (before all : List Statement) (u : List Lexeme) (t : Statement) (v : List Lexeme) → SpellsBehind before all u → SpellsStatement t v
    → SpellsBehind before (all ++ t ∷ []) (u ++ v)
behind_at_end before all u t v h g = record {
  after = h.after ++ t ∷ [];
  made = rw h.made (append_assoc before h.after (t ∷ []));
  spelled = statements_at_end h.after u t v h.spelled g;
}

none_behind : (room k : ℕ) → AreStatements room k [] no_items []
none_behind room k =
    read_none of_statement statements_measure statements_are_greatest SpellsStatement (SpellsBehind []) room k (record { after = []; made = refl; spelled = no_more_statements })

-- a body of these lexemes and braces around them
closed_body : (room k : ℕ) (p : Lexeme) (b : Sized Body) (u : List Lexeme) → p ≡ sign false "{" p.span → IsRest room k [] b u → SpellsBody b.tree p.span (p ∷ u)
closed_body room k p b u left h = rw (left, h.made, h.parts) (is_body p.span h.close (statements_of h.after) h.part h.spelled)

module _ (limit room : ℕ) (expression : Bool → ℕ → ℕ → ℕ → Start → Parser Parsed)
    (reads : (note : Bool) (room : ℕ) → TakesWhole note room (expression note room)) (k : ℕ)
    (statement : Slot → Parser (Sized Statement)) (inside : TakesStatements room k statement) where
  statement_step : (before : List Statement) (found : Sized (List Statement)) (u ts : List Lexeme) → AreStatements room k before found u
      → Gives (statement slots.Any ts) (λ t rest. TakenAs (λ (b : Sized (List Statement)) (v : List Lexeme). AreStatements room k before b (u ++ v)) ts (with_more found t) rest)
  statement_step before found u ts h =
      gives_so (TakenAs (IsStatement room k slots.Any) ts)
      (λ t rest. TakenAs (λ (b : Sized (List Statement)) (v : List Lexeme). AreStatements room k before b (u ++ v)) ts (with_more found t) rest)
      (statement slots.Any ts) (inside slots.Any ts)
      (λ t rest g. record {
        taken = g.taken;
        parts = g.parts;
        is = read_more of_statement statements_measure statements_are_greatest SpellsStatement (SpellsBehind before) room k found.tree t.tree u g.taken (u ++ g.taken) found.depth t.depth
            h g.is.read (behind_at_end before found.tree u t.tree g.taken h.spelled g.is.read.spelled);
      })

  rest_takes : (first : Sized (List Statement)) → AreStatements room k first.tree first [] → (ts : List Lexeme)
      → Gives (spec.body_rest limit room expression k statement first ts) (TakenAs (IsRest room k first.tree) ts)
  unfolding spec.body_rest spec.statements
  rest_takes first begun ts =
      gives_bind _ _ (spec.statements limit room expression k statement first ts)
      (until_takes (λ all. not (next_is (is_sign (codes "}") false) all)) (statement slots.Any) with_more (AreStatements room k first.tree)
      (λ found u all h e. statement_step first.tree found u all h) limit first ts [] ts refl begun) (λ ss mid h.
      gives_bind _ _ (take_if (is_sign (codes "}") false) mid) (took_this_sign (codes "}") false mid) (λ q rest close.
      record {
        taken = h.taken ++ q ∷ [];
        parts = rw (h.parts, close.at) (sym (append_assoc h.taken (q ∷ []) rest));
        is = record {
          after = h.is.spelled.after;
          part = h.taken;
          close = q.span;
          made = ap (λ (all : List Statement). body (statements_of all) q.span) h.is.spelled.made;
          parts = ap (λ (x : Lexeme). h.taken ++ x ∷ []) close.is;
          spelled = h.is.spelled.spelled;
          deep = h.is.deep;
          shallow = h.is.shallow;
          flat = h.is.flat;
        };
      }))

  pub braced_takes : (ts : List Lexeme) → Gives (spec.braced limit room expression k statement ts) (TakenAs (IsBody room k) ts)
  unfolding spec.braced
  braced_takes ts =
      gives_bind _ _ (take_if (is_sign (codes "{") false) ts) (took_this_sign (codes "{") false ts) (λ p mid left.
      gives_so (TakenAs (IsRest room k []) mid) (TakenAs (IsBody room k) ts) (spec.body_rest limit room expression k statement no_items mid) (rest_takes no_items (none_behind room k) mid) (λ b rest h.
      record {
        taken = p ∷ h.taken;
        parts = rw (left.at, h.parts) refl;
        is = record { spelled = (p.span, closed_body room k p b h.taken left.is h.is); deep = h.is.deep; shallow = h.is.shallow; flat = h.is.flat };
      }))

  pub block_takes : (ts : List Lexeme) → Gives (spec.block_ limit room expression k statement ts) (TakenAs (IsPlainRead (suc room) k) ts)
  unfolding spec.block_
  block_takes ts =
      gives_bind _ _ (take_if (is_sign (codes "{") false) ts) (took_this_sign (codes "{") false ts) (λ p mid left.
      gives_bind _ _ (spec.body_rest limit room expression k statement no_items mid) (rest_takes no_items (none_behind room k) mid) (λ b rest h.
      let whole : SpellsBody (body (statements_of h.is.after) h.is.close) p.span (p ∷ h.taken) = rw h.is.made at (closed_body room k p b h.taken left.is h.is) in
      record {
        taken = p ∷ h.taken;
        parts = rw (left.at, h.parts) refl;
        is = record {
          read = record {
            spelled = rw h.is.made (is_block p.span (statements_of h.is.after) h.is.close (p ∷ h.taken) whole);
            deep = ap (λ (n : ℕ). n + 1) h.is.deep;
            shallow = omega (arith, h.is.shallow);
            flat = omega (arith, h.is.flat);
          };
          plain = record { no_loop = refl; no_branch = refl };
        };
      }))

  -- ---- bodies of constructors

  super_first_takes : (p : Lexeme) → p ≡ sign false "{" p.span → 0 < room → (all ts : List Lexeme) → all ≡ p ∷ ts
      → Gives (spec.super_first limit room expression k statement ts) (TakenAs (IsConstructorBody room k) all)
  unfolding spec.super_first
  super_first_takes p left some all ts parts =
      gives_bind _ _ (spec.super_statement limit (room - 1) expression k ts) (super_statement_takes limit (room - 1) expression reads k ts) (λ t mid h.
      gives_so (TakenAs (IsRest room k (t.tree ∷ [])) mid) (TakenAs (IsConstructorBody room k) all) (spec.body_rest limit room expression k statement (with_more no_items t) mid)
      (rest_takes (with_more no_items t)
      (record {
        spelled = record { after = []; made = refl; spelled = no_more_statements };
        deep = omega (arith, h.is.deep);
        shallow = omega (arith, h.is.shallow, some);
        flat = omega (arith, h.is.flat);
      }) mid)
      (λ b rest g. record {
        taken = p ∷ (h.taken ++ g.taken);
        parts = rw (parts, h.parts, g.parts) (sym (append_assoc (p ∷ h.taken) g.taken rest));
        is = record {
          spelled = (p.span, rw (left, g.is.made, g.is.parts) (h.is.spelled p.span g.is.close (statements_of g.is.after) g.is.part g.is.spelled));
          deep = g.is.deep;
          shallow = g.is.shallow;
          flat = g.is.flat;
        };
      }))

  plain_body_takes : (p : Lexeme) → p ≡ sign false "{" p.span → (all ts : List Lexeme) → all ≡ p ∷ ts
      → Gives (spec.body_rest limit room expression k statement no_items ts) (TakenAs (IsConstructorBody room k) all)
  plain_body_takes p left all ts parts =
      gives_so (TakenAs (IsRest room k []) ts) (TakenAs (IsConstructorBody room k) all) (spec.body_rest limit room expression k statement no_items ts) (rest_takes no_items (none_behind room k) ts) (λ b rest h.
      record {
        taken = p ∷ h.taken;
        parts = rw (parts, h.parts) refl;
        is = record {
          spelled = (p.span, is_plain_body b.tree p.span (p ∷ h.taken) (closed_body room k p b h.taken left h.is));
          deep = h.is.deep;
          shallow = h.is.shallow;
          flat = h.is.flat;
        };
      })

  pub constructor_body_takes : (ts : List Lexeme) → Gives (spec.constructor_body limit room expression k statement ts) (TakenAs (IsConstructorBody room k) ts)
  unfolding spec.constructor_body
  constructor_body_takes ts =
      gives_bind _ _ (take_if (is_sign (codes "{") false) ts) (took_this_sign (codes "{") false ts) (λ p mid left.
      gives_if (same_mark (mark_at false mid) m.Super) _ _ (TakenAs (IsConstructorBody room k) ts) mid
      (λ e. deeper_takes limit room expression reads k (spec.super_first limit room expression k statement) (TakenAs (IsConstructorBody room k) ts) mid
      (λ some. super_first_takes p left.is some ts mid left.at))
      (λ e. plain_body_takes p left.is ts mid left.at))
