-- What the rules of methods, constructors and fields take behind their modifiers.
use Rattle.std.proofs.Common.{◌≡◌, ℕ, ◌≤◌, Bool, true, false, Option, List, [], ◌∷◌, ◌++◌, refl, sym, ◌∙◌, append_assoc, arith}
use Rattle.std.specs.Prelude.{codes}
use Rattle.jesc_text.specs.declared.place.Span.{Span}
use Rattle.jesc_ast.specs.declared.word.Word.{Word}
use Rattle.jesc_ast.specs.declared.word.TypeTree.{TypeTree}
use Rattle.jesc_ast.specs.Lexemes.{Lexeme}
use Rattle.jesc_ast.specs.Trees.{Body}
use Rattle.jesc_ast.specs.SpecTrees.{Specification}
use Rattle.jesc_ast.specs.FileTrees.{MemberForm}
use Rattle.jesc_ast.specs.Depth.{depth, nesting, of_option, of_spec, of_method_body, of_member}
use Rattle.jesc_ast.specs.Expressions.{SpellsType}
use Rattle.jesc_ast.specs.Statements.{SpellsBody, is_body, SpellsConstructorBody, is_plain_body, is_super_body, body_end}
use Rattle.jesc_ast.specs.Members.{SpellsModifiers, SpellsValue, no_value, some_value, SpellsOptionalSpec, no_spec, some_spec, SpellsResult, SpellsMethodBody, no_body, some_body, SpellsMemberNode, is_field, is_method, is_constructor}
use Rattle.jesc_jml_grammar.specs.declared.mark.Mark.TheVariants as m
use Rattle.jesc_jml_grammar.specs.Marks.{lexeme_mark}
use Rattle.jesc_jml_grammar.specs.Steps.{Parser, pure, mark_at, same_mark, expect}
use Rattle.jesc_jml_grammar.specs.Reading.{Parsed, Start, at_first}
use Rattle.jesc_jml_parser.specs.laws.SoundMarks.{marked}
use Rattle.jesc_jml_parser.specs.laws.SoundSteps.{Gives, gives_bind, gives_if, took, TakesWhole}
use Rattle.jesc_jml_grammar.specs.ClauseReading as clauses
use Rattle.jesc_jml_grammar.specs.ClauseFound.{Sized, Ended, Value}
use Rattle.jesc_jml_parser.specs.laws.ClauseSoundLists.{end_of, end_of_both, IsSome, some_behind, TakenAs, IsRead}
use Rattle.jesc_jml_parser.specs.laws.ClauseSoundStores.{takes_expressions}
use Rattle.jesc_jml_parser.specs.laws.ClauseSoundMembers.{groups_take}
use Rattle.jesc_java_grammar.specs.Lexing.{is_sign, next_is, take_if}
use Rattle.jesc_java_grammar.specs.StatementReading as statements
use Rattle.jesc_java_grammar.specs.FileReading as spec
use Rattle.jesc_java_parser.proofs.LexingSound.{took_this_sign}
use Rattle.jesc_java_parser.proofs.StatementSound.{whole_body_takes, whole_constructor_body_takes}
use Rattle.jesc_java_parser.proofs.ParamSound.{signature_takes}

-- ---- what is read

-- these lexemes end with this span
abbrev pub EndsWith : Span → List Lexeme → Type 0
EndsWith last u = (s : Span) → end_of s u ≡ last

pub ends_behind : (last : Span) (u v : List Lexeme) → EndsWith last v → EndsWith last (u ++ v)
ends_behind last u v h = λ s. end_of_both s u v ∙ h (end_of s u)

-- a member of one lexeme at least
pub record IsForm (room k : ℕ) (f : Ended MemberForm) (u : List Lexeme) : Type 0 where
  pub read : IsRead SpellsMemberNode of_member room k u f.tree f.depth
  pub some : IsSome u
  pub last : EndsWith f.last u

abbrev pub IsSpec : ℕ → ℕ → Sized (Option Specification) → List Lexeme → Type 0
IsSpec room k t u = IsRead SpellsOptionalSpec of_spec room k u t.tree t.depth

record IsMethodBody (room k : ℕ) (b : Ended (Option Body)) (u : List Lexeme) : Type 0 where
  read : IsRead SpellsMethodBody of_method_body room k u b.tree b.depth
  last : EndsWith b.last u

record IsValue (room k : ℕ) (v : Value) (u : List Lexeme) : Type 0 where
  spelled : SpellsValue false v.equals v.e u
  deep : of_option depth 1 v.e ≡ v.depth
  shallow : v.depth ≤ room
  flat : of_option nesting 0 v.e ≤ k

body_ends : (b : Body) (p : Span) (u : List Lexeme) → SpellsBody b p u → EndsWith (body_end b) u
body_ends _ _ _ (is_body p q ss u is) = λ s. end_of_both p u _

constructor_body_ends : (b : Body) (p : Span) (u : List Lexeme) → SpellsConstructorBody b p u → EndsWith (body_end b) u
constructor_body_ends _ _ _ (is_plain_body b p u is) = body_ends b p u is
constructor_body_ends _ _ _ (is_super_body p r p1 q1 p2 q es ss u v are is) = λ s. end_of_both p1 u _ ∙ end_of_both p2 v _

no_spec_is : (t : Option Specification) (u : List Lexeme) → SpellsOptionalSpec t u → spec.is_specified t ≡ false → u ≡ []
no_spec_is _ _ no_spec e = refl
no_spec_is _ _ (some_spec t u is) e = absurd cc

module _ (limit room : ℕ) (expression : Bool → ℕ → ℕ → ℕ → Start → Parser Parsed)
    (reads : (note : Bool) (room : ℕ) → TakesWhole note room (expression note room)) (k : ℕ) where
  -- ---- bodies of methods

  no_body_takes : (ts : List Lexeme) → Gives (spec.no_body limit room expression k ts) (TakenAs (IsMethodBody room k) ts)
  unfolding spec.no_body
  no_body_takes ts =
      gives_bind _ _ (expect false m.Semicolon ts) (took false m.Semicolon ts) (λ p rest close.
      record {
        taken = p ∷ [];
        parts = close.at;
        is = record {
          read = record { spelled = rw (marked false m.Semicolon p close.mark) (no_body p.span); deep = refl; shallow = omega arith; flat = omega arith };
          last = λ s. refl;
        };
      })

  braced_body_takes : (ts : List Lexeme) → Gives (spec.braced_body limit room expression k ts) (TakenAs (IsMethodBody room k) ts)
  unfolding spec.braced_body
  braced_body_takes ts =
      gives_bind _ _ (statements.braced limit room expression k (statements.statement limit expression k room) ts) (whole_body_takes limit expression reads k room ts) (λ b rest h.
      record {
        taken = h.taken;
        parts = h.parts;
        is = record {
          read = record { spelled = some_body h.is.spelled.0 b.tree h.taken h.is.spelled.1; deep = h.is.deep; shallow = h.is.shallow; flat = h.is.flat };
          last = body_ends b.tree h.is.spelled.0 h.taken h.is.spelled.1;
        };
      })

  method_body_takes : (ts : List Lexeme) → Gives (spec.method_body limit room expression k ts) (TakenAs (IsMethodBody room k) ts)
  unfolding spec.method_body
  method_body_takes ts =
      gives_if (same_mark (mark_at false ts) m.Semicolon) (spec.no_body limit room expression k) (spec.braced_body limit room expression k) (TakenAs (IsMethodBody room k) ts) ts
      (λ e. no_body_takes ts)
      (λ e. braced_body_takes ts)

  -- ---- values of fields

  some_value_takes : (ts : List Lexeme) → Gives (spec.some_value limit room expression k ts) (TakenAs (IsValue room k) ts)
  unfolding spec.some_value
  some_value_takes ts =
      gives_bind _ _ (take_if (is_sign (codes "=") false) ts) (took_this_sign (codes "=") false ts) (λ q mid equals.
      gives_bind _ _ (expression false room k 1 at_first mid) (reads false room k 1 (omega arith) at_first tt mid) (λ e rest h.
      record {
        taken = q ∷ h.taken;
        parts = rw (equals.at, h.parts) refl;
        is = record { spelled = rw equals.is (some_value q.span e.tree h.taken (e.strength, h.is.spelled)); deep = h.is.deep; shallow = h.is.shallow; flat = h.is.flat };
      }))

  value_takes : (ts : List Lexeme) → Gives (spec.value limit room expression k ts) (TakenAs (IsValue room k) ts)
  unfolding spec.value
  value_takes ts =
      gives_if (next_is (is_sign (codes "=") false) ts) (spec.some_value limit room expression k) (pure clauses.no_value) (TakenAs (IsValue room k) ts) ts
      (λ e. some_value_takes ts)
      (λ e. record { taken = []; parts = refl; is = record { spelled = no_value; deep = refl; shallow = omega arith; flat = omega arith } })

  -- ---- behind a specification, which may be missing, and modifiers

  module _ (t : Sized (Option Specification)) (s : List Lexeme) (before : IsSpec room k t s) (ws : List Word) (a : List Lexeme) (are : SpellsModifiers ws a) where
    pub method_takes : (result : Option TypeTree) (r : List Lexeme) → SpellsResult result r → (x : Lexeme) → lexeme_mark false x ≡ m.Name → (all ts : List Lexeme)
        → all ≡ s ++ (a ++ (r ++ x ∷ ts)) → Gives (spec.method_behind limit room expression k t ws result x ts) (TakenAs (IsForm room k) all)
    unfolding spec.method_behind
    method_takes result r typed x named all ts parts =
        gives_bind _ _ (spec.signature limit room expression k ts) (signature_takes limit room expression reads k ts) (λ found mid h.
        gives_bind _ _ (spec.method_body limit room expression k mid) (method_body_takes mid) (λ b rest g.
        let at = marked false m.Name x named in
        let c = h.is.param_part in
        let d = h.is.throw_part in
        record {
          taken = s ++ (a ++ (r ++ x ∷ (c ++ (d ++ g.taken))));
          parts = rw (parts, h.parts, h.is.parts, g.parts) (sym (simp append_assoc));
          is = record {
            read = record {
              spelled = rw at.0 (is_method x.span t.tree ws found.throws result x.text found.params b.tree s a r c d g.taken
                  before.spelled are typed at.1 h.is.params h.is.throws g.is.read.spelled);
              deep = rw (before.deep, g.is.read.deep) refl;
              shallow = omega (arith, before.shallow, g.is.read.shallow);
              flat = omega (arith, before.flat, g.is.read.flat);
            };
            some = some_behind s (a ++ (r ++ x ∷ (c ++ (d ++ g.taken)))) (some_behind a (r ++ x ∷ (c ++ (d ++ g.taken))) (some_behind r (x ∷ (c ++ (d ++ g.taken))) tt));
            last = ends_behind b.last s (a ++ (r ++ x ∷ (c ++ (d ++ g.taken)))) (ends_behind b.last a (r ++ x ∷ (c ++ (d ++ g.taken))) (ends_behind b.last r (x ∷ (c ++ (d ++ g.taken)))
                (ends_behind b.last (x ∷ c) (d ++ g.taken) (ends_behind b.last d g.taken g.is.last))));
          };
        }))

    pub constructor_takes : (x : Lexeme) → lexeme_mark false x ≡ m.Name → (all ts : List Lexeme) → all ≡ s ++ (a ++ x ∷ ts)
        → Gives (spec.constructor_behind limit room expression k t ws x ts) (TakenAs (IsForm room k) all)
    unfolding spec.constructor_behind
    constructor_takes x named all ts parts =
        gives_bind _ _ (spec.signature limit room expression k ts) (signature_takes limit room expression reads k ts) (λ found mid h.
        gives_bind _ _ (statements.constructor_body limit room expression k (statements.statement limit expression k room) mid) (whole_constructor_body_takes limit expression reads k room mid) (λ b rest g.
        let at = marked false m.Name x named in
        let c = h.is.param_part in
        let d = h.is.throw_part in
        let ended : EndsWith (body_end b.tree) g.taken = constructor_body_ends b.tree g.is.spelled.0 g.taken g.is.spelled.1 in
        record {
          taken = s ++ (a ++ x ∷ (c ++ (d ++ g.taken)));
          parts = rw (parts, h.parts, h.is.parts, g.parts) (sym (simp append_assoc));
          is = record {
            read = record {
              spelled = rw at.0 (is_constructor x.span g.is.spelled.0 t.tree ws found.throws x.text found.params b.tree s a c d g.taken
                  before.spelled are at.1 h.is.params h.is.throws g.is.spelled.1);
              deep = rw (before.deep, g.is.deep) refl;
              shallow = omega (arith, before.shallow, g.is.shallow);
              flat = omega (arith, before.flat, g.is.flat);
            };
            some = some_behind s (a ++ x ∷ (c ++ (d ++ g.taken))) (some_behind a (x ∷ (c ++ (d ++ g.taken))) tt);
            last = ends_behind (body_end b.tree) s (a ++ x ∷ (c ++ (d ++ g.taken))) (ends_behind (body_end b.tree) a (x ∷ (c ++ (d ++ g.taken)))
                (ends_behind (body_end b.tree) (x ∷ c) (d ++ g.taken) (ends_behind (body_end b.tree) d g.taken ended)));
          };
        }))

    pub field_takes : spec.is_specified t.tree ≡ false → (ty : TypeTree) (b : List Lexeme) → SpellsType false ty b → (x : Lexeme) → lexeme_mark false x ≡ m.Name → (all ts : List Lexeme)
        → all ≡ s ++ (a ++ (b ++ x ∷ ts)) → Gives (spec.field_behind limit room expression k ws ty x ts) (TakenAs (IsForm room k) all)
    unfolding spec.field_behind
    field_takes none ty b typed x named all ts parts =
        gives_bind _ _ (spec.value limit room expression k ts) (value_takes ts) (λ v t1 h.
        gives_bind _ _ (expect false m.Semicolon t1) (took false m.Semicolon t1) (λ q t2 close.
        gives_bind _ _ (clauses.groups limit room (expression true room) k q t2) (groups_take limit room (expression true room) (takes_expressions room (expression true room) (reads true room)) k q t2) (λ gs rest g.
        let at = marked false m.Name x named in
        let end : EndsWith gs.last (q ∷ g.taken) = λ z. g.is.last in
        record {
          taken = a ++ (b ++ x ∷ (h.taken ++ q ∷ g.taken));
          parts = rw (parts, no_spec_is t.tree s before.spelled none, h.parts, close.at, g.parts) (sym (simp append_assoc));
          is = record {
            read = record {
              spelled = rw (at.0, marked false m.Semicolon q close.mark)
                  (is_field x.span q.span ws gs.tree ty x.text v.equals v.e a b h.taken g.taken are typed at.1 h.is.spelled g.is.spelled);
              deep = h.is.deep;
              shallow = h.is.shallow;
              flat = h.is.flat;
            };
            some = some_behind a (b ++ x ∷ (h.taken ++ q ∷ g.taken)) (some_behind b (x ∷ (h.taken ++ q ∷ g.taken)) tt);
            last = ends_behind gs.last a (b ++ x ∷ (h.taken ++ q ∷ g.taken)) (ends_behind gs.last b (x ∷ (h.taken ++ q ∷ g.taken))
                (ends_behind gs.last (x ∷ h.taken) (q ∷ g.taken) end));
          };
        })))
