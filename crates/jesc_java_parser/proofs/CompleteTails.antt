-- What stands behind the modifiers of a field, a method or a constructor is read.
use Rattle.std.proofs.Common.{◌≡◌, ℕ, ◌≤◌, max, false, List, [], ◌∷◌, ◌++◌, length, length-append, Option, refl, sym, ap, ◌∙◌, subst, arith, append_assoc, codes, IsTrue}
use Rattle.jesc_text.specs.declared.place.Span.{Span}
use Rattle.jesc_ast.specs.declared.word.Word.{Word}
use Rattle.jesc_ast.specs.declared.word.TypeTree.{TypeTree}
use Rattle.jesc_ast.specs.declared.class.ParamTree.{ParamTree}
use Rattle.jesc_ast.specs.Lexemes.{Lexeme, sign, chosen_word, kept}
use Rattle.jesc_ast.specs.Words.{is_name}
use Rattle.jesc_ast.specs.Trees.{Expression, Body}
use Rattle.jesc_ast.specs.FileTrees.{MemberForm, field, method, constructor_member}
use Rattle.jesc_ast.specs.Expressions.{SpellsType, is_plain_type, is_array_type}
use Rattle.jesc_ast.specs.Depth.{depth, nesting, of_option, of_body, of_method_body}
use Rattle.jesc_ast.specs.Statements.{body_end, is_body, SpellsConstructorBody, is_plain_body, is_super_body}
use Rattle.jesc_ast.specs.Members.{SpellsParams, SpellsNamesAfter, SpellsMethodBody, SpellsResult, is_void, is_result, SpellsValue, SpellsGroups}
use Rattle.jesc_jml_grammar.specs.declared.mark.Mark.TheVariants as m
use Rattle.jesc_jml_grammar.specs.declared.note_word.NoteWord.TheVariants as w
use Rattle.jesc_jml_grammar.specs.Steps.{mark_at, same_mark}
use Rattle.jesc_jml_parser.specs.laws.CompleteMarks.{name_at, type_word_at}
use Rattle.jesc_jml_grammar.specs.ClauseMarks.{word_at}
use Rattle.jesc_jml_parser.specs.laws.ClauseSoundLists.{end_of, end_of_both, IsSome}
use Rattle.jesc_jml_parser.specs.laws.ClauseCompleteClauses.{ended_as}
use Rattle.jesc_jml_parser.specs.laws.ClauseCompleteLists.{read_as}
use Rattle.jesc_java_grammar.specs.FileMarks.{member_mark_at, is_modifier_mark, at_modifier}
use Rattle.jesc_java_grammar.specs.FileReading as spec
use Rattle.jesc_java_grammar.specs.FileReading.{expression_of, no_spec}
use Rattle.jesc_java_parser.proofs.CompleteParts.{type_part, no_semicolon}
use Rattle.jesc_java_parser.proofs.CompleteModifiers.{type_member, name_member}
use Rattle.jesc_java_parser.proofs.CompleteJava.{form_goes_on, Specified, method_behind_read, result_read, constructor_behind_read, constructor_read, params_mark, value_first, field_behind_read, field_read}

-- The lexemes stand in code, begin with no modifier and no semicolon, and are read as the member, whose depth is d.
pub record IsTail (limit room quantifiers : ℕ) (sp : Specified) (ws : List Word) (f : MemberForm) (d : ℕ) (tail rest : List Lexeme) : Type 0 where
  pub quiet : word_at (tail ++ rest) ≡ w.Other
  pub bare : at_modifier (tail ++ rest) ≡ false
  pub open_ : same_mark (mark_at false (tail ++ rest)) m.Semicolon ≡ false
  pub some : IsSome tail
  pub is : (first : Span) → spec.java_by limit room (expression_of limit) quantifiers sp ws (member_mark_at (tail ++ rest)) (tail ++ rest) ≡ read_as (ended_as f d (end_of first tail)) rest

record Begins (ts : List Lexeme) : Type 0 where
  quiet : word_at ts ≡ w.Other
  bare : at_modifier ts ≡ false
  open_ : same_mark (mark_at false ts) m.Semicolon ≡ false

type_begins : {t : TypeTree} {u : List Lexeme} → SpellsType false t u → (rest : List Lexeme) → Begins (u ++ rest)
unfolding word_at mark_at
type_begins (is_plain_type n x t) rest = record {
  quiet = refl;
  bare = ap is_modifier_mark (type_member (is_plain_type n x t) rest);
  open_ = no_semicolon _ (type_part _ (type_word_at false x n t));
}
type_begins (is_array_type n p q x t) rest = record {
  quiet = refl;
  bare = ap is_modifier_mark (type_member (is_array_type n p q x t) rest);
  open_ = no_semicolon _ (type_part _ (type_word_at false x n t));
}

result_begins : (result : Option TypeTree) (r : List Lexeme) → SpellsResult result r → (rest : List Lexeme) → Begins (r ++ rest)
unfolding word_at mark_at same_mark member_mark_at
result_begins _ _ (is_void v) rest = record { quiet = refl; bare = refl; open_ = refl }
result_begins _ _ (is_result t u h) rest = type_begins h rest

name_begins : (x : List ℕ) (n : Span) → IsTrue (is_name x) → (rest : List Lexeme) → Begins (chosen_word false x n ∷ rest)
unfolding word_at mark_at same_mark
name_begins x n named rest = record { quiet = refl; bare = ap is_modifier_mark (name_member x n rest named); open_ = rw (name_at false x n named) refl }

-- what stands behind more lexemes begins as they do
further : (u v rest : List Lexeme) → Begins (u ++ (v ++ rest)) → Begins ((u ++ v) ++ rest)
further u v rest b = subst Begins (sym (append_assoc u v rest)) b

type_some : {t : TypeTree} {u : List Lexeme} → SpellsType false t u → (v : List Lexeme) → IsSome (u ++ v)
type_some (is_plain_type n x t) v = tt
type_some (is_array_type n p q x t) v = tt

result_some : (result : Option TypeTree) (r : List Lexeme) → SpellsResult result r → (v : List Lexeme) → IsSome (r ++ v)
result_some _ _ (is_void n) v = tt
result_some _ _ (is_result t u h) v = type_some h v

-- ---- methods

module _ (limit room quantifiers : ℕ) (sp : Specified) (ws : List Word) where
  pub method_tail : (result : Option TypeTree) (x : List ℕ) (n : Span) (ts : List ParamTree) (throws : List Word) (b : Option Body) (r c t d : List Lexeme) → SpellsResult result r
      → IsTrue (is_name x) → SpellsParams ts c → SpellsNamesAfter (codes "throws") throws t → SpellsMethodBody b d → (rest : List Lexeme)
      → length (r ++ chosen_word false x n ∷ (c ++ (t ++ d))) ≤ limit → of_method_body depth 1 b ≤ room → of_method_body nesting 0 b ≤ quantifiers
      → IsTail limit room quantifiers sp ws (method sp.tree ws result (kept false x n) ts throws b) (max sp.depth (of_method_body depth 1 b)) (r ++ chosen_word false x n ∷ (c ++ (t ++ d))) rest
  method_tail result x n ts throws b r c t d hr named hc ht hd rest few deep flat =
      let tail : List Lexeme = chosen_word false x n ∷ (c ++ (t ++ d)) in
      let B = further r tail rest (result_begins result r hr (tail ++ rest)) in
      let one = length-append r tail in
      let two = length-append c (t ++ d) in
      let three = length-append t d in
      let same : (r ++ tail) ++ rest ≡ r ++ chosen_word false x n ∷ (c ++ (t ++ (d ++ rest))) = append_assoc r tail rest
      ∙ ap (λ (z : List Lexeme). r ++ chosen_word false x n ∷ z) (append_assoc c (t ++ d) rest ∙ ap (λ (z : List Lexeme). c ++ z) (append_assoc t d rest)) in
      record {
        quiet = B.quiet;
        bare = B.bare;
        open_ = B.open_;
        some = result_some result r hr tail;
        is = λ first.
            ap (λ (z : List Lexeme). spec.java_by limit room (expression_of limit) quantifiers sp ws (member_mark_at z) z) same
            ∙ result_read limit room quantifiers sp ws result r hr x n (c ++ (t ++ (d ++ rest))) named (params_mark limit room quantifiers sp ws ts c hc (t ++ (d ++ rest)))
            ∙ method_behind_read limit room quantifiers sp ws result x n ts throws b c t d hc ht hd rest (omega arith) (omega arith) (omega arith) deep flat (end_of (end_of n c) t)
            ∙ ap (λ (z : Span). read_as (ended_as (method sp.tree ws result (kept false x n) ts throws b) (max sp.depth (of_method_body depth 1 b)) z) rest)
            (sym (end_of_both first r tail ∙ end_of_both n c (t ++ d) ∙ end_of_both (end_of n c) t d));
      }

  -- ---- constructors

  body_last : (b : Body) (p : Span) (d : List Lexeme) → SpellsConstructorBody b p d → (first : Span) → end_of first d ≡ body_end b
  body_last _ _ _ (is_plain_body _ _ _ (is_body p q ts u h)) first = end_of_both p u (sign false "}" q ∷ [])
  body_last _ _ _ (is_super_body p r p1 q1 p2 q es ts u v h hs) first =
      end_of_both p1 u (sign false ")" q1 ∷ sign false ";" p2 ∷ (v ++ sign false "}" q ∷ [])) ∙ end_of_both p2 v (sign false "}" q ∷ [])

  pub constructor_tail : (x : List ℕ) (n p : Span) (ts : List ParamTree) (throws : List Word) (b : Body) (c t d : List Lexeme) → IsTrue (is_name x) → SpellsParams ts c
      → SpellsNamesAfter (codes "throws") throws t → SpellsConstructorBody b p d → (rest : List Lexeme)
      → length (chosen_word false x n ∷ (c ++ (t ++ d))) ≤ limit → of_body depth 1 b ≤ room → of_body nesting 0 b ≤ quantifiers
      → IsTail limit room quantifiers sp ws (constructor_member sp.tree ws (kept false x n) ts throws b) (max sp.depth (of_body depth 1 b)) (chosen_word false x n ∷ (c ++ (t ++ d))) rest
  constructor_tail x n p ts throws b c t d named hc ht hd rest few deep flat =
      let B = name_begins x n named ((c ++ (t ++ d)) ++ rest) in
      let two = length-append c (t ++ d) in
      let three = length-append t d in
      record {
        quiet = B.quiet;
        bare = B.bare;
        open_ = B.open_;
        some = tt;
        is = λ first.
            ap (λ (z : List Lexeme). spec.java_by limit room (expression_of limit) quantifiers sp ws (member_mark_at (chosen_word false x n ∷ z)) (chosen_word false x n ∷ z))
            (append_assoc c (t ++ d) rest ∙ ap (λ (z : List Lexeme). c ++ z) (append_assoc t d rest))
            ∙ constructor_read limit room quantifiers sp ws x n (c ++ (t ++ (d ++ rest))) named (params_mark limit room quantifiers sp ws ts c hc (t ++ (d ++ rest)))
            ∙ constructor_behind_read limit room quantifiers sp ws x n ts throws b p c t d hc ht hd rest (omega arith) (omega arith) (omega arith) deep flat
            ∙ ap (λ (z : Span). read_as (ended_as (constructor_member sp.tree ws (kept false x n) ts throws b) (max sp.depth (of_body depth 1 b)) z) rest)
            (sym (end_of_both n c (t ++ d) ∙ end_of_both (end_of n c) t d ∙ body_last b p d hd (end_of (end_of n c) t)));
      }

-- ---- fields

pub field_tail : (limit room quantifiers : ℕ) (ws : List Word) (t : TypeTree) (x : List ℕ) (n q : Span) (equals : Option Span) (e : Option Expression) (gs : List Word) (b c g : List Lexeme)
    → SpellsType false t b → IsTrue (is_name x) → SpellsValue false equals e c → SpellsGroups gs g → (rest : List Lexeme)
    → length (b ++ chosen_word false x n ∷ (c ++ sign false ";" q ∷ g)) ≤ limit → of_option depth 1 e ≤ room → of_option nesting 0 e ≤ quantifiers
    → form_goes_on (field ws t (kept false x n) equals e gs) (word_at rest) ≡ false
    → IsTail limit room quantifiers no_spec ws (field ws t (kept false x n) equals e gs) (of_option depth 1 e) (b ++ chosen_word false x n ∷ (c ++ sign false ";" q ∷ g)) rest
field_tail limit room quantifiers ws t x n q equals e gs b c g ht named hc hg rest few deep flat ends =
    let tail : List Lexeme = chosen_word false x n ∷ (c ++ sign false ";" q ∷ g) in
    let B = further b tail rest (type_begins ht (tail ++ rest)) in
    let one = length-append b tail in
    let two = length-append c (sign false ";" q ∷ g) in
    let same : (b ++ tail) ++ rest ≡ b ++ chosen_word false x n ∷ (c ++ sign false ";" q ∷ (g ++ rest)) = append_assoc b tail rest
    ∙ ap (λ (z : List Lexeme). b ++ chosen_word false x n ∷ z) (append_assoc c (sign false ";" q ∷ g) rest) in
    record {
      quiet = B.quiet;
      bare = B.bare;
      open_ = B.open_;
      some = type_some ht tail;
      is = λ first.
          ap (λ (z : List Lexeme). spec.java_by limit room (expression_of limit) quantifiers no_spec ws (member_mark_at z) z) same
          ∙ field_read limit room quantifiers ws t b ht x n (c ++ sign false ";" q ∷ (g ++ rest)) named (value_first limit room quantifiers ws equals e c hc q (g ++ rest))
          ∙ field_behind_read limit room quantifiers ws t x n q equals e gs c g rest hc hg deep flat (omega arith) (omega arith) ends
          ∙ ap (λ (z : Span). read_as (ended_as (field ws t (kept false x n) equals e gs) (of_option depth 1 e) z) rest)
          (sym (end_of_both first b tail ∙ end_of_both n c (sign false ";" q ∷ g)));
    }
