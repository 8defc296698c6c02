-- What is read as a specification, or as a member in an annotation, spells the tree that it gives, with its span, its
-- depth and no more nested quantifiers than may nest.
use Rattle.std.proofs.Common.{◌≡◌, ℕ, List, [], ◌∷◌, ◌++◌, Ok, sym, ap, ◌∙◌, append_assoc}
use Rattle.jesc_ast.specs.declared.word.Word.{Word}
use Rattle.jesc_ast.specs.Lexemes.{Lexeme, join, span_of_all}
use Rattle.jesc_ast.specs.SpecTrees.{Specification}
use Rattle.jesc_ast.specs.FileTrees.{Member}
use Rattle.jesc_ast.specs.Depth.{of_member}
use Rattle.jesc_ast.specs.Members.{SpellsModifiers, SpellsNoteMember}
use Rattle.jesc_jml_grammar.specs.declared.note_word.NoteWord.TheVariants as w
use Rattle.jesc_jml_grammar.specs.Steps.{Parser}
use Rattle.jesc_jml_grammar.specs.Reading.{Parsed, Start}
use Rattle.jesc_jml_grammar.specs.ClauseMarks.{note_word, span_at}
use Rattle.jesc_jml_grammar.specs.ClauseReading as spec
use Rattle.jesc_jml_grammar.specs.ClauseReading.{Sized}
use Rattle.jesc_jml_parser.specs.laws.SoundSteps.{Gives, gives_bind, gives_so, gives_ok}
use Rattle.jesc_jml_parser.specs.laws.ClauseSoundStores.{TakesExpressions}
use Rattle.jesc_jml_parser.specs.laws.ClauseSoundLists.{end_of, end_of_both, some_behind, taken_span, TakenAs, IsRead}
use Rattle.jesc_jml_parser.specs.laws.ClauseSoundCases.{IsSpecRead, specification_takes, specification_behind_takes}
use Rattle.jesc_jml_parser.specs.laws.ClauseSoundModifiers.{modifiers_take, all_modifiers}
use Rattle.jesc_jml_parser.specs.laws.ClauseSoundMembers.{form_takes}

-- these lexemes spell the member, and its span is theirs
pub record IsMemberRead (room k : ℕ) (t : Sized Member) (u : List Lexeme) : Type 0 where
  pub read : IsRead SpellsNoteMember of_member room k u t.tree.form t.depth
  pub span : t.tree.span ≡ span_of_all u

module _ (limit room : ℕ) (inner : ℕ → ℕ → Start → Parser Parsed) (reads : TakesExpressions room inner) (k : ℕ) where
  pub member_behind_takes : (ws : List Word) (before : List Lexeme) → SpellsModifiers ws before → (ts : List Lexeme)
      → Gives (spec.member_behind limit room inner k (span_at (before ++ ts)) ws ts) (TakenAs (λ (t : Sized Member) (u : List Lexeme). IsMemberRead room k t (before ++ u)) ts)
  unfolding spec.member_behind
  member_behind_takes ws before are ts =
      gives_bind _ _ (spec.form_behind limit room inner k ws ts) (form_takes limit room inner reads k ws before are ts) (λ f rest h.
      let whole : before ++ ts ≡ (before ++ h.taken) ++ rest = rw h.parts (sym (append_assoc before h.taken rest)) in
      let last : f.last ≡ end_of (span_at (before ++ ts)) (before ++ h.taken) =
      sym (end_of_both (span_at (before ++ ts)) before h.taken ∙ h.is.last (end_of (span_at (before ++ ts)) before)) in
      record {
        taken = h.taken;
        parts = h.parts;
        is = record {
          read = h.is.read;
          span = ap (join (span_at (before ++ ts))) last ∙ taken_span (before ++ h.taken) (before ++ ts) rest whole (some_behind before h.taken h.is.some);
        };
      })

  pub member_annotation_takes : (ts : List Lexeme) → Gives (spec.member_annotation limit room inner k ts) (TakenAs (IsMemberRead room k) ts)
  unfolding spec.member_annotation
  member_annotation_takes ts =
      gives_bind _ _ (spec.modifiers limit room inner k [] ts) (modifiers_take limit room inner k [] ts) (λ ws mid h.
      rw h.parts
      (gives_so _ (TakenAs (IsMemberRead room k) (h.taken ++ mid)) (spec.member_behind limit room inner k (span_at (h.taken ++ mid)) ws mid)
      (member_behind_takes ws h.taken (all_modifiers ws h.taken (rw h.is.made h.is.spelled)) mid) (λ t rest g.
      record { taken = h.taken ++ g.taken; parts = rw g.parts (sym (append_assoc h.taken g.taken rest)); is = g.is })))

  -- ---- the same, of an answer

  pub specification_sound : (ts rest : List Lexeme) (t : Sized Specification) → spec.specification limit room inner k ts ≡ Ok (t, rest) → TakenAs (IsSpecRead room k) ts t rest
  specification_sound ts rest t e =
      gives_ok (spec.specification limit room inner k ts) (TakenAs (IsSpecRead room k) ts) t rest (specification_takes limit room inner reads k ts) e

  -- behind the visibility that it begins with
  pub specification_behind_sound : (v : Lexeme) → note_word v ≡ w.Visibility → (ts rest : List Lexeme) (t : Sized Specification)
      → spec.specification_behind limit room inner k v ts ≡ Ok (t, rest) → TakenAs (λ (t : Sized Specification) (u : List Lexeme). IsSpecRead room k t (v ∷ u)) ts t rest
  specification_behind_sound v seen ts rest t e =
      gives_ok (spec.specification_behind limit room inner k v ts) (TakenAs (λ (t : Sized Specification) (u : List Lexeme). IsSpecRead room k t (v ∷ u)) ts) t rest
      (specification_behind_takes limit room inner reads k v seen ts) e

  pub member_annotation_sound : (ts rest : List Lexeme) (t : Sized Member) → spec.member_annotation limit room inner k ts ≡ Ok (t, rest) → TakenAs (IsMemberRead room k) ts t rest
  member_annotation_sound ts rest t e =
      gives_ok (spec.member_annotation limit room inner k ts) (TakenAs (IsMemberRead room k) ts) t rest (member_annotation_takes ts) e

  -- behind modifiers that were read before, which these lexemes spell
  pub member_behind_sound : (ws : List Word) (before : List Lexeme) → SpellsModifiers ws before → (ts rest : List Lexeme) (t : Sized Member)
      → spec.member_behind limit room inner k (span_at (before ++ ts)) ws ts ≡ Ok (t, rest)
      → TakenAs (λ (t : Sized Member) (u : List Lexeme). IsMemberRead room k t (before ++ u)) ts t rest
  member_behind_sound ws before are ts rest t e =
      gives_ok (spec.member_behind limit room inner k (span_at (before ++ ts)) ws ts) (TakenAs (λ (t : Sized Member) (u : List Lexeme). IsMemberRead room k t (before ++ u)) ts) t rest
      (member_behind_takes ws before are ts) e
