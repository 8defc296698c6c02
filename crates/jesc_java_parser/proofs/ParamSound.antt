-- What the rules of parameters take, and of what a method throws.
use Rattle.std.proofs.Common.{◌≡◌, ℕ, Bool, true, false, List, [], ◌∷◌, ◌++◌, refl, sym, append_assoc, inl, inr}
use Rattle.std.proofs.lemmas.Bool.{or_cases}
use Rattle.std.specs.Prelude.{codes}
use Rattle.jesc_ast.specs.declared.word.Word.{Word}
use Rattle.jesc_ast.specs.declared.class.ParamTree.{ParamTree}
use Rattle.jesc_ast.specs.Lexemes.{Lexeme}
use Rattle.jesc_ast.specs.Words.{is_one_of}
use Rattle.jesc_ast.specs.Members.{SpellsParamModifiers, no_param_modifiers, final_modifier, null_modifier, SpellsParam, is_param, SpellsSomeParams, last_param, first_param, SpellsParams, no_params, some_params, SpellsNamesAfter}
use Rattle.jesc_jml_grammar.specs.declared.mark.Mark.TheVariants as m
use Rattle.jesc_jml_grammar.specs.Marks.{lexeme_mark}
use Rattle.jesc_jml_grammar.specs.Steps.{Parser, ◌>>◌, pure, mark_at, same_mark, expect}
use Rattle.jesc_jml_grammar.specs.Reading as reading
use Rattle.jesc_jml_grammar.specs.Reading.{Parsed, Start, word_of}
use Rattle.jesc_jml_parser.specs.laws.SoundMarks.{marked}
use Rattle.jesc_jml_parser.specs.laws.SoundSteps.{Gives, gives_bind, gives_if, gives_so, took, TakesWhole}
use Rattle.jesc_jml_parser.specs.laws.SoundCalls.{type_takes}
use Rattle.jesc_jml_grammar.specs.ClauseFound.{with_word}
use Rattle.jesc_jml_parser.specs.laws.ClauseSoundLists.{TakenAs, TakenUntil, until_takes, separated_takes}
use Rattle.jesc_java_grammar.specs.Lexing.{is_word_that, is_word, next_is, take_if}
use Rattle.jesc_java_grammar.specs.FileMarks.{is_param_modifier, at_code}
use Rattle.jesc_java_grammar.specs.FileReading as spec
use Rattle.jesc_java_grammar.specs.FileReading.{Signature, with_param}
use Rattle.jesc_java_parser.proofs.LexingSound.{word_that, word_is, took_if}
use Rattle.jesc_java_parser.proofs.ModifierSound.{names_after_takes}

-- what stands behind the name of a method
pub record IsSignature (found : Signature) (u : List Lexeme) : Type 0 where
  pub param_part : List Lexeme
  pub throw_part : List Lexeme
  pub parts : u ≡ param_part ++ throw_part
  pub params : SpellsParams found.params param_part
  pub throws : SpellsNamesAfter (codes "throws") found.throws throw_part

-- one more modifier behind the others
last_modifier : (x : Lexeme) → is_param_modifier x ≡ true → SpellsParamModifiers (word_of x ∷ []) (x ∷ [])
last_modifier x e =
    elim (or_cases (is_word (codes "final") false x) (is_word_that (is_one_of (codes "nullable" ∷ codes "non_null" ∷ [])) true x) e) [
      | inl code ↦ rw (word_is (codes "final") false x code) (final_modifier x.span [] [] no_param_modifiers)
      | inr note ↦
          let at = word_that (is_one_of (codes "nullable" ∷ codes "non_null" ∷ [])) true x note in
          rw at.0 (null_modifier x.span x.text [] [] at.1 no_param_modifiers)
    ]

modifiers_at_end : (ws : List Word) (u : List Lexeme) (x : Lexeme) → SpellsParamModifiers ws u → is_param_modifier x ≡ true
    → SpellsParamModifiers (ws ++ word_of x ∷ []) (u ++ x ∷ [])
modifiers_at_end _ _ x no_param_modifiers e = last_modifier x e
modifiers_at_end _ _ x (final_modifier s ws u more) e = final_modifier s (ws ++ word_of x ∷ []) (u ++ x ∷ []) (modifiers_at_end ws u x more e)
modifiers_at_end _ _ x (null_modifier s y ws u one more) e = null_modifier s y (ws ++ word_of x ∷ []) (u ++ x ∷ []) one (modifiers_at_end ws u x more e)

params_at_end : (found : List ParamTree) (u : List Lexeme) (p : Lexeme) (t : ParamTree) (v : List Lexeme) → SpellsSomeParams found u → lexeme_mark false p ≡ m.Comma → SpellsParam t v
    → SpellsSomeParams (found ++ t ∷ []) (u ++ p ∷ v)
params_at_end _ _ p t v (last_param r u is) comma h = rw (marked false m.Comma p comma) (first_param r p.span (t ∷ []) u v is (last_param t v h))
params_at_end _ _ p t v (first_param r q found a u is more) comma h =
    simp append_assoc (first_param r q (found ++ t ∷ []) a (u ++ p ∷ v) is (params_at_end found u p t v more comma h))

module _ (limit room : ℕ) (expression : Bool → ℕ → ℕ → ℕ → Start → Parser Parsed)
    (reads : (note : Bool) (room : ℕ) → TakesWhole note room (expression note room)) (k : ℕ) where
  param_modifiers_take : (ts : List Lexeme) → Gives (spec.param_modifiers limit room expression k ts) (TakenAs SpellsParamModifiers ts)
  unfolding spec.param_modifiers
  param_modifiers_take ts =
      gives_so (TakenUntil (next_is is_param_modifier) SpellsParamModifiers ts) (TakenAs SpellsParamModifiers ts) (spec.param_modifiers limit room expression k ts)
      (until_takes (next_is is_param_modifier) (take_if is_param_modifier) with_word SpellsParamModifiers
      (λ ws u all h e.
      gives_so _ (λ x rest. TakenAs (λ (b : List Word) (v : List Lexeme). SpellsParamModifiers b (u ++ v)) all (with_word ws x) rest) (take_if is_param_modifier all) (took_if is_param_modifier all) (λ x rest g.
      record { taken = x ∷ []; parts = g.at; is = modifiers_at_end ws u x h g.passes }))
      limit [] ts [] ts refl no_param_modifiers)
      (λ ws rest h. record { taken = h.taken; parts = h.parts; is = h.is })

  param_takes : (ts : List Lexeme) → Gives (spec.param limit room expression k ts) (TakenAs SpellsParam ts)
  unfolding spec.param
  param_takes ts =
      gives_bind _ _ (spec.param_modifiers limit room expression k ts) (param_modifiers_take ts) (λ ws t1 h.
      gives_bind _ _ (reading.type_ false limit room (expression false room) k t1) (type_takes false limit room (expression false room) (reads false room) k t1) (λ t t2 g.
      gives_bind _ _ (expect false m.Name t2) (took false m.Name t2) (λ x rest named.
      let at = marked false m.Name x named.mark in
      record {
        taken = h.taken ++ (g.taken ++ x ∷ []);
        parts = rw (h.parts, g.parts, named.at) (sym (simp append_assoc));
        is = rw at.0 (is_param ws t x.span x.text h.taken g.taken h.is g.spelled at.1);
      })))

  param_step : (found : List ParamTree) (u ts : List Lexeme) → SpellsSomeParams found u
      → Gives ((expect false m.Comma >> spec.param limit room expression k) ts)
      (λ t rest. TakenAs (λ (b : List ParamTree) (v : List Lexeme). SpellsSomeParams b (u ++ v)) ts (with_param found t) rest)
  param_step found u ts h =
      gives_bind _ _ (expect false m.Comma ts) (took false m.Comma ts) (λ p mid comma.
      gives_so _ (λ t rest. TakenAs (λ (b : List ParamTree) (v : List Lexeme). SpellsSomeParams b (u ++ v)) ts (with_param found t) rest) (spec.param limit room expression k mid) (param_takes mid) (λ t rest g.
      record { taken = p ∷ g.taken; parts = rw (comma.at, g.parts) refl; is = params_at_end found u p t g.taken h comma.mark g.is }))

  some_params_take : (ts : List Lexeme) → Gives (spec.some_params limit room expression k ts) (TakenAs SpellsSomeParams ts)
  unfolding spec.some_params
  some_params_take ts =
      gives_so (TakenUntil (at_code m.Comma) SpellsSomeParams ts) (TakenAs SpellsSomeParams ts) (spec.some_params limit room expression k ts)
      (separated_takes (at_code m.Comma) (expect false m.Comma) (spec.param limit room expression k) with_param SpellsSomeParams (λ found u all h e. param_step found u all h) limit [] ts
      (gives_so _ (λ t rest. TakenAs SpellsSomeParams ts (with_param [] t) rest) (spec.param limit room expression k ts) (param_takes ts) (λ t rest g.
      record { taken = g.taken; parts = g.parts; is = last_param t g.taken g.is })))
      (λ found rest h. record { taken = h.taken; parts = h.parts; is = h.is })

  -- these parameters, in parentheses
  abbrev AreInside : List ParamTree → List Lexeme → Type 0
  AreInside found u = (p q : Lexeme) → lexeme_mark false p ≡ m.LeftParen → lexeme_mark false q ≡ m.RightParen → SpellsParams found (p ∷ (u ++ q ∷ []))

  optional_params_take : (ts : List Lexeme) → Gives (spec.optional_params limit room expression k ts) (TakenAs AreInside ts)
  unfolding spec.optional_params
  optional_params_take ts =
      gives_if (same_mark (mark_at false ts) m.RightParen) (pure []) (spec.some_params limit room expression k) (TakenAs AreInside ts) ts
      (λ e. record {
        taken = [];
        parts = refl;
        is = λ p q left right. rw (marked false m.LeftParen p left, marked false m.RightParen q right) (no_params p.span q.span);
      })
      (λ e.
      gives_so (TakenAs SpellsSomeParams ts) (TakenAs AreInside ts) (spec.some_params limit room expression k ts) (some_params_take ts) (λ found rest h.
      record {
        taken = h.taken;
        parts = h.parts;
        is = λ p q left right. rw (marked false m.LeftParen p left, marked false m.RightParen q right) (some_params p.span q.span found h.taken h.is);
      }))

  params_take : (ts : List Lexeme) → Gives (spec.params limit room expression k ts) (TakenAs SpellsParams ts)
  unfolding spec.params
  params_take ts =
      gives_bind _ _ (expect false m.LeftParen ts) (took false m.LeftParen ts) (λ p t1 left.
      gives_bind _ _ (spec.optional_params limit room expression k t1) (optional_params_take t1) (λ found t2 h.
      gives_bind _ _ (expect false m.RightParen t2) (took false m.RightParen t2) (λ q rest right.
      record {
        taken = p ∷ (h.taken ++ q ∷ []);
        parts = rw (left.at, h.parts, right.at) (sym (simp append_assoc));
        is = h.is p q left.mark right.mark;
      })))

  pub signature_takes : (ts : List Lexeme) → Gives (spec.signature limit room expression k ts) (TakenAs IsSignature ts)
  unfolding spec.signature
  signature_takes ts =
      gives_bind _ _ (spec.params limit room expression k ts) (params_take ts) (λ found t1 h.
      gives_bind _ _ (spec.names_after limit room expression k (codes "throws") t1) (names_after_takes limit room expression k (codes "throws") t1) (λ throws rest g.
      record {
        taken = h.taken ++ g.taken;
        parts = rw (h.parts, g.parts) (sym (append_assoc h.taken g.taken rest));
        is = record { param_part = h.taken; throw_part = g.taken; parts = refl; params = h.is; throws = g.is };
      }))
