-- The texts of the lexemes that spell a method's specification are those of its tokens.
use Rattle.std.proofs.Common.{◌≡◌, Bool, true, List, [], ◌∷◌, ◌++◌, Option, refl, ◌∙◌}
use Rattle.jesc_text.specs.declared.place.Span.{Span}
use Rattle.jesc_ast.specs.declared.word.Word.{Word}
use Rattle.jesc_ast.specs.Lexemes.{Lexeme, word, sign, chosen_word, kept}
use Rattle.jesc_ast.specs.SpecTrees.{Store, Promise, signals_only, Case, Specification}
use Rattle.jesc_ast.specs.Specifications.{first_span, SpellsNames, last_name, first_name, SpellsStore, is_path_store, is_star, is_element, is_range, is_all_elements, SpellsSomeStores, last_store, first_store, SpellsStores, is_nothing, is_everything, are_stores, SpellsOptionalName, missing_name, given_name, SpellsSpecClause, is_ensures, is_assignable, is_signals, is_signals_nothing, is_signals_only, SpellsSpecClauses, no_spec_clauses, more_spec_clauses, SpellsVisibility, no_visibility, some_visibility, SpellsCase, is_headed, is_demanding, is_promising, SpellsCases, last_case, first_case, SpellsSpec, is_first_spec, is_further_spec}
use Rattle.jesc_ast.specs.Spelled.{Spelled, texts, fixed, noted, spell_word, spell_optional_word, spell_names, spell_store, spell_stores, spell_spec_clause, spell_spec_clauses, spell_case, spell_cases, spell_spec}
use Rattle.jesc_ast.specs.laws.SpelledExpressions.{joined, behind, expression_spelled}
use Rattle.jesc_ast.specs.laws.SpelledStatements.{option_spelled, clauses_spelled}

-- a name before others, of which there is one at least
names_cons : (note : Bool) (between : Spelled) (w : Word) (ws : List Word) (u : List Lexeme) → SpellsNames note ws u
    → spell_word w ∷ between ∷ spell_names between ws ≡ spell_names between (w ∷ ws)
names_cons note between w ws u (last_name s x name) = refl
names_cons note between w ws u (first_name s p x vs v name rest) = refl

pub names_spelled : (note : Bool) (ws : List Word) (u : List Lexeme) → SpellsNames note ws u → texts u ≡ spell_names (fixed note ",") ws
names_spelled note ws u (last_name s x name) = refl
names_spelled note ws u (first_name s p x vs v name rest) =
    behind _ _ _ (behind _ _ _ (names_spelled note vs v rest)) ∙ names_cons note (fixed note ",") (kept note x s) vs v rest

store_spelled : (t : Store) (u : List Lexeme) → SpellsStore t u → texts u ≡ spell_store t.form
store_spelled t u (is_path_store e v inner path no_index) = expression_spelled true e v inner
store_spelled t u (is_star dot q e v inner path) = joined v _ _ _ (expression_spelled true e v inner) refl
store_spelled t u (is_element p q e i v w inner path place) =
    joined v _ _ _ (expression_spelled true e v inner) (behind _ _ _ (joined w _ _ _ (expression_spelled true i w place) refl))
store_spelled t u (is_range p dots q e first last v w z inner path low high) =
    joined v _ _ _ (expression_spelled true e v inner)
    (behind _ _ _ (joined w _ _ _ (expression_spelled true first w low) (behind _ _ _ (joined z _ _ _ (expression_spelled true last z high) refl))))
store_spelled t u (is_all_elements p s q e v inner path) = joined v _ _ _ (expression_spelled true e v inner) refl

stores_cons : (t : Store) (ts : List Store) (u : List Lexeme) → SpellsSomeStores ts u → spell_store t.form ++ noted "," ∷ spell_stores ts ≡ spell_stores (t ∷ ts)
stores_cons t ts u (last_store r v inner) = refl
stores_cons t ts u (first_store r p rs v w first rest) = refl

some_stores_spelled : (ts : List Store) (u : List Lexeme) → SpellsSomeStores ts u → texts u ≡ spell_stores ts
some_stores_spelled ts u (last_store t v inner) = store_spelled t v inner
some_stores_spelled ts u (first_store t p rs v w first rest) =
    joined v _ _ _ (store_spelled t v first) (behind _ _ _ (some_stores_spelled rs w rest)) ∙ stores_cons t rs w rest

stores_spelled : (ts : List Store) (u : List Lexeme) → SpellsStores ts u → texts u ≡ spell_stores ts
stores_spelled ts u (is_nothing s) = refl
stores_spelled ts u (is_everything s) = refl
stores_spelled ts u (are_stores rs v inner) = some_stores_spelled rs v inner

optional_name_spelled : (note : Bool) (n : Option Word) (u : List Lexeme) → SpellsOptionalName note n u → texts u ≡ spell_optional_word n
optional_name_spelled note n u missing_name = refl
optional_name_spelled note n u (given_name s x name) = refl

only_names : (s p : Span) (ws : List Word) (u : List Lexeme) → SpellsNames true ws u
    → texts (word true "signals_only" s ∷ (u ++ sign true ";" p ∷ [])) ≡ spell_spec_clause (signals_only (first_span ws) ws)
only_names s p ws u (last_name n x name) = refl
only_names s p ws u (first_name n q x vs v name rest) =
    behind _ _ _ (joined (chosen_word true x n ∷ sign true "," q ∷ v) _ _ _ (names_spelled true _ _ (first_name n q x vs v name rest)) refl)

spec_clause_spelled : (c : Promise) (u : List Lexeme) → SpellsSpecClause c u → texts u ≡ spell_spec_clause c
spec_clause_spelled c u (is_ensures s p x e v word inner) = behind _ _ _ (joined v _ _ _ (expression_spelled true e v inner) refl)
spec_clause_spelled c u (is_assignable s p x ts v word inner) = behind _ _ _ (joined v _ _ _ (stores_spelled ts v inner) refl)
spec_clause_spelled c u (is_signals s p m q r x class n e v w word class_name name inner) =
    behind _ _ _ (behind _ _ _ (behind _ _ _ (joined v _ _ _ (optional_name_spelled true n v name) (behind _ _ _ (joined w _ _ _ (option_spelled true e w inner) refl)))))
spec_clause_spelled c u (is_signals_nothing s n p) = refl
spec_clause_spelled c u (is_signals_only s p ws v names) = only_names s p ws v names

spec_clauses_spelled : (cs : List Promise) (u : List Lexeme) → SpellsSpecClauses cs u → texts u ≡ spell_spec_clauses cs
spec_clauses_spelled cs u no_spec_clauses = refl
spec_clauses_spelled cs u (more_spec_clauses c ds v w first rest) = joined v w _ _ (spec_clause_spelled c v first) (spec_clauses_spelled ds w rest)

pub visibility_spelled : (visibility : Option Word) (u : List Lexeme) → SpellsVisibility visibility u → texts u ≡ spell_optional_word visibility
visibility_spelled visibility u no_visibility = refl
visibility_spelled visibility u (some_visibility s x word) = refl

case_spelled : (c : Case) (u : List Lexeme) → SpellsCase c u → texts u ≡ spell_case c
case_spelled c u (is_headed s x visibility demands cs t v w seen heading clauses rest allowed) =
    joined t _ _ _ (visibility_spelled visibility t seen) (behind _ _ _ (joined v w _ _ (clauses_spelled _ demands v clauses) (spec_clauses_spelled cs w rest)))
case_spelled c u (is_demanding d demands cs v w clauses rest) = joined v w _ _ (clauses_spelled _ (d ∷ demands) v clauses) (spec_clauses_spelled cs w rest)
case_spelled c u (is_promising p cs v rest) = spec_clauses_spelled (p ∷ cs) v rest

cases_cons : (c : Case) (cs : List Case) (u : List Lexeme) → SpellsCases cs u → spell_case c ++ noted "also" ∷ spell_cases cs ≡ spell_cases (c ∷ cs)
cases_cons c cs u (last_case d v inner) = refl
cases_cons c cs u (first_case d s ds v w first rest) = refl

cases_spelled : (cs : List Case) (u : List Lexeme) → SpellsCases cs u → texts u ≡ spell_cases cs
cases_spelled cs u (last_case c v inner) = case_spelled c v inner
cases_spelled cs u (first_case c s ds v w first rest) = joined v _ _ _ (case_spelled c v first) (behind _ _ _ (cases_spelled ds w rest)) ∙ cases_cons c ds w rest

pub specification_spelled : (t : Specification) (u : List Lexeme) → SpellsSpec t u → texts u ≡ spell_spec t
specification_spelled t u (is_first_spec cs v inner) = cases_spelled cs v inner
specification_spelled t u (is_further_spec s cs v inner) = behind _ _ _ (cases_spelled cs v inner)
