-- Which lexemes spell a method's specification. All of them stand in annotations.
use Rattle.std.specs.Prelude.{◌≡◌, ℕ, Bool, true, false, not, ◌||◌, IsTrue, Option, Some, None, List, [], ◌∷◌, ◌++◌, codes}
use Rattle.std.specs.List.{list_all}
use Rattle.jesc_text.specs.declared.place.Span.{Span}
use Rattle.jesc_ast.specs.declared.word.Word.{Word}
use Rattle.jesc_ast.specs.Lexemes.{Lexeme, word, backslash, sign, chosen_word, kept, join, span_of_all}
use Rattle.jesc_ast.specs.Words.{is_one_of, is_name}
use Rattle.jesc_ast.specs.Trees.{Expression, this, name, member, index, Clause, clause}
use Rattle.jesc_ast.specs.SpecTrees.{nothing, everything, path, star, element, range, all_elements, Store, store, Promise, promises, assigns, signals, signals_only, Case, case_of, Specification, specification}
use Rattle.jesc_ast.specs.Expressions.{span_of, SpellsExpression}
use Rattle.jesc_ast.specs.Statements.{SpellsOption, SpellsClauses}

-- ---- lists of names

-- names of one side with commas between, one at least
pub data SpellsNames (note : Bool) : List Word → List Lexeme → Type 0 where
  last_name : (s : Span) (x : List ℕ) → IsTrue (is_name x) → SpellsNames note (kept note x s ∷ []) (chosen_word note x s ∷ [])
  first_name : (s p : Span) (x : List ℕ) (ws : List Word) (u : List Lexeme) → IsTrue (is_name x) → SpellsNames note ws u
      → SpellsNames note (kept note x s ∷ ws) (chosen_word note x s ∷ sign note "," p ∷ u)

-- the span of the first of these words, of which there is one at least
abbrev pub first_span : List Word → Span
first_span [] = record { file = 0; from = 0; to = 0 }
first_span (w ∷ ws) = w.span

-- ---- store references

-- `this` or a name, and then names behind dots and indices
abbrev pub is_path : Expression → Bool
is_path (this s) = true
is_path (name s x) = true
is_path (member s e dot w) = is_path e
is_path (index s e bracket i) = is_path e
is_path _ = false

abbrev pub is_index : Expression → Bool
is_index (index s e bracket i) = true
is_index _ = false

-- A reference to a location or to several; `\nothing` and `\everything` aside.
pub data SpellsStore : Store → List Lexeme → Type 0 where
  is_path_store : (e : Expression) (u : List Lexeme) → SpellsExpression true e u → IsTrue (is_path e) → is_index e ≡ false
      → SpellsStore (store (span_of e) (path e)) u
  is_star : (dot q : Span) (e : Expression) (u : List Lexeme) → SpellsExpression true e u → IsTrue (is_path e)
      → SpellsStore (store (join (span_of e) q) (star e)) (u ++ sign true "." dot ∷ sign true "*" q ∷ [])
  is_element : (p q : Span) (e i : Expression) (u v : List Lexeme) → SpellsExpression true e u → IsTrue (is_path e) → SpellsExpression true i v
      → SpellsStore (store (join (span_of e) q) (element e i)) (u ++ sign true "[" p ∷ (v ++ sign true "]" q ∷ []))
  is_range : (p dots q : Span) (e first last : Expression) (u v t : List Lexeme) → SpellsExpression true e u → IsTrue (is_path e) → SpellsExpression true first v
      → SpellsExpression true last t
      → SpellsStore (store (join (span_of e) q) (range e first last))
      (u ++ sign true "[" p ∷ (v ++ sign true ".." dots ∷ (t ++ sign true "]" q ∷ [])))
  is_all_elements : (p s q : Span) (e : Expression) (u : List Lexeme) → SpellsExpression true e u → IsTrue (is_path e)
      → SpellsStore (store (join (span_of e) q) (all_elements e)) (u ++ sign true "[" p ∷ sign true "*" s ∷ sign true "]" q ∷ [])

-- one at least, with commas between
pub data SpellsSomeStores : List Store → List Lexeme → Type 0 where
  last_store : (t : Store) (u : List Lexeme) → SpellsStore t u → SpellsSomeStores (t ∷ []) u
  first_store : (t : Store) (p : Span) (ts : List Store) (u v : List Lexeme) → SpellsStore t u → SpellsSomeStores ts v
      → SpellsSomeStores (t ∷ ts) (u ++ sign true "," p ∷ v)

pub data SpellsStores : List Store → List Lexeme → Type 0 where
  is_nothing : (s : Span) → SpellsStores (store s nothing ∷ []) (backslash true "\\nothing" s ∷ [])
  is_everything : (s : Span) → SpellsStores (store s everything ∷ []) (backslash true "\\everything" s ∷ [])
  are_stores : (ts : List Store) (u : List Lexeme) → SpellsSomeStores ts u → SpellsStores ts u

-- ---- clauses

-- a name that may be missing
pub data SpellsOptionalName (note : Bool) : Option Word → List Lexeme → Type 0 where
  missing_name : SpellsOptionalName note None []
  given_name : (s : Span) (x : List ℕ) → IsTrue (is_name x) → SpellsOptionalName note (Some (kept note x s)) (chosen_word note x s ∷ [])

pub data SpellsSpecClause : Promise → List Lexeme → Type 0 where
  is_ensures : (s p : Span) (x : List ℕ) (e : Expression) (u : List Lexeme) → IsTrue (is_one_of (codes "ensures" ∷ codes "post" ∷ []) x) → SpellsExpression true e u
      → SpellsSpecClause (promises (clause (kept true x s) e)) (chosen_word true x s ∷ (u ++ sign true ";" p ∷ []))
  is_assignable : (s p : Span) (x : List ℕ) (ts : List Store) (u : List Lexeme)
      → IsTrue (is_one_of (codes "assignable" ∷ codes "modifies" ∷ codes "modifiable" ∷ codes "assigns" ∷ []) x) → SpellsStores ts u
      → SpellsSpecClause (assigns (kept true x s) ts) (chosen_word true x s ∷ (u ++ sign true ";" p ∷ []))
  is_signals : (s p m q r : Span) (x class : List ℕ) (n : Option Word) (e : Option Expression) (u v : List Lexeme)
      → IsTrue (is_one_of (codes "signals" ∷ codes "exsures" ∷ []) x) → IsTrue (is_name class) → SpellsOptionalName true n u → SpellsOption true e v
      → SpellsSpecClause (signals (kept true x s) p (kept true class m) n e)
      (chosen_word true x s ∷ sign true "(" p ∷ chosen_word true class m ∷ (u ++ sign true ")" q ∷ (v ++ sign true ";" r ∷ [])))
  is_signals_nothing : (s n p : Span)
      → SpellsSpecClause (signals_only n []) (word true "signals_only" s ∷ backslash true "\\nothing" n ∷ sign true ";" p ∷ [])
  is_signals_only : (s p : Span) (ws : List Word) (u : List Lexeme) → SpellsNames true ws u
      → SpellsSpecClause (signals_only (first_span ws) ws) (word true "signals_only" s ∷ (u ++ sign true ";" p ∷ []))

pub data SpellsSpecClauses : List Promise → List Lexeme → Type 0 where
  no_spec_clauses : SpellsSpecClauses [] []
  more_spec_clauses : (c : Promise) (cs : List Promise) (u v : List Lexeme) → SpellsSpecClause c u → SpellsSpecClauses cs v
      → SpellsSpecClauses (c ∷ cs) (u ++ v)

-- ---- cases

abbrev pub is_visibility : List ℕ → Bool
is_visibility = is_one_of (codes "public" ∷ codes "protected" ∷ codes "private" ∷ [])

abbrev pub is_normal : List ℕ → Bool
is_normal = is_one_of (codes "normal_behavior" ∷ codes "normal_behaviour" ∷ [])

abbrev pub is_exceptional : List ℕ → Bool
is_exceptional = is_one_of (codes "exceptional_behavior" ∷ codes "exceptional_behaviour" ∷ [])

abbrev pub is_heading : List ℕ → Bool
is_heading text = is_one_of (codes "behavior" ∷ codes "behaviour" ∷ []) text || is_normal text || is_exceptional text

-- whether a case under this heading may have the clause
abbrev pub may_stand : List ℕ → Promise → Bool
may_stand heading (promises c) = not (is_exceptional heading)
may_stand heading (assigns w ts) = true
may_stand heading (signals w p class n e) = not (is_normal heading)
may_stand heading (signals_only s ws) = not (is_normal heading)

-- a visibility that may be missing
pub data SpellsVisibility : Option Word → List Lexeme → Type 0 where
  no_visibility : SpellsVisibility None []
  some_visibility : (s : Span) (x : List ℕ) → IsTrue (is_visibility x) → SpellsVisibility (Some (kept true x s)) (chosen_word true x s ∷ [])

abbrev pub SpellsDemands : List Clause → List Lexeme → Type 0
SpellsDemands = SpellsClauses (codes "requires" ∷ codes "pre" ∷ [])

-- A case's span is that of all its lexemes. A case without a heading has a clause at least.
pub data SpellsCase : Case → List Lexeme → Type 0 where
  is_headed : (s : Span) (x : List ℕ) (visibility : Option Word) (demands : List Clause) (cs : List Promise) (t u v : List Lexeme)
      → SpellsVisibility visibility t → IsTrue (is_heading x) → SpellsDemands demands u → SpellsSpecClauses cs v → IsTrue (list_all (may_stand x) cs)
      → SpellsCase (case_of (span_of_all (t ++ chosen_word true x s ∷ (u ++ v))) visibility (Some (kept true x s)) demands cs)
      (t ++ chosen_word true x s ∷ (u ++ v))
  is_demanding : (d : Clause) (demands : List Clause) (cs : List Promise) (u v : List Lexeme) → SpellsDemands (d ∷ demands) u
      → SpellsSpecClauses cs v → SpellsCase (case_of (span_of_all (u ++ v)) None None (d ∷ demands) cs) (u ++ v)
  is_promising : (c : Promise) (cs : List Promise) (v : List Lexeme) → SpellsSpecClauses (c ∷ cs) v
      → SpellsCase (case_of (span_of_all v) None None [] (c ∷ cs)) v

-- one at least, with `also` between
pub data SpellsCases : List Case → List Lexeme → Type 0 where
  last_case : (c : Case) (u : List Lexeme) → SpellsCase c u → SpellsCases (c ∷ []) u
  first_case : (c : Case) (s : Span) (cs : List Case) (u v : List Lexeme) → SpellsCase c u → SpellsCases cs v
      → SpellsCases (c ∷ cs) (u ++ word true "also" s ∷ v)

pub data SpellsSpec : Specification → List Lexeme → Type 0 where
  is_first_spec : (cs : List Case) (u : List Lexeme) → SpellsCases cs u → SpellsSpec (specification false cs) u
  is_further_spec : (s : Span) (cs : List Case) (u : List Lexeme) → SpellsCases cs u → SpellsSpec (specification true cs) (word true "also" s ∷ u)
