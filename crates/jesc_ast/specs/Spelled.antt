-- The texts of a tree's tokens in order, each with its side.
use Prim.Native.String.{String}
use Rattle.std.specs.Prelude.{ℕ, Bool, true, false, not, ◌&&◌, if◌then◌else◌, Option, Some, None, List, [], ◌∷◌, ◌++◌, codes, map, bytes_eq}
use Rattle.jesc_ast.specs.declared.word.Word.{Word}
use Rattle.jesc_ast.specs.declared.word.TypeTree.{TypeTree}
use Rattle.jesc_ast.specs.declared.class.ParamTree.{ParamTree}
use Rattle.jesc_ast.specs.Lexemes.{Lexeme}
use Rattle.jesc_ast.specs.Trees.{Expression, number, truth, null, this, outcome, name, paren, member, index, unary, binary, choose, cast, instance_of, call, new_object, new_array, old, fresh, quantifier, Receiver, implied, super, on, Expressions, no_expressions, more_expressions, Clause, Statement, block, local, ghost_local, assign, call_statement, branch, while_loop, for_loop, return, throw, attempt, break, continue, empty, assertion, set_statement, super_call, Body, body, Catch, catch, Statements, no_statements, more_statements, Catches, no_catches, more_catches, OptionalStatement, no_statement, one_statement}
use Rattle.jesc_ast.specs.SpecTrees.{StoreForm, nothing, everything, path, star, element, range, all_elements, Store, Promise, promises, assigns, signals, signals_only, Case, Specification}
use Rattle.jesc_ast.specs.FileTrees.{MemberForm, no_member, field, spec_field, class_invariant, represents, method, constructor_member, Member, Class, SourceUnit}

pub record Spelled : Type 0 where
  pub text : List ℕ
  pub note : Bool

abbrev pub text_of : Lexeme → Spelled
text_of x = record { text = x.text; note = x.note }

abbrev pub texts : List Lexeme → List Spelled
texts = map text_of

abbrev pub fixed : Bool → String → Spelled
fixed note text = record { text = codes text; note = note }

abbrev pub given : Bool → List ℕ → Spelled
given note text = record { text = text; note = note }

abbrev pub spell_word : Word → Spelled
spell_word w = record { text = w.text; note = w.note }

abbrev pub spell_type : Bool → TypeTree → List Spelled
spell_type note t = given note t.base ∷ (if t.array then (fixed note "[" ∷ fixed note "]" ∷ []) else [])

-- ---- expressions

module _ (note : Bool) where
  abbrev mutual
    pub spell : Expression → List Spelled
    spell (number s x) = given note x ∷ []
    spell (truth s b) = (if b then fixed note "true" else fixed note "false") ∷ []
    spell (null s) = fixed note "null" ∷ []
    spell (this s) = fixed note "this" ∷ []
    spell (outcome s) = fixed note "\\result" ∷ []
    spell (name s x) = given note x ∷ []
    spell (paren s e) = fixed note "(" ∷ (spell e ++ fixed note ")" ∷ [])
    spell (member s e dot w) = spell e ++ fixed note "." ∷ spell_word w ∷ []
    spell (index s e bracket i) = spell e ++ fixed note "[" ∷ (spell i ++ fixed note "]" ∷ [])
    spell (unary s op e) = spell_word op ∷ spell e
    spell (binary s op a b) = spell a ++ spell_word op ∷ spell b
    spell (choose s c question a b) = spell c ++ fixed note "?" ∷ (spell a ++ fixed note ":" ∷ spell b)
    spell (cast s t e) = fixed note "(" ∷ (spell_type note t ++ fixed note ")" ∷ spell e)
    spell (instance_of s e t) = spell e ++ fixed note "instanceof" ∷ spell_type note t
    spell (call s r w es) = spell_receiver r ++ spell_word w ∷ fixed note "(" ∷ (spell_arguments es ++ fixed note ")" ∷ [])
    spell (new_object s w es) = fixed note "new" ∷ spell_word w ∷ fixed note "(" ∷ (spell_arguments es ++ fixed note ")" ∷ [])
    spell (new_array s w e) = fixed note "new" ∷ spell_word w ∷ fixed note "[" ∷ (spell e ++ fixed note "]" ∷ [])
    spell (old s e) = fixed note "\\old" ∷ fixed note "(" ∷ (spell e ++ fixed note ")" ∷ [])
    spell (fresh s e) = fixed note "\\fresh" ∷ fixed note "(" ∷ (spell e ++ fixed note ")" ∷ [])
    spell (quantifier s all w low low_strict high high_strict e) =
        fixed note "(" ∷ (if all then fixed note "\\forall" else fixed note "\\exists") ∷ fixed note "int" ∷ spell_word w ∷ fixed note ";"
        ∷ (spell low ++ (if low_strict then fixed note "<" else fixed note "<=") ∷ spell_word w ∷ fixed note "&&" ∷ spell_word w
        ∷ (if high_strict then fixed note "<" else fixed note "<=") ∷ (spell high ++ fixed note ";" ∷ (spell e ++ fixed note ")" ∷ [])))

    pub spell_receiver : Receiver → List Spelled
    spell_receiver implied = []
    spell_receiver super = fixed note "super" ∷ fixed note "." ∷ []
    spell_receiver (on e dot) = spell e ++ fixed note "." ∷ []

    pub spell_arguments : Expressions → List Spelled
    spell_arguments no_expressions = []
    spell_arguments (more_expressions e es) = spell e ++ spell_more es

    -- each behind a comma
    pub spell_more : Expressions → List Spelled
    spell_more no_expressions = []
    spell_more (more_expressions e es) = fixed note "," ∷ (spell e ++ spell_more es)

  abbrev pub spell_option : Option Expression → List Spelled
  spell_option None = []
  spell_option (Some e) = spell e

-- ---- statements

abbrev pub code : String → Spelled
code = fixed false

abbrev pub noted : String → Spelled
noted = fixed true

abbrev pub spell_clauses : List Clause → List Spelled
spell_clauses [] = []
spell_clauses (c ∷ cs) = spell_word c.word ∷ (spell true c.e ++ noted ";" ∷ spell_clauses cs)

-- a local or an assignment without its semicolon, and whatever else is a simple statement
abbrev pub spell_simple : Statement → List Spelled
spell_simple (local s is_final t w equals e) =
    (if is_final then (code "final" ∷ []) else []) ++ (spell_type false t ++ spell_word w ∷ code "=" ∷ spell false e)
spell_simple (assign s target op true e) = spell_word op ∷ spell false target
spell_simple (assign s target op false e) = spell false target ++ spell_word op ∷ spell_option false e
spell_simple (call_statement s e) = spell false e
spell_simple _ = []

abbrev pub spell_head_part : OptionalStatement → List Spelled
spell_head_part no_statement = []
spell_head_part (one_statement s) = spell_simple s

abbrev mutual
  pub spell_statement : Statement → List Spelled
  spell_statement (block s b) = spell_body b
  spell_statement (local s is_final t w equals e) = spell_simple (local s is_final t w equals e) ++ code ";" ∷ []
  spell_statement (ghost_local s t w equals e) =
      noted "ghost" ∷ (spell_type true t ++ spell_word w ∷ noted "=" ∷ (spell true e ++ noted ";" ∷ []))
  spell_statement (assign s target op before e) = spell_simple (assign s target op before e) ++ code ";" ∷ []
  spell_statement (call_statement s e) = spell false e ++ code ";" ∷ []
  spell_statement (branch s test first other) =
      code "if" ∷ code "(" ∷ (spell false test ++ code ")" ∷ (spell_statement first ++ spell_other other))
  spell_statement (while_loop s invariants test turn) =
      spell_clauses invariants ++ code "while" ∷ code "(" ∷ (spell false test ++ code ")" ∷ spell_statement turn)
  spell_statement (for_loop s invariants first test last turn) =
      spell_clauses invariants ++ code "for" ∷ code "(" ∷ (spell_head_part first ++ code ";" ∷ (spell_option false test ++ code ";"
      ∷ (spell_head_part last ++ code ")" ∷ spell_statement turn)))
  spell_statement (return s e) = code "return" ∷ (spell_option false e ++ code ";" ∷ [])
  spell_statement (throw s e) = code "throw" ∷ (spell false e ++ code ";" ∷ [])
  spell_statement (attempt s b cs) = code "try" ∷ (spell_body b ++ spell_catches cs)
  spell_statement (break s) = code "break" ∷ code ";" ∷ []
  spell_statement (continue s) = code "continue" ∷ code ";" ∷ []
  spell_statement (empty s) = code ";" ∷ []
  spell_statement (assertion s e) = noted "assert" ∷ (spell true e ++ noted ";" ∷ [])
  spell_statement (set_statement s target equals e) =
      noted "set" ∷ (spell true target ++ noted "=" ∷ (spell true e ++ noted ";" ∷ []))
  spell_statement (super_call s es) =
      code "super" ∷ code "(" ∷ (spell_arguments false es ++ code ")" ∷ code ";" ∷ [])

  pub spell_other : OptionalStatement → List Spelled
  spell_other no_statement = []
  spell_other (one_statement s) = code "else" ∷ spell_statement s

  pub spell_body : Body → List Spelled
  spell_body (body ss close) = code "{" ∷ (spell_statements ss ++ code "}" ∷ [])

  pub spell_statements : Statements → List Spelled
  spell_statements no_statements = []
  spell_statements (more_statements s ss) = spell_statement s ++ spell_statements ss

  pub spell_catch : Catch → List Spelled
  spell_catch (catch is_final class w b) =
      code "catch" ∷ code "(" ∷ ((if is_final then (code "final" ∷ []) else []) ++ spell_word class ∷ spell_word w ∷ code ")" ∷ spell_body b)

  pub spell_catches : Catches → List Spelled
  spell_catches no_catches = []
  spell_catches (more_catches c cs) = spell_catch c ++ spell_catches cs

-- ---- specifications

abbrev pub spell_optional_word : Option Word → List Spelled
spell_optional_word None = []
spell_optional_word (Some w) = spell_word w ∷ []

-- with this sign between
abbrev pub spell_names : Spelled → List Word → List Spelled
spell_names between [] = []
spell_names between (w ∷ []) = spell_word w ∷ []
spell_names between (w ∷ x ∷ ws) = spell_word w ∷ between ∷ spell_names between (x ∷ ws)

abbrev pub spell_store : StoreForm → List Spelled
spell_store nothing = noted "\\nothing" ∷ []
spell_store everything = noted "\\everything" ∷ []
spell_store (path e) = spell true e
spell_store (star e) = spell true e ++ noted "." ∷ noted "*" ∷ []
spell_store (element e i) = spell true e ++ noted "[" ∷ (spell true i ++ noted "]" ∷ [])
spell_store (range e first last) =
    spell true e ++ noted "[" ∷ (spell true first ++ noted ".." ∷ (spell true last ++ noted "]" ∷ []))
spell_store (all_elements e) = spell true e ++ noted "[" ∷ noted "*" ∷ noted "]" ∷ []

abbrev pub spell_stores : List Store → List Spelled
spell_stores [] = []
spell_stores (t ∷ []) = spell_store t.form
spell_stores (t ∷ r ∷ ts) = spell_store t.form ++ noted "," ∷ spell_stores (r ∷ ts)

abbrev pub spell_spec_clause : Promise → List Spelled
spell_spec_clause (promises c) = spell_word c.word ∷ (spell true c.e ++ noted ";" ∷ [])
spell_spec_clause (assigns w ts) = spell_word w ∷ (spell_stores ts ++ noted ";" ∷ [])
spell_spec_clause (signals w p class n e) =
    spell_word w ∷ noted "(" ∷ spell_word class ∷ (spell_optional_word n ++ noted ")" ∷ (spell_option true e ++ noted ";" ∷ []))
spell_spec_clause (signals_only s []) = noted "signals_only" ∷ noted "\\nothing" ∷ noted ";" ∷ []
spell_spec_clause (signals_only s (w ∷ ws)) = noted "signals_only" ∷ (spell_names (noted ",") (w ∷ ws) ++ noted ";" ∷ [])

abbrev pub spell_spec_clauses : List Promise → List Spelled
spell_spec_clauses [] = []
spell_spec_clauses (c ∷ cs) = spell_spec_clause c ++ spell_spec_clauses cs

abbrev pub spell_case : Case → List Spelled
spell_case c = spell_optional_word c.visibility ++ (spell_optional_word c.heading ++ (spell_clauses c.demands ++ spell_spec_clauses c.promises))

abbrev pub spell_cases : List Case → List Spelled
spell_cases [] = []
spell_cases (c ∷ []) = spell_case c
spell_cases (c ∷ d ∷ cs) = spell_case c ++ noted "also" ∷ spell_cases (d ∷ cs)

abbrev pub spell_spec : Specification → List Spelled
spell_spec t = (if t.also then (noted "also" ∷ []) else []) ++ spell_cases t.cases

abbrev pub spell_optional_spec : Option Specification → List Spelled
spell_optional_spec None = []
spell_optional_spec (Some t) = spell_spec t

-- ---- members, classes and files

abbrev pub spell_words : List Word → List Spelled
spell_words = map spell_word

abbrev pub spell_value : Bool → Option Expression → List Spelled
spell_value note None = []
spell_value note (Some e) = fixed note "=" ∷ spell note e

abbrev pub spell_groups : List Word → List Spelled
spell_groups [] = []
spell_groups (w ∷ ws) = noted "in" ∷ (spell_names (noted ",") (w ∷ ws) ++ noted ";" ∷ [])

-- names behind a word, or nothing
abbrev pub spell_names_after : String → List Word → List Spelled
spell_names_after text [] = []
spell_names_after text (w ∷ ws) = code text ∷ spell_names (code ",") (w ∷ ws)

abbrev pub spell_param : ParamTree → List Spelled
spell_param t = spell_words t.modifiers ++ (spell_type false t.ty ++ spell_word t.name ∷ [])

abbrev pub spell_params : List ParamTree → List Spelled
spell_params [] = []
spell_params (t ∷ []) = spell_param t
spell_params (t ∷ r ∷ ts) = spell_param t ++ code "," ∷ spell_params (r ∷ ts)

abbrev pub spell_result : Option TypeTree → List Spelled
spell_result None = code "void" ∷ []
spell_result (Some t) = spell_type false t

abbrev pub spell_method_body : Option Body → List Spelled
spell_method_body None = code ";" ∷ []
spell_method_body (Some b) = spell_body b

-- `Override` in code is written with its sign
abbrev pub spell_modifier : Word → List Spelled
spell_modifier w = if not w.note && bytes_eq w.text (codes "Override") then (code "@" ∷ spell_word w ∷ []) else (spell_word w ∷ [])

abbrev pub spell_modifiers : List Word → List Spelled
spell_modifiers [] = []
spell_modifiers (w ∷ ws) = spell_modifier w ++ spell_modifiers ws

abbrev pub spell_member : MemberForm → List Spelled
spell_member no_member = code ";" ∷ []
spell_member (field ws ty w equals value groups) =
    spell_modifiers ws ++ (spell_type false ty ++ spell_word w ∷ (spell_value false value ++ code ";" ∷ spell_groups groups))
spell_member (spec_field ws ty w equals value groups) =
    spell_words ws ++ (spell_type true ty ++ spell_word w ∷ (spell_value true value ++ noted ";" ∷ spell_groups groups))
spell_member (class_invariant ws e) = spell_words ws ++ noted "invariant" ∷ (spell true e ++ noted ";" ∷ [])
spell_member (represents visibility w op e) =
    spell_optional_word visibility ++ noted "represents" ∷ spell_word w ∷ spell_word op ∷ (spell true e ++ noted ";" ∷ [])
spell_member (method spec ws result w params throws b) =
    spell_optional_spec spec ++ (spell_modifiers ws ++ (spell_result result ++ spell_word w ∷ code "(" ∷ (spell_params params ++ code ")"
    ∷ (spell_names_after "throws" throws ++ spell_method_body b))))
spell_member (constructor_member spec ws w params throws b) =
    spell_optional_spec spec ++ (spell_modifiers ws ++ spell_word w ∷ code "(" ∷ (spell_params params ++ code ")"
    ∷ (spell_names_after "throws" throws ++ spell_body b)))

abbrev pub spell_members : List Member → List Spelled
spell_members [] = []
spell_members (m ∷ ms) = spell_member m.form ++ spell_members ms

abbrev pub spell_class : Class → List Spelled
spell_class c =
    spell_modifiers c.modifiers ++ (if c.is_interface then code "interface" else code "class") ∷ spell_word c.name
    ∷ (spell_names_after "extends" c.extends ++ (spell_names_after "implements" c.implements ++ code "{" ∷ (spell_members c.members ++ code "}" ∷ [])))

abbrev pub spell_classes : List Class → List Spelled
spell_classes [] = []
spell_classes (c ∷ cs) = spell_class c ++ spell_classes cs

abbrev pub spell_package : List Word → List Spelled
spell_package [] = []
spell_package (w ∷ ws) = code "package" ∷ (spell_names (code ".") (w ∷ ws) ++ code ";" ∷ [])

abbrev pub spell_file : SourceUnit → List Spelled
spell_file f = spell_package f.in_package ++ spell_classes f.classes
