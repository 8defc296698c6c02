-- The recognizer takes every heading whose names are new.
use Rattle.std.proofs.Common.{◌≡◌, ℕ, Bool, true, false, List, [], ◌∷◌, ◌++◌, refl, sym, ap, ◌∙◌, subst, append_assoc, Option, Some, None, codes}
use Rattle.jesc_lexer.specs.declared.token.TokenKind.TheVariants.{Word, Sign}
use Rattle.jesc_ast.specs.Lexemes.{Lexeme}
use Rattle.jesc_first.specs.declared.tree.Sum.{Sum}
use Rattle.jesc_first.specs.declared.reader.phase.Phase.TheVariants.{Promises, Result, MethodName, Opening, FirstParameter, Parameter, ParameterName, NextParameter, BodyBrace, Statement}
use Rattle.jesc_first.specs.Spelling.{Piece, Fits, word, sign, parameter_pieces, result_text}
use Rattle.jesc_first.specs.Names.{IsNew, AreNew, is_some_sum}
use Rattle.jesc_first.specs.Parsing.{Texts}
use Rattle.jesc_first.specs.Recognizing.{is_word, is_sign, is_new, put, step, run}
use Rattle.jesc_first.proofs.CompleteBase.{Spans, spans_split, fits_is}
use Rattle.jesc_first.proofs.CompleteHeadings.{more_pieces, more_is, heading_before}
use Rattle.jesc_first.proofs.RunBase.{here, takes, new_fits}

append_nothing : (xs : Texts) → xs ++ [] ≡ xs
append_nothing [] = refl
append_nothing (x ∷ xs) = ap (λ (ys : Texts). x ∷ ys) (append_nothing xs)

module _ (classes methods : Texts) (returns told : Bool) where
  -- ---- parameters

  name_step : (scope : Texts) (name : List ℕ) (x : Lexeme) → IsNew scope name → Fits x (word false name)
      → step (here classes methods scope returns ParameterName told) x ≡ Some (here classes methods (scope ++ name ∷ []) returns NextParameter told)
  name_step scope name x n f =
      let new : is_new scope x ≡ true = (new_fits scope name x n f).0 in
      let grown : put scope x.text ≡ scope ++ name ∷ [] = (new_fits scope name x n f).1 in
      rw (new, grown) refl

  comma_step : (scope : Texts) (x : Lexeme) → Fits x (sign false (codes ",")) → step (here classes methods scope returns NextParameter told) x ≡ Some (here classes methods scope returns Parameter told)
  comma_step scope x f = let q : is_sign false (codes ",") x ≡ true = fits_is Sign false (codes ",") x (sign false (codes ",")) f in rw q refl

  int_step : (scope : Texts) (x : Lexeme) → Fits x (word false (codes "int")) → step (here classes methods scope returns Parameter told) x ≡ Some (here classes methods scope returns ParameterName told)
  int_step scope x f = let q : is_word false (codes "int") x ≡ true = fits_is Word false (codes "int") x (word false (codes "int")) f in rw q refl

  first_step : (x : Lexeme) → Fits x (word false (codes "int")) → step (here classes methods [] returns FirstParameter told) x ≡ Some (here classes methods [] returns ParameterName told)
  first_step x f =
      let none : is_sign false (codes ")") x ≡ false = fits_is Sign false (codes ")") x (word false (codes "int")) f in
      let q : is_word false (codes "int") x ≡ true = fits_is Word false (codes "int") x (word false (codes "int")) f in
      rw (none, q) refl

  none_step : (x : Lexeme) → Fits x (sign false (codes ")")) → step (here classes methods [] returns FirstParameter told) x ≡ Some (here classes methods [] returns BodyBrace told)
  none_step x f = let q : is_sign false (codes ")") x ≡ true = fits_is Sign false (codes ")") x (sign false (codes ")")) f in rw q refl

  close_step : (scope : Texts) (x : Lexeme) → Fits x (sign false (codes ")")) → step (here classes methods scope returns NextParameter told) x ≡ Some (here classes methods scope returns BodyBrace told)
  close_step scope x f =
      let none : is_sign false (codes ",") x ≡ false = fits_is Sign false (codes ",") x (sign false (codes ")")) f in
      let q : is_sign false (codes ")") x ≡ true = fits_is Sign false (codes ")") x (sign false (codes ")")) f in
      rw (none, q) refl

  further_run : (names scope : Texts) (ts rest : List Lexeme) → Spans ts (more_pieces names) rest → AreNew scope names
      → run (here classes methods scope returns NextParameter told) ts ≡ run (here classes methods (scope ++ names) returns NextParameter told) rest
  further_run [] scope ts rest h n =
      ap (run (here classes methods scope returns NextParameter told)) h ∙ ap (λ (all : Texts). run (here classes methods all returns NextParameter told) rest) (sym (append_nothing scope))
  further_run (name ∷ names) scope ts rest h n =
      let next = here classes methods scope returns NextParameter told in
      let before = here classes methods scope returns Parameter told in
      let named = here classes methods scope returns ParameterName told in
      let grown = here classes methods (scope ++ name ∷ []) returns NextParameter told in
      let a = takes next before ts (sign false (codes ",")) (word false (codes "int") ∷ word false name ∷ more_pieces names) rest h (comma_step scope) in
      let b = takes before named a.0 (word false (codes "int")) (word false name ∷ more_pieces names) rest a.2 (int_step scope) in
      let c = takes named grown b.0 (word false name) (more_pieces names) rest b.2 (λ x. name_step scope name x n.0) in
      a.1 ∙ b.1 ∙ c.1 ∙ further_run names (scope ++ name ∷ []) c.0 rest c.2 n.1
      ∙ ap (λ (all : Texts). run (here classes methods all returns NextParameter told) rest) (append_assoc scope (name ∷ []) names)

  pub parameters_run : (names : Texts) (ts : List Lexeme) (ps : List Piece) (rest : List Lexeme) → Spans ts (parameter_pieces names ++ (sign false (codes ")") ∷ ps)) rest → AreNew [] names
      → (mid : List Lexeme) × (run (here classes methods [] returns FirstParameter told) ts ≡ run (here classes methods names returns BodyBrace told) mid) × Spans mid ps rest
  parameters_run [] ts ps rest h n =
      takes (here classes methods [] returns FirstParameter told) (here classes methods [] returns BodyBrace told) ts (sign false (codes ")")) ps rest h none_step
  parameters_run (name ∷ names) ts ps rest h n =
      let int = word false (codes "int") in
      let close = sign false (codes ")") in
      let shape : Spans ts (int ∷ word false name ∷ (more_pieces names ++ (close ∷ ps))) rest =
      subst (λ (xs : List Piece). Spans ts (xs ++ (close ∷ ps)) rest) (more_is name names) h in
      let first = here classes methods [] returns FirstParameter told in
      let named = here classes methods [] returns ParameterName told in
      let grown = here classes methods (name ∷ []) returns NextParameter told in
      let all = here classes methods (name ∷ names) returns NextParameter told in
      let a = takes first named ts int (word false name ∷ (more_pieces names ++ (close ∷ ps))) rest shape first_step in
      let b = takes named grown a.0 (word false name) (more_pieces names ++ (close ∷ ps)) rest a.2 (λ x. name_step [] name x n.0) in
      let c = spans_split b.0 (more_pieces names) (close ∷ ps) rest b.2 in
      let d = takes all (here classes methods (name ∷ names) returns BodyBrace told) c.0 close ps rest c.2 (close_step (name ∷ names)) in
      (d.0, a.1 ∙ b.1 ∙ further_run names (name ∷ []) b.0 c.0 c.1 n.1 ∙ d.1, d.2)

-- ---- headings

module _ (classes methods scope : Texts) (returns : Bool) where
  static_step : (told : Bool) (x : Lexeme) → Fits x (word false (codes "static")) → step (here classes methods scope returns Promises told) x ≡ Some (here classes methods scope returns Result told)
  static_step told x f =
      let none : is_word true (codes "ensures") x ≡ false = fits_is Word true (codes "ensures") x (word false (codes "static")) f in
      let q : is_word false (codes "static") x ≡ true = fits_is Word false (codes "static") x (word false (codes "static")) f in
      rw (none, q) refl

  -- `void` is taken where nothing was told of `\result`
  result_step : (value : Option Sum) (told : Bool) (x : Lexeme) → (is_some_sum value ≡ false → told ≡ false) → Fits x (word false (result_text value))
      → step (here classes methods scope returns Result told) x ≡ Some (here classes methods scope (is_some_sum value) MethodName false)
  result_step (Some value) told x n f = let q : is_word false (codes "int") x ≡ true = fits_is Word false (codes "int") x (word false (codes "int")) f in rw q refl
  result_step None true x n f = absurd (let e : true ≡ false = n refl in cc)
  result_step None false x n f =
      let none : is_word false (codes "int") x ≡ false = fits_is Word false (codes "int") x (word false (codes "void")) f in
      let q : is_word false (codes "void") x ≡ true = fits_is Word false (codes "void") x (word false (codes "void")) f in
      rw (none, q) refl

  method_step : (name : List ℕ) (told : Bool) (x : Lexeme) → IsNew methods name → Fits x (word false name)
      → step (here classes methods scope returns MethodName told) x ≡ Some (here classes (methods ++ name ∷ []) [] returns Opening told)
  method_step name told x n f =
      let new : is_new methods x ≡ true = (new_fits methods name x n f).0 in
      let grown : put methods x.text ≡ methods ++ name ∷ [] = (new_fits methods name x n f).1 in
      rw (new, grown) refl

open_step : (classes methods : Texts) (returns told : Bool) (x : Lexeme) → Fits x (sign false (codes "("))
    → step (here classes methods [] returns Opening told) x ≡ Some (here classes methods [] returns FirstParameter told)
open_step classes methods returns told x f = let q : is_sign false (codes "(") x ≡ true = fits_is Sign false (codes "(") x (sign false (codes "(")) f in rw q refl

brace_step : (classes methods scope : Texts) (returns told : Bool) (x : Lexeme) → Fits x (sign false (codes "{"))
    → step (here classes methods scope returns BodyBrace told) x ≡ Some (here classes methods scope returns Statement told)
brace_step classes methods scope returns told x f = let q : is_sign false (codes "{") x ≡ true = fits_is Sign false (codes "{") x (sign false (codes "{")) f in rw q refl

pub heading_run : (classes methods scope : Texts) (returns told : Bool) (value : Option Sum) (name : List ℕ) (parameters : Texts) (ts : List Lexeme) (ps : List Piece) (rest : List Lexeme)
    → Spans ts (heading_before value name parameters ps) rest → (is_some_sum value ≡ false → told ≡ false) → IsNew methods name → AreNew [] parameters
    → (mid : List Lexeme) × (run (here classes methods scope returns Promises told) ts ≡ run (here classes (methods ++ name ∷ []) parameters (is_some_sum value) Statement false) mid) × Spans mid ps rest
heading_run classes methods scope returns told value name parameters ts ps rest h t n v =
    let returned = is_some_sum value in
    let grown = methods ++ name ∷ [] in
    let inner = parameter_pieces parameters ++ (sign false (codes ")") ∷ sign false (codes "{") ∷ ps) in
    let a = takes (here classes methods scope returns Promises told) (here classes methods scope returns Result told) ts (word false (codes "static"))
    (word false (result_text value) ∷ word false name ∷ sign false (codes "(") ∷ inner) rest h (static_step classes methods scope returns told) in
    let b = takes (here classes methods scope returns Result told) (here classes methods scope returned MethodName false) a.0 (word false (result_text value))
    (word false name ∷ sign false (codes "(") ∷ inner) rest a.2 (λ x. result_step classes methods scope returns value told x t) in
    let c = takes (here classes methods scope returned MethodName false) (here classes grown [] returned Opening false) b.0 (word false name) (sign false (codes "(") ∷ inner) rest b.2
    (λ x. method_step classes methods scope returned name false x n) in
    let d = takes (here classes grown [] returned Opening false) (here classes grown [] returned FirstParameter false) c.0 (sign false (codes "(")) inner rest c.2 (open_step classes grown returned false) in
    let e = parameters_run classes grown returned false parameters d.0 (sign false (codes "{") ∷ ps) rest d.2 v in
    let f = takes (here classes grown parameters returned BodyBrace false) (here classes grown parameters returned Statement false) e.0 (sign false (codes "{")) ps rest e.2
    (brace_step classes grown parameters returned false) in
    (f.0, a.1 ∙ b.1 ∙ c.1 ∙ d.1 ∙ e.1 ∙ f.1, f.2)
