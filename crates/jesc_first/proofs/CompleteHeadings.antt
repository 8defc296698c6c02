-- The rules read every heading of a method whose names are new.
use Rattle.std.proofs.Common.{◌≡◌, ℕ, true, false, List, [], ◌∷◌, ◌++◌, refl, sym, ap, ◌∙◌, subst, arith, Option, Some, None, codes, append_assoc}
use Rattle.jesc_lexer.specs.declared.token.TokenKind.TheVariants.{Word, Sign}
use Rattle.jesc_ast.specs.Lexemes.{Lexeme}
use Rattle.jesc_first.specs.declared.tree.Sum.{Sum}
use Rattle.jesc_first.specs.Spelling.{Piece, word, sign, parameter_pieces, result_text}
use Rattle.jesc_first.specs.Names.{IsNew, AreNew, is_some_sum}
use Rattle.jesc_first.specs.Parsing.{Texts, expected, begins_with, repeated, more_parameter_in, parameters_in, result_in, Heading, heading_in}
use Rattle.jesc_first.proofs.CompleteBase.{Spans, spans_split, spans_length, spans_heads, expected_next, expected_other, begins_is, Turns, repeated_turns}
use Rattle.jesc_first.proofs.CompleteNames.{new_name_next}

-- the parameters behind the first
abbrev pub more_pieces : List (List ℕ) → List Piece
more_pieces [] = []
more_pieces (name ∷ names) = sign false (codes ",") ∷ word false (codes "int") ∷ word false name ∷ more_pieces names

-- the parameters are the first and those behind it
pub more_is : (name : List ℕ) (names : List (List ℕ)) → parameter_pieces (name ∷ names) ≡ word false (codes "int") ∷ word false name ∷ more_pieces names
more_is name [] = refl
more_is name (next ∷ names) =
    ap (λ (ps : List Piece). word false (codes "int") ∷ word false name ∷ sign false (codes ",") ∷ ps) (more_is next names)

-- nothing is added by no names
append_nothing : (xs : Texts) → xs ++ [] ≡ xs
append_nothing [] = refl
append_nothing (x ∷ xs) = ap (λ (ys : Texts). x ∷ ys) (append_nothing xs)

-- further parameters are read one after another, up to what is no comma
more_read : (names : List (List ℕ)) (scope end : Texts) (ts rest : List Lexeme) → Spans ts (more_pieces names) rest → AreNew scope names → scope ++ names ≡ end
    → expected Sign false (codes ",") rest ≡ None → Turns more_parameter_in scope ts names end rest
more_read [] scope end ts rest h n e stop =
    let same : scope ≡ end = sym (append_nothing scope) ∙ e in
    subst (λ (x : List Lexeme). more_parameter_in scope x ≡ Some ((None, end), rest)) (sym h) (rw stop (ap (λ (x : Texts). Some ((None, x), rest)) same))
more_read (name ∷ names) scope end ts rest h n e stop =
    let more = more_pieces names in
    let a = expected_next Sign false (codes ",") ts (sign false (codes ",")) (word false (codes "int") ∷ word false name ∷ more) rest h refl in
    let b = expected_next Word false (codes "int") a.1 (word false (codes "int")) (word false name ∷ more) rest a.3 refl in
    let c = new_name_next scope b.1 name more rest b.3 n.0 in
    let all = spans_length ts (more_pieces (name ∷ names)) rest h in
    let left = spans_length c.0 more rest c.2 in (
      scope ++ name ∷ [],
      c.0,
      rw (a.2, b.2, c.1) (refl {a = Some ((Some name, scope ++ name ∷ []), c.0)}),
      omega arith,
      more_read names (scope ++ name ∷ []) end c.0 rest c.2 n.1 (append_assoc scope (name ∷ []) names ∙ e) stop,
    )

-- the parameters are read, up to the closing parenthesis
pub parameters_next : (names : List (List ℕ)) (ts : List Lexeme) (ps : List Piece) (rest : List Lexeme)
    → Spans ts (parameter_pieces names ++ (sign false (codes ")") ∷ ps)) rest → AreNew [] names
    → (mid : List Lexeme) × (parameters_in ts ≡ Some ((names, names), mid)) × Spans mid (sign false (codes ")") ∷ ps) rest
parameters_next [] ts ps rest h n =
    let close : begins_with Sign false (codes ")") ts ≡ true =
    begins_is Sign false (codes ")") ts (sign false (codes ")")) (spans_heads ts (sign false (codes ")")) ps rest h) in
    (ts, rw close refl, h)
parameters_next (name ∷ names) ts ps rest h n =
    let int = word false (codes "int") in
    let shape : Spans ts (int ∷ word false name ∷ (more_pieces names ++ (sign false (codes ")") ∷ ps))) rest =
    subst (λ (xs : List Piece). Spans ts (xs ++ (sign false (codes ")") ∷ ps)) rest) (more_is name names) h in
    let open_next : begins_with Sign false (codes ")") ts ≡ false =
    begins_is Sign false (codes ")") ts int (spans_heads ts int (word false name ∷ (more_pieces names ++ (sign false (codes ")") ∷ ps))) rest shape) in
    let a = expected_next Word false (codes "int") ts int (word false name ∷ (more_pieces names ++ (sign false (codes ")") ∷ ps))) rest shape refl in
    let b = new_name_next [] a.1 name (more_pieces names ++ (sign false (codes ")") ∷ ps)) rest a.3 n.0 in
    let c = spans_split b.0 (more_pieces names) (sign false (codes ")") ∷ ps) rest b.2 in
    let stop = expected_other Sign false (codes ",") c.0 (sign false (codes ")")) (spans_heads c.0 (sign false (codes ")")) ps rest c.2) refl in
    let d : repeated more_parameter_in (name ∷ []) b.0 ≡ Some ((names, name ∷ names), c.0) =
    repeated_turns more_parameter_in names (name ∷ []) b.0 (name ∷ names) c.0 (more_read names (name ∷ []) (name ∷ names) b.0 c.0 c.1 n.1 refl stop) in
    (c.0, rw (open_next, a.2, b.1, d) (refl {a = Some ((name ∷ names, name ∷ names), c.0)}), c.2)

-- `int` or `void` is read
result_next : (value : Option Sum) (ts : List Lexeme) (ps : List Piece) (rest : List Lexeme) → Spans ts (word false (result_text value) ∷ ps) rest
    → (mid : List Lexeme) × (result_in ts ≡ Some (is_some_sum value, mid)) × Spans mid ps rest
result_next (Some value) ts ps rest h =
    let a = expected_next Word false (codes "int") ts (word false (codes "int")) ps rest h refl in
    (a.1, rw a.2 refl, a.3)
result_next None ts ps rest h =
    let no = expected_other Word false (codes "int") ts (word false (codes "void")) (spans_heads ts (word false (codes "void")) ps rest h) refl in
    let a = expected_next Word false (codes "void") ts (word false (codes "void")) ps rest h refl in
    (a.1, rw (no, a.2) refl, a.3)

-- what a heading tells
abbrev pub heading_of : Texts → Option Sum → List ℕ → List (List ℕ) → Heading
heading_of names value name parameters =
    record { name = name; returns = is_some_sum value; parameters = parameters; scope = parameters; names = names ++ name ∷ [] }

-- the pieces of a heading and a brace, and then others
abbrev pub heading_before : Option Sum → List ℕ → List (List ℕ) → List Piece → List Piece
heading_before value name parameters ps =
    word false (codes "static") ∷ word false (result_text value) ∷ word false name ∷ sign false (codes "(")
    ∷ (parameter_pieces parameters ++ (sign false (codes ")") ∷ sign false (codes "{") ∷ ps))

-- a heading is read
pub heading_next : (names : Texts) (value : Option Sum) (name : List ℕ) (parameters : List (List ℕ)) (ts : List Lexeme) (ps : List Piece) (rest : List Lexeme)
    → Spans ts (heading_before value name parameters ps) rest → IsNew names name → AreNew [] parameters
    → (mid : List Lexeme) × (heading_in names ts ≡ Some (heading_of names value name parameters, mid)) × Spans mid ps rest
heading_next names value name parameters ts ps rest h n v =
    let behind = sign false (codes ")") ∷ sign false (codes "{") ∷ ps in
    let inner = parameter_pieces parameters ++ behind in
    let a = expected_next Word false (codes "static") ts (word false (codes "static")) (word false (result_text value) ∷ word false name ∷ sign false (codes "(") ∷ inner) rest h refl in
    let b = result_next value a.1 (word false name ∷ sign false (codes "(") ∷ inner) rest a.3 in
    let c = new_name_next names b.0 name (sign false (codes "(") ∷ inner) rest b.2 n in
    let d = expected_next Sign false (codes "(") c.0 (sign false (codes "(")) inner rest c.2 refl in
    let e = parameters_next parameters d.1 (sign false (codes "{") ∷ ps) rest d.3 v in
    let f = expected_next Sign false (codes ")") e.0 (sign false (codes ")")) (sign false (codes "{") ∷ ps) rest e.2 refl in
    let g = expected_next Sign false (codes "{") f.1 (sign false (codes "{")) ps rest f.3 refl in
    (g.1, rw (a.2, b.1, c.1, d.2, e.1, f.2, g.2) (refl {a = Some (heading_of names value name parameters, g.1)}), g.3)
