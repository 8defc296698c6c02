-- The parser is complete: the lexemes of classes that keep the rules on names are read as those classes.
use Rattle.std.proofs.Common.{◌≡◌, ℕ, ◌<◌, Bool, true, false, ◌&&◌, List, [], ◌∷◌, ◌++◌, length, map, refl, sym, ap, ◌∙◌, subst, arith, All, Some, None, codes, append_assoc}
use Rattle.std.specs.Str.{bytes_eq}
use Rattle.std.proofs.lemmas.List.Elements.{All-head}
use Rattle.jesc_lexer.specs.declared.token.TokenKind.TheVariants.{Word, Sign}
use Rattle.jesc_ast.specs.Lexemes.{Lexeme}
use Rattle.jesc_first.specs.declared.tree.Part.{Part}
use Rattle.jesc_first.specs.declared.tree.Part.TheVariants.{Number, Slot, Outcome}
use Rattle.jesc_first.specs.declared.tree.Operation.{Operation}
use Rattle.jesc_first.specs.declared.tree.Sum.{Sum}
use Rattle.jesc_first.specs.declared.tree.Condition.{Condition}
use Rattle.jesc_first.specs.declared.tree.Clause.{Clause}
use Rattle.jesc_first.specs.declared.tree.Method.{Method}
use Rattle.jesc_first.specs.declared.tree.Class.{Class}
use Rattle.jesc_first.specs.Spelling.{Piece, word, sign, part_piece, operation_pieces, sum_pieces, comparison_text, condition_pieces, requires_pieces, placed, ensures_pieces, parameter_pieces, result_text, scope_at_end, body_pieces, end_pieces, method_pieces, methods_pieces, class_pieces, classes_pieces}
use Rattle.jesc_first.specs.Names.{IsMethod, IsClass, IsNew, AreNew, is_some_sum}
use Rattle.jesc_first.specs.Accepted.{Accepted, names_of}
use Rattle.jesc_first.specs.Parsing.{Texts, is_token, same_kind, same_side, begins_with, from_static, clauses_in, statements_in, end_in, method_in, next_method_in, methods_in, class_in, next_class_in, classes_in, parsed}
use Rattle.jesc_first.proofs.CompleteBase.{Spans, Heads, match_spans, spans_split, spans_length, spans_heads, fits_is, begins_is, expected_next, Turns, repeated_turns}
use Rattle.jesc_first.proofs.CompleteNames.{IsScope, no_scope, scope_all, all_tail, new_name_next}
use Rattle.jesc_first.proofs.CompleteClauses.{length_behind, clauses_read}
use Rattle.jesc_first.proofs.CompleteHeadings.{heading_before, heading_next}
use Rattle.jesc_first.proofs.CompleteBodies.{scope_ends, statements_read, end_read}

-- all pieces stand in annotations
abbrev Noted : List Piece → Type 0
Noted [] = Unit {0}
Noted (p ∷ ps) = (p.note ≡ true) × Noted ps

-- pieces one after another stand in annotations
noted_append : (ps qs : List Piece) → Noted ps → Noted qs → Noted (ps ++ qs)
noted_append [] qs h k = k
noted_append (p ∷ ps) qs h k = (h.0, noted_append ps qs h.1 k)

-- a part of an annotation stands in it
part_noted : (scope : Texts) (part : Part) → (part_piece true scope part).note ≡ true
part_noted scope (Number n) = refl
part_noted scope (Slot i) = refl
part_noted scope Outcome = refl

-- operations of an annotation stand in it
operations_noted : (scope : Texts) (operations : List Operation) → Noted (operation_pieces true scope operations)
operations_noted scope [] = tt
operations_noted scope (o ∷ os) = (refl, (part_noted scope o.part, operations_noted scope os))

-- a sum of an annotation stands in it
sum_noted : (scope : Texts) (sum : Sum) → Noted (sum_pieces true scope sum)
sum_noted scope sum = (part_noted scope sum.first, operations_noted scope sum.rest)

-- a condition stands in an annotation
condition_noted : (scope : Texts) (c : Condition) → Noted (condition_pieces scope c)
condition_noted scope c = noted_append (sum_pieces true scope c.left) (sign true (comparison_text c.comparison) ∷ sum_pieces true scope c.right) (sum_noted scope c.left) (refl, sum_noted scope c.right)

-- an offset leaves the pieces where they stand
placed_noted : (at : ℕ) (ps : List Piece) → Noted ps → Noted (placed at ps)
placed_noted at [] h = tt
placed_noted at (p ∷ ps) h = (h.0, h.1)

-- demands stand in annotations
requires_noted : (scope : Texts) (demands : List Condition) → Noted (requires_pieces scope demands)
requires_noted scope [] = tt
requires_noted scope (c ∷ cs) = (refl, noted_append (condition_pieces scope c) (sign true (codes ";") ∷ requires_pieces scope cs) (condition_noted scope c) (refl, requires_noted scope cs))

-- promises stand in annotations
ensures_noted : (scope : Texts) (promises : List Clause) → Noted (ensures_pieces scope promises)
ensures_noted scope [] = tt
ensures_noted scope (c ∷ cs) = (
  refl,
  noted_append (placed c.at (condition_pieces scope c.condition)) (sign true (codes ";") ∷ ensures_pieces scope cs)
      (placed_noted c.at (condition_pieces scope c.condition) (condition_noted scope c.condition)) (refl, ensures_noted scope cs),
)

-- no token is on both sides
never : (a b : Bool) → (a && same_side true false && b) ≡ false
never true b = refl
never false b = refl

-- tokens in annotations are passed over
static_behind : (ps : List Piece) (ts rest : List Lexeme) → Spans ts ps rest → Noted ps → from_static ts ≡ from_static rest
static_behind [] ts rest h n = ap from_static h
static_behind (p ∷ ps) [] rest h n = absurd h
static_behind (p ∷ ps) (t ∷ ts) rest h n =
    let no : is_token Word false (codes "static") t ≡ false =
    fits_is Word false (codes "static") t p h.0
    ∙ ap (λ (b : Bool). same_kind p.kind Word && same_side b false && bytes_eq p.text (codes "static")) n.0
    ∙ never (same_kind p.kind Word) (bytes_eq p.text (codes "static")) in
    rw no (static_behind ps ts rest h.1 n.1)

-- the word `static` is found where it comes next
static_here : (ts : List Lexeme) → Heads ts (word false (codes "static")) → from_static ts ≡ ts
static_here [] h = absurd h
static_here (t ∷ ts) h =
    let yes : is_token Word false (codes "static") t ≡ true = fits_is Word false (codes "static") t (word false (codes "static")) h in rw yes refl

-- the pieces of a method behind the word `static`
abbrev pub behind_static : Method → List Piece
behind_static m =
    word false (result_text m.value) ∷ word false m.name ∷ sign false (codes "(")
    ∷ (parameter_pieces m.parameters ++ (sign false (codes ")") ∷ sign false (codes "{") ∷ (body_pieces m.parameters m.body ++ end_pieces (scope_at_end m.parameters m.body) m.exit m.value)))

-- the order of lists is the same however they are put together
regroup : (a b c d : List Piece) (x y : Piece) (f g : List Piece) → (((a ++ b) ++ ((c ++ d) ++ x ∷ [])) ++ (y ∷ f)) ++ g ≡ a ++ (b ++ (c ++ (d ++ (x ∷ y ∷ (f ++ g)))))
regroup a b c d x y f g = simp append_assoc

-- the pieces of a method are its clauses, and then its heading and body
pub method_shape : (m : Method) → method_pieces m ≡ requires_pieces m.parameters m.demands ++ (ensures_pieces m.parameters m.promises ++ (word false (codes "static") ∷ behind_static m))
method_shape m = regroup (requires_pieces m.parameters m.demands) (ensures_pieces m.parameters m.promises)
    (word false (codes "static") ∷ word false (result_text m.value) ∷ word false m.name ∷ sign false (codes "(") ∷ [])
    (parameter_pieces m.parameters) (sign false (codes ")")) (sign false (codes "{")) (body_pieces m.parameters m.body)
    (end_pieces (scope_at_end m.parameters m.body) m.exit m.value)

-- a method is read
method_read : (names : Texts) (m : Method) (ts rest : List Lexeme) → Spans ts (method_pieces m) rest → IsMethod m → IsNew names m.name
    → method_in names ts ≡ Some ((m, names ++ m.name ∷ []), rest)
method_read names m ts rest h v n =
    let end = scope_at_end m.parameters m.body in
    let behind = body_pieces m.parameters m.body ++ end_pieces end m.exit m.value in
    let heading = heading_before m.value m.name m.parameters behind in
    let shaped : Spans ts (requires_pieces m.parameters m.demands ++ (ensures_pieces m.parameters m.promises ++ heading)) rest =
    subst (λ (ps : List Piece). Spans ts ps rest) (method_shape m) h in
    let a = spans_split ts (requires_pieces m.parameters m.demands) (ensures_pieces m.parameters m.promises ++ heading) rest shaped in
    let b = spans_split a.0 (ensures_pieces m.parameters m.promises) heading rest a.2 in
    let c = heading_next names m.value m.name m.parameters b.0 behind rest b.2 n v.parameters in
    let d = spans_split c.0 (body_pieces m.parameters m.body) (end_pieces end m.exit m.value) rest c.2 in
    let s : IsScope m.parameters = scope_all [] m.parameters no_scope v.parameters in
    let heads : Heads b.0 (word false (codes "static")) = static_heads b.0 b.2 in
    let static : from_static ts ≡ b.0 =
    static_behind (requires_pieces m.parameters m.demands) ts a.0 a.1 (requires_noted m.parameters m.demands)
    ∙ static_behind (ensures_pieces m.parameters m.promises) a.0 b.0 b.1 (ensures_noted m.parameters m.promises)
    ∙ static_here b.0 heads in
    let clauses : clauses_in (is_some_sum m.value) m.parameters ts (length b.0) ≡ Some ((m.demands, m.promises), b.0) =
    clauses_read (is_some_sum m.value) m.parameters m.demands m.promises ts a.0 b.0 a.1 b.1 v.demands v.promises s heads in
    let body : statements_in m.parameters c.0 ≡ Some ((m.body, end), d.0) =
    statements_read m.parameters m.body m.exit m.value c.0 d.0 rest d.1 d.2 v.body s in
    let last : end_in (is_some_sum m.value) end d.0 ≡ Some ((m.value, m.exit), rest) =
    end_read end m.exit m.value d.0 rest d.2 v.value (scope_ends m.parameters m.body v.body s) in
    rw (static, c.1, clauses, body, last) refl
  where
    static_heads : (us : List Lexeme) → Spans us (heading_before m.value m.name m.parameters (body_pieces m.parameters m.body ++ end_pieces (scope_at_end m.parameters m.body) m.exit m.value)) rest
        → Heads us (word false (codes "static"))
    static_heads [] k = absurd k
    static_heads (u ∷ us) k = k.0

-- a method begins with no closing brace
no_brace : (scope : Texts) (demands : List Condition) (promises : List Clause) (qs : List Piece) (ts rest : List Lexeme)
    → Spans ts (requires_pieces scope demands ++ (ensures_pieces scope promises ++ (word false (codes "static") ∷ qs))) rest → begins_with Sign false (codes "}") ts ≡ false
no_brace scope demands promises qs [] rest h = refl
no_brace scope [] [] qs (t ∷ ts) rest h = fits_is Sign false (codes "}") t (word false (codes "static")) h.0
no_brace scope [] (c ∷ cs) qs (t ∷ ts) rest h = fits_is Sign false (codes "}") t (word true (codes "ensures")) h.0
no_brace scope (d ∷ ds) promises qs (t ∷ ts) rest h = fits_is Sign false (codes "}") t (word true (codes "requires")) h.0

-- lists with a piece between them have one at least
some_pieces : (ps qs : List Piece) (q : Piece) (more : List Piece) → 0 < length (ps ++ (qs ++ (q ∷ more)))
some_pieces ps qs q more =
    let a = length_behind ps (qs ++ (q ∷ more)) in
    let b = length_behind qs (q ∷ more) in
    omega arith

-- nothing is added by no names
append_nothing : (xs : Texts) → xs ++ [] ≡ xs
append_nothing [] = refl
append_nothing (x ∷ xs) = ap (λ (ys : Texts). x ∷ ys) (append_nothing xs)

-- methods are read one after another, up to the closing brace
methods_turns : (methods : List Method) (names end : Texts) (ts rest : List Lexeme) → Spans ts (methods_pieces methods) rest → All IsMethod methods
    → AreNew names (map (λ method. method.name) methods) → names ++ map (λ method. method.name) methods ≡ end → Heads rest (sign false (codes "}"))
    → Turns next_method_in names ts methods end rest
methods_turns [] names end ts rest h v n e stop =
    let brace : begins_with Sign false (codes "}") rest ≡ true = begins_is Sign false (codes "}") rest (sign false (codes "}")) stop in
    let same : names ≡ end = sym (append_nothing names) ∙ e in
    subst (λ (x : List Lexeme). next_method_in names x ≡ Some ((None, end), rest)) (sym h) (rw brace (ap (λ (x : Texts). Some ((None, x), rest)) same))
methods_turns (m ∷ ms) names end ts rest h v n e stop =
    let k = spans_split ts (method_pieces m) (methods_pieces ms) rest h in
    let brace : begins_with Sign false (codes "}") ts ≡ false = no_brace m.parameters m.demands m.promises (behind_static m) ts k.0 (subst (λ (ps : List Piece). Spans ts ps k.0) (method_shape m) k.1) in
    let read : method_in names ts ≡ Some ((m, names ++ m.name ∷ []), k.0) = method_read names m ts k.0 k.1 (All-head IsMethod m ms v) n.0 in
    let taken = spans_length ts (method_pieces m) k.0 k.1 in
    let some : 0 < length (method_pieces m) =
    subst (λ (ps : List Piece). 0 < length ps) (sym (method_shape m))
    (some_pieces (requires_pieces m.parameters m.demands) (ensures_pieces m.parameters m.promises) (word false (codes "static")) (behind_static m)) in (
      names ++ m.name ∷ [],
      k.0,
      rw (brace, read) refl,
      omega arith,
      methods_turns ms (names ++ m.name ∷ []) end k.0 rest k.2 (all_tail IsMethod m ms v) n.1 (append_assoc names (m.name ∷ []) (map (λ method. method.name) ms) ∙ e) stop,
    )

-- a class is read
class_read : (names : Texts) (class : Class) (ts rest : List Lexeme) → Spans ts (class_pieces class) rest → IsClass class → IsNew names class.name
    → class_in names ts ≡ Some ((class, names ++ class.name ∷ []), rest)
class_read names class ts rest h v n =
    let brace = sign false (codes "}") in
    let inner = methods_pieces class.methods ++ (brace ∷ []) in
    let a = expected_next Word false (codes "class") ts (word false (codes "class")) (word false class.name ∷ sign false (codes "{") ∷ inner) rest h refl in
    let b = new_name_next names a.1 class.name (sign false (codes "{") ∷ inner) rest a.3 n in
    let c = expected_next Sign false (codes "{") b.0 (sign false (codes "{")) inner rest b.2 refl in
    let d = spans_split c.1 (methods_pieces class.methods) (brace ∷ []) rest c.3 in
    let end : Texts = map (λ method. method.name) class.methods in
    let methods : methods_in c.1 ≡ Some ((class.methods, end), d.0) =
    repeated_turns next_method_in class.methods [] c.1 end d.0
    (methods_turns class.methods [] end c.1 d.0 d.1 v.methods v.distinct refl (spans_heads d.0 brace [] rest d.2)) in
    let f = expected_next Sign false (codes "}") d.0 brace [] rest d.2 refl in
    rw (a.2, b.1, c.2, methods, f.2) (ap (λ (x : List Lexeme). Some ((class, names ++ class.name ∷ []), x)) {x = f.1} f.3)

-- classes are read one after another, up to the end
classes_turns : (classes : List Class) (names end : Texts) (ts : List Lexeme) → Spans ts (classes_pieces classes) [] → All IsClass classes
    → AreNew names (names_of classes) → names ++ names_of classes ≡ end → Turns next_class_in names ts classes end []
classes_turns [] names end ts h v n e =
    let same : names ≡ end = sym (append_nothing names) ∙ e in
    subst (λ (x : List Lexeme). next_class_in names x ≡ Some ((None, end), [])) (sym h) (ap (λ (x : Texts). Some ((None, x), [])) same)
classes_turns (c ∷ cs) names end ts h v n e =
    let behind = word false c.name ∷ sign false (codes "{") ∷ (methods_pieces c.methods ++ sign false (codes "}") ∷ []) in
    let k = spans_split ts (class_pieces c) (classes_pieces cs) [] h in
    let begins : begins_with Word false (codes "class") ts ≡ true =
    begins_is Word false (codes "class") ts (word false (codes "class")) (spans_heads ts (word false (codes "class")) behind k.0 k.1) in
    let read : class_in names ts ≡ Some ((c, names ++ c.name ∷ []), k.0) = class_read names c ts k.0 k.1 (All-head IsClass c cs v) n.0 in
    let taken = spans_length ts (class_pieces c) k.0 k.1 in (
      names ++ c.name ∷ [],
      k.0,
      rw (begins, read) refl,
      omega arith,
      classes_turns cs (names ++ c.name ∷ []) end k.0 k.2 (all_tail IsClass c cs v) n.1 (append_assoc names (c.name ∷ []) (names_of cs) ∙ e),
    )

-- the lexemes of classes are read as those classes
pub parsed_complete : (names : Texts) (lexemes : List Lexeme) (classes : List Class) → Accepted names lexemes classes
    → parsed names lexemes ≡ Some (classes, names ++ names_of classes)
parsed_complete names lexemes classes accepted =
    let spans = match_spans lexemes (classes_pieces classes) accepted.matched in
    let end = names ++ names_of classes in
    let read : classes_in names lexemes ≡ Some ((classes, end), []) =
    repeated_turns next_class_in classes names lexemes end [] (classes_turns classes names end lexemes spans accepted.named accepted.distinct refl) in
    rw read refl
