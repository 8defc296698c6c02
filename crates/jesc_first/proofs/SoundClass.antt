-- The parser is sound: what it answers are the classes that the lexemes spell, and their names keep the rules.
use Rattle.std.proofs.Common.{◌≡◌, ℕ, Bool, false, List, [], ◌∷◌, ◌++◌, length, map, refl, sym, ap, ◌∙◌, subst, append_assoc, append-nil, Option, Some, None, All, codes, option_map}
use Rattle.std.proofs.lemmas.List.Elements.{All-nil, All-cons}
use Rattle.jesc_lexer.specs.declared.token.TokenKind.TheVariants.{Word, Sign}
use Rattle.jesc_ast.specs.Lexemes.{Lexeme}
use Rattle.jesc_first.specs.declared.tree.Condition.{Condition}
use Rattle.jesc_first.specs.declared.tree.Clause.{Clause}
use Rattle.jesc_first.specs.declared.tree.Stmt.{Stmt}
use Rattle.jesc_first.specs.declared.tree.Sum.{Sum}
use Rattle.jesc_first.specs.declared.tree.Method.{Method}
use Rattle.jesc_first.specs.declared.tree.Class.{Class}
use Rattle.jesc_first.specs.Spelling.{Piece, Match, word, sign, requires_pieces, ensures_pieces, parameter_pieces, body_pieces, scope_at_end, end_pieces, result_text, method_pieces, methods_pieces, class_pieces, classes_pieces}
use Rattle.jesc_first.specs.Names.{IsNew, AreNew, IsCondition, is_some_sum, IsMethod, IsClass}
use Rattle.jesc_first.specs.Accepted.{Accepted, names_of}
use Rattle.jesc_first.specs.Parsing.{Parsed, Texts, expected, begins_with, new_name_in, Heading, heading_in, clauses_in, statements_in, end_in, from_static, method_in, next_method_in, methods_in, class_in, next_class_in, classes_in, whole, parsed}
use Rattle.jesc_first.proofs.SoundBase.{Taken, Gives, IsNext, taken_none, taken_append, taken_cons, gives_some, gives_bind, gives_either, gives_weaker, expected_sound, Chain, Once, repeated_sound}
use Rattle.jesc_first.proofs.SoundClauses.{ClausesTaken, clauses_sound, up_to_static}
use Rattle.jesc_first.proofs.SoundHeadings.{NewTaken, new_sound, HeadingTaken, heading_sound, returns_text}
use Rattle.jesc_first.proofs.SoundBodies.{BodyTaken, statements_sound, EndTaken, end_sound}

-- ---- a method

pieces_joined : (r e h p : List Piece) (y z : Piece) (b f : List Piece) → (r ++ e) ++ ((h ++ (p ++ y ∷ z ∷ [])) ++ (b ++ f)) ≡ r ++ e ++ (h ++ p ++ y ∷ []) ++ (z ∷ b) ++ f
pieces_joined r e h p y z b f = simp append_assoc refl

result_is : (value : Option Sum) → returns_text (is_some_sum value) ≡ result_text value
result_is (Some value) = refl
result_is None = refl

record MethodTaken (names : Texts) (tokens : List Lexeme) (method : Method) (next : Texts) (rest : List Lexeme) : Type 0 where
  taken : Taken tokens (method_pieces method) rest
  valid : IsMethod method
  new : IsNew names method.name
  added : next ≡ names ++ method.name ∷ []

-- the parts of a method, whose clauses leave as many tokens as there are from the heading on
method_joined : (names : Texts) (tokens : List Lexeme) (heading : Heading) (a : List Lexeme) (clauses : List Condition × List Clause) (same : List Lexeme)
    (body : List Stmt × Texts) (b : List Lexeme) (end : Option Sum × ℕ) (rest : List Lexeme)
    → HeadingTaken names (from_static tokens) heading a
    → ClausesTaken heading.returns heading.parameters tokens (length (from_static tokens)) clauses same
    → BodyTaken heading.parameters a body.0 body.1 b
    → EndTaken (scope_at_end heading.parameters body.0) heading.returns b end rest
    → let method : Method = record { name = heading.name; demands = clauses.0; promises = clauses.1; parameters = heading.parameters; body = body.0; value = end.0; exit = end.1 } in
    MethodTaken names tokens method heading.names rest
method_joined names tokens heading a clauses same body b end rest hd cs bd en =
    let r : List Piece = requires_pieces heading.parameters clauses.0 in
    let e : List Piece = ensures_pieces heading.parameters clauses.1 in
    let p : List Piece = parameter_pieces heading.parameters in
    let z : List Piece = sign false (codes ")") ∷ sign false (codes "{") ∷ [] in
    let bp : List Piece = body_pieces heading.parameters body.0 in
    let f : List Piece = end_pieces (scope_at_end heading.parameters body.0) end.1 end.0 in
    let h : List Piece = word false (codes "static") ∷ word false (result_text end.0) ∷ word false heading.name ∷ sign false (codes "(") ∷ [] in
    let at_heading : same ≡ from_static tokens = up_to_static tokens (r ++ e) same cs.taken cs.left in
    let before : Taken tokens (r ++ e) (from_static tokens) = subst (λ (ts : List Lexeme). Taken tokens (r ++ e) ts) at_heading cs.taken in
    let text : returns_text heading.returns ≡ result_text end.0 = ap returns_text (sym en.returned) ∙ result_is end.0 in
    let middle : Taken (from_static tokens) (h ++ (p ++ z)) a =
    subst (λ (t : List ℕ). Taken (from_static tokens) ((word false (codes "static") ∷ word false t ∷ word false heading.name ∷ sign false (codes "(") ∷ []) ++ (p ++ z)) a) text hd.taken in
    let all : Taken tokens ((r ++ e) ++ ((h ++ (p ++ z)) ++ (bp ++ f))) rest = taken_append before (taken_append middle (taken_append bd.taken en.taken)) in
    record {
      taken = subst (λ (ps : List Piece). Taken tokens ps rest) (pieces_joined r e h p (sign false (codes ")")) (sign false (codes "{")) bp f) all;
      valid = record {
        named = hd.new.0;
        parameters = hd.parameters;
        demands = cs.demands;
        promises = subst (λ (v : Bool). All (λ (clause : Clause). IsCondition v (length heading.parameters) clause.condition) clauses.1) (sym en.returned) cs.promises;
        body = bd.valid;
        value = en.valid;
      };
      new = hd.new;
      added = hd.added;
    }

method_sound : (names : Texts) (tokens : List Lexeme) → Gives (method_in names tokens) (λ read rest. MethodTaken names tokens read.0 read.1 rest)
method_sound names tokens =
    let n : ℕ = length (from_static tokens) in
    let P : Method × Texts → List Lexeme → Type 0 = λ read rest. MethodTaken names tokens read.0 read.1 rest in
    gives_bind (heading_in names (from_static tokens)) _ (HeadingTaken names (from_static tokens)) P (heading_sound names (from_static tokens)) (λ heading a hd.
    gives_bind (clauses_in heading.returns heading.scope tokens n) _ (ClausesTaken heading.returns heading.scope tokens n) P (clauses_sound heading.returns heading.scope tokens n) (λ clauses same cs.
    gives_bind (statements_in heading.scope a) _ (λ read rest. BodyTaken heading.scope a read.0 read.1 rest) P (statements_sound heading.scope a) (λ body b bd.
    gives_bind (end_in heading.returns body.1 b) _ (EndTaken body.1 heading.returns b) P (end_sound heading.returns body.1 b) (λ end rest en.
    let method : Method = record { name = heading.name; demands = clauses.0; promises = clauses.1; parameters = heading.parameters; body = body.0; value = end.0; exit = end.1 } in
    let read : Method × Texts = (method, heading.names) in
    let cs2 : ClausesTaken heading.returns heading.parameters tokens n clauses same = subst (λ (s : Texts). ClausesTaken heading.returns s tokens n clauses same) hd.scope cs in
    let bd2 : BodyTaken heading.parameters a body.0 body.1 b = subst (λ (s : Texts). BodyTaken s a body.0 body.1 b) hd.scope bd in
    let en2 : EndTaken (scope_at_end heading.parameters body.0) heading.returns b end rest = subst (λ (s : Texts). EndTaken s heading.returns b end rest) bd2.after en in
    gives_some read rest P (method_joined names tokens heading a clauses same body b end rest hd cs2 bd2 en2)))))

-- ---- the methods of a class

abbrev OnceMethod : Texts → List Lexeme → Option Method × Texts → List Lexeme → Type 0
OnceMethod names tokens found rest = Once MethodTaken names tokens found.0 found.1 rest

next_method_sound : (names : Texts) (tokens : List Lexeme) → Gives (next_method_in names tokens) (OnceMethod names tokens)
next_method_sound names tokens =
    let none : Option Method × Texts = (None, names) in
    gives_either (begins_with Sign false (codes "}") tokens) (Some (none, tokens)) _ (OnceMethod names tokens) (λ e. gives_some none tokens (OnceMethod names tokens) (refl, refl)) (λ e.
    gives_bind (method_in names tokens) _ (λ read rest. MethodTaken names tokens read.0 read.1 rest) (OnceMethod names tokens) (method_sound names tokens) (λ method rest m.
    let found : Option Method × Texts = (Some method.0, method.1) in
    gives_some found rest (OnceMethod names tokens) m))

record MethodsTaken (names : Texts) (tokens : List Lexeme) (methods : List Method) (rest : List Lexeme) : Type 0 where
  taken : Taken tokens (methods_pieces methods) rest
  valid : All IsMethod methods
  distinct : AreNew names (map (λ method. method.name) methods)

methods_chain : (names : Texts) (tokens : List Lexeme) (methods : List Method) (next : Texts) (rest : List Lexeme) → Chain MethodTaken names tokens methods next rest → MethodsTaken names tokens methods rest
methods_chain names tokens [] next rest h = record { taken = subst (λ (ts : List Lexeme). Taken tokens [] ts) h.1 (taken_none tokens); valid = All-nil IsMethod; distinct = tt }
methods_chain names tokens (method ∷ methods) next rest (after, mid, one, more) =
    let others : MethodsTaken (names ++ method.name ∷ []) mid methods rest = subst (λ (s : Texts). MethodsTaken s mid methods rest) one.added (methods_chain after mid methods next rest more) in
    record {
      taken = taken_append one.taken others.taken;
      valid = All-cons IsMethod method methods one.valid others.valid;
      distinct = (one.new, others.distinct);
    }

methods_sound : (tokens : List Lexeme) → Gives (methods_in tokens) (λ read rest. MethodsTaken [] tokens read.0 rest)
methods_sound tokens =
    gives_weaker (methods_in tokens) (λ read rest. Chain MethodTaken [] tokens read.0 read.1 rest) (λ (read : List Method × Texts) rest. MethodsTaken [] tokens read.0 rest)
    (repeated_sound next_method_in MethodTaken next_method_sound [] tokens) (λ read rest c. methods_chain [] tokens read.0 read.1 rest c)

-- ---- classes

record ClassTaken (names : Texts) (tokens : List Lexeme) (class : Class) (next : Texts) (rest : List Lexeme) : Type 0 where
  taken : Taken tokens (class_pieces class) rest
  valid : IsClass class
  new : IsNew names class.name
  added : next ≡ names ++ class.name ∷ []

class_sound : (names : Texts) (tokens : List Lexeme) → Gives (class_in names tokens) (λ read rest. ClassTaken names tokens read.0 read.1 rest)
class_sound names tokens =
    let P : Class × Texts → List Lexeme → Type 0 = λ read rest. ClassTaken names tokens read.0 read.1 rest in
    gives_bind (expected Word false (codes "class") tokens) _ (IsNext Word false (codes "class") tokens) P (expected_sound Word false (codes "class") tokens) (λ at a w.
    gives_bind (new_name_in names a) _ (NewTaken names a) P (new_sound names a) (λ name b n.
    gives_bind (expected Sign false (codes "{") b) _ (IsNext Sign false (codes "{") b) P (expected_sound Sign false (codes "{") b) (λ brace c o.
    gives_bind (methods_in c) _ (λ read rest. MethodsTaken [] c read.0 rest) P (methods_sound c) (λ methods d m.
    gives_bind (expected Sign false (codes "}") d) _ (IsNext Sign false (codes "}") d) P (expected_sound Sign false (codes "}") d) (λ closing rest l.
    let class : Class = record { name = name.0; methods = methods.0 } in
    let read : Class × Texts = (class, name.1) in
    gives_some read rest P (record {
      taken = taken_cons w.loosely (taken_cons n.taken (taken_cons o.loosely (taken_append m.taken l.loosely)));
      valid = record { named = n.new.0; methods = m.valid; distinct = m.distinct };
      new = n.new;
      added = n.added;
    }))))))

abbrev OnceClass : Texts → List Lexeme → Option Class × Texts → List Lexeme → Type 0
OnceClass names tokens found rest = Once ClassTaken names tokens found.0 found.1 rest

next_class_sound : (names : Texts) (tokens : List Lexeme) → Gives (next_class_in names tokens) (OnceClass names tokens)
next_class_sound names tokens =
    let none : Option Class × Texts = (None, names) in
    gives_either (begins_with Word false (codes "class") tokens) _ (Some (none, tokens)) (OnceClass names tokens)
    (λ e.
    gives_bind (class_in names tokens) _ (λ read rest. ClassTaken names tokens read.0 read.1 rest) (OnceClass names tokens) (class_sound names tokens) (λ class rest c.
    let found : Option Class × Texts = (Some class.0, class.1) in
    gives_some found rest (OnceClass names tokens) c))
    (λ e. gives_some none tokens (OnceClass names tokens) (refl, refl))

record ClassesTaken (names : Texts) (tokens : List Lexeme) (classes : List Class) (next : Texts) (rest : List Lexeme) : Type 0 where
  taken : Taken tokens (classes_pieces classes) rest
  valid : All IsClass classes
  distinct : AreNew names (names_of classes)
  added : next ≡ names ++ names_of classes

classes_chain : (names : Texts) (tokens : List Lexeme) (classes : List Class) (next : Texts) (rest : List Lexeme) → Chain ClassTaken names tokens classes next rest
    → ClassesTaken names tokens classes next rest
classes_chain names tokens [] next rest h = record {
  taken = subst (λ (ts : List Lexeme). Taken tokens [] ts) h.1 (taken_none tokens);
  valid = All-nil IsClass;
  distinct = tt;
  added = sym h.0 ∙ sym (append-nil names);
}
classes_chain names tokens (class ∷ classes) next rest (after, mid, one, more) =
    let others : ClassesTaken (names ++ class.name ∷ []) mid classes next rest =
    subst (λ (s : Texts). ClassesTaken s mid classes next rest) one.added (classes_chain after mid classes next rest more) in
    record {
      taken = taken_append one.taken others.taken;
      valid = All-cons IsClass class classes one.valid others.valid;
      distinct = (one.new, others.distinct);
      added = others.added ∙ append_assoc names (class.name ∷ []) (names_of classes);
    }

classes_sound : (names : Texts) (tokens : List Lexeme) → Gives (classes_in names tokens) (λ read rest. ClassesTaken names tokens read.0 read.1 rest)
classes_sound names tokens =
    gives_weaker (classes_in names tokens) (λ read rest. Chain ClassTaken names tokens read.0 read.1 rest) (λ (read : List Class × Texts) rest. ClassesTaken names tokens read.0 read.1 rest)
    (repeated_sound next_class_in ClassTaken next_class_sound names tokens) (λ read rest c. classes_chain names tokens read.0 read.1 rest c)

abbrev all_read : {A : Type 0} → A → A × List Lexeme
all_read x = (x, [])

whole_is : {A : Type 0} (p : Parsed A) (x : A) → whole p ≡ Some x → p ≡ Some (all_read x)
whole_is None x h = absurd (cc)
whole_is (Some (c, [])) x h = ap (option_map all_read) h
whole_is (Some (c, (token ∷ rest))) x h = absurd (cc)

-- The classes that the parser answers are spelled by all the lexemes, and keep the rules on names.
pub parsed_sound : (names : Texts) (tokens : List Lexeme) (classes : List Class) (end : Texts) → parsed names tokens ≡ Some (classes, end)
    → Accepted names tokens classes × (end ≡ names ++ names_of classes)
parsed_sound names tokens classes end h =
    let read : ClassesTaken names tokens classes end [] = (classes_sound names tokens).given (classes, end) [] (whole_is (classes_in names tokens) (classes, end) h) in
    let front : read.taken.front ≡ tokens = sym (read.taken.split ∙ append-nil read.taken.front) in
    (record { matched = subst (λ (ts : List Lexeme). Match ts (classes_pieces classes)) front read.taken.fits; named = read.valid; distinct = read.distinct }, read.added)
