-- What the parser's headings take.
use Rattle.std.proofs.Common.{◌≡◌, ℕ, Bool, true, false, List, [], ◌∷◌, ◌++◌, refl, sym, ap, ◌∙◌, subst, append_assoc, append-nil, Option, Some, None, codes}
use Rattle.jesc_lexer.specs.declared.token.TokenKind.TheVariants.{Word, Sign}
use Rattle.jesc_ast.specs.Lexemes.{Lexeme}
use Rattle.jesc_first.specs.Spelling.{Piece, word, sign, parameter_pieces}
use Rattle.jesc_first.specs.Names.{IsNew, AreNew}
use Rattle.jesc_first.specs.Parsing.{Parsed, Texts, expected, begins_with, name_in, slot_in, added_to, new_name_in, parameter_in, more_after, more_parameter_in, repeated, parameters_in, result_after, result_in, Heading, heading_in}
use Rattle.jesc_first.proofs.SoundBase.{Taken, Gives, IsNext, taken_none, taken_append, taken_cons, gives_some, gives_none, gives_bind, gives_either, gives_weaker, expected_sound, Chain, Once, repeated_sound}
use Rattle.jesc_first.proofs.SoundSums.{NameTaken, name_sound, slot_missing}

-- a new name, and the names with it
pub record NewTaken (names : Texts) (tokens : List Lexeme) (read : List ℕ × Texts) (rest : List Lexeme) : Type 0 where
  pub taken : Taken tokens (word false read.0 ∷ []) rest
  pub new : IsNew names read.0
  pub added : read.1 ≡ names ++ read.0 ∷ []

new_by : (names : Texts) (tokens : List Lexeme) (text : List ℕ) (rest : List Lexeme) (found : Option ℕ) → slot_in names text ≡ found → NameTaken tokens text rest
    → Gives (added_to names text found rest) (NewTaken names tokens)
new_by names tokens text rest None e h =
    let read : List ℕ × Texts = (text, names ++ text ∷ []) in
    gives_some read rest (NewTaken names tokens) (record { taken = h.taken; new = (h.valid, slot_missing names text e); added = refl })
new_by names tokens text rest (Some slot) e h = gives_none (NewTaken names tokens)

pub new_sound : (names : Texts) (tokens : List Lexeme) → Gives (new_name_in names tokens) (NewTaken names tokens)
new_sound names tokens =
    gives_bind (name_in tokens) _ (NameTaken tokens) (NewTaken names tokens) (name_sound tokens) (λ text rest h.
    new_by names tokens text rest (slot_in names text) refl h)

-- ---- parameters

record ParameterTaken (scope : Texts) (tokens : List Lexeme) (read : List ℕ × Texts) (rest : List Lexeme) : Type 0 where
  taken : Taken tokens (word false (codes "int") ∷ word false read.0 ∷ []) rest
  new : IsNew scope read.0
  added : read.1 ≡ scope ++ read.0 ∷ []

parameter_sound : (scope : Texts) (tokens : List Lexeme) → Gives (parameter_in scope tokens) (ParameterTaken scope tokens)
parameter_sound scope tokens =
    gives_bind (expected Word false (codes "int") tokens) _ (IsNext Word false (codes "int") tokens) (ParameterTaken scope tokens) (expected_sound Word false (codes "int") tokens) (λ at mid w.
    gives_weaker (new_name_in scope mid) (NewTaken scope mid) (ParameterTaken scope tokens) (new_sound scope mid) (λ read rest n.
    record { taken = taken_cons w.loosely n.taken; new = n.new; added = n.added }))

-- a comma and a parameter
record MoreTaken (scope : Texts) (tokens : List Lexeme) (name : List ℕ) (next : Texts) (rest : List Lexeme) : Type 0 where
  taken : Taken tokens (sign false (codes ",") ∷ word false (codes "int") ∷ word false name ∷ []) rest
  new : IsNew scope name
  added : next ≡ scope ++ name ∷ []

abbrev OnceMore : Texts → List Lexeme → Option (List ℕ) × Texts → List Lexeme → Type 0
OnceMore scope tokens found rest = Once MoreTaken scope tokens found.0 found.1 rest

more_by : (scope : Texts) (tokens : List Lexeme) (read : Parsed ℕ) → Gives read (IsNext Sign false (codes ",") tokens) → Gives (more_after scope read tokens) (OnceMore scope tokens)
more_by scope tokens None h = gives_some (None, scope) tokens (OnceMore scope tokens) (refl, refl)
more_by scope tokens (Some read) h =
    let w : IsNext Sign false (codes ",") tokens read.0 read.1 = h.given read.0 read.1 refl in
    gives_bind (parameter_in scope read.1) _ (ParameterTaken scope read.1) (OnceMore scope tokens) (parameter_sound scope read.1) (λ found rest p.
    gives_some (Some found.0, found.1) rest (OnceMore scope tokens) (record { taken = taken_cons w.loosely p.taken; new = p.new; added = p.added }))

more_sound : (scope : Texts) (tokens : List Lexeme) → Gives (more_parameter_in scope tokens) (OnceMore scope tokens)
more_sound scope tokens = more_by scope tokens (expected Sign false (codes ",") tokens) (expected_sound Sign false (codes ",") tokens)

abbrev more_pieces : Texts → List Piece
more_pieces [] = []
more_pieces (name ∷ names) = sign false (codes ",") ∷ word false (codes "int") ∷ word false name ∷ more_pieces names

pieces_are : (name : List ℕ) (names : Texts) → parameter_pieces (name ∷ names) ≡ word false (codes "int") ∷ word false name ∷ more_pieces names
pieces_are name [] = refl
pieces_are name (more ∷ names) = ap (λ (ps : List Piece). word false (codes "int") ∷ word false name ∷ sign false (codes ",") ∷ ps) (pieces_are more names)

record MoresTaken (scope : Texts) (tokens : List Lexeme) (names next : Texts) (rest : List Lexeme) : Type 0 where
  taken : Taken tokens (more_pieces names) rest
  new : AreNew scope names
  added : next ≡ scope ++ names

mores_chain : (scope : Texts) (tokens : List Lexeme) (names next : Texts) (rest : List Lexeme) → Chain MoreTaken scope tokens names next rest → MoresTaken scope tokens names next rest
mores_chain scope tokens [] next rest h = record {
  taken = subst (λ (ts : List Lexeme). Taken tokens [] ts) h.1 (taken_none tokens);
  new = tt;
  added = sym h.0 ∙ sym (append-nil scope);
}
mores_chain scope tokens (name ∷ names) next rest (after, mid, one, more) =
    let others : MoresTaken after mid names next rest = mores_chain after mid names next rest more in
    record {
      taken = taken_append one.taken others.taken;
      new = (one.new, subst (λ (s : Texts). AreNew s names) one.added others.new);
      added = others.added ∙ ap (λ (s : Texts). s ++ names) one.added ∙ append_assoc scope (name ∷ []) names;
    }

pub record ParametersTaken (tokens : List Lexeme) (read : List (List ℕ) × Texts) (rest : List Lexeme) : Type 0 where
  pub taken : Taken tokens (parameter_pieces read.0) rest
  pub new : AreNew [] read.0
  pub scope : read.1 ≡ read.0

parameters_sound : (tokens : List Lexeme) → Gives (parameters_in tokens) (ParametersTaken tokens)
parameters_sound tokens =
    let none : List (List ℕ) × Texts = ([], []) in
    gives_either (begins_with Sign false (codes ")") tokens) (Some (none, tokens)) _ (ParametersTaken tokens) (λ e. gives_some none tokens (ParametersTaken tokens) (record { taken = taken_none tokens; new = tt; scope = refl })) (λ e.
    gives_bind (parameter_in [] tokens) _ (ParameterTaken [] tokens) (ParametersTaken tokens) (parameter_sound [] tokens) (λ first mid f.
    gives_bind (repeated more_parameter_in first.1 mid) _ (λ read rest. Chain MoreTaken first.1 mid read.0 read.1 rest) (ParametersTaken tokens) (repeated_sound more_parameter_in MoreTaken more_sound first.1 mid) (λ more rest c.
    let others : MoresTaken first.1 mid more.0 more.1 rest = mores_chain first.1 mid more.0 more.1 rest c in
    let read : List (List ℕ) × Texts = (first.0 ∷ more.0, more.1) in
    gives_some read rest (ParametersTaken tokens) (record {
      taken = subst (λ (ps : List Piece). Taken tokens ps rest) (sym (pieces_are first.0 more.0)) (taken_append f.taken others.taken);
      new = (f.new, subst (λ (s : Texts). AreNew s more.0) f.added others.new);
      scope = others.added ∙ ap (λ (s : Texts). s ++ more.0) f.added;
    }))))

-- ---- headings

abbrev pub returns_text : Bool → List ℕ
returns_text true = codes "int"
returns_text false = codes "void"

abbrev pub ResultTaken : List Lexeme → Bool → List Lexeme → Type 0
ResultTaken tokens returns rest = Taken tokens (word false (returns_text returns) ∷ []) rest

result_by : (tokens : List Lexeme) (read : Parsed ℕ) → Gives read (IsNext Word false (codes "int") tokens) → Gives (result_after read tokens) (ResultTaken tokens)
result_by tokens (Some read) h = gives_some true read.1 (ResultTaken tokens) (h.given read.0 read.1 refl).loosely
result_by tokens None h =
    gives_bind (expected Word false (codes "void") tokens) _ (IsNext Word false (codes "void") tokens) (ResultTaken tokens) (expected_sound Word false (codes "void") tokens) (λ at rest w.
    gives_some false rest (ResultTaken tokens) w.loosely)

pub result_sound : (tokens : List Lexeme) → Gives (result_in tokens) (ResultTaken tokens)
result_sound tokens = result_by tokens (expected Word false (codes "int") tokens) (expected_sound Word false (codes "int") tokens)

pub record HeadingTaken (names : Texts) (tokens : List Lexeme) (heading : Heading) (rest : List Lexeme) : Type 0 where
  pub taken : Taken tokens ((word false (codes "static") ∷ word false (returns_text heading.returns) ∷ word false heading.name ∷ sign false (codes "(") ∷ [])
      ++ parameter_pieces heading.parameters ++ (sign false (codes ")") ∷ sign false (codes "{") ∷ [])) rest
  pub new : IsNew names heading.name
  pub added : heading.names ≡ names ++ heading.name ∷ []
  pub parameters : AreNew [] heading.parameters
  pub scope : heading.scope ≡ heading.parameters

pub heading_sound : (names : Texts) (tokens : List Lexeme) → Gives (heading_in names tokens) (HeadingTaken names tokens)
heading_sound names tokens =
    let P : Heading → List Lexeme → Type 0 = HeadingTaken names tokens in
    gives_bind (expected Word false (codes "static") tokens) _ (IsNext Word false (codes "static") tokens) P (expected_sound Word false (codes "static") tokens) (λ at a h1.
    gives_bind (result_in a) _ (ResultTaken a) P (result_sound a) (λ returns b h2.
    gives_bind (new_name_in names b) _ (NewTaken names b) P (new_sound names b) (λ name c h3.
    gives_bind (expected Sign false (codes "(") c) _ (IsNext Sign false (codes "(") c) P (expected_sound Sign false (codes "(") c) (λ open_mark d h4.
    gives_bind (parameters_in d) _ (ParametersTaken d) P (parameters_sound d) (λ parameters e h5.
    gives_bind (expected Sign false (codes ")") e) _ (IsNext Sign false (codes ")") e) P (expected_sound Sign false (codes ")") e) (λ close_mark f h6.
    gives_bind (expected Sign false (codes "{") f) _ (IsNext Sign false (codes "{") f) P (expected_sound Sign false (codes "{") f) (λ brace rest h7.
    let heading : Heading = record { name = name.0; returns = returns; parameters = parameters.0; scope = parameters.1; names = name.1 } in
    gives_some heading rest P (record {
      taken = taken_cons h1.loosely (taken_cons h2 (taken_cons h3.taken (taken_cons h4.loosely (taken_append h5.taken (taken_cons h6.loosely h7.loosely)))));
      new = h3.new;
      added = h3.added;
      parameters = h5.new;
      scope = h5.scope;
    }))))))))
