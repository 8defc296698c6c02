-- Headings of methods, of which a name may stand twice.
use Rattle.std.proofs.Common.{◌≡◌, ℕ, Bool, true, false, List, [], ◌∷◌, ◌++◌, refl, sym, ap, subst, Option, Some, None, Contains, codes, inl, inr, Result, Ok, Err, get_or, zero, suc, arith}
use Rattle.std.specs.Result.{OnOk, is_ok}
use Rattle.std.proofs.lemmas.List.Elements.{Contains-append_left, Contains-append_right, Contains-append_cases}
use Rattle.std.proofs.lemmas.List.Quantifiers.{position-Some}
use Rattle.std.proofs.lemmas.Slice.Eq.{bytes_eq-Decides}
use Rattle.std.specs.Str.{bytes_eq}
use Rattle.jesc_lexer.specs.declared.token.TokenKind.TheVariants.{Word, Sign}
use Rattle.jesc_ast.specs.Lexemes.{Lexeme}
use Rattle.jesc_first.specs.Spelling.{Piece, word, sign, parameter_pieces}
use Rattle.jesc_first.specs.Parsing.{Parsed, Texts, expected, name_in, result_in, slot_in, any_parameter_in}
use Rattle.jesc_first.specs.Reads.{Adds, Reads}
use Rattle.jesc_first.specs.declared.reader.cursor.Stop.{Stop}
use Rattle.jesc_first.specs.Fronts.{AreAmong, Opens, further_pieces, Furthers, Lists, HasHeading}
use Rattle.jesc_first.proofs.SoundBase.{Taken, Gives, IsNext, taken_none, taken_append, taken_cons, gives_bind, gives_weaker, expected_sound}
use Rattle.jesc_first.proofs.SoundSums.{NameTaken, name_sound}
use Rattle.jesc_first.proofs.SoundHeadings.{returns_text, result_sound}

-- ---- names that were added

slot_there : (names : Texts) (text : List ℕ) (slot : ℕ) → slot_in names text ≡ Some slot → Contains names text
slot_there names text slot e =
    let p = position-Some (λ (name : List ℕ). bytes_eq text name) names slot text e in
    (slot, p.0, sym ((bytes_eq-Decides text (get_or names slot text)).0 p.1))

-- the new names have the old ones and the added one
added_among : (old : Texts) (name : List ℕ) (slot : Option ℕ) (added : Bool) (new : Texts) → slot_in old name ≡ slot → Adds old name slot added new
    → AreAmong old new × Contains new name
added_among old name None added new e a = (
  (λ text h. subst (λ (names : Texts). Contains names text) (sym a.1) (Contains-append_left old (name ∷ []) text h)),
  subst (λ (names : Texts). Contains names name) (sym a.1) (Contains-append_right old (name ∷ []) name (zero, omega arith, refl)),
)
added_among old name (Some slot) added new e a = (
  (λ text h. subst (λ (names : Texts). Contains names text) (sym a.1) h),
  subst (λ (names : Texts). Contains names name) (sym a.1) (slot_there old name slot e),
)

-- ---- the parts of a heading

pub opens_is : (ts a b c rest : List Lexeme) (x y : ℕ) (returns : Bool) (name : List ℕ) → expected Word false (codes "static") ts ≡ Some (x, a) → result_in a ≡ Some (returns, b)
    → name_in b ≡ Some (name, c) → expected Sign false (codes "(") c ≡ Some (y, rest) → Opens ts rest
opens_is ts a b c rest x y returns name static result method parenthesis = record {
  result = returns_text returns;
  method = name;
  taken = taken_cons ((expected_sound Word false (codes "static") ts).given x a static).loosely
      (taken_cons ((result_sound a).given returns b result)
      (taken_cons ((name_sound b).given name c method).taken ((expected_sound Sign false (codes "(") c).given y rest parenthesis).loosely));
}

-- a parameter, whose name may be there already
ParameterTaken : List Lexeme → List ℕ → List Lexeme → Type 0
ParameterTaken ts name rest = Taken ts (word false (codes "int") ∷ word false name ∷ []) rest

any_parameter_sound : (ts : List Lexeme) → Gives (any_parameter_in ts) (ParameterTaken ts)
unfolding ParameterTaken
any_parameter_sound ts =
    gives_bind (expected Word false (codes "int") ts) _ (IsNext Word false (codes "int") ts) (ParameterTaken ts) (expected_sound Word false (codes "int") ts) (λ at mid w.
    gives_weaker (name_in mid) (NameTaken mid) (ParameterTaken ts) (name_sound mid) (λ name rest n. taken_cons w.loosely n.taken))

further_push : (names : Texts) (name : List ℕ) → further_pieces (names ++ name ∷ []) ≡ further_pieces names ++ (sign false (codes ",") ∷ word false (codes "int") ∷ word false name ∷ [])
further_push [] name = refl
further_push (x ∷ names) name = ap (λ (ps : List Piece). sign false (codes ",") ∷ word false (codes "int") ∷ word false x ∷ ps) (further_push names name)

among_push : (texts : Texts) (name : List ℕ) (old new : Texts) → AreAmong texts old → AreAmong old new → Contains new name → AreAmong (texts ++ name ∷ []) new
among_push texts name old new h k c text there = elim (Contains-append_cases texts (name ∷ []) text there) [
  | inl before ↦ k text (h text before)
  | inr last ↦ one last
]
  where
    one : Contains (name ∷ []) text → Contains new text
    one (zero, l, e) = subst (λ (t : List ℕ). Contains new t) e c
    one (suc k, l, e) = absurd (omega arith)

-- a mark that was taken
pub was_taken : (rule : Parsed ℕ) (result : Result ℕ Stop) (rest : List Lexeme) → is_ok result ≡ true → Reads rule result rest → (at : ℕ) × (rule ≡ Some (at, rest))
was_taken rule (Ok at) rest ok reads = (at, reads)
was_taken rule (Err stop) rest ok reads = absurd (cc)

pub furthers_none : (ts : List Lexeme) (names : Texts) → Furthers ts names ts names
furthers_none ts names = record { parameters = []; taken = taken_none ts; kept = λ text h. h; among = λ text (k, l, e). absurd (omega arith) }

pub furthers_more : (ts : List Lexeme) (old : Texts) (mid : List Lexeme) (names : Texts) (at : ℕ) (a : List Lexeme) (name : List ℕ) (rest : List Lexeme) (added : Bool) (new : Texts)
    → Furthers ts old mid names → expected Sign false (codes ",") mid ≡ Some (at, a) → any_parameter_in a ≡ Some (name, rest) → Adds names name (slot_in names name) added new
    → Furthers ts old rest new
unfolding ParameterTaken
furthers_more ts old mid names at a name rest added new f comma parameter adds =
    let grown : AreAmong names new × Contains new name = added_among names name (slot_in names name) added new refl adds in
    let one = taken_cons ((expected_sound Sign false (codes ",") mid).given at a comma).loosely ((any_parameter_sound a).given name rest parameter) in
    record {
      parameters = f.parameters ++ name ∷ [];
      taken = subst (λ (ps : List Piece). Taken ts ps rest) (sym (further_push f.parameters name)) (taken_append f.taken one);
      kept = λ text h. grown.0 text (f.kept text h);
      among = among_push f.parameters name names new f.among grown.0 grown.1;
    }

pieces_are : (name : List ℕ) (names : Texts) → parameter_pieces (name ∷ names) ≡ word false (codes "int") ∷ word false name ∷ further_pieces names
pieces_are name [] = refl
pieces_are name (more ∷ names) = ap (λ (ps : List Piece). word false (codes "int") ∷ word false name ∷ sign false (codes ",") ∷ ps) (pieces_are more names)

pub lists_first : (ts : List Lexeme) (names : Texts) (name : List ℕ) (a : List Lexeme) (added : Bool) (mid : Texts) (rest : List Lexeme) (new : Texts)
    → any_parameter_in ts ≡ Some (name, a) → Adds names name (slot_in names name) added mid → Furthers a mid rest new → Lists ts rest new
unfolding ParameterTaken
lists_first ts names name a added mid rest new parameter adds f =
    let grown : AreAmong names mid × Contains mid name = added_among names name (slot_in names name) added mid refl adds in
    record {
      parameters = name ∷ f.parameters;
      taken = subst (λ (ps : List Piece). Taken ts ps rest) (sym (pieces_are name f.parameters)) (taken_append ((any_parameter_sound ts).given name a parameter) f.taken);
      among = λ text h. elim (Contains-append_cases (name ∷ []) f.parameters text h) [
        | inl first ↦ one text first (f.kept name grown.1)
        | inr more ↦ f.among text more
      ];
    }
  where
    one : (text : List ℕ) → Contains (name ∷ []) text → Contains new name → Contains new text
    one text (zero, l, e) c = subst (λ (t : List ℕ). Contains new t) e c
    one text (suc k, l, e) c = absurd (omega arith)

pub lists_if : (ts : List Lexeme) (names : Texts) (name : List ℕ) (a : List Lexeme) (added : Bool) (mid : Texts) (rest : List Lexeme) (new : Texts) {E : Type 0} (result : Result (Unit {0}) E)
    → any_parameter_in ts ≡ Some (name, a) → Adds names name (slot_in names name) added mid → OnOk result (Furthers a mid rest new) → OnOk result (Lists ts rest new)
lists_if ts names name a added mid rest new (Ok x) parameter adds f = lists_first ts names name a added mid rest new parameter adds f
lists_if ts names name a added mid rest new (Err e) parameter adds f = tt

pub heading_is : (ts a b : List Lexeme) (names : Texts) (at : ℕ) (rest : List Lexeme) → Opens ts a → Lists a b names → expected Sign false (codes ")") b ≡ Some (at, rest)
    → HasHeading ts names
heading_is ts a b names at rest o l parenthesis = record {
  rest = rest;
  result = o.result;
  method = o.method;
  parameters = l.parameters;
  taken = taken_append (taken_append o.taken l.taken) ((expected_sound Sign false (codes ")") b).given at rest parenthesis).loosely;
  among = l.among;
}
