-- The recognizer takes every file: where it stops, no file goes on.
use Rattle.std.proofs.Common.{◌≡◌, ℕ, Bool, true, false, List, [], ◌∷◌, ◌++◌, map, refl, ap, ◌∙◌, subst, Some, All, codes}
use Rattle.std.proofs.lemmas.List.Elements.{All-head}
use Rattle.jesc_lexer.specs.declared.token.TokenKind.TheVariants.{Word, Sign}
use Rattle.jesc_ast.specs.Lexemes.{Lexeme}
use Rattle.jesc_first.specs.declared.tree.Method.{Method}
use Rattle.jesc_first.specs.declared.tree.Class.{Class}
use Rattle.jesc_first.specs.declared.reader.phase.Phase.TheVariants.{Classes, ClassName, ClassBrace, Methods, Demands, Statement}
use Rattle.jesc_first.specs.Spelling.{Piece, Fits, word, sign, requires_pieces, ensures_pieces, scope_at_end, body_pieces, end_pieces, method_pieces, methods_pieces, class_pieces, classes_pieces}
use Rattle.jesc_first.specs.Names.{IsNew, AreNew, IsMethod, IsClass, is_some_sum}
use Rattle.jesc_first.specs.Accepted.{Accepted, names_of}
use Rattle.jesc_first.specs.Parsing.{Texts}
use Rattle.jesc_first.specs.Recognizing.{State, start, is_word, is_sign, is_new, put, step, run}
use Rattle.jesc_first.proofs.CompleteBase.{Spans, match_spans, spans_split, fits_is}
use Rattle.jesc_first.proofs.CompleteNames.{IsScope, no_scope, scope_all, all_tail}
use Rattle.jesc_first.proofs.CompleteHeadings.{heading_before}
use Rattle.jesc_first.proofs.CompleteBodies.{scope_ends}
use Rattle.jesc_first.proofs.CompleteClass.{behind_static, method_shape}
use Rattle.jesc_first.proofs.RunBase.{here, takes, new_fits, carried}
use Rattle.jesc_first.proofs.RunClauses.{demands_carry, promises_carry, to_demands, to_promises}
use Rattle.jesc_first.proofs.RunHeadings.{heading_run}
use Rattle.jesc_first.proofs.RunBodies.{body_carries, end_carries}

-- ---- methods

method_run : (classes methods scope : Texts) (returns : Bool) (m : Method) (ts rest : List Lexeme) → Spans ts (method_pieces m) rest → IsMethod m → IsNew methods m.name
    → run (here classes methods scope returns Methods false) ts
    ≡ run (here classes (methods ++ m.name ∷ []) (scope_at_end m.parameters m.body) (is_some_sum m.value) Methods false) rest
method_run classes methods scope returns m ts rest h v n =
    let end = scope_at_end m.parameters m.body in
    let behind = body_pieces m.parameters m.body ++ end_pieces end m.exit m.value in
    let heading = heading_before m.value m.name m.parameters behind in
    let returned = is_some_sum m.value in
    let grown = methods ++ m.name ∷ [] in
    let shaped : Spans ts (requires_pieces m.parameters m.demands ++ (ensures_pieces m.parameters m.promises ++ heading)) rest =
    subst (λ (ps : List Piece). Spans ts ps rest) (method_shape m) h in
    let a = spans_split ts (requires_pieces m.parameters m.demands) (ensures_pieces m.parameters m.promises ++ heading) rest shaped in
    let b = spans_split a.0 (ensures_pieces m.parameters m.promises) heading rest a.2 in
    let s : IsScope m.parameters = scope_all [] m.parameters no_scope v.parameters in
    let promised = promises_carry classes methods scope returns m.parameters s returned m.promises a.0 b.0 b.1 v.promises false in
    let c = heading_run classes methods scope returns promised.after m.value m.name m.parameters b.0 behind rest b.2 promised.same n v.parameters in
    let d = spans_split c.0 (body_pieces m.parameters m.body) (end_pieces end m.exit m.value) rest c.2 in
    to_demands classes methods scope returns false m.parameters m.demands m.promises (behind_static m) ts rest shaped
    ∙ carried (here classes methods scope returns Demands) (here classes methods scope returns Demands) ts a.0
    (demands_carry classes methods scope returns m.parameters s m.demands ts a.0 a.1 v.demands) false
    ∙ to_promises classes methods scope returns false m.parameters m.promises (behind_static m) a.0 rest a.2
    ∙ promised.ran
    ∙ c.1
    ∙ carried (here classes grown m.parameters returned Statement) (here classes grown end returned Statement) c.0 d.0
    (body_carries classes grown returned m.parameters m.body c.0 d.0 d.1 v.body s) false
    ∙ carried (here classes grown end returned Statement) (here classes grown end returned Methods) d.0 rest
    (end_carries classes grown end (scope_ends m.parameters m.body v.body s) m.exit m.value d.0 rest d.2 v.value) false

methods_run : (classes : Texts) (list : List Method) (methods scope : Texts) (returns : Bool) (ts rest : List Lexeme) → Spans ts (methods_pieces list) rest → All IsMethod list
    → AreNew methods (map (λ method. method.name) list)
    → (after end : Texts) × (returned : Bool) × (run (here classes methods scope returns Methods false) ts ≡ run (here classes after end returned Methods false) rest)
methods_run classes [] methods scope returns ts rest h v n = (methods, scope, returns, ap (run (here classes methods scope returns Methods false)) h)
methods_run classes (m ∷ ms) methods scope returns ts rest h v n =
    let k = spans_split ts (method_pieces m) (methods_pieces ms) rest h in
    let one = method_run classes methods scope returns m ts k.0 k.1 (All-head IsMethod m ms v) n.0 in
    let more = methods_run classes ms (methods ++ m.name ∷ []) (scope_at_end m.parameters m.body) (is_some_sum m.value) k.0 rest k.2 (all_tail IsMethod m ms v) n.1 in
    (more.0, more.1, more.2, one ∙ more.3)

-- ---- classes

module _ (methods scope : Texts) (returns told : Bool) where
  class_step : (classes : Texts) (x : Lexeme) → Fits x (word false (codes "class")) → step (here classes methods scope returns Classes told) x ≡ Some (here classes methods scope returns ClassName told)
  class_step classes x f = let q : is_word false (codes "class") x ≡ true = fits_is Word false (codes "class") x (word false (codes "class")) f in rw q refl

  name_step : (classes : Texts) (name : List ℕ) (x : Lexeme) → IsNew classes name → Fits x (word false name)
      → step (here classes methods scope returns ClassName told) x ≡ Some (here (classes ++ name ∷ []) [] scope returns ClassBrace told)
  name_step classes name x n f =
      let new : is_new classes x ≡ true = (new_fits classes name x n f).0 in
      let grown : put classes x.text ≡ classes ++ name ∷ [] = (new_fits classes name x n f).1 in
      rw (new, grown) refl

  open_step : (classes : Texts) (x : Lexeme) → Fits x (sign false (codes "{")) → step (here classes methods scope returns ClassBrace told) x ≡ Some (here classes methods scope returns Methods told)
  open_step classes x f = let q : is_sign false (codes "{") x ≡ true = fits_is Sign false (codes "{") x (sign false (codes "{")) f in rw q refl

  close_step : (classes : Texts) (x : Lexeme) → Fits x (sign false (codes "}")) → step (here classes methods scope returns Methods told) x ≡ Some (here classes methods scope returns Classes told)
  close_step classes x f = let q : is_sign false (codes "}") x ≡ true = fits_is Sign false (codes "}") x (sign false (codes "}")) f in rw q refl

class_run : (classes methods scope : Texts) (returns : Bool) (class : Class) (ts rest : List Lexeme) → Spans ts (class_pieces class) rest → IsClass class → IsNew classes class.name
    → (after end : Texts) × (returned : Bool)
    × (run (here classes methods scope returns Classes false) ts ≡ run (here (classes ++ class.name ∷ []) after end returned Classes false) rest)
class_run classes methods scope returns class ts rest h v n =
    let grown = classes ++ class.name ∷ [] in
    let brace = sign false (codes "}") in
    let inner = methods_pieces class.methods ++ (brace ∷ []) in
    let a = takes (here classes methods scope returns Classes false) (here classes methods scope returns ClassName false) ts (word false (codes "class"))
    (word false class.name ∷ sign false (codes "{") ∷ inner) rest h (class_step methods scope returns false classes) in
    let b = takes (here classes methods scope returns ClassName false) (here grown [] scope returns ClassBrace false) a.0 (word false class.name) (sign false (codes "{") ∷ inner) rest a.2
    (λ x. name_step methods scope returns false classes class.name x n) in
    let c = takes (here grown [] scope returns ClassBrace false) (here grown [] scope returns Methods false) b.0 (sign false (codes "{")) inner rest b.2 (open_step [] scope returns false grown) in
    let d = spans_split c.0 (methods_pieces class.methods) (brace ∷ []) rest c.2 in
    let e = methods_run grown class.methods [] scope returns c.0 d.0 d.1 v.methods v.distinct in
    let f = takes (here grown e.0 e.1 e.2 Methods false) (here grown e.0 e.1 e.2 Classes false) d.0 brace [] rest d.2 (close_step e.0 e.1 e.2 false grown) in
    (e.0, e.1, e.2, a.1 ∙ b.1 ∙ c.1 ∙ e.3 ∙ f.1 ∙ ap (run (here grown e.0 e.1 e.2 Classes false)) f.2)

classes_run : (list : List Class) (classes methods scope : Texts) (returns : Bool) (ts : List Lexeme) → Spans ts (classes_pieces list) [] → All IsClass list → AreNew classes (names_of list)
    → (s : State) × (run (here classes methods scope returns Classes false) ts ≡ Some s)
classes_run [] classes methods scope returns ts h v n =
    (here classes methods scope returns Classes false, ap (run (here classes methods scope returns Classes false)) h)
classes_run (c ∷ cs) classes methods scope returns ts h v n =
    let k = spans_split ts (class_pieces c) (classes_pieces cs) [] h in
    let one = class_run classes methods scope returns c ts k.0 k.1 (All-head IsClass c cs v) n.0 in
    let more = classes_run cs (classes ++ c.name ∷ []) one.0 one.1 one.2 k.0 k.2 (all_tail IsClass c cs v) n.1 in
    (more.0, one.3 ∙ more.1)

-- the recognizer takes all lexemes of a file
pub takes_accepted : (before : Texts) (lexemes : List Lexeme) (classes : List Class) → Accepted before lexemes classes → (s : State) × (run (start before) lexemes ≡ Some s)
takes_accepted before lexemes classes accepted =
    classes_run classes before [] [] false lexemes (match_spans lexemes (classes_pieces classes) accepted.matched) accepted.named accepted.distinct
