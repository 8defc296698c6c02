-- What an expression stands for, as a relation without any order of looking: one rule for each form.
--
-- Each rule has first what it speaks of, then its premises, and last the expression and what it stands for at its place:
-- `s` is the member that it stands in, `a` what is around it there, and `span` where it is written.
use Rattle.std.specs.Prelude.{◌≡◌, ◌+◌, ℕ, ℤ, ◌<ℤ◌, Bool, true, false, Some, None, List, [], ◌∷◌, length, codes}
use Rattle.jesc_text.specs.declared.place.Span.{Span}
use Rattle.jesc_ast.specs.declared.word.TypeTree.{TypeTree}
use Rattle.jesc_ast.specs.declared.word.Word.{Word}
use Rattle.jesc_ast.specs.Lines.{place_at}
use Rattle.jesc_ast.specs.Trees as ast
use Rattle.jesc_member_rules.specs.Types.{number_value}
use Rattle.jesc_meanings.specs.Ids.{field_id, method_id}
use Rattle.jesc_meanings.specs.Meanings.{class_named}
use Rattle.jesc_operands.specs.Operands.{AreRelated, Casts, Chooses, Makes, Turns, is_reference, kind_of}
use Rattle.jesc_tree.specs.declared.class.Class.{Class}
use Rattle.jesc_tree.specs.declared.class.Field.{Field}
use Rattle.jesc_tree.specs.declared.class.Method.{Method}
use Rattle.jesc_tree.specs.declared.class.Param.{Param}
use Rattle.jesc_tree.specs.declared.ids.ClassId.{ClassId}
use Rattle.jesc_tree.specs.declared.ty.Elem.{Elem}
use Rattle.jesc_tree.specs.declared.ty.Ty.{Ty}
use Rattle.jesc_tree.specs.declared.ty.Ty.TheVariants as ty
use Rattle.jesc_tree.specs.Subtypes.{Fits, class_id}
use Rattle.jesc_tree.specs.Trees as tree
use Rattle.jesc_tree.specs.Trees.{expressions_of}
use Rattle.jesc_sites.specs.Arrays.{element_type}
use Rattle.jesc_sites.specs.Operations.{operator_of, prefix_of}
use Rattle.jesc_sites.specs.Parts.{checked_at, enclosed, plain, type_of}
use Rattle.jesc_sites.specs.Plain.{greatest, number_type}
use Rattle.jesc_sites.specs.Sites.{Around, Setting, with_role}
use Rattle.jesc_sites.specs.Specified.{in_body, in_past, local_id, variable_id}
use Rattle.jesc_sites.specs.declared.site.Binding.{Binding}
use Rattle.jesc_sites.specs.declared.site.Role.{Role}
use Rattle.jesc_sites.specs.declared.site.Role.TheVariants.{Operand, Whole, Qualifier, Negated, Target}
use Rattle.jesc_sites.specs.declared.site.This.{This}
use Rattle.jesc_sites.specs.declared.site.This.TheVariants.{Guarded, Free}
use Rattle.jesc_references.specs.Calls as calls
use Rattle.jesc_references.specs.Calls.{Callee, callee, is_this}
use Rattle.jesc_references.specs.Fields.{implied_this, is_of_specification, is_static}
use Rattle.jesc_references.specs.Known as known
use Rattle.jesc_references.specs.Known.{constructor_in, field_in, meaning_of, qualifier_class, with_id}
use Rattle.jesc_references.specs.Written.{base_named}
use Rattle.jesc_expressions.specs.Resolving.{dot_before, role_behind}

-- ---- what may stand where

-- `this` is written anywhere, or where the own object is not made yet only before a dot (JLS 15.8.3)
pub data MaySayThis : This → Role → Type 0 where
  free : (role : Role) → MaySayThis Free role
  guarded : MaySayThis Guarded Qualifier

-- a plain name may be a field of the own object, which a static method has not (JLS 6.5.6.1, 15.8.3). Where the name is the
-- target of an assignment, that is a rule of the statement
pub data HasObject : This → Role → Type 0 where
  free : (role : Role) → HasObject Free role
  guarded : (role : Role) → HasObject Guarded role
  target : (this : This) → HasObject this Target

-- ghost and model names are read in specifications alone (JML Reference Manual 2.2). Where such a name is the target of an
-- assignment in code, that is a rule of the statement
pub data MayRead : (is_code : Bool) → Role → (is_specified : Bool) → Type 0 where
  in_specification : (role : Role) (is_specified : Bool) → MayRead false role is_specified
  of_code : (is_code : Bool) (role : Role) → MayRead is_code role false
  target : (is_code is_specified : Bool) → MayRead is_code Target is_specified

-- a local has a value there: inside `\old`, which speaks of the state before the call, parameters alone have one
-- (JML Reference Manual 12.4.2)
pub data HasValue : (in_old is_parameter : Bool) → Type 0 where
  now : (is_parameter : Bool) → HasValue false is_parameter
  parameter : (in_old : Bool) → HasValue in_old true

-- a written type, whose base is a primitive type or a known class (JLS 4.2, 4.3)
pub data Denotes (classes : List Class) : TypeTree → Ty → Type 0 where
  single : (t : TypeTree) (e : Elem) → t.array ≡ false → base_named classes t.base ≡ Some e → Denotes classes t (element_type e)
  array : (t : TypeTree) (e : Elem) → t.array ≡ true → base_named classes t.base ≡ Some e → Denotes classes t (ty.Array e)

-- ---- what is called

-- there are as many arguments as parameters, and each fits its own (JLS 15.12.2.2, 15.12.2.3)
pub data Passes (classes : List Class) : List Param → List tree.Expression → Type 0 where
  none : Passes classes [] []
  one_more : (p : Param) (ps : List Param) (x : tree.Expression) (xs : List tree.Expression)
      → Fits classes (type_of x) p.ty → Passes classes ps xs → Passes classes (p ∷ ps) (x ∷ xs)

-- the method may be called on the own object, which a static method has not (JLS 15.12.3). Where the object may not be made
-- yet, it is a private helper, which asks for no invariant
pub data MayBeCalled : This → Method → Type 0 where
  free : (m : Method) → MayBeCalled Free m
  guarded : (m : Method) → m.is_private ≡ true → m.is_helper ≡ true → MayBeCalled Guarded m

-- what the method is called on, by what stands before its name at that span (JLS 15.12.1, 15.12.3)
pub data Receives (s : Setting) (span : Span) : calls.Target → Method → tree.Receiver → Type 0 where
  -- nothing: a static method, or one of the own object
  own_static : (m : Method) → m.is_static ≡ true → Receives s span calls.implied m tree.static
  own : (m : Method) → m.is_static ≡ false → MayBeCalled s.this m → Receives s span calls.implied m (tree.on (implied_this s span))
  -- `super`: a method that is not static and has a body
  super : (m : Method) → m.is_static ≡ false → m.is_abstract ≡ false → MayBeCalled s.this m → Receives s span calls.super m tree.super
  -- a class: a static method
  of_class : (c : ℕ) (m : Method) → m.is_static ≡ true → Receives s span (calls.of_class c) m tree.static
  -- an expression: a method that is not static; `this` is the own object
  on_this : (x : tree.Expression) (m : Method) → is_this x ≡ true → m.is_static ≡ false → MayBeCalled s.this m
      → Receives s span (calls.on x) m (tree.on x)
  on_other : (x : tree.Expression) (m : Method) → is_this x ≡ false → m.is_static ≡ false → Receives s span (calls.on x) m (tree.on x)

-- a call, whose checks stand at the called name, and that of its receiver at the dot
abbrev pub called_on : Setting → Span → Span → Word → Callee → tree.Receiver → List tree.Expression → tree.Expression
called_on s span dot w c receiver xs =
    tree.expression (place_at s.lines span) (place_at s.lines w.span) (place_at s.lines dot) c.method.result
    (tree.call receiver (class_id c.class) (method_id c.id) (expressions_of xs))

mutual
  pub data Typed (s : Setting) : Around → ast.Expression → tree.Expression → Type 0 where
    -- literals (JLS 3.10, 15.8.1). The greatest number of each type stands behind a minus sign alone (JLS 3.10.1)
    number : (a : Around) (span : Span) (x : List ℕ) (n : ℤ) → number_value x ≡ Some n → n <ℤ greatest x
        → Typed s a (ast.number span x) (plain s.lines span (number_type x) (tree.number n))
    greatest_number : (a : Around) (span : Span) (x : List ℕ) → number_value x ≡ Some (greatest x) → a.role ≡ Negated
        → Typed s a (ast.number span x) (plain s.lines span (number_type x) (tree.number (greatest x)))
    truth : (a : Around) (span : Span) (b : Bool) → Typed s a (ast.truth span b) (plain s.lines span ty.Bool (tree.truth b))
    null : (a : Around) (span : Span) → Typed s a (ast.null span) (plain s.lines span ty.Null tree.null)
    -- `this` (JLS 15.8.3) and `\result` (JML Reference Manual 12.4.1)
    this : (a : Around) (span : Span) → MaySayThis s.this a.role
        → Typed s a (ast.this span) (plain s.lines span (ty.Ref (class_id s.class)) tree.this)
    outcome : (a : Around) (span : Span) (t : Ty) → s.result ≡ Some t → Typed s a (ast.outcome span) (plain s.lines span t tree.outcome)
    -- plain names (JLS 6.4.1, 6.5.6.1): the variable of a quantifier, a local, a constant, a field of the own object
    variable : (a : Around) (span : Span) (x : List ℕ) (i : ℕ) → meaning_of s a x ≡ known.variable i
        → Typed s a (ast.name span x) (plain s.lines span ty.Int (tree.local (local_id (length s.locals + i))))
    local : (a : Around) (span : Span) (x : List ℕ) (b : Binding) → meaning_of s a x ≡ known.local b
        → MayRead s.is_code a.role b.is_ghost → HasValue a.in_old b.is_parameter
        → Typed s a (ast.name span x) (plain s.lines span b.ty (tree.local b.local))
    constant : (a : Around) (span : Span) (x : List ℕ) (id : ℕ) (f : Field) → meaning_of s a x ≡ known.field id f → is_static f ≡ true
        → Typed s a (ast.name span x) (plain s.lines span f.ty (tree.constant (field_id id)))
    own_field : (a : Around) (span : Span) (x : List ℕ) (id : ℕ) (f : Field) → meaning_of s a x ≡ known.field id f → is_static f ≡ false
        → HasObject s.this a.role → MayRead s.is_code a.role (is_of_specification f)
        → Typed s a (ast.name span x) (plain s.lines span f.ty (tree.member (implied_this s span) (field_id id)))
    -- parentheses (JLS 15.8.5)
    paren : (a : Around) (span : Span) (e : ast.Expression) (x : tree.Expression) → Typed s (with_role Operand a) e x
        → Typed s a (ast.paren span e) (enclosed s.lines span x)
    -- behind a dot (JLS 6.5.6.2, 15.11): a constant of a class, a field of an object, the length of an array (JLS 10.7)
    class_constant : (a : Around) (span : Span) (e : ast.Expression) (dot : Span) (w : Word) (c id : ℕ) (f : Field)
        → qualifier_class s a e ≡ Some c → field_in s c w.text ≡ Some (id, f) → is_static f ≡ true
        → Typed s a (ast.member span e dot w) (plain s.lines span f.ty (tree.constant (field_id id)))
    field : (a : Around) (span : Span) (e : ast.Expression) (dot : Span) (w : Word) (x : tree.Expression) (c : ClassId) (id : ℕ) (f : Field)
        → qualifier_class s a e ≡ None → Typed s (with_role Qualifier a) e x → type_of x ≡ ty.Ref c → field_in s c.0 w.text ≡ Some (id, f)
        → is_static f ≡ false → MayRead s.is_code a.role (is_of_specification f)
        → Typed s a (ast.member span e dot w) (checked_at s.lines span dot f.ty (tree.member x (field_id id)))
    array_length : (a : Around) (span : Span) (e : ast.Expression) (dot : Span) (w : Word) (x : tree.Expression) (t : Elem)
        → qualifier_class s a e ≡ None → Typed s (with_role Qualifier a) e x → type_of x ≡ ty.Array t → w.text ≡ codes "length"
        → Typed s a (ast.member span e dot w) (checked_at s.lines span dot ty.Int (tree.size x))
    -- elements of arrays (JLS 15.10.3)
    index : (a : Around) (span : Span) (e : ast.Expression) (bracket : Span) (i : ast.Expression) (x y : tree.Expression) (t : Elem)
        → Typed s (with_role Operand a) e x → Typed s (with_role Operand a) i y → type_of x ≡ ty.Array t → type_of y ≡ ty.Int
        → Typed s a (ast.index span e bracket i) (checked_at s.lines span bracket (element_type t) (tree.index x y))
    -- operators (JLS 15.15 to 15.25; JML Reference Manual 12.6.2, 12.6.3), which are checked at their signs
    unary : (a : Around) (span : Span) (op : Word) (e : ast.Expression) (x : tree.Expression) (t : Ty)
        → Typed s (with_role (role_behind op) a) e x → Turns (prefix_of op.text) (type_of x) t
        → Typed s a (ast.unary span op e) (checked_at s.lines span op.span t (tree.unary (prefix_of op.text) x))
    binary : (a : Around) (span : Span) (op : Word) (l r : ast.Expression) (x y : tree.Expression) (t : Ty)
        → Typed s (with_role Operand a) l x → Typed s (with_role Operand a) r y
        → Makes s.classes (kind_of (operator_of op.text)) (type_of x) (type_of y) t
        → Typed s a (ast.binary span op l r) (checked_at s.lines span op.span t (tree.binary (operator_of op.text) x y))
    choose : (a : Around) (span : Span) (c : ast.Expression) (question : Span) (l r : ast.Expression) (b x y : tree.Expression) (t : Ty)
        → Typed s (with_role Operand a) c b → Typed s (with_role Operand a) l x → Typed s (with_role Operand a) r y
        → type_of b ≡ ty.Bool → Chooses s.classes (type_of x) (type_of y) t
        → Typed s a (ast.choose span c question l r) (checked_at s.lines span question t (tree.choose b x y))
    -- casts (JLS 15.16) and type tests (JLS 15.20.2)
    cast : (a : Around) (span : Span) (t : TypeTree) (e : ast.Expression) (to : Ty) (x : tree.Expression)
        → Denotes s.classes t to → Typed s (with_role Operand a) e x → Casts s.classes (type_of x) to
        → Typed s a (ast.cast span t e) (plain s.lines span to (tree.cast x))
    instance_of : (a : Around) (span : Span) (e : ast.Expression) (t : TypeTree) (x : tree.Expression) (to : Ty)
        → Typed s (with_role Operand a) e x → Denotes s.classes t to → AreRelated s.classes (type_of x) to
        → Typed s a (ast.instance_of span e t) (plain s.lines span ty.Bool (tree.instance_of x to))
    -- calls (JLS 15.12) and what is new (JLS 15.9, 15.10.1): the whole right side of what it stands in, and in code alone
    call : (a : Around) (span : Span) (r : ast.Receiver) (w : Word) (es : ast.Expressions) (t : calls.Target) (xs : List tree.Expression)
        (c : Callee) (receiver : tree.Receiver)
        → Targets s a r t → TypedAll s a es xs → callee s t w.text (length xs) ≡ Some c → Receives s w.span t c.method receiver
        → Passes s.classes c.method.params xs → s.is_code ≡ true → a.role ≡ Whole
        → Typed s a (ast.call span r w es) (called_on s span (dot_before r w) w c receiver xs)
    new_object : (a : Around) (span : Span) (w : Word) (es : ast.Expressions) (class id : ℕ) (c : Class) (m : Method) (xs : List tree.Expression)
        → with_id s.classes (class_named s.classes w.text) ≡ Some (class, c) → c.is_abstract ≡ false → c.is_interface ≡ false
        → TypedAll s a es xs → constructor_in s class (length xs) ≡ Some (id, m) → Passes s.classes m.params xs
        → s.is_code ≡ true → a.role ≡ Whole
        → Typed s a (ast.new_object span w es) (plain s.lines span (ty.Ref (class_id class)) (tree.new_object (method_id id) (expressions_of xs)))
    new_array : (a : Around) (span : Span) (w : Word) (e : ast.Expression) (t : Elem) (x : tree.Expression)
        → base_named s.classes w.text ≡ Some t → Typed s (with_role Operand a) e x → type_of x ≡ ty.Int → s.is_code ≡ true → a.role ≡ Whole
        → Typed s a (ast.new_array span w e) (plain s.lines span (ty.Array t) (tree.new_array x))
    -- what specifications alone say: `\old` (JML Reference Manual 12.4.2), `\fresh` (12.4.9), quantifiers (12.4.24)
    old : (a : Around) (span : Span) (e : ast.Expression) (x : tree.Expression)
        → Typed s (in_past a) e x → (type_of x ≡ ty.Void → ⊥) → s.has_past ≡ true
        → Typed s a (ast.old span e) (plain s.lines span (type_of x) (tree.old x))
    fresh : (a : Around) (span : Span) (e : ast.Expression) (x : tree.Expression)
        → Typed s (with_role Operand a) e x → is_reference (type_of x) ≡ true → s.has_past ≡ true
        → Typed s a (ast.fresh span e) (plain s.lines span ty.Bool (tree.fresh x))
    quantifier : (a : Around) (span : Span) (all : Bool) (w : Word) (low : ast.Expression) (low_strict : Bool) (high : ast.Expression)
        (high_strict : Bool) (e : ast.Expression) (l h b : tree.Expression)
        → Typed s (with_role Operand a) low l → Typed s (with_role Operand a) high h → Typed s (in_body w.text a) e b
        → type_of l ≡ ty.Int → type_of h ≡ ty.Int → type_of b ≡ ty.Bool
        → Typed s a (ast.quantifier span all w low low_strict high high_strict e)
        (plain s.lines span ty.Bool (tree.quantifier all (variable_id s a.variables) l low_strict h high_strict b))

  -- what stands before a called name: nothing, `super`, a class or an expression (JLS 6.5.7, 15.12.1)
  pub data Targets (s : Setting) : Around → ast.Receiver → calls.Target → Type 0 where
    implied : (a : Around) → Targets s a ast.implied calls.implied
    super : (a : Around) → Targets s a ast.super calls.super
    of_class : (a : Around) (e : ast.Expression) (dot : Span) (c : ℕ) → qualifier_class s a e ≡ Some c
        → Targets s a (ast.on e dot) (calls.of_class c)
    on : (a : Around) (e : ast.Expression) (dot : Span) (x : tree.Expression) → qualifier_class s a e ≡ None
        → Typed s (with_role Qualifier a) e x → Targets s a (ast.on e dot) (calls.on x)

  -- arguments
  pub data TypedAll (s : Setting) : Around → ast.Expressions → List tree.Expression → Type 0 where
    none : (a : Around) → TypedAll s a ast.no_expressions []
    one_more : (a : Around) (e : ast.Expression) (es : ast.Expressions) (x : tree.Expression) (xs : List tree.Expression)
        → Typed s (with_role Operand a) e x → TypedAll s a es xs → TypedAll s a (ast.more_expressions e es) (x ∷ xs)
