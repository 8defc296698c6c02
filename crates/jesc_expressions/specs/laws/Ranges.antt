-- The type of a typed expression is in range.
use Rattle.std.proofs.Common.{◌≡◌, ℕ, ◌<◌, Bool, true, false, bytes_eq, Option, Some, None, IfSome, List, [], ◌∷◌, ◌++◌, length, map, arith, refl, sym, subst, codes, if◌then◌else◌, option_map}
use Rattle.std.specs.List.{All, slice_get}
use Rattle.std.specs.Map.{values_of}
use Rattle.std.proofs.lemmas.List.Elements.{All-cons, All-tail}
use Rattle.std.proofs.lemmas.Map.Views.{IfSome-lookup_from_All}
use Rattle.jesc_text.specs.declared.place.Span.{Span}
use Rattle.jesc_ast.specs.declared.word.TypeTree.{TypeTree}
use Rattle.jesc_ast.specs.Trees as ast
use Rattle.jesc_classes.specs.Named.{find}
use Rattle.jesc_meanings.specs.Meanings.{class_named, field_found, method_found}
use Rattle.jesc_meanings.specs.laws.Finding.{class_inside}
use Rattle.jesc_operands.specs.declared.kinds.Kind.{Kind}
use Rattle.jesc_operands.specs.Operands as operands
use Rattle.jesc_operands.specs.Operands.{Chooses, Makes, Turns, wider}
use Rattle.jesc_tree.specs.declared.class.Field.{Field}
use Rattle.jesc_tree.specs.declared.class.Method.{Method}
use Rattle.jesc_tree.specs.declared.ops.UnOp.{UnOp}
use Rattle.jesc_tree.specs.declared.ty.Elem.{Elem}
use Rattle.jesc_tree.specs.declared.ty.Elem.TheVariants as elem
use Rattle.jesc_tree.specs.declared.ty.Ty.{Ty}
use Rattle.jesc_tree.specs.declared.ty.Ty.TheVariants as ty
use Rattle.jesc_tree.specs.Ids.{Id, body_ids, case_ids, each, field_ids, if_there, init_ids, method_ids, of_class, of_field, ty_ids}
use Rattle.jesc_tree.specs.Programs.{IsInRange}
use Rattle.jesc_tree.specs.Subtypes.{class_id}
use Rattle.jesc_tree.specs.Trees as tree
use Rattle.jesc_sites.specs.Arrays.{element_type}
use Rattle.jesc_sites.specs.Parts.{enclosed, type_of}
use Rattle.jesc_sites.specs.Plain.{is_long}
use Rattle.jesc_sites.specs.Sites.{Around, IsSetting, IsType, Setting}
use Rattle.jesc_sites.specs.declared.site.Binding.{Binding}
use Rattle.jesc_references.specs.Known.{field_in, method_in}
use Rattle.jesc_references.specs.Written.{base_named}
use Rattle.jesc_expressions.specs.Typing.{Denotes, Typed}
use Rattle.jesc_expressions.specs.Typing as typing
use Rattle.jesc_expressions.specs.laws.Entries.{all_at, callee_found, entry_at, field_meant, inside, local_meant}

-- ---- parts of lists

all_left : {X : Type 0} (P : X → Type 0) (xs ys : List X) → All P (xs ++ ys) → All P xs
all_left P [] ys h = λ k d l. absurd (omega (arith, l))
all_left P (x ∷ xs) ys h = All-cons P x xs (h 0 x (omega arith)) (all_left P xs ys (All-tail P x (xs ++ ys) h))

all_right : {X : Type 0} (P : X → Type 0) (xs ys : List X) → All P (xs ++ ys) → All P ys
all_right P [] ys h = h
all_right P (x ∷ xs) ys h = all_right P xs ys (All-tail P x (xs ++ ys) h)

all_values : {K X : Type 0} (P : X → Type 0) (es : List (K × X)) → All (λ e. P e.1) es → All P (values_of es)
all_values P [] h = λ k d l. absurd (omega (arith, l))
all_values P (e ∷ es) h = All-cons P e.1 (values_of es) (h 0 e (omega arith)) (all_values P es (All-tail (λ x. P x.1) e es h))

-- ---- types

-- the type of an expression with parentheses around it
pub enclosed_type : (lines : List ℕ) (span : Span) (x : tree.Expression) → type_of (enclosed lines span x) ≡ type_of x
enclosed_type lines span (tree.expression start at dot t form) = refl

module _ (s : Setting) (known : IsSetting s) where
  abbrev InRange : Id → Type 0
  InRange = IsInRange s.classes s.fields s.methods

  -- no id is in no range
  none : All InRange []
  none k d l = absurd (omega (arith, l))

  pub class_type : (c : ℕ) → c < length s.classes → IsType s (ty.Ref (class_id c))
  class_type c l = All-cons InRange (of_class (class_id c)) [] l none

  number : (b : Bool) → IsType s (if b then ty.Long else ty.Int)
  number true = none
  number false = none

  element : (e : Elem) → IsType s (ty.Array e) → IsType s (element_type e)
  element elem.Int h = none
  element elem.Long h = none
  element elem.Bool h = none
  element (elem.Ref c) h = h

  array : (e : Elem) → IsType s (element_type e) → IsType s (ty.Array e)
  array elem.Int h = none
  array elem.Long h = none
  array elem.Bool h = none
  array (elem.Ref c) h = h

  -- ---- entries of the tables

  field_type : (id : ℕ) (f : Field) → slice_get s.fields id ≡ Some f → IsType s f.ty
  field_type id f e =
      let all = all_at (λ g. All InRange (field_ids g)) s.fields id f known.lawful.program.of_fields e in
      let own = of_class f.owner ∷ ty_ids f.ty in
      let first = if_there init_ids f.init in
      All-tail InRange (of_class f.owner) (ty_ids f.ty) (all_left InRange own first (all_left InRange (own ++ first) (map of_field f.members) all))

  result_type : (id : ℕ) (m : Method) → slice_get s.methods id ≡ Some m → IsType s m.result
  result_type id m e =
      let all = all_at (λ g. All InRange (method_ids g)) s.methods id m known.lawful.program.of_methods e in
      let params = of_class m.owner ∷ each (λ p. ty_ids p.ty) m.params in
      let throws = map of_class m.throws in
      let cases = each case_ids m.cases in
      let body = if_there body_ids m.body in
      all_right InRange params (ty_ids m.result)
      (all_left InRange (params ++ ty_ids m.result) throws
      (all_left InRange (params ++ ty_ids m.result ++ throws) cases
      (all_left InRange (params ++ ty_ids m.result ++ throws ++ cases) body all)))

  pub field_of : (class : ℕ) (name : List ℕ) (id : ℕ) (f : Field) → field_in s class name ≡ Some (id, f) → IsType s f.ty
  field_of class name id f e = field_type id f ((entry_at s.fields (field_found s.classes s.fields name class) id f e).1)

  pub local_of : (name : List ℕ) (b : Binding) → find name s.locals ≡ Some b → IsType s b.ty
  local_of name b e =
      let P = λ (l : Binding). IsType s l.ty in
      subst (λ o. IfSome o P) e (IfSome-lookup_from_All P (bytes_eq name) s.locals (all_values P s.locals known.locals))

  pub method_of : (class : ℕ) (name : List ℕ) (count id : ℕ) (m : Method) → method_in s class name count ≡ Some (id, m) → IsType s m.result
  method_of class name count id m e = result_type id m ((entry_at s.methods (method_found s.classes s.methods name count class) id m e).1)

  -- ---- written types

  named : (o : Option ℕ) (e : Elem) → ((c : ℕ) → o ≡ Some c → c < length s.classes) → option_map (λ c. elem.Ref (class_id c)) o ≡ Some e → IsType s (element_type e)
  named None e l h = absurd (cc)
  named (Some c) e l h = subst (λ o. IfSome o (λ x. IsType s (element_type x))) h (class_type c (l c refl))

  chosen : (a b c : Bool) (o : Option Elem) (e : Elem) → (o ≡ Some e → IsType s (element_type e))
      → (if a then Some elem.Int else if b then Some elem.Long else if c then Some elem.Bool else o) ≡ Some e → IsType s (element_type e)
  chosen true b c o e f h = subst (λ o. IfSome o (λ x. IsType s (element_type x))) h none
  chosen false true c o e f h = subst (λ o. IfSome o (λ x. IsType s (element_type x))) h none
  chosen false false true o e f h = subst (λ o. IfSome o (λ x. IsType s (element_type x))) h none
  chosen false false false o e f h = f h

  pub base : (text : List ℕ) (e : Elem) → base_named s.classes text ≡ Some e → IsType s (element_type e)
  base text e h =
      chosen (bytes_eq text (codes "int")) (bytes_eq text (codes "long")) (bytes_eq text (codes "boolean")) (option_map (λ c. elem.Ref (class_id c)) (class_named s.classes text)) e
      (named (class_named s.classes text) e (class_inside s.classes text)) h

  pub written : (t : TypeTree) (to : Ty) → Denotes s.classes t to → IsType s to
  written t to (typing.single u e single h) = base u.base e h
  written t to (typing.array u e array_ h) = array e (base u.base e h)

  -- ---- operations

  wide : (t u : Ty) → IsType s (wider t u)
  wide ty.Int ty.Int = none
  wide t u = none

  made : (k : Kind) (t u r : Ty) → Makes s.classes k t u r → IsType s r
  made k t u r (operands.computes v w p q) = wide v w
  made k t u r (operands.orders v w p q) = none
  made k t u r (operands.equates v w p) = none
  made k t u r operands.joins = none

  turned : (op : UnOp) (t r : Ty) → Turns op t r → IsType s t → IsType s r
  turned op t r (operands.minus u p) h = h
  turned op t r (operands.plus u p) h = h
  turned op t r operands.negates h = h

  picked : (t u r : Ty) → Chooses s.classes t u r → IsType s t → IsType s u → IsType s r
  picked t u r (operands.Chooses.numbers v w p q) g h = wide v w
  picked t u r (operands.second v w n f) g h = h
  picked t u r (operands.first v w n f) g h = g

  -- ---- the law

  pub within : (a : Around) (e : ast.Expression) (x : tree.Expression) → Typed s a e x → IsType s (type_of x)
  within a e x (typing.number b span text n v l) = number (is_long text)
  within a e x (typing.greatest_number b span text v r) = number (is_long text)
  within a e x (typing.truth b span v) = none
  within a e x (typing.null b span) = none
  within a e x (typing.this b span p) = class_type s.class known.class
  within a e x (typing.outcome b span t h) = subst (λ o. All InRange (if_there ty_ids o)) h known.result
  within a e x (typing.variable b span text i m) = none
  within a e x (typing.local b span text l m r v) = local_of text l (local_meant s b text l m)
  within a e x (typing.constant b span text id f m c) = field_of s.class text id f (field_meant s b text id f m)
  within a e x (typing.own_field b span text id f m c o r) = field_of s.class text id f (field_meant s b text id f m)
  within a e x (typing.paren b span i y p) = subst (IsType s) (sym (enclosed_type s.lines span y)) (within _ i y p)
  within a e x (typing.class_constant b span i dot w c id f q m t) = field_of c w.text id f m
  within a e x (typing.field b span i dot w y c id f q p t m k r) = field_of c.0 w.text id f m
  within a e x (typing.array_length b span i dot w y t q p k l) = none
  within a e x (typing.index b span i bracket j y z t p q k l) = element t (subst (IsType s) k (within _ i y p))
  within a e x (typing.unary b span op i y t p k) = turned _ (type_of y) t k (within _ i y p)
  within a e x (typing.binary b span op l r y z t p q m) = made _ (type_of y) (type_of z) t m
  within a e x (typing.choose b span c question l r u y z t o p q k m) = picked (type_of y) (type_of z) t m (within _ l y p) (within _ r z q)
  within a e x (typing.cast b span t i to y d p c) = written t to d
  within a e x (typing.instance_of b span i t y to p d r) = none
  within a e x (typing.call b span r w es t xs c v tg p m g f code whole) = method_of c.class w.text (length xs) c.id c.method (callee_found s t w.text (length xs) c m)
  within a e x (typing.new_object b span w es class id c m xs n t i p k f code whole) = class_type class (inside s.classes class c ((entry_at s.classes (class_named s.classes w.text) class c n).1))
  within a e x (typing.new_array b span w i t y n p k code whole) = array t (base w.text t n)
  within a e x (typing.old b span i y p n k) = within _ i y p
  within a e x (typing.fresh b span i y p n k) = none
  within a e x (typing.quantifier b span all w low low_strict high high_strict i l h y p q r u v t) = none
