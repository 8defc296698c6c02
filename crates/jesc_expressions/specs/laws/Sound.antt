-- What an expression stands for by the functions, it stands for by the relation.
use Rattle.std.proofs.Common.{◌≡◌, ◌+◌, ℕ, ℤ, Bool, true, false, not, ◌&&◌, ◌||◌, true≢false, suc, Option, Some, None, Ok, List, [], ◌∷◌, length, inl, inr, arith, refl, sym, subst, ap, ◌∙◌, codes, if◌then◌else◌}
use Rattle.std.specs.List.{All}
use Rattle.std.proofs.lemmas.List.Elements.{All-cons}
use Rattle.std.proofs.lemmas.Slice.Eq.{bytes_eq-Decides}
use Rattle.jesc_text.specs.declared.place.Span.{Span}
use Rattle.jesc_ast.specs.declared.word.TypeTree.{TypeTree}
use Rattle.jesc_ast.specs.declared.word.Word.{Word}
use Rattle.jesc_ast.specs.Expressions.{span_of}
use Rattle.jesc_ast.specs.Lines.{place_at}
use Rattle.jesc_ast.specs.Trees as ast
use Rattle.jesc_ast.specs.Trees.{list_of}
use Rattle.jesc_classes.specs.Answers.{Checked, Refusal, and_then, refusal}
use Rattle.jesc_classes.specs.declared.rule.Rule.TheVariants.{N1, Y1, Y3, Y4, Y6, Y7}
use Rattle.jesc_member_rules.specs.Types.{number_value}
use Rattle.jesc_meanings.specs.Ids.{field_id, method_id}
use Rattle.jesc_meanings.specs.Meanings.{class_named}
use Rattle.jesc_operands.specs.Deciding.{are_related, chooses, has_values, is_truth, makes, may_cast, turns}
use Rattle.jesc_operands.specs.Operands.{is_reference, kind_of}
use Rattle.jesc_operands.specs.laws.Decided.{are_related_exactly, chooses_exactly, makes_exactly, may_cast_exactly, turns_exactly}
use Rattle.jesc_tree.specs.declared.class.Class.{Class}
use Rattle.jesc_tree.specs.declared.class.Field.{Field}
use Rattle.jesc_tree.specs.declared.class.Method.{Method}
use Rattle.jesc_tree.specs.declared.ids.ClassId.{ClassId}
use Rattle.jesc_tree.specs.declared.ty.Elem.{Elem}
use Rattle.jesc_tree.specs.declared.ty.Ty.{Ty}
use Rattle.jesc_tree.specs.declared.ty.Ty.TheVariants as ty
use Rattle.jesc_tree.specs.Subtypes.{class_id}
use Rattle.jesc_tree.specs.Trees as tree
use Rattle.jesc_tree.specs.Trees.{expressions_of}
use Rattle.jesc_sites.specs.Arrays.{element_type, index_by, index_of, is_int, length_of, may_call, new_array_of}
use Rattle.jesc_sites.specs.Operations.{binary_by, binary_of, cast_of, choose_by, choose_of, instance_test_of, mismatch, operator_of, prefix_of, takes, unary_by, unary_of}
use Rattle.jesc_sites.specs.Parts.{checked_at, enclosed, first_word, plain, refused_at, refused_in, type_of}
use Rattle.jesc_sites.specs.Plain.{may_be_read, may_say_this, number_by, number_type, outcome_by, this_of}
use Rattle.jesc_sites.specs.Sites.{Around, IsSetting, IsType, Setting, with_role}
use Rattle.jesc_sites.specs.Specified.{fresh_of, in_body, in_past, local_id, old_of, quantifier_of, variable_id}
use Rattle.jesc_sites.specs.declared.site.Role.TheVariants.{Operand, Qualifier}
use Rattle.jesc_references.specs.Calls as calls
use Rattle.jesc_references.specs.Calls.{Callee, arguments_fit, call_of, call_stands, callee, callee_of, called, is_on_this, may_be_called, may_be_used, receiver_of, suits, used_by}
use Rattle.jesc_references.specs.Creations.{made_class, made_class_by, new_object_by, new_object_of}
use Rattle.jesc_references.specs.Fields.{field_by, implied_this, is_absent, is_length, is_of_specification, is_static, is_target, member_by, member_of, name_by, reads_specification, static_field_by}
use Rattle.jesc_references.specs.Known as meant
use Rattle.jesc_references.specs.Known.{Meaning, constructor_in, field_in, meaning_of, qualifier_class, with_id}
use Rattle.jesc_references.specs.Written.{base_named, element_by, written_element, written_type}
use Rattle.jesc_expressions.specs.Resolving.{dot_before, member_at, resolved, resolved_all, role_behind, target, target_at}
use Rattle.jesc_expressions.specs.Typing as typing
use Rattle.jesc_expressions.specs.Typing.{Denotes, Targets, Typed, TypedAll}
use Rattle.jesc_expressions.specs.laws.Entries.{callee_found, constructor_count, method_count}
use Rattle.jesc_expressions.specs.laws.Ranges.{within, written}
use Rattle.jesc_expressions.specs.laws.Tests.{bind, denotes, has_object, has_value, int, may_read, no_void, not_broken, not_failed, passed, passes, read, receives, same, says_this, truth, whole}

-- whichever operand is refused, one is
never_mismatch : {A P : Type 0} (lines : List ℕ) (b c : Bool) (first second all : ast.Expression) (z : A) → mismatch lines b c first second all ≡ Ok z → P
never_mismatch lines true true first second all z e = absurd (cc)
never_mismatch lines true false first second all z e = absurd (cc)
never_mismatch lines false c first second all z e = absurd (cc)

module _ (s : Setting) (known : IsSetting s) where
  -- the refusal of an expression whose type doesn't fit
  abbrev at : ast.Expression → Refusal
  at e = refusal Y1 (place_at s.lines (span_of e)) (first_word e)

  -- the same typed form
  abbrev alike : (a : Around) (e : ast.Expression) (x y : tree.Expression) → ◌≡◌ {A = Checked tree.Expression} (Ok x) (Ok y) → Typed s a e x → Typed s a e y
  alike a e x y h p = subst (Typed s a e) (same x y h) p

  -- ---- literals

  number : (a : Around) (span : Span) (x : List ℕ) (o : Option ℤ) (z : tree.Expression) → number_value x ≡ o → number_by s.lines a.role span x o ≡ Ok z → Typed s a (ast.number span x) z
  number a span x None z v e = absurd (cc)
  number a span x (Some n) z v e =
      let k = passed (may_be_read a.role x n) (Ok (plain s.lines span (number_type x) (tree.number n))) (refusal Y1 (place_at s.lines span) x) z e in
      alike a (ast.number span x) (plain s.lines span (number_type x) (tree.number n)) z k.1
      (elim (read a.role x n k.0) [
        | inl l ↦ typing.number a span x n v l
        | inr h ↦ subst (λ m. Typed s a (ast.number span x) (plain s.lines span (number_type x) (tree.number m))) (sym h.0)
            (typing.greatest_number a span x (v ∙ ap (λ m. Some m) h.0) h.1)
      ])

  -- ---- `this` and `\result`

  this : (a : Around) (span : Span) (z : tree.Expression) → this_of s a.role span ≡ Ok z → Typed s a (ast.this span) z
  this a span z e =
      let x = plain s.lines span (ty.Ref (class_id s.class)) tree.this in
      let k = passed (may_say_this s.this a.role) (Ok x) (refusal Y3 (place_at s.lines span) (codes "this")) z e in
      alike a (ast.this span) x z k.1 (typing.this a span ((says_this s.this a.role).0 k.0))

  outcome : (a : Around) (span : Span) (o : Option Ty) (z : tree.Expression) → s.result ≡ o → outcome_by s.lines span o ≡ Ok z → Typed s a (ast.outcome span) z
  outcome a span None z h e = absurd (cc)
  outcome a span (Some t) z h e = alike a (ast.outcome span) (plain s.lines span t tree.outcome) z e (typing.outcome a span t h)

  -- ---- plain names

  own_field : (a : Around) (span : Span) (x : List ℕ) (id : ℕ) (f : Field) (b : Bool) (z : tree.Expression) → meaning_of s a x ≡ meant.field id f → is_static f ≡ b
      → (if b then Ok (plain s.lines span f.ty (tree.constant (field_id id)))
      else if is_absent s.this && not (is_target a.role) then refused_at Y3 s.lines span x
      else if reads_specification s a.role (is_of_specification f) then refused_at Y4 s.lines span x
      else Ok (plain s.lines span f.ty (tree.member (implied_this s span) (field_id id)))) ≡ Ok z
      → Typed s a (ast.name span x) z
  own_field a span x id f true z m c e = alike a (ast.name span x) (plain s.lines span f.ty (tree.constant (field_id id))) z e (typing.constant a span x id f m c)
  own_field a span x id f false z m c e =
      let y = plain s.lines span f.ty (tree.member (implied_this s span) (field_id id)) in
      let reads = reads_specification s a.role (is_of_specification f) in
      let k = not_broken (is_absent s.this && not (is_target a.role)) (if reads then refused_at Y4 s.lines span x else Ok y) (refusal Y3 (place_at s.lines span) x) z e in
      let l = not_broken reads (Ok y) (refusal Y4 (place_at s.lines span) x) z k.1 in
      alike a (ast.name span x) y z l.1
      (typing.own_field a span x id f m c ((has_object s.this a.role).0 k.0) ((may_read s.is_code a.role (is_of_specification f)).0 l.0))

  name : (a : Around) (span : Span) (x : List ℕ) (m : Meaning) (z : tree.Expression) → meaning_of s a x ≡ m → name_by s a span x m ≡ Ok z → Typed s a (ast.name span x) z
  name a span x (meant.variable i) z m e = alike a (ast.name span x) (plain s.lines span ty.Int (tree.local (local_id (length s.locals + i)))) z e (typing.variable a span x i m)
  name a span x (meant.local b) z m e =
      let y = plain s.lines span b.ty (tree.local b.local) in
      let reads = reads_specification s a.role b.is_ghost in
      let past = a.in_old && not b.is_parameter in
      let k = not_broken reads (if past then refused_at Y6 s.lines span x else Ok y) (refusal Y4 (place_at s.lines span) x) z e in
      let l = not_broken past (Ok y) (refusal Y6 (place_at s.lines span) x) z k.1 in
      alike a (ast.name span x) y z l.1
      (typing.local a span x b m ((may_read s.is_code a.role b.is_ghost).0 k.0) ((has_value a.in_old b.is_parameter).0 l.0))
  name a span x (meant.field id f) z m e = own_field a span x id f (is_static f) z m refl e
  name a span x meant.unknown z m e = absurd (cc)

  -- ---- behind a dot

  class_constant : (a : Around) (span : Span) (i : ast.Expression) (dot : Span) (w : Word) (c : ℕ) (o : Option (ℕ × Field)) (z : tree.Expression)
      → qualifier_class s a i ≡ Some c → field_in s c w.text ≡ o → static_field_by s span (ast.member span i dot w) w o ≡ Ok z → Typed s a (ast.member span i dot w) z
  class_constant a span i dot w c None z q h e = absurd (cc)
  class_constant a span i dot w c (Some f) z q h e =
      let whole = ast.member span i dot w in
      let y = plain s.lines span f.1.ty (tree.constant (field_id f.0)) in
      let k = passed (is_static f.1) (Ok y) (at whole) z e in
      alike a whole y z k.1 (typing.class_constant a span i dot w c f.0 f.1 q h k.0)

  module _ (a : Around) (span : Span) (i : ast.Expression) (dot : Span) (w : Word) (x : tree.Expression) (q : qualifier_class s a i ≡ None) (p : Typed s (with_role Qualifier a) i x) where
    field : (c : ClassId) (o : Option (ℕ × Field)) (z : tree.Expression) → type_of x ≡ ty.Ref c → field_in s c.0 w.text ≡ o
        → field_by s a.role span (ast.member span i dot w) dot w x o ≡ Ok z → Typed s a (ast.member span i dot w) z
    field c None z t h e = absurd (cc)
    field c (Some f) z t h e =
        let whole = ast.member span i dot w in
        let y = checked_at s.lines span dot f.1.ty (tree.member x (field_id f.0)) in
        let reads = reads_specification s a.role (is_of_specification f.1) in
        let k = not_broken (is_static f.1) (if reads then refused_at Y4 s.lines w.span w.text else Ok y) (at whole) z e in
        let l = not_broken reads (Ok y) (refusal Y4 (place_at s.lines w.span) w.text) z k.1 in
        alike a whole y z l.1 (typing.field a span i dot w x c f.0 f.1 q p t h k.0 ((may_read s.is_code a.role (is_of_specification f.1)).0 l.0))

    no_length : (b : Bool) (z : tree.Expression) → (if b then refused_in Y1 s.lines i else refused_at N1 s.lines w.span w.text) ≡ Ok z → Typed s a (ast.member span i dot w) z
    no_length true z e = absurd (cc)
    no_length false z e = absurd (cc)

    member : (t : Ty) (z : tree.Expression) → type_of x ≡ t → member_by s a.role span (ast.member span i dot w) i dot w x t ≡ Ok z → Typed s a (ast.member span i dot w) z
    member (ty.Ref c) z t e = field c (field_in s c.0 w.text) z t refl e
    member (ty.Array element) z t e =
        let k = passed (is_length w) (Ok (length_of s.lines span dot x)) (refusal N1 (place_at s.lines w.span) w.text) z e in
        alike a (ast.member span i dot w) (length_of s.lines span dot x) z k.1
        (typing.array_length a span i dot w x element q p t ((bytes_eq-Decides w.text (codes "length")).0 k.0))
    member t z h e = no_length (is_length w) z e

  behind_dot : (a : Around) (span : Span) (i : ast.Expression) (dot : Span) (w : Word) (o : Option ℕ) (c : Checked tree.Expression) (z : tree.Expression)
      → qualifier_class s a i ≡ o → ((x : tree.Expression) → c ≡ Ok x → Typed s (with_role Qualifier a) i x)
      → member_at s a span (ast.member span i dot w) i dot w o c ≡ Ok z → Typed s a (ast.member span i dot w) z
  behind_dot a span i dot w (Some class) c z q p e = class_constant a span i dot w class (field_in s class w.text) z q refl e
  behind_dot a span i dot w None c z q p e =
      bind c (λ x. member_of s a.role span (ast.member span i dot w) i dot w x) z e (λ x h k. member a span i dot w x q (p x h) (type_of x) z refl k)

  -- ---- elements

  index : (a : Around) (span : Span) (e : ast.Expression) (bracket : Span) (i : ast.Expression) (x y : tree.Expression) (t : Ty) (z : tree.Expression)
      → Typed s (with_role Operand a) e x → Typed s (with_role Operand a) i y → type_of x ≡ t → index_by s.lines span bracket e i x y t ≡ Ok z
      → Typed s a (ast.index span e bracket i) z
  index a span e bracket i x y (ty.Array t) z p q k h =
      let made = checked_at s.lines span bracket (element_type t) (tree.index x y) in
      let l = passed (is_int (type_of y)) (Ok made) (at i) z h in
      alike a (ast.index span e bracket i) made z l.1 (typing.index a span e bracket i x y t p q k (int (type_of y) l.0))
  index a span e bracket i x y t z p q k h = absurd (cc)

  -- ---- operators

  unary : (a : Around) (span : Span) (op : Word) (e : ast.Expression) (x : tree.Expression) (o : Option Ty) (z : tree.Expression)
      → Typed s (with_role (role_behind op) a) e x → turns (prefix_of op.text) (type_of x) ≡ o → unary_by s.lines span op e x o ≡ Ok z
      → Typed s a (ast.unary span op e) z
  unary a span op e x None z p m h = absurd (cc)
  unary a span op e x (Some t) z p m h =
      alike a (ast.unary span op e) (checked_at s.lines span op.span t (tree.unary (prefix_of op.text) x)) z h
      (typing.unary a span op e x t p ((turns_exactly (prefix_of op.text) (type_of x) t).0 m))

  binary : (a : Around) (span : Span) (op : Word) (l r : ast.Expression) (x y : tree.Expression) (o : Option Ty) (z : tree.Expression)
      → Typed s (with_role Operand a) l x → Typed s (with_role Operand a) r y → makes s.classes (kind_of (operator_of op.text)) (type_of x) (type_of y) ≡ o
      → binary_by s.lines span op l r x y o ≡ Ok z → Typed s a (ast.binary span op l r) z
  binary a span op l r x y None z p q m h =
      never_mismatch s.lines (takes (kind_of (operator_of op.text)) (type_of x)) (takes (kind_of (operator_of op.text)) (type_of y)) l r (ast.binary span op l r) z h
  binary a span op l r x y (Some t) z p q m h =
      alike a (ast.binary span op l r) (checked_at s.lines span op.span t (tree.binary (operator_of op.text) x y)) z h
      (typing.binary a span op l r x y t p q
      ((makes_exactly s.classes s.fields s.methods known.lawful (kind_of (operator_of op.text)) (type_of x) (type_of y) t (within s known (with_role Operand a) l x p) (within s known (with_role Operand a) r y q)).0 m))

  module _ (a : Around) (span : Span) (c : ast.Expression) (question : Span) (l r : ast.Expression) (b x y : tree.Expression)
      (d : Typed s (with_role Operand a) c b) (p : Typed s (with_role Operand a) l x) (q : Typed s (with_role Operand a) r y) where
    chosen : (o : Option Ty) (z : tree.Expression) → type_of b ≡ ty.Bool → chooses s.classes (type_of x) (type_of y) ≡ o → choose_by s.lines span question c l r b x y o ≡ Ok z
        → Typed s a (ast.choose span c question l r) z
    chosen None z t m h = never_mismatch s.lines (has_values (type_of x)) (has_values (type_of y)) l r (ast.choose span c question l r) z h
    chosen (Some u) z t m h =
        alike a (ast.choose span c question l r) (checked_at s.lines span question u (tree.choose b x y)) z h
        (typing.choose a span c question l r b x y u d p q t
        ((chooses_exactly s.classes s.fields s.methods known.lawful (type_of x) (type_of y) u (within s known (with_role Operand a) l x p) (within s known (with_role Operand a) r y q)).0 m))

    choose : (z : tree.Expression) → choose_of s span question c l r b x y ≡ Ok z → Typed s a (ast.choose span c question l r) z
    choose z h =
        let o = chooses s.classes (type_of x) (type_of y) in
        let k = passed (is_truth (type_of b)) (choose_by s.lines span question c l r b x y o) (at c) z h in
        chosen o z (truth (type_of b) k.0) refl k.1

  -- ---- casts and tests

  cast : (a : Around) (span : Span) (t : TypeTree) (e : ast.Expression) (to : Ty) (x z : tree.Expression)
      → Denotes s.classes t to → Typed s (with_role Operand a) e x → cast_of s span e to x ≡ Ok z → Typed s a (ast.cast span t e) z
  cast a span t e to x z d p h =
      let made = plain s.lines span to (tree.cast x) in
      let k = passed (may_cast s.classes (type_of x) to) (Ok made) (at e) z h in
      alike a (ast.cast span t e) made z k.1
      (typing.cast a span t e to x d p ((may_cast_exactly s.classes s.fields s.methods known.lawful (type_of x) to (within s known (with_role Operand a) e x p) (written s known t to d)).0 k.0))

  instance_test : (a : Around) (span : Span) (e : ast.Expression) (t : TypeTree) (x : tree.Expression) (to : Ty) (z : tree.Expression)
      → Typed s (with_role Operand a) e x → Denotes s.classes t to → instance_test_of s span (ast.instance_of span e t) e to x ≡ Ok z
      → Typed s a (ast.instance_of span e t) z
  instance_test a span e t x to z p d h =
      let made = plain s.lines span ty.Bool (tree.instance_of x to) in
      let all = ast.instance_of span e t in
      let k = not_failed (is_reference (type_of x)) (if are_related s.classes (type_of x) to then Ok made else refused_in Y1 s.lines all) (at e) z h in
      let l = passed (are_related s.classes (type_of x) to) (Ok made) (at all) z k.1 in
      alike a all made z l.1
      (typing.instance_of a span e t x to p d ((are_related_exactly s.classes s.fields s.methods known.lawful (type_of x) to (within s known (with_role Operand a) e x p) (written s known t to d)).0 l.0))

  -- ---- calls

  target_behind : (a : Around) (e : ast.Expression) (dot : Span) (o : Option ℕ) (c : Checked tree.Expression) (t : calls.Target) → qualifier_class s a e ≡ o
      → ((x : tree.Expression) → c ≡ Ok x → Typed s (with_role Qualifier a) e x) → target_at s o c ≡ Ok t → Targets s a (ast.on e dot) t
  target_behind a e dot (Some class) c t q p h = subst (Targets s a (ast.on e dot)) (same (calls.of_class class) t h) (typing.Targets.of_class a e dot class q)
  target_behind a e dot None c t q p h =
      bind c (λ x. Ok (calls.on x)) t h (λ x k m. subst (Targets s a (ast.on e dot)) (same (calls.on x) t m) (typing.Targets.on a e dot x q (p x k)))

  -- the arguments are as many as their trees, and their types are in range
  counted : (a : Around) (es : ast.Expressions) (xs : List tree.Expression) → TypedAll s a es xs → length (list_of es) ≡ length xs
  counted a es xs (typing.TypedAll.none b) = refl
  counted a es xs (typing.TypedAll.one_more b i is y ys p q) = ap suc (counted b is ys q)

  pub all_within : (a : Around) (es : ast.Expressions) (xs : List tree.Expression) → TypedAll s a es xs → All (λ x. IsType s (type_of x)) xs
  all_within a es xs (typing.TypedAll.none b) = λ k d l. absurd (omega (arith, l))
  all_within a es xs (typing.TypedAll.one_more b i is y ys p q) =
      All-cons (λ x. IsType s (type_of x)) y ys (within s known (with_role Operand b) i y p) (all_within b is ys q)

  module _ (a : Around) (span : Span) (r : ast.Receiver) (w : Word) (es : ast.Expressions) (t : calls.Target) (xs : List tree.Expression)
      (p : Targets s a r t) (q : TypedAll s a es xs) where
    abbrev all : ast.Expression
    all = ast.call span r w es

    -- the callee is the method that the name means, and may be used there
    used : (o : Option Callee) (c : Callee) → callee s t w.text (length xs) ≡ o → used_by s a.role all t (list_of es) xs o ≡ Ok c
        → (callee s t w.text (length xs) ≡ Some c) × (may_be_used s a.role all t (list_of es) xs c.method ≡ Ok tt)
    used None c m h = absurd (cc)
    used (Some d) c m h =
        bind (may_be_used s a.role all t (list_of es) xs d.method) (λ _. Ok d) c h (λ _ k l.
        let e = same d c l in
        (m ∙ ap (λ x. Some x) e, subst (λ (x : Callee). may_be_used s a.role all t (list_of es) xs x.method ≡ Ok tt) e k))

    call_to : (c : Callee) → callee s t w.text (length xs) ≡ Some c → may_be_used s a.role all t (list_of es) xs c.method ≡ Ok tt
        → Typed s a all (called s span (dot_before r w) w t c xs)
    call_to c m h =
        let fit = arguments_fit s.classes s.lines xs c.method.params (list_of es) in
        let this_breaks = is_on_this t c.method && not (may_be_called s.this c.method) in
        let may = may_call s.is_code a.role in
        let last : Checked (Unit {0}) = if not may then refused_in Y7 s.lines all else Ok tt in
        let k = not_failed (suits t c.method) (and_then fit (λ _. call_stands s a.role all t c.method)) (at all) tt h in
        bind fit (λ _. call_stands s a.role all t c.method) tt k.1 (λ _ f g.
        let l = not_broken this_breaks last (refusal Y3 (place_at s.lines (span_of all)) (first_word all)) tt g in
        let n = not_failed may (Ok tt) (refusal Y7 (place_at s.lines (span_of all)) (first_word all)) tt l.1 in
        let u = whole s.is_code a.role n.0 in
        let count = method_count s c.class w.text (length xs) c.id c.method (callee_found s t w.text (length xs) c m) in
        typing.call a span r w es t xs c (receiver_of s w.span t c.method) p q m (receives s known w.span t c.method k.0 l.0)
        (passes s known c.method.params (list_of es) xs (all_within a es xs q) count (counted a es xs q) f) u.0 u.1)

    call : (z : tree.Expression) → call_of s a.role span all (dot_before r w) w t (list_of es) xs ≡ Ok z → Typed s a all z
    call z h =
        bind (callee_of s a.role all w t (list_of es) xs) (λ c. Ok (called s span (dot_before r w) w t c xs)) z h (λ c k l.
        let u = used (callee s t w.text (length xs)) c refl k in
        alike a all (called s span (dot_before r w) w t c xs) z l (call_to c u.0 u.1))

  -- ---- what is new

  module _ (a : Around) (span : Span) (w : Word) (es : ast.Expressions) where
    object : (class : ℕ) (d : Class) (xs : List tree.Expression) (o : Option (ℕ × Method)) (z : tree.Expression)
        → with_id s.classes (class_named s.classes w.text) ≡ Some (class, d) → d.is_abstract ≡ false → d.is_interface ≡ false → TypedAll s a es xs
        → constructor_in s class (length xs) ≡ o → new_object_by s a.role span class (list_of es) xs o ≡ Ok z → Typed s a (ast.new_object span w es) z
    object class d xs None z n x y q m h = absurd (cc)
    object class d xs (Some c) z n x y q m h =
        let fit = arguments_fit s.classes s.lines xs c.1.params (list_of es) in
        let may = may_call s.is_code a.role in
        let made = plain s.lines span (ty.Ref (class_id class)) (tree.new_object (method_id c.0) (expressions_of xs)) in
        let last : Checked tree.Expression = if not may then refused_at Y7 s.lines span (codes "new") else Ok made in
        bind fit (λ _. last) z h (λ _ f g.
        let k = not_failed may (Ok made) (refusal Y7 (place_at s.lines span) (codes "new")) z g in
        let u = whole s.is_code a.role k.0 in
        alike a (ast.new_object span w es) made z k.1
        (typing.new_object a span w es class c.0 d c.1 xs n x y q m
        (passes s known c.1.params (list_of es) xs (all_within a es xs q) (constructor_count s class (length xs) c.0 c.1 m) (counted a es xs q) f) u.0 u.1))

    neither : (b c : Bool) → (b || c) ≡ false → (b ≡ false) × (c ≡ false)
    neither true c e = absurd (true≢false e)
    neither false c e = (refl, e)

    of_class : (o : Option (ℕ × Class)) (class : ℕ) (xs : List tree.Expression) (z : tree.Expression) → with_id s.classes (class_named s.classes w.text) ≡ o
        → made_class_by s w o ≡ Ok class → TypedAll s a es xs → new_object_of s a.role span class (list_of es) xs ≡ Ok z → Typed s a (ast.new_object span w es) z
    of_class None class xs z n e q h = absurd (cc)
    of_class (Some c) class xs z n e q h =
        let k = not_broken (c.1.is_abstract || c.1.is_interface) (Ok c.0) (refusal Y1 (place_at s.lines w.span) w.text) class e in
        let u = neither c.1.is_abstract c.1.is_interface k.0 in
        let id = same c.0 class k.1 in
        object class c.1 xs (constructor_in s class (length xs)) z (n ∙ ap (λ i. Some (i, c.1)) id) u.0 u.1 q refl h

  new_array : (a : Around) (span : Span) (w : Word) (e : ast.Expression) (t : Elem) (x z : tree.Expression)
      → base_named s.classes w.text ≡ Some t → Typed s (with_role Operand a) e x → new_array_of s a.role span e t x ≡ Ok z → Typed s a (ast.new_array span w e) z
  new_array a span w e t x z n p h =
      let made = plain s.lines span (ty.Array t) (tree.new_array x) in
      let may = may_call s.is_code a.role in
      let last : Checked tree.Expression = if may then Ok made else refused_at Y7 s.lines span (codes "new") in
      let k = not_failed (is_int (type_of x)) last (at e) z h in
      let l = passed may (Ok made) (refusal Y7 (place_at s.lines span) (codes "new")) z k.1 in
      let u = whole s.is_code a.role l.0 in
      alike a (ast.new_array span w e) made z l.1 (typing.new_array a span w e t x n p (int (type_of x) k.0) u.0 u.1)

  element_of : (w : Word) (o : Option Elem) (t : Elem) → element_by s.lines w o ≡ Ok t → o ≡ Some t
  element_of w None t e = absurd (cc)
  element_of w (Some x) t e = ap (λ y. Some y) (same x t e)

  -- ---- what specifications alone say

  old : (a : Around) (span : Span) (e : ast.Expression) (x z : tree.Expression) → Typed s (in_past a) e x → old_of s span e x ≡ Ok z → Typed s a (ast.old span e) z
  old a span e x z p h =
      let made = plain s.lines span (type_of x) (tree.old x) in
      let last : Checked tree.Expression = if s.has_past then Ok made else refused_at Y6 s.lines span (codes "\\old") in
      let k = not_failed (has_values (type_of x)) last (at e) z h in
      let l = passed s.has_past (Ok made) (refusal Y6 (place_at s.lines span) (codes "\\old")) z k.1 in
      alike a (ast.old span e) made z l.1 (typing.old a span e x p (no_void (type_of x) k.0) l.0)

  fresh : (a : Around) (span : Span) (e : ast.Expression) (x z : tree.Expression) → Typed s (with_role Operand a) e x → fresh_of s span e x ≡ Ok z → Typed s a (ast.fresh span e) z
  fresh a span e x z p h =
      let made = plain s.lines span ty.Bool (tree.fresh x) in
      let last : Checked tree.Expression = if s.has_past then Ok made else refused_at Y6 s.lines span (codes "\\fresh") in
      let k = not_failed (is_reference (type_of x)) last (at e) z h in
      let l = passed s.has_past (Ok made) (refusal Y6 (place_at s.lines span) (codes "\\fresh")) z k.1 in
      alike a (ast.fresh span e) made z l.1 (typing.fresh a span e x p k.0 l.0)

  quantifier : (a : Around) (span : Span) (all : Bool) (w : Word) (low : ast.Expression) (low_strict : Bool) (high : ast.Expression) (high_strict : Bool) (e : ast.Expression) (l h b z : tree.Expression)
      → Typed s (with_role Operand a) low l → Typed s (with_role Operand a) high h → Typed s (in_body w.text a) e b
      → quantifier_of s a.variables span all low low_strict high high_strict e l h b ≡ Ok z → Typed s a (ast.quantifier span all w low low_strict high high_strict e) z
  quantifier a span all w low low_strict high high_strict e l h b z p q r k =
      let made = plain s.lines span ty.Bool (tree.quantifier all (variable_id s a.variables) l low_strict h high_strict b) in
      let third : Checked tree.Expression = if not (is_truth (type_of b)) then refused_in Y1 s.lines e else Ok made in
      let second : Checked tree.Expression = if not (is_int (type_of h)) then refused_in Y1 s.lines high else third in
      let first = not_failed (is_int (type_of l)) second (at low) z k in
      let next = not_failed (is_int (type_of h)) third (at high) z first.1 in
      let last = not_failed (is_truth (type_of b)) (Ok made) (at e) z next.1 in
      alike a (ast.quantifier span all w low low_strict high high_strict e) made z last.1
      (typing.quantifier a span all w low low_strict high high_strict e l h b p q r (int (type_of l) first.0) (int (type_of h) next.0) (truth (type_of b) last.0))

  -- ---- the law

  mutual
    pub sound : (a : Around) (e : ast.Expression) (z : tree.Expression) → resolved s a e ≡ Ok z → Typed s a e z
    sound a (ast.number span x) z h = number a span x (number_value x) z refl h
    sound a (ast.truth span b) z h = alike a (ast.truth span b) (plain s.lines span ty.Bool (tree.truth b)) z h (typing.truth a span b)
    sound a (ast.null span) z h = alike a (ast.null span) (plain s.lines span ty.Null tree.null) z h (typing.null a span)
    sound a (ast.this span) z h = this a span z h
    sound a (ast.outcome span) z h = outcome a span s.result z refl h
    sound a (ast.name span x) z h = name a span x (meaning_of s a x) z refl h
    sound a (ast.paren span e) z h =
        bind (resolved s (with_role Operand a) e) (λ x. Ok (enclosed s.lines span x)) z h (λ x p k.
        alike a (ast.paren span e) (enclosed s.lines span x) z k (typing.paren a span e x (sound (with_role Operand a) e x p)))
    sound a (ast.member span e dot w) z h =
        behind_dot a span e dot w (qualifier_class s a e) (resolved s (with_role Qualifier a) e) z refl (sound (with_role Qualifier a) e) h
    sound a (ast.index span e bracket i) z h =
        bind (resolved s (with_role Operand a) e) (λ x. and_then (resolved s (with_role Operand a) i) (λ y. index_of s.lines span bracket e i x y)) z h (λ x p k.
        bind (resolved s (with_role Operand a) i) (λ y. index_of s.lines span bracket e i x y) z k (λ y q l.
        index a span e bracket i x y (type_of x) z (sound (with_role Operand a) e x p) (sound (with_role Operand a) i y q) refl l))
    sound a (ast.unary span op e) z h =
        bind (resolved s (with_role (role_behind op) a) e) (λ x. unary_of s.lines span op e x) z h (λ x p k.
        unary a span op e x (turns (prefix_of op.text) (type_of x)) z (sound (with_role (role_behind op) a) e x p) refl k)
    sound a (ast.binary span op l r) z h =
        bind (resolved s (with_role Operand a) l) (λ x. and_then (resolved s (with_role Operand a) r) (λ y. binary_of s span op l r x y)) z h (λ x p k.
        bind (resolved s (with_role Operand a) r) (λ y. binary_of s span op l r x y) z k (λ y q m.
        binary a span op l r x y (makes s.classes (kind_of (operator_of op.text)) (type_of x) (type_of y)) z (sound (with_role Operand a) l x p) (sound (with_role Operand a) r y q) refl m))
    sound a (ast.choose span c question l r) z h =
        bind (resolved s (with_role Operand a) c)
        (λ b. and_then (resolved s (with_role Operand a) l) (λ x. and_then (resolved s (with_role Operand a) r) (λ y. choose_of s span question c l r b x y))) z h (λ b d k.
        bind (resolved s (with_role Operand a) l) (λ x. and_then (resolved s (with_role Operand a) r) (λ y. choose_of s span question c l r b x y)) z k (λ x p m.
        bind (resolved s (with_role Operand a) r) (λ y. choose_of s span question c l r b x y) z m (λ y q n.
        choose a span c question l r b x y (sound (with_role Operand a) c b d) (sound (with_role Operand a) l x p) (sound (with_role Operand a) r y q) z n)))
    sound a (ast.cast span t e) z h =
        bind (written_type s t) (λ to. and_then (resolved s (with_role Operand a) e) (λ x. cast_of s span e to x)) z h (λ to d k.
        bind (resolved s (with_role Operand a) e) (λ x. cast_of s span e to x) z k (λ x p m.
        cast a span t e to x z (denotes s t to d) (sound (with_role Operand a) e x p) m))
    sound a (ast.instance_of span e t) z h =
        bind (resolved s (with_role Operand a) e) (λ x. and_then (written_type s t) (λ to. instance_test_of s span (ast.instance_of span e t) e to x)) z h (λ x p k.
        bind (written_type s t) (λ to. instance_test_of s span (ast.instance_of span e t) e to x) z k (λ to d m.
        instance_test a span e t x to z (sound (with_role Operand a) e x p) (denotes s t to d) m))
    sound a (ast.call span r w es) z h =
        bind (target s a r) (λ t. and_then (resolved_all s a es) (λ xs. call_of s a.role span (ast.call span r w es) (dot_before r w) w t (list_of es) xs)) z h (λ t p k.
        bind (resolved_all s a es) (λ xs. call_of s a.role span (ast.call span r w es) (dot_before r w) w t (list_of es) xs) z k (λ xs q m.
        call a span r w es t xs (sound_target a r t p) (sound_all a es xs q) z m))
    sound a (ast.new_object span w es) z h =
        bind (made_class s w) (λ class. and_then (resolved_all s a es) (λ xs. new_object_of s a.role span class (list_of es) xs)) z h (λ class c k.
        bind (resolved_all s a es) (λ xs. new_object_of s a.role span class (list_of es) xs) z k (λ xs q m.
        of_class a span w es (with_id s.classes (class_named s.classes w.text)) class xs z refl c (sound_all a es xs q) m))
    sound a (ast.new_array span w e) z h =
        bind (written_element s w) (λ t. and_then (resolved s (with_role Operand a) e) (λ x. new_array_of s a.role span e t x)) z h (λ t n k.
        bind (resolved s (with_role Operand a) e) (λ x. new_array_of s a.role span e t x) z k (λ x p m.
        new_array a span w e t x z (element_of w (base_named s.classes w.text) t n) (sound (with_role Operand a) e x p) m))
    sound a (ast.old span e) z h = bind (resolved s (in_past a) e) (λ x. old_of s span e x) z h (λ x p k. old a span e x z (sound (in_past a) e x p) k)
    sound a (ast.fresh span e) z h =
        bind (resolved s (with_role Operand a) e) (λ x. fresh_of s span e x) z h (λ x p k. fresh a span e x z (sound (with_role Operand a) e x p) k)
    sound a (ast.quantifier span all w low low_strict high high_strict e) z h =
        let own : tree.Expression → tree.Expression → tree.Expression → Checked tree.Expression = λ l u b. quantifier_of s a.variables span all low low_strict high high_strict e l u b in
        bind (resolved s (with_role Operand a) low) (λ l. and_then (resolved s (with_role Operand a) high) (λ u. and_then (resolved s (in_body w.text a) e) (λ b. own l u b))) z h (λ l p k.
        bind (resolved s (with_role Operand a) high) (λ u. and_then (resolved s (in_body w.text a) e) (λ b. own l u b)) z k (λ u q m.
        bind (resolved s (in_body w.text a) e) (λ b. own l u b) z m (λ b r n.
        quantifier a span all w low low_strict high high_strict e l u b z (sound (with_role Operand a) low l p) (sound (with_role Operand a) high u q) (sound (in_body w.text a) e b r) n)))

    pub sound_target : (a : Around) (r : ast.Receiver) (t : calls.Target) → target s a r ≡ Ok t → Targets s a r t
    sound_target a ast.implied t h = subst (Targets s a ast.implied) (same calls.implied t h) (typing.Targets.implied a)
    sound_target a ast.super t h = subst (Targets s a ast.super) (same calls.super t h) (typing.Targets.super a)
    sound_target a (ast.on e dot) t h = target_behind a e dot (qualifier_class s a e) (resolved s (with_role Qualifier a) e) t refl (sound (with_role Qualifier a) e) h

    pub sound_all : (a : Around) (es : ast.Expressions) (xs : List tree.Expression) → resolved_all s a es ≡ Ok xs → TypedAll s a es xs
    sound_all a ast.no_expressions xs h = subst (TypedAll s a ast.no_expressions) (same [] xs h) (typing.TypedAll.none a)
    sound_all a (ast.more_expressions e es) xs h =
        bind (resolved s (with_role Operand a) e) (λ y. and_then (resolved_all s a es) (λ ys. Ok (y ∷ ys))) xs h (λ y p k.
        bind (resolved_all s a es) (λ ys. Ok (y ∷ ys)) xs k (λ ys q m.
        subst (TypedAll s a (ast.more_expressions e es)) (same (y ∷ ys) xs m) (typing.TypedAll.one_more a e es y ys (sound (with_role Operand a) e y p) (sound_all a es ys q))))
