-- The types of entries of the tables are in range.
use Rattle.std.proofs.Common.{◌≡◌, ℕ, ◌<◌, bytes_eq, Option, Some, None, IfSome, List, [], ◌∷◌, ◌++◌, length, map, arith, subst}
use Rattle.std.specs.List.{All, slice_get}
use Rattle.std.proofs.lemmas.List.Elements.{All-cons, All-tail}
use Rattle.std.proofs.lemmas.Map.Views.{IfSome-lookup_from_All}
use Rattle.std.specs.Map.{values_of}
use Rattle.std.proofs.lemmas.Option.{get_or_from_slice_get, slice_get_within}
use Rattle.jesc_tree.specs.declared.ids.ClassId.{ClassId}
use Rattle.jesc_tree.specs.declared.class.Class.{Class}
use Rattle.jesc_tree.specs.declared.class.Field.{Field}
use Rattle.jesc_tree.specs.declared.class.Method.{Method}
use Rattle.jesc_tree.specs.Ids.{body_ids, case_ids, class_ids, each, field_ids, method_ids, if_there, init_ids, of_class, of_field, of_method, spec_ids, tree_ids, ty_ids}
use Rattle.jesc_tree.specs.Programs.{IsInRange}
use Rattle.jesc_classes.specs.Named.{find}
use Rattle.jesc_sites.specs.declared.site.Binding.{Binding}
use Rattle.jesc_sites.specs.Sites.{IsSetting, IsType, Setting}

pub all_left : {X : Type 0} (P : X → Type 0) (xs ys : List X) → All P (xs ++ ys) → All P xs
all_left P [] ys h = λ k d l. absurd (omega (arith, l))
all_left P (x ∷ xs) ys h = All-cons P x xs (h 0 x (omega arith)) (all_left P xs ys (All-tail P x (xs ++ ys) h))

pub all_right : {X : Type 0} (P : X → Type 0) (xs ys : List X) → All P (xs ++ ys) → All P ys
all_right P [] ys h = h
all_right P (x ∷ xs) ys h = all_right P xs ys (All-tail P x (xs ++ ys) h)

-- what holds of each entry holds of the one with that id
pub all_at : {X : Type 0} (P : X → Type 0) (xs : List X) (id : ℕ) (x : X) → All P xs → slice_get xs id ≡ Some x → P x
all_at P xs id x h e = subst P (get_or_from_slice_get xs id x x e) (h id x (slice_get_within xs id x e))

pub field_type : (s : Setting) → IsSetting s → (id : ℕ) (f : Field) → slice_get s.fields id ≡ Some f → IsType s f.ty
field_type s known id f e =
    let R = IsInRange s.classes s.fields s.methods in
    let all = all_at (λ g. All R (field_ids g)) s.fields id f known.lawful.program.of_fields e in
    let own = of_class f.owner ∷ ty_ids f.ty in
    let first = if_there init_ids f.init in
    All-tail R (of_class f.owner) (ty_ids f.ty) (all_left R own first (all_left R (own ++ first) (map of_field f.members) all))

all_values : {K X : Type 0} (P : X → Type 0) (es : List (K × X)) → All (λ e. P e.1) es → All P (values_of es)
all_values P [] h = λ k d l. absurd (omega (arith, l))
all_values P (e ∷ es) h = All-cons P e.1 (values_of es) (h 0 e (omega arith)) (all_values P es (All-tail (λ x. P x.1) e es h))

pub local_type : (s : Setting) → IsSetting s → (name : List ℕ) (b : Binding) → find name s.locals ≡ Some b → IsType s b.ty
local_type s known name b e =
    let P = λ (l : Binding). IsType s l.ty in
    subst (λ o. IfSome o P) e (IfSome-lookup_from_All P (bytes_eq name) s.locals (all_values P s.locals known.locals))

pub result_type : (s : Setting) → IsSetting s → (id : ℕ) (m : Method) → slice_get s.methods id ≡ Some m → IsType s m.result
result_type s known id m e =
    let R = IsInRange s.classes s.fields s.methods in
    let all = all_at (λ g. All R (method_ids g)) s.methods id m known.lawful.program.of_methods e in
    let params = of_class m.owner ∷ each (λ p. ty_ids p.ty) m.params in
    let result = ty_ids m.result in
    let throws = map of_class m.throws in
    let cases = each case_ids m.cases in
    let up_to = all_left R (params ++ result) throws (all_left R (params ++ result ++ throws) cases (all_left R (params ++ result ++ throws ++ cases) (if_there body_ids m.body) all)) in
    all_right R params result up_to

from_parent : (s : Setting) (o : Option ClassId) → All (IsInRange s.classes s.fields s.methods) (if_there (λ p. of_class p ∷ []) o) → IfSome o (λ p. p.0 < length s.classes)
from_parent s None h = tt
from_parent s (Some p) h = h 0 (of_class p) (omega arith)

pub parent_inside : (s : Setting) → IsSetting s → (id : ℕ) (c : Class) → slice_get s.classes id ≡ Some c → IfSome c.parent (λ p. p.0 < length s.classes)
parent_inside s known id c e =
    let R = IsInRange s.classes s.fields s.methods in
    let all = all_at (λ g. All R (class_ids g)) s.classes id c known.lawful.program.of_classes e in
    let parent = if_there (λ p. of_class p ∷ []) c.parent in
    let a = parent ++ map of_class c.interfaces in
    let b = a ++ map of_field c.fields in
    let d = b ++ map of_method c.methods in
    let f = d ++ each spec_ids c.invariants in
    from_parent s c.parent (all_left R parent (map of_class c.interfaces) (all_left R a (map of_field c.fields) (all_left R b (map of_method c.methods) (all_left R d (each spec_ids c.invariants)
    (all_left R f (each (λ r. of_field r.0 ∷ tree_ids r.1) c.represents) all)))))
