-- What is found by a name is an entry of its table.
use Rattle.std.proofs.Common.{◌≡◌, ℕ, ◌<◌, true, not, ◌&&◌, bytes_eq, nat_eq, Option, Some, None, List, length, refl, sym, subst, ap, ◌∙◌, eqb-true}
use Rattle.std.specs.List.{All, slice_get}
use Rattle.std.proofs.lemmas.Bool.{and_parts}
use Rattle.std.proofs.lemmas.Option.{get_or_from_slice_get, slice_get_within}
use Rattle.jesc_classes.specs.Named.{find}
use Rattle.jesc_meanings.specs.Meanings.{constructor_found, method_found, passes}
use Rattle.jesc_meanings.specs.laws.Finding.{constructor_named, method_named}
use Rattle.jesc_tree.specs.declared.class.Field.{Field}
use Rattle.jesc_tree.specs.declared.class.Method.{Method}
use Rattle.jesc_sites.specs.Sites.{Around, Setting}
use Rattle.jesc_sites.specs.declared.site.Binding.{Binding}
use Rattle.jesc_references.specs.Calls.{Callee, Target, callee, callee_by, callee_in, searched}
use Rattle.jesc_references.specs.Known as known
use Rattle.jesc_references.specs.Known.{constructor_in, field_in, last_from, meaning_by, meaning_of, method_in, there, with_id}

-- ---- entries

there_same : {X : Type 0} (i : ℕ) (o : Option X) (id : ℕ) (x : X) → there i o ≡ Some (id, x) → (i ≡ id) × (o ≡ Some x)
there_same i None id x e = absurd (cc)
there_same {X = X} i (Some y) id x e = let same : ◌≡◌ {A = ℕ × X} (i, y) (id, x) = cc in (ap (λ p. p.0) same, ap (λ p. Some p.1) same)

-- the entry is that of its id
pub entry_at : {X : Type 0} (items : List X) (o : Option ℕ) (id : ℕ) (x : X) → with_id items o ≡ Some (id, x) → (o ≡ Some id) × (slice_get items id ≡ Some x)
entry_at items None id x e = absurd (cc)
entry_at items (Some i) id x e =
    let h = there_same i (slice_get items i) id x e in
    (ap (λ n. Some n) h.0, ap (slice_get items) (sym h.0) ∙ h.1)

-- what holds of each entry holds of the one with that id
pub all_at : {X : Type 0} (P : X → Type 0) (xs : List X) (id : ℕ) (x : X) → All P xs → slice_get xs id ≡ Some x → P x
all_at P xs id x h e = subst P (get_or_from_slice_get xs id x x e) (h id x (slice_get_within xs id x e))

pub inside : {X : Type 0} (xs : List X) (id : ℕ) (x : X) → slice_get xs id ≡ Some x → id < length xs
inside xs id x e = slice_get_within xs id x e

-- ---- plain names

by_local : (i : Option ℕ) (b : Option Binding) (f : Option (ℕ × Field)) (c : Binding) → meaning_by i b f ≡ known.local c → b ≡ Some c
by_local (Some i) b f c e = absurd (cc)
by_local None (Some b) f c e = cc
by_local None None (Some f) c e = absurd (cc)
by_local None None None c e = absurd (cc)

abbrev field_told : known.Meaning → Option (ℕ × Field)
field_told (known.field id f) = Some (id, f)
field_told m = None

by_field : (i : Option ℕ) (b : Option Binding) (f : Option (ℕ × Field)) (id : ℕ) (g : Field) → meaning_by i b f ≡ known.field id g → f ≡ Some (id, g)
by_field (Some i) b f id g e = absurd (cc)
by_field None (Some b) f id g e = absurd (cc)
by_field None None (Some f) id g e = ap field_told e
by_field None None None id g e = absurd (cc)

pub local_meant : (s : Setting) (a : Around) (name : List ℕ) (b : Binding) → meaning_of s a name ≡ known.local b → find name s.locals ≡ Some b
local_meant s a name b e = by_local (last_from 0 name a.variables) (find name s.locals) (field_in s s.class name) b e

pub field_meant : (s : Setting) (a : Around) (name : List ℕ) (id : ℕ) (f : Field) → meaning_of s a name ≡ known.field id f → field_in s s.class name ≡ Some (id, f)
field_meant s a name id f e = by_field (last_from 0 name a.variables) (find name s.locals) (field_in s s.class name) id f e

-- ---- methods

pub callee_found : (s : Setting) (t : Target) (name : List ℕ) (count : ℕ) (c : Callee) → callee s t name count ≡ Some c → method_in s c.class name count ≡ Some (c.id, c.method)
callee_found s t name count c e = by (searched s t) e
  where
    found : (class : ℕ) (o : Option (ℕ × Method)) → method_in s class name count ≡ o → callee_in class o ≡ Some c → method_in s c.class name count ≡ Some (c.id, c.method)
    found class None m e = absurd (cc)
    found class (Some (id, x)) m e =
        let same : record { class = class; id = id; method = x } ≡ c = cc in
        subst (λ (d : Callee). method_in s d.class name count ≡ Some (d.id, d.method)) same m

    by : (o : Option ℕ) → callee_by s name count o ≡ Some c → method_in s c.class name count ≡ Some (c.id, c.method)
    by None e = absurd (cc)
    by (Some class) e = found class (method_in s class name count) refl e

-- it has so many parameters
pub method_count : (s : Setting) (class : ℕ) (name : List ℕ) (count id : ℕ) (m : Method) → method_in s class name count ≡ Some (id, m) → length m.params ≡ count
method_count s class name count id m e =
    let h = entry_at s.methods (method_found s.classes s.methods name count class) id m e in
    let test = λ (x : Method). not x.is_constructor && (bytes_eq name x.name && nat_eq count (length x.params)) in
    let passed : test m ≡ true = subst (λ o. passes test o ≡ true) h.1 (method_named s.classes s.methods name count class id h.0) in
    let rest = and_parts (not m.is_constructor) (bytes_eq name m.name && nat_eq count (length m.params)) passed in
    let same = and_parts (bytes_eq name m.name) (nat_eq count (length m.params)) rest.1 in
    sym (eqb-true count (length m.params) same.1)

pub constructor_count : (s : Setting) (class count id : ℕ) (m : Method) → constructor_in s class count ≡ Some (id, m) → length m.params ≡ count
constructor_count s class count id m e =
    let h = entry_at s.methods (constructor_found s.classes s.methods count class) id m e in
    let test = λ (x : Method). x.is_constructor && nat_eq count (length x.params) in
    let passed : test m ≡ true = subst (λ o. passes test o ≡ true) h.1 (constructor_named s.classes s.methods count class id h.0) in
    let same = and_parts m.is_constructor (nat_eq count (length m.params)) passed in
    sym (eqb-true count (length m.params) same.1)
