-- Which model fields a field names.
use Rattle.std.proofs.Common.{◌≡◌, ◌↔◌, ℕ, zero, suc, ◌+◌, ◌<◌, Bool, true, false, true≢false, Option, Some, None, List, [], ◌∷◌, ◌++◌, length, map, get_or, take, ◌⊎◌, inl, inr, refl, ap, sym, ◌∙◌, subst, arith, if◌then◌else◌}
use Rattle.std.specs.List.{Contains, slice_get}
use Rattle.std.proofs.lemmas.List.{get_or_default, get_or_append_left, length-append, length-map, take_more}
use Rattle.std.proofs.lemmas.List.Elements.{Contains-append_left, Contains-append_cases, Contains-push, Contains-push_cases}
use Rattle.jesc_ast.specs.declared.word.Word.{Word}
use Rattle.jesc_ast.specs.declared.class.MemberTree.{MemberTree}
use Rattle.jesc_ast.specs.declared.class.MemberNode.{MemberNode}
use Rattle.jesc_ast.specs.declared.class.MemberNode.TheVariants as members
use Rattle.jesc_classes.specs.Headings.{Source, graph_of}
use Rattle.jesc_classes.specs.Order.{Graph, supers, Above, direct, further}
use Rattle.jesc_members.specs.Fields.{FieldOf, field_in, fields_in, fields_from, fields_of, first_that, own_field, is_field_named, is_model}
use Rattle.jesc_lookup.specs.Lookup.{Found, own_one, inherited, FoundIn, nowhere, in_first, in_rest}
use Rattle.jesc_lookup.specs.laws.Lines.{one_found}
use Rattle.jesc_members.specs.Meanings.{FieldFound}
use Rattle.jesc_members.specs.Groups.{NamesModel, IsIn, IsMember, direct as member, further as member_of}
use Rattle.jesc_members.specs.GroupGraph.{AreGroups}
use Rattle.jesc_members.specs.GroupTables.{IsReverse, Names}
use Rattle.jesc_members.proofs.GroupEdges.{in_graph, within_from, turned, turned_back}

-- ---- lists

same_some : {X : Type 0} (x y : X) → Some x ≡ Some y → x ≡ y
same_some x y e = cc

none_some : {X : Type 0} (x : X) → None ≡ Some x → ⊥
none_some x e = cc

pub at_slot : {X Y : Type 0} (f : X → Y) (xs : List X) (k : ℕ) (x : X) → k < length xs → x ≡ get_or xs k x → slice_get (map f xs) k ≡ Some (f x)
at_slot f [] k x l e = absurd (omega (arith, l))
at_slot f (y ∷ xs) zero x l e = ap (λ z. Some (f z)) (sym e)
at_slot f (y ∷ xs) (suc k) x l e = at_slot f xs k x (omega (arith, l)) e

slot_there : {X : Type 0} (xs : List X) (k : ℕ) (x : X) → slice_get xs k ≡ Some x → k < length xs
slot_there [] k x e = absurd (none_some x e)
slot_there (y ∷ xs) zero x e = omega arith
slot_there (y ∷ xs) (suc k) x e = omega (arith, slot_there xs k x e)

slot_in : {X : Type 0} (xs : List X) (k : ℕ) (x : X) → slice_get xs k ≡ Some x → Contains xs x
slot_in [] k x e = absurd (none_some x e)
slot_in (y ∷ xs) zero x e = (0, omega arith, same_some y x e)
slot_in (y ∷ xs) (suc k) x e = let c = slot_in xs k x e in (suc c.0, omega (arith, c.1), c.2)

-- the field at a place, and what a list says of it
flag_at : (xs : List FieldOf) (k : ℕ) (b : Bool) → k < length xs → b ≡ get_or (map is_model xs) k b → (m : FieldOf) × (slice_get xs k ≡ Some m) × (is_model m ≡ b)
flag_at [] k b l e = absurd (omega (arith, l))
flag_at (y ∷ xs) zero b l e = (y, refl, sym e)
flag_at (y ∷ xs) (suc k) b l e = flag_at xs k b (omega (arith, l)) e

pub flag_read : (given : List Source) (models : List Bool) → models ≡ map is_model (fields_of given) → (k : ℕ) → k < length (fields_of given) → (d b : Bool) → get_or models k d ≡ b → (m : FieldOf) × (slice_get (fields_of given) k ≡ Some m) × (is_model m ≡ b)
flag_read given models e k l d b r = flag_at (fields_of given) k b l (sym r ∙ ap (λ ms. get_or ms k d) e ∙ get_or_default (map is_model (fields_of given)) k d b (omega (arith, l, length-map (fields_of given) is_model)))

-- ---- the class of a field is there

class_in : (k : ℕ) (s : Source) (m : MemberNode) (x : FieldOf) → Contains (field_in k s m) x → x.class ≡ k
class_in k s members.Empty x c = absurd (omega (arith, c.1))
class_in k s (members.Field f) x (zero, l, e) = ap (λ (y : FieldOf). y.class) (sym e)
class_in k s (members.Field f) x (suc i, l, e) = absurd (omega (arith, l))
class_in k s (members.SpecField f) x (zero, l, e) = ap (λ (y : FieldOf). y.class) (sym e)
class_in k s (members.SpecField f) x (suc i, l, e) = absurd (omega (arith, l))
class_in k s (members.Invariant i) x c = absurd (omega (arith, c.1))
class_in k s (members.Represents r) x c = absurd (omega (arith, c.1))
class_in k s (members.Method m) x c = absurd (omega (arith, c.1))
class_in k s (members.Constructor m) x c = absurd (omega (arith, c.1))

class_in_all : (k : ℕ) (s : Source) (ms : List MemberTree) (x : FieldOf) → Contains (fields_in k s ms) x → x.class ≡ k
class_in_all k s [] x c = absurd (omega (arith, c.1))
class_in_all k s (m ∷ ms) x c = elim (Contains-append_cases (field_in k s m.node) (fields_in k s ms) x c) [
  | inl d ↦ class_in k s m.node x d
  | inr d ↦ class_in_all k s ms x d
]

class_below : (k : ℕ) (given : List Source) (x : FieldOf) → Contains (fields_from k given) x → x.class < k + length given
class_below k [] x c = absurd (omega (arith, c.1))
class_below k (s ∷ ss) x c = elim (Contains-append_cases (fields_in k s s.tree.members) (fields_from (k + 1) ss) x c) [
  | inl d ↦ omega (arith, class_in_all k s s.tree.members x d)
  | inr d ↦ omega (arith, class_below (k + 1) ss x d)
]

-- ---- what is found

module _ (graph : Graph) (own : ℕ → Option ℕ) where
  mutual
    found_own : (P : ℕ → Type 0) → ((class g : ℕ) → own class ≡ Some g → P g) → {class : ℕ} {a : Option ℕ} → Found graph own class a → (g : ℕ) → a ≡ Some g → P g
    found_own P f (own_one class x e) g is = f class g (e ∙ is)
    found_own P f (inherited class a n h) g is = found_own_in P f h g is

    found_own_in : (P : ℕ → Type 0) → ((class g : ℕ) → own class ≡ Some g → P g) → {classes : List ℕ} {a : Option ℕ} → FoundIn graph own classes a → (g : ℕ) → a ≡ Some g → P g
    found_own_in P f nowhere g is = absurd (none_some g is)
    found_own_in P f (in_first class x rest h) g is = found_own P f h g is
    found_own_in P f (in_rest class rest a h i) g is = found_own_in P f i g is

some_if : (b : Bool) (i j : ℕ) (rest : Option ℕ) → (if b then Some i else rest) ≡ Some j → (j ≡ i) ⊎ (rest ≡ Some j)
some_if true i j rest e = inl (sym (same_some i j e))
some_if false i j rest e = inr e

first_below : {X : Type 0} (test : X → Bool) (n : ℕ) (xs : List X) (g : ℕ) → first_that test n xs ≡ Some g → g < n + length xs
first_below test n [] g e = absurd (none_some g e)
first_below test n (x ∷ xs) g e = elim (some_if (test x) n g (first_that test (n + 1) xs) e) [
  | inl i ↦ omega (arith, i)
  | inr r ↦ omega (arith, first_below test (n + 1) xs g r)
]

pub found_within : (given : List Source) (name : List ℕ) (class g : ℕ) (found : Option ℕ) → FieldFound given name class found → found ≡ Some g → g < length (fields_of given)
found_within given name class g found h is =
    found_own (graph_of given) (own_field given name) (λ x. x < length (fields_of given)) (λ c x e. omega (arith, first_below (is_field_named name c) 0 (fields_of given) x e)) h g is

-- ---- the model field that a name means

pub none_named : (given : List Source) (name : List ℕ) (class : ℕ) → FieldFound given name class None → (g : ℕ) → (None ≡ Some g) ↔ NamesModel given class name g
none_named given name class h g = ((λ e. absurd (none_some g e)), (λ n. absurd (none_some g (one_found (graph_of given) (own_field given name) class None (Some g) h n.0))))

module _ (given : List Source) (name : List ℕ) (class x : ℕ) (h : FieldFound given name class (Some x)) (m : FieldOf) (at : slice_get (fields_of given) x ≡ Some m) where
  same_found : (g : ℕ) → NamesModel given class name g → x ≡ g
  same_found g n = same_some x g (one_found (graph_of given) (own_field given name) class (Some x) (Some g) h n.0)

  pub model_found : is_model m ≡ true → (g : ℕ) → (Some x ≡ Some g) ↔ NamesModel given class name g
  model_found is g = (
    (λ e. subst (NamesModel given class name) (same_some x g e) (h, (m, at, is))),
    (λ n. ap (λ y. Some y) (same_found g n)),
  )

  pub other_found : is_model m ≡ false → (g : ℕ) → (None ≡ Some g) ↔ NamesModel given class name g
  other_found isnt g = (
    (λ e. absurd (none_some g e)),
    (λ n. absurd (true≢false (sym n.1.2 ∙ ap (λ (y : FieldOf). is_model y) (same_some n.1.0 m (sym n.1.1 ∙ ap (slice_get (fields_of given)) (sym (same_found g n)) ∙ at)) ∙ isnt))),
  )

-- ---- the words of one field

abbrev pub IsNamed : List Source → ℕ → List Word → List ℕ → Type 0
IsNamed given class words groups = (g : ℕ) → Contains groups g ↔ Names given class words g

module _ (given : List Source) (class : ℕ) (words : List Word) (i : ℕ) (w : Word) (l : i < length words) (is : w ≡ get_or words i w) (found : Option ℕ) (means : (g : ℕ) → (found ≡ Some g) ↔ NamesModel given class w.text g) (groups : List ℕ) (before : IsNamed given class (take i words) groups) where
  longer : take (i + 1) words ≡ take i words ++ w ∷ []
  longer = take_more words i w l ∙ ap (λ y. take i words ++ y ∷ []) (sym is)

  earlier : (g : ℕ) → Names given class (take i words) g → Names given class (take (i + 1) words) g
  earlier g n = (n.0, subst (λ ts. Contains ts n.0) (sym longer) (Contains-append_left (take i words) (w ∷ []) n.0 n.1), n.2)

  last : (g : ℕ) → found ≡ Some g → Names given class (take (i + 1) words) g
  last g e = (w, subst (λ ts. Contains ts w) (sym longer) (Contains-push (take i words) w), (means g).0 e)

  either : (g : ℕ) → Names given class (take (i + 1) words) g → Contains groups g ⊎ (found ≡ Some g)
  either g n = elim (Contains-push_cases (take i words) w n.0 (subst (λ ts. Contains ts n.0) longer n.1)) [
    | inl c ↦ inl ((before g).1 (n.0, c, n.2))
    | inr e ↦ inr ((means g).1 (subst (λ (v : Word). NamesModel given class v.text g) (sym e) n.2))
  ]

  pub names_one : (x : ℕ) → found ≡ Some x → (new : List ℕ) → new ≡ groups ++ x ∷ [] → IsNamed given class (take (i + 1) words) new
  names_one x f new e = subst (IsNamed given class (take (i + 1) words)) (sym e) (λ g. (
    (λ c. elim (Contains-push_cases groups x g c) [ inl k ↦ earlier g ((before g).0 k) | inr s ↦ last g (f ∙ ap (λ y. Some y) s) ]),
    (λ n. elim (either g n) [
      | inl c ↦ Contains-append_left groups (x ∷ []) g c
      | inr h ↦ subst (Contains (groups ++ x ∷ [])) (same_some x g (sym f ∙ h)) (Contains-push groups x)
    ]),
  ))

  pub names_no : ((x : ℕ) → found ≡ Some x → ⊥) → (new : List ℕ) → new ≡ groups → IsNamed given class (take (i + 1) words) new
  names_no no_one new e = subst (IsNamed given class (take (i + 1) words)) (sym e) (λ g. (
    (λ c. earlier g ((before g).0 c)),
    (λ n. elim (either g n) [ inl c ↦ c | inr h ↦ absurd (no_one g h) ]),
  ))

-- ---- all fields

pub record AreRows (given : List Source) (done : ℕ) (graph : Graph) : Type 0 where
  pub count : length graph ≡ done
  pub each : (f : ℕ) → f < done → (g : ℕ) → Contains (supers graph f) g ↔ IsIn given f g

split : (i k : ℕ) → i < k + 1 → (i < k) ⊎ (i ≡ k)
split zero zero h = inr refl
split zero (suc k) h = inl (omega arith)
split (suc i) zero h = absurd (omega arith)
split (suc i) (suc k) h = elim (split i k (omega arith)) [ inl l ↦ inl (omega (arith, l)) | inr e ↦ inr (ap suc e) ]

at_end : (graph : Graph) (row : List ℕ) → supers (graph ++ row ∷ []) (length graph) ≡ row
at_end [] row = refl
at_end (r ∷ graph) row = at_end graph row

pub more_rows : (given : List Source) (done : ℕ) (graph new : Graph) (row : List ℕ) (x : FieldOf) → AreRows given done graph → slice_get (fields_of given) done ≡ Some x → IsNamed given x.class x.tree.groups row → new ≡ graph ++ row ∷ [] → AreRows given (done + 1) new
more_rows given done graph new row x are at named e = subst (AreRows given (done + 1)) (sym e) (record {
  count = omega (arith, length-append graph (row ∷ []), are.count);
  each = λ f l g. elim (split f done l) [
    | inl less ↦ subst (λ ys. Contains ys g ↔ IsIn given f g) (sym (get_or_append_left graph (row ∷ []) [] f (omega (arith, less, are.count)))) (are.each f less g)
    | inr same ↦ subst (λ k. Contains (supers (graph ++ row ∷ []) k) g ↔ IsIn given k g) (sym same) (subst (λ ys. Contains ys g ↔ IsIn given done g) (sym here) (one g))
  ];
})
  where
    here : supers (graph ++ row ∷ []) done ≡ row
    here = ap (supers (graph ++ row ∷ [])) (sym are.count) ∙ at_end graph row

    one : (g : ℕ) → Contains row g ↔ IsIn given done g
    one g = (
      (λ c. (x, at, (named g).0 c)),
      (λ n. (named g).1 (subst (λ (y : FieldOf). Names given y.class y.tree.groups g) (same_some n.0 x (sym n.1 ∙ at)) n.2)),
    )

pub all_rows : (given : List Source) (done : ℕ) (graph : Graph) → AreRows given done graph → length (fields_of given) ≡ done → AreGroups given graph
all_rows given done graph are l = record {
  count = are.count ∙ sym l;
  within = within_from graph (λ f g c. omega (arith, inside f g ((each f g).0 c), are.count, l));
  each = each;
}
  where
    each : (f g : ℕ) → Contains (supers graph f) g ↔ IsIn given f g
    each f g = (
      (λ c. (are.each f (omega (arith, in_graph graph f g c, are.count)) g).0 c),
      (λ n. (are.each f (omega (arith, slot_there (fields_of given) f n.0 n.1, l)) g).1 n),
    )

    inside : (f g : ℕ) → IsIn given f g → g < length (fields_of given)
    inside f g n = found_within given n.2.0.text n.0.class g (Some g) n.2.2.0 refl

pub slot_class : (given : List Source) (k : ℕ) (x : FieldOf) → slice_get (fields_of given) k ≡ Some x → x.class < length given + 7
slot_class given k x e = omega (arith, class_below 7 given x (slot_in (fields_of given) k x e))

-- ---- members

pub is_member : (given : List Source) (graph : Graph) → AreGroups given graph → {f g : ℕ} → Above graph f g → IsMember given f g
is_member given graph are (direct f g c) = member f g ((are.each f g).0 c)
is_member given graph are (further f g h c rest) = member_of f g h ((are.each f g).0 c) (is_member given graph are rest)

pub is_above : (given : List Source) (graph : Graph) → AreGroups given graph → {f g : ℕ} → IsMember given f g → Above graph f g
is_above given graph are (member f g n) = direct f g ((are.each f g).1 n)
is_above given graph are (member_of f g h n rest) = further f g h ((are.each f g).1 n) (is_above given graph are rest)

pub cycle_says : (given : List Source) (graph slice : Graph) → AreGroups given graph → slice ≡ graph → (f : ℕ) (b : Bool) → (b ≡ true) ↔ Above slice f f → (b ≡ true) ↔ IsMember given f f
cycle_says given graph slice are e f b says = (
  (λ h. is_member given graph are (subst (λ (g : Graph). Above g f f) e (says.0 h))),
  (λ m. says.1 (subst (λ (g : Graph). Above g f f) (sym e) (is_above given graph are m))),
)

pub members_say : (given : List Source) (graph reverse slice : Graph) → AreGroups given graph → IsReverse graph reverse → slice ≡ reverse → (field : ℕ) (members : List ℕ) → ((q : ℕ) → Contains members q ↔ Above slice field q) → (f : ℕ) → Contains members f ↔ IsMember given f field
members_say given graph reverse slice are is e field members says f = (
  (λ c. is_member given graph are (turned_back graph reverse is (subst (λ (g : Graph). Above g field f) e ((says f).0 c)))),
  (λ m. (says f).1 (subst (λ (g : Graph). Above g field f) (sym e) (turned graph reverse is (is_above given graph are m)))),
)
