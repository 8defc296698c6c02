-- Which of the members of one class and one name comes first.
use Rattle.std.proofs.Common.{◌≡◌, ℕ, ◌<◌, ◌≤◌, true, List, length, map, get_or, Option, Some, None, refl, ap, sym, ◌∙◌, subst, arith, nat_lt, eq-eqb, ◌&&◌, Bool}
use Rattle.std.specs.List.{slice_get}
use Rattle.std.specs.Option.{option_map}
use Rattle.std.proofs.lemmas.List.{length-map}
use Rattle.std.proofs.lemmas.Option.{slice_get-map, slice_get_read, slice_get_within}
use Rattle.std.proofs.lemmas.Bool.Decides.{Decides-ltb}
use Rattle.std.proofs.lemmas.Slice.Eq.{bytes_eq-Decides}
use Rattle.jesc_classes.specs.Headings.{Source, graph_of}
use Rattle.jesc_classes.specs.Order.{Graph}
use Rattle.jesc_members.specs.Fields.{FieldOf, fields_of, own_field, is_field_named, is_model}
use Rattle.jesc_members.specs.declared.fields.GivenField.{GivenField}
use Rattle.jesc_members.specs.Groups.{NamesModel}
use Rattle.jesc_members.specs.Seen.{seen_field}
use Rattle.jesc_members.specs.Methods.{MethodOf, methods_of, own_method, is_method_named}
use Rattle.jesc_lookup.specs.Lookup.{Found}
use Rattle.jesc_lookup.specs.laws.Lines.{one_found}
use Rattle.jesc_members.specs.Meanings.{FieldFound, MethodFound}
use Rattle.jesc_member_rules.proofs.JudgingFound.{own_found, first_there}

-- the class itself has one before that number
abbrev IsLater : (ℕ → Option ℕ) → ℕ → ℕ → Type 0
IsLater own class n = (k : ℕ) × (own class ≡ Some k) × (k < n)

some_same : {x y : ℕ} → Some x ≡ Some y → x ≡ y
some_same e = cc

field_same : {f g : FieldOf} → Some f ≡ Some g → f ≡ g
field_same e = cc

some_not_none : {x : ℕ} → Some x ≡ None → ⊥
some_not_none e = cc

both_true : (a b : Bool) → a ≡ true → b ≡ true → (a && b) ≡ true
both_true a b e f = cc

later : (graph : Graph) (own : ℕ → Option ℕ) (class first k n : ℕ) → Found graph own class (Some first) → own class ≡ Some k → (nat_lt first n ≡ true → IsLater own class n) × (IsLater own class n → nat_lt first n ≡ true)
later graph own class first k n found is =
    let here : own class ≡ Some first = is ∙ sym (own_found graph own class k (Some first) found is) in (
      (λ t. (first, here, (Decides-ltb first n).0 t)),
      (λ j.
          let same : j.0 ≡ first = some_same (sym j.1 ∙ here) in
          (Decides-ltb first n).1 (subst (λ (i : ℕ). i < n) same j.2)),
    )

field_is_named : (f : FieldOf) → is_field_named f.tree.name.text f.class f ≡ true
field_is_named f = both_true _ _ (eq-eqb f.class f.class refl) ((bytes_eq-Decides f.tree.name.text f.tree.name.text).1 refl)

method_is_named : (m : MethodOf) → is_method_named m.tree.name.text (length m.tree.params) m.class m ≡ true
method_is_named m =
    both_true _ _ (eq-eqb m.class m.class refl)
    (both_true _ _ ((bytes_eq-Decides m.tree.name.text m.tree.name.text).1 refl) (eq-eqb (length m.tree.params) (length m.tree.params) refl))

-- the code looks the name up in the same list and by the same name
pub later_field : (given inside : List Source) (name : List ℕ) (f : FieldOf) (first n : ℕ) → inside ≡ given → name ≡ f.tree.name.text → slice_get (fields_of given) n ≡ Some f → FieldFound inside name f.class (Some first)
    → (nat_lt first n ≡ true → IsLater (own_field given f.tree.name.text) f.class n) × (IsLater (own_field given f.tree.name.text) f.class n → nat_lt first n ≡ true)
later_field given inside name f first n same text at found =
    let here : FieldFound given f.tree.name.text f.class (Some first) = subst (λ (l : List Source). FieldFound l f.tree.name.text f.class (Some first)) same (subst (λ (t : List ℕ). FieldFound inside t f.class (Some first)) text found) in
    let own = first_there (is_field_named f.tree.name.text f.class) n (fields_of given) f at (field_is_named f) in
    later (graph_of given) (own_field given f.tree.name.text) f.class first own.0 n here own.1

pub later_method : (given inside : List Source) (name : List ℕ) (count : ℕ) (m : MethodOf) (first n : ℕ) → inside ≡ given → name ≡ m.tree.name.text → count ≡ length m.tree.params → slice_get (methods_of given) n ≡ Some m → MethodFound inside name count m.class (Some first)
    → (nat_lt first n ≡ true → IsLater (own_method given m.tree.name.text (length m.tree.params)) m.class n) × (IsLater (own_method given m.tree.name.text (length m.tree.params)) m.class n → nat_lt first n ≡ true)
later_method given inside name count m first n same text many at found =
    let here : MethodFound given m.tree.name.text (length m.tree.params) m.class (Some first) =
    subst (λ (l : List Source). MethodFound l m.tree.name.text (length m.tree.params) m.class (Some first)) same
    (subst (λ (t : List ℕ). MethodFound inside t (length m.tree.params) m.class (Some first)) text
    (subst (λ (k : ℕ). MethodFound inside name k m.class (Some first)) many found)) in
    let own = first_there (is_method_named m.tree.name.text (length m.tree.params) m.class) n (methods_of given) m at (method_is_named m) in
    later (graph_of given) (own_method given m.tree.name.text (length m.tree.params)) m.class first own.0 n here own.1

-- ---- the model field that a name means

module _ (given : List Source) (fields : List GivenField) (all : map seen_field fields ≡ fields_of given) (class : ℕ) (name : List ℕ) where
  field_at : (g : ℕ) (f : GivenField) → g < length fields → f ≡ get_or fields g f → slice_get (fields_of given) g ≡ Some (seen_field f)
  field_at g f l e = ap (λ xs. slice_get xs g) (sym all) ∙ slice_get-map seen_field fields g ∙ ap (option_map seen_field) (slice_get_read fields (length fields) g f refl l e)

  same_number : (a b : Option ℕ) → FieldFound given name class a → FieldFound given name class b → a ≡ b
  same_number a b h k = one_found (graph_of given) (own_field given name) class a b h k

  pub means_model : (g : ℕ) (f : GivenField) (b : Bool) → FieldFound given name class (Some g) → g < length fields → f ≡ get_or fields g f → b ≡ is_model (seen_field f)
      → (b ≡ true → (h : ℕ) × NamesModel given class name h) × (((h : ℕ) × NamesModel given class name h) → b ≡ true)
  means_model g f b found l e is = (
    (λ t. (g, (found, (seen_field f, field_at g f l e, sym is ∙ t)))),
    (λ k. by k.0 k.1),
  )
    where
      by : (h : ℕ) → NamesModel given class name h → b ≡ true
      by h k =
          let same : g ≡ h = some_same (same_number (Some g) (Some h) found k.0) in
          let one : seen_field f ≡ k.1.0 = field_same (sym (field_at g f l e) ∙ ap (slice_get (fields_of given)) same ∙ k.1.1) in
          is ∙ ap is_model one ∙ k.1.2

  pub no_model : (h : ℕ) → FieldFound given name class None → NamesModel given class name h → ⊥
  no_model h found k = some_not_none (same_number (Some h) None k.0 found)

  pub model_beyond : (g h : ℕ) → FieldFound given name class (Some g) → length fields ≤ g → NamesModel given class name h → ⊥
  model_beyond g h found l k =
      let same : g ≡ h = some_same (same_number (Some g) (Some h) found k.0) in
      let within : h < length (fields_of given) = slice_get_within (fields_of given) h k.1.0 k.1.1 in
      let long : length (map seen_field fields) ≡ length (fields_of given) = ap length all in
      omega (arith, same, within, long, length-map fields seen_field, l)
