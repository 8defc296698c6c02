-- The fields and methods of classes, one member after another.
use Rattle.std.proofs.Common.{◌≡◌, ℕ, ◌+◌, ◌<◌, Option, Some, None, List, [], ◌∷◌, ◌++◌, length, map, take, get_or, refl, ap, sym, ◌∙◌, append-nil}
use Rattle.std.proofs.lemmas.List.{map-append}
use Rattle.jesc_ast.specs.declared.class.MemberTree.{MemberTree}
use Rattle.jesc_classes.specs.declared.source.GivenClass.{GivenClass}
use Rattle.jesc_classes.specs.Headings.{Source}
use Rattle.jesc_classes.specs.Sources.{seen}
use Rattle.jesc_members.specs.Fields.{FieldOf, field_in, fields_in, fields_from}
use Rattle.jesc_members.specs.Methods.{MethodOf, method_in, methods_in, methods_from}
use Rattle.jesc_members.specs.GivenMembers.{listed}
use Rattle.jesc_members.proofs.GivenLists.{grows}

-- ---- one member more

module _ (number : ℕ) (s : Source) (ms : List MemberTree) (i : ℕ) (m : MemberTree) (l : i < length ms) (is : m ≡ get_or ms i m) where
  pub more_fields : (front old new : List FieldOf) → old ≡ front ++ fields_in number s (take i ms) → new ≡ old ++ field_in number s m.node → new ≡ front ++ fields_in number s (take (i + 1) ms)
  more_fields front old new = grows (λ k x. field_in number s x.node) (λ k xs. fields_in number s xs) (λ k. refl) (λ k x xs. refl) number ms i m front old new l is

  pub more_methods : (front old new : List MethodOf) → old ≡ front ++ methods_in number s (take i ms) → new ≡ old ++ method_in number s m.node → new ≡ front ++ methods_in number s (take (i + 1) ms)
  more_methods front old new = grows (λ k x. method_in number s x.node) (λ k xs. methods_in number s xs) (λ k. refl) (λ k x xs. refl) number ms i m front old new l is

-- ---- one class more

module _ (classes : List GivenClass) (i : ℕ) (c : GivenClass) (l : i < length classes) (is : c ≡ get_or classes i c) where
  pub more_classes : (old new : List FieldOf) → old ≡ fields_from 7 (map seen (take i classes)) → new ≡ old ++ fields_in (7 + i) (seen c) c.tree.now.members → new ≡ fields_from 7 (map seen (take (i + 1) classes))
  more_classes old new = grows (λ k x. fields_in k (seen x) x.tree.now.members) (λ k xs. fields_from k (map seen xs)) (λ k. refl) (λ k x xs. refl) 7 classes i c [] old new l is

  pub more_classes_methods : (old new : List MethodOf) → old ≡ methods_from 7 (map seen (take i classes)) → new ≡ old ++ methods_in (7 + i) (seen c) c.tree.now.members → new ≡ methods_from 7 (map seen (take (i + 1) classes))
  more_classes_methods old new = grows (λ k x. methods_in k (seen x) x.tree.now.members) (λ k xs. methods_from k (map seen xs)) (λ k. refl) (λ k x xs. refl) 7 classes i c [] old new l is

-- ---- an item is appended, or none

pub appended : {X Y : Type 0} (see : X → Y) (old : List X) (found : Option X) (x : X) (more : List Y) → found ≡ Some x → listed see found ≡ more → (new : List X) → new ≡ old ++ x ∷ [] → map see new ≡ map see old ++ more
appended see old found x more is seen_as new e =
    ap (map see) e ∙ map-append see old (x ∷ []) ∙ ap (λ ys. map see old ++ ys) (sym (ap (listed see) is) ∙ seen_as)

pub kept : {X Y : Type 0} (see : X → Y) (old : List X) (found : Option X) (more : List Y) → ((x : X) → found ≡ Some x → ⊥) → listed see found ≡ more → (new : List X) → new ≡ old → map see new ≡ map see old ++ more
kept see old None more none seen_as new e = ap (map see) e ∙ sym (append-nil (map see old)) ∙ ap (λ ys. map see old ++ ys) seen_as
kept see old (Some x) more none seen_as new e = absurd (none x refl)
