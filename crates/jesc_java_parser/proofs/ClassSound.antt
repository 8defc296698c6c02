-- What the rules of members' lists and of classes take.
use Rattle.std.proofs.Common.{◌≡◌, ℕ, Bool, false, List, [], ◌∷◌, ◌++◌, refl, sym, ap, ◌∙◌, append_assoc}
use Rattle.std.proofs.lemmas.List.{append-nil}
use Rattle.std.specs.Prelude.{IsTrue, codes}
use Rattle.jesc_ast.specs.declared.word.Word.{Word}
use Rattle.jesc_ast.specs.Lexemes.{Lexeme, word, sign, chosen_word, join, span_of_all}
use Rattle.jesc_ast.specs.Trees.{Expression}
use Rattle.jesc_ast.specs.FileTrees.{Member, member_of, Class, class_of}
use Rattle.jesc_ast.specs.Depth.{of_member, of_members, of_classes}
use Rattle.jesc_ast.specs.Members.{SpellsModifiers, no_modifiers, SpellsNamesAfter, no_names, some_names, SpellsMembers, no_members, more_members, is_one_or_none, SpellsClass, is_class, is_interface, SpellsClasses, no_classes, more_classes}
use Rattle.jesc_jml_grammar.specs.declared.mark.Mark.TheVariants as m
use Rattle.jesc_jml_grammar.specs.Steps.{Parser, ◌>>=◌, ◌>>◌, pure, expect}
use Rattle.jesc_jml_grammar.specs.Reading.{Parsed, Start, word_of}
use Rattle.jesc_jml_grammar.specs.ClauseMarks.{span_at}
use Rattle.jesc_jml_grammar.specs.ClauseFound.{Sized, no_items, with_more, with_word}
use Rattle.jesc_jml_parser.specs.laws.SoundMarks.{marked}
use Rattle.jesc_jml_parser.specs.laws.SoundSteps.{Gives, gives_bind, gives_if, gives_so, took, TakesWhole}
use Rattle.jesc_jml_parser.specs.laws.ClauseSoundLists.{end_of, IsSome, some_behind, taken_span, TakenAs, TakenUntil, until_takes, IsRead, IsGreatest, read_more, read_none, one_name}
use Rattle.jesc_java_grammar.specs.declared.member_mark.MemberMark.{MemberMark}
use Rattle.jesc_java_grammar.specs.declared.member_mark.MemberMark.TheVariants as s
use Rattle.jesc_java_grammar.specs.Lexing.{is_word, is_sign, next_is, take_if}
use Rattle.jesc_java_grammar.specs.FileMarks.{member_mark_at, before_brace, before_end}
use Rattle.jesc_java_grammar.specs.FileReading as spec
use Rattle.jesc_java_grammar.specs.FileReading.{Heading}
use Rattle.jesc_java_parser.proofs.LexingSound.{took_this_word, took_this_sign}
use Rattle.jesc_java_parser.proofs.ModifierSound.{modifiers_take, names_after_takes}
use Rattle.jesc_java_parser.proofs.MethodSound.{ends_behind}
use Rattle.jesc_java_parser.proofs.MemberSound.{any_form_takes}

-- ---- what is read

abbrev SpellsMember : Member → List Lexeme → Type 0
SpellsMember t u = SpellsMembers (t ∷ []) u

abbrev member_measure : (Expression → ℕ) → ℕ → Member → ℕ
member_measure f n t = of_member f n t.form

abbrev IsMember : ℕ → ℕ → Sized Member → List Lexeme → Type 0
IsMember room k t u = IsRead SpellsMember member_measure room k u t.tree t.depth

abbrev AreMembers : ℕ → ℕ → Sized (List Member) → List Lexeme → Type 0
AreMembers room k ms u = IsRead SpellsMembers of_members room k u ms.tree ms.depth

members_are_greatest : IsGreatest member_measure of_members
members_are_greatest = record { none = λ f n. refl; more = λ f n x xs. refl }

-- at most one name behind a word
record IsSuperclass (ws : List Word) (u : List Lexeme) : Type 0 where
  spelled : SpellsNamesAfter (codes "extends") ws u
  one : IsTrue (is_one_or_none ws)

-- what stands between the modifiers and the members: with both of these around it a class
record IsHeading (found : Heading) (u : List Lexeme) : Type 0 where
  some : IsSome u
  spelled : (p q : Lexeme) (ws : List Word) (ms : List Member) (a b all : List Lexeme) → p ≡ sign false "{" p.span → q ≡ sign false "}" q.span → SpellsModifiers ws a → SpellsMembers ms b
      → all ≡ a ++ (u ++ p ∷ (b ++ q ∷ []))
      → SpellsClass (class_of (span_of_all all) ws found.is_interface (word_of found.name) found.extends found.implements ms) all

abbrev class_measure : (Expression → ℕ) → ℕ → Class → ℕ
class_measure f n c = of_members f n c.members

abbrev IsClass : ℕ → ℕ → Sized Class → List Lexeme → Type 0
IsClass room k c u = IsRead SpellsClass class_measure room k u c.tree c.depth

abbrev pub AreClasses : ℕ → ℕ → Sized (List Class) → List Lexeme → Type 0
AreClasses room k cs u = IsRead SpellsClasses of_classes room k u cs.tree cs.depth

classes_are_greatest : IsGreatest class_measure of_classes
classes_are_greatest = record { none = λ f n. refl; more = λ f n x xs. refl }

members_at_end : (ms : List Member) (u : List Lexeme) (t : Member) (v : List Lexeme) → SpellsMembers ms u → SpellsMember t v → SpellsMembers (ms ++ t ∷ []) (u ++ v)
members_at_end _ _ t v no_members h = h
members_at_end _ _ t v (more_members f ms a b is more) h =
    simp append_assoc (more_members f (ms ++ t ∷ []) a (b ++ v) is (members_at_end ms b t v more h))

classes_at_end : (cs : List Class) (u : List Lexeme) (c : Class) (v : List Lexeme) → SpellsClasses cs u → SpellsClass c v → SpellsClasses (cs ++ c ∷ []) (u ++ v)
classes_at_end _ _ c v no_classes h =
    let one : SpellsClasses (c ∷ []) (v ++ []) = more_classes c [] v [] h no_classes in
    rw append-nil at one
classes_at_end _ _ c v (more_classes d cs a b is more) h =
    simp append_assoc (more_classes d (cs ++ c ∷ []) a (b ++ v) is (classes_at_end cs b c v more h))

-- the lexemes of a class and of an interface, by those of its parts
class_parts : (a t s b : List Lexeme) (c x p q : Lexeme) → c ≡ word false "class" c.span → x ≡ chosen_word false x.text x.span → p ≡ sign false "{" p.span → q ≡ sign false "}" q.span
    → a ++ ((c ∷ x ∷ (t ++ s)) ++ p ∷ (b ++ q ∷ []))
    ≡ a ++ word false "class" c.span ∷ chosen_word false x.text x.span ∷ (t ++ (s ++ sign false "{" p.span ∷ (b ++ sign false "}" q.span ∷ [])))
class_parts a t s b c x p q first named left right = rw (append_assoc t s (p ∷ (b ++ q ∷ [])), first, named, left, right) refl

interface_parts : (a t b : List Lexeme) (c x p q : Lexeme) → c ≡ word false "interface" c.span → x ≡ chosen_word false x.text x.span → p ≡ sign false "{" p.span → q ≡ sign false "}" q.span
    → a ++ ((c ∷ x ∷ t) ++ p ∷ (b ++ q ∷ []))
    ≡ a ++ word false "interface" c.span ∷ chosen_word false x.text x.span ∷ (t ++ sign false "{" p.span ∷ (b ++ sign false "}" q.span ∷ []))
interface_parts a t b c x p q first named left right = rw (first, named, left, right) refl

module _ (limit room : ℕ) (expression : Bool → ℕ → ℕ → ℕ → Start → Parser Parsed)
    (reads : (note : Bool) (room : ℕ) → TakesWhole note room (expression note room)) (k : ℕ) where
  -- ---- members

  member_takes : (ts : List Lexeme) → Gives (spec.member limit room expression k ts) (TakenAs (IsMember room k) ts)
  unfolding spec.member
  member_takes ts =
      gives_bind _ _ (spec.form limit room expression k ts) (any_form_takes limit room expression reads k ts) (λ f rest h.
      let span : join (span_at ts) f.last ≡ span_of_all h.taken =
      ap (join (span_at ts)) (sym (h.is.last (span_at ts))) ∙ taken_span h.taken ts rest h.parts h.is.some in
      let one : SpellsMember (member_of (span_of_all h.taken) f.tree) (h.taken ++ []) = more_members f.tree [] h.taken [] h.is.read.spelled no_members in
      record {
        taken = h.taken;
        parts = h.parts;
        is = record { spelled = rw span (rw append-nil at one); deep = h.is.read.deep; shallow = h.is.read.shallow; flat = h.is.read.flat };
      })

  members_take : (ts : List Lexeme) → Gives (spec.members limit room expression k ts) (TakenAs (AreMembers room k) ts)
  unfolding spec.members
  members_take ts =
      gives_so (TakenUntil before_brace (AreMembers room k) ts) (TakenAs (AreMembers room k) ts) (spec.members limit room expression k ts)
      (until_takes before_brace (spec.member limit room expression k) with_more (AreMembers room k)
      (λ found u all h e.
      gives_so (TakenAs (IsMember room k) all) (λ t rest. TakenAs (λ (b : Sized (List Member)) (v : List Lexeme). AreMembers room k b (u ++ v)) all (with_more found t) rest)
      (spec.member limit room expression k all) (member_takes all)
      (λ t rest g. record {
        taken = g.taken;
        parts = g.parts;
        is = read_more member_measure of_members members_are_greatest SpellsMember SpellsMembers room k found.tree t.tree u g.taken (u ++ g.taken) found.depth t.depth h g.is
            (members_at_end found.tree u t.tree g.taken h.spelled g.is.spelled);
      }))
      limit no_items ts [] ts refl (read_none member_measure of_members members_are_greatest SpellsMember SpellsMembers room k no_members))
      (λ ms rest h. record { taken = h.taken; parts = h.parts; is = h.is })

  -- ---- headings

  extended_takes : (ts : List Lexeme)
      → Gives ((take_if (is_word (codes "extends") false) >> (expect false m.Name >>= λ x. pure (with_word [] x))) ts) (TakenAs IsSuperclass ts)
  extended_takes ts =
      gives_bind _ _ (take_if (is_word (codes "extends") false) ts) (took_this_word (codes "extends") false ts) (λ r mid first.
      gives_bind _ _ (expect false m.Name mid) (took false m.Name mid) (λ x rest named.
      record {
        taken = r ∷ x ∷ [];
        parts = rw (first.at, named.at) refl;
        is = record { spelled = rw first.is (some_names r.span (word_of x ∷ []) (x ∷ []) (one_name false x named.mark)); one = refl };
      }))

  superclass_takes : (ts : List Lexeme) → Gives (spec.superclass limit room expression k ts) (TakenAs IsSuperclass ts)
  unfolding spec.superclass
  superclass_takes ts =
      gives_if (next_is (is_word (codes "extends") false) ts) _ (pure []) (TakenAs IsSuperclass ts) ts
      (λ e. extended_takes ts)
      (λ e. record { taken = []; parts = refl; is = record { spelled = no_names; one = refl } })

  class_heading_takes : (ts : List Lexeme) → Gives (spec.class_heading limit room expression k ts) (TakenAs IsHeading ts)
  unfolding spec.class_heading
  class_heading_takes ts =
      gives_bind _ _ (take_if (is_word (codes "class") false) ts) (took_this_word (codes "class") false ts) (λ c t1 first.
      gives_bind _ _ (expect false m.Name t1) (took false m.Name t1) (λ x t2 named.
      gives_bind _ _ (spec.superclass limit room expression k t2) (superclass_takes t2) (λ extends t3 h.
      gives_bind _ _ (spec.names_after limit room expression k (codes "implements") t3) (names_after_takes limit room expression k (codes "implements") t3) (λ implements rest g.
      let at = marked false m.Name x named.mark in
      record {
        taken = c ∷ x ∷ (h.taken ++ g.taken);
        parts = rw (first.at, named.at, h.parts, g.parts) (sym (append_assoc (c ∷ x ∷ h.taken) g.taken rest));
        is = record {
          some = tt;
          spelled = λ p q ws ms a b all left right are is parts.
              rw at.0
              (is_class c.span x.span p.span q.span ws extends implements x.text ms a h.taken g.taken b all are at.1 h.is.spelled h.is.one g.is is
              (parts ∙ class_parts a h.taken g.taken b c x p q first.is at.0 left right));
        };
      }))))

  interface_heading_takes : (ts : List Lexeme) → Gives (spec.interface_heading limit room expression k ts) (TakenAs IsHeading ts)
  unfolding spec.interface_heading
  interface_heading_takes ts =
      gives_bind _ _ (take_if (is_word (codes "interface") false) ts) (took_this_word (codes "interface") false ts) (λ c t1 first.
      gives_bind _ _ (expect false m.Name t1) (took false m.Name t1) (λ x t2 named.
      gives_bind _ _ (spec.names_after limit room expression k (codes "extends") t2) (names_after_takes limit room expression k (codes "extends") t2) (λ extends rest h.
      let at = marked false m.Name x named.mark in
      record {
        taken = c ∷ x ∷ h.taken;
        parts = rw (first.at, named.at, h.parts) refl;
        is = record {
          some = tt;
          spelled = λ p q ws ms a b all left right are is parts.
              rw at.0
              (is_interface c.span x.span p.span q.span ws extends x.text ms a h.taken b all are at.1 h.is is
              (parts ∙ interface_parts a h.taken b c x p q first.is at.0 left right));
        };
      })))

  heading_by_takes : (mark : MemberMark) (ts : List Lexeme) → Gives (spec.heading_by limit room expression k mark ts) (TakenAs IsHeading ts)
  heading_by_takes s.Class ts = class_heading_takes ts
  heading_by_takes s.Interface ts = interface_heading_takes ts
  heading_by_takes _ ts = tt

  heading_takes : (ts : List Lexeme) → Gives (spec.heading limit room expression k ts) (TakenAs IsHeading ts)
  unfolding spec.heading
  heading_takes ts = heading_by_takes (member_mark_at ts) ts

  -- ---- classes

  class_rest_takes : (ws : List Word) (a : List Lexeme) → SpellsModifiers ws a → (found : Heading) (u : List Lexeme) → IsHeading found u → (all ts : List Lexeme) → all ≡ a ++ (u ++ ts)
      → Gives (spec.class_rest limit room expression k (span_at all) ws found ts) (TakenAs (IsClass room k) all)
  unfolding spec.class_rest
  class_rest_takes ws a are found u heading all ts parts =
      gives_bind _ _ (take_if (is_sign (codes "{") false) ts) (took_this_sign (codes "{") false ts) (λ p t1 left.
      gives_bind _ _ (spec.members limit room expression k t1) (members_take t1) (λ ms t2 h.
      gives_bind _ _ (take_if (is_sign (codes "}") false) t2) (took_this_sign (codes "}") false t2) (λ q rest right.
      let taken = a ++ (u ++ p ∷ (h.taken ++ q ∷ [])) in
      let whole : all ≡ taken ++ rest = rw (parts, left.at, h.parts, right.at) (sym (simp append_assoc)) in
      let some : IsSome taken = some_behind a (u ++ p ∷ (h.taken ++ q ∷ [])) (some_behind u (p ∷ (h.taken ++ q ∷ [])) tt) in
      let last : end_of (span_at all) taken ≡ q.span =
      ends_behind q.span a (u ++ p ∷ (h.taken ++ q ∷ [])) (ends_behind q.span u (p ∷ (h.taken ++ q ∷ [])) (ends_behind q.span (p ∷ h.taken) (q ∷ []) (λ z. refl))) (span_at all) in
      let span : join (span_at all) q.span ≡ span_of_all taken = ap (join (span_at all)) (sym last) ∙ taken_span taken all rest whole some in
      record {
        taken = taken;
        parts = whole;
        is = record {
          spelled = rw span (heading.spelled p q ws ms.tree a h.taken taken left.is right.is are h.is.spelled refl);
          deep = h.is.deep;
          shallow = h.is.shallow;
          flat = h.is.flat;
        };
      })))

  class_takes : (ts : List Lexeme) → Gives (spec.class_ limit room expression k ts) (TakenAs (IsClass room k) ts)
  unfolding spec.class_
  class_takes ts =
      gives_bind _ _ (spec.modifiers limit room expression k [] ts) (modifiers_take limit room expression k [] [] no_modifiers ts ts refl) (λ ws t1 h.
      gives_bind _ _ (spec.heading limit room expression k t1) (heading_takes t1) (λ found t2 g.
      class_rest_takes ws h.taken h.is found g.taken g.is ts t2 (rw (h.parts, g.parts) refl)))

  -- up to the end
  pub classes_take : (ts : List Lexeme) → Gives (spec.classes limit room expression k ts) (TakenUntil before_end (AreClasses room k) ts)
  unfolding spec.classes
  classes_take ts =
      until_takes before_end (spec.class_ limit room expression k) with_more (AreClasses room k)
      (λ found u all h e.
      gives_so (TakenAs (IsClass room k) all) (λ c rest. TakenAs (λ (b : Sized (List Class)) (v : List Lexeme). AreClasses room k b (u ++ v)) all (with_more found c) rest)
      (spec.class_ limit room expression k all) (class_takes all)
      (λ c rest g. record {
        taken = g.taken;
        parts = g.parts;
        is = read_more class_measure of_classes classes_are_greatest SpellsClass SpellsClasses room k found.tree c.tree u g.taken (u ++ g.taken) found.depth c.depth h g.is
            (classes_at_end found.tree u c.tree g.taken h.spelled g.is.spelled);
      }))
      limit no_items ts [] ts refl (read_none class_measure of_classes classes_are_greatest SpellsClass SpellsClasses room k no_classes)
