-- The classes one after the other.
use Rattle.std.proofs.Common.{◌≡◌, ℕ, ◌+◌, ◌<◌, ◌≤◌, List, [], ◌∷◌, ◌++◌, length, drop, get_or, Ok, refl, ap, sym, ◌∙◌, subst, arith}
use Rattle.jesc_classes.specs.Headings.{Source}
use Rattle.jesc_member_rules.specs.declared.judge.Counts.{Counts}
use Rattle.jesc_members.specs.Fields.{FieldOf, fields_in, fields_from, fields_of}
use Rattle.jesc_member_rules.specs.Judging.{Begins}
use Rattle.jesc_member_rules.specs.Members.{Part, AllHold, Judges, class_parts, classes_from, member_walk}
use Rattle.jesc_members.specs.Methods.{MethodOf, methods_in, methods_from, methods_of}
use Rattle.jesc_member_rules.proofs.JudgingMet.{begins_front, begins_next}
use Rattle.jesc_member_rules.proofs.JudgingWalk.{Answer, along, drop_end, goes_on, rest_at}

-- what is known before the class at that index
pub record IsBefore (given : List Source) (i : ℕ) (c : Counts) : Type 0 where
  pub rest : (r : Answer) → Judges given r (classes_from (7 + i) c.fields c.methods (drop i given)) → Judges given r (member_walk given)
  pub fields : Begins (fields_of given) c.fields (fields_from (7 + i) (drop i given))
  pub methods : Begins (methods_of given) c.methods (methods_from (7 + i) (drop i given))

whole : {X : Type 0} (xs : List X) → xs ≡ xs ++ []
whole [] = refl
whole (x ∷ xs) = ap (λ ys. x ∷ ys) (whole xs)

pub at_first : (given : List Source) (c : Counts) → c.fields ≡ 0 → c.methods ≡ 0 → IsBefore given 0 c
at_first given c f m = record {
  rest = λ r h. subst (λ (k : ℕ). Judges given r (classes_from 7 k 0 given)) f (subst (λ (k : ℕ). Judges given r (classes_from 7 c.fields k given)) m h);
  fields = subst (λ (k : ℕ). Begins (fields_of given) k (fields_of given)) (sym f) (record { within = omega arith; others = []; behind = whole (fields_of given) });
  methods = subst (λ (k : ℕ). Begins (methods_of given) k (methods_of given)) (sym m) (record { within = omega arith; others = []; behind = whole (methods_of given) });
}

module _ (given : List Source) (i : ℕ) (c : Counts) (at : IsBefore given i c) (s : Source) (low : i < length given) (here : s ≡ get_or given i s) where
  left : drop i given ≡ s ∷ drop (i + 1) given
  left = rest_at given i s low here

  later : (7 + i) + 1 ≡ 7 + (i + 1)
  later = omega arith

  fields_left : fields_from (7 + i) (drop i given) ≡ fields_in (7 + i) s s.tree.members ++ fields_from (7 + (i + 1)) (drop (i + 1) given)
  fields_left = ap (fields_from (7 + i)) left ∙ ap (λ (k : ℕ). fields_in (7 + i) s s.tree.members ++ fields_from k (drop (i + 1) given)) later

  methods_left : methods_from (7 + i) (drop i given) ≡ methods_in (7 + i) s s.tree.members ++ methods_from (7 + (i + 1)) (drop (i + 1) given)
  methods_left = ap (methods_from (7 + i)) left ∙ ap (λ (k : ℕ). methods_in (7 + i) s s.tree.members ++ methods_from k (drop (i + 1) given)) later

  fields_begin : Begins (fields_of given) c.fields (fields_in (7 + i) s s.tree.members ++ fields_from (7 + (i + 1)) (drop (i + 1) given))
  fields_begin = subst (λ (fs : List FieldOf). Begins (fields_of given) c.fields fs) fields_left at.fields

  methods_begin : Begins (methods_of given) c.methods (methods_in (7 + i) s s.tree.members ++ methods_from (7 + (i + 1)) (drop (i + 1) given))
  methods_begin = subst (λ (ms : List MethodOf). Begins (methods_of given) c.methods ms) methods_left at.methods

  pub class_fields : Begins (fields_of given) c.fields (fields_in (7 + i) s s.tree.members)
  class_fields = begins_front (fields_of given) c.fields (fields_in (7 + i) s s.tree.members) _ fields_begin

  pub class_methods : Begins (methods_of given) c.methods (methods_in (7 + i) s s.tree.members)
  class_methods = begins_front (methods_of given) c.methods (methods_in (7 + i) s s.tree.members) _ methods_begin

  abbrev pub after : List Part
  after = classes_from (7 + (i + 1)) (c.fields + length (fields_in (7 + i) s s.tree.members)) (c.methods + length (methods_in (7 + i) s s.tree.members)) (drop (i + 1) given)

  pub classes_left : classes_from (7 + i) c.fields c.methods (drop i given) ≡ class_parts (7 + i) c.fields c.methods s ++ after
  classes_left =
      ap (classes_from (7 + i) c.fields c.methods) left
      ∙ ap (λ (k : ℕ). class_parts (7 + i) c.fields c.methods s ++ classes_from k (c.fields + length (fields_in (7 + i) s s.tree.members)) (c.methods + length (methods_in (7 + i) s s.tree.members)) (drop (i + 1) given)) later

  pub behind : (d : Counts) → d.fields ≡ c.fields + length (fields_in (7 + i) s s.tree.members) → d.methods ≡ c.methods + length (methods_in (7 + i) s s.tree.members) → AllHold given (class_parts (7 + i) c.fields c.methods s) → IsBefore given (i + 1) d
  behind d f m hold = record {
    rest = λ r h. at.rest r (along given r _ _ classes_left (goes_on given (class_parts (7 + i) c.fields c.methods s) after r hold
        (subst (λ (k : ℕ). Judges given r (classes_from (7 + (i + 1)) k (c.methods + length (methods_in (7 + i) s s.tree.members)) (drop (i + 1) given))) f
        (subst (λ (k : ℕ). Judges given r (classes_from (7 + (i + 1)) d.fields k (drop (i + 1) given))) m h))));
    fields = subst (λ (k : ℕ). Begins (fields_of given) k (fields_from (7 + (i + 1)) (drop (i + 1) given))) (sym f) (begins_next (fields_of given) c.fields (fields_in (7 + i) s s.tree.members) _ fields_begin);
    methods = subst (λ (k : ℕ). Begins (methods_of given) k (methods_from (7 + (i + 1)) (drop (i + 1) given))) (sym m) (begins_next (methods_of given) c.methods (methods_in (7 + i) s s.tree.members) _ methods_begin);
  }

pub at_end : (given : List Source) (i : ℕ) (c : Counts) → IsBefore given i c → length given ≤ i → AllHold given (member_walk given)
at_end given i c at end = at.rest (Ok (tt {0})) (along given (Ok (tt {0})) _ [] (ap (classes_from (7 + i) c.fields c.methods) (drop_end given i end)) (tt {0}))
