-- The members of a class one after the other.
use Rattle.std.proofs.Common.{◌≡◌, ℕ, ◌+◌, ◌<◌, ◌≤◌, List, [], ◌∷◌, ◌++◌, length, drop, get_or, Result, Ok, refl, ap, sym, subst, arith}
use Rattle.std.proofs.lemmas.List.{length-append}
use Rattle.jesc_ast.specs.declared.class.MemberTree.{MemberTree}
use Rattle.jesc_ast.specs.declared.class.MemberNode.{MemberNode}
use Rattle.jesc_ast.specs.declared.class.MemberNode.TheVariants as members
use Rattle.jesc_classes.specs.declared.rule.RuleError.{RuleError}
use Rattle.jesc_classes.specs.Headings.{Source}
use Rattle.jesc_member_rules.specs.declared.judge.Counts.{Counts}
use Rattle.jesc_member_rules.specs.declared.met.Met as code_met
use Rattle.jesc_members.specs.Fields.{FieldOf, field_in, fields_in, fields_of}
use Rattle.jesc_member_rules.specs.Judging.{Begins, IsMet}
use Rattle.jesc_member_rules.specs.Members.{AllHold, Judges, Met, met_after, member_parts, members_from}
use Rattle.jesc_members.specs.Methods.{MethodOf, method_in, methods_in, methods_of}
use Rattle.jesc_member_rules.proofs.JudgingMet.{begins_front, begins_next}
use Rattle.jesc_member_rules.proofs.JudgingWalk.{along, drop_end, goes_on, rest_at}

-- what is known before the member at that index
pub record IsAt (given : List Source) (class : ℕ) (s : Source) (start : Met) (all : List MemberTree) (i : ℕ) (m : code_met.Met) : Type 0 where
  pub b : Met
  pub is : IsMet m b
  pub rest : (r : Result Counts RuleError) → Judges given r (members_from class s b (drop i all)) → Judges given r (members_from class s start all)
  pub fields : b.fields + length (fields_in class s (drop i all)) ≡ start.fields + length (fields_in class s all)
  pub methods : b.methods + length (methods_in class s (drop i all)) ≡ start.methods + length (methods_in class s all)
  pub fields_next : Begins (fields_of given) b.fields (fields_in class s (drop i all))
  pub methods_next : Begins (methods_of given) b.methods (methods_in class s (drop i all))

module _ (class : ℕ) (s : Source) where
  after_fields : (b : Met) (n : MemberNode) → (met_after b n).fields ≡ b.fields + length (field_in class s n)
  after_fields b members.Empty = omega arith
  after_fields b (members.Field f) = omega arith
  after_fields b (members.SpecField f) = omega arith
  after_fields b (members.Invariant i) = omega arith
  after_fields b (members.Represents r) = omega arith
  after_fields b (members.Method m) = omega arith
  after_fields b (members.Constructor c) = omega arith

  after_methods : (b : Met) (n : MemberNode) → (met_after b n).methods ≡ b.methods + length (method_in class s n)
  after_methods b members.Empty = omega arith
  after_methods b (members.Field f) = omega arith
  after_methods b (members.SpecField f) = omega arith
  after_methods b (members.Invariant i) = omega arith
  after_methods b (members.Represents r) = omega arith
  after_methods b (members.Method m) = omega arith
  after_methods b (members.Constructor c) = omega arith

  module _ (given : List Source) (start : Met) (all : List MemberTree) (i : ℕ) (m : code_met.Met) (at : IsAt given class s start all i m) (x : MemberTree) (low : i < length all) (here : x ≡ get_or all i x) where
    left : drop i all ≡ x ∷ drop (i + 1) all
    left = rest_at all i x low here

    fields_left : fields_in class s (drop i all) ≡ field_in class s x.node ++ fields_in class s (drop (i + 1) all)
    fields_left = ap (fields_in class s) left

    methods_left : methods_in class s (drop i all) ≡ method_in class s x.node ++ methods_in class s (drop (i + 1) all)
    methods_left = ap (methods_in class s) left

    fields_begin : Begins (fields_of given) at.b.fields (field_in class s x.node ++ fields_in class s (drop (i + 1) all))
    fields_begin = subst (λ (fs : List FieldOf). Begins (fields_of given) at.b.fields fs) fields_left at.fields_next

    methods_begin : Begins (methods_of given) at.b.methods (method_in class s x.node ++ methods_in class s (drop (i + 1) all))
    methods_begin = subst (λ (ms : List MethodOf). Begins (methods_of given) at.b.methods ms) methods_left at.methods_next

    pub field_begins : Begins (fields_of given) m.fields (field_in class s x.node)
    field_begins = subst (λ (n : ℕ). Begins (fields_of given) n (field_in class s x.node)) (sym at.is.fields) (begins_front (fields_of given) at.b.fields (field_in class s x.node) _ fields_begin)

    pub method_begins : Begins (methods_of given) m.methods (method_in class s x.node)
    method_begins = subst (λ (n : ℕ). Begins (methods_of given) n (method_in class s x.node)) (sym at.is.methods) (begins_front (methods_of given) at.b.methods (method_in class s x.node) _ methods_begin)

    pub parts_left : members_from class s at.b (drop i all) ≡ member_parts class s at.b x.node ++ members_from class s (met_after at.b x.node) (drop (i + 1) all)
    parts_left = ap (members_from class s at.b) left

    pub next : (m' : code_met.Met) → IsMet m' (met_after at.b x.node) → AllHold given (member_parts class s at.b x.node) → IsAt given class s start all (i + 1) m'
    next m' is hold =
        let f = after_fields at.b x.node in
        let g = after_methods at.b x.node in
        record {
          b = met_after at.b x.node;
          is = is;
          rest = λ r h. at.rest r (along given r _ _ parts_left (goes_on given (member_parts class s at.b x.node) (members_from class s (met_after at.b x.node) (drop (i + 1) all)) r hold h));
          fields = omega (arith, f, at.fields, ap length fields_left, length-append (field_in class s x.node) (fields_in class s (drop (i + 1) all)));
          methods = omega (arith, g, at.methods, ap length methods_left, length-append (method_in class s x.node) (methods_in class s (drop (i + 1) all)));
          fields_next = subst (λ (n : ℕ). Begins (fields_of given) n (fields_in class s (drop (i + 1) all))) (sym f) (begins_next (fields_of given) at.b.fields (field_in class s x.node) _ fields_begin);
          methods_next = subst (λ (n : ℕ). Begins (methods_of given) n (methods_in class s (drop (i + 1) all))) (sym g) (begins_next (methods_of given) at.b.methods (method_in class s x.node) _ methods_begin);
        }

-- before the first member
pub start : (given : List Source) (class : ℕ) (s : Source) (b : Met) (all listed : List MemberTree) (m : code_met.Met) → listed ≡ all → IsMet m b → Begins (fields_of given) b.fields (fields_in class s all) → Begins (methods_of given) b.methods (methods_in class s all) → IsAt given class s b listed 0 m
start given class s b all listed m same is f g = record {
  b = b;
  is = is;
  rest = λ r h. h;
  fields = refl;
  methods = refl;
  fields_next = subst (λ (ms : List MemberTree). Begins (fields_of given) b.fields (fields_in class s ms)) (sym same) f;
  methods_next = subst (λ (ms : List MemberTree). Begins (methods_of given) b.methods (methods_in class s ms)) (sym same) g;
}

-- behind the last one
module _ (given : List Source) (class : ℕ) (s : Source) (b : Met) (all listed : List MemberTree) (i : ℕ) (m : code_met.Met) (same : listed ≡ all) (at : IsAt given class s b listed i m) (end : length listed ≤ i) where
  none_left : drop i listed ≡ []
  none_left = drop_end listed i end

  pub end_fields : m.fields ≡ b.fields + length (fields_in class s all)
  end_fields =
      let none : length (fields_in class s (drop i listed)) ≡ 0 = ap (λ (ms : List MemberTree). length (fields_in class s ms)) none_left in
      let whole : length (fields_in class s listed) ≡ length (fields_in class s all) = ap (λ (ms : List MemberTree). length (fields_in class s ms)) same in
      omega (arith, at.is.fields, at.fields, none, whole)

  pub end_methods : m.methods ≡ b.methods + length (methods_in class s all)
  end_methods =
      let none : length (methods_in class s (drop i listed)) ≡ 0 = ap (λ (ms : List MemberTree). length (methods_in class s ms)) none_left in
      let whole : length (methods_in class s listed) ≡ length (methods_in class s all) = ap (λ (ms : List MemberTree). length (methods_in class s ms)) same in
      omega (arith, at.is.methods, at.methods, none, whole)

  pub end_judged : (c : Counts) → Judges given (Ok c) (members_from class s b all)
  end_judged c =
      subst (λ (ms : List MemberTree). AllHold given (members_from class s b ms)) same
      (at.rest (Ok c) (along given (Ok c) _ [] (ap (members_from class s at.b) none_left) tt))
