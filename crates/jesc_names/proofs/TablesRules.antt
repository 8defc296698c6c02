-- Where no rule on members is broken, the names of types and of thrown classes are known.
use Rattle.std.proofs.Common.{ℕ, ◌+◌, ◌<◌, ◌≤◌, true, false, List, [], ◌∷◌, ◌++◌, map, length, All, Option, Some, None, inl, refl, arith}
use Rattle.std.proofs.lemmas.List.Elements.{All-from_recursion, recursion_from_All}
use Rattle.std.specs.List.{AllByRecursion}
use Rattle.jesc_ast.specs.declared.word.Word.{Word}
use Rattle.jesc_ast.specs.declared.word.TypeTree.{TypeTree}
use Rattle.jesc_ast.specs.declared.class.ParamTree.{ParamTree}
use Rattle.jesc_ast.specs.declared.class.MemberTree.{MemberTree}
use Rattle.jesc_ast.specs.declared.class.MemberNode.{MemberNode}
use Rattle.jesc_ast.specs.declared.class.MemberNode.TheVariants as members
use Rattle.jesc_ast.specs.Lines.{IsLines, place_at}
use Rattle.jesc_classes.specs.declared.rule.Rule.TheVariants.{N1}
use Rattle.jesc_classes.specs.Answers.{refusal}
use Rattle.jesc_classes.specs.Headings.{Source, refusal_at}
use Rattle.jesc_members.specs.Fields.{field_in, fields_in, fields_from, fields_of, field_of}
use Rattle.jesc_members.specs.Methods.{method_of, methods_in}
use Rattle.jesc_member_rules.specs.Modifiers.{java_field, spec_field, method, constructor_of, parameter}
use Rattle.jesc_member_rules.specs.Members.{Part, written_type, field_name, method_name, constructor_name, parameter_name, group, thrown, modifiers_from, parameters_from, result_parts, Met, met, met_after, member_parts, members_from, class_parts, classes_from, member_walk, Holds, AllHold}
use Rattle.jesc_members.specs.Placed.{AreMembersPlaced, IsPlacedMember}
use Rattle.jesc_names.specs.TablesKnown.{IsKnownType, IsKnownResult, IsKnownParam, IsKnownThrown, IsKnownMember, IsReady, IsReadyField}

module _ (given : List Source) where
  front_holds : (ps qs : List Part) → AllHold given (ps ++ qs) → AllHold given ps
  front_holds [] qs h = tt
  front_holds (p ∷ ps) qs h = (h.0, front_holds ps qs h.1)

  back_holds : (ps qs : List Part) → AllHold given (ps ++ qs) → AllHold given qs
  back_holds [] qs h = h
  back_holds (p ∷ ps) qs h = back_holds ps qs h.1

  known_type : (s : Source) (t : TypeTree) → Holds given (written_type s t) → IsKnownType given t
  known_type s t h primitive none = h (refusal N1 (place_at s.lines t.span) t.base) (primitive, none, refl)

  known_thrown : (s : Source) (w : Word) → Holds given (thrown s w) → IsKnownThrown given w
  known_thrown s w h none = h (refusal_at N1 s w) (inl (none, refl))

  params_known : (s : Source) (before ps : List ParamTree) → AllHold given (parameters_from s before ps) → AllByRecursion (IsKnownParam given) ps
  params_known s before [] h = tt
  params_known s before (p ∷ ps) h =
      let rest = back_holds (modifiers_from s (parameter p) [] p.modifiers) (written_type s p.ty ∷ parameter_name s before p ∷ parameters_from s (before ++ p ∷ []) ps) h in
      (known_type s p.ty rest.0, params_known s (before ++ p ∷ []) ps rest.1.1)

  throws_known : (s : Source) (ws : List Word) → AllHold given (map (thrown s) ws) → AllByRecursion (IsKnownThrown given) ws
  throws_known s [] h = tt
  throws_known s (w ∷ ws) h = (known_thrown s w h.0, throws_known s ws h.1)

  result_known : (s : Source) (t : Option TypeTree) → AllHold given (result_parts s t) → IsKnownResult given t
  result_known s None h = tt
  result_known s (Some t) h = known_type s t h.0

  both_known : (s : Source) (ps : List ParamTree) (ws : List Word) → AllHold given (parameters_from s [] ps ++ map (thrown s) ws) → All (IsKnownParam given) ps × All (IsKnownThrown given) ws
  both_known s ps ws h = (
    All-from_recursion (IsKnownParam given) ps (params_known s [] ps (front_holds (parameters_from s [] ps) (map (thrown s) ws) h)),
    All-from_recursion (IsKnownThrown given) ws (throws_known s ws (back_holds (parameters_from s [] ps) (map (thrown s) ws) h)),
  )

  member_known : (class : ℕ) (s : Source) (b : Met) (m : MemberNode) → AllHold given (member_parts class s b m) → IsKnownMember given m
  member_known class s b members.Empty h = tt
  member_known class s b (members.Field f) h =
      let own = field_of class s false f in
      let rest = back_holds (modifiers_from s (java_field f) [] f.modifiers) (written_type s f.ty ∷ field_name b.fields own ∷ map (group class s) f.groups) h in
      known_type s f.ty rest.0
  member_known class s b (members.SpecField f) h =
      let own = field_of class s true f in
      let rest = back_holds (modifiers_from s (spec_field f) [] f.modifiers) (written_type s f.ty ∷ field_name b.fields own ∷ map (group class s) f.groups) h in
      known_type s f.ty rest.0
  member_known class s b (members.Invariant i) h = tt
  member_known class s b (members.Represents r) h = tt
  member_known class s b (members.Method m) h =
      let own = method_of class s m in
      let last = parameters_from s [] m.params ++ map (thrown s) m.throws in
      let rest = back_holds (modifiers_from s (method m) [] m.modifiers) (result_parts s m.result ++ method_name b.methods own ∷ last) h in
      let behind = back_holds (result_parts s m.result) (method_name b.methods own ∷ last) rest in
      let both = both_known s m.params m.throws behind.1 in
      record { params = both.0; result = result_known s m.result (front_holds (result_parts s m.result) (method_name b.methods own ∷ last) rest); throws = both.1 }
  member_known class s b (members.Constructor c) h =
      let last = parameters_from s [] c.params ++ map (thrown s) c.throws in
      let rest = back_holds (modifiers_from s constructor_of [] c.modifiers) (constructor_name s b.constructors c ∷ last) h in
      let both = both_known s c.params c.throws rest.1 in
      record { params = both.0; throws = both.1 }

  members_known : (class : ℕ) (s : Source) (b : Met) (ms : List MemberTree) → AllHold given (members_from class s b ms) → AllByRecursion (λ m. IsKnownMember given m.node) ms
  members_known class s b [] h = tt
  members_known class s b (m ∷ ms) h = (
    member_known class s b m.node (front_holds (member_parts class s b m.node) (members_from class s (met_after b m.node) ms) h),
    members_known class s (met_after b m.node) ms (back_holds (member_parts class s b m.node) (members_from class s (met_after b m.node) ms) h),
  )

  abbrev KnownMembers : Source → Type 0
  KnownMembers s = AllByRecursion (λ m. IsKnownMember given m.node) s.tree.members

  classes_known : (class fields methods : ℕ) (all : List Source) → AllHold given (classes_from class fields methods all) → AllByRecursion KnownMembers all
  classes_known class fields methods [] h = tt
  classes_known class fields methods (s ∷ rest) h =
      let own = class_parts class fields methods s in
      let others = classes_from (class + 1) (fields + length (fields_in class s s.tree.members)) (methods + length (methods_in class s s.tree.members)) rest in (
        members_known class s (met fields methods [] []) s.tree.members (front_holds own others h).1,
        classes_known (class + 1) (fields + length (fields_in class s s.tree.members)) (methods + length (methods_in class s s.tree.members)) rest (back_holds own others h),
      )

  pub ready : AllHold given (member_walk given) → All AreMembersPlaced given → All (IsReady given) given
  ready h placed k d l = record {
    placed = placed k d l;
    known = All-from_recursion _ _ (All-from_recursion KnownMembers given (classes_known 7 0 0 given h) k d l);
  }

  -- ---- fields

  both_all : {X : Type 0} (P : X → Type 0) (xs ys : List X) → AllByRecursion P xs → AllByRecursion P ys → AllByRecursion P (xs ++ ys)
  both_all P [] ys h k = k
  both_all P (x ∷ xs) ys h k = (h.0, both_all P xs ys h.1 k)

  field_ready : (class : ℕ) (s : Source) (m : MemberNode) → 7 ≤ class → class < length given + 7 → IsLines s.lines → IsPlacedMember m → IsKnownMember given m → AllByRecursion (IsReadyField given) (field_in class s m)
  field_ready class s members.Empty low high lines placed known = tt
  field_ready class s (members.Field f) low high lines placed known = (record { low = low; high = high; lines = lines; name = placed.name; known = known }, tt)
  field_ready class s (members.SpecField f) low high lines placed known = (record { low = low; high = high; lines = lines; name = placed.name; known = known }, tt)
  field_ready class s (members.Invariant i) low high lines placed known = tt
  field_ready class s (members.Represents r) low high lines placed known = tt
  field_ready class s (members.Method m) low high lines placed known = tt
  field_ready class s (members.Constructor c) low high lines placed known = tt

  class_ready : (class : ℕ) (s : Source) (ms : List MemberTree) → 7 ≤ class → class < length given + 7 → IsLines s.lines → AllByRecursion (λ m. IsPlacedMember m.node) ms → AllByRecursion (λ m. IsKnownMember given m.node) ms → AllByRecursion (IsReadyField given) (fields_in class s ms)
  class_ready class s [] low high lines placed known = tt
  class_ready class s (m ∷ ms) low high lines placed known = both_all (IsReadyField given) (field_in class s m.node) (fields_in class s ms) (field_ready class s m.node low high lines placed.0 known.0) (class_ready class s ms low high lines placed.1 known.1)

  fields_ready : (class : ℕ) (all : List Source) → 7 ≤ class → class + length all ≤ length given + 7 → AllByRecursion (IsReady given) all → AllByRecursion (IsReadyField given) (fields_from class all)
  fields_ready class [] low high h = tt
  fields_ready class (s ∷ rest) low high h =
      both_all (IsReadyField given) (fields_in class s s.tree.members) (fields_from (class + 1) rest)
      (class_ready class s s.tree.members low (omega (arith, high)) h.0.placed.lines (recursion_from_All _ _ h.0.placed.members) (recursion_from_All _ _ h.0.known))
      (fields_ready (class + 1) rest (omega (arith, low)) (omega (arith, high)) h.1)

  pub ready_fields : All (IsReady given) given → All (IsReadyField given) (fields_of given)
  ready_fields h = All-from_recursion (IsReadyField given) (fields_of given) (fields_ready 7 given (omega arith) (omega arith) (recursion_from_All (IsReady given) given h))
