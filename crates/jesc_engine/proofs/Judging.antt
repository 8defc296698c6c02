-- Conditions: what their rows say, and what they are where v follows their operations.
use Rattle.std.proofs.Common.{◌≡◌, ℕ, Bool, true, false, if◌then◌else◌, List, ◌++◌, ℤ, sym, ◌∙◌, ap, subst, inl, inr, Option, None, append_assoc}
use Rattle.jesc_first.specs.declared.check.Kind.{Kind}
use Rattle.jesc_first.specs.declared.check.Kind.TheVariants.{Overflow, Undefined}
use Rattle.jesc_first.specs.declared.check.Check.{Check}
use Rattle.jesc_first.specs.declared.tree.Comparison.{Comparison}
use Rattle.jesc_first.specs.declared.tree.Part.{Part}
use Rattle.jesc_first.specs.declared.tree.Condition.{Condition}
use Rattle.jesc_first.specs.Machine.{Evaluated, is, overflows, evaluated, compared, Judged, holds, breaks, trouble, judged_values, judged, check}
use Rattle.jesc_engine.specs.declared.ways.atom.Atom.{Atom}
use Rattle.jesc_engine.specs.Rows.{worth}
use Rattle.jesc_engine.specs.Ways.{Facts, sum_facts, sum_ways, holding, breaking, sides_facts, left_atom, right_atom, condition_facts, concat, trouble_ways, break_ways, condition_obligations}
use Rattle.jesc_engine.proofs.Meeting.{Met, OneOf, Broken, met_both, met_left, met_right, one_left, one_right, one_cases, each_to, each_from}
use Rattle.jesc_engine.proofs.Operating.{holding_to, holding_from, breaking_to, breaking_from}
use Rattle.jesc_engine.proofs.Summing.{Agrees, sum_values, Follows, follows_prefix, follows_after, sum_is, sum_overflowed, SumSays, sum_says, way_overflows, overflow_way}

-- the values of the operations of both sides, in order
abbrev pub condition_values : (Part → ℤ) → Condition → List ℤ
condition_values val condition = sum_values val condition.left ++ sum_values val condition.right

-- both sides have values
abbrev SidesAre : (ℕ → ℤ) → (Part → Atom) → (Part → ℤ) → Facts → Condition → Type 0
SidesAre v atom val facts condition =
    (evaluated val condition.left ≡ is (worth v (left_atom atom facts condition)))
    × (evaluated val condition.right ≡ is (worth v (right_atom atom facts condition)))

-- where v meets the rows of both sides, they have the worths of their atoms
sides_are : (v : ℕ → ℤ) (atom : Part → Atom) (val : Part → ℤ) (facts : Facts) (condition : Condition) → Agrees v atom val
    → Met v (sides_facts atom facts condition).rows → Met v facts.rows × SidesAre v atom val facts condition
sides_are v atom val facts condition agrees m =
    let right = sum_is v atom val (sum_facts atom facts condition.left) (atom condition.right.first) (val condition.right.first) condition.right.rest agrees (agrees condition.right.first) m in
    let left = sum_is v atom val facts (atom condition.left.first) (val condition.left.first) condition.left.rest agrees (agrees condition.left.first) right.0 in
    (left.0, (left.1, right.1))

-- how a condition is judged whose sides have values
judged_sides : (v : ℕ → ℤ) (atom : Part → Atom) (val : Part → ℤ) (facts : Facts) (condition : Condition) (b : Bool) → SidesAre v atom val facts condition
    → compared condition.comparison (worth v (left_atom atom facts condition)) (worth v (right_atom atom facts condition)) ≡ b
    → judged val condition ≡ (if b then holds else breaks)
judged_sides v atom val facts condition b sides e =
    ap (λ l. judged_values condition.comparison l (evaluated val condition.right)) sides.0
    ∙ ap (λ r. judged_values condition.comparison (is (worth v (left_atom atom facts condition))) r) sides.1
    ∙ ap (λ t. if t then holds else breaks) e

-- where v meets its facts, the condition is true
pub condition_holds : (v : ℕ → ℤ) (atom : Part → Atom) (val : Part → ℤ) (facts : Facts) (condition : Condition) → Agrees v atom val
    → Met v (condition_facts atom facts condition).rows → Met v facts.rows × (judged val condition ≡ holds)
condition_holds v atom val facts condition agrees m =
    let rows = (sides_facts atom facts condition).rows in
    let last = holding condition.comparison (left_atom atom facts condition) (right_atom atom facts condition) in
    let sides = sides_are v atom val facts condition agrees (met_left v rows last m) in
    let true_one = holding_to v condition.comparison (left_atom atom facts condition) (right_atom atom facts condition) (met_right v rows last m) in
    (sides.0, judged_sides v atom val facts condition true sides.1 true_one)

-- where v meets a way in which it is false, it is false
condition_breaks : (v : ℕ → ℤ) (atom : Part → Atom) (val : Part → ℤ) (facts : Facts) (condition : Condition) → Agrees v atom val
    → OneOf (Met v) (break_ways atom facts condition) → Met v facts.rows × (judged val condition ≡ breaks)
condition_breaks v atom val facts condition agrees o =
    let ways = breaking condition.comparison (left_atom atom facts condition) (right_atom atom facts condition) in
    let each = each_to v (sides_facts atom facts condition).rows ways o in
    let sides = sides_are v atom val facts condition agrees each.0 in
    let false_one = breaking_to v condition.comparison (left_atom atom facts condition) (right_atom atom facts condition) each.1 in
    (sides.0, judged_sides v atom val facts condition false sides.1 false_one)

-- an overflow on the left is trouble
trouble_left : (comparison : Comparison) (at : ℕ) (left right : Evaluated) → left ≡ overflows at → judged_values comparison left right ≡ trouble
trouble_left comparison at left right e = ap (λ l. judged_values comparison l right) e

-- an overflow on the right is trouble too
trouble_right : (comparison : Comparison) (z : ℤ) (at : ℕ) (left right : Evaluated) → left ≡ is z → right ≡ overflows at → judged_values comparison left right ≡ trouble
trouble_right comparison z at left right e f = ap (λ l. judged_values comparison l right) e ∙ ap (λ r. judged_values comparison (is z) r) f

-- where v meets a way in which its arithmetic leaves the range, it does
condition_troubles : (v : ℕ → ℤ) (atom : Part → Atom) (val : Part → ℤ) (facts : Facts) (condition : Condition) → Agrees v atom val
    → OneOf (Met v) (trouble_ways atom facts condition) → Met v facts.rows × (judged val condition ≡ trouble)
condition_troubles v atom val facts condition agrees o =
    let middle = sum_facts atom facts condition.left in
    elim (one_cases (Met v) (concat (sum_ways atom facts condition.left)) (concat (sum_ways atom middle condition.right)) o) [
      | inl h ↦ let way = way_overflows v atom facts (atom condition.left.first) condition.left.rest h in
          let out = sum_overflowed v atom val facts (atom condition.left.first) (val condition.left.first) condition.left.rest way.0 agrees (agrees condition.left.first) way.1 in
          (out.0, trouble_left condition.comparison out.1.at (evaluated val condition.left) (evaluated val condition.right) out.1.overflowed)
      | inr h ↦ let way = way_overflows v atom middle (atom condition.right.first) condition.right.rest h in
          let out = sum_overflowed v atom val middle (atom condition.right.first) (val condition.right.first) condition.right.rest way.0 agrees (agrees condition.right.first) way.1 in
          let left = sum_is v atom val facts (atom condition.left.first) (val condition.left.first) condition.left.rest agrees (agrees condition.left.first) out.0 in
          (left.0, trouble_right condition.comparison (worth v (left_atom atom facts condition)) out.1.at (evaluated val condition.left) (evaluated val condition.right) left.1 out.1.overflowed)
    ]

-- how a condition fails, and its check
abbrev pub Fails : Kind → ℕ → Option ℕ → Judged → Check → Type 0
Fails kind at by holds failing = ⊥
Fails kind at by breaks failing = check kind at by ≡ failing
Fails kind at by trouble failing = check Undefined at by ≡ failing

-- where v meets a way of an obligation of the condition, it fails so
pub condition_fails : (v : ℕ → ℤ) (atom : Part → Atom) (val : Part → ℤ) (facts : Facts) (kind : Kind) (at : ℕ) (by : Option ℕ) (condition : Condition) (failing : Check)
    → Agrees v atom val → Broken v (condition_obligations atom facts kind at by condition) failing
    → Met v facts.rows × Fails kind at by (judged val condition) failing
condition_fails v atom val facts kind at by condition failing agrees b = elim b [
  | inl h ↦ let out = condition_troubles v atom val facts condition agrees h.way in
      (out.0, subst (λ j. Fails kind at by j failing) (sym out.1) h.same)
  | inr q ↦ elim q [
    | inl h ↦ let out = condition_breaks v atom val facts condition agrees h.way in
        (out.0, subst (λ j. Fails kind at by j failing) (sym out.1) h.same)
    | inr r ↦ elim r [ ]
  ]
]

-- what the rows say of a condition that is judged so
abbrev pub ConditionSays : (ℕ → ℤ) → (Part → Atom) → Facts → Condition → Judged → Type 0
ConditionSays v atom facts condition holds = Met v (condition_facts atom facts condition).rows
ConditionSays v atom facts condition breaks = OneOf (Met v) (break_ways atom facts condition)
ConditionSays v atom facts condition trouble = OneOf (Met v) (trouble_ways atom facts condition)

-- the ways of a comparison that is made
compared_says : (v : ℕ → ℤ) (atom : Part → Atom) (facts : Facts) (condition : Condition) (b : Bool) → Met v (sides_facts atom facts condition).rows
    → compared condition.comparison (worth v (left_atom atom facts condition)) (worth v (right_atom atom facts condition)) ≡ b
    → ConditionSays v atom facts condition (if b then holds else breaks)
compared_says v atom facts condition true m e =
    met_both v (sides_facts atom facts condition).rows (holding condition.comparison (left_atom atom facts condition) (right_atom atom facts condition)) m
    (holding_from v condition.comparison (left_atom atom facts condition) (right_atom atom facts condition) e)
compared_says v atom facts condition false m e =
    each_from v (sides_facts atom facts condition).rows (breaking condition.comparison (left_atom atom facts condition) (right_atom atom facts condition)) m
    (breaking_from v condition.comparison (left_atom atom facts condition) (right_atom atom facts condition) e)

-- the right side, after a left side with a value
right_says : (v : ℕ → ℤ) (atom : Part → Atom) (facts : Facts) (condition : Condition) (x : ℤ) (right : Evaluated)
    → x ≡ worth v (left_atom atom facts condition)
    → SumSays v atom (sum_facts atom facts condition.left) (atom condition.right.first) condition.right.rest right
    → ConditionSays v atom facts condition (judged_values condition.comparison (is x) right)
right_says v atom facts condition x (is y) e s =
    let left_atom' = worth v (left_atom atom facts condition) in
    let same : compared condition.comparison left_atom' (worth v (right_atom atom facts condition)) ≡ compared condition.comparison x y =
    ap (λ z. compared condition.comparison z (worth v (right_atom atom facts condition))) (sym e) ∙ ap (λ z. compared condition.comparison x z) (sym s.1) in
    compared_says v atom facts condition (compared condition.comparison x y) s.0 same
right_says v atom facts condition x (overflows at) e s =
    one_right (Met v) (concat (sum_ways atom facts condition.left)) (concat (sum_ways atom (sum_facts atom facts condition.left) condition.right))
    (overflow_way v atom (sum_facts atom facts condition.left) (atom condition.right.first) condition.right.rest (check Overflow at None) s)

-- the left side, and then the right
left_says : (v : ℕ → ℤ) (atom : Part → Atom) (val : Part → ℤ) (facts : Facts) (condition : Condition) (left : Evaluated) → Agrees v atom val
    → Follows v (sum_facts atom facts condition.left).fresh (sum_values val condition.right)
    → SumSays v atom facts (atom condition.left.first) condition.left.rest left
    → ConditionSays v atom facts condition (judged_values condition.comparison left (evaluated val condition.right))
left_says v atom val facts condition (is x) agrees f s =
    right_says v atom facts condition x (evaluated val condition.right) s.1
    (sum_says v atom val (sum_facts atom facts condition.left) (atom condition.right.first) (val condition.right.first) condition.right.rest agrees (agrees condition.right.first) s.0 f)
left_says v atom val facts condition (overflows at) agrees f s =
    one_left (Met v) (concat (sum_ways atom facts condition.left)) (concat (sum_ways atom (sum_facts atom facts condition.left) condition.right))
    (overflow_way v atom facts (atom condition.left.first) condition.left.rest (check Overflow at None) s)

-- where v follows the operations, the rows say how the condition is judged
pub condition_says : (v : ℕ → ℤ) (atom : Part → Atom) (val : Part → ℤ) (facts : Facts) (condition : Condition) → Agrees v atom val → Met v facts.rows
    → Follows v facts.fresh (condition_values val condition) → ConditionSays v atom facts condition (judged val condition)
condition_says v atom val facts condition agrees m f =
    let parts = follows_after v atom val facts (atom condition.left.first) (val condition.left.first) condition.left.rest (sum_values val condition.right) f in
    left_says v atom val facts condition (evaluated val condition.left) agrees parts.1
    (sum_says v atom val facts (atom condition.left.first) (val condition.left.first) condition.left.rest agrees (agrees condition.left.first) m parts.0)

-- a condition that fails breaks one of its two obligations
pub condition_broken : (v : ℕ → ℤ) (atom : Part → Atom) (facts : Facts) (kind : Kind) (at : ℕ) (by : Option ℕ) (condition : Condition) (failing : Check) (outcome : Judged)
    → ConditionSays v atom facts condition outcome → Fails kind at by outcome failing → Broken v (condition_obligations atom facts kind at by condition) failing
condition_broken v atom facts kind at by condition failing holds s f = elim f [ ]
condition_broken v atom facts kind at by condition failing breaks s f = inr (inl (record { same = f; way = s }))
condition_broken v atom facts kind at by condition failing trouble s f = inl (record { same = f; way = s })

-- the operations of a condition, and those after it
pub follows_condition : (v : ℕ → ℤ) (atom : Part → Atom) (val : Part → ℤ) (facts : Facts) (condition : Condition) (more : List ℤ)
    → Follows v facts.fresh (condition_values val condition ++ more)
    → Follows v facts.fresh (condition_values val condition) × Follows v (condition_facts atom facts condition).fresh more
follows_condition v atom val facts condition more f =
    let left = sum_values val condition.left in
    let right = sum_values val condition.right in
    let outer = follows_after v atom val facts (atom condition.left.first) (val condition.left.first) condition.left.rest (right ++ more)
    (subst (Follows v facts.fresh) (append_assoc left right more) f) in
    let inner = follows_after v atom val (sum_facts atom facts condition.left) (atom condition.right.first) (val condition.right.first) condition.right.rest more outer.1 in
    (follows_prefix v facts.fresh (condition_values val condition) more f, inner.1)
