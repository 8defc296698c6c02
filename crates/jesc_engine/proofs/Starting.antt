-- Calls that start, and the numbers of the parameters' terms: a check can fail just where some numbers meet a way of it.
use Rattle.std.proofs.Common.{◌≡◌, ℕ, suc, ◌+◌, List, [], ◌∷◌, ◌++◌, length, ℤ, pos, refl, sym, ◌∙◌, ap, subst, arith, All, map, append_assoc}
use Rattle.std.proofs.lemmas.List.Elements.{All-nil, All-cons, All-head, All-tail}
use Rattle.jesc_linear.specs.Rows.{value_at}
use Rattle.jesc_first.specs.declared.check.Check.{Check}
use Rattle.jesc_first.specs.declared.tree.Part.{Part}
use Rattle.jesc_first.specs.declared.tree.Condition.{Condition}
use Rattle.jesc_first.specs.declared.tree.Method.{Method}
use Rattle.jesc_first.specs.Machine.{IsInt, value_in, holds, judged, Starts, CanFail}
use Rattle.jesc_engine.specs.declared.ways.atom.Atom.{Atom}
use Rattle.jesc_engine.specs.Rows.{worth}
use Rattle.jesc_engine.specs.Ways.{Facts, atom_in, condition_facts, no_outcome, in_range, terms_from, ranges_from, argument_facts, demand_facts, obligations}
use Rattle.jesc_engine.proofs.Meeting.{Met, Broken, met_both, met_left, met_right}
use Rattle.jesc_engine.proofs.Operating.{range_to, range_from, is_int_from, is_int_to}
use Rattle.jesc_engine.proofs.Summing.{Agrees, Follows}
use Rattle.jesc_engine.proofs.Judging.{condition_values, condition_holds, ConditionSays, condition_says, follows_condition}
use Rattle.jesc_engine.proofs.Slots.{slots_agree}
use Rattle.jesc_engine.proofs.Ending.{reaches_end, fails_at_end}
use Rattle.jesc_engine.proofs.Failing.{body_fails}
use Rattle.jesc_engine.proofs.Following.{body_values, body_broken}

-- each condition is true without trouble
abbrev AllHold : (Part → ℤ) → List Condition → Type 0
AllHold val conditions = All (λ condition. judged val condition ≡ holds) conditions

-- where v meets the rows of all `requires`, each is true
demands_hold : (v : ℕ → ℤ) (atom : Part → Atom) (val : Part → ℤ) (facts : Facts) (conditions : List Condition) → Agrees v atom val
    → Met v (demand_facts atom facts conditions).rows → Met v facts.rows × AllHold val conditions
demands_hold v atom val facts [] agrees m = (m, All-nil (λ condition. judged val condition ≡ holds))
demands_hold v atom val facts (condition ∷ rest) agrees m =
    let later = demands_hold v atom val (condition_facts atom facts condition) rest agrees m in
    let here = condition_holds v atom val facts condition agrees later.0 in
    (here.0, All-cons (λ condition. judged val condition ≡ holds) condition rest here.1 later.1)

-- the values of the operations of the `requires`, in order
demand_values : (Part → ℤ) → List Condition → List ℤ
demand_values val [] = []
demand_values val (condition ∷ rest) = condition_values val condition ++ demand_values val rest

-- where each is true and v follows their operations, v meets their rows
demands_met : (v : ℕ → ℤ) (atom : Part → Atom) (val : Part → ℤ) (facts : Facts) (conditions : List Condition) (more : List ℤ) → Agrees v atom val
    → Met v facts.rows → Follows v facts.fresh (demand_values val conditions ++ more) → AllHold val conditions
    → Met v (demand_facts atom facts conditions).rows × Follows v (demand_facts atom facts conditions).fresh more
unfolding demand_values
demands_met v atom val facts [] more agrees m f h = (m, f)
demands_met v atom val facts (condition ∷ rest) more agrees m f h =
    let parts = follows_condition v atom val facts condition (demand_values val rest ++ more)
    (subst (Follows v facts.fresh) (append_assoc (condition_values val condition) (demand_values val rest) more) f) in
    let true_one : judged val condition ≡ holds = All-head (λ condition. judged val condition ≡ holds) condition rest h in
    let met = subst (ConditionSays v atom facts condition) true_one (condition_says v atom val facts condition agrees m parts.0) in
    demands_met v atom val (condition_facts atom facts condition) rest more agrees met parts.1 (All-tail (λ condition. judged val condition ≡ holds) condition rest h)

-- the arguments that v gives the parameters' terms
ranges_are : (v : ℕ → ℤ) (k : ℕ) (names : List (List ℕ)) → Met v (ranges_from k names) → All IsInt (map (worth v) (terms_from k names))
ranges_are v k [] m = All-nil IsInt
ranges_are v k (name ∷ rest) m =
    All-cons IsInt (v k) (map (worth v) (terms_from (k + 1) rest)) (is_int_to (v k) (range_to v k (met_left v (in_range k) (ranges_from (k + 1) rest) m)))
    (ranges_are v (k + 1) rest (met_right v (in_range k) (ranges_from (k + 1) rest) m))

-- where the arguments are in range, v meets the ranges of their terms
ranges_met : (v : ℕ → ℤ) (k : ℕ) (names : List (List ℕ)) → All IsInt (map (worth v) (terms_from k names)) → Met v (ranges_from k names)
ranges_met v k [] a = tt
ranges_met v k (name ∷ rest) a =
    let tail = map (worth v) (terms_from (k + 1) rest) in
    met_both v (in_range k) (ranges_from (k + 1) rest) (range_from v k (is_int_from (v k) (All-head IsInt (v k) tail a)))
    (ranges_met v (k + 1) rest (All-tail IsInt (v k) tail a))

-- as many arguments as parameters
as_many : (v : ℕ → ℤ) (k : ℕ) (names : List (List ℕ)) → length (map (worth v) (terms_from k names)) ≡ length names
as_many v k [] = refl
as_many v k (name ∷ rest) = ap suc (as_many v (k + 1) rest)

-- where v follows the arguments, they are what it gives the parameters' terms
arguments_are : (v : ℕ → ℤ) (k : ℕ) (names : List (List ℕ)) (arguments more : List ℤ) → length arguments ≡ length names → Follows v k (arguments ++ more)
    → (arguments ≡ map (worth v) (terms_from k names)) × Follows v (k + length names) more
arguments_are v k [] [] more e f = (refl, subst (λ n. Follows v n more) (let z : k ≡ k + 0 = omega arith in z) f)
arguments_are v k [] (x ∷ arguments) more e f = absurd (omega arith)
arguments_are v k (name ∷ rest) [] more e f = absurd (omega arith)
arguments_are v k (name ∷ rest) (x ∷ arguments) more e f =
    let later = arguments_are v (k + 1) rest arguments more (omega arith) f.1 in
    let count : k + 1 + length rest ≡ k + length (name ∷ rest) = omega arith in
    (ap (λ y. y ∷ arguments) (sym f.0) ∙ ap (λ ys. v k ∷ ys) later.0, subst (λ n. Follows v n more) count later.1)

-- numbers that follow a list
follows_shifted : (v : ℕ → ℤ) (n : ℕ) (zs : List ℤ) → Follows (λ k. v (suc k)) n zs → Follows v (suc n) zs
follows_shifted v n [] f = tt
follows_shifted v n (z ∷ zs) f =
    let next : suc (n + 1) ≡ suc n + 1 = omega arith in
    (f.0, subst (λ m. Follows v m zs) next (follows_shifted v (n + 1) zs f.1))

-- the numbers of a list follow it
follows_itself : (zs : List ℤ) → Follows (value_at zs) 0 zs
follows_itself [] = tt
follows_itself (z ∷ zs) = (refl, follows_shifted (value_at (z ∷ zs)) 0 zs (follows_itself zs))

-- where some numbers meet a way of a check, a call that starts fails it
pub can_fail : (method : Method) (v : ℕ → ℤ) (failing : Check) → Broken v (obligations method) failing → CanFail method failing
can_fail method v failing b =
    let atoms = terms_from 0 method.parameters in
    let arguments = map (worth v) atoms in
    let facts = demand_facts (atom_in atoms no_outcome) (argument_facts method) method.demands in
    let out = body_fails v method arguments arguments atoms atoms facts method.body failing refl refl b in
    let demands = demands_hold v (atom_in atoms no_outcome) (value_in arguments (pos 0)) (argument_facts method) method.demands (slots_agree v atoms arguments no_outcome (pos 0) refl refl) out.0 in
    let starts : Starts method arguments = record {
      count = as_many v 0 method.parameters;
      ints = ranges_are v 0 method.parameters demands.0;
      applies = demands.1;
    } in
    (arguments, starts, (suc (length method.body), reaches_end method arguments arguments method.body ∙ out.1))

-- where a call that starts fails a check, some numbers meet a way of it
pub has_way : (method : Method) (failing : Check) → CanFail method failing → (v : ℕ → ℤ) × Broken v (obligations method) failing
has_way method failing fails =
    let arguments = fails.0 in
    let starts = fails.1 in
    let atoms = terms_from 0 method.parameters in
    let val = value_in arguments (pos 0) in
    let later = body_values method arguments arguments method.body in
    let all = arguments ++ (demand_values val method.demands ++ later) in
    let v = value_at all in
    let given = arguments_are v 0 method.parameters arguments (demand_values val method.demands ++ later) starts.count (follows_itself all) in
    let agrees = slots_agree v atoms arguments no_outcome (pos 0) given.0 refl in
    let from : Follows v (length method.parameters) (demand_values val method.demands ++ later) =
    subst (λ n. Follows v n (demand_values val method.demands ++ later)) (let z : 0 + length method.parameters ≡ length method.parameters = omega arith in z) given.1 in
    let ranges = ranges_met v 0 method.parameters (subst (All IsInt) given.0 starts.ints) in
    let demands = demands_met v (atom_in atoms no_outcome) val (argument_facts method) method.demands later agrees ranges from starts.applies in
    let end = fails_at_end method arguments fails.2.0 arguments method.body failing fails.2.1 in
    (v, body_broken v method arguments arguments atoms atoms (demand_facts (atom_in atoms no_outcome) (argument_facts method) method.demands) method.body failing given.0 given.0 demands.0 demands.1 end)
