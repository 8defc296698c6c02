-- What each step of a core makes of the terms of a path, and the conditions of a core, path by path.
use Rattle.std.specs.Prelude.{ℕ, zero, suc, ℤ, pos, Bool, true, false, List, [], ◌∷◌, ◌++◌, map}
use Rattle.jesc_text.specs.declared.place.Place.{Place}
use Rattle.jesc_logic.specs.declared.fact.Sort.{Sort}
use Rattle.jesc_logic.specs.declared.fact.Sort.TheVariants.{Number, Reference}
use Rattle.jesc_logic.specs.Terms.{Term, number, constant, unary, binary}
use Rattle.jesc_logic.specs.Claims.{Claim, falsity, at_most, equal, negation, both, either}
use Rattle.jesc_core.specs.Trees.{TermTree, FormulaTree, Failure, FrameTree, StepTree, assume, check, assign, keep, write, write_element, make, build, havoc, branch, block, leave, stop, CoreTree, done, CoreTrees, no_cores, more_cores}
use Rattle.jesc_core.specs.Heaps.{with_natural, first_mark}
use Rattle.jesc_core.specs.Fields.{field_count}
use Rattle.jesc_core.specs.Runs.{Turn, formula_at, inside_block}
use Rattle.jesc_core.specs.Walks.{Reached}
use Rattle.jesc_vc.specs.Facts.{FactTree}
use Rattle.jesc_vc.specs.Environments.{Source, HeapTree, EnvTree, env_with, read_one, read_two, choice_tree, first_env}
use Rattle.jesc_vc.specs.Encodings.{ScopeTree, encode_term, claim_formula}

-- ---- what is known on a path

-- the terms of variables and heaps, the facts so far, and the number of the next auxiliary symbol
pub record Known : Type 0 where
  pub env : EnvTree
  pub facts : List FactTree
  pub next : ℕ

-- more facts, and other terms
abbrev pub and_facts : Known → List FactTree → EnvTree → ℕ → Known
and_facts k facts env c = record { env = env; facts = k.facts ++ facts; next = c }

-- no variables: a fact says what it says
abbrev pub ground : ScopeTree
ground = record { sorts = []; code = []; guard = falsity }

abbrev pub fact : List Sort → Claim Term → FactTree
fact sorts body = record { sorts = sorts; body = body }

-- the first and the second variable of a fact
abbrev pub first : Term
first = constant 32

abbrev pub second : Term
second = constant 33

-- ---- versions

-- the version of that number, and what it replaces: another value at one object
abbrev pub facts_at_one : Source → ℕ → Term → Term → List FactTree
facts_at_one old v object value =
    fact [] (equal (read_one (13, v) object) value)
    ∷ fact (Reference ∷ []) (either (equal first object) (equal (read_one (13, v) first) (read_one old first))) ∷ []

-- another value at one element
abbrev pub facts_at_two : Source → ℕ → Term → Term → Term → List FactTree
facts_at_two old v array index value =
    fact [] (equal (read_two (14, v) array index) value)
    ∷ fact (Reference ∷ Number ∷ []) (either (both (equal first array) (equal second index)) (equal (read_two (14, v) first second) (read_two old first second))) ∷ []

-- all elements of one array are 0
abbrev pub facts_at_array : Source → ℕ → Term → List FactTree
facts_at_array old v array =
    fact (Number ∷ []) (equal (read_two (14, v) array first) (number (pos 0)))
    ∷ fact (Reference ∷ Number ∷ []) (either (equal first array) (equal (read_two (14, v) first second) (read_two old first second))) ∷ []

-- ---- changes of the present heap's terms

abbrev pub env_heap : EnvTree → HeapTree → EnvTree
env_heap env h = record env { heap = h }

abbrev pub env_built : EnvTree → Source → EnvTree
env_built env s = let h = env.heap in env_heap env (record h { built = s })

abbrev pub env_element : EnvTree → Source → EnvTree
env_element env s = let h = env.heap in env_heap env (record h { element = s })

abbrev pub env_field : EnvTree → ℕ → Source → EnvTree
env_field env f s = let h = env.heap in env_heap env (record h { field = with_natural h.field f s })

abbrev pub env_top : EnvTree → Term → EnvTree
env_top env t = let h = env.heap in env_heap env (record h { top = t })

abbrev pub env_kept : EnvTree → ℕ → EnvTree
env_kept env k = record env { kept = with_natural env.kept k env.heap }

-- ---- moves

-- what is assumed
abbrev pub assumed : FormulaTree → Bool → Known → Known
assumed f value k = let m = claim_formula f value k.env ground k.next in and_facts k m.facts k.env m.next

abbrev pub assigned : ℕ → TermTree → Known → Known
assigned x t k = let m = encode_term t k.env ground k.next in and_facts k m.facts (env_with k.env x m.out) m.next

abbrev pub kept_so : ℕ → Known → Known
kept_so n k = record k { env = env_kept k.env n }

abbrev pub field_set : ℕ → Term → Term → Known → Known
field_set f object value k = let env = k.env in let h = env.heap in and_facts k (facts_at_one (h.field f) k.next object value) (env_field k.env f (13, k.next)) (suc k.next)

abbrev pub built_set : Term → Term → Known → Known
built_set object value k = let env = k.env in let h = env.heap in and_facts k (facts_at_one h.built k.next object value) (env_built k.env (13, k.next)) (suc k.next)

abbrev pub element_set : Term → Term → Term → Known → Known
element_set array index value k = let env = k.env in let h = env.heap in and_facts k (facts_at_two h.element k.next array index value) (env_element k.env (14, k.next)) (suc k.next)

abbrev pub elements_cleared : Term → Known → Known
elements_cleared array k = let env = k.env in let h = env.heap in and_facts k (facts_at_array h.element k.next array) (env_element k.env (14, k.next)) (suc k.next)

-- the terms that are made first
abbrev pub with_term : TermTree → Known → (Term → Known → Known) → Known
with_term t k go = let m = encode_term t k.env ground k.next in go m.out (and_facts k m.facts k.env m.next)

abbrev pub written : ℕ → TermTree → TermTree → Known → Known
written f object value k = with_term object k (λ o j. with_term value j (λ v i. field_set f o v i))

abbrev pub element_written : TermTree → TermTree → TermTree → Known → Known
element_written array index value k = with_term array k (λ a j. with_term index j (λ i l. with_term value l (λ v n. element_set a i v n)))

abbrev pub built_so : TermTree → Known → Known
built_so object k = with_term object k (λ o j. built_set o (number (pos 1)) j)

-- all fields from one on, as many as that, are 0 at the object
abbrev pub fields_cleared : ℕ → ℕ → Term → Known → Known
fields_cleared zero f object k = k
fields_cleared (suc n) f object k = fields_cleared n (suc f) object (field_set f object (number (pos 0)) k)

-- the object at the top has this type and length
abbrev pub type_facts : Term → ℤ → Term → List FactTree
type_facts top ty size = fact [] (equal (unary 5 top) (number ty)) ∷ fact [] (equal (unary 6 top) size) ∷ []

abbrev pub typed : ℤ → Term → Known → Known
typed ty size k = let env = k.env in let h = env.heap in and_facts k (type_facts h.top ty size) k.env k.next

-- the object that is made becomes the variable's value, and the next one comes behind it
abbrev pub topped : ℕ → Known → Known
topped x k = let env = k.env in let h = env.heap in record k { env = env_with (env_top k.env (binary 0 h.top (number (pos 1)))) x h.top }

abbrev pub object_made : ℕ → ℕ → ℤ → TermTree → Known → Known
object_made fields x ty size k =
    with_term size k (λ s j.
    let env = j.env in
    let h = env.heap in
    topped x (fields_cleared fields 0 h.top (elements_cleared h.top (built_set h.top (number (first_mark ty)) (typed ty s j)))))

-- ---- frames

-- objects keep their marks in the next choice's heap
abbrev pub mark_fact : Source → Source → Term → FactTree
mark_fact new old top = fact (Reference ∷ []) (either (equal (read_one new first) (read_one old first)) (either (negation (at_most (number (pos 1)) first)) (at_most top first)))

-- the objects at which a field has changed
abbrev pub changed_field : Source → Source → ScopeTree
changed_field new old = record { sorts = Reference ∷ []; code = first ∷ []; guard = equal (read_one new first) (read_one old first) }

abbrev pub changed_element : Source → Source → ScopeTree
changed_element new old = record { sorts = Reference ∷ Number ∷ []; code = first ∷ second ∷ []; guard = equal (read_two new first second) (read_two old first second) }

-- where a field has changed, the frame lets it
abbrev pub field_framed : FrameTree → ℕ → Known → Known
field_framed frame f k =
    let env = k.env in
    let old = env.heap in
    let new = choice_tree (suc env.choice) in
    let m = claim_formula (formula_at frame.fields f) true (env_with env frame.object first) (changed_field (new.field f) (old.field f)) k.next in
    and_facts k m.facts k.env m.next

abbrev pub fields_framed : ℕ → ℕ → FrameTree → Known → Known
fields_framed zero f frame k = k
fields_framed (suc n) f frame k = fields_framed n (suc f) frame (field_framed frame f k)

abbrev pub elements_framed : FrameTree → Known → Known
elements_framed frame k =
    let env = k.env in
    let old = env.heap in
    let new = choice_tree (suc env.choice) in
    let m = claim_formula frame.elements true (env_with (env_with env frame.object first) frame.index second) (changed_element new.element old.element) k.next in
    and_facts k m.facts k.env m.next

abbrev pub marks_framed : Known → Known
marks_framed k =
    let env = k.env in
    let old = env.heap in
    let new = choice_tree (suc env.choice) in
    and_facts k (mark_fact new.built old.built old.top ∷ []) k.env k.next

-- the next choice's heap
abbrev pub chosen_next : ℕ → Known → Known
chosen_next x k =
    let env = k.env in
    record k { env = record { variables = with_natural env.variables x (number (pos (suc env.choice))); heap = choice_tree (suc env.choice); kept = env.kept; choice = suc env.choice } }

abbrev pub havocked : ℕ → ℕ → FrameTree → Known → Known
havocked fields x frame k = chosen_next x (elements_framed frame (fields_framed fields 0 frame (marks_framed k)))

-- ---- the conditions of a core

-- a check behind turns, and what is true where it fails
pub record ConditionTree : Type 0 where
  pub turns : List Turn
  pub failure : Failure
  pub facts : List FactTree

-- the conditions of what comes next
abbrev pub Asking : Type 0
Asking = Known → List ConditionTree

-- the conditions behind one turn more
abbrev pub turned : Turn → ConditionTree → ConditionTree
turned turn c = record c { turns = turn ∷ c.turns }

module _ (fields : ℕ) where
  abbrev mutual
    pub ask_step : StepTree → Asking → (ℕ → Asking) → Asking
    ask_step (assume f) after left k = after (assumed f true k)
    ask_step (check failure f) after left k = record { turns = []; failure = failure; facts = (let j = assumed f false k in j.facts) } ∷ after (assumed f true k)
    ask_step (assign x t) after left k = after (assigned x t k)
    ask_step (keep n) after left k = after (kept_so n k)
    ask_step (write f object value) after left k = after (written f object value k)
    ask_step (write_element array index value) after left k = after (element_written array index value k)
    ask_step (make x ty size) after left k = after (object_made fields x ty size k)
    ask_step (build object) after left k = after (built_so object k)
    ask_step (havoc x frame) after left k = after (havocked fields x frame k)
    ask_step (branch place cores) after left k = ask_ways cores place 0 after left k
    ask_step (block core) after left k = ask_core core after (inside_block after left) k
    ask_step (leave depth) after left k = left depth k
    ask_step stop after left k = []

    pub ask_core : CoreTree → Asking → (ℕ → Asking) → Asking
    ask_core done after left k = after k
    ask_core (CoreTree.next step rest) after left k = ask_step step (ask_core rest after left) left k

    pub ask_ways : CoreTrees → Place → ℕ → Asking → (ℕ → Asking) → Asking
    ask_ways no_cores place way after left k = []
    ask_ways (more_cores core cores) place way after left k = map (turned (place, way)) (ask_core core after left k) ++ ask_ways cores place (suc way) after left k

-- nothing is known yet: each variable is 0, and every heap that of choice 0
abbrev pub first_known : Known
first_known = record { env = first_env; facts = []; next = 0 }

-- the conditions of a core, depth first
abbrev pub asked_of : CoreTree → List ConditionTree
asked_of core = ask_core (field_count core) core (λ k. []) (λ depth k. []) first_known

-- what a condition is for
abbrev pub about : ConditionTree → Reached
about c = (c.turns, c.failure)
