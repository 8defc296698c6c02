-- The conditions of a whole core: which checks they are for, and when they are true.
use Rattle.std.proofs.Common.{◌≡◌, ℕ, zero, suc, List, [], ◌∷◌, ◌++◌, map, refl, sym, ap, ◌∙◌, subst, arith}
use Rattle.std.specs.Prelude.{pos}
use Rattle.jesc_text.specs.declared.place.Place.{Place}
use Rattle.jesc_logic.specs.Structures.{Structure, read}
use Rattle.jesc_core.specs.Trees.{Failure, StepTree, assume, check, assign, keep, write, write_element, make, build, havoc, branch, block, leave, stop, CoreTree, done, CoreTrees, no_cores, more_cores}
use Rattle.jesc_core.specs.Fields.{field_count}
use Rattle.jesc_core.specs.Proper.{IsProper}
use Rattle.jesc_core.specs.Heaps.{first_state}
use Rattle.jesc_core.specs.Runs.{Turn, inside_block, run_core, nowhere, Fails}
use Rattle.jesc_core.specs.Walks.{Reached, checks_of_step, checks_of_core, checks_of_ways, checks_of}
use Rattle.jesc_vc.specs.Facts.{AreMet, Shares, AreShort}
use Rattle.jesc_vc.specs.Moves.{Known, ConditionTree, Asking, turned, ask_step, ask_core, ask_ways, first_known, asked_of, about}
use Rattle.jesc_vc.proofs.Entries.{In}
use Rattle.jesc_vc.proofs.Moving.{state, IsKnown}
use Rattle.jesc_vc.proofs.Framing.{choice_below, choice_in}
use Rattle.jesc_vc.proofs.Asked.{Answers, Answered, core_answers, nothing_answers}

-- ---- the checks

map_append : {X Y : Type 0} (f : X → Y) (xs ys : List X) → map f (xs ++ ys) ≡ map f xs ++ map f ys
map_append f [] ys = refl
map_append f (x ∷ xs) ys = ap (λ zs. f x ∷ zs) (map_append f xs ys)

-- a check behind one turn more
abbrev further : Place → ℕ → Reached → Reached
further place way (turns, failure) = ((place, way) ∷ turns, failure)

turned_about : (place : Place) (way : ℕ) (conds : List ConditionTree) → map about (map (turned (place, way)) conds) ≡ map (further place way) (map about conds)
turned_about place way [] = refl
turned_about place way (c ∷ conds) = ap (λ zs. about (turned (place, way) c) ∷ zs) (turned_about place way conds)

-- the conditions are for these checks
abbrev Lists : Asking → List Reached → Type 0
Lists a xs = (k : Known) → map about (a k) ≡ xs

inside_lists : (a : Asking) (l : ℕ → Asking) (xs : List Reached) (ls : ℕ → List Reached) → Lists a xs → ((d : ℕ) → Lists (l d) (ls d)) → (d : ℕ) → Lists (inside_block a l d) (inside_block xs ls d)
inside_lists a l xs ls h k zero = h
inside_lists a l xs ls h k (suc d) = k d

module _ (fields : ℕ) where
  mutual
    step_lists : (s : StepTree) (a : Asking) (l : ℕ → Asking) (xs : List Reached) (ls : ℕ → List Reached) → Lists a xs → ((d : ℕ) → Lists (l d) (ls d)) → Lists (ask_step fields s a l) (checks_of_step s xs ls)
    step_lists (assume f) a l xs ls h k j = h _
    step_lists (check own f) a l xs ls h k j = ap (λ zs. ([], own) ∷ zs) (h _)
    step_lists (assign x t) a l xs ls h k j = h _
    step_lists (keep n) a l xs ls h k j = h _
    step_lists (write f object v) a l xs ls h k j = h _
    step_lists (write_element array index v) a l xs ls h k j = h _
    step_lists (make x ty size) a l xs ls h k j = h _
    step_lists (build object) a l xs ls h k j = h _
    step_lists (havoc x frame) a l xs ls h k j = h _
    step_lists (branch place cores) a l xs ls h k j = ways_lists cores place 0 a l xs ls h k j
    step_lists (block core) a l xs ls h k j = core_lists core a (inside_block a l) xs (inside_block xs ls) h (inside_lists a l xs ls h k) j
    step_lists (leave depth) a l xs ls h k j = k depth j
    step_lists stop a l xs ls h k j = refl

    core_lists : (c : CoreTree) (a : Asking) (l : ℕ → Asking) (xs : List Reached) (ls : ℕ → List Reached) → Lists a xs → ((d : ℕ) → Lists (l d) (ls d)) → Lists (ask_core fields c a l) (checks_of_core c xs ls)
    core_lists done a l xs ls h k j = h j
    core_lists (CoreTree.next s rest) a l xs ls h k j = step_lists s (ask_core fields rest a l) l (checks_of_core rest xs ls) ls (core_lists rest a l xs ls h k) k j

    ways_lists : (cs : CoreTrees) (place : Place) (n : ℕ) (a : Asking) (l : ℕ → Asking) (xs : List Reached) (ls : ℕ → List Reached) → Lists a xs → ((d : ℕ) → Lists (l d) (ls d)) → Lists (ask_ways fields cs place n a l) (checks_of_ways cs place n xs ls)
    ways_lists no_cores place n a l xs ls h k j = refl
    ways_lists (more_cores c cs) place n a l xs ls h k j =
        map_append about (map (turned (place, n)) (ask_core fields c a l j)) (ask_ways fields cs place (suc n) a l j)
        ∙ (λ i. (turned_about place n (ask_core fields c a l j) ∙ ap (map (further place n)) (core_lists c a l xs ls h k j)) i ++ ways_lists cs place (suc n) a l xs ls h k j i)

pub asked_listed : (core : CoreTree) → map about (asked_of core) ≡ checks_of core
asked_listed core = core_lists (field_count core) core (λ k. []) (λ d k. []) [] (λ d. []) (λ k. refl) (λ d k. refl) first_known

-- ---- truth

module _ (core : CoreTree) (proper : IsProper core) (s : Structure) where
  shares_itself : Shares (read s) s
  shares_itself symbol args shared = refl

  nothing : Answers (read s) (field_count core) proper.fields (λ k. []) (λ failure. nowhere)
  nothing = nothing_answers (read s) (field_count core) proper.fields (λ failure. nowhere) (λ f y t r. r)

  whole : Answers (read s) (field_count core) proper.fields (ask_core (field_count core) core (λ k. []) (λ d k. [])) (λ failure. run_core (read s) (field_count core) failure core nowhere (λ d. nowhere))
  whole = core_answers (read s) (field_count core) proper.fields core 0 (λ k. []) (λ d k. []) (λ failure. nowhere) (λ d failure. nowhere) proper.inside (omega arith) nothing (λ d. nothing)

  first_is_known : IsKnown (read s) (field_count core) first_known
  first_is_known = record { variables = λ x. tt; heap = choice_below (field_count core) 0 0 0 proper.fields; kept = λ k. choice_below (field_count core) 0 0 0 proper.fields }

  first_is : state (read s) (field_count core) s first_known ≡ first_state (read s) (field_count core)
  first_is =
      let h = choice_in (read s) (field_count core) proper.fields s 0 shares_itself in
      λ i. record { variables = λ x. pos 0; heap = h i; kept = λ k. h i; choice = 0 }

  -- a structure that makes a condition true has a run that fails its check, behind its turns
  pub asked_sound : (d : ConditionTree) → In (asked_of core) d → AreShort d.facts → AreMet s d.facts → Fails (read s) core d.turns d.failure
  asked_sound d p short m =
      let w = whole in
      subst (λ y. run_core (read s) (field_count core) d.failure core nowhere (λ e. nowhere) y d.turns) first_is (w.sound s shares_itself first_known first_is_known d p short m)

  -- where a structure has such a run, one that agrees with it makes the condition true
  pub asked_complete : ((d : ConditionTree) → In (asked_of core) d → AreShort d.facts) → (failure : Failure) (turns : List Turn) → Fails (read s) core turns failure → Answered (asked_of core) 0 s failure turns
  asked_complete short failure turns r =
      let w = whole in
      w.complete s shares_itself first_known first_is_known tt tt short failure turns (subst (λ y. run_core (read s) (field_count core) failure core nowhere (λ e. nowhere) y turns) (sym first_is) r)
