-- The conditions of a core are those of its runs.
use Rattle.std.proofs.Common.{◌≡◌, ◌⊎◌, ℕ, zero, suc, ◌+◌, ◌≤◌, true, false, List, [], ◌∷◌, ◌++◌, map, refl, sym, ap, ◌∙◌, subst, inl, inr, arith}
use Rattle.jesc_text.specs.declared.place.Place.{Place}
use Rattle.jesc_logic.specs.Structures.{Structure}
use Rattle.jesc_core.specs.Trees.{FormulaTree, Failure, StepTree, assume, check, assign, keep, write, write_element, make, build, havoc, branch, block, leave, stop, CoreTree, done, CoreTrees, no_cores, more_cores}
use Rattle.jesc_core.specs.Fields.{fields_of_formula, fields_of_step, field_count, fields_of_cores}
use Rattle.jesc_core.specs.Proper.{IsProperFormula, IsProperStep, IsProperInside, AreProperCores}
use Rattle.jesc_core.specs.Heaps.{Reading, State}
use Rattle.jesc_core.specs.Values as core
use Rattle.jesc_core.specs.Runs.{Turn, After, inside_block, run_step, run_core, run_way}
use Rattle.jesc_vc.specs.Facts.{FactTree, AreMet, Agree, AreBelowFacts, Shares, AreShort}
use Rattle.jesc_vc.specs.Moves.{Known, assumed, ConditionTree, Asking, turned, ask_step, ask_core, ask_ways}
use Rattle.jesc_vc.proofs.Below.{met_later, facts_later, below_facts_append, met_append, met_back}
use Rattle.jesc_vc.proofs.States.{shares_later}
use Rattle.jesc_vc.proofs.Entries.{In, in_front, in_back}
use Rattle.jesc_vc.proofs.Saying.{Extends, agree_on}
use Rattle.jesc_vc.proofs.Moving.{Moves, Always, state, IsKnown, known_state}
use Rattle.jesc_vc.proofs.Steps.{Begins, begins_then, short_begin, met_begin, IsStep, assumed_step, assigned_step, kept_step, written_step, element_step, built_step, object_step, havoc_step}

-- ---- lists

in_map : {X Y : Type 0} (f : X → Y) (xs : List X) (x : X) → In xs x → In (map f xs) (f x)
in_map f [] x p = absurd p
in_map f (y ∷ ys) x (inl e) = inl (ap f e)
in_map f (y ∷ ys) x (inr p) = inr (in_map f ys x p)

from_map : {X Y : Type 0} (f : X → Y) (xs : List X) (y : Y) → In (map f xs) y → (x : X) × In xs x × (f x ≡ y)
from_map f [] y p = absurd p
from_map f (x ∷ xs) y (inl e) = (x, inl refl, e)
from_map f (x ∷ xs) y (inr p) = let r = from_map f xs y p in (r.0, inr r.1, r.2)

either_part : {X : Type 0} (xs ys : List X) (x : X) → In (xs ++ ys) x → In xs x ⊎ In ys x
either_part [] ys x p = inr p
either_part (y ∷ xs) ys x (inl e) = inl (inl e)
either_part (y ∷ xs) ys x (inr p) = by (either_part xs ys x p)
  where
    by : In xs x ⊎ In ys x → In (y ∷ xs) x ⊎ In ys x
    by (inl q) = inl (inr q)
    by (inr q) = inr q

-- a condition for this check behind these turns
pub record Found (conds : List ConditionTree) (failure : Failure) (turns : List Turn) : Type 0 where
  pub condition : ConditionTree
  pub there : In conds condition
  pub turns_are : condition.turns ≡ turns
  pub failure_is : condition.failure ≡ failure

-- which a structure makes true that agrees on what was known
pub record Answered (conds : List ConditionTree) (c : ℕ) (s : Structure) (failure : Failure) (turns : List Turn) : Type 0 where
  pub condition : ConditionTree
  pub there : In conds condition
  pub turns_are : condition.turns ≡ turns
  pub failure_is : condition.failure ≡ failure
  pub extends : Extends c condition.facts s

module _ (reading : Reading) (fields : ℕ) (few_fields : fields ≤ 2147483584) where
  -- The conditions that are asked are those of the run: each is behind what is known, and each that a structure makes true is
  -- failed by the run from the structure's state; and where a run fails a check, its condition can be made true.
  pub record Answers (a : Asking) (run : Failure → After) : Type 0 where
    pub begins : (k : Known) (d : ConditionTree) → In (a k) d → Begins k.facts d.facts
    pub finds : (failure : Failure) (y : State) (turns : List Turn) → run failure y turns → (k : Known) → Found (a k) failure turns
    pub sound : (s : Structure) → Shares reading s → (k : Known) → IsKnown reading fields k → (d : ConditionTree) → In (a k) d → AreShort d.facts → AreMet s d.facts → run d.failure (state reading fields s k) d.turns
    pub complete : (s : Structure) → Shares reading s → (k : Known) → IsKnown reading fields k → AreBelowFacts k.next k.facts → AreMet s k.facts → ((d : ConditionTree) → In (a k) d → AreShort d.facts)
        → (failure : Failure) (turns : List Turn) → run failure (state reading fields s k) turns → Answered (a k) k.next s failure turns

  pub answers_same : (a : Asking) (run run' : Failure → After) → ((f : Failure) (y : State) (turns : List Turn) → run f y turns → run' f y turns) → ((f : Failure) (y : State) (turns : List Turn) → run' f y turns → run f y turns)
      → Answers a run → Answers a run'
  answers_same a run run' into back h = record {
    begins = h.begins;
    finds = λ f y t r k. h.finds f y t (back f y t r) k;
    sound = λ s q k b d p short m. into d.failure (state reading fields s k) d.turns (h.sound s q k b d p short m);
    complete = λ s q k b bf m short f t r. h.complete s q k b bf m short f t (back f (state reading fields s k) t r);
  }

  -- facts that are met, and below what comes next, after a move
  record Onward (k j : Known) (s : Structure) : Type 0 where
    to : Structure
    agrees : Agree k.next 0 s to
    met : AreMet to j.facts
    below : AreBelowFacts j.next j.facts
    shares : Shares reading to

  onward : (k j : Known) (B : State → Type 0) (post : State → State) (s : Structure) → Moves reading fields k j B post → Shares reading s → AreBelowFacts k.next k.facts → AreMet s k.facts → B (state reading fields s k) → Onward k j s
  onward k j B post s mv q bf m w =
      let e = mv.complete s q w in
      record {
        to = e.to;
        agrees = e.agrees;
        met = subst (AreMet e.to) (sym mv.is) (met_append e.to k.facts mv.more (met_later k.next s e.to e.agrees k.facts bf m) e.met);
        below = subst (AreBelowFacts j.next) (sym mv.is) (below_facts_append j.next k.facts mv.more (facts_later k.next j.next mv.rises k.facts bf) mv.below);
        shares = shares_later reading k.next s e.to e.agrees q;
      }

  -- the facts of a move are met where those of a condition behind it are
  said : (k j : Known) (B : State → Type 0) (post : State → State) (s : Structure) (fs : List FactTree) → Moves reading fields k j B post → Shares reading s → Begins j.facts fs → AreMet s fs
      → B (state reading fields s k) × (state reading fields s j ≡ post (state reading fields s k))
  said k j B post s fs mv q b m = mv.sound s q (met_back s k.facts mv.more (subst (AreMet s) mv.is (met_begin s j.facts fs b m)))

  -- a simple step
  pub simple_answers : (a : Asking) (run : Failure → After) (moved : Known → Known) (B : State → Type 0) (post : State → State) → ((k : Known) → IsStep reading fields few_fields k (moved k) B post) → Answers a run
      → Answers (λ k. a (moved k)) (λ failure y turns. B y × run failure (post y) turns)
  simple_answers a run moved B post step h = record {
    begins = λ k d p. let st = step k in let j = moved k in begins_then k.facts j.facts d.facts st.begins (h.begins j d p);
    finds = λ f y t r k. h.finds f (post y) t r.1 (moved k);
    sound = λ s q k b d p short m.
        let st = step k in
        let j = moved k in
        let begins = h.begins j d p in
        let mv = st.moves (short_begin j.facts d.facts begins short) b in
        let so = said k j B post s d.facts mv q begins m in
        (so.0, subst (λ y. run d.failure y d.turns) so.1 (h.sound s q j mv.known d p short m));
    complete = λ s q k b bf m short f t r.
        let st = step k in
        let j = moved k in
        let found = h.finds f (post (state reading fields s k)) t r.1 j in
        let d = found.condition in
        let mv = st.moves (short_begin j.facts d.facts (h.begins j d found.there) (short d found.there)) b in
        let o = onward k j B post s mv q bf m r.0 in
        let so = mv.sound o.to o.shares (met_back o.to k.facts mv.more (subst (AreMet o.to) mv.is o.met)) in
        let same = so.1 ∙ ap post (sym (known_state reading fields k s o.to b o.agrees)) in
        let answer = h.complete o.to o.shares j mv.known o.below o.met short f t (subst (λ y. run f y t) (sym same) r.1) in
        let e = answer.extends in
        record {
          condition = answer.condition;
          there = answer.there;
          turns_are = answer.turns_are;
          failure_is = answer.failure_is;
          extends = record { to = e.to; agrees = agree_on k.next j.next s o.to e.to mv.rises o.agrees e.agrees; met = e.met };
        };
  }

  -- a step that goes on always
  pub free_answers : (a : Asking) (run : Failure → After) (moved : Known → Known) (post : State → State) → ((k : Known) → IsStep reading fields few_fields k (moved k) (Always reading fields) post) → Answers a run
      → Answers (λ k. a (moved k)) (λ failure y turns. run failure (post y) turns)
  free_answers a run moved post step h =
      answers_same (λ k. a (moved k)) (λ failure y turns. Always reading fields y × run failure (post y) turns) (λ failure y turns. run failure (post y) turns) (λ f y t r. r.1) (λ f y t r. (tt, r))
      (simple_answers a run moved (Always reading fields) post step h)

  -- ---- a check

  abbrev asked : Failure → FormulaTree → Known → ConditionTree
  asked failure f k = record { turns = []; failure = failure; facts = (let j = assumed f false k in j.facts) }

  abbrev CheckRun : Failure → FormulaTree → (Failure → After) → Failure → After
  CheckRun own f run failure y turns = ((core.is_true reading f y ≡ false) × (own ≡ failure) × (turns ≡ [])) ⊎ ((core.is_true reading f y ≡ true) × run failure y turns)

  check_answers : (a : Asking) (run : Failure → After) (own : Failure) (f : FormulaTree) → IsProperFormula f → fields_of_formula f ≤ fields → Answers a run
      → Answers (λ k. asked own f k ∷ a (assumed f true k)) (CheckRun own f run)
  check_answers a run own f fine few h = record {
    begins = begins;
    finds = finds;
    sound = sound;
    complete = complete;
  }
    where
      passed : (k : Known) → IsStep reading fields few_fields k (assumed f true k) (λ y. core.is_true reading f y ≡ true) (λ y. y)
      passed k = assumed_step reading fields few_fields f true k fine few

      failed : (k : Known) → IsStep reading fields few_fields k (assumed f false k) (λ y. core.is_true reading f y ≡ false) (λ y. y)
      failed k = assumed_step reading fields few_fields f false k fine few

      on : Answers (λ k. a (assumed f true k)) (λ failure y turns. (core.is_true reading f y ≡ true) × run failure y turns)
      on = simple_answers a run (λ k. assumed f true k) (λ y. core.is_true reading f y ≡ true) (λ y. y) passed h

      begins : (k : Known) (d : ConditionTree) → In (asked own f k ∷ a (assumed f true k)) d → Begins k.facts d.facts
      begins k d (inl e) = let st = failed k in subst (λ (c : ConditionTree). Begins k.facts c.facts) e st.begins
      begins k d (inr p) = on.begins k d p

      finds : (failure : Failure) (y : State) (turns : List Turn) → CheckRun own f run failure y turns → (k : Known) → Found (asked own f k ∷ a (assumed f true k)) failure turns
      finds failure y turns (inl r) k = record { condition = asked own f k; there = inl refl; turns_are = sym r.2; failure_is = r.1 }
      finds failure y turns (inr r) k = let g = on.finds failure y turns r k in record { condition = g.condition; there = inr g.there; turns_are = g.turns_are; failure_is = g.failure_is }

      sound : (s : Structure) → Shares reading s → (k : Known) → IsKnown reading fields k → (d : ConditionTree) → In (asked own f k ∷ a (assumed f true k)) d → AreShort d.facts → AreMet s d.facts → CheckRun own f run d.failure (state reading fields s k) d.turns
      sound s q k b d (inl e) short m =
          let j = assumed f false k in
          let facts : j.facts ≡ d.facts = ap (λ (c : ConditionTree). c.facts) e in
          let st = failed k in
          let mv = st.moves (subst AreShort (sym facts) short) b in
          let so = said k j (λ y. core.is_true reading f y ≡ false) (λ y. y) s j.facts mv q (append_nothing j.facts) (subst (AreMet s) (sym facts) m) in
          inl (so.0, ap (λ (c : ConditionTree). c.failure) e, sym (ap (λ (c : ConditionTree). c.turns) e))
        where
          append_nothing : (fs : List FactTree) → Begins fs fs
          append_nothing fs = ([], nothing fs)
            where
              nothing : (gs : List FactTree) → gs ≡ gs ++ []
              nothing [] = refl
              nothing (g ∷ gs) = ap (λ hs. g ∷ hs) (nothing gs)
      sound s q k b d (inr p) short m = inr (on.sound s q k b d p short m)

      complete : (s : Structure) → Shares reading s → (k : Known) → IsKnown reading fields k → AreBelowFacts k.next k.facts → AreMet s k.facts → ((d : ConditionTree) → In (asked own f k ∷ a (assumed f true k)) d → AreShort d.facts)
          → (failure : Failure) (turns : List Turn) → CheckRun own f run failure (state reading fields s k) turns → Answered (asked own f k ∷ a (assumed f true k)) k.next s failure turns
      complete s q k b bf m short failure turns (inl r) =
          let j = assumed f false k in
          let st = failed k in
          let mv = st.moves (short (asked own f k) (inl refl)) b in
          let o = onward k j (λ y. core.is_true reading f y ≡ false) (λ y. y) s mv q bf m r.0 in
          record { condition = asked own f k; there = inl refl; turns_are = sym r.2; failure_is = r.1; extends = record { to = o.to; agrees = o.agrees; met = o.met } }
      complete s q k b bf m short failure turns (inr r) =
          let g = on.complete s q k b bf m (λ d p. short d (inr p)) failure turns r in
          record { condition = g.condition; there = inr g.there; turns_are = g.turns_are; failure_is = g.failure_is; extends = g.extends }

  -- ---- ways

  -- the conditions of ways from n on
  record WaysAnswer (place : Place) (n : ℕ) (a : Asking) (run : Failure → ℕ → After) : Type 0 where
    begins : (k : Known) (d : ConditionTree) → In (a k) d → Begins k.facts d.facts
    finds : (failure : Failure) (way : ℕ) (y : State) (turns : List Turn) → run failure way y turns → (k : Known) → Found (a k) failure ((place, n + way) ∷ turns)
    sound : (s : Structure) → Shares reading s → (k : Known) → IsKnown reading fields k → (d : ConditionTree) → In (a k) d → AreShort d.facts → AreMet s d.facts
        → (way : ℕ) × (turns : List Turn) × (d.turns ≡ (place, n + way) ∷ turns) × run d.failure way (state reading fields s k) turns
    complete : (s : Structure) → Shares reading s → (k : Known) → IsKnown reading fields k → AreBelowFacts k.next k.facts → AreMet s k.facts → ((d : ConditionTree) → In (a k) d → AreShort d.facts)
        → (failure : Failure) (way : ℕ) (turns : List Turn) → run failure way (state reading fields s k) turns → Answered (a k) k.next s failure ((place, n + way) ∷ turns)

  no_ways : (place : Place) (n : ℕ) (a : Asking) (l : ℕ → Asking) (ar : Failure → After) (lr : ℕ → Failure → After) → WaysAnswer place n (ask_ways fields no_cores place n a l) (λ failure way. run_way reading fields failure no_cores way (ar failure) (λ d. lr d failure))
  no_ways place n a l ar lr = record {
    begins = λ k d p. absurd p;
    finds = λ f way y t r k. absurd r;
    sound = λ s q k b d p short m. absurd p;
    complete = λ s q k b bf m short f way t r. absurd r;
  }

  more_ways : (place : Place) (n : ℕ) (c : CoreTree) (cs : CoreTrees) (a : Asking) (l : ℕ → Asking) (ar : Failure → After) (lr : ℕ → Failure → After)
      → Answers (ask_core fields c a l) (λ failure. run_core reading fields failure c (ar failure) (λ d. lr d failure))
      → WaysAnswer place (suc n) (ask_ways fields cs place (suc n) a l) (λ failure way. run_way reading fields failure cs way (ar failure) (λ d. lr d failure))
      → WaysAnswer place n (ask_ways fields (more_cores c cs) place n a l) (λ failure way. run_way reading fields failure (more_cores c cs) way (ar failure) (λ d. lr d failure))
  more_ways place n c cs a l ar lr h w = record { begins = begins; finds = finds; sound = sound; complete = complete }
    where
      firsts : Known → List ConditionTree
      firsts k = map (turned (place, n)) (ask_core fields c a l k)

      others : Known → List ConditionTree
      others k = ask_ways fields cs place (suc n) a l k

      begins : (k : Known) (d : ConditionTree) → In (firsts k ++ others k) d → Begins k.facts d.facts
      begins k d p = by (either_part (firsts k) (others k) d p)
        where
          by : In (firsts k) d ⊎ In (others k) d → Begins k.facts d.facts
          by (inl q) = let r = from_map (turned (place, n)) (ask_core fields c a l k) d q in subst (λ (e : ConditionTree). Begins k.facts e.facts) r.2 (h.begins k r.0 r.1)
          by (inr q) = w.begins k d q

      finds : (failure : Failure) (way : ℕ) (y : State) (turns : List Turn) → run_way reading fields failure (more_cores c cs) way (ar failure) (λ d. lr d failure) y turns → (k : Known) → Found (firsts k ++ others k) failure ((place, n + way) ∷ turns)
      finds failure zero y turns r k =
          let g = h.finds failure y turns r k in
          let e : n ≡ n + 0 = omega arith in
          record {
            condition = turned (place, n) g.condition;
            there = in_front (firsts k) (others k) (turned (place, n) g.condition) (in_map (turned (place, n)) (ask_core fields c a l k) g.condition g.there);
            turns_are = λ i. (place, e i) ∷ g.turns_are i;
            failure_is = g.failure_is;
          }
      finds failure (suc way) y turns r k =
          let g = w.finds failure way y turns r k in
          let e : suc n + way ≡ n + suc way = omega arith in
          record { condition = g.condition; there = in_back (firsts k) (others k) g.condition g.there; turns_are = g.turns_are ∙ (λ i. (place, e i) ∷ turns); failure_is = g.failure_is }

      sound : (s : Structure) → Shares reading s → (k : Known) → IsKnown reading fields k → (d : ConditionTree) → In (firsts k ++ others k) d → AreShort d.facts → AreMet s d.facts
          → (way : ℕ) × (turns : List Turn) × (d.turns ≡ (place, n + way) ∷ turns) × run_way reading fields d.failure (more_cores c cs) way (ar d.failure) (λ e. lr e d.failure) (state reading fields s k) turns
      sound s q k b d p short m = by (either_part (firsts k) (others k) d p)
        where
          by : In (firsts k) d ⊎ In (others k) d → (way : ℕ) × (turns : List Turn) × (d.turns ≡ (place, n + way) ∷ turns) × run_way reading fields d.failure (more_cores c cs) way (ar d.failure) (λ e. lr e d.failure) (state reading fields s k) turns
          by (inl i) =
              let r = from_map (turned (place, n)) (ask_core fields c a l k) d i in
              let g = r.0 in
              let e : n ≡ n + 0 = omega arith in
              let facts : g.facts ≡ d.facts = ap (λ (x : ConditionTree). x.facts) r.2 in (
                0,
                g.turns,
                sym (ap (λ (x : ConditionTree). x.turns) r.2) ∙ (λ t. (place, e t) ∷ g.turns),
                subst (λ f. run_core reading fields f c (ar f) (λ x. lr x f) (state reading fields s k) g.turns) (ap (λ (x : ConditionTree). x.failure) r.2) (h.sound s q k b g r.1 (subst AreShort (sym facts) short) (subst (AreMet s) (sym facts) m)),
              )
          by (inr i) =
              let r = w.sound s q k b d i short m in
              let e : suc n + r.0 ≡ n + suc r.0 = omega arith in
              (suc r.0, r.1, r.2 ∙ (λ t. (place, e t) ∷ r.1), r.3)

      complete : (s : Structure) → Shares reading s → (k : Known) → IsKnown reading fields k → AreBelowFacts k.next k.facts → AreMet s k.facts → ((d : ConditionTree) → In (firsts k ++ others k) d → AreShort d.facts)
          → (failure : Failure) (way : ℕ) (turns : List Turn) → run_way reading fields failure (more_cores c cs) way (ar failure) (λ d. lr d failure) (state reading fields s k) turns → Answered (firsts k ++ others k) k.next s failure ((place, n + way) ∷ turns)
      complete s q k b bf m short failure zero turns r =
          let g = h.complete s q k b bf m (λ d p. short (turned (place, n) d) (in_front (firsts k) (others k) (turned (place, n) d) (in_map (turned (place, n)) (ask_core fields c a l k) d p))) failure turns r in
          let d = g.condition in
          let e : n ≡ n + 0 = omega arith in
          record {
            condition = turned (place, n) d;
            there = in_front (firsts k) (others k) (turned (place, n) d) (in_map (turned (place, n)) (ask_core fields c a l k) d g.there);
            turns_are = λ i. (place, e i) ∷ g.turns_are i;
            failure_is = g.failure_is;
            extends = g.extends;
          }
      complete s q k b bf m short failure (suc way) turns r =
          let g = w.complete s q k b bf m (λ d p. short d (in_back (firsts k) (others k) d p)) failure way turns r in
          let e : suc n + way ≡ n + suc way = omega arith in
          record { condition = g.condition; there = in_back (firsts k) (others k) g.condition g.there; turns_are = g.turns_are ∙ (λ i. (place, e i) ∷ turns); failure_is = g.failure_is; extends = g.extends }

  branch_answers : (place : Place) (cores : CoreTrees) (a : Asking) (l : ℕ → Asking) (ar : Failure → After) (lr : ℕ → Failure → After)
      → WaysAnswer place 0 (ask_ways fields cores place 0 a l) (λ failure way. run_way reading fields failure cores way (ar failure) (λ d. lr d failure))
      → Answers (ask_ways fields cores place 0 a l) (λ failure. run_step reading fields failure (branch place cores) (ar failure) (λ d. lr d failure))
  branch_answers place cores a l ar lr w = record { begins = w.begins; finds = finds; sound = sound; complete = complete }
    where
      run : Failure → After
      run failure y turns = run_step reading fields failure (branch place cores) (ar failure) (λ d. lr d failure) y turns

      finds : (failure : Failure) (y : State) (turns : List Turn) → run_step reading fields failure (branch place cores) (ar failure) (λ d. lr d failure) y turns → (k : Known) → Found (ask_ways fields cores place 0 a l k) failure turns
      finds failure y [] r k = absurd r
      finds failure y (turn ∷ turns) r k =
          let g = w.finds failure turn.1 y turns r.1 k in
          let e : 0 + turn.1 ≡ turn.1 = omega arith in
          record { condition = g.condition; there = g.there; turns_are = g.turns_are ∙ (λ i. (sym r.0 i, e i) ∷ turns); failure_is = g.failure_is }

      sound : (s : Structure) → Shares reading s → (k : Known) → IsKnown reading fields k → (d : ConditionTree) → In (ask_ways fields cores place 0 a l k) d → AreShort d.facts → AreMet s d.facts
          → run_step reading fields d.failure (branch place cores) (ar d.failure) (λ e. lr e d.failure) (state reading fields s k) d.turns
      sound s q k b d p short m =
          let r = w.sound s q k b d p short m in
          let e : 0 + r.0 ≡ r.0 = omega arith in
          subst (λ ts. run_step reading fields d.failure (branch place cores) (ar d.failure) (λ e. lr e d.failure) (state reading fields s k) ts) (sym (r.2 ∙ (λ i. (place, e i) ∷ r.1))) (refl, r.3)

      complete : (s : Structure) → Shares reading s → (k : Known) → IsKnown reading fields k → AreBelowFacts k.next k.facts → AreMet s k.facts → ((d : ConditionTree) → In (ask_ways fields cores place 0 a l k) d → AreShort d.facts)
          → (failure : Failure) (turns : List Turn) → run_step reading fields failure (branch place cores) (ar failure) (λ d. lr d failure) (state reading fields s k) turns → Answered (ask_ways fields cores place 0 a l k) k.next s failure turns
      complete s q k b bf m short failure [] r = absurd r
      complete s q k b bf m short failure (turn ∷ turns) r =
          let g = w.complete s q k b bf m short failure turn.1 turns r.1 in
          let e : 0 + turn.1 ≡ turn.1 = omega arith in
          record { condition = g.condition; there = g.there; turns_are = g.turns_are ∙ (λ i. (sym r.0 i, e i) ∷ turns); failure_is = g.failure_is; extends = g.extends }

  pub nothing_answers : (run : Failure → After) → ((f : Failure) (y : State) (turns : List Turn) → run f y turns → ⊥) → Answers (λ k. []) run
  nothing_answers run never = record {
    begins = λ k d p. absurd p;
    finds = λ f y t r k. absurd (never f y t r);
    sound = λ s q k b d p short m. absurd p;
    complete = λ s q k b bf m short f t r. absurd (never f (state reading fields s k) t r);
  }

  inside_answers : (a : Asking) (l : ℕ → Asking) (ar : Failure → After) (lr : ℕ → Failure → After) → Answers a ar → ((d : ℕ) → Answers (l d) (lr d))
      → (d : ℕ) → Answers (inside_block a l d) (λ failure. inside_block (ar failure) (λ e. lr e failure) d)
  inside_answers a l ar lr h k zero = h
  inside_answers a l ar lr h k (suc d) = k d

  -- ---- all forms

  mutual
    step_answers : (s : StepTree) (blocks : ℕ) (a : Asking) (l : ℕ → Asking) (ar : Failure → After) (lr : ℕ → Failure → After) → IsProperStep blocks s → fields_of_step s ≤ fields → Answers a ar → ((d : ℕ) → Answers (l d) (lr d))
        → Answers (ask_step fields s a l) (λ failure. run_step reading fields failure s (ar failure) (λ d. lr d failure))
    step_answers (assume f) blocks a l ar lr fine few h k =
        simple_answers a ar (λ j. assumed f true j) (λ y. core.is_true reading f y ≡ true) (λ y. y) (λ j. assumed_step reading fields few_fields f true j fine few) h
    step_answers (check own f) blocks a l ar lr fine few h k = check_answers a ar own f fine few h
    step_answers (assign x t) blocks a l ar lr fine few h k = free_answers a ar _ _ (λ j. assigned_step reading fields few_fields x t j fine few) h
    step_answers (keep n) blocks a l ar lr fine few h k = free_answers a ar _ _ (λ j. kept_step reading fields few_fields n j) h
    step_answers (write f object v) blocks a l ar lr fine few h k = free_answers a ar _ _ (λ j. written_step reading fields few_fields f object v j (omega arith) fine.0 (omega arith) fine.1 (omega arith)) h
    step_answers (write_element array index v) blocks a l ar lr fine few h k = free_answers a ar _ _ (λ j. element_step reading fields few_fields array index v j fine.0 (omega arith) fine.1 (omega arith) fine.2 (omega arith)) h
    step_answers (make x ty size) blocks a l ar lr fine few h k = simple_answers a ar _ _ _ (λ j. object_step reading fields few_fields x ty size j fine few) h
    step_answers (build object) blocks a l ar lr fine few h k = free_answers a ar _ _ (λ j. built_step reading fields few_fields object j fine few) h
    step_answers (havoc x frame) blocks a l ar lr fine few h k = simple_answers a ar _ _ _ (λ j. havoc_step reading fields few_fields x frame j fine few) h
    step_answers (branch place cores) blocks a l ar lr fine few h k = branch_answers place cores a l ar lr (ways_answer cores blocks place 0 a l ar lr fine few h k)
    step_answers (block core) blocks a l ar lr fine few h k = core_answers core (suc blocks) a (inside_block a l) ar (λ d failure. inside_block (ar failure) (λ e. lr e failure) d) fine few h (inside_answers a l ar lr h k)
    step_answers (leave depth) blocks a l ar lr fine few h k = k depth
    step_answers stop blocks a l ar lr fine few h k = nothing_answers (λ failure. run_step reading fields failure stop (ar failure) (λ d. lr d failure)) (λ f y t r. r)

    pub core_answers : (c : CoreTree) (blocks : ℕ) (a : Asking) (l : ℕ → Asking) (ar : Failure → After) (lr : ℕ → Failure → After) → IsProperInside blocks c → field_count c ≤ fields → Answers a ar → ((d : ℕ) → Answers (l d) (lr d))
        → Answers (ask_core fields c a l) (λ failure. run_core reading fields failure c (ar failure) (λ d. lr d failure))
    core_answers done blocks a l ar lr fine few h k = h
    core_answers (CoreTree.next s rest) blocks a l ar lr fine few h k =
        step_answers s blocks (ask_core fields rest a l) l (λ failure. run_core reading fields failure rest (ar failure) (λ d. lr d failure)) lr fine.0 (omega arith)
        (core_answers rest blocks a l ar lr fine.1 (omega arith) h k) k

    ways_answer : (cs : CoreTrees) (blocks : ℕ) (place : Place) (n : ℕ) (a : Asking) (l : ℕ → Asking) (ar : Failure → After) (lr : ℕ → Failure → After) → AreProperCores blocks cs → fields_of_cores cs ≤ fields → Answers a ar → ((d : ℕ) → Answers (l d) (lr d))
        → WaysAnswer place n (ask_ways fields cs place n a l) (λ failure way. run_way reading fields failure cs way (ar failure) (λ d. lr d failure))
    ways_answer no_cores blocks place n a l ar lr fine few h k = no_ways place n a l ar lr
    ways_answer (more_cores c cs) blocks place n a l ar lr fine few h k =
        more_ways place n c cs a l ar lr (core_answers c blocks a l ar lr fine.0 (omega arith) h k) (ways_answer cs blocks place (suc n) a l ar lr fine.1 (omega arith) h k)
