-- A condition after the two sums of its sides, and lists of conditions.
use Rattle.std.proofs.Common.{◌≡◌, ℕ, ◌+◌, ◌<◌, ◌≤◌, List, [], ◌∷◌, length, get_or, drop, refl, sym, ◌∙◌, ap, subst, arith}
use Rattle.std.proofs.lemmas.List.{drop_more, drop_all}
use Rattle.jesc_first.specs.declared.tree.Condition.{Condition}
use Rattle.jesc_engine.specs.declared.answer.Answer.{Answer}
use Rattle.jesc_engine.specs.declared.answer.Answer.TheVariants.{Proved}
use Rattle.jesc_engine.specs.declared.ways.atom.Atom.{Atom}
use Rattle.jesc_engine.specs.Ways.{Facts, atom_in, sum_facts, sum_atom, sum_ways, concat, each_way, breaking, trouble_ways, break_ways, condition_facts, demand_facts}
use Rattle.jesc_engine.specs.Outcomes.{Answers}
use Rattle.jesc_engine.specs.Walk.{IsScope, IsSummed, IsGrown, Continues}
use Rattle.jesc_engine.proofs.AnswerLists.{continues_on}
use Rattle.jesc_engine.proofs.Sums.{scope_later}

pub trouble_along : (atoms : List Atom) (outcome : Atom) (before : Facts) (condition : Condition) (first : Facts) (x : Atom) (left answer : Answer)
    → IsSummed atoms outcome before condition.left x first
    → Continues Proved (concat (sum_ways (atom_in atoms outcome) before condition.left)) left
    → Continues left (concat (sum_ways (atom_in atoms outcome) first condition.right)) answer
    → Answers (trouble_ways (atom_in atoms outcome) before condition) answer
trouble_along atoms outcome before condition first x left answer s f g =
    let after = subst (λ (facts : Facts). Continues left (concat (sum_ways (atom_in atoms outcome) facts condition.right)) answer) s.facts g in
    continues_on Proved left answer (concat (sum_ways (atom_in atoms outcome) before condition.left))
    (concat (sum_ways (atom_in atoms outcome) (sum_facts (atom_in atoms outcome) before condition.left) condition.right)) f after
    [] refl

pub broken_along : (atoms : List Atom) (outcome : Atom) (before : Facts) (condition : Condition) (first : Facts) (x : Atom) (second : Facts) (y : Atom)
    (answer : Answer) → IsSummed atoms outcome before condition.left x first → IsSummed atoms outcome first condition.right y second
    → Answers (each_way second.rows (breaking condition.comparison x y)) answer
    → Answers (break_ways (atom_in atoms outcome) before condition) answer
broken_along atoms outcome before condition first x second y answer s t h =
    let at_second = subst (λ (facts : Facts). Answers (each_way facts.rows (breaking condition.comparison x y)) answer) t.facts h in
    let at_right = subst (λ (z : Atom). Answers (each_way (sum_facts (atom_in atoms outcome) first condition.right).rows (breaking condition.comparison x z)) answer)
    t.atom at_second in
    let at_first = subst (λ (facts : Facts). Answers (each_way (sum_facts (atom_in atoms outcome) facts condition.right).rows
    (breaking condition.comparison x (sum_atom (atom_in atoms outcome) facts condition.right))) answer) s.facts at_right in
    subst (λ (z : Atom). Answers (each_way (sum_facts (atom_in atoms outcome) (sum_facts (atom_in atoms outcome) before condition.left) condition.right).rows
    (breaking condition.comparison z (sum_atom (atom_in atoms outcome) (sum_facts (atom_in atoms outcome) before condition.left) condition.right))) answer)
    s.atom at_first

pub record IsAssuming (atoms : List Atom) (outcome : Atom) (before : Facts) (conditions : List Condition) (now : Facts) (rest : List Condition) : Type 0 where
  pub facts : demand_facts (atom_in atoms outcome) before conditions ≡ demand_facts (atom_in atoms outcome) now rest
  pub grows : before.fresh ≤ now.fresh
  pub scope : IsScope now.fresh atoms outcome

pub assuming_step : (atoms : List Atom) (outcome : Atom) (before : Facts) (conditions : List Condition) (now : Facts) (i : ℕ) (condition : Condition) (after : Facts)
    → i < length conditions → condition ≡ get_or conditions i condition
    → IsAssuming atoms outcome before conditions now (drop i conditions)
    → IsGrown now (condition_facts (atom_in atoms outcome) now condition) after
    → IsAssuming atoms outcome before conditions after (drop (i + 1) conditions)
assuming_step atoms outcome before conditions now i condition after l r s g =
    let rest = drop (i + 1) conditions in
    let cons : drop i conditions ≡ condition ∷ rest = drop_more conditions i condition l ∙ ap (λ (c : Condition). c ∷ rest) (sym r) in
    record {
      facts = s.facts ∙ ap (λ (left : List Condition). demand_facts (atom_in atoms outcome) now left) cons
          ∙ ap (λ (f : Facts). demand_facts (atom_in atoms outcome) f rest) (sym g.same);
      grows = omega (arith, s.grows, g.grows);
      scope = scope_later now.fresh after.fresh atoms outcome g.grows s.scope;
    }

pub assumed : (atoms : List Atom) (outcome : Atom) (before : Facts) (conditions : List Condition) (now : Facts) (i : ℕ) (demands : List Condition)
    → conditions ≡ demands → length conditions ≤ i → IsAssuming atoms outcome before conditions now (drop i conditions)
    → IsGrown before (demand_facts (atom_in atoms outcome) before demands) now
assumed atoms outcome before conditions now i demands e l s =
    record {
      same = sym (ap (λ (c : List Condition). demand_facts (atom_in atoms outcome) before c) (sym e) ∙ s.facts
          ∙ ap (λ (left : List Condition). demand_facts (atom_in atoms outcome) now left) (drop_all i conditions l));
      grows = s.grows;
    }
