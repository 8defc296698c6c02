-- How the answers to lists of ways, and the findings on lists of obligations, are put together.
use Rattle.std.proofs.Common.{◌≡◌, ◌≢◌, ◌+◌, suc, Bool, true, false, true≢false, inl, inr, List, [], ◌∷◌, ◌++◌, length, refl, sym, ◌∙◌, ap, subst, arith, append_assoc, All, Any}
use Rattle.std.proofs.lemmas.List.{append-nil}
use Rattle.std.proofs.lemmas.List.Elements.{All-nil, All-cons}
use Rattle.jesc_linear.specs.declared.rows.Row.{Row}
use Rattle.jesc_linear.specs.declared.outcome.Outcome.{Outcome}
use Rattle.jesc_linear.specs.declared.outcome.Outcome.TheVariants as outcome
use Rattle.jesc_linear.specs.Rows.{HaveNoSolution, value_at}
use Rattle.jesc_linear.specs.Evidence.{HasEvidence, IsSound}
use Rattle.jesc_linear.specs.Elimination.{HasOutcome, Decides}
use Rattle.jesc_engine.specs.declared.answer.Answer.{Answer}
use Rattle.jesc_engine.specs.declared.answer.Answer.TheVariants.{Proved, Open, WideForms, WidePairs, WideNumber, Gap}
use Rattle.jesc_engine.specs.declared.answer.Finding.{Finding}
use Rattle.jesc_engine.specs.Report.{is_proved}
use Rattle.jesc_engine.specs.Ways.{Obligation, each_way}
use Rattle.jesc_engine.specs.Outcomes.{HasSolution, Answers, AnswerAll}
use Rattle.jesc_engine.specs.Walk.{Continues, Extends, answer_of}

other : (answer : Answer) → is_proved answer ≡ false → answer ≢ Proved
other answer e p = true≢false (ap is_proved (sym p) ∙ e)

-- an outcome answers its rows as the one way to fail
pub one_way : (rows : List Row) (outcome : Outcome) → HasOutcome rows outcome → HasEvidence rows outcome → IsSound rows outcome → Answers (rows ∷ []) (answer_of outcome)
one_way rows (outcome.Refuted steps) h e s = inr ((subst (Decides rows) h.2 h.1, s), refl)
one_way rows (outcome.Point point) h e s = inl (other Open refl, (h.2.0, subst (Decides rows) h.2.1 h.1, (value_at point, e)))
one_way rows (outcome.WideForms n) h e s = inl (other (WideForms n) refl, subst (Decides rows) h.2 h.1)
one_way rows (outcome.WidePairs n) h e s = inl (other (WidePairs n) refl, subst (Decides rows) h.2 h.1)
one_way rows (outcome.WideNumber z) h e s = inl (other (WideNumber z) refl, subst (Decides rows) h.2 h.1)
one_way rows (outcome.Gap i first j second) h e s = inl (other Gap refl, (record { number = i; row = first }, record { number = j; row = second }, subst (Decides rows) h.2 h.1))

-- the ways are refuted, and so the answer to more is that to all
pub after_proved : (ways more : List (List Row)) (answer : Answer) → Answers ways Proved → Answers more answer → Answers (ways ++ more) answer
after_proved [] more answer p h = h
after_proved (way ∷ ways) more answer p h = elim p [
  | inl q ↦ absurd (q.0 refl)
  | inr q ↦ inr (q.0, after_proved ways more answer q.1 h)
]

-- an answer other than Proved stands for more ways
pub stands : (ways more : List (List Row)) (answer : Answer) → answer ≢ Proved → Answers ways answer → Answers (ways ++ more) answer
stands [] more answer n h = absurd (n h)
stands (way ∷ ways) more answer n h = elim h [
  | inl q ↦ inl q
  | inr q ↦ inr (q.0, stands ways more answer n q.1)
]

-- where the answer is Proved no way has a solution
pub all_refuted : (ways : List (List Row)) → Answers ways Proved → All HaveNoSolution ways
all_refuted [] h = All-nil HaveNoSolution
all_refuted (way ∷ ways) h = elim h [
  | inl q ↦ absurd (q.0 refl)
  | inr q ↦ All-cons HaveNoSolution way ways q.0.1 (all_refuted ways q.1)
]

-- where it is Open one has
pub some_solved : (ways : List (List Row)) → Answers ways Open → Any HasSolution ways
some_solved [] h = absurd (other Open refl h)
some_solved (way ∷ ways) h = elim h [
  | inl q ↦ (0, way, omega arith, refl, q.1.2)
  | inr q ↦ let later = some_solved ways q.1 in (suc later.0, later.1, omega (arith, later.2), later.3, later.4)
]

pub continues_after_proved : (more : List (List Row)) (answer : Answer) → Answers more answer → Continues Proved more answer
continues_after_proved more answer h = λ ways p. after_proved ways more answer p h

pub continues_other : (more : List (List Row)) (answer : Answer) → answer ≢ Proved → Continues answer more answer
continues_other more answer n = λ ways h. stands ways more answer n h

pub continues_none : (answer : Answer) → Continues answer [] answer
continues_none answer = λ ways h. rw append-nil h

pub continues_on : (a b c : Answer) (first rest : List (List Row)) → Continues a first b → Continues b rest c → Continues a (first ++ rest) c
continues_on a b c first rest f g = λ ways h. rw (← append_assoc) (g (ways ++ first) (f ways h))

-- the two ways of a list
pub second_way : (rows : List Row) (first second : Row) (answer : Answer) → Answers (each_way rows (first ∷ [])) Proved
    → Answers (each_way rows (second ∷ [])) answer → Answers (each_way rows (first ∷ second ∷ [])) answer
second_way rows first second answer p h = after_proved (each_way rows (first ∷ [])) (each_way rows (second ∷ [])) answer p h

pub first_way : (rows : List Row) (first second : Row) (answer : Answer) → answer ≢ Proved
    → Answers (each_way rows (first ∷ [])) answer → Answers (each_way rows (first ∷ second ∷ [])) answer
first_way rows first second answer n h = stands (each_way rows (first ∷ [])) (each_way rows (second ∷ [])) answer n h

pub ruleset either_way = (first_way, second_way)

pub answer_all_append : (a b : List Obligation) (x y : List Finding) → AnswerAll a x → AnswerAll b y → AnswerAll (a ++ b) (x ++ y)
answer_all_append [] b [] y h g = g
answer_all_append [] b (f ∷ x) y h g = absurd h
answer_all_append (o ∷ a) b [] y h g = absurd h
answer_all_append (o ∷ a) b (f ∷ x) y h g = (h.0, h.1, answer_all_append a b x y h.2 g)

pub extends_none : (findings : List Finding) → Extends [] findings findings
extends_none findings = λ obligations h. rw append-nil h

pub extends_on : (a b : List Obligation) (x y z : List Finding) → Extends a x y → Extends b y z → Extends (a ++ b) x z
extends_on a b x y z f g = λ obligations h. rw (← append_assoc) (g (obligations ++ a) (f obligations h))

pub extends_one : (o : Obligation) (f : Finding) (findings : List Finding) → f.check ≡ o.check → Answers o.ways f.answer
    → Extends (o ∷ []) findings (findings ++ f ∷ [])
extends_one o f findings e h = λ obligations g. answer_all_append obligations (o ∷ []) findings (f ∷ []) g (e, h, tt)

pub extends_two : (o p : Obligation) (f g : Finding) (old middle now : List Finding) → middle ≡ old ++ f ∷ [] → now ≡ middle ++ g ∷ []
    → f.check ≡ o.check → g.check ≡ p.check → Answers o.ways f.answer → Answers p.ways g.answer → Extends (o ∷ p ∷ []) old now
extends_two o p f g old middle now m n e d a b =
    let first : Extends (o ∷ []) old middle = subst (λ (findings : List Finding). Extends (o ∷ []) old findings) (sym m) (extends_one o f old e a) in
    let second : Extends (p ∷ []) middle now = subst (λ (findings : List Finding). Extends (p ∷ []) middle findings) (sym n) (extends_one p g middle d b) in
    extends_on (o ∷ []) (p ∷ []) old middle now first second
