-- What the findings on a method say follows from their answers to its obligations.
use Rattle.std.proofs.Common.{◌≡◌, ℕ, suc, List, [], ◌∷◌, refl, sym, ◌∙◌, ap, subst, arith, inl, inr, All, Any, map, ℤ}
use Rattle.std.proofs.lemmas.List.Elements.{All-nil, All-cons, All-head, All-tail}
use Rattle.jesc_linear.specs.declared.rows.Row.{Row}
use Rattle.jesc_linear.specs.Rows.{HaveNoSolution}
use Rattle.jesc_first.specs.declared.check.Check.{Check}
use Rattle.jesc_first.specs.declared.tree.Method.{Method}
use Rattle.jesc_first.specs.Machine.{CanFail}
use Rattle.jesc_engine.specs.declared.answer.Answer.TheVariants.{Proved, Open}
use Rattle.jesc_engine.specs.declared.answer.Finding.{Finding}
use Rattle.jesc_engine.specs.Ways.{Obligation, obligations}
use Rattle.jesc_engine.specs.Findings.{Doubts, AreFindings}
use Rattle.jesc_engine.specs.Outcomes.{Answers, AnswerAll}
use Rattle.jesc_engine.proofs.Meeting.{Met, OneOf, Broken, all_from_met, one_from_any}
use Rattle.jesc_engine.proofs.AnswerLists.{all_refuted, some_solved}
use Rattle.jesc_engine.proofs.Starting.{can_fail, has_way}
use Rattle.jesc_engine.proofs.Listing.{check_of, checks_listed}

-- the findings have the checks of the obligations
same_checks : (those : List Obligation) (findings : List Finding) → AnswerAll those findings → map (λ finding. finding.check) findings ≡ map check_of those
same_checks [] [] a = refl
same_checks [] (finding ∷ findings) a = elim a [ ]
same_checks (obligation ∷ those) [] a = elim a [ ]
same_checks (obligation ∷ those) (finding ∷ findings) a =
    ap (λ c. c ∷ map (λ f. f.check) findings) a.0 ∙ ap (λ cs. obligation.check ∷ cs) (same_checks those findings a.2)

-- where each broken obligation tells of a call, so does each Open finding
open_ones_fail : (method : Method) (those : List Obligation) (findings : List Finding) → AnswerAll those findings
    → ((v : ℕ → ℤ) (failing : Check) → Broken v those failing → CanFail method failing)
    → All (λ finding. finding.answer ≡ Open → CanFail method finding.check) findings
open_ones_fail method [] [] a h = All-nil (λ finding. finding.answer ≡ Open → CanFail method finding.check)
open_ones_fail method [] (finding ∷ findings) a h = elim a [ ]
open_ones_fail method (obligation ∷ those) [] a h = elim a [ ]
open_ones_fail method (obligation ∷ those) (finding ∷ findings) a h =
    All-cons (λ finding. finding.answer ≡ Open → CanFail method finding.check) finding findings
    (λ is_open. let solved = one_from_any obligation.ways (some_solved obligation.ways (subst (Answers obligation.ways) is_open a.1)) in
    subst (CanFail method) (sym a.0) (h solved.0 obligation.check (inl (record { same = refl; way = solved.1 }))))
    (open_ones_fail method those findings a.2 (λ v failing b. h v failing (inr b)))

-- where no way has a solution, no numbers meet one
no_way : (v : ℕ → ℤ) (ways : List (List Row)) → All HaveNoSolution ways → OneOf (Met v) ways → ⊥
no_way v [] a o = o
no_way v (way ∷ rest) a o = elim o [
  | inl m ↦ All-head HaveNoSolution way rest a v (all_from_met v way m)
  | inr q ↦ no_way v rest (All-tail HaveNoSolution way rest a) q
]

-- where numbers meet a way of a check, a finding on it is not Proved
doubted : (v : ℕ → ℤ) (those : List Obligation) (findings : List Finding) (failing : Check) → AnswerAll those findings → Broken v those failing → Any (Doubts failing) findings
doubted v [] findings failing a b = absurd b
doubted v (obligation ∷ those) [] failing a b = absurd a
doubted v (obligation ∷ those) (finding ∷ findings) failing a b = elim b [
  | inl h ↦ (0, finding, omega arith, refl, (a.0 ∙ h.same, λ proved. no_way v obligation.ways (all_refuted obligation.ways (subst (Answers obligation.ways) proved a.1)) h.way))
  | inr q ↦ let later = doubted v those findings failing a.2 q in (suc later.0, later.1, omega (arith, later.2), later.3, later.4)
]

-- a finding for each obligation, with an answer that holds, tells what calls can fail
pub findings_are : (method : Method) (findings : List Finding) → AnswerAll (obligations method) findings → AreFindings method findings
findings_are method findings a = record {
  checks = same_checks (obligations method) findings a ∙ checks_listed method;
  open_ones = open_ones_fail method (obligations method) findings a (can_fail method);
  proved = λ failing fails. let found = has_way method failing fails in doubted found.0 (obligations method) findings failing a found.1;
  answers = a;
}
