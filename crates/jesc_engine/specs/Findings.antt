-- What the findings on a method say.
use Rattle.std.specs.Prelude.{◌≡◌, ◌≢◌, List, All, Any, map}
use Rattle.jesc_first.specs.declared.check.Check.{Check}
use Rattle.jesc_first.specs.declared.tree.Method.{Method}
use Rattle.jesc_first.specs.Machine.{CanFail}
use Rattle.jesc_first.specs.Accepted.{checks_of}
use Rattle.jesc_engine.specs.declared.answer.Answer.TheVariants.{Proved, Open}
use Rattle.jesc_engine.specs.declared.answer.Finding.{Finding}
use Rattle.jesc_engine.specs.Ways.{obligations}
use Rattle.jesc_engine.specs.Outcomes.{AnswerAll}

abbrev pub AreProved : List Finding → Type 0
AreProved findings = All (λ finding. finding.answer ≡ Proved) findings

-- the finding is on this check, and is not Proved
abbrev pub Doubts : Check → Finding → Type 0
Doubts failing finding = (finding.check ≡ failing) × (finding.answer ≢ Proved)

-- The findings on a method: its checks in order; where one is Open some call fails it; of each check that some call fails
-- there is a finding that is not Proved; and each answer is that of the elimination of the check's rows.
pub record AreFindings (method : Method) (findings : List Finding) : Type 0 where
  pub checks : map (λ finding. finding.check) findings ≡ checks_of method
  pub open_ones : All (λ finding. finding.answer ≡ Open → CanFail method finding.check) findings
  pub proved : (failing : Check) → CanFail method failing → Any (Doubts failing) findings
  pub answers : AnswerAll (obligations method) findings
