-- Judgements on duties: one more, what their being proved says of the classes, and their verdict.
use Rattle.std.proofs.Common.{◌≡◌, ◌≢◌, ℕ, zero, ◌<◌, slice_index_or, Bool, true, false, ◌&&◌, List, [], ◌∷◌, ◌++◌, length, map, All, Any, refl, sym, ap, subst, suc, arith}
use Rattle.std.specs.List.{list_all}
use Rattle.std.proofs.lemmas.List.{take_at, drop_at}
use Rattle.std.proofs.lemmas.List.Elements.{All-nil, All-cons, All-head, All-tail, All-take, All-drop}
use Rattle.jesc_first.specs.declared.tree.Method.{Method}
use Rattle.jesc_first.specs.declared.tree.Class.{Class}
use Rattle.jesc_first.specs.Accepted.{duties, Safe}
use Rattle.jesc_first.specs.Machine.{IsSafe}
use Rattle.jesc_engine.specs.declared.answer.Answer.{Answer}
use Rattle.jesc_engine.specs.declared.answer.Answer.TheVariants.{Proved, Open, WideForms, WidePairs, WideNumber, Gap}
use Rattle.jesc_engine.specs.declared.answer.Finding.{Finding}
use Rattle.jesc_engine.specs.declared.answer.Judgement.{Judgement}
use Rattle.jesc_engine.specs.Findings.{AreProved, Doubts, AreFindings}
use Rattle.jesc_engine.specs.Report.{is_proved, is_verified, duty_text}
use Rattle.jesc_engine.specs.Judged.{Duty, duty_of, class_duties, all_duties, AreJudgements, AllProved, SomeNotProved}

-- one more judgement
pub judged_more : (duties : List Duty) (judgements : List Judgement) (duty : Duty) (judgement : Judgement)
    → AreJudgements duties judgements → judgement.duty ≡ duty_text duty.class duty.method → AreFindings duty.method judgement.findings
    → AreJudgements (duties ++ duty ∷ []) (judgements ++ judgement ∷ [])
judged_more [] [] duty judgement before named found = (named, found, tt)
judged_more [] (j ∷ js) duty judgement before named found = absurd before
judged_more (d ∷ ds) [] duty judgement before named found = absurd before
judged_more (d ∷ ds) (j ∷ js) duty judgement before named found = (before.0, before.1, judged_more ds js duty judgement before.2 named found)

-- there are as many judgements as duties
pub as_many : (duties : List Duty) (judgements : List Judgement) → AreJudgements duties judgements → length judgements ≡ length duties
as_many [] [] judged = refl
as_many [] (j ∷ js) judged = absurd judged
as_many (d ∷ ds) [] judged = absurd judged
as_many (d ∷ ds) (j ∷ js) judged = ap suc (as_many ds js judged.2)

-- where each element has P, none has Q, if no element has both
none_of : {X : Type 0} (P Q : X → Type 0) → ((x : X) → P x → Q x → ⊥) → (xs : List X) (k : ℕ) (x : X) → k < length xs → slice_index_or xs k x ≡ x → All P xs → Q x → ⊥
none_of P Q apart [] k x within item each here = absurd (omega arith)
none_of P Q apart (y ∷ ys) zero x within item each here = apart y (All-head P y ys each) (subst Q (sym item) here)
none_of P Q apart (y ∷ ys) (suc k) x within item each here = none_of P Q apart ys k x (omega arith) item (All-tail P y ys each) here

-- where each finding is Proved, no call fails a check
safe_method : (method : Method) (findings : List Finding) → AreFindings method findings → AreProved findings → IsSafe method
safe_method method findings found proved failing fails =
    let some = found.proved failing fails in
    none_of (λ finding. finding.answer ≡ Proved) (Doubts failing) (λ finding is doubted. doubted.1 is) findings some.0 some.1 some.2 some.3 proved some.4

-- where each finding is proved, each duty is safe
safe_duties : (duties : List Duty) (judgements : List Judgement) → AreJudgements duties judgements → AllProved judgements → All (λ duty. IsSafe duty.method) duties
safe_duties [] judgements judged proved = All-nil (λ duty. IsSafe duty.method)
safe_duties (d ∷ ds) [] judged proved = absurd judged
safe_duties (d ∷ ds) (j ∷ js) judged proved =
    All-cons (λ duty. IsSafe duty.method) d ds (safe_method d.method j.findings judged.1 (All-head (λ judgement. AreProved judgement.findings) j js proved))
    (safe_duties ds js judged.2 (All-tail (λ judgement. AreProved judgement.findings) j js proved))

pub all_left : {X : Type 0} (P : X → Type 0) (xs ys : List X) → All P (xs ++ ys) → All P xs
all_left P xs ys each = subst (All P) (take_at xs ys (length xs) refl) (All-take P (length xs) (xs ++ ys) each)

pub all_right : {X : Type 0} (P : X → Type 0) (xs ys : List X) → All P (xs ++ ys) → All P ys
all_right P xs ys each = subst (All P) (drop_at xs ys (length xs) refl) (All-drop P (length xs) (xs ++ ys) each)

all_of_map : {X Y : Type 0} (P : Y → Type 0) (f : X → Y) (xs : List X) → All P (map f xs) → All (λ x. P (f x)) xs
all_of_map P f [] each = All-nil (λ x. P (f x))
all_of_map P f (x ∷ xs) each = All-cons (λ x. P (f x)) x xs (All-head P (f x) (map f xs) each) (all_of_map P f xs (All-tail P (f x) (map f xs) each))

safe_each : (classes : List Class) → All (λ duty. IsSafe duty.method) (all_duties classes) → All Safe classes
safe_each [] each = All-nil Safe
safe_each (class ∷ classes) each =
    All-cons Safe class classes
    (all_of_map (λ duty. IsSafe duty.method) (duty_of class.name) (duties class) (all_left (λ duty. IsSafe duty.method) (class_duties class) (all_duties classes) each))
    (safe_each classes (all_right (λ duty. IsSafe duty.method) (class_duties class) (all_duties classes) each))

-- where each finding is proved, each class is safe
pub safe_classes : (classes : List Class) (judgements : List Judgement) → AreJudgements (all_duties classes) judgements → AllProved judgements → All Safe classes
safe_classes classes judgements judged proved = safe_each classes (safe_duties (all_duties classes) judgements judged proved)

is_proved-true : (answer : Answer) → is_proved answer ≡ true → answer ≡ Proved
is_proved-true Proved passed = refl
is_proved-true Open passed = cc
is_proved-true (WideForms n) passed = cc
is_proved-true (WidePairs n) passed = cc
is_proved-true (WideNumber z) passed = cc
is_proved-true Gap passed = cc

is_proved-false : (answer : Answer) → is_proved answer ≡ false → answer ≢ Proved
is_proved-false answer failed proved = let e : is_proved answer ≡ true = ap is_proved proved in cc

and_left : (a b : Bool) → (a && b) ≡ true → a ≡ true
and_left true b both = refl
and_left false b both = cc

and_right : (a b : Bool) → (a && b) ≡ true → b ≡ true
and_right true b both = both
and_right false b both = cc

either_false : (a b : Bool) (G : Type 0) → (a && b) ≡ false → (a ≡ false → G) → (b ≡ false → G) → G
either_false true b G failed left right = right failed
either_false false b G both left right = left refl

all_true : {X : Type 0} (p : X → Bool) (P : X → Type 0) → ((x : X) → p x ≡ true → P x) → (xs : List X) → list_all p xs ≡ true → All P xs
all_true p P each [] passed = All-nil P
all_true p P each (x ∷ xs) passed = All-cons P x xs (each x (and_left (p x) _ passed)) (all_true p P each xs (and_right (p x) _ passed))

any_later : {X : Type 0} (P : X → Type 0) (x : X) (xs : List X) → Any P xs → Any P (x ∷ xs)
any_later P x xs some = (suc some.0, some.1, omega (arith, some.2), some.3, some.4)

any_false : {X : Type 0} (p : X → Bool) (P : X → Type 0) → ((x : X) → p x ≡ false → P x) → (xs : List X) → list_all p xs ≡ false → Any P xs
any_false p P each [] failed = cc
any_false p P each (x ∷ xs) failed = either_false (p x) (list_all p xs) (Any P (x ∷ xs)) failed (λ here. (0, x, omega arith, refl, each x here)) (λ rest. any_later P x xs (any_false p P each xs rest))

pub all_proved : (judgements : List Judgement) → list_all (λ judgement. is_verified judgement.findings) judgements ≡ true → AllProved judgements
all_proved judgements passed = all_true (λ judgement. is_verified judgement.findings) (λ judgement. AreProved judgement.findings)
    (λ judgement. all_true (λ finding. is_proved finding.answer) (λ finding. finding.answer ≡ Proved) (λ finding. is_proved-true finding.answer) judgement.findings) judgements passed

pub some_not_proved : (judgements : List Judgement) → list_all (λ judgement. is_verified judgement.findings) judgements ≡ false → SomeNotProved judgements
some_not_proved judgements failed = any_false (λ judgement. is_verified judgement.findings) (λ judgement. Any (λ finding. finding.answer ≢ Proved) judgement.findings)
    (λ judgement. any_false (λ finding. is_proved finding.answer) (λ finding. finding.answer ≢ Proved) (λ finding. is_proved-false finding.answer) judgement.findings) judgements failed
