-- What a walk over trees answers: what the part stands for, or the first rule that is broken in it.
use Rattle.std.specs.Prelude.{◌≡◌, ℕ, List, Result, Ok, Err}
use Rattle.jesc_text.specs.declared.place.Place.{Place}
use Rattle.jesc_classes.specs.declared.rule.Rule.{Rule}
use Rattle.jesc_classes.specs.declared.rule.RuleError.{RuleError}
use Rattle.jesc_classes.specs.declared.rule.RuleError.TheVariants.{Refused, Limit, OutOfMemory}

-- the rule, the place of the part that breaks it, and the text of its first token
pub record Refusal : Type 0 where
  pub number : Rule
  pub place : Place
  pub word : List ℕ

abbrev pub refusal : Rule → Place → List ℕ → Refusal
refusal number place word = record { number = number; place = place; word = word }

abbrev pub Checked : Type 0 → Type 0
Checked A = Result A Refusal

-- the first part, and where no rule is broken in it the rest
abbrev pub and_then : {A B : Type 0} → Checked A → (A → Checked B) → Checked B
and_then (Ok a) rest = rest a
and_then (Err r) rest = Err r

-- the code answers what is said here, or want of memory; no limit is looked at
abbrev pub Answers : {A : Type 0} → Result A RuleError → Checked A → Type 0
Answers (Ok a) said = said ≡ Ok a
Answers (Err (Refused number place word)) said = said ≡ Err (refusal number place word)
Answers (Err (Limit number count)) said = ⊥
Answers (Err OutOfMemory) said = Unit {0}

-- the same, where what is said tells of the code's answer only this
abbrev pub AnswersAs : {A B : Type 0} → Result A RuleError → (A → B) → Checked B → Type 0
AnswersAs (Ok a) seen said = said ≡ Ok (seen a)
AnswersAs (Err (Refused number place word)) seen said = said ≡ Err (refusal number place word)
AnswersAs (Err (Limit number count)) seen said = ⊥
AnswersAs (Err OutOfMemory) seen said = Unit {0}
