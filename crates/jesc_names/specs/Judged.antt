-- What reading the headings of classes and of members answers.
use Rattle.std.specs.Prelude.{◌⊎◌, List, Result, Ok, Err}
use Rattle.jesc_classes.specs.declared.rule.RuleError.{RuleError}
use Rattle.jesc_classes.specs.declared.rule.RuleError.TheVariants.{Refused, Limit, OutOfMemory}
use Rattle.jesc_classes.specs.Answers.{Refusal, refusal}
use Rattle.jesc_classes.specs.Headings.{Source, walk}
use Rattle.jesc_classes.specs.Headings as headings
use Rattle.jesc_member_rules.specs.Members.{AllHold, FirstBroken, member_walk}

-- the first rule broken: one of class headings, or where none of those is broken, one on members
abbrev pub FirstOfBoth : List Source → Refusal → Type 0
FirstOfBoth given r = headings.FirstBroken given (walk given) r ⊎ (headings.AllHold given (walk given) × FirstBroken given (member_walk given) r)

-- Ok exactly where no rule is broken in class headings and none on members, and else the first one broken
abbrev pub JudgesBoth : {A : Type 0} → List Source → Result A RuleError → Type 0
JudgesBoth given (Ok a) = headings.AllHold given (walk given) × AllHold given (member_walk given)
JudgesBoth given (Err (Refused number place word)) = FirstOfBoth given (refusal number place word)
JudgesBoth given (Err (Limit number count)) = ⊥
JudgesBoth given (Err OutOfMemory) = Unit {0}
