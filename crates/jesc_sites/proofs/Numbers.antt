-- What a number is answered by, from what is known of its value.
use Rattle.std.specs.Prelude.{ℕ, ℤ, true, false, Option, Some, None, List, Ok, Err}
use Rattle.std.proofs.Common.{◌≡◌, refl, sym, subst, ap, ◌∙◌, cond}
use Rattle.jesc_text.specs.declared.place.Place.{Place}
use Rattle.jesc_text.specs.declared.place.Span.{Span}
use Rattle.jesc_classes.specs.Answers.{AnswersAs, Checked, refusal}
use Rattle.jesc_classes.specs.declared.rule.Rule.{Rule}
use Rattle.jesc_classes.specs.declared.rule.Rule.TheVariants.{Y1}
use Rattle.jesc_classes.specs.declared.rule.RuleError.{RuleError}
use Rattle.jesc_classes.specs.declared.rule.RuleError.TheVariants.{Refused}
use Rattle.jesc_tree.specs.Trees.{number}
use Rattle.jesc_sites.specs.Parts.{plain, refused_at}
use Rattle.jesc_sites.specs.Plain.{may_be_read, number_by, number_type}
use Rattle.jesc_sites.specs.declared.site.Role.{Role}

pub refuses : {A B : Type 0} (seen : A → B) (said : Checked B) (error : RuleError) (rule : Rule) (place : Place) (word : List ℕ) → error ≡ Refused rule place word → said ≡ Err (refusal rule place word) → AnswersAs (Err error) seen said
refuses seen said error rule place word h k = subst (λ x. AnswersAs (Err x) seen said) (sym h) k

module _ (lines : List ℕ) (role : Role) (span : Span) (text : List ℕ) where
  pub without_value : (v : Option ℤ) → ((n : ℤ) → v ≡ Some n → ⊥) → number_by lines role span text v ≡ refused_at Y1 lines span text
  without_value None h = refl
  without_value (Some n) h = absurd (h n refl)

  pub unread : (v : Option ℤ) (n : ℤ) → v ≡ Some n → may_be_read role text n ≡ false → number_by lines role span text v ≡ refused_at Y1 lines span text
  unread v n h k = ap (number_by lines role span text) h ∙ ap (λ b. cond b (Ok (plain lines span (number_type text) (number n))) (refused_at Y1 lines span text)) k

  pub read : (v : Option ℤ) (n : ℤ) → v ≡ Some n → may_be_read role text n ≡ true → number_by lines role span text v ≡ Ok (plain lines span (number_type text) (number n))
  read v n h k = ap (number_by lines role span text) h ∙ ap (λ b. cond b (Ok (plain lines span (number_type text) (number n))) (refused_at Y1 lines span text)) k
