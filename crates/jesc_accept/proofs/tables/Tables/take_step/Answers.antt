use Rattle.std.proofs.Common.{sym, ◌∙◌, ◌-◌, ℕ, arith, subst}
use Rattle.std.proofs.lemmas.Bool.{false≢true}
use Rattle.jesc_accept.specs.Rows.{IsStepOf}
use Rattle.jesc_accept.proofs.Taking.{wrong_step, takes_step, takes_last, from_rows, over_rows}
use Rattle.jesc_accept.proofs.tables.Tables.take_step.Goals as goal

pub returns-then-not-is_step : goal.returns-then-not-is_step
returns-then-not-is_step c =
    let h = rw c.in-Some.is at c.in_ok-step.ensures in
    let is = subst (λ (n : ℕ). IsStepOf n c.args.numbers.now c.in-Some.step) c.len.ensures h in
    wrong_step c.args.self.now c.args.self.now c.args.numbers.now c.in-Some.step is (λ d e. false≢true (sym c.if-not-is_step.true ∙ c.is_step.ensures.1 (over_rows c.args.self.now.rows _ c.in-Some.step c.as_slice.ensures d)))

pub returns-then-self-gt1 : goal.returns-then-self-gt1
returns-then-self-gt1 c =
    let h = rw c.in-Some.is at c.in_ok-step.ensures in
    let is = subst (λ (n : ℕ). IsStepOf n c.args.numbers.now c.in-Some.step) c.len.ensures h in
    let d = from_rows c.args.self.now.rows _ c.in-Some.step c.as_slice.ensures (c.is_step.ensures.0 c.if-not-is_step.false) in
    takes_step c.args.self.now c.args.numbers.now c.in-Some.step _ (c.args.self.now.due - 2) (c.args.self.now.due - 1) is d (omega arith) (omega arith) c.in_ok-push.ensures.ok

pub returns-then-not-is_absurd : goal.returns-then-not-is_absurd
returns-then-not-is_absurd c =
    let h = rw c.in-Some.is at c.in_ok-step.ensures in
    let is = subst (λ (n : ℕ). IsStepOf n c.args.numbers.now c.in-Some.step) c.len.ensures h in
    wrong_step c.args.self.now c.args.self.now c.args.numbers.now c.in-Some.step is (λ d e. false≢true (sym c.if-not-is_absurd.true ∙ c.is_absurd.ensures.1 (e (omega arith))))

pub returns : goal.returns
returns c =
    let h = rw c.in-Some.is at c.in_ok-step.ensures in
    let is = subst (λ (n : ℕ). IsStepOf n c.args.numbers.now c.in-Some.step) c.len.ensures h in
    let d = from_rows c.args.self.now.rows _ c.in-Some.step c.as_slice.ensures (c.is_step.ensures.0 c.if-not-is_step.false) in
    takes_last c.args.self.now _ c.args.numbers.now c.in-Some.step _ is d (c.is_absurd.ensures.0 c.if-not-is_absurd.false) (omega arith) (let p = c.in_ok-push-2.ensures.ok in let q = c.replace-negated.ensures in let r = c.new.ensures in cc) c.end_lemma.ensures
