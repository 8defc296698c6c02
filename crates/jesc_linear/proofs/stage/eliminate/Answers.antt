use Rattle.std.proofs.Common.{List, [], Some, None, Ok, subst, sym}
use Rattle.std.proofs.lemmas.List.Elements.{All-push}
use Rattle.jesc_linear.specs.declared.stage.Stage.{Stage}
use Rattle.jesc_linear.specs.Elimination.{Solves}
use Rattle.jesc_linear.specs.Elimination.Solves.{no_variable}
use Rattle.jesc_linear.specs.Tables.{AreStages, table_of}
use Rattle.jesc_linear.proofs.Stages.{Leads, IsHeld, forms_of_log, stages_kept, stage_led, stage_stopped, passed_on, next_is}
use Rattle.jesc_linear.proofs.stage.eliminate.Goals as goal

pub next_term-requires-clause-forms : goal.next_term-requires-clause-forms
next_term-requires-clause-forms c = forms_of_log c.args.rows.now c.loop-stage.table.log c.loop-stage.invariant.table.steps

pub returns-in-None-clause-course : goal.returns-in-None-clause-course
returns-in-None-clause-course c =
    let table = c.loop-stage.table in
    c.loop-stage.invariant.course (Ok []) (no_variable (table_of table) (next_is table.log c.as_slice.result.now table.slots.items c.in_ok-next_term.field-0 None c.as_slice.ensures.value c.in-None.is c.in_ok-next_term.ensures.term))

pub returns-in_err-stage-in-Some-clause-course : goal.returns-in_err-stage-in-Some-clause-course
returns-in_err-stage-in-Some-clause-course c =
    let table = c.loop-stage.table in
    let next = next_is table.log c.as_slice.result.now table.slots.items c.in_ok-next_term.field-0 (Some c.in-Some.choice) c.as_slice.ensures.value c.in-Some.is c.in_ok-next_term.ensures.term in
    passed_on c.run_stage.new.table.log c.from_residual-in_err-stage-in-Some.result c.in_err-stage-in-Some.field-0.0 _ (Solves (table_of c.args.table.now))
    c.from_residual-in_err-stage-in-Some.ensures.1
    (stage_stopped table.log c.run_stage.new.table.log c.loop-stage.stages (table_of c.args.table.now) (table_of table) c.in-Some.choice.term c.in_err-stage-in-Some.field-0.0
    c.loop-stage.invariant.course next c.in_err-stage-in-Some.ensures.course)

pub loop-stage-preserved : goal.loop-stage-preserved
loop-stage-preserved c =
    let table = c.loop-stage.table in
    let new = c.run_stage.new.table in
    let stages = c.loop-stage.stages in
    let stage = c.in_ok-stage-in-Some.stage in
    let start = table_of c.args.table.now in
    let next = next_is table.log c.as_slice.result.now table.slots.items c.in_ok-next_term.field-0 (Some c.in-Some.choice) c.as_slice.ensures.value c.in-Some.is c.in_ok-next_term.ensures.term in
    let are = All-push (IsHeld new.log) stages stage (stages_kept table.log new.log stages c.run_stage.ensures.log c.loop-stage.invariant.stages) c.in_ok-stage-in-Some.ensures.held in
    let led = stage_led table.log new.log stages start (table_of table) (table_of new) c.in-Some.choice.term stage
    c.loop-stage.invariant.course c.run_stage.ensures.log c.loop-stage.invariant.stages next c.in_ok-stage-in-Some.ensures.course in
    record {
      table = c.run_stage.ensures.table;
      stages = subst (AreStages new.log) (sym c.in_ok-push-in-Some.ensures.ok) are;
      course = subst (λ (list : List Stage). Leads new.log list start (table_of new)) (sym c.in_ok-push-in-Some.ensures.ok) led;
    }

pub returns-in_err-stage-in-Some-clause-stages : goal.returns-in_err-stage-in-Some-clause-stages
returns-in_err-stage-in-Some-clause-stages c =
    stages_kept c.loop-stage.table.log c.run_stage.new.table.log c.loop-stage.stages c.run_stage.ensures.log c.loop-stage.invariant.stages

pub returns-in_err-push-in-Some-clause-stages : goal.returns-in_err-push-in-Some-clause-stages
returns-in_err-push-in-Some-clause-stages c =
    let log = c.run_stage.new.table.log in
    subst (AreStages log) (sym c.in_err-push-in-Some.ensures.err) (stages_kept c.loop-stage.table.log log c.loop-stage.stages c.run_stage.ensures.log c.loop-stage.invariant.stages)
