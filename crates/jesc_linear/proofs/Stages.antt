-- Stages: lists of slots parted by a test, the course through one more stage, and a log that goes on.
use Rattle.std.proofs.Common.{◌≡◌, ℕ, ◌+◌, ◌<◌, Bool, true, false, cond, not, List, [], ◌∷◌, ◌++◌, length, get_or, take, filter, Result, Ok, Err, refl, sym, ◌∙◌, ap, subst, arith}
use Rattle.std.specs.Prelude.{All, Option, MatchOption, MatchResult, ℤ, pos, ◌<ℤ◌, ◌^◌, int_lt}
use Rattle.std.proofs.lemmas.Int.{ints}
use Rattle.std.specs.Result.{IsErrAnd}
use Rattle.std.proofs.lemmas.List.{append_assoc}
use Rattle.std.proofs.lemmas.List.Elements.{All-head, All-tail, All-filter, All-same, All-weaker, filter_more, filter_passes}
use Rattle.jesc_linear.specs.declared.rows.Row.{Row}
use Rattle.jesc_linear.specs.declared.rows.LinStep.{LinStep}
use Rattle.jesc_linear.specs.declared.choice.Choice.{Choice}
use Rattle.jesc_linear.specs.declared.stop.Stop.{Stop}
use Rattle.jesc_linear.specs.declared.stop.Stop.TheVariants.{Memory, Absurd, Forms, Pairs, Number, Gap}
use Rattle.jesc_linear.specs.declared.stop.Slot.{Slot}
use Rattle.jesc_linear.specs.declared.table.Table.{Table}
use Rattle.jesc_linear.specs.declared.stage.Stage.{Stage}
use Rattle.jesc_linear.specs.Forms.{IsForm, coefficient_of}
use Rattle.jesc_linear.specs.Steps.{IsRow, AreSteps}
use Rattle.jesc_linear.specs.Courses.{Course, Ending, Entry, and_then}
use Rattle.jesc_linear.specs.Courses.Ending.{refuted, wide_forms, wide_pairs, wide_number, gap}
use Rattle.jesc_linear.specs.Elimination as elimination
use Rattle.jesc_linear.specs.Elimination.{Values, Solves, IsNext, occurs, has_term, is_upper, is_lower, pairs_of, put_all_sums, without, give}
use Rattle.jesc_linear.specs.Elimination.Solves.{no_variable, stage_ends, stage_done}
use Rattle.jesc_linear.specs.Tables.{IsSlot, IsTable, Extends, Ends, IsEnd, AreStages, row_at, entry_of, entries_of, table_of, back}
use Rattle.jesc_linear.specs.Stages.{IsStage}
use Rattle.jesc_linear.proofs.Tables.{slots_kept, entries_kept, entries_filtered, steps_are_rows}

-- ---- slots parted by a test

pub push_passing : (p : Slot → Bool) (slots : List Slot) (k : ℕ) (d : Slot) (start now new : List Slot) → k < length slots
    → now ≡ start ++ filter p (take k slots) → new ≡ now ++ cond (p (get_or slots k d)) (get_or slots k d ∷ []) []
    → new ≡ start ++ filter p (take (k + 1) slots)
push_passing p slots k d start now new l n w =
    let last = cond (p (get_or slots k d)) (get_or slots k d ∷ []) [] in
    w ∙ ap (λ (list : List Slot). list ++ last) n ∙ append_assoc start (filter p (take k slots)) last ∙ ap (λ (list : List Slot). start ++ list) (sym (filter_more p slots k d l))

above : (n : ℤ) → int_lt (pos 0) n ≡ true → pos 0 <ℤ n
above n e = grind (arith, ints)

below : (n : ℤ) → int_lt n (pos 0) ≡ true → n <ℤ pos 0
below n e = grind (arith, ints)

abbrev upper_slot : List LinStep → ℕ → Slot → Bool
upper_slot log term slot = is_upper term (entry_of log slot)

abbrev lower_slot : List LinStep → ℕ → Slot → Bool
lower_slot log term slot = is_lower term (entry_of log slot)

pub uppers_are_above : (log : List LinStep) (term : ℕ) (slots : List Slot)
    → All (λ slot. pos 0 <ℤ coefficient_of (row_at log slot.at).form term) (filter (λ slot. is_upper term (entry_of log slot)) slots)
uppers_are_above log term slots =
    All-weaker (λ (slot : Slot). upper_slot log term slot ≡ true) (λ (slot : Slot). pos 0 <ℤ coefficient_of (row_at log slot.at).form term)
    (λ slot e. above (coefficient_of (row_at log slot.at).form term) e) (filter (upper_slot log term) slots) (filter_passes (upper_slot log term) slots)

pub lowers_are_below : (log : List LinStep) (term : ℕ) (slots : List Slot)
    → All (λ slot. coefficient_of (row_at log slot.at).form term <ℤ pos 0) (filter (λ slot. is_lower term (entry_of log slot)) slots)
lowers_are_below log term slots =
    All-weaker (λ (slot : Slot). lower_slot log term slot ≡ true) (λ (slot : Slot). coefficient_of (row_at log slot.at).form term <ℤ pos 0)
    (λ slot e. below (coefficient_of (row_at log slot.at).form term) e) (filter (lower_slot log term) slots) (filter_passes (lower_slot log term) slots)

-- ---- forms of the log

pub forms_of_log : (rows : List Row) (log : List LinStep) → AreSteps rows log → All (λ step. IsForm step.row.form) log
forms_of_log rows log are = All-weaker (λ (step : LinStep). IsRow step.row) (λ (step : LinStep). IsForm step.row.form) (λ step is. is.form) log (steps_are_rows rows log are)

-- ---- the table over a stage

pub extends_along : (first second third last : List LinStep) → second ≡ first → Extends second third → last ≡ third → Extends first last
extends_along first second third last e h f = (h.0, f ∙ h.1 ∙ ap (λ (log : List LinStep). log ++ h.0) e)

pub slots_apart : (old new : List LinStep) (p : Slot → Bool) (slots kept : List Slot) → All (IsSlot old) slots → new ≡ old → kept ≡ filter p slots → All (IsSlot new) kept
slots_apart old new p slots kept are e k =
    subst (λ (log : List LinStep). All (IsSlot log) kept) (sym e) (All-same (IsSlot old) kept (filter p slots) k (All-filter p (IsSlot old) slots are))

pub table_apart : (rows : List Row) (old new : Table) (p : Slot → Bool) → IsTable rows old → new.log ≡ old.log → new.slots.items ≡ filter p old.slots.items → IsTable rows new
table_apart rows old new p is e k = record {
  steps = subst (AreSteps rows) (sym e) is.steps;
  slots = slots_apart old.log new.log p old.slots.items new.slots.items is.slots e k;
  few = subst (λ (log : List LinStep). length rows + length log < 2 ^ 32) (sym e) is.few;
}

pub entries_apart : (old new : List LinStep) (test : Entry → Bool) (slots kept : List Slot) → new ≡ old → kept ≡ filter (λ slot. test (entry_of old slot)) slots
    → entries_of new kept ≡ filter test (entries_of old slots)
entries_apart old new test slots kept e k =
    ap (λ (log : List LinStep). entries_of log kept) e ∙ ap (entries_of old) k ∙ sym (entries_filtered test old slots)

abbrev made : List Entry → ℕ → ℕ → elimination.Table
made entries next pairs = record { entries = entries; next = next; pairs = pairs }

pub table_left : (term : ℕ) (old new : Table) → new.log ≡ old.log → new.slots.items ≡ filter (λ slot. not (has_term term (entry_of old.log slot))) old.slots.items
    → new.next ≡ old.next → new.pairs ≡ old.pairs → table_of new ≡ without term (table_of old)
table_left term old new e k n p =
    ap (λ (entries : List Entry). made entries new.next new.pairs) (entries_apart old.log new.log (λ entry. not (has_term term entry)) old.slots.items new.slots.items e k)
    ∙ ap (λ (next : ℕ). made (without term (table_of old)).entries next new.pairs) n ∙ ap (made (without term (table_of old)).entries old.next) p

-- a stage by its two steps
pub stage_summed : (term more : ℕ) (before counted : elimination.Table) (course : Course elimination.Table) → more ≡ pairs_of before.entries term
    → elimination.counted more before ≡ Ok counted → counted.entries ≡ before.entries
    → put_all_sums term (filter (is_upper term) counted.entries) (filter (is_lower term) counted.entries) counted ≡ course → elimination.stage term before ≡ course
stage_summed term more before counted course m c e s =
    let sums : List Entry → elimination.Table → Course elimination.Table =
    λ entries table. put_all_sums term (filter (is_upper term) entries) (filter (is_lower term) entries) table in
    ap (λ (n : ℕ). and_then (elimination.counted n before) (sums before.entries)) (sym m)
    ∙ ap (λ (result : Course elimination.Table). and_then result (sums before.entries)) c
    ∙ ap (λ (entries : List Entry). sums entries counted) (sym e) ∙ s

-- ---- the course through stages

pub back_ended : (log : List LinStep) (stages : List Stage) (ending : Ending) → back log stages (Err ending) ≡ Err ending
back_ended log [] ending = refl
back_ended log (stage ∷ later) ending =
    ap (λ (course : Course Values). and_then course (give stage.term (entries_of log stage.held.items))) (back_ended log later ending)

pub back_pushed : (log : List LinStep) (stages : List Stage) (last : Stage) (course : Course Values)
    → back log (stages ++ last ∷ []) course ≡ back log stages (and_then course (give last.term (entries_of log last.held.items)))
back_pushed log [] last course = refl
back_pushed log (stage ∷ later) last course =
    ap (λ (c : Course Values). and_then c (give stage.term (entries_of log stage.held.items))) (back_pushed log later last course)

abbrev pub IsHeld : List LinStep → Stage → Type 0
IsHeld log stage = All (IsSlot log) stage.held.items

pub stages_kept : (old new : List LinStep) (stages : List Stage) → Extends old new → AreStages old stages → AreStages new stages
stages_kept old new stages h are = All-weaker (IsHeld old) (IsHeld new) (λ stage is. slots_kept old new stage.held.items h is) stages are

pub back_kept : (old new : List LinStep) (stages : List Stage) (course : Course Values) → Extends old new → AreStages old stages
    → back new stages course ≡ back old stages course
back_kept old new [] course h are = refl
back_kept old new (stage ∷ later) course h are =
    let rest = back_kept old new later course h (All-tail (IsHeld old) stage later are) in
    let held = entries_kept old new stage.held.items h (All-head (IsHeld old) stage later are) in
    ap (λ (c : Course Values). and_then c (give stage.term (entries_of new stage.held.items))) rest
    ∙ ap (λ (entries : List Entry). and_then (back old later course) (give stage.term entries)) held

-- ---- what a stage leaves to show

-- the courses from the table lead to those from the start
abbrev pub Leads : List LinStep → List Stage → elimination.Table → elimination.Table → Type 0
Leads log stages start table = (course : Course Values) → Solves table course → Solves start (back log stages course)

pub stage_led : (old new : List LinStep) (stages : List Stage) (start before after : elimination.Table) (term : ℕ) (stage : Stage)
    → Leads old stages start before → Extends old new → AreStages old stages → IsNext before.entries term → IsStage new term before after stage
    → Leads new (stages ++ stage ∷ []) start after
stage_led old new stages start before after term stage leads h are next is course solves =
    let whole : Course Values = and_then course (give stage.term (entries_of new stage.held.items)) in
    let same : whole ≡ and_then course (give term (filter (has_term term) is.summed.entries)) =
    ap (λ (t : ℕ). and_then course (give t (entries_of new stage.held.items))) is.own ∙ ap (λ (entries : List Entry). and_then course (give term entries)) is.held in
    let here : Solves before whole = stage_done before is.summed term course whole next is.course (subst (λ (t : elimination.Table). Solves t course) is.left solves) same in
    subst (Solves start) (sym (back_kept old new stages whole h are) ∙ sym (back_pushed new stages stage course)) (leads whole here)

ended : (log : List LinStep) (stages : List Stage) (start before : elimination.Table) (term : ℕ) (ending : Ending)
    → Leads log stages start before → IsNext before.entries term → elimination.stage term before ≡ Err ending → Solves start (Err ending)
ended log stages start before term ending leads next e =
    subst (Solves start) (back_ended log stages ending) (leads (Err ending) (stage_ends before term ending next e))

pub stage_stopped : (old new : List LinStep) (stages : List Stage) (start before : elimination.Table) (term : ℕ) (stop : Stop)
    → Leads old stages start before → IsNext before.entries term → IsEnd new stop (elimination.stage term before) → Ends new stop (Solves start)
stage_stopped old new stages start before term Memory leads next e = tt
stage_stopped old new stages start before term Absurd leads next e = (ended old stages start before term refuted leads next e.0, e.1)
stage_stopped old new stages start before term (Forms count) leads next e = ended old stages start before term (wide_forms count) leads next e
stage_stopped old new stages start before term (Pairs count) leads next e = ended old stages start before term (wide_pairs count) leads next e
stage_stopped old new stages start before term (Number number) leads next e = ended old stages start before term (wide_number number) leads next e
stage_stopped old new stages start before term (Gap first second) leads next e =
    ended old stages start before term (gap (entry_of new first) (entry_of new second)) leads next e

-- where a `?` passes a stop on
pub passed_on : (log : List LinStep) (result : Result (Unit {0}) Stop) (stop : Stop) (done : Unit {0} → Type 0) (meant : Course Values → Type 0)
    → IsErrAnd result (λ s. s ≡ stop) → Ends log stop meant → MatchResult result done (λ s. Ends log s meant)
passed_on log (Ok u) stop done meant e ends = absurd e
passed_on log (Err s) stop done meant e ends = subst (λ (t : Stop). Ends log t meant) (sym e) ends

-- what was found, seen in the table's entries
pub next_is : (log : List LinStep) (seen slots : List Slot) (found shown : Option Choice) → seen ≡ slots → found ≡ shown
    → MatchOption found ((term : ℕ) → occurs (entries_of log seen) term ≡ false) (λ choice. IsNext (entries_of log seen) choice.term)
    → MatchOption shown ((term : ℕ) → occurs (entries_of log slots) term ≡ false) (λ choice. IsNext (entries_of log slots) choice.term)
next_is log seen slots found shown s f h =
    let at_slots = subst (λ (list : List Slot). MatchOption found ((term : ℕ) → occurs (entries_of log list) term ≡ false) (λ choice. IsNext (entries_of log list) choice.term)) s h in
    subst (λ (option : Option Choice). MatchOption option ((term : ℕ) → occurs (entries_of log slots) term ≡ false) (λ choice. IsNext (entries_of log slots) choice.term)) f at_slots
