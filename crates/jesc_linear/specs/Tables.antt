-- How the code's table and its log stand for the table of the definitions, and what a search that may stop answers.
use Rattle.std.specs.Prelude.{◌≡◌, ℕ, zero, suc, ◌+◌, ◌<◌, ◌^◌, pos, ℤ, List, [], ◌∷◌, ◌++◌, length, map, All, Result, Ok, Err}
use Rattle.jesc_linear.specs.declared.rows.Row.{Row}
use Rattle.jesc_linear.specs.declared.rows.LinStep.{LinStep}
use Rattle.jesc_linear.specs.declared.stop.Stop.{Stop}
use Rattle.jesc_linear.specs.declared.stop.Stop.TheVariants.{Memory, Absurd, Forms, Pairs, Number, Gap}
use Rattle.jesc_linear.specs.declared.stop.Slot.{Slot}
use Rattle.jesc_linear.specs.declared.table.Table.{Table}
use Rattle.jesc_linear.specs.declared.stage.Stage.{Stage}
use Rattle.jesc_linear.specs.Rows.{value_at}
use Rattle.jesc_linear.specs.Steps.{AreSteps, EndsAbsurd}
use Rattle.jesc_linear.specs.Courses.{Course, Entry, and_then}
use Rattle.jesc_linear.specs.Courses.Ending.{refuted, wide_forms, wide_pairs, wide_number, gap}
use Rattle.jesc_linear.specs.Elimination.{Values, value_in, give}
use Rattle.jesc_linear.specs.Elimination as elimination
use Rattle.jesc_linear.specs.Marks.{mark_of}

-- ---- the table

-- the row of the step at that place of the log
abbrev pub row_at : List LinStep → ℕ → Row
row_at [] at = record { form = []; bound = pos 0 }
row_at (step ∷ log) zero = step.row
row_at (step ∷ log) (suc at) = row_at log at

abbrev pub entry_of : List LinStep → Slot → Entry
entry_of log slot = record { number = slot.number; row = row_at log slot.at }

abbrev pub entries_of : List LinStep → List Slot → List Entry
entries_of log slots = map (entry_of log) slots

abbrev pub table_of : Table → elimination.Table
table_of table = record { entries = entries_of table.log table.slots.items; next = table.next; pairs = table.pairs }

pub record IsSlot (log : List LinStep) (slot : Slot) : Type 0 where
  pub there : slot.at < length log
  pub mark : slot.mark ≡ mark_of (row_at log slot.at).form

pub record IsTable (rows : List Row) (table : Table) : Type 0 where
  pub steps : AreSteps rows table.log
  pub slots : All (IsSlot table.log) table.slots.items
  pub few : length rows + length table.log < 2 ^ 32

-- the log goes on
abbrev pub Extends : List LinStep → List LinStep → Type 0
Extends old new = (more : List LinStep) × (new ≡ old ++ more)

-- ---- what is answered

-- what a search stops with says how the courses end that are meant
abbrev pub Ends : {A : Type 0} → List LinStep → Stop → (Course A → Type 0) → Type 0
Ends log Memory meant = Unit {0}
Ends log Absurd meant = meant (Err refuted) × EndsAbsurd log
Ends log (Forms count) meant = meant (Err (wide_forms count))
Ends log (Pairs count) meant = meant (Err (wide_pairs count))
Ends log (Number number) meant = meant (Err (wide_number number))
Ends log (Gap first second) meant = meant (Err (gap (entry_of log first) (entry_of log second)))

-- the one course meant ends so
abbrev pub IsEnd : {A : Type 0} → List LinStep → Stop → Course A → Type 0
IsEnd log stop course = Ends log stop (λ end. course ≡ end)

-- the answer is that of the course, its value seen so
abbrev pub Goes : {A B : Type 0} → List LinStep → (B → A) → Course A → Result B Stop → Type 0
Goes log view course (Ok value) = course ≡ Ok (view value)
Goes log view course (Err stop) = IsEnd log stop course

-- the same where only a number out of range may stop it
abbrev pub Looks : {A B : Type 0} → (B → A) → Course A → Result B Stop → Type 0
Looks view course (Ok value) = course ≡ Ok (view value)
Looks view course (Err Memory) = Unit {0}
Looks view course (Err Absurd) = ⊥
Looks view course (Err (Forms count)) = ⊥
Looks view course (Err (Pairs count)) = ⊥
Looks view course (Err (Number number)) = course ≡ Err (wide_number number)
Looks view course (Err (Gap first second)) = ⊥

-- ---- the way back

-- the course through these stages, the first one last
abbrev pub back : List LinStep → List Stage → Course Values → Course Values
back log [] course = course
back log (stage ∷ later) course = and_then (back log later course) (give stage.term (entries_of log stage.held.items))

abbrev pub AreStages : List LinStep → List Stage → Type 0
AreStages log stages = All (λ stage. All (IsSlot log) stage.held.items) stages

-- the list of values, by term, has what was found
abbrev pub HasValues : List ℤ → Values → Type 0
HasValues list values = (term : ℕ) → value_at list term ≡ value_in values term
