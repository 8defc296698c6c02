-- A log that goes on keeps the rows that it has: what slots stand for, and what its steps are.
use Rattle.std.proofs.Common.{◌≡◌, ℕ, zero, suc, ◌+◌, ◌<◌, ◌≤◌, Bool, true, false, cond, Option, Some, None, List, [], ◌∷◌, ◌++◌, length, get_or, map, refl, sym, ◌∙◌, ap, subst, arith}
use Rattle.std.specs.Prelude.{All, slice_get, filter}
use Rattle.std.proofs.lemmas.List.{append-nil, append_assoc, length-append, map_push}
use Rattle.std.proofs.lemmas.List.Elements.{All-head, All-tail, All-nil, All-cons, All-push, All-weaker}
use Rattle.jesc_linear.specs.declared.rows.Row.{Row}
use Rattle.jesc_linear.specs.declared.rows.LinStep.{LinStep}
use Rattle.jesc_linear.specs.declared.stop.Slot.{Slot}
use Rattle.jesc_linear.specs.Steps.{IsRow, DerivesFrom, AreSteps, IsAbsurd, EndsAbsurd}
use Rattle.jesc_linear.specs.Inner.{row_of}
use Rattle.jesc_linear.specs.Courses.{Entry}
use Rattle.jesc_linear.specs.Marks.{mark_of}
use Rattle.jesc_linear.specs.Tables.{row_at, entry_of, entries_of, IsSlot, Extends}

-- ---- rows of the log

pub row_at_kept : (log more : List LinStep) (at : ℕ) → at < length log → row_at (log ++ more) at ≡ row_at log at
row_at_kept [] more at l = absurd (omega arith)
row_at_kept (step ∷ log) more zero l = refl
row_at_kept (step ∷ log) more (suc at) l = row_at_kept log more at (omega arith)

pub row_at_pushed : (log : List LinStep) (step : LinStep) → row_at (log ++ step ∷ []) (length log) ≡ step.row
row_at_pushed [] step = refl
row_at_pushed (s ∷ log) step = row_at_pushed log step

-- the row of the step read at that place
pub row_at_read : (log : List LinStep) (at : ℕ) (step : LinStep) → at < length log → step ≡ get_or log at step → row_at log at ≡ step.row
row_at_read [] at step l e = absurd (omega arith)
row_at_read (s ∷ log) zero step l e = ap (λ (x : LinStep). x.row) (sym e)
row_at_read (s ∷ log) (suc at) step l e = row_at_read log at step (omega arith) e

pub row_at_is : (log : List LinStep) (at : ℕ) (d : LinStep) → at < length log → row_at log at ≡ (get_or log at d).row
row_at_is [] at d l = absurd (omega arith)
row_at_is (step ∷ log) zero d l = refl
row_at_is (step ∷ log) (suc at) d l = row_at_is log at d (omega arith)

get_after : (rows more : List Row) (at : ℕ) → slice_get (rows ++ more) (length rows + at) ≡ slice_get more at
get_after [] more at = ap (slice_get more) (let e : 0 + at ≡ at = omega arith in e)
get_after (row ∷ rows) more at =
    let e : suc (length rows) + at ≡ suc (length rows + at) = omega arith in
    ap (slice_get (row ∷ rows ++ more)) e ∙ get_after rows more at

get_in_log : (log : List LinStep) (at : ℕ) → at < length log → slice_get (map row_of log) at ≡ Some (row_at log at)
get_in_log [] at l = absurd (omega arith)
get_in_log (step ∷ log) zero l = refl
get_in_log (step ∷ log) (suc at) l = get_in_log log at (omega arith)

-- the row under the number by which a step names it
pub row_by_number : (rows : List Row) (log : List LinStep) (at : ℕ) → at < length log → slice_get (rows ++ map row_of log) (length rows + at) ≡ Some (row_at log at)
row_by_number rows log at l = get_after rows (map row_of log) at ∙ get_in_log log at l

-- ---- a log that goes on

pub extends_itself : (log : List LinStep) → Extends log log
extends_itself log = ([], sym (append-nil log))

pub extends_pushed : (log : List LinStep) (step : LinStep) → Extends log (log ++ step ∷ [])
extends_pushed log step = (step ∷ [], refl)

pub extends_on : (first second third : List LinStep) → Extends first second → Extends second third → Extends first third
extends_on first second third g h = (g.0 ++ h.0, h.1 ∙ ap (λ (log : List LinStep). log ++ h.0) g.1 ∙ append_assoc first g.0 h.0)

pub length_kept : (old new : List LinStep) → Extends old new → length old ≤ length new
length_kept old new h = omega (arith, ap (length {A = LinStep}) h.1, length-append old h.0)

pub row_at_extended : (old new : List LinStep) (at : ℕ) → Extends old new → at < length old → row_at new at ≡ row_at old at
row_at_extended old new at h l = ap (λ (log : List LinStep). row_at log at) h.1 ∙ row_at_kept old h.0 at l

-- ---- slots

pub slot_kept : (old new : List LinStep) (slot : Slot) → Extends old new → IsSlot old slot → IsSlot new slot
slot_kept old new slot h is = record {
  there = omega (arith, length_kept old new h, is.there);
  mark = is.mark ∙ ap (λ (row : Row). mark_of row.form) (sym (row_at_extended old new slot.at h is.there));
}

pub slots_kept : (old new : List LinStep) (slots : List Slot) → Extends old new → All (IsSlot old) slots → All (IsSlot new) slots
slots_kept old new slots h are = All-weaker (IsSlot old) (IsSlot new) (λ slot is. slot_kept old new slot h is) slots are

pub entry_kept : (old new : List LinStep) (slot : Slot) → Extends old new → IsSlot old slot → entry_of new slot ≡ entry_of old slot
entry_kept old new slot h is = ap (λ (row : Row). let e : Entry = record { number = slot.number; row = row } in e) (row_at_extended old new slot.at h is.there)

pub entries_kept : (old new : List LinStep) (slots : List Slot) → Extends old new → All (IsSlot old) slots → entries_of new slots ≡ entries_of old slots
entries_kept old new [] h are = refl
entries_kept old new (slot ∷ slots) h are =
    let here = entry_kept old new slot h (All-head (IsSlot old) slot slots are) in
    let rest = entries_kept old new slots h (All-tail (IsSlot old) slot slots are) in
    ap (λ (e : Entry). e ∷ entries_of new slots) here ∙ ap (λ (es : List Entry). entry_of old slot ∷ es) rest

kept_head : (b : Bool) (log : List LinStep) (slot : Slot) (kept : List Slot)
    → cond b (entry_of log slot ∷ entries_of log kept) (entries_of log kept) ≡ entries_of log (cond b (slot ∷ kept) kept)
kept_head true log slot kept = refl
kept_head false log slot kept = refl

-- the entries that pass are those of the slots whose entry passes
pub entries_filtered : (test : Entry → Bool) (log : List LinStep) (slots : List Slot)
    → filter test (entries_of log slots) ≡ entries_of log (filter (λ slot. test (entry_of log slot)) slots)
entries_filtered test log [] = refl
entries_filtered test log (slot ∷ slots) =
    let kept = filter (λ (s : Slot). test (entry_of log s)) slots in
    ap (λ (es : List Entry). cond (test (entry_of log slot)) (entry_of log slot ∷ es) es) (entries_filtered test log slots)
    ∙ kept_head (test (entry_of log slot)) log slot kept

-- a slot for the step that the log ends with
pub slot_of_last : (old new : List LinStep) (step : LinStep) (slot : Slot) → new ≡ old ++ step ∷ [] → slot.at ≡ length old
    → slot.mark ≡ mark_of step.row.form → IsSlot new slot
slot_of_last old new step slot e at mark =
    let row : row_at new slot.at ≡ step.row = ap (λ (log : List LinStep). row_at log slot.at) e ∙ ap (row_at (old ++ step ∷ [])) at ∙ row_at_pushed old step in
    record {
      there = omega (arith, ap (length {A = LinStep}) e, length-append old (step ∷ []), at);
      mark = mark ∙ ap (λ (r : Row). mark_of r.form) (sym row);
    }

pub slots_pushed : (old new : List LinStep) (step : LinStep) (slots : List Slot) (slot : Slot) → new ≡ old ++ step ∷ [] → All (IsSlot old) slots
    → slot.at ≡ length old → slot.mark ≡ mark_of step.row.form → All (IsSlot new) (slots ++ slot ∷ [])
slots_pushed old new step slots slot e are at mark =
    All-push (IsSlot new) slots slot (slots_kept old new slots (step ∷ [], e) are) (slot_of_last old new step slot e at mark)

pub entries_pushed : (old new : List LinStep) (step : LinStep) (slots : List Slot) (slot : Slot) → new ≡ old ++ step ∷ [] → All (IsSlot old) slots
    → slot.at ≡ length old → entries_of new (slots ++ slot ∷ []) ≡ entries_of old slots ++ record { number = slot.number; row = step.row } ∷ []
entries_pushed old new step slots slot e are at =
    let row : row_at new slot.at ≡ step.row = ap (λ (log : List LinStep). row_at log slot.at) e ∙ ap (row_at (old ++ step ∷ [])) at ∙ row_at_pushed old step in
    map_push (entry_of new) slots slot
    ∙ ap (λ (es : List Entry). es ++ entry_of new slot ∷ []) (entries_kept old new slots (step ∷ [], e) are)
    ∙ ap (λ (r : Row). let es : List Entry = entries_of old slots ++ record { number = slot.number; row = r } ∷ [] in es) row

-- ---- steps

pub steps_pushed : (rows : List Row) (log : List LinStep) (step : LinStep) → AreSteps rows log
    → DerivesFrom (slice_get (rows ++ map row_of log) step.i) (slice_get (rows ++ map row_of log) step.j) step → AreSteps rows (log ++ step ∷ [])
steps_pushed rows [] step are d =
    (subst (λ (table : List Row). DerivesFrom (slice_get table step.i) (slice_get table step.j) step) (append-nil rows) d, tt)
steps_pushed rows (s ∷ log) step are d = (
  are.0,
  steps_pushed (rows ++ s.row ∷ []) log step are.1
      (subst (λ (table : List Row). DerivesFrom (slice_get table step.i) (slice_get table step.j) step) (sym (append_assoc rows (s.row ∷ []) (map row_of log))) d),
)

pub derived_is_row : (first second : Option Row) (step : LinStep) → DerivesFrom first second step → IsRow step.row
derived_is_row (Some f) (Some g) step d = d.made_row
derived_is_row (Some f) None step d = absurd d
derived_is_row None g step d = absurd d

pub steps_are_rows : (rows : List Row) (log : List LinStep) → AreSteps rows log → All (λ step. IsRow step.row) log
steps_are_rows rows [] are = All-nil (λ (step : LinStep). IsRow step.row)
steps_are_rows rows (s ∷ log) are = All-cons (λ (step : LinStep). IsRow step.row) s log
    (derived_is_row (slice_get rows s.i) (slice_get rows s.j) s are.0) (steps_are_rows (rows ++ s.row ∷ []) log are.1)

pub row_at_is_row : (log : List LinStep) (at : ℕ) → All (λ step. IsRow step.row) log → at < length log → IsRow (row_at log at)
row_at_is_row [] at are l = absurd (omega arith)
row_at_is_row (s ∷ log) zero are l = All-head (λ (step : LinStep). IsRow step.row) s log are
row_at_is_row (s ∷ log) (suc at) are l = row_at_is_row log at (All-tail (λ (step : LinStep). IsRow step.row) s log are) (omega arith)

pub steps_after : (rows : List Row) (old new : List LinStep) (step : LinStep) → new ≡ old ++ step ∷ [] → AreSteps rows old
    → DerivesFrom (slice_get (rows ++ map row_of old) step.i) (slice_get (rows ++ map row_of old) step.j) step → AreSteps rows new
steps_after rows old new step e are d = subst (AreSteps rows) (sym e) (steps_pushed rows old step are d)

-- a step that is absurd ends the log so
pub ends_pushed : (log : List LinStep) (step : LinStep) → IsAbsurd step → EndsAbsurd (log ++ step ∷ [])
ends_pushed [] step h = h
ends_pushed (s ∷ []) step h = h
ends_pushed (s ∷ t ∷ log) step h = ends_pushed (t ∷ log) step h

pub ends_after : (old new : List LinStep) (step : LinStep) → new ≡ old ++ step ∷ [] → IsAbsurd step → EndsAbsurd new
ends_after old new step e h = subst EndsAbsurd (sym e) (ends_pushed old step h)
