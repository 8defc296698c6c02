-- What is compared before a row enters the table: forms, and the rows of the entries.
use Rattle.std.proofs.Common.{◌≡◌, ◌≢◌, ℕ, ◌+◌, ◌<◌, ◌≤◌, ◌^◌, FitsSigned, to_z, of_z, Bool, true, false, cond, not, ◌&&◌, ◌||◌, ◌==◌, List, [], ◌∷◌, length, get_or, drop, ℤ, pos, Ok, Err, refl, sym, ◌∙◌, ap, subst, arith}
use mir.Syntax.{w128}
use lib.Signed.{le_z}
use Rattle.std.specs.Prelude.{All, ◌<ℤ◌, unsigned_abs, int_lt, int_le, filter}
use Rattle.std.specs.List.{list_any}
use Rattle.std.specs.Ordering.{int_eq}
use Rattle.std.proofs.lemmas.Bool.{false≢true}
use Rattle.std.proofs.lemmas.Bool.Decides.{Decides-int_eq, Decides-eqb}
use Rattle.std.proofs.lemmas.Int.{ints, to_z-of_z}
use Rattle.std.proofs.lemmas.List.{drop_more, get_or-drop}
use Rattle.jesc_linear.specs.declared.rows.Row.{Row}
use Rattle.jesc_linear.specs.declared.rows.LinStep.{LinStep}
use Rattle.jesc_linear.specs.declared.stop.Slot.{Slot}
use Rattle.jesc_linear.specs.Tables.{entry_of, entries_of}
use Rattle.jesc_linear.specs.Forms.{Form}
use Rattle.jesc_linear.specs.Courses.{Entry, Course}
use Rattle.jesc_linear.specs.Courses.Ending.{refuted}
use Rattle.jesc_linear.specs.Marks.{mark_of}
use Rattle.jesc_linear.specs.Elimination.{same_form, covers, put_row}

-- ---- equal forms

and_true : (a b : Bool) → (a && b) ≡ true → (a ≡ true) × (b ≡ true)
and_true true b e = (refl, e)
and_true false b e = absurd (false≢true e)

pub equal_forms : (f g : Form) → same_form f g ≡ true → f ≡ g
equal_forms [] [] e = refl
equal_forms [] (q ∷ g) e = absurd (false≢true e)
equal_forms (p ∷ f) [] e = absurd (false≢true e)
equal_forms (p ∷ f) (q ∷ g) e =
    let both = and_true (int_eq p.0 q.0 && (p.1 == q.1)) (same_form f g) e in
    let parts = and_true (int_eq p.0 q.0) (p.1 == q.1) both.0 in
    let part : p ≡ q = λ i. ((Decides-int_eq p.0 q.0).0 parts.0 i, (Decides-eqb p.1 q.1).0 parts.1 i) in
    λ i. part i ∷ equal_forms f g both.1 i

decided : (b : Bool) → (b ≡ true → ⊥) → b ≡ false
decided true h = absurd (h refl)
decided false h = refl

pub other_forms : (f g : Form) → f ≢ g → same_form f g ≡ false
other_forms f g h = decided (same_form f g) (λ e. h (equal_forms f g e))

pub other_lengths : (f g : Form) → length f ≢ length g → false ≡ same_form f g
other_lengths f g h = sym (other_forms f g (λ e. h (ap length e)))

pub other_marks : (f g : Form) → mark_of f ≢ mark_of g → false ≡ same_form f g
other_marks f g h = sym (other_forms f g (λ e. h (ap mark_of e)))

pub same_at : (f g : Form) (k : ℕ) (p q : ℤ × ℕ) → k < length f → k < length g → p ≡ get_or f k p → q ≡ get_or g k q
    → same_form (drop k f) (drop k g) ≡ (int_eq p.0 q.0 && (p.1 == q.1) && same_form (drop (k + 1) f) (drop (k + 1) g))
same_at f g k p q lf lg ep eq =
    ap (λ (h : Form). same_form h (drop k g)) (drop_more f k p lf) ∙ ap (λ (h : Form). same_form (get_or f k p ∷ drop (k + 1) f) h) (drop_more g k q lg)
    ∙ ap (λ (x : ℤ × ℕ). same_form (x ∷ drop (k + 1) f) (get_or g k q ∷ drop (k + 1) g)) (sym ep)
    ∙ ap (λ (x : ℤ × ℕ). same_form (p ∷ drop (k + 1) f) (x ∷ drop (k + 1) g)) (sym eq)

-- ---- entries

-- the entry's row has the form
abbrev pub is_of : Form → Entry → Bool
is_of form entry = same_form entry.row.form form

-- where none has the form, none is dropped
pub none_dropped : (form : Form) (entries : List Entry) → list_any (is_of form) entries ≡ false → filter (λ entry. not (is_of form entry)) entries ≡ entries
none_dropped form [] h = refl
none_dropped form (e ∷ es) h = none_dropped_more (is_of form e) (list_any (is_of form) es) e es form h (λ more. none_dropped form es more)
  where
    none_dropped_more : (b rest : Bool) (e : Entry) (es : List Entry) (form : Form) → (b || rest) ≡ false
        → (rest ≡ false → filter (λ entry. not (is_of form entry)) es ≡ es)
        → cond (not b) (e ∷ filter (λ entry. not (is_of form entry)) es) (filter (λ entry. not (is_of form entry)) es) ≡ e ∷ es
    none_dropped_more true rest e es form h more = absurd (false≢true (sym h))
    none_dropped_more false rest e es form h more = ap (λ (xs : List Entry). e ∷ xs) (more h)

-- where none has the form, none covers the row
pub none_covers : (row : Row) (entries : List Entry) → list_any (is_of row.form) entries ≡ false → list_any (covers row) entries ≡ false
none_covers row [] h = refl
none_covers row (e ∷ es) h = one (is_of row.form e) (int_le e.row.bound row.bound) (list_any (is_of row.form) es) (list_any (covers row) es) h (none_covers row es)
  where
    one : (a b c d : Bool) → (a || c) ≡ false → (c ≡ false → d ≡ false) → (a && b || d) ≡ false
    one true b c d h more = absurd (false≢true (sym h))
    one false b c d h more = more h

-- ---- how a row is put

below_zero : (bound : ℤ) → bound <ℤ pos 0 → int_lt bound (pos 0) ≡ true
below_zero bound h = grind (arith, ints)

pub put_absurd : (number : ℕ) (row : Row) (entries : List Entry) → row.form ≡ [] → row.bound <ℤ pos 0 → put_row number row entries ≡ Err refuted
put_absurd number row entries e l =
    ap (λ (form : Form). put_row number (let r : Row = record { form = form; bound = row.bound } in r) entries) e
    ∙ ap (λ (b : Bool). let c : Course (List Entry) = cond b (Err refuted) (Ok entries) in c) (below_zero row.bound l)

-- what the test of a bound says that the machine reads
pub is_negative : (bound : ℤ) → unsigned_abs bound ≤ 2 ^ 94 → le_z (pos 0) (to_z w128 (of_z w128 bound)) ≡ false → bound <ℤ pos 0
is_negative bound small e =
    let fits : FitsSigned w128 bound = omega (arith, ints) in
    let plain : le_z (pos 0) bound ≡ false = sym (ap (le_z (pos 0)) (to_z-of_z w128 bound fits)) ∙ e in
    grind (arith, ints)

-- ---- a walk over the slots

pub any_at : (test : Entry → Bool) (log : List LinStep) (slots : List Slot) (k : ℕ) (s : Slot) → k < length slots → s ≡ get_or slots k s
    → list_any test (entries_of log (drop k slots)) ≡ (test (entry_of log s) || list_any test (entries_of log (drop (k + 1) slots)))
any_at test log slots k s l e =
    ap (λ (ss : List Slot). list_any test (entries_of log ss)) (drop_more slots k s l)
    ∙ ap (λ (x : Slot). test (entry_of log x) || list_any test (entries_of log (drop (k + 1) slots))) (sym e)

-- the slot at a place from which on a list is as it was
pub slot_in_rest : (P : Slot → Type 0) (old new : List Slot) (i : ℕ) (s : Slot) → All P old → length new ≡ length old → drop i new ≡ drop i old
    → i < length new → s ≡ get_or new i s → P s
slot_in_rest P old new i s all long rest l e =
    let here : i + 0 ≡ i = omega arith in
    let same : get_or new (i + 0) s ≡ get_or old (i + 0) s = sym (get_or-drop i new 0 s) ∙ ap (λ (ss : List Slot). get_or ss 0 s) rest ∙ get_or-drop i old 0 s in
    let read : get_or old i s ≡ s = sym (e ∙ ap (λ (k : ℕ). get_or new k s) (sym here) ∙ same ∙ ap (λ (k : ℕ). get_or old k s) here) in
    subst P read (all i s (omega (arith, long)))
