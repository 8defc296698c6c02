-- From one part of the search to the next.
use Rattle.std.proofs.Common.{◌≡◌, ℕ, List, [], length, ℤ, Result, Ok, Err, sym, subst, All, MatchResult}
use Rattle.std.specs.Prelude.{IsErrAnd}
use Rattle.jesc_linear.specs.declared.rows.Row.{Row}
use Rattle.jesc_linear.specs.declared.rows.LinStep.{LinStep}
use Rattle.jesc_linear.specs.declared.stop.Stop.{Stop}
use Rattle.jesc_linear.specs.declared.stop.Stop.TheVariants.{Memory, Absurd, Forms, Pairs, Number, Gap}
use Rattle.jesc_linear.specs.Courses.{Course, Ending, Entry}
use Rattle.jesc_linear.specs.Courses.Ending.{refuted, wide_forms, wide_pairs, wide_number, gap}
use Rattle.jesc_linear.specs.Forms.{IsForm}
use Rattle.jesc_linear.specs.Rows.{MeetsAll, value_at}
use Rattle.jesc_linear.specs.Evidence.{HaveGap}
use Rattle.jesc_linear.specs.Elimination.{Decides, Solves, Values, put_given, listed, end_of_all}
use Rattle.jesc_linear.proofs.Meeting.{point_meets}
use Rattle.jesc_linear.proofs.Gaps.{gap_is_wide}
use Rattle.jesc_linear.specs.Tables.{Ends, IsEnd, HasValues, entry_of}

pub fails : {A E : Type 0} (P : A → Type 0) (Q : E → Type 0) (r : Result A E) (e : E) → IsErrAnd r (λ y. y ≡ e) → Q e → MatchResult r P Q
fails P Q (Ok a) e h q = absurd h
fails P Q (Err x) e h q = subst Q (sym h) q

pub ends_so : {A B : Type 0} (log : List LinStep) (stop : Stop) (P : Course A → Type 0) (Q : Course B → Type 0) → ((e : Ending) → P (Err e) → Q (Err e)) → Ends log stop P → Ends log stop Q
ends_so log Memory P Q f h = tt
ends_so log Absurd P Q f h = (f refuted h.0, h.1)
ends_so log (Forms n) P Q f h = f (wide_forms n) h
ends_so log (Pairs n) P Q f h = f (wide_pairs n) h
ends_so log (Number z) P Q f h = f (wide_number z) h
ends_so log (Gap a b) P Q f h = f (gap (entry_of log a) (entry_of log b)) h

pub rows_end : (log : List LinStep) (stop : Stop) (rows : List Row) → IsEnd log stop (put_given 0 rows []) → Ends log stop (Decides rows)
rows_end log stop rows h = ends_so log stop (λ end. put_given 0 rows [] ≡ end) (Decides rows) (λ e same. Decides.rows_end e same) h

-- the course from the table of the rows is that of the rows
pub decided : (rows : List Row) (entries : List Entry) (next pairs : ℕ) (course : Course Values) → put_given 0 rows [] ≡ Ok entries
    → next ≡ length rows → pairs ≡ 0 → Solves (record { entries = entries; next = next; pairs = pairs }) course → Decides rows course
decided rows entries next pairs course e n p s = Decides.rows_put entries course e
    (subst (λ m. Solves (record { entries = entries; next = length rows; pairs = m }) course) p
    (subst (λ m. Solves (record { entries = entries; next = m; pairs = pairs }) course) n s))

pub stages_end : (log : List LinStep) (stop : Stop) (rows : List Row) (entries : List Entry) (next pairs : ℕ) → put_given 0 rows [] ≡ Ok entries
    → next ≡ length rows → pairs ≡ 0 → Ends log stop (Solves (record { entries = entries; next = next; pairs = pairs })) → Ends log stop (Decides rows)
stages_end log stop rows entries next pairs e n p h =
    ends_so log stop (Solves (record { entries = entries; next = next; pairs = pairs })) (Decides rows) (λ end s. decided rows entries next pairs (Err end) e n p s) h

-- the way back ends the course
pub found : {A : Type 0} (rows : List Row) (log : List LinStep) (course : Course Values) (list : List ℤ) (r : Result A Stop) → Decides rows course
    → MatchResult r (λ u. (values : Values) × (course ≡ Ok values) × HasValues list values) (λ stop. IsEnd log stop course)
    → MatchResult r (λ u. (values : Values) × Decides rows (Ok values) × HasValues list values) (λ stop. Ends log stop (Decides rows))
found rows log course list (Ok u) d h = (h.0, subst (Decides rows) h.1 d, h.2)
found rows log course list (Err stop) d h = ends_so log stop (λ end. course ≡ end) (Decides rows) (λ e same. subst (Decides rows) same d) h

-- the point that is told meets the rows
pub point_evidence : (rows : List Row) (list items point : List ℤ) → All (λ row. IsForm row.form) rows → list ≡ items
    → (values : Values) × Decides rows (Ok values) × HasValues items values → ((values : Values) → HasValues list values → point ≡ listed values 0 (end_of_all rows))
    → MeetsAll (value_at point) rows
point_evidence rows list items point forms e h told =
    subst (λ (p : List ℤ). MeetsAll (value_at p) rows) (sym (told h.0 (subst (λ (l : List ℤ). HasValues l h.0) (sym e) h.2))) (point_meets rows h.0 forms h.1)

-- copies of a gap's rows are its rows
pub gap_evidence : (rows : List Row) (e f : Entry) (row other : Row) → All (λ row. IsForm row.form) rows → Decides rows (Err (gap e f)) → row ≡ e.row → other ≡ f.row → HaveGap row other
gap_evidence rows e f row other forms decides first second =
    subst (λ (r : Row). HaveGap r other) (sym first) (subst (λ (r : Row). HaveGap e.row r) (sym second) (gap_is_wide rows e f forms decides))
