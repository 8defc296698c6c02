-- The elimination of rows takes one course, so that all its outcomes tell of the same.
use Rattle.std.proofs.Common.{◌≡◌, ℕ, ◌<◌, ◌≤◌, List, [], true, false, ◌⊎◌, inl, inr, refl, sym, ◌∙◌, ap, subst, arith, filter}
use Rattle.std.specs.Prelude.{Result, Ok, Err, length}
use Rattle.jesc_linear.specs.declared.rows.Row.{Row}
use Rattle.jesc_linear.specs.declared.outcome.Outcome.{Outcome}
use Rattle.jesc_linear.specs.declared.outcome.Outcome.TheVariants.{Refuted, Point, WideForms, WidePairs, WideNumber, Gap}
use Rattle.jesc_linear.specs.Courses.{Course, Entry, Ending, and_then}
use Rattle.jesc_linear.specs.Courses.Ending.{gap}
use Rattle.jesc_linear.specs.Elimination.{Table, Values, IsNext, occurs, stage, without, give, has_term, Solves, Decides, put_given, Tells, HasOutcome}
use Rattle.jesc_linear.specs.Elimination.Solves.{no_variable, stage_ends, stage_done}
use Rattle.jesc_linear.specs.Elimination.Decides.{rows_end, rows_put}

-- ---- one variable comes next

least_of_both : (a b s t : ℕ) → (a < b) ⊎ ((a ≡ b) × (s ≤ t)) → (b < a) ⊎ ((b ≡ a) × (t ≤ s)) → s ≡ t
least_of_both a b s t (inl h) (inl k) = absurd (omega arith)
least_of_both a b s t (inl h) (inr k) = absurd (omega (arith, k.0))
least_of_both a b s t (inr h) (inl k) = absurd (omega (arith, h.0))
least_of_both a b s t (inr h) (inr k) = omega (arith, h.1, k.1)

pub one_next : (entries : List Entry) (s t : ℕ) → IsNext entries s → IsNext entries t → s ≡ t
one_next entries s t p q = least_of_both _ _ s t (p.fewest t q.there) (q.fewest s p.there)

none_next : (entries : List Entry) (t : ℕ) → ((u : ℕ) → occurs entries u ≡ false) → IsNext entries t → ⊥
none_next entries t none n = let e : true ≡ false = sym n.there ∙ none t in cc

-- ---- one course

both_done : {A B : Type 0} (f : ℕ → Result A B) (s t : ℕ) (a b : A) → s ≡ t → f s ≡ Ok a → f t ≡ Ok b → a ≡ b
both_done f s t a b e p q = cc

both_end : {A B : Type 0} (f : ℕ → Result A B) (s t : ℕ) (a b : B) → s ≡ t → f s ≡ Err a → f t ≡ Err b → a ≡ b
both_end f s t a b e p q = cc

not_both : {A B : Type 0} (f : ℕ → Result A B) (s t : ℕ) (a : A) (b : B) → s ≡ t → f s ≡ Ok a → f t ≡ Err b → ⊥
not_both f s t a b e p q = cc

abbrev on_way_back : ℕ → Table → Course Values → Course Values
on_way_back term after course = and_then course (give term (filter (has_term term) after.entries))

pub one_course : (table : Table) (c d : Course Values) → Solves table c → Solves table d → c ≡ d
one_course table c d (no_variable t none) (no_variable u also) = refl
one_course table c d (no_variable t none) (stage_ends u term ending n s) = absurd (none_next table.entries term none n)
one_course table c d (no_variable t none) (stage_done u after term course whole n s rest e) = absurd (none_next table.entries term none n)
one_course table c d (stage_ends t term ending n s) (no_variable u none) = absurd (none_next table.entries term none n)
one_course table c d (stage_ends t term ending n s) (stage_ends u other end m r) =
    ap (λ (x : Ending). Err x) (both_end (λ x. stage x table) term other ending end (one_next table.entries term other n m) s r)
one_course table c d (stage_ends t term ending n s) (stage_done u after other course whole m r rest e) =
    absurd (not_both (λ x. stage x table) other term after ending (one_next table.entries other term m n) r s)
one_course table c d (stage_done t after term course whole n s rest e) (no_variable u none) = absurd (none_next table.entries term none n)
one_course table c d (stage_done t after term course whole n s rest e) (stage_ends u other ending m r) =
    absurd (not_both (λ x. stage x table) term other after ending (one_next table.entries term other n m) s r)
one_course table c d (stage_done t after term course whole n s rest e) (stage_done u later other course' whole' m r rest' e') =
    let same_term : term ≡ other = one_next table.entries term other n m in
    let same_after : after ≡ later = both_done (λ x. stage x table) term other after later same_term s r in
    let moved : Solves (without term after) course' = subst (λ a. Solves (without term a) course') (sym same_after) (subst (λ x. Solves (without x later) course') (sym same_term) rest') in
    let same : course ≡ course' = one_course (without term after) course course' rest moved in
    e ∙ (ap (on_way_back term after) same ∙ ((λ i. on_way_back (same_term i) (same_after i) course') ∙ sym e'))

-- the rows' elimination takes one course
pub one_ending : (rows : List Row) (c d : Course Values) → Decides rows c → Decides rows d → c ≡ d
one_ending rows c d (rows_end ending s) (rows_end end r) = ap (λ (x : Ending). Err x) (both_end (λ x. put_given x rows []) 0 0 ending end refl s r)
one_ending rows c d (rows_end ending s) (rows_put entries course r solves) = absurd (not_both (λ x. put_given x rows []) 0 0 entries ending refl r s)
one_ending rows c d (rows_put entries course s solves) (rows_end ending r) = absurd (not_both (λ x. put_given x rows []) 0 0 entries ending refl s r)
one_ending rows c d (rows_put entries course s solves) (rows_put others course' r solves') =
    let same : entries ≡ others = both_done (λ x. put_given x rows []) 0 0 entries others refl s r in
    one_course (record { entries = entries; next = length rows; pairs = 0 }) course course' solves
    (subst (λ x. Solves (record { entries = x; next = length rows; pairs = 0 }) course') (sym same) solves')

-- ---- what outcomes tell

-- both are refutations, by these steps or others, or they are equal
abbrev pub AreOne : Outcome → Outcome → Type 0
AreOne (Refuted steps) (Refuted others) = Unit {0}
AreOne outcome other = outcome ≡ other

same_gap : (course : Course Values) (e f g h : Entry) → course ≡ Err (gap e f) → course ≡ Err (gap g h)
    → Gap e.number e.row f.number f.row ≡ Gap g.number g.row h.number h.row
same_gap course e f g h p q =
    let first : e ≡ g = cc in
    let second : f ≡ h = cc in
    λ i. Gap (first i).number (first i).row (second i).number (second i).row

told_one : (rows : List Row) (course : Course Values) (o p : Outcome) → Tells rows course o → Tells rows course p → AreOne o p
told_one rows course (Refuted steps) (Refuted others) h k = tt
told_one rows course (Point point) (Refuted others) h k = cc
told_one rows course (WideForms count) (Refuted others) h k = cc
told_one rows course (WidePairs count) (Refuted others) h k = cc
told_one rows course (WideNumber number) (Refuted others) h k = cc
told_one rows course (Gap i first j second) (Refuted others) h k = cc
told_one rows course (Gap i first j second) (Gap m one n other) h k =
    same_gap course (record { number = i; row = first }) (record { number = j; row = second }) (record { number = m; row = one }) (record { number = n; row = other }) h k
told_one rows course o p h k = cc

-- two outcomes of the same rows differ in the steps of a refutation alone
pub one_outcome : (rows : List Row) (o p : Outcome) → HasOutcome rows o → HasOutcome rows p → AreOne o p
one_outcome rows o p h k =
    let same : h.0 ≡ k.0 = one_ending rows h.0 k.0 h.1 k.1 in
    told_one rows k.0 o p (subst (λ c. Tells rows c o) same h.2) k.2
