-- When lines of atoms, lemmas of arithmetic and steps are taken.
use Rattle.std.proofs.Common.{◌≡◌, ℕ, suc, ◌<◌, ◌≤◌, ◌^◌, ℤ, pos, negsuc, List, [], ◌∷◌, ◌++◌, length, refl, sym, ap, ◌∙◌, subst, arith, All, Some, None, true, false}
use Rattle.std.specs.Prelude.{unsigned_abs, slice_get, Option, ◌≤ℤ◌}
use Rattle.std.proofs.lemmas.Int.{ints}
use Rattle.std.proofs.lemmas.List.{append-nil}
use Rattle.jesc_linear.specs.declared.rows.Row.{Row}
use Rattle.jesc_linear.specs.declared.rows.LinStep.{LinStep}
use Rattle.jesc_linear.specs.Forms.{Form}
use Rattle.jesc_linear.specs.Steps.{DerivesFrom, IsAbsurd, IsNarrow}
use Rattle.jesc_cert.specs.declared.cert.CertKind.TheVariants.{T, R, Q}
use Rattle.jesc_clauses.specs.declared.atom.Atom.{Atom}
use Rattle.jesc_clauses.specs.Normals.{IsNormal}
use Rattle.jesc_accept.specs.declared.tables.Tables.{Tables}
use Rattle.jesc_accept.specs.Lemmas.{flat, sum_numbers, AreRowsOf, negations}
use Rattle.jesc_accept.specs.Moves.{Moves, atom, linear, step, last}
use Rattle.jesc_accept.specs.Rows.{IsStepOf, AreNoStep, HaveRows, HaveNoRows}
use Rattle.jesc_accept.specs.States.{Takes, AreNoSum, IsSumOf, atoms_of, line_of, state_of}
use Rattle.jesc_accept.proofs.Inverting.{atom_line, linear_line, step_line}

-- ---- the numbers tell the bound and the form

flat_same : (f g : Form) → flat f ≡ flat g → f ≡ g
flat_same [] [] e = refl
flat_same [] (y ∷ g) e = cc
flat_same (x ∷ f) [] e = cc
flat_same (x ∷ f) (y ∷ g) e =
    let rest : f ≡ g = flat_same f g cc in
    let first : x.0 ≡ y.0 = cc in
    let second : x.1 ≡ y.1 = cc in
    λ i. (first i, second i) ∷ rest i

pub same_form : (b c : ℤ) (f g : Form) → sum_numbers b f ≡ sum_numbers c g → f ≡ g
same_form b c f g e = flat_same f g cc

pub same_bound : (b c : ℤ) (f g : Form) → sum_numbers b f ≡ sum_numbers c g → b ≡ c
same_bound b c f g e = cc

-- ---- atoms

pub no_atom : (old new : Tables) (ns : List ℤ) → AreNoSum (length old.clauses.now.terms) ns → Takes old (line_of T ns) new false
no_atom old new ns none s tree m =
    let r = atom_line old.clauses.now (state_of old) (line_of T ns) s m refl in
    none r.a.bound r.a.form r.narrow.within r.there r.are

pub not_normal : (old new : Tables) (ns : List ℤ) (row : Row) → IsSumOf (length old.clauses.now.terms) ns row → (IsNormal row.form × (unsigned_abs row.bound ≤ 2 ^ 94) → ⊥) → Takes old (line_of T ns) new false
not_normal old new ns row is wrong s tree m =
    let r = atom_line old.clauses.now (state_of old) (line_of T ns) s m refl in
    let e : sum_numbers r.a.bound r.a.form ≡ sum_numbers row.bound row.form = sym r.are ∙ is.are in
    wrong (subst IsNormal (same_form _ _ _ _ e) r.normal, subst (λ (b : ℤ). unsigned_abs b ≤ 2 ^ 94) (same_bound _ _ _ _ e) r.narrow.small)

pub takes_atom : (old new : Tables) (ns : List ℤ) (row : Row) (atoms : List Atom) → old.due ≡ 0 → atoms ≡ old.atoms ++ record { form = row.form; bound = row.bound } ∷ []
    → new ≡ record { clauses = old.clauses; atoms = atoms; lemmas = old.lemmas; rows = []; negated = []; due = 0 }
    → IsSumOf (length old.clauses.now.terms) ns row → IsNormal row.form × (unsigned_abs row.bound ≤ 2 ^ 94) → Takes old (line_of T ns) new true
takes_atom old new ns row atoms due pushed made is normal =
    let a : Atom = record { form = row.form; bound = row.bound } in
    subst (λ (n : Tables). Takes old (line_of T ns) n true) (sym made)
    (refl, subst (λ (all : List Atom). Moves old.clauses.now (state_of old) (line_of T ns) (record { atoms = all; lemmas = old.lemmas; rows = []; negated = []; due = 0; in_tree = false; ends = [] })) (sym pushed) (atom (state_of old) (line_of T ns) a due refl refl is.are normal.0 (record { within = is.narrow; small = normal.1 }) is.there))

-- ---- steps

made_narrow : (f g : Option Row) (l : LinStep) → DerivesFrom f g l → All IsNarrow l.row.form
made_narrow (Some f) (Some g) l h = h.made_row.narrow
made_narrow (Some f) None l h = absurd h
made_narrow None g l h = absurd h

pub no_step : (old new : Tables) (ns : List ℤ) → AreNoStep (length old.clauses.now.terms) ns → Takes old (line_of Q ns) new false
no_step old new ns none s tree m =
    let r = step_line old.clauses.now (state_of old) (line_of Q ns) s m refl in
    none r.l (record { are = r.are; first = r.numbers.0; second = r.numbers.1; narrow = made_narrow _ _ r.l r.derives; there = r.there })

-- the numbers tell the step
pub same_step : (l m : LinStep) → l.a ∷ pos l.i ∷ l.b ∷ pos l.j ∷ l.d ∷ sum_numbers l.row.bound l.row.form ≡ m.a ∷ pos m.i ∷ m.b ∷ pos m.j ∷ m.d ∷ sum_numbers m.row.bound m.row.form → l ≡ m
same_step l m e =
    let rest : sum_numbers l.row.bound l.row.form ≡ sum_numbers m.row.bound m.row.form = cc in
    let form : l.row.form ≡ m.row.form = same_form _ _ _ _ rest in
    let bound : l.row.bound ≡ m.row.bound = same_bound _ _ _ _ rest in
    let a : l.a ≡ m.a = cc in
    let i : l.i ≡ m.i = cc in
    let b : l.b ≡ m.b = cc in
    let j : l.j ≡ m.j = cc in
    let d : l.d ≡ m.d = cc in
    λ t. record { a = a t; i = i t; b = b t; j = j t; d = d t; row = record { form = form t; bound = bound t } }

-- no steps stand before it
pub from_rows : (rows all : List Row) (l : LinStep) → all ≡ rows → DerivesFrom (slice_get (all ++ []) l.i) (slice_get (all ++ []) l.j) l → DerivesFrom (slice_get rows l.i) (slice_get rows l.j) l
from_rows rows all l e h = subst (λ (rs : List Row). DerivesFrom (slice_get rs l.i) (slice_get rs l.j) l) (append-nil all ∙ e) h

pub over_rows : (rows all : List Row) (l : LinStep) → all ≡ rows → DerivesFrom (slice_get rows l.i) (slice_get rows l.j) l → DerivesFrom (slice_get (all ++ []) l.i) (slice_get (all ++ []) l.j) l
over_rows rows all l e h = subst (λ (rs : List Row). DerivesFrom (slice_get rs l.i) (slice_get rs l.j) l) (sym (append-nil all ∙ e)) h

pub wrong_step : (old new : Tables) (ns : List ℤ) (l : LinStep) → IsStepOf (length old.clauses.now.terms) ns l
    → (DerivesFrom (slice_get old.rows l.i) (slice_get old.rows l.j) l → (old.due ≡ 1 → IsAbsurd l) → ⊥) → Takes old (line_of Q ns) new false
wrong_step old new ns l is wrong s tree m =
    let r = step_line old.clauses.now (state_of old) (line_of Q ns) s m refl in
    let e : r.l ≡ l = same_step r.l l (sym r.are ∙ is.are) in
    wrong (subst (λ (k : LinStep). DerivesFrom (slice_get old.rows k.i) (slice_get old.rows k.j) k) e r.derives) (λ one. subst IsAbsurd e (r.absurd_last one))

-- the tables with these rows of the open lemma, and so many steps due
abbrev pub stepped : Tables → List Row → ℕ → Tables
stepped t rows due = record { clauses = t.clauses; atoms = t.atoms; lemmas = t.lemmas; rows = rows; negated = t.negated; due = due }

pub takes_step : (old : Tables) (ns : List ℤ) (l : LinStep) (rows : List Row) (n m : ℕ) → IsStepOf (length old.clauses.now.terms) ns l → DerivesFrom (slice_get old.rows l.i) (slice_get old.rows l.j) l
    → old.due ≡ suc (suc n) → m ≡ suc n → rows ≡ old.rows ++ l.row ∷ [] → Takes old (line_of Q ns) (stepped old rows m) true
takes_step old ns l rows n m is derives due less pushed =
    subst (λ (k : ℕ). Takes old (line_of Q ns) (stepped old rows k) true) (sym less)
    (refl, subst (λ (rs : List Row). Moves old.clauses.now (state_of old) (line_of Q ns) (record { atoms = atoms_of old; lemmas = old.lemmas; rows = rs; negated = old.negated; due = suc n; in_tree = false; ends = [] })) (sym pushed) (step (state_of old) (line_of Q ns) n l due refl is.are (is.first, is.second) is.there derives))

pub takes_last : (old new : Tables) (ns : List ℤ) (l : LinStep) (lemmas : List (Option (List ℤ))) → IsStepOf (length old.clauses.now.terms) ns l → DerivesFrom (slice_get old.rows l.i) (slice_get old.rows l.j) l
    → IsAbsurd l → old.due ≡ 1 → lemmas ≡ old.lemmas ++ Some old.negated ∷ [] → new ≡ record { clauses = old.clauses; atoms = old.atoms; lemmas = lemmas; rows = []; negated = []; due = 0 } → Takes old (line_of Q ns) new true
takes_last old new ns l lemmas is derives ends due pushed made =
    subst (λ (t : Tables). Takes old (line_of Q ns) t true) (sym made)
    (refl, subst (λ (ls : List (Option (List ℤ))). Moves old.clauses.now (state_of old) (line_of Q ns) (record { atoms = atoms_of old; lemmas = ls; rows = []; negated = []; due = 0; in_tree = false; ends = [] })) (sym pushed) (last (state_of old) (line_of Q ns) l due refl is.are (is.first, is.second) is.there derives ends))

-- ---- lemmas of arithmetic

-- a list tells its last item and those before it
pub snoc_same : {X : Type 0} (xs ys : List X) (x y : X) → xs ++ x ∷ [] ≡ ys ++ y ∷ [] → (xs ≡ ys) × (x ≡ y)
snoc_same [] [] x y e = (refl, cc)
snoc_same [] (b ∷ []) x y e = absurd cc
snoc_same [] (b ∷ c ∷ ys) x y e = absurd cc
snoc_same (a ∷ []) [] x y e = absurd cc
snoc_same (a ∷ c ∷ xs) [] x y e = absurd cc
snoc_same (a ∷ xs) (b ∷ ys) x y e =
    let r = snoc_same xs ys x y cc in
    let first : a ≡ b = cc in
    (λ i. first i ∷ r.0 i, r.1)

pub no_lemma : (old new : Tables) (ns : List ℤ) (count due : ℤ) (ls : List ℤ) → ns ≡ count ∷ (ls ++ due ∷ [])
    → ((steps : ℕ) → count ≡ pos (length ls) → due ≡ pos steps → 0 < steps → HaveNoRows (atoms_of old) ls) → Takes old (line_of R ns) new false
no_lemma old new ns count due ls n none s tree m =
    let r = linear_line old.clauses.now (state_of old) (line_of R ns) s m refl in
    let e : pos (length r.literals) ∷ (r.literals ++ pos r.steps ∷ []) ≡ count ∷ (ls ++ due ∷ []) = sym r.are ∙ n in
    let both = snoc_same r.literals ls (pos r.steps) due cc in
    let counts : count ≡ pos (length ls) = (let h : pos (length r.literals) ≡ count = cc in sym h ∙ ap (λ (xs : List ℤ). pos (length xs)) both.0) in
    none r.steps counts (sym both.1) r.some r.rows (subst (λ (xs : List ℤ). AreRowsOf (atoms_of old) xs r.rows) both.0 r.rows_are)

length_snoc : (xs : List ℤ) (x : ℤ) → length (xs ++ x ∷ []) ≡ suc (length xs)
length_snoc [] x = refl
length_snoc (y ∷ xs) x = ap suc (length_snoc xs x)

pub too_short : (old new : Tables) (ns : List ℤ) → length ns < 2 → Takes old (line_of R ns) new false
too_short old new ns h s tree m =
    let r = linear_line old.clauses.now (state_of old) (line_of R ns) s m refl in
    let n : length ns ≡ suc (length (r.literals ++ pos r.steps ∷ [])) = ap length r.are in
    let e = length_snoc r.literals (pos r.steps) in
    omega arith

pub takes_lemma : (old new : Tables) (ns : List ℤ) (ls : List ℤ) (rows : List Row) (negated : List ℤ) (steps : ℕ) → ns ≡ pos (length ls) ∷ (ls ++ pos steps ∷ []) → old.due ≡ 0 → 0 < steps
    → HaveRows (atoms_of old) ls rows → negated ≡ negations ls → new ≡ record { clauses = old.clauses; atoms = old.atoms; lemmas = old.lemmas; rows = rows; negated = negated; due = steps } → Takes old (line_of R ns) new true
takes_lemma old new ns ls rows negated steps n due some have are made =
    subst (λ (t : Tables). Takes old (line_of R ns) t true) (sym made)
    (refl, subst (λ (ks : List ℤ). Moves old.clauses.now (state_of old) (line_of R ns) (record { atoms = atoms_of old; lemmas = old.lemmas; rows = rows; negated = ks; due = steps; in_tree = false; ends = [] })) (sym are) (linear (state_of old) (line_of R ns) ls rows steps due refl refl n some have.are))

pub is_line : (ns ls : List ℤ) (count due : ℤ) (steps : ℕ) → ns ≡ count ∷ (ls ++ due ∷ []) → count ≡ pos (length ls) → due ≡ pos steps → ns ≡ pos (length ls) ∷ (ls ++ pos steps ∷ [])
is_line ns ls count due steps n e f = n ∙ ap (λ (z : ℤ). z ∷ (ls ++ due ∷ [])) e ∙ ap (λ (z : ℤ). pos (length ls) ∷ (ls ++ z ∷ [])) f

-- the number of steps that are due
pub due_is : (z y : ℤ) → y ≡ z → pos 1 ≤ℤ z → z ≡ pos (unsigned_abs y)
due_is (pos n) y e h = ap (λ (x : ℤ). pos (unsigned_abs x)) (sym e)
due_is (negsuc n) y e h = absurd (omega (arith, ints))

pub due_some : (z y : ℤ) → y ≡ z → pos 1 ≤ℤ z → 0 < unsigned_abs y
due_some (pos n) y e h = subst (λ (x : ℤ). 0 < unsigned_abs x) (sym e) (omega (arith, ints))
due_some (negsuc n) y e h = absurd (omega (arith, ints))
