-- What a line that is taken says, by its kind.
use Rattle.std.proofs.Common.{◌≡◌, ℕ, ◌<◌, ℤ, pos, List, [], ◌∷◌, ◌++◌, length, All, arith}
use Rattle.std.specs.Prelude.{slice_get}
use Rattle.jesc_linear.specs.declared.rows.Row.{Row}
use Rattle.jesc_linear.specs.declared.rows.LinStep.{LinStep}
use Rattle.jesc_linear.specs.Steps.{DerivesFrom, IsAbsurd}
use Rattle.jesc_cert.specs.declared.cert.CertLine.{CertLine}
use Rattle.jesc_cert.specs.declared.cert.CertKind.TheVariants.{T, R, Q}
use Rattle.jesc_clauses.specs.declared.atom.Atom.{Atom}
use Rattle.jesc_clauses.specs.declared.clause.Clauses.{Clauses}
use Rattle.jesc_clauses.specs.Comparisons.{IsNarrowAtom}
use Rattle.jesc_clauses.specs.Normals.{IsNormal}
use Rattle.jesc_accept.specs.Lemmas.{sum_numbers, IsThere, AreRowsOf}
use Rattle.jesc_accept.specs.Moves.{State, AreRowNumbers, Moves, atom, congruence, linear, step, last, split, clause, lemma}

pub record IsAtomLine (cl : Clauses) (line : CertLine) : Type 0 where
  pub a : Atom
  pub are : line.numbers ≡ sum_numbers a.bound a.form
  pub normal : IsNormal a.form
  pub narrow : IsNarrowAtom a
  pub there : All (IsThere (length cl.terms)) a.form

pub atom_line : (cl : Clauses) (s : State) (line : CertLine) (t : State) → Moves cl s line t → line.kind ≡ T → IsAtomLine cl line
atom_line cl s line t (atom s1 line1 a due tree kind n nf na th) e = record { a = a; are = n; normal = nf; narrow = na; there = th }
atom_line cl s line t (congruence s1 line1 i j truths due tree kind n x) e = absurd cc
atom_line cl s line t (linear s1 line1 ls rows steps due tree kind n x y) e = absurd cc
atom_line cl s line t (step s1 line1 steps l due kind n x y z) e = absurd cc
atom_line cl s line t (last s1 line1 l due kind n x y z w) e = absurd cc
atom_line cl s line t (split s1 line1 a b rest due kind n x y) e = absurd cc
atom_line cl s line t (clause s1 line1 k b rest ls due kind n x y z) e = absurd cc
atom_line cl s line t (lemma s1 line1 k b rest ls due kind n x y z) e = absurd cc

pub record IsLinearLine (cl : Clauses) (s : State) (line : CertLine) : Type 0 where
  pub literals : List ℤ
  pub rows : List Row
  pub steps : ℕ
  pub are : line.numbers ≡ pos (length literals) ∷ (literals ++ pos steps ∷ [])
  pub some : 0 < steps
  pub rows_are : AreRowsOf s.atoms literals rows

pub linear_line : (cl : Clauses) (s : State) (line : CertLine) (t : State) → Moves cl s line t → line.kind ≡ R → IsLinearLine cl s line
linear_line cl s line t (atom s1 line1 a due tree kind n nf na th) e = absurd cc
linear_line cl s line t (congruence s1 line1 i j truths due tree kind n x) e = absurd cc
linear_line cl s line t (linear s1 line1 ls rows steps due tree kind n x y) e = record { literals = ls; rows = rows; steps = steps; are = n; some = x; rows_are = y }
linear_line cl s line t (step s1 line1 steps l due kind n x y z) e = absurd cc
linear_line cl s line t (last s1 line1 l due kind n x y z w) e = absurd cc
linear_line cl s line t (split s1 line1 a b rest due kind n x y) e = absurd cc
linear_line cl s line t (clause s1 line1 k b rest ls due kind n x y z) e = absurd cc
linear_line cl s line t (lemma s1 line1 k b rest ls due kind n x y z) e = absurd cc

pub record IsStepLine (cl : Clauses) (s : State) (line : CertLine) : Type 0 where
  pub l : LinStep
  pub are : line.numbers ≡ l.a ∷ pos l.i ∷ l.b ∷ pos l.j ∷ l.d ∷ sum_numbers l.row.bound l.row.form
  pub numbers : AreRowNumbers l
  pub there : All (IsThere (length cl.terms)) l.row.form
  pub derives : DerivesFrom (slice_get s.rows l.i) (slice_get s.rows l.j) l
  pub absurd_last : s.due ≡ 1 → IsAbsurd l

pub step_line : (cl : Clauses) (s : State) (line : CertLine) (t : State) → Moves cl s line t → line.kind ≡ Q → IsStepLine cl s line
step_line cl s line t (atom s1 line1 a due tree kind n nf na th) e = absurd cc
step_line cl s line t (congruence s1 line1 i j truths due tree kind n x) e = absurd cc
step_line cl s line t (linear s1 line1 ls rows steps due tree kind n x y) e = absurd cc
step_line cl s line t (step s1 line1 steps l due kind n x y z) e = record { l = l; are = n; numbers = x; there = y; derives = z; absurd_last = λ one. absurd (omega (arith, due, one)) }
step_line cl s line t (last s1 line1 l due kind n x y z w) e = record { l = l; are = n; numbers = x; there = y; derives = z; absurd_last = λ one. w }
step_line cl s line t (split s1 line1 a b rest due kind n x y) e = absurd cc
step_line cl s line t (clause s1 line1 k b rest ls due kind n x y z) e = absurd cc
step_line cl s line t (lemma s1 line1 k b rest ls due kind n x y z) e = absurd cc
