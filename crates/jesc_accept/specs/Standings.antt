-- How far the lines of a certificate were taken. Words that only contracts inside the crate use.
use Rattle.std.specs.Prelude.{◌≡◌, ℕ, ◌<◌, ◌≤◌, List, [], length, take, Some, slice_get}
use Rattle.jesc_cert.specs.declared.cert.CertLine.{CertLine}
use Rattle.jesc_cert.specs.declared.cert.CertKind.{CertKind}
use Rattle.jesc_cert.specs.declared.cert.CertKind.TheVariants.{T, G, R, Q, S, C, M}
use Rattle.jesc_accept.specs.declared.judge.Front.{Front}
use Rattle.jesc_accept.specs.declared.judge.Front.TheVariants.{Ends, Bad}
use Rattle.jesc_accept.specs.declared.tables.Tables.{Tables}
use Rattle.jesc_accept.specs.declared.tree.Tree.{Tree}
use Rattle.jesc_accept.specs.Moves.{State, Moves, MovesOn, start}
use Rattle.jesc_accept.specs.States.{state_of, tree_state, branches_of}
use Rattle.jesc_accept.specs.Verdicts.{IsClosed}

-- a line of the tree
abbrev pub IsOfTree : CertKind → Type 0
IsOfTree S = Unit {0}
IsOfTree C = Unit {0}
IsOfTree M = Unit {0}
IsOfTree T = ⊥
IsOfTree G = ⊥
IsOfTree R = ⊥
IsOfTree Q = ⊥

-- the first n lines are taken by the tables, and the next is one of the tree
pub record IsFront (old : Tables) (lines : List CertLine) (n : ℕ) (new : Tables) : Type 0 where
  pub same : new.clauses ≡ old.clauses
  pub within : n ≤ length lines
  pub moves : MovesOn old.clauses.now (state_of old) (take n lines) (state_of new)
  pub next : (line : CertLine) → slice_get lines n ≡ Some line → IsOfTree line.kind

-- the first n lines are taken, and the next isn't one that fits
pub record IsBadFront (old : Tables) (lines : List CertLine) (n : ℕ) : Type 0 where
  pub within : n < length lines
  pub state : State
  pub moves : MovesOn old.clauses.now (state_of old) (take n lines) state
  pub bad : (line : CertLine) → slice_get lines n ≡ Some line → (t : State) → Moves old.clauses.now state line t → ⊥

abbrev pub EndsFront : Tables → List CertLine → Tables → Front → Type 0
EndsFront old lines new (Ends n) = IsFront old lines n new
EndsFront old lines new (Bad n) = IsBadFront old lines n

-- the first n lines are taken, and make a state that goes on as the tables with the tree do
pub record Stands (lines : List CertLine) (n : ℕ) (tables : Tables) (tree : Tree) : Type 0 where
  pub within : n ≤ length lines
  pub state : State
  pub moves : MovesOn tables.clauses.now (start tables.clauses.now) (take n lines) state
  pub back : (line : CertLine) (t : State) → Moves tables.clauses.now (tree_state tables tree) line t → Moves tables.clauses.now state line t
  pub forth : (line : CertLine) → slice_get lines n ≡ Some line → (t : State) → Moves tables.clauses.now state line t → Moves tables.clauses.now (tree_state tables tree) line t
  pub closed : IsClosed state → branches_of tree ≡ []
  pub closes : branches_of tree ≡ [] → IsClosed state
