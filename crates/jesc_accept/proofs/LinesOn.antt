-- How far the lines of a certificate were taken, line by line.
use Rattle.std.proofs.Common.{inl, inr, ◌≡◌, ℕ, ◌+◌, ◌<◌, ◌≤◌, true, false, List, [], ◌∷◌, ◌++◌, length, take, get_or, Some, slice_get, refl, sym, ap, ◌∙◌, subst, arith, add-one}
use Rattle.std.proofs.Math.Seq.{take-suc}
use Rattle.std.proofs.lemmas.Option.{slice_get-get_or, slice_get_within, slice_get_cases}
use Rattle.std.proofs.lemmas.List.{take_all}
use Rattle.jesc_cert.specs.declared.cert.CertLine.{CertLine}
use Rattle.jesc_clauses.specs.declared.clause.Clauses.{Clauses}
use Rattle.jesc_accept.specs.declared.tables.Tables.{Tables}
use Rattle.jesc_accept.specs.declared.tree.Tree.{Tree}
use Rattle.jesc_accept.specs.Branches.{root}
use Rattle.jesc_accept.specs.Moves.{State, start, branches, Moves, MovesOn, atom, congruence, linear, step, last, split, clause, lemma, more}
use Rattle.jesc_accept.specs.States.{Takes, TakesLeaf, atoms_of, state_of, tree_state, branches_of}
use Rattle.jesc_accept.specs.Standings.{IsOfTree, IsFront, IsBadFront, Stands}
use Rattle.jesc_accept.specs.Verdicts.{IsAccepted, IsFirstBad}

-- one line more is taken
moves_more : (clauses : Clauses) (lines : List CertLine) (n : ℕ) (d : CertLine) (s t u : State) → n < length lines → MovesOn clauses s (take n lines) t → Moves clauses t (get_or lines n d) u → MovesOn clauses s (take (n + 1) lines) u
moves_more clauses lines n d s t u within on move =
    let longer : take (n + 1) lines ≡ take n lines ++ get_or lines n d ∷ [] = rw add-one (take-suc lines n d within) in
    subst (λ ls. MovesOn clauses s ls u) (sym longer) (more s t u (take n lines) (get_or lines n d) on move)

-- ---- lines of atoms and lemmas

-- a line that fits
pub front_more : (old tables new : Tables) (lines : List CertLine) (n : ℕ) (d : CertLine) → tables.clauses ≡ old.clauses → n < length lines → MovesOn old.clauses.now (state_of old) (take n lines) (state_of tables)
    → Takes tables (get_or lines n d) new true → MovesOn old.clauses.now (state_of old) (take (n + 1) lines) (state_of new)
front_more old tables new lines n d same within on takes =
    moves_more old.clauses.now lines n d (state_of old) (state_of tables) (state_of new) within on
    (subst (λ c. Moves c.now (state_of tables) (get_or lines n d) (state_of new)) same takes.1)

-- no line of the tree is one of an atom or a lemma
tree_line : (clauses : Clauses) (s : State) (line : CertLine) (t : State) → IsOfTree line.kind → Moves clauses s line t → t.in_tree ≡ false → ⊥
tree_line clauses s line t k (atom _ _ _ _ _ e _ _ _ _) f = subst IsOfTree e k
tree_line clauses s line t k (congruence _ _ _ _ _ _ _ e _ _) f = subst IsOfTree e k
tree_line clauses s line t k (linear _ _ _ _ _ _ _ e _ _ _) f = subst IsOfTree e k
tree_line clauses s line t k (step _ _ _ _ _ e _ _ _ _) f = subst IsOfTree e k
tree_line clauses s line t k (last _ _ _ _ e _ _ _ _ _) f = subst IsOfTree e k
tree_line clauses s line t k (split _ _ _ _ _ _ _ _ _ _) f = cc
tree_line clauses s line t k (clause _ _ _ _ _ _ _ _ _ _ _ _) f = cc
tree_line clauses s line t k (lemma _ _ _ _ _ _ _ _ _ _ _ _) f = cc

-- a line that is no line of the tree leads to no tree
flat_line : (clauses : Clauses) (s : State) (line : CertLine) (t : State) → (IsOfTree line.kind → ⊥) → Moves clauses s line t → t.in_tree ≡ false
flat_line clauses s line t k (atom _ _ _ _ _ _ _ _ _ _) = refl
flat_line clauses s line t k (congruence _ _ _ _ _ _ _ _ _ _) = refl
flat_line clauses s line t k (linear _ _ _ _ _ _ _ _ _ _ _) = refl
flat_line clauses s line t k (step _ _ _ _ _ _ _ _ _ _) = refl
flat_line clauses s line t k (last _ _ _ _ _ _ _ _ _ _) = refl
flat_line clauses s line t k (split _ _ _ _ _ _ e _ _ _) = absurd (k (subst IsOfTree (sym e) tt))
flat_line clauses s line t k (clause _ _ _ _ _ _ _ e _ _ _ _) = absurd (k (subst IsOfTree (sym e) tt))
flat_line clauses s line t k (lemma _ _ _ _ _ _ _ e _ _ _ _) = absurd (k (subst IsOfTree (sym e) tt))

-- the line at a place is the one that is read there
read_line : (lines : List CertLine) (n : ℕ) (d line : CertLine) → n < length lines → slice_get lines n ≡ Some line → line ≡ get_or lines n d
read_line lines n d line within at = let e = slice_get-get_or lines n d within in cc

-- a line of the tree
pub front_tree : (old tables : Tables) (lines : List CertLine) (n : ℕ) (d : CertLine) → tables.clauses ≡ old.clauses → n < length lines → MovesOn old.clauses.now (state_of old) (take n lines) (state_of tables)
    → IsOfTree (get_or lines n d).kind → IsFront old lines n tables
front_tree old tables lines n d same within on kind = record {
  same = same;
  within = omega (arith, within);
  moves = on;
  next = λ line at. subst (λ (l : CertLine). IsOfTree l.kind) (sym (read_line lines n d line within at)) kind;
}

-- a line that doesn't fit
pub front_bad : (old tables new : Tables) (lines : List CertLine) (n : ℕ) (d : CertLine) → tables.clauses ≡ old.clauses → n < length lines → MovesOn old.clauses.now (state_of old) (take n lines) (state_of tables)
    → (IsOfTree (get_or lines n d).kind → ⊥) → Takes tables (get_or lines n d) new false → IsBadFront old lines n
front_bad old tables new lines n d same within on kind takes = record {
  within = within;
  state = state_of tables;
  moves = on;
  bad = λ line at t move.
      let here = subst (λ l. Moves tables.clauses.now (state_of tables) l t) (read_line lines n d line within at) (subst (λ c. Moves c.now (state_of tables) line t) (sym same) move) in
      takes t (flat_line tables.clauses.now (state_of tables) (get_or lines n d) t kind here) here;
}

-- all lines are taken
pub front_all : (old tables : Tables) (lines : List CertLine) (n : ℕ) → tables.clauses ≡ old.clauses → n ≡ length lines → MovesOn old.clauses.now (state_of old) (take n lines) (state_of tables)
    → IsFront old lines n tables
front_all old tables lines n same whole on = record {
  same = same;
  within = omega (arith, whole);
  moves = on;
  next = λ line at. absurd (let l = slice_get_within lines n line at in omega (arith, l, whole));
}

-- ---- where the tree begins

-- a state without steps that are due goes on by lines of the tree as another with the same branches does
same_moves : (clauses : Clauses) (old new : State) (line : CertLine) (t : State) → new.due ≡ 0 → branches old ≡ branches new → old.lemmas ≡ new.lemmas → old.atoms ≡ new.atoms
    → ((u : State) → u.in_tree ≡ false → Moves clauses old line u → ⊥) → Moves clauses old line t → Moves clauses new line t
same_moves clauses old new line t d b l a flat (atom _ _ at e0 e1 e2 e3 e4 e5 e6) = absurd (flat _ refl (atom _ _ at e0 e1 e2 e3 e4 e5 e6))
same_moves clauses old new line t d b l a flat (congruence _ _ i j truths e0 e1 e2 e3 e4) = absurd (flat _ refl (congruence _ _ i j truths e0 e1 e2 e3 e4))
same_moves clauses old new line t d b l a flat (linear _ _ literals rows steps e0 e1 e2 e3 e4 e5) = absurd (flat _ refl (linear _ _ literals rows steps e0 e1 e2 e3 e4 e5))
same_moves clauses old new line t d b l a flat (step _ _ steps s e0 e1 e2 e3 e4 e5) = absurd (flat _ refl (step _ _ steps s e0 e1 e2 e3 e4 e5))
same_moves clauses old new line t d b l a flat (last _ _ s e0 e1 e2 e3 e4 e5 e6) = absurd (flat _ refl (last _ _ s e0 e1 e2 e3 e4 e5 e6))
same_moves clauses old new line t d b l a flat (split _ _ k branch rest e0 e1 e2 e3 e4) =
    rw (l, a) (split new line k branch rest d e1 e2 (sym b ∙ e3) e4)
same_moves clauses old new line t d b l a flat (clause _ _ k branch rest literals e0 e1 e2 e3 e4 e5) =
    rw (l, a) (clause new line k branch rest literals d e1 e2 (sym b ∙ e3) e4 e5)
same_moves clauses old new line t d b l a flat (lemma _ _ k branch rest literals e0 e1 e2 e3 e4 e5) =
    rw (l, a) (lemma new line k branch rest literals d e1 e2 (sym b ∙ e3) (ap (λ x. slice_get x k) (sym l) ∙ e4) e5)

-- in the tree no line of an atom or a lemma fits
not_flat : (clauses : Clauses) (s : State) (line : CertLine) (t : State) → s.due ≡ 0 → s.in_tree ≡ true → t.in_tree ≡ false → Moves clauses s line t → ⊥
not_flat clauses s line t d i f (atom _ _ _ _ e _ _ _ _ _) = cc
not_flat clauses s line t d i f (congruence _ _ _ _ _ _ e _ _ _) = cc
not_flat clauses s line t d i f (linear _ _ _ _ _ _ e _ _ _ _) = cc
not_flat clauses s line t d i f (step _ _ _ _ e _ _ _ _ _) = omega (arith, d, e)
not_flat clauses s line t d i f (last _ _ _ e _ _ _ _ _ _) = omega (arith, d, e)
not_flat clauses s line t d i f (split _ _ _ _ _ _ _ _ _ _) = cc
not_flat clauses s line t d i f (clause _ _ _ _ _ _ _ _ _ _ _ _) = cc
not_flat clauses s line t d i f (lemma _ _ _ _ _ _ _ _ _ _ _ _) = cc

-- where steps are due no line of the tree fits
not_due : (clauses : Clauses) (s : State) (line : CertLine) (t : State) → 0 < s.due → ((u : State) → u.in_tree ≡ false → Moves clauses s line u → ⊥) → Moves clauses s line t → ⊥
not_due clauses s line t d flat (atom _ _ at e0 e1 e2 e3 e4 e5 e6) = omega (arith, d, e0)
not_due clauses s line t d flat (congruence _ _ i j truths e0 e1 e2 e3 e4) = omega (arith, d, e0)
not_due clauses s line t d flat (linear _ _ literals rows steps e0 e1 e2 e3 e4 e5) = omega (arith, d, e0)
not_due clauses s line t d flat (step _ _ steps l e0 e1 e2 e3 e4 e5) = flat _ refl (step _ _ steps l e0 e1 e2 e3 e4 e5)
not_due clauses s line t d flat (last _ _ l e0 e1 e2 e3 e4 e5 e6) = flat _ refl (last _ _ l e0 e1 e2 e3 e4 e5 e6)
not_due clauses s line t d flat (split _ _ _ _ _ e _ _ _ _) = omega (arith, d, e)
not_due clauses s line t d flat (clause _ _ _ _ _ _ e _ _ _ _ _) = omega (arith, d, e)
not_due clauses s line t d flat (lemma _ _ _ _ _ _ e _ _ _ _ _) = omega (arith, d, e)

-- the lines in front are taken from the start
from_start : (clauses : Clauses) (old new : Tables) (lines : List CertLine) (n : ℕ) → state_of old ≡ start clauses → old.clauses.now ≡ clauses → IsFront old lines n new → MovesOn clauses (start clauses) (take n lines) (state_of new)
from_start clauses old new lines n begun same e =
    subst (λ s. MovesOn clauses s (take n lines) (state_of new)) begun (subst (λ c. MovesOn c (state_of old) (take n lines) (state_of new)) same e.moves)

-- no line in front is one of an atom or a lemma that fits, where the lines in front end
no_front : (clauses : Clauses) (old new : Tables) (lines : List CertLine) (n : ℕ) → IsFront old lines n new
    → (line : CertLine) → slice_get lines n ≡ Some line → (t : State) → t.in_tree ≡ false → Moves clauses (state_of new) line t → ⊥
no_front clauses old new lines n e line at t flat move = tree_line clauses (state_of new) line t (e.next line at) move flat

-- a line is there, where not all are taken
pub at_line : (lines : List CertLine) (n : ℕ) → n ≤ length lines → (length lines ≡ n → ⊥) → (line : CertLine) × (slice_get lines n ≡ Some line)
at_line lines n l d = elim (slice_get_cases lines n).1 [ inl w ↦ (w.0, w.2) | inr w ↦ absurd (d (omega (arith, l, w.0))) ]

-- the line at the end of those in front doesn't fit
pub first_is_bad : (clauses : Clauses) (old : Tables) (lines : List CertLine) (n : ℕ) → state_of old ≡ start clauses → old.clauses.now ≡ clauses → IsBadFront old lines n → IsFirstBad clauses lines n
first_is_bad clauses old lines n begun same e = record {
  state = e.state;
  moves = subst (λ s. MovesOn clauses s (take n lines) e.state) begun (subst (λ c. MovesOn c (state_of old) (take n lines) e.state) same e.moves);
  bad = λ line at t move. e.bad line at t (subst (λ c. Moves c e.state line t) (sym same) move);
  unfinished = λ whole closed. let l = e.within in omega (arith, l, whole);
  within = at_line lines n (let l = e.within in omega (arith, l));
}

-- steps are due where the lines in front end
pub due_bad : (clauses : Clauses) (old new : Tables) (lines : List CertLine) (n : ℕ) → state_of old ≡ start clauses → old.clauses.now ≡ clauses → IsFront old lines n new → 0 < new.due → IsFirstBad clauses lines n
due_bad clauses old new lines n begun same e due = record {
  state = state_of new;
  moves = from_start clauses old new lines n begun same e;
  bad = λ line at t move. not_due clauses (state_of new) line t due (no_front clauses old new lines n e line at) move;
  unfinished = λ whole closed. let no : false ≡ true = closed.begun in cc;
  within = at_line lines n e.within;
}

-- none are due, and the tree is the root
pub begins : (clauses : Clauses) (old new : Tables) (tree : Tree) (lines : List CertLine) (n : ℕ) → state_of old ≡ start clauses → old.clauses.now ≡ clauses → IsFront old lines n new → new.due ≡ 0
    → branches_of tree ≡ root (length (atoms_of new)) ∷ [] → Stands lines n new tree
begins clauses old new tree lines n begun same e due opens =
    let its : clauses ≡ new.clauses.now = sym same ∙ ap (λ c. c.now) (sym e.same) in
    let rooted : branches (tree_state new tree) ≡ branches (state_of new) = opens in
    record {
      within = e.within;
      state = state_of new;
      moves = subst (λ c. MovesOn c (start c) (take n lines) (state_of new)) its (from_start clauses old new lines n begun same e);
      back = λ line t move. same_moves new.clauses.now (tree_state new tree) (state_of new) line t due rooted refl refl (λ u f. not_flat new.clauses.now (tree_state new tree) line u refl refl f) move;
      forth = λ line at t move. same_moves new.clauses.now (state_of new) (tree_state new tree) line t refl (sym rooted) refl refl
          (λ u f m. no_front clauses old new lines n e line at u f (subst (λ c. Moves c (state_of new) line u) (sym its) m)) move;
      closed = λ closed. let no : false ≡ true = closed.begun in cc;
      closes = λ no_more. cc;
    }

-- ---- lines of the tree

-- a line that fits
pub tree_more : (tables : Tables) (old new : Tree) (lines : List CertLine) (n : ℕ) (d : CertLine) → n < length lines → TakesLeaf tables old (get_or lines n d) new true → Stands lines n tables old → Stands lines (n + 1) tables new
tree_more tables old new lines n d within move s = record {
  within = omega (arith, within);
  state = tree_state tables new;
  moves = moves_more tables.clauses.now lines n d (start tables.clauses.now) s.state (tree_state tables new) within s.moves (s.back (get_or lines n d) (tree_state tables new) move);
  back = λ line t m. m;
  forth = λ line at t m. m;
  closed = λ closed. closed.none;
  closes = λ no_more. record { begun = refl; none = no_more };
}

-- a line that doesn't
pub tree_bad : (tables : Tables) (old new : Tree) (lines : List CertLine) (n : ℕ) (d : CertLine) → n < length lines → TakesLeaf tables old (get_or lines n d) new false → Stands lines n tables old → IsFirstBad tables.clauses.now lines n
tree_bad tables old new lines n d within unfit s = record {
  state = s.state;
  moves = s.moves;
  bad = λ line at t move.
      let same : line ≡ get_or lines n d = let e = slice_get-get_or lines n d within in cc in
      unfit t (subst (λ l. Moves tables.clauses.now (tree_state tables old) l t) same (s.forth line at t move));
  unfinished = λ whole closed. omega (arith, within, whole);
  within = at_line lines n s.within;
}

-- the end, with the tree closed
pub tree_closed : (tables : Tables) (tree : Tree) (lines : List CertLine) (n : ℕ) → n ≡ length lines → branches_of tree ≡ [] → Stands lines n tables tree → IsAccepted tables.clauses.now lines
tree_closed tables tree lines n whole no_more s = record {
  state = s.state;
  moves = subst (λ ls. MovesOn tables.clauses.now (start tables.clauses.now) ls s.state) (all_taken lines n whole) s.moves;
  closed = s.closes no_more;
}
  where
    all_taken : (lines : List CertLine) (n : ℕ) → n ≡ length lines → take n lines ≡ lines
    all_taken lines n whole = take_all n lines (omega (arith, whole))

-- the end, with the tree open
pub tree_open : (tables : Tables) (tree : Tree) (lines : List CertLine) (n : ℕ) → n ≡ length lines → (branches_of tree ≡ [] → ⊥) → Stands lines n tables tree → IsFirstBad tables.clauses.now lines n
tree_open tables tree lines n whole open_still s = record {
  state = s.state;
  moves = s.moves;
  bad = λ line at t move. let l = slice_get_within lines n line at in omega (arith, l, whole);
  unfinished = λ same closed. open_still (s.closed closed);
  within = at_line lines n s.within;
}
