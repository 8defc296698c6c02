-- A table stays one where a new node is put at its end.
use Rattle.std.proofs.Common.{◌≡◌, ℕ, ◌+◌, ◌<◌, ◌≤◌, ◌^◌, pos, List, [], ◌∷◌, ◌++◌, length, slice_get, unwrap_or, Some, ◌⊎◌, inl, inr, refl, sym, ap, subst, ◌∙◌, arith, length-append}
use Rattle.jesc_logic.specs.declared.terms.Node.{Node}
use Rattle.jesc_logic.specs.Terms.{Term, number, node_term, IsBelow, AreApart, Keeps}
use Rattle.jesc_logic.specs.Tables.{Entry, terms_after, terms_of, is_open, IsTable}
use Rattle.jesc_logic.proofs.Lists.{there, get_front, get_last, get_kept, at_seam, within}
use Rattle.jesc_logic.proofs.Nodes.{same_term, widen, same_node}

pub terms_after-push : (terms : List Term) (entries : List Entry) (entry : Entry) → terms_after terms (entries ++ entry ∷ []) ≡ terms_after terms entries ++ node_term (terms_after terms entries) entry.0 ∷ []
terms_after-push terms [] entry = refl
terms_after-push terms (e ∷ entries) entry = terms_after-push (terms ++ node_term terms e.0 ∷ []) entries entry

module _ (entries : List Entry) (table : IsTable entries) (entry : Entry) where
  abbrev old : List Term
  old = terms_of entries

  abbrev last : Term
  last = node_term old entry.0

  abbrev new : List Term
  new = old ++ last ∷ []

  pub is_new : terms_of (entries ++ entry ∷ []) ≡ new
  is_new = terms_after-push [] entries entry

  pub keeps : Keeps old new
  keeps = record { longer = omega (arith, length-append old (last ∷ [])); keeps = λ id t e. get_kept old (last ∷ []) id t e }

  same : (node : Node) → IsBelow (length entries) node → node_term new node ≡ node_term old node
  same node h = same_term old new (length entries) (λ i p. get_front old (last ∷ []) i (omega (arith, table.count))) node h

  earlier : (k : ℕ) (e : Entry) → slice_get entries k ≡ Some e → IsBelow (length entries) e.0
  earlier k e h = widen k (length entries) e.0 (let p = within entries k e h in omega (arith, p)) (table.below k e h)

  module _ (below : IsBelow (length entries) entry.0) (marked : entry.1 ≡ is_open last) (short : length entries + 1 < 2 ^ 32)
      (fresh : (k : ℕ) (e : Entry) → slice_get entries k ≡ Some e → e.0 ≡ entry.0 → ⊥) where
    -- no earlier term is the new one
    unlike : (k : ℕ) → slice_get old k ≡ Some last → ⊥
    unlike k h =
        let p = within old k last h in
        let e = unwrap_or (slice_get entries k) entry in
        let at = there entries k entry (omega (arith, p, table.count)) in
        let spelled = table.spelled k e at in
        let is : node_term old e.0 ≡ node_term old entry.0 = cc in
        let n : length entries ≤ length old = omega (arith, table.count) in
        fresh k e at (same_node old table.apart e.0 entry.0 (widen (length entries) (length old) e.0 n (earlier k e at)) (widen (length entries) (length old) entry.0 n below) is)

    apart : AreApart new
    apart = record {
      short = omega (arith, length-append old (last ∷ []), table.count);
      apart = λ i j t e f. both_apart i j t (at_seam old last i t e) (at_seam old last j t f);
    }
      where
        both_apart : (i j : ℕ) (t : Term) → (slice_get old i ≡ Some t) ⊎ ((i ≡ length old) × (last ≡ t)) → (slice_get old j ≡ Some t) ⊎ ((j ≡ length old) × (last ≡ t)) → i ≡ j
        both_apart i j t (inl h) (inl k) = table.apart.apart i j t h k
        both_apart i j t (inl h) (inr k) = absurd (unlike i (h ∙ ap Some (sym k.1)))
        both_apart i j t (inr h) (inl k) = absurd (unlike j (k ∙ ap Some (sym h.1)))
        both_apart i j t (inr h) (inr k) = h.0 ∙ sym k.0

    grown_at : (k : ℕ) (e : Entry) → (slice_get entries k ≡ Some e) ⊎ ((k ≡ length entries) × (entry ≡ e)) → IsBelow k e.0 × (slice_get new k ≡ Some (node_term new e.0)) × (e.1 ≡ is_open (node_term new e.0))
    grown_at k e (inl h) =
        let s = same e.0 (earlier k e h) in
        (table.below k e h, get_kept old (last ∷ []) k (node_term old e.0) (table.spelled k e h) ∙ ap Some (sym s), table.marked k e h ∙ ap is_open (sym s))
    grown_at k e (inr h) =
        let s = same entry.0 below in
        let at_end : slice_get new (length entries) ≡ Some last = ap (slice_get new) (sym table.count) ∙ get_last old last in
        let facts : IsBelow (length entries) entry.0 × (slice_get new (length entries) ≡ Some (node_term new entry.0)) × (entry.1 ≡ is_open (node_term new entry.0)) = (below, at_end ∙ ap Some (sym s), marked ∙ ap is_open (sym s)) in
        subst (λ (i : ℕ). IsBelow i e.0 × (slice_get new i ≡ Some (node_term new e.0)) × (e.1 ≡ is_open (node_term new e.0))) (sym h.0)
        (subst (λ (x : Entry). IsBelow (length entries) x.0 × (slice_get new (length entries) ≡ Some (node_term new x.0)) × (x.1 ≡ is_open (node_term new x.0))) h.1 facts)

    pub grown : IsTable (entries ++ entry ∷ [])
    grown = record {
      below = λ k e h. (grown_at k e (at_seam entries entry k e h)).0;
      spelled = λ k e h. subst (λ (ts : List Term). slice_get ts k ≡ Some (node_term ts e.0)) (sym is_new) (grown_at k e (at_seam entries entry k e h)).1;
      marked = λ k e h. subst (λ (ts : List Term). e.1 ≡ is_open (node_term ts e.0)) (sym is_new) (grown_at k e (at_seam entries entry k e h)).2;
      count = ap length is_new ∙ omega (arith, length-append old (last ∷ []), length-append entries (entry ∷ []), table.count);
      apart = subst AreApart (sym is_new) apart;
    }

-- the new node's term stands at the end
pub is_last : (entries : List Entry) (table : IsTable entries) (entry : Entry) → slice_get (terms_of (entries ++ entry ∷ [])) (length entries) ≡ Some (node_term (terms_of entries) entry.0)
is_last entries table entry = ap (λ (ts : List Term). slice_get ts (length entries)) (is_new entries table entry) ∙ (ap (slice_get (terms_of entries ++ node_term (terms_of entries) entry.0 ∷ [])) (sym table.count) ∙ get_last (terms_of entries) (node_term (terms_of entries) entry.0))

-- the mark of an entry is that of its number's term
pub marked_at : (entries : List Entry) (table : IsTable entries) (k : ℕ) (entry : Entry) → slice_get entries k ≡ Some entry → entry.1 ≡ is_open (unwrap_or (slice_get (terms_of entries) k) (number (pos 0)))
marked_at entries table k entry h = table.marked k entry h ∙ ap (λ o. is_open (unwrap_or o (number (pos 0)))) (sym (table.spelled k entry h))
