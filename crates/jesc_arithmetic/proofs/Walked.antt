-- What has been walked, one term after the other.
use Rattle.std.proofs.Common.{◌≡◌, ℕ, zero, suc, take, Bool, true, false, ◌||◌, List, [], ◌∷◌, ◌++◌, map, Contains, All, Decides, Option, Some, ◌⊎◌, inl, inr, append_assoc, refl, sym, ap, ◌∙◌, subst, if◌then◌else◌}
use Rattle.std.specs.List.{list_any, flat_map, cons_option}
use Rattle.std.proofs.lemmas.Bool.{eqb-true, eq-eqb}
use Rattle.std.proofs.lemmas.Bool.Decides.{same_from_decides}
use Rattle.std.proofs.lemmas.List.{map-append, append-nil, flat_map_more}
use Rattle.std.proofs.lemmas.List.Elements.{All-head, All-tail, All-weaker, All-push, All-append, filter_map-append}
use Rattle.indexmap.specs.IndexSet.{insert_key}
use Rattle.indexmap.proofs.CallerLemmas.{Contains-list_any}
use Rattle.jesc_logic.specs.declared.terms.TermId.{TermId}
use Rattle.jesc_logic.specs.contracts.terms.TermIdPartialEq.TheImpl.{eq-value as id_eq}
use Rattle.jesc_logic.specs.Terms.{Term, number, constant, unary, binary, ternary, term_at, node_term, StandsFor, AreApart, ArePlaces}
use Rattle.jesc_logic.specs.declared.terms.Node.TheVariants.{App}
use Rattle.jesc_logic.specs.laws.Keeping.{term_of_standing}
use Rattle.jesc_logic.proofs.Nodes.{same_part, same_id}
use Rattle.jesc_arithmetic.specs.declared.operation.Operation.{Operation as Numbered}
use Rattle.jesc_arithmetic.specs.declared.operation.Operation.TheVariants.{Product, Quotient, Remainder, Division}
use Rattle.jesc_arithmetic.specs.contracts.operation.OperationPartialEq.TheImpl.{eq-value}
use Rattle.jesc_arithmetic.specs.declared.walk.Walk.{Walk}
use Rattle.jesc_arithmetic.specs.Operations.{Operation, operation_of, same_operation}
use Rattle.jesc_logic.specs.declared.formula.Formula.{Formula}
use Rattle.jesc_logic.specs.Claims.{claim_of}
use Rattle.jesc_arithmetic.specs.Firsts.{firsts}
use Rattle.jesc_arithmetic.specs.Occurrences.{terms_within, terms_in}
use Rattle.jesc_arithmetic.specs.Walks.{named, names, IsOverTerms, operations_of, parts_of, HasFound, IsWalk, HasWalked, HasSeen, HasOperations}
use Rattle.jesc_arithmetic.proofs.Gathering.{gathered, gathered_append, gathered_grows, gathered_present, gathered_all, firsts_gathered}
use Rattle.jesc_arithmetic.proofs.Sameness.{both_parts, and_true, Decides-same_operation}

-- ---- operations by number are the same where their terms are

equal_numbered : (o p : Numbered) → eq-value.it o p ≡ true → o ≡ p
equal_numbered (Product a b) (Product c d) e = let h = both_parts _ _ e in λ i. Product (same_id a c (eqb-true a.0 c.0 h.0) i) (same_id b d (eqb-true b.0 d.0 h.1) i)
equal_numbered (Quotient a b) (Quotient c d) e = let h = both_parts _ _ e in λ i. Quotient (same_id a c (eqb-true a.0 c.0 h.0) i) (same_id b d (eqb-true b.0 d.0 h.1) i)
equal_numbered (Remainder a b) (Remainder c d) e = let h = both_parts _ _ e in λ i. Remainder (same_id a c (eqb-true a.0 c.0 h.0) i) (same_id b d (eqb-true b.0 d.0 h.1) i)
equal_numbered (Division a b) (Division c d) e = let h = both_parts _ _ e in λ i. Division (same_id a c (eqb-true a.0 c.0 h.0) i) (same_id b d (eqb-true b.0 d.0 h.1) i)
equal_numbered o p e = cc

same_numbered : (o : Numbered) → eq-value.it o o ≡ true
same_numbered (Product a b) = and_true _ _ (eq-eqb a.0 a.0 refl) (eq-eqb b.0 b.0 refl)
same_numbered (Quotient a b) = and_true _ _ (eq-eqb a.0 a.0 refl) (eq-eqb b.0 b.0 refl)
same_numbered (Remainder a b) = and_true _ _ (eq-eqb a.0 a.0 refl) (eq-eqb b.0 b.0 refl)
same_numbered (Division a b) = and_true _ _ (eq-eqb a.0 a.0 refl) (eq-eqb b.0 b.0 refl)

Decides-numbered : (o p : Numbered) → Decides (eq-value.it o p) (o ≡ p)
Decides-numbered o p = (equal_numbered o p, λ e. ap (eq-value.it o) (sym e) ∙ same_numbered o)

module _ (table : List Term) (apart : AreApart table) where
  -- equal operations have equal numbers
  one_number : (o p : Numbered) → IsOverTerms table o → IsOverTerms table p → named table o ≡ named table p → o ≡ p
  one_number (Product a b) (Product c d) h k e =
      let ea : term_at table a ≡ term_at table c = cc in
      let eb : term_at table b ≡ term_at table d = cc in
      λ i. Product (same_part table apart a c h.0 k.0 ea i) (same_part table apart b d h.1 k.1 eb i)
  one_number (Quotient a b) (Quotient c d) h k e =
      let ea : term_at table a ≡ term_at table c = cc in
      let eb : term_at table b ≡ term_at table d = cc in
      λ i. Quotient (same_part table apart a c h.0 k.0 ea i) (same_part table apart b d h.1 k.1 eb i)
  one_number (Remainder a b) (Remainder c d) h k e =
      let ea : term_at table a ≡ term_at table c = cc in
      let eb : term_at table b ≡ term_at table d = cc in
      λ i. Remainder (same_part table apart a c h.0 k.0 ea i) (same_part table apart b d h.1 k.1 eb i)
  one_number (Division a b) (Division c d) h k e =
      let ea : term_at table a ≡ term_at table c = cc in
      let eb : term_at table b ≡ term_at table d = cc in
      λ i. Division (same_part table apart a c h.0 k.0 ea i) (same_part table apart b d h.1 k.1 eb i)
  one_number o p h k e = cc

  same_named : (o p : Numbered) → IsOverTerms table o → IsOverTerms table p → eq-value.it o p ≡ same_operation (named table o) (named table p)
  same_named o p h k =
      let d = Decides-same_operation (named table o) (named table p) in
      same_from_decides (eq-value.it o p) (same_operation (named table o) (named table p)) (Decides-numbered o p) ((λ e. one_number o p h k (d.0 e)), λ e. d.1 (ap (named table) e))

  same_any : (o : Numbered) (os : List Numbered) → IsOverTerms table o → All (IsOverTerms table) os → list_any (eq-value.it o) os ≡ list_any (same_operation (named table o)) (names table os)
  same_any o [] h all = refl
  same_any o (p ∷ os) h all = λ i. same_named o p h (All-head (IsOverTerms table) p os all) i || same_any o os h (All-tail (IsOverTerms table) p os all) i

  put_named : (b c : Bool) (os : List Numbered) (o : Numbered) → b ≡ c → names table (if b then os else os ++ o ∷ []) ≡ (if c then names table os else names table os ++ named table o ∷ [])
  put_named true true os o e = refl
  put_named false false os o e = map-append (named table) os (o ∷ [])
  put_named true false os o e = cc
  put_named false true os o e = cc

  names_put : (o : Numbered) (os : List Numbered) → IsOverTerms table o → All (IsOverTerms table) os → names table (insert_key eq-value.it os o) ≡ insert_key same_operation (names table os) (named table o)
  names_put o os h all = put_named (list_any (eq-value.it o) os) (list_any (same_operation (named table o)) (names table os)) os o (same_any o os h all)

over_put : (table : List Term) (b : Bool) (os : List Numbered) (o : Numbered) → IsOverTerms table o → All (IsOverTerms table) os → All (IsOverTerms table) (if b then os else os ++ o ∷ [])
over_put table true os o h all = all
over_put table false os o h all = All-push (IsOverTerms table) os o all h

-- ---- walks

decided : (o p : Operation) → Decides (same_operation o p) (o ≡ p)
decided = Decides-same_operation

module _ (table : List Term) where
  abbrev pub found_by : Walk → List Operation
  found_by w = names table w.operations.keys

  found_later : (old new : Walk) (ts us : List Term) → found_by new ≡ gathered same_operation (found_by old) (operations_of us) → HasFound table old ts → HasFound table new ts
  found_later old new ts us e h =
      subst (λ (os : List Operation). All (Contains os) (operations_of ts)) (sym e)
      (All-weaker (Contains (found_by old)) (Contains (gathered same_operation (found_by old) (operations_of us))) (λ o p. gathered_grows same_operation decided (found_by old) (operations_of us) o p) (operations_of ts) h)

  -- where no further term has been seen
  grown : (old new : Walk) (us : List Term) → IsWalk table old → new.seen ≡ old.seen → All (IsOverTerms table) new.operations.keys → found_by new ≡ gathered same_operation (found_by old) (operations_of us) → HasWalked table old new us
  grown old new us h seen over e = record {
    walk = record { apart = h.apart; over = over; settled = λ id p. found_later old new (terms_within (term_at table id)) us e (h.settled id (subst (λ s. Contains s.keys id) seen p)) };
    found = e;
  }

  pub none_walked : (w : Walk) → IsWalk table w → HasWalked table w w []
  none_walked w h = record { walk = h; found = refl }

  pub walked_on : (a b c : Walk) (ts us : List Term) → HasWalked table a b ts → HasWalked table b c us → HasWalked table a c (ts ++ us)
  walked_on a b c ts us h k = record {
    walk = k.walk;
    found = k.found ∙ (ap (λ (os : List Operation). gathered same_operation os (operations_of us)) h.found
        ∙ (sym (gathered_append same_operation (found_by a) (operations_of ts) (operations_of us)) ∙ ap (gathered same_operation (found_by a)) (sym (filter_map-append operation_of ts us))));
  }

  -- what has been walked has been found
  pub has_found : (a b : Walk) (ts : List Term) → HasWalked table a b ts → HasFound table b ts
  has_found a b ts h = subst (λ (os : List Operation). All (Contains os) (operations_of ts)) (sym h.found) (gathered_all same_operation decided (found_by a) (operations_of ts))

  pub seen_before : (w : Walk) (id : TermId) → IsWalk table w → Contains w.seen.keys id → HasWalked table w w (terms_within (term_at table id))
  seen_before w id h p = record { walk = h; found = sym (gathered_present same_operation decided (found_by w) (operations_of (terms_within (term_at table id))) (h.settled id p)) }

  pub put_one : (old new : Walk) (t : Term) (o : Numbered) → IsWalk table old → IsOverTerms table o → Some (named table o) ≡ operation_of t → new.seen ≡ old.seen → new.operations.keys ≡ insert_key eq-value.it old.operations.keys o → HasWalked table old new (t ∷ [])
  put_one old new t o h over is seen keys =
      let found : found_by new ≡ gathered same_operation (found_by old) (operations_of (t ∷ [])) = ap (names table) keys ∙ (names_put table h.apart o old.operations.keys over h.over ∙ ap (λ (r : Option Operation). gathered same_operation (found_by old) (cons_option r [])) is) in
      grown old new (t ∷ []) h seen (subst (All (IsOverTerms table)) (sym keys) (over_put table (list_any (eq-value.it o) old.operations.keys) old.operations.keys o over h.over)) found

  both_found : (w : Walk) (ts us : List Term) → HasFound table w ts → HasFound table w us → HasFound table w (ts ++ us)
  both_found w ts us h k = subst (All (Contains (found_by w))) (sym (filter_map-append operation_of ts us)) (All-append (Contains (found_by w)) (operations_of ts) (operations_of us) h k)

-- the terms in a term are those in its parts, and the term
pub within_parts : (t : Term) → terms_within t ≡ flat_map terms_within (parts_of t) ++ t ∷ []
within_parts (number n) = refl
within_parts (constant symbol) = refl
within_parts (unary symbol a) = simp append-nil
within_parts (binary symbol a b) = simp (append-nil, append_assoc)
within_parts (ternary symbol a b c) = simp (append-nil, append_assoc)

module _ (table : List Term) where
  -- a term has been walked whose parts have been, and is noted
  pub noted : (old mid new : Walk) (id : TermId) → HasFound table old (flat_map terms_within (parts_of (term_at table id))) → HasWalked table old mid (term_at table id ∷ []) → HasSeen mid new id → HasWalked table old new (term_at table id ∷ [])
  noted old mid new id h k s = record {
    walk = record {
      apart = k.walk.apart;
      over = subst (λ os. All (IsOverTerms table) os.keys) (sym s.same) k.walk.over;
      settled = λ other p. subst (λ os. All (Contains (names table os.keys)) (operations_of (terms_within (term_at table other)))) (sym s.same) (by other (s.seen other p));
    };
    found = subst (λ os. names table os.keys ≡ gathered same_operation (found_by table old) (operations_of (term_at table id ∷ []))) (sym s.same) k.found;
  }
    where
      itself : HasFound table mid (terms_within (term_at table id))
      itself =
          subst (HasFound table mid) (sym (within_parts (term_at table id)))
          (both_found table mid (flat_map terms_within (parts_of (term_at table id))) (term_at table id ∷ []) (found_later table old mid (flat_map terms_within (parts_of (term_at table id))) (term_at table id ∷ []) k.found h)
          (has_found table old mid (term_at table id ∷ []) k))

      by : (other : TermId) → Contains mid.seen.keys other ⊎ (other ≡ id) → HasFound table mid (terms_within (term_at table other))
      by other (inl q) = k.walk.settled other q
      by other (inr e) = subst (λ (i : TermId). HasFound table mid (terms_within (term_at table i))) (sym e) itself

equal_ids : (a b : TermId) → id_eq.it a b ≡ true → a ≡ b
equal_ids a b e = same_id a b (eqb-true a.0 b.0 e)

-- the terms within the terms with these numbers
abbrev pub within : List Term → TermId → List Term
within table id = terms_within (term_at table id)

module _ (table : List Term) where
  pub seen_already : (w : Walk) (id : TermId) → IsWalk table w → list_any (id_eq.it id) w.seen.keys ≡ true → HasWalked table w w (terms_within (term_at table id))
  seen_already w id h e = seen_before table w id h (Contains-list_any id_eq.it equal_ids w.seen.keys id e)

  pub walked_more : (a b c : Walk) (ids : List TermId) (id : TermId) → HasWalked table a b (flat_map (within table) ids) → HasWalked table b c (within table id) → HasWalked table a c (flat_map (within table) (ids ++ id ∷ []))
  walked_more a b c ids id h k =
      subst (HasWalked table a c) (flat_map_more (within table) [] ids id)
      (walked_on table a b c (flat_map (within table) ids) (within table id) h k)

  node_parts : (symbol n k : ℕ) (a b c : TermId) → ArePlaces k n a.0 b.0 c.0 → flat_map (within table) (take n (a ∷ b ∷ c ∷ [])) ≡ flat_map terms_within (parts_of (node_term table (App symbol n a b c)))
  node_parts symbol zero k a b c h = refl
  node_parts symbol (suc zero) k a b c h = refl
  node_parts symbol (suc (suc zero)) k a b c h = refl
  node_parts symbol (suc (suc (suc zero))) k a b c h = refl
  node_parts symbol (suc (suc (suc (suc n)))) k a b c h = absurd h

  -- the terms within a node's parts
  pub within_node : (id : TermId) (symbol n : ℕ) (a b c : TermId) → ArePlaces id.0 n a.0 b.0 c.0 → StandsFor table id (node_term table (App symbol n a b c)) → flat_map (within table) (take n (a ∷ b ∷ c ∷ [])) ≡ flat_map terms_within (parts_of (term_at table id))
  within_node id symbol n a b c h s = node_parts symbol n id.0 a b c h ∙ ap (λ (t : Term). flat_map terms_within (parts_of t)) (sym (term_of_standing table id (node_term table (App symbol n a b c)) s))

  pub parts_found : (a b : Walk) (id : TermId) (ts : List Term) → HasWalked table a b ts → ts ≡ flat_map terms_within (parts_of (term_at table id)) → HasFound table b (flat_map terms_within (parts_of (term_at table id)))
  parts_found a b id ts h e = subst (HasFound table b) e (has_found table a b ts h)

  pub walked_whole : (a b c : Walk) (id : TermId) (ts : List Term) → HasWalked table a b ts → ts ≡ flat_map terms_within (parts_of (term_at table id)) → HasWalked table b c (term_at table id ∷ []) → HasWalked table a c (terms_within (term_at table id))
  walked_whole a b c id ts h e k = subst (HasWalked table a c) (ap (λ (us : List Term). us ++ term_at table id ∷ []) e ∙ sym (within_parts (term_at table id))) (walked_on table a b c ts (term_at table id ∷ []) h k)

-- ---- formulas

abbrev pub terms_of_formula : List Term → Formula → List Term
terms_of_formula table f = terms_in (claim_of table f)

module _ (table : List Term) where
  pub one_more_formula : (a b c : Walk) (fs : List Formula) (f : Formula) → HasWalked table a b (flat_map (terms_of_formula table) fs) → HasWalked table b c (terms_of_formula table f) → HasWalked table a c (flat_map (terms_of_formula table) (fs ++ f ∷ []))
  one_more_formula a b c fs f h k =
      subst (HasWalked table a c) (flat_map_more (terms_of_formula table) [] fs f)
      (walked_on table a b c (flat_map (terms_of_formula table) fs) (terms_of_formula table f) h k)

  of_claims : (fs : List Formula) → flat_map (terms_of_formula table) fs ≡ flat_map terms_in (map (claim_of table) fs)
  of_claims [] = refl
  of_claims (f ∷ fs) = ap (λ (ts : List Term). terms_of_formula table f ++ ts) (of_claims fs)

  -- where all formulas have been walked, from nothing, their operations have been found
  pub all_walked : (a b : Walk) (fs : List Formula) → a.operations.keys ≡ [] → HasWalked table a b (flat_map (terms_of_formula table) fs) → HasOperations table (map (claim_of table) fs) b
  all_walked a b fs none h = record {
    over = h.walk.over;
    found = h.found ∙ (ap (λ (os : List Numbered). gathered same_operation (names table os) (operations_of (flat_map (terms_of_formula table) fs))) none
        ∙ (firsts_gathered same_operation decided (operations_of (flat_map (terms_of_formula table) fs)) ∙ ap (λ (ts : List Term). firsts same_operation (operations_of ts)) (of_claims fs)));
  }
