-- Where a table has a node.
use Rattle.std.proofs.Common.{◌≡◌, ℕ, zero, suc, Bool, true, false, ◌&&◌, cond, List, [], ◌∷◌, slice_get, get_or, unwrap_or, position, Option, Some, None, refl, sym, ap, ◌∙◌, subst, true≢false}
use Rattle.std.specs.Map.{lookup, keys_of}
use Rattle.std.specs.Option.{option_map}
use Rattle.std.proofs.lemmas.Bool.{eqb-true, eq-eqb}
use Rattle.std.proofs.lemmas.Bool.Decides.{Decides-int_eq}
use Rattle.std.proofs.lemmas.List.Quantifiers.{position-Some}
use Rattle.std.proofs.lemmas.Option.{slice_get-map, get_or_from_slice_get}
use Rattle.jesc_logic.specs.declared.terms.Node.{Node}
use Rattle.jesc_logic.specs.declared.terms.Node.TheVariants.{Num, App}
use Rattle.jesc_logic.specs.contracts.terms.NodePartialEq.TheImpl.{eq-value}
use Rattle.jesc_logic.specs.Tables.{Entry}
use Rattle.jesc_logic.proofs.Lists.{there}
use Rattle.jesc_logic.proofs.Nodes.{same_id}

both_parts : (a b : Bool) → a && b ≡ true → (a ≡ true) × (b ≡ true)
both_parts true true e = (refl, refl)
both_parts true false e = (refl, e)
both_parts false b e = (e, cc)

and_true : (a b : Bool) → a ≡ true → b ≡ true → a && b ≡ true
and_true a b p q = λ i. p i && q i

same_true : (m n : Node) → eq-value.it m n ≡ true → m ≡ n
same_true (Num x) (Num y) e = ap Num ((Decides-int_eq x y).0 e)
same_true (App s n a b c) (App s' n' a' b' c') e =
    let h = both_parts _ _ e in
    let k = both_parts _ _ h.1 in
    let l = both_parts _ _ k.1 in
    let m = both_parts _ _ l.1 in
    λ i. App (eqb-true s s' h.0 i) (eqb-true n n' k.0 i) (same_id a a' (eqb-true a.0 a'.0 l.0) i) (same_id b b' (eqb-true b.0 b'.0 m.0) i) (same_id c c' (eqb-true c.0 c'.0 m.1) i)
same_true m n e = cc

same_refl : (m : Node) → eq-value.it m m ≡ true
same_refl (Num x) = (Decides-int_eq x x).1 refl
same_refl (App s n a b c) = and_true _ _ (eq-eqb s s refl) (and_true _ _ (eq-eqb n n refl) (and_true _ _ (eq-eqb a.0 a.0 refl) (and_true _ _ (eq-eqb b.0 b.0 refl) (eq-eqb c.0 c.0 refl))))

absent_at : (test : Node → Bool) (entries : List Entry) → lookup test entries ≡ None → (k : ℕ) (e : Entry) → slice_get entries k ≡ Some e → test e.0 ≡ false
absent_at test [] h k e at = cc
absent_at test (x ∷ xs) h k e at = by (test x.0) refl k at (λ j p q. absent_at test xs q j e p)
  where
    by : (b : Bool) → test x.0 ≡ b → (k : ℕ) → slice_get (x ∷ xs) k ≡ Some e → ((j : ℕ) → slice_get xs j ≡ Some e → lookup test xs ≡ None → test e.0 ≡ false) → test e.0 ≡ false
    by true p k at rest = let q : Some x.1 ≡ None = ap (λ b. cond b (Some x.1) (lookup test xs)) (sym p) ∙ h in absurd (cc)
    by false p zero at rest = cc
    by false p (suc j) at rest = rest j at (ap (λ b. cond b (Some x.1) (lookup test xs)) (sym p) ∙ h)

-- a node that the look-up doesn't find is in no entry
pub absent : (node : Node) (entries : List Entry) → lookup (eq-value.it node) entries ≡ None → (k : ℕ) (e : Entry) → slice_get entries k ≡ Some e → e.0 ≡ node → ⊥
absent node entries h k e at is = true≢false (sym (same_refl node) ∙ ap (eq-value.it node) (sym is) ∙ absent_at (eq-value.it node) entries h k e at)

-- the place that is found is that of an entry with the node
pub found : (node : Node) (entries : List Entry) (at : ℕ) → Some at ≡ position (eq-value.it node) (keys_of entries) → (e : Entry) × ((slice_get entries at ≡ Some e) × (e.0 ≡ node))
found node entries at h =
    let p = position-Some (eq-value.it node) (keys_of entries) at node (sym h) in
    let k = there (keys_of entries) at node p.0 in
    by (slice_get entries at) refl (sym (slice_get-map (λ (e : Entry). e.0) entries at) ∙ k) p.1
  where
    by : (o : Option Entry) → slice_get entries at ≡ o → option_map (λ (e : Entry). e.0) (slice_get entries at) ≡ Some (unwrap_or (slice_get (keys_of entries) at) node) → eq-value.it node (get_or (keys_of entries) at node) ≡ true → (e : Entry) × ((slice_get entries at ≡ Some e) × (e.0 ≡ node))
    by None is at_key same = let q : None ≡ Some (unwrap_or (slice_get (keys_of entries) at) node) = ap (option_map (λ (e : Entry). e.0)) (sym is) ∙ at_key in absurd (cc)
    by (Some e) is at_key same =
        let key : Some e.0 ≡ slice_get (keys_of entries) at = ap (option_map (λ (x : Entry). x.0)) (sym is) ∙ sym (slice_get-map (λ (x : Entry). x.0) entries at) in
        (e, (is, sym (same_true node e.0 (subst (λ (n : Node). eq-value.it node n ≡ true) (get_or_from_slice_get (keys_of entries) at e.0 node (sym key)) same))))
