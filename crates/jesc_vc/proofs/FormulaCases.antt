-- The formulas of a core's formulas, and the facts that say their truth, form by form.
use Rattle.std.proofs.Common.{◌≡◌, ℕ, Bool, true, false, ◌&&◌, ◌||◌, List, [], ◌∷◌, ◌++◌, length, refl, sym, ap, ◌∙◌, arith}
use Rattle.std.specs.Prelude.{int_le, not}
use Rattle.std.specs.Ordering.{int_eq}
use Rattle.jesc_logic.specs.Terms.{Term}
use Rattle.jesc_logic.specs.Claims.{Claim, truth, falsity, at_most, equal, negation, both, either, Each}
use Rattle.jesc_logic.specs.Structures.{Structure, value, is_true}
use Rattle.jesc_core.specs.Trees.{TermTree, FormulaTree}
use Rattle.jesc_core.specs.Heaps.{Reading, State}
use Rattle.jesc_core.specs.Values as core
use Rattle.jesc_vc.specs.Facts.{FactTree, IsBelow}
use Rattle.jesc_vc.specs.Environments.{EnvTree, IsBelowEnv}
use Rattle.jesc_vc.specs.Encodings.{ScopeTree, Encoded, plain, beside, mapped, scoped, narrowed, signed}
use Rattle.jesc_vc.proofs.Below.{below_later, claim_later}
use Rattle.jesc_vc.proofs.Scopes.{IsScope}
use Rattle.jesc_vc.proofs.Saying.{st, Says, Free, without_facts, saying_less, pair, stating, branching}
use Rattle.jesc_vc.proofs.TermCases.{IsTerm, IsFormula}

signed_true : (s : Structure) (value : Bool) (g : Claim Term) → is_true s g ≡ value → is_true s (signed value g) ≡ true
signed_true s true g e = e
signed_true s false g e = ap not e

not_true : (b : Bool) → not b ≡ true → b ≡ false
not_true true e = cc
not_true false e = refl

not_false : (b : Bool) → not b ≡ false → b ≡ true
not_false true e = refl
not_false false e = cc

true_signed : (s : Structure) (value : Bool) (g : Claim Term) → is_true s (signed value g) ≡ true → is_true s g ≡ value
true_signed s true g e = e
true_signed s false g e = not_true (is_true s g) e

each_signed : (P : Term → Type 0) (value : Bool) (g : Claim Term) → Each P g → Each P (signed value g)
each_signed P true g h = h
each_signed P false g h = h

turn : (b v : Bool) → not b ≡ v → b ≡ not v
turn true v e = ap not e
turn false v e = ap not e

turn_back : (b v : Bool) → b ≡ not v → not b ≡ v
turn_back b true e = ap not e
turn_back b false e = ap not e

and_parts : (a b : Bool) → a && b ≡ true → (a ≡ true) × (b ≡ true)
and_parts true b e = (refl, e)
and_parts false b e = cc

or_parts : (a b : Bool) → a || b ≡ false → (a ≡ false) × (b ≡ false)
or_parts true b e = cc
or_parts false b e = (refl, e)

and_second : (a b : Bool) → a ≡ true → a && b ≡ false → b ≡ false
and_second true b e d = d
and_second false b e d = cc

or_second : (a b : Bool) → a ≡ false → a || b ≡ true → b ≡ true
or_second true b e d = cc
or_second false b e d = d

and_false : (a b : Bool) → (a ≡ true → b ≡ false) → a && b ≡ false
and_false true b h = h refl
and_false false b h = refl

or_true : (a b : Bool) → (a ≡ false → b ≡ true) → a || b ≡ true
or_true true b h = refl
or_true false b h = h refl

module _ (reading : Reading) (fields : ℕ) where
  -- the facts say that the formula has this truth
  abbrev pub IsClaim : ℕ → EnvTree → ScopeTree → (State → Type 0) → Encoded (Unit {0}) → Type 0
  IsClaim c env k Q m = Says reading fields c env k m.facts m.next Q (λ w. Q (st reading fields w env))

  abbrev pub Truth : FormulaTree → Bool → State → Type 0
  Truth f value y = core.is_true reading f y ≡ value

  module _ (c : ℕ) (env : EnvTree) (k : ScopeTree) (h : IsScope c k) (b : IsBelowEnv fields c (length k.sorts) env) where
    pub truth_case : IsFormula reading fields c env k FormulaTree.truth (plain truth c)
    truth_case = record { says = without_facts reading fields c env k (Free reading fields) (λ w. is_true w truth ≡ true) h (λ w r. refl); out = tt }

    pub falsity_case : IsFormula reading fields c env k FormulaTree.falsity (plain falsity c)
    falsity_case = record { says = without_facts reading fields c env k (Free reading fields) (λ w. is_true w falsity ≡ false) h (λ w r. refl); out = tt }

    -- two terms one after another
    abbrev Worth : TermTree → Term → Structure → Type 0
    Worth t a w = value w a ≡ core.value reading t (st reading fields w env)

    terms_case : (x y : TermTree) (m n : Encoded Term) → IsTerm reading fields c env k x m → IsTerm reading fields m.next env k y n
        → Says reading fields c env k (m.facts ++ n.facts) n.next (λ z. Free reading fields z × Free reading fields z) (λ w. Worth x m.out w × Worth y n.out w)
    terms_case x y m n s t = pair reading fields c env k h b m.facts m.next n.facts n.next (Free reading fields) (Free reading fields) (Worth x m.out) (Worth y n.out) s.says t.says

    terms_below : (x y : TermTree) (m n : Encoded Term) → IsTerm reading fields c env k x m → IsTerm reading fields m.next env k y n → IsBelow n.next (length k.sorts) m.out × IsBelow n.next (length k.sorts) n.out
    terms_below x y m n s t = let u = t.says in (below_later m.next n.next (length k.sorts) (length k.sorts) u.rises (omega arith) m.out s.out, t.out)

    pub at_most_case : (x y : TermTree) (m n : Encoded Term) → IsTerm reading fields c env k x m → IsTerm reading fields m.next env k y n → IsFormula reading fields c env k (FormulaTree.at_most x y) (beside at_most m n)
    at_most_case x y m n s t = record {
      says = saying_less reading fields c env k (m.facts ++ n.facts) n.next (λ z. Free reading fields z × Free reading fields z) (Free reading fields) (λ w. Worth x m.out w × Worth y n.out w)
          (λ w. is_true w (at_most m.out n.out) ≡ core.is_true reading (FormulaTree.at_most x y) (st reading fields w env)) h (λ z q. (tt, tt)) (λ w r e i. int_le (e.0 i) (e.1 i)) (terms_case x y m n s t);
      out = terms_below x y m n s t;
    }

    pub equal_case : (x y : TermTree) (m n : Encoded Term) → IsTerm reading fields c env k x m → IsTerm reading fields m.next env k y n → IsFormula reading fields c env k (FormulaTree.equal x y) (beside equal m n)
    equal_case x y m n s t = record {
      says = saying_less reading fields c env k (m.facts ++ n.facts) n.next (λ z. Free reading fields z × Free reading fields z) (Free reading fields) (λ w. Worth x m.out w × Worth y n.out w)
          (λ w. is_true w (equal m.out n.out) ≡ core.is_true reading (FormulaTree.equal x y) (st reading fields w env)) h (λ z q. (tt, tt)) (λ w r e i. int_eq (e.0 i) (e.1 i)) (terms_case x y m n s t);
      out = terms_below x y m n s t;
    }

    -- the formula is true where the core's is
    abbrev Same : FormulaTree → Claim Term → Structure → Type 0
    Same f g w = is_true w g ≡ core.is_true reading f (st reading fields w env)

    pub negation_case : (f : FormulaTree) (m : Encoded (Claim Term)) → IsFormula reading fields c env k f m → IsFormula reading fields c env k (FormulaTree.negation f) (mapped negation m)
    negation_case f m s = record {
      says = saying_less reading fields c env k m.facts m.next (Free reading fields) (Free reading fields) (Same f m.out) (Same (FormulaTree.negation f) (negation m.out)) h (λ z q. q) (λ w r e. ap not e) s.says;
      out = s.out;
    }

    formulas_case : (f g : FormulaTree) (m n : Encoded (Claim Term)) → IsFormula reading fields c env k f m → IsFormula reading fields m.next env k g n
        → Says reading fields c env k (m.facts ++ n.facts) n.next (λ z. Free reading fields z × Free reading fields z) (λ w. Same f m.out w × Same g n.out w)
    formulas_case f g m n s t = pair reading fields c env k h b m.facts m.next n.facts n.next (Free reading fields) (Free reading fields) (Same f m.out) (Same g n.out) s.says t.says

    formulas_below : (f g : FormulaTree) (m n : Encoded (Claim Term)) → IsFormula reading fields c env k f m → IsFormula reading fields m.next env k g n → Each (IsBelow n.next (length k.sorts)) m.out × Each (IsBelow n.next (length k.sorts)) n.out
    formulas_below f g m n s t = let u = t.says in (claim_later m.next n.next (length k.sorts) (length k.sorts) u.rises (omega arith) m.out s.out, t.out)

    pub both_case : (f g : FormulaTree) (m n : Encoded (Claim Term)) → IsFormula reading fields c env k f m → IsFormula reading fields m.next env k g n → IsFormula reading fields c env k (FormulaTree.both f g) (beside both m n)
    both_case f g m n s t = record {
      says = saying_less reading fields c env k (m.facts ++ n.facts) n.next (λ z. Free reading fields z × Free reading fields z) (Free reading fields) (λ w. Same f m.out w × Same g n.out w) (Same (FormulaTree.both f g) (both m.out n.out)) h (λ z q. (tt, tt)) (λ w r e i. e.0 i && e.1 i) (formulas_case f g m n s t);
      out = formulas_below f g m n s t;
    }

    pub either_case : (f g : FormulaTree) (m n : Encoded (Claim Term)) → IsFormula reading fields c env k f m → IsFormula reading fields m.next env k g n → IsFormula reading fields c env k (FormulaTree.either f g) (beside either m n)
    either_case f g m n s t = record {
      says = saying_less reading fields c env k (m.facts ++ n.facts) n.next (λ z. Free reading fields z × Free reading fields z) (Free reading fields) (λ w. Same f m.out w × Same g n.out w) (Same (FormulaTree.either f g) (either m.out n.out)) h (λ z q. (tt, tt)) (λ w r e i. e.0 i || e.1 i) (formulas_case f g m n s t);
      out = formulas_below f g m n s t;
    }

    -- ---- claims

    -- a formula that has this truth, said by a fact
    sign_case : (f : FormulaTree) (value : Bool) (facts : List FactTree) (next : ℕ) (g : Claim Term) (Q : State → Type 0) (P : Structure → Type 0) → Says reading fields c env k facts next Q P
        → ((z : State) → Q z) → Each (IsBelow next (length k.sorts)) g → ((w : Structure) → P w → Same f g w)
        → IsClaim c env k (Truth f value) record { out = tt; facts = facts ++ scoped k (signed value g) ∷ []; next = next }
    sign_case f value facts next g Q P s free gb same =
        stating reading fields c env k h b facts next (signed value g) Q (Truth f value) P (λ w. Truth f value (st reading fields w env)) s (each_signed (IsBelow next (length k.sorts)) value g gb)
        (λ z q. free z) (λ w p q. signed_true w value g (same w p ∙ q)) (λ w p e. sym (same w p) ∙ true_signed w value g e)

    pub truth_claim : (value : Bool) → IsClaim c env k (Truth FormulaTree.truth value) record { out = tt; facts = scoped k (signed value truth) ∷ []; next = c }
    truth_claim value = let r = truth_case in sign_case FormulaTree.truth value [] c truth (Free reading fields) (Same FormulaTree.truth truth) r.says (λ z. tt) tt (λ w e. e)

    pub falsity_claim : (value : Bool) → IsClaim c env k (Truth FormulaTree.falsity value) record { out = tt; facts = scoped k (signed value falsity) ∷ []; next = c }
    falsity_claim value = let r = falsity_case in sign_case FormulaTree.falsity value [] c falsity (Free reading fields) (Same FormulaTree.falsity falsity) r.says (λ z. tt) tt (λ w e. e)

    pub at_most_claim : (value : Bool) (x y : TermTree) (m n : Encoded Term) → IsTerm reading fields c env k x m → IsTerm reading fields m.next env k y n
        → IsClaim c env k (Truth (FormulaTree.at_most x y) value) record { out = tt; facts = m.facts ++ n.facts ++ scoped k (signed value (at_most m.out n.out)) ∷ []; next = n.next }
    at_most_claim value x y m n s t = let r = at_most_case x y m n s t in sign_case (FormulaTree.at_most x y) value (m.facts ++ n.facts) n.next (at_most m.out n.out) (Free reading fields) (Same (FormulaTree.at_most x y) (at_most m.out n.out)) r.says (λ z. tt) r.out (λ w e. e)

    pub equal_claim : (value : Bool) (x y : TermTree) (m n : Encoded Term) → IsTerm reading fields c env k x m → IsTerm reading fields m.next env k y n
        → IsClaim c env k (Truth (FormulaTree.equal x y) value) record { out = tt; facts = m.facts ++ n.facts ++ scoped k (signed value (equal m.out n.out)) ∷ []; next = n.next }
    equal_claim value x y m n s t = let r = equal_case x y m n s t in sign_case (FormulaTree.equal x y) value (m.facts ++ n.facts) n.next (equal m.out n.out) (Free reading fields) (Same (FormulaTree.equal x y) (equal m.out n.out)) r.says (λ z. tt) r.out (λ w e. e)

    pub negation_claim : (f : FormulaTree) (value : Bool) (m : Encoded (Unit {0})) → IsClaim c env k (Truth f (not value)) m → IsClaim c env k (Truth (FormulaTree.negation f) value) m
    negation_claim f value m s =
        saying_less reading fields c env k m.facts m.next (Truth f (not value)) (Truth (FormulaTree.negation f) value) (λ w. Truth f (not value) (st reading fields w env)) (λ w. Truth (FormulaTree.negation f) value (st reading fields w env)) h
        (λ z q. turn (core.is_true reading f z) value q) (λ w r e. turn_back (core.is_true reading f (st reading fields w env)) value e) s

    pub both_true_claim : (f g : FormulaTree) (m n : Encoded (Unit {0})) → IsClaim c env k (Truth f true) m → IsClaim m.next env k (Truth g true) n
        → IsClaim c env k (Truth (FormulaTree.both f g) true) record { out = tt; facts = m.facts ++ n.facts; next = n.next }
    both_true_claim f g m n s t =
        saying_less reading fields c env k (m.facts ++ n.facts) n.next (λ z. Truth f true z × Truth g true z) (Truth (FormulaTree.both f g) true)
        (λ w. Truth f true (st reading fields w env) × Truth g true (st reading fields w env)) (λ w. Truth (FormulaTree.both f g) true (st reading fields w env)) h
        (λ z q. and_parts (core.is_true reading f z) (core.is_true reading g z) q) (λ w r e i. e.0 i && e.1 i)
        (pair reading fields c env k h b m.facts m.next n.facts n.next (Truth f true) (Truth g true) (λ w. Truth f true (st reading fields w env)) (λ w. Truth g true (st reading fields w env)) s t)

    pub either_false_claim : (f g : FormulaTree) (m n : Encoded (Unit {0})) → IsClaim c env k (Truth f false) m → IsClaim m.next env k (Truth g false) n
        → IsClaim c env k (Truth (FormulaTree.either f g) false) record { out = tt; facts = m.facts ++ n.facts; next = n.next }
    either_false_claim f g m n s t =
        saying_less reading fields c env k (m.facts ++ n.facts) n.next (λ z. Truth f false z × Truth g false z) (Truth (FormulaTree.either f g) false)
        (λ w. Truth f false (st reading fields w env) × Truth g false (st reading fields w env)) (λ w. Truth (FormulaTree.either f g) false (st reading fields w env)) h
        (λ z q. or_parts (core.is_true reading f z) (core.is_true reading g z) q) (λ w r e i. e.0 i || e.1 i)
        (pair reading fields c env k h b m.facts m.next n.facts n.next (Truth f false) (Truth g false) (λ w. Truth f false (st reading fields w env)) (λ w. Truth g false (st reading fields w env)) s t)

    pub both_false_claim : (f g : FormulaTree) (m : Encoded (Claim Term)) (n : Encoded (Unit {0})) → IsFormula reading fields c env k f m → IsClaim m.next env (narrowed k (negation m.out)) (Truth g false) n
        → IsClaim c env k (Truth (FormulaTree.both f g) false) record { out = tt; facts = m.facts ++ n.facts; next = n.next }
    both_false_claim f g m n s t =
        branching reading fields c env k h b m.facts m.next (negation m.out) n.facts n.next (Free reading fields) (Truth g false) (Truth (FormulaTree.both f g) false) (Same f m.out)
        (λ w. Truth g false (st reading fields w env)) (λ w. Truth (FormulaTree.both f g) false (st reading fields w env)) s.says t (λ z q. tt)
        (λ w p e q. and_second (core.is_true reading f (st reading fields w env)) (core.is_true reading g (st reading fields w env)) (sym p ∙ not_false (is_true w m.out) e) q)
        (λ w p on. and_false (core.is_true reading f (st reading fields w env)) (core.is_true reading g (st reading fields w env)) (λ e. on (ap not (p ∙ e))))

    pub either_true_claim : (f g : FormulaTree) (m : Encoded (Claim Term)) (n : Encoded (Unit {0})) → IsFormula reading fields c env k f m → IsClaim m.next env (narrowed k m.out) (Truth g true) n
        → IsClaim c env k (Truth (FormulaTree.either f g) true) record { out = tt; facts = m.facts ++ n.facts; next = n.next }
    either_true_claim f g m n s t =
        branching reading fields c env k h b m.facts m.next m.out n.facts n.next (Free reading fields) (Truth g true) (Truth (FormulaTree.either f g) true) (Same f m.out)
        (λ w. Truth g true (st reading fields w env)) (λ w. Truth (FormulaTree.either f g) true (st reading fields w env)) s.says t (λ z q. tt)
        (λ w p e q. or_second (core.is_true reading f (st reading fields w env)) (core.is_true reading g (st reading fields w env)) (sym p ∙ e) q)
        (λ w p on. or_true (core.is_true reading f (st reading fields w env)) (core.is_true reading g (st reading fields w env)) (λ e. on (p ∙ e)))
