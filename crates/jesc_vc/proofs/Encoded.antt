-- What is made of a core's terms and formulas is worth what they are.
use Rattle.std.proofs.Common.{◌≡◌, ℕ, suc, ◌<◌, ◌≤◌, Bool, true, false, List, [], ◌∷◌, ◌++◌, length, refl, sym, ◌∙◌, subst, arith, length-append}
use Rattle.std.specs.Prelude.{not}
use Rattle.jesc_logic.specs.declared.fact.Sort.{Sort}
use Rattle.jesc_logic.specs.Terms.{Term}
use Rattle.jesc_logic.specs.Claims.{negation, Each}
use Rattle.jesc_logic.specs.Structures.{Structure, is_true}
use Rattle.jesc_logic.specs.Structures.{value as value_in}
use Rattle.jesc_core.specs.Trees.{TermTree, TermTrees, no_terms, more_terms, FormulaTree, RangeTree, range}
use Rattle.jesc_core.specs.Fields.{fields_of_term, fields_of_terms, fields_of_formula}
use Rattle.jesc_core.specs.Proper.{IsProperTerm, AreProperTerms, IsProperFormula}
use Rattle.jesc_core.specs.Heaps.{Reading, State}
use Rattle.jesc_core.specs.Values as core
use Rattle.jesc_vc.specs.Facts.{FactTree, IsBelow, AreShort}
use Rattle.jesc_vc.specs.Environments.{EnvTree, env_with, IsBelowEnv}
use Rattle.jesc_vc.specs.Encodings.{ScopeTree, Encoded, narrowed, is_one, symbol_in, widened, next_variable, after_code, encode_term, encode_terms, encode_formula, encode_range, claim_range, claim_formula, for_each, for_some, scoped, within}
use Rattle.jesc_vc.proofs.Below.{below_later, claim_later}
use Rattle.jesc_vc.proofs.States.{env_later, with_below}
use Rattle.jesc_vc.proofs.Scopes.{IsScope, scope_later, scope_narrowed, symbol_below}
use Rattle.jesc_vc.proofs.Widening.{scope_wide, variable_below, code_rises}
use Rattle.jesc_vc.proofs.Saying.{st, Says, Free, saying_less, pair}
use Rattle.jesc_vc.proofs.Choosing.{for_each_says, for_some_says}
use Rattle.jesc_vc.proofs.Truths.{truth_says}
use Rattle.jesc_vc.proofs.RangeTruths.{SomeNumber, EachNumber, each_true, true_each, some_true, true_some, each_false, false_each, some_false, false_some}
use Rattle.jesc_vc.proofs.TermCases.{IsTerm, AreTerms, IsFormula, number_case, variable_case, applied_case, field_case, built_case, top_case, element_case, choose_case, no_terms_case, more_terms_case}
use Rattle.jesc_vc.proofs.FormulaCases.{IsClaim, Truth, truth_case, falsity_case, at_most_case, equal_case, negation_case, both_case, either_case, truth_claim, falsity_claim, at_most_claim, equal_claim, negation_claim, both_true_claim, either_false_claim, both_false_claim, either_true_claim}

-- ---- how many variables

pub short_front : (fs gs : List FactTree) → AreShort (fs ++ gs) → AreShort fs
short_front [] gs h = tt
short_front (f ∷ fs) gs h = (h.0, short_front fs gs h.1)

pub short_back : (fs gs : List FactTree) → AreShort (fs ++ gs) → AreShort gs
short_back [] gs h = h
short_back (f ∷ fs) gs h = short_back fs gs h.1

-- a claim has a fact with the variables of its scope
mutual
  tall_claim : (f : FormulaTree) (value : Bool) (env : EnvTree) (k : ScopeTree) (c : ℕ) → AreShort (let m = claim_formula f value env k c in m.facts) → length k.sorts ≤ 32
  tall_claim FormulaTree.truth value env k c s = s.0
  tall_claim FormulaTree.falsity value env k c s = s.0
  tall_claim (FormulaTree.at_most a b) value env k c s =
      let x = encode_term a env k c in
      let y = encode_term b env k x.next in
      let t = short_back (x.facts ++ y.facts) _ s in t.0
  tall_claim (FormulaTree.equal a b) value env k c s =
      let x = encode_term a env k c in
      let y = encode_term b env k x.next in
      let t = short_back (x.facts ++ y.facts) _ s in t.0
  tall_claim (FormulaTree.negation f) value env k c s = tall_claim f (not value) env k c s
  tall_claim (FormulaTree.both f g) true env k c s =
      let x = claim_formula f true env k c in
      let y = claim_formula g true env k x.next in
      tall_claim f true env k c (short_front x.facts y.facts s)
  tall_claim (FormulaTree.both f g) false env k c s =
      let x = encode_formula f env k c in
      let y = claim_formula g false env (narrowed k (negation x.out)) x.next in
      tall_claim g false env (narrowed k (negation x.out)) x.next (short_back x.facts y.facts s)
  tall_claim (FormulaTree.either f g) true env k c s =
      let x = encode_formula f env k c in
      let y = claim_formula g true env (narrowed k x.out) x.next in
      tall_claim g true env (narrowed k x.out) x.next (short_back x.facts y.facts s)
  tall_claim (FormulaTree.either f g) false env k c s =
      let x = claim_formula f false env k c in
      let y = claim_formula g false env k x.next in
      tall_claim f false env k c (short_front x.facts y.facts s)
  tall_claim (FormulaTree.all r) true env k c s = tall_range r true true env k c s
  tall_claim (FormulaTree.all r) false env k c s = tall_range r false false env k c s
  tall_claim (FormulaTree.any r) true env k c s = tall_range r false true env k c s
  tall_claim (FormulaTree.any r) false env k c s = tall_range r true false env k c s

  tall_range : (r : RangeTree) (every value : Bool) (env : EnvTree) (k : ScopeTree) (c : ℕ) → AreShort (let m = claim_range r every value env k c in m.facts) → length k.sorts ≤ 32
  tall_range (range x sort low high body) true value env k c s =
      let a = encode_term low env k c in
      let b = encode_term high env k a.next in
      let r = for_each x sort a b env k in
      let m = claim_formula body value r.env r.scope r.next in
      let l = length-append k.sorts (sort ∷ []) in
      let t : length (k.sorts ++ sort ∷ []) ≤ 32 = tall_claim body value r.env r.scope r.next (short_back r.facts m.facts s) in
      omega arith
  tall_range (range x sort low high body) false value env k c s =
      let a = encode_term low env k c in
      let b = encode_term high env k a.next in
      let r = for_some x sort a b env k in
      let m = claim_formula body value r.env r.scope r.next in
      tall_claim body value r.env r.scope r.next (short_back r.facts m.facts s)

module _ (reading : Reading) (fields : ℕ) where
  -- what is said of the numbers of a range: of each, or of some
  abbrev pub RangeSays : RangeTree → Bool → Bool → State → Type 0
  RangeSays r true value y = EachNumber (core.span reading r y) value
  RangeSays r false value y = SomeNumber (core.span reading r y) value

  abbrev range_truth : RangeTree → Bool → State → Bool
  range_truth r true y = core.at_each (core.span reading r y)
  range_truth r false y = core.at_some (core.span reading r y)

  truth_to : (r : RangeTree) (every : Bool) (y : State) → range_truth r every y ≡ true → RangeSays r every true y
  truth_to r true y e = each_true (core.span reading r y) e
  truth_to r false y e = some_true (core.span reading r y) e

  to_truth : (r : RangeTree) (every : Bool) (y : State) → RangeSays r every true y → range_truth r every y ≡ true
  to_truth r true y e = true_each (core.span reading r y) e
  to_truth r false y e = true_some (core.span reading r y) e

  falsity_to : (r : RangeTree) (every : Bool) (y : State) → range_truth r every y ≡ false → RangeSays r (not every) false y
  falsity_to r true y e = each_false (core.span reading r y) e
  falsity_to r false y e = some_false (core.span reading r y) e

  to_falsity : (r : RangeTree) (every : Bool) (y : State) → RangeSays r (not every) false y → range_truth r every y ≡ false
  to_falsity r true y e = false_each (core.span reading r y) e
  to_falsity r false y e = false_some (core.span reading r y) e

  -- ---- a range, where its parts are known

  module _ (x : ℕ) (sort : Sort) (low high : TermTree) (body : FormulaTree) (value : Bool) (c : ℕ) (env : EnvTree) (k : ScopeTree) (h : IsScope c k) (b : IsBelowEnv fields c (length k.sorts) env) (m n : Encoded Term)
      (s : IsTerm reading fields c env k low m) (t : IsTerm reading fields m.next env k high n) where
    bounds : Says reading fields c env k (m.facts ++ n.facts) n.next (Free reading fields) (λ w. (value_in w m.out ≡ core.value reading low (st reading fields w env)) × (value_in w n.out ≡ core.value reading high (st reading fields w env)))
    bounds =
        let L : Structure → Type 0 = λ w. value_in w m.out ≡ core.value reading low (st reading fields w env) in
        let H : Structure → Type 0 = λ w. value_in w n.out ≡ core.value reading high (st reading fields w env) in
        saying_less reading fields c env k (m.facts ++ n.facts) n.next (λ y. Free reading fields y × Free reading fields y) (Free reading fields) (λ w. L w × H w) (λ w. L w × H w) h (λ y q. (tt, tt)) (λ w r e. e)
        (pair reading fields c env k h b m.facts m.next n.facts n.next (Free reading fields) (Free reading fields) L H s.says t.says)

    low_below : IsBelow n.next (length k.sorts) m.out
    low_below = let u = t.says in below_later m.next n.next (length k.sorts) (length k.sorts) u.rises (omega arith) m.out s.out

    each_range : (i : Encoded (Unit {0})) → length k.sorts < 32
        → IsClaim reading fields (after_code k n.next) (env_with env x (next_variable k)) (widened k sort m.out n.out n.next) (Truth reading fields body value) i
        → IsClaim reading fields c env k (RangeSays (range x sort low high body) true value) record { out = tt; facts = (m.facts ++ n.facts) ++ i.facts; next = i.next }
    each_range i short claim =
        for_each_says reading fields c env k h b (core.value reading low) (core.value reading high) x (Truth reading fields body value) (m.facts ++ n.facts) n.next sort m.out n.out i.facts i.next short bounds low_below t.out claim

    some_range : (i : Encoded (Unit {0})) → IsClaim reading fields (suc n.next) (env_with env x (symbol_in k n.next)) k (Truth reading fields body value) i
        → IsClaim reading fields c env k (RangeSays (range x sort low high body) false value) record { out = tt; facts = (m.facts ++ n.facts ++ scoped k (within m.out (symbol_in k n.next) n.out) ∷ []) ++ i.facts; next = i.next }
    some_range i claim =
        for_some_says reading fields c env k h b (core.value reading low) (core.value reading high) x (Truth reading fields body value) (m.facts ++ n.facts) n.next m.out n.out i.facts i.next bounds low_below t.out claim

  -- ---- all parts

  abbrev TermIs : TermTree → Type 0
  TermIs t = (env : EnvTree) (k : ScopeTree) (c : ℕ) → IsScope c k → IsBelowEnv fields c (length k.sorts) env → AreShort (let m = encode_term t env k c in m.facts) → IsTerm reading fields c env k t (encode_term t env k c)

  abbrev ClaimIs : FormulaTree → Type 0
  ClaimIs f = (value : Bool) (env : EnvTree) (k : ScopeTree) (c : ℕ) → IsScope c k → IsBelowEnv fields c (length k.sorts) env → AreShort (let m = claim_formula f value env k c in m.facts)
      → IsClaim reading fields c env k (Truth reading fields f value) (claim_formula f value env k c)

  module _ (x : ℕ) (sort : Sort) (low high : TermTree) (body : FormulaTree) (low_is : TermIs low) (high_is : TermIs high) (body_is : ClaimIs body) where
    range_claimed : (every value : Bool) (env : EnvTree) (k : ScopeTree) (c : ℕ) → IsScope c k → IsBelowEnv fields c (length k.sorts) env → AreShort (let m = claim_range (range x sort low high body) every value env k c in m.facts)
        → IsClaim reading fields c env k (RangeSays (range x sort low high body) every value) (claim_range (range x sort low high body) every value env k c)
    range_claimed true value env k c h b short =
        let m = encode_term low env k c in
        let n = encode_term high env k m.next in
        let r = for_each x sort m n env k in
        let i = claim_formula body value r.env r.scope r.next in
        let short_both = short_front (m.facts ++ n.facts) i.facts short in
        let short_in = short_back (m.facts ++ n.facts) i.facts short in
        let s = low_is env k c h b (short_front m.facts n.facts short_both) in
        let sm = s.says in
        let p = sm.rises in
        let l = length k.sorts in
        let t = high_is env k m.next (scope_later c m.next k p h) (env_later fields c m.next l l p (omega arith) env b) (short_back m.facts n.facts short_both) in
        let sn = t.says in
        let q = sn.rises in
        let few = tall_claim body value r.env r.scope r.next short_in in
        let more = length-append k.sorts (sort ∷ []) in
        let less : l < 32 = omega arith in
        let hn = scope_later c n.next k (omega arith) h in
        let code = code_rises n.next k in
        let lower = below_later m.next n.next l l q (omega arith) m.out s.out in
        let wide = scope_wide n.next [] k sort m.out n.out hn lower t.out less in
        let count : suc l ≡ length (k.sorts ++ sort ∷ []) = omega arith in
        let env_in = with_below fields r.next (suc l) env x (next_variable k) (env_later fields c r.next l (suc l) (omega arith) (omega arith) env b) (variable_below r.next k less) in
        each_range x sort low high body value c env k h b m n s t i less (body_is value r.env r.scope r.next wide (subst (λ y. IsBelowEnv fields r.next y r.env) count env_in) short_in)
    range_claimed false value env k c h b short =
        let m = encode_term low env k c in
        let n = encode_term high env k m.next in
        let r = for_some x sort m n env k in
        let i = claim_formula body value r.env r.scope r.next in
        let short_fact = short_front r.facts i.facts short in
        let short_both = short_front (m.facts ++ n.facts) (scoped k (within m.out (symbol_in k n.next) n.out) ∷ []) short_fact in
        let short_in = short_back r.facts i.facts short in
        let s = low_is env k c h b (short_front m.facts n.facts short_both) in
        let sm = s.says in
        let p = sm.rises in
        let l = length k.sorts in
        let t = high_is env k m.next (scope_later c m.next k p h) (env_later fields c m.next l l p (omega arith) env b) (short_back m.facts n.facts short_both) in
        let sn = t.says in
        let q = sn.rises in
        let hn = scope_later c n.next k (omega arith) h in
        let env_in = with_below fields r.next l env x (symbol_in k n.next) (env_later fields c r.next l l (omega arith) (omega arith) env b) (symbol_below n.next k hn) in
        some_range x sort low high body value c env k h b m n s t i (body_is value r.env r.scope r.next (scope_later c r.next k (omega arith) h) env_in short_in)

    range_encoded : (every : Bool) (f : FormulaTree) → ((y : State) → core.is_true reading f y ≡ range_truth (range x sort low high body) every y)
        → (env : EnvTree) (k : ScopeTree) (c : ℕ) → IsScope c k → IsBelowEnv fields c (length k.sorts) env → AreShort (let m = encode_range (range x sort low high body) every env k c in m.facts)
        → IsFormula reading fields c env k f (encode_range (range x sort low high body) every env k c)
    range_encoded every f is env k c h b short =
        let r = range x sort low high body in
        let l = length k.sorts in
        let one = is_one (symbol_in k c) in
        let hs = scope_later c (suc c) k (omega arith) h in
        let bs = env_later fields c (suc c) l l (omega arith) (omega arith) env b in
        let one_below : Each (IsBelow (suc c) l) one = (symbol_below c k h, tt) in
        let yes_part = claim_range r every true env (narrowed k (negation one)) (suc c) in
        let no_part = claim_range r (not every) false env (narrowed k one) yes_part.next in
        let yes_says = range_claimed every true env (narrowed k (negation one)) (suc c) (scope_narrowed (suc c) k (negation one) hs one_below) bs (short_front yes_part.facts no_part.facts short) in
        let p = yes_says.rises in
        let no_says = range_claimed (not every) false env (narrowed k one) yes_part.next
        (scope_narrowed yes_part.next k one (scope_later c yes_part.next k (omega arith) h) (claim_later (suc c) yes_part.next l l p (omega arith) one one_below))
        (env_later fields c yes_part.next l l (omega arith) (omega arith) env b) (short_back yes_part.facts no_part.facts short) in
        let q = no_says.rises in
        let all = truth_says reading fields c env k h b (range_truth r every) yes_part.facts yes_part.next no_part.facts no_part.next (RangeSays r every true) (RangeSays r (not every) false) yes_says no_says
        (truth_to r every) (to_truth r every) (falsity_to r every) (to_falsity r every) in
        record {
          says = saying_less reading fields c env k (yes_part.facts ++ no_part.facts) no_part.next (Free reading fields) (Free reading fields) (λ w. is_true w one ≡ range_truth r every (st reading fields w env))
              (λ w. is_true w one ≡ core.is_true reading f (st reading fields w env)) h (λ y t. tt) (λ w t e. e ∙ sym (is (st reading fields w env))) all;
          out = claim_later (suc c) no_part.next l l (omega arith) (omega arith) one one_below;
        }

  -- ---- all forms

  mutual
    pub encoded_term : (t : TermTree) (env : EnvTree) (k : ScopeTree) (c : ℕ) → IsProperTerm t → fields_of_term t ≤ fields → IsScope c k → IsBelowEnv fields c (length k.sorts) env
        → AreShort (let m = encode_term t env k c in m.facts) → IsTerm reading fields c env k t (encode_term t env k c)
    encoded_term (TermTree.number n) env k c fine few h b short = number_case reading fields c env k h b n
    encoded_term (TermTree.variable x) env k c fine few h b short = variable_case reading fields c env k h b x
    encoded_term (TermTree.applied symbol args) env k c fine few h b short =
        applied_case reading fields c env k h b symbol args (encode_terms args env k c) fine.0 (encoded_terms args env k c fine.1 few h b short)
    encoded_term (TermTree.field g f object) env k c fine few h b short =
        field_case reading fields c env k h b g f object (encode_term object env k c) (omega arith) (encoded_term object env k c fine (omega arith) h b short)
    encoded_term (TermTree.element g array index) env k c fine few h b short =
        let m = encode_term array env k c in
        let n = encode_term index env k m.next in
        let s = encoded_term array env k c fine.0 (omega arith) h b (short_front m.facts n.facts short) in
        let sm = s.says in
        let p = sm.rises in
        element_case reading fields c env k h b g array index m n s
        (encoded_term index env k m.next fine.1 (omega arith) (scope_later c m.next k p h) (env_later fields c m.next (length k.sorts) (length k.sorts) p (omega arith) env b) (short_back m.facts n.facts short))
    encoded_term (TermTree.top g) env k c fine few h b short = top_case reading fields c env k h b g
    encoded_term (TermTree.built g object) env k c fine few h b short =
        built_case reading fields c env k h b g object (encode_term object env k c) (encoded_term object env k c fine few h b short)
    encoded_term (TermTree.choose f x y) env k c fine few h b short =
        let g = encode_formula f env k c in
        let m = encode_term x env k g.next in
        let n = encode_term y env k m.next in
        let l = length k.sorts in
        let three = short_front (g.facts ++ m.facts ++ n.facts) _ short in
        let two = short_front (g.facts ++ m.facts) n.facts three in
        let r = encoded_formula f env k c fine.0 (omega arith) h b (short_front g.facts m.facts two) in
        let sg = r.says in
        let p = sg.rises in
        let s = encoded_term x env k g.next fine.1 (omega arith) (scope_later c g.next k p h) (env_later fields c g.next l l p (omega arith) env b) (short_back g.facts m.facts two) in
        let sm = s.says in
        let q = sm.rises in
        let t = encoded_term y env k m.next fine.2 (omega arith) (scope_later c m.next k (omega arith) h) (env_later fields c m.next l l (omega arith) (omega arith) env b) (short_back (g.facts ++ m.facts) n.facts three) in
        choose_case reading fields c env k h b f x y g m n r s t

    encoded_terms : (ts : TermTrees) (env : EnvTree) (k : ScopeTree) (c : ℕ) → AreProperTerms ts → fields_of_terms ts ≤ fields → IsScope c k → IsBelowEnv fields c (length k.sorts) env
        → AreShort (let m = encode_terms ts env k c in m.facts) → AreTerms reading fields c env k ts (encode_terms ts env k c)
    encoded_terms no_terms env k c fine few h b short = no_terms_case reading fields c env k h b
    encoded_terms (more_terms t ts) env k c fine few h b short =
        let m = encode_term t env k c in
        let ms = encode_terms ts env k m.next in
        let s = encoded_term t env k c fine.0 (omega arith) h b (short_front m.facts ms.facts short) in
        let sm = s.says in
        let p = sm.rises in
        more_terms_case reading fields c env k h b t ts m ms s
        (encoded_terms ts env k m.next fine.1 (omega arith) (scope_later c m.next k p h) (env_later fields c m.next (length k.sorts) (length k.sorts) p (omega arith) env b) (short_back m.facts ms.facts short))

    pub encoded_formula : (f : FormulaTree) (env : EnvTree) (k : ScopeTree) (c : ℕ) → IsProperFormula f → fields_of_formula f ≤ fields → IsScope c k → IsBelowEnv fields c (length k.sorts) env
        → AreShort (let m = encode_formula f env k c in m.facts) → IsFormula reading fields c env k f (encode_formula f env k c)
    encoded_formula FormulaTree.truth env k c fine few h b short = truth_case reading fields c env k h b
    encoded_formula FormulaTree.falsity env k c fine few h b short = falsity_case reading fields c env k h b
    encoded_formula (FormulaTree.at_most x y) env k c fine few h b short =
        let m = encode_term x env k c in
        let n = encode_term y env k m.next in
        let s = encoded_term x env k c fine.0 (omega arith) h b (short_front m.facts n.facts short) in
        let sm = s.says in
        let p = sm.rises in
        at_most_case reading fields c env k h b x y m n s
        (encoded_term y env k m.next fine.1 (omega arith) (scope_later c m.next k p h) (env_later fields c m.next (length k.sorts) (length k.sorts) p (omega arith) env b) (short_back m.facts n.facts short))
    encoded_formula (FormulaTree.equal x y) env k c fine few h b short =
        let m = encode_term x env k c in
        let n = encode_term y env k m.next in
        let s = encoded_term x env k c fine.0 (omega arith) h b (short_front m.facts n.facts short) in
        let sm = s.says in
        let p = sm.rises in
        equal_case reading fields c env k h b x y m n s
        (encoded_term y env k m.next fine.1 (omega arith) (scope_later c m.next k p h) (env_later fields c m.next (length k.sorts) (length k.sorts) p (omega arith) env b) (short_back m.facts n.facts short))
    encoded_formula (FormulaTree.negation f) env k c fine few h b short = negation_case reading fields c env k h b f (encode_formula f env k c) (encoded_formula f env k c fine few h b short)
    encoded_formula (FormulaTree.both f g) env k c fine few h b short =
        let m = encode_formula f env k c in
        let n = encode_formula g env k m.next in
        let s = encoded_formula f env k c fine.0 (omega arith) h b (short_front m.facts n.facts short) in
        let sm = s.says in
        let p = sm.rises in
        both_case reading fields c env k h b f g m n s
        (encoded_formula g env k m.next fine.1 (omega arith) (scope_later c m.next k p h) (env_later fields c m.next (length k.sorts) (length k.sorts) p (omega arith) env b) (short_back m.facts n.facts short))
    encoded_formula (FormulaTree.either f g) env k c fine few h b short =
        let m = encode_formula f env k c in
        let n = encode_formula g env k m.next in
        let s = encoded_formula f env k c fine.0 (omega arith) h b (short_front m.facts n.facts short) in
        let sm = s.says in
        let p = sm.rises in
        either_case reading fields c env k h b f g m n s
        (encoded_formula g env k m.next fine.1 (omega arith) (scope_later c m.next k p h) (env_later fields c m.next (length k.sorts) (length k.sorts) p (omega arith) env b) (short_back m.facts n.facts short))
    encoded_formula (FormulaTree.all (range x sort low high body)) env k c fine few h b short =
        range_encoded x sort low high body
        (λ e j d hj bj sj. encoded_term low e j d fine.0 (omega arith) hj bj sj) (λ e j d hj bj sj. encoded_term high e j d fine.1 (omega arith) hj bj sj) (λ v e j d hj bj sj. claimed_formula body v e j d fine.2 (omega arith) hj bj sj)
        true (FormulaTree.all (range x sort low high body)) (λ y. refl) env k c h b short
    encoded_formula (FormulaTree.any (range x sort low high body)) env k c fine few h b short =
        range_encoded x sort low high body
        (λ e j d hj bj sj. encoded_term low e j d fine.0 (omega arith) hj bj sj) (λ e j d hj bj sj. encoded_term high e j d fine.1 (omega arith) hj bj sj) (λ v e j d hj bj sj. claimed_formula body v e j d fine.2 (omega arith) hj bj sj)
        false (FormulaTree.any (range x sort low high body)) (λ y. refl) env k c h b short

    pub claimed_formula : (f : FormulaTree) (value : Bool) (env : EnvTree) (k : ScopeTree) (c : ℕ) → IsProperFormula f → fields_of_formula f ≤ fields → IsScope c k → IsBelowEnv fields c (length k.sorts) env
        → AreShort (let m = claim_formula f value env k c in m.facts) → IsClaim reading fields c env k (Truth reading fields f value) (claim_formula f value env k c)
    claimed_formula FormulaTree.truth value env k c fine few h b short = truth_claim reading fields c env k h b value
    claimed_formula FormulaTree.falsity value env k c fine few h b short = falsity_claim reading fields c env k h b value
    claimed_formula (FormulaTree.at_most x y) value env k c fine few h b short =
        let m = encode_term x env k c in
        let n = encode_term y env k m.next in
        let two = short_front (m.facts ++ n.facts) _ short in
        let s = encoded_term x env k c fine.0 (omega arith) h b (short_front m.facts n.facts two) in
        let sm = s.says in
        let p = sm.rises in
        at_most_claim reading fields c env k h b value x y m n s
        (encoded_term y env k m.next fine.1 (omega arith) (scope_later c m.next k p h) (env_later fields c m.next (length k.sorts) (length k.sorts) p (omega arith) env b) (short_back m.facts n.facts two))
    claimed_formula (FormulaTree.equal x y) value env k c fine few h b short =
        let m = encode_term x env k c in
        let n = encode_term y env k m.next in
        let two = short_front (m.facts ++ n.facts) _ short in
        let s = encoded_term x env k c fine.0 (omega arith) h b (short_front m.facts n.facts two) in
        let sm = s.says in
        let p = sm.rises in
        equal_claim reading fields c env k h b value x y m n s
        (encoded_term y env k m.next fine.1 (omega arith) (scope_later c m.next k p h) (env_later fields c m.next (length k.sorts) (length k.sorts) p (omega arith) env b) (short_back m.facts n.facts two))
    claimed_formula (FormulaTree.negation f) value env k c fine few h b short = negation_claim reading fields c env k h b f value (claim_formula f (not value) env k c) (claimed_formula f (not value) env k c fine few h b short)
    claimed_formula (FormulaTree.both f g) true env k c fine few h b short =
        let m = claim_formula f true env k c in
        let n = claim_formula g true env k m.next in
        let s = claimed_formula f true env k c fine.0 (omega arith) h b (short_front m.facts n.facts short) in
        let p = s.rises in
        both_true_claim reading fields c env k h b f g m n s
        (claimed_formula g true env k m.next fine.1 (omega arith) (scope_later c m.next k p h) (env_later fields c m.next (length k.sorts) (length k.sorts) p (omega arith) env b) (short_back m.facts n.facts short))
    claimed_formula (FormulaTree.both f g) false env k c fine few h b short =
        let m = encode_formula f env k c in
        let n = claim_formula g false env (narrowed k (negation m.out)) m.next in
        let s = encoded_formula f env k c fine.0 (omega arith) h b (short_front m.facts n.facts short) in
        let sm = s.says in
        let p = sm.rises in
        both_false_claim reading fields c env k h b f g m n s
        (claimed_formula g false env (narrowed k (negation m.out)) m.next fine.1 (omega arith) (scope_narrowed m.next k (negation m.out) (scope_later c m.next k p h) s.out) (env_later fields c m.next (length k.sorts) (length k.sorts) p (omega arith) env b) (short_back m.facts n.facts short))
    claimed_formula (FormulaTree.either f g) true env k c fine few h b short =
        let m = encode_formula f env k c in
        let n = claim_formula g true env (narrowed k m.out) m.next in
        let s = encoded_formula f env k c fine.0 (omega arith) h b (short_front m.facts n.facts short) in
        let sm = s.says in
        let p = sm.rises in
        either_true_claim reading fields c env k h b f g m n s
        (claimed_formula g true env (narrowed k m.out) m.next fine.1 (omega arith) (scope_narrowed m.next k m.out (scope_later c m.next k p h) s.out) (env_later fields c m.next (length k.sorts) (length k.sorts) p (omega arith) env b) (short_back m.facts n.facts short))
    claimed_formula (FormulaTree.either f g) false env k c fine few h b short =
        let m = claim_formula f false env k c in
        let n = claim_formula g false env k m.next in
        let s = claimed_formula f false env k c fine.0 (omega arith) h b (short_front m.facts n.facts short) in
        let p = s.rises in
        either_false_claim reading fields c env k h b f g m n s
        (claimed_formula g false env k m.next fine.1 (omega arith) (scope_later c m.next k p h) (env_later fields c m.next (length k.sorts) (length k.sorts) p (omega arith) env b) (short_back m.facts n.facts short))
    claimed_formula (FormulaTree.all (range x sort low high body)) true env k c fine few h b short =
        let r = range x sort low high body in
        let m = claim_range r true true env k c in
        saying_less reading fields c env k m.facts m.next (RangeSays r true true) (Truth reading fields (FormulaTree.all r) true) (λ w. RangeSays r true true (st reading fields w env)) (λ w. Truth reading fields (FormulaTree.all r) true (st reading fields w env)) h
        (λ y e. each_true (core.span reading r y) e) (λ w q e. true_each (core.span reading r (st reading fields w env)) e)
        (range_claimed x sort low high body
        (λ e j d hj bj sj. encoded_term low e j d fine.0 (omega arith) hj bj sj) (λ e j d hj bj sj. encoded_term high e j d fine.1 (omega arith) hj bj sj) (λ v e j d hj bj sj. claimed_formula body v e j d fine.2 (omega arith) hj bj sj)
        true true env k c h b short)
    claimed_formula (FormulaTree.all (range x sort low high body)) false env k c fine few h b short =
        let r = range x sort low high body in
        let m = claim_range r false false env k c in
        saying_less reading fields c env k m.facts m.next (RangeSays r false false) (Truth reading fields (FormulaTree.all r) false) (λ w. RangeSays r false false (st reading fields w env)) (λ w. Truth reading fields (FormulaTree.all r) false (st reading fields w env)) h
        (λ y e. each_false (core.span reading r y) e) (λ w q e. false_each (core.span reading r (st reading fields w env)) e)
        (range_claimed x sort low high body
        (λ e j d hj bj sj. encoded_term low e j d fine.0 (omega arith) hj bj sj) (λ e j d hj bj sj. encoded_term high e j d fine.1 (omega arith) hj bj sj) (λ v e j d hj bj sj. claimed_formula body v e j d fine.2 (omega arith) hj bj sj)
        false false env k c h b short)
    claimed_formula (FormulaTree.any (range x sort low high body)) true env k c fine few h b short =
        let r = range x sort low high body in
        let m = claim_range r false true env k c in
        saying_less reading fields c env k m.facts m.next (RangeSays r false true) (Truth reading fields (FormulaTree.any r) true) (λ w. RangeSays r false true (st reading fields w env)) (λ w. Truth reading fields (FormulaTree.any r) true (st reading fields w env)) h
        (λ y e. some_true (core.span reading r y) e) (λ w q e. true_some (core.span reading r (st reading fields w env)) e)
        (range_claimed x sort low high body
        (λ e j d hj bj sj. encoded_term low e j d fine.0 (omega arith) hj bj sj) (λ e j d hj bj sj. encoded_term high e j d fine.1 (omega arith) hj bj sj) (λ v e j d hj bj sj. claimed_formula body v e j d fine.2 (omega arith) hj bj sj)
        false true env k c h b short)
    claimed_formula (FormulaTree.any (range x sort low high body)) false env k c fine few h b short =
        let r = range x sort low high body in
        let m = claim_range r true false env k c in
        saying_less reading fields c env k m.facts m.next (RangeSays r true false) (Truth reading fields (FormulaTree.any r) false) (λ w. RangeSays r true false (st reading fields w env)) (λ w. Truth reading fields (FormulaTree.any r) false (st reading fields w env)) h
        (λ y e. some_false (core.span reading r y) e) (λ w q e. false_some (core.span reading r (st reading fields w env)) e)
        (range_claimed x sort low high body
        (λ e j d hj bj sj. encoded_term low e j d fine.0 (omega arith) hj bj sj) (λ e j d hj bj sj. encoded_term high e j d fine.1 (omega arith) hj bj sj) (λ v e j d hj bj sj. claimed_formula body v e j d fine.2 (omega arith) hj bj sj)
        true false env k c h b short)
