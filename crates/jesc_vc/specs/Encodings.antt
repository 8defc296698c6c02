-- The terms and facts that are made of a core's terms and formulas. The laws say what they are worth.
use Rattle.std.specs.Prelude.{ℕ, suc, ◌+◌, pos, Bool, true, false, not, List, [], ◌∷◌, ◌++◌, length, nat_lt, if◌then◌else◌}
use Rattle.jesc_logic.specs.declared.fact.Sort.{Sort}
use Rattle.jesc_logic.specs.Terms.{Term, number, constant, applied}
use Rattle.jesc_logic.specs.Claims.{Claim, truth, falsity, at_most, equal, negation, both, either}
use Rattle.jesc_core.specs.Trees.{TermTree, TermTrees, no_terms, more_terms, FormulaTree, RangeTree, range}
use Rattle.jesc_vc.specs.Facts.{FactTree, auxiliary}
use Rattle.jesc_vc.specs.Environments.{EnvTree, tree_named, env_with, read_one, read_two}

-- ---- scopes

-- The variables of facts, of which the terms of `code` tell the values apart wherever the guard is false. Where it is true
-- nothing is said.
pub record ScopeTree : Type 0 where
  pub sorts : List Sort
  pub code : List Term
  pub guard : Claim Term

-- where the guard can't be true, nothing stands before the formula
abbrev pub guarded : Claim Term → Claim Term → Claim Term
guarded falsity body = body
guarded truth body = either truth body
guarded (at_most a b) body = either (at_most a b) body
guarded (equal a b) body = either (equal a b) body
guarded (negation f) body = either (negation f) body
guarded (both f g) body = either (both f g) body
guarded (either f g) body = either (either f g) body

abbrev pub scoped : ScopeTree → Claim Term → FactTree
scoped k body = record { sorts = k.sorts; body = guarded k.guard body }

-- the same scope where the formula is false
abbrev pub narrowed : ScopeTree → Claim Term → ScopeTree
narrowed k f = record k { guard = guarded k.guard f }

-- ---- symbols

-- an auxiliary symbol of the scope's code
abbrev pub symbol_in : ScopeTree → ℕ → Term
symbol_in k c = applied (auxiliary + c) k.code

-- a code of at most two terms
abbrev pub short_code : ScopeTree → ℕ → List Term
short_code k c = if nat_lt (length k.code) 3 then k.code else symbol_in k c ∷ []

abbrev pub after_code : ScopeTree → ℕ → ℕ
after_code k c = if nat_lt (length k.code) 3 then c else suc c

-- the next variable of a scope
abbrev pub next_variable : ScopeTree → Term
next_variable k = constant (32 + length k.sorts)

-- one more variable, from a low to a high number
abbrev pub widened : ScopeTree → Sort → Term → Term → ℕ → ScopeTree
widened k sort low high c = record {
  sorts = k.sorts ++ sort ∷ [];
  code = short_code k c ++ next_variable k ∷ [];
  guard = guarded k.guard (negation (both (at_most low (next_variable k)) (at_most (next_variable k) high)));
}

-- ---- what is made

-- what it is, the facts that go with it, and the number of the next auxiliary symbol
pub record Encoded (T : Type 0) : Type 0 where
  pub out : T
  pub facts : List FactTree
  pub next : ℕ

abbrev pub plain : {T : Type 0} → T → ℕ → Encoded T
plain t c = record { out = t; facts = []; next = c }

-- the facts of both, the second made after the first
abbrev pub beside : {T U V : Type 0} → (T → U → V) → Encoded T → Encoded U → Encoded V
beside f a b = record { out = f a.out b.out; facts = a.facts ++ b.facts; next = b.next }

abbrev pub mapped : {T U : Type 0} → (T → U) → Encoded T → Encoded U
mapped f a = record { out = f a.out; facts = a.facts; next = a.next }

-- what is said after something was made
abbrev pub behind : {T : Type 0} → Encoded T → List FactTree → Encoded T
behind a more = record a { facts = a.facts ++ more }

-- formulas that are true where another formula is or isn't
abbrev pub signed : Bool → Claim Term → Claim Term
signed true f = f
signed false f = negation f

-- the symbol is the first term where the formula is true, and else the second
abbrev pub choice_facts : ScopeTree → Claim Term → Term → Term → Term → List FactTree
choice_facts k f s a b = scoped k (either (negation f) (equal s a)) ∷ scoped k (either f (equal s b)) ∷ []

-- the term is from a low to a high one
abbrev pub within : Term → Term → Term → Claim Term
within low t high = both (at_most low t) (at_most t high)

-- the terms of a range, the variable's included, and the scope and environment of its body
pub record Ranged : Type 0 where
  pub scope : ScopeTree
  pub env : EnvTree
  pub facts : List FactTree
  pub next : ℕ

-- the body at each number: one more variable
abbrev pub for_each : ℕ → Sort → Encoded Term → Encoded Term → EnvTree → ScopeTree → Ranged
for_each x sort low high env k = record {
  scope = widened k sort low.out high.out high.next;
  env = env_with env x (next_variable k);
  facts = low.facts ++ high.facts;
  next = after_code k high.next;
}

-- the body at some number: a symbol for it
abbrev pub for_some : ℕ → Sort → Encoded Term → Encoded Term → EnvTree → ScopeTree → Ranged
for_some x sort low high env k = record {
  scope = k;
  env = env_with env x (symbol_in k high.next);
  facts = low.facts ++ high.facts ++ scoped k (within low.out (symbol_in k high.next) high.out) ∷ [];
  next = suc high.next;
}

abbrev pub ranged : Bool → ℕ → Sort → Encoded Term → Encoded Term → EnvTree → ScopeTree → Ranged
ranged true x sort low high env k = for_each x sort low high env k
ranged false x sort low high env k = for_some x sort low high env k

-- a symbol that is 1 exactly where a formula is true: first the facts where it is true, then those where it is false
abbrev pub is_one : Term → Claim Term
is_one t = equal t (number (pos 1))

abbrev mutual
  pub encode_term : TermTree → EnvTree → ScopeTree → ℕ → Encoded Term
  encode_term (TermTree.number n) env k c = plain (number n) c
  encode_term (TermTree.variable x) env k c = plain (env.variables x) c
  encode_term (TermTree.applied symbol args) env k c = mapped (applied symbol) (encode_terms args env k c)
  encode_term (TermTree.field h f object) env k c = let t = tree_named env h in mapped (read_one (t.field f)) (encode_term object env k c)
  encode_term (TermTree.element h array index) env k c =
      let t = tree_named env h in
      let a = encode_term array env k c in
      beside (read_two t.element) a (encode_term index env k a.next)
  encode_term (TermTree.top h) env k c = let t = tree_named env h in plain t.top c
  encode_term (TermTree.built h object) env k c = let t = tree_named env h in mapped (read_one t.built) (encode_term object env k c)
  encode_term (TermTree.choose f a b) env k c =
      let g = encode_formula f env k c in
      let x = encode_term a env k g.next in
      let y = encode_term b env k x.next in
      record {
        out = symbol_in k y.next;
        facts = g.facts ++ x.facts ++ y.facts ++ choice_facts k g.out (symbol_in k y.next) x.out y.out;
        next = suc y.next;
      }

  pub encode_terms : TermTrees → EnvTree → ScopeTree → ℕ → Encoded (List Term)
  encode_terms no_terms env k c = plain [] c
  encode_terms (more_terms t ts) env k c = let a = encode_term t env k c in beside ◌∷◌ a (encode_terms ts env k a.next)

  -- a formula that is true exactly where the core's formula is
  pub encode_formula : FormulaTree → EnvTree → ScopeTree → ℕ → Encoded (Claim Term)
  encode_formula FormulaTree.truth env k c = plain truth c
  encode_formula FormulaTree.falsity env k c = plain falsity c
  encode_formula (FormulaTree.at_most a b) env k c = let x = encode_term a env k c in beside at_most x (encode_term b env k x.next)
  encode_formula (FormulaTree.equal a b) env k c = let x = encode_term a env k c in beside equal x (encode_term b env k x.next)
  encode_formula (FormulaTree.negation f) env k c = mapped negation (encode_formula f env k c)
  encode_formula (FormulaTree.both f g) env k c = let x = encode_formula f env k c in beside both x (encode_formula g env k x.next)
  encode_formula (FormulaTree.either f g) env k c = let x = encode_formula f env k c in beside either x (encode_formula g env k x.next)
  encode_formula (FormulaTree.all r) env k c = encode_range r true env k c
  encode_formula (FormulaTree.any r) env k c = encode_range r false env k c

  -- the symbol of a range: with true, of the formula at each number, and with false, at some number
  pub encode_range : RangeTree → Bool → EnvTree → ScopeTree → ℕ → Encoded (Claim Term)
  encode_range (range x sort low high body) every env k c =
      let t = symbol_in k c in
      let where_one = narrowed k (negation (is_one t)) in
      let a = encode_term low env where_one (suc c) in
      let b = encode_term high env where_one a.next in
      let r = ranged every x sort a b env where_one in
      let yes = claim_formula body true r.env r.scope r.next in
      let elsewhere = narrowed k (is_one t) in
      let d = encode_term low env elsewhere yes.next in
      let e = encode_term high env elsewhere d.next in
      let q = ranged (not every) x sort d e env elsewhere in
      let no = claim_formula body false q.env q.scope q.next in
      record { out = is_one t; facts = (r.facts ++ yes.facts) ++ (q.facts ++ no.facts); next = no.next }

  -- facts that say that the body has this truth: with true at each number of the range, and with false at some number
  pub claim_range : RangeTree → Bool → Bool → EnvTree → ScopeTree → ℕ → Encoded (Unit {0})
  claim_range (range x sort low high body) every value env k c =
      let a = encode_term low env k c in
      let b = encode_term high env k a.next in
      let r = ranged every x sort a b env k in
      let inner = claim_formula body value r.env r.scope r.next in
      record { out = tt; facts = r.facts ++ inner.facts; next = inner.next }

  -- facts that say that the formula has this truth
  pub claim_formula : FormulaTree → Bool → EnvTree → ScopeTree → ℕ → Encoded (Unit {0})
  claim_formula FormulaTree.truth value env k c = record { out = tt; facts = scoped k (signed value truth) ∷ []; next = c }
  claim_formula FormulaTree.falsity value env k c = record { out = tt; facts = scoped k (signed value falsity) ∷ []; next = c }
  claim_formula (FormulaTree.at_most a b) value env k c =
      let x = encode_term a env k c in
      let y = encode_term b env k x.next in
      record { out = tt; facts = x.facts ++ y.facts ++ scoped k (signed value (at_most x.out y.out)) ∷ []; next = y.next }
  claim_formula (FormulaTree.equal a b) value env k c =
      let x = encode_term a env k c in
      let y = encode_term b env k x.next in
      record { out = tt; facts = x.facts ++ y.facts ++ scoped k (signed value (equal x.out y.out)) ∷ []; next = y.next }
  claim_formula (FormulaTree.negation f) value env k c = claim_formula f (not value) env k c
  claim_formula (FormulaTree.both f g) true env k c =
      let x = claim_formula f true env k c in
      let y = claim_formula g true env k x.next in
      record { out = tt; facts = x.facts ++ y.facts; next = y.next }
  claim_formula (FormulaTree.both f g) false env k c =
      let x = encode_formula f env k c in
      let y = claim_formula g false env (narrowed k (negation x.out)) x.next in
      record { out = tt; facts = x.facts ++ y.facts; next = y.next }
  claim_formula (FormulaTree.either f g) true env k c =
      let x = encode_formula f env k c in
      let y = claim_formula g true env (narrowed k x.out) x.next in
      record { out = tt; facts = x.facts ++ y.facts; next = y.next }
  claim_formula (FormulaTree.either f g) false env k c =
      let x = claim_formula f false env k c in
      let y = claim_formula g false env k x.next in
      record { out = tt; facts = x.facts ++ y.facts; next = y.next }
  claim_formula (FormulaTree.all r) true env k c = claim_range r true true env k c
  claim_formula (FormulaTree.all r) false env k c = claim_range r false false env k c
  claim_formula (FormulaTree.any r) true env k c = claim_range r false true env k c
  claim_formula (FormulaTree.any r) false env k c = claim_range r true false env k c
