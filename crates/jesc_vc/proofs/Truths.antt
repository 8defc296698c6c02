-- A symbol that is 1 exactly where a state is of a kind.
use Rattle.std.proofs.Common.{◌≡◌, ℕ, suc, Bool, true, false, List, ◌++◌, length, refl, sym, ap, ◌∙◌, arith, if◌then◌else◌}
use Rattle.std.specs.Prelude.{ℤ, pos, not}
use Rattle.std.specs.Ordering.{int_eq}
use Rattle.std.proofs.lemmas.Bool.Decides.{Decides-int_eq}
use Rattle.jesc_logic.specs.Terms.{Term}
use Rattle.jesc_logic.specs.Claims.{Claim, negation}
use Rattle.jesc_logic.specs.Structures.{Structure, value, is_true}
use Rattle.jesc_core.specs.Heaps.{Reading, State}
use Rattle.jesc_vc.specs.Facts.{FactTree, AreMet, Shares}
use Rattle.jesc_vc.specs.Environments.{EnvTree, IsBelowEnv}
use Rattle.jesc_vc.specs.Encodings.{ScopeTree, narrowed, symbol_in, is_one}
use Rattle.jesc_vc.proofs.Readings.{agree_back}
use Rattle.jesc_vc.proofs.Below.{same_value, met_later, facts_later, below_facts_append, met_append, met_front, met_back}
use Rattle.jesc_vc.proofs.States.{shares_later, same_state, env_later}
use Rattle.jesc_vc.proofs.Scopes.{at, Inside, IsScope, scope_later, agree_at, inside_later, finite_later, symbol_below, interpret, inside_narrowed, narrowed_inside, finite_narrowed}
use Rattle.jesc_vc.proofs.Saying.{agree_on, st, Says, Free}

abbrev number_of : Bool → ℤ
number_of b = if b then pos 1 else pos 0

one_is : (t : Bool) (z : ℤ) → z ≡ number_of t → int_eq z (pos 1) ≡ t
one_is true z e = let d = Decides-int_eq z (pos 1) in d.1 e
one_is false z e = ap (λ y. int_eq y (pos 1)) e

not_false : (b : Bool) → not b ≡ false → b ≡ true
not_false true e = refl
not_false false e = cc

module _ (reading : Reading) (fields : ℕ) (c : ℕ) (env : EnvTree) (k : ScopeTree) (h : IsScope c k) (b : IsBelowEnv fields c (length k.sorts) env) (T : State → Bool) where
  abbrev one : Claim Term
  one = is_one (symbol_in k c)

  pub truth_says : (fs : List FactTree) (d : ℕ) (gs : List FactTree) (e : ℕ) (Q1 Q2 : State → Type 0)
      → Says reading fields (suc c) env (narrowed k (negation one)) fs d Q1 (λ w. Q1 (st reading fields w env)) → Says reading fields d env (narrowed k one) gs e Q2 (λ w. Q2 (st reading fields w env))
      → ((y : State) → T y ≡ true → Q1 y) → ((y : State) → Q1 y → T y ≡ true) → ((y : State) → T y ≡ false → Q2 y) → ((y : State) → Q2 y → T y ≡ false)
      → Says reading fields c env k (fs ++ gs) e (Free reading fields) (λ w. is_true w one ≡ T (st reading fields w env))
  truth_says fs d gs e Q1 Q2 then_so else_so so1 so1' so2 so2' =
      let p = then_so.rises in
      let q = else_so.rises in
      let n = length k.sorts in
      let hs = scope_later c (suc c) k (omega arith) h in
      let bs = env_later fields c (suc c) n n (omega arith) (omega arith) env b in
      record {
        rises = omega arith;
        below = below_facts_append e fs gs (facts_later d e q fs then_so.below) else_so.below;
        sound = λ u shares m xs i. by_case u shares m xs i (is_true (at u xs) one) refl;
        complete = λ u shares f w.
            let i = interpret c u k (λ xs. number_of (T (st reading fields (at u xs) env))) h f in
            let o = i.to in
            let shares_o = shares_later reading c u o i.agrees shares in
            let finite_o = finite_later c k h u o i.agrees f in
            let there : (xs : List ℤ) → Inside o k xs → is_true (at o xs) one ≡ T (st reading fields (at o xs) env) =
            λ xs j.
            let y = same_state fields c n (at u xs) (at o xs) (agree_at c k h u o xs i.agrees j.0) env b in
            one_is (T (st reading fields (at o xs) env)) (value (at o xs) (symbol_in k c)) (i.is xs (inside_later c k h o u xs (agree_back c 0 u o i.agrees) j) ∙ ap (λ z. number_of (T z)) y) in
            let first = then_so.complete o shares_o (finite_narrowed o k (negation one) finite_o)
            (λ xs j. let r = inside_narrowed o k (negation one) xs j in so1 (st reading fields (at o xs) env) (sym (there xs r.0) ∙ not_false (is_true (at o xs) one) r.1)) in
            let v = first.to in
            let there_v : (xs : List ℤ) → Inside v k xs → is_true (at v xs) one ≡ T (st reading fields (at v xs) env) =
            λ xs j.
            let j' = inside_later (suc c) k hs v o xs (agree_back (suc c) 0 o v first.agrees) j in
            let a = agree_at (suc c) k hs o v xs first.agrees j.0 in
            let y = same_state fields (suc c) n (at o xs) (at v xs) a env bs in
            ap (λ z. int_eq z (pos 1)) (sym (same_value (suc c) n (at o xs) (at v xs) a (symbol_in k c) (symbol_below c k h))) ∙ there xs j' ∙ ap T y in
            let second = else_so.complete v (shares_later reading (suc c) o v first.agrees shares_o) (finite_narrowed v k one (finite_later (suc c) k hs o v first.agrees finite_o))
            (λ xs j. let r = inside_narrowed v k one xs j in so2 (st reading fields (at v xs) env) (sym (there_v xs r.0) ∙ r.1)) in
            record {
              to = second.to;
              agrees = agree_on c (suc c) u o second.to (omega arith) i.agrees (agree_on (suc c) d o v second.to p first.agrees second.agrees);
              met = met_append second.to fs gs (met_later d v second.to second.agrees fs then_so.below first.met) second.met;
            };
      }
    where
      by_case : (u : Structure) → Shares reading u → AreMet u (fs ++ gs) → (xs : List ℤ) → Inside u k xs → (t : Bool) → is_true (at u xs) one ≡ t → is_true (at u xs) one ≡ T (st reading fields (at u xs) env)
      by_case u shares m xs i true t = t ∙ sym (so1' (st reading fields (at u xs) env) (then_so.sound u shares (met_front u fs gs m) xs (narrowed_inside u k (negation one) xs i (ap not t))))
      by_case u shares m xs i false t = t ∙ sym (so2' (st reading fields (at u xs) env) (else_so.sound u shares (met_back u fs gs m) xs (narrowed_inside u k one xs i t)))
