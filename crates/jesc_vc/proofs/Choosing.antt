-- Symbols that are a choice between two terms, and what is said of each or of some number of a range.
use Rattle.std.proofs.Common.{◌≡◌, ℕ, suc, ◌<◌, Bool, true, false, ◌&&◌, ◌||◌, List, [], ◌∷◌, ◌++◌, length, refl, sym, ◌∙◌, subst, arith, if◌then◌else◌}
use Rattle.std.specs.Prelude.{ℤ, pos, ◌≤ℤ◌, int_le, nat_eq, not}
use Rattle.std.specs.Ordering.{int_eq}
use Rattle.std.proofs.lemmas.Int.{ints}
use Rattle.std.proofs.lemmas.Bool.Decides.{nat_tests, Decides-int_eq}
use Rattle.jesc_logic.specs.declared.fact.Sort.{Sort}
use Rattle.jesc_logic.specs.Terms.{Term}
use Rattle.jesc_logic.specs.Claims.{Claim, equal, negation, either, Each}
use Rattle.jesc_logic.specs.Structures.{Structure, value, is_true}
use Rattle.jesc_core.specs.Heaps.{Reading, State, with_variable}
use Rattle.jesc_vc.specs.Facts.{FactTree, IsBelow}
use Rattle.jesc_vc.specs.Environments.{EnvTree, env_with, IsBelowEnv}
use Rattle.jesc_vc.specs.Encodings.{ScopeTree, scoped, symbol_in, choice_facts, within, widened, next_variable, after_code}
use Rattle.jesc_vc.proofs.Readings.{agree_less, agree_back}
use Rattle.jesc_vc.proofs.Below.{same_value, same_truth, met_later, facts_later, below_facts_append, met_append, met_front, met_back, below_later, claim_later}
use Rattle.jesc_vc.proofs.States.{shares_later, same_state, env_later, with_in}
use Rattle.jesc_vc.proofs.Scopes.{at, Inside, IsScope, scope_later, agree_at, inside_later, finite_later, symbol_below, interpret, met_scoped, scoped_met, scoped_below}
use Rattle.jesc_vc.proofs.Widening.{coded, code_rises, inside_wide, wide_inside, finite_wide, wide_state}
use Rattle.jesc_vc.proofs.Saying.{agree_on, st, Says, Free, later_states}

equal_so : (a b : ℤ) → a ≡ b → int_eq a b ≡ true
equal_so a b e = let d = Decides-int_eq a b in d.1 e

so_equal : (a b : ℤ) → int_eq a b ≡ true → a ≡ b
so_equal a b e = let d = Decides-int_eq a b in d.0 e

choice_true : (f : Bool) (s a b : ℤ) → s ≡ (if f then a else b) → (not f || int_eq s a ≡ true) × (f || int_eq s b ≡ true)
choice_true true s a b e = (equal_so s a e, refl)
choice_true false s a b e = (refl, equal_so s b e)

true_choice : (f : Bool) (s a b : ℤ) → not f || int_eq s a ≡ true → f || int_eq s b ≡ true → s ≡ (if f then a else b)
true_choice true s a b e d = so_equal s a e
true_choice false s a b e d = so_equal s b d

le_from : (a b : ℤ) → int_le a b ≡ true → a ≤ℤ b
le_from a b e = grind (arith, ints)

from_le : (a b : ℤ) → a ≤ℤ b → int_le a b ≡ true
from_le a b e = grind (arith, ints)

-- the values that count can be told
inside_test : Structure → ScopeTree → List ℤ → Bool
inside_test s k xs = nat_eq (length xs) (length k.sorts) && not (is_true (at s xs) k.guard)

and_parts : (a b : Bool) → a && b ≡ true → (a ≡ true) × (b ≡ true)
and_parts true b e = (refl, e)
and_parts false b e = cc

not_true : (b : Bool) → not b ≡ true → b ≡ false
not_true true e = cc
not_true false e = refl

test_inside : (s : Structure) (k : ScopeTree) (xs : List ℤ) → inside_test s k xs ≡ true → Inside s k xs
unfolding inside_test
test_inside s k xs e =
    let p = and_parts (nat_eq (length xs) (length k.sorts)) (not (is_true (at s xs) k.guard)) e in
    (grind (arith, nat_tests), not_true (is_true (at s xs) k.guard) p.1)

inside_so : (s : Structure) (k : ScopeTree) (xs : List ℤ) → Inside s k xs → inside_test s k xs ≡ true
unfolding inside_test
inside_so s k xs (l, e) = let t : nat_eq (length xs) (length k.sorts) ≡ true = grind (arith, nat_tests) in λ i. t i && not (e i)

-- a number for each of the values that count
pub record Picks (s : Structure) (k : ScopeTree) (R : List ℤ → ℤ → Type 0) : Type 0 where
  pub worth : List ℤ → ℤ
  pub is : (xs : List ℤ) → Inside s k xs → R xs (worth xs)

module _ (s : Structure) (k : ScopeTree) (R : List ℤ → ℤ → Type 0) (h : (xs : List ℤ) → Inside s k xs → (v : ℤ) × R xs v) where
  pick : (xs : List ℤ) (b : Bool) → inside_test s k xs ≡ b → ℤ
  pick xs true e = let w = h xs (test_inside s k xs e) in w.0
  pick xs false e = pos 0

  pick_is : (xs : List ℤ) (b : Bool) (e : inside_test s k xs ≡ b) → Inside s k xs → R xs (pick xs b e)
  unfolding pick
  pick_is xs true e i = let w = h xs (test_inside s k xs e) in w.1
  pick_is xs false e i = let f : true ≡ false = sym (inside_so s k xs i) ∙ e in cc

  pub picks : Picks s k R
  picks = record { worth = λ xs. pick xs (inside_test s k xs) refl; is = λ xs i. pick_is xs (inside_test s k xs) refl i }

module _ (reading : Reading) (fields : ℕ) (c : ℕ) (env : EnvTree) (k : ScopeTree) (h : IsScope c k) (b : IsBelowEnv fields c (length k.sorts) env) where
  -- a symbol that is the first term where the formula is true, and else the second
  pub choosing : (fs : List FactTree) (d : ℕ) (f : Claim Term) (x y : Term) (Q : State → Type 0) (P : Structure → Type 0) → Says reading fields c env k fs d Q P
      → Each (IsBelow d (length k.sorts)) f → IsBelow d (length k.sorts) x → IsBelow d (length k.sorts) y
      → Says reading fields c env k (fs ++ choice_facts k f (symbol_in k d) x y) (suc d) Q (λ w. P w × (value w (symbol_in k d) ≡ (if is_true w f then value w x else value w y)))
  choosing fs d f x y Q P s fb xb yb =
      let p = s.rises in
      let hd = scope_later c d k p h in
      let n = length k.sorts in
      let sb = symbol_below d k hd in
      let fb' = claim_later d (suc d) n n (omega arith) (omega arith) f fb in
      let xb' = below_later d (suc d) n n (omega arith) (omega arith) x xb in
      let yb' = below_later d (suc d) n n (omega arith) (omega arith) y yb in
      let hs = scope_later c (suc d) k (omega arith) h in
      record {
        rises = omega arith;
        below = below_facts_append (suc d) fs (choice_facts k f (symbol_in k d) x y) (facts_later d (suc d) (omega arith) fs s.below)
            (scoped_below (suc d) k (either (negation f) (equal (symbol_in k d) x)) hs (fb', (sb, xb')), (scoped_below (suc d) k (either f (equal (symbol_in k d) y)) hs (fb', (sb, yb')), tt));
        sound = λ u r m xs i.
            let ms = met_back u fs (choice_facts k f (symbol_in k d) x y) m in
            let m' = ms.1 in (
              s.sound u r (met_front u fs (choice_facts k f (symbol_in k d) x y) m) xs i,
              true_choice (is_true (at u xs) f) (value (at u xs) (symbol_in k d)) (value (at u xs) x) (value (at u xs) y)
                  (met_scoped u k (either (negation f) (equal (symbol_in k d) x)) ms.0 xs i) (met_scoped u k (either f (equal (symbol_in k d) y)) m'.0 xs i),
            );
        complete = λ u r g w.
            let first = s.complete u r g w in
            let v = first.to in
            let finite = finite_later c k h u v first.agrees g in
            let i = interpret d v k (λ xs. if is_true (at v xs) f then value (at v xs) x else value (at v xs) y) hd finite in
            let back = agree_back d 0 v i.to i.agrees in
            let there : (xs : List ℤ) → Inside i.to k xs → value (at i.to xs) (symbol_in k d) ≡ (if is_true (at i.to xs) f then value (at i.to xs) x else value (at i.to xs) y) =
            λ xs j.
            let a = agree_at d k hd v i.to xs i.agrees j.0 in
            i.is xs (inside_later d k hd i.to v xs back j)
            ∙ (λ t. if same_truth d n (at v xs) (at i.to xs) a f fb t then same_value d n (at v xs) (at i.to xs) a x xb t else same_value d n (at v xs) (at i.to xs) a y yb t) in
            record {
              to = i.to;
              agrees = agree_on c d u v i.to p first.agrees i.agrees;
              met = met_append i.to fs (choice_facts k f (symbol_in k d) x y) (met_later d v i.to i.agrees fs s.below first.met) (
                scoped_met i.to k (either (negation f) (equal (symbol_in k d) x)) (λ xs j. let q = choice_true (is_true (at i.to xs) f) (value (at i.to xs) (symbol_in k d)) (value (at i.to xs) x) (value (at i.to xs) y) (there xs j) in q.0),
                (scoped_met i.to k (either f (equal (symbol_in k d) y)) (λ xs j. let q = choice_true (is_true (at i.to xs) f) (value (at i.to xs) (symbol_in k d)) (value (at i.to xs) x) (value (at i.to xs) y) (there xs j) in q.1), tt),
              );
            };
      }

  -- ---- ranges: their bounds in a state, and what is said of their numbers

  module _ (lo hi : State → ℤ) (x : ℕ) (B : State → Type 0) where
    abbrev pub ForEach : State → Type 0
    ForEach y = (v : ℤ) → lo y ≤ℤ v → v ≤ℤ hi y → B (with_variable y x v)

    abbrev pub ForSome : State → Type 0
    ForSome y = (v : ℤ) × (lo y ≤ℤ v) × (v ≤ℤ hi y) × B (with_variable y x v)

    abbrev IsPicked : State → ℤ → Type 0
    IsPicked y v = (lo y ≤ℤ v) × (v ≤ℤ hi y) × B (with_variable y x v)

    abbrev pub IsRead : Term → Term → Structure → Type 0
    IsRead low high w = (value w low ≡ lo (st reading fields w env)) × (value w high ≡ hi (st reading fields w env))

    -- the body said of one more variable
    pub for_each_says : (fs : List FactTree) (d : ℕ) (sort : Sort) (low high : Term) (gs : List FactTree) (e : ℕ) → length k.sorts < 32
        → Says reading fields c env k fs d (Free reading fields) (IsRead low high) → IsBelow d (length k.sorts) low → IsBelow d (length k.sorts) high
        → Says reading fields (after_code k d) (env_with env x (next_variable k)) (widened k sort low high d) gs e B (λ w. B (st reading fields w (env_with env x (next_variable k))))
        → Says reading fields c env k (fs ++ gs) e ForEach (λ w. ForEach (st reading fields w env))
    for_each_says fs d sort low high gs e short s lb hb t =
        let p = s.rises in
        let q = t.rises in
        let hd = scope_later c d k p h in
        let bd = env_later fields c d (length k.sorts) (length k.sorts) p (omega arith) env b in
        let r = code_rises d k in
        record {
          rises = omega arith;
          below = below_facts_append e fs gs (facts_later d e (omega arith) fs s.below) t.below;
          sound = λ u shares m xs i v above below.
              let read = s.sound u shares (met_front u fs gs m) xs i in
              let wide = wide_inside d u k sort low high hd lb hb short xs v record { inside = i; above = subst (λ z. z ≤ℤ v) (sym read.0) above; below = subst (λ z. v ≤ℤ z) (sym read.1) below } in
              subst B (wide_state d u k sort low high hd lb hb short fields env x xs v i.0 bd) (t.sound u shares (met_back u fs gs m) (xs ++ v ∷ []) wide);
          complete = λ u shares f w.
              let first = s.complete u shares f (λ xs i. tt) in
              let a = first.to in
              let shares_a = shares_later reading c u a first.agrees shares in
              let code = coded d a k hd (finite_later c k h u a first.agrees f) in
              let o = code.to in
              let shares_o = shares_later reading d a o code.agrees shares_a in
              let agrees_o = agree_on c d u a o p first.agrees code.agrees in
              let met_o = met_later d a o code.agrees fs s.below first.met in
              let second = t.complete o shares_o (finite_wide d o k sort low high hd lb hb short code.finite)
              (λ zs i.
              let z = inside_wide d o k sort low high hd lb hb short zs i in
              let g = z.wide in
              let j = g.inside in
              let read = s.sound o shares_o met_o z.front j in
              subst (λ ys. B (st reading fields (at o ys) (env_with env x (next_variable k)))) (sym z.is)
              (subst B (sym (wide_state d o k sort low high hd lb hb short fields env x z.front z.last j.0 bd))
              (later_states reading fields c env k ForEach u o h b agrees_o w z.front j z.last (subst (λ y. y ≤ℤ z.last) read.0 g.above) (subst (λ y. z.last ≤ℤ y) read.1 g.below)))) in
              record {
                to = second.to;
                agrees = agree_on c d u o second.to p agrees_o (agree_less d (after_code k d) 0 0 o second.to r (omega arith) second.agrees);
                met = met_append second.to fs gs (met_later d o second.to (agree_less d (after_code k d) 0 0 o second.to r (omega arith) second.agrees) fs s.below met_o) second.met;
              };
        }

    -- the body said of a symbol that is from the low to the high number
    pub for_some_says : (fs : List FactTree) (d : ℕ) (low high : Term) (gs : List FactTree) (e : ℕ)
        → Says reading fields c env k fs d (Free reading fields) (IsRead low high) → IsBelow d (length k.sorts) low → IsBelow d (length k.sorts) high
        → Says reading fields (suc d) (env_with env x (symbol_in k d)) k gs e B (λ w. B (st reading fields w (env_with env x (symbol_in k d))))
        → Says reading fields c env k ((fs ++ scoped k (within low (symbol_in k d) high) ∷ []) ++ gs) e ForSome (λ w. ForSome (st reading fields w env))
    for_some_says fs d low high gs e s lb hb t =
        let p = s.rises in
        let q = t.rises in
        let n = length k.sorts in
        let sym' = symbol_in k d in
        let fact = within low sym' high in
        let hd = scope_later c d k p h in
        let hs = scope_later c (suc d) k (omega arith) h in
        let sb = symbol_below d k hd in
        let lb' = below_later d (suc d) n n (omega arith) (omega arith) low lb in
        let hb' = below_later d (suc d) n n (omega arith) (omega arith) high hb in
        let fact_below = scoped_below (suc d) k fact hs ((lb', sb), (sb, hb')) in
        let front = fs ++ scoped k fact ∷ [] in
        let front_below = below_facts_append (suc d) fs (scoped k fact ∷ []) (facts_later d (suc d) (omega arith) fs s.below) (fact_below, tt) in
        record {
          rises = omega arith;
          below = below_facts_append e front gs (facts_later (suc d) e q front front_below) t.below;
          sound = λ u shares m xs i.
              let mf = met_front u front gs m in
              let read = s.sound u shares (met_front u fs (scoped k fact ∷ []) mf) xs i in
              let mb = met_back u fs (scoped k fact ∷ []) mf in
              let both = and_parts (int_le (value (at u xs) low) (value (at u xs) sym')) (int_le (value (at u xs) sym') (value (at u xs) high)) (met_scoped u k fact mb.0 xs i) in (
                value (at u xs) sym',
                subst (λ z. z ≤ℤ value (at u xs) sym') read.0 (le_from (value (at u xs) low) (value (at u xs) sym') both.0),
                subst (λ z. value (at u xs) sym' ≤ℤ z) read.1 (le_from (value (at u xs) sym') (value (at u xs) high) both.1),
                subst B (with_in fields (at u xs) env x sym') (t.sound u shares (met_back u front gs m) xs i),
              );
          complete = λ u shares f w.
              let first = s.complete u shares f (λ xs i. tt) in
              let a = first.to in
              let finite_a = finite_later c k h u a first.agrees f in
              let asked = later_states reading fields c env k ForSome u a h b first.agrees w in
              let numbers = picks a k (λ xs v. IsPicked (st reading fields (at a xs) env) v) (λ xs i. let y = asked xs i in (y.0, (y.1, y.2, y.3))) in
              let i = interpret d a k numbers.worth hd finite_a in
              let o = i.to in
              let shares_o = shares_later reading d a o i.agrees (shares_later reading c u a first.agrees shares) in
              let agrees_o = agree_on c d u a o p first.agrees i.agrees in
              let met_o = met_later d a o i.agrees fs s.below first.met in
              let earlier : (xs : List ℤ) → Inside o k xs → Inside a k xs = λ xs j. inside_later d k hd o a xs (agree_back d 0 a o i.agrees) j in
              let picked : (xs : List ℤ) → Inside o k xs → IsPicked (st reading fields (at o xs) env) (value (at o xs) sym') =
              λ xs j.
              let e = i.is xs (earlier xs j) in
              let y = same_state fields d n (at a xs) (at o xs) (agree_at d k hd a o xs i.agrees j.0) env (env_later fields c d n n p (omega arith) env b) in
              subst (λ v. IsPicked (st reading fields (at o xs) env) v) (sym e) (subst (λ z. IsPicked z (numbers.worth xs)) y (numbers.is xs (earlier xs j))) in
              let met_front_o = met_append o fs (scoped k fact ∷ []) met_o (
                scoped_met o k fact (λ xs j.
                    let read = s.sound o shares_o met_o xs j in
                    let y = picked xs j in
                    λ t. from_le (value (at o xs) low) (value (at o xs) sym') (subst (λ z. z ≤ℤ value (at o xs) sym') (sym read.0) y.0) t
                    && from_le (value (at o xs) sym') (value (at o xs) high) (subst (λ z. value (at o xs) sym' ≤ℤ z) (sym read.1) y.1) t),
                tt,
              ) in
              let second = t.complete o shares_o (finite_later d k hd a o i.agrees finite_a) (λ xs j. let y = picked xs j in subst B (sym (with_in fields (at o xs) env x sym')) y.2) in
              record {
                to = second.to;
                agrees = agree_on c (suc d) u o second.to (omega arith) agrees_o second.agrees;
                met = met_append second.to front gs (met_later (suc d) o second.to second.agrees front front_below met_front_o) second.met;
              };
        }
