-- What facts say of states, and how facts made one after another say more.
use Rattle.std.proofs.Common.{◌≡◌, ℕ, ◌≤◌, true, false, List, [], ◌∷◌, ◌++◌, length, subst, arith}
use Rattle.std.specs.Prelude.{ℤ}
use Rattle.jesc_logic.specs.Terms.{Term}
use Rattle.jesc_logic.specs.Claims.{Claim, Each}
use Rattle.jesc_logic.specs.Structures.{Structure, is_true}
use Rattle.jesc_core.specs.Heaps.{Reading, State}
use Rattle.jesc_vc.specs.Facts.{FactTree, AreMet, Agree, IsBelow, AreBelowFacts, Shares}
use Rattle.jesc_vc.specs.Environments.{EnvTree, state_in, IsBelowEnv}
use Rattle.jesc_vc.specs.Encodings.{ScopeTree, scoped, narrowed}
use Rattle.jesc_vc.proofs.Readings.{agree_self, agree_less, agree_then, agree_back}
use Rattle.jesc_vc.proofs.Below.{met_later, facts_later, below_facts_append, met_append, met_front, met_back}
use Rattle.jesc_vc.proofs.States.{shares_later, shares_under, same_state}
use Rattle.jesc_vc.proofs.Scopes.{at, Inside, IsFinite, IsScope, scope_later, agree_at, inside_later, finite_later, met_scoped, scoped_met, scoped_below, inside_narrowed, narrowed_inside, finite_narrowed}

-- a structure that agrees on what was known before meets the facts
pub record Extends (c : ℕ) (facts : List FactTree) (s : Structure) : Type 0 where
  pub to : Structure
  pub agrees : Agree c 0 s to
  pub met : AreMet to facts

pub agree_on : (c d : ℕ) (s t u : Structure) → c ≤ d → Agree c 0 s t → Agree d 0 t u → Agree c 0 s u
agree_on c d s t u p h k = agree_then c 0 s t u h (agree_less c d 0 0 t u p (omega arith) k)

module _ (reading : Reading) (fields : ℕ) where
  abbrev pub st : Structure → EnvTree → State
  st w env = state_in fields w env

  -- Made at c, the facts hold nothing from `next` on. Where they are met, P is so of the values that count. They can be met
  -- where Q is so of the states.
  pub record Says (c : ℕ) (env : EnvTree) (k : ScopeTree) (facts : List FactTree) (next : ℕ) (Q : State → Type 0) (P : Structure → Type 0) : Type 0 where
    pub rises : c ≤ next
    pub below : AreBelowFacts next facts
    pub sound : (s : Structure) → Shares reading s → AreMet s facts → (xs : List ℤ) → Inside s k xs → P (at s xs)
    pub complete : (s : Structure) → Shares reading s → IsFinite s k → ((xs : List ℤ) → Inside s k xs → Q (st (at s xs) env)) → Extends c facts s

  abbrev pub Free : State → Type 0
  Free x = Unit {0}

  -- what holds of all structures needs no fact
  pub without_facts : (c : ℕ) (env : EnvTree) (k : ScopeTree) (Q : State → Type 0) (P : Structure → Type 0) → IsScope c k → ((w : Structure) → Shares reading w → P w) → Says c env k [] c Q P
  without_facts c env k Q P h p = record {
    rises = omega arith;
    below = tt;
    sound = λ s r m xs i. p (at s xs) (shares_under reading s xs (let l = i.0 in let q = h.short in omega arith) r);
    complete = λ s r f q. record { to = s; agrees = agree_self c 0 s; met = tt };
  }

  pub saying_less : (c : ℕ) (env : EnvTree) (k : ScopeTree) (facts : List FactTree) (next : ℕ) (Q Q' : State → Type 0) (P P' : Structure → Type 0) → IsScope c k
      → ((x : State) → Q' x → Q x) → ((w : Structure) → Shares reading w → P w → P' w) → Says c env k facts next Q P → Says c env k facts next Q' P'
  saying_less c env k facts next Q Q' P P' h weaker other s = record {
    rises = s.rises;
    below = s.below;
    sound = λ t r m xs i. other (at t xs) (shares_under reading t xs (let l = i.0 in let q = h.short in omega arith) r) (s.sound t r m xs i);
    complete = λ t r f q. s.complete t r f (λ xs i. weaker (st (at t xs) env) (q xs i));
  }

  -- the states of what counts are the same in a later structure
  pub later_states : (c : ℕ) (env : EnvTree) (k : ScopeTree) (Q : State → Type 0) (s t : Structure) → IsScope c k → IsBelowEnv fields c (length k.sorts) env → Agree c 0 s t
      → ((xs : List ℤ) → Inside s k xs → Q (st (at s xs) env)) → (xs : List ℤ) → Inside t k xs → Q (st (at t xs) env)
  later_states c env k Q s t h b a q xs i =
      let j = inside_later c k h t s xs (agree_back c 0 s t a) i in
      subst Q (same_state fields c (length k.sorts) (at s xs) (at t xs) (agree_at c k h s t xs a i.0) env b) (q xs j)

  module _ (c : ℕ) (env : EnvTree) (k : ScopeTree) (h : IsScope c k) (b : IsBelowEnv fields c (length k.sorts) env) where
    -- facts behind others
    pub pair : (fs : List FactTree) (d : ℕ) (gs : List FactTree) (e : ℕ) (Q1 Q2 : State → Type 0) (P1 P2 : Structure → Type 0) → Says c env k fs d Q1 P1 → Says d env k gs e Q2 P2
        → Says c env k (fs ++ gs) e (λ x. Q1 x × Q2 x) (λ w. P1 w × P2 w)
    pair fs d gs e Q1 Q2 P1 P2 s t =
        let p = s.rises in
        let q = t.rises in
        record {
          rises = omega arith;
          below = below_facts_append e fs gs (facts_later d e q fs s.below) t.below;
          sound = λ u r m xs i. (s.sound u r (met_front u fs gs m) xs i, t.sound u r (met_back u fs gs m) xs i);
          complete = λ u r f w.
              let first = s.complete u r f (λ xs i. let v = w xs i in v.0) in
              let second = t.complete first.to (shares_later reading c u first.to first.agrees r) (finite_later c k h u first.to first.agrees f)
              (later_states c env k Q2 u first.to h b first.agrees (λ xs i. let v = w xs i in v.1)) in
              record {
                to = second.to;
                agrees = agree_on c d u first.to second.to p first.agrees second.agrees;
                met = met_append second.to fs gs (met_later d first.to second.to second.agrees fs s.below first.met) second.met;
              };
        }

    -- one more fact, which says what is so already, or asks for more
    pub stating : (fs : List FactTree) (d : ℕ) (g : Claim Term) (Q Q' : State → Type 0) (P R : Structure → Type 0) → Says c env k fs d Q P → Each (IsBelow d (length k.sorts)) g
        → ((x : State) → Q' x → Q x) → ((w : Structure) → P w → Q' (st w env) → is_true w g ≡ true) → ((w : Structure) → P w → is_true w g ≡ true → R w)
        → Says c env k (fs ++ scoped k g ∷ []) d Q' R
    stating fs d g Q Q' P R s gb weaker so then_so =
        let p = s.rises in
        record {
          rises = p;
          below = below_facts_append d fs (scoped k g ∷ []) s.below (scoped_below d k g (scope_later c d k p h) gb, tt);
          sound = λ u r m xs i. let n = met_back u fs (scoped k g ∷ []) m in then_so (at u xs) (s.sound u r (met_front u fs (scoped k g ∷ []) m) xs i) (met_scoped u k g n.0 xs i);
          complete = λ u r f w.
              let first = s.complete u r f (λ xs i. weaker (st (at u xs) env) (w xs i)) in
              let later = shares_later reading c u first.to first.agrees r in
              record {
                to = first.to;
                agrees = first.agrees;
                met = met_append first.to fs (scoped k g ∷ []) first.met
                    (scoped_met first.to k g (λ xs i. so (at first.to xs) (s.sound first.to later first.met xs i) (later_states c env k Q' u first.to h b first.agrees w xs i)), tt);
              };
        }

    -- facts that are made where a formula is false
    pub branching : (fs : List FactTree) (d : ℕ) (g : Claim Term) (gs : List FactTree) (e : ℕ) (Q1 Q2 Q : State → Type 0) (P1 P2 R : Structure → Type 0)
        → Says c env k fs d Q1 P1 → Says d env (narrowed k g) gs e Q2 P2
        → ((x : State) → Q x → Q1 x) → ((w : Structure) → P1 w → is_true w g ≡ false → Q (st w env) → Q2 (st w env)) → ((w : Structure) → P1 w → (is_true w g ≡ false → P2 w) → R w)
        → Says c env k (fs ++ gs) e Q R
    branching fs d g gs e Q1 Q2 Q P1 P2 R s t weaker so then_so =
        let p = s.rises in
        let q = t.rises in
        record {
          rises = omega arith;
          below = below_facts_append e fs gs (facts_later d e q fs s.below) t.below;
          sound = λ u r m xs i. then_so (at u xs) (s.sound u r (met_front u fs gs m) xs i) (λ n. t.sound u r (met_back u fs gs m) xs (narrowed_inside u k g xs i n));
          complete = λ u r f w.
              let first = s.complete u r f (λ xs i. weaker (st (at u xs) env) (w xs i)) in
              let later = shares_later reading c u first.to first.agrees r in
              let finite = finite_later c k h u first.to first.agrees f in
              let second = t.complete first.to later (finite_narrowed first.to k g finite)
              (λ xs i. let j = inside_narrowed first.to k g xs i in so (at first.to xs) (s.sound first.to later first.met xs j.0) j.1 (later_states c env k Q u first.to h b first.agrees w xs j.0)) in
              record {
                to = second.to;
                agrees = agree_on c d u first.to second.to p first.agrees second.agrees;
                met = met_append second.to fs gs (met_later d first.to second.to second.agrees fs s.below first.met) second.met;
              };
        }
