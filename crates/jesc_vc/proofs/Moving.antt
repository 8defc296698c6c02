-- What a step makes of what is known: the facts that it adds say what the step does to the state.
use Rattle.std.proofs.Common.{◌≡◌, ℕ, ◌≤◌, Bool, true, false, List, [], ◌∷◌, ◌++◌, refl, sym, ap, ◌∙◌, subst, inl, inr, arith, append_assoc}
use Rattle.std.specs.Prelude.{ℤ, nat_eq, if◌then◌else◌}
use Rattle.jesc_logic.specs.Terms.{Term}
use Rattle.jesc_logic.specs.Structures.{Structure, value}
use Rattle.jesc_core.specs.Trees.{TermTree, FormulaTree}
use Rattle.jesc_core.specs.Fields.{fields_of_term, fields_of_formula}
use Rattle.jesc_core.specs.Proper.{IsProperTerm, IsProperFormula}
use Rattle.jesc_core.specs.Heaps.{Reading, State, with_variable, with_kept, with_natural}
use Rattle.jesc_core.specs.Values as core
use Rattle.jesc_vc.specs.Facts.{FactTree, AreMet, Agree, IsBelow, AreBelowFacts, Shares, AreShort}
use Rattle.jesc_vc.specs.Environments.{heap_in, state_in, IsBelowHeap, IsBelowEnv}
use Rattle.jesc_vc.specs.Encodings.{Encoded, encode_term, claim_formula}
use Rattle.jesc_vc.specs.Moves.{Known, and_facts, ground, assumed, assigned, kept_so}
use Rattle.jesc_vc.proofs.Readings.{agree_self}
use Rattle.jesc_vc.proofs.Below.{met_later, facts_later, below_facts_append, met_append, met_front, met_back}
use Rattle.jesc_vc.proofs.States.{shares_later, same_state, env_later, with_below, with_in}
use Rattle.jesc_vc.proofs.Entries.{In}
use Rattle.jesc_vc.proofs.Scopes.{at, Inside, IsFinite, IsScope}
use Rattle.jesc_vc.proofs.Saying.{Extends, agree_on, st}
use Rattle.jesc_vc.proofs.Encoded.{encoded_term, claimed_formula}

-- ---- the scope without variables

pub ground_scope : (c : ℕ) → IsScope c ground
ground_scope c = record { short = omega arith; few = omega arith; code = tt; guard = tt }

no_values : (s : Structure) (xs : List ℤ) → Inside s ground xs → xs ≡ []
no_values s [] i = refl
no_values s (x ∷ xs) i = absurd (omega (arith, i.0))

pub ground_finite : (s : Structure) → IsFinite s ground
ground_finite s = record {
  list = [] ∷ [];
  inside = λ xs p. by xs p;
  covers = λ xs i. inl (sym (no_values s xs i));
  apart = λ xs ys i j e. no_values s xs i ∙ sym (no_values s ys j);
}
  where
    by : (xs : List ℤ) → In ([] ∷ []) xs → Inside s ground xs
    by xs (inl e) = subst (Inside s ground) e (refl, refl)
    by xs (inr p) = absurd p

module _ (reading : Reading) (fields : ℕ) where
  abbrev pub state : Structure → Known → State
  state s k = state_in fields s k.env

  -- what is known holds nothing that comes later
  abbrev pub IsKnown : Known → Type 0
  IsKnown k = IsBelowEnv fields k.next 0 k.env

  -- More facts. Where they are met, the structure is as `Means` says, and they can be met where `Before` holds of the state.
  pub record Made (k j : Known) (Before : State → Type 0) (Means : Structure → Type 0) : Type 0 where
    pub more : List FactTree
    pub is : j.facts ≡ k.facts ++ more
    pub rises : k.next ≤ j.next
    pub below : AreBelowFacts j.next more
    pub known : IsKnown j
    pub sound : (s : Structure) → Shares reading s → AreMet s more → Means s
    pub complete : (s : Structure) → Shares reading s → Before (state s k) → Extends k.next more s

  -- the step goes on from states where `Before` holds, to this state
  abbrev pub Moves : Known → Known → (State → Type 0) → (State → State) → Type 0
  Moves k j Before after = Made k j Before (λ s. Before (state s k) × (state s j ≡ after (state s k)))

  abbrev pub Always : State → Type 0
  Always y = Unit {0}

  -- the state of what was known is the same in a structure that agrees on it
  pub known_state : (k : Known) (s t : Structure) → IsKnown k → Agree k.next 0 s t → state s k ≡ state t k
  known_state k s t b a = same_state fields k.next 0 s t a k.env b

  pub made_then : (k i j : Known) (B1 B2 B : State → Type 0) (M1 M2 : Structure → Type 0) → IsKnown k → Made k i B1 M1 → Made i j B2 M2 → ((y : State) → B y → B1 y)
      → ((s : Structure) → Shares reading s → M1 s → B (state s k) → B2 (state s i)) → Made k j B (λ s. M1 s × M2 s)
  made_then k i j B1 B2 B M1 M2 b m n weaker on =
      let p = m.rises in
      let q = n.rises in
      record {
        more = m.more ++ n.more;
        is = n.is ∙ ap (λ fs. fs ++ n.more) m.is ∙ append_assoc k.facts m.more n.more;
        rises = omega arith;
        below = below_facts_append j.next m.more n.more (facts_later i.next j.next q m.more m.below) n.below;
        known = n.known;
        sound = λ s r f. (m.sound s r (met_front s m.more n.more f), n.sound s r (met_back s m.more n.more f));
        complete = λ s r w.
            let first = m.complete s r (weaker (state s k) w) in
            let shares = shares_later reading k.next s first.to first.agrees r in
            let second = n.complete first.to shares (on first.to shares (m.sound first.to shares first.met) (subst B (known_state k s first.to b first.agrees) w)) in
            record {
              to = second.to;
              agrees = agree_on k.next i.next s first.to second.to p first.agrees second.agrees;
              met = met_append second.to m.more n.more (met_later i.next first.to second.to second.agrees m.more m.below first.met) second.met;
            };
      }

  pub made_so : (k j : Known) (B B' : State → Type 0) (M M' : Structure → Type 0) → Made k j B M → ((y : State) → B' y → B y) → ((s : Structure) → Shares reading s → M s → M' s) → Made k j B' M'
  made_so k j B B' M M' m weaker other = record {
    more = m.more;
    is = m.is;
    rises = m.rises;
    below = m.below;
    known = m.known;
    sound = λ s r f. other s r (m.sound s r f);
    complete = λ s r w. m.complete s r (weaker (state s k) w);
  }

  append_nil : {X : Type 0} (xs : List X) → xs ≡ xs ++ []
  append_nil [] = refl
  append_nil (x ∷ xs) = ap (λ ys. x ∷ ys) (append_nil xs)

  -- no fact is needed
  pub made_freely : (k j : Known) (B : State → Type 0) (M : Structure → Type 0) → j.facts ≡ k.facts → k.next ≡ j.next → IsKnown j → ((s : Structure) → Shares reading s → M s) → Made k j B M
  made_freely k j B M e f b means = record {
    more = [];
    is = e ∙ append_nil k.facts;
    rises = omega arith;
    below = tt;
    known = b;
    sound = λ s r m. means s r;
    complete = λ s r w. record { to = s; agrees = agree_self k.next 0 s; met = tt };
  }

  module _ (k : Known) (b : IsKnown k) where
    -- ---- formulas that are assumed

    pub assumed_moves : (f : FormulaTree) (truth : Bool) → IsProperFormula f → fields_of_formula f ≤ fields → AreShort (let m = claim_formula f truth k.env ground k.next in m.facts)
        → Moves k (assumed f truth k) (λ y. core.is_true reading f y ≡ truth) (λ y. y)
    assumed_moves f truth fine few short =
        let m = claim_formula f truth k.env ground k.next in
        let s = claimed_formula reading fields f truth k.env ground k.next fine few (ground_scope k.next) b short in
        record {
          more = m.facts;
          is = refl;
          rises = s.rises;
          below = s.below;
          known = env_later fields k.next m.next 0 0 s.rises (omega arith) k.env b;
          sound = λ t r f'. (s.sound t r f' [] (refl, refl), refl);
          complete = λ t r w. s.complete t r (ground_finite t) (λ xs i. subst (λ ys. core.is_true reading f (st reading fields (at t ys) k.env) ≡ truth) (sym (no_values t xs i)) w);
        }

    -- ---- terms

    pub record MadeTerm (t : TermTree) (m : Encoded Term) : Type 0 where
      pub made : Made k (and_facts k m.facts k.env m.next) Always (λ s. value s m.out ≡ core.value reading t (state s k))
      pub out : IsBelow m.next 0 m.out

    pub term_made : (t : TermTree) → IsProperTerm t → fields_of_term t ≤ fields → AreShort (let m = encode_term t k.env ground k.next in m.facts) → MadeTerm t (encode_term t k.env ground k.next)
    term_made t fine few short =
        let m = encode_term t k.env ground k.next in
        let i = encoded_term reading fields t k.env ground k.next fine few (ground_scope k.next) b short in
        let s = i.says in
        record {
          made = record {
            more = m.facts;
            is = refl;
            rises = s.rises;
            below = s.below;
            known = env_later fields k.next m.next 0 0 s.rises (omega arith) k.env b;
            sound = λ u r f. s.sound u r f [] (refl, refl);
            complete = λ u r w. s.complete u r (ground_finite u) (λ xs j. tt);
          };
          out = i.out;
        }

    -- ---- variables and kept heaps

    pub assigned_moves : (x : ℕ) (t : TermTree) → IsProperTerm t → fields_of_term t ≤ fields → AreShort (let m = encode_term t k.env ground k.next in m.facts) → Moves k (assigned x t k) Always (λ y. with_variable y x (core.value reading t y))
    assigned_moves x t fine few short =
        let m = encode_term t k.env ground k.next in
        let i = term_made t fine few short in
        let made = i.made in
        record {
          more = made.more;
          is = made.is;
          rises = made.rises;
          below = made.below;
          known = with_below fields m.next 0 k.env x m.out made.known i.out;
          sound = λ s r f. (tt, with_in fields s k.env x m.out ∙ ap (λ v. with_variable (state s k) x v) (made.sound s r f));
          complete = made.complete;
        }

    pub kept_moves : (n : ℕ) → Moves k (kept_so n k) Always (λ y. with_kept y n)
    kept_moves n = made_freely k (kept_so n k) Always (λ s. Always (state s k) × (state s (kept_so n k) ≡ with_kept (state s k) n)) refl refl
        record { variables = b.variables; heap = b.heap; kept = λ i. kept_below i }
        (λ s r. (tt, λ t. record { variables = (let y = state s k in y.variables); heap = (let y = state s k in y.heap); kept = λ i. kept_value s i t; choice = (let y = state s k in y.choice) }))
      where
        by : (i : ℕ) (u : Bool) → IsBelowHeap fields k.next 0 (if u then (let e = k.env in e.heap) else (let e = k.env in e.kept i))
        by i true = b.heap
        by i false = b.kept i

        kept_below : (i : ℕ) → IsBelowHeap fields k.next 0 (let e = k.env in with_natural e.kept n e.heap i)
        kept_below i = by i (nat_eq i n)

        of_either : (s : Structure) (i : ℕ) (u : Bool) → heap_in fields s (if u then (let e = k.env in e.heap) else (let e = k.env in e.kept i)) ≡ (if u then heap_in fields s (let e = k.env in e.heap) else heap_in fields s (let e = k.env in e.kept i))
        of_either s i true = refl
        of_either s i false = refl

        kept_value : (s : Structure) (i : ℕ) → heap_in fields s (let e = k.env in with_natural e.kept n e.heap i) ≡ (let y = state s k in with_natural y.kept n y.heap i)
        kept_value s i = of_either s i (nat_eq i n)
