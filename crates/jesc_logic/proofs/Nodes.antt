-- The term of a node: it doesn't change where its parts' terms don't, and equal terms come from equal nodes.
use Rattle.std.proofs.Common.{◌≡◌, ℕ, zero, suc, ◌<◌, ◌≤◌, pos, List, length, slice_get, unwrap_or, Some, refl, sym, ap, ◌∙◌, arith}
use Rattle.jesc_logic.specs.declared.terms.TermId.{TermId}
use Rattle.jesc_logic.specs.declared.terms.Node.{Node}
use Rattle.jesc_logic.specs.declared.terms.Node.TheVariants.{Num, App}
use Rattle.jesc_logic.specs.Terms.{Term, number, unary, binary, ternary, term_at, node_term, IsBelow, AreApart}
use Rattle.jesc_logic.proofs.Lists.{there}

pub same_term : (old new : List Term) (n : ℕ) → ((i : ℕ) → i < n → slice_get new i ≡ slice_get old i) → (node : Node) → IsBelow n node → node_term new node ≡ node_term old node
same_term old new n agree (Num m) h = refl
same_term old new n agree (App symbol zero a b c) h = refl
same_term old new n agree (App symbol (suc zero) a b c) h = λ i. unary symbol (unwrap_or (agree a.0 h.0 i) (number (pos 0)))
same_term old new n agree (App symbol (suc (suc zero)) a b c) h = λ i. binary symbol (unwrap_or (agree a.0 h.0 i) (number (pos 0))) (unwrap_or (agree b.0 h.1 i) (number (pos 0)))
same_term old new n agree (App symbol (suc (suc (suc zero))) a b c) h = λ i. ternary symbol (unwrap_or (agree a.0 h.0 i) (number (pos 0))) (unwrap_or (agree b.0 h.1 i) (number (pos 0))) (unwrap_or (agree c.0 h.2 i) (number (pos 0)))
same_term old new n agree (App symbol (suc (suc (suc (suc k)))) a b c) h = absurd h

pub widen : (n m : ℕ) (node : Node) → n ≤ m → IsBelow n node → IsBelow m node
widen n m (Num x) le h = tt
widen n m (App symbol zero a b c) le h = h
widen n m (App symbol (suc zero) a b c) le h = (omega (arith, h.0), h.1, h.2)
widen n m (App symbol (suc (suc zero)) a b c) le h = (omega (arith, h.0), omega (arith, h.1), h.2)
widen n m (App symbol (suc (suc (suc zero))) a b c) le h = (omega (arith, h.0), omega (arith, h.1), omega (arith, h.2))
widen n m (App symbol (suc (suc (suc (suc k)))) a b c) le h = absurd h

pub same_id : (a b : TermId) → a.0 ≡ b.0 → a ≡ b
same_id a b e = λ i. record { 0 = e i }

unused : (a b : TermId) → a.0 ≡ 0 → b.0 ≡ 0 → a ≡ b
unused a b p q = same_id a b (p ∙ sym q)

module _ (terms : List Term) (t : AreApart terms) where
  pub same_part : (a b : TermId) → a.0 < length terms → b.0 < length terms → term_at terms a ≡ term_at terms b → a ≡ b
  same_part a b p q e =
      same_id a b (t.apart a.0 b.0 (term_at terms b) (there terms a.0 (number (pos 0)) p ∙ ap Some e) (there terms b.0 (number (pos 0)) q))

  abbrev Same : Node → Node → Type 0
  Same m n = IsBelow (length terms) m → IsBelow (length terms) n → node_term terms m ≡ node_term terms n → m ≡ n

  pub same_node : (m n : Node) → Same m n
  same_node (Num x) (Num y) h k e = cc
  same_node (App s zero a b c) (App s' zero a' b' c') h k e =
      let es : s ≡ s' = cc in
      λ i. App (es i) zero (unused a a' h.0 k.0 i) (unused b b' h.1 k.1 i) (unused c c' h.2 k.2 i)
  same_node (App s (suc zero) a b c) (App s' (suc zero) a' b' c') h k e =
      let es : s ≡ s' = cc in
      let ea : term_at terms a ≡ term_at terms a' = cc in
      λ i. App (es i) (suc zero) (same_part a a' h.0 k.0 ea i) (unused b b' h.1 k.1 i) (unused c c' h.2 k.2 i)
  same_node (App s (suc (suc zero)) a b c) (App s' (suc (suc zero)) a' b' c') h k e =
      let es : s ≡ s' = cc in
      let ea : term_at terms a ≡ term_at terms a' = cc in
      let eb : term_at terms b ≡ term_at terms b' = cc in
      λ i. App (es i) (suc (suc zero)) (same_part a a' h.0 k.0 ea i) (same_part b b' h.1 k.1 eb i) (unused c c' h.2 k.2 i)
  same_node (App s (suc (suc (suc zero))) a b c) (App s' (suc (suc (suc zero))) a' b' c') h k e =
      let es : s ≡ s' = cc in
      let ea : term_at terms a ≡ term_at terms a' = cc in
      let eb : term_at terms b ≡ term_at terms b' = cc in
      let ec : term_at terms c ≡ term_at terms c' = cc in
      λ i. App (es i) (suc (suc (suc zero))) (same_part a a' h.0 k.0 ea i) (same_part b b' h.1 k.1 eb i) (same_part c c' h.2 k.2 ec i)
  same_node (App s (suc (suc (suc (suc j)))) a b c) n h k e = absurd h
  same_node m (App s (suc (suc (suc (suc j)))) a b c) h k e = absurd k
  same_node m n h k e = cc
