-- The node over a list of arguments stands for the symbol applied to their terms.
use Rattle.std.proofs.Common.{◌≡◌, ℕ, ◌≤◌, List, [], ◌∷◌, length, map, refl, arith}
use Rattle.std.specs.Prelude.{All}
use Rattle.std.proofs.lemmas.List.Elements.{All-head, All-tail}
use Rattle.jesc_logic.specs.declared.terms.TermId.{TermId}
use Rattle.jesc_logic.specs.Terms.{Term, applied, term_at, node_term, IsIn, IsBelow}
use Rattle.jesc_logic.specs.Making.{node_over}

pub applied_to : (terms : List Term) (symbol : ℕ) (args : List TermId) → length args ≤ 3 → node_term terms (node_over symbol args) ≡ applied symbol (map (term_at terms) args)
applied_to terms symbol [] h = refl
applied_to terms symbol (a ∷ []) h = refl
applied_to terms symbol (a ∷ b ∷ []) h = refl
applied_to terms symbol (a ∷ b ∷ c ∷ []) h = refl
applied_to terms symbol (a ∷ b ∷ c ∷ d ∷ rest) h = absurd (omega arith)

pub below_over : (terms : List Term) (symbol : ℕ) (args : List TermId) → length args ≤ 3 → All (IsIn terms) args → IsBelow (length terms) (node_over symbol args)
below_over terms symbol [] h all = (refl, refl, refl)
below_over terms symbol (a ∷ []) h all = (All-head (IsIn terms) a [] all, refl, refl)
below_over terms symbol (a ∷ b ∷ []) h all =
    let rest = All-tail (IsIn terms) a (b ∷ []) all in
    (All-head (IsIn terms) a (b ∷ []) all, All-head (IsIn terms) b [] rest, refl)
below_over terms symbol (a ∷ b ∷ c ∷ []) h all =
    let rest = All-tail (IsIn terms) a (b ∷ c ∷ []) all in
    (All-head (IsIn terms) a (b ∷ c ∷ []) all, All-head (IsIn terms) b (c ∷ []) rest, All-head (IsIn terms) c [] (All-tail (IsIn terms) b (c ∷ []) rest))
below_over terms symbol (a ∷ b ∷ c ∷ d ∷ rest) h all = absurd (omega arith)
