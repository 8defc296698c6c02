use Rattle.std.proofs.Common.{◌≡◌, ℕ, zero, suc, Bool, true, false, ◌||◌, List, [], ◌∷◌, refl, sym, ap, ◌∙◌, arith}
use Rattle.std.specs.Prelude.{◌==◌}
use Rattle.std.specs.List.{list_any}
use Rattle.std.proofs.lemmas.Bool.Decides.{nat_tests}
use Rattle.jesc_clauses.specs.declared.clause.Opaque.{Opaque}
use Rattle.jesc_clauses.specs.Builders.{IsFree}
use Rattle.jesc_clauses.proofs.clausify_formulas.free_symbol.Goals as goal

neither : (a b : Bool) → (a || b) ≡ false → (a ≡ false) × (b ≡ false)
neither true b e = cc
neither false b e = (refl, e)

differ : (a b : ℕ) → (a == b) ≡ false → b ≡ a → ⊥
differ a b e s = grind (arith, nat_tests)

none_has : (opaques : List Opaque) (symbol : ℕ) → list_any (λ (o : Opaque). symbol == o.symbol) opaques ≡ false → IsFree opaques symbol
none_has [] symbol e i o g s = cc
none_has (x ∷ opaques) symbol e zero o g s = differ symbol x.symbol (neither (symbol == x.symbol) (list_any (λ (p : Opaque). symbol == p.symbol) opaques) e).0 (let same : x ≡ o = cc in ap (λ (p : Opaque). p.symbol) same ∙ s)
none_has (x ∷ opaques) symbol e (suc i) o g s = none_has opaques symbol (neither (symbol == x.symbol) (list_any (λ (p : Opaque). symbol == p.symbol) opaques) e).1 i o g s

pub returns : goal.returns
returns c = none_has c.args.opaques.now c.loop-symbol.symbol (sym c.has_symbol.ensures ∙ c.loop-symbol-test.false)
