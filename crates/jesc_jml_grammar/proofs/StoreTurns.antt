-- A step of a store's rule, beside a loop that counts up.
use Rattle.std.proofs.Common.{◌≡◌, ℕ, suc, ◌+◌, ◌-◌, ◌<◌, ◌≤◌, List, Err, refl, arith}
use Rattle.jesc_ast.specs.Lexemes.{Lexeme}
use Rattle.jesc_jml_grammar.specs.declared.fault.Fault.TheVariants.{Long}
use Rattle.jesc_jml_grammar.specs.Steps.{and_then}
use Rattle.jesc_jml_grammar.specs.ClauseFound.{Path}
use Rattle.jesc_jml_grammar.specs.ClauseReading.{store_behind, store_step, after_step}
use Rattle.jesc_jml_grammar.specs.ClauseSeen.{note_rule, stores_left}

module _ (room quantifiers n at : ℕ) (path : Path) (ts : List Lexeme) where
  pub store_goes_on : at < n → stores_left room quantifiers (n - at) path ts
      ≡ and_then (note_rule store_step room quantifiers path ts) (note_rule after_step room quantifiers (stores_left room quantifiers (n - (at + 1))))
  unfolding store_behind
  store_goes_on below = let turn : n - at ≡ suc (n - (at + 1)) = omega arith in rw turn refl

  -- no turn is left
  pub store_ends : n ≤ at → stores_left room quantifiers (n - at) path ts ≡ Err Long
  unfolding store_behind
  store_ends done = let none : n - at ≡ 0 = omega arith in rw none refl
