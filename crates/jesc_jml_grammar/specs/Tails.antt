-- The ends of a quantifier's rules, behind an expression that was read.
use Rattle.std.specs.Prelude.{ℕ, Bool, ◌-◌}
use Rattle.jesc_ast.specs.Lexemes.{Lexeme, join}
use Rattle.jesc_jml_grammar.specs.declared.mark.Mark.TheVariants as m
use Rattle.jesc_jml_grammar.specs.Steps.{Parser, ◌>>=◌, ◌>>◌, pure, expect}
use Rattle.jesc_jml_grammar.specs.Reading as rules
use Rattle.jesc_jml_grammar.specs.Reading.{Parsed, Bounds, Start, at_first, quantifier_of}

module _ (note : Bool) (limit room : ℕ) (inner : ℕ → ℕ → Start → Parser Parsed) (quantifiers : ℕ) where
  -- behind the lower bound and the sign between the two
  abbrev pub upper_bound : Lexeme → Parsed → Bool → Parser Bounds
  upper_bound x low low_strict = do
    rules.same_name note limit room inner quantifiers x
    high_strict ← rules.bound_sign note limit room inner quantifiers
    high ← inner (quantifiers - 1) 8 at_first
    pure (record { low = low; low_strict = low_strict; high = high; high_strict = high_strict })

  -- behind the bounds
  abbrev pub quantified_body : Lexeme → Bool → Lexeme → Bounds → Parser Parsed
  quantified_body p all x b = do
    expect note m.Semicolon
    e ← inner (quantifiers - 1) 1 at_first
    q ← expect note m.RightParen
    pure (quantifier_of (join p.span q.span) all x b e)
