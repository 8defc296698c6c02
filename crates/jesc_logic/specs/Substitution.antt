-- Terms in the place of a fact's variables. Variable k is the symbol 32 + k without arguments.
use Rattle.std.specs.Prelude.{◌≡◌, ◌-◌, nat_le, List, map, slice_get, unwrap_or, if◌then◌else◌}
use Rattle.jesc_logic.specs.declared.terms.TermId.{TermId}
use Rattle.jesc_logic.specs.declared.formula.Formula.{Formula}
use Rattle.jesc_logic.specs.Terms.{Term, number, constant, unary, binary, ternary, term_at, IsIn}
use Rattle.jesc_logic.specs.Claims.{Claim, shape, over, Each}

abbrev pub put : List Term → Term → Term
put args (number n) = number n
put args (constant symbol) = if nat_le 32 symbol then unwrap_or (slice_get args (symbol - 32)) (constant symbol) else constant symbol
put args (unary symbol a) = unary symbol (put args a)
put args (binary symbol a b) = binary symbol (put args a) (put args b)
put args (ternary symbol a b c) = ternary symbol (put args a) (put args b) (put args c)

-- the terms of numbers
abbrev pub terms_at : List Term → List TermId → List Term
terms_at terms ids = map (term_at terms) ids

-- the form g over new terms says what the form f over old terms says, with the arguments in the place of the variables
pub record Puts (old new : List Term) (args : List TermId) (f g : Claim TermId) : Type 0 where
  pub there : Each (IsIn new) g
  pub says : over (term_at new) g ≡ over (put (terms_at old args)) (over (term_at old) f)

abbrev pub IsInstance : List Term → List Term → List TermId → Formula → Formula → Type 0
IsInstance old new args f g = Puts old new args (shape f) (shape g)
